use Rattle.std.proofs.Common.{◌≡◌, ◌<◌, ℕ, None, Option, Some, sym, ◌∙◌, ap, subst, arith}
use Rattle.std.specs.Int.{cast_unsigned, w64}
use Rattle.std.proofs.lemmas.Int.{of_z-to_z}
use Rattle.blk_model.specs.Sizes.{signatures}
use Rattle.std.specs.Option.{ForSome}
use Rattle.spec_image.specs.Told.{Told}
use Rattle.spec_format.specs.Sealed.{RecordChecks}
use Rattle.blk_entry.specs.Keys.{IsRecordHead}
use Rattle.blk_handles.specs.declared.open_object.OpenObject.{OpenObject}
use Rattle.blk_io.proofs.Carried.{carried, if_damaged_weaker}
use Rattle.blk_chain.proofs.Heads.{names-parts}
use Rattle.blk_object.specs.Owning.{LoadsWith}
use Rattle.blk_sparse.specs.Parents.{LoadsAsParent}
use Rattle.blk_cache.proofs.Asks.{asked-checks, none-there, opened-stands, opened-there}
use Rattle.blk_cache.proofs.SparseAsks.{early-refused, flagged-parent, found-parent, found-plain, goes-bound, goes-inside, goes-live, nothing-early}
use Rattle.blk_object.proofs.DamageChecks.{handed, head-checked, moved}
use Rattle.blk_cache.proofs.cache.Cache.ask_sparse.Goals as goal

pub returns-in-Some-clause-asked : goal.returns-in-Some-clause-asked
returns-in-Some-clause-asked g c image there state k = early-refused c.args.self.now state image k c.args.handle c.args.offset c.args.count c.in-Some.why (sym c.refuses_range.ensures ∙ c.in-Some.is)

pub unreachable-requires : goal.unreachable-requires
unreachable-requires g c =
    let b = goes-bound c.args.self.now.handles c.args.handle c.args.offset c.args.count (sym c.refuses_range.ensures ∙ c.in_default.is) in
    no-binding (sym b.1 ∙ none-there c.args.self.now.handles c.args.handle c.object.result c.object.ensures.object c.in_default-object.is)
  where
    no-binding : {A : Type 0} {x : A} → ◌≡◌ {A = Option A} (Some x) None → ⊥
    no-binding e = cc

pub read_head-requires-clause-kind : goal.read_head-requires-clause-kind
read_head-requires-clause-kind g c =
    let o = opened-there c.args.self.now.handles c.args.handle c.object.result c.in-Some-object.object c.object.ensures.object c.in-Some-object.is in
    (names-parts c.args.self.now.files c.in-Some-object.object.entry (opened-stands c.args.self.now.files c.args.self.now.handles c.args.self.now.stand c.args.handle c.in-Some-object.object o).1).1.0

pub read_head-requires-clause-stands : goal.read_head-requires-clause-stands
read_head-requires-clause-stands g c =
    let o = opened-there c.args.self.now.handles c.args.handle c.object.result c.in-Some-object.object c.object.ensures.object c.in-Some-object.is in
    (names-parts c.args.self.now.files c.in-Some-object.object.entry (opened-stands c.args.self.now.files c.args.self.now.handles c.args.self.now.stand c.args.handle c.in-Some-object.object o).1).1.1

pub returns-in_err-head-clause-early : goal.returns-in_err-head-clause-early
returns-in_err-head-clause-early g c = nothing-early c.args.self.now.handles c.args.handle c.args.offset c.args.count _ (sym c.refuses_range.ensures ∙ c.in_default.is)

pub returns-in_err-head-clause-damaged : goal.returns-in_err-head-clause-damaged
returns-in_err-head-clause-damaged g c =
    let o = opened-there c.args.self.now.handles c.args.handle c.object.result c.in-Some-object.object c.object.ensures.object c.in-Some-object.is in
    let p = names-parts c.args.self.now.files c.in-Some-object.object.entry (opened-stands c.args.self.now.files c.args.self.now.handles c.args.self.now.stand c.args.handle c.in-Some-object.object o).1 in
    handed c.read_head.result c.from_residual.result c.in_err-head.field-0.0 _ c.args.self.now.files (g.F.Folder.told c.read_head.new.folder)
    (λ damage wrong. moved c.args.self.now.files (g.F.Folder.told c.args.folder.now) (g.F.Folder.told c.read_head.new.folder) damage c.read_head.ensures.reads.stays (head-checked c.args.self.now.files (g.F.Folder.told c.args.folder.now) c.in-Some-object.object.entry damage p.1.0 p.1.1 wrong))
    c.in_err-head.was c.from_residual.ensures.1 c.read_head.ensures.damaged

pub returns-in_err-head-clause-untold : goal.returns-in_err-head-clause-untold
returns-in_err-head-clause-untold g c any =
    let o = opened-there c.args.self.now.handles c.args.handle c.object.result c.in-Some-object.object c.object.ensures.object c.in-Some-object.is in
    carried c.read_head.result c.from_residual.result c.in_err-head.field-0.0 (λ _. (g.F.Folder.told c.args.folder.now).files ≡ None) c.in_err-head.was c.from_residual.ensures.1
    (c.read_head.ensures.untold (λ image there. (any image there).1.files)
    (subst (λ (x : OpenObject). ForSome (g.F.Folder.told c.args.folder.now).files (RecordChecks x.entry)) (sym o.opened) (asked-checks c.args.self.now (g.F.Folder.told c.args.folder.now) c.args.handle o.b o.bound (g.met.F.Folder.are_bytes c.args.folder.now) any)))

pub read_signature-requires-clause-kind : goal.read_signature-requires-clause-kind
read_signature-requires-clause-kind g c =
    let o = opened-there c.args.self.now.handles c.args.handle c.object.result c.in-Some-object.object c.object.ensures.object c.in-Some-object.is in
    (names-parts c.args.self.now.files c.in-Some-object.object.entry (opened-stands c.args.self.now.files c.args.self.now.handles c.args.self.now.stand c.args.handle c.in-Some-object.object o).1).1.0

pub read_signature-requires-clause-stands : goal.read_signature-requires-clause-stands
read_signature-requires-clause-stands g c =
    let o = opened-there c.args.self.now.handles c.args.handle c.object.result c.in-Some-object.object c.object.ensures.object c.in-Some-object.is in
    (names-parts c.args.self.now.files c.in-Some-object.object.entry (opened-stands c.args.self.now.files c.args.self.now.handles c.args.self.now.stand c.args.handle c.in-Some-object.object o).1).1.1

pub returns-in_err-signature-clause-early : goal.returns-in_err-signature-clause-early
returns-in_err-signature-clause-early g c = nothing-early c.args.self.now.handles c.args.handle c.args.offset c.args.count _ (sym c.refuses_range.ensures ∙ c.in_default.is)

pub returns-in_err-signature-clause-untold : goal.returns-in_err-signature-clause-untold
returns-in_err-signature-clause-untold g c any =
    let o = opened-there c.args.self.now.handles c.args.handle c.object.result c.in-Some-object.object c.object.ensures.object c.in-Some-object.is in
    let same = ap (λ (t : Told). t.files) c.in_ok-head.ensures.reads.stays in
    carried c.read_signature.result c.from_residual-in_err-signature.result c.in_err-signature.field-0.0 (λ _. (g.F.Folder.told c.args.folder.now).files ≡ None) c.in_err-signature.was c.from_residual-in_err-signature.ensures.1
    (if_damaged_weaker c.read_signature.result _ _ (λ damage none. sym same ∙ none)
    (c.read_signature.ensures.untold (λ image there. (any image (sym same ∙ there)).1.files)
    (λ image there.
    let at = sym same ∙ there in
    let one = any image at in
    subst (λ (x : OpenObject). LoadsAsParent x.entry image) (sym o.opened)
    (flagged-parent c.args.self.now one.0 image one.1 c.args.handle c.args.offset c.args.count o.b o.bound c.in_ok-head.head (subst (λ (x : OpenObject). IsRecordHead image x.entry c.in_ok-head.head) o.opened (c.in_ok-head.ensures.head image at)) c.if-head-eq-SPARSE.true))))

pub returns-then-head-eq-SPARSE-clause-asked : goal.returns-then-head-eq-SPARSE-clause-asked
returns-then-head-eq-SPARSE-clause-asked g c image there state k =
    let o = opened-there c.args.self.now.handles c.args.handle c.object.result c.in-Some-object.object c.object.ensures.object c.in-Some-object.is in
    let at = ap (λ (t : Told). t.files) c.in_ok-head.ensures.reads.stays ∙ there in
    found-parent c.args.self.now state image k c.args.handle c.args.offset c.args.count o.b o.bound c.in_ok-head.head (subst (λ (x : OpenObject). IsRecordHead image x.entry c.in_ok-head.head) o.opened (c.in_ok-head.ensures.head image there))
    (sym c.refuses_range.ensures ∙ c.in_default.is) (goes-live c.args.self.now.handles c.args.handle c.args.offset c.args.count (sym c.refuses_range.ensures ∙ c.in_default.is) o.b o.bound) c.if-head-eq-SPARSE.true
    _ (ap (λ (x : OpenObject). x.node) o.opened) (ap (λ (x : OpenObject). x.entry) o.opened)
    (λ loaded index w role. c.in_ok-signature.ensures.signature image at loaded index (subst (λ (x : OpenObject). LoadsWith x.entry loaded image) (sym o.opened) w) role ∙ sym (of_z-to_z w64 (cast_unsigned w64 c.in_ok-signature.signature) (let small = c.in_ok-signature.ensures.small in omega (arith, small))))

pub returns-then-head-eq-SPARSE-clause-early : goal.returns-then-head-eq-SPARSE-clause-early
returns-then-head-eq-SPARSE-clause-early g c = nothing-early c.args.self.now.handles c.args.handle c.args.offset c.args.count _ (sym c.refuses_range.ensures ∙ c.in_default.is)

pub returns-then-head-eq-SPARSE-clause-stands : goal.returns-then-head-eq-SPARSE-clause-stands
returns-then-head-eq-SPARSE-clause-stands g c =
    let o = opened-there c.args.self.now.handles c.args.handle c.object.result c.in-Some-object.object c.object.ensures.object c.in-Some-object.is in
    let s = opened-stands c.args.self.now.files c.args.self.now.handles c.args.self.now.stand c.args.handle c.in-Some-object.object o in
    (s.0, (s.1, subst (λ (x : ℕ). x < signatures) (sym (of_z-to_z w64 (cast_unsigned w64 c.in_ok-signature.signature) (let small = c.in_ok-signature.ensures.small in omega (arith, small)))) c.in_ok-signature.ensures.small))

pub returns-then-head-eq-SPARSE-clause-inside : goal.returns-then-head-eq-SPARSE-clause-inside
returns-then-head-eq-SPARSE-clause-inside g c = goes-inside c.args.self.now.handles c.args.handle c.args.offset c.args.count (sym c.refuses_range.ensures ∙ c.in_default.is)

pub returns-clause-asked : goal.returns-clause-asked
returns-clause-asked g c image there state k =
    let o = opened-there c.args.self.now.handles c.args.handle c.object.result c.in-Some-object.object c.object.ensures.object c.in-Some-object.is in
    found-plain c.args.self.now state image k c.args.handle c.args.offset c.args.count o.b o.bound c.in_ok-head.head (subst (λ (x : OpenObject). IsRecordHead image x.entry c.in_ok-head.head) o.opened (c.in_ok-head.ensures.head image there))
    (sym c.refuses_range.ensures ∙ c.in_default.is) (goes-live c.args.self.now.handles c.args.handle c.args.offset c.args.count (sym c.refuses_range.ensures ∙ c.in_default.is) o.b o.bound) c.if-head-eq-SPARSE.false
    _ (ap (λ (x : OpenObject). x.node) o.opened) (ap (λ (x : OpenObject). x.entry) o.opened) c.has_one_stream.ensures

pub returns-clause-early : goal.returns-clause-early
returns-clause-early g c = nothing-early c.args.self.now.handles c.args.handle c.args.offset c.args.count _ (sym c.refuses_range.ensures ∙ c.in_default.is)

pub returns-clause-stands : goal.returns-clause-stands
returns-clause-stands g c =
    let o = opened-there c.args.self.now.handles c.args.handle c.object.result c.in-Some-object.object c.object.ensures.object c.in-Some-object.is in
    opened-stands c.args.self.now.files c.args.self.now.handles c.args.self.now.stand c.args.handle c.in-Some-object.object o

pub returns-clause-inside : goal.returns-clause-inside
returns-clause-inside g c = goes-inside c.args.self.now.handles c.args.handle c.args.offset c.args.count (sym c.refuses_range.ensures ∙ c.in_default.is)
