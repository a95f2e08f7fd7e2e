use Rattle.std.proofs.Common.{◌≡◌, None, Option, Some, sym, ◌∙◌, ap, subst}
use Rattle.std.specs.Option.{ForSome}
use Rattle.std.specs.Prelude.{slice_index}
use Rattle.spec_format.specs.Sealed.{RecordChecks}
use Rattle.blk_entry.specs.Keys.{IsHeadDamage, IsRecordHead}
use Rattle.blk_handles.specs.declared.open_object.OpenObject.{OpenObject}
use Rattle.blk_io.proofs.Carried.{carried, if_damaged_weaker}
use Rattle.blk_chain.proofs.Heads.{names-parts}
use Rattle.blk_cache.specs.Asking.{IsAskDamage}
use Rattle.blk_cache.proofs.Asks.{asked-checks, found-stream, handle-bound, none-early, none-there, opened-stands, opened-there, refused-early, refused-sparse, stream-below}
use Rattle.blk_object.proofs.DamageChecks.{handed, head-checked, moved}
use Rattle.blk_cache.proofs.cache.Cache.ask_stream.Goals as goal

pub returns-in-Some-clause-asked : goal.returns-in-Some-clause-asked
returns-in-Some-clause-asked g c image there state k = refused-early c.args.self.now state image k c.args.handle c.args.stream c.in-Some.why (sym c.refuses_stream.ensures ∙ c.in-Some.is)

pub unreachable-requires : goal.unreachable-requires
unreachable-requires g c =
    let b = handle-bound c.args.self.now c.args.handle c.args.stream (sym c.refuses_stream.ensures ∙ c.in_default.is) in
    no-binding (sym b.1 ∙ none-there c.args.self.now.handles c.args.handle c.object.result c.object.ensures.object c.in_default-object.is)
  where
    no-binding : {A : Type 0} {x : A} → ◌≡◌ {A = Option A} (Some x) None → ⊥
    no-binding e = cc

pub read_head-requires-clause-kind : goal.read_head-requires-clause-kind
read_head-requires-clause-kind g c =
    let o = opened-there c.args.self.now.handles c.args.handle c.object.result c.in-Some-object.object c.object.ensures.object c.in-Some-object.is in
    let p = names-parts c.args.self.now.files c.in-Some-object.object.entry (opened-stands c.args.self.now.files c.args.self.now.handles c.args.self.now.stand c.args.handle c.in-Some-object.object o).1 in p.1.0

pub read_head-requires-clause-stands : goal.read_head-requires-clause-stands
read_head-requires-clause-stands g c =
    let o = opened-there c.args.self.now.handles c.args.handle c.object.result c.in-Some-object.object c.object.ensures.object c.in-Some-object.is in
    let p = names-parts c.args.self.now.files c.in-Some-object.object.entry (opened-stands c.args.self.now.files c.args.self.now.handles c.args.self.now.stand c.args.handle c.in-Some-object.object o).1 in p.1.1

pub returns-in_err-head-clause-early : goal.returns-in_err-head-clause-early
returns-in_err-head-clause-early g c = none-early c.args.self.now.handles c.args.handle c.args.stream _ (sym c.refuses_stream.ensures ∙ c.in_default.is)

pub returns-in_err-head-clause-damaged : goal.returns-in_err-head-clause-damaged
returns-in_err-head-clause-damaged g c =
    let o = opened-there c.args.self.now.handles c.args.handle c.object.result c.in-Some-object.object c.object.ensures.object c.in-Some-object.is in
    carried c.read_head.result c.from_residual.result c.in_err-head.field-0.0 (IsAskDamage c.args.self.now.handles (g.F.Folder.told c.args.folder.now) c.args.handle) c.in_err-head.was c.from_residual.ensures.1
    (if_damaged_weaker c.read_head.result _ _ (λ damage wrong. record { object = o.b; here = o.bound; wrong = subst (λ (x : OpenObject). IsHeadDamage (g.F.Folder.told c.args.folder.now) x.entry damage) o.opened wrong }) c.read_head.ensures.damaged)

pub returns-in_err-head-clause-untold : goal.returns-in_err-head-clause-untold
returns-in_err-head-clause-untold g c any =
    let o = opened-there c.args.self.now.handles c.args.handle c.object.result c.in-Some-object.object c.object.ensures.object c.in-Some-object.is in
    carried c.read_head.result c.from_residual.result c.in_err-head.field-0.0 (λ _. (g.F.Folder.told c.args.folder.now).files ≡ None) c.in_err-head.was c.from_residual.ensures.1
    (c.read_head.ensures.untold (λ image there. (any image there).1.files)
    (subst (λ (x : OpenObject). ForSome (g.F.Folder.told c.args.folder.now).files (RecordChecks x.entry)) (sym o.opened) (asked-checks c.args.self.now (g.F.Folder.told c.args.folder.now) c.args.handle o.b o.bound (g.met.F.Folder.are_bytes c.args.folder.now) any)))

pub returns-then-keeps_stream-clause-asked : goal.returns-then-keeps_stream-clause-asked
returns-then-keeps_stream-clause-asked g c image there state k =
    let o = opened-there c.args.self.now.handles c.args.handle c.object.result c.in-Some-object.object c.object.ensures.object c.in-Some-object.is in
    refused-sparse c.args.self.now state image k c.args.handle c.args.stream o.b o.bound c.in_ok-head.head (subst (λ (x : OpenObject). IsRecordHead image x.entry c.in_ok-head.head) o.opened (c.in_ok-head.ensures.head image there)) (sym c.refuses_stream.ensures ∙ c.in_default.is) (sym c.keeps_stream.ensures ∙ c.if-keeps_stream.true)

pub returns-then-keeps_stream-clause-early : goal.returns-then-keeps_stream-clause-early
returns-then-keeps_stream-clause-early g c = none-early c.args.self.now.handles c.args.handle c.args.stream _ (sym c.refuses_stream.ensures ∙ c.in_default.is)

pub returns-clause-asked : goal.returns-clause-asked
returns-clause-asked g c image there state k =
    let o = opened-there c.args.self.now.handles c.args.handle c.object.result c.in-Some-object.object c.object.ensures.object c.in-Some-object.is in
    found-stream c.args.self.now state image k c.args.handle c.args.stream o.b o.bound c.in_ok-head.head (subst (λ (x : OpenObject). IsRecordHead image x.entry c.in_ok-head.head) o.opened (c.in_ok-head.ensures.head image there)) (sym c.refuses_stream.ensures ∙ c.in_default.is) (sym c.keeps_stream.ensures ∙ c.if-keeps_stream.false)
    _ (ap (λ (x : OpenObject). x.node) o.opened) (ap (λ (x : OpenObject). x.entry) o.opened) (ap (λ (x : OpenObject). x.doomed) o.opened) (ap (slice_index c.in_ok-head.head.sizes) c.from.ensures)

pub returns-clause-early : goal.returns-clause-early
returns-clause-early g c = none-early c.args.self.now.handles c.args.handle c.args.stream _ (sym c.refuses_stream.ensures ∙ c.in_default.is)

pub returns-clause-stands : goal.returns-clause-stands
returns-clause-stands g c =
    let stand = opened-stands c.args.self.now.files c.args.self.now.handles c.args.self.now.stand c.args.handle c.in-Some-object.object (opened-there c.args.self.now.handles c.args.handle c.object.result c.in-Some-object.object c.object.ensures.object c.in-Some-object.is) in
    (stand.0, (stand.1, stream-below c.args.self.now c.args.handle c.args.stream (sym c.refuses_stream.ensures ∙ c.in_default.is)))

pub returns-in_err-head-clause-cause : goal.returns-in_err-head-clause-cause
returns-in_err-head-clause-cause g c =
    let o = opened-there c.args.self.now.handles c.args.handle c.object.result c.in-Some-object.object c.object.ensures.object c.in-Some-object.is in
    let p = names-parts c.args.self.now.files c.in-Some-object.object.entry (opened-stands c.args.self.now.files c.args.self.now.handles c.args.self.now.stand c.args.handle c.in-Some-object.object o).1 in
    handed c.read_head.result c.from_residual.result c.in_err-head.field-0.0 _ c.args.self.now.files (g.F.Folder.told c.read_head.new.folder)
    (λ damage wrong. moved c.args.self.now.files (g.F.Folder.told c.args.folder.now) (g.F.Folder.told c.read_head.new.folder) damage c.read_head.ensures.reads.stays (head-checked c.args.self.now.files (g.F.Folder.told c.args.folder.now) c.in-Some-object.object.entry damage p.1.0 p.1.1 wrong))
    c.in_err-head.was c.from_residual.ensures.1 c.read_head.ensures.damaged
