use Rattle.std.proofs.Common.{rules, ◌≡◌, ◌∙◌, ap, sym, subst, arith, None, Some}
use Rattle.std.specs.Int.{cast_unsigned, w64}
use Rattle.std.proofs.lemmas.Int.{of_z-to_z}
use Rattle.spec_image.specs.Told.{Told}
use Rattle.spec_image.proofs.Runs.{passes_stayed, some_inj}
use Rattle.blk_io.specs.Faults.{IfDamaged}
use Rattle.blk_io.proofs.Carried.{carried}
use Rattle.blk_model.specs.Effects.{doomed}
use Rattle.blk_model.specs.Holding.{rest}
use Rattle.law_state.specs.Changes.{Finds}
use Rattle.blk_lru.specs.Lists.{IsListed}
use Rattle.blk_sparse.specs.Dropping.{HasSignature}
use Rattle.blk_sparse.proofs.PartsOut.{left-finds, stays-passes, stays-there}
use Rattle.blk_sparse.proofs.PartsNext.{first-behind, first-left, first-listed, next-out, none-behind, of-some, same-session, same-unlinked}
use Rattle.blk_sparse.proofs.Walking.{searched}
use Rattle.blk_object.proofs.DamageChecks.{handed, moved, node-word-checked}
use Rattle.std.specs.Option.{ForSome}
use Rattle.blk_object.specs.FailedChecks.{IsFailedCheck}
use Rattle.blk_object.specs.ListedParts.{SaysPart}
use Rattle.blk_sparse.proofs.dropping.drop_next.Goals as goal

pub returns-in_err-part-clause-stops : goal.returns-in_err-part-clause-stops
returns-in_err-part-clause-stops g c from there state layout keep chains unlinked number object left sig is =
    stays-passes (g.F.Folder.told c.args.folder.now) (g.F.Folder.told c.next_part.new.folder) from (Finds (rest (doomed number state (Some object)))) there c.in_err-part.ensures.reads.stays (left-finds state layout keep chains unlinked c.args.key.now number object from left)

pub returns-in_err-part-clause-is_open : goal.returns-in_err-part-clause-is_open
returns-in_err-part-clause-is_open g c image is = c.requires.is_open image (ap (λ (t : Told). t.files) (sym c.in_err-part.ensures.reads.stays) ∙ is)

pub returns-in_err-part-clause-untold : goal.returns-in_err-part-clause-untold
returns-in_err-part-clause-untold g c from there state layout keep chains unlinked number object left sig is =
    carried c.next_part.result c.from_residual.result c.in_err-part.field-0.0 (λ _. (g.F.Folder.told c.args.folder.now).files ≡ None) c.in_err-part.was c.from_residual.ensures.1
    (c.next_part.ensures.untold from there state layout keep chains unlinked is.items left.kept (searched layout c.args.key.now _ c.args.from is))

pub returns-in_default-clause-next : goal.returns-in_default-clause-next
returns-in_default-clause-next g c from there state layout keep chains unlinked number object left sig is image now =
    let none : c.in_ok-part.field-0 ≡ None = search rules in
    (none-behind state layout keep chains unlinked c.args.key.now number object c.args.from from left is c.in_ok-part.field-0 none (c.in_ok-part.ensures.part from there), some_inj (sym now ∙ stays-there (g.F.Folder.told c.args.folder.now) (g.F.Folder.told c.next_part.new.folder) from there c.in_ok-part.ensures.reads.stays))

pub returns-in_default-clause-session : goal.returns-in_default-clause-session
returns-in_default-clause-session g c from there state layout keep chains unlinked number object left sig is image now =
    same-session from image (some_inj (sym now ∙ stays-there (g.F.Folder.told c.args.folder.now) (g.F.Folder.told c.next_part.new.folder) from there c.in_ok-part.ensures.reads.stays))

pub returns-in_default-clause-keeps : goal.returns-in_default-clause-keeps
returns-in_default-clause-keeps g c from there state layout keep chains unlinked number object left sig is image now =
    same-unlinked unlinked from image (some_inj (sym now ∙ stays-there (g.F.Folder.told c.args.folder.now) (g.F.Folder.told c.next_part.new.folder) from there c.in_ok-part.ensures.reads.stays))

pub returns-in_default-clause-stops : goal.returns-in_default-clause-stops
returns-in_default-clause-stops g c from there state layout keep chains unlinked number object left sig is =
    stays-passes (g.F.Folder.told c.args.folder.now) (g.F.Folder.told c.next_part.new.folder) from (Finds (rest (doomed number state (Some object)))) there c.in_ok-part.ensures.reads.stays (left-finds state layout keep chains unlinked c.args.key.now number object from left)

pub returns-in_default-clause-is_open : goal.returns-in_default-clause-is_open
returns-in_default-clause-is_open g c image is = c.requires.is_open image (ap (λ (t : Told). t.files) (sym c.in_ok-part.ensures.reads.stays) ∙ is)

pub returns-in_err-behind-clause-stops : goal.returns-in_err-behind-clause-stops
returns-in_err-behind-clause-stops g c from there state layout keep chains unlinked number object left sig is =
    stays-passes (g.F.Folder.told c.args.folder.now) (g.F.Folder.told c.before-2.new.f) from (Finds (rest (doomed number state (Some object)))) there (c.in_err-behind.ensures.reads.stays ∙ c.in_ok-part.ensures.reads.stays) (left-finds state layout keep chains unlinked c.args.key.now number object from left)

pub returns-in_err-behind-clause-is_open : goal.returns-in_err-behind-clause-is_open
returns-in_err-behind-clause-is_open g c image is = c.requires.is_open image (ap (λ (t : Told). t.files) (sym (c.in_err-behind.ensures.reads.stays ∙ c.in_ok-part.ensures.reads.stays)) ∙ is)

pub returns-in_err-behind-clause-untold : goal.returns-in_err-behind-clause-untold
returns-in_err-behind-clause-untold g c from there state layout keep chains unlinked number object left sig is =
    let at = stays-there (g.F.Folder.told c.args.folder.now) (g.F.Folder.told c.next_part.new.folder) from there c.in_ok-part.ensures.reads.stays in
    let first = first-behind state layout keep chains unlinked c.args.key.now number object c.args.from from left is c.in_ok-part.field-0 c.in-Some.part c.in-Some.is (c.in_ok-part.ensures.part from there) in
    subst (λ (t : Told). IfDamaged c.from_residual-in_err-behind.result (λ _. t.files ≡ None)) c.in_ok-part.ensures.reads.stays
    (carried c.before-2.result c.from_residual-in_err-behind.result c.in_err-behind.field-0.0 (λ _. (g.F.Folder.told c.next_part.new.folder).files ≡ None) c.in_err-behind.was c.from_residual-in_err-behind.ensures.1
    (c.before-2.ensures.untold (λ image now. (c.requires.is_open image (ap (λ (t : Told). t.files) (sym c.in_ok-part.ensures.reads.stays) ∙ now)).agrees)
    (λ image now. subst (IsListed c.in-Some.part.node) (some_inj (sym at ∙ now)) (first-listed state layout keep chains unlinked c.args.key.now number object c.args.from from left is c.in-Some.part first))))

pub drop_part-requires-clause-number : goal.drop_part-requires-clause-number
drop_part-requires-clause-number g c = (of-some c.in_ok-part.field-0 c.in-Some.part _ c.in-Some.is c.in_ok-part.ensures.there).number

pub drop_part-requires-clause-node : goal.drop_part-requires-clause-node
drop_part-requires-clause-node g c = (of-some c.in_ok-part.field-0 c.in-Some.part _ c.in-Some.is c.in_ok-part.ensures.there).node

pub drop_part-requires-clause-kind : goal.drop_part-requires-clause-kind
drop_part-requires-clause-kind g c = (of-some c.in_ok-part.field-0 c.in-Some.part _ c.in-Some.is c.in_ok-part.ensures.there).kind

pub drop_part-requires-clause-is_open : goal.drop_part-requires-clause-is_open
drop_part-requires-clause-is_open g c image is = c.requires.is_open image (ap (λ (t : Told). t.files) (sym (c.in_ok-behind.ensures.reads.stays ∙ c.in_ok-part.ensures.reads.stays)) ∙ is)

pub returns-in_err-charge-clause-stops : goal.returns-in_err-charge-clause-stops
returns-in_err-charge-clause-stops g c from there state layout keep chains unlinked number object left sig is =
    let stays = c.in_ok-behind.ensures.reads.stays ∙ c.in_ok-part.ensures.reads.stays in
    let at = stays-there (g.F.Folder.told c.args.folder.now) (g.F.Folder.told c.before-2.new.f) from there stays in
    let first = first-behind state layout keep chains unlinked c.args.key.now number object c.args.from from left is c.in_ok-part.field-0 c.in-Some.part c.in-Some.is (c.in_ok-part.ensures.part from there) in
    let same : HasSignature layout c.args.key.now _ = subst (HasSignature layout c.args.key.now) (sym (of_z-to_z w64 (cast_unsigned w64 c.args.signature) (let small = c.requires.signature in omega (arith, small)))) sig in
    passes_stayed stays (c.in_err-charge.ensures.stops from at state layout keep chains unlinked number object left same (first-left state layout keep chains unlinked c.args.key.now number object c.args.from from left is c.in-Some.part first))

pub returns-in_err-charge-clause-untold : goal.returns-in_err-charge-clause-untold
returns-in_err-charge-clause-untold g c from there state layout keep chains unlinked number object left sig is =
    let stays = c.in_ok-behind.ensures.reads.stays ∙ c.in_ok-part.ensures.reads.stays in
    let at = stays-there (g.F.Folder.told c.args.folder.now) (g.F.Folder.told c.before-2.new.f) from there stays in
    let first = first-behind state layout keep chains unlinked c.args.key.now number object c.args.from from left is c.in_ok-part.field-0 c.in-Some.part c.in-Some.is (c.in_ok-part.ensures.part from there) in
    let same : HasSignature layout c.args.key.now _ = subst (HasSignature layout c.args.key.now) (sym (of_z-to_z w64 (cast_unsigned w64 c.args.signature) (let small = c.requires.signature in omega (arith, small)))) sig in
    subst (λ (t : Told). IfDamaged c.from_residual-in_err-charge.result (λ _. t.files ≡ None)) stays
    (carried c.drop_part.result c.from_residual-in_err-charge.result c.in_err-charge.field-0.0 (λ _. (g.F.Folder.told c.before-2.new.f).files ≡ None) c.in_err-charge.was c.from_residual-in_err-charge.ensures.1
    (c.drop_part.ensures.untold from at state layout keep chains unlinked number object left same (first-left state layout keep chains unlinked c.args.key.now number object c.args.from from left is c.in-Some.part first)))

pub returns-clause-next : goal.returns-clause-next
returns-clause-next g c from there state layout keep chains unlinked number object left sig is image now =
    let stays = c.in_ok-behind.ensures.reads.stays ∙ c.in_ok-part.ensures.reads.stays in
    let at = stays-there (g.F.Folder.told c.args.folder.now) (g.F.Folder.told c.before-2.new.f) from there stays in
    let mid = stays-there (g.F.Folder.told c.args.folder.now) (g.F.Folder.told c.next_part.new.folder) from there c.in_ok-part.ensures.reads.stays in
    let first = first-behind state layout keep chains unlinked c.args.key.now number object c.args.from from left is c.in_ok-part.field-0 c.in-Some.part c.in-Some.is (c.in_ok-part.ensures.part from there) in
    let same : HasSignature layout c.args.key.now _ = subst (HasSignature layout c.args.key.now) (sym (of_z-to_z w64 (cast_unsigned w64 c.args.signature) (let small = c.requires.signature in omega (arith, small)))) sig in
    let p = first-left state layout keep chains unlinked c.args.key.now number object c.args.from from left is c.in-Some.part first in
    next-out state layout keep chains unlinked c.args.key.now number object c.args.from from left is c.in-Some.part first c.in_ok-charge.charge c.in_ok-behind.behind image
    (c.in_ok-charge.ensures.charge from at state layout keep chains unlinked number object left same p)
    (c.in_ok-behind.ensures.node from mid (c.requires.is_open from there).agrees)
    (c.in_ok-charge.ensures.out from at state layout keep chains unlinked number object left same p image now)

pub returns-clause-session : goal.returns-clause-session
returns-clause-session g c from there state layout keep chains unlinked number object left sig is =
    let stays = c.in_ok-behind.ensures.reads.stays ∙ c.in_ok-part.ensures.reads.stays in
    let at = stays-there (g.F.Folder.told c.args.folder.now) (g.F.Folder.told c.before-2.new.f) from there stays in
    let first = first-behind state layout keep chains unlinked c.args.key.now number object c.args.from from left is c.in_ok-part.field-0 c.in-Some.part c.in-Some.is (c.in_ok-part.ensures.part from there) in
    let same : HasSignature layout c.args.key.now _ = subst (HasSignature layout c.args.key.now) (sym (of_z-to_z w64 (cast_unsigned w64 c.args.signature) (let small = c.requires.signature in omega (arith, small)))) sig in
    c.in_ok-charge.ensures.session from at state layout keep chains unlinked number object left same (first-left state layout keep chains unlinked c.args.key.now number object c.args.from from left is c.in-Some.part first)

pub returns-clause-keeps : goal.returns-clause-keeps
returns-clause-keeps g c from there state layout keep chains unlinked number object left sig is =
    let stays = c.in_ok-behind.ensures.reads.stays ∙ c.in_ok-part.ensures.reads.stays in
    let at = stays-there (g.F.Folder.told c.args.folder.now) (g.F.Folder.told c.before-2.new.f) from there stays in
    let first = first-behind state layout keep chains unlinked c.args.key.now number object c.args.from from left is c.in_ok-part.field-0 c.in-Some.part c.in-Some.is (c.in_ok-part.ensures.part from there) in
    let same : HasSignature layout c.args.key.now _ = subst (HasSignature layout c.args.key.now) (sym (of_z-to_z w64 (cast_unsigned w64 c.args.signature) (let small = c.requires.signature in omega (arith, small)))) sig in
    c.in_ok-charge.ensures.keeps from at state layout keep chains unlinked number object left same (first-left state layout keep chains unlinked c.args.key.now number object c.args.from from left is c.in-Some.part first)

pub returns-clause-stops : goal.returns-clause-stops
returns-clause-stops g c from there state layout keep chains unlinked number object left sig is =
    let stays = c.in_ok-behind.ensures.reads.stays ∙ c.in_ok-part.ensures.reads.stays in
    let at = stays-there (g.F.Folder.told c.args.folder.now) (g.F.Folder.told c.before-2.new.f) from there stays in
    let first = first-behind state layout keep chains unlinked c.args.key.now number object c.args.from from left is c.in_ok-part.field-0 c.in-Some.part c.in-Some.is (c.in_ok-part.ensures.part from there) in
    let same : HasSignature layout c.args.key.now _ = subst (HasSignature layout c.args.key.now) (sym (of_z-to_z w64 (cast_unsigned w64 c.args.signature) (let small = c.requires.signature in omega (arith, small)))) sig in
    passes_stayed stays (c.in_ok-charge.ensures.stops from at state layout keep chains unlinked number object left same (first-left state layout keep chains unlinked c.args.key.now number object c.args.from from left is c.in-Some.part first))

pub returns-in_err-behind-clause-damaged : goal.returns-in_err-behind-clause-damaged
returns-in_err-behind-clause-damaged g c =
    handed c.before-2.result c.from_residual-in_err-behind.result c.in_err-behind.field-0.0 _ c.args.files.now (g.F.Folder.told c.before-2.new.f)
    (λ damage wrong. moved c.args.files.now (g.F.Folder.told c.next_part.new.folder) (g.F.Folder.told c.before-2.new.f) damage c.before-2.ensures.reads.stays (node-word-checked c.args.files.now (g.F.Folder.told c.next_part.new.folder) _ _ damage wrong))
    c.in_err-behind.was c.from_residual-in_err-behind.ensures.1 c.before-2.ensures.damaged

pub returns-in_err-charge-clause-damaged : goal.returns-in_err-charge-clause-damaged
returns-in_err-charge-clause-damaged g c =
    carried c.drop_part.result c.from_residual-in_err-charge.result c.in_err-charge.field-0.0 (IsFailedCheck c.args.files.now (g.F.Folder.told c.drop_part.new.folder)) c.in_err-charge.was c.from_residual-in_err-charge.ensures.1
    (c.drop_part.ensures.damaged (subst (λ (t : Told). ForSome t.files (SaysPart c.in-Some.part.entry c.args.key.now c.in-Some.part.number)) (sym (c.in_ok-behind.ensures.reads.stays ∙ c.in_ok-part.ensures.reads.stays))
    (of-some c.in_ok-part.field-0 c.in-Some.part (λ part. ForSome (g.F.Folder.told c.args.folder.now).files (SaysPart part.entry c.args.key.now part.number)) c.in-Some.is c.in_ok-part.ensures.named)))
