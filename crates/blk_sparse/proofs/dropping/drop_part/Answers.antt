use Rattle.std.proofs.Common.{rules, ◌≡◌, ◌∙◌, Option, true, inr, ap, sym, subst, arith, ℕ, None, Some, take}
use Rattle.std.specs.Int.{cast_unsigned, w64}
use Rattle.std.proofs.lemmas.Int.{of_z-to_z}
use Rattle.spec_format.specs.Names.{child_name}
use Rattle.std.proofs.lemmas.Result.{on_ok_weaker}
use Rattle.spec_image.specs.Told.{Told}
use Rattle.spec_image.proofs.Runs.{passes_stayed, some_inj}
use Rattle.blk_io.specs.Faults.{IfDamaged}
use Rattle.blk_io.proofs.Carried.{carried}
use Rattle.blk_model.specs.Effects.{doomed}
use Rattle.blk_model.specs.Holding.{rest}
use Rattle.blk_model.specs.Items.{part}
use Rattle.law_state.specs.Changes.{Finds}
use Rattle.blk_chain.specs.Finding.{CanBeSearched, IsOutcome}
use Rattle.blk_sparse.proofs.PartsOut.{if_ok_weaker, same-part, left-finds, none-found, of-object, others-left, others-stay, part-searched, some-found, stays-passes, stays-there}
use Rattle.blk_object.proofs.DamageChecks.{handed, moved, search-checked, within-checked}
use Rattle.blk_entry.proofs.KeyPlaces.{err_damaged}
use Rattle.blk_entry.specs.Keys.{key_bytes}
use Rattle.blk_chain.specs.declared.found.Found.{Found}
use Rattle.blk_object.specs.FailedChecks.{IsFailedCheck, WrongChain}
use Rattle.blk_sparse.proofs.dropping.drop_part.Goals as goal

pub returns-in_err-found-clause-stops : goal.returns-in_err-found-clause-stops
returns-in_err-found-clause-stops g c from there state layout keep chains unlinked number object left sig p =
    stays-passes (g.F.Folder.told c.args.folder.now) (g.F.Folder.told c.find.new.f) from (Finds (rest (doomed number state (Some object)))) there c.in_err-found.ensures.reads.stays (left-finds state layout keep chains unlinked c.args.key.now number object from left)

pub returns-in_err-found-clause-is_open : goal.returns-in_err-found-clause-is_open
returns-in_err-found-clause-is_open g c image is = c.requires.is_open image (ap (λ (t : Told). t.files) (sym c.in_err-found.ensures.reads.stays) ∙ is)

pub returns-in_err-found-clause-untold : goal.returns-in_err-found-clause-untold
returns-in_err-found-clause-untold g c from there state layout keep chains unlinked number object left sig p =
    carried c.find.result c.from_residual.result c.in_err-found.field-0.0 (λ _. (g.F.Folder.told c.args.folder.now).files ≡ None) c.in_err-found.was c.from_residual.ensures.1
    (c.find.ensures.untold (λ image is. (c.requires.is_open image is).whole_index) (λ image is. (c.requires.is_open image is).agrees)
    (λ image is. subst (CanBeSearched (take c.child_name-len.result c.child_name-len.new.out)) (some_inj (sym there ∙ is)) (part-searched _ c.args.part.now.number c.args.part.now.node state layout keep chains unlinked c.args.key.now number object from left sig p (take c.child_name-len.result c.child_name-len.new.out))))

pub returns-in_default-clause-stops : goal.returns-in_default-clause-stops
returns-in_default-clause-stops g c from there state layout keep chains unlinked number object left sig p =
    stays-passes (g.F.Folder.told c.args.folder.now) (g.F.Folder.told c.find.new.f) from (Finds (rest (doomed number state (Some object)))) there c.in_ok-found.ensures.reads.stays (left-finds state layout keep chains unlinked c.args.key.now number object from left)

pub returns-in_default-clause-is_open : goal.returns-in_default-clause-is_open
returns-in_default-clause-is_open g c image is = c.requires.is_open image (ap (λ (t : Told). t.files) (sym c.in_ok-found.ensures.reads.stays) ∙ is)

pub returns-in_default-clause-untold : goal.returns-in_default-clause-untold
returns-in_default-clause-untold g c from there state layout keep chains unlinked number object left sig p =
    let none : c.in_ok-found.field-0 ≡ None = search rules in
    absurd (none-found (cast_unsigned w64 c.args.signature) c.args.part.now.number c.args.part.now.node state layout keep chains unlinked c.args.key.now number object from left sig p (take c.child_name-len.result c.child_name-len.new.out) c.in_ok-found.field-0 none (c.child_name-len.ensures.name ∙ ap (λ (s : ℕ). child_name c.args.key.now s c.args.part.now.number) (of_z-to_z w64 (cast_unsigned w64 c.args.signature) (let small = c.requires.signature in omega (arith, small)))) (c.in_ok-found.ensures.found from there))

pub remove_part-requires-clause-is_open : goal.remove_part-requires-clause-is_open
remove_part-requires-clause-is_open g c image is = c.requires.is_open image (ap (λ (t : Told). t.files) (sym c.in_ok-found.ensures.reads.stays) ∙ is)

pub returns-clause-out : goal.returns-clause-out
returns-clause-out g c =
    on_ok_weaker c.remove_part.result
    (λ removed from there state layout keep chains unlinked number object left sig p image is.
    let at = stays-there (g.F.Folder.told c.args.folder.now) (g.F.Folder.told c.find.new.f) from there c.in_ok-found.ensures.reads.stays in
    let f = some-found (cast_unsigned w64 c.args.signature) c.args.part.now.number c.args.part.now.node state layout keep chains unlinked c.args.key.now number object from left sig p (take c.child_name-len.result c.child_name-len.new.out) c.in_ok-found.field-0 c.in-Some.found c.in-Some.is (c.child_name-len.ensures.name ∙ ap (λ (s : ℕ). child_name c.args.key.now s c.args.part.now.number) (of_z-to_z w64 (cast_unsigned w64 c.args.signature) (let small = c.requires.signature in omega (arith, small)))) (c.in_ok-found.ensures.found from there) in
    others-left _ c.args.part.now.number c.args.part.now.node state layout keep chains unlinked c.args.key.now number object from left sig p c.in-Some.found.entry image (removed from at state layout keep chains unlinked (part c.args.key.now c.args.part.now.number) left.kept f.next left.counted image is))
    c.remove_part.ensures.removed

pub returns-clause-charge : goal.returns-clause-charge
returns-clause-charge g c =
    if_ok_weaker c.remove_part.result _ _
    (λ charge is from there state layout keep chains unlinked number object left sig p.
    let at = stays-there (g.F.Folder.told c.args.folder.now) (g.F.Folder.told c.find.new.f) from there c.in_ok-found.ensures.reads.stays in
    let f = some-found (cast_unsigned w64 c.args.signature) c.args.part.now.number c.args.part.now.node state layout keep chains unlinked c.args.key.now number object from left sig p (take c.child_name-len.result c.child_name-len.new.out) c.in_ok-found.field-0 c.in-Some.found c.in-Some.is (c.child_name-len.ensures.name ∙ ap (λ (s : ℕ). child_name c.args.key.now s c.args.part.now.number) (of_z-to_z w64 (cast_unsigned w64 c.args.signature) (let small = c.requires.signature in omega (arith, small)))) (c.in_ok-found.ensures.found from there) in
    is from at p.was f.loads)
    c.remove_part.ensures.charge

pub returns-clause-session : goal.returns-clause-session
returns-clause-session g c =
    on_ok_weaker c.remove_part.result
    (λ session from there state layout keep chains unlinked number object left sig p.
    let at = stays-there (g.F.Folder.told c.args.folder.now) (g.F.Folder.told c.find.new.f) from there c.in_ok-found.ensures.reads.stays in
    let f = some-found (cast_unsigned w64 c.args.signature) c.args.part.now.number c.args.part.now.node state layout keep chains unlinked c.args.key.now number object from left sig p (take c.child_name-len.result c.child_name-len.new.out) c.in_ok-found.field-0 c.in-Some.found c.in-Some.is (c.child_name-len.ensures.name ∙ ap (λ (s : ℕ). child_name c.args.key.now s c.args.part.now.number) (of_z-to_z w64 (cast_unsigned w64 c.args.signature) (let small = c.requires.signature in omega (arith, small)))) (c.in_ok-found.ensures.found from there) in
    session from at state layout keep chains unlinked (part c.args.key.now c.args.part.now.number) left.kept f.next)
    c.remove_part.ensures.session

pub returns-clause-keeps : goal.returns-clause-keeps
returns-clause-keeps g c =
    on_ok_weaker c.remove_part.result
    (λ keeps from there state layout keep chains unlinked number object left sig p.
    let at = stays-there (g.F.Folder.told c.args.folder.now) (g.F.Folder.told c.find.new.f) from there c.in_ok-found.ensures.reads.stays in
    let f = some-found (cast_unsigned w64 c.args.signature) c.args.part.now.number c.args.part.now.node state layout keep chains unlinked c.args.key.now number object from left sig p (take c.child_name-len.result c.child_name-len.new.out) c.in_ok-found.field-0 c.in-Some.found c.in-Some.is (c.child_name-len.ensures.name ∙ ap (λ (s : ℕ). child_name c.args.key.now s c.args.part.now.number) (of_z-to_z w64 (cast_unsigned w64 c.args.signature) (let small = c.requires.signature in omega (arith, small)))) (c.in_ok-found.ensures.found from there) in
    keeps from at state layout keep chains unlinked (part c.args.key.now c.args.part.now.number) left.kept f.next)
    c.remove_part.ensures.keeps

pub returns-clause-stops : goal.returns-clause-stops
returns-clause-stops g c from there state layout keep chains unlinked number object left sig p =
    let at = stays-there (g.F.Folder.told c.args.folder.now) (g.F.Folder.told c.find.new.f) from there c.in_ok-found.ensures.reads.stays in
    let f = some-found (cast_unsigned w64 c.args.signature) c.args.part.now.number c.args.part.now.node state layout keep chains unlinked c.args.key.now number object from left sig p (take c.child_name-len.result c.child_name-len.new.out) c.in_ok-found.field-0 c.in-Some.found c.in-Some.is (c.child_name-len.ensures.name ∙ ap (λ (s : ℕ). child_name c.args.key.now s c.args.part.now.number) (of_z-to_z w64 (cast_unsigned w64 c.args.signature) (let small = c.requires.signature in omega (arith, small)))) (c.in_ok-found.ensures.found from there) in
    passes_stayed c.in_ok-found.ensures.reads.stays
    (c.remove_part.ensures.part from at state layout keep chains unlinked number object c.args.part.now.number left.kept left.here
    (others-stay _ c.args.part.now.number c.args.part.now.node state layout keep chains unlinked c.args.key.now number object from left sig p)
    (of-object _ c.args.part.now.number c.args.part.now.node state layout keep chains unlinked c.args.key.now number object from left sig p c.in-Some.found f.next))

pub returns-clause-untold : goal.returns-clause-untold
returns-clause-untold g c from there state layout keep chains unlinked number object left sig p =
    let at = stays-there (g.F.Folder.told c.args.folder.now) (g.F.Folder.told c.find.new.f) from there c.in_ok-found.ensures.reads.stays in
    let f = some-found (cast_unsigned w64 c.args.signature) c.args.part.now.number c.args.part.now.node state layout keep chains unlinked c.args.key.now number object from left sig p (take c.child_name-len.result c.child_name-len.new.out) c.in_ok-found.field-0 c.in-Some.found c.in-Some.is (c.child_name-len.ensures.name ∙ ap (λ (s : ℕ). child_name c.args.key.now s c.args.part.now.number) (of_z-to_z w64 (cast_unsigned w64 c.args.signature) (let small = c.requires.signature in omega (arith, small)))) (c.in_ok-found.ensures.found from there) in
    subst (λ (t : Told). IfDamaged c.remove_part.result (λ _. t.files ≡ None)) c.in_ok-found.ensures.reads.stays
    (c.remove_part.ensures.untold from at state layout keep chains unlinked (part c.args.key.now c.args.part.now.number) left.kept f.next)

pub returns-in_err-found-clause-damaged : goal.returns-in_err-found-clause-damaged
returns-in_err-found-clause-damaged g c says =
    handed c.find.result c.from_residual.result c.in_err-found.field-0.0 _ c.args.files.now (g.F.Folder.told c.find.new.f)
    (λ damage wrong. moved c.args.files.now (g.F.Folder.told c.args.folder.now) (g.F.Folder.told c.find.new.f) damage c.find.ensures.reads.stays (search-checked c.args.files.now (g.F.Folder.told c.args.folder.now) _ _ damage wrong))
    c.in_err-found.was c.from_residual.ensures.1 c.find.ensures.damaged

pub returns-in_default-clause-damaged : goal.returns-in_default-clause-damaged
returns-in_default-clause-damaged g c says =
    let d = c.record_damage.ensures in
    let none : c.in_ok-found.field-0 ≡ None = search rules in
    let name = take c.child_name-len.result c.child_name-len.new.out in
    err_damaged ℕ c.record_damage.result d.damage (IsFailedCheck c.args.files.now (g.F.Folder.told c.find.new.f)) d.is
    (moved c.args.files.now (g.F.Folder.told c.args.folder.now) (g.F.Folder.told c.find.new.f) d.damage c.in_ok-found.ensures.reads.stays
    (within-checked c.args.files.now (g.F.Folder.told c.args.folder.now) c.args.part.now.entry d.damage c.requires.kind c.requires.stands (WrongChain (record {
      key = name;
      is_child = true;
      of_word = d.word;
      own = λ image there. inr (same-part c.args.key.now (key_bytes image c.args.part.now.entry) name _ c.args.part.now.number (says image there) c.child_name-len.ensures.name);
      ends = λ image there. subst (λ (o : Option Found). IsOutcome c.args.files.now name true o image) none (c.in_ok-found.ensures.outcome image there);
    }))))
