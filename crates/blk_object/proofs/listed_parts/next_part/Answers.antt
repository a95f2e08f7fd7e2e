use Rattle.std.proofs.Common.{rules, inl, refl, ◌≡◌, ◌∙◌, None, Option, ℕ, IsTrue, true, false, sym, ap, subst, arith}
use Rattle.std.specs.Option.{ForSome}
use Rattle.std.specs.Prelude.{IfSome, filter, is_some}
use Rattle.spec_image.specs.Image.{Image}
use Rattle.spec_image.specs.Told.{Told}
use Rattle.spec_image.proofs.Runs.{some_inj}
use Rattle.blk_io.specs.Faults.{IfDamaged}
use Rattle.blk_io.proofs.Carried.{carried}
use Rattle.spec_folder.specs.Loads.{Loaded}
use Rattle.spec_folder.specs.View.{node_at}
use Rattle.blk_record.specs.declared.node.TheConstants.NodeView as NodeView
use Rattle.blk_disk.specs.Tables.{Agrees, is_node_among}
use Rattle.blk_lru.specs.Lists.{IsListed}
use Rattle.blk_object.specs.ListedParts.{LoadsAt, SaysPart}
use Rattle.blk_object.specs.ListWalks.{GoesTo}
use Rattle.blk_object.proofs.ListWalks.{node-passed, nodes-kinds, none-passed, walk-ends, walk-over, walk-too-long}
use Rattle.blk_object.proofs.WalkedParts.{IsWalkedTo, found-none, found-some, not-none, step-finds, step-listed, step-loads, step-walks, turns-ended, turns-few, walk-begun, walk-ended}
use Rattle.blk_object.proofs.DamageChecks.{handed, moved, node-word-checked}
use Rattle.blk_object.proofs.listed_parts.next_part.Goals as goal

pub returns-in_err-next-clause-untold : goal.returns-in_err-next-clause-untold
returns-in_err-next-clause-untold g c from there state layout keep chains unlinked items k are =
    carried c.node_behind.result c.from_residual.result c.in_err-next.field-0.0 (λ _. (g.F.Folder.told c.args.folder.now).files ≡ None) c.in_err-next.was c.from_residual.ensures.1
    (c.node_behind.ensures.untold from there state layout keep chains unlinked items k are)

pub loop-init : goal.loop-init
loop-init g c = record {
  walks = λ image there. walk-begun c.args.from c.args.key.now c.in_ok-next.next image (c.in_ok-next.ensures.node image there);
  passed = λ image there. none-passed c.args.files.now NodeView.NEXT c.args.from image;
  goes = c.in_ok-next.ensures.word;
  stands = c.in_ok-next.ensures.stands;
  stands_last = c.requires.from;
  buffer = c.requires.buffer;
  stays = c.in_ok-next.ensures.reads.stays;
  later = c.in_ok-next.ensures.reads.later;
}

pub returns-in_default-clause-part : goal.returns-in_default-clause-part
returns-in_default-clause-part g c from there state layout keep chains unlinked items k are =
    let none : c.loop.next ≡ None = search rules in
    walk-ended layout c.args.key.now (filter keep state.uses) items c.loop.counter (subst (λ (o : Option ℕ). IsWalkedTo layout c.args.key.now (filter keep state.uses) items o c.loop.counter) none (c.loop.invariant.walks from there state layout keep chains unlinked items k are))

pub returns-in_err-found-clause-untold : goal.returns-in_err-found-clause-untold
returns-in_err-found-clause-untold g c from there state layout keep chains unlinked items k are =
    subst (λ (t : Told). IfDamaged c.from_residual-in_err-found.result (λ _. t.files ≡ None)) c.loop.invariant.stays
    (carried c.part_at.result c.from_residual-in_err-found.result c.in_err-found.field-0.0 (λ _. (g.F.Folder.told c.loop.folder).files ≡ None) c.in_err-found.was c.from_residual-in_err-found.ensures.1
    (c.part_at.ensures.untold (subst (λ (t : Told). ForSome t.files (Agrees c.args.files.now)) (sym c.loop.invariant.stays) (λ image is. (c.requires.is_open image is).agrees))
    (λ image now. subst (λ (i : Image). (loaded : Loaded) × LoadsAt c.in-Some.node loaded i) (some_inj (sym there ∙ ap (λ (t : Told). t.files) (sym c.loop.invariant.stays) ∙ now))
    (step-loads state layout keep chains unlinked c.args.key.now items c.in-Some.node c.loop.counter from k (subst (λ (o : Option ℕ). IsWalkedTo layout c.args.key.now (filter keep state.uses) items o c.loop.counter) c.in-Some.is (c.loop.invariant.walks from there state layout keep chains unlinked items k are))))))

pub returns-then-is_some-clause-part : goal.returns-then-is_some-clause-part
returns-then-is_some-clause-part g c from there state layout keep chains unlinked items k are =
    let some : is_some c.in_ok-found.found ≡ true = search rules in
    found-some layout c.args.key.now items c.in_ok-found.found some
    (λ found is. step-finds state layout keep chains unlinked c.args.key.now items c.in-Some.node c.loop.counter from k (subst (λ (o : Option ℕ). IsWalkedTo layout c.args.key.now (filter keep state.uses) items o c.loop.counter) c.in-Some.is (c.loop.invariant.walks from there state layout keep chains unlinked items k are)) found
    (λ loaded at. sym is ∙ c.in_ok-found.ensures.part from (ap (λ (t : Told). t.files) c.loop.invariant.stays ∙ there) loaded at))

pub returns-in_err-next-2-clause-untold : goal.returns-in_err-next-2-clause-untold
returns-in_err-next-2-clause-untold g c from there state layout keep chains unlinked items k are =
    let stays = c.in_ok-found.ensures.reads.stays ∙ c.loop.invariant.stays in
    subst (λ (t : Told). IfDamaged c.from_residual-in_err-next-2.result (λ _. t.files ≡ None)) stays
    (carried c.after.result c.from_residual-in_err-next-2.result c.in_err-next-2.field-0.0 (λ _. (g.F.Folder.told c.part_at.new.folder).files ≡ None) c.in_err-next-2.was c.from_residual-in_err-next-2.ensures.1
    (c.after.ensures.untold (subst (λ (t : Told). ForSome t.files (Agrees c.args.files.now)) (sym stays) (λ image is. (c.requires.is_open image is).agrees))
    (λ image now. subst (IsListed c.in-Some.node) (some_inj (sym there ∙ ap (λ (t : Told). t.files) (sym stays) ∙ now))
    (step-listed state layout keep chains unlinked c.args.key.now items c.in-Some.node c.loop.counter from k (subst (λ (o : Option ℕ). IsWalkedTo layout c.args.key.now (filter keep state.uses) items o c.loop.counter) c.in-Some.is (c.loop.invariant.walks from there state layout keep chains unlinked items k are))))))

pub loop-preserved : goal.loop-preserved
loop-preserved g c = record {
  walks = λ from there state layout keep chains unlinked items k are.
      let none : is_some c.in_ok-found.found ≡ false = search rules in
      step-walks state layout keep chains unlinked c.args.key.now items c.in-Some.node c.loop.counter from k (subst (λ (o : Option ℕ). IsWalkedTo layout c.args.key.now (filter keep state.uses) items o c.loop.counter) c.in-Some.is (c.loop.invariant.walks from there state layout keep chains unlinked items k are)) c.in_ok-next-2.next
      (λ loaded at. sym (found-none c.in_ok-found.found none) ∙ c.in_ok-found.ensures.part from (ap (λ (t : Told). t.files) c.loop.invariant.stays ∙ there) loaded at)
      (c.in_ok-next-2.ensures.node from (ap (λ (t : Told). t.files) (c.in_ok-found.ensures.reads.stays ∙ c.loop.invariant.stays) ∙ there) (c.requires.is_open from there).agrees);
  passed = λ image there.
      node-passed c.args.files.now NodeView.NEXT c.args.from c.loop.last c.loop.counter image c.in-Some.node (c.loop.invariant.passed image there)
      (subst (λ (o : Option ℕ). GoesTo NodeView.NEXT image c.loop.last o) c.in-Some.is (c.loop.invariant.goes image there))
      (subst (λ (o : Option ℕ). IfSome o (λ n. IsTrue (is_node_among c.args.files.now n))) c.in-Some.is c.loop.invariant.stands);
  goes = λ image there. c.in_ok-next-2.ensures.word image (ap (λ (t : Told). t.files) (c.in_ok-found.ensures.reads.stays ∙ c.loop.invariant.stays) ∙ there);
  stands = c.in_ok-next-2.ensures.stands;
  stands_last = subst (λ (o : Option ℕ). IfSome o (λ n. IsTrue (is_node_among c.args.files.now n))) c.in-Some.is c.loop.invariant.stands;
  buffer = (let one = c.part_at.auto.buffer in let two = c.loop.invariant.buffer in omega (arith, one, two));
  stays = c.in_ok-next-2.ensures.reads.stays ∙ c.in_ok-found.ensures.reads.stays ∙ c.loop.invariant.stays;
  later = (let one = c.loop.invariant.later in let two = c.in_ok-found.ensures.reads.later in let three = c.in_ok-next-2.ensures.reads.later in omega (arith, one, two, three));
}

pub returns-clause-part : goal.returns-clause-part
returns-clause-part g c from there state layout keep chains unlinked items k are =
    turns-ended layout c.args.key.now (filter keep state.uses) items c.loop.next c.loop.counter from k.list (omega (arith, c.loop-test.false)) (c.loop.invariant.walks from there state layout keep chains unlinked items k are)

pub returns-in_err-next-2-clause-damaged : goal.returns-in_err-next-2-clause-damaged
returns-in_err-next-2-clause-damaged g c =
    handed c.after.result c.from_residual-in_err-next-2.result c.in_err-next-2.field-0.0 _ c.args.files.now (g.F.Folder.told c.after.new.f)
    (λ damage wrong. moved c.args.files.now (g.F.Folder.told c.part_at.new.folder) (g.F.Folder.told c.after.new.f) damage c.after.ensures.reads.stays (node-word-checked c.args.files.now (g.F.Folder.told c.part_at.new.folder) _ _ damage wrong))
    c.in_err-next-2.was c.from_residual-in_err-next-2.ensures.1 c.after.ensures.damaged

pub returns-then-is_some-clause-named : goal.returns-then-is_some-clause-named
returns-then-is_some-clause-named g c =
    subst (λ (t : Told). IfSome c.in_ok-found.found (λ part. ForSome t.files (SaysPart part.entry c.args.key.now part.number))) c.loop.invariant.stays c.in_ok-found.ensures.named

pub returns-then-is_some-clause-contents : goal.returns-then-is_some-clause-contents
returns-then-is_some-clause-contents g c =
    subst (λ (t : Told). IfSome c.in_ok-found.found (λ part. ForSome t.files (λ image. part.entry ≡ (node_at image part.node).contents))) c.loop.invariant.stays c.in_ok-found.ensures.contents

-- after the loop

pub end_walk-requires : goal.end_walk-requires
end_walk-requires g c = record { kind = nodes-kinds c.args.files.now c.loop.last c.loop.invariant.stands_last }

pub returns-in_err-end_walk-clause-damaged : goal.returns-in_err-end_walk-clause-damaged
returns-in_err-end_walk-clause-damaged g c =
    handed c.end_walk.result c.from_residual-in_err-end_walk.result c.in_err-end_walk.field-0.0 _ c.args.files.now (g.F.Folder.told c.loop.folder)
    (λ damage behind. walk-too-long c.args.files.now (g.F.Folder.told c.loop.folder) NodeView.NEXT c.args.from c.loop.last c.loop.next c.loop.counter damage (inl refl) (omega (arith, c.loop-test.false)) c.loop.invariant.stands_last c.loop.invariant.stands
    (λ image now. c.loop.invariant.passed image (ap (λ (t : Told). t.files) (sym c.loop.invariant.stays) ∙ now))
    (λ image now. c.loop.invariant.goes image (ap (λ (t : Told). t.files) (sym c.loop.invariant.stays) ∙ now)) behind)
    c.in_err-end_walk.was c.from_residual-in_err-end_walk.ensures.1 c.end_walk.ensures.damaged

pub returns-in_err-end_walk-clause-untold : goal.returns-in_err-end_walk-clause-untold
returns-in_err-end_walk-clause-untold g c from there state layout keep chains unlinked items k are =
    absurd (turns-few layout c.args.key.now (filter keep state.uses) items c.loop.next c.loop.counter from k.list (omega (arith, c.loop-test.false)) (c.loop.invariant.walks from there state layout keep chains unlinked items k are))

pub returns-in_default-clause-ends : goal.returns-in_default-clause-ends
returns-in_default-clause-ends g c none image there =
    walk-ends c.args.files.now NodeView.NEXT c.args.from c.loop.last c.loop.next c.loop.counter image (c.loop.invariant.passed image there) (c.loop.invariant.goes image there) (search rules)

pub returns-then-is_some-clause-ends : goal.returns-then-is_some-clause-ends
returns-then-is_some-clause-ends g c none =
    let some : is_some c.in_ok-found.found ≡ true = search rules in
    absurd (not-none c.in_ok-found.found some none)

pub returns-clause-ends : goal.returns-clause-ends
returns-clause-ends g c none image there =
    walk-over c.args.files.now NodeView.NEXT c.args.from c.loop.last c.loop.next c.loop.counter image (omega (arith, c.loop-test.false)) (c.loop.invariant.passed image there) (c.loop.invariant.goes image there) c.in_ok-end_walk.ensures.ended
