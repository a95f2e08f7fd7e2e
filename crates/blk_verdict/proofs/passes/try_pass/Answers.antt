use Rattle.std.proofs.Common.{◌≡◌, ◌<◌, ℕ, List, ◌++◌, take, get_or, length, refl, sym, ap, subst, ◌∙◌, arith}
use Rattle.std.proofs.lemmas.List.{append-nil, take_all}
use Rattle.std.proofs.lemmas.Option.{slice_get-get_or}
use Rattle.spec_image.specs.Told.{Told}
use Rattle.blk_lru.proofs.Conditions.{told_now, told_stays}
use Rattle.spec_folder.specs.View.{store_of}
use Rattle.blk_audit.specs.Walking.{nodes_walked}
use Rattle.blk_audit.proofs.Carrying.{carried, weaker}
use Rattle.blk_verdict.specs.Passes.{AreTried, CanBeTried, of_pass}
use Rattle.blk_verdict.specs.Reads.{IsCutRead}
use Rattle.blk_verdict.proofs.PassFacts.{next_of_pass}
use Rattle.blk_verdict.proofs.passes.try_pass.Goals as goal

pub loop-i-init : goal.loop-i-init
loop-i-init g c = record {
  tried = λ image there agrees are before is.
      subst (λ (ns : List ℕ). AreTried image (nodes_walked c.args.lists.now.walked) ns c.args.judged.now.kept.kept.items c.args.judged.now.tried.items) (sym (append-nil before)) is;
  keys = λ image there can. can.has_keys;
  order = c.requires.order;
  room = c.requires.room;
  stays = refl;
  later = omega arith;
}

pub loop-i-preserved : goal.loop-i-preserved
loop-i-preserved g c = record {
  tried = λ image there agrees are before is.
      let nodes : List ℕ = nodes_walked c.args.lists.now.walked in
      let below : c.loop-i.i < length nodes = omega (arith, c.loop-i-test.true, c.count-i-end.ensures) in
      let at = slice_get-get_or nodes c.loop-i.i 0 below in
      subst (λ (ns : List ℕ). AreTried image nodes ns c.try_at.new.judged.kept.kept.items c.try_at.new.judged.tried.items) (next_of_pass (store_of image) c.args.children before nodes c.loop-i.i (get_or nodes c.loop-i.i 0) at)
      (c.in_ok-try_at.ensures.tried image (told_now image c.loop-i.invariant.stays there) agrees are (before ++ of_pass (store_of image) c.args.children (take c.loop-i.i nodes)) (get_or nodes c.loop-i.i 0) at
      (c.loop-i.invariant.tried image there agrees are before is));
  keys = λ image there can.
      c.in_ok-try_at.ensures.keys image (told_now image c.loop-i.invariant.stays there) (record { agrees = can.agrees; are = can.are; has_keys = c.loop-i.invariant.keys image there can });
  order = c.in_ok-try_at.ensures.order;
  room = c.try_at.auto.name ∙ c.loop-i.invariant.room;
  stays = c.in_ok-try_at.ensures.reads.stays ∙ c.loop-i.invariant.stays;
  later = omega (arith, c.in_ok-try_at.ensures.reads.later, c.loop-i.invariant.later);
}

pub returns-clause-tried : goal.returns-clause-tried
returns-clause-tried g c image there agrees are before is =
    let nodes : List ℕ = nodes_walked c.args.lists.now.walked in
    let all : take c.loop-i.i nodes ≡ nodes = take_all c.loop-i.i nodes (omega (arith, c.loop-i-test.false, c.count-i-end.ensures)) in
    subst (λ (ns : List ℕ). AreTried image nodes (before ++ of_pass (store_of image) c.args.children ns) c.loop-i.judged.kept.kept.items c.loop-i.judged.tried.items) all (c.loop-i.invariant.tried image there agrees are before is)

pub returns-in_err-try_at-clause-short : goal.returns-in_err-try_at-clause-short
returns-in_err-try_at-clause-short g c =
    carried c.try_at.result c.from_residual.result c.in_err-try_at.field-0.0 _ c.in_err-try_at.was c.from_residual.ensures.1
    (weaker c.try_at.result _ _ (λ damage cut. subst (λ (t : Told). IsCutRead c.args.files.now t damage) c.loop-i.invariant.stays cut) c.try_at.ensures.short)

pub returns-in_err-try_at-clause-untold : goal.returns-in_err-try_at-clause-untold
returns-in_err-try_at-clause-untold g c can =
    carried c.try_at.result c.from_residual.result c.in_err-try_at.field-0.0 _ c.in_err-try_at.was c.from_residual.ensures.1
    (weaker c.try_at.result _ _ (λ damage none. ap (λ (t : Told). t.files) (sym c.loop-i.invariant.stays) ∙ none)
    (c.try_at.ensures.untold (told_stays (CanBeTried c.args.files.now c.args.lists.now c.loop-i.judged.kept.kept.items) c.loop-i.invariant.stays
    (λ image there. record { agrees = (can image there).agrees; are = (can image there).are; has_keys = c.loop-i.invariant.keys image there (can image there) }))))
