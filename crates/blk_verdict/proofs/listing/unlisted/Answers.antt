use Rattle.std.proofs.Common.{◌≡◌, ℕ, ◌++◌, ◌∷◌, [], ◌<◌, List, take, refl, map, sym, ap, ◌∙◌, arith, get_or, length}
use Rattle.std.specs.List.{filter}
use Rattle.std.proofs.lemmas.List.{take_all}
use Rattle.std.proofs.lemmas.Option.{slice_get-get_or}
use Rattle.spec_folder.specs.Audit.{is_unlisted}
use Rattle.spec_folder.specs.Found.{completed}
use Rattle.spec_folder.specs.Reasons as reason
use Rattle.spec_folder.specs.View.{view_of}
use Rattle.blk_disk.specs.Tables.{Agrees}
use Rattle.blk_lru.proofs.Conditions.{told_now}
use Rattle.blk_audit.specs.Chaining.{words_reached}
use Rattle.blk_audit.proofs.AllChains.{unlisted-reached}
use Rattle.blk_audit.proofs.Carrying.{untold_on}
use Rattle.blk_verdict.proofs.ListedFacts.{one_more}
use Rattle.blk_verdict.proofs.listing.unlisted.Goals as goal

pub loop-i-init : goal.loop-i-init
loop-i-init g c = record { found = λ image there agrees are. c.new-found.ensures.items; stays = refl; later = omega arith }

pub loop-i-preserved : goal.loop-i-preserved
loop-i-preserved g c = record {
  found = λ image there agrees are.
      let words : List ℕ = words_reached c.args.lists.now.reached in
      let below : c.loop-i.i < length words = omega (arith, c.loop-i-test.true, c.count-i-end.ensures) in
      let at = slice_get-get_or words c.loop-i.i 0 below in
      c.in_ok-add_if.ensures.added image (told_now image c.loop-i.invariant.stays there) agrees are (get_or words c.loop-i.i 0) at
      ∙ ap (λ (before : List ℕ). before ++ filter (is_unlisted (completed (view_of image))) (get_or words c.loop-i.i 0 ∷ [])) (c.loop-i.invariant.found image there agrees are)
      ∙ sym (one_more (is_unlisted (completed (view_of image))) words c.loop-i.i (get_or words c.loop-i.i 0) at);
  stays = c.in_ok-add_if.ensures.reads.stays ∙ c.loop-i.invariant.stays;
  later = omega (arith, c.in_ok-add_if.ensures.reads.later, c.loop-i.invariant.later);
}

pub returns-clause-unlisted : goal.returns-clause-unlisted
returns-clause-unlisted g c image there agrees are =
    let words : List ℕ = words_reached c.args.lists.now.reached in
    let all : take c.loop-i.i words ≡ words = take_all c.loop-i.i words (omega (arith, c.loop-i-test.false, c.count-i-end.ensures)) in
    ap (map (λ contents. (contents, reason.Unlisted))) (c.loop-i.invariant.found image there agrees are ∙ ap (filter (is_unlisted (completed (view_of image)))) (all ∙ are.reached))
    ∙ sym (unlisted-reached (completed (view_of image)))

pub returns-in_err-add_if-clause-untold : goal.returns-in_err-add_if-clause-untold
returns-in_err-add_if-clause-untold g c =
    untold_on c.add_if.result c.from_residual.result c.in_err-add_if.field-0.0 {a = g.F.Folder.told c.args.folder.now} (Agrees c.args.files.now) (Agrees c.args.files.now) (λ image agrees. agrees) (c.add_if.ensures.reads.stays ∙ c.loop-i.invariant.stays) c.add_if.ensures.untold c.in_err-add_if.was c.from_residual.ensures.1
