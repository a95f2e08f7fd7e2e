use Rattle.std.proofs.Common.{◌≡◌, ℕ, suc, ◌+◌, ◌++◌, [], List, length, refl, sym, ap, ap₂, subst, ◌∙◌, arith}
use Rattle.std.specs.Prelude.{◌==◌, slice_index}
use Rattle.spec_folder.specs.Chains.{Chain, chain, chain_from, most_records}
use Rattle.spec_folder.specs.View.{store_of}
use Rattle.blk_audit.specs.Records.{AreRecordsOf}
use Rattle.spec_image.specs.Image.{Image}
use Rattle.blk_lru.proofs.Conditions.{told_before, told_now, told_stays}
use Rattle.blk_audit.specs.Chaining.{AreFirstReached, AreOfFirst, HasFirst, HasRecords, RecordsStand, words_reached}
use Rattle.blk_audit.proofs.Chained.{first_of_all}
use Rattle.blk_audit.proofs.Ends.{first_next, length_more}
use Rattle.blk_audit.proofs.ReadChains.{first_more}
use Rattle.blk_audit.proofs.Shown.{table_is}
use Rattle.blk_audit.proofs.reaching.follow_all.Goals as goal

pub loop-i-init : goal.loop-i-init
loop-i-init g c =
    let none : c.args.first ≡ c.args.first + 0 = omega arith in
    record {
      met = c.requires.met;
      reached = λ image there agrees. subst (λ (n : ℕ). AreFirstReached (store_of image) n c.args.reached.now) none (c.requires.before image there agrees);
      stand = c.requires.stand;
      many = c.requires.many ∙ none;
      way = λ image there. subst (HasFirst c.args.files.now image (words_reached c.args.reached.now)) none (c.requires.there image there);
      stays = refl;
      later = omega arith;
    }

pub follow-requires-clause-others : goal.follow-requires-clause-others
follow-requires-clause-others g c image there agrees =
    let all = (c.loop-i.invariant.reached image (told_before image c.loop-i.invariant.stays there) agrees).words in
    subst (λ (n : ℕ). AreOfFirst (store_of image) (n + c.loop-i.i) (words_reached c.loop-i.reached)) (sym c.from.ensures)
    (subst (AreOfFirst (store_of image) (c.args.first + c.loop-i.i)) (sym all) (first_of_all (store_of image) (c.args.first + c.loop-i.i)))

pub loop-i-preserved : goal.loop-i-preserved
loop-i-preserved g c =
    let next : suc (c.args.first + c.loop-i.i) ≡ c.args.first + (c.loop-i.i + 1) = omega arith in
    record {
      met = c.in_ok-end_bucket.ensures.reached;
      reached = λ image there agrees.
          let now = told_now image c.loop-i.invariant.stays there in
          let bucket : c.from.result + c.loop-i.i ≡ c.args.first + c.loop-i.i = ap (λ (n : ℕ). n + c.loop-i.i) c.from.ensures in
          let word : slice_index c.args.table.now c.loop-i.i ≡ (store_of image).table (c.args.first + c.loop-i.i) = c.requires.words image there c.loop-i.i c.loop-i-test.true ∙ table_is image (c.args.first + c.loop-i.i) in
          let own : chain_from (store_of image) (c.from.result + c.loop-i.i) most_records [] (slice_index c.args.table.now c.loop-i.i) ≡ chain (store_of image) (c.args.first + c.loop-i.i) = ap₂ (λ (b w : ℕ). chain_from (store_of image) b most_records [] w) bucket word in
          subst (λ (n : ℕ). AreFirstReached (store_of image) n c.end_bucket.new.self) next
          (first_next (store_of image) (c.args.first + c.loop-i.i) c.loop-i.reached c.follow.new.reached c.end_bucket.new.self (c.in_ok-end.end == 0)
          (c.loop-i.invariant.reached image there agrees)
          (c.in_ok-end.ensures.reached image now agrees ∙ ap (λ (more : Chain). words_reached c.loop-i.reached ++ more.reached) own)
          c.in_ok-end.ensures.ends
          (ap (λ (e : ℕ). e == 0) (c.in_ok-end.ensures.end image now agrees ∙ ap (λ (more : Chain). more.end) own))
          c.in_ok-end_bucket.ensures.words c.in_ok-end_bucket.ensures.ends c.in_ok-end_bucket.ensures.closed);
      stand = subst (RecordsStand c.args.files.now) (sym c.in_ok-end_bucket.ensures.words) c.in_ok-end.ensures.stand;
      many =
          let size = ap (λ (xs : List ℕ). length xs) c.in_ok-end_bucket.ensures.ends ∙ length_more c.follow.new.reached.ends.items (length (words_reached c.follow.new.reached)) in
          let kept = ap (λ (xs : List ℕ). length xs) c.in_ok-end.ensures.ends.ends in
          omega (arith, size, kept, c.loop-i.invariant.many);
      way = λ image there.
          let now = told_now image c.loop-i.invariant.stays there in
          let more : c.args.first + c.loop-i.i + 1 ≡ c.args.first + (c.loop-i.i + 1) = omega arith in
          subst (λ (words : List ℕ). HasFirst c.args.files.now image words (c.args.first + (c.loop-i.i + 1))) (sym c.in_ok-end_bucket.ensures.words)
          (subst (HasFirst c.args.files.now image (words_reached c.follow.new.reached)) more
          (first_more c.args.files.now image (words_reached c.loop-i.reached) (words_reached c.follow.new.reached) (c.args.first + c.loop-i.i) (slice_index c.args.table.now c.loop-i.i) (c.loop-i.invariant.way image there) (c.in_ok-end.ensures.checked image now) (c.in_ok-end.ensures.looked image now)
          (c.requires.words image there c.loop-i.i c.loop-i-test.true) (c.in_ok-end.ensures.more image now)));
      stays = c.in_ok-end.ensures.reads.stays ∙ c.loop-i.invariant.stays;
      later = omega (arith, c.in_ok-end.ensures.reads.later, c.loop-i.invariant.later);
    }

pub follow-requires-clause-records : goal.follow-requires-clause-records
follow-requires-clause-records g c = told_stays (λ (image : Image). AreRecordsOf image c.args.records.now) c.loop-i.invariant.stays c.requires.records

pub follow-requires-clause-there : goal.follow-requires-clause-there
follow-requires-clause-there g c = told_stays (λ (image : Image). HasRecords c.args.files.now image (words_reached c.loop-i.reached)) c.loop-i.invariant.stays (λ image there. (c.loop-i.invariant.way image there).records)
