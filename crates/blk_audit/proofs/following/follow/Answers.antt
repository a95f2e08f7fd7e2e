use Rattle.std.proofs.Common.{◌≡◌, ◌≤◌, ℕ, suc, ◌+◌, ◌-◌, Option, refl, subst, ◌∙◌, arith}
use Rattle.spec_folder.specs.View.{store_of}
use Rattle.blk_audit.specs.Records.{AreRecordsOf}
use Rattle.spec_image.specs.Image.{Image}
use Rattle.blk_lru.proofs.Conditions.{told_now, told_stays}
use Rattle.blk_audit.specs.Chaining.{AreReachedThere, IsReach, IsStepTaken}
use Rattle.blk_audit.proofs.Chained.{begins, goes_on, ends, ends_at, full_at, is_full}
use Rattle.blk_audit.proofs.Ends.{keeps_on}
use Rattle.blk_audit.proofs.ReadChains.{no_fewer, start_full, start_looked, way_begins, way_ends, way_full, way_goes_on}
use Rattle.blk_audit.proofs.Shown.{others_apart}
use Rattle.blk_audit.proofs.following.follow.Goals as goal

pub loop-i-init : goal.loop-i-init
loop-i-init g c = record {
  met = c.requires.met;
  stand = c.requires.stand;
  ends = record { ends = refl; closed = refl };
  followed = λ image there agrees. begins (store_of image) c.args.bucket c.args.reached.now.words.items c.args.start (others_apart image c.args.bucket c.args.reached.now.words.items (c.requires.others image there agrees));
  way = λ image there. way_begins c.args.files.now image c.args.reached.now.words.items c.args.start (c.requires.there image there);
  stays = refl;
  later = omega arith;
}

pub loop-i-preserved : goal.loop-i-preserved
loop-i-preserved g c =
    let e : 16777216 - c.loop-i.i ≡ suc (16777216 - (c.loop-i.i + 1)) = omega (arith, c.loop-i-test.true) in
    record {
      met = c.in_ok-next.ensures.met;
      stand = c.in_ok-next.ensures.stand;
      ends = keeps_on c.args.reached.now c.loop-i.reached c.reach.new.reached c.loop-i.invariant.ends c.in_ok-next.ensures.ends;
      followed = λ image there agrees.
          goes_on (store_of image) c.args.bucket c.args.reached.now.words.items c.loop-i.reached.words.items c.reach.new.reached.words.items c.args.start (16777216 - c.loop-i.i) (16777216 - (c.loop-i.i + 1)) c.loop-i.word c.in-Some.next e (c.loop-i.invariant.followed image there agrees)
          (subst (λ (o : Option ℕ). IsReach (store_of image) c.args.bucket c.loop-i.reached.words.items c.loop-i.word c.reach.new.reached.words.items o) c.in-Some.is (c.in_ok-next.ensures.step image (told_now image c.loop-i.invariant.stays there) agrees));
      way = λ image there.
          let now = told_now image c.loop-i.invariant.stays there in
          way_goes_on c.args.files.now image c.args.reached.now.words.items c.loop-i.reached.words.items c.reach.new.reached.words.items c.args.start c.loop-i.word c.in-Some.next c.loop-i.i (c.loop-i.invariant.way image there) (c.in_ok-next.ensures.checked image now)
          (subst (λ (o : Option ℕ). IsStepTaken c.args.files.now image c.loop-i.reached.words.items c.loop-i.word c.reach.new.reached.words.items o) c.in-Some.is (c.in_ok-next.ensures.taken image now));
      stays = c.in_ok-next.ensures.reads.stays ∙ c.loop-i.invariant.stays;
      later = omega (arith, c.in_ok-next.ensures.reads.later, c.loop-i.invariant.later);
    }

pub returns-in-None-clause-reached : goal.returns-in-None-clause-reached
returns-in-None-clause-reached g c image there agrees =
    let e : 16777216 - c.loop-i.i ≡ suc (16777216 - (c.loop-i.i + 1)) = omega (arith, c.loop-i-test.true) in
    ends (store_of image) c.args.bucket c.args.reached.now.words.items c.loop-i.reached.words.items c.reach.new.reached.words.items c.args.start (16777216 - c.loop-i.i) (16777216 - (c.loop-i.i + 1)) c.loop-i.word e (c.loop-i.invariant.followed image there agrees)
    (subst (λ (o : Option ℕ). IsReach (store_of image) c.args.bucket c.loop-i.reached.words.items c.loop-i.word c.reach.new.reached.words.items o) c.in-None.is (c.in_ok-next.ensures.step image (told_now image c.loop-i.invariant.stays there) agrees))

pub returns-clause-reached : goal.returns-clause-reached
returns-clause-reached g c image there agrees =
    let e : 16777216 - c.loop-i.i ≡ 0 = omega (arith, c.loop-i-test.false) in
    is_full (store_of image) c.args.bucket c.args.reached.now.words.items c.loop-i.reached.words.items c.args.start (16777216 - c.loop-i.i) c.loop-i.word e (c.loop-i.invariant.followed image there agrees)

pub reach-requires-clause-records : goal.reach-requires-clause-records
reach-requires-clause-records g c = told_stays (λ (image : Image). AreRecordsOf image c.args.records.now) c.loop-i.invariant.stays c.requires.records

pub reach-requires-clause-there : goal.reach-requires-clause-there
reach-requires-clause-there g c = told_stays (λ (image : Image). AreReachedThere c.args.files.now image c.loop-i.reached.words.items) c.loop-i.invariant.stays (λ image there. (c.loop-i.invariant.way image there).each)

pub returns-in-None-clause-checked : goal.returns-in-None-clause-checked
returns-in-None-clause-checked g c image there =
    let now = told_now image c.loop-i.invariant.stays there in
    way_ends c.args.files.now image c.args.reached.now.words.items c.loop-i.reached.words.items c.reach.new.reached.words.items c.args.start c.loop-i.word c.loop-i.i (c.loop-i.invariant.way image there)
    (subst (λ (o : Option ℕ). IsStepTaken c.args.files.now image c.loop-i.reached.words.items c.loop-i.word c.reach.new.reached.words.items o) c.in-None.is (c.in_ok-next.ensures.taken image now))
    (c.in_ok-next.ensures.checked image now)

pub returns-in-None-clause-looked : goal.returns-in-None-clause-looked
returns-in-None-clause-looked g c image there =
    let now = told_now image c.loop-i.invariant.stays there in
    start_looked c.args.files.now image c.args.reached.now.words.items c.loop-i.reached.words.items c.reach.new.reached.words.items c.args.start c.loop-i.word c.loop-i.i (c.loop-i.invariant.way image there)
    (subst (λ (o : Option ℕ). IsStepTaken c.args.files.now image c.loop-i.reached.words.items c.loop-i.word c.reach.new.reached.words.items o) c.in-None.is (c.in_ok-next.ensures.taken image now))
    (c.in_ok-next.ensures.checked image now)

pub returns-in-None-clause-more : goal.returns-in-None-clause-more
returns-in-None-clause-more g c image there =
    let now = told_now image c.loop-i.invariant.stays there in
    no_fewer c.args.files.now image c.args.reached.now.words.items c.loop-i.reached.words.items c.reach.new.reached.words.items c.args.start c.loop-i.word c.loop-i.i (c.loop-i.invariant.way image there)
    (subst (λ (o : Option ℕ). IsStepTaken c.args.files.now image c.loop-i.reached.words.items c.loop-i.word c.reach.new.reached.words.items o) c.in-None.is (c.in_ok-next.ensures.taken image now))
    (c.in_ok-next.ensures.checked image now)

pub returns-clause-checked : goal.returns-clause-checked
returns-clause-checked g c image there =
    let full : 16777216 ≤ c.loop-i.i = omega (arith, c.loop-i-test.false) in
    way_full c.args.files.now image c.args.reached.now.words.items c.loop-i.reached.words.items c.args.start c.loop-i.word c.loop-i.i (c.loop-i.invariant.way image there) full

pub returns-clause-looked : goal.returns-clause-looked
returns-clause-looked g c image there =
    let full : 16777216 ≤ c.loop-i.i = omega (arith, c.loop-i-test.false) in
    start_full c.args.files.now image c.args.reached.now.words.items c.loop-i.reached.words.items c.args.start c.loop-i.word c.loop-i.i (c.loop-i.invariant.way image there) full

pub returns-clause-more : goal.returns-clause-more
returns-clause-more g c image there = (c.loop-i.invariant.way image there).more

pub returns-in-None-clause-end : goal.returns-in-None-clause-end
returns-in-None-clause-end g c image there agrees =
    let e : 16777216 - c.loop-i.i ≡ suc (16777216 - (c.loop-i.i + 1)) = omega (arith, c.loop-i-test.true) in
    ends_at (store_of image) c.args.bucket c.args.reached.now.words.items c.loop-i.reached.words.items c.reach.new.reached.words.items c.args.start (16777216 - c.loop-i.i) (16777216 - (c.loop-i.i + 1)) c.loop-i.word e (c.loop-i.invariant.followed image there agrees)
    (subst (λ (o : Option ℕ). IsReach (store_of image) c.args.bucket c.loop-i.reached.words.items c.loop-i.word c.reach.new.reached.words.items o) c.in-None.is (c.in_ok-next.ensures.step image (told_now image c.loop-i.invariant.stays there) agrees))

pub returns-clause-end : goal.returns-clause-end
returns-clause-end g c image there agrees =
    let e : 16777216 - c.loop-i.i ≡ 0 = omega (arith, c.loop-i-test.false) in
    full_at (store_of image) c.args.bucket c.args.reached.now.words.items c.loop-i.reached.words.items c.args.start (16777216 - c.loop-i.i) c.loop-i.word e (c.loop-i.invariant.followed image there agrees)

pub returns-in-None-clause-ends : goal.returns-in-None-clause-ends
returns-in-None-clause-ends g c = keeps_on c.args.reached.now c.loop-i.reached c.reach.new.reached c.loop-i.invariant.ends c.in_ok-next.ensures.ends
