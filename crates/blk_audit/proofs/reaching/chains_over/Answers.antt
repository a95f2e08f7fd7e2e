use Rattle.std.proofs.Common.{◌≡◌, ℕ, ◌+◌, ◌*◌, List, length, refl, ap, subst, ◌∙◌, arith}
use Rattle.blk_disk.specs.Open.{IsOpen}
use Rattle.spec_folder.specs.View.{store_of}
use Rattle.spec_image.specs.Image.{Image}
use Rattle.blk_lru.proofs.Conditions.{told_now, told_stays}
use Rattle.blk_disk.specs.Tables.{Agrees}
use Rattle.blk_audit.specs.Chaining.{AreFirstReached, HasFirst, words_reached}
use Rattle.blk_audit.specs.Records.{AreRecordsOf}
use Rattle.blk_audit.proofs.Carrying.{untold_on}
use Rattle.blk_audit.proofs.Ends.{are_buckets, has_buckets, none_reached, stand_none}
use Rattle.blk_audit.proofs.ReadChains.{none_first}
use Rattle.blk_audit.proofs.reaching.chains_over.Goals as goal

pub loop-piece-init : goal.loop-piece-init
loop-piece-init g c = record {
  met = c.none-reached.ensures.reached;
  reached = λ image there agrees. none_reached (store_of image) c.none-reached.result c.none-reached.ensures.none c.none-reached.ensures.ends c.none-reached.ensures.closed;
  stand = stand_none c.args.files.now (words_reached c.none-reached.result) c.none-reached.ensures.none;
  many = ap (λ (xs : List ℕ). length xs) c.none-reached.ensures.ends;
  way = λ image there. none_first c.args.files.now image (words_reached c.none-reached.result) c.none-reached.ensures.none;
  table = λ image there some. absurd (omega (arith, some));
  stays = refl;
  later = omega arith;
}

pub loop-piece-preserved : goal.loop-piece-preserved
loop-piece-preserved g c =
    let next : c.loop-piece.piece * 16384 + 16384 ≡ (c.loop-piece.piece + 1) * 16384 = omega arith in
    record {
      met = c.in_ok-follow_piece.ensures.met;
      reached = λ image there agrees. subst (λ (n : ℕ). AreFirstReached (store_of image) n c.follow_piece.new.reached) next (c.in_ok-follow_piece.ensures.reached image (told_now image c.loop-piece.invariant.stays there) agrees);
      stand = c.in_ok-follow_piece.ensures.stand;
      many = c.in_ok-follow_piece.ensures.many ∙ next;
      way = λ image there. subst (HasFirst c.args.files.now image (words_reached c.follow_piece.new.reached)) next (c.in_ok-follow_piece.ensures.checked image (told_now image c.loop-piece.invariant.stays there));
      table = λ image there some. let more = c.in_ok-follow_piece.ensures.table image (told_now image c.loop-piece.invariant.stays there) in omega (arith, more);
      stays = c.in_ok-follow_piece.ensures.reads.stays ∙ c.loop-piece.invariant.stays;
      later = omega (arith, c.in_ok-follow_piece.ensures.reads.later, c.loop-piece.invariant.later);
    }

pub follow_piece-requires-clause-records : goal.follow_piece-requires-clause-records
follow_piece-requires-clause-records g c = told_stays (λ (image : Image). AreRecordsOf image c.args.records.now) c.loop-piece.invariant.stays c.requires.records

pub follow_piece-requires-clause-there : goal.follow_piece-requires-clause-there
follow_piece-requires-clause-there g c = told_stays (λ (image : Image). HasFirst c.args.files.now image (words_reached c.loop-piece.reached) (c.loop-piece.piece * 16384)) c.loop-piece.invariant.stays c.loop-piece.invariant.way

pub returns-clause-checked : goal.returns-clause-checked
returns-clause-checked g c image there =
    let e : c.loop-piece.piece ≡ 4 = omega (arith, c.loop-piece-test.false) in
    let table = c.loop-piece.invariant.table image there (omega (arith, e)) in
    let all : c.loop-piece.piece * 16384 ≡ 65536 = omega (arith, e) in
    record {
      table = omega (arith, table, e);
      chains = subst (HasFirst c.args.files.now image (words_reached c.loop-piece.reached)) all (c.loop-piece.invariant.way image there);
    }

pub returns-in_err-follow_piece-clause-untold : goal.returns-in_err-follow_piece-clause-untold
returns-in_err-follow_piece-clause-untold g c =
    untold_on c.follow_piece.result c.from_residual.result c.in_err-follow_piece.field-0.0 {a = g.F.Folder.told c.args.folder.now} (IsOpen c.args.files.now) (IsOpen c.args.files.now) (λ image is. is) (c.follow_piece.ensures.reads.stays ∙ c.loop-piece.invariant.stays) c.follow_piece.ensures.untold c.in_err-follow_piece.was c.from_residual.ensures.1

pub follow_piece-requires-clause-before : goal.follow_piece-requires-clause-before
follow_piece-requires-clause-before g c = told_stays (λ (image : Image). Agrees c.args.files.now image → AreFirstReached (store_of image) (c.loop-piece.piece * 16384) c.loop-piece.reached) c.loop-piece.invariant.stays c.loop-piece.invariant.reached

pub returns-clause-reached : goal.returns-clause-reached
returns-clause-reached g c image there agrees =
    let e : c.loop-piece.piece * 16384 ≡ 65536 = omega (arith, c.loop-piece-test.false) in
    (subst (λ (n : ℕ). AreFirstReached (store_of image) n c.loop-piece.reached) e (c.loop-piece.invariant.reached image there agrees)).words

pub returns-clause-buckets : goal.returns-clause-buckets
returns-clause-buckets g c image there agrees =
    let e : c.loop-piece.piece * 16384 ≡ 65536 = omega (arith, c.loop-piece-test.false) in
    are_buckets (store_of image) c.loop-piece.reached (subst (λ (n : ℕ). AreFirstReached (store_of image) n c.loop-piece.reached) e (c.loop-piece.invariant.reached image there agrees))

pub returns-clause-ends : goal.returns-clause-ends
returns-clause-ends g c =
    let e : c.loop-piece.piece * 16384 ≡ 65536 = omega (arith, c.loop-piece-test.false) in
    has_buckets c.loop-piece.reached c.loop-piece.invariant.met (c.loop-piece.invariant.many ∙ e)
