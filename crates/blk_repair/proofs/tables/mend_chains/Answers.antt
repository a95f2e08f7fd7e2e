use Rattle.std.proofs.Common.{◌≡◌, ◌<◌, ℕ, None, inl, refl, arith}
use Rattle.spec_image.proofs.Runs.{part_whole}
use Rattle.blk_io.proofs.Carried.{carried, if_damaged_weaker}
use Rattle.blk_repair.proofs.BucketWordRuns.{front-there, fronts-after, fronts-on}
use Rattle.blk_repair.proofs.TableRuns.{mended-none, mended-on, own-check, part-on, part-so-far, repair-mends, repair-passes, repair-steps, stays-mended, were-untold}
use Rattle.blk_repair.proofs.tables.mend_chains.Goals as goal

pub loop-i-init : goal.loop-i-init
loop-i-init g c = record {
  are = mended-none (g.F.Folder.told c.args.folder.now) c.args.records.now c.args.ends.now c.args.whole.now;
  is_open = c.requires.is_open;
  size = refl;
  fronts = λ image there other low high. absurd (omega (arith, high));
  later = omega arith;
}

-- the bucket of a round is one of the table
below : (i n : ℕ) → i < n → n ≡ 65536 → i < 65536
below i n less is = omega (arith, less, is)

-- ---- the words of the table are read

pub returns-in_err-read-clause-prefix : goal.returns-in_err-read-clause-prefix
returns-in_err-read-clause-prefix g c =
    part-so-far (g.F.Folder.told c.args.folder.now) (g.F.Folder.told c.read_piece.new.folder) c.args.records.now c.args.ends.now c.args.whole.now c.loop-i.i (stays-mended c.read_piece.ensures.reads.stays c.loop-i.invariant.are)

pub returns-in_err-read-clause-stops : goal.returns-in_err-read-clause-stops
returns-in_err-read-clause-stops g c = repair-passes (g.F.Folder.told c.args.folder.now) (g.F.Folder.told c.read_piece.new.folder) c.args.records.now c.args.ends.now c.args.whole.now (returns-in_err-read-clause-prefix g c)

pub returns-in_err-read-clause-untold : goal.returns-in_err-read-clause-untold
returns-in_err-read-clause-untold g c scanned =
    carried c.read_piece.result c.from_residual.result c.in_err-read.field-0.0 (λ _. (g.F.Folder.told c.args.folder.now).files ≡ None) c.in_err-read.was c.from_residual.ensures.1
    (if_damaged_weaker c.read_piece.result _ _
    (λ damage none. were-untold (g.F.Folder.told c.args.folder.now) (g.F.Folder.told c.loop-i.folder) c.args.records.now c.args.ends.now c.args.whole.now c.loop-i.i c.loop-i.invariant.are scanned none)
    (c.read_piece.ensures.untold (λ image here. (c.loop-i.invariant.is_open image here).whole_index)))

pub returns-in_err-read-clause-damaged : goal.returns-in_err-read-clause-damaged
returns-in_err-read-clause-damaged g c =
    carried c.read_piece.result c.from_residual.result c.in_err-read.field-0.0 _ c.in_err-read.was c.from_residual.ensures.1
    (if_damaged_weaker c.read_piece.result _ _ (λ damage short. inl short) c.read_piece.ensures.damaged)

-- ---- a bucket is repaired

pub returns-in_err-mend_bucket-clause-prefix : goal.returns-in_err-mend_bucket-clause-prefix
returns-in_err-mend_bucket-clause-prefix g c =
    part-on (g.F.Folder.told c.args.folder.now) (g.F.Folder.told c.read_piece.new.folder) c.args.records.now c.args.ends.now c.args.whole.now c.loop-i.i _ c.records_of-own.result.now _ (below c.loop-i.i _ c.loop-i-test.true c.requires.ends.many) c.records_of-own.ensures refl (front-there c.read_piece.new.table c.loop-i.i c.in_ok-read.read _ _ c.in_ok-read.ensures.reached refl (fronts-after c.loop-i.table c.read_piece.new.table c.loop-i.i c.loop-i.read c.in_ok-read.read c.read_piece.ensures.reads.stays c.loop-i.invariant.fronts c.in_ok-read.ensures.fronts))
    (stays-mended c.read_piece.ensures.reads.stays c.loop-i.invariant.are) (g.F.Folder.told c.mend_bucket.new.folder) c.mend_bucket.ensures.prefix

pub returns-in_err-mend_bucket-clause-stops : goal.returns-in_err-mend_bucket-clause-stops
returns-in_err-mend_bucket-clause-stops g c = repair-passes (g.F.Folder.told c.args.folder.now) (g.F.Folder.told c.mend_bucket.new.folder) c.args.records.now c.args.ends.now c.args.whole.now (returns-in_err-mend_bucket-clause-prefix g c)

pub returns-in_err-mend_bucket-clause-untold : goal.returns-in_err-mend_bucket-clause-untold
returns-in_err-mend_bucket-clause-untold g c scanned =
    carried c.mend_bucket.result c.from_residual-in_err-mend_bucket.result c.in_err-mend_bucket.field-0.0 (λ _. (g.F.Folder.told c.args.folder.now).files ≡ None) c.in_err-mend_bucket.was c.from_residual-in_err-mend_bucket.ensures.1
    (if_damaged_weaker c.mend_bucket.result _ _
    (λ damage none.
    were-untold (g.F.Folder.told c.args.folder.now) (g.F.Folder.told c.read_piece.new.folder) c.args.records.now c.args.ends.now c.args.whole.now c.loop-i.i (stays-mended c.read_piece.ensures.reads.stays c.loop-i.invariant.are) scanned none)
    (c.mend_bucket.ensures.untold
    (own-check (g.F.Folder.told c.args.folder.now) (g.F.Folder.told c.read_piece.new.folder) c.args.records.now c.args.ends.now c.args.whole.now c.loop-i.i _ c.records_of-own.result.now _ (below c.loop-i.i _ c.loop-i-test.true c.requires.ends.many) c.records_of-own.ensures refl (front-there c.read_piece.new.table c.loop-i.i c.in_ok-read.read _ _ c.in_ok-read.ensures.reached refl (fronts-after c.loop-i.table c.read_piece.new.table c.loop-i.i c.loop-i.read c.in_ok-read.read c.read_piece.ensures.reads.stays c.loop-i.invariant.fronts c.in_ok-read.ensures.fronts))
    (stays-mended c.read_piece.ensures.reads.stays c.loop-i.invariant.are) scanned)))

pub loop-i-preserved : goal.loop-i-preserved
loop-i-preserved g c = record {
  are = mended-on (g.F.Folder.told c.args.folder.now) (g.F.Folder.told c.read_piece.new.folder) c.args.records.now c.args.ends.now c.args.whole.now c.loop-i.i _ c.records_of-own.result.now _ (below c.loop-i.i _ c.loop-i-test.true c.requires.ends.many) c.records_of-own.ensures refl (front-there c.read_piece.new.table c.loop-i.i c.in_ok-read.read _ _ c.in_ok-read.ensures.reached refl (fronts-after c.loop-i.table c.read_piece.new.table c.loop-i.i c.loop-i.read c.in_ok-read.read c.read_piece.ensures.reads.stays c.loop-i.invariant.fronts c.in_ok-read.ensures.fronts))
      (stays-mended c.read_piece.ensures.reads.stays c.loop-i.invariant.are) (g.F.Folder.told c.mend_bucket.new.folder) c.in_ok-mend_bucket.ensures.steps c.mend_bucket.ensures.writes.silent;
  is_open = c.mend_bucket.ensures.is_open;
  size = c.read_piece.ensures.size;
  fronts = fronts-on (g.F.Folder.told c.read_piece.new.folder) (g.F.Folder.told c.mend_bucket.new.folder) c.read_piece.new.table c.loop-i.i c.in_ok-read.read
      (fronts-after c.loop-i.table c.read_piece.new.table c.loop-i.i c.loop-i.read c.in_ok-read.read c.read_piece.ensures.reads.stays c.loop-i.invariant.fronts c.in_ok-read.ensures.fronts) c.in_ok-mend_bucket.ensures.others c.mend_bucket.ensures.writes.silent;
  later = omega (arith, c.loop-i.invariant.later, c.read_piece.ensures.reads.later, c.mend_bucket.ensures.writes.later);
}

-- ---- all buckets are repaired

pub returns-clause-steps : goal.returns-clause-steps
returns-clause-steps g c =
    repair-steps (g.F.Folder.told c.args.folder.now) (g.F.Folder.told c.loop-i.folder) c.args.records.now c.args.ends.now c.args.whole.now c.loop-i.i (let i = c.loop-i.auto.i-end in let n = c.requires.ends.many in omega (arith, i, n, c.loop-i-test.false)) c.loop-i.invariant.are

pub returns-clause-prefix : goal.returns-clause-prefix
returns-clause-prefix g c image there scanned = part_whole (returns-clause-steps g c image there scanned)

pub returns-clause-mended : goal.returns-clause-mended
returns-clause-mended g c = repair-mends (g.F.Folder.told c.args.folder.now) (g.F.Folder.told c.loop-i.folder) c.args.records.now c.args.ends.now c.args.whole.now (returns-clause-steps g c)

pub returns-clause-stops : goal.returns-clause-stops
returns-clause-stops g c = repair-passes (g.F.Folder.told c.args.folder.now) (g.F.Folder.told c.loop-i.folder) c.args.records.now c.args.ends.now c.args.whole.now (returns-clause-prefix g c)
