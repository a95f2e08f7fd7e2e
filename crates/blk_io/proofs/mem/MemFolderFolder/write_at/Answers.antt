use Rattle.std.proofs.Common.{length, subst}
use Rattle.std.specs.Result.{is_err}
use Rattle.spec_image.specs.Steps.{words}
use Rattle.blk_io.specs.FileNames.{file_of}
use Rattle.blk_io.specs.Counts.{CountsCall, fails_next, next_failure}
use Rattle.blk_io.specs.MemFolder.{mem_counts}
use Rattle.blk_io.proofs.Writes.{none_cut, listed_last}
use Rattle.blk_io.proofs.mem.MemFolderFolder.write_at.Goals as goal

pub returns-clause-counted : goal.returns-clause-counted
returns-clause-counted c =
    let old = mem_counts c.args.self.now in
    let new = mem_counts c.write_within.new.self in
    let file = file_of c.args.file in
    subst (CountsCall old new (is_err c.write_within.result)) (none_cut (fails_next old) c.word_count-left.result (length (words file c.args.at c.args.bytes.now)) (c.word_count-left.ensures file)) c.write_within.ensures.counted

pub returns-clause-lasted : goal.returns-clause-lasted
returns-clause-lasted c =
    let old = mem_counts c.args.self.now in
    let file = file_of c.args.file in
    λ finds. listed_last (words file c.args.at c.args.bytes.now) (next_failure old) c.word_count-left.result (c.word_count-left.ensures file) (c.write_within.ensures.lasted finds)
