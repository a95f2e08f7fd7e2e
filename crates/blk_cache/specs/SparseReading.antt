-- A SparseRead and a SparseRange: the request, and the answer from the run of present bytes that is found.
use Rattle.std.specs.Prelude.{ℕ, ◌==◌, if◌then◌else◌}
use Rattle.blk_model.specs.Request.{Request, to_sparse_range, to_sparse_read}
use Rattle.blk_model.specs.declared.Answer.{Answer}
use Rattle.blk_model.specs.declared.Answer.TheVariants as answer
use Rattle.blk_cache.specs.declared.sparse_reading.Wanted.{Wanted}
use Rattle.blk_cache.specs.declared.sparse_reading.Wanted.TheVariants as wanted

-- the request for the bytes of a range, or for the first run of present bytes in it
abbrev pub to_use_sparse : Wanted → (handle offset count : ℕ) → Request
to_use_sparse wanted.Bytes handle offset count = to_sparse_read handle offset count
to_use_sparse wanted.Run handle offset count = to_sparse_range handle offset count

-- the answer from the first run of present bytes: for a read its length where it begins at the offset, else 0; for a range the run
abbrev pub told_of_run : Wanted → (offset : ℕ) → (run : ℕ × ℕ) → Answer
told_of_run wanted.Bytes offset run = answer.Bytes (if run.0 == offset then run.1 else 0)
told_of_run wanted.Run offset run = answer.Range run.0 run.1
