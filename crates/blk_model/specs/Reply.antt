-- What a command replies.
use Rattle.std.specs.Prelude.{ℕ, List, length}
use Rattle.blk_model.specs.declared.Answer.{Answer}
use Rattle.blk_model.specs.declared.Answer.TheVariants as answer
use Rattle.blk_model.specs.Items.{Row}

-- a reply: an answer with no more to print, or the bytes that were read, or the rows that were listed
pub data Reply : Type 0 where
  answered : Answer → Reply
  gave : List ℕ → Reply
  showed : List Row → Reply

-- the answer in a reply: of bytes and of rows their number
abbrev pub answer_of : Reply → Answer
answer_of (answered a) = a
answer_of (gave bytes) = answer.Bytes (length bytes)
answer_of (showed rows) = answer.Listed (length rows)
