-- What the generator counts of its commands.
use Rattle.std.specs.Prelude.{ℕ, ◌+◌, ◌-◌, ◌<◌, ◌^◌, if◌then◌else◌, List, [], ◌∷◌, length, min, sum_by, codes}
use Rattle.blk_model.specs.declared.Answer.{Answer}
use Rattle.blk_model.specs.declared.Answer.TheVariants as answer
use Rattle.blk_model.specs.Reply.{answer_of}
use Rattle.blk_model.specs.Room.{items_of_group}
use Rattle.blk_model.specs.Step.{Outcome}
use Rattle.blk_script.specs.Spelling.{number_text, line}
use Rattle.spec_run.specs.Script.{is_refusal, refusal_of}
use Rattle.blk_gen.specs.declared.counting.Counts.{Counts}

-- nothing is counted yet
abbrev pub no_counts : Counts
no_counts = record { commands = 0; refused = 0; evicted = 0; read = 0 }

-- how many bytes a Read gave, by its answer; 0 for other commands
abbrev pub bytes_read : Answer → ℕ
bytes_read (answer.Bytes n) = n
bytes_read _ = 0

-- 1 if the answer is a refusal, else 0
abbrev pub refusals_in : Answer → ℕ
refusals_in a = if is_refusal (refusal_of a) then 1 else 0

-- the counters with one more command, by its answer and by how many items it evicted
abbrev pub with_answer : Answer → ℕ → Counts → Counts
with_answer a evicted counts = record {
  commands = counts.commands + 1;
  refused = counts.refused + refusals_in a;
  evicted = counts.evicted + evicted;
  read = counts.read + bytes_read a;
}

-- how many items a command evicted, parts included
abbrev pub evicted_items : Outcome → ℕ
evicted_items outcome = sum_by (λ group. length (items_of_group group)) outcome.groups

-- the counters with one more command, by its outcome in the model
abbrev pub with_outcome : Outcome → Counts → Counts
with_outcome outcome counts = with_answer (answer_of outcome.reply) (evicted_items outcome) counts

-- the counters as 64-bit numbers have them: each saturates
abbrev pub capped : Counts → Counts
capped counts = record {
  commands = min counts.commands (2 ^ 64 - 1);
  refused = min counts.refused (2 ^ 64 - 1);
  evicted = min counts.evicted (2 ^ 64 - 1);
  read = min counts.read (2 ^ 64 - 1);
}

-- each counter fits into 64 bits
pub record AreLong (counts : Counts) : Type 0 where
  pub commands : counts.commands < 2 ^ 64
  pub refused : counts.refused < 2 ^ 64
  pub evicted : counts.evicted < 2 ^ 64
  pub read : counts.read < 2 ^ 64

-- the printed line of the counters
abbrev pub counts_line : Counts → List ℕ
counts_line counts =
    line (codes "commands" ∷ number_text counts.commands ∷ codes "refused" ∷ number_text counts.refused ∷ codes "evicted" ∷ number_text counts.evicted ∷ codes "read" ∷ number_text counts.read ∷ [])
