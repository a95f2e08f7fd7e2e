-- The text of replies.
use Rattle.std.specs.Prelude.{ℕ, List, [], ◌∷◌, ◌++◌, length, codes}
use Rattle.std.specs.List.{flat_map}
use Rattle.blk_model.specs.declared.Answer.{Answer}
use Rattle.blk_model.specs.declared.Answer.TheVariants as answer
use Rattle.blk_model.specs.Items.{Item, main, part, Row, main_row, part_row, plain, sparse}
use Rattle.blk_model.specs.Reply.{Reply, answered, gave, showed}
use Rattle.blk_model.specs.RefusalTable.{number_of_refusal, name_of_refusal}
use Rattle.blk_model.specs.Room.{Group, items_of_group}
use Rattle.blk_model.specs.Step.{Outcome}
use Rattle.blk_script.specs.declared.fault.LineFault.{LineFault}
use Rattle.blk_script.specs.Faults.{fault_number, fault_name}
use Rattle.blk_script.specs.Spelling.{number_text, key_text, data_text, line}

-- the line of a parse error, with the number of the script line, counted from 1
abbrev pub line_fault_text : ℕ → LineFault → List ℕ
line_fault_text number why = line (codes "fault" ∷ number_text number ∷ number_text (fault_number why) ∷ fault_name why ∷ [])

-- the line of an evicted item
abbrev pub evicted_line : Item → List ℕ
evicted_line (main key) = line (codes "evicted" ∷ key_text key ∷ [])
evicted_line (part key n) = line (codes "evicted" ∷ key_text key ∷ codes "part" ∷ number_text n ∷ [])

-- the line of a listed row
abbrev pub row_line : Row → List ℕ
row_line (main_row key plain streams) = line (codes "main" ∷ key_text key ∷ number_text (length streams.0) ∷ number_text (length streams.1) ∷ number_text (length streams.2) ∷ [])
row_line (main_row key (sparse signature) streams) = line (codes "sparse" ∷ key_text key ∷ number_text (length streams.0) ∷ [])
row_line (part_row key n value) = line (codes "part" ∷ key_text key ∷ number_text n ∷ number_text (length value.bytes) ∷ [])

-- the line of an answer; for bytes and for listed rows, which are printed before, the line with their number
abbrev pub answer_line : Answer → List ℕ
answer_line answer.Done = line (codes "ok" ∷ [])
answer_line (answer.Bytes n) = line (codes "data" ∷ number_text n ∷ [])
answer_line (answer.Wrote n) = line (codes "ok" ∷ number_text n ∷ [])
answer_line (answer.Size n) = line (codes "size" ∷ number_text n ∷ [])
answer_line (answer.Range start length_of_run) = line (codes "range" ∷ number_text start ∷ number_text length_of_run ∷ [])
answer_line (answer.Listed n) = line (codes "end" ∷ number_text n ∷ [])
answer_line (answer.Trimmed n) = line (codes "ok" ∷ number_text n ∷ [])
answer_line (answer.Totals items bytes) = line (codes "total" ∷ number_text items ∷ number_text bytes ∷ [])
answer_line (answer.Refused why) = line (codes "refused" ∷ number_text (number_of_refusal why) ∷ name_of_refusal why ∷ [])

-- the text of a reply
unfoldable pub reply_text : Reply → List ℕ
reply_text (answered a) = answer_line a
reply_text (gave bytes) = line (codes "data" ∷ number_text (length bytes) ∷ data_text bytes ∷ [])
reply_text (showed rows) = flat_map row_line rows ++ answer_line (answer.Listed (length rows))

-- the text of evicted items, a line for each
abbrev pub evicted_text : List Group → List ℕ
evicted_text groups = flat_map evicted_line (flat_map items_of_group groups)

-- what is printed of a command: the evicted items, and then the reply
abbrev pub outcome_text : Outcome → List ℕ
outcome_text outcome = evicted_text outcome.groups ++ reply_text outcome.reply
