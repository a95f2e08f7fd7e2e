-- The exit statuses of the program: their numbers and their texts.
use Rattle.std.specs.Prelude.{ℕ, List, codes}
use Rattle.blk_run.specs.declared.ending.Status.{Status}
use Rattle.blk_run.specs.declared.ending.Status.TheVariants as status

-- the exit status as a number
abbrev pub code_of : Status → ℕ
code_of status.Ok = 0
code_of status.Refused = 1
code_of status.Words = 2
code_of status.Device = 3
code_of status.Source = 4
code_of status.Sink = 5
code_of status.Memory = 6
code_of status.Damaged = 7
code_of status.TooLong = 8

-- the text that is shown for a status
abbrev pub status_text : Status → List ℕ
status_text status.Ok = codes "done"
status_text status.Refused = codes "something was refused"
status_text status.Words = codes "the words are no command"
status_text status.Device = codes "the folder failed"
status_text status.Source = codes "the input failed"
status_text status.Sink = codes "the output failed"
status_text status.Memory = codes "there is no memory"
status_text status.Damaged = codes "the folder is damaged"
status_text status.TooLong = codes "the input is too long"
