-- Small runs, computed.
use Rattle.std.proofs.Common.{◌≡◌, ℕ, [], ◌∷◌, codes, refl, true, false, length}
use Rattle.hex.specs.Hex.{decode_pairs}
use Rattle.percent_encoding.specs.Percent.{percent_decode}
use Rattle.blk_model.proofs.Computing.{computing}
use Rattle.blk_model.specs.Holding.{rest}
use Rattle.blk_model.specs.Request.{Request, to_close, to_create}
use Rattle.blk_model.specs.State.{Bounds}
use Rattle.blk_io.specs.Streams.{Readings}
use Rattle.blk_script.specs.Fields.{data_field, key_field, line_fields, number_field}
use Rattle.blk_script.specs.Line.{command_words, read_text, reading}
use Rattle.blk_script.specs.Reply.{reply_text}
use Rattle.blk_script.specs.Spelling.{data_text, key_text}
use Rattle.spec_run.specs.Lines.{lines, whole_lines, with_bytes}
use Rattle.spec_run.specs.Script.{Script, session_script, until_refused, list_script, put_script, get_script, count_script}
use Rattle.spec_run.specs.Run.{Run, Stamped, cut_after, run_of, turns, state_after, closings, commands, last_state, text_of, refuse}

-- Lines.

-- an empty line is one, and an empty rest is none
lines_cut : lines (codes "ab\n\ncd") ≡ codes "ab" ∷ [] ∷ codes "cd" ∷ []
unfolding with_bytes
lines_cut = refl

lines_ended : lines (codes "ab\n") ≡ codes "ab" ∷ []
unfolding with_bytes
lines_ended = refl

no_lines : lines [] ≡ []
unfolding with_bytes
no_lines = refl

whole_alone : whole_lines (codes "ab\ncd") ≡ codes "ab" ∷ []
unfolding with_bytes
whole_alone = refl

-- Runs on an empty folder, with the clock at 40 for the opening, then at 50, and at 100 from then on.

abbrev small : Bounds
small = record { max_bytes = 1000; max_items = 10 }

abbrev clock : Readings
clock = record { ahead = 40 ∷ 50 ∷ []; last = 100 }

abbrev stamped : ℕ → Request → Stamped
stamped moment request = record { moment = moment; request = request }

abbrev run : Script → Run
run script = run_of script [] small clock

-- a put of a key that is missing: that it was missing isn't printed, and doesn't count
put_missing : text_of (run (put_script (codes "k") 0 (1 ∷ 2 ∷ []))).turns ≡ codes "ok\nok 2\nok\n"
unfolding computing key_text data_text reply_text until_refused turns
put_missing = refl

put_counts : refuse (run (put_script (codes "k") 0 (1 ∷ 2 ∷ []))).turns ≡ false
unfolding computing key_text data_text reply_text until_refused turns
put_counts = refl

-- a get of a missing key ends after its first reply, and counts
get_missing : text_of (run (get_script (codes "k") 0)).turns ≡ codes "refused 3 Missing\n"
unfolding computing key_text data_text reply_text until_refused turns
get_missing = refl

get_counts : refuse (run (get_script (codes "k") 0)).turns ≡ true
unfolding computing key_text data_text reply_text until_refused turns
get_counts = refl

list_none : text_of (run list_script).turns ≡ codes "end 0\n"
unfolding computing key_text data_text reply_text until_refused turns
list_none = refl

count_none : text_of (run count_script).turns ≡ codes "items 0 bytes 0\n"
unfolding computing turns
count_none = refl

-- a session: a line that is no command, a Create, and a byte of sparse data; the handle is closed in the end, and then the entry and its part are durable
abbrev session : Run
session = run_of (session_script 1 (lines (codes "fly 1\ncreate 0 a\nswrite 0 0 61\n"))) [] (record { max_bytes = 10000; max_items = 10 }) clock

session_text : text_of session.turns ≡ codes "fault 1 2 UnknownWord\nok\nok 1\n"
unfolding computing decode_pairs percent_decode line_fields number_field data_field key_field reading command_words read_text key_text data_text reply_text session_script turns with_bytes
session_text = refl

session_commands : length (commands session) ≡ 3
unfolding computing decode_pairs percent_decode line_fields number_field data_field key_field reading command_words read_text key_text data_text reply_text session_script turns with_bytes state_after closings commands
session_commands = refl

session_rest : length (rest (last_state session)) ≡ 2
unfolding computing decode_pairs percent_decode line_fields number_field data_field key_field reading command_words read_text key_text data_text reply_text session_script turns with_bytes state_after closings commands
session_rest = refl

-- two handles that are left open are closed, the least first, the first at the reading after the last command
abbrev two_left : Run
two_left = run (session_script 1 (lines (codes "create 1 b\ncreate 0 a\n")))

two_closed : commands two_left ≡ stamped 50 (to_create 1 (codes "b")) ∷ stamped 100 (to_create 0 (codes "a")) ∷ stamped 100 (to_close 0) ∷ stamped 100 (to_close 1) ∷ []
unfolding computing percent_decode line_fields number_field data_field key_field reading command_words read_text key_text data_text reply_text session_script turns with_bytes state_after closings commands
two_closed = refl

-- a run that ended after its first iteration closes what that left open
one_closed : commands (cut_after 1 two_left) ≡ stamped 50 (to_create 1 (codes "b")) ∷ stamped 100 (to_close 1) ∷ []
unfolding computing percent_decode line_fields number_field data_field key_field reading command_words read_text key_text data_text reply_text session_script turns with_bytes state_after closings commands
one_closed = refl
