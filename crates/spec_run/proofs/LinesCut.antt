-- Bytes that are cut one after another, and how many lines they make.
use Rattle.std.proofs.Common.{ℕ, ◌+◌, ◌*◌, ◌≤◌, ◌≡◌, Bool, true, false, cond, ◌==◌, List, [], ◌∷◌, ◌++◌, length, sum_by, Result, Ok, Err, refl, sym, ◌∙◌, ap, subst, arith, append_assoc}
use Rattle.std.proofs.lemmas.List.{append-nil, length-append}
use Rattle.std.proofs.lemmas.List.Sums.{sum_by-append, sum_by-cons, sum_by_push}
use Rattle.blk_model.specs.Request.{Request}
use Rattle.blk_model.specs.State.{State}
use Rattle.blk_io.specs.Streams.{Readings, later_of}
use Rattle.blk_script.specs.declared.fault.LineFault.{LineFault}
use Rattle.blk_script.specs.declared.fault.LineFault.TheVariants as fault
use Rattle.blk_script.specs.Line.{read_text}
use Rattle.spec_run.specs.Lines.{Cut, with_byte, with_bytes, lines, open_line, nothing_cut}
use Rattle.spec_run.specs.Script.{Script, session_script, line_script}
use Rattle.spec_run.specs.Run.{turns, commands_of, stamped_by, state_then}
use Rattle.spec_run.specs.Laws.{CommandsAreFew, LinesGoOn, WholeLinesComeFirst}

pub with_bytes-append : (cut : Cut) (bytes more : List ℕ) → with_bytes cut (bytes ++ more) ≡ with_bytes (with_bytes cut bytes) more
unfolding with_bytes
with_bytes-append cut [] more = refl
with_bytes-append cut (byte ∷ bytes) more = with_bytes-append (with_byte cut byte) bytes more

-- a cut with lines before its own
pub before_lines : List (List ℕ) → Cut → Cut
unfolding with_bytes
before_lines whole cut = record { whole = whole ++ cut.whole; rest = cut.rest }

byte_behind : (whole : List (List ℕ)) (cut : Cut) (byte : ℕ) → with_byte (before_lines whole cut) byte ≡ before_lines whole (with_byte cut byte)
unfolding before_lines
byte_behind whole cut byte = by_end (byte == 10)
  where
    by_end : (b : Bool) → cond b (record { whole = whole ++ cut.whole ++ cut.rest ∷ []; rest = [] }) (record { whole = whole ++ cut.whole; rest = cut.rest ++ byte ∷ [] })
        ≡ before_lines whole (cond b (record { whole = cut.whole ++ cut.rest ∷ []; rest = [] }) (record { whole = cut.whole; rest = cut.rest ++ byte ∷ [] }))
    by_end true = ap (λ (l : List (List ℕ)). record { whole = l; rest = [] }) (append_assoc whole cut.whole (cut.rest ∷ []))
    by_end false = refl

bytes_behind : (whole : List (List ℕ)) (cut : Cut) (bytes : List ℕ) → with_bytes (before_lines whole cut) bytes ≡ before_lines whole (with_bytes cut bytes)
unfolding with_bytes
bytes_behind whole cut [] = refl
bytes_behind whole cut (byte ∷ bytes) = ap (λ (c : Cut). with_bytes c bytes) (byte_behind whole cut byte) ∙ bytes_behind whole (with_byte cut byte) bytes

pub lines_go_on : LinesGoOn
unfolding before_lines
lines_go_on cut bytes more =
    let start : before_lines cut.whole (record { whole = []; rest = cut.rest }) ≡ cut = ap (λ (l : List (List ℕ)). record { whole = l; rest = cut.rest }) (append-nil cut.whole) in
    let later = ap (λ (c : Cut). with_bytes c more) (sym start) ∙ bytes_behind cut.whole (record { whole = []; rest = cut.rest }) more in
    (with_bytes-append cut bytes more, ap (λ (c : Cut). c.whole) later, ap (λ (c : Cut). c.rest) later)

-- whole lines come first
pub whole_first : WholeLinesComeFirst
whole_first bytes more =
    let cut : Cut = with_bytes nothing_cut bytes in
    let all : with_bytes nothing_cut (bytes ++ more) ≡ with_bytes cut more = with_bytes-append nothing_cut bytes more in
    let split = (lines_go_on cut [] more).1 in
    let behind : List (List ℕ) = (with_bytes (record { whole = []; rest = cut.rest }) more).whole in
    let last : List (List ℕ) = open_line (with_bytes cut more).rest in (
      behind ++ last,
      ap (λ (c : Cut). c.whole ++ open_line c.rest) all ∙ ap (λ (l : List (List ℕ)). l ++ last) split ∙ append_assoc cut.whole behind last,
    )

-- How many commands a session makes.

-- a line with its end
abbrev ended_length : List ℕ → ℕ
ended_length text = length text + 1

-- an empty line is no command
no_command : read_text [] ≡ Err fault.Empty
unfolding read_text
no_command = refl

-- a command has a line that isn't empty
command_line : (text : List ℕ) (request : Request) → read_text text ≡ Ok request → 2 ≤ ended_length text
command_line [] request is = absurd (clash (sym no_command ∙ is))
  where
    clash : {why : LineFault} → Err why ≡ Ok request → ⊥
    clash c = cc
command_line (byte ∷ text) request is = omega arith

few_of_line : (number : ℕ) (read : Result Request LineFault) (following : Script) (m rest : ℕ) → ((request : Request) → read ≡ Ok request → 2 ≤ m)
    → ((s : State) (c : Readings) → 2 * length (commands_of (turns following s c)) ≤ rest) → (state : State) (clock : Readings) → 2 * length (commands_of (turns (line_script number read following) state clock)) ≤ m + rest
unfolding turns
few_of_line number (Err why) following m rest long few state clock = let later = few state clock in omega (arith, later)
few_of_line number (Ok request) following m rest long few state clock =
    let later = few (state_then state (stamped_by clock request)) (later_of clock) in
    let here = long request refl in
    omega (arith, later, here)

few_of_lines : (number : ℕ) (texts : List (List ℕ)) (state : State) (clock : Readings) → 2 * length (commands_of (turns (session_script number texts) state clock)) ≤ sum_by ended_length texts
unfolding session_script turns
few_of_lines number [] state clock = omega arith
few_of_lines number (x ∷ texts) state clock =
    subst (λ (n : ℕ). 2 * length (commands_of (turns (line_script number (read_text x) (session_script (number + 1) texts)) state clock)) ≤ n) (sym (sum_by-cons ended_length x texts))
    (few_of_line number (read_text x) (session_script (number + 1) texts) (ended_length x) (sum_by ended_length texts) (command_line x) (few_of_lines (number + 1) texts) state clock)

-- how many bytes are cut
abbrev cut_length : Cut → ℕ
cut_length cut = sum_by ended_length cut.whole + length cut.rest

byte_counted : (cut : Cut) (byte : ℕ) → cut_length (with_byte cut byte) ≡ cut_length cut + 1
byte_counted cut byte = by_end (byte == 10)
  where
    by_end : (b : Bool) → cut_length (cond b (record { whole = cut.whole ++ cut.rest ∷ []; rest = [] }) (record { whole = cut.whole; rest = cut.rest ++ byte ∷ [] })) ≡ cut_length cut + 1
    by_end true = let all = sum_by_push ended_length cut.whole cut.rest in omega (arith, all)
    by_end false = let all = length-append cut.rest (byte ∷ []) in omega (arith, all)

bytes_counted : (cut : Cut) (bytes : List ℕ) → cut_length (with_bytes cut bytes) ≡ cut_length cut + length bytes
unfolding with_bytes
bytes_counted cut [] = omega arith
bytes_counted cut (byte ∷ bytes) = let later = bytes_counted (with_byte cut byte) bytes in let here = byte_counted cut byte in omega (arith, later, here)

pub few_commands : CommandsAreFew
few_commands number bytes state clock =
    let cut : Cut = with_bytes nothing_cut bytes in
    let counted : cut_length cut ≡ cut_length nothing_cut + length bytes = bytes_counted nothing_cut bytes in
    let few = few_of_lines number (lines bytes) state clock in
    let all = sum_by-append ended_length cut.whole (open_line cut.rest) in
    let last = open_counted cut.rest in
    omega (arith, counted, few, all, last)
  where
    open_counted : (rest : List ℕ) → sum_by ended_length (open_line rest) ≤ length rest + 1
    open_counted [] = omega arith
    open_counted (byte ∷ rest) = omega arith
