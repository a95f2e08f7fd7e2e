-- The lines of some bytes are played in turn.
use Rattle.std.proofs.Common.{ℕ, ◌+◌, ◌<◌, ◌≤◌, ◌≡◌, List, [], ◌∷◌, ◌++◌, length, take, drop, None, Some, Ok, Err, Result, refl, sym, ◌∙◌, ap, subst, arith}
use Rattle.std.specs.List.{position}
use Rattle.std.proofs.lemmas.List.{length-append, length-drop, length-take-le}
use Rattle.std.proofs.lemmas.List.Quantifiers.{position-Some}
use Rattle.spec_image.specs.Image.{Image}
use Rattle.blk_io.specs.Streams.{Readings}
use Rattle.blk_model.specs.State.{State}
use Rattle.spec_run.specs.Lines.{Cut, with_bytes}
use Rattle.spec_run.specs.Script.{session_script}
use Rattle.spec_run.specs.Run.{Turn, turns}
use Rattle.blk_cache.specs.declared.fault.StepFault.{StepFault}
use Rattle.blk_run.specs.declared.line.Line.{Line}
use Rattle.blk_run.specs.Pending.{HoldsLine}
use Rattle.blk_run.specs.Playing.{SoFar, StandsAt, Around, PlaysPart, cut_behind}
use Rattle.blk_run.proofs.Cuts.{cut_as, cut_at, cut_more, cut_none, ends_line, rest_few}
use Rattle.blk_run.proofs.Parts.{IsThen, part_fewer, part_none, part_only, part_then}
use Rattle.blk_run.proofs.RunLaws.{more_lines}

-- lines, counted from a number, as a part of a script
abbrev pub lines_part : ℕ → List (List ℕ) → State → Readings → List Turn
lines_part number texts state clock = turns (session_script number texts) state clock

-- lines after lines
pub lines_then : (number : ℕ) (texts more : List (List ℕ)) → IsThen (lines_part number (texts ++ more)) (lines_part number texts) (lines_part (number + length texts) more)
lines_then number texts more state clock = more_lines number texts more state clock

-- the lines that some bytes end are played as far as the rest
pub record ArePlayed (before bytes rest : List ℕ) (line : Line) (lines_old lines : ℕ) (keeps_old keeps : State → Image → Type 0) (notes_old notes : ℕ) (old new : Around) : Type 0 where
  pub whole : List (List ℕ)
  pub pending : List ℕ
  pub holds : HoldsLine line pending
  pub split : cut_behind before bytes ≡ with_bytes (cut_as whole pending) rest
  pub counted : lines ≡ lines_old + length whole
  pub plays : (far : SoFar) (left : ℕ) → StandsAt far keeps_old notes_old (left + (length before + length bytes)) old.folder → PlaysPart {A = Unit {0}} (Ok tt) (lines_part (lines_old + 1) whole) far keeps notes (left + (length pending + length rest)) old new

-- none at first
pub none_played : (before bytes : List ℕ) (line : Line) (lines : ℕ) (keeps : State → Image → Type 0) (notes : ℕ) (here : Around) → HoldsLine line before → ArePlayed before bytes bytes line lines lines keeps keeps notes notes here here
unfolding session_script turns
none_played before bytes line lines keeps notes here holds = record {
  whole = [];
  pending = before;
  holds = holds;
  split = refl;
  counted = omega arith;
  plays = λ far left at. part_none tt far (lines_part (lines + 1) []) keeps notes (left + (length before + length bytes)) here (λ state clock. refl) at;
}

module _ (before bytes rest : List ℕ) (line : Line) (lines_old lines : ℕ) (keeps_old keeps : State → Image → Type 0) (notes_old notes : ℕ) (old mid : Around) (so_far : ArePlayed before bytes rest line lines_old lines keeps_old keeps notes_old notes old mid)
    (end : ℕ) (at_end : position ends_line rest ≡ Some end) where
  abbrev text : List ℕ
  text = so_far.pending ++ take end rest

  within : end < length rest
  within = (position-Some ends_line rest end 0 at_end).0

  lengths : length text ≡ length so_far.pending + end
  lengths = let t = length-take-le end rest (let w = within in omega (arith, w)) in let a = length-append so_far.pending (take end rest) in omega (arith, t, a)

  behind : length (drop (end + 1) rest) + (end + 1) ≡ length rest
  behind = let d = length-drop (end + 1) rest in let w = within in omega (arith, d, w)

  -- the line that ends, where it was played
  module _ (keeps_new : State → Image → Type 0) (notes_new : ℕ) (new : Around) where
    one_more : {B : Type 0} (result : Result B StepFault)
        → ((far : SoFar) (left : ℕ) → StandsAt far keeps notes (left + (length text + 1)) mid.folder → PlaysPart result (lines_part (lines + 1) (text ∷ [])) far keeps_new notes_new left mid new)
        → (far : SoFar) (left : ℕ) → StandsAt far keeps_old notes_old (left + (length before + length bytes)) old.folder
        → PlaysPart result (lines_part (lines_old + 1) (so_far.whole ++ text ∷ [])) far keeps_new notes_new (left + length (drop (end + 1) rest)) old new
    one_more result next far left at =
        let number : lines + 1 ≡ (lines_old + 1) + length so_far.whole = let c = so_far.counted in omega (arith, c) in
        let room : left + (length so_far.pending + length rest) ≡ (left + length (drop (end + 1) rest)) + (length text + 1) = let l = lengths in let b = behind in omega (arith, l, b) in
        part_then result tt far (lines_part (lines_old + 1) (so_far.whole ++ text ∷ [])) (lines_part (lines_old + 1) so_far.whole) (lines_part ((lines_old + 1) + length so_far.whole) (text ∷ [])) old mid new keeps keeps_new notes notes_new
        (left + (length so_far.pending + length rest)) (left + length (drop (end + 1) rest)) (lines_then (lines_old + 1) so_far.whole (text ∷ [])) (so_far.plays far left at)
        (λ after stands. subst (λ (n : ℕ). PlaysPart result (lines_part n (text ∷ [])) after keeps_new notes_new (left + length (drop (end + 1) rest)) mid new) number
        (next after (left + length (drop (end + 1) rest)) (subst (λ (n : ℕ). StandsAt after keeps notes n mid.folder) room stands)))

    pub line_played : (line_new : Line) (lines_new : ℕ) → HoldsLine line_new [] → lines_new ≡ lines + 1
        → ((far : SoFar) (left : ℕ) → StandsAt far keeps notes (left + (length text + 1)) mid.folder → PlaysPart {A = Unit {0}} (Ok tt) (lines_part (lines + 1) (text ∷ [])) far keeps_new notes_new left mid new)
        → ArePlayed before bytes (drop (end + 1) rest) line_new lines_old lines_new keeps_old keeps_new notes_old notes_new old new
    line_played line_new lines_new holds counts next = record {
      whole = so_far.whole ++ text ∷ [];
      pending = [];
      holds = holds;
      split = so_far.split ∙ cut_at (cut_as so_far.whole so_far.pending) rest end at_end;
      counted = let c = so_far.counted in let l = length-append so_far.whole (text ∷ []) in omega (arith, c, l, counts);
      plays = λ far left at. let none : left + length (drop (end + 1) rest) ≡ left + (0 + length (drop (end + 1) rest)) = omega arith in subst (λ (n : ℕ). PlaysPart {A = Unit {0}} (Ok tt) (lines_part (lines_old + 1) (so_far.whole ++ text ∷ [])) far keeps_new notes_new n old new) none (one_more (Ok tt) next far left at);
    }

    pub line_played_of : (later : List ℕ) (line_new : Line) (lines_new : ℕ) → later ≡ drop (end + 1) rest → HoldsLine line_new [] → lines_new ≡ lines + 1
        → ((far : SoFar) (left : ℕ) → StandsAt far keeps notes (left + (length text + 1)) mid.folder → PlaysPart {A = Unit {0}} (Ok tt) (lines_part (lines + 1) (text ∷ [])) far keeps_new notes_new left mid new)
        → ArePlayed before bytes later line_new lines_old lines_new keeps_old keeps_new notes_old notes_new old new
    line_played_of later line_new lines_new is holds counts next =
        subst (λ (l : List ℕ). ArePlayed before bytes l line_new lines_old lines_new keeps_old keeps_new notes_old notes_new old new) (sym is) (line_played line_new lines_new holds counts next)

    -- or failed: what follows isn't played
    pub line_failed : (why : StepFault) → ((far : SoFar) (left : ℕ) → StandsAt far keeps notes (left + (length text + 1)) mid.folder → PlaysPart {A = Unit {0}} (Err why) (lines_part (lines + 1) (text ∷ [])) far keeps_new notes_new left mid new)
        → (far : SoFar) (left : ℕ) → StandsAt far keeps_old notes_old (left + (length before + length bytes)) old.folder
        → PlaysPart {A = Unit {0}} (Err why) (lines_part (lines_old + 1) (cut_behind before bytes).whole) far keeps_new notes_new (left + length (cut_behind before bytes).rest) old new
    line_failed why next far left at =
        let later = drop (end + 1) rest in
        let whole : cut_behind before bytes ≡ with_bytes (cut_as (so_far.whole ++ text ∷ []) []) later = so_far.split ∙ cut_at (cut_as so_far.whole so_far.pending) rest end at_end in
        let more : with_bytes (cut_as (so_far.whole ++ text ∷ []) []) later ≡ cut_as ((so_far.whole ++ text ∷ []) ++ (cut_behind [] later).whole) (cut_behind [] later).rest = cut_more (cut_as (so_far.whole ++ text ∷ []) []) later in
        let few : length (cut_behind before bytes).rest ≤ length later = subst (λ (c : Cut). length c.rest ≤ length later) (sym whole) (let f = rest_few (cut_as (so_far.whole ++ text ∷ []) []) later in omega (arith, f)) in
        let lines_are : (cut_behind before bytes).whole ≡ (so_far.whole ++ text ∷ []) ++ (cut_behind [] later).whole = ap (λ (c : Cut). c.whole) (whole ∙ more) in
        part_fewer {A = Unit {0}} (Err why) (lines_part (lines_old + 1) (cut_behind before bytes).whole) far keeps_new notes_new (left + length later) (left + length (cut_behind before bytes).rest) old new (omega (arith, few))
        (part_only {A = Unit {0}} {B = Unit {0}} why far (lines_part (lines_old + 1) (cut_behind before bytes).whole) (lines_part (lines_old + 1) (so_far.whole ++ text ∷ [])) (lines_part ((lines_old + 1) + length (so_far.whole ++ text ∷ [])) (cut_behind [] later).whole) old new keeps_new notes_new (left + length later)
        (λ state clock. ap (λ (l : List (List ℕ)). lines_part (lines_old + 1) l state clock) lines_are ∙ lines_then (lines_old + 1) (so_far.whole ++ text ∷ []) (cut_behind [] later).whole state clock)
        (one_more (Err why) next far left at))

-- no line ends any more
module _ (before bytes rest : List ℕ) (line : Line) (lines_old lines : ℕ) (keeps_old keeps : State → Image → Type 0) (notes_old notes : ℕ) (old mid : Around) (so_far : ArePlayed before bytes rest line lines_old lines keeps_old keeps notes_old notes old mid)
    (no_end : position ends_line rest ≡ None) where
  cut_is : cut_behind before bytes ≡ cut_as so_far.whole (so_far.pending ++ rest)
  cut_is = so_far.split ∙ cut_none (cut_as so_far.whole so_far.pending) rest no_end

  pub all_played : (far : SoFar) (left : ℕ) → StandsAt far keeps_old notes_old (left + (length before + length bytes)) old.folder
      → PlaysPart {A = Unit {0}} (Ok tt) (lines_part (lines_old + 1) (cut_behind before bytes).whole) far keeps notes (left + length (cut_behind before bytes).rest) old mid
  all_played far left at =
      let room : left + (length so_far.pending + length rest) ≡ left + length (so_far.pending ++ rest) = ap (λ (n : ℕ). left + n) (sym (length-append so_far.pending rest)) in
      subst (λ (c : Cut). PlaysPart {A = Unit {0}} (Ok tt) (lines_part (lines_old + 1) c.whole) far keeps notes (left + length c.rest) old mid) (sym cut_is)
      (subst (λ (n : ℕ). PlaysPart {A = Unit {0}} (Ok tt) (lines_part (lines_old + 1) so_far.whole) far keeps notes n old mid) room (so_far.plays far left at))

  pub rest_holds : (line_new : Line) → HoldsLine line_new (so_far.pending ++ rest) → HoldsLine line_new (cut_behind before bytes).rest
  rest_holds line_new holds = subst (λ (c : Cut). HoldsLine line_new c.rest) (sym cut_is) holds

  pub all_counted : lines ≡ lines_old + length (cut_behind before bytes).whole
  all_counted = so_far.counted ∙ ap (λ (c : Cut). lines_old + length c.whole) (sym cut_is)

-- the bytes after a line are fewer
pub fewer_behind : (rest later : List ℕ) (end : ℕ) → position ends_line rest ≡ Some end → later ≡ drop (end + 1) rest → length later + 1 ≤ length rest
fewer_behind rest later end at is =
    let w = (position-Some ends_line rest end 0 at).0 in
    let d = length-drop (end + 1) rest in
    let l = ap length is in
    omega (arith, w, d, l)
