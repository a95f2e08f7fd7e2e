-- The lines of an input are played piece after piece.
use Rattle.std.proofs.Common.{ℕ, get_or, ◌+◌, ◌-◌, ◌<◌, ◌≤◌, ◌≡◌, List, [], ◌∷◌, ◌++◌, length, take, drop, Option, Some, Ok, Err, Result, refl, sym, ◌∙◌, ap, subst, arith, append_assoc}
use Rattle.std.specs.Option.{option_map, ForSome}
use Rattle.std.specs.Prelude.{IsErrAnd}
use Rattle.std.proofs.lemmas.List.{append-nil, length-append, length-take-le, take-append-drop, take-take, take_more}
use Rattle.spec_image.specs.Image.{Image}
use Rattle.blk_model.specs.State.{State}
use Rattle.spec_run.specs.Lines.{Cut, cut, lines, nothing_cut, open_line, whole_lines, with_bytes}
use Rattle.spec_run.specs.Script.{session_script}
use Rattle.spec_run.specs.Run.{Turn, turns}
use Rattle.blk_cache.specs.declared.fault.StepFault.{StepFault}
use Rattle.blk_cache.specs.declared.fault.StepFault.TheVariants as fault
use Rattle.blk_run.specs.declared.input.InputEnd.{InputEnd}
use Rattle.blk_run.specs.declared.input.InputEnd.TheVariants as end
use Rattle.blk_run.specs.declared.line.Line.{Line}
use Rattle.blk_run.specs.Inputs.{IsPastBudget, IsReadWhole, IsTakenUpTo, PlaysInput}
use Rattle.blk_run.specs.Pending.{HoldsLine}
use Rattle.blk_run.specs.Playing.{SoFar, StandsAt, Around, Plays, PlaysPart, cut_behind}
use Rattle.blk_run.proofs.Cuts.{behind_lines, cut_more, with_bytes-append}
use Rattle.blk_run.proofs.Parts.{handed_on, part_fewer, part_none, part_then}
use Rattle.blk_run.proofs.BytesPlayed.{lines_part, lines_then}

-- of an input these bytes were taken, and the others are left
abbrev pub AreLeft : List ℕ → Option (List ℕ) → List ℕ → Type 0
AreLeft taken left input = (behind : List ℕ) × ((input ≡ taken ++ behind) × (left ≡ Some behind))

-- the whole lines among the bytes that were taken are played
pub record IsInputPlayed (budget left : ℕ) (input_old input : Option (List ℕ)) (line : Line) (lines : ℕ) (keeps_old keeps : State → Image → Type 0) (notes_old notes : ℕ) (old new : Around) : Type 0 where
  pub taken : List ℕ
  pub count : length taken + left ≡ budget
  pub holds : HoldsLine line (cut taken).rest
  pub counted : lines ≡ length (whole_lines taken)
  pub of : ForSome input_old (AreLeft taken input)
  pub plays : (far : SoFar) (spare : ℕ) → StandsAt far keeps_old notes_old (spare + (budget + 1)) old.folder → PlaysPart {A = Unit {0}} (Ok tt) (lines_part 1 (whole_lines taken)) far keeps notes (spare + (length (cut taken).rest + (left + 1))) old new

-- nothing at first
pub no_input : (budget : ℕ) (input : Option (List ℕ)) (line : Line) (lines : ℕ) (keeps : State → Image → Type 0) (notes : ℕ) (here : Around) → lines ≡ 0 → HoldsLine line [] → IsInputPlayed budget budget input input line lines keeps keeps notes notes here here
unfolding with_bytes session_script turns
no_input budget input line lines keeps notes here none holds = record {
  taken = [];
  count = omega arith;
  holds = holds;
  counted = none;
  of = λ bytes there. (bytes, (refl, there));
  plays = λ far spare at.
      let same : spare + (budget + 1) ≡ spare + (0 + (budget + 1)) = omega arith in
      part_none tt far (lines_part 1 []) keeps notes (spare + (0 + (budget + 1))) here (λ state clock. refl) (subst (λ (n : ℕ). StandsAt far keeps notes n here.folder) same at);
}

-- what is cut of more bytes
cut_later : (taken bytes : List ℕ) → cut (taken ++ bytes) ≡ behind_lines (whole_lines taken) (cut_behind (cut taken).rest bytes)
cut_later taken bytes = with_bytes-append nothing_cut taken bytes ∙ cut_more (cut taken) bytes

-- the whole lines among the first bytes are the first of all lines
pub first_lines : (taken behind : List ℕ) → (more : List (List ℕ)) × (lines (taken ++ behind) ≡ whole_lines taken ++ more)
first_lines taken behind =
    let c = cut_behind (cut taken).rest behind in (
      c.whole ++ open_line c.rest,
      ap (λ (d : Cut). d.whole ++ open_line d.rest) (cut_later taken behind) ∙ append_assoc (whole_lines taken) c.whole (open_line c.rest),
    )

-- a fault leads to the same, whatever the type of the answer
fault_as : (made : List Turn) (far : SoFar) (keeps : State → Image → Type 0) (notes left : ℕ) (old new : Around) (why : StepFault) → Plays {A = Unit {0}} (Err why) made far keeps notes left old new → Plays {A = InputEnd} (Err why) made far keeps notes left old new
fault_as made far keeps notes left old new fault.Sink p = p
fault_as made far keeps notes left old new fault.Device p = p
fault_as made far keeps notes left old new (fault.Damaged damage) p = p

module _ (budget left : ℕ) (input_old input : Option (List ℕ)) (line : Line) (lines_now : ℕ) (keeps_old keeps : State → Image → Type 0) (notes_old notes : ℕ) (old mid : Around)
    (so_far : IsInputPlayed budget left input_old input line lines_now keeps_old keeps notes_old notes old mid) where
  abbrev before : List ℕ
  before = (cut so_far.taken).rest

  -- the input failed
  pub input_failed : (input_new : Option (List ℕ)) → input_new ≡ input → (far : SoFar) (spare : ℕ) → StandsAt far keeps_old notes_old (spare + (budget + 1)) old.folder → PlaysInput (Ok end.Failed) budget input_old input_new far keeps notes spare old mid
  input_failed input_new same far spare at = record {
    taken = so_far.taken;
    texts = whole_lines so_far.taken;
    of = λ bytes there. let l = so_far.of bytes there in (record { behind = l.0; split = l.1.0; left_is = same ∙ l.1.1; within = let c = so_far.count in omega (arith, c) }, refl);
    part = as_ok (part_fewer (Ok tt) (lines_part 1 (whole_lines so_far.taken)) far keeps notes (spare + (length before + (left + 1))) spare old mid (omega arith) (so_far.plays far spare at));
  }
    where
      as_ok : PlaysPart {A = Unit {0}} (Ok tt) (lines_part 1 (whole_lines so_far.taken)) far keeps notes spare old mid → PlaysPart {A = InputEnd} (Ok end.Failed) (lines_part 1 (whole_lines so_far.taken)) far keeps notes spare old mid
      as_ok p = record { made = p.made; are = p.are; plays = p.plays }

  -- a piece was taken, of which these bytes may be used
  module _ (bytes : List ℕ) (enough : length bytes ≤ left) (keeps_new : State → Image → Type 0) (notes_new : ℕ) (new : Around) where
    abbrev all : List ℕ
    all = so_far.taken ++ bytes

    abbrev after : Cut
    after = cut_behind before bytes

    number : lines_now + 1 ≡ 1 + length (whole_lines so_far.taken)
    number = let c = so_far.counted in omega (arith, c)

    whole_is : whole_lines all ≡ whole_lines so_far.taken ++ after.whole
    whole_is = ap (λ (c : Cut). c.whole) (cut_later so_far.taken bytes)

    rest_is : (cut all).rest ≡ after.rest
    rest_is = ap (λ (c : Cut). c.rest) (cut_later so_far.taken bytes)

    piece_part : {B : Type 0} (result : Result B StepFault)
        → ((far : SoFar) (spare : ℕ) → StandsAt far keeps notes (spare + (length before + length bytes)) mid.folder → PlaysPart result (lines_part (lines_now + 1) after.whole) far keeps_new notes_new (spare + length after.rest) mid new)
        → (far : SoFar) (spare : ℕ) → StandsAt far keeps_old notes_old (spare + (budget + 1)) old.folder
        → PlaysPart result (lines_part 1 (whole_lines all)) far keeps_new notes_new (spare + (length (cut all).rest + ((left - length bytes) + 1))) old new
    piece_part {B} result next far spare at =
        let room : spare + (length before + (left + 1)) ≡ (spare + ((left - length bytes) + 1)) + (length before + length bytes) = omega (arith, enough) in
        let later : (spare + ((left - length bytes) + 1)) + length after.rest ≡ spare + (length (cut all).rest + ((left - length bytes) + 1)) = let r = ap length rest_is in omega (arith, r) in
        subst (λ (n : ℕ). PlaysPart result (lines_part 1 (whole_lines all)) far keeps_new notes_new n old new) later
        (part_then result tt far (lines_part 1 (whole_lines all)) (lines_part 1 (whole_lines so_far.taken)) (lines_part (1 + length (whole_lines so_far.taken)) after.whole) old mid new keeps keeps_new notes notes_new
        (spare + (length before + (left + 1))) ((spare + ((left - length bytes) + 1)) + length after.rest)
        (λ state clock. ap (λ (l : List (List ℕ)). lines_part 1 l state clock) whole_is ∙ lines_then 1 (whole_lines so_far.taken) after.whole state clock)
        (so_far.plays far spare at)
        (λ next_far stands. subst (λ (n : ℕ). PlaysPart result (lines_part n after.whole) next_far keeps_new notes_new ((spare + ((left - length bytes) + 1)) + length after.rest) mid new) number
        (next next_far (spare + ((left - length bytes) + 1)) (subst (λ (n : ℕ). StandsAt next_far keeps notes n mid.folder) room stands))))

    module _ (input_new : Option (List ℕ)) where
      -- all that was taken is used
      pub piece_played : (left_new : ℕ) → left_new ≡ left - length bytes → (line_new : Line) (lines_new : ℕ) → HoldsLine line_new after.rest → lines_new ≡ lines_now + length after.whole → ForSome input (AreLeft bytes input_new)
          → ((far : SoFar) (spare : ℕ) → StandsAt far keeps notes (spare + (length before + length bytes)) mid.folder → PlaysPart {A = Unit {0}} (Ok tt) (lines_part (lines_now + 1) after.whole) far keeps_new notes_new (spare + length after.rest) mid new)
          → IsInputPlayed budget left_new input_old input_new line_new lines_new keeps_old keeps_new notes_old notes_new old new
      piece_played left_new left_is line_new lines_new holds counts took next = record {
        taken = all;
        count = let c = so_far.count in let l = length-append so_far.taken bytes in omega (arith, c, l, enough, left_is);
        holds = subst (λ (l : List ℕ). HoldsLine line_new l) (sym rest_is) holds;
        counted = counts ∙ ap (λ (n : ℕ). n + length after.whole) so_far.counted ∙ sym (length-append (whole_lines so_far.taken) after.whole) ∙ ap length (sym whole_is);
        of = λ whole there.
            let l = so_far.of whole there in
            let t = took l.0 l.1.1 in
            (t.0, (l.1.0 ∙ ap (λ (x : List ℕ). so_far.taken ++ x) t.1.0 ∙ sym (append_assoc so_far.taken bytes t.0), t.1.1));
        plays = λ far spare at. subst (λ (n : ℕ). PlaysPart {A = Unit {0}} (Ok tt) (lines_part 1 (whole_lines all)) far keeps_new notes_new (spare + (length (cut all).rest + (n + 1))) old new) (sym left_is) (piece_part (Ok tt) next far spare at);
      }

      -- a line of it failed
      pub piece_failed : (why : StepFault) → ((far : SoFar) (spare : ℕ) → StandsAt far keeps notes (spare + (length before + length bytes)) mid.folder → PlaysPart {A = Unit {0}} (Err why) (lines_part (lines_now + 1) after.whole) far keeps_new notes_new (spare + length after.rest) mid new)
          → ForSome input (λ l. (behind : List ℕ) × (l ≡ bytes ++ behind))
          → (far : SoFar) (spare : ℕ) → StandsAt far keeps_old notes_old (spare + (budget + 1)) old.folder → PlaysInput (Err why) budget input_old input_new far keeps_new notes_new spare old new
      piece_failed why next took far spare at = record {
        taken = all;
        texts = whole_lines all;
        of = λ whole there.
            let l = so_far.of whole there in
            let t = took l.0 l.1.1 in
            let split : whole ≡ all ++ t.0 = l.1.0 ∙ ap (λ (x : List ℕ). so_far.taken ++ x) t.1 ∙ sym (append_assoc so_far.taken bytes t.0) in
            let f = first_lines all t.0 in
            (f.0, ap lines split ∙ f.1);
        part = as_input (part_fewer (Err why) (lines_part 1 (whole_lines all)) far keeps_new notes_new (spare + (length (cut all).rest + ((left - length bytes) + 1))) spare old new (omega arith) (piece_part {B = Unit {0}} (Err why) next far spare at));
      }
        where
          as_input : PlaysPart {A = Unit {0}} (Err why) (lines_part 1 (whole_lines all)) far keeps_new notes_new spare old new → PlaysPart {A = InputEnd} (Err why) (lines_part 1 (whole_lines all)) far keeps_new notes_new spare old new
          as_input p = record { made = p.made; are = p.are; plays = fault_as p.made far keeps_new notes_new spare old new why p.plays }

      -- a byte more was taken
      pub piece_too_long : length bytes ≡ left → ForSome input (λ l. (byte : ℕ) × ((behind : List ℕ) × ((l ≡ bytes ++ byte ∷ behind) × (input_new ≡ Some behind))))
          → ((far : SoFar) (spare : ℕ) → StandsAt far keeps notes (spare + (length before + length bytes)) mid.folder → PlaysPart {A = Unit {0}} (Ok tt) (lines_part (lines_now + 1) after.whole) far keeps_new notes_new (spare + length after.rest) mid new)
          → (far : SoFar) (spare : ℕ) → StandsAt far keeps_old notes_old (spare + (budget + 1)) old.folder → PlaysInput (Ok end.TooLong) budget input_old input_new far keeps_new notes_new spare old new
      piece_too_long full took next far spare at = record {
        taken = all;
        texts = whole_lines all;
        of = λ whole there.
            let l = so_far.of whole there in
            let t = took l.0 l.1.1 in (
              record {
                byte_more = t.0;
                behind = t.1.0;
                split = l.1.0 ∙ ap (λ (x : List ℕ). so_far.taken ++ x) t.1.1.0 ∙ sym (append_assoc so_far.taken bytes (t.0 ∷ t.1.0));
                whole = let c = so_far.count in let n = length-append so_far.taken bytes in omega (arith, c, n, full);
                left_is = t.1.1.1;
              },
              refl,
            );
        part = as_ok (part_fewer (Ok tt) (lines_part 1 (whole_lines all)) far keeps_new notes_new (spare + (length (cut all).rest + ((left - length bytes) + 1))) spare old new (omega arith) (piece_part (Ok tt) next far spare at));
      }
        where
          as_ok : PlaysPart {A = Unit {0}} (Ok tt) (lines_part 1 (whole_lines all)) far keeps_new notes_new spare old new → PlaysPart {A = InputEnd} (Ok end.TooLong) (lines_part 1 (whole_lines all)) far keeps_new notes_new spare old new
          as_ok p = record { made = p.made; are = p.are; plays = p.plays }

-- Nothing is left.
module _ (budget left : ℕ) (input_old input : Option (List ℕ)) (line : Line) (lines_now : ℕ) (keeps_old keeps : State → Image → Type 0) (notes_old notes : ℕ) (old mid : Around)
    (so_far : IsInputPlayed budget left input_old input line lines_now keeps_old keeps notes_old notes old mid) (none : ForSome input (λ l. l ≡ [])) (input_new : Option (List ℕ)) (same : ForSome input (λ l. input_new ≡ Some l)) where
  abbrev last : List ℕ
  last = (cut so_far.taken).rest

  -- the input was taken whole
  taken_whole : ForSome input_old (λ bytes. (so_far.taken ≡ bytes) × IsReadWhole budget bytes input_new)
  taken_whole bytes there =
      let l = so_far.of bytes there in
      let nothing : l.0 ≡ [] = none l.0 l.1.1 in
      let whole : bytes ≡ so_far.taken = l.1.0 ∙ ap (λ (x : List ℕ). so_far.taken ++ x) nothing ∙ append-nil so_far.taken in
      (sym whole, record { within = let c = so_far.count in let n = ap length whole in omega (arith, c, n); none_left = same l.0 l.1.1 ∙ ap Some nothing })

  -- no line is last
  pub input_ended : last ≡ [] → (far : SoFar) (spare : ℕ) → StandsAt far keeps_old notes_old (spare + (budget + 1)) old.folder → PlaysInput (Ok end.Whole) budget input_old input_new far keeps notes spare old mid
  input_ended closed far spare at = record {
    taken = so_far.taken;
    texts = whole_lines so_far.taken;
    of = λ bytes there.
        let t = taken_whole bytes there in
        (t.1, sym (ap (λ (l : List ℕ). whole_lines so_far.taken ++ open_line l) closed ∙ append-nil (whole_lines so_far.taken)) ∙ ap lines t.0);
    part = as_ok (part_fewer (Ok tt) (lines_part 1 (whole_lines so_far.taken)) far keeps notes (spare + (length last + (left + 1))) spare old mid (omega arith) (so_far.plays far spare at));
  }
    where
      as_ok : PlaysPart {A = Unit {0}} (Ok tt) (lines_part 1 (whole_lines so_far.taken)) far keeps notes spare old mid → PlaysPart {A = InputEnd} (Ok end.Whole) (lines_part 1 (whole_lines so_far.taken)) far keeps notes spare old mid
      as_ok p = record { made = p.made; are = p.are; plays = p.plays }

  -- the last line has no end
  module _ (some : last ≡ [] → ⊥) (keeps_new : State → Image → Type 0) (notes_new : ℕ) (new : Around) where
    last_is : open_line last ≡ last ∷ []
    last_is = by last some
      where
        by : (l : List ℕ) → (l ≡ [] → ⊥) → open_line l ≡ l ∷ []
        by [] filled = absurd (filled refl)
        by (x ∷ l) filled = refl

    all_lines : ForSome input_old (λ bytes. lines bytes ≡ whole_lines so_far.taken ++ last ∷ [])
    all_lines bytes there = ap lines (sym (taken_whole bytes there).0) ∙ ap (λ (l : List (List ℕ)). whole_lines so_far.taken ++ l) last_is

    last_part : {B : Type 0} (result : Result B StepFault)
        → ((far : SoFar) (spare : ℕ) → StandsAt far keeps notes (spare + (length last + 1)) mid.folder → PlaysPart result (lines_part (lines_now + 1) (last ∷ [])) far keeps_new notes_new spare mid new)
        → (far : SoFar) (spare : ℕ) → StandsAt far keeps_old notes_old (spare + (budget + 1)) old.folder
        → PlaysPart result (lines_part 1 (whole_lines so_far.taken ++ last ∷ [])) far keeps_new notes_new (spare + left) old new
    last_part {B} result next far spare at =
        let number : lines_now + 1 ≡ 1 + length (whole_lines so_far.taken) = let c = so_far.counted in omega (arith, c) in
        let room : spare + (length last + (left + 1)) ≡ (spare + left) + (length last + 1) = omega arith in
        part_then result tt far (lines_part 1 (whole_lines so_far.taken ++ last ∷ [])) (lines_part 1 (whole_lines so_far.taken)) (lines_part (1 + length (whole_lines so_far.taken)) (last ∷ [])) old mid new keeps keeps_new notes notes_new
        (spare + (length last + (left + 1))) (spare + left) (lines_then 1 (whole_lines so_far.taken) (last ∷ [])) (so_far.plays far spare at)
        (λ next_far stands. subst (λ (n : ℕ). PlaysPart result (lines_part n (last ∷ [])) next_far keeps_new notes_new (spare + left) mid new) number
        (next next_far (spare + left) (subst (λ (n : ℕ). StandsAt next_far keeps notes n mid.folder) room stands)))

    pub last_played : ((far : SoFar) (spare : ℕ) → StandsAt far keeps notes (spare + (length last + 1)) mid.folder → PlaysPart {A = Unit {0}} (Ok tt) (lines_part (lines_now + 1) (last ∷ [])) far keeps_new notes_new spare mid new)
        → (far : SoFar) (spare : ℕ) → StandsAt far keeps_old notes_old (spare + (budget + 1)) old.folder → PlaysInput (Ok end.Whole) budget input_old input_new far keeps_new notes_new spare old new
    last_played next far spare at = record {
      taken = so_far.taken;
      texts = whole_lines so_far.taken ++ last ∷ [];
      of = λ bytes there. ((taken_whole bytes there).1, sym (all_lines bytes there));
      part = as_ok (part_fewer (Ok tt) (lines_part 1 (whole_lines so_far.taken ++ last ∷ [])) far keeps_new notes_new (spare + left) spare old new (omega arith) (last_part (Ok tt) next far spare at));
    }
      where
        as_ok : PlaysPart {A = Unit {0}} (Ok tt) (lines_part 1 (whole_lines so_far.taken ++ last ∷ [])) far keeps_new notes_new spare old new → PlaysPart {A = InputEnd} (Ok end.Whole) (lines_part 1 (whole_lines so_far.taken ++ last ∷ [])) far keeps_new notes_new spare old new
        as_ok p = record { made = p.made; are = p.are; plays = p.plays }

    pub last_failed : (why : StepFault) → ((far : SoFar) (spare : ℕ) → StandsAt far keeps notes (spare + (length last + 1)) mid.folder → PlaysPart {A = Unit {0}} (Err why) (lines_part (lines_now + 1) (last ∷ [])) far keeps_new notes_new spare mid new)
        → (far : SoFar) (spare : ℕ) → StandsAt far keeps_old notes_old (spare + (budget + 1)) old.folder → PlaysInput (Err why) budget input_old input_new far keeps_new notes_new spare old new
    last_failed why next far spare at = record {
      taken = so_far.taken;
      texts = whole_lines so_far.taken ++ last ∷ [];
      of = λ bytes there. ([], all_lines bytes there ∙ sym (append-nil (whole_lines so_far.taken ++ last ∷ [])));
      part = as_input (part_fewer (Err why) (lines_part 1 (whole_lines so_far.taken ++ last ∷ [])) far keeps_new notes_new (spare + left) spare old new (omega arith) (last_part {B = Unit {0}} (Err why) next far spare at));
    }
      where
        as_input : PlaysPart {A = Unit {0}} (Err why) (lines_part 1 (whole_lines so_far.taken ++ last ∷ [])) far keeps_new notes_new spare old new → PlaysPart {A = InputEnd} (Err why) (lines_part 1 (whole_lines so_far.taken ++ last ∷ [])) far keeps_new notes_new spare old new
        as_input p = record { made = p.made; are = p.are; plays = fault_as p.made far keeps_new notes_new spare old new why p.plays }

-- What was taken.

module _ (input input_new : Option (List ℕ)) (piece bytes : List ℕ) (n usable : ℕ) (is : bytes ≡ take usable piece) (took : ForSome input (λ l. (n ≤ length l) × (take n piece ≡ take n l))) (later : input_new ≡ option_map (drop n) input) where
  -- the first of them are those of the piece
  front_of : usable ≤ n → ForSome input (λ l. bytes ≡ take usable l)
  front_of few l there = is ∙ sym (take-take usable n piece few) ∙ ap (take usable) (took l there).1 ∙ take-take usable n l few

  left_is : ForSome input (λ l. input_new ≡ Some (drop n l))
  left_is l there = later ∙ ap (option_map (drop n)) there

  -- all are used
  pub all_used : usable ≡ n → ForSome input (AreLeft bytes input_new)
  all_used same l there =
      let front : bytes ≡ take n l = front_of (omega (arith, same)) l there ∙ ap (λ (k : ℕ). take k l) same in
      (drop n l, (sym (take-append-drop n l) ∙ ap (λ (x : List ℕ). x ++ drop n l) (sym front), left_is l there))

  -- some are used
  pub some_used : usable ≤ n → ForSome input (λ l. (behind : List ℕ) × (l ≡ bytes ++ behind))
  some_used few l there = (drop usable l, sym (take-append-drop usable l) ∙ ap (λ (x : List ℕ). x ++ drop usable l) (sym (front_of few l there)))

  -- all but one are used
  pub all_but_one : n ≡ usable + 1 → ForSome input (λ l. (byte : ℕ) × ((behind : List ℕ) × ((l ≡ bytes ++ byte ∷ behind) × (input_new ≡ Some behind))))
  all_but_one more l there =
      let within : usable < length l = let w = (took l there).0 in omega (arith, w, more) in
      let byte = get_or l usable 0 in
      let front : take n l ≡ bytes ++ byte ∷ [] = ap (λ (k : ℕ). take k l) more ∙ take_more l usable 0 within ∙ ap (λ (x : List ℕ). x ++ byte ∷ []) (sym (front_of (omega (arith, more)) l there)) in
      (byte, (drop n l, (sym (take-append-drop n l) ∙ ap (λ (x : List ℕ). x ++ drop n l) front ∙ append_assoc bytes (byte ∷ []) (drop n l), left_is l there)))

pub taken_as : (budget : ℕ) (input_old input input_new : Option (List ℕ)) → input_new ≡ input → ForSome input_old (IsTakenUpTo budget input) → ForSome input_old (IsTakenUpTo budget input_new)
taken_as budget input_old input input_new same taken = subst (λ (l : Option (List ℕ)). ForSome input_old (IsTakenUpTo budget l)) (sym same) taken

-- at most the input limit and one byte were taken
pub taken_up_to : (budget left : ℕ) (input_old input input_new : Option (List ℕ)) (line : Line) (lines_now : ℕ) (keeps_old keeps : State → Image → Type 0) (notes_old notes : ℕ) (old mid : Around)
    → IsInputPlayed budget left input_old input line lines_now keeps_old keeps notes_old notes old mid → (n : ℕ) → n ≤ left + 1 → ForSome input (λ l. n ≤ length l) → input_new ≡ option_map (drop n) input
    → ForSome input_old (IsTakenUpTo (budget + 1) input_new)
taken_up_to budget left input_old input input_new line lines_now keeps_old keeps notes_old notes old mid so_far n few within later bytes there =
    let l = so_far.of bytes there in
    let front = so_far.taken ++ take n l.0 in (
      front,
      record {
        behind = drop n l.0;
        split = l.1.0 ∙ ap (λ (x : List ℕ). so_far.taken ++ x) (sym (take-append-drop n l.0)) ∙ sym (append_assoc so_far.taken (take n l.0) (drop n l.0));
        left_is = later ∙ ap (option_map (drop n)) l.1.1;
        within = let c = so_far.count in let a = length-append so_far.taken (take n l.0) in let t = length-take-le n l.0 (within l.0 l.1.1) in omega (arith, c, a, t, few);
      },
    )

-- where the input failed none were taken
pub taken_so_far : (budget left : ℕ) (input_old input : Option (List ℕ)) (line : Line) (lines_now : ℕ) (keeps_old keeps : State → Image → Type 0) (notes_old notes : ℕ) (old mid : Around)
    → IsInputPlayed budget left input_old input line lines_now keeps_old keeps notes_old notes old mid → ForSome input_old (IsTakenUpTo (budget + 1) input)
taken_so_far budget left input_old input line lines_now keeps_old keeps notes_old notes old mid so_far bytes there =
    let l = so_far.of bytes there in
    (so_far.taken, record { behind = l.0; split = l.1.0; left_is = l.1.1; within = let c = so_far.count in omega (arith, c) })

-- where more bytes are left than may be used the input is longer than the input limit
pub long_input : (budget left : ℕ) (bytes mid : List ℕ) (line : Line) (lines_now : ℕ) (keeps_old keeps : State → Image → Type 0) (notes_old notes : ℕ) (old new : Around)
    → IsInputPlayed budget left (Some bytes) (Some mid) line lines_now keeps_old keeps notes_old notes old new → left < length mid → budget < length bytes
long_input budget left bytes mid line lines_now keeps_old keeps notes_old notes old new so_far more =
    let l = so_far.of bytes refl in
    let same : mid ≡ l.0 = inside l.1.1 in
    let s = ap length l.1.0 in
    let a = length-append so_far.taken l.0 in
    let m = ap length same in
    let c = so_far.count in
    omega (arith, s, a, m, c, more)
  where
    inside : {x y : List ℕ} → ◌≡◌ {A = Option (List ℕ)} (Some x) (Some y) → x ≡ y
    inside e = cc

-- an input with a byte past the input limit is longer than the limit
pub past_budget : (budget : ℕ) (input : List ℕ) (taken : List ℕ) (left : Option (List ℕ)) → IsPastBudget budget input taken left → budget < length input
past_budget budget input taken left past =
    let s = ap length past.split in
    let l = length-append taken (past.byte_more ∷ past.behind) in
    let w = past.whole in
    omega (arith, s, l, w)

pub input_handed : (q : Result InputEnd StepFault) (why : StepFault) (budget : ℕ) (input left : Option (List ℕ)) (far : SoFar) (keeps : State → Image → Type 0) (notes spare : ℕ) (old new : Around) → IsErrAnd q (λ (x : StepFault). x ≡ why)
    → PlaysInput (Err why) budget input left far keeps notes spare old new → PlaysInput q budget input left far keeps notes spare old new
input_handed q why budget input left far keeps notes spare old new is plays = subst (λ (r : Result InputEnd StepFault). PlaysInput r budget input left far keeps notes spare old new) (sym (handed_on q why is)) plays
