-- What was printed, by how many commands are noted.
use Rattle.std.proofs.Common.{ℕ, ◌+◌, ◌≤◌, ◌≡◌, ◌⊎◌, inl, inr, List, [], ◌∷◌, ◌++◌, length, Option, Some, None, refl, sym, ◌∙◌, ap, subst, arith, append_assoc}
use Rattle.std.specs.List.{cons_option}
use Rattle.std.specs.Option.{option_map}
use Rattle.std.proofs.lemmas.List.{append-nil, length-append}
use Rattle.blk_io.specs.Streams.{Appends}
use Rattle.spec_run.specs.Laws.{AnsweredCommandsAreDone, AnsweredCommandsAreNoted}
use Rattle.spec_run.specs.Replies.{Begins, IsEarlyNext, PrintsBeforeLast, PrintsNoMore}
use Rattle.spec_run.specs.Run.{Stamped, Turn, commands_of, text_of}
use Rattle.spec_run.proofs.Turns.{commands_of-append, text_of-append}

-- Texts.

-- a text after one that was printed whole
pub appends_after : (a b : List ℕ) (w0 w1 w2 : Option (List ℕ)) → w1 ≡ option_map (λ (w : List ℕ). w ++ a) w0 → Appends w1 w2 b → Appends w0 w2 (a ++ b)
appends_after a b w0 w1 w2 first part = record {
  front = a ++ part.front;
  rest = part.rest;
  split = ap (λ (l : List ℕ). a ++ l) part.split ∙ sym (append_assoc a part.front part.rest);
  written = written_after a part.front w0 w1 w2 first part.written;
}
  where
    written_after : (a b : List ℕ) (w0 w1 w2 : Option (List ℕ)) → w1 ≡ option_map (λ (w : List ℕ). w ++ a) w0 → w2 ≡ option_map (λ (w : List ℕ). w ++ b) w1 → w2 ≡ option_map (λ (w : List ℕ). w ++ (a ++ b)) w0
    written_after a b None w1 w2 first second = second ∙ ap (option_map (λ (w : List ℕ). w ++ b)) first
    written_after a b (Some w) w1 w2 first second = second ∙ ap (option_map (λ (v : List ℕ). v ++ b)) first ∙ ap Some (append_assoc w a b)

-- a text that was printed whole, as a prefix of itself and nothing more
whole_appends : (text : List ℕ) (old new : Option (List ℕ)) → new ≡ option_map (λ (w : List ℕ). w ++ text) old → Appends old new (text ++ [])
whole_appends text old new printed = record { front = text; rest = []; split = refl; written = printed }

-- Iterations that would follow.

early_longer : (behind more : List Turn) (front : List ℕ) → IsEarlyNext behind front → IsEarlyNext (behind ++ more) front
early_longer [] [] front none = none
early_longer [] (turn ∷ more) front none = ((turn.text, ap (λ (l : List ℕ). l ++ turn.text) (sym none)), (turn.early, ap (λ (l : List ℕ). l ++ turn.early) (sym none)))
early_longer (turn ∷ behind) more front next = next

pub no_more_longer : (turns more : List Turn) (noted : ℕ) (old new : Option (List ℕ)) → PrintsNoMore turns noted old new → PrintsNoMore (turns ++ more) noted old new
no_more_longer turns more noted old new prints = record {
  shown = prints.shown;
  behind = prints.behind ++ more;
  split = ap (λ (l : List Turn). l ++ more) prints.split ∙ append_assoc prints.shown prints.behind more;
  are_noted = prints.are_noted;
  front = prints.front;
  next = early_longer prints.behind more prints.front prints.next;
  printed = prints.printed;
}

pub no_less_longer : (turns more : List Turn) (noted : ℕ) (old new : Option (List ℕ)) → PrintsBeforeLast turns noted old new → PrintsBeforeLast (turns ++ more) noted old new
no_less_longer turns more noted old new prints = record {
  shown = prints.shown;
  turn = prints.turn;
  behind = prints.behind ++ more;
  command = prints.command;
  split = ap (λ (l : List Turn). l ++ more) prints.split ∙ append_assoc prints.shown (prints.turn ∷ prints.behind) more;
  is = prints.is;
  last = prints.last;
  more = prints.more;
  printed = prints.printed;
}

-- Iterations that were made before.

module _ (first second : List Turn) (noted : ℕ) (old mid new : Option (List ℕ)) (before : mid ≡ option_map (λ (w : List ℕ). w ++ text_of first) old) where
  commands_more : (shown : List Turn) → length (commands_of (first ++ shown)) ≡ length (commands_of first) + length (commands_of shown)
  commands_more shown = ap (λ (l : List Stamped). length l) (commands_of-append first shown) ∙ length-append (commands_of first) (commands_of shown)

  pub no_more_then : PrintsNoMore second noted mid new → PrintsNoMore (first ++ second) (length (commands_of first) + noted) old new
  no_more_then prints = record {
    shown = first ++ prints.shown;
    behind = prints.behind;
    split = ap (λ (l : List Turn). first ++ l) prints.split ∙ sym (append_assoc first prints.shown prints.behind);
    are_noted = let few = prints.are_noted in let more = commands_more prints.shown in omega (arith, few, more);
    front = prints.front;
    next = prints.next;
    printed = subst (Appends old new) (sym (append_assoc (text_of first) (text_of prints.shown) prints.front) ∙ ap (λ (l : List ℕ). l ++ prints.front) (sym (text_of-append first prints.shown)))
        (appends_after (text_of first) (text_of prints.shown ++ prints.front) old mid new before prints.printed);
  }

  pub no_less_then : PrintsBeforeLast second noted mid new → PrintsBeforeLast (first ++ second) (length (commands_of first) + noted) old new
  no_less_then prints = record {
    shown = first ++ prints.shown;
    turn = prints.turn;
    behind = prints.behind;
    command = prints.command;
    split = ap (λ (l : List Turn). first ++ l) prints.split ∙ sym (append_assoc first prints.shown (prints.turn ∷ prints.behind));
    is = prints.is;
    last = let few = prints.last in let more = commands_more prints.shown in omega (arith, few, more);
    more = prints.more;
    printed = printed_after old mid new before prints.printed ∙ ap (λ (t : List ℕ). option_map (λ (w : List ℕ). w ++ t) old)
        (sym (append_assoc (text_of first) (text_of prints.shown) prints.more) ∙ ap (λ (l : List ℕ). l ++ prints.more) (sym (text_of-append first prints.shown)));
  }
    where
      printed_after : (w0 w1 w2 : Option (List ℕ)) → w1 ≡ option_map (λ (w : List ℕ). w ++ text_of first) w0 → w2 ≡ option_map (λ (w : List ℕ). w ++ (text_of prints.shown ++ prints.more)) w1
          → w2 ≡ option_map (λ (w : List ℕ). w ++ (text_of first ++ (text_of prints.shown ++ prints.more))) w0
      printed_after None w1 w2 one two = two ∙ ap (option_map (λ (w : List ℕ). w ++ (text_of prints.shown ++ prints.more))) one
      printed_after (Some w) w1 w2 one two = two ∙ ap (option_map (λ (v : List ℕ). v ++ (text_of prints.shown ++ prints.more))) one ∙ ap Some (append_assoc w (text_of first) (text_of prints.shown ++ prints.more))

-- All iterations.

-- a prefix of their texts was printed, and all their commands are noted
pub no_more_whole : (turns : List Turn) (noted : ℕ) (old new : Option (List ℕ)) → length (commands_of turns) ≤ noted → Appends old new (text_of turns) → PrintsNoMore turns noted old new
no_more_whole turns noted old new few printed = record {
  shown = turns;
  behind = [];
  split = sym (append-nil turns);
  are_noted = few;
  front = [];
  next = refl;
  printed = subst (Appends old new) (sym (append-nil (text_of turns))) printed;
}

-- One iteration.

-- nothing but a prefix of what may be out before its note was printed
pub no_more_early : (turn : Turn) (noted : ℕ) (old new : Option (List ℕ)) (front : List ℕ) → IsEarlyNext (turn ∷ []) front → new ≡ option_map (λ (w : List ℕ). w ++ front) old
    → PrintsNoMore (turn ∷ []) noted old new
no_more_early turn noted old new front next printed = record {
  shown = [];
  behind = turn ∷ [];
  split = refl;
  are_noted = omega arith;
  front = front;
  next = next;
  printed = record { front = front; rest = []; split = sym (append-nil front); written = printed };
}

-- with it at most noted, nothing has to be printed
pub no_less_one : (turn : Turn) (command : Stamped) (noted : ℕ) (old new : Option (List ℕ)) (text : List ℕ) → turn.command ≡ Some command → noted ≤ 1 → Appends old new text → PrintsBeforeLast (turn ∷ []) noted old new
no_less_one turn command noted old new text is few printed = record {
  shown = [];
  turn = turn;
  behind = [];
  command = command;
  split = refl;
  is = is;
  last = omega (arith, few);
  more = printed.front;
  printed = printed.written;
}

-- nothing of it was printed
pub no_more_unshown : (turn : Turn) (noted : ℕ) (w : Option (List ℕ)) → w ≡ option_map (λ (l : List ℕ). l ++ []) w → PrintsNoMore (turn ∷ []) noted w w
no_more_unshown turn noted w same = record {
  shown = [];
  behind = turn ∷ [];
  split = refl;
  are_noted = omega arith;
  front = [];
  next = ((turn.text, refl), (turn.early, refl));
  printed = record { front = []; rest = []; split = refl; written = same };
}

-- Laws.

-- of two ways to cut a list the shorter part is a prefix of the longer
cut_within : {A : Type 0} (a b c d : List A) → a ++ b ≡ c ++ d → ((x : List A) × ((c ≡ a ++ x) × (b ≡ x ++ d))) ⊎ ((y : A) × ((x : List A) × ((a ≡ c ++ y ∷ x) × (d ≡ y ∷ x ++ b))))
cut_within [] b c d same = inl (c, (refl, same))
cut_within (y ∷ a) b [] d same = inr (y, (a, (refl, sym same)))
cut_within {A} (y ∷ a) b (z ∷ c) d same = by (cut_within a b c d (tails same)) where
  heads : y ∷ (a ++ b) ≡ z ∷ (c ++ d) → y ≡ z
  heads e = cc

  tails : y ∷ (a ++ b) ≡ z ∷ (c ++ d) → a ++ b ≡ c ++ d
  tails e = cc

  by : ((x : List A) × ((c ≡ a ++ x) × (b ≡ x ++ d))) ⊎ ((w : A) × ((x : List A) × ((a ≡ c ++ w ∷ x) × (d ≡ w ∷ x ++ b))))
      → ((x : List A) × ((z ∷ c ≡ (y ∷ a) ++ x) × (b ≡ x ++ d))) ⊎ ((w : A) × ((x : List A) × ((y ∷ a ≡ (z ∷ c) ++ w ∷ x) × (d ≡ w ∷ x ++ b))))
  by (inl p) = inl (p.0, (ap (λ (l : List A). z ∷ l) p.1.0 ∙ ap (λ (v : A). v ∷ (a ++ p.0)) (sym (heads same)), p.1.1))
  by (inr p) = inr (p.0, (p.1.0, (ap (λ (l : List A). y ∷ l) p.1.1.0 ∙ ap (λ (v : A). v ∷ (c ++ p.0 ∷ p.1.0)) (heads same), p.1.1.1)))

-- a prefix of a text is no longer
no_longer : (front text : List ℕ) → Begins front text → length front ≤ length text
no_longer front text begins = let all = ap (λ (l : List ℕ). length l) begins.1 in let sum = length-append front begins.0 in omega (arith, all, sum)

-- what was printed is no longer than what may be
printed_few : (written printed text : List ℕ) → Appends (Some written) (Some (written ++ printed)) text → length printed ≤ length text
printed_few written printed text part =
    let one : length (written ++ printed) ≡ length (written ++ part.front) = some_length (written ++ printed) (written ++ part.front) part.written in
    let a = length-append written printed in
    let b = length-append written part.front in
    let c = ap (λ (l : List ℕ). length l) part.split in
    let d = length-append part.front part.rest in
    omega (arith, one, a, b, c, d)
  where
    some_length : (x y : List ℕ) → Some x ≡ Some y → length x ≡ length y
    some_length x y same = let e : x ≡ y = cc in ap (λ (l : List ℕ). length l) e

-- the command of an iteration is one more
command_more : (before x : List Turn) (turn : Turn) (command : Stamped) → turn.command ≡ Some command → length (commands_of before) + 1 ≤ length (commands_of (before ++ turn ∷ x))
command_more before x turn command is =
    let all = ap (λ (l : List Stamped). length l) (commands_of-append before (turn ∷ x)) in
    let sum = length-append (commands_of before) (commands_of (turn ∷ x)) in
    let one : 1 ≤ length (commands_of (turn ∷ x)) = head (turn.command) is in
    omega (arith, all, sum, one)
  where
    head : (o : Option Stamped) → o ≡ Some command → 1 ≤ length (cons_option o (commands_of x))
    head None e = absurd (no e)
      where
        no : ◌≡◌ {A = Option Stamped} None (Some command) → ⊥
        no c = cc
    head (Some c) e = omega arith

first_same : (a b : Turn) (xs ys : List Turn) → a ∷ xs ≡ b ∷ ys → a ≡ b
first_same a b xs ys e = cc

pub answered_noted : AnsweredCommandsAreNoted
answered_noted turns before noted written printed command prints answered =
    by (cut_within prints.shown prints.behind before (answered.turn ∷ answered.behind) (sym prints.split ∙ answered.split))
  where
    short : length printed ≤ length (text_of prints.shown ++ prints.front)
    short = printed_few written printed (text_of prints.shown ++ prints.front) prints.printed

    -- the iterations that are shown end before it: what follows them is shown in part
    ends_before : (x : List Turn) → before ≡ prints.shown ++ x → prints.behind ≡ x ++ answered.turn ∷ answered.behind → length (text_of prints.shown ++ prints.front) ≤ length (text_of before ++ answered.turn.early)
    ends_before [] same rest =
        let all : before ≡ prints.shown = same ∙ append-nil prints.shown in
        let next : IsEarlyNext (answered.turn ∷ answered.behind) prints.front = subst (λ (l : List Turn). IsEarlyNext l prints.front) rest prints.next in
        let few = no_longer prints.front answered.turn.early next.1 in
        let here = ap (λ (l : List Turn). length (text_of l ++ answered.turn.early)) all in
        let a = length-append (text_of prints.shown) prints.front in
        let b = length-append (text_of prints.shown) answered.turn.early in
        omega (arith, few, here, a, b)
    ends_before (y ∷ x) same rest =
        let next : IsEarlyNext (y ∷ x ++ answered.turn ∷ answered.behind) prints.front = subst (λ (l : List Turn). IsEarlyNext l prints.front) rest prints.next in
        let few = no_longer prints.front y.text next.0 in
        let here = ap (λ (l : List Turn). length (text_of l)) same in
        let a = length-append (text_of prints.shown) prints.front in
        let b = length-append (text_of before) answered.turn.early in
        let c = ap (λ (l : List ℕ). length l) (text_of-append prints.shown (y ∷ x)) in
        let d = length-append (text_of prints.shown) (text_of (y ∷ x)) in
        let e = length-append y.text (text_of x) in
        omega (arith, few, here, a, b, c, d, e)

    by : ((x : List Turn) × ((before ≡ prints.shown ++ x) × (prints.behind ≡ x ++ answered.turn ∷ answered.behind)))
        ⊎ ((y : Turn) × ((x : List Turn) × ((prints.shown ≡ before ++ y ∷ x) × (answered.turn ∷ answered.behind ≡ y ∷ x ++ prints.behind)))) → length (commands_of before) + 1 ≤ noted
    by (inl p) = let out = answered.out in let few = ends_before p.0 p.1.0 p.1.1 in absurd (omega (arith, out, few, short))
    by (inr p) =
        let same : answered.turn ≡ p.0 = first_same answered.turn p.0 answered.behind (p.1.0 ++ prints.behind) p.1.1.1 in
        let is : p.0.command ≡ Some command = ap (λ (t : Turn). t.command) (sym same) ∙ answered.is in
        let more = command_more before p.1.0 p.0 command is in
        let all = ap (λ (l : List Turn). length (commands_of l)) p.1.1.0 in
        let few = prints.are_noted in
        omega (arith, more, all, few)

pub answered_done : AnsweredCommandsAreDone
answered_done from turns before opened more steps image written printed command prints answered stopped marked =
    (answered_noted turns before _ written printed command prints answered, stopped.left.later marked)
