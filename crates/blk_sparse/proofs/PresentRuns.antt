-- Runs of present bytes, and the bytes up to the first that is missing, over two ranges one after the other.
use Rattle.std.proofs.Common.{◌≡◌, ◌≢◌, ℕ, zero, suc, ◌+◌, ◌<◌, ◌≤◌, List, [], ◌∷◌, ◌++◌, map, length, take, drop, refl, ap, ap₂, sym, ◌∙◌, arith, Bool, true, false, Option, Some, None, cond}
use Rattle.std.specs.Prelude.{◌-◌, ◌==◌, slice_index, take_while, if◌then◌else◌}
use Rattle.std.proofs.lemmas.Bool.{eq-eqb, eqb-false, eqb-true, ne_eqb}
use Rattle.std.proofs.lemmas.List.{drop_more}
use Rattle.blk_model.specs.Bytes.{numbers_from}
use Rattle.blk_model.specs.Sparse.{first_run, up_to_missing}
use Rattle.blk_sparse.specs.Reading.{joined_runs}
use Rattle.std.specs.List.{prefix_len}

-- ---- numbers

-- the numbers of a range that is cut
pub numbers-cut : (first a b : ℕ) → numbers_from first (a + b) ≡ numbers_from first a ++ numbers_from (first + a) b
unfolding numbers_from
numbers-cut first zero b = let none : 0 + b ≡ b = omega arith in let here : first ≡ first + 0 = omega arith in ap (numbers_from first) none ∙ ap (λ (n : ℕ). numbers_from n b) here
numbers-cut first (suc a) b =
    let more : suc a + b ≡ suc (a + b) = omega arith in
    let on : first + 1 + a ≡ first + suc a = omega arith in
    ap (numbers_from first) more ∙ ap (λ (l : List ℕ). first ∷ l) (numbers-cut (first + 1) a b ∙ ap (λ (n : ℕ). numbers_from (first + 1) a ++ numbers_from n b) on)

pub numbers-long : (first n : ℕ) → length (numbers_from first n) ≡ n
unfolding numbers_from
numbers-long first zero = refl
numbers-long first (suc n) = ap suc (numbers-long (first + 1) n)

-- what is alike at numbers of two ranges is alike over both
pub numbers-alike : {A : Type 0} (f g : ℕ → A) (a b n : ℕ) → ((i : ℕ) → i < n → f (a + i) ≡ g (b + i)) → map f (numbers_from a n) ≡ map g (numbers_from b n)
unfolding numbers_from
numbers-alike f g a b zero alike = refl
numbers-alike {A} f g a b (suc n) alike =
    let a-here : a ≡ a + 0 = omega arith in
    let b-here : b + 0 ≡ b = omega arith in
    ap₂ (λ (x : A) (l : List A). x ∷ l) (ap f a-here ∙ alike 0 (omega arith) ∙ ap g b-here)
    (numbers-alike f g (a + 1) (b + 1) n (λ i less. let a-on : a + 1 + i ≡ a + (i + 1) = omega arith in let b-on : b + (i + 1) ≡ b + 1 + i = omega arith in ap f a-on ∙ alike (i + 1) (omega (arith, less)) ∙ ap g b-on))

-- the bytes at some places
pub numbers-slice : (bytes : List ℕ) (place n : ℕ) → place + n ≤ length bytes → map (slice_index bytes) (numbers_from place n) ≡ take n (drop place bytes)
unfolding numbers_from
numbers-slice bytes place zero fits = refl
numbers-slice bytes place (suc n) fits =
    ap (λ (l : List ℕ). slice_index bytes place ∷ l) (numbers-slice bytes (place + 1) n (omega (arith, fits)))
    ∙ sym (ap (take (suc n)) (drop_more bytes place 0 (omega (arith, fits))))

pub map-cut : {A B : Type 0} (f : A → B) (xs ys : List A) → map f (xs ++ ys) ≡ map f xs ++ map f ys
map-cut f [] ys = refl
map-cut {A} {B} f (x ∷ xs) ys = ap (λ (l : List B). f x ∷ l) (map-cut f xs ys)

-- ---- what comes before the first that fails a test

one-more : (n : ℕ) → 1 + n ≡ suc n
one-more n = omega arith

pub while-true : {A : Type 0} (t : A → Bool) (x : A) (xs : List A) → t x ≡ true → take_while t (x ∷ xs) ≡ x ∷ take_while t xs
while-true t x xs e = ap (λ (b : Bool). take (cond b (1 + prefix_len t xs) 0) (x ∷ xs)) e ∙ ap (λ (m : ℕ). take m (x ∷ xs)) (one-more (prefix_len t xs))

pub while-false : {A : Type 0} (t : A → Bool) (x : A) (xs : List A) → t x ≡ false → take_while t (x ∷ xs) ≡ []
while-false t x xs e = ap (λ (b : Bool). take (cond b (1 + prefix_len t xs) 0) (x ∷ xs)) e

not-none : (n : ℕ) → ((1 + n) == 0) ≡ false
not-none n = ne_eqb (1 + n) 0 (λ e. absurd (omega (arith, e)))

-- ---- bytes up to the first that is missing

-- where a test says which are there, those up to the first missing one are the longest prefix that passes it
pub missing-front : (t : ℕ → Bool) (g : ℕ → ℕ) (xs : List ℕ) → up_to_missing (map (λ p. if t p then Some (g p) else None) xs) ≡ map g (take_while t xs)
missing-front t g [] = refl
missing-front t g (x ∷ xs) = by (missing-front t g xs) (t x) refl where
  by : up_to_missing (map (λ p. if t p then Some (g p) else None) xs) ≡ map g (take_while t xs) → (b : Bool) → t x ≡ b → up_to_missing (map (λ p. if t p then Some (g p) else None) (x ∷ xs)) ≡ map g (take_while t (x ∷ xs))
  by later true e = ap (λ (b : Bool). up_to_missing ((if b then Some (g x) else None) ∷ map (λ p. if t p then Some (g p) else None) xs)) e ∙ ap (λ (l : List ℕ). g x ∷ l) later ∙ sym (ap (map g) (while-true t x xs e))
  by later false e = ap (λ (b : Bool). up_to_missing ((if b then Some (g x) else None) ∷ map (λ p. if t p then Some (g p) else None) xs)) e ∙ sym (ap (map g) (while-false t x xs e))

-- of two lists, those of the first, and where none of it is missing those of the second
pub missing-cut-whole : (xs ys : List (Option ℕ)) → length (up_to_missing xs) ≡ length xs → up_to_missing (xs ++ ys) ≡ up_to_missing xs ++ up_to_missing ys
missing-cut-whole [] ys e = refl
missing-cut-whole (None ∷ xs) ys e = absurd (omega (arith, e))
missing-cut-whole (Some x ∷ xs) ys e = ap (λ (l : List ℕ). x ∷ l) (missing-cut-whole xs ys (omega (arith, e)))

pub missing-cut-less : (xs ys : List (Option ℕ)) → length (up_to_missing xs) < length xs → up_to_missing (xs ++ ys) ≡ up_to_missing xs
missing-cut-less [] ys e = absurd (omega (arith, e))
missing-cut-less (None ∷ xs) ys e = refl
missing-cut-less (Some x ∷ xs) ys e = ap (λ (l : List ℕ). x ∷ l) (missing-cut-less xs ys (omega (arith, e)))

-- ---- the first run

tests-front : (t : ℕ → Bool) (xs : List ℕ) → length (take_while (λ b. b) (map t xs)) ≡ length (take_while t xs)
tests-front t [] = refl
tests-front t (x ∷ xs) = by (tests-front t xs) (t x) refl where
  by : length (take_while (λ b. b) (map t xs)) ≡ length (take_while t xs) → (b : Bool) → t x ≡ b → length (take_while (λ b. b) (map t (x ∷ xs))) ≡ length (take_while t (x ∷ xs))
  by later true e = ap (λ (l : List Bool). length l) (while-true (λ b. b) (t x) (map t xs) e) ∙ ap suc later ∙ sym (ap (λ (l : List ℕ). length l) (while-true t x xs e))
  by later false e = ap (λ (l : List Bool). length l) (while-false (λ b. b) (t x) (map t xs) e) ∙ sym (ap (λ (l : List ℕ). length l) (while-false t x xs e))

-- a prefix of a range that passes a test is a range
pub front-numbers : (t : ℕ → Bool) (first n : ℕ) → take_while t (numbers_from first n) ≡ numbers_from first (length (take_while t (numbers_from first n)))
unfolding numbers_from
front-numbers t first zero = refl
front-numbers t first (suc n) = by (front-numbers t (first + 1) n) (t first) refl where
  by : take_while t (numbers_from (first + 1) n) ≡ numbers_from (first + 1) (length (take_while t (numbers_from (first + 1) n))) → (b : Bool) → t first ≡ b → take_while t (first ∷ numbers_from (first + 1) n) ≡ numbers_from first (length (take_while t (first ∷ numbers_from (first + 1) n)))
  by later true e = while-true t first (numbers_from (first + 1) n) e ∙ ap (λ (l : List ℕ). first ∷ l) later ∙ sym (ap (λ (l : List ℕ). numbers_from first (length l)) (while-true t first (numbers_from (first + 1) n) e))
  by later false e = while-false t first (numbers_from (first + 1) n) e ∙ sym (ap (λ (l : List ℕ). numbers_from first (length l)) (while-false t first (numbers_from (first + 1) n) e))

-- a run begins where the tests begin, or after; or there is none
run-late : (asked start : ℕ) (tests : List Bool) → asked < start → (first_run asked start tests).0 ≡ asked → (first_run asked start tests).1 ≡ 0
run-late asked start [] late e = refl
run-late asked start (false ∷ tests) late e = run-late asked (start + 1) tests (omega (arith, late)) e
run-late asked start (true ∷ tests) late e = absurd (let same : start ≡ asked = e in omega (arith, late, same))

-- a run that begins at once is what is present at the front; where it doesn't, nothing is
pub record IsRunPrefix (place count : ℕ) (run : ℕ × ℕ) (front : List ℕ) : Type 0 where
  pub at_once : run.0 ≡ place → run.1 ≡ length front
  pub later : run.0 ≢ place → length front ≡ 0

pub run-front : (t : ℕ → Bool) (place count : ℕ) → IsRunPrefix place count (first_run place place (map t (numbers_from place count))) (take_while t (numbers_from place count))
unfolding numbers_from
run-front t place zero = record { at_once = λ e. refl; later = λ e. refl }
run-front t place (suc count) = by (t place) refl where
  by : (b : Bool) → t place ≡ b → IsRunPrefix place (suc count) (first_run place place (t place ∷ map t (numbers_from (place + 1) count))) (take_while t (place ∷ numbers_from (place + 1) count))
  by true e =
      let run : first_run place place (t place ∷ map t (numbers_from (place + 1) count)) ≡ (place, 1 + length (take_while (λ b. b) (map t (numbers_from (place + 1) count)))) = ap (λ (b : Bool). first_run place place (b ∷ map t (numbers_from (place + 1) count))) e in
      let many = ap (λ (r : ℕ × ℕ). r.1) run in
      let front = tests-front t (numbers_from (place + 1) count) in
      let long = ap (λ (l : List ℕ). length l) (while-true t place (numbers_from (place + 1) count) e) in
      record { at_once = λ same. omega (arith, many, front, long); later = λ other. absurd (other (ap (λ (r : ℕ × ℕ). r.0) run)) }
  by false e =
      let run : first_run place place (t place ∷ map t (numbers_from (place + 1) count)) ≡ first_run place (place + 1) (map t (numbers_from (place + 1) count)) = ap (λ (b : Bool). first_run place place (b ∷ map t (numbers_from (place + 1) count))) e in
      let none = ap (λ (l : List ℕ). length l) (while-false t place (numbers_from (place + 1) count) e) in
      record {
        at_once = λ same. ap (λ (r : ℕ × ℕ). r.1) run ∙ run-late place (place + 1) (map t (numbers_from (place + 1) count)) (omega arith) (sym (ap (λ (r : ℕ × ℕ). r.0) run) ∙ same) ∙ sym none;
        later = λ other. none;
      }

-- moved by a distance
pub run-moved : (asked start d : ℕ) (tests : List Bool) → first_run (asked + d) (start + d) tests ≡ ((first_run asked start tests).0 + d, (first_run asked start tests).1)
run-moved asked start d [] = refl
run-moved asked start d (true ∷ tests) = refl
run-moved asked start d (false ∷ tests) = let on : start + d + 1 ≡ start + 1 + d = omega arith in ap (λ (n : ℕ). first_run (asked + d) n tests) on ∙ run-moved asked (start + 1) d tests

-- with another place that was asked for
run-asked : (asked other start : ℕ) (tests : List Bool) → first_run asked start tests ≡ (if (first_run other start tests).1 == 0 then (asked, 0) else first_run other start tests)
run-asked asked other start [] = refl
run-asked asked other start (true ∷ tests) = sym (ap (λ (b : Bool). if b then (asked, 0) else (start, 1 + length (take_while (λ t. t) tests))) (not-none (length (take_while (λ t. t) tests))))
run-asked asked other start (false ∷ tests) = run-asked asked other (start + 1) tests

-- ---- two ranges

whole-front : (xs : List Bool) → length (take_while (λ b. b) xs) ≤ length xs
whole-front [] = omega arith
whole-front (true ∷ xs) = let less = whole-front xs in let long = ap (λ (l : List Bool). length l) (while-true (λ b. b) true xs refl) in omega (arith, less, long)
whole-front (false ∷ xs) = omega arith

front-whole : (xs ys : List Bool) → length (take_while (λ b. b) xs) ≡ length xs → length (take_while (λ b. b) (xs ++ ys)) ≡ length xs + length (take_while (λ b. b) ys)
front-whole [] ys e = omega arith
front-whole (true ∷ xs) ys e =
    let long = ap (λ (l : List Bool). length l) (while-true (λ b. b) true xs refl) in
    let both = ap (λ (l : List Bool). length l) (while-true (λ b. b) true (xs ++ ys) refl) in
    let later = front-whole xs ys (omega (arith, e, long)) in
    omega (arith, both, later)
front-whole (false ∷ xs) ys e = absurd (omega (arith, e))

front-less : (xs ys : List Bool) → length (take_while (λ b. b) xs) < length xs → length (take_while (λ b. b) (xs ++ ys)) ≡ length (take_while (λ b. b) xs)
front-less [] ys e = absurd (omega (arith, e))
front-less (true ∷ xs) ys e =
    let long = ap (λ (l : List Bool). length l) (while-true (λ b. b) true xs refl) in
    let both = ap (λ (l : List Bool). length l) (while-true (λ b. b) true (xs ++ ys) refl) in
    let later = front-less xs ys (omega (arith, e, long)) in
    omega (arith, both, later, long)
front-less (false ∷ xs) ys e = refl

-- the run of some tests from a place on, as above
tests-run-front : (place : ℕ) (tests : List Bool) → ((first_run place place tests).0 ≡ place → (first_run place place tests).1 ≡ length (take_while (λ b. b) tests)) × ((first_run place place tests).0 ≢ place → length (take_while (λ b. b) tests) ≡ 0)
tests-run-front place [] = ((λ e. refl), (λ e. refl))
tests-run-front place (true ∷ tests) = ((λ e. let long = ap (λ (l : List Bool). length l) (while-true (λ b. b) true tests refl) in omega (arith, long)), (λ e. absurd (e refl)))
tests-run-front place (false ∷ tests) = ((λ e. run-late place (place + 1) tests (omega arith) e), (λ e. refl))

pub runs-join : (asked start : ℕ) (xs ys : List Bool) → first_run asked start (xs ++ ys) ≡ joined_runs asked (start + length xs) (first_run asked start xs) (first_run (start + length xs) (start + length xs) ys)
runs-join asked start [] ys =
    let here : start ≡ start + 0 = omega arith in
    run-asked asked start start ys ∙ ap (λ (n : ℕ). if (first_run n n ys).1 == 0 then (asked, 0) else first_run n n ys) here
runs-join asked start (false ∷ xs) ys =
    let on : start + 1 + length xs ≡ start + suc (length xs) = omega arith in
    runs-join asked (start + 1) xs ys ∙ ap (λ (n : ℕ). joined_runs asked n (first_run asked (start + 1) xs) (first_run n n ys)) on
runs-join asked start (true ∷ xs) ys = by (start + (1 + length (take_while (λ b. b) xs)) == start + length (true ∷ xs)) refl where
  at-border : (b : Bool) → ((first_run (start + length (true ∷ xs)) (start + length (true ∷ xs)) ys).0 == start + length (true ∷ xs)) ≡ b → length (take_while (λ b. b) xs) ≡ length xs
      → ◌≡◌ {A = ℕ × ℕ} (start, 1 + length (take_while (λ b. b) (xs ++ ys))) (if b then (start, 1 + length (take_while (λ b. b) xs) + (first_run (start + length (true ∷ xs)) (start + length (true ∷ xs)) ys).1) else (start, 1 + length (take_while (λ b. b) xs)))
  at-border true e all =
      let one = (tests-run-front (start + length (true ∷ xs)) ys).0 (eqb-true (first_run (start + length (true ∷ xs)) (start + length (true ∷ xs)) ys).0 (start + length (true ∷ xs)) e) in
      let long = front-whole xs ys all in
      ap (λ (n : ℕ). (start, n)) (omega (arith, one, long, all))
  at-border false e all =
      let none = (tests-run-front (start + length (true ∷ xs)) ys).1 (λ same. let z : true ≡ false = sym (eq-eqb (first_run (start + length (true ∷ xs)) (start + length (true ∷ xs)) ys).0 (start + length (true ∷ xs)) same) ∙ e in cc) in
      let long = front-whole xs ys all in
      ap (λ (n : ℕ). (start, n)) (omega (arith, none, long, all))

  by : (b : Bool) → (start + (1 + length (take_while (λ b. b) xs)) == start + length (true ∷ xs)) ≡ b → ◌≡◌ {A = ℕ × ℕ} (start, 1 + length (take_while (λ b. b) (xs ++ ys))) (joined_runs asked (start + length (true ∷ xs)) (start, 1 + length (take_while (λ b. b) xs)) (first_run (start + length (true ∷ xs)) (start + length (true ∷ xs)) ys))
  by true e = let all : start + (1 + length (take_while (λ b. b) xs)) ≡ start + length (true ∷ xs) = eqb-true _ _ e in rw (not-none (length (take_while (λ b. b) xs)), e) (at-border ((first_run (start + length (true ∷ xs)) (start + length (true ∷ xs)) ys).0 == start + length (true ∷ xs)) refl (omega (arith, all)))
  by false e =
      let less = whole-front xs in
      let not-all : length (take_while (λ b. b) xs) ≢ length xs = λ all. (let same : start + (1 + length (take_while (λ b. b) xs)) ≡ start + length (true ∷ xs) = omega (arith, all) in eqb-false (start + (1 + length (take_while (λ b. b) xs))) (start + length (true ∷ xs)) e same) in
      rw (not-none (length (take_while (λ b. b) xs)), e) (ap (λ (n : ℕ). (start, 1 + n)) (front-less xs ys (omega (arith, less, not-all))))

-- where a run lies
pub run-within : (asked start : ℕ) (tests : List Bool) → asked ≤ start → (asked ≤ (first_run asked start tests).0) × ((first_run asked start tests).0 + (first_run asked start tests).1 ≤ start + length tests)
run-within asked start [] le = (omega arith, omega (arith, le))
run-within asked start (true ∷ tests) le = let front = whole-front tests in (le, omega (arith, front))
run-within asked start (false ∷ tests) le = let more = run-within asked (start + 1) tests (omega (arith, le)) in let a = more.0 in let b = more.1 in (a, omega (arith, b))

-- where no test passes there is none
pub run-none : (asked start : ℕ) (xs : List ℕ) → first_run asked start (map (λ p. false) xs) ≡ (asked, 0)
run-none asked start [] = refl
run-none asked start (x ∷ xs) = run-none asked (start + 1) xs

-- nor any byte
pub missing-none : (xs : List ℕ) → up_to_missing (map (λ p. None) xs) ≡ []
missing-none [] = refl
missing-none (x ∷ xs) = refl
