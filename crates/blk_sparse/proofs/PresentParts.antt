-- The bytes of an object that are present among some of one part, or of two.
use Rattle.std.proofs.Common.{◌≡◌, ◌≢◌, ℕ, suc, ◌∷◌, take, take_all, length-take, true, false, ◌+◌, ◌<◌, ◌≤◌, List, [], ◌++◌, refl, map, length, ap, ap₂, sym, ◌∙◌, arith, Bool, Option}
use Rattle.std.specs.Prelude.{◌-◌, ◌==◌, ◌/◌, ◌%◌, is_some}
use Rattle.std.specs.Option.{option_and_then}
use Rattle.std.proofs.lemmas.Bool.{eqb-false, eqb-true}
use Rattle.std.proofs.lemmas.List.{length-map}
use Rattle.blk_model.specs.Bytes.{numbers_from}
use Rattle.blk_model.specs.Sparse.{byte_at, byte_in, first_run, present_run, sparse_bytes, up_to_missing}
use Rattle.blk_model.specs.State.{Object, part_at}
use Rattle.blk_sparse.specs.Reading.{byte_of_part, joined_runs, part_bytes, part_run}
use Rattle.blk_sparse.proofs.PresentRuns.{map-cut, missing-cut-less, missing-cut-whole, numbers-alike, numbers-cut, numbers-long, run-moved, runs-join}

-- a byte by its part
byte-in-part : (object : Object) (offset n place : ℕ) → offset / 1048576 ≡ n → offset % 1048576 ≡ place → byte_at object offset ≡ byte_of_part object n place
byte-in-part object offset n place part inside = ap₂ (λ (p q : ℕ). option_and_then (byte_in p) (part_at object q)) inside part

module _ (object : Object) (offset cut : ℕ) (fits : offset % 1048576 + cut ≤ 1048576) where
  -- those up to the end of the first part
  bytes-first : map (byte_at object) (numbers_from offset cut) ≡ map (byte_of_part object (offset / 1048576)) (numbers_from (offset % 1048576) cut)
  bytes-first = numbers-alike (byte_at object) (byte_of_part object (offset / 1048576)) offset (offset % 1048576) cut
      (λ i less. byte-in-part object (offset + i) (offset / 1048576) (offset % 1048576 + i) (omega (arith, fits, less)) (omega (arith, fits, less)))

  -- and those of the next one
  bytes-second : (more : ℕ) → offset % 1048576 + cut ≡ 1048576 → more ≤ 1048576 → map (byte_at object) (numbers_from (offset + cut) more) ≡ map (byte_of_part object (offset / 1048576 + 1)) (numbers_from 0 more)
  bytes-second more whole few = numbers-alike (byte_at object) (byte_of_part object (offset / 1048576 + 1)) (offset + cut) 0 more
      (λ i less. byte-in-part object (offset + cut + i) (offset / 1048576 + 1) (0 + i) (omega (arith, whole, less, few)) (omega (arith, whole, less, few)))

  -- ---- the bytes up to the first that is missing

  pub sparse-first : sparse_bytes object offset cut ≡ part_bytes object (offset / 1048576) (offset % 1048576) cut
  unfolding sparse_bytes
  sparse-first = ap up_to_missing bytes-first

  both-bytes : (more : ℕ) → offset % 1048576 + cut ≡ 1048576 → more ≤ 1048576 → map (byte_at object) (numbers_from offset (cut + more)) ≡ map (byte_of_part object (offset / 1048576)) (numbers_from (offset % 1048576) cut) ++ map (byte_of_part object (offset / 1048576 + 1)) (numbers_from 0 more)
  both-bytes more whole few = ap (map (byte_at object)) (numbers-cut offset cut more) ∙ map-cut (byte_at object) (numbers_from offset cut) (numbers_from (offset + cut) more) ∙ ap₂ (λ (a b : List (Option ℕ)). a ++ b) bytes-first (bytes-second more whole few)

  first-long : length (map (byte_of_part object (offset / 1048576)) (numbers_from (offset % 1048576) cut)) ≡ cut
  first-long = length-map (numbers_from (offset % 1048576) cut) (byte_of_part object (offset / 1048576)) ∙ numbers-long (offset % 1048576) cut

  pub sparse-whole : (more : ℕ) → offset % 1048576 + cut ≡ 1048576 → more ≤ 1048576 → length (part_bytes object (offset / 1048576) (offset % 1048576) cut) ≡ cut → sparse_bytes object offset (cut + more) ≡ part_bytes object (offset / 1048576) (offset % 1048576) cut ++ part_bytes object (offset / 1048576 + 1) 0 more
  unfolding sparse_bytes
  sparse-whole more whole few all = ap up_to_missing (both-bytes more whole few) ∙ missing-cut-whole (map (byte_of_part object (offset / 1048576)) (numbers_from (offset % 1048576) cut)) (map (byte_of_part object (offset / 1048576 + 1)) (numbers_from 0 more)) (all ∙ sym first-long)

  pub sparse-less : (more : ℕ) → offset % 1048576 + cut ≡ 1048576 → more ≤ 1048576 → length (part_bytes object (offset / 1048576) (offset % 1048576) cut) < cut → sparse_bytes object offset (cut + more) ≡ part_bytes object (offset / 1048576) (offset % 1048576) cut
  unfolding sparse_bytes
  sparse-less more whole few less = ap up_to_missing (both-bytes more whole few) ∙ missing-cut-less (map (byte_of_part object (offset / 1048576)) (numbers_from (offset % 1048576) cut)) (map (byte_of_part object (offset / 1048576 + 1)) (numbers_from 0 more)) (let long = first-long in omega (arith, less, long))

  -- ---- the first run

  tests-first : map (λ p. is_some (byte_at object p)) (numbers_from offset cut) ≡ map (λ p. is_some (byte_of_part object (offset / 1048576) p)) (numbers_from (offset % 1048576) cut)
  tests-first = numbers-alike (λ p. is_some (byte_at object p)) (λ p. is_some (byte_of_part object (offset / 1048576) p)) offset (offset % 1048576) cut
      (λ i less. ap (λ (o : Option ℕ). is_some o) (byte-in-part object (offset + i) (offset / 1048576) (offset % 1048576 + i) (omega (arith, fits, less)) (omega (arith, fits, less))))

  tests-second : (more : ℕ) → offset % 1048576 + cut ≡ 1048576 → more ≤ 1048576 → map (λ p. is_some (byte_at object p)) (numbers_from (offset + cut) more) ≡ map (λ p. is_some (byte_of_part object (offset / 1048576 + 1) p)) (numbers_from 0 more)
  tests-second more whole few = numbers-alike (λ p. is_some (byte_at object p)) (λ p. is_some (byte_of_part object (offset / 1048576 + 1) p)) (offset + cut) 0 more
      (λ i less. ap (λ (o : Option ℕ). is_some o) (byte-in-part object (offset + cut + i) (offset / 1048576 + 1) (0 + i) (omega (arith, whole, less, few)) (omega (arith, whole, less, few))))

  -- the distance from places to offsets
  abbrev far : ℕ
  far = offset - offset % 1048576

  moved : (tests : List Bool) → first_run offset offset tests ≡ ((first_run (offset % 1048576) (offset % 1048576) tests).0 + far, (first_run (offset % 1048576) (offset % 1048576) tests).1)
  moved tests = ap (λ (n : ℕ). first_run n n tests) (omega arith) ∙ run-moved (offset % 1048576) (offset % 1048576) far tests

  moved-second : (tests : List Bool) → first_run (offset + cut) (offset + cut) tests ≡ ((first_run 0 0 tests).0 + (offset + cut), (first_run 0 0 tests).1)
  moved-second tests = let none : offset + cut ≡ 0 + (offset + cut) = omega arith in ap (λ (n : ℕ). first_run n n tests) none ∙ run-moved 0 0 (offset + cut) tests

  pub run-first : present_run object offset cut ≡ ((part_run object (offset / 1048576) (offset % 1048576) cut).0 + far, (part_run object (offset / 1048576) (offset % 1048576) cut).1)
  unfolding present_run
  run-first = ap (first_run offset offset) tests-first ∙ moved (map (λ p. is_some (byte_of_part object (offset / 1048576) p)) (numbers_from (offset % 1048576) cut))

  pub run-both : (more : ℕ) → offset % 1048576 + cut ≡ 1048576 → more ≤ 1048576 → present_run object offset (cut + more)
      ≡ joined_runs offset (offset + cut) ((part_run object (offset / 1048576) (offset % 1048576) cut).0 + far, (part_run object (offset / 1048576) (offset % 1048576) cut).1) ((part_run object (offset / 1048576 + 1) 0 more).0 + (offset + cut), (part_run object (offset / 1048576 + 1) 0 more).1)
  unfolding present_run
  run-both more whole few =
      let one = map (λ p. is_some (byte_of_part object (offset / 1048576) p)) (numbers_from (offset % 1048576) cut) in
      let two = map (λ p. is_some (byte_of_part object (offset / 1048576 + 1) p)) (numbers_from 0 more) in
      let long : length one ≡ cut = length-map (numbers_from (offset % 1048576) cut) (λ p. is_some (byte_of_part object (offset / 1048576) p)) ∙ numbers-long (offset % 1048576) cut in
      ap (λ (ns : List ℕ). first_run offset offset (map (λ p. is_some (byte_at object p)) ns)) (numbers-cut offset cut more)
      ∙ ap (first_run offset offset) (map-cut (λ p. is_some (byte_at object p)) (numbers_from offset cut) (numbers_from (offset + cut) more) ∙ ap₂ (λ (a b : List Bool). a ++ b) tests-first (tests-second more whole few))
      ∙ runs-join offset offset one two
      ∙ ap (λ (n : ℕ). joined_runs offset (offset + n) (first_run offset offset one) (first_run (offset + n) (offset + n) two)) long
      ∙ ap₂ (λ (a b : ℕ × ℕ). joined_runs offset (offset + cut) a b) (moved one) (moved-second two)

-- ---- no byte

pub run-empty : (object : Object) (offset : ℕ) → present_run object offset 0 ≡ (offset, 0)
unfolding present_run numbers_from
run-empty object offset = refl

pub sparse-empty : (object : Object) (offset : ℕ) → sparse_bytes object offset 0 ≡ []
unfolding sparse_bytes numbers_from
sparse-empty object offset = refl

-- ---- the runs as they are answered

shifted : (offset place rest start r : ℕ) → start ≡ r → place ≡ rest → offset - place + start ≡ r + (offset - rest)
shifted offset place rest start r s p = omega (arith, s, p)

pub first-run-is : (object : Object) (offset count first place cut start len : ℕ) → (start, len) ≡ part_run object first place cut → first ≡ offset / 1048576 → place ≡ offset % 1048576 → place + cut ≤ 1048576 → cut ≡ count → (offset - place + start, len) ≡ present_run object offset count
first-run-is object offset count first place cut start len is first_is place_is fits cut_is =
    let there : ◌≡◌ {A = ℕ × ℕ} (start, len) (part_run object (offset / 1048576) (offset % 1048576) cut) = is ∙ ap₂ (λ (n p : ℕ). part_run object n p cut) first_is place_is in
    ap₂ (λ (a b : ℕ). (a, b)) (shifted offset place (offset % 1048576) start (part_run object (offset / 1048576) (offset % 1048576) cut).0 (ap (λ (r : ℕ × ℕ). r.0) there) place_is) (ap (λ (r : ℕ × ℕ). r.1) there)
    ∙ sym (run-first object offset cut (omega (arith, place_is, fits)))
    ∙ ap (present_run object offset) cut_is

pub both-runs-are : (object : Object) (offset count first place cut border s l behind t m : ℕ) → (s, l) ≡ part_run object first place cut → (t, m) ≡ part_run object (first + 1) 0 behind → first ≡ offset / 1048576 → place ≡ offset % 1048576 → place + cut ≡ 1048576 → border ≡ offset + cut → cut + behind ≡ count → behind ≤ 1048576
    → joined_runs offset border (offset - place + s, l) (border + t, m) ≡ present_run object offset count
both-runs-are object offset count first place cut border s l behind t m one_is two_is first_is place_is whole border_is all few =
    let one : ◌≡◌ {A = ℕ × ℕ} (s, l) (part_run object (offset / 1048576) (offset % 1048576) cut) = one_is ∙ ap₂ (λ (n p : ℕ). part_run object n p cut) first_is place_is in
    let two : ◌≡◌ {A = ℕ × ℕ} (t, m) (part_run object (offset / 1048576 + 1) 0 behind) = two_is ∙ ap (λ (n : ℕ). part_run object (n + 1) 0 behind) first_is in
    let full : offset % 1048576 + cut ≡ 1048576 = omega (arith, place_is, whole) in
    ap₂ (λ (x y : ℕ × ℕ). joined_runs offset border x y)
    (ap₂ (λ (a b : ℕ). (a, b)) (shifted offset place (offset % 1048576) s (part_run object (offset / 1048576) (offset % 1048576) cut).0 (ap (λ (r : ℕ × ℕ). r.0) one) place_is) (ap (λ (r : ℕ × ℕ). r.1) one))
    (ap₂ (λ (a b : ℕ). (a, b)) (put border t (part_run object (offset / 1048576 + 1) 0 behind).0 (offset + cut) (ap (λ (r : ℕ × ℕ). r.0) two) border_is) (ap (λ (r : ℕ × ℕ). r.1) two))
    ∙ ap (λ (b : ℕ). joined_runs offset b ((part_run object (offset / 1048576) (offset % 1048576) cut).0 + (offset - offset % 1048576), (part_run object (offset / 1048576) (offset % 1048576) cut).1) ((part_run object (offset / 1048576 + 1) 0 behind).0 + (offset + cut), (part_run object (offset / 1048576 + 1) 0 behind).1)) border_is
    ∙ sym (run-both object offset cut (omega (arith, full)) behind full few)
    ∙ ap (present_run object offset) all
  where
    put : (b t q e : ℕ) → t ≡ q → b ≡ e → b + t ≡ q + e
    put b t q e x y = omega (arith, x, y)

-- ---- the bytes as they are read

length-taken : (n : ℕ) (xs : List ℕ) → n ≤ length xs → length (take n xs) ≡ n
length-taken n xs le = let long = length-take n xs in omega (arith, long, le)

take-past : (xs ys : List ℕ) (m : ℕ) → take (length xs + m) (xs ++ ys) ≡ xs ++ take m ys
take-past [] ys m = let none : length {A = ℕ} [] + m ≡ m = omega arith in ap (λ (n : ℕ). take n ys) none
take-past (x ∷ xs) ys m = let more : length (x ∷ xs) + m ≡ suc (length xs + m) = omega arith in ap (λ (n : ℕ). take n (x ∷ xs ++ ys)) more ∙ ap (λ (l : List ℕ). x ∷ l) (take-past xs ys m)

module _ (object : Object) (offset count first place cut len : ℕ) (out : List ℕ) (is : take len out ≡ part_bytes object first place cut) (first_is : first ≡ offset / 1048576) (place_is : place ≡ offset % 1048576) (fits : place + cut ≤ 1048576) (long : len ≤ length out) where
  there : take len out ≡ part_bytes object (offset / 1048576) (offset % 1048576) cut
  there = is ∙ ap₂ (λ (n p : ℕ). part_bytes object n p cut) first_is place_is

  so-many : length (part_bytes object (offset / 1048576) (offset % 1048576) cut) ≡ len
  so-many = sym (ap (λ (l : List ℕ). length l) there) ∙ length-taken len out long

  inside : offset % 1048576 + cut ≤ 1048576
  inside = omega (arith, place_is, fits)

  pub bytes-all : cut ≡ count → take len out ≡ sparse_bytes object offset count
  bytes-all all = there ∙ sym (sparse-first object offset cut inside) ∙ ap (sparse_bytes object offset) all

  pub bytes-less : len < cut → cut ≤ count → count ≤ 1048576 → (cut ≢ count → place + cut ≡ 1048576) → take len out ≡ sparse_bytes object offset count
  bytes-less less within few ends = by (cut == count) refl where
    by : (b : Bool) → (cut == count) ≡ b → take len out ≡ sparse_bytes object offset count
    by true e = bytes-all (eqb-true cut count e)
    by false e =
        let full : place + cut ≡ 1048576 = ends (eqb-false cut count e) in
        let whole : offset % 1048576 + cut ≡ 1048576 = omega (arith, place_is, full) in
        let both : cut + (count - cut) ≡ count = omega (arith, within) in
        let many = so-many in
        there ∙ sym (sparse-less object offset cut inside (count - cut) whole (omega (arith, few)) (omega (arith, many, less))) ∙ ap (sparse_bytes object offset) both

  pub bytes-both : (m behind : ℕ) (ys : List ℕ) → take m ys ≡ part_bytes object (first + 1) 0 behind → len ≡ cut → length out ≡ cut → place + cut ≡ 1048576 → behind ≤ 1048576 → cut + behind ≡ count → take (len + m) (out ++ ys) ≡ sparse_bytes object offset count
  bytes-both m behind ys two len_is out_is full few all =
      let whole : offset % 1048576 + cut ≡ 1048576 = omega (arith, place_is, full) in
      let many = so-many in
      let same : len + m ≡ length out + m = omega (arith, len_is, out_is) in
      ap (λ (n : ℕ). take n (out ++ ys)) same ∙ take-past out ys m
      ∙ ap₂ (λ (a b : List ℕ). a ++ b) (sym (take_all len out (omega (arith, len_is, out_is))) ∙ there) (two ∙ ap (λ (n : ℕ). part_bytes object (n + 1) 0 behind) first_is)
      ∙ sym (sparse-whole object offset cut inside behind whole few (omega (arith, many, len_is)))
      ∙ ap (sparse_bytes object offset) all
