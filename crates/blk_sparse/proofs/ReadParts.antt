-- The first run of a part, and its bytes up to the first that is not present.
use Rattle.std.proofs.Common.{◌≡◌, ◌≢◌, ap₂, ℕ, zero, suc, ◌+◌, ◌*◌, ◌<◌, ◌≤◌, List, [], ◌∷◌, ◌++◌, map, length, take, drop, refl, ap, sym, ◌∙◌, arith, Bool, true, false, Option, Some, None, ⊎_elim, inl, inr, ◌⊎◌}
use Rattle.std.specs.Prelude.{◌-◌, ◌/◌, ◌%◌, ◌||◌, ◌==◌, IfSome, is_some, nat_lt, slice_index, take_while, if◌then◌else◌, max, min}
use Rattle.std.specs.Option.{ForSome, option_and_then}
use Rattle.std.proofs.lemmas.Bool.{eqb-true, ltb-true}
use Rattle.std.proofs.lemmas.List.{length-map}
use Rattle.spec_image.specs.Image.{Image}
use Rattle.blk_model.specs.Bytes.{numbers_from}
use Rattle.blk_model.specs.Items.{IsPartValue, PartValue, Presence, is_block_present}
use Rattle.blk_model.specs.Sparse.{byte_in, first_run, is_present_in, piece_in, up_to_missing}
use Rattle.blk_model.specs.State.{Object, part_at}
use Rattle.spec_format.specs.SparseIndex.{PartIndex}
use Rattle.blk_ranges.specs.PartMaps.{index_of, presence_in, presence_of}
use Rattle.blk_ranges.specs.Runs.{run_between}
use Rattle.blk_ranges.specs.declared.part_map.PartMap.{PartMap}
use Rattle.spec_folder.specs.Entries.{stream}
use Rattle.blk_entry.specs.Keys.{IsPiece}
use Rattle.blk_stream.specs.Streams.{streams_at}
use Rattle.blk_sparse.specs.Reading.{IsPartRead, part_bytes, part_run}
use Rattle.blk_sparse.proofs.ParentsRead.{streams-there}
use Rattle.blk_sparse.proofs.PresentRuns.{front-numbers, missing-front, missing-none, numbers-long, numbers-slice, run-front, run-none, run-within, while-true, while-false}

-- ---- its first run

some-test : (b : Bool) (x : ℕ) → is_some (if b then Some x else None) ≡ b
some-test true x = refl
some-test false x = refl

pub run-there : (object : Object) (n place count : ℕ) (value : PartValue) → part_at object n ≡ Some value → part_run object n place count ≡ first_run place place (map (is_present_in value.presence) (numbers_from place count))
run-there object n place count value has =
    ap (λ (o : Option PartValue). first_run place place (map (λ p. is_some (option_and_then (byte_in p) o)) (numbers_from place count))) has
    ∙ ap (λ (f : ℕ → Bool). first_run place place (map f (numbers_from place count))) (λ i p. some-test (is_present_in value.presence p) (slice_index value.bytes p) i)

pub run-nowhere : (object : Object) (n place count : ℕ) → part_at object n ≡ None → part_run object n place count ≡ (place, 0)
run-nowhere object n place count none =
    ap (λ (o : Option PartValue). first_run place place (map (λ p. is_some (option_and_then (byte_in p) o)) (numbers_from place count))) none ∙ run-none place place (numbers_from place count)

-- the run of a map is that of the part
pub map-run : (object : Object) (n of_part place count : ℕ) (from : Image) (r : IsPartRead object n of_part from) (m : PartMap) → index_of m ≡ r.index → run_between (presence_of m) place (place + count) ≡ part_run object n place count
unfolding run_between
map-run object n of_part place count from r m is =
    ap (λ (i : PartIndex). first_run place place (map (is_present_in (presence_in i)) (numbers_from place (place + count - place)))) is
    ∙ ap (λ (p : Presence). first_run place place (map (is_present_in p) (numbers_from place (place + count - place)))) r.presence
    ∙ ap (λ (c : ℕ). first_run place place (map (is_present_in r.value.presence) (numbers_from place c))) (omega arith)
    ∙ sym (run-there object n place count r.value r.has)

-- ---- its bytes

pub bytes-nowhere : (object : Object) (n place count : ℕ) → part_at object n ≡ None → part_bytes object n place count ≡ []
bytes-nowhere object n place count none = ap (λ (o : Option PartValue). up_to_missing (map (λ p. option_and_then (byte_in p) o) (numbers_from place count))) none ∙ missing-none (numbers_from place count)

-- what is present lies inside the data
present-inside : (value : PartValue) → IsPartValue value → (place : ℕ) → is_present_in value.presence place ≡ true → place < length value.bytes
present-inside value is place there = ⊎_elim
    (λ (whole : is_block_present value.presence (place / 1024) ≡ true). let fits = is.inside.whole (place / 1024) whole in omega (arith, fits))
    (λ (piece : nat_lt (place % 1024) (piece_in value.presence.partial (place / 1024)) ≡ true). partial value.presence.partial is.inside.piece (ltb-true (place % 1024) (piece_in value.presence.partial (place / 1024)) piece))
    (either (is_block_present value.presence (place / 1024)) (nat_lt (place % 1024) (piece_in value.presence.partial (place / 1024))) there)
  where
    either : (a b : Bool) → (a || b) ≡ true → (a ≡ true) ⊎ (b ≡ true)
    either true b e = inl refl
    either false b e = inr e

    partial : (o : Option (ℕ × ℕ)) → IfSome o (λ p. p.0 * 1024 + p.1 ≤ length value.bytes) → place % 1024 < piece_in o (place / 1024) → place < length value.bytes
    partial None fits less = absurd (omega (arith, less))
    partial (Some p) fits less = by (p.0 == place / 1024) refl where
      by : (b : Bool) → (p.0 == place / 1024) ≡ b → place < length value.bytes
      by true e =
          let same : p.0 ≡ place / 1024 = eqb-true p.0 (place / 1024) e in
          let within : p.0 * 1024 + p.1 ≤ length value.bytes = fits in
          let low : place % 1024 < p.1 = rw e at less in
          omega (arith, same, within, low)
      by false e = absurd (let none : place % 1024 < 0 = rw e at less in omega (arith, none))

-- all that is present at the front of a range lies inside
front-inside : (value : PartValue) → IsPartValue value → (place count : ℕ) → place + length (take_while (is_present_in value.presence) (numbers_from place count)) ≤ max (length value.bytes) place
unfolding numbers_from
front-inside value is place zero = omega arith
front-inside value is place (suc count) = by (front-inside value is (place + 1) count) (is_present_in value.presence place) refl where
  by : place + 1 + length (take_while (is_present_in value.presence) (numbers_from (place + 1) count)) ≤ max (length value.bytes) (place + 1) → (b : Bool) → is_present_in value.presence place ≡ b → place + length (take_while (is_present_in value.presence) (place ∷ numbers_from (place + 1) count)) ≤ max (length value.bytes) place
  by more true e =
      let here = present-inside value is place e in
      let long = ap (λ (l : List ℕ). length l) (while-true (is_present_in value.presence) place (numbers_from (place + 1) count) e) in
      omega (arith, more, here, long)
  by more false e = let none = ap (λ (l : List ℕ). length l) (while-false (is_present_in value.presence) place (numbers_from (place + 1) count) e) in omega (arith, none)

inside-slice : (bytes : List ℕ) (place k : ℕ) → place + k ≤ max (length bytes) place → map (slice_index bytes) (numbers_from place k) ≡ take k (drop place bytes)
unfolding numbers_from
inside-slice bytes place zero fits = refl
inside-slice bytes place (suc k) fits = numbers-slice bytes place (suc k) (omega (arith, fits))

pub bytes-front : (object : Object) (n place count : ℕ) (value : PartValue) → IsPartValue value → part_at object n ≡ Some value → part_bytes object n place count ≡ take (length (take_while (is_present_in value.presence) (numbers_from place count))) (drop place value.bytes)
bytes-front object n place count value is has =
    ap (λ (o : Option PartValue). up_to_missing (map (λ p. option_and_then (byte_in p) o) (numbers_from place count))) has
    ∙ missing-front (is_present_in value.presence) (slice_index value.bytes) (numbers_from place count)
    ∙ ap (map (slice_index value.bytes)) (front-numbers (is_present_in value.presence) place count)
    ∙ inside-slice value.bytes place (length (take_while (is_present_in value.presence) (numbers_from place count))) (front-inside value is place count)

-- where the run of a map lies
pub run-inside : (p : Presence) (place count : ℕ) → (place ≤ (run_between p place (place + count)).0) × ((run_between p place (place + count)).0 + (run_between p place (place + count)).1 ≤ place + count)
unfolding run_between
run-inside p place count =
    let r = run-within place place (map (is_present_in p) (numbers_from place (place + count - place))) (omega arith) in
    let long = length-map (numbers_from place (place + count - place)) (is_present_in p) ∙ numbers-long place (place + count - place) in
    (r.0, let b = r.1 in omega (arith, b, long))

-- ---- what is read of a part

module _ (object : Object) (n of_part place count : ℕ) (from : Image) (r : IsPartRead object n of_part from) (m : PartMap) (is : index_of m ≡ r.index) where
  abbrev front : List ℕ
  front = take_while (is_present_in r.value.presence) (numbers_from place count)

  its-run : run_between (presence_of m) place (place + count) ≡ first_run place place (map (is_present_in r.value.presence) (numbers_from place count))
  its-run = map-run object n of_part place count from r m is ∙ run-there object n place count r.value r.has

  its-bytes : part_bytes object n place count ≡ take (length front) (drop place r.value.bytes)
  its-bytes = bytes-front object n place count r.value r.is_value r.has

  -- nothing, where the run begins after the place
  pub read-none : (run_between (presence_of m) place (place + count)).0 ≢ place → [] ≡ part_bytes object n place count
  read-none other =
      let none : length front ≡ 0 = (run-front (is_present_in r.value.presence) place count).later (λ e. other (ap (λ (x : ℕ × ℕ). x.0) its-run ∙ e)) in
      sym (its-bytes ∙ ap (λ (k : ℕ). take k (drop place r.value.bytes)) none)

  -- as many bytes as the run has, where it begins at once
  pub read-some : (run_between (presence_of m) place (place + count)).0 ≡ place → (old new : List ℕ) (k : ℕ) → length old ≡ (run_between (presence_of m) place (place + count)).1
      → ForSome (streams_at from of_part) (λ (streams : List (List ℕ)). IsPiece (stream 1 streams) place old new k) → take k new ≡ part_bytes object n place count
  read-some once old new k room piece =
      let p : IsPiece (stream 1 r.loaded.streams) place old new k = piece r.loaded.streams (streams-there from of_part r.loaded r.loads) in
      let many : k ≡ min (length old) (length (stream 1 r.loaded.streams) - place) = p.many in
      let long : length (stream 1 r.loaded.streams) ≡ length r.value.bytes = ap (λ (l : List ℕ). length l) r.bytes in
      let all : (run_between (presence_of m) place (place + count)).1 ≡ length front = ap (λ (x : ℕ × ℕ). x.1) its-run ∙ (run-front (is_present_in r.value.presence) place count).at_once (sym (ap (λ (x : ℕ × ℕ). x.0) its-run) ∙ once) in
      let inside : place + length front ≤ max (length r.value.bytes) place = front-inside r.value r.is_value place count in
      let whole : length old ≡ length front = room ∙ all in
      let same : k ≡ length front = enough k (length old) (length (stream 1 r.loaded.streams)) (length r.value.bytes) place (length front) many long whole inside in
      p.front ∙ ap₂ (λ (c : ℕ) (l : List ℕ). take c (drop place l)) same r.bytes ∙ sym its-bytes
    where
      enough : (k o s b place f : ℕ) → k ≡ min o (s - place) → s ≡ b → o ≡ f → place + f ≤ max b place → k ≡ f
      enough k o s b place f many long whole inside = omega (arith, many, long, whole, inside)

pub prefix-only : (k : ℕ) (xs ys : List ℕ) → k ≤ length xs → take k (xs ++ ys) ≡ take k xs
prefix-only zero xs ys le = refl
prefix-only (suc k) [] ys le = absurd (omega (arith, le))
prefix-only (suc k) (x ∷ xs) ys le = ap (λ (l : List ℕ). x ∷ l) (prefix-only k xs ys (omega (arith, le)))
