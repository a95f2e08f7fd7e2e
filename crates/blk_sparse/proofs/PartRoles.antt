-- The role of a part with other data, and with another map.
use Rattle.std.proofs.Common.{◌≡◌, ℕ, zero, suc, ◌+◌, ◌*◌, ◌<◌, ◌≤◌, List, [], ◌∷◌, map, refl, ◌∙◌, arith, Bool, true, false, Option, Some, None}
use Rattle.std.specs.Prelude.{◌||◌, IfSome, nat_le, not, slice_index_or}
use Rattle.std.specs.List.{list_all, range_with_len}
use Rattle.std.specs.Option.{option_map_or}
use Rattle.std.proofs.lemmas.Bool.{and_from, and_parts, le-leb, leb-true}
use Rattle.blk_model.specs.Items.{LiesInside}
use Rattle.spec_format.specs.SparseIndex.{PartIndex}
use Rattle.spec_folder.specs.Entries.{is_covered}
use Rattle.blk_ranges.specs.PartMaps.{presence_in}
use Rattle.std.proofs.lemmas.List.FromFn.{get_or-map-range_with_len}

-- a test holds of all numbers of a range
all-range : (test : ℕ → Bool) (start n : ℕ) → ((b : ℕ) → start ≤ b → b < start + n → test b ≡ true) → list_all test (range_with_len start n) ≡ true
all-range test start zero holds = refl
all-range test start (suc n) holds = and_from (test start) (list_all test (range_with_len (start + 1) n)) (holds start (omega arith) (omega arith)) (all-range test (start + 1) n (λ b low high. holds b (omega (arith, low)) (omega (arith, high))))

-- of a list, a test that is weaker
all-weaker : (f g : ℕ → Bool) → ((b : ℕ) → f b ≡ true → g b ≡ true) → (xs : List ℕ) → list_all f xs ≡ true → list_all g xs ≡ true
all-weaker f g weaker [] e = refl
all-weaker f g weaker (x ∷ xs) e = let p = and_parts (f x) (list_all f xs) e in and_from (g x) (list_all g xs) (weaker x p.0) (all-weaker f g weaker xs p.1)

or-le : (b : Bool) (n size more : ℕ) → size ≤ more → (not b || nat_le n size) ≡ true → (not b || nat_le n more) ≡ true
or-le false n size more le e = refl
or-le true n size more le e = let low = leb-true n size e in le-leb n more (omega (arith, le, low))

-- what an index says is present within some bytes of data is within more of them
pub covered-more : (index : PartIndex) (size more : ℕ) → size ≤ more → is_covered index size ≡ true → is_covered index more ≡ true
unfolding is_covered
covered-more index size more le e =
    let p = and_parts _ _ e in
    and_from _ _ (all-weaker (λ b. not (index.present b) || nat_le (1024 * (b + 1)) size) (λ b. not (index.present b) || nat_le (1024 * (b + 1)) more) (λ b. or-le (index.present b) (1024 * (b + 1)) size more le) (range_with_len 0 1024) p.0) (piece index.partial p.1)
  where
    piece : (o : Option (ℕ × ℕ)) → option_map_or (λ p. nat_le (1024 * p.0 + p.1) size) o true ≡ true → option_map_or (λ p. nat_le (1024 * p.0 + p.1) more) o true ≡ true
    piece None h = refl
    piece (Some q) h = let low = leb-true (1024 * q.0 + q.1) size h in le-leb (1024 * q.0 + q.1) more (omega (arith, le, low))

-- the blocks that an index has as present
present-at : (present : ℕ → Bool) (n block : ℕ) → block < n → slice_index_or (map present (range_with_len 0 n)) block false ≡ present block
present-at present n block below = get_or-map-range_with_len present 0 n block block false below (omega arith)

-- present bytes that lie within the data pass the test of the index
pub covered-from : (index : PartIndex) (size : ℕ) → LiesInside (presence_in index) size → is_covered index size ≡ true
unfolding is_covered presence_in
covered-from index size inside = and_from _ _ (whole 1024 inside.whole) (piece index.partial inside.piece) where
  test : (b : Bool) (n : ℕ) → (b ≡ true → n ≤ size) → (not b || nat_le n size) ≡ true
  test false n holds = refl
  test true n holds = le-leb n size (holds refl)

  whole : (n : ℕ) → ((block : ℕ) → slice_index_or (map index.present (range_with_len 0 n)) block false ≡ true → (block + 1) * 1024 ≤ size) → list_all (λ b. not (index.present b) || nat_le (1024 * (b + 1)) size) (range_with_len 0 n) ≡ true
  whole n holds = all-range (λ b. not (index.present b) || nat_le (1024 * (b + 1)) size) 0 n (λ b low high.
      test (index.present b) (1024 * (b + 1)) (λ there. let fits = holds b (present-at index.present n b (omega (arith, high)) ∙ there) in omega (arith, fits)))

  piece : (o : Option (ℕ × ℕ)) → IfSome o (λ p. p.0 * 1024 + p.1 ≤ size) → option_map_or (λ p. nat_le (1024 * p.0 + p.1) size) o true ≡ true
  piece None h = refl
  piece (Some q) h = let low = h in le-leb (1024 * q.0 + q.1) size (omega (arith, low))
