-- What a new part is by its two streams, and its row.
use Rattle.std.proofs.Common.{◌≡◌, ℕ, zero, suc, ◌+◌, ◌*◌, ◌<◌, ◌≤◌, List, [], ◌∷◌, length, map, get_or, Bool, true, false, Option, None, Some, IfSome, refl, ◌∙◌, ap, arith}
use Rattle.std.specs.Prelude.{◌==◌, ◌||◌, not, nat_le, nat_lt}
use Rattle.std.specs.Cmp.Derive.{both_true}
use Rattle.std.specs.List.{list_all, range_with_len}
use Rattle.std.specs.Option.{option_map_or}
use Rattle.std.proofs.lemmas.Bool.{eq-eqb, le-leb}
use Rattle.std.proofs.lemmas.Bool.Decides.{nat_tests}
use Rattle.blk_model.specs.Items.{LiesInside, Presence, part_row}
use Rattle.blk_model.specs.Sizes.{part_size}
use Rattle.blk_model.specs.Sparse.{empty_part, part_after, presence_after}
use Rattle.spec_format.specs.Names.{Name, read_name}
use Rattle.spec_format.specs.SparseIndex.{PartIndex, read_part_index}
use Rattle.spec_folder.specs.Entries.{IsPart, is_covered, part_role}
use Rattle.spec_folder.specs.Found.{row_with}
use Rattle.blk_ranges.specs.PartMaps.{presence_in}

-- ---- ranges

all-range : (f : ℕ → Bool) (first count : ℕ) → ((b : ℕ) → first ≤ b → b < first + count → f b ≡ true) → list_all f (range_with_len first count) ≡ true
all-range f first zero each = refl
all-range f first (suc count) each = both_true (each first (omega arith) (omega arith)) (all-range f (first + 1) count (λ b low high. each b (omega (arith, low)) (omega (arith, high))))

at-range : (f : ℕ → Bool) (first count b : ℕ) → b < count → get_or (map f (range_with_len first count)) b false ≡ f (first + b)
at-range f first zero b low = absurd (omega (arith, low))
at-range f first (suc count) zero low = ap f (let e : first ≡ first + 0 = omega arith in e)
at-range f first (suc count) (suc b) low = at-range f (first + 1) count b (omega (arith, low)) ∙ ap f (let e : first + 1 + b ≡ first + suc b = omega arith in e)

-- ---- its index

module _ (index : PartIndex) (size : ℕ) (inside : LiesInside (presence_in index) size) where
  each-inside : (b : ℕ) → b < 1024 → (not (index.present b) || nat_le (1024 * (b + 1)) size) ≡ true
  unfolding presence_in
  each-inside b low = go (index.present b) refl where
    go : (t : Bool) → index.present b ≡ t → (not t || nat_le (1024 * (b + 1)) size) ≡ true
    go false e = refl
    go true e = let whole = inside.whole b (at-range index.present 0 1024 b low ∙ ap index.present (let z : 0 + b ≡ b = omega arith in z) ∙ e) in le-leb (1024 * (b + 1)) size (omega (arith, whole))

  piece-inside : option_map_or (λ p. nat_le (1024 * p.0 + p.1) size) index.partial true ≡ true
  unfolding presence_in
  piece-inside = go index.partial inside.piece where
    go : (o : Option (ℕ × ℕ)) → IfSome o (λ p. p.0 * 1024 + p.1 ≤ size) → option_map_or (λ p. nat_le (1024 * p.0 + p.1) size) o true ≡ true
    go None i = refl
    go (Some p) i = le-leb (1024 * p.0 + p.1) size (omega (arith, i))

  pub covered : is_covered index size ≡ true
  unfolding is_covered
  covered = both_true (all-range (λ b. not (index.present b) || nat_le (1024 * (b + 1)) size) 0 1024 (λ b low high. each-inside b (omega (arith, high)))) piece-inside

-- ---- its role

pub part-role-is : (name key : List ℕ) (signature n : ℕ) (bytes map : List ℕ) (index : PartIndex) → read_name name ≡ Some (record { key = key; signature = signature; part = n }) → read_part_index map ≡ Some index → index.signature ≡ signature → index.key_len ≡ length key
    → length bytes ≤ part_size → is_covered index (length bytes) ≡ true → part_role name ([] ∷ bytes ∷ map ∷ []) ≡ Some (IsPart (record { key = key; signature = signature; part = n }) index)
unfolding part_role
part-role-is name key signature n bytes map index read is same_signature same_len few cover =
    let short : nat_lt 1048576 (length bytes) ≡ false = grind (arith, nat_tests) in
    let s : (index.signature == signature) ≡ true = eq-eqb index.signature signature same_signature in
    let l : (index.key_len == length key) ≡ true = eq-eqb index.key_len (length key) same_len in
    rw (short, read, is, s, l, cover) refl

-- ---- its row

pub row-is : (stored : List ℕ) (name : Name) (index : PartIndex) (place : ℕ) (piece map : List ℕ) → presence_in index ≡ presence_after empty_part.presence place (place + length piece)
    → row_with stored (IsPart name index) ([] ∷ (part_after empty_part place piece).bytes ∷ map ∷ []) ≡ part_row name.key name.part (part_after empty_part place piece)
unfolding presence_in part_after
row-is stored name index place piece map present = ap (λ (p : Presence). part_row name.key name.part (record { bytes = (part_after empty_part place piece).bytes; presence = p })) present
