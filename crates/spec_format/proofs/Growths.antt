-- Files that grow: one growth after another, and what it keeps.
use Rattle.std.proofs.Common.{◌≡◌, ℕ, ◌+◌, ◌≤◌, Bool, true, false, ◌&&◌, Option, None, Some, refl, ◌∙◌, ap, arith}
use Rattle.std.specs.Prelude.{nat_le}
use Rattle.std.proofs.lemmas.Bool.{and_parts, eqb-true}
use Rattle.std.proofs.lemmas.Bool.Decides.{nat_tests}
use Rattle.spec_image.specs.Image.{Block, Image, length_of}
use Rattle.spec_format.specs.Address.{kind_of, file_selector, first_block, block_count, place, byte_size}
use Rattle.spec_format.specs.BlockFiles.{linked_as, max_entries_in, stands_in_blocks}
use Rattle.spec_format.specs.Standing.{is_linked_as, stands_as_blocks}
use Rattle.spec_format.specs.Growth.{HaveGrown, KeepsBlocks, StaysWhole}
use Rattle.spec_format.proofs.Finished.{headers-kept, headers-next}
use Rattle.spec_format.proofs.SpareHeaders.{past_header}

-- nothing has changed
pub grown_not : (image : Image) → HaveGrown image image
grown_not image = record {
  index = λ i shown. refl;
  externals = λ n. refl;
  linked = λ n kind at. at;
  bytes = λ n kind i at past below. refl;
  longer = λ n kind at. omega arith;
  more = λ n kind at. omega arith;
}

-- one growth after another
pub grown_then : (a b c : Image) → HaveGrown a b → HaveGrown b c → HaveGrown a c
grown_then a b c one other = record {
  index = λ i shown. other.index i shown ∙ one.index i shown;
  externals = λ n. other.externals n ∙ one.externals n;
  linked = λ n kind at. other.linked n kind (one.linked n kind at);
  bytes = λ n kind i at past below. let more = one.longer n kind at in other.bytes n kind i (one.linked n kind at) past (omega (arith, below, more)) ∙ one.bytes n kind i at past below;
  longer = λ n kind at. let first = one.longer n kind at in let second = other.longer n kind (one.linked n kind at) in omega (arith, first, second);
  more = λ n kind at. let first = one.more n kind at in let second = other.more n kind (one.linked n kind at) in omega (arith, first, second);
}

-- a folder that stays whole, where nothing or one change after another is made
pub whole_not : (image : Image) → StaysWhole image image
whole_not image = record { grown = grown_not image; headers = headers-kept image }

pub whole_then : (a b c : Image) → StaysWhole a b → StaysWhole b c → StaysWhole a c
whole_then a b c one other = record { grown = grown_then a b c one.grown other.grown; headers = headers-next a b c one.headers other.headers }

-- a file that is linked as a kind
is_linked : (o : Option ℕ) (kind : ℕ) → is_linked_as o kind ≡ true → o ≡ Some kind
is_linked None kind holds = absurd (clash holds)
  where
    clash : false ≡ true → ⊥
    clash e = cc
is_linked (Some linked) kind holds = ap Some (eqb-true linked kind holds)

module _ (from image : Image) (grown : HaveGrown from image) (w : ℕ) (stands : stands_in_blocks from w ≡ true) where
  abbrev n : ℕ
  n = file_selector w

  abbrev linked_part : Bool
  linked_part = is_linked_as (linked_as from n) (kind_of w)

  abbrev below_part : Bool
  below_part = nat_le (first_block w + block_count w) (max_entries_in from n)

  abbrev inside_part : Bool
  inside_part = nat_le (place w + byte_size w) (length_of from (Block n))

  parts : (linked_part ≡ true) × ((below_part ≡ true) × (inside_part ≡ true))
  unfolding stands_as_blocks
  parts = let two = and_parts (linked_part && below_part) inside_part stands in let one = and_parts linked_part below_part two.0 in (one.0, (one.1, two.1))

  linked_is : linked_as from n ≡ Some (kind_of w)
  linked_is = is_linked (linked_as from n) (kind_of w) parts.0

  pub stands_grown : stands_in_blocks image w ≡ true
  unfolding stands_as_blocks
  stands_grown =
      let here : is_linked_as (linked_as image n) (kind_of w) ≡ true = ap (λ (o : Option ℕ). is_linked_as o (kind_of w)) (grown.linked n (kind_of w) linked_is) ∙ itself (kind_of w) in
      let below : nat_le (first_block w + block_count w) (max_entries_in image n) ≡ true = at_most (first_block w + block_count w) (max_entries_in from n) (max_entries_in image n) (grown.more n (kind_of w) linked_is) parts.1.0 in
      let inside : nat_le (place w + byte_size w) (length_of image (Block n)) ≡ true = at_most (place w + byte_size w) (length_of from (Block n)) (length_of image (Block n)) (grown.longer n (kind_of w) linked_is) parts.1.1 in
      rw (here, below, inside) refl
    where
      itself : (k : ℕ) → is_linked_as (Some k) k ≡ true
      itself k = grind (arith, nat_tests)

      at_most : (k a b : ℕ) → a ≤ b → nat_le k a ≡ true → nat_le k b ≡ true
      at_most k a b less test = grind (arith, nat_tests)

  pub ends_inside : place w + byte_size w ≤ length_of from (Block n)
  ends_inside = let test = parts.1.1 in grind (arith, nat_tests)

-- where files grow, the blocks that were there still are, with their bytes
pub grown_blocks : (from image : Image) → HaveGrown from image → KeepsBlocks from image
grown_blocks from image grown = record {
  stand = λ w stands. stands_grown from image grown w stands;
  bytes = λ w i stands low high.
      let past = past_header w in
      let end = ends_inside from image grown w stands in
      grown.bytes (file_selector w) (kind_of w) i (linked_is from image grown w stands) (omega (arith, past, low)) (omega (arith, high, end));
}
