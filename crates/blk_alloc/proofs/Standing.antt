-- Valid addresses in a folder.
use Rattle.std.proofs.Common.{◌≡◌, ◌≢◌, ℕ, ◌+◌, ◌≤◌, List, [], ◌∷◌, Bool, true, false, ◌&&◌, ◌||◌, if◌then◌else◌, nat_le, None, Some, refl, sym, ◌∙◌, ap, subst, arith}
use Rattle.std.specs.Prelude.{◌==◌}
use Rattle.std.specs.List.{All}
use Rattle.std.proofs.lemmas.List.Elements.{All-head, All-tail}
use Rattle.std.proofs.lemmas.Bool.Decides.{nat_tests}
use Rattle.spec_image.specs.Image.{Image, Block, External, has_file, length_of}
use Rattle.spec_format.specs.Address.{kind_of, external, external_number, file_selector, first_block, block_count, is_address, is_block_kind, place, byte_size}
use Rattle.spec_format.specs.BlockFiles.{is_among, linked, kind_among, max_entries_in, stands_in, stands_in_blocks}
use Rattle.spec_format.specs.Standing.{is_linked_as, stands, stands_as_blocks}
use Rattle.blk_addr.proofs.AddressFields.{address_above_0}
use Rattle.blk_alloc.proofs.Lists.{IsBlocks}

-- one of some has what all of them have
pub all_among : (P : ℕ → Type 0) (words : List ℕ) (w : ℕ) → All P words → is_among words w ≡ true → P w
all_among P [] w all among = absurd (clash among)
  where
    clash : false ≡ true → ⊥
    clash e = cc
all_among P (x ∷ words) w all among = by_test (x == w) refl (λ there. all_among P words w (All-tail P x words all) there)
  where
    by_test : (t : Bool) → (x == w) ≡ t → (is_among words w ≡ true → P w) → P w
    by_test true e rest = let same : x ≡ w = grind (arith, nat_tests) in subst P same (All-head P x words all)
    by_test false e rest = rest (ap (λ (t : Bool). t || is_among words w) (sym e) ∙ among)

first_of_two : (a b : Bool) → (a && b) ≡ true → a ≡ true
first_of_two true b e = refl
first_of_two false b e = e

second_of_two : (a b : Bool) → (a && b) ≡ true → b ≡ true
second_of_two true b e = e
second_of_two false b e = absurd (clash e)
  where
    clash : false ≡ true → ⊥
    clash h = cc

-- a file that is linked as one of a kind is in its list
linked_in : (lists : ℕ → List ℕ) (n kind : ℕ) → is_linked_as (kind_among lists n) kind ≡ true → (is_block_kind kind ≡ true) × (is_among (lists kind) n ≡ true)
unfolding kind_among
linked_in lists n kind holds = first (is_among (lists 1) n) refl holds
  where
    at : (k : ℕ) → is_block_kind k ≡ true → is_among (lists k) n ≡ true → (k == kind) ≡ true → (is_block_kind kind ≡ true) × (is_among (lists kind) n ≡ true)
    at k block_kind there same = let e : k ≡ kind = grind (arith, nat_tests) in (subst (λ (j : ℕ). is_block_kind j ≡ true) e block_kind, subst (λ (j : ℕ). is_among (lists j) n ≡ true) e there)

    clash : false ≡ true → ⊥
    clash e = cc

    fourth : (t : Bool) → is_among (lists 4) n ≡ t → is_linked_as (if t then Some 4 else None) kind ≡ true → (is_block_kind kind ≡ true) × (is_among (lists kind) n ≡ true)
    fourth true e h = at 4 refl e h
    fourth false e h = absurd (clash h)

    third : (t : Bool) → is_among (lists 3) n ≡ t → is_linked_as (if t then Some 3 else if is_among (lists 4) n then Some 4 else None) kind ≡ true → (is_block_kind kind ≡ true) × (is_among (lists kind) n ≡ true)
    third true e h = at 3 refl e h
    third false e h = fourth (is_among (lists 4) n) refl h

    second : (t : Bool) → is_among (lists 2) n ≡ t → is_linked_as (if t then Some 2 else if is_among (lists 3) n then Some 3 else if is_among (lists 4) n then Some 4 else None) kind ≡ true → (is_block_kind kind ≡ true) × (is_among (lists kind) n ≡ true)
    second true e h = at 2 refl e h
    second false e h = third (is_among (lists 3) n) refl h

    first : (t : Bool) → is_among (lists 1) n ≡ t → is_linked_as (if t then Some 1 else if is_among (lists 2) n then Some 2 else if is_among (lists 3) n then Some 3 else if is_among (lists 4) n then Some 4 else None) kind ≡ true → (is_block_kind kind ≡ true) × (is_among (lists kind) n ≡ true)
    first true e h = at 1 refl e h
    first false e h = second (is_among (lists 2) n) refl h

-- a valid address of blocks
pub record StandsHere (image : Image) (w : ℕ) : Type 0 where
  pub address : is_address w ≡ true
  pub blocks : IsBlocks w
  pub block_kind : is_block_kind (kind_of w) ≡ true
  pub linked : is_among (linked image (kind_of w)) (file_selector w) ≡ true
  pub below : first_block w + block_count w ≤ max_entries_in image (file_selector w)
  pub inside : place w + byte_size w ≤ length_of image (Block (file_selector w))

pub stands_here : (image : Image) (w : ℕ) → kind_of w ≢ external → stands_in image w ≡ true → StandsHere image w
unfolding stands stands_as_blocks
stands_here image w block_kind is =
    let n : ℕ = file_selector w in
    let address : is_address w ≡ true = first_of_two (is_address w) (if kind_of w == external then has_file image (External (external_number w)) else stands_in_blocks image w) is in
    let test : (kind_of w == external) ≡ false = grind (arith, nat_tests) in
    let rest : stands_in_blocks image w ≡ true = ap (λ (t : Bool). if t then has_file image (External (external_number w)) else stands_in_blocks image w) (sym test) ∙ second_of_two (is_address w) (if kind_of w == external then has_file image (External (external_number w)) else stands_in_blocks image w) is in
    let front : (is_linked_as (kind_among (linked image) n) (kind_of w) && nat_le (first_block w + block_count w) (max_entries_in image n)) ≡ true =
    first_of_two (is_linked_as (kind_among (linked image) n) (kind_of w) && nat_le (first_block w + block_count w) (max_entries_in image n)) (nat_le (place w + byte_size w) (length_of image (Block n))) rest in
    let last : nat_le (place w + byte_size w) (length_of image (Block n)) ≡ true = second_of_two (is_linked_as (kind_among (linked image) n) (kind_of w) && nat_le (first_block w + block_count w) (max_entries_in image n)) (nat_le (place w + byte_size w) (length_of image (Block n))) rest in
    let here : is_linked_as (kind_among (linked image) n) (kind_of w) ≡ true = first_of_two (is_linked_as (kind_among (linked image) n) (kind_of w)) (nat_le (first_block w + block_count w) (max_entries_in image n)) front in
    let fits : nat_le (first_block w + block_count w) (max_entries_in image n) ≡ true = second_of_two (is_linked_as (kind_among (linked image) n) (kind_of w)) (nat_le (first_block w + block_count w) (max_entries_in image n)) front in
    let found = linked_in (linked image) n (kind_of w) here in
    record {
      address = address;
      blocks = record { some = address_above_0 w address; block_kind = block_kind };
      block_kind = found.0;
      linked = found.1;
      below = grind (arith, nat_tests);
      inside = grind (arith, nat_tests);
    }
