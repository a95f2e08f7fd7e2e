-- An address word and its fields, both ways.
use Rattle.std.proofs.Common.{◌≡◌, ℕ, ◌+◌, ◌-◌, ◌*◌, ◌/◌, ◌^◌, ◌<◌, ◌≤◌, true, arith}
use Rattle.std.proofs.lemmas.Bool.Decides.{nat_tests}
use Rattle.std.specs.Prelude.{nat_le, not, ◌&&◌, ◌||◌, ◌==◌, Bool, ◌%◌}
use Rattle.spec_format.specs.Address.{is_block_kind, rankings, is_initialized, kind_of, reserved_bits, block_count, file_selector, first_block, block_word, is_address, names_blocks, names_external, external, external_word, external_number}

-- numbers that are the fields of a word of blocks
pub record AreFields (k f s n : ℕ) : Type 0 where
  pub kind : k < 8
  pub file : f < 256
  pub start : s < 65536
  pub some : 0 < n
  pub most : n ≤ 4

pub is_initialized-block_word : (k f s n : ℕ) → AreFields k f s n → is_initialized (block_word k f s n) ≡ true
unfolding is_initialized block_word
is_initialized-block_word k f s n fields = let h : (2 ^ 31 + k * 2 ^ 28 + (n - 1) * 2 ^ 24 + f * 2 ^ 16 + s) / 2 ^ 31 ≡ 1 = omega arith in grind (arith, nat_tests)

pub kind_of-block_word : (k f s n : ℕ) → AreFields k f s n → kind_of (block_word k f s n) ≡ k
unfolding kind_of block_word
kind_of-block_word k f s n fields = omega arith

pub reserved_bits-block_word : (k f s n : ℕ) → AreFields k f s n → reserved_bits (block_word k f s n) ≡ 0
unfolding reserved_bits block_word
reserved_bits-block_word k f s n fields = omega arith

pub block_count-block_word : (k f s n : ℕ) → AreFields k f s n → block_count (block_word k f s n) ≡ n
unfolding block_count block_word
block_count-block_word k f s n fields = omega arith

pub file_selector-block_word : (k f s n : ℕ) → AreFields k f s n → file_selector (block_word k f s n) ≡ f
unfolding file_selector block_word
file_selector-block_word k f s n fields = omega arith

pub first_block-block_word : (k f s n : ℕ) → AreFields k f s n → first_block (block_word k f s n) ≡ s
unfolding first_block block_word
first_block-block_word k f s n fields = omega arith

-- such a word is an address where its kind is one of blocks, its blocks lie in one group, and a node is one block
pub is_address-block_word : (k f s n : ℕ) → AreFields k f s n → is_block_kind k ≡ true → s % 4 + n ≤ 4 → (k ≡ rankings → n ≡ 1)
    → is_address (block_word k f s n) ≡ true
unfolding is_address names_blocks
is_address-block_word k f s n fields blocks group node =
    let initialized = is_initialized-block_word k f s n fields in
    let kind = kind_of-block_word k f s n fields in
    let reserved = reserved_bits-block_word k f s n fields in
    let count = block_count-block_word k f s n fields in
    let first = first_block-block_word k f s n fields in
    rw (initialized, kind, reserved, count, first) (in_one_group k s n (names_external (block_word k f s n)) blocks group node)
  where
    in_one_group : (k s n : ℕ) (external : Bool) → is_block_kind k ≡ true → s % 4 + n ≤ 4 → (k ≡ rankings → n ≡ 1)
        → (external || is_block_kind k && (0 == 0) && nat_le (s % 4 + n) 4 && (not (k == rankings) || (n == 1))) ≡ true
    in_one_group k s n external blocks group node = grind (arith, nat_tests)

-- the fields of a word are in their ranges
pub AreFields-of : (w : ℕ) → AreFields (kind_of w) (file_selector w) (first_block w) (block_count w)
unfolding kind_of file_selector first_block block_count
AreFields-of w = record { kind = omega arith; file = omega arith; start = omega arith; some = omega arith; most = omega arith }

-- an address of blocks is the word of its fields
pub block_word-of-fields : (w : ℕ) → w < 2 ^ 32 → is_initialized w ≡ true → reserved_bits w ≡ 0
    → block_word (kind_of w) (file_selector w) (first_block w) (block_count w) ≡ w
unfolding is_initialized reserved_bits block_word kind_of file_selector first_block block_count
block_word-of-fields w fits initialized reserved =
    let top : w / 2 ^ 31 ≡ 1 = grind (arith, nat_tests) in
    omega arith

-- the word of an external number is an address, and gives the number again
pub kind_of-external_word : (n : ℕ) → n < 2 ^ 28 → kind_of (external_word n) ≡ external
unfolding kind_of external_word
kind_of-external_word n fits = omega arith

pub external_number-external_word : (n : ℕ) → n < 2 ^ 28 → external_number (external_word n) ≡ n
unfolding external_number external_word
external_number-external_word n fits = omega arith

pub is_address-external_word : (n : ℕ) → 0 < n → n < 2 ^ 28 → is_address (external_word n) ≡ true
unfolding is_address names_external is_initialized
is_address-external_word n some fits =
    let top : external_word n / 2 ^ 31 ≡ 1 = unfold external_word in omega arith in
    let kind = kind_of-external_word n fits in
    let number = external_number-external_word n fits in
    grind (arith, nat_tests)

-- an external address is the word of its number
pub external_word-of-number : (w : ℕ) → w < 2 ^ 32 → is_initialized w ≡ true → kind_of w ≡ external → external_word (external_number w) ≡ w
unfolding is_initialized kind_of external_word external_number
external_word-of-number w fits initialized kind =
    let top : w / 2 ^ 31 ≡ 1 = grind (arith, nat_tests) in
    omega arith
