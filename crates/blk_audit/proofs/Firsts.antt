-- The nodes of a file that are there are its first ones.
use Rattle.std.proofs.Common.{◌≡◌, ℕ, ◌+◌, ◌*◌, ◌<◌, ◌≤◌, Bool, true, false, ◌&&◌, ◌-◌, refl, sym, subst, ◌∙◌, arith}
use Rattle.std.specs.Prelude.{nat_le, nat_lt}
use Rattle.std.proofs.lemmas.Bool.{and_parts}
use Rattle.std.proofs.lemmas.Bool.Decides.{nat_tests}
use Rattle.spec_format.specs.Address.{block_word, place, byte_size, block_place, block_size}
use Rattle.spec_format.specs.BlockFiles.{kind_among}
use Rattle.spec_format.specs.Standing.{is_linked_as, stands_as_blocks}
use Rattle.spec_format.proofs.Words.{AreFields, kind_of-block_word, file_selector-block_word, first_block-block_word, block_count-block_word}
use Rattle.blk_disk.specs.declared.tables.BlockFiles.{BlockFiles}
use Rattle.spec_image.specs.Image.{Block, Image, HasRange, length_of}
use Rattle.blk_disk.proofs.Ranges.{stands_range}
use Rattle.blk_disk.specs.Tables.{Agrees, files_of, blocks_of, length_in, stands_among}

fields : (n b : ℕ) → n < 256 → b < 65536 → AreFields 1 n b 1
fields n b file block = record { kind = omega arith; file = file; start = block; some = omega arith; most = omega arith }

-- whether node b of a file is there
abbrev pub node_stands : BlockFiles → ℕ → ℕ → Bool
node_stands files n b = stands_among files (block_word 1 n b 1)

-- what that is
shown : BlockFiles → ℕ → ℕ → Bool
shown files n b = is_linked_as (kind_among (files_of files) n) 1 && nat_le (b + 1) (blocks_of files n) && nat_le (8192 + b * 36 + 36) (length_in files n)

stands_is : (files : BlockFiles) (n b : ℕ) → n < 256 → b < 65536 → node_stands files n b ≡ shown files n b
unfolding stands_as_blocks shown place byte_size block_place block_size
stands_is files n b file block =
    let are = fields n b file block in
    rw (kind_of-block_word 1 n b 1 are, file_selector-block_word 1 n b 1 are, first_block-block_word 1 n b 1 are, block_count-block_word 1 n b 1 are) refl

le_down : (a b c : ℕ) → a ≤ b → nat_le b c ≡ true → nat_le a c ≡ true
le_down a b c below h = grind (arith, nat_tests)

-- one that comes after another
pub stands_down : (files : BlockFiles) (n a b : ℕ) → n < 256 → b < 65536 → a ≤ b → node_stands files n b ≡ true → node_stands files n a ≡ true
unfolding shown
stands_down files n a b file block below h =
    let one = and_parts (is_linked_as (kind_among (files_of files) n) 1 && nat_le (b + 1) (blocks_of files n)) (nat_le (8192 + b * 36 + 36) (length_in files n)) (sym (stands_is files n b file block) ∙ h) in
    let two = and_parts (is_linked_as (kind_among (files_of files) n) 1) (nat_le (b + 1) (blocks_of files n)) one.0 in
    let p = le_down (a + 1) (b + 1) (blocks_of files n) (omega (arith, below)) two.1 in
    let q = le_down (8192 + a * 36 + 36) (8192 + b * 36 + 36) (length_in files n) (omega (arith, below)) one.1 in
    stands_is files n a file (omega (arith, below, block)) ∙ rw (two.0, p, q) refl

-- where it lies
place_is : (n b : ℕ) → n < 256 → b < 65536 → place (block_word 1 n b 1) ≡ 8192 + b * 36
unfolding place block_place block_size
place_is n b file block =
    let are = fields n b file block in
    rw (kind_of-block_word 1 n b 1 are, first_block-block_word 1 n b 1 are) refl

size_is : (n b : ℕ) → n < 256 → b < 65536 → byte_size (block_word 1 n b 1) ≡ 36
unfolding byte_size block_size
size_is n b file block =
    let are = fields n b file block in
    rw (kind_of-block_word 1 n b 1 are, block_count-block_word 1 n b 1 are) refl

lt_last : (n : ℕ) → 0 < n → nat_lt (n - 1) n ≡ true
lt_last n some = grind (arith, nat_tests)

-- the nodes of a file that are there lie in it
pub range_there : (files : BlockFiles) (image : Image) (n count : ℕ) → Agrees files image → ((b : ℕ) → b < 65536 → node_stands files n b ≡ nat_lt b count) → n < 256 → count ≤ 65536 → 0 < count → HasRange image (Block n) 8192 (36 * count)
range_there files image n count agrees stand file most some =
    let block : count - 1 < 65536 = omega (arith, most, some) in
    let there : stands_among files (block_word 1 n (count - 1) 1) ≡ true = stand (count - 1) block ∙ lt_last count some in
    let size = size_is n (count - 1) file block in
    let at = place_is n (count - 1) file block in
    let range = stands_range files image (block_word 1 n (count - 1) 1) 0 36 agrees there (omega (arith, size)) in
    let here : place (block_word 1 n (count - 1) 1) + 0 + 36 ≤ length_of image (Block n) = subst (λ (k : ℕ). place (block_word 1 n (count - 1) 1) + 0 + 36 ≤ length_of image (Block k)) (file_selector-block_word 1 n (count - 1) 1 (fields n (count - 1) file block)) range in
    omega (arith, here, at, some)

-- the nodes below one number are there, and from another on none is
pub record IsBetween (files : BlockFiles) (n low high : ℕ) : Type 0 where
  pub ordered : low ≤ high
  pub few : high ≤ 65536
  pub below : (b : ℕ) → b < low → node_stands files n b ≡ true
  pub behind : (b : ℕ) → high ≤ b → b < 65536 → node_stands files n b ≡ false

pub begins : (files : BlockFiles) (n : ℕ) → IsBetween files n 0 65536
begins files n = record { ordered = omega arith; few = omega arith; below = λ b h. absurd (omega (arith, h)); behind = λ b h k. absurd (omega (arith, h, k)) }

pub higher : (files : BlockFiles) (n low high middle : ℕ) → n < 256 → low ≤ middle → middle < high → IsBetween files n low high → node_stands files n middle ≡ true → IsBetween files n (middle + 1) high
higher files n low high middle file from to is h = record {
  ordered = omega (arith, to);
  few = is.few;
  below = λ b k. stands_down files n b middle file (omega (arith, to, is.few)) (omega (arith, k)) h;
  behind = is.behind;
}

pub lower : (files : BlockFiles) (n low high middle : ℕ) → n < 256 → low ≤ middle → middle < high → IsBetween files n low high → node_stands files n middle ≡ false → IsBetween files n low middle
lower files n low high middle file from to is h = record {
  ordered = from;
  few = omega (arith, to, is.few);
  below = is.below;
  behind = λ b k small. by (node_stands files n b) refl k small;
}
  where
    clash : true ≡ false → ⊥
    clash e = cc

    by : {b : ℕ} (t : Bool) → node_stands files n b ≡ t → middle ≤ b → b < 65536 → t ≡ false
    by false e k small = refl
    by {b = b} true e k small = absurd (clash (sym (stands_down files n middle b file small k e) ∙ h))

pub counted : (files : BlockFiles) (n low high : ℕ) → high ≤ low → IsBetween files n low high → (b : ℕ) → b < 65536 → node_stands files n b ≡ nat_lt b low
counted files n low high done is b small = by (nat_lt b low) refl
  where
    yes_below : nat_lt b low ≡ true → b < low
    yes_below e = grind (arith, nat_tests)

    not_below : nat_lt b low ≡ false → low ≤ b
    not_below e = grind (arith, nat_tests)

    by : (t : Bool) → nat_lt b low ≡ t → node_stands files n b ≡ t
    by true e = is.below b (yes_below e)
    by false e = is.behind b (omega (arith, not_below e, done, is.ordered)) small
