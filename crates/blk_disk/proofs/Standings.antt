-- Addresses of blocks, and the files in which they are.
use Rattle.std.proofs.Common.{◌≡◌, ◌≢◌, ℕ, ◌+◌, ◌*◌, ◌<◌, ◌≤◌, Bool, true, false, if◌then◌else◌, List, refl, ◌∙◌, ap, ap₂, arith}
use Rattle.std.specs.Prelude.{◌==◌, None, Some}
use Rattle.std.proofs.lemmas.Bool.Decides.{nat_tests}
use Rattle.std.proofs.Math.Nat.{mul-le-mul}
use Rattle.spec_format.specs.Address.{kind_of, file_selector, external_number, external, first_block, block_count, block_size, block_place, place, byte_size}
use Rattle.spec_format.proofs.Words.{AreFields-of}
use Rattle.spec_format.specs.BlockFiles.{kind_among, is_among}
use Rattle.spec_format.specs.Standing.{is_linked_as, stands_as_blocks}
use Rattle.blk_addr.specs.FileId.{file_of_word}
use Rattle.blk_addr.specs.declared.file_id.FileId.{FileId}
use Rattle.blk_addr.specs.declared.file_id.FileId.TheVariants.{Block, External}
use Rattle.blk_disk.specs.declared.tables.BlockFiles.{BlockFiles}
use Rattle.blk_disk.specs.Tables.{stands_among, files_of}

-- a word that names a block file is of another kind than external
pub names_blocks : (w n : ℕ) → Block n ≡ file_of_word w → (kind_of w ≢ external) × (n ≡ file_selector w)
unfolding file_of_word
names_blocks w n e = by_test (kind_of w == external) refl e
  where
    by_test : (t : Bool) → (kind_of w == external) ≡ t → Block n ≡ (if t then External (external_number w) else Block (file_selector w)) → (kind_of w ≢ external) × (n ≡ file_selector w)
    by_test true is e = absurd (clash e)
      where
        clash : Block n ≡ External (external_number w) → ⊥
        clash h = cc
    by_test false is e = ((λ same. grind (arith, nat_tests)), cc)

-- one that names no block file is external
pub names_external : (w : ℕ) (file : FileId) → file ≡ file_of_word w → ((n : ℕ) → file ≡ Block n → ⊥) → kind_of w ≡ external
unfolding file_of_word
names_external w file e differs = by_test (kind_of w == external) refl e
  where
    by_test : (t : Bool) → (kind_of w == external) ≡ t → file ≡ (if t then External (external_number w) else Block (file_selector w)) → kind_of w ≡ external
    by_test true is e = grind (arith, nat_tests)
    by_test false is e = absurd (differs (file_selector w) e)

-- no file is linked as external
pub not_external : (lists : ℕ → List ℕ) (n : ℕ) → is_linked_as (kind_among lists n) 0 ≡ false
unfolding kind_among
not_external lists n = by_tests (is_among (lists 1) n) (is_among (lists 2) n) (is_among (lists 3) n) (is_among (lists 4) n)
  where
    by_tests : (p q r s : Bool) → is_linked_as (if p then Some 1 else if q then Some 2 else if r then Some 3 else if s then Some 4 else None) 0 ≡ false
    by_tests true q r s = refl
    by_tests false true r s = refl
    by_tests false false true s = refl
    by_tests false false false true = refl
    by_tests false false false false = refl

pub no_blocks : (files : BlockFiles) (w : ℕ) → kind_of w ≡ external → false ≡ stands_among files w
unfolding stands_as_blocks
no_blocks files w e = let none : is_linked_as (kind_among (files_of files) (file_selector w)) (kind_of w) ≡ false = ap (is_linked_as (kind_among (files_of files) (file_selector w))) e ∙ not_external (files_of files) (file_selector w) in rw none refl

-- the first block and the number of blocks, as they are read of an address of blocks
pub start_is : (w s : ℕ) → kind_of w ≢ external → s ≡ (if kind_of w == external then 0 else first_block w) → s ≡ first_block w
start_is w s block_kind e = let t : (kind_of w == external) ≡ false = grind (arith, nat_tests) in e ∙ ap (λ (b : Bool). if b then 0 else first_block w) t

pub count_is : (w n : ℕ) → kind_of w ≢ external → n ≡ (if kind_of w == external then 0 else block_count w) → n ≡ block_count w
count_is w n block_kind e = let t : (kind_of w == external) ≡ false = grind (arith, nat_tests) in e ∙ ap (λ (b : Bool). if b then 0 else block_count w) t

pub start_small : (w s : ℕ) → s ≡ first_block w → s < 65536
start_small w s e = let fields = AreFields-of w in let small = fields.start in omega (arith, e, small)

pub count_small : (w n : ℕ) → n ≡ block_count w → n ≤ 4
count_small w n e = let fields = AreFields-of w in let small = fields.most in omega (arith, e, small)

-- products of a few blocks, or of all of a file, with the size of a block
pub product_small : (s size : ℕ) → s < 65536 → size ≤ 4096 → s * size ≤ 268435456
product_small s size few short = let most : s ≤ 65536 = omega arith in let h : s * size ≤ 65536 * 4096 = mul-le-mul most short in omega (arith, h)

pub place_is : (w s size : ℕ) → s ≡ first_block w → size ≡ block_size (kind_of w) → 8192 + s * size ≡ place w
unfolding place block_place
place_is w s size e e2 = ap₂ (λ (a b : ℕ). 8192 + a * b) e e2

pub room_is : (w n size : ℕ) → n ≡ block_count w → size ≡ block_size (kind_of w) → n * size ≡ byte_size w
unfolding byte_size
room_is w n size e e2 = ap₂ (λ (a b : ℕ). a * b) e e2
