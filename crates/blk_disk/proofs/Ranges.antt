-- The bytes of the blocks of a valid address.
use Rattle.std.proofs.Common.{◌≡◌, ◌≢◌, ℕ, ◌+◌, ◌*◌, ◌≤◌, Bool, true, false, ◌&&◌, ◌||◌, if◌then◌else◌, List, refl, ◌∙◌, ap, ap₂, arith}
use Rattle.std.specs.Prelude.{◌==◌, nat_le, None, Some}
use Rattle.std.specs.declared.option.Option.{Option}
use Rattle.std.proofs.lemmas.Bool.Decides.{nat_tests}
use Rattle.std.proofs.Math.Nat.{mul-le-mul}
use Rattle.spec_image.specs.Image.{Block, Image, HasRange, length_of}
use Rattle.spec_format.specs.Address.{kind_of, file_selector, external_number, external, first_block, block_count, block_size, place, byte_size}
use Rattle.spec_format.specs.BlockFiles.{kind_among, is_among, linked, linked_as, max_entries_in, stands_in_blocks}
use Rattle.spec_format.specs.Standing.{is_linked_as, stands_as_blocks}
use Rattle.spec_format.proofs.Words.{AreFields-of}
use Rattle.blk_addr.specs.FileId.{file_of_word}
use Rattle.blk_addr.specs.declared.file_id.FileId.TheVariants as words
use Rattle.blk_io.specs.declared.folder.FileId.{FileId}
use Rattle.blk_io.specs.declared.folder.FileId.TheVariants as folder
use Rattle.blk_disk.specs.Names.{folder_name}
use Rattle.blk_disk.specs.declared.tables.BlockFiles.{BlockFiles}
use Rattle.blk_disk.specs.Tables.{stands_among, files_of, all_files, blocks_of, length_in, Agrees}
use Rattle.blk_disk.proofs.Among.{all_files_among}
use Rattle.blk_disk.proofs.Standings.{not_external}

-- where both of two tests hold, the first and the second hold
first_of_two : (a b : Bool) → (a && b) ≡ true → a ≡ true
first_of_two true b e = refl
first_of_two false b e = e

second_of_two : (a b : Bool) → (a && b) ≡ true → b ≡ true
second_of_two true b e = e
second_of_two false b e = absurd (clash e)
  where
    clash : false ≡ true → ⊥
    clash h = cc

differ : (b : Bool) → b ≡ true → b ≡ false → ⊥
differ b e d = cc

-- the three parts of what is valid
linked_part : (files : BlockFiles) (w : ℕ) → stands_among files w ≡ true → is_linked_as (kind_among (files_of files) (file_selector w)) (kind_of w) ≡ true
unfolding stands_as_blocks
linked_part files w stands = first_of_two _ _ (first_of_two _ _ stands)

pub inside_part : (files : BlockFiles) (w : ℕ) → stands_among files w ≡ true → place w + byte_size w ≤ length_in files (file_selector w)
unfolding stands_as_blocks
inside_part files w stands =
    let test : nat_le (place w + byte_size w) (length_in files (file_selector w)) ≡ true = second_of_two (is_linked_as (kind_among (files_of files) (file_selector w)) (kind_of w) && nat_le (first_block w + block_count w) (blocks_of files (file_selector w))) (nat_le (place w + byte_size w) (length_in files (file_selector w))) stands in
    grind (arith, nat_tests)

-- an address that is valid by the tables is one of blocks
pub stands_blocky : (files : BlockFiles) (w : ℕ) → stands_among files w ≡ true → kind_of w ≢ external
stands_blocky files w stands same =
    differ (is_linked_as (kind_among (files_of files) (file_selector w)) (kind_of w)) (linked_part files w stands)
    (ap (is_linked_as (kind_among (files_of files) (file_selector w))) same ∙ not_external (files_of files) (file_selector w))

-- a file that is linked as some kind is among all files
linked_among : (files : BlockFiles) (n kind : ℕ) → is_linked_as (kind_among (files_of files) n) kind ≡ true → is_among (all_files files) n ≡ true
unfolding kind_among files_of
linked_among files n kind holds = all_files_among files n ∙ by_tests (is_among files.rankings.items n) (is_among files.b256.items n) (is_among files.b1k.items n) (is_among files.b4k.items n) holds
  where
    by_tests : (p q r s : Bool) → is_linked_as (if p then Some 1 else if q then Some 2 else if r then Some 3 else if s then Some 4 else None) kind ≡ true → (p || q || r || s) ≡ true
    by_tests true true true true h = refl
    by_tests true true true false h = refl
    by_tests true true false true h = refl
    by_tests true true false false h = refl
    by_tests true false true true h = refl
    by_tests true false true false h = refl
    by_tests true false false true h = refl
    by_tests true false false false h = refl
    by_tests false true true true h = refl
    by_tests false true true false h = refl
    by_tests false true false true h = refl
    by_tests false true false false h = refl
    by_tests false false true true h = refl
    by_tests false false true false h = refl
    by_tests false false false true h = refl
    by_tests false false false false h = h

pub stands_linked : (files : BlockFiles) (w : ℕ) → stands_among files w ≡ true → is_among (all_files files) (file_selector w) ≡ true
stands_linked files w stands = linked_among files (file_selector w) (kind_of w) (linked_part files w stands)

-- a range among its blocks is inside the file
pub stands_range : (files : BlockFiles) (image : Image) (w at n : ℕ) → Agrees files image → stands_among files w ≡ true → at + n ≤ byte_size w → HasRange image (Block (file_selector w)) (place w + at) n
stands_range files image w at n agrees stands within =
    let size : length_in files (file_selector w) ≡ length_of image (Block (file_selector w)) = agrees.lengths (file_selector w) (stands_linked files w stands) in
    let inside = inside_part files w stands in
    omega (arith, size, inside)

-- a block has at most 4096 bytes
pub size_small : (kind : ℕ) → block_size kind ≤ 4096
unfolding block_size
size_small kind = by_tests (kind == 1) (kind == 2) (kind == 3)
  where
    by_tests : (p q r : Bool) → (if p then 36 else if q then 256 else if r then 1024 else 4096) ≤ 4096
    by_tests true q r = omega arith
    by_tests false true r = omega arith
    by_tests false false true = omega arith
    by_tests false false false = omega arith

pub room_small : (w : ℕ) → byte_size w ≤ 16384
unfolding byte_size
room_small w =
    let fields = AreFields-of w in
    let h : block_count w * block_size (kind_of w) ≤ 4 * 4096 = mul-le-mul fields.most (size_small (kind_of w)) in
    omega (arith, h)

-- the name of its file
pub name_is : (w : ℕ) (file : FileId) → kind_of w ≢ external → file ≡ folder_name (file_of_word w) → file ≡ folder.Block (file_selector w)
unfolding file_of_word
name_is w file block_kind e =
    let t : (kind_of w == external) ≡ false = grind (arith, nat_tests) in
    e ∙ ap (λ (b : Bool). folder_name (if b then words.External (external_number w) else words.Block (file_selector w))) t

same_kinds : (f g : ℕ → List ℕ) (n : ℕ) → f 1 ≡ g 1 → f 2 ≡ g 2 → f 3 ≡ g 3 → f 4 ≡ g 4 → kind_among f n ≡ kind_among g n
unfolding kind_among
same_kinds f g n e1 e2 e3 e4 = λ i. if is_among (e1 i) n then Some 1 else if is_among (e2 i) n then Some 2 else if is_among (e3 i) n then Some 3 else if is_among (e4 i) n then Some 4 else None

-- what is valid among the files that are kept is valid in a folder with which they agree
pub stands_agree : (files : BlockFiles) (image : Image) (w : ℕ) → Agrees files image → stands_among files w ≡ stands_in_blocks image w
unfolding stands_as_blocks
stands_agree files image w agrees =
    let n : ℕ = file_selector w in
    let kinds : kind_among (files_of files) n ≡ kind_among (linked image) n = same_kinds (files_of files) (linked image) n (agrees.links 1 refl) (agrees.links 2 refl) (agrees.links 3 refl) (agrees.links 4 refl) in
    by_test (is_linked_as (kind_among (files_of files) n) (kind_of w)) (is_linked_as (kind_among (linked image) n) (kind_of w)) (ap (λ (o : Option ℕ). is_linked_as o (kind_of w)) kinds)
    (λ holds. agrees.blocks n (linked_among files n (kind_of w) holds)) (λ holds. agrees.lengths n (linked_among files n (kind_of w) holds))
  where
    by_test : (a b : Bool) → a ≡ b → (a ≡ true → blocks_of files (file_selector w) ≡ max_entries_in image (file_selector w)) → (a ≡ true → length_in files (file_selector w) ≡ length_of image (Block (file_selector w)))
        → (a && nat_le (first_block w + block_count w) (blocks_of files (file_selector w)) && nat_le (place w + byte_size w) (length_in files (file_selector w)))
        ≡ (b && nat_le (first_block w + block_count w) (max_entries_in image (file_selector w)) && nat_le (place w + byte_size w) (length_of image (Block (file_selector w))))
    by_test true b e blocks lengths = ap (λ (x : Bool). x && nat_le (first_block w + block_count w) (blocks_of files (file_selector w)) && nat_le (place w + byte_size w) (length_in files (file_selector w))) e
        ∙ ap₂ (λ (x y : ℕ). b && nat_le (first_block w + block_count w) x && nat_le (place w + byte_size w) y) (blocks refl) (lengths refl)
    by_test false b e blocks lengths = ap (λ (x : Bool). x && nat_le (first_block w + block_count w) (max_entries_in image (file_selector w)) && nat_le (place w + byte_size w) (length_of image (Block (file_selector w)))) e

-- an address is valid where its file is linked as before, and has as many blocks and bytes or more
pub stands_more : (a b : Image) (w : ℕ) → linked_as b (file_selector w) ≡ linked_as a (file_selector w) → max_entries_in a (file_selector w) ≤ max_entries_in b (file_selector w) → length_of a (Block (file_selector w)) ≤ length_of b (Block (file_selector w)) → stands_in_blocks a w ≡ true → stands_in_blocks b w ≡ true
unfolding stands_as_blocks
stands_more a b w linked blocks longer stands =
    let n : ℕ = file_selector w in
    let two = first_of_two (is_linked_as (linked_as a n) (kind_of w) && nat_le (first_block w + block_count w) (max_entries_in a n)) (nat_le (place w + byte_size w) (length_of a (Block n))) stands in
    let inside = second_of_two (is_linked_as (linked_as a n) (kind_of w) && nat_le (first_block w + block_count w) (max_entries_in a n)) (nat_le (place w + byte_size w) (length_of a (Block n))) stands in
    let is = first_of_two (is_linked_as (linked_as a n) (kind_of w)) (nat_le (first_block w + block_count w) (max_entries_in a n)) two in
    let below = second_of_two (is_linked_as (linked_as a n) (kind_of w)) (nat_le (first_block w + block_count w) (max_entries_in a n)) two in
    all_three (ap (λ (o : Option ℕ). is_linked_as o (kind_of w)) linked ∙ is) (more (first_block w + block_count w) (max_entries_in a n) (max_entries_in b n) blocks below) (more (place w + byte_size w) (length_of a (Block n)) (length_of b (Block n)) longer inside)
  where
    all_three : {p q r : Bool} → p ≡ true → q ≡ true → r ≡ true → (p && q && r) ≡ true
    all_three e e2 e3 = rw (e, e2, e3) refl

    more : (k m n : ℕ) → m ≤ n → nat_le k m ≡ true → nat_le k n ≡ true
    more k m n less test = grind (arith, nat_tests)
