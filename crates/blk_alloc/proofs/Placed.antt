-- Blocks of a file that is kept are valid, where the file is as long as all its blocks.
use Rattle.std.proofs.Common.{◌≡◌, ◌≢◌, ℕ, ◌+◌, ◌*◌, ◌<◌, ◌≤◌, List, max, true, nat_le, Option, Some, refl, ◌∙◌, ap, arith}
use Rattle.std.proofs.lemmas.Bool.Decides.{nat_tests}
use Rattle.std.proofs.Math.Nat.{mul-le-mul}
use Rattle.spec_format.specs.Address.{external, kind_of, file_selector, first_block, block_count, block_size, block_word, block_place, place, byte_size}
use Rattle.spec_format.specs.Standing.{is_linked_as, stands_as_blocks}
use Rattle.spec_format.specs.BlockFiles.{is_among, kind_among}
use Rattle.spec_format.proofs.LinkedHeads.{count_whole}
use Rattle.spec_format.proofs.Words.{AreFields, kind_of-block_word, file_selector-block_word, first_block-block_word, block_count-block_word}
use Rattle.blk_addr.specs.declared.kinds.Kind.{Kind}
use Rattle.blk_addr.specs.Kind.{kind_number}
use Rattle.blk_disk.specs.declared.tables.BlockFiles.{BlockFiles}
use Rattle.blk_disk.specs.Tables.{Resizes, files_of, blocks_of, length_in, stands_among}
use Rattle.blk_disk.specs.Growth.{whole_length, size_as}
use Rattle.blk_disk.proofs.KeptOnce.{counts, one_kind}
use Rattle.blk_alloc.specs.declared.blocks.Blocks.{Blocks}
use Rattle.blk_alloc.specs.Fitting.{IsPlace}
use Rattle.blk_alloc.proofs.Members.{kind_blocky, kind_small, member_all}

self_linked : (kind : ℕ) → is_linked_as (Some kind) kind ≡ true
self_linked kind = grind (arith, nat_tests)

spread : (a b c : ℕ) → 8192 + a * c + b * c ≡ 8192 + (a + b) * c
spread a b c = grind arith

-- a place is one still where a file has got another length
pub place_resized : (old new : BlockFiles) (kind count n size : ℕ) (blocks : Blocks) → Resizes old new n size → IsPlace old kind count blocks → IsPlace new kind count blocks
place_resized old new kind count n size blocks resizes is = record {
  linked = ap (λ (l : List ℕ). is_among l blocks.file) (resizes.files kind) ∙ is.linked;
  number = is.number;
  small = is.small;
  below = let same = resizes.blocks blocks.file in let was = is.below in omega (arith, same, was);
  group = is.group;
  counted = is.counted;
}

-- the word of a place has its parts
module _ (files : BlockFiles) (k : Kind) (blocks : Blocks) (some : 0 < blocks.count) (is : IsPlace files (kind_number k) blocks.count blocks) where
  abbrev w : ℕ
  w = block_word (kind_number k) blocks.file blocks.start blocks.count

  pub place_fields : AreFields (kind_number k) blocks.file blocks.start blocks.count
  place_fields = let small = is.small in let group = is.group in record { kind = kind_small k; file = is.number; start = omega (arith, small); some = some; most = omega (arith, group) }

  pub place_kind : kind_of w ≡ kind_number k
  place_kind = kind_of-block_word (kind_number k) blocks.file blocks.start blocks.count place_fields

  pub place_file : file_selector w ≡ blocks.file
  place_file = file_selector-block_word (kind_number k) blocks.file blocks.start blocks.count place_fields

  pub place_start : first_block w ≡ blocks.start
  place_start = first_block-block_word (kind_number k) blocks.file blocks.start blocks.count place_fields

  pub place_count : block_count w ≡ blocks.count
  place_count = block_count-block_word (kind_number k) blocks.file blocks.start blocks.count place_fields

module _ (old new : BlockFiles) (k : Kind) (block_kind : kind_number k ≢ external) (blocks : Blocks) (some : 0 < blocks.count) (is : IsPlace old (kind_number k) blocks.count blocks)
    (resizes : Resizes old new blocks.file (max (length_in old blocks.file) (whole_length old blocks.file))) where
  abbrev n : ℕ
  n = blocks.file

  abbrev word : ℕ
  word = block_word (kind_number k) blocks.file blocks.start blocks.count

  linked_old : kind_among (files_of old) n ≡ Some (kind_number k)
  linked_old = one_kind old (kind_number k) (kind_blocky k block_kind) n is.linked

  linked_new : kind_among (files_of new) n ≡ Some (kind_number k)
  linked_new = (λ j. kind_among (λ kind. resizes.files kind j) n) ∙ linked_old

  -- the number of blocks is one of whole groups, so the group of the first block is below it
  below : blocks.start + blocks.count ≤ blocks_of new n
  below =
      let whole = (count_whole (blocks_of old n) (counts old n (member_all old k n block_kind is.linked))).0 in
      let first = is.below in
      let group = is.group in
      let same = resizes.blocks n in
      omega (arith, whole, first, group, same)

  -- the blocks end inside the file
  ends_inside : place word + byte_size word ≤ length_in new n
  unfolding whole_length place byte_size block_place
  ends_inside =
      let whole : whole_length old n ≡ 8192 + blocks_of old n * block_size (kind_number k) = ap (λ (o : Option ℕ). 8192 + blocks_of old n * size_as o) linked_old in
      let size = resizes.size_there in
      let count = resizes.blocks n in
      let first = place_start old k blocks some is in
      let many = place_count old k blocks some is in
      let under = below in
      let most : (first_block word + block_count word) * block_size (kind_number k) ≤ blocks_of old n * block_size (kind_number k) = mul-le-mul (omega (arith, under, count, first, many)) (omega arith) in
      let end : 8192 + first_block word * block_size (kind_of word) + block_count word * block_size (kind_of word) ≡ 8192 + (first_block word + block_count word) * block_size (kind_number k) = ap (λ (t : ℕ). 8192 + first_block word * block_size t + block_count word * block_size t) (place_kind old k blocks some is) ∙ spread (first_block word) (block_count word) (block_size (kind_number k)) in
      omega (arith, whole, size, most, end)

  pub place_stands : stands_among new word ≡ true
  unfolding stands_as_blocks
  place_stands =
      let file = place_file old k blocks some is in
      let kind = place_kind old k blocks some is in
      let of_type : is_linked_as (kind_among (files_of new) (file_selector word)) (kind_of word) ≡ true =
      (ap (λ (f : ℕ). is_linked_as (kind_among (files_of new) f) (kind_of word)) file ∙ ap (λ (o : Option ℕ). is_linked_as o (kind_of word)) linked_new ∙ ap (is_linked_as (Some (kind_number k))) kind ∙ self_linked (kind_number k)) in
      let count : blocks_of new (file_selector word) ≡ blocks_of new n = ap (blocks_of new) file in
      let size : length_in new (file_selector word) ≡ length_in new n = ap (length_in new) file in
      let fits : nat_le (first_block word + block_count word) (blocks_of new (file_selector word)) ≡ true = (let first = place_start old k blocks some is in let many = place_count old k blocks some is in let under = below in grind (arith, nat_tests)) in
      let inside : nat_le (place word + byte_size word) (length_in new (file_selector word)) ≡ true = (let end = ends_inside in grind (arith, nat_tests)) in
      rw (of_type, fits, inside) refl
