-- Blocks that are freed.
use Rattle.std.proofs.Common.{◌≡◌, ◌≢◌, ℕ, ◌+◌, ◌<◌, ◌≤◌, nat_le, refl, List, [], ◌∷◌, length, Bool, true, false, ◌&&◌, not, if◌then◌else◌, Option, None, sym, ◌∙◌, ap, ap₂, subst, arith, ⊎_elim}
use Rattle.std.specs.Prelude.{◌==◌}
use Rattle.std.specs.List.{All}
use Rattle.std.proofs.lemmas.List.Elements.{All-filter}
use Rattle.std.proofs.lemmas.Bool.{cases_eq, and_parts, leb-true}
use Rattle.std.proofs.lemmas.Bool.Decides.{nat_tests}
use Rattle.spec_image.specs.Image.{Image, Block, length_of}
use Rattle.spec_format.specs.Address.{kind_of, external, file_selector, first_block, block_count, place, byte_size}
use Rattle.spec_format.specs.Claims.{BlockOf, is_in_file}
use Rattle.spec_format.specs.BlockFiles.{is_among, kind_among, stands_in, most_blocks, first_block_damage}
use Rattle.spec_format.specs.Growth.{StaysWhole}
use Rattle.spec_format.specs.Maps.{is_block_marked, AreAllocations}
use Rattle.blk_addr.specs.Bits.{is_between}
use Rattle.blk_alloc.specs.Changes.{map_of, with_marks, HasBlocks, CanChangeMarks, IsChanged}
use Rattle.blk_alloc.specs.Owning.{is_of, others, CanBeFreed, IsAllocated, IsFreed}
use Rattle.blk_alloc.proofs.Lists.{IsBlocks, LeavesOut, leaves_out, claims_blocks}
use Rattle.spec_format.proofs.LinkedHeads.{HasHead, linked_checked, count_whole}
use Rattle.blk_alloc.proofs.Formed.{stands_kept, other_kept, file_kept}
use Rattle.blk_alloc.proofs.Standing.{StandsHere, stands_here, all_among}
use Rattle.blk_disk.proofs.WholeHeaders.{all_head}
use Rattle.blk_alloc.proofs.Sparing.{headers_stay, grown_spared, map_spares}
use Rattle.blk_disk.proofs.Ranges.{stands_linked}
use Rattle.blk_disk.specs.declared.tables.BlockFiles.{BlockFiles}
use Rattle.blk_disk.specs.Tables.{Agrees, all_files, blocks_of, files_of, length_in, stands_among}
use Rattle.spec_format.specs.Standing.{is_linked_as, stands_as_blocks}
use Rattle.spec_image.specs.Footprint.{SameOutside}

some_there : (words : List ℕ) (w : ℕ) → is_among words w ≡ true → 0 < length words
some_there [] w among = absurd (clash among)
  where
    clash : false ≡ true → ⊥
    clash e = cc
some_there (x ∷ words) w among = omega arith

-- an allocation may be freed
pub free_ready : (image : Image) (w : ℕ) → kind_of w ≢ external → first_block_damage image ≡ None → CanBeFreed image w → CanChangeMarks image (file_selector w) (first_block w) (block_count w) false
free_ready image w block_kind undamaged may =
    let allocated = may.allocated in
    let here : StandsHere image w = stands_here image w block_kind (all_among (λ x. stands_in image x ≡ true) allocated.words w allocated.are.stand allocated.there) in
    let head : HasHead image (file_selector w) = linked_checked image (kind_of w) (file_selector w) undamaged here.block_kind here.linked in
    let count = count_whole _ head.count in
    record {
      header = head.header;
      whole = count.0;
      most = count.1;
      below = here.below;
      empty = may.empty;
      more = λ e. absurd (clash e);
      less = λ e. let some = some_there allocated.words w allocated.there in let counted = allocated.are.counted in omega (arith, some, counted);
    }
  where
    clash : false ≡ true → ⊥
    clash e = cc

-- an allocation is of blocks
pub allocated_blocks : (image : Image) (w : ℕ) → kind_of w ≢ external → IsAllocated image w → IsBlocks w
allocated_blocks image w block_kind allocated = (stands_here image w block_kind (all_among (λ x. stands_in image x ≡ true) allocated.words w allocated.are.stand allocated.there)).blocks

module _ (from image : Image) (w : ℕ) (block_kind : kind_of w ≢ external) (has : HasBlocks from (file_selector w) (first_block w) (block_count w)) (changed : IsChanged from (file_selector w) (first_block w) (block_count w) false image) where
  n : ℕ
  n = file_selector w

  marks_are : (m b : ℕ) → b < most_blocks → is_block_marked image m b ≡ (if is_of w m b then false else is_block_marked from m b)
  unfolding is_of
  marks_are m b small = ⊎_elim here elsewhere (cases_eq m (file_selector w))
    where
      here : m ≡ file_selector w → is_block_marked image m b ≡ (if (file_selector w == m) && is_between (first_block w) (first_block w + block_count w) b then false else is_block_marked from m b)
      here e =
          let test : (file_selector w == m) ≡ true = grind (arith, nat_tests) in
          ap (λ (k : ℕ). is_block_marked image k b) e ∙ changed.marks b small ∙ ap (λ (k : ℕ). with_marks (is_block_marked from k) (first_block w) (block_count w) false b) (sym e)
          ∙ ap (λ (t : Bool). if t && is_between (first_block w) (first_block w + block_count w) b then false else is_block_marked from m b) (sym test)

      elsewhere : m ≢ file_selector w → is_block_marked image m b ≡ (if (file_selector w == m) && is_between (first_block w) (first_block w + block_count w) b then false else is_block_marked from m b)
      elsewhere differs =
          let test : (file_selector w == m) ≡ false = grind (arith, nat_tests) in
          ap (λ (o : Option (List ℕ)). is_block_marked (λ file. o) m b) (other_kept (file_selector w) from image changed.same m differs)
          ∙ ap (λ (t : Bool). if t && is_between (first_block w) (first_block w + block_count w) b then false else is_block_marked from m b) (sym test)

  allocations_are : (words : List ℕ) → AreAllocations from (file_selector w) words → is_among words w ≡ true → AreAllocations image (file_selector w) (others w words)
  allocations_are words are among =
      let blocks : IsBlocks w = allocated_blocks from w block_kind (record { words = words; are = are; there = among }) in
      let left : LeavesOut words w = leaves_out words w blocks among are.apart in
      record {
        stand = All-filter (λ x. not (x == w)) (λ x. stands_in image x ≡ true) words (subst (λ (f : ℕ → Bool). All (λ x. f x ≡ true) words) (sym (stands_kept (file_selector w) from image changed.same)) are.stand);
        here = All-filter (λ x. not (x == w)) (λ x. is_in_file (file_selector w) x ≡ true) words are.here;
        apart = left.once;
        marks = λ b small.
            marks_are (file_selector w) b small
            ∙ ap₂ (λ (t m : Bool). if t then false else m) (sym (claims_blocks w (file_selector w) b blocks)) (are.marks b small)
            ∙ sym (left.claims (BlockOf (file_selector w) b));
        counted =
            let few = left.fewer in
            let was = are.counted in
            let less = changed.allocations in
            omega (arith, few, was, less);
      }

  pub freed_is : IsFreed from w image
  freed_is = record {
    same = changed.same;
    marks = marks_are;
    allocations = allocations_are;
    counted = changed.allocations;
    counts = changed.counts;
    empty = changed.empty has;
    updating = changed.updating;
    elsewhere = λ m differs. file_kept (file_selector w) from image changed.same m differs;
  }

-- the blocks of a valid address are among those of its file
pub standing_blocks : (files : BlockFiles) (image : Image) (w : ℕ) → Agrees files image → stands_among files w ≡ true → HasBlocks image (file_selector w) (first_block w) (block_count w)
unfolding stands_as_blocks
standing_blocks files image w agrees stands =
    let n : ℕ = file_selector w in
    let among : is_among (all_files files) n ≡ true = stands_linked files w stands in
    let whole = count_whole _ (all_head files image n agrees among).count in
    let two = and_parts (is_linked_as (kind_among (files_of files) n) (kind_of w) && nat_le (first_block w + block_count w) (blocks_of files n)) (nat_le (place w + byte_size w) (length_in files n)) stands in
    let below : first_block w + block_count w ≤ blocks_of files n = leb-true _ _ (and_parts (is_linked_as (kind_among (files_of files) n) (kind_of w)) (nat_le (first_block w + block_count w) (blocks_of files n)) two.0).1 in
    let same = agrees.blocks n among in
    record { whole = whole.0; most = whole.1; below = omega (arith, below, same) }

-- while blocks are freed, and when they are, the folder stays whole
pub frees_whole : (from image : Image) (w : ℕ) → SameOutside (map_of (file_selector w)) from image → StaysWhole from image
frees_whole from image w same =
    let longer : (m : ℕ) → length_of from (Block m) ≤ length_of image (Block m) = (λ m. let e = same.lengths (Block m) refl in omega (arith, e)) in
    record { grown = grown_spared (map_of (file_selector w)) from image (map_spares (file_selector w)) same longer; headers = headers_stay (map_of (file_selector w)) from image (map_spares (file_selector w)) same longer }
