-- Space that a growth gives.
use Rattle.std.proofs.Common.{◌≡◌, ℕ, zero, suc, ◌+◌, ◌%◌, ◌<◌, ◌≤◌, inr, List, [], ◌∷◌, max, Bool, true, false, ◌&&◌, ◌||◌, not, Option, refl, sym, ◌∙◌, ap, ap₂, subst, arith, ⊎_elim}
use Rattle.std.specs.List.{list_all, range_with_len}
use Rattle.std.proofs.lemmas.Bool.{cases_eq}
use Rattle.spec_image.specs.Bytes.{content, word_at}
use Rattle.spec_image.specs.Image.{Image, Block, same_file, byte, bytes_of, length_of}
use Rattle.spec_image.specs.Steps.{after, word_steps, with_word}
use Rattle.spec_image.specs.Footprint.{SameOutside}
use Rattle.spec_image.proofs.Cuts.{after-append}
use Rattle.spec_image.proofs.Footprints.{same_file_outside}
use Rattle.spec_image.proofs.Words.{word-beside, word-there}
use Rattle.spec_format.specs.Headers.{empty_of}
use Rattle.spec_format.specs.BlockFiles.{is_among, max_entries_in, most_blocks}
use Rattle.spec_format.specs.Maps.{is_block_marked, are_free, EmptyAgrees}
use Rattle.blk_disk.specs.declared.tables.BlockFiles.{BlockFiles}
use Rattle.blk_disk.specs.Tables.{Agrees, Enlarges, all_files, blocks_of, length_in}
use Rattle.blk_disk.specs.Growth.{grown, new_groups, grown_length, growth_of, grow_steps, lengthen_steps, raised}
use Rattle.spec_format.proofs.SpareHeaders.{other_file}
use Rattle.blk_disk.proofs.Enlarging.{long_room}
use Rattle.blk_alloc.specs.Extending.{HasCounters, KeepsFiles}
use Rattle.blk_alloc.specs.Changes.{CanChangeMarks}
use Rattle.blk_alloc.proofs.Changing.{bytes_after}
use Rattle.spec_format.proofs.LinkedHeads.{HasHead, count_whole}
use Rattle.blk_alloc.proofs.Growing.{grow_widens, grown_empty, new_free}
use Rattle.blk_alloc.proofs.Widening.{allocations_more}

-- blocks of which none is marked are free
pub free_all : (p : ℕ → Bool) (s count : ℕ) → ((b : ℕ) → s ≤ b → b < s + count → p b ≡ false) → are_free p s count ≡ true
unfolding are_free
free_all p s count none = all_from 0 count (λ i low high. none (s + i) (omega arith) (omega (arith, high)))
  where
    all_from : (a n : ℕ) → ((i : ℕ) → a ≤ i → i < a + n → p (s + i) ≡ false) → list_all (λ i. not (p (s + i))) (range_with_len a n) ≡ true
    all_from a zero free = refl
    all_from a (suc n) free = ap₂ (λ (x y : Bool). x && y) (ap not (free a (omega arith) (omega arith))) (all_from (a + 1) n (λ i low high. free i (omega arith) (omega arith)))

-- the counter of the groups of which all blocks are free, after a growth
pub raise_is : (old : BlockFiles) (from mid : Image) (n : ℕ) → Agrees old from → is_among (all_files old) n ≡ true → blocks_of old n < most_blocks → mid ≡ after (grow_steps old n from) from → empty_of (byte mid (Block n)) 3 ≡ raised from n (new_groups (blocks_of old n))
raise_is old from mid n agrees among below is =
    let counter : ℕ = raised from n (new_groups (blocks_of old n)) in
    let blocks : ℕ = grown (blocks_of old n) in
    let long : Image = after (lengthen_steps old n (grown_length old n)) from in
    ap (λ (i : Image). word_at (content (bytes_of i (Block n))) 36) (is ∙ after-append (lengthen_steps old n (grown_length old n)) (word_steps (Block n) ((36, counter) ∷ (20, blocks) ∷ [])) from)
    ∙ ap (λ (l : List ℕ). word_at (content l) 36) (bytes_after (Block n) ((36, counter) ∷ (20, blocks) ∷ []) long)
    ∙ word-beside 36 20 blocks (with_word 36 counter (bytes_of long (Block n))) (inr (omega arith))
    ∙ word-there 36 counter (bytes_of long (Block n)) (omega arith) (long_room old from n agrees among below)

module _ (old new : BlockFiles) (from mid : Image) (n : ℕ) (agrees : Agrees old from) (agrees_new : Agrees new mid) (among : is_among (all_files old) n ≡ true)
    (enlarges : Enlarges old new n (grown (blocks_of old n)) (max (length_in old n) (grown_length old n))) (below : blocks_of old n < most_blocks)
    (head : HasHead from n) (same : SameOutside (growth_of n) from mid) (is : mid ≡ after (grow_steps old n from) from) (counters : HasCounters from n) where
  abbrev blocks : ℕ
  blocks = grown (blocks_of old n)

  abbrev counter : ℕ
  counter = raised from n (new_groups (blocks_of old n))

  raise : empty_of (byte mid (Block n)) 3 ≡ counter
  raise = raise_is old from mid n agrees among below is

  whole : max_entries_in from n % 4 ≡ 0
  whole = (count_whole _ head.count).0

  empty_there : EmptyAgrees from n → EmptyAgrees mid n
  empty_there empty = grown_empty old new from mid n agrees agrees_new among enlarges below whole same raise counters.words counters.are empty

  blocks_before : max_entries_in from n ≡ blocks_of old n
  blocks_before = sym (agrees.blocks n among)

  blocks_later : max_entries_in mid n ≡ blocks
  blocks_later = sym (agrees_new.blocks n (ap (λ (l : List ℕ). is_among l n) enlarges.all ∙ among)) ∙ enlarges.blocks_there

  long_header : 8192 ≤ length_of mid (Block n)
  unfolding grown_length
  long_header =
      let size : length_in new n ≡ max (length_in old n) (grown_length old n) = enlarges.size_there in
      let now = agrees_new.lengths n (ap (λ (l : List ℕ). is_among l n) enlarges.all ∙ among) in
      omega (arith, size, now)

  pub grown_ready : (count : ℕ) → count ≤ 4 → CanChangeMarks mid n (blocks_of old n) count true
  grown_ready count few = record {
    header = long_header;
    whole = omega (arith, blocks_later, blocks_before, whole, below);
    most = omega (arith, blocks_later);
    below = omega (arith, blocks_later, blocks_before, whole, below, few);
    empty = empty_there counters.empty;
    more = λ e. let kept = (grow_widens old new from mid n enlarges below same).allocations n among in let room = counters.room in omega (arith, kept, room);
    less = λ e. absurd (clash e);
  }
    where
      clash : true ≡ false → ⊥
      clash e = cc

  pub grown_free : (count : ℕ) → count ≤ 4 → are_free (is_block_marked mid n) (blocks_of old n) count ≡ true
  grown_free count few = free_all (is_block_marked mid n) (blocks_of old n) count (λ b low high. new_free old new from mid n agrees agrees_new among enlarges below whole same raise counters.words counters.are counters.empty b low (omega (arith, high, few, blocks_before, whole, below)))

  pub grown_keeps : KeepsFiles old from mid
  unfolding EmptyAgrees max_entries_in
  grown_keeps m there = record {
    allocations = allocations_more old new from mid agrees agrees_new (grow_widens old new from mid n enlarges below same) m there;
    empty = λ was. ⊎_elim (λ (e : m ≡ n). subst (EmptyAgrees mid) (sym e) (empty_there (subst (EmptyAgrees from) e was)))
        (λ differs. subst (λ (o : Option (List ℕ)). EmptyAgrees (λ file. o) m) (sym (same_file_outside (growth_of n) from mid (Block m) same (λ i. let e : same_file (Block n) (Block m) ≡ false = other_file n m differs in rw e refl) (ap (λ (t : Bool). t || false) (other_file n m differs)))) was) (cases_eq m n);
  }
