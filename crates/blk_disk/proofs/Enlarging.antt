-- A file gets more blocks: what holds at each word, and in the end.
use Rattle.std.proofs.Common.{◌≡◌, ◌≢◌, ℕ, ◌+◌, ◌-◌, ◌*◌, ◌/◌, ◌%◌, ◌^◌, ◌<◌, ◌≤◌, min, max, Bool, true, false, ◌&&◌, ◌||◌, nat_le, nat_lt, if◌then◌else◌, List, [], ◌∷◌, ◌++◌, None, Some, refl, sym, ◌∙◌, ap, ap₂, subst, arith, ⊎_elim}
use Rattle.std.specs.Prelude.{◌==◌}
use Rattle.std.specs.Option.{ForSome, option_map}
use Rattle.std.specs.declared.option.Option.{Option}
use Rattle.std.proofs.lemmas.Bool.{cases_eq, cases_lt}
use Rattle.std.proofs.lemmas.Bool.Decides.{nat_tests}
use Rattle.spec_image.specs.Bytes.{word_bytes}
use Rattle.spec_image.specs.Checks.{first_of}
use Rattle.spec_image.specs.Image.{Index, Block, External, Image, byte, length_of, word, same_file}
use Rattle.spec_image.specs.Steps.{TrailStep, Word, SetLength, applied, after, word_step, word_steps}
use Rattle.spec_image.specs.Told.{Told, Applies, AppliesPrefix, Passes, Along, Until, IsQuiet}
use Rattle.spec_image.specs.Footprint.{SameOutside, either, one_word, size_of}
use Rattle.spec_image.proofs.Cuts.{after-append}
use Rattle.spec_image.proofs.Footprints.{same_file_outside, outside-refl, outside-trans, outside_wider, outside_write, outside_longer, same_word_outside, within_left, within_right}
use Rattle.spec_image.proofs.Images.{word-after_same, word-after_other, length-after_set_len, length-after_word}
use Rattle.spec_image.proofs.Runs.{until-append, until_last, until_weaker2, quiet-append, grows_then, part_then, passes_part, passes_step, some_inj, told_whole}
use Rattle.spec_image.proofs.WordSteps.{quiet-word_steps}
use Rattle.spec_image.proofs.Words.{same-word_at}
use Rattle.spec_format.specs.Headers.{list_checks, magic_of, field_checks}
use Rattle.spec_format.specs.BlockFiles.{is_among, linked, kind_among, files_along, next_file_in, max_entries_in, is_block_count, block_checks, first_block_damage, HasSoundHeaders, KeepsHeaders}
use Rattle.blk_disk.specs.declared.tables.BlockFiles.{BlockFiles}
use Rattle.blk_disk.specs.Tables.{Agrees, Enlarges, all_files, blocks_of, files_of, length_in}
use Rattle.spec_format.specs.Growth.{HaveGrown, StaysWhole, StaysWholeOutside}
use Rattle.blk_disk.specs.Growth.{grown, grown_length, growth_of, grow_steps, lengthen_steps, new_groups, raise_steps, raised, size_as}
use Rattle.spec_format.proofs.SpareHeaders.{blocks_same, sizes_spare, other_file}
use Rattle.spec_format.proofs.Keeping.{KeepsHead, none_parts, none_both, undamaged_still}

-- the headers are kept where the index is as it was and no check of a block file fails
pub kept_headers : (a b : Image) → ((i : ℕ) → byte b Index i ≡ byte a Index i) → length_of b Index ≡ length_of a Index → (first_block_damage a ≡ None → first_block_damage b ≡ None) → KeepsHeaders a b
kept_headers a b bytes size blocks = record { sound = sound; magic = λ j. magic_of (λ i. bytes i j) } where
  sound : HasSoundHeaders a → HasSoundHeaders b
  sound was =
      let parts = none_parts (field_checks (byte a Index) (length_of a Index) ++ list_checks (byte a Index)) (block_checks a) was in
      none_both (field_checks (byte b Index) (length_of b Index) ++ list_checks (byte b Index)) (block_checks b)
      ((λ j. first_of (field_checks (λ i. bytes i j) (size j) ++ list_checks (λ i. bytes i j))) ∙ parts.0) (blocks parts.1)

-- an image while file n grows
pub record IsGrowing (n : ℕ) (from image : Image) : Type 0 where
  pub outside : SameOutside (growth_of n) from image
  pub longer : length_of from (Block n) ≤ length_of image (Block n)
  pub count : is_block_count (max_entries_in from n) ≡ true → is_block_count (max_entries_in image n) ≡ true
  pub more : max_entries_in from n ≤ max_entries_in image n

-- the first fields of no header are touched
fields_spared : (n m i : ℕ) → i < 20 → (growth_of n).bytes (Block m) i ≡ false
fields_spared n m i small = by_test (same_file (Block n) (Block m))
  where
    by_test : (t : Bool) → (false || ((t && (nat_le 36 i && nat_lt i 40)) || (t && (nat_le 20 i && nat_lt i 24)))) ≡ false
    by_test true = grind (arith, nat_tests)
    by_test false = refl

-- no byte of another file is touched
others_spared : (n m i : ℕ) → m ≢ n → (growth_of n).bytes (Block m) i ≡ false
others_spared n m i differs = let e : same_file (Block n) (Block m) ≡ false = other_file n m differs in rw e refl

module _ (n : ℕ) (from image : Image) (growing : IsGrowing n from image) where
  field_same : (m i : ℕ) → i < 20 → byte image (Block m) i ≡ byte from (Block m) i
  field_same m i small = let same = growing.outside in same.bytes (Block m) i (fields_spared n m i small)

  pub grows_next : next_file_in image ≡ next_file_in from
  unfolding next_file_in
  grows_next = λ j m. field_same m 10 (omega arith) j + 256 * field_same m 11 (omega arith) j

  other_bytes : (m i : ℕ) → m ≢ n → byte image (Block m) i ≡ byte from (Block m) i
  other_bytes m i differs = let same = growing.outside in same.bytes (Block m) i (others_spared n m i differs)

  pub other_blocks : (m : ℕ) → m ≢ n → max_entries_in image m ≡ max_entries_in from m
  unfolding max_entries_in
  other_blocks m differs = same-word_at (byte image (Block m)) (byte from (Block m)) 20 (other_bytes m 20 differs) (other_bytes m 21 differs) (other_bytes m 22 differs) (other_bytes m 23 differs)

  pub other_length : (m : ℕ) → m ≢ n → length_of image (Block m) ≡ length_of from (Block m)
  other_length m differs = let same = growing.outside in same.lengths (Block m) (let e : same_file (Block n) (Block m) ≡ false = other_file n m differs in rw e refl)

  keeps_heads : (m : ℕ) → KeepsHead from image m
  keeps_heads m = record {
    longer =
        ⊎_elim (λ same. subst (λ (k : ℕ). length_of from (Block k) ≤ length_of image (Block k)) (sym same) growing.longer)
        (λ differs. let e = other_length m differs in omega (arith, e)) (cases_eq m n);
    magic = same-word_at (byte image (Block m)) (byte from (Block m)) 0 (field_same m 0 (omega arith)) (field_same m 1 (omega arith)) (field_same m 2 (omega arith)) (field_same m 3 (omega arith));
    is_version = same-word_at (byte image (Block m)) (byte from (Block m)) 4 (field_same m 4 (omega arith)) (field_same m 5 (omega arith)) (field_same m 6 (omega arith)) (field_same m 7 (omega arith));
    this_file = λ j. field_same m 8 (omega arith) j + 256 * field_same m 9 (omega arith) j;
    entry_size = same-word_at (byte image (Block m)) (byte from (Block m)) 12 (field_same m 12 (omega arith)) (field_same m 13 (omega arith)) (field_same m 14 (omega arith)) (field_same m 15 (omega arith));
    count =
        ⊎_elim (λ same. subst (λ (k : ℕ). is_block_count (max_entries_in from k) ≡ true → is_block_count (max_entries_in image k) ≡ true) (sym same) growing.count)
        (λ differs holds. ap is_block_count (other_blocks m differs) ∙ holds) (cases_eq m n);
  }

  pub grows_undamaged : first_block_damage from ≡ None → first_block_damage image ≡ None
  grows_undamaged none = undamaged_still from image grows_next keeps_heads none

  pub grows_headers : KeepsHeaders from image
  grows_headers = let same = growing.outside in kept_headers from image (λ i. same.bytes Index i refl) (same.lengths Index refl) grows_undamaged

-- no byte of a block is touched
blocks_spared : (n m i : ℕ) → 8192 ≤ i → (growth_of n).bytes (Block m) i ≡ false
blocks_spared n m i past = by_test (same_file (Block n) (Block m))
  where
    by_test : (t : Bool) → (false || ((t && (nat_le 36 i && nat_lt i 40)) || (t && (nat_le 20 i && nat_lt i 24)))) ≡ false
    by_test true = grind (arith, nat_tests)
    by_test false = refl

module _ (n : ℕ) (from image : Image) (growing : IsGrowing n from image) where
  linked_still : linked image ≡ linked from
  unfolding linked
  linked_still = λ j kind. files_along (grows_next n from image growing j) 59 (kind - 1)

  more_blocks : (m : ℕ) → max_entries_in from m ≤ max_entries_in image m
  more_blocks m =
      ⊎_elim (λ same. subst (λ (k : ℕ). max_entries_in from k ≤ max_entries_in image k) (sym same) growing.more)
      (λ differs. let e = other_blocks n from image growing m differs in omega (arith, e)) (cases_eq m n)

  -- the file has grown, and no other has changed
  pub grows_grown : HaveGrown from image
  grows_grown = let same = growing.outside in record {
    index = λ i shown. same.bytes Index i refl;
    externals = λ m. same_file_outside (growth_of n) from image (External m) same (λ i. refl) refl;
    linked = λ m kind at. ap (λ (lists : ℕ → List ℕ). kind_among lists m) linked_still ∙ at;
    bytes = λ m kind i at past below. same.bytes (Block m) i (blocks_spared n m i past);
    longer = λ m kind at. let keeps = keeps_heads n from image growing m in keeps.longer;
    more = λ m kind at. more_blocks m;
  }

pub grows_whole : (n : ℕ) (from image : Image) → IsGrowing n from image → StaysWhole from image
grows_whole n from image growing = record { grown = grows_grown n from image growing; headers = grows_headers n from image growing }

-- the number of blocks after a growth is one that a file may have
pub count_grown : (b : ℕ) → b < 64896 → is_block_count b ≡ true → is_block_count (grown b) ≡ true
unfolding is_block_count
count_grown b below holds =
    ⊎_elim
    (λ (less : b < 64512).
    let whole : (b % 1024 == 0) ≡ true = grind (arith, nat_tests) in
    let multiple : b % 1024 ≡ 0 = grind (arith, nat_tests) in
    let is : grown b ≡ b + 1024 = omega arith in
    let one : ((b + 1024) % 1024 == 0) ≡ true = grind (arith, nat_tests) in
    let two : nat_le (b + 1024) 64512 ≡ true = grind (arith, nat_tests) in
    subst (λ (m : ℕ). (((m % 1024 == 0) && nat_le m 64512) || (m == 64896)) ≡ true) (sym is) (rw (one, two) refl))
    (λ (last : 64512 ≤ b).
    let is : grown b ≡ 64896 = omega arith in
    subst (λ (m : ℕ). (((m % 1024 == 0) && nat_le m 64512) || (m == 64896)) ≡ true) (sym is) refl)
    (cases_lt b 64512)

module _ (n : ℕ) (from : Image) where
  growing_begins : IsGrowing n from from
  growing_begins = record { outside = outside-refl (growth_of n) from; longer = omega arith; count = λ holds. holds; more = omega arith }

  growing_longer : (a : Image) (size : ℕ) → length_of a (Block n) ≤ size → IsGrowing n from a → IsGrowing n from (applied (SetLength (Block n) size) a)
  growing_longer a size longer growing =
      let step = outside_longer (Block n) size a longer in
      let at = length-after_set_len a (Block n) size in
      record {
        outside = outside-trans (growth_of n) from a _ growing.outside (outside_wider (size_of (Block n)) (growth_of n) a _ (within_left (size_of (Block n)) (either (one_word (Block n) 36) (one_word (Block n) 20))) step);
        longer = let less = growing.longer in omega (arith, less, longer, at);
        count = λ holds. ap is_block_count (blocks_same (size_of (Block n)) a (applied (SetLength (Block n) size) a) (sizes_spare (Block n)) step n) ∙ growing.count holds;
        more = let most = growing.more in let same = blocks_same (size_of (Block n)) a (applied (SetLength (Block n) size) a) (sizes_spare (Block n)) step n in omega (arith, most, same);
      }

  growing_counter : (a : Image) (v : ℕ) → IsGrowing n from a → IsGrowing n from (applied (Word (Block n) 36 (word_bytes v)) a)
  unfolding max_entries_in
  growing_counter a v growing =
      let step = outside_write (Block n) 36 (word_bytes v) a in
      let at = length-after_word a (Block n) 36 (word_bytes v) in
      let words = either (one_word (Block n) 36) (one_word (Block n) 20) in
      record {
        outside =
            outside-trans (growth_of n) from a _ growing.outside
            (outside_wider words (growth_of n) a _ (within_right (size_of (Block n)) words) (outside_wider (one_word (Block n) 36) words a _ (within_left (one_word (Block n) 36) (one_word (Block n) 20)) step));
        longer = let less = growing.longer in omega (arith, less, at);
        count = λ holds. ap is_block_count (word-after_other a (Block n) 36 (word_bytes v) 20 (omega arith) refl (omega arith)) ∙ growing.count holds;
        more = let most = growing.more in let same = word-after_other a (Block n) 36 (word_bytes v) 20 (omega arith) refl (omega arith) in omega (arith, most, same);
      }

  growing_blocks : (a : Image) (b : ℕ) → b < 64896 → max_entries_in from n ≡ b → 24 ≤ length_of a (Block n) → IsGrowing n from a → IsGrowing n from (applied (Word (Block n) 20 (word_bytes (grown b))) a)
  unfolding max_entries_in
  growing_blocks a b below is room growing =
      let step = outside_write (Block n) 20 (word_bytes (grown b)) a in
      let at = length-after_word a (Block n) 20 (word_bytes (grown b)) in
      let words = either (one_word (Block n) 36) (one_word (Block n) 20) in
      record {
        outside =
            outside-trans (growth_of n) from a _ growing.outside
            (outside_wider words (growth_of n) a _ (within_right (size_of (Block n)) words) (outside_wider (one_word (Block n) 20) words a _ (within_right (one_word (Block n) 36) (one_word (Block n) 20)) step));
        longer = let less = growing.longer in omega (arith, less, at);
        count = λ holds. ap is_block_count (word-after_same a (Block n) 20 (grown b) (omega arith) room) ∙ count_grown b below (ap is_block_count (sym is) ∙ holds);
        more = let same = word-after_same a (Block n) 20 (grown b) (omega arith) room in omega (arith, same, is, below);
      }

-- a linked file grows, where what is kept agrees
module _ (files : BlockFiles) (image : Image) (n : ℕ) (agrees : Agrees files image) (among : is_among (all_files files) n ≡ true) (below : blocks_of files n < 64896) where
  abbrev old_blocks : ℕ
  old_blocks = blocks_of files n

  abbrev size : ℕ
  size = grown_length files n

  size_some : 8192 ≤ size
  unfolding grown_length
  size_some = omega arith

  size_is : length_in files n ≡ length_of image (Block n)
  size_is = agrees.lengths n among

  -- the file once it is long enough
  abbrev long : Image
  long = after (lengthen_steps files n size) image

  long_size : length_of long (Block n) ≡ max (length_in files n) size
  long_size = by_test (nat_lt (length_in files n) size) refl
    where
      by_test : (t : Bool) → nat_lt (length_in files n) size ≡ t → length_of (after (if t then SetLength (Block n) size ∷ [] else []) image) (Block n) ≡ max (length_in files n) size
      by_test true e = let at = length-after_set_len image (Block n) size in let less : length_in files n < size = grind (arith, nat_tests) in omega (arith, at, less)
      by_test false e = let upto : size ≤ length_in files n = grind (arith, nat_tests) in omega (arith, size_is, upto)

  abbrev Growing : Image → Type 0
  Growing = IsGrowing n image

  along_lengthen : Along Growing image (lengthen_steps files n size)
  along_lengthen = by_test (nat_lt (length_in files n) size) refl
    where
      by_test : (t : Bool) → nat_lt (length_in files n) size ≡ t → Along Growing image (if t then SetLength (Block n) size ∷ [] else [])
      by_test true e = let less : length_in files n < size = grind (arith, nat_tests) in (growing_begins n image, growing_longer n image image size (omega (arith, size_is, less)) (growing_begins n image))
      by_test false e = growing_begins n image

  long_grows : Growing long
  long_grows = until_last Growing Growing (lengthen_steps files n size) image along_lengthen

  blocks_are : max_entries_in image n ≡ old_blocks
  blocks_are = sym (agrees.blocks n among)

  module _ (counter : ℕ) where
    abbrev counted : Image
    counted = applied (Word (Block n) 36 (word_bytes counter)) long

    counted_size : length_of counted (Block n) ≡ max (length_in files n) size
    counted_size = length-after_word long (Block n) 36 (word_bytes counter) ∙ long_size

    counted_room : 24 ≤ length_of counted (Block n)
    counted_room = omega (arith, counted_size, size_some)

    counted_grows : Growing counted
    counted_grows = growing_counter n image long counter long_grows

    abbrev done : Image
    done = applied (Word (Block n) 20 (word_bytes (grown old_blocks))) counted

    done_grows : Growing done
    done_grows = growing_blocks n image counted old_blocks below blocks_are counted_room counted_grows

    abbrev all_steps : List TrailStep
    all_steps = lengthen_steps files n size ++ word_steps (Block n) ((36, counter) ∷ (20, grown old_blocks) ∷ [])

    pub grow_along : Along Growing image all_steps
    unfolding word_step
    grow_along = until-append Growing Growing (lengthen_steps files n size) (word_steps (Block n) ((36, counter) ∷ (20, grown old_blocks) ∷ [])) image along_lengthen (long_grows, (counted_grows, done_grows))

    pub grow_ends : after all_steps image ≡ done
    unfolding word_step
    grow_ends = after-append (lengthen_steps files n size) (word_steps (Block n) ((36, counter) ∷ (20, grown old_blocks) ∷ [])) image

    pub grow_quiet : IsQuiet all_steps
    grow_quiet = quiet-append (lengthen_steps files n size) (word_steps (Block n) ((36, counter) ∷ (20, grown old_blocks) ∷ [])) (by_test (nat_lt (length_in files n) size)) (quiet-word_steps (Block n) ((36, counter) ∷ (20, grown old_blocks) ∷ []) tt)
      where
        by_test : (t : Bool) → IsQuiet (if t then SetLength (Block n) size ∷ [] else [])
        by_test true = tt
        by_test false = tt

    done_blocks : max_entries_in done n ≡ grown old_blocks
    unfolding max_entries_in
    done_blocks = word-after_same counted (Block n) 20 (grown old_blocks) (omega arith) counted_room

    done_size : length_of done (Block n) ≡ max (length_in files n) size
    done_size = length-after_word counted (Block n) 20 (word_bytes (grown old_blocks)) ∙ counted_size

    module _ (new : BlockFiles) (enlarges : Enlarges files new n (grown old_blocks) (max (length_in files n) size)) where
      before : (m : ℕ) → is_among (all_files new) m ≡ true → is_among (all_files files) m ≡ true
      before m holds = ap (λ (l : List ℕ). is_among l m) (sym enlarges.all) ∙ holds

      links_done : (kind : ℕ) → linked done kind ≡ linked image kind
      unfolding linked
      links_done kind = ap (λ (next : ℕ → ℕ). files_along next 59 (kind - 1)) (grows_next n image done done_grows)

      agrees_done : Agrees new done
      agrees_done = record {
        links = λ kind holds. enlarges.files kind ∙ agrees.links kind holds ∙ sym (links_done kind);
        blocks =
            λ m holds. ⊎_elim (λ e. ap (blocks_of new) e ∙ enlarges.blocks_there ∙ sym done_blocks ∙ ap (max_entries_in done) (sym e))
            (λ differs. enlarges.other_blocks m differs ∙ agrees.blocks m (before m holds) ∙ sym (other_blocks n image done done_grows m differs)) (cases_eq m n);
        lengths =
            λ m holds. ⊎_elim (λ e. ap (length_in new) e ∙ enlarges.size_there ∙ sym done_size ∙ ap (λ (k : ℕ). length_of done (Block k)) (sym e))
            (λ differs. enlarges.other_lengths m differs ∙ agrees.lengths m (before m holds) ∙ sym (other_length n image done done_grows m differs)) (cases_eq m n);
        undamaged = grows_undamaged n image done done_grows agrees.undamaged;
      }

      pub agrees_grown : Agrees new (after all_steps image)
      agrees_grown = subst (Agrees new) (sym grow_ends) agrees_done

  -- there is space for the header's words
  pub long_room : 40 ≤ length_of long (Block n)
  long_room = omega (arith, long_size, size_some)

  -- the counter is as it was
  pub counter_same : (groups : ℕ) → raised long n groups ≡ raised image n groups
  counter_same groups = ap (λ (w : ℕ). (w + groups) % 2 ^ 32) (by_test (nat_lt (length_in files n) size) refl)
    where
      by_test : (t : Bool) → nat_lt (length_in files n) size ≡ t → word (after (if t then SetLength (Block n) size ∷ [] else []) image) (Block n) 36 ≡ word image (Block n) 36
      by_test true e =
          let less : length_in files n < size = grind (arith, nat_tests) in
          same_word_outside (size_of (Block n)) image (applied (SetLength (Block n) size) image) (Block n) 36 (outside_longer (Block n) size image (omega (arith, size_is, less))) (λ k low high. refl)
      by_test false e = refl

-- an image while file n is made longer, and nothing else
abbrev pub IsLonger : ℕ → Image → Image → Type 0
IsLonger n from image = SameOutside (size_of (Block n)) from image × IsGrowing n from image

-- a file is made longer: what holds before and after that step
module _ (n size : ℕ) (from : Image) (longer : length_of from (Block n) ≤ size) where
  longer_step : IsLonger n from from × IsLonger n from (applied (SetLength (Block n) size) from)
  longer_step = ((outside-refl (size_of (Block n)) from, growing_begins n from), (outside_longer (Block n) size from longer, growing_longer n from from size longer (growing_begins n from)))

  pub passes_longer : {a b : Told} (P : Image → Type 0) → a.files ≡ Some from → ((i : Image) → IsLonger n from i → P i) → Applies a b (SetLength (Block n) size ∷ []) → Passes a b P
  passes_longer P there holds grows =
      passes_step P grows tt
      (λ image here. let same : from ≡ image = some_inj (sym there ∙ here) in
      subst (λ (i : Image). P i × P (applied (SetLength (Block n) size) i)) same (holds from longer_step.0, holds _ longer_step.1))

-- a call that lengthened the file, and then wrote its larger numbers
module _ (files : BlockFiles) (n : ℕ) (a b d : Told) (agrees : ForSome a.files (Agrees files)) (among : is_among (all_files files) n ≡ true) (below : blocks_of files n < 64896) where
  abbrev lengthened : List TrailStep
  lengthened = lengthen_steps files n (grown_length files n)

  abbrev groups : ℕ
  groups = new_groups (blocks_of files n)

  abbrev blocks : ℕ
  blocks = grown (blocks_of files n)

  pub grow_room : Applies a b lengthened → ForSome b.files (λ image. 40 ≤ length_of image (Block n))
  grow_room first = told_whole (λ image. 40 ≤ length_of image (Block n)) first (λ image there. long_room files image n (agrees image there) among below)

  long_there : Applies a b lengthened → (image : Image) → a.files ≡ Some image → b.files ≡ Some (after lengthened image)
  long_there first image there = first.files ∙ ap (option_map (after lengthened)) there

  pub grow_part : Applies a b lengthened → ForSome b.files (λ image. AppliesPrefix b d (raise_steps image n groups blocks)) → ForSome a.files (λ image. AppliesPrefix a d (grow_steps files n image))
  grow_part first second image there =
      part_then first
      (subst (λ (counter : ℕ). AppliesPrefix b d (word_steps (Block n) ((36, counter) ∷ (20, blocks) ∷ []))) (counter_same files image n (agrees image there) among below groups) (second _ (long_there first image there)))

  pub grow_whole : Applies a b lengthened → ForSome b.files (λ image. Applies b d (raise_steps image n groups blocks)) → ForSome a.files (λ image. Applies a d (grow_steps files n image))
  grow_whole first second image there =
      grows_then first
      (subst (λ (counter : ℕ). Applies b d (word_steps (Block n) ((36, counter) ∷ (20, blocks) ∷ []))) (counter_same files image n (agrees image there) among below groups) (second _ (long_there first image there)))

  abbrev Part : Type 0
  Part = ForSome a.files (λ image. AppliesPrefix a d (grow_steps files n image))

  passing : (P : Image → Type 0) (from : Image) → ((image : Image) → IsGrowing n from image → P image) → a.files ≡ Some from → Part → Passes a d P
  passing P from holds there part =
      passes_part P P (part from there) (grow_quiet files from n (agrees from there) among below (raised from n groups)) (λ image p. p)
      (λ image here. subst (λ (i : Image). Until P P i (grow_steps files n from)) (some_inj (sym there ∙ here))
      (until_weaker2 (IsGrowing n from) P (IsGrowing n from) P (grow_steps files n from) from holds holds (grow_along files from n (agrees from there) among below (raised from n groups))))

  pub grow_stops : Part → ForSome a.files (λ from. Passes a d (StaysWholeOutside (growth_of n) from))
  grow_stops part from there = passing (StaysWholeOutside (growth_of n) from) from (λ image growing. record { outside = growing.outside; stays = grows_whole n from image growing }) there part

  pub grow_agrees : (new : BlockFiles) → ForSome a.files (λ image. Applies a d (grow_steps files n image)) → (a.files ≡ None → d.files ≡ None) → Enlarges files new n blocks (max (length_in files n) (grown_length files n)) → ForSome d.files (Agrees new)
  grow_agrees new whole untold enlarges = by_files a.files refl
    where
      none_some : (image : Image) → None ≡ Some image → ⊥
      none_some image e = cc

      by_files : (o : Option Image) → a.files ≡ o → ForSome d.files (Agrees new)
      by_files None e = λ image there. absurd (none_some image (sym (untold e) ∙ there))
      by_files (Some from) e =
          let grows = whole from e in
          told_whole (Agrees new) grows
          (λ image there. let same : from ≡ image = some_inj (sym e ∙ there) in
          subst (λ (i : Image). Agrees new (after (grow_steps files n from) i)) same (agrees_grown files from n (agrees from e) among below (raised from n groups) new enlarges))

  -- the numbers, as the call has them
  module _ (old more long : ℕ) (old_is : old ≡ blocks_of files n) (more_is : more ≡ min (old + 1024) 64896) (long_is : long ≡ 8192 + more * size_as (kind_among (files_of files) n)) where
    blocks_is : more ≡ blocks
    blocks_is = more_is ∙ ap grown old_is

    groups_is : (more - old) / 4 ≡ groups
    groups_is = ap₂ (λ (x y : ℕ). (x - y) / 4) blocks_is old_is

    length_is : long ≡ grown_length files n
    unfolding grown_length
    length_is = long_is ∙ ap (λ (x : ℕ). 8192 + x * size_as (kind_among (files_of files) n)) blocks_is

    pub first_is : Applies a b (lengthen_steps files n long) → Applies a b lengthened
    first_is first = subst (λ (x : ℕ). Applies a b (lengthen_steps files n x)) length_is first

    pub part_is : Applies a b (lengthen_steps files n long) → ForSome b.files (λ image. AppliesPrefix b d (raise_steps image n ((more - old) / 4) more)) → Part
    part_is first second =
        grow_part (first_is first)
        (subst (λ (x : ℕ). ForSome b.files (λ image. AppliesPrefix b d (raise_steps image n groups x))) blocks_is
        (subst (λ (x : ℕ). ForSome b.files (λ image. AppliesPrefix b d (raise_steps image n x more))) groups_is second))

    pub whole_is : Applies a b (lengthen_steps files n long) → ForSome b.files (λ image. Applies b d (raise_steps image n ((more - old) / 4) more)) → ForSome a.files (λ image. Applies a d (grow_steps files n image))
    whole_is first second =
        grow_whole (first_is first)
        (subst (λ (x : ℕ). ForSome b.files (λ image. Applies b d (raise_steps image n groups x))) blocks_is
        (subst (λ (x : ℕ). ForSome b.files (λ image. Applies b d (raise_steps image n x more))) groups_is second))

    pub enlarges_is : (new : BlockFiles) (before size : ℕ) → before ≡ length_in files n → size ≡ max before long → Enlarges files new n more size → Enlarges files new n blocks (max (length_in files n) (grown_length files n))
    enlarges_is new before size is is2 enlarges =
        subst (λ (x : ℕ). Enlarges files new n blocks x) (is2 ∙ ap₂ (λ (x y : ℕ). max x y) is length_is)
        (subst (λ (x : ℕ). Enlarges files new n x size) blocks_is enlarges)
