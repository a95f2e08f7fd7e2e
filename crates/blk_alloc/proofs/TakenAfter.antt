-- Blocks that are taken, in two calls: the file is lengthened, and then the marks change.
use Rattle.std.proofs.Common.{◌≡◌, ◌≢◌, ◌⊎◌, inl, inr, ℕ, List, ◌+◌, ◌*◌, ◌%◌, ◌/◌, ◌<◌, ◌≤◌, true, Option, None, Some, refl, sym, ◌∙◌, ap, subst, arith, ⊎_elim, max}
use Rattle.std.specs.Option.{ForSome, option_map}
use Rattle.spec_image.specs.Image.{Image, Block, byte, length_of}
use Rattle.spec_image.specs.Steps.{after}
use Rattle.spec_image.specs.Footprint.{SameOutside, size_of}
use Rattle.spec_image.specs.Told.{Told, PassesTo, Applies}
use Rattle.spec_image.proofs.Runs.{passes_weaker, passes_then, passes_end, some_inj}
use Rattle.spec_format.specs.Address.{block_word, file_selector, first_block, block_count, kind_of, external, is_address, rankings}
use Rattle.spec_format.specs.BlockFiles.{is_among, max_entries_in, most_blocks}
use Rattle.spec_format.specs.Maps.{is_block_marked, is_block_marked_at, are_free, longest_run, EmptyAgrees}
use Rattle.spec_format.specs.Headers.{allocations_of, empty_of}
use Rattle.blk_alloc.specs.Counting.{counted, IsCounted}
use Rattle.spec_format.proofs.Words.{is_address-block_word}
use Rattle.blk_addr.specs.declared.kinds.Kind.{Kind}
use Rattle.blk_addr.specs.Kind.{kind_number}
use Rattle.blk_addr.proofs.AddressFields.{address_above_0}
use Rattle.blk_disk.specs.declared.tables.BlockFiles.{BlockFiles}
use Rattle.blk_disk.specs.Tables.{Agrees, Resizes, all_files, files_of, length_in}
use Rattle.blk_disk.specs.Growth.{fit_steps, whole_length}
use Rattle.blk_alloc.specs.declared.blocks.Blocks.{Blocks}
use Rattle.blk_alloc.specs.Changes.{IsMapInProgress, CanChangeMarks, IsChanged}
use Rattle.spec_image.specs.Bytes.{range_at, word_bytes}
use Rattle.blk_alloc.specs.Fitting.{IsMapWord, IsPlace}
use Rattle.blk_alloc.specs.Marking.{CanBeMarked, CountsUsed, KeepsHints, MarksUsedInProgress, MarksUsed}
use Rattle.blk_alloc.proofs.Hints.{map_keeps, size_keeps}
use Rattle.blk_alloc.proofs.Lists.{IsBlocks}
use Rattle.blk_alloc.proofs.Members.{kind_blocky}
use Rattle.blk_alloc.proofs.Taken.{fit_passes, ready_kept, taking_fit, taking_midst}
use Rattle.blk_alloc.proofs.Placed.{place_count, place_fields, place_file, place_kind, place_stands, place_start}
use Rattle.blk_alloc.proofs.TakenBlocks.{taken_is}

module _ (a b : Told) (old new : BlockFiles) (place : Blocks) (agrees : ForSome a.files (Agrees old)) (all : is_among (all_files old) place.file ≡ true)
    (fitted : Applies a b (fit_steps old place.file)) (kept : Resizes old new place.file (max (length_in old place.file) (whole_length old place.file))) (agrees_new : ForSome b.files (Agrees new)) where
  abbrev n : ℕ
  n = place.file

  -- the files after the file was lengthened
  pub record IsMid (from mid : Image) : Type 0 where
    pub now : b.files ≡ Some mid
    pub same : SameOutside (size_of (Block n)) from mid
    pub longer : length_of from (Block n) ≤ length_of mid (Block n)

  pub mid_of : (from : Image) → a.files ≡ Some from → (mid : Image) × IsMid from mid
  mid_of from there =
      let mid : Image = after (fit_steps old n) from in
      let now : b.files ≡ Some mid = fitted.files ∙ ap (option_map (after (fit_steps old n))) there in
      let same : SameOutside (size_of (Block n)) from mid = passes_end (fit_passes old n from (agrees from there) all (SameOutside (size_of (Block n)) from) there fitted (λ i s long. s)) mid now in
      let was = (agrees from there).lengths n all in
      let is = (agrees_new mid now).lengths n (ap (λ (l : List ℕ). is_among l n) kept.all ∙ all) in
      let size = kept.size_there in
      (mid, record { now = now; same = same; longer = omega (arith, was, is, size) })

  pub from_of : (mid : Image) → b.files ≡ Some mid → (from : Image) × (a.files ≡ Some from) × IsMid from mid
  from_of mid now = by_files a.files refl
    where
      by_files : (o : Option Image) → a.files ≡ o → (from : Image) × (a.files ≡ Some from) × IsMid from mid
      by_files None e = absurd (clash (sym (fitted.files ∙ ap (option_map (after (fit_steps old n))) e) ∙ now))
        where
          clash : None ≡ Some mid → ⊥
          clash h = cc
      by_files (Some from) e = let found = mid_of from e in (from, e, subst (IsMid from) (some_inj (sym found.1.now ∙ now)) found.1)

  pub ready_after : ForSome a.files (λ image. CanBeMarked image place) → ForSome b.files (λ mid. CanChangeMarks mid n place.start place.count true)
  ready_after takeable mid now = let was = from_of mid now in ready_kept was.0 mid n place.start place.count true was.2.same was.2.longer (takeable was.0 was.1).ready

  -- what is counted of the blocks, whatever the counters were
  pub counted_after : (start count : ℕ) (c : Told) → ForSome b.files (λ mid. ForSome c.files (IsChanged mid n start count true)) → ForSome a.files (λ from. ForSome c.files (CountsUsed n start from))
  counted_after start count c changed from there image now =
      let found = mid_of from there in
      let is = changed found.0 found.1.now image now in
      let bytes : byte found.0 (Block n) ≡ byte from (Block n) = (λ j i. found.1.same.bytes (Block n) i refl j) in
      record {
        allocations = subst (λ (f : ℕ → ℕ). IsCounted true (allocations_of f) (allocations_of (byte image (Block n)))) bytes is.allocations;
        counts = λ i small. subst (λ (f : ℕ → ℕ). empty_of (byte image (Block n)) i + counted (longest_run (is_block_marked_at f) (start / 4)) i ≡ empty_of f i + counted (longest_run (is_block_marked image n) (start / 4)) i) bytes (is.counts i small);
      }

  -- a word of the map is as it was read
  pub word_after : (number w : ℕ) → ForSome a.files (λ from. IsMapWord from n number w) → ForSome b.files (λ mid. IsMapWord mid n number w)
  word_after number w read mid now =
      let was = from_of mid now in
      let bytes : byte was.0 (Block n) ≡ byte mid (Block n) = (λ j i. sym (was.2.same.bytes (Block n) i refl) j) in
      subst (λ (f : ℕ → ℕ). word_bytes w ≡ range_at f (80 + 4 * number) 4) bytes (read was.0 was.1)

  -- no hint changes
  pub hints_after : (start count : ℕ) (c : Told) → ForSome b.files (λ mid. ForSome c.files (IsChanged mid n start count true)) → ForSome a.files (λ from. ForSome c.files (KeepsHints from))
  hints_after start count c changed from there image now m i small =
      let found = mid_of from there in
      map_keeps n found.0 image (changed found.0 found.1.now image now).same m i small ∙ size_keeps n from found.0 found.1.same m i small

  module _ (k : Kind) (block_kind : kind_number k ≢ external) (some : 0 < place.count) (node : kind_number k ≡ rankings → place.count ≡ 1) (is : IsPlace old (kind_number k) place.count place) (takeable : ForSome a.files (λ image. CanBeMarked image place)) where
    abbrev w : ℕ
    w = block_word (kind_number k) n place.start place.count

    address : is_address w ≡ true
    address = is_address-block_word (kind_number k) n place.start place.count (place_fields old k place some is) (kind_blocky k block_kind) is.group node

    kind_is : kind_of w ≡ kind_number k
    kind_is = place_kind old k place some is

    blocks : IsBlocks w
    blocks = record { some = address_above_0 w address; block_kind = λ e. block_kind (sym kind_is ∙ e) }

    file_is : file_selector w ≡ n
    file_is = place_file old k place some is

    start_is : first_block w ≡ place.start
    start_is = place_start old k place some is

    count_is : block_count w ≡ place.count
    count_is = place_count old k place some is

    -- a fact on the blocks of the word, from one on the place
    at_word : (P : ℕ → ℕ → ℕ → Type 0) → P n place.start place.count → P (file_selector w) (first_block w) (block_count w)
    at_word P holds = subst (λ (x : ℕ). P x (first_block w) (block_count w)) (sym file_is) (subst (λ (y : ℕ). P n y (block_count w)) (sym start_is) (subst (λ (z : ℕ). P n place.start z) (sym count_is) holds))

    pub taken_after : (from : Image) → a.files ≡ Some from → (image : Image) → ((mid : Image) → b.files ≡ Some mid → IsChanged mid n place.start place.count true image) → MarksUsed old from w image
    taken_after from there image changed =
        let found = mid_of from there in
        let ready = (takeable from there).ready in
        taken_is old new from found.0 k w block_kind kind_is address blocks (agrees from there) (agrees_new found.0 found.1.now)
        (at_word (λ f s m. is_among (files_of old (kind_number k)) f ≡ true) is.linked) (at_word (λ f s m. s + m ≤ max_entries_in from f) ready.below) (at_word (λ f s m. max_entries_in from f ≤ most_blocks) ready.most) (at_word (λ f s m. max_entries_in from f % 4 ≡ 0) ready.whole)
        (at_word (λ f s m. Resizes old new f (max (length_in old f) (whole_length old f))) kept) (at_word (λ f s m. SameOutside (size_of (Block f)) from found.0) found.1.same) (place_stands old new k block_kind place some is kept)
        image (at_word (λ f s m. IsChanged found.0 f s m true image) (changed found.0 found.1.now)) (at_word (λ f s m. are_free (is_block_marked from f) s m ≡ true) (takeable from there).free) (at_word (λ f s m. EmptyAgrees from f) ready.empty)

    pub stops_after : (c : Told) → ForSome b.files (λ mid. PassesTo b c (IsMapInProgress n mid) (λ image. IsMapInProgress n mid image ⊎ IsChanged mid n place.start place.count true image))
        → ForSome a.files (λ from. PassesTo a c (MarksUsedInProgress n from) (λ image. MarksUsedInProgress n from image ⊎ (MarksUsed old from w image × KeepsHints from image)))
    stops_after c stops from there =
        let found = mid_of from there in
        let mid = found.0 in
        let first : PassesTo a b (MarksUsedInProgress n from) (MarksUsedInProgress n from) = fit_passes old n from (agrees from there) all (MarksUsedInProgress n from) there fitted (λ i same longer. taking_fit n from i same longer) in
        let keeps : (i : Image) → IsMapInProgress n mid i → MarksUsedInProgress n from i = λ i midst. taking_midst n from mid i found.1.same found.1.longer midst in
        let second : PassesTo b c (MarksUsedInProgress n from) (λ image. MarksUsedInProgress n from image ⊎ (MarksUsed old from w image × KeepsHints from image)) =
        passes_weaker (stops mid found.1.now) keeps
        (λ i. ⊎_elim (λ midst. inl (keeps i midst)) (λ changed. inr (taken_after from there i (λ m now. subst (λ (x : Image). IsChanged x n place.start place.count true i) (some_inj (sym found.1.now ∙ now)) changed), λ m j small. map_keeps n mid i changed.same m j small ∙ size_keeps n from mid found.1.same m j small))) in
        passes_then first second
