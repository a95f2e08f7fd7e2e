-- The words of an update of a record under a checksum 0 are written, in part or whole.
use Rattle.std.proofs.Common.{◌≡◌, ℕ, ◌+◌, ◌*◌, ◌%◌, ◌≤◌, true, List, [], ◌∷◌, ◌++◌, All, refl, sym, ◌∙◌, ap, ap₂, subst, arith, add-zero, None, Some, ⊎_elim}
use Rattle.std.specs.Option.{ForSome}
use Rattle.std.proofs.lemmas.List.Elements.{All-cons, All-push, All-map}
use Rattle.spec_image.specs.Image.{Block, Image, HasRange, length_of}
use Rattle.spec_image.specs.Steps.{after, word_steps, with_words}
use Rattle.spec_image.specs.Footprint.{SameOutside, range}
use Rattle.spec_image.specs.Told.{Told, Applies, AppliesPrefix, Passes, Along, Until, IsQuiet}
use Rattle.spec_image.proofs.Footprints.{outside-refl}
use Rattle.spec_image.proofs.Runs.{passes_end, passes_part, passes_stayed, some_inj, told_part, told_whole, until_weaker2}
use Rattle.spec_image.proofs.WordSteps.{quiet-word_steps}
use Rattle.spec_format.specs.Address.{kind_of, file_selector, place, block_place, block_size, first_block}
use Rattle.spec_format.specs.Records.{seal_of}
use Rattle.blk_io.specs.declared.folder.FileId.{FileId}
use Rattle.blk_io.specs.declared.folder.FileId.TheVariants as names
use Rattle.blk_io.specs.FileNames.{file_of}
use Rattle.blk_io.proofs.Carried.{told_at_end}
use Rattle.blk_disk.specs.declared.tables.BlockFiles.{BlockFiles}
use Rattle.blk_disk.specs.Tables.{Agrees, stands_among}
use Rattle.spec_format.specs.Sealed.{AreChanges, BeginsWithRecord, seal_by_kind, record_size, seal_place, record_at, record_range, RecordChecks, placed, update_words, update_steps, new_seal, sealed_steps, steps_over, IsMidUpdate, IsUpdated}
use Rattle.blk_disk.proofs.Agreeing.{agrees_still}
use Rattle.spec_format.proofs.SpareHeaders.{SparesHeaders, blocks_spare}
use Rattle.blk_disk.proofs.Ranges.{stands_range}
use Rattle.spec_format.proofs.SealedRecords.{record_inside}
use Rattle.spec_format.proofs.SealedRecords.{seal_aligned, seal_last, moments, updated, words_stay}

pub place_aligned : (w : ℕ) → BeginsWithRecord w → place w % 4 ≡ 0
unfolding place block_place block_size
place_aligned w begins =
    ⊎_elim
    (λ (node : kind_of w ≡ 1). rw node (let h : (8192 + first_block w * 36) % 4 ≡ 0 = omega arith in h))
    (λ (entry : kind_of w ≡ 2). rw entry (let h : (8192 + first_block w * 256) % 4 ≡ 0 = omega arith in h))
    begins

-- each change is a word before the checksum
changes_before : (w : ℕ) (changes : List (ℕ × ℕ)) → AreChanges (seal_place w) changes → All (λ c. c.0 + 4 ≤ seal_place w) changes
changes_before w changes are k d within = omega (arith, are.aligned k d within, are.before k d within, seal_aligned (kind_of w))

-- what holds of the checksum and of each change
update_all : (P : ℕ × ℕ → Type 0) (s seal : ℕ) (changes : List (ℕ × ℕ)) → ((v : ℕ) → P (s, v)) → All P changes → All P (update_words s changes seal)
update_all P s seal changes at_seal at_changes = All-cons P (s, 0) (changes ++ (s, seal) ∷ []) (at_seal 0) (All-push P changes (s, seal) at_changes (at_seal seal))

pub words_aligned : (w seal : ℕ) (changes words : List (ℕ × ℕ)) → BeginsWithRecord w → AreChanges (seal_place w) changes → words ≡ placed (place w) (update_words (seal_place w) changes seal) → All (λ word. word.0 % 4 ≡ 0) words
words_aligned w seal changes words begins are is =
    let at = place_aligned w begins in
    subst (All (λ (word : ℕ × ℕ). word.0 % 4 ≡ 0)) (sym is)
    (All-map (λ (word : ℕ × ℕ). word.0 % 4 ≡ 0) (λ (word : ℕ × ℕ). (place w + word.0, word.1)) (update_words (seal_place w) changes seal)
    (update_all (λ word. (place w + word.0) % 4 ≡ 0) (seal_place w) seal changes (λ v. omega (arith, at, seal_aligned (kind_of w))) (λ k d within. omega (arith, at, are.aligned k d within))))

pub spares : (w : ℕ) → SparesHeaders (record_range w)
spares w = subst (λ (n : ℕ). SparesHeaders (range (Block (file_selector w)) n (record_size w))) (add-zero (place w)) (blocks_spare (Block (file_selector w)) w 0 (record_size w))

-- the plan, as it is written
pub plan_is : (w seal : ℕ) (changes words : List (ℕ × ℕ)) (name : FileId) → name ≡ names.Block (file_selector w) → words ≡ placed (place w) (update_words (seal_place w) changes seal) → word_steps (file_of name) words ≡ update_steps w changes seal
unfolding update_steps
plan_is w seal changes words name named is = ap₂ (λ (name : FileId) (words : List (ℕ × ℕ)). word_steps (file_of name) words) named is

-- the record lies in its file
pub record_fits : (files : BlockFiles) (w : ℕ) → stands_among files w ≡ true → BeginsWithRecord w → (image : Image) → Agrees files image → place w + record_size w ≤ length_of image (Block (file_selector w))
record_fits files w stands begins image agrees =
    let inside = stands_range files image w 0 (record_size w) agrees stands (omega (arith, record_inside w begins)) in
    omega (arith, inside)

module _ (files : BlockFiles) (w : ℕ) (changes : List (ℕ × ℕ)) (stands : stands_among files w ≡ true) (begins : BeginsWithRecord w) (are : AreChanges (seal_place w) changes) where
  fits : (image : Image) → Agrees files image → place w + record_size w ≤ length_of image (Block (file_selector w))
  fits image agrees = record_fits files w stands begins image agrees

  pub words_inside : (image : Image) (seal : ℕ) (name : FileId) (words : List (ℕ × ℕ)) → Agrees files image → name ≡ names.Block (file_selector w) → words ≡ placed (place w) (update_words (seal_place w) changes seal)
      → All (λ word. HasRange image (file_of name) word.0 4) words
  words_inside image seal name words agrees named is =
      let room = fits image agrees in
      let size = seal_last (kind_of w) in
      let before = changes_before w changes are in
      subst (λ (name : FileId). All (λ (word : ℕ × ℕ). HasRange image (file_of name) word.0 4) words) (sym named)
      (subst (All (λ (word : ℕ × ℕ). HasRange image (Block (file_selector w)) word.0 4)) (sym is)
      (All-map (λ (word : ℕ × ℕ). HasRange image (Block (file_selector w)) word.0 4) (λ (word : ℕ × ℕ). (place w + word.0, word.1)) (update_words (seal_place w) changes seal)
      (update_all (λ word. HasRange image (Block (file_selector w)) (place w + word.0) 4) (seal_place w) seal changes (λ v. omega (arith, room, size)) (λ k d within. omega (arith, room, size, before k d within)))))

  quiet : (seal : ℕ) → IsQuiet (update_steps w changes seal)
  unfolding update_steps
  quiet seal = quiet-word_steps (Block (file_selector w)) (placed (place w) (update_words (seal_place w) changes seal)) tt

  module _ (a b : Told) (seal : ℕ) (agrees : ForSome a.files (Agrees files)) where
    -- before and after each write, from an image whose record gets this checksum
    along : (from : Image) → a.files ≡ Some from → RecordChecks w from → seal ≡ new_seal from w changes → Along (IsMidUpdate from w changes) from (update_steps w changes seal)
    along from there good is = subst (λ (v : ℕ). Along (IsMidUpdate from w changes) from (update_steps w changes v)) (sym is) (moments w from changes (fits from (agrees from there)) good (changes_before w changes are))

    -- the update is under way before and after each write
    pub stops_from : AppliesPrefix a b (update_steps w changes seal) → (from : Image) → a.files ≡ Some from → RecordChecks w from → seal ≡ new_seal from w changes → Passes a b (IsMidUpdate from w changes)
    stops_from part from there good is =
        let moment = IsMidUpdate from w changes in
        passes_part moment moment part (quiet seal) (λ image m. m) (λ image here. subst (λ (i : Image). Until moment moment i (update_steps w changes seal)) (some_inj (sym there ∙ here)) (along from there good is))

    pub updated_from : Applies a b (update_steps w changes seal) → (from : Image) → a.files ≡ Some from → seal ≡ new_seal from w changes → ForSome b.files (IsUpdated from w changes)
    updated_from applies from there is =
        told_whole (IsUpdated from w changes) applies
        (λ image here. subst (λ (i : Image). IsUpdated from w changes (after (update_steps w changes seal) i)) (some_inj (sym there ∙ here))
        (subst (λ (v : ℕ). IsUpdated from w changes (after (update_steps w changes v) from)) (sym is) (updated w from changes (fits from (agrees from there)))))

    -- the words lie in the record, so the headers stay
    pub agrees_after : AppliesPrefix a b (update_steps w changes seal) → ForSome b.files (Agrees files)
    unfolding update_steps
    agrees_after part =
        told_part (Agrees files) part
        (λ from there.
        let same = SameOutside (record_range w) from in
        let words = update_words (seal_place w) changes seal in
        until_weaker2 same (Agrees files) same (Agrees files) (update_steps w changes seal) from
        (λ image kept. agrees_still (record_range w) from image (spares w) kept files (λ n. refl) (agrees from there))
        (λ image kept. agrees_still (record_range w) from image (spares w) kept files (λ n. refl) (agrees from there))
        (words_stay w words from from (update_all (λ c. c.0 ≤ seal_place w) (seal_place w) seal changes (λ v. omega arith) (λ k d within. omega (arith, changes_before w changes are k d within))) (outside-refl (record_range w) from)))

-- the checksum that was found for some bytes
pub seal_is : (w kind seal : ℕ) (bytes : List ℕ) (changes : List (ℕ × ℕ)) → kind ≡ kind_of w → seal ≡ seal_of (seal_by_kind kind) (with_words changes bytes) → seal ≡ seal_of (seal_place w) (with_words changes bytes)
seal_is w kind seal bytes changes is_kind is = is ∙ ap (λ (k : ℕ). seal_of (seal_by_kind k) (with_words changes bytes)) is_kind

-- the checksum that was found for a record's bytes is the one of the image that has them
pub seal_from : (image : Image) (w seal : ℕ) (bytes : List ℕ) (changes : List (ℕ × ℕ)) → bytes ≡ record_at image w → seal ≡ seal_of (seal_place w) (with_words changes bytes) → seal ≡ new_seal image w changes
unfolding new_seal
seal_from image w seal bytes changes read is = is ∙ ap (λ (b : List ℕ). seal_of (seal_place w) (with_words changes b)) read

-- an update of a record that was read just before
module _ (w : ℕ) (changes : List (ℕ × ℕ)) (bytes : List ℕ) (a m b : Told) (stays : m ≡ a) (read : ForSome a.files (λ image. bytes ≡ record_at image w)) where
  still : (from : Image) → a.files ≡ Some from → m.files ≡ Some from
  still from there = ap (λ (t : Told). t.files) stays ∙ there

  steps_are : (from : Image) → a.files ≡ Some from → steps_over bytes w changes ≡ sealed_steps from w changes
  unfolding new_seal
  steps_are from there = ap (λ (bytes : List ℕ). steps_over bytes w changes) (read from there)

  pub steps_read : Applies m b (steps_over bytes w changes) → ForSome a.files (λ from. Applies a b (sealed_steps from w changes))
  steps_read applies from there = subst (λ (t : Told). Applies t b (sealed_steps from w changes)) stays (subst (Applies m b) (steps_are from there) applies)

  pub prefix_read : AppliesPrefix m b (steps_over bytes w changes) → ForSome a.files (λ from. AppliesPrefix a b (sealed_steps from w changes))
  prefix_read front from there = subst (λ (t : Told). AppliesPrefix t b (sealed_steps from w changes)) stays (subst (AppliesPrefix m b) (steps_are from there) front)

  pub stops_read : ForSome m.files (λ from. bytes ≡ record_at from w → RecordChecks w from → Passes m b (IsMidUpdate from w changes)) → ForSome a.files (λ from. RecordChecks w from → Passes a b (IsMidUpdate from w changes))
  stops_read stops from there good = passes_stayed stays (stops from (still from there) (read from there) good)

  pub updated_read : ForSome m.files (λ from. bytes ≡ record_at from w → ForSome b.files (IsUpdated from w changes)) → ForSome a.files (λ from. ForSome b.files (IsUpdated from w changes))
  updated_read updated from there = updated from (still from there) (read from there)

-- where a record's checksum matches or is absent after each write, it is so in the end
pub checks_after : (w : ℕ) (changes : List (ℕ × ℕ)) (a b : Told) → (a.files ≡ None → b.files ≡ None) → ForSome a.files (λ from. RecordChecks w from → Passes a b (IsMidUpdate from w changes)) → ForSome a.files (RecordChecks w) → ForSome b.files (RecordChecks w)
checks_after w changes a b silent stops good =
    told_at_end a.files b.files (RecordChecks w) silent (λ from there image here. (passes_end (stops from there (good from there)) image here).checks)
