-- A record names another place for a stream, and the old one is freed.
use Rattle.std.proofs.Common.{◌≡◌, ◌≢◌, inl, inr, ⊎_elim, ℕ, ◌+◌, ◌<◌, ◌≤◌, Bool, true, false, if◌then◌else◌, List, Option, None, Some, Result, Ok, Err, refl, sym, ◌∙◌, ap, subst, arith}
use Rattle.std.specs.Prelude.{◌==◌}
use Rattle.std.specs.Option.{option_map, ForSome}
use Rattle.std.proofs.lemmas.Bool.{cases_Bool, cases_eq, eqb-true}
use Rattle.spec_image.specs.Bytes.{content, word_at}
use Rattle.spec_image.specs.Image.{Index, Block, External, Image, byte, word}
use Rattle.spec_image.specs.Steps.{after}
use Rattle.spec_image.specs.Footprint.{Footprint, SameOutside, either, whole}
use Rattle.spec_image.specs.Told.{Told, Passes}
use Rattle.spec_image.proofs.Footprints.{outside-trans, outside_wider, same_word_outside, within_left, within_right}
use Rattle.spec_image.proofs.Words.{same-range}
use Rattle.spec_format.specs.Address.{kind_of, external, external_number, file_selector, place, blocks_256}
use Rattle.spec_format.specs.BlockFiles.{max_entries_in, KeepsHeaders}
use Rattle.spec_format.specs.Sealed.{RecordChecks, record_at, record_size}
use Rattle.spec_format.proofs.Keeping.{undamaged_still}
use Rattle.spec_format.proofs.SealedFields.{record_word as word_of_record}
use Rattle.spec_format.proofs.SealedRecords.{entry_bytes}
use Rattle.spec_format.proofs.SpareHeaders.{SparesHeaders, blocks_same, heads_still, next_same, past_header}
use Rattle.spec_format.proofs.Finished.{headers-next}
use Rattle.blk_io.specs.declared.fault.Damage.{Damage}
use Rattle.blk_io.specs.declared.fault.Fault.{Fault}
use Rattle.blk_io.specs.declared.fault.Fault.TheVariants.{Device, Damaged}
use Rattle.blk_io.specs.Faults.{IfDamaged}
use Rattle.blk_disk.specs.declared.tables.BlockFiles.{BlockFiles}
use Rattle.blk_disk.specs.Tables.{Agrees, stands_among}
use Rattle.blk_disk.proofs.Enlarging.{kept_headers}
use Rattle.blk_alloc.specs.Changes.{map_of}
use Rattle.blk_alloc.proofs.Spared.{allocations_kept, empty_kept, freed_still, marks_kept}
use Rattle.blk_alloc.proofs.Sparing.{blocks_spared, headers_stay, map_spares}
use Rattle.blk_stream.specs.Streams.{address_place, address_word, size_place, size_word}
use Rattle.blk_stream.specs.Changing.{HasWords, NamesInProgress, stream_words}
use Rattle.blk_stream.specs.Freeing.{IsPlaceFreed, MayBeFreed, freeing_of, is_block_of, leaving_of}
use Rattle.blk_stream.specs.Moving.{LeavesPlace, LeavesPlaceInProgress}
use Rattle.blk_stream.proofs.Naming.{words_spare}
use Rattle.blk_stream.proofs.PlacesFreed.{blocky_of, freeing_blocks, freeing_external, leaving_none, leaving_some}
use Rattle.blk_stream.proofs.StreamPlaces.{address_at, size_at}

-- The words of a record that was read.

pub read_size : (image : Image) (entry i : ℕ) (bytes : List ℕ) → kind_of entry ≡ blocks_256 → i < 3 → bytes ≡ record_at image entry → word_at (content bytes) (size_place i) ≡ size_word image entry i
read_size image entry i bytes kind small read =
    let n : record_size entry ≡ 96 = entry_bytes entry kind in
    ap (λ (l : List ℕ). word_at (content l) (size_place i)) read ∙ word_of_record image entry (size_place i) (omega (arith, n, small)) ∙ sym (size_at image entry i small)

pub read_word : (image : Image) (entry i : ℕ) (bytes : List ℕ) → kind_of entry ≡ blocks_256 → i < 3 → bytes ≡ record_at image entry → word_at (content bytes) (address_place i) ≡ address_word image entry i
read_word image entry i bytes kind small read =
    let n : record_size entry ≡ 96 = entry_bytes entry kind in
    ap (λ (l : List ℕ). word_at (content l) (address_place i)) read ∙ word_of_record image entry (address_place i) (omega (arith, n, small)) ∙ sym (address_at image entry i small)

-- What freeing leaves.

pub freeing_off : (w m i : ℕ) → 8192 ≤ i → (freeing_of w).bytes (Block m) i ≡ false
freeing_off w m i low =
    ⊎_elim
    (λ (t : (kind_of w == external) ≡ true). subst (λ (F : Footprint). F.bytes (Block m) i ≡ false) (sym (freeing_external w (eqb-true (kind_of w) external t))) refl)
    (λ (t : (kind_of w == external) ≡ false). subst (λ (F : Footprint). F.bytes (Block m) i ≡ false) (sym (freeing_blocks w (blocky_of w t))) ((map_spares (file_selector w)).blocks m i low))
    (cases_Bool (kind_of w == external))

pub leaving_off : (w m i : ℕ) → 8192 ≤ i → (leaving_of w).bytes (Block m) i ≡ false
leaving_off w m i low =
    ⊎_elim
    (λ (none : w ≡ 0). subst (λ (F : Footprint). F.bytes (Block m) i ≡ false) (sym (ap leaving_of none ∙ leaving_none)) refl)
    (λ (some : w ≢ 0). subst (λ (F : Footprint). F.bytes (Block m) i ≡ false) (sym (leaving_some w some)) (freeing_off w m i low))
    (cases_eq w 0)

module _ (w : ℕ) (mid image : Image) (same : SameOutside (freeing_of w) mid image) where
  pub record_freed : (entry : ℕ) → record_at image entry ≡ record_at mid entry
  unfolding record_at
  record_freed entry =
      same-range (record_size entry) (place entry) (byte image (Block (file_selector entry))) (byte mid (Block (file_selector entry)))
      (λ k low high. same.bytes (Block (file_selector entry)) k (freeing_off w (file_selector entry) k (let p = past_header entry in omega (arith, low, p))))

  pub words_freed : (entry i : ℕ) → i < 3 → (size_word image entry i ≡ size_word mid entry i) × (address_word image entry i ≡ address_word mid entry i)
  words_freed entry i small = (
    size_at image entry i small ∙ word_same (size_place i) ∙ sym (size_at mid entry i small),
    address_at image entry i small ∙ word_same (address_place i) ∙ sym (address_at mid entry i small),
  )
    where
      word_same : (at : ℕ) → word image (Block (file_selector entry)) (place entry + at) ≡ word mid (Block (file_selector entry)) (place entry + at)
      word_same at = same_word_outside (freeing_of w) mid image (Block (file_selector entry)) (place entry + at) same (λ k low high. freeing_off w (file_selector entry) k (let p = past_header entry in omega (arith, low, p)))

  pub blocks_freed : (n : ℕ) → max_entries_in image n ≡ max_entries_in mid n
  blocks_freed n =
      ⊎_elim
      (λ (t : (kind_of w == external) ≡ true). blocks_same (whole (External (external_number w))) mid image (record { bytes = λ m i small. refl }) (subst (λ (F : Footprint). SameOutside F mid image) (freeing_external w (eqb-true (kind_of w) external t)) same) n)
      (λ (t : (kind_of w == external) ≡ false).
      let maps : SameOutside (map_of (file_selector w)) mid image = subst (λ (F : Footprint). SameOutside F mid image) (freeing_blocks w (blocky_of w t)) same in
      blocks_spared (map_of (file_selector w)) mid image (map_spares (file_selector w)) maps (λ m. let e = maps.lengths (Block m) refl in omega (arith, e)) n)
      (cases_Bool (kind_of w == external))

-- the headers are kept

pub headers_behind : (F : Footprint) (from image : Image) → SparesHeaders F → ((i : ℕ) → F.bytes Index i ≡ false) → F.sizes Index ≡ false → ((n : ℕ) → F.sizes (Block n) ≡ false) → SameOutside F from image → KeepsHeaders from image
headers_behind F from image spares index size sizes same =
    kept_headers from image (λ i. same.bytes Index i (index i)) (same.lengths Index size)
    (undamaged_still from image (next_same F from image spares same) (heads_still F from image spares same (λ m. let e = same.lengths (Block m) (sizes m) in omega (arith, e))))

pub headers_named : (entry i : ℕ) (from mid : Image) → SameOutside (stream_words entry i) from mid → KeepsHeaders from mid
headers_named entry i from mid same = headers_behind (stream_words entry i) from mid (record { bytes = (words_spare entry i).headers }) (λ k. refl) refl (λ n. refl) same

pub headers_freed : (w : ℕ) (mid image : Image) → SameOutside (freeing_of w) mid image → KeepsHeaders mid image
headers_freed w mid image same =
    ⊎_elim
    (λ (t : (kind_of w == external) ≡ true).
    headers_behind (whole (External (external_number w))) mid image (record { bytes = λ m i small. refl }) (λ k. refl) refl (λ n. refl) (subst (λ (F : Footprint). SameOutside F mid image) (freeing_external w (eqb-true (kind_of w) external t)) same))
    (λ (t : (kind_of w == external) ≡ false).
    let maps : SameOutside (map_of (file_selector w)) mid image = subst (λ (F : Footprint). SameOutside F mid image) (freeing_blocks w (blocky_of w t)) same in
    headers_stay (map_of (file_selector w)) mid image (map_spares (file_selector w)) maps (λ m. let e = maps.lengths (Block m) refl in omega (arith, e)))
    (cases_Bool (kind_of w == external))

-- Another place for a stream.

module _ (entry i old size word : ℕ) (from : Image) where
  abbrev E : Footprint
  E = either (stream_words entry i) (freeing_of old)

  pub naming_changes : (image : Image) → NamesInProgress entry i from image → LeavesPlaceInProgress entry i old size word from image
  naming_changes image named = record { same = outside_wider (stream_words entry i) E from image (within_left (stream_words entry i) (freeing_of old)) named.same; checks = named.checks; headers = headers_named entry i from image named.same; order = inl named.same }

  module _ (mid : Image) (small : i < 3) (named : NamesInProgress entry i from mid) (words : HasWords entry i size word mid) where
    both : (image : Image) → SameOutside (freeing_of old) mid image → SameOutside E from image
    both image freed = outside-trans E from mid image (naming_changes mid named).same (outside_wider (freeing_of old) E mid image (within_right (stream_words entry i) (freeing_of old)) freed)

    still_words : (image : Image) → SameOutside (freeing_of old) mid image → HasWords entry i size word image
    still_words image freed = let same = words_freed old mid image freed entry i small in record { size_is = same.0 ∙ words.size_is; word_is = same.1 ∙ words.word_is }

    still_checks : (image : Image) → SameOutside (freeing_of old) mid image → RecordChecks entry image
    still_checks image freed = let e = record_freed old mid image freed entry in rw e named.checks

    pub freeing_changes : (image : Image) → SameOutside (freeing_of old) mid image → LeavesPlaceInProgress entry i old size word from image
    freeing_changes image freed = record { same = both image freed; checks = still_checks image freed; headers = headers-next from mid image (headers_named entry i from mid named.same) (headers_freed old mid image freed); order = inr (still_words image freed) }

    pub freed_changes : (image : Image) → IsPlaceFreed old mid image → LeavesPlace entry i old size word from image
    freed_changes image freed =
        let F = stream_words entry i in
        let spares = words_spare entry i in
        let headers : SparesHeaders F = record { bytes = spares.headers } in
        record {
          same = both image freed.same;
          checks = still_checks image freed.same;
          headers = headers-next from mid image (headers_named entry i from mid named.same) (headers_freed old mid image freed.same);
          named = still_words image freed.same;
          marks = λ n b low. freed.marks n b low ∙ ap (λ (t : Bool). if is_block_of old n b then false else t) (marks_kept F from mid spares named.same n b low);
          allocations = λ n list are among. freed.allocations n list (allocations_kept F from mid spares named.same n list are) among;
          blocks = λ n. blocks_freed old mid image freed.same n ∙ blocks_same F from mid headers named.same n;
          empty = λ n few was. freed.empty n (empty_kept F from mid spares named.same n few was);
          gone = λ kind. freed.gone kind;
        }

-- the old place may be freed as before
pub named_free : (entry i old : ℕ) (from : Image) (files : BlockFiles) (mid : Image) → Agrees files from → SameOutside (stream_words entry i) from mid → (kind_of old ≢ external → stands_among files old ≡ true) → MayBeFreed old from → MayBeFreed old mid
named_free entry i old from files mid agrees same there may blocky = freed_still (stream_words entry i) files old from mid (words_spare entry i) same agrees (there blocky) (may blocky)

-- Observable and opaque.

-- a folder that is opaque after some steps was opaque before them
pub told_back : (a b : Told) (P : Image → Image → Type 0) → ForSome a.files (λ from. Passes a b (P from)) → b.files ≡ None → a.files ≡ None
told_back a b P passes none = by_files a.files refl
  where
    by_files : (o : Option Image) → a.files ≡ o → a.files ≡ None
    by_files None e = e
    by_files (Some from) e = absurd (some_none (sym (ap (option_map (after (passes from e).steps)) e) ∙ sym (passes from e).applies.files ∙ none))
      where
        some_none : Some (after (passes from e).steps from) ≡ None → ⊥
        some_none h = cc

pub both_damaged : {A : Type 0} (r : Result A Fault) (P Q R : Damage → Type 0) → ((damage : Damage) → P damage → Q damage → R damage) → IfDamaged r P → IfDamaged r Q → IfDamaged r R
both_damaged (Ok a) P Q R join p q = tt
both_damaged (Err Device) P Q R join p q = tt
both_damaged (Err (Damaged d)) P Q R join p q = join d p q
