-- A stream is made empty, and its place is freed.
use Rattle.std.proofs.Common.{◌≡◌, ◌≢◌, inl, ⊎_elim, ℕ, Bool, true, false, if◌then◌else◌, List, refl, sym, ◌∙◌, ap, subst, arith}
use Rattle.std.specs.Prelude.{◌==◌, nat_eq}
use Rattle.std.proofs.lemmas.Bool.{cases_Bool, cases_eq, eqb-true}
use Rattle.std.proofs.lemmas.Bool.Decides.{nat_tests}
use Rattle.spec_image.specs.Image.{External, Image, has_file, word}
use Rattle.spec_image.specs.Footprint.{Footprint, SameOutside, either, whole}
use Rattle.spec_image.proofs.Footprints.{outside-refl}
use Rattle.spec_format.specs.Address.{kind_of, external, external_number, file_selector}
use Rattle.spec_format.specs.Claims.{is_in_file}
use Rattle.spec_format.specs.Maps.{AreAllocations, is_block_marked}
use Rattle.spec_format.specs.Sealed.{RecordChecks}
use Rattle.spec_format.proofs.Finished.{headers-kept}
use Rattle.blk_alloc.specs.Changes.{map_of}
use Rattle.blk_stream.specs.Streams.{address_word, size_word}
use Rattle.blk_stream.specs.Changing.{stream_words}
use Rattle.blk_stream.specs.Freeing.{freeing_of, is_block_of, leaving_of, left_by}
use Rattle.blk_stream.specs.Moving.{LeavesPlace, LeavesPlaceInProgress}
use Rattle.blk_stream.specs.Dropping.{DropsStream, DropsStreamInProgress}
use Rattle.blk_stream.proofs.PlacesFreed.{blocky_of, freeing_blocks, freeing_external, leaving_some}

-- no file comes to be
absent_changed : (entry i old size word : ℕ) (from image : Image) → LeavesPlace entry i old size word from image → (number : ℕ) → has_file from (External number) ≡ false → has_file image (External number) ≡ false
absent_changed entry i old size word from image changed number none =
    ⊎_elim
    (λ (t : (kind_of old == external) ≡ true).
    let kind : kind_of old ≡ external = eqb-true (kind_of old) external t in
    let only : SameOutside (either (stream_words entry i) (whole (External (external_number old)))) from image = subst (λ (F : Footprint). SameOutside (either (stream_words entry i) F) from image) (freeing_external old kind) changed.same in
    ⊎_elim
    (λ (same : external_number old ≡ number). subst (λ (n : ℕ). has_file image (External n) ≡ false) same (changed.gone kind))
    (λ (differs : external_number old ≢ number). only.files (External number) (let e : nat_eq (external_number old) number ≡ false = grind (arith, nat_tests) in e) ∙ none)
    (cases_eq (external_number old) number))
    (λ (t : (kind_of old == external) ≡ false).
    let maps : SameOutside (either (stream_words entry i) (map_of (file_selector old))) from image = subst (λ (F : Footprint). SameOutside (either (stream_words entry i) F) from image) (freeing_blocks old (blocky_of old t)) changed.same in
    maps.files (External number) refl ∙ none)
    (cases_Bool (kind_of old == external))

-- A stream that is dropped.

pub no_block : (n b : ℕ) → is_block_of 0 n b ≡ false
unfolding is_block_of kind_of
no_block n b = refl

pub none_left : (n : ℕ) (words : List ℕ) → left_by 0 n words ≡ words
unfolding left_by is_in_file kind_of
none_left n words = refl

module _ (entry i : ℕ) (from : Image) where
  abbrev W : ℕ
  W = address_word from entry i

  abbrev E : Footprint
  E = either (stream_words entry i) (leaving_of W)

  -- there was nothing to be dropped
  pub none_dropped : RecordChecks entry from → size_word from entry i ≡ 0 → W ≡ 0 → DropsStream entry i from from
  none_dropped good size none = record {
    same = outside-refl E from;
    checks = good;
    headers = headers-kept from;
    none = record { size_is = size; word_is = none };
    marks = λ n b small. sym (ap (λ (t : Bool). if t then false else is_block_marked from n b) (ap (λ (w : ℕ). is_block_of w n b) none ∙ no_block n b));
    allocations = λ n words are among. subst (AreAllocations from n) (sym (ap (λ (w : ℕ). left_by w n words) none ∙ none_left n words)) are;
    blocks = λ n. refl;
    empty = λ n few was. was;
    gone = λ kind some. absurd (some none);
    absent = λ number none. none;
  }

  pub stays_dropping : RecordChecks entry from → DropsStreamInProgress entry i from from
  stays_dropping good = record { same = outside-refl E from; checks = good; headers = headers-kept from; order = inl (outside-refl (stream_words entry i) from) }

  module _ (old : ℕ) (is : old ≡ W) (some : W ≢ 0) (image : Image) where
    leaves : freeing_of old ≡ leaving_of W
    leaves = ap freeing_of is ∙ sym (leaving_some W some)

    pub changing_drops : LeavesPlaceInProgress entry i old 0 0 from image → DropsStreamInProgress entry i from image
    changing_drops h = record { same = subst (λ (F : Footprint). SameOutside (either (stream_words entry i) F) from image) leaves h.same; checks = h.checks; headers = h.headers; order = h.order }

    pub changed_drops : LeavesPlace entry i old 0 0 from image → DropsStream entry i from image
    changed_drops h =
        let here : LeavesPlace entry i W 0 0 from image = subst (λ (w : ℕ). LeavesPlace entry i w 0 0 from image) is h in
        record {
          same = subst (λ (F : Footprint). SameOutside (either (stream_words entry i) F) from image) leaves h.same;
          checks = h.checks;
          headers = h.headers;
          none = h.named;
          marks = here.marks;
          allocations = here.allocations;
          blocks = h.blocks;
          empty = h.empty;
          gone = λ kind other. here.gone kind;
          absent = absent_changed entry i old 0 0 from image h;
        }
