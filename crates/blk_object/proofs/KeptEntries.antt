-- A new entry that is written changes what its words name alone.
use Rattle.std.proofs.Common.{◌≡◌, ℕ, ◌+◌, ◌<◌, List, length, refl, ap, ◌∙◌, arith, Bool, true, false, None, Option, Some, ⊎_elim}
use Rattle.std.specs.Prelude.{◌&&◌, ◌==◌, nat_le, nat_lt}
use Rattle.std.proofs.lemmas.Bool.{cases_Bool}
use Rattle.std.proofs.lemmas.Bool.Decides.{nat_tests}
use Rattle.spec_image.specs.Footprint.{Footprint, either, range}
use Rattle.spec_image.specs.Image.{Block, External, File, Image, Index, same_file}
use Rattle.spec_image.proofs.Footprints.{same_word_outside}
use Rattle.spec_image.proofs.Runs.{passes_weaker}
use Rattle.spec_format.specs.Address.{byte_size, external, external_number, file_selector, kind_of, place}
use Rattle.spec_format.specs.Claims.{Claim, has_claim}
use Rattle.spec_format.specs.Sealed.{record_range, record_size}
use Rattle.spec_format.proofs.SpareHeaders.{past_header}
use Rattle.spec_folder.specs.Loads.{all_claims}
use Rattle.spec_folder.specs.Sound.{words_of}
use Rattle.law_folder.proofs.claims.Allocations.{words-claims}
use Rattle.law_folder.proofs.claims.ByteChanges.{covered-agrees}
use Rattle.blk_entry.specs.declared.writing.NewEntry.{NewEntry}
use Rattle.blk_entry.specs.Keys.{data_file, data_start}
use Rattle.blk_entry.specs.Writing.{WritesEntryInProgress, loaded_new, long_range, places_of}
use Rattle.blk_entry.proofs.NewClaims.{new-places-covered}
use Rattle.law_state.specs.Changes.{KeepsWith}
use Rattle.law_state.proofs.Free.{unlinked-change}
use Rattle.blk_object.specs.KeptEntries.{NewEntriesChangeTheirOwn, WritingEntriesKeepsStates}

before : (t : Bool) (p n i : ℕ) → i < p → (t && (nat_le p i && nat_lt i (p + n))) ≡ false
before true p n i below = grind (arith, nat_tests)
before false p n i below = refl

-- neither a header nor the index nor a length is touched
pub record SparesAll (footprint : Footprint) : Type 0 where
  pub headers : (m i : ℕ) → i < 8192 → footprint.bytes (Block m) i ≡ false
  pub index : (i : ℕ) → footprint.bytes Index i ≡ false
  pub sizes : (file : File) → footprint.sizes file ≡ false

both-spare : (one other : Footprint) → SparesAll one → SparesAll other → SparesAll (either one other)
both-spare one other a b = record {
  headers = λ m i small. let x = a.headers m i small in let y = b.headers m i small in rw (x, y) refl;
  index = λ i. let x = a.index i in let y = b.index i in rw (x, y) refl;
  sizes = λ file. let x = a.sizes file in let y = b.sizes file in rw (x, y) refl;
}

blocks-spare : (w n : ℕ) → SparesAll (range (Block (file_selector w)) (place w) n)
blocks-spare w n = record { headers = λ m i small. before (same_file (Block (file_selector w)) (Block m)) (place w) n i (let past = past_header w in omega (arith, past)); index = λ i. refl; sizes = λ file. refl }

external-spares : (k p n : ℕ) → SparesAll (range (External k) p n)
external-spares k p n = record { headers = λ m i small. refl; index = λ i. refl; sizes = λ file. refl }

data-spares : (w n : ℕ) → SparesAll (range (data_file w) (data_start w) n)
unfolding data_file data_start
data-spares w n = ⊎_elim
    (λ (e : (kind_of w == external) ≡ true). rw e (external-spares (external_number w) 0 n))
    (λ (e : (kind_of w == external) ≡ false). rw e (blocks-spare w n))
    (cases_Bool (kind_of w == external))

long-spares : (key : Option ℕ) (n : ℕ) → SparesAll (long_range key n)
long-spares None n = record { headers = λ m i small. refl; index = λ i. refl; sizes = λ file. refl }
long-spares (Some w) n = data-spares w (n + 1)

pub places-spare : (new : NewEntry) (n : ℕ) → SparesAll (places_of new n)
unfolding places_of
places-spare new n = both-spare (range (Block (file_selector new.entry)) (place new.entry) (byte_size new.entry)) (either (record_range new.node) (long_range new.long_key n)) (blocks-spare new.entry (byte_size new.entry))
    (both-spare (record_range new.node) (long_range new.long_key n) (blocks-spare new.node (record_size new.node)) (long-spares new.long_key n))

pub change-own : NewEntriesChangeTheirOwn
change-own files new key from image fits words agrees m =
    let spares : SparesAll (places_of new (length key)) = places-spare new (length key) in
    let index-word = (λ (p : ℕ). same_word_outside (places_of new (length key)) from image Index p m.outside (λ k low high. spares.index k)) in
    record {
      agree = covered-agrees (places_of new (length key)) from image (has_claim (all_claims (loaded_new new key))) m.outside (new-places-covered files new key from fits words agrees);
      headers = record { headers = λ n i small. m.outside.bytes (Block n) i (spares.headers n i small); lengths = λ n. m.outside.lengths (Block n) (spares.sizes (Block n)); files = λ file. m.outside.files file (spares.sizes file) };
      session = record { crash = index-word 32; id = index-word 20 };
      well_formed = m.headers;
    }

pub writing-keeps : WritingEntriesKeepsStates
writing-keeps files new key old now fits words agrees passes from there = passes_weaker (passes from there) keeps keeps where
  keeps : (image : Image) → WritesEntryInProgress new (length key) from image → KeepsWith (words_of (loaded_new new key)) (words_of (loaded_new new key)) from image
  keeps image m = unlinked-change (has_claim (all_claims (loaded_new new key))) (words_of (loaded_new new key)) from image
      (λ claim has. ap (λ (cs : List Claim). has_claim cs claim) (words-claims (loaded_new new key)) ∙ has) (change-own files new key from image fits words (agrees from there) m)
