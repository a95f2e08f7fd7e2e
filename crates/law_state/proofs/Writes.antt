-- Writes into blocks, into external files and into words of the index.
use Rattle.std.proofs.Common.{◌≡◌, ℕ, ◌+◌, ◌<◌, ◌≤◌, ◌%◌, List, refl, ap, sym, ◌∙◌, subst, arith, ⊎_elim, map, Option, Bool, true, false}
use Rattle.std.specs.Prelude.{◌==◌, ◌&&◌, nat_le, nat_lt}
use Rattle.std.proofs.lemmas.Bool.{cases_Bool, eqb-true}
use Rattle.std.proofs.lemmas.Bool.Decides.{nat_tests}
use Rattle.spec_image.specs.Image.{Image, Index, Block, External, File, byte, has_file, length_of, same_file, word}
use Rattle.spec_image.specs.Footprint.{SameOutside, one_word, range, whole, IsWithin}
use Rattle.spec_image.proofs.Footprints.{same_file_outside, same_word_outside}
use Rattle.spec_format.specs.Address.{byte_size, file_selector, place}
use Rattle.spec_format.specs.BlockFiles.{is_among, HasSoundHeaders}
use Rattle.spec_format.specs.Claims.{ExternalOf, claims_of, has_claim, same_claim}
use Rattle.spec_format.proofs.SpareHeaders.{past_header}
use Rattle.spec_image.specs.Checks.{first_of}
use Rattle.spec_format.specs.Headers.{list_checks, is_shown_place, magic_of, field_checks}
use Rattle.spec_folder.specs.Footprint.{AgreeBut}
use Rattle.spec_folder.specs.View.{view_of}
use Rattle.spec_folder.specs.Layout.{Represents}
use Rattle.law_folder.specs.IndexWrites.{checked_words, shown_words}
use Rattle.law_folder.proofs.claims.ByteChanges.{covered-agrees}
use Rattle.law_folder.proofs.claims.Covers.{blocks-covered, covers-less, externals-covered, hidden-covered}
use Rattle.law_folder.proofs.claims.Files.{growth-keeps}
use Rattle.law_folder.proofs.updates.IndexWords.{others-unchecked}
use Rattle.law_folder.proofs.claims.Inside.{writes-inside}
use Rattle.law_folder.proofs.states.Standing.{held-at_rest}
use Rattle.law_folder.proofs.updates.WellFormed.{headers_still}
use Rattle.law_state.specs.Changes.{SameHeaders}
use Rattle.law_state.specs.ChangeLaws.{kept_words, BlockWritesChangeOnly, ExternalWritesChangeOnly, OtherWordsChangeOnly, GrowthFindsTheSame}

-- ---- blocks

before_range : (t : Bool) (p n i : ℕ) → i < p → (t && (nat_le p i && nat_lt i (p + n))) ≡ false
before_range true p n i below = grind (arith, nat_tests)
before_range false p n i below = refl

pub block-writes : BlockWritesChangeOnly
block-writes from image w at n stands apart low high same = record {
  agree = covered-agrees (range (Block (file_selector w)) at n) from image (has_claim (claims_of w)) same (covers-less from (range (Block (file_selector w)) at n) (range (Block (file_selector w)) (place w) (byte_size w)) (has_claim (claims_of w)) inside (blocks-covered from w stands apart));
  headers = record {
    headers = λ m i small. same.bytes (Block m) i (before_range (same_file (Block (file_selector w)) (Block m)) at n i (let past = past_header w in omega (arith, past)));
    lengths = λ m. same.lengths (Block m) refl;
    files = λ file. same.files file refl;
  };
  session = record { crash = index-word 32; id = index-word 20 };
  well_formed = (writes-inside from image w at n stands apart low high same).headers;
} where
  index-word : (p : ℕ) → word image Index p ≡ word from Index p
  index-word p = same_word_outside (range (Block (file_selector w)) at n) from image Index p same (λ k low high. refl)

  within : (t : Bool) (i : ℕ) → (t && (nat_le at i && nat_lt i (at + n))) ≡ true → (t && (nat_le (place w) i && nat_lt i (place w + byte_size w))) ≡ true
  within true i e = grind (arith, nat_tests)
  within false i e = e

  inside : IsWithin (range (Block (file_selector w)) at n) (range (Block (file_selector w)) (place w) (byte_size w))
  inside = record { bytes = λ file i e. within (same_file (Block (file_selector w)) file) i e; sizes = λ file e. e }

-- ---- external files

pub external-writes : ExternalWritesChangeOnly
external-writes from image n same there = record {
  agree = covered-agrees (whole (External n)) from image (λ claim. same_claim claim (ExternalOf n)) same (externals-covered from n);
  headers = record {
    headers = λ m i small. same.bytes (Block m) i refl;
    lengths = λ m. same.lengths (Block m) refl;
    files = files;
  };
  session = record { crash = index-word 32; id = index-word 20 };
  well_formed = headers_still (whole (External n)) from image (record { bytes = λ m i small. refl }) (λ m. refl) same (λ k. magic_of (at_bytes index k)) (λ k. first_of (field_checks (at_bytes index k) (at_length index k))) (λ k. first_of (list_checks (at_bytes index k)));
} where
  index : image Index ≡ from Index
  index = same_file_outside (whole (External n)) from image Index same (λ i. refl) refl

  at_bytes : {a b : Option (List ℕ)} → a ≡ b → byte (λ file. a) Index ≡ byte (λ file. b) Index
  at_bytes e = ap (λ (o : Option (List ℕ)). byte (λ file. o) Index) e

  at_length : {a b : Option (List ℕ)} → a ≡ b → length_of (λ file. a) Index ≡ length_of (λ file. b) Index
  at_length e = ap (λ (o : Option (List ℕ)). length_of (λ file. o) Index) e

  index-word : (p : ℕ) → word image Index p ≡ word from Index p
  index-word p = same_word_outside (whole (External n)) from image Index p same (λ k low high. refl)

  files : (file : File) → has_file image file ≡ has_file from file
  files Index = same.files Index refl
  files (Block m) = same.files (Block m) refl
  files (External m) = go (n == m) refl where
    go : (t : Bool) → (n == m) ≡ t → has_file image (External m) ≡ has_file from (External m)
    go true e = subst (λ (x : ℕ). has_file image (External x) ≡ has_file from (External x)) (eqb-true n m e) there
    go false e = same.files (External m) e

-- ---- words of the index

hidden : (at i : ℕ) → at % 4 ≡ 0 → at < 368 → is_among shown_words at ≡ false → at ≤ i → i < at + 4 → is_shown_place i ≡ false
hidden at i aligned small out low high = grind (arith, nat_tests)

apart-from : (at p i : ℕ) → at % 4 ≡ 0 → p % 4 ≡ 0 → (p == at) ≡ false → p ≤ i → i < p + 4 → (nat_le at i && nat_lt i (at + 4)) ≡ false
apart-from at p i aligned other differs low high = grind (arith, nat_tests)

-- a word that is not shown
module _ (from image : Image) (at : ℕ) (aligned : at % 4 ≡ 0) (small : at < 368) (unshown : is_among shown_words at ≡ false) (same : SameOutside (one_word Index at) from image) where
  pub word-agrees : AgreeBut (λ claim. false) from image
  word-agrees = covered-agrees (one_word Index at) from image (λ claim. false) same (hidden-covered from at 4 (λ i low high. hidden at i aligned small unshown low high))

  pub word-headers : SameHeaders from image
  word-headers = record { headers = λ m i below. same.bytes (Block m) i refl; lengths = λ m. same.lengths (Block m) refl; files = λ file. same.files file refl }

  pub other-word : (p : ℕ) → p % 4 ≡ 0 → (p == at) ≡ false → word image Index p ≡ word from Index p
  other-word p even differs = same_word_outside (one_word Index at) from image Index p same (λ k low high. apart-from at p k aligned even differs low high)

not-kept : (at p : ℕ) → is_among kept_words at ≡ false → is_among kept_words p ≡ true → (p == at) ≡ false
not-kept at p unkept e = ⊎_elim (λ (t : (p == at) ≡ true). absurd (let z : true ≡ false = sym e ∙ ap (is_among kept_words) (eqb-true p at t) ∙ unkept in cc)) (λ (t : (p == at) ≡ false). t) (cases_Bool (p == at))

pub index-words : OtherWordsChangeOnly
index-words from image at aligned small unshown unchecked unkept same = record {
  agree = word-agrees from image at aligned small unshown same;
  headers = word-headers from image at aligned small unshown same;
  session = record { crash = other-word from image at aligned small unshown same 32 refl (not-kept at 32 unkept refl); id = other-word from image at aligned small unshown same 20 refl (not-kept at 20 unkept refl) };
  well_formed = others-unchecked from image at aligned unchecked same;
}

-- ---- growth

pub growth-finds : GrowthFindsTheSame
growth-finds words from image grown formed state layout unlinked k =
    let well : HasSoundHeaders image = formed.sound k.sound in
    let r : Represents (view_of image) state layout = growth-keeps from image state layout (map layout.place_of_doomed k.numbers) grown k.represents k.owners.exact in
    (well, held-at_rest image state layout r k.valid)
