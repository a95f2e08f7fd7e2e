-- Where the checksums of records match or are absent, they do so still while records are linked.
use Rattle.std.proofs.Common.{◌≡◌, ◌⊎◌, ℕ, ◌+◌, ◌*◌, ◌<◌, ◌≤◌, Bool, true, false, List, [], ◌∷◌, inr, refl, ap, ap₂, sym, ◌∙◌, subst, arith}
use Rattle.std.specs.Prelude.{All, ◌==◌, ◌&&◌, if◌then◌else◌, nat_le, nat_lt}
use Rattle.std.proofs.lemmas.Bool.{eqb-true, and_left, and_right}
use Rattle.std.proofs.lemmas.Bool.Decides.{nat_tests}
use Rattle.std.proofs.lemmas.List.Elements.{All-cons, All-head, All-nil, All-tail}
use Rattle.spec_image.specs.Bytes.{range_at, word_bytes}
use Rattle.spec_image.specs.Image.{Block, Image, Index, byte}
use Rattle.spec_image.specs.Steps.{TrailStep, Word, after, applied, word_step}
use Rattle.spec_image.specs.Told.{Along}
use Rattle.spec_image.proofs.Runs.{until-append, until_last, until_weaker2}
use Rattle.spec_image.proofs.Words.{same-range}
use Rattle.spec_format.specs.Address.{kind_of, file_selector, first_block, place, blocks_256}
use Rattle.spec_format.specs.Records.{checks, entry_next_place}
use Rattle.spec_format.specs.Sealed.{IsMidUpdate, RecordChecks, record_at, record_range, record_size, seal_by_kind, seal_place, sealed_steps, size_by_kind}
use Rattle.spec_format.proofs.SealedRecords.{entry_bytes, entry_seal, moments}
use Rattle.spec_folder.specs.ListView.{first_or}
use Rattle.spec_folder.specs.View.{store_of}
use Rattle.law_folder.proofs.chains.ChainWords.{record-at}
use Rattle.law_folder.proofs.updates.Sealing.{range_apart}
use Rattle.blk_disk.specs.declared.tables.BlockFiles.{BlockFiles}
use Rattle.blk_disk.specs.Tables.{is_record_among}
use Rattle.blk_disk.specs.Open.{IsOpen}
use Rattle.blk_disk.proofs.SealedWrites.{record_fits}
use Rattle.law_recovery.specs.ChainRepair.{next_steps, next_words_steps}
use Rattle.blk_repair.specs.Damages.{AllCheck}
use Rattle.blk_repair.proofs.Choices.{entry_kind, entry_stands, next-open}

-- ---- in the midst of an update of one record the checksum of another still matches or is absent

module _ (from image : Image) (w u : ℕ) (kind_w : kind_of w ≡ blocks_256) (kind_u : kind_of u ≡ blocks_256) (changes : List (ℕ × ℕ)) (mid : IsMidUpdate from w changes image) (was : RecordChecks u from) where
  at_others : ((i : ℕ) → place u ≤ i → i < place u + record_size u → (record_range w).bytes (Block (file_selector u)) i ≡ false) → RecordChecks u image
  unfolding record_at
  at_others apart =
      let same : record_at image u ≡ record_at from u = same-range (record_size u) (place u) (byte image (Block (file_selector u))) (byte from (Block (file_selector u))) (λ i low high. mid.outside.bytes (Block (file_selector u)) i (apart i low high)) in
      ap (checks (seal_place u)) same ∙ was

  at_one_place : file_selector u ≡ file_selector w → place u ≡ place w → RecordChecks u image
  unfolding record_at
  at_one_place file same =
      let kind : kind_of u ≡ kind_of w = kind_u ∙ sym kind_w in
      let bytes : record_at image u ≡ record_at image w = ap₂ (λ (f p : ℕ). range_at (byte image (Block f)) p (record_size u)) file same ∙ ap (λ (k : ℕ). range_at (byte image (Block (file_selector w))) (place w) (size_by_kind k)) kind in
      ap₂ checks (ap seal_by_kind kind) bytes ∙ mid.checks

  -- records at two places don't meet
  places : (x y p q : ℕ) → (x == y) ≡ false → p ≡ 8192 + x * 256 → q ≡ 8192 + y * 256 → (q + 96 ≤ p) ⊎ (p + 96 ≤ q)
  places x y p q e a b = grind (arith, nat_tests)

  by_place : (t : Bool) → (first_block u == first_block w) ≡ t → file_selector u ≡ file_selector w → RecordChecks u image
  by_place true e file = at_one_place file (record-at u kind_u ∙ ap (λ (n : ℕ). 8192 + n * 256) (eqb-true (first_block u) (first_block w) e) ∙ sym (record-at w kind_w))
  by_place false e file = at_others (λ i low high. and_right _ _
      (subst (λ (n : ℕ). (nat_le (place w) i && nat_lt i (place w + n)) ≡ false) (sym (entry_bytes w kind_w))
      (range_apart (place u) (place w) 96 i (places (first_block u) (first_block w) (place u) (place w) e (record-at u kind_u) (record-at w kind_w)) low (let m = entry_bytes u kind_u in omega (arith, high, m)))))

  by_file : (t : Bool) → (file_selector w == file_selector u) ≡ t → RecordChecks u image
  by_file true e = by_place (first_block u == first_block w) refl (sym (eqb-true (file_selector w) (file_selector u) e))
  by_file false e = at_others (λ i low high. and_left _ _ e)

  checks-still : RecordChecks u image
  checks-still = by_file (file_selector w == file_selector u) refl

-- the checksums of all of some records that are there still match or are absent
all-still : (files : BlockFiles) (from image : Image) (w : ℕ) (words : List ℕ) (changes : List (ℕ × ℕ)) → is_record_among files w ≡ true → All (λ u. is_record_among files u ≡ true) words → IsMidUpdate from w changes image → AllCheck words from → AllCheck words image
all-still files from image w [] changes stands all mid are = All-nil (λ u. RecordChecks u image)
all-still files from image w (u ∷ words) changes stands all mid are =
    All-cons (λ v. RecordChecks v image) u words
    (checks-still from image w u (entry_kind files w stands) (entry_kind files u (All-head (λ v. is_record_among files v ≡ true) u words all)) changes mid (All-head (λ v. RecordChecks v from) u words are))
    (all-still files from image w words changes stands (All-tail (λ v. is_record_among files v ≡ true) u words all) mid (All-tail (λ v. RecordChecks v from) u words are))

-- ---- at each word of the links

-- a record that is there, and whose checksum matches or is absent, gets a next
module _ (files : BlockFiles) (w x : ℕ) (words : List ℕ) (image : Image) (is : IsOpen files image) (stands : is_record_among files w ≡ true) (all : All (λ u. is_record_among files u ≡ true) words) (checks_w : RecordChecks w image) (are : AllCheck words image) where
  sealed-checks : Along (AllCheck words) image (sealed_steps image w ((entry_next_place, x) ∷ []))
  sealed-checks =
      let changes : List (ℕ × ℕ) = (entry_next_place, x) ∷ [] in
      let M : Image → Type 0 = IsMidUpdate image w changes in
      let seal = entry_seal w (entry_kind files w stands) in
      let still : (between : Image) → M between → AllCheck words between = (λ between mid. all-still files image between w words changes stands all mid are) in
      until_weaker2 M (AllCheck words) M (AllCheck words) (sealed_steps image w changes) image still still
      (moments w image changes (record_fits files w (entry_stands files w stands) (inr (entry_kind files w stands)) image is.agrees) checks_w (All-cons (λ c. c.0 + 4 ≤ seal_place w) (entry_next_place, x) [] (omega (arith, seal)) (All-nil (λ c. c.0 + 4 ≤ seal_place w))))

  choice-checks : (b : Bool) → Along (AllCheck words) image (if b then [] else sealed_steps image w ((entry_next_place, x) ∷ []))
  choice-checks true = are
  choice-checks false = sealed-checks

  next-checks : Along (AllCheck words) image (next_steps w x image)
  next-checks = choice-checks ((store_of image).chain_next w == x)

-- records are linked while the checksums of others match or are absent
links-check-others : (files : BlockFiles) (words others : List ℕ) (image : Image) → IsOpen files image → All (λ u. is_record_among files u ≡ true) words → All (λ u. is_record_among files u ≡ true) others → AllCheck words image → AllCheck others image
    → Along (AllCheck others) image (next_words_steps words image)
links-check-others files [] others image is stands stand are they = they
links-check-others files (w ∷ words) others image is stands stand are they =
    let x : ℕ = first_or 0 words in
    let first : List TrailStep = next_steps w x image in
    let one : is_record_among files w ≡ true = All-head (λ u. is_record_among files u ≡ true) w words stands in
    let behind : All (λ u. is_record_among files u ≡ true) words = All-tail (λ u. is_record_among files u ≡ true) w words stands in
    let checks_w : RecordChecks w image = All-head (λ u. RecordChecks u image) w words are in
    let here : Along (AllCheck others) image first = next-checks files w x others image is one stand checks_w they in
    let left : Along (AllCheck words) image first = next-checks files w x words image is one behind checks_w (All-tail (λ u. RecordChecks u image) w words are) in
    until-append (AllCheck others) (AllCheck others) first (next_words_steps words (after first image)) image here
    (links-check-others files words others (after first image) (until_last (IsOpen files) (IsOpen files) first image (next-open files w x image is)) behind stand (until_last (AllCheck words) (AllCheck words) first image left) (until_last (AllCheck others) (AllCheck others) first image here))

-- the checksums of records match or are absent at each word of their own links
pub links-check : (files : BlockFiles) (words : List ℕ) (image : Image) → IsOpen files image → All (λ u. is_record_among files u ≡ true) words → AllCheck words image → Along (AllCheck words) image (next_words_steps words image)
links-check files words image is stand are = links-check-others files words words image is stand stand are are

-- a word of the index leaves all records
elsewhere-checks : (words : List ℕ) (image : Image) (at x : ℕ) → AllCheck words image → AllCheck words (applied (Word Index at (word_bytes x)) image)
unfolding record_at
elsewhere-checks words image at x are = are

pub index_word-checks : (words : List ℕ) (at x : ℕ) (image : Image) → AllCheck words image → Along (AllCheck words) image (word_step Index at x)
unfolding word_step
index_word-checks words at x image are = (are, elsewhere-checks words image at x are)
