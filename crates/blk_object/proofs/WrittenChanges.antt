-- What is changed where the words of a stream in its record change, and the data of a place.
use Rattle.std.proofs.Common.{◌≡◌, ◌≢◌, inr, ℕ, ◌+◌, ◌<◌, ◌≤◌, List, ◌++◌, refl, ap, sym, ◌∙◌, arith, Bool, true, false, Option}
use Rattle.std.specs.Prelude.{◌==◌, ◌||◌, if◌then◌else◌}
use Rattle.std.proofs.lemmas.Bool.{or_left, or_right}
use Rattle.spec_image.specs.Checks.{first_of}
use Rattle.spec_image.specs.Footprint.{Footprint, IsWithin, SameOutside, either, nothing, range, whole}
use Rattle.spec_image.specs.Image.{Block, External, File, Image, Index, byte, has_file, length_of, word}
use Rattle.spec_image.proofs.Footprints.{range_within, same_file_outside, same_word_outside, within_both}
use Rattle.spec_format.specs.Address.{blocks_256, byte_size, external, external_number, file_selector, header_size, kind_of, place}
use Rattle.spec_format.specs.BlockFiles.{stands_in}
use Rattle.spec_format.specs.Claims.{Claim, ExternalOf, claims_of, has_claim, same_claim}
use Rattle.spec_format.specs.Headers.{list_checks, magic_of, field_checks}
use Rattle.spec_format.specs.Sealed.{record_size, size_by_kind}
use Rattle.spec_folder.specs.Footprint.{Covers}
use Rattle.law_folder.proofs.claims.ByteChanges.{covered-agrees, stands-if_clear}
use Rattle.law_folder.proofs.claims.ClaimLists.{claim-append}
use Rattle.law_folder.proofs.claims.Covers.{blocks-covered, covers-either, covers-less, covers-more, externals-covered}
use Rattle.law_folder.proofs.claims.Inside.{record-inside}
use Rattle.law_folder.proofs.updates.WellFormed.{headers_still}
use Rattle.law_state.specs.Changes.{ChangesOnly, SameCounters}
use Rattle.blk_stream.specs.Changing.{stream_words}
use Rattle.blk_stream.specs.Inside.{data_of}
use Rattle.blk_stream.specs.Moving.{data_at_place}
use Rattle.blk_stream.specs.Streams.{address_place, size_place}
use Rattle.blk_stream.proofs.KeptMaps.{blocks_spared}
use Rattle.blk_stream.proofs.Naming.{words_spare}
use Rattle.spec_format.proofs.Counts.{same-count}

-- ---- the data of a place

place-by : (P : Footprint → Type 0) (w : ℕ) → ((w == 0) ≡ true → P nothing) → ((w == 0) ≡ false → (kind_of w == external) ≡ true → P (whole (External (external_number w)))) → ((w == 0) ≡ false → (kind_of w == external) ≡ false → P (range (Block (file_selector w)) (place w) (byte_size w))) → P (data_at_place w)
unfolding data_at_place data_of
place-by P w none file blocks = go (w == 0) (kind_of w == external) none file blocks where
  go : (s t : Bool) → (s ≡ true → P nothing) → (s ≡ false → t ≡ true → P (whole (External (external_number w)))) → (s ≡ false → t ≡ false → P (range (Block (file_selector w)) (place w) (byte_size w)))
      → P (if s then nothing else if t then whole (External (external_number w)) else range (Block (file_selector w)) (place w) (byte_size w))
  go true t none file blocks = none refl
  go false true none file blocks = file refl refl
  go false false none file blocks = blocks refl refl

-- it leaves the index, and the headers and the lengths of block files
record IsOfData (F : Footprint) : Type 0 where
  index : (k : ℕ) → F.bytes Index k ≡ false
  index_size : F.sizes Index ≡ false
  headers : (n k : ℕ) → k < header_size → F.bytes (Block n) k ≡ false
  sizes : (n : ℕ) → F.sizes (Block n) ≡ false

place-data : (w : ℕ) → IsOfData (data_at_place w)
place-data w = place-by IsOfData w
    (λ _. record { index = λ k. refl; index_size = refl; headers = λ n k low. refl; sizes = λ n. refl })
    (λ _ _. record { index = λ k. refl; index_size = refl; headers = λ n k low. refl; sizes = λ n. refl })
    (λ _ _. record { index = λ k. refl; index_size = refl; headers = λ n k low. (blocks_spared w).headers n k low; sizes = λ n. refl })

words-data : (entry i : ℕ) → IsOfData (stream_words entry i)
words-data entry i = record { index = λ k. refl; index_size = refl; headers = λ n k low. (words_spare entry i).headers n k low; sizes = λ n. refl }

or-false : {a b : Bool} → a ≡ false → b ≡ false → (a || b) ≡ false
or-false e h = rw (e, h) refl

either-data : (F G : Footprint) → IsOfData F → IsOfData G → IsOfData (either F G)
either-data F G f g = record {
  index = λ k. or-false (f.index k) (g.index k);
  index_size = or-false f.index_size g.index_size;
  headers = λ n k low. or-false (f.headers n k low) (g.headers n k low);
  sizes = λ n. or-false (f.sizes n) (g.sizes n);
}

-- ---- which bytes are those of the record and the node

abbrev pub touched_of : ℕ → ℕ → Claim → Bool
touched_of entry w = has_claim (claims_of entry ++ claims_of w)

words-within : (entry i : ℕ) → kind_of entry ≡ blocks_256 → i < 3 → IsWithin (stream_words entry i) (range (Block (file_selector entry)) (place entry) (byte_size entry))
unfolding size_by_kind
words-within entry i kind few =
    let size : 96 ≤ byte_size entry = record-long in
    within_both (range (Block (file_selector entry)) (place entry + size_place i) 4) (either (range (Block (file_selector entry)) (place entry + address_place i) 4) (range (Block (file_selector entry)) (place entry + 92) 4)) (range (Block (file_selector entry)) (place entry) (byte_size entry))
    (range_within (Block (file_selector entry)) (place entry + size_place i) 4 (place entry) (byte_size entry) (omega arith) (omega (arith, size, few)))
    (within_both (range (Block (file_selector entry)) (place entry + address_place i) 4) (range (Block (file_selector entry)) (place entry + 92) 4) (range (Block (file_selector entry)) (place entry) (byte_size entry))
    (range_within (Block (file_selector entry)) (place entry + address_place i) 4 (place entry) (byte_size entry) (omega arith) (omega (arith, size, few)))
    (range_within (Block (file_selector entry)) (place entry + 92) 4 (place entry) (byte_size entry) (omega arith) (omega (arith, size))))
  where
    record-long : 96 ≤ byte_size entry
    record-long = let inside = record-inside entry (inr kind) in let size : record_size entry ≡ 96 = ap size_by_kind kind in omega (arith, inside, size)

module _ (from : Image) (entry i w : ℕ) (kind : kind_of entry ≡ blocks_256) (few : i < 3) (stands : stands_in from entry ≡ true) (there : w ≢ 0 → kind_of w ≢ external → stands_in from w ≡ true) where
  blocky : kind_of entry ≢ external
  blocky e = let z : ◌≡◌ {A = ℕ} 2 0 = sym kind ∙ e in absurd (cc)

  words-covered : Covers from (stream_words entry i) (touched_of entry w)
  words-covered = covers-more from (stream_words entry i) (has_claim (claims_of entry)) (touched_of entry w) (λ c e. claim-append (claims_of entry) (claims_of w) c ∙ or_left (has_claim (claims_of entry) c) (has_claim (claims_of w) c) e)
      (covers-less from (stream_words entry i) (range (Block (file_selector entry)) (place entry) (byte_size entry)) (has_claim (claims_of entry)) (words-within entry i kind few) (blocks-covered from entry stands blocky))

  wider : (c : Claim) → has_claim (claims_of w) c ≡ true → touched_of entry w c ≡ true
  wider c e = claim-append (claims_of entry) (claims_of w) c ∙ or_right (has_claim (claims_of entry) c) (has_claim (claims_of w) c) e

  file-claim : (w == 0) ≡ false → (kind_of w == external) ≡ true → (c : Claim) → same_claim c (ExternalOf (external_number w)) ≡ true → has_claim (claims_of w) c ≡ true
  unfolding claims_of has_claim
  file-claim some file c e = rw (some, file) (or_left (same_claim c (ExternalOf (external_number w))) false e)

  place-covered : Covers from (data_at_place w) (touched_of entry w)
  place-covered = place-by (λ F. Covers from F (touched_of entry w)) w
      (λ _. record { index = λ k e. refl; extents = λ n k e. refl; lengths = λ n. refl; blocks = λ n kd b k linked low high e. cc; external_bytes = λ n k e. cc; external_sizes = λ n e. cc })
      (λ some file. covers-more from (whole (External (external_number w))) (λ claim. same_claim claim (ExternalOf (external_number w))) (touched_of entry w) (λ c e. wider c (file-claim some file c e)) (externals-covered from (external_number w)))
      (λ some blocks. covers-more from (range (Block (file_selector w)) (place w) (byte_size w)) (has_claim (claims_of w)) (touched_of entry w) wider (blocks-covered from w (there (λ e. let z : true ≡ false = sym (ap (λ (x : ℕ). x == 0) e) ∙ some in absurd (cc)) (λ e. let z : true ≡ false = sym (ap (λ (x : ℕ). x == external) e) ∙ blocks in absurd (cc))) (λ e. let z : true ≡ false = sym (ap (λ (x : ℕ). x == external) e) ∙ blocks in absurd (cc))))

  abbrev print : Footprint
  print = either (stream_words entry i) (data_at_place w)

  of-data : IsOfData print
  of-data = either-data (stream_words entry i) (data_at_place w) (words-data entry i) (place-data w)

  module _ (image : Image) (same : SameOutside (either (stream_words entry i) (data_at_place w)) from image) where
    index-same : image Index ≡ from Index
    index-same = same_file_outside print from image Index same of-data.index of-data.index_size

    index-word : (p : ℕ) → word image Index p ≡ word from Index p
    index-word p = same_word_outside print from image Index p same (λ k low high. of-data.index k)

    pub written-counters : SameCounters from image
    written-counters = same-count (byte image Index) (byte from Index) (index-word 4) (index-word 8) (index-word 12) (index-word 48) (index-word 52) (index-word 268)

    at_bytes : {a b : Option (List ℕ)} → a ≡ b → byte (λ file. a) Index ≡ byte (λ file. b) Index
    at_bytes e = ap (λ (o : Option (List ℕ)). byte (λ file. o) Index) e

    at_length : {a b : Option (List ℕ)} → a ≡ b → length_of (λ file. a) Index ≡ length_of (λ file. b) Index
    at_length e = ap (λ (o : Option (List ℕ)). length_of (λ file. o) Index) e

    -- a word of blocks is valid as before
    pub written-stands : (u : ℕ) → kind_of u ≢ external → stands_in image u ≡ stands_in from u
    written-stands u blocks = stands-if_clear print from image (touched_of entry w) same (covers-either from (stream_words entry i) (data_at_place w) (touched_of entry w) words-covered place-covered) u (λ e. absurd (blocks e))

    pub written-only : ((file : File) → has_file image file ≡ has_file from file) → ChangesOnly (touched_of entry w) from image
    written-only files = record {
      agree = covered-agrees print from image (touched_of entry w) same (covers-either from (stream_words entry i) (data_at_place w) (touched_of entry w) words-covered place-covered);
      headers = record {
        headers = λ n k low. same.bytes (Block n) k (of-data.headers n k low);
        lengths = λ n. same.lengths (Block n) (of-data.sizes n);
        files = files;
      };
      session = record { crash = index-word 32; id = index-word 20 };
      well_formed = headers_still print from image (record { bytes = λ n k low. of-data.headers n k low }) of-data.sizes same (λ k. magic_of (at_bytes index-same k)) (λ k. first_of (field_checks (at_bytes index-same k) (at_length index-same k))) (λ k. first_of (list_checks (at_bytes index-same k)));
    }
