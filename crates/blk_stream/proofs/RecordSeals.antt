-- Records have their checksums after an update, and still where their bytes are as before. Where a checksum matches or is absent in the bytes, it is so in the
-- view.
use Rattle.std.proofs.Common.{◌≡◌, ℕ, ◌+◌, ◌≤◌, List, take, true, sym, ◌∙◌, ap, subst, arith}
use Rattle.std.specs.Prelude.{◌==◌}
use Rattle.std.proofs.lemmas.Bool.{eq-eqb}
use Rattle.std.proofs.lemmas.List.{take_at}
use Rattle.spec_image.specs.Bytes.{content, range_at, word_at}
use Rattle.spec_image.specs.Image.{AreBytes, Block, Image, byte}
use Rattle.spec_image.specs.Steps.{with_words}
use Rattle.spec_image.proofs.Words.{length-range}
use Rattle.spec_format.specs.Address.{blocks_256, file_selector, kind_of, place}
use Rattle.spec_format.specs.Hash.{hash}
use Rattle.spec_format.specs.Records.{checks, entry_body, entry_checks, entry_in, entry_is_sealed, seal_of}
use Rattle.spec_format.specs.Sealed.{AreChanges, IsMidUpdate, IsUpdated, RecordChecks, is_sealed, record_at, record_size, seal_place}
use Rattle.spec_format.proofs.Bodies.{entry_body-in, range-add}
use Rattle.spec_format.proofs.SealedFields.{record_word, updated_seal}
use Rattle.spec_format.proofs.SealedRecords.{entry_bytes, entry_seal, length-record, seal_last}
use Rattle.spec_folder.specs.View.{entry_at}
use Rattle.law_folder.proofs.updates.Prefixes.{AreSmall, entry_checks-by, entry_checks-prefix, small-range, small-take, small-words}
use Rattle.law_folder.proofs.updates.Updates.{entry-here}
use Rattle.blk_stream.specs.Stages.{KeepsSeal}

-- an entry record has its checksum where that is so in its bytes
sealed_bytes : (image : Image) (w : ℕ) → AreBytes image → kind_of w ≡ blocks_256 → entry_is_sealed (entry_at image w) ≡ is_sealed 92 (record_at image w)
unfolding entry_is_sealed entry_body entry_in record_at
sealed_bytes image w bytes kind =
    let f = byte image (Block (file_selector w)) in
    let size : 92 + 4 ≤ record_size w = omega (arith, entry_bytes w kind) in
    let front : take 92 (record_at image w) ≡ range_at f (place w) 92 =
    ap (λ (n : ℕ). take 92 (range_at f (place w) n)) (entry_bytes w kind) ∙ ap (take 92) (range-add 92 4 (place w) f) ∙ take_at (range_at f (place w) 92) (range_at f (place w + 92) 4) 92 (length-range 92 (place w) f) in
    ap (λ (body : List ℕ). word_at f (place w + 92) == hash body) (entry_body-in (place w) f (bytes (Block (file_selector w))) ∙ sym front)
    ∙ ap (λ (x : ℕ). x == hash (take 92 (record_at image w))) (sym (record_word image w 92 size))

-- an update leaves its record with its checksum
pub updated_sealed : (from image : Image) (w : ℕ) (changes : List (ℕ × ℕ)) → AreBytes image → kind_of w ≡ blocks_256 → AreChanges (seal_place w) changes → IsUpdated from w changes image → entry_is_sealed (entry_at image w) ≡ true
updated_sealed from image w changes bytes kind are done =
    let seal : word_at (content (record_at image w)) 92 ≡ seal_of 92 (record_at image w) = subst (λ (s : ℕ). word_at (content (record_at image w)) s ≡ seal_of s (record_at image w)) (entry_seal w kind) (updated_seal from image w changes are done) in
    sealed_bytes image w bytes kind ∙ eq-eqb _ _ seal

-- a record with the bytes that it had has its checksum if it had it
pub still_sealed : (from image : Image) (entry : ℕ) → AreBytes from → AreBytes image → kind_of entry ≡ blocks_256 → record_at image entry ≡ record_at from entry → KeepsSeal entry from image
still_sealed from image entry bytes_from bytes kind same was = sealed_bytes image entry bytes kind ∙ ap (is_sealed 92) same ∙ sym (sealed_bytes from entry bytes_from kind) ∙ was

-- the bytes of a record are small
pub small_record : (image : Image) (w : ℕ) → AreBytes image → AreSmall (record_at image w)
unfolding record_at
small_record image w bytes = small-range (record_size w) (place w) (byte image (Block (file_selector w))) (bytes (Block (file_selector w)))

-- where the bytes of a record are small, a checksum that matches or is absent in them does so in the view
pub shown_small : (image : Image) (w : ℕ) → kind_of w ≡ blocks_256 → AreSmall (take (seal_place w) (record_at image w)) → RecordChecks w image → entry_checks (entry_at image w) ≡ true
unfolding entry_in
shown_small image w kind small good =
    let s : seal_place w ≡ 92 = entry_seal w kind in
    let seal : word_at (byte image (Block (file_selector w))) (place w + 92) ≡ word_at (content (record_at image w)) 92 = sym (record_word image w 92 (omega (arith, s, seal_last (kind_of w)))) in
    entry_checks-by (entry_at image w) (entry_in (content (record_at image w)) 0) seal (entry-here image w kind)
    ∙ entry_checks-prefix (record_at image w) (subst (λ (n : ℕ). AreSmall (take n (record_at image w))) s small) (omega (arith, s, length-record w image))
    ∙ subst (λ (n : ℕ). checks n (record_at image w) ≡ true) s good

-- a record with the small bytes of one whose checksum matches or is absent has such a checksum in the view
pub shown_same : (from image : Image) (w : ℕ) → kind_of w ≡ blocks_256 → AreSmall (record_at from w) → record_at image w ≡ record_at from w → RecordChecks w image → entry_checks (entry_at image w) ≡ true
shown_same from image w kind small same good = shown_small image w kind (small-take (seal_place w) (record_at image w) (subst AreSmall (sym same) small)) good

-- in the view the record's checksum matches or is absent at each word of an update of the record
pub shown_midst : (from image : Image) (w : ℕ) (changes : List (ℕ × ℕ)) → kind_of w ≡ blocks_256 → AreSmall (record_at from w) → IsMidUpdate from w changes image → entry_checks (entry_at image w) ≡ true
shown_midst from image w changes kind small moment =
    shown_small image w kind (subst AreSmall (sym moment.fields) (small-take (seal_place w) (with_words (take moment.made changes) (record_at from w)) (small-words (take moment.made changes) (record_at from w) small))) moment.checks
