-- A node whose checksum is right or absent, as a record of bytes.
use Rattle.std.proofs.Common.{◌≡◌, ◌≢◌, ◌%◌, ℕ, ◌+◌, ◌≤◌, ◌<◌, true, List, [], ◌∷◌, take, ap, sym, ◌∙◌, subst, arith}
use Rattle.std.specs.Prelude.{◌==◌, ◌||◌}
use Rattle.std.proofs.lemmas.List.{take_at}
use Rattle.std.proofs.lemmas.List.Elements.{All-nil, All-cons}
use Rattle.std.proofs.lemmas.Bool.{and_parts}
use Rattle.spec_image.specs.Bytes.{content, word_at, range_at, word_bytes}
use Rattle.spec_image.specs.Image.{File, Block, Image, AreBytes, byte, bytes_of}
use Rattle.spec_image.specs.Steps.{Word, applied, written_over}
use Rattle.spec_image.proofs.Images.{bytes-written}
use Rattle.spec_image.proofs.Words.{length-range, word_bytes-small}
use Rattle.spec_image.proofs.ByteSteps.{small-spliced, are_bytes-with_file}
use Rattle.spec_format.specs.Address.{kind_of, rankings, file_selector, place}
use Rattle.spec_format.specs.Hash.{hash}
use Rattle.spec_format.specs.Records.{checks, node_in, node_body, node_is_sealed, node_checks}
use Rattle.spec_format.specs.Sealed.{AreChanges, record_at, record_size, seal_place, RecordChecks}
use Rattle.spec_format.proofs.Bodies.{range-add, node_body-in}
use Rattle.spec_format.proofs.SealedFields.{record_word}
use Rattle.spec_format.proofs.SealedRecords.{node_seal, node_bytes}
use Rattle.spec_folder.specs.View.{stands_as, checks_at, list_of, node_at}

-- the bytes of a node
pub record_is : (image : Image) (w : ℕ) → kind_of w ≡ rankings → record_at image w ≡ range_at (byte image (Block (file_selector w))) (place w) 36
unfolding record_at
record_is image w kind = ap (range_at (byte image (Block (file_selector w))) (place w)) (node_bytes w kind)

pub front_is : (f : ℕ → ℕ) (p : ℕ) → take 32 (range_at f p 36) ≡ range_at f p 32
front_is f p =
    ap (take 32) (range-add 32 4 p f) ∙ take_at (range_at f p 32) (range_at f (p + 32) 4) 32 (length-range 32 p f)

pub checks_bytes : (image : Image) (w : ℕ) → AreBytes image → kind_of w ≡ rankings → node_checks (node_at image w) ≡ checks 32 (record_at image w)
unfolding node_checks node_is_sealed node_body node_in
checks_bytes image w bytes kind =
    let f = byte image (Block (file_selector w)) in
    let p = place w in
    let size : 32 + 4 ≤ record_size w = omega (arith, node_bytes w kind) in
    ap (λ (body : List ℕ). (word_at f (p + 32) == 0) || (word_at f (p + 32) == hash body)) (node_body-in p f (bytes (Block (file_selector w))) ∙ sym (front_is f p) ∙ ap (take 32) (sym (record_is image w kind)))
    ∙ ap (λ (x : ℕ). (x == 0) || (x == hash (take 32 (record_at image w)))) (sym (record_word image w 32 size))

-- where the checksum of a node of the list is right or absent, so is that of its record
pub record_checks : (image : Image) (w : ℕ) → AreBytes image → kind_of w ≡ rankings → (list_of image).checks w ≡ true → RecordChecks w image
unfolding list_of checks_at
record_checks image w bytes kind good =
    subst (λ (s : ℕ). checks s (record_at image w) ≡ true) (sym (node_seal w kind))
    (sym (checks_bytes image w bytes kind) ∙ (and_parts (stands_as image rankings w) (node_checks (node_at image w)) good).1)

-- words that are written are bytes
pub are_bytes-word : (f : File) (p v : ℕ) (image : Image) → AreBytes image → AreBytes (applied (Word f p (word_bytes v)) image)
are_bytes-word f p v image bytes =
    are_bytes-with_file image f (written_over p (word_bytes v) (image f)) bytes
    (λ k. subst (λ (l : List ℕ). content l k < 256) (sym (bytes-written (image f) p (word_bytes v))) (small-spliced p (word_bytes v) (bytes_of image f) (word_bytes-small v) (bytes f) k))

-- a link of a node: its one change
pub one_change : (w p x : ℕ) → kind_of w ≡ rankings → p % 4 ≡ 0 → p < 32 → AreChanges (seal_place w) ((p, x) ∷ [])
one_change w p x kind aligned before =
    let seal = node_seal w kind in
    record {
      few = omega arith;
      aligned = All-cons (λ change. change.0 % 4 ≡ 0) (p, x) [] aligned (All-nil (λ change. change.0 % 4 ≡ 0));
      before = All-cons (λ change. change.0 < seal_place w) (p, x) [] (omega (arith, before, seal)) (All-nil (λ change. change.0 < seal_place w));
      different = (All-nil (λ other. other.0 ≢ p), tt);
    }
