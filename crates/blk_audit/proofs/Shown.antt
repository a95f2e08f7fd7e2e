-- What an image shows of a record, by its bytes.
use Rattle.std.proofs.Common.{◌≡◌, ℕ, ◌+◌, ◌%◌, ◌≤◌, Bool, true, false, ◌&&◌, ◌||◌, List, [], ◌∷◌, map, take, inr, refl, sym, ap, subst, ◌∙◌, arith, if◌then◌else◌}
use Rattle.std.specs.Prelude.{◌==◌}
use Rattle.std.proofs.lemmas.Bool.{eqb-true, eq-eqb}
use Rattle.spec_image.specs.Bytes.{content, word_at, range_at}
use Rattle.spec_image.specs.Image.{Block, Image, Index, AreBytes, byte, has_file, External}
use Rattle.spec_image.specs.Told.{Told}
use Rattle.spec_format.specs.Address.{byte_size, is_address, kind_of, file_selector, external, external_number, blocks_256, place}
use Rattle.spec_format.specs.BlockFiles.{is_among, stands_in_blocks}
use Rattle.spec_format.specs.Headers.{bucket_of}
use Rattle.spec_format.specs.Records.{checks, entry_in, entry_checks}
use Rattle.spec_format.specs.Sealed.{record_at, record_size, seal_place}
use Rattle.spec_format.specs.Standing.{stands}
use Rattle.spec_format.proofs.SealedFields.{record_word}
use Rattle.spec_format.proofs.SealedRecords.{entry_bytes, length-record, record_inside, seal_last}
use Rattle.spec_folder.specs.Chains.{bucket_of_hash, file_and_block, is_of_bucket}
use Rattle.spec_folder.specs.View.{RecordFields, entry_at, fields_at, follow_at, stands_as, store_of}
use Rattle.blk_disk.proofs.Ranges.{stands_agree}
use Rattle.blk_disk.proofs.SealedReads.{record_read}
use Rattle.blk_disk.specs.declared.tables.BlockFiles.{BlockFiles}
use Rattle.blk_disk.specs.Tables.{Agrees, is_record_among, stands_among, names_among}
use Rattle.law_folder.proofs.chains.ChainWords.{same-fields, shown-of}
use Rattle.law_folder.proofs.updates.Prefixes.{AreSmall, small-take, small-range, entry_checks-prefix, entry_checks-by}
use Rattle.law_folder.proofs.updates.Updates.{entry-here, entry-seal}
use Rattle.blk_io.specs.declared.folder.FileId.TheVariants as names
use Rattle.blk_io.specs.declared.fault.Damage.{Damage}
use Rattle.blk_io.specs.Faults.{IsShort}
use Rattle.blk_audit.specs.Faults.{IsRecordDamage}
use Rattle.blk_audit.specs.Records.{IsSaidBy}
use Rattle.blk_audit.specs.Chaining.{AreOfFirst}
use Rattle.blk_audit.specs.declared.records.ReadRecord.{ReadRecord}
use Rattle.blk_audit.proofs.Truths.{or_first, or_second}

and_none : (a : Bool) → (a && false) ≡ false
and_none true = refl
and_none false = refl

and_true : (a : Bool) → (a && true) ≡ a
and_true true = refl
and_true false = refl

same_test : (a k s x : Bool) → (k ≡ true → s ≡ x) → (a && (k && s)) ≡ ((a && x) && k)
same_test true true s x e = e refl ∙ sym (and_true x)
same_test true false s x e = sym (and_none x)
same_test false k s x e = refl

-- a word names a record among the kept files where there is one in the folder
pub names_stand : (files : BlockFiles) (image : Image) (w : ℕ) → Agrees files image → is_record_among files w ≡ stands_as image blocks_256 w
unfolding names_among stands
names_stand files image w agrees =
    same_test (is_address w) (kind_of w == blocks_256) (stands_among files w) (if kind_of w == external then has_file image (External (external_number w)) else stands_in_blocks image w)
    (λ k.
    let block : (kind_of w == external) ≡ false = rw (eqb-true (kind_of w) blocks_256 k) refl in
    stands_agree files image w agrees ∙ sym (ap (λ (t : Bool). if t then has_file image (External (external_number w)) else stands_in_blocks image w) block))

module _ (image : Image) (w : ℕ) (small : AreBytes image) (kind : kind_of w ≡ blocks_256) where
  pub checks_is : entry_checks (entry_at image w) ≡ checks 92 (record_at image w)
  unfolding entry_in record_at
  checks_is =
      let s : seal_place w ≡ 92 = entry-seal w kind in
      let front : AreSmall (take 92 (record_at image w)) = small-take 92 (record_at image w) (small-range (record_size w) (place w) (byte image (Block (file_selector w))) (small (Block (file_selector w)))) in
      let seal : word_at (byte image (Block (file_selector w))) (place w + 92) ≡ word_at (content (record_at image w)) 92 = sym (record_word image w 92 (omega (arith, s, seal_last (kind_of w)))) in
      entry_checks-by (entry_at image w) (entry_in (content (record_at image w)) 0) seal (entry-here image w kind)
      ∙ entry_checks-prefix (record_at image w) front (omega (arith, s, length-record w image))

  -- the checksum of the bytes that are read matches or is absent where that of the record does
  pub checks_read : (bytes : List ℕ) → bytes ≡ range_at (byte image (Block (file_selector w))) (place w + 0) 96 → checks 92 bytes ≡ entry_checks (entry_at image w)
  checks_read bytes is = ap (checks 92) (record_read image w 96 bytes (sym (entry_bytes w kind)) is) ∙ sym checks_is

-- What is shown of a word.

pub of_none : (image : Image) (bucket w : ℕ) → stands_as image blocks_256 w ≡ false → is_of_bucket (store_of image) bucket w ≡ false
unfolding store_of fields_at
of_none image bucket w e = rw e refl

pub of_is : (image : Image) (bucket w : ℕ) (said : ReadRecord) → stands_as image blocks_256 w ≡ true → IsSaidBy image w said → is_of_bucket (store_of image) bucket w ≡ (said.words.checks && (said.words.hash % 65536 == bucket))
unfolding store_of fields_at
of_is image bucket w said e is =
    let shown : is_of_bucket (store_of image) bucket w ≡ (entry_checks (entry_at image w) && ((entry_at image w).hash % 65536 == bucket)) = rw e refl in
    shown ∙ ap (λ (f : RecordFields). f.checks && (f.hash % 65536 == bucket)) (sym is.words.fields)

pub next_is : (image : Image) (w : ℕ) (said : ReadRecord) → stands_as image blocks_256 w ≡ true → IsSaidBy image w said → (store_of image).chain_next w ≡ said.words.next
unfolding store_of follow_at
next_is image w said e is = let shown : (store_of image).chain_next w ≡ (entry_at image w).next = rw e refl in shown ∙ sym is.words.next

-- two records with one first block are of one bucket
one_bucket : (image : Image) (w v m b : ℕ) → file_and_block w ≡ file_and_block v → is_of_bucket (store_of image) m w ≡ true → is_of_bucket (store_of image) b v ≡ true → m ≡ b
one_bucket image w v m b same first second =
    let p = shown-of (store_of image) m w first in
    let q = shown-of (store_of image) b v second in
    sym p.in_bucket ∙ ap (λ (f : RecordFields). bucket_of_hash f.hash) (same-fields image w v p.fields q.fields p.here q.here same) ∙ q.in_bucket

-- records of earlier buckets have other first blocks
pub others_apart : (image : Image) (bucket : ℕ) (words : List ℕ) → AreOfFirst (store_of image) bucket words → (v : ℕ) → is_of_bucket (store_of image) bucket v ≡ true → is_among (map file_and_block words) (file_and_block v) ≡ false
others_apart image bucket [] others v of = refl
others_apart image bucket (w ∷ words) others v of =
    or_none (file_and_block w == file_and_block v) (is_among (map file_and_block words) (file_and_block v)) (apart (file_and_block w == file_and_block v) refl)
    (others_apart image bucket words (λ u h. others u (or_second (w == u) (is_among words u) h)) v of)
  where
    or_none : (a b : Bool) → a ≡ false → b ≡ false → (a || b) ≡ false
    or_none a b e f = rw (e, f) refl

    apart : (t : Bool) → (file_and_block w == file_and_block v) ≡ t → t ≡ false
    apart false e = refl
    apart true e =
        let here = others w (or_first (w == w) (is_among words w) (eq-eqb w w refl)) in
        let same : here.bucket ≡ bucket = one_bucket image w v here.bucket bucket (eqb-true (file_and_block w) (file_and_block v) e) here.of_bucket of in
        let below = here.below in
        absurd (omega (arith, same, below))

-- the table of an image
pub table_is : (image : Image) (b : ℕ) → bucket_of (byte image Index) b ≡ (store_of image).table b
unfolding store_of
table_is image b = refl

-- a record has its bytes in its blocks
pub record_fits : (w : ℕ) → kind_of w ≡ blocks_256 → 96 ≤ byte_size w
record_fits w kind =
    let inside = record_inside w (inr kind) in
    let size = entry_bytes w kind in
    omega (arith, inside, size)

-- a short read of a record
pub short_record : (files : BlockFiles) (old new : Told) (w : ℕ) → new ≡ old → kind_of w ≡ blocks_256 → stands_among files w ≡ true → (damage : Damage) → IsShort old (names.Block (file_selector w)) (place w) 96 damage → IsRecordDamage files new damage
short_record files old new w stays kind there damage short = record { entry = w; kind = kind; stands = there; short = subst (λ (t : Told). IsShort t (names.Block (file_selector w)) (place w) 96 damage) (sym stays) short }

-- of another bucket
pub of_bucket_by : (checks is : Bool) → is ≡ false → (checks && is) ≡ false
of_bucket_by checks is e = ap (λ (t : Bool). checks && t) e ∙ and_none checks
