-- Where a folder can be written, the fields of a record with a right or absent checksum can: it has its checksum then, its fields are the written ones, and
-- nothing else changes. So the laws on records that change speak of something.
use Rattle.std.proofs.Common.{◌≡◌, ◌≢◌, inl, inr, ℕ, ◌+◌, ◌<◌, ◌≤◌, List, [], ◌∷◌, All, length, take, refl, ap, sym, ◌∙◌, subst, arith, lit<, Bool, Some, true}
use Rattle.std.specs.Prelude.{◌^◌, ◌%◌, ◌==◌, ◌&&◌, if◌then◌else◌, nat_le}
use Rattle.std.proofs.lemmas.Bool.{and_parts, eq-eqb, leb-true}
use Rattle.std.proofs.Math.Seq.{take-length}
use Rattle.std.proofs.lemmas.List.{take_at}
use Rattle.std.proofs.lemmas.List.Elements.{All-cons, All-nil}
use Rattle.spec_image.specs.Bytes.{content, range_at, word_at, words_at}
use Rattle.spec_image.specs.Footprint.{SameOutside}
use Rattle.spec_image.specs.Image.{AreBytes, Block, Image, byte, length_of}
use Rattle.spec_image.specs.Steps.{after, with_word, with_words}
use Rattle.spec_image.specs.Told.{Along}
use Rattle.spec_image.proofs.Runs.{some_inj, until_last}
use Rattle.spec_image.proofs.Words.{length-range, word-beside, word-there}
use Rattle.spec_format.specs.Address.{block_count, blocks_256, byte_size, external, file_selector, first_block, kind_of, place}
use Rattle.spec_format.specs.BlockFiles.{linked_as, max_entries_in, stands_in}
use Rattle.spec_format.specs.Claims.{claims_of, has_claim}
use Rattle.spec_format.specs.Hash.{hash}
use Rattle.spec_format.specs.Records.{Entry, entry_body, entry_in, entry_is_sealed, seal_of}
use Rattle.spec_format.specs.Sealed.{AreChanges, IsMidUpdate, IsUpdated, record_at, record_range, record_size, seal_place, sealed_steps}
use Rattle.spec_format.specs.Standing.{is_linked_as, stands_as_blocks}
use Rattle.spec_format.proofs.Bodies.{entry_body-in, range-add}
use Rattle.spec_format.proofs.SealedFields.{record_word, updated_seal}
use Rattle.spec_format.proofs.SealedRecords.{entry_bytes, length-record, moments, record_inside, updated, whole_update}
use Rattle.spec_folder.specs.ListImages.{IsWritable}
use Rattle.spec_folder.specs.ShownChanges.{OnlyChainNextChanges, OnlyRecordFieldsChange}
use Rattle.spec_folder.specs.View.{RecordFields, entry_at, fields_at, fields_of, stands_as, store_of}
use Rattle.law_folder.specs.RecordUpdates.{sealed_fields}
use Rattle.law_folder.proofs.chains.ChainWords.{record_checks}
use Rattle.law_folder.proofs.claims.ByteChanges.{stands-blocks}
use Rattle.law_folder.proofs.lists.WriteSteps.{writable-sealed}
use Rattle.law_folder.proofs.updates.Records.{fields-written, follows-written}
use Rattle.law_folder.proofs.updates.StillShown.{core-standing, standing-parts}
use Rattle.law_folder.proofs.updates.Updates.{entry-here, entry-seal}
use Rattle.law_state.specs.Arranging.{LeavesFiles}
use Rattle.law_state.specs.Changes.{ChangesOnly}
use Rattle.law_state.proofs.AtNodes.{updates-change}

-- after an update the record has its right checksum
updated-sealed : (from image : Image) (w : ℕ) (changes : List (ℕ × ℕ)) → AreBytes image → kind_of w ≡ blocks_256 → AreChanges (seal_place w) changes → IsUpdated from w changes image → entry_is_sealed (entry_at image w) ≡ true
unfolding entry_is_sealed entry_body entry_in record_at
updated-sealed from image w changes bytes kind are done =
    let f = byte image (Block (file_selector w)) in
    let size : 92 + 4 ≤ record_size w = omega (arith, entry_bytes w kind) in
    let front : take 92 (record_at image w) ≡ range_at f (place w) 92 =
    ap (λ (n : ℕ). take 92 (range_at f (place w) n)) (entry_bytes w kind) ∙ ap (take 92) (range-add 92 4 (place w) f) ∙ take_at (range_at f (place w) 92) (range_at f (place w + 92) 4) 92 (length-range 92 (place w) f) in
    let seal : word_at (content (record_at image w)) 92 ≡ hash (take 92 (record_at image w)) = subst (λ (s : ℕ). word_at (content (record_at image w)) s ≡ seal_of s (record_at image w)) (entry-seal w kind) (updated_seal from image w changes are done) in
    ap (λ (body : List ℕ). word_at f (place w + 92) == hash body) (entry_body-in (place w) f (bytes (Block (file_selector w))) ∙ sym front)
    ∙ ap (λ (x : ℕ). x == hash (take 92 (record_at image w))) (sym (record_word image w 92 size)) ∙ eq-eqb _ _ seal

-- the blocks of a valid word end inside their file
inside-file : (image : Image) (w : ℕ) → stands_in image w ≡ true → kind_of w ≢ external → place w + byte_size w ≤ length_of image (Block (file_selector w))
unfolding stands_as_blocks
inside-file image w st blocks = leb-true _ _ (and_parts (is_linked_as (linked_as image (file_selector w)) (kind_of w) && nat_le (first_block w + block_count w) (max_entries_in image (file_selector w))) _ (stands-blocks image w st blocks)).1

-- the folder once these words of a record are written
abbrev pub rewritten : Image → ℕ → List (ℕ × ℕ) → Image
rewritten from w changes = after (sealed_steps from w changes) from

module _ (from : Image) (w : ℕ) (fields : RecordFields) (ready : IsWritable from) (here : (store_of from).entry w ≡ Some fields) (good : fields.checks ≡ true) where
  standing : stands_as from blocks_256 w ≡ true
  standing = core-standing from w fields here

  stands : stands_in from w ≡ true
  stands = (standing-parts from blocks_256 w standing).0

  kind : kind_of w ≡ blocks_256
  kind = (standing-parts from blocks_256 w standing).1

  pub fields-are : fields_of (entry_at from w) ≡ fields
  unfolding store_of fields_at
  fields-are = some_inj (sym (rw standing refl) ∙ here)

  -- its fields, read from its bytes
  pub was-fields : sealed_fields (record_at from w) ≡ fields
  was-fields = ap (λ (e : Entry). record (fields_of e) { checks = true }) (sym (entry-here from w kind)) ∙ ap (λ (f : RecordFields). record f { checks = true }) fields-are ∙ ap (λ (b : Bool). record fields { checks = b }) (sym good)

  pub long-record : length (record_at from w) ≡ 96
  long-record = let seal : seal_place w ≡ 92 = entry-seal w kind in omega (arith, seal, length-record w from)

  module _ (changes : List (ℕ × ℕ)) (are : AreChanges (seal_place w) changes) (before : All (λ (c : ℕ × ℕ). c.0 + 4 ≤ seal_place w) changes) where
    abbrev now : Image
    now = rewritten from w changes

    fits : place w + record_size w ≤ length_of from (Block (file_selector w))
    fits = let room = inside-file from w stands (λ e. (let z : ◌≡◌ {A = ℕ} 2 0 = sym kind ∙ e in cc)) in let inside = record_inside w (inr kind) in omega (arith, room, inside)

    each : Along (IsMidUpdate from w changes) from (sealed_steps from w changes)
    each = moments w from changes fits (record_checks from w ready.bytes kind (ap (λ (f : RecordFields). f.checks) fields-are ∙ good)) before

    done : IsUpdated from w changes now
    done = updated w from changes fits

    pub rewritten-outside : SameOutside (record_range w) from now
    rewritten-outside = (until_last (IsMidUpdate from w changes) (IsMidUpdate from w changes) (sealed_steps from w changes) from each).outside

    pub rewritten-whole : (moment : IsMidUpdate from w changes now) × (moment.made ≡ length changes)
    rewritten-whole = whole_update from now w changes done rewritten-outside

    pub rewritten-writable : IsWritable now
    rewritten-writable = until_last IsWritable IsWritable (sealed_steps from w changes) from (writable-sealed w changes from ready)

    pub rewritten-fields : All (λ (c : ℕ × ℕ). 8 ≤ c.0) changes → OnlyRecordFieldsChange w from now × ((store_of now).entry w ≡ Some (sealed_fields (with_words changes (record_at from w))))
    rewritten-fields later =
        let update = rewritten-whole in
        let written = fields-written from now w changes fields (record { here = here; good = good; bytes = ready.bytes }) are later update.0 in
        (written.0, written.1 ∙ ap (λ (l : List (ℕ × ℕ)). Some (sealed_fields (with_words l (record_at from w)))) (ap (λ (n : ℕ). take n changes) update.1 ∙ take-length changes))

    pub rewritten-sealed : entry_is_sealed (entry_at now w) ≡ true
    rewritten-sealed = updated-sealed from now w changes rewritten-writable.bytes kind are done

    pub rewritten-only : ChangesOnly (has_claim (claims_of w)) from now
    rewritten-only = updates-change from now w stands (inr kind) rewritten-outside

    pub rewritten-leaves : LeavesFiles from now
    rewritten-leaves = record { headers = rewritten-only.headers; session = rewritten-only.session; well_formed = rewritten-only.well_formed }

-- ---- the state of a record

state-changes : (w : ℕ) → kind_of w ≡ blocks_256 → AreChanges (seal_place w) ((20, 2) ∷ [])
state-changes w kind = let s = entry-seal w kind in record {
  few = omega arith;
  aligned = All-cons (λ (c : ℕ × ℕ). c.0 % 4 ≡ 0) (20, 2) [] refl (All-nil (λ (c : ℕ × ℕ). c.0 % 4 ≡ 0));
  before = All-cons (λ (c : ℕ × ℕ). c.0 < seal_place w) (20, 2) [] (omega (arith, s)) (All-nil (λ (c : ℕ × ℕ). c.0 < seal_place w));
  different = (All-nil (λ (c : ℕ × ℕ). c.0 ≢ 20), tt);
}

-- in the bytes of a record
doomed-fields : (bytes : List ℕ) → length bytes ≡ 96 → sealed_fields (with_words ((20, 2) ∷ []) bytes) ≡ record (sealed_fields bytes) { state = 2 }
unfolding entry_in words_at
doomed-fields bytes long =
    let low = (λ (j : ℕ) (h : j + 4 ≤ 20). word-beside j 20 2 bytes (inl h)) in
    let high = (λ (j : ℕ) (h : 24 ≤ j). word-beside j 20 2 bytes (inr h)) in
    let there : word_at (content (with_word 20 2 bytes)) 20 ≡ 2 = word-there 20 2 bytes (lit< tt) (omega (arith, long)) in
    λ i. record {
      checks = true;
      hash = low 0 (omega arith) i;
      rankings_node = low 8 (omega arith) i;
      state = there i;
      key_len = high 32 (omega arith) i;
      long_key = high 36 (omega arith) i;
      data_size = high 40 (omega arith) i ∷ high 44 (omega arith) i ∷ high 48 (omega arith) i ∷ high 52 (omega arith) i ∷ [];
      data_addr = high 56 (omega arith) i ∷ high 60 (omega arith) i ∷ high 64 (omega arith) i ∷ high 68 (omega arith) i ∷ [];
      flags = high 72 (omega arith) i;
    }

module _ (from : Image) (w : ℕ) (fields : RecordFields) (ready : IsWritable from) (here : (store_of from).entry w ≡ Some fields) (good : fields.checks ≡ true) where
  abbrev pub doomed_record : Image
  doomed_record = rewritten from w ((20, 2) ∷ [])

  is_changes : AreChanges (seal_place w) ((20, 2) ∷ [])
  is_changes = state-changes w (kind from w fields ready here good)

  before : All (λ (c : ℕ × ℕ). c.0 + 4 ≤ seal_place w) ((20, 2) ∷ [])
  before = let s = entry-seal w (kind from w fields ready here good) in All-cons (λ (c : ℕ × ℕ). c.0 + 4 ≤ seal_place w) (20, 2) [] (omega (arith, s)) (All-nil (λ (c : ℕ × ℕ). c.0 + 4 ≤ seal_place w))

  later : All (λ (c : ℕ × ℕ). 8 ≤ c.0) ((20, 2) ∷ [])
  later = All-cons (λ (c : ℕ × ℕ). 8 ≤ c.0) (20, 2) [] (omega arith) (All-nil (λ (c : ℕ × ℕ). 8 ≤ c.0))

  pub doomed-outside : SameOutside (record_range w) from doomed_record
  doomed-outside = rewritten-outside from w fields ready here good ((20, 2) ∷ []) is_changes before

  pub doomed-only : ChangesOnly (has_claim (claims_of w)) from doomed_record
  doomed-only = rewritten-only from w fields ready here good ((20, 2) ∷ []) is_changes before

  pub doomed-leaves : LeavesFiles from doomed_record
  doomed-leaves = rewritten-leaves from w fields ready here good ((20, 2) ∷ []) is_changes before

  pub doomed-sealed : entry_is_sealed (entry_at doomed_record w) ≡ true
  doomed-sealed = rewritten-sealed from w fields ready here good ((20, 2) ∷ []) is_changes before

  pub doomed-shown : OnlyRecordFieldsChange w from doomed_record × ((store_of doomed_record).entry w ≡ Some (record fields { state = 2 }))
  doomed-shown =
      let written = rewritten-fields from w fields ready here good ((20, 2) ∷ []) is_changes before later in
      (written.0, written.1 ∙ ap (λ (f : RecordFields). Some f) (doomed-fields (record_at from w) (long-record from w fields ready here good) ∙ ap (λ (f : RecordFields). record f { state = 2 }) (was-fields from w fields ready here good)))

-- ---- the link of a record

module _ (from : Image) (w : ℕ) (fields : RecordFields) (ready : IsWritable from) (here : (store_of from).entry w ≡ Some fields) (good : fields.checks ≡ true) (next : ℕ) (small : next < 2 ^ 32) where
  abbrev pub with_next : Image
  with_next = rewritten from w ((4, next) ∷ [])

  next-changes : AreChanges (seal_place w) ((4, next) ∷ [])
  next-changes = let s = entry-seal w (kind from w fields ready here good) in record {
    few = omega arith;
    aligned = All-cons (λ (c : ℕ × ℕ). c.0 % 4 ≡ 0) (4, next) [] refl (All-nil (λ (c : ℕ × ℕ). c.0 % 4 ≡ 0));
    before = All-cons (λ (c : ℕ × ℕ). c.0 < seal_place w) (4, next) [] (omega (arith, s)) (All-nil (λ (c : ℕ × ℕ). c.0 < seal_place w));
    different = (All-nil (λ (c : ℕ × ℕ). c.0 ≢ 4), tt);
  }

  next-before : All (λ (c : ℕ × ℕ). c.0 + 4 ≤ seal_place w) ((4, next) ∷ [])
  next-before = let s = entry-seal w (kind from w fields ready here good) in All-cons (λ (c : ℕ × ℕ). c.0 + 4 ≤ seal_place w) (4, next) [] (omega (arith, s)) (All-nil (λ (c : ℕ × ℕ). c.0 + 4 ≤ seal_place w))

  pub next-outside : SameOutside (record_range w) from with_next
  next-outside = rewritten-outside from w fields ready here good ((4, next) ∷ []) next-changes next-before

  pub next-leaves : LeavesFiles from with_next
  next-leaves = rewritten-leaves from w fields ready here good ((4, next) ∷ []) next-changes next-before

  pub next-sealed : entry_is_sealed (entry_at with_next w) ≡ true
  next-sealed = rewritten-sealed from w fields ready here good ((4, next) ∷ []) next-changes next-before

  -- only the link changes, and is this then
  pub next-shown : OnlyChainNextChanges w from with_next × ((store_of with_next).chain_next w ≡ next)
  next-shown =
      let update = rewritten-whole from w fields ready here good ((4, next) ∷ []) next-changes next-before in
      let written = follows-written from with_next w next fields (record { here = here; good = good; bytes = ready.bytes }) small update.0 in
      (written.0, written.1 ∙ ap (λ (m : ℕ). if m == 0 then (store_of from).chain_next w else next) update.1)
