-- The word of a bucket and the next of a record, written.
use Rattle.std.proofs.Common.{refl, ◌%◌, inl, inr, ◌≡◌, ◌≢◌, ◌⊎◌, ⊎_elim, ℕ, ◌+◌, ◌^◌, ◌<◌, ◌≤◌, Bool, true, false, List, [], ◌∷◌, take, Option, Some, sym, ap, ◌∙◌, arith}
use Rattle.std.specs.Prelude.{◌==◌, ◌&&◌, if◌then◌else◌}
use Rattle.std.specs.Option.{option_map_or}
use Rattle.std.proofs.lemmas.Bool.{eq-eqb, cases_eq}
use Rattle.std.proofs.lemmas.List.Elements.{All-nil, All-cons}
use Rattle.spec_image.specs.Bytes.{word_bytes}
use Rattle.spec_image.specs.Image.{Index, Block, Image, length_of}
use Rattle.spec_image.specs.Steps.{Word, word_step, with_words, applied, after}
use Rattle.spec_image.specs.Told.{Along}
use Rattle.spec_image.proofs.Footprints.{outside_write}
use Rattle.spec_image.proofs.Images.{word-after_same, length-after_write}
use Rattle.spec_image.proofs.Runs.{until_weaker2, until_last, until_both}
use Rattle.spec_format.specs.Address.{kind_of, file_selector, place, blocks_256}
use Rattle.spec_format.specs.Headers.{place_of_bucket}
use Rattle.spec_format.specs.BlockFiles.{stands_in, IsWellFormed}
use Rattle.spec_format.specs.Sealed.{RecordChecks, IsMidUpdate, IsUpdated, record_at, record_size, seal_place, sealed_steps}
use Rattle.spec_format.proofs.SealedRecords.{moments, updated}
use Rattle.spec_format.proofs.RecordBytes.{take-before_word}
use Rattle.spec_folder.specs.ListView.{put}
use Rattle.spec_folder.specs.View.{RecordFields, list_of, store_of}
use Rattle.spec_folder.specs.Chains.{bucket_of_hash, file_and_block, is_of_bucket}
use Rattle.law_folder.specs.IndexWrites.{IsIndexWord}
use Rattle.spec_folder.specs.ListImages.{IsWritable}
use Rattle.spec_folder.specs.ShownChanges.{OnlyChainNextChanges}
use Rattle.law_folder.proofs.chains.ChainWords.{shown-of, shown-fields, shown-kind, same-fields, record_checks}
use Rattle.spec_format.proofs.Finished.{whole_index, formed-kept}
use Rattle.law_folder.proofs.updates.IndexWords.{buckets-written, buckets-unchecked}
use Rattle.law_folder.proofs.claims.Inside.{updates-inside}
use Rattle.law_folder.proofs.updates.NodeRecords.{are_bytes-word}
use Rattle.law_folder.proofs.updates.Records.{follows-written}
use Rattle.law_folder.proofs.updates.StillShown.{standing-parts, core-standing}
use Rattle.law_folder.proofs.updates.Updates.{entry-seal}
use Rattle.law_folder.proofs.lists.WriteSteps.{stands-small, writable-sealed}
use Rattle.law_recovery.specs.RecordSeals.{KeepsRecordsSealed}
use Rattle.law_recovery.proofs.RecordSeals.{record-fits, update-keeps}
use Rattle.law_recovery.proofs.Frames.{OnlyLinks}
use Rattle.law_recovery.proofs.Paths.{OthersChainNext}

-- ---- the word of a bucket

pub record BucketWritten (from : Image) (bucket x : ℕ) (image : Image) : Type 0 where
  pub list : list_of image ≡ list_of from
  pub store : store_of image ≡ record (store_of from) { table = put (store_of from).table bucket x }
  pub well_formed : IsWellFormed image
  pub writable : IsWritable image

pub bucket-written : (from : Image) (bucket x : ℕ) → IsWellFormed from → IsWritable from → bucket < 65536 → x < 2 ^ 32 → BucketWritten from bucket x (after (word_step Index (place_of_bucket bucket) x) from)
unfolding word_step
bucket-written from bucket x well ready below small =
    let at : ℕ = place_of_bucket bucket in
    let image : Image = applied (Word Index at (word_bytes x)) from in
    let long = whole_index from well in
    let outside = outside_write Index at (word_bytes x) from in
    let is : IsIndexWord at x from image = record { there = word-after_same from Index at x small (omega (arith, below, long)); outside = outside } in
    let written = buckets-written from image bucket x is in
    let same = length-after_write from Index Index at (word_bytes x) in
    let header = ready.has_header in
    record {
      list = written.0;
      store = written.1;
      well_formed = formed-kept from image (buckets-unchecked from image bucket outside) well;
      writable = record { bytes = are_bytes-word Index at x from ready.bytes; has_header = omega (arith, same, header) };
    }

pub shown-small : (image : Image) (w : ℕ) (fields : RecordFields) → (store_of image).entry w ≡ Some fields → w < 2 ^ 32
shown-small image w fields here = stands-small image w (standing-parts image blocks_256 w (core-standing image w fields here)).0

-- ---- the next of a record

-- at a word of the update of a record's next
pub record IsMidNext (from : Image) (w x : ℕ) (image : Image) : Type 0 where
  pub only : OnlyChainNextChanges w from image
  pub chain_next : ((store_of image).chain_next w ≡ (store_of from).chain_next w) ⊎ ((store_of image).chain_next w ≡ x)
  pub well_formed : IsWellFormed image
  pub writable : IsWritable image

module _ (from : Image) (w x : ℕ) (fields : RecordFields) (here : (store_of from).entry w ≡ Some fields) (good : fields.checks ≡ true) (small : x < 2 ^ 32) (well : IsWellFormed from) (ready : IsWritable from) where
  stands : stands_in from w ≡ true
  stands = (standing-parts from blocks_256 w (core-standing from w fields here)).0

  kind : kind_of w ≡ blocks_256
  kind = shown-kind from w fields here

  fits : place w + record_size w ≤ length_of from (Block (file_selector w))
  fits = record-fits from w stands (inr kind)

  checked : RecordChecks w from
  checked = record_checks from w ready.bytes kind (ap (λ (c : RecordFields). c.checks) (shown-fields from w fields here) ∙ good)

  changes : List (ℕ × ℕ)
  changes = (4, x) ∷ []

  by-law : (image : Image) (moment : IsMidUpdate from w ((4, x) ∷ []) image) → OnlyChainNextChanges w from image × ((store_of image).chain_next w ≡ (if moment.made == 0 then (store_of from).chain_next w else x))
  by-law image moment = follows-written from image w x fields (record { here = here; good = good; bytes = ready.bytes }) small moment

  choice : (b : Bool) (f : ℕ) → f ≡ (if b then (store_of from).chain_next w else x) → (f ≡ (store_of from).chain_next w) ⊎ (f ≡ x)
  choice true f e = inl e
  choice false f e = inr e

  to-mid : (image : Image) → IsMidUpdate from w ((4, x) ∷ []) image × IsWritable image → IsMidNext from w x image
  to-mid image p =
      let law = by-law image p.0 in
      record { only = law.0; chain_next = choice (p.0.made == 0) _ law.1; well_formed = formed-kept from image (updates-inside from image w ((4, x) ∷ []) stands (inr kind) p.0).headers well; writable = p.1 }

  each : Along (IsMidUpdate from w ((4, x) ∷ [])) from (sealed_steps from w ((4, x) ∷ []))
  each = let seal = entry-seal w kind in moments w from ((4, x) ∷ []) fits checked (All-cons (λ c. c.0 + 4 ≤ seal_place w) (4, x) [] (omega (arith, seal)) (All-nil (λ c. c.0 + 4 ≤ seal_place w)))

  pub next-along : Along (IsMidNext from w x) from (sealed_steps from w ((4, x) ∷ []))
  next-along =
      let P : Image → Type 0 = IsMidUpdate from w ((4, x) ∷ []) in
      let both = until_both P IsWritable P IsWritable (sealed_steps from w ((4, x) ∷ [])) from each (writable-sealed w ((4, x) ∷ []) from ready) in
      let B : Image → Type 0 = λ i. P i × IsWritable i in
      until_weaker2 B (IsMidNext from w x) B (IsMidNext from w x) (sealed_steps from w ((4, x) ∷ [])) from to-mid to-mid both

  pub next-done : (store_of (after (sealed_steps from w ((4, x) ∷ [])) from)).chain_next w ≡ x
  next-done =
      let new : Image = after (sealed_steps from w ((4, x) ∷ [])) from in
      let P : Image → Type 0 = IsMidUpdate from w ((4, x) ∷ []) in
      let last : IsMidUpdate from w ((4, x) ∷ []) new = until_last P P (sealed_steps from w ((4, x) ∷ [])) from each in
      let done : IsUpdated from w ((4, x) ∷ []) new = updated w from ((4, x) ∷ []) fits in
      let full : IsMidUpdate from w ((4, x) ∷ []) new = record {
        made = 1;
        within = omega arith;
        fields = ap (take (seal_place w)) done ∙ take-before_word (seal_place w) _ (with_words ((4, x) ∷ []) (record_at from w));
        checks = last.checks;
        outside = last.outside;
      } in
      (by-law new full).1

-- after the update of a record's next each record that had its checksum has it
pub record-sealed_next : (from : Image) (w x : ℕ) (fields : RecordFields) → (store_of from).entry w ≡ Some fields → fields.checks ≡ true → IsWritable from → KeepsRecordsSealed from (after (sealed_steps from w ((4, x) ∷ [])) from)
record-sealed_next from w x fields here good ready =
    let kind = shown-kind from w fields here in
    let seal = entry-seal w kind in
    update-keeps from w ((4, x) ∷ []) (standing-parts from blocks_256 w (core-standing from w fields here)).0 (inr kind)
    (record_checks from w ready.bytes kind (ap (λ (c : RecordFields). c.checks) (shown-fields from w fields here) ∙ good))
    (record {
      few = omega arith;
      aligned = All-cons (λ (c : ℕ × ℕ). c.0 % 4 ≡ 0) (4, x) [] refl (All-nil (λ (c : ℕ × ℕ). c.0 % 4 ≡ 0));
      before = All-cons (λ (c : ℕ × ℕ). c.0 < seal_place w) (4, x) [] (omega (arith, seal)) (All-nil (λ (c : ℕ × ℕ). c.0 < seal_place w));
      different = (All-nil (λ (c : ℕ × ℕ). c.0 ≢ 4), tt);
    })
    (All-cons (λ (c : ℕ × ℕ). c.0 + 4 ≤ seal_place w) (4, x) [] (omega (arith, seal)) (All-nil (λ (c : ℕ × ℕ). c.0 + 4 ≤ seal_place w)))

-- ---- what such a word leaves

module _ (from image : Image) (w : ℕ) (fields : RecordFields) (here : (store_of from).entry w ≡ Some fields) (only : OnlyChainNextChanges w from image) where
  pub links-only : OnlyLinks (store_of from) (store_of image) w
  links-only = record { node_fields = only.rest.node_fields; entry = only.entry; key_place = only.rest.key_place; stored = only.rest.stored }

  pub others-chain_next : OthersChainNext (store_of from) (store_of image) w
  others-chain_next x apart = sym (only.chain_next x (λ e. let is : (file_and_block x == file_and_block w) ≡ true = eq-eqb (file_and_block x) (file_and_block w) e in clash (sym is ∙ apart))) where
    clash : true ≡ false → ⊥
    clash e = cc

  pub buckets-same : (b x : ℕ) → is_of_bucket (store_of image) b x ≡ is_of_bucket (store_of from) b x
  buckets-same b x = ap (λ (o : Option RecordFields). option_map_or (λ c. c.checks && (bucket_of_hash c.hash == b)) o false) (sym (only.entry x))

  -- links of records of other buckets are as before
  pub elsewhere-chain_next : (b x : ℕ) → (bucket_of_hash fields.hash == b) ≡ false → is_of_bucket (store_of from) b x ≡ true → (store_of image).chain_next x ≡ (store_of from).chain_next x
  elsewhere-chain_next b x apart of =
      let shown = shown-of (store_of from) b x of in
      ⊎_elim
      (λ (e : file_and_block x ≡ file_and_block w).
      let same : shown.fields ≡ fields = same-fields from x w shown.fields fields shown.here here e in
      let is : (bucket_of_hash fields.hash == b) ≡ true = eq-eqb (bucket_of_hash fields.hash) b (ap (λ (c : RecordFields). bucket_of_hash c.hash) (sym same) ∙ shown.in_bucket) in
      absurd (clash (sym is ∙ apart)))
      (λ (e : file_and_block x ≢ file_and_block w). sym (only.chain_next x e))
      (cases_eq (file_and_block x) (file_and_block w)) where
        clash : true ≡ false → ⊥
        clash e = cc
