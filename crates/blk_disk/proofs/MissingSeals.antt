-- A record gets its checksum, where that is absent.
use Rattle.std.proofs.Common.{◌≡◌, ℕ, ◌+◌, ◌%◌, ◌≤◌, Bool, true, false, if◌then◌else◌, List, [], ◌∷◌, Option, None, Some, refl, sym, ◌∙◌, ap, ap₂, subst, arith}
use Rattle.std.specs.Option.{ForSome}
use Rattle.std.proofs.lemmas.List.Elements.{All-cons, All-nil}
use Rattle.spec_image.specs.Image.{AreBytes, Block, Image, length_of}
use Rattle.spec_image.specs.Steps.{after, word_step}
use Rattle.spec_image.specs.Footprint.{SameOutside}
use Rattle.spec_image.specs.Told.{Told, Applies, AppliesPrefix, Passes, Along, Until, IsQuiet}
use Rattle.spec_image.proofs.Footprints.{outside-refl}
use Rattle.spec_image.proofs.Runs.{passes_part, some_inj, told_part, told_whole, until_weaker2}
use Rattle.spec_image.proofs.WordSteps.{quiet-word_step}
use Rattle.spec_format.specs.Address.{file_selector, kind_of, place}
use Rattle.spec_format.specs.Records.{seal_of}
use Rattle.spec_format.specs.Sealed.{BeginsWithRecord, IsMidUpdate, IsUpdated, RecordChecks, is_sealed, record_at, record_range, record_size, seal_by_kind, seal_place, seal_steps}
use Rattle.spec_format.proofs.SealedRecords.{seal_aligned, sealed_after, sealing, words_stay}
use Rattle.blk_disk.specs.declared.tables.BlockFiles.{BlockFiles}
use Rattle.blk_disk.specs.Tables.{Agrees, stands_among}
use Rattle.blk_disk.specs.Unsealed.{missing_seal, missing_steps}
use Rattle.blk_disk.proofs.Agreeing.{agrees_still}
use Rattle.blk_disk.proofs.SealedWrites.{record_fits, place_aligned, spares}

pub seal_place_aligned : (w : ℕ) → BeginsWithRecord w → (place w + seal_place w) % 4 ≡ 0
seal_place_aligned w begins = omega (arith, place_aligned w begins, seal_aligned (kind_of w))

-- the steps that were found for some bytes
steps_by : (w : ℕ) (bytes : List ℕ) → missing_steps w (missing_seal (seal_place w) bytes) ≡ (if is_sealed (seal_place w) bytes then [] else word_step (Block (file_selector w)) (place w + seal_place w) (seal_of (seal_place w) bytes))
steps_by w bytes = by_test (is_sealed (seal_place w) bytes)
  where
    by_test : (t : Bool) → missing_steps w (if t then None else Some (seal_of (seal_place w) bytes)) ≡ (if t then [] else word_step (Block (file_selector w)) (place w + seal_place w) (seal_of (seal_place w) bytes))
    by_test true = refl
    by_test false = refl

missing_quiet : (w : ℕ) (missing : Option ℕ) → IsQuiet (missing_steps w missing)
missing_quiet w None = tt
missing_quiet w (Some seal) = quiet-word_step (Block (file_selector w)) (place w + seal_place w) seal refl

-- the checksum lies in the record
missing_outside : (w : ℕ) (missing : Option ℕ) (from : Image) → Along (SameOutside (record_range w) from) from (missing_steps w missing)
unfolding word_step
missing_outside w None from = outside-refl (record_range w) from
missing_outside w (Some seal) from =
    words_stay w ((seal_place w, seal) ∷ []) from from (All-cons (λ c. c.0 ≤ seal_place w) (seal_place w, seal) [] (omega arith) (All-nil (λ c. c.0 ≤ seal_place w))) (outside-refl (record_range w) from)

pub agrees_sealed : (files : BlockFiles) (w : ℕ) (missing : Option ℕ) (a b : Told) → ForSome a.files (Agrees files) → AppliesPrefix a b (missing_steps w missing) → ForSome b.files (Agrees files)
agrees_sealed files w missing a b agrees front =
    told_part (Agrees files) front
    (λ from there.
    let same = SameOutside (record_range w) from in
    let keeps : (image : Image) → same image → Agrees files image = (λ image kept. agrees_still (record_range w) from image (spares w) kept files (λ n. refl) (agrees from there)) in
    until_weaker2 same (Agrees files) same (Agrees files) (missing_steps w missing) from keeps keeps (missing_outside w missing from))

module _ (files : BlockFiles) (w : ℕ) (stands : stands_among files w ≡ true) (begins : BeginsWithRecord w) (a m b : Told) (stays : m ≡ a) (agrees : ForSome a.files (Agrees files))
    (kind : ℕ) (missing : Option ℕ) (bytes : List ℕ) (is_kind : kind ≡ kind_of w) (found : missing ≡ missing_seal (seal_by_kind kind) bytes) (read : ForSome a.files (λ image. bytes ≡ record_at image w)) where
  inside : (from : Image) → a.files ≡ Some from → place w + record_size w ≤ length_of from (Block (file_selector w))
  inside from there = record_fits files w stands begins from (agrees from there)

  steps_are : (from : Image) → a.files ≡ Some from → missing_steps w missing ≡ seal_steps from w
  unfolding seal_steps
  steps_are from there =
      ap (missing_steps w) (found ∙ ap₂ (λ (k : ℕ) (b : List ℕ). missing_seal (seal_by_kind k) b) is_kind (read from there)) ∙ steps_by w (record_at from w)

  pub steps_sealed : Applies m b (missing_steps w missing) → ForSome a.files (λ from. Applies a b (seal_steps from w))
  steps_sealed applies from there = subst (λ (t : Told). Applies t b (seal_steps from w)) stays (subst (Applies m b) (steps_are from there) applies)

  pub prefix_sealed : AppliesPrefix m b (missing_steps w missing) → ForSome a.files (λ from. AppliesPrefix a b (seal_steps from w))
  prefix_sealed front from there = subst (λ (t : Told). AppliesPrefix t b (seal_steps from w)) stays (subst (AppliesPrefix m b) (steps_are from there) front)

  pub stops_sealed : AppliesPrefix m b (missing_steps w missing) → ForSome a.files (λ from. RecordChecks w from → Passes a b (IsMidUpdate from w []))
  stops_sealed front from there good =
      let moment = IsMidUpdate from w [] in
      passes_part moment moment (prefix_sealed front from there) (subst IsQuiet (steps_are from there) (missing_quiet w missing)) (λ image m. m)
      (λ image here. subst (λ (i : Image). Until moment moment i (seal_steps from w)) (some_inj (sym there ∙ here)) (sealing w from (inside from there) good))

  pub updated_sealed : ForSome a.files AreBytes → Applies m b (missing_steps w missing) → ForSome a.files (λ from. ForSome b.files (IsUpdated from w []))
  updated_sealed are_bytes applies from there =
      told_whole (IsUpdated from w []) (steps_sealed applies from there)
      (λ image here. subst (λ (i : Image). IsUpdated from w [] (after (seal_steps from w) i)) (some_inj (sym there ∙ here)) (sealed_after w from (inside from there) (are_bytes from there)))
