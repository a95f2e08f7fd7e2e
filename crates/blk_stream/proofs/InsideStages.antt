-- A stream is written inside its place: the same files are there at each word, and the view has the record with a checksum that matches or is absent.
use Rattle.std.proofs.Common.{◌≡◌, ◌≢◌, ⊎_elim, ℕ, ◌+◌, ◌-◌, ◌<◌, ◌≤◌, Bool, true, false, if◌then◌else◌, List, [], ◌∷◌, length, refl, sym, ◌∙◌, ap, subst, arith}
use Rattle.std.specs.Prelude.{◌==◌, is_some}
use Rattle.std.proofs.lemmas.Bool.{cases_eq, eqb-true}
use Rattle.std.proofs.lemmas.List.Elements.{All-cons, All-nil}
use Rattle.spec_image.specs.Bytes.{zeros}
use Rattle.spec_image.specs.Image.{AreBytes, Block, External, File, Image, Index, has_file}
use Rattle.spec_image.specs.Steps.{SetLength, TrailStep, after, applied, words}
use Rattle.spec_image.specs.Footprint.{Footprint, IsWithin, SameOutside, range, touched_by_all}
use Rattle.spec_image.specs.Told.{Along}
use Rattle.spec_image.proofs.Footprints.{outside-refl, outside_step, outside_steps, words_within}
use Rattle.spec_image.proofs.Images.{with_file-same}
use Rattle.spec_image.proofs.Runs.{until-append, until_both, until_last, until_weaker2}
use Rattle.spec_format.specs.Address.{blocks_256, external, external_number, kind_of}
use Rattle.spec_format.specs.Records.{entry_checks}
use Rattle.spec_format.specs.Sealed.{IsMidUpdate, RecordChecks, record_at, seal_place, sealed_steps, steps_over}
use Rattle.spec_format.proofs.SealedRecords.{entry_seal, moments}
use Rattle.spec_folder.specs.View.{entry_at}
use Rattle.law_folder.proofs.updates.Prefixes.{AreSmall}
use Rattle.blk_disk.specs.declared.tables.BlockFiles.{BlockFiles}
use Rattle.blk_disk.specs.Tables.{Agrees, stands_among}
use Rattle.blk_entry.specs.Keys.{IsInside, data_file, data_start}
use Rattle.blk_entry.specs.Steps.{data_steps}
use Rattle.blk_entry.specs.Writing.{ShareNoBlock}
use Rattle.blk_external.proofs.Changes.{other_number}
use Rattle.blk_alloc.proofs.Changing.{within-trans}
use Rattle.blk_stream.specs.Inside.{WritesInProgress, data_of, here_steps, inside_steps, external_length_steps, room_steps, size_steps, size_words}
use Rattle.blk_stream.specs.Stages.{HasPlaceFile, WritesKeepingFiles}
use Rattle.blk_stream.specs.Streams.{size_place}
use Rattle.blk_stream.proofs.InsideSteps.{checks_same, fits, here_moments, here_outside, inside_moments, mid_checks, mid_record, mid_sealed, record_same, sealed_within}
use Rattle.blk_stream.proofs.RecordSeals.{shown_midst, shown_same, small_record}

-- the same files are there
abbrev SameFiles : Image → Image → Type 0
SameFiles from image = (file : File) → has_file image file ≡ has_file from file

-- any bytes, but no file as a whole
any_bytes : Footprint
any_bytes = record { bytes = λ file i. true; sizes = λ file. false }

no_sizes : (F : Footprint) → ((file : File) → F.sizes file ≡ false) → IsWithin F any_bytes
unfolding any_bytes
no_sizes F none = record { bytes = λ file i e. refl; sizes = λ file e. sym (none file) ∙ e }

files_outside : (from image : Image) → SameOutside any_bytes from image → SameFiles from image
unfolding any_bytes
files_outside from image same file = same.files file refl

-- steps that write bytes alone
bytes_alone : (steps : List TrailStep) (from mid : Image) → IsWithin (touched_by_all steps) any_bytes → SameFiles from mid → Along (SameFiles from) mid steps
bytes_alone steps from mid within was =
    let word : (image : Image) → SameOutside any_bytes mid image → SameFiles from image = λ image same file. files_outside mid image same file ∙ was file in
    until_weaker2 (SameOutside any_bytes mid) (SameFiles from) (SameOutside any_bytes mid) (SameFiles from) steps mid word word (outside_steps any_bytes steps mid mid within (outside-refl any_bytes mid))

data_alone : (w at : ℕ) (bytes : List ℕ) → IsWithin (touched_by_all (data_steps w at bytes)) any_bytes
unfolding data_steps
data_alone w at bytes =
    let R : Footprint = range (data_file w) (data_start w + at) (length bytes) in
    within-trans (touched_by_all (words (data_file w) (data_start w + at) bytes)) R any_bytes (words_within (data_file w) (data_start w + at) (data_start w + at) (length bytes) bytes (omega arith) (omega arith)) (no_sizes R (λ file. refl))

-- an external file that was there gets a length
length_there : (n size : ℕ) (from : Image) → has_file from (External n) ≡ true → SameFiles from (applied (SetLength (External n) size) from)
length_there n size from there Index = (outside_step (SetLength (External n) size) from).files Index refl
length_there n size from there (Block m) = (outside_step (SetLength (External n) size) from).files (Block m) refl
length_there n size from there (External m) =
    ⊎_elim
    (λ (e : m ≡ n). subst (λ (k : ℕ). has_file (applied (SetLength (External n) size) from) (External k) ≡ has_file from (External k)) (sym e) (ap is_some (with_file-same from (External n) _) ∙ sym there))
    (λ (d : m ≢ n). (outside_step (SetLength (External n) size) from).files (External m) (other_number n m d))
    (cases_eq m n)

module _ (from : Image) (entry i w old size offset : ℕ) (bytes record_bytes : List ℕ) (kind : kind_of entry ≡ blocks_256) (there : HasPlaceFile w from) where
  abbrev S : Image → Type 0
  S = SameFiles from

  room_files : Along S from (room_steps w old size offset)
  unfolding room_steps
  room_files = by_test (kind_of w == external) refl
    where
      by_length : (t : Bool) → has_file from (External (external_number w)) ≡ true → Along S from (if t then [] else SetLength (External (external_number w)) size ∷ [])
      by_length true here = λ file. refl
      by_length false here = ((λ file. refl), length_there (external_number w) size from here)

      by_test : (t : Bool) → (kind_of w == external) ≡ t → Along S from (if t then external_length_steps w old size else data_steps w old (zeros (offset - old)))
      by_test true t = by_length (size == old) (there (eqb-true (kind_of w) external t))
      by_test false t = bytes_alone (data_steps w old (zeros (offset - old))) from from (data_alone w old (zeros (offset - old))) (λ file. refl)

  pub here_files : Along S from (here_steps w old size offset bytes)
  here_files =
      until-append S S (room_steps w old size offset) (data_steps w offset bytes) from room_files
      (bytes_alone (data_steps w offset bytes) from (after (room_steps w old size offset) from) (data_alone w offset bytes) (until_last S S (room_steps w old size offset) from room_files))

  size_files : (mid : Image) → S mid → Along S mid (size_steps record_bytes entry i old size)
  unfolding size_steps
  size_files mid was = by_test (size == old)
    where
      by_test : (t : Bool) → Along S mid (if t then [] else steps_over record_bytes entry ((size_place i, size) ∷ []))
      by_test true = was
      by_test false =
          let steps : List TrailStep = steps_over record_bytes entry ((size_place i, size) ∷ []) in
          bytes_alone steps from mid (within-trans (touched_by_all steps) (size_words entry i) any_bytes (sealed_within record_bytes entry i size kind) (no_sizes (size_words entry i) (λ file. refl))) was

  pub inside_files : Along S from (inside_steps record_bytes entry i w old size offset bytes)
  inside_files =
      until-append S S (here_steps w old size offset bytes) (size_steps record_bytes entry i old size) from here_files
      (size_files (after (here_steps w old size offset bytes) from) (until_last S S (here_steps w old size offset bytes) from here_files))

-- At each word the view has the record with a checksum that matches or is absent.

module _ (files : BlockFiles) (entry i w old size offset : ℕ) (bytes : List ℕ) (kind : kind_of entry ≡ blocks_256) (stands : stands_among files entry ≡ true) (small : i < 3)
    (inside : IsInside files w 0 size) (few : offset + length bytes ≤ size) (apart : kind_of w ≢ external → ShareNoBlock entry w) (from : Image) (agrees : Agrees files from) (are_bytes : AreBytes from) (good : RecordChecks entry from) where
  abbrev D : Image → Type 0
  D = SameOutside (data_of w) from

  abbrev C : Image → Type 0
  C image = entry_checks (entry_at image entry) ≡ true

  abbrev here : List TrailStep
  here = here_steps w old size offset bytes

  abbrev mid : Image
  mid = after here from

  abbrev changes : List (ℕ × ℕ)
  changes = (size_place i, size) ∷ []

  by_data : (image : Image) → D image → C image
  by_data image same = shown_same from image entry kind (small_record from entry are_bytes) (record_same files entry w size kind stands inside apart from image same) (checks_same files entry w size kind stands inside apart from image same good)

  outside : Along D from here
  outside = here_outside from w old size offset bytes (λ blocky. let h = inside.room blocky in omega (arith, h)) few

  here_shown : Along C from here
  here_shown = until_weaker2 D C D C here from by_data by_data outside

  by_words : (image : Image) → IsMidUpdate mid entry changes image → C image
  by_words image moment = shown_midst mid image entry changes kind (subst AreSmall (sym (mid_record files entry i w old size offset bytes kind stands small inside few apart from agrees good)) (small_record from entry are_bytes)) moment

  words_shown : Along C mid (sealed_steps mid entry changes)
  words_shown =
      let M : Image → Type 0 = IsMidUpdate mid entry changes in
      until_weaker2 M C M C (sealed_steps mid entry changes) mid by_words by_words
      (moments entry mid changes (fits files entry i w old size offset bytes kind stands small inside few apart from agrees good) (mid_checks files entry i w old size offset bytes kind stands small inside few apart from agrees good)
      (All-cons (λ c. c.0 + 4 ≤ seal_place entry) (size_place i, size) [] (let s : seal_place entry ≡ 92 = entry_seal entry kind in omega (arith, s, small)) (All-nil (λ c. c.0 + 4 ≤ seal_place entry))))

  size_shown : Along C mid (size_steps (record_at from entry) entry i old size)
  unfolding size_steps
  size_shown = by_test (size == old)
    where
      by_test : (t : Bool) → Along C mid (if t then [] else steps_over (record_at from entry) entry changes)
      by_test true = by_data mid (until_last D D here from outside)
      by_test false = subst (λ (s : List TrailStep). Along C mid s) (sym (mid_sealed files entry i w old size offset bytes kind stands small inside few apart from agrees good)) words_shown

  inside_shown : (record_bytes : List ℕ) → record_bytes ≡ record_at from entry → Along C from (inside_steps record_bytes entry i w old size offset bytes)
  inside_shown record_bytes read =
      subst (λ (l : List ℕ). Along C from (inside_steps l entry i w old size offset bytes)) (sym read)
      (until-append C C here (size_steps (record_at from entry) entry i old size) from here_shown size_shown)

-- All that holds at each word.

joined : (from : Image) (entry i w : ℕ) (steps : List TrailStep) → Along (WritesInProgress entry i w from) from steps → Along (λ image. entry_checks (entry_at image entry) ≡ true) from steps → Along (SameFiles from) from steps → Along (WritesKeepingFiles entry i w from) from steps
joined from entry i w steps one two other =
    let M : Image → Type 0 = WritesInProgress entry i w from in
    let C : Image → Type 0 = λ image. entry_checks (entry_at image entry) ≡ true in
    let S : Image → Type 0 = SameFiles from in
    let B : Image → Type 0 = λ image. C image × S image in
    let all : (image : Image) → M image × B image → WritesKeepingFiles entry i w from image = λ image h. record { writes = h.0; shown = h.1.0; files = h.1.1 } in
    until_weaker2 (λ image. M image × B image) (WritesKeepingFiles entry i w from) (λ image. M image × B image) (WritesKeepingFiles entry i w from) steps from all all (until_both M B M B steps from one (until_both C S C S steps from two other))

module _ (files : BlockFiles) (entry i w old size offset : ℕ) (bytes : List ℕ) (kind : kind_of entry ≡ blocks_256) (stands : stands_among files entry ≡ true) (small : i < 3)
    (inside : IsInside files w 0 size) (few : offset + length bytes ≤ size) (apart : kind_of w ≢ external → ShareNoBlock entry w) (from : Image) (agrees : Agrees files from) (are_bytes : AreBytes from) (good : RecordChecks entry from) (there : HasPlaceFile w from) where
  pub here_stages : Along (WritesKeepingFiles entry i w from) from (here_steps w old size offset bytes)
  here_stages =
      joined from entry i w (here_steps w old size offset bytes) (here_moments files entry i w old size offset bytes kind stands small inside few apart from agrees good) (here_shown files entry i w old size offset bytes kind stands small inside few apart from agrees are_bytes good)
      (here_files from entry i w old size offset bytes [] kind there)

  pub inside_stages : (record_bytes : List ℕ) → record_bytes ≡ record_at from entry → Along (WritesKeepingFiles entry i w from) from (inside_steps record_bytes entry i w old size offset bytes)
  inside_stages record_bytes read =
      joined from entry i w (inside_steps record_bytes entry i w old size offset bytes) (inside_moments files entry i w old size offset bytes kind stands small inside few apart from agrees good record_bytes read) (inside_shown files entry i w old size offset bytes kind stands small inside few apart from agrees are_bytes good record_bytes read)
      (inside_files from entry i w old size offset bytes record_bytes kind there)
