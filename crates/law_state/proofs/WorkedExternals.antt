-- In the worked folder an external file is made, and is unlinked then, and deleted again.
use Rattle.std.proofs.Common.{◌≡◌, ℕ, [], ◌∷◌, refl, lit<, false, true}
use Rattle.spec_image.specs.Bytes.{word_bytes}
use Rattle.spec_image.specs.Footprint.{SameOutside, either, one_word, whole}
use Rattle.spec_image.specs.Image.{External, Image, Index, has_file}
use Rattle.spec_image.specs.Steps.{Delete, SetLength, Word, applied}
use Rattle.spec_image.proofs.Footprints.{outside-trans, outside_step, outside_wider, within_left, within_right}
use Rattle.spec_format.specs.Address.{external, external_number, is_address, is_initialized, kind_of, names_external}
use Rattle.spec_format.specs.BlockFiles.{stands_in}
use Rattle.spec_format.specs.Claims.{ExternalOf, same_claim}
use Rattle.spec_format.specs.Standing.{stands}
use Rattle.law_state.specs.Changes.{AddsExternal, ChangesOnly, StillFinds}
use Rattle.law_state.specs.ExternalLaws.{IsMakingExternal}
use Rattle.law_state.specs.Keeping.{KeepsUncounted}
use Rattle.law_state.proofs.Externals.{deleted-removed, deleting-finds, made-added, making-finds}
use Rattle.law_state.proofs.MakingFiles.{deleted-gone, made-unlinked}
use Rattle.law_state.proofs.WorkedFolder.{short_folder}
use Rattle.law_state.proofs.WorkedKept.{worked-keeps, worked_folder}
use Rattle.law_state.proofs.WorkedState.{worked, worked_layout}
use Rattle.law_state.proofs.Writes.{external-writes, index-words}

-- the word of file 1
abbrev pub first_file : ℕ
first_file = 0x80000001

abbrev pub with_empty : Image
with_empty = applied (SetLength (External 1) 0) worked_folder

-- it is there, and the index has its number
abbrev pub made_folder : Image
made_folder = applied (Word Index 16 (word_bytes 1)) with_empty

pub is-external : (kind_of first_file ≡ external) × (external_number first_file ≡ 1)
unfolding kind_of external_number
is-external = (refl, refl)

making : IsMakingExternal worked_folder (external_number first_file) made_folder
unfolding worked_folder short_folder external_number
making = record {
  small = lit< tt;
  absent = refl;
  same = outside-trans (either (whole (External 1)) (one_word Index 16)) worked_folder with_empty made_folder
      (outside_wider (whole (External 1)) (either (whole (External 1)) (one_word Index 16)) worked_folder with_empty (within_left (whole (External 1)) (one_word Index 16)) (outside_step (SetLength (External 1) 0) worked_folder))
      (outside_wider (one_word Index 16) (either (whole (External 1)) (one_word Index 16)) with_empty made_folder (within_right (whole (External 1)) (one_word Index 16)) (outside_step (Word Index 16 (word_bytes 1)) with_empty));
}

its-file : (has_file made_folder (External (external_number first_file)) ≡ true) × (stands_in made_folder first_file ≡ true)
unfolding external_number stands is_address is_initialized names_external kind_of
its-file = (refl, refl)

making_finds : StillFinds [] worked_folder made_folder
making_finds = making-finds worked_folder made_folder (external_number first_file) making

made : AddsExternal worked_folder first_file made_folder
made = made-added worked_folder made_folder first_file worked-keeps.entries.sound is-external.0 making its-file.0 its-file.1

-- the new file is unlinked
pub file_is_unlinked : KeepsUncounted worked worked_layout (first_file ∷ []) made_folder
file_is_unlinked = made-unlinked first_file worked_folder made_folder made worked worked_layout [] worked-keeps.entries

-- the new file is deleted
abbrev deleted_folder : Image
deleted_folder = applied (Delete (External 1)) made_folder

deleting : SameOutside (whole (External (external_number first_file))) made_folder deleted_folder
unfolding external_number
deleting = outside_step (Delete (External 1)) made_folder

deleting_finds : StillFinds (first_file ∷ []) made_folder deleted_folder
deleting_finds = deleting-finds made_folder deleted_folder first_file is-external.0 deleting

gone : has_file deleted_folder (External (external_number first_file)) ≡ false
unfolding external_number
gone = refl

file_is_gone : KeepsUncounted worked worked_layout [] deleted_folder
file_is_gone = deleted-gone first_file made_folder deleted_folder (deleted-removed made_folder deleted_folder first_file file_is_unlinked.sound is-external.0 its-file.1 deleting gone) worked worked_layout [] file_is_unlinked

-- its making writes a word of the index that is not kept, and its bytes may change
index_changes : ChangesOnly (λ claim. false) with_empty made_folder
index_changes = index-words with_empty made_folder 16 refl (lit< tt) refl refl refl (outside_step (Word Index 16 (word_bytes 1)) with_empty)

abbrev longer_folder : Image
longer_folder = applied (SetLength (External 1) 4) made_folder

file_changes : ChangesOnly (λ claim. same_claim claim (ExternalOf 1)) made_folder longer_folder
file_changes = external-writes made_folder longer_folder 1 (outside_step (SetLength (External 1) 4) made_folder) refl
