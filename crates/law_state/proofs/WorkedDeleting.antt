-- In the worked folder, while an external file is unlinked, `b` is removed, and then the file is deleted.
use Rattle.std.proofs.Common.{◌≡◌, ℕ, ◌<◌, List, [], ◌∷◌, ◌++◌, ◌≤◌, refl, sym, subst, lit<, false, true, Some, codes}
use Rattle.std.proofs.lemmas.List.Sorted.{IsPermutation-append_comm}
use Rattle.spec_image.specs.Bytes.{resized, word_bytes, zeros}
use Rattle.spec_image.specs.Footprint.{SameOutside, whole}
use Rattle.spec_image.specs.Image.{AreBytes, External, Image, Index, bytes_of, has_file}
use Rattle.spec_image.specs.Steps.{Delete, applied}
use Rattle.spec_image.proofs.ByteSteps.{are_bytes-with_file}
use Rattle.spec_image.proofs.Footprints.{outside_step}
use Rattle.spec_image.proofs.Images.{length-after_write}
use Rattle.blk_model.specs.Effects.{doomed}
use Rattle.blk_model.specs.Holding.{rest}
use Rattle.blk_model.specs.Items.{main}
use Rattle.spec_format.specs.Address.{external_number}
use Rattle.spec_format.specs.Headers.{header_length}
use Rattle.spec_folder.specs.ListImages.{IsWritable}
use Rattle.spec_folder.specs.Sound.{words_of}
use Rattle.law_folder.proofs.updates.NodeRecords.{are_bytes-word}
use Rattle.law_state.specs.Changes.{Finds, RemovesExternal}
use Rattle.law_state.specs.PartlyOut.{IsOneMoreOut, KeepsPartlyOut, chains_but}
use Rattle.law_state.proofs.Externals.{deleted-removed}
use Rattle.law_state.proofs.GoingOut.{goes-out, unchained, unlisted}
use Rattle.law_state.proofs.OneMoreOut.{one-more-goes}
use Rattle.law_state.proofs.PartlyFreed.{files-deleted}
use Rattle.law_state.proofs.PartlyOut.{kept-begin}
use Rattle.law_state.proofs.PartlyOutStops.{deleting-doomed, own-items-leave}
use Rattle.law_state.proofs.UnlinkedOrder.{out-in-any-order}
use Rattle.law_state.proofs.WorkedDooms.{but_b}
use Rattle.law_state.proofs.WorkedExternals.{file_is_unlinked, first_file, is-external, made_folder, with_empty}
use Rattle.law_state.proofs.WorkedFolder.{short_folder}
use Rattle.law_state.proofs.WorkedKept.{worked_folder}
use Rattle.law_state.proofs.WorkedRemovals.{alone_b, worked-writable}
use Rattle.law_state.proofs.WorkedState.{chain_of, nodes, plain_object, records, the_plain, worked, worked_layout}

-- ---- `b` is removed

empty-bytes : AreBytes with_empty
unfolding resized zeros worked_folder short_folder
empty-bytes = are_bytes-with_file worked_folder (External 1) (Some (resized 0 (bytes_of worked_folder (External 1)))) worked-writable.bytes (λ k. lit< tt)

made-writable : IsWritable made_folder
made-writable = record { bytes = are_bytes-word Index 16 1 with_empty empty-bytes; has_header = subst (λ (n : ℕ). header_length ≤ n) (sym (length-after_write with_empty Index Index 16 (word_bytes 1))) worked-writable.has_header }

all_there : KeepsPartlyOut worked worked_layout (λ item. true) chain_of (first_file ∷ []) made_folder
all_there = kept-begin worked worked_layout (first_file ∷ []) made_folder file_is_unlinked

abbrev without_b : Image
without_b = unchained (unlisted made_folder (nodes 2)) 0xA0E1

abbrev chains_left : ℕ → List ℕ
chains_left = chains_but chain_of (records 2)

b-goes : IsOneMoreOut worked_layout chain_of (main (codes "b")) the_plain made_folder without_b
b-goes = goes-out worked worked_layout (λ item. true) chain_of (first_file ∷ []) made_folder all_there made-writable (main (codes "b")) the_plain refl (nodes 1 ∷ nodes 0 ∷ []) [] refl 0xA0E1 alone_b

b_is_out : KeepsPartlyOut worked worked_layout but_b chains_left (words_of the_plain ++ first_file ∷ []) without_b
b_is_out = one-more-goes worked worked_layout (λ item. true) chain_of (first_file ∷ []) (main (codes "b")) the_plain made_folder without_b all_there refl refl b-goes

-- the word of the file may be in front
file_in_front : KeepsPartlyOut worked worked_layout but_b chains_left (first_file ∷ words_of the_plain) without_b
file_in_front = out-in-any-order worked worked_layout but_b chains_left (words_of the_plain ++ first_file ∷ []) (first_file ∷ words_of the_plain) without_b b_is_out (IsPermutation-append_comm (words_of the_plain) (first_file ∷ []))

-- ---- the file is deleted

abbrev deleted_folder : Image
deleted_folder = applied (Delete (External 1)) without_b

deleting : SameOutside (whole (External (external_number first_file))) without_b deleted_folder
unfolding external_number
deleting = outside_step (Delete (External 1)) without_b

-- meanwhile the durable contents with `b` doomed are recovered
deleting_finds : Finds (rest (doomed 0 worked (Some plain_object))) deleted_folder
deleting_finds = deleting-doomed worked worked_layout 0 plain_object but_b chains_left first_file (words_of the_plain) without_b deleted_folder refl (own-items-leave (codes "b")).0 file_in_front is-external.0 deleting

gone : has_file deleted_folder (External (external_number first_file)) ≡ false
unfolding external_number
gone = refl

file_is_deleted : RemovesExternal without_b first_file deleted_folder
file_is_deleted = deleted-removed without_b deleted_folder first_file file_in_front.sound is-external.0 file_in_front.stand.0 deleting gone

b_stays_out : KeepsPartlyOut worked worked_layout but_b chains_left (words_of the_plain) deleted_folder
b_stays_out = files-deleted worked worked_layout but_b chains_left first_file (words_of the_plain) without_b deleted_folder file_in_front file_is_deleted
