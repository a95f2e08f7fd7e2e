-- Worked folders: a consistent one, in which nothing is left to repair, and one of which a node is dropped.
use Rattle.std.proofs.Common.{false, true, ◌++◌, ◌≡◌, ℕ, zero, suc, List, [], ◌∷◌, length, refl, sym, ap, ◌∙◌, subst, arith, lit<}
use Rattle.std.specs.Prelude.{◌==◌, map}
use Rattle.std.specs.List.{sum_by}
use Rattle.spec_format.specs.NewFolder.{new_index_words, new_file_words}
use Rattle.spec_format.specs.Headers.{first_version, index_length}
use Rattle.spec_image.specs.Steps.{with_words}
use Rattle.spec_image.specs.Bytes.{zeros, word_bytes}
use Rattle.spec_image.specs.Image.{Index, Block, External, File, byte, bytes_of}
use Rattle.spec_image.specs.Steps.{Delete, Word, applied, after}
use Rattle.spec_image.specs.Told.{Along}
use Rattle.spec_image.proofs.Footprints.{outside_write, outside_step}
use Rattle.blk_model.specs.State.{Bounds}
use Rattle.blk_model.specs.Holding.{open_state}
use Rattle.blk_model.specs.Items.{IsValidHolding}
use Rattle.spec_folder.specs.View.{view_of}
use Rattle.spec_folder.specs.Completion.{remove}
use Rattle.spec_folder.specs.Loads.{Loaded}
use Rattle.spec_folder.specs.Found.{charge_of, kept, found}
use Rattle.spec_folder.specs.Layout.{Represents}
use Rattle.spec_folder.specs.StandsFor.{StandsFor}
use Rattle.spec_folder.specs.ListImages.{IsWritable, completed_walk, operation_steps}
use Rattle.law_folder.proofs.examples.ExampleFolders.{whole-counts, whole-is_kept, whole-is_sound}
use Rattle.law_folder.proofs.examples.FirstVersion.{first_folder, first-version}
use Rattle.law_folder.proofs.examples.ExampleUses.{whole-writable}
use Rattle.law_folder.proofs.examples.ExampleWrites.{small-zeros}
use Rattle.spec_format.proofs.Counts.{its-version}
use Rattle.spec_format.proofs.Finished.{whole_index}
use Rattle.law_folder.proofs.updates.Prefixes.{AreSmall, small-take, small-words}
use Rattle.law_folder.proofs.examples.SmallFolder.{cut_to, cut_is_well_formed, cut_is_walked, cut_is_kept}
use Rattle.law_folder.proofs.examples.WholeFolder.{whole_folder, whole-is_well_formed, whole-linked}
use Rattle.law_recovery.specs.ListRepair.{HoldsTheSame, HasRemoved, IsListMended, dropped_nodes, ended_image, all_but}
use Rattle.law_recovery.specs.ChainRepair.{HasChainsUpTo}
use Rattle.law_recovery.specs.RecordSeals.{KeepsRecordsSealed}
use Rattle.law_folder.proofs.examples.OneEntry as one
use Rattle.law_recovery.specs.LinkRepair.{link_repair_steps}
use Rattle.law_recovery.specs.MendedLinks.{HasMendedLinks, kept_layout}
use Rattle.law_recovery.specs.MendedChanges.{KeepsMendedLinks}
use Rattle.law_recovery.specs.Mended.{HasMendedFiles, IsMended}
use Rattle.law_recovery.proofs.ListRepair.{dropped-are, removals-begin, kept-passed_by, others-removed, removals-end}
use Rattle.law_recovery.proofs.ChainRepair.{chains-begin}
use Rattle.law_recovery.proofs.LinkRepair.{links-repaired}
use Rattle.law_recovery.proofs.FoundHolding.{found-holding}
use Rattle.law_recovery.proofs.MendedLinks.{links-represent}
use Rattle.law_recovery.proofs.MendedChanges.{unclaimed-change, unlinked-deleted, hidden-change}
use Rattle.law_recovery.proofs.Mended.{mended-folders}
use Rattle.law_recovery.proofs.MendedParts.{unlinked-leave, files-mended, rebuilt-mended}
use Rattle.law_recovery.proofs.RecordSeals.{words-behind}
use Rattle.law_recovery.proofs.KeptRecords.{kept-nodes-check, kept-records-check}
use Rattle.law_recovery.proofs.ChainRepair.{buckets-mended}
use Rattle.law_recovery.specs.ChainRepair.{IsStandingRecord, chain_steps, is_kept_record, kept_records}
use Rattle.law_folder.proofs.claims.Allocations.{sound-allocated}
use Rattle.spec_image.specs.Footprint.{one_word}
use Rattle.spec_format.specs.Address.{rankings, blocks_256}
use Rattle.spec_format.specs.Claims.{Claim, ExternalOf, has_claim}
use Rattle.spec_folder.specs.Loads.{claims_of_loaded}
use Rattle.spec_image.specs.Image.{External}
use Rattle.spec_format.specs.BlockFiles.{is_among}
use Rattle.law_recovery.proofs.SoundFolders.{sound-mended, mended-none}

-- ---- a consistent folder

whole-mended : IsMended whole_folder
whole-mended = sound-mended whole_folder whole-is_sound (its-version (byte whole_folder Index) 1 3 whole-counts)

-- a folder of the first version is consistent, and its version is to be upgraded
first-is_not_mended : IsMended first_folder → ⊥
first-is_not_mended mended =
    let c : true ≡ false = ap (λ (v : ℕ). v == first_version) (sym first-version ∙ its-version (byte first_folder Index) (length (kept first_folder)) (sum_by charge_of (kept first_folder)) mended.counters) in cc

whole-links : HasMendedLinks whole_folder
whole-links = whole-mended.links

whole-needs_no_step : link_repair_steps whole_folder ≡ []
whole-needs_no_step = mended-none whole_folder whole-links

whole-represents : (limits : Bounds) → Represents (view_of whole_folder) (open_state (found whole_folder) limits) (kept_layout whole_folder)
whole-represents limits = links-represent whole_folder limits whole-links whole-writable.bytes

whole-stands_for : (limits : Bounds) → StandsFor whole_folder (open_state (found whole_folder) limits)
whole-stands_for limits = mended-folders whole_folder limits whole-mended whole-writable.bytes

whole-holds : IsValidHolding (found whole_folder)
whole-holds = found-holding whole_folder whole-writable.bytes

-- before the repair of its chains no bucket of the whole folder is repaired yet
whole-begins : HasChainsUpTo whole_folder 0 whole_folder
whole-begins = chains-begin whole_folder whole-is_well_formed whole-writable (record { idle = whole-links.rests.idle; all_kept = whole-links.all_kept })

-- a block file that isn't linked is deleted, and the crash word is written
whole-without_file : KeepsMendedLinks whole_folder (applied (Delete (Block 9)) whole_folder) × HasMendedFiles (applied (Delete (Block 9)) whole_folder)
whole-without_file = let keeps = unlinked-deleted whole_folder 9 whole-links (whole-linked 9) in (keeps, unlinked-leave whole_folder 9 (whole-linked 9) keeps whole-mended.files)

unclaimed : has_claim (claims_of_loaded (one.loaded 0 ∷ [])) (ExternalOf 7) ≡ false
unfolding has_claim
unclaimed = ap (λ (cs : List Claim). has_claim (cs ++ []) (ExternalOf 7)) one.claims

whole-without_external : KeepsMendedLinks whole_folder (applied (Delete (External 7)) whole_folder)
whole-without_external =
    unclaimed-change whole_folder (applied (Delete (External 7)) whole_folder) 7 whole-links (ap (λ (ks : List Loaded). has_claim (claims_of_loaded ks) (ExternalOf 7)) whole-is_kept ∙ unclaimed) (outside_step (Delete (External 7)) whole_folder)

whole-crashed : KeepsMendedLinks whole_folder (applied (Word Index 32 (word_bytes 1)) whole_folder)
whole-crashed = hidden-change whole_folder (applied (Word Index 32 (word_bytes 1)) whole_folder) 32 whole-links refl (omega arith) refl refl (outside_write Index 32 (word_bytes 1) whole_folder)

whole-stands_behind : HasMendedFiles (applied (Word Index 32 (word_bytes 1)) whole_folder)
whole-stands_behind = (files-mended (one_word Index 32) whole_folder (applied (Word Index 32 (word_bytes 1)) whole_folder) (words-behind 32) (outside_write Index 32 (word_bytes 1) whole_folder) whole-links whole-crashed).0 whole-mended.files

-- the first bucket of the whole folder is repaired, and the node and the record that it keeps can be written
whole-bucket : HasChainsUpTo whole_folder 1 (after (chain_steps 0 (kept_records whole_folder 0) whole_folder) whole_folder)
whole-bucket = (buckets-mended whole_folder whole_folder 0 whole-is_well_formed (record { idle = whole-links.rests.idle; all_kept = whole-links.all_kept }) (omega arith) whole-begins).1

whole-node : IsStandingRecord rankings whole_folder one.node
whole-node = kept-nodes-check whole_folder whole-writable one.node (ap (λ (ks : List Loaded). is_among (map (λ k. k.node) ks) one.node) whole-is_kept)

whole-record : IsStandingRecord blocks_256 whole_folder one.contents
whole-record = kept-records-check whole_folder whole-writable one.contents (ap (λ (ks : List Loaded). is_kept_record ks one.contents) whole-is_kept)

-- the block files of the whole folder are as a rebuild leaves them
whole-rebuilt : HasMendedFiles whole_folder
whole-rebuilt = rebuilt-mended whole_folder (λ n linked. let c = whole-mended.files.counted n linked in record { allocations = sound-allocated whole_folder whole-is_sound n linked; empty = c.empty; updating = c.updating }) whole-mended.files.long_enough

-- ---- a folder of two nodes, of which the second names no record

cut-small : (file : File) → AreSmall (bytes_of (cut_to 8448) file)
unfolding cut_to
cut-small Index = small-words (new_index_words 50 ++ (288, 0x90000000) ∷ (308, 0x90000001) ∷ (171896, 0xA0010000) ∷ (165108, 0xA0010001) ∷ []) (zeros index_length) (small-zeros index_length)
cut-small (Block zero) = small-words (new_file_words 0 ++ (20, 1024) ∷ (8208, 0x90000001) ∷ (8212, 0x90000000) ∷ (8216, 0xA0010000) ∷ (8244, 0x90000001) ∷ (8248, 0x90000000) ∷ (8252, 0xA0010001) ∷ []) (zeros 8264) (small-zeros 8264)
cut-small (Block (suc zero)) = small-take 8448 (with_words (new_file_words 1 ++ (20, 1024) ∷ (8192, 0x115EA782) ∷ (8200, 0x90000000) ∷ (8224, 1) ∷ (8288, 97) ∷ (8448, 0x70C1A0E1) ∷ (8456, 0x90000001) ∷ (8480, 1) ∷ (8544, 98) ∷ []) (zeros 8704)) (small-words (new_file_words 1 ++ (20, 1024) ∷ (8192, 0x115EA782) ∷ (8200, 0x90000000) ∷ (8224, 1) ∷ (8288, 97) ∷ (8448, 0x70C1A0E1) ∷ (8456, 0x90000001) ∷ (8480, 1) ∷ (8544, 98) ∷ []) (zeros 8704) (small-zeros 8704))
cut-small (Block (suc (suc zero))) = small-words (new_file_words 2) (zeros 8192) (small-zeros 8192)
cut-small (Block (suc (suc (suc zero)))) = small-words (new_file_words 3) (zeros 8192) (small-zeros 8192)
cut-small (Block (suc (suc (suc (suc n))))) = λ i. lit< tt
cut-small (External n) = λ i. lit< tt

cut-writable : IsWritable (cut_to 8448)
cut-writable = record { bytes = λ file i. cut-small file i; has_header = let long = whole_index (cut_to 8448) cut_is_well_formed in omega (arith, long) }

-- the repair of the folder's links keeps the recovered contents at each word, and in the end the links are repaired
cut-repaired : Along (HoldsTheSame (cut_to 8448)) (cut_to 8448) (link_repair_steps (cut_to 8448)) × HasMendedLinks (after (link_repair_steps (cut_to 8448)) (cut_to 8448)) × KeepsRecordsSealed (cut_to 8448) (after (link_repair_steps (cut_to 8448)) (cut_to 8448))
cut-repaired = links-repaired (cut_to 8448) cut_is_well_formed cut-writable

cut-kept_nodes : map (λ (k : Loaded). k.node) (kept (cut_to 8448)) ≡ 0x90000000 ∷ []
cut-kept_nodes = ap (map (λ (k : Loaded). k.node)) cut_is_kept

-- the second node is the one that is dropped
cut-dropped : dropped_nodes (ended_image (cut_to 8448)) ≡ 0x90000001 ∷ []
cut-dropped = dropped-are (cut_to 8448) cut_is_well_formed cut-writable ∙ ap (λ (nodes : List ℕ). all_but nodes (map (λ (k : Loaded). k.node) (kept (cut_to 8448)))) cut_is_walked ∙ ap (all_but (0x90000000 ∷ 0x90000001 ∷ [])) cut-kept_nodes

cut-begins : HasRemoved (cut_to 8448) [] (0x90000000 ∷ 0x90000001 ∷ []) (0x90000000 ∷ []) (ended_image (cut_to 8448))
cut-begins =
    subst (λ (nodes : List ℕ). HasRemoved (cut_to 8448) [] nodes (0x90000000 ∷ []) (ended_image (cut_to 8448))) cut_is_walked
    (subst (λ (others : List ℕ). HasRemoved (cut_to 8448) [] (completed_walk (cut_to 8448)) others (ended_image (cut_to 8448))) cut-kept_nodes (removals-begin (cut_to 8448) cut_is_well_formed cut-writable))

-- the first node stays, the second is taken out, and then the list is repaired
cut-passed : HasRemoved (cut_to 8448) (0x90000000 ∷ []) (0x90000001 ∷ []) [] (ended_image (cut_to 8448))
cut-passed = kept-passed_by (cut_to 8448) (ended_image (cut_to 8448)) [] 0x90000000 (0x90000001 ∷ []) [] cut_is_well_formed cut-writable cut-begins

cut-ends : IsListMended (cut_to 8448) (after (operation_steps remove 0x90000001 (ended_image (cut_to 8448))) (ended_image (cut_to 8448)))
cut-ends =
    let removed = others-removed (cut_to 8448) (ended_image (cut_to 8448)) (0x90000000 ∷ []) 0x90000001 [] [] cut_is_well_formed cut-writable cut-passed refl in
    removals-end (cut_to 8448) _ (0x90000000 ∷ []) cut_is_well_formed cut-writable removed.1
