-- In the worked folder, once the main item of `a` is out, the blocks of its index are freed, while its part is listed still.
use Rattle.std.proofs.Common.{◌≡◌, ap, refl, ℕ, List, [], ◌∷◌, ◌++◌, ◌∙◌, Some, codes}
use Rattle.std.specs.List.{flat_map}
use Rattle.std.specs.Prelude.{filter, is_some}
use Rattle.std.proofs.lemmas.List.Sorted.{IsPermutation-middle}
use Rattle.spec_image.specs.Image.{Image}
use Rattle.blk_model.specs.Effects.{doomed}
use Rattle.blk_model.specs.State.{State}
use Rattle.spec_format.specs.Address.{file_selector, kind_of}
use Rattle.spec_format.specs.BlockFiles.{linked_as}
use Rattle.spec_format.specs.Claims.{is_in_file}
use Rattle.spec_folder.specs.Layout.{Layout}
use Rattle.spec_folder.specs.Removal.{is_of_another, without_items}
use Rattle.spec_folder.specs.Sound.{words_of}
use Rattle.law_state.specs.AllocationLaws.{AreFreed}
use Rattle.law_state.specs.Changes.{AddsAllocation}
use Rattle.law_state.specs.GroupLaws.{gone_nodes, layout_less}
use Rattle.law_state.specs.Keeping.{KeepsUncounted, all_loaded}
use Rattle.law_state.specs.PartlyOut.{KeepsPartlyOut, chains_but}
use Rattle.law_state.proofs.Allocating.{allocated-unlinked}
use Rattle.law_state.proofs.Freed.{allocated-added, freed-removed}
use Rattle.law_state.proofs.Freeing.{freed-gone}
use Rattle.law_state.proofs.Headers.{linked-same}
use Rattle.law_state.proofs.PartlyFreed.{blocks-freed}
use Rattle.law_state.proofs.UnlinkedOrder.{kept-in-any-order, out-in-any-order}
use Rattle.law_state.proofs.WorkedFreed.{are-allocated, are-freed, freed_folder, index_word}
use Rattle.law_state.proofs.WorkedKept.{linked-are, worked-lengths, worked_folder}
use Rattle.law_state.proofs.WorkedRemovals.{a_ends_kept, a_is_whole_out, but_main, chains_left as chains_out, main_is_out, main_leaves, without_a, without_main}
use Rattle.law_state.proofs.WorkedState.{chain_of, nodes, records, sparse_object, the_parent, the_part, worked, worked_layout}

abbrev chains_left : ℕ → List ℕ
chains_left = chains_but chain_of (records 0)

-- the word of the index may be in front
index_in_front : KeepsPartlyOut worked worked_layout but_main chains_left (index_word ∷ nodes 0 ∷ records 0 ∷ []) without_main
index_in_front = out-in-any-order worked worked_layout but_main chains_left (words_of the_parent ++ []) (index_word ∷ nodes 0 ∷ records 0 ∷ []) without_main main_is_out (IsPermutation-middle (nodes 0 ∷ records 0 ∷ []) index_word [])

abbrev bare_folder : Image
bare_folder = freed_folder without_main

index_is_freed : AreFreed without_main index_word bare_folder
index_is_freed = are-freed without_main (main_leaves.headers.headers 3) (main_leaves.headers.lengths 3 ∙ worked-lengths.3)

main_stays_out : KeepsPartlyOut worked worked_layout but_main chains_left (nodes 0 ∷ records 0 ∷ []) bare_folder
main_stays_out = blocks-freed worked worked_layout but_main chains_left index_word (nodes 0 ∷ records 0 ∷ []) without_main bare_folder index_in_front (freed-removed without_main bare_folder index_word index_is_freed)

-- so it is once `a` is out with its part, and what is left is a state
abbrev left_layout : Layout
left_layout = layout_less worked_layout (gone_nodes worked worked_layout (is_of_another (codes "a"))) chains_out

abbrev left : State
left = without_items worked (doomed 1 worked (Some sparse_object)).objects (is_of_another (codes "a"))

out_in_front : KeepsUncounted left left_layout (index_word ∷ nodes 1 ∷ records 1 ∷ 0xA0010006 ∷ 0xA0010007 ∷ nodes 0 ∷ records 0 ∷ []) without_a
out_in_front = kept-in-any-order left left_layout (words_of the_part ++ words_of the_parent ++ []) (index_word ∷ nodes 1 ∷ records 1 ∷ 0xA0010006 ∷ 0xA0010007 ∷ nodes 0 ∷ records 0 ∷ []) without_a a_ends_kept
    (IsPermutation-middle (nodes 1 ∷ records 1 ∷ 0xA0010006 ∷ 0xA0010007 ∷ nodes 0 ∷ records 0 ∷ []) index_word [])

abbrev freed_of_a : Image
freed_of_a = freed_folder without_a

index_is_gone : KeepsUncounted left left_layout (nodes 1 ∷ records 1 ∷ 0xA0010006 ∷ 0xA0010007 ∷ nodes 0 ∷ records 0 ∷ []) freed_of_a
index_is_gone = freed-gone index_word without_a freed_of_a (freed-removed without_a freed_of_a index_word (are-freed without_a (a_is_whole_out.leaves.headers.headers 3) (a_is_whole_out.leaves.headers.lengths 3 ∙ worked-lengths.3)))
    left left_layout (nodes 1 ∷ records 1 ∷ 0xA0010006 ∷ 0xA0010007 ∷ nodes 0 ∷ records 0 ∷ []) out_in_front

-- and allocated again, it is unlinked as it was
out-linked : linked_as without_a 3 ≡ Some 4
out-linked = linked-same worked_folder without_a a_is_whole_out.leaves.headers 3 ∙ linked-are 3

first-word : (words : List ℕ) → filter (is_in_file 3) (index_word ∷ words) ≡ index_word ∷ filter (is_in_file 3) words
unfolding is_in_file kind_of file_selector
first-word words = refl

abbrev words_used : List ℕ
words_used = (nodes 1 ∷ records 1 ∷ 0xA0010006 ∷ 0xA0010007 ∷ nodes 0 ∷ records 0 ∷ []) ++ flat_map words_of (all_loaded left left_layout out_in_front.numbers)

index_is_added : AddsAllocation freed_of_a index_word without_a
index_is_added = allocated-added freed_of_a without_a index_word index_is_gone.sound
    (are-allocated without_a (a_is_whole_out.leaves.headers.headers 3) (a_is_whole_out.leaves.headers.lengths 3 ∙ worked-lengths.3) (index_word ∷ words_used) (filter (is_in_file 3) words_used) (first-word words_used)
    (out_in_front.files.mapped 3 (ap is_some out-linked)) out-linked out_in_front.files.long_enough out_in_front.sound)

index_is_unlinked : KeepsUncounted left left_layout (index_word ∷ nodes 1 ∷ records 1 ∷ 0xA0010006 ∷ 0xA0010007 ∷ nodes 0 ∷ records 0 ∷ []) without_a
index_is_unlinked = allocated-unlinked index_word freed_of_a without_a index_is_added left left_layout (nodes 1 ∷ records 1 ∷ 0xA0010006 ∷ 0xA0010007 ∷ nodes 0 ∷ records 0 ∷ []) index_is_gone
