-- In the worked folder commands come to their ends, once the counters of the index are written: a Doom, a Trim, a Write to a live and to a doomed object, a
-- SparseWrite of some bytes and of none, and a Close of one handle of two.
use Rattle.std.proofs.Common.{◌≡◌, ℕ, ◌<◌, ◌^◌, List, [], ◌∷◌, ◌++◌, length, refl, sym, ◌∙◌, subst, arith, lit<, lit≤, None, Some, true, codes}
use Rattle.spec_image.specs.Image.{Image}
use Rattle.spec_image.specs.Steps.{after}
use Rattle.blk_model.specs.Effects.{doomed, sparse_after, used, used_all, with_slot}
use Rattle.blk_model.specs.Items.{main, part}
use Rattle.blk_model.specs.Request.{to_close, to_doom, to_open, to_read, to_sparse_write, to_trim, to_write}
use Rattle.blk_model.specs.Room.{total, whole, without}
use Rattle.blk_model.specs.ListSteps.{uses_of}
use Rattle.blk_model.specs.State.{State}
use Rattle.blk_model.specs.Step.{step}
use Rattle.blk_model.proofs.Computing.{computing}
use Rattle.blk_model.proofs.StopRows.{codes_are_bytes}
use Rattle.spec_format.proofs.Finished.{sound-whole}
use Rattle.spec_folder.specs.Layout.{IsChange, Layout}
use Rattle.spec_folder.specs.ListImages.{steps_of_touch}
use Rattle.spec_folder.specs.Sound.{words_of}
use Rattle.law_state.specs.BoundLaws.{HaveFewAllocations}
use Rattle.law_state.specs.CommandEnds.{IsNamedBy, after_write}
use Rattle.law_state.specs.CommandStates.{amidst, in_order, with_room}
use Rattle.law_state.specs.CounterLaws.{charged}
use Rattle.law_state.specs.DoomLaws.{layout_doomed}
use Rattle.law_state.specs.Keeping.{CountsItems, Keeps, KeepsUncounted}
use Rattle.law_state.specs.ListLaws.{IsTouchDone, with_used}
use Rattle.law_state.specs.NewPartLaws.{with_bit_of}
use Rattle.law_state.specs.OneCallLaws.{Names}
use Rattle.law_state.specs.ObjectLaws.{layout_after}
use Rattle.law_state.specs.RemovalLaws.{layout_removed}
use Rattle.law_state.proofs.AtNodes.{updates-leave}
use Rattle.law_state.proofs.Bounds.{leave-room}
use Rattle.law_state.proofs.Charges.{charges-small}
use Rattle.law_state.proofs.Counters.{counters-count}
use Rattle.law_state.proofs.DoneSteps.{touch-done}
use Rattle.law_state.proofs.GoingOut.{out-counts}
use Rattle.law_state.proofs.NewParts.{noted-changes}
use Rattle.law_state.proofs.NextStates.{closes-of-many-next, doomed-writes-next, dooms-next, empty-sparse-writes-next, sparse-writes-next, trims-next, writes-next}
use Rattle.law_state.proofs.OneCalls.{doomed-reads-end, opens-end-by-touch}
use Rattle.law_state.proofs.Touched.{touch-counts}
use Rattle.law_state.proofs.WorkedChanges as changes
use Rattle.law_state.proofs.WorkedCreate.{counters-are, with_counters}
use Rattle.law_state.proofs.WorkedCut as dead
use Rattle.law_state.proofs.WorkedDooms.{b-counted, b_is_doomed, both, both-keeps, both-writable, both_folder, doomed_b}
use Rattle.law_state.proofs.WorkedKept.{worked-keeps, worked_folder}
use Rattle.law_state.proofs.WorkedMarks as marks
use Rattle.law_state.proofs.WorkedMarks.{unsettled_layout}
use Rattle.law_state.proofs.WorkedParts.{dirty-writable, dirty_folder, dirty_layout, unsettled, unsettled-keeps, unsettled_object}
use Rattle.law_state.proofs.WorkedRecord.{emptied, emptied-are, emptied-outside, emptied_folder}
use Rattle.law_state.proofs.WorkedRemovals.{b-unlisted, b_is_evicted, without_b}
use Rattle.law_state.proofs.WorkedState.{doomed_object, nodes, parent_index, plain_object, records, sparse_object, the_parent, the_plain, worked, worked-lies, worked_layout}

-- ---- what is kept is counted once the counters are written

module _ (state : State) (layout : Layout) (from : Image) where
  abbrev pub counted_folder : Image
  counted_folder = with_counters (length state.uses) (charged state layout) from

  pub counted : (before : State) (was : Layout) (unlinked : List ℕ) → KeepsUncounted state layout unlinked from → CountsItems from before was → length state.uses < 2 ^ 32 → Keeps state layout unlinked counted_folder
  counted before was unlinked k counts few =
      counters-count state before layout was unlinked from counted_folder k counts (counters-are (length state.uses) (charged state layout) from (sound-whole from k.sound) few (charges-small state layout unlinked from k))

-- ---- Doom

doom-reached : (step both 100 (to_doom 6)).state ≡ doomed 0 both (Some plain_object)
unfolding computing
doom-reached = refl

doom-kept : KeepsUncounted (doomed 0 both (Some plain_object)) (layout_doomed worked_layout 0 (nodes 2) the_plain) [] doomed_b
doom-kept = subst (λ (m : State). KeepsUncounted m (layout_doomed worked_layout 0 (nodes 2) the_plain) [] doomed_b) doom-reached b_is_doomed

doom-few : length (doomed 0 both (Some plain_object)).uses < 2 ^ 32
unfolding computing
doom-few = lit< tt

doom_ends : Keeps (step both 100 (to_doom 6)).state (layout_doomed worked_layout 0 (nodes 2) the_plain) [] (counted_folder (doomed 0 both (Some plain_object)) (layout_doomed worked_layout 0 (nodes 2) the_plain) doomed_b)
doom_ends = dooms-next both 100 (to_doom 6) 0 plain_object (unfold computing in refl) (unfold computing in refl) refl (layout_doomed worked_layout 0 (nodes 2) the_plain) [] _
    (counted (doomed 0 both (Some plain_object)) (layout_doomed worked_layout 0 (nodes 2) the_plain) doomed_b both worked_layout [] doom-kept b-counted doom-few)

-- ---- Trim, where `b` is too much

abbrev left : State
left = record worked { objects = None ∷ Some sparse_object ∷ Some doomed_object ∷ []; uses = part (codes "a") 0 ∷ main (codes "a") ∷ [] }

evicted-is : without (whole (codes "b") [] ∷ []) worked ≡ left
unfolding computing
evicted-is = refl

left-kept : KeepsUncounted left (layout_removed worked_layout (nodes 2) (records 2)) (words_of the_plain ++ []) without_b
left-kept = subst (λ (m : State). KeepsUncounted m (layout_removed worked_layout (nodes 2) (records 2)) (words_of the_plain ++ []) without_b) evicted-is b_is_evicted

room-left : with_room worked 100 (to_trim (total left)) ≡ left
unfolding computing
room-left = refl

abbrev left_folder : Image
left_folder = counted_folder left (layout_removed worked_layout (nodes 2) (records 2)) without_b

trim_ends : Keeps (step worked 100 (to_trim (total left))).state (layout_removed worked_layout (nodes 2) (records 2)) (words_of the_plain ++ []) left_folder
trim_ends = trims-next worked 100 (total left) (layout_removed worked_layout (nodes 2) (records 2)) (words_of the_plain ++ []) left_folder
    (subst (λ (m : State). Keeps m (layout_removed worked_layout (nodes 2) (records 2)) (words_of the_plain ++ []) left_folder) (sym room-left) (counted left (layout_removed worked_layout (nodes 2) (records 2)) without_b worked worked_layout (words_of the_plain ++ []) left-kept (out-counts worked_folder (nodes 2) 0xA0E1 b-unlisted ∙ worked-keeps.counters) (lit< tt)))

-- ---- Write, with a cut

write_names : IsNamedBy changes.open_state 100 (to_write 6 0 0 true []) 6 0 changes.open_object
unfolding computing
write_names = record { affected = record { passes = refl; here = refl; live = refl }; names = refl }

write-is : changes.cut ≡ amidst (with_room changes.open_state 100 (to_write 6 0 0 true [])) 0 (after_write changes.open_object 0 0 true []) (used (main (codes "b")) (with_room changes.open_state 100 (to_write 6 0 0 true [])).uses)
unfolding computing
write-is = refl

abbrev write_layout : Layout
write_layout = layout_after unsettled_layout (nodes 2) changes.cut_b

abbrev write_folder : Image
write_folder = counted_folder changes.cut write_layout changes.cut_folder

write_ends : Keeps (step changes.open_state 100 (to_write 6 0 0 true [])).state write_layout (0xA0010004 ∷ []) write_folder
write_ends = writes-next changes.open_state 100 6 0 0 true [] 0 changes.open_object write_names write_layout (0xA0010004 ∷ []) write_folder
    (subst (λ (m : State). Keeps m write_layout (0xA0010004 ∷ []) write_folder) write-is (counted changes.cut write_layout changes.cut_folder marks.unsettled unsettled_layout (0xA0010004 ∷ []) changes.cut_is_kept changes.cut-counted (lit< tt)))

-- of the doomed object

doomed-write-is : dead.cut ≡ with_slot 2 (Some (after_write doomed_object 0 0 true [])) (with_room worked 100 (to_write 5 0 0 true []))
unfolding computing
doomed-write-is = refl

abbrev dead_layout : Layout
dead_layout = layout_after worked_layout (nodes 3) emptied

abbrev dead_folder : Image
dead_folder = counted_folder dead.cut dead_layout (emptied_folder 2)

doomed_write_ends : Keeps (step worked 100 (to_write 5 0 0 true [])).state dead_layout (0xA0010005 ∷ []) dead_folder
doomed_write_ends = doomed-writes-next worked 100 5 0 0 true [] 2 doomed_object (unfold computing in refl) (unfold computing in refl) (unfold computing in refl) refl dead_layout (0xA0010005 ∷ []) dead_folder
    (subst (λ (m : State). Keeps m dead_layout (0xA0010005 ∷ []) dead_folder) doomed-write-is (counted dead.cut dead_layout (emptied_folder 2) worked worked_layout (0xA0010005 ∷ []) dead.cut_is_kept (updates-leave worked_folder (emptied_folder 2) (records 3) (emptied-outside 2 emptied-are.1) ∙ worked-keeps.counters) (lit< tt)))

-- ---- SparseWrite: the bytes that are there are written again, and the part is accessed

abbrev used_folder : Image
used_folder = after (steps_of_touch (nodes 1) 71 dirty_folder) dirty_folder

part-used : IsTouchDone dirty_folder (nodes 1) used_folder
part-used = touch-done dirty_folder (nodes 1) 71 (nodes 0 ∷ nodes 2 ∷ []) [] dirty-writable (record { whole = unsettled-keeps.entries.represents.list; idle = unsettled-keeps.entries.represents.idle })

used-keeps : Keeps (with_used unsettled (part (codes "a") 0)) dirty_layout [] used_folder
used-keeps = touch-counts unsettled dirty_layout [] dirty_folder used_folder (part (codes "a") 0) unsettled-keeps refl part-used

sparse_names : IsNamedBy unsettled 100 (to_sparse_write 7 0 (codes "xx")) 7 1 unsettled_object
unfolding computing
sparse_names = record { affected = record { passes = refl; here = refl; live = refl }; names = refl }

sparse-is : with_used unsettled (part (codes "a") 0)
    ≡ amidst (with_room unsettled 100 (to_sparse_write 7 0 (codes "xx"))) 1 (sparse_after 100 unsettled_object 0 (codes "xx")) (used_all (uses_of (to_sparse_write 7 0 (codes "xx")) (with_room unsettled 100 (to_sparse_write 7 0 (codes "xx")))) (with_room unsettled 100 (to_sparse_write 7 0 (codes "xx"))).uses)
unfolding computing
sparse-is = refl

sparse_write_ends : Keeps (step unsettled 100 (to_sparse_write 7 0 (codes "xx"))).state dirty_layout [] used_folder
sparse_write_ends = sparse-writes-next unsettled 100 7 0 (codes "xx") 1 unsettled_object sparse_names dirty_layout [] used_folder (subst (λ (m : State). Keeps m dirty_layout [] used_folder) sparse-is used-keeps)

-- of no bytes, where the object is the last one used

empty_names : IsNamedBy both 100 (to_sparse_write 7 0 []) 7 1 sparse_object
unfolding computing
empty_names = record { affected = record { passes = refl; here = refl; live = refl }; names = refl }

empty-is : both ≡ in_order (used (main (codes "a")) (with_room both 100 (to_sparse_write 7 0 [])).uses) (with_room both 100 (to_sparse_write 7 0 []))
unfolding computing
empty-is = refl

empty_write_ends : Keeps (step both 100 (to_sparse_write 7 0 [])).state worked_layout [] both_folder
empty_write_ends = empty-sparse-writes-next both 100 7 0 1 sparse_object empty_names worked_layout [] both_folder (subst (λ (m : State). Keeps m worked_layout [] both_folder) empty-is both-keeps)

-- ---- Close of one handle of two

abbrev twice_folder : Image
twice_folder = after (steps_of_touch (nodes 0) 72 both_folder) both_folder

abbrev twice : State
twice = (step both 100 (to_open 8 (codes "a"))).state

twice-keeps : Keeps twice worked_layout [] twice_folder
twice-keeps = opens-end-by-touch both worked_layout [] both_folder twice_folder 100 8 (codes "a") both-keeps (omega arith, codes_are_bytes (codes "a") (omega arith, tt)) (unfold computing in refl)
    (touch-done both_folder (nodes 0) 72 [] (nodes 2 ∷ nodes 1 ∷ []) both-writable (record { whole = both-keeps.entries.represents.list; idle = both-keeps.entries.represents.idle }))

close_ends : Keeps (step twice 100 (to_close 7)).state worked_layout [] twice_folder
close_ends = closes-of-many-next twice 100 7 1 twice-keeps.entries.valid (omega arith) (unfold computing in refl) (unfold computing in refl) worked_layout [] twice_folder twice-keeps

-- ---- Read of the doomed object, which leaves the state as it is

doomed_names : Names worked 5 2 doomed_object
unfolding computing
doomed_names = record { names = refl; here = refl }

doomed_read_ends : (step worked 100 (to_read 5 0 0 2)).state ≡ worked
doomed_read_ends = doomed-reads-end worked 100 5 0 0 2 2 doomed_object (unfold computing in refl) doomed_names refl

-- ---- there is space for one item more

room_is_left : HaveFewAllocations worked_folder 2 655362
room_is_left = leave-room worked worked_layout [] worked_folder 2 1 worked-keeps.entries refl (lit≤ tt) (lit≤ tt)

-- ---- the parent may have another bit

bit_is_change : IsChange worked worked.objects worked_layout (main (codes "a")) the_parent (with_bit_of the_parent parent_index 1 the_parent.streams) worked_layout.owner
bit_is_change = noted-changes worked worked_layout (codes "a") the_parent parent_index 1 the_parent.streams worked-lies refl refl refl refl
