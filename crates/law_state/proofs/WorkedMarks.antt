-- In the worked folder `b` is opened, made dirty by a Write, and made clean by its Close, or by a Flush; and the doomed object is made clean.
use Rattle.std.proofs.Common.{◌≡◌, [], refl, sym, ◌∙◌, subst, arith, lit<, Bool, Some, true, false, codes}
use Rattle.std.specs.Prelude.{◌||◌}
use Rattle.spec_image.specs.Image.{Image, Index, byte}
use Rattle.spec_image.specs.Steps.{after}
use Rattle.spec_image.proofs.Runs.{until_last}
use Rattle.blk_model.specs.Request.{to_close, to_flush, to_open, to_write}
use Rattle.blk_model.specs.State.{IsValidState, Object, State}
use Rattle.blk_model.specs.Step.{step}
use Rattle.blk_model.proofs.Computing.{computing}
use Rattle.blk_model.proofs.Steps.{step_valid}
use Rattle.blk_model.proofs.StopRows.{codes_are_bytes}
use Rattle.spec_format.specs.Headers.{this_id_of}
use Rattle.spec_format.specs.Records.{node_checks}
use Rattle.spec_folder.specs.Layout.{Layout}
use Rattle.spec_folder.specs.ListImages.{IsWritable, steps_of_touch}
use Rattle.spec_folder.specs.ListPlans.{touch_writes}
use Rattle.spec_folder.specs.ListView.{put}
use Rattle.spec_folder.specs.View.{checks_at, list_of}
use Rattle.law_folder.specs.CommandLaws.{IsPlacedAsDoomed, IsPlacedAsLive, dirtied, marked}
use Rattle.law_folder.proofs.lists.WordTurns.{touches-go_on}
use Rattle.law_folder.proofs.states.Tidying.{counter-same}
use Rattle.law_state.specs.Commands.{MayStop}
use Rattle.law_state.specs.CommandStates.{IsLastHandle, IsOpened, Unsettles, with_room}
use Rattle.law_state.specs.CommandEnds.{IsNamedBy}
use Rattle.law_state.specs.Keeping.{Keeps, KeepsUncounted}
use Rattle.law_state.specs.ObjectLaws.{layout_after}
use Rattle.law_state.specs.RecordLaws.{IsMarked}
use Rattle.law_state.proofs.CommandEnding.{writes-unsettle}
use Rattle.law_state.proofs.Dirtying.{marking-counts}
use Rattle.law_state.proofs.DoomedMarks.{doomed-marking-counts}
use Rattle.law_state.proofs.Free.{standing-at}
use Rattle.law_state.proofs.MarkedStates.{marked-valid}
use Rattle.law_state.proofs.MarkSteps.{marked_at, marks-done, marks-writable}
use Rattle.law_state.proofs.OneCalls.{closes-end-by-mark, closes-stop-by-mark, flushes-end-by-mark, flushes-stop-by-mark, opens-end-by-touch, unsettling-stops-by-mark}
use Rattle.law_state.proofs.WorkedKept.{worked-id, worked-keeps, worked_folder}
use Rattle.law_state.proofs.WorkedRemovals.{touched_b, worked-writable}
use Rattle.law_state.proofs.WorkedState.{doomed_object, nodes, plain_object, settled-valid, the_doomed, the_plain, worked, worked-valid, worked_layout}

-- ---- an Open of `b`

abbrev pub opened : State
opened = (step worked 100 (to_open 6 (codes "b"))).state

abbrev pub opened_folder : Image
opened_folder = after (steps_of_touch (nodes 2) 70 worked_folder) worked_folder

pub opened-valid : IsValidState opened
opened-valid = step_valid worked 100 (to_open 6 (codes "b")) worked-valid (omega arith, codes_are_bytes (codes "b") (omega arith, tt))

pub opened-keeps : Keeps opened worked_layout [] opened_folder
opened-keeps = opens-end-by-touch worked worked_layout [] worked_folder opened_folder 100 6 (codes "b") worked-keeps (omega arith, codes_are_bytes (codes "b") (omega arith, tt)) (unfold computing in refl) touched_b

pub opened-writable : IsWritable opened_folder
opened-writable = until_last IsWritable IsWritable (steps_of_touch (nodes 2) 70 worked_folder) worked_folder (touches-go_on worked_folder (nodes 2) 70 worked-writable)

-- ---- a Write makes it dirty

write_names : IsNamedBy opened 100 (to_write 6 0 0 false (codes "zz")) 6 0 plain_object
unfolding computing
write_names = record { affected = record { passes = refl; here = refl; live = refl }; names = refl }

pub write_unsettles : Unsettles opened 100 (to_write 6 0 0 false (codes "zz")) 0 plain_object
write_unsettles = writes-unsettle opened 100 6 0 0 false (codes "zz") 0 plain_object write_names

pub b_checks : (list_of opened_folder).checks (nodes 2) ≡ true
unfolding computing
b_checks = opened-keeps.entries.represents.list.linked.0.good

pub b_is_marked : IsMarked opened_folder (nodes 2) 7 (marked_at opened_folder (nodes 2) 7)
b_is_marked = marks-done opened_folder (nodes 2) 7 opened-writable b_checks (lit< tt)

-- it evicts nothing, so it may crash then
room-is : with_room opened 100 (to_write 6 0 0 false (codes "zz")) ≡ opened
unfolding computing
room-is = refl

write_stops : MayStop opened 100 (to_write 6 0 0 false (codes "zz")) (marked_at opened_folder (nodes 2) 7)
write_stops = unsettling-stops-by-mark opened worked_layout [] opened_folder (marked_at opened_folder (nodes 2) 7) 100 (to_write 6 0 0 false (codes "zz")) 0 7 plain_object the_plain opened-valid write_unsettles
    (subst (λ (m : State). KeepsUncounted m worked_layout [] opened_folder) (sym room-is) opened-keeps.entries) (unfold computing in refl) refl refl b_is_marked.marking

b-placed : IsPlacedAsLive opened worked_layout 0 plain_object the_plain
unfolding computing
b-placed = record { here = refl; live = refl; at = refl }

-- and the state with it dirty is kept: its dirty flag is the number of the session
abbrev pub unsettled : State
unsettled = marked opened 0 plain_object false

abbrev pub unsettled_layout : Layout
unsettled_layout = dirtied worked_layout (nodes 2) the_plain 7

unsettled-valid : IsValidState unsettled
unsettled-valid = marked-valid opened 0 plain_object false opened-valid (unfold computing in refl) refl (λ e. unfold computing in refl)

pub session-is : this_id_of (byte opened_folder Index) ≡ 7
session-is = counter-same (touch_writes (nodes 2) (list_of worked_folder)) (nodes 2) worked_folder opened_folder touched_b.touched.outside 20 (omega arith) ∙ worked-id

pub unsettled-keeps : Keeps unsettled unsettled_layout [] (marked_at opened_folder (nodes 2) 7)
unsettled-keeps = marking-counts opened worked_layout [] opened_folder (marked_at opened_folder (nodes 2) 7) 0 plain_object the_plain 7 opened-keeps b-placed unsettled-valid (λ some. sym session-is) b_is_marked

-- ---- its Close makes it clean

abbrev unsettled_object : Object
unsettled_object = record plain_object { settled = false }

unsettled-placed : unsettled_layout.at (nodes 2) ≡ Some (record the_plain { dirty = 7 })
unfolding put
unsettled-placed = refl

last_of_b : IsLastHandle unsettled 6 0 unsettled_object
unfolding computing
last_of_b = record { names = refl; here = refl; live = refl; last = refl }

still_checks : (list_of (marked_at opened_folder (nodes 2) 7)).checks (nodes 2) ≡ true
unfolding computing
still_checks = unsettled-keeps.entries.represents.list.linked.0.good

b_is_cleared : IsMarked (marked_at opened_folder (nodes 2) 7) (nodes 2) 0 (marked_at (marked_at opened_folder (nodes 2) 7) (nodes 2) 0)
b_is_cleared = marks-done (marked_at opened_folder (nodes 2) 7) (nodes 2) 0 (marks-writable opened_folder (nodes 2) 7 opened-writable b_checks (lit< tt)) still_checks (lit< tt)

close_stops : MayStop unsettled 100 (to_close 6) (marked_at (marked_at opened_folder (nodes 2) 7) (nodes 2) 0)
close_stops = closes-stop-by-mark unsettled unsettled_layout [] (marked_at opened_folder (nodes 2) 7) (marked_at (marked_at opened_folder (nodes 2) 7) (nodes 2) 0) 100 6 0 unsettled_object (record the_plain { dirty = 7 }) unsettled-keeps.entries (omega arith) last_of_b unsettled-placed b_is_cleared.marking

closed-keeps : Keeps (step unsettled 100 (to_close 6)).state (dirtied unsettled_layout (nodes 2) (record the_plain { dirty = 7 }) 0) [] (marked_at (marked_at opened_folder (nodes 2) 7) (nodes 2) 0)
closed-keeps = closes-end-by-mark unsettled unsettled_layout [] (marked_at opened_folder (nodes 2) 7) (marked_at (marked_at opened_folder (nodes 2) 7) (nodes 2) 0) 100 6 0 unsettled_object (record the_plain { dirty = 7 }) unsettled-keeps (omega arith) last_of_b unsettled-placed b_is_cleared

-- ---- and so does a Flush, by the same words

opened_by : IsOpened unsettled 6 0 unsettled_object
unfolding computing
opened_by = record { names = refl; here = refl; live = refl }

flush_stops : MayStop unsettled 100 (to_flush 6) (marked_at (marked_at opened_folder (nodes 2) 7) (nodes 2) 0)
flush_stops = flushes-stop-by-mark unsettled unsettled_layout [] (marked_at opened_folder (nodes 2) 7) (marked_at (marked_at opened_folder (nodes 2) 7) (nodes 2) 0) 100 6 0 unsettled_object (record the_plain { dirty = 7 }) unsettled-keeps.entries (omega arith) opened_by unsettled-placed b_is_cleared.marking

flushed-keeps : Keeps (step unsettled 100 (to_flush 6)).state (dirtied unsettled_layout (nodes 2) (record the_plain { dirty = 7 }) 0) [] (marked_at (marked_at opened_folder (nodes 2) 7) (nodes 2) 0)
flushed-keeps = flushes-end-by-mark unsettled unsettled_layout [] (marked_at opened_folder (nodes 2) 7) (marked_at (marked_at opened_folder (nodes 2) 7) (nodes 2) 0) 100 6 0 unsettled_object (record the_plain { dirty = 7 }) unsettled-keeps opened_by unsettled-placed b_is_cleared

-- ---- the doomed object is clean

pub doomed_checks : (list_of worked_folder).checks (nodes 3) ≡ true
unfolding list_of checks_at node_checks
doomed_checks = rw ((standing-at worked_folder worked worked_layout worked-keeps.entries.represents (nodes 3) the_doomed refl).node, (worked-keeps.entries.sealed (nodes 3) the_doomed refl).node) (or-true _) where
  or-true : (b : Bool) → (b || true) ≡ true
  or-true true = refl
  or-true false = refl

doomed_is_cleared : IsMarked worked_folder (nodes 3) 0 (marked_at worked_folder (nodes 3) 0)
doomed_is_cleared = marks-done worked_folder (nodes 3) 0 worked-writable doomed_checks (lit< tt)

pub doomed-placed : IsPlacedAsDoomed worked worked_layout 2 doomed_object the_doomed
doomed-placed = record { here = refl; dead = refl; at = refl }

doomed-settled : Keeps (marked worked 2 doomed_object true) (layout_after worked_layout (nodes 3) (record the_doomed { dirty = 0 })) [] (marked_at worked_folder (nodes 3) 0)
doomed-settled = doomed-marking-counts worked worked_layout [] worked_folder (marked_at worked_folder (nodes 3) 0) 2 doomed_object the_doomed 0 worked-keeps doomed-placed settled-valid doomed_is_cleared
