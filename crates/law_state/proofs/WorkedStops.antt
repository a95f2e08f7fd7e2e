-- In the worked folder requests may crash: an Open, a Read, and a Doom, and while an item is removed.
use Rattle.std.proofs.Common.{◌≡◌, [], ◌∷◌, refl, sym, subst, lit<, false, None, Some, codes, true}
use Rattle.std.specs.Prelude.{if◌then◌else◌, nat_lt, slice_set}
use Rattle.spec_image.specs.Image.{Image}
use Rattle.spec_image.specs.Steps.{after}
use Rattle.blk_model.specs.Effects.{doomed, effect, with_slot}
use Rattle.blk_model.specs.Holding.{rest, row_of}
use Rattle.blk_model.specs.Items.{main, main_row, plain}
use Rattle.blk_model.specs.Reply.{answer_of}
use Rattle.blk_model.specs.Request.{to_open, to_read}
use Rattle.blk_model.specs.Room.{single, without}
use Rattle.blk_model.specs.State.{Object, State}
use Rattle.blk_model.specs.Step.{reply, step}
use Rattle.blk_model.specs.Refusals.{evicted}
use Rattle.blk_model.proofs.Computing.{computing}
use Rattle.blk_model.proofs.StopRests.{rest_before}
use Rattle.spec_image.proofs.Runs.{some_inj}
use Rattle.spec_folder.specs.Layout.{OneChanged}
use Rattle.spec_folder.specs.ListImages.{HasListAtRest, steps_of_touch}
use Rattle.spec_folder.specs.View.{store_of}
use Rattle.law_state.specs.Changes.{Finds}
use Rattle.law_state.specs.Commands.{MayStop}
use Rattle.law_state.specs.Keeping.{Keeps}
use Rattle.law_state.specs.ListLaws.{IsTouchDone}
use Rattle.law_state.specs.CommandStates.{with_room}
use Rattle.law_state.specs.StageLaws.{FindsLeft, HasEffect}
use Rattle.law_state.specs.OneCallLaws.{Names}
use Rattle.law_state.specs.PlainRemovals.{IsRemoving}
use Rattle.law_state.proofs.ChangedStates.{main-changed}
use Rattle.law_state.proofs.DoneSteps.{touch-done}
use Rattle.law_state.proofs.GoingOut.{chain-same, unlisted}
use Rattle.law_state.proofs.Keeping.{kept-held}
use Rattle.law_state.proofs.OneCalls.{reads-end-by-touch, reads-stop}
use Rattle.law_state.proofs.PartlyOut.{kept-begin}
use Rattle.law_state.proofs.PartlyOutStops.{own-items-leave, unlinking-items-find}
use Rattle.law_state.proofs.PartsOut.{parts-find}
use Rattle.law_state.proofs.PlainRemovals.{removing-doomed}
use Rattle.law_state.proofs.Touching.{opens-stop}
use Rattle.law_state.proofs.WordStops.{dooms-find}
use Rattle.law_state.proofs.WorkedKept.{worked-keeps, worked_folder}
use Rattle.law_state.proofs.WorkedMarks.{opened, opened-keeps, opened-writable, opened_folder}
use Rattle.law_state.proofs.WorkedRemovals.{b-unlisted, part-unlisted, touched_b}
use Rattle.law_state.proofs.WorkedState.{chain_of, nodes, plain_object, records, the_plain, worked, worked_layout}
use Rattle.spec_format.proofs.Finished.{headers-kept}

-- ---- accesses

open_stops : MayStop worked 100 (to_open 6 (codes "b")) opened_folder
open_stops = opens-stop worked worked_layout [] worked_folder opened_folder worked-keeps.entries 100 6 (codes "b") (unfold computing in refl) touched_b.touched

-- `b` is read, and so accessed again
abbrev read_folder : Image
read_folder = after (steps_of_touch (nodes 2) 71 opened_folder) opened_folder

opened-list : HasListAtRest (nodes 2 ∷ nodes 1 ∷ nodes 0 ∷ []) opened_folder
unfolding computing
opened-list = record { whole = opened-keeps.entries.represents.list; idle = opened-keeps.entries.represents.idle }

read_touches : IsTouchDone opened_folder (nodes 2) read_folder
read_touches = touch-done opened_folder (nodes 2) 71 [] (nodes 1 ∷ nodes 0 ∷ []) opened-writable opened-list

read_names : Names opened 6 0 plain_object
unfolding computing
read_names = record { names = refl; here = refl }

read_stops : MayStop opened 100 (to_read 6 0 0 2) read_folder
read_stops = reads-stop opened worked_layout [] opened_folder read_folder 100 6 0 0 2 0 plain_object opened-keeps.entries (unfold computing in refl) read_names refl read_touches.touched

read_ends : Keeps (step opened 100 (to_read 6 0 0 2)).state worked_layout [] read_folder
read_ends = reads-end-by-touch opened worked_layout [] opened_folder read_folder 100 6 0 0 2 0 plain_object opened-keeps (unfold computing in refl) read_names refl read_touches

-- it has its effect, with the model's answer
read-effect : effect 100 (to_read 6 0 0 2) (with_room opened 100 (to_read 6 0 0 2)) ≡ (step opened 100 (to_read 6 0 0 2)).state
unfolding computing
read-effect = refl

read_has_effect : HasEffect (λ m image. Keeps m worked_layout [] image) (record { files = Some read_folder; trail = None }) 100 (to_read 6 0 0 2) (answer_of (reply (to_read 6 0 0 2) (evicted 100 (to_read 6 0 0 2) opened) opened)) opened
read_has_effect = record {
  passes = unfold computing in refl;
  answered = refl;
  kept = λ image is. subst (λ (i : Image). Keeps (effect 100 (to_read 6 0 0 2) (with_room opened 100 (to_read 6 0 0 2))) worked_layout [] i) (some_inj is) (subst (λ (m : State). Keeps m worked_layout [] read_folder) (sym read-effect) read_ends);
}

-- before its first word what a crash may leave is found
read_finds_left : FindsLeft opened 100 (to_read 6 0 0 2) opened_folder
read_finds_left = record { held = rest opened; left = rest_before opened 100 (to_read 6 0 0 2) opened-keeps.entries.valid; finds = (opened-keeps.entries.sound, kept-held opened worked_layout [] opened_folder opened-keeps.entries) }

-- ---- removals

b_goes_finds : Finds (if nat_lt b-unlisted.partly.made 2 then rest worked else rest (doomed 0 worked (Some plain_object))) (unlisted worked_folder (nodes 2))
b_goes_finds = dooms-find worked worked_layout [] worked_folder (unlisted worked_folder (nodes 2)) 0 plain_object worked-keeps.entries refl refl b-unlisted.partly

part_goes_finds : Finds (if nat_lt part-unlisted.partly.made 2 then rest worked else rest (without (single (codes "a") 0 ∷ []) worked)) (unlisted worked_folder (nodes 1))
part_goes_finds = parts-find worked worked_layout [] worked_folder (unlisted worked_folder (nodes 1)) (codes "a") 0 worked-keeps.entries refl part-unlisted.partly

-- before the word of its bucket is written, the record of `b` is in its chain still
still_chained : IsRemoving worked_layout (main (codes "b")) the_plain chain_of worked_folder (unlisted worked_folder (nodes 2))
still_chained = record {
  here = refl;
  between = unlisted worked_folder (nodes 2);
  unlisted = b-unlisted;
  unlinking = record {
    word = records 2;
    bucket = 0xA0E1;
    small = lit< tt;
    chained = refl;
    only = record { beside = record { node_fields = λ u. refl; key_place = λ u fields clear is right short. refl; stored = λ size u clear. refl }; entry = λ u. refl };
    list = refl;
    whole = λ other small. chain-same (store_of worked_folder) (store_of (unlisted worked_folder (nodes 2))) other (chain_of other) b-unlisted.partly.shown.store (worked-keeps.entries.represents.holds.shows.chains other small);
    headers = headers-kept (unlisted worked_folder (nodes 2));
  };
}

chained_finds : Finds (rest (doomed 0 worked (Some plain_object))) (unlisted worked_folder (nodes 2))
chained_finds = (removing-doomed worked worked_layout [] worked_folder (unlisted worked_folder (nodes 2)) 0 plain_object the_plain worked-keeps.entries refl refl refl refl).0 still_chained

-- the folder is as while items are removed one after another
unlinking_finds : Finds (rest (doomed 0 worked (Some plain_object))) (unlisted worked_folder (nodes 2))
unfolding still_chained
unlinking_finds = unlinking-items-find worked worked_layout 0 plain_object (λ item. true) chain_of [] (main (codes "b")) worked_folder (unlisted worked_folder (nodes 2)) (unlisted worked_folder (nodes 2)) refl (own-items-leave (codes "b")).0
    (kept-begin worked worked_layout [] worked_folder worked-keeps.entries) refl refl b-unlisted still_chained.unlinking

-- ---- another value of a main item

abbrev other_b : Object
other_b = record plain_object { streams = (codes "b", [], []); settled = false }

b_changes : OneChanged worked (slice_set worked.objects 0 (Some other_b)) (main (codes "b")) × (row_of (with_slot 0 (Some other_b) worked) (main (codes "b")) ≡ Some (main_row (codes "b") plain (codes "b", [], [])))
b_changes = let c = main-changed worked 0 plain_object other_b refl refl refl refl refl in (c.0, c.1 worked-keeps.entries.valid)
