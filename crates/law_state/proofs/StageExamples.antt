-- The laws on folders in the midst of a command speak of something: in the whole folder of one entry, whose handle is 0, a Read, a Doom and a List are begun;
-- and in the folder of one doomed object its key is out.
use Rattle.std.proofs.Common.{◌++◌, ◌≡◌, [], ◌∷◌, refl, sym, subst, true, false, arith, None, Some, codes}
use Rattle.std.specs.Option.{ForSome}
use Rattle.spec_image.specs.Footprint.{Footprint, SameOutside}
use Rattle.spec_image.specs.Image.{Image}
use Rattle.spec_image.specs.Steps.{Note}
use Rattle.spec_image.specs.Told.{Applies, Told}
use Rattle.spec_image.proofs.Runs.{passes_none, some_inj}
use Rattle.blk_model.specs.Effects.{doomed}
use Rattle.blk_model.specs.Holding.{rest}
use Rattle.blk_model.specs.Items.{main}
use Rattle.blk_model.specs.Request.{to_close, to_doom, to_list, to_read}
use Rattle.blk_model.specs.State.{State}
use Rattle.blk_model.specs.Step.{step}
use Rattle.blk_model.proofs.Computing.{computing}
use Rattle.blk_model.proofs.StopRests.{rest_before}
use Rattle.spec_folder.specs.Removal.{is_of_another}
use Rattle.spec_folder.specs.StandsFor.{StandsFor}
use Rattle.spec_folder.specs.View.{store_of, view_of}
use Rattle.law_folder.proofs.examples.ExampleDoomed.{doomed_layout, doomed_object, doomed_state}
use Rattle.law_folder.proofs.examples.DoomedFolder.{doomed_folder}
use Rattle.law_folder.proofs.updates.IndexWords.{same-shown}
use Rattle.law_folder.proofs.examples.OneEntry as one
use Rattle.law_folder.proofs.states.OthersHold.{represented-but}
use Rattle.law_folder.proofs.examples.WholeFolder.{whole_folder}
use Rattle.law_state.specs.Changes.{Finds, StillFinds}
use Rattle.law_state.specs.Commands.{IsStepped, MayStop}
use Rattle.law_state.specs.Keeping.{Keeps}
use Rattle.law_state.specs.StageLaws.{MayStopBetween, IsAtStage}
use Rattle.law_state.specs.WordStops.{IsMidRemoval, IsMidUse, IsOut}
use Rattle.law_state.proofs.Examples.{doomed-keeps, opened, whole-keeps, whole-magic}
use Rattle.law_state.proofs.Keeping.{kept-stands, kept-held}
use Rattle.spec_folder.specs.Sound.{words_of}
use Rattle.law_state.specs.GoneLaws.{layout_without}
use Rattle.law_state.proofs.OneCalls.{closes-of-doomed-unlink}
use Rattle.law_state.specs.DoomLaws.{CanBeDoomed}
use Rattle.law_state.specs.PartlyOut.{KeepsPartlyOut}
use Rattle.blk_model.proofs.Doomed.{state_doomed}
use Rattle.law_state.proofs.PartlyOut.{kept-begin}
use Rattle.law_state.proofs.Stages.{ends-kept, notes-end, stages-stop}
use Rattle.law_state.proofs.Stopping.{quiet-keep, stop-before}
use Rattle.law_state.proofs.WordStops.{dooms-find, dooms-stop, out-doomed, uses-stop}
use Rattle.spec_format.proofs.Finished.{headers-kept}

abbrev folder : Image
folder = opened whole_folder 7

abbrev state : State
state = one.state true

unchanged : (footprint : Footprint) (image : Image) → SameOutside footprint image image
unchanged footprint image = record { bytes = λ file i out. refl; lengths = λ file out. refl; files = λ file out. refl }

-- a Read may crash before the first word of the access of its item
before_use : IsMidUse (one.layout 0) (main (codes "a")) folder folder
before_use = record { made = 0; within = omega arith; shown = record { list = refl; store = same-shown (store_of folder) }; outside = unchanged _ folder; headers = headers-kept folder }

read_stops : MayStop state 100 (to_read 0 0 0 1) folder
unfolding computing
read_stops = uses-stop state 100 (to_read 0 0 0 1) [] [] (main (codes "a")) (one.layout 0) [] folder folder whole-keeps.entries.valid refl refl refl whole-keeps.entries refl before_use

-- a Doom may crash before the removal of its item
before_removal : IsMidRemoval (one.layout 0) (main (codes "a")) folder folder
before_removal = record { made = 0; within = omega arith; shown = record { list = refl; store = same-shown (store_of folder) }; outside = unchanged _ folder; headers = headers-kept folder }

doom_finds : Finds (rest state) folder
unfolding before_removal
doom_finds = dooms-find state (one.layout 0) [] folder folder 0 (one.object true) whole-keeps.entries refl refl before_removal

doom_stops : MayStop state 100 (to_doom 0) folder
unfolding computing
doom_stops = dooms-stop state 100 (to_doom 0) 0 (one.object true) true folder whole-keeps.entries.valid (omega arith) refl refl refl doom_finds

-- the key of a doomed object is out of the list
key_is_out : IsOut (doomed_state true) (doomed_layout 0) (codes "a") (is_of_another (codes "a")) (opened doomed_folder 7)
key_is_out = record {
  sound = doomed-keeps.entries.sound;
  except = λ node. false;
  holds = represented-but (λ node. false) (view_of (opened doomed_folder 7)) (doomed_state true) (doomed_layout 0) doomed-keeps.entries.represents;
  out = refl;
  others = λ item other. other;
  there = λ item listed keeps. refl;
  list = record { whole = doomed-keeps.entries.represents.list; idle = doomed-keeps.entries.represents.idle };
}

out_is_doomed : Finds (rest (doomed 0 (doomed_state true) (Some (doomed_object true)))) (opened doomed_folder 7)
out_is_doomed = out-doomed (doomed_state true) (doomed_layout 0) 0 (doomed_object true) (is_of_another (codes "a")) (opened doomed_folder 7) doomed-keeps.entries.valid refl key_is_out

-- a List is at its first stage, and a call that changes nothing may crash there
abbrev told : Told
told = record { files = Some folder; trail = None }

at_first : IsAtStage [] state 100 to_list folder
at_first = record { inner = state; layout = one.layout 0; unlinked = []; kept = whole-keeps.entries; left = rest_before state 100 to_list whole-keeps.entries.valid }

still : StillFinds [] folder folder
still inner layout unlinked k = (k.sound, kept-held inner layout unlinked folder k)

only-folder : (P : Image → Type 0) → P folder → ForSome told.files P
only-folder P holds image is = subst P (some_inj is) holds

list_goes_on : MayStopBetween (λ m image. Keeps m (one.layout 0) [] image × (m ≡ state)) told told told 100 to_list
list_goes_on = stages-stop (λ m image. Keeps m (one.layout 0) [] image × (m ≡ state)) told told told 100 to_list [] (λ image is m k. subst (λ (s : State). ForSome told.files (IsAtStage [] s 100 to_list)) (sym k.1) (only-folder (IsAtStage [] state 100 to_list) at_first))
    (passes_none (λ image. ForSome told.files (λ from. StillFinds [] from image)) refl (only-folder (λ image. ForSome told.files (λ from. StillFinds [] from image)) (only-folder (λ from. StillFinds [] from folder) still)))

-- a List ends with the state that it began with, and is noted
list_ends : Keeps (step state 100 to_list).state (one.layout 0) [] folder
list_ends = ends-kept state state 100 to_list state.names (one.layout 0) [] folder whole-keeps.entries.valid tt (quiet-keep state 100 0 0).0 whole-keeps

noted : Applies told told (Note 1 ∷ [])
noted = record { files = refl; trail = refl }

list_is_stepped : IsStepped told told 100 to_list 1 state
list_is_stepped = notes-end told told told 100 to_list 1 state (passes_none (MayStop state 100 to_list) refl (only-folder (MayStop state 100 to_list) (stop-before state 100 to_list folder whole-keeps.entries.valid (still state (one.layout 0) [] whole-keeps.entries))))
    (only-folder (λ image. StandsFor image (step state 100 to_list).state) (kept-stands (step state 100 to_list).state (one.layout 0) folder list_ends whole-magic)) noted

-- the doomed object is closed by its last handle, and its words are unlinked
doomed_is_closed : Keeps (step (doomed_state true) 100 (to_close 0)).state (layout_without (doomed_layout 0) ((doomed_layout 0).place_of_doomed 0)) (words_of (one.loaded 0) ++ []) (opened doomed_folder 7)
doomed_is_closed = closes-of-doomed-unlink (doomed_state true) (doomed_layout 0) [] (opened doomed_folder 7) 100 0 0 (doomed_object true) (one.loaded 0) doomed-keeps (omega arith) refl (unfold computing in refl) (record { here = refl; dead = refl; at = refl })

-- the object of the whole folder can be doomed, whose handle is 0
can_be_doomed : CanBeDoomed state (one.layout 0) 0 (one.object true) (one.loaded 0)
can_be_doomed = record { lies = one.lies 0; named = refl; alone = λ n. refl; valid = state_doomed state whole-keeps.entries.valid 0 (one.object true) refl refl }

-- none of its items is out yet
none_is_out : KeepsPartlyOut state (one.layout 0) (λ item. true) (one.layout 0).chains [] folder
none_is_out = kept-begin state (one.layout 0) [] folder whole-keeps.entries
