-- Inserts, removals and accesses of nodes of a kept state.
use Rattle.std.proofs.Common.{◌≡◌, ℕ, ◌≤◌, List, ◌∷◌, ◌++◌, ap, sym, ◌∙◌, subst, lit≤, Some}
use Rattle.std.specs.Option.{option_map}
use Rattle.spec_image.specs.Image.{Image}
use Rattle.spec_image.specs.Steps.{TrailStep, after}
use Rattle.spec_image.specs.Told.{Applies, TellsBytes, Told}
use Rattle.spec_image.proofs.Runs.{passes_weaker, some_inj}
use Rattle.spec_format.specs.Headers.{header_length}
use Rattle.blk_disk.specs.declared.tables.BlockFiles.{BlockFiles}
use Rattle.blk_disk.specs.Open.{IsOpen}
use Rattle.spec_folder.specs.Completion.{insert, remove}
use Rattle.spec_folder.specs.Layout.{nodes_of, order}
use Rattle.spec_folder.specs.ListImages.{IsWritable, operation_steps, steps_of_touch}
use Rattle.spec_folder.specs.ListView.{IsList}
use Rattle.spec_folder.specs.View.{list_of}
use Rattle.law_folder.proofs.commands.Opening.{IsAround, around, nodes-append}
use Rattle.law_state.specs.ListLaws.{IsTouchDone}
use Rattle.law_state.specs.NewEntryLaws.{IsInsertDone}
use Rattle.law_state.specs.RemovalLaws.{IsRemovalDone}
use Rattle.law_state.proofs.DoneSteps.{insert-done, removal-done, touch-done}
use Rattle.law_state.proofs.NewEntries.{can-insert}
use Rattle.blk_object.specs.KeptLists.{InsertsAreDone, InsertsArePartly, ListedNodesAreInTheList, NewNodesCanBeInserted, RemovalsAreDone, RemovalsArePartly, TouchesAreDone, TouchesArePartly}

pub new-can-be : NewNodesCanBeInserted
new-can-be state layout unlinked key loaded from k n = can-insert state layout unlinked key loaded from k n

pub listed-amid : ListedNodesAreInTheList
listed-amid state layout unlinked image item k listed =
    let a : IsAround item state.uses = around item state.uses listed (k.valid.once item) in
    let order-is : order state layout ≡ nodes_of layout a.before ++ layout.place item ∷ nodes_of layout a.suffix = ap (nodes_of layout) a.is ∙ nodes-append layout a.before (item ∷ a.suffix) in
    record { prefix = nodes_of layout a.before; suffix = nodes_of layout a.suffix; rest = record { whole = subst (IsList (list_of image)) order-is k.represents.list; idle = k.represents.idle } }

-- ---- observed files

-- the observed files after steps are those before, with the steps made
pub told-after : (old new : Told) (steps : List TrailStep) (from image : Image) → Applies old new steps → old.files ≡ Some from → new.files ≡ Some image → after steps from ≡ image
told-after old new steps from image applies there is = sym (some_inj (sym is ∙ applies.files ∙ ap (option_map (after steps)) there))

-- an open folder of bytes can be written
writable : (files : BlockFiles) (old : Told) (from : Image) → TellsBytes old → old.files ≡ Some from → IsOpen files from → IsWritable from
writable files old from bytes there open_folder = record { bytes = bytes from there; has_header = subst (λ (n : ℕ). header_length ≤ n) (sym open_folder.whole_index) (lit≤ tt) }

-- ---- inserts

pub inserts-partly : InsertsArePartly
inserts-partly files node old new can passes from there = passes_weaker (passes from there (can from there)) (λ image m. m.partly) (λ image m. m.partly)

pub inserts-done : InsertsAreDone
inserts-done files node old new bytes is_open can steps from there image is =
    subst (IsInsertDone from node) (told-after old new (operation_steps insert node from) from image (steps from there) there is) (insert-done from node (writable files old from bytes there (is_open from there)) (can from there))

-- ---- removals

pub removals-partly : RemovalsArePartly
removals-partly files node old new amid passes from there = let a = amid from there in passes_weaker (passes from there a.prefix a.suffix a.rest) (λ image m. m.partly) (λ image m. m.partly)

pub removals-done : RemovalsAreDone
removals-done files node old new bytes is_open amid steps from there image is = let a = amid from there in
    subst (IsRemovalDone from node) (told-after old new (operation_steps remove node from) from image (steps from there) there is) (removal-done from node a.prefix a.suffix (writable files old from bytes there (is_open from there)) a.rest)

-- ---- accesses

pub touches-partly : TouchesArePartly
touches-partly files node old new amid passes from there = let a = amid from there in passes_weaker (passes from there a.prefix a.suffix a.rest) (λ image m. m.partly) (λ image m. m.partly)

pub touches-done : TouchesAreDone
touches-done files node moment old new bytes is_open amid steps from there image is = let a = amid from there in
    subst (IsTouchDone from node) (told-after old new (steps_of_touch node moment from) from image (steps from there) there is) (touch-done from node moment a.prefix a.suffix (writable files old from bytes there (is_open from there)) a.rest)
