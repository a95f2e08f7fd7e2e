-- The steps by which the LRU list is repaired, and what is held at each of their words.
use Rattle.std.specs.Prelude.{◌≡◌, ◌==◌, if◌then◌else◌, ℕ, Bool, true, false, not, List, [], ◌∷◌, ◌++◌, map}
use Rattle.std.specs.List.{filter}
use Rattle.spec_image.specs.Image.{Image}
use Rattle.spec_image.specs.Steps.{TrailStep, after}
use Rattle.spec_image.specs.Told.{Along}
use Rattle.spec_format.specs.BlockFiles.{is_among, IsWellFormed}
use Rattle.spec_folder.specs.View.{list_of, store_of}
use Rattle.spec_folder.specs.Completion.{remove}
use Rattle.spec_folder.specs.Loads.{held_rule}
use Rattle.spec_folder.specs.Found.{kept, found}
use Rattle.spec_folder.specs.ListSteps.{steps_of_writes}
use Rattle.spec_folder.specs.ListImages.{IsWritable, walked, completed_walk, HasListAtRest, operation_steps, completion_steps}
use Rattle.spec_folder.specs.ShownChanges.{ShowsTheSame}
use Rattle.law_recovery.specs.RecordSeals.{KeepsRecordsSealed}
use Rattle.law_recovery.specs.EndRepair.{end_writes}
use Rattle.spec_folder.specs.Audit.{is_kept, kept_nodes}

-- the steps that repair the end of an image's LRU list
abbrev pub end_steps : Image → List TrailStep
end_steps image = steps_of_writes (end_writes (list_of image)) image

-- the steps that take some nodes out of the LRU list, one after the other
abbrev pub removal_steps : List ℕ → Image → List TrailStep
removal_steps [] image = []
removal_steps (node ∷ nodes) image = operation_steps remove node image ++ removal_steps nodes (after (operation_steps remove node image) image)

-- the walked nodes that are not kept, in the order of the list
abbrev pub dropped_nodes : Image → List ℕ
dropped_nodes image = filter (λ node. not (is_kept (store_of image) held_rule (walked image) node)) (walked image)

-- the image after the redo of its LRU list
abbrev pub completed_image : Image → Image
completed_image image = after (completion_steps image) image

-- the image after the redo of its LRU list and the repair of the list's end
abbrev pub ended_image : Image → Image
ended_image image = after (end_steps (completed_image image)) (completed_image image)

-- the steps of the repair of the LRU list: the operation in flight is redone, the end of the list is repaired, and each node that isn't kept is taken out
abbrev pub list_repair_steps : Image → List TrailStep
list_repair_steps image = completion_steps image ++ (end_steps (completed_image image) ++ removal_steps (dropped_nodes (ended_image image)) (ended_image image))

-- the image is well formed and can be written, and keeps what another image does: the same records in the same order, and so the same recovered contents
pub record HoldsTheSame (from image : Image) : Type 0 where
  pub well_formed : IsWellFormed image
  pub writable : IsWritable image
  pub kept_same : kept image ≡ kept from
  pub found_same : found image ≡ found from

-- the LRU list is repaired: it is idle, with the kept nodes alone, all of which are still kept; nothing else is shown to change, and each record that had
-- its checksum has it
pub record IsListMended (from image : Image) : Type 0 where
  pub rests : HasListAtRest (map (λ k. k.node) (kept from)) image
  pub store : ShowsTheSame (store_of from) (store_of image)
  pub seals : KeepsRecordsSealed from image
  pub all_kept : kept_nodes (store_of image) held_rule (walked image) ≡ walked image

-- the repair of the LRU list keeps the recovered contents at each of its words, and in the end the list is repaired
abbrev pub ListsAreRepaired : Type 0
ListsAreRepaired = (image : Image) → IsWellFormed image → IsWritable image → Along (HoldsTheSame image) image (list_repair_steps image) × IsListMended image (after (list_repair_steps image) image)

-- The end of the list.

-- before the removals: the list is idle, with the nodes that the redo leaves, and the recovered contents are the old ones
pub record IsListEnded (from image : Image) : Type 0 where
  pub holds : HoldsTheSame from image
  pub rests : HasListAtRest (completed_walk from) image
  pub store : ShowsTheSame (store_of from) (store_of image)
  pub seals : KeepsRecordsSealed from image

-- the redo of a well-formed folder's LRU list, and the repair of its end, leave the list idle, and keep the recovered contents
abbrev pub CompletedListsAreEnded : Type 0
CompletedListsAreEnded = (image : Image) → IsWellFormed image → IsWritable image → IsListEnded image (ended_image image)

-- an idle list needs no steps of a redo, and none to repair its end
abbrev pub ListsAtRestNeedNoEnd : Type 0
ListsAtRestNeedNoEnd = (image : Image) (nodes : List ℕ) → HasListAtRest nodes image → (completion_steps image ≡ []) × (end_steps image ≡ [])

-- The removals, one after the other, while the walked nodes and the kept ones are read side by side.

-- some numbers without others, where these are among them in the same order
abbrev pub all_but : List ℕ → List ℕ → List ℕ
all_but [] others = []
all_but (node ∷ nodes) [] = node ∷ all_but nodes []
all_but (node ∷ nodes) (other ∷ others) = if node == other then all_but nodes others else node ∷ all_but nodes (other ∷ others)

-- whether a number is the first of some
abbrev pub is_first : ℕ → List ℕ → Bool
is_first node [] = false
is_first node (other ∷ others) = node == other

-- the nodes that are taken out are the walked ones without the kept ones
abbrev pub DroppedNodesAreTheOthers : Type 0
DroppedNodesAreTheOthers = (image : Image) → IsWellFormed image → IsWritable image → dropped_nodes (ended_image image) ≡ all_but (completed_walk image) (map (λ k. k.node) (kept image))

-- some dropped nodes are taken out of the list of an image: it is idle with these nodes, all kept ones among them; nothing else is shown to change
pub record HasLeft (from : Image) (nodes : List ℕ) (image : Image) : Type 0 where
  pub well_formed : IsWellFormed image
  pub writable : IsWritable image
  pub store : ShowsTheSame (store_of from) (store_of image)
  pub seals : KeepsRecordsSealed from image
  pub rests : HasListAtRest nodes image
  pub stays : ℕ → Bool
  pub kept_stay : (node : ℕ) → is_kept (store_of from) held_rule (walked from) node ≡ true → stays node ≡ true
  pub are : nodes ≡ filter stays (walked from)

-- some dropped nodes are taken out: left in the list are the kept ones before a place, and all nodes from there on, of which these are the ones to keep
pub record HasRemoved (from : Image) (before nodes others : List ℕ) (image : Image) : Type 0 where
  pub left : HasLeft (ended_image from) (before ++ nodes) image
  pub holds : HoldsTheSame from image
  pub were_kept : (node : ℕ) → is_among before node ≡ true → is_kept (store_of (ended_image from)) held_rule (walked (ended_image from)) node ≡ true
  pub to_keep : others ≡ filter (is_kept (store_of (ended_image from)) held_rule (walked (ended_image from))) nodes

-- before the removals, with the end of the list repaired, no node is taken out yet
abbrev pub RemovalsBegin : Type 0
RemovalsBegin = (from : Image) → IsWellFormed from → IsWritable from → HasRemoved from [] (completed_walk from) (map (λ k. k.node) (kept from)) (ended_image from)

-- a node that is the next of those to keep stays in the list, and the removals go on after it
abbrev pub KeptNodesArePassed : Type 0
KeptNodesArePassed = (from image : Image) (before : List ℕ) (node : ℕ) (nodes others : List ℕ) → IsWellFormed from → IsWritable from → HasRemoved from before (node ∷ nodes) (node ∷ others) image → HasRemoved from (before ++ node ∷ []) nodes others image

-- a node that isn't the next of those to keep is taken out, and the recovered contents stay at each word of that
abbrev pub OtherNodesAreRemoved : Type 0
OtherNodesAreRemoved = (from image : Image) (before : List ℕ) (node : ℕ) (nodes others : List ℕ) → IsWellFormed from → IsWritable from → HasRemoved from before (node ∷ nodes) others image → is_first node others ≡ false
    → Along (HoldsTheSame from) image (operation_steps remove node image) × HasRemoved from before nodes others (after (operation_steps remove node image) image)

-- once no node is left to look at, the list is repaired
abbrev pub ListRepairsEnd : Type 0
ListRepairsEnd = (from image : Image) (before : List ℕ) → IsWellFormed from → IsWritable from → HasRemoved from before [] [] image → IsListMended from image
