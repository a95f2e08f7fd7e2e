-- Recovery of the LRU list: redo of the operation in flight, the end of the list, and the removal of what isn't kept.
use Rattle.std.specs.Prelude.{◌≡◌, ℕ, List, [], ◌++◌, Option, map}
use Rattle.spec_image.specs.Image.{Image}
use Rattle.spec_format.specs.BlockFiles.{IsWellFormed}
use Rattle.spec_image.specs.Steps.{TrailStep, after}
use Rattle.spec_folder.specs.Found.{kept}
use Rattle.spec_folder.specs.ListImages.{IsWritable, completed_walk, completion_steps}
use Rattle.spec_folder.specs.ListPlans.{ending_writes}
use Rattle.spec_folder.specs.ListSteps.{steps_of_writes}
use Rattle.spec_folder.specs.View.{list_of}
use Rattle.blk_lru.specs.Lists.{last_node_of}
use Rattle.law_recovery.specs.ListRepair.{HasRemoved, all_but, removal_steps}

-- the list ends with the walked nodes, of which `kept` are to stay, and none of the others was removed yet
pub record IsEndedList (entry : Image) (walked kept : List ℕ) (image : Image) : Type 0 where
  pub well_formed : IsWellFormed entry
  pub writable : IsWritable entry
  pub removed : HasRemoved entry [] walked kept image

-- the steps that make a node the last one of the list, or the list empty
abbrev pub ending_steps : Option ℕ → Image → List TrailStep
ending_steps last image = steps_of_writes (ending_writes (list_of image) last) image

-- the steps from the end of the list on: the last walked node becomes its last, and then the walked nodes that aren't kept are removed
abbrev pub steps_from_end : (walked kept : List ℕ) → Image → List TrailStep
steps_from_end walked kept image = ending_steps (last_node_of walked) image ++ removal_steps (all_but walked kept) (after (ending_steps (last_node_of walked) image) image)

-- all steps of the list's recovery: the redo of the operation in flight, the end of the list, and the removals
abbrev pub mending_steps : (walked kept : List ℕ) → Image → List TrailStep
mending_steps walked kept image = completion_steps image ++ steps_from_end walked kept (after (completion_steps image) image)

-- what a scan reports of the list: `nodes` are those that a walk meets after the redo, and `others` those of the kept entries
pub record IsListScanned (nodes others : List ℕ) (image : Image) : Type 0 where
  pub well_formed : IsWellFormed image
  pub writable : IsWritable image
  pub walked : nodes ≡ completed_walk image
  pub kept_nodes : others ≡ map (λ k. k.node) (kept image)
