-- Invariants of changes of the LRU list, after each single write.
use Rattle.std.specs.Prelude.{ℕ, ◌++◌, ◌∷◌, nat_lt, if◌then◌else◌, List}
use Rattle.spec_image.specs.Image.{Image}
use Rattle.spec_folder.specs.ListView.{ListWrite}
use Rattle.spec_folder.specs.ListPlans.{completion_writes, touch_writes, writes_of}
use Rattle.spec_folder.specs.View.{list_of}
use Rattle.spec_folder.specs.ListSteps.{IsPartly, IsTouched}
use Rattle.spec_folder.specs.ListImages.{CompletesTo, CompletesAlike, walked}
use Rattle.spec_folder.specs.Completion.{insert, remove}
use Rattle.blk_disk.specs.declared.tables.BlockFiles.{BlockFiles}
use Rattle.blk_disk.specs.Open.{IsOpen}

-- in an operation on the list a prefix of its writes is made, and nothing else of the view has changed; the redo gives the old list until its code and its node
-- are written (two writes), and the new one from then on; the index has its length, and the table agrees
pub record IsMidOperation (files : BlockFiles) (writes : List ListWrite) (old new : List ℕ) (from image : Image) : Type 0 where
  pub partly : IsPartly from writes image
  pub completes : CompletesTo (if nat_lt partly.made 2 then old else new) image
  pub is_open : IsOpen files image

-- in an access of the node a prefix of its writes is made, and the bytes of this node may change: the redo gives the old list until two writes are made, and
-- the new one from then on
pub record IsMidTouch (files : BlockFiles) (node : ℕ) (writes : List ListWrite) (old new : List ℕ) (from image : Image) : Type 0 where
  pub partly : IsTouched from node writes image
  pub completes : CompletesTo (if nat_lt partly.made 2 then old else new) image
  pub is_open : IsOpen files image

-- in an insert of the node, whose list has it in front in the end
abbrev pub IsMidInsert : BlockFiles → (node : ℕ) → (from image : Image) → Type 0
IsMidInsert files node from image = IsMidOperation files (writes_of insert node (list_of from)) (walked from) (node ∷ walked from) from image

-- in a removal of the node, whose list has the nodes before it and those after it in the end
abbrev pub IsMidRemove : BlockFiles → (node : ℕ) → (prefix suffix : List ℕ) → (from image : Image) → Type 0
IsMidRemove files node prefix suffix from image = IsMidOperation files (writes_of remove node (list_of from)) (prefix ++ node ∷ suffix) (prefix ++ suffix) from image

-- in an access of the node, whose list has it in front of the others in the end
abbrev pub IsMidAccess : BlockFiles → (node : ℕ) → (prefix suffix : List ℕ) → (from image : Image) → Type 0
IsMidAccess files node prefix suffix from image = IsMidTouch files node (touch_writes node (list_of from)) (prefix ++ node ∷ suffix) (node ∷ prefix ++ suffix) from image

-- in a redo a prefix of its writes is made, nothing else of the view has changed, and a redo of what is there gives the same list
pub record IsMidCompletion (files : BlockFiles) (from image : Image) : Type 0 where
  pub partly : IsPartly from (completion_writes (list_of from)) image
  pub alike : CompletesAlike from image
  pub is_open : IsOpen files image
