-- The dirty flag of a node, and how it is set.
use Rattle.std.specs.Prelude.{ℕ, ◌≡◌, ◌⊎◌, List, [], ◌∷◌, None, OnOk, Result}
use Rattle.std.specs.Option.{ForSome}
use Rattle.spec_image.specs.Image.{Image}
use Rattle.spec_image.specs.Steps.{TrailStep}
use Rattle.spec_image.specs.Told.{Told, Applies, AppliesPrefix, Passes, Stays}
use Rattle.spec_format.specs.Records.{Node, sealed_node}
use Rattle.spec_format.specs.Sealed.{IsMidUpdate, RecordChecks, record_size, sealed_steps}
use Rattle.spec_folder.specs.ShownChanges.{ChangesInside, OnlyNodeFieldsChange}
use Rattle.spec_folder.specs.View.{node_at}
use Rattle.blk_io.specs.declared.fault.Fault.{Fault}
use Rattle.blk_io.specs.Faults.{IfDamaged}
use Rattle.blk_disk.specs.declared.tables.BlockFiles.{BlockFiles}
use Rattle.blk_disk.specs.Tables.{Agrees}
use Rattle.blk_disk.specs.Damages.{IsFailedRecord}

-- the offset of the dirty flag in a node
abbrev pub dirty_place : ℕ
dirty_place = 28

-- the change of a node that sets its dirty flag
abbrev pub dirty_change : ℕ → List (ℕ × ℕ)
dirty_change mark = (dirty_place, mark) ∷ []

-- the steps that set the dirty flag: the checksum becomes 0, the flag is set, the checksum becomes the hash
abbrev pub mark_steps : Image → ℕ → ℕ → List TrailStep
mark_steps image node mark = sealed_steps image node (dirty_change mark)

-- the node with its dirty flag and its checksum taken as 0
abbrev pub plain_node : Node → Node
plain_node n = record n { dirty = 0; self_hash = 0 }

-- in the midst of setting a dirty flag: a prefix of the update is made, the flag is the old or the new one, the other fields are unchanged, and of the view
-- only what this node says has changed
pub record SetsDirtyInProgress (from : Image) (node mark : ℕ) (image : Image) : Type 0 where
  pub update : IsMidUpdate from node (dirty_change mark) image
  pub dirty : ((node_at image node).dirty ≡ (node_at from node).dirty) ⊎ ((node_at image node).dirty ≡ mark)
  pub others : plain_node (node_at image node) ≡ plain_node (node_at from node)
  pub inside : ChangesInside node from image
  pub only : OnlyNodeFieldsChange node from image

-- the dirty flag is set: the node has this flag and a checksum that matches, and is unchanged otherwise
abbrev pub HasDirtySet : Image → ℕ → ℕ → Image → Type 0
HasDirtySet from node mark image = node_at image node ≡ sealed_node (record (node_at from node) { dirty = mark })

-- the contract of a call that sets the dirty flag of a node
pub record SetsDirty {A : Type 0} (files : BlockFiles) (old new : Told) (node mark : ℕ) (result : Result A Fault) : Type 0 where
  -- when it is done, the node's checksum had matched or been absent, the flag is set, and the table of block files still agrees
  pub checked : OnOk result (ForSome old.files (RecordChecks node))
  pub marked : OnOk result (ForSome old.files (λ from. ForSome new.files (HasDirtySet from node mark)))
  pub checks : ForSome old.files (RecordChecks node) → ForSome new.files (RecordChecks node)
  pub agrees : ForSome new.files (Agrees files)
  -- the steps of the call, and what holds after each single write, where the node's checksum matched or was absent
  pub steps : OnOk result (ForSome old.files (λ from. Applies old new (mark_steps from node mark)))
  pub prefix : ForSome old.files (λ from. AppliesPrefix old new (mark_steps from node mark))
  pub stops : ForSome old.files (λ from. RecordChecks node from → Passes old new (SetsDirtyInProgress from node mark))
  -- a failed check is of this node, and nothing was written; an observable folder gives one only for a node whose checksum doesn't match
  pub damaged : IfDamaged result (IsFailedRecord old node (record_size node))
  pub unwritten : IfDamaged result (λ _. Stays old new)
  pub untold : ForSome old.files (RecordChecks node) → IfDamaged result (λ _. old.files ≡ None)
  -- an opaque folder stays opaque
  pub silent : old.files ≡ None → new.files ≡ None
