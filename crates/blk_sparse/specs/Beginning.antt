-- A plain object becomes a sparse entry: its third stream gets an index, and then its record gets the flags of a parent.
use Rattle.std.specs.Prelude.{◌≡◌, ◌≤◌, ◌<◌, ℕ, List, [], ◌∷◌, length, false, true}
use Rattle.std.specs.declared.option.Option.TheVariants.{Some}
use Rattle.spec_image.specs.Image.{Image}
use Rattle.blk_model.specs.Items.{main, plain, sparse}
use Rattle.blk_model.specs.State.{IsValidState, Object, State, object_at}
use Rattle.blk_model.specs.Sizes.{longest_key, signatures}
use Rattle.spec_format.specs.Sealed.{RecordChecks}
use Rattle.spec_format.specs.SparseIndex.{ParentIndex, read_parent_index}
use Rattle.spec_folder.specs.Entries.{IsParent, stream}
use Rattle.spec_folder.specs.Layout.{Layout}
use Rattle.spec_folder.specs.Loads.{Loaded}
use Rattle.spec_folder.specs.View.{entry_at}
use Rattle.law_state.specs.Changes.{SameCounters, SameSession}
use Rattle.law_state.specs.Keeping.{KeepsUncounted}
use Rattle.law_state.specs.ObjectLaws.{layout_after}
use Rattle.law_state.specs.PartStates.{with_object}
use Rattle.blk_object.specs.KeptObjects.{KeptObject}
use Rattle.blk_sparse.specs.SparseObjects.{CanBecomeSparse}

-- the change of a record that sets the flags of a parent
abbrev pub parent_change : List (ℕ × ℕ)
parent_change = (72, 1) ∷ []

-- the object as a sparse one of this generation, without the index in its third stream
abbrev pub as_sparse : Object → ℕ → Object
as_sparse object signature = record object { shape = sparse signature; streams = (object.streams.0, [], []) }

-- precondition: the folder keeps a state (but for the counters) in which a dirty live object is plain, though its third stream is already the index of a
-- parent, and its second is empty; its record is at address `entry`
pub record CanGetIndex (state : State) (layout : Layout) (unlinked : List ℕ) (number : ℕ) (object : Object) (was : Loaded) (index : ParentIndex) (entry : ℕ) (image : Image) : Type 0 where
  pub kept : KeepsUncounted state layout unlinked image
  pub here : object_at state number ≡ Some object
  pub live : object.live ≡ true
  pub unsettled : object.settled ≡ false
  pub is_plain : object.shape ≡ plain
  pub second : object.streams.1 ≡ []
  pub lies : layout.at (layout.place (main object.key)) ≡ Some was
  pub record_is : was.contents ≡ entry
  pub index_is : read_parent_index (stream 2 was.streams) ≡ Some index
  pub key_len : index.key_len ≡ length was.key
  pub valid : IsValidState (with_object state number (as_sparse object index.signature))

-- P holds of each plain object whose third stream is the index of a parent and whose record is at address `entry`, wherever a folder keeps a state
abbrev pub ForEachWithIndex : (entry : ℕ) → Image → (State → Layout → List ℕ → ℕ → Object → Loaded → ParentIndex → Type 0) → Type 0
ForEachWithIndex entry from P =
    (state : State) (layout : Layout) (unlinked : List ℕ) (number : ℕ) (object : Object) (was : Loaded) (index : ParentIndex)
    → CanGetIndex state layout unlinked number object was index entry from → P state layout unlinked number object was index

-- the folder keeps the state in which the object is sparse, but for the counters; these and the session are unchanged, and at its node lies the same as before,
-- as a parent
pub record IsParentMarked (state : State) (layout : Layout) (unlinked : List ℕ) (number : ℕ) (object : Object) (was : Loaded) (index : ParentIndex) (from image : Image) : Type 0 where
  pub kept : KeepsUncounted (with_object state number (as_sparse object index.signature)) (layout_after layout (layout.place (main object.key)) (record was { role = IsParent index })) unlinked image
  pub counters : SameCounters from image
  pub session : SameSession from image

-- the bytes are the index of a parent of this generation, for a key of this length
pub record HasIndex (signature key_len : ℕ) (bytes : List ℕ) : Type 0 where
  pub index : ParentIndex
  pub is : read_parent_index bytes ≡ Some index
  pub signature_is : index.signature ≡ signature
  pub key_len_is : index.key_len ≡ key_len

-- the record's checksum matches or is absent, and the length of its key is one that an object's may have
pub record HasParentLength (entry : ℕ) (image : Image) : Type 0 where
  pub checks : RecordChecks entry image
  pub some : 1 ≤ (entry_at image entry).key_len
  pub short : (entry_at image entry).key_len ≤ longest_key

-- P holds of each plain object that may become sparse and has this record, and of each generation with which these bytes are an index of it
abbrev pub ForEachPlainWith : (bytes : List ℕ) (entry : ℕ) → Image → (KeptObject → (node signature : ℕ) → Type 0) → Type 0
ForEachPlainWith bytes entry from P =
    (state : State) (layout : Layout) (unlinked : List ℕ) (number : ℕ) (object : Object) (node signature : ℕ)
    → CanBecomeSparse state layout unlinked number object node entry from → signature < signatures → HasIndex signature (entry_at from entry).key_len bytes
    → P (record { state = state; layout = layout; unlinked = unlinked; number = number; object = object }) node signature
