-- Clauses of the calls that evict. Each predicate is given the image before the call and what a state has there.
use Rattle.std.specs.Prelude.{ℕ, [], ◌∷◌, Bool, List, Option, Some}
use Rattle.std.specs.Option.{ForSome}
use Rattle.spec_image.specs.Image.{Image}
use Rattle.spec_image.specs.Told.{Passes, Told}
use Rattle.blk_model.specs.Effects.{doomed}
use Rattle.blk_model.specs.Items.{Item}
use Rattle.blk_model.specs.Room.{Group, parts_among, without}
use Rattle.blk_model.specs.State.{Object, State}
use Rattle.blk_script.specs.Reply.{evicted_text}
use Rattle.spec_folder.specs.Layout.{Layout}
use Rattle.spec_folder.specs.Loads.{Loaded}
use Rattle.blk_disk.specs.declared.tables.BlockFiles.{BlockFiles}
use Rattle.blk_disk.specs.Open.{IsOpen}
use Rattle.blk_chain.specs.declared.found.Found.{Found}
use Rattle.blk_object.specs.declared.owning.Owned.{Owned}
use Rattle.blk_object.specs.RemovingObjects.{FindsEither, IsOwnedBy}
use Rattle.blk_sparse.specs.declared.dropping.Gone.{Gone}
use Rattle.blk_sparse.specs.Parents.{ForEachParent, IsGoneWhole, IsGroupTold}
use Rattle.blk_evict.specs.declared.read_parent.ReadParent.{ReadParent}
use Rattle.blk_evict.specs.declared.item_names.EntryKind.{EntryKind}
use Rattle.blk_evict.specs.declared.item_names.EntryKind.TheVariants.{Parent}
use Rattle.blk_evict.specs.declared.list_places.Unpinned.{Unpinned}
use Rattle.blk_evict.specs.EvictingGroups.{ForEachGoing, ForEachListed, ForEachOfKind, IsGroupOut, IsItemName, text_of_parts}
use Rattle.blk_evict.specs.RoomPrinting.{PrintsUnlessFailed}

-- Eviction units.

-- P holds of each eviction unit of the item that was found, which may be evicted
abbrev pub ForGoing : Told → Unpinned → (Image → State → Layout → Group → Type 0) → Type 0
ForGoing told found P = ForSome told.files (λ from. ForEachGoing found from (P from))

-- P holds of each such unit if the item has this kind and this key or name, and what was read is what it has
abbrev pub ForOwned : Told → Unpinned → Owned → EntryKind → (key : List ℕ) → (Image → State → Layout → Group → Type 0) → Type 0
ForOwned told found owned kind key P = ForSome told.files (λ from. IsOwnedBy found.entry owned from → ForEachOfKind found kind key from (P from))

-- where there is such a unit, of which this was read, Q holds
abbrev pub WhereOwned : Told → Unpinned → Owned → EntryKind → (key : List ℕ) → (Image → Type 0) → Type 0
WhereOwned told found owned kind key Q = ForOwned told found owned kind key (λ from state layout group. Q from)

-- P holds of each such unit of a parent, of which this was read
abbrev pub ForOwnedParent : Told → ReadParent → (Image → State → Layout → Group → Type 0) → Type 0
ForOwnedParent told read P = ForOwned told read.found.now read.owned.now Parent read.key.now P

-- the key of the record that was found is the key that was read
abbrev pub HasReadKey : ReadParent → Image → Type 0
HasReadKey read = λ image. IsItemName read.found.now.entry read.key.now image

-- the unit is removed, and `gone` has the counts of what was
abbrev pub TakesGroup : (new : Told) → Gone → Image → State → Layout → Group → Type 0
TakesGroup new gone from state layout group = ForSome new.files (IsGroupOut state layout group gone from)

-- at each step recovery gives the durable contents of the state with the unit or without it
abbrev pub StopsGroup : (old new : Told) → Image → State → Layout → Group → Type 0
StopsGroup old new from state layout group = Passes old new (FindsEither state (without (group ∷ []) state))

-- The lines of eviction units.

-- P holds of the lines of each eviction unit of the item that was found, which may be evicted
abbrev pub ForGoingLines : Told → Unpinned → (List ℕ → Type 0) → Type 0
ForGoingLines told found P = ForSome told.files (λ from. ForEachGoing found from (λ state layout group. P (evicted_text (group ∷ []))))

-- P holds of the lines of each eviction unit of the item that was found, if that has this kind and this key or name
abbrev pub ForLines : Told → Unpinned → EntryKind → (key : List ℕ) → (List ℕ → Type 0) → Type 0
ForLines told found kind key P = ForSome told.files (λ from. ForEachOfKind found kind key from (λ state layout group. P (evicted_text (group ∷ []))))

-- P holds of the lines of each eviction unit of a parent, of which this was read
abbrev pub ForParentLines : Told → ReadParent → (List ℕ → Type 0) → Type 0
ForParentLines told read P = ForOwnedParent told read (λ from state layout group. P (evicted_text (group ∷ [])))

-- the lines are printed, unless the output failed
abbrev pub SaysLines : {S : Type 0} → (failed_before failed : Bool) → (written : S → Option (List ℕ)) → (old new : S) → (lines : List ℕ) → Type 0
SaysLines failed_before failed written old new lines = PrintsUnlessFailed failed_before failed (written old) (written new) lines

-- Sparse objects with their parts.

-- P holds of each sparse object that no handle names with the node and the key that were read and the record that was found, if what was read is what its main
-- item has
abbrev pub ForParentAt : Told → Found → ReadParent → ((key : List ℕ) → Image → State → Layout → List ℕ → ℕ → Object → Type 0) → Type 0
ForParentAt told at read P =
    ForSome told.files (λ from. IsOwnedBy at.entry read.owned.now from → ForEachParent read.key.now read.found.now.node at.entry at.before from (P read.key.now from))

-- where there is such an object, Q holds
abbrev pub WhereParentAt : Told → Found → ReadParent → (Image → Type 0) → Type 0
WhereParentAt told at read Q = ForParentAt told at read (λ key from state layout unlinked number object. Q from)

-- P holds of the lines of the parts of each sparse object that no handle names and of which this was read and found
abbrev pub ForPartLines : Told → Found → ReadParent → (List ℕ → Type 0) → Type 0
ForPartLines told at read P = ForParentAt told at read (λ key from state layout unlinked number object. P (text_of_parts key (parts_among key state.uses)))

-- all its items are removed
abbrev pub TakesParent : (new : Told) → (key : List ℕ) → Image → State → Layout → List ℕ → ℕ → Object → Type 0
TakesParent new key from state layout unlinked number object = ForSome new.files (IsGoneWhole state layout unlinked number object)

-- `gone` has the counts of its items
abbrev pub CountsParent : Gone → (key : List ℕ) → Image → State → Layout → List ℕ → ℕ → Object → Type 0
CountsParent gone key from state layout unlinked number object = IsGroupTold state layout key gone

-- at each step recovery gives the durable contents of the state before, or of that in which the object is doomed
abbrev pub StopsParent : (old new : Told) → (key : List ℕ) → Image → State → Layout → List ℕ → ℕ → Object → Type 0
StopsParent old new key from state layout unlinked number object = Passes old new (FindsEither state (doomed number state (Some object)))

-- Listed items.

-- P holds of each listed item whose record has this key or name
abbrev pub ForListed : Told → (key : List ℕ) (is_child : Bool) → (State → Layout → Item → Loaded → Type 0) → Type 0
ForListed told key is_child P = ForSome told.files (λ image. ForEachListed key is_child image P)

-- where the folder is open and has such an item, Q holds
abbrev pub WhereListed : Told → BlockFiles → (key : List ℕ) (is_child : Bool) → (Q : Type 0) → Type 0
WhereListed told files key is_child Q = ForSome told.files (IsOpen files) → ForListed told key is_child (λ state layout item was. Q)
