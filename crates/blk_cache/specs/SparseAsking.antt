-- The live object that a request on sparse data names by a handle, or why it is refused.
use Rattle.std.specs.Prelude.{◌≡◌, ◌≤◌, ◌<◌, ◌+◌, ℕ, [], ◌∷◌, false, is_none, nat_lt, true}
use Rattle.std.specs.Int.{cast_unsigned, w64}
use Rattle.std.specs.Option.{option_map_or, ForSome}
use Rattle.std.specs.declared.option.Option.{Option}
use Rattle.std.specs.declared.option.Option.TheVariants.{None, Some}
use Rattle.spec_image.specs.Told.{Told}
use Rattle.blk_model.specs.Items.{main, plain, sparse}
use Rattle.blk_model.specs.Refusals.{first_refusal, has_one_stream, is_doomed, names_none, past_end}
use Rattle.blk_model.specs.Sizes.{largest_offset, part_size, signatures}
use Rattle.blk_model.specs.State.{Object, State}
use Rattle.blk_model.specs.declared.Refusal.{Refusal}
use Rattle.blk_model.specs.declared.Refusal.TheVariants as refusal
use Rattle.spec_format.specs.SparseIndex.{ParentIndex}
use Rattle.spec_folder.specs.Entries.{IsParent}
use Rattle.spec_folder.specs.Layout.{Layout}
use Rattle.spec_folder.specs.Loads.{Loaded}
use Rattle.blk_disk.specs.declared.tables.BlockFiles.{BlockFiles}
use Rattle.blk_disk.specs.Tables.{is_node_among, is_record_among}
use Rattle.blk_handles.specs.Bindings.{Bindings, binding_of}
use Rattle.law_state.specs.OneCallLaws.{Names}
use Rattle.blk_sparse.specs.declared.children.Parent.{Parent}
use Rattle.blk_cache.specs.declared.sparse_asking.AskedSparse.{AskedSparse}
use Rattle.blk_cache.specs.declared.sparse_asking.AskedSparse.TheVariants as asked
use Rattle.blk_cache.specs.declared.sparse_asking.PlainObject.{PlainObject}
use Rattle.blk_cache.specs.declared.cache.Cache.{Cache}
use Rattle.blk_cache.specs.CacheKeeping.{HoldsState}

-- Refusals.

-- the refusal of a request on sparse data that needs no read of the folder: by the table of handles, the range, and whether the object is doomed
abbrev pub early_sparse_refusal : Bindings → (handle offset count : ℕ) → Option Refusal
early_sparse_refusal bindings handle offset count =
    first_refusal ((is_none (binding_of bindings handle), refusal.BadHandle) ∷ (nat_lt part_size count, refusal.TooLarge) ∷ (past_end offset count, refusal.RangeEnd)
    ∷ (option_map_or (λ object. object.doomed) (binding_of bindings handle) false, refusal.Doomed) ∷ [])

-- the refusal of a request on sparse data, the first that applies: no such handle, a range that is too long, one that ends too far, a doomed object
abbrev pub sparse_refusal : State → (handle offset count : ℕ) → Option Refusal
sparse_refusal state handle offset count =
    first_refusal ((names_none state handle, refusal.BadHandle) ∷ (nat_lt part_size count, refusal.TooLarge) ∷ (past_end offset count, refusal.RangeEnd) ∷ (is_doomed state handle, refusal.Doomed) ∷ [])

-- What is found.

-- the handle names a live object whose main item has this node and this record
pub record IsLiveNamed (state : State) (layout : Layout) (handle node entry : ℕ) : Type 0 where
  pub number : ℕ
  pub object : Object
  pub names : Names state handle number object
  pub live : object.live ≡ true
  pub node_is : layout.place (main object.key) ≡ node
  pub was : Loaded
  pub lies : layout.at (layout.place (main object.key)) ≡ Some was
  pub record_is : was.contents ≡ entry

-- the handle names a live plain object, and `found` says whether the object has no bytes in stream 1 or 2
pub record IsPlainNamed (state : State) (layout : Layout) (handle offset count : ℕ) (found : PlainObject) : Type 0 where
  pub passes : sparse_refusal state handle offset count ≡ None
  pub its : IsLiveNamed state layout handle found.node found.entry
  pub is_plain : its.object.shape ≡ plain
  pub one_stream : found.one_stream ≡ has_one_stream its.object

-- the handle names a live sparse object, and `parent` has the generation of it and of its index
pub record IsParentNamed (state : State) (layout : Layout) (handle offset count : ℕ) (parent : Parent) : Type 0 where
  pub passes : sparse_refusal state handle offset count ≡ None
  pub its : IsLiveNamed state layout handle parent.node parent.entry
  pub is_sparse : its.object.shape ≡ sparse (cast_unsigned w64 parent.signature)
  pub index : ParentIndex
  pub role : its.was.role ≡ IsParent index
  pub same : index.signature ≡ cast_unsigned w64 parent.signature

-- the answer for a handle and a range: the plain or the sparse object that it names, or why the request is refused
abbrev pub IsAskedSparse : State → Layout → (handle offset count : ℕ) → AskedSparse → Type 0
IsAskedSparse state layout handle offset count (asked.Refused why) = sparse_refusal state handle offset count ≡ Some why
IsAskedSparse state layout handle offset count (asked.Plain found) = IsPlainNamed state layout handle offset count found
IsAskedSparse state layout handle offset count (asked.Parent parent) = IsParentNamed state layout handle offset count parent

-- in each state that the cache keeps, it is the answer for this handle and this range
abbrev pub AsksSparse : Cache → Told → (handle offset count : ℕ) → AskedSparse → Type 0
AsksSparse cache told handle offset count answer = ForSome told.files (λ image. (state : State) → (k : HoldsState cache state image) → IsAskedSparse state k.layout handle offset count answer)

-- Clauses that hold of an opaque folder too.

-- the object that was found has a valid node and a valid record by the table of block files; a sparse one also has a generation that sparse entries may have
abbrev pub IsAmongFiles : BlockFiles → AskedSparse → Type 0
IsAmongFiles files (asked.Refused why) = Unit {0}
IsAmongFiles files (asked.Plain found) = (is_node_among files found.node ≡ true) × (is_record_among files found.entry ≡ true)
IsAmongFiles files (asked.Parent parent) = (is_node_among files parent.node ≡ true) × ((is_record_among files parent.entry ≡ true) × (cast_unsigned w64 parent.signature < signatures))

-- no early refusal applies, and the range has at most one part's length and ends inside sparse data
pub record IsRangeInside (early : Option Refusal) (offset count : ℕ) : Type 0 where
  pub passes : early ≡ None
  pub few : count ≤ part_size
  pub inside : offset + count ≤ largest_offset

-- where an object was found, no early refusal applies, and the range lies inside sparse data
abbrev pub FindsInside : (early : Option Refusal) → (offset count : ℕ) → AskedSparse → Type 0
FindsInside early offset count (asked.Refused why) = Unit {0}
FindsInside early offset count (asked.Plain found) = IsRangeInside early offset count
FindsInside early offset count (asked.Parent parent) = IsRangeInside early offset count
