-- The stream of an open object that a request names by a handle, or why it is refused.
use Rattle.std.specs.Prelude.{◌≡◌, ◌<◌, ◌&&◌, ◌==◌, ℕ, Bool, [], ◌∷◌, is_none, length, nat_lt, not, true}
use Rattle.std.specs.declared.option.Option.{Option}
use Rattle.std.specs.declared.option.Option.TheVariants.{None, Some}
use Rattle.spec_image.specs.Told.{Told}
use Rattle.blk_io.specs.declared.fault.Damage.{Damage}
use Rattle.blk_model.specs.Effects.{stream_of}
use Rattle.blk_model.specs.Refusals.{first_refusal, is_kept_from_streams, names_none, no_stream}
use Rattle.blk_model.specs.Sizes.{stream_count}
use Rattle.blk_model.specs.State.{Object, State}
use Rattle.blk_model.specs.declared.Refusal.{Refusal}
use Rattle.blk_model.specs.declared.Refusal.TheVariants as refusal
use Rattle.spec_folder.specs.Layout.{Layout}
use Rattle.spec_folder.specs.Loads.{Loaded}
use Rattle.blk_disk.specs.declared.tables.BlockFiles.{BlockFiles}
use Rattle.blk_disk.specs.Tables.{is_node_among, is_record_among}
use Rattle.blk_handles.specs.Bindings.{Binding, Bindings, binding_of}
use Rattle.blk_entry.specs.Keys.{IsHeadDamage}
use Rattle.law_state.specs.OneCallLaws.{Names}
use Rattle.blk_object.specs.Writing.{node_of_object}
use Rattle.blk_cache.specs.declared.asking.Asked.{Asked}
use Rattle.blk_cache.specs.declared.asking.Asked.TheVariants as asked
use Rattle.blk_cache.specs.declared.asking.NamedStream.{NamedStream}

-- Refusals.

-- the refusal of a stream that the table of handles and the stream's number decide already, before the record is read
abbrev pub early_stream_refusal : Bindings → (handle stream : ℕ) → Option Refusal
early_stream_refusal bindings handle stream = first_refusal ((is_none (binding_of bindings handle), refusal.BadHandle) ∷ (no_stream stream, refusal.BadStream) ∷ [])

-- the refusal of a request on a stream by a handle: the first that applies of no such handle, no such stream, and a stream of a sparse object other than 0
abbrev pub stream_refusal : State → (handle stream : ℕ) → Option Refusal
stream_refusal state handle stream = first_refusal ((names_none state handle, refusal.BadHandle) ∷ (no_stream stream, refusal.BadStream) ∷ (is_kept_from_streams state handle stream, refusal.SparseStream) ∷ [])

-- a record with these flags keeps the stream to itself: a sparse entry does with all but stream 0
abbrev pub keeps_stream : (flags stream : ℕ) → Bool
keeps_stream flags stream = (flags == 1) && nat_lt 0 stream

-- What is found.

-- a stream of an object that the handle names: node and record of the object, whether it is doomed, and the length of the stream
pub record IsNamedStream (state : State) (layout : Layout) (handle stream : ℕ) (found : NamedStream) : Type 0 where
  pub passes : stream_refusal state handle stream ≡ None
  pub number : ℕ
  pub object : Object
  pub names : Names state handle number object
  pub node : found.node ≡ node_of_object layout number object
  pub loaded : Loaded
  pub at : layout.at found.node ≡ Some loaded
  pub entry : found.entry ≡ loaded.contents
  pub doomed : found.doomed ≡ not object.live
  pub size : found.size ≡ length (stream_of object stream)

-- the answer for a stream by a handle: what is found of it, or why it is refused
abbrev pub IsAsked : State → Layout → (handle stream : ℕ) → Asked → Type 0
IsAsked state layout handle stream (asked.Refused why) = stream_refusal state handle stream ≡ Some why
IsAsked state layout handle stream (asked.Stream found) = IsNamedStream state layout handle stream found

-- a stream that was found has a valid node and a valid record by the table of block files, and its number is below 3
abbrev pub StandsAmong : BlockFiles → (stream : ℕ) → Asked → Type 0
StandsAmong files stream (asked.Refused why) = Unit {0}
StandsAmong files stream (asked.Stream found) = (is_node_among files found.node ≡ true) × ((is_record_among files found.entry ≡ true) × (stream < stream_count))

-- Failed checks.

-- the record of the object that the handle names could not be read, or its checksum doesn't match
pub record IsAskDamage (bindings : Bindings) (told : Told) (handle : ℕ) (damage : Damage) : Type 0 where
  pub object : Binding
  pub here : binding_of bindings handle ≡ Some object
  pub wrong : IsHeadDamage told object.entry damage
