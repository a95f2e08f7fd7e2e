-- Dooming of objects by a cache: refusals, which object is meant, and how the cache counts it.
use Rattle.std.specs.Prelude.{◌≡◌, ℕ, ◌-◌, List, [], ◌∷◌, Result, false, is_none}
use Rattle.std.specs.Option.{ForSome, option_map_or}
use Rattle.std.specs.declared.option.Option.{Option}
use Rattle.std.specs.declared.option.Option.TheVariants.{Some}
use Rattle.spec_image.specs.Image.{Image}
use Rattle.spec_image.specs.Told.{Passes, Told}
use Rattle.blk_io.specs.declared.fault.Fault.{Fault}
use Rattle.blk_model.specs.Effects.{doomed}
use Rattle.blk_model.specs.Refusals.{first_refusal}
use Rattle.blk_model.specs.Room.{items}
use Rattle.blk_model.specs.State.{Object, State, is_named}
use Rattle.blk_model.specs.declared.Refusal.{Refusal}
use Rattle.blk_model.specs.declared.Refusal.TheVariants as refusal
use Rattle.blk_handles.specs.Bindings.{Bindings, binding_of, with_change, with_doom}
use Rattle.blk_object.specs.RemovingObjects.{FindsEither}
use Rattle.blk_sparse.specs.declared.dropping.Gone.{Gone}
use Rattle.blk_cache.specs.declared.dooming_objects.Target.{Target}
use Rattle.blk_cache.specs.DoomingObjects.{LiesAsTarget, LiesOpen}
use Rattle.blk_cache.specs.declared.cache.Cache.{Cache}
use Rattle.blk_cache.specs.CacheKeeping.{HoldsState}
use Rattle.blk_io.specs.Faults.{OpaqueIfDamaged}

-- Refusals.

-- the refusal of a Doom or a Flush by a handle: the handle names nothing, or a doomed object
abbrev pub doom_refusal : Bindings → ℕ → Option Refusal
doom_refusal bindings handle = first_refusal ((is_none (binding_of bindings handle), refusal.BadHandle) ∷ (option_map_or (λ object. object.doomed) (binding_of bindings handle) false, refusal.Doomed) ∷ [])

-- Which object is meant.

-- P holds of each live object with this node and this record that a handle names, in each state that the cache keeps
abbrev pub ForEachOpen : Cache → (node entry : ℕ) → Image → (State → ℕ → Object → Type 0) → Type 0
ForEachOpen cache node entry image P = (state : State) (kept : HoldsState cache state image) (number : ℕ) (object : Object) → LiesOpen state kept.layout number object node entry → P state number object

-- P holds of each object with this key that lies where `target` says, in each state that the cache keeps
abbrev pub ForEachKept : Cache → List ℕ → Target → Image → (State → ℕ → Object → Type 0) → Type 0
ForEachKept cache key target image P =
    (state : State) (kept : HoldsState cache state image) (number : ℕ) (object : Object) → LiesAsTarget (is_named state number) state kept.layout number object target → object.key ≡ key → P state number object

-- What a call does that dooms an object of a cache: each of these takes what the call left first, and then the image that it found, and the object.

-- the new cache keeps the state in which the object is doomed
abbrev pub CacheDoomedBy : (new : Cache) → (now : Told) → (from : Image) → State → ℕ → Object → Type 0
CacheDoomedBy new now from = λ state number object. ForSome now.files (HoldsState new (doomed number state (Some object)))

-- at each word of the steps that were made the object is found as it was, or doomed
abbrev pub CacheDoomingBy : (told now : Told) → (from : Image) → State → ℕ → Object → Type 0
CacheDoomingBy told now from = λ state number object. Passes told now (FindsEither state (doomed number state (Some object)))

-- where the answer is a failed check, the folder is opaque
abbrev pub CacheUndamagedAt : {A : Type 0} → Result A Fault → Told → (from : Image) → State → ℕ → Object → Type 0
CacheUndamagedAt result told from = λ state number object. OpaqueIfDamaged result told

-- Counters.

-- the handles of the object at record `entry`, if any, now name a doomed object, and its items and costs are subtracted from the counters; the cache is
-- otherwise unchanged
pub record CountsDoomed (old new : Cache) (entry : ℕ) (gone : Gone) : Type 0 where
  pub handles : new.handles ≡ with_change with_doom entry old.handles
  pub items : new.items ≡ old.items - gone.items
  pub bytes : new.bytes ≡ old.bytes - gone.bytes
  pub open_bytes : new.open_bytes ≡ old.open_bytes
  pub limits : new.limits ≡ old.limits
  pub files : new.files ≡ old.files
  pub mark : new.mark ≡ old.mark
  pub notes : new.notes ≡ old.notes
