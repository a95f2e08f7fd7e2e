-- A Create in a cache: when it is refused, which states may have the new object, and how the cache counts it.
use Rattle.std.specs.Prelude.{◌≡◌, ℕ, ◌+◌, ◌-◌, ◌^◌, ◌≤◌, Bool, List, length, min, if◌then◌else◌}
use Rattle.std.specs.Option.{ForSome}
use Rattle.std.specs.declared.option.Option.{Option}
use Rattle.std.specs.declared.option.Option.TheVariants.{None, Some}
use Rattle.spec_image.specs.Image.{Image}
use Rattle.spec_image.specs.Told.{Told}
use Rattle.blk_model.specs.Room.{total}
use Rattle.blk_model.specs.Refusals.{no_room, refused}
use Rattle.blk_model.specs.Request.{to_create}
use Rattle.blk_model.specs.State.{State, IsValidState}
use Rattle.blk_model.specs.declared.Answer.TheVariants as answer
use Rattle.blk_model.specs.declared.Refusal.{Refusal}
use Rattle.blk_model.specs.declared.Refusal.TheVariants as refusal
use Rattle.law_state.specs.Commands.{ForKept, Does}
use Rattle.law_state.specs.CommandStates.{with_room}
use Rattle.blk_object.specs.Making.{CanHaveNew}
use Rattle.blk_cache.specs.declared.cache.Cache.{Cache}
use Rattle.blk_cache.specs.CacheKeeping.{HoldsState}
use Rattle.blk_cache.specs.CommandClauses.{CommandClause, EndClause}

-- Refusals.

-- the refusal of a Create: an early reason, which holds whatever the space, or else Full where there is no space
abbrev pub create_refusal : (early : Option Refusal) → (no_room : Bool) → Option Refusal
create_refusal (Some why) no_room = Some why
create_refusal None no_room = if no_room then Some refusal.Full else None

-- in each state that the cache keeps, the Create is refused only if there is no space
abbrev pub WantsRoomAlone : Cache → Told → (moment handle : ℕ) → List ℕ → Type 0
WantsRoomAlone cache told moment handle key = ForKept (HoldsState cache) told (λ state. refused moment (to_create handle key) state ≡ create_refusal None (no_room moment (to_create handle key) state))

-- in no state that the cache keeps is the Create refused
abbrev pub IsNotRefused : Cache → Told → (moment handle : ℕ) → List ℕ → Type 0
IsNotRefused cache told moment handle key = ForKept (HoldsState cache) told (λ state. refused moment (to_create handle key) state ≡ None)

-- P holds of a Create that is refused only if there is no space
abbrev pub WhereWantsRoom : Cache → Told → (moment handle : ℕ) → List ℕ → CommandClause → Type 0
WhereWantsRoom cache told moment handle key P = WantsRoomAlone cache told moment handle key → P cache told moment (to_create handle key)

-- P holds of a Create that isn't refused
abbrev pub WhereNotRefused : Cache → Told → (moment handle : ℕ) → List ℕ → CommandClause → Type 0
WhereNotRefused cache told moment handle key P = IsNotRefused cache told moment handle key → P cache told moment (to_create handle key)

-- P holds of each Create of an object with this key
abbrev pub ForCreates : Cache → (key : List ℕ) → CommandClause → Type 0
ForCreates cache key P = (told : Told) (moment handle : ℕ) → P cache told moment (to_create handle key)

-- P holds of each Create of an object with this key that is refused only if there is no space
abbrev pub ForWantingRoom : Cache → (key : List ℕ) → CommandClause → Type 0
ForWantingRoom cache key P = (told : Told) (moment handle : ℕ) → WantsRoomAlone cache told moment handle key → P cache told moment (to_create handle key)

-- with the answer Full the command is done by a call that changes neither cache nor folder
abbrev pub AnswersFull : CommandClause
AnswersFull cache told moment request = Does (HoldsState cache) (HoldsState cache) told told moment request (answer.Refused refusal.Full)

-- in no state that the cache keeps is the command refused
abbrev pub NeverRefused : CommandClause
NeverRefused cache told moment request = ForKept (HoldsState cache) told (λ state. refused moment request state ≡ None)

-- in each state that the cache keeps, the Create is refused with the early reason, or else only if there is no space
abbrev pub DecidesCreate : Cache → (handle : ℕ) → (key : List ℕ) → (early : Option Refusal) → Image → Type 0
DecidesCreate cache handle key early image =
    (state : State) (moment : ℕ) → HoldsState cache state image → refused moment (to_create handle key) state ≡ create_refusal early (no_room moment (to_create handle key) state)

-- The new object.

-- the state may have a new object of this key by this handle, and the sum of costs with it is within the limit
pub record HasRoomFor (state : State) (handle : ℕ) (key : List ℕ) : Type 0 where
  pub can : CanHaveNew state handle key
  pub room : total state + length key ≤ state.limits.max_bytes

-- P holds of each state that the cache keeps and that may have a new object of this key by this handle
abbrev pub ForCanHave : Cache → Told → (handle : ℕ) → (key : List ℕ) → (State → Type 0) → Type 0
ForCanHave cache told handle key P = ForSome told.files (λ from. (state : State) → HoldsState cache state from → CanHaveNew state handle key → P state)

-- P holds of each state that the cache keeps and that has space within the limit for a new object of this key by this handle
abbrev pub ForHasRoom : Cache → Told → (handle : ℕ) → (key : List ℕ) → (State → Type 0) → Type 0
ForHasRoom cache told handle key P = ForSome told.files (λ from. (state : State) → HoldsState cache state from → HasRoomFor state handle key → P state)

-- the cache keeps some state that may have a new object of this key by this handle
pub record KeepsWithRoom (cache : Cache) (handle : ℕ) (key : List ℕ) (image : Image) : Type 0 where
  pub state : State
  pub kept : HoldsState cache state image
  pub can : CanHaveNew state handle key

-- all evictions of a Create of `state` are done: the Create isn't refused, and the cache keeps the state after the evictions
pub record IsReadyToCreate (cache : Cache) (state : State) (moment handle : ℕ) (key : List ℕ) (image : Image) : Type 0 where
  pub valid : IsValidState state
  pub passes : refused moment (to_create handle key) state ≡ None
  pub kept : HoldsState cache (with_room state moment (to_create handle key)) image

-- the cache is ready for this Create, of some state at some moment
pub record IsReadyForSome (cache : Cache) (handle : ℕ) (key : List ℕ) (image : Image) : Type 0 where
  pub state : State
  pub moment : ℕ
  pub ready : IsReadyToCreate cache state moment handle key image

-- P holds of the end of a Create
abbrev pub ForReadyCreate : Cache → Told → (moment handle : ℕ) → (key : List ℕ) → EndClause → Type 0
ForReadyCreate cache told moment handle key P = P (λ state image. IsReadyToCreate cache state moment handle key image) told moment (to_create handle key)

-- Counters.

-- the sum of two numbers, which saturates at the last value of a u64
abbrev pub sum_within : ℕ → ℕ → ℕ
sum_within a b = min (a + b) (2 ^ 64 - 1)

-- the cache counts one item more, which is open, with its cost; it is otherwise unchanged, but for its handles
pub record CountsOneMore (old new : Cache) (charge : ℕ) : Type 0 where
  pub items : new.items ≡ sum_within old.items 1
  pub bytes : new.bytes ≡ sum_within old.bytes charge
  pub open_bytes : new.open_bytes ≡ sum_within old.open_bytes charge
  pub limits : new.limits ≡ old.limits
  pub files : new.files ≡ old.files
  pub mark : new.mark ≡ old.mark
  pub notes : new.notes ≡ old.notes
