-- Clauses of commands of a cache, beside the model's answer and the next state.
use Rattle.std.specs.Prelude.{◌≡◌, ◌⊎◌, ℕ, ◌+◌, ◌-◌, ◌^◌, Bool, List, [], ◌∷◌, IfOk, OnErr, Result, if◌then◌else◌, is_some, min, true}
use Rattle.std.specs.Option.{ForSome}
use Rattle.std.specs.declared.option.Option.{Option}
use Rattle.spec_image.specs.Image.{Image}
use Rattle.spec_image.specs.Told.{Stays, Told}
use Rattle.blk_io.specs.declared.fault.Damage.{Damage}
use Rattle.blk_io.specs.declared.fault.Fault.{Fault}
use Rattle.blk_io.specs.Faults.{UndamagedWhere}
use Rattle.blk_model.specs.Request.{Request, to_flush, to_sparse_range, to_sparse_read, to_sparse_write}
use Rattle.blk_model.specs.State.{Object, State}
use Rattle.blk_model.specs.declared.Answer.{Answer}
use Rattle.blk_model.specs.declared.Refusal.{Refusal}
use Rattle.blk_model.specs.declared.Refusal.TheVariants as refusal
use Rattle.blk_model.specs.Refusals.{first_refusal, no_key, no_name}
use Rattle.blk_model.specs.Step.{step}
use Rattle.spec_folder.specs.Layout.{Layout}
use Rattle.blk_disk.specs.declared.tables.BlockFiles.{BlockFiles}
use Rattle.blk_disk.specs.Tables.{is_node_among}
use Rattle.law_state.specs.Commands.{Does, ForKept, MayStopAtEach}
use Rattle.law_state.specs.OneCallLaws.{Names}
use Rattle.spec_run.specs.Script.{is_refusal, is_refused, refusal_of}
use Rattle.blk_lru.specs.Damages.{IsTouchDamage}
use Rattle.blk_handles.specs.Bindings.{Bindings, binding_of}
use Rattle.blk_cache.specs.declared.cache.Cache.{Cache}
use Rattle.blk_cache.specs.CacheKeeping.{HoldsState}
use Rattle.blk_evict.specs.Looking.{IsLookUpDamage}

-- the answer is a refusal
abbrev pub IsRefused : Answer → Type 0
IsRefused answer = is_refusal (refusal_of answer) ≡ true

-- where the model refuses the request no step is made, whatever is answered
abbrev pub SparesRefused : (State → Image → Type 0) → (old new : Told) → ℕ → Request → Type 0
SparesRefused keeps old new moment request = ForKept keeps old (λ state. is_refused (step state moment request) ≡ true → Stays old new)

-- the cache keeps some state on the image
abbrev pub KeepsAny : Cache → Image → Type 0
KeepsAny cache image = (state : State) × HoldsState cache state image

-- P holds of each state that the cache keeps, with the layout by which it keeps it
abbrev pub ForLayout : Cache → Told → (State → Layout → Type 0) → Type 0
ForLayout cache told P = ForSome told.files (λ image. (state : State) → (k : HoldsState cache state image) → P state k.layout)

-- P holds of each state that the cache keeps on any image
abbrev pub ForAnyKept : Cache → (State → Type 0) → Type 0
ForAnyKept cache P = (state : State) (image : Image) → HoldsState cache state image → P state

-- the new cache keeps what `change` makes of the state
abbrev pub KeptAs : (new : Cache) → (now : Told) → (change : State → State) → State → Type 0
KeptAs new now change state = ForSome now.files (HoldsState new (change state))

-- Failed checks.

-- What a call does for a command: each of these takes what the call left, and is a clause on what it found.

-- a clause on a command: on the cache and the folder before the call, the moment and the request
abbrev pub CommandClause : Type 1
CommandClause = Cache → Told → (moment : ℕ) → Request → Type 0

-- on an Ok the command is done, whatever state the cache kept: the answer is the model's, and the new cache keeps the state after it
abbrev pub DoneBy : (new : Cache) → (now : Told) → Result Answer Fault → CommandClause
DoneBy new now result cache told moment request = IfOk result (λ answer. Does (HoldsState cache) (HoldsState new) told now moment request answer)

-- the command may crash at each word of the steps that were made, whatever state the cache kept
abbrev pub StopsBy : (now : Told) → CommandClause
StopsBy now cache told moment request = MayStopAtEach (HoldsState cache) told now moment request

-- on an Err no step was made where the model refuses the command
abbrev pub SparedBy : (now : Told) → Result Answer Fault → CommandClause
SparedBy now result cache told moment request = OnErr result (SparesRefused (HoldsState cache) told now moment request)

-- where the cache keeps a state of an observable folder, the answer is no failed check
abbrev pub UndamagedBy : Result Answer Fault → CommandClause
UndamagedBy result cache told moment request = UndamagedWhere result told (KeepsAny cache)

-- P holds of a command
abbrev pub ForCall : Cache → Told → (moment : ℕ) → Request → CommandClause → Type 0
ForCall cache told moment request P = P cache told moment request

-- P holds of a command at any moment
abbrev pub AtAnyMoment : Cache → Told → Request → CommandClause → Type 0
AtAnyMoment cache told request P = (moment : ℕ) → P cache told moment request

-- What the end of a command does, once its evictions are done.

-- a clause on the end of a command: on the states that are ready for it, the folder before the call, the moment and the request
abbrev pub EndClause : Type 1
EndClause = (ready : State → Image → Type 0) → Told → (moment : ℕ) → Request → Type 0

-- on an Ok the command is done, whatever state is ready for its end: the answer is the model's, and the new cache keeps the state after it
abbrev pub EndedBy : (new : Cache) → (now : Told) → Result Answer Fault → EndClause
EndedBy new now result ready told moment request = IfOk result (λ answer. Does ready (HoldsState new) told now moment request answer)

-- the command may crash at each word of the steps that were made, whatever state is ready for its end
abbrev pub EndingBy : (now : Told) → EndClause
EndingBy now ready told moment request = MayStopAtEach ready told now moment request

-- Changes.

-- nothing of the cache but its handles and the cost of its open objects has changed
pub record OnlyNamesChange (old new : Cache) : Type 0 where
  pub limits : new.limits ≡ old.limits
  pub items : new.items ≡ old.items
  pub bytes : new.bytes ≡ old.bytes
  pub files : new.files ≡ old.files
  pub mark : new.mark ≡ old.mark
  pub notes : new.notes ≡ old.notes

-- nothing of the cache but its count of completion markers has changed
pub record OnlyNotesChange (old new : Cache) : Type 0 where
  pub limits : new.limits ≡ old.limits
  pub items : new.items ≡ old.items
  pub bytes : new.bytes ≡ old.bytes
  pub open_bytes : new.open_bytes ≡ old.open_bytes
  pub handles : new.handles ≡ old.handles
  pub files : new.files ≡ old.files
  pub mark : new.mark ≡ old.mark

-- Sparse data.

-- the request is one of the three on sparse data
abbrev pub IsOnSparse : Request → Type 0
IsOnSparse (to_sparse_write handle offset bytes) = Unit {0}
IsOnSparse (to_sparse_read handle offset count) = Unit {0}
IsOnSparse (to_sparse_range handle offset count) = Unit {0}
IsOnSparse _ = ⊥

-- Flush.

-- the request is a Flush of a clean object
abbrev pub FlushesClean : State → Request → Type 0
FlushesClean state (to_flush handle) = (number : ℕ) × ((object : Object) × (Names state handle number object × (object.settled ≡ true)))
FlushesClean state _ = ⊥

-- where the request is a Flush of a clean object no step was made, whatever is answered
abbrev pub StaysIfClean : Cache → (told now : Told) → Request → Type 0
StaysIfClean cache told now request = ForKept (HoldsState cache) told (λ state. FlushesClean state request → Stays told now)

-- Open.

-- the refusal of an Open that the key and the table of handles decide: a key that none can have, a number that is no handle, or a handle that is in use
abbrev pub open_refusal : Bindings → ℕ → List ℕ → Option Refusal
open_refusal bindings handle key = first_refusal ((no_key key, refusal.BadKey) ∷ (no_name handle, refusal.BadHandle) ∷ (is_some (binding_of bindings handle), refusal.HandleBusy) ∷ [])

-- the cost of all open objects after an Open of one with this cost, unless that was open already; it saturates at the last value of a u64
abbrev pub charged_with : (charged : ℕ) → (was_open : Bool) → (charge : ℕ) → ℕ
charged_with charged was_open charge = if was_open then charged else min (charged + charge) (2 ^ 64 - 1)

-- the access to the node of the object that was found failed a check
pub record IsUseDamage (files : BlockFiles) (old new : Told) (damage : Damage) : Type 0 where
  pub node : ℕ
  pub stands : is_node_among files node ≡ true
  pub wrong : IsTouchDamage node files old new damage

-- the failed checks of an Open: of the search for the key, or of the access to what was found
abbrev pub IsOpenDamage : BlockFiles → (old new : Told) → List ℕ → Damage → Type 0
IsOpenDamage files old new key damage = IsLookUpDamage files old key damage ⊎ IsUseDamage files old new damage
