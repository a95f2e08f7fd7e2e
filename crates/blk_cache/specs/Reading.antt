-- A Read: the access to its object's item, and how many bytes there are to be printed.
use Rattle.std.specs.Prelude.{◌≡◌, ◌⊎◌, ◌-◌, ◌++◌, ◌∷◌, ℕ, List, OnOk, false, min, true}
use Rattle.std.specs.Option.{ForSome}
use Rattle.std.specs.declared.result.Result.{Result}
use Rattle.spec_image.specs.Told.{Applies, Passes, Stays, Told}
use Rattle.blk_io.specs.declared.fault.Damage.{Damage}
use Rattle.blk_io.specs.declared.fault.Fault.{Fault}
use Rattle.spec_folder.specs.ListImages.{HasListAtRest, steps_of_touch}
use Rattle.spec_folder.specs.ListPlans.{touch_writes}
use Rattle.spec_folder.specs.View.{list_of}
use Rattle.blk_disk.specs.declared.tables.BlockFiles.{BlockFiles}
use Rattle.blk_handles.specs.Bindings.{Bindings}
use Rattle.blk_lru.specs.Moments.{IsMidTouch}
use Rattle.blk_cache.specs.declared.asking.NamedStream.{NamedStream}
use Rattle.blk_cache.specs.Asking.{IsAskDamage}
use Rattle.blk_cache.specs.CommandClauses.{IsUseDamage}

-- the item of a live object was accessed at this moment; of a doomed object nothing is written
pub record UsesItem {A : Type 0} (files : BlockFiles) (old new : Told) (object : NamedStream) (moment : ℕ) (result : Result A Fault) : Type 0 where
  pub steps : object.doomed ≡ false → OnOk result (ForSome old.files (λ from. Applies old new (steps_of_touch object.node moment from)))
  pub stops : object.doomed ≡ false → ForSome old.files (λ from. (prefix suffix : List ℕ) → HasListAtRest (prefix ++ object.node ∷ suffix) from → Passes old new (IsMidTouch files object.node (touch_writes object.node (list_of from)) (prefix ++ object.node ∷ suffix) (object.node ∷ prefix ++ suffix) from))
  pub stays : object.doomed ≡ true → Stays old new

-- how many bytes, at most `count`, a stream of this size has from the offset on
abbrev pub bytes_there : (size offset count : ℕ) → ℕ
bytes_there size offset count = min count (size - offset)

-- the failed checks of a Read before its completion marker: of the record of its object, or of the access to the node
abbrev pub IsCommandReadDamage : Bindings → BlockFiles → (old new : Told) → (handle : ℕ) → Damage → Type 0
IsCommandReadDamage bindings files old new handle damage = IsAskDamage bindings old handle damage ⊎ IsUseDamage files old new damage
