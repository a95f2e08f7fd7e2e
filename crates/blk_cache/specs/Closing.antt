-- How the counters of a cache change when the last handle of an object is closed.
use Rattle.std.specs.Prelude.{◌≡◌, ◌-◌, ℕ, Bool, if◌then◌else◌}
use Rattle.blk_handles.specs.Bindings.{Binding, Bindings, is_open, open_object}
use Rattle.blk_handles.specs.declared.open_object.Released.{Released}
use Rattle.blk_handles.specs.declared.open_object.Released.TheVariants as released
use Rattle.blk_cache.specs.declared.cache.Cache.{Cache}

-- what comes of the object of a handle that is freed: it has more handles in the new table, or this was the last
abbrev pub released_from : (old new : Bindings) → Binding → Released
released_from old new object = if is_open new object.entry then released.More else released.Last (open_object old object)

-- an object of this cost is open no longer, and if it is doomed it is counted no longer as an item; the cache is otherwise unchanged
pub record CountsClosed (old new : Cache) (doomed : Bool) (charge : ℕ) : Type 0 where
  pub open_bytes : new.open_bytes ≡ old.open_bytes - charge
  pub items : new.items ≡ (if doomed then old.items - 1 else old.items)
  pub bytes : new.bytes ≡ (if doomed then old.bytes - charge else old.bytes)
  pub limits : new.limits ≡ old.limits
  pub handles : new.handles ≡ old.handles
  pub files : new.files ≡ old.files
  pub mark : new.mark ≡ old.mark
  pub notes : new.notes ≡ old.notes
