-- What a List leaves of a cache.
use Rattle.std.specs.Prelude.{◌≡◌}
use Rattle.blk_cache.specs.declared.cache.Cache.{Cache}

-- nothing of the cache but its key buffer has changed
pub record OnlyRoomChanges (old new : Cache) : Type 0 where
  pub limits : new.limits ≡ old.limits
  pub items : new.items ≡ old.items
  pub bytes : new.bytes ≡ old.bytes
  pub open_bytes : new.open_bytes ≡ old.open_bytes
  pub handles : new.handles ≡ old.handles
  pub files : new.files ≡ old.files
  pub mark : new.mark ≡ old.mark
  pub notes : new.notes ≡ old.notes
