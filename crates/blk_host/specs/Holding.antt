-- Errors that mean that a file system has no locks.
use Rattle.std.specs.Prelude.{◌≡◌, ◌⊎◌, pos, Some}
use Rattle.std.specs.IoError.{error_kind, raw_os_error}
use Rattle.std.specs.declared.io.Error.{Error}
use Rattle.std.specs.declared.io.ErrorKind.TheVariants.{Unsupported}

-- the error means that there are no locks: the call doesn't exist (ENOSYS, EOPNOTSUPP), or there is no space for a lock (ENOLCK)
abbrev pub HasNoLocks : Error → Type 0
HasNoLocks error = (error_kind error ≡ Unsupported) ⊎ (raw_os_error error ≡ Some (pos 37))
