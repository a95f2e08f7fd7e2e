-- The parts of an opaque folder: the folder that it passes calls on to, and its counters.
use Rattle.std.specs.Prelude.{ℕ}
use Rattle.blk_io.specs.declared.silent.SilentFolder.{SilentFolder}

-- the folder that an opaque folder passes its calls on to
abbrev pub inner_of : {F : Type 0} → SilentFolder F → F
inner_of s = s.inner

-- how many calls were made on an opaque folder
abbrev pub calls_of : {F : Type 0} → SilentFolder F → ℕ
calls_of s = s.calls

-- the error counter of an opaque folder
abbrev pub silent_faults : {F : Type 0} → SilentFolder F → ℕ
silent_faults s = s.faults
