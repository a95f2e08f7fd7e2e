-- The buffer for a line of which a part has been read.
use Rattle.std.specs.Prelude.{ℕ, ◌≡◌, ◌<◌, Bool, true, false, if◌then◌else◌, List, length, take}
use Rattle.blk_run.specs.declared.line.Line.{Line}

-- the buffer has all bytes of the line so far, unless they are more than a line may have
abbrev pub AreKept : (too_long : Bool) → (kept : List ℕ) → (bytes : List ℕ) → Type 0
AreKept false kept bytes = bytes ≡ kept
AreKept true kept bytes = 2200000 < length bytes

-- `bytes` are what was read of the line so far, and the buffer has them, unless they are too many
abbrev pub HoldsLine : Line → List ℕ → Type 0
HoldsLine line bytes = AreKept line.too_long (take line.len line.kept.items) bytes

-- how many bytes of the line were read so far; one more than a line may have where they are too many
abbrev pub pending : Line → ℕ
pending line = if line.too_long then 2200001 else line.len
