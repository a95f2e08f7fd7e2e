-- The write trace that a folder in memory keeps: one change for each call, which is a list of steps.
use Rattle.std.specs.Prelude.{◌≡◌, ℕ, ◌+◌, ◌-◌, ◌*◌, ◌/◌, ◌%◌, ◌≤◌, ◌==◌, if◌then◌else◌, min, List, [], ◌∷◌, ◌++◌, length, take, Option, Some, Vec}
use Rattle.std.specs.Option.{option_map, ForSome}
use Rattle.std.specs.declared.alloc.Global.{Global}
use Rattle.blk_io.specs.declared.mem_files.MemFile.{MemFile}
use Rattle.blk_io.specs.declared.mem_trail.Change.{Change}
use Rattle.blk_io.specs.declared.mem_trail.Change.TheVariants.{Wrote, Sized, Deleted, Noted}
use Rattle.spec_image.specs.Image.{File, AreBytes}
use Rattle.spec_image.specs.Steps.{TrailStep, SetLength, Delete, Note, after, image_at, words}
use Rattle.spec_image.specs.Told.{Told, Applies}
use Rattle.blk_io.specs.FileNames.{file_of}
use Rattle.blk_io.specs.Files.{image_of}

-- the steps of one call that changes the folder
abbrev pub steps_of_call : Change → List TrailStep
steps_of_call (Wrote file at bytes) = words (file_of file) at bytes.items
steps_of_call (Sized file n) = SetLength (file_of file) n ∷ []
steps_of_call (Deleted file) = Delete (file_of file) ∷ []
steps_of_call (Noted n) = Note n ∷ []

-- the steps of a list of calls, one after another
abbrev pub steps_of : List Change → List TrailStep
steps_of [] = []
steps_of (call ∷ calls) = steps_of_call call ++ steps_of calls

-- the list of calls of a write trace, or None where no trace is kept
abbrev pub kept_calls : Option (Vec Change Global) → Option (List Change)
kept_calls trail = option_map (λ (calls : Vec Change Global). calls.items) trail

-- the steps of a write trace, or None where no trace is kept
abbrev pub kept_steps : Option (Vec Change Global) → Option (List TrailStep)
kept_steps trail = option_map steps_of (kept_calls trail)

-- what contracts see of a folder with these files now, and these at the start of its write trace, where one is kept
abbrev pub told_of : List MemFile → List MemFile → Option (List TrailStep) → Told
told_of start files steps = record {
  files = Some (image_of files);
  trail = option_map (λ (s : List TrailStep). record { start = image_of start; steps = s }) steps;
}

-- the files now are those at the start after all the steps, where a trace is kept
abbrev pub IsTrailOf : List MemFile → List MemFile → Option (List TrailStep) → Type 0
IsTrailOf start files steps = ForSome steps (λ s. (file : File) → image_of files file ≡ after s (image_of start) file)

-- after each prefix of the steps all files consist of bytes (numbers below 256), where a trace is kept
abbrev pub AreBytesAlong : List MemFile → Option (List TrailStep) → Type 0
AreBytesAlong start steps = ForSome steps (λ s. (p : ℕ) → AreBytes (image_at (image_of start) s p))

-- how many of the n bytes of a write at an offset lie in the first so many 32-bit words that it touches
abbrev pub prefix_in : ℕ → ℕ → ℕ → ℕ
prefix_in at n words = if words == 0 then 0 else min n (4 * (at / 4 + words) - at)

-- how many 32-bit words a write of n bytes at an offset touches
abbrev pub words_touched : ℕ → ℕ → ℕ
words_touched at n = if n == 0 then 0 else (at % 4 + n + 3) / 4

-- a prefix of the steps was made, and the number of steps that may still be made fell from `before` to `now` by its length
pub record UsesUp (old new : Told) (steps : List TrailStep) (before now : ℕ) : Type 0 where
  pub made : ℕ
  pub applies : Applies old new (take made steps)
  pub within : made ≤ length steps
  pub uses : now + made ≡ before
