-- Checks of what a file holds: each finds corruption or none.
use Rattle.std.specs.Prelude.{ℕ, ◌%◌, ◌^◌, List, [], ◌∷◌, Bool, if◌then◌else◌, Option, None, Some}
use Rattle.spec_image.specs.Bytes.{word_at}
use Rattle.spec_image.specs.Image.{File}

-- a check that failed: the file, the place, and the word found there
pub record Damage : Type 0 where
  pub file : File
  pub at : ℕ
  pub found : ℕ

-- the first failed check in a list of results, None where none failed
abbrev pub first_of : List (Option Damage) → Option Damage
first_of [] = None
first_of (None ∷ checks) = first_of checks
first_of (Some damage ∷ checks) = Some damage

-- the result of a check: None where its test holds, else a corruption at the place of the file, with the word found
abbrev pub check_found : File → ℕ → ℕ → Bool → Option Damage
check_found file at found holds = if holds then None else Some (record { file = file; at = at; found = found })

-- the result of a check of the word at a place of a file with this content: None where the test holds, else a corruption with that word
abbrev pub check_word : File → (ℕ → ℕ) → ℕ → Bool → Option Damage
check_word file f at holds = check_found file at (word_at f at) holds

-- a check of a file's length: the place is the length that is wanted, and found is the one that the file has, modulo 2 ^ 32
abbrev pub check_length : File → ℕ → ℕ → Bool → Option Damage
check_length file wanted length holds = check_found file wanted (length % 2 ^ 32) holds
