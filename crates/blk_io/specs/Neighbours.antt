-- Words with their offsets that lie side by side in a file.
use Rattle.std.specs.Prelude.{ℕ, ◌≡◌, ◌+◌, List, [], ◌∷◌}

-- words with their offsets, where the first has this offset and each other one lies right after the one before
abbrev pub run_from : ℕ → List ℕ → List (ℕ × ℕ)
run_from place [] = []
run_from place (word ∷ words) = (place, word) ∷ run_from (place + 4) words

-- each word of the list has the offset right after the word before (four bytes on)
abbrev pub AreSideBySide : List (ℕ × ℕ) → Type 0
AreSideBySide [] = Unit {0}
AreSideBySide (word ∷ []) = Unit {0}
AreSideBySide (word ∷ next ∷ words) = (next.0 ≡ word.0 + 4) × AreSideBySide (next ∷ words)
