-- Bytes cut into lines.
use Rattle.std.specs.Prelude.{ℕ, ◌==◌, List, [], ◌∷◌, ◌++◌, cond}

-- bytes cut at the ends of lines: the lines that have an end, and what comes after the last end
pub record Cut : Type 0 where
  pub whole : List (List ℕ)
  pub rest : List ℕ

-- a byte more, after what is cut: it ends a line or belongs to the rest
abbrev pub with_byte : Cut → ℕ → Cut
with_byte cut byte = cond (byte == 10) (record { whole = cut.whole ++ cut.rest ∷ []; rest = [] }) (record { whole = cut.whole; rest = cut.rest ++ byte ∷ [] })

-- some more bytes, one after another, after what is cut
unfoldable pub with_bytes : Cut → List ℕ → Cut
with_bytes cut [] = cut
with_bytes cut (byte ∷ bytes) = with_bytes (with_byte cut byte) bytes

-- the cut of no bytes
abbrev pub nothing_cut : Cut
nothing_cut = record { whole = []; rest = [] }

-- the bytes of an input, cut at the ends of its lines
abbrev pub cut : List ℕ → Cut
cut bytes = with_bytes nothing_cut bytes

-- the lines of an input that have an end
abbrev pub whole_lines : List ℕ → List (List ℕ)
whole_lines bytes = (cut bytes).whole

-- a last line without an end, where it isn't empty: an empty rest is no line
abbrev pub open_line : List ℕ → List (List ℕ)
open_line [] = []
open_line (byte ∷ bytes) = (byte ∷ bytes) ∷ []

-- the lines of an input, with a last one that has no end where it isn't empty
abbrev pub lines : List ℕ → List (List ℕ)
lines bytes = whole_lines bytes ++ open_line (cut bytes).rest
