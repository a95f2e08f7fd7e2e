-- Bytes of a file: the numbers at a place, and what a write, a change of length and a range leave.
-- A content is a function that gives the byte at each place, and 0 past the end. Numbers are little endian.
use Rattle.std.specs.Prelude.{ℕ, zero, suc, ◌+◌, ◌-◌, ◌*◌, ◌/◌, ◌%◌, List, [], ◌∷◌, ◌++◌, length, take, replicate, slice_index}

-- the byte at each place of a list, and 0 past its end
abbrev pub content : List ℕ → ℕ → ℕ
content bytes i = slice_index bytes i

-- the number of the two bytes from place i on
abbrev pub half_at : (ℕ → ℕ) → ℕ → ℕ
half_at f i = f i + 256 * f (i + 1)

-- the number of the four bytes from place i on
abbrev pub word_at : (ℕ → ℕ) → ℕ → ℕ
word_at f i = f i + 256 * f (i + 1) + 65536 * f (i + 2) + 16777216 * f (i + 3)

-- the number of the eight bytes from place i on
abbrev pub long_at : (ℕ → ℕ) → ℕ → ℕ
long_at f i = word_at f i + 4294967296 * word_at f (i + 4)

-- the four bytes of a word, the lowest first
abbrev pub word_bytes : ℕ → List ℕ
word_bytes v = v % 256 ∷ v / 256 % 256 ∷ v / 65536 % 256 ∷ v / 16777216 % 256 ∷ []

-- the n bytes from place i on
unfoldable pub range_at : (ℕ → ℕ) → ℕ → ℕ → List ℕ
range_at f i zero = []
range_at f i (suc n) = f i ∷ range_at f (suc i) n

-- the words at n places, four apart, from place i on
unfoldable pub words_at : (ℕ → ℕ) → ℕ → ℕ → List ℕ
words_at f i zero = []
words_at f i (suc n) = word_at f i ∷ words_at f (i + 4) n

-- the list old, overwritten with the bytes new from place i on; what would reach past its end is dropped, and the length stays
unfoldable pub spliced : ℕ → List ℕ → List ℕ → List ℕ
spliced i new [] = []
spliced zero [] (x ∷ old) = x ∷ old
spliced zero (y ∷ new) (x ∷ old) = y ∷ spliced zero new old
spliced (suc i) new (x ∷ old) = x ∷ spliced i new old

-- n zeros
unfoldable pub zeros : ℕ → List ℕ
zeros n = replicate n 0

-- old cut, or lengthened with zeros, to n bytes
unfoldable pub resized : ℕ → List ℕ → List ℕ
resized n old = take n old ++ zeros (n - length old)
