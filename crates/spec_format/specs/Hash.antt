-- The hash of keys and records. A word has 32 bits, and sums and shifts drop what goes beyond.
use Rattle.std.specs.Prelude.{ℕ, ◌+◌, ◌-◌, ◌*◌, ◌/◌, ◌%◌, ◌^◌, List, [], ◌∷◌, length, bit_xor, nat_lt, if◌then◌else◌}

-- a + b, modulo 2 ^ 32
abbrev pub plus : ℕ → ℕ → ℕ
plus a b = (a + b) % 2 ^ 32

-- h << k, modulo 2 ^ 32
abbrev pub left : ℕ → ℕ → ℕ
left k h = h * 2 ^ k % 2 ^ 32

-- h >> k
abbrev pub right : ℕ → ℕ → ℕ
right k h = h / 2 ^ k

-- h + (h >> k), modulo 2 ^ 32
abbrev pub plus_right : ℕ → ℕ → ℕ
plus_right k h = plus h (right k h)

-- h xor (h << k), in 32 bits
abbrev pub xor_left : ℕ → ℕ → ℕ
xor_left k h = bit_xor h (left k h)

-- the little endian number of two bytes
abbrev pub half : ℕ → ℕ → ℕ
half a b = a + 256 * b

-- a byte as a number from -128 to 127, in a word
abbrev pub signed : ℕ → ℕ
signed b = if nat_lt b 128 then b else 2 ^ 32 - 256 + b

-- the hash h after four more bytes
unfoldable pub of_four : ℕ → ℕ → ℕ → ℕ → ℕ → ℕ
of_four h a b c d =
    let sum = plus h (half a b) in
    plus_right 11 (bit_xor (left 16 sum) (bit_xor (left 11 (half c d)) sum))

-- the hash h after the last three bytes
unfoldable pub of_three : ℕ → ℕ → ℕ → ℕ → ℕ
of_three h a b c = plus_right 11 (bit_xor (xor_left 16 (plus h (half a b))) (left 18 (signed c)))

-- the hash h after the last two bytes
unfoldable pub of_two : ℕ → ℕ → ℕ → ℕ
of_two h a b = plus_right 17 (xor_left 11 (plus h (half a b)))

-- the hash h after the last byte
unfoldable pub of_one : ℕ → ℕ → ℕ
of_one h a = plus_right 1 (xor_left 10 (plus h (signed a)))

-- the hash h after some more bytes: four at a time, and then those that remain
unfoldable pub of_bytes : ℕ → List ℕ → ℕ
of_bytes h (a ∷ b ∷ c ∷ d ∷ rest) = of_bytes (of_four h a b c d) rest
of_bytes h (a ∷ b ∷ c ∷ []) = of_three h a b c
of_bytes h (a ∷ b ∷ []) = of_two h a b
of_bytes h (a ∷ []) = of_one h a
of_bytes h [] = h

-- the hash h after its last mixing step
unfoldable pub mixed : ℕ → ℕ
mixed h = plus_right 6 (xor_left 25 (plus_right 17 (xor_left 4 (plus_right 5 (xor_left 3 h)))))

-- the hash of some bytes: 0 for none; else it begins as their number, takes the bytes, and is mixed
unfoldable pub hash : List ℕ → ℕ
hash [] = 0
hash (b ∷ bytes) = mixed (of_bytes (length (b ∷ bytes) % 2 ^ 32) (b ∷ bytes))
