-- The pseudo-random draws of the generator, for one iteration after another.
use Rattle.std.specs.Prelude.{ℕ, ◌+◌, ◌*◌, ◌/◌, ◌%◌, ◌^◌, List, map, ◌++◌, codes}
use Rattle.std.specs.List.{range_with_len}
use Rattle.blk_script.specs.Spelling.{number_text}
use Rattle.blk_gen.specs.declared.drawing.Turn.{Turn}

-- the next value of the generator's sequence
abbrev pub next_value : ℕ → ℕ
next_value value = (value * 6364136223846793005 + 1442695040888963407) % 2 ^ 64

-- the draw from a value of the sequence: its upper 31 bits
abbrev pub draw_at : ℕ → ℕ
draw_at value = value / 2 ^ 33

-- the draws of an iteration from the three values after this one: the number of its key, its stream, and how many bytes it writes
abbrev pub turn_behind : ℕ → Turn
turn_behind value =
    let first = next_value value in
    let second = next_value first in
    let third = next_value second in
    record { key_number = draw_at first % 1000; stream = draw_at second % 3; byte_count = draw_at third % 20001 }

-- the value of the sequence after an iteration, three further
abbrev pub value_behind : ℕ → ℕ
value_behind value = next_value (next_value (next_value value))

-- the key with a number: `k`, and the number in decimal
abbrev pub generated_key : ℕ → List ℕ
generated_key number = codes "k" ++ number_text number

-- the byte that iteration `number` writes at an offset: their sum modulo 256
abbrev pub generated_byte : (number place : ℕ) → ℕ
generated_byte number place = (number + place) % 256

-- the bytes that iteration `number` writes
abbrev pub generated_bytes : (number count : ℕ) → List ℕ
generated_bytes number count = map (generated_byte number) (range_with_len 0 count)
