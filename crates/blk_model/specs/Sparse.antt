-- Sparse data: which bytes of a part are present, and what a write makes present.
use Rattle.std.specs.Prelude.{ℕ, zero, suc, ◌+◌, ◌-◌, ◌*◌, ◌/◌, ◌%◌, max, Bool, true, false, not, ◌&&◌, ◌||◌, ◌==◌, nat_lt, nat_le, if◌then◌else◌, List, [], ◌∷◌, length, map, take, drop, take_while, replicate, slice_index, Option, Some, None, is_some, unwrap_or, option_and_then}
use Rattle.std.specs.Ordering.{nat_cmp}
use Rattle.std.specs.FinMap.{find, put}
use Rattle.blk_model.specs.Bytes.{overwritten, numbers_from}
use Rattle.blk_model.specs.Sizes.{part_size, part_block_size, part_blocks}
use Rattle.blk_model.specs.Items.{Presence, PartValue, is_block_present}
use Rattle.blk_model.specs.State.{Object, part_at}

-- how many first bytes of a block are present by a partial block
abbrev pub piece_in : Option (ℕ × ℕ) → ℕ → ℕ
piece_in None block = 0
piece_in (Some partial) block = if partial.0 == block then partial.1 else 0

-- whether a write from a place on makes present what it writes of the place's own block: it begins with the block, or the bytes of the block before the place
-- are present
unfoldable pub counts_from : Presence → ℕ → Bool
counts_from presence place = place % part_block_size == 0 || is_block_present presence (place / part_block_size) || nat_le (place % part_block_size) (piece_in presence.partial (place / part_block_size))

-- the first block that a write from a place on may make present
abbrev pub first_whole : Presence → ℕ → ℕ
first_whole presence place = if counts_from presence place then place / part_block_size else place / part_block_size + 1

-- the blocks, counted from a number on, where each from first up to last becomes present
abbrev pub with_blocks : ℕ → ℕ → ℕ → List Bool → List Bool
with_blocks first last number [] = []
with_blocks first last number (was ∷ blocks) = (was || (nat_le first number && nat_lt number last)) ∷ with_blocks first last (number + 1) blocks

-- the partial block after the blocks have become present: the last block that the write reached, if it is not whole; else the old one, unless it has become
-- present
unfoldable pub partial_after : Presence → List Bool → ℕ → ℕ → Option (ℕ × ℕ)
partial_after presence blocks first end =
    if nat_lt 0 (end % part_block_size) && nat_le first (end / part_block_size) && not (is_block_present (record { blocks = blocks; partial = None }) (end / part_block_size))
    then Some (end / part_block_size, max (end % part_block_size) (piece_in presence.partial (end / part_block_size)))
    else option_and_then (λ partial. if is_block_present (record { blocks = blocks; partial = None }) partial.0 then None else Some partial) presence.partial

-- what is present after a write from a place up to an end inside a part
unfoldable pub presence_after : Presence → ℕ → ℕ → Presence
presence_after presence place end =
    let first = first_whole presence place in
    let blocks = with_blocks first (end / part_block_size) 0 presence.blocks in
    record { blocks = blocks; partial = partial_after presence blocks first end }

-- a part with no data
abbrev pub empty_part : PartValue
empty_part = record { bytes = []; presence = record { blocks = replicate part_blocks false; partial = None } }

-- a part after bytes were written to it from a place on
unfoldable pub part_after : PartValue → ℕ → List ℕ → PartValue
part_after value place bytes = record { bytes = overwritten value.bytes place bytes; presence = presence_after value.presence place (place + length bytes) }

-- the numbers of the parts in a range, rising; none where it is empty
unfoldable pub covered_parts : ℕ → ℕ → List ℕ
covered_parts offset zero = []
covered_parts offset (suc count) = numbers_from (offset / part_size) ((offset + count) / part_size + 1 - offset / part_size)

-- the piece of the bytes written at an offset that a part gets
abbrev pub piece_for : ℕ → ℕ → List ℕ → List ℕ
piece_for n offset bytes = take (part_size - (offset - n * part_size)) (drop (n * part_size - offset) bytes)

-- the parts of an object after bytes were written at an offset, where these are the numbers of the parts in range
unfoldable pub parts_after : List ℕ → ℕ → List ℕ → List (ℕ × PartValue) → List (ℕ × PartValue)
parts_after [] offset bytes parts = parts
parts_after (n ∷ ns) offset bytes parts =
    parts_after ns offset bytes (put nat_cmp n (part_after (unwrap_or (find nat_cmp n parts) empty_part) (offset - n * part_size) (piece_for n offset bytes)) parts)

-- whether the byte at a place inside a part is present
abbrev pub is_present_in : Presence → ℕ → Bool
is_present_in presence place = is_block_present presence (place / part_block_size) || nat_lt (place % part_block_size) (piece_in presence.partial (place / part_block_size))

-- the byte at a place inside a part, None where it isn't present
abbrev pub byte_in : ℕ → PartValue → Option ℕ
byte_in place value = if is_present_in value.presence place then Some (slice_index value.bytes place) else None

-- the byte at an offset of an object's sparse data, None where it isn't present
abbrev pub byte_at : Object → ℕ → Option ℕ
byte_at object offset = option_and_then (byte_in (offset % part_size)) (part_at object (offset / part_size))

-- the bytes before the first that is missing
abbrev pub up_to_missing : List (Option ℕ) → List ℕ
up_to_missing [] = []
up_to_missing (None ∷ rest) = []
up_to_missing (Some byte ∷ rest) = byte ∷ up_to_missing rest

-- the bytes from an offset up to the first that is not present, at most count
unfoldable pub sparse_bytes : Object → ℕ → ℕ → List ℕ
sparse_bytes object offset count = up_to_missing (map (byte_at object) (numbers_from offset count))

-- the first run of tests that pass, where the first test is of a place: its start and length, or the place asked and 0 where none passes
abbrev pub first_run : ℕ → ℕ → List Bool → ℕ × ℕ
first_run asked place [] = (asked, 0)
first_run asked place (false ∷ tests) = first_run asked (place + 1) tests
first_run asked place (true ∷ tests) = (place, 1 + length (take_while (λ t. t) tests))

-- the first run of present bytes inside a range, as its offset and length
unfoldable pub present_run : Object → ℕ → ℕ → ℕ × ℕ
present_run object offset count = first_run offset offset (map (λ place. is_some (byte_at object place)) (numbers_from offset count))
