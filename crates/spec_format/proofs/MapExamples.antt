-- Worked maps.
use Rattle.std.proofs.Common.{◌≡◌, ℕ, true, false, refl, if◌then◌else◌}
use Rattle.std.specs.Prelude.{◌==◌}
use Rattle.spec_format.specs.Maps.{are_free, has_run, longest_run, groups_with, is_block_marked_at}

-- blocks 0 to 7 are marked: after allocations of four, one and three blocks
abbrev pub marks_of_three : ℕ → ℕ
marks_of_three i = if i == 80 then 0xFF else 0

-- blocks 0 to 7 are marked but for block 4, which was freed
abbrev pub marks_of_two : ℕ → ℕ
marks_of_two i = if i == 80 then 0xEF else 0

-- blocks 1 and 6 are marked: group 0 has free runs of one and of two blocks, group 1 of two and of one
abbrev pub marks_apart : ℕ → ℕ
marks_apart i = if i == 80 then 0x42 else 0

-- block 9 alone, by bit 1 of the second byte
abbrev pub mark_of_nine : ℕ → ℕ
mark_of_nine i = if i == 81 then 0x02 else 0

pub marked_is_nine : (is_block_marked_at mark_of_nine 9 ≡ true) × (is_block_marked_at mark_of_nine 1 ≡ false) × (is_block_marked_at mark_of_nine 8 ≡ false) × (is_block_marked_at mark_of_nine 17 ≡ false)
marked_is_nine = (refl, refl, refl, refl)

pub runs_apart : (longest_run (is_block_marked_at marks_apart) 0 ≡ 2) × (longest_run (is_block_marked_at marks_apart) 1 ≡ 2) × (longest_run (is_block_marked_at marks_apart) 2 ≡ 4) × (longest_run (is_block_marked_at marks_of_three) 0 ≡ 0)
unfolding longest_run has_run are_free
runs_apart = (refl, refl, refl, refl)

-- two blocks side by side begin at block 2, and not at block 0
pub free_is_apart : (are_free (is_block_marked_at marks_apart) 2 2 ≡ true) × (are_free (is_block_marked_at marks_apart) 0 2 ≡ false) × (are_free (is_block_marked_at marks_apart) 4 2 ≡ true) × (are_free (is_block_marked_at marks_apart) 5 2 ≡ false)
unfolding are_free
free_is_apart = (refl, refl, refl, refl)

-- of 256 groups
pub counted_three : (groups_with (is_block_marked_at marks_of_three) 256 1 ≡ 0) × (groups_with (is_block_marked_at marks_of_three) 256 2 ≡ 0) × (groups_with (is_block_marked_at marks_of_three) 256 3 ≡ 0) × (groups_with (is_block_marked_at marks_of_three) 256 4 ≡ 254)
unfolding groups_with longest_run has_run are_free
counted_three = (refl, refl, refl, refl)

pub counted_two : (groups_with (is_block_marked_at marks_of_two) 256 1 ≡ 1) × (groups_with (is_block_marked_at marks_of_two) 256 2 ≡ 0) × (groups_with (is_block_marked_at marks_of_two) 256 3 ≡ 0) × (groups_with (is_block_marked_at marks_of_two) 256 4 ≡ 254)
unfolding groups_with longest_run has_run are_free
counted_two = (refl, refl, refl, refl)
