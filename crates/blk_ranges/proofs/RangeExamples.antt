-- Worked writes: what the model says is present after them. The expected values come from a reading of the rule that is not this project's.
use Rattle.std.proofs.Common.{◌≡◌, ℕ, List, [], ◌∷◌, map, refl, replicate, Some, None}
use Rattle.std.specs.List.{range_with_len}
use Rattle.blk_model.specs.Bytes.{numbers_from}
use Rattle.blk_model.specs.Items.{Presence}
use Rattle.blk_model.specs.Sparse.{counts_from, covered_parts, empty_part, partial_after, presence_after}
use Rattle.blk_ranges.specs.PartMaps.{has_block}

-- what is present after writes, the first of them first
abbrev present_after : List (ℕ × ℕ) → Presence → Presence
present_after [] presence = presence
present_after (write ∷ writes) presence = present_after writes (presence_after presence write.0 write.1)

-- the blocks whose bits are set, and a partial block
abbrev in_words : List ℕ → List (ℕ × ℕ) → Presence
in_words words [] = record { blocks = map (has_block words) (range_with_len 0 1024); partial = None }
in_words words (partial ∷ others) = record { blocks = map (has_block words) (range_with_len 0 1024); partial = Some partial }

-- 1500 bytes at 1048076 lie in two parts: 500 bytes at the end of the first, where they only end a block, and 1000 at the start of the second
pub over_two_parts :
    (covered_parts 1048076 1500 ≡ 0 ∷ 1 ∷ [])
    × (present_after ((1048076, 1048576) ∷ []) empty_part.presence ≡ empty_part.presence)
    × (present_after ((0, 1000) ∷ []) empty_part.presence ≡ in_words (replicate 32 0) ((0, 1000) ∷ []))
unfolding covered_parts numbers_from presence_after counts_from partial_after has_block
over_two_parts = (refl, refl, refl)

-- 24 more bytes, at 1000 of the second, make its first block whole
pub then_a_whole_block : present_after ((0, 1000) ∷ (1000, 1024) ∷ []) empty_part.presence ≡ in_words (1 ∷ replicate 31 0) []
unfolding presence_after counts_from partial_after has_block
then_a_whole_block = refl

-- sixty writes in no order over one part
abbrev sixty_writes : List (ℕ × ℕ)
sixty_writes =
    (616448, 617472) ∷ (405492, 405493) ∷ (405493, 405693) ∷ (405693, 410693) ∷ (233279, 233979) ∷ (574463, 577463) ∷
    (577463, 578963) ∷ (238865, 298865) ∷ (904704, 905727) ∷ (432128, 432129) ∷ (432129, 433629) ∷ (245760, 246785) ∷
    (178845, 238845) ∷ (238844, 239844) ∷ (239844, 240044) ∷ (240043, 240044) ∷ (239944, 244944) ∷ (72710, 73410) ∷
    (859648, 860672) ∷ (860672, 860872) ∷ (860872, 865872) ∷ (617473, 617474) ∷ (1046334, 1048576) ∷ (756736, 757236) ∷
    (1034240, 1034241) ∷ (1034241, 1035241) ∷ (837401, 897401) ∷ (527360, 528385) ∷ (32982, 33682) ∷ (26623, 29623) ∷
    (181248, 184248) ∷ (1041324, 1048576) ∷ (328704, 331704) ∷ (270571, 271271) ∷ (784383, 785408) ∷ (785407, 785607) ∷
    (430778, 439778) ∷ (439678, 439878) ∷ (1038336, 1039359) ∷ (1011200, 1048576) ∷ (178176, 179200) ∷ (179100, 179300) ∷
    (179300, 180300) ∷ (947380, 947381) ∷ (744448, 744449) ∷ (844855, 853855) ∷ (853855, 854855) ∷ (829439, 832439) ∷
    (832339, 832340) ∷ (348160, 349183) ∷ (225722, 226422) ∷ (226422, 226446) ∷ (868864, 869364) ∷ (396355, 405355) ∷
    (387073, 388096) ∷ (930816, 931840) ∷ (931840, 933340) ∷ (535040, 538040) ∷ (538039, 538040) ∷ (538040, 539040) ∷
    []

pub after_sixty_writes :
    present_after sixty_writes empty_part.presence ≡ in_words
    (0xC000000 ∷ 0x0 ∷ 0x0 ∷ 0x0 ∷ 0x0 ∷ 0xFFFFC000 ∷ 0xFFFFFFFF ∷ 0xFFFFFFFF ∷
    0xFFFFFFFF ∷ 0x7 ∷ 0x6 ∷ 0x0 ∷ 0x1F7F0 ∷ 0x1FE0 ∷ 0x0 ∷ 0x0 ∷
    0x3808 ∷ 0x1E0000 ∷ 0x4000000 ∷ 0x0 ∷ 0x0 ∷ 0x0 ∷ 0x0 ∷ 0x40000000 ∷
    0x0 ∷ 0xFFFC0C00 ∷ 0xFFFFFFFF ∷ 0xFFF ∷ 0x6000 ∷ 0x0 ∷ 0xF0000000 ∷ 0xFFFFFFFF ∷
    [])
    ((526, 416) ∷ [])
unfolding presence_after counts_from partial_after has_block
after_sixty_writes = refl
