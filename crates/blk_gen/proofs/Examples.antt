-- Values that the generator draws, computed.
use Rattle.std.proofs.Common.{◌≡◌, ◌^◌, ◌-◌, [], ◌∷◌, codes, refl, length}
use Rattle.std.specs.Fmt.{digits}
use Rattle.blk_gen.specs.Draws.{next_value, draw_at, turn_behind, value_behind, generated_key, generated_bytes}

-- the draws of the seed 0
first_draw : draw_at (next_value 0) ≡ 167951807
first_draw = refl

second_draw : draw_at (next_value (next_value 0)) ≡ 218396424
second_draw = refl

third_draw : draw_at (value_behind 0) ≡ 1299921937
third_draw = refl

-- its first iteration, and the key of that
first_turn : turn_behind 0 ≡ record { key_number = 807; stream = 0; byte_count = 16945 }
first_turn = refl

first_key : generated_key 807 ≡ codes "k807"
unfolding digits
first_key = refl

-- the largest seed: the sequence begins anew at 2 ^ 64
largest_seed : next_value (2 ^ 64 - 1) ≡ 13525302890751722018
largest_seed = refl

-- the bytes of the iteration 254
bytes_count_up : generated_bytes 254 4 ≡ 254 ∷ 255 ∷ 0 ∷ 1 ∷ []
bytes_count_up = refl

first_bytes : length (generated_bytes 0 16945) ≡ 16945
first_bytes = refl
