-- The bytes of an iteration, one after another.
use Rattle.std.proofs.Common.{◌≡◌, ℕ, ◌+◌, ◌<◌, List, [], ◌∷◌, ◌++◌, length, take, slice_set, arith, ap, sym, ◌∙◌}
use Rattle.std.proofs.lemmas.List.{take_more_set}
use Rattle.std.proofs.lemmas.List.FromFn.{map-range_with_len_more}
use Rattle.blk_gen.specs.Draws.{generated_byte, generated_bytes}

-- a byte after those that are there already
pub filled-one-more : (bytes : List ℕ) (number place byte : ℕ) → byte ≡ generated_byte number place → place < length bytes → take place bytes ≡ generated_bytes number place
    → take (place + 1) (slice_set bytes place byte) ≡ generated_bytes number (place + 1)
filled-one-more bytes number place byte is inside before =
    take_more_set bytes place byte inside
    ∙ ap (λ (front : List ℕ). front ++ byte ∷ []) before
    ∙ ap (λ (b : ℕ). generated_bytes number place ++ b ∷ []) is
    ∙ sym (map-range_with_len_more (generated_byte number) 0 place place (omega arith))
