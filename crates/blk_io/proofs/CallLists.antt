-- The listed calls as pairs.
use Rattle.std.proofs.Common.{◌≡◌, ℕ, ◌==◌, Bool, true, false, if◌then◌else◌, List, [], ◌∷◌, map, find, Some, refl}
use Rattle.std.specs.Option.{option_map}
use Rattle.blk_io.specs.declared.calls.Listed.{Listed}
use Rattle.blk_io.specs.Calls.{pair_of}

-- the first that is listed for a call
pub find-pairs : (xs : List Listed) (call : ℕ) → option_map (λ (one : Listed). one.words) (find (λ (one : Listed). one.call == call) xs) ≡ option_map (λ (one : ℕ × ℕ). one.1) (find (λ (one : ℕ × ℕ). one.0 == call) (map pair_of xs))
find-pairs [] call = refl
find-pairs (x ∷ xs) call = by_test (x.call == call) (find-pairs xs call)
  where
    by_test : (t : Bool) → option_map (λ (one : Listed). one.words) (find (λ (one : Listed). one.call == call) xs) ≡ option_map (λ (one : ℕ × ℕ). one.1) (find (λ (one : ℕ × ℕ). one.0 == call) (map pair_of xs))
        → option_map (λ (one : Listed). one.words) (if t then Some x else find (λ (one : Listed). one.call == call) xs) ≡ option_map (λ (one : ℕ × ℕ). one.1) (if t then Some (pair_of x) else find (λ (one : ℕ × ℕ). one.0 == call) (map pair_of xs))
    by_test true deeper = refl
    by_test false deeper = deeper
