-- An output stays the same one through one call after another, and its error counter doesn't fall.
use Rattle.std.proofs.Common.{ℕ, List, refl, ◌∙◌, arith}
use Rattle.blk_io.specs.Streams.{GoesOn}

pub stays_on : {S : Type 0} {is : S → List ℕ} {faults : S → ℕ} {a : S} → GoesOn is faults a a
stays_on = record { same = refl; later = omega arith }

pub goes_on : {S : Type 0} {is : S → List ℕ} {faults : S → ℕ} {a b c : S} → GoesOn is faults a b → GoesOn is faults b c → GoesOn is faults a c
goes_on one two = record { same = two.same ∙ one.same; later = let x = one.later in let y = two.later in omega (arith, x, y) }
