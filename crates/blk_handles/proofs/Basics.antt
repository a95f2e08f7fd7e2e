-- Options and numbers, as the proofs of this crate need them.
use Rattle.std.proofs.Common.{◌≡◌, ◌≢◌, ℕ, eqb, true, false, Option, Some, None, sym, ◌∙◌, arith}
use Rattle.std.proofs.lemmas.Bool.Decides.{nat_tests}

pub some-inj : {A : Type 0} {a b : A} → Some a ≡ Some b → a ≡ b
some-inj e = cc

pub none-is-some : {A : Type 0} {x : A} (o : Option A) → o ≡ None → o ≡ Some x → ⊥
none-is-some o n s = let e = sym n ∙ s in cc

-- equal and different numbers
pub same-number : (n : ℕ) → eqb n n ≡ true
same-number n = grind (arith, nat_tests)

pub apart : (j k : ℕ) → j ≢ k → eqb j k ≡ false
apart j k other = grind (arith, nat_tests)

pub number-is : (j k : ℕ) → eqb j k ≡ true → j ≡ k
number-is j k e = grind (arith, nat_tests, e)
