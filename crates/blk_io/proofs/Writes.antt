-- The words of a write that last.
use Rattle.std.proofs.Common.{◌≡◌, ℕ, ◌||◌, nat_lt, min, Bool, true, false, List, length, take, drop, Option, refl, sym, ◌∙◌, ap, subst, arith}
use Rattle.std.proofs.lemmas.Bool.Decides.{nat_tests}
use Rattle.std.proofs.lemmas.List.{take-append-drop, take_min}
use Rattle.std.specs.Option.{ForSome}
use Rattle.spec_image.specs.Steps.{TrailStep}
use Rattle.spec_image.specs.Told.{Told, Applies, AppliesPrefix}
use Rattle.blk_io.specs.Counts.{lasting}

-- the first of the steps are some of them
pub part_of_first : {a b : Told} (s : List TrailStep) (n : ℕ) → Applies a b (take n s) → AppliesPrefix a b s
part_of_first s n grows = record { made = take n s; left = drop n s; split = sym (take-append-drop n s); applies = grows }

-- where as many are left as there are, none is cut off
pub none_cut : (b : Bool) (m n : ℕ) → m ≡ n → (b || nat_lt m n) ≡ b
none_cut b m n same = ap (λ (t : Bool). b || t) enough ∙ or_false b
  where
    enough : nat_lt m n ≡ false
    enough = grind (arith, nat_tests)

    or_false : (b : Bool) → (b || false) ≡ b
    or_false true = refl
    or_false false = refl

-- where a call is listed to fail, as many of its steps are made as are listed
pub listed_last : {a b : Told} (s : List TrailStep) (listed : Option ℕ) (left : ℕ) → left ≡ length s → Applies a b (take (lasting listed left) s) → ForSome listed (λ count. Applies a b (take count s))
listed_last {a} {b} s listed left same grows = λ count there.
    subst (Applies a b) (ap (λ (o : Option ℕ). take (lasting o left) s) there ∙ ap (λ (n : ℕ). take (min count n) s) same ∙ take_min count s) grows
