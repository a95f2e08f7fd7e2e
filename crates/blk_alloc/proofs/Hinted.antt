-- What is found where space was made.
use Rattle.std.proofs.Common.{◌≡◌, ℕ, ◌+◌, ◌*◌, ◌/◌, ◌%◌, ◌<◌, ◌≤◌, ◌⊎◌, inl, inr, List, [], ◌∷◌, Bool, true, false, ◌||◌, refl, sym, ◌∙◌, ap, subst, arith, ⊎_elim}
use Rattle.std.specs.Prelude.{◌==◌}
use Rattle.std.specs.List.{All}
use Rattle.std.proofs.lemmas.Bool.{cases_lt}
use Rattle.std.proofs.lemmas.Bool.Decides.{nat_tests}
use Rattle.std.proofs.lemmas.List.Elements.{All-head, All-tail}
use Rattle.std.proofs.Math.Nat.{mod-eq_of_lt}
use Rattle.spec_image.specs.Image.{Block, Image, byte}
use Rattle.spec_format.specs.BlockFiles.{is_among}
use Rattle.spec_format.specs.Headers.{hints_of}
use Rattle.spec_format.specs.Maps.{is_block_marked, longest_run}
use Rattle.blk_alloc.specs.Fitting.{HasNoRoom, IsByHint, IsFirstMet, IsLeastOfGroup, IsGroupSought}
use Rattle.blk_alloc.proofs.Growing.{free_group}
use Rattle.blk_alloc.proofs.Grown.{free_all}
use Rattle.blk_alloc.proofs.Searches.{is_a_place}

clash : true ≡ false → ⊥
clash e = cc

-- what holds of all of a list holds of one
pub all_member : (P : ℕ → Type 0) (xs : List ℕ) (n : ℕ) → is_among xs n ≡ true → All P xs → P n
all_member P [] n among all = absurd (clash (sym among))
all_member P (x ∷ xs) n among all =
    ⊎_elim (λ (here : (x == n) ≡ true). let e : x ≡ n = grind (arith, nat_tests) in subst P e (All-head P x xs all)) (λ (there : is_among xs n ≡ true). all_member P xs n there (All-tail P x xs all)) (or_cases (x == n) (is_among xs n) among)
  where
    or_cases : (a b : Bool) → (a || b) ≡ true → (a ≡ true) ⊎ (b ≡ true)
    or_cases true b e = inl refl
    or_cases false b e = inr e

-- a file has space or it has none
pub no_room : (image : Image) (n count i : ℕ) → IsGroupSought image n count i → HasNoRoom image count n → ⊥
no_room image n count i sought none = let some = sought.counted in let zero_is = none i sought.small sought.enough in omega (arith, some, zero_is)

-- one length is sought
pub one_sought : (image : Image) (n count i j : ℕ) → IsGroupSought image n count i → IsGroupSought image n count j → i ≡ j
one_sought image n count i j a b =
    ⊎_elim (λ (less : i < j). let none = b.least i less a.enough in let some = a.counted in absurd (omega (arith, none, some)))
    (λ (upto : j ≤ i).
    ⊎_elim (λ (less : j < i). let none = a.least j less b.enough in let some = b.counted in absurd (omega (arith, none, some))) (λ (other : i ≤ j). omega (arith, upto, other)) (cases_lt j i))
    (cases_lt i j)

-- where marks and hints are as before, the same is found
pub hint_same : (from mid : Image) (n groups count i start : ℕ) → ((b : ℕ) → is_block_marked mid n b ≡ is_block_marked from n b) → hints_of (byte mid (Block n)) i ≡ hints_of (byte from (Block n)) i → IsByHint mid n groups count i start → IsByHint from n groups count i start
hint_same from mid n groups count i start marks hint is =
    let same : is_block_marked mid n ≡ is_block_marked from n = (λ j b. marks b j) in
    record {
      there = is.there;
      first = subst (λ (h : ℕ). IsFirstMet (is_block_marked from n) groups h (i + 1) (start / 4)) hint (subst (λ (p : ℕ → Bool). IsFirstMet p groups (hints_of (byte mid (Block n)) i) (i + 1) (start / 4)) same is.first);
      least = subst (λ (p : ℕ → Bool). IsLeastOfGroup p count start) same is.least;
    }

-- in a file without marks and hints the first blocks are found
pub fresh_start : (image : Image) (n groups count start : ℕ) → 0 < count → count ≤ 4 → ((b : ℕ) → b < 64896 → is_block_marked image n b ≡ false) → hints_of (byte image (Block n)) 3 ≡ 0 → IsByHint image n groups count 3 start → start ≡ 0
fresh_start image n groups count start some few free hint is =
    let marked : ℕ → Bool = is_block_marked image n in
    let there = is.there in
    let met = is.first in
    let front : longest_run marked 0 ≡ 4 = free_group marked 0 (λ i small. free (4 * 0 + i) (omega (arith, small))) in
    let first : (hints_of (byte image (Block n)) 3 + 0) % groups ≡ 0 = ap (λ (h : ℕ). (h + 0) % groups) hint ∙ mod-eq_of_lt (omega (arith, there)) in
    let group : start / 4 ≡ 0 =
    ⊎_elim (λ (none : met.turns < 1). let e : met.turns ≡ 0 = omega (arith, none) in met.met ∙ ap (λ (t : ℕ). (hints_of (byte image (Block n)) 3 + t) % groups) e ∙ first)
    (λ (later : 1 ≤ met.turns). absurd (met.none_before 0 later (ap (longest_run marked) first ∙ front))) (cases_lt met.turns 1) in
    ⊎_elim (λ (none : start < 1). omega (arith, none))
    (λ (later : 1 ≤ start). absurd (clash (sym (is_a_place marked count 0 (omega (arith, few)) (free_all marked 0 count (λ b low high. free b (omega (arith, high, few))))) ∙ is.least.least 0 (omega (arith, group)) later)))
    (cases_lt start 1)
