-- Words that share no block and no external number, in whatever order they are.
use Rattle.std.proofs.Common.{◌≡◌, ℕ, ◌+◌, ◌≤◌, List, [], ◌∷◌, refl, ap, sym, ◌∙◌, subst, Bool, true, false, cond, arith, ⊎_elim}
use Rattle.std.specs.List.{sum_by}
use Rattle.std.specs.List.Sorted.{IsPermutation}
use Rattle.std.proofs.lemmas.Bool.{cases_Bool, or_parts, or_from}
use Rattle.std.proofs.lemmas.List.Sorted.{sum_by-IsPermutation}
use Rattle.std.proofs.lemmas.List.Sums.{sum_by-cons, sum_by-append}
use Rattle.spec_format.specs.Claims.{Claim, claims_of, claims_of_all, has_claim, repeats, same_claim}
use Rattle.law_folder.proofs.claims.ClaimLists.{claim-head, no-claim}
use Rattle.law_folder.proofs.states.Laid.{same_claim-eq, same_claim-self}

-- how often a used block occurs in a list
abbrev times_in : Claim → List Claim → ℕ
times_in c claims = sum_by (λ d. cond (same_claim c d) 1 0) claims

first-time : (c d : Claim) (t : Bool) → same_claim c d ≡ t → (cs : List Claim) → times_in c (d ∷ cs) ≡ cond t 1 0 + times_in c cs
first-time c d t e cs = sum_by-cons (λ x. cond (same_claim c x) 1 0) d cs ∙ ap (λ (b : Bool). cond b 1 0 + times_in c cs) e

none-times : (cs : List Claim) (c : Claim) → has_claim cs c ≡ false → times_in c cs ≡ 0
none-times [] c none = refl
none-times (d ∷ cs) c none =
    let parts = or_parts (same_claim c d) (has_claim cs c) (sym (claim-head d cs c) ∙ none) in
    let a = first-time c d false parts.0 cs in let b = none-times cs c parts.1 in omega (arith, a, b)

times-none : (cs : List Claim) (c : Claim) → times_in c cs ≡ 0 → has_claim cs c ≡ false
times-none [] c none = no-claim c
times-none (d ∷ cs) c none = ⊎_elim
    (λ (e : same_claim c d ≡ true). let a = first-time c d true e cs in absurd (omega (arith, a, none)))
    (λ (e : same_claim c d ≡ false). let a = first-time c d false e cs in claim-head d cs c ∙ or_from (same_claim c d) (has_claim cs c) e (times-none cs c (omega (arith, a, none))))
    (cases_Bool (same_claim c d))

once-few : (cs : List Claim) → repeats cs ≡ false → (c : Claim) → times_in c cs ≤ 1
unfolding repeats
once-few [] once c = omega arith
once-few (d ∷ cs) once c =
    let parts = or_parts (has_claim cs d) (repeats cs) once in
    ⊎_elim
    (λ (e : same_claim c d ≡ true). let a = first-time c d true e cs in let b = none-times cs c (subst (λ (x : Claim). has_claim cs x ≡ false) (sym (same_claim-eq c d e)) parts.0) in omega (arith, a, b))
    (λ (e : same_claim c d ≡ false). let a = first-time c d false e cs in let b = once-few cs parts.1 c in omega (arith, a, b))
    (cases_Bool (same_claim c d))

few-once : (cs : List Claim) → ((c : Claim) → times_in c cs ≤ 1) → repeats cs ≡ false
unfolding repeats
few-once [] few = refl
few-once (d ∷ cs) few = or_from (has_claim cs d) (repeats cs)
    (times-none cs d (let a = first-time d d true (same_claim-self d) cs in let b = few d in omega (arith, a, b)))
    (few-once cs (λ c. fewer c (same_claim c d) refl))
  where
    fewer : (c : Claim) (t : Bool) → same_claim c d ≡ t → times_in c cs ≤ 1
    fewer c true e = let a = first-time c d true e cs in let b = few c in omega (arith, a, b)
    fewer c false e = let a = first-time c d false e cs in let b = few c in omega (arith, a, b)

-- in the used blocks of words
of-words : (c : Claim) (ws : List ℕ) → times_in c (claims_of_all ws) ≡ sum_by (λ w. times_in c (claims_of w)) ws
of-words c [] = refl
of-words c (w ∷ ws) = sum_by-append (λ d. cond (same_claim c d) 1 0) (claims_of w) (claims_of_all ws) ∙ ap (λ (n : ℕ). times_in c (claims_of w) + n) (of-words c ws) ∙ sym (sum_by-cons (λ v. times_in c (claims_of v)) w ws)

pub once-alike : (xs ys : List ℕ) → IsPermutation xs ys → repeats (claims_of_all xs) ≡ false → repeats (claims_of_all ys) ≡ false
once-alike xs ys same once = few-once (claims_of_all ys) (λ c.
    let a = of-words c ys ∙ sum_by-IsPermutation (λ w. times_in c (claims_of w)) xs ys same ∙ sym (of-words c xs) in
    let b = once-few (claims_of_all xs) once c in
    omega (arith, a, b))
