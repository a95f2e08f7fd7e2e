-- The longest run of a group, and how many groups have one.
use Rattle.std.proofs.Common.{◌≡◌, ◌≢◌, ℕ, zero, suc, ◌+◌, ◌-◌, ◌*◌, ◌<◌, ◌≤◌, Bool, true, false, if◌then◌else◌, refl, sym, ◌∙◌, ap, ap₂, arith, ⊎_elim}
use Rattle.std.specs.Prelude.{◌==◌, not, nat_lt}
use Rattle.std.specs.List.{list_any, list_all, count_by, range_with_len}
use Rattle.std.proofs.lemmas.Grind.{common_steps}
use Rattle.std.proofs.lemmas.List.Sums.{count_by-le-length}
use Rattle.std.proofs.lemmas.List.FromFn.{length-range_with_len}
use Rattle.std.proofs.lemmas.Bool.{cases_eq}
use Rattle.std.proofs.lemmas.Bool.Decides.{nat_tests}
use Rattle.spec_format.specs.Maps.{are_free, has_run, longest_run, groups_with}

-- whether so many blocks side by side are free, where `P i j` says whether block i + j is marked
abbrev run_with : (ℕ → ℕ → Bool) → ℕ → Bool
run_with P count = list_any (λ i. list_all (λ j. not (P i j)) (range_with_len 0 count)) (range_with_len 0 (4 - count + 1))

longest_by : (ℕ → ℕ → Bool) → ℕ
longest_by P = if run_with P 4 then 4 else if run_with P 3 then 3 else if run_with P 2 then 2 else if run_with P 1 then 1 else 0

clip : (ℕ → ℕ → Bool) → ℕ → ℕ → Bool
clip P i j = if nat_lt (i + j) 4 then P i j else true

longest_is : (marked : ℕ → Bool) (g : ℕ) → longest_run marked g ≡ longest_by (λ i j. marked (4 * g + i + j))
unfolding longest_run has_run are_free longest_by
longest_is marked g = refl

longest-clip : (P : ℕ → ℕ → Bool) → longest_by P ≡ longest_by (clip P)
unfolding longest_by clip
longest-clip P = refl

clip-same : (P Q : ℕ → ℕ → Bool) → ((i j : ℕ) → i + j < 4 → P i j ≡ Q i j) → clip P ≡ clip Q
unfolding clip
clip-same P Q same = λ k i j. at_pair i j (nat_lt (i + j) 4) refl k
  where
    at_pair : (i j : ℕ) (t : Bool) → nat_lt (i + j) 4 ≡ t → (if t then P i j else true) ≡ (if t then Q i j else true)
    at_pair i j true e = same i j (grind (arith, nat_tests))
    at_pair i j false e = refl

-- two groups whose blocks are marked alike have the same longest run
pub longest_run-same : (p q : ℕ → Bool) (g h : ℕ) → ((i : ℕ) → i < 4 → p (4 * g + i) ≡ q (4 * h + i)) → longest_run p g ≡ longest_run q h
longest_run-same p q g h same =
    let P : ℕ → ℕ → Bool = λ i j. p (4 * g + i + j) in
    let Q : ℕ → ℕ → Bool = λ i j. q (4 * h + i + j) in
    let pairs : (i j : ℕ) → i + j < 4 → P i j ≡ Q i j = λ i j small. ap p {x = 4 * g + i + j} {y = 4 * g + (i + j)} (omega arith) ∙ same (i + j) small ∙ ap q {x = 4 * h + (i + j)} {y = 4 * h + i + j} (omega arith) in
    longest_is p g ∙ longest-clip P ∙ ap longest_by (clip-same P Q pairs) ∙ sym (longest-clip Q) ∙ sym (longest_is q h)

-- one where a test holds
abbrev pub one : Bool → ℕ
one t = if t then 1 else 0

pub first_counted : (p : ℕ → Bool) (s n : ℕ) → count_by p (range_with_len s (suc n)) ≡ one (p s) + count_by p (range_with_len (s + 1) n)
first_counted p s n = grind (arith, common_steps)

-- a count where nothing changes
pub count-same : (p q : ℕ → Bool) (s n : ℕ) → ((i : ℕ) → s ≤ i → i < s + n → p i ≡ q i) → count_by p (range_with_len s n) ≡ count_by q (range_with_len s n)
count-same p q s zero same = refl
count-same p q s (suc n) same =
    first_counted p s n
    ∙ ap₂ (λ (a b : ℕ). a + b) (ap one (same s (omega arith) (omega arith))) (count-same p q (s + 1) n (λ i low high. same i (omega arith) (omega arith)))
    ∙ sym (first_counted q s n)

-- a count where one number changes
pub count-changed : (p q : ℕ → Bool) (k s n : ℕ) → s ≤ k → k < s + n → ((i : ℕ) → s ≤ i → i < s + n → i ≢ k → p i ≡ q i) → count_by q (range_with_len s n) + one (p k) ≡ count_by p (range_with_len s n) + one (q k)
count-changed p q k s zero low high same = absurd (omega arith)
count-changed p q k s (suc n) low high same =
    ⊎_elim
    (λ (here : k ≡ s).
    let rest = count-same p q (s + 1) n (λ i low high. same i (omega arith) (omega arith) (omega arith)) in
    let a = first_counted p s n in
    let b = first_counted q s n in
    let c : one (p k) ≡ one (p s) = ap (λ (i : ℕ). one (p i)) here in
    let d : one (q k) ≡ one (q s) = ap (λ (i : ℕ). one (q i)) here in
    omega (arith, rest, a, b, c, d))
    (λ (apart : k ≢ s).
    let rest = count-changed p q k (s + 1) n (omega arith) (omega arith) (λ i low high. same i (omega arith) (omega arith)) in
    let a = first_counted p s n in
    let b = first_counted q s n in
    let c : one (p s) ≡ one (q s) = ap one (same s (omega arith) (omega arith) (λ e. apart (sym e))) in
    omega (arith, rest, a, b, c))
    (cases_eq k s)

-- a count has each number that passes
pub counted_there : (p : ℕ → Bool) (k s n : ℕ) → s ≤ k → k < s + n → one (p k) ≤ count_by p (range_with_len s n)
counted_there p k s zero low high = absurd (omega arith)
counted_there p k s (suc n) low high =
    ⊎_elim (λ (here : k ≡ s). let e : one (p k) ≡ one (p s) = ap (λ (i : ℕ). one (p i)) here in omega (arith, e, first_counted p s n))
    (λ (apart : k ≢ s). let rest = counted_there p k (s + 1) n (omega arith) (omega arith) in omega (arith, rest, first_counted p s n)) (cases_eq k s)

-- no more than all are counted
pub counted_most : (p : ℕ → Bool) (s n : ℕ) → count_by p (range_with_len s n) ≤ n
counted_most p s n = let few = count_by-le-length p (range_with_len s n) in omega (arith, few, length-range_with_len s n)

-- groups whose blocks are marked alike
pub groups_same : (p q : ℕ → Bool) (n run : ℕ) → ((b : ℕ) → b < 4 * n → p b ≡ q b) → groups_with p n run ≡ groups_with q n run
unfolding groups_with
groups_same p q n run same = count-same (λ g. longest_run p g == run) (λ g. longest_run q g == run) 0 n (λ g low small. ap (λ (r : ℕ). r == run) (longest_run-same p q g g (λ i few. same (4 * g + i) (omega (arith, small, few)))))
