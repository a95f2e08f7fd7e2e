-- The marks of used blocks, and the groups that they leave free.
use Rattle.std.proofs.Common.{◌≡◌, ℕ, zero, suc, ◌+◌, ◌≤◌, Bool, refl, ◌∙◌, ap, arith}
use Rattle.std.specs.Prelude.{◌==◌}
use Rattle.std.specs.List.{count_by, range_with_len}
use Rattle.spec_format.specs.Maps.{longest_run, groups_with}
use Rattle.spec_format.proofs.Groups.{first_counted, counted_most, one}

-- one number more is counted
count-more : (p : ℕ → Bool) (s n : ℕ) → count_by p (range_with_len s (n + 1)) ≡ count_by p (range_with_len s n) + one (p (s + n))
count-more p s zero = let e : one (p s) ≡ one (p (s + 0)) = ap (λ (k : ℕ). one (p k)) {x = s} {y = s + 0} (omega arith) in let d = first_counted p s 0 in omega (arith, e, d)
count-more p s (suc n) =
    let a = first_counted p s (n + 1) in
    let b = first_counted p s n in
    let c = count-more p (s + 1) n in
    let e : one (p (s + 1 + n)) ≡ one (p (s + suc n)) = ap (λ (k : ℕ). one (p k)) {x = s + 1 + n} {y = s + suc n} (omega arith) in
    let d : count_by p (range_with_len s (suc n + 1)) ≡ count_by p (range_with_len s (suc (n + 1))) = ap (λ (k : ℕ). count_by p (range_with_len s k)) {x = suc n + 1} {y = suc (n + 1)} (omega arith) in
    omega (arith, a, b, c, e, d)

-- of no group none has a run
pub no_groups : (p : ℕ → Bool) (run : ℕ) → groups_with p 0 run ≡ 0
unfolding groups_with
no_groups p run = refl

-- one more group
pub groups_more : (p : ℕ → Bool) (n run : ℕ) → groups_with p (n + 1) run ≡ groups_with p n run + one (longest_run p n == run)
unfolding groups_with
groups_more p n run =
    count-more (λ g. longest_run p g == run) 0 n
    ∙ ap (λ (k : ℕ). count_by (λ g. longest_run p g == run) (range_with_len 0 n) + one (longest_run p k == run)) {x = 0 + n} {y = n} (omega arith)

-- no more than all have a run
pub groups_most : (p : ℕ → Bool) (n run : ℕ) → groups_with p n run ≤ n
unfolding groups_with
groups_most p n run = counted_most (λ g. longest_run p g == run) 0 n
