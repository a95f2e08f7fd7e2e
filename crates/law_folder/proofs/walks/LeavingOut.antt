-- Nodes that are dropped may be left out of a walk: the same nodes are kept.
use Rattle.std.proofs.Common.{◌≡◌, ℕ, ◌≢◌, List, [], ◌∷◌, ◌++◌, refl, ap, ap₂, sym, ◌∙◌, ⊎_elim, Bool, true, false, Option, Some, None, Result, Ok, Err}
use Rattle.std.specs.Prelude.{if◌then◌else◌, not, ◌==◌, is_err}
use Rattle.std.specs.List.{filter, filter_map, AllByRecursion, cons_option}
use Rattle.std.proofs.lemmas.Bool.{cases_Bool}
use Rattle.std.proofs.lemmas.Bool.Decides.{eqb_tells}
use Rattle.std.proofs.Math.Dec.{eqb}
use Rattle.std.proofs.lemmas.List.Elements.{filter-append}
use Rattle.spec_folder.specs.View.{StoreView}
use Rattle.spec_folder.specs.Reasons.{Reason}
use Rattle.law_folder.specs.KeptLaws.{IsDroppedIfLeftOut}
use Rattle.spec_folder.specs.Loads.{Rule, Loaded}
use Rattle.spec_folder.specs.Audit.{verdict, with_verdict, verdicts, tried, is_child, verdict_on, judged, kept_of, kept_among}

err_keeps : (kept : List Loaded) (r : Result Loaded Reason) → is_err r ≡ true → with_verdict kept r ≡ kept
err_keeps kept (Ok l) e = cc
err_keeps kept (Err reason) e = refl

-- the verdicts on the others are the same
pub verdicts-filter : (v : StoreView) (rule : Rule) (keep : ℕ → Bool) (kept : List Loaded) (words : List ℕ)
    → AllByRecursion (IsDroppedIfLeftOut keep) (verdicts v rule kept words) → verdicts v rule kept (filter keep words) ≡ filter (λ g. keep g.0) (verdicts v rule kept words)
unfolding verdicts
verdicts-filter v rule keep kept [] h = refl
verdicts-filter v rule keep kept (w ∷ words) h =
    ⊎_elim
    (λ (e : keep w ≡ true). rw e (ap (λ (gs : List (ℕ × Result Loaded Reason)). (w, verdict v rule kept w) ∷ gs) (verdicts-filter v rule keep (with_verdict kept (verdict v rule kept w)) words h.1)))
    (λ (e : keep w ≡ false).
    let same : with_verdict kept (verdict v rule kept w) ≡ kept = err_keeps kept (verdict v rule kept w) (h.0 e) in
    rw e (rw same (verdicts-filter v rule keep kept words (rw same at h.1))))
    (cases_Bool (keep w))

-- one of them is found where it was
verdict_on-filter : (keep : ℕ → Bool) (given : List (ℕ × Result Loaded Reason)) (w : ℕ) → keep w ≡ true → verdict_on (filter (λ g. keep g.0) given) w ≡ verdict_on given w
verdict_on-filter keep [] w e = refl
verdict_on-filter keep (g ∷ given) w e =
    ⊎_elim
    (λ (k : keep g.0 ≡ true). rw k (ap (λ (o : Option (Result Loaded Reason)). if g.0 == w then Some g.1 else o) (verdict_on-filter keep given w e)))
    (λ (k : keep g.0 ≡ false).
    let other : (g.0 == w) ≡ false = ⊎_elim (λ (x : (eqb g.0 w ≡ true) × (g.0 ≡ w)). let c : keep g.0 ≡ keep w = ap keep x.1 in cc) (λ (x : (eqb g.0 w ≡ false) × (g.0 ≢ w)). x.0) (eqb_tells g.0 w) in
    rw (k, other) (verdict_on-filter keep given w e))
    (cases_Bool (keep g.0))

-- leaving out and choosing the parts can be done in either order
filter-filter : (p q : ℕ → Bool) (xs : List ℕ) → filter p (filter q xs) ≡ filter q (filter p xs)
filter-filter p q [] = refl
filter-filter p q (x ∷ xs) =
    ⊎_elim
    (λ (a : p x ≡ true). ⊎_elim (λ (b : q x ≡ true). rw (a, b) (rw a (ap (λ (ys : List ℕ). x ∷ ys) (filter-filter p q xs)))) (λ (b : q x ≡ false). rw (a, b) (filter-filter p q xs)) (cases_Bool (q x)))
    (λ (a : p x ≡ false). ⊎_elim (λ (b : q x ≡ true). rw (a, b) (rw a (filter-filter p q xs))) (λ (b : q x ≡ false). rw (a, b) (filter-filter p q xs)) (cases_Bool (q x)))
    (cases_Bool (p x))

tried-filter : (v : StoreView) (keep : ℕ → Bool) (words : List ℕ) → tried v (filter keep words) ≡ filter keep (tried v words)
tried-filter v keep words = ap₂ (λ (xs ys : List ℕ). xs ++ ys) (filter-filter (λ w. not (is_child v w)) keep words) (filter-filter (is_child v) keep words) ∙ sym (filter-append keep (filter (λ w. not (is_child v w)) words) (filter (is_child v) words))

-- what is left of a list of verdicts
module _ (keep : ℕ → Bool) (f g : ℕ → Option Loaded) (same : (w : ℕ) → keep w ≡ true → f w ≡ g w) (gone : (w : ℕ) → keep w ≡ false → g w ≡ None) where
  filter_map-filter : (words : List ℕ) → filter_map f (filter keep words) ≡ filter_map g words
  filter_map-filter [] = refl
  filter_map-filter (w ∷ words) =
      ⊎_elim
      (λ (e : keep w ≡ true). rw (e, same w e) (ap (cons_option (g w)) (filter_map-filter words)))
      (λ (e : keep w ≡ false). rw (e, gone w e) (filter_map-filter words))
      (cases_Bool (keep w))

-- one that is left out is not kept
left_out-not_kept : (keep : ℕ → Bool) (given : List (ℕ × Result Loaded Reason)) → AllByRecursion (IsDroppedIfLeftOut keep) given → (w : ℕ) → keep w ≡ false → kept_of (verdict_on given w) ≡ None
left_out-not_kept keep [] h w e = refl
left_out-not_kept keep (g ∷ given) h w e =
    ⊎_elim
    (λ (x : (eqb g.0 w ≡ true) × (g.0 ≡ w)). let err : is_err g.1 ≡ true = h.0 (ap keep x.1 ∙ e) in rw x.0 (none_kept g.1 err))
    (λ (x : (eqb g.0 w ≡ false) × (g.0 ≢ w)). rw x.0 (left_out-not_kept keep given h.1 w e))
    (eqb_tells g.0 w) where
      none_kept : (r : Result Loaded Reason) → is_err r ≡ true → kept_of (Some r) ≡ None
      none_kept (Ok l) err = cc
      none_kept (Err reason) err = refl

-- the same nodes are kept
pub leaving-out : (v : StoreView) (rule : Rule) (keep : ℕ → Bool) (words : List ℕ) → AllByRecursion (IsDroppedIfLeftOut keep) (judged v rule words) → kept_among v rule (filter keep words) ≡ kept_among v rule words
unfolding kept_among
leaving-out v rule keep words h =
    let given : judged v rule (filter keep words) ≡ filter (λ g. keep g.0) (judged v rule words) = rw (tried-filter v keep words) (verdicts-filter v rule keep [] (tried v words) h) in
    rw given (filter_map-filter keep _ _ (λ w e. ap kept_of (verdict_on-filter keep (judged v rule words) w e)) (left_out-not_kept keep (judged v rule words) h) words)
