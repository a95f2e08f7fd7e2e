-- The outcomes of nodes that were tried, each at its place.
use Rattle.std.proofs.Common.{◌≡◌, ◌≢◌, ◌<◌, ℕ, zero, suc, true, false, List, [], ◌∷◌, ◌++◌, Option, None, Some, Result, Ok, Err, length, set, get_or, replicate, refl, sym, ap, subst, ◌∙◌, ⊎_elim, arith}
use Rattle.std.specs.Prelude.{slice_get, ◌==◌}
use Rattle.std.specs.List.{AllZip}
use Rattle.std.proofs.lemmas.Bool.{or_parts, or_left, or_right, eq-eqb}
use Rattle.std.proofs.lemmas.Bool.Decides.{eqb_tells}
use Rattle.std.proofs.Math.Dec.{eqb}
use Rattle.std.proofs.lemmas.List.{append_assoc, append-nil, length-append, length-replicate, length-set, get_or-set_same, get_or-set_other}
use Rattle.std.proofs.lemmas.Option.{slice_get_within}
use Rattle.spec_image.specs.Image.{Image}
use Rattle.spec_format.specs.BlockFiles.{is_among}
use Rattle.spec_folder.specs.ListView.{Distinct}
use Rattle.spec_folder.specs.Audit as audit
use Rattle.spec_folder.specs.Audit.{judged, verdict, verdict_on, verdicts, with_verdict}
use Rattle.spec_folder.specs.Completion.{completed_list}
use Rattle.spec_folder.specs.ListImages.{completed_walk}
use Rattle.spec_folder.specs.Loads as shown
use Rattle.spec_folder.specs.Loads.{Rule, held_rule}
use Rattle.spec_folder.specs.Reasons as reasons
use Rattle.spec_folder.specs.View.{StoreView, list_of, store_of}
use Rattle.law_folder.proofs.lists.Walked.{walk-once}
use Rattle.law_folder.proofs.walks.Kept.{tried-among, tried-once}
use Rattle.blk_verdict.specs.Kept.{AreShown, IsLoadedFrom, IsSameAnswer}
use Rattle.blk_verdict.specs.Passes.{AreTried, IsTried, kept_after}
use Rattle.blk_verdict.specs.declared.loading.Loaded.{Loaded}
use Rattle.blk_verdict.specs.declared.passes.Tried.{Tried}
use Rattle.blk_verdict.specs.declared.reason.Reason.{Reason}
use Rattle.blk_scan.specs.Outcomes.{IsOutcomeOf, IsOutcomeIf, count_after, outcome_after, with_tried}
use Rattle.blk_scan.specs.declared.outcomes.Outcome.{Outcome}

-- Places in lists.

some_same : {A : Type 0} {a b : A} → Some a ≡ Some b → a ≡ b
some_same e = cc

not_none : {A : Type 0} {b : A} → None ≡ Some b → ⊥
not_none e = cc

clash : false ≡ true → ⊥
clash e = cc

among_at : (xs : List ℕ) (i x : ℕ) → slice_get xs i ≡ Some x → is_among xs x ≡ true
among_at [] i x at = absurd (not_none at)
among_at (y ∷ ys) zero x at = or_left (y == x) (is_among ys x) (eq-eqb y x (some_same at))
among_at (y ∷ ys) (suc i) x at = or_right (y == x) (is_among ys x) (among_at ys i x at)

-- what occurs once is at one place
pub same_place : (xs : List ℕ) (i j x : ℕ) → Distinct xs → slice_get xs i ≡ Some x → slice_get xs j ≡ Some x → i ≡ j
same_place [] i j x once at also = absurd (not_none at)
same_place (y ∷ ys) zero zero x once at also = refl
same_place (y ∷ ys) zero (suc j) x once at also =
    absurd (clash (sym (subst (λ (z : ℕ). is_among ys z ≡ false) (some_same at) once.0) ∙ among_at ys j x also))
same_place (y ∷ ys) (suc i) zero x once at also =
    absurd (clash (sym (subst (λ (z : ℕ). is_among ys z ≡ false) (some_same also) once.0) ∙ among_at ys i x at))
same_place (y ∷ ys) (suc i) (suc j) x once at also = ap suc (same_place ys i j x once.1 at also)

-- what holds at each place holds of both lists
paired : {A B : Type 0} (R : A → B → Type 0) (xs : List A) (ys : List B) (d : B) → length xs ≡ length ys → ((i : ℕ) (x : A) → slice_get xs i ≡ Some x → R x (get_or ys i d)) → AllZip R xs ys
paired R [] [] d e each = tt
paired R [] (y ∷ ys) d e each = absurd (omega (arith, e))
paired R (x ∷ xs) [] d e each = absurd (omega (arith, e))
paired R (x ∷ xs) (y ∷ ys) d e each = (each 0 x refl, paired R xs ys d (omega (arith, e)) (λ i z at. each (suc i) z at))

-- the partner of an element after some others
record HasPartner {A B : Type 0} (R : A → B → Type 0) (x : A) (ys : List B) (n : ℕ) : Type 0 where
  one : B
  at : slice_get ys n ≡ Some one
  is : R x one

partner : {A B : Type 0} (R : A → B → Type 0) (xs : List A) (x : A) (zs : List A) (ys : List B) → AllZip R (xs ++ x ∷ zs) ys → HasPartner R x ys (length xs)
partner R [] x zs [] all = absurd all
partner R [] x zs (y ∷ ys) all = record { one = y; at = refl; is = all.0 }
partner R (w ∷ xs) x zs [] all = absurd all
partner R (w ∷ xs) x zs (y ∷ ys) all = let more = partner R xs x zs ys all.1 in record { one = more.one; at = more.at; is = more.is }

-- What is kept of further nodes comes after what is kept so far.

record GoesOn (before after : List shown.Loaded) : Type 0 where
  more : List shown.Loaded
  is : after ≡ before ++ more

goes_on : (store : StoreView) (rule : Rule) (kept : List shown.Loaded) (nodes : List ℕ) → GoesOn kept (kept_after store rule kept nodes)
unfolding kept_after
goes_on store rule kept [] = record { more = []; is = sym (append-nil kept) }
goes_on store rule kept (node ∷ nodes) = go (verdict store rule kept node) (goes_on store rule (with_verdict kept (verdict store rule kept node)) nodes)
  where
    go : (r : Result shown.Loaded reasons.Reason) → GoesOn (with_verdict kept r) (kept_after store rule (with_verdict kept (verdict store rule kept node)) nodes) → GoesOn kept (kept_after store rule (with_verdict kept (verdict store rule kept node)) nodes)
    go (Ok loaded) on = record { more = loaded ∷ on.more; is = on.is ∙ append_assoc kept (loaded ∷ []) on.more }
    go (Err reason) on = on

-- One answer.

counts : (kept : List shown.Loaded) (r : Result shown.Loaded reasons.Reason) (reason : Option Reason) → IsSameAnswer r reason → count_after (length kept) reason ≡ length (with_verdict kept r)
counts kept (Ok loaded) None same = sym (length-append kept (loaded ∷ []))
counts kept (Ok loaded) (Some reason) same = absurd same
counts kept (Err why) None same = absurd same
counts kept (Err why) (Some reason) same = refl

module _ (image : Image) (said : List Loaded) where
  -- the answer of a verdict is the outcome of the definition: what it keeps is the next kept record
  is_outcome : (kept : List shown.Loaded) (nodes : List ℕ) (r : Result shown.Loaded reasons.Reason) (reason : Option Reason) → AreShown image (kept_after (store_of image) held_rule (with_verdict kept r) nodes) said → IsSameAnswer r reason
      → IsOutcomeOf image said r (outcome_after (length kept) reason)
  is_outcome kept nodes (Ok loaded) None shown_all same =
      let on = goes_on (store_of image) held_rule (kept ++ loaded ∷ []) nodes in
      let all : AllZip (IsLoadedFrom image) (kept ++ loaded ∷ on.more) said = subst (λ (k : List shown.Loaded). AllZip (IsLoadedFrom image) k said) (on.is ∙ append_assoc kept (loaded ∷ []) on.more) shown_all in
      let one = partner (IsLoadedFrom image) kept loaded on.more said all in
      record { said = one.one; at = one.at; is = one.is }
  is_outcome kept nodes (Ok loaded) (Some reason) shown_all same = absurd same
  is_outcome kept nodes (Err why) None shown_all same = absurd same
  is_outcome kept nodes (Err why) (Some reason) shown_all same = same

-- All of them.

module _ (walked : List ℕ) (once : Distinct walked) (p w : ℕ) (here : slice_get walked p ≡ Some w) where
  -- at the place of a node that is none of these nothing changes
  stays : (store : StoreView) (rule : Rule) (kept : List shown.Loaded) (n : ℕ) (nodes : List ℕ) (tried : List Tried) (outcomes : List (Option Outcome)) → AllZip (IsTried walked) (verdicts store rule kept nodes) tried
      → is_among nodes w ≡ false → get_or (with_tried outcomes n tried) p None ≡ get_or outcomes p None
  unfolding verdicts
  stays store rule kept n [] [] outcomes all none = refl
  stays store rule kept n [] (one ∷ tried) outcomes all none = absurd all
  stays store rule kept n (first ∷ nodes) [] outcomes all none = absurd all
  stays store rule kept n (first ∷ nodes) (one ∷ tried) outcomes all none =
      let parts = or_parts (first == w) (is_among nodes w) none in
      let apart : p ≢ one.place = λ e. clash (sym parts.0 ∙ eq-eqb first w (some_same (sym all.0.node ∙ ap (slice_get walked) (sym e) ∙ here))) in
      stays store rule (with_verdict kept (verdict store rule kept first)) (count_after n one.reason) nodes tried (set outcomes one.place (Some (outcome_after n one.reason))) all.1 parts.1
      ∙ get_or-set_other outcomes one.place p (Some (outcome_after n one.reason)) None apart

  -- at the place of one of them its outcome is put
  pub placed : (image : Image) (said : List Loaded) (kept : List shown.Loaded) (n : ℕ) (nodes : List ℕ) (tried : List Tried) (outcomes : List (Option Outcome)) → n ≡ length kept → Distinct nodes
      → AllZip (IsTried walked) (verdicts (store_of image) held_rule kept nodes) tried → AreShown image (kept_after (store_of image) held_rule kept nodes) said → p < length outcomes → is_among nodes w ≡ true
      → IsOutcomeIf image said (verdict_on (verdicts (store_of image) held_rule kept nodes) w) (get_or (with_tried outcomes n tried) p None)
  unfolding verdicts kept_after
  placed image said kept n [] tried outcomes many apart all shown_all inside among = absurd (clash among)
  placed image said kept n (first ∷ nodes) [] outcomes many apart all shown_all inside among = absurd all
  placed image said kept n (first ∷ nodes) (one ∷ tried) outcomes many apart all shown_all inside among = ⊎_elim
      (λ (x : (eqb first w ≡ true) × (first ≡ w)).
      let r : Result shown.Loaded reasons.Reason = verdict (store_of image) held_rule kept first in
      let next : List (Option Outcome) = set outcomes one.place (Some (outcome_after n one.reason)) in
      let lacks : is_among nodes w ≡ false = subst (λ (z : ℕ). is_among nodes z ≡ false) x.1 apart.0 in
      let same : one.place ≡ p = same_place walked one.place p w once (all.0.node ∙ ap Some x.1) here in
      let at : get_or (with_tried next (count_after n one.reason) tried) p None ≡ Some (outcome_after n one.reason) =
      stays (store_of image) held_rule (with_verdict kept r) (count_after n one.reason) nodes tried next all.1 lacks
      ∙ ap (λ (i : ℕ). get_or (set outcomes i (Some (outcome_after n one.reason))) p None) same ∙ get_or-set_same outcomes p (Some (outcome_after n one.reason)) None inside in
      let is : IsOutcomeOf image said r (outcome_after n one.reason) = subst (λ (m : ℕ). IsOutcomeOf image said r (outcome_after m one.reason)) (sym many) (is_outcome image said kept nodes r one.reason shown_all all.0.answer) in
      rw x.0 (subst (λ (o : Option Outcome). IsOutcomeIf image said (Some r) o) (sym at) is))
      (λ (x : (eqb first w ≡ false) × (first ≢ w)).
      let r : Result shown.Loaded reasons.Reason = verdict (store_of image) held_rule kept first in
      let next : List (Option Outcome) = set outcomes one.place (Some (outcome_after n one.reason)) in
      rw x.0 (placed image said (with_verdict kept r) (count_after n one.reason) nodes tried next (ap (λ (m : ℕ). count_after m one.reason) many ∙ counts kept r one.reason all.0.answer) apart.1 all.1 shown_all
      (subst (λ (m : ℕ). p < m) (sym (length-set outcomes one.place (Some (outcome_after n one.reason)))) inside) (rw x.0 at among)))
      (eqb_tells first w)

-- With the verdicts on the walked nodes of an image.

length_tried : (outcomes : List (Option Outcome)) (n : ℕ) (tried : List Tried) → length (with_tried outcomes n tried) ≡ length outcomes
length_tried outcomes n [] = refl
length_tried outcomes n (one ∷ tried) = length_tried (set outcomes one.place (Some (outcome_after n one.reason))) (count_after n one.reason) tried ∙ length-set outcomes one.place (Some (outcome_after n one.reason))

pub outcomes_are : (image : Image) (said : List Loaded) (tried : List Tried) → AreTried image (completed_walk image) (audit.tried (store_of image) (completed_walk image)) said tried
    → AllZip (λ w o. IsOutcomeIf image said (verdict_on (judged (store_of image) held_rule (completed_walk image)) w) o) (completed_walk image) (with_tried (replicate (length (completed_walk image)) None) 0 tried)
outcomes_are image said tried are =
    let walked : List ℕ = completed_walk image in
    let nodes : List ℕ = audit.tried (store_of image) walked in
    let start : List (Option Outcome) = replicate (length walked) None in
    let once : Distinct walked = walk-once (completed_list (list_of image)) in
    paired (λ w o. IsOutcomeIf image said (verdict_on (judged (store_of image) held_rule walked) w) o) walked (with_tried start 0 tried) None (sym (length_tried start 0 tried ∙ length-replicate (length walked) None))
    (λ i w at. placed walked once i w at image said [] 0 nodes tried start refl (tried-once (store_of image) walked once) are.answers are.shown
    (subst (λ (n : ℕ). i < n) (sym (length-replicate (length walked) None)) (slice_get_within walked i w at))
    (tried-among (store_of image) walked once w ∙ among_at walked i w at))
