-- Of what is kept no two use the same, and none uses anything twice.
use Rattle.std.proofs.Common.{◌≡◌, ℕ, List, [], ◌∷◌, true, false, Option, Some, None, refl, sym, ◌∙◌, ⊎_elim}
use Rattle.std.specs.Prelude.{◌==◌}
use Rattle.std.specs.List.{filter_map, cons_option}
use Rattle.std.proofs.lemmas.Bool.{eq-eqb, or_left, or_right, or_parts, or_cases}
use Rattle.spec_image.specs.Image.{Image}
use Rattle.spec_format.specs.BlockFiles.{is_among}
use Rattle.spec_format.specs.Claims.{Claim, has_claim, repeats}
use Rattle.spec_folder.specs.ListView.{Distinct}
use Rattle.spec_folder.specs.Completion.{completed_list}
use Rattle.spec_folder.specs.Walk.{walk}
use Rattle.spec_folder.specs.View.{list_of, store_of}
use Rattle.spec_folder.specs.Loads.{held_rule, Loaded, all_claims, claims_of_loaded}
use Rattle.spec_folder.specs.Audit.{kept_among, kept_as, is_kept, kept_nodes}
use Rattle.spec_folder.specs.Shown.{IsShown}
use Rattle.spec_folder.specs.Found.{kept}
use Rattle.law_folder.proofs.claims.ClaimLists.{claim-append, no-claim, repeats-append}
use Rattle.law_folder.proofs.walks.Kept.{kept-shown}
use Rattle.law_folder.proofs.walks.Shown.{is_among-filter}
use Rattle.law_folder.proofs.lists.Walked.{walk-once}
use Rattle.law_folder.proofs.states.Changing.{apart-sym}
use Rattle.law_recovery.specs.FoundHolding.{KeptClaimOnce}
use Rattle.law_recovery.proofs.Frames.{apart-claim}
use Rattle.law_recovery.proofs.OwnClaims.{all-once}

clash : true ≡ false → ⊥
clash e = cc

none-once : repeats [] ≡ false
unfolding repeats
none-once = refl

module _ (image : Image) where
  abbrev nodes : List ℕ
  nodes = walk (completed_list (list_of image))

  abbrev given : ℕ → Option Loaded
  given = kept_as (store_of image) held_rule nodes

  shown : IsShown (store_of image) held_rule (kept_nodes (store_of image) held_rule nodes) given
  shown = kept-shown (store_of image) held_rule nodes (walk-once (completed_list (list_of image)))

  among-kept : (node : ℕ) (k : Loaded) → is_among nodes node ≡ true → given node ≡ Some k → is_among (kept_nodes (store_of image) held_rule nodes) node ≡ true
  among-kept node k among is = is_among-filter (is_kept (store_of image) held_rule nodes) nodes node ∙ rw (is, among) refl

  -- what one uses no other does
  apart-from : (xs : List ℕ) (x : ℕ) (k : Loaded) (c : Claim) → ((y : ℕ) → is_among xs y ≡ true → is_among nodes y ≡ true) → is_among nodes x ≡ true → given x ≡ Some k → is_among xs x ≡ false → has_claim (all_claims k) c ≡ true → has_claim (claims_of_loaded (filter_map given xs)) c ≡ true → ⊥
  apart-from [] x k c sub among is lacks here there = clash (sym there ∙ no-claim c)
  apart-from (y ∷ xs) x k c sub among is lacks here there = go (given y) refl (λ h. apart-from xs x k c (λ z in_xs. sub z (or_right (y == z) (is_among xs z) in_xs)) among is parts.1 here h) there where
    parts : ((y == x) ≡ false) × (is_among xs x ≡ false)
    parts = or_parts (y == x) (is_among xs x) lacks

    go : (o : Option Loaded) → given y ≡ o → (has_claim (claims_of_loaded (filter_map given xs)) c ≡ true → ⊥) → has_claim (claims_of_loaded (cons_option o (filter_map given xs))) c ≡ true → ⊥
    go None is_y more h = more h
    go (Some l) is_y more h =
        let among_y : is_among nodes y ≡ true = sub y (or_left (y == y) (is_among xs y) (eq-eqb y y refl)) in
        let apart = shown.apart x y k l (among-kept x k among is) (among-kept y l among_y is_y) (apart-sym y x parts.0) is is_y in
        ⊎_elim
        (λ (t : has_claim (all_claims l) c ≡ true). clash (sym here ∙ apart-claim (all_claims k) (all_claims l) c apart.claims t))
        more
        (or_cases (has_claim (all_claims l) c) (has_claim (claims_of_loaded (filter_map given xs)) c) (sym (claim-append (all_claims l) (claims_of_loaded (filter_map given xs)) c) ∙ h))

  once-each : (xs : List ℕ) → Distinct xs → ((y : ℕ) → is_among xs y ≡ true → is_among nodes y ≡ true) → repeats (claims_of_loaded (filter_map given xs)) ≡ false
  once-each [] once sub = none-once
  once-each (x ∷ xs) once sub = go (given x) refl (once-each xs once.1 later) where
    later : (y : ℕ) → is_among xs y ≡ true → is_among nodes y ≡ true
    later y h = sub y (or_right (x == y) (is_among xs y) h)

    among : is_among nodes x ≡ true
    among = sub x (or_left (x == x) (is_among xs x) (eq-eqb x x refl))

    go : (o : Option Loaded) → given x ≡ o → repeats (claims_of_loaded (filter_map given xs)) ≡ false → repeats (claims_of_loaded (cons_option o (filter_map given xs))) ≡ false
    go None is rest = rest
    go (Some k) is rest =
        let there = among-kept x k among is in
        repeats-append (all_claims k) (claims_of_loaded (filter_map given xs)) (all-once image held_rule x k (shown.loads x k there is) (shown.single x k there is)) rest
        (λ c h t. apart-from xs x k c later among is once.0 h t)

  claims-once : repeats (claims_of_loaded (kept image)) ≡ false
  unfolding kept kept_among
  claims-once = once-each nodes (walk-once (completed_list (list_of image))) (λ y h. h)

pub kept-claim_once : KeptClaimOnce
kept-claim_once image = claims-once image
