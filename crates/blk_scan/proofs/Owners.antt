-- What is owned by those that are kept, in the order in which they were tried and in that of the walk.
use Rattle.std.proofs.Common.{◌≡◌, ◌+◌, ℕ, Bool, true, false, ◌||◌, List, [], ◌∷◌, ◌++◌, Option, None, Some, Result, Ok, Err, refl, sym, ap, subst, ◌∙◌, ⊎_elim}
use Rattle.std.specs.Prelude.{◌==◌, not, if◌then◌else◌}
use Rattle.std.specs.List.{cons_option, count_by, filter, filter_map, flat_map, list_any, sum_by}
use Rattle.std.proofs.lemmas.Bool.{cases_Bool, eq-eqb, or_right}
use Rattle.std.proofs.lemmas.Bool.Decides.{eqb_tells}
use Rattle.std.proofs.Math.Dec.{eqb}
use Rattle.std.proofs.lemmas.List.{append-nil, append_assoc}
use Rattle.std.proofs.lemmas.List.Filters.{sum_by-filter_both}
use Rattle.std.proofs.lemmas.List.Folds.{list_any-append}
use Rattle.std.proofs.lemmas.List.Sums.{sum_by-append, sum_by-cons}
use Rattle.spec_image.specs.Image.{Image}
use Rattle.spec_format.specs.BlockFiles.{is_among}
use Rattle.spec_format.specs.Claims.{Claim, claims_of, claims_of_all, has_claim, is_in_file, repeats}
use Rattle.blk_addr.specs.Claims.{IsClaimsOf}
use Rattle.blk_addr.specs.declared.claim_set.Claims.{Claims}
use Rattle.blk_addr.proofs.ClaimLemmas.{has_claim-append}
use Rattle.spec_folder.specs.Audit.{is_child, judged, kept_of, tried, verdict, verdict_on, verdicts, with_verdict}
use Rattle.spec_folder.specs.Completion.{completed_list}
use Rattle.spec_folder.specs.Found.{kept}
use Rattle.spec_folder.specs.ListImages.{completed_walk}
use Rattle.spec_folder.specs.ListView.{Distinct}
use Rattle.spec_folder.specs.Loads as shown
use Rattle.spec_folder.specs.Loads.{Rule, held_rule}
use Rattle.spec_folder.specs.Reasons as reasons
use Rattle.spec_folder.specs.Sound.{words_of}
use Rattle.spec_folder.specs.View.{StoreView, list_of, store_of}
use Rattle.law_folder.proofs.lists.Walked.{walk-once}
use Rattle.law_folder.proofs.walks.Kept.{tried-once}
use Rattle.law_recovery.proofs.MendedParts.{words-claim}
use Rattle.law_recovery.proofs.OneOwner.{kept-claim_once}
use Rattle.blk_verdict.specs.Kept.{AreShown, addresses_of_all}
use Rattle.blk_verdict.specs.Passes.{kept_after}
use Rattle.blk_verdict.specs.declared.loading.Loaded.{Loaded}
use Rattle.blk_verdict.proofs.ShownClaims.{all_addresses_shown}

-- Those that are kept in the order in which they were tried.

kept_after_is : (store : StoreView) (rule : Rule) (given : ℕ → Option shown.Loaded) (so_far : List shown.Loaded) (nodes : List ℕ) → Distinct nodes
    → ((w : ℕ) → is_among nodes w ≡ true → given w ≡ kept_of (verdict_on (verdicts store rule so_far nodes) w)) → kept_after store rule so_far nodes ≡ so_far ++ filter_map given nodes
unfolding kept_after verdicts
kept_after_is store rule given so_far [] once are = sym (append-nil so_far)
kept_after_is store rule given so_far (node ∷ nodes) once are =
    kept_after_is store rule given (with_verdict so_far (verdict store rule so_far node)) nodes once.1 others ∙ go (verdict store rule so_far node) (are node here ∙ rw (eq-eqb node node refl) refl)
  where
    here : is_among (node ∷ nodes) node ≡ true
    here = rw (eq-eqb node node refl) refl

    others : (w : ℕ) → is_among nodes w ≡ true → given w ≡ kept_of (verdict_on (verdicts store rule (with_verdict so_far (verdict store rule so_far node)) nodes) w)
    others w among =
        let apart : (node == w) ≡ false = ⊎_elim (λ (x : (eqb node w ≡ true) × (node ≡ w)). let gone : is_among nodes w ≡ false = subst (λ (y : ℕ). is_among nodes y ≡ false) x.1 once.0 in cc) (λ (x : (eqb node w ≡ false) × _). x.0) (eqb_tells node w) in
        are w (or_right (node == w) (is_among nodes w) among) ∙ rw apart refl

    go : (r : Result shown.Loaded reasons.Reason) → given node ≡ kept_of (Some r) → with_verdict so_far r ++ filter_map given nodes ≡ so_far ++ cons_option (given node) (filter_map given nodes)
    go (Ok loaded) is = append_assoc so_far (loaded ∷ []) (filter_map given nodes) ∙ ap (λ (o : Option shown.Loaded). so_far ++ cons_option o (filter_map given nodes)) (sym is)
    go (Err why) is = ap (λ (o : Option shown.Loaded). so_far ++ cons_option o (filter_map given nodes)) (sym is)

-- The words of several, one after the other.

module _ (given : ℕ → Option shown.Loaded) where
  abbrev words_in : List ℕ → List ℕ
  words_in nodes = flat_map words_of (filter_map given nodes)

  first_words : (node : ℕ) (nodes : List ℕ) → words_in (node ∷ nodes) ≡ words_in (node ∷ []) ++ words_in nodes
  first_words node nodes = go (given node)
    where
      go : (o : Option shown.Loaded) → flat_map words_of (cons_option o (filter_map given nodes)) ≡ flat_map words_of (cons_option o []) ++ flat_map words_of (filter_map given nodes)
      go None = refl
      go (Some loaded) = ap (λ (ws : List ℕ). ws ++ flat_map words_of (filter_map given nodes)) (sym (append-nil (words_of loaded)))

  claims_append : (ws vs : List ℕ) → claims_of_all (ws ++ vs) ≡ claims_of_all ws ++ claims_of_all vs
  claims_append [] vs = refl
  claims_append (w ∷ ws) vs = ap (λ (cs : List Claim). claims_of w ++ cs) (claims_append ws vs) ∙ sym (append_assoc (claims_of w) (claims_of_all ws) (claims_of_all vs))

  -- a used block is that of one of them
  abbrev owns : Claim → ℕ → Bool
  owns c node = has_claim (claims_of_all (words_in (node ∷ []))) c

  owned_by : (c : Claim) (nodes : List ℕ) → has_claim (claims_of_all (words_in nodes)) c ≡ list_any (owns c) nodes
  unfolding has_claim
  owned_by c [] = refl
  owned_by c (node ∷ nodes) =
      ap (λ (ws : List ℕ). has_claim (claims_of_all ws) c) (first_words node nodes)
      ∙ ap (λ (cs : List Claim). has_claim cs c) (claims_append (words_in (node ∷ [])) (words_in nodes))
      ∙ has_claim-append (claims_of_all (words_in (node ∷ []))) (claims_of_all (words_in nodes)) c
      ∙ ap (λ (t : Bool). owns c node || t) (owned_by c nodes)

  -- so many of their words lie in a file
  abbrev lie : ℕ → ℕ → ℕ
  lie n node = count_by (is_in_file n) (words_in (node ∷ []))

  counted : (n : ℕ) (nodes : List ℕ) → count_by (is_in_file n) (words_in nodes) ≡ sum_by (lie n) nodes
  counted n [] = refl
  counted n (node ∷ nodes) =
      ap (count_by (is_in_file n)) (first_words node nodes)
      ∙ sum_by-append (λ w. if is_in_file n w then 1 else 0) (words_in (node ∷ [])) (words_in nodes)
      ∙ ap (λ (m : ℕ). lie n node + m) (counted n nodes)
      ∙ sym (sum_by-cons (lie n) node nodes)

-- Two parts of a list.

any_both : (p h : ℕ → Bool) (nodes : List ℕ) → list_any h (filter (λ node. not (p node)) nodes ++ filter p nodes) ≡ list_any h nodes
any_both p h nodes = list_any-append h (filter (λ node. not (p node)) nodes) (filter p nodes) ∙ parts nodes
  where
    parts : (xs : List ℕ) → (list_any h (filter (λ node. not (p node)) xs) || list_any h (filter p xs)) ≡ list_any h xs
    parts [] = refl
    parts (x ∷ xs) = ⊎_elim (λ (t : p x ≡ true). rw t (swapped (list_any h (filter (λ node. not (p node)) xs)) (h x) (list_any h (filter p xs)) ∙ ap (λ (b : Bool). h x || b) (parts xs)))
        (λ (t : p x ≡ false). rw t (grouped (h x) (list_any h (filter (λ node. not (p node)) xs)) (list_any h (filter p xs)) ∙ ap (λ (b : Bool). h x || b) (parts xs)))
        (cases_Bool (p x))
      where
        swapped : (a b c : Bool) → (a || (b || c)) ≡ (b || (a || c))
        swapped true true c = refl
        swapped true false c = refl
        swapped false b c = refl

        grouped : (a b c : Bool) → ((a || b) || c) ≡ (a || (b || c))
        grouped true b c = refl
        grouped false b c = refl

sum_both : (p : ℕ → Bool) (h : ℕ → ℕ) (nodes : List ℕ) → sum_by h (filter (λ node. not (p node)) nodes ++ filter p nodes) ≡ sum_by h nodes
sum_both p h nodes = sum_by-append h (filter (λ node. not (p node)) nodes) (filter p nodes) ∙ sum_by-filter_both (λ node. not (p node)) p (λ x. sym (twice (p x))) h nodes
  where
    twice : (b : Bool) → not (not b) ≡ b
    twice true = refl
    twice false = refl

-- The used blocks of those that are kept.

module _ (image : Image) where
  abbrev pub given_here : ℕ → Option shown.Loaded
  given_here node = kept_of (verdict_on (judged (store_of image) held_rule (completed_walk image)) node)

  tried_here : kept_after (store_of image) held_rule [] (tried (store_of image) (completed_walk image)) ≡ filter_map given_here (tried (store_of image) (completed_walk image))
  tried_here =
      kept_after_is (store_of image) held_rule given_here [] (tried (store_of image) (completed_walk image)) (tried-once (store_of image) (completed_walk image) (walk-once (completed_list (list_of image)))) (λ w among. refl)

  pub claims_of_kept : (claims : Claims) (said : List Loaded) → AreShown image (kept_after (store_of image) held_rule [] (tried (store_of image) (completed_walk image))) said → IsClaimsOf claims (addresses_of_all said)
      → kept image ≡ filter_map given_here (completed_walk image) → IsClaimsOf claims (flat_map words_of (kept image))
  claims_of_kept claims said are of is =
      let nodes : List ℕ = completed_walk image in
      let child : ℕ → Bool = is_child (store_of image) in
      let words : addresses_of_all said ≡ words_in given_here (tried (store_of image) nodes) = all_addresses_shown image _ said are ∙ ap (flat_map words_of) tried_here in
      let same : words_in given_here nodes ≡ flat_map words_of (kept image) = ap (flat_map words_of) (sym is) in
      record {
        claims = λ c. of.claims c ∙ ap (λ (ws : List ℕ). has_claim (claims_of_all ws) c) words ∙ owned_by given_here c (tried (store_of image) nodes) ∙ any_both child (owns given_here c) nodes
            ∙ sym (owned_by given_here c nodes) ∙ ap (λ (ws : List ℕ). has_claim (claims_of_all ws) c) same;
        once = ap repeats (words-claim image) ∙ kept-claim_once image;
        allocations = λ n. of.allocations n ∙ ap (count_by (is_in_file n)) words ∙ counted given_here n (tried (store_of image) nodes) ∙ sum_both child (lie given_here n) nodes
            ∙ sym (counted given_here n nodes) ∙ ap (count_by (is_in_file n)) same;
      }
