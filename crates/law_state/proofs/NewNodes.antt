-- A node that is to come into the list, whose words are unlinked: the others' nodes, and the words that stay unlinked.
use Rattle.std.proofs.Common.{◌≡◌, ℕ, List, [], ◌∷◌, ◌++◌, map, refl, ap, sym, ◌∙◌, true, false, Bool, Option, Some, None, ⊎_elim}
use Rattle.std.specs.Prelude.{◌==◌, IsSomeAnd, if◌then◌else◌}
use Rattle.std.specs.List.{AllByRecursion}
use Rattle.std.proofs.lemmas.Bool.{cases_Bool, eq-eqb, eqb-true, or_left, or_right}
use Rattle.std.proofs.lemmas.Grind.{flat_map-append}
use Rattle.spec_image.specs.Image.{Image}
use Rattle.blk_model.specs.State.{State, Object, object_at}
use Rattle.spec_format.specs.BlockFiles.{is_among, stands_in}
use Rattle.spec_format.specs.Claims.{Claim, claims_of, claims_of_all, has_claim, repeats}
use Rattle.spec_format.proofs.Among.{is_among-append}
use Rattle.spec_folder.specs.Layout.{Layout, order}
use Rattle.spec_folder.specs.Loads.{Loaded, all_claims}
use Rattle.spec_folder.specs.Sound.{words_of}
use Rattle.spec_folder.specs.Tidy.{doomed_nodes}
use Rattle.law_folder.proofs.claims.Allocations.{words-claims}
use Rattle.law_folder.proofs.claims.ClaimLists.{claim-append}
use Rattle.law_folder.proofs.states.Laid.{IsNodeOf, node-of, repeats-tail}
use Rattle.law_folder.proofs.states.Marking.{repeats-apart}
use Rattle.law_state.specs.Keeping.{KeepsUncounted, all_nodes}

module _ (state : State) (layout : Layout) (unlinked : List ℕ) (l : Loaded) (from : Image) (k : KeepsUncounted state layout (words_of l ++ unlinked) from) where
  -- the nodes of the state have something at them
  pub some-at : (node : ℕ) → is_among (all_nodes state layout k.numbers) node ≡ true → (x : Loaded) × (layout.at node ≡ Some x)
  some-at node e = ⊎_elim
      (λ (here : is_among (order state layout) node ≡ true). let a : IsNodeOf layout state.uses node = node-of layout state.uses node here in let laid = k.represents.holds.lies.laid a.item a.among in (laid.loaded, ap layout.at (sym a.is) ∙ laid.here))
      (λ (none : is_among (order state layout) node ≡ false). of-doomed k.numbers k.owners.doomed.each (rw none at (sym (is_among-append (order state layout) (doomed_nodes layout k.numbers) node) ∙ e)))
      (cases_Bool (is_among (order state layout) node))
    where
      of-object : (number : ℕ) (o : Option Object) → object_at state number ≡ o → IsSomeAnd o (λ object. object.live ≡ false) → (x : Loaded) × (layout.at (layout.place_of_doomed number) ≡ Some x)
      of-object number None is dead = absurd dead
      of-object number (Some object) is dead = let d = k.represents.holds.lies.doomed_objects number object is dead in (d.loaded, d.here)

      of-doomed : (ns : List ℕ) → AllByRecursion (λ number. IsSomeAnd (object_at state number) (λ object. object.live ≡ false)) ns → is_among (map layout.place_of_doomed ns) node ≡ true → (x : Loaded) × (layout.at node ≡ Some x)
      of-doomed [] each h = absurd (let z : false ≡ true = h in cc)
      of-doomed (m ∷ ns) each h = ⊎_elim
          (λ (t : (layout.place_of_doomed m == node) ≡ true). let at = of-object m (object_at state m) refl each.0 in (at.0, ap layout.at (sym (eqb-true (layout.place_of_doomed m) node t)) ∙ at.1))
          (λ (t : (layout.place_of_doomed m == node) ≡ false). of-doomed ns each.1 (rw t at h))
          (cases_Bool (layout.place_of_doomed m == node))

  pub among-doomed : (ns : List ℕ) (number : ℕ) → is_among ns number ≡ true → is_among (map layout.place_of_doomed ns) (layout.place_of_doomed number) ≡ true
  among-doomed [] number h = absurd (let z : false ≡ true = h in cc)
  among-doomed (m ∷ ns) number h = ⊎_elim
      (λ (e : (m == number) ≡ true). or_left (layout.place_of_doomed m == layout.place_of_doomed number) _ (eq-eqb _ _ (ap layout.place_of_doomed (eqb-true m number e))))
      (λ (e : (m == number) ≡ false). or_right (layout.place_of_doomed m == layout.place_of_doomed number) _ (among-doomed ns number (rw e at h)))
      (cases_Bool (m == number))

  -- what is unlinked still has no owner
  pub still-free : (claim : Claim) → has_claim (claims_of_all unlinked) claim ≡ true → (if has_claim (all_claims l) claim then Some l.node else layout.owner claim) ≡ None
  still-free claim e = go (has_claim (all_claims l) claim) refl where
    go : (t : Bool) → has_claim (all_claims l) claim ≡ t → (if t then Some l.node else layout.owner claim) ≡ None
    go true has = absurd (let z : true ≡ false = sym e ∙ repeats-apart (claims_of_all (words_of l)) (claims_of_all unlinked) claim (ap repeats (sym (flat_map-append claims_of (words_of l) unlinked)) ∙ k.unlinked_words.single) (ap (λ (cs : List Claim). has_claim cs claim) (words-claims l) ∙ has) in cc)
    go false has = k.unlinked_words.free claim (ap (λ (cs : List Claim). has_claim cs claim) (flat_map-append claims_of (words_of l) unlinked) ∙ claim-append (claims_of_all (words_of l)) (claims_of_all unlinked) claim ∙ or_right (has_claim (claims_of_all (words_of l)) claim) (has_claim (claims_of_all unlinked) claim) e)

  pub unlinked-still : AllByRecursion (λ w. stands_in from w ≡ true) unlinked
  unlinked-still = go (words_of l) unlinked k.unlinked_words.stand where
    go : (xs ys : List ℕ) → AllByRecursion (λ w. stands_in from w ≡ true) (xs ++ ys) → AllByRecursion (λ w. stands_in from w ≡ true) ys
    go [] ys all = all
    go (x ∷ xs) ys all = go xs ys all.1

  pub unlinked-once : repeats (claims_of_all unlinked) ≡ false
  unlinked-once = repeats-tail (claims_of_all (words_of l)) (claims_of_all unlinked) (ap repeats (sym (flat_map-append claims_of (words_of l) unlinked)) ∙ k.unlinked_words.single)
