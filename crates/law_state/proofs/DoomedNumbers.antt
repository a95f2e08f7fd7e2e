-- The objects of a state after one of them is doomed, and their numbers.
use Rattle.std.proofs.Common.{◌≡◌, ◌≢◌, ℕ, List, [], ◌∷◌, map, refl, ap, sym, ◌∙◌, subst, true, false, Option, Some, ⊎_elim}
use Rattle.std.specs.Prelude.{◌==◌, IsSomeAnd}
use Rattle.std.specs.List.{AllByRecursion}
use Rattle.std.proofs.lemmas.Bool.{cases_Bool, cases_eq, eq-eqb, eqb-true, or_left, or_parts, or_right}
use Rattle.blk_model.specs.Effects.{doomed, doomed_slot}
use Rattle.blk_model.specs.Items.{main}
use Rattle.blk_model.specs.State.{State, Object, IsValidState, is_named, object_at}
use Rattle.spec_format.specs.BlockFiles.{is_among}
use Rattle.spec_format.specs.Claims.{Claim}
use Rattle.spec_format.specs.Records as records
use Rattle.law_folder.specs.CommandLaws.{IsPlacedAsLive}
use Rattle.spec_folder.specs.Layout.{Layout, is_listed, order}
use Rattle.spec_folder.specs.Loads.{Loaded}
use Rattle.spec_folder.specs.Removal.{placed_doomed}
use Rattle.spec_folder.specs.StandsFor.{AreNumbers}
use Rattle.spec_folder.specs.Tidy.{doomed_nodes}
use Rattle.law_folder.proofs.states.Changing.{apart-sym, at-elsewhere, at-itself}
use Rattle.law_folder.proofs.states.Laid.{is_among-node}
use Rattle.law_folder.proofs.lists.Lists.{apart_left}
use Rattle.law_folder.proofs.states.Settling.{main-listed}
use Rattle.law_state.specs.Keeping.{AreOwners}
use Rattle.law_state.proofs.Dirtying.{set-at, set-else}

module _ (state : State) (layout : Layout) (number : ℕ) (object : Object) (l : Loaded) (numbers : List ℕ) (valid : IsValidState state) (owners : AreOwners state layout numbers) (lies : IsPlacedAsLive state layout number object l) (held : is_named state number ≡ true) where
  abbrev node : ℕ
  node = layout.place (main object.key)

  abbrev after : State
  after = doomed number state (Some object)

  abbrev rest-nodes : List ℕ
  rest-nodes = doomed_nodes layout numbers

  pub its-main : is_listed state (main object.key) ≡ true
  its-main = main-listed state valid number object true lies.here lies.live

  pub node-listed : is_among (order state layout) node ≡ true
  node-listed = is_among-node layout state.uses (main object.key) its-main

  -- its node is none of those of the doomed objects
  pub none-behind : is_among rest-nodes node ≡ false
  none-behind = ⊎_elim
      (λ (e : is_among rest-nodes node ≡ true). absurd (let z : true ≡ false = sym node-listed ∙ apart_left (order state layout) rest-nodes node owners.once e in cc))
      (λ (e : is_among rest-nodes node ≡ false). e)
      (cases_Bool (is_among rest-nodes node))

  -- the number is no doomed object's
  pub not-doomed : is_among numbers number ≡ false
  not-doomed = ⊎_elim
      (λ (e : is_among numbers number ≡ true). absurd (go numbers owners.doomed.each e))
      (λ (e : is_among numbers number ≡ false). e)
      (cases_Bool (is_among numbers number))
    where
      go : (ns : List ℕ) → AllByRecursion (λ n. IsSomeAnd (object_at state n) (λ o. o.live ≡ false)) ns → is_among ns number ≡ true → ⊥
      go [] all e = let z : false ≡ true = e in cc
      go (m ∷ ns) all e = ⊎_elim
          (λ (h : (m == number) ≡ true).
          let dead : IsSomeAnd (object_at state number) (λ o. o.live ≡ false) = subst (λ (x : ℕ). IsSomeAnd (object_at state x) (λ o. o.live ≡ false)) (eqb-true m number h) all.0 in
          let its : object.live ≡ false = subst (λ (o : Option Object). IsSomeAnd o (λ o. o.live ≡ false)) lies.here dead in
          let z : true ≡ false = sym lies.live ∙ its in cc)
          (λ (h : (m == number) ≡ false). go ns all.1 (rw h at e))
          (cases_Bool (m == number))

  -- the object
  pub slot-is : object_at after number ≡ Some (record object { live = false; parts = [] })
  unfolding doomed
  slot-is = rw held (set-at state number object (record object { live = false; parts = [] }) lies.here)

  pub slot-else : (n : ℕ) → n ≢ number → object_at after n ≡ object_at state n
  unfolding doomed
  slot-else n apart = set-else state number n (doomed_slot (is_named state number) object) apart

  module _ (at : ℕ → Option Loaded) (chains : ℕ → List ℕ) (owner : Claim → Option ℕ) where
    abbrev now : Layout
    now = placed_doomed layout number node at chains owner

    -- the nodes of the doomed objects are the old ones, and this
    pub doomed-are : (ns : List ℕ) → is_among ns number ≡ false → map now.place_of_doomed ns ≡ map layout.place_of_doomed ns
    doomed-are [] none = refl
    doomed-are (m ∷ ns) none =
        let parts = or_parts (m == number) (is_among ns number) none in
        (λ i. at-elsewhere layout.place_of_doomed number node m (apart-sym m number parts.0) i ∷ map now.place_of_doomed ns) ∙ ap (λ (xs : List ℕ). layout.place_of_doomed m ∷ xs) (doomed-are ns parts.1)

    pub numbers-are : AreNumbers after now (number ∷ numbers)
    numbers-are = record {
      each = (subst (λ (o : Option Object). IsSomeAnd o (λ o. o.live ≡ false)) (sym slot-is) refl, each numbers not-doomed owners.doomed.each);
      once = (not-doomed, owners.doomed.once);
      all = λ n o is dead. ⊎_elim
          (λ (e : n ≡ number). or_left (number == n) (is_among numbers n) (eq-eqb number n (sym e)))
          (λ (e : n ≢ number). or_right (number == n) (is_among numbers n) (owners.doomed.all n o (sym (slot-else n e) ∙ is) dead))
          (cases_eq n number);
      records = λ n there. ⊎_elim
          (λ (e : (number == n) ≡ true). subst (λ (x : ℕ). now.state (now.place_of_doomed x) ≡ records.entry_doomed) (eqb-true number n e) (ap now.state (at-itself layout.place_of_doomed number node) ∙ at-itself layout.state node records.entry_doomed))
          (λ (e : (number == n) ≡ false). ap now.state (at-elsewhere layout.place_of_doomed number node n e) ∙ at-elsewhere layout.state node records.entry_doomed (layout.place_of_doomed n) (other-place n (rw e at there)) ∙ owners.doomed.records n (rw e at there))
          (cases_Bool (number == n));
    } where
      each : (ns : List ℕ) → is_among ns number ≡ false → AllByRecursion (λ n. IsSomeAnd (object_at state n) (λ o. o.live ≡ false)) ns → AllByRecursion (λ n. IsSomeAnd (object_at after n) (λ o. o.live ≡ false)) ns
      each [] none all = tt
      each (m ∷ ns) none all =
          let parts = or_parts (m == number) (is_among ns number) none in
          (subst (λ (o : Option Object). IsSomeAnd o (λ o. o.live ≡ false)) (sym (slot-else m (λ e. let z : true ≡ false = sym (eq-eqb m number e) ∙ parts.0 in cc))) all.0, each ns parts.1 all.1)

      among-place : (ns : List ℕ) (n : ℕ) → is_among ns n ≡ true → is_among (map layout.place_of_doomed ns) (layout.place_of_doomed n) ≡ true
      among-place [] n h = absurd (let z : false ≡ true = h in cc)
      among-place (m ∷ ns) n h = ⊎_elim
          (λ (e : (m == n) ≡ true). or_left (layout.place_of_doomed m == layout.place_of_doomed n) _ (eq-eqb _ _ (ap layout.place_of_doomed (eqb-true m n e))))
          (λ (e : (m == n) ≡ false). or_right (layout.place_of_doomed m == layout.place_of_doomed n) _ (among-place ns n (rw e at h)))
          (cases_Bool (m == n))

      other-place : (n : ℕ) → is_among numbers n ≡ true → (node == layout.place_of_doomed n) ≡ false
      other-place n there = ⊎_elim
          (λ (e : (node == layout.place_of_doomed n) ≡ true).
          absurd (let z : true ≡ false = sym (among-place numbers n there) ∙ ap (is_among rest-nodes) (sym (eqb-true node (layout.place_of_doomed n) e)) ∙ none-behind in cc))
          (λ (e : (node == layout.place_of_doomed n) ≡ false). e)
          (cases_Bool (node == layout.place_of_doomed n))
