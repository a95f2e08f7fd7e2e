-- An object that a handle names is removed part after part, and is doomed.
use Rattle.std.proofs.Common.{◌≡◌, ℕ, List, [], ◌∷◌, ◌++◌, refl, ap, sym, ◌∙◌, subst, true, false, Option, Some, None, ⊎_elim, append_assoc}
use Rattle.std.specs.Prelude.{filter}
use Rattle.std.specs.List.{AllByRecursion}
use Rattle.std.specs.List.Sorted.{IsPermutation}
use Rattle.std.proofs.lemmas.Bool.{cases_Bool, or_right}
use Rattle.std.proofs.lemmas.Grind.{flat_map-append}
use Rattle.std.proofs.lemmas.List.Sorted.{IsPermutation-append_right, IsPermutation-trans}
use Rattle.spec_image.proofs.Runs.{some_inj}
use Rattle.spec_image.specs.Image.{Image, Index, byte}
use Rattle.blk_model.proofs.Doomed.{state_doomed}
use Rattle.blk_model.specs.Effects.{doomed}
use Rattle.blk_model.specs.Items.{main}
use Rattle.blk_model.specs.State.{State, Object}
use Rattle.spec_format.specs.BlockFiles.{is_among, stands_in}
use Rattle.spec_format.specs.Claims.{Claim, claims_of, claims_of_all, has_claim, repeats}
use Rattle.spec_format.specs.Headers.{this_id_of}
use Rattle.spec_folder.specs.Layout.{Layout, nodes_of}
use Rattle.spec_folder.specs.Loads.{Loaded, all_claims}
use Rattle.spec_folder.specs.Removal.{is_of_another}
use Rattle.spec_folder.specs.Sound.{AreSealed, words_of}
use Rattle.spec_folder.specs.StandsFor.{IsOwner}
use Rattle.spec_folder.specs.Tidy.{doomed_nodes}
use Rattle.law_folder.proofs.claims.Allocations.{words-claims}
use Rattle.law_folder.proofs.claims.ClaimLists.{claim-append}
use Rattle.law_folder.proofs.states.Laid.{repeats-tail}
use Rattle.law_folder.proofs.states.Marking.{repeats-apart}
use Rattle.law_state.specs.Arranging.{IsArranged}
use Rattle.law_state.specs.GroupLaws.{at_without, gone_nodes, owners_without}
use Rattle.law_state.specs.HeldPartlyOut.{HeldOutDoomsEnd, HeldOutObjectsAreDoomed, IsHeldOut}
use Rattle.law_state.specs.Keeping.{AllAreSealed, KeepsUncounted, all_nodes}
use Rattle.law_state.specs.WholeRemovals.{is_no_part_of, layout_doomed_whole, part_nodes}
use Rattle.law_state.proofs.Arranging.{rearranged-files}
use Rattle.law_state.proofs.CommandEnding.{dooms-end}
use Rattle.law_state.proofs.DoomedPlaces as places
use Rattle.law_state.proofs.Groups as groups
use Rattle.law_state.proofs.Touched.{to-front, words_at}

behind-of : (P : ℕ → Type 0) (xs ys : List ℕ) → AllByRecursion P (xs ++ ys) → AllByRecursion P ys
behind-of P [] ys all = all
behind-of P (x ∷ xs) ys all = behind-of P xs ys all.1

module _ (state : State) (layout : Layout) (number : ℕ) (object : Object) (l : Loaded) (chains : ℕ → List ℕ) (unlinked : List ℕ) (image : Image) (h : IsHeldOut state layout number object l chains unlinked image) where
  abbrev key : List ℕ
  key = object.key

  abbrev numbers : List ℕ
  numbers = h.keeps.numbers

  abbrev parts : List ℕ
  parts = part_nodes state layout key

  abbrev gone : List ℕ
  gone = gone_nodes state layout (is_of_another key)

  abbrev at : ℕ → Option Loaded
  at = at_without layout parts

  abbrev after : State
  after = doomed number state (Some object)

  abbrev now : Layout
  now = layout_doomed_whole state layout number key chains

  -- of what is out its node alone has something
  only-its : (n : ℕ) (x : Loaded) → is_among parts n ≡ false → layout.at n ≡ Some x → is_among gone n ≡ true → l ≡ x
  only-its n x stays is out =
      let there : at n ≡ Some x = groups.still-there state layout (is_no_part_of key) numbers h.keeps.lies h.keeps.owners n x stays is in
      let its : layout.place (main key) ≡ n = places.only-main state layout number object l chains numbers h.keeps.valid h.keeps.lies h.keeps.owners h.placed h.named n x there out in
      some_inj (sym h.placed.at ∙ ap layout.at its ∙ is)

  apart : repeats (claims_of_all (words_of l) ++ claims_of_all unlinked) ≡ false
  apart = ap repeats (sym (flat_map-append claims_of (words_of l) unlinked)) ∙ h.keeps.single

  -- what the unlinked words name has no owner
  free : (c : Claim) → has_claim (claims_of_all unlinked) c ≡ true → owners_without layout parts c ≡ None
  free c has = go (layout.owner c) refl where
    go : (q : Option ℕ) → layout.owner c ≡ q → owners_without layout parts c ≡ None
    go None e = rw e refl
    go (Some n) e = ⊎_elim
        (λ (p : is_among parts n ≡ true). rw (e, p) refl)
        (λ (p : is_among parts n ≡ false). ⊎_elim
        (λ (g : is_among gone n ≡ true).
        let o : IsOwner state layout (doomed_nodes layout numbers) c n = h.keeps.owners.exact c n e in
        let same : l ≡ o.loaded = only-its n o.loaded p o.here g in
        let own : has_claim (claims_of_all (words_of l)) c ≡ true = ap (λ (cs : List Claim). has_claim cs c) (words-claims l ∙ ap all_claims same) ∙ o.claims in
        absurd (let z : true ≡ false = sym has ∙ repeats-apart (claims_of_all (words_of l)) (claims_of_all unlinked) c apart own in cc))
        (λ (g : is_among gone n ≡ false).
        let both : has_claim (claims_of_all (words_of l ++ unlinked)) c ≡ true = ap (λ (cs : List Claim). has_claim cs c) (flat_map-append claims_of (words_of l) unlinked) ∙ claim-append (claims_of_all (words_of l)) (claims_of_all unlinked) c ∙ or_right (has_claim (claims_of_all (words_of l)) c) (has_claim (claims_of_all unlinked) c) has in
        absurd (let z : ◌≡◌ {A = Option ℕ} (Some n) None = sym (groups.still-owned state layout (is_of_another key) numbers h.keeps.lies h.keeps.owners c n e g) ∙ h.keeps.free c both in cc))
        (cases_Bool (is_among gone n)))
        (cases_Bool (is_among parts n))

  sealed : AllAreSealed image now
  sealed n x is =
      let p = groups.not-gone state layout (is_no_part_of key) numbers h.keeps.lies h.keeps.owners n x is in
      ⊎_elim
      (λ (g : is_among gone n ≡ true). subst (AreSealed image) (only-its n x p.0 p.1 g) h.sealed)
      (λ (g : is_among gone n ≡ false). h.keeps.sealed n x p.1 g)
      (cases_Bool (is_among gone n))

  arranged : IsArranged after now (number ∷ numbers) unlinked image
  arranged = record {
    valid = state_doomed state h.keeps.valid number object h.placed.here h.placed.live;
    represents = places.represents-now state layout number object l chains numbers h.keeps.valid h.keeps.lies h.keeps.owners h.placed h.named image h.keeps.list h.keeps.holds h.loads h.keeps.chained h.keeps.out;
    owners = places.owners-now state layout number object l chains numbers h.keeps.valid h.keeps.lies h.keeps.owners h.placed h.named;
    unlinked_words = record {
      stand = behind-of (λ w. stands_in image w ≡ true) (words_of l) unlinked h.keeps.stand;
      free = free;
      single = repeats-tail (claims_of_all (words_of l)) (claims_of_all unlinked) apart;
    };
    sealed = sealed;
    marked = places.marked-now state layout number object l chains numbers h.keeps.valid h.keeps.lies h.keeps.owners h.placed h.named (this_id_of (byte image Index)) h.keeps.session.marked;
  }

  -- the words in use are the same
  abbrev others : List ℕ
  others = words_at layout.at (nodes_of layout (filter (is_of_another key) state.uses) ++ doomed_nodes layout numbers)

  same-words : IsPermutation ((words_of l ++ unlinked) ++ others) (unlinked ++ words_at at (all_nodes after now (number ∷ numbers)))
  same-words = subst (λ (ws : List ℕ). IsPermutation ws (unlinked ++ words_at at (all_nodes after now (number ∷ numbers)))) (sym (append_assoc (words_of l) unlinked others))
      (IsPermutation-trans (words_of l ++ (unlinked ++ others)) (unlinked ++ (words_of l ++ others)) (unlinked ++ words_at at (all_nodes after now (number ∷ numbers)))
      (to-front (words_of l) unlinked others)
      (IsPermutation-append_right unlinked (words_of l ++ others) (words_at at (all_nodes after now (number ∷ numbers)))
      (places.words-now state layout number object l chains numbers h.keeps.valid h.keeps.lies h.keeps.owners h.placed h.named)))

  pub held-out-doomed : KeepsUncounted after now unlinked image
  held-out-doomed = record {
    valid = arranged.valid;
    sound = h.keeps.sound;
    represents = arranged.represents;
    numbers = number ∷ numbers;
    owners = arranged.owners;
    files = rearranged-files after now (number ∷ numbers) unlinked image arranged ((words_of l ++ unlinked) ++ others) h.keeps.files same-words;
    unlinked_words = arranged.unlinked_words;
    sealed = sealed;
    session = record { crash = h.keeps.session.crash; id = h.keeps.session.id; marked = arranged.marked };
  }

pub held-out-objects-doomed : HeldOutObjectsAreDoomed
held-out-objects-doomed state layout number object loaded chains unlinked image h = held-out-doomed state layout number object loaded chains unlinked image h

pub held-out-dooms-end : HeldOutDoomsEnd
held-out-dooms-end state moment request layout number object loaded chains unlinked image passes is h =
    subst (λ (m : State). KeepsUncounted m (layout_doomed_whole state layout number object.key chains) unlinked image) (sym (dooms-end state moment request number object passes is h.placed.here))
    (held-out-objects-doomed state layout number object loaded chains unlinked image h)
