-- A part that is made in a folder that keeps a state.
use Rattle.std.proofs.Common.{◌≡◌, ◌≢◌, ℕ, List, [], ◌∷◌, ◌++◌, map, set, refl, ap, sym, ◌∙◌, subst, Bool, true, false, Option, Some, None, ⊎_elim, append_assoc}
use Rattle.std.specs.Prelude.{◌==◌, IfSome, if◌then◌else◌}
use Rattle.std.specs.List.{cons_option, filter_map, flat_map}
use Rattle.std.specs.List.Sorted.{IsPermutation}
use Rattle.std.proofs.lemmas.Bool.{cases_Bool, cases_eq, eq-eqb, eqb-true, or_left, or_right}
use Rattle.spec_image.proofs.Runs.{some_inj}
use Rattle.spec_image.specs.Image.{Image, Index, byte}
use Rattle.blk_model.specs.Items.{Item, main, part}
use Rattle.blk_model.specs.State.{State, Object, object_at}
use Rattle.blk_model.specs.Totals.{is_doomed_slot}
use Rattle.spec_format.specs.BlockFiles.{is_among}
use Rattle.spec_format.specs.Claims.{Claim, claims_of_all, has_claim}
use Rattle.spec_format.specs.Headers.{this_id_of}
use Rattle.spec_format.specs.Records.{entry_normal}
use Rattle.spec_format.proofs.Among.{is_among-append}
use Rattle.spec_folder.specs.Audit.{kept_among}
use Rattle.spec_folder.specs.Completion.{insert}
use Rattle.spec_folder.specs.Creation.{with_first}
use Rattle.spec_folder.specs.Found.{row_of_loaded}
use Rattle.spec_folder.specs.Layout.{Layout, Represents, is_listed, order}
use Rattle.spec_folder.specs.ListPlans.{writes_of}
use Rattle.spec_folder.specs.ListView.{Distinct, IsList, put}
use Rattle.spec_folder.specs.Loads.{Loaded, all_claims, held_rule}
use Rattle.spec_folder.specs.Sound.{AreSealed, words_of}
use Rattle.spec_folder.specs.StandsFor.{IsOwner}
use Rattle.spec_folder.specs.Tidy.{doomed_nodes}
use Rattle.spec_folder.specs.View.{list_of, store_of, view_of}
use Rattle.law_folder.proofs.claims.Allocations.{words-claims}
use Rattle.law_folder.proofs.lists.Walks.{walk_list}
use Rattle.law_folder.proofs.states.Central.{walk-idle}
use Rattle.law_folder.proofs.states.Changing.{at-elsewhere, at-itself}
use Rattle.law_folder.proofs.states.Laid.{is_among-node}
use Rattle.law_folder.proofs.states.Settling.{main-listed}
use Rattle.law_state.specs.Arranging.{IsArranged}
use Rattle.law_state.specs.Keeping.{AllAreSealed, AreMarkedBy, KeepsUncounted, all_loaded, all_nodes, words_in_use}
use Rattle.law_state.specs.NewPartLaws.{IsPartWritten, with_new_part}
use Rattle.law_state.specs.NewPartsKept.{IsPartMade, KeepsUnsettled, MakingPartsFindsTheNext, NewPartsAreKept, PartInsertsFindEither, PartValuesKeepUnsettled}
use Rattle.law_state.specs.PartStates.{with_value}
use Rattle.law_state.proofs.Arranging.{rearranged}
use Rattle.law_state.proofs.Dirtying.{set-at, set-else}
use Rattle.law_state.proofs.Headers.{stand-same}
use Rattle.law_state.proofs.NewNodes.{among-doomed, some-at, still-free, unlinked-once, unlinked-still}
use Rattle.law_state.proofs.NewParts as parts
use Rattle.law_state.proofs.NodeChanges.{is_dead, numbers-same, others-at}
use Rattle.law_state.proofs.Touched.{to-front, words-append, words_at}
use Rattle.law_state.proofs.Touching.{held-kept}
use Rattle.law_state.proofs.WordStops.{held-partly}

-- ---- at each word

pub part-inserts-find : PartInsertsFindEither
part-inserts-find state objects layout unlinked key n was seen loaded from image k written partly = (
  partly.headers.sound k.sound,
  held-partly from image (writes_of insert loaded.node (list_of from)) partly ∙ parts.parts-at-each-write (view_of from) state objects layout key n was seen loaded written (store_of image) partly.shown.store partly.made,
)

pub making-finds : MakingPartsFindsTheNext
making-finds state objects layout unlinked key n was seen loaded chains from image k written making = (
  making.sound,
  held-kept image
      ∙ ap (λ (nodes : List ℕ). map row_of_loaded (kept_among (store_of image) held_rule nodes)) (walk-idle (list_of image) making.list.idle ∙ walk_list (list_of image) (loaded.node ∷ order state layout) making.list.whole ∙ sym (parts.order-is (view_of from) state objects layout key n was seen loaded written))
      ∙ parts.parts-at-rest (view_of from) state objects layout key n was seen loaded written (store_of image) chains making.others,
)

-- ---- objects with a value for a part

pub values-keep : PartValuesKeepUnsettled
values-keep state number object n value here = record {
  dead = λ m. ⊎_elim
      (λ (e : m ≡ number). subst (λ (x : ℕ). is_doomed_slot (object_at after x) ≡ is_doomed_slot (object_at state x)) (sym e) (ap is_doomed_slot (set-at state number object other here) ∙ sym (ap is_doomed_slot here)))
      (λ (e : m ≢ number). ap is_doomed_slot (set-else state number m (Some other) e))
      (cases_eq m number);
  unsettled = λ m o is live open_. ⊎_elim
      (λ (e : m ≡ number).
      let same : other ≡ o = some_inj (sym (set-at state number object other here) ∙ ap (object_at after) (sym e) ∙ is) in
      (object, ap (object_at state) e ∙ here, ap (λ (x : Object). x.key) same, ap (λ (x : Object). x.live) same ∙ live, ap (λ (x : Object). x.settled) same ∙ open_))
      (λ (e : m ≢ number). (o, sym (set-else state number m (Some other) e) ∙ is, refl, live, open_))
      (cases_eq m number);
} where
  other : Object
  other = with_value object n value

  after : State
  after = record state { objects = set state.objects number (Some (with_value object n value)) }

-- ---- what is kept

-- something else at a node with the same words leaves the words of all
same-words-at : (at : ℕ → Option Loaded) (node : ℕ) (was now : Loaded) → at node ≡ Some was → words_of now ≡ words_of was → (nodes : List ℕ) → words_at (put at node (Some now)) nodes ≡ words_at at nodes
same-words-at at node was now here same [] = refl
same-words-at at node was now here same (n ∷ nodes) =
    words-append (put at node (Some now)) (n ∷ []) nodes
    ∙ ap (λ (ws : List ℕ). ws ++ words_at (put at node (Some now)) nodes) one
    ∙ ap (λ (ws : List ℕ). words_at at (n ∷ []) ++ ws) (same-words-at at node was now here same nodes)
    ∙ sym (words-append at (n ∷ []) nodes)
  where
    of : Option Loaded → List ℕ
    of o = flat_map words_of (cons_option o [])

    one : words_at (put at node (Some now)) (n ∷ []) ≡ words_at at (n ∷ [])
    one = ⊎_elim
        (λ (e : (node == n) ≡ true). ap of (ap (put at node (Some now)) (sym (eqb-true node n e)) ∙ at-itself at node (Some now)) ∙ ap (λ (ws : List ℕ). ws ++ []) same ∙ sym (ap of (ap at (sym (eqb-true node n e)) ∙ here)))
        (λ (e : (node == n) ≡ false). ap of (at-elsewhere at node (Some now) n e))
        (cases_Bool (node == n))

module _ (state : State) (objects : List (Option Object)) (layout : Layout) (unlinked key : List ℕ) (n : ℕ) (was seen l : Loaded) (from image : Image) (k : KeepsUncounted state layout (words_of l ++ unlinked) from) (written : IsPartWritten (view_of from) state objects layout key n was seen l)
    (same : KeepsUnsettled state objects) (made : IsPartMade state layout key n was seen l from image) where
  abbrev after : State
  after = with_first state objects (part key n)

  abbrev now : Layout
  now = with_new_part layout key n seen l

  abbrev p : ℕ
  p = layout.place (main key)

  abbrev bit_at : ℕ → Option Loaded
  bit_at = put layout.at p (Some seen)

  order_is : order after now ≡ l.node ∷ order state layout
  order_is = parts.order-is (view_of from) state objects layout key n was seen l written

  -- the node is none of the state's
  new-node : is_among (all_nodes state layout k.numbers) l.node ≡ false
  new-node = ⊎_elim
      (λ (e : is_among (all_nodes state layout k.numbers) l.node ≡ true).
      let x = some-at state layout unlinked l from k l.node e in
      let there : bit_at l.node ≡ Some x.0 = at-elsewhere layout.at p (Some seen) l.node parent-apart ∙ x.1 in
      absurd (let z : ◌≡◌ {A = Option Loaded} (Some x.0) None = sym there ∙ written.new.nobody in cc))
      (λ (e : is_among (all_nodes state layout k.numbers) l.node ≡ false). e)
      (cases_Bool (is_among (all_nodes state layout k.numbers) l.node))
    where
      parent-apart : (p == l.node) ≡ false
      parent-apart = ⊎_elim
          (λ (e : (p == l.node) ≡ true). absurd (let z : true ≡ false = sym (eq-eqb l.node p (sym (eqb-true p l.node e))) ∙ parts.apart (view_of from) state objects layout key n was seen l written in cc))
          (λ (e : (p == l.node) ≡ false). e)
          (cases_Bool (p == l.node))

  other-node : (node : ℕ) → is_among (all_nodes state layout k.numbers) node ≡ true → (l.node == node) ≡ false
  other-node node among = ⊎_elim
      (λ (e : (l.node == node) ≡ true). absurd (let z : true ≡ false = sym among ∙ ap (is_among (all_nodes state layout k.numbers)) (sym (eqb-true l.node node e)) ∙ new-node in cc))
      (λ (e : (l.node == node) ≡ false). e)
      (cases_Bool (l.node == node))

  nodes-are : all_nodes after now k.numbers ≡ l.node ∷ all_nodes state layout k.numbers
  nodes-are = ap (λ (ns : List ℕ). ns ++ doomed_nodes layout k.numbers) order_is

  words-are : words_at now.at (all_nodes after now k.numbers) ≡ words_of l ++ words_at layout.at (all_nodes state layout k.numbers)
  words-are = ap (words_at now.at) nodes-are
      ∙ ap (λ (o : Option Loaded). flat_map words_of (cons_option o (filter_map now.at (all_nodes state layout k.numbers)))) (at-itself bit_at l.node (Some l))
      ∙ ap (λ (ls : List Loaded). words_of l ++ flat_map words_of ls) (others-at bit_at l.node (Some l) (all_nodes state layout k.numbers) new-node)
      ∙ ap (λ (ws : List ℕ). words_of l ++ ws) (same-words-at layout.at p was seen written.at_parent made.words (all_nodes state layout k.numbers))

  same-words : IsPermutation (words_in_use (words_of l ++ unlinked) (all_loaded state layout k.numbers)) (words_in_use unlinked (all_loaded after now k.numbers))
  same-words = subst (λ (ws : List ℕ). IsPermutation (words_in_use (words_of l ++ unlinked) (all_loaded state layout k.numbers)) (unlinked ++ ws)) (sym words-are)
      (subst (λ (ws : List ℕ). IsPermutation ws (unlinked ++ (words_of l ++ words_at layout.at (all_nodes state layout k.numbers)))) (sym (append_assoc (words_of l) unlinked (words_at layout.at (all_nodes state layout k.numbers))))
      (to-front (words_of l) unlinked (words_at layout.at (all_nodes state layout k.numbers))))

  same-claims : all_claims seen ≡ all_claims was
  same-claims = sym (words-claims seen) ∙ ap claims_of_all made.words ∙ words-claims was

  -- what lies elsewhere, with the same used blocks
  at-old : (node : ℕ) (x : Loaded) (claim : Claim) → (l.node == node) ≡ false → layout.at node ≡ Some x → has_claim (all_claims x) claim ≡ true → (y : Loaded) × ((now.at node ≡ Some y) × (has_claim (all_claims y) claim ≡ true))
  at-old node x claim apart is has = ⊎_elim
      (λ (e : (p == node) ≡ true).
      let old : was ≡ x = some_inj (sym written.at_parent ∙ ap layout.at (eqb-true p node e) ∙ is) in
      (seen, (at-elsewhere bit_at l.node (Some l) node apart ∙ ap bit_at (sym (eqb-true p node e)) ∙ at-itself layout.at p (Some seen), ap (λ (cs : List Claim). has_claim cs claim) same-claims ∙ ap (λ (z : Loaded). has_claim (all_claims z) claim) old ∙ has)))
      (λ (e : (p == node) ≡ false). (x, (at-elsewhere bit_at l.node (Some l) node apart ∙ at-elsewhere layout.at p (Some seen) node e ∙ is, has)))
      (cases_Bool (p == node))

  exact : (claim : Claim) (node : ℕ) → now.owner claim ≡ Some node → IsOwner after now (doomed_nodes layout k.numbers) claim node
  exact claim node = go (has_claim (all_claims l) claim) refl where
    go : (t : Bool) → has_claim (all_claims l) claim ≡ t → (if t then Some l.node else layout.owner claim) ≡ Some node → IsOwner after now (doomed_nodes layout k.numbers) claim node
    go true has is =
        let mine : l.node ≡ node = some_inj is in
        record {
          among = ap (λ (ns : List ℕ). is_among ns node) nodes-are ∙ or_left (l.node == node) (is_among (all_nodes state layout k.numbers) node) (eq-eqb l.node node mine);
          loaded = l;
          here = ap now.at (sym mine) ∙ at-itself bit_at l.node (Some l);
          claims = has;
        }
    go false has is =
        let o : IsOwner state layout (doomed_nodes layout k.numbers) claim node = k.owners.exact claim node is in
        let y = at-old node o.loaded claim (other-node node o.among) o.here o.claims in
        record { among = ap (λ (ns : List ℕ). is_among ns node) nodes-are ∙ or_right (l.node == node) (is_among (all_nodes state layout k.numbers) node) o.among; loaded = y.0; here = y.1.0; claims = y.1.1 }

  represents-now : Represents (view_of image) after now
  represents-now = record {
    holds = record {
      shows = record { no_record = made.others.no_record; each = parts.each-loads (view_of from) state objects layout key n was seen l written (store_of image) made.others made.sees; chains = made.others.whole };
      lies = parts.lies-part (view_of from) state objects layout key n was seen l written;
    };
    list = subst (IsList (list_of image)) (sym order_is) made.list.whole;
    idle = made.list.idle;
  }

  sealed : AllAreSealed image now
  sealed node other at = ⊎_elim
      (λ (e : (l.node == node) ≡ true).
      let is : l ≡ other = some_inj (sym (at-itself bit_at l.node (Some l)) ∙ ap now.at (eqb-true l.node node e) ∙ at) in
      subst (AreSealed image) is made.part_sealed)
      (λ (e : (l.node == node) ≡ false).
      let there : bit_at node ≡ Some other = sym (at-elsewhere bit_at l.node (Some l) node e) ∙ at in
      ⊎_elim
      (λ (f : (p == node) ≡ true).
      let is : seen ≡ other = some_inj (sym (at-itself layout.at p (Some seen)) ∙ ap bit_at (eqb-true p node f) ∙ there) in
      subst (AreSealed image) is made.parent_sealed)
      (λ (f : (p == node) ≡ false).
      let old : layout.at node ≡ Some other = sym (at-elsewhere layout.at p (Some seen) node f) ∙ there in
      made.sealed node other old (k.sealed node other old))
      (cases_Bool (p == node)))
      (cases_Bool (l.node == node))

  -- the dirty flag of what lies at an old node is as it was
  dirty-same : (node : ℕ) → (l.node == node) ≡ false → IfSome (layout.at node) (λ loaded. loaded.dirty ≡ this_id_of (byte from Index)) → IfSome (now.at node) (λ loaded. loaded.dirty ≡ this_id_of (byte from Index))
  dirty-same node apart dirty = ⊎_elim
      (λ (e : (p == node) ≡ true).
      let here : now.at node ≡ Some seen = at-elsewhere bit_at l.node (Some l) node apart ∙ ap bit_at (sym (eqb-true p node e)) ∙ at-itself layout.at p (Some seen) in
      let before : layout.at node ≡ Some was = ap layout.at (sym (eqb-true p node e)) ∙ written.at_parent in
      let old : was.dirty ≡ this_id_of (byte from Index) = subst (λ (o : Option Loaded). IfSome o (λ loaded. loaded.dirty ≡ this_id_of (byte from Index))) before dirty in
      subst (λ (o : Option Loaded). IfSome o (λ loaded. loaded.dirty ≡ this_id_of (byte from Index))) (sym here) (written.same_dirty ∙ old))
      (λ (e : (p == node) ≡ false). subst (λ (o : Option Loaded). IfSome o (λ loaded. loaded.dirty ≡ this_id_of (byte from Index))) (sym (at-elsewhere bit_at l.node (Some l) node apart ∙ at-elsewhere layout.at p (Some seen) node e)) dirty)
      (cases_Bool (p == node))

  marked : AreMarkedBy (this_id_of (byte from Index)) after now
  marked number object is live open_ =
      let old = same.unsettled number object is live open_ in
      let listed : is_among (all_nodes state layout k.numbers) (layout.place (main object.key)) ≡ true =
      is_among-append (order state layout) (doomed_nodes layout k.numbers) (layout.place (main object.key)) ∙ or_left (is_among (order state layout) (layout.place (main object.key))) _ (is_among-node layout state.uses (main object.key)
      (subst (λ (key : List ℕ). is_among-listed (main key)) old.2 (main-listed state k.valid number old.0 true old.1 old.3))) in
      dirty-same (layout.place (main object.key)) (other-node (layout.place (main object.key)) listed)
      (subst (λ (key : List ℕ). IfSome (layout.at (layout.place (main key))) (λ loaded. loaded.dirty ≡ this_id_of (byte from Index))) old.2 (k.session.marked number old.0 old.1 old.3 old.4))
    where
      is_among-listed : Item → Type 0
      is_among-listed item = is_listed state item ≡ true

  arranged : IsArranged after now k.numbers unlinked image
  arranged = record {
    valid = written.valid_after;
    represents = represents-now;
    owners = record {
      exact = exact;
      once = subst Distinct (sym nodes-are) (new-node, k.owners.once);
      doomed = numbers-same state after layout now k.numbers (λ number. same-slots (object_at after number) (object_at state number) (same.dead number)) kinds k.owners.doomed;
    };
    unlinked_words = record { stand = stand-same from image made.leaves.headers unlinked (unlinked-still state layout unlinked l from k); free = still-free state layout unlinked l from k; single = unlinked-once state layout unlinked l from k };
    sealed = sealed;
    marked = subst (λ (id : ℕ). AreMarkedBy id after now) (sym made.leaves.session.id) marked;
  } where
    is-dead : (q : Option Object) → is_dead q ≡ is_doomed_slot q
    is-dead None = refl
    is-dead (Some q) = refl

    same-slots : (q r : Option Object) → is_doomed_slot q ≡ is_doomed_slot r → is_dead q ≡ is_dead r
    same-slots q r e = is-dead q ∙ e ∙ sym (is-dead r)

    kinds : (number : ℕ) → is_among k.numbers number ≡ true → now.state (now.place_of_doomed number) ≡ layout.state (layout.place_of_doomed number)
    kinds number among = at-elsewhere layout.state l.node entry_normal (layout.place_of_doomed number) (other-node (layout.place_of_doomed number)
        (is_among-append (order state layout) (doomed_nodes layout k.numbers) (layout.place_of_doomed number) ∙ or_right (is_among (order state layout) (layout.place_of_doomed number)) _ (among-doomed state layout unlinked l from k k.numbers number among)))

  pub part-kept : KeepsUncounted after now unlinked image
  part-kept = rearranged state after layout now (words_of l ++ unlinked) unlinked k.numbers from image k made.leaves arranged same-words

pub parts-kept : NewPartsAreKept
parts-kept state objects layout unlinked key n was seen loaded from image k written same made = part-kept state objects layout unlinked key n was seen loaded from image k written same made
