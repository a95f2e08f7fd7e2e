-- Nothing lies at a node any longer: its words are unlinked.
use Rattle.std.proofs.Common.{◌≡◌, ◌≢◌, ◌⊎◌, inl, inr, ℕ, List, [], ◌∷◌, ◌++◌, length, map, refl, ap, sym, ◌∙◌, subst, Bool, true, false, Option, Some, None, ⊎_elim, append_assoc, get_or-set_same, ◌<◌}
use Rattle.blk_model.proofs.Each.{some_within}
use Rattle.std.specs.Prelude.{◌||◌, ◌==◌, IfSome, IsSomeAnd, if◌then◌else◌}
use Rattle.std.specs.List.{AllByRecursion, cons_option, flat_map, sum_by}
use Rattle.std.specs.List.Sorted.{IsPermutation}
use Rattle.std.proofs.lemmas.Bool.{cases_Bool, cases_eq, eq-eqb, eqb-true, or_left, or_right}
use Rattle.std.proofs.lemmas.Grind.{flat_map-append}
use Rattle.std.proofs.lemmas.List.Sorted.{IsPermutation-append_comm, IsPermutation-append_left, IsPermutation-append_right, IsPermutation-trans}
use Rattle.spec_image.proofs.Runs.{some_inj}
use Rattle.spec_image.specs.Image.{Image, Index, byte}
use Rattle.blk_model.specs.Effects.{with_slot}
use Rattle.blk_model.specs.Items.{main}
use Rattle.blk_model.specs.State.{State, Object, IsValidState, object_at}
use Rattle.spec_format.specs.BlockFiles.{is_among, stands_in}
use Rattle.spec_format.specs.Claims.{Claim, claims_of, claims_of_all, has_claim, repeats}
use Rattle.spec_format.specs.Headers.{counting, this_id_of}
use Rattle.spec_format.proofs.Among.{is_among-append}
use Rattle.spec_format.proofs.Finished.{headers-kept}
use Rattle.spec_folder.specs.Found.{charge_of}
use Rattle.spec_folder.specs.Layout.{Layout, Represents, order, rule_of}
use Rattle.spec_folder.specs.ListView.{Distinct, put}
use Rattle.spec_folder.specs.Loads.{Loaded, all_claims}
use Rattle.spec_folder.specs.Sound.{words_of}
use Rattle.spec_folder.specs.StandsFor.{AreNumbers, IsOwner}
use Rattle.spec_folder.specs.Tidy.{doomed_nodes}
use Rattle.spec_folder.specs.View.{view_of}
use Rattle.law_folder.specs.CommandLaws.{IsPlacedAsDoomed}
use Rattle.law_folder.proofs.claims.Allocations.{join, words-claims, words-stand}
use Rattle.law_folder.proofs.claims.ByteChanges.{not_equal}
use Rattle.law_folder.proofs.states.Changing.{apart-sym, at-elsewhere, at-itself}
use Rattle.law_folder.proofs.claims.ClaimLists.{claim-append, repeats-append}
use Rattle.law_folder.proofs.commands.DoomedChanges.{gone-doomed, handles-not_shown}
use Rattle.law_folder.proofs.states.Laid.{is_among-node}
use Rattle.law_folder.proofs.lists.Lists.{Distinct-without, has_not}
use Rattle.law_folder.proofs.states.Settling.{main-listed}
use Rattle.law_state.specs.CommandStates.{with_names}
use Rattle.law_state.specs.Arranging.{IsArranged, LeavesFiles}
use Rattle.law_state.specs.GoneLaws.{GoneObjectsAreNotCounted, GoneObjectsAreUnlinked, layout_without, owner_without}
use Rattle.law_state.specs.Keeping.{AllAreSealed, AreMarkedBy, KeepsUncounted, all_loaded, all_nodes, words_in_use}
use Rattle.law_state.specs.ObjectLaws.{is_owned_by}
use Rattle.law_state.proofs.Arranging.{rearranged}
use Rattle.law_state.proofs.Dirtying.{set-else}
use Rattle.law_state.proofs.Headers.{stand-same}
use Rattle.law_state.proofs.NodeChanges.{IsAmid, amid, others-at}
use Rattle.law_state.proofs.Touched.{node-to-front, words-append, words_at}

append-none : (xs : List ℕ) → xs ++ [] ≡ xs
append-none [] = refl
append-none (x ∷ xs) = ap (λ (ys : List ℕ). x ∷ ys) (append-none xs)

-- what isn't a node's is as before
pub others-owned : (layout : Layout) (node : ℕ) (c : Claim) (n : ℕ) → owner_without layout node c ≡ Some n → ((node == n) ≡ false) × (layout.owner c ≡ Some n)
others-owned layout node c n is = go (layout.owner c) refl is where
  go : (o : Option ℕ) → layout.owner c ≡ o → (if is_owned_by node o then None else o) ≡ Some n → ((node == n) ≡ false) × (layout.owner c ≡ Some n)
  go None o e = let z : ◌≡◌ {A = Option ℕ} None (Some n) = e in absurd (cc)
  go (Some m) o e = ⊎_elim
      (λ (h : (m == node) ≡ true). let z : ◌≡◌ {A = Option ℕ} None (Some n) = rw h at e in absurd (cc))
      (λ (h : (m == node) ≡ false). let z : ◌≡◌ {A = Option ℕ} (Some m) (Some n) = rw h at e in (apart-sym n node (ap (λ (x : ℕ). x == node) (sym (some_inj z)) ∙ h), o ∙ z))
      (cases_Bool (m == node))

pub others-still : (layout : Layout) (node : ℕ) (c : Claim) (n : ℕ) → layout.owner c ≡ Some n → (node == n) ≡ false → owner_without layout node c ≡ Some n
others-still layout node c n is apart = let differs : (n == node) ≡ false = apart-sym node n apart in rw (is, differs) refl

pub nobodys : (layout : Layout) (node : ℕ) (c : Claim) → (layout.owner c ≡ None) ⊎ (layout.owner c ≡ Some node) → owner_without layout node c ≡ None
nobodys layout node c whose = ⊎_elim
    (λ (none : layout.owner c ≡ None). rw none refl)
    (λ (mine : layout.owner c ≡ Some node). let self : (node == node) ≡ true = eq-eqb node node refl in rw (mine, self) refl)
    whose

pub among-without : (prefix suffix : List ℕ) (node n : ℕ) → (node == n) ≡ false → is_among (prefix ++ node ∷ suffix) n ≡ true → is_among (prefix ++ suffix) n ≡ true
among-without [] suffix node n apart e = rw apart at e
among-without (x ∷ prefix) suffix node n apart e = ⊎_elim
    (λ (h : (x == n) ≡ true). or_left (x == n) (is_among (prefix ++ suffix) n) h)
    (λ (h : (x == n) ≡ false). or_right (x == n) (is_among (prefix ++ suffix) n) (among-without prefix suffix node n apart (rw h at e)))
    (cases_Bool (x == n))

module _ (state other : State) (layout now : Layout) (unlinked numbers : List ℕ) (node : ℕ) (was : Loaded) (from image : Image) (k : KeepsUncounted state layout unlinked from) (here : layout.at node ≡ Some was) (leaves : LeavesFiles from image)
    (prefix suffix : List ℕ) (nodes : all_nodes state layout k.numbers ≡ prefix ++ node ∷ suffix) (left : all_nodes other now numbers ≡ prefix ++ suffix) (at : now.at ≡ put layout.at node None) (owner : now.owner ≡ owner_without layout node)
    (valid : IsValidState other) (represents : Represents (view_of image) other now) (doomed : AreNumbers other now numbers) (sealed : AllAreSealed image now) (marked : AreMarkedBy (this_id_of (byte image Index)) other now) where
  once-all : Distinct (prefix ++ node ∷ suffix)
  once-all = subst Distinct nodes k.owners.once

  -- the words are the same, with those of the node in front
  old : words_at layout.at (node ∷ prefix ++ suffix) ≡ words_of was ++ words_at layout.at (prefix ++ suffix)
  old = words-append layout.at (node ∷ []) (prefix ++ suffix) ∙ ap (λ (xs : List ℕ). xs ++ words_at layout.at (prefix ++ suffix)) (ap (λ (o : Option Loaded). flat_map words_of (cons_option o [])) here ∙ append-none (words_of was))

  new : words_at now.at (all_nodes other now numbers) ≡ words_at layout.at (prefix ++ suffix)
  new = (λ i. words_at (at i) (left i)) ∙ ap (flat_map words_of) (others-at layout.at node None (prefix ++ suffix) (has_not prefix node suffix once-all))

  same-words : IsPermutation (words_in_use unlinked (all_loaded state layout k.numbers)) (words_in_use (words_of was ++ unlinked) (all_loaded other now numbers))
  same-words =
      subst (λ (ws : List ℕ). IsPermutation (unlinked ++ words_at layout.at (all_nodes state layout k.numbers)) ((words_of was ++ unlinked) ++ ws)) (sym new)
      (IsPermutation-trans (unlinked ++ words_at layout.at (all_nodes state layout k.numbers)) (unlinked ++ (words_of was ++ words_at layout.at (prefix ++ suffix))) ((words_of was ++ unlinked) ++ words_at layout.at (prefix ++ suffix))
      (IsPermutation-append_right unlinked (words_at layout.at (all_nodes state layout k.numbers)) (words_of was ++ words_at layout.at (prefix ++ suffix))
      (subst (IsPermutation (words_at layout.at (all_nodes state layout k.numbers))) old (subst (λ (ns : List ℕ). IsPermutation (words_at layout.at ns) (words_at layout.at (node ∷ prefix ++ suffix))) (sym nodes) (node-to-front layout.at prefix node suffix))))
      (subst (λ (ws : List ℕ). IsPermutation ws ((words_of was ++ unlinked) ++ words_at layout.at (prefix ++ suffix))) (append_assoc unlinked (words_of was) (words_at layout.at (prefix ++ suffix)))
      (IsPermutation-append_left (words_at layout.at (prefix ++ suffix)) (unlinked ++ words_of was) (words_of was ++ unlinked) (IsPermutation-append_comm unlinked (words_of was)))))

  -- what is used by the words that are unlinked then
  whose : (c : Claim) → has_claim (claims_of_all (words_of was ++ unlinked)) c ≡ true → (layout.owner c ≡ None) ⊎ (layout.owner c ≡ Some node)
  whose c e = by-parts (has_claim (all_claims was) c) refl (sym (ap (λ (cs : List Claim). has_claim cs c) (flat_map-append claims_of (words_of was) unlinked ∙ ap (λ (cs : List Claim). cs ++ claims_of_all unlinked) (words-claims was)) ∙ claim-append (all_claims was) (claims_of_all unlinked) c) ∙ e) where
    by-parts : (t : Bool) → has_claim (all_claims was) c ≡ t → (has_claim (all_claims was) c || has_claim (claims_of_all unlinked) c) ≡ true → (layout.owner c ≡ None) ⊎ (layout.owner c ≡ Some node)
    by-parts true is h = inr (k.represents.holds.lies.own node was c here is)
    by-parts false is h = inl (k.unlinked_words.free c (rw is at h))

  single : repeats (claims_of_all (words_of was ++ unlinked)) ≡ false
  single = ap repeats (flat_map-append claims_of (words_of was) unlinked ∙ ap (λ (cs : List Claim). cs ++ claims_of_all unlinked) (words-claims was))
      ∙ repeats-append (all_claims was) (claims_of_all unlinked) (k.represents.holds.lies.single node was here) k.unlinked_words.single
      (λ c its mine. let z : ◌≡◌ {A = Option ℕ} None (Some node) = sym (k.unlinked_words.free c mine) ∙ k.represents.holds.lies.own node was c here its in cc)

  arranged : IsArranged other now numbers (words_of was ++ unlinked) image
  arranged = record {
    valid = valid;
    represents = represents;
    owners = record {
      exact = λ c n is.
          let o = others-owned layout node c n (sym (ap (λ (f : Claim → Option ℕ). f c) owner) ∙ is) in
          let w : IsOwner state layout (doomed_nodes layout k.numbers) c n = k.owners.exact c n o.1 in
          record {
            among = ap (λ (ns : List ℕ). is_among ns n) left ∙ among-without prefix suffix node n o.0 (ap (λ (ns : List ℕ). is_among ns n) (sym nodes) ∙ w.among);
            loaded = w.loaded;
            here = ap (λ (f : ℕ → Option Loaded). f n) at ∙ at-elsewhere layout.at node None n o.0 ∙ w.here;
            claims = w.claims;
          };
      once = subst Distinct (sym left) (Distinct-without prefix node suffix once-all);
      doomed = doomed;
    };
    unlinked_words = record {
      stand = stand-same from image leaves.headers (words_of was ++ unlinked) (join (λ w. stands_in from w ≡ true) (words_of was) unlinked (words-stand from was (rule_of layout node, node, k.represents.holds.shows.each node was here)) k.unlinked_words.stand);
      free = λ c e. ap (λ (f : Claim → Option ℕ). f c) owner ∙ nobodys layout node c (whose c e);
      single = single;
    };
    sealed = sealed;
    marked = marked;
  }

  pub node-gone : KeepsUncounted other now (words_of was ++ unlinked) image
  node-gone = rearranged state other layout now unlinked (words_of was ++ unlinked) numbers from image k leaves arranged same-words

-- ---- a doomed object

pub set-none : (state : State) (number : ℕ) (o : Object) → object_at state number ≡ Some o → object_at (with_slot number None state) number ≡ None
set-none state number o here = let within : number < length state.objects = some_within state.objects number o here in rw get_or-set_same

module _ (state : State) (layout : Layout) (unlinked : List ℕ) (image : Image) (number : ℕ) (object : Object) (was : Loaded) (names : List (Option ℕ)) (k : KeepsUncounted state layout unlinked image) (at : IsPlacedAsDoomed state layout number object was) (valid : IsValidState (with_names names (with_slot number None state))) where
  abbrev node : ℕ
  node = layout.place_of_doomed number

  abbrev after : State
  after = with_names names (with_slot number None state)

  abbrev a : IsAmid k.numbers number
  a = amid k.numbers number (k.owners.doomed.all number object at.here at.dead)

  map-append : (xs ys : List ℕ) → map layout.place_of_doomed (xs ++ ys) ≡ map layout.place_of_doomed xs ++ map layout.place_of_doomed ys
  map-append [] ys = refl
  map-append (x ∷ xs) ys = ap (λ (zs : List ℕ). layout.place_of_doomed x ∷ zs) (map-append xs ys)

  nodes-are : all_nodes state layout k.numbers ≡ (order state layout ++ map layout.place_of_doomed a.prefix) ++ node ∷ map layout.place_of_doomed a.suffix
  nodes-are = ap (λ (ns : List ℕ). order state layout ++ map layout.place_of_doomed ns) a.is ∙ ap (λ (ns : List ℕ). order state layout ++ ns) (map-append a.prefix (number ∷ a.suffix)) ∙ sym (append_assoc (order state layout) (map layout.place_of_doomed a.prefix) (node ∷ map layout.place_of_doomed a.suffix))

  left-are : all_nodes after (layout_without layout node) (a.prefix ++ a.suffix) ≡ (order state layout ++ map layout.place_of_doomed a.prefix) ++ map layout.place_of_doomed a.suffix
  left-are = ap (λ (ns : List ℕ). order state layout ++ ns) (map-append a.prefix a.suffix) ∙ sym (append_assoc (order state layout) (map layout.place_of_doomed a.prefix) (map layout.place_of_doomed a.suffix))

  represents-gone : Represents (view_of image) after (layout_without layout node)
  represents-gone = handles-not_shown (view_of image) (with_slot number None state) (layout_without layout node) (gone-doomed (λ c. false) (view_of image) (view_of image) state layout k.represents number object was (owner_without layout node) at (record {
    links = record { head = refl; tail = refl; transaction = refl; checks = λ w c. refl; next = λ w c. refl; prev = λ w c. refl };
    store = record { node_fields = λ w c. refl; entry = λ w c. refl; chain_next = λ w c. refl; key_place = λ w e c x b d. refl; stored = λ s w c. refl };
    table = λ b. refl;
  }) (λ c n is apart. refl) (λ c n is apart. others-still layout node c n is apart)) names

  once-numbers : Distinct (a.prefix ++ number ∷ a.suffix)
  once-numbers = subst Distinct a.is k.owners.doomed.once

  other-number : (n : ℕ) → is_among (a.prefix ++ a.suffix) n ≡ true → n ≢ number
  other-number n there e = let z : true ≡ false = sym there ∙ ap (is_among (a.prefix ++ a.suffix)) e ∙ has_not a.prefix number a.suffix once-numbers in cc

  still-among : (n : ℕ) → is_among (a.prefix ++ a.suffix) n ≡ true → is_among k.numbers n ≡ true
  still-among n there = ap (λ (ns : List ℕ). is_among ns n) a.is ∙ is_among-append a.prefix (number ∷ a.suffix) n ∙ more (is_among a.prefix n) (number == n) (is_among a.suffix n) (sym (is_among-append a.prefix a.suffix n) ∙ there) where
    more : (p q r : Bool) → (p || r) ≡ true → (p || (q || r)) ≡ true
    more true q r e = refl
    more false true r e = refl
    more false false r e = e

  numbers-are : AreNumbers after (layout_without layout node) (a.prefix ++ a.suffix)
  numbers-are = record {
    each = each (a.prefix ++ a.suffix) (λ n there. there);
    once = Distinct-without a.prefix number a.suffix once-numbers;
    all = λ n o is dead. by-number n o is dead (cases_eq n number);
    records = λ n there. k.owners.doomed.records n (still-among n there);
  } where
    dead-at : (ns : List ℕ) → AllByRecursion (λ m. IsSomeAnd (object_at state m) (λ object. object.live ≡ false)) ns → (n : ℕ) → is_among ns n ≡ true → IsSomeAnd (object_at state n) (λ object. object.live ≡ false)
    dead-at [] all n there = absurd (let z : false ≡ true = there in cc)
    dead-at (m ∷ ns) all n there = ⊎_elim
        (λ (e : (m == n) ≡ true). subst (λ (x : ℕ). IsSomeAnd (object_at state x) (λ object. object.live ≡ false)) (eqb-true m n e) all.0)
        (λ (e : (m == n) ≡ false). dead-at ns all.1 n (rw e at there))
        (cases_Bool (m == n))

    each : (ns : List ℕ) → ((n : ℕ) → is_among ns n ≡ true → is_among (a.prefix ++ a.suffix) n ≡ true) → AllByRecursion (λ n. IsSomeAnd (object_at after n) (λ object. object.live ≡ false)) ns
    each [] sub = tt
    each (n ∷ ns) sub =
        let there : is_among (a.prefix ++ a.suffix) n ≡ true = sub n (or_left (n == n) (is_among ns n) (eq-eqb n n refl)) in (
          subst (λ (o : Option Object). IsSomeAnd o (λ object. object.live ≡ false)) (sym (set-else state number n None (other-number n there))) (dead-at k.numbers k.owners.doomed.each n (still-among n there)),
          each ns (λ m h. sub m (or_right (n == m) (is_among ns m) h)),
        )

    by-number : (n : ℕ) (o : Object) → object_at after n ≡ Some o → o.live ≡ false → (n ≡ number) ⊎ (n ≢ number) → is_among (a.prefix ++ a.suffix) n ≡ true
    by-number n o is dead (inl e) = let z : ◌≡◌ {A = Option Object} None (Some o) = sym (set-none state number object at.here) ∙ ap (object_at after) (sym e) ∙ is in absurd (cc)
    by-number n o is dead (inr e) = among-without a.prefix a.suffix number n (not_equal number n (λ h. e (sym h))) (ap (λ (ns : List ℕ). is_among ns n) (sym a.is) ∙ k.owners.doomed.all n o (sym (set-else state number n None e) ∙ is) dead)

  -- nothing else has changed
  seals : AllAreSealed image (layout_without layout node)
  seals x l is = ⊎_elim
      (λ (e : (node == x) ≡ true). let z : ◌≡◌ {A = Option Loaded} None (Some l) = sym (at-itself layout.at node None) ∙ ap (put layout.at node None) (eqb-true node x e) ∙ is in absurd (cc))
      (λ (e : (node == x) ≡ false). k.sealed x l (sym (at-elsewhere layout.at node None x e) ∙ is))
      (cases_Bool (node == x))

  marks : AreMarkedBy (this_id_of (byte image Index)) after (layout_without layout node)
  marks n z is live unsettled = by-number (cases_eq n number) where
    by-number : (n ≡ number) ⊎ (n ≢ number) → IfSome ((layout_without layout node).at (layout.place (main z.key))) (λ loaded. loaded.dirty ≡ this_id_of (byte image Index))
    by-number (inl e) = let c : ◌≡◌ {A = Option Object} None (Some z) = sym (set-none state number object at.here) ∙ ap (object_at after) (sym e) ∙ is in absurd (cc)
    by-number (inr e) =
        let was_there : object_at state n ≡ Some z = sym (set-else state number n None e) ∙ is in
        let listed : is_among (order state layout) (layout.place (main z.key)) ≡ true = is_among-node layout state.uses (main z.key) (main-listed state k.valid n z true was_there live) in
        let differs : (node == layout.place (main z.key)) ≡ false = ⊎_elim
        (λ (h : (node == layout.place (main z.key)) ≡ true). absurd (let c : true ≡ false = sym listed ∙ ap (is_among (order state layout)) (sym (eqb-true node (layout.place (main z.key)) h)) ∙ (k.represents.holds.lies.doomed_objects number object at.here at.dead).unlisted in cc))
        (λ (h : (node == layout.place (main z.key)) ≡ false). h)
        (cases_Bool (node == layout.place (main z.key))) in
        subst (λ (o : Option Loaded). IfSome o (λ loaded. loaded.dirty ≡ this_id_of (byte image Index))) (sym (at-elsewhere layout.at node None (layout.place (main z.key)) differs)) (k.session.marked n z was_there live unsettled)

  pub object-gone : KeepsUncounted after (layout_without layout node) (words_of was ++ unlinked) image
  object-gone = node-gone state after layout (layout_without layout node) unlinked (a.prefix ++ a.suffix) node was image image k at.at
      (record { headers = record { headers = λ n i small. refl; lengths = λ n. refl; files = λ file. refl }; session = record { crash = refl; id = refl }; well_formed = headers-kept image })
      (order state layout ++ map layout.place_of_doomed a.prefix) (map layout.place_of_doomed a.suffix) nodes-are left-are refl refl valid represents-gone numbers-are seals marks

pub gone-unlinked : GoneObjectsAreUnlinked
gone-unlinked state layout unlinked image number object was names k at valid = object-gone state layout unlinked image number object was names k at valid

pub gone-uncounted : GoneObjectsAreNotCounted
gone-uncounted state layout unlinked image number object was names k at valid = record {
  entries = object-gone state layout unlinked image number object was names k.entries at valid;
  counters = k.counters ∙ ap (λ (n : ℕ). counting (length state.uses) n) (ap (sum_by charge_of) (sym (others-at layout.at (layout.place_of_doomed number) None (order state layout) (k.entries.represents.holds.lies.doomed_objects number object at.here at.dead).unlisted)));
}
