-- What lies at the node of an item or of a doomed object changes.
use Rattle.std.proofs.Common.{◌≡◌, ◌≢◌, ◌⊎◌, inl, inr, ℕ, List, [], ◌∷◌, ◌++◌, map, refl, ap, sym, ◌∙◌, subst, Bool, true, false, Option, Some, None, ⊎_elim}
use Rattle.std.specs.Prelude.{◌||◌, ◌==◌, IfSome, if◌then◌else◌}
use Rattle.std.specs.List.Sorted.{IsPermutation}
use Rattle.std.proofs.lemmas.Bool.{cases_Bool, cases_eq, eq-eqb, eqb-true, or_left, or_right}
use Rattle.std.proofs.lemmas.Grind.{flat_map-append}
use Rattle.spec_image.proofs.Runs.{some_inj}
use Rattle.spec_image.specs.Image.{Image, Index, byte}
use Rattle.blk_model.specs.Effects.{with_slot}
use Rattle.blk_model.specs.Items.{main}
use Rattle.blk_model.specs.State.{State, Object, object_at}
use Rattle.spec_format.specs.BlockFiles.{is_among, HasSoundHeaders}
use Rattle.spec_format.specs.Claims.{Claim, claims_of, claims_of_all, has_claim, repeats}
use Rattle.spec_format.specs.Headers.{this_id_of}
use Rattle.spec_format.proofs.Among.{is_among-append}
use Rattle.spec_folder.specs.Footprint.{IsFreeBut}
use Rattle.spec_folder.specs.Layout.{IsChange, IsDoomedChange, Layout, changed_at, order}
use Rattle.spec_folder.specs.ListView.{put}
use Rattle.spec_folder.specs.Loads.{Loaded, all_claims}
use Rattle.spec_folder.specs.Sound.{AreSealed, words_of}
use Rattle.spec_folder.specs.Tidy.{doomed_nodes}
use Rattle.spec_folder.specs.View.{view_of}
use Rattle.law_folder.proofs.claims.Allocations.{words-claims}
use Rattle.law_folder.proofs.claims.ByteChanges.{agreeing-views}
use Rattle.law_folder.proofs.states.Changing.{apart-sym, at-elsewhere, at-itself}
use Rattle.law_folder.proofs.claims.ClaimLists.{claim-append, repeats-append}
use Rattle.law_folder.proofs.commands.DoomedChanges.{changed-doomed, doomed-rest, handles-not_shown}
use Rattle.law_folder.proofs.states.Laid.{is_among-node, repeats-tail}
use Rattle.law_folder.proofs.states.Marking.{repeats-apart}
use Rattle.law_folder.proofs.states.Replacing.{replaced}
use Rattle.law_folder.proofs.states.Settling.{main-listed}
use Rattle.law_folder.proofs.states.Writing.{moment-rest}
use Rattle.law_state.specs.Arranging.{LeavesFiles}
use Rattle.law_state.specs.Changes.{ChangesOnly}
use Rattle.law_state.specs.Keeping.{AllAreSealed, AreMarkedBy, KeepsUncounted}
use Rattle.law_state.specs.ObjectLaws.{ChangedDoomedObjectsAreKept, ChangedItemsAreKept, DoomedObjectsFindTheSame, HandlesAreNotCounted, HandlesMayChange, UnsettledItemsFindTheSame, is_owned_by, layout_after, owner_after}
use Rattle.law_state.proofs.AtNodes.{others-outside}
use Rattle.law_state.proofs.Arranging.{claimed-alike}
use Rattle.law_state.proofs.Claimed.{once-alike}
use Rattle.law_state.proofs.Dirtying.{dead-same, set-at, set-else}
use Rattle.law_state.proofs.Free.{sealed-same, standing-at}
use Rattle.law_state.proofs.NodeChanges.{node-changed}
use Rattle.law_state.proofs.Touching.{held-kept}

-- ---- handles

pub handles-change : HandlesMayChange
handles-change state layout unlinked image names k valid = record {
  valid = valid;
  sound = k.sound;
  represents = handles-not_shown (view_of image) state layout k.represents names;
  numbers = k.numbers;
  owners = record {
    exact = λ claim node is. let o = k.owners.exact claim node is in record { among = o.among; loaded = o.loaded; here = o.here; claims = o.claims };
    once = k.owners.once;
    doomed = record { each = k.owners.doomed.each; once = k.owners.doomed.once; all = k.owners.doomed.all; records = k.owners.doomed.records };
  };
  files = k.files;
  unlinked_words = k.unlinked_words;
  sealed = k.sealed;
  session = record { crash = k.session.crash; id = k.session.id; marked = k.session.marked };
}

pub handles-uncounted : HandlesAreNotCounted
handles-uncounted state layout unlinked image names k valid = record {
  entries = handles-change state layout unlinked image names k.entries valid;
  counters = k.counters;
}

-- ---- at each word

pub unsettled-find : UnsettledItemsFindTheSame
unsettled-find touched state layout unlinked from image number object item loaded k only here has open_ at inside name =
    let well : HasSoundHeaders image = only.well_formed.sound k.sound in
    (well, held-kept image ∙ moment-rest touched (view_of from) (view_of image) state layout k.represents k.valid number object item here has open_ loaded at (agreeing-views touched from image only.agree) inside name)

pub doomed-find : DoomedObjectsFindTheSame
doomed-find touched state layout unlinked from image number object k only here dead free =
    let well : HasSoundHeaders image = only.well_formed.sound k.sound in
    (well, held-kept image ∙ doomed-rest touched (view_of from) (view_of image) state layout k.represents k.valid number object here dead (agreeing-views touched from image only.agree) free)

-- ---- owners with something else at a node

module _ (state : State) (layout : Layout) (unlinked left : List ℕ) (from : Image) (k : KeepsUncounted state layout unlinked from) (node : ℕ) (was now : Loaded) (here : layout.at node ≡ Some was) (same : IsPermutation (unlinked ++ words_of was) (left ++ words_of now)) where
  -- what is used now was used then
  claimed : (c : Claim) → (has_claim (claims_of_all unlinked) c || has_claim (all_claims was) c) ≡ (has_claim (claims_of_all left) c || has_claim (all_claims now) c)
  claimed c = sym (both unlinked was c) ∙ claimed-alike c (unlinked ++ words_of was) (left ++ words_of now) same ∙ both left now c where
    both : (ws : List ℕ) (l : Loaded) (c : Claim) → has_claim (claims_of_all (ws ++ words_of l)) c ≡ (has_claim (claims_of_all ws) c || has_claim (all_claims l) c)
    both ws l c = ap (λ (cs : List Claim). has_claim cs c) (flat_map-append claims_of ws (words_of l) ∙ ap (λ (cs : List Claim). claims_of_all ws ++ cs) (words-claims l)) ∙ claim-append (claims_of_all ws) (all_claims l) c

  once-then : repeats (claims_of_all unlinked ++ all_claims was) ≡ false
  once-then = repeats-append (claims_of_all unlinked) (all_claims was) k.unlinked_words.single (k.represents.holds.lies.single node was here)
      (λ c mine its. let z : ◌≡◌ {A = Option ℕ} None (Some node) = sym (k.unlinked_words.free c mine) ∙ k.represents.holds.lies.own node was c here its in cc)

  once-now : repeats (claims_of_all left ++ all_claims now) ≡ false
  once-now = ap repeats (sym (as-claims left now)) ∙ once-alike (unlinked ++ words_of was) (left ++ words_of now) same (ap repeats (as-claims unlinked was) ∙ once-then) where
    as-claims : (ws : List ℕ) (l : Loaded) → claims_of_all (ws ++ words_of l) ≡ claims_of_all ws ++ all_claims l
    as-claims ws l = flat_map-append claims_of ws (words_of l) ∙ ap (λ (cs : List Claim). claims_of_all ws ++ cs) (words-claims l)

  -- who owned it: none, or the node
  was-whose : (c : Claim) → (has_claim (claims_of_all left) c || has_claim (all_claims now) c) ≡ true → (layout.owner c ≡ None) ⊎ (layout.owner c ≡ Some node)
  was-whose c e = ⊎_elim
      (λ (h : has_claim (claims_of_all unlinked) c ≡ true). inl (k.unlinked_words.free c h))
      (λ (h : has_claim (claims_of_all unlinked) c ≡ false). inr (k.represents.holds.lies.own node was c here (rw h at (claimed c ∙ e))))
      (cases_Bool (has_claim (claims_of_all unlinked) c))

  pub its : (c : Claim) → has_claim (all_claims now) c ≡ true → owner_after layout node now c ≡ Some node
  its c e = rw e refl

  pub others : (c : Claim) (n : ℕ) → layout.owner c ≡ Some n → (node == n) ≡ false → owner_after layout node now c ≡ Some n
  others c n is apart =
      let unclaimed : has_claim (all_claims now) c ≡ false = ⊎_elim
      (λ (h : has_claim (all_claims now) c ≡ true). ⊎_elim
      (λ (none : layout.owner c ≡ None). let z : ◌≡◌ {A = Option ℕ} None (Some n) = sym none ∙ is in absurd (cc))
      (λ (mine : layout.owner c ≡ Some node). absurd (let z : true ≡ false = sym (eq-eqb node n (some_inj (sym mine ∙ is))) ∙ apart in cc))
      (was-whose c (or_right (has_claim (claims_of_all left) c) (has_claim (all_claims now) c) h)))
      (λ (h : has_claim (all_claims now) c ≡ false). h)
      (cases_Bool (has_claim (all_claims now) c)) in
      let differs : (n == node) ≡ false = apart-sym node n apart in
      rw (unclaimed, is, differs) refl

  pub owned : (c : Claim) (n : ℕ) → owner_after layout node now c ≡ Some n → ((n ≡ node) × (has_claim (all_claims now) c ≡ true)) ⊎ (((node == n) ≡ false) × (layout.owner c ≡ Some n))
  owned c n is = ⊎_elim
      (λ (h : has_claim (all_claims now) c ≡ true). inl (some_inj (sym (let e : owner_after layout node now c ≡ Some n = is in rw h at e)), h))
      (λ (h : has_claim (all_claims now) c ≡ false). go (layout.owner c) refl (rw h at is))
      (cases_Bool (has_claim (all_claims now) c))
    where
      go : (o : Option ℕ) → layout.owner c ≡ o → (if is_owned_by node o then None else o) ≡ Some n → ((n ≡ node) × (has_claim (all_claims now) c ≡ true)) ⊎ (((node == n) ≡ false) × (layout.owner c ≡ Some n))
      go None o e = let z : ◌≡◌ {A = Option ℕ} None (Some n) = e in absurd (cc)
      go (Some m) o e = ⊎_elim
          (λ (h : (m == node) ≡ true). let z : ◌≡◌ {A = Option ℕ} None (Some n) = rw h at e in absurd (cc))
          (λ (h : (m == node) ≡ false). let z : ◌≡◌ {A = Option ℕ} (Some m) (Some n) = rw h at e in inr (apart-sym n node (ap (λ (x : ℕ). x == node) (sym (some_inj z)) ∙ h), o ∙ z))
          (cases_Bool (m == node))

  pub free : (c : Claim) → has_claim (claims_of_all left) c ≡ true → owner_after layout node now c ≡ None
  free c e =
      let unclaimed : has_claim (all_claims now) c ≡ false = repeats-apart (claims_of_all left) (all_claims now) c once-now e in
      ⊎_elim
      (λ (none : layout.owner c ≡ None). rw (unclaimed, none) refl)
      (λ (mine : layout.owner c ≡ Some node). let self : (node == node) ≡ true = eq-eqb node node refl in rw (unclaimed, mine, self) refl)
      (was-whose c (or_left (has_claim (claims_of_all left) c) (has_claim (all_claims now) c) e))

  pub single : repeats (all_claims now) ≡ false
  single = repeats-tail (claims_of_all left) (all_claims now) once-now

-- which checksums stay
seals-after : (state : State) (layout : Layout) (unlinked : List ℕ) (from image : Image) (k : KeepsUncounted state layout unlinked from) (touched : Claim → Bool) (only : ChangesOnly touched from image) (node : ℕ) (now : Loaded) (owner : Claim → Option ℕ) → IsFreeBut node touched layout → AreSealed image now → AllAreSealed image (changed_at layout node now owner)
seals-after state layout unlinked from image k touched only node now owner apart done x other at = ⊎_elim
    (λ (e : (node == x) ≡ true).
    let is : now ≡ other = some_inj (sym (at-itself layout.at node (Some now)) ∙ ap (put layout.at node (Some now)) (eqb-true node x e) ∙ at) in
    subst (AreSealed image) is done)
    (λ (e : (node == x) ≡ false).
    let was : layout.at x ≡ Some other = sym (at-elsewhere layout.at node (Some now) x e) ∙ at in
    let clear = others-outside state layout unlinked from k node x other touched apart e was in
    sealed-same touched from image only.agree other (standing-at from state layout k.represents x other was) clear.node clear.contents (k.sealed x other was))
    (cases_Bool (node == x))

-- ---- an item

-- a dirty flag that is this number stays so where the changed record keeps its own
mark-still : (layout : Layout) (node id p : ℕ) (was now : Loaded) (owner : Claim → Option ℕ) → layout.at node ≡ Some was → now.dirty ≡ was.dirty → IfSome (layout.at p) (λ loaded. loaded.dirty ≡ id) → IfSome ((changed_at layout node now owner).at p) (λ loaded. loaded.dirty ≡ id)
mark-still layout node id p was now owner here dirty mark = ⊎_elim
    (λ (e : (node == p) ≡ true).
    let same : node ≡ p = eqb-true node p e in
    let new : put layout.at node (Some now) p ≡ Some now = ap (put layout.at node (Some now)) (sym same) ∙ at-itself layout.at node (Some now) in
    let old : layout.at p ≡ Some was = ap layout.at (sym same) ∙ here in
    subst (λ (o : Option Loaded). IfSome o (λ loaded. loaded.dirty ≡ id)) (sym new) (dirty ∙ subst (λ (o : Option Loaded). IfSome o (λ loaded. loaded.dirty ≡ id)) old mark))
    (λ (e : (node == p) ≡ false). subst (λ (o : Option Loaded). IfSome o (λ loaded. loaded.dirty ≡ id)) (sym (at-elsewhere layout.at node (Some now) p e)) mark)
    (cases_Bool (node == p))

pub changed-items-kept : ChangedItemsAreKept
changed-items-kept touched state layout unlinked left from image number object other item was now k only o listed at ch became same sealed =
    node-changed state (with_slot number (Some other) state) layout unlinked left (layout.place item) was now (owner_after layout (layout.place item) now) from image k at
    (is_among-append (order state layout) (doomed_nodes layout k.numbers) (layout.place item) ∙ or_left (is_among (order state layout) (layout.place item)) _ (is_among-node layout state.uses item listed))
    leaves same (owned state layout unlinked left from k (layout.place item) was now at same) (free state layout unlinked left from k (layout.place item) was now at same) refl (dead-same state number object other o.here o.live) o.valid
    (replaced touched (view_of from) (view_of image) state layout k.represents (with_slot number (Some other) state).objects item was now (owner_after layout (layout.place item) now) (agreeing-views touched from image only.agree) o.one listed at change became)
    (seals-after state layout unlinked from image k touched only (layout.place item) now (owner_after layout (layout.place item) now) became.apart sealed)
    (subst (λ (id : ℕ). AreMarkedBy id (with_slot number (Some other) state) (layout_after layout (layout.place item) now)) (sym leaves.session.id) marked)
  where
    leaves : LeavesFiles from image
    leaves = record { headers = only.headers; session = only.session; well_formed = only.well_formed }

    change : IsChange state (with_slot number (Some other) state).objects layout item was now (owner_after layout (layout.place item) now)
    change = record {
      key = ch.key;
      contents = ch.contents;
      row = ch.row;
      mark = ch.mark;
      parent = ch.parent;
      of = ch.of;
      own = its state layout unlinked left from k (layout.place item) was now at same;
      others = others state layout unlinked left from k (layout.place item) was now at same;
      single = single state layout unlinked left from k (layout.place item) was now at same;
    }

    marked : AreMarkedBy (this_id_of (byte from Index)) (with_slot number (Some other) state) (layout_after layout (layout.place item) now)
    marked n z is live unsettled = mark-still layout (layout.place item) (this_id_of (byte from Index)) (layout.place (main z.key)) was now (owner_after layout (layout.place item) now) at ch.dirty (by-number (cases_eq n number)) where
      by-number : (n ≡ number) ⊎ (n ≢ number) → IfSome (layout.at (layout.place (main z.key))) (λ loaded. loaded.dirty ≡ this_id_of (byte from Index))
      by-number (inl e) =
          let same_one : other ≡ z = some_inj (sym (set-at state number object other o.here) ∙ ap (object_at (with_slot number (Some other) state)) (sym e) ∙ is) in
          let was_live : object.live ≡ true = sym o.live ∙ ap (λ (x : Object). x.live) same_one ∙ live in
          let was_open : object.settled ≡ false = sym o.settled ∙ ap (λ (x : Object). x.settled) same_one ∙ unsettled in
          let key_is : object.key ≡ z.key = o.key ∙ ap (λ (x : Object). x.key) same_one in
          subst (λ (key : List ℕ). IfSome (layout.at (layout.place (main key))) (λ loaded. loaded.dirty ≡ this_id_of (byte from Index))) key_is (k.session.marked number object o.here was_live was_open)
      by-number (inr e) = k.session.marked n z (sym (set-else state number n (Some other) e) ∙ is) live unsettled

-- ---- a doomed object

pub changed-doomed-kept : ChangedDoomedObjectsAreKept
changed-doomed-kept touched state layout unlinked left from image number object other was now k only at dead row mark apart loads same sealed valid =
    node-changed state (with_slot number (Some other) state) layout unlinked left node was now (owner_after layout node now) from image k at.at
    (is_among-append (order state layout) (doomed_nodes layout k.numbers) node ∙ or_right (is_among (order state layout) node) _ (among-doomed k.numbers (k.owners.doomed.all number object at.here at.dead)))
    leaves same (owned state layout unlinked left from k node was now at.at same) (free state layout unlinked left from k node was now at.at same) refl (dead-same state number object other at.here (dead ∙ sym at.dead)) valid
    (changed-doomed touched (view_of from) (view_of image) state layout k.represents number object other was now (owner_after layout node now) at (agreeing-views touched from image only.agree) apart loads change)
    (seals-after state layout unlinked from image k touched only node now (owner_after layout node now) apart sealed)
    (subst (λ (id : ℕ). AreMarkedBy id (with_slot number (Some other) state) (layout_after layout node now)) (sym leaves.session.id) marked)
  where
    node : ℕ
    node = layout.place_of_doomed number

    leaves : LeavesFiles from image
    leaves = record { headers = only.headers; session = only.session; well_formed = only.well_formed }

    among-doomed : (ns : List ℕ) → is_among ns number ≡ true → is_among (map layout.place_of_doomed ns) (layout.place_of_doomed number) ≡ true
    among-doomed [] h = absurd (let z : false ≡ true = h in cc)
    among-doomed (m ∷ ns) h = ⊎_elim
        (λ (e : (m == number) ≡ true). or_left (layout.place_of_doomed m == layout.place_of_doomed number) _ (eq-eqb _ _ (ap layout.place_of_doomed (eqb-true m number e))))
        (λ (e : (m == number) ≡ false). or_right (layout.place_of_doomed m == layout.place_of_doomed number) _ (among-doomed ns (rw e at h)))
        (cases_Bool (m == number))

    change : IsDoomedChange layout node other now (owner_after layout node now)
    change = record {
      dead = dead;
      row = row;
      mark = mark;
      own = its state layout unlinked left from k node was now at.at same;
      others = others state layout unlinked left from k node was now at.at same;
      single = single state layout unlinked left from k node was now at.at same;
    }

    marked : AreMarkedBy (this_id_of (byte from Index)) (with_slot number (Some other) state) (layout_after layout node now)
    marked n z is live unsettled = by-number (cases_eq n number) where
      by-number : (n ≡ number) ⊎ (n ≢ number) → IfSome ((layout_after layout node now).at (layout.place (main z.key))) (λ loaded. loaded.dirty ≡ this_id_of (byte from Index))
      by-number (inl e) =
          let same_one : other ≡ z = some_inj (sym (set-at state number object other at.here) ∙ ap (object_at (with_slot number (Some other) state)) (sym e) ∙ is) in
          absurd (let c : true ≡ false = sym live ∙ ap (λ (x : Object). x.live) (sym same_one) ∙ dead in cc)
      by-number (inr e) =
          let was_there : object_at state n ≡ Some z = sym (set-else state number n (Some other) e) ∙ is in
          let listed : is_among (order state layout) (layout.place (main z.key)) ≡ true = is_among-node layout state.uses (main z.key) (main-listed state k.valid n z true was_there live) in
          let differs : (node == layout.place (main z.key)) ≡ false = ⊎_elim
          (λ (h : (node == layout.place (main z.key)) ≡ true). absurd (let c : true ≡ false = sym listed ∙ ap (is_among (order state layout)) (sym (eqb-true node (layout.place (main z.key)) h)) ∙ (k.represents.holds.lies.doomed_objects number object at.here at.dead).unlisted in cc))
          (λ (h : (node == layout.place (main z.key)) ≡ false). h)
          (cases_Bool (node == layout.place (main z.key))) in
          subst (λ (o : Option Loaded). IfSome o (λ loaded. loaded.dirty ≡ this_id_of (byte from Index))) (sym (at-elsewhere layout.at node (Some now) (layout.place (main z.key)) differs)) (k.session.marked n z was_there live unsettled)
