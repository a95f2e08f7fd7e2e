-- The dirty flag of an object, at each word and in the end.
use Rattle.std.proofs.Common.{◌≡◌, ◌≢◌, ◌⊎◌, inl, inr, ℕ, ◌<◌, List, [], ◌∷◌, ◌++◌, length, refl, ap, sym, ◌∙◌, subst, Bool, true, false, Option, Some, None, ⊎_elim}
use Rattle.std.specs.Prelude.{◌==◌, ◌&&◌, not, IfSome}
use Rattle.std.specs.List.{filter_map, sum_by, cons_option}
use Rattle.std.proofs.lemmas.Bool.{cases_Bool, cases_eq, eqb-true, or_left}
use Rattle.std.proofs.lemmas.List.Sorted.{IsPermutation-refl}
use Rattle.spec_image.proofs.Runs.{some_inj}
use Rattle.spec_image.specs.Image.{Image, Index, byte}
use Rattle.blk_model.specs.Items.{main}
use Rattle.blk_model.specs.State.{State, Object, IsValidState, object_at}
use Rattle.blk_model.specs.Holding.{owner, rest}
use Rattle.spec_format.specs.Address.{kind_of, rankings}
use Rattle.spec_format.specs.BlockFiles.{is_among, stands_in, HasSoundHeaders}
use Rattle.spec_format.specs.Claims.{Claim, claims_of, has_claim}
use Rattle.spec_format.specs.Headers.{counting, this_id_of}
use Rattle.spec_format.specs.Records.{Entry, entry_is_sealed}
use Rattle.spec_format.proofs.Among.{is_among-append}
use Rattle.law_folder.specs.CommandLaws.{IsPlacedAsLive, dirtied, marked}
use Rattle.spec_folder.specs.Footprint.{SameNodeLinks}
use Rattle.spec_folder.specs.Found.{charge_of}
use Rattle.spec_folder.specs.Layout.{Layout, Represents, order}
use Rattle.spec_folder.specs.ListSteps.{IsSealed}
use Rattle.spec_folder.specs.ListView.{ListView, put}
use Rattle.spec_folder.specs.Loads.{Loaded, all_claims, record_claims}
use Rattle.spec_folder.specs.ShownChanges.{ShowsTheSame}
use Rattle.spec_folder.specs.Sound.{AreSealed, words_of}
use Rattle.spec_folder.specs.Tidy.{doomed_nodes}
use Rattle.spec_folder.specs.View.{NodeFields, list_of, node_at, node_fields_at, stands_as, store_of, view_of}
use Rattle.law_folder.proofs.claims.ByteChanges.{entry-same}
use Rattle.law_folder.proofs.states.Changing.{at-elsewhere, at-itself, same-place}
use Rattle.law_folder.proofs.states.Laid.{is_among-node}
use Rattle.law_folder.proofs.states.Settling.{main-listed, main-owned}
use Rattle.blk_model.proofs.Each.{some_within}
use Rattle.blk_model.specs.Effects.{with_slot}
use Rattle.std.proofs.Common.{get_or-set_same, get_or-set_other, ◌+◌}
use Rattle.std.proofs.lemmas.List.Sums.{sum_by-cons}
use Rattle.law_folder.proofs.states.DirtyWords.{written-settles}
use Rattle.law_folder.proofs.states.Standing.{held-at_rest}
use Rattle.law_folder.proofs.commands.Touches.{same-represents}
use Rattle.law_state.specs.Arranging.{LeavesFiles}
use Rattle.law_state.specs.Changes.{ChangesOnly, Finds}
use Rattle.law_state.specs.Keeping.{AllAreSealed, AreMarkedBy, KeepsUncounted}
use Rattle.law_state.specs.RecordLaws.{IsMarking, MarkingFindsEither, MarkingKeepsTheState, MarkingKeepsTheCounters}
use Rattle.law_state.proofs.AtNodes.{contents-apart, free-but, its-own, node-of-it, others-outside, updates-change, updates-leave}
use Rattle.law_state.proofs.Free.{AreStanding, sealed-same, standing-at}
use Rattle.law_state.proofs.NodeChanges.{is_dead, node-changed}

-- ---- at a node, whoever's it is

module _ (state : State) (layout : Layout) (unlinked : List ℕ) (from image : Image) (k : KeepsUncounted state layout unlinked from) (node mark : ℕ) (l : Loaded) (here : layout.at node ≡ Some l) (m : IsMarking from node mark image) where
  standing : AreStanding from l
  standing = standing-at from state layout k.represents node l here

  node-stands : stands_as from rankings node ≡ true
  node-stands = subst (λ (x : ℕ). stands_as from rankings x ≡ true) (node-of-it state layout unlinked from k node l here) standing.node

  -- what the node says
  pub says : (fields : NodeFields) (x : ℕ) → (node_at image node).dirty ≡ x → node_fields_at from node ≡ Some fields → node_fields_at image node ≡ Some (record fields { dirty = x })
  unfolding node_fields_at
  says fields x is e =
      let there : stands_as image rankings node ≡ true = ap (λ (t : Bool). t && (kind_of node == rankings)) (m.inside.stands node) ∙ node-stands in
      let was : ◌≡◌ {A = Option NodeFields} (Some (record { contents = (node_at from node).contents; dirty = (node_at from node).dirty })) (Some fields) = rw node-stands at e in
      let same : (let z : NodeFields = record { contents = (node_at from node).contents; dirty = (node_at from node).dirty } in z) ≡ fields = some_inj was in
      let contents : (node_at image node).contents ≡ fields.contents = m.contents ∙ ap (λ (z : NodeFields). z.contents) same in
      rw there (λ i. let z : NodeFields = record { contents = contents i; dirty = is i } in Some z)

  -- the change of it is one of the node's blocks
  pub only-node : ChangesOnly (has_claim (claims_of node)) from image
  only-node = updates-change from image node (stands node-stands) (inl (kind node-stands)) m.outside where
    stands : stands_as from rankings node ≡ true → stands_in from node ≡ true
    stands e = (and-both (stands_in from node) (kind_of node == rankings) e).0 where
      and-both : (a b : Bool) → (a && b) ≡ true → (a ≡ true) × (b ≡ true)
      and-both true true e = (refl, refl)
      and-both true false e = absurd (let z : false ≡ true = e in cc)
      and-both false b e = absurd (let z : false ≡ true = e in cc)

    kind : stands_as from rankings node ≡ true → kind_of node ≡ rankings
    kind e = eqb-true (kind_of node) rankings (second (stands_in from node) (kind_of node == rankings) e) where
      second : (a b : Bool) → (a && b) ≡ true → b ≡ true
      second true b e = e
      second false b e = absurd (let z : false ≡ true = e in cc)

  -- nodes and records have their checksums where the node has its own
  pub seals : IsSealed image node → AllAreSealed image (dirtied layout node l mark)
  seals done x other at = ⊎_elim
      (λ (e : (node == x) ≡ true).
      let same : node ≡ x = eqb-true node x e in
      let is : (let z : Loaded = record l { dirty = mark } in z) ≡ other = some_inj (sym (at-itself layout.at node (Some (record l { dirty = mark }))) ∙ ap (put layout.at node (Some (record l { dirty = mark }))) same ∙ at) in
      subst (AreSealed image) is (record {
        node = subst (λ (y : ℕ). IsSealed image y) (sym (node-of-it state layout unlinked from k node l here)) done;
        entry = ap (λ (t : Entry). entry_is_sealed t) (entry-same (has_claim (claims_of node)) from image only-node.agree l.contents standing.record_ (contents-apart state layout unlinked from k node l here)) ∙ (k.sealed node l here).entry;
      }))
      (λ (e : (node == x) ≡ false).
      let was : layout.at x ≡ Some other = sym (at-elsewhere layout.at node (Some (record l { dirty = mark })) x e) ∙ at in
      let clear = others-outside state layout unlinked from k node x other (has_claim (claims_of node)) (free-but state layout unlinked from k node l here (has_claim (claims_of node)) (its-own state layout unlinked from k node l here)) e was in
      sealed-same (has_claim (claims_of node)) from image only-node.agree other (standing-at from state layout k.represents x other was) clear.node clear.contents (k.sealed x other was))
      (cases_Bool (node == x))

  -- where the word is the old one all is shown as before
  fields-there : node_fields_at from node ≡ Some (record { contents = (node_at from node).contents; dirty = (node_at from node).dirty })
  unfolding node_fields_at
  fields-there = rw node-stands refl

  fields-same : (node_at image node).dirty ≡ (node_at from node).dirty → (u : ℕ) → node_fields_at from u ≡ node_fields_at image u
  unfolding store_of
  fields-same e u = ⊎_elim
      (λ (is : u ≡ node). subst (λ (x : ℕ). node_fields_at from x ≡ node_fields_at image x) (sym is) (fields-there ∙ sym (says _ _ e fields-there)))
      (λ (apart : u ≢ node). m.only.node_fields u apart)
      (cases_eq u node)

  shows : (node_at image node).dirty ≡ (node_at from node).dirty → ShowsTheSame (store_of from) (store_of image)
  unfolding store_of
  shows e = record {
    store = record {
      node_fields = λ w c. fields-same e w;
      entry = m.only.rest.store.entry;
      chain_next = m.only.rest.store.chain_next;
      key_place = m.only.rest.store.key_place;
      stored = m.only.rest.store.stored;
    };
    table = m.only.rest.table;
  }

  still-represents : (node_at image node).dirty ≡ (node_at from node).dirty → Represents (view_of image) state layout
  still-represents e = subst (λ (ls : ListView). Represents (record { list = ls; store = store_of image }) state layout) (sym m.only.list) (same-represents (view_of from) state layout k.represents (store_of image) (shows e))

  pub well : HasSoundHeaders image
  well = m.inside.headers.sound k.sound

  pub finds-as-before : (node_at image node).dirty ≡ (node_at from node).dirty → Finds (rest state) image
  finds-as-before e = (well, held-at_rest image state layout (still-represents e) k.valid)

  pub links : SameNodeLinks node (list_of from) (list_of image)
  links = record { checks = ap (λ (ls : ListView). ls.checks node) (sym m.only.list); next = ap (λ (ls : ListView). ls.next node) (sym m.only.list); prev = ap (λ (ls : ListView). ls.prev node) (sym m.only.list) }

  pub fields-now : (node_at image node).dirty ≡ mark → (fields : NodeFields) → (store_of from).node_fields node ≡ Some fields → (store_of image).node_fields node ≡ Some (record fields { dirty = mark })
  unfolding store_of
  fields-now is fields e = says fields mark is e

  pub leaves : LeavesFiles from image
  leaves = record { headers = only-node.headers; session = only-node.session; well_formed = only-node.well_formed }

  -- what it uses is as before
  pub still-owned : (claim : Claim) (n : ℕ) → layout.owner claim ≡ Some n → ((n ≡ node) × (has_claim (all_claims (record l { dirty = mark })) claim ≡ true)) ⊎ (((node == n) ≡ false) × (layout.owner claim ≡ Some n))
  unfolding all_claims record_claims
  still-owned claim n is = ⊎_elim
      (λ (e : (node == n) ≡ true).
      let same : n ≡ node = sym (eqb-true node n e) in
      let o = k.owners.exact claim n is in
      let its : o.loaded ≡ l = some_inj (sym o.here ∙ ap layout.at same ∙ here) in
      inl (same, ap (λ (z : Loaded). has_claim (all_claims z) claim) (sym its) ∙ o.claims))
      (λ (e : (node == n) ≡ false). inr (e, is))
      (cases_Bool (node == n))

-- ---- objects

pub set-at : (state : State) (number : ℕ) (o other : Object) → object_at state number ≡ Some o → object_at (with_slot number (Some other) state) number ≡ Some other
set-at state number o other here = let within : number < length state.objects = some_within state.objects number o here in rw get_or-set_same

pub set-else : (state : State) (number n : ℕ) (slot : Option Object) → n ≢ number → object_at (with_slot number slot state) n ≡ object_at state n
set-else state number n slot apart = rw get_or-set_other

pub dead-same : (state : State) (number : ℕ) (o other : Object) → object_at state number ≡ Some o → other.live ≡ o.live → (n : ℕ) → is_dead (object_at (with_slot number (Some other) state) n) ≡ is_dead (object_at state n)
dead-same state number o other here live n = ⊎_elim
    (λ (e : n ≡ number). subst (λ (x : ℕ). is_dead (object_at (with_slot number (Some other) state) x) ≡ is_dead (object_at state x)) (sym e) (ap is_dead (set-at state number o other here) ∙ ap not live ∙ sym (ap is_dead here)))
    (λ (e : n ≢ number). ap is_dead (set-else state number n (Some other) e))
    (cases_eq n number)

-- the sum of the costs is the same with another dirty flag
pub charges-same : (at : ℕ → Option Loaded) (node mark : ℕ) (l : Loaded) → at node ≡ Some l → (nodes : List ℕ) → sum_by charge_of (filter_map (put at node (Some (record l { dirty = mark }))) nodes) ≡ sum_by charge_of (filter_map at nodes)
charges-same at node mark l here [] = refl
charges-same at node mark l here (x ∷ nodes) = ⊎_elim
    (λ (e : (node == x) ≡ true).
    let same : node ≡ x = eqb-true node x e in
    let now : put at node (Some (record l { dirty = mark })) x ≡ Some (record l { dirty = mark }) = ap (put at node (Some (record l { dirty = mark }))) (sym same) ∙ at-itself at node (Some (record l { dirty = mark })) in
    let was : at x ≡ Some l = ap at (sym same) ∙ here in
    ap (λ (o : Option Loaded). sum_by charge_of (cons_option o (filter_map (put at node (Some (record l { dirty = mark }))) nodes))) now
    ∙ sum_by-cons charge_of (record l { dirty = mark }) (filter_map (put at node (Some (record l { dirty = mark }))) nodes)
    ∙ ap (λ (n : ℕ). charge_of l + n) (charges-same at node mark l here nodes)
    ∙ sym (sum_by-cons charge_of l (filter_map at nodes))
    ∙ ap (λ (o : Option Loaded). sum_by charge_of (cons_option o (filter_map at nodes))) (sym was))
    (λ (e : (node == x) ≡ false).
    ap (λ (o : Option Loaded). sum_by charge_of (cons_option o (filter_map (put at node (Some (record l { dirty = mark }))) nodes))) (at-elsewhere at node (Some (record l { dirty = mark })) x e)
    ∙ more (at x) (filter_map (put at node (Some (record l { dirty = mark }))) nodes) (filter_map at nodes) (charges-same at node mark l here nodes))
    (cases_Bool (node == x))
  where
    more : (o : Option Loaded) (xs ys : List Loaded) → sum_by charge_of xs ≡ sum_by charge_of ys → sum_by charge_of (cons_option o xs) ≡ sum_by charge_of (cons_option o ys)
    more None xs ys e = e
    more (Some z) xs ys e = sum_by-cons charge_of z xs ∙ ap (λ (n : ℕ). charge_of z + n) e ∙ sym (sum_by-cons charge_of z ys)

-- ---- live ones

module _ (state : State) (layout : Layout) (unlinked : List ℕ) (from image : Image) (number : ℕ) (object : Object) (l : Loaded) (mark : ℕ) (k : KeepsUncounted state layout unlinked from) (lies : IsPlacedAsLive state layout number object l)
    (valid : IsValidState (marked state number object (mark == 0))) (m : IsMarking from (layout.place (main object.key)) mark image) where
  represents-now : (node_at image (layout.place (main object.key))).dirty ≡ mark → Represents (view_of image) (marked state number object (mark == 0)) (dirtied layout (layout.place (main object.key)) l mark)
  represents-now is = written-settles (view_of from) (view_of image) state layout k.represents k.valid number object l lies mark m.inside.shown (fields-now state layout unlinked from image k (layout.place (main object.key)) mark l lies.at m is) (links state layout unlinked from image k (layout.place (main object.key)) mark l lies.at m)

  either-found : Finds (rest state) image ⊎ Finds (rest (marked state number object (mark == 0))) image
  either-found = ⊎_elim
      (λ (e : (node_at image (layout.place (main object.key))).dirty ≡ (node_at from (layout.place (main object.key))).dirty). inl (finds-as-before state layout unlinked from image k (layout.place (main object.key)) mark l lies.at m e))
      (λ (e : (node_at image (layout.place (main object.key))).dirty ≡ mark).
      let well : HasSoundHeaders image = m.inside.headers.sound k.sound in
      inr (well, held-at_rest image (marked state number object (mark == 0)) (dirtied layout (layout.place (main object.key)) l mark) (represents-now e) valid))
      m.dirty

  -- another live object lies elsewhere
  elsewhere : (n : ℕ) (o : Object) → object_at state n ≡ Some o → o.live ≡ true → n ≢ number → (layout.place (main object.key) == layout.place (main o.key)) ≡ false
  elsewhere n o is live apart = ⊎_elim
      (λ (e : (layout.place (main object.key) == layout.place (main o.key)) ≡ true).
      let same = same-place state layout k.represents.holds.lies (main object.key) (main o.key) (main-listed state k.valid number object true lies.here lies.live) (main-listed state k.valid n o true is live) (eqb-true _ _ e) in
      let one : owner state (main object.key) ≡ Some number = main-owned state k.valid number object true lies.here lies.live in
      let two : owner state (main o.key) ≡ Some n = main-owned state k.valid n o true is live in
      absurd (apart (sym (some_inj (sym one ∙ ap (owner state) same ∙ two)))))
      (λ (e : (layout.place (main object.key) == layout.place (main o.key)) ≡ false). e)
      (cases_Bool (layout.place (main object.key) == layout.place (main o.key)))

  marks : ((mark == 0) ≡ false → mark ≡ this_id_of (byte from Index)) → AreMarkedBy (this_id_of (byte from Index)) (marked state number object (mark == 0)) (dirtied layout (layout.place (main object.key)) l mark)
  marks is n o at live unsettled = ⊎_elim
      (λ (e : n ≡ number).
      let same : (let z : Object = record object { settled = mark == 0 } in z) ≡ o = some_inj (sym (set-at state number object (record object { settled = mark == 0 }) lies.here) ∙ ap (object_at (marked state number object (mark == 0))) (sym e) ∙ at) in
      let open_ : (mark == 0) ≡ false = ap (λ (z : Object). z.settled) same ∙ unsettled in
      let there : put layout.at (layout.place (main object.key)) (Some (record l { dirty = mark })) (layout.place (main o.key)) ≡ Some (record l { dirty = mark }) = ap (λ (z : Object). put layout.at (layout.place (main object.key)) (Some (record l { dirty = mark })) (layout.place (main z.key))) (sym same) ∙ at-itself layout.at (layout.place (main object.key)) (Some (record l { dirty = mark })) in
      subst (λ (x : Option Loaded). IfSome x (λ loaded. loaded.dirty ≡ this_id_of (byte from Index))) (sym there) (is open_))
      (λ (e : n ≢ number).
      let was : object_at state n ≡ Some o = sym (set-else state number n (Some (record object { settled = mark == 0 })) e) ∙ at in
      subst (λ (x : Option Loaded). IfSome x (λ loaded. loaded.dirty ≡ this_id_of (byte from Index))) (sym (at-elsewhere layout.at (layout.place (main object.key)) (Some (record l { dirty = mark })) (layout.place (main o.key)) (elsewhere n o was live e))) (k.session.marked n o was live unsettled))
      (cases_eq n number)

  pub marked-kept : ((mark == 0) ≡ false → mark ≡ this_id_of (byte from Index)) → (node_at image (layout.place (main object.key))).dirty ≡ mark → IsSealed image (layout.place (main object.key)) → KeepsUncounted (marked state number object (mark == 0)) (dirtied layout (layout.place (main object.key)) l mark) unlinked image
  marked-kept is now done =
      let left = leaves state layout unlinked from image k (layout.place (main object.key)) mark l lies.at m in
      node-changed state (marked state number object (mark == 0)) layout unlinked unlinked (layout.place (main object.key)) l (record l { dirty = mark }) layout.owner from image k lies.at
      (is_among-append (order state layout) (doomed_nodes layout k.numbers) (layout.place (main object.key)) ∙ or_left (is_among (order state layout) (layout.place (main object.key))) _ (is_among-node layout state.uses (main object.key) (main-listed state k.valid number object true lies.here lies.live)))
      left (IsPermutation-refl (unlinked ++ words_of l)) (still-owned state layout unlinked from image k (layout.place (main object.key)) mark l lies.at m) k.unlinked_words.free refl
      (dead-same state number object (record object { settled = mark == 0 }) lies.here refl) valid (represents-now now) (seals state layout unlinked from image k (layout.place (main object.key)) mark l lies.at m done)
      (subst (λ (id : ℕ). AreMarkedBy id (marked state number object (mark == 0)) (dirtied layout (layout.place (main object.key)) l mark)) (sym left.session.id) (marks is))

pub marking-finds : MarkingFindsEither
marking-finds state layout unlinked from image number object loaded mark k lies valid m = either-found state layout unlinked from image number object loaded mark k lies valid m

pub marking-keeps : MarkingKeepsTheState
marking-keeps state layout unlinked from image number object loaded mark k lies valid is done = marked-kept state layout unlinked from image number object loaded mark k lies valid done.marking is done.now done.sealed

pub marking-counts : MarkingKeepsTheCounters
marking-counts state layout unlinked from image number object loaded mark k lies valid is done =
    let same = updates-leave from image (layout.place (main object.key)) done.marking.outside in
    record {
      entries = marked-kept state layout unlinked from image number object loaded mark k.entries lies valid done.marking is done.now done.sealed;
      counters = same ∙ k.counters ∙ ap (λ (n : ℕ). counting (length state.uses) n) (sym (charges-same layout.at (layout.place (main object.key)) mark loaded lies.at (order state layout)));
    }
