-- A new entry in the LRU list and in front of its chain.
use Rattle.std.proofs.Common.{◌≡◌, ℕ, zero, suc, ◌+◌, ◌<◌, ◌≤◌, List, [], ◌∷◌, ◌++◌, length, map, refl, ap, sym, ◌∙◌, subst, arith, Bool, true, false, Option, Some, None, get_or, lit≤, ⊎_elim, append_assoc}
use Rattle.std.proofs.lemmas.Bool.Decides.{nat_tests}
use Rattle.std.specs.Prelude.{◌&&◌, ◌==◌, nat_le, nat_lt, IfSome, if◌then◌else◌}
use Rattle.std.specs.List.{cons_option, filter_map, flat_map, sum_by}
use Rattle.std.specs.List.Sorted.{IsPermutation}
use Rattle.std.proofs.lemmas.Bool.{cases_Bool, eq-eqb, eqb-true, or_left, or_right}
use Rattle.std.proofs.lemmas.List.Sums.{sum_by-cons}
use Rattle.spec_image.specs.Footprint.{SameOutside, one_word}
use Rattle.spec_image.specs.Image.{Image, Index, Block, byte, word}
use Rattle.spec_image.proofs.Footprints.{outside_wider, within_left, same_word_outside}
use Rattle.spec_image.proofs.Runs.{some_inj}
use Rattle.blk_model.specs.Effects.{created, new_object}
use Rattle.blk_model.specs.Holding.{owner, rest}
use Rattle.blk_model.specs.Items.{main, same_item}
use Rattle.blk_model.specs.State.{State, Object, IsValidState, object_at}
use Rattle.blk_model.proofs.Same.{one_item, same_item_self}
use Rattle.spec_format.specs.Address.{blocks_256, file_selector, place}
use Rattle.spec_format.specs.BlockFiles.{is_among, HasSoundHeaders, KeepsHeaders}
use Rattle.spec_format.specs.Claims.{Claim, has_claim}
use Rattle.spec_format.specs.Hash.{hash}
use Rattle.spec_format.specs.Headers.{header_length, place_of_bucket, this_id_of}
use Rattle.spec_format.specs.Records.{entry_in, entry_is_sealed, node_in, node_is_sealed, entry_normal}
use Rattle.spec_format.specs.Sealed.{record_range}
use Rattle.spec_format.proofs.Among.{is_among-append}
use Rattle.law_folder.specs.CommandLaws.{IsWrittenApart}
use Rattle.spec_folder.specs.Chains.{bucket_of_hash, bucket_at}
use Rattle.spec_folder.specs.Completion.{insert}
use Rattle.spec_folder.specs.Creation.{linked_front, with_new}
use Rattle.spec_folder.specs.Found.{charge_of, completed, row_of_loaded}
use Rattle.spec_folder.specs.Layout.{Layout, Represents, order}
use Rattle.spec_folder.specs.ListImages.{CanBeMade, HasListAtRest, walked}
use Rattle.spec_folder.specs.ListPlans.{writes_of}
use Rattle.spec_folder.specs.ListSteps.{IsPartly, touched_by_writes}
use Rattle.spec_folder.specs.ListView.{CanBeInserted, Distinct, IsList, ListView, ListWrite, put}
use Rattle.spec_folder.specs.Loads.{Loaded, all_claims, held_rule}
use Rattle.spec_folder.specs.Audit.{kept_by}
use Rattle.spec_folder.specs.ShownChanges.{ShowsTheSame}
use Rattle.spec_folder.specs.Sound.{AreSealed, words_of}
use Rattle.spec_folder.specs.StandsFor.{IsOwner}
use Rattle.spec_folder.specs.Tidy.{doomed_nodes}
use Rattle.spec_folder.specs.View.{RecordFields, StoreView, View, list_of, stands_as, store_of, view_of}
use Rattle.law_folder.proofs.states.Central.{walk-order}
use Rattle.law_folder.proofs.chains.ChainWords.{shown-fields}
use Rattle.law_folder.proofs.states.Changing.{at-elsewhere, at-itself}
use Rattle.law_folder.proofs.commands.Created.{at-each-write, at-end, creates-rest}
use Rattle.law_folder.proofs.commands.Creating.{new-lacks, order-after, push-back, uses-after}
use Rattle.law_folder.proofs.updates.IndexWords.{same-shown}
use Rattle.law_folder.proofs.states.Laid.{is_among-node}
use Rattle.law_folder.proofs.walks.Loads.{load-then}
use Rattle.law_folder.proofs.states.Settling.{main-listed, main-owned}
use Rattle.law_folder.proofs.states.Standing.{held-at_rest}
use Rattle.law_folder.proofs.updates.StillShown.{core-standing}
use Rattle.law_folder.proofs.states.Tidying.{counter-same, record-bytes, sealed-still, touch_range, touch_sizes, touch_spares}
use Rattle.law_folder.proofs.lists.WordTurns.{inserts-can}
use Rattle.law_folder.proofs.lists.WriteSteps.{checked-kind}
use Rattle.law_state.specs.Arranging.{IsArranged, LeavesFiles}
use Rattle.law_state.specs.Changes.{Finds}
use Rattle.law_state.specs.Keeping.{AllAreSealed, AreMarkedBy, KeepsUncounted, all_loaded, all_nodes, words_in_use}
use Rattle.law_state.specs.NewEntryLaws.{InsertsFindTheSame, IsInsertDone, HasRecordInFront, IsNewEntryOf, LinksFindTheSame, NewEntriesAreKept, NewEntriesAreOneMore}
use Rattle.law_state.proofs.Arranging.{rearranged}
use Rattle.law_state.proofs.Headers.{stand-same}
use Rattle.law_state.proofs.Leaving.{leaves-files, leaves-then}
use Rattle.law_state.proofs.NewNodes.{among-doomed, some-at, still-free, unlinked-once, unlinked-still}
use Rattle.law_state.proofs.NodeChanges.{is_dead, numbers-same, others-at}
use Rattle.law_state.proofs.Touched.{to-front, words_at}
use Rattle.law_state.proofs.Touching.{held-kept}

-- ---- what the laws of the list and of a Create ask

module _ (state : State) (layout : Layout) (unlinked key : List ℕ) (l : Loaded) (from : Image) (k : KeepsUncounted state layout unlinked from) (n : IsNewEntryOf state layout key l from) where
  none : Claim → Bool
  none claim = false

  pub written : IsWrittenApart (view_of from) (view_of from) state layout key l
  written = record {
    represents = k.represents;
    valid = k.valid;
    touched = λ claim. false;
    same = record {
      links = record { head = refl; tail = refl; transaction = refl; checks = λ w c. refl; next = λ w c. refl; prev = λ w c. refl };
      store = record { node_fields = λ w c. refl; entry = λ w c. refl; chain_next = λ w c. refl; key_place = λ w e c a b d. refl; stored = λ s w c. refl };
      table = λ b. refl;
    };
    free = λ claim node is. refl;
    entry = n.entry;
    prefix = n.prefix;
    good = n.good;
    few = n.few;
    missing = n.missing;
  }

  pub can-insert : CanBeInserted (list_of from) (walked from) l.node
  can-insert = subst (λ (nodes : List ℕ). CanBeInserted (list_of from) nodes l.node) (sym (walk-order (view_of from) state layout k.represents)) (record {
    rest = record { whole = k.represents.list; idle = k.represents.idle };
    lacks = new-lacks (store_of from) state layout k.represents.holds k.valid key l n.entry k.represents.list.distinct;
    good = n.good;
    few = n.few;
  })

  -- the image in the midst of the insert
  pub insert-found : (image : Image) → IsPartly from (writes_of insert l.node (list_of from)) image → Finds (rest state) image
  insert-found image partly =
      let well : HasSoundHeaders image = partly.headers.sound k.sound in (
        well,
        held-kept image ∙ ap (λ (ls : ListView). map row_of_loaded (kept_by held_rule (complete ls (store_of image)))) partly.shown.list
            ∙ at-each-write (view_of from) (view_of from) state layout key l written (store_of image) partly.shown.store partly.made,
      )
    where
      complete : ListView → StoreView → View
      complete ls store = completed (record { list = ls; store = store })

  -- the bucket of its record is that of its key
  pub bucket-is : (image : Image) → ShowsTheSame (store_of from) (store_of image) → bucket_at image l.contents ≡ bucket_of_hash (hash l.key)
  bucket-is image same = load-then (store_of from) (record { state = entry_normal; clean = false; chained = false }) l.node l n.entry.loads (λ nf e f.
      let here : (store_of image).entry l.contents ≡ Some e = sym (same.store.entry l.contents (λ c h. refl)) ∙ ap (store_of from).entry f.facts.contents_is ∙ f.entry in
      ap (λ (h : ℕ). bucket_of_hash h) (ap (λ (x : RecordFields). x.hash) (shown-fields image l.contents e here) ∙ eqb-true e.hash (hash l.key) f.facts.keyed.hashed))

module _ (state : State) (layout : Layout) (unlinked key : List ℕ) (l : Loaded) (handle : ℕ) (from between image : Image) (k : KeepsUncounted state layout unlinked from) (n : IsNewEntryOf state layout key l from)
    (inserted : IsInsertDone from l.node between) (linked : HasRecordInFront between l.contents image) where
  order_is : order (created handle key state) (with_new layout key l) ≡ l.node ∷ order state layout
  order_is = order-after state layout k.represents.holds.lies (store_of from) handle key l n.entry n.missing

  store-is : store_of image ≡ linked_front (store_of between) l
  store-is = linked.store ∙ ap (λ (b : ℕ). record (store_of between) { table = put (store_of between).table b l.contents }) (bucket-is state layout unlinked key l from k n between inserted.partly.shown.store)

  at-rest : HasListAtRest (l.node ∷ order state layout) between
  at-rest = subst (λ (nodes : List ℕ). HasListAtRest (l.node ∷ nodes) between) (walk-order (view_of from) state layout k.represents) (inserted.inserted (can-insert state layout unlinked key l from k n))

  pub new-represents : Represents (view_of image) (created handle key state) (with_new layout key l)
  new-represents =
      let r = at-end (view_of from) (view_of from) state layout key l (written state layout unlinked key l from k n) handle (store_of between) (store_of image) inserted.partly.shown.store
      (subst (λ (s : StoreView). ShowsTheSame (linked_front (store_of between) l) s) (sym store-is) (same-shown (linked_front (store_of between) l))) in
      record {
        holds = r.holds;
        list = subst (λ (ls : ListView). IsList ls (order (created handle key state) (with_new layout key l))) (sym linked.list) (subst (IsList (list_of between)) (sym order_is) at-rest.whole);
        idle = ap (λ (ls : ListView). ls.transaction) linked.list ∙ at-rest.idle;
      }

  well : HasSoundHeaders image
  well = linked.headers.sound (inserted.partly.headers.sound k.sound)

  pub link-found : IsValidState (created handle key state) → Finds (rest state) image
  link-found valid = (
    well,
    held-at_rest image (created handle key state) (with_new layout key l) new-represents valid
        ∙ creates-rest (view_of from) (view_of from) state layout key l (written state layout unlinked key l from k n) handle,
  )

pub inserts-find : InsertsFindTheSame
inserts-find state layout unlinked key loaded from image k n partly = insert-found state layout unlinked key loaded from k n image partly

pub links-find : LinksFindTheSame
links-find state layout unlinked key loaded handle from between image k n valid inserted linked = link-found state layout unlinked key loaded handle from between image k n inserted linked valid

-- ---- what is kept

-- one more slot at the end dooms no object
same-dead : (slots : List (Option Object)) (key : List ℕ) (n : ℕ) → is_dead (get_or (slots ++ Some (new_object key) ∷ []) n None) ≡ is_dead (get_or slots n None)
same-dead [] key zero = refl
same-dead [] key (suc n) = refl
same-dead (s ∷ slots) key zero = refl
same-dead (s ∷ slots) key (suc n) = same-dead slots key n

created-dead : (state : State) (handle : ℕ) (key : List ℕ) (n : ℕ) → is_dead (object_at (created handle key state) n) ≡ is_dead (object_at state n)
unfolding created
created-dead state handle key n = same-dead state.objects key n

-- what another word of the table leaves
pub table-word : (b p : ℕ) (from image : Image) → p + 4 ≤ header_length → SameOutside (one_word Index (place_of_bucket b)) from image → word image Index p ≡ word from Index p
table-word b p from image low same = same_word_outside (one_word Index (place_of_bucket b)) from image Index p same (λ i above below. beside i (omega (arith, below, low))) where
  beside : (i : ℕ) → i < header_length → (nat_le (place_of_bucket b) i && nat_lt i (place_of_bucket b + 4)) ≡ false
  beside i small = grind (arith, nat_tests)

pub table-leaves : (b : ℕ) (from image : Image) → SameOutside (one_word Index (place_of_bucket b)) from image → KeepsHeaders from image → LeavesFiles from image
table-leaves b from image same formed = leaves-files (one_word Index (place_of_bucket b)) from image (record { bytes = λ n i small. refl }) (λ file. refl) same
    (record { crash = table-word b 32 from image (lit≤ tt) same; id = table-word b 20 from image (lit≤ tt) same }) formed

-- the checksums stay
pub table-seals : (b : ℕ) (from image : Image) (l : Loaded) → SameOutside (one_word Index (place_of_bucket b)) from image → AreSealed from l → AreSealed image l
table-seals b from image l same s = record {
  node = ap (λ (f : ℕ → ℕ). node_is_sealed (node_in f (place l.node))) (bytes l.node) ∙ s.node;
  entry = ap (λ (f : ℕ → ℕ). entry_is_sealed (entry_in f (place l.contents))) (bytes l.contents) ∙ s.entry;
} where
  bytes : (w : ℕ) → byte image (Block (file_selector w)) ≡ byte from (Block (file_selector w))
  bytes w = λ j i. same.bytes (Block (file_selector w)) i refl j

module _ (state : State) (layout : Layout) (unlinked key : List ℕ) (l : Loaded) (handle : ℕ) (from between image : Image) (k : KeepsUncounted state layout (words_of l ++ unlinked) from) (n : IsNewEntryOf state layout key l from)
    (valid : IsValidState (created handle key state)) (inserted : IsInsertDone from l.node between) (linked : HasRecordInFront between l.contents image) where
  abbrev writes : List ListWrite
  writes = writes_of insert l.node (list_of from)

  abbrev now : Layout
  now = with_new layout key l

  -- the node is none of them
  new-node : is_among (all_nodes state layout k.numbers) l.node ≡ false
  new-node = ⊎_elim
      (λ (e : is_among (all_nodes state layout k.numbers) l.node ≡ true). let x = some-at state layout unlinked l from k l.node e in absurd (let z : ◌≡◌ {A = Option Loaded} (Some x.0) None = sym x.1 ∙ n.entry.nobody in cc))
      (λ (e : is_among (all_nodes state layout k.numbers) l.node ≡ false). e)
      (cases_Bool (is_among (all_nodes state layout k.numbers) l.node))

  other-node : (node : ℕ) → is_among (all_nodes state layout k.numbers) node ≡ true → (l.node == node) ≡ false
  other-node node among = ⊎_elim
      (λ (e : (l.node == node) ≡ true). absurd (let z : true ≡ false = sym among ∙ ap (is_among (all_nodes state layout k.numbers)) (sym (eqb-true l.node node e)) ∙ new-node in cc))
      (λ (e : (l.node == node) ≡ false). e)
      (cases_Bool (l.node == node))

  nodes-are : all_nodes (created handle key state) now k.numbers ≡ l.node ∷ all_nodes state layout k.numbers
  nodes-are = ap (λ (ns : List ℕ). ns ++ doomed_nodes layout k.numbers) (order_is state layout (words_of l ++ unlinked) key l handle from between image k n inserted linked)

  words-are : words_at now.at (all_nodes (created handle key state) now k.numbers) ≡ words_of l ++ words_at layout.at (all_nodes state layout k.numbers)
  words-are = ap (words_at now.at) nodes-are
      ∙ ap (λ (o : Option Loaded). flat_map words_of (cons_option o (filter_map now.at (all_nodes state layout k.numbers)))) (at-itself layout.at l.node (Some l))
      ∙ ap (λ (ls : List Loaded). words_of l ++ flat_map words_of ls) (others-at layout.at l.node (Some l) (all_nodes state layout k.numbers) new-node)

  -- the same words are in use
  same-words : IsPermutation (words_in_use (words_of l ++ unlinked) (all_loaded state layout k.numbers)) (words_in_use unlinked (all_loaded (created handle key state) now k.numbers))
  same-words = subst (λ (ws : List ℕ). IsPermutation (words_in_use (words_of l ++ unlinked) (all_loaded state layout k.numbers)) (unlinked ++ ws)) (sym words-are)
      (subst (λ (ws : List ℕ). IsPermutation ws (unlinked ++ (words_of l ++ words_at layout.at (all_nodes state layout k.numbers)))) (sym (append_assoc (words_of l) unlinked (words_at layout.at (all_nodes state layout k.numbers))))
      (to-front (words_of l) unlinked (words_at layout.at (all_nodes state layout k.numbers))))

  exact : (claim : Claim) (node : ℕ) → now.owner claim ≡ Some node → IsOwner (created handle key state) now (doomed_nodes layout k.numbers) claim node
  exact claim node = go (has_claim (all_claims l) claim) refl where
    go : (t : Bool) → has_claim (all_claims l) claim ≡ t → (if t then Some l.node else layout.owner claim) ≡ Some node → IsOwner (created handle key state) now (doomed_nodes layout k.numbers) claim node
    go true has is =
        let same : l.node ≡ node = some_inj is in
        record {
          among = ap (λ (ns : List ℕ). is_among ns node) nodes-are ∙ or_left (l.node == node) (is_among (all_nodes state layout k.numbers) node) (eq-eqb l.node node same);
          loaded = l;
          here = ap (put layout.at l.node (Some l)) (sym same) ∙ at-itself layout.at l.node (Some l);
          claims = has;
        }
    go false has is =
        let o : IsOwner state layout (doomed_nodes layout k.numbers) claim node = k.owners.exact claim node is in
        record {
          among = ap (λ (ns : List ℕ). is_among ns node) nodes-are ∙ or_right (l.node == node) (is_among (all_nodes state layout k.numbers) node) o.among;
          loaded = o.loaded;
          here = at-elsewhere layout.at l.node (Some l) node (other-node node o.among) ∙ o.here;
          claims = o.claims;
        }

  -- the writes into the list
  outside : SameOutside (touch_range writes l.node) from between
  outside = outside_wider (touched_by_writes writes) (touch_range writes l.node) from between (within_left (touched_by_writes writes) (record_range l.node)) inserted.partly.outside

  between-leaves : LeavesFiles from between
  between-leaves = leaves-files (touch_range writes l.node) from between (touch_spares writes l.node) (touch_sizes writes l.node) outside
      (record { crash = counter-same writes l.node from between outside 32 (omega arith); id = counter-same writes l.node from between outside 20 (omega arith) }) inserted.partly.headers

  leaves : LeavesFiles from image
  leaves = leaves-then from between image between-leaves (table-leaves (bucket_at between l.contents) between image linked.outside linked.headers)

  can-make : CanBeMade from writes
  can-make = inserts-can from l.node (walked from) (can-insert state layout (words_of l ++ unlinked) key l from k n)

  -- the new entry's checksums
  new-sealed : AreSealed image l
  new-sealed = table-seals (bucket_at between l.contents) between image l linked.outside (load-then (store_of from) (record { state = entry_normal; clean = false; chained = false }) l.node l n.entry.loads (λ nf e f.
      let stands : stands_as from blocks_256 l.contents ≡ true = subst (λ (c : ℕ). stands_as from blocks_256 c ≡ true) (sym f.facts.contents_is) (core-standing from nf.contents e f.entry) in
      record {
        node = inserted.sealed l.node (checked-kind from l.node n.good) n.sealed.node;
        entry = ap (λ (g : ℕ → ℕ). entry_is_sealed (entry_in g (place l.contents))) (record-bytes from between writes l.node outside can-make.nodes n.good l.contents stands) ∙ n.sealed.entry;
      }))

  sealed : AllAreSealed image now
  sealed node other at = ⊎_elim
      (λ (e : (l.node == node) ≡ true).
      let is : l ≡ other = some_inj (sym (at-itself layout.at l.node (Some l)) ∙ ap (put layout.at l.node (Some l)) (eqb-true l.node node e) ∙ at) in
      subst (AreSealed image) is new-sealed)
      (λ (e : (l.node == node) ≡ false).
      let was : layout.at node ≡ Some other = sym (at-elsewhere layout.at l.node (Some l) node e) ∙ at in
      table-seals (bucket_at between l.contents) between image other linked.outside (sealed-still from between writes l.node outside can-make.nodes n.good state layout k.represents inserted.sealed node other was (k.sealed node other was)))
      (cases_Bool (l.node == node))

  -- the dirty flag of each dirty object is the number of the session, that of the new one too
  marked : AreMarkedBy (this_id_of (byte from Index)) (created handle key state) now
  unfolding created
  marked number object is live unsettled = ⊎_elim
      (λ (was : object_at state number ≡ Some object). old was)
      (λ (new : ◌≡◌ {A = Option Object} (Some (new_object key)) (Some object)).
      let same : new_object key ≡ object = some_inj new in
      let here : now.place (main object.key) ≡ l.node = ap (λ (o : Object). now.place (main o.key)) (sym same) ∙ new-place in
      let at : now.at (now.place (main object.key)) ≡ Some l = ap now.at here ∙ at-itself layout.at l.node (Some l) in
      subst (λ (x : Option Loaded). IfSome x (λ loaded. loaded.dirty ≡ this_id_of (byte from Index))) (sym at) n.mark)
      (push-back state.objects (Some (new_object key)) number object is)
    where
      new-place : now.place (main key) ≡ l.node
      new-place = let e : same_item (main key) (main key) ≡ true = same_item_self (main key) in rw e refl

      old : object_at state number ≡ Some object → IfSome (now.at (now.place (main object.key))) (λ loaded. loaded.dirty ≡ this_id_of (byte from Index))
      old was =
          let apart : same_item (main object.key) (main key) ≡ false = ⊎_elim
          (λ (e : same_item (main object.key) (main key) ≡ true).
          let owned : owner state (main object.key) ≡ Some number = main-owned state k.valid number object true was live in
          let c : ◌≡◌ {A = Option ℕ} (Some number) None = sym owned ∙ ap (owner state) (one_item (main object.key) (main key) e) ∙ n.missing in absurd (cc))
          (λ (e : same_item (main object.key) (main key) ≡ false). e)
          (cases_Bool (same_item (main object.key) (main key))) in
          let place : now.place (main object.key) ≡ layout.place (main object.key) = rw apart refl in
          let listed : is_among (all_nodes state layout k.numbers) (layout.place (main object.key)) ≡ true =
          is_among-append (order state layout) (doomed_nodes layout k.numbers) (layout.place (main object.key)) ∙ or_left (is_among (order state layout) (layout.place (main object.key))) _ (is_among-node layout state.uses (main object.key) (main-listed state k.valid number object true was live)) in
          let at : now.at (now.place (main object.key)) ≡ layout.at (layout.place (main object.key)) = ap now.at place ∙ at-elsewhere layout.at l.node (Some l) (layout.place (main object.key)) (other-node (layout.place (main object.key)) listed) in
          subst (λ (x : Option Loaded). IfSome x (λ loaded. loaded.dirty ≡ this_id_of (byte from Index))) (sym at) (k.session.marked number object was live unsettled)

  arranged : IsArranged (created handle key state) now k.numbers unlinked image
  arranged = record {
    valid = valid;
    represents = new-represents state layout (words_of l ++ unlinked) key l handle from between image k n inserted linked;
    owners = record {
      exact = exact;
      once = subst Distinct (sym nodes-are) (new-node, k.owners.once);
      doomed = numbers-same state (created handle key state) layout now k.numbers (created-dead state handle key) kinds k.owners.doomed;
    };
    unlinked_words = record {
      stand = stand-same from image leaves.headers unlinked (unlinked-still state layout unlinked l from k);
      free = still-free state layout unlinked l from k;
      single = unlinked-once state layout unlinked l from k;
    };
    sealed = sealed;
    marked = subst (λ (id : ℕ). AreMarkedBy id (created handle key state) now) (sym leaves.session.id) marked;
  } where
    kinds : (number : ℕ) → is_among k.numbers number ≡ true → now.state (now.place_of_doomed number) ≡ layout.state (layout.place_of_doomed number)
    kinds number among = at-elsewhere layout.state l.node entry_normal (layout.place_of_doomed number) (other-node (layout.place_of_doomed number)
        (is_among-append (order state layout) (doomed_nodes layout k.numbers) (layout.place_of_doomed number) ∙ or_right (is_among (order state layout) (layout.place_of_doomed number)) _ (among-doomed state layout unlinked l from k k.numbers number among)))

  pub new-kept : KeepsUncounted (created handle key state) now unlinked image
  new-kept = rearranged state (created handle key state) layout now (words_of l ++ unlinked) unlinked k.numbers from image k leaves arranged same-words

pub entries-kept : NewEntriesAreKept
entries-kept state layout unlinked key loaded handle from between image k n valid inserted linked = new-kept state layout unlinked key loaded handle from between image k n valid inserted linked

pub one-more : NewEntriesAreOneMore
one-more state layout unlinked key loaded handle from k n = record {
  items = ap length (uses-after state layout k.represents.holds.lies (store_of from) handle key loaded n.entry n.missing) ∙ (let e : suc (length state.uses) ≡ length state.uses + 1 = omega arith in e);
  bytes = ap (λ (ns : List ℕ). sum_by charge_of (filter_map (put layout.at loaded.node (Some loaded)) ns)) (order-after state layout k.represents.holds.lies (store_of from) handle key loaded n.entry n.missing)
      ∙ ap (λ (o : Option Loaded). sum_by charge_of (cons_option o (filter_map (put layout.at loaded.node (Some loaded)) (order state layout)))) (at-itself layout.at loaded.node (Some loaded))
      ∙ sum_by-cons charge_of loaded (filter_map (put layout.at loaded.node (Some loaded)) (order state layout))
      ∙ ap (λ (ls : List Loaded). charge_of loaded + sum_by charge_of ls) (others-at layout.at loaded.node (Some loaded) (order state layout) (new-lacks (store_of from) state layout k.represents.holds k.valid key loaded n.entry k.represents.list.distinct));
}
