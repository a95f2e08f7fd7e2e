-- One item is removed from the LRU list and unlinked from its chain.
use Rattle.std.proofs.Common.{◌≡◌, ℕ, ◌<◌, List, [], ◌∷◌, ◌++◌, map, refl, ap, sym, ◌∙◌, subst, arith, Bool, true, false, Option, Some, None, ⊎_elim, append_assoc}
use Rattle.std.specs.Prelude.{◌||◌, ◌&&◌, ◌==◌, not, nat_lt, filter, IfSome, if◌then◌else◌}
use Rattle.std.proofs.lemmas.Bool.{and_parts, cases_Bool, eq-eqb, eqb-true, or_left, or_right}
use Rattle.spec_image.proofs.Footprints.{outside_wider, within_left}
use Rattle.spec_image.proofs.Runs.{some_inj}
use Rattle.spec_image.specs.Footprint.{SameOutside}
use Rattle.spec_image.specs.Image.{Image, Index, byte}
use Rattle.blk_model.proofs.Same.{same_item_self}
use Rattle.blk_model.specs.Holding.{rest}
use Rattle.blk_model.specs.Items.{Item, main, part, same_item}
use Rattle.blk_model.specs.State.{State, Object, object_at}
use Rattle.spec_format.specs.Address.{blocks_256}
use Rattle.spec_format.specs.BlockFiles.{is_among, HasSoundHeaders}
use Rattle.spec_format.specs.Claims.{claims_of, has_claim}
use Rattle.spec_format.specs.Hash.{hash}
use Rattle.spec_format.specs.Headers.{this_id_of}
use Rattle.spec_format.specs.Sealed.{record_range}
use Rattle.spec_folder.specs.Audit.{kept_among}
use Rattle.spec_folder.specs.Chains.{bucket_of_hash}
use Rattle.spec_folder.specs.Completion.{completed_list, remove}
use Rattle.spec_folder.specs.Found.{row_of_loaded}
use Rattle.spec_folder.specs.Layout.{HoldsExcept, IsLayoutOf, IsListedRecord, IsPlacedAt, Layout, Represents, Shows, is_in, is_listed, nodes_of, order}
use Rattle.spec_folder.specs.ListPlans.{writes_of}
use Rattle.spec_folder.specs.ListSteps.{touched_by_writes}
use Rattle.spec_folder.specs.ListView.{Distinct, IsAtRest, IsList, ListView, ListWrite, put}
use Rattle.spec_folder.specs.Loads.{Loaded, held_rule}
use Rattle.spec_folder.specs.Removal.{HasLess, without_items}
use Rattle.spec_folder.specs.Sound.{AreSealed, words_of}
use Rattle.spec_folder.specs.Tidy.{doomed_nodes}
use Rattle.spec_folder.specs.View.{StoreView, list_of, store_of, view_of}
use Rattle.spec_folder.specs.Walk.{walk}
use Rattle.law_folder.proofs.lists.AtRest.{removals-turn}
use Rattle.law_folder.proofs.claims.ByteChanges.{stands-some}
use Rattle.law_folder.proofs.states.Central.{rest-found, walk-idle}
use Rattle.law_folder.proofs.states.Changing.{at-elsewhere, at-itself, same-place}
use Rattle.law_folder.proofs.claims.ClaimLists.{contents-claims, some-claim}
use Rattle.law_folder.proofs.commands.DoomedObjects.{listed-rest}
use Rattle.law_folder.proofs.states.Laid.{is_among-node}
use Rattle.law_folder.proofs.lists.ListCompletions.{listed}
use Rattle.law_folder.proofs.lists.Lists.{Distinct-without}
use Rattle.law_folder.proofs.commands.Opening.{IsAround, around, nodes-append}
use Rattle.law_folder.proofs.states.OthersHold.{chained-only, others-unlinked}
use Rattle.law_folder.proofs.commands.Removing.{in-filter}
use Rattle.law_folder.proofs.states.Settling.{main-listed}
use Rattle.law_folder.proofs.lists.Walks.{walk_list}
use Rattle.blk_model.specs.Totals.{is_doomed_slot}
use Rattle.spec_folder.specs.Footprint.{IsOnlyRecord}
use Rattle.law_folder.proofs.updates.StillShown.{standing-parts}
use Rattle.law_folder.proofs.states.Tidying.{counter-same, sealed-still, touch_range, touch_sizes, touch_spares}
use Rattle.law_folder.proofs.commands.Touches.{shows-same}
use Rattle.law_folder.proofs.commands.Unlinking.{lies-less}
use Rattle.law_folder.proofs.lists.WordTurns.{removals-can}
use Rattle.law_state.specs.Arranging.{LeavesFiles}
use Rattle.law_state.specs.Changes.{Finds}
use Rattle.law_state.specs.GoneLaws.{owner_without}
use Rattle.law_state.specs.Keeping.{AllAreSealed, AreMarkedBy, KeepsUncounted}
use Rattle.law_state.specs.RemovalLaws.{IsRemovalDone, IsUnlinking, IsWithout, RemovalsFindEither, RemovedItemsAreUnlinked, UnlinkingFindsTheOthers, chains_without, layout_removed, layout_unlisted}
use Rattle.law_state.proofs.Free.{standing-at}
use Rattle.law_state.proofs.Gone.{among-without, node-gone, others-owned, others-still}
use Rattle.law_state.proofs.Leaving.{leaves-files, leaves-then}
use Rattle.law_state.proofs.NodeChanges.{is_dead, numbers-same}
use Rattle.law_state.proofs.Touching.{held-kept}

-- ---- lists

pub filter-alike : (p q : Item → Bool) (items : List Item) → ((i : Item) → is_in items i ≡ true → p i ≡ q i) → filter p items ≡ filter q items
filter-alike p q [] same = refl
filter-alike p q (i ∷ items) same =
    let e = same i (or_left (same_item i i) (is_in items i) (same_item_self i)) in
    let rest = filter-alike p q items (λ j h. same j (or_right (same_item j i) (is_in items j) h)) in
    ⊎_elim (λ (t : q i ≡ true). let s : p i ≡ true = e ∙ t in rw (s, t) (ap (λ (xs : List Item). i ∷ xs) rest)) (λ (t : q i ≡ false). let s : p i ≡ false = e ∙ t in rw (s, t) rest) (cases_Bool (q i))

pub in-filtered : (w : ℕ) (words : List ℕ) (x : ℕ) → (x == w) ≡ false → is_among words x ≡ true → is_among (filter (λ v. not (v == w)) words) x ≡ true
in-filtered w [] x apart e = e
in-filtered w (v ∷ words) x apart e = ⊎_elim
    (λ (h : (v == x) ≡ true). let s : (v == w) ≡ false = ap (λ (y : ℕ). y == w) (eqb-true v x h) ∙ apart in rw s (or_left (v == x) (is_among (filter (λ y. not (y == w)) words) x) h))
    (λ (h : (v == x) ≡ false).
    let more = in-filtered w words x apart (rw h at e) in
    ⊎_elim (λ (t : (v == w) ≡ true). rw t more) (λ (t : (v == w) ≡ false). rw t (or_right (v == x) (is_among (filter (λ y. not (y == w)) words) x) more)) (cases_Bool (v == w)))
    (cases_Bool (v == x))

pub from-filtered : (w : ℕ) (words : List ℕ) (x : ℕ) → is_among (filter (λ v. not (v == w)) words) x ≡ true → ((x == w) ≡ false) × (is_among words x ≡ true)
from-filtered w [] x e = absurd (let z : false ≡ true = e in cc)
from-filtered w (v ∷ words) x e = ⊎_elim
    (λ (t : (v == w) ≡ true). let more = from-filtered w words x (rw t at e) in (more.0, or_right (v == x) (is_among words x) more.1))
    (λ (t : (v == w) ≡ false).
    let there : ((v == x) || is_among (filter (λ y. not (y == w)) words) x) ≡ true = rw t at e in
    ⊎_elim
    (λ (h : (v == x) ≡ true). (ap (λ (y : ℕ). y == w) (sym (eqb-true v x h)) ∙ t, or_left (v == x) (is_among words x) h))
    (λ (h : (v == x) ≡ false). let more = from-filtered w words x (rw h at there) in (more.0, or_right (v == x) (is_among words x) more.1))
    (cases_Bool (v == x)))
    (cases_Bool (v == w))

-- what lies at different nodes has different records
pub other-record-of : (state : State) (layout : Layout) (unlinked : List ℕ) (from : Image) (k : KeepsUncounted state layout unlinked from) (node n : ℕ) (was l : Loaded) → layout.at node ≡ Some was → layout.at n ≡ Some l → (node == n) ≡ false → (l.contents == was.contents) ≡ false
other-record-of state layout unlinked from k node n was l here is apart = ⊎_elim
    (λ (e : (l.contents == was.contents) ≡ true).
    let same = eqb-true l.contents was.contents e in
    let stands = standing-parts from blocks_256 was.contents (standing-at from state layout k.represents node was here).record_ in
    let c = some-claim was.contents (stands-some from was.contents stands.0) in
    let mine : layout.owner c.0 ≡ Some node = k.represents.holds.lies.own node was c.0 here (contents-claims was c.0 c.1) in
    let its : layout.owner c.0 ≡ Some n = k.represents.holds.lies.own n l c.0 is (contents-claims l c.0 (ap (λ (x : ℕ). has_claim (claims_of x) c.0) same ∙ c.1)) in
    absurd (let z : true ≡ false = sym (eq-eqb node n (some_inj (sym mine ∙ its))) ∙ apart in cc))
    (λ (e : (l.contents == was.contents) ≡ false). e)
    (cases_Bool (l.contents == was.contents))

-- ---- without one item

module _ (state : State) (layout : Layout) (unlinked : List ℕ) (objects : List (Option Object)) (keep : Item → Bool) (item : Item) (was : Loaded) (from : Image) (k : KeepsUncounted state layout unlinked from) (w : IsWithout state objects keep item) (here : layout.at (layout.place item) ≡ Some was) where
  abbrev node : ℕ
  node = layout.place item

  abbrev after : State
  after = without_items state objects keep

  abbrev a : IsAround item state.uses
  a = around item state.uses w.listed (k.valid.once item)

  abbrev prefix : List ℕ
  prefix = nodes_of layout a.before

  abbrev suffix : List ℕ
  suffix = nodes_of layout a.suffix

  pub kept-items : filter keep state.uses ≡ a.before ++ a.suffix
  kept-items = filter-alike keep (λ other. not (same_item item other)) state.uses w.but ∙ a.rest

  pub old-order : order state layout ≡ prefix ++ node ∷ suffix
  old-order = ap (nodes_of layout) a.is ∙ nodes-append layout a.before (item ∷ a.suffix)

  pub new-order : nodes_of layout (filter keep state.uses) ≡ prefix ++ suffix
  new-order = ap (nodes_of layout) kept-items ∙ nodes-append layout a.before a.suffix

  pub rest-list : IsAtRest (list_of from) (prefix ++ node ∷ suffix)
  rest-list = record { whole = subst (λ (ns : List ℕ). IsList (list_of from) ns) old-order k.represents.list; idle = k.represents.idle }

  node-listed : is_among (order state layout) node ≡ true
  node-listed = is_among-node layout state.uses item w.listed

  -- what stays lies elsewhere
  elsewhere : (other : Item) → keep other ≡ true → is_listed state other ≡ true → (node == layout.place other) ≡ false
  elsewhere other stays there = ⊎_elim
      (λ (e : (node == layout.place other) ≡ true).
      let same : item ≡ other = same-place state layout k.represents.holds.lies item other w.listed there (eqb-true node (layout.place other) e) in
      let no : keep other ≡ false = w.but other there ∙ ap not (ap (same_item item) (sym same) ∙ same_item_self item) in
      absurd (let z : true ≡ false = sym stays ∙ no in cc))
      (λ (e : (node == layout.place other) ≡ false). e)
      (cases_Bool (node == layout.place other))

  -- what stays has another record
  other-record : (n : ℕ) (l : Loaded) → layout.at n ≡ Some l → (node == n) ≡ false → (l.contents == was.contents) ≡ false
  other-record n l is apart = other-record-of state layout unlinked from k node n was l here is apart

  not-gone : (n : ℕ) (l : Loaded) → put layout.at node None n ≡ Some l → ((node == n) ≡ false) × (layout.at n ≡ Some l)
  not-gone n l is = ⊎_elim
      (λ (e : (node == n) ≡ true). let z : ◌≡◌ {A = Option Loaded} None (Some l) = sym (at-itself layout.at node None) ∙ ap (put layout.at node None) (eqb-true node n e) ∙ is in absurd (cc))
      (λ (e : (node == n) ≡ false). (e, sym (at-elsewhere layout.at node None n e) ∙ is))
      (cases_Bool (node == n))

  has-less : HasLess state objects keep layout (put layout.at node None) (chains_without layout was.contents) (owner_without layout node)
  has-less = record {
    stays = λ other l stays there is. at-elsewhere layout.at node None (layout.place other) (elsewhere other stays there) ∙ is;
    others = λ n l out is. at-elsewhere layout.at node None n (⊎_elim (λ (e : (node == n) ≡ true). absurd (let z : true ≡ false = sym node-listed ∙ ap (is_among (order state layout)) (eqb-true node n e) ∙ out in cc)) (λ (e : (node == n) ≡ false). e) (cases_Bool (node == n))) ∙ is;
    was = λ n l is. (not-gone n l is).1;
    chain_stays = λ n l there is among. let p = not-gone n l is in in-filtered was.contents (layout.chains (bucket_of_hash (hash l.key))) l.contents (other-record n l p.1 p.0) among;
    chain_was = λ bucket contents small among.
        let p = from-filtered was.contents (layout.chains bucket) contents among in
        let q : IsListedRecord state layout contents = k.represents.holds.lies.unchained bucket contents small p.1 in
        let apart : (node == q.node) ≡ false = ⊎_elim
        (λ (e : (node == q.node) ≡ true).
        let same : was ≡ q.loaded = some_inj (sym here ∙ ap layout.at (eqb-true node q.node e) ∙ q.here) in
        absurd (let z : true ≡ false = sym (eq-eqb contents was.contents (sym q.record_is ∙ ap (λ (x : Loaded). x.contents) (sym same))) ∙ p.0 in cc))
        (λ (e : (node == q.node) ≡ false). e)
        (cases_Bool (node == q.node)) in
        record {
          node = q.node;
          loaded = q.loaded;
          listed = ap (λ (ns : List ℕ). is_among ns q.node) new-order ∙ among-without prefix suffix node q.node apart (ap (λ (ns : List ℕ). is_among ns q.node) (sym old-order) ∙ q.listed);
          here = at-elsewhere layout.at node None q.node apart ∙ q.here;
          record_is = q.record_is;
        };
    own = λ n l c is has mine. others-still layout node c n mine (not-gone n l is).0;
  }

  pub lies-then : IsLayoutOf after (layout_removed layout node was.contents)
  lies-then = lies-less state objects keep layout (put layout.at node None) (chains_without layout was.contents) (owner_without layout node) k.represents.holds.lies w.less has-less

  -- all but the item holds, in the old chains
  pub others-hold : (store : StoreView) → Shows store layout → HoldsExcept (λ n. false) store after (layout_unlisted layout node)
  others-hold store shows = record {
    no_record = shows.no_record;
    each = λ n l is e. shows.each n l (not-gone n l is).1;
    chains = shows.chains;
    laid = λ i there. let p : IsPlacedAt after (layout_removed layout node was.contents) i = lies-then.laid i there in placed i p;
    normal = lies-then.normal;
    chained = λ n l there is e. k.represents.holds.lies.chained n l (among-before n there) (not-gone n l is).1;
    own = λ n l c is has. lies-then.own n l c is has;
    single = lies-then.single;
  } where
    among-before : (n : ℕ) → is_among (nodes_of layout (filter keep state.uses)) n ≡ true → is_among (order state layout) n ≡ true
    among-before n there = ap (λ (ns : List ℕ). is_among ns n) old-order ∙ with-more prefix suffix node n (ap (λ (ns : List ℕ). is_among ns n) (sym new-order) ∙ there) where
      with-more : (xs ys : List ℕ) (v n : ℕ) → is_among (xs ++ ys) n ≡ true → is_among (xs ++ v ∷ ys) n ≡ true
      with-more [] ys v n e = or_right (v == n) (is_among ys n) e
      with-more (x ∷ xs) ys v n e = ⊎_elim
          (λ (h : (x == n) ≡ true). or_left (x == n) (is_among (xs ++ v ∷ ys) n) h)
          (λ (h : (x == n) ≡ false). or_right (x == n) (is_among (xs ++ v ∷ ys) n) (with-more xs ys v n (rw h at e)))
          (cases_Bool (x == n))

    placed : (i : Item) → IsPlacedAt after (layout_removed layout node was.contents) i → IsPlacedAt after (layout_unlisted layout node) i
    placed (main key) p = record { loaded = p.loaded; here = p.here; row = p.row; mark = p.mark; parent = tt }
    placed (part key n) p = record { loaded = p.loaded; here = p.here; row = p.row; mark = p.mark; parent = record { name = p.parent.name; index = p.parent.index; role = p.parent.role; of_key = p.parent.of_key; listed = p.parent.listed; parent = p.parent.parent; at_parent = p.parent.at_parent; of = p.parent.of } }

  once-then : Distinct (nodes_of layout (filter keep state.uses))
  once-then = subst Distinct (sym new-order) (Distinct-without prefix node suffix (subst Distinct old-order k.represents.list.distinct))

  -- so what is kept of the list without it is the durable contents without it
  pub rest-then : (store : StoreView) → Shows store layout → map row_of_loaded (kept_among store held_rule (nodes_of layout (filter keep state.uses))) ≡ rest after
  rest-then store shows = listed-rest (λ n. false) store after (layout_unlisted layout node) (others-hold store shows) w.valid once-then (λ i there. refl)

pub removals-find : RemovalsFindEither
removals-find state layout unlinked objects keep item was from image k w here partly = (
  well,
  held-kept image ∙ ap (λ (ls : ListView). map row_of_loaded (kept_among (store_of image) held_rule (walk (completed_list ls)))) partly.shown.list
      ∙ ap (λ (ns : List ℕ). map row_of_loaded (kept_among (store_of image) held_rule ns)) (removals-turn (layout.place item) (list_of from) (nodes_of layout around-it.before) (nodes_of layout around-it.suffix) (rest-list state layout unlinked objects keep item was from k w here) partly.made) ∙ go (nat_lt partly.made 2),
) where
  well : HasSoundHeaders image
  well = partly.headers.sound k.sound

  shows : Shows (store_of image) layout
  shows = shows-same (store_of from) (store_of image) layout k.represents.holds.shows partly.shown.store

  around-it : IsAround item state.uses
  around-it = around item state.uses w.listed (k.valid.once item)

  go : (b : Bool) → map row_of_loaded (kept_among (store_of image) held_rule (if b then nodes_of layout around-it.before ++ layout.place item ∷ nodes_of layout around-it.suffix else nodes_of layout around-it.before ++ nodes_of layout around-it.suffix)) ≡ (if b then rest state else rest (without_items state objects keep))
  go true = ap (λ (ns : List ℕ). map row_of_loaded (kept_among (store_of image) held_rule ns)) (sym (old-order state layout unlinked objects keep item was from k w here)) ∙ rest-found (store_of image) state layout (record { shows = shows; lies = k.represents.holds.lies }) k.valid k.represents.list.distinct
  go false = ap (λ (ns : List ℕ). map row_of_loaded (kept_among (store_of image) held_rule ns)) (sym (new-order state layout unlinked objects keep item was from k w here)) ∙ rest-then state layout unlinked objects keep item was from k w here (store_of image) shows

-- ---- out of its chain

module _ (state : State) (layout : Layout) (unlinked : List ℕ) (objects : List (Option Object)) (keep : Item → Bool) (item : Item) (was : Loaded) (from between image : Image) (k : KeepsUncounted state layout unlinked from) (w : IsWithout state objects keep item) (here : layout.at (layout.place item) ≡ Some was) (done : IsRemovalDone from (layout.place item) between) where
  abbrev its-node : ℕ
  its-node = layout.place item

  abbrev later : State
  later = without_items state objects keep

  abbrev around-item : IsAround item state.uses
  around-item = around item state.uses w.listed (k.valid.once item)

  between-shows : Shows (store_of between) layout
  between-shows = shows-same (store_of from) (store_of between) layout k.represents.holds.shows done.partly.shown.store

  at-rest : IsAtRest (list_of between) (nodes_of layout (filter keep state.uses))
  at-rest = subst (λ (ns : List ℕ). IsAtRest (list_of between) ns) (sym (new-order state layout unlinked objects keep item was from k w here)) (done.removed (nodes_of layout around-item.before) (nodes_of layout around-item.suffix) (rest-list state layout unlinked objects keep item was from k w here))

  between-holds : HoldsExcept (λ n. false) (store_of between) later (layout_unlisted layout its-node)
  between-holds = others-hold state layout unlinked objects keep item was from k w here (store_of between) between-shows

  only-record : (word bucket : ℕ) → bucket < 65536 → is_among (layout.chains bucket) word ≡ true → IsOnlyRecord word (layout_unlisted layout its-node)
  only-record word bucket small chained claim n l has owner is =
      chained-only state layout k.represents.holds.lies bucket word small chained claim n l has (others-owned layout its-node claim n owner).1 (not-gone state layout unlinked objects keep item was from k w here n l is).1

  -- at a word of it, with these chains
  module _ (chains : ℕ → List ℕ) (u : IsUnlinking layout chains between image) (stay : (n : ℕ) (l : Loaded) → is_among (nodes_of layout (filter keep state.uses)) n ≡ true → put layout.at its-node None n ≡ Some l → is_among (chains (bucket_of_hash (hash l.key))) l.contents ≡ true) where
    pub holds-now : HoldsExcept (λ n. false) (store_of image) later (record (layout_unlisted layout its-node) { chains = chains })
    holds-now = others-unlinked (λ n. false) (store_of between) (store_of image) later (layout_unlisted layout its-node) between-holds u.word u.only (only-record u.word u.bucket u.small u.chained) chains (record { whole = u.whole; chained = λ n l there is e. stay n l there is })

    list-now : IsAtRest (list_of image) (nodes_of layout (filter keep state.uses))
    list-now = subst (λ (ls : ListView). IsAtRest ls (nodes_of layout (filter keep state.uses))) (sym u.list) at-rest

    pub well-now : HasSoundHeaders image
    well-now = u.headers.sound (done.partly.headers.sound k.sound)

    pub found-now : Finds (rest later) image
    found-now = (
      well-now,
      held-kept image ∙ ap (λ (ns : List ℕ). map row_of_loaded (kept_among (store_of image) held_rule ns)) (walk-idle (list_of image) list-now.idle ∙ walk_list (list_of image) (nodes_of layout (filter keep state.uses)) list-now.whole)
          ∙ listed-rest (λ n. false) (store_of image) later (record (layout_unlisted layout its-node) { chains = chains }) holds-now w.valid (once-then state layout unlinked objects keep item was from k w here) (λ i there. refl),
    )

  stay-old : (n : ℕ) (l : Loaded) → is_among (nodes_of layout (filter keep state.uses)) n ≡ true → put layout.at its-node None n ≡ Some l → is_among (layout.chains (bucket_of_hash (hash l.key))) l.contents ≡ true
  stay-old n l there is = between-holds.chained n l there is refl

  stay-new : (n : ℕ) (l : Loaded) → is_among (nodes_of layout (filter keep state.uses)) n ≡ true → put layout.at its-node None n ≡ Some l → is_among (chains_without layout was.contents (bucket_of_hash (hash l.key))) l.contents ≡ true
  stay-new n l there is = (has-less state layout unlinked objects keep item was from k w here).chain_stays n l there is (stay-old n l there is)

  module _ (u : IsUnlinking layout (chains_without layout was.contents) between image) (leaves : LeavesFiles between image) (seals : (n : ℕ) (l : Loaded) → layout.at n ≡ Some l → AreSealed between l → AreSealed image l) where
    abbrev now : Layout
    now = layout_removed layout its-node was.contents

    abbrev writes : List ListWrite
    writes = writes_of remove its-node (list_of from)

    abbrev before-it : List ℕ
    before-it = nodes_of layout around-item.before

    abbrev behind-it : List ℕ
    behind-it = nodes_of layout around-item.suffix

    outside : SameOutside (touch_range writes its-node) from between
    outside = outside_wider (touched_by_writes writes) (touch_range writes its-node) from between (within_left (touched_by_writes writes) (record_range its-node)) done.partly.outside

    all-leaves : LeavesFiles from image
    all-leaves = leaves-then from between image (leaves-files (touch_range writes its-node) from between (touch_spares writes its-node) (touch_sizes writes its-node) outside
        (record { crash = counter-same writes its-node from between outside 32 (omega arith); id = counter-same writes its-node from between outside 20 (omega arith) }) done.partly.headers) leaves

    listed-rest-list : IsAtRest (list_of from) (before-it ++ its-node ∷ behind-it)
    listed-rest-list = rest-list state layout unlinked objects keep item was from k w here

    sealed : AllAreSealed image now
    sealed n l is =
        let there : layout.at n ≡ Some l = (not-gone state layout unlinked objects keep item was from k w here n l is).1 in
        seals n l there (sealed-still from between writes its-node outside (removals-can from its-node before-it behind-it listed-rest-list).nodes (listed its-node (list_of from) before-it behind-it listed-rest-list.whole).good state layout k.represents done.sealed n l there (k.sealed n l there))

    represents-now : Represents (view_of image) later now
    represents-now = record {
      holds = record {
        shows = record { no_record = (holds-now (chains_without layout was.contents) u stay-new).no_record; each = λ n l is. (holds-now (chains_without layout was.contents) u stay-new).each n l is refl; chains = u.whole };
        lies = lies-then state layout unlinked objects keep item was from k w here;
      };
      list = (list-now (chains_without layout was.contents) u stay-new).whole;
      idle = (list-now (chains_without layout was.contents) u stay-new).idle;
    }

    marked : AreMarkedBy (this_id_of (byte from Index)) later now
    marked n o is live unsettled =
        let old = w.unsettled n o is live unsettled in
        let stays : is_listed later (main o.key) ≡ true = main-listed later w.valid n o true is live in
        let both : (keep (main o.key) && is_in state.uses (main o.key)) ≡ true = sym (in-filter keep state.uses (main o.key)) ∙ stays in
        let parts = and_parts (keep (main o.key)) (is_in state.uses (main o.key)) both in
        let apart : (its-node == layout.place (main o.key)) ≡ false = elsewhere state layout unlinked objects keep item was from k w here (main o.key) parts.0 parts.1 in
        subst (λ (x : Option Loaded). IfSome x (λ loaded. loaded.dirty ≡ this_id_of (byte from Index))) (sym (at-elsewhere layout.at its-node None (layout.place (main o.key)) apart))
        (subst (λ (key : List ℕ). IfSome (layout.at (layout.place (main key))) (λ loaded. loaded.dirty ≡ this_id_of (byte from Index))) old.2 (k.session.marked n old.0 old.1 old.3 old.4))

    pub removed-kept : KeepsUncounted later now (words_of was ++ unlinked) image
    removed-kept = node-gone state later layout now unlinked k.numbers its-node was from image k here all-leaves before-it (behind-it ++ doomed_nodes layout k.numbers)
        (ap (λ (ns : List ℕ). ns ++ doomed_nodes layout k.numbers) (old-order state layout unlinked objects keep item was from k w here) ∙ append_assoc before-it (its-node ∷ behind-it) (doomed_nodes layout k.numbers))
        (ap (λ (ns : List ℕ). ns ++ doomed_nodes layout k.numbers) (new-order state layout unlinked objects keep item was from k w here) ∙ append_assoc before-it behind-it (doomed_nodes layout k.numbers))
        refl refl w.valid represents-now (numbers-same state later layout now k.numbers (λ n. same-slots (object_at later n) (object_at state n) (w.dead n)) (λ n there. refl) k.owners.doomed) sealed
        (subst (λ (id : ℕ). AreMarkedBy id later now) (sym all-leaves.session.id) marked)
      where
        is-dead : (o : Option Object) → is_dead o ≡ is_doomed_slot o
        is-dead None = refl
        is-dead (Some o) = refl

        same-slots : (o p : Option Object) → is_doomed_slot o ≡ is_doomed_slot p → is_dead o ≡ is_dead p
        same-slots o p e = is-dead o ∙ e ∙ sym (is-dead p)

pub unlinking-finds : UnlinkingFindsTheOthers
unlinking-finds state layout unlinked objects keep item was from between image k w here done = (
  λ u. found-now state layout unlinked objects keep item was from between image k w here done layout.chains u (stay-old state layout unlinked objects keep item was from between image k w here done),
  λ u. found-now state layout unlinked objects keep item was from between image k w here done (chains_without layout was.contents) u (stay-new state layout unlinked objects keep item was from between image k w here done),
)

pub removed-unlinked : RemovedItemsAreUnlinked
removed-unlinked state layout unlinked objects keep item was from between image k w here done u leaves seals = removed-kept state layout unlinked objects keep item was from between image k w here done u leaves seals
