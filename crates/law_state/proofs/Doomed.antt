-- A live object without parts is doomed.
use Rattle.std.proofs.Common.{◌≡◌, ◌≢◌, ℕ, List, [], ◌∷◌, ◌++◌, map, refl, ap, sym, ◌∙◌, subst, arith, true, false, Option, Some, ⊎_elim, append_assoc}
use Rattle.std.specs.Prelude.{◌==◌, not, filter}
use Rattle.std.specs.List.{cons_option, filter_map, sum_by}
use Rattle.std.specs.List.Sorted.{IsPermutation}
use Rattle.std.proofs.Common.{length, length-append}
use Rattle.std.proofs.lemmas.List.Sums.{sum_by-cons}
use Rattle.spec_folder.specs.Found.{charge_of}
use Rattle.std.specs.Str.{bytes_eq}
use Rattle.std.proofs.lemmas.Bool.{cases_Bool, cases_eq, eq-eqb, eqb-true, or_parts}
use Rattle.std.proofs.lemmas.List.Sorted.{IsPermutation-append_right, IsPermutation-sym, IsPermutation-trans}
use Rattle.spec_image.proofs.Footprints.{outside_wider, within_left}
use Rattle.spec_image.proofs.Runs.{some_inj}
use Rattle.spec_image.specs.Footprint.{SameOutside}
use Rattle.spec_image.specs.Image.{Image, Index, byte}
use Rattle.blk_model.proofs.Same.{same_bytes}
use Rattle.blk_model.specs.Effects.{doomed}
use Rattle.blk_model.specs.Items.{Item, main, part, same_item}
use Rattle.blk_model.specs.State.{State, Object, object_at}
use Rattle.spec_format.specs.BlockFiles.{is_among}
use Rattle.spec_format.specs.Hash.{hash}
use Rattle.spec_format.specs.Headers.{this_id_of}
use Rattle.spec_format.specs.Sealed.{record_range}
use Rattle.law_folder.specs.CommandLaws.{IsDoomedNow}
use Rattle.spec_folder.specs.Chains.{bucket_of_hash}
use Rattle.spec_folder.specs.Completion.{remove}
use Rattle.spec_folder.specs.Layout.{IsListedRecord, Layout, Represents, is_in, is_listed, nodes_of, order}
use Rattle.spec_folder.specs.ListPlans.{writes_of}
use Rattle.spec_folder.specs.ListSteps.{touched_by_writes}
use Rattle.spec_folder.specs.ListView.{Distinct, IsAtRest, IsList, ListView, ListWrite}
use Rattle.spec_folder.specs.Loads.{Loaded}
use Rattle.spec_folder.specs.Removal.{HasLess, is_of_another}
use Rattle.spec_folder.specs.StandsFor.{IsOwner}
use Rattle.spec_folder.specs.Tidy.{doomed_nodes}
use Rattle.spec_folder.specs.View.{list_of, view_of}
use Rattle.law_folder.proofs.states.Changing.{apart-sym, at-itself}
use Rattle.law_folder.proofs.commands.Dooming.{doomed-is-represented}
use Rattle.law_folder.proofs.lists.ListCompletions.{listed}
use Rattle.law_folder.proofs.lists.Lists.{has_not}
use Rattle.law_folder.proofs.states.Moving.{moved-among, moved-distinct, moved-same, sums-add}
use Rattle.law_folder.proofs.commands.Opening.{IsAround, around, nodes-append}
use Rattle.law_folder.proofs.states.Settling.{main-listed}
use Rattle.law_folder.proofs.states.Tidying.{counter-same, sealed-still, touch_range, touch_sizes, touch_spares}
use Rattle.law_folder.proofs.lists.WordTurns.{removals-can}
use Rattle.law_state.specs.Arranging.{IsArranged, LeavesFiles}
use Rattle.law_state.specs.DoomLaws.{CanBeDoomed, DoomedObjectsAreKept, DoomedObjectsAreOneLess, IsUnchained, layout_doomed}
use Rattle.law_state.specs.Keeping.{AllAreSealed, AreMarkedBy, KeepsUncounted, all_loaded, all_nodes, words_in_use}
use Rattle.law_state.specs.RemovalLaws.{IsRemovalDone, chains_without}
use Rattle.law_state.proofs.Arranging.{rearranged}
use Rattle.law_state.proofs.DoomedNumbers.{doomed-are, its-main, not-doomed, numbers-are, slot-else, slot-is}
use Rattle.law_state.proofs.Gone.{among-without}
use Rattle.law_state.proofs.Headers.{stand-same}
use Rattle.law_state.proofs.Leaving.{leaves-files, leaves-then}
use Rattle.law_state.proofs.Removals.{filter-alike, from-filtered, in-filtered, other-record-of}
use Rattle.law_state.proofs.Touched.{node-to-front, words_at}

-- a word may be put between others
pub distinct-in : (xs : List ℕ) (n : ℕ) (ys : List ℕ) → is_among (xs ++ ys) n ≡ false → Distinct (xs ++ ys) → Distinct (xs ++ n ∷ ys)
distinct-in [] n ys none once = (none, once)
distinct-in (x ∷ xs) n ys none once =
    let parts = or_parts (x == n) (is_among (xs ++ ys) n) none in
    (sym (moved-among xs n ys x) ∙ (let e : (n == x) ≡ false = apart-sym x n parts.0 in rw e once.0), distinct-in xs n ys parts.1 once.1)

-- where no part of a key is listed, all listed items but its main item are of other keys
pub other-items : (state : State) (key : List ℕ) → ((n : ℕ) → is_listed state (part key n) ≡ false) → (i : Item) → is_in state.uses i ≡ true → is_of_another key i ≡ not (same_item (main key) i)
other-items state key alone (main other) there = refl
other-items state key alone (part other n) there = ⊎_elim
    (λ (e : bytes_eq key other ≡ true). absurd (let z : true ≡ false = sym there ∙ ap (λ (q : List ℕ). is_listed state (part q n)) (sym (same_bytes key other e)) ∙ alone n in cc))
    (λ (e : bytes_eq key other ≡ false). ap not e)
    (cases_Bool (bytes_eq key other))

module _ (state : State) (layout : Layout) (unlinked : List ℕ) (number : ℕ) (object : Object) (l : Loaded) (from between image : Image) (k : KeepsUncounted state layout unlinked from) (can : CanBeDoomed state layout number object l) (done : IsRemovalDone from (layout.place (main object.key)) between) (u : IsUnchained state layout (layout.place (main object.key)) l between image) where
  abbrev node : ℕ
  node = layout.place (main object.key)

  abbrev after : State
  after = doomed number state (Some object)

  abbrev now : Layout
  now = layout_doomed layout number node l

  abbrev a : IsAround (main object.key) state.uses
  a = around (main object.key) state.uses (its-main state layout number object l k.numbers k.valid k.owners can.lies can.named) (k.valid.once (main object.key))

  abbrev prefix : List ℕ
  prefix = nodes_of layout a.before

  abbrev suffix : List ℕ
  suffix = nodes_of layout a.suffix

  abbrev rest-nodes : List ℕ
  rest-nodes = doomed_nodes layout k.numbers

  kept-items : filter (is_of_another object.key) state.uses ≡ a.before ++ a.suffix
  kept-items = filter-alike (is_of_another object.key) (λ other. not (same_item (main object.key) other)) state.uses (other-items state object.key can.alone) ∙ a.rest

  old-order : order state layout ≡ prefix ++ node ∷ suffix
  old-order = ap (nodes_of layout) a.is ∙ nodes-append layout a.before (main object.key ∷ a.suffix)

  new-order : nodes_of layout (filter (is_of_another object.key) state.uses) ≡ prefix ++ suffix
  new-order = ap (nodes_of layout) kept-items ∙ nodes-append layout a.before a.suffix

  after-order : order after now ≡ prefix ++ suffix
  unfolding doomed
  after-order = new-order

  rest-list : IsAtRest (list_of from) (prefix ++ node ∷ suffix)
  rest-list = record { whole = subst (λ (ns : List ℕ). IsList (list_of from) ns) old-order k.represents.list; idle = k.represents.idle }

  at-rest : IsAtRest (list_of image) (nodes_of layout (filter (is_of_another object.key) state.uses))
  at-rest = subst (λ (ls : ListView). IsAtRest ls (nodes_of layout (filter (is_of_another object.key) state.uses))) (sym u.list) (subst (λ (ns : List ℕ). IsAtRest (list_of between) ns) (sym new-order) (done.removed prefix suffix rest-list))

  nodes-now : all_nodes after now (number ∷ k.numbers) ≡ (prefix ++ suffix) ++ node ∷ rest-nodes
  nodes-now = ap (λ (ns : List ℕ). ns ++ map now.place_of_doomed (number ∷ k.numbers)) after-order
      ∙ ap (λ (ns : List ℕ). (prefix ++ suffix) ++ ns) ((λ i. at-itself layout.place_of_doomed number node i ∷ map now.place_of_doomed k.numbers) ∙ ap (λ (ns : List ℕ). node ∷ ns) (doomed-are state layout number object l k.numbers k.valid k.owners can.lies can.named layout.at (chains_without layout l.contents) layout.owner k.numbers (not-doomed state layout number object l k.numbers k.valid k.owners can.lies can.named)))

  nodes-then : all_nodes state layout k.numbers ≡ prefix ++ node ∷ (suffix ++ rest-nodes)
  nodes-then = ap (λ (ns : List ℕ). ns ++ rest-nodes) old-order ∙ append_assoc prefix (node ∷ suffix) rest-nodes

  -- with the node in front they are one
  front : node ∷ prefix ++ (suffix ++ rest-nodes) ≡ node ∷ (prefix ++ suffix) ++ rest-nodes
  front = ap (λ (ns : List ℕ). node ∷ ns) (sym (append_assoc prefix suffix rest-nodes))

  among-same : (n : ℕ) → is_among (all_nodes after now (number ∷ k.numbers)) n ≡ is_among (all_nodes state layout k.numbers) n
  among-same n = ap (λ (ns : List ℕ). is_among ns n) nodes-now ∙ sym (moved-among (prefix ++ suffix) node rest-nodes n) ∙ ap (λ (ns : List ℕ). is_among ns n) (sym front) ∙ moved-among prefix node (suffix ++ rest-nodes) n ∙ ap (λ (ns : List ℕ). is_among ns n) (sym nodes-then)

  once-front : Distinct (node ∷ (prefix ++ suffix) ++ rest-nodes)
  once-front = subst Distinct front (moved-distinct prefix node (suffix ++ rest-nodes) (subst Distinct nodes-then k.owners.once))

  same-words : IsPermutation (words_in_use unlinked (all_loaded state layout k.numbers)) (words_in_use unlinked (all_loaded after now (number ∷ k.numbers)))
  same-words = IsPermutation-append_right unlinked (words_at layout.at (all_nodes state layout k.numbers)) (words_at layout.at (all_nodes after now (number ∷ k.numbers)))
      (subst (λ (ns : List ℕ). IsPermutation (words_at layout.at ns) (words_at layout.at (all_nodes after now (number ∷ k.numbers)))) (sym nodes-then)
      (subst (λ (ns : List ℕ). IsPermutation (words_at layout.at (prefix ++ node ∷ (suffix ++ rest-nodes))) (words_at layout.at ns)) (sym nodes-now)
      (IsPermutation-trans (words_at layout.at (prefix ++ node ∷ (suffix ++ rest-nodes))) (words_at layout.at (node ∷ (prefix ++ suffix) ++ rest-nodes)) (words_at layout.at ((prefix ++ suffix) ++ node ∷ rest-nodes))
      (subst (λ (ns : List ℕ). IsPermutation (words_at layout.at (prefix ++ node ∷ (suffix ++ rest-nodes))) (words_at layout.at ns)) front (node-to-front layout.at prefix node (suffix ++ rest-nodes)))
      (IsPermutation-sym (words_at layout.at ((prefix ++ suffix) ++ node ∷ rest-nodes)) (words_at layout.at (node ∷ (prefix ++ suffix) ++ rest-nodes)) (node-to-front layout.at (prefix ++ suffix) node rest-nodes)))))

  -- what lies where
  apart-node : (n : ℕ) → is_among (nodes_of layout (filter (is_of_another object.key) state.uses)) n ≡ true → (node == n) ≡ false
  apart-node n there = ⊎_elim
      (λ (e : (node == n) ≡ true). absurd (let z : true ≡ false = sym there ∙ ap (λ (ns : List ℕ). is_among ns n) new-order ∙ ap (is_among (prefix ++ suffix)) (sym (eqb-true node n e)) ∙ has_not prefix node suffix (subst Distinct old-order k.represents.list.distinct) in cc))
      (λ (e : (node == n) ≡ false). e)
      (cases_Bool (node == n))

  has-less : HasLess state after.objects (is_of_another object.key) layout layout.at (chains_without layout l.contents) layout.owner
  has-less = record {
    stays = λ other x stays there is. is;
    others = λ n x out is. is;
    was = λ n x is. is;
    chain_stays = λ n x there is among. in-filtered l.contents (layout.chains (bucket_of_hash (hash x.key))) x.contents (other-record-of state layout unlinked from k node n l x can.lies.at is (apart-node n there)) among;
    chain_was = λ bucket contents small among.
        let p = from-filtered l.contents (layout.chains bucket) contents among in
        let q : IsListedRecord state layout contents = k.represents.holds.lies.unchained bucket contents small p.1 in
        let apart : (node == q.node) ≡ false = ⊎_elim
        (λ (e : (node == q.node) ≡ true).
        let same : l ≡ q.loaded = some_inj (sym can.lies.at ∙ ap layout.at (eqb-true node q.node e) ∙ q.here) in
        absurd (let z : true ≡ false = sym (eq-eqb contents l.contents (sym q.record_is ∙ ap (λ (x : Loaded). x.contents) (sym same))) ∙ p.0 in cc))
        (λ (e : (node == q.node) ≡ false). e)
        (cases_Bool (node == q.node)) in
        record {
          node = q.node;
          loaded = q.loaded;
          listed = ap (λ (ns : List ℕ). is_among ns q.node) new-order ∙ among-without prefix suffix node q.node apart (ap (λ (ns : List ℕ). is_among ns q.node) (sym old-order) ∙ q.listed);
          here = q.here;
          record_is = q.record_is;
        };
    own = λ n x c is has mine. mine;
  }

  doomed-now : IsDoomedNow state layout number object l layout.at (chains_without layout l.contents) layout.owner
  doomed-now = record { lies = can.lies; node_fields = can.named; less = has-less; stays = can.lies.at }

  represents-now : Represents (view_of image) after now
  represents-now = doomed-is-represented (λ n. n == node) (view_of image) state layout k.represents.holds.lies k.valid number object l layout.at (chains_without layout l.contents) layout.owner doomed-now u.holds (λ n other is e. sym (eqb-true n node e)) u.loads at-rest

  -- checksums and files
  abbrev writes : List ListWrite
  writes = writes_of remove node (list_of from)

  outside : SameOutside (touch_range writes node) from between
  outside = outside_wider (touched_by_writes writes) (touch_range writes node) from between (within_left (touched_by_writes writes) (record_range node)) done.partly.outside

  leaves : LeavesFiles from image
  leaves = leaves-then from between image (leaves-files (touch_range writes node) from between (touch_spares writes node) (touch_sizes writes node) outside
      (record { crash = counter-same writes node from between outside 32 (omega arith); id = counter-same writes node from between outside 20 (omega arith) }) done.partly.headers) u.leaves

  sealed : AllAreSealed image now
  sealed n x is = u.sealed n x is (sealed-still from between writes node outside (removals-can from node prefix suffix rest-list).nodes (listed node (list_of from) prefix suffix rest-list.whole).good state layout k.represents done.sealed n x is (k.sealed n x is))

  marked : AreMarkedBy (this_id_of (byte from Index)) after now
  marked n z is live unsettled = ⊎_elim
      (λ (e : n ≡ number).
      let same_one : (let y : Object = record object { live = false; parts = [] } in y) ≡ z = some_inj (sym (slot-is state layout number object l k.numbers k.valid k.owners can.lies can.named) ∙ ap (object_at after) (sym e) ∙ is) in
      absurd (let c : false ≡ true = ap (λ (x : Object). x.live) same_one ∙ live in cc))
      (λ (e : n ≢ number). k.session.marked n z (sym (slot-else state layout number object l k.numbers k.valid k.owners can.lies can.named n e) ∙ is) live unsettled)
      (cases_eq n number)

  arranged : IsArranged after now (number ∷ k.numbers) unlinked image
  arranged = record {
    valid = can.valid;
    represents = represents-now;
    owners = record {
      exact = λ c n is. let o : IsOwner state layout (doomed_nodes layout k.numbers) c n = k.owners.exact c n is in record { among = among-same n ∙ o.among; loaded = o.loaded; here = o.here; claims = o.claims };
      once = subst Distinct (sym nodes-now) (distinct-in (prefix ++ suffix) node rest-nodes once-front.0 once-front.1);
      doomed = numbers-are state layout number object l k.numbers k.valid k.owners can.lies can.named layout.at (chains_without layout l.contents) layout.owner;
    };
    unlinked_words = record { stand = stand-same from image leaves.headers unlinked k.unlinked_words.stand; free = k.unlinked_words.free; single = k.unlinked_words.single };
    sealed = sealed;
    marked = subst (λ (id : ℕ). AreMarkedBy id after now) (sym leaves.session.id) marked;
  }

  pub doomed-kept : KeepsUncounted after now unlinked image
  doomed-kept = rearranged state after layout now unlinked unlinked (number ∷ k.numbers) from image k leaves arranged same-words

pub objects-doomed : DoomedObjectsAreKept
objects-doomed state layout unlinked number object loaded from between image k can done u = doomed-kept state layout unlinked number object loaded from between image k can done u

-- ---- counting

pub doomed-less : DoomedObjectsAreOneLess
unfolding doomed
doomed-less state layout unlinked number object loaded from k can = record {
  items =
      let kept = ap length items-are in
      let one = length-append a.before a.suffix in
      let two = length-append a.before (main object.key ∷ a.suffix) in
      let all = ap length a.is in
      omega (arith, kept, one, two, all);
  bytes =
      let now = ap (λ (items : List Item). sum_by charge_of (filter_map layout.at (nodes_of layout items))) items-are ∙ ap (λ (ns : List ℕ). sum_by charge_of (filter_map layout.at ns)) (nodes-append layout a.before a.suffix) in
      let old = ap (λ (items : List Item). sum_by charge_of (filter_map layout.at (nodes_of layout items))) a.is
      ∙ ap (λ (ns : List ℕ). sum_by charge_of (filter_map layout.at ns)) (nodes-append layout a.before (main object.key ∷ a.suffix))
      ∙ sym (moved-same (λ (ns : List ℕ). sum_by charge_of (filter_map layout.at ns)) (sums-add charge_of layout.at) (nodes_of layout a.before) (layout.place (main object.key)) (nodes_of layout a.suffix))
      ∙ ap (λ (o : Option Loaded). sum_by charge_of (cons_option o (filter_map layout.at (nodes_of layout a.before ++ nodes_of layout a.suffix)))) can.lies.at
      ∙ sum_by-cons charge_of loaded (filter_map layout.at (nodes_of layout a.before ++ nodes_of layout a.suffix)) in
      omega (arith, now, old);
} where
  a : IsAround (main object.key) state.uses
  a = around (main object.key) state.uses (main-listed state k.valid number object true can.lies.here can.lies.live) (k.valid.once (main object.key))

  items-are : filter (is_of_another object.key) state.uses ≡ a.before ++ a.suffix
  items-are = filter-alike (is_of_another object.key) (λ other. not (same_item (main object.key) other)) state.uses (other-items state object.key can.alone) ∙ a.rest
