-- A live object that a handle names is doomed, and its parts are removed: where its nodes are then, and their words.
use Rattle.std.proofs.Common.{◌≡◌, ◌≢◌, ℕ, ◌<◌, List, [], ◌∷◌, ◌++◌, refl, ap, sym, ◌∙◌, subst, Bool, true, false, Option, Some, ⊎_elim, append_assoc}
use Rattle.std.specs.Prelude.{◌||◌, ◌&&◌, ◌==◌, IfSome, filter, not}
use Rattle.std.specs.List.{cons_option, filter_map, flat_map}
use Rattle.std.specs.declared.result.Result.TheVariants.{Ok}
use Rattle.std.specs.List.Sorted.{IsPermutation}
use Rattle.std.specs.Str.{bytes_eq}
use Rattle.std.proofs.lemmas.Bool.{cases_Bool, cases_eq, eq-eqb, or_left, or_right}
use Rattle.std.proofs.lemmas.List.Elements.{filter-append}
use Rattle.spec_image.proofs.Runs.{some_inj}
use Rattle.blk_model.proofs.Same.{one_item}
use Rattle.blk_model.specs.Effects.{doomed}
use Rattle.blk_model.specs.Items.{Item, main, part, same_item}
use Rattle.spec_format.specs.BlockFiles.{is_among}
use Rattle.law_folder.specs.CommandLaws.{IsDoomedNow, IsPlacedAsLive}
use Rattle.spec_folder.specs.ListView.{Distinct}
use Rattle.spec_folder.specs.Removal.{HasLess, is_of_another}
use Rattle.spec_folder.specs.StandsFor.{IsOwner}
use Rattle.spec_folder.specs.Tidy.{doomed_nodes}
use Rattle.law_folder.proofs.commands.Dooming.{doomed-is-represented}
use Rattle.law_folder.proofs.commands.Opening.{IsAround, around, nodes-append}
use Rattle.law_folder.proofs.commands.Removing.{in-filter}
use Rattle.law_folder.proofs.states.Changing.{at-itself}
use Rattle.law_folder.proofs.states.Laid.{IsNodeOf, node-of}
use Rattle.law_folder.proofs.states.Moving.{moved-among, moved-distinct}
use Rattle.law_folder.proofs.states.Settling.{main-listed}
use Rattle.std.proofs.lemmas.Bool.{and_parts}
use Rattle.law_state.specs.GroupLaws.{at_without, gone_nodes, owners_without}
use Rattle.law_state.proofs.Doomed.{distinct-in}
use Rattle.law_state.proofs.DoomedNumbers.{doomed-are, its-main, not-doomed, numbers-are, slot-else, slot-is}
use Rattle.law_state.proofs.Groups as groups
use Rattle.law_state.proofs.Touched.{node-to-front, words_at}
use Rattle.std.proofs.lemmas.List.Sorted.{IsPermutation-sym, IsPermutation-trans}
use Rattle.spec_image.specs.Image.{Image}
use Rattle.blk_model.specs.State.{State, Object, IsValidState, is_named, object_at}
use Rattle.spec_format.proofs.Among.{is_among-append}
use Rattle.spec_format.specs.Headers.{table_length}
use Rattle.spec_format.specs.Records as records
use Rattle.spec_folder.specs.Layout.{HoldsExcept, IsLayoutOf, IsListedRecord, Layout, Represents, is_listed, nodes_of, order}
use Rattle.spec_folder.specs.ListImages.{HasListAtRest}
use Rattle.spec_folder.specs.Loads.{Loaded, load, unchained_rule}
use Rattle.spec_folder.specs.Sound.{words_of}
use Rattle.spec_folder.specs.View.{store_of, view_of}
use Rattle.law_state.specs.Keeping.{AreMarkedBy, AreOwners, all_nodes}
use Rattle.law_state.specs.WholeRemovals.{is_no_part_of, layout_doomed_whole, part_nodes}

-- ---- items of a key

-- an item of another key stays where the parts are removed
stays-there : (key : List ℕ) (i : Item) → is_of_another key i ≡ true → is_no_part_of key i ≡ true
stays-there key i e = or_left (is_of_another key i) (same_item (main key) i) e

main-stays : (key other : List ℕ) → is_no_part_of key (main other) ≡ true
main-stays key other = go (bytes_eq key other) where
  go : (b : Bool) → (not b || b) ≡ true
  go true = refl
  go false = refl

-- of those that stay, all but the main item are of other keys
but-main : (key : List ℕ) (i : Item) → is_of_another key i ≡ (is_no_part_of key i && not (same_item (main key) i))
but-main key (main other) = go (bytes_eq key other) where
  go : (b : Bool) → not b ≡ ((not b || b) && not b)
  go true = refl
  go false = refl
but-main key (part other n) = go (bytes_eq key other) where
  go : (b : Bool) → not b ≡ ((not b || false) && true)
  go true = refl
  go false = refl

pub filter-both : (p q r : Item → Bool) → ((i : Item) → r i ≡ (p i && q i)) → (items : List Item) → filter r items ≡ filter p (filter q items)
filter-both p q r same [] = refl
filter-both p q r same (i ∷ items) =
    let more = filter-both p q r same items in
    ⊎_elim
    (λ (b : q i ≡ true). ⊎_elim
    (λ (a : p i ≡ true). let c : r i ≡ true = same i ∙ ap (λ (x : Bool). x && q i) a ∙ b in rw (b, c) (rw a (ap (λ (xs : List Item). i ∷ xs) more)))
    (λ (a : p i ≡ false). let c : r i ≡ false = same i ∙ ap (λ (x : Bool). x && q i) a in rw (b, c) (rw a more))
    (cases_Bool (p i)))
    (λ (b : q i ≡ false). let c : r i ≡ false = same i ∙ ap (λ (x : Bool). p i && x) b ∙ away (p i) in rw (b, c) more)
    (cases_Bool (q i))
  where
    away : (a : Bool) → (a && false) ≡ false
    away true = refl
    away false = refl

module _ (state : State) (layout : Layout) (number : ℕ) (object : Object) (l : Loaded) (chains : ℕ → List ℕ) (numbers : List ℕ) (valid : IsValidState state) (laid : IsLayoutOf state layout) (owners : AreOwners state layout numbers) (lies : IsPlacedAsLive state layout number object l) (held : is_named state number ≡ true) where
  abbrev pub key : List ℕ
  key = object.key

  abbrev pub node : ℕ
  node = layout.place (main key)

  abbrev pub keep : Item → Bool
  keep = is_no_part_of key

  abbrev pub parts : List ℕ
  parts = part_nodes state layout key

  abbrev pub at : ℕ → Option Loaded
  at = at_without layout parts

  abbrev pub after : State
  after = doomed number state (Some object)

  abbrev pub now : Layout
  now = layout_doomed_whole state layout number key chains

  abbrev pub rest-nodes : List ℕ
  rest-nodes = doomed_nodes layout numbers

  pub listed : is_listed state (main key) ≡ true
  listed = its-main state layout number object l numbers valid owners lies held

  abbrev pub a : IsAround (main key) state.uses
  a = around (main key) state.uses listed (valid.once (main key))

  abbrev pub before : List Item
  before = filter keep a.before

  abbrev pub behind : List Item
  behind = filter keep a.suffix

  abbrev pub prefix : List ℕ
  prefix = nodes_of layout before

  abbrev pub suffix : List ℕ
  suffix = nodes_of layout behind

  -- the items that stay, with the main item and without it
  kept-items : filter keep state.uses ≡ before ++ main key ∷ behind
  kept-items = ap (filter keep) a.is ∙ filter-append keep a.before (main key ∷ a.suffix) ∙ ap (λ (xs : List Item). before ++ xs) (let e = main-stays key key in rw e refl)

  pub others-are : filter (is_of_another key) state.uses ≡ before ++ behind
  others-are = filter-both keep (λ i. not (same_item (main key) i)) (is_of_another key) (but-main key) state.uses ∙ ap (filter keep) a.rest ∙ filter-append keep a.before a.suffix

  stay-is : nodes_of layout (filter keep state.uses) ≡ prefix ++ node ∷ suffix
  stay-is = ap (nodes_of layout) kept-items ∙ nodes-append layout before (main key ∷ behind)

  pub new-order : nodes_of layout (filter (is_of_another key) state.uses) ≡ prefix ++ suffix
  new-order = ap (nodes_of layout) others-are ∙ nodes-append layout before behind

  pub after-order : order after now ≡ prefix ++ suffix
  unfolding doomed
  after-order = new-order

  -- nodes
  pub node-stays : is_among parts node ≡ false
  node-stays = groups.stay-apart state layout keep numbers laid owners node (groups.stays-in state layout keep numbers laid owners (main key) listed (main-stays key key))

  pub others-stay : (n : ℕ) → is_among (nodes_of layout (filter (is_of_another key) state.uses)) n ≡ true → is_among parts n ≡ false
  others-stay n there = groups.stay-apart state layout keep numbers laid owners n
      (ap (λ (ns : List ℕ). is_among ns n) stay-is ∙ sym (moved-among prefix node suffix n) ∙ or_right (node == n) (is_among (prefix ++ suffix) n) (ap (λ (ns : List ℕ). is_among ns n) (sym new-order) ∙ there))

  pub nodes-now : all_nodes after now (number ∷ numbers) ≡ (prefix ++ suffix) ++ node ∷ rest-nodes
  nodes-now = ap (λ (ns : List ℕ). ns ++ doomed_nodes now (number ∷ numbers)) after-order
      ∙ ap (λ (ns : List ℕ). (prefix ++ suffix) ++ ns) (doomed-first ∙ ap (λ (ns : List ℕ). node ∷ ns) (doomed-are state layout number object l numbers valid owners lies held at chains (owners_without layout parts) numbers (not-doomed state layout number object l numbers valid owners lies held)))
    where
      doomed-first : doomed_nodes now (number ∷ numbers) ≡ node ∷ doomed_nodes now numbers
      doomed-first = ap (λ (n : ℕ). n ∷ doomed_nodes now numbers) (at-itself layout.place_of_doomed number node)

  nodes-left : nodes_of layout (filter keep state.uses) ++ rest-nodes ≡ prefix ++ node ∷ (suffix ++ rest-nodes)
  nodes-left = ap (λ (ns : List ℕ). ns ++ rest-nodes) stay-is ∙ append_assoc prefix (node ∷ suffix) rest-nodes

  front : node ∷ prefix ++ (suffix ++ rest-nodes) ≡ node ∷ (prefix ++ suffix) ++ rest-nodes
  front = ap (λ (ns : List ℕ). node ∷ ns) (sym (append_assoc prefix suffix rest-nodes))

  among-same : (n : ℕ) → is_among (all_nodes after now (number ∷ numbers)) n ≡ is_among (nodes_of layout (filter keep state.uses) ++ rest-nodes) n
  among-same n = ap (λ (ns : List ℕ). is_among ns n) nodes-now ∙ sym (moved-among (prefix ++ suffix) node rest-nodes n) ∙ ap (λ (ns : List ℕ). is_among ns n) (sym front) ∙ moved-among prefix node (suffix ++ rest-nodes) n ∙ ap (λ (ns : List ℕ). is_among ns n) (sym nodes-left)

  once-front : Distinct (node ∷ (prefix ++ suffix) ++ rest-nodes)
  once-front = subst Distinct front (moved-distinct prefix node (suffix ++ rest-nodes) (subst Distinct nodes-left (groups.stay-once state layout keep numbers laid owners)))

  -- words
  pub moved-words : IsPermutation (words_at at (nodes_of layout (filter keep state.uses) ++ rest-nodes)) (words_at at (all_nodes after now (number ∷ numbers)))
  moved-words = subst (λ (ns : List ℕ). IsPermutation (words_at at ns) (words_at at (all_nodes after now (number ∷ numbers)))) (sym nodes-left)
      (subst (λ (ns : List ℕ). IsPermutation (words_at at (prefix ++ node ∷ (suffix ++ rest-nodes))) (words_at at ns)) (sym nodes-now)
      (IsPermutation-trans (words_at at (prefix ++ node ∷ (suffix ++ rest-nodes))) (words_at at (node ∷ (prefix ++ suffix) ++ rest-nodes)) (words_at at ((prefix ++ suffix) ++ node ∷ rest-nodes))
      (subst (λ (ns : List ℕ). IsPermutation (words_at at (prefix ++ node ∷ (suffix ++ rest-nodes))) (words_at at ns)) front (node-to-front at prefix node (suffix ++ rest-nodes)))
      (IsPermutation-sym (words_at at ((prefix ++ suffix) ++ node ∷ rest-nodes)) (words_at at (node ∷ (prefix ++ suffix) ++ rest-nodes)) (node-to-front at (prefix ++ suffix) node rest-nodes))))

  -- what is left without the parts is at the nodes of other keys and of the doomed objects, and at its own
  left-apart : (n : ℕ) → is_among (nodes_of layout (filter (is_of_another key) state.uses) ++ rest-nodes) n ≡ true → is_among parts n ≡ false
  left-apart n there = ⊎_elim
      (λ (e : is_among (nodes_of layout (filter (is_of_another key) state.uses)) n ≡ true). others-stay n e)
      (λ (e : is_among (nodes_of layout (filter (is_of_another key) state.uses)) n ≡ false).
      let h : (is_among (nodes_of layout (filter (is_of_another key) state.uses)) n || is_among rest-nodes n) ≡ true = sym (is_among-append (nodes_of layout (filter (is_of_another key) state.uses)) rest-nodes n) ∙ there in
      groups.doomed-apart state layout keep numbers laid owners n (rw e at h))
      (cases_Bool (is_among (nodes_of layout (filter (is_of_another key) state.uses)) n))

  own-words : words_at at (node ∷ (prefix ++ suffix) ++ rest-nodes) ≡ words_of l ++ words_at layout.at (nodes_of layout (filter (is_of_another key) state.uses) ++ rest-nodes)
  own-words = ap (λ (o : Option Loaded). flat_map words_of (cons_option o (filter_map at ((prefix ++ suffix) ++ rest-nodes)))) (groups.still-there state layout keep numbers laid owners node l node-stays lies.at)
      ∙ ap (λ (ns : List ℕ). words_of l ++ words_at at (ns ++ rest-nodes)) (sym new-order)
      ∙ ap (λ (ls : List Loaded). words_of l ++ flat_map words_of ls) (groups.same-at layout parts (nodes_of layout (filter (is_of_another key) state.uses) ++ rest-nodes) left-apart)

  pub words-now : IsPermutation (words_of l ++ words_at layout.at (nodes_of layout (filter (is_of_another key) state.uses) ++ rest-nodes)) (words_at at (all_nodes after now (number ∷ numbers)))
  words-now = subst (λ (ws : List ℕ). IsPermutation ws (words_at at (all_nodes after now (number ∷ numbers)))) own-words
      (subst (λ (ns : List ℕ). IsPermutation (words_at at (node ∷ (prefix ++ suffix) ++ rest-nodes)) (words_at at ns)) (sym nodes-now)
      (IsPermutation-sym (words_at at ((prefix ++ suffix) ++ node ∷ rest-nodes)) (words_at at (node ∷ (prefix ++ suffix) ++ rest-nodes)) (node-to-front at (prefix ++ suffix) node rest-nodes)))

  pub owners-now : AreOwners after now (number ∷ numbers)
  owners-now = record {
    exact = λ c n is.
        let p = groups.was-owned state layout keep numbers laid owners c n is in
        let o : IsOwner state layout (doomed_nodes layout numbers) c n = owners.exact c n p.1 in
        record { among = among-same n ∙ groups.among-left state layout keep numbers laid owners n p.0 o.among; loaded = o.loaded; here = groups.still-there state layout keep numbers laid owners n o.loaded p.0 o.here; claims = o.claims };
    once = subst Distinct (sym nodes-now) (distinct-in (prefix ++ suffix) node rest-nodes once-front.0 once-front.1);
    doomed = numbers-are state layout number object l numbers valid owners lies held at chains (owners_without layout parts);
  }

  pub marked-now : (id : ℕ) → AreMarkedBy id state layout → AreMarkedBy id after now
  marked-now id marks n z is live unsettled = ⊎_elim
      (λ (e : n ≡ number).
      let same_one : (let y : Object = record object { live = false; parts = [] } in y) ≡ z = some_inj (sym (slot-is state layout number object l numbers valid owners lies held) ∙ ap (object_at after) (sym e) ∙ is) in
      absurd (let c : false ≡ true = ap (λ (x : Object). x.live) same_one ∙ live in cc))
      (λ (e : n ≢ number).
      let was : object_at state n ≡ Some z = sym (slot-else state layout number object l numbers valid owners lies held n e) ∙ is in
      let apart : is_among parts (layout.place (main z.key)) ≡ false = groups.stay-apart state layout keep numbers laid owners (layout.place (main z.key)) (groups.stays-in state layout keep numbers laid owners (main z.key) (main-listed state valid n z true was live) (main-stays key z.key)) in
      let here : at (layout.place (main z.key)) ≡ layout.at (layout.place (main z.key)) = rw apart refl in
      subst (λ (x : Option Loaded). IfSome x (λ loaded. loaded.dirty ≡ id)) (sym here) (marks n z was live unsettled))
      (cases_eq n number)

  -- of what was unlinked from the chains the object's node alone has something
  pub only-main : (n : ℕ) (other : Loaded) → at n ≡ Some other → is_among (gone_nodes state layout (is_of_another key)) n ≡ true → node ≡ n
  only-main n other is gone =
      let i : IsNodeOf layout (filter (λ j. not (is_of_another key j)) state.uses) n = node-of layout (filter (λ j. not (is_of_another key j)) state.uses) n gone in
      let both = and_parts (not (is_of_another key i.item)) (is_listed state i.item) (sym (in-filter (λ j. not (is_of_another key j)) state.uses i.item) ∙ i.among) in
      ⊎_elim
      (λ (e : same_item (main key) i.item ≡ true). ap layout.place (one_item (main key) i.item e) ∙ i.is)
      (λ (e : same_item (main key) i.item ≡ false).
      let goes : keep i.item ≡ false = neither (is_of_another key i.item) (same_item (main key) i.item) both.0 e in
      let out : is_among parts n ≡ true = subst (λ (x : ℕ). is_among parts x ≡ true) i.is (groups.goes state layout keep numbers laid owners i.item both.1 goes) in
      absurd (let z : true ≡ false = sym out ∙ (groups.not-gone state layout keep numbers laid owners n other is).0 in cc))
      (cases_Bool (same_item (main key) i.item))
    where
      neither : (b c : Bool) → not b ≡ true → c ≡ false → (b || c) ≡ false
      neither true c e f = absurd (let z : false ≡ true = e in cc)
      neither false c e f = f

  -- what lies where
  module _ (image : Image) (list : HasListAtRest (nodes_of layout (filter (is_of_another key) state.uses)) image) (holds : HoldsExcept (is_among (gone_nodes state layout (is_of_another key))) (store_of image) state (record layout { chains = chains }))
      (loads : load (store_of image) (unchained_rule records.entry_doomed) node ≡ Ok l)
      (chained : (bucket contents : ℕ) → bucket < table_length → is_among (chains bucket) contents ≡ true → is_among (layout.chains bucket) contents ≡ true)
      (out : (bucket contents : ℕ) → bucket < table_length → is_among (chains bucket) contents ≡ true → (n : ℕ) (other : Loaded) → is_among (gone_nodes state layout (is_of_another key)) n ≡ true → layout.at n ≡ Some other → (contents == other.contents) ≡ false) where
    has-less : HasLess state after.objects (is_of_another key) layout at chains (owners_without layout parts)
    has-less = record {
      stays = λ i x other there is. groups.still-there state layout keep numbers laid owners (layout.place i) x (groups.stay-apart state layout keep numbers laid owners (layout.place i) (groups.stays-in state layout keep numbers laid owners i there (stays-there key i other))) is;
      others = λ n x outside is. groups.still-there state layout keep numbers laid owners n x
          (⊎_elim (λ (e : is_among parts n ≡ true). absurd (let z : true ≡ false = sym (groups.in-order state layout keep numbers laid owners (λ i. not (keep i)) n e) ∙ outside in cc)) (λ (e : is_among parts n ≡ false). e) (cases_Bool (is_among parts n))) is;
      was = λ n x is. (groups.not-gone state layout keep numbers laid owners n x is).1;
      chain_stays = λ n x there is among. holds.chained n x (groups.in-order state layout keep numbers laid owners (is_of_another key) n there) (groups.not-gone state layout keep numbers laid owners n x is).1 (groups.stay-apart state layout (is_of_another key) numbers laid owners n there);
      chain_was = λ bucket contents small among.
          let q : IsListedRecord state layout contents = laid.unchained bucket contents small (chained bucket contents small among) in
          let kept : is_among (gone_nodes state layout (is_of_another key)) q.node ≡ false = ⊎_elim
          (λ (e : is_among (gone_nodes state layout (is_of_another key)) q.node ≡ true). absurd (let z : true ≡ false = sym (eq-eqb contents q.loaded.contents (sym q.record_is)) ∙ out bucket contents small among q.node q.loaded e q.here in cc))
          (λ (e : is_among (gone_nodes state layout (is_of_another key)) q.node ≡ false). e)
          (cases_Bool (is_among (gone_nodes state layout (is_of_another key)) q.node)) in
          let there = groups.in-stay state layout (is_of_another key) numbers laid owners q.node q.listed kept in
          record { node = q.node; loaded = q.loaded; listed = there; here = groups.still-there state layout keep numbers laid owners q.node q.loaded (others-stay q.node there) q.here; record_is = q.record_is };
      own = λ n x c is has mine. groups.still-owned state layout keep numbers laid owners c n mine (groups.not-gone state layout keep numbers laid owners n x is).0;
    }

    doomed-now : IsDoomedNow state layout number object l at chains (owners_without layout parts)
    doomed-now = record { lies = lies; node_fields = held; less = has-less; stays = groups.still-there state layout keep numbers laid owners node l node-stays lies.at }

    pub represents-now : Represents (view_of image) after now
    represents-now = doomed-is-represented (is_among (gone_nodes state layout (is_of_another key))) (view_of image) state layout laid valid number object l at chains (owners_without layout parts) doomed-now holds only-main loads list
