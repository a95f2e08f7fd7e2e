-- The parts of a key in an LRU list, as they are removed one after another.
use Rattle.std.proofs.Common.{◌≡◌, ◌+◌, ℕ, List, [], ◌∷◌, ◌++◌, length, length-append, append_assoc, append-nil, map, refl, ap, sym, ◌∙◌, subst, arith, Bool, true, false, Option, None, Some, ⊎_elim}
use Rattle.std.specs.Prelude.{◌&&◌, filter, not}
use Rattle.std.specs.List.{FoldsTo, cons_option, filter_map, sum_by}
use Rattle.std.specs.Str.{bytes_eq}
use Rattle.std.proofs.lemmas.Bool.{cases_Bool, or_parts}
use Rattle.std.proofs.lemmas.Fn.{FoldsTo-push}
use Rattle.std.proofs.lemmas.List.Elements.{filter-append, filter_map-append}
use Rattle.std.proofs.lemmas.List.{length-map}
use Rattle.std.proofs.lemmas.List.Sums.{sum_by-cons}
use Rattle.blk_model.specs.Items.{Item, main, part, same_item}
use Rattle.blk_model.specs.Room.{part_number, parts_among}
use Rattle.blk_model.specs.State.{State}
use Rattle.blk_model.proofs.Same.{bytes_eq_self, same_bytes, same_item_self}
use Rattle.spec_format.specs.BlockFiles.{is_among}
use Rattle.spec_folder.specs.Found.{charge_of}
use Rattle.spec_folder.specs.Layout.{Layout, is_in, nodes_of}
use Rattle.spec_folder.specs.ListView.{Distinct, last_or}
use Rattle.spec_folder.specs.Loads.{Loaded}
use Rattle.law_folder.proofs.commands.Opening.{in-append, nodes-append}
use Rattle.law_folder.proofs.lists.Lists.{has_not}
use Rattle.law_folder.proofs.states.Laid.{is_among-node}
use Rattle.blk_lru.specs.Lists.{last_node_of}
use Rattle.law_state.specs.CountsOfParts.{charges_at}
use Rattle.law_state.specs.PartlyOut.{keeps_but}
use Rattle.law_state.proofs.DoomedPlaces.{filter-both}
use Rattle.blk_object.specs.ListedParts.{AreSearched, HaveNoPart, is_part_of}
use Rattle.blk_sparse.specs.Dropping.{IsBehind}

-- ---- numbers

not-numbered : (key : List ℕ) (item : Item) → is_part_of key item ≡ false → part_number key item ≡ None
not-numbered key (main other) e = refl
not-numbered key (part other n) e = ⊎_elim
    (λ (h : bytes_eq key other ≡ true). absurd (let z : true ≡ false = sym (bytes_eq_self other) ∙ ap (bytes_eq other) (sym (same_bytes key other h)) ∙ e in cc))
    (λ (h : bytes_eq key other ≡ false). rw h refl)
    (cases_Bool (bytes_eq key other))

own-numbered : (key : List ℕ) (n : ℕ) → part_number key (part key n) ≡ Some n
own-numbered key n = rw (bytes_eq_self key) refl

pub none-among : (key : List ℕ) (items : List Item) → HaveNoPart key items → parts_among key items ≡ []
none-among key [] none = refl
none-among key (item ∷ items) none = ap (λ (o : Option ℕ). cons_option o (parts_among key items)) (not-numbered key item none.0) ∙ none-among key items none.1

pub none-append : (key : List ℕ) (xs ys : List Item) → HaveNoPart key xs → HaveNoPart key ys → HaveNoPart key (xs ++ ys)
none-append key [] ys one two = two
none-append key (x ∷ xs) ys one two = (one.0, none-append key xs ys one.1 two)

among-behind : (key : List ℕ) (front items : List Item) → HaveNoPart key front → parts_among key (front ++ items) ≡ parts_among key items
among-behind key front items none = filter_map-append (part_number key) front items ∙ ap (λ (ns : List ℕ). ns ++ parts_among key items) (none-among key front none)

among-next : (key : List ℕ) (passed behind : List Item) (n : ℕ) → HaveNoPart key passed → parts_among key (passed ++ part key n ∷ behind) ≡ n ∷ parts_among key behind
among-next key passed behind n none = among-behind key passed (part key n ∷ behind) none ∙ ap (λ (o : Option ℕ). cons_option o (parts_among key behind)) (own-numbered key n)

-- ---- where a search begins

-- some items end with one
record IsSnoc (layout : Layout) (i : Item) (items : List Item) : Type 0 where
  pub first : List Item
  pub item : Item
  pub is : i ∷ items ≡ first ++ item ∷ []
  pub place_is : layout.place item ≡ last_or (layout.place i) (nodes_of layout items)

snoc : (layout : Layout) (i : Item) (items : List Item) → IsSnoc layout i items
snoc layout i [] = record { first = []; item = i; is = refl; place_is = refl }
snoc layout i (j ∷ items) = let s = snoc layout j items in record { first = i ∷ s.first; item = s.item; is = ap (λ (xs : List Item). i ∷ xs) s.is; place_is = s.place_is }

searched-from : (layout : Layout) (front items all : List Item) → all ≡ front ++ items → AreSearched layout (last_node_of (nodes_of layout front)) all items
searched-from layout [] items all e = e
searched-from layout (i ∷ front) items all e =
    let s = snoc layout i front in
    (s.first, s.item, e ∙ ap (λ (xs : List Item). xs ++ items) s.is ∙ append_assoc s.first (s.item ∷ []) items, s.place_is)

-- the items after a node are those that are searched
pub searched : (layout : Layout) (key : List ℕ) (all : List Item) (at : Option ℕ) (is : IsBehind layout key all at) → AreSearched layout at all is.items
searched layout key all at is = subst (λ (o : Option ℕ). AreSearched layout o all is.items) (sym is.last) (searched-from layout is.front is.items all is.split)

-- ---- without one

absent : (i : Item) (items : List Item) → is_in items i ≡ false → filter (λ other. not (same_item i other)) items ≡ items
absent i [] e = refl
absent i (x ∷ items) e = let p = or_parts (same_item i x) (is_in items i) e in rw p.0 (ap (λ (xs : List Item). x ∷ xs) (absent i items p.1))

not-in : (layout : Layout) (items : List Item) (i : Item) → is_among (nodes_of layout items) (layout.place i) ≡ false → is_in items i ≡ false
not-in layout items i none = ⊎_elim
    (λ (e : is_in items i ≡ true). absurd (let z : true ≡ false = sym (is_among-node layout items i e) ∙ none in cc))
    (λ (e : is_in items i ≡ false). e)
    (cases_Bool (is_in items i))

and-swap : (a b : Bool) → (a && b) ≡ (b && a)
and-swap true true = refl
and-swap true false = refl
and-swap false true = refl
and-swap false false = refl

drop-one : (layout : Layout) (xs ys : List Item) (i : Item) → Distinct (nodes_of layout (xs ++ i ∷ ys)) → filter (λ other. not (same_item i other)) (xs ++ i ∷ ys) ≡ xs ++ ys
drop-one layout xs ys i once =
    let none : is_among (nodes_of layout xs ++ nodes_of layout ys) (layout.place i) ≡ false = has_not (nodes_of layout xs) (layout.place i) (nodes_of layout ys) (subst Distinct (nodes-append layout xs (i ∷ ys)) once) in
    let apart = or_parts (is_in xs i) (is_in ys i) (sym (in-append xs ys i) ∙ not-in layout (xs ++ ys) i (ap (λ (ns : List ℕ). is_among ns (layout.place i)) (nodes-append layout xs ys) ∙ none)) in
    filter-append (λ other. not (same_item i other)) xs (i ∷ ys)
    ∙ ap (λ (zs : List Item). zs ++ filter (λ other. not (same_item i other)) (i ∷ ys)) (absent i xs apart.0)
    ∙ ap (λ (zs : List Item). xs ++ zs) (let own : filter (λ other. not (same_item i other)) (i ∷ ys) ≡ filter (λ other. not (same_item i other)) ys = rw (same_item_self i) refl in own ∙ absent i ys apart.1)

pub without-one : (state : State) (layout : Layout) (keep : Item → Bool) (i : Item) (xs ys : List Item) → filter keep state.uses ≡ xs ++ i ∷ ys → Distinct (nodes_of layout (filter keep state.uses)) → filter (keeps_but keep i) state.uses ≡ xs ++ ys
without-one state layout keep i xs ys split once =
    filter-both (λ other. not (same_item i other)) keep (keeps_but keep i) (λ other. and-swap (keep other) (not (same_item i other))) state.uses
    ∙ ap (filter (λ other. not (same_item i other))) split
    ∙ drop-one layout xs ys i (subst (λ (items : List Item). Distinct (nodes_of layout items)) split once)

-- ---- costs

-- the sum of the costs of the parts of a key with these numbers
abbrev pub charged : Layout → List ℕ → List ℕ → ℕ
charged layout key numbers = charges_at layout (nodes_of layout (map (part key) numbers))

charged-next : (layout : Layout) (key : List ℕ) (n : ℕ) (numbers : List ℕ) (was : Loaded) → layout.at (layout.place (part key n)) ≡ Some was → charged layout key (n ∷ numbers) ≡ charge_of was + charged layout key numbers
charged-next layout key n numbers was here =
    ap (λ (o : Option Loaded). sum_by charge_of (cons_option o (filter_map layout.at (nodes_of layout (map (part key) numbers))))) here ∙ sum_by-cons charge_of was (filter_map layout.at (nodes_of layout (map (part key) numbers)))

-- ---- the walk

-- where a walk is: this many parts were removed, whose costs sum to `bytes`, and a closure was called with their numbers; the others are after a node
pub record IsWalked (E : Type 0) (call : E → ℕ → E → Type 0) (layout : Layout) (key : List ℕ) (all left : List Item) (at : Option ℕ) (items bytes : ℕ) (old new : E) : Type 0 where
  pub done : List ℕ
  pub is : IsBehind layout key left at
  pub split : parts_among key all ≡ done ++ parts_among key is.items
  pub called : FoldsTo call old done new
  pub many : items ≡ length done
  pub sum : bytes + charged layout key (parts_among key is.items) ≡ charged layout key (parts_among key all)

-- at first
pub walked-begin : (E : Type 0) (call : E → ℕ → E → Type 0) (layout : Layout) (key : List ℕ) (all : List Item) (each : E) → IsWalked E call layout key all all None 0 0 each each
walked-begin E call layout key all each = record {
  done = [];
  is = record { front = []; items = all; split = refl; none = tt; last = refl };
  split = refl;
  called = refl;
  many = refl;
  sum = omega arith;
}

module _ (E : Type 0) (call : E → ℕ → E → Type 0) (state : State) (layout : Layout) (keep : Item → Bool) (key : List ℕ) (all : List Item) (at : Option ℕ) (items bytes : ℕ) (old new : E) (w : IsWalked E call layout key all (filter keep state.uses) at items bytes old new) where
  -- once the next part is removed
  pub walked-next : (n charge : ℕ) (passed behind : List Item) (next : Option ℕ) (was : Loaded) (last : E) → w.is.items ≡ passed ++ part key n ∷ behind → HaveNoPart key passed → next ≡ last_node_of (nodes_of layout (w.is.front ++ passed))
      → layout.at (layout.place (part key n)) ≡ Some was → charge ≡ charge_of was → Distinct (nodes_of layout (filter keep state.uses)) → call new n last
      → IsWalked E call layout key all (filter (keeps_but keep (part key n)) state.uses) next (items + 1) (bytes + charge) old last
  walked-next n charge passed behind next was last split none is here charge_is once step =
      let left : parts_among key w.is.items ≡ n ∷ parts_among key behind = ap (parts_among key) split ∙ among-next key passed behind n none in
      let more = ap (charged layout key) left ∙ charged-next layout key n (parts_among key behind) was here in
      let sum = w.sum in
      let many = w.many in
      let longer = length-append w.done (n ∷ []) in
      record {
        done = w.done ++ n ∷ [];
        is = record {
          front = w.is.front ++ passed;
          items = behind;
          split = without-one state layout keep (part key n) (w.is.front ++ passed) behind (w.is.split ∙ ap (λ (xs : List Item). w.is.front ++ xs) split ∙ sym (append_assoc w.is.front passed (part key n ∷ behind))) once;
          none = none-append key w.is.front passed w.is.none none;
          last = is;
        };
        split = w.split ∙ ap (λ (ns : List ℕ). w.done ++ ns) left ∙ sym (append_assoc w.done (n ∷ []) (parts_among key behind));
        called = FoldsTo-push call old w.done new n last w.called step;
        many = omega (arith, many, longer);
        sum = omega (arith, more, sum, charge_is);
      }

  -- where no part is left, all were removed
  pub record AreAllWalked : Type 0 where
    pub called : FoldsTo call old (parts_among key all) new
    pub many : items ≡ length (map (part key) (parts_among key all))
    pub sum : bytes ≡ charged layout key (parts_among key all)
    pub none : HaveNoPart key (filter keep state.uses)

  pub walked-end : HaveNoPart key w.is.items → AreAllWalked
  walked-end none =
      let nothing : parts_among key w.is.items ≡ [] = none-among key w.is.items none in
      let same : parts_among key all ≡ w.done = w.split ∙ ap (λ (ns : List ℕ). w.done ++ ns) nothing ∙ append-nil w.done in
      let zero : charged layout key (parts_among key w.is.items) ≡ 0 = ap (charged layout key) nothing in
      let sum = w.sum in
      record {
        called = subst (λ (ns : List ℕ). FoldsTo call old ns new) (sym same) w.called;
        many = w.many ∙ ap (λ (ns : List ℕ). length ns) (sym same) ∙ sym (length-map (parts_among key all) (part key));
        sum = omega (arith, zero, sum);
        none = subst (HaveNoPart key) (sym w.is.split) (none-append key w.is.front w.is.items w.is.none none);
      }
