-- The lines of the rows of a state, as they are printed, one after another.
use Rattle.std.proofs.Common.{◌≡◌, ℕ, ◌+◌, ◌≤◌, Bool, true, false, List, [], ◌∷◌, ◌++◌, length, Option, Some, None, refl, sym, ap, subst, ◌∙◌, append_assoc, append-nil, length-append, arith}
use Rattle.std.specs.Prelude.{◌||◌}
use Rattle.std.specs.List.{cons_option, filter_map, flat_map}
use Rattle.std.proofs.lemmas.Grind.{flat_map-append}
use Rattle.std.proofs.lemmas.List.{length-map}
use Rattle.std.proofs.lemmas.List.Elements.{filter_map-append}
use Rattle.spec_image.specs.Image.{Image}
use Rattle.spec_image.proofs.Runs.{some_inj}
use Rattle.blk_model.specs.Holding.{row_of, rows}
use Rattle.blk_model.specs.Items.{Item, Row}
use Rattle.blk_model.specs.State.{State}
use Rattle.blk_model.proofs.Same.{same_item_self}
use Rattle.spec_folder.specs.Found.{row_of_loaded}
use Rattle.spec_folder.specs.Layout.{IsPlacedAt, Layout, is_in, is_listed, nodes_of, rule_of}
use Rattle.spec_folder.specs.ListImages.{HasListAtRest, walked}
use Rattle.spec_folder.specs.View.{list_of}
use Rattle.law_folder.proofs.commands.Opening.{in-append, nodes-append}
use Rattle.law_folder.proofs.lists.Walks.{walk_list}
use Rattle.law_state.specs.Keeping.{Keeps}
use Rattle.blk_script.specs.Reply.{row_line}
use Rattle.blk_evict.specs.RoomPrinting.{PrintsUnlessFailed, PrintsInPart}
use Rattle.blk_lru.specs.Lists.{IsListAtRest, IsListed, first_node_of}
use Rattle.blk_object.specs.ListedParts.{LoadsAt}
use Rattle.blk_print.specs.ItemRows.{lines_of}
use Rattle.blk_evict.proofs.RoomTexts.{none-printed, part-none, part-on, printed-on}
use Rattle.blk_object.proofs.WalkedParts.{list-rests, listed-amid}

no-node : {A : Type 0} {x : A} → ◌≡◌ {A = Option A} None (Some x) → ⊥
no-node e = cc

-- ---- the lines

-- the lines of one item more
more-lines : (state : State) (passed : List Item) (item : Item) (row : Row) → row_of state item ≡ Some row → lines_of state (passed ++ item ∷ []) ≡ lines_of state passed ++ row_line row
more-lines state passed item row is =
    ap (flat_map row_line) (filter_map-append (row_of state) passed (item ∷ []) ∙ ap (λ (o : Option Row). filter_map (row_of state) passed ++ cons_option o []) is)
    ∙ flat_map-append row_line (filter_map (row_of state) passed) (row ∷ [])
    ∙ ap (λ (l : List ℕ). lines_of state passed ++ l) (append-nil (row_line row))

both-lines : (state : State) (passed left : List Item) → lines_of state (passed ++ left) ≡ lines_of state passed ++ lines_of state left
both-lines state passed left = ap (flat_map row_line) (filter_map-append (row_of state) passed left) ∙ flat_map-append row_line (filter_map (row_of state) passed) (filter_map (row_of state) left)

pub all-lines : (state : State) → lines_of state state.uses ≡ flat_map row_line (rows state)
unfolding rows
all-lines state = refl

-- ---- the list

abbrev pub list-at-rest : (state : State) (layout : Layout) (image : Image) → Keeps state layout [] image → HasListAtRest (nodes_of layout state.uses) image
list-at-rest state layout image k = record { whole = k.entries.represents.list; idle = k.entries.represents.idle }

pub list-is-at-rest : (state : State) (layout : Layout) (image : Image) → Keeps state layout [] image → IsListAtRest image
list-is-at-rest state layout image k = list-rests (nodes_of layout state.uses) image (list-at-rest state layout image k)

first-walked : (nodes : List ℕ) (image : Image) → HasListAtRest nodes image → (next : Option ℕ) → (IsListAtRest image → next ≡ first_node_of (walked image)) → next ≡ first_node_of nodes
first-walked nodes image rest next h = h (list-rests nodes image rest) ∙ ap first_node_of (walk_list (list_of image) nodes rest.whole)

-- ---- what is walked

-- the items in front of a node are passed, as many as there were iterations, and their lines are printed
pub record IsListedTo (state : State) (layout : Layout) (next : Option ℕ) (turn : ℕ) (failed_before failed : Bool) (old new : Option (List ℕ)) : Type 0 where
  pub passed : List Item
  pub left : List Item
  pub split : state.uses ≡ passed ++ left
  pub next_is : next ≡ first_node_of (nodes_of layout left)
  pub many : length passed ≡ turn
  pub printed : PrintsUnlessFailed failed_before failed old new (lines_of state passed)

-- nothing was printed yet
pub list-begun : (state : State) (layout : Layout) (image : Image) → Keeps state layout [] image → (next : Option ℕ) (failed : Bool) (old : Option (List ℕ)) → (IsListAtRest image → next ≡ first_node_of (walked image)) → IsListedTo state layout next 0 failed failed old old
list-begun state layout image k next failed old h = record {
  passed = [];
  left = state.uses;
  split = refl;
  next_is = first-walked (nodes_of layout state.uses) image (list-at-rest state layout image k) next h;
  many = refl;
  printed = none-printed failed old;
}

-- a prefix of the lines is printed
pub listed-part : (state : State) (layout : Layout) (next : Option ℕ) (turn : ℕ) (before failed : Bool) (old mid new : Option (List ℕ)) → IsListedTo state layout next turn before failed old mid → new ≡ mid → PrintsInPart before old new (flat_map row_line (rows state))
listed-part state layout next turn before failed old mid new w same =
    subst (PrintsInPart before old new) (sym (both-lines state w.passed w.left) ∙ ap (lines_of state) (sym w.split) ∙ all-lines state)
    (part-on before failed old mid new (lines_of state w.passed) (lines_of state w.left) w.printed (part-none failed mid new (lines_of state w.left) same))

-- all lines are printed where nothing is left
all-printed : (state : State) (layout : Layout) (next : Option ℕ) (turn : ℕ) (before failed : Bool) (old new : Option (List ℕ)) (w : IsListedTo state layout next turn before failed old new) → w.left ≡ [] → PrintsUnlessFailed before failed old new (flat_map row_line (rows state))
all-printed state layout next turn before failed old new w none =
    subst (PrintsUnlessFailed before failed old new) (ap (lines_of state) (sym (append-nil w.passed) ∙ ap (λ (l : List Item). w.passed ++ l) (sym none) ∙ sym w.split) ∙ all-lines state) w.printed

pub list-ended : (state : State) (layout : Layout) (turn : ℕ) (before failed : Bool) (old new : Option (List ℕ)) → IsListedTo state layout None turn before failed old new → PrintsUnlessFailed before failed old new (flat_map row_line (rows state))
list-ended state layout turn before failed old new w = all-printed state layout None turn before failed old new w (nothing w.left w.next_is) where
  nothing : (left : List Item) → None ≡ first_node_of (nodes_of layout left) → left ≡ []
  nothing [] is = refl
  nothing (item ∷ left) is = absurd (no-node is)

-- nothing is left after as many iterations as there are nodes at most
pub turns-ended : (state : State) (layout : Layout) (next : Option ℕ) (turn : ℕ) (before failed : Bool) (old new : Option (List ℕ)) (image : Image) → Keeps state layout [] image → 131072 ≤ turn
    → IsListedTo state layout next turn before failed old new → PrintsUnlessFailed before failed old new (flat_map row_line (rows state))
turns-ended state layout next turn before failed old new image k end w = all-printed state layout next turn before failed old new w (go w.left refl) where
  go : (left : List Item) → w.left ≡ left → w.left ≡ []
  go [] is = is
  go (item ∷ left) is =
      let few = k.entries.represents.list.few in
      let nodes : length (nodes_of layout state.uses) ≡ length state.uses = length-map state.uses layout.place in
      let parts : length state.uses ≡ length (w.passed ++ item ∷ left) = ap (λ (xs : List Item). length xs) (w.split ∙ ap (λ (xs : List Item). w.passed ++ xs) is) in
      let joined = length-append w.passed (item ∷ left) in
      let many = w.many in
      absurd (omega (arith, few, nodes, parts, joined, many, end))

-- a list has no more nodes than iterations are made
pub turns-few : (state : State) (layout : Layout) (next : Option ℕ) (turn : ℕ) (before failed : Bool) (old new : Option (List ℕ)) (image : Image) → Keeps state layout [] image → 131073 ≤ turn
    → IsListedTo state layout next turn before failed old new → ⊥
turns-few state layout next turn before failed old new image k end w =
    let few = k.entries.represents.list.few in
    let nodes : length (nodes_of layout state.uses) ≡ length state.uses = length-map state.uses layout.place in
    let parts : length state.uses ≡ length (w.passed ++ w.left) = ap (λ (xs : List Item). length xs) w.split in
    let joined = length-append w.passed w.left in
    let many = w.many in
    omega (arith, few, nodes, parts, joined, many, end)

-- ---- the item at the next node

-- the first of the items that are left lies at the next node
pub record IsNextItem (layout : Layout) (left : List Item) (node : ℕ) : Type 0 where
  pub item : Item
  pub behind : List Item
  pub left_is : left ≡ item ∷ behind
  pub place : layout.place item ≡ node

next-item : (layout : Layout) (left : List Item) (node : ℕ) → Some node ≡ first_node_of (nodes_of layout left) → IsNextItem layout left node
next-item layout [] node is = absurd (no-node (sym is))
next-item layout (item ∷ behind) node is = record { item = item; behind = behind; left_is = refl; place = sym (some_inj is) }

module _ (state : State) (layout : Layout) (image : Image) (k : Keeps state layout [] image) (node turn : ℕ) (before failed : Bool) (old mid : Option (List ℕ)) (w : IsListedTo state layout (Some node) turn before failed old mid) where
  pub it : IsNextItem layout w.left node
  it = next-item layout w.left node w.next_is

  whole-is : state.uses ≡ w.passed ++ it.item ∷ it.behind
  whole-is = w.split ∙ ap (λ (xs : List Item). w.passed ++ xs) it.left_is

  or-true : (b : Bool) → (b || true) ≡ true
  or-true true = refl
  or-true false = refl

  listed : is_listed state it.item ≡ true
  listed = ap (λ (xs : List Item). is_in xs it.item) whole-is ∙ in-append w.passed (it.item ∷ it.behind) it.item ∙ rw (same_item_self it.item) (or-true (is_in w.passed it.item))

  -- what lies there
  pub placed : IsPlacedAt state layout it.item
  placed = k.entries.represents.holds.lies.laid it.item listed

  nodes-are : nodes_of layout state.uses ≡ nodes_of layout w.passed ++ node ∷ nodes_of layout it.behind
  nodes-are = ap (nodes_of layout) whole-is ∙ nodes-append layout w.passed (it.item ∷ it.behind) ∙ ap (λ (n : ℕ). nodes_of layout w.passed ++ n ∷ nodes_of layout it.behind) it.place

  pub step-loads : LoadsAt node placed.loaded image
  step-loads = subst (λ (n : ℕ). LoadsAt n placed.loaded image) it.place (record {
    rule = rule_of layout (layout.place it.item);
    loads = k.entries.represents.holds.shows.each (layout.place it.item) placed.loaded placed.here;
  })

  pub node-listed : IsListed node image
  node-listed = listed-amid layout state.uses w.passed it.behind it.item node image (list-at-rest state layout image k) whole-is it.place

  module _ (after : Bool) (new : Option (List ℕ)) (prints : PrintsUnlessFailed failed after mid new (row_line (row_of_loaded placed.loaded))) where
    -- its line is printed
    line-printed : IsListedTo state layout (first_node_of (nodes_of layout it.behind)) (turn + 1) before after old new
    line-printed = record {
      passed = w.passed ++ it.item ∷ [];
      left = it.behind;
      split = whole-is ∙ sym (append_assoc w.passed (it.item ∷ []) it.behind);
      next_is = refl;
      many = let one = length-append w.passed (it.item ∷ []) in let many = w.many in omega (arith, one, many);
      printed = subst (PrintsUnlessFailed before after old new) (sym (more-lines state w.passed it.item (row_of_loaded placed.loaded) placed.row))
          (printed-on before failed after old mid new (lines_of state w.passed) (row_line (row_of_loaded placed.loaded)) w.printed prints);
    }

    pub line-in-part : PrintsInPart before old new (flat_map row_line (rows state))
    line-in-part = listed-part state layout (first_node_of (nodes_of layout it.behind)) (turn + 1) before after old new new line-printed refl

    -- and the next node is the one after that
    pub step-listed : (next : Option ℕ) → ((prefix suffix : List ℕ) → HasListAtRest (prefix ++ node ∷ suffix) image → next ≡ first_node_of suffix) → IsListedTo state layout next (turn + 1) before after old new
    step-listed next h =
        let is : next ≡ first_node_of (nodes_of layout it.behind) = h (nodes_of layout w.passed) (nodes_of layout it.behind) (subst (λ (ns : List ℕ). HasListAtRest ns image) nodes-are (list-at-rest state layout image k)) in
        subst (λ (o : Option ℕ). IsListedTo state layout o (turn + 1) before after old new) (sym is) line-printed
