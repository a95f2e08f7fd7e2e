-- The LRU list is walked in search of a part of a key.
use Rattle.std.proofs.Common.{◌≡◌, ◌+◌, ◌≤◌, ℕ, List, [], ◌∷◌, ◌++◌, length, length-append, append_assoc, append-nil, refl, ap, sym, ◌∙◌, subst, arith, Bool, true, false, Option, None, Some}
use Rattle.std.specs.Prelude.{◌||◌, filter, is_some, if◌then◌else◌}
use Rattle.std.specs.Str.{bytes_eq}
use Rattle.std.proofs.lemmas.Bool.{and_parts}
use Rattle.std.proofs.lemmas.List.{length-map}
use Rattle.spec_image.specs.Image.{Image}
use Rattle.spec_image.proofs.Runs.{some_inj}
use Rattle.blk_model.specs.Items.{Item, item_of, main, part}
use Rattle.blk_model.specs.State.{State}
use Rattle.blk_model.proofs.Same.{bytes_eq_self, same_bytes, same_item_self}
use Rattle.spec_format.specs.BlockFiles.{is_among}
use Rattle.spec_folder.specs.Entries.{IsParent, IsPart, IsPlain, Role}
use Rattle.spec_folder.specs.Found.{row_with}
use Rattle.spec_folder.specs.Layout.{IsPlacedAt, Layout, is_in, is_listed, nodes_of, rule_of}
use Rattle.spec_folder.specs.ListImages.{HasListAtRest, walked}
use Rattle.spec_folder.specs.Loads.{Loaded}
use Rattle.spec_folder.specs.View.{list_of}
use Rattle.law_folder.proofs.commands.Opening.{in-append, nodes-append}
use Rattle.law_folder.proofs.commands.Removing.{in-filter}
use Rattle.law_folder.proofs.lists.Walks.{walk_list}
use Rattle.law_folder.proofs.states.Laid.{item-row}
use Rattle.law_state.specs.PartlyOut.{KeepsPartlyOut}
use Rattle.law_state.proofs.Groups as groups
use Rattle.blk_lru.specs.Lists.{IsListAtRest, IsListed, first_node_of}
use Rattle.blk_object.specs.declared.listed_parts.ListedPart.{ListedPart}
use Rattle.blk_object.specs.ListedParts.{AreSearched, HaveNoPart, IsFirstPart, IsFoundPart, LoadsAt, first_node, is_part_of, number_said, part_loaded, number_of_role}
use Rattle.blk_object.proofs.ChainsOut.{among-front}

none-some : {A : Type 0} {x : A} → ◌≡◌ {A = Option A} None (Some x) → ⊥
none-some e = cc

-- ---- what is walked

-- some items are passed, of which none is a part, and the next node is that of the first that is left
pub record IsWalkedTo (layout : Layout) (key : List ℕ) (all items : List Item) (next : Option ℕ) (turn : ℕ) : Type 0 where
  pub passed : List Item
  pub left : List Item
  pub split : items ≡ passed ++ left
  pub none : HaveNoPart key passed
  pub next_is : next ≡ first_node layout left
  pub many : length passed ≡ turn
  pub before : List Item
  pub whole : all ≡ before ++ left
  pub within : length passed ≤ length before

abbrev pub Walks : Option ℕ → List ℕ → Option ℕ → ℕ → Image → Type 0
Walks from key next turn image =
    (state : State) (layout : Layout) (keep : Item → Bool) (chains : ℕ → List ℕ) (unlinked : List ℕ) (items : List Item)
    → KeepsPartlyOut state layout keep chains unlinked image → AreSearched layout from (filter keep state.uses) items
    → IsWalkedTo layout key (filter keep state.uses) items next turn

-- at first
begun : (layout : Layout) (key : List ℕ) (from : Option ℕ) (all items : List Item) (next : Option ℕ) → AreSearched layout from all items → next ≡ first_node layout items → IsWalkedTo layout key all items next 0
begun layout key None all items next are is = record { passed = []; left = items; split = refl; none = tt; next_is = is; many = refl; before = []; whole = are; within = omega arith }
begun layout key (Some node) all items next are is = record {
  passed = [];
  left = items;
  split = refl;
  none = tt;
  next_is = is;
  many = refl;
  before = are.0 ++ are.1 ∷ [];
  whole = are.2 ∙ sym (append_assoc are.0 (are.1 ∷ []) items);
  within = omega arith;
}

pub walk-begun : (from : Option ℕ) (key : List ℕ) (next : Option ℕ) (image : Image)
    → ((state : State) (layout : Layout) (keep : Item → Bool) (chains : ℕ → List ℕ) (unlinked : List ℕ) (items : List Item) → KeepsPartlyOut state layout keep chains unlinked image → AreSearched layout from (filter keep state.uses) items → next ≡ first_node layout items)
    → Walks from key next 0 image
walk-begun from key next image starts state layout keep chains unlinked items k are = begun layout key from (filter keep state.uses) items next are (starts state layout keep chains unlinked items k are)

-- ---- the list of what is left

first-is : (layout : Layout) (items : List Item) → first_node_of (nodes_of layout items) ≡ first_node layout items
first-is layout [] = refl
first-is layout (item ∷ items) = refl

list-walked : (nodes : List ℕ) (image : Image) → HasListAtRest nodes image → walked image ≡ nodes
list-walked nodes image rest = walk_list (list_of image) nodes rest.whole

pub list-rests : (nodes : List ℕ) (image : Image) → HasListAtRest nodes image → IsListAtRest image
list-rests nodes image rest = subst (λ (ns : List ℕ). HasListAtRest ns image) (sym (list-walked nodes image rest)) rest

-- the first node of the list is that of the first item that is left
pub starts-first : (layout : Layout) (all items : List Item) (image : Image) (found : Option ℕ) → HasListAtRest (nodes_of layout all) image → all ≡ items → (IsListAtRest image → found ≡ first_node_of (walked image)) → found ≡ first_node layout items
starts-first layout all items image found rest are h =
    h (list-rests (nodes_of layout all) image rest) ∙ ap first_node_of (list-walked (nodes_of layout all) image rest) ∙ first-is layout all ∙ ap (first_node layout) are

-- an item amid the list
module _ (layout : Layout) (all before behind : List Item) (item : Item) (node : ℕ) (image : Image) (rest : HasListAtRest (nodes_of layout all) image) (whole : all ≡ before ++ item ∷ behind) (place : layout.place item ≡ node) where
  amid : nodes_of layout all ≡ nodes_of layout before ++ node ∷ nodes_of layout behind
  amid = ap (nodes_of layout) whole ∙ nodes-append layout before (item ∷ behind) ∙ ap (λ (n : ℕ). nodes_of layout before ++ n ∷ nodes_of layout behind) place

  pub rests-amid : HasListAtRest (nodes_of layout before ++ node ∷ nodes_of layout behind) image
  rests-amid = subst (λ (ns : List ℕ). HasListAtRest ns image) amid rest

  pub listed-amid : IsListed node image
  listed-amid = record {
    rest = list-rests (nodes_of layout all) image rest;
    listed = ap (λ (ns : List ℕ). is_among ns node) (list-walked (nodes_of layout all) image rest ∙ amid) ∙ among-front (nodes_of layout before) node (nodes_of layout behind);
  }

  pub starts-behind : (found : Option ℕ) → ((prefix suffix : List ℕ) → HasListAtRest (prefix ++ node ∷ suffix) image → found ≡ first_node_of suffix) → found ≡ first_node layout behind
  starts-behind found h = h (nodes_of layout before) (nodes_of layout behind) rests-amid ∙ first-is layout behind

-- where the search begins
pub begins-behind : (layout : Layout) (all items : List Item) (node : ℕ) (image : Image) (found : Option ℕ) → HasListAtRest (nodes_of layout all) image → AreSearched layout (Some node) all items
    → ((prefix suffix : List ℕ) → HasListAtRest (prefix ++ node ∷ suffix) image → found ≡ first_node_of suffix) → found ≡ first_node layout items
begins-behind layout all items node image found rest are h = starts-behind layout all are.0 items are.1 node image rest are.2 are.3 found h

pub begins-listed : (layout : Layout) (all items : List Item) (node : ℕ) (image : Image) → HasListAtRest (nodes_of layout all) image → AreSearched layout (Some node) all items → IsListed node image
begins-listed layout all items node image rest are = listed-amid layout all are.0 items are.1 node image rest are.2 are.3

-- ---- the item at the next node

-- the first of what is left lies there
record IsNextItem (layout : Layout) (left : List Item) (node : ℕ) : Type 0 where
  pub item : Item
  pub behind : List Item
  pub left_is : left ≡ item ∷ behind
  pub place : layout.place item ≡ node

next-item : (layout : Layout) (left : List Item) (node : ℕ) → Some node ≡ first_node layout left → IsNextItem layout left node
next-item layout [] node is = absurd (none-some (sym is))
next-item layout (item ∷ behind) node is = record { item = item; behind = behind; left_is = refl; place = sym (some_inj is) }

-- the number of the part of a key that an item is
pub item_number : List ℕ → Item → Option ℕ
item_number key (main other) = None
item_number key (part other n) = if bytes_eq other key then Some n else None

pub own-number : (key : List ℕ) (n : ℕ) → item_number key (part key n) ≡ Some n
unfolding item_number
own-number key n = rw (bytes_eq_self key) refl

pub role-number : (key stored : List ℕ) (streams : List (List ℕ)) (role : Role) (item : Item) → item_of (row_with stored role streams) ≡ item → number_of_role key role ≡ item_number key item
unfolding item_number
role-number key stored streams IsPlain item is = subst (λ (i : Item). None ≡ item_number key i) is refl
role-number key stored streams (IsParent index) item is = subst (λ (i : Item). None ≡ item_number key i) is refl
role-number key stored streams (IsPart name index) item is = subst (λ (i : Item). number_said key (Some name) ≡ item_number key i) is refl

not-a-part : (key : List ℕ) (item : Item) → item_number key item ≡ None → is_part_of key item ≡ false
unfolding item_number
not-a-part key (main other) is = refl
not-a-part key (part other n) is = go (bytes_eq other key) is where
  go : (b : Bool) → (if b then Some n else None) ≡ None → b ≡ false
  go true h = absurd (none-some (sym h))
  go false h = refl

pub its-part : (key : List ℕ) (item : Item) (number : ℕ) → item_number key item ≡ Some number → item ≡ part key number
unfolding item_number
its-part key (main other) number is = absurd (none-some is)
its-part key (part other n) number is = go (bytes_eq other key) refl is where
  go : (b : Bool) → bytes_eq other key ≡ b → (if b then Some n else None) ≡ Some number → part other n ≡ part key number
  go true e h = ap (λ (k : List ℕ). part k n) (same_bytes other key e) ∙ ap (part key) (some_inj h)
  go false e h = absurd (none-some h)

none-loaded : (key : List ℕ) (node : ℕ) (loaded : Loaded) (o : Option ℕ) → number_of_role key loaded.role ≡ o → None ≡ part_loaded key node loaded → o ≡ None
none-loaded key node loaded None is e = refl
none-loaded key node loaded (Some n) is e = let z : ◌≡◌ {A = Option ListedPart} None (Some (record { node = node; entry = loaded.contents; number = n })) = (rw is at e) in absurd (none-some z)

-- a part that is found says the node, the record and the number
record IsSaid (key : List ℕ) (node : ℕ) (loaded : Loaded) (found : ListedPart) : Type 0 where
  pub node_is : found.node ≡ node
  pub entry_is : found.entry ≡ loaded.contents
  pub number_is : number_of_role key loaded.role ≡ Some found.number

some-loaded : (key : List ℕ) (node : ℕ) (loaded : Loaded) (found : ListedPart) (o : Option ℕ) → number_of_role key loaded.role ≡ o → Some found ≡ part_loaded key node loaded → IsSaid key node loaded found
some-loaded key node loaded found None is e = let z : ◌≡◌ {A = Option ListedPart} (Some found) None = (rw is at e) in absurd (none-some (sym z))
some-loaded key node loaded found (Some n) is e =
    let z : ◌≡◌ {A = Option ListedPart} (Some found) (Some (record { node = node; entry = loaded.contents; number = n })) = (rw is at e) in
    let same = some_inj z in
    record { node_is = ap (λ (p : ListedPart). p.node) same; entry_is = ap (λ (p : ListedPart). p.entry) same; number_is = is ∙ ap (λ (p : ListedPart). Some p.number) (sym same) }

all-append : (key : List ℕ) (xs : List Item) (item : Item) → HaveNoPart key xs → is_part_of key item ≡ false → HaveNoPart key (xs ++ item ∷ [])
all-append key [] item none is = (is, tt)
all-append key (x ∷ xs) item none is = (none.0, all-append key xs item none.1 is)

-- ---- a step

module _ (state : State) (layout : Layout) (keep : Item → Bool) (chains : ℕ → List ℕ) (unlinked : List ℕ) (key : List ℕ) (items : List Item) (node turn : ℕ) (image : Image) (k : KeepsPartlyOut state layout keep chains unlinked image)
    (w : IsWalkedTo layout key (filter keep state.uses) items (Some node) turn) where
  abbrev all : List Item
  all = filter keep state.uses

  it : IsNextItem layout w.left node
  it = next-item layout w.left node w.next_is

  whole-is : all ≡ w.before ++ it.item ∷ it.behind
  whole-is = w.whole ∙ ap (λ (xs : List Item). w.before ++ xs) it.left_is

  among : is_in all it.item ≡ true
  among = ap (λ (xs : List Item). is_in xs it.item) whole-is ∙ in-append w.before (it.item ∷ it.behind) it.item ∙ rw (same_item_self it.item) (or-true (is_in w.before it.item)) where
    or-true : (b : Bool) → (b || true) ≡ true
    or-true true = refl
    or-true false = refl

  listed : (keep it.item ≡ true) × (is_listed state it.item ≡ true)
  listed = and_parts (keep it.item) (is_in state.uses it.item) (sym (in-filter keep state.uses it.item) ∙ among)

  placed : IsPlacedAt state layout it.item
  placed = k.lies.laid it.item listed.1

  loads-place : LoadsAt (layout.place it.item) placed.loaded image
  loads-place = record {
    rule = rule_of layout (layout.place it.item);
    loads = k.holds.each (layout.place it.item) placed.loaded placed.here (groups.stay-apart state layout keep k.numbers k.lies k.owners (layout.place it.item) (groups.stays-in state layout keep k.numbers k.lies k.owners it.item listed.1 listed.0));
  }

  step-at : LoadsAt node placed.loaded image
  step-at = subst (λ (n : ℕ). LoadsAt n placed.loaded image) it.place loads-place

  pub step-loads : (loaded : Loaded) × LoadsAt node loaded image
  step-loads = (placed.loaded, step-at)

  number-is : number_of_role key placed.loaded.role ≡ item_number key it.item
  number-is = role-number key placed.loaded.key placed.loaded.streams placed.loaded.role it.item (item-row state it.item (row_with placed.loaded.key placed.loaded.role placed.loaded.streams) placed.row)

  pub step-listed : IsListed node image
  step-listed = listed-amid layout all w.before it.behind it.item node image k.list whole-is it.place

  -- the item is no part of the key, and the next one is that after it
  pub step-walks : (next : Option ℕ) → ((loaded : Loaded) → LoadsAt node loaded image → None ≡ part_loaded key node loaded) → ((prefix suffix : List ℕ) → HasListAtRest (prefix ++ node ∷ suffix) image → next ≡ first_node_of suffix)
      → IsWalkedTo layout key all items next (turn + 1)
  step-walks next nothing h = record {
    passed = w.passed ++ it.item ∷ [];
    left = it.behind;
    split = w.split ∙ ap (λ (xs : List Item). w.passed ++ xs) it.left_is ∙ sym (append_assoc w.passed (it.item ∷ []) it.behind);
    none = all-append key w.passed it.item w.none (not-a-part key it.item (sym number-is ∙ none-loaded key node placed.loaded (number_of_role key placed.loaded.role) refl (nothing placed.loaded step-at)));
    next_is = starts-behind layout all w.before it.behind it.item node image k.list whole-is it.place next h;
    many = let one = length-append w.passed (it.item ∷ []) in let many = w.many in omega (arith, one, many);
    before = w.before ++ it.item ∷ [];
    whole = whole-is ∙ sym (append_assoc w.before (it.item ∷ []) it.behind);
    within = let one = length-append w.passed (it.item ∷ []) in let two = length-append w.before (it.item ∷ []) in let within = w.within in omega (arith, one, two, within);
  }

  -- where the item at the next node is a part of the key, it is the first one
  pub step-finds : (found : ListedPart) → ((loaded : Loaded) → LoadsAt node loaded image → Some found ≡ part_loaded key node loaded) → IsFirstPart layout key items found
  step-finds found is =
      let said = some-loaded key node placed.loaded found (number_of_role key placed.loaded.role) refl (is placed.loaded step-at) in
      let same : it.item ≡ part key found.number = its-part key it.item found.number (sym number-is ∙ said.number_is) in
      record {
        passed = w.passed;
        behind = it.behind;
        split = w.split ∙ ap (λ (xs : List Item). w.passed ++ xs) it.left_is ∙ ap (λ (i : Item). w.passed ++ i ∷ it.behind) same;
        none = w.none;
        node_is = ap layout.place (sym same) ∙ it.place ∙ sym said.node_is;
        was = placed.loaded;
        here = ap (λ (i : Item). layout.at (layout.place i)) (sym same) ∙ placed.here;
        entry_is = sym said.entry_is;
      }

-- ---- the end

-- nothing is left
pub walk-ended : (layout : Layout) (key : List ℕ) (all items : List Item) (turn : ℕ) → IsWalkedTo layout key all items None turn → HaveNoPart key items
walk-ended layout key whole items turn w = subst (HaveNoPart key) (sym (w.split ∙ ap (λ (xs : List Item). w.passed ++ xs) (nothing w.left w.next_is) ∙ append-nil w.passed)) w.none where
  nothing : (left : List Item) → None ≡ first_node layout left → left ≡ []
  nothing [] is = refl
  nothing (item ∷ left) is = absurd (none-some is)

-- there is no part left after as many iterations as there are nodes at most
pub turns-ended : (layout : Layout) (key : List ℕ) (all items : List Item) (next : Option ℕ) (turn : ℕ) (image : Image) → HasListAtRest (nodes_of layout all) image → 131072 ≤ turn → IsWalkedTo layout key all items next turn → HaveNoPart key items
turns-ended layout key all items next turn image rest end w = go w.left refl where
  go : (left : List Item) → w.left ≡ left → HaveNoPart key items
  go [] is = subst (HaveNoPart key) (sym (w.split ∙ ap (λ (xs : List Item). w.passed ++ xs) is ∙ append-nil w.passed)) w.none
  go (item ∷ left) is =
      let few = rest.whole.few in
      let nodes : length (nodes_of layout all) ≡ length all = length-map all layout.place in
      let parts : length all ≡ length (w.before ++ item ∷ left) = ap (λ (xs : List Item). length xs) (w.whole ∙ ap (λ (xs : List Item). w.before ++ xs) is) in
      let joined = length-append w.before (item ∷ left) in
      let many = w.many in
      let within = w.within in
      absurd (omega (arith, few, nodes, parts, joined, many, within, end))

-- a list has no more nodes than that
pub turns-few : (layout : Layout) (key : List ℕ) (all items : List Item) (next : Option ℕ) (turn : ℕ) (image : Image) → HasListAtRest (nodes_of layout all) image → 131073 ≤ turn → IsWalkedTo layout key all items next turn → ⊥
turns-few layout key all items next turn image rest end w =
    let few = rest.whole.few in
    let nodes : length (nodes_of layout all) ≡ length all = length-map all layout.place in
    let parts : length all ≡ length (w.before ++ w.left) = ap (λ (xs : List Item). length xs) w.whole in
    let joined = length-append w.before w.left in
    let many = w.many in
    let within = w.within in
    omega (arith, few, nodes, parts, joined, many, within, end)

-- ---- what was found

pub found-some : (layout : Layout) (key : List ℕ) (items : List Item) (found : Option ListedPart) → is_some found ≡ true → ((part_is : ListedPart) → found ≡ Some part_is → IsFirstPart layout key items part_is) → IsFoundPart layout key items found
found-some layout key items None some first = absurd (let z : false ≡ true = some in cc)
found-some layout key items (Some found) some first = first found refl

pub found-none : (found : Option ListedPart) → is_some found ≡ false → found ≡ None
found-none None none = refl
found-none (Some found) none = absurd (let z : true ≡ false = none in cc)

pub not-none : (found : Option ListedPart) → is_some found ≡ true → found ≡ None → ⊥
not-none found some none = let z : false ≡ true = sym (ap (λ (o : Option ListedPart). is_some o) none) ∙ some in cc
