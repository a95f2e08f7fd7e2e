-- A folder whose list and chains are repaired represents what it holds, opened.
use Rattle.std.proofs.Common.{◌≡◌, ◌≢◌, ⊎_elim, ℕ, zero, suc, ◌≤◌, Bool, true, false, cond, List, [], ◌∷◌, length, Option, Some, None, Ok, refl, sym, ap, ap₂, ◌∙◌, subst, arith}
use Rattle.std.specs.Prelude.{◌==◌, ◌&&◌, ◌||◌, map, IfSome, slice_index_or}
use Rattle.std.specs.Option.{option_map, option_map_or, option_and_then}
use Rattle.std.specs.List.{filter_map, cons_option, AllByRecursion}
use Rattle.std.proofs.lemmas.Bool.{cases_Bool, and_parts, eqb-true, eq-eqb, or_left, or_right}
use Rattle.std.proofs.lemmas.Bool.Decides.{eqb_tells}
use Rattle.std.proofs.Math.Dec.{eqb}
use Rattle.spec_image.specs.Image.{Image}
use Rattle.blk_model.specs.Items.{Item, main, part, Row, main_row, part_row, item_of, same_item, times, IsValidHolding}
use Rattle.blk_model.specs.State.{Bounds, State, Object, object_at}
use Rattle.blk_model.specs.Holding as model
use Rattle.blk_model.specs.Holding.{open_state, objects_in, found_object, row_in}
use Rattle.blk_model.proofs.Same.{one_item, same_item_self}
use Rattle.blk_model.proofs.Times.{times-cons}
use Rattle.blk_model.proofs.Rests.{rest-open_state}
use Rattle.spec_format.specs.Hash.{hash}
use Rattle.spec_format.specs.BlockFiles.{is_among}
use Rattle.spec_format.specs.Names.{Name}
use Rattle.spec_format.specs.SparseIndex.{PartIndex}
use Rattle.spec_format.specs.Claims.{Claim, has_claim}
use Rattle.spec_folder.specs.ListView.{IsList}
use Rattle.spec_folder.specs.View.{list_of, store_of, view_of}
use Rattle.spec_folder.specs.Chains.{bucket_of_hash, chain, IsChain}
use Rattle.spec_folder.specs.Entries.{Role, IsPlain, IsParent, IsPart}
use Rattle.spec_folder.specs.Loads.{held_rule, unchained_rule, Loaded, load, all_claims}
use Rattle.law_recovery.proofs.FoundHolding.{found-holding}
use Rattle.spec_folder.specs.Shown.{HasParentIn}
use Rattle.spec_folder.specs.Found.{kept, found, row_of_loaded}
use Rattle.spec_folder.specs.Layout.{Layout, is_in, is_listed, order, HasDirtyMark, HasParentAt, IsPlacedAt, IsLayoutOf, Shows, Represents}
use Rattle.spec_folder.specs.ListImages.{walked}
use Rattle.law_folder.proofs.states.Bare.{no-record}
use Rattle.spec_format.proofs.Finished.{well_formed-finished}
use Rattle.law_folder.proofs.states.Laid.{parent-main}
use Rattle.law_folder.proofs.walks.Loading.{load-rule, load-clean}
use Rattle.law_folder.proofs.walks.Shown.{is_among-filter, node-is}
use Rattle.spec_folder.specs.Audit.{kept_as}
use Rattle.law_recovery.specs.ChainRepair.{is_kept_record, kept_records, KeepsAllWalked}
use Rattle.law_recovery.specs.MendedLinks.{HasMendedLinks, first_that, kept_layout, MendedLinksRepresent}
use Rattle.law_recovery.proofs.ChainRepair.{shown, given-some, kept-from, IsKeptRecord, test-of, of-test}
use Rattle.law_recovery.proofs.Frames.{load-chained, apart-claim}
use Rattle.law_recovery.proofs.OwnClaims.{all-once}

-- ---- kept records and their chains

abbrev all-kept : (image : Image) → HasMendedLinks image → KeepsAllWalked image
all-kept image mended = record { idle = mended.rests.idle; all_kept = mended.all_kept }

pub chain-has-test : (image : Image) (bucket c : ℕ) → is_among (kept_records image bucket) c ≡ true → is_kept_record (kept image) c ≡ true
unfolding kept_records
chain-has-test image bucket c h = (and_parts _ _ (sym (is_among-filter (is_kept_record (kept image)) (chain (store_of image) bucket).reached c) ∙ h)).0

pub has-chain-of : (image : Image) (mended : HasMendedLinks image) (node : ℕ) (k : Loaded) → is_among (walked image) node ≡ true → kept_as (store_of image) held_rule (walked image) node ≡ Some k → is_among (kept_records image (bucket_of_hash (hash k.key))) k.contents ≡ true
unfolding kept_records
has-chain-of image mended node k among is =
    is_among-filter (is_kept_record (kept image)) (chain (store_of image) (bucket_of_hash (hash k.key))).reached k.contents
    ∙ ap₂ (λ (a b : Bool). a && b) (test-of image mended.well_formed (all-kept image mended) node k among is) (load-chained (store_of image) node k ((shown image mended.well_formed (all-kept image mended)).loads node k among is))

pub node-at : (image : Image) (mended : HasMendedLinks image) (node : ℕ) (k : Loaded) → is_among (walked image) node ≡ true → kept_as (store_of image) held_rule (walked image) node ≡ Some k → k.node ≡ node
node-at image mended node k among is = node-is (store_of image) held_rule node k ((shown image mended.well_formed (all-kept image mended)).loads node k among is)

-- ---- rows that are given back

filter_map-few : (f : Item → Option Row) (rs : List Row) → length (filter_map f (map item_of rs)) ≤ length rs
filter_map-few f [] = omega arith
filter_map-few f (r ∷ rs) = go (f (item_of r)) (filter_map-few f rs) where
  go : (o : Option Row) → length (filter_map f (map item_of rs)) ≤ length rs → length (cons_option o (filter_map f (map item_of rs))) ≤ length (r ∷ rs)
  go None few = omega (arith, few)
  go (Some s) few = omega (arith, few)

all-back : (f : Item → Option Row) (rs : List Row) → filter_map f (map item_of rs) ≡ rs → AllByRecursion (λ r. f (item_of r) ≡ Some r) rs
all-back f [] e = tt
all-back f (r ∷ rs) e = go (f (item_of r)) refl e (all-back f rs) (filter_map-few f rs) where
  go : (o : Option Row) → f (item_of r) ≡ o → cons_option (f (item_of r)) (filter_map f (map item_of rs)) ≡ r ∷ rs → (filter_map f (map item_of rs) ≡ rs → AllByRecursion (λ r. f (item_of r) ≡ Some r) rs) → length (filter_map f (map item_of rs)) ≤ length rs
      → (f (item_of r) ≡ Some r) × AllByRecursion (λ r. f (item_of r) ≡ Some r) rs
  go None is e more few =
      let short : filter_map f (map item_of rs) ≡ r ∷ rs = rw is at e in
      let long : length (filter_map f (map item_of rs)) ≡ length (r ∷ rs) = ap length short in
      absurd (omega (arith, few, long))
  go (Some s) is e more few =
      let both : s ∷ filter_map f (map item_of rs) ≡ r ∷ rs = rw is at e in
      let head : s ≡ r = cc in
      let tail : filter_map f (map item_of rs) ≡ rs = cc in
      (is ∙ ap (λ (x : Row). Some x) head, more tail)

-- a row that is clean in a state is its row there, of a clean object
record IsSettledIn (state : State) (item : Item) (row : Row) : Type 0 where
  row_is : model.row_of state item ≡ Some row
  settled : IfSome (model.owner_object state item) (λ object. object.settled ≡ true)

settled-in : (state : State) (item : Item) (row : Row) → model.settled_row state item ≡ Some row → IsSettledIn state item row
unfolding model.settled_row model.row_of
settled-in state item row e = go (model.owner_object state item) refl e where
  one : (object : Object) (b : Bool) → object.settled ≡ b → cond b (row_in object item) None ≡ Some row → (row_in object item ≡ Some row) × (object.settled ≡ true)
  one object true is h = (h, is)
  one object false is h = cc

  go : (o : Option Object) → model.owner_object state item ≡ o → option_and_then (λ object. cond object.settled (row_in object item) None) (model.owner_object state item) ≡ Some row → IsSettledIn state item row
  go None is h = let none : ◌≡◌ {A = Option Row} None (Some row) = rw is at h in absurd (no none) where
    no : ◌≡◌ {A = Option Row} None (Some row) → ⊥
    no e = cc
  go (Some object) is h =
      let here : cond object.settled (row_in object item) None ≡ Some row = rw is at h in
      let both = one object object.settled refl here in
      record { row_is = rw is both.0; settled = rw is both.1 }

module _ (image : Image) (limits : Bounds) (mended : HasMendedLinks image) (valid : IsValidHolding (found image)) where
  pub all : KeepsAllWalked image
  all = record { idle = mended.rests.idle; all_kept = mended.all_kept }

  abbrev asked : ℕ → Option Loaded
  asked = kept_as (store_of image) held_rule (walked image)

  abbrev state : State
  state = open_state (found image) limits

  abbrev layout : Layout
  layout = kept_layout image

  pub rows-are : found image ≡ map row_of_loaded (kept image)
  unfolding found
  rows-are = rw (well_formed-finished image mended.well_formed) refl

  ks-are : kept image ≡ filter_map asked (walked image)
  ks-are = kept-from image mended.well_formed all

  pub node-of : (node : ℕ) (k : Loaded) → is_among (walked image) node ≡ true → asked node ≡ Some k → k.node ≡ node
  node-of node k among is = node-is (store_of image) held_rule node k ((shown image mended.well_formed all).loads node k among is)

  -- the first that passes a test which no other passes
  first-is : (xs : List ℕ) (test : Loaded → Bool) (node : ℕ) (k : Loaded) → is_among xs node ≡ true → asked node ≡ Some k → test k ≡ true → ((other : ℕ) (l : Loaded) → is_among xs other ≡ true → asked other ≡ Some l → test l ≡ true → other ≡ node) → first_that test (filter_map asked xs) ≡ Some k
  first-is [] test node k among is good alone = cc
  first-is (x ∷ xs) test node k among is good alone =
      ⊎_elim
      (λ (e : (eqb x node ≡ true) × (x ≡ node)). rw (ap asked e.1 ∙ is, good) refl)
      (λ (e : (eqb x node ≡ false) × (x ≢ node)). go (asked x) refl (first-is xs test node k (rw e.0 at among) is good (λ o l h i g. alone o l (or_right (x == o) (is_among xs o) h) i g)) e.1)
      (eqb_tells x node) where
        go : (o : Option Loaded) → asked x ≡ o → first_that test (filter_map asked xs) ≡ Some k → x ≢ node → first_that test (cons_option (asked x) (filter_map asked xs)) ≡ Some k
        go None is_x more ne = rw is_x more
        go (Some l) is_x more ne =
            ⊎_elim
            (λ (t : test l ≡ true). absurd (ne (alone x l (or_left (x == x) (is_among xs x) (eq-eqb x x refl)) is_x t)))
            (λ (t : test l ≡ false). rw (is_x, t) more)
            (cases_Bool (test l))

  -- and what passes it is among them
  pub record IsFirst (test : Loaded → Bool) (k : Loaded) : Type 0 where
    pub node : ℕ
    pub among : is_among (walked image) node ≡ true
    pub is : asked node ≡ Some k
    pub good : test k ≡ true

  first-in : (xs : List ℕ) (test : Loaded → Bool) (k : Loaded) → ((x : ℕ) → is_among xs x ≡ true → is_among (walked image) x ≡ true) → first_that test (filter_map asked xs) ≡ Some k → IsFirst test k
  first-in [] test k sub e = cc
  first-in (x ∷ xs) test k sub e = go (asked x) refl (first-in xs test k (λ y h. sub y (or_right (x == y) (is_among xs y) h))) e where
    here : is_among (walked image) x ≡ true
    here = sub x (or_left (x == x) (is_among xs x) (eq-eqb x x refl))

    same : {l : Loaded} → ◌≡◌ {A = Option Loaded} (Some l) (Some k) → l ≡ k
    same e = cc

    go : (o : Option Loaded) → asked x ≡ o → (first_that test (filter_map asked xs) ≡ Some k → IsFirst test k) → first_that test (cons_option (asked x) (filter_map asked xs)) ≡ Some k → IsFirst test k
    go None is more h = more (rw is at h)
    go (Some l) is more h =
        ⊎_elim
        (λ (t : test l ≡ true). let one : ◌≡◌ {A = Option Loaded} (Some l) (Some k) = rw (is, t) at h in record { node = x; among = here; is = is ∙ one; good = subst (λ (m : Loaded). test m ≡ true) (same one) t })
        (λ (t : test l ≡ false). more (rw (is, t) at h))
        (cases_Bool (test l))

  pub first-here : (test : Loaded → Bool) (k : Loaded) → first_that test (kept image) ≡ Some k → IsFirst test k
  first-here test k e = first-in (walked image) test k (λ x h. h) (ap (first_that test) (sym ks-are) ∙ e)

  -- ---- what lies where

  pub at-node : (node : ℕ) (k : Loaded) → is_among (walked image) node ≡ true → asked node ≡ Some k → layout.at node ≡ Some k
  unfolding kept_layout
  at-node node k among is =
      ap (first_that (λ l. l.node == node)) ks-are
      ∙ first-is (walked image) (λ l. l.node == node) node k among is (eq-eqb k.node node (node-of node k among is)) (λ o l h i g. sym (node-of o l h i) ∙ eqb-true l.node node g)

  from-at : (node : ℕ) (k : Loaded) → layout.at node ≡ Some k → (is_among (walked image) node ≡ true) × (asked node ≡ Some k)
  unfolding kept_layout
  from-at node k e =
      let f : IsFirst (λ l. l.node == node) k = first-here (λ l. l.node == node) k e in
      let same : f.node ≡ node = sym (node-of f.node k f.among f.is) ∙ eqb-true k.node node f.good in
      (subst (λ (x : ℕ). is_among (walked image) x ≡ true) same f.among, subst (λ (x : ℕ). asked x ≡ Some k) same f.is)

  owner-is : (node : ℕ) (k : Loaded) (claim : Claim) → is_among (walked image) node ≡ true → asked node ≡ Some k → has_claim (all_claims k) claim ≡ true → layout.owner claim ≡ Some node
  unfolding kept_layout
  owner-is node k claim among is there =
      ap (option_map (λ l. l.node)) (ap (first_that (λ l. has_claim (all_claims l) claim)) ks-are ∙ first-is (walked image) (λ l. has_claim (all_claims l) claim) node k among is there alone)
      ∙ ap (λ (x : ℕ). Some x) (node-of node k among is) where
        alone : (other : ℕ) (l : Loaded) → is_among (walked image) other ≡ true → asked other ≡ Some l → has_claim (all_claims l) claim ≡ true → other ≡ node
        alone other l h i g =
            ⊎_elim
            (λ (e : (eqb other node ≡ true) × (other ≡ node)). e.1)
            (λ (e : (eqb other node ≡ false) × _).
            let apart = (shown image mended.well_formed all).apart other node l k h among e.0 i is in
            let no : has_claim (all_claims l) claim ≡ false = apart-claim (all_claims l) (all_claims k) claim apart.claims there in
            absurd (clash (sym g ∙ no)))
            (eqb_tells other node) where
              clash : true ≡ false → ⊥
              clash e = cc

  -- ---- items

  item-at : Loaded → Item
  item-at k = item_of (row_of_loaded k)

  items-of : List ℕ → List Item
  items-of xs = map item_of (map row_of_loaded (filter_map asked xs))

  some-times : (xs : List ℕ) (item : Item) (node : ℕ) (k : Loaded) → is_among xs node ≡ true → asked node ≡ Some k → same_item item (item_of (row_of_loaded k)) ≡ true → 1 ≤ times item (map item_of (map row_of_loaded (filter_map asked xs)))
  some-times [] item node k among is same = cc
  some-times (x ∷ xs) item node k among is same =
      ⊎_elim
      (λ (e : (eqb x node ≡ true) × (x ≡ node)). rw (ap asked e.1 ∙ is) (one k same))
      (λ (e : (eqb x node ≡ false) × _). more (asked x) (some-times xs item node k (rw e.0 at among) is same))
      (eqb_tells x node) where
        one : (m : Loaded) → same_item item (item_of (row_of_loaded m)) ≡ true → 1 ≤ times item (map item_of (map row_of_loaded (m ∷ filter_map asked xs)))
        one m is_same = let t = times-cons item (item_of (row_of_loaded m)) (map item_of (map row_of_loaded (filter_map asked xs))) in let u : ◌≡◌ {A = ℕ} (cond (same_item item (item_of (row_of_loaded m))) 1 0) 1 = ap (λ (b : Bool). cond b 1 0) is_same in omega (arith, t, u)

        more : (o : Option Loaded) → 1 ≤ times item (map item_of (map row_of_loaded (filter_map asked xs))) → 1 ≤ times item (map item_of (map row_of_loaded (cons_option o (filter_map asked xs))))
        more None h = h
        more (Some l) h = let t = times-cons item (item_of (row_of_loaded l)) (map item_of (map row_of_loaded (filter_map asked xs))) in omega (arith, t, h)

  two-times : (xs : List ℕ) (item : Item) (one other : ℕ) (k l : Loaded) → (one == other) ≡ false → is_among xs one ≡ true → is_among xs other ≡ true → asked one ≡ Some k → asked other ≡ Some l
      → same_item item (item_of (row_of_loaded k)) ≡ true → same_item item (item_of (row_of_loaded l)) ≡ true → 2 ≤ times item (map item_of (map row_of_loaded (filter_map asked xs)))
  two-times [] item one other k l ne a b is are p q = cc
  two-times (x ∷ xs) item one other k l ne a b is are p q =
      ⊎_elim
      (λ (e : (eqb x one ≡ true) × (x ≡ one)).
      let not_other : (x == other) ≡ false = ap (λ (y : ℕ). y == other) e.1 ∙ ne in
      let rest = some-times xs item other l (rw not_other at b) are q in
      rw (ap asked e.1 ∙ is) (two k p rest))
      (λ (e : (eqb x one ≡ false) × _). ⊎_elim
      (λ (f : (eqb x other ≡ true) × (x ≡ other)).
      let rest = some-times xs item one k (rw e.0 at a) is p in
      rw (ap asked f.1 ∙ are) (two l q rest))
      (λ (f : (eqb x other ≡ false) × _). more (asked x) (two-times xs item one other k l ne (rw e.0 at a) (rw f.0 at b) is are p q))
      (eqb_tells x other))
      (eqb_tells x one) where
        two : (m : Loaded) → same_item item (item_of (row_of_loaded m)) ≡ true → 1 ≤ times item (map item_of (map row_of_loaded (filter_map asked xs))) → 2 ≤ times item (map item_of (map row_of_loaded (m ∷ filter_map asked xs)))
        two m same rest = let t = times-cons item (item_of (row_of_loaded m)) (map item_of (map row_of_loaded (filter_map asked xs))) in let u : ◌≡◌ {A = ℕ} (cond (same_item item (item_of (row_of_loaded m))) 1 0) 1 = ap (λ (b : Bool). cond b 1 0) same in omega (arith, t, u, rest)

        more : (o : Option Loaded) → 2 ≤ times item (map item_of (map row_of_loaded (filter_map asked xs))) → 2 ≤ times item (map item_of (map row_of_loaded (cons_option o (filter_map asked xs))))
        more None h = h
        more (Some m) h = let t = times-cons item (item_of (row_of_loaded m)) (map item_of (map row_of_loaded (filter_map asked xs))) in omega (arith, t, h)

  items-are : map item_of (found image) ≡ map item_of (map row_of_loaded (filter_map asked (walked image)))
  items-are = ap (map item_of) (rows-are ∙ ap (map row_of_loaded) ks-are)

  place-is : (node : ℕ) (k : Loaded) → is_among (walked image) node ≡ true → asked node ≡ Some k → layout.place (item_of (row_of_loaded k)) ≡ node
  unfolding kept_layout
  place-is node k among is =
      let item : Item = item_of (row_of_loaded k) in
      ap (λ (o : Option Loaded). option_map_or (λ l. l.node) o 0) (ap (first_that (λ l. same_item item (item_of (row_of_loaded l)))) ks-are ∙ first-is (walked image) (λ l. same_item item (item_of (row_of_loaded l))) node k among is (same_item_self item) alone)
      ∙ node-of node k among is where
        alone : (other : ℕ) (l : Loaded) → is_among (walked image) other ≡ true → asked other ≡ Some l → same_item (item_of (row_of_loaded k)) (item_of (row_of_loaded l)) ≡ true → other ≡ node
        alone other l h i g =
            ⊎_elim
            (λ (e : (eqb other node ≡ true) × (other ≡ node)). e.1)
            (λ (e : (eqb other node ≡ false) × _).
            let two = two-times (walked image) (item_of (row_of_loaded k)) other node l k e.0 h among i is g (same_item_self (item_of (row_of_loaded k))) in
            let few = valid.once (item_of (row_of_loaded k)) in
            let same : times (item_of (row_of_loaded k)) (map item_of (found image)) ≡ times (item_of (row_of_loaded k)) (map item_of (map row_of_loaded (filter_map asked (walked image)))) = ap (times (item_of (row_of_loaded k))) items-are in
            absurd (omega (arith, two, few, same)))
            (eqb_tells other node)

  order-of : (xs : List ℕ) → ((x : ℕ) → is_among xs x ≡ true → is_among (walked image) x ≡ true) → map layout.place (map item_of (map row_of_loaded (filter_map asked xs))) ≡ xs
  order-of [] sub = refl
  order-of (x ∷ xs) sub =
      let here : is_among (walked image) x ≡ true = sub x (or_left (x == x) (is_among xs x) (eq-eqb x x refl)) in
      let g = given-some image mended.well_formed all x here in
      rw g.1 (ap₂ (λ (y : ℕ) (ys : List ℕ). y ∷ ys) (place-is x g.0 here g.1) (order-of xs (λ y h. sub y (or_right (x == y) (is_among xs y) h))))

  pub order-is : order state layout ≡ walked image
  unfolding open_state
  order-is = ap (map layout.place) items-are ∙ order-of (walked image) (λ x h. h)

  -- an item that is listed is that of a kept node
  record IsItemOf (item : Item) : Type 0 where
    node : ℕ
    k : Loaded
    among : is_among (walked image) node ≡ true
    is : asked node ≡ Some k
    item_is : item ≡ item_of (row_of_loaded k)

  item-in : (xs : List ℕ) (item : Item) → ((x : ℕ) → is_among xs x ≡ true → is_among (walked image) x ≡ true) → is_in (map item_of (map row_of_loaded (filter_map asked xs))) item ≡ true → IsItemOf item
  item-in [] item sub e = cc
  item-in (x ∷ xs) item sub e = go (asked x) refl (item-in xs item (λ y h. sub y (or_right (x == y) (is_among xs y) h))) e where
    go : (o : Option Loaded) → asked x ≡ o → (is_in (map item_of (map row_of_loaded (filter_map asked xs))) item ≡ true → IsItemOf item) → is_in (map item_of (map row_of_loaded (cons_option (asked x) (filter_map asked xs)))) item ≡ true → IsItemOf item
    go None is more h = more (rw is at h)
    go (Some l) is more h =
        let h1 : (same_item item (item_of (row_of_loaded l)) || is_in (map item_of (map row_of_loaded (filter_map asked xs))) item) ≡ true = rw is at h in
        ⊎_elim
        (λ (t : same_item item (item_of (row_of_loaded l)) ≡ true). record { node = x; k = l; among = sub x (or_left (x == x) (is_among xs x) (eq-eqb x x refl)); is = is; item_is = one_item item (item_of (row_of_loaded l)) t })
        (λ (t : same_item item (item_of (row_of_loaded l)) ≡ false). more (rw t at h1))
        (cases_Bool (same_item item (item_of (row_of_loaded l))))

  item-listed : (item : Item) → is_listed state item ≡ true → IsItemOf item
  unfolding open_state
  item-listed item e = item-in (walked image) item (λ x h. h) (ap (λ (is : List Item). is_in is item) (sym items-are) ∙ e)

  listed-at : (xs : List ℕ) (node : ℕ) (k : Loaded) → is_among xs node ≡ true → asked node ≡ Some k → is_in (map item_of (map row_of_loaded (filter_map asked xs))) (item_of (row_of_loaded k)) ≡ true
  listed-at [] node k among is = cc
  listed-at (x ∷ xs) node k among is =
      ⊎_elim
      (λ (e : (eqb x node ≡ true) × (x ≡ node)). rw (ap asked e.1 ∙ is) (or_left (same_item (item_of (row_of_loaded k)) (item_of (row_of_loaded k))) (is_in (map item_of (map row_of_loaded (filter_map asked xs))) (item_of (row_of_loaded k))) (same_item_self (item_of (row_of_loaded k)))))
      (λ (e : (eqb x node ≡ false) × _). more (asked x) (listed-at xs node k (rw e.0 at among) is))
      (eqb_tells x node) where
        more : (o : Option Loaded) → is_in (map item_of (map row_of_loaded (filter_map asked xs))) (item_of (row_of_loaded k)) ≡ true → is_in (map item_of (map row_of_loaded (cons_option o (filter_map asked xs)))) (item_of (row_of_loaded k)) ≡ true
        more None h = h
        more (Some l) h = or_right (same_item (item_of (row_of_loaded k)) (item_of (row_of_loaded l))) (is_in (map item_of (map row_of_loaded (filter_map asked xs))) (item_of (row_of_loaded k))) h

  is-listed : (node : ℕ) (k : Loaded) → is_among (walked image) node ≡ true → asked node ≡ Some k → is_listed state (item_of (row_of_loaded k)) ≡ true
  unfolding open_state
  is-listed node k among is = ap (λ (items : List Item). is_in items (item_of (row_of_loaded k))) items-are ∙ listed-at (walked image) node k among is

  -- its row in the opened state
  row-in : (xs : List ℕ) (P : Row → Type 0) (node : ℕ) (k : Loaded) → is_among xs node ≡ true → asked node ≡ Some k → AllByRecursion P (map row_of_loaded (filter_map asked xs)) → P (row_of_loaded k)
  row-in [] P node k among is each = cc
  row-in (x ∷ xs) P node k among is each = go (asked x) refl (λ h p. row-in xs P node k h is p) each where
    same : {l : Loaded} → ◌≡◌ {A = Option Loaded} (Some l) (Some k) → l ≡ k
    same e = cc

    no : ◌≡◌ {A = Option Loaded} None (Some k) → ⊥
    no e = cc

    go : (o : Option Loaded) → asked x ≡ o → (is_among xs node ≡ true → AllByRecursion P (map row_of_loaded (filter_map asked xs)) → P (row_of_loaded k)) → AllByRecursion P (map row_of_loaded (cons_option (asked x) (filter_map asked xs))) → P (row_of_loaded k)
    go None is_x more all_rows =
        ⊎_elim
        (λ (e : (eqb x node ≡ true) × (x ≡ node)). absurd (no (sym is_x ∙ ap asked e.1 ∙ is)))
        (λ (e : (eqb x node ≡ false) × _). more (rw e.0 at among) (rw is_x at all_rows))
        (eqb_tells x node)
    go (Some l) is_x more all_rows =
        let split : AllByRecursion P (map row_of_loaded (l ∷ filter_map asked xs)) = rw is_x at all_rows in
        ⊎_elim
        (λ (e : (eqb x node ≡ true) × (x ≡ node)). subst (λ (m : Loaded). P (row_of_loaded m)) (same (sym is_x ∙ ap asked e.1 ∙ is)) split.0)
        (λ (e : (eqb x node ≡ false) × _). more (rw e.0 at among) split.1)
        (eqb_tells x node)

  rest-back : filter_map (model.settled_row state) (map item_of (found image)) ≡ found image
  unfolding open_state model.rest
  rest-back = rest-open_state (found image) limits valid

  settled-at : (node : ℕ) (k : Loaded) → is_among (walked image) node ≡ true → asked node ≡ Some k → IsSettledIn state (item_of (row_of_loaded k)) (row_of_loaded k)
  settled-at node k among is =
      let back : AllByRecursion (λ r. model.settled_row state (item_of r) ≡ Some r) (found image) = all-back (model.settled_row state) (found image) rest-back in
      settled-in state (item_of (row_of_loaded k)) (row_of_loaded k)
      (row-in (walked image) (λ r. model.settled_row state (item_of r) ≡ Some r) node k among is (subst (AllByRecursion (λ r. model.settled_row state (item_of r) ≡ Some r)) (rows-are ∙ ap (map row_of_loaded) ks-are) back))

  -- ---- the layout

  mark-of : (item : Item) (k : Loaded) → IfSome (model.owner_object state item) (λ object. object.settled ≡ true) → (k.dirty == 0) ≡ true → HasDirtyMark state item k
  mark-of (part key n) k settled clean = eqb-true k.dirty 0 clean
  mark-of (main key) k settled clean = go (model.owner_object state (main key)) settled where
    go : (o : Option Object) → IfSome o (λ object. object.settled ≡ true) → IfSome o (λ object. (k.dirty == 0) ≡ object.settled)
    go None h = tt
    go (Some object) h = clean ∙ sym h

  clean-at : (node : ℕ) (k : Loaded) → is_among (walked image) node ≡ true → asked node ≡ Some k → (k.dirty == 0) ≡ true
  clean-at node k among is = load-clean (store_of image) held_rule node k ((shown image mended.well_formed all).loads node k among is)

  -- a part's role, by its item
  record IsPartRole (key : List ℕ) (k : Loaded) : Type 0 where
    name : Name
    index : PartIndex
    role : k.role ≡ IsPart name index
    of_key : name.key ≡ key

  part-role : (key : List ℕ) (n : ℕ) (k : Loaded) → part key n ≡ item_of (row_of_loaded k) → IsPartRole key k
  part-role key n k e = go k.role refl e where
    never : {a b : List ℕ} → part a n ≡ main b → ⊥
    never e = cc

    key-one : {a b : List ℕ} {m o : ℕ} → part a m ≡ part b o → a ≡ b
    key-one e = cc

    go : (r : Role) → k.role ≡ r → part key n ≡ item_of (row_of_loaded k) → IsPartRole key k
    go IsPlain is h = let x : part key n ≡ main k.key = rw is at h in absurd (never x)
    go (IsParent index) is h = let x : part key n ≡ main k.key = rw is at h in absurd (never x)
    go (IsPart name index) is h = let x : part key n ≡ part name.key name.part = rw is at h in record { name = name; index = index; role = is; of_key = sym (key-one x) }

  parent-of : (item : Item) (node : ℕ) (k : Loaded) → is_among (walked image) node ≡ true → asked node ≡ Some k → item ≡ item_of (row_of_loaded k) → HasParentAt state layout item k
  parent-of (main key) node k among is e = tt
  parent-of (part key n) node k among is e =
      let r : IsPartRole key k = part-role key n k e in
      let p : HasParentIn (walked image) asked r.name = (shown image mended.well_formed all).parents node k r.name r.index among is r.role in
      let item_is : item_of (row_of_loaded p.parent) ≡ main key = parent-main r.name p.parent p.of ∙ ap main r.of_key in
      record {
        name = r.name;
        index = r.index;
        role = r.role;
        of_key = r.of_key;
        listed = subst (λ (i : Item). is_listed state i ≡ true) item_is (is-listed p.at p.parent p.among p.is);
        parent = p.parent;
        at_parent = ap layout.at (ap layout.place (sym item_is) ∙ place-is p.at p.parent p.among p.is) ∙ at-node p.at p.parent p.among p.is;
        of = p.of;
      }

  laid-item : (item : Item) → is_listed state item ≡ true → IsPlacedAt state layout item
  laid-item item listed =
      let f : IsItemOf item = item-listed item listed in
      let s : IsSettledIn state (item_of (row_of_loaded f.k)) (row_of_loaded f.k) = settled-at f.node f.k f.among f.is in
      record {
        loaded = f.k;
        here = ap layout.at (ap layout.place f.item_is ∙ place-is f.node f.k f.among f.is) ∙ at-node f.node f.k f.among f.is;
        row = ap (model.row_of state) f.item_is ∙ s.row_is;
        mark = mark-of item f.k (subst (λ (i : Item). IfSome (model.owner_object state i) (λ object. object.settled ≡ true)) (sym f.item_is) s.settled) (clean-at f.node f.k f.among f.is);
        parent = parent-of item f.node f.k f.among f.is f.item_is;
      }

  in-order : (node : ℕ) → is_among (order state layout) node ≡ true → is_among (walked image) node ≡ true
  in-order node h = ap (λ (ns : List ℕ). is_among ns node) (sym order-is) ∙ h

  chain-has : (bucket c : ℕ) → is_among (kept_records image bucket) c ≡ true → is_kept_record (kept image) c ≡ true
  unfolding kept_records
  chain-has bucket c h = (and_parts _ _ (sym (is_among-filter (is_kept_record (kept image)) (chain (store_of image) bucket).reached c) ∙ h)).0

  has-chain : (node : ℕ) (k : Loaded) → is_among (walked image) node ≡ true → asked node ≡ Some k → is_among (kept_records image (bucket_of_hash (hash k.key))) k.contents ≡ true
  unfolding kept_records
  has-chain node k among is =
      is_among-filter (is_kept_record (kept image)) (chain (store_of image) (bucket_of_hash (hash k.key))).reached k.contents
      ∙ ap₂ (λ (a b : Bool). a && b) (test-of image mended.well_formed all node k among is) (load-chained (store_of image) node k ((shown image mended.well_formed all).loads node k among is))

  chains-are : (bucket : ℕ) → layout.chains bucket ≡ kept_records image bucket
  unfolding kept_layout
  chains-are bucket = refl

  state-is : (node : ℕ) → layout.state node ≡ 0
  unfolding kept_layout
  state-is node = refl

  -- each object of an opened state is live
  pub all-live : (number : ℕ) (object : Object) → object_at state number ≡ Some object → object.live ≡ false → ⊥
  unfolding open_state objects_in found_object
  all-live number object here dead = go (found image) number here where
    clash : true ≡ false → ⊥
    clash e = cc

    no : ◌≡◌ {A = Option Object} None (Some object) → ⊥
    no e = cc

    live-is : (o : Object) → o.live ≡ true → ◌≡◌ {A = Option Object} (Some o) (Some object) → ⊥
    live-is o l e = let same : o ≡ object = cc in clash (sym l ∙ ap (λ (x : Object). x.live) same ∙ dead)

    go : (rows : List Row) (number : ℕ) → slice_index_or (objects_in (found image) rows) number None ≡ Some object → ⊥
    go [] number e = no e
    go (main_row key shape streams ∷ rows) zero e = live-is (found_object (found image) key shape streams) refl e
    go (main_row key shape streams ∷ rows) (suc number) e = go rows number e
    go (part_row key n value ∷ rows) number e = go rows number e

  mended-lies : IsLayoutOf state layout
  mended-lies = record {
    laid = laid-item;
    normal = λ node among. state-is node;
    chained = λ node k among here.
        let f = from-at node k here in
        ap (λ (ws : List ℕ). is_among ws k.contents) (chains-are (bucket_of_hash (hash k.key))) ∙ has-chain node k f.0 f.1;
    unchained = λ bucket c below among.
        let r : IsKeptRecord image mended.well_formed all c = of-test image mended.well_formed all c (chain-has bucket c (ap (λ (ws : List ℕ). is_among ws c) (sym (chains-are bucket)) ∙ among)) in
        record { node = r.node; loaded = r.k; listed = ap (λ (ns : List ℕ). is_among ns r.node) order-is ∙ r.among; here = at-node r.node r.k r.among r.is; record_is = r.contents };
    own = λ node k claim here there. let f = from-at node k here in owner-is node k claim f.0 f.1 there;
    single = λ node k here. let f = from-at node k here in let s = shown image mended.well_formed all in all-once image held_rule node k (s.loads node k f.0 f.1) (s.single node k f.0 f.1);
    doomed_objects = λ number object here dead. absurd (all-live number object here dead);
  }

  mended-shows : Shows (store_of image) layout
  mended-shows = record {
    no_record = no-record image;
    each = λ node k here.
        let f = from-at node k here in
        subst (λ (s : ℕ). load (store_of image) (unchained_rule s) node ≡ Ok k) (sym (state-is node)) (load-rule (store_of image) held_rule (unchained_rule 0) node k ((shown image mended.well_formed all).loads node k f.0 f.1) refl refl refl);
    chains = λ bucket below. subst (IsChain (store_of image) bucket) (sym (chains-are bucket)) (mended.chains bucket below);
  }

  pub mended-represents : Represents (view_of image) state layout
  mended-represents = record {
    holds = record { shows = mended-shows; lies = mended-lies };
    list = subst (IsList (list_of image)) (sym order-is) mended.rests.whole;
    idle = mended.rests.idle;
  }

pub links-represent : MendedLinksRepresent
links-represent image limits mended are = mended-represents image limits mended (found-holding image are)
