-- An open moves one item to the front, at one word.
use Rattle.std.proofs.Common.{◌≡◌, ℕ, ◌+◌, ◌≤◌, List, [], ◌∷◌, ◌++◌, map, take, refl, ap, sym, ◌∙◌, subst, Bool, true, false, arith, Option, Some, None, cond, ⊎_elim}
use Rattle.std.specs.Prelude.{not, ◌&&◌, ◌||◌, if◌then◌else◌, nat_lt, is_none, slice_set}
use Rattle.std.specs.List.{filter}
use Rattle.std.proofs.lemmas.Bool.{or_left, or_right, cases_Bool}
use Rattle.spec_folder.specs.ListView.{IsList, Distinct, after_writes}
use Rattle.spec_folder.specs.Walk.{walk}
use Rattle.spec_folder.specs.Completion.{completed_list}
use Rattle.spec_folder.specs.ListPlans.{touch_writes}
use Rattle.law_folder.proofs.lists.ListCompletions.{touch_turns, touch_ends}
use Rattle.blk_model.specs.Items.{Item, main, part, same_item, times}
use Rattle.blk_model.specs.State.{State, IsValidState, object_at, live_with, first_with, owners}
use Rattle.blk_model.specs.declared.Refusal.{Refusal}
use Rattle.blk_model.specs.Request.{to_open}
use Rattle.blk_model.specs.Refusals.{no_key, no_name, names_one, refused, refusals, evicted, first_refusal}
use Rattle.blk_model.specs.Step.{step, outcome}
use Rattle.blk_model.specs.Effects.{opened, used, effect}
use Rattle.blk_model.specs.Room.{without}
use Rattle.blk_model.specs.ListSteps.{list_steps, steps_unless, uses_of, dooms, list_after, front}
use Rattle.blk_model.specs.Stops.{StopOutcome, pick, picked, picked_by, is_live_and_settled, is_live, is_safe, is_turned}
use Rattle.blk_model.proofs.Same.{one_item}
use Rattle.blk_model.proofs.Times.{times-cons}
use Rattle.blk_model.proofs.Slots.{first_with_has, owners-has}
use Rattle.spec_format.specs.BlockFiles.{is_among}
use Rattle.spec_folder.specs.View.{View, StoreView}
use Rattle.spec_folder.specs.Loads.{held_rule, Loaded}
use Rattle.spec_folder.specs.Audit.{kept_among}
use Rattle.spec_folder.specs.Found.{row_of_loaded}
use Rattle.spec_folder.specs.Layout.{Layout, is_listed, nodes_of, order, IsPlacedAt, HasDirtyMark, HasParentAt, IsDoomedAt, IsListedRecord, IsLayoutOf, Holds, Represents, is_in}
use Rattle.spec_folder.specs.Given.{IsTest}
use Rattle.law_folder.proofs.states.Laid.{IsNodeOf, node-of, is_among-node, found-picked}
use Rattle.law_folder.proofs.states.Central.{settled-on}
use Rattle.blk_model.specs.Holding as model
use Rattle.blk_model.specs.declared.Refusal.TheVariants as refusal

-- ---- the same items in another order

-- items that are the same set
abbrev pub SameItems : List Item → List Item → Type 0
SameItems a b = (i : Item) → is_in a i ≡ is_in b i

same-has : (y : Layout) (a b : List Item) → SameItems a b → (w : ℕ) → is_among (nodes_of y a) w ≡ is_among (nodes_of y b) w
same-has y a b same w = both (is_among (nodes_of y a) w) (is_among (nodes_of y b) w) (one a b same) (one b a (λ i. sym (same i))) where
  one : (a b : List Item) → SameItems a b → is_among (nodes_of y a) w ≡ true → is_among (nodes_of y b) w ≡ true
  one a b same h = let n : IsNodeOf y a w = node-of y a w h in subst (λ (x : ℕ). is_among (nodes_of y b) x ≡ true) n.is (is_among-node y b n.item (sym (same n.item) ∙ n.among))

  both : (p q : Bool) → (p ≡ true → q ≡ true) → (q ≡ true → p ≡ true) → p ≡ q
  both true q f g = sym (f refl)
  both false true f g = g refl
  both false false f g = refl

module _ (m : State) (y : Layout) (uses : List Item) (names : List (Option ℕ)) (same : SameItems uses m.uses) (r : IsLayoutOf m y) where
  pub lies-reordered : IsLayoutOf (record m { uses = uses; names = names }) y
  unfolding model.row_of
  lies-reordered = record {
    laid = λ i there. let l : IsPlacedAt m y i = r.laid i (sym (same i) ∙ there) in record { loaded = l.loaded; here = l.here; row = l.row; mark = mark i l.loaded l.mark; parent = parent i l.loaded l.parent };
    normal = λ w there. r.normal w (sym (same-has y uses m.uses same w) ∙ there);
    chained = λ w l there is. r.chained w l (sym (same-has y uses m.uses same w) ∙ there) is;
    unchained = λ b c below there. let q : IsListedRecord m y c = r.unchained b c below there in
        record { node = q.node; loaded = q.loaded; listed = same-has y uses m.uses same q.node ∙ q.listed; here = q.here; record_is = q.record_is };
    own = r.own;
    single = r.single;
    doomed_objects = λ number o is dead. let d : IsDoomedAt m y number o = r.doomed_objects number o is dead in
        record { loaded = d.loaded; here = d.here; row = d.row; mark = d.mark; unlisted = same-has y uses m.uses same (y.place_of_doomed number) ∙ d.unlisted; alone = λ other x at gone e. d.alone other x at gone e };
  } where
    mark : (i : Item) (l : Loaded) → HasDirtyMark m i l → HasDirtyMark (record m { uses = uses; names = names }) i l
    mark (main key) l x = x
    mark (part key n) l x = x

    parent : (i : Item) (l : Loaded) → HasParentAt m y i l → HasParentAt (record m { uses = uses; names = names }) y i l
    parent (main key) l x = x
    parent (part key n) l x = record { name = x.name; index = x.index; role = x.role; of_key = x.of_key; listed = same (main key) ∙ x.listed; parent = x.parent; at_parent = x.at_parent; of = x.of }

-- ---- an item accessed

-- a list around an item that it has once
pub record IsAround (i : Item) (items : List Item) : Type 0 where
  pub before : List Item
  pub suffix : List Item
  pub is : items ≡ before ++ i ∷ suffix
  pub rest : filter (λ other. not (same_item i other)) items ≡ before ++ suffix

filter-absent : (i : Item) (items : List Item) → times i items ≡ 0 → filter (λ other. not (same_item i other)) items ≡ items
filter-absent i [] e = refl
filter-absent i (j ∷ items) e =
    let t = times-cons i j items in
    ⊎_elim
    (λ (h : same_item i j ≡ true). let c : times i (j ∷ items) ≡ 1 + times i items = t ∙ ap (λ (b : Bool). cond b 1 0 + times i items) h in absurd (omega arith))
    (λ (h : same_item i j ≡ false). let c : times i (j ∷ items) ≡ 0 + times i items = t ∙ ap (λ (b : Bool). cond b 1 0 + times i items) h in rw h (ap (λ (xs : List Item). j ∷ xs) (filter-absent i items (omega arith))))
    (cases_Bool (same_item i j))

around-more : (i j : Item) (items : List Item) → same_item i j ≡ false → IsAround i items → IsAround i (j ∷ items)
around-more i j items h a = record { before = j ∷ a.before; suffix = a.suffix; is = ap (λ (xs : List Item). j ∷ xs) a.is; rest = rw h (ap (λ (xs : List Item). j ∷ xs) a.rest) }

pub around : (i : Item) (items : List Item) → is_in items i ≡ true → times i items ≤ 1 → IsAround i items
around i [] there few = absurd (let c : false ≡ true = there in cc)
around i (j ∷ items) there few =
    let t = times-cons i j items in
    ⊎_elim
    (λ (h : same_item i j ≡ true).
    let c : times i (j ∷ items) ≡ 1 + times i items = t ∙ ap (λ (b : Bool). cond b 1 0 + times i items) h in
    let s : i ≡ j = one_item i j h in
    record { before = []; suffix = items; is = ap (λ (x : Item). x ∷ items) (sym s); rest = rw h (filter-absent i items (omega arith)) })
    (λ (h : same_item i j ≡ false).
    let c : times i (j ∷ items) ≡ 0 + times i items = t ∙ ap (λ (b : Bool). cond b 1 0 + times i items) h in
    around-more i j items h (around i items (rw h at there) (omega arith)))
    (cases_Bool (same_item i j))

pub nodes-append : (y : Layout) (a b : List Item) → nodes_of y (a ++ b) ≡ nodes_of y a ++ nodes_of y b
nodes-append y [] b = refl
nodes-append y (i ∷ a) b = ap (λ (xs : List ℕ). y.place i ∷ xs) (nodes-append y a b)

pub in-append : (a b : List Item) (j : Item) → is_in (a ++ b) j ≡ (is_in a j || is_in b j)
in-append [] b j = refl
in-append (i ∷ a) b j = rw (in-append a b j) (assoc (same_item j i) (is_in a j) (is_in b j)) where
  assoc : (a b c : Bool) → (a || (b || c)) ≡ ((a || b) || c)
  assoc true b c = refl
  assoc false b c = refl

-- the access of a listed item leaves the same items
pub used-same : (i : Item) (items : List Item) → IsAround i items → SameItems (used i items) items
used-same i items a j =
    let left : is_in (used i items) j ≡ (same_item j i || (is_in a.before j || is_in a.suffix j)) = ap (λ (xs : List Item). same_item j i || is_in xs j) a.rest ∙ ap (λ (b : Bool). same_item j i || b) (in-append a.before a.suffix j) in
    let right : is_in items j ≡ (is_in a.before j || (same_item j i || is_in a.suffix j)) = ap (λ (xs : List Item). is_in xs j) a.is ∙ in-append a.before (i ∷ a.suffix) j in
    left ∙ swap (same_item j i) (is_in a.before j) (is_in a.suffix j) ∙ sym right where
      swap : (p q s : Bool) → (p || (q || s)) ≡ (q || (p || s))
      swap true true s = refl
      swap true false s = refl
      swap false q s = refl

-- ---- the open

-- a list of the model has what it has at least once
pub listed-times : (i : Item) (items : List Item) → 1 ≤ times i items → is_in items i ≡ true
listed-times i [] few = absurd (omega arith)
listed-times i (j ∷ items) few =
    let t = times-cons i j items in
    ⊎_elim
    (λ (h : same_item i j ≡ true). or_left (same_item i j) (is_in items i) h)
    (λ (h : same_item i j ≡ false). let c : times i (j ∷ items) ≡ 0 + times i items = t ∙ ap (λ (b : Bool). cond b 1 0 + times i items) h in or_right (same_item i j) (is_in items i) (listed-times i items (omega arith)))
    (cases_Bool (same_item i j))

-- the access of a listed item's node leads from one order to the other, at its second word
module _ (v : View) (m : State) (y : Layout) (r : Represents v m y) (i : Item) (a : IsAround i m.uses) where
  old-nodes : order m y ≡ nodes_of y a.before ++ y.place i ∷ nodes_of y a.suffix
  old-nodes = ap (nodes_of y) a.is ∙ nodes-append y a.before (i ∷ a.suffix)

  new-nodes : nodes_of y (used i m.uses) ≡ y.place i ∷ nodes_of y a.before ++ nodes_of y a.suffix
  new-nodes = ap (λ (xs : List ℕ). y.place i ∷ xs) (ap (nodes_of y) a.rest ∙ nodes-append y a.before a.suffix)

  split-list : IsList v.list (nodes_of y a.before ++ y.place i ∷ nodes_of y a.suffix)
  split-list = subst (λ (xs : List ℕ). IsList v.list xs) old-nodes r.list

  -- the nodes that are walked after the redo of what is in flight
  pub touch-walks : (k : ℕ) → walk (completed_list (after_writes (take k (touch_writes (y.place i) v.list)) v.list)) ≡ nodes_of y (if nat_lt k 2 then m.uses else used i m.uses)
  touch-walks k = touch_turns (y.place i) v.list (nodes_of y a.before) (nodes_of y a.suffix) split-list r.idle k ∙ choose (nat_lt k 2) where
    choose : (b : Bool) → (if b then nodes_of y a.before ++ y.place i ∷ nodes_of y a.suffix else y.place i ∷ nodes_of y a.before ++ nodes_of y a.suffix) ≡ nodes_of y (if b then m.uses else used i m.uses)
    choose true = sym old-nodes
    choose false = sym new-nodes

  pub touched-list : IsList (after_writes (touch_writes (y.place i) v.list) v.list) (nodes_of y (used i m.uses)) × ((after_writes (touch_writes (y.place i) v.list) v.list).transaction ≡ 0)
  touched-list =
      let e = touch_ends (y.place i) v.list (nodes_of y a.before) (nodes_of y a.suffix) split-list r.idle in
      (subst (λ (xs : List ℕ). IsList (after_writes (touch_writes (y.place i) v.list) v.list) xs) (sym new-nodes) e.0, e.1)

  pub touched-once : Distinct (nodes_of y (used i m.uses))
  touched-once = touched-list.0.distinct

-- what is kept of a walk of the same items is what is picked in their order, where an object stays clean or not
module _ (v : StoreView) (m : State) (y : Layout) (r : Holds v m y) (valid : IsValidState m) (uses : List Item) (same : SameItems uses m.uses) where
  pub same-settled : IsTest m y uses (λ number. is_live_and_settled (object_at m number))
  same-settled = settled-on m y r.lies.laid valid uses (λ i there. sym (same i) ∙ there)

-- a test that is the same
pub test-same : (m : State) (y : Layout) (items : List Item) (t s : ℕ → Bool) → ((number : ℕ) → t number ≡ s number) → IsTest m y items t → IsTest m y items s
test-same m y items t s same is = record { owners = is.owners; main_test = λ key l number there here own. is.main_test key l number there here own ∙ same number }

-- where a command changes no object, those that are clean are safe
pub safe-same : (b x : Bool) → b ≡ ((b && (b || x)) || false)
safe-same true x = refl
safe-same false x = refl

module _ (v : StoreView) (m : State) (y : Layout) (r : Holds v m y) (valid : IsValidState m) (uses next : List Item) (names : List (Option ℕ)) (same : SameItems uses m.uses) (once : Distinct (nodes_of y uses)) where
  pub picked-order : map row_of_loaded (kept_among v held_rule (nodes_of y uses)) ≡ pick m (record m { uses = next; names = names }) false uses
  unfolding pick picked picked_by is_safe is_turned
  picked-order =
      let t : ℕ → Bool = λ number. is_safe m (record m { uses = next; names = names }) number || (false && is_turned m (record m { uses = next; names = names }) number) in
      let is : IsTest m y uses t = test-same m y uses (λ number. is_live_and_settled (object_at m number)) t (λ number. safe-same (is_live_and_settled (object_at m number)) (not (is_live (object_at m number)))) (same-settled v m y r valid uses same) in
      found-picked m y r.lies.laid uses (λ i there. sym (same i) ∙ there) t is v r once (λ key n there. same (main key) ∙ (r.lies.laid (part key n) (sym (same (part key n)) ∙ there)).parent.listed)

-- the last of four refusals does not hold where none does
four : (a b c d : Bool) (p q r s : Refusal) → first_refusal ((a, p) ∷ (b, q) ∷ (c, r) ∷ (d, s) ∷ []) ≡ None → d ≡ false
four true b c d p q r s e = cc
four false true c d p q r s e = cc
four false false true d p q r s e = cc
four false false false true p q r s e = cc
four false false false false p q r s e = refl

-- an item that somebody has is listed
pub first-listed : (m : State) (i : Item) → IsValidState m → is_none (first_with i 0 m.objects) ≡ false → is_listed m i ≡ true
first-listed m i valid some = go (first_with i 0 m.objects) refl some where
  go : (o : Option ℕ) → first_with i 0 m.objects ≡ o → is_none o ≡ false → is_listed m i ≡ true
  go None e some = absurd (let c : true ≡ false = some in cc)
  go (Some j) e some =
      let f = first_with_has i 0 j m.objects e in
      let one : 1 ≤ owners i m.objects = owners-has i f.0 m.objects f.2 in
      let all = valid.listed i in
      listed-times i m.uses (omega arith)

-- an item with a first owner is listed
pub first-some : (m : State) (i : Item) (j : ℕ) → IsValidState m → first_with i 0 m.objects ≡ Some j → is_listed m i ≡ true
first-some m i j valid e = first-listed m i valid (ap (λ (o : Option ℕ). is_none o) e)

-- the open itself
module _ (v : View) (m : State) (y : Layout) (r : Represents v m y) (valid : IsValidState m) (moment handle : ℕ) (key : List ℕ) (passed : refused moment (to_open handle key) m ≡ None) where
  there : is_listed m (main key) ≡ true
  unfolding refusals
  there = first-listed m (main key) valid (four (no_key key) (no_name handle) (names_one m handle) (is_none (live_with m key)) refusal.BadKey refusal.BadHandle refusal.HandleBusy refusal.Missing passed)

  a : IsAround (main key) m.uses
  a = around (main key) m.uses there (valid.once (main key))

  pub opens : (step m moment (to_open handle key)).state ≡ opened handle key m
  unfolding step outcome evicted without opened effect
  opens = rw passed refl

  pub open-ends : Represents (record v { list = after_writes (touch_writes (y.place (main key)) v.list) v.list }) (step m moment (to_open handle key)).state y
  unfolding opened
  open-ends =
      let list = touched-list v m y r (main key) a in
      subst (λ (n : State). Represents (record v { list = after_writes (touch_writes (y.place (main key)) v.list) v.list }) n y) (sym opens)
      (record {
        holds = record { shows = r.holds.shows; lies = lies-reordered m y (used (main key) m.uses) (slice_set m.names handle (live_with m key)) (used-same (main key) m.uses a) r.holds.lies };
        list = list.0;
        idle = list.1;
      })

  pub steps-are : list_steps m moment (to_open handle key) ≡ front (main key) ∷ []
  unfolding list_steps steps_unless evicted dooms uses_of
  steps-are = rw passed refl

  pub open-moments : (k : ℕ) → StopOutcome m moment (to_open handle key) (step m moment (to_open handle key)).state
      (map row_of_loaded (kept_among v.store held_rule (walk (completed_list (after_writes (take k (touch_writes (y.place (main key)) v.list)) v.list)))))
  unfolding list_after opened
  open-moments k =
      subst (λ (n : State). StopOutcome m moment (to_open handle key) n (map row_of_loaded (kept_among v.store held_rule (walk (completed_list (after_writes (take k (touch_writes (y.place (main key)) v.list)) v.list)))))) (sym opens)
      (go (nat_lt k 2) (touch-walks v m y r (main key) a k)) where
        names : List (Option ℕ)
        names = slice_set m.names handle (live_with m key)

        listed-after : used (main key) m.uses ≡ list_after m moment (to_open handle key) 1
        listed-after = rw steps-are refl

        go : (b : Bool) → walk (completed_list (after_writes (take k (touch_writes (y.place (main key)) v.list)) v.list)) ≡ nodes_of y (if b then m.uses else used (main key) m.uses)
            → StopOutcome m moment (to_open handle key) (record m { uses = used (main key) m.uses; names = names })
            (map row_of_loaded (kept_among v.store held_rule (walk (completed_list (after_writes (take k (touch_writes (y.place (main key)) v.list)) v.list)))))
        go true e = record {
          step_count = 0;
          within = omega arith;
          with_turned = false;
          picked_rows = ap (λ (ws : List ℕ). map row_of_loaded (kept_among v.store held_rule ws)) e ∙ picked-order v.store m y r.holds valid m.uses (used (main key) m.uses) names (λ i. refl) r.list.distinct;
        }
        go false e = record {
          step_count = 1;
          within = rw steps-are (omega arith);
          with_turned = false;
          picked_rows = ap (λ (ws : List ℕ). map row_of_loaded (kept_among v.store held_rule ws)) e
              ∙ picked-order v.store m y r.holds valid (used (main key) m.uses) (used (main key) m.uses) names (used-same (main key) m.uses a) (touched-once v m y r (main key) a)
              ∙ ap (pick m (record m { uses = used (main key) m.uses; names = names }) false) listed-after;
        }
