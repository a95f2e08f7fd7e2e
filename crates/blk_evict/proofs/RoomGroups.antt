-- Eviction units are evicted one after another, from the back of the LRU list as it is then.
use Rattle.std.proofs.Common.{◌≡◌, inl, inr, ℕ, ◌+◌, Bool, true, false, ◌||◌, cond, List, [], ◌∷◌, ◌++◌, Some, None, Option, refl, sym, ap, subst, ◌∙◌, reverse, append-nil, append_assoc, map, ⊎_elim}
use mathlib.Core.List.{reverse-cons}
use Rattle.std.specs.List.{AllByRecursion, cons_option, list_any}
use Rattle.std.specs.Option.{option_and_then, option_map_or}
use Rattle.std.specs.Str.{bytes_eq}
use Rattle.std.proofs.lemmas.Bool.{cases_Bool, or_cases, or_left, or_right}
use Rattle.std.proofs.lemmas.List.{reverse-append}
use Rattle.std.proofs.lemmas.List.Elements.{filter_map-append}
use Rattle.blk_model.specs.Items.{Item, main, part, key_of, same_item}
use Rattle.blk_model.specs.State.{Object, State, first_with, is_named, slot_has_item}
use Rattle.blk_model.specs.Room.{Group, whole, single, evicted_until, groups_from_back, is_out, is_pinned, left_of, part_number, parts_among, shortest, without}
use Rattle.blk_model.proofs.Evicted.{IsLoose, left_slot_has, evicted_are_loose}
use Rattle.blk_model.proofs.Same.{one_item, same_bytes, same_item_self}
use Rattle.spec_folder.specs.Layout.{is_in}
use Rattle.law_state.proofs.RestRoom.{others-go}
use Rattle.blk_evict.specs.RoomLaws.{AreOfNamed, CoveredPartsStayOfNamed, IsLastUnpinned, IsOfNamed, ItemsThatStayArePinnedAsBefore, MayGo, NothingMoreGoes, TheLastUnpinnedGoesNext, TheLastUnpinnedMayGo, TheOthersGoFromWhatIsLeft, group_for}

clash : true ≡ false → ⊥
clash h = cc

or-none : (b : Bool) → b ≡ false → (b || false) ≡ false
or-none true e = e
or-none false e = refl

-- ---- from the back

-- what stays once the eviction unit of an item is removed
next : (Item → Bool) → Item → Item → Bool
next stays (main key) = λ other. stays other || bytes_eq key (key_of other)
next stays (part key n) = stays

-- parts of a key, from the back
parts-reverse : (key : List ℕ) (items : List Item) → reverse (parts_among key (reverse items)) ≡ parts_among key items
parts-reverse key [] = refl
parts-reverse key (item ∷ items) =
    ap (λ (l : List Item). reverse (parts_among key l)) (reverse-cons item items)
    ∙ ap (λ (l : List ℕ). reverse l) (filter_map-append (part_number key) (reverse items) (item ∷ []))
    ∙ reverse-append (parts_among key (reverse items)) (parts_among key (item ∷ []))
    ∙ ap (λ (l : List ℕ). reverse (parts_among key (item ∷ [])) ++ l) (parts-reverse key items)
    ∙ one (part_number key item)
  where
    one : (o : Option ℕ) → reverse (cons_option o []) ++ parts_among key items ≡ cons_option o (parts_among key items)
    one None = refl
    one (Some n) = refl

-- an item that need not stay is evicted with the parts of its key that are in front of it
goes : (stays : Item → Bool) (item : Item) (front : List Item) → stays item ≡ false → groups_from_back stays (item ∷ reverse front) ≡ group_for item front ∷ groups_from_back (next stays item) (reverse front)
unfolding groups_from_back next
goes stays (main key) front e =
    ap (λ (b : Bool). cond b (groups_from_back stays (reverse front)) (whole key (reverse (parts_among key (reverse front))) ∷ groups_from_back (λ other. stays other || bytes_eq key (key_of other)) (reverse front))) e
    ∙ ap (λ (ns : List ℕ). whole key ns ∷ groups_from_back (λ other. stays other || bytes_eq key (key_of other)) (reverse front)) (parts-reverse key front)
goes stays (part key n) front e = ap (λ (b : Bool). cond b (groups_from_back stays (reverse front)) (single key n ∷ groups_from_back stays (reverse front))) e

-- an item that stays is passed over
stays-back : (stays : Item → Bool) (item : Item) (before : List Item) → stays item ≡ true → groups_from_back stays (item ∷ before) ≡ groups_from_back stays before
unfolding groups_from_back
stays-back stays (main key) before e = ap (λ (b : Bool). cond b (groups_from_back stays before) (whole key (reverse (parts_among key before)) ∷ groups_from_back (λ other. stays other || bytes_eq key (key_of other)) before)) e
stays-back stays (part key n) before e = ap (λ (b : Bool). cond b (groups_from_back stays before) (single key n ∷ groups_from_back stays before)) e

-- all items of a list that stay are passed over
passed : (stays : Item → Bool) (behind rest : List Item) → AllByRecursion (λ item. stays item ≡ true) behind → groups_from_back stays (reverse behind ++ rest) ≡ groups_from_back stays rest
passed stays [] rest all = refl
passed stays (item ∷ behind) rest all =
    ap (λ (l : List Item). groups_from_back stays (l ++ rest)) (reverse-cons item behind)
    ∙ ap (groups_from_back stays) (append_assoc (reverse behind) (item ∷ []) rest)
    ∙ passed stays behind (item ∷ rest) all.1
    ∙ stays-back stays item rest all.0

none-back : (stays : Item → Bool) (items : List Item) → AllByRecursion (λ item. stays item ≡ true) items → groups_from_back stays (reverse items) ≡ []
unfolding groups_from_back
none-back stays items all = ap (groups_from_back stays) (sym (append-nil (reverse items))) ∙ passed stays items [] all

back-of : (front : List Item) (item : Item) (behind : List Item) → reverse (front ++ item ∷ behind) ≡ reverse behind ++ item ∷ reverse front
back-of front item behind =
    reverse-append front (item ∷ behind)
    ∙ ap (λ (l : List Item). l ++ reverse front) (reverse-cons item behind)
    ∙ append_assoc (reverse behind) (item ∷ []) (reverse front)

-- the first eviction unit that may be evicted is that of the last item that isn't pinned
first-back : (state : State) (covered front : List Item) (item : Item) (behind : List Item) → IsLastUnpinned state covered front item behind
    → groups_from_back (is_pinned state covered) (reverse state.uses) ≡ group_for item front ∷ groups_from_back (next (is_pinned state covered) item) (reverse front)
first-back state covered front item behind is =
    ap (λ (l : List Item). groups_from_back (is_pinned state covered) (reverse l)) is.listed
    ∙ ap (groups_from_back (is_pinned state covered)) (back-of front item behind)
    ∙ passed (is_pinned state covered) behind (item ∷ reverse front) is.pinned_behind
    ∙ goes (is_pinned state covered) item front is.unpinned

-- ---- until there is enough

-- the units that were evicted already are the first ones
done-first : (enough : List Group → Bool) (done groups : List Group) → (others : List Group) × (shortest enough done groups ≡ done ++ others)
done-first enough done [] = ([], sym (append-nil done))
done-first enough done (group ∷ groups) = go (enough done) (done-first enough (done ++ group ∷ []) groups) where
  go : (b : Bool) → (others : List Group) × (shortest enough (done ++ group ∷ []) groups ≡ (done ++ group ∷ []) ++ others) → (others : List Group) × (cond b done (shortest enough (done ++ group ∷ []) groups) ≡ done ++ others)
  go true more = ([], sym (append-nil done))
  go false more = (group ∷ more.0, more.1 ∙ append_assoc done (group ∷ []) more.0)

none-shortest : (enough : List Group → Bool) (groups : List Group) → enough [] ≡ true → shortest enough [] groups ≡ []
none-shortest enough [] e = refl
none-shortest enough (group ∷ groups) e = ap (λ (b : Bool). cond b [] (shortest enough (group ∷ []) groups)) e

one-shortest : (enough : List Group → Bool) (group : Group) (groups : List Group) → enough [] ≡ false → (others : List Group) × (shortest enough [] (group ∷ groups) ≡ group ∷ others)
one-shortest enough group groups e =
    let more = done-first enough (group ∷ []) groups in
    (more.0, ap (λ (b : Bool). cond b [] (shortest enough (group ∷ []) groups)) e ∙ more.1)

pub without-none : (state : State) → without [] state ≡ state
unfolding without
without-none state = refl

pub nothing-more : NothingMoreGoes
unfolding evicted_until
nothing-more enough state covered (inl e) = none-shortest (λ groups. enough (without groups state)) (groups_from_back (is_pinned state covered) (reverse state.uses)) (ap enough (without-none state) ∙ e)
nothing-more enough state covered (inr all) = ap (shortest (λ groups. enough (without groups state)) []) (none-back (is_pinned state covered) state.uses all)

-- the eviction unit of an item that need not stay may be evicted
pub loose-for : (stays : Item → Bool) (item : Item) (front : List Item) → stays item ≡ false → IsLoose stays (group_for item front)
loose-for stays (main key) front e = e
loose-for stays (part key n) front e = e

pub last-next : TheLastUnpinnedGoesNext
unfolding evicted_until
last-next enough state covered front item behind valid is wants =
    let group : Group = group_for item front in
    let more = one-shortest (λ groups. enough (without groups state)) (group_for item front) (groups_from_back (next (is_pinned state covered) item) (reverse front)) (ap enough (without-none state) ∙ wants) in
    let are : evicted_until enough state covered ≡ group_for item front ∷ more.0 = ap (shortest (λ groups. enough (without groups state)) []) (first-back state covered front item behind is) ∙ more.1 in
    are ∙ ap (λ (groups : List Group). group_for item front ∷ groups) (sym (others-go state valid covered (group_for item front) [] (loose-for (is_pinned state covered) item front is.unpinned, tt) enough more.0 are))

prefix-loose : (stays : Item → Bool) (first others : List Group) → AllByRecursion (IsLoose stays) (first ++ others) → AllByRecursion (IsLoose stays) first
prefix-loose stays [] others all = tt
prefix-loose stays (group ∷ first) others all = (all.0, prefix-loose stays first others all.1)

pub others-next : TheOthersGoFromWhatIsLeft
others-next enough state covered [] others valid are = ap (λ (s : State). evicted_until enough s covered) (without-none state) ∙ are
others-next enough state covered (group ∷ first) others valid are =
    others-go state valid covered group first
    (prefix-loose (is_pinned state covered) (group ∷ first) others (subst (λ groups. AllByRecursion (IsLoose (is_pinned state covered)) groups) are (evicted_are_loose enough state covered)))
    enough others are

-- ---- pins

-- an item that isn't out has the same first owner
pub first-same : (groups : List Group) (item : Item) (start : ℕ) (slots : List (Option Object)) → is_out groups item ≡ false → first_with item start (map (option_and_then (left_of groups)) slots) ≡ first_with item start slots
first-same groups item start [] stays = refl
first-same groups item start (slot ∷ slots) stays =
    let here : slot_has_item item (option_and_then (left_of groups) slot) ≡ slot_has_item item slot = left_slot_has groups item slot ∙ ap (λ b. cond b false (slot_has_item item slot)) stays in
    ap (λ b. cond b (Some start) (first_with item (start + 1) (map (option_and_then (left_of groups)) slots))) here
    ∙ ap (cond (slot_has_item item slot) (Some start)) (first-same groups item (start + 1) slots stays)

pub pinned-before : ItemsThatStayArePinnedAsBefore
unfolding without
pinned-before state covered [] item stays = refl
pinned-before state covered (group ∷ groups) (main key) stays = ap (λ (o : Option ℕ). option_map_or (is_named state) o false) (first-same (group ∷ groups) (main key) 0 state.objects stays)
pinned-before state covered (group ∷ groups) (part key n) stays = refl

-- what holds of each of the items in range holds of an item that is one of them
pub covered-one : (item : Item) (covered : List Item) (P : Item → Type 0) → AllByRecursion P covered → list_any (same_item item) covered ≡ true → P item
covered-one item [] P all e = absurd (clash (sym e))
covered-one item (other ∷ covered) P all e = ⊎_elim
    (λ (h : same_item item other ≡ true). subst P (sym (one_item item other h)) all.0)
    (λ (h : list_any (same_item item) covered ≡ true). covered-one item covered P all.1 h)
    (or_cases (same_item item other) (list_any (same_item item) covered) e)

-- after a main item that isn't pinned are no parts of its key, where all there is pinned
no-parts : (state : State) (covered : List Item) (key : List ℕ) (behind : List Item) → AreOfNamed state covered → is_pinned state [] (main key) ≡ false → AllByRecursion (λ other. is_pinned state covered other ≡ true) behind → parts_among key behind ≡ []
no-parts state covered key [] named un all = refl
no-parts state covered key (main other ∷ behind) named un all = no-parts state covered key behind named un all.1
no-parts state covered key (part other n ∷ behind) named un all = ⊎_elim
    (λ (e : bytes_eq key other ≡ true).
    let its : is_pinned state [] (main other) ≡ true = covered-one (part other n) covered (IsOfNamed state) named all.0 in
    absurd (clash (sym its ∙ ap (λ (k : List ℕ). is_pinned state [] (main k)) (sym (same_bytes key other e)) ∙ un)))
    (λ (e : bytes_eq key other ≡ false). ap (λ (b : Bool). cons_option (cond b (Some n) None) (parts_among key behind)) e ∙ no-parts state covered key behind named un all.1)
    (cases_Bool (bytes_eq key other))

-- the parts of a main item that isn't pinned are in front of it
front-parts : (state : State) (covered front : List Item) (key : List ℕ) (behind : List Item) → AreOfNamed state covered → IsLastUnpinned state covered front (main key) behind → parts_among key front ≡ parts_among key state.uses
front-parts state covered front key behind named is =
    sym (ap (parts_among key) is.listed
    ∙ filter_map-append (part_number key) front (main key ∷ behind)
    ∙ ap (λ (l : List ℕ). parts_among key front ++ l) (no-parts state covered key behind named is.unpinned is.pinned_behind)
    ∙ append-nil (parts_among key front))

pub last-goes : TheLastUnpinnedMayGo
last-goes state covered front (part key n) behind named is = record {
  listed = is.listed;
  unpinned = refl;
  parts = λ other e. absurd (apart other e);
} where
  apart : (other : List ℕ) → part key n ≡ main other → ⊥
  apart other e = cc
last-goes state covered front (main key) behind named is = record {
  listed = is.listed;
  unpinned = is.unpinned;
  parts = λ other e. subst (λ (k : List ℕ). parts_among k front ≡ parts_among k state.uses) (same other e) (front-parts state covered front key behind named is);
} where
  same : (other : List ℕ) → main key ≡ main other → key ≡ other
  same other e = ap key_of e

-- a main item that is pinned isn't in the eviction unit of an item that may be evicted
pinned-stays : (state : State) (front : List Item) (item : Item) (behind : List Item) (key : List ℕ) → MayGo state front item behind → is_pinned state [] (main key) ≡ true → is_out (group_for item front ∷ []) (main key) ≡ false
pinned-stays state front (part other n) behind key goes pinned = refl
pinned-stays state front (main other) behind key goes pinned = or-none (bytes_eq other key) (⊎_elim
    (λ (e : bytes_eq other key ≡ true). absurd (clash (sym pinned ∙ ap (λ (k : List ℕ). is_pinned state [] (main k)) (sym (same_bytes other key e)) ∙ goes.unpinned)))
    (λ (e : bytes_eq other key ≡ false). e)
    (cases_Bool (bytes_eq other key)))

one-of-named : (state : State) (front : List Item) (item : Item) (behind : List Item) (other : Item) → MayGo state front item behind → IsOfNamed state other → IsOfNamed (without (group_for item front ∷ []) state) other
one-of-named state front item behind (main key) goes named = named
one-of-named state front item behind (part key n) goes named = pinned-before state [] (group_for item front ∷ []) (main key) (pinned-stays state front item behind key goes named) ∙ named

pub of-named-stay : CoveredPartsStayOfNamed
of-named-stay state [] front item behind named goes = tt
of-named-stay state (other ∷ covered) front item behind named goes = (one-of-named state front item behind other goes named.0, of-named-stay state covered front item behind named.1 goes)

-- an item is among those in front of it, itself, and those after
pub in-middle : (front : List Item) (item : Item) (rest : List Item) → is_in (front ++ item ∷ rest) item ≡ true
in-middle [] item rest = or_left (same_item item item) (is_in rest item) (same_item_self item)
in-middle (i ∷ front) item rest = or_right (same_item item i) (is_in (front ++ item ∷ rest) item) (in-middle front item rest)
