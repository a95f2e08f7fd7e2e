-- What a cache keeps once an eviction unit is out.
use Rattle.std.proofs.Common.{◌≡◌, ℕ, suc, ◌+◌, Bool, true, false, cond, List, [], ◌∷◌, length, map, Option, Some, None, refl, sym, ap, subst, ◌∙◌, arith, get_or}
use Rattle.std.specs.Prelude.{IfSome, if◌then◌else◌}
use Rattle.std.specs.List.{sum_by}
use Rattle.std.specs.Option.{option_and_then}
use Rattle.std.proofs.lemmas.List.Sums.{sum_by-cons}
use Rattle.blk_model.specs.Room.{Group, is_pinned, left_of, own_charge, without}
use Rattle.blk_model.specs.State.{Object, State, IsValidState, is_named, named_by, object_at}
use Rattle.blk_model.proofs.Evicted.{IsLoose, kept_parts, named_left}
use Rattle.spec_folder.specs.Layout.{Layout}
use Rattle.blk_model.specs.Bounds.{bounds_of}
use Rattle.blk_handles.specs.Bindings.{Binding, Bindings, binding_of, open_count}
use Rattle.blk_cache.specs.CacheKeeping.{IsBoundAs, named_from, named_objects}
use Rattle.blk_cache.specs.RoomKept.{EvictedStatesAreKept, NamedObjectsLieApart, WholeGroupsLieApart}
use Rattle.blk_evict.specs.RoomLaws.{NamedObjectsStay, group_for}
use Rattle.blk_cache.proofs.RoomBound.{has-slot}
use Rattle.blk_evict.proofs.RoomApart.{alone-apart, key-apart, named-stays}
use Rattle.blk_evict.proofs.RoomCounts.{counted-less}
use Rattle.blk_evict.proofs.RoomGroups.{loose-for}

module _ (state : State) (valid : IsValidState state) (group : Group) (loose : IsLoose (is_pinned state []) group) where
  abbrev left : State
  left = without (group ∷ []) state

  abbrev shrunk : Object → Object
  shrunk object = record object { parts = kept_parts (group ∷ []) object }

  named-same : (number : ℕ) → is_named left number ≡ is_named state number
  unfolding without
  named-same number = refl

  abbrev StayFrom : ℕ → List (Option Object) → Type 0
  StayFrom number slots = (k : ℕ) → IfSome (get_or slots k None) (λ object. is_named state (number + k) ≡ true → left_of (group ∷ []) object ≡ Some (shrunk object))

  behind-slot : (number : ℕ) (slot : Option Object) (slots : List (Option Object)) → StayFrom number (slot ∷ slots) → StayFrom (number + 1) slots
  behind-slot number slot slots stay k = subst (λ n. IfSome (get_or slots k None) (λ object. is_named state n ≡ true → left_of (group ∷ []) object ≡ Some (shrunk object))) (let e : number + suc k ≡ number + 1 + k = omega arith in e) (stay (suc k))

  at-slot : (number : ℕ) (object : Object) (slots : List (Option Object)) → StayFrom number (Some object ∷ slots) → is_named state number ≡ true → left_of (group ∷ []) object ≡ Some (shrunk object)
  at-slot number object slots stay = subst (λ n. is_named state n ≡ true → left_of (group ∷ []) object ≡ Some (shrunk object)) (let e : number + 0 ≡ number = omega arith in e) (stay 0)

  abbrev SameNamed : List Object → List Object → Type 0
  SameNamed objects others = (length objects ≡ length others) × (sum_by own_charge objects ≡ sum_by own_charge others)

  -- an object that no handle names counts as little as none
  unnamed-from : (number : ℕ) (slot : Option Object) (slots : List (Option Object)) → is_named left number ≡ false → named_from left number (slot ∷ slots) ≡ named_from left (number + 1) slots
  unnamed-from number None slots is = refl
  unnamed-from number (Some object) slots is = ap (λ (b : Bool). if b then object ∷ named_from left (number + 1) slots else named_from left (number + 1) slots) is

  some-from : (s : State) (number : ℕ) (object : Object) (slots : List (Option Object)) (b : Bool) → is_named s number ≡ b → named_from s number (Some object ∷ slots) ≡ cond b (object ∷ named_from s (number + 1) slots) (named_from s (number + 1) slots)
  some-from s number object slots b is = ap (λ (b : Bool). if b then object ∷ named_from s (number + 1) slots else named_from s (number + 1) slots) is

  abbrev others-of : List (Option Object) → List (Option Object)
  others-of slots = map (option_and_then (left_of (group ∷ []))) slots

  named-both : (number : ℕ) (slots : List (Option Object)) → StayFrom number slots → SameNamed (named_from left number (map (option_and_then (left_of (group ∷ []))) slots)) (named_from state number slots)
  named-both number [] stay = (refl, refl)
  named-both number (None ∷ slots) stay = named-both (number + 1) slots (behind-slot number None slots stay)
  named-both number (Some object ∷ slots) stay = go (is_named state number) refl (named-both (number + 1) slots (behind-slot number (Some object) slots stay)) where
    go : (b : Bool) → is_named state number ≡ b → SameNamed (named_from left (number + 1) (others-of slots)) (named_from state (number + 1) slots) → SameNamed (named_from left number (left_of (group ∷ []) object ∷ others-of slots)) (named_from state number (Some object ∷ slots))
    go true named more =
        let now : named_from left number (left_of (group ∷ []) object ∷ others-of slots) ≡ shrunk object ∷ named_from left (number + 1) (others-of slots) = ap (λ (o : Option Object). named_from left number (o ∷ others-of slots)) (at-slot number object slots stay named) ∙ some-from left number (shrunk object) (others-of slots) true (named-same number ∙ named) in
        let was : named_from state number (Some object ∷ slots) ≡ object ∷ named_from state (number + 1) slots = some-from state number object slots true named in (
          ap (λ (os : List Object). length os) now ∙ ap suc more.0 ∙ sym (ap (λ (os : List Object). length os) was),
          ap (sum_by own_charge) now ∙ sum_by-cons own_charge (shrunk object) (named_from left (number + 1) (others-of slots)) ∙ ap (λ (n : ℕ). own_charge object + n) more.1 ∙ sym (sum_by-cons own_charge object (named_from state (number + 1) slots)) ∙ sym (ap (sum_by own_charge) was),
        )
    go false named more =
        let now = unnamed-from number (left_of (group ∷ []) object) (others-of slots) (named-same number ∙ named) in
        let was : named_from state number (Some object ∷ slots) ≡ named_from state (number + 1) slots = some-from state number object slots false named in
        (ap (λ (os : List Object). length os) now ∙ more.0 ∙ sym (ap (λ (os : List Object). length os) was), ap (sum_by own_charge) now ∙ more.1 ∙ sym (ap (sum_by own_charge) was))

  stay-all : StayFrom 0 state.objects
  stay-all k = go (object_at state k) refl where
    go : (o : Option Object) → object_at state k ≡ o → IfSome o (λ object. is_named state (0 + k) ≡ true → left_of (group ∷ []) object ≡ Some (shrunk object))
    go None e = tt
    go (Some object) e = λ named. named_left state valid [] (group ∷ []) (loose, tt) k object e (subst (λ n. is_named state n ≡ true) (let z : 0 + k ≡ k = omega arith in z) named)

  objects-are : others-of state.objects ≡ left.objects
  unfolding without
  objects-are = refl

  named-less : SameNamed (named_objects left) (named_objects state)
  named-less = subst (λ (slots : List (Option Object)). SameNamed (named_from left 0 slots) (named_objects state)) objects-are (named-both 0 state.objects stay-all)

  module _ (layout there : Layout) (stay : NamedObjectsStay left layout there) where
    bound-left : (name : ℕ) (o : Option ℕ) (b : Option Binding) → named_by state name ≡ o → IsBoundAs state layout o b → IsBoundAs left there o b
    bound-left name None None e is = tt
    bound-left name None (Some binding) e is = is
    bound-left name (Some number) None e is = is
    bound-left name (Some number) (Some binding) e is =
        let named : is_named state number ≡ true = has-slot state.names name number e in
        let here : object_at left number ≡ Some (shrunk is.object) = named-stays state valid group loose number is.object is.here named in
        let lies = stay number (shrunk is.object) here (named-same number ∙ named) in
        record {
          object = shrunk is.object;
          here = here;
          loaded = is.loaded;
          at = ap there.at lies.0 ∙ lies.1 ∙ is.at;
          node = is.node ∙ sym lies.0;
          entry = is.entry;
          doomed = is.doomed;
          dirty = is.dirty;
        }

limits-left : (state : State) (group : Group) → (without (group ∷ []) state).limits ≡ state.limits
unfolding without
limits-left state group = refl

names-left : (state : State) (group : Group) (name : ℕ) → named_by state name ≡ named_by (without (group ∷ []) state) name
unfolding without
names-left state group name = refl

pub evicted-kept : EvictedStatesAreKept
evicted-kept state front item behind there old new from image k is gone =
    let valid : IsValidState state = k.kept.entries.valid in
    let group : Group = group_for item front in
    let loose : IsLoose (is_pinned state []) (group_for item front) = loose-for (is_pinned state []) item front is.unpinned in
    let same = named-less state valid (group_for item front) loose in
    let less = counted-less state front item behind valid is in
    let less_items = less.items_left in
    let less_bytes = less.bytes_left in
    let fewer_items = gone.fewer.items_less in
    let fewer_bytes = gone.fewer.bytes_less in
    let items_were = k.items_are in
    let bytes_were = k.bytes_are in
    let few = k.few in
    record {
      layout_is = refl;
      kept = record {
        layout = there;
        kept = gone.kept;
        limits = limits-left state (group_for item front) ∙ k.limits ∙ ap bounds_of (sym gone.fewer.limits);
        items_are = omega (arith, less_items, fewer_items, items_were);
        bytes_are = omega (arith, less_bytes, fewer_bytes, bytes_were);
        few = omega (arith, less_items, few);
        open_objects = ap open_count gone.fewer.handles ∙ k.open_objects ∙ sym same.0;
        open_bytes = gone.fewer.open_bytes ∙ k.open_bytes ∙ sym same.1;
        names = λ name. subst (λ (o : Option ℕ). IsBoundAs (without (group_for item front ∷ []) state) there o (binding_of new.handles name)) (names-left state (group_for item front) name)
            (bound-left state valid (group_for item front) loose k.layout there gone.stay name (named_by state name) (binding_of new.handles name) refl
            (subst (λ (bs : Bindings). IsBoundAs state k.layout (named_by state name) (binding_of bs name)) (sym gone.fewer.handles) (k.names name)));
        files = gone.files;
        mark = gone.fewer.mark ∙ k.mark ∙ sym gone.session;
      };
    }

-- where an item is evicted alone, or a whole object is, the objects that handles name lie where they lay
pub lie-apart : NamedObjectsLieApart
lie-apart cache state image front item behind contents k is = alone-apart state k.layout [] image front item behind contents k.kept.entries is

pub whole-apart : WholeGroupsLieApart
whole-apart cache state image front key behind chains k is = key-apart state k.layout [] image front key behind chains k.kept.entries is
