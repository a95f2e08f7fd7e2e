-- What a SparseWrite raises once all that it evicts is out, and how much space there is then.
use Rattle.std.proofs.Common.{◌≡◌, ⊎_elim, ℕ, ◌+◌, ◌<◌, ◌≤◌, ◌^◌, Bool, true, false, not, cond, List, [], ◌∷◌, length, map, get_or, Option, Some, None, sym, ap, ap₂, subst, ◌∙◌, arith}
use Rattle.std.specs.Prelude.{◌&&◌, ◌==◌, IfSome}
use Rattle.std.specs.List.{AllByRecursion, list_any}
use Rattle.std.specs.Option.{option_and_then}
use Rattle.std.proofs.lemmas.Bool.{and_parts, cases_Bool, eqb-true, or_left, or_right}
use Rattle.blk_model.specs.Items.{Item, part, same_item}
use Rattle.blk_model.specs.Refusals.{covered, evicted, evicted_for, refused}
use Rattle.blk_model.specs.Request.{to_sparse_write}
use Rattle.blk_model.specs.Room.{Group, is_pinned, items, left_of, room, total, without}
use Rattle.blk_model.specs.Sparse.{covered_parts}
use Rattle.blk_model.specs.State.{Bounds, IsObject, IsValidState, Object, State, is_named, object_at, part_at}
use Rattle.blk_model.proofs.Evicted.{IsLoose, kept_part_at, kept_parts, left_is_object, map_at, named_left}
use Rattle.blk_model.proofs.Same.{same_item_self}
use Rattle.blk_model.proofs.Steps.{room_is_loose}
use Rattle.blk_model.proofs.Written.{without_names}
use Rattle.law_state.specs.CommandStates.{with_room}
use Rattle.law_state.specs.OneCallLaws.{Names}
use Rattle.blk_sparse.specs.declared.storing.Target.{Target}
use Rattle.blk_cache.specs.SparseWriting.{IsRaisedBy, IsSignedBy, IsTargetOf}
use Rattle.blk_cache.proofs.BoundObjects.{named-at}
use Rattle.blk_cache.proofs.CreateRoom.{HasEnough, loose-part, main-pinned, objects-without, room-enough}
use Rattle.blk_cache.proofs.Sizes.{named-object}
use Rattle.blk_cache.proofs.SparseRise.{Raises, SameParts, each-of, raised-by, raises-left, raises-of}
use Rattle.blk_cache.proofs.SparseRoom.{groups-are, has-room}

-- ---- each part with a number in range is an item in range

among : (key : List ℕ) (covers : List Item) (ns : List ℕ) → ((n : ℕ) → list_any (same_item (part key n)) (map (part key) ns) ≡ true → list_any (same_item (part key n)) covers ≡ true)
    → AllByRecursion (λ n. list_any (same_item (part key n)) covers ≡ true) ns
among key covers [] all = tt
among key covers (n ∷ ns) all = (
  all n (or_left (same_item (part key n) (part key n)) (list_any (same_item (part key n)) (map (part key) ns)) (same_item_self (part key n))),
  among key covers ns (λ m there. all m (or_right (same_item (part key m) (part key n)) (list_any (same_item (part key m)) (map (part key) ns)) there)),
)

-- ---- the object once eviction units are out

module _ (state : State) (valid : IsValidState state) (number : ℕ) (object : Object) (here : object_at state number ≡ Some object) (named : is_named state number ≡ true) (ns : List ℕ)
    (groups : List Group) (loose : AllByRecursion (IsLoose (is_pinned state (map (part object.key) ns))) groups) where
  abbrev covers : List Item
  covers = map (part object.key) ns

  abbrev pub left : Object
  left = record object { parts = kept_parts groups object }

  -- the object is there without the parts that were evicted
  pub left-here : object_at (without groups state) number ≡ Some left
  left-here =
      ap (λ (slots : List (Option Object)). get_or slots number None) (objects-without state groups) ∙ map_at (left_of groups) state.objects number
      ∙ ap (option_and_then (left_of groups)) here ∙ named_left state valid covers groups loose number object here named

  -- the parts in range stayed
  pub same-parts : object.live ≡ true → SameParts left object ns
  same-parts live =
      each-of (λ n. list_any (same_item (part object.key n)) covers ≡ true) (λ n. part_at left n ≡ part_at object n) ns
      (λ n held. kept_part_at groups object n
      ∙ ap (λ (b : Bool). cond (not b) (part_at object n) None) (loose-part (is_pinned state covers) groups object.key n loose held (main-pinned state valid covers number object here live true named)))
      (among object.key covers ns (λ n there. there))

-- ---- the state once they are out

module _ (state : State) (valid : IsValidState state) (moment handle offset : ℕ) (bytes : List ℕ) (some : 1 ≤ length bytes) (few : length bytes ≤ 1048576)
    (number : ℕ) (object : Object) (names : Names state handle number object) (live : object.live ≡ true) (found : Target) (is : IsTargetOf object found) (signed : IsSignedBy moment found)
    (more_bytes more_items : ℕ) (raised : IsRaisedBy state moment handle offset bytes more_bytes more_items) where
  abbrev groups : List Group
  groups = evicted moment (to_sparse_write handle offset bytes) state

  abbrev base : State
  base = with_room state moment (to_sparse_write handle offset bytes)

  abbrev ns : List ℕ
  ns = covered_parts offset (length bytes)

  named : is_named state number ≡ true
  named = named-at state.names handle number names.names

  covered-is : covered (to_sparse_write handle offset bytes) state ≡ map (part object.key) ns
  covered-is = ap (λ (o : Object). map (part o.key) ns) (named-object state handle number object names)

  loose : AllByRecursion (IsLoose (is_pinned state (map (part object.key) ns))) groups
  loose = subst (λ (covers : List Item). AllByRecursion (IsLoose (is_pinned state covers)) groups) covered-is
      (subst (AllByRecursion (IsLoose (is_pinned state (covered (to_sparse_write handle offset bytes) state)))) (sym (groups-are state moment handle offset bytes more_bytes more_items raised))
      (room_is_loose state (covered (to_sparse_write handle offset bytes) state) more_bytes more_items))

  abbrev pub after : Object
  after = record object { parts = kept_parts groups object }

  -- the handle names it still
  pub names-after : Names base handle number after
  names-after = record {
    names = ap (λ (slots : List (Option ℕ)). get_or slots handle None) (without_names groups state) ∙ names.names;
    here = left-here state valid number object names.here named ns groups loose;
  }

  pub is-after : IsTargetOf after found
  is-after = record { of_plain = is.of_plain; of_sparse = is.of_sparse }

  -- and it is raised by as much
  pub raised-after : IsRaisedBy base moment handle offset bytes more_bytes more_items
  raised-after =
      let object-valid : IsObject object = subst (λ (o : Option Object). IfSome o IsObject) names.here (valid.objects number) in
      let was : Raises object found offset bytes more_bytes more_items = raises-of state moment handle number object found offset bytes more_bytes more_items names is signed some raised in
      let now : Raises after found offset bytes more_bytes more_items =
      raises-left object (kept_parts groups object) object.settled found offset bytes some few object-valid (left_is_object groups object object-valid) is
      (same-parts state valid number object names.here named ns groups loose live) more_bytes more_items was in
      raised-by base moment handle number after found offset bytes more_bytes more_items names-after is-after signed some now

  -- ---- space

  module _ (passes : refused moment (to_sparse_write handle offset bytes) state ≡ None) (max_bytes max_items : ℕ) (limits : state.limits ≡ record { max_bytes = max_bytes; max_items = max_items }) (few_bytes : max_bytes ≤ 1099511627776) (few_items : max_items ≤ 131072)
      (light : total state < 2 ^ 64) (few_before : items state ≤ 131072) where
    -- what is added fits in what a cache may keep
    pub record Fits (left : State) : Type 0 where
      pub few_after : items left + more_items ≤ 131072
      pub within : total left + more_bytes < 2 ^ 64

    none-asked : (b m : ℕ) → (b == 0 && m == 0) ≡ true → (b ≡ 0) × (m ≡ 0)
    none-asked b m e = let p = and_parts (b == 0) (m == 0) e in (eqb-true b 0 p.0, eqb-true m 0 p.1)

    none-out : (b m : ℕ) (covers : List Item) → b ≡ 0 → m ≡ 0 → without (evicted_for (room state covers b m)) state ≡ state
    unfolding room without
    none-out b m covers none none-items = ap₂ (λ (x y : ℕ). without (evicted_for (room state covers x y)) state) none none-items

    fits-left : Fits (without (evicted_for (room state (covered (to_sparse_write handle offset bytes) state) more_bytes more_items)) state)
    fits-left = ⊎_elim
        (λ (none : (more_bytes == 0 && more_items == 0) ≡ true).
        let both = none-asked more_bytes more_items none in
        let no_bytes = both.0 in
        let no_items = both.1 in
        subst Fits (sym (none-out more_bytes more_items (covered (to_sparse_write handle offset bytes) state) no_bytes no_items))
        (record { few_after = omega (arith, few_before, no_items); within = omega (arith, light, no_bytes) }))
        (λ (one : (more_bytes == 0 && more_items == 0) ≡ false).
        let enough : HasEnough state valid (covered (to_sparse_write handle offset bytes) state) more_bytes more_items (without (evicted_for (room state (covered (to_sparse_write handle offset bytes) state) more_bytes more_items)) state) =
        room-enough state valid (covered (to_sparse_write handle offset bytes) state) more_bytes more_items one (has-room state moment handle offset bytes more_bytes more_items raised passes) in
        let within_limit = enough.within in
        let few_limit = enough.few in
        let most_bytes : state.limits.max_bytes ≡ max_bytes = ap (λ (l : Bounds). l.max_bytes) limits in
        let most_items : state.limits.max_items ≡ max_items = ap (λ (l : Bounds). l.max_items) limits in
        record { few_after = omega (arith, few_limit, most_items, few_items); within = omega (arith, within_limit, most_bytes, few_bytes) })
        (cases_Bool (more_bytes == 0 && more_items == 0))

    pub fits-after : Fits base
    fits-after = subst (λ (gs : List Group). Fits (without gs state)) (sym (groups-are state moment handle offset bytes more_bytes more_items raised)) fits-left
