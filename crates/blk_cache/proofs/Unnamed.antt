-- What no handle names, and names that are free.
use Rattle.std.proofs.Common.{◌≡◌, ℕ, zero, suc, ◌+◌, ◌≤◌, Bool, true, false, not, ◌&&◌, cond, List, [], ◌∷◌, length, Option, Some, None, IfSome, get_or, replicate, refl, sym, ap, ◌∙◌, arith}
use Rattle.std.specs.List.{cons_option, count_by, filter_map, list_any}
use Rattle.std.proofs.lemmas.Bool.{and_parts}
use Rattle.std.proofs.lemmas.List.{length-map}
use Rattle.std.proofs.lemmas.List.Sums.{sum_by-cons}
use Rattle.blk_model.specs.Sizes.{handle_names, most_items}
use Rattle.blk_model.specs.Items.{Item, Row}
use Rattle.blk_model.specs.State.{State, Object, Bounds, IsValidState, is_named, is_number, named_by, object_at}
use Rattle.blk_model.specs.Holding.{open_state, row_of, rows}
use Rattle.blk_model.specs.Room.{items}
use Rattle.blk_model.specs.Totals.{is_doomed_slot}
use Rattle.blk_model.proofs.Sums.{totals_are_sums}
use Rattle.spec_image.specs.Image.{Image}
use Rattle.spec_folder.specs.Layout.{Layout}
use Rattle.law_state.specs.Keeping.{KeepsUncounted}
use Rattle.law_state.specs.KeepingLaws.{AllAreAtRest}
use Rattle.blk_handles.specs.Bindings.{Binding, all_free, binding_of, distinct_count, entries_of, open_count}
use Rattle.blk_cache.specs.CacheKeeping.{named_from, named_objects}

-- no slot of a table of free ones has anything
pub free-at : {A : Type 0} (count i : ℕ) → get_or {A = Option A} (replicate count None) i None ≡ None
free-at zero i = refl
free-at (suc count) zero = refl
free-at (suc count) (suc i) = free-at count i

-- no name is bound at first
pub none-bound : (name : ℕ) → binding_of all_free name ≡ None
none-bound name = free-at {A = Binding} handle_names name

none-distinct : (count : ℕ) → distinct_count (entries_of (replicate count None)) ≡ 0
none-distinct zero = refl
none-distinct (suc count) = none-distinct count

-- so no object is open
pub none-open : open_count all_free ≡ 0
none-open = none-distinct handle_names

-- where no slot has a number, none names an object
pub none-among : (names : List (Option ℕ)) (number : ℕ) → ((i : ℕ) → get_or names i None ≡ None) → list_any (is_number number) names ≡ false
none-among [] number all = refl
none-among (None ∷ names) number all = none-among names number (λ i. all (suc i))
none-among (Some other ∷ names) number all = absurd (no (all 0)) where
  no : ◌≡◌ {A = Option ℕ} (Some other) None → ⊥
  no e = cc

-- an opened state has no names
pub opened-unnamed : (rows : List Row) (limits : Bounds) (number : ℕ) → is_named (open_state rows limits) number ≡ false
unfolding open_state
opened-unnamed rows limits number = none-among (replicate handle_names None) number (free-at {A = ℕ} handle_names)

pub opened-names : (rows : List Row) (limits : Bounds) (name : ℕ) → named_by (open_state rows limits) name ≡ None
unfolding open_state
opened-names rows limits name = free-at {A = ℕ} handle_names name

-- a state without names has no named objects
none-from : (state : State) (number : ℕ) (slots : List (Option Object)) → ((n : ℕ) → is_named state n ≡ false) → named_from state number slots ≡ []
none-from state number [] all = refl
none-from state number (None ∷ slots) all = none-from state (number + 1) slots all
none-from state number (Some object ∷ slots) all = rw (all number) (none-from state (number + 1) slots all)

pub none-named : (state : State) → ((n : ℕ) → is_named state n ≡ false) → named_objects state ≡ []
none-named state all = none-from state 0 state.objects all

-- and all its objects are live and clean
pub unnamed-rests : (state : State) → IsValidState state → ((n : ℕ) → is_named state n ≡ false) → AllAreAtRest state
unnamed-rests state valid all number = go (object_at state number) (valid.held number) where
  both : (b : Bool) → (b ≡ false → is_named state number ≡ true) → b ≡ true
  both true h = refl
  both false h = absurd (let c : false ≡ true = sym (all number) ∙ h refl in cc)

  go : (o : Option Object) → IfSome o (λ object. (object.live && object.settled ≡ false) → is_named state number ≡ true) → IfSome o (λ object. (object.live && object.settled) ≡ true)
  go None h = tt
  go (Some object) h = both (object.live && object.settled) h

-- so it has no more items than it lists
no-doomed : (slots : List (Option Object)) → ((n : ℕ) → IfSome (get_or slots n None) (λ object. (object.live && object.settled) ≡ true)) → count_by is_doomed_slot slots ≡ 0
no-doomed [] all = refl
no-doomed (None ∷ slots) all = no-doomed slots (λ n. all (suc n))
no-doomed (Some object ∷ slots) all =
    let live : object.live ≡ true = (and_parts object.live object.settled (all 0)).0 in
    let rest = no-doomed slots (λ n. all (suc n)) in
    let sum = sum_by-cons (λ (slot : Option Object). cond (is_doomed_slot slot) 1 0) (Some object) slots in
    let none : ◌≡◌ {A = ℕ} (cond (is_doomed_slot (Some object)) 1 0) 0 = ap (λ (b : Bool). cond {A = ℕ} (not b) 1 0) live in
    omega (arith, rest, sum, none)

rows-few : (f : Item → Option Row) (uses : List Item) → length (filter_map f uses) ≤ length uses
rows-few f [] = omega arith
rows-few f (item ∷ uses) = go (f item) (rows-few f uses) where
  go : (o : Option Row) → length (filter_map f uses) ≤ length uses → length (cons_option o (filter_map f uses)) ≤ length (item ∷ uses)
  go None few = omega (arith, few)
  go (Some row) few = omega (arith, few)

pub few-unnamed : (state : State) (layout : Layout) (unlinked : List ℕ) (image : Image) → KeepsUncounted state layout unlinked image → ((n : ℕ) → is_named state n ≡ false) → items state ≤ most_items
unfolding rows
few-unnamed state layout unlinked image k none =
    let sum = (totals_are_sums state k.valid).count in
    let dead = no-doomed state.objects (unnamed-rests state k.valid none) in
    let rows_few = rows-few (row_of state) state.uses in
    let long = length-map state.uses layout.place in
    let few = k.represents.list.few in
    omega (arith, sum, dead, rows_few, long, few)
