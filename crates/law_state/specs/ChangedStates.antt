-- States without one object, and with one object changed: what the laws on calls ask of them.
use Rattle.std.specs.Prelude.{◌≡◌, ℕ, true, false, slice_set}
use Rattle.std.specs.declared.option.Option.TheVariants.{Some}
use Rattle.blk_model.specs.Effects.{doomed, with_slot}
use Rattle.blk_model.specs.Holding.{row_of}
use Rattle.blk_model.specs.Items.{main, main_row, part}
use Rattle.blk_model.specs.State.{State, Object, IsValidState, is_named, object_at}
use Rattle.spec_folder.specs.Layout.{OneChanged, is_listed}
use Rattle.spec_folder.specs.Removal.{is_of_another, without_items}
use Rattle.law_state.specs.GroupLaws.{IsLess}
use Rattle.law_state.specs.RemovalLaws.{IsWithout}

-- where a live object has no handle and no listed part, the state in which it is doomed is the one without its main item
abbrev pub UnheldObjectsGoWhole : Type 0
UnheldObjectsGoWhole = (state : State) (number : ℕ) (object : Object) → IsValidState state → object_at state number ≡ Some object → object.live ≡ true → is_named state number ≡ false → ((n : ℕ) → is_listed state (part object.key n) ≡ false) → IsValidState (doomed number state (Some object))
    → IsWithout state (doomed number state (Some object)).objects (is_of_another object.key) (main object.key) × (doomed number state (Some object) ≡ without_items state (doomed number state (Some object)).objects (is_of_another object.key))

-- where a live object is replaced by another one of the same key and parts, the state differs in the value of its main item alone; in a valid state that item
-- has the new shape and streams
abbrev pub ObjectsChangeTheirMainItem : Type 0
ObjectsChangeTheirMainItem = (state : State) (number : ℕ) (object other : Object) → object_at state number ≡ Some object → object.live ≡ true → other.live ≡ true → other.key ≡ object.key → other.parts ≡ object.parts
    → OneChanged state (slice_set state.objects number (Some other)) (main object.key) × (IsValidState state → row_of (with_slot number (Some other) state) (main object.key) ≡ Some (main_row object.key other.shape other.streams))

-- where a live object has no handle, the state in which it is doomed is one without its main item and its parts
abbrev pub UnheldObjectsGoWithTheirParts : Type 0
UnheldObjectsGoWithTheirParts = (state : State) (number : ℕ) (object : Object) → IsValidState state → object_at state number ≡ Some object → object.live ≡ true → is_named state number ≡ false → IsValidState (doomed number state (Some object))
    → IsLess state (doomed number state (Some object)).objects (is_of_another object.key)
