-- The states inside a sparse write: one part of an object changed, one more, or one that is removed. Each is a premise of the laws on changed and new items.
use Rattle.std.specs.Prelude.{◌≡◌, ℕ, ◌<◌, true, false, Some, is_some, not, slice_set}
use Rattle.std.specs.Ordering.{nat_cmp}
use Rattle.std.specs.FinMap.{put}
use Rattle.blk_model.specs.Items.{IsPartValue, PartValue, is_sparse, part, part_row, same_item}
use Rattle.blk_model.specs.Sizes.{part_count}
use Rattle.blk_model.specs.State.{IsValidState, Object, State, object_at, part_at}
use Rattle.blk_model.specs.Holding.{row_of}
use Rattle.spec_folder.specs.Creation.{with_first}
use Rattle.spec_folder.specs.Layout.{OneChanged}
use Rattle.spec_folder.specs.Removal.{ListsLess}
use Rattle.law_state.specs.CommandStates.{IsUnsettled}
use Rattle.law_state.specs.CommandEnds.{without_part}

-- the state with another object under a number
abbrev pub with_object : State → ℕ → Object → State
with_object state number object = record state { objects = slice_set state.objects number (Some object) }

-- the object with a value for a part
abbrev pub with_value : Object → ℕ → PartValue → Object
with_value object n value = record object { parts = put nat_cmp n value object.parts }

-- a live object with a value for a part differs from what it was in that item alone, which has the value
abbrev pub PartsChangeAlone : Type 0
PartsChangeAlone = (state : State) → IsValidState state → (number : ℕ) (object : Object) → object_at state number ≡ Some object → object.live ≡ true → (n : ℕ) (value : PartValue)
    → OneChanged state (slice_set state.objects number (Some (with_value object n value))) (part object.key n) × (row_of (with_object state number (with_value object n value)) (part object.key n) ≡ Some (part_row object.key n value))

-- a dirty sparse object with one part more, whose item is in front, leaves the state valid
abbrev pub NewPartsKeepValid : Type 0
NewPartsKeepValid = (state : State) → IsValidState state → (number : ℕ) (object : Object) → object_at state number ≡ Some object → IsUnsettled object object.key → is_sparse object.shape ≡ true → (n : ℕ) (value : PartValue) → n < part_count → IsPartValue value
    → is_some (part_at object n) ≡ false → IsValidState (with_first state (slice_set state.objects number (Some (with_value object n value))) (part object.key n))

-- without one part of a live object, all other items and objects of the state are as they were
abbrev pub PartsAreLeftOut : Type 0
PartsAreLeftOut = (state : State) → IsValidState state → (number : ℕ) (object : Object) → object_at state number ≡ Some object → object.live ≡ true → (n : ℕ) → ListsLess state (slice_set state.objects number (Some (without_part object n))) (λ item. not (same_item item (part object.key n)))
