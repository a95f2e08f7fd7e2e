-- An access of an item, and an Open, at each word.
use Rattle.std.specs.Prelude.{◌≡◌, ℕ, List, None, true, nat_lt, if◌then◌else◌}
use Rattle.spec_image.specs.Image.{Image}
use Rattle.blk_model.specs.Effects.{used}
use Rattle.blk_model.specs.Holding.{rest}
use Rattle.blk_model.specs.Items.{Item, main}
use Rattle.blk_model.specs.Refusals.{refused}
use Rattle.blk_model.specs.Request.{to_open}
use Rattle.blk_model.specs.State.{State}
use Rattle.spec_folder.specs.Layout.{Layout, is_listed}
use Rattle.spec_folder.specs.ListPlans.{touch_writes}
use Rattle.spec_folder.specs.ListSteps.{IsTouched}
use Rattle.spec_folder.specs.View.{list_of}
use Rattle.law_state.specs.Changes.{Finds}
use Rattle.law_state.specs.Commands.{MayStop}
use Rattle.law_state.specs.Keeping.{KeepsUncounted}

-- at each word of the access of an item's node the old durable contents are held, and from the second write on the durable contents with the item in front
abbrev pub TouchesFindEither : Type 0
TouchesFindEither = (state : State) (layout : Layout) (unlinked : List ℕ) (from image : Image) → KeepsUncounted state layout unlinked from → (item : Item) → is_listed state item ≡ true
    → (touched : IsTouched from (layout.place item) (touch_writes (layout.place item) (list_of from)) image) → Finds (if nat_lt touched.made 2 then rest state else rest (record state { uses = used item state.uses })) image

-- an Open may crash at each word of the access of its key's node
abbrev pub OpensMayStop : Type 0
OpensMayStop = (state : State) (layout : Layout) (unlinked : List ℕ) (from image : Image) → KeepsUncounted state layout unlinked from → (moment handle : ℕ) (key : List ℕ) → refused moment (to_open handle key) state ≡ None
    → IsTouched from (layout.place (main key)) (touch_writes (layout.place (main key)) (list_of from)) image → MayStop state moment (to_open handle key) image
