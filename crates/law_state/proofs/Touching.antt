-- What is found at each word of an access.
use Rattle.std.proofs.Common.{◌≡◌, ℕ, List, map, refl, sym, ◌∙◌, ap, subst}
use Rattle.std.specs.Prelude.{take}
use Rattle.spec_image.specs.Image.{Image}
use Rattle.blk_model.specs.Items.{Row, main}
use Rattle.blk_model.specs.Request.{to_open}
use Rattle.blk_model.specs.Step.{step}
use Rattle.blk_model.specs.Stops.{StopOutcome}
use Rattle.spec_folder.specs.Audit.{kept_by}
use Rattle.spec_folder.specs.Found.{held, kept, completed, row_of_loaded}
use Rattle.spec_folder.specs.ListPlans.{touch_writes}
use Rattle.spec_folder.specs.ListSteps.{IsTouched}
use Rattle.spec_folder.specs.ListView.{after_writes}
use Rattle.spec_folder.specs.Loads.{held_rule}
use Rattle.spec_folder.specs.View.{View, list_of, store_of, view_of}
use Rattle.law_folder.proofs.commands.Touches.{touched-items}
use Rattle.law_folder.proofs.commands.Touches.{opens-each}
use Rattle.law_state.specs.TouchLaws.{OpensMayStop, TouchesFindEither}

-- what is held in a folder
pub held-kept : (image : Image) → held image ≡ map row_of_loaded (kept_by held_rule (completed (view_of image)))
unfolding kept
held-kept image = refl

-- in the midst of an access the image shows its writes so far
shows : (from image : Image) (node : ℕ) (touched : IsTouched from node (touch_writes node (list_of from)) image) → ◌≡◌ {A = View} (view_of image) (record { list = after_writes (take touched.made (touch_writes node (list_of from))) (list_of from); store = store_of image })
shows from image node touched = λ i. let v : View = record { list = touched.shown.list i; store = store_of image } in v

held-there : (from image : Image) (node : ℕ) → (touched : IsTouched from node (touch_writes node (list_of from)) image)
    → held image ≡ map row_of_loaded (kept_by held_rule (completed (record { list = after_writes (take touched.made (touch_writes node (list_of from))) (list_of from); store = store_of image })))
held-there from image node touched = held-kept image ∙ ap (λ (v : View). map row_of_loaded (kept_by held_rule (completed v))) (shows from image node touched)

pub touches-find : TouchesFindEither
touches-find state layout unlinked from image k item listed touched = (
  touched.headers.sound k.sound,
  held-there from image (layout.place item) touched ∙ touched-items (view_of from) state layout k.represents k.valid item listed (store_of image) touched.shown.store touched.made,
)

pub opens-stop : OpensMayStop
opens-stop state layout unlinked from image k moment handle key passed touched = record {
  sound = touched.headers.sound k.sound;
  left = subst (λ (rows : List Row). StopOutcome state moment (to_open handle key) (step state moment (to_open handle key)).state rows) (sym (held-there from image (layout.place (main key)) touched))
      (opens-each (view_of from) state layout k.represents k.valid moment handle key passed (store_of image) touched.shown.store touched.made);
}
