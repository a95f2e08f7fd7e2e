-- An access of any listed item leaves the state with the item in front.
use Rattle.std.proofs.Common.{◌≡◌, ℕ, List, ◌∷◌, ◌++◌, refl, sym, ◌∙◌, ap, subst, true}
use Rattle.spec_image.specs.Image.{Image}
use Rattle.spec_image.specs.Steps.{after}
use Rattle.spec_image.specs.Footprint.{Footprint}
use Rattle.spec_image.proofs.Runs.{until_last}
use Rattle.blk_model.specs.State.{State, IsValidState}
use Rattle.blk_model.specs.Effects.{used}
use Rattle.spec_format.proofs.Finished.{formed-kept, sound-of}
use Rattle.spec_folder.specs.View.{view_of, store_of, list_of}
use Rattle.spec_folder.specs.ListView.{ListWrite, IsList, IsAtRest, after_writes}
use Rattle.spec_folder.specs.ListPlans.{touch_writes}
use Rattle.spec_folder.specs.Layout.{Represents, order, nodes_of}
use Rattle.spec_folder.specs.ListSteps.{IsTouched}
use Rattle.spec_folder.specs.ListImages.{steps_of_touch}
use Rattle.law_folder.specs.TidyLaws.{StatesAreStoodFor, TouchesKeepStates}
use Rattle.law_folder.proofs.lists.ListCompletions.{listed}
use Rattle.law_folder.proofs.commands.Opening.{IsAround, around, nodes-append}
use Rattle.law_folder.proofs.updates.Sealing.{touches-keep}
use Rattle.law_folder.proofs.states.Tidying.{touch_range, touch_spares, touch_sizes, counter-same, sealed-still, moved-allocated, moved-tidy}
use Rattle.law_folder.proofs.states.TidyOrder.{tidy-stands}
use Rattle.law_folder.proofs.commands.Touches.{touched-items-end}
use Rattle.law_folder.proofs.lists.WordTurns.{touches-can, touches-in_turn, touches-rest}

pub states-stand : StatesAreStoodFor
states-stand image state layout numbers has = tidy-stands image state layout numbers has.represents has.valid has.allocated has.well_formed has.tidy

pub touched-state : TouchesKeepStates
touched-state from state layout numbers has ready item moment there = record {
  valid = ends.1;
  well_formed = formed-kept from image touched.headers has.well_formed;
  represents = record {
    holds = ends.0.holds;
    list = subst (λ (ns : List ℕ). IsList (list_of image) ns) (sym new-order) at-rest.whole;
    idle = at-rest.idle;
  };
  allocated = moved-allocated from image state later layout numbers refl prefix node suffix old-order new-order F (touch_spares ws node) (touch_sizes ws node) touched.outside has.allocated;
  tidy = moved-tidy from image state later layout numbers refl prefix node suffix old-order new-order F (touch_spares ws node) (touch_sizes ws node) touched.outside (sound-of from has.well_formed)
      (counter-same ws node from image touched.outside)
      (sealed-still from image ws node touched.outside (touches-can from node prefix suffix rest).nodes good state layout has.represents (touches-keep from node moment prefix suffix ready rest)) has.tidy;
} where
  later : State
  later = record state { uses = used item state.uses }

  node : ℕ
  node = layout.place item

  ws : List ListWrite
  ws = touch_writes node (list_of from)

  F : Footprint
  F = touch_range ws node

  image : Image
  image = after (steps_of_touch node moment from) from

  a : IsAround item state.uses
  a = around item state.uses there (has.valid.once item)

  prefix : List ℕ
  prefix = nodes_of layout a.before

  suffix : List ℕ
  suffix = nodes_of layout a.suffix

  old-order : order state layout ≡ prefix ++ node ∷ suffix
  old-order = ap (nodes_of layout) a.is ∙ nodes-append layout a.before (item ∷ a.suffix)

  rest : IsAtRest (list_of from) (prefix ++ node ∷ suffix)
  rest = record { whole = subst (λ (ns : List ℕ). IsList (list_of from) ns) old-order has.represents.list; idle = has.represents.idle }

  good : (list_of from).checks node ≡ true
  good = (listed node (list_of from) prefix suffix rest.whole).good

  touched : IsTouched from node ws image
  touched = until_last (IsTouched from node ws) (IsTouched from node ws) (steps_of_touch node moment from) from (touches-in_turn from node moment prefix suffix ready rest)

  at-rest : IsAtRest (list_of image) (node ∷ prefix ++ suffix)
  at-rest = touches-rest from node moment prefix suffix ready rest

  ends : Represents (record { list = after_writes ws (list_of from); store = store_of image }) later layout × IsValidState later
  ends = touched-items-end (view_of from) state layout has.represents has.valid item there (store_of image) touched.shown.store

  new-order : order later layout ≡ node ∷ prefix ++ suffix
  new-order = ap (λ (xs : List ℕ). node ∷ xs) (ap (nodes_of layout) a.rest ∙ nodes-append layout a.before a.suffix)
