-- A part that is evicted alone, at each word of its removal and from then on.
use Rattle.std.proofs.Common.{◌≡◌, ℕ, List, [], ◌∷◌, map, refl, ap, sym, ◌∙◌, Bool, true, false}
use Rattle.std.specs.Prelude.{◌&&◌, ◌||◌, if◌then◌else◌, nat_lt, not}
use Rattle.std.specs.List.{filter, filter_map}
use Rattle.blk_model.specs.Items.{Item, part, same_item}
use Rattle.blk_model.specs.State.{IsValidState, State, object_at}
use Rattle.blk_model.specs.Holding.{rest, settled_row}
use Rattle.blk_model.specs.Room.{Group, is_out, not_out, single, without}
use Rattle.blk_model.specs.Stops.{is_live_and_settled}
use Rattle.blk_model.proofs.EvictedFirst.{settled_left}
use Rattle.spec_folder.specs.Audit.{kept_among}
use Rattle.spec_folder.specs.Found.{row_of_loaded}
use Rattle.spec_folder.specs.Given.{picked_with}
use Rattle.spec_folder.specs.Layout.{HoldsExcept, Layout, Represents, is_listed, nodes_of}
use Rattle.spec_folder.specs.ListPlans.{writes_of}
use Rattle.spec_folder.specs.ListView.{Distinct, IsAtRest}
use Rattle.spec_folder.specs.Loads.{held_rule}
use Rattle.spec_folder.specs.Completion.{remove}
use Rattle.spec_folder.specs.View.{StoreView, View, list_of, store_of, view_of}
use Rattle.law_folder.proofs.states.Central.{settled-is_test, walk-idle}
use Rattle.law_folder.proofs.commands.DoomWrites.{removal-walks, removed-once}
use Rattle.law_folder.proofs.commands.DoomedObjects.{listed-rest}
use Rattle.law_folder.proofs.commands.Opening.{IsAround, around}
use Rattle.law_folder.proofs.states.OthersHold.{represented-but}
use Rattle.law_folder.proofs.claims.Owner.{filter_map-same, settled-picked}
use Rattle.law_folder.proofs.commands.Removing.{removed-rows}
use Rattle.law_folder.proofs.commands.Touches.{same-represents}
use Rattle.law_folder.proofs.lists.Walks.{walk_list}
use Rattle.law_state.specs.WordStops.{PartOutIsGone, PartsFindEither}
use Rattle.law_state.proofs.NotAtRest.{filter_map-on}
use Rattle.law_state.proofs.Touching.{held-kept}
use Rattle.law_state.proofs.WordStops.{held-partly}

or-false : (b : Bool) → (b || false) ≡ b
or-false true = refl
or-false false = refl

and-true : (b : Bool) → (b && true) ≡ b
and-true true = refl
and-true false = refl

from-not : (b : Bool) → not b ≡ true → b ≡ false
from-not true e = cc
from-not false e = refl

-- the durable contents without an eviction unit are those of the items that it doesn't take
rest-without : (state : State) (group : Group) → rest (without (group ∷ []) state) ≡ filter_map (settled_row state) (not_out (group ∷ []) state.uses)
unfolding rest without
rest-without state group = filter_map-on (settled_row (without (group ∷ []) state)) (settled_row state) (λ item. not (is_out (group ∷ []) item)) (λ item stays. settled_left state group [] item (from-not (is_out (group ∷ []) item) stays)) state.uses

module _ (except : ℕ → Bool) (store : StoreView) (state : State) (layout : Layout) (holds : HoldsExcept except store state layout) (valid : IsValidState state) (key : List ℕ) (n : ℕ) where
  keep : Item → Bool
  keep item = not (same_item (part key n) item)

  test : ℕ → Bool
  test number = is_live_and_settled (object_at state number)

  part-rows : Distinct (nodes_of layout (filter keep state.uses)) → ((item : Item) → is_listed state item ≡ true → keep item ≡ true → except (layout.place item) ≡ false) → map row_of_loaded (kept_among store held_rule (nodes_of layout (filter keep state.uses))) ≡ rest (without (single key n ∷ []) state)
  unfolding keep test
  part-rows once sound =
      removed-rows except store state layout holds valid test (settled-is_test state layout holds.laid valid) keep once sound
      ∙ (λ i. filter_map (picked_with state test) (filter (λ item. and-true (keep item) i) state.uses))
      ∙ sym (filter_map-same (settled_row state) (picked_with state test) (settled-picked state) (filter keep state.uses))
      ∙ (λ i. filter_map (settled_row state) (filter (λ item. not (sym (or-false (same_item (part key n) item)) i)) state.uses))
      ∙ sym (rest-without state (single key n))

pub part-out : PartOutIsGone
unfolding keep
part-out state layout key n image valid out = (
  out.sound,
  held-kept image
      ∙ ap (λ (nodes : List ℕ). map row_of_loaded (kept_among (store_of image) held_rule nodes)) (walk-idle (list_of image) out.list.idle ∙ walk_list (list_of image) (nodes_of layout (filter (λ item. not (same_item (part key n) item)) state.uses)) out.list.whole)
      ∙ part-rows out.except (store_of image) state layout out.holds valid key n out.list.whole.distinct (λ item listed keeps. out.there item listed (from-not (same_item (part key n) item) keeps)),
)

pub parts-find : PartsFindEither
unfolding keep
parts-find state layout unlinked from image key n k listed removed =
    let item = part key n in
    let shown : View = record (view_of from) { store = store_of image } in
    let represents : Represents shown state layout = same-represents (view_of from) state layout k.represents (store_of image) removed.shown.store in
    let a : IsAround item state.uses = around item state.uses listed (k.valid.once item) in
    let idle : IsAtRest (list_of from) (nodes_of layout state.uses) = record { whole = k.represents.list; idle = k.represents.idle } in (
      removed.headers.sound k.sound,
      held-partly from image (writes_of remove (layout.place item) (list_of from)) removed
          ∙ ap (λ (nodes : List ℕ). map row_of_loaded (kept_among (store_of image) held_rule nodes)) (removal-walks (list_of from) layout state.uses item a idle removed.made)
          ∙ go (nat_lt removed.made 2) represents (removed-once (list_of from) layout state.uses item a idle),
    ) where
      go : (b : Bool) → Represents (record (view_of from) { store = store_of image }) state layout → Distinct (nodes_of layout (filter (λ other. not (same_item (part key n) other)) state.uses))
          → map row_of_loaded (kept_among (store_of image) held_rule (nodes_of layout (if b then state.uses else filter (λ other. not (same_item (part key n) other)) state.uses))) ≡ (if b then rest state else rest (without (single key n ∷ []) state))
      go true r once = listed-rest (λ w. false) (store_of image) state layout (represented-but (λ w. false) (record (view_of from) { store = store_of image }) state layout r) k.valid k.represents.list.distinct (λ i h. refl)
      go false r once = part-rows (λ w. false) (store_of image) state layout (represented-but (λ w. false) (record (view_of from) { store = store_of image }) state layout r) k.valid key n once (λ i h keeps. refl)
