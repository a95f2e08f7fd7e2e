-- What a state lists more than another one, by the totals of both, where one live object differs.
use Rattle.std.proofs.Common.{◌≡◌, ℕ, ◌+◌, List, length, set, get_or, true, Option, Some, None, refl, ap, ◌∙◌, arith, cond}
use Rattle.std.specs.List.{count_by, sum_by}
use Rattle.std.proofs.lemmas.List.Sums.{sum_by-set}
use Rattle.spec_image.specs.Image.{Image}
use Rattle.blk_model.specs.Room.{items, total}
use Rattle.blk_model.specs.State.{Object, State, object_at}
use Rattle.blk_model.specs.Totals.{doomed_charge, is_doomed_slot}
use Rattle.blk_model.proofs.Each.{some_within}
use Rattle.blk_model.proofs.Sums.{totals_are_sums}
use Rattle.spec_folder.specs.Found.{charge_of}
use Rattle.spec_folder.specs.Layout.{Layout}
use Rattle.law_folder.proofs.states.Charges.{listed-totals}
use Rattle.law_folder.proofs.states.Standing.{kept-at}
use Rattle.law_state.specs.Keeping.{KeepsUncounted}
use Rattle.law_state.specs.CounterLaws.{charged}
use Rattle.blk_object.specs.Counters.{AreMoreItems}
use Rattle.blk_object.proofs.MakingRoom.{rows-long}

-- the bytes of a kept state are the sum of the costs of what lies there and of the doomed objects
bytes-are : (state : State) (layout : Layout) (unlinked : List ℕ) (image : Image) → KeepsUncounted state layout unlinked image → total state ≡ charged state layout + sum_by doomed_charge state.objects
bytes-are state layout unlinked image k =
    (listed-totals image state layout k.represents k.valid).bytes ∙ ap (λ (n : ℕ). n + sum_by doomed_charge state.objects) (ap (sum_by charge_of) (kept-at image state layout k.represents k.valid))

-- and its items those that are listed, and the doomed objects
items-are : (state : State) (layout : Layout) (unlinked : List ℕ) (image : Image) → KeepsUncounted state layout unlinked image → items state ≡ length state.uses + count_by is_doomed_slot state.objects
items-are state layout unlinked image k = (totals_are_sums state k.valid).count ∙ ap (λ (n : ℕ). n + count_by is_doomed_slot state.objects) (rows-long state layout unlinked image k)

live-none : (object : Object) → object.live ≡ true → doomed_charge (Some object) ≡ 0
live-none object live = rw live refl

live-not : (object : Object) → object.live ≡ true → ◌≡◌ {A = ℕ} (cond (is_doomed_slot (Some object)) 1 0) 0
live-not object live = rw live refl

module _ (state : State) (number : ℕ) (object other : Object) (here : object_at state number ≡ Some object) (live : object.live ≡ true) (lives : other.live ≡ true) where
  doomed-same : sum_by doomed_charge (set state.objects number (Some other)) ≡ sum_by doomed_charge state.objects
  doomed-same =
      let moved = sum_by-set doomed_charge state.objects number (Some other) None (some_within state.objects number object here) in
      let was : doomed_charge (get_or state.objects number None) ≡ 0 = ap doomed_charge here ∙ live-none object live in
      let now = live-none other lives in
      omega (arith, moved, was, now)

  count-same : count_by is_doomed_slot (set state.objects number (Some other)) ≡ count_by is_doomed_slot state.objects
  count-same =
      let moved = sum_by-set (λ (s : Option Object). cond (is_doomed_slot s) 1 0) state.objects number (Some other) None (some_within state.objects number object here) in
      let was : ◌≡◌ {A = ℕ} (cond (is_doomed_slot (get_or state.objects number None)) 1 0) 0 = ap (λ (s : Option Object). cond (is_doomed_slot s) 1 0) here ∙ live-not object live in
      let now = live-not other lives in
      omega (arith, moved, was, now)

  -- so they give what is listed more
  pub more-listed : (after : State) (layout now : Layout) (unlinked left : List ℕ) (image end : Image) (entries charge : ℕ) → KeepsUncounted state layout unlinked image → KeepsUncounted after now left end
      → after.objects ≡ set state.objects number (Some other) → items after ≡ items state + entries → total after ≡ total state + charge → AreMoreItems state after layout now entries charge
  more-listed after layout now unlinked left image end entries charge k l objects items_more total_more =
      let bytes_was = bytes-are state layout unlinked image k in
      let bytes_now = bytes-are after now left end l in
      let items_was = items-are state layout unlinked image k in
      let items_now = items-are after now left end l in
      let doomed : sum_by doomed_charge after.objects ≡ sum_by doomed_charge state.objects = ap (sum_by doomed_charge) objects ∙ doomed-same in
      let count : count_by is_doomed_slot after.objects ≡ count_by is_doomed_slot state.objects = ap (count_by is_doomed_slot) objects ∙ count-same in
      record { items = omega (arith, items_was, items_now, count, items_more); bytes = omega (arith, bytes_was, bytes_now, doomed, total_more) }
