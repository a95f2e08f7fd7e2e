-- Where each command may crash, at each word of its calls.
use Rattle.std.proofs.Common.{◌≡◌, ℕ, List, [], ◌∷◌, ◌++◌, map, refl, ap, sym, ◌∙◌, subst, Bool, true, false, inl, inr, Some}
use Rattle.std.specs.Prelude.{◌⊎◌, if◌then◌else◌, nat_lt, take}
use Rattle.std.specs.List.{filter}
use Rattle.std.proofs.lemmas.List.{append_assoc}
use Rattle.spec_image.specs.Image.{Image}
use Rattle.blk_model.specs.EvictionLaws.{EvictsFirst}
use Rattle.blk_model.specs.Items.{Item, Row, main, part}
use Rattle.blk_model.specs.State.{State}
use Rattle.blk_model.specs.Effects.{doomed, used, used_all}
use Rattle.blk_model.specs.Holding.{rest}
use Rattle.blk_model.specs.Request.{Request, to_close, to_flush}
use Rattle.blk_model.specs.Room.{whole, without}
use Rattle.blk_model.proofs.EvictedFirst.{evictions-stop}
use Rattle.blk_model.proofs.StopRests.{rest_before}
use Rattle.spec_folder.specs.Audit.{kept_among, kept_by}
use Rattle.spec_folder.specs.Completion.{remove}
use Rattle.spec_folder.specs.Found.{completed, held, row_of_loaded}
use Rattle.spec_folder.specs.Layout.{HoldsExcept, Represents, nodes_of}
use Rattle.spec_folder.specs.ListPlans.{writes_of}
use Rattle.spec_folder.specs.ListSteps.{IsPartly}
use Rattle.spec_folder.specs.ListView.{ListWrite, after_writes}
use Rattle.spec_folder.specs.Loads.{held_rule}
use Rattle.spec_folder.specs.View.{View, list_of, store_of, view_of}
use Rattle.law_folder.specs.CommandLaws.{marked}
use Rattle.law_folder.proofs.states.Central.{walk-idle}
use Rattle.law_folder.proofs.commands.DoomWrites.{dooms-moments, doomed-parts}
use Rattle.law_folder.proofs.commands.Dooming.{dooms-keep}
use Rattle.law_folder.proofs.states.OthersHold.{others-outside}
use Rattle.law_folder.proofs.commands.Touches.{same-represents}
use Rattle.law_folder.proofs.lists.Walks.{walk_list}
use Rattle.law_state.specs.Changes.{Finds}
use Rattle.law_state.specs.Commands.{MayStop}
use Rattle.law_state.specs.CommandStates.{MayLeave, amidst, in_order, with_room}
use Rattle.law_state.specs.WordStops.{CleaningMayStop, DoomedPartsFindTheSame, DoomsFindEither, DoomsMayStop, GroupsMayStop, OutIsDoomed, SettlingMayStop, UnsettledUsesMayStop, UnsettlingMayStop, UsesMayStop, WholeGroupsMayStop}
use Rattle.law_state.proofs.CommandEnding.{closes-left, dooms-left, flushes-left, groups-turn}
use Rattle.law_state.proofs.GroupsGone.{whole-groups-go}
use Rattle.law_state.proofs.NotAtRest.{own-uses}
use Rattle.law_state.proofs.Orders.{left-stops, room-left, uses-go-on, uses-left}
use Rattle.law_state.proofs.Touching.{held-kept, touches-find}
use Rattle.law_state.proofs.Unsettling.{unsettled-left}

-- one of two is found, and either may be left
chosen-stops : (state : State) (moment : ℕ) (request : Request) (one other : List Row) (image : Image) (before : Bool) → MayLeave state moment request one → MayLeave state moment request other → Finds (if before then one else other) image → MayStop state moment request image
chosen-stops state moment request one other image true first second finds = left-stops state moment request one image first finds
chosen-stops state moment request one other image false first second finds = left-stops state moment request other image second finds

either-stops : (state : State) (moment : ℕ) (request : Request) (one other : List Row) (image : Image) → MayLeave state moment request one → MayLeave state moment request other → Finds one image ⊎ Finds other image → MayStop state moment request image
either-stops state moment request one other image first second (inl finds) = left-stops state moment request one image first finds
either-stops state moment request one other image first second (inr finds) = left-stops state moment request other image second finds

-- ---- accesses

pub uses-stop : UsesMayStop
uses-stop state moment request first others item layout unlinked from image valid passes none split k listed touched =
    let base = with_room state moment request in
    let inner = in_order (used_all first base.uses) base in
    chosen-stops state moment request (rest inner) (rest (in_order (used item inner.uses) base)) image (nat_lt touched.made 2) (uses-left state moment request first (item ∷ others) valid passes none split)
    (subst (λ (uses : List Item). MayLeave state moment request (rest (in_order uses base))) (uses-go-on first item base.uses)
    (uses-left state moment request (first ++ item ∷ []) others valid passes none (split ∙ sym (append_assoc first (item ∷ []) others))))
    (touches-find inner layout unlinked from image k item listed touched)

pub unsettled-uses-stop : UnsettledUsesMayStop
unsettled-uses-stop state moment request number object changed uses item layout unlinked from image valid is unsettled keeps own k listed touched =
    let base = with_room state moment request in
    chosen-stops state moment request (rest (amidst base number changed uses)) (rest (amidst base number changed (used item uses))) image (nat_lt touched.made 2)
    (unsettled-left state moment request number object valid is changed uses unsettled keeps)
    (unsettled-left state moment request number object valid is changed (used item uses) unsettled (own-uses base object.key item uses own keeps).1)
    (touches-find (amidst base number changed uses) layout unlinked from image k item listed touched)

-- ---- dirty flags

pub unsettling-stops : UnsettlingMayStop
unsettling-stops state moment request number object image valid is finds =
    let base = with_room state moment request in
    either-stops state moment request (rest base) (rest (marked base number object false)) image (room-left state moment request valid is.affected.passes)
    (unsettled-left state moment request number object valid is (record object { settled = false }) base.uses (record { key_is = refl; live = is.affected.live; unsettled = refl }) refl) finds

pub settling-stops : SettlingMayStop
settling-stops state moment handle number object image valid can is finds =
    either-stops state moment (to_close handle) (rest state) (rest (marked state number object true)) image (rest_before state moment (to_close handle) valid) (closes-left state moment handle number object valid can is) finds

pub cleaning-stops : CleaningMayStop
cleaning-stops state moment handle number object image valid can is finds =
    either-stops state moment (to_flush handle) (rest state) (rest (marked state number object true)) image (rest_before state moment (to_flush handle) valid) (flushes-left state moment handle number object valid can is) finds

-- ---- removals

-- in the midst of writes into the list the image shows them so far
pub held-partly : (from image : Image) (writes : List ListWrite) (partly : IsPartly from writes image)
    → held image ≡ map row_of_loaded (kept_by held_rule (completed (record { list = after_writes (take partly.made writes) (list_of from); store = store_of image })))
held-partly from image writes partly = held-kept image ∙ ap (λ (v : View). map row_of_loaded (kept_by held_rule (completed v))) (shows partly.shown.list) where
  shows : list_of image ≡ after_writes (take partly.made writes) (list_of from) → ◌≡◌ {A = View} (view_of image) (record { list = after_writes (take partly.made writes) (list_of from); store = store_of image })
  shows e = λ i. let v : View = record { list = e i; store = store_of image } in v

pub dooms-find : DoomsFindEither
dooms-find state layout unlinked from image number object k here live removed =
    let node = layout.place (main object.key) in
    let shown : View = record (view_of from) { store = store_of image } in
    let represents : Represents shown state layout = same-represents (view_of from) state layout k.represents (store_of image) removed.shown.store in (
      removed.headers.sound k.sound,
      held-partly from image (writes_of remove node (list_of from)) removed ∙ dooms-moments shown state layout represents k.valid number object here live removed.made,
    )

pub out-doomed : OutIsDoomed
out-doomed state layout number object keep image valid here out = (
  out.sound,
  held-kept image
      ∙ ap (λ (nodes : List ℕ). map row_of_loaded (kept_among (store_of image) held_rule nodes)) (walk-idle (list_of image) out.list.idle ∙ walk_list (list_of image) (nodes_of layout (filter keep state.uses)) out.list.whole)
      ∙ dooms-keep out.except (store_of image) state layout out.holds valid number object here keep out.out out.others out.list.whole.distinct out.there,
)

pub doomed-parts-find : DoomedPartsFindTheSame
doomed-parts-find state layout number object keep n from image valid here out listed stays removed =
    let shown : View = record (view_of from) { store = store_of image } in
    let holds : HoldsExcept out.except (store_of image) state layout = others-outside (λ claim. false) out.except (store_of from) (store_of image) state layout out.holds removed.shown.store.store removed.shown.store.table (λ claim node own excepted. refl) (λ bucket contents below among claim has. refl) in (
      removed.headers.sound out.sound,
      held-partly from image (writes_of remove (layout.place (part object.key n)) (list_of from)) removed
          ∙ doomed-parts out.except shown state layout holds valid number object here keep out.out out.others out.there out.list n listed stays removed.made,
    )

pub dooms-stop : DoomsMayStop
dooms-stop state moment request number object before image valid can passes is here finds =
    chosen-stops state moment request (rest state) (rest (doomed number state (Some object))) image before (rest_before state moment request valid) (dooms-left state moment request number object valid can passes is here) finds

-- ---- eviction units

pub groups-stop : GroupsMayStop
groups-stop state moment request first others group before image valid evicts finds =
    let more : EvictsFirst state moment request (first ++ group ∷ []) others = record { passes = evicts.passes; groups = evicts.groups ∙ sym (append_assoc first (group ∷ []) others) } in
    chosen-stops state moment request (rest (without first state)) (rest (without (group ∷ []) (without first state))) image before (evictions-stop state moment request first (group ∷ others) valid evicts)
    (subst (λ (s : State). MayLeave state moment request (rest s)) (sym (groups-turn state first (group ∷ []))) (evictions-stop state moment request (first ++ group ∷ []) others valid more)) finds

pub whole-groups-stop : WholeGroupsMayStop
whole-groups-stop state moment request first others number object parts before image valid evicts inner_valid here live unnamed finds =
    groups-stop state moment request first others (whole object.key parts) before image valid evicts
    (subst (λ (s : State). Finds (if before then rest (without first state) else rest s) image) (sym (whole-groups-go (without first state) number object parts inner_valid here live unnamed)) finds)
