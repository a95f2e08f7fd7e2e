-- An access of any listed item.
use Rattle.std.proofs.Common.{◌≡◌, ℕ, ◌+◌, ◌≤◌, List, [], ◌∷◌, map, take, refl, ap, sym, ◌∙◌, subst, Bool, true, false, arith, cond, ⊎_elim}
use Rattle.std.specs.Prelude.{◌||◌, if◌then◌else◌, nat_lt}
use Rattle.std.proofs.lemmas.Bool.{cases_Bool}
use Rattle.spec_folder.specs.ListPlans.{touch_writes}
use Rattle.spec_folder.specs.ListView.{after_writes}
use Rattle.spec_folder.specs.Walk.{walk}
use Rattle.spec_folder.specs.Completion.{completed_list}
use Rattle.blk_model.specs.Items.{Item, same_item, times}
use Rattle.blk_model.specs.State.{State, IsValidState, owners}
use Rattle.blk_model.specs.Effects.{used}
use Rattle.blk_model.proofs.Same.{one_item}
use Rattle.blk_model.proofs.Times.{times-cons}
use Rattle.blk_model.proofs.States.{state_used_all}
use Rattle.spec_folder.specs.View.{View, StoreView}
use Rattle.spec_folder.specs.Chains.{Linked, IsChain}
use Rattle.spec_folder.specs.ShownChanges.{ShowsTheSame}
use Rattle.law_folder.proofs.claims.Outside.{clear-zero, all-clear, load-outside, linked-same}
use Rattle.spec_folder.specs.Loads.{held_rule}
use Rattle.spec_folder.specs.Audit.{kept_among}
use Rattle.spec_folder.specs.Found.{row_of_loaded}
use Rattle.spec_folder.specs.Layout.{Layout, is_listed, nodes_of, rule_of, Represents, Shows, Holds, is_in}
use Rattle.law_folder.proofs.commands.Opening.{IsAround, around, SameItems, lies-reordered, touch-walks, touched-list, touched-once, used-same, open-moments, open-ends}
use Rattle.law_folder.proofs.states.Central.{rest-found}
use Rattle.law_folder.specs.ItemLaws.{SameStoresRepresent, TouchedItemsAtEachWrite, TouchedItemsEnd}
use Rattle.law_folder.specs.CommandLaws.{OpensAtEachWrite, OpensEnd}
use Rattle.blk_model.specs.Holding as model

pub in-times : (i : Item) (items : List Item) → is_in items i ≡ true → 1 ≤ times i items
in-times i [] e = absurd (let c : false ≡ true = e in cc)
in-times i (j ∷ items) e =
    let t = times-cons i j items in
    ⊎_elim
    (λ (h : same_item i j ≡ true). let c : times i (j ∷ items) ≡ 1 + times i items = t ∙ ap (λ (b : Bool). cond b 1 0 + times i items) h in omega arith)
    (λ (h : same_item i j ≡ false). let c : times i (j ∷ items) ≡ 0 + times i items = t ∙ ap (λ (b : Bool). cond b 1 0 + times i items) h in let more = in-times i items (rw h at e) in omega (arith, more))
    (cases_Bool (same_item i j))

-- a store view that shows the same shows the layout
pub shows-same : (v s : StoreView) (y : Layout) → Shows v y → ShowsTheSame v s → Shows s y
shows-same v s y shows same = record {
  no_record = sym (same.store.entry 0 (clear-zero (λ c. false))) ∙ shows.no_record;
  each = λ w l is. load-outside (λ c. false) v s same.store (rule_of y w) w l refl (shows.each w l is) (all-clear (λ c. false) l (λ c h. refl));
  chains = λ b below. let c : IsChain v b (y.chains b) = shows.chains b below in
      record { linked = subst (λ (x : ℕ). Linked s b x (y.chains b)) (same.table b) (linked-same (λ c. false) v s same.store b (v.table b) (y.chains b) (λ w h d g. refl) c.linked); once = c.once };
}

module _ (v : View) (m : State) (y : Layout) (r : Represents v m y) (valid : IsValidState m) (i : Item) (there : is_listed m i ≡ true) where
  a : IsAround i m.uses
  a = around i m.uses there (valid.once i)

  touched-valid : IsValidState (record m { uses = used i m.uses })
  touched-valid = state_used_all m valid (i ∷ []) (λ item is. subst (λ (k : Item). owners k m.objects ≡ 1) (sym (one_item item i (or-none (same_item item i) is))) (omega (arith, in-times i m.uses there, valid.listed i, valid.once i)))
    where
      or-none : (b : Bool) → (b || false) ≡ true → b ≡ true
      or-none true e = refl
      or-none false e = e

  holds-used : Holds v.store (record m { uses = used i m.uses }) y
  holds-used = record { shows = r.holds.shows; lies = lies-reordered m y (used i m.uses) m.names same r.holds.lies }
    where
      same : SameItems (used i m.uses) m.uses
      same = used-same i m.uses (around i m.uses there (valid.once i))

  pub touched-rests : (s : StoreView) → ShowsTheSame v.store s → (count : ℕ) → map row_of_loaded (kept_among s held_rule (walk (completed_list (after_writes (take count (touch_writes (y.place i) v.list)) v.list)))) ≡ (if nat_lt count 2 then model.rest m else model.rest (record m { uses = used i m.uses }))
  touched-rests s same count = ap (λ (ws : List ℕ). map row_of_loaded (kept_among s held_rule ws)) (touch-walks v m y r i a count) ∙ go (nat_lt count 2)
    where
      go : (b : Bool) → map row_of_loaded (kept_among s held_rule (nodes_of y (if b then m.uses else used i m.uses))) ≡ (if b then model.rest m else model.rest (record m { uses = used i m.uses }))
      go true = rest-found s m y (record { shows = shows-same v.store s y r.holds.shows same; lies = r.holds.lies }) valid r.list.distinct
      go false = rest-found s (record m { uses = used i m.uses }) y (record { shows = shows-same v.store s y r.holds.shows same; lies = holds-used.lies }) touched-valid (touched-once v m y r i a)

  pub touched-ends : Represents (record v { list = after_writes (touch_writes (y.place i) v.list) v.list }) (record m { uses = used i m.uses }) y
  touched-ends = let list = touched-list v m y r i a in record { holds = holds-used; list = list.0; idle = list.1 }

pub same-represents : SameStoresRepresent
same-represents view state layout r store same = record { holds = record { shows = shows-same view.store store layout r.holds.shows same; lies = r.holds.lies }; list = r.list; idle = r.idle }

pub touched-items : TouchedItemsAtEachWrite
touched-items view state layout r valid item there store same count = touched-rests view state layout r valid item there store same count

pub touched-items-end : TouchedItemsEnd
touched-items-end view state layout r valid item there store same = (
  same-represents (record view { list = after_writes (touch_writes (layout.place item) view.list) view.list }) (record state { uses = used item state.uses }) layout (touched-ends view state layout r valid item there) store same,
  touched-valid view state layout r valid item there,
)

-- an Open, in a store view that shows the same
pub opens-each : OpensAtEachWrite
opens-each view state layout r valid moment handle key passed store same count =
    open-moments (record view { store = store }) state layout (same-represents view state layout r store same) valid moment handle key passed count

pub opens-end : OpensEnd
opens-end view state layout r valid moment handle key passed store same =
    open-ends (record view { store = store }) state layout (same-represents view state layout r store same) valid moment handle key passed
