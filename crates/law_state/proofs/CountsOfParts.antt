-- How many items less, and how many bytes, are to be counted once some are out, and how many more once a part is made.
use Rattle.std.proofs.Common.{◌≡◌, ℕ, ◌+◌, List, [], ◌∷◌, ◌++◌, refl, ap, sym, ◌∙◌, subst, arith, Bool, true, false, Option, Some, ⊎_elim, length, length-append}
use Rattle.std.specs.Prelude.{filter, not}
use Rattle.std.specs.List.{cons_option, filter_map, sum_by}
use Rattle.std.proofs.lemmas.Bool.{cases_Bool}
use Rattle.std.proofs.lemmas.List.Sums.{sum_by-cons}
use Rattle.blk_model.specs.Effects.{doomed}
use Rattle.blk_model.specs.Items.{Item, main, part}
use Rattle.spec_format.specs.BlockFiles.{is_among}
use Rattle.spec_folder.specs.Found.{charge_of}
use Rattle.spec_folder.specs.Layout.{Layout, nodes_of, order}
use Rattle.spec_folder.specs.ListView.{Distinct, put}
use Rattle.spec_folder.specs.Loads.{Loaded}
use Rattle.spec_folder.specs.Removal.{is_of_another}
use Rattle.law_folder.proofs.commands.Opening.{IsAround, around, nodes-append}
use Rattle.law_folder.proofs.lists.Lists.{has_not}
use Rattle.law_folder.proofs.states.Changing.{at-itself}
use Rattle.law_folder.proofs.states.Moving.{moved-same, sums-add}
use Rattle.law_state.specs.CountsOfParts.{DoomedItemsAreLess, GoneItemsAreLess, NewPartsAreOneMore, NextItemsAreOneLess, charges_at}
use Rattle.law_state.specs.GroupLaws.{gone_nodes}
use Rattle.law_state.specs.WholeRemovals.{part_nodes}
use Rattle.law_state.proofs.DoomedPlaces as places
use Rattle.law_state.proofs.Groups as groups
use Rattle.law_state.proofs.NewParts as made
use Rattle.law_state.proofs.NextOut as next
use Rattle.law_state.proofs.NodeChanges.{others-at}

-- ---- items that stay and items that are removed

lengths-parted : (keep : Item → Bool) (items : List Item) → length (filter keep items) + length (filter (λ i. not (keep i)) items) ≡ length items
lengths-parted keep [] = refl
lengths-parted keep (i ∷ items) =
    let rest = lengths-parted keep items in
    ⊎_elim
    (λ (e : keep i ≡ true).
    let a : filter keep (i ∷ items) ≡ i ∷ filter keep items = rw e refl in
    let b : filter (λ j. not (keep j)) (i ∷ items) ≡ filter (λ j. not (keep j)) items = rw e refl in
    let c = ap length a in let d = ap length b in omega (arith, rest, c, d))
    (λ (e : keep i ≡ false).
    let a : filter keep (i ∷ items) ≡ filter keep items = rw e refl in
    let b : filter (λ j. not (keep j)) (i ∷ items) ≡ i ∷ filter (λ j. not (keep j)) items = rw e refl in
    let c = ap length a in let d = ap length b in omega (arith, rest, c, d))
    (cases_Bool (keep i))

module _ (layout : Layout) where
  abbrev of_items : List Item → ℕ
  of_items items = charges_at layout (nodes_of layout items)

  one-more : (i : Item) (items : List Item) → of_items (i ∷ items) ≡ charges_at layout (layout.place i ∷ []) + of_items items
  one-more i items = (sums-add charge_of layout.at).more (layout.place i) (nodes_of layout items)

  charges-parted : (keep : Item → Bool) (items : List Item) → of_items (filter keep items) + of_items (filter (λ i. not (keep i)) items) ≡ of_items items
  charges-parted keep [] = refl
  charges-parted keep (i ∷ items) =
      let rest = charges-parted keep items in
      let all = one-more i items in
      ⊎_elim
      (λ (e : keep i ≡ true).
      let a : filter keep (i ∷ items) ≡ i ∷ filter keep items = rw e refl in
      let b : filter (λ j. not (keep j)) (i ∷ items) ≡ filter (λ j. not (keep j)) items = rw e refl in
      let c = ap of_items a ∙ one-more i (filter keep items) in let d = ap of_items b in omega (arith, rest, all, c, d))
      (λ (e : keep i ≡ false).
      let a : filter keep (i ∷ items) ≡ filter keep items = rw e refl in
      let b : filter (λ j. not (keep j)) (i ∷ items) ≡ i ∷ filter (λ j. not (keep j)) items = rw e refl in
      let c = ap of_items a in let d = ap of_items b ∙ one-more i (filter (λ j. not (keep j)) items) in omega (arith, rest, all, c, d))
      (cases_Bool (keep i))

pub gone-less : GoneItemsAreLess
gone-less state layout numbers objects keep chains lies owners = record {
  items = lengths-parted keep state.uses;
  bytes = ap (λ (ls : List Loaded). sum_by charge_of ls + charges_at layout (gone_nodes state layout keep))
      (groups.same-at layout (gone_nodes state layout keep) (nodes_of layout (filter keep state.uses)) (groups.stay-apart state layout keep numbers lies owners))
      ∙ charges-parted layout keep state.uses;
}

pub doomed-less : DoomedItemsAreLess
unfolding doomed
doomed-less state layout numbers number object loaded chains valid lies owners placed named = record {
  items = lengths-parted (is_of_another object.key) state.uses;
  bytes = ap (λ (ls : List Loaded). sum_by charge_of ls + charges_at layout (gone_nodes state layout (is_of_another object.key)))
      (groups.same-at layout (part_nodes state layout object.key) (nodes_of layout (filter (is_of_another object.key) state.uses)) (places.others-stay state layout number object loaded chains numbers valid lies owners placed named))
      ∙ charges-parted layout (is_of_another object.key) state.uses;
}

-- ---- the next item

pub next-less : NextItemsAreOneLess
next-less state layout keep item was valid there stays here = record {
  items =
      let a = next.a state layout keep item valid there stays in
      let one = ap length (next.old-items state layout keep item valid there stays) in
      let two = ap length (next.new-items state layout keep item valid there stays) in
      let three = length-append (filter keep a.before) (item ∷ filter keep a.suffix) in
      let four = length-append (filter keep a.before) (filter keep a.suffix) in
      omega (arith, one, two, three, four);
  bytes =
      let a = next.a state layout keep item valid there stays in
      let prefix = next.prefix state layout keep item valid there stays in
      let suffix = next.suffix state layout keep item valid there stays in
      let now = ap (λ (items : List Item). charges_at layout (nodes_of layout items)) (next.new-items state layout keep item valid there stays) ∙ ap (charges_at layout) (nodes-append layout (filter keep a.before) (filter keep a.suffix)) in
      let old = ap (λ (items : List Item). charges_at layout (nodes_of layout items)) (next.old-items state layout keep item valid there stays)
      ∙ ap (charges_at layout) (nodes-append layout (filter keep a.before) (item ∷ filter keep a.suffix))
      ∙ sym (moved-same (charges_at layout) (sums-add charge_of layout.at) prefix (layout.place item) suffix)
      ∙ ap (λ (o : Option Loaded). sum_by charge_of (cons_option o (filter_map layout.at (prefix ++ suffix)))) here
      ∙ sum_by-cons charge_of was (filter_map layout.at (prefix ++ suffix)) in
      omega (arith, now, old);
}

-- ---- a part that is made

-- one of the nodes has something else
other-charge : (at : ℕ → Option Loaded) (prefix : List ℕ) (node : ℕ) (suffix : List ℕ) (was now : Loaded) → at node ≡ Some was → is_among (prefix ++ suffix) node ≡ false
    → sum_by charge_of (filter_map (put at node (Some now)) (prefix ++ node ∷ suffix)) + charge_of was ≡ sum_by charge_of (filter_map at (prefix ++ node ∷ suffix)) + charge_of now
other-charge at prefix node suffix was now here none =
    let new = sym (moved-same (λ (ns : List ℕ). sum_by charge_of (filter_map (put at node (Some now)) ns)) (sums-add charge_of (put at node (Some now))) prefix node suffix)
    ∙ ap (λ (o : Option Loaded). sum_by charge_of (cons_option o (filter_map (put at node (Some now)) (prefix ++ suffix)))) (at-itself at node (Some now))
    ∙ sum_by-cons charge_of now (filter_map (put at node (Some now)) (prefix ++ suffix))
    ∙ ap (λ (ls : List Loaded). charge_of now + sum_by charge_of ls) (others-at at node (Some now) (prefix ++ suffix) none) in
    let old = sym (moved-same (λ (ns : List ℕ). sum_by charge_of (filter_map at ns)) (sums-add charge_of at) prefix node suffix)
    ∙ ap (λ (o : Option Loaded). sum_by charge_of (cons_option o (filter_map at (prefix ++ suffix)))) here
    ∙ sum_by-cons charge_of was (filter_map at (prefix ++ suffix)) in
    omega (arith, new, old)

pub part-more : NewPartsAreOneMore
part-more view state objects layout key n was seen l written = record {
  items = let e : length (part key n ∷ state.uses) ≡ length state.uses + 1 = omega arith in e;
  bytes =
      let own = ap (λ (ns : List ℕ). sum_by charge_of (filter_map (put bit_at l.node (Some l)) ns)) (made.order-is view state objects layout key n was seen l written)
      ∙ ap (λ (o : Option Loaded). sum_by charge_of (cons_option o (filter_map (put bit_at l.node (Some l)) (order state layout)))) (at-itself bit_at l.node (Some l))
      ∙ sum_by-cons charge_of l (filter_map (put bit_at l.node (Some l)) (order state layout))
      ∙ ap (λ (ls : List Loaded). charge_of l + sum_by charge_of ls) (others-at bit_at l.node (Some l) (order state layout) (made.lacks view state objects layout key n was seen l written)) in
      let parent = subst (λ (ns : List ℕ). sum_by charge_of (filter_map bit_at ns) + charge_of was ≡ sum_by charge_of (filter_map layout.at ns) + charge_of seen) (sym order-around)
      (other-charge layout.at (nodes_of layout a.before) p (nodes_of layout a.suffix) was seen written.at_parent (has_not (nodes_of layout a.before) p (nodes_of layout a.suffix) (subst Distinct order-around written.represents.list.distinct))) in
      omega (arith, own, parent);
} where
  p : ℕ
  p = layout.place (main key)

  bit_at : ℕ → Option Loaded
  bit_at = put layout.at p (Some seen)

  a : IsAround (main key) state.uses
  a = around (main key) state.uses written.listed (written.valid.once (main key))

  order-around : order state layout ≡ nodes_of layout a.before ++ p ∷ nodes_of layout a.suffix
  order-around = ap (nodes_of layout) a.is ∙ nodes-append layout a.before (main key ∷ a.suffix)
