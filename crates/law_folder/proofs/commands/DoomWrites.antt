-- What is kept at each write into the list that a doom makes.
use Rattle.std.proofs.Common.{◌≡◌, ℕ, ◌≤◌, List, [], ◌∷◌, ◌++◌, map, refl, ap, sym, ◌∙◌, subst, Bool, true, false, cond, arith, Some, ⊎_elim}
use Rattle.std.specs.Prelude.{if◌then◌else◌, not, ◌&&◌, nat_lt, take}
use Rattle.std.specs.List.{filter}
use Rattle.std.proofs.lemmas.Bool.{cases_Bool, and_parts}
use Rattle.blk_model.specs.Items.{Item, main, part, same_item, key_of, times}
use Rattle.blk_model.specs.Effects.{doomed}
use Rattle.blk_model.proofs.Same.{one_item, same_item_self, bytes_eq_self}
use Rattle.blk_model.proofs.Times.{times-filter}
use Rattle.spec_folder.specs.ListView.{ListView, Distinct, after_writes, IsAtRest}
use Rattle.spec_folder.specs.Walk.{walk}
use Rattle.spec_folder.specs.Completion.{remove, completed_list}
use Rattle.spec_folder.specs.ListPlans.{writes_of}
use Rattle.spec_folder.specs.Loads.{held_rule}
use Rattle.spec_folder.specs.Audit.{kept_among}
use Rattle.spec_folder.specs.Found.{row_of_loaded}
use Rattle.spec_folder.specs.Layout.{Layout, is_in, is_listed, nodes_of}
use Rattle.spec_folder.specs.Removal.{is_of_another}
use Rattle.law_folder.specs.CommandLaws.{DoomsAtEachWrite, DoomedPartsAtEachWrite}
use Rattle.law_folder.proofs.lists.AtRest.{removals-turn, removals-end}
use Rattle.law_folder.proofs.commands.Opening.{IsAround, around, nodes-append}
use Rattle.law_folder.proofs.states.Settling.{main-listed}
use Rattle.law_folder.proofs.commands.Removing.{in-filter}
use Rattle.law_folder.proofs.states.OthersHold.{represented-but}
use Rattle.law_folder.proofs.commands.DoomedObjects.{listed-rest}
use Rattle.law_folder.proofs.commands.Dooming.{dooms-keep}
use Rattle.blk_model.specs.Holding as model

-- ---- the removal of an item's node

module _ (l : ListView) (y : Layout) (items : List Item) (i : Item) (a : IsAround i items) (rest : IsAtRest l (nodes_of y items)) where
  old-nodes : nodes_of y items ≡ nodes_of y a.before ++ y.place i ∷ nodes_of y a.suffix
  old-nodes = ap (nodes_of y) a.is ∙ nodes-append y a.before (i ∷ a.suffix)

  new-nodes : nodes_of y (filter (λ other. not (same_item i other)) items) ≡ nodes_of y a.before ++ nodes_of y a.suffix
  new-nodes = ap (nodes_of y) a.rest ∙ nodes-append y a.before a.suffix

  split : IsAtRest l (nodes_of y a.before ++ y.place i ∷ nodes_of y a.suffix)
  split = subst (IsAtRest l) old-nodes rest

  -- the nodes that are walked after the redo of what is in flight
  pub removal-walks : (k : ℕ) → walk (completed_list (after_writes (take k (writes_of remove (y.place i) l)) l)) ≡ nodes_of y (if nat_lt k 2 then items else filter (λ other. not (same_item i other)) items)
  removal-walks k = removals-turn (y.place i) l (nodes_of y a.before) (nodes_of y a.suffix) split k ∙ choose (nat_lt k 2) where
    choose : (b : Bool) → (if b then nodes_of y a.before ++ y.place i ∷ nodes_of y a.suffix else nodes_of y a.before ++ nodes_of y a.suffix) ≡ nodes_of y (if b then items else filter (λ other. not (same_item i other)) items)
    choose true = sym old-nodes
    choose false = sym new-nodes

  pub removed-once : Distinct (nodes_of y (filter (λ other. not (same_item i other)) items))
  removed-once = subst Distinct (sym new-nodes) (removals-end (y.place i) l (nodes_of y a.before) (nodes_of y a.suffix) split).whole.distinct

-- an item of a key is none of another
another-is : (key : List ℕ) (i j : Item) → key_of i ≡ key → is_of_another key j ≡ true → not (same_item i j) ≡ true
another-is key i j of_key other = ⊎_elim
    (λ (e : same_item i j ≡ true).
    let c : is_of_another key j ≡ false = ap (is_of_another key) (sym (one_item i j e)) ∙ ap (λ (k : List ℕ). is_of_another k i) (sym of_key) ∙ ap not (bytes_eq_self (key_of i)) in
    absurd (let z : true ≡ false = sym other ∙ c in cc))
    (λ (e : same_item i j ≡ false). ap not e)
    (cases_Bool (same_item i j))

-- ---- the main item

pub dooms-moments : DoomsAtEachWrite
dooms-moments v m y r valid number o here live k =
    let there : is_listed m (main o.key) ≡ true = main-listed m valid number o true here live in
    let a : IsAround (main o.key) m.uses = around (main o.key) m.uses there (valid.once (main o.key)) in
    let rest : IsAtRest v.list (nodes_of y m.uses) = record { whole = r.list; idle = r.idle } in
    ap (λ (ws : List ℕ). map row_of_loaded (kept_among v.store held_rule ws)) (removal-walks v.list y m.uses (main o.key) a rest k) ∙ go (nat_lt k 2) (removed-once v.list y m.uses (main o.key) a rest) where
      go : (b : Bool) → Distinct (nodes_of y (filter (λ other. not (same_item (main o.key) other)) m.uses))
          → map row_of_loaded (kept_among v.store held_rule (nodes_of y (if b then m.uses else filter (λ other. not (same_item (main o.key) other)) m.uses))) ≡ (if b then model.rest m else model.rest (doomed number m (Some o)))
      go true once = listed-rest (λ w. false) v.store m y (represented-but (λ w. false) v m y r) valid r.list.distinct (λ i h. refl)
      go false once = dooms-keep (λ w. false) v.store m y (represented-but (λ w. false) v m y r) valid number o here (λ other. not (same_item (main o.key) other)) (ap not (same_item_self (main o.key)))
          (λ i other. another-is o.key (main o.key) i refl other) once (λ i h stays. refl)

-- ---- a part

filter-twice : (p q : Item → Bool) (xs : List Item) → filter q (filter p xs) ≡ filter (λ x. p x && q x) xs
filter-twice p q [] = refl
filter-twice p q (x ∷ xs) = ⊎_elim
    (λ (a : p x ≡ true). ⊎_elim
    (λ (b : q x ≡ true). rw (a, b) (ap (λ (ys : List Item). x ∷ ys) (filter-twice p q xs)))
    (λ (b : q x ≡ false). rw (a, b) (filter-twice p q xs))
    (cases_Bool (q x)))
    (λ (a : p x ≡ false). rw a (filter-twice p q xs))
    (cases_Bool (p x))

pub doomed-parts : DoomedPartsAtEachWrite
doomed-parts except v m y r valid number o here keep out others sound rest n there stays k =
    let among : is_in (filter keep m.uses) (part o.key n) ≡ true = in-filter keep m.uses (part o.key n) ∙ both keep (part o.key n) stays there in
    let few : times (part o.key n) (filter keep m.uses) ≤ 1 = fewer (keep (part o.key n)) (times (part o.key n) m.uses) (times (part o.key n) (filter keep m.uses)) (times-filter keep (part o.key n) m.uses) (valid.once (part o.key n)) in
    let a : IsAround (part o.key n) (filter keep m.uses) = around (part o.key n) (filter keep m.uses) among few in
    ap (λ (ws : List ℕ). map row_of_loaded (kept_among v.store held_rule ws)) (removal-walks v.list y (filter keep m.uses) (part o.key n) a rest k) ∙ go (nat_lt k 2) (removed-once v.list y (filter keep m.uses) (part o.key n) a rest) where
      both : (keep : Item → Bool) (i : Item) → keep i ≡ true → is_listed m i ≡ true → (keep i && is_listed m i) ≡ true
      both keep i p q = rw (p, q) refl

      fewer : (b : Bool) (t f : ℕ) → f ≡ cond b t 0 → t ≤ 1 → f ≤ 1
      fewer true t f e le = omega arith
      fewer false t f e le = omega arith

      less : Item → Bool
      less i = keep i && not (same_item (part o.key n) i)

      go : (b : Bool) → Distinct (nodes_of y (filter (λ other. not (same_item (part o.key n) other)) (filter keep m.uses)))
          → map row_of_loaded (kept_among v.store held_rule (nodes_of y (if b then filter keep m.uses else filter (λ other. not (same_item (part o.key n) other)) (filter keep m.uses)))) ≡ model.rest (doomed number m (Some o))
      go true once = dooms-keep except v.store m y r valid number o here keep out others rest.whole.distinct sound
      go false once =
          let e : filter (λ other. not (same_item (part o.key n) other)) (filter keep m.uses) ≡ filter (λ i. keep i && not (same_item (part o.key n) i)) m.uses = filter-twice keep (λ other. not (same_item (part o.key n) other)) m.uses in
          ap (λ (xs : List Item). map row_of_loaded (kept_among v.store held_rule (nodes_of y xs))) e
          ∙ dooms-keep except v.store m y r valid number o here (λ i. keep i && not (same_item (part o.key n) i)) (rw out refl)
          (λ i other. let p : keep i ≡ true = others i other in let q : not (same_item (part o.key n) i) ≡ true = another-is o.key (part o.key n) i refl other in rw (p, q) refl)
          (subst (λ (xs : List Item). Distinct (nodes_of y xs)) e once)
          (λ i h p. sound i h (and_parts (keep i) (not (same_item (part o.key n) i)) p).0)
