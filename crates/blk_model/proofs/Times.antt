-- How often an item occurs in a list that changes.
use Rattle.std.proofs.Common.{◌≡◌, ℕ, ◌+◌, Bool, true, false, not, ◌||◌, cond, List, [], ◌∷◌, refl, ap, sym, ◌∙◌, subst, arith}
use Rattle.std.specs.List.{filter, list_any}
use Rattle.std.proofs.lemmas.List.Sums.{sum_by-cons}
use Rattle.blk_model.specs.Items.{Item, same_item, times}
use Rattle.blk_model.specs.Effects.{used, used_all}
use Rattle.blk_model.proofs.Same.{one_item, same_item_self}

pub times-cons : (i j : Item) (items : List Item) → times i (j ∷ items) ≡ cond (same_item i j) 1 0 + times i items
times-cons i j items = sum_by-cons (λ x. cond (same_item i x) 1 0) j items

-- a test that is false of an item takes it out of a list, and no other
pub times-filter : (p : Item → Bool) (i : Item) (items : List Item) → times i (filter p items) ≡ cond (p i) (times i items) 0
times-filter p i [] = elim (p i) as (λ b. ◌≡◌ {A = ℕ} 0 (cond b 0 0)) [ true ↦ refl | false ↦ refl ]
times-filter p i (j ∷ items) =
    elim (same_item i j) as (λ same. same_item i j ≡ same → times i (filter p (j ∷ items)) ≡ cond (p i) (times i (j ∷ items)) 0) [
      | true ↦ λ same. let is = one_item i j same in let rest = times-filter p i items in
          elim (p j) as (λ b. p j ≡ b → times i (cond b (j ∷ filter p items) (filter p items)) ≡ cond (p i) (times i (j ∷ items)) 0) [
            | true ↦ λ keeps. let here : p i ≡ true = ap p is ∙ keeps in
                times-cons i j (filter p items) ∙ ap (λ n. cond (same_item i j) 1 0 + n) rest ∙ ap (λ b. cond (same_item i j) 1 0 + cond b (times i items) 0) here ∙ sym (times-cons i j items) ∙ sym (ap (λ b. cond b (times i (j ∷ items)) 0) here)
            | false ↦ λ drops. let here : p i ≡ false = ap p is ∙ drops in
                rest ∙ ap (λ b. cond b (times i items) 0) here ∙ sym (ap (λ b. cond b (times i (j ∷ items)) 0) here)
          ] refl
      | false ↦ λ other. let rest = times-filter p i items in
          let more : times i (j ∷ items) ≡ times i items = times-cons i j items ∙ ap (λ b. cond b 1 0 + times i items) other ∙ omega arith in
          elim (p j) as (λ b. times i (cond b (j ∷ filter p items) (filter p items)) ≡ cond (p i) (times i (j ∷ items)) 0) [
            | true ↦ times-cons i j (filter p items) ∙ ap (λ b. cond b 1 0 + times i (filter p items)) other ∙ omega (arith, rest, more, ap (λ n. cond (p i) n 0) more)
            | false ↦ rest ∙ sym (ap (λ n. cond (p i) n 0) more)
          ]
    ] refl

pub same_item-sym : (i j : Item) → same_item i j ≡ same_item j i
same_item-sym i j =
    elim (same_item i j) as (λ b. same_item i j ≡ b → b ≡ same_item j i) [
      | true ↦ λ same. sym (subst (λ k. same_item k i ≡ true) (one_item i j same) (same_item_self i))
      | false ↦ λ other. elim (same_item j i) as (λ b. same_item j i ≡ b → false ≡ b) [
        | true ↦ λ same. sym other ∙ subst (λ k. same_item k j ≡ true) (one_item j i same) (same_item_self j)
        | false ↦ λ also. refl
      ] refl
    ] refl

-- the item that is accessed occurs once, each other as often as before
pub times-used : (i j : Item) (items : List Item) → times i (used j items) ≡ cond (same_item i j) 1 (times i items)
times-used i j items =
    let rest = times-filter (λ other. not (same_item j other)) i items in
    let split = times-cons i j (filter (λ other. not (same_item j other)) items) in
    split ∙ ap (λ n. cond (same_item i j) 1 0 + n) (rest ∙ ap (λ b. cond (not b) (times i items) 0) (same_item-sym j i))
    ∙ elim (same_item i j) as (λ b. cond b 1 0 + cond (not b) (times i items) 0 ≡ cond b 1 (times i items)) [ true ↦ omega arith | false ↦ omega arith ]

-- so with several that are accessed
pub times-used_all : (i : Item) (more items : List Item) → times i (used_all more items) ≡ cond (list_any (same_item i) more) 1 (times i items)
times-used_all i [] items = refl
times-used_all i (j ∷ more) items =
    times-used_all i more (used j items) ∙ ap (λ n. cond (list_any (same_item i) more) 1 n) (times-used i j items)
    ∙ elim (same_item i j) as (λ b. cond (list_any (same_item i) more) 1 (cond b 1 (times i items)) ≡ cond (b || list_any (same_item i) more) 1 (times i items)) [
      | true ↦ elim (list_any (same_item i) more) as (λ b. ◌≡◌ {A = ℕ} (cond b 1 1) 1) [ true ↦ refl | false ↦ refl ]
      | false ↦ refl
    ]
