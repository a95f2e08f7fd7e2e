-- How many objects have an item, and how many its main item.
use Rattle.std.proofs.Common.{◌≡◌, ℕ, ◌+◌, ◌≤◌, Bool, true, false, cond, List, [], ◌∷◌, Some, None, Option, refl, ap, sym, ◌∙◌, subst, arith, set}
use Rattle.std.specs.Str.{bytes_eq}
use Rattle.std.proofs.lemmas.Bool.{and_parts, and_from}
use Rattle.blk_model.specs.Items.{Item, main, part, key_of}
use Rattle.blk_model.specs.State.{Object, State, IsValidState, object_at, has_item, slot_has_item, owners}
use Rattle.blk_model.proofs.Same.{bytes_eq_self}
use Rattle.blk_model.proofs.Slots.{owners-cons, owners-set}
use Rattle.blk_model.proofs.States.{main_owner}
use Rattle.blk_model.proofs.Each.{some_within}

-- who has an item has its main item
pub has_item_main : (item : Item) (slot : Option Object) → slot_has_item item slot ≡ true → slot_has_item (main (key_of item)) slot ≡ true
has_item_main item None has = has
has_item_main (main key) (Some object) has = has
has_item_main (part key n) (Some object) has = (and_parts _ _ has).0

fewer : (a b : Bool) (m n : ℕ) → (a ≡ true → b ≡ true) → m ≤ n → cond a 1 0 + m ≤ cond b 1 0 + n
fewer true true m n h le = omega arith
fewer true false m n h le = absurd (not_both (h refl))
  where
    not_both : false ≡ true → ⊥
    not_both e = cc
fewer false true m n h le = omega arith
fewer false false m n h le = omega arith

pub owners_main : (item : Item) (slots : List (Option Object)) → owners item slots ≤ owners (main (key_of item)) slots
owners_main item [] = omega arith
owners_main item (slot ∷ slots) =
    let here = owners-cons item slot slots in let there = owners-cons (main (key_of item)) slot slots in
    let le = fewer (slot_has_item item slot) (slot_has_item (main (key_of item)) slot) _ _ (has_item_main item slot) (owners_main item slots) in omega arith

-- of the items with a live object's key, that object alone has those that somebody has
pub only_owner : (state : State) (valid : IsValidState state) (n : ℕ) (object : Object) → object_at state n ≡ Some object → object.live ≡ true → (item : Item) → key_of item ≡ object.key →
    owners item state.objects ≡ cond (has_item object item) 1 0
only_owner state valid n object here live item key_is =
    let within = some_within state.objects n object here in
    let of_item = owners-set item state.objects n None within in
    let of_main = owners-set (main (key_of item)) state.objects n None within in
    let less = owners_main item (set state.objects n None) in
    let one : owners (main (key_of item)) state.objects ≡ 1 = subst (λ k. owners (main k) state.objects ≡ 1) (sym key_is) (main_owner state valid n object here live) in
    let has : ◌≡◌ {A = ℕ} (cond (slot_has_item (main (key_of item)) (object_at state n)) 1 0) 1 =
    ap (λ s. cond (slot_has_item (main (key_of item)) s) 1 0) here ∙ ap (λ b. cond b 1 0) (and_from _ _ live (subst (λ k. bytes_eq k object.key ≡ true) (sym key_is) (bytes_eq_self object.key))) in
    let own : ◌≡◌ {A = ℕ} (cond (slot_has_item item (object_at state n)) 1 0) (cond (has_item object item) 1 0) = ap (λ s. cond (slot_has_item item s) 1 0) here in
    omega arith
