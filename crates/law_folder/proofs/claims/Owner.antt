-- Who owns the items of a valid state.
use Rattle.std.proofs.Common.{◌≡◌, ℕ, List, refl, ap, sym, ◌∙◌, subst, true, false, cond, arith, Option, Some, None}
use Rattle.std.specs.Prelude.{◌&&◌, is_some}
use Rattle.std.specs.Option.{option_and_then}
use Rattle.std.specs.List.{filter_map}
use Rattle.std.specs.Str.{bytes_eq}
use Rattle.std.proofs.lemmas.Bool.{and_parts}
use Rattle.blk_model.specs.Items.{Item, main, part, key_of, Row}
use Rattle.blk_model.proofs.Same.{same_bytes}
use Rattle.blk_model.specs.State.{State, Object, IsValidState, object_at, part_at, has_item, slot_has_item}
use Rattle.blk_model.specs.Holding.{owner, row_in, row_of, settled_row, rest}
use Rattle.blk_model.specs.Stops.{is_live_and_settled}
use Rattle.blk_model.proofs.Slots.{first_with_has, first_with_found}
use Rattle.spec_folder.specs.Given.{picked_with}

pub record IsOwned (m : State) (i : Item) (number : ℕ) : Type 0 where
  pub object : Object
  pub here : object_at m number ≡ Some object
  pub has : has_item object i ≡ true

pub owned : (m : State) (i : Item) (number : ℕ) → owner m i ≡ Some number → IsOwned m i number
owned m i number e =
    let f = first_with_has i 0 number m.objects e in
    let same : f.0 ≡ number = omega (arith, f.1) in
    go (object_at m number) refl (subst (λ (k : ℕ). slot_has_item i (object_at m k) ≡ true) same f.2) where
      go : (o : Option Object) → object_at m number ≡ o → slot_has_item i (object_at m number) ≡ true → IsOwned m i number
      go None e h = let x : false ≡ true = ap (slot_has_item i) (sym e) ∙ h in absurd (cc)
      go (Some o) e h = record { object = o; here = e; has = ap (slot_has_item i) (sym e) ∙ h }

-- a part's owner is that of the main item
pub same_owner : (m : State) → IsValidState m → (key : List ℕ) (n number : ℕ) → owner m (part key n) ≡ Some number → owner m (main key) ≡ Some number
same_owner m valid key n number e =
    let o : IsOwned m (part key n) number = owned m (part key n) number e in
    let h : has_item o.object (main key) ≡ true = (and_parts (o.object.live && bytes_eq key o.object.key) (is_some (part_at o.object n)) o.has).0 in
    let few = valid.once (main key) in let all = valid.listed (main key) in
    first_with_found (main key) 0 number m.objects (ap (slot_has_item (main key)) o.here ∙ h) (omega arith) ∙ ap Some (omega arith)

-- an owner is live
pub live : (o : Object) (i : Item) → has_item o i ≡ true → o.live ≡ true
live o (main key) h = (and_parts o.live (bytes_eq key o.key) h).0
live o (part key n) h = (and_parts o.live (bytes_eq key o.key) (and_parts (o.live && bytes_eq key o.key) (is_some (part_at o n)) h).0).0

-- an item has the key of an object that has it
pub its-key : (o : Object) (i : Item) → has_item o i ≡ true → key_of i ≡ o.key
its-key o (main key) h = same_bytes key o.key (and_parts o.live (bytes_eq key o.key) h).1
its-key o (part key n) h = same_bytes key o.key (and_parts o.live (bytes_eq key o.key) (and_parts (o.live && bytes_eq key o.key) (is_some (part_at o n)) h).0).1

-- the durable contents are what is picked of the live clean objects
pub settled-picked : (m : State) (i : Item) → settled_row m i ≡ picked_with m (λ number. is_live_and_settled (object_at m number)) i
unfolding settled_row row_of
settled-picked m i = go (owner m i) refl where
  one : (number : ℕ) (o : Object) → object_at m number ≡ Some o → has_item o i ≡ true → owner m i ≡ Some number
      → option_and_then (λ object. cond object.settled (row_in object i) None) (object_at m number) ≡ cond (is_live_and_settled (object_at m number)) (option_and_then (λ object. row_in object i) (object_at m number)) None
  one number o here has own = rw (here, live o i has) refl

  go : (w : Option ℕ) → owner m i ≡ w → option_and_then (λ object. cond object.settled (row_in object i) None) (option_and_then (object_at m) w)
      ≡ option_and_then (λ number. cond (is_live_and_settled (object_at m number)) (option_and_then (λ object. row_in object i) (option_and_then (object_at m) w)) None) w
  go None e = refl
  go (Some number) e = let o : IsOwned m i number = owned m i number e in one number o.object o.here o.has e

pub filter_map-same : (f g : Item → Option Row) → ((i : Item) → f i ≡ g i) → (items : List Item) → filter_map f items ≡ filter_map g items
filter_map-same f g same items = ap (λ (h : Item → Option Row). filter_map h items) (λ i x. same x i)

pub rest-picked : (m : State) → rest m ≡ filter_map (picked_with m (λ number. is_live_and_settled (object_at m number))) m.uses
unfolding rest
rest-picked m = filter_map-same (settled_row m) _ (settled-picked m) m.uses
