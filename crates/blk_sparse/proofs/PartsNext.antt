-- The first part after a node is removed.
use Rattle.std.proofs.Common.{◌≡◌, ℕ, List, ◌∷◌, ◌++◌, append_assoc, refl, ap, sym, ◌∙◌, subst, Bool, true, false, Option, None, Some}
use Rattle.std.specs.Prelude.{◌||◌, filter, IfSome}
use Rattle.std.proofs.lemmas.Bool.{and_parts}
use Rattle.spec_image.specs.Image.{Image}
use Rattle.blk_model.specs.Items.{Item, part}
use Rattle.blk_model.specs.State.{Object, State}
use Rattle.blk_model.proofs.Same.{same_item_self}
use Rattle.spec_folder.specs.Found.{charge_of}
use Rattle.spec_folder.specs.Layout.{Layout, is_in, is_listed, nodes_of}
use Rattle.spec_folder.specs.ListImages.{HasListAtRest}
use Rattle.law_folder.proofs.commands.Opening.{in-append}
use Rattle.law_folder.proofs.commands.Removing.{in-filter}
use Rattle.blk_lru.specs.Lists.{IsListed, last_node_of}
use Rattle.law_state.specs.Changes.{SameSession}
use Rattle.blk_object.specs.ListedParts.{ForEachSearch, HaveNoPart, IsFirstPart, IsFoundPart}
use Rattle.blk_object.specs.declared.listed_parts.ListedPart.{ListedPart}
use Rattle.blk_object.specs.UnlinkedLoads.{KeepsUnlinked}
use Rattle.blk_object.proofs.WalkedParts.{listed-amid, rests-amid}
use Rattle.blk_sparse.specs.Dropping.{AreLeft, IsBehind, IsDropOfNext, IsNextOut, IsPartLeft, IsPartDropped}
use Rattle.blk_sparse.proofs.Walking.{searched}

or-true : (b : Bool) → (b || true) ≡ true
or-true true = refl
or-true false = refl

-- the session of an image that is the same
pub same-session : (from image : Image) → image ≡ from → SameSession from image
same-session from image same = subst (SameSession from) (sym same) (record { crash = refl; id = refl })

-- and what lies in its unlinked places
pub same-unlinked : (unlinked : List ℕ) (from image : Image) → image ≡ from → KeepsUnlinked unlinked from image
same-unlinked unlinked from image same = subst (KeepsUnlinked unlinked from) (sym same) (λ state node loaded lies. lies)

-- what lies at a place of an option is so
pub of-some : {A : Type 0} (o : Option A) (a : A) (P : A → Type 0) → o ≡ Some a → IfSome o P → P a
of-some {A} o a P is holds = let q : IfSome (Some a) P = subst (λ (x : Option A). IfSome x P) is holds in q

module _ (state : State) (layout : Layout) (keep : Item → Bool) (chains : ℕ → List ℕ) (unlinked key : List ℕ) (number : ℕ) (object : Object) (at : Option ℕ) (image : Image) (left : AreLeft state layout keep chains unlinked key number object image) (is : IsBehind layout key (filter keep state.uses) at) where
  -- what a search says of the items after the node
  pub found-behind : (found : Option ListedPart) → ForEachSearch at image (λ (l : Layout) (items : List Item). IsFoundPart l key items found) → IsFoundPart layout key is.items found
  found-behind found h = h state layout keep chains unlinked is.items left.kept (searched layout key (filter keep state.uses) at is)

  pub none-behind : (found : Option ListedPart) → found ≡ None → ForEachSearch at image (λ (l : Layout) (items : List Item). IsFoundPart l key items found) → HaveNoPart key is.items
  none-behind found none h = let q : IsFoundPart layout key is.items None = subst (IsFoundPart layout key is.items) none (found-behind found h) in q

  pub first-behind : (found : Option ListedPart) (first : ListedPart) → found ≡ Some first → ForEachSearch at image (λ (l : Layout) (items : List Item). IsFoundPart l key items found) → IsFirstPart layout key is.items first
  first-behind found first some h = let q : IsFoundPart layout key is.items (Some first) = subst (IsFoundPart layout key is.items) some (found-behind found h) in q

  module _ (found : ListedPart) (first : IsFirstPart layout key is.items found) where
    whole : filter keep state.uses ≡ (is.front ++ first.passed) ++ part key found.number ∷ first.behind
    whole = is.split ∙ ap (λ (xs : List Item). is.front ++ xs) first.split ∙ sym (append_assoc is.front first.passed (part key found.number ∷ first.behind))

    pub both : (keep (part key found.number) ≡ true) × (is_listed state (part key found.number) ≡ true)
    both = and_parts (keep (part key found.number)) (is_in state.uses (part key found.number))
        (sym (in-filter keep state.uses (part key found.number)) ∙ ap (λ (xs : List Item). is_in xs (part key found.number)) whole
        ∙ in-append (is.front ++ first.passed) (part key found.number ∷ first.behind) (part key found.number) ∙ rw (same_item_self (part key found.number)) (or-true (is_in (is.front ++ first.passed) (part key found.number))))

    abbrev pub first-left : IsPartLeft state layout keep key found.number found.node
    first-left = record { listed = both.1; stays = both.0; was = first.was; here = first.here; node_is = first.node_is }

    pub first-rests : HasListAtRest (nodes_of layout (is.front ++ first.passed) ++ found.node ∷ nodes_of layout first.behind) image
    first-rests = rests-amid layout (filter keep state.uses) (is.front ++ first.passed) first.behind (part key found.number) found.node image left.kept.list whole first.node_is

    pub first-listed : IsListed found.node image
    first-listed = listed-amid layout (filter keep state.uses) (is.front ++ first.passed) first.behind (part key found.number) found.node image left.kept.list whole first.node_is

    pub next-out : (charge : ℕ) (behind : Option ℕ) (now : Image) → charge ≡ charge_of first.was → ((prefix suffix : List ℕ) → HasListAtRest (prefix ++ found.node ∷ suffix) image → behind ≡ last_node_of prefix) → IsPartDropped state layout keep unlinked key number object found.number now
        → IsDropOfNext key is.items (IsNextOut state layout keep unlinked key number object is.front is.items) (Some (record { number = found.number; charge = charge; behind = behind })) image now
    next-out charge behind now charge_is last out = record {
      passed = first.passed;
      behind = first.behind;
      split = first.split;
      none = first.none;
      last = last (nodes_of layout (is.front ++ first.passed)) (nodes_of layout first.behind) first-rests;
      was = first.was;
      here = first.here;
      charge_is = charge_is;
      chains = out.chains;
      left = out.left;
    }
