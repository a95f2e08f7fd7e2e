-- One item more of a list is removed: which items and nodes are left.
use Rattle.std.proofs.Common.{◌≡◌, ℕ, List, ◌∷◌, ◌++◌, refl, ap, ◌∙◌, Bool, true}
use Rattle.std.specs.Prelude.{filter, not}
use Rattle.std.proofs.lemmas.List.Elements.{filter-append}
use Rattle.blk_model.specs.Items.{Item, same_item}
use Rattle.blk_model.specs.State.{IsValidState, State}
use Rattle.spec_folder.specs.Layout.{Layout, is_listed, nodes_of}
use Rattle.law_folder.proofs.commands.Opening.{IsAround, around, nodes-append}
use Rattle.law_state.specs.PartlyOut.{keeps_but}
use Rattle.law_state.proofs.DoomedPlaces.{filter-both}

module _ (state : State) (layout : Layout) (keep : Item → Bool) (item : Item) (valid : IsValidState state) (there : is_listed state item ≡ true) (stays : keep item ≡ true) where
  abbrev pub a : IsAround item state.uses
  a = around item state.uses there (valid.once item)

  abbrev pub prefix : List ℕ
  prefix = nodes_of layout (filter keep a.before)

  abbrev pub suffix : List ℕ
  suffix = nodes_of layout (filter keep a.suffix)

  pub old-items : filter keep state.uses ≡ filter keep a.before ++ item ∷ filter keep a.suffix
  old-items = ap (filter keep) a.is ∙ filter-append keep a.before (item ∷ a.suffix) ∙ ap (λ (xs : List Item). filter keep a.before ++ xs) (rw stays refl)

  pub new-items : filter (keeps_but keep item) state.uses ≡ filter keep a.before ++ filter keep a.suffix
  new-items = filter-both keep (λ i. not (same_item item i)) (keeps_but keep item) (λ i. refl) state.uses ∙ ap (filter keep) a.rest ∙ filter-append keep a.before a.suffix

  pub old-nodes : nodes_of layout (filter keep state.uses) ≡ prefix ++ layout.place item ∷ suffix
  old-nodes = ap (nodes_of layout) old-items ∙ nodes-append layout (filter keep a.before) (item ∷ filter keep a.suffix)

  pub new-nodes : nodes_of layout (filter (keeps_but keep item) state.uses) ≡ prefix ++ suffix
  new-nodes = ap (nodes_of layout) new-items ∙ nodes-append layout (filter keep a.before) (filter keep a.suffix)
