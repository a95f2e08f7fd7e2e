-- A live object that a handle names is doomed, and its parts are removed.
use Rattle.std.proofs.Common.{◌≡◌, ℕ, List, ◌∷◌, ◌++◌, sym, subst, Bool, true, Some}
use Rattle.std.specs.Prelude.{filter}
use Rattle.std.specs.List.Sorted.{IsPermutation}
use Rattle.std.proofs.lemmas.List.Sorted.{IsPermutation-append_right, IsPermutation-trans}
use Rattle.spec_image.specs.Image.{Image, Index, byte}
use Rattle.blk_model.proofs.Doomed.{state_doomed}
use Rattle.blk_model.specs.Effects.{doomed}
use Rattle.blk_model.specs.Items.{Item}
use Rattle.blk_model.specs.State.{State, Object, is_named}
use Rattle.spec_format.specs.Headers.{this_id_of}
use Rattle.law_folder.specs.CommandLaws.{IsPlacedAsLive}
use Rattle.spec_folder.specs.Layout.{Layout, nodes_of}
use Rattle.spec_folder.specs.Loads.{Loaded}
use Rattle.spec_folder.specs.Tidy.{doomed_nodes}
use Rattle.law_state.specs.Arranging.{IsArranged}
use Rattle.law_state.specs.GroupLaws.{at_without}
use Rattle.law_state.specs.Keeping.{AllAreSealed, AreMarkedBy, KeepsUncounted, all_loaded, all_nodes, words_in_use}
use Rattle.law_state.specs.WholeRemovals.{HeldWholeDoomsEnd, IsWholeUnchained, WholeObjectsAreDoomed, is_no_part_of, layout_doomed_whole, part_nodes, words_of_parts}
use Rattle.law_state.proofs.Arranging.{rearranged}
use Rattle.law_state.proofs.CommandEnding.{dooms-end}
use Rattle.law_state.proofs.DoomedPlaces as places
use Rattle.law_state.proofs.Groups as groups
use Rattle.law_state.proofs.Headers.{stand-same}
use Rattle.law_state.proofs.Touched.{words_at}

module _ (state : State) (layout : Layout) (unlinked : List ℕ) (number : ℕ) (object : Object) (l : Loaded) (chains : ℕ → List ℕ) (from image : Image) (k : KeepsUncounted state layout unlinked from) (lies : IsPlacedAsLive state layout number object l) (held : is_named state number ≡ true) (u : IsWholeUnchained state layout object.key l chains from image) where
  abbrev key : List ℕ
  key = object.key

  abbrev keep : Item → Bool
  keep = is_no_part_of key

  abbrev after : State
  after = doomed number state (Some object)

  abbrev now : Layout
  now = layout_doomed_whole state layout number key chains

  abbrev free_words : List ℕ
  free_words = words_of_parts state layout key ++ unlinked

  same-words : IsPermutation (words_in_use unlinked (all_loaded state layout k.numbers)) (words_in_use free_words (all_loaded after now (number ∷ k.numbers)))
  same-words = IsPermutation-trans (words_in_use unlinked (all_loaded state layout k.numbers)) (free_words ++ words_at (at_without layout (part_nodes state layout key)) (nodes_of layout (filter keep state.uses) ++ doomed_nodes layout k.numbers)) (words_in_use free_words (all_loaded after now (number ∷ k.numbers)))
      (subst (λ (ws : List ℕ). IsPermutation (words_in_use unlinked (all_loaded state layout k.numbers)) (free_words ++ ws)) (sym (groups.words-left state layout keep k.numbers k.represents.holds.lies k.owners)) (groups.all-words state layout unlinked keep from k))
      (IsPermutation-append_right free_words (words_at (at_without layout (part_nodes state layout key)) (nodes_of layout (filter keep state.uses) ++ doomed_nodes layout k.numbers)) (words_at (at_without layout (part_nodes state layout key)) (all_nodes after now (number ∷ k.numbers))) (places.moved-words state layout number object l chains k.numbers k.valid k.represents.holds.lies k.owners lies held))

  sealed : AllAreSealed image now
  sealed n x is = let p = groups.not-gone state layout keep k.numbers k.represents.holds.lies k.owners n x is in u.sealed n x p.1 p.0 (k.sealed n x p.1)

  arranged : IsArranged after now (number ∷ k.numbers) free_words image
  arranged = record {
    valid = state_doomed state k.valid number object lies.here lies.live;
    represents = places.represents-now state layout number object l chains k.numbers k.valid k.represents.holds.lies k.owners lies held image u.list u.holds u.loads u.chained u.out;
    owners = places.owners-now state layout number object l chains k.numbers k.valid k.represents.holds.lies k.owners lies held;
    unlinked_words = record { stand = stand-same from image u.leaves.headers free_words (groups.gone-stand state layout unlinked keep from k); free = groups.free state layout unlinked keep from k; single = groups.gone-single state layout unlinked keep from k };
    sealed = sealed;
    marked = subst (λ (id : ℕ). AreMarkedBy id after now) (sym u.leaves.session.id) (places.marked-now state layout number object l chains k.numbers k.valid k.represents.holds.lies k.owners lies held (this_id_of (byte from Index)) k.session.marked);
  }

  pub whole-doomed : KeepsUncounted after now free_words image
  whole-doomed = rearranged state after layout now unlinked free_words (number ∷ k.numbers) from image k u.leaves arranged same-words

pub whole-objects-doomed : WholeObjectsAreDoomed
whole-objects-doomed state layout unlinked chains from image number object loaded k lies held u = whole-doomed state layout unlinked number object loaded chains from image k lies held u

pub held-whole-dooms-end : HeldWholeDoomsEnd
held-whole-dooms-end state moment request layout unlinked chains from image number object loaded k passes is lies held u =
    subst (λ (m : State). KeepsUncounted m (layout_doomed_whole state layout number object.key chains) (words_of_parts state layout object.key ++ unlinked) image) (sym (dooms-end state moment request number object passes is lies.here))
    (whole-objects-doomed state layout unlinked chains from image number object loaded k lies held u)
