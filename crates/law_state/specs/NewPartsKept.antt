-- A part that is made in a folder that keeps a state: what is found at each word, and what is kept in the end.
use Rattle.std.specs.Prelude.{◌≡◌, ℕ, List, ◌∷◌, ◌++◌, false, if◌then◌else◌, nat_lt, slice_set, true}
use Rattle.std.specs.declared.option.Option.{Option}
use Rattle.std.specs.declared.option.Option.TheVariants.{Some}
use Rattle.std.specs.declared.result.Result.TheVariants.{Ok}
use Rattle.blk_model.specs.Holding.{rest}
use Rattle.blk_model.specs.Items.{PartValue, main, part}
use Rattle.blk_model.specs.State.{Object, State, object_at}
use Rattle.blk_model.specs.Totals.{is_doomed_slot}
use Rattle.spec_image.specs.Image.{Image}
use Rattle.spec_format.specs.BlockFiles.{HasSoundHeaders}
use Rattle.spec_folder.specs.Completion.{insert}
use Rattle.spec_folder.specs.Creation.{with_first}
use Rattle.spec_folder.specs.Layout.{Layout, order, rule_of}
use Rattle.spec_folder.specs.ListImages.{HasListAtRest}
use Rattle.spec_folder.specs.ListPlans.{writes_of}
use Rattle.spec_folder.specs.ListSteps.{IsPartly}
use Rattle.spec_folder.specs.Loads.{Loaded, load}
use Rattle.spec_folder.specs.Sound.{AreSealed, words_of}
use Rattle.spec_folder.specs.View.{list_of, store_of, view_of}
use Rattle.law_state.specs.Arranging.{LeavesFiles}
use Rattle.law_state.specs.Changes.{Finds}
use Rattle.law_state.specs.Keeping.{KeepsUncounted}
use Rattle.law_state.specs.NewPartLaws.{IsMidPart, IsPartWritten, with_new_part}
use Rattle.law_state.specs.PartStates.{with_value}

-- at each word of the insert of the part's node the old durable contents are held, and from the second write on the durable contents with the part, which
-- are the same while its object is dirty
abbrev pub PartInsertsFindEither : Type 0
PartInsertsFindEither = (state : State) (objects : List (Option Object)) (layout : Layout) (unlinked key : List ℕ) (n : ℕ) (was seen loaded : Loaded) (from image : Image) → KeepsUncounted state layout unlinked from → IsPartWritten (view_of from) state objects layout key n was seen loaded
    → (partly : IsPartly from (writes_of insert loaded.node (list_of from)) image) → Finds (if nat_lt partly.made 2 then rest state else rest (with_first state objects (part key n))) image

-- a part is being made: its node is in the list, and all nodes but the part's and its parent's are as they were, with these chains
pub record IsMakingPart (state : State) (layout : Layout) (key : List ℕ) (loaded : Loaded) (chains : ℕ → List ℕ) (image : Image) : Type 0 where
  pub sound : HasSoundHeaders image
  pub list : HasListAtRest (loaded.node ∷ order state layout) image
  pub others : IsMidPart (store_of image) layout key loaded chains

-- once a new part's node is in the list, the durable contents with the part are held, while its record is linked and its parent's bit set
abbrev pub MakingPartsFindsTheNext : Type 0
MakingPartsFindsTheNext =
    (state : State) (objects : List (Option Object)) (layout : Layout) (unlinked key : List ℕ) (n : ℕ) (was seen loaded : Loaded) (chains : ℕ → List ℕ) (from image : Image)
    → KeepsUncounted state layout unlinked from → IsPartWritten (view_of from) state objects layout key n was seen loaded
    → IsMakingPart state layout key loaded chains image → Finds (rest (with_first state objects (part key n))) image

-- other objects for a state: the same slots have a doomed object, and each live object that is dirty was live and dirty, with this key
pub record KeepsUnsettled (state : State) (objects : List (Option Object)) : Type 0 where
  pub dead : (number : ℕ) → is_doomed_slot (object_at (record state { objects = objects }) number) ≡ is_doomed_slot (object_at state number)
  pub unsettled : (number : ℕ) (object : Object) → object_at (record state { objects = objects }) number ≡ Some object → object.live ≡ true → object.settled ≡ false
      → (was : Object) × (object_at state number ≡ Some was) × (was.key ≡ object.key) × (was.live ≡ true) × (was.settled ≡ false)

-- a value for a part of one object dooms no object and makes none dirty
abbrev pub PartValuesKeepUnsettled : Type 0
PartValuesKeepUnsettled = (state : State) (number : ℕ) (object : Object) (n : ℕ) (value : PartValue) → object_at state number ≡ Some object → KeepsUnsettled state (slice_set state.objects number (Some (with_value object n value)))

-- a part is made: its record is in front of its chain, its parent has its bit and the words that it had, both have their checksums, and nothing else changed
pub record IsPartMade (state : State) (layout : Layout) (key : List ℕ) (n : ℕ) (was seen loaded : Loaded) (from image : Image) : Type 0 where
  pub leaves : LeavesFiles from image
  pub list : HasListAtRest (loaded.node ∷ order state layout) image
  pub others : IsMidPart (store_of image) layout key loaded (with_new_part layout key n seen loaded).chains
  pub sees : load (store_of image) (rule_of layout (layout.place (main key))) (layout.place (main key)) ≡ Ok seen
  pub words : words_of seen ≡ words_of was
  pub part_sealed : AreSealed image loaded
  pub parent_sealed : AreSealed image seen
  pub sealed : (node : ℕ) (other : Loaded) → layout.at node ≡ Some other → AreSealed from other → AreSealed image other

-- once a part is made, the state with the part is kept, and its words are unlinked no longer
abbrev pub NewPartsAreKept : Type 0
NewPartsAreKept =
    (state : State) (objects : List (Option Object)) (layout : Layout) (unlinked key : List ℕ) (n : ℕ) (was seen loaded : Loaded) (from image : Image)
    → KeepsUncounted state layout (words_of loaded ++ unlinked) from → IsPartWritten (view_of from) state objects layout key n was seen loaded
    → KeepsUnsettled state objects → IsPartMade state layout key n was seen loaded from image → KeepsUncounted (with_first state objects (part key n)) (with_new_part layout key n seen loaded) unlinked image
