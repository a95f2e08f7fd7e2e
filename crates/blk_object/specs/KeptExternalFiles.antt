-- Lemmas from the contracts of `create` and `delete` to those of states that are kept.
use Rattle.std.specs.Prelude.{◌≡◌, ℕ, ◌+◌, ◌*◌, ◌<◌, List, [], ◌∷◌, length, None, true}
use Rattle.std.specs.Option.{ForSome}
use Rattle.spec_image.specs.Footprint.{whole}
use Rattle.spec_image.specs.Image.{Image}
use Rattle.spec_image.specs.Told.{Applies, Passes, Told}
use Rattle.blk_model.specs.Room.{items}
use Rattle.blk_model.specs.State.{State}
use Rattle.spec_format.specs.Address.{external, external_number, is_address, kind_of}
use Rattle.spec_format.specs.BlockFiles.{HasSoundHeaders, stands_in}
use Rattle.spec_folder.specs.Layout.{Layout}
use Rattle.blk_external.specs.Changes.{ChangesExternal}
use Rattle.blk_external.specs.Making.{Creates, CreatesInProgress, last_number, making}
use Rattle.blk_external.specs.Numbers.{HasFreeNumber, IsFirstFree, most_number, named_file}
use Rattle.law_state.specs.BoundLaws.{most_words}
use Rattle.law_state.specs.Changes.{AddsExternal, RemovesExternal, StillFinds}
use Rattle.law_state.specs.Keeping.{KeepsUncounted}

-- Creation.

-- precondition of `create`: a folder that keeps a state has a free external number, unless far more addresses are unlinked than any command has
abbrev pub KeptStatesHaveFreeNumbers : Type 0
KeptStatesHaveFreeNumbers = (state : State) (layout : Layout) (unlinked : List ℕ) (image : Image) → KeepsUncounted state layout unlinked image → most_words * items state + length unlinked < most_number → HasFreeNumber image

-- while an external file is created, recovery gives the durable contents of the state that was kept
abbrev pub CreationsFindTheSame : Type 0
CreationsFindTheSame = (old new : Told) → ForSome old.files HasFreeNumber → ForSome old.files (λ from. HasFreeNumber from → Passes old new (CreatesInProgress from)) → ForSome old.files (λ from. Passes old new (StillFinds [] from))

-- once the creation is done, the external file of address w is there, without bytes and unlinked
abbrev pub CreationsAdd : Type 0
CreationsAdd =
    (w : ℕ) (old new : Told) → is_address w ≡ true → kind_of w ≡ external → ForSome old.files HasSoundHeaders → ForSome old.files (λ image. IsFirstFree image (last_number image) (external_number w))
    → ForSome new.files (λ image. Creates image (external_number w)) → Applies old new (making (external_number w)) → ForSome old.files (λ from. ForSome new.files (AddsExternal from w))

-- Deletion.

-- while an unlinked external file is deleted or changed, recovery gives the durable contents of the state that was kept
abbrev pub DeletionsFindTheSame : Type 0
DeletionsFindTheSame =
    (w : ℕ) (old new : Told) → kind_of w ≡ external → ForSome old.files (λ from. Passes old new (ChangesExternal (whole (named_file w)) (external_number w) from))
    → ForSome old.files (λ from. Passes old new (StillFinds (w ∷ []) from))

-- once the external file of address w is deleted, it is removed from a folder that was well formed
abbrev pub DeletionsRemove : Type 0
DeletionsRemove =
    (w : ℕ) (old new : Told) → kind_of w ≡ external → ForSome old.files HasSoundHeaders → ForSome old.files (λ from. stands_in from w ≡ true)
    → ForSome old.files (λ from. Passes old new (ChangesExternal (whole (named_file w)) (external_number w) from)) → ForSome new.files (λ image. image (named_file w) ≡ None)
    → ForSome old.files (λ from. ForSome new.files (RemovesExternal from w))
