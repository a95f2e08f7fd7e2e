-- The laws of the invariant: what it gives, and which folders have it.
use Rattle.std.specs.Prelude.{◌≡◌, ◌≢◌, ℕ, List, [], true, IfSome, ◌&&◌}
use Rattle.blk_model.specs.State.{State, Bounds, IsValidState, object_at}
use Rattle.blk_model.specs.Holding.{open_state, rest}
use Rattle.spec_image.specs.Image.{Index, Image, byte}
use Rattle.spec_image.specs.Footprint.{SameOutside, one_word}
use Rattle.spec_format.specs.BlockFiles.{HasSoundHeaders}
use Rattle.spec_format.specs.Headers.{crash_of, index_magic, magic_of, this_id_of}
use Rattle.spec_folder.specs.View.{view_of}
use Rattle.spec_folder.specs.Found.{found, held}
use Rattle.spec_folder.specs.Layout.{Layout, Represents}
use Rattle.spec_folder.specs.Emptiness.{no_layout}
use Rattle.spec_folder.specs.Sound.{IsSound}
use Rattle.spec_folder.specs.StandsFor.{AllIsOwned, StandsFor}
use Rattle.spec_folder.specs.Tidy.{IsTidy}
use Rattle.law_folder.specs.BareLaws.{HasNoEntries}
use Rattle.law_state.specs.Keeping.{IsInSession, KeepsUncounted, Keeps}

-- what is held are the durable contents of the state that a folder keeps, whatever is unlinked or uncounted
abbrev pub KeptStatesAreHeld : Type 0
KeptStatesAreHeld = (state : State) (layout : Layout) (unlinked : List ℕ) (image : Image) → KeepsUncounted state layout unlinked image → held image ≡ rest state

-- a word of the index changes
abbrev pub ChangesWord : ℕ → Image → Image → Type 0
ChangesWord at from image = SameOutside (one_word Index at) from image

-- the magic word of an initialized index is there
abbrev pub HasMagic : Image → Type 0
HasMagic image = magic_of (byte image Index) ≡ index_magic

-- the durable contents of the state that a folder keeps are recovered where the index is initialized
abbrev pub KeptStatesAreFound : Type 0
KeptStatesAreFound = (state : State) (layout : Layout) (unlinked : List ℕ) (image : Image) → KeepsUncounted state layout unlinked image → HasMagic image → found image ≡ rest state

-- a folder that keeps a state with nothing unlinked represents it, where the index is initialized
abbrev pub KeptStatesAreStoodFor : Type 0
KeptStatesAreStoodFor = (state : State) (layout : Layout) (image : Image) → Keeps state layout [] image → HasMagic image → StandsFor image state

-- each object is live and clean
abbrev pub AllAreAtRest : State → Type 0
AllAreAtRest state = (number : ℕ) → IfSome (object_at state number) (λ object. (object.live && object.settled) ≡ true)

-- an initialized folder that keeps a state with nothing unlinked, in which each object is live and clean, is consistent
abbrev pub KeptStatesAreSound : Type 0
KeptStatesAreSound = (state : State) (layout : Layout) (image : Image) → Keeps state layout [] image → HasMagic image → AllAreAtRest state → IsSound image

-- a folder that keeps a state with nothing unlinked, in which each object is live and clean, ends consistent, with the durable contents of the state recovered,
-- once the crash word is cleared and then the magic word is written: so a folder can be filled before its index is initialized
abbrev pub KeptStatesEndSound : Type 0
KeptStatesEndSound = (state : State) (layout : Layout) (from between image : Image) → Keeps state layout [] from → AllAreAtRest state
    → ChangesWord 32 from between → ChangesWord 0 between image → HasMagic image → IsSound image × (found image ≡ rest state)

-- an empty cache, in which a session is open, keeps the empty state
abbrev pub FoldersWithoutEntriesKeepTheEmptyState : Type 0
FoldersWithoutEntriesKeepTheEmptyState = (image : Image) (limits : Bounds) → HasNoEntries image → crash_of (byte image Index) ≡ 1 → this_id_of (byte image Index) ≢ 0 → Keeps (open_state [] limits) no_layout [] image

-- How a session begins.

-- where a folder represents a state, with exact maps and all in order, and the number of the session and then the crash word are written, it keeps the state
abbrev pub OpenedFoldersKeepTheirState : Type 0
OpenedFoldersKeepTheirState = (from between image : Image) (state : State) (layout : Layout) (numbers : List ℕ) → IsValidState state → HasSoundHeaders from → Represents (view_of from) state layout → AllIsOwned from state layout numbers → IsTidy from state layout numbers
    → ChangesWord 20 from between → ChangesWord 32 between image → IsInSession image state layout → Keeps state layout [] image
