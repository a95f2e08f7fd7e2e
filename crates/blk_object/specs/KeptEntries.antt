-- Lemmas from the contract of `write_entry` to those of states that are kept.
use Rattle.std.specs.Prelude.{◌≡◌, ℕ, ◌<◌, List, ◌++◌, length, None, Ok}
use Rattle.std.specs.Option.{ForSome}
use Rattle.spec_image.specs.Image.{Image, Index, byte}
use Rattle.spec_image.specs.Told.{Passes, Told}
use Rattle.blk_model.specs.Holding.{owner}
use Rattle.blk_model.specs.Items.{main}
use Rattle.blk_model.specs.State.{State}
use Rattle.blk_disk.specs.declared.tables.BlockFiles.{BlockFiles}
use Rattle.blk_disk.specs.Tables.{Agrees}
use Rattle.spec_format.specs.Claims.{has_claim}
use Rattle.spec_format.specs.Headers.{this_id_of}
use Rattle.spec_format.specs.Records.{entry_normal}
use Rattle.spec_folder.specs.Layout.{Layout}
use Rattle.spec_folder.specs.ListView.{most_nodes}
use Rattle.spec_folder.specs.Loads.{all_claims, load, unchained_rule}
use Rattle.spec_folder.specs.Searches.{bucket_of_key}
use Rattle.spec_folder.specs.Sound.{words_of}
use Rattle.spec_folder.specs.View.{store_of}
use Rattle.blk_entry.specs.declared.writing.NewEntry.{NewEntry}
use Rattle.blk_entry.specs.Writing.{AreWords, FitsKey, IsShownNew, IsWritten, WritesEntryInProgress, loaded_new}
use Rattle.law_state.specs.Changes.{ChangesOnly, KeepsWith}
use Rattle.law_state.specs.Keeping.{KeepsUncounted}
use Rattle.law_state.specs.NewEntryLaws.{IsNewEntryOf}

-- while a new entry is written, nothing changes but the blocks and files of its own addresses
abbrev pub NewEntriesChangeTheirOwn : Type 0
NewEntriesChangeTheirOwn =
    (files : BlockFiles) (new : NewEntry) (key : List ℕ) (from image : Image) → FitsKey files new key → AreWords new → Agrees files from → WritesEntryInProgress new (length key) from image
    → ChangesOnly (has_claim (all_claims (loaded_new new key))) from image

-- a state that is kept with the new entry's addresses unlinked is kept so after each write of the entry
abbrev pub WritingEntriesKeepsStates : Type 0
WritingEntriesKeepsStates =
    (files : BlockFiles) (new : NewEntry) (key : List ℕ) (old now : Told) → FitsKey files new key → AreWords new → ForSome old.files (Agrees files)
    → ForSome old.files (λ from. Passes old now (WritesEntryInProgress new (length key) from))
    → ForSome old.files (λ from. Passes old now (KeepsWith (words_of (loaded_new new key)) (words_of (loaded_new new key)) from))

-- once a plain entry is written, it is a new entry for each state that was kept with its addresses unlinked, has no live object of its key and has space in its
-- list; its dirty flag has to be the session's number, and its next the head of its bucket
abbrev pub WrittenEntriesAreNew : Type 0
WrittenEntriesAreNew =
    (files : BlockFiles) (new : NewEntry) (key : List ℕ) (moment : ℕ) (state : State) (layout : Layout) (unlinked : List ℕ) (old now : Told) → FitsKey files new key → AreWords new → ForSome old.files (Agrees files)
    → ForSome old.files (KeepsUncounted state layout (words_of (loaded_new new key) ++ unlinked)) → length state.uses < most_nodes → owner state (main key) ≡ None
    → ForSome old.files (λ from. new.dirty ≡ this_id_of (byte from Index)) → ForSome old.files (λ from. new.next ≡ (store_of from).table (bucket_of_key key))
    → ForSome old.files (λ from. Passes old now (WritesEntryInProgress new (length key) from)) → ForSome now.files (IsWritten new key moment) → ForSome now.files (IsShownNew new key moment)
    → ForSome now.files (λ image. load (store_of image) (unchained_rule entry_normal) new.node ≡ Ok (loaded_new new key))
    → ForSome old.files (λ from. ForSome now.files (IsNewEntryOf state layout key (loaded_new new key)))
