-- The record and the node of a new part are written at its places, whose words are unlinked.
use Rattle.std.proofs.Common.{◌≡◌, ℕ, List, ◌++◌, length, Result, Ok, Err, OnOk, sym, subst}
use Rattle.std.specs.Option.{ForSome}
use Rattle.spec_image.specs.Image.{Image, Index}
use Rattle.spec_image.specs.Told.{Passes, Told}
use Rattle.spec_image.proofs.Runs.{passes_end, passes_weaker}
use Rattle.blk_disk.specs.declared.tables.BlockFiles.{BlockFiles}
use Rattle.blk_disk.specs.Tables.{Agrees}
use Rattle.spec_folder.specs.Searches.{bucket_of_key}
use Rattle.spec_folder.specs.Sound.{words_of}
use Rattle.spec_folder.specs.View.{store_of}
use Rattle.blk_entry.specs.Writing.{AreWords, FitsKey, IsShownNew, IsWritten, WritesEntryInProgress, loaded_new}
use Rattle.law_state.specs.Changes.{KeepsWith, StillFinds}
use Rattle.law_state.proofs.Free.{then-found}
use Rattle.law_state.specs.Keeping.{KeepsUncounted}
use Rattle.blk_object.proofs.KeptEntries.{change-own, places-spare, writing-keeps}
use Rattle.blk_object.proofs.KeptNewEntries.{fresh, nobody}
use Rattle.blk_object.specs.Making.{words_of_places}
use Rattle.blk_object.specs.declared.making_places.Places.{Places}
use Rattle.blk_object.proofs.MakingStored.{index-counters}
use Rattle.blk_object.proofs.MakingWritten.{words-are}
use Rattle.blk_sparse.specs.NewParts.{IsChildWritten, child_entry}

-- what two clauses of an answer say
pub on-ok-both : {T E : Type 0} (r : Result T E) {P Q S : Type 0} → (P → Q → S) → OnOk r P → OnOk r Q → OnOk r S
on-ok-both {T} {E} (Ok x) {P} {Q} {S} all p q = all p q
on-ok-both {T} {E} (Err e) {P} {Q} {S} all p q = tt

-- whether the places fit a name isn't a matter of the next record
pub fits-child : (files : BlockFiles) (places : Places) (next : ℕ) (key : List ℕ) → FitsKey files (child_entry places 0) key → FitsKey files (child_entry places next) key
fits-child files places next key f = record { entry_kind = f.entry_kind; entry_stands = f.entry_stands; node_kind = f.node_kind; node_stands = f.node_stands; some = f.some; most = f.most; blocks = f.blocks; long = f.long }

module _ (b d : Told) (files : BlockFiles) (places : Places) (next : ℕ) (key : List ℕ) (fits : FitsKey files (child_entry places next) key) (words : AreWords (child_entry places next)) (agrees : ForSome b.files (Agrees files))
    (stops : ForSome b.files (λ from. Passes b d (WritesEntryInProgress (child_entry places next) (length key) from))) where
  words-same : words_of (loaded_new (child_entry places next) key) ≡ words_of_places places
  words-same = words-are places.node places.entry places.long_key files (length key) words.node words.entry fits.long

  pub writing-child : ForSome b.files (λ from. Passes b d (StillFinds (words_of_places places) from))
  writing-child from there =
      let ws : List ℕ = words_of_places places in
      let keeping : Passes b d (KeepsWith ws ws from) = subst (λ (xs : List ℕ). Passes b d (KeepsWith xs xs from)) words-same (writing-keeps files (child_entry places next) key b d fits words agrees stops from there) in
      let finds : (image : Image) → KeepsWith ws ws from image → StillFinds ws from image = λ image k. then-found ws ws from image k in
      passes_weaker keeping finds finds

  pub child-written : (moment : ℕ) → ForSome b.files (λ from. next ≡ (store_of from).table (bucket_of_key key)) → ForSome d.files (IsWritten (child_entry places next) key moment) → ForSome d.files (IsShownNew (child_entry places next) key moment)
      → ForSome b.files (λ from. ForSome d.files (IsChildWritten places key moment from))
  child-written moment follows written shown from there image now = record {
    next = next;
    follows = follows from there;
    words = words;
    written = written image now;
    shown = shown image now;
    change = change-own files (child_entry places next) key from image fits words (agrees from there) (passes_end (stops from there) image now);
    counters = index-counters from image (λ i. (passes_end (stops from there) image now).outside.bytes Index i ((places-spare (child_entry places next) (length key)).index i));
    apart = λ state layout unlinked k.
        let kept : KeepsUncounted state layout (words_of (loaded_new (child_entry places next) key) ++ unlinked) from = subst (λ (ws : List ℕ). KeepsUncounted state layout (ws ++ unlinked) from) (sym words-same) k in
        record {
          nobody = nobody files (child_entry places next) key moment state layout unlinked from image fits words (agrees from there) kept (passes_end (stops from there) image now);
          fresh = fresh files (child_entry places next) key moment state layout unlinked from image fits words (agrees from there) kept (passes_end (stops from there) image now);
        };
  }
