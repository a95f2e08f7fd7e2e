-- The entry of a new object is written at its places, whose words are unlinked.
use Rattle.std.proofs.Common.{◌≡◌, ℕ, ◌+◌, ◌%◌, List, [], ◌∷◌, ◌++◌, length, Option, None, Some, Result, Ok, Err, OnOk, refl, sym, ◌∙◌, ap, subst, arith, true, false, Bool}
use Rattle.std.specs.Prelude.{◌&&◌, ◌==◌, filter, not, unwrap_or}
use Rattle.std.specs.Option.{ForSome}
use Rattle.std.proofs.lemmas.Bool.{and_parts}
use Rattle.std.proofs.lemmas.Bool.Decides.{nat_tests}
use Rattle.spec_image.specs.Image.{Image, Index, byte}
use Rattle.spec_image.specs.Told.{Passes, Told}
use Rattle.spec_image.proofs.Runs.{passes_end, passes_weaker}
use Rattle.spec_format.specs.Address.{is_address, is_initialized}
use Rattle.spec_format.specs.Headers.{bucket_of, this_id_of}
use Rattle.spec_format.specs.Hash.{hash}
use Rattle.spec_format.specs.Records.{entry_normal}
use Rattle.spec_format.specs.Storage.{is_storage}
use Rattle.blk_disk.specs.declared.tables.BlockFiles.{BlockFiles}
use Rattle.blk_disk.specs.Tables.{Agrees}
use Rattle.spec_folder.specs.Loads.{load, unchained_rule}
use Rattle.spec_folder.specs.Searches.{bucket_of_key}
use Rattle.spec_folder.specs.Sound.{words_of}
use Rattle.spec_folder.specs.View.{store_of}
use Rattle.blk_entry.specs.Keys.{stores}
use Rattle.blk_entry.specs.Writing.{AreWords, FitsKey, IsLongPlace, IsShownNew, IsWritten, WritesEntryInProgress, loaded_new}
use Rattle.law_state.specs.Changes.{KeepsWith, SameCounters, StillFinds}
use Rattle.law_state.specs.Keeping.{KeepsUncounted}
use Rattle.law_state.proofs.Free.{then-found}
use Rattle.blk_object.proofs.KeptEntries.{places-spare, writing-keeps}
use Rattle.blk_object.proofs.KeptNewEntries.{written-new}
use Rattle.blk_object.specs.Making.{IsEntryOfKept, new_entry, new_loaded, long_word, words_of_places}
use Rattle.blk_object.specs.declared.making_places.Places.{Places}
use Rattle.blk_object.proofs.MakingRoom.{uses-few}
use Rattle.blk_object.proofs.MakingListed.{told-at}
use Rattle.blk_object.proofs.MakingStored.{index-counters}

-- ---- the words of an entry

no-zero : is_address 0 ≡ false
unfolding is_address is_initialized
no-zero = refl

-- an address isn't 0
pub some-address : (w : ℕ) → is_address w ≡ true → (w == 0) ≡ false
some-address w address = go (w == 0) refl where
  go : (t : Bool) → (w == 0) ≡ t → (w == 0) ≡ false
  go true e = absurd (let is : w ≡ 0 = grind (arith, nat_tests) in let z : false ≡ true = sym no-zero ∙ ap is_address (sym is) ∙ address in cc)
  go false e = e

-- what stores data of some bytes is an address
pub stored-address : (files : BlockFiles) (size w : ℕ) → stores files (size + 1) w ≡ true → is_address w ≡ true
unfolding stores is_storage
stored-address files size w e =
    let storage = (and_parts (is_storage (size + 1) w) _ e).0 in
    let some : (size + 1 == 0) ≡ false = grind (arith, nat_tests) in
    (and_parts (is_address w) _ (and_parts (is_address w && _) _ (rw some at storage)).0).0

pub words-are : (node entry : ℕ) (long_key : Option ℕ) (files : BlockFiles) (key_len : ℕ) → is_address node ≡ true → is_address entry ≡ true → IsLongPlace files key_len long_key → filter (λ w. not (w == 0)) (node ∷ entry ∷ unwrap_or long_key 0 ∷ 0 ∷ 0 ∷ 0 ∷ 0 ∷ []) ≡ node ∷ entry ∷ long_word long_key
words-are node entry None files key_len is_node is_entry place = let n = some-address node is_node in let e = some-address entry is_entry in rw (n, e) refl
words-are node entry (Some w) files key_len is_node is_entry place =
    let n = some-address node is_node in
    let e = some-address entry is_entry in
    let l = some-address w (stored-address files key_len w place.1) in
    rw (n, e, l) refl

-- ---- the entry

module _ (b d : Told) (files : BlockFiles) (places : Places) (mark next : ℕ) (key : List ℕ) (fits : FitsKey files (new_entry places mark next) key) (words : AreWords (new_entry places mark next)) (agrees : ForSome b.files (Agrees files))
    (stops : ForSome b.files (λ from. Passes b d (WritesEntryInProgress (new_entry places mark next) (length key) from))) where
  words-same : words_of (new_loaded places mark key) ≡ words_of_places places
  words-same = words-are places.node places.entry places.long_key files (length key) words.node words.entry fits.long

  keeping : ForSome b.files (λ from. Passes b d (KeepsWith (words_of_places places) (words_of_places places) from))
  keeping = subst (λ (ws : List ℕ). ForSome b.files (λ from. Passes b d (KeepsWith ws ws from))) words-same (writing-keeps files (new_entry places mark next) key b d fits words agrees stops)

  pub writing-finds : ForSome b.files (λ from. Passes b d (StillFinds (words_of_places places) from))
  writing-finds from there =
      let finds : (image : Image) → KeepsWith (words_of_places places) (words_of_places places) from image → StillFinds (words_of_places places) from image = λ image k. then-found (words_of_places places) (words_of_places places) from image k in
      passes_weaker (keeping from there) finds finds

  pub entry-written : (moment : ℕ) → ForSome b.files (λ from. next ≡ (store_of from).table (bucket_of_key key)) → ForSome d.files (IsWritten (new_entry places mark next) key moment) → ForSome d.files (IsShownNew (new_entry places mark next) key moment)
      → ForSome d.files (λ image. load (store_of image) (unchained_rule entry_normal) places.node ≡ Ok (loaded_new (new_entry places mark next) key)) → ForSome b.files (λ from. ForSome d.files (IsEntryOfKept places mark key from))
  entry-written moment follows written shown loads from there image now state layout unlinked handle k can session =
      let here : ForSome b.files (KeepsUncounted state layout (words_of (loaded_new (new_entry places mark next) key) ++ unlinked)) =
      told-at (KeepsUncounted state layout (words_of (loaded_new (new_entry places mark next) key) ++ unlinked)) b.files from there (subst (λ (ws : List ℕ). KeepsUncounted state layout (ws ++ unlinked) from) (sym words-same) k) in
      let few = can.few in
      let short = uses-few state layout (words_of_places places ++ unlinked) from k in
      record {
        kept = subst (λ (ws : List ℕ). KeepsUncounted state layout (ws ++ unlinked) image) (sym words-same) (passes_end (keeping from there) image now state layout unlinked k);
        entry = written-new files (new_entry places mark next) key moment state layout unlinked b d fits words agrees here (omega (arith, few, short)) can.missing (told-at (λ (i : Image). mark ≡ this_id_of (byte i Index)) b.files from there (sym session)) follows stops written shown loads from there image now;
        valid = can.valid;
      }

  pub writing-counts : ForSome b.files (λ from. ForSome d.files (SameCounters from))
  writing-counts from there image now = index-counters from image (λ i. (passes_end (stops from there) image now).outside.bytes Index i ((places-spare (new_entry places mark next) (length key)).index i))

-- the word of a bucket is that of the table
pub bucket-is : (image : Image) (key : List ℕ) (h n next : ℕ) → h ≡ hash key → n ≡ h % 65536 → next ≡ bucket_of (byte image Index) n → next ≡ (store_of image).table (bucket_of_key key)
unfolding store_of
bucket-is image key h n next hashed is read = read ∙ ap (λ (x : ℕ). bucket_of (byte image Index) x) (is ∙ ap (λ (x : ℕ). x % 65536) hashed)

-- whether the places fit a key isn't a matter of the next record
pub fits-next : (files : BlockFiles) (places : Places) (mark next : ℕ) (key : List ℕ) → FitsKey files (new_entry places mark 0) key → FitsKey files (new_entry places mark next) key
fits-next files places mark next key f = record { entry_kind = f.entry_kind; entry_stands = f.entry_stands; node_kind = f.node_kind; node_stands = f.node_stands; some = f.some; most = f.most; blocks = f.blocks; long = f.long }

-- what three clauses of an answer say
pub on-ok-three : {T E : Type 0} (r : Result T E) {P Q R S : Type 0} → (P → Q → R → S) → OnOk r P → OnOk r Q → OnOk r R → OnOk r S
on-ok-three {T} {E} (Ok x) {P} {Q} {R} {S} all p q r = all p q r
on-ok-three {T} {E} (Err e) {P} {Q} {R} {S} all p q r = tt
