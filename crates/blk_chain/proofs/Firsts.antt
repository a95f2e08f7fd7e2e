-- The first record of a chain taken out, in bytes.
use Rattle.std.proofs.Common.{◌≡◌, ℕ, ◌+◌, ◌%◌, ◌^◌, ◌<◌, Bool, List, ◌∷◌, Option, Some, None, refl, sym, ◌∙◌, ap, ap₂, subst}
use Rattle.std.specs.Prelude.{◌↔◌}
use Rattle.std.specs.Option.{ForSome}
use Rattle.spec_image.specs.Image.{AreBytes, Index, Block, Image, byte, length_of, word}
use Rattle.spec_image.specs.Steps.{after, word_step}
use Rattle.spec_image.specs.Told.{Told, TellsBytes, Applies, AppliesPrefix, Commits}
use Rattle.spec_image.proofs.Footprints.{outside-refl}
use Rattle.spec_image.proofs.Runs.{some_inj, told_whole}
use Rattle.spec_image.proofs.Words.{word-fits}
use Rattle.spec_image.proofs.WordSteps.{quiet-word_step}
use Rattle.spec_format.specs.Address.{file_selector, place}
use Rattle.spec_format.specs.Records.{entry_in}
use Rattle.spec_format.specs.Headers.{place_of_bucket}
use Rattle.spec_format.proofs.Finished.{headers-kept}
use Rattle.spec_format.proofs.Buckets.{bucket-quiet}
use Rattle.spec_folder.specs.ListView.{put}
use Rattle.spec_folder.specs.View.{StoreView, RecordFields, store_of}
use Rattle.spec_folder.specs.Chains.{chain, IsChain, bucket_at}
use Rattle.law_folder.proofs.chains.ChainLinks.{first-leaves, others-stay}
use Rattle.law_folder.proofs.states.Changing.{at-itself}
use Rattle.law_folder.specs.IndexWrites.{IsIndexWord}
use Rattle.law_folder.proofs.updates.IndexWords.{buckets-written, buckets-unchecked}
use Rattle.blk_disk.specs.declared.tables.BlockFiles.{BlockFiles}
use Rattle.blk_disk.specs.Tables.{Agrees}
use Rattle.spec_folder.specs.Entries.{stored_key}
use Rattle.spec_folder.specs.Searches.{HasKey}
use Rattle.blk_chain.specs.Linking.{chained_with, place_of_front}
use Rattle.blk_chain.specs.Unlinking.{CanBeUnlinked, IsStillLinked, IsUnlinked, next_record, unlink_range, unlink_steps}
use Rattle.blk_chain.proofs.Links.{bucket_read, front_inside, index_agrees, index_word}
use Rattle.law_folder.proofs.chains.ChainWords.{IsShownOf, shown-of, shown-chain_next}
use Rattle.spec_image.proofs.Commits.{commits_none, commits_prefix, commits_word}
use Rattle.blk_chain.proofs.Unlinks.{next_read}

-- no key is read in the table
key-still : (store : StoreView) (table : ℕ → ℕ) (w : ℕ) (fields : RecordFields) → stored_key (record store { table = table }) w fields ≡ stored_key store w fields
unfolding stored_key
key-still store table w fields = refl

pub named-table : (store : StoreView) (table : ℕ → ℕ) (name : List ℕ) (is_child : Bool) (w : ℕ) → HasKey store name is_child w ↔ HasKey (record store { table = table }) name is_child w
named-table store table name is_child w = (
  λ named. record { fields = named.fields; here = named.here; hashed = named.hashed; key = key-still store table w named.fields ∙ named.key; flag = named.flag },
  λ named. record { fields = named.fields; here = named.here; hashed = named.hashed; key = sym (key-still store table w named.fields) ∙ named.key; flag = named.flag },
)

-- nothing has changed
pub unchanged : (from : Image) (entry : ℕ) (before : Option ℕ) → IsStillLinked from entry before from
unchanged from entry before = record {
  keeps = record { list = refl; records = λ w. refl; names = λ w name is_child apart. (λ named. named, λ named. named); headers = headers-kept from; outside = outside-refl (unlink_range from entry before) from };
  chains = λ bucket. refl;
}

module _ (from : Image) (entry : ℕ) (can : CanBeUnlinked entry None from) where
  -- the chain without its first record
  chain-behind : (suffix : List ℕ) → chained_with from entry ≡ entry ∷ suffix → IsChain (record (store_of from) { table = put (store_of from).table (bucket_at from entry) (next_record from entry) }) (bucket_at from entry) suffix
  chain-behind suffix is =
      let v = store_of from in
      let b : ℕ = bucket_at from entry in
      let was : IsChain v b (entry ∷ suffix) = subst (λ (ws : List ℕ). IsChain v b ws) is can.whole in
      let shown : IsShownOf v b entry = shown-of v b entry was.linked.1 in
      first-leaves v (record v { table = put v.table b (next_record from entry) }) b entry suffix (λ w among. (refl, refl)) (at-itself v.table b (next_record from entry) ∙ sym (shown-chain_next from entry shown.fields shown.here)) was

  -- the word of the bucket is its next
  pub first_unlinked : (image : Image) → IsIndexWord (place_of_front from entry) (next_record from entry) from image → IsUnlinked from entry None image
  first_unlinked image is =
      let b : ℕ = bucket_at from entry in
      let w = buckets-written from image b (next_record from entry) is in
      record {
        keeps = record { list = w.0; records = λ u. ap (λ (s : StoreView). s.entry u) w.1; names = λ u name is_child apart. subst (λ (s : StoreView). HasKey (store_of from) name is_child u ↔ HasKey s name is_child u) (sym w.1) (named-table (store_of from) (put (store_of from).table b (next_record from entry)) name is_child u); headers = buckets-unchecked from image b is.outside; outside = is.outside };
        chain_now = λ prefix suffix stands. subst (λ (s : StoreView). IsChain s b suffix) (sym w.1) (chain-behind suffix stands.1);
        others = λ other e. ap (λ (s : StoreView). chain s other) w.1 ∙ others-stay (store_of from) b other (next_record from entry) e;
        links = w.1;
      }

next_small : (from : Image) (entry : ℕ) → AreBytes from → next_record from entry < 2 ^ 32
unfolding entry_in
next_small from entry bytes = word-fits (byte from (Block (file_selector entry))) (bytes (Block (file_selector entry))) (place entry + 4)

-- what the write of the bucket's word leaves, made or not
pub record IsTaken (files : BlockFiles) (entry : ℕ) (a b : Told) : Type 0 where
  pub part : ForSome a.files (λ from. AppliesPrefix a b (unlink_steps from entry None))
  pub commits : ForSome a.files (λ from. CanBeUnlinked entry None from → Commits 1 a b (IsStillLinked from entry None) (IsUnlinked from entry None))
  pub agrees : ForSome b.files (Agrees files)

-- before the write
pub first_turns_yet : (a b : Told) (entry : ℕ) → b ≡ a → ForSome a.files (λ from. CanBeUnlinked entry None from → Commits 1 a b (IsStillLinked from entry None) (IsUnlinked from entry None))
first_turns_yet a b entry stays from there can = commits_none 0 a b from (IsStillLinked from entry None) (IsUnlinked from entry None) there stays (unchanged from entry None)

module _ (files : BlockFiles) (a b : Told) (entry hash next : ℕ) (tells : TellsBytes a) (agrees : ForSome a.files (Agrees files)) (complete : ForSome a.files (λ image. length_of image Index ≡ 262512))
    (read : ForSome a.files (λ image. next ≡ word image (Block (file_selector entry)) (place entry + 4)))
    (first : Told) (once : first ≡ a) (reads : ForSome first.files (λ image. hash ≡ word image (Block (file_selector entry)) (place entry + 0))) (second : Told) (twice : second ≡ first) where
  steps-are : (from : Image) → a.files ≡ Some from → word_step Index (place_of_bucket (hash % 65536)) next ≡ unlink_steps from entry None
  steps-are from there =
      let bucket : hash % 65536 ≡ bucket_at from entry = bucket_read from entry hash (hash % 65536) (subst (λ (t : Told). ForSome t.files (λ image. hash ≡ word image (Block (file_selector entry)) (place entry + 0))) once reads from there) refl in
      ap₂ (λ (n x : ℕ). word_step Index (place_of_bucket n) x) bucket (next_read from entry next (read from there))

  after-first : (from : Image) → a.files ≡ Some from → CanBeUnlinked entry None from → IsUnlinked from entry None (after (unlink_steps from entry None) from)
  after-first from there can = first_unlinked from entry can (after (unlink_steps from entry None) from) (index_word from (place_of_front from entry) (next_record from entry) (next_small from entry (tells from there)) (front_inside from entry (complete from there)))

  pub first_left : AppliesPrefix second b (word_step Index (place_of_bucket (hash % 65536)) next) → IsTaken files entry a b
  first_left made =
      let here : AppliesPrefix a b (word_step Index (place_of_bucket (hash % 65536)) next) = subst (λ (t : Told). AppliesPrefix t b (word_step Index (place_of_bucket (hash % 65536)) next)) (twice ∙ once) made in
      let mine : ForSome a.files (λ from. AppliesPrefix a b (unlink_steps from entry None)) = (λ from there. subst (AppliesPrefix a b) (steps-are from there) here) in
      record {
        part = mine;
        commits = λ from there can.
            commits_prefix 1 a b from (IsStillLinked from entry None) (IsUnlinked from entry None) (unlink_steps from entry None) there (quiet-word_step Index (place_of_front from entry) (next_record from entry) (bucket-quiet (bucket_at from entry) (next_record from entry)))
            (commits_word (IsStillLinked from entry None) (IsUnlinked from entry None) Index (place_of_front from entry) (next_record from entry) from (unchanged from entry None) (after-first from there can)) (mine from there);
        agrees = index_agrees files a b (place_of_bucket (hash % 65536)) next here agrees;
      }

  pub first_whole : Applies second b (word_step Index (place_of_bucket (hash % 65536)) next) → ForSome a.files (λ from. Applies a b (unlink_steps from entry None))
  first_whole made from there = subst (Applies a b) (steps-are from there) (subst (λ (t : Told). Applies t b (word_step Index (place_of_bucket (hash % 65536)) next)) (twice ∙ once) made)

  pub first_done : Applies second b (word_step Index (place_of_bucket (hash % 65536)) next) → ForSome a.files (λ from. CanBeUnlinked entry None from → ForSome b.files (IsUnlinked from entry None))
  first_done made from there can =
      told_whole (IsUnlinked from entry None) (first_whole made from there) (λ image now. subst (λ (i : Image). IsUnlinked from entry None (after (unlink_steps from entry None) i)) (some_inj (sym there ∙ now)) (after-first from there can))
