-- A record linked at the head of its chain, in bytes.
use Rattle.std.proofs.Common.{◌≡◌, ⊎_elim, ℕ, ◌+◌, ◌%◌, ◌^◌, ◌<◌, ◌≤◌, true, false, ◌∷◌, map, Some, refl, sym, ◌∙◌, ap, subst, arith}
use Rattle.std.specs.Prelude.{◌==◌, ◌||◌, ◌/◌}
use Rattle.std.specs.Option.{ForSome}
use Rattle.std.proofs.lemmas.Bool.{and_parts, cases_Bool, eq-eqb, eqb-true}
use Rattle.spec_image.specs.Bytes.{content, word_at, word_bytes}
use Rattle.spec_image.specs.Image.{Index, Block, Image, bytes_of, length_of, word, word as word_of}
use Rattle.spec_image.specs.Footprint.{one_word}
use Rattle.spec_image.specs.Steps.{after, word_step}
use Rattle.spec_image.specs.Told.{Told, Applies, AppliesPrefix, Commits}
use Rattle.spec_image.proofs.Footprints.{outside_write}
use Rattle.spec_image.proofs.Images.{bytes_of-written}
use Rattle.spec_image.proofs.Runs.{some_inj, told_part, told_whole}
use Rattle.spec_image.proofs.Words.{word-written}
use Rattle.spec_image.proofs.WordSteps.{quiet-word_step}
use Rattle.spec_format.specs.Address.{file_selector, is_address, is_initialized, names_blocks, names_external, place}
use Rattle.spec_format.specs.Records.{entry_in}
use Rattle.spec_format.specs.Headers.{place_of_bucket}
use Rattle.spec_format.specs.BlockFiles.{is_among}
use Rattle.spec_folder.specs.View.{StoreView, RecordFields, store_of}
use Rattle.spec_folder.specs.Chains.{bucket_of_hash, chain, file_and_block, is_of_bucket, IsChain, bucket_at}
use Rattle.law_folder.proofs.chains.ChainLinks.{linked-front, others-stay}
use Rattle.law_folder.specs.IndexWrites.{IsIndexWord}
use Rattle.law_folder.proofs.updates.IndexWords.{buckets-written, buckets-unchecked}
use Rattle.blk_disk.specs.declared.tables.BlockFiles.{BlockFiles}
use Rattle.blk_disk.specs.Tables.{Agrees}
use Rattle.spec_format.proofs.SpareHeaders.{SparesHeaders}
use Rattle.spec_format.proofs.Buckets.{bucket-quiet}
use Rattle.blk_disk.proofs.Agreeing.{agrees_still}
use Rattle.blk_chain.specs.Linking.{chained_with, place_of_front, CanBeLinked, link_front_steps, IsLinkedInFront}
use Rattle.spec_image.proofs.Commits.{commits_none, commits_prefix, commits_word}
use Rattle.law_folder.proofs.chains.ChainWords.{shown-fields, shown-of}
use Rattle.blk_chain.proofs.Names.{same-name}
use Rattle.blk_chain.proofs.Words.{linked-good, WithFirstBlock, with_first_block}

-- one word of the index is written
pub index_word : (from : Image) (at x : ℕ) → x < 2 ^ 32 → at + 4 ≤ length_of from Index → IsIndexWord at x from (after (word_step Index at x) from)
unfolding word_step
index_word from at x small inside = record {
  there = ap (λ b. word_at (content b) at) (bytes_of-written from Index at (word_bytes x)) ∙ word-written at x (bytes_of from Index) small inside;
  outside = outside_write Index at (word_bytes x) from;
}

-- no header of a block file has a word of the index
pub index_spares : (at : ℕ) → SparesHeaders (one_word Index at)
index_spares at = record { bytes = λ n i small. refl }

-- a record of the bucket, by its fields
core-of-bucket : (store : StoreView) (b w : ℕ) (fields : RecordFields) → store.entry w ≡ Some fields → fields.checks ≡ true → bucket_of_hash fields.hash ≡ b → is_of_bucket store b w ≡ true
core-of-bucket store b w fields here good is = rw (here, good) (eq-eqb (bucket_of_hash fields.hash) b is)

module _ (from : Image) (entry : ℕ) (can : CanBeLinked entry from) where
  in_bucket : is_of_bucket (store_of from) (bucket_at from entry) entry ≡ true
  in_bucket = core-of-bucket (store_of from) (bucket_at from entry) entry can.fields can.here can.good (ap (λ (c : RecordFields). bucket_of_hash c.hash) (sym (shown-fields from entry can.fields can.here)))

  -- no record of the chain has its first block, since it would have its name
  apart : is_among (map file_and_block (chained_with from entry)) (file_and_block entry) ≡ false
  apart =
      ⊎_elim
      (λ (e : is_among (map file_and_block (chained_with from entry)) (file_and_block entry) ≡ true). absurd (never (with_first_block (chained_with from entry) (file_and_block entry) e)))
      (λ (e : is_among (map file_and_block (chained_with from entry)) (file_and_block entry) ≡ false). e)
      (cases_Bool (is_among (map file_and_block (chained_with from entry)) (file_and_block entry)))
    where
      never : WithFirstBlock (chained_with from entry) (file_and_block entry) → ⊥
      never other =
          let shown = shown-of (store_of from) (bucket_at from entry) other.word (linked-good (store_of from) (bucket_at from entry) ((store_of from).table (bucket_at from entry)) (chained_with from entry) other.word can.whole.linked other.among) in
          can.fresh other.word other.among (same-name from entry other.word can.fields shown.fields can.here shown.here (sym other.has) can.key (can.fields.flags == 2) can.has_key)

  pub linked_at : (image : Image) → IsIndexWord (place_of_front from entry) entry from image → IsLinkedInFront from entry image
  linked_at image is =
      let b : ℕ = bucket_at from entry in
      let w = buckets-written from image b entry is in
      record {
        list = w.0;
        store = w.1;
        chain_now = subst (λ (s : StoreView). IsChain s b (entry ∷ chained_with from entry)) (sym w.1) (linked-front (store_of from) b entry (chained_with from entry) can.whole in_bucket can.next apart);
        others = λ other e. ap (λ (s : StoreView). chain s other) w.1 ∙ others-stay (store_of from) b other entry e;
        headers = buckets-unchecked from image b is.outside;
        outside = is.outside;
      }

-- the bucket of a record by the hash that was read
pub bucket_read : (image : Image) (entry hash n : ℕ) → hash ≡ word image (Block (file_selector entry)) (place entry + 0) → n ≡ hash % 65536 → n ≡ bucket_at image entry
unfolding entry_in
bucket_read image entry hash n read is =
    let at : place entry + 0 ≡ place entry = omega arith in
    is ∙ ap (λ (h : ℕ). h % 65536) (read ∙ ap (λ (i : ℕ). word image (Block (file_selector entry)) i) at)

-- the bucket's word lies in the index
pub front_inside : (from : Image) (entry : ℕ) → length_of from Index ≡ 262512 → place_of_front from entry + 4 ≤ length_of from Index
front_inside from entry complete = omega (arith, complete)

-- a word of the index leaves what the block files agree with
pub index_agrees : (files : BlockFiles) (a b : Told) (at x : ℕ) → AppliesPrefix a b (word_step Index at x) → ForSome a.files (Agrees files) → ForSome b.files (Agrees files)
unfolding word_step
index_agrees files a b at x part agrees =
    told_part (Agrees files) part
    (λ image there. (agrees image there, agrees_still (one_word Index at) image (after (word_step Index at x) image) (index_spares at) (outside_write Index at (word_bytes x) image) files (λ n. refl) (agrees image there)))

-- the write of the word of the bucket that was read
module _ (a b : Told) (entry n : ℕ) (read : ForSome a.files (λ from. n ≡ bucket_at from entry)) where
  pub link_part : AppliesPrefix a b (word_step Index (place_of_bucket n) entry) → ForSome a.files (λ from. AppliesPrefix a b (link_front_steps from entry))
  link_part part from there = subst (λ (m : ℕ). AppliesPrefix a b (word_step Index (place_of_bucket m) entry)) (read from there) part

  pub link_whole : Applies a b (word_step Index (place_of_bucket n) entry) → ForSome a.files (λ from. Applies a b (link_front_steps from entry))
  link_whole whole from there = subst (λ (m : ℕ). Applies a b (word_step Index (place_of_bucket m) entry)) (read from there) whole

  module _ (small : entry < 2 ^ 32) (complete : ForSome a.files (λ image. length_of image Index ≡ 262512)) where
    after_link : (from : Image) → a.files ≡ Some from → CanBeLinked entry from → IsLinkedInFront from entry (after (link_front_steps from entry) from)
    after_link from there can = linked_at from entry can (after (link_front_steps from entry) from) (index_word from (place_of_front from entry) entry small (front_inside from entry (complete from there)))

    pub link_turns : AppliesPrefix a b (word_step Index (place_of_bucket n) entry) → ForSome a.files (λ from. CanBeLinked entry from → Commits 1 a b (λ image. image ≡ from) (IsLinkedInFront from entry))
    link_turns part from there can =
        let P : Image → Type 0 = (λ image. image ≡ from) in
        commits_prefix 1 a b from P (IsLinkedInFront from entry) (link_front_steps from entry) there (quiet-word_step Index (place_of_front from entry) entry (bucket-quiet (bucket_at from entry) entry))
        (commits_word P (IsLinkedInFront from entry) Index (place_of_front from entry) entry from refl (after_link from there can)) (link_part part from there)

    pub link_done : Applies a b (word_step Index (place_of_bucket n) entry) → ForSome a.files (λ from. CanBeLinked entry from → ForSome b.files (IsLinkedInFront from entry))
    link_done whole from there can =
        told_whole (IsLinkedInFront from entry) (link_whole whole from there)
        (λ image here. subst (λ (i : Image). IsLinkedInFront from entry (after (link_front_steps from entry) i)) (some_inj (sym there ∙ here)) (after_link from there can))

-- before the write
pub link_not_yet : (a b : Told) (entry : ℕ) → b ≡ a → ForSome a.files (λ from. CanBeLinked entry from → Commits 1 a b (λ image. image ≡ from) (IsLinkedInFront from entry))
link_not_yet a b entry stays from there can = commits_none 0 a b from (λ image. image ≡ from) (IsLinkedInFront from entry) there stays refl

-- an address is a word
pub address_small : (w : ℕ) → is_address w ≡ true → w < 2 ^ 32
unfolding is_address is_initialized
address_small w address =
    let first : w / 2147483648 ≡ 1 = eqb-true (w / 2147483648) 1 (and_parts (w / 2147483648 == 1) (names_external w || names_blocks w) address).0 in
    omega (arith, first)

-- what the write of the bucket's word leaves, made or not
pub record IsPut (files : BlockFiles) (entry : ℕ) (a b : Told) : Type 0 where
  pub part : ForSome a.files (λ from. AppliesPrefix a b (link_front_steps from entry))
  pub commits : ForSome a.files (λ from. CanBeLinked entry from → Commits 1 a b (λ image. image ≡ from) (IsLinkedInFront from entry))
  pub agrees : ForSome b.files (Agrees files)

module _ (files : BlockFiles) (a b : Told) (entry hash word : ℕ) (is : word ≡ entry) (address : is_address word ≡ true) (agrees : ForSome a.files (Agrees files)) (complete : ForSome a.files (λ image. length_of image Index ≡ 262512))
    (read : ForSome a.files (λ image. hash ≡ word_of image (Block (file_selector entry)) (place entry + 0))) (between : Told) (stays : between ≡ a) where
  bucket_is : ForSome a.files (λ from. hash % 65536 ≡ bucket_at from entry)
  bucket_is from there = bucket_read from entry hash (hash % 65536) (read from there) refl

  pub put_by : AppliesPrefix between b (word_step Index (place_of_bucket (hash % 65536)) word) → IsPut files entry a b
  put_by part =
      let here : AppliesPrefix a b (word_step Index (place_of_bucket (hash % 65536)) entry) =
      subst (λ (t : Told). AppliesPrefix t b (word_step Index (place_of_bucket (hash % 65536)) entry)) stays (subst (λ (v : ℕ). AppliesPrefix between b (word_step Index (place_of_bucket (hash % 65536)) v)) is part) in
      record {
        part = link_part a b entry (hash % 65536) bucket_is here;
        commits = link_turns a b entry (hash % 65536) bucket_is (address_small entry (subst (λ (v : ℕ). is_address v ≡ true) is address)) complete here;
        agrees = index_agrees files a b (place_of_bucket (hash % 65536)) entry here agrees;
      }

  whole_here : Applies between b (word_step Index (place_of_bucket (hash % 65536)) word) → Applies a b (word_step Index (place_of_bucket (hash % 65536)) entry)
  whole_here whole =
      subst (λ (t : Told). Applies t b (word_step Index (place_of_bucket (hash % 65536)) entry)) stays (subst (λ (v : ℕ). Applies between b (word_step Index (place_of_bucket (hash % 65536)) v)) is whole)

  pub whole_by : Applies between b (word_step Index (place_of_bucket (hash % 65536)) word) → ForSome a.files (λ from. Applies a b (link_front_steps from entry))
  whole_by whole = link_whole a b entry (hash % 65536) bucket_is (whole_here whole)

  pub linked_by : Applies between b (word_step Index (place_of_bucket (hash % 65536)) word) → ForSome a.files (λ from. CanBeLinked entry from → ForSome b.files (IsLinkedInFront from entry))
  linked_by whole = link_done a b entry (hash % 65536) bucket_is (address_small entry (subst (λ (v : ℕ). is_address v ≡ true) is address)) complete (whole_here whole)
