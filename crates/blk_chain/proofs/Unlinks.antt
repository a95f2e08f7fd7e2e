-- A record taken out of its chain, in bytes.
use Rattle.std.proofs.Common.{◌≡◌, ◌≢◌, ◌⊎◌, inl, inr, ⊎_elim, ℕ, ◌+◌, ◌%◌, ◌^◌, ◌<◌, ◌≤◌, true, false, List, [], ◌∷◌, ◌++◌, take, Option, Some, None, refl, sym, ◌∙◌, ap, subst, arith}
use Rattle.std.specs.Prelude.{◌==◌, ◌&&◌, nat_le, if◌then◌else◌}
use Rattle.std.specs.Option.{ForSome, option_map, option_map_or}
use Rattle.std.proofs.lemmas.Bool.{cases_Bool, cases_eq, eq-eqb, or_right}
use Rattle.std.proofs.lemmas.List.Elements.{All-nil, All-cons}
use Rattle.spec_image.specs.Bytes.{content, word_at, word_bytes}
use Rattle.spec_image.specs.Image.{AreBytes, File, Index, Block, Image, byte, bytes_of, length_of, word}
use Rattle.spec_image.specs.Steps.{Word, applied, word_step, with_word}
use Rattle.spec_image.specs.Footprint.{SameOutside}
use Rattle.spec_image.specs.Told.{Told, TellsBytes, AppliesPrefix, Passes, CommitsAt, Commits}
use Rattle.spec_image.proofs.Runs.{passes_end, some_inj, told_part}
use Rattle.spec_image.proofs.Images.{bytes_of-written, length-after_write, word-after_same}
use Rattle.spec_image.proofs.Words.{word-beside, word-fits}
use Rattle.spec_image.proofs.WordSteps.{along_put}
use Rattle.spec_format.specs.Address.{kind_of, file_selector, place, blocks_256}
use Rattle.spec_format.specs.BlockFiles.{is_among, stands_in}
use Rattle.spec_format.specs.Records.{entry_in, checks}
use Rattle.spec_folder.specs.View.{RecordFields, entry_at, store_of}
use Rattle.spec_folder.specs.Chains.{bucket_of_hash, file_and_block, IsChain, bucket_at}
use Rattle.spec_format.specs.Claims.{claims_of, has_claim}
use Rattle.spec_folder.specs.Entries.{stored_key}
use Rattle.law_folder.proofs.chains.ChainLinks.{later-leaves}
use Rattle.spec_folder.specs.ShownChanges.{OnlyChainNextChanges}
use Rattle.law_folder.specs.RecordUpdates.{IsRecord}
use Rattle.law_folder.proofs.claims.Inside.{record-changes}
use Rattle.law_folder.proofs.updates.Records.{follows-written}
use Rattle.law_folder.proofs.updates.StillShown.{core-standing, standing-parts}
use Rattle.law_folder.proofs.updates.Updates.{entry-seal}
use Rattle.spec_format.proofs.SealedRecords.{moment_before, moments, record_inside}
use Rattle.blk_disk.proofs.Ranges.{stands_range}
use Rattle.blk_disk.specs.declared.tables.BlockFiles.{BlockFiles}
use Rattle.blk_disk.specs.Tables.{Agrees, stands_among}
use Rattle.spec_format.specs.Sealed.{RecordChecks, AreChanges, IsMidUpdate, IsUpdated, new_seal, placed, record_at, record_range, record_size, seal_place, sealed_steps, size_by_kind, seal_by_kind, update_steps, update_words}
use Rattle.spec_format.proofs.SealedFields.{record_word, updated_is_new}
use Rattle.blk_chain.specs.Unlinking.{CanBeUnlinked, first_claim, IsApart, NamesStay, IsStillLinked, IsUnlinked, KeepsRecords, next_record}
use Rattle.spec_image.proofs.Commits.{commits_none, commits_prefix}
use Rattle.law_folder.proofs.lists.WriteSteps.{quiet-sealed}
use Rattle.law_folder.proofs.chains.ChainWords.{record_checks, IsShownOf, shown-of, shown-fields, shown-kind, shown-chain_next, same-fields, same-chain_next}
use Rattle.blk_chain.proofs.Words.{linked-good}
use Rattle.blk_chain.proofs.Keys.{first_word, first-clear, first-record, first-moment}
use Rattle.blk_chain.proofs.Apart.{middle-there, behind-there, front-apart, rest-apart}
use Rattle.blk_chain.proofs.Follows.{chain-same}

-- a word beside the one that is written
word-beside_write : (image : Image) (f : File) (at v j : ℕ) → (j + 4 ≤ at) ⊎ (at + 4 ≤ j) → word (applied (Word f at (word_bytes v)) image) f j ≡ word image f j
unfolding with_word
word-beside_write image f at v j beside = ap (λ (l : List ℕ). word_at (content l) j) (bytes_of-written image f at (word_bytes v)) ∙ word-beside j at v (bytes_of image f) beside

-- the change of a record's next
pub next_changes : (w next : ℕ) → kind_of w ≡ blocks_256 → AreChanges (seal_place w) ((4, next) ∷ [])
unfolding seal_by_kind
next_changes w next kind = record {
  few = omega arith;
  aligned = All-cons (λ change. change.0 % 4 ≡ 0) (4, next) [] refl (All-nil (λ change. change.0 % 4 ≡ 0));
  before = All-cons (λ change. change.0 < seal_place w) (4, next) [] (rw kind (omega arith)) (All-nil (λ change. change.0 < seal_place w));
  different = (All-nil (λ other. other.0 ≢ 4), tt);
}

module _ (from : Image) (bytes : AreBytes from) (entry before : ℕ) (can : CanBeUnlinked entry (Some before) from) where
  b : ℕ
  b = bucket_at from entry

  words : List ℕ
  words = can.prefix ++ before ∷ entry ∷ can.suffix

  chain-was : IsChain (store_of from) (bucket_at from entry) (can.prefix ++ before ∷ entry ∷ can.suffix)
  chain-was = subst (λ (ws : List ℕ). IsChain (store_of from) (bucket_at from entry) ws) can.stands can.whole

  good : (w : ℕ) → is_among (can.prefix ++ before ∷ entry ∷ can.suffix) w ≡ true → IsShownOf (store_of from) (bucket_at from entry) w
  good w among = shown-of (store_of from) (bucket_at from entry) w (linked-good (store_of from) (bucket_at from entry) ((store_of from).table (bucket_at from entry)) (can.prefix ++ before ∷ entry ∷ can.suffix) w chain-was.linked among)

  pub shown-before : IsShownOf (store_of from) (bucket_at from entry) before
  shown-before = good before (middle-there can.prefix before (entry ∷ can.suffix))

  pub shown-entry : IsShownOf (store_of from) (bucket_at from entry) entry
  shown-entry = good entry (behind-there can.prefix before entry can.suffix)

  pub is-record : IsRecord from before shown-before.fields
  is-record = record { here = shown-before.here; good = shown-before.good; bytes = bytes }

  next-small : next_record from entry < 2 ^ 32
  unfolding entry_in
  next-small = word-fits (byte from (Block (file_selector entry))) (bytes (Block (file_selector entry))) (place entry + 4)

  module _ (image : Image) (only : OnlyChainNextChanges before from image) (outside : SameOutside (record_range before) from image) (names : NamesStay from (Some before) image) where
    records : (w : ℕ) → (store_of image).entry w ≡ (store_of from).entry w
    records w = sym (only.entry w)

    here-now : (store_of image).entry before ≡ Some shown-before.fields
    here-now = records before ∙ shown-before.here

    standing : stands_in from before ≡ true
    standing = (standing-parts from blocks_256 before (core-standing from before shown-before.fields shown-before.here)).0

    keeps : KeepsRecords from (Some before) (record_range before) image
    keeps = record {
      list = only.rest.list;
      records = records;
      names = names;
      headers = (record-changes from image before standing (inr (shown-kind from before shown-before.fields shown-before.here)) outside).headers;
      outside = outside;
    }

    -- where the link of the record before is as it was, so is that of each record
    still-linked : (store_of image).chain_next before ≡ (store_of from).chain_next before → IsStillLinked from entry (Some before) image
    still-linked same = record {
      keeps = keeps;
      chains = λ bucket. chain-same (store_of from) (store_of image) bucket records (λ w of. follow-same w (shown-of (store_of from) bucket w of)) (sym (only.rest.table bucket));
    } where
      follow-same : {bucket : ℕ} (w : ℕ) → IsShownOf (store_of from) bucket w → (store_of image).chain_next w ≡ (store_of from).chain_next w
      follow-same w shown = ⊎_elim
          (λ (e : file_and_block w ≡ file_and_block before).
          same-chain_next image w before shown.fields shown-before.fields (records w ∙ shown.here) here-now e ∙ same ∙ sym (same-chain_next from w before shown.fields shown-before.fields shown.here shown-before.here e))
          (λ (e : file_and_block w ≢ file_and_block before). sym (only.chain_next w e))
          (cases_eq (file_and_block w) (file_and_block before))

    -- where it is the next of the record after, that one is unlinked
    now-unlinked : (store_of image).chain_next before ≡ next_record from entry → IsUnlinked from entry (Some before) image
    now-unlinked link = record {
      keeps = keeps;
      chain_now = λ prefix suffix stands. chain-without prefix suffix (subst (λ (ws : List ℕ). IsChain (store_of from) (bucket_at from entry) ws) stands can.whole);
      others = λ other apart. chain-same (store_of from) (store_of image) other records (λ w of. elsewhere other apart w (shown-of (store_of from) other w of)) (sym (only.rest.table other));
      links = record { link = link; table = λ bucket. sym (only.rest.table bucket); node_fields = λ w. sym (only.rest.node_fields w); chain_next = λ w apart. sym (only.chain_next w apart) };
    } where
      elsewhere : (other : ℕ) → (bucket_at from entry == other) ≡ false → (w : ℕ) → IsShownOf (store_of from) other w → (store_of image).chain_next w ≡ (store_of from).chain_next w
      elsewhere other apart w shown = sym (only.chain_next w (λ e.
          let fields : shown.fields ≡ shown-before.fields = same-fields from w before shown.fields shown-before.fields shown.here shown-before.here e in
          let bucket : bucket_at from entry ≡ other = sym shown-before.in_bucket ∙ ap (λ (c : RecordFields). bucket_of_hash c.hash) (sym fields) ∙ shown.in_bucket in
          let no : true ≡ false = sym (eq-eqb (bucket_at from entry) other bucket) ∙ apart in cc))

      chain-without : (prefix suffix : List ℕ) → IsChain (store_of from) (bucket_at from entry) (prefix ++ before ∷ entry ∷ suffix) → IsChain (store_of image) (bucket_at from entry) (prefix ++ before ∷ suffix)
      chain-without prefix suffix was =
          later-leaves (store_of from) (store_of image) (bucket_at from entry) before entry prefix suffix
          (λ x among. ap (λ (o : Option RecordFields). option_map_or (λ fields. fields.checks && (bucket_of_hash fields.hash == bucket_at from entry)) o false) (records x))
          (λ x among. sym (only.chain_next x (front-apart prefix before (entry ∷ suffix) was.once x among)))
          (λ x among. sym (only.chain_next x (rest-apart prefix before (entry ∷ suffix) was.once x (or_right (entry == x) (is_among suffix x) among))))
          (link ∙ sym (shown-chain_next from entry shown-entry.fields shown-entry.here))
          (sym (only.rest.table (bucket_at from entry)))
          was

  module _ (image : Image) (moment : IsMidUpdate from before ((4, next_record from entry) ∷ []) image) where
    written : OnlyChainNextChanges before from image × ((store_of image).chain_next before ≡ (if moment.made == 0 then (store_of from).chain_next before else next_record from entry))
    written = follows-written from image before (next_record from entry) shown-before.fields is-record next-small moment

    -- the update as one of the first block alone
    of-first : OnlyChainNextChanges (first_word before) from image
    of-first =
        let kind : kind_of before ≡ 2 = shown-kind from before shown-before.fields shown-before.here in
        (follows-written from image (first_word before) (next_record from entry) shown-before.fields (record { here = first-record from before shown-before.fields shown-before.here; good = shown-before.good; bytes = bytes }) next-small
        (first-moment from image before (next_record from entry) kind moment)).0

    key-same : (w : ℕ) (apart : IsApart before (store_of from) w) → stored_key (store_of from) w apart.fields ≡ stored_key (store_of image) w apart.fields
    unfolding stored_key
    key-same w apart = ⊎_elim
        (λ (e : nat_le apart.fields.key_len 927 ≡ true).
        let place : (store_of from).key_place w apart.fields.key_len ≡ (store_of image).key_place w apart.fields.key_len =
        ⊎_elim (λ (s : w ≡ before). written.0.rest.key_place w apart.fields (inr s) apart.here apart.lengths e)
        (λ (s : has_claim (claims_of w) (first_claim before) ≡ false). of-first.rest.key_place w apart.fields (inl (first-clear before w s)) apart.here apart.lengths e) apart.record_apart in
        rw e (ap (λ (l : List ℕ). if apart.fields.long_key == 0 then Some l else None) place))
        (λ (e : nat_le apart.fields.key_len 927 ≡ false).
        rw e (ap (λ (o : Option (List ℕ)). option_map (take apart.fields.key_len) o) (of-first.rest.stored (apart.fields.key_len + 1) apart.fields.long_key (first-clear before apart.fields.long_key (apart.key_apart e)))))
        (cases_Bool (nat_le apart.fields.key_len 927))

    names-stay : NamesStay from (Some before) image
    names-stay w name is_child apart = (
      λ named. record {
        fields = named.fields;
        here = sym (written.0.entry w) ∙ named.here;
        hashed = named.hashed;
        key = subst (λ (c : RecordFields). stored_key (store_of image) w c ≡ stored_key (store_of from) w c) (some_inj (sym apart.here ∙ named.here)) (sym (key-same w apart)) ∙ named.key;
        flag = named.flag;
      },
      λ named. record {
        fields = named.fields;
        here = written.0.entry w ∙ named.here;
        hashed = named.hashed;
        key = subst (λ (c : RecordFields). stored_key (store_of from) w c ≡ stored_key (store_of image) w c) (some_inj (sym apart.here ∙ written.0.entry w ∙ named.here)) (key-same w apart) ∙ named.key;
        flag = named.flag;
      },
    )

    -- after it the record is
    pub unlinked_at : IsUpdated from before ((4, next_record from entry) ∷ []) image → IsUnlinked from entry (Some before) image
    unfolding entry_in size_by_kind
    unlinked_at done =
        let kind : kind_of before ≡ blocks_256 = shown-kind from before shown-before.fields shown-before.here in
        let new : word_at (content (record_at image before)) 4 ≡ next_record from entry =
        updated_is_new from image before ((4, next_record from entry) ∷ []) (next_changes before (next_record from entry) kind) done 0 (4, next_record from entry) (omega arith) (All-cons (λ c. c.1 < 2 ^ 32) (4, next_record from entry) [] next-small (All-nil (λ c. c.1 < 2 ^ 32))) in
        let inside : 4 + 4 ≤ record_size before = rw kind (omega arith) in
        let there : (entry_at image before).next ≡ word_at (content (record_at image before)) 4 = sym (record_word image before 4 inside) in
        now-unlinked image written.0 moment.outside names-stay (shown-chain_next image before shown-before.fields (sym (written.0.entry before) ∙ shown-before.here) ∙ there ∙ new)

    -- the link of the record before is the word at its place
    pub link-is : (store_of image).chain_next before ≡ word image (Block (file_selector before)) (place before + 4)
    unfolding entry_in
    link-is = shown-chain_next image before shown-before.fields (sym (written.0.entry before) ∙ shown-before.here)

    pub still-at : (store_of image).chain_next before ≡ (store_of from).chain_next before → IsStillLinked from entry (Some before) image
    still-at same = still-linked image written.0 moment.outside names-stay same

    pub unlinked-by : (store_of image).chain_next before ≡ next_record from entry → IsUnlinked from entry (Some before) image
    unlinked-by link = now-unlinked image written.0 moment.outside names-stay link

  kind-before : kind_of before ≡ blocks_256
  kind-before = shown-kind from before shown-before.fields shown-before.here

  -- the record is unlinked from the write of the next on
  pub turns-with_next : RecordChecks before from → place before + record_size before ≤ length_of from (Block (file_selector before)) → CommitsAt 2 (IsStillLinked from entry (Some before)) (IsUnlinked from entry (Some before)) from (sealed_steps from before ((4, next_record from entry) ∷ []))
  unfolding update_steps word_step size_by_kind seal_by_kind
  turns-with_next checks fits =
      let f : File = Block (file_selector before) in
      let p : ℕ = place before in
      let x : ℕ = next_record from entry in
      let s : ℕ = new_seal from before ((4, next_record from entry) ∷ []) in
      let i1 : Image = applied (Word f (p + seal_place before) (word_bytes 0)) from in
      let i2 : Image = applied (Word f (p + 4) (word_bytes x)) i1 in
      let i3 : Image = applied (Word f (p + seal_place before) (word_bytes s)) i2 in
      let at_seal : seal_place before ≡ 92 = entry-seal before kind-before in
      let size : record_size before ≡ 96 = rw kind-before refl in
      let m = moments before from ((4, next_record from entry) ∷ []) fits checks (All-cons (λ c. c.0 + 4 ≤ seal_place before) (4, next_record from entry) [] (omega (arith, at_seal)) (All-nil (λ c. c.0 + 4 ≤ seal_place before))) in
      let m1 : IsMidUpdate from before ((4, next_record from entry) ∷ []) i1 = m.1.0 in
      let m2 : IsMidUpdate from before ((4, next_record from entry) ∷ []) i2 = m.1.1.0 in
      let m3 : IsMidUpdate from before ((4, next_record from entry) ∷ []) i3 = m.1.1.1 in
      let long : length_of i1 f ≡ length_of from f = length-after_write from f f (p + seal_place before) (word_bytes 0) in
      let w1 : word i1 f (p + 4) ≡ word from f (p + 4) = word-beside_write from f (p + seal_place before) 0 (p + 4) (inl (omega (arith, at_seal))) in
      let w2 : word i2 f (p + 4) ≡ x = word-after_same i1 f (p + 4) x next-small (omega (arith, fits, size, long)) in
      let w3 : word i3 f (p + 4) ≡ x = word-beside_write i2 f (p + seal_place before) s (p + 4) (inl (omega (arith, at_seal))) ∙ w2 in (
        still-at from m.0 refl,
        (
          still-at i1 m1 (link-is i1 m1 ∙ w1 ∙ sym (link-is from m.0)),
          (unlinked-by i2 m2 (link-is i2 m2 ∙ w2), unlinked-by i3 m3 (link-is i3 m3 ∙ w3)),
        ),
      )

-- the bytes of the record before have a checksum that matches or is absent
pub before_checks : (from : Image) (bytes : AreBytes from) (entry before : ℕ) → CanBeUnlinked entry (Some before) from → RecordChecks before from
before_checks from bytes entry before can =
    let shown = shown-before from bytes entry before can in
    record_checks from before bytes (shown-kind from before shown.fields shown.here) (ap (λ (c : RecordFields). c.checks) (shown-fields from before shown.fields shown.here) ∙ shown.good)

-- the next that was read
pub next_read : (image : Image) (entry next : ℕ) → next ≡ word image (Block (file_selector entry)) (place entry + 4) → next ≡ next_record image entry
unfolding entry_in
next_read image entry next read = read

-- what is said of the next that was read, after a read
pub moved : (a m : Told) (entry next : ℕ) (P : Told → Image → ℕ → Type 0) → ForSome a.files (λ image. next ≡ word image (Block (file_selector entry)) (place entry + 4)) → m ≡ a
    → ForSome m.files (λ from. P m from next) → ForSome a.files (λ from. P a from (next_record from entry))
moved a m entry next P read stays holds from there = subst (λ (n : ℕ). P a from n) (next_read from entry next (read from there)) (subst (λ (t : Told). ForSome t.files (λ from. P t from next)) stays holds from there)

-- a list of changes with this next
abbrev pub with_next : ℕ → List (ℕ × ℕ)
with_next next = (4, next) ∷ []

module _ (a b : Told) (tells : TellsBytes a) (entry before : ℕ) where
  -- before the update
  pub turns_yet : b ≡ a → ForSome a.files (λ from. CanBeUnlinked entry (Some before) from → Commits 2 a b (IsStillLinked from entry (Some before)) (IsUnlinked from entry (Some before)))
  turns_yet stays from there can =
      let checks : RecordChecks before from = before_checks from (tells from there) entry before can in
      commits_none 1 a b from (IsStillLinked from entry (Some before)) (IsUnlinked from entry (Some before)) there stays
      (still-at from (tells from there) entry before can from (moment_before before from (with_next (next_record from entry)) checks) refl)

  pub turns_then : (files : BlockFiles) → ForSome a.files (Agrees files) → stands_among files before ≡ true → ForSome a.files (λ from. AppliesPrefix a b (sealed_steps from before (with_next (next_record from entry))))
      → ForSome a.files (λ from. CanBeUnlinked entry (Some before) from → Commits 2 a b (IsStillLinked from entry (Some before)) (IsUnlinked from entry (Some before)))
  turns_then files agrees stands part from there can =
      let checks : RecordChecks before from = before_checks from (tells from there) entry before can in
      let shown = shown-before from (tells from there) entry before can in
      let inside = stands_range files from before 0 (record_size before) (agrees from there) stands (omega (arith, record_inside before (inr (shown-kind from before shown.fields shown.here)))) in
      commits_prefix 2 a b from (IsStillLinked from entry (Some before)) (IsUnlinked from entry (Some before)) (sealed_steps from before (with_next (next_record from entry))) there
      (quiet-sealed from before (with_next (next_record from entry)))
      (turns-with_next from (tells from there) entry before can checks (omega (arith, inside))) (part from there)

  pub unlinked_then : ForSome a.files (λ from. RecordChecks before from → Passes a b (IsMidUpdate from before (with_next (next_record from entry)))) → ForSome a.files (λ from. ForSome b.files (IsUpdated from before (with_next (next_record from entry))))
      → ForSome a.files (λ from. CanBeUnlinked entry (Some before) from → ForSome b.files (IsUnlinked from entry (Some before)))
  unlinked_then stops updated from there can image now =
      unlinked_at from (tells from there) entry before can image (passes_end (stops from there (before_checks from (tells from there) entry before can)) image now) (updated from there image now)

  -- no length changes
  pub still_complete : ForSome a.files (λ image. length_of image Index ≡ 262512) → ForSome a.files (λ from. AppliesPrefix a b (sealed_steps from before (with_next (next_record from entry)))) → ForSome a.files (λ from. ForSome b.files (λ image. length_of image Index ≡ 262512))
  unfolding update_steps
  still_complete complete part from there =
      let whole : Image → Type 0 = (λ image. length_of image Index ≡ 262512) in
      told_part whole (part from there)
      (λ image here. along_put whole (Block (file_selector before)) (λ i bytes h. h) (placed (place before) (update_words (seal_place before) (with_next (next_record from entry)) (new_seal from before (with_next (next_record from entry))))) image (complete image here))
