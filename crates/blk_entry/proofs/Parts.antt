-- A new part loads once its record has its two streams.
use Rattle.std.proofs.Common.{◌≡◌, ◌≢◌, ◌⊎◌, inl, inr, ⊎_elim, ℕ, ◌+◌, ◌%◌, ◌^◌, ◌<◌, ◌≤◌, Bool, true, false, if◌then◌else◌, List, [], ◌∷◌, length, take, Option, Some, None, Ok, unwrap_or, refl, sym, ◌∙◌, ap, arith}
use Rattle.std.specs.Prelude.{◌==◌, nat_le, slice_index}
use Rattle.std.specs.Option.{option_and_then, option_map}
use Rattle.std.proofs.lemmas.Bool.{cases_Bool, eq-eqb}
use Rattle.std.proofs.lemmas.Bool.Decides.{nat_tests}
use Rattle.std.proofs.lemmas.List.Elements.{All-nil, All-cons}
use Rattle.spec_image.specs.Bytes.{content, words_at, word_at}
use Rattle.spec_image.specs.Image.{Image, AreBytes}
use Rattle.spec_image.specs.Steps.{with_word, with_words}
use Rattle.spec_image.specs.Footprint.{SameOutside}
use Rattle.spec_image.proofs.Runs.{some_inj}
use Rattle.spec_image.proofs.Words.{word-beside, word-there, length-with_word}
use Rattle.spec_format.specs.Address.{kind_of, blocks_256}
use Rattle.spec_format.specs.Claims.{claims_of, has_claim}
use Rattle.spec_format.specs.Hash.{hash}
use Rattle.spec_format.specs.Records.{Entry, entry_in, entry_normal, plain, child}
use Rattle.spec_format.specs.Sealed.{AreChanges, IsUpdated, record_at, record_range, seal_place}
use Rattle.spec_format.proofs.SealedRecords.{length-record, whole_update}
use Rattle.law_folder.specs.RecordUpdates.{IsRecord, sealed_fields}
use Rattle.law_folder.proofs.updates.Records.{fields-written}
use Rattle.law_folder.proofs.updates.StillShown.{core-standing}
use Rattle.law_folder.proofs.updates.Updates.{entry-here, entry-seal}
use Rattle.law_folder.proofs.lists.WordTurns.{each}
use Rattle.spec_folder.specs.View.{RecordFields, entry_at, fields_at, fields_of, store_of, stored_at, stands_as}
use Rattle.spec_folder.specs.ShownChanges.{OnlyRecordFieldsChange}
use Rattle.spec_folder.specs.Footprint.{IsClear}
use Rattle.spec_format.specs.Storage.{is_storage}
use Rattle.spec_folder.specs.Entries.{Role, is_key_length, stored_key, part_role, role_of, stored_stream, stored_streams}
use Rattle.spec_folder.specs.Loads.{load, load_key, load_record, unchained_rule}
use Rattle.blk_disk.specs.declared.tables.BlockFiles.{BlockFiles}
use Rattle.blk_entry.specs.declared.writing.NewEntry.{NewEntry}
use Rattle.blk_entry.specs.Keys.{key_at}
use Rattle.blk_entry.specs.Parts.{IsStoredBeside, PartStreams, WrittenPartsLoad, loaded_part, stream_changes}
use Rattle.blk_entry.specs.Writing.{AreWords, FitsKey, IsShownNew, LiesApart, new_record}
use Rattle.blk_entry.proofs.NewShown.{back_is, checked_loads, flags_is, hash_is, record_is_good, state_is}
use Rattle.blk_entry.proofs.NewSingle.{long_known}

-- the fields of a record with other streams 1 and 2
abbrev with_streams : RecordFields → PartStreams → RecordFields
with_streams f s = record f {
  data_size = slice_index f.data_size 0 ∷ length s.stored ∷ length s.index ∷ slice_index f.data_size 3 ∷ [];
  data_addr = slice_index f.data_addr 0 ∷ s.stored_addr ∷ s.index_addr ∷ slice_index f.data_addr 3 ∷ [];
}

-- the four changes are those of an entry record
changes_are : (w : ℕ) (s : PartStreams) → kind_of w ≡ blocks_256 → AreChanges (seal_place w) (stream_changes s)
changes_are w s kind =
    let seal : seal_place w ≡ 92 = entry-seal w kind in
    let a : ℕ = length s.stored in
    let b : ℕ = length s.index in
    let c : ℕ = s.stored_addr in
    let d : ℕ = s.index_addr in
    record {
      few = omega arith;
      aligned = each (λ change. change.0 % 4 ≡ 0) (44, a) (48, b) (60, c) (64, d) refl refl refl refl;
      before = each (λ change. change.0 < seal_place w) (44, a) (48, b) (60, c) (64, d) (omega (arith, seal)) (omega (arith, seal)) (omega (arith, seal)) (omega (arith, seal));
      different = (
        All-cons (λ other. other.0 ≢ 44) (48, b) ((60, c) ∷ (64, d) ∷ []) (λ e. absurd (omega arith)) (All-cons (λ other. other.0 ≢ 44) (60, c) ((64, d) ∷ []) (λ e. absurd (omega arith)) (All-cons (λ other. other.0 ≢ 44) (64, d) [] (λ e. absurd (omega arith)) (All-nil (λ other. other.0 ≢ 44)))),
        (
          All-cons (λ other. other.0 ≢ 48) (60, c) ((64, d) ∷ []) (λ e. absurd (omega arith)) (All-cons (λ other. other.0 ≢ 48) (64, d) [] (λ e. absurd (omega arith)) (All-nil (λ other. other.0 ≢ 48))),
          (All-cons (λ other. other.0 ≢ 60) (64, d) [] (λ e. absurd (omega arith)) (All-nil (λ other. other.0 ≢ 60)), (All-nil (λ other. other.0 ≢ 64), tt)),
        ),
      );
    }

-- a word beside the four is as before
word_stays : (s : PartStreams) (bytes : List ℕ) (j : ℕ) → ((j + 4 ≤ 44) ⊎ (52 ≤ j)) → ((j + 4 ≤ 60) ⊎ (68 ≤ j)) → word_at (content (with_words (stream_changes s) bytes)) j ≡ word_at (content bytes) j
word_stays s bytes j sizes addrs =
    let b1 : List ℕ = with_word 44 (length s.stored) bytes in
    let b2 : List ℕ = with_word 48 (length s.index) b1 in
    let b3 : List ℕ = with_word 60 s.stored_addr b2 in
    word-beside j 64 s.index_addr b3 (⊎_elim (λ (x : j + 4 ≤ 60). inl (omega arith)) (λ (x : 68 ≤ j). inr (omega arith)) addrs)
    ∙ word-beside j 60 s.stored_addr b2 (⊎_elim (λ (x : j + 4 ≤ 60). inl (omega arith)) (λ (x : 68 ≤ j). inr (omega arith)) addrs)
    ∙ word-beside j 48 (length s.index) b1 (⊎_elim (λ (x : j + 4 ≤ 44). inl (omega arith)) (λ (x : 52 ≤ j). inr (omega arith)) sizes)
    ∙ word-beside j 44 (length s.stored) bytes (⊎_elim (λ (x : j + 4 ≤ 44). inl (omega arith)) (λ (x : 52 ≤ j). inr (omega arith)) sizes)

-- the fields of a record in which the four words are written
written_fields : (s : PartStreams) (bytes : List ℕ) → length bytes ≡ 96 → length s.stored < 2 ^ 32 → length s.index < 2 ^ 32 → s.stored_addr < 2 ^ 32 → s.index_addr < 2 ^ 32 → sealed_fields (with_words (stream_changes s) bytes) ≡ with_streams (sealed_fields bytes) s
unfolding entry_in words_at
written_fields s bytes long a b c d =
    let b1 : List ℕ = with_word 44 (length s.stored) bytes in
    let b2 : List ℕ = with_word 48 (length s.index) b1 in
    let b3 : List ℕ = with_word 60 s.stored_addr b2 in
    let l1 : length b1 ≡ 96 = length-with_word 44 (length s.stored) bytes ∙ long in
    let l2 : length b2 ≡ 96 = length-with_word 48 (length s.index) b1 ∙ l1 in
    let l3 : length b3 ≡ 96 = length-with_word 60 s.stored_addr b2 ∙ l2 in
    let size1 : word_at (content (with_words (stream_changes s) bytes)) 44 ≡ length s.stored =
    word-beside 44 64 s.index_addr b3 (inl (omega arith)) ∙ word-beside 44 60 s.stored_addr b2 (inl (omega arith)) ∙ word-beside 44 48 (length s.index) b1 (inl (omega arith)) ∙ word-there 44 (length s.stored) bytes a (omega (arith, long)) in
    let size2 : word_at (content (with_words (stream_changes s) bytes)) 48 ≡ length s.index =
    word-beside 48 64 s.index_addr b3 (inl (omega arith)) ∙ word-beside 48 60 s.stored_addr b2 (inl (omega arith)) ∙ word-there 48 (length s.index) b1 b (omega (arith, l1)) in
    let addr1 : word_at (content (with_words (stream_changes s) bytes)) 60 ≡ s.stored_addr = word-beside 60 64 s.index_addr b3 (inl (omega arith)) ∙ word-there 60 s.stored_addr b2 c (omega (arith, l2)) in
    let addr2 : word_at (content (with_words (stream_changes s) bytes)) 64 ≡ s.index_addr = word-there 64 s.index_addr b3 d (omega (arith, l3)) in
    let low = (λ (j : ℕ) (h : j + 4 ≤ 44). word_stays s bytes j (inl h) (inl (omega arith))) in
    let high = (λ (j : ℕ) (h : 68 ≤ j). word_stays s bytes j (inr (omega arith)) (inr h)) in
    let mid = (λ (j : ℕ) (h : 52 ≤ j) (k : j + 4 ≤ 60). word_stays s bytes j (inr h) (inl k)) in
    λ i. record {
      checks = true;
      hash = low 0 (omega arith) i;
      rankings_node = low 8 (omega arith) i;
      state = low 20 (omega arith) i;
      key_len = low 32 (omega arith) i;
      long_key = low 36 (omega arith) i;
      data_size = low 40 (omega arith) i ∷ size1 i ∷ size2 i ∷ mid 52 (omega arith) (omega arith) i ∷ [];
      data_addr = mid 56 (omega arith) (omega arith) i ∷ addr1 i ∷ addr2 i ∷ high 68 (omega arith) i ∷ [];
      flags = high 72 (omega arith) i;
    }

-- the fields of a new part with its streams
abbrev part_fields : NewEntry → List ℕ → ℕ → PartStreams → RecordFields
part_fields new key moment s = with_streams (fields_of (new_record new key moment)) s

module _ (files : BlockFiles) (new : NewEntry) (key : List ℕ) (moment : ℕ) (s : PartStreams) (role : Role) (from image : Image)
    (fits : FitsKey files new key) (are : AreWords new) (lies : LiesApart new.entry new.long_key) (is_child : new.child ≡ true)
    (below : AreBytes from) (shown : IsShownNew new key moment from)
    (first : IsStoredBeside new.entry s.stored s.stored_addr from) (index : IsStoredBeside new.entry s.index s.index_addr from)
    (part : part_role key ([] ∷ s.stored ∷ s.index ∷ []) ≡ Some role)
    (done : IsUpdated from new.entry (stream_changes s) image) (outside : SameOutside (record_range new.entry) from image) where
  own : RecordFields
  own = fields_of (new_record new key moment)

  now : RecordFields
  now = part_fields new key moment s

  is_record : IsRecord from new.entry (fields_of (new_record new key moment))
  is_record = record { here = shown.fields; good = record_is_good new key moment; bytes = below }

  changed : OnlyRecordFieldsChange new.entry from image × ((store_of image).entry new.entry ≡ Some (sealed_fields (with_words (stream_changes s) (record_at from new.entry))))
  changed =
      let update = whole_update from image new.entry (stream_changes s) done outside in
      let moved = fields-written from image new.entry (stream_changes s) (fields_of (new_record new key moment)) is_record (changes_are new.entry s fits.entry_kind)
      (each (λ change. 8 ≤ change.0) (44, length s.stored) (48, length s.index) (60, s.stored_addr) (64, s.index_addr) (omega arith) (omega arith) (omega arith) (omega arith)) update.0 in
      (moved.0, moved.1 ∙ ap (λ (l : List (ℕ × ℕ)). Some (sealed_fields (with_words l (record_at from new.entry)))) (ap (λ (n : ℕ). take n (stream_changes s)) update.1))

  entry_standing : stands_as from blocks_256 new.entry ≡ true
  entry_standing = core-standing from new.entry (fields_of (new_record new key moment)) shown.fields

  -- the record before
  was : sealed_fields (record_at from new.entry) ≡ fields_of (new_record new key moment)
  unfolding store_of fields_at
  was =
      let here : fields_of (entry_at from new.entry) ≡ fields_of (new_record new key moment) = some_inj (sym (rw entry_standing refl) ∙ shown.fields) in
      ap (λ (e : Entry). record (fields_of e) { checks = true }) (sym (entry-here from new.entry fits.entry_kind))
      ∙ ap (λ (f : RecordFields). record f { checks = true }) here
      ∙ ap (λ (b : Bool). record (fields_of (new_record new key moment)) { checks = b }) (sym (record_is_good new key moment))

  long : length (record_at from new.entry) ≡ 96
  long = let seal : seal_place new.entry ≡ 92 = entry-seal new.entry fits.entry_kind in omega (arith, seal, length-record new.entry from)

  entry_now : (store_of image).entry new.entry ≡ Some (part_fields new key moment s)
  entry_now =
      let few1 = first.few in
      let few2 = index.few in
      changed.1 ∙ ap Some (written_fields s (record_at from new.entry) long (omega (arith, few1)) (omega (arith, few2)) first.word index.word ∙ ap (λ (f : RecordFields). with_streams f s) was)

  -- the node of the new record says the same
  node_now : (store_of image).node_fields new.node ≡ Some (record { contents = new.entry; dirty = new.dirty })
  node_now = sym (changed.0.rest.node_fields new.node) ∙ shown.node_fields

  -- the key's length is right, and so is its place
  key_was : (is_key_length new.entry (fields_of (new_record new key moment)) ≡ true) × (stored_key (store_of from) new.entry (fields_of (new_record new key moment)) ≡ Some key)
  unfolding key_at store_of
  key_was =
      let all : (if is_key_length new.entry (fields_of (new_record new key moment)) then stored_key (store_of from) new.entry (fields_of (new_record new key moment)) else None) ≡ Some key =
      ap (option_and_then (λ (fields : RecordFields). if is_key_length new.entry fields then stored_key (store_of from) new.entry fields else None)) (sym shown.fields) ∙ shown.key_is in
      by_length (is_key_length new.entry (fields_of (new_record new key moment))) all
    where
      by_length : (b : Bool) → (if b then stored_key (store_of from) new.entry (fields_of (new_record new key moment)) else None) ≡ Some key → (b ≡ true) × (stored_key (store_of from) new.entry (fields_of (new_record new key moment)) ≡ Some key)
      by_length true e = (refl, e)
      by_length false e = absurd (never e)
        where
          never : ◌≡◌ {A = Option (List ℕ)} None (Some key) → ⊥
          never c = cc

  length_now : is_key_length new.entry (part_fields new key moment s) ≡ true
  unfolding is_key_length
  length_now = key_was.0

  -- the key lies where it did
  long_clear : IsClear (has_claim (claims_of new.entry)) (unwrap_or new.long_key 0)
  long_clear claim has = by_claim (has_claim (claims_of new.entry) claim) refl
    where
      by_claim : (b : Bool) → has_claim (claims_of new.entry) claim ≡ b → has_claim (claims_of new.entry) claim ≡ false
      by_claim true e = absurd ((long_known files new key fits lies are).1.0 claim e has)
      by_claim false e = e

  key_now : stored_key (store_of image) new.entry (part_fields new key moment s) ≡ Some key
  unfolding stored_key new_record
  key_now =
      ⊎_elim
      (λ (short : nat_le (length key) 927 ≡ true).
      let same : (store_of from).key_place new.entry (length key) ≡ (store_of image).key_place new.entry (length key) = changed.0.rest.key_place new.entry (fields_of (new_record new key moment)) (inr refl) shown.fields key_was.0 short in
      let before : (if unwrap_or new.long_key 0 == 0 then Some ((store_of from).key_place new.entry (length key)) else None) ≡ Some key = rw short at key_was.1 in
      rw short (ap (λ (l : List ℕ). if unwrap_or new.long_key 0 == 0 then Some l else None) (sym same) ∙ before))
      (λ (not_short : nat_le (length key) 927 ≡ false).
      let same : (store_of from).stored (length key + 1) (unwrap_or new.long_key 0) ≡ (store_of image).stored (length key + 1) (unwrap_or new.long_key 0) = changed.0.rest.stored (length key + 1) (unwrap_or new.long_key 0) long_clear in
      let before : option_map (take (length key)) ((store_of from).stored (length key + 1) (unwrap_or new.long_key 0)) ≡ Some key = rw not_short at key_was.1 in
      rw not_short (ap (option_map (take (length key))) (sym same) ∙ before))
      (cases_Bool (nat_le (length key) 927))

  -- the streams
  data_now : (store_of image).stored (length s.stored) s.stored_addr ≡ Some s.stored
  data_now = sym (changed.0.rest.stored (length s.stored) s.stored_addr first.clear) ∙ first.stored

  index_now : (store_of image).stored (length s.index) s.index_addr ≡ Some s.index
  index_now = sym (changed.0.rest.stored (length s.index) s.index_addr index.clear) ∙ index.stored

  empty_now : (store_of image).stored 0 0 ≡ Some []
  unfolding store_of stored_at is_storage
  empty_now = refl

  streams_now : stored_streams (store_of image) (part_fields new key moment s) ≡ Some ([] ∷ s.stored ∷ s.index ∷ [])
  unfolding stored_streams stored_stream new_record
  streams_now =
      let few1 : nat_le (length s.stored) 2147483647 ≡ true = (let few = first.few in grind (arith, nat_tests)) in
      let few2 : nat_le (length s.index) 2147483647 ≡ true = (let few = index.few in grind (arith, nat_tests)) in
      rw (empty_now, few1, data_now, few2, index_now) refl

  role_now : role_of (part_fields new key moment s) key ([] ∷ s.stored ∷ s.index ∷ []) ≡ Some role
  unfolding role_of new_record
  role_now = rw is_child part

  key_loads_now : load_key (store_of image) (unchained_rule entry_normal) new.node new.entry new.dirty (part_fields new key moment s) ≡ Ok key
  unfolding load_key
  key_loads_now =
      let state : ((new_record new key moment).state == 0) ≡ true = eq-eqb _ _ (state_is new key moment) in
      let back : ((new_record new key moment).rankings_node == new.node) ≡ true = eq-eqb _ _ (back_is new key moment) in
      let flags : nat_le (new_record new key moment).flags 2 ≡ true = ap (λ (n : ℕ). nat_le n 2) (flags_is new key moment) ∙ ap (λ (b : Bool). nat_le (if b then child else plain) 2) is_child in
      let sound : ((new_record new key moment).hash == hash key) ≡ true = eq-eqb _ _ (hash_is new key moment) in
      rw (state, back, flags, length_now, key_now, sound) refl

  record_loads_now : load_record (store_of image) (unchained_rule entry_normal) new.node new.entry new.dirty (part_fields new key moment s) ≡ Ok (loaded_part new key s role)
  unfolding load_record new_record
  record_loads_now = rw (key_loads_now, streams_now, role_now) refl

  loads_now : load (store_of image) (unchained_rule entry_normal) new.node ≡ Ok (loaded_part new key s role)
  unfolding load
  loads_now = rw (node_now, entry_now) (checked_loads (store_of image) new.node new.entry new.dirty (part_fields new key moment s) (Ok (loaded_part new key s role)) (record_is_good new key moment) record_loads_now)

pub written-parts-load : WrittenPartsLoad
written-parts-load files new key moment s role from image fits are lies is_child below shown first index part done outside = loads_now files new key moment s role from image fits are lies is_child below shown first index part done outside
