-- A new part is written at its places: whatever state was kept with its words unlinked is kept so, and the part is there.
use Rattle.std.proofs.Common.{◌≡◌, inr, ⊎_elim, ℕ, ◌<◌, ◌≤◌, ◌^◌, List, [], ◌∷◌, ◌++◌, length, None, Option, Some, Ok, refl, ap, sym, ◌∙◌, subst, arith, true, false, append_assoc}
use Rattle.std.specs.Prelude.{◌==◌, filter, not, unwrap_or}
use Rattle.std.proofs.lemmas.Bool.{cases_Bool, eq-eqb, or_left, or_right}
use Rattle.spec_image.specs.Footprint.{SameOutside}
use Rattle.spec_image.specs.Image.{AreBytes, Image, Index, byte}
use Rattle.blk_model.specs.State.{State}
use Rattle.spec_format.specs.Address.{is_address, kind_of, rankings}
use Rattle.spec_format.specs.BlockFiles.{is_among, stands_in}
use Rattle.spec_format.specs.Claims.{Claim, claims_of, claims_of_all, has_claim, repeats}
use Rattle.spec_format.specs.Headers.{crash_of, this_id_of}
use Rattle.spec_format.specs.Records.{entry_normal, node_is_sealed}
use Rattle.spec_format.specs.Sealed.{record_range}
use Rattle.spec_format.proofs.SealedRecords.{whole_update}
use Rattle.spec_folder.specs.Entries.{Role}
use Rattle.spec_folder.specs.Footprint.{IsClear}
use Rattle.spec_folder.specs.Layout.{Layout}
use Rattle.spec_folder.specs.Loads.{all_claims, load, unchained_rule}
use Rattle.spec_folder.specs.Searches.{bucket_of_key}
use Rattle.spec_folder.specs.ListView.{ListView}
use Rattle.spec_folder.specs.ShownChanges.{OnlyRecordFieldsChange}
use Rattle.spec_folder.specs.Sound.{AreSealed, words_of}
use Rattle.spec_folder.specs.View.{fields_of, node_at, stands_as, store_of}
use Rattle.law_folder.proofs.claims.Allocations.{flat_map-append, words-claims}
use Rattle.law_folder.proofs.claims.ByteChanges.{agreeing-views, node-same}
use Rattle.law_folder.proofs.lists.WordTurns.{each}
use Rattle.law_folder.proofs.updates.Records.{fields-written}
use Rattle.blk_disk.specs.declared.tables.BlockFiles.{BlockFiles}
use Rattle.blk_alloc.proofs.Lists.{once_parts}
use Rattle.blk_entry.specs.declared.writing.NewEntry.{NewEntry}
use Rattle.blk_entry.specs.Parts.{IsStoredBeside, PartStreams, stream_changes}
use Rattle.blk_entry.specs.Writing.{FitsKey, IsLongPlace, LiesApart, loaded_new, new_record}
use Rattle.blk_entry.proofs.NewShown.{record_is_good}
use Rattle.blk_entry.proofs.Parts.{written-parts-load}
use Rattle.blk_stream.proofs.RecordSeals.{updated_sealed}
use Rattle.law_state.specs.Changes.{AreOfWords, ChangesOnly, StillFinds}
use Rattle.law_state.specs.Keeping.{KeepsUncounted}
use Rattle.law_state.proofs.AtNodes.{updates-change, updates-leave}
use Rattle.law_state.proofs.Free.{unlinked-change}
use Rattle.law_state.proofs.Keeping.{kept-held}
use Rattle.blk_object.proofs.KeptNewEntries.{new-node_sealed}
use Rattle.blk_object.specs.Making.{long_word, words_of_places}
use Rattle.blk_object.proofs.MakingStored.{changed-stored, counters-then, of-all}
use Rattle.blk_object.proofs.MakingTaken.{session-then}
use Rattle.blk_object.proofs.MakingWritten.{some-address, stored-address, words-are}
use Rattle.blk_sparse.specs.NewParts.{ArePartStreams, HasStreamsNow, IsChildWritten, IsPartLoaded, AreStoredAt, WritesPart, child_entry, new_part, streams_of_part, words_of_part}
use Rattle.blk_sparse.specs.declared.new_part.PartPlaces.{PartPlaces}
use Rattle.blk_sparse.proofs.NewIndex.{changes_are}

-- a used block that two words share in a list without repeats is none
shared : (words rest : List ℕ) (v w : ℕ) (c : Claim) → repeats (claims_of_all (words ++ rest)) ≡ false → is_among words v ≡ true → is_among rest w ≡ true → has_claim (claims_of v) c ≡ true → has_claim (claims_of w) c ≡ true → ⊥
shared words rest v w c once mine other a b =
    (once_parts (claims_of_all words) (claims_of_all rest) (ap repeats (sym (flat_map-append claims_of words rest)) ∙ once)).1 c (of-all words v c mine a) (of-all rest w c other b)

-- one of them is clear of the other
apart-clear : (words rest : List ℕ) (v w : ℕ) → repeats (claims_of_all (words ++ rest)) ≡ false → is_among words v ≡ true → is_among rest w ≡ true → IsClear (has_claim (claims_of v)) w
apart-clear words rest v w once mine other c has = ⊎_elim
    (λ (e : has_claim (claims_of v) c ≡ true). absurd (shared words rest v w c once mine other e has))
    (λ (e : has_claim (claims_of v) c ≡ false). e)
    (cases_Bool (has_claim (claims_of v) c))

-- and the other of it
clear-apart : (words rest : List ℕ) (v w : ℕ) → repeats (claims_of_all (words ++ rest)) ≡ false → is_among words v ≡ true → is_among rest w ≡ true → IsClear (has_claim (claims_of w)) v
clear-apart words rest v w once mine other c has = ⊎_elim
    (λ (e : has_claim (claims_of w) c ≡ true). absurd (shared words rest v w c once mine other has e))
    (λ (e : has_claim (claims_of w) c ≡ false). e)
    (cases_Bool (has_claim (claims_of w) c))

-- the words of a part
part-words : (node entry : ℕ) (long_key : Option ℕ) (stored index : ℕ) (files : BlockFiles) (key_len : ℕ) → is_address node ≡ true → is_address entry ≡ true → IsLongPlace files key_len long_key → is_address stored ≡ true → is_address index ≡ true
    → filter (λ w. not (w == 0)) (node ∷ entry ∷ unwrap_or long_key 0 ∷ 0 ∷ stored ∷ index ∷ 0 ∷ []) ≡ (node ∷ entry ∷ long_word long_key) ++ (stored ∷ index ∷ [])
part-words node entry None stored index files key_len is_node is_entry place is_stored is_index =
    let n = some-address node is_node in
    let e = some-address entry is_entry in
    let s = some-address stored is_stored in
    let i = some-address index is_index in
    rw (n, e, s, i) refl
part-words node entry (Some w) stored index files key_len is_node is_entry place is_stored is_index =
    let n = some-address node is_node in
    let e = some-address entry is_entry in
    let s = some-address stored is_stored in
    let i = some-address index is_index in
    let l = some-address w (stored-address files key_len w place.1) in
    rw (n, e, l, s, i) refl

-- ---- the record is written

module _ (files : BlockFiles) (places : PartPlaces) (name : List ℕ) (moment : ℕ) (from mid : Image) (fits : FitsKey files (child_entry places.places 0) name) (w : IsChildWritten places.places name moment from mid) where
  abbrev new : NewEntry
  new = child_entry places.places w.next

  abbrev entry : ℕ
  entry = places.places.entry

  abbrev node : ℕ
  node = places.places.node

  abbrev words : List ℕ
  words = words_of_places places.places

  abbrev two : List ℕ
  two = places.stored ∷ places.index ∷ []

  fits_next : FitsKey files (child_entry places.places w.next) name
  fits_next = record { entry_kind = fits.entry_kind; entry_stands = fits.entry_stands; node_kind = fits.node_kind; node_stands = fits.node_stands; some = fits.some; most = fits.most; blocks = fits.blocks; long = fits.long }

  words_same : words_of (loaded_new (child_entry places.places w.next) name) ≡ words_of_places places.places
  words_same = words-are node entry places.places.long_key files (length name) w.words.node w.words.entry fits.long

  of_child : AreOfWords (has_claim (all_claims (loaded_new (child_entry places.places w.next) name))) (words_of_places places.places)
  of_child c has = subst (λ (ws : List ℕ). has_claim (claims_of_all ws) c ≡ true) words_same (ap (λ (cs : List Claim). has_claim cs c) (words-claims (loaded_new new name)) ∙ has)

  node_among : is_among (words_of_places places.places) places.places.node ≡ true
  node_among = or_left (node == node) _ (eq-eqb node node refl)

  entry_among : is_among (words_of_places places.places) places.places.entry ≡ true
  entry_among = or_right (node == entry) _ (or_left (entry == entry) _ (eq-eqb entry entry refl))

  of_entry : AreOfWords (has_claim (claims_of places.places.entry)) (words_of_places places.places)
  of_entry c has = of-all words entry c entry_among has

  module _ (state : State) (layout : Layout) (unlinked : List ℕ) (k : KeepsUncounted state layout (words_of_part places ++ unlinked) from) where
    begun : KeepsUncounted state layout (words_of_places places.places ++ ((places.stored ∷ places.index ∷ []) ++ unlinked)) from
    begun = subst (λ (ws : List ℕ). KeepsUncounted state layout ws from) (append_assoc words two unlinked) k

    halfway : KeepsUncounted state layout (words_of_places places.places ++ ((places.stored ∷ places.index ∷ []) ++ unlinked)) mid
    halfway = unlinked-change (has_claim (all_claims (loaded_new new name))) words from mid of_child w.change state layout (two ++ unlinked) begun

    entry_stands : stands_in mid places.places.entry ≡ true
    entry_stands = let stand = halfway.unlinked_words.stand in stand.1.0

    node_stands : stands_in mid places.places.node ≡ true
    node_stands = let stand = halfway.unlinked_words.stand in stand.0

    module _ (image : Image) (outside : SameOutside (record_range places.places.entry) mid image) where
      update : ChangesOnly (has_claim (claims_of places.places.entry)) mid image
      update = updates-change mid image entry entry_stands (inr fits.entry_kind) outside

      done : KeepsUncounted state layout (words_of_places places.places ++ ((places.stored ∷ places.index ∷ []) ++ unlinked)) image
      done = unlinked-change (has_claim (claims_of entry)) words mid image of_entry update state layout (two ++ unlinked) halfway

      pub kept-end : KeepsUncounted state layout (words_of_part places ++ unlinked) image
      kept-end = subst (λ (ws : List ℕ). KeepsUncounted state layout ws image) (sym (append_assoc words two unlinked)) done

  -- while the record changes the old durable contents are recovered
  pub naming-finds : (image : Image) → SameOutside (record_range places.places.entry) mid image → StillFinds (words_of_part places) from image
  naming-finds image outside state layout unlinked k = let now = kept-end state layout unlinked k image outside in (now.sound, kept-held state layout (words_of_part places ++ unlinked) image now)

-- and before
pub child-finds : (places : PartPlaces) (from image : Image) → StillFinds (words_of_places places.places) from image → StillFinds (words_of_part places) from image
child-finds places from image finds state layout unlinked k =
    finds state layout ((places.stored ∷ places.index ∷ []) ++ unlinked) (subst (λ (ws : List ℕ). KeepsUncounted state layout ws from) (append_assoc (words_of_places places.places) (places.stored ∷ places.index ∷ []) unlinked) k)

-- ---- and it has its streams

module _ (files : BlockFiles) (places : PartPlaces) (name : List ℕ) (moment : ℕ) (bytes index : List ℕ) (role : Role) (from mid image : Image)
    (fits : FitsKey files (child_entry places.places 0) name) (apart : LiesApart places.places.entry places.places.long_key) (addresses : (is_address places.stored ≡ true) × (is_address places.index ≡ true)) (small_words : (places.stored < 2 ^ 32) × (places.index < 2 ^ 32))
    (bytes_mid : AreBytes mid) (bytes_end : AreBytes image) (streams : ArePartStreams places name bytes index role from)
    (w : IsChildWritten places.places name moment from mid) (n : HasStreamsNow places.places.entry (streams_of_part places bytes index) mid image) where
  abbrev its : NewEntry
  its = child_entry places.places w.next

  abbrev its-streams : PartStreams
  its-streams = streams_of_part places bytes index

  abbrev its-entry : ℕ
  its-entry = places.places.entry

  abbrev its-node : ℕ
  its-node = places.places.node

  abbrev its-words : List ℕ
  its-words = words_of_places places.places

  module _ (state : State) (layout : Layout) (unlinked : List ℕ) (k : KeepsUncounted state layout (words_of_part places ++ unlinked) from) where
    abbrev rest : List ℕ
    rest = (places.stored ∷ places.index ∷ []) ++ unlinked

    once : repeats (claims_of_all (words_of_places places.places ++ ((places.stored ∷ places.index ∷ []) ++ unlinked))) ≡ false
    once = (begun files places name moment from mid fits w state layout unlinked k).unlinked_words.single

    -- its streams are stored beside its record
    first_among : is_among ((places.stored ∷ places.index ∷ []) ++ unlinked) places.stored ≡ true
    first_among = or_left (places.stored == places.stored) _ (eq-eqb places.stored places.stored refl)

    second_among : is_among ((places.stored ∷ places.index ∷ []) ++ unlinked) places.index ≡ true
    second_among = or_right (places.stored == places.index) _ (or_left (places.index == places.index) _ (eq-eqb places.index places.index refl))

    still-stored : (a : ℕ) (bs : List ℕ) → is_among ((places.stored ∷ places.index ∷ []) ++ unlinked) a ≡ true → AreStoredAt a bs from → AreStoredAt a bs mid
    still-stored a bs among is = changed-stored (has_claim (all_claims (loaded_new its name))) its-words from mid (of_child files places name moment from mid fits w) w.change state layout rest (begun files places name moment from mid fits w state layout unlinked k) (length bs) a bs among is

    stored_beside : IsStoredBeside places.places.entry bytes places.stored mid
    stored_beside = record { few = let few = streams.few in omega (arith, few); word = small_words.0; stored = still-stored places.stored bytes first_among streams.stored; clear = apart-clear its-words rest its-entry places.stored once (entry_among files places name moment from mid fits w) first_among }

    index_beside : IsStoredBeside places.places.entry index places.index mid
    index_beside = record { few = let long = streams.long in omega (arith, long); word = small_words.1; stored = still-stored places.index index second_among streams.index_stored; clear = apart-clear its-words rest its-entry places.index once (entry_among files places name moment from mid fits w) second_among }

    loads : load (store_of image) (unchained_rule entry_normal) places.places.node ≡ Ok (new_part places name bytes index role)
    loads = written-parts-load files its name moment its-streams role mid image (fits_next files places name moment from mid fits w) w.words apart refl bytes_mid w.shown stored_beside index_beside streams.role_is n.updated n.outside

    moved-fields : OnlyRecordFieldsChange places.places.entry mid image
    moved-fields =
        let update = whole_update mid image its-entry (stream_changes its-streams) n.updated n.outside in
        (fields-written mid image its-entry (stream_changes its-streams) (fields_of (new_record its name moment)) (record { here = w.shown.fields; good = record_is_good its name moment; bytes = bytes_mid }) (changes_are its-entry its-streams fits.entry_kind)
        (each (λ change. 8 ≤ change.0) (44, length bytes) (48, length index) (60, places.stored) (64, places.index) (omega arith) (omega arith) (omega arith) (omega arith)) update.0).0

    -- its node is as it was
    node_clear : IsClear (has_claim (claims_of places.places.entry)) places.places.node
    node_clear = clear-apart (its-node ∷ []) (its-entry ∷ (long_word places.places.long_key ++ rest)) its-node its-entry once (or_left (its-node == its-node) false (eq-eqb its-node its-node refl)) (or_left (its-entry == its-entry) _ (eq-eqb its-entry its-entry refl))

    node_as : stands_as mid rankings places.places.node ≡ true
    node_as = let st = node_stands files places name moment from mid fits w state layout unlinked k in let kind = fits.node_kind in let e : (kind_of its-node == rankings) ≡ true = eq-eqb (kind_of its-node) rankings kind in rw (st, e) refl

    change : ChangesOnly (has_claim (claims_of places.places.entry)) mid image
    change = update files places name moment from mid fits w state layout unlinked k image n.outside

    node_still : node_at image places.places.node ≡ node_at mid places.places.node
    node_still = node-same (has_claim (claims_of its-entry)) mid image change.agree its-node node_as node_clear

    sealed : AreSealed image (new_part places name bytes index role)
    sealed = record {
      node = ap node_is_sealed (node_still ∙ w.written.node) ∙ new-node_sealed its moment;
      entry = updated_sealed mid image its-entry (stream_changes its-streams) bytes_end fits.entry_kind (changes_are its-entry its-streams fits.entry_kind) n.updated;
    }

    same-table : (b : ℕ) → (store_of image).table b ≡ (store_of from).table b
    same-table b = sym (moved-fields.rest.table b) ∙ sym ((agreeing-views (has_claim (all_claims (loaded_new its name))) from mid w.change.agree).table b)

    part-there : IsPartLoaded (new_part places name bytes index role) image
    part-there = record {
      loads = loads;
      follows = sym (moved-fields.chain_next its-entry) ∙ w.shown.chain_next ∙ w.follows ∙ sym (same-table (bucket_of_key name));
      good = ap (λ (l : ListView). l.checks its-node) moved-fields.rest.list ∙ w.shown.checks;
      sealed = sealed;
    }

  same-index : byte image Index ≡ byte mid Index
  same-index = λ j i. n.outside.bytes Index i refl j

  pub all-written : WritesPart places name bytes index role from image
  all-written = record {
    there = λ state layout unlinked k. record {
      kept = kept-end files places name moment from mid fits w state layout unlinked k image n.outside;
      there = part-there state layout unlinked k;
      nobodys = w.apart state layout ((places.stored ∷ places.index ∷ []) ++ unlinked) (begun files places name moment from mid fits w state layout unlinked k);
    };
    words_are = part-words its-node its-entry places.places.long_key places.stored places.index files (length name) w.words.node w.words.entry fits.long addresses.0 addresses.1;
    counters = counters-then from mid image w.counters (updates-leave mid image its-entry n.outside);
    session = session-then from mid image w.change.session (record { crash = ap crash_of same-index; id = ap this_id_of same-index });
  }
