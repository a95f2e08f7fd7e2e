-- What lies at a node while one of its streams is written, and then.
use Rattle.std.proofs.Common.{◌≡◌, ◌≢◌, ⊎_elim, inr, ℕ, zero, suc, ◌+◌, ◌<◌, ◌≤◌, List, [], ◌∷◌, ◌++◌, refl, ap, ap₂, sym, ◌∙◌, subst, arith, Bool, true, false, Ok, Option, Some, None}
use Rattle.std.specs.Prelude.{◌⊎◌, ◌==◌, ◌&&◌, ◌||◌, nat_le, not, slice_index, take, if◌then◌else◌}
use Rattle.std.specs.List.{flat_map}
use Rattle.std.specs.List.Sorted.{IsPermutation}
use Rattle.std.specs.Option.{option_and_then, option_map, option_map_or}
use Rattle.std.proofs.lemmas.Bool.{cases_Bool, eqb-true, or_left, or_right}
use Rattle.spec_image.specs.Bytes.{range_at}
use Rattle.spec_image.specs.Footprint.{SameOutside, either, nothing}
use Rattle.spec_image.specs.Image.{Block, External, File, Image, byte, has_file, length_of}
use Rattle.spec_image.proofs.Runs.{some_inj}
use Rattle.blk_model.specs.State.{State}
use Rattle.spec_format.specs.Address.{blocks_256, byte_size, external, external_number, file_selector, kind_of, place}
use Rattle.spec_format.specs.BlockFiles.{stands_in, is_among}
use Rattle.spec_format.specs.Claims.{BlockOf, Claim, claims_of, has_claim, repeats}
use Rattle.spec_format.specs.Records.{Node, entry_checks, entry_is_sealed, node_is_sealed}
use Rattle.spec_format.specs.Storage.{is_storage}
use Rattle.spec_format.specs.Sealed.{record_size, size_by_kind}
use Rattle.spec_folder.specs.Chains.{bucket_of_hash, is_of_bucket}
use Rattle.spec_folder.specs.Entries.{is_key_length, stored_key, stored_stream, stored_streams, stream, Role, role_of}
use Rattle.spec_folder.specs.Footprint.{IsClear, IsFreeBut, IsInsideNode, IsReplaced, SameBut, SameNodeLinks, KeepsName}
use Rattle.spec_folder.specs.Layout.{Layout, rule_of}
use Rattle.spec_folder.specs.Loads.{Loaded, all_claims, load, record_claims}
use Rattle.spec_folder.specs.View.{RecordFields, block_bytes, entry_at, fields_at, fields_of, follow_at, key_place_at, list_of, stands_as, store_of, stored_at, view_of}
use Rattle.spec_folder.specs.Sound.{AreSealed, words_of}
use Rattle.law_folder.proofs.chains.ChainWords.{shown-fields}
use Rattle.law_folder.proofs.claims.ByteChanges.{agreeing-views, node-same, stands-some}
use Rattle.law_folder.proofs.claims.ClaimLists.{claim-append}
use Rattle.law_folder.proofs.claims.Inside.{record-inside}
use Rattle.law_folder.proofs.claims.Outside.{clear-zero, index-claims}
use Rattle.law_folder.proofs.states.Laid.{repeats-tail}
use Rattle.law_folder.proofs.states.Marking.{repeats-apart}
use Rattle.law_folder.proofs.states.OthersHold.{others-clear}
use Rattle.law_folder.proofs.updates.StillShown.{standing-parts}
use Rattle.law_folder.proofs.walks.Loads.{load-then}
use Rattle.blk_disk.specs.declared.tables.BlockFiles.{BlockFiles}
use Rattle.blk_disk.specs.Tables.{Agrees, stands_among}
use Rattle.blk_alloc.proofs.Lists.{claims_blocks}
use Rattle.blk_entry.specs.Keys.{IsInside}
use Rattle.blk_entry.specs.Writing.{ShareNoBlock}
use Rattle.blk_entry.proofs.KeyPlaces.{of_other}
use Rattle.blk_stream.specs.Changing.{stream_words}
use Rattle.blk_stream.specs.Loading.{stored_streams_with}
use Rattle.blk_stream.specs.Moving.{data_at_place}
use Rattle.blk_stream.specs.Inside.{data_of}
use Rattle.blk_stream.specs.Streams.{address_word, size_word, streams_at}
use Rattle.blk_stream.proofs.Apart.{blocks_back, none_shared}
use Rattle.blk_stream.proofs.EmptyStreams.{fourth_of}
use Rattle.blk_stream.proofs.OwnedKept.{block_off}
use Rattle.blk_stream.proofs.StreamPlaces.{keeps_inside, stream_facts, streams_parts}
use Rattle.law_state.specs.Changes.{ChangesOnly, Finds}
use Rattle.law_state.specs.Keeping.{KeepsUncounted, all_nodes}
use Rattle.law_state.proofs.AtNodes.{free-but, node-of-it, record-own}
use Rattle.law_state.specs.ObjectLaws.{layout_after}
use Rattle.law_state.proofs.Free.{standing-loaded}
use Rattle.blk_object.proofs.WrittenChanges.{touched_of, written-only, written-stands}
use Rattle.blk_object.proofs.WrittenLoads.{load-written}
use Rattle.blk_object.proofs.WrittenRecords.{SameRecordBut, fields-still, key-still, next-still, streams-written}
use Rattle.blk_object.proofs.WrittenRoles.{IsStreamChange}
use Rattle.blk_model.specs.Items.{part}
use Rattle.blk_model.specs.Holding as model

-- ---- its role

-- where of its words only those of its streams change, a record has a role with other streams
abbrev pub KeepsRole : Loaded → Role → List (List ℕ) → Type 0
KeepsRole was role streams = (e d : RecordFields) → IsStreamChange e d → role_of e was.key was.streams ≡ Some was.role → role_of d was.key streams ≡ Some role

-- ---- the words of what lies at a node use different things

pub both-claimed : (xs : List ℕ) (i j : ℕ) (c : Claim) → i ≢ j → repeats (flat_map claims_of xs) ≡ false → has_claim (claims_of (slice_index xs i)) c ≡ true → has_claim (claims_of (slice_index xs j)) c ≡ true → ⊥
both-claimed [] i j c other once one two = let z : true ≡ false = sym one ∙ clear-zero (has_claim (claims_of 0)) c one in cc
both-claimed (x ∷ xs) zero zero c other once one two = other refl
both-claimed (x ∷ xs) zero (suc j) c other once one two = let z : true ≡ false = sym (index-claims xs j c two) ∙ repeats-apart (claims_of x) (flat_map claims_of xs) c once one in cc
both-claimed (x ∷ xs) (suc i) zero c other once one two = let z : true ≡ false = sym (index-claims xs i c one) ∙ repeats-apart (claims_of x) (flat_map claims_of xs) c once two in cc
both-claimed (x ∷ xs) (suc i) (suc j) c other once one two = both-claimed xs i j c (λ e. other (ap suc e)) (repeats-tail (claims_of x) (flat_map claims_of xs) once) one two

zero-suc : (n : ℕ) → zero ≡ suc n → ⊥
zero-suc n e = omega (arith, e)

-- the word of no bytes
none-storage : (size w : ℕ) → size ≡ 0 → is_storage size w ≡ true → w ≡ 0
unfolding is_storage
none-storage size w none e = eqb-true w 0 (let z : is_storage 0 w ≡ true = ap (λ (n : ℕ). is_storage n w) (sym none) ∙ e in z)

-- a place that is some, and stores something, is valid
some_there : (image : Image) (size w : ℕ) (bytes : List ℕ) → w ≢ 0 → stored_at image size w ≡ Some bytes → stands_in image w ≡ true
unfolding stored_at is_storage
some_there image size w bytes some e = go (is_storage size w) (size == 0) (stands_in image w) refl refl refl e where
  rest : Option (List ℕ)
  rest = if kind_of w == external then (if length_of image (External (external_number w)) == size then Some (range_at (byte image (External (external_number w))) 0 size) else None) else Some (range_at (block_bytes image w) (place w) size)

  go : (a z s : Bool) → is_storage size w ≡ a → (size == 0) ≡ z → stands_in image w ≡ s → (if not a then None else if z then Some [] else if not s then None else rest) ≡ Some bytes → stands_in image w ≡ true
  go a z true a_is z_is s_is h = s_is
  go false z false a_is z_is s_is h = let c : ◌≡◌ {A = Option (List ℕ)} None (Some bytes) = h in absurd (cc)
  go true false false a_is z_is s_is h = let c : ◌≡◌ {A = Option (List ℕ)} None (Some bytes) = h in absurd (cc)
  go true true false a_is z_is s_is h = absurd (some (none-storage size w (eqb-true size 0 z_is) a_is))

module _ (state : State) (layout : Layout) (unlinked : List ℕ) (from : Image) (k : KeepsUncounted state layout unlinked from) (node : ℕ) (was : Loaded) (lies : layout.at node ≡ Some was) where
  -- ---- its words

  loads : load (store_of from) (rule_of layout node) node ≡ Ok was
  loads = k.represents.holds.shows.each node was lies

  once : repeats (all_claims was) ≡ false
  once = k.represents.holds.lies.single node was lies

  pub record-once : repeats (claims_of was.contents ++ flat_map claims_of was.others) ≡ false
  unfolding all_claims record_claims
  record-once = repeats-tail (claims_of was.node) (claims_of was.contents ++ flat_map claims_of was.others) once

  others-once : repeats (flat_map claims_of was.others) ≡ false
  others-once = repeats-tail (claims_of was.contents) (flat_map claims_of was.others) record-once

  other-own : (m : ℕ) (c : Claim) → has_claim (claims_of (slice_index was.others m)) c ≡ true → layout.owner c ≡ Some node
  unfolding all_claims record_claims
  other-own m c e = k.represents.holds.lies.own node was c lies
      (claim-append (claims_of was.node) (claims_of was.contents ++ flat_map claims_of was.others) c
      ∙ or_right (has_claim (claims_of was.node) c) _ (claim-append (claims_of was.contents) (flat_map claims_of was.others) c ∙ or_right (has_claim (claims_of was.contents) c) _ (index-claims was.others m c e)))

  node-apart : (m : ℕ) (c : Claim) → has_claim (claims_of node) c ≡ true → has_claim (claims_of (slice_index was.others m)) c ≡ true → ⊥
  unfolding all_claims record_claims
  node-apart m c its e =
      let a : has_claim (claims_of was.contents ++ flat_map claims_of was.others) c ≡ false = repeats-apart (claims_of was.node) (claims_of was.contents ++ flat_map claims_of was.others) c once (ap (λ (x : ℕ). has_claim (claims_of x) c) (node-of-it state layout unlinked from k node was lies) ∙ its) in
      let z : true ≡ false = sym (claim-append (claims_of was.contents) (flat_map claims_of was.others) c ∙ or_right (has_claim (claims_of was.contents) c) _ (index-claims was.others m c e)) ∙ a in cc

  node-record-apart : (c : Claim) → has_claim (claims_of node) c ≡ true → has_claim (claims_of was.contents) c ≡ true → ⊥
  unfolding all_claims record_claims
  node-record-apart c its e =
      let a : has_claim (claims_of was.contents ++ flat_map claims_of was.others) c ≡ false = repeats-apart (claims_of was.node) (claims_of was.contents ++ flat_map claims_of was.others) c once (ap (λ (x : ℕ). has_claim (claims_of x) c) (node-of-it state layout unlinked from k node was lies) ∙ its) in
      let z : true ≡ false = sym (claim-append (claims_of was.contents) (flat_map claims_of was.others) c ∙ or_left (has_claim (claims_of was.contents) c) _ e) ∙ a in cc

  record-apart : (m : ℕ) (c : Claim) → has_claim (claims_of was.contents) c ≡ true → has_claim (claims_of (slice_index was.others m)) c ≡ true → ⊥
  record-apart m c one two = let z : true ≡ false = sym one ∙ others-clear was once m c two in cc

  -- its record is valid, as it loads
  pub stands-so : stands_as from blocks_256 was.contents ≡ true
  stands-so = (standing-loaded from layout node was loads).record_

  pub kind : kind_of was.contents ≡ blocks_256
  kind = (standing-parts from blocks_256 was.contents stands-so).1

  pub blocky : kind_of was.contents ≢ external
  blocky e = let z : ◌≡◌ {A = ℕ} 2 0 = sym kind ∙ e in cc

  pub long : 96 ≤ byte_size was.contents
  unfolding size_by_kind
  long = let inside = record-inside was.contents (inr kind) in let size : record_size was.contents ≡ 96 = ap size_by_kind kind in omega (arith, inside, size)

  -- what its record says
  pub record SaysSo : Type 0 where
    pub checks : entry_checks (entry_at from was.contents) ≡ true
    pub streams : stored_streams (store_of from) (fields_of (entry_at from was.contents)) ≡ Some was.streams
    pub at : streams_at from was.contents ≡ Some was.streams
    pub others : was.others ≡ (entry_at from was.contents).long_key ∷ (entry_at from was.contents).data_addr
    pub length_fits : is_key_length was.contents (fields_of (entry_at from was.contents)) ≡ true
    pub entry : (store_of from).entry was.contents ≡ Some (fields_of (entry_at from was.contents))

  pub says : SaysSo
  unfolding streams_at store_of
  says = load-then (store_of from) (rule_of layout node) node was loads (λ n e f.
      let there : (store_of from).entry was.contents ≡ Some e = ap (store_of from).entry f.facts.contents_is ∙ f.entry in
      let same : fields_of (entry_at from was.contents) ≡ e = shown-fields from was.contents e there in
      record {
        checks = ap (λ (x : RecordFields). x.checks) same ∙ f.checks;
        streams = ap (stored_streams (store_of from)) same ∙ f.facts.streams;
        at = ap (option_and_then (stored_streams (store_of from))) there ∙ f.facts.streams;
        others = f.facts.others_are ∙ ap (λ (x : RecordFields). x.long_key ∷ x.data_addr) (sym same);
        length_fits = ap (is_key_length was.contents) same ∙ ap (λ (w : ℕ). is_key_length w e) f.facts.contents_is ∙ f.facts.keyed.key_length;
        entry = there ∙ ap Some (sym same);
      })

  pub its-address : (m : ℕ) → slice_index was.others (suc m) ≡ address_word from was.contents m
  its-address m = ap (λ (xs : List ℕ). slice_index xs (suc m)) says.others

  pub its-long-key : slice_index was.others 0 ≡ (entry_at from was.contents).long_key
  its-long-key = ap (λ (xs : List ℕ). slice_index xs 0) says.others

  -- ---- a stream of it is written in a place of its own, or only its record's words are

  pub other-address : (i : ℕ) → i < 3 → address_word from was.contents i ≢ 0 → stands_in from (address_word from was.contents i) ≡ true
  unfolding stored_stream store_of
  other-address i few some = go (nat_le (size_word from was.contents i) 2147483647) (streams_parts from (fields_of (entry_at from was.contents)) was.streams says.streams i few) where
    go : (b : Bool) → (if b then stored_at from (size_word from was.contents i) (address_word from was.contents i) else None) ≡ Some (stream i was.streams) → stands_in from (address_word from was.contents i) ≡ true
    go true e = some_there from (size_word from was.contents i) (address_word from was.contents i) (stream i was.streams) some e
    go false e = let z : ◌≡◌ {A = Option (List ℕ)} None (Some (stream i was.streams)) = e in absurd (cc)

  -- the data of a stream lies inside its place
  pub data-inside : (files : BlockFiles) (i : ℕ) → Agrees files from → i < 3 → IsInside files (address_word from was.contents i) 0 (size_word from was.contents i)
  data-inside files i agrees few = keeps_inside files (size_word from was.contents i) (address_word from was.contents i) 0 (size_word from was.contents i) (stream_facts files from was.contents i was.streams agrees few says.at).keep (omega arith)

  module _ (files : BlockFiles) (stands_files : stands_among files was.contents ≡ true) (i : ℕ) (few : i < 3) (w : ℕ) (w_is : (w ≡ 0) ⊎ (w ≡ address_word from was.contents i)) (inside : w ≢ 0 → IsInside files w 0 (size_word from was.contents i))
      (image : Image) (same : SameOutside (either (stream_words was.contents i) (data_at_place w)) from image) (shown : entry_checks (entry_at image was.contents) ≡ true) (files_same : (file : File) → has_file image file ≡ has_file from file) where
    abbrev touched : Claim → Bool
    touched = touched_of was.contents w

    w-among : (c : Claim) → has_claim (claims_of w) c ≡ true → has_claim (claims_of (slice_index was.others (suc i))) c ≡ true
    w-among c e = ⊎_elim
        (λ (h : w ≡ 0). let z : true ≡ false = clear-zero (λ x. true) c (ap (λ (x : ℕ). has_claim (claims_of x) c) (sym h) ∙ e) in absurd (cc))
        (λ (h : w ≡ address_word from was.contents i). ap (λ (x : ℕ). has_claim (claims_of x) c) (its-address i ∙ sym h) ∙ e)
        w_is

    pub w-there : w ≢ 0 → kind_of w ≢ external → stands_in from w ≡ true
    w-there some blocks = ⊎_elim
        (λ (h : w ≡ 0). absurd (some h))
        (λ (h : w ≡ address_word from was.contents i). ap (stands_in from) h ∙ other-address i few (λ e. some (h ∙ e)))
        w_is

    pub stands-before : stands_in from was.contents ≡ true
    stands-before = (standing-parts from blocks_256 was.contents stands-so).0

    pub only : ChangesOnly touched from image
    only = written-only from was.contents i w kind few stands-before w-there image same files_same

    -- what is touched is its own
    either-of : {P : Type 0} (c : Claim) → touched c ≡ true → (has_claim (claims_of was.contents) c ≡ true → P) → (has_claim (claims_of w) c ≡ true → P) → P
    either-of c e one other = ⊎_elim
        (λ (h : has_claim (claims_of was.contents) c ≡ true). one h)
        (λ (h : has_claim (claims_of was.contents) c ≡ false). other (let t : (has_claim (claims_of was.contents) c || has_claim (claims_of w) c) ≡ true = sym (claim-append (claims_of was.contents) (claims_of w) c) ∙ e in rw h at t))
        (cases_Bool (has_claim (claims_of was.contents) c))

    pub untouched : (c : Claim) → (has_claim (claims_of was.contents) c ≡ true → ⊥) → (has_claim (claims_of w) c ≡ true → ⊥) → touched c ≡ false
    untouched c one other = ⊎_elim (λ (h : touched c ≡ true). absurd (either-of c h one other)) (λ (h : touched c ≡ false). h) (cases_Bool (touched c))

    pub free : IsFreeBut node touched layout
    free = free-but state layout unlinked from k node was lies touched (λ c e. either-of c e (record-own state layout unlinked from k node was lies c) (λ h. other-own (suc i) c (w-among c h)))

    clear-node : IsClear touched node
    clear-node c its = untouched c (node-record-apart c its) (λ h. node-apart (suc i) c its (w-among c h))

    clear-other : (m : ℕ) → m ≢ suc i → IsClear touched (slice_index was.others m)
    clear-other m apart c its = untouched c (λ h. record-apart m c h its) (λ h. both-claimed was.others m (suc i) c apart others-once its (w-among c h))

    pub views : SameBut touched (view_of from) (view_of image)
    views = agreeing-views touched from image only.agree

    pub links : SameNodeLinks node (list_of from) (list_of image)
    links = record { checks = views.links.checks node clear-node; next = views.links.next node clear-node; prev = views.links.prev node clear-node }

    node-fields : (store_of image).node_fields node ≡ (store_of from).node_fields node
    node-fields = sym (views.store.node_fields node clear-node)

    -- its record, but for the words of the stream
    shared : w ≢ 0 → kind_of w ≢ external → ShareNoBlock was.contents w
    shared some blocks = blocks_back w was.contents (none_shared w was.contents (λ b mine its.
        record-apart (suc i) (BlockOf (file_selector w) b) (claims_blocks was.contents (file_selector w) b (record { some = stands-some from was.contents stands-before; block_kind = blocky }) ∙ its)
        (w-among (BlockOf (file_selector w) b) (claims_blocks w (file_selector w) b (record { some = some; block_kind = blocks }) ∙ mine))))

    data-off : (at : ℕ) → place was.contents ≤ at → at < place was.contents + byte_size was.contents → (data_at_place w).bytes (Block (file_selector was.contents)) at ≡ false
    unfolding data_at_place
    data-off at low high = by_test (w == 0) refl where
      by_test : (t : Bool) → (w == 0) ≡ t → (if t then nothing else data_of w).bytes (Block (file_selector was.contents)) at ≡ false
      by_test true e = refl
      by_test false e = block_off files was.contents w (size_word from was.contents i) at blocky stands_files (inside (of_other w 0 e)) (shared (of_other w 0 e)) low high

    pub record-same : SameRecordBut was.contents i from image
    record-same at low high off = same.bytes (Block (file_selector was.contents)) at (let clear = data-off at low high in rw (off, clear) refl)

    pub stands-after : stands_as image blocks_256 was.contents ≡ true
    stands-after = ap (λ (b : Bool). b && (kind_of was.contents == blocks_256)) (written-stands from was.contents i w kind few stands-before w-there image same was.contents blocky) ∙ stands-so

    abbrev said : RecordFields
    said = fields_of (entry_at image was.contents)

    entry-after : (store_of image).entry was.contents ≡ Some said
    unfolding store_of fields_at
    entry-after = rw stands-after refl

    pub change : IsStreamChange (fields_of (entry_at from was.contents)) (fields_of (entry_at image was.contents))
    change = fields-still was.contents i kind few from image long record-same shown says.checks

    chain-same : (store_of image).chain_next was.contents ≡ (store_of from).chain_next was.contents
    unfolding store_of follow_at
    chain-same = let next = next-still was.contents i kind few from image long record-same in rw (stands-after, stands-so) next

    bucket-same : (bucket : ℕ) → is_of_bucket (store_of image) bucket was.contents ≡ is_of_bucket (store_of from) bucket was.contents
    bucket-same bucket =
        ap (λ (o : Option RecordFields). option_map_or (λ fields. fields.checks && (bucket_of_hash fields.hash == bucket)) o false) entry-after
        ∙ ap₂ (λ (b : Bool) (h : ℕ). b && (bucket_of_hash h == bucket)) change.checks change.hash
        ∙ ap (λ (o : Option RecordFields). option_map_or (λ fields. fields.checks && (bucket_of_hash fields.hash == bucket)) o false) (sym says.entry)

    pub inside-node : IsInsideNode touched (view_of from) (view_of image) layout node was
    inside-node = record { apart = free; node_fields = node-fields; bucket = bucket-same; chain_next = chain-same; links = links }

    -- ---- what it loads then

    stays : (j : ℕ) → j < 3 → j ≢ i → (store_of image).stored (size_word from was.contents j) (address_word from was.contents j) ≡ (store_of from).stored (size_word from was.contents j) (address_word from was.contents j)
    stays j less other = sym (views.store.stored (size_word from was.contents j) (address_word from was.contents j) (subst (IsClear touched) (its-address j) (clear-other (suc j) (λ e. other (omega (arith, e))))))

    key-same : stored_key (store_of image) was.contents (fields_of (entry_at image was.contents)) ≡ stored_key (store_of from) was.contents (fields_of (entry_at from was.contents))
    unfolding stored_key store_of
    key-same = ap₂ (λ (n l : ℕ). if nat_le n 927 then (if l == 0 then Some (key_place_at image was.contents n) else None) else option_map (take n) (stored_at image (n + 1) l)) change.key_len change.long_key ∙ go (nat_le (entry_at from was.contents).key_len 927) refl where
      go : (b : Bool) → nat_le (entry_at from was.contents).key_len 927 ≡ b → (if b then (if (entry_at from was.contents).long_key == 0 then Some (key_place_at image was.contents (entry_at from was.contents).key_len) else None) else option_map (take (entry_at from was.contents).key_len) (stored_at image ((entry_at from was.contents).key_len + 1) (entry_at from was.contents).long_key))
          ≡ (if b then (if (entry_at from was.contents).long_key == 0 then Some (key_place_at from was.contents (entry_at from was.contents).key_len) else None) else option_map (take (entry_at from was.contents).key_len) (stored_at from ((entry_at from was.contents).key_len + 1) (entry_at from was.contents).long_key))
      go true short = ap (λ (ks : List ℕ). if (entry_at from was.contents).long_key == 0 then Some ks else None) (key-still was.contents i kind few from image long record-same (fields_of (entry_at from was.contents)) says.length_fits short)
      go false short = ap (option_map (take (entry_at from was.contents).key_len)) (sym (views.store.stored ((entry_at from was.contents).key_len + 1) (entry_at from was.contents).long_key (subst (IsClear touched) its-long-key (clear-other 0 (λ e. absurd (zero-suc i e))))))

    -- its record keeps its flags and its key
    pub name-same : KeepsName (store_of from) (store_of image) (part [] 0) was.contents
    name-same e d before then_is =
        subst (λ (x : RecordFields). (d.flags ≡ x.flags) × (stored_key (store_of image) was.contents d ≡ stored_key (store_of from) was.contents x)) (some_inj (sym says.entry ∙ before))
        (subst (λ (y : RecordFields). (y.flags ≡ (fields_of (entry_at from was.contents)).flags) × (stored_key (store_of image) was.contents y ≡ stored_key (store_of from) was.contents (fields_of (entry_at from was.contents)))) (some_inj (sym entry-after ∙ then_is))
        (change.flags, key-same))

    module _ (new : List ℕ) (stored : stored_stream (store_of image) (fields_of (entry_at image was.contents)) i ≡ Some new) (role : Role) (roles : KeepsRole was role (stored_streams_with i new was.streams)) where
      abbrev pub now : Loaded
      now = record was { role = role; streams = stored_streams_with i new was.streams; others = (entry_at image was.contents).long_key ∷ (entry_at image was.contents).data_addr }

      all-streams : stored_streams (store_of image) (fields_of (entry_at image was.contents)) ≡ Some (stored_streams_with i new was.streams)
      all-streams = streams-written was.contents i kind few from image long record-same was.streams says.streams stays new stored (fourth_of from was.contents was.streams says.at)

      pub now-loads : load (store_of image) (rule_of layout node) node ≡ Ok now
      now-loads = load-written (store_of from) (store_of image) (rule_of layout node) node was refl loads node-fields (fields_of (entry_at image was.contents)) entry-after (stored_streams_with i new was.streams) role
          (λ e is. let one = some_inj (sym says.entry ∙ is) in subst (λ (x : RecordFields). IsStreamChange x said × (is_key_length was.contents x ≡ true → stored_key (store_of image) was.contents said ≡ stored_key (store_of from) was.contents x)) one (change, λ _. key-same))
          all-streams
          (λ e is before. let one = some_inj (sym says.entry ∙ is) in roles e said (subst (λ (x : RecordFields). IsStreamChange x said) one change) before)

      pub is-replaced : IsReplaced touched (view_of from) (view_of image) layout node was now
      is-replaced = record { apart = free; loads = now-loads; bucket = bucket-same; chain_next = chain-same; links = links }

      pub still-sealed : entry_is_sealed (entry_at image was.contents) ≡ true → AreSealed image now
      still-sealed sealed = record {
        node = ap (λ (n : Node). node_is_sealed n) (node-same touched from image only.agree was.node (standing-loaded from layout node was loads).node (subst (IsClear touched) (sym (node-of-it state layout unlinked from k node was lies)) clear-node)) ∙ (k.sealed node was lies).node;
        entry = sealed;
      }

-- ---- what may be written so

-- what lies at a node may have other streams and another role: while it changes inside the old durable contents are recovered, and once it has them the next
-- state is kept
pub record MayBecome (state after : State) (layout : Layout) (node : ℕ) (was : Loaded) (role : Role) (streams : List (List ℕ)) : Type 0 where
  pub lies : layout.at node ≡ Some was
  pub among : (unlinked : List ℕ) (from : Image) (k : KeepsUncounted state layout unlinked from) → is_among (all_nodes state layout k.numbers) node ≡ true
  pub finds : (touched : Claim → Bool) (unlinked : List ℕ) (from image : Image) → KeepsUncounted state layout unlinked from → ChangesOnly touched from image → IsInsideNode touched (view_of from) (view_of image) layout node was
      → KeepsName (store_of from) (store_of image) (part [] 0) was.contents → Finds (model.rest state) image
  pub roles : KeepsRole was role streams
  pub keeps : (touched : Claim → Bool) (unlinked left others : List ℕ) (from image : Image) → KeepsUncounted state layout unlinked from → ChangesOnly touched from image → IsReplaced touched (view_of from) (view_of image) layout node was (record was { role = role; streams = streams; others = others })
      → IsPermutation (unlinked ++ words_of was) (left ++ words_of (record was { role = role; streams = streams; others = others })) → AreSealed image (record was { role = role; streams = streams; others = others })
      → KeepsUncounted after (layout_after layout node (record was { role = role; streams = streams; others = others })) left image
