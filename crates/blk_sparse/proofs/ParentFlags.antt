-- The record of a plain object whose third stream is the index of a parent gets the flags of a parent.
use Rattle.std.proofs.Common.{◌≡◌, ◌≢◌, inr, ⊎_elim, ℕ, zero, suc, ◌+◌, ◌%◌, ◌<◌, ◌≤◌, List, [], ◌∷◌, ◌++◌, All, take, refl, ap, ap₂, sym, ◌∙◌, subst, arith, lit<, length, Bool, true, false, Ok, Option, Some, inl}
use Rattle.std.specs.Prelude.{◌⊎◌, ◌==◌, IfSome, nat_le, slice_index, if◌then◌else◌}
use Rattle.std.proofs.lemmas.Bool.{cases_Bool, eq-eqb}
use Rattle.std.proofs.lemmas.List.Elements.{All-cons, All-nil}
use Rattle.std.proofs.lemmas.List.Sorted.{IsPermutation-refl}
use Rattle.spec_image.specs.Bytes.{content, word_at, words_at}
use Rattle.spec_image.specs.Image.{AreBytes, Image}
use Rattle.spec_image.specs.Steps.{with_word, with_words, after}
use Rattle.spec_image.proofs.Runs.{some_inj, told_whole}
use Rattle.spec_image.proofs.Words.{word-beside, word-there}
use Rattle.blk_model.specs.Holding as model
use Rattle.blk_model.specs.Items.{Row, main, main_row, part_row, plain, sparse, Shape, is_sparse, Streams}
use Rattle.blk_model.specs.State.{Object, State, object_at}
use Rattle.blk_model.proofs.States.{has_main}
use Rattle.spec_format.specs.Address.{blocks_256, kind_of, rankings}
use Rattle.spec_format.specs.Claims.{claims_of, has_claim, repeats}
use Rattle.spec_format.specs.Records.{Node, entry_in, node_is_sealed, Entry}
use Rattle.spec_format.specs.Sealed.{AreChanges, IsMidUpdate, RecordChecks, record_at, seal_place, sealed_steps}
use Rattle.spec_format.specs.SparseIndex.{ParentIndex, read_parent_index}
use Rattle.spec_folder.specs.Audit.{is_parent_of}
use Rattle.spec_folder.specs.Entries.{IsParent, IsPart, IsPlain, Role, is_key_length, parent_role, part_role, role_of, stored_key, stored_stream, stored_streams, stream}
use Rattle.spec_folder.specs.Footprint.{IsClear, IsInsideNode}
use Rattle.spec_folder.specs.Found.{row_with}
use Rattle.spec_folder.specs.Layout.{Layout, rule_of}
use Rattle.spec_folder.specs.ListImages.{IsWritable}
use Rattle.spec_folder.specs.Loads.{Loaded, all_claims, load}
use Rattle.spec_folder.specs.ShownChanges.{OnlyRecordFieldsChange}
use Rattle.spec_folder.specs.Sound.{AreSealed, words_of}
use Rattle.spec_folder.specs.View.{RecordFields, address_of, data_size_of, entry_at, fields_of, store_of, view_of, stands_as, fields_at}
use Rattle.spec_format.specs.BlockFiles.{stands_in}
use Rattle.law_folder.specs.RecordUpdates.{sealed_fields}
use Rattle.law_folder.proofs.chains.ChainWords.{record_checks}
use Rattle.law_folder.proofs.claims.ByteChanges.{node-same}
use Rattle.law_folder.proofs.states.OthersHold.{others-clear}
use Rattle.law_folder.proofs.states.Settling.{main-listed, main-owned}
use Rattle.law_folder.proofs.updates.Records.{fields-written}
use Rattle.law_folder.proofs.updates.StillShown.{core-standing, standing-parts}
use Rattle.law_folder.proofs.updates.Updates.{entry-seal, entry-here}
use Rattle.law_folder.proofs.walks.Loading.{load-from}
use Rattle.law_folder.proofs.walks.Loads.{load-then}
use Rattle.law_state.specs.Changes.{Finds, ChangesOnly}
use Rattle.law_state.specs.PartStates.{with_object}
use Rattle.law_state.proofs.AtNodes.{updates-change, updates-leave}
use Rattle.law_state.proofs.ChangedStates.{main-changed}
use Rattle.law_state.proofs.Dirtying.{set-at}
use Rattle.law_state.proofs.Free.{standing-loaded}
use Rattle.law_state.proofs.Links.{updates-are-inside}
use Rattle.law_state.proofs.Objects.{changed-items-kept, unsettled-find}
use Rattle.law_state.proofs.RecordSteps.{long-record, rewritten, rewritten-fields, rewritten-only, rewritten-outside, rewritten-sealed, was-fields}
use Rattle.blk_sparse.specs.Beginning.{CanGetIndex, IsParentMarked, as_sparse, parent_change, ForEachWithIndex}
use Rattle.blk_object.proofs.WrittenRoles.{parent-of, part-of}
use Rattle.blk_object.proofs.WrittenObjects.{IsRowOf, object-row}
use Rattle.blk_object.proofs.WrittenItems.{SaysSo, says}
use Rattle.blk_object.specs.Writing.{node_of_object}
use Rattle.blk_object.proofs.OwnedCharges.{key-length}
use Rattle.blk_object.proofs.TakenParts.{node-clear}
use Rattle.blk_disk.specs.declared.tables.BlockFiles.{BlockFiles}
use Rattle.spec_image.specs.Told.{Told, Applies, TellsBytes}
use Rattle.std.specs.Option.{ForSome}
use Rattle.blk_disk.specs.Open.{IsOpen}
use Rattle.blk_object.proofs.HeldDooms.{open-writable}

-- ---- the words

-- the flags may be changed
pub flags-changes : (w : ℕ) → kind_of w ≡ blocks_256 → AreChanges (seal_place w) parent_change
flags-changes w kind = let s = entry-seal w kind in record {
  few = omega arith;
  aligned = All-cons (λ (c : ℕ × ℕ). c.0 % 4 ≡ 0) (72, 1) [] refl (All-nil (λ (c : ℕ × ℕ). c.0 % 4 ≡ 0));
  before = All-cons (λ (c : ℕ × ℕ). c.0 < seal_place w) (72, 1) [] (omega (arith, s)) (All-nil (λ (c : ℕ × ℕ). c.0 < seal_place w));
  different = (All-nil (λ (c : ℕ × ℕ). c.0 ≢ 72), tt);
}

behind-next : All (λ (c : ℕ × ℕ). 8 ≤ c.0) parent_change
behind-next = All-cons (λ (c : ℕ × ℕ). 8 ≤ c.0) (72, 1) [] (omega arith) (All-nil (λ (c : ℕ × ℕ). 8 ≤ c.0))

before-seal : (w : ℕ) → kind_of w ≡ blocks_256 → All (λ (c : ℕ × ℕ). c.0 + 4 ≤ seal_place w) parent_change
before-seal w kind = let s = entry-seal w kind in All-cons (λ (c : ℕ × ℕ). c.0 + 4 ≤ seal_place w) (72, 1) [] (omega (arith, s)) (All-nil (λ (c : ℕ × ℕ). c.0 + 4 ≤ seal_place w))

-- in the bytes of a record
flags-fields : (bytes : List ℕ) → length bytes ≡ 96 → sealed_fields (with_words parent_change bytes) ≡ record (sealed_fields bytes) { flags = 1 }
unfolding entry_in words_at
flags-fields bytes long =
    let low = (λ (j : ℕ) (h : j + 4 ≤ 72). word-beside j 72 1 bytes (inl h)) in
    let there : word_at (content (with_word 72 1 bytes)) 72 ≡ 1 = word-there 72 1 bytes (lit< tt) (omega (arith, long)) in
    λ i. record {
      checks = true;
      hash = low 0 (omega arith) i;
      rankings_node = low 8 (omega arith) i;
      state = low 20 (omega arith) i;
      key_len = low 32 (omega arith) i;
      long_key = low 36 (omega arith) i;
      data_size = low 40 (omega arith) i ∷ low 44 (omega arith) i ∷ low 48 (omega arith) i ∷ low 52 (omega arith) i ∷ [];
      data_addr = low 56 (omega arith) i ∷ low 60 (omega arith) i ∷ low 64 (omega arith) i ∷ low 68 (omega arith) i ∷ [];
      flags = there i;
    }

-- at each word the hash is the same
hash-still : (made : ℕ) (bytes : List ℕ) → (sealed_fields (with_words (take made parent_change) bytes)).hash ≡ (sealed_fields bytes).hash
unfolding entry_in
hash-still zero bytes = refl
hash-still (suc zero) bytes = word-beside 0 72 1 bytes (inl (omega arith))
hash-still (suc (suc made)) bytes = word-beside 0 72 1 bytes (inl (omega arith))

-- ---- the object

abbrev shape-in : Row → Shape
shape-in (main_row key shape streams) = shape
shape-in (part_row key n value) = plain

abbrev is-main : Row → Bool
is-main (main_row key shape streams) = true
is-main (part_row key n value) = false

-- a plain row is that of no index and of no part
plain-role : (key k : List ℕ) (os : Streams) (streams : List (List ℕ)) (role : Role) → row_with key role streams ≡ main_row k plain os → role ≡ IsPlain
plain-role key k os streams IsPlain e = refl
plain-role key k os streams (IsParent index) e = absurd (let z : true ≡ false = ap (λ (r : Row). is_sparse (shape-in r)) e in cc)
plain-role key k os streams (IsPart name index) e = absurd (let z : false ≡ true = ap is-main e in cc)

-- no parent is plain, and no part
never-parent : (e : RecordFields) (streams : List (List ℕ)) → parent_role e streams ≡ Some IsPlain → ⊥
never-parent e streams is = let p = parent-of e streams IsPlain is in let c : IsPlain ≡ IsParent p.index = p.is in cc

never-part : (key : List ℕ) (streams : List (List ℕ)) → part_role key streams ≡ Some IsPlain → ⊥
never-part key streams is = let p = part-of key streams IsPlain is in let c : IsPlain ≡ IsPart p.name p.index = p.is in cc

-- the flags of a plain record are none of a parent's or a part's
pub record ArePlain (flags : ℕ) : Type 0 where
  pub no_parent : (flags == 1) ≡ false
  pub no_child : (flags == 2) ≡ false

plain-flags : (e : RecordFields) (key : List ℕ) (streams : List (List ℕ)) → role_of e key streams ≡ Some IsPlain → ArePlain e.flags
unfolding role_of parent_role part_role
plain-flags e key streams is = go (e.flags == 1) (e.flags == 2) refl refl is where
  go : (a b : Bool) → (e.flags == 1) ≡ a → (e.flags == 2) ≡ b → (if a then parent_role e streams else if b then part_role key streams else Some IsPlain) ≡ Some IsPlain → ArePlain e.flags
  go true b one two h = absurd (never-parent e streams h)
  go false true one two h = absurd (never-part key streams h)
  go false false one two h = record { no_parent = one; no_child = two }

-- with those of a parent it is one
parent-role : (e : RecordFields) (streams : List (List ℕ)) (key : List ℕ) (index : ParentIndex) → stream 1 streams ≡ [] → read_parent_index (stream 2 streams) ≡ Some index → index.key_len ≡ e.key_len → role_of (record e { flags = 1 }) key streams ≡ Some (IsParent index)
unfolding role_of parent_role
parent-role e streams key index none is len =
    let alike : (index.key_len == e.key_len) ≡ true = eq-eqb index.key_len e.key_len len in
    rw (none, is, alike) refl

-- the length of the key has the same bounds
length-same : (w : ℕ) (e : RecordFields) → ArePlain e.flags → is_key_length w (record e { flags = 1 }) ≡ is_key_length w e
unfolding is_key_length
length-same w e p = rw p.no_child refl

-- nothing is in the second stream of a plain row that has nothing there
abbrev streams-in : Row → Streams
streams-in (main_row key shape streams) = streams
streams-in (part_row key n value) = ([], [], [])

abbrev key-in : Row → List ℕ
key-in (main_row key shape streams) = key
key-in (part_row key n value) = key

plain-key : (key k : List ℕ) (os : Streams) (streams : List (List ℕ)) (role : Role) → role ≡ IsPlain → row_with key role streams ≡ main_row k plain os → key ≡ k
plain-key key k os streams role is e = ap key-in (sym (ap (λ (r : Role). row_with key r streams) is) ∙ e)

plain-streams : (key k : List ℕ) (os : Streams) (streams : List (List ℕ)) (role : Role) → role ≡ IsPlain → row_with key role streams ≡ main_row k plain os → (stream 0 streams, stream 1 streams, stream 2 streams) ≡ os
plain-streams key k os streams role is e = ap streams-in (sym (ap (λ (r : Role). row_with key r streams) is) ∙ e)

-- the key and the streams lie where they did
key-flagged : (from image : Image) (w c : ℕ) (e : RecordFields) → OnlyRecordFieldsChange w from image → c ≡ w → IsClear (has_claim (claims_of w)) e.long_key → (store_of from).entry c ≡ Some e → is_key_length c e ≡ true → stored_key (store_of image) c (record e { flags = 1 }) ≡ stored_key (store_of from) c e
unfolding stored_key
key-flagged from image w c e only at long is fits =
    ⊎_elim
    (λ (short : nat_le e.key_len 927 ≡ true). rw (short, only.rest.key_place c e (inr at) is fits short) refl)
    (λ (short : nat_le e.key_len 927 ≡ false). rw (short, only.rest.stored (e.key_len + 1) e.long_key long) refl)
    (cases_Bool (nat_le e.key_len 927))

streams-flagged : (from image : Image) (w : ℕ) (e : RecordFields) → OnlyRecordFieldsChange w from image → ((i : ℕ) → IsClear (has_claim (claims_of w)) (slice_index e.data_addr i)) → stored_streams (store_of image) (record e { flags = 1 }) ≡ stored_streams (store_of from) e
unfolding stored_streams stored_stream
streams-flagged from image w e only clear = rw (only.rest.stored (data_size_of e 0) (address_of e 0) (clear 0), only.rest.stored (data_size_of e 1) (address_of e 1) (clear 1), only.rest.stored (data_size_of e 2) (address_of e 2) (clear 2)) refl

-- the fields of a record, read from its bytes
record-sealed : (from : Image) (w : ℕ) (fields : RecordFields) → (store_of from).entry w ≡ Some fields → fields.checks ≡ true → sealed_fields (record_at from w) ≡ fields
unfolding store_of fields_at
record-sealed from w fields here good =
    let standing = core-standing from w fields here in
    let kind = (standing-parts from blocks_256 w standing).1 in
    let are : fields_of (entry_at from w) ≡ fields = some_inj (sym (rw standing refl) ∙ here) in
    ap (λ (e : Entry). record (fields_of e) { checks = true }) (sym (entry-here from w kind)) ∙ ap (λ (f : RecordFields). record f { checks = true }) are ∙ ap (λ (b : Bool). record fields { checks = b }) (sym good)

module _ (state : State) (layout : Layout) (unlinked : List ℕ) (number : ℕ) (object : Object) (was : Loaded) (index : ParentIndex) (entry : ℕ) (from : Image) (t : CanGetIndex state layout unlinked number object was index entry from) where
  abbrev node : ℕ
  node = layout.place (main object.key)

  lies-as : layout.at (node_of_object layout number object) ≡ Some was
  lies-as = let live = t.live in rw live t.lies

  its : IsRowOf object was
  its = object-row state layout unlinked from t.kept number object t.here was lies-as

  its-row : row_with was.key was.role was.streams ≡ main_row object.key plain object.streams
  its-row = its.row ∙ ap (λ (s : Shape). main_row object.key s object.streams) t.is_plain

  its-role : was.role ≡ IsPlain
  its-role = plain-role was.key object.key object.streams was.streams was.role its-row

  its-key : was.key ≡ object.key
  its-key = plain-key was.key object.key object.streams was.streams was.role its-role its-row

  its-streams : (stream 0 was.streams, stream 1 was.streams, stream 2 was.streams) ≡ object.streams
  its-streams = plain-streams was.key object.key object.streams was.streams was.role its-role its-row

  none-second : stream 1 was.streams ≡ []
  none-second = ap (λ (s : Streams). s.1) its-streams ∙ t.second

  loads : load (store_of from) (rule_of layout node) node ≡ Ok was
  loads = t.kept.represents.holds.shows.each node was t.lies

  once : repeats (all_claims was) ≡ false
  once = t.kept.represents.holds.lies.single node was t.lies

  said : SaysSo state layout unlinked from t.kept node was t.lies
  said = says state layout unlinked from t.kept node was t.lies

  abbrev fields : RecordFields
  fields = fields_of (entry_at from was.contents)

  stands-so : stands_as from blocks_256 was.contents ≡ true
  stands-so = core-standing from was.contents fields said.entry

  kind : kind_of was.contents ≡ blocks_256
  kind = (standing-parts from blocks_256 was.contents stands-so).1

  stands : stands_in from was.contents ≡ true
  stands = (standing-parts from blocks_256 was.contents stands-so).0

  pub index-checks : AreBytes from → RecordChecks entry from
  index-checks bytes = subst (λ (w : ℕ). RecordChecks w from) t.record_is (record_checks from was.contents bytes kind said.checks)

  -- ---- at each word

  module _ (bytes : AreBytes from) (image : Image) (m : IsMidUpdate from was.contents parent_change image) where
    written : OnlyRecordFieldsChange was.contents from image × ((store_of image).entry was.contents ≡ Some (sealed_fields (with_words (take m.made parent_change) (record_at from was.contents))))
    written = fields-written from image was.contents parent_change fields (record { here = said.entry; good = said.checks; bytes = bytes }) (flags-changes was.contents kind) behind-next m

    was-sealed : sealed_fields (record_at from was.contents) ≡ fields
    was-sealed = record-sealed from was.contents fields said.entry said.checks

    inside : IsInsideNode (has_claim (claims_of was.contents)) (view_of from) (view_of image) layout node was
    inside = updates-are-inside state layout unlinked from image node was fields (sealed_fields (with_words (take m.made parent_change) (record_at from was.contents))) t.kept t.lies written.0 said.entry written.1
        (sym said.checks) (hash-still m.made (record_at from was.contents) ∙ ap (λ (f : RecordFields). f.hash) was-sealed)

    mid-found : Finds (model.rest state) image
    mid-found = unsettled-find (has_claim (claims_of was.contents)) state layout unlinked from image number object (main object.key) was t.kept (updates-change from image was.contents stands (inr kind) m.outside) t.here (has_main object t.live) t.unsettled t.lies inside tt

  pub index-mid : AreBytes from → (image : Image) → IsMidUpdate from entry parent_change image → Finds (model.rest state) image
  index-mid bytes = subst (λ (w : ℕ). (image : Image) → IsMidUpdate from w parent_change image → Finds (model.rest state) image) t.record_is (λ image m. mid-found bytes image m)

  -- ---- in the end

  module _ (ready : IsWritable from) where
    abbrev image : Image
    image = rewritten from was.contents parent_change

    abbrev now : Loaded
    now = record was { role = IsParent index }

    shown : OnlyRecordFieldsChange was.contents from image × ((store_of image).entry was.contents ≡ Some (sealed_fields (with_words parent_change (record_at from was.contents))))
    shown = rewritten-fields from was.contents fields ready said.entry said.checks parent_change (flags-changes was.contents kind) (before-seal was.contents kind) behind-next

    entry-now : (store_of image).entry was.contents ≡ Some (record fields { flags = 1 })
    entry-now = shown.1 ∙ ap (λ (f : RecordFields). Some f) (flags-fields (record_at from was.contents) (long-record from was.contents fields ready said.entry said.checks) ∙ ap (λ (f : RecordFields). record f { flags = 1 }) (was-fields from was.contents fields ready said.entry said.checks))

    now-loads : load (store_of image) (rule_of layout node) node ≡ Ok now
    now-loads = load-then (store_of from) (rule_of layout node) node was loads (λ n e f.
        let r = f.facts in let k = r.keyed in
        let here : (store_of from).entry was.contents ≡ Some e = ap (store_of from).entry r.contents_is ∙ f.entry in
        let one : e ≡ fields = some_inj (sym here ∙ said.entry) in
        let plain-one : ArePlain e.flags = plain-flags e was.key was.streams (r.role ∙ ap Some its-role) in
        let clear : (i : ℕ) → IsClear (has_claim (claims_of was.contents)) (slice_index (e.long_key ∷ e.data_addr) i) = λ i. subst (λ (xs : List ℕ). IsClear (has_claim (claims_of was.contents)) (slice_index xs i)) r.others_are (others-clear was once i) in
        let key_len : e.key_len ≡ length was.key = sym (key-length from n.contents e was.key k.key) in
        load-from (store_of image) (rule_of layout node) node now n (record e { flags = 1 }) (record {
          node = sym (shown.0.rest.node_fields node) ∙ f.node;
          entry = ap (store_of image).entry (sym r.contents_is) ∙ entry-now ∙ ap (λ (x : RecordFields). Some (record x { flags = 1 })) (sym one);
          checks = f.checks;
          facts = record {
            keyed = record {
              state = k.state;
              back = k.back;
              flags = refl;
              clean = k.clean;
              key_length = length-same n.contents e plain-one ∙ k.key_length;
              key = key-flagged from image was.contents n.contents e shown.0 (sym r.contents_is) (clear 0) f.entry k.key_length ∙ k.key;
              hashed = k.hashed;
              chained = k.chained;
            };
            streams = streams-flagged from image was.contents e shown.0 (λ i. clear (suc i)) ∙ r.streams;
            role = parent-role e was.streams was.key index none-second t.index_is (t.key_len ∙ sym key_len);
            node_is = r.node_is;
            contents_is = r.contents_is;
            dirty_is = r.dirty_is;
            others_are = r.others_are;
          };
        }))

    only : ChangesOnly (has_claim (claims_of was.contents)) from image
    only = rewritten-only from was.contents fields ready said.entry said.checks parent_change (flags-changes was.contents kind) (before-seal was.contents kind)

    inside-end : IsInsideNode (has_claim (claims_of was.contents)) (view_of from) (view_of image) layout node was
    inside-end = updates-are-inside state layout unlinked from image node was fields (record fields { flags = 1 }) t.kept t.lies shown.0 said.entry entry-now refl refl

    node-stands : stands_as from rankings was.node ≡ true
    node-stands = (standing-loaded from layout node was loads).node

    sealed : AreSealed image now
    sealed = record {
      node = ap (λ (n : Node). node_is_sealed n) (node-same (has_claim (claims_of was.contents)) from image only.agree was.node node-stands (node-clear was once)) ∙ (t.kept.sealed node was t.lies).node;
      entry = rewritten-sealed from was.contents fields ready said.entry said.checks parent_change (flags-changes was.contents kind) (before-seal was.contents kind);
    }

    other : Object
    other = as_sparse object index.signature

    there : object_at (with_object state number (as_sparse object index.signature)) number ≡ Some (as_sparse object index.signature)
    there = set-at state number object (as_sparse object index.signature) t.here

    own : model.owner_object (with_object state number (as_sparse object index.signature)) (main object.key) ≡ Some (as_sparse object index.signature)
    own = rw (main-owned (with_object state number (as_sparse object index.signature)) t.valid number (as_sparse object index.signature) true there t.live) there

    pub marked-there : IsParentMarked state layout unlinked number object was index from (rewritten from was.contents parent_change)
    marked-there = record {
      kept =
          let changed = main-changed state number object (as_sparse object index.signature) t.here t.live t.live refl refl in
          changed-items-kept (has_claim (claims_of was.contents)) state layout unlinked unlinked from image number object (as_sparse object index.signature) (main object.key) was now t.kept only
          (record { here = t.here; key = refl; live = refl; settled = refl; one = changed.0; valid = t.valid })
          (main-listed state t.kept.valid number object true t.here t.live) t.lies
          (record {
            key = refl;
            contents = refl;
            dirty = refl;
            row = changed.1 t.kept.valid ∙ ap Some (ap₂ (λ (k : List ℕ) (s : List ℕ). main_row k (sparse index.signature) (s, [], [])) (sym its-key) (ap (λ (s : Streams). s.0) (sym its-streams)));
            mark = subst (λ (o : Option Object). IfSome o (λ x. (now.dirty == 0) ≡ x.settled)) (sym own) its.mark;
            parent = tt;
            of = λ name e. absurd (let z : is_parent_of name (record was { role = IsPlain }) ≡ true = subst (λ (r : Role). is_parent_of name (record was { role = r }) ≡ true) its-role e in let c : false ≡ true = z in cc);
          })
          (record { apart = inside-end.apart; loads = now-loads; bucket = inside-end.bucket; chain_next = inside-end.chain_next; links = inside-end.links })
          (IsPermutation-refl (unlinked ++ words_of was)) sealed;
      counters = updates-leave from image was.contents (rewritten-outside from was.contents fields ready said.entry said.checks parent_change (flags-changes was.contents kind) (before-seal was.contents kind));
      session = only.session;
    }

-- of an observable folder
pub marked-told : (files : BlockFiles) (a b : Told) (entry : ℕ) → TellsBytes a → ForSome a.files (IsOpen files) → ForSome a.files (λ from. Applies a b (sealed_steps from entry parent_change))
    → ForSome a.files (λ from. ForEachWithIndex entry from (λ state layout unlinked number object was index. ForSome b.files (IsParentMarked state layout unlinked number object was index from)))
marked-told files a b entry bytes open_folder steps from there state layout unlinked number object was index t =
    told_whole (IsParentMarked state layout unlinked number object was index from) (steps from there) (λ image is.
    subst (λ (i : Image). IsParentMarked state layout unlinked number object was index from (after (sealed_steps from entry parent_change) i)) (some_inj (sym there ∙ is))
    (subst (λ (w : ℕ). IsParentMarked state layout unlinked number object was index from (after (sealed_steps from w parent_change) from)) t.record_is
    (marked-there state layout unlinked number object was index entry from t (open-writable files from (bytes from there) (open_folder from there)))))
