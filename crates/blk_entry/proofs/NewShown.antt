-- What a folder shows of a new entry.
use Rattle.std.proofs.Common.{◌≡◌, ◌≢◌, ⊎_elim, ℕ, ◌+◌, ◌<◌, ◌≤◌, Bool, true, false, ◌&&◌, ◌||◌, if◌then◌else◌, List, [], ◌∷◌, length, take, Option, None, Some, is_some, unwrap_or, refl, sym, ◌∙◌, ap, ap₂, arith, add-zero}
use Rattle.std.specs.Prelude.{◌==◌, nat_le, Ok, Result}
use Rattle.std.specs.Option.{ForSome, option_and_then, option_map}
use Rattle.std.proofs.lemmas.Bool.{and_parts, cases_Bool, or_right, eq-eqb, eqb-true}
use Rattle.std.proofs.lemmas.Bool.Decides.{nat_tests}
use Rattle.spec_image.specs.Bytes.{range_at}
use Rattle.spec_image.specs.Image.{Block, External, Image, byte, has_file, length_of}
use Rattle.spec_format.specs.Address.{is_address, kind_of, block_count, blocks_256, external, external_number, file_selector, place, rankings}
use Rattle.spec_format.specs.Hash.{hash}
use Rattle.spec_format.specs.Records.{entry_checks, entry_is_sealed, node_checks, node_is_sealed, child, plain, parent, entry_normal}
use Rattle.spec_format.specs.Storage.{entry_blocks, is_storage}
use Rattle.spec_format.specs.Standing.{stands}
use Rattle.spec_format.specs.BlockFiles.{stands_in, stands_in_blocks}
use Rattle.spec_folder.specs.View.{RecordFields, StoreView, checks_at, fields_at, fields_of, follow_at, key_place_at, list_of, node_fields_at, next_at, stands_as, store_of, stored_at}
use Rattle.spec_folder.specs.Entries.{IsPlain, is_key_length, stored_key, role_of, stored_stream, stored_streams}
use Rattle.spec_folder.specs.Loads.{Loaded, unchained_rule, load, load_key, load_record}
use Rattle.spec_folder.specs.Reasons.{Reason, ◌>>=◌, demand}
use Rattle.spec_folder.specs.Reasons as reason
use Rattle.blk_disk.specs.declared.tables.BlockFiles.{BlockFiles}
use Rattle.blk_disk.specs.Tables.{Agrees, stands_among}
use Rattle.blk_disk.proofs.Ranges.{stands_agree}
use Rattle.blk_entry.specs.declared.writing.NewEntry.{NewEntry}
use Rattle.blk_entry.specs.Keys.{data_at, data_file, data_start, key_at, stores}
use Rattle.blk_entry.specs.Writing.{AreWords, FitsKey, HoldsLongKey, IsLongPlace, IsShownNew, IsWritten, entry_steps, address_of_key, before_key, loaded_new, longest_of, new_node, new_record}
use Rattle.blk_entry.proofs.KeyPlaces.{data_of_blocks, data_of_external, storage_parts, take-range}
use Rattle.spec_image.specs.Steps.{after}
use Rattle.spec_image.specs.Told.{Told, Applies}
use Rattle.spec_image.proofs.Runs.{told_whole}
use Rattle.blk_entry.proofs.NewPlaces.{length_kept}
use Rattle.blk_entry.proofs.Windows.{not_external}

-- a new record and a new node have their checksums, so these match
pub record_is_good : (new : NewEntry) (key : List ℕ) (moment : ℕ) → entry_checks (new_record new key moment) ≡ true
unfolding entry_checks entry_is_sealed new_record
record_is_good new key moment = or_right ((new_record new key moment).self_hash == 0) _ (eq-eqb (new_record new key moment).self_hash _ refl)

node_is_good : (new : NewEntry) (moment : ℕ) → node_checks (new_node new moment) ≡ true
unfolding node_checks node_is_sealed new_node
node_is_good new moment = or_right ((new_node new moment).self_hash == 0) _ (eq-eqb (new_node new moment).self_hash _ refl)

-- an address of blocks that are there is valid
pub stands_here : (files : BlockFiles) (image : Image) (w : ℕ) → Agrees files image → is_address w ≡ true → kind_of w ≢ external → stands_among files w ≡ true → stands_in image w ≡ true
unfolding stands
stands_here files image w agrees address block_kind st =
    let t : (kind_of w == external) ≡ false = grind (arith, nat_tests) in
    let s : stands_in_blocks image w ≡ true = sym (stands_agree files image w agrees) ∙ st in
    rw (address, t) s

pub stands_as_kind : (image : Image) (w kind : ℕ) → stands_in image w ≡ true → kind_of w ≡ kind → stands_as image kind w ≡ true
stands_as_kind image w kind st is = let e : (kind_of w == kind) ≡ true = eq-eqb (kind_of w) kind is in rw (st, e) refl

-- an external file with bytes is there
pub external_stands : (image : Image) (w : ℕ) → is_address w ≡ true → kind_of w ≡ external → 0 < length_of image (External (external_number w)) → stands_in image w ≡ true
unfolding stands
external_stands image w address is some =
    let there : has_file image (External (external_number w)) ≡ true = by_file (image (External (external_number w))) some in
    rw (address, is) there
  where
    by_file : (o : Option (List ℕ)) → 0 < length (unwrap_or o []) → is_some o ≡ true
    by_file None some = absurd (omega (arith, some))
    by_file (Some bytes) some = refl

-- fields of the record
pub state_is : (new : NewEntry) (key : List ℕ) (moment : ℕ) → (new_record new key moment).state ≡ 0
unfolding new_record
state_is new key moment = refl

pub back_is : (new : NewEntry) (key : List ℕ) (moment : ℕ) → (new_record new key moment).rankings_node ≡ new.node
unfolding new_record
back_is new key moment = refl

pub hash_is : (new : NewEntry) (key : List ℕ) (moment : ℕ) → (new_record new key moment).hash ≡ hash key
unfolding new_record
hash_is new key moment = refl

pub flags_is : (new : NewEntry) (key : List ℕ) (moment : ℕ) → (new_record new key moment).flags ≡ (if new.child then child else plain)
unfolding new_record
flags_is new key moment = refl

-- the record's long key and its streams
others_are : (new : NewEntry) (key : List ℕ) (moment : ℕ) → (new_record new key moment).long_key ∷ (new_record new key moment).data_addr ≡ unwrap_or new.long_key 0 ∷ 0 ∷ 0 ∷ 0 ∷ 0 ∷ []
unfolding new_record
others_are new key moment = refl

-- a record whose checksum matches or is absent loads as its words say
pub checked_loads : (store : StoreView) (node contents dirty : ℕ) (fields : RecordFields) (answer : Result Loaded Reason) → fields.checks ≡ true → load_record store (unchained_rule entry_normal) node contents dirty fields ≡ answer
    → (demand fields.checks reason.Seal >>= (λ _. load_record store (unchained_rule entry_normal) node contents dirty fields)) ≡ answer
checked_loads store node contents dirty fields answer good is = ap (λ (b : Bool). demand b reason.Seal >>= (λ _. load_record store (unchained_rule entry_normal) node contents dirty fields)) good ∙ is

-- data whose address is its storage, and valid
pub stored_there : (image : Image) (size w : ℕ) → 0 < size → is_storage size w ≡ true → stands_in image w ≡ true → (kind_of w ≡ external → length_of image (External (external_number w)) ≡ size) → stored_at image size w ≡ Some (data_at image w 0 size)
unfolding stored_at
stored_there image size w some storage st long =
    ⊎_elim
    (λ (e : (kind_of w == external) ≡ true).
    let x : kind_of w ≡ external = eqb-true (kind_of w) external e in
    let l : (length_of image (External (external_number w)) == size) ≡ true = eq-eqb _ _ (long x) in
    rw (storage, none, st, e, l) (ap Some (sym (data_of_external image w 0 size x))))
    (λ (e : (kind_of w == external) ≡ false).
    let block_kind : kind_of w ≢ external = (λ same. let z : (kind_of w == external) ≡ true = grind (arith, nat_tests) in let y : true ≡ false = sym z ∙ e in cc) in
    rw (storage, none, st, e) (ap Some (ap (λ (i : ℕ). range_at (byte image (Block (file_selector w))) i size) (sym (add-zero (place w))) ∙ sym (data_of_blocks image w 0 size block_kind))))
    (cases_Bool (kind_of w == external))
  where
    none : (size == 0) ≡ false
    none = grind (arith, nat_tests)

module _ (files : BlockFiles) (new : NewEntry) (key : List ℕ) (moment : ℕ) (fits : FitsKey files new key) (are : AreWords new) (image : Image) (agrees : Agrees files image) (has : HoldsLongKey new.long_key (length key) image) (done : IsWritten new key moment image) where
  entry_stands_as : stands_as image blocks_256 new.entry ≡ true
  entry_stands_as = stands_as_kind image new.entry blocks_256 (stands_here files image new.entry agrees are.entry (not_external new.entry fits.entry_kind) fits.entry_stands) fits.entry_kind

  node_stands_as : stands_as image rankings new.node ≡ true
  node_stands_as =
      stands_as_kind image new.node rankings (stands_here files image new.node agrees are.node (λ e. let z : ◌≡◌ {A = ℕ} 1 0 = sym fits.node_kind ∙ e in cc) fits.node_stands) fits.node_kind

  node_checks_here : checks_at image new.node ≡ true
  unfolding checks_at
  node_checks_here = ap₂ (λ (s t : Bool). s && t) node_stands_as (ap node_checks done.node ∙ node_is_good new moment)

  node_next : next_at image new.node ≡ 0
  unfolding next_at new_node
  node_next = λ i. if node_stands_as i then (done.node i).next else 0

  node_named : node_fields_at image new.node ≡ Some (record { contents = new.entry; dirty = new.dirty })
  unfolding node_fields_at new_node
  node_named = λ i. if node_stands_as i then Some (record { contents = (done.node i).contents; dirty = (done.node i).dirty }) else None

  core_here : fields_at image new.entry ≡ Some (fields_of (new_record new key moment))
  unfolding fields_at
  core_here = λ i. if entry_stands_as i then Some (fields_of (done.entry i)) else None

  follow_here : follow_at image new.entry ≡ new.next
  unfolding follow_at new_record
  follow_here = λ i. if entry_stands_as i then (done.entry i).next else 0

  length_right : is_key_length new.entry (fields_of (new_record new key moment)) ≡ true
  unfolding is_key_length new_record
  length_right =
      let low : nat_le 1 (length key) ≡ true = (let some = fits.some in grind (arith, nat_tests)) in
      let blocks : (block_count new.entry == entry_blocks (length key)) ≡ true = eq-eqb _ _ fits.blocks in
      λ i. low i && by_child new.child fits.most i && blocks i
    where
      by_child : (b : Bool) → length key ≤ longest_of b → nat_le (length key) (if (if b then child else plain) == child then 32796 else 32768) ≡ true
      by_child true less = grind (arith, nat_tests)
      by_child false less = grind (arith, nat_tests)

  key_found : stored_key (store_of image) new.entry (fields_of (new_record new key moment)) ≡ Some key
  unfolding stored_key store_of new_record key_place_at stores
  key_found = by_place new.long_key fits.long has done.key_there
    where
      by_place : (o : Option ℕ) → IsLongPlace files (length key) o → HoldsLongKey o (length key) image → data_at image (address_of_key new.entry o) (before_key o) (length key) ≡ key
          → (if nat_le (length key) 927 then (if unwrap_or o 0 == 0 then Some (key_place_at image new.entry (length key)) else None) else option_map (take (length key)) (stored_at image (length key + 1) (unwrap_or o 0))) ≡ Some key
      by_place None is file at = rw is (ap Some (sym (data_of_blocks image new.entry 96 (length key) (not_external new.entry fits.entry_kind)) ∙ at))
      by_place (Some w) is file at =
          let holds = and_parts _ _ is.1 in
          let address : is_address w ≡ true = (storage_parts (length key + 1) w (omega arith) holds.0).0 in
          let stored : stored_at image (length key + 1) w ≡ Some (data_at image w 0 (length key + 1)) = stored_there image (length key + 1) w (omega arith) holds.0 (long_stands w address holds.1 file) file in
          rw is.0 (ap (option_map (take (length key))) stored ∙ ap Some (take-range (length key) (length key + 1) (data_start w + 0) (byte image (data_file w)) (omega arith) ∙ at))
        where
          long_stands : (w : ℕ) → is_address w ≡ true → ((kind_of w == external) || stands_among files w) ≡ true → (kind_of w ≡ external → length_of image (External (external_number w)) ≡ length key + 1) → stands_in image w ≡ true
          long_stands w address there file =
              ⊎_elim
              (λ (e : (kind_of w == external) ≡ true). let x : kind_of w ≡ external = eqb-true (kind_of w) external e in external_stands image w address x (let l = file x in omega (arith, l)))
              (λ (e : (kind_of w == external) ≡ false).
              let block_kind : kind_of w ≢ external = (λ same. let z : (kind_of w == external) ≡ true = grind (arith, nat_tests) in let y : true ≡ false = sym z ∙ e in cc) in
              let among : stands_among files w ≡ true = rw e at there in
              stands_here files image w agrees address block_kind among)
              (cases_Bool (kind_of w == external))

  key_shown : key_at image new.entry ≡ Some key
  unfolding key_at
  key_shown =
      ap (option_and_then (λ (fields : RecordFields). if is_key_length new.entry fields then stored_key (store_of image) new.entry fields else None)) core_here
      ∙ ap (λ (b : Bool). if b then stored_key (store_of image) new.entry (fields_of (new_record new key moment)) else None) length_right
      ∙ key_found

  streams_shown : stored_streams (store_of image) (fields_of (new_record new key moment)) ≡ Some ([] ∷ [] ∷ [] ∷ [])
  unfolding stored_streams stored_stream store_of stored_at is_storage new_record
  streams_shown = refl

  shown_here : IsShownNew new key moment image
  unfolding list_of store_of
  shown_here = record { checks = node_checks_here; next = node_next; node_fields = node_named; fields = core_here; chain_next = follow_here; key_is = key_shown; streams = streams_shown }

  -- a plain entry loads
  key_loads : load_key (store_of image) (unchained_rule entry_normal) new.node new.entry new.dirty (fields_of (new_record new key moment)) ≡ Ok key
  unfolding load_key
  key_loads =
      let back : ((new_record new key moment).rankings_node == new.node) ≡ true = record_back in
      let flags : nat_le (new_record new key moment).flags 2 ≡ true = record_flags in
      let sound : ((new_record new key moment).hash == hash key) ≡ true = record_hash in
      let state : ((new_record new key moment).state == 0) ≡ true = record_state in
      rw (state, back, flags, length_right, key_found, sound) refl
    where
      record_state : ((new_record new key moment).state == 0) ≡ true
      record_state = eq-eqb _ _ (state_is new key moment)

      record_back : ((new_record new key moment).rankings_node == new.node) ≡ true
      record_back = eq-eqb _ _ (back_is new key moment)

      record_hash : ((new_record new key moment).hash == hash key) ≡ true
      record_hash = eq-eqb _ _ (hash_is new key moment)

      record_flags : nat_le (new_record new key moment).flags 2 ≡ true
      record_flags = ap (λ (n : ℕ). nat_le n 2) (flags_is new key moment) ∙ by_child new.child
        where
          by_child : (b : Bool) → nat_le (if b then child else plain) 2 ≡ true
          by_child true = refl
          by_child false = refl

  role_is : new.child ≡ false → role_of (fields_of (new_record new key moment)) key ([] ∷ [] ∷ [] ∷ []) ≡ Some IsPlain
  unfolding role_of
  role_is none =
      let flags : (new_record new key moment).flags ≡ 0 = flags_is new key moment ∙ ap (λ (b : Bool). if b then child else plain) none in
      let one : ((new_record new key moment).flags == parent) ≡ false = ap (λ (n : ℕ). n == 1) flags in
      let two : ((new_record new key moment).flags == child) ≡ false = ap (λ (n : ℕ). n == 2) flags in
      rw (one, two) refl

  record_loads_here : new.child ≡ false → load_record (store_of image) (unchained_rule entry_normal) new.node new.entry new.dirty (fields_of (new_record new key moment)) ≡ Ok (loaded_new new key)
  unfolding load_record
  record_loads_here none = rw (key_loads, streams_shown, role_is none) (ap (λ (others : List ℕ). Ok (record { node = new.node; contents = new.entry; dirty = new.dirty; key = key; role = IsPlain; streams = [] ∷ [] ∷ [] ∷ []; others = others })) (others_are new key moment))

  loads_here : new.child ≡ false → load (store_of image) (unchained_rule entry_normal) new.node ≡ Ok (loaded_new new key)
  unfolding load
  loads_here none = rw (shown_here.node_fields, shown_here.fields) (checked_loads (store_of image) new.node new.entry new.dirty (fields_of (new_record new key moment)) (Ok (loaded_new new key)) (record_is_good new key moment) (record_loads_here none))

module _ (files : BlockFiles) (new : NewEntry) (key : List ℕ) (moment : ℕ) (fits : FitsKey files new key) (are : AreWords new) (b c : Told) (agrees : ForSome c.files (Agrees files)) (has : ForSome b.files (HoldsLongKey new.long_key (length key))) (grown : Applies b c (entry_steps new key moment)) (done : ForSome c.files (IsWritten new key moment)) where
  lengths_last : ForSome c.files (HoldsLongKey new.long_key (length key))
  lengths_last = told_whole (HoldsLongKey new.long_key (length key)) grown (λ from there. by_place new.long_key from (has from there))
    where
      by_place : (o : Option ℕ) (from : Image) → HoldsLongKey o (length key) from → HoldsLongKey o (length key) (after (entry_steps new key moment) from)
      by_place None from is = tt
      by_place (Some w) from is = λ x. length_kept files new key moment fits from (External (external_number w)) ∙ is x

  pub shown_there : ForSome c.files (IsShownNew new key moment)
  shown_there image there = shown_here files new key moment fits are image (agrees image there) (lengths_last image there) (done image there)

  pub loads_there : new.child ≡ false → ForSome c.files (λ image. load (store_of image) (unchained_rule entry_normal) new.node ≡ Ok (loaded_new new key))
  loads_there none image there = loads_here files new key moment fits are image (agrees image there) (lengths_last image there) (done image there) none
