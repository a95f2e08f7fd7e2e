-- The reasons for which a node is dropped by itself, step by step.
use Rattle.std.proofs.Common.{◌≡◌, ℕ, Bool, true, false, if◌then◌else◌, List, ◌∷◌, Option, None, Some, Result, Ok, Err, refl, sym, ◌∙◌, ap}
use Rattle.std.specs.Prelude.{◌==◌, nat_le, not, is_some}
use Rattle.std.specs.Option.{ok_or}
use Rattle.spec_image.specs.Image.{Image}
use Rattle.spec_format.specs.Address.{blocks_256}
use Rattle.spec_format.specs.BlockFiles.{is_among}
use Rattle.spec_format.specs.Hash.{hash}
use Rattle.spec_folder.specs.Chains.{bucket_of_hash, chain}
use Rattle.spec_folder.specs.Entries.{Role, is_key_length, stored_key, stored_streams, role_of}
use Rattle.spec_folder.specs.Loads.{Loaded, held_rule, load_key, load_record, load}
use Rattle.spec_folder.specs.Reasons.{Reason, ◌>>=◌, demand}
use Rattle.spec_folder.specs.Reasons as reason
use Rattle.spec_folder.specs.View.{RecordFields, StoreView, fields_at, stands_as, store_of}
use Rattle.blk_disk.specs.declared.tables.BlockFiles.{BlockFiles}
use Rattle.blk_disk.specs.Tables.{Agrees, is_record_among}
use Rattle.blk_audit.proofs.Shown.{names_stand}
use Rattle.blk_verdict.specs.Loading.{reason_by_words, load_data, load_streams}
use Rattle.blk_audit.specs.Records.{AreWordsOf, fields_said}
use Rattle.blk_audit.specs.declared.record_words.RecordWords.{RecordWords}

-- a reason that holds, or else what comes after that
abbrev pub first_or_then : Option Reason → Result Loaded Reason → Result Loaded Reason
first_or_then (Some given) later = Err given
first_or_then None later = later

module _ (store : StoreView) (node contents dirty : ℕ) (fields : RecordFields) where
  key_then : Result (List ℕ) Reason
  key_then = ok_or (stored_key store contents fields) reason.KeyPlace >>= (λ key. demand (fields.hash == hash key) reason.Hash >>= (λ _. demand (is_among (chain store (bucket_of_hash fields.hash)).reached contents) reason.Chain >>= (λ _. Ok key)))

  rest_then : List ℕ → Result Loaded Reason
  rest_then key = ok_or (stored_streams store fields) reason.Streams >>= (λ streams. ok_or (role_of fields key streams) reason.Sparse >>= (λ role.
      Ok (record { node = node; contents = contents; dirty = dirty; key = key; role = role; streams = streams; others = fields.long_key ∷ fields.data_addr })))

by_key : (o : Option (List ℕ)) (h : List ℕ → Bool) (c : Bool) (rest : List ℕ → Result Loaded Reason)
    → ((ok_or o reason.KeyPlace >>= (λ key. demand (h key) reason.Hash >>= (λ _. demand c reason.Chain >>= (λ _. Ok key)))) >>= rest)
    ≡ (ok_or o reason.KeyPlace >>= (λ key. demand (h key) reason.Hash >>= (λ _. demand c reason.Chain >>= (λ _. rest key))))
by_key None h c rest = refl
by_key (Some key) h c rest = by_tests (h key) c
  where
    by_tests : (t c : Bool) → ((demand t reason.Hash >>= (λ _. demand c reason.Chain >>= (λ _. Ok key))) >>= rest) ≡ (demand t reason.Hash >>= (λ _. demand c reason.Chain >>= (λ _. rest key)))
    by_tests false c = refl
    by_tests true false = refl
    by_tests true true = refl

by_words : (c s b f d k : Bool) (K : Result (List ℕ) Reason) (rest : List ℕ → Result Loaded Reason)
    → (demand c reason.Seal >>= (λ _. (demand s reason.State >>= (λ _. demand b reason.Back >>= (λ _. demand f reason.Flags >>= (λ _. demand d reason.Dirty >>= (λ _. demand k reason.KeyLength >>= (λ _. K)))))) >>= rest))
    ≡ first_or_then (if not c then Some reason.Seal else if not s then Some reason.State else if not b then Some reason.Back else if not f then Some reason.Flags else if not d then Some reason.Dirty else if not k then Some reason.KeyLength else None) (K >>= rest)
by_words false s b f d k K rest = refl
by_words true false b f d k K rest = refl
by_words true true false f d k K rest = refl
by_words true true true false d k K rest = refl
by_words true true true true false k K rest = refl
by_words true true true true true false K rest = refl
by_words true true true true true true K rest = refl

-- a node with a record is judged by the words first, and then by the data
pub load_is : (store : StoreView) (node contents dirty : ℕ) (fields : RecordFields) → store.node_fields node ≡ Some (record { contents = contents; dirty = dirty }) → store.entry contents ≡ Some fields
    → load store held_rule node ≡ first_or_then (reason_by_words node contents dirty fields) (load_data store node contents dirty fields)
unfolding load load_record load_key reason_by_words load_data load_streams key_then rest_then stored_streams
load_is store node contents dirty fields named there =
    rw (named, there)
    (by_words fields.checks (fields.state == 0) (fields.rankings_node == node) (nat_le fields.flags 2) (dirty == 0) (is_key_length contents fields) (key_then store node contents dirty fields) (rest_then store node contents dirty fields)
    ∙ ap (first_or_then (reason_by_words node contents dirty fields)) (by_key (stored_key store contents fields) (λ key. fields.hash == hash key) (is_among (chain store (bucket_of_hash fields.hash)).reached contents) (rest_then store node contents dirty fields)))

-- a node whose contents are no record that is there
pub load_none : (store : StoreView) (node contents dirty : ℕ) → store.node_fields node ≡ Some (record { contents = contents; dirty = dirty }) → store.entry contents ≡ None → load store held_rule node ≡ Err reason.Contents
unfolding load
load_none store node contents dirty named none = rw (named, none) refl

-- The record that a word names.

pub entry_of : (files : BlockFiles) (image : Image) (entry : ℕ) (words : RecordWords) → Agrees files image → is_record_among files entry ≡ true → AreWordsOf image entry words → (store_of image).entry entry ≡ Some (fields_said words)
unfolding store_of fields_at
entry_of files image entry words agrees among are =
    let st : stands_as image blocks_256 entry ≡ true = sym (names_stand files image entry agrees) ∙ among in
    rw st (ap Some (sym are.fields))

pub entry_none : (files : BlockFiles) (image : Image) (w : ℕ) → Agrees files image → is_record_among files w ≡ false → (store_of image).entry w ≡ None
unfolding store_of fields_at
entry_none files image w agrees none =
    let st : stands_as image blocks_256 w ≡ false = sym (names_stand files image w agrees) ∙ none in
    rw st refl

-- The steps after the words.

pub data_no_key : (store : StoreView) (node contents dirty : ℕ) (fields : RecordFields) → is_some (stored_key store contents fields) ≡ false → load_data store node contents dirty fields ≡ Err reason.KeyPlace
unfolding load_data
data_no_key store node contents dirty fields none = by_key_place (stored_key store contents fields) none
  where
    by_key_place : (o : Option (List ℕ)) → is_some o ≡ false → (ok_or o reason.KeyPlace >>= (λ key. demand (fields.hash == hash key) reason.Hash >>= (λ _. demand (is_among (chain store (bucket_of_hash fields.hash)).reached contents) reason.Chain >>= (λ _. load_streams store node contents dirty fields key)))) ≡ Err reason.KeyPlace
    by_key_place None e = refl
    by_key_place (Some key) e = absurd (clash e)
      where
        clash : true ≡ false → ⊥
        clash h = cc

pub data_with_key : (store : StoreView) (node contents dirty : ℕ) (fields : RecordFields) (key : List ℕ) (h c : Bool) → stored_key store contents fields ≡ Some key → (fields.hash == hash key) ≡ h → is_among (chain store (bucket_of_hash fields.hash)).reached contents ≡ c
    → load_data store node contents dirty fields ≡ (demand h reason.Hash >>= (λ _. demand c reason.Chain >>= (λ _. load_streams store node contents dirty fields key)))
unfolding load_data
data_with_key store node contents dirty fields key h c is eh ec = rw (is, eh, ec) refl

-- what is known of a node, from its streams and its role
abbrev pub loaded_of : ℕ → ℕ → ℕ → RecordFields → List ℕ → List (List ℕ) → Role → Loaded
loaded_of node contents dirty fields key streams role = record { node = node; contents = contents; dirty = dirty; key = key; role = role; streams = streams; others = fields.long_key ∷ fields.data_addr }

pub streams_none : (store : StoreView) (node contents dirty : ℕ) (fields : RecordFields) (key : List ℕ) → is_some (stored_streams store fields) ≡ false → load_streams store node contents dirty fields key ≡ Err reason.Streams
unfolding load_streams
streams_none store node contents dirty fields key none = by_streams (stored_streams store fields) none
  where
    by_streams : (o : Option (List (List ℕ))) → is_some o ≡ false → (ok_or o reason.Streams >>= (λ streams. ok_or (role_of fields key streams) reason.Sparse >>= (λ role. Ok (loaded_of node contents dirty fields key streams role)))) ≡ Err reason.Streams
    by_streams None e = refl
    by_streams (Some streams) e = absurd (clash e)
      where
        clash : true ≡ false → ⊥
        clash h = cc

pub streams_with : (store : StoreView) (node contents dirty : ℕ) (fields : RecordFields) (key : List ℕ) (streams : List (List ℕ)) → stored_streams store fields ≡ Some streams
    → load_streams store node contents dirty fields key ≡ (ok_or (role_of fields key streams) reason.Sparse >>= (λ role. Ok (loaded_of node contents dirty fields key streams role)))
unfolding load_streams
streams_with store node contents dirty fields key streams is = rw is refl

-- an option of which it is known that there is one
pub record HasValue (A : Type 0) (o : Option A) : Type 0 where
  pub value : A
  pub is : o ≡ Some value

pub has_value : (A : Type 0) (o : Option A) → is_some o ≡ true → HasValue A o
has_value A None e = absurd (clash e)
  where
    clash : false ≡ true → ⊥
    clash h = cc
has_value A (Some a) e = record { value = a; is = refl }
