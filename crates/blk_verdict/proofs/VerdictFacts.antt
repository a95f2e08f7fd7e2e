-- Verdicts in memory by what was read.
use Rattle.std.proofs.Common.{◌≡◌, zero, suc, ◌<◌, ℕ, Bool, true, false, List, length, Option, None, Some, Result, Ok, Err, if◌then◌else◌, refl, sym, ◌∙◌, ap, subst, arith}
use Rattle.std.specs.Prelude.{◌==◌, nat_le, not, slice_index}
use Rattle.std.specs.Option.{ok_or}
use Rattle.spec_image.specs.Image.{Image}
use Rattle.spec_format.specs.BlockFiles.{is_among}
use Rattle.spec_format.specs.Hash.{hash}
use Rattle.spec_format.specs.Headers.{table_length}
use Rattle.std.proofs.lemmas.Bool.{eq-eqb}
use Rattle.std.proofs.lemmas.Bool.Decides.{nat_tests}
use Rattle.spec_format.specs.Address.{blocks_256, is_address, kind_of}
use Rattle.blk_disk.specs.declared.tables.BlockFiles.{BlockFiles}
use Rattle.blk_disk.specs.Tables.{is_record_among, names_among, stands_among}
use Rattle.spec_folder.specs.Chains.{bucket_of_hash, chain}
use Rattle.spec_folder.specs.Entries as entries
use Rattle.spec_folder.specs.Entries.{is_key_length, role_of, stored_streams, stream}
use Rattle.spec_folder.specs.Loads as shown
use Rattle.spec_folder.specs.Loads.{held_rule}
use Rattle.spec_folder.specs.Reasons as reasons
use Rattle.spec_folder.specs.Reasons.{◌>>=◌}
use Rattle.spec_folder.specs.View.{RecordFields, StoreView, data_size_of, store_of}
use Rattle.blk_audit.specs.Chaining.{reached_by}
use Rattle.blk_audit.proofs.AllChains.{reached-chained}
use Rattle.blk_verdict.specs.Loading.{load_data, load_streams, reason_by_words}
use Rattle.blk_verdict.specs.Reasons.{reason_of}
use Rattle.blk_audit.specs.Records.{fields_said}
use Rattle.blk_verdict.specs.Roles.{IsRoleIf}
use Rattle.blk_verdict.specs.Verdicts.{IsVerdict, loaded_with}
use Rattle.blk_verdict.specs.declared.loading.Verdict.TheVariants as verdict
use Rattle.blk_verdict.specs.declared.reason.Reason.{Reason}
use Rattle.blk_verdict.specs.declared.reason.Reason.TheVariants as reason
use Rattle.blk_audit.specs.declared.record_words.RecordWords.{RecordWords}
use Rattle.blk_verdict.specs.declared.roles.Role.{Role}
use Rattle.blk_verdict.proofs.Joined.{first_or_then, load_is, loaded_of, streams_with}
use Rattle.blk_verdict.proofs.StreamFacts.{are_stored, stored_length}

-- a reason that was found is the verdict
pub dropped : (r : Result shown.Loaded reasons.Reason) (given : Reason) → r ≡ Err (reason_of given) → IsVerdict r (verdict.Dropped given)
dropped r given e = subst (λ (x : Result shown.Loaded reasons.Reason). IsVerdict x (verdict.Dropped given)) (sym e) refl

-- the sizes of three streams are the lengths of their bytes
pub lengths : (image : Image) (fields : RecordFields) (streams : List (List ℕ)) → stored_streams (store_of image) fields ≡ Some streams → (i : ℕ) → i < 3 → data_size_of fields i ≡ length (stream i streams)
lengths image fields streams is zero small = sym (stored_length image _ _ (stream 0 streams) (are_stored image fields streams is).first)
lengths image fields streams is (suc zero) small = sym (stored_length image _ _ (stream 1 streams) (are_stored image fields streams is).second)
lengths image fields streams is (suc (suc zero)) small = sym (stored_length image _ _ (stream 2 streams) (are_stored image fields streams is).third)
lengths image fields streams is (suc (suc (suc i))) small = absurd (let h : suc (suc (suc i)) < 3 = small in omega (arith, h))

module _ (store : StoreView) (node contents dirty : ℕ) (words : RecordWords) (key : List ℕ) (streams : List (List ℕ)) (is : stored_streams store (fields_said words) ≡ Some streams) where
  with_role : Option entries.Role → Result shown.Loaded reasons.Reason
  with_role o = ok_or o reasons.Sparse >>= (λ role. Ok (loaded_of node contents dirty (fields_said words) key streams role))

  by_role : (o : Option entries.Role) → role_of (fields_said words) key streams ≡ o → load_streams store node contents dirty (fields_said words) key ≡ with_role o
  unfolding with_role
  by_role o e = streams_with store node contents dirty (fields_said words) key streams is ∙ ap with_role e

  none_by : (o : Option entries.Role) → role_of (fields_said words) key streams ≡ o → IsRoleIf key o None → IsVerdict (load_streams store node contents dirty (fields_said words) key) (verdict.Dropped reason.Sparse)
  unfolding with_role
  none_by None e h = dropped _ reason.Sparse (by_role None e)
  none_by (Some role) e h = absurd h

  pub no_role : IsRoleIf key (role_of (fields_said words) key streams) None → IsVerdict (load_streams store node contents dirty (fields_said words) key) (verdict.Dropped reason.Sparse)
  no_role h = none_by (role_of (fields_said words) key streams) refl h

  some_by : (said : Role) (o : Option entries.Role) → ((i : ℕ) → i < 3 → slice_index words.sizes i ≡ length (stream i streams)) → words.hash ≡ hash key → words.key_len ≡ length key
      → role_of (fields_said words) key streams ≡ o → IsRoleIf key o (Some said) → IsVerdict (load_streams store node contents dirty (fields_said words) key) (verdict.Loaded (loaded_with node contents said words))
  unfolding with_role
  some_by said None sizes hash_is len e h = absurd h
  some_by said (Some role) sizes hash_is len e h =
      subst (λ (x : Result shown.Loaded reasons.Reason). IsVerdict x (verdict.Loaded (loaded_with node contents said words))) (sym (by_role (Some role) e))
      (record { node = refl; entry = refl; role = h; hash = hash_is; key_len = len; sizes = sizes; others = refl })

  pub with_a_role : (said : Role) → ((i : ℕ) → i < 3 → slice_index words.sizes i ≡ length (stream i streams)) → words.hash ≡ hash key → words.key_len ≡ length key
      → IsRoleIf key (role_of (fields_said words) key streams) (Some said) → IsVerdict (load_streams store node contents dirty (fields_said words) key) (verdict.Loaded (loaded_with node contents said words))
  with_a_role said sizes hash_is len h = some_by said (role_of (fields_said words) key streams) sizes hash_is len refl h

-- By the words.

-- where none of those reasons holds, the length of the key is right
pub right_length : (node contents dirty : ℕ) (fields : RecordFields) → None ≡ reason_by_words node contents dirty fields → is_key_length contents fields ≡ true
unfolding reason_by_words
right_length node contents dirty fields e = by_tests fields.checks (fields.state == 0) (fields.rankings_node == node) (nat_le fields.flags 2) (dirty == 0) (is_key_length contents fields) e
  where
    none_some : (r : reasons.Reason) → None ≡ Some r → ⊥
    none_some r h = cc

    by_tests : (c s b f d k : Bool) → None ≡ (if not c then Some reasons.Seal else if not s then Some reasons.State else if not b then Some reasons.Back else if not f then Some reasons.Flags else if not d then Some reasons.Dirty else if not k then Some reasons.KeyLength else None) → k ≡ true
    by_tests false s b f d k h = absurd (none_some _ h)
    by_tests true false b f d k h = absurd (none_some _ h)
    by_tests true true false f d k h = absurd (none_some _ h)
    by_tests true true true false d k h = absurd (none_some _ h)
    by_tests true true true true false k h = absurd (none_some _ h)
    by_tests true true true true true false h = absurd (none_some _ h)
    by_tests true true true true true true h = refl

module _ (store : StoreView) (node contents dirty : ℕ) (fields : RecordFields) (named : store.node_fields node ≡ Some (record { contents = contents; dirty = dirty })) (there : store.entry contents ≡ Some fields) where
  pub words_drop : (given : Reason) → Some (reason_of given) ≡ reason_by_words node contents dirty fields → IsVerdict (shown.load store held_rule node) (verdict.Dropped given)
  words_drop given e = dropped _ given (load_is store node contents dirty fields named there ∙ ap (λ (o : Option reasons.Reason). first_or_then o (load_data store node contents dirty fields)) (sym e))

  pub words_pass : None ≡ reason_by_words node contents dirty fields → shown.load store held_rule node ≡ load_data store node contents dirty fields
  words_pass e = load_is store node contents dirty fields named there ∙ ap (λ (o : Option reasons.Reason). first_or_then o (load_data store node contents dirty fields)) (sym e)

  pub reached_is : (reached : Bool) → reached ≡ is_among (reached_by store table_length) contents → reached ≡ is_among (chain store (bucket_of_hash fields.hash)).reached contents
  reached_is reached e = e ∙ sym (reached-chained store contents fields there)

-- two numbers that differ
pub differs : (a b : ℕ) → (a ≡ b → ⊥) → (a == b) ≡ false
differs a b other = grind (arith, nat_tests)

-- a record among the kept files
pub record_among : (files : BlockFiles) (w : ℕ) → is_address w ≡ true → kind_of w ≡ blocks_256 → stands_among files w ≡ true → is_record_among files w ≡ true
unfolding names_among
record_among files w address kind there = let k : (kind_of w == 2) ≡ true = eq-eqb _ _ kind in rw (address, k, there) refl
