-- What is kept of a loaded record leads to its key.
use Rattle.std.proofs.Common.{◌≡◌, ℕ, List, Some, sym, ◌∙◌, ap, subst, arith, drop, ap₂}
use Rattle.std.specs.Prelude.{slice_index}
use Rattle.spec_folder.specs.Entries.{stored_key, stream}
use Rattle.spec_folder.specs.ListView.{first_or}
use Rattle.spec_folder.specs.Loads.{held_rule}
use Rattle.spec_folder.specs.View.{data_size_of, stored_at, store_of}
use Rattle.law_folder.proofs.walks.Loads.{load-then}
use Rattle.spec_folder.specs.Found.{charge_of}
use Rattle.blk_verdict.specs.Charges.{LoadedAreCharged, charge_said}
use Rattle.blk_verdict.specs.Keyed.{IsKeyOf}
use Rattle.blk_verdict.specs.KeptKeys.{LoadedIndexesAreFound, LoadedKeysAreFound}
use Rattle.spec_format.specs.SparseIndex.{read_parent_index}
use Rattle.blk_verdict.proofs.KeyFacts.{key_length}
use Rattle.blk_verdict.proofs.RoleFacts.{index_length, index_of_parent}
use Rattle.blk_verdict.proofs.StreamFacts.{are_stored, stored_length}

pub keys-found : LoadedKeysAreFound
keys-found image node loaded said ok is =
    load-then {P = IsKeyOf image said loaded.key} (store_of image) held_rule node loaded ok
    (λ n e facts.
    let key = facts.facts.keyed.key in
    let entry : n.contents ≡ said.entry = sym (is.entry ∙ facts.facts.contents_is) in
    record {
      fields = e;
      key_len = sym (is.key_len ∙ key_length image n.contents e loaded.key key);
      long_key = ap (first_or 0) (sym (is.others ∙ facts.facts.others_are));
      stored = subst (λ (w : ℕ). stored_key (store_of image) w e ≡ Some loaded.key) entry key;
    })

pub indexes-found : LoadedIndexesAreFound
indexes-found image node loaded said index ok is parent =
    load-then {P = (stored_at image 8256 (slice_index said.addrs 2) ≡ Some (stream 2 loaded.streams)) × (read_parent_index (stream 2 loaded.streams) ≡ Some index)} (store_of image) held_rule node loaded ok
    (λ n e facts.
    let third = (are_stored image e loaded.streams facts.facts.streams).third in
    let read = index_of_parent e loaded.key loaded.streams index (facts.facts.role ∙ ap Some parent) in
    let size : data_size_of e 2 ≡ 8256 = sym (stored_length image _ _ (stream 2 loaded.streams) third) ∙ index_length (stream 2 loaded.streams) index read in
    let addrs : slice_index e.data_addr 2 ≡ slice_index said.addrs 2 = ap (λ (l : List ℕ). slice_index (drop 1 l) 2) (sym (is.others ∙ facts.facts.others_are)) in
    (ap₂ (λ (s w : ℕ). stored_at image s w) (sym size) (sym addrs) ∙ third, read))

pub charged : LoadedAreCharged
charged image node loaded said ok is =
    load-then {P = charge_said said ≡ charge_of loaded} (store_of image) held_rule node loaded ok
    (λ n e facts.
    let three = (are_stored image e loaded.streams facts.facts.streams).three in
    let first = is.sizes 0 (omega arith) in
    let second = is.sizes 1 (omega arith) in
    let third = is.sizes 2 (omega arith) in
    let len = is.key_len in
    omega (arith, three, first, second, third, len))
