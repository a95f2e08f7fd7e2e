-- A record loads once one of its streams is written.
use Rattle.std.proofs.Common.{◌≡◌, ℕ, List, ◌∷◌, refl, ap, sym, ◌∙◌, true, false, Some, Ok}
use Rattle.std.specs.Prelude.{not, ◌==◌, nat_le}
use Rattle.std.proofs.lemmas.Bool.{or_left}
use Rattle.spec_format.specs.BlockFiles.{is_among}
use Rattle.spec_format.specs.Hash.{hash}
use Rattle.spec_folder.specs.Chains.{bucket_of_hash, chain}
use Rattle.spec_folder.specs.Entries.{Role, is_key_length, role_of, stored_key, stored_streams}
use Rattle.spec_folder.specs.Loads.{Loaded, Rule, load}
use Rattle.spec_folder.specs.View.{RecordFields, StoreView}
use Rattle.law_folder.proofs.walks.Loading.{load-from}
use Rattle.law_folder.proofs.walks.Loads.{load-then}
use Rattle.blk_object.proofs.WrittenRoles.{IsStreamChange}

module _ (v u : StoreView) (rule : Rule) (node : ℕ) (was : Loaded) (free : rule.chained ≡ false) (ok : load v rule node ≡ Ok was) (nodes : u.node_fields node ≡ v.node_fields node) (d : RecordFields) (there : u.entry was.contents ≡ Some d) where
  key-length : (w : ℕ) (e : RecordFields) → IsStreamChange e d → is_key_length w d ≡ is_key_length w e
  unfolding is_key_length
  key-length w e c = rw (c.key_len, c.flags) refl

  pub load-written : (streams : List (List ℕ)) (role : Role) → ((e : RecordFields) → v.entry was.contents ≡ Some e → IsStreamChange e d × (is_key_length was.contents e ≡ true → stored_key u was.contents d ≡ stored_key v was.contents e)) → stored_streams u d ≡ Some streams
      → ((e : RecordFields) → v.entry was.contents ≡ Some e → role_of e was.key was.streams ≡ Some was.role → role_of d was.key streams ≡ Some role) → load u rule node ≡ Ok (record was { role = role; streams = streams; others = d.long_key ∷ d.data_addr })
  load-written streams role change are has = load-then v rule node was ok (λ n e f.
      let r = f.facts in let k = r.keyed in
      let here : v.entry was.contents ≡ Some e = ap v.entry r.contents_is ∙ f.entry in
      let c = (change e here).0 in
      let lengths : is_key_length was.contents e ≡ true = ap (λ (w : ℕ). is_key_length w e) r.contents_is ∙ k.key_length in
      load-from u rule node (record was { role = role; streams = streams; others = d.long_key ∷ d.data_addr }) n d (record {
        node = nodes ∙ f.node;
        entry = ap u.entry (sym r.contents_is) ∙ there;
        checks = c.checks ∙ f.checks;
        facts = record {
          keyed = record {
            state = ap (λ (s : ℕ). s == rule.state) c.state ∙ k.state;
            back = ap (λ (x : ℕ). x == node) c.rankings_node ∙ k.back;
            flags = ap (λ (x : ℕ). nat_le x 2) c.flags ∙ k.flags;
            clean = k.clean;
            key_length = key-length n.contents e c ∙ k.key_length;
            key = ap (λ (w : ℕ). stored_key u w d) (sym r.contents_is) ∙ (change e here).1 lengths ∙ ap (λ (w : ℕ). stored_key v w e) r.contents_is ∙ k.key;
            hashed = ap (λ (h : ℕ). h == hash was.key) c.hash ∙ k.hashed;
            chained = or_left (not rule.chained) (is_among (chain u (bucket_of_hash d.hash)).reached n.contents) (ap not free);
          };
          streams = are;
          role = has e here r.role;
          node_is = r.node_is;
          contents_is = r.contents_is;
          dirty_is = r.dirty_is;
          others_are = refl;
        };
      }))
