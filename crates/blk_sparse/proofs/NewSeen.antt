-- A parent loads with another index, once a byte in its place has changed.
use Rattle.std.proofs.Common.{◌≡◌, ◌≢◌, ⊎_elim, ℕ, suc, ◌+◌, List, [], ◌∷◌, take, Bool, true, false, Option, None, Some, Ok, refl, sym, ◌∙◌, ap, subst, arith}
use Rattle.std.specs.Prelude.{◌==◌, ◌&&◌, nat_le, not, slice_index, if◌then◌else◌}
use Rattle.std.specs.List.{flat_map}
use Rattle.std.specs.Option.{option_and_then, option_map}
use Rattle.std.proofs.lemmas.Bool.{cases_Bool, or_left}
use Rattle.spec_image.specs.Image.{Image}
use Rattle.spec_format.specs.BlockFiles.{is_among}
use Rattle.spec_format.specs.Claims.{claims_of, has_claim, repeats}
use Rattle.spec_folder.specs.Chains.{bucket_of_hash, chain}
use Rattle.spec_folder.specs.Entries.{Role, most_stream_bytes, role_of, stored_key, stored_stream, stored_streams, stream}
use Rattle.spec_folder.specs.Footprint.{IsClear, SameStore}
use Rattle.spec_folder.specs.Loads.{Loaded, Rule, all_claims, load, record_claims}
use Rattle.spec_folder.specs.View.{RecordFields, StoreView, address_of, data_size_of, store_of}
use Rattle.law_folder.proofs.walks.Loading.{load-from}
use Rattle.law_folder.proofs.walks.Loads.{load-then}
use Rattle.blk_stream.specs.Loading.{stored_streams_with}
use Rattle.blk_stream.proofs.StreamPlaces.{streams_parts}
use Rattle.blk_object.proofs.WrittenItems.{both-claimed}

-- ---- the words of a record

module _ (was : Loaded) (single : repeats (all_claims was) ≡ false) where
  -- its node, its record, and the words in the record
  abbrev words : List ℕ
  words = was.node ∷ was.contents ∷ was.others

  all-once : repeats (flat_map claims_of (was.node ∷ was.contents ∷ was.others)) ≡ false
  unfolding all_claims record_claims
  all-once = single

  -- the third address is clear of all others
  pub clear-at : (m : ℕ) → m ≢ 5 → IsClear (has_claim (claims_of (slice_index was.others 3))) (slice_index (was.node ∷ was.contents ∷ was.others) m)
  clear-at m apart c its = ⊎_elim
      (λ (e : has_claim (claims_of (slice_index was.others 3)) c ≡ true). absurd (both-claimed (was.node ∷ was.contents ∷ was.others) m 5 c apart all-once its e))
      (λ (e : has_claim (claims_of (slice_index was.others 3)) c ≡ false). e)
      (cases_Bool (has_claim (claims_of (slice_index was.others 3)) c))

-- ---- its streams

fourth-is : (v : StoreView) (e : RecordFields) (ss : List (List ℕ)) → stored_streams v e ≡ Some ss → ((data_size_of e 3 == 0) && (address_of e 3 == 0)) ≡ true
unfolding stored_streams
fourth-is v e ss is = go ((data_size_of e 3 == 0) && (address_of e 3 == 0)) is where
  go : (t : Bool) → (if not t then None else option_and_then (λ first. option_and_then (λ second. option_map (λ third. first ∷ second ∷ third ∷ []) (stored_stream v e 2)) (stored_stream v e 1)) (stored_stream v e 0)) ≡ Some ss → t ≡ true
  go true h = refl
  go false h = absurd (let z : ◌≡◌ {A = Option (List (List ℕ))} None (Some ss) = h in cc)

three-streams : (v : StoreView) (e : RecordFields) (a b c : List ℕ) → ((data_size_of e 3 == 0) && (address_of e 3 == 0)) ≡ true → stored_stream v e 0 ≡ Some a → stored_stream v e 1 ≡ Some b → stored_stream v e 2 ≡ Some c → stored_streams v e ≡ Some (a ∷ b ∷ c ∷ [])
unfolding stored_streams
three-streams v e a b c fourth is_a is_b is_c = rw (fourth, is_a, is_b, is_c) refl

same-stream : (v u : StoreView) (e : RecordFields) (j : ℕ) → v.stored (data_size_of e j) (address_of e j) ≡ u.stored (data_size_of e j) (address_of e j) → stored_stream u e j ≡ stored_stream v e j
unfolding stored_stream
same-stream v u e j same = ap (λ (o : Option (List ℕ)). if nat_le (data_size_of e j) most_stream_bytes then o else None) (sym same)

same-key : (v u : StoreView) (w : ℕ) (e : RecordFields) → (nat_le e.key_len 927 ≡ true → v.key_place w e.key_len ≡ u.key_place w e.key_len) → v.stored (e.key_len + 1) e.long_key ≡ u.stored (e.key_len + 1) e.long_key → stored_key u w e ≡ stored_key v w e
unfolding stored_key
same-key v u w e place long = go (nat_le e.key_len 927) refl where
  go : (b : Bool) → nat_le e.key_len 927 ≡ b → (if b then (if e.long_key == 0 then Some (u.key_place w e.key_len) else None) else option_map (take e.key_len) (u.stored (e.key_len + 1) e.long_key)) ≡ (if b then (if e.long_key == 0 then Some (v.key_place w e.key_len) else None) else option_map (take e.key_len) (v.stored (e.key_len + 1) e.long_key))
  go true short = ap (λ (k : List ℕ). if e.long_key == 0 then Some k else None) (sym (place short))
  go false short = ap (option_map (take e.key_len)) (sym long)

-- ---- it loads

module _ (from image : Image) (rule : Rule) (node : ℕ) (was : Loaded) (free : rule.chained ≡ false) (ok : load (store_of from) rule node ≡ Ok was) (single : repeats (all_claims was) ≡ false) (same : SameStore (has_claim (claims_of (slice_index was.others 3))) (store_of from) (store_of image)) (bytes : List ℕ) (role : Role)
    (stored : (e : RecordFields) → (store_of from).entry was.contents ≡ Some e → stored_stream (store_of image) e 2 ≡ Some bytes)
    (role_is : (e : RecordFields) → (store_of from).entry was.contents ≡ Some e → role_of e was.key was.streams ≡ Some was.role → role_of e was.key (stored_streams_with 2 bytes was.streams) ≡ Some role) where
  module _ (e : RecordFields) (others : was.others ≡ e.long_key ∷ e.data_addr) where
    clear-long : IsClear (has_claim (claims_of (slice_index was.others 3))) e.long_key
    clear-long = subst (IsClear (has_claim (claims_of (slice_index was.others 3)))) (ap (λ (ws : List ℕ). slice_index ws 0) others) (clear-at was single 2 (λ h. omega (arith, h)))

    clear-address : (j : ℕ) → j ≢ 2 → IsClear (has_claim (claims_of (slice_index was.others 3))) (address_of e j)
    clear-address j apart = subst (IsClear (has_claim (claims_of (slice_index was.others 3)))) (ap (λ (ws : List ℕ). slice_index ws (suc j)) others) (clear-at was single (suc (suc (suc j))) (λ h. apart (omega (arith, h))))

    still : (j : ℕ) → j ≢ 2 → stored_stream (store_of image) e j ≡ stored_stream (store_of from) e j
    still j apart = same-stream (store_of from) (store_of image) e j (same.stored (data_size_of e j) (address_of e j) (clear-address j apart))

  pub load-noted : load (store_of image) rule node ≡ Ok (record was { role = role; streams = stored_streams_with 2 bytes was.streams })
  unfolding stored_streams_with
  load-noted = load-then (store_of from) rule node was ok (λ n e f.
      let r = f.facts in let k = r.keyed in
      let there : (store_of from).entry was.contents ≡ Some e = ap (store_of from).entry r.contents_is ∙ f.entry in
      let part = streams_parts from e was.streams r.streams in
      load-from (store_of image) rule node (record was { role = role; streams = stored_streams_with 2 bytes was.streams }) n e (record {
        node = sym (same.node_fields node (subst (IsClear (has_claim (claims_of (slice_index was.others 3)))) r.node_is (clear-at was single 0 (λ h. omega (arith, h))))) ∙ f.node;
        entry = sym (same.entry n.contents (subst (IsClear (has_claim (claims_of (slice_index was.others 3)))) r.contents_is (clear-at was single 1 (λ h. omega (arith, h))))) ∙ f.entry;
        checks = f.checks;
        facts = record {
          keyed = record {
            state = k.state;
            back = k.back;
            flags = k.flags;
            clean = k.clean;
            key_length = k.key_length;
            key = same-key (store_of from) (store_of image) n.contents e
                (λ short. same.key_place n.contents e (subst (IsClear (has_claim (claims_of (slice_index was.others 3)))) r.contents_is (clear-at was single 1 (λ h. omega (arith, h)))) f.entry k.key_length short)
                (same.stored (e.key_len + 1) e.long_key (clear-long e r.others_are))
                ∙ k.key;
            hashed = k.hashed;
            chained = or_left (not rule.chained) (is_among (chain (store_of image) (bucket_of_hash e.hash)).reached n.contents) (ap not free);
          };
          streams = three-streams (store_of image) e (stream 0 was.streams) (stream 1 was.streams) bytes (fourth-is (store_of from) e was.streams r.streams)
              (still e r.others_are 0 (λ h. omega (arith, h)) ∙ part 0 (omega arith)) (still e r.others_are 1 (λ h. omega (arith, h)) ∙ part 1 (omega arith)) (stored e there);
          role = role_is e there r.role;
          node_is = r.node_is;
          contents_is = r.contents_is;
          dirty_is = r.dirty_is;
          others_are = r.others_are;
        };
      }))
