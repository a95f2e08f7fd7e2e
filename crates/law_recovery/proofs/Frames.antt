-- Kept records load as before where a link of one of them changes.
use Rattle.std.proofs.Common.{◌≡◌, ◌⊎◌, ℕ, suc, ◌+◌, List, [], ◌∷◌, ◌++◌, refl, ap, sym, ◌∙◌, subst, ⊎_elim, Bool, true, false, Some, Ok}
use Rattle.std.specs.Prelude.{not, ◌||◌, nat_le, slice_index}
use Rattle.std.specs.List.{list_any, flat_map}
use Rattle.std.proofs.lemmas.Bool.{cases_Bool, eqb-true, or_parts}
use Rattle.std.proofs.lemmas.List.Folds.{list_any-append}
use Rattle.spec_format.specs.Hash.{hash}
use Rattle.spec_format.specs.BlockFiles.{is_among}
use Rattle.spec_format.specs.Claims.{Claim, same_claim, claims_of, has_claim, overlap, repeats}
use Rattle.spec_folder.specs.View.{StoreView, RecordFields, data_size_of, address_of}
use Rattle.spec_folder.specs.Chains.{chain, bucket_of_hash}
use Rattle.spec_format.specs.Storage.{longest_short_key}
use Rattle.spec_folder.specs.Entries.{is_key_length, stored_key, stored_stream, stored_streams}
use Rattle.spec_folder.specs.Loads.{Rule, held_rule, Loaded, load, record_claims, all_claims}
use Rattle.spec_folder.specs.Shown.{Apart}
use Rattle.spec_folder.specs.Footprint.{IsClear}
use Rattle.law_folder.proofs.claims.ClaimLists.{contents-claims}
use Rattle.law_folder.proofs.states.Laid.{same_claim-eq}
use Rattle.law_folder.proofs.walks.Loads.{load-then}
use Rattle.law_folder.proofs.walks.Loading.{load-from}
use Rattle.law_folder.proofs.claims.Outside.{AreClear, all-clear, index-claims}

-- ---- used blocks

-- what the one has of used blocks that don't overlap the other has not
pub apart-claim : (xs ys : List Claim) (c : Claim) → overlap xs ys ≡ false → has_claim ys c ≡ true → has_claim xs c ≡ false
unfolding overlap has_claim
apart-claim xs [] c none there = cc
apart-claim xs (y ∷ ys) c none there =
    let parts = or_parts (list_any (same_claim y) xs) (list_any (has_claim xs) ys) none in
    ⊎_elim
    (λ (e : same_claim c y ≡ true). subst (λ (d : Claim). list_any (same_claim d) xs ≡ false) (sym (same_claim-eq c y e)) parts.0)
    (λ (e : same_claim c y ≡ false). apart-claim xs ys c parts.1 (rw e at there))
    (cases_Bool (same_claim c y))

-- in two lists of used blocks that together have none twice, what is in the second isn't in the first
once-claim : (xs ys : List Claim) (c : Claim) → repeats (xs ++ ys) ≡ false → has_claim ys c ≡ true → has_claim xs c ≡ false
unfolding repeats has_claim
once-claim [] ys c once there = refl
once-claim (x ∷ xs) ys c once there =
    let parts = or_parts (list_any (same_claim x) (xs ++ ys)) (repeats (xs ++ ys)) once in
    ⊎_elim
    (λ (e : same_claim c x ≡ true).
    let same : c ≡ x = same_claim-eq c x e in
    let none : list_any (same_claim x) ys ≡ false = (or_parts (list_any (same_claim x) xs) (list_any (same_claim x) ys) (sym (list_any-append (same_claim x) xs ys) ∙ parts.0)).1 in
    let is : list_any (same_claim x) ys ≡ true = subst (λ (d : Claim). list_any (same_claim d) ys ≡ true) same there in cc)
    (λ (e : same_claim c x ≡ false). rw e (once-claim xs ys c parts.1 there))
    (cases_Bool (same_claim c x))

false_is : (b : Bool) → (b ≡ true → false ≡ true) → b ≡ false
false_is true f = sym (f refl)
false_is false f = refl

-- a record that is apart from another has none of its blocks
pub apart-clear : (one other : Loaded) → Apart one other → AreClear (has_claim (claims_of one.contents)) other
apart-clear one other apart = all-clear (has_claim (claims_of one.contents)) other (λ c there.
    false_is (has_claim (claims_of one.contents) c) (λ h. let no : has_claim (all_claims one) c ≡ false = apart-claim (all_claims one) (all_claims other) c apart.claims there in sym no ∙ contents-claims one c h))

-- and the long key and the streams of a record are not in its own blocks
pub own-clear : (k : Loaded) → repeats (record_claims k) ≡ false → (i : ℕ) → IsClear (has_claim (claims_of k.contents)) (slice_index k.others i)
unfolding record_claims
own-clear k once i c there = once-claim (claims_of k.contents) (flat_map claims_of k.others) c once (index-claims k.others i c there)

-- ---- loads

-- what is asked of a change of links for the record of a word: nothing else changes, but for data in its blocks
pub record OnlyLinks (v u : StoreView) (w : ℕ) : Type 0 where
  pub node_fields : (x : ℕ) → v.node_fields x ≡ u.node_fields x
  pub entry : (x : ℕ) → v.entry x ≡ u.entry x
  pub key_place : (x : ℕ) (fields : RecordFields) → IsClear (has_claim (claims_of w)) x ⊎ (x ≡ w) → v.entry x ≡ Some fields → is_key_length x fields ≡ true → nat_le fields.key_len longest_short_key ≡ true → v.key_place x fields.key_len ≡ u.key_place x fields.key_len
  pub stored : (size x : ℕ) → IsClear (has_claim (claims_of w)) x → v.stored size x ≡ u.stored size x

-- a kept record is in the chain of its bucket
pub load-chained : (v : StoreView) (node : ℕ) (k : Loaded) → load v held_rule node ≡ Ok k → is_among (chain v (bucket_of_hash (hash k.key))).reached k.contents ≡ true
load-chained v node k ok = load-then v held_rule node k ok (λ n e f.
    let h : e.hash ≡ hash k.key = eqb-true e.hash (hash k.key) f.facts.keyed.hashed in
    let c : is_among (chain v (bucket_of_hash e.hash)).reached n.contents ≡ true = f.facts.keyed.chained in
    subst (λ (x : ℕ). is_among (chain v (bucket_of_hash (hash k.key))).reached x ≡ true) (sym f.facts.contents_is) (subst (λ (x : ℕ). is_among (chain v (bucket_of_hash x)).reached n.contents ≡ true) h c))

-- the record of a kept node
pub record IsRecordOf (v : StoreView) (k : Loaded) : Type 0 where
  pub fields : RecordFields
  pub here : v.entry k.contents ≡ Some fields
  pub good : fields.checks ≡ true
  pub hashed : fields.hash ≡ hash k.key

pub record-of : (v : StoreView) (node : ℕ) (k : Loaded) → load v held_rule node ≡ Ok k → IsRecordOf v k
record-of v node k ok = load-then v held_rule node k ok (λ n e f. record {
  fields = e;
  here = ap v.entry f.facts.contents_is ∙ f.entry;
  good = f.checks;
  hashed = eqb-true e.hash (hash k.key) f.facts.keyed.hashed;
})

module _ (v u : StoreView) (w : ℕ) (only : OnlyLinks v u w) where
  key-still : (x : ℕ) (e : RecordFields) → IsClear (has_claim (claims_of w)) x ⊎ (x ≡ w) → IsClear (has_claim (claims_of w)) e.long_key → v.entry x ≡ Some e → is_key_length x e ≡ true → stored_key u x e ≡ stored_key v x e
  unfolding stored_key
  key-still x e clear long is fits =
      ⊎_elim
      (λ (short : nat_le e.key_len 927 ≡ true). rw (short, only.key_place x e clear is fits short) refl)
      (λ (short : nat_le e.key_len 927 ≡ false). rw (short, only.stored (e.key_len + 1) e.long_key long) refl)
      (cases_Bool (nat_le e.key_len 927))

  streams-still : (e : RecordFields) → ((i : ℕ) → IsClear (has_claim (claims_of w)) (slice_index e.data_addr i)) → stored_streams u e ≡ stored_streams v e
  unfolding stored_streams stored_stream
  streams-still e clear = rw (only.stored (data_size_of e 0) (address_of e 0) (clear 0), only.stored (data_size_of e 1) (address_of e 1) (clear 1), only.stored (data_size_of e 2) (address_of e 2) (clear 2)) refl

  -- a kept record loads the same, where it is still in its chain
  pub load-linked : (rule : Rule) (node : ℕ) (k : Loaded) → load v rule node ≡ Ok k → IsClear (has_claim (claims_of w)) k.contents ⊎ (k.contents ≡ w) → ((i : ℕ) → IsClear (has_claim (claims_of w)) (slice_index k.others i))
      → (not rule.chained || is_among (chain u (bucket_of_hash (hash k.key))).reached k.contents) ≡ true → load u rule node ≡ Ok k
  load-linked rule node k ok clear others chained = load-then v rule node k ok (λ n e f.
      let r = f.facts in let q = r.keyed in
      let T : Claim → Bool = has_claim (claims_of w) in
      let here : IsClear T n.contents ⊎ (n.contents ≡ w) = subst (λ (x : ℕ). IsClear T x ⊎ (x ≡ w)) r.contents_is clear in
      let long : IsClear T e.long_key = subst (λ (xs : List ℕ). IsClear T (slice_index xs 0)) r.others_are (others 0) in
      let data_clear : (i : ℕ) → IsClear T (slice_index e.data_addr i) = λ i. subst (λ (xs : List ℕ). IsClear T (slice_index xs (suc i))) r.others_are (others (suc i)) in
      let h : e.hash ≡ hash k.key = eqb-true e.hash (hash k.key) q.hashed in
      let in_chain : (not rule.chained || is_among (chain u (bucket_of_hash e.hash)).reached n.contents) ≡ true = subst (λ (x : ℕ). (not rule.chained || is_among (chain u (bucket_of_hash x)).reached n.contents) ≡ true) (sym h) (subst (λ (x : ℕ). (not rule.chained || is_among (chain u (bucket_of_hash (hash k.key))).reached x) ≡ true) r.contents_is chained) in
      load-from u rule node k n e (record {
        node = sym (only.node_fields node) ∙ f.node;
        entry = sym (only.entry n.contents) ∙ f.entry;
        checks = f.checks;
        facts = record {
          keyed = record {
            state = q.state;
            back = q.back;
            flags = q.flags;
            clean = q.clean;
            key_length = q.key_length;
            key = key-still n.contents e here long f.entry q.key_length ∙ q.key;
            hashed = q.hashed;
            chained = in_chain;
          };
          streams = streams-still e data_clear ∙ r.streams;
          role = r.role;
          node_is = r.node_is;
          contents_is = r.contents_is;
          dirty_is = r.dirty_is;
          others_are = r.others_are;
        };
      }))
