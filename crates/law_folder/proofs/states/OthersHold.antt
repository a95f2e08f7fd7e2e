-- While some nodes are in the midst of a change or removed, the others stay as they are.
use Rattle.std.proofs.Common.{◌≡◌, ◌⊎◌, inl, inr, ⊎_elim, ℕ, suc, ◌+◌, List, ◌++◌, refl, ap, sym, ◌∙◌, subst, true, false, Some, Ok}
use Rattle.std.specs.Prelude.{not, ◌==◌, nat_le, slice_index}
use Rattle.std.specs.List.{flat_map}
use Rattle.std.proofs.lemmas.Bool.{cases_Bool, or_left, or_right, eq-eqb}
use Rattle.std.proofs.lemmas.Bool.Decides.{eqb_tells}
use Rattle.std.proofs.Math.Dec.{eqb}
use Rattle.blk_model.specs.Items.{Item, main, part}
use Rattle.blk_model.specs.State.{State}
use Rattle.spec_format.specs.BlockFiles.{is_among}
use Rattle.spec_format.specs.Claims.{Claim, claims_of, has_claim, repeats}
use Rattle.spec_folder.specs.View.{StoreView, RecordFields, data_size_of, address_of}
use Rattle.spec_folder.specs.Chains.{chain, bucket_of_hash, Linked, IsChain}
use Rattle.spec_folder.specs.Entries.{is_key_length, stored_key, stored_stream, stored_streams, role_of, parent_role}
use Rattle.spec_folder.specs.Loads.{Rule, unchained_rule, Loaded, load, all_claims, record_claims}
use Rattle.spec_folder.specs.Layout.{Layout, IsListedRecord, HasParentAt, IsPlacedAt, rule_of}
use Rattle.spec_folder.specs.Footprint.{IsClear, SameExceptAt}
use Rattle.law_folder.specs.CommandLaws.{RepresentedHoldExcept, MoreMayBeLeftOut, OthersHoldOutside, OthersHoldUnlinked, ChainedRecordsAreOnlyRecords, RecordsStayOutside, RecordsStayUnlinked, RecordsOfAnotherStateLoad}
use Rattle.law_folder.proofs.walks.Loads.{load-then}
use Rattle.law_folder.proofs.walks.Loading.{load-from}
use Rattle.law_folder.proofs.claims.ClaimLists.{claim-append}
use Rattle.law_folder.proofs.states.Marking.{repeats-apart}
use Rattle.law_folder.proofs.states.Laid.{repeats-tail}
use Rattle.law_folder.proofs.claims.Outside.{AreClear, all-clear, clear-zero, load-outside, linked-same, index-claims}

-- ---- some nodes are left out

pub represented-but : RepresentedHoldExcept
represented-but except v m y r = record {
  no_record = r.holds.shows.no_record;
  each = λ w l is sound. r.holds.shows.each w l is;
  chains = r.holds.shows.chains;
  laid = r.holds.lies.laid;
  normal = r.holds.lies.normal;
  chained = λ w l there is sound. r.holds.lies.chained w l there is;
  own = r.holds.lies.own;
  single = r.holds.lies.single;
}

pub more-left_out : MoreMayBeLeftOut
more-left_out except more v m y r larger = record {
  no_record = r.no_record;
  each = λ w l is sound. r.each w l is (smaller w sound);
  chains = r.chains;
  laid = r.laid;
  normal = r.normal;
  chained = λ w l there is sound. r.chained w l there is (smaller w sound);
  own = r.own;
  single = r.single;
} where
  smaller : (w : ℕ) → more w ≡ false → except w ≡ false
  smaller w out = ⊎_elim (λ (h : except w ≡ true). absurd (let z : true ≡ false = sym (larger w h) ∙ out in cc)) (λ (h : except w ≡ false). h) (cases_Bool (except w))

-- ---- a change that touches none of the others

pub records-outside : RecordsStayOutside
records-outside touched v u s w l ok same clear = load-outside touched v u same (unchained_rule s) w l refl ok (all-clear touched l clear)

pub others-outside : OthersHoldOutside
others-outside touched except v u m y r same table free clear = record {
  no_record = sym (same.entry 0 (clear-zero touched)) ∙ r.no_record;
  each = λ w l is sound. load-outside touched v u same (rule_of y w) w l refl (r.each w l is sound) (all-clear touched l (λ c h. free c w (r.own w l c is h) sound));
  chains = λ b below. let c : IsChain v b (y.chains b) = r.chains b below in
      record { linked = subst (λ (x : ℕ). Linked u b x (y.chains b)) (table b) (linked-same touched v u same b (v.table b) (y.chains b) (λ w h. clear b w below h) c.linked); once = c.once };
  laid = r.laid;
  normal = r.normal;
  chained = r.chained;
  own = r.own;
  single = r.single;
}

-- ---- beside a record that is written

-- the words of a record but for its contents are clear of it
pub others-clear : (l : Loaded) → repeats (all_claims l) ≡ false → (i : ℕ) → IsClear (has_claim (claims_of l.contents)) (slice_index l.others i)
unfolding all_claims record_claims
others-clear l once i c h = ⊎_elim
    (λ (e : has_claim (claims_of l.contents) c ≡ true).
    let tail : repeats (claims_of l.contents ++ flat_map claims_of l.others) ≡ false = repeats-tail (claims_of l.node) (claims_of l.contents ++ flat_map claims_of l.others) once in
    let a : has_claim (flat_map claims_of l.others) c ≡ false = repeats-apart (claims_of l.contents) (flat_map claims_of l.others) c tail e in
    absurd (let z : true ≡ false = sym (index-claims l.others i c h) ∙ a in cc))
    (λ (e : has_claim (claims_of l.contents) c ≡ false). e)
    (cases_Bool (has_claim (claims_of l.contents) c))

module _ (w : ℕ) (v u : StoreView) (same : SameExceptAt w v u) where
  key-beside : (c s : ℕ) (e : RecordFields) → IsClear (has_claim (claims_of w)) c ⊎ (c ≡ w) → IsClear (has_claim (claims_of w)) e.long_key → v.entry c ≡ Some e → is_key_length c e ≡ true → stored_key u c (record e { state = s }) ≡ stored_key v c e
  unfolding stored_key
  key-beside c s e clear long is fits =
      ⊎_elim
      (λ (short : nat_le e.key_len 927 ≡ true). rw (short, same.key_place c e clear is fits short) refl)
      (λ (short : nat_le e.key_len 927 ≡ false). rw (short, same.stored (e.key_len + 1) e.long_key long) refl)
      (cases_Bool (nat_le e.key_len 927))

  streams-beside : (s : ℕ) (e : RecordFields) → ((i : ℕ) → IsClear (has_claim (claims_of w)) (slice_index e.data_addr i)) → stored_streams u (record e { state = s }) ≡ stored_streams v e
  unfolding stored_streams stored_stream
  streams-beside s e clear = rw (same.stored (data_size_of e 0) (address_of e 0) (clear 0), same.stored (data_size_of e 1) (address_of e 1) (clear 1), same.stored (data_size_of e 2) (address_of e 2) (clear 2)) refl

  -- a node loads where its record is as before, or has another state that is asked for now
  load-beside : (rule : Rule) (b : ℕ) (state : RecordFields → ℕ) (node : ℕ) (l : Loaded) → rule.chained ≡ false → load v rule node ≡ Ok l → IsClear (has_claim (claims_of w)) l.contents ⊎ (l.contents ≡ w) → ((i : ℕ) → IsClear (has_claim (claims_of w)) (slice_index l.others i))
      → ((e : RecordFields) → v.entry l.contents ≡ Some e → u.entry l.contents ≡ Some (record e { state = state e })) → ((e : RecordFields) → (e.state == rule.state) ≡ true → (state e == b) ≡ true) → load u (record rule { state = b }) node ≡ Ok l
  unfolding is_key_length role_of parent_role
  load-beside rule b state node l free ok contents others entry asked = load-then v rule node l ok (λ n e f.
      let r = f.facts in let k = r.keyed in
      let here : v.entry l.contents ≡ Some e = ap v.entry r.contents_is ∙ f.entry in
      let at : IsClear (has_claim (claims_of w)) n.contents ⊎ (n.contents ≡ w) = subst (λ (z : ℕ). IsClear (has_claim (claims_of w)) z ⊎ (z ≡ w)) r.contents_is contents in
      let long : IsClear (has_claim (claims_of w)) e.long_key = subst (λ (xs : List ℕ). IsClear (has_claim (claims_of w)) (slice_index xs 0)) r.others_are (others 0) in
      let data_clear : (i : ℕ) → IsClear (has_claim (claims_of w)) (slice_index e.data_addr i) = λ i. subst (λ (xs : List ℕ). IsClear (has_claim (claims_of w)) (slice_index xs (suc i))) r.others_are (others (suc i)) in
      load-from u (record rule { state = b }) node l n (record e { state = state e }) (record {
        node = sym (same.node_fields node) ∙ f.node;
        entry = ap u.entry (sym r.contents_is) ∙ entry e here;
        checks = f.checks;
        facts = record {
          keyed = record {
            state = asked e k.state;
            back = k.back;
            flags = k.flags;
            clean = k.clean;
            key_length = k.key_length;
            key = key-beside n.contents (state e) e at long f.entry k.key_length ∙ k.key;
            hashed = k.hashed;
            chained = or_left (not rule.chained) (is_among (chain u (bucket_of_hash e.hash)).reached n.contents) (ap not free);
          };
          streams = streams-beside (state e) e data_clear ∙ r.streams;
          role = r.role;
          node_is = r.node_is;
          contents_is = r.contents_is;
          dirty_is = r.dirty_is;
          others_are = r.others_are;
        };
      }))

pub another-state : RecordsOfAnotherStateLoad
another-state v u before after node l e ok once same here there = load-beside l.contents v u same (unchained_rule before) after (λ c. after) node l refl ok (inr refl) (others-clear l once)
    (λ c is. let s : e ≡ c = cc in there ∙ ap (λ (z : RecordFields). Some (record z { state = after })) s)
    (λ c is. eq-eqb after after refl)

-- ---- a link that is written

-- with other chains an item lies where it lay
pub laid-chained : (m : State) (y : Layout) (chains : ℕ → List ℕ) (i : Item) → IsPlacedAt m y i → IsPlacedAt m (record y { chains = chains }) i
laid-chained m y chains i q = record { loaded = q.loaded; here = q.here; row = q.row; mark = q.mark; parent = parent i q.loaded q.parent } where
  parent : (i : Item) (l : Loaded) → HasParentAt m y i l → HasParentAt m (record y { chains = chains }) i l
  parent (main key) l p = p
  parent (part key n) l p = record { name = p.name; index = p.index; role = p.role; of_key = p.of_key; listed = p.listed; parent = p.parent; at_parent = p.at_parent; of = p.of }

pub records-unlinked : RecordsStayUnlinked
records-unlinked v u s x w l ok once same apart = ⊎_elim
    (λ (a : l.contents ≡ w). load-beside w v u same.beside (unchained_rule s) s (λ e. e.state) x l refl ok (inr a)
    (λ i. subst (λ (z : ℕ). IsClear (has_claim (claims_of z)) (slice_index l.others i)) a (others-clear l once i)) entry (λ e h. h))
    (λ (a : (c : Claim) → has_claim (all_claims l) c ≡ true → has_claim (claims_of w) c ≡ false).
    let clear : AreClear (has_claim (claims_of w)) l = all-clear (has_claim (claims_of w)) l a in
    load-beside w v u same.beside (unchained_rule s) s (λ e. e.state) x l refl ok (inl clear.contents) clear.others entry (λ e h. h))
    apart where
      entry : (e : RecordFields) → v.entry l.contents ≡ Some e → u.entry l.contents ≡ Some (record e { state = e.state })
      entry e is = sym (same.entry l.contents) ∙ is

pub others-unlinked : OthersHoldUnlinked
others-unlinked except v u m y r w same only chains now = record {
  no_record = sym (same.entry 0) ∙ r.no_record;
  each = λ x l is sound. records-unlinked v u (y.state x) x w l (r.each x l is sound) (r.single x l is) same (apart x l is);
  chains = now.whole;
  laid = λ i listed. laid-chained m y chains i (r.laid i listed);
  normal = r.normal;
  chained = now.chained;
  own = r.own;
  single = r.single;
} where
  apart : (x : ℕ) (l : Loaded) → y.at x ≡ Some l → (l.contents ≡ w) ⊎ ((c : Claim) → has_claim (all_claims l) c ≡ true → has_claim (claims_of w) c ≡ false)
  apart x l is = ⊎_elim
      (λ (a : (eqb l.contents w ≡ true) × (l.contents ≡ w)). inl a.1)
      (λ (a : (eqb l.contents w ≡ false) × _). inr (λ c h. ⊎_elim
      (λ (b : has_claim (claims_of w) c ≡ true). let p : l.contents ≡ w = only c x l b (r.own x l c is h) is in absurd (let z : true ≡ false = sym (eq-eqb l.contents w p) ∙ a.0 in cc))
      (λ (b : has_claim (claims_of w) c ≡ false). b)
      (cases_Bool (has_claim (claims_of w) c))))
      (eqb_tells l.contents w)

pub chained-only : ChainedRecordsAreOnlyRecords
unfolding all_claims record_claims
chained-only m y r b w below there c x l h owned is =
    let q : IsListedRecord m y w = r.unchained b w below there in
    let mine : has_claim (all_claims q.loaded) c ≡ true = claim-append (claims_of q.loaded.node) (record_claims q.loaded) c ∙ or_right (has_claim (claims_of q.loaded.node) c) (has_claim (record_claims q.loaded) c)
    (claim-append (claims_of q.loaded.contents) (flat_map claims_of q.loaded.others) c ∙ or_left (has_claim (claims_of q.loaded.contents) c) (has_claim (flat_map claims_of q.loaded.others) c) (ap (λ (z : ℕ). has_claim (claims_of z) c) q.record_is ∙ h)) in
    let node : q.node ≡ x = let a : y.owner c ≡ Some q.node = r.own q.node q.loaded c q.here mine in let b : y.owner c ≡ Some x = owned in cc in
    let same : q.loaded ≡ l = let a : y.at q.node ≡ Some q.loaded = q.here in let b : y.at x ≡ Some l = is in let e : y.at q.node ≡ y.at x = ap y.at node in cc in
    ap (λ (z : Loaded). z.contents) (sym same) ∙ q.record_is
