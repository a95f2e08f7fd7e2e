-- What lies outside a footprint stays.
use Rattle.std.proofs.Common.{◌≡◌, ℕ, zero, suc, ◌+◌, ◌<◌, List, [], ◌∷◌, ◌++◌, refl, ap, sym, ◌∙◌, subst, Bool, true, false, Option, Some, Ok, ⊎_elim}
use Rattle.std.specs.Prelude.{not, ◌&&◌, ◌==◌, nat_le, slice_index}
use Rattle.std.specs.Option.{option_map_or}
use Rattle.std.specs.List.{flat_map, list_any}
use Rattle.std.proofs.lemmas.Bool.{cases_Bool, or_left, or_right, eq-eqb}
use Rattle.std.proofs.lemmas.List.Folds.{list_any-append}
use Rattle.spec_folder.specs.ListView.{ListView, Segment, IsList, first_or, last_or}
use Rattle.blk_model.specs.State.{State}
use Rattle.spec_format.specs.BlockFiles.{is_among}
use Rattle.spec_format.specs.Claims.{Claim, same_claim, claims_of, has_claim}
use Rattle.spec_folder.specs.View.{View, StoreView, RecordFields, data_size_of, address_of}
use Rattle.spec_folder.specs.Chains.{bucket_of_hash, chain, Linked, IsChain}
use Rattle.spec_folder.specs.Loads.{Rule, Loaded, load, all_claims, record_claims}
use Rattle.spec_folder.specs.Entries.{is_key_length, stored_key, stored_stream, stored_streams}
use Rattle.spec_folder.specs.Layout.{Layout, order, rule_of, IsPlacedAt, IsListedRecord, IsLayoutOf, Shows, Represents}
use Rattle.spec_folder.specs.Footprint.{IsClear, SameStore, SameLinks, SameBut, IsFree}
use Rattle.law_folder.proofs.walks.Loads.{load-then}
use Rattle.law_folder.proofs.walks.Loading.{load-from}
use Rattle.law_folder.proofs.states.Laid.{IsNodeOf, node-of}
use Rattle.law_folder.proofs.walks.Shown.{node-is}

-- ---- used blocks of a record's words

claim-left : (xs ys : List Claim) (c : Claim) → has_claim xs c ≡ true → has_claim (xs ++ ys) c ≡ true
unfolding has_claim
claim-left xs ys c h = list_any-append (same_claim c) xs ys ∙ or_left (list_any (same_claim c) xs) (list_any (same_claim c) ys) h

claim-right : (xs ys : List Claim) (c : Claim) → has_claim ys c ≡ true → has_claim (xs ++ ys) c ≡ true
unfolding has_claim
claim-right xs ys c h = list_any-append (same_claim c) xs ys ∙ or_right (list_any (same_claim c) xs) (list_any (same_claim c) ys) h

pub clear-zero : (touched : Claim → Bool) → IsClear touched 0
unfolding claims_of has_claim
clear-zero touched c h = absurd (let x : false ≡ true = h in cc)

-- the used blocks of one of several words are used blocks of them
pub index-claims : (xs : List ℕ) (i : ℕ) (c : Claim) → has_claim (claims_of (slice_index xs i)) c ≡ true → has_claim (flat_map claims_of xs) c ≡ true
index-claims [] i c h = absurd (let x : true ≡ false = clear-zero (λ d. true) c h in cc)
index-claims (x ∷ xs) zero c h = claim-left (claims_of x) (flat_map claims_of xs) c h
index-claims (x ∷ xs) (suc i) c h = claim-right (claims_of x) (flat_map claims_of xs) c (index-claims xs i c h)

-- all words of a loaded record are clear where its used blocks are
pub record AreClear (touched : Claim → Bool) (l : Loaded) : Type 0 where
  pub node : IsClear touched l.node
  pub contents : IsClear touched l.contents
  pub others : (i : ℕ) → IsClear touched (slice_index l.others i)

pub all-clear : (touched : Claim → Bool) (l : Loaded) → ((c : Claim) → has_claim (all_claims l) c ≡ true → touched c ≡ false) → AreClear touched l
unfolding all_claims record_claims
all-clear touched l clear = record {
  node = λ c h. clear c (claim-left (claims_of l.node) (record_claims l) c h);
  contents = λ c h. clear c (claim-right (claims_of l.node) (record_claims l) c (claim-left (claims_of l.contents) (flat_map claims_of l.others) c h));
  others = λ i c h. clear c (claim-right (claims_of l.node) (record_claims l) c (claim-right (claims_of l.contents) (flat_map claims_of l.others) c (index-claims l.others i c h)));
}

-- what is the same outside, and everywhere after that, is the same outside
pub then-same : (touched : Claim → Bool) (v u s : StoreView) → SameStore touched v u → SameStore (λ c. false) u s → SameStore touched v s
then-same touched v u s one two = record {
  node_fields = λ w clear. one.node_fields w clear ∙ two.node_fields w (λ c h. refl);
  entry = λ w clear. one.entry w clear ∙ two.entry w (λ c h. refl);
  chain_next = λ w clear. one.chain_next w clear ∙ two.chain_next w (λ c h. refl);
  key_place = λ w e clear is fits short. one.key_place w e clear is fits short ∙ two.key_place w e (λ c h. refl) (sym (one.entry w clear) ∙ is) fits short;
  stored = λ size w clear. one.stored size w clear ∙ two.stored size w (λ c h. refl);
}

-- ---- what loads

module _ (touched : Claim → Bool) (v u : StoreView) (same : SameStore touched v u) where
  pub key-same : (w : ℕ) (e : RecordFields) → IsClear touched w → IsClear touched e.long_key → v.entry w ≡ Some e → is_key_length w e ≡ true → stored_key u w e ≡ stored_key v w e
  unfolding stored_key
  key-same w e clear long is fits =
      ⊎_elim
      (λ (short : nat_le e.key_len 927 ≡ true). rw (short, same.key_place w e clear is fits short) refl)
      (λ (short : nat_le e.key_len 927 ≡ false). rw (short, same.stored (e.key_len + 1) e.long_key long) refl)
      (cases_Bool (nat_le e.key_len 927))

  pub streams-same : (e : RecordFields) → ((i : ℕ) → IsClear touched (slice_index e.data_addr i)) → stored_streams u e ≡ stored_streams v e
  unfolding stored_streams stored_stream
  streams-same e clear = rw (same.stored (data_size_of e 0) (address_of e 0) (clear 0), same.stored (data_size_of e 1) (address_of e 1) (clear 1), same.stored (data_size_of e 2) (address_of e 2) (clear 2)) refl

  -- a node loads the same where nothing of its record is touched
  pub load-outside : (rule : Rule) (w : ℕ) (l : Loaded) → rule.chained ≡ false → load v rule w ≡ Ok l → AreClear touched l → load u rule w ≡ Ok l
  load-outside rule w l free ok clear = load-then v rule w l ok (λ n e f.
      let r = f.facts in let k = r.keyed in
      let entry : u.entry n.contents ≡ Some e = sym (same.entry n.contents (subst (IsClear touched) r.contents_is clear.contents)) ∙ f.entry in
      let long : IsClear touched e.long_key = subst (λ (xs : List ℕ). IsClear touched (slice_index xs 0)) r.others_are (clear.others 0) in
      let data_clear : (i : ℕ) → IsClear touched (slice_index e.data_addr i) = λ i. subst (λ (xs : List ℕ). IsClear touched (slice_index xs (suc i))) r.others_are (clear.others (suc i)) in
      load-from u rule w l n e (record {
        node = sym (same.node_fields w (subst (IsClear touched) r.node_is clear.node)) ∙ f.node;
        entry = entry;
        checks = f.checks;
        facts = record {
          keyed = record {
            state = k.state;
            back = k.back;
            flags = k.flags;
            clean = k.clean;
            key_length = k.key_length;
            key = key-same n.contents e (subst (IsClear touched) r.contents_is clear.contents) long f.entry k.key_length ∙ k.key;
            hashed = k.hashed;
            chained = or_left (not rule.chained) (is_among (chain u (bucket_of_hash e.hash)).reached n.contents) (ap not free);
          };
          streams = streams-same e data_clear ∙ r.streams;
          role = r.role;
          node_is = r.node_is;
          contents_is = r.contents_is;
          dirty_is = r.dirty_is;
          others_are = r.others_are;
        };
      }))

  -- ---- chains

  pub linked-same : (b w : ℕ) (cs : List ℕ) → ((c : ℕ) → is_among cs c ≡ true → IsClear touched c) → Linked v b w cs → Linked u b w cs
  linked-same b w [] clear linked = linked
  linked-same b w (c ∷ cs) clear linked =
      let here : IsClear touched c = clear c (or_left (c == c) (is_among cs c) (eq-eqb c c refl)) in (
        linked.0,
        ap (λ (o : Option RecordFields). option_map_or (λ e. e.checks && (bucket_of_hash e.hash == b)) o false) (sym (same.entry c here)) ∙ linked.1,
        subst (λ (x : ℕ). Linked u b x cs) (same.chain_next c here) (linked-same b (v.chain_next c) cs (λ d h. clear d (or_right (c == d) (is_among cs d) h)) linked.2),
      )

-- ---- the whole

module _ (touched : Claim → Bool) (v u : StoreView) (same : SameStore touched v u) (table : (b : ℕ) → v.table b ≡ u.table b) (y : Layout) (r : Shows v y) where
  -- what is shown stays where nothing of it is touched
  pub shows-outside : ((w : ℕ) (l : Loaded) → y.at w ≡ Some l → AreClear touched l) → ((b c : ℕ) → b < 65536 → is_among (y.chains b) c ≡ true → IsClear touched c) → Shows u y
  shows-outside clear chain_clear = record {
    no_record = sym (same.entry 0 (clear-zero touched)) ∙ r.no_record;
    each = λ w l is. load-outside touched v u same (rule_of y w) w l refl (r.each w l is) (clear w l is);
    chains = λ b below. let is : IsChain v b (y.chains b) = r.chains b below in
        record { linked = subst (λ (x : ℕ). Linked u b x (y.chains b)) (table b) (linked-same touched v u same b (v.table b) (y.chains b) (λ c there. chain_clear b c below there) is.linked); once = is.once };
  }

module _ (touched : Claim → Bool) (m : State) (y : Layout) (free : IsFree touched y) (r : IsLayoutOf m y) where
  pub clear-at : (w : ℕ) (l : Loaded) → y.at w ≡ Some l → AreClear touched l
  clear-at w l is = all-clear touched l (λ c h. free c w (r.own w l c is h))

  pub clear-chain : (b c : ℕ) → b < 65536 → is_among (y.chains b) c ≡ true → IsClear touched c
  clear-chain b c below there = let q : IsListedRecord m y c = r.unchained b c below there in subst (IsClear touched) q.record_is (clear-at q.node q.loaded q.here).contents

-- a whole list stays where its nodes are not touched
segment-same : (touched : Claim → Bool) (l k : ListView) (same : SameLinks touched l k) (before suffix : ℕ) (xs : List ℕ) → ((w : ℕ) → is_among xs w ≡ true → IsClear touched w)
    → Segment l.checks l.next l.prev before xs suffix → Segment k.checks k.next k.prev before xs suffix
segment-same touched l k same before suffix [] clear s = tt
segment-same touched l k same before suffix (x ∷ xs) clear s =
    let here : IsClear touched x = clear x (or_left (x == x) (is_among xs x) (eq-eqb x x refl)) in (
      record { good = sym (same.checks x here) ∙ s.0.good; next_is = sym (same.next x here) ∙ s.0.next_is; prev_is = sym (same.prev x here) ∙ s.0.prev_is },
      segment-same touched l k same x suffix xs (λ w h. clear w (or_right (x == w) (is_among xs w) h)) s.1,
    )

pub list-outside : (touched : Claim → Bool) (l k : ListView) (nodes : List ℕ) → SameLinks touched l k → ((w : ℕ) → is_among nodes w ≡ true → IsClear touched w) → IsList l nodes → IsList k nodes
list-outside touched l k nodes same clear list = record {
  head_is = sym same.head ∙ list.head_is;
  tail_is = sym same.tail ∙ list.tail_is;
  linked = segment-same touched l k same (first_or 0 nodes) (last_or 0 nodes) nodes clear list.linked;
  distinct = list.distinct;
  few = list.few;
  no_zero = sym (same.checks 0 (clear-zero touched)) ∙ list.no_zero;
}

-- A change inside a footprint without an owner keeps what a view represents.
pub represents-outside : (touched : Claim → Bool) (v u : View) (m : State) (y : Layout) → SameBut touched v u → IsFree touched y → Represents v m y → Represents u m y
represents-outside touched v u m y same free r = record {
  holds = record { shows = shows-outside touched v.store u.store same.store same.table y r.holds.shows (clear-at touched m y free r.holds.lies) (clear-chain touched m y free r.holds.lies); lies = r.holds.lies };
  list = list-outside touched v.list u.list (order m y) same.links clear r.list;
  idle = sym same.links.transaction ∙ r.idle;
} where
  clear : (w : ℕ) → is_among (order m y) w ≡ true → IsClear touched w
  clear w there =
      let n : IsNodeOf y m.uses w = node-of y m.uses w there in
      let l : IsPlacedAt m y n.item = r.holds.lies.laid n.item n.among in
      let a : AreClear touched l.loaded = clear-at touched m y free r.holds.lies (y.place n.item) l.loaded l.here in
      subst (IsClear touched) (node-is v.store (rule_of y (y.place n.item)) (y.place n.item) l.loaded (r.holds.shows.each (y.place n.item) l.loaded l.here) ∙ n.is) a.node
