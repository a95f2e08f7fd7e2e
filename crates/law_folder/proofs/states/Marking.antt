-- The dirty flag of a node, from the footprint of its write.
use Rattle.std.proofs.Common.{◌≡◌, ℕ, List, [], ◌∷◌, ◌++◌, refl, ap, sym, ◌∙◌, subst, Bool, true, false, Option, Some, Ok, ⊎_elim}
use Rattle.std.specs.Prelude.{not, ◌&&◌, ◌||◌, ◌==◌, slice_index}
use Rattle.std.specs.Option.{option_map_or}
use Rattle.std.specs.List.{flat_map}
use Rattle.std.proofs.lemmas.Bool.{cases_Bool, or_left, or_right, or_parts, eq-eqb}
use Rattle.std.proofs.Common.{set, suc}
use Rattle.blk_model.specs.Items.{main}
use Rattle.blk_model.specs.State.{State, Object, IsValidState, object_at}
use Rattle.spec_format.specs.BlockFiles.{is_among}
use Rattle.spec_format.specs.Claims.{Claim, same_claim, claims_of, has_claim, repeats}
use Rattle.spec_folder.specs.View.{View, StoreView, NodeFields, RecordFields}
use Rattle.spec_folder.specs.Chains.{chain, bucket_of_hash}
use Rattle.spec_folder.specs.Loads.{Rule, Loaded, load, all_claims, record_claims}
use Rattle.spec_folder.specs.Layout.{Layout, rule_of, Represents, changed_at}
use Rattle.spec_folder.specs.Footprint.{SameNodeLinks, IsClear, SameStore, SameBut, IsFreeBut}
use Rattle.law_folder.proofs.walks.Loads.{load-then}
use Rattle.law_folder.proofs.walks.Loading.{load-from}
use Rattle.law_folder.proofs.walks.Shown.{node-is}
use Rattle.law_folder.proofs.claims.ClaimLists.{claim-append, claim-head, no-claim}
use Rattle.law_folder.proofs.claims.Outside.{key-same, streams-same, index-claims}
use Rattle.law_folder.proofs.states.Settling.{settle-one, main-listed, settle-change}
use Rattle.law_folder.proofs.states.Replacing.{replaced}
use Rattle.law_folder.proofs.states.Laid.{same_claim-eq}

-- used blocks that do not repeat are in one of two parts alone
pub repeats-apart : (xs ys : List Claim) (c : Claim) → repeats (xs ++ ys) ≡ false → has_claim xs c ≡ true → has_claim ys c ≡ false
unfolding repeats
repeats-apart [] ys c e h = absurd (let z : false ≡ true = sym (no-claim c) ∙ h in cc)
repeats-apart (x ∷ xs) ys c e h =
    let p = or_parts (has_claim (xs ++ ys) x) (repeats (xs ++ ys)) e in
    ⊎_elim
    (λ (s : same_claim c x ≡ true).
    let q = or_parts (has_claim xs x) (has_claim ys x) (sym (claim-append xs ys x) ∙ p.0) in
    ap (has_claim ys) (same_claim-eq c x s) ∙ q.1)
    (λ (s : same_claim c x ≡ false). let t : (same_claim c x || has_claim xs c) ≡ true = sym (claim-head x xs c) ∙ h in repeats-apart xs ys c p.1 (rw s at t))
    (cases_Bool (same_claim c x))

-- a node with another dirty flag, its record untouched
load-marked : (touched : Claim → Bool) (v u : StoreView) (same : SameStore touched v u) (rule : Rule) (w d : ℕ) (l : Loaded) → rule.clean ≡ false → rule.chained ≡ false
    → ((n : NodeFields) → v.node_fields w ≡ Some n → u.node_fields w ≡ Some (record n { dirty = d })) → IsClear touched l.contents → ((i : ℕ) → IsClear touched (slice_index l.others i))
    → load v rule w ≡ Ok l → load u rule w ≡ Ok (record l { dirty = d })
load-marked touched v u same rule w d l any free is contents others ok = load-then v rule w l ok (λ n e f.
    let r = f.facts in let k = r.keyed in
    let at : IsClear touched n.contents = subst (IsClear touched) r.contents_is contents in
    let long : IsClear touched e.long_key = subst (λ (xs : List ℕ). IsClear touched (slice_index xs 0)) r.others_are (others 0) in
    let data_clear : (i : ℕ) → IsClear touched (slice_index e.data_addr i) = λ i. subst (λ (xs : List ℕ). IsClear touched (slice_index xs (suc i))) r.others_are (others (suc i)) in
    load-from u rule w (record l { dirty = d }) (record n { dirty = d }) e (record {
      node = is n f.node;
      entry = sym (same.entry n.contents at) ∙ f.entry;
      checks = f.checks;
      facts = record {
        keyed = record {
          state = k.state;
          back = k.back;
          flags = k.flags;
          clean = or_left (not rule.clean) (d == 0) (ap not any);
          key_length = k.key_length;
          key = key-same touched v u same n.contents e at long f.entry k.key_length ∙ k.key;
          hashed = k.hashed;
          chained = or_left (not rule.chained) (is_among (chain u (bucket_of_hash e.hash)).reached n.contents) (ap not free);
        };
        streams = streams-same touched v u same e data_clear ∙ r.streams;
        role = r.role;
        node_is = r.node_is;
        contents_is = r.contents_is;
        dirty_is = refl;
        others_are = r.others_are;
      };
    }))

-- the dirty flag of a node of a layout, from the footprint of its write
module _ (v u : View) (m : State) (y : Layout) (r : Represents v m y) (w0 : ℕ) (l : Loaded) (at : y.at w0 ≡ Some l) (d : ℕ) (same : SameBut (has_claim (claims_of w0)) v u)
    (node_fields : (n : NodeFields) → v.store.node_fields w0 ≡ Some n → u.store.node_fields w0 ≡ Some (record n { dirty = d })) where
  loads : load v.store (rule_of y w0) w0 ≡ Ok l
  loads = r.holds.shows.each w0 l at

  node : l.node ≡ w0
  node = node-is v.store (rule_of y w0) w0 l loads

  -- the used blocks of the node are its own
  node-own : (c : Claim) → has_claim (claims_of w0) c ≡ true → y.owner c ≡ Some w0
  unfolding all_claims
  node-own c h = r.holds.lies.own w0 l c at (claim-append (claims_of l.node) (record_claims l) c ∙ or_left (has_claim (claims_of l.node) c) (has_claim (record_claims l) c) (ap (λ (x : ℕ). has_claim (claims_of x) c) node ∙ h))

  pub node-alone : IsFreeBut w0 (has_claim (claims_of w0)) y
  node-alone c x own apart = ⊎_elim
      (λ (e : has_claim (claims_of w0) c ≡ true). let p : y.owner c ≡ Some w0 = node-own c e in let q : y.owner c ≡ Some x = own in let s : w0 ≡ x = cc in
      absurd (let z : true ≡ false = sym (eq-eqb w0 x s) ∙ apart in cc))
      (λ (e : has_claim (claims_of w0) c ≡ false). e)
      (cases_Bool (has_claim (claims_of w0) c))

  -- the record uses none of the node's blocks
  record-clear : (c : Claim) → has_claim (record_claims l) c ≡ true → has_claim (claims_of w0) c ≡ false
  unfolding all_claims
  record-clear c h = ⊎_elim
      (λ (e : has_claim (claims_of w0) c ≡ true).
      let a : has_claim (record_claims l) c ≡ false = repeats-apart (claims_of l.node) (record_claims l) c (r.holds.lies.single w0 l at) (ap (λ (x : ℕ). has_claim (claims_of x) c) node ∙ e) in
      absurd (let z : true ≡ false = sym h ∙ a in cc))
      (λ (e : has_claim (claims_of w0) c ≡ false). e)
      (cases_Bool (has_claim (claims_of w0) c))

  pub contents-clear : IsClear (has_claim (claims_of w0)) l.contents
  unfolding record_claims
  contents-clear c h = record-clear c (claim-append (claims_of l.contents) (flat_map claims_of l.others) c ∙ or_left (has_claim (claims_of l.contents) c) (has_claim (flat_map claims_of l.others) c) h)

  others-clear : (i : ℕ) → IsClear (has_claim (claims_of w0)) (slice_index l.others i)
  unfolding record_claims
  others-clear i c h = record-clear c (claim-append (claims_of l.contents) (flat_map claims_of l.others) c ∙ or_right (has_claim (claims_of l.contents) c) (has_claim (flat_map claims_of l.others) c) (index-claims l.others i c h))

  pub loads-marked : load u.store (rule_of y w0) w0 ≡ Ok (record l { dirty = d })
  loads-marked = load-marked (has_claim (claims_of w0)) v.store u.store same.store (rule_of y w0) w0 d l refl refl node_fields contents-clear others-clear loads

module _ (v u : View) (m : State) (y : Layout) (r : Represents v m y) (valid : IsValidState m) (number : ℕ) (o : Object) (b : Bool) (here : object_at m number ≡ Some o) (live : o.live ≡ true)
    (l : Loaded) (d : ℕ) (at : y.at (y.place (main o.key)) ≡ Some l) (mark : (d == 0) ≡ b)
    (same : SameBut (has_claim (claims_of (y.place (main o.key)))) v u)
    (node_fields : (n : NodeFields) → v.store.node_fields (y.place (main o.key)) ≡ Some n → u.store.node_fields (y.place (main o.key)) ≡ Some (record n { dirty = d }))
    (links : SameNodeLinks (y.place (main o.key)) v.list u.list) where
  clear : IsClear (has_claim (claims_of (y.place (main o.key)))) l.contents
  clear = contents-clear v u m y r (y.place (main o.key)) l at d same node_fields

  pub marked : Represents u (record m { objects = set m.objects number (Some (record o { settled = b })) }) (changed_at y (y.place (main o.key)) (record l { dirty = d }) y.owner)
  marked = replaced (has_claim (claims_of (y.place (main o.key)))) v u m y r (set m.objects number (Some (record o { settled = b }))) (main o.key) l (record l { dirty = d }) y.owner same
      (settle-one m valid number o b here live) (main-listed m valid number o b here live) at (settle-change m valid number o b here live y r.holds.lies l at d mark)
      (record {
        apart = node-alone v u m y r (y.place (main o.key)) l at d same node_fields;
        loads = loads-marked v u m y r (y.place (main o.key)) l at d same node_fields;
        bucket = λ n. ap (λ (x : Option RecordFields). option_map_or (λ e. e.checks && (bucket_of_hash e.hash == n)) x false) (sym (same.store.entry l.contents clear));
        chain_next = sym (same.store.chain_next l.contents clear);
        links = links;
      })
