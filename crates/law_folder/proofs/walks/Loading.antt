-- A node that loads under one rule loads under another.
use Rattle.std.proofs.Common.{◌≡◌, ℕ, refl, ap, ap₂, sym, ◌∙◌, subst, true, Some, Ok}
use Rattle.std.specs.Prelude.{not, ◌||◌, ◌==◌}
use Rattle.std.proofs.lemmas.Bool.{eqb-true}
use Rattle.spec_format.specs.Hash.{hash}
use Rattle.spec_format.specs.BlockFiles.{is_among}
use Rattle.spec_folder.specs.View.{StoreView, NodeFields, RecordFields}
use Rattle.spec_folder.specs.Chains.{chain, bucket_of_hash}
use Rattle.spec_folder.specs.Loads.{Rule, Loaded, load, load_record, load_key}
use Rattle.spec_folder.specs.Entries.{stored_key, stored_streams, role_of}
use Rattle.law_folder.proofs.walks.Loads.{IsLoadedRecord, IsLoadedNode, load-then}

-- what has all these facts loads
record-from : (v : StoreView) (rule : Rule) (w c d : ℕ) (l : Loaded) (e : RecordFields) → IsLoadedRecord v rule w c d e l → load_record v rule w c d e ≡ Ok l
unfolding load_record load_key
record-from v rule w c d l e r =
    let k = r.keyed in
    rw (k.state, k.back, k.flags, k.clean, k.key_length, k.key, k.hashed, k.chained, r.streams, r.role)
    (ap Ok (λ i. record { node = sym r.node_is i; contents = sym r.contents_is i; dirty = sym r.dirty_is i; key = l.key; role = l.role; streams = l.streams; others = sym r.others_are i }))

pub load-from : (v : StoreView) (rule : Rule) (w : ℕ) (l : Loaded) (n : NodeFields) (e : RecordFields) → IsLoadedNode v rule w l n e → load v rule w ≡ Ok l
unfolding load
load-from v rule w l n e f = rw (f.node, f.entry, record-from v rule w n.contents n.dirty l e f.facts, f.checks) refl

-- under another rule of the same state
pub load-rule : (v : StoreView) (a b : Rule) (w : ℕ) (l : Loaded) → load v a w ≡ Ok l → b.state ≡ a.state → (not b.clean || (l.dirty == 0)) ≡ true
    → (not b.chained || is_among (chain v (bucket_of_hash (hash l.key))).reached l.contents) ≡ true → load v b w ≡ Ok l
load-rule v a b w l ok state clean chained = load-then v a w l ok (λ n e f.
    let r = f.facts in let k = r.keyed in
    let h : e.hash ≡ hash l.key = eqb-true e.hash (hash l.key) k.hashed in
    load-from v b w l n e (record {
      node = f.node;
      entry = f.entry;
      checks = f.checks;
      facts = record {
        keyed = record {
          state = ap (λ (s : ℕ). e.state == s) state ∙ k.state;
          back = k.back;
          flags = k.flags;
          clean = ap (λ (d : ℕ). not b.clean || (d == 0)) (sym r.dirty_is) ∙ clean;
          key_length = k.key_length;
          key = k.key;
          hashed = k.hashed;
          chained = ap (λ (x : ℕ). not b.chained || is_among (chain v (bucket_of_hash x)).reached n.contents) h ∙ ap (λ (x : ℕ). not b.chained || is_among (chain v (bucket_of_hash (hash l.key))).reached x) (sym r.contents_is) ∙ chained;
        };
        streams = r.streams;
        role = r.role;
        node_is = r.node_is;
        contents_is = r.contents_is;
        dirty_is = r.dirty_is;
        others_are = r.others_are;
      };
    }))

-- what loads under two rules is one
one-record : (v : StoreView) (a b : Rule) (w c d : ℕ) (e : RecordFields) (l k : Loaded) → IsLoadedRecord v a w c d e l → IsLoadedRecord v b w c d e k → l ≡ k
one-record v a b w c d e l k p q =
    let key : l.key ≡ k.key = let x : stored_key v c e ≡ Some l.key = p.keyed.key in let y : stored_key v c e ≡ Some k.key = q.keyed.key in cc in
    let streams : l.streams ≡ k.streams = let x : stored_streams v e ≡ Some l.streams = p.streams in let y : stored_streams v e ≡ Some k.streams = q.streams in cc in
    let role : l.role ≡ k.role = let x : role_of e l.key l.streams ≡ Some l.role = p.role in let y : role_of e k.key k.streams ≡ Some k.role = q.role in let z : role_of e l.key l.streams ≡ role_of e k.key k.streams = ap₂ (role_of e) key streams in cc in
    λ i. record {
      node = (p.node_is ∙ sym q.node_is) i;
      contents = (p.contents_is ∙ sym q.contents_is) i;
      dirty = (p.dirty_is ∙ sym q.dirty_is) i;
      key = key i;
      role = role i;
      streams = streams i;
      others = (p.others_are ∙ sym q.others_are) i;
    }

pub load-one : (v : StoreView) (a b : Rule) (w : ℕ) (l k : Loaded) → load v a w ≡ Ok l → load v b w ≡ Ok k → l ≡ k
load-one v a b w l k ok also = load-then v a w l ok (λ n e f. load-then v b w k also (λ m d g.
    let node_fields : m ≡ n = let x : ◌≡◌ (v.node_fields w) (Some m) = g.node in let y : v.node_fields w ≡ Some n = f.node in cc in
    let fields : d ≡ e = let x : v.entry m.contents ≡ v.entry n.contents = ap (λ (x : NodeFields). v.entry x.contents) node_fields in let s : v.entry n.contents ≡ Some e = f.entry in let t : v.entry m.contents ≡ Some d = g.entry in cc in
    let q : IsLoadedRecord v b w n.contents n.dirty d k = subst (λ (x : NodeFields). IsLoadedRecord v b w x.contents x.dirty d k) node_fields g.facts in
    one-record v a b w n.contents n.dirty e l k f.facts (subst (λ (x : RecordFields). IsLoadedRecord v b w n.contents n.dirty x k) fields q)))

-- its dirty flag
pub load-clean : (v : StoreView) (a : Rule) (w : ℕ) (l : Loaded) → load v a w ≡ Ok l → (not a.clean || (l.dirty == 0)) ≡ true
load-clean v a w l ok = load-then v a w l ok (λ n e f. ap (λ (d : ℕ). not a.clean || (d == 0)) f.facts.dirty_is ∙ f.facts.keyed.clean)
