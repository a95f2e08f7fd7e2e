-- What is known of a node that is loaded or kept.
use Rattle.std.proofs.Common.{◌≡◌, ℕ, List, ◌∷◌, refl, ap, sym, ◌∙◌, subst, Bool, true, false, Option, Some, None, Result, Ok, Err}
use Rattle.std.specs.Prelude.{not, ◌||◌, ◌==◌, nat_le}
use Rattle.std.specs.Option.{ok_or}
use Rattle.std.proofs.lemmas.Bool.{eqb-true}
use Rattle.spec_format.specs.Hash.{hash}
use Rattle.spec_folder.specs.View.{StoreView, NodeFields, RecordFields}
use Rattle.spec_format.specs.BlockFiles.{is_among}
use Rattle.spec_folder.specs.Chains.{chain, bucket_of_hash}
use Rattle.spec_folder.specs.Reasons.{Reason, ◌>>=◌, demand}
use Rattle.spec_folder.specs.Loads.{Rule, held_rule, Loaded, load, load_record, load_key}
use Rattle.spec_folder.specs.Entries.{is_key_length, stored_key, stored_streams, role_of}
use Rattle.spec_folder.specs.Reasons as reason

-- a step that gave a value
pub bind_then : {A B P : Type 0} (r : Result A Reason) (f : A → Result B Reason) (y : B) → (r >>= f) ≡ Ok y → ((x : A) → r ≡ Ok x → f x ≡ Ok y → P) → P
bind_then (Ok x) f y e goes = goes x refl e
bind_then (Err reason) f y e goes = cc

pub demand_then : {B P : Type 0} (b : Bool) (reason : Reason) (x : Result B Reason) (y : B) → (demand b reason >>= λ _. x) ≡ Ok y → (b ≡ true → x ≡ Ok y → P) → P
demand_then true reason x y e goes = goes refl e
demand_then false reason x y e goes = cc

pub some_then : {A B P : Type 0} (o : Option A) (reason : Reason) (f : A → Result B Reason) (y : B) → (ok_or o reason >>= f) ≡ Ok y → ((x : A) → o ≡ Some x → f x ≡ Ok y → P) → P
some_then None reason f y e goes = cc
some_then (Some a) reason f y e goes = goes a refl e

-- what holds of a record whose key was loaded
pub record IsKeyed (v : StoreView) (rule : Rule) (w contents dirty : ℕ) (e : RecordFields) (key_is : List ℕ) : Type 0 where
  pub state : (e.state == rule.state) ≡ true
  pub back : (e.rankings_node == w) ≡ true
  pub flags : nat_le e.flags 2 ≡ true
  pub clean : (not rule.clean || (dirty == 0)) ≡ true
  pub key_length : is_key_length contents e ≡ true
  pub key : stored_key v contents e ≡ Some key_is
  pub hashed : (e.hash == hash key_is) ≡ true
  pub chained : (not rule.chained || is_among (chain v (bucket_of_hash e.hash)).reached contents) ≡ true

pub load_key-facts : (v : StoreView) (rule : Rule) (w contents dirty : ℕ) (e : RecordFields) (key : List ℕ) → load_key v rule w contents dirty e ≡ Ok key → IsKeyed v rule w contents dirty e key
unfolding load_key
load_key-facts v rule w contents dirty e l ok =
    demand_then (e.state == rule.state) reason.State _ l ok (λ state ok.
    demand_then (e.rankings_node == w) reason.Back _ l ok (λ back ok.
    demand_then (nat_le e.flags 2) reason.Flags _ l ok (λ flags ok.
    demand_then (not rule.clean || (dirty == 0)) reason.Dirty _ l ok (λ clean ok.
    demand_then (is_key_length contents e) reason.KeyLength _ l ok (λ key_length ok.
    some_then (stored_key v contents e) reason.KeyPlace _ l ok (λ key key_is ok.
    demand_then (e.hash == hash key) reason.Hash _ l ok (λ hashed ok.
    demand_then (not rule.chained || is_among (chain v (bucket_of_hash e.hash)).reached contents) reason.Chain _ l ok (λ chained ok.
    let one : key ≡ l = cc in
    subst (λ (k : List ℕ). IsKeyed v rule w contents dirty e k) one (record { state = state; back = back; flags = flags; clean = clean; key_length = key_length; key = key_is; hashed = hashed; chained = chained })))))))))

-- what holds of a record that was loaded
pub record IsLoadedRecord (v : StoreView) (rule : Rule) (w contents dirty : ℕ) (e : RecordFields) (l : Loaded) : Type 0 where
  pub keyed : IsKeyed v rule w contents dirty e l.key
  pub streams : stored_streams v e ≡ Some l.streams
  pub role : role_of e l.key l.streams ≡ Some l.role
  pub node_is : l.node ≡ w
  pub contents_is : l.contents ≡ contents
  pub dirty_is : l.dirty ≡ dirty
  pub others_are : l.others ≡ e.long_key ∷ e.data_addr

pub load_record-facts : (v : StoreView) (rule : Rule) (w contents dirty : ℕ) (e : RecordFields) (l : Loaded) → load_record v rule w contents dirty e ≡ Ok l → IsLoadedRecord v rule w contents dirty e l
unfolding load_record
load_record-facts v rule w contents dirty e l ok =
    bind_then (load_key v rule w contents dirty e) _ l ok (λ key loaded ok.
    some_then (stored_streams v e) reason.Streams _ l ok (λ streams streams_are ok.
    some_then (role_of e key streams) reason.Sparse _ l ok (λ role role_is ok.
    let m : Loaded = record { node = w; contents = contents; dirty = dirty; key = key; role = role; streams = streams; others = e.long_key ∷ e.data_addr } in
    let made : m ≡ l = cc in
    subst (λ (x : Loaded). IsLoadedRecord v rule w contents dirty e x) made (record {
      keyed = load_key-facts v rule w contents dirty e key loaded;
      streams = streams_are;
      role = role_is;
      node_is = refl;
      contents_is = refl;
      dirty_is = refl;
      others_are = refl;
    }))))

-- what holds of a node that was loaded
pub record IsLoadedNode (v : StoreView) (rule : Rule) (w : ℕ) (l : Loaded) (n : NodeFields) (e : RecordFields) : Type 0 where
  pub node : v.node_fields w ≡ Some n
  pub entry : v.entry n.contents ≡ Some e
  pub checks : e.checks ≡ true
  pub facts : IsLoadedRecord v rule w n.contents n.dirty e l

pub load-then : {P : Type 0} (v : StoreView) (rule : Rule) (w : ℕ) (l : Loaded) → load v rule w ≡ Ok l → ((n : NodeFields) (e : RecordFields) → IsLoadedNode v rule w l n e → P) → P
unfolding load
load-then v rule w l ok goes =
    some_then (v.node_fields w) reason.Contents _ l ok (λ n node ok.
    some_then (v.entry n.contents) reason.Contents _ l ok (λ e entry ok.
    demand_then (e.checks) reason.Seal _ l ok (λ checks ok.
    goes n e (record { node = node; entry = entry; checks = checks; facts = load_record-facts v rule w n.contents n.dirty e l ok }))))

-- two records with the same key, for which none of the reasons up to the chain holds, are in the chain of one bucket
pub one-chain : (v : StoreView) (w x c d m n : ℕ) (e f : RecordFields) (key : List ℕ) → load_key v held_rule w c m e ≡ Ok key → load_key v held_rule x d n f ≡ Ok key
    → (bucket_of_hash e.hash ≡ bucket_of_hash f.hash) × (is_among (chain v (bucket_of_hash (hash key))).reached c ≡ true) × (is_among (chain v (bucket_of_hash (hash key))).reached d ≡ true)
one-chain v w x c d m n e f key a b =
    let p : IsKeyed v held_rule w c m e key = load_key-facts v held_rule w c m e key a in
    let q : IsKeyed v held_rule x d n f key = load_key-facts v held_rule x d n f key b in
    let he : e.hash ≡ hash key = eqb-true e.hash (hash key) p.hashed in
    let hf : f.hash ≡ hash key = eqb-true f.hash (hash key) q.hashed in
    (ap bucket_of_hash (he ∙ sym hf), subst (λ (h : ℕ). is_among (chain v (bucket_of_hash h)).reached c ≡ true) he p.chained, subst (λ (h : ℕ). is_among (chain v (bucket_of_hash h)).reached d ≡ true) hf q.chained)
