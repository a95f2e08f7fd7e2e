-- A state of one object, `a` with the stream 0 `zz`, and a view that represents it: so the laws from an image to a state speak of something.
use Rattle.std.proofs.Common.{◌≡◌, ⊎_elim, ℕ, zero, suc, ◌<◌, List, [], ◌∷◌, refl, ap, sym, ◌∙◌, subst, arith, Bool, true, false, Some, None, Ok}
use Rattle.std.specs.Prelude.{if◌then◌else◌, ◌==◌, ◌&&◌, ◌||◌, codes, replicate}
use Rattle.std.proofs.lemmas.Bool.{eqb-true, cases_Bool}
use Rattle.std.proofs.lemmas.Bool.Decides.{nat_tests}
use Rattle.blk_model.specs.Items.{Item, main, main_row, plain, same_item, key_of}
use Rattle.blk_model.specs.State.{Object, State, object_at}
use Rattle.blk_model.specs.Holding.{open_state, objects_in, row_of}
use Rattle.blk_model.proofs.Same.{one_item}
use Rattle.spec_format.specs.Hash.{of_one, of_bytes, mixed, hash}
use Rattle.spec_format.specs.Address.{kind_of, block_count, file_selector, first_block, external_number}
use Rattle.spec_format.specs.Storage.{entry_blocks}
use Rattle.spec_format.specs.Claims.{Claim, BlockOf, claims_of, has_claim, repeats}
use Rattle.spec_format.specs.BlockFiles.{is_among}
use Rattle.spec_folder.specs.ListView.{ListView}
use Rattle.spec_folder.specs.View.{View, StoreView, RecordFields}
use Rattle.spec_folder.specs.Chains.{bucket_of_hash, IsChain}
use Rattle.spec_folder.specs.Entries.{IsPlain, is_key_length, stored_stream, stored_streams, role_of}
use Rattle.spec_folder.specs.Entries as entries
use Rattle.spec_folder.specs.Loads.{unchained_rule, Loaded, load, load_key, load_record, record_claims, all_claims}
use Rattle.spec_folder.specs.Layout.{Layout, is_listed, IsPlacedAt, IsListedRecord, Represents, IsInProgress}
use Rattle.spec_folder.specs.Footprint.{IsClear}
use Rattle.spec_folder.specs.Emptiness.{no_view, no_layout}
use Rattle.law_folder.specs.CommandLaws.{IsPlacedAsLive, IsWrittenApart}
use Rattle.law_folder.proofs.states.Empty.{empty, empty-valid}

-- the object, clean or not
abbrev pub object : Bool → Object
object settled = record { key = codes "a"; shape = plain; streams = (codes "zz", [], []); parts = []; live = true; settled = settled }

-- the state, in which handle 0 names it
abbrev pub state : Bool → State
state settled = record { objects = Some (object settled) ∷ []; uses = main (codes "a") ∷ []; names = Some 0 ∷ replicate 4095 None; limits = record { max_bytes = 1000; max_items = 10 } }

-- node 0, and the record at block 0 of data_1, with stream 0 at block 1
abbrev pub node : ℕ
node = 0x90000000

abbrev pub contents : ℕ
contents = 0xA0010000

abbrev pub bucket : ℕ
bucket = 0xA782

-- what the node names, with this dirty flag
abbrev pub loaded : ℕ → Loaded
loaded dirty = record { node = node; contents = contents; dirty = dirty; key = codes "a"; role = IsPlain; streams = codes "zz" ∷ [] ∷ [] ∷ []; others = 0 ∷ 0xA0010001 ∷ 0 ∷ 0 ∷ 0 ∷ [] }

-- the layout of the one entry
abbrev pub layout : ℕ → Layout
layout dirty = record {
  place = λ item. node;
  place_of_doomed = λ number. 0;
  at = λ w. if w == node then Some (loaded dirty) else None;
  state = λ w. 0;
  chains = λ b. if b == bucket then contents ∷ [] else [];
  owner = λ claim. if has_claim (all_claims (loaded 0)) claim then Some node else None;
}

abbrev pub fields : RecordFields
fields = record { checks = true; hash = 0x115EA782; rankings_node = node; state = 0; key_len = 1; long_key = 0; data_size = 2 ∷ 0 ∷ 0 ∷ 0 ∷ []; data_addr = 0xA0010001 ∷ 0 ∷ 0 ∷ 0 ∷ []; flags = 0 }

abbrev pub list : ListView
list = record { head = node; tail = node; transaction = 0; operation = 0; checks = λ w. w == node; next = λ w. node; prev = λ w. node }

-- all but the list, with this table word in the bucket of `a`
abbrev pub store : ℕ → ℕ → StoreView
store first dirty = record {
  node_fields = λ w. if w == node then Some (record { contents = contents; dirty = dirty }) else None;
  table = λ b. if b == bucket then first else 0;
  chain_next = λ w. 0;
  entry = λ w. if w == contents then Some fields else None;
  key_place = λ w n. codes "a";
  stored = λ size w. if (size == 0) && (w == 0) then Some [] else if (size == 2) && (w == 0xA0010001) then Some (codes "zz") else None;
}

abbrev pub view : ℕ → View
view dirty = record { list = list; store = store contents dirty }

-- what a test of places gives
pub choice : {A : Type 0} (b : Bool) (x y : A) → (if b then Some x else None) ≡ Some y → (b ≡ true) × (x ≡ y)
choice true x y e = (refl, cc)
choice false x y e = cc

pub at-node : (dirty w : ℕ) (l : Loaded) → (layout dirty).at w ≡ Some l → (w ≡ node) × (loaded dirty ≡ l)
at-node dirty w l e = let c = choice (w == node) (loaded dirty) l e in (eqb-true w node c.0, c.1)

-- the node loads by itself
pub loads : (first dirty : ℕ) → load (store first dirty) (unchained_rule 0) node ≡ Ok (loaded dirty)
unfolding load load_record load_key is_key_length entries.stored_key stored_stream stored_streams role_of block_count entry_blocks hash mixed of_bytes of_one
loads first dirty = refl

-- the used blocks of the one entry
pub claims : all_claims (loaded 0) ≡ BlockOf 0 0 ∷ BlockOf 1 0 ∷ BlockOf 1 1 ∷ []
unfolding all_claims record_claims claims_of kind_of block_count file_selector first_block external_number
claims = refl

pub one-claims : (dirty : ℕ) → all_claims (loaded dirty) ≡ all_claims (loaded 0)
unfolding all_claims record_claims
one-claims dirty = refl

pub once-claimed : (dirty : ℕ) → repeats (all_claims (loaded dirty)) ≡ false
unfolding repeats has_claim all_claims record_claims claims_of kind_of block_count file_selector first_block external_number
once-claimed dirty = refl

pub row-of : (settled : Bool) → row_of (state settled) (main (codes "a")) ≡ Some (main_row (codes "a") plain (codes "zz", [], []))
unfolding row_of
row-of settled = refl

pub its-bucket : hash (codes "a") ≡ 0x115EA782
unfolding hash mixed of_bytes of_one
its-bucket = refl

pub no-doomed : (settled : Bool) (number : ℕ) (o : Object) → object_at (state settled) number ≡ Some o → o.live ≡ false → ⊥
no-doomed settled zero o e dead = let s : object settled ≡ o = cc in let c : true ≡ false = ap (λ (z : Object). z.live) s ∙ dead in cc
no-doomed settled (suc n) o e dead = cc

pub among-one : (x w : ℕ) → is_among (x ∷ []) w ≡ true → x ≡ w
among-one x w e = grind (arith, nat_tests)

-- the view represents the state
pub represented : (dirty : ℕ) → Represents (view dirty) (state (dirty == 0)) (layout dirty)
represented dirty = record {
  holds = record {
    shows = record { no_record = refl; each = each; chains = chains };
    lies = record {
      laid = λ item h. subst (λ (i : Item). IsPlacedAt (state (dirty == 0)) (layout dirty) i) (sym (is-a item h)) (record { loaded = loaded dirty; here = refl; row = row-of (dirty == 0); mark = refl; parent = tt });
      normal = λ w h. refl;
      chained = λ w l h is. let p = at-node dirty w l is in subst (λ (x : Loaded). is_among ((layout dirty).chains (bucket_of_hash (hash x.key))) x.contents ≡ true) p.1 (rw its-bucket refl);
      unchained = unchained;
      own = λ w l c is h. let p = at-node dirty w l is in
          let mine : has_claim (all_claims (loaded 0)) c ≡ true = ap (λ (cs : List Claim). has_claim cs c) (sym (one-claims dirty)) ∙ ap (λ (x : Loaded). has_claim (all_claims x) c) p.1 ∙ h in
          rw mine (ap (λ (x : ℕ). Some x) (sym p.0));
      single = λ w l is. ap (λ (x : Loaded). repeats (all_claims x)) (sym (at-node dirty w l is).1) ∙ once-claimed dirty;
      doomed_objects = λ number o is dead. absurd (no-doomed (dirty == 0) number o is dead);
    };
  };
  list = record { head_is = refl; tail_is = refl; linked = (record { good = refl; next_is = refl; prev_is = refl }, tt); distinct = (refl, tt); few = omega arith; no_zero = refl };
  idle = refl;
} where
  each : (w : ℕ) (l : Loaded) → (layout dirty).at w ≡ Some l → load (store contents dirty) (unchained_rule 0) w ≡ Ok l
  each w l is = let p = at-node dirty w l is in subst (λ (x : ℕ). load (store contents dirty) (unchained_rule 0) x ≡ Ok l) (sym p.0) (loads contents dirty ∙ ap Ok p.1)

  chains : (b : ℕ) → b < 65536 → IsChain (store contents dirty) b ((layout dirty).chains b)
  chains b below = ⊎_elim
      (λ (e : (b == bucket) ≡ true). subst (λ (x : ℕ). IsChain (store contents dirty) x ((layout dirty).chains x)) (sym (eqb-true b bucket e)) (record { linked = (refl, refl, refl); once = (refl, tt) }))
      (λ (e : (b == bucket) ≡ false). record { linked = rw e refl; once = rw e tt })
      (cases_Bool (b == bucket))

  is-a : (item : Item) → is_listed (state (dirty == 0)) item ≡ true → item ≡ main (codes "a")
  is-a item h = one_item item (main (codes "a")) (left (same_item item (main (codes "a"))) h) where
    left : (b : Bool) → (b || false) ≡ true → b ≡ true
    left true e = refl
    left false e = cc

  unchained : (b c : ℕ) → b < 65536 → is_among ((layout dirty).chains b) c ≡ true → IsListedRecord (state (dirty == 0)) (layout dirty) c
  unchained b c below h = ⊎_elim
      (λ (e : (b == bucket) ≡ true). let one : is_among (contents ∷ []) c ≡ true = rw e at h in record { node = node; loaded = loaded dirty; listed = refl; here = refl; record_is = among-one contents c one })
      (λ (e : (b == bucket) ≡ false). let none : false ≡ true = rw e at h in absurd (let z : false ≡ true = none in cc))
      (cases_Bool (b == bucket))

-- the object of the one entry lies at its node
pub lies : (dirty : ℕ) → IsPlacedAsLive (state (dirty == 0)) (layout dirty) 0 (object (dirty == 0)) (loaded dirty)
lies dirty = record { here = refl; live = refl; at = refl }

-- the node of the dirty entry may be in the midst of a change
pub midst : IsInProgress (λ w. w == node) (store contents 5) (state false) (layout 5) (codes "a")
unfolding load load_record load_key
midst = record {
  of_key = λ item h is. key-of item h;
  unsettled = λ l is. let s : loaded 5 ≡ l = cc in ap (λ (x : Loaded). x.dirty == 0) (sym s);
  dirty = λ l ok. cc;
  parts = λ n was now h is at ok. absurd (let z : false ≡ true = h in cc);
  names = λ n was name h is at read. absurd (let z : false ≡ true = h in cc);
} where
  key-of : (item : Item) → is_listed (state false) item ≡ true → key_of item ≡ codes "a"
  key-of item h = ap key_of (one_item item (main (codes "a")) (left (same_item item (main (codes "a"))) h)) where
    left : (b : Bool) → (b || false) ≡ true → b ≡ true
    left true e = refl
    left false e = cc

-- A new object.

-- a dirty record of the key `a` with no streams
abbrev pub fresh : Loaded
fresh = record { node = node; contents = contents; dirty = 5; key = codes "a"; role = IsPlain; streams = [] ∷ [] ∷ [] ∷ []; others = 0 ∷ 0 ∷ 0 ∷ 0 ∷ 0 ∷ [] }

-- the view of it where it is written, and neither listed nor chained
abbrev pub written_view : View
written_view = record {
  list = record no_view.list { checks = λ w. w == node };
  store = record no_view.store {
    node_fields = λ w. if w == node then Some (record { contents = contents; dirty = 5 }) else None;
    entry = λ w. if w == contents then Some (record fields { data_size = 0 ∷ 0 ∷ 0 ∷ 0 ∷ []; data_addr = 0 ∷ 0 ∷ 0 ∷ 0 ∷ [] }) else None;
    key_place = λ w n. codes "a";
  };
}

fresh-loads : load written_view.store (unchained_rule 0) node ≡ Ok fresh
unfolding load load_record load_key is_key_length entries.stored_key stored_stream stored_streams role_of block_count entry_blocks hash mixed of_bytes of_one
fresh-loads = refl

fresh-once : repeats (all_claims fresh) ≡ false
unfolding repeats has_claim all_claims record_claims claims_of kind_of block_count file_selector first_block external_number
fresh-once = refl

node_fields-0 : (has_claim (claims_of node) (BlockOf 0 0) ≡ true) × (has_claim (all_claims fresh) (BlockOf 0 0) ≡ true)
unfolding has_claim all_claims record_claims claims_of kind_of block_count file_selector first_block external_number
node_fields-0 = (refl, refl)

node_fields-1 : (has_claim (claims_of contents) (BlockOf 1 0) ≡ true) × (has_claim (all_claims fresh) (BlockOf 1 0) ≡ true)
unfolding has_claim all_claims record_claims claims_of kind_of block_count file_selector first_block external_number
node_fields-1 = (refl, refl)

-- the entry is written where nothing else is, ready to be the first of the empty list and chain
pub written : IsWrittenApart no_view written_view (open_state [] (record { max_bytes = 1000; max_items = 10 })) no_layout (codes "a") fresh
unfolding open_state objects_in
written = record {
  represents = empty (record { max_bytes = 1000; max_items = 10 });
  valid = empty-valid (record { max_bytes = 1000; max_items = 10 });
  touched = has_claim (all_claims fresh);
  same = record {
    links = record { head = refl; tail = refl; transaction = refl; checks = λ w clear. sym (not-node w clear); next = λ w clear. refl; prev = λ w clear. refl };
    store = record {
      node_fields = λ w clear. let n = not-node w clear in rw n refl;
      entry = λ w clear. let n = not-contents w clear in rw n refl;
      chain_next = λ w clear. refl;
      key_place = λ w fields clear is long short. absurd (cc);
      stored = λ size w clear. refl;
    };
    table = λ b. refl;
  };
  free = λ claim w owned. absurd (cc);
  entry = record { loads = fresh-loads; key_is = refl; role = refl; streams = refl; dirty = refl; nobody = refl; free = λ claim h. refl; single = fresh-once };
  prefix = record { follows = refl; fresh = refl };
  good = refl;
  few = omega arith;
  missing = refl;
} where
  -- a word that names what is written is not clear
  apart : (w x : ℕ) (c : Claim) → has_claim (claims_of x) c ≡ true → has_claim (all_claims fresh) c ≡ true → IsClear (has_claim (all_claims fresh)) w → (w == x) ≡ false
  apart w x c in_x mine clear = ⊎_elim
      (λ (e : (w == x) ≡ true). let a : has_claim (all_claims fresh) c ≡ false = clear c (ap (λ (z : ℕ). has_claim (claims_of z) c) (eqb-true w x e) ∙ in_x) in absurd (let z : true ≡ false = sym mine ∙ a in cc))
      (λ (e : (w == x) ≡ false). e)
      (cases_Bool (w == x))

  not-node : (w : ℕ) → IsClear (has_claim (all_claims fresh)) w → (w == node) ≡ false
  not-node w clear = apart w node (BlockOf 0 0) node_fields-0.0 node_fields-0.1 clear

  not-contents : (w : ℕ) → IsClear (has_claim (all_claims fresh)) w → (w == contents) ≡ false
  not-contents w clear = apart w contents (BlockOf 1 0) node_fields-1.0 node_fields-1.1 clear
