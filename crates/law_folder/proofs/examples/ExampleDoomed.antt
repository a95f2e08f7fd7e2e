-- The laws on states at a doomed object that a handle names: its node and its record lie there, neither listed nor chained, and it is not held;
-- it is written to, and it is freed.
use Rattle.std.proofs.Common.{◌≡◌, ℕ, zero, suc, List, [], ◌∷◌, map, refl, ap, sym, ◌∙◌, subst, arith, Bool, true, false, Option, Some, None, Ok}
use Rattle.std.specs.Prelude.{if◌then◌else◌, ◌==◌, ◌&&◌, codes, IfSome, IsSome}
use Rattle.blk_model.specs.Items.{Item, main, part, times}
use Rattle.blk_model.specs.State.{Object, State, object_at, named_by, is_named, owners, IsObject, IsValidState}
use Rattle.blk_model.specs.Holding.{rest}
use Rattle.blk_model.specs.Effects.{with_slot}
use Rattle.std.proofs.lemmas.Bool.{eq-eqb}
use Rattle.std.proofs.Math.Bool.{and-false}
use Rattle.spec_format.specs.Hash.{of_one, of_bytes, mixed, hash}
use Rattle.spec_format.specs.Address.{block_count}
use Rattle.spec_format.specs.Storage.{entry_blocks}
use Rattle.spec_format.specs.Claims.{BlockOf, claims_of, has_claim}
use Rattle.spec_format.specs.Records.{entry_doomed}
use Rattle.spec_folder.specs.ListView.{put}
use Rattle.spec_folder.specs.View.{View, NodeFields}
use Rattle.spec_folder.specs.Walk.{walk}
use Rattle.spec_folder.specs.Entries.{is_key_length, stored_key, stored_stream, stored_streams, role_of}
use Rattle.spec_folder.specs.Loads.{unchained_rule, held_rule, load, load_key, load_record}
use Rattle.spec_folder.specs.Audit.{kept_by}
use Rattle.spec_folder.specs.Found as volume
use Rattle.spec_folder.specs.Layout.{Layout, IsDoomedAt, IsLayoutOf, Represents, changed_at, emptied_at, IsDoomedChange}
use Rattle.spec_folder.specs.Footprint.{SameBut, IsFreeBut}
use Rattle.law_folder.proofs.examples.OneEntry as one
use Rattle.law_folder.proofs.examples.Premises.{bytes-small, none-at}
use Rattle.law_folder.proofs.states.Central.{walk-order, found-rest}
use Rattle.law_folder.proofs.claims.Outside.{represents-outside}
use Rattle.law_folder.specs.CommandLaws.{IsPlacedAsDoomed, marked, dirtied}
use Rattle.law_folder.proofs.commands.DoomedChanges.{changed-doomed-lies, changed-doomed, doomed-rest, gone-doomed, doomed-settles, written-doomed-settles}
use Rattle.law_folder.proofs.examples.ExampleChanges.{not-clear, named-blocks, only-node, new_block, block-is_free, touched, touched-claims, now, now-once, owners_now}

-- the object `a`, clean or not
abbrev pub doomed_object : Bool → Object
doomed_object settled = record (one.object settled) { live = false }

abbrev pub doomed_state : Bool → State
doomed_state settled = record (one.state settled) { objects = Some (doomed_object settled) ∷ []; uses = [] }

abbrev pub doomed_layout : ℕ → Layout
doomed_layout dirty = record (one.layout dirty) { place = λ item. 0; place_of_doomed = λ number. one.node; state = λ w. entry_doomed; chains = λ b. [] }

-- the view, in which the node has this dirty flag and data is stored at block 2 of data_1, or isn't
abbrev doomed_view : ℕ → Option (List ℕ) → View
doomed_view dirty bytes = record {
  list = record one.list { head = 0; tail = 0 };
  store = record (one.store 0 dirty) {
    entry = λ w. if w == one.contents then Some (record one.fields { state = entry_doomed }) else None;
    stored = λ size w. if (size == 0) && (w == 0) then Some [] else if (size == 2) && (w == 0xA0010001) then Some (codes "zz") else if (size == 3) && (w == 0xA0010002) then bytes else None;
  };
}

doomed-loads : (dirty : ℕ) → load (doomed_view dirty None).store (unchained_rule entry_doomed) one.node ≡ Ok (one.loaded dirty)
unfolding load load_record load_key is_key_length stored_key stored_stream stored_streams role_of block_count entry_blocks hash mixed of_bytes of_one
doomed-loads dirty = refl

-- the view represents the state
pub doomed-is_represented : (dirty : ℕ) → Represents (doomed_view dirty None) (doomed_state (dirty == 0)) (doomed_layout dirty)
doomed-is_represented dirty = record {
  holds = record {
    shows = record {
      no_record = refl;
      each = λ w l is. let p = one.at-node dirty w l is in subst (λ (x : ℕ). load (doomed_view dirty None).store (unchained_rule entry_doomed) x ≡ Ok l) (sym p.0) (doomed-loads dirty ∙ ap Ok p.1);
      chains = λ b below. record { linked = none b; once = tt };
    };
    lies = record {
      laid = λ item h. absurd (let z : false ≡ true = h in cc);
      normal = λ w h. absurd (let z : false ≡ true = h in cc);
      chained = λ w l h is. absurd (let z : false ≡ true = h in cc);
      unchained = λ b c below h. absurd (let z : false ≡ true = h in cc);
      own = (one.represented dirty).holds.lies.own;
      single = (one.represented dirty).holds.lies.single;
      doomed_objects = doomed-at;
    };
  };
  list = record { head_is = refl; tail_is = refl; linked = tt; distinct = tt; few = omega arith; no_zero = refl };
  idle = refl;
} where
  none : (b : ℕ) → (one.store 0 dirty).table b ≡ 0
  none b = go (b == one.bucket) where
    go : (t : Bool) → ◌≡◌ {A = ℕ} (if t then 0 else 0) 0
    go true = refl
    go false = refl

  only : (other : ℕ) (x : Object) → object_at (doomed_state (dirty == 0)) other ≡ Some x → other ≡ 0
  only zero x there = refl
  only (suc other) x there = absurd (cc)

  doomed-at : (number : ℕ) (o : Object) → object_at (doomed_state (dirty == 0)) number ≡ Some o → o.live ≡ false → IsDoomedAt (doomed_state (dirty == 0)) (doomed_layout dirty) number o
  doomed-at zero o is dead = let s : (let z : Object = doomed_object (dirty == 0) in z) ≡ o = cc in
      subst (IsDoomedAt (doomed_state (dirty == 0)) (doomed_layout dirty) 0) s (record { loaded = one.loaded dirty; here = refl; row = refl; mark = refl; unlisted = refl; alone = λ other x there gone e. only other x there })
  doomed-at (suc number) o is dead = absurd (cc)

good-object : (settled : Bool) → IsObject (doomed_object settled)
good-object settled = record {
  key = record { some = omega arith; short = omega arith; bytes = bytes-small (codes "a") (omega arith, tt) };
  streams = (bytes-small (codes "zz") (omega arith, (omega arith, tt)), bytes-small [] tt, bytes-small [] tt);
  signature = omega arith;
  plain_has_no_parts = λ e. refl;
  doomed_has_no_parts = λ e. refl;
  sparse_has_one_stream = λ e. absurd (let c : false ≡ true = e in cc);
  rising = refl;
  parts = λ i d less. absurd (omega arith);
}

pub doomed-is_valid : (settled : Bool) → IsValidState (doomed_state settled)
doomed-is_valid settled = record { objects = objects; names = refl; bound = bound; listed = listed; once = λ item. omega arith; held = held-by } where
  objects : (number : ℕ) → IfSome (object_at (doomed_state settled) number) IsObject
  objects zero = good-object settled
  objects (suc n) = tt

  bound : (name : ℕ) → IfSome (named_by (doomed_state settled) name) (λ number. IsSome (object_at (doomed_state settled) number))
  bound zero = refl
  bound (suc n) = rw (none-at 4095 n) tt

  listed : (item : Item) → times item (doomed_state settled).uses ≡ owners item (doomed_state settled).objects
  listed (main key) = refl
  listed (part key n) = refl

  held-by : (number : ℕ) → IfSome (object_at (doomed_state settled) number) (λ object. (object.live && object.settled ≡ false) → is_named (doomed_state settled) number ≡ true)
  held-by zero = λ unsettled. refl
  held-by (suc n) = tt

-- no node is walked
pub doomed-is_not_walked : walk (doomed_view 0 None).list ≡ []
doomed-is_not_walked = walk-order (doomed_view 0 None) (doomed_state true) (doomed_layout 0) (doomed-is_represented 0)

-- nothing is recovered of a doomed object
pub doomed-is_not_held : map volume.row_of_loaded (kept_by held_rule (volume.completed (doomed_view 0 None))) ≡ []
unfolding rest
doomed-is_not_held = found-rest (doomed_view 0 None) (doomed_state true) (doomed_layout 0) (doomed-is_represented 0) (doomed-is_valid true)

more-is_outside : (dirty : ℕ) (bytes : Option (List ℕ)) → SameBut new_block (doomed_view dirty None) (doomed_view dirty bytes)
more-is_outside dirty bytes = record {
  links = record { head = refl; tail = refl; transaction = refl; checks = λ w clear. refl; next = λ w clear. refl; prev = λ w clear. refl };
  store = record {
    node_fields = λ w clear. refl;
    entry = λ w clear. refl;
    chain_next = λ w clear. refl;
    key_place = λ w fields clear is long short. refl;
    stored = λ size w clear. let b : (w == 0xA0010002) ≡ false = not-clear new_block w 0xA0010002 (BlockOf 1 2) named-blocks.2 refl clear in rw (b, and-false (size == 3)) refl;
  };
  table = λ b. refl;
}

-- data that is written at a block without an owner leaves the doomed object
pub doomed-stays : Represents (doomed_view 0 (Some (codes "yyy"))) (doomed_state true) (doomed_layout 0)
doomed-stays = represents-outside new_block (doomed_view 0 None) (doomed_view 0 (Some (codes "yyy"))) (doomed_state true) (doomed_layout 0) (more-is_outside 0 (Some (codes "yyy"))) block-is_free (doomed-is_represented 0)

-- ---- it is written to: first its dirty flag becomes 5

here-doomed : (dirty : ℕ) → IsPlacedAsDoomed (doomed_state (dirty == 0)) (doomed_layout dirty) 0 (doomed_object (dirty == 0)) (one.loaded dirty)
here-doomed dirty = record { here = refl; dead = refl; at = refl }

dirt-is_inside : SameBut (has_claim (claims_of one.node)) (doomed_view 0 None) (doomed_view 5 None)
dirt-is_inside = record {
  links = record { head = refl; tail = refl; transaction = refl; checks = λ w clear. refl; next = λ w clear. refl; prev = λ w clear. refl };
  store = record {
    node_fields = λ w clear. let n : (w == one.node) ≡ false = not-clear (has_claim (claims_of one.node)) w one.node (BlockOf 0 0) named-blocks.3 named-blocks.3 clear in rw n refl;
    entry = λ w clear. refl;
    chain_next = λ w clear. refl;
    key_place = λ w fields clear is long short. refl;
    stored = λ size w clear. refl;
  };
  table = λ b. refl;
}

-- with the dirty flag 5 the doomed object is dirty
pub doomed-is_dirtied : Represents (doomed_view 5 None) (marked (doomed_state true) 0 (doomed_object true) false) (dirtied (doomed_layout 0) one.node (one.loaded 0) 5)
doomed-is_dirtied = written-doomed-settles (doomed_view 0 None) (doomed_view 5 None) (doomed_state true) (doomed_layout 0) (doomed-is_represented 0) 0 (doomed_object true) (one.loaded 0) (here-doomed 0) 5 dirt-is_inside
    (λ node_fields is. let s : ◌≡◌ {A = NodeFields} (record { contents = one.contents; dirty = 0 }) node_fields = cc in ap (λ (n : NodeFields). Some (record n { dirty = 5 })) s)

-- the doomed object is dirty also in the view in which the dirty flag alone is another
pub doomed-is_marked : Represents (record (doomed_view 0 None) { store = record (doomed_view 0 None).store { node_fields = put (doomed_view 0 None).store.node_fields one.node (Some (record { contents = one.contents; dirty = 5 })) } })
    (marked (doomed_state true) 0 (doomed_object true) false) (dirtied (doomed_layout 0) one.node (one.loaded 0) 5)
doomed-is_marked = doomed-settles (doomed_view 0 None) (doomed_state true) (doomed_layout 0) (doomed-is_represented 0) 0 (doomed_object true) (one.loaded 0) (here-doomed 0) (record { contents = one.contents; dirty = 0 }) 5 refl

-- ---- then its stream 0 becomes `yyy`, at block 2 of data_1

abbrev written_object : Object
written_object = record (doomed_object false) { streams = (codes "yyy", [], []) }

-- the record has the new size and place, and there the view has this
abbrev written_view : Option (List ℕ) → View
written_view bytes = record (doomed_view 5 bytes) {
  store = record (doomed_view 5 bytes).store { entry = λ w. if w == one.contents then Some (record one.fields { state = entry_doomed; data_size = 3 ∷ 0 ∷ 0 ∷ 0 ∷ []; data_addr = 0xA0010002 ∷ 0 ∷ 0 ∷ 0 ∷ [] }) else None };
}

written-is_inside : (bytes : Option (List ℕ)) → SameBut touched (doomed_view 5 None) (written_view bytes)
written-is_inside bytes = record {
  links = record { head = refl; tail = refl; transaction = refl; checks = λ w clear. refl; next = λ w clear. refl; prev = λ w clear. refl };
  store = record {
    node_fields = λ w clear. refl;
    entry = λ w clear. let n : (w == one.contents) ≡ false = not-clear touched w one.contents (BlockOf 1 0) named-blocks.0 touched-claims.0 clear in rw n refl;
    chain_next = λ w clear. refl;
    key_place = λ w fields clear is long short. refl;
    stored = λ size w clear. let b : (w == 0xA0010002) ≡ false = not-clear touched w 0xA0010002 (BlockOf 1 2) named-blocks.2 touched-claims.2 clear in rw (b, and-false (size == 3)) refl;
  };
  table = λ b. refl;
}

written-alone : IsFreeBut one.node touched (doomed_layout 5)
written-alone c w owned apart = absurd (let z : true ≡ false = sym (eq-eqb one.node w (only-node 5 w c owned)) ∙ apart in cc)

written-loads : load (written_view (Some (codes "yyy"))).store (unchained_rule entry_doomed) one.node ≡ Ok now
unfolding load load_record load_key is_key_length stored_key stored_stream stored_streams role_of block_count entry_blocks hash mixed of_bytes of_one
written-loads = refl

written-change : IsDoomedChange (doomed_layout 5) one.node written_object now owners_now
written-change = record {
  dead = refl;
  row = refl;
  mark = refl;
  own = λ c h. rw h refl;
  others = λ c w owned apart. absurd (let z : true ≡ false = sym (eq-eqb one.node w (only-node 5 w c owned)) ∙ apart in cc);
  single = now-once;
}

-- the written object is in the layout
pub written-is_laid : IsLayoutOf (with_slot 0 (Some written_object) (doomed_state false)) (changed_at (doomed_layout 5) one.node now owners_now)
written-is_laid = changed-doomed-lies (doomed_state false) (doomed_layout 5) (doomed-is_represented 5).holds.lies 0 (doomed_object false) written_object (one.loaded 5) now owners_now (here-doomed 5) written-change

-- the state with the written object is represented
pub written-is_represented : Represents (written_view (Some (codes "yyy"))) (with_slot 0 (Some written_object) (doomed_state false)) (changed_at (doomed_layout 5) one.node now owners_now)
written-is_represented =
    changed-doomed touched (doomed_view 5 None) (written_view (Some (codes "yyy"))) (doomed_state false) (doomed_layout 5) (doomed-is_represented 5) 0 (doomed_object false) written_object (one.loaded 5) now owners_now (here-doomed 5)
    (written-is_inside (Some (codes "yyy"))) written-alone written-loads written-change

-- where the data isn't there yet, nothing is recovered either
pub torn-is_not_held : map volume.row_of_loaded (kept_by held_rule (volume.completed (written_view None))) ≡ []
unfolding rest
torn-is_not_held = doomed-rest touched (doomed_view 5 None) (written_view None) (doomed_state false) (doomed_layout 5) (doomed-is_represented 5) (doomed-is_valid false) 0 (doomed_object false) refl refl (written-is_inside None) written-alone

-- ---- the doomed object is freed, and its record and stream are overwritten

abbrev emptied_view : View
emptied_view = record (doomed_view 5 None) { store = record (doomed_view 5 None).store { entry = λ w. None; stored = λ size w. if (size == 0) && (w == 0) then Some [] else None } }

emptied-is_inside : SameBut touched (doomed_view 5 None) emptied_view
emptied-is_inside = record {
  links = record { head = refl; tail = refl; transaction = refl; checks = λ w clear. refl; next = λ w clear. refl; prev = λ w clear. refl };
  store = record {
    node_fields = λ w clear. refl;
    entry = λ w clear. let n : (w == one.contents) ≡ false = not-clear touched w one.contents (BlockOf 1 0) named-blocks.0 touched-claims.0 clear in rw n refl;
    chain_next = λ w clear. refl;
    key_place = λ w fields clear is long short. refl;
    stored = λ size w clear.
        let a : (w == 0xA0010001) ≡ false = not-clear touched w 0xA0010001 (BlockOf 1 1) named-blocks.1 touched-claims.1 clear in
        let b : (w == 0xA0010002) ≡ false = not-clear touched w 0xA0010002 (BlockOf 1 2) named-blocks.2 touched-claims.2 clear in
        rw (a, b, and-false (size == 2), and-false (size == 3)) refl;
  };
  table = λ b. refl;
}

-- the state without the doomed object is represented, where nothing has an owner
pub gone-is_represented : Represents emptied_view (with_slot 0 None (doomed_state false)) (emptied_at (doomed_layout 5) one.node (λ claim. None))
gone-is_represented = gone-doomed touched (doomed_view 5 None) emptied_view (doomed_state false) (doomed_layout 5) (doomed-is_represented 5) 0 (doomed_object false) (one.loaded 5) (λ claim. None) (here-doomed 5) emptied-is_inside written-alone
    (λ c w owned apart. absurd (let z : true ≡ false = sym (eq-eqb one.node w (only-node 5 w c owned)) ∙ apart in cc))
