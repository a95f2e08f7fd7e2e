-- The law on the midst of a change, at a part: a sparse object is dirty, and the record of its part names data at a new place, which is there or isn't.
use Rattle.std.proofs.Common.{◌≡◌, ℕ, zero, suc, List, [], ◌∷◌, map, refl, ap, sym, ◌∙◌, subst, arith, Bool, true, false, Option, Some, None, Ok}
use Rattle.std.specs.Prelude.{if◌then◌else◌, ◌==◌, ◌&&◌, codes, replicate, IfSome, IsSome}
use Rattle.std.proofs.lemmas.Bool.{eq-eqb}
use Rattle.std.proofs.lemmas.Bool.Decides.{nat_tests}
use Rattle.blk_model.specs.Items.{part}
use Rattle.blk_model.specs.State.{State, object_at, named_by, is_named, IsObject, IsValidState}
use Rattle.blk_model.specs.Holding.{rest, settled_row}
use Rattle.spec_image.specs.Bytes.{words_at}
use Rattle.spec_format.specs.Hash.{of_four, of_three, of_bytes, mixed, hash}
use Rattle.spec_format.specs.Storage.{entry_blocks}
use Rattle.std.specs.Fmt.{digits}
use Rattle.std.proofs.Math.Bool.{and-false}
use Rattle.spec_format.specs.Names.{read_name, split_last, child_name}
use Rattle.spec_format.specs.SparseIndex.{read_part_index}
use Rattle.spec_format.specs.Address.{kind_of, block_count, file_selector, first_block, external_number}
use Rattle.spec_format.specs.Claims.{Claim, BlockOf, ExternalOf, claims_of, has_claim}
use Rattle.spec_folder.specs.ListView.{put}
use Rattle.spec_folder.specs.View.{View, RecordFields}
use Rattle.spec_folder.specs.Chains.{chain_from}
use Rattle.spec_folder.specs.Entries.{is_key_length, stored_key, stored_stream, stored_streams, role_of, part_role, is_covered}
use Rattle.spec_folder.specs.Loads.{held_rule, load, load_key, load_record, all_claims}
use Rattle.spec_folder.specs.Audit.{kept_by}
use Rattle.spec_folder.specs.Found as volume
use Rattle.spec_folder.specs.Layout.{Layout, Represents}
use Rattle.spec_folder.specs.Footprint.{SameBut, IsFreeBut, KeepsName}
use Rattle.law_folder.specs.CommandLaws.{marked, dirtied}
use Rattle.law_folder.proofs.examples.Premises.{none-at}
use Rattle.law_folder.proofs.commands.Opening.{lies-reordered}
use Rattle.law_folder.proofs.states.DirtyWords.{dirty-settles}
use Rattle.law_folder.proofs.states.Writing.{moment-rest}
use Rattle.law_folder.proofs.examples.DamagedParts.{sparse_view, both_nodes, part_core}
use Rattle.law_folder.proofs.examples.ExampleChanges.{not-clear}
use Rattle.law_folder.proofs.examples.ExampleFamily.{family, family_state, family_layout, family_stock, family-holds, parent_node, part_node, the_parent, the_part, part_bytes, parent-claims}
use Rattle.law_folder.proofs.examples.ExampleParts.{good-family, one-owner}

-- ---- the family, dirty

-- handle 0 names the object
abbrev pub named_state : State
named_state = record family_state { names = Some 0 ∷ replicate 4095 None }

-- the state of the object, which a handle names, is one that a cache may have, clean or dirty
pub named-is_valid : (settled : Bool) → IsValidState (marked named_state 0 family settled)
named-is_valid settled = record {
  objects = objects;
  names = refl;
  bound = bound;
  listed = λ item. (one-owner item).0;
  once = λ item. (one-owner item).1;
  held = held-by;
} where
  good : IsObject (record family { settled = settled })
  good = record {
    key = good-family.key;
    streams = good-family.streams;
    signature = good-family.signature;
    plain_has_no_parts = good-family.plain_has_no_parts;
    doomed_has_no_parts = good-family.doomed_has_no_parts;
    sparse_has_one_stream = good-family.sparse_has_one_stream;
    rising = good-family.rising;
    parts = good-family.parts;
  }

  objects : (number : ℕ) → IfSome (object_at (marked named_state 0 family settled) number) IsObject
  objects zero = good
  objects (suc n) = tt

  bound : (name : ℕ) → IfSome (named_by named_state name) (λ number. IsSome (object_at (marked named_state 0 family settled) number))
  bound zero = refl
  bound (suc n) = rw (none-at 4095 n) tt

  held-by : (number : ℕ) → IfSome (object_at (marked named_state 0 family settled) number) (λ object. (object.live && object.settled ≡ false) → is_named named_state number ≡ true)
  held-by zero = λ unsettled. refl
  held-by (suc n) = tt

-- the view of both nodes, with its tail
abbrev pub family_view : View
family_view = record { list = record (sparse_view 1 part_node both_nodes).list { tail = parent_node }; store = family_stock }

-- the view of both nodes represents the state with handles
pub family-is_represented : Represents family_view named_state family_layout
family-is_represented = record {
  holds = record { shows = family-holds.shows; lies = lies-reordered family_state family_layout family_state.uses named_state.names (λ item. refl) family-holds.lies };
  list = record {
    head_is = refl;
    tail_is = refl;
    linked = (record { good = refl; next_is = refl; prev_is = refl }, (record { good = refl; next_is = refl; prev_is = refl }, tt));
    distinct = (refl, (refl, tt));
    few = omega arith;
    no_zero = refl;
  };
  idle = refl;
}

-- the parent's dirty flag becomes 5
abbrev dirty_view : View
dirty_view = record family_view { store = record family_stock { node_fields = put family_stock.node_fields parent_node (Some (record { contents = 0xA0010000; dirty = 5 })) } }

abbrev dirty_state : State
dirty_state = marked named_state 0 family false

abbrev dirty_layout : Layout
dirty_layout = dirtied family_layout parent_node the_parent 5

dirty-is_represented : Represents dirty_view dirty_state dirty_layout
dirty-is_represented = dirty-settles family_view named_state family_layout family-is_represented (named-is_valid true) 0 family the_parent (record { here = refl; live = refl; at = refl }) (record { contents = 0xA0010000; dirty = 0 }) 5 refl

-- ---- the part's record names three bytes of data at block 12 of data_1

abbrev written_core : RecordFields
written_core = record part_core { data_size = 0 ∷ 3 ∷ 192 ∷ 0 ∷ []; data_addr = 0 ∷ 0xA001000C ∷ 0xA0010008 ∷ 0 ∷ [] }

-- where this lies
abbrev with_data : Option (List ℕ) → View
with_data bytes = record dirty_view {
  store = record dirty_view.store {
    entry = λ w. if w == 0xA0010001 then Some written_core else family_stock.entry w;
    stored = λ size w. if (size == 3) && (w == 0xA001000C) then bytes else family_stock.stored size w;
  };
}

-- the part's record and the new place
abbrev touched : Claim → Bool
touched = has_claim (BlockOf 1 1 ∷ BlockOf 1 12 ∷ [])

touched-claims : (touched (BlockOf 1 1) ≡ true) × (touched (BlockOf 1 12) ≡ true)
unfolding has_claim
touched-claims = (refl, refl)

named-blocks : (has_claim (claims_of 0xA0010001) (BlockOf 1 1) ≡ true) × (has_claim (claims_of 0xA001000C) (BlockOf 1 12) ≡ true)
unfolding has_claim claims_of kind_of block_count file_selector first_block external_number
named-blocks = (refl, refl)

same-but : (bytes : Option (List ℕ)) → SameBut touched dirty_view (with_data bytes)
same-but bytes = record {
  links = record { head = refl; tail = refl; transaction = refl; checks = λ w clear. refl; next = λ w clear. refl; prev = λ w clear. refl };
  store = record {
    node_fields = λ w clear. refl;
    entry = λ w clear. let n : (w == 0xA0010001) ≡ false = not-clear touched w 0xA0010001 (BlockOf 1 1) named-blocks.0 touched-claims.0 clear in rw n refl;
    chain_next = λ w clear. refl;
    key_place = λ w fields clear is long short. refl;
    stored = λ size w clear. let n : (w == 0xA001000C) ≡ false = not-clear touched w 0xA001000C (BlockOf 1 12) named-blocks.1 touched-claims.1 clear in rw (n, and-false (size == 3)) refl;
  };
  table = λ b. refl;
}

-- these blocks are not the parent's
not-parent's : (claim : Claim) → has_claim (all_claims the_parent) claim ≡ true → touched claim ≡ false
unfolding has_claim
not-parent's claim mine = go claim (subst (λ (cs : List Claim). has_claim cs claim ≡ true) parent-claims mine) where
  go : (c : Claim) → has_claim (BlockOf 0 0 ∷ BlockOf 1 0 ∷ BlockOf 3 0 ∷ BlockOf 3 1 ∷ BlockOf 3 2 ∷ []) c ≡ true → has_claim (BlockOf 1 1 ∷ BlockOf 1 12 ∷ []) c ≡ false
  go (BlockOf f b) one = grind (arith, nat_tests)
  go (ExternalOf n) one = refl

apart-but : IsFreeBut part_node touched dirty_layout
apart-but claim w owned apart = go (has_claim (all_claims the_parent) claim) (has_claim (all_claims the_part) claim) refl owned where
  go : (a b : Bool) → has_claim (all_claims the_parent) claim ≡ a → (if a then Some parent_node else if b then Some part_node else None) ≡ Some w → touched claim ≡ false
  go true b mine e = not-parent's claim mine
  go false true mine e = absurd (let s : part_node ≡ w = cc in let c : true ≡ false = sym (eq-eqb part_node w s) ∙ apart in cc)
  go false false mine e = cc

-- the record keeps its flags and its key
keeps-name : (bytes : Option (List ℕ)) → KeepsName dirty_view.store (with_data bytes).store (part (codes "a") 0) 0xA0010001
unfolding stored_key
keeps-name bytes was now old new =
    let s : part_core ≡ was = cc in let t : written_core ≡ now = cc in
    (ap (λ (c : RecordFields). c.flags) (sym t) ∙ ap (λ (c : RecordFields). c.flags) s, ap (stored_key (with_data bytes).store 0xA0010001) (sym t) ∙ ap (stored_key dirty_view.store 0xA0010001) s)

-- where the data is there, the part's record loads
torn-loads : load (with_data (Some (codes "yyy"))).store held_rule part_node ≡ Ok (record the_part { streams = [] ∷ codes "yyy" ∷ part_bytes ∷ []; others = 0 ∷ 0 ∷ 0xA001000C ∷ 0xA0010008 ∷ 0 ∷ [] })
unfolding put load load_record load_key is_key_length stored_key stored_stream stored_streams role_of part_role is_covered read_part_index read_name split_last child_name digits words_at block_count entry_blocks chain_from hash mixed of_bytes of_four of_three
torn-loads = refl

-- nothing is kept, whether the part's data is there, so that its record loads, or not
unsettled-are_at_rest : (bytes : Option (List ℕ)) → map volume.row_of_loaded (kept_by held_rule (volume.completed (with_data bytes))) ≡ []
unfolding rest settled_row put
unsettled-are_at_rest bytes =
    moment-rest touched dirty_view (with_data bytes) dirty_state dirty_layout dirty-is_represented (named-is_valid false) 0 (record family { settled = false }) (part (codes "a") 0) refl refl refl the_part refl (same-but bytes)
    (record { apart = apart-but; node_fields = refl; bucket = λ b. refl; chain_next = refl; links = record { checks = refl; next = refl; prev = refl } }) (keeps-name bytes)
