-- The laws on changes of what is represented, each at the state of one object: its stream is written anew, its dirty flag, and blocks without an owner.
use Rattle.std.proofs.Common.{◌≡◌, ⊎_elim, ℕ, zero, suc, List, [], ◌∷◌, refl, ap, sym, ◌∙◌, subst, arith, ◌<◌, Bool, true, false, Option, Some, None, Ok}
use Rattle.std.specs.Prelude.{if◌then◌else◌, ◌==◌, ◌&&◌, codes, map}
use Rattle.std.specs.Str.{bytes_eq}
use Rattle.std.proofs.lemmas.Bool.{eqb-true, eq-eqb, cases_Bool}
use Rattle.std.proofs.lemmas.Bool.Decides.{nat_tests}
use Rattle.std.proofs.Math.Bool.{and-false}
use Rattle.blk_model.specs.Items.{Item, main, part, same_item}
use Rattle.blk_model.specs.State.{Object, State, object_at}
use Rattle.blk_model.specs.Holding.{row_of, rest}
use Rattle.blk_model.specs.Stops.{pick}
use Rattle.spec_format.specs.Hash.{of_one, of_bytes, mixed, hash}
use Rattle.spec_format.specs.Address.{kind_of, block_count, file_selector, first_block, external_number}
use Rattle.spec_format.specs.Storage.{entry_blocks}
use Rattle.spec_format.specs.Claims.{Claim, BlockOf, ExternalOf, same_claim, claims_of, has_claim, repeats}
use Rattle.spec_folder.specs.ListView.{put}
use Rattle.spec_folder.specs.View.{View, NodeFields}
use Rattle.spec_folder.specs.Entries.{is_key_length, stored_stream, stored_streams, role_of}
use Rattle.spec_folder.specs.Entries as entries
use Rattle.spec_folder.specs.Loads.{unchained_rule, held_rule, Loaded, load, load_key, load_record, record_claims, all_claims}
use Rattle.spec_folder.specs.Chains.{IsChain}
use Rattle.spec_folder.specs.Audit.{kept_among, kept_by}
use Rattle.spec_folder.specs.Found as volume
use Rattle.spec_folder.specs.Layout.{IsLayoutOf, HoldsExcept, IsInProgress, Represents, OneChanged, changed_at, IsChange}
use Rattle.spec_folder.specs.Footprint.{IsClear, SameBut, IsFree, IsFreeBut, IsReplaced}
use Rattle.law_folder.specs.CommandLaws.{marked, dirtied, turned}
use Rattle.law_folder.proofs.examples.OneEntry.{object, state, node, contents, bucket, loaded, layout, fields, store, view, choice, at-node, claims, represented, lies, midst}
use Rattle.law_folder.proofs.examples.Premises.{state_is_valid}
use Rattle.law_folder.proofs.states.Changing.{lies-changed}
use Rattle.law_folder.proofs.states.Replacing.{replaced}
use Rattle.law_folder.proofs.claims.Outside.{represents-outside}
use Rattle.law_folder.proofs.states.Writing.{moment-rest}
use Rattle.law_folder.proofs.states.Midst.{midst-rest}
use Rattle.law_folder.proofs.states.DirtyWords.{dirty-settles, written-settles, before-turning, after-turning}

-- a word that names what is touched is not clear
pub not-clear : (touched : Claim → Bool) (w x : ℕ) (c : Claim) → has_claim (claims_of x) c ≡ true → touched c ≡ true → IsClear touched w → (w == x) ≡ false
not-clear touched w x c in_x mine clear = ⊎_elim
    (λ (e : (w == x) ≡ true). let a : touched c ≡ false = clear c (ap (λ (z : ℕ). has_claim (claims_of z) c) (eqb-true w x e) ∙ in_x) in absurd (let z : true ≡ false = sym mine ∙ a in cc))
    (λ (e : (w == x) ≡ false). e)
    (cases_Bool (w == x))

-- nothing and anything is nothing

-- the words name their blocks
pub named-blocks : (has_claim (claims_of contents) (BlockOf 1 0) ≡ true) × (has_claim (claims_of 0xA0010001) (BlockOf 1 1) ≡ true) × (has_claim (claims_of 0xA0010002) (BlockOf 1 2) ≡ true) × (has_claim (claims_of node) (BlockOf 0 0) ≡ true)
unfolding has_claim claims_of kind_of block_count file_selector first_block external_number
named-blocks = (refl, refl, refl, refl)

-- each owner of the layout is the node
pub only-node : (dirty w : ℕ) (c : Claim) → (layout dirty).owner c ≡ Some w → node ≡ w
only-node dirty w c owned = (choice (has_claim (all_claims (loaded 0)) c) node w owned).1

-- Stream 0 of the dirty object becomes `yyy`, at block 2 of data_1.

abbrev written_object : Object
written_object = record (object false) { streams = (codes "yyy", [], []) }

-- what the node names then
abbrev pub now : Loaded
now = record (loaded 5) { streams = codes "yyy" ∷ [] ∷ [] ∷ []; others = 0 ∷ 0xA0010002 ∷ 0 ∷ 0 ∷ 0 ∷ [] }

-- the record, the old place and the new place
abbrev pub touched : Claim → Bool
touched = has_claim (BlockOf 1 0 ∷ BlockOf 1 1 ∷ BlockOf 1 2 ∷ [])

-- the record has the new size and place, and there the view has this
abbrev with_data : Option (List ℕ) → View
with_data bytes = record (view 5) {
  store = record (store contents 5) {
    entry = λ w. if w == contents then Some (record fields { data_size = 3 ∷ 0 ∷ 0 ∷ 0 ∷ []; data_addr = 0xA0010002 ∷ 0 ∷ 0 ∷ 0 ∷ [] }) else None;
    stored = λ size w. if (size == 0) && (w == 0) then Some [] else if (size == 3) && (w == 0xA0010002) then bytes else None;
  };
}

-- these blocks are touched
pub touched-claims : (touched (BlockOf 1 0) ≡ true) × (touched (BlockOf 1 1) ≡ true) × (touched (BlockOf 1 2) ≡ true)
unfolding has_claim
touched-claims = (refl, refl, refl)

same-but : (bytes : Option (List ℕ)) → SameBut touched (view 5) (with_data bytes)
same-but bytes = record {
  links = record { head = refl; tail = refl; transaction = refl; checks = λ w clear. refl; next = λ w clear. refl; prev = λ w clear. refl };
  store = record {
    node_fields = λ w clear. refl;
    entry = λ w clear. let n : (w == contents) ≡ false = not-clear touched w contents (BlockOf 1 0) named-blocks.0 touched-claims.0 clear in rw n refl;
    chain_next = λ w clear. refl;
    key_place = λ w fields clear is long short. refl;
    stored = λ size w clear.
        let a : (w == 0xA0010001) ≡ false = not-clear touched w 0xA0010001 (BlockOf 1 1) named-blocks.1 touched-claims.1 clear in
        let b : (w == 0xA0010002) ≡ false = not-clear touched w 0xA0010002 (BlockOf 1 2) named-blocks.2 touched-claims.2 clear in
        rw (a, b, and-false (size == 2), and-false (size == 3)) refl;
  };
  table = λ b. refl;
}

now-loads : load (with_data (Some (codes "yyy"))).store (unchained_rule 0) node ≡ Ok now
unfolding load load_record load_key is_key_length entries.stored_key stored_stream stored_streams role_of block_count entry_blocks hash mixed of_bytes of_one
now-loads = refl

-- the changed record uses no block twice
pub now-once : repeats (all_claims now) ≡ false
unfolding repeats has_claim all_claims record_claims claims_of kind_of block_count file_selector first_block external_number
now-once = refl

one-changed : OneChanged (state false) (Some written_object ∷ []) (main (codes "a"))
unfolding row_of
one-changed = record { rows = rows; settled = λ key other. rw other refl; doomed_same = doomed-same } where
  rows : (other : Item) → same_item other (main (codes "a")) ≡ false → row_of (record (state false) { objects = Some written_object ∷ [] }) other ≡ row_of (state false) other
  rows (main key) other = rw other refl
  rows (part key n) other = rw (and-false (bytes_eq key (codes "a"))) refl

  doomed-same : (number : ℕ) (o : Object) → object_at (record (state false) { objects = Some written_object ∷ [] }) number ≡ Some o → o.live ≡ false → object_at (state false) number ≡ Some o
  doomed-same zero o is dead = let s : written_object ≡ o = cc in let c : true ≡ false = ap (λ (z : Object). z.live) s ∙ dead in absurd (cc)
  doomed-same (suc number) o is dead = absurd (cc)

-- who owns what then
abbrev pub owners_now : Claim → Option ℕ
owners_now c = if has_claim (all_claims now) c then Some node else None

is-change : IsChange (state false) (Some written_object ∷ []) (layout 5) (main (codes "a")) (loaded 5) now owners_now
unfolding row_of
is-change = record {
  key = refl;
  contents = refl;
  row = refl;
  mark = refl;
  parent = tt;
  of = λ name e. absurd (let z : false ≡ true = e in cc);
  own = λ c h. rw h refl;
  others = λ c w owned apart. absurd (let z : true ≡ false = sym (eq-eqb node w (only-node 5 w c owned)) ∙ apart in cc);
  single = now-once;
}

apart-but : IsFreeBut node touched (layout 5)
apart-but c w owned apart = absurd (let z : true ≡ false = sym (eq-eqb node w (only-node 5 w c owned)) ∙ apart in cc)

is-replaced : IsReplaced touched (view 5) (with_data (Some (codes "yyy"))) (layout 5) node (loaded 5) now
is-replaced = record { apart = apart-but; loads = now-loads; bucket = λ b. refl; chain_next = refl; links = record { checks = refl; next = refl; prev = refl } }

abbrev written_state : State
written_state = record (state false) { objects = Some written_object ∷ [] }

-- a changed item is laid out
pub written-is_laid : IsLayoutOf written_state (changed_at (layout 5) node now owners_now)
written-is_laid = lies-changed (state false) (Some written_object ∷ []) (layout 5) (main (codes "a")) (loaded 5) now owners_now (represented 5).holds.lies one-changed refl refl is-change

-- the state with the changed item is represented
pub written-is_represented : Represents (with_data (Some (codes "yyy"))) written_state (changed_at (layout 5) node now owners_now)
written-is_represented =
    replaced touched (view 5) (with_data (Some (codes "yyy"))) (state false) (layout 5) (represented 5) (Some written_object ∷ []) (main (codes "a")) (loaded 5) now owners_now (same-but (Some (codes "yyy"))) one-changed refl refl is-change is-replaced

-- while the record names the new place and the data isn't there yet, the durable contents are kept
pub torn-is_at_rest : map volume.row_of_loaded (kept_by held_rule (volume.completed (with_data None))) ≡ rest (state false)
torn-is_at_rest =
    moment-rest touched (view 5) (with_data None) (state false) (layout 5) (represented 5) (state_is_valid false) 0 (object false) (main (codes "a")) refl refl refl (loaded 5) refl (same-but None)
    (record { apart = apart-but; node_fields = refl; bucket = λ b. refl; chain_next = refl; links = record { checks = refl; next = refl; prev = refl } }) tt

-- the durable contents are kept too with the node's record in the midst of that change
torn-chains : (b : ℕ) → b < 65536 → IsChain (with_data None).store b ((layout 5).chains b)
torn-chains b below = ⊎_elim
    (λ (e : (b == bucket) ≡ true). subst (λ (x : ℕ). IsChain (with_data None).store x ((layout 5).chains x)) (sym (eqb-true b bucket e)) (record { linked = (refl, refl, refl); once = (refl, tt) }))
    (λ (e : (b == bucket) ≡ false). record { linked = rw e refl; once = rw e tt })
    (cases_Bool (b == bucket))

torn-holds : HoldsExcept (λ w. w == node) (with_data None).store (state false) (layout 5)
torn-holds =
    let l : IsLayoutOf (state false) (layout 5) = (represented 5).holds.lies in
    record {
      no_record = refl;
      each = λ w l is out. let same = at-node 5 w l is in absurd (let z : true ≡ false = sym (eq-eqb w node same.0) ∙ out in cc);
      chains = torn-chains;
      laid = l.laid;
      normal = l.normal;
      chained = λ w l' there is out. l.chained w l' there is;
      own = l.own;
      single = l.single;
    }

torn-midst : IsInProgress (λ w. w == node) (with_data None).store (state false) (layout 5) (codes "a")
unfolding load load_record load_key
torn-midst = record { of_key = midst.of_key; unsettled = midst.unsettled; dirty = λ l ok. cc; parts = λ n was now h is at ok. absurd (let z : false ≡ true = h in cc); names = midst.names }

-- the durable contents are kept
pub midst-is_at_rest : map volume.row_of_loaded (kept_among (with_data None).store held_rule (node ∷ [])) ≡ rest (state false)
midst-is_at_rest = midst-rest (λ w. w == node) (with_data None).store (state false) (layout 5) torn-holds (state_is_valid false) (codes "a") torn-midst (refl, tt)

-- Data is written at block 2 of data_1, which has no owner.

-- block 2 of data_1
abbrev pub new_block : Claim → Bool
new_block claim = same_claim claim (BlockOf 1 2)

abbrev with_more : View
with_more = record (view 0) {
  store = record (store contents 0) {
    stored = λ size w. if (size == 0) && (w == 0) then Some [] else if (size == 2) && (w == 0xA0010001) then Some (codes "zz") else if (size == 3) && (w == 0xA0010002) then Some (codes "yyy") else None;
  };
}

same-but_more : SameBut new_block (view 0) with_more
same-but_more = record {
  links = record { head = refl; tail = refl; transaction = refl; checks = λ w clear. refl; next = λ w clear. refl; prev = λ w clear. refl };
  store = record {
    node_fields = λ w clear. refl;
    entry = λ w clear. refl;
    chain_next = λ w clear. refl;
    key_place = λ w fields clear is long short. refl;
    stored = λ size w clear. let b : (w == 0xA0010002) ≡ false = not-clear new_block w 0xA0010002 (BlockOf 1 2) named-blocks.2 refl clear in rw (b, and-false (size == 3)) refl;
  };
  table = λ b. refl;
}

-- block 2 of data_1 has no owner
pub block-is_free : IsFree new_block (layout 0)
unfolding has_claim
block-is_free claim w owned = go claim (subst (λ (cs : List Claim). has_claim cs claim ≡ true) claims (choice (has_claim (all_claims (loaded 0)) claim) node w owned).0) where
  go : (c : Claim) → has_claim (BlockOf 0 0 ∷ BlockOf 1 0 ∷ BlockOf 1 1 ∷ []) c ≡ true → same_claim c (BlockOf 1 2) ≡ false
  go (BlockOf f b) h = grind (arith, nat_tests)
  go (ExternalOf n) h = refl

-- a change of blocks without an owner keeps what is represented
pub more-is_represented : Represents with_more (state true) (layout 0)
more-is_represented = represents-outside new_block (view 0) with_more (state true) (layout 0) same-but_more block-is_free (represented 0)

-- The dirty flag of the node becomes 5.

same-but_dirt : SameBut (has_claim (claims_of node)) (view 0) (view 5)
same-but_dirt = record {
  links = record { head = refl; tail = refl; transaction = refl; checks = λ w clear. refl; next = λ w clear. refl; prev = λ w clear. refl };
  store = record {
    node_fields = λ w clear. let n : (w == node) ≡ false = not-clear (has_claim (claims_of node)) w node (BlockOf 0 0) named-blocks.3 named-blocks.3 clear in rw n refl;
    entry = λ w clear. refl;
    chain_next = λ w clear. refl;
    key_place = λ w fields clear is long short. refl;
    stored = λ size w clear. refl;
  };
  table = λ b. refl;
}

-- with the dirty flag 5 the object is dirty
pub dirtied-is_represented : Represents (view 5) (marked (state true) 0 (object true) false) (dirtied (layout 0) node (loaded 0) 5)
dirtied-is_represented =
    written-settles (view 0) (view 5) (state true) (layout 0) (represented 0) (state_is_valid true) 0 (object true) (loaded 0) (lies 0) 5 same-but_dirt
    (λ node_fields is. let s : ◌≡◌ {A = NodeFields} (record { contents = contents; dirty = 0 }) node_fields = cc in ap (λ (n : NodeFields). Some (record n { dirty = 5 })) s)
    (record { checks = refl; next = refl; prev = refl })

-- the durable contents before and after the object becomes dirty are what survives a crash in that
pub turned-is_picked : (rest (state true) ≡ pick (state true) (turned (state true) 0 (object true) false (state true).names) true (state true).uses)
    × (rest (turned (state true) 0 (object true) false (state true).names) ≡ pick (state true) (turned (state true) 0 (object true) false (state true).names) false (state true).uses)
turned-is_picked = (before-turning (state true) (state_is_valid true) 0 (object true) false (state true).names refl refl, after-turning (state true) (state_is_valid true) 0 (object true) false (state true).names refl refl)

-- the object is dirty also in the view in which the dirty flag alone is another
pub marked-is_represented : Represents (record (view 0) { store = record (view 0).store { node_fields = put (view 0).store.node_fields node (Some (record { contents = contents; dirty = 5 })) } }) (marked (state true) 0 (object true) false) (dirtied (layout 0) node (loaded 0) 5)
marked-is_represented = dirty-settles (view 0) (state true) (layout 0) (represented 0) (state_is_valid true) 0 (object true) (loaded 0) (lies 0) (record { contents = contents; dirty = 0 }) 5 refl
