-- The laws on items at a sparse object with one part, whose node is in front of its parent's: the part is removed with its parent.
use Rattle.std.proofs.Common.{◌≡◌, ◌⊎◌, inl, inr, ⊎_elim, ℕ, zero, suc, ◌<◌, List, [], ◌∷◌, ◌++◌, map, refl, ap, sym, ◌∙◌, subst, arith, Bool, true, false, Option, Some, None, Ok}
use Rattle.std.specs.Prelude.{if◌then◌else◌, ◌==◌, ◌&&◌, ◌||◌, nat_lt, codes, replicate}
use Rattle.std.specs.List.{range_with_len}
use Rattle.std.proofs.lemmas.Bool.{eqb-true, cases_Bool}
use Rattle.std.proofs.lemmas.Bool.Decides.{nat_tests}
use Rattle.spec_image.specs.Bytes.{content, words_at}
use Rattle.blk_model.specs.Items.{Item, main, part, main_row, part_row, sparse, same_item, PartValue}
use Rattle.blk_model.specs.State.{Object, State, object_at}
use Rattle.blk_model.specs.Holding.{owner, row_of}
use Rattle.blk_model.proofs.Same.{one_item}
use Rattle.spec_format.specs.Hash.{of_four, of_three, of_one, of_bytes, mixed, hash}
use Rattle.spec_format.specs.Address.{kind_of, block_count, file_selector, first_block, external_number}
use Rattle.spec_format.specs.Storage.{entry_blocks}
use Rattle.spec_format.specs.BlockFiles.{is_among}
use Rattle.spec_format.specs.Claims.{Claim, BlockOf, ExternalOf, claims_of, has_claim, repeats}
use Rattle.std.specs.Fmt.{digits}
use Rattle.spec_format.specs.Names.{Name, read_name, split_last, child_name}
use Rattle.spec_format.specs.SparseIndex.{ParentIndex, PartIndex, map_bit, read_parent_index, read_part_index}
use Rattle.spec_folder.specs.View.{StoreView}
use Rattle.spec_folder.specs.Entries.{IsParent, IsPart, is_key_length, stored_key, stored_stream, stored_streams, role_of, parent_role, part_role, is_covered}
use Rattle.spec_folder.specs.Loads.{unchained_rule, held_rule, Loaded, load, load_key, load_record, record_claims, all_claims}
use Rattle.spec_folder.specs.Chains.{bucket_of_hash, IsChain}
use Rattle.spec_folder.specs.Layout.{Layout, is_listed, IsPlacedAt, IsListedRecord, Holds}
use Rattle.spec_folder.specs.Audit.{kept_among}
use Rattle.spec_folder.specs.Found as volume
use Rattle.spec_folder.specs.Shown.{IsShown}
use Rattle.spec_folder.specs.Given.{given_by, GoesWith, IsTest}
use Rattle.law_folder.proofs.walks.Shown.{kept-given}
use Rattle.law_folder.proofs.states.Laid.{laid-shown, found-picked}
use Rattle.law_folder.proofs.examples.ExampleItems.{is_clean}
use Rattle.law_folder.proofs.examples.DamagedParts.{index_head, sparse_view, both_nodes}

-- what the two nodes name

-- the parent's index, with part 0
abbrev pub parent_bytes : List ℕ
parent_bytes = index_head ++ 1 ∷ replicate 8191 0

-- what the parent's index says
abbrev pub parent_index : ParentIndex
parent_index = record { signature = 5; key_len = 1; has_part = λ n. nat_lt n 65536 && map_bit (content parent_bytes) 64 n }

-- the part's index, with no block
abbrev pub part_bytes : List ℕ
part_bytes = index_head ++ replicate 128 0

-- what the part's index says
abbrev pub part_index : PartIndex
part_index = record { signature = 5; key_len = 1; present = λ b. nat_lt b 1024 && map_bit (content part_bytes) 64 b; partial = None }

-- the name that is the part's key
abbrev pub part_name : Name
part_name = record { key = codes "a"; signature = 5; part = 0 }

-- the node of the parent
abbrev pub parent_node : ℕ
parent_node = 0x90000000

-- the node of the part
abbrev pub part_node : ℕ
part_node = 0x90000001

-- the parent is loaded as this
abbrev pub the_parent : Loaded
the_parent = record { node = parent_node; contents = 0xA0010000; dirty = 0; key = codes "a"; role = IsParent parent_index; streams = [] ∷ [] ∷ parent_bytes ∷ []; others = 0 ∷ 0 ∷ 0 ∷ 0xC2030000 ∷ 0 ∷ [] }

-- the part is loaded as this
abbrev pub the_part : Loaded
the_part = record { node = part_node; contents = 0xA0010001; dirty = 0; key = codes "Range_a:5:0"; role = IsPart part_name part_index; streams = [] ∷ [] ∷ part_bytes ∷ []; others = 0 ∷ 0 ∷ 0 ∷ 0xA0010008 ∷ 0 ∷ [] }

-- the store view of the parent and the part
abbrev pub family_stock : StoreView
family_stock = (sparse_view 1 part_node both_nodes).store

-- the parent's node loads
pub parent-loads : load family_stock (unchained_rule 0) parent_node ≡ Ok the_parent
unfolding load load_record load_key is_key_length stored_key stored_stream stored_streams role_of parent_role read_parent_index words_at block_count entry_blocks hash mixed of_bytes of_one
parent-loads = refl

-- the part's node loads
part-loads : load family_stock (unchained_rule 0) part_node ≡ Ok the_part
unfolding load load_record load_key is_key_length stored_key stored_stream stored_streams role_of part_role is_covered read_part_index read_name split_last child_name digits words_at block_count entry_blocks hash mixed of_bytes of_four of_three
part-loads = refl

-- the state and its layout

-- the part has no bytes
abbrev pub part_value : PartValue
part_value = record { bytes = []; presence = record { blocks = map part_index.present (range_with_len 0 1024); partial = None } }

-- the object with its part
abbrev pub family : Object
family = record { key = codes "a"; shape = sparse 5; streams = ([], [], []); parts = (0, part_value) ∷ []; live = true; settled = true }

-- the state of it alone, in which the part was used last
abbrev pub family_state : State
family_state = record { objects = Some family ∷ []; uses = part (codes "a") 0 ∷ main (codes "a") ∷ []; names = replicate 4096 None; limits = record { max_bytes = 1000; max_items = 10 } }

-- the node of an item
abbrev pub place_of : Item → ℕ
place_of (main key) = parent_node
place_of (part key n) = part_node

-- the layout of the parent and the part
abbrev pub family_layout : Layout
family_layout = record {
  place = place_of;
  place_of_doomed = λ number. 0;
  at = λ w. if w == parent_node then Some the_parent else if w == part_node then Some the_part else None;
  state = λ w. 0;
  chains = λ b. if b == 0xA782 then 0xA0010000 ∷ [] else if b == 0xD945 then 0xA0010001 ∷ [] else [];
  owner = λ claim. if has_claim (all_claims the_parent) claim then Some parent_node else if has_claim (all_claims the_part) claim then Some part_node else None;
}

-- the row of the parent
pub parent-row : row_of family_state (main (codes "a")) ≡ Some (main_row (codes "a") (sparse 5) ([], [], []))
unfolding row_of
parent-row = refl

-- the row of the part
part-row : row_of family_state (part (codes "a") 0) ≡ Some (part_row (codes "a") 0 part_value)
unfolding row_of
part-row = refl

-- ---- used blocks

-- what the parent uses
pub parent-claims : all_claims the_parent ≡ BlockOf 0 0 ∷ BlockOf 1 0 ∷ BlockOf 3 0 ∷ BlockOf 3 1 ∷ BlockOf 3 2 ∷ []
unfolding all_claims record_claims claims_of kind_of block_count file_selector first_block external_number
parent-claims = refl

-- what the part uses
part-claims : all_claims the_part ≡ BlockOf 0 1 ∷ BlockOf 1 1 ∷ BlockOf 1 8 ∷ []
unfolding all_claims record_claims claims_of kind_of block_count file_selector first_block external_number
part-claims = refl

parent-once : repeats (all_claims the_parent) ≡ false
unfolding repeats has_claim all_claims record_claims claims_of kind_of block_count file_selector first_block external_number
parent-once = refl

part-once : repeats (all_claims the_part) ≡ false
unfolding repeats has_claim all_claims record_claims claims_of kind_of block_count file_selector first_block external_number
part-once = refl

apart : (claim : Claim) → has_claim (BlockOf 0 1 ∷ BlockOf 1 1 ∷ BlockOf 1 8 ∷ []) claim ≡ true → has_claim (BlockOf 0 0 ∷ BlockOf 1 0 ∷ BlockOf 3 0 ∷ BlockOf 3 1 ∷ BlockOf 3 2 ∷ []) claim ≡ false
unfolding has_claim
apart (BlockOf f b) one = grind (arith, nat_tests)
apart (ExternalOf n) one = refl

not-parent's : (claim : Claim) → has_claim (all_claims the_part) claim ≡ true → has_claim (all_claims the_parent) claim ≡ false
not-parent's claim one = ap (λ (cs : List Claim). has_claim cs claim) parent-claims ∙ apart claim (subst (λ (cs : List Claim). has_claim cs claim ≡ true) part-claims one)

-- ---- what lies and is shown

-- what lies at a node is the parent or the part
pub at-either : (w : ℕ) (l : Loaded) → family_layout.at w ≡ Some l → ((w ≡ parent_node) × (the_parent ≡ l)) ⊎ ((w ≡ part_node) × (the_part ≡ l))
at-either w l is = go (w == parent_node) (w == part_node) refl refl is where
  go : (a b : Bool) → (w == parent_node) ≡ a → (w == part_node) ≡ b → (if a then Some the_parent else if b then Some the_part else None) ≡ Some l → ((w ≡ parent_node) × (the_parent ≡ l)) ⊎ ((w ≡ part_node) × (the_part ≡ l))
  go true b one two e = inl (eqb-true w parent_node one, cc)
  go false true one two e = inr (eqb-true w part_node two, cc)
  go false false one two e = cc

-- each item of the state is the part or its parent
pub which-item : (item : Item) → is_listed family_state item ≡ true → (item ≡ part (codes "a") 0) ⊎ (item ≡ main (codes "a"))
which-item item h = go (same_item item (part (codes "a") 0)) (same_item item (main (codes "a"))) refl refl h where
  go : (a b : Bool) → same_item item (part (codes "a") 0) ≡ a → same_item item (main (codes "a")) ≡ b → (a || (b || false)) ≡ true → (item ≡ part (codes "a") 0) ⊎ (item ≡ main (codes "a"))
  go true b one two e = inl (one_item item (part (codes "a") 0) one)
  go false true one two e = inr (one_item item (main (codes "a")) two)
  go false false one two e = cc

-- the part lies at its node
pub part-laid : IsPlacedAt family_state family_layout (part (codes "a") 0)
part-laid = record {
  loaded = the_part;
  here = refl;
  row = part-row;
  mark = refl;
  parent = record { name = part_name; index = part_index; role = refl; of_key = refl; listed = refl; parent = the_parent; at_parent = refl; of = refl };
}

-- the parent lies at its node
pub parent-laid : IsPlacedAt family_state family_layout (main (codes "a"))
parent-laid = record { loaded = the_parent; here = refl; row = parent-row; mark = refl; parent = tt }

-- the parent and the part are each alone in a chain
pub family-chains : (b : ℕ) → b < 65536 → IsChain family_stock b (family_layout.chains b)
family-chains b below = ⊎_elim
    (λ (e : (b == 0xA782) ≡ true). subst (λ (x : ℕ). IsChain family_stock x (family_layout.chains x)) (sym (eqb-true b 0xA782 e)) (record { linked = (refl, refl, refl); once = (refl, tt) }))
    (λ (e : (b == 0xA782) ≡ false). ⊎_elim
    (λ (f : (b == 0xD945) ≡ true). subst (λ (x : ℕ). IsChain family_stock x (family_layout.chains x)) (sym (eqb-true b 0xD945 f)) (record { linked = (refl, refl, refl); once = (refl, tt) }))
    (λ (f : (b == 0xD945) ≡ false). record { linked = rw (e, f) refl; once = rw (e, f) tt })
    (cases_Bool (b == 0xD945)))
    (cases_Bool (b == 0xA782))

-- among one word is that word
pub among-one : (x w : ℕ) → is_among (x ∷ []) w ≡ true → x ≡ w
among-one x w e = grind (arith, nat_tests)

in-its_chain : (is_among (family_layout.chains (bucket_of_hash (hash the_parent.key))) the_parent.contents ≡ true) × (is_among (family_layout.chains (bucket_of_hash (hash the_part.key))) the_part.contents ≡ true)
unfolding hash mixed of_bytes of_one of_three of_four
in-its_chain = (refl, refl)

of-a_chain : (b c : ℕ) → b < 65536 → is_among (family_layout.chains b) c ≡ true → IsListedRecord family_state family_layout c
of-a_chain b c below h = go (b == 0xA782) (b == 0xD945) h where
  go : (s t : Bool) → is_among (if s then 0xA0010000 ∷ [] else if t then 0xA0010001 ∷ [] else []) c ≡ true → IsListedRecord family_state family_layout c
  go true t e = record { node = parent_node; loaded = the_parent; listed = refl; here = refl; record_is = among-one 0xA0010000 c e }
  go false true e = record { node = part_node; loaded = the_part; listed = refl; here = refl; record_is = among-one 0xA0010001 c e }
  go false false e = absurd (let z : false ≡ true = e in cc)

-- the store view agrees with the layout, which fits the state
pub family-holds : Holds family_stock family_state family_layout
family-holds = record {
  shows = record {
    no_record = refl;
    each = λ w l is. ⊎_elim
        (λ (p : (w ≡ parent_node) × (the_parent ≡ l)). subst (λ (x : ℕ). load family_stock (unchained_rule 0) x ≡ Ok l) (sym p.0) (parent-loads ∙ ap Ok p.1))
        (λ (p : (w ≡ part_node) × (the_part ≡ l)). subst (λ (x : ℕ). load family_stock (unchained_rule 0) x ≡ Ok l) (sym p.0) (part-loads ∙ ap Ok p.1))
        (at-either w l is);
    chains = family-chains;
  };
  lies = record {
    laid = λ item h. ⊎_elim
        (λ (e : item ≡ part (codes "a") 0). subst (IsPlacedAt family_state family_layout) (sym e) part-laid)
        (λ (e : item ≡ main (codes "a")). subst (IsPlacedAt family_state family_layout) (sym e) parent-laid)
        (which-item item h);
    normal = λ w h. refl;
    chained = λ w l there is. ⊎_elim
        (λ (p : (w ≡ parent_node) × (the_parent ≡ l)). subst (λ (x : Loaded). is_among (family_layout.chains (bucket_of_hash (hash x.key))) x.contents ≡ true) p.1 in-its_chain.0)
        (λ (p : (w ≡ part_node) × (the_part ≡ l)). subst (λ (x : Loaded). is_among (family_layout.chains (bucket_of_hash (hash x.key))) x.contents ≡ true) p.1 in-its_chain.1)
        (at-either w l is);
    unchained = of-a_chain;
    own = λ w l claim is h. ⊎_elim
        (λ (p : (w ≡ parent_node) × (the_parent ≡ l)). let mine : has_claim (all_claims the_parent) claim ≡ true = ap (λ (x : Loaded). has_claim (all_claims x) claim) p.1 ∙ h in rw mine (ap (λ (x : ℕ). Some x) (sym p.0)))
        (λ (p : (w ≡ part_node) × (the_part ≡ l)). let mine : has_claim (all_claims the_part) claim ≡ true = ap (λ (x : Loaded). has_claim (all_claims x) claim) p.1 ∙ h in rw (not-parent's claim mine, mine) (ap (λ (x : ℕ). Some x) (sym p.0)))
        (at-either w l is);
    single = λ w l is. ⊎_elim
        (λ (p : (w ≡ parent_node) × (the_parent ≡ l)). ap (λ (x : Loaded). repeats (all_claims x)) (sym p.1) ∙ parent-once)
        (λ (p : (w ≡ part_node) × (the_part ≡ l)). ap (λ (x : Loaded). repeats (all_claims x)) (sym p.1) ∙ part-once)
        (at-either w l is);
    doomed_objects = λ number o is dead. absurd (none-doomed number o is dead);
  };
} where
  none-doomed : (number : ℕ) (o : Object) → object_at family_state number ≡ Some o → o.live ≡ false → ⊥
  none-doomed zero o is dead = let s : family ≡ o = cc in let c : true ≡ false = ap (λ (z : Object). z.live) s ∙ dead in cc
  none-doomed (suc n) o is dead = cc

-- ---- what is kept

-- a part of the state is part 0 of `a`, whose main item is listed
pub its-main : (key : List ℕ) (n : ℕ) → is_listed family_state (part key n) ≡ true → (key ≡ codes "a") × (n ≡ 0)
its-main key n h = ⊎_elim
    (λ (e : part key n ≡ part (codes "a") 0). (cc, cc))
    (λ (e : part key n ≡ main (codes "a")). absurd (cc))
    (which-item (part key n) h)

-- the part is listed with its main item
pub main-listed : (key : List ℕ) (n : ℕ) → is_listed family_state (part key n) ≡ true → is_listed family_state (main key) ≡ true
main-listed key n h = subst (λ (k : List ℕ). is_listed family_state (main k) ≡ true) (sym (its-main key n h).0) refl

-- a part that passes the test passes with its parent
goes-with : GoesWith family_layout family_state.uses held_rule is_clean
goes-with = record {
  clean = λ item l h at passes. passes;
  main_out = λ key l h at fails. fails;
  part_in = λ key n l parent h at above passes. (main-listed key n h, let s : the_parent ≡ parent = cc in ap is_clean (sym s));
  part_out = λ key n l parent h at above fails main_in. absurd (let s : the_part ≡ l = (let e : ◌≡◌ {A = Option Loaded} (Some the_part) (Some l) = at in cc) in let c : true ≡ false = ap is_clean s ∙ fails in cc);
}

-- the part and its parent are shown to their walk
pub family-is_shown : IsShown family_stock held_rule (part_node ∷ parent_node ∷ []) (given_by is_clean family_layout)
family-is_shown = laid-shown family_stock family_state family_layout family-holds held_rule family_state.uses is_clean refl (λ item h. h) (refl, (refl, tt)) goes-with

-- so both are kept
pub family-is_kept : kept_among family_stock held_rule (part_node ∷ parent_node ∷ []) ≡ the_part ∷ the_parent ∷ []
family-is_kept = kept-given family_stock held_rule (part_node ∷ parent_node ∷ []) (given_by is_clean family_layout) family-is_shown

-- the parent and the part are of one object, which passes the test
is-test : IsTest family_state family_layout family_state.uses (λ number. true)
is-test = record {
  owners = λ key n h. let k = its-main key n h in subst (λ (i : ℕ). owner family_state (part key i) ≡ owner family_state (main key)) (sym k.1) (subst (λ (x : List ℕ). owner family_state (part x 0) ≡ owner family_state (main x)) (sym k.0) refl);
  main_test = λ key l number h at own. let s : the_parent ≡ l = cc in ap is_clean (sym s);
}

-- the rows of the parent and the part are those of the object that passes
pub family-is_picked : map volume.row_of_loaded (kept_among family_stock held_rule (part_node ∷ parent_node ∷ [])) ≡ part_row (codes "a") 0 part_value ∷ main_row (codes "a") (sparse 5) ([], [], []) ∷ []
unfolding row_of
family-is_picked = found-picked family_state family_layout family-holds.lies.laid family_state.uses (λ item h. h) (λ number. true) is-test family_stock family-holds (refl, (refl, tt)) main-listed
