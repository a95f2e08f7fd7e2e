-- The laws on changes and removals at a part: it is written anew, and it is removed while its parent stays.
use Rattle.std.proofs.Common.{◌≡◌, ⊎_elim, ℕ, zero, suc, ◌<◌, ◌≤◌, List, [], ◌∷◌, ◌++◌, map, refl, ap, sym, ◌∙◌, subst, arith, Bool, true, false, Option, Some, None, Ok, get_or}
use Rattle.std.specs.Prelude.{if◌then◌else◌, ◌==◌, ◌&&◌, not, nat_lt, codes, replicate, IfSome}
use Rattle.std.specs.List.{range_with_len}
use Rattle.std.specs.Ordering.{nat_cmp}
use Rattle.std.specs.Cmp.{unsigned_tied}
use Rattle.std.specs.FinMap.{find}
use Rattle.std.specs.Str.{bytes_eq}
use Rattle.std.proofs.lemmas.Bool.{eqb-true, eq-eqb, cases_Bool}
use Rattle.std.proofs.lemmas.Bool.Decides.{nat_tests}
use Rattle.blk_model.specs.Items.{Item, main, part, main_row, sparse, same_item, times, PartValue, IsPartValue}
use Rattle.blk_model.specs.State.{Object, object_at, is_named, owners, IsObject, IsValidState}
use Rattle.blk_model.specs.Holding.{row_of}
use Rattle.blk_model.specs.Stops.{is_live_and_settled}
use Rattle.spec_image.specs.Bytes.{content, words_at}
use Rattle.spec_format.specs.Hash.{of_one, of_bytes, mixed, hash}
use Rattle.spec_format.specs.Address.{kind_of, block_count, file_selector, first_block, external_number}
use Rattle.spec_format.specs.Storage.{entry_blocks}
use Rattle.spec_format.specs.BlockFiles.{is_among}
use Rattle.spec_format.specs.Claims.{Claim, BlockOf, ExternalOf, claims_of, has_claim, repeats}
use Rattle.spec_format.specs.SparseIndex.{PartIndex, map_bit, read_parent_index}
use Rattle.spec_folder.specs.View.{StoreView}
use Rattle.spec_folder.specs.Chains.{bucket_of_hash, IsChain}
use Rattle.spec_folder.specs.Entries.{IsPart, is_key_length, stored_key, stored_stream, stored_streams, role_of, parent_role}
use Rattle.spec_folder.specs.Loads.{unchained_rule, held_rule, Loaded, load, load_key, load_record, record_claims, all_claims}
use Rattle.spec_folder.specs.Audit.{kept_among}
use Rattle.spec_folder.specs.Found as volume
use Rattle.spec_folder.specs.Layout.{IsListedRecord, IsLayoutOf, HoldsExcept, OneChanged, changed_at, IsChange}
use Rattle.spec_folder.specs.Removal.{without_items, placed_less, ListsLess, HasLess}
use Rattle.law_folder.proofs.examples.Premises.{bytes-small, none-at}
use Rattle.law_folder.proofs.examples.OneEntry.{choice}
use Rattle.law_folder.proofs.states.Central.{settled-is_test}
use Rattle.law_folder.proofs.states.Changing.{lies-changed}
use Rattle.law_folder.proofs.states.Replacing.{linked-facts}
use Rattle.law_folder.proofs.commands.Removing.{removed-rows}
use Rattle.law_folder.proofs.commands.Unlinking.{lies-less}
use Rattle.law_folder.proofs.examples.DamagedParts.{index_head}
use Rattle.law_folder.proofs.examples.ExampleFamily.{part_value, part_name, part_node, parent_node, the_part, the_parent, family, family_state, family_layout, family_stock, family-holds, parent-claims, at-either, which-item, among-one}

-- ---- the state of the family is valid

no-block : part_value.presence.blocks ≡ replicate 1024 false
no-block = refl

none-there : (m n : ℕ) → get_or (replicate m false) n false ≡ false
none-there zero n = refl
none-there (suc m) zero = refl
none-there (suc m) (suc n) = none-there m n

good-part : IsPartValue part_value
good-part = record {
  bytes = bytes-small [] tt;
  fits = omega arith;
  blocks = refl;
  partial = tt;
  inside = record { whole = λ block there. absurd (let z : false ≡ true = sym (none-there 1024 block) ∙ there in cc); piece = tt };
}

-- the family is an object that a state may have
pub good-family : IsObject family
good-family = record {
  key = record { some = omega arith; short = omega arith; bytes = bytes-small (codes "a") (omega arith, tt) };
  streams = (bytes-small [] tt, bytes-small [] tt, bytes-small [] tt);
  signature = omega arith;
  plain_has_no_parts = λ e. absurd (let c : true ≡ false = e in cc);
  doomed_has_no_parts = λ e. absurd (let c : true ≡ false = e in cc);
  sparse_has_one_stream = λ e. record { second = refl; third = refl };
  rising = refl;
  parts = parts;
} where
  parts : (i : ℕ) (d : ℕ × PartValue) → i < 1 → ((get_or family.parts i d).0 < 65536) × IsPartValue (get_or family.parts i d).1
  parts zero d less = (omega arith, good-part)
  parts (suc i) d less = absurd (omega arith)

-- a sparse object with part 0 alone has no other
no-other : (n : ℕ) (value : PartValue) → find nat_cmp (suc n) ((0, value) ∷ []) ≡ None
no-other n value = let z : (suc n == 0) ≡ false = grind (arith, nat_tests) in rw (unsigned_tied (suc n) 0 ∙ z) refl

-- each item of its state has one owner
pub one-owner : (item : Item) → (times item family_state.uses ≡ owners item family_state.objects) × (times item family_state.uses ≤ 1)
one-owner (main key) = ⊎_elim (λ (e : bytes_eq key (codes "a") ≡ true). rw e (refl, omega arith)) (λ (e : bytes_eq key (codes "a") ≡ false). rw e (refl, omega arith)) (cases_Bool (bytes_eq key (codes "a")))
one-owner (part key zero) = ⊎_elim (λ (e : bytes_eq key (codes "a") ≡ true). rw e (refl, omega arith)) (λ (e : bytes_eq key (codes "a") ≡ false). rw e (refl, omega arith)) (cases_Bool (bytes_eq key (codes "a")))
one-owner (part key (suc n)) = let z : (suc n == 0) ≡ false = grind (arith, nat_tests) in ⊎_elim (λ (e : bytes_eq key (codes "a") ≡ true). rw (e, no-other n part_value, z) (refl, omega arith)) (λ (e : bytes_eq key (codes "a") ≡ false). rw e (refl, omega arith)) (cases_Bool (bytes_eq key (codes "a")))

-- the state of the sparse object with its part is one that a cache may have
pub family-is_valid : IsValidState family_state
family-is_valid = record {
  objects = objects;
  names = refl;
  bound = λ name. rw (none-at 4096 name) tt;
  listed = λ item. (one-owner item).0;
  once = λ item. (one-owner item).1;
  held = held-by;
} where
  objects : (number : ℕ) → IfSome (object_at family_state number) IsObject
  objects zero = good-family
  objects (suc n) = tt

  held-by : (number : ℕ) → IfSome (object_at family_state number) (λ object. (object.live && object.settled ≡ false) → is_named family_state number ≡ true)
  held-by zero = λ unsettled. absurd (let c : true ≡ false = unsettled in cc)
  held-by (suc n) = tt

-- ---- the part is removed, and its parent stays

-- what stays
abbrev pub stays : Item → Bool
stays item = not (same_item item (part (codes "a") 0))

-- the object without its part
abbrev pub without_part : List (Option Object)
without_part = Some (record family { parts = [] }) ∷ []

not-the_part : (item : Item) → stays item ≡ true → item ≡ part (codes "a") 0 → ⊥
not-the_part item keeps is = let c : false ≡ true = ap stays (sym is) ∙ keeps in cc

-- the state without it lists less
pub lists-less : ListsLess family_state without_part stays
unfolding row_of
lists-less = record {
  rows = λ item keeps h. ⊎_elim
      (λ (e : item ≡ part (codes "a") 0). absurd (not-the_part item keeps e))
      (λ (e : item ≡ main (codes "a")). subst (λ (i : Item). row_of (without_items family_state without_part stays) i ≡ row_of family_state i) (sym e) refl)
      (which-item item h);
  settled = λ key keeps. ⊎_elim (λ (e : bytes_eq key (codes "a") ≡ true). rw e refl) (λ (e : bytes_eq key (codes "a") ≡ false). rw e refl) (cases_Bool (bytes_eq key (codes "a")));
  closed = λ key n keeps. refl;
  doomed_same = doomed-same;
} where
  doomed-same : (number : ℕ) (o : Object) → object_at (without_items family_state without_part stays) number ≡ Some o → o.live ≡ false → object_at family_state number ≡ Some o
  doomed-same zero o is dead = let s : (let z : Object = record family { parts = [] } in z) ≡ o = cc in let c : true ≡ false = ap (λ (z : Object). z.live) s ∙ dead in absurd (cc)
  doomed-same (suc n) o is dead = absurd (cc)

-- the records at the nodes once the part is removed
abbrev pub parent_at : ℕ → Option Loaded
parent_at w = if w == parent_node then Some the_parent else None

-- the chains once the part is removed
abbrev pub parent_chains : ℕ → List ℕ
parent_chains b = if b == 0xA782 then 0xA0010000 ∷ [] else []

-- the owners once the part is removed
abbrev pub parent_owner : Claim → Option ℕ
parent_owner claim = if has_claim (all_claims the_parent) claim then Some parent_node else None

-- records, chains and owners without the part are as `HasLess` asks
pub has-less : HasLess family_state without_part stays family_layout parent_at parent_chains parent_owner
unfolding hash mixed of_bytes of_one
has-less = record {
  stays = λ item l keeps h is. ⊎_elim
      (λ (e : item ≡ part (codes "a") 0). absurd (not-the_part item keeps e))
      (λ (e : item ≡ main (codes "a")). subst (λ (i : Item). family_layout.at (family_layout.place i) ≡ Some l → parent_at (family_layout.place i) ≡ Some l) (sym e) (λ q. q) is)
      (which-item item h);
  others = λ w l out is. absurd (⊎_elim
      (λ (p : (w ≡ parent_node) × (the_parent ≡ l)). let c : true ≡ false = ap (is_among (part_node ∷ parent_node ∷ [])) (sym p.0) ∙ out in cc)
      (λ (p : (w ≡ part_node) × (the_part ≡ l)). let c : true ≡ false = ap (is_among (part_node ∷ parent_node ∷ [])) (sym p.0) ∙ out in cc)
      (at-either w l is));
  was = λ w l is. let p = choice (w == parent_node) the_parent l is in rw p.0 (ap (λ (x : Loaded). Some x) p.1);
  chain_stays = λ w l there is h. let p = choice (w == parent_node) the_parent l is in subst (λ (x : Loaded). is_among (parent_chains (bucket_of_hash (hash x.key))) x.contents ≡ true) p.1 refl;
  chain_was = λ b c below h. of-a_chain b c (b == 0xA782) h;
  own = λ w l claim is h owned. let p = choice (w == parent_node) the_parent l is in
      let mine : has_claim (all_claims the_parent) claim ≡ true = ap (λ (x : Loaded). has_claim (all_claims x) claim) p.1 ∙ h in
      rw mine (ap (λ (x : ℕ). Some x) (sym (eqb-true w parent_node p.0)));
} where
  of-a_chain : (b c : ℕ) (s : Bool) → is_among (if s then 0xA0010000 ∷ [] else []) c ≡ true → IsListedRecord (without_items family_state without_part stays) (placed_less family_layout parent_at parent_chains parent_owner) c
  of-a_chain b c true e = record { node = parent_node; loaded = the_parent; listed = refl; here = refl; record_is = among-one 0xA0010000 c e }
  of-a_chain b c false e = absurd (let z : false ≡ true = e in cc)

-- the layout without it is laid out for the state without it
pub parent-is_laid : IsLayoutOf (without_items family_state without_part stays) (placed_less family_layout parent_at parent_chains parent_owner)
parent-is_laid = lies-less family_state without_part stays family_layout parent_at parent_chains parent_owner family-holds.lies lists-less has-less

-- the store view once the part's node is removed
abbrev pub without_node : StoreView
without_node = record family_stock { node_fields = λ w. if w == parent_node then family_stock.node_fields parent_node else None }

still-loads : load without_node (unchained_rule 0) parent_node ≡ Ok the_parent
unfolding load load_record load_key is_key_length stored_key stored_stream stored_streams role_of parent_role read_parent_index words_at block_count entry_blocks hash mixed of_bytes of_one
still-loads = refl

-- the parent stays meanwhile
pub without-holds : HoldsExcept (λ w. w == part_node) without_node family_state family_layout
without-holds = record {
  no_record = refl;
  each = λ w l is out. ⊎_elim
      (λ (p : (w ≡ parent_node) × (the_parent ≡ l)). subst (λ (x : ℕ). load without_node (unchained_rule 0) x ≡ Ok l) (sym p.0) (still-loads ∙ ap Ok p.1))
      (λ (p : (w ≡ part_node) × (the_part ≡ l)). absurd (let c : true ≡ false = sym (eq-eqb w part_node p.0) ∙ out in cc))
      (at-either w l is);
  chains = λ b below. let c : IsChain family_stock b (family_layout.chains b) = family-holds.shows.chains b below in
      record { linked = linked-facts family_stock without_node b (family_stock.table b) (family_layout.chains b) (λ w h. (refl, refl)) c.linked; once = c.once };
  laid = family-holds.lies.laid;
  normal = family-holds.lies.normal;
  chained = λ w l there is out. family-holds.lies.chained w l there is;
  own = family-holds.lies.own;
  single = family-holds.lies.single;
}

-- what is kept is the row of the parent
pub parent-is_kept : map volume.row_of_loaded (kept_among without_node held_rule (parent_node ∷ [])) ≡ main_row (codes "a") (sparse 5) ([], [], []) ∷ []
unfolding row_of
parent-is_kept =
    removed-rows (λ w. w == part_node) without_node family_state family_layout without-holds family-is_valid (λ number. is_live_and_settled (object_at family_state number)) (settled-is_test family_state family_layout family-holds.lies.laid family-is_valid)
    stays (refl, tt) (λ item h keeps. ⊎_elim
    (λ (e : item ≡ part (codes "a") 0). absurd (not-the_part item keeps e))
    (λ (e : item ≡ main (codes "a")). subst (λ (i : Item). (family_layout.place i == part_node) ≡ false) (sym e) refl)
    (which-item item h))

-- ---- the part is written anew: block 0 is there, and its data lies in block 0 of data_2

abbrev written_bytes : List ℕ
written_bytes = index_head ++ 1 ∷ replicate 127 0

abbrev written_index : PartIndex
written_index = record { signature = 5; key_len = 1; present = λ b. nat_lt b 1024 && map_bit (content written_bytes) 64 b; partial = None }

abbrev written_value : PartValue
written_value = record { bytes = replicate 1024 7; presence = record { blocks = map written_index.present (range_with_len 0 1024); partial = None } }

abbrev now : Loaded
now = record the_part { role = IsPart part_name written_index; streams = [] ∷ replicate 1024 7 ∷ written_bytes ∷ []; others = 0 ∷ 0 ∷ 0xB0020000 ∷ 0xA0010008 ∷ 0 ∷ [] }

abbrev with_data : List (Option Object)
with_data = Some (record family { parts = (0, written_value) ∷ [] }) ∷ []

part-changed : OneChanged family_state with_data (part (codes "a") 0)
unfolding row_of
part-changed = record {
  rows = rows;
  settled = λ key other. ⊎_elim (λ (e : bytes_eq key (codes "a") ≡ true). rw e refl) (λ (e : bytes_eq key (codes "a") ≡ false). rw e refl) (cases_Bool (bytes_eq key (codes "a")));
  doomed_same = doomed-same;
} where
  rows : (other : Item) → same_item other (part (codes "a") 0) ≡ false → row_of (record family_state { objects = with_data }) other ≡ row_of family_state other
  rows (main key) other = ⊎_elim (λ (e : bytes_eq key (codes "a") ≡ true). rw e refl) (λ (e : bytes_eq key (codes "a") ≡ false). rw e refl) (cases_Bool (bytes_eq key (codes "a")))
  rows (part key zero) other = ⊎_elim (λ (e : bytes_eq key (codes "a") ≡ true). absurd (let c : true ≡ false = rw e at other in cc)) (λ (e : bytes_eq key (codes "a") ≡ false). rw e refl) (cases_Bool (bytes_eq key (codes "a")))
  rows (part key (suc n)) other = ⊎_elim (λ (e : bytes_eq key (codes "a") ≡ true). rw (e, no-other n part_value, no-other n written_value) refl) (λ (e : bytes_eq key (codes "a") ≡ false). rw e refl) (cases_Bool (bytes_eq key (codes "a")))

  doomed-same : (number : ℕ) (o : Object) → object_at (record family_state { objects = with_data }) number ≡ Some o → o.live ≡ false → object_at family_state number ≡ Some o
  doomed-same zero o is dead = let s : (let z : Object = record family { parts = (0, written_value) ∷ [] } in z) ≡ o = cc in let c : true ≡ false = ap (λ (z : Object). z.live) s ∙ dead in absurd (cc)
  doomed-same (suc n) o is dead = absurd (cc)

abbrev owners_now : Claim → Option ℕ
owners_now claim = if has_claim (all_claims now) claim then Some part_node else if has_claim (all_claims the_parent) claim then Some parent_node else None

now-claims : all_claims now ≡ BlockOf 0 1 ∷ BlockOf 1 1 ∷ BlockOf 2 0 ∷ BlockOf 1 8 ∷ []
unfolding all_claims record_claims claims_of kind_of block_count file_selector first_block external_number
now-claims = refl

now-once : repeats (all_claims now) ≡ false
unfolding repeats has_claim all_claims record_claims claims_of kind_of block_count file_selector first_block external_number
now-once = refl

apart : (claim : Claim) → has_claim (BlockOf 0 0 ∷ BlockOf 1 0 ∷ BlockOf 3 0 ∷ BlockOf 3 1 ∷ BlockOf 3 2 ∷ []) claim ≡ true → has_claim (BlockOf 0 1 ∷ BlockOf 1 1 ∷ BlockOf 2 0 ∷ BlockOf 1 8 ∷ []) claim ≡ false
unfolding has_claim
apart (BlockOf f b) one = grind (arith, nat_tests)
apart (ExternalOf n) one = refl

-- what is the parent's stays so
parent's : (claim : Claim) (w : ℕ) → family_layout.owner claim ≡ Some w → (part_node == w) ≡ false → owners_now claim ≡ Some w
parent's claim w owned other = go (has_claim (all_claims the_parent) claim) (has_claim (all_claims the_part) claim) refl owned where
  go : (a b : Bool) → has_claim (all_claims the_parent) claim ≡ a → (if a then Some parent_node else if b then Some part_node else None) ≡ Some w → owners_now claim ≡ Some w
  go true b mine e =
      let none : has_claim (all_claims now) claim ≡ false = ap (λ (cs : List Claim). has_claim cs claim) now-claims ∙ apart claim (subst (λ (cs : List Claim). has_claim cs claim ≡ true) parent-claims mine) in
      rw (none, mine) e
  go false true mine e = absurd (let s : part_node ≡ w = cc in let c : true ≡ false = sym (eq-eqb part_node w s) ∙ other in cc)
  go false false mine e = cc

part-change : IsChange family_state with_data family_layout (part (codes "a") 0) the_part now owners_now
unfolding row_of
part-change = record {
  key = refl;
  contents = refl;
  row = refl;
  mark = refl;
  parent = record { name = part_name; index = written_index; role = refl; of_key = refl; listed = refl; parent = the_parent; at_parent = refl; of = refl };
  of = λ name e. absurd (let z : false ≡ true = e in cc);
  own = λ claim h. rw h refl;
  others = parent's;
  single = now-once;
}

-- the changed part is laid out for the changed state
pub part-is_laid : IsLayoutOf (record family_state { objects = with_data }) (changed_at family_layout part_node now owners_now)
part-is_laid = lies-changed family_state with_data family_layout (part (codes "a") 0) the_part now owners_now family-holds.lies part-changed refl refl part-change
