-- The laws on removals and dooms at a sparse object with one part: the part is evicted alone, and the object is doomed with it.
use Rattle.std.proofs.Common.{◌≡◌, ⊎_elim, ℕ, [], ◌∷◌, map, refl, ap, sym, ◌∙◌, subst, Bool, true, false, Some, None, Ok}
use Rattle.std.specs.Prelude.{if◌then◌else◌, take, ◌==◌, ◌||◌, not, codes}
use Rattle.std.proofs.lemmas.Bool.{eqb-true, cases_Bool}
use Rattle.blk_model.specs.Items.{Item, main, part, same_item}
use Rattle.blk_model.specs.Holding.{rest, settled_row}
use Rattle.blk_model.specs.Effects.{doomed}
use Rattle.blk_model.proofs.Same.{one_item}
use Rattle.spec_image.specs.Bytes.{words_at}
use Rattle.spec_format.specs.Hash.{of_one, of_bytes, mixed, hash}
use Rattle.spec_format.specs.Address.{block_count}
use Rattle.spec_format.specs.Storage.{entry_blocks}
use Rattle.spec_format.specs.Records as records
use Rattle.spec_format.specs.SparseIndex.{read_parent_index}
use Rattle.spec_format.specs.BlockFiles.{is_among}
use Rattle.spec_format.specs.Claims.{Claim, claims_of, has_claim}
use Rattle.spec_folder.specs.ListView.{after_writes, IsAtRest}
use Rattle.spec_folder.specs.Completion.{remove}
use Rattle.spec_folder.specs.ListPlans.{writes_of}
use Rattle.spec_folder.specs.View.{View, StoreView}
use Rattle.spec_folder.specs.Chains.{bucket_of_hash, IsChain}
use Rattle.spec_folder.specs.Entries.{is_key_length, stored_key, stored_stream, stored_streams, role_of, parent_role}
use Rattle.spec_folder.specs.Loads.{unchained_rule, held_rule, Loaded, load, load_key, load_record}
use Rattle.spec_folder.specs.Audit.{kept_among, kept_by}
use Rattle.spec_folder.specs.Found as volume
use Rattle.spec_folder.specs.Layout.{is_listed, HoldsExcept, Represents}
use Rattle.spec_folder.specs.Removal.{without_items, placed_less, HasChains, is_of_another, placed_doomed}
use Rattle.law_folder.specs.CommandLaws.{IsDoomedNow}
use Rattle.law_folder.proofs.examples.OneEntry.{choice}
use Rattle.law_folder.proofs.lists.AtRest.{removals-end}
use Rattle.law_folder.proofs.commands.Unlinking.{less-represented}
use Rattle.law_folder.proofs.commands.Dooming.{dooms-keep, doomed-is-represented}
use Rattle.law_folder.proofs.commands.DoomWrites.{doomed-parts}
use Rattle.law_folder.proofs.states.OthersHold.{represented-but, laid-chained, others-unlinked}
use Rattle.law_folder.proofs.examples.ExampleFamily.{part_node, parent_node, the_part, the_parent, family, family_state, family_layout, family_stock, family-holds, at-either, which-item}
use Rattle.law_folder.proofs.examples.DamagedParts.{parent_core}
use Rattle.law_folder.proofs.examples.ExampleParts.{stays, without_part, lists-less, parent_at, parent_chains, parent_owner, has-less, without_node, without-holds}
use Rattle.law_folder.proofs.examples.ExampleUnsettled.{named_state, named-is_valid, family_view, family-is_represented}

-- no word of the table is a record's
nobody's : (claim : Claim) → has_claim (claims_of 0) claim ≡ true → ⊥
unfolding has_claim claims_of
nobody's claim h = let z : false ≡ true = h in cc

family-at_rest : IsAtRest family_view.list (part_node ∷ parent_node ∷ [])
family-at_rest = record { whole = family-is_represented.list; idle = refl }

-- ---- the part is removed, and its parent stays

-- the word of its bucket becomes 0
abbrev part_unlinked : StoreView
part_unlinked = record without_node { table = λ b. if b == 0xA782 then 0xA0010000 else 0 }

parent-has_chains : HasChains (λ w. w == part_node) part_unlinked family_state family_layout parent_chains
unfolding hash mixed of_bytes of_one
parent-has_chains = record {
  whole = λ b below. ⊎_elim
      (λ (e : (b == 0xA782) ≡ true). subst (λ (x : ℕ). IsChain part_unlinked x (parent_chains x)) (sym (eqb-true b 0xA782 e)) (record { linked = (refl, refl, refl); once = (refl, tt) }))
      (λ (e : (b == 0xA782) ≡ false). record { linked = rw e refl; once = rw e tt })
      (cases_Bool (b == 0xA782));
  chained = λ w l among is out. ⊎_elim
      (λ (p : (w ≡ parent_node) × (the_parent ≡ l)). subst (λ (x : Loaded). is_among (parent_chains (bucket_of_hash (hash x.key))) x.contents ≡ true) p.1 parent-in_chain)
      (λ (p : (w ≡ part_node) × (the_part ≡ l)). absurd (let z : true ≡ false = ap (λ (x : ℕ). x == part_node) (sym p.0) ∙ out in cc))
      (at-either w l is);
} where
  parent-in_chain : is_among (parent_chains (bucket_of_hash (hash the_parent.key))) the_parent.contents ≡ true
  parent-in_chain = refl

part-is_unlinked : HoldsExcept (λ w. w == part_node) part_unlinked family_state (record family_layout { chains = parent_chains })
part-is_unlinked = others-unlinked (λ w. w == part_node) without_node part_unlinked family_state family_layout without-holds 0
    (record { beside = record { node_fields = λ w. refl; key_place = λ w fields clear is long short. refl; stored = λ size w clear. refl }; entry = λ w. refl })
    (λ claim w l h owned is. absurd (nobody's claim h)) parent_chains parent-has_chains

-- the state without it is represented
pub part-is_removed : Represents (record { list = after_writes (writes_of remove part_node family_view.list) family_view.list; store = part_unlinked }) (without_items family_state without_part stays) (placed_less family_layout parent_at parent_chains parent_owner)
part-is_removed = less-represented (λ w. w == part_node) (record { list = after_writes (writes_of remove part_node family_view.list) family_view.list; store = part_unlinked }) family_state without_part stays family_layout parent_at parent_chains parent_owner
    family-holds.lies lists-less has-less part-is_unlinked
    (λ w l is. let p = choice (w == parent_node) the_parent l is in ap (λ (x : ℕ). x == part_node) (eqb-true w parent_node p.0))
    (removals-end part_node family_view.list [] (parent_node ∷ []) family-at_rest)

-- ---- the object is doomed: its node is removed from the list, while its part is still there

abbrev not_main : Item → Bool
not_main item = not (same_item item (main (codes "a")))

others-stay : (item : Item) → is_of_another (codes "a") item ≡ true → not_main item ≡ true
others-stay item other = ⊎_elim
    (λ (e : same_item item (main (codes "a")) ≡ true). let c : is_of_another (codes "a") item ≡ false = ap (is_of_another (codes "a")) (one_item item (main (codes "a")) e) in absurd (let z : true ≡ false = sym other ∙ c in cc))
    (λ (e : same_item item (main (codes "a")) ≡ false). ap not e)
    (cases_Bool (same_item item (main (codes "a"))))

family-holds_but : HoldsExcept (λ w. false) family_stock named_state family_layout
family-holds_but = represented-but (λ w. false) family_view named_state family_layout family-is_represented

-- nothing is kept
pub part-is_not_kept : map volume.row_of_loaded (kept_among family_stock held_rule (part_node ∷ [])) ≡ []
unfolding rest settled_row doomed
part-is_not_kept = dooms-keep (λ w. false) family_stock named_state family_layout family-holds_but (named-is_valid true) 0 family refl not_main refl others-stay (refl, tt) (λ item h keeps. refl)

-- nothing is kept at any write of the removal of the part's node, which is alone in the list then
abbrev without_main : View
without_main = record { list = after_writes (writes_of remove parent_node family_view.list) family_view.list; store = family_stock }

pub part-is_never_kept : (count : ℕ) → map volume.row_of_loaded (kept_by held_rule (volume.completed (record without_main { list = after_writes (take count (writes_of remove part_node without_main.list)) without_main.list }))) ≡ []
unfolding rest settled_row doomed
part-is_never_kept = doomed-parts (λ w. false) without_main named_state family_layout family-holds_but (named-is_valid true) 0 family refl not_main refl others-stay (λ item h keeps. refl)
    (removals-end parent_node family_view.list (part_node ∷ []) [] family-at_rest) 0 refl refl

-- then its part is removed from the list, both are unlinked, the part's node is removed, and the record of the object gets state 2
abbrev both_gone : ℕ → Bool
both_gone w = (w == parent_node) || (w == part_node)

abbrev doomed_stock : StoreView
doomed_stock = record family_stock {
  node_fields = λ w. if w == parent_node then family_stock.node_fields parent_node else None;
  table = λ b. 0;
  entry = λ w. if w == 0xA0010000 then Some (record parent_core { state = records.entry_doomed }) else family_stock.entry w;
}

doomed-loads : load doomed_stock (unchained_rule records.entry_doomed) parent_node ≡ Ok the_parent
unfolding load load_record load_key is_key_length stored_key stored_stream stored_streams role_of parent_role read_parent_index words_at block_count entry_blocks hash mixed of_bytes of_one
doomed-loads = refl

doomed-holds : HoldsExcept both_gone doomed_stock named_state (record family_layout { chains = λ b. [] })
doomed-holds = record {
  no_record = refl;
  each = λ w l is out. absurd (none w l is out);
  chains = λ b below. record { linked = refl; once = tt };
  laid = λ item h. laid-chained named_state family_layout (λ b. []) item (family-is_represented.holds.lies.laid item h);
  normal = λ w h. refl;
  chained = λ w l there is out. absurd (none w l is out);
  own = family-is_represented.holds.lies.own;
  single = family-is_represented.holds.lies.single;
} where
  none : (w : ℕ) (l : Loaded) → family_layout.at w ≡ Some l → both_gone w ≡ false → ⊥
  none w l is out = ⊎_elim
      (λ (p : (w ≡ parent_node) × (the_parent ≡ l)). let z : true ≡ false = ap both_gone (sym p.0) ∙ out in cc)
      (λ (p : (w ≡ part_node) × (the_part ≡ l)). let z : true ≡ false = ap both_gone (sym p.0) ∙ out in cc)
      (at-either w l is)

-- of the object and its part the object's node alone stays
doomed-now : IsDoomedNow named_state family_layout 0 family the_parent parent_at (λ b. []) parent_owner
doomed-now = record {
  lies = record { here = refl; live = refl; at = refl };
  node_fields = refl;
  less = record {
    stays = λ item l keeps h is. absurd (no-other item keeps h);
    others = λ w l out is. absurd (⊎_elim
        (λ (p : (w ≡ parent_node) × (the_parent ≡ l)). let c : true ≡ false = ap (is_among (part_node ∷ parent_node ∷ [])) (sym p.0) ∙ out in cc)
        (λ (p : (w ≡ part_node) × (the_part ≡ l)). let c : true ≡ false = ap (is_among (part_node ∷ parent_node ∷ [])) (sym p.0) ∙ out in cc)
        (at-either w l is));
    was = has-less.was;
    chain_stays = λ w l among is h. absurd (let c : false ≡ true = among in cc);
    chain_was = λ b c below h. absurd (let z : false ≡ true = h in cc);
    own = has-less.own;
  };
  stays = refl;
} where
  no-other : (item : Item) → is_of_another (codes "a") item ≡ true → is_listed named_state item ≡ true → ⊥
  no-other item keeps h = ⊎_elim
      (λ (e : item ≡ part (codes "a") 0). let c : is_of_another (codes "a") item ≡ false = ap (is_of_another (codes "a")) e in let z : true ≡ false = sym keeps ∙ c in cc)
      (λ (e : item ≡ main (codes "a")). let c : is_of_another (codes "a") item ≡ false = ap (is_of_another (codes "a")) e in let z : true ≡ false = sym keeps ∙ c in cc)
      (which-item item h)

-- the empty list
abbrev emptied : View
emptied = record {
  list = after_writes (writes_of remove part_node (after_writes (writes_of remove parent_node family_view.list) family_view.list)) (after_writes (writes_of remove parent_node family_view.list) family_view.list);
  store = doomed_stock;
}

list-is_empty : IsAtRest emptied.list []
list-is_empty = removals-end part_node (after_writes (writes_of remove parent_node family_view.list) family_view.list) [] [] (removals-end parent_node family_view.list (part_node ∷ []) [] family-at_rest)

-- the state in which the object is doomed is represented
pub family-is_doomed : Represents emptied (doomed 0 named_state (Some family)) (placed_doomed family_layout 0 parent_node parent_at (λ b. []) parent_owner)
family-is_doomed = doomed-is-represented both_gone emptied named_state family_layout family-is_represented.holds.lies (named-is_valid true) 0 family the_parent parent_at (λ b. []) parent_owner doomed-now doomed-holds
    (λ w l is h. let p = choice (w == parent_node) the_parent l is in sym (eqb-true w parent_node p.0)) doomed-loads list-is_empty
