-- An object with an index is evicted with its parts: what is left once its eviction unit is out, and what is printed.
use Rattle.std.proofs.Common.{◌≡◌, ℕ, Bool, true, false, List, [], ◌∷◌, ◌++◌, length, map, Option, Some, None, refl, sym, ap, subst, ◌∙◌, arith, append-nil}
use Rattle.std.specs.Prelude.{◌&&◌, ◌==◌, IfSome, if◌then◌else◌}
use Rattle.std.specs.List.{AllByRecursion, cons_option, filter_map, flat_map, sum_by}
use Rattle.std.specs.Str.{bytes_eq}
use Rattle.std.proofs.lemmas.Bool.{and_from, eq-eqb, or_left, or_right}
use Rattle.std.proofs.lemmas.Bool.Decides.{nat_tests}
use Rattle.std.proofs.lemmas.Grind.{flat_map-append}
use Rattle.std.proofs.lemmas.List.Sums.{sum_by-cons}
use Rattle.spec_image.specs.Image.{Image}
use Rattle.blk_model.specs.Effects.{doomed}
use Rattle.blk_model.specs.Items.{IsKey, Item, main, part, same_item}
use Rattle.blk_model.specs.Room.{Group, items_of_group, part_number, parts_among, whole, without}
use Rattle.blk_model.specs.Refusals.{no_key}
use Rattle.blk_model.specs.State.{IsObject, Object, State, is_named}
use Rattle.blk_model.proofs.Chosen.{Owner}
use Rattle.blk_model.proofs.StopRests.{owner_key, owner_live}
use Rattle.blk_script.specs.Reply.{evicted_line, evicted_text}
use Rattle.spec_folder.specs.Entries.{IsParent, IsPart, IsPlain, Role}
use Rattle.spec_folder.specs.Found.{charge_of}
use Rattle.spec_folder.specs.Layout.{IsPlacedAt, Layout, is_in, is_listed, nodes_of}
use Rattle.spec_folder.specs.Loads.{Loaded}
use Rattle.spec_folder.specs.Removal.{is_of_another}
use Rattle.spec_format.specs.SparseIndex.{ParentIndex}
use Rattle.law_state.specs.Changes.{SameSession}
use Rattle.law_state.specs.CountsOfParts.{charges_at}
use Rattle.law_state.specs.GroupLaws.{gone_nodes, layout_less}
use Rattle.law_state.specs.Keeping.{Keeps, KeepsUncounted}
use Rattle.law_state.proofs.GroupsGone.{whole-groups-go}
use Rattle.blk_object.specs.FindingOut.{is_child_item}
use Rattle.blk_object.specs.Removing.{LiesBehind}
use Rattle.blk_sparse.specs.declared.dropping.Gone.{Gone}
use Rattle.blk_evict.specs.declared.item_names.EntryKind.TheVariants as kinds
use Rattle.blk_evict.specs.declared.list_places.Unpinned.{Unpinned}
use Rattle.blk_evict.specs.EvictingGroups.{GoesAs, IsGroupOut, kind_of_role, text_of_parts}
use Rattle.blk_evict.specs.RoomLaws.{MayGo, NamedObjectsStay, group_for, item_charge}
use Rattle.blk_sparse.specs.Parents.{IsGoneWhole, IsGroupTold, LiesAsParent}
use Rattle.blk_evict.proofs.GroupsOut.{charged-is, last-listed, main-is, owner-is, owner-unnamed}
use Rattle.blk_evict.proofs.RoomApart.{key-apart}

-- ---- the costs of the items of an eviction unit

module _ (state : State) (layout : Layout) (unlinked : List ℕ) (image : Image) (k : KeepsUncounted state layout unlinked image) where
  pub charges-are : (items : List Item) → AllByRecursion (λ item. is_listed state item ≡ true) items → charges_at layout (nodes_of layout items) ≡ sum_by (item_charge state) items
  charges-are [] all = refl
  charges-are (item ∷ items) all =
      let laid : IsPlacedAt state layout item = k.represents.holds.lies.laid item all.0 in
      let one : item_charge state item ≡ charge_of laid.loaded = charged-is state layout unlinked image k item laid.loaded all.0 laid.here in
      let more = charges-are items all.1 in
      let first = sum_by-cons charge_of laid.loaded (filter_map layout.at (nodes_of layout items)) in
      let second = sum_by-cons (item_charge state) item items in
      ap (λ (o : Option Loaded). sum_by charge_of (cons_option o (filter_map layout.at (nodes_of layout items)))) laid.here ∙ (let e : sum_by charge_of (laid.loaded ∷ filter_map layout.at (nodes_of layout items)) ≡ sum_by (item_charge state) (item ∷ items) = omega (arith, one, more, first, second) in e)

one-listed : (key : List ℕ) (all : List Item) (other : List ℕ) (n : ℕ) (items : List Item) → ((item : Item) → is_in (part other n ∷ items) item ≡ true → is_in all item ≡ true) → (b : Bool) → bytes_eq key other ≡ b
    → AllByRecursion (λ item. is_in all item ≡ true) (map (part key) (parts_among key items)) → AllByRecursion (λ item. is_in all item ≡ true) (map (part key) (parts_among key (part other n ∷ items)))
one-listed key all other n items within true e more =
    subst (λ (c : Bool). AllByRecursion (λ item. is_in all item ≡ true) (map (part key) (cons_option (if c then Some n else None) (filter_map (part_number key) items)))) (sym e)
    (within (part key n) (or_left (bytes_eq key other && n == n) (is_in items (part key n)) (and_from (bytes_eq key other) (n == n) e (eq-eqb n n refl))), more)
one-listed key all other n items within false e more =
    subst (λ (c : Bool). AllByRecursion (λ item. is_in all item ≡ true) (map (part key) (cons_option (if c then Some n else None) (filter_map (part_number key) items)))) (sym e) more

pub parts-listed : (key : List ℕ) (all items : List Item) → ((item : Item) → is_in items item ≡ true → is_in all item ≡ true) → AllByRecursion (λ item. is_in all item ≡ true) (map (part key) (parts_among key items))
parts-listed key all [] within = tt
parts-listed key all (main other ∷ items) within = parts-listed key all items (λ item there. within item (or_right (same_item item (main other)) (is_in items item) there))
parts-listed key all (part other n ∷ items) within = one-listed key all other n items within (bytes_eq key other) refl (parts-listed key all items (λ item there. within item (or_right (same_item item (part other n)) (is_in items item) there)))

-- ---- as its record says

pub parent-role : (role : Role) → kind_of_role role ≡ kinds.Parent → (index : ParentIndex) × (role ≡ IsParent index)
parent-role IsPlain e = cc
parent-role (IsParent index) e = (index, refl)
parent-role (IsPart name index) e = cc

apart-kinds : kinds.Parent ≡ kinds.Part → ⊥
apart-kinds e = cc

module _ (state : State) (layout : Layout) (image : Image) (found : Unpinned) (key : List ℕ) (is : GoesAs state layout found kinds.Parent key image) where
  abbrev k : KeepsUncounted state layout [] image
  k = is.kept.entries

  whole-listed : is_listed state is.last.item ≡ true
  whole-listed = last-listed state layout image is.kept.entries is.last.front is.last.rest is.last.loaded is.last.item is.last.goes

  pub whole-item : is.last.item ≡ main key
  whole-item = main-is state layout [] image is.kept.entries is.last.item is.last.loaded whole-listed is.last.here (λ e. apart-kinds (sym is.kind_is ∙ e)) ∙ ap main is.key_is

  pub whole-last : MayGo state is.last.front (main key) is.last.rest
  whole-last = subst (λ (i : Item). MayGo state is.last.front i is.last.rest) whole-item is.last.goes

  pub whole-child : is_child_item is.last.item ≡ false
  whole-child = ap is_child_item whole-item

  pub whole-is-listed : is_listed state is.last.item ≡ true
  whole-is-listed = whole-listed

  main-listed : is_listed state (main key) ≡ true
  main-listed = subst (λ (i : Item). is_listed state i ≡ true) whole-item whole-listed

  main-here : layout.at (layout.place (main key)) ≡ Some is.last.loaded
  main-here = subst (λ (i : Item). layout.at (layout.place i) ≡ Some is.last.loaded) whole-item is.last.here

  pub whole-owner : Owner state (main key)
  whole-owner = owner-is state layout [] image is.kept.entries (main key) is.last.loaded main-listed main-here

  own-key : key ≡ whole-owner.object.key
  own-key = owner_key whole-owner.object (main key) whole-owner.has

  parts-same : parts_among key is.last.front ≡ parts_among key state.uses
  parts-same = whole-last.parts key refl

  pub group-is : group_for is.last.item is.last.front ≡ whole key (parts_among key state.uses)
  group-is = ap (λ (i : Item). group_for i is.last.front) whole-item ∙ ap (whole key) parts-same

  pub whole-text : evicted_text (group_for is.last.item is.last.front ∷ []) ≡ evicted_line (main key) ++ text_of_parts key (parts_among key state.uses)
  whole-text =
      ap (λ (g : Group). evicted_text (g ∷ [])) group-is
      ∙ ap (flat_map evicted_line) (append-nil (main key ∷ map (part key) (parts_among key state.uses)))
      ∙ flat_map-append evicted_line (main key ∷ []) (map (part key) (parts_among key state.uses))
      ∙ ap (λ (l : List ℕ). l ++ text_of_parts key (parts_among key state.uses)) (append-nil (evicted_line (main key)))

  -- its key is one
  pub whole-key : IsKey key
  whole-key = subst IsKey (sym own-key) (subst (λ (w : Option Object). IfSome w IsObject) whole-owner.here (is.kept.entries.valid.objects whole-owner.number)).key

  pub whole-no-key : no_key key ≡ false
  whole-no-key = let some = whole-key.some in let short = whole-key.short in grind (arith, nat_tests)

  unnamed-is : is_named state whole-owner.number ≡ false
  unfolding whole-owner main-listed main-here
  unnamed-is = owner-unnamed state layout [] image is.kept.entries (main key) is.last.loaded main-listed main-here key refl whole-last.unpinned

  module _ (entry : ℕ) (before : Option ℕ) (entry_is : is.last.loaded.contents ≡ entry) (lies : LiesBehind state layout is.last.item is.last.loaded before) where
    pub may-go : LiesAsParent false state layout [] whole-owner.number whole-owner.object key found.node entry before image
    may-go = record {
      kept = is.kept;
      here = whole-owner.here;
      of_key = sym own-key;
      live = owner_live whole-owner.object (main key) whole-owner.has;
      named = unnamed-is;
      lies = record {
        was = is.last.loaded;
        lies = subst (λ (i : Item). LiesBehind state layout i is.last.loaded before) whole-item lies;
        node_is = ap layout.place (sym whole-item) ∙ sym is.last.node;
        entry_is = entry_is;
      };
      index = (parent-role is.last.loaded.role is.kind_is).0;
      role = (parent-role is.last.loaded.role is.kind_is).1;
    }

  pub doomed-is : doomed whole-owner.number state (Some whole-owner.object) ≡ without (group_for is.last.item is.last.front ∷ []) state
  doomed-is =
      sym (whole-groups-go state whole-owner.number whole-owner.object (parts_among key state.uses) k.valid whole-owner.here (owner_live whole-owner.object (main key) whole-owner.has) unnamed-is)
      ∙ ap (λ (x : List ℕ). without (whole x (parts_among key state.uses) ∷ []) state) (sym own-key)
      ∙ ap (λ (g : Group). without (g ∷ []) state) (sym group-is)

  pub whole-out : (now : Image) (gone : Gone) → IsGoneWhole state layout [] whole-owner.number whole-owner.object now → IsGroupTold state layout key gone → SameSession image now → IsGroupOut state layout (group_for is.last.item is.last.front) gone image now
  whole-out now gone out told session =
      let listed : AllByRecursion (λ item. is_listed state item ≡ true) (items_of_group (whole key (parts_among key state.uses))) = (main-listed, parts-listed key state.uses state.uses (λ item there. there)) in
      record {
        left = layout_less layout (gone_nodes state layout (is_of_another key)) out.chains;
        kept = subst (λ (s : State). Keeps s (layout_less layout (gone_nodes state layout (is_of_another key)) out.chains) [] now) doomed-is
            (subst (λ (x : List ℕ). Keeps (doomed whole-owner.number state (Some whole-owner.object)) (layout_less layout (gone_nodes state layout (is_of_another x)) out.chains) [] now) (sym own-key) out.kept);
        places = refl;
        stay = subst (λ (i : Item). NamedObjectsStay (without (group_for i is.last.front ∷ []) state) layout (layout_less layout (gone_nodes state layout (is_of_another key)) out.chains)) (sym whole-item)
            (key-apart state layout [] image is.last.front key is.last.rest out.chains is.kept.entries whole-last);
        told = record {
          items = told.many ∙ sym (ap (λ (g : Group). length (items_of_group g)) group-is);
          bytes = told.charged ∙ charges-are state layout [] image is.kept.entries (items_of_group (whole key (parts_among key state.uses))) listed ∙ sym (ap (λ (g : Group). sum_by (item_charge state) (items_of_group g)) group-is);
        };
        session = session;
      }
