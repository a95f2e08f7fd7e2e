-- The items from the back of the LRU list, as their nodes are met.
use Rattle.std.proofs.Common.{◌≡◌, ℕ, ◌+◌, ◌≤◌, Bool, ◌||◌, List, [], ◌∷◌, ◌++◌, length, Option, Some, None, true, false, refl, sym, ap, subst, ◌∙◌, arith, append_assoc}
use Rattle.std.specs.List.{AllByRecursion}
use Rattle.std.proofs.lemmas.List.{length-map, map-append}
use Rattle.spec_image.specs.Image.{Image}
use Rattle.spec_image.proofs.Runs.{some_inj}
use Rattle.blk_model.specs.Items.{Item}
use Rattle.blk_model.specs.Room.{is_pinned}
use Rattle.blk_model.specs.State.{State}
use Rattle.spec_format.specs.Address.{rankings}
use Rattle.spec_folder.specs.Layout.{Layout, is_in, is_listed, nodes_of, order, rule_of}
use Rattle.spec_folder.specs.ListImages.{HasListAtRest}
use Rattle.spec_folder.specs.ListView.{last_or}
use Rattle.spec_folder.specs.Loads.{Loaded}
use Rattle.spec_folder.specs.View.{NodeFields, node_at, node_fields_at, stands_as, store_of}
use Rattle.law_folder.proofs.walks.Loads.{load-then}
use Rattle.blk_handles.specs.Bindings.{is_open}
use Rattle.law_state.proofs.Free.{standing-at}
use Rattle.blk_lru.specs.Lists.{last_node_of}
use Rattle.blk_object.specs.ListedParts.{LoadsAt}
use Rattle.blk_cache.specs.declared.cache.Cache.{Cache}
use Rattle.blk_evict.specs.declared.list_places.Unpinned.{Unpinned}
use Rattle.blk_cache.specs.declared.covered.Covered.{Covered}
use Rattle.blk_cache.specs.CacheKeeping.{HoldsState}
use Rattle.blk_cache.specs.Covering.{LieCovered, covers}
use Rattle.blk_evict.specs.RoomLaws.{AreAllPinned, IsLastUnpinned}
use Rattle.blk_evict.specs.ListPlaces.{AreInPrefix, IsLastAt, IsPinnedFrom}
use Rattle.blk_evict.proofs.RoomGroups.{in-middle, last-goes}
use Rattle.blk_cache.proofs.CoveredParts.{pinned-both}
use Rattle.blk_cache.proofs.RoomBound.{record-pinned}

-- at least `count` items are pinned from a node on
pub record IsPinnedSoFar (state : State) (layout : Layout) (covered : List Item) (behind : Option ℕ) (count : ℕ) : Type 0 where
  pub from : IsPinnedFrom state layout covered behind
  pub many : count ≤ length from.rest

pub none-so-far : (state : State) (layout : Layout) (covered : List Item) (behind : Option ℕ) → IsPinnedFrom state layout covered behind → IsPinnedSoFar state layout covered behind 0
none-so-far state layout covered behind from = record { from = from; many = omega arith }

-- items that end with a node
pub record EndWith (layout : Layout) (all : List Item) (node : ℕ) : Type 0 where
  pub front : List Item
  pub item : Item
  pub are : all ≡ front ++ item ∷ []
  pub node_is : node ≡ layout.place item

ends-with : (layout : Layout) (all : List Item) (node : ℕ) → ◌≡◌ {A = Option ℕ} (Some node) (last_node_of (nodes_of layout all)) → EndWith layout all node
ends-with layout [] node e = absurd (no e) where
  no : ◌≡◌ {A = Option ℕ} (Some node) None → ⊥
  no e = cc
ends-with layout (item ∷ []) node e = record { front = []; item = item; are = refl; node_is = some_inj e }
ends-with layout (item ∷ other ∷ all) node e =
    let r = ends-with layout (other ∷ all) node e in
    record { front = item ∷ r.front; item = r.item; are = ap (λ (is : List Item). item ∷ is) r.are; node_is = r.node_is }

ends-none : (layout : Layout) (all : List Item) → ◌≡◌ {A = Option ℕ} None (last_node_of (nodes_of layout all)) → all ≡ []
ends-none layout [] e = refl
ends-none layout (item ∷ all) e = absurd (no (last_or (layout.place item) (nodes_of layout all)) e) where
  no : (w : ℕ) → ◌≡◌ {A = Option ℕ} None (Some w) → ⊥
  no w e = cc

length-both : (front rest : List Item) → length (front ++ rest) ≡ length front + length rest
length-both [] rest = omega arith
length-both (i ∷ front) rest = let e = length-both front rest in omega (arith, e)

-- the record that the node names
said-contents : (image : Image) (w : ℕ) (n : NodeFields) → node_fields_at image w ≡ Some n → stands_as image rankings w ≡ true → (node_at image w).contents ≡ n.contents
unfolding node_fields_at
said-contents image w n e stands = ap (λ (f : NodeFields). f.contents) (some_inj (rw stands at e))

module _ (cache : Cache) (state : State) (image : Image) (kept : HoldsState cache state image) where
  contents-at : (node : ℕ) (loaded : Loaded) → kept.layout.at node ≡ Some loaded → (node_at image node).contents ≡ loaded.contents
  unfolding store_of
  contents-at node loaded here =
      load-then {P = (node_at image node).contents ≡ loaded.contents} (store_of image) (rule_of kept.layout node) node loaded (kept.kept.entries.represents.holds.shows.each node loaded here)
      (λ n e facts.
      let st = standing-at image state kept.layout kept.kept.entries.represents node loaded here in
      said-contents image node n facts.node (subst (λ (w : ℕ). stands_as image rankings w ≡ true) facts.facts.node_is st.node) ∙ sym facts.facts.contents_is)

  -- these nodes are in front
  pub front-is : (covered : List Item) (behind : Option ℕ) (p : IsPinnedFrom state kept.layout covered behind) → AreInPrefix (nodes_of kept.layout p.front) behind image
  front-is covered behind p =
      let nodes : order state kept.layout ≡ nodes_of kept.layout p.front ++ nodes_of kept.layout p.rest = ap (nodes_of kept.layout) p.listed ∙ map-append kept.layout.place p.front p.rest in
      record {
        rest = nodes_of kept.layout p.rest;
        list = subst (λ (ws : List ℕ). HasListAtRest ws image) nodes (record { whole = kept.kept.entries.represents.list; idle = kept.kept.entries.represents.idle });
        next = p.next;
      }

  -- nothing is in front
  pub none-left : (covered : List Item) (behind : Option ℕ) (p : IsPinnedFrom state kept.layout covered behind) → ◌≡◌ {A = Option ℕ} None (last_node_of (nodes_of kept.layout p.front)) → AreAllPinned state covered
  none-left covered behind p e = subst (λ (is : List Item). AllByRecursion (λ item. is_pinned state covered item ≡ true) is) (sym (p.listed ∙ ap (λ (f : List Item). f ++ p.rest) (ends-none kept.layout p.front e))) p.pinned

  -- no more than that are met
  pub met-few : (covered : List Item) (behind : Option ℕ) (count : ℕ) → 131073 ≤ count → IsPinnedSoFar state kept.layout covered behind count → ⊥
  met-few covered behind count enough p =
      let few = kept.kept.entries.represents.list.few in
      let many = p.many in
      let nodes : length (order state kept.layout) ≡ length state.uses = length-map state.uses kept.layout.place in
      let long : length state.uses ≡ length (p.from.front ++ p.from.rest) = ap (λ (is : List Item). length is) p.from.listed in
      let both = length-both p.from.front p.from.rest in
      omega (arith, few, many, nodes, long, both, enough)

  -- a node is in front
  module _ (covered : List Item) (behind : Option ℕ) (p : IsPinnedFrom state kept.layout covered behind) (node : ℕ) (e : ◌≡◌ {A = Option ℕ} (Some node) (last_node_of (nodes_of kept.layout p.front))) where
    abbrev met : EndWith kept.layout p.front node
    met = ends-with kept.layout p.front node e

    uses-are : state.uses ≡ met.front ++ met.item ∷ p.rest
    uses-are = p.listed ∙ ap (λ (f : List Item). f ++ p.rest) met.are ∙ append_assoc met.front (met.item ∷ []) p.rest

    abbrev listed : is_listed state met.item ≡ true
    listed = ap (λ (is : List Item). is_in is met.item) uses-are ∙ in-middle met.front met.item p.rest

    abbrev loaded : Loaded
    loaded = (kept.kept.entries.represents.holds.lies.laid met.item listed).loaded

    here : kept.layout.at (kept.layout.place met.item) ≡ Some loaded
    here = (kept.kept.entries.represents.holds.lies.laid met.item listed).here

    contents : (node_at image node).contents ≡ loaded.contents
    contents = contents-at node loaded (ap kept.layout.at met.node_is ∙ here)

    -- it loads
    pub node-loads : (l : Loaded) × LoadsAt node l image
    node-loads = (
      loaded,
      subst (λ (n : ℕ). LoadsAt n loaded image) (sym met.node_is) (record {
        rule = rule_of kept.layout (kept.layout.place met.item);
        loads = kept.kept.entries.represents.holds.shows.each (kept.layout.place met.item) loaded here;
      }),
    )

    module _ (parts : Covered) (lie : LieCovered state kept.layout covered parts) where
      pinned-is : (entry : ℕ) → entry ≡ (node_at image node).contents → (is_open cache.handles entry || covers parts node) ≡ is_pinned state covered met.item
      pinned-is entry is =
          ap (λ (b : Bool). b || covers parts node) (ap (is_open cache.handles) (is ∙ contents) ∙ record-pinned state kept.layout [] image kept.kept.entries cache.handles kept.names met.item loaded listed here)
          ∙ ap (λ (b : Bool). is_pinned state [] met.item || b) (ap (covers parts) met.node_is ∙ lie.nodes met.item listed)
          ∙ sym (pinned-both state met.item covered lie.of_named)

      -- it isn't pinned
      pub last-found : (found : Unpinned) → found.node ≡ node → found.entry ≡ (node_at image node).contents → found.behind ≡ behind → (is_open cache.handles found.entry || covers parts node) ≡ false → IsLastAt state kept.layout covered found
      last-found found is entry next closed =
          let last : IsLastUnpinned state covered met.front met.item p.rest = record { listed = uses-are; unpinned = sym (pinned-is found.entry entry) ∙ closed; pinned_behind = p.pinned } in
          record {
            goes = record {
              front = met.front;
              item = met.item;
              rest = p.rest;
              goes = last-goes state covered met.front met.item p.rest lie.of_named last;
              node = is ∙ met.node_is;
              loaded = loaded;
              here = here;
              entry = entry ∙ contents;
            };
            last = last;
            next = next ∙ p.next;
          }

      -- it is
      pub more-so-far : (count : ℕ) → count ≤ length p.rest → (entry : ℕ) → entry ≡ (node_at image node).contents → (is_open cache.handles entry || covers parts node) ≡ true → (next : Option ℕ) → next ≡ Some node → IsPinnedSoFar state kept.layout covered next (count + 1)
      more-so-far count many entry is open_ next next-is = record {
        from = record {
          front = met.front;
          rest = met.item ∷ p.rest;
          listed = uses-are;
          pinned = (sym (pinned-is entry is) ∙ open_, p.pinned);
          next = next-is ∙ ap Some met.node_is;
        };
        many = omega (arith, many);
      }
