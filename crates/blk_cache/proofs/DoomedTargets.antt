-- A live object that is to be doomed, by what lies there, and what is left once it is.
use Rattle.std.proofs.Common.{◌≡◌, ⊎_elim, inl, ℕ, ◌+◌, Bool, true, false, cond, List, [], ◌∷◌, length, map, Option, Some, refl, sym, ap, subst, ◌∙◌, arith}
use Rattle.std.specs.Prelude.{IfSome, sum_by}
use Rattle.std.specs.List.{AllByRecursion}
use Rattle.std.proofs.lemmas.Bool.{cases_Bool}
use Rattle.std.proofs.lemmas.Bool.Decides.{nat_tests}
use Rattle.std.proofs.lemmas.List.Sums.{sum_by-cons}
use Rattle.spec_image.specs.Image.{Image}
use Rattle.spec_image.specs.Told.{Passes, Told}
use Rattle.spec_image.proofs.Runs.{some_inj}
use Rattle.blk_model.specs.Effects.{doomed}
use Rattle.blk_model.specs.Items.{Item, main, part}
use Rattle.blk_model.specs.Refusals.{no_key}
use Rattle.blk_model.specs.Room.{items, own_charge, parts_among}
use Rattle.blk_model.specs.State.{IsObject, Object, State, is_named, object_at}
use Rattle.blk_model.proofs.Chosen.{Owner}
use Rattle.blk_model.proofs.Doomed.{state_doomed}
use Rattle.law_folder.specs.CommandLaws.{IsPlacedAsLive}
use Rattle.law_folder.proofs.states.Settling.{main-owned}
use Rattle.spec_folder.specs.Entries.{IsParent, IsPart, IsPlain, Role}
use Rattle.spec_folder.specs.Found.{charge_of}
use Rattle.spec_folder.specs.Layout.{Layout, is_listed}
use Rattle.spec_folder.specs.Loads.{Loaded}
use Rattle.spec_folder.specs.Removal.{is_of_another, without_items}
use Rattle.law_state.specs.Changes.{SameSession}
use Rattle.law_state.specs.DoomLaws.{CanBeDoomed}
use Rattle.law_state.specs.GroupLaws.{gone_nodes, layout_less}
use Rattle.law_state.specs.Keeping.{Keeps}
use Rattle.law_state.specs.RemovalLaws.{chains_without, layout_removed}
use Rattle.law_state.specs.WholeRemovals.{layout_doomed_whole}
use Rattle.law_state.proofs.Keeping.{kept-held}
use Rattle.blk_object.specs.Dooming.{layout_held}
use Rattle.blk_object.specs.Owning.{LoadsWith}
use Rattle.blk_object.specs.RemovingFound.{LiesAsFound}
use Rattle.blk_object.specs.RemovingObjects.{FindsEither, GoesAlone}
use Rattle.blk_object.proofs.PlainObjects.{no-listed, plain-alone}
use Rattle.blk_sparse.specs.Parents.{ArePartsTold, IsGoneWhole, IsGroupTold, IsHeldWhole, LiesAsParent}
use Rattle.blk_sparse.specs.declared.dropping.Gone.{Gone}
use Rattle.blk_cache.specs.declared.dooming_objects.Target.{Target}
use Rattle.blk_evict.specs.declared.item_names.EntryKind.TheVariants as kinds
use Rattle.blk_cache.specs.DoomingObjects.{IsDoomed, LiesAsTarget, NamedObjectsLieOn, has_index}
use Rattle.blk_evict.specs.EvictingGroups.{kind_of_role}
use Rattle.blk_evict.specs.RoomLaws.{item_charge}
use Rattle.blk_cache.proofs.DoomedCounts.{bytes-less, items-less, main-charge}
use Rattle.blk_cache.proofs.DoomedPlaced.{doomed-on, parts-on, removed-on, whole-on}
use Rattle.blk_evict.proofs.GroupsOut.{charged-is, loads-there, none-among, owner-is, part-is, plain-no-parts, stayed-stops}
use Rattle.blk_evict.proofs.WholeGroups.{charges-are, parent-role, parts-listed}

-- where nothing was done the old durable contents are recovered
pub stayed-either : (told now : Told) (state : State) (number : ℕ) (object : Object) (layout : Layout) (from : Image) → told.files ≡ Some from → now ≡ told → Keeps state layout [] from → Passes told now (FindsEither state (doomed number state (Some object)))
stayed-either told now state number object layout from there same k = stayed-stops told now state (doomed number state (Some object)) layout from there same k

-- an object of a kept state has a key that is one
pub object-key : (state : State) (layout : Layout) (image : Image) → Keeps state layout [] image → (number : ℕ) (object : Object) → object_at state number ≡ Some object → no_key object.key ≡ false
object-key state layout image k number object here =
    let valid : IsObject object = subst (λ (o : Option Object). IfSome o IsObject) here (k.entries.valid.objects number) in
    let some = valid.key.some in
    let short = valid.key.short in
    grind (arith, nat_tests)

plain-kind : (role : Role) → has_index (kind_of_role role) ≡ false → (kind_of_role role ≡ kinds.Part → ⊥) → kind_of_role role ≡ kinds.Plain
plain-kind IsPlain none differs = refl
plain-kind (IsParent index) none differs = cc
plain-kind (IsPart name index) none differs = absurd (differs refl)

index-kind : (role : Role) → has_index (kind_of_role role) ≡ true → kind_of_role role ≡ kinds.Parent
index-kind IsPlain some = cc
index-kind (IsParent index) some = refl
index-kind (IsPart name index) some = cc

one-more : (item : Item) (items : List Item) → length (item ∷ items) ≡ 1 + length items
one-more item items = omega arith

module _ {held : Bool} (state : State) (layout : Layout) (image : Image) (number : ℕ) (object : Object) (target : Target) (k : Keeps state layout [] image) (t : LiesAsTarget held state layout number object target) where
  abbrev was : Loaded
  was = t.lies.was

  main-listed : is_listed state (main object.key) ≡ true
  main-listed = t.lies.lies.listed

  pub placed : IsPlacedAsLive state layout number object was
  placed = record { here = t.here; live = t.live; at = t.lies.lies.here }

  -- the durable contents are recovered
  pub at-rest : FindsEither state (doomed number state (Some object)) image
  at-rest = inl (k.entries.sound, kept-held state layout [] image k.entries)

  -- its record loads
  pub loads : LoadsWith target.found.entry was image
  loads = loads-there state layout [] image k.entries (main object.key) was main-listed t.lies.lies.here target.found.entry t.lies.entry_is

  -- it is no part
  pub no-part : kind_of_role was.role ≡ kinds.Part → ⊥
  no-part kind =
      let p = part-is state layout [] image k.entries (main object.key) was main-listed t.lies.lies.here kind in
      let e : main object.key ≡ part p.name.key p.name.part = p.is in cc

  -- without an index it has no parts
  pub no-parts : kind_of_role was.role ≡ kinds.Plain → object.parts ≡ []
  no-parts kind =
      let o : Owner state (main object.key) = owner-is state layout [] image k.entries (main object.key) was main-listed t.lies.lies.here in
      let none : o.object.parts ≡ [] = plain-no-parts state layout [] image k.entries (main object.key) was main-listed t.lies.lies.here object.key refl kind in
      let numbers : o.number ≡ number = some_inj (sym o.found ∙ main-owned state k.entries.valid number object true t.here t.live) in
      let same : o.object ≡ object = some_inj (sym o.here ∙ ap (object_at state) numbers ∙ t.here) in
      ap (λ (x : Object). x.parts) (sym same) ∙ none

  -- and it has none where its kind has no index
  pub parts-none : has_index target.kind ≡ false → object.parts ≡ []
  parts-none none = no-parts (plain-kind was.role (ap has_index t.kind ∙ none) no-part)

  -- it has an index where its kind has one
  pub parent-kind : has_index target.kind ≡ true → kind_of_role was.role ≡ kinds.Parent
  parent-kind some = index-kind was.role (ap has_index t.kind ∙ some)

  -- the costs of its items
  items-listed : AllByRecursion (λ item. is_listed state item ≡ true) (main object.key ∷ map (part object.key) (parts_among object.key state.uses))
  items-listed = (main-listed, parts-listed object.key state.uses state.uses (λ item there. there))

  its-charge : item_charge state (main object.key) ≡ charge_of was
  its-charge = charged-is state layout [] image k.entries (main object.key) was main-listed t.lies.lies.here

  -- ---- without parts

  module _ (none : object.parts ≡ []) where
    none-listed : parts_among object.key state.uses ≡ []
    none-listed = none-among object.key state.uses (λ m there. no-listed state number object k.entries.valid t.here t.live none m there)

    alone-items : (length (main object.key ∷ map (part object.key) (parts_among object.key state.uses)) ≡ 1) × (sum_by (item_charge state) (main object.key ∷ map (part object.key) (parts_among object.key state.uses)) ≡ item_charge state (main object.key))
    alone-items = (
      ap (λ (ns : List ℕ). length (main object.key ∷ map (part object.key) ns)) none-listed,
      ap (λ (ns : List ℕ). sum_by (item_charge state) (main object.key ∷ map (part object.key) ns)) none-listed ∙ (let c = sum_by-cons (item_charge state) (main object.key) [] in omega (arith, c)),
    )

    -- a handle names it
    pub can-be-doomed : is_named state number ≡ true → CanBeDoomed state layout number object was
    can-be-doomed named = record {
      lies = placed;
      named = named;
      alone = λ n. ⊎_elim
          (λ (e : is_listed state (part object.key n) ≡ true). absurd (no-listed state number object k.entries.valid t.here t.live none n e))
          (λ (e : is_listed state (part object.key n) ≡ false). e)
          (cases_Bool (is_listed state (part object.key n)));
      valid = state_doomed state k.entries.valid number object t.here t.live;
    }

    pub plain-held : is_named state number ≡ true → (now : Image) → Keeps (doomed number state (Some object)) (layout_held layout number object was) [] now → SameSession image now → IsDoomed state layout number object (record { items = 0; bytes = 0 }) image now
    plain-held named now kept session =
        let items = items-less state number object k.entries.valid t.here t.live in
        let bytes = bytes-less state number object k.entries.valid t.here t.live in
        let one = ap (λ (b : Bool). cond {A = ℕ} b 1 0) named in
        let own = ap (λ (b : Bool). cond {A = ℕ} b (own_charge object) 0) named in
        let main_is = main-charge state number object k.entries.valid t.here t.live in
        let alone = alone-items in
        let few = alone.0 in
        let sum = alone.1 in
        record {
          left = layout_held layout number object was;
          kept = kept;
          stay = doomed-on state layout [] image k.entries number object t.here t.live named (chains_without layout was.contents) layout.owner;
          items_less = omega (arith, items, one, few);
          bytes_less = omega (arith, bytes, own, sum, main_is);
          session = session;
        }

    -- none does
    pub goes-alone : is_named state number ≡ false → GoesAlone state layout (doomed number state (Some object)).objects (is_of_another object.key) (main object.key) target.node target.found.entry target.found.before
    goes-alone unnamed = record {
      without = (plain-alone state number object k.entries.valid t.here t.live none unnamed).0;
      was = was;
      lies = t.lies.lies;
      node_is = t.lies.node_is;
      entry_is = t.lies.entry_is;
    }

    pub alone-is : is_named state number ≡ false → without_items state (doomed number state (Some object)).objects (is_of_another object.key) ≡ doomed number state (Some object)
    alone-is unnamed = sym (plain-alone state number object k.entries.valid t.here t.live none unnamed).1

    pub plain-unheld : is_named state number ≡ false → (now : Image) → Keeps (without_items state (doomed number state (Some object)).objects (is_of_another object.key)) (layout_removed layout target.node target.found.entry) [] now
        → (charge : ℕ) → charge ≡ charge_of was → SameSession image now → IsDoomed state layout number object (record { items = 1; bytes = charge }) image now
    plain-unheld unnamed now kept charge charged session =
        let items = items-less state number object k.entries.valid t.here t.live in
        let bytes = bytes-less state number object k.entries.valid t.here t.live in
        let one = ap (λ (b : Bool). cond {A = ℕ} b 1 0) unnamed in
        let own = ap (λ (b : Bool). cond {A = ℕ} b (own_charge object) 0) unnamed in
        let main_is = its-charge in
        let alone = alone-items in
        let few = alone.0 in
        let sum = alone.1 in
        record {
          left = layout_removed layout target.node target.found.entry;
          kept = subst (λ (s : State). Keeps s (layout_removed layout target.node target.found.entry) [] now) (alone-is unnamed) kept;
          stay = subst (λ (n : ℕ). NamedObjectsLieOn state (doomed number state (Some object)) layout (layout_removed layout n target.found.entry)) t.lies.node_is
              (removed-on state layout [] image k.entries number object t.here t.live unnamed target.found.entry);
          items_less = omega (arith, items, one, few);
          bytes_less = omega (arith, bytes, own, sum, main_is, charged);
          session = session;
        }

  -- ---- with an index

  pub as-parent : kind_of_role was.role ≡ kinds.Parent → (key : List ℕ) → object.key ≡ key → LiesAsParent held state layout [] number object key target.node target.found.entry target.found.before image
  as-parent kind key same = subst (λ (x : List ℕ). LiesAsParent held state layout [] number object x target.node target.found.entry target.found.before image) same
      (record { kept = k; here = t.here; of_key = refl; live = t.live; named = t.named; lies = t.lies; index = (parent-role was.role kind).0; role = (parent-role was.role kind).1 })

  -- its cost, whatever lies there
  pub parent-charge : (key : List ℕ) → object.key ≡ key → (lies : LiesAsFound state layout key target.node target.found.entry target.found.before) → target.charge ≡ charge_of lies.was
  parent-charge key same lies =
      let here : layout.at (layout.place (main key)) ≡ Some lies.was = lies.lies.here in
      let mine : layout.at (layout.place (main key)) ≡ Some was = subst (λ (x : List ℕ). layout.at (layout.place (main x)) ≡ Some was) same t.lies.lies.here in
      t.charge ∙ ap charge_of (some_inj (sym mine ∙ here))

  -- no handle names it
  pub whole-unheld : is_named state number ≡ false → (key : List ℕ) → object.key ≡ key → (now : Image) (gone : Gone) → IsGoneWhole state layout [] number object now → IsGroupTold state layout key gone → SameSession image now → IsDoomed state layout number object gone image now
  whole-unheld unnamed key same now gone out told session =
      let items = items-less state number object k.entries.valid t.here t.live in
      let bytes = bytes-less state number object k.entries.valid t.here t.live in
      let one = ap (λ (b : Bool). cond {A = ℕ} b 1 0) unnamed in
      let own = ap (λ (b : Bool). cond {A = ℕ} b (own_charge object) 0) unnamed in
      let mine : IsGroupTold state layout object.key gone = subst (λ (x : List ℕ). IsGroupTold state layout x gone) (sym same) told in
      let many = mine.many in
      let charged = mine.charged in
      let sum = charges-are state layout [] image k.entries (main object.key ∷ map (part object.key) (parts_among object.key state.uses)) items-listed in
      record {
        left = layout_less layout (gone_nodes state layout (is_of_another object.key)) out.chains;
        kept = out.kept;
        stay = whole-on state layout [] image k.entries number object t.here t.live unnamed out.chains;
        items_less = omega (arith, items, one, many);
        bytes_less = omega (arith, bytes, own, sum, charged);
        session = session;
      }

  -- a handle names it
  pub whole-held : is_named state number ≡ true → (key : List ℕ) → object.key ≡ key → (now : Image) (gone : Gone) → IsHeldWhole state layout [] number object now → ArePartsTold state layout key gone → SameSession image now → IsDoomed state layout number object gone image now
  whole-held named key same now gone out told session =
      let parts : List Item = map (part object.key) (parts_among object.key state.uses) in
      let items = items-less state number object k.entries.valid t.here t.live in
      let bytes = bytes-less state number object k.entries.valid t.here t.live in
      let one = ap (λ (b : Bool). cond {A = ℕ} b 1 0) named in
      let own = ap (λ (b : Bool). cond {A = ℕ} b (own_charge object) 0) named in
      let mine : ArePartsTold state layout object.key gone = subst (λ (x : List ℕ). ArePartsTold state layout x gone) (sym same) told in
      let many = mine.many in
      let charged = mine.charged in
      let longer = one-more (main object.key) (map (part object.key) (parts_among object.key state.uses)) in
      let first = sum_by-cons (item_charge state) (main object.key) (map (part object.key) (parts_among object.key state.uses)) in
      let main_is = main-charge state number object k.entries.valid t.here t.live in
      let sum = charges-are state layout [] image k.entries (map (part object.key) (parts_among object.key state.uses)) items-listed.1 in
      record {
        left = layout_doomed_whole state layout number object.key out.chains;
        kept = out.kept;
        stay = parts-on state layout [] image k.entries number object t.here t.live named out.chains;
        items_less = omega (arith, items, one, many, longer);
        bytes_less = omega (arith, bytes, own, first, main_is, sum, charged);
        session = session;
      }
