-- A doomed object changed at its node, or freed.
use Rattle.std.proofs.Common.{◌≡◌, ℕ, ◌<◌, List, map, refl, ap, sym, ◌∙◌, subst, Bool, true, false, set, get_or-set_same, get_or-set_other, ◌≢◌, Option, Some, None, Ok, ⊎_elim}
use Rattle.std.specs.Prelude.{◌==◌, IfSome, length}
use Rattle.std.specs.Option.{option_and_then}
use Rattle.std.proofs.lemmas.Bool.Decides.{eqb_tells}
use Rattle.std.proofs.Math.Dec.{eqb}
use Rattle.blk_model.specs.Items.{Item, main, part, main_row}
use Rattle.blk_model.specs.State.{State, Object, IsValidState, object_at, has_item, slot_has_item}
use Rattle.blk_model.specs.Stops.{is_live_and_settled}
use Rattle.blk_model.proofs.Each.{some_within}
use Rattle.spec_format.specs.BlockFiles.{is_among}
use Rattle.spec_format.specs.Claims.{Claim, has_claim, repeats}
use Rattle.spec_folder.specs.ListView.{IsList, put}
use Rattle.spec_folder.specs.Walk.{walk}
use Rattle.spec_folder.specs.Completion.{completed_list}
use Rattle.spec_folder.specs.View.{View}
use Rattle.spec_folder.specs.Chains.{Linked, IsChain}
use Rattle.spec_folder.specs.Loads.{held_rule, Loaded, load, all_claims}
use Rattle.spec_folder.specs.Audit.{kept_among}
use Rattle.spec_folder.specs.Found.{row_of_loaded}
use Rattle.spec_folder.specs.Layout.{Layout, is_listed, order, rule_of, HasDirtyMark, HasParentAt, IsPlacedAt, IsDoomedAt, IsListedRecord, IsLayoutOf, Shows, Represents, HoldsExcept}
use Rattle.spec_folder.specs.Footprint.{IsClear, SameBut, IsFreeBut}
use Rattle.law_folder.specs.CommandLaws.{ListedItemsAreAtRest}
use Rattle.law_folder.proofs.claims.Owner.{IsOwned, owned, rest-picked}
use Rattle.law_folder.proofs.walks.Shown.{node-is}
use Rattle.law_folder.proofs.states.Laid.{IsNodeOf, node-of, is_among-node, found-but, picked-closed}
use Rattle.law_folder.proofs.states.Central.{settled-is_test, all-closed, walk-idle}
use Rattle.law_folder.proofs.lists.Walks.{walk_list}
use Rattle.law_folder.proofs.claims.Outside.{AreClear, all-clear, clear-zero, load-outside, linked-same, list-outside}
use Rattle.law_folder.proofs.states.Changing.{at-itself, at-elsewhere, first_with-set}
use Rattle.blk_model.specs.Holding as model

-- ---- an item that neither the old nor the new object of a number has

module _ (m : State) (number : ℕ) (slot : Option Object) (i : Item) (before : slot_has_item i (object_at m number) ≡ false) (after : slot_has_item i slot ≡ false) where
  pub owner-aside : model.owner (record m { objects = set m.objects number slot }) i ≡ model.owner m i
  owner-aside = first_with-set i 0 m.objects number slot (after ∙ sym before)

  pub object-aside : model.owner_object (record m { objects = set m.objects number slot }) i ≡ model.owner_object m i
  object-aside = ap (option_and_then (object_at (record m { objects = set m.objects number slot }))) owner-aside ∙ go (model.owner m i) refl where
    go : (w : Option ℕ) → model.owner m i ≡ w → option_and_then (object_at (record m { objects = set m.objects number slot })) w ≡ option_and_then (object_at m) w
    go None e = refl
    go (Some k) e = ⊎_elim
        (λ (x : (eqb k number ≡ true) × (k ≡ number)).
        let p : IsOwned m i k = owned m i k e in
        let q : slot_has_item i (object_at m number) ≡ true = ap (λ (z : ℕ). slot_has_item i (object_at m z)) (sym x.1) ∙ ap (slot_has_item i) p.here ∙ p.has in
        absurd (let c : true ≡ false = sym q ∙ before in cc))
        (λ (x : (eqb k number ≡ false) × (k ≢ number)). let apart : k ≢ number = x.1 in rw get_or-set_other)
        (eqb_tells k number)

  pub row-aside : model.row_of (record m { objects = set m.objects number slot }) i ≡ model.row_of m i
  unfolding model.row_of
  row-aside = ap (option_and_then (λ object. model.row_in object i)) object-aside

-- a doomed object has no item
pub dead-has : (o : Object) (i : Item) → o.live ≡ false → has_item o i ≡ false
dead-has o (main key) dead = rw dead refl
dead-has o (part key n) dead = rw dead refl

pub dead-slot : (slot : Option Object) (i : Item) → IfSome slot (λ o. o.live ≡ false) → slot_has_item i slot ≡ false
dead-slot None i dead = refl
dead-slot (Some o) i dead = dead-has o i dead

-- what lies at a doomed object's node, where there is one
pub record IsDoomedSlot (there : Option Loaded) (o : Object) : Type 0 where
  pub loaded : Loaded
  pub here : there ≡ Some loaded
  pub row : row_of_loaded loaded ≡ main_row o.key o.shape o.streams
  pub mark : (loaded.dirty == 0) ≡ o.settled

-- a doomed object of a number
pub record IsDead (m : State) (number : ℕ) : Type 0 where
  pub object : Object
  pub here : object_at m number ≡ Some object
  pub dead : object.live ≡ false

-- ---- something else, or nothing, at the node of a doomed object

module _ (m : State) (y : Layout) (r : IsLayoutOf m y) (number : ℕ) (o : Object) (here : object_at m number ≡ Some o) (gone : o.live ≡ false) where
  d : IsDoomedAt m y number o
  d = r.doomed_objects number o here gone

  -- the nodes of items are others
  pub apart-node : (w : ℕ) → is_among (order m y) w ≡ true → (y.place_of_doomed number == w) ≡ false
  apart-node w among = ⊎_elim
      (λ (x : (eqb (y.place_of_doomed number) w ≡ true) × (y.place_of_doomed number ≡ w)). let c : is_among (order m y) w ≡ false = ap (is_among (order m y)) (sym x.1) ∙ d.unlisted in absurd (let z : true ≡ false = sym among ∙ c in cc))
      (λ (x : (eqb (y.place_of_doomed number) w ≡ false) × _). x.0)
      (eqb_tells (y.place_of_doomed number) w)

  pub apart-item : (i : Item) → is_listed m i ≡ true → (y.place_of_doomed number == y.place i) ≡ false
  apart-item i listed = apart-node (y.place i) (is_among-node y m.uses i listed)

  module _ (slot : Option Object) (there : Option Loaded) (owner : Claim → Option ℕ) (dead : IfSome slot (λ x. x.live ≡ false)) (fits : (x : Object) → slot ≡ Some x → IsDoomedSlot there x)
      (own : (k : Loaded) (c : Claim) → there ≡ Some k → has_claim (all_claims k) c ≡ true → owner c ≡ Some (y.place_of_doomed number))
      (others : (c : Claim) (w : ℕ) → y.owner c ≡ Some w → (y.place_of_doomed number == w) ≡ false → owner c ≡ Some w)
      (single : (k : Loaded) → there ≡ Some k → repeats (all_claims k) ≡ false) where
    before : (i : Item) → slot_has_item i (object_at m number) ≡ false
    before i = ap (slot_has_item i) here ∙ dead-has o i gone

    after : (i : Item) → slot_has_item i slot ≡ false
    after i = dead-slot slot i dead

    at-there : (w : ℕ) → y.place_of_doomed number ≡ w → put y.at (y.place_of_doomed number) there w ≡ there
    at-there w e = subst (λ (x : ℕ). put y.at (y.place_of_doomed number) there x ≡ there) e (at-itself y.at (y.place_of_doomed number) there)

    at-else : (w : ℕ) → (y.place_of_doomed number == w) ≡ false → put y.at (y.place_of_doomed number) there w ≡ y.at w
    at-else w e = at-elsewhere y.at (y.place_of_doomed number) there w e

    by-node : (P : ℕ → Type 0) (w : ℕ) → (y.place_of_doomed number ≡ w → P w) → ((y.place_of_doomed number == w) ≡ false → P w) → P w
    by-node P w f g = ⊎_elim (λ (e : (eqb (y.place_of_doomed number) w ≡ true) × (y.place_of_doomed number ≡ w)). f e.1) (λ (e : (eqb (y.place_of_doomed number) w ≡ false) × _). g e.0) (eqb_tells (y.place_of_doomed number) w)

    mark-next : (i : Item) (x : Loaded) → HasDirtyMark m i x → HasDirtyMark (record m { objects = set m.objects number slot }) i x
    mark-next (main key) x p = subst (λ (z : Option Object). IfSome z (λ q. (x.dirty == 0) ≡ q.settled)) (sym (object-aside m number slot (main key) (before (main key)) (after (main key)))) p
    mark-next (part key n) x p = p

    parent-next : (i : Item) (x : Loaded) → HasParentAt m y i x → HasParentAt (record m { objects = set m.objects number slot }) (record y { at = put y.at (y.place_of_doomed number) there; owner = owner }) i x
    parent-next (main key) x p = p
    parent-next (part key n) x p = record { name = p.name; index = p.index; role = p.role; of_key = p.of_key; listed = p.listed; parent = p.parent; at_parent = at-else (y.place (main key)) (apart-item (main key) p.listed) ∙ p.at_parent; of = p.of }

    -- a doomed object of the new state was one
    was-dead : (k : ℕ) (x : Object) → object_at (record m { objects = set m.objects number slot }) k ≡ Some x → x.live ≡ false → IsDead m k
    was-dead k x is dies = ⊎_elim
        (λ (e : (eqb k number ≡ true) × (k ≡ number)). record { object = o; here = ap (object_at m) e.1 ∙ here; dead = gone })
        (λ (e : (eqb k number ≡ false) × (k ≢ number)). record { object = x; here = (let apart : k ≢ number = e.1 in let same : object_at (record m { objects = set m.objects number slot }) k ≡ object_at m k = rw get_or-set_other in sym same ∙ is); dead = dies })
        (eqb_tells k number)

    at-number : object_at (record m { objects = set m.objects number slot }) number ≡ slot
    at-number = let within : number < length m.objects = some_within m.objects number o here in rw get_or-set_same

    doomed-next : (k : ℕ) (x : Object) → object_at (record m { objects = set m.objects number slot }) k ≡ Some x → x.live ≡ false
        → IsDoomedAt (record m { objects = set m.objects number slot }) (record y { at = put y.at (y.place_of_doomed number) there; owner = owner }) k x
    doomed-next k x is dies = ⊎_elim
        (λ (e : (eqb k number ≡ true) × (k ≡ number)).
        let p : slot ≡ Some x = sym at-number ∙ ap (object_at (record m { objects = set m.objects number slot })) (sym e.1) ∙ is in
        let f : IsDoomedSlot there x = fits x p in
        subst (λ (z : ℕ). IsDoomedAt (record m { objects = set m.objects number slot }) (record y { at = put y.at (y.place_of_doomed number) there; owner = owner }) z x) (sym e.1) (record {
          loaded = f.loaded;
          here = at-there (y.place_of_doomed number) refl ∙ f.here;
          row = f.row;
          mark = f.mark;
          unlisted = d.unlisted;
          alone = λ n z at_n dies_n same. let w : IsDead m n = was-dead n z at_n dies_n in d.alone n w.object w.here w.dead same;
        }))
        (λ (e : (eqb k number ≡ false) × (k ≢ number)).
        let old : object_at m k ≡ Some x = let apart : k ≢ number = e.1 in let same : object_at (record m { objects = set m.objects number slot }) k ≡ object_at m k = rw get_or-set_other in sym same ∙ is in
        let q : IsDoomedAt m y k x = r.doomed_objects k x old dies in
        let apart : (y.place_of_doomed number == y.place_of_doomed k) ≡ false = ⊎_elim
        (λ (a : (eqb (y.place_of_doomed number) (y.place_of_doomed k) ≡ true) × (y.place_of_doomed number ≡ y.place_of_doomed k)). absurd (e.1 (sym (q.alone number o here gone a.1))))
        (λ (a : (eqb (y.place_of_doomed number) (y.place_of_doomed k) ≡ false) × _). a.0)
        (eqb_tells (y.place_of_doomed number) (y.place_of_doomed k)) in
        record {
          loaded = q.loaded;
          here = at-else (y.place_of_doomed k) apart ∙ q.here;
          row = q.row;
          mark = q.mark;
          unlisted = q.unlisted;
          alone = λ n z at_n dies_n same. let w : IsDead m n = was-dead n z at_n dies_n in q.alone n w.object w.here w.dead same;
        })
        (eqb_tells k number)

    pub lies-aside : IsLayoutOf (record m { objects = set m.objects number slot }) (record y { at = put y.at (y.place_of_doomed number) there; owner = owner })
    lies-aside = record {
      laid = λ i listed. let q : IsPlacedAt m y i = r.laid i listed in
          record { loaded = q.loaded; here = at-else (y.place i) (apart-item i listed) ∙ q.here; row = row-aside m number slot i (before i) (after i) ∙ q.row; mark = mark-next i q.loaded q.mark; parent = parent-next i q.loaded q.parent };
      normal = r.normal;
      chained = λ w x among is. r.chained w x among (sym (at-else w (apart-node w among)) ∙ is);
      unchained = λ b c below h. let q : IsListedRecord m y c = r.unchained b c below h in
          record { node = q.node; loaded = q.loaded; listed = q.listed; here = at-else q.node (apart-node q.node q.listed) ∙ q.here; record_is = q.record_is };
      own = λ w x c is h. by-node (λ z. z ≡ w → owner c ≡ Some w) w
          (λ e _. own x c (sym (at-there w e) ∙ is) h ∙ ap (λ (z : ℕ). Some z) e)
          (λ e _. others c w (r.own w x c (sym (at-else w e) ∙ is) h) e) refl;
      single = λ w x is. by-node (λ z. z ≡ w → repeats (all_claims x) ≡ false) w
          (λ e _. single x (sym (at-there w e) ∙ is))
          (λ e _. r.single w x (sym (at-else w e) ∙ is)) refl;
      doomed_objects = doomed-next;
    }

-- ---- what is kept while all items are listed

pub listed-rest : ListedItemsAreAtRest
listed-rest except v m y r valid once sound =
    found-but m y r.laid m.uses (λ i h. h) (λ n. is_live_and_settled (object_at m n)) (settled-is_test m y r.laid valid) except v r once
    (λ i x listed is passes. sound i listed)
    (λ i k listed broken ok. absurd (let z : true ≡ false = sym broken ∙ sound i listed in cc))
    ∙ picked-closed m y r.laid m.uses (λ i h. h) (λ n. is_live_and_settled (object_at m n)) (settled-is_test m y r.laid valid) (all-closed m y r.laid valid) ∙ sym (rest-picked m)

-- ---- what is shown

module _ (touched : Claim → Bool) (v u : View) (m : State) (y : Layout) (r : Represents v m y) (number : ℕ) (o : Object) (here : object_at m number ≡ Some o) (gone : o.live ≡ false)
    (same : SameBut touched v u) (free : IsFreeBut (y.place_of_doomed number) touched y) where
  lies : IsLayoutOf m y
  lies = r.holds.lies

  shows : Shows v.store y
  shows = r.holds.shows

  clear-other : (w : ℕ) (x : Loaded) → (y.place_of_doomed number == w) ≡ false → y.at w ≡ Some x → AreClear touched x
  clear-other w x apart is = all-clear touched x (λ c h. free c w (lies.own w x c is h) apart)

  still-loads : (w : ℕ) (x : Loaded) → (y.place_of_doomed number == w) ≡ false → y.at w ≡ Some x → load u.store (rule_of y w) w ≡ Ok x
  still-loads w x apart is = load-outside touched v.store u.store same.store (rule_of y w) w x refl (shows.each w x is) (clear-other w x apart is)

  clear-node : (w : ℕ) → is_among (order m y) w ≡ true → IsClear touched w
  clear-node w among =
      let n : IsNodeOf y m.uses w = node-of y m.uses w among in
      let q : IsPlacedAt m y n.item = lies.laid n.item n.among in
      let a : AreClear touched q.loaded = clear-other (y.place n.item) q.loaded (apart-item m y lies number o here gone n.item n.among) q.here in
      subst (IsClear touched) (node-is v.store (rule_of y (y.place n.item)) (y.place n.item) q.loaded (shows.each (y.place n.item) q.loaded q.here) ∙ n.is) a.node

  still-chained : (b : ℕ) → b < 65536 → IsChain u.store b (y.chains b)
  still-chained b below = let c : IsChain v.store b (y.chains b) = shows.chains b below in record {
    linked = subst (λ (x : ℕ). Linked u.store b x (y.chains b)) (same.table b) (linked-same touched v.store u.store same.store b (v.store.table b) (y.chains b)
        (λ w h. let q : IsListedRecord m y w = lies.unchained b w below h in subst (IsClear touched) q.record_is (clear-other q.node q.loaded (apart-node m y lies number o here gone q.node q.listed) q.here).contents) c.linked);
    once = c.once;
  }

  still-listed : IsList u.list (order m y)
  still-listed = list-outside touched v.list u.list (order m y) same.links clear-node r.list

  nothing : u.store.entry 0 ≡ None
  nothing = sym (same.store.entry 0 (clear-zero touched)) ∙ shows.no_record

  idle : u.list.transaction ≡ 0
  idle = sym same.links.transaction ∙ r.idle

  -- what is kept meanwhile
  pub aside-rest : IsValidState m → map row_of_loaded (kept_among u.store held_rule (walk (completed_list u.list))) ≡ model.rest m
  aside-rest valid = ap (λ (ws : List ℕ). map row_of_loaded (kept_among u.store held_rule ws)) (walk-idle u.list idle ∙ walk_list u.list (order m y) still-listed) ∙
      listed-rest (λ w. y.place_of_doomed number == w) u.store m y but valid r.list.distinct (λ i listed. apart-item m y lies number o here gone i listed) where
        but : HoldsExcept (λ w. y.place_of_doomed number == w) u.store m y
        but = record {
          no_record = nothing;
          each = λ w x is apart. still-loads w x apart is;
          chains = still-chained;
          laid = lies.laid;
          normal = lies.normal;
          chained = λ w x there is _. lies.chained w x there is;
          own = lies.own;
          single = lies.single;
        }

  module _ (slot : Option Object) (there : Option Loaded) (owner : Claim → Option ℕ) (loads : (k : Loaded) → there ≡ Some k → load u.store (rule_of y (y.place_of_doomed number)) (y.place_of_doomed number) ≡ Ok k)
      (next : IsLayoutOf (record m { objects = set m.objects number slot }) (record y { at = put y.at (y.place_of_doomed number) there; owner = owner })) where
    each : (w : ℕ) (x : Loaded) → put y.at (y.place_of_doomed number) there w ≡ Some x → load u.store (rule_of y w) w ≡ Ok x
    each w x is = ⊎_elim
        (λ (e : (eqb (y.place_of_doomed number) w ≡ true) × (y.place_of_doomed number ≡ w)).
        let p : there ≡ Some x = sym (at-itself y.at (y.place_of_doomed number) there) ∙ ap (put y.at (y.place_of_doomed number) there) e.1 ∙ is in
        subst (λ (z : ℕ). load u.store (rule_of y z) z ≡ Ok x) e.1 (loads x p))
        (λ (e : (eqb (y.place_of_doomed number) w ≡ false) × _). still-loads w x e.0 (sym (at-elsewhere y.at (y.place_of_doomed number) there w e.0) ∙ is))
        (eqb_tells (y.place_of_doomed number) w)

    pub represents-aside : Represents u (record m { objects = set m.objects number slot }) (record y { at = put y.at (y.place_of_doomed number) there; owner = owner })
    represents-aside = record { holds = record { shows = record { no_record = nothing; each = each; chains = still-chained }; lies = next }; list = still-listed; idle = idle }
