-- The dirty flag of a main item's node makes its object clean or dirty.
use Rattle.std.proofs.Common.{◌≡◌, ℕ, ◌<◌, List, [], ◌∷◌, refl, ap, sym, ◌∙◌, subst, Bool, true, false, arith, set, get_or, get_or-set_same, get_or-set_other, ◌≢◌, Option, Some, None, Ok, ⊎_elim}
use Rattle.std.specs.Prelude.{not, ◌==◌, length}
use Rattle.std.specs.Option.{option_and_then, option_map}
use Rattle.std.specs.Str.{bytes_eq}
use Rattle.std.proofs.lemmas.Bool.{and_parts, and_from, or_left}
use Rattle.std.proofs.lemmas.Bool.Decides.{eqb_tells}
use Rattle.std.proofs.Math.Dec.{eqb}
use Rattle.spec_folder.specs.ListView.{put}
use Rattle.blk_model.specs.Items.{Item, main, part}
use Rattle.blk_model.specs.State.{State, Object, IsValidState, object_at, has_item, slot_has_item}
use Rattle.blk_model.proofs.Same.{bytes_eq_self}
use Rattle.blk_model.proofs.Each.{some_within}
use Rattle.blk_model.proofs.Slots.{first_with_found}
use Rattle.blk_model.proofs.States.{main_owner}
use Rattle.spec_format.specs.BlockFiles.{is_among}
use Rattle.spec_format.specs.Claims.{Claim}
use Rattle.spec_folder.specs.View.{StoreView, NodeFields}
use Rattle.spec_folder.specs.Chains.{chain, bucket_of_hash, Linked, IsChain}
use Rattle.spec_folder.specs.Loads.{Rule, Loaded, load, all_claims, record_claims}
use Rattle.spec_folder.specs.Entries.{stored_key, stored_stream, stored_streams}
use Rattle.spec_folder.specs.Found.{row_of_loaded}
use Rattle.spec_folder.specs.Layout.{Layout, is_listed, rule_of, IsPlacedAt, Shows, IsLayoutOf, OneChanged, changed_at, IsChange}
use Rattle.law_folder.proofs.walks.Loads.{load-then}
use Rattle.law_folder.proofs.walks.Loading.{load-from}
use Rattle.law_folder.proofs.claims.Owner.{IsOwned, owned}
use Rattle.law_folder.proofs.commands.Opening.{listed-times}
use Rattle.law_folder.proofs.states.Changing.{lies-changed, first_with-set, at-itself, at-elsewhere}
use Rattle.blk_model.specs.Holding as model

-- ---- the state

module _ (m : State) (valid : IsValidState m) (number : ℕ) (o : Object) (b : Bool) (here : object_at m number ≡ Some o) (live : o.live ≡ true) where
  other : Object
  other = record o { settled = b }

  slots : List (Option Object)
  slots = set m.objects number (Some (record o { settled = b }))

  same-has : (i : Item) → slot_has_item i (Some (record o { settled = b })) ≡ slot_has_item i (get_or m.objects number None)
  same-has i = rw here (one i) where
    one : (i : Item) → has_item (record o { settled = b }) i ≡ has_item o i
    one (main key) = refl
    one (part key n) = refl

  pub owner-same : (i : Item) → model.owner (record m { objects = set m.objects number (Some (record o { settled = b })) }) i ≡ model.owner m i
  owner-same i = first_with-set i 0 m.objects number (Some (record o { settled = b })) (same-has i)

  at-number : object_at (record m { objects = set m.objects number (Some (record o { settled = b })) }) number ≡ Some (record o { settled = b })
  at-number = let within : number < length m.objects = some_within m.objects number o here in rw get_or-set_same

  at-other : (k : ℕ) → (eqb k number ≡ false) × (k ≢ number) → object_at (record m { objects = set m.objects number (Some (record o { settled = b })) }) k ≡ object_at m k
  at-other k e = let apart : k ≢ number = e.1 in rw get_or-set_other

  pub rows-same : (i : Item) → model.row_of (record m { objects = set m.objects number (Some (record o { settled = b })) }) i ≡ model.row_of m i
  unfolding model.row_of
  rows-same i = ap (λ (w : Option ℕ). option_and_then (λ object. model.row_in object i) (option_and_then (object_at (record m { objects = set m.objects number (Some (record o { settled = b })) })) w)) (owner-same i) ∙ go (model.owner m i) where
    one : (i : Item) → model.row_in (record o { settled = b }) i ≡ model.row_in o i
    one (main key) = refl
    one (part key n) = refl

    go : (w : Option ℕ) → option_and_then (λ object. model.row_in object i) (option_and_then (object_at (record m { objects = set m.objects number (Some (record o { settled = b })) })) w) ≡ option_and_then (λ object. model.row_in object i) (option_and_then (object_at m) w)
    go None = refl
    go (Some k) = ⊎_elim
        (λ (e : (eqb k number ≡ true) × (k ≡ number)). rw (e.1, at-number, here) (one i))
        (λ (e : (eqb k number ≡ false) × (k ≢ number)). rw (at-other k e) refl)
        (eqb_tells k number)

  pub settle-one : OneChanged m (set m.objects number (Some (record o { settled = b }))) (main o.key)
  settle-one = record {
    rows = λ j e. rows-same j;
    settled = λ key e. ap (option_map (λ (z : Object). z.settled))
        (ap (option_and_then (object_at (record m { objects = set m.objects number (Some (record o { settled = b })) }))) (owner-same (main key)) ∙ objects key e (model.owner m (main key)) refl);
    doomed_same = λ k x is dead. ⊎_elim
        (λ (e : (eqb k number ≡ true) × (k ≡ number)).
        let a : object_at (record m { objects = set m.objects number (Some (record o { settled = b })) }) number ≡ Some x = subst (λ (z : ℕ). object_at (record m { objects = set m.objects number (Some (record o { settled = b })) }) z ≡ Some x) e.1 is in
        let s : ◌≡◌ {A = Option Object} (Some (record o { settled = b })) (Some x) = sym at-number ∙ a in
        let t : (let z : Object = record o { settled = b } in z) ≡ x = cc in
        let d : o.live ≡ false = ap (λ (z : Object). z.live) t ∙ dead in
        absurd (let c : true ≡ false = sym live ∙ d in cc))
        (λ (e : (eqb k number ≡ false) × (k ≢ number)). sym (at-other k e) ∙ is)
        (eqb_tells k number);
  } where
    objects : (key : List ℕ) → bytes_eq key o.key ≡ false → (w : Option ℕ) → model.owner m (main key) ≡ w
        → option_and_then (object_at (record m { objects = set m.objects number (Some (record o { settled = b })) })) w ≡ option_and_then (object_at m) w
    objects key e None is = refl
    objects key e (Some k) is = ⊎_elim
        (λ (x : (eqb k number ≡ true) × (k ≡ number)).
        let p : IsOwned m (main key) k = owned m (main key) k is in
        let same : p.object ≡ o = let q : object_at m k ≡ Some p.object = p.here in let s : object_at m k ≡ object_at m number = ap (object_at m) x.1 in let t : object_at m number ≡ Some o = here in cc in
        let q : bytes_eq key o.key ≡ true = ap (λ (z : Object). bytes_eq key z.key) (sym same) ∙ (and_parts p.object.live (bytes_eq key p.object.key) p.has).1 in
        absurd (let c : true ≡ false = sym q ∙ e in cc))
        (λ (x : (eqb k number ≡ false) × (k ≢ number)). at-other k x)
        (eqb_tells k number)

  -- its main item is listed, and owned by it
  pub main-listed : is_listed m (main o.key) ≡ true
  main-listed = let one = main_owner m valid number o here live in let all = valid.listed (main o.key) in listed-times (main o.key) m.uses (omega arith)

  pub main-owned : model.owner m (main o.key) ≡ Some number
  main-owned = let few = valid.once (main o.key) in let all = valid.listed (main o.key) in
      first_with_found (main o.key) 0 number m.objects (ap (slot_has_item (main o.key)) here ∙ and_from o.live (bytes_eq o.key o.key) live (bytes_eq_self o.key)) (omega arith) ∙ ap Some (omega arith)

  -- the layout with the other dirty flag
  module _ (y : Layout) (r : IsLayoutOf m y) (l : Loaded) (at : y.at (y.place (main o.key)) ≡ Some l) (d : ℕ) (mark : (d == 0) ≡ b) where
    pub settle-change : IsChange m (set m.objects number (Some (record o { settled = b }))) y (main o.key) l (record l { dirty = d }) y.owner
    unfolding all_claims record_claims
    settle-change = record {
      key = refl;
      contents = refl;
      row = rows-same (main o.key) ∙ laid-row;
      mark = rw owned-after mark;
      parent = tt;
      of = λ name h. h;
      own = λ c h. r.own (y.place (main o.key)) l c at h;
      others = λ c w e _. e;
      single = r.single (y.place (main o.key)) l at;
    } where
      owned-after : model.owner_object (record m { objects = set m.objects number (Some (record o { settled = b })) }) (main o.key) ≡ Some (record o { settled = b })
      owned-after = rw (owner-same (main o.key), main-owned) at-number

      laid-row : model.row_of m (main o.key) ≡ Some (row_of_loaded l)
      laid-row =
          let q : IsPlacedAt m y (main o.key) = r.laid (main o.key) main-listed in
          let s : q.loaded ≡ l = let z : y.at (y.place (main o.key)) ≡ Some q.loaded = q.here in let t : y.at (y.place (main o.key)) ≡ Some l = at in cc in
          q.row ∙ ap (λ (z : Loaded). Some (row_of_loaded z)) s

    pub settle-lies : IsLayoutOf (record m { objects = set m.objects number (Some (record o { settled = b })) }) (changed_at y (y.place (main o.key)) (record l { dirty = d }) y.owner)
    settle-lies = lies-changed m (set m.objects number (Some (record o { settled = b }))) y (main o.key) l (record l { dirty = d }) y.owner r settle-one main-listed at settle-change

-- ---- what is shown

-- a node with another dirty flag loads so
pub load-named : (v : StoreView) (f : ℕ → Option NodeFields) (rule : Rule) (w d : ℕ) (l : Loaded) → rule.clean ≡ false → rule.chained ≡ false → ((n : NodeFields) → v.node_fields w ≡ Some n → n.dirty ≡ l.dirty → f w ≡ Some (record n { dirty = d }))
    → load v rule w ≡ Ok l → load (record v { node_fields = f }) rule w ≡ Ok (record l { dirty = d })
unfolding stored_key stored_streams stored_stream
load-named v f rule w d l any free is ok = load-then v rule w l ok (λ n e g.
    let r = g.facts in let k = r.keyed in
    load-from (record v { node_fields = f }) rule w (record l { dirty = d }) (record n { dirty = d }) e (record {
      node = is n g.node (sym r.dirty_is);
      entry = g.entry;
      checks = g.checks;
      facts = record {
        keyed = record {
          state = k.state;
          back = k.back;
          flags = k.flags;
          clean = or_left (not rule.clean) (d == 0) (ap not any);
          key_length = k.key_length;
          key = k.key;
          hashed = k.hashed;
          chained = or_left (not rule.chained) (is_among (chain (record v { node_fields = f }) (bucket_of_hash e.hash)).reached n.contents) (ap not free);
        };
        streams = r.streams;
        role = r.role;
        node_is = r.node_is;
        contents_is = r.contents_is;
        dirty_is = refl;
        others_are = r.others_are;
      };
    }))

linked-named : (v : StoreView) (f : ℕ → Option NodeFields) (b w : ℕ) (cs : List ℕ) → Linked v b w cs → Linked (record v { node_fields = f }) b w cs
linked-named v f b w [] h = h
linked-named v f b w (c ∷ cs) h = (h.0, h.1, linked-named v f b (v.chain_next c) cs h.2)

-- a store view with another dirty flag at a node
pub shows-dirty : (v : StoreView) (y : Layout) (r : Shows v y) (w0 d : ℕ) (l : Loaded) (n : NodeFields) (owner : Claim → Option ℕ) → y.at w0 ≡ Some l → v.node_fields w0 ≡ Some n
    → Shows (record v { node_fields = put v.node_fields w0 (Some (record n { dirty = d })) }) (changed_at y w0 (record l { dirty = d }) owner)
shows-dirty v y r w0 d l n owner at node_fields = record {
  no_record = r.no_record;
  each = λ w x is. each w x is;
  chains = λ b below. let c : IsChain v b (y.chains b) = r.chains b below in record { linked = linked-named v (put v.node_fields w0 (Some (record n { dirty = d }))) b (v.table b) (y.chains b) c.linked; once = c.once };
} where
  f : ℕ → Option NodeFields
  f = put v.node_fields w0 (Some (record n { dirty = d }))

  each : (w : ℕ) (x : Loaded) → put y.at w0 (Some (record l { dirty = d })) w ≡ Some x → load (record v { node_fields = put v.node_fields w0 (Some (record n { dirty = d })) }) (rule_of y w) w ≡ Ok x
  each w x is = ⊎_elim
      (λ (e : (eqb w0 w ≡ true) × (w0 ≡ w)).
      let a : put y.at w0 (Some (record l { dirty = d })) w0 ≡ Some x = ap (put y.at w0 (Some (record l { dirty = d }))) e.1 ∙ is in
      let b : ◌≡◌ {A = Option Loaded} (Some (record l { dirty = d })) (Some x) = sym (at-itself y.at w0 (Some (record l { dirty = d }))) ∙ a in
      let s : (let z : Loaded = record l { dirty = d } in z) ≡ x = cc in
      subst (λ (z : ℕ). load (record v { node_fields = put v.node_fields w0 (Some (record n { dirty = d })) }) (rule_of y z) z ≡ Ok x) e.1
      (load-named v (put v.node_fields w0 (Some (record n { dirty = d }))) (rule_of y w0) w0 d l refl refl (λ k k_is _.
      let t : n ≡ k = let p : v.node_fields w0 ≡ Some n = node_fields in let q : v.node_fields w0 ≡ Some k = k_is in cc in
      at-itself v.node_fields w0 (Some (record n { dirty = d })) ∙ ap (λ (z : NodeFields). Some (record z { dirty = d })) t) (r.each w0 l at) ∙ ap Ok s))
      (λ (e : (eqb w0 w ≡ false) × _).
      load-named v (put v.node_fields w0 (Some (record n { dirty = d }))) (rule_of y w) w x.dirty x refl refl (λ k k_is dirty.
      at-elsewhere v.node_fields w0 (Some (record n { dirty = d })) w e.0 ∙ k_is ∙ ap (λ (z : ℕ). Some (record k { dirty = z })) dirty)
      (r.each w x (sym (at-elsewhere y.at w0 (Some (record l { dirty = d })) w e.0) ∙ is)))
      (eqb_tells w0 w)
