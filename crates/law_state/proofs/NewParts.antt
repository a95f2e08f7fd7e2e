-- A part that is made: what is shown at each word, and in the end.
use Rattle.std.proofs.Common.{◌≡◌, ℕ, ◌<◌, List, [], ◌∷◌, map, take, refl, ap, sym, ◌∙◌, subst, Bool, true, false, Option, Some, None, Ok, ⊎_elim, ◌⊎◌, inl, inr}
use Rattle.std.specs.Prelude.{not, ◌&&◌, ◌||◌, ◌==◌, if◌then◌else◌, nat_lt}
use Rattle.std.specs.Str.{bytes_eq}
use Rattle.std.proofs.lemmas.Bool.{cases_Bool, eq-eqb, eqb-true, or_left, or_right}
use Rattle.std.proofs.lemmas.Bool.Decides.{eqb_tells}
use Rattle.std.proofs.Math.Dec.{eqb}
use Rattle.blk_model.specs.Holding as model
use Rattle.blk_model.specs.Items.{Item, Row, main, main_row, part, same_item, key_of, sparse}
use Rattle.blk_model.specs.State.{State, Object}
use Rattle.blk_model.proofs.Same.{same_item_self}
use Rattle.spec_format.specs.BlockFiles.{is_among}
use Rattle.spec_format.specs.Claims.{Claim, has_claim, repeats}
use Rattle.spec_format.specs.Hash.{hash}
use Rattle.spec_format.specs.Names.{Name, read_name}
use Rattle.spec_format.specs.Records.{entry_normal}
use Rattle.spec_format.specs.SparseIndex.{ParentIndex}
use Rattle.spec_folder.specs.Audit.{is_parent_role, kept_among}
use Rattle.spec_folder.specs.Chains.{chain, bucket_of_hash, is_of_bucket, Linked, IsChain}
use Rattle.spec_folder.specs.Completion.{completed_list}
use Rattle.spec_folder.specs.Creation.{linked_front, with_first}
use Rattle.spec_folder.specs.Entries.{Role, stored_key, stored_streams, stored_stream}
use Rattle.spec_folder.specs.Footprint.{SameStore}
use Rattle.spec_folder.specs.Found.{row_of_loaded, row_with}
use Rattle.spec_folder.specs.Layout.{HasDirtyMark, HoldsExcept, IsInProgress, IsLayoutOf, IsPartAt, IsPlacedAt, Layout, Represents, is_listed, order, rule_of}
use Rattle.spec_folder.specs.ListPlans.{writes_of}
use Rattle.spec_folder.specs.ListView.{put, Distinct, IsList, after_writes}
use Rattle.spec_folder.specs.Loads.{Rule, held_rule, unchained_rule, Loaded, all_claims, load, is_part, is_part_role, record_claims}
use Rattle.spec_folder.specs.ShownChanges.{ShowsTheSame}
use Rattle.spec_folder.specs.View.{NodeFields, StoreView, View}
use Rattle.spec_folder.specs.Walk.{walk}
use Rattle.law_folder.proofs.chains.ChainLinks.{linked-front}
use Rattle.law_folder.proofs.claims.Outside.{clear-zero, all-clear, load-outside, linked-same}
use Rattle.law_folder.proofs.commands.Creating.{linked-table}
use Rattle.law_folder.proofs.commands.NewItems.{item-lies, order-after, node-after, listed-still, place-new}
use Rattle.law_folder.proofs.commands.Touches.{shows-same}
use Rattle.law_folder.proofs.lists.ListCompletions.{insert_turns, insert_ends}
use Rattle.law_folder.proofs.states.Central.{rest-found}
use Rattle.law_folder.proofs.states.Changing.{at-itself, at-elsewhere, same-place, lies-changed}
use Rattle.law_folder.proofs.states.Laid.{IsNodeOf, node-of}
use Rattle.law_folder.proofs.states.Midst.{midst-rest}
use Rattle.law_folder.proofs.states.OthersHold.{laid-chained}
use Rattle.law_folder.proofs.walks.Loading.{load-from, load-one, load-clean}
use Rattle.law_folder.proofs.walks.Loads.{load-then}
use Rattle.law_folder.proofs.walks.Shown.{role-name}
use Rattle.law_state.specs.NewPartLaws.{with_bit, with_bit_of, with_new_part, IsPartWritten, is_part_or_parent, IsMidPart, NewPartsHoldTheOthers, NewPartsAreAtRest, NewPartsAtEachWrite, NewPartsEnd, NewPartsAreLinked, NotedParentsAreChanges, IsOfParent, ParentsDataMayChange}

-- a record loads by itself whatever the table says
pub load-table : (v : StoreView) (t : ℕ → ℕ) (rule : Rule) (w : ℕ) (l : Loaded) → rule.chained ≡ false → load v rule w ≡ Ok l → load (record v { table = t }) rule w ≡ Ok l
unfolding stored_key stored_streams stored_stream
load-table v t rule w l free ok = load-then v rule w l ok (λ n e g.
    let r = g.facts in let k = r.keyed in
    load-from (record v { table = t }) rule w l n e (record {
      node = g.node;
      entry = g.entry;
      checks = g.checks;
      facts = record {
        keyed = record {
          state = k.state;
          back = k.back;
          flags = k.flags;
          clean = k.clean;
          key_length = k.key_length;
          key = k.key;
          hashed = k.hashed;
          chained = or_left (not rule.chained) (is_among (chain (record v { table = t }) (bucket_of_hash e.hash)).reached n.contents) (ap not free);
        };
        streams = r.streams;
        role = r.role;
        node_is = r.node_is;
        contents_is = r.contents_is;
        dirty_is = r.dirty_is;
        others_are = r.others_are;
      };
    }))

or-false : (a b : Bool) → (a || b) ≡ false → (a ≡ false) × (b ≡ false)
or-false true b e = cc
or-false false b e = (refl, e)

or-true : (a b : Bool) → (a || b) ≡ true → (a ≡ true) ⊎ (b ≡ true)
or-true true b e = inl refl
or-true false b e = inr e

module _ (v : View) (m : State) (objects : List (Option Object)) (y : Layout) (key : List ℕ) (n : ℕ) (was seen l : Loaded) (made : IsPartWritten v m objects y key n was seen l) where
  P : ℕ
  P = y.place (main key)

  -- with the bit the layout is one of the state
  lies-bit : IsLayoutOf m (with_bit y key seen)
  lies-bit = lies-changed m m.objects y (main key) was seen y.owner made.represents.holds.lies (record { rows = λ other e. refl; settled = λ k e. refl; doomed_same = λ number o is dead. is }) made.listed made.at_parent made.noted

  -- and with the part one of the state with the part
  pub lies-part : IsLayoutOf (with_first m objects (part key n)) (with_new_part y key n seen l)
  lies-part = item-lies m objects (with_bit y key seen) (part key n) l lies-bit made.changed made.new

  -- nodes apart
  pub bit-at : put y.at (y.place (main key)) (Some seen) (y.place (main key)) ≡ Some seen
  bit-at = at-itself y.at (y.place (main key)) (Some seen)

  pub apart : (l.node == y.place (main key)) ≡ false
  apart = ⊎_elim
      (λ (e : (eqb l.node (y.place (main key)) ≡ true) × (l.node ≡ y.place (main key))).
      absurd (let c : ◌≡◌ {A = Option Loaded} (Some seen) None = sym bit-at ∙ ap (put y.at (y.place (main key)) (Some seen)) (sym e.1) ∙ made.new.nobody in cc))
      (λ (e : (eqb l.node (y.place (main key)) ≡ false) × _). e.0)
      (eqb_tells l.node (y.place (main key)))

  -- what lies elsewhere
  at-other : (w : ℕ) (x : Loaded) → is_part_or_parent y key l w ≡ false → (with_new_part y key n seen l).at w ≡ Some x → y.at w ≡ Some x
  at-other w x out is =
      let both = or-false (l.node == w) (y.place (main key) == w) out in
      sym (at-elsewhere y.at (y.place (main key)) (Some seen) w both.1) ∙ sym (at-elsewhere (put y.at (y.place (main key)) (Some seen)) l.node (Some l) w both.0) ∙ is

  rule-other : (w : ℕ) → (l.node == w) ≡ false → rule_of (with_new_part y key n seen l) w ≡ rule_of y w
  rule-other w e = ap (λ (z : ℕ). let q : Rule = record { state = z; clean = false; chained = false } in q) (at-elsewhere y.state l.node 0 w e)

  pub order-is : order (with_first m objects (part key n)) (with_new_part y key n seen l) ≡ l.node ∷ order m y
  order-is = order-after m objects (with_bit y key seen) (part key n) l lies-bit made.changed made.new

  node-was : (w : ℕ) → is_among (order (with_first m objects (part key n)) (with_new_part y key n seen l)) w ≡ true → (w ≡ l.node) ⊎ (is_among (order m y) w ≡ true)
  node-was w h = node-after m objects (with_bit y key seen) (part key n) l lies-bit made.changed made.new w h

  pub lacks : is_among (order m y) l.node ≡ false
  lacks = ⊎_elim
      (λ (e : is_among (order m y) l.node ≡ true).
      let k : IsNodeOf y m.uses l.node = node-of y m.uses l.node e in let q : IsPlacedAt m (with_bit y key seen) k.item = lies-bit.laid k.item k.among in
      let a : (with_bit y key seen).at l.node ≡ Some q.loaded = ap (with_bit y key seen).at (sym k.is) ∙ q.here in
      absurd (let z : ◌≡◌ {A = Option Loaded} (Some q.loaded) None = sym a ∙ made.new.nobody in cc))
      (λ (e : is_among (order m y) l.node ≡ false). e)
      (cases_Bool (is_among (order m y) l.node))

  once : Distinct (order (with_first m objects (part key n)) (with_new_part y key n seen l))
  once = subst Distinct (sym order-is) (lacks, made.represents.list.distinct)

  module _ (s : StoreView) (chains : ℕ → List ℕ) (under : IsMidPart s y key l chains) where
    pub holds-others : HoldsExcept (is_part_or_parent y key l) s (with_first m objects (part key n)) (record (with_new_part y key n seen l) { chains = chains })
    holds-others = record {
      no_record = under.no_record;
      each = λ w x is out. ap (λ (q : Rule). load s q w) (rule-other w (or-false (l.node == w) (y.place (main key) == w) out).0) ∙ under.others w x (at-other w x out is) out;
      chains = under.whole;
      laid = λ i h. laid-chained (with_first m objects (part key n)) (with_new_part y key n seen l) chains i (lies-part.laid i h);
      normal = lies-part.normal;
      chained = λ w x there is out. ⊎_elim
          (λ (e : w ≡ l.node). absurd (let a : (l.node == w) ≡ true = eq-eqb l.node w (sym e) in let b : (l.node == w) ≡ false = (or-false (l.node == w) (y.place (main key) == w) out).0 in let c : true ≡ false = sym a ∙ b in cc))
          (λ (old : is_among (order m y) w ≡ true). under.chained (bucket_of_hash (hash x.key)) x.contents (made.represents.holds.lies.chained w x old (at-other w x out is)))
          (node-was w there);
      own = lies-part.own;
      single = lies-part.single;
    }

    -- the items in the midst
    listed-part : is_listed (with_first m objects (part key n)) (part key n) ≡ true
    listed-part = or_left (same_item (part key n) (part key n)) (is_listed m (part key n)) (same_item_self (part key n))

    listed-main : is_listed (with_first m objects (part key n)) (main key) ≡ true
    listed-main = listed-still m objects (with_bit y key seen) (part key n) l lies-bit made.changed made.new (main key) made.listed

    place-part : (with_new_part y key n seen l).place (part key n) ≡ l.node
    place-part = place-new m objects (with_bit y key seen) (part key n) l lies-bit made.changed made.new

    which : (i : Item) → is_listed (with_first m objects (part key n)) i ≡ true → is_part_or_parent y key l ((with_new_part y key n seen l).place i) ≡ true → (i ≡ part key n) ⊎ (i ≡ main key)
    which i there h = ⊎_elim
        (λ (e : (l.node == (with_new_part y key n seen l).place i) ≡ true). inl (same-place (with_first m objects (part key n)) (with_new_part y key n seen l) lies-part i (part key n) there listed-part (sym (eqb-true l.node ((with_new_part y key n seen l).place i) e) ∙ sym place-part)))
        (λ (e : (y.place (main key) == (with_new_part y key n seen l).place i) ≡ true). inr (same-place (with_first m objects (part key n)) (with_new_part y key n seen l) lies-part i (main key) there listed-main (sym (eqb-true (y.place (main key)) ((with_new_part y key n seen l).place i) e))))
        (or-true (l.node == (with_new_part y key n seen l).place i) (y.place (main key) == (with_new_part y key n seen l).place i) h)

    -- a part in the midst is the new one
    is-new : (k : ℕ) → is_listed (with_first m objects (part key n)) (part key k) ≡ true → is_part_or_parent y key l ((with_new_part y key n seen l).place (part key k)) ≡ true → (with_new_part y key n seen l).place (part key k) ≡ l.node
    is-new k there h = ⊎_elim
        (λ (e : part key k ≡ part key n). ap (with_new_part y key n seen l).place e ∙ place-part)
        (λ (e : part key k ≡ main key). absurd (let c : true ≡ false = ap is_part_item e in cc))
        (which (part key k) there h) where
          is_part_item : Item → Bool
          is_part_item (main k) = false
          is_part_item (part k n) = true

    at-part : (with_new_part y key n seen l).at l.node ≡ Some l
    at-part = at-itself (put y.at (y.place (main key)) (Some seen)) l.node (Some l)

    loaded-is : (x : Loaded) (w : ℕ) → w ≡ l.node → (with_new_part y key n seen l).at w ≡ Some x → l ≡ x
    loaded-is x w e is = let c : ◌≡◌ {A = Option Loaded} (Some l) (Some x) = sym at-part ∙ ap (with_new_part y key n seen l).at (sym e) ∙ is in cc

    parent-of : IsPartAt m (with_bit y key seen) key l
    parent-of = made.new.parent

    midst : IsInProgress (is_part_or_parent y key l) s (with_first m objects (part key n)) (record (with_new_part y key n seen l) { chains = chains }) key
    midst = record {
      of_key = λ i there h. ⊎_elim (λ (e : i ≡ part key n). ap key_of e) (λ (e : i ≡ main key). ap key_of e) (which i there h);
      unsettled = λ x is.
          let c : ◌≡◌ {A = Option Loaded} (Some seen) (Some x) = sym bit-at ∙ sym (at-elsewhere (put y.at (y.place (main key)) (Some seen)) l.node (Some l) (y.place (main key)) apart) ∙ is in
          let same : seen ≡ x = cc in
          ap (λ (q : Loaded). q.dirty == 0) (sym same) ∙ ap (λ (d : ℕ). d == 0) made.same_dirty ∙ made.unsettled;
      dirty = λ x ok. load-then s held_rule (y.place (main key)) x ok (λ q e f.
          let a : (x.dirty == 0) ≡ true = load-clean s held_rule (y.place (main key)) x ok in
          let b : (x.dirty == 0) ≡ false = ap (λ (d : ℕ). d == 0) f.facts.dirty_is ∙ under.dirty q f.node in
          let c : true ≡ false = sym a ∙ b in cc);
      parts = λ k old now there h is ok.
          let here = is-new k there h in
          let same : l ≡ now = load-one s (unchained_rule entry_normal) held_rule l.node l now under.part_loads (subst (λ (w : ℕ). load s held_rule w ≡ Ok now) here ok) in
          let same_old : l ≡ old = loaded-is old ((with_new_part y key n seen l).place (part key k)) here is in
          (ap is_part (sym same) ∙ ap is_part_role parent-of.role, ap (λ (q : Loaded). q.key) (sym same) ∙ ap (λ (q : Loaded). q.key) same_old);
      names = λ k old name there h is read.
          let here = is-new k there h in
          let same_old : l ≡ old = loaded-is old ((with_new_part y key n seen l).place (part key k)) here is in
          let said : read_name l.key ≡ Some parent-of.name = load-then s (unchained_rule entry_normal) l.node l under.part_loads (λ q e f. role-name e l.key l.streams parent-of.name parent-of.index (f.facts.role ∙ ap Some parent-of.role)) in
          let c : ◌≡◌ {A = Option Name} (Some name) (Some parent-of.name) = sym read ∙ ap (λ (q : Loaded). read_name q.key) (sym same_old) ∙ said in
          let same : name ≡ parent-of.name = cc in
          ap (λ (q : Name). q.key) same ∙ parent-of.of_key;
    }

    pub at-rest : map row_of_loaded (kept_among s held_rule (order (with_first m objects (part key n)) (with_new_part y key n seen l))) ≡ model.rest (with_first m objects (part key n))
    at-rest = midst-rest (is_part_or_parent y key l) s (with_first m objects (part key n)) (record (with_new_part y key n seen l) { chains = chains }) holds-others made.valid_after key midst once

  -- before anything but the part's own places is written
  dirty-parent : (node_fields : NodeFields) → v.store.node_fields (y.place (main key)) ≡ Some node_fields → (node_fields.dirty == 0) ≡ false
  dirty-parent node_fields is = load-then v.store (rule_of y (y.place (main key))) (y.place (main key)) was (made.represents.holds.shows.each (y.place (main key)) was made.at_parent) (λ q e f.
      let c : ◌≡◌ {A = Option NodeFields} (Some node_fields) (Some q) = sym is ∙ f.node in
      let same : node_fields ≡ q = cc in
      ap (λ (z : NodeFields). z.dirty == 0) same ∙ ap (λ (d : ℕ). d == 0) (sym f.facts.dirty_is) ∙ made.unsettled)

  pub written : IsMidPart v.store y key l y.chains
  written = record {
    no_record = made.represents.holds.shows.no_record;
    others = λ w x is out. made.represents.holds.shows.each w x is;
    part_loads = made.loads;
    dirty = dirty-parent;
    whole = made.represents.holds.shows.chains;
    chained = λ b c h. h;
  }

  -- its bucket
  b : ℕ
  b = bucket_of_hash (hash l.key)

  t : ℕ → ℕ
  t = put v.store.table (bucket_of_hash (hash l.key)) l.contents

  of_bucket : is_of_bucket v.store (bucket_of_hash (hash l.key)) l.contents ≡ true
  of_bucket = load-then v.store (unchained_rule entry_normal) l.node l made.loads (λ q e f.
      let entry : v.store.entry l.contents ≡ Some e = ap v.store.entry f.facts.contents_is ∙ f.entry in
      let h : e.hash ≡ hash l.key = eqb-true e.hash (hash l.key) f.facts.keyed.hashed in
      rw (entry, f.checks, h, eq-eqb (bucket_of_hash (hash l.key)) (bucket_of_hash (hash l.key)) refl) refl)

  front-chain : bucket_of_hash (hash l.key) < 65536 → IsChain (linked_front v.store l) (bucket_of_hash (hash l.key)) (l.contents ∷ y.chains (bucket_of_hash (hash l.key)))
  front-chain below = linked-front v.store (bucket_of_hash (hash l.key)) l.contents (y.chains (bucket_of_hash (hash l.key))) (made.represents.holds.shows.chains (bucket_of_hash (hash l.key)) below) of_bucket made.prefix.follows made.prefix.fresh

  chains-after : (k : ℕ) → k < 65536 → IsChain (linked_front v.store l) k (put y.chains (bucket_of_hash (hash l.key)) (l.contents ∷ y.chains (bucket_of_hash (hash l.key))) k)
  chains-after k below = ⊎_elim
      (λ (e : (eqb (bucket_of_hash (hash l.key)) k ≡ true) × (bucket_of_hash (hash l.key) ≡ k)).
      subst (λ (z : ℕ). IsChain (linked_front v.store l) z (put y.chains (bucket_of_hash (hash l.key)) (l.contents ∷ y.chains (bucket_of_hash (hash l.key))) z)) e.1
      (subst (IsChain (linked_front v.store l) (bucket_of_hash (hash l.key))) (sym (at-itself y.chains (bucket_of_hash (hash l.key)) (l.contents ∷ y.chains (bucket_of_hash (hash l.key))))) (front-chain (subst (λ (z : ℕ). z < 65536) (sym e.1) below))))
      (λ (e : (eqb (bucket_of_hash (hash l.key)) k ≡ false) × _).
      let c : IsChain v.store k (y.chains k) = made.represents.holds.shows.chains k below in
      subst (IsChain (linked_front v.store l) k) (sym (at-elsewhere y.chains (bucket_of_hash (hash l.key)) (l.contents ∷ y.chains (bucket_of_hash (hash l.key))) k e.0))
      (record { linked = subst (λ (x : ℕ). Linked (linked_front v.store l) k x (y.chains k)) (sym (at-elsewhere v.store.table (bucket_of_hash (hash l.key)) l.contents k e.0)) (linked-table v.store (put v.store.table (bucket_of_hash (hash l.key)) l.contents) k (v.store.table k) (y.chains k) c.linked); once = c.once }))
      (eqb_tells (bucket_of_hash (hash l.key)) k)

  more-chained : (k c : ℕ) → is_among (y.chains k) c ≡ true → is_among (put y.chains (bucket_of_hash (hash l.key)) (l.contents ∷ y.chains (bucket_of_hash (hash l.key))) k) c ≡ true
  more-chained k c h = ⊎_elim
      (λ (e : (eqb (bucket_of_hash (hash l.key)) k ≡ true) × (bucket_of_hash (hash l.key) ≡ k)).
      let there : is_among (y.chains (bucket_of_hash (hash l.key))) c ≡ true = ap (λ (z : ℕ). is_among (y.chains z) c) e.1 ∙ h in
      subst (λ (z : ℕ). is_among (put y.chains (bucket_of_hash (hash l.key)) (l.contents ∷ y.chains (bucket_of_hash (hash l.key))) z) c ≡ true) e.1
      (ap (λ (xs : List ℕ). is_among xs c) (at-itself y.chains (bucket_of_hash (hash l.key)) (l.contents ∷ y.chains (bucket_of_hash (hash l.key)))) ∙ or_right (l.contents == c) (is_among (y.chains (bucket_of_hash (hash l.key))) c) there))
      (λ (e : (eqb (bucket_of_hash (hash l.key)) k ≡ false) × _). ap (λ (xs : List ℕ). is_among xs c) (at-elsewhere y.chains (bucket_of_hash (hash l.key)) (l.contents ∷ y.chains (bucket_of_hash (hash l.key))) k e.0) ∙ h)
      (eqb_tells (bucket_of_hash (hash l.key)) k)

  pub linked-under : IsMidPart (linked_front v.store l) y key l (with_new_part y key n seen l).chains
  linked-under = record {
    no_record = made.represents.holds.shows.no_record;
    others = λ w x is out. load-table v.store (put v.store.table (bucket_of_hash (hash l.key)) l.contents) (rule_of y w) w x refl (made.represents.holds.shows.each w x is);
    part_loads = load-table v.store (put v.store.table (bucket_of_hash (hash l.key)) l.contents) (unchained_rule entry_normal) l.node l refl made.loads;
    dirty = dirty-parent;
    whole = chains-after;
    chained = more-chained;
  }

  module _ (old new : StoreView) (chains : ℕ → List ℕ) (under : IsMidPart old y key l chains) (touched : Claim → Bool) (same : SameStore touched old new) (table : (bucket : ℕ) → old.table bucket ≡ new.table bucket) (its : IsOfParent touched y key l chains) where
    pub parent-changes : IsMidPart new y key l chains
    parent-changes = record {
      no_record = sym (same.entry 0 (clear-zero touched)) ∙ under.no_record;
      others = λ w x is out. load-outside touched old new same (rule_of y w) w x refl (under.others w x is out) (all-clear touched x (λ c h. its.others c w (made.represents.holds.lies.own w x c is h) (or-false (l.node == w) (y.place (main key) == w) out).1));
      part_loads = load-outside touched old new same (unchained_rule entry_normal) l.node l refl under.part_loads (all-clear touched l its.part_clear);
      dirty = λ node_fields is. under.dirty node_fields (same.node_fields (y.place (main key)) its.node_clear ∙ is);
      whole = λ k below. let c : IsChain old k (chains k) = under.whole k below in
          record { linked = subst (λ (x : ℕ). Linked new k x (chains k)) (table k) (linked-same touched old new same k (old.table k) (chains k) (λ w h. its.chains_clear k w below h) c.linked); once = c.once };
      chained = under.chained;
    }

  pub each-write : (s : StoreView) → ShowsTheSame v.store s → (count : ℕ) → map row_of_loaded (kept_among s held_rule (walk (completed_list (after_writes (take count (writes_of 1 l.node v.list)) v.list)))) ≡ (if nat_lt count 2 then model.rest m else model.rest (with_first m objects (part key n)))
  each-write s same count =
      ap (λ (ws : List ℕ). map row_of_loaded (kept_among s held_rule ws)) (insert_turns l.node v.list (order m y) made.represents.list made.represents.idle lacks made.good made.few count) ∙ go (nat_lt count 2) where
        go : (b : Bool) → map row_of_loaded (kept_among s held_rule (if b then order m y else l.node ∷ order m y)) ≡ (if b then model.rest m else model.rest (with_first m objects (part key n)))
        go true = rest-found s m y (record { shows = shows-same v.store s y made.represents.holds.shows same; lies = made.represents.holds.lies }) made.valid made.represents.list.distinct
        go false = ap (λ (ws : List ℕ). map row_of_loaded (kept_among s held_rule ws)) (sym order-is)
            ∙ at-rest s y.chains (parent-changes v.store s y.chains written (λ c. false) same.store same.table (record { others = λ c w h e. refl; part_clear = λ c h. refl; node_clear = λ c h. refl; chains_clear = λ b w below h c g. refl }))

  module _ (s : StoreView) (under : IsMidPart s y key l (with_new_part y key n seen l).chains) (sees : load s (rule_of y (y.place (main key))) (y.place (main key)) ≡ Ok seen) where
    pub each-loads : (w : ℕ) (x : Loaded) → (with_new_part y key n seen l).at w ≡ Some x → load s (rule_of (with_new_part y key n seen l) w) w ≡ Ok x
    each-loads w x is = ⊎_elim
        (λ (e : (eqb l.node w ≡ true) × (l.node ≡ w)).
        let same : l ≡ x = (let c : ◌≡◌ {A = Option Loaded} (Some l) (Some x) = sym (at-itself (put y.at (y.place (main key)) (Some seen)) l.node (Some l)) ∙ ap (with_new_part y key n seen l).at e.1 ∙ is in cc) in
        let rule : rule_of (with_new_part y key n seen l) l.node ≡ unchained_rule entry_normal = ap (λ (z : ℕ). let q : Rule = record { state = z; clean = false; chained = false } in q) (at-itself y.state l.node 0) in
        subst (λ (z : ℕ). load s (rule_of (with_new_part y key n seen l) z) z ≡ Ok x) e.1 (ap (λ (q : Rule). load s q l.node) rule ∙ under.part_loads ∙ ap Ok same))
        (λ (e : (eqb l.node w ≡ false) × _). ⊎_elim
        (λ (f : (eqb (y.place (main key)) w ≡ true) × (y.place (main key) ≡ w)).
        let old : put y.at (y.place (main key)) (Some seen) w ≡ Some x = sym (at-elsewhere (put y.at (y.place (main key)) (Some seen)) l.node (Some l) w e.0) ∙ is in
        let same : seen ≡ x = (let c : ◌≡◌ {A = Option Loaded} (Some seen) (Some x) = sym bit-at ∙ ap (put y.at (y.place (main key)) (Some seen)) f.1 ∙ old in cc) in
        ap (λ (q : Rule). load s q w) (rule-other w e.0) ∙ subst (λ (z : ℕ). load s (rule_of y z) z ≡ Ok x) f.1 (sees ∙ ap Ok same))
        (λ (f : (eqb (y.place (main key)) w ≡ false) × _).
        let out : is_part_or_parent y key l w ≡ false = rw (e.0, f.0) refl in
        ap (λ (q : Rule). load s q w) (rule-other w e.0) ∙ under.others w x (at-other w x out is) out)
        (eqb_tells (y.place (main key)) w))
        (eqb_tells l.node w)

    pub part-ends : Represents (record { list = after_writes (writes_of 1 l.node v.list) v.list; store = s }) (with_first m objects (part key n)) (with_new_part y key n seen l)
    part-ends =
        let e = insert_ends l.node v.list (order m y) made.represents.list made.represents.idle lacks made.good made.few in
        record {
          holds = record { shows = record { no_record = under.no_record; each = each-loads; chains = under.whole }; lies = lies-part };
          list = subst (IsList (after_writes (writes_of 1 l.node v.list) v.list)) (sym order-is) e.0;
          idle = e.1;
        }

pub parts-hold-others : NewPartsHoldTheOthers
parts-hold-others view state objects layout key n was seen loaded made store chains under = holds-others view state objects layout key n was seen loaded made store chains under

pub parts-at-rest : NewPartsAreAtRest
parts-at-rest view state objects layout key n was seen loaded made store chains under = at-rest view state objects layout key n was seen loaded made store chains under

pub parts-at-each-write : NewPartsAtEachWrite
parts-at-each-write view state objects layout key n was seen loaded made store same count = each-write view state objects layout key n was seen loaded made store same count

pub parts-end : NewPartsEnd
parts-end view state objects layout key n was seen loaded made store under sees = part-ends view state objects layout key n was seen loaded made store under sees

pub parts-are-linked : NewPartsAreLinked
parts-are-linked view state objects layout key n was seen loaded made = linked-under view state objects layout key n was seen loaded made

pub parents-data-may-change : ParentsDataMayChange
parents-data-may-change view state objects layout key n was seen loaded made old new chains under touched same table its = parent-changes view state objects layout key n was seen loaded made old new chains under touched same table its

-- ---- a parent with one bit more

more-bits : (a b has : Bool) (same : Bool) → (a && b && has) ≡ true → (a && b && (same || has)) ≡ true
more-bits true true has true e = refl
more-bits true true has false e = e
more-bits true false has same e = cc
more-bits false b has same e = cc

claims-same : (l : Loaded) (index : ParentIndex) (n : ℕ) (streams : List (List ℕ)) → all_claims (with_bit_of l index n streams) ≡ all_claims l
unfolding all_claims record_claims
claims-same l index n streams = refl

pub noted-changes : NotedParentsAreChanges
noted-changes state layout key was index n streams lies listed at role first =
    let q : IsPlacedAt state layout (main key) = lies.laid (main key) listed in
    let c : ◌≡◌ {A = Option Loaded} (Some q.loaded) (Some was) = sym q.here ∙ at in
    let same : q.loaded ≡ was = cc in
    record {
      key = refl;
      contents = refl;
      row = q.row ∙ ap (λ (x : Loaded). Some (row_of_loaded x)) same ∙ ap (λ (r : Role). Some (row_with was.key r was.streams)) role ∙ ap (λ (bytes : List ℕ). Some (main_row_of was.key index bytes)) (sym first);
      mark = subst (λ (x : Loaded). HasDirtyMark state (main key) x) same q.mark;
      parent = tt;
      of = λ name is. more-bits (bytes_eq was.key name.key) (index.signature == name.signature) (index.has_part name.part) (name.part == n) (sym (ap (is_parent_role name was.key) role) ∙ is);
      own = λ claim has. lies.own (layout.place (main key)) was claim at (ap (λ (cs : List Claim). has_claim cs claim) (sym (claims-same was index n streams)) ∙ has);
      others = λ claim node owns apart. owns;
      single = ap repeats (claims-same was index n streams) ∙ lies.single (layout.place (main key)) was at;
    }
  where
    main_row_of : List ℕ → ParentIndex → List ℕ → Row
    main_row_of key index bytes = main_row key (sparse index.signature) (bytes, [], [])
