-- The parts in range are accessed, one after the other.
use Rattle.std.proofs.Common.{◌≡◌, ◌≢◌, inl, inr, ℕ, zero, suc, ◌+◌, ◌<◌, ◌≤◌, ap₂, append-nil, List, [], ◌∷◌, ◌++◌, map, refl, ap, sym, ◌∙◌, subst, arith, append_assoc, Bool, true, false, Some, None}
use Rattle.std.specs.Prelude.{◌-◌, ◌/◌, ◌==◌, filter, is_some, if◌then◌else◌}
use Rattle.std.specs.Option.{ForSome}
use Rattle.std.proofs.lemmas.Bool.{eq-eqb, eqb-true}
use Rattle.spec_image.specs.Image.{Image}
use Rattle.spec_image.specs.Told.{Passes, Told}
use Rattle.spec_image.proofs.Runs.{passes_then, passes_weaker}
use Rattle.blk_model.specs.Bytes.{numbers_from}
use Rattle.blk_model.specs.Effects.{existing_parts, used, used_all}
use Rattle.blk_model.specs.Holding.{rest}
use Rattle.blk_model.specs.Items.{Item, PartValue, part}
use Rattle.blk_model.specs.Sparse.{covered_parts}
use Rattle.blk_model.specs.State.{Object, State, part_at}
use Rattle.spec_folder.specs.Layout.{Layout}
use Rattle.blk_stream.proofs.Joined.{IsTold, told_then}
use Rattle.law_state.specs.Changes.{Finds}
use Rattle.law_state.specs.CommandStates.{in_order}
use Rattle.law_state.specs.Keeping.{CountsItems}
use Rattle.law_state.proofs.Keeping.{kept-held}
use Rattle.blk_object.proofs.GoingNext.{then-counters}
use Rattle.blk_object.proofs.MakingTaken.{session-then}
use Rattle.blk_object.proofs.WrittenParts.{part-listed}
use Rattle.blk_sparse.specs.Parts.{FindsBeforeOrAfter, IsListedAt, IsUsed}
use Rattle.blk_sparse.specs.SparseObjects.{FindsUsed, HasPartAt, KeepsParent, KeepsParentUsed, parts_of, parts_used, with_all_used}

-- ---- the numbers

pub covered-none : (offset : ℕ) → covered_parts offset 0 ≡ []
unfolding covered_parts
covered-none offset = refl

pub covered-one : (offset count last : ℕ) → 0 < count → last + 1 ≡ offset + count → last / 1048576 ≡ offset / 1048576 → covered_parts offset count ≡ offset / 1048576 ∷ []
unfolding covered_parts numbers_from
covered-one offset zero last some is same = absurd (omega (arith, some))
covered-one offset (suc c) last some is same =
    let last_is : last ≡ offset + c = omega (arith, is) in
    let one : (offset + c) / 1048576 + 1 - offset / 1048576 ≡ 1 = (let e = ap (λ (n : ℕ). n / 1048576) (sym last_is) ∙ same in omega (arith, e)) in
    ap (numbers_from (offset / 1048576)) one

pub covered-two : (offset count last : ℕ) → 0 < count → last + 1 ≡ offset + count → last / 1048576 ≡ offset / 1048576 + 1 → covered_parts offset count ≡ offset / 1048576 ∷ (offset / 1048576 + 1) ∷ []
unfolding covered_parts numbers_from
covered-two offset zero last some is next = absurd (omega (arith, some))
covered-two offset (suc c) last some is next =
    let last_is : last ≡ offset + c = omega (arith, is) in
    let two : (offset + c) / 1048576 + 1 - offset / 1048576 ≡ 2 = (let e = ap (λ (n : ℕ). n / 1048576) (sym last_is) ∙ next in omega (arith, e)) in
    ap (numbers_from (offset / 1048576)) two

-- ---- the items

pub used-append : (xs ys uses : List Item) → used_all (xs ++ ys) uses ≡ used_all ys (used_all xs uses)
used-append [] ys uses = refl
used-append (x ∷ xs) ys uses = used-append xs ys (used x uses)

pub existing-some : (object : Object) (n : ℕ) (value : PartValue) → part_at object n ≡ Some value → parts_of object (existing_parts object (n ∷ [])) ≡ part object.key n ∷ []
existing-some object n value has = rw has refl

pub existing-none : (object : Object) (n : ℕ) → part_at object n ≡ None → parts_of object (existing_parts object (n ∷ [])) ≡ []
existing-none object n none = rw none refl

pub existing-two : (object : Object) (n m : ℕ) → parts_of object (existing_parts object (n ∷ m ∷ [])) ≡ parts_of object (existing_parts object (n ∷ [])) ++ parts_of object (existing_parts object (m ∷ []))
existing-two object n m = by (is_some (part_at object n)) where
  by : (b : Bool) → map (part object.key) (if b then n ∷ filter (λ k. is_some (part_at object k)) (m ∷ []) else filter (λ k. is_some (part_at object k)) (m ∷ [])) ≡ map (part object.key) (if b then n ∷ [] else []) ++ parts_of object (existing_parts object (m ∷ []))
  by true = refl
  by false = refl

pub existing-more : (object : Object) (n : ℕ) (ns : List ℕ) → parts_of object (existing_parts object (n ∷ ns)) ≡ parts_of object (existing_parts object (n ∷ [])) ++ parts_of object (existing_parts object ns)
existing-more object n ns = by (is_some (part_at object n)) where
  by : (b : Bool) → map (part object.key) (if b then n ∷ filter (λ k. is_some (part_at object k)) ns else filter (λ k. is_some (part_at object k)) ns) ≡ map (part object.key) (if b then n ∷ [] else []) ++ parts_of object (existing_parts object ns)
  by true = refl
  by false = refl

-- those in range: of no byte, of one part, of two
pub used-no-part : (object : Object) (offset count : ℕ) → count ≡ 0 → [] ≡ parts_used object offset count
used-no-part object offset count none = sym (ap (λ (n : ℕ). parts_of object (existing_parts object (covered_parts offset n))) none ∙ ap (λ (ns : List ℕ). parts_of object (existing_parts object ns)) (covered-none offset))

pub used-one-part : (object : Object) (offset count first last : ℕ) → count ≢ 0 → first ≡ offset / 1048576 → last ≡ (offset + count - 1) / 1048576 → last ≡ first → parts_of object (existing_parts object (first ∷ [])) ≡ parts_used object offset count
used-one-part object offset count first last some first_is last_is same =
    let covered = covered-one offset count (offset + count - 1) (omega (arith, some)) (omega (arith, some)) (sym last_is ∙ same ∙ first_is) in
    ap (λ (ns : List ℕ). parts_of object (existing_parts object ns)) (ap (λ (n : ℕ). n ∷ []) first_is ∙ sym covered)

pub used-two-parts : (object : Object) (offset count first last : ℕ) → count ≢ 0 → count ≤ 1048576 → first ≡ offset / 1048576 → last ≡ (offset + count - 1) / 1048576 → last ≢ first → parts_of object (existing_parts object (first ∷ [])) ++ parts_of object (existing_parts object (last ∷ [])) ≡ parts_used object offset count
used-two-parts object offset count first last some few first_is last_is other =
    let next : last ≡ offset / 1048576 + 1 = omega (arith, some, few, first_is, last_is, other) in
    let covered = covered-two offset count (offset + count - 1) (omega (arith, some)) (omega (arith, some)) (sym last_is ∙ next) in
    sym (existing-more object first (last ∷ []))
    ∙ ap (λ (ns : List ℕ). parts_of object (existing_parts object ns)) (ap₂ (λ (n m : ℕ). n ∷ m ∷ []) first_is next ∙ sym covered)

-- in each case the first part is one of them
pub used-first-part : (object : Object) (offset count first last : ℕ) → count ≢ 0 → count ≤ 1048576 → first ≡ offset / 1048576 → last ≡ (offset + count - 1) / 1048576 → (ys : List Item) × (parts_of object (existing_parts object (first ∷ [])) ++ ys ≡ parts_used object offset count)
used-first-part object offset count first last some few first_is last_is = by (last == first) refl where
  by : (b : Bool) → (last == first) ≡ b → (ys : List Item) × (parts_of object (existing_parts object (first ∷ [])) ++ ys ≡ parts_used object offset count)
  by true e = ([], append-nil (parts_of object (existing_parts object (first ∷ []))) ∙ used-one-part object offset count first last some first_is last_is (eqb-true last first e))
  by false e = (parts_of object (existing_parts object (last ∷ [])), used-two-parts object offset count first last some few first_is last_is (λ same. let z : true ≡ false = sym (eq-eqb last first same) ∙ e in cc))

-- ---- at each word

used-further : (state : State) (xs ys : List Item) (image : Image) → FindsUsed state xs image → FindsUsed state (xs ++ ys) image
used-further state xs ys image f = record { first = f.first; others = f.others ++ ys; split = ap (λ (l : List Item). l ++ ys) f.split ∙ append_assoc f.first f.others ys; finds = f.finds }

used-behind : (state : State) (xs ys : List Item) (image : Image) → FindsUsed (with_all_used state xs) ys image → FindsUsed state (xs ++ ys) image
used-behind state xs ys image f = record {
  first = xs ++ f.first;
  others = f.others;
  split = ap (λ (l : List Item). xs ++ l) f.split ∙ sym (append_assoc xs f.first f.others);
  finds = subst (λ (uses : List Item). Finds (rest (in_order uses state)) image) (sym (used-append xs f.first state.uses)) f.finds;
}

-- of one item
pub used-one : (state : State) (item : Item) (image : Image) → FindsBeforeOrAfter state item image → FindsUsed state (item ∷ []) image
used-one state item image (inl f) = record { first = []; others = item ∷ []; split = refl; finds = f }
used-one state item image (inr f) = record { first = item ∷ []; others = []; split = refl; finds = f }

module _ (state : State) (layout : Layout) (unlinked : List ℕ) (number : ℕ) (object : Object) (node entry signature : ℕ) (from : Image) (p : KeepsParent state layout unlinked number object node entry signature from) where
  pub none-used : KeepsParentUsed state layout unlinked number object node entry signature [] from from
  none-used = record { parent = p; counted = λ c. c; counters = refl; session = record { crash = refl; id = refl } }

  pub now-found : (items : List Item) → FindsUsed state items from
  now-found items = record { first = []; others = items; split = refl; finds = (p.kept.sound, kept-held state layout unlinked from p.kept) }

  -- a part of it is listed at its record
  pub its-part : (n of_part : ℕ) → HasPartAt layout object n of_part → IsListedAt state layout unlinked (part object.key n) of_part from
  its-part n of_part at = record { kept = p.kept; listed = part-listed state p.kept.valid number object p.here p.live n at.value at.has; was = at.was; lies = at.lies; record_is = at.record_is }

  -- once an item is accessed
  pub one-used : (item : Item) (image : Image) → IsUsed state layout unlinked item from image → KeepsParentUsed state layout unlinked number object node entry signature (item ∷ []) from image
  one-used item image u = record {
    parent = record { kept = u.kept; here = p.here; live = p.live; node_is = p.node_is; was = p.was; lies = p.lies; record_is = p.record_is; index = p.index; role = p.role; same = p.same };
    counted = u.counted;
    counters = u.counters;
    session = u.session;
  }

  -- once some are, and then others
  pub both-used : (xs ys : List Item) (mid image : Image) → KeepsParentUsed state layout unlinked number object node entry signature xs from mid → KeepsParentUsed (with_all_used state xs) layout unlinked number object node entry signature ys mid image
      → KeepsParentUsed state layout unlinked number object node entry signature (xs ++ ys) from image
  both-used xs ys mid image one other = record {
    parent = subst (λ (uses : List Item). KeepsParent (in_order uses state) layout unlinked number object node entry signature image) (sym (used-append xs ys state.uses)) other.parent;
    counted = λ c. subst (λ (uses : List Item). CountsItems image (in_order uses state) layout) (sym (used-append xs ys state.uses)) (other.counted (one.counted c));
    counters = then-counters from mid image one.counters other.counters;
    session = session-then from mid image one.session other.session;
  }

-- ---- one part, if there is the part

module _ (state : State) (layout : Layout) (unlinked : List ℕ) (number : ℕ) (object : Object) (node entry signature : ℕ) (from : Image) (p : KeepsParent state layout unlinked number object node entry signature from) (n : ℕ) where
  pub some-used : (of_part : ℕ) (at : HasPartAt layout object n of_part) (image : Image) → IsUsed state layout unlinked (part object.key n) from image → KeepsParentUsed state layout unlinked number object node entry signature (parts_of object (existing_parts object (n ∷ []))) from image
  some-used of_part at image u =
      subst (λ (items : List Item). KeepsParentUsed state layout unlinked number object node entry signature items from image) (sym (existing-some object n at.value at.has)) (one-used state layout unlinked number object node entry signature from p (part object.key n) image u)

  pub some-found : (of_part : ℕ) (at : HasPartAt layout object n of_part) (image : Image) → FindsBeforeOrAfter state (part object.key n) image → FindsUsed state (parts_of object (existing_parts object (n ∷ []))) image
  some-found of_part at image f = subst (λ (items : List Item). FindsUsed state items image) (sym (existing-some object n at.value at.has)) (used-one state (part object.key n) image f)

  pub nothing-used : part_at object n ≡ None → (image : Image) → from ≡ image → KeepsParentUsed state layout unlinked number object node entry signature (parts_of object (existing_parts object (n ∷ []))) from image
  nothing-used none image same =
      subst (KeepsParentUsed state layout unlinked number object node entry signature (parts_of object (existing_parts object (n ∷ []))) from) same
      (subst (λ (items : List Item). KeepsParentUsed state layout unlinked number object node entry signature items from from) (sym (existing-none object n none)) (none-used state layout unlinked number object node entry signature from p))

-- ---- two calls

module _ (a m b : Told) (from : Image) (there : a.files ≡ Some from) (state : State) (layout : Layout) (unlinked : List ℕ) (number : ℕ) (object : Object) (node entry signature : ℕ) (p : KeepsParent state layout unlinked number object node entry signature from) (xs ys : List Item)
    (first : Passes a m (FindsUsed state xs)) where
  abbrev pub mid : IsTold m (FindsUsed state xs)
  mid = told_then a m from (FindsUsed state xs) there first

  pub first-further : Passes a m (FindsUsed state (xs ++ ys))
  first-further = passes_weaker first (used-further state xs ys) (used-further state xs ys)

  module _ (used : ForSome m.files (KeepsParentUsed state layout unlinked number object node entry signature xs from)) where
    pub mid-used : KeepsParentUsed state layout unlinked number object node entry signature xs from mid.image
    mid-used = used mid.image mid.is

    pub then-stops : ((i : Image) → m.files ≡ Some i → KeepsParent (with_all_used state xs) layout unlinked number object node entry signature i → Passes m b (FindsUsed (with_all_used state xs) ys)) → Passes a b (FindsUsed state (xs ++ ys))
    then-stops passes = passes_then first-further (passes_weaker (passes mid.image mid.is mid-used.parent) (used-behind state xs ys) (used-behind state xs ys))

    pub then-used : ((i : Image) → m.files ≡ Some i → KeepsParent (with_all_used state xs) layout unlinked number object node entry signature i → ForSome b.files (KeepsParentUsed (with_all_used state xs) layout unlinked number object node entry signature ys i)) → ForSome b.files (KeepsParentUsed state layout unlinked number object node entry signature (xs ++ ys) from)
    then-used ends image is = both-used state layout unlinked number object node entry signature from p xs ys mid.image image mid-used (ends mid.image mid.is mid-used.parent image is)
