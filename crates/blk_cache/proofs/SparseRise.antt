-- By how much a SparseWrite raises cost and items, as the parts in its range are measured; it is as much once what it evicts is out.
use Rattle.std.proofs.Common.{◌≡◌, ℕ, suc, ◌+◌, ◌≤◌, List, [], ◌∷◌, length, set, Bool, true, false, not, cond, Option, Some, T, refl, sym, ap, subst, ◌∙◌, arith}
use Rattle.std.specs.Prelude.{IfSome, if◌then◌else◌, is_some, max, sum_by, unwrap_or}
use Rattle.std.specs.Bool.{passes}
use Rattle.std.specs.FinMap.{is_sorted}
use Rattle.std.specs.List.{AllByRecursion}
use Rattle.std.specs.Option.{option_map_or}
use Rattle.std.specs.Ordering.{nat_cmp}
use Rattle.std.proofs.lemmas.List.Sums.{sum_by-cons}
use Rattle.blk_model.specs.Charge.{main_charge, part_charge, part_name}
use Rattle.blk_model.specs.Items.{PartValue, Shape, is_sparse, signature_of}
use Rattle.blk_model.specs.Effects.{effect}
use Rattle.blk_model.specs.Request.{to_sparse_write}
use Rattle.blk_model.specs.Room.{charge, item_count, items, of_slot, own_charge, total}
use Rattle.blk_model.specs.Sparse.{covered_parts, empty_part}
use Rattle.blk_model.specs.State.{IsObject, Object, State, part_at}
use Rattle.spec_folder.specs.Layout.{Layout}
use Rattle.blk_sparse.specs.declared.measuring.Measured.{Measured}
use Rattle.blk_sparse.specs.declared.storing.Target.{Target}
use Rattle.blk_sparse.specs.Measuring.{IsMeasured, charge_there, charge_up_to, end_in}
use Rattle.blk_sparse.specs.SparseObjects.{missing_parts, with_signature}
use Rattle.blk_sparse.specs.SparseWrites.{object_written, signature_to}
use Rattle.blk_sparse.proofs.PartCharges.{IsMore, more-written}
use Rattle.law_state.specs.OneCallLaws.{Names}
use Rattle.blk_cache.specs.SparseWriting.{IsRaisedBy, IsSignedBy, IsTargetOf, SparseWritesRaiseAsMeasured, index_charge}
use Rattle.blk_cache.proofs.ChangedObjects.{sum-changed}
use Rattle.blk_cache.proofs.SparseEnds.{after-is, effect-same, sparse-written-is}

-- ---- an object that becomes sparse

no-parts : (object : Object) → object.parts ≡ [] → charge object ≡ own_charge object
unfolding charge
no-parts object none = let sum : sum_by (λ p. part_charge object.key (signature_of object.shape) p.0 p.1) object.parts ≡ 0 = ap (sum_by (λ p. part_charge object.key (signature_of object.shape) p.0 p.1)) none in omega (arith, sum)

-- its cost rises by the index of its parts
pub begun-charge : (object : Object) (target : Target) → IsObject object → IsTargetOf object target → charge (with_signature object (signature_to target)) ≡ charge object + index_charge target
begun-charge object target valid is = by target.plain refl where
  by : (t : Bool) → target.plain ≡ t → charge (with_signature object (signature_to target)) ≡ charge object + (if t then 8256 else 0)
  by true e =
      let p = is.of_plain e in
      let none : object.parts ≡ [] = valid.plain_has_no_parts (ap is_sparse p.0) in
      let was : own_charge object ≡ length object.key + length object.streams.0 + length object.streams.1 + length object.streams.2 = ap (λ (s : Shape). main_charge object.key s object.streams) p.0 in
      let second : length object.streams.1 ≡ 0 = ap length p.1.0 in
      let third : length object.streams.2 ≡ 0 = ap length p.1.1 in
      let a = no-parts object none in
      let b = no-parts (with_signature object (signature_to target)) none in
      omega (arith, was, second, third, a, b)
  by false e =
      let same : charge (with_signature object (signature_to target)) ≡ charge object = ap (λ (s : Shape). charge (record object { shape = s })) (sym (is.of_sparse e)) in
      omega (arith, same)

-- ---- the rise

-- with the bytes the cost of an object is so much more, and it is so many items more
pub record Raises (object : Object) (target : Target) (offset : ℕ) (bytes : List ℕ) (more_bytes more_items : ℕ) : Type 0 where
  pub charged : charge (object_written object (signature_to target) offset bytes) ≡ charge object + more_bytes
  pub counted : item_count (object_written object (signature_to target) offset bytes) ≡ item_count object + more_items

sorted-of : (object : Object) → IsObject object → T (is_sorted nat_cmp object.parts)
sorted-of object valid = passes _ valid.rising

module _ (object : Object) (target : Target) (offset : ℕ) (bytes : List ℕ) (some : 1 ≤ length bytes) (few : length bytes ≤ 1048576) (valid : IsObject object) (is : IsTargetOf object target) where
  more : IsMore (with_signature object (signature_to target)) offset bytes
  more = more-written (with_signature object (signature_to target)) (sorted-of object valid) offset bytes some few

  -- as it is measured
  pub raises-measured : (layout : Layout) (found : Measured) → IsMeasured layout (with_signature object (signature_to target)) (signature_to target) offset (length bytes) found → Raises object target offset bytes (found.bytes + index_charge target) found.items
  raises-measured layout found m =
      let charged = more.charged in
      let counted = more.counted in
      let begun = begun-charge object target valid is in
      let there = m.charged in
      let up = m.risen in
      let missing = m.missing in
      record { charged = omega (arith, charged, begun, there, up); counted = omega (arith, counted, missing) }

-- ---- once eviction units are out

-- the parts of some numbers are in two objects as they are
abbrev pub SameParts : (one two : Object) → List ℕ → Type 0
SameParts one two ns = AllByRecursion (λ n. part_at one n ≡ part_at two n) ns

same-sum : (f g : ℕ → ℕ) (ns : List ℕ) → AllByRecursion (λ n. f n ≡ g n) ns → sum_by f ns ≡ sum_by g ns
same-sum f g [] all = refl
same-sum f g (n ∷ ns) all =
    let one = sum_by-cons f n ns in
    let two = sum_by-cons g n ns in
    let more = same-sum f g ns all.1 in
    let head = all.0 in
    omega (arith, one, two, more, head)

-- from one fact of each number to another
pub each-of : (P Q : ℕ → Type 0) (ns : List ℕ) → ((n : ℕ) → P n → Q n) → AllByRecursion P ns → AllByRecursion Q ns
each-of P Q [] f all = tt
each-of P Q (n ∷ ns) f all = (f n all.0, each-of P Q ns f all.1)

module _ (object : Object) (parts : List (ℕ × PartValue)) (loose : Bool) (target : Target) (offset : ℕ) (bytes : List ℕ) (some : 1 ≤ length bytes) (few : length bytes ≤ 1048576) (valid : IsObject object) (valid_left : IsObject (record object { parts = parts })) (is : IsTargetOf object target) where
  abbrev left : Object
  left = record object { parts = parts }

  abbrev ns : List ℕ
  ns = covered_parts offset (length bytes)

  abbrev s : ℕ
  s = signature_to target

  missing-same : (m : List ℕ) → SameParts left object m → length (missing_parts left m) ≡ length (missing_parts object m)
  missing-same [] all = refl
  missing-same (n ∷ m) all = by (missing-same m all.1) (is_some (part_at object n)) (ap is_some all.0) where
    by : length (missing_parts left m) ≡ length (missing_parts object m) → (b : Bool) → is_some (part_at left n) ≡ b → length (cond (not (is_some (part_at left n))) (n ∷ missing_parts left m) (missing_parts left m)) ≡ length (cond (not b) (n ∷ missing_parts object m) (missing_parts object m))
    by later true e = ap (λ (b : Bool). length (cond (not b) (n ∷ missing_parts left m) (missing_parts left m))) e ∙ later
    by later false e = ap (λ (b : Bool). length (cond (not b) (n ∷ missing_parts left m) (missing_parts left m))) e ∙ ap suc later

  -- where the parts in range are as they were it raises as much
  pub raises-left : SameParts left object ns → (more_bytes more_items : ℕ) → Raises object target offset bytes more_bytes more_items → Raises left target offset bytes more_bytes more_items
  raises-left same more_bytes more_items r =
      let one = more object target offset bytes some few valid is in
      let two = more left target offset bytes some few valid_left (record { of_plain = is.of_plain; of_sparse = is.of_sparse }) in
      let one_charged = one.charged in
      let two_charged = two.charged in
      let one_counted = one.counted in
      let two_counted = two.counted in
      let one_begun = begun-charge object target valid is in
      let two_begun = begun-charge left target valid_left (record { of_plain = is.of_plain; of_sparse = is.of_sparse }) in
      let charged = r.charged in
      let counted = r.counted in
      let there : sum_by (charge_there (with_signature left s) s) ns ≡ sum_by (charge_there (with_signature object s) s) ns =
      same-sum (charge_there (with_signature left s) s) (charge_there (with_signature object s) s) ns (each-of (λ n. part_at left n ≡ part_at object n) (λ n. charge_there (with_signature left s) s n ≡ charge_there (with_signature object s) s n) ns (λ n e. ap (λ (o : Option PartValue). option_map_or (part_charge object.key s n) o 0) e) same) in
      let up : sum_by (λ n. charge_up_to (with_signature left s) s n (end_in offset (length bytes) n)) ns ≡ sum_by (λ n. charge_up_to (with_signature object s) s n (end_in offset (length bytes) n)) ns =
      same-sum (λ n. charge_up_to (with_signature left s) s n (end_in offset (length bytes) n)) (λ n. charge_up_to (with_signature object s) s n (end_in offset (length bytes) n)) ns
      (each-of (λ n. part_at left n ≡ part_at object n) (λ n. charge_up_to (with_signature left s) s n (end_in offset (length bytes) n) ≡ charge_up_to (with_signature object s) s n (end_in offset (length bytes) n)) ns
      (λ n e. ap (λ (o : Option PartValue). length (part_name object.key s n) + max (length (unwrap_or o empty_part).bytes) (end_in offset (length bytes) n) + 192) e) same) in
      let missing = missing-same ns same in
      record { charged = omega (arith, one_charged, two_charged, one_begun, two_begun, charged, there, up); counted = omega (arith, one_counted, two_counted, counted, missing) }

-- ---- the state

loose-written : (object : Object) (s offset : ℕ) (bytes : List ℕ) → charge (object_written (record object { settled = false }) s offset bytes) ≡ charge (object_written object s offset bytes)
unfolding charge
loose-written object s offset bytes = refl

module _ (state : State) (moment handle number : ℕ) (object : Object) (target : Target) (offset : ℕ) (bytes : List ℕ) (more_bytes more_items : ℕ) (names : Names state handle number object) (is : IsTargetOf object target) (signed : IsSignedBy moment target) (some : 1 ≤ length bytes) where
  abbrev after : Object
  after = object_written (record object { settled = false }) (signature_to target) offset bytes

  objects-are : (effect moment (to_sparse_write handle offset bytes) state).objects ≡ set state.objects number (Some after)
  objects-are = ap (λ (s : State). s.objects) (effect-same moment handle offset bytes state ∙ sparse-written-is moment handle offset bytes state number object names) ∙ ap (λ (o : Object). set state.objects number (Some o)) (after-is moment object target offset bytes some is signed)

  -- the state is raised by what the object is, and by nothing else
  pub raised-by : Raises object target offset bytes more_bytes more_items → IsRaisedBy state moment handle offset bytes more_bytes more_items
  raised-by r =
      let sum = sum-changed charge state.objects number object after names.here in
      let count = sum-changed item_count state.objects number object after names.here in
      let slots : total (effect moment (to_sparse_write handle offset bytes) state) ≡ sum_by (of_slot charge) (set state.objects number (Some after)) = ap (sum_by (of_slot charge)) objects-are in
      let counted_slots : items (effect moment (to_sparse_write handle offset bytes) state) ≡ sum_by (of_slot item_count) (set state.objects number (Some after)) = ap (sum_by (of_slot item_count)) objects-are in
      let charged = r.charged in
      let counted = r.counted in
      let same = loose-written object (signature_to target) offset bytes in
      let long : item_count after ≡ item_count (object_written object (signature_to target) offset bytes) = refl in
      record { total_more = omega (arith, sum, slots, charged, same); items_more = omega (arith, count, counted_slots, counted, long) }

  pub raises-of : IsRaisedBy state moment handle offset bytes more_bytes more_items → Raises object target offset bytes more_bytes more_items
  raises-of r =
      let sum = sum-changed charge state.objects number object after names.here in
      let count = sum-changed item_count state.objects number object after names.here in
      let slots : total (effect moment (to_sparse_write handle offset bytes) state) ≡ sum_by (of_slot charge) (set state.objects number (Some after)) = ap (sum_by (of_slot charge)) objects-are in
      let counted_slots : items (effect moment (to_sparse_write handle offset bytes) state) ≡ sum_by (of_slot item_count) (set state.objects number (Some after)) = ap (sum_by (of_slot item_count)) objects-are in
      let more_total = r.total_more in
      let more_count = r.items_more in
      let same = loose-written object (signature_to target) offset bytes in
      let long : item_count after ≡ item_count (object_written object (signature_to target) offset bytes) = refl in
      record { charged = omega (arith, sum, slots, more_total, same); counted = omega (arith, count, counted_slots, more_count, long) }

pub raises-as-measured : SparseWritesRaiseAsMeasured
raises-as-measured state moment handle number object target offset bytes layout found valid names is signed some few m =
    raised-by state moment handle number object target offset bytes (found.bytes + index_charge target) found.items names is signed some
    (raises-measured object target offset bytes some few (subst (λ (o : Option Object). IfSome o IsObject) names.here (valid.objects number)) is layout found m)
