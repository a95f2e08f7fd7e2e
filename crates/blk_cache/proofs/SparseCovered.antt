-- The parts in range of a SparseWrite, as they are measured, are pinned.
use Rattle.std.proofs.lemmas.Bool.Decides.{nat_tests}
use Rattle.std.proofs.Common.{◌≡◌, ℕ, ◌+◌, ◌-◌, ◌/◌, ◌%◌, ◌<◌, ◌≤◌, List, [], ◌∷◌, map, Bool, true, false, Option, Some, None, refl, sym, ap, ap₂, subst, ◌∙◌, arith}
use Rattle.std.specs.Prelude.{◌||◌, IfSome, nat_lt, sum_by}
use Rattle.std.specs.Option.{option_map_or}
use Rattle.std.proofs.lemmas.Bool.{ltb-false}
use Rattle.std.proofs.lemmas.List.Sums.{sum_by-cons}
use Rattle.blk_model.specs.Charge.{part_charge}
use Rattle.blk_model.specs.Items.{PartValue, is_sparse, part, same_item, signature_of}
use Rattle.blk_model.specs.Room.{count_of, pinned, total_of}
use Rattle.blk_model.specs.Sparse.{covered_parts}
use Rattle.blk_model.specs.State.{IsObject, IsValidState, Object, State, is_named, object_at, part_at}
use Rattle.spec_folder.specs.Layout.{IsLayoutOf, Layout}
use Rattle.blk_sparse.specs.declared.measuring.Measured.{Measured}
use Rattle.blk_sparse.specs.declared.storing.Target.{Target}
use Rattle.blk_sparse.specs.Measuring.{IsMeasured, charge_there, node_there, nodes_there}
use Rattle.blk_sparse.specs.SparseObjects.{with_signature}
use Rattle.blk_sparse.specs.SparseWrites.{signature_to}
use Rattle.blk_sparse.proofs.WritingCovered.{covers-one, covers-two}
use Rattle.blk_evict.specs.RoomLaws.{AreOfNamed}
use Rattle.blk_cache.specs.declared.covered.Covered.{Covered}
use Rattle.blk_cache.specs.Covering.{AreCovered, is_node, one_if_some, count_in_range}
use Rattle.blk_cache.specs.SparseWriting.{IsTargetOf, MeasuredPartsAreCovered, covered_of}
use Rattle.blk_cache.proofs.ChangedObjects.{its-named}
use Rattle.blk_cache.proofs.CreateRoom.{main-pinned}
use Rattle.blk_cache.proofs.PinnedParts.{AreMore, node-of-part, one-pinned, one_there, two-pinned}

-- a plain object has no part, so none has a cost
there-same : (object : Object) (target : Target) → IsObject object → IsTargetOf object target → (n : ℕ) → charge_there object (signature_to target) n ≡ charge_there object (signature_of object.shape) n
there-same object target valid is n = by target.plain refl where
  by : (t : Bool) → target.plain ≡ t → charge_there object (signature_to target) n ≡ charge_there object (signature_of object.shape) n
  by true e =
      let none : object.parts ≡ [] = valid.plain_has_no_parts (ap is_sparse (is.of_plain e).0) in
      let gone : part_at object n ≡ None = ap (λ (ps : List (ℕ × PartValue)). part_at (record object { parts = ps }) n) none in
      ap (λ (o : Option PartValue). option_map_or (part_charge object.key (signature_to target) n) o 0) gone ∙ sym (ap (λ (o : Option PartValue). option_map_or (part_charge object.key (signature_of object.shape) n) o 0) gone)
  by false e = ap (λ (s : ℕ). charge_there object s n) (sym (ap signature_of (is.of_sparse e)))

node-counts : (layout : Layout) (object : Object) (n : ℕ) (o : Option PartValue) → part_at object n ≡ o → one_if_some (node_there layout object n) ≡ option_map_or (λ (v : PartValue). 1) (part_at object n) 0
node-counts layout object n None e = rw e refl
node-counts layout object n (Some v) e = rw e refl

or-none : (a : Bool) → (a || false) ≡ a
or-none true = refl
or-none false = refl

next-apart : (n : ℕ) → n ≡ n + 1 → ⊥
next-apart n e = absurd (omega (arith, e))

module _ (state : State) (valid : IsValidState state) (layout : Layout) (lies : IsLayoutOf state layout) (number : ℕ) (object : Object) (here : object_at state number ≡ Some object) (live : object.live ≡ true) (named : is_named state number ≡ true)
    (target : Target) (object_valid : IsObject object) (is : IsTargetOf object target) (offset count : ℕ) (some : 1 ≤ count) (few : count ≤ 1048576)
    (found : Measured) (m : IsMeasured layout (with_signature object (signature_to target)) (signature_to target) offset count found) (parts : Covered) (first : parts.first ≡ found.first) (second : parts.second ≡ found.second) (charged : parts.bytes ≡ found.charged) where
  of-named : (ns : List ℕ) → AreOfNamed state (map (part object.key) ns)
  of-named [] = tt
  of-named (n ∷ ns) = (main-pinned state valid [] number object here live true named, of-named ns)

  abbrev n : ℕ
  n = offset / 1048576

  abbrev place : ℕ
  place = offset % 1048576

  -- where one part is in range
  one : count ≤ 1048576 - place → AreCovered state layout (map (part object.key) (covered_parts offset count)) parts
  one fits =
      let cover : covered_parts offset count ≡ n ∷ [] = covers-one offset count n place refl refl some fits in
      let nodes : (found.first, found.second) ≡ (node_there layout object n, None) = m.nodes ∙ ap (nodes_there layout (with_signature object (signature_to target))) cover in
      let first_is : parts.first ≡ node_there layout object n = first ∙ ap (λ (p : Option ℕ × Option ℕ). p.0) nodes in
      let second_is : parts.second ≡ None = second ∙ ap (λ (p : Option ℕ × Option ℕ). p.1) nodes in
      let bytes_is : parts.bytes ≡ charge_there object (signature_of object.shape) n =
      charged ∙ m.charged ∙ ap (sum_by (charge_there object (signature_to target))) cover ∙ (let sum = sum_by-cons (charge_there object (signature_to target)) n [] in let e : sum_by (charge_there object (signature_to target)) (n ∷ []) ≡ charge_there object (signature_to target) n = omega (arith, sum) in e)
      ∙ there-same object target object_valid is n in
      let more : AreMore state valid number object here live named (map (part object.key) (n ∷ [])) (charge_there object (signature_of object.shape) n) (one_there state valid number object here live named n) = one-pinned state valid number object here live named n in
      let counted : count_in_range parts ≡ one_there state valid number object here live named n =
      ap₂ (λ (a b : Option ℕ). one_if_some a + one_if_some b) first_is second_is ∙ (let c = node-counts layout object n (part_at object n) refl in let e : one_if_some (node_there layout object n) + 0 ≡ option_map_or (λ (v : PartValue). 1) (part_at object n) 0 = omega (arith, c) in e) in
      subst (λ (ns : List ℕ). AreCovered state layout (map (part object.key) ns) parts) (sym cover)
      (record {
        lie = record {
          of_named = of-named (n ∷ []);
          nodes = λ item listed. ap₂ (λ (a b : Option ℕ). is_node a (layout.place item) || is_node b (layout.place item)) first_is second_is ∙ ap (λ (b : Bool). b || false) (node-of-part state valid number object here live named layout lies n item listed);
        };
        bytes = more.bytes_more ∙ ap (λ (k : ℕ). total_of (pinned state []) + k) (sym bytes_is);
        items = more.count_more ∙ ap (λ (k : ℕ). count_of (pinned state []) + k) (sym counted);
      })

  -- where two are
  two : 1048576 - place < count → AreCovered state layout (map (part object.key) (covered_parts offset count)) parts
  two more_fits =
      let cover : covered_parts offset count ≡ n ∷ (n + 1) ∷ [] = covers-two offset count n place refl refl more_fits few in
      let nodes : (found.first, found.second) ≡ (node_there layout object n, node_there layout object (n + 1)) = m.nodes ∙ ap (nodes_there layout (with_signature object (signature_to target))) cover in
      let first_is : parts.first ≡ node_there layout object n = first ∙ ap (λ (p : Option ℕ × Option ℕ). p.0) nodes in
      let second_is : parts.second ≡ node_there layout object (n + 1) = second ∙ ap (λ (p : Option ℕ × Option ℕ). p.1) nodes in
      let bytes_is : parts.bytes ≡ charge_there object (signature_of object.shape) n + charge_there object (signature_of object.shape) (n + 1) =
      charged ∙ m.charged ∙ ap (sum_by (charge_there object (signature_to target))) cover
      ∙ (let sum = sum_by-cons (charge_there object (signature_to target)) n ((n + 1) ∷ []) in let last = sum_by-cons (charge_there object (signature_to target)) (n + 1) [] in
      let e : sum_by (charge_there object (signature_to target)) (n ∷ (n + 1) ∷ []) ≡ charge_there object (signature_to target) n + charge_there object (signature_to target) (n + 1) = omega (arith, sum, last) in e)
      ∙ ap₂ (λ (a b : ℕ). a + b) (there-same object target object_valid is n) (there-same object target object_valid is (n + 1)) in
      let more : AreMore state valid number object here live named (map (part object.key) (n ∷ (n + 1) ∷ [])) (charge_there object (signature_of object.shape) n + charge_there object (signature_of object.shape) (n + 1)) (one_there state valid number object here live named n + one_there state valid number object here live named (n + 1)) =
      two-pinned state valid number object here live named n (n + 1) (next-apart n) in
      let counted : count_in_range parts ≡ one_there state valid number object here live named n + one_there state valid number object here live named (n + 1) =
      ap₂ (λ (a b : Option ℕ). one_if_some a + one_if_some b) first_is second_is ∙ ap₂ (λ (a b : ℕ). a + b) (node-counts layout object n (part_at object n) refl) (node-counts layout object (n + 1) (part_at object (n + 1)) refl) in
      subst (λ (ns : List ℕ). AreCovered state layout (map (part object.key) ns) parts) (sym cover)
      (record {
        lie = record {
          of_named = of-named (n ∷ (n + 1) ∷ []);
          nodes = λ item listed. ap₂ (λ (a b : Option ℕ). is_node a (layout.place item) || is_node b (layout.place item)) first_is second_is
              ∙ ap₂ (λ (a b : Bool). a || b) (node-of-part state valid number object here live named layout lies n item listed) (node-of-part state valid number object here live named layout lies (n + 1) item listed ∙ sym (or-none (same_item item (part object.key (n + 1)))));
        };
        bytes = more.bytes_more ∙ ap (λ (k : ℕ). total_of (pinned state []) + k) (sym bytes_is);
        items = more.count_more ∙ ap (λ (k : ℕ). count_of (pinned state []) + k) (sym counted);
      })

  pub are-covered : AreCovered state layout (map (part object.key) (covered_parts offset count)) parts
  are-covered = by (nat_lt (1048576 - place) count) refl where
    by : (t : Bool) → nat_lt (1048576 - place) count ≡ t → AreCovered state layout (map (part object.key) (covered_parts offset count)) parts
    by true e = two (grind (arith, nat_tests, e))
    by false e = one (ltb-false (1048576 - place) count e)

pub measured-covered : MeasuredPartsAreCovered
measured-covered cache state image k handle number object target offset count found names live is some few m =
    let valid = k.kept.entries.valid in
    are-covered state valid k.layout k.kept.entries.represents.holds.lies number object names.here live (its-named cache state image k handle number object names) target (subst (λ (o : Option Object). IfSome o IsObject) names.here (valid.objects number)) is offset count some few found m
    (covered_of found) refl refl refl
