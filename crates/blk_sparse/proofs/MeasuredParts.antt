-- The parts in range, as they are measured before a write.
use Rattle.std.proofs.Common.{◌≡◌, ℕ, ◌+◌, ◌-◌, ◌/◌, ◌%◌, ◌≤◌, ◌<◌, List, [], ◌∷◌, length, take, true, Option, None, Some, refl, sym, ◌∙◌, ap, ap₂, subst, arith}
use Rattle.std.proofs.lemmas.List.{take-take}
use Rattle.std.specs.Prelude.{IfSome, max, slice_index, sum_by, unwrap_or}
use Rattle.std.specs.Option.{option_and_then, option_map, option_map_or}
use Rattle.spec_image.specs.Image.{Image}
use Rattle.spec_image.proofs.Runs.{some_inj}
use Rattle.blk_model.specs.Charge.{part_charge, part_name}
use Rattle.blk_model.specs.Items.{PartValue, Row, Shape, is_sparse, main, main_row, part, part_row, plain, signature_of, sparse}
use Rattle.blk_model.specs.Sparse.{covered_parts, empty_part}
use Rattle.blk_model.specs.State.{IsObject, Object, State, object_at, part_at}
use Rattle.blk_model.specs.Totals.{row_charge, signature_for}
use Rattle.spec_format.specs.Names.{Name, child_name}
use Rattle.spec_format.specs.SparseIndex.{PartIndex}
use Rattle.spec_folder.specs.Entries.{IsParent, IsPart, IsPlain, Role, stream}
use Rattle.spec_folder.specs.Found.{charge_of, row_of_loaded, row_with}
use Rattle.spec_folder.specs.Layout.{Layout, rule_of}
use Rattle.spec_folder.specs.Loads.{Loaded}
use Rattle.spec_folder.specs.View.{RecordFields, entry_at, fields_of, store_of, view_of}
use Rattle.law_folder.proofs.chains.ChainWords.{shown-fields}
use Rattle.law_folder.proofs.states.Charges.{items-charged, part-names}
use Rattle.law_folder.proofs.states.Settling.{main-owned}
use Rattle.law_folder.proofs.walks.Loads.{load-then}
use Rattle.blk_entry.specs.declared.keys.Head.{Head}
use Rattle.blk_entry.specs.Keys.{IsRecordHead}
use Rattle.blk_object.specs.Owning.{LoadsWith}
use Rattle.blk_object.specs.Writing.{node_of_object}
use Rattle.blk_object.proofs.OwnedCharges.{owned-charge, streams-length}
use Rattle.blk_object.proofs.WrittenObjects.{object-row}
use Rattle.blk_object.proofs.WrittenParts.{its-row, part-listed}
use Rattle.blk_sparse.specs.declared.measuring.Measured.{Measured}
use Rattle.blk_sparse.specs.declared.measuring.Piece.{Piece}
use Rattle.blk_sparse.specs.Children.{HasParentKey}
use Rattle.blk_sparse.specs.Measuring.{IsMeasured, IsOne, IsPieceMeasured, IsPlainKept, IsTwo, charge_there, charge_up_to, end_in, node_there, nodes_there, one_if_none}
use Rattle.blk_sparse.specs.SparseObjects.{HasPartAt, KeepsParent, missing_parts, value_or_empty}
use Rattle.blk_sparse.proofs.FoundParts.{row-of-part}
use Rattle.blk_sparse.proofs.MapsRead.{part-loads, says-bytes}
use Rattle.blk_sparse.proofs.PartUses.{node-said}
use Rattle.blk_sparse.proofs.UsedParts.{its-part}
use Rattle.blk_sparse.proofs.WritingCovered.{missing-two}

-- ---- a part that there is

-- the second of the sizes that a record says is the length of its second stream
second-size : (image : Image) (entry : ℕ) (head : Head) (loaded : Loaded) → IsRecordHead image entry head → LoadsWith entry loaded image → slice_index head.sizes 1 ≡ length (stream 1 loaded.streams)
second-size image entry head loaded is with_record = ap (λ (sizes : List ℕ). slice_index sizes 1) is.sizes ∙ load-then (store_of image) with_record.rule with_record.node loaded with_record.loads (λ n e f.
    let here : (store_of image).entry entry ≡ Some e = ap (store_of image).entry (sym with_record.contents ∙ f.facts.contents_is) ∙ f.entry in
    let shown : fields_of (entry_at image entry) ≡ e = shown-fields image entry e here in
    ap (λ (x : RecordFields). slice_index x.data_size 1) shown ∙ sym (streams-length image e loaded.streams f.facts.streams).second)

none-some : {A : Type 0} {x : A} → ◌≡◌ {A = Option A} None (Some x) → ⊥
none-some e = cc

-- what it takes up more
longer : (name was end : ℕ) → (name + was + 192) + (end - was) ≡ name + max was end + 192
longer name was end = omega arith

module _ (state : State) (layout : Layout) (unlinked : List ℕ) (number : ℕ) (object : Object) (node entry signature : ℕ) (from : Image) (p : KeepsParent state layout unlinked number object node entry signature from) where
  -- its object has the generation of its index
  pub shape-is : object.shape ≡ sparse signature
  shape-is =
      let lies : layout.at (node_of_object layout number object) ≡ Some p.was = rw p.live p.lies in
      let row = (object-row state layout unlinked from p.kept number object p.here p.was lies).row in
      sym (ap shape-of row) ∙ ap (λ (r : Role). shape-of (row_with p.was.key r p.was.streams)) p.role ∙ ap sparse p.same
    where
      shape-of : Row → Shape
      shape-of (main_row key shape streams) = shape
      shape-of (part_row key n value) = plain

  module _ (n of_part : ℕ) (at : HasPartAt layout object n of_part) where
    its-signature : signature_for state object.key ≡ signature
    its-signature =
        ap (λ (w : Option ℕ). option_map_or (λ (o : Object). signature_of o.shape) (option_and_then (object_at state) w) 0) (main-owned state p.kept.valid number object true p.here p.live)
        ∙ ap (λ (o : Option Object). option_map_or (λ (x : Object). signature_of x.shape) o 0) p.here ∙ ap signature_of shape-is

    its-charge : charge_of at.was ≡ part_charge object.key signature n at.value
    its-charge =
        let listed = part-listed state p.kept.valid number object p.here p.live n at.value at.has in
        let row = its-row state layout unlinked from p.kept number object p.here p.live n at.value at.has at.was at.lies in
        let rows : ◌≡◌ {A = Option Row} (Some (part_row object.key n at.value)) (Some (row_of_loaded at.was)) = ap (option_map (λ (value : PartValue). part_row object.key n value)) (sym at.has) ∙ row-of-part state p.kept.valid number object p.here p.live n (row_of_loaded at.was) row in
        items-charged (view_of from) state layout p.kept.represents (part object.key n) at.was listed at.lies ∙ ap (row_charge state) (sym (some_inj rows)) ∙ ap (λ (s : ℕ). part_charge object.key s n at.value) its-signature

    pub there-measured : (head : Head) (its_node end : ℕ) (piece : Piece) → IsRecordHead from of_part head → its_node ≡ (entry_at from of_part).rankings_node
        → piece.node ≡ Some its_node → piece.charged ≡ head.key_len + slice_index head.sizes 0 + slice_index head.sizes 1 + slice_index head.sizes 2 → piece.bytes ≡ end - slice_index head.sizes 1
        → IsPieceMeasured layout object signature n end piece
    there-measured head its_node end piece is named node-is charged-is bytes-is =
        let loads = part-loads state layout unlinked number object node entry signature from p n of_part at in
        let all : piece.charged ≡ part_charge object.key signature n at.value = charged-is ∙ owned-charge from of_part head at.was is loads ∙ its-charge in
        let size : slice_index head.sizes 1 ≡ length at.value.bytes = second-size from of_part head at.was is loads ∙ ap length (says-bytes state layout unlinked number object node entry signature from p n of_part at) in
        let less : piece.bytes ≡ end - length at.value.bytes = bytes-is ∙ ap (λ (k : ℕ). end - k) size in
        let empty : value_or_empty object n ≡ at.value = ap (λ (o : Option PartValue). unwrap_or o empty_part) at.has in
        let up : charge_up_to object signature n end ≡ length (part_name object.key signature n) + max (length at.value.bytes) end + 192 = ap (λ (v : PartValue). length (part_name object.key signature n) + max (length v.bytes) end + 192) empty in
        record {
          node = node-is ∙ ap Some (named ∙ node-said state layout unlinked (part object.key n) of_part from (its-part state layout unlinked number object node entry signature from p n of_part at))
              ∙ sym (ap (option_map (λ (value : PartValue). layout.place (part object.key n))) at.has);
          charged = all ∙ sym (ap (λ (o : Option PartValue). option_map_or (part_charge object.key signature n) o 0) at.has);
          risen = ap₂ (λ (a b : ℕ). a + b) all less ∙ longer (length (part_name object.key signature n)) (length at.value.bytes) end ∙ sym up;
        }

-- ---- one that is made

new-charge : (name end : ℕ) → 0 + (name + end + 192) ≡ name + max 0 end + 192
new-charge name end = omega arith

pub new-measured : (layout : Layout) (object : Object) (signature n end : ℕ) (piece : Piece) → part_at object n ≡ None → piece.node ≡ None → piece.charged ≡ 0 → piece.bytes ≡ length (child_name object.key signature n) + end + 192
    → IsPieceMeasured layout object signature n end piece
new-measured layout object signature n end piece none node-is charged-is bytes-is =
    let name : length (child_name object.key signature n) ≡ length (part_name object.key signature n) = sym (ap length (part-names object.key signature n)) in
    let bytes : piece.bytes ≡ length (part_name object.key signature n) + end + 192 = bytes-is ∙ ap (λ (k : ℕ). k + end + 192) name in
    record {
      node = node-is ∙ sym (ap (option_map (λ (value : PartValue). layout.place (part object.key n))) none);
      charged = charged-is ∙ sym (ap (λ (o : Option PartValue). option_map_or (part_charge object.key signature n) o 0) none);
      risen = ap₂ (λ (a b : ℕ). a + b) charged-is bytes ∙ new-charge (length (part_name object.key signature n)) end
          ∙ sym (ap (λ (o : Option PartValue). length (part_name object.key signature n) + max (length (unwrap_or o empty_part).bytes) end + 192) none);
    }

-- ---- together

missing-of : (layout : Layout) (object : Object) (n : ℕ) (o : Option PartValue) → part_at object n ≡ o → one_if_none (node_there layout object n) ≡ length (missing_parts object (n ∷ []))
missing-of layout object n None e = rw e refl
missing-of layout object n (Some v) e = rw e refl

sum-one : (f : ℕ → ℕ) (n : ℕ) → sum_by f (n ∷ []) ≡ f n
sum-one f n = omega arith

sum-two : (f : ℕ → ℕ) (n m : ℕ) → sum_by f (n ∷ m ∷ []) ≡ f n + f m
sum-two f n m = omega arith

module _ (layout : Layout) (object : Object) (signature offset count : ℕ) (found : Measured) where
  pub one-measured : (n end : ℕ) (piece : Piece) → covered_parts offset count ≡ n ∷ [] → end_in offset count n ≡ end → IsPieceMeasured layout object signature n end piece → IsOne piece found → IsMeasured layout object signature offset count found
  one-measured n end piece covers ends m one =
      let risen : found.charged + found.bytes ≡ charge_up_to object signature n (end_in offset count n) = ap₂ (λ (a b : ℕ). a + b) one.charged one.bytes ∙ m.risen ∙ ap (charge_up_to object signature n) (sym ends) in
      record {
        nodes = ap₂ (λ (a b : Option ℕ). (a, b)) (one.first ∙ m.node) one.second ∙ sym (ap (nodes_there layout object) covers);
        charged = one.charged ∙ m.charged ∙ sym (sum-one (charge_there object signature) n) ∙ sym (ap (sum_by (charge_there object signature)) covers);
        risen = risen ∙ sym (sum-one (λ k. charge_up_to object signature k (end_in offset count k)) n) ∙ sym (ap (sum_by (λ k. charge_up_to object signature k (end_in offset count k))) covers);
        missing = one.items ∙ ap one_if_none m.node ∙ missing-of layout object n (part_at object n) refl ∙ sym (ap (λ (ns : List ℕ). length (missing_parts object ns)) covers);
      }

  pub two-measured : (n first_end second_end : ℕ) (front back : Piece) → covered_parts offset count ≡ n ∷ (n + 1) ∷ [] → end_in offset count n ≡ first_end → end_in offset count (n + 1) ≡ second_end
      → IsPieceMeasured layout object signature n first_end front → IsPieceMeasured layout object signature (n + 1) second_end back → IsTwo front back found → IsMeasured layout object signature offset count found
  two-measured n first_end second_end front back covers first second f b two =
      let up_first : front.charged + front.bytes ≡ charge_up_to object signature n (end_in offset count n) = f.risen ∙ ap (charge_up_to object signature n) (sym first) in
      let up_second : back.charged + back.bytes ≡ charge_up_to object signature (n + 1) (end_in offset count (n + 1)) = b.risen ∙ ap (charge_up_to object signature (n + 1)) (sym second) in
      let charged = two.charged in
      let bytes = two.bytes in
      let risen : found.charged + found.bytes ≡ charge_up_to object signature n (end_in offset count n) + charge_up_to object signature (n + 1) (end_in offset count (n + 1)) = omega (arith, up_first, up_second, charged, bytes) in
      record {
        nodes = ap₂ (λ (a b : Option ℕ). (a, b)) (two.first ∙ f.node) (two.second ∙ b.node) ∙ sym (ap (nodes_there layout object) covers);
        charged = two.charged ∙ ap₂ (λ (a b : ℕ). a + b) f.charged b.charged ∙ sym (sum-two (charge_there object signature) n (n + 1)) ∙ sym (ap (sum_by (charge_there object signature)) covers);
        risen = risen ∙ sym (sum-two (λ k. charge_up_to object signature k (end_in offset count k)) n (n + 1)) ∙ sym (ap (sum_by (λ k. charge_up_to object signature k (end_in offset count k))) covers);
        missing = two.items ∙ ap₂ (λ (a b : Option ℕ). one_if_none a + one_if_none b) f.node b.node
            ∙ ap₂ (λ (a b : ℕ). a + b) (missing-of layout object n (part_at object n) refl) (missing-of layout object (n + 1) (part_at object (n + 1)) refl)
            ∙ sym (missing-two object n (n + 1) (part_at object n) refl) ∙ sym (ap (λ (ns : List ℕ). length (missing_parts object ns)) covers);
      }

-- where they end
pub end-one : (offset count n place : ℕ) → n ≡ offset / 1048576 → place ≡ offset % 1048576 → place + count ≤ 1048576 → end_in offset count n ≡ place + count
end-one offset count n place is_part is_place fits = omega (arith, is_part, is_place, fits)

pub end-first : (offset count n place : ℕ) → n ≡ offset / 1048576 → place ≡ offset % 1048576 → 1048576 < place + count → end_in offset count n ≡ 1048576
end-first offset count n place is_part is_place more = omega (arith, is_part, is_place, more)

pub end-second : (offset count n place : ℕ) → n ≡ offset / 1048576 → place ≡ offset % 1048576 → 1048576 < place + count → count ≤ 1048576 → end_in offset count (n + 1) ≡ place + count - 1048576
end-second offset count n place is_part is_place more few = omega (arith, is_part, is_place, more, few)

-- an object without parts lacks each
pub lacks : (object : Object) (n : ℕ) → object.parts ≡ [] → part_at object n ≡ None
lacks object n none = ap (λ (ps : List (ℕ × PartValue)). part_at (record object { parts = ps }) n) none

-- ---- a plain object

module _ (state : State) (layout : Layout) (unlinked : List ℕ) (number : ℕ) (object : Object) (node entry : ℕ) (from : Image) (p : IsPlainKept state layout unlinked number object node entry from) where
  plain-object : IsObject object
  plain-object = subst (λ (o : Option Object). IfSome o IsObject) p.here (p.kept.valid.objects number)

  pub plain-parts : object.parts ≡ []
  plain-parts = plain-object.plain_has_no_parts (ap is_sparse p.is_plain)

  its-row-is : row_of_loaded p.was ≡ main_row object.key object.shape object.streams
  its-row-is =
      let lies : layout.at (node_of_object layout number object) ≡ Some p.was = rw p.live p.lies in
      (object-row state layout unlinked from p.kept number object p.here p.was lies).row

  key-is : p.was.key ≡ object.key
  key-is = by p.was.role refl its-row-is where
    key-of-row : Row → List ℕ
    key-of-row (main_row key shape streams) = key
    key-of-row (part_row key n value) = key

    not-part : (name : Name) (index : PartIndex) → row_with p.was.key (IsPart name index) p.was.streams ≡ main_row object.key object.shape object.streams → ⊥
    not-part name index h = cc

    by : (role : Role) → p.was.role ≡ role → row_of_loaded p.was ≡ main_row object.key object.shape object.streams → p.was.key ≡ object.key
    by IsPlain e row = ap key-of-row (sym (ap (λ (r : Role). row_with p.was.key r p.was.streams) e) ∙ row)
    by (IsParent index) e row = ap key-of-row (sym (ap (λ (r : Role). row_with p.was.key r p.was.streams) e) ∙ row)
    by (IsPart name index) e row = absurd (not-part name index (sym (ap (λ (r : Role). row_with p.was.key r p.was.streams) e) ∙ row))

  pub plain-key : HasParentKey entry object.key from
  plain-key = record {
    loaded = p.was;
    loads = record { rule = rule_of layout (layout.place (main object.key)); node = layout.place (main object.key); loads = p.kept.represents.holds.shows.each (layout.place (main object.key)) p.was p.lies; contents = p.record_is };
    key_is = key-is;
    some = plain-object.key.some;
    short = plain-object.key.short;
  }

  pub plain-key-same : (len : ℕ) (name front : List ℕ) → front ≡ take 32768 name → len ≤ 32768 → ((key : List ℕ) → HasParentKey entry key from → take len name ≡ key) → object.key ≡ take len front
  plain-key-same len name front is short read = sym (ap (take len) is ∙ take-take len 32768 name short ∙ read object.key plain-key)
