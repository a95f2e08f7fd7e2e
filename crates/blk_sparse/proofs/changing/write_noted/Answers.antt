use Rattle.std.proofs.Common.{◌≡◌, false, ℕ, ◌<◌, None, arith, subst}
use Rattle.std.proofs.lemmas.List.Elements.{All-from_get_or}
use Rattle.std.proofs.lemmas.Result.{on_ok_weaker}
use Rattle.blk_io.proofs.Carried.{carried}
use Rattle.std.specs.Option.{ForSome}
use Rattle.spec_image.specs.Told.{Passes}
use Rattle.blk_io.specs.Faults.{IfDamaged}
use Rattle.blk_model.specs.Holding.{rest}
use Rattle.blk_model.specs.Items.{IsBytes}
use Rattle.law_state.specs.Changes.{Finds}
use Rattle.blk_object.specs.Writing.{ForEachPartUnsettled, IsPartWrittenUncounted}
use Rattle.blk_sparse.proofs.ChangedParts.{both-changed, both-stops, both-untold, data-first, data-stops, data-untold}
use Rattle.blk_sparse.proofs.changing.write_noted.Goals as goal

pub returns-in_err-write_object-clause-stops : goal.returns-in_err-write_object-clause-stops
returns-in_err-write_object-clause-stops g c from there state layout unlinked number object node entry signature n t =
    let piece : IsBytes c.args.piece.now = All-from_get_or (λ (b : ℕ). b < 256) c.args.piece.now 0 (λ i within. omega (arith, c.type_inv.piece i)) in
    let bytes : IsBytes c.args.map.now = All-from_get_or (λ (b : ℕ). b < 256) c.args.map.now 0 (λ i within. omega (arith, c.type_inv.map i)) in
    data-stops (g.F.Folder.told c.args.folder.now) (g.F.Folder.told c.write_object.new.folder) (g.F.Folder.told c.write_object.new.folder) c.args.part c.args.place c.args.piece.now c.args.map.now piece bytes c.requires.inside from there state layout unlinked number object node entry signature n t (subst (λ (p : ℕ). ForSome (g.F.Folder.told c.args.folder.now).files (λ from. ForEachPartUnsettled c.args.part 1 p false c.args.piece.now from (λ state layout unlinked number object n value was role. Passes (g.F.Folder.told c.args.folder.now) (g.F.Folder.told c.write_object.new.folder) (Finds (rest state))))) c.from-offset.ensures c.in_err-write_object.ensures.part_stops)

pub returns-in_err-write_object-clause-untold : goal.returns-in_err-write_object-clause-untold
returns-in_err-write_object-clause-untold g c from there state layout unlinked number object node entry signature n t =
    let piece : IsBytes c.args.piece.now = All-from_get_or (λ (b : ℕ). b < 256) c.args.piece.now 0 (λ i within. omega (arith, c.type_inv.piece i)) in
    let bytes : IsBytes c.args.map.now = All-from_get_or (λ (b : ℕ). b < 256) c.args.map.now 0 (λ i within. omega (arith, c.type_inv.map i)) in
    carried c.write_object.result c.from_residual.result c.in_err-write_object.field-0.0 (λ _. (g.F.Folder.told c.args.folder.now).files ≡ None) c.in_err-write_object.was c.from_residual.ensures.1
    (data-untold (g.F.Folder.told c.args.folder.now) (g.F.Folder.told c.write_object.new.folder) (g.F.Folder.told c.write_object.new.folder) c.args.part c.args.place c.args.piece.now c.args.map.now piece bytes c.requires.inside from there state layout unlinked number object node entry signature n t c.write_object.result (subst (λ (p : ℕ). ForSome (g.F.Folder.told c.args.folder.now).files (λ from. ForEachPartUnsettled c.args.part 1 p false c.args.piece.now from (λ state layout unlinked number object n value was role. IfDamaged c.write_object.result (λ _. (g.F.Folder.told c.args.folder.now).files ≡ None)))) c.from-offset.ensures c.write_object.ensures.part_untold))

pub returns-clause-stops : goal.returns-clause-stops
returns-clause-stops g c from there state layout unlinked number object node entry signature n t =
    let piece : IsBytes c.args.piece.now = All-from_get_or (λ (b : ℕ). b < 256) c.args.piece.now 0 (λ i within. omega (arith, c.type_inv.piece i)) in
    let bytes : IsBytes c.args.map.now = All-from_get_or (λ (b : ℕ). b < 256) c.args.map.now 0 (λ i within. omega (arith, c.type_inv.map i)) in
    both-stops (g.F.Folder.told c.args.folder.now) (g.F.Folder.told c.write_object.new.folder) (g.F.Folder.told c.write_object-2.new.folder) c.args.part c.args.place c.args.piece.now c.args.map.now piece bytes c.requires.inside from there state layout unlinked number object node entry signature n t (subst (λ (p : ℕ). ForSome (g.F.Folder.told c.args.folder.now).files (λ from. ForEachPartUnsettled c.args.part 1 p false c.args.piece.now from (λ state layout unlinked number object n value was role. Passes (g.F.Folder.told c.args.folder.now) (g.F.Folder.told c.write_object.new.folder) (Finds (rest state))))) c.from-offset.ensures c.in_ok-write_object.ensures.part_stops) (subst (λ (p : ℕ). ForSome (g.F.Folder.told c.args.folder.now).files (λ from. ForEachPartUnsettled c.args.part 1 p false c.args.piece.now from (λ state layout unlinked number object n value was role. ForSome (g.F.Folder.told c.write_object.new.folder).files (IsPartWrittenUncounted state layout unlinked number object n value was role 1 p false c.args.piece.now from)))) c.from-offset.ensures c.in_ok-write_object.ensures.part_written) c.write_object-2.ensures.part_stops

pub returns-clause-ordered : goal.returns-clause-ordered
returns-clause-ordered g c = on_ok_weaker c.write_object-2.result
    (λ ends from there state layout unlinked number object node entry signature n t.
    let piece : IsBytes c.args.piece.now = All-from_get_or (λ (b : ℕ). b < 256) c.args.piece.now 0 (λ i within. omega (arith, c.type_inv.piece i)) in
    let bytes : IsBytes c.args.map.now = All-from_get_or (λ (b : ℕ). b < 256) c.args.map.now 0 (λ i within. omega (arith, c.type_inv.map i)) in
    data-first (g.F.Folder.told c.args.folder.now) (g.F.Folder.told c.write_object.new.folder) (g.F.Folder.told c.write_object-2.new.folder) c.args.part c.args.place c.args.piece.now c.args.map.now piece bytes c.requires.inside from there state layout unlinked number object node entry signature n t (subst (λ (p : ℕ). ForSome (g.F.Folder.told c.args.folder.now).files (λ from. ForEachPartUnsettled c.args.part 1 p false c.args.piece.now from (λ state layout unlinked number object n value was role. Passes (g.F.Folder.told c.args.folder.now) (g.F.Folder.told c.write_object.new.folder) (Finds (rest state))))) c.from-offset.ensures c.in_ok-write_object.ensures.part_stops) (subst (λ (p : ℕ). ForSome (g.F.Folder.told c.args.folder.now).files (λ from. ForEachPartUnsettled c.args.part 1 p false c.args.piece.now from (λ state layout unlinked number object n value was role. ForSome (g.F.Folder.told c.write_object.new.folder).files (IsPartWrittenUncounted state layout unlinked number object n value was role 1 p false c.args.piece.now from)))) c.from-offset.ensures c.in_ok-write_object.ensures.part_written) c.write_object-2.ensures.part_stops)
    c.write_object-2.ensures.part_written

pub returns-clause-written : goal.returns-clause-written
returns-clause-written g c = on_ok_weaker c.write_object-2.result
    (λ ends from there state layout unlinked number object node entry signature n t.
    let piece : IsBytes c.args.piece.now = All-from_get_or (λ (b : ℕ). b < 256) c.args.piece.now 0 (λ i within. omega (arith, c.type_inv.piece i)) in
    let bytes : IsBytes c.args.map.now = All-from_get_or (λ (b : ℕ). b < 256) c.args.map.now 0 (λ i within. omega (arith, c.type_inv.map i)) in
    both-changed (g.F.Folder.told c.args.folder.now) (g.F.Folder.told c.write_object.new.folder) (g.F.Folder.told c.write_object-2.new.folder) c.args.part c.args.place c.args.piece.now c.args.map.now piece bytes c.requires.inside from there state layout unlinked number object node entry signature n t (subst (λ (p : ℕ). ForSome (g.F.Folder.told c.args.folder.now).files (λ from. ForEachPartUnsettled c.args.part 1 p false c.args.piece.now from (λ state layout unlinked number object n value was role. Passes (g.F.Folder.told c.args.folder.now) (g.F.Folder.told c.write_object.new.folder) (Finds (rest state))))) c.from-offset.ensures c.in_ok-write_object.ensures.part_stops) (subst (λ (p : ℕ). ForSome (g.F.Folder.told c.args.folder.now).files (λ from. ForEachPartUnsettled c.args.part 1 p false c.args.piece.now from (λ state layout unlinked number object n value was role. ForSome (g.F.Folder.told c.write_object.new.folder).files (IsPartWrittenUncounted state layout unlinked number object n value was role 1 p false c.args.piece.now from)))) c.from-offset.ensures c.in_ok-write_object.ensures.part_written) ends)
    c.write_object-2.ensures.part_written

pub returns-clause-untold : goal.returns-clause-untold
returns-clause-untold g c from there state layout unlinked number object node entry signature n t =
    let piece : IsBytes c.args.piece.now = All-from_get_or (λ (b : ℕ). b < 256) c.args.piece.now 0 (λ i within. omega (arith, c.type_inv.piece i)) in
    let bytes : IsBytes c.args.map.now = All-from_get_or (λ (b : ℕ). b < 256) c.args.map.now 0 (λ i within. omega (arith, c.type_inv.map i)) in
    both-untold (g.F.Folder.told c.args.folder.now) (g.F.Folder.told c.write_object.new.folder) (g.F.Folder.told c.write_object-2.new.folder) c.args.part c.args.place c.args.piece.now c.args.map.now piece bytes c.requires.inside from there state layout unlinked number object node entry signature n t (subst (λ (p : ℕ). ForSome (g.F.Folder.told c.args.folder.now).files (λ from. ForEachPartUnsettled c.args.part 1 p false c.args.piece.now from (λ state layout unlinked number object n value was role. Passes (g.F.Folder.told c.args.folder.now) (g.F.Folder.told c.write_object.new.folder) (Finds (rest state))))) c.from-offset.ensures c.in_ok-write_object.ensures.part_stops) (subst (λ (p : ℕ). ForSome (g.F.Folder.told c.args.folder.now).files (λ from. ForEachPartUnsettled c.args.part 1 p false c.args.piece.now from (λ state layout unlinked number object n value was role. ForSome (g.F.Folder.told c.write_object.new.folder).files (IsPartWrittenUncounted state layout unlinked number object n value was role 1 p false c.args.piece.now from)))) c.from-offset.ensures c.in_ok-write_object.ensures.part_written) c.write_object-2.result c.write_object-2.ensures.part_untold
