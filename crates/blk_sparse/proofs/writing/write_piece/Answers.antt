use Rattle.std.proofs.Common.{◌≡◌, ◌≤◌, ℕ, List, None, length, sym, ◌∙◌, ap, subst, arith}
use Rattle.std.specs.Int.{cast_unsigned, w64}
use Rattle.std.proofs.lemmas.Int.{of_z-to_z}
use Rattle.std.proofs.lemmas.Result.{on_ok_weaker}
use Rattle.spec_image.specs.Told.{Told}
use Rattle.spec_image.proofs.Runs.{passes_stayed}
use Rattle.blk_io.specs.Faults.{IfDamaged}
use Rattle.blk_io.proofs.Carried.{carried}
use Rattle.blk_model.specs.Holding.{rest}
use Rattle.law_state.specs.Changes.{Finds}
use Rattle.blk_sparse.specs.Parts.{IsPartFound}
use Rattle.blk_sparse.specs.SparseObjects.{KeepsParentThen, with_piece, with_piece_written}
use Rattle.blk_sparse.proofs.PartsOut.{stays-passes, stays-there}
use Rattle.blk_sparse.proofs.WritingPieces.{can-make, can-there, grows-finds, in-order-made, in-order-there, name-some, signed}
use Rattle.blk_sparse.proofs.writing.write_piece.Goals as goal

pub returns-in_err-part-clause-stops : goal.returns-in_err-part-clause-stops
returns-in_err-part-clause-stops g c from there state layout unlinked number object node can of_key =
    stays-passes (g.F.Folder.told c.args.folder.now) (g.F.Folder.told c.find_part.new.folder) from (Finds (rest state)) there c.in_err-part.ensures.reads.stays
    (grows-finds state layout unlinked number object node c.args.parent.now.entry (cast_unsigned w64 c.args.parent.now.signature) c.args.piece.number from can)

pub returns-in_err-part-clause-untold : goal.returns-in_err-part-clause-untold
returns-in_err-part-clause-untold g c from there state layout unlinked number object node can of_key =
    let same = of_z-to_z w64 (cast_unsigned w64 c.args.parent.now.signature) (let small = c.requires.signature in omega (arith, small)) in
    carried c.find_part.result c.from_residual.result c.in_err-part.field-0.0 (λ _. (g.F.Folder.told c.args.folder.now).files ≡ None) c.in_err-part.was c.from_residual.ensures.1
    (c.find_part.ensures.untold from there state layout unlinked number object node c.args.parent.now.entry (signed state layout unlinked number object node c.args.parent.now.entry (cast_unsigned w64 c.args.parent.now.signature) c.args.piece.number from can _ same) of_key)

pub change_part-requires-clause-is_open : goal.change_part-requires-clause-is_open
change_part-requires-clause-is_open g c image is = c.requires.is_open image (ap (λ (t : Told). t.files) (sym c.in_ok-part.ensures.reads.stays) ∙ is)

pub returns-in-Some-clause-written : goal.returns-in-Some-clause-written
returns-in-Some-clause-written g c =
    on_ok_weaker c.change_part.result
    (λ ends from there state layout unlinked number object node can of_key.
    let same = of_z-to_z w64 (cast_unsigned w64 c.args.parent.now.signature) (let small = c.requires.signature in omega (arith, small)) in
    let at = stays-there (g.F.Folder.told c.args.folder.now) (g.F.Folder.told c.find_part.new.folder) from there c.in_ok-part.ensures.reads.stays in
    let has = subst (IsPartFound layout object c.args.piece.number) c.in-Some.is (c.in_ok-part.ensures.part from there state layout unlinked number object node c.args.parent.now.entry (signed state layout unlinked number object node c.args.parent.now.entry (cast_unsigned w64 c.args.parent.now.signature) c.args.piece.number from can _ same) of_key) in
    ends from at state layout unlinked number object node c.args.parent.now.entry (cast_unsigned w64 c.args.parent.now.signature) c.args.piece.number (can-there state layout unlinked number object node c.args.parent.now.entry (cast_unsigned w64 c.args.parent.now.signature) c.args.piece.number from can) has)
    c.change_part.ensures.written

pub returns-in-Some-clause-ordered : goal.returns-in-Some-clause-ordered
returns-in-Some-clause-ordered g c =
    on_ok_weaker c.change_part.result
    (λ ends from there state layout unlinked number object node can of_key.
    let same = of_z-to_z w64 (cast_unsigned w64 c.args.parent.now.signature) (let small = c.requires.signature in omega (arith, small)) in
    let at = stays-there (g.F.Folder.told c.args.folder.now) (g.F.Folder.told c.find_part.new.folder) from there c.in_ok-part.ensures.reads.stays in
    let has = subst (IsPartFound layout object c.args.piece.number) c.in-Some.is (c.in_ok-part.ensures.part from there state layout unlinked number object node c.args.parent.now.entry (signed state layout unlinked number object node c.args.parent.now.entry (cast_unsigned w64 c.args.parent.now.signature) c.args.piece.number from can _ same) of_key) in
    in-order-there c.change_part.new.files state layout unlinked number object c.args.parent.now.entry (cast_unsigned w64 c.args.parent.now.signature) c.args.piece.number c.args.piece.place c.args.piece.bytes.now (g.F.Folder.told c.args.folder.now) (g.F.Folder.told c.change_part.new.folder) has.value has.has (g.F.Folder.told c.find_part.new.folder) c.in_ok-part.ensures.reads.stays
    (ends from at state layout unlinked number object node c.args.parent.now.entry (cast_unsigned w64 c.args.parent.now.signature) c.args.piece.number (can-there state layout unlinked number object node c.args.parent.now.entry (cast_unsigned w64 c.args.parent.now.signature) c.args.piece.number from can) has))
    c.change_part.ensures.ordered

pub returns-in-Some-clause-stops : goal.returns-in-Some-clause-stops
returns-in-Some-clause-stops g c from there state layout unlinked number object node can of_key =
    let same = of_z-to_z w64 (cast_unsigned w64 c.args.parent.now.signature) (let small = c.requires.signature in omega (arith, small)) in
    let at = stays-there (g.F.Folder.told c.args.folder.now) (g.F.Folder.told c.find_part.new.folder) from there c.in_ok-part.ensures.reads.stays in
    let has = subst (IsPartFound layout object c.args.piece.number) c.in-Some.is (c.in_ok-part.ensures.part from there state layout unlinked number object node c.args.parent.now.entry (signed state layout unlinked number object node c.args.parent.now.entry (cast_unsigned w64 c.args.parent.now.signature) c.args.piece.number from can _ same) of_key) in
    passes_stayed c.in_ok-part.ensures.reads.stays
    (c.change_part.ensures.stops from at state layout unlinked number object node c.args.parent.now.entry (cast_unsigned w64 c.args.parent.now.signature) c.args.piece.number (can-there state layout unlinked number object node c.args.parent.now.entry (cast_unsigned w64 c.args.parent.now.signature) c.args.piece.number from can) has)

pub returns-in-Some-clause-untold : goal.returns-in-Some-clause-untold
returns-in-Some-clause-untold g c from there state layout unlinked number object node can of_key =
    let same = of_z-to_z w64 (cast_unsigned w64 c.args.parent.now.signature) (let small = c.requires.signature in omega (arith, small)) in
    let at = stays-there (g.F.Folder.told c.args.folder.now) (g.F.Folder.told c.find_part.new.folder) from there c.in_ok-part.ensures.reads.stays in
    let has = subst (IsPartFound layout object c.args.piece.number) c.in-Some.is (c.in_ok-part.ensures.part from there state layout unlinked number object node c.args.parent.now.entry (signed state layout unlinked number object node c.args.parent.now.entry (cast_unsigned w64 c.args.parent.now.signature) c.args.piece.number from can _ same) of_key) in
    subst (λ (t : Told). IfDamaged c.change_part.result (λ _. t.files ≡ None)) c.in_ok-part.ensures.reads.stays
    (c.change_part.ensures.untold from at state layout unlinked number object node c.args.parent.now.entry (cast_unsigned w64 c.args.parent.now.signature) c.args.piece.number (can-there state layout unlinked number object node c.args.parent.now.entry (cast_unsigned w64 c.args.parent.now.signature) c.args.piece.number from can) has)

pub make_part-requires-clause-some_name : goal.make_part-requires-clause-some_name
make_part-requires-clause-some_name g c = subst (λ (bytes : List ℕ). 1 ≤ length bytes) (sym c.child_name-len.ensures.name) (name-some c.args.key.now _ c.args.piece.number)

pub make_part-requires-clause-is_open : goal.make_part-requires-clause-is_open
make_part-requires-clause-is_open g c image is = c.requires.is_open image (ap (λ (t : Told). t.files) (sym c.in_ok-part.ensures.reads.stays) ∙ is)

pub returns-clause-written : goal.returns-clause-written
returns-clause-written g c =
    on_ok_weaker c.make_part.result
    (λ ends from there state layout unlinked number object node can of_key image now.
    let same = of_z-to_z w64 (cast_unsigned w64 c.args.parent.now.signature) (let small = c.requires.signature in omega (arith, small)) in
    let at = stays-there (g.F.Folder.told c.args.folder.now) (g.F.Folder.told c.find_part.new.folder) from there c.in_ok-part.ensures.reads.stays in
    let none = subst (IsPartFound layout object c.args.piece.number) c.in_default.is (c.in_ok-part.ensures.part from there state layout unlinked number object node c.args.parent.now.entry (signed state layout unlinked number object node c.args.parent.now.entry (cast_unsigned w64 c.args.parent.now.signature) c.args.piece.number from can _ same) of_key) in
    subst (λ (t : ℕ). KeepsParentThen (with_piece_written state number object c.args.piece.number c.args.piece.place c.args.piece.bytes.now) layout unlinked number (with_piece object c.args.piece.number c.args.piece.place c.args.piece.bytes.now) node c.args.parent.now.entry t from image) same
    (ends from at state layout unlinked number object node (can-make state layout unlinked number object node c.args.parent.now.entry (cast_unsigned w64 c.args.parent.now.signature) c.args.piece.number from can c.args.key.now _ _ same of_key c.child_name-len.ensures.name none) image now))
    c.make_part.ensures.written

pub returns-clause-ordered : goal.returns-clause-ordered
returns-clause-ordered g c =
    on_ok_weaker c.make_part.result
    (λ ends from there state layout unlinked number object node can of_key.
    let same = of_z-to_z w64 (cast_unsigned w64 c.args.parent.now.signature) (let small = c.requires.signature in omega (arith, small)) in
    let at = stays-there (g.F.Folder.told c.args.folder.now) (g.F.Folder.told c.find_part.new.folder) from there c.in_ok-part.ensures.reads.stays in
    let none = subst (IsPartFound layout object c.args.piece.number) c.in_default.is (c.in_ok-part.ensures.part from there state layout unlinked number object node c.args.parent.now.entry (signed state layout unlinked number object node c.args.parent.now.entry (cast_unsigned w64 c.args.parent.now.signature) c.args.piece.number from can _ same) of_key) in
    in-order-made c.make_part.new.files state layout unlinked number object c.args.parent.now.entry (cast_unsigned w64 c.args.parent.now.signature) c.args.piece.number c.args.piece.place c.args.piece.bytes.now (g.F.Folder.told c.args.folder.now) (g.F.Folder.told c.make_part.new.folder) c.args.key.now _ _ none of_key same c.child_name-len.ensures.name (g.F.Folder.told c.find_part.new.folder) c.in_ok-part.ensures.reads.stays
    (ends from at state layout unlinked number object node (can-make state layout unlinked number object node c.args.parent.now.entry (cast_unsigned w64 c.args.parent.now.signature) c.args.piece.number from can c.args.key.now _ _ same of_key c.child_name-len.ensures.name none)))
    c.make_part.ensures.ordered

pub returns-clause-stops : goal.returns-clause-stops
returns-clause-stops g c from there state layout unlinked number object node can of_key =
    let same = of_z-to_z w64 (cast_unsigned w64 c.args.parent.now.signature) (let small = c.requires.signature in omega (arith, small)) in
    let at = stays-there (g.F.Folder.told c.args.folder.now) (g.F.Folder.told c.find_part.new.folder) from there c.in_ok-part.ensures.reads.stays in
    let none = subst (IsPartFound layout object c.args.piece.number) c.in_default.is (c.in_ok-part.ensures.part from there state layout unlinked number object node c.args.parent.now.entry (signed state layout unlinked number object node c.args.parent.now.entry (cast_unsigned w64 c.args.parent.now.signature) c.args.piece.number from can _ same) of_key) in
    passes_stayed c.in_ok-part.ensures.reads.stays
    (c.make_part.ensures.stops from at state layout unlinked number object node (can-make state layout unlinked number object node c.args.parent.now.entry (cast_unsigned w64 c.args.parent.now.signature) c.args.piece.number from can c.args.key.now _ _ same of_key c.child_name-len.ensures.name none))

pub returns-clause-untold : goal.returns-clause-untold
returns-clause-untold g c from there state layout unlinked number object node can of_key =
    let same = of_z-to_z w64 (cast_unsigned w64 c.args.parent.now.signature) (let small = c.requires.signature in omega (arith, small)) in
    let at = stays-there (g.F.Folder.told c.args.folder.now) (g.F.Folder.told c.find_part.new.folder) from there c.in_ok-part.ensures.reads.stays in
    let none = subst (IsPartFound layout object c.args.piece.number) c.in_default.is (c.in_ok-part.ensures.part from there state layout unlinked number object node c.args.parent.now.entry (signed state layout unlinked number object node c.args.parent.now.entry (cast_unsigned w64 c.args.parent.now.signature) c.args.piece.number from can _ same) of_key) in
    subst (λ (t : Told). IfDamaged c.make_part.result (λ _. t.files ≡ None)) c.in_ok-part.ensures.reads.stays
    (c.make_part.ensures.untold from at state layout unlinked number object node (can-make state layout unlinked number object node c.args.parent.now.entry (cast_unsigned w64 c.args.parent.now.signature) c.args.piece.number from can c.args.key.now _ _ same of_key c.child_name-len.ensures.name none))
