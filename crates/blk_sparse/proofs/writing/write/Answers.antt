use Rattle.std.proofs.Common.{◌≡◌, ◌∙◌, ap, sym, subst, refl, None, length}
use Rattle.std.specs.Int.{cast_unsigned, w64}
use Rattle.std.proofs.lemmas.Bool.{eqb-true}
use Rattle.std.proofs.lemmas.Result.{on_ok_weaker}
use Rattle.spec_image.specs.Told.{Told}
use Rattle.spec_image.proofs.Runs.{passes_stayed, some_inj}
use Rattle.blk_io.specs.Faults.{IfDamaged}
use Rattle.blk_io.proofs.Carried.{carried}
use Rattle.blk_model.specs.Holding.{rest}
use Rattle.blk_model.specs.Sparse.{covered_parts}
use Rattle.law_state.specs.Changes.{Finds}
use Rattle.blk_sparse.specs.Children.{HasParentKey}
use Rattle.blk_sparse.specs.Writing.{AreInOrder}
use Rattle.blk_sparse.proofs.KeptParents.{key-same, parent-key}
use Rattle.blk_sparse.proofs.PartsOut.{stays-passes, stays-there}
use Rattle.blk_sparse.proofs.WritingCovered.{covered-finds, none-written, order-none}
use Rattle.blk_sparse.proofs.writing.write.Goals as goal

pub returns-then-is_empty-clause-written : goal.returns-then-is_empty-clause-written
returns-then-is_empty-clause-written g c from there state layout unlinked number object can image now =
    none-written state layout unlinked number object c.args.parent.now.node c.args.parent.now.entry (cast_unsigned w64 c.args.parent.now.signature) from c.args.data.offset c.args.data.bytes.now can (eqb-true (length c.args.data.bytes.now) 0 (sym c.is_empty.ensures ∙ c.if-is_empty.true)) image (some_inj (sym now ∙ there))

pub returns-then-is_empty-clause-stops : goal.returns-then-is_empty-clause-stops
returns-then-is_empty-clause-stops g c from there state layout unlinked number object can =
    stays-passes (g.F.Folder.told c.args.f.now) (g.F.Folder.told c.args.f.now) from (Finds (rest state)) there refl (covered-finds state layout unlinked number object c.args.parent.now.node c.args.parent.now.entry (cast_unsigned w64 c.args.parent.now.signature) from c.args.data.offset c.args.data.bytes.now can)

pub returns-in_err-len-clause-stops : goal.returns-in_err-len-clause-stops
returns-in_err-len-clause-stops g c from there state layout unlinked number object can =
    stays-passes (g.F.Folder.told c.args.f.now) (g.F.Folder.told c.read_key.new.folder) from (Finds (rest state)) there c.in_err-len.ensures.reads.stays (covered-finds state layout unlinked number object c.args.parent.now.node c.args.parent.now.entry (cast_unsigned w64 c.args.parent.now.signature) from c.args.data.offset c.args.data.bytes.now can)

pub returns-in_err-len-clause-untold : goal.returns-in_err-len-clause-untold
returns-in_err-len-clause-untold g c from there state layout unlinked number object can =
    carried c.read_key.result c.from_residual.result c.in_err-len.field-0.0 (λ _. (g.F.Folder.told c.args.f.now).files ≡ None) c.in_err-len.was c.from_residual.ensures.1
    (c.read_key.ensures.untold (λ image is. (c.requires.is_open image is).agrees) (λ image is. (object.key, subst (HasParentKey c.args.parent.now.entry object.key) (some_inj (sym there ∙ is)) (parent-key state layout unlinked number object c.args.parent.now.node c.args.parent.now.entry (cast_unsigned w64 c.args.parent.now.signature) from can.parent))))

pub write_covered-requires-clause-is_open : goal.write_covered-requires-clause-is_open
write_covered-requires-clause-is_open g c image is =
    c.requires.is_open image (ap (λ (t : Told). t.files) (sym c.in_ok-len.ensures.reads.stays) ∙ is)

pub returns-then-is_empty-clause-ordered : goal.returns-then-is_empty-clause-ordered
returns-then-is_empty-clause-ordered g c from there state layout unlinked number object can =
    order-none state layout unlinked number object c.args.parent.now.entry (cast_unsigned w64 c.args.parent.now.signature) c.args.data.offset c.args.data.bytes.now (g.F.Folder.told c.args.f.now) (eqb-true (length c.args.data.bytes.now) 0 (sym c.is_empty.ensures ∙ c.if-is_empty.true))

pub returns-clause-written : goal.returns-clause-written
returns-clause-written g c = on_ok_weaker c.write_covered.result
    (λ ends from there state layout unlinked number object can image is.
    let at = stays-there (g.F.Folder.told c.args.f.now) (g.F.Folder.told c.read_key.new.folder) from there c.in_ok-len.ensures.reads.stays in
    let same = key-same state layout unlinked number object c.args.parent.now.node c.args.parent.now.entry (cast_unsigned w64 c.args.parent.now.signature) from can.parent c.in_ok-len.len c.read_key.new.name c.split_at_mut-key.result.0.now c.split_at_mut-key.ensures.front c.in_ok-len.ensures.short (c.in_ok-len.ensures.key from there) in
    ends from at state layout unlinked number object c.args.parent.now.node can same image is)
    c.write_covered.ensures.written

pub returns-clause-ordered : goal.returns-clause-ordered
returns-clause-ordered g c = on_ok_weaker c.write_covered.result
    (λ ends from there state layout unlinked number object can.
    let at = stays-there (g.F.Folder.told c.args.f.now) (g.F.Folder.told c.read_key.new.folder) from there c.in_ok-len.ensures.reads.stays in
    let same = key-same state layout unlinked number object c.args.parent.now.node c.args.parent.now.entry (cast_unsigned w64 c.args.parent.now.signature) from can.parent c.in_ok-len.len c.read_key.new.name c.split_at_mut-key.result.0.now c.split_at_mut-key.ensures.front c.in_ok-len.ensures.short (c.in_ok-len.ensures.key from there) in
    subst (λ (t : Told). AreInOrder (covered_parts c.args.data.offset (length c.args.data.bytes.now)) (record { state = state; layout = layout; unlinked = unlinked; number = number; object = object }) c.args.parent.now.entry (cast_unsigned w64 c.args.parent.now.signature) c.args.data.offset c.args.data.bytes.now t (g.F.Folder.told c.write_covered.new.folder)) c.in_ok-len.ensures.reads.stays
    (ends from at state layout unlinked number object c.args.parent.now.node can same))
    c.write_covered.ensures.ordered

pub returns-clause-stops : goal.returns-clause-stops
returns-clause-stops g c from there state layout unlinked number object can =
    let at = stays-there (g.F.Folder.told c.args.f.now) (g.F.Folder.told c.read_key.new.folder) from there c.in_ok-len.ensures.reads.stays in
    let same = key-same state layout unlinked number object c.args.parent.now.node c.args.parent.now.entry (cast_unsigned w64 c.args.parent.now.signature) from can.parent c.in_ok-len.len c.read_key.new.name c.split_at_mut-key.result.0.now c.split_at_mut-key.ensures.front c.in_ok-len.ensures.short (c.in_ok-len.ensures.key from there) in
    passes_stayed c.in_ok-len.ensures.reads.stays (c.write_covered.ensures.stops from at state layout unlinked number object c.args.parent.now.node can same)

pub returns-clause-untold : goal.returns-clause-untold
returns-clause-untold g c from there state layout unlinked number object can =
    let at = stays-there (g.F.Folder.told c.args.f.now) (g.F.Folder.told c.read_key.new.folder) from there c.in_ok-len.ensures.reads.stays in
    let same = key-same state layout unlinked number object c.args.parent.now.node c.args.parent.now.entry (cast_unsigned w64 c.args.parent.now.signature) from can.parent c.in_ok-len.len c.read_key.new.name c.split_at_mut-key.result.0.now c.split_at_mut-key.ensures.front c.in_ok-len.ensures.short (c.in_ok-len.ensures.key from there) in
    subst (λ (t : Told). IfDamaged c.write_covered.result (λ _. t.files ≡ None)) c.in_ok-len.ensures.reads.stays
    (c.write_covered.ensures.untold from at state layout unlinked number object c.args.parent.now.node can same)
