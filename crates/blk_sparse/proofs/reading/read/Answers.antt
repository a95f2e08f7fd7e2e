use Rattle.std.proofs.Common.{◌≡◌, ◌∙◌, ℕ, ap, length, sym, subst, None}
use Rattle.std.specs.Int.{cast_unsigned, w64}
use Rattle.spec_image.specs.Told.{Passes, Told}
use Rattle.spec_image.proofs.Runs.{passes_stayed}
use Rattle.blk_io.specs.Faults.{IfDamaged}
use Rattle.blk_io.proofs.Carried.{carried}
use Rattle.blk_sparse.specs.SparseObjects.{FindsUsed, KeepsParentUsed, parts_used}
use Rattle.blk_sparse.proofs.PartsOut.{stays-passes, stays-there}
use Rattle.blk_sparse.proofs.UsedParts.{now-found}
use Rattle.blk_sparse.proofs.reading.read.Goals as goal

pub returns-in_err-len-clause-stops : goal.returns-in_err-len-clause-stops
returns-in_err-len-clause-stops g c from there state layout unlinked number object p =
    stays-passes (g.F.Folder.told c.args.f.now) (g.F.Folder.told c.read_present.new.folder) from (FindsUsed state (parts_used object c.args.offset (length c.args.out.now))) there c.in_err-len.ensures.reads.stays (now-found state layout unlinked number object c.args.parent.now.node c.args.parent.now.entry (cast_unsigned w64 c.args.parent.now.signature) from p (parts_used object c.args.offset (length c.args.out.now)))

pub returns-in_err-len-clause-is_open : goal.returns-in_err-len-clause-is_open
returns-in_err-len-clause-is_open g c image is =
    c.requires.is_open image (ap (λ (t : Told). t.files) (sym c.in_err-len.ensures.reads.stays) ∙ is)

pub returns-in_err-len-clause-untold : goal.returns-in_err-len-clause-untold
returns-in_err-len-clause-untold g c from there state layout unlinked number object p =
    carried c.read_present.result c.from_residual.result c.in_err-len.field-0.0 (λ _. (g.F.Folder.told c.args.f.now).files ≡ None) c.in_err-len.was c.from_residual.ensures.1
    (c.read_present.ensures.untold from there state layout unlinked number object p)

pub use_parts-requires-clause-is_open : goal.use_parts-requires-clause-is_open
use_parts-requires-clause-is_open g c image is =
    c.requires.is_open image (ap (λ (t : Told). t.files) (sym c.in_ok-len.ensures.reads.stays) ∙ is)

pub returns-in_err-use_parts-clause-stops : goal.returns-in_err-use_parts-clause-stops
returns-in_err-use_parts-clause-stops g c from there state layout unlinked number object p =
    let at = stays-there (g.F.Folder.told c.args.f.now) (g.F.Folder.told c.read_present.new.folder) from there c.in_ok-len.ensures.reads.stays in
    subst (λ (n : ℕ). Passes (g.F.Folder.told c.args.f.now) (g.F.Folder.told c.use_parts.new.folder) (FindsUsed state (parts_used object c.args.offset n))) c.in_ok-len.ensures.long (passes_stayed c.in_ok-len.ensures.reads.stays (c.in_err-use_parts.ensures.stops from at state layout unlinked number object p))

pub returns-in_err-use_parts-clause-untold : goal.returns-in_err-use_parts-clause-untold
returns-in_err-use_parts-clause-untold g c from there state layout unlinked number object p =
    let at = stays-there (g.F.Folder.told c.args.f.now) (g.F.Folder.told c.read_present.new.folder) from there c.in_ok-len.ensures.reads.stays in
    subst (λ (t : Told). IfDamaged c.from_residual-in_err-use_parts.result (λ _. t.files ≡ None)) c.in_ok-len.ensures.reads.stays
    (carried c.use_parts.result c.from_residual-in_err-use_parts.result c.in_err-use_parts.field-0.0 (λ _. (g.F.Folder.told c.read_present.new.folder).files ≡ None) c.in_err-use_parts.was c.from_residual-in_err-use_parts.ensures.1
    (c.use_parts.ensures.untold from at state layout unlinked number object p))

pub returns-clause-used : goal.returns-clause-used
returns-clause-used g c from there state layout unlinked number object p image is =
    let at = stays-there (g.F.Folder.told c.args.f.now) (g.F.Folder.told c.read_present.new.folder) from there c.in_ok-len.ensures.reads.stays in
    subst (λ (n : ℕ). KeepsParentUsed state layout unlinked number object c.args.parent.now.node c.args.parent.now.entry (cast_unsigned w64 c.args.parent.now.signature) (parts_used object c.args.offset n) from image) c.in_ok-len.ensures.long (c.in_ok-use_parts.ensures.used from at state layout unlinked number object p image is)

pub returns-clause-stops : goal.returns-clause-stops
returns-clause-stops g c from there state layout unlinked number object p =
    let at = stays-there (g.F.Folder.told c.args.f.now) (g.F.Folder.told c.read_present.new.folder) from there c.in_ok-len.ensures.reads.stays in
    subst (λ (n : ℕ). Passes (g.F.Folder.told c.args.f.now) (g.F.Folder.told c.use_parts.new.folder) (FindsUsed state (parts_used object c.args.offset n))) c.in_ok-len.ensures.long (passes_stayed c.in_ok-len.ensures.reads.stays (c.in_ok-use_parts.ensures.stops from at state layout unlinked number object p))
