use Rattle.std.proofs.Common.{◌≡◌, ◌∙◌, ap, sym, subst, arith, ℕ, None}
use Rattle.std.specs.Int.{cast_unsigned, w64}
use Rattle.std.proofs.lemmas.Int.{of_z-to_z}
use Rattle.std.proofs.lemmas.Result.{on_ok_weaker}
use Rattle.spec_image.specs.Told.{Told}
use Rattle.spec_image.proofs.Runs.{passes_stayed, some_inj}
use Rattle.blk_io.specs.Faults.{IfDamaged}
use Rattle.blk_io.proofs.Carried.{carried}
use Rattle.blk_sparse.specs.Children.{HasParentKey}
use Rattle.blk_sparse.specs.SparseObjects.{FindsUsed, KeepsParentUsed, parts_used}
use Rattle.blk_sparse.proofs.KeptParents.{key-same, parent-key, signed-parent}
use Rattle.blk_sparse.proofs.PartsOut.{stays-passes, stays-there}
use Rattle.blk_sparse.proofs.UsedParts.{now-found}
use Rattle.blk_sparse.proofs.reading.use_parts.Goals as goal

pub returns-in_err-len-clause-stops : goal.returns-in_err-len-clause-stops
returns-in_err-len-clause-stops g c from there state layout unlinked number object p =
    stays-passes (g.F.Folder.told c.args.folder.now) (g.F.Folder.told c.read_key.new.folder) from (FindsUsed state (parts_used object c.args.offset c.args.count)) there c.in_err-len.ensures.reads.stays
    (now-found state layout unlinked number object c.args.parent.now.node c.args.parent.now.entry (cast_unsigned w64 c.args.parent.now.signature) from p (parts_used object c.args.offset c.args.count))

pub returns-in_err-len-clause-is_open : goal.returns-in_err-len-clause-is_open
returns-in_err-len-clause-is_open g c image is =
    c.requires.is_open image (ap (λ (t : Told). t.files) (sym c.in_err-len.ensures.reads.stays) ∙ is)

pub returns-in_err-len-clause-untold : goal.returns-in_err-len-clause-untold
returns-in_err-len-clause-untold g c from there state layout unlinked number object p =
    carried c.read_key.result c.from_residual.result c.in_err-len.field-0.0 (λ _. (g.F.Folder.told c.args.folder.now).files ≡ None) c.in_err-len.was c.from_residual.ensures.1
    (c.read_key.ensures.untold (λ image is. (c.requires.is_open image is).agrees) (λ image is. (object.key, subst (HasParentKey c.args.parent.now.entry object.key) (some_inj (sym there ∙ is)) (parent-key state layout unlinked number object c.args.parent.now.node c.args.parent.now.entry (cast_unsigned w64 c.args.parent.now.signature) from p))))

pub use_covered-requires-clause-is_open : goal.use_covered-requires-clause-is_open
use_covered-requires-clause-is_open g c image is =
    c.requires.is_open image (ap (λ (t : Told). t.files) (sym c.in_ok-len.ensures.reads.stays) ∙ is)

pub returns-clause-used : goal.returns-clause-used
returns-clause-used g c = on_ok_weaker c.use_covered.result
    (λ steps from there state layout unlinked number object p image is.
    let at = stays-there (g.F.Folder.told c.args.folder.now) (g.F.Folder.told c.read_key.new.folder) from there c.in_ok-len.ensures.reads.stays in
    let sig = of_z-to_z w64 (cast_unsigned w64 c.args.parent.now.signature) (let small = c.requires.signature in omega (arith, small)) in
    let same = key-same state layout unlinked number object c.args.parent.now.node c.args.parent.now.entry (cast_unsigned w64 c.args.parent.now.signature) from p c.in_ok-len.len c.read_key.new.name c.split_at_mut-key.result.0.now c.split_at_mut-key.ensures.front c.in_ok-len.ensures.short (c.in_ok-len.ensures.key from there) in
    subst (λ (s : ℕ). KeepsParentUsed state layout unlinked number object c.args.parent.now.node c.args.parent.now.entry s (parts_used object c.args.offset c.args.count) from image) sig
    (steps from at state layout unlinked number object c.args.parent.now.node c.args.parent.now.entry (signed-parent state layout unlinked number object c.args.parent.now.node c.args.parent.now.entry (cast_unsigned w64 c.args.parent.now.signature) _ from sig p) same image is))
    c.use_covered.ensures.used

pub returns-clause-stops : goal.returns-clause-stops
returns-clause-stops g c from there state layout unlinked number object p =
    let at = stays-there (g.F.Folder.told c.args.folder.now) (g.F.Folder.told c.read_key.new.folder) from there c.in_ok-len.ensures.reads.stays in
    let sig = of_z-to_z w64 (cast_unsigned w64 c.args.parent.now.signature) (let small = c.requires.signature in omega (arith, small)) in
    let same = key-same state layout unlinked number object c.args.parent.now.node c.args.parent.now.entry (cast_unsigned w64 c.args.parent.now.signature) from p c.in_ok-len.len c.read_key.new.name c.split_at_mut-key.result.0.now c.split_at_mut-key.ensures.front c.in_ok-len.ensures.short (c.in_ok-len.ensures.key from there) in
    passes_stayed c.in_ok-len.ensures.reads.stays
    (c.use_covered.ensures.stops from at state layout unlinked number object c.args.parent.now.node c.args.parent.now.entry (signed-parent state layout unlinked number object c.args.parent.now.node c.args.parent.now.entry (cast_unsigned w64 c.args.parent.now.signature) _ from sig p) same)

pub returns-clause-untold : goal.returns-clause-untold
returns-clause-untold g c from there state layout unlinked number object p =
    let at = stays-there (g.F.Folder.told c.args.folder.now) (g.F.Folder.told c.read_key.new.folder) from there c.in_ok-len.ensures.reads.stays in
    let sig = of_z-to_z w64 (cast_unsigned w64 c.args.parent.now.signature) (let small = c.requires.signature in omega (arith, small)) in
    let same = key-same state layout unlinked number object c.args.parent.now.node c.args.parent.now.entry (cast_unsigned w64 c.args.parent.now.signature) from p c.in_ok-len.len c.read_key.new.name c.split_at_mut-key.result.0.now c.split_at_mut-key.ensures.front c.in_ok-len.ensures.short (c.in_ok-len.ensures.key from there) in
    subst (λ (t : Told). IfDamaged c.use_covered.result (λ _. t.files ≡ None)) c.in_ok-len.ensures.reads.stays
    (c.use_covered.ensures.untold from at state layout unlinked number object c.args.parent.now.node c.args.parent.now.entry (signed-parent state layout unlinked number object c.args.parent.now.node c.args.parent.now.entry (cast_unsigned w64 c.args.parent.now.signature) _ from sig p) same)
