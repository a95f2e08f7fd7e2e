use Rattle.std.proofs.Common.{◌≡◌, ◌∙◌, None, Some, sym, ap, subst}
use Rattle.std.specs.Option.{ForSome}
use Rattle.spec_image.specs.Told.{Told}
use Rattle.blk_io.specs.Faults.{IfDamaged}
use Rattle.blk_io.proofs.Carried.{carried}
use Rattle.blk_disk.specs.Tables.{Agrees}
use Rattle.blk_object.proofs.PartNames.{at-with, part-none, part-some}
use Rattle.blk_object.specs.ListedParts.{SaysPart}
use Rattle.blk_object.proofs.DamageChecks.{of-some}
use Rattle.blk_object.proofs.listed_parts.part_at.Goals as goal

pub returns-in_err-number-clause-untold : goal.returns-in_err-number-clause-untold
returns-in_err-number-clause-untold g c agrees lies =
    subst (λ (t : Told). IfDamaged c.from_residual-in_err-number.result (λ _. t.files ≡ None)) c.in_ok-entry.ensures.reads.stays
    (carried c.number_of.result c.from_residual-in_err-number.result c.in_err-number.field-0.0 (λ _. (g.F.Folder.told c.entry_named.new.folder).files ≡ None) c.in_err-number.was c.from_residual-in_err-number.ensures.1
    (c.number_of.ensures.untold (subst (λ (t : Told). ForSome t.files (Agrees c.args.files.now)) (sym c.in_ok-entry.ensures.reads.stays) agrees)
    (λ image now.
    let there : (g.F.Folder.told c.args.folder.now).files ≡ Some image = ap (λ (t : Told). t.files) (sym c.in_ok-entry.ensures.reads.stays) ∙ now in
    ((lies image there).0, at-with image c.args.node c.in_ok-entry.entry (lies image there).0 (c.in_ok-entry.ensures.entry image there) (lies image there).1))))

pub returns-in-Some-clause-part : goal.returns-in-Some-clause-part
returns-in-Some-clause-part g c image there loaded at =
    let lies = at-with image c.args.node c.in_ok-entry.entry loaded (c.in_ok-entry.ensures.entry image there) at in
    part-some c.args.key.now c.args.node c.in_ok-entry.entry c.in-Some.number loaded
    (sym c.in-Some.is ∙ c.in_ok-number.ensures.number image (ap (λ (t : Told). t.files) c.in_ok-entry.ensures.reads.stays ∙ there) loaded lies) lies.contents

pub returns-in-None-clause-part : goal.returns-in-None-clause-part
returns-in-None-clause-part g c image there loaded at =
    let lies = at-with image c.args.node c.in_ok-entry.entry loaded (c.in_ok-entry.ensures.entry image there) at in
    part-none c.args.key.now c.args.node loaded
    (sym c.in-None.is ∙ c.in_ok-number.ensures.number image (ap (λ (t : Told). t.files) c.in_ok-entry.ensures.reads.stays ∙ there) loaded lies)

pub returns-in-Some-clause-named : goal.returns-in-Some-clause-named
returns-in-Some-clause-named g c =
    subst (λ (t : Told). ForSome t.files (SaysPart c.in_ok-entry.entry c.args.key.now c.in-Some.number)) c.in_ok-entry.ensures.reads.stays (of-some c.in_ok-number.field-0 c.in-Some.number _ c.in-Some.is c.in_ok-number.ensures.named)
