use Rattle.std.proofs.Common.{◌≡◌, ◌%◌, sym, ◌∙◌, subst, arith}
use Rattle.std.specs.Prelude.{◌^◌}
use Rattle.std.proofs.lemmas.Bool.{eqb-true}
use Rattle.blk_io.proofs.Carried.{untold_where}
use Rattle.spec_format.specs.Address.{external, kind_of}
use Rattle.spec_image.specs.Told.{Told}
use Rattle.blk_object.specs.FailedChecks.{ReadsTooFew}
use Rattle.blk_object.proofs.StreamsThere.{length_found, length_read}
use Rattle.blk_object.proofs.WriteChecks.{reads-short}
use Rattle.blk_object.proofs.writing.check_length.Goals as goal

pub returns-then-length-from-clause-untold : goal.returns-then-length-from-clause-untold
returns-then-length-from-clause-untold g c there =
    let kind : kind_of c.args.addr ≡ external = eqb-true (kind_of c.args.addr) external (sym c.is_external.ensures ∙ c.if-not-is_external.false) in
    untold_where (g.F.Folder.told c.args.folder.now).files
    (λ image is.
    let long = length_found image c.args.addr c.unwrap_or-length.result c.in_ok-length.field-0 c.file_of-file.result kind c.file_of-file.ensures (c.in_ok-length.ensures.length image is) c.unwrap_or-length.ensures in
    let inside = there image is kind in
    absurd (omega (arith, long, inside, c.from.ensures, c.if-length-from.true)))

pub returns-clause-there : goal.returns-clause-there
returns-clause-there g c image is kind =
    let long = length_found image c.args.addr c.unwrap_or-length.result c.in_ok-length.field-0 c.file_of-file.result kind c.file_of-file.ensures (c.in_ok-length.ensures.length image is) c.unwrap_or-length.ensures in
    omega (arith, long, c.from.ensures, c.if-length-from.false)

pub returns-then-length-from-clause-damaged : goal.returns-then-length-from-clause-damaged
returns-then-length-from-clause-damaged g c =
    subst (λ (t : Told). ReadsTooFew t (record { file = c.file_of-file.result; at = 0; found = c.unwrap_or-length.result % 2 ^ 32 })) (sym c.in_ok-length.ensures.stays) (record {
      file = c.file_of-file.result;
      start = 0;
      count = c.args.size;
      short = reads-short (g.F.Folder.told c.args.folder.now) c.file_of-file.result c.args.size c.unwrap_or-length.result (omega (arith, c.from.ensures, c.if-length-from.true)) (omega (arith, c.ranges.size.fits))
          (λ image is. length_read image c.unwrap_or-length.result c.in_ok-length.field-0 c.file_of-file.result (c.in_ok-length.ensures.length image is) c.unwrap_or-length.ensures);
    })
