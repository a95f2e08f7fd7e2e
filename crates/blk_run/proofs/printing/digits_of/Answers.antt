use Rattle.std.proofs.Common.{◌∙◌, ap}
use Rattle.hex.specs.Hex.{encode_lower}
use Rattle.blk_run.proofs.Printed.{digits_are}
use Rattle.blk_run.proofs.printing.digits_of.Goals as goal

pub returns-clause-digits : goal.returns-clause-digits
returns-clause-digits c = digits_are c.args.word _ c.ranges.word.fits (c.in-Ok.ensures.written ∙ ap encode_lower c.to_be_bytes.ensures)
