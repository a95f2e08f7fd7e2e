use Rattle.std.proofs.Common.{refl}
use Rattle.blk_script.proofs.Splitting.{fields_of-some}
use Rattle.blk_script.proofs.fields.Fields.none.Goals as goal

pub returns-in-Some : goal.returns-in-Some
returns-in-Some c = record { fault = refl; count = rw c.in-Some.is (fields_of-some c.in-Some.field-0.now) }
