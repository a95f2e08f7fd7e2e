use Rattle.std.proofs.Common.{◌++◌}
use Rattle.std.specs.Prelude.{codes}
use Rattle.blk_script.specs.Spelling.{number_text}
use Rattle.blk_evict.proofs.RoomTexts.{printed-on}
use Rattle.blk_print.proofs.range_printing.say_front.Goals as goal

pub returns-clause-prints : goal.returns-clause-prints
returns-clause-prints g c =
    printed-on _ _ _ _ _ _ (codes "data ") (number_text c.args.number ++ codes " ") c.say_text.ensures.prints
    (printed-on _ _ _ _ _ _ (number_text c.args.number) (codes " ") c.say_digits.ensures.prints c.say_text-2.ensures.prints)
