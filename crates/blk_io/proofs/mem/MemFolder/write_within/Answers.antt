use Rattle.std.proofs.Common.{refl, arith, subst}
use Rattle.spec_image.specs.Steps.{words}
use Rattle.spec_image.specs.Told.{Applies}
use Rattle.blk_io.specs.FileNames.{file_of}
use Rattle.blk_io.proofs.Writes.{part_of_first}
use Rattle.blk_io.proofs.mem.MemFolder.write_within.Goals as goal

pub write_front-requires : goal.write_front-requires
write_front-requires c = record { inside = omega (arith, c.front_of.ensures.within, c.requires _ refl) }

pub returns-then-is_failed-clause-prefix : goal.returns-then-is_failed-clause-prefix
returns-then-is_failed-clause-prefix c =
    let file = file_of c.args.file in
    part_of_first (words file c.args.at c.args.bytes.now) c.lasting_words-lasting.result (subst (Applies _ _) (c.front_of.ensures.words file) c.in-Ok.ensures.done)
