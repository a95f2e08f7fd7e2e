use Rattle.std.proofs.Common.{◌<◌, sym, subst, arith}
use Rattle.std.proofs.lemmas.List.Elements.{All-from_get_or}
use Rattle.spec_image.specs.Image.{AreBytes}
use Rattle.spec_image.specs.Steps.{words}
use Rattle.spec_image.proofs.ByteSteps.{are_bytes-words}
use Rattle.spec_image.proofs.Runs.{until_last}
use Rattle.blk_io.specs.FileNames.{file_of}
use Rattle.blk_io.specs.Files.{image_of}
use Rattle.blk_io.proofs.Trails.{trail_goes_on, bytes_along}
use Rattle.blk_io.proofs.mem.MemFolder.write_front.Goals as goal

pub invariant_of-self-2 : goal.invariant_of-self-2
invariant_of-self-2 c =
    let file = file_of c.args.file in
    let image = image_of c.args.self.now.files.items in
    let fresh = All-from_get_or (λ b. b < 256) c.args.bytes.now 0 (λ i within. omega (arith, c.type_inv.bytes i)) in
    let along = are_bytes-words file c.args.at c.args.bytes.now image fresh c.requires.inside c.args.self.now.bytes in
    record {
      agrees = trail_goes_on _ _ _ _ _ _ c.args.self.now.agrees c.write_over.ensures c.in_ok-keep_write.ensures.done;
      bytes = subst AreBytes (sym c.write_over.ensures) (until_last AreBytes AreBytes (words file c.args.at c.args.bytes.now) image along);
      along = bytes_along _ c.args.self.now.files.items _ _ _ c.args.self.now.agrees c.args.self.now.along along c.in_ok-keep_write.ensures.done;
    }
