use Rattle.std.proofs.Common.{sym, subst}
use Rattle.spec_image.specs.Image.{AreBytes}
use Rattle.spec_image.specs.Steps.{Delete}
use Rattle.spec_image.proofs.ByteSteps.{are_bytes-step}
use Rattle.blk_io.specs.FileNames.{file_of}
use Rattle.blk_io.specs.Files.{image_of}
use Rattle.blk_io.proofs.Trails.{trail_goes_on, bytes_along}
use Rattle.blk_io.proofs.mem.MemFolder.remove_told.Goals as goal

pub invariant_of-self-2 : goal.invariant_of-self-2
invariant_of-self-2 c =
    let old = c.args.self.now in
    let bytes = are_bytes-step (image_of old.files.items) (Delete (file_of c.args.file)) tt old.bytes in
    record {
      agrees = trail_goes_on _ _ _ _ _ _ old.agrees c.remove.ensures c.in_ok-keep.ensures.done;
      bytes = subst AreBytes (sym c.remove.ensures) bytes;
      along = bytes_along _ old.files.items _ _ _ old.agrees old.along (old.bytes, bytes) c.in_ok-keep.ensures.done;
    }
