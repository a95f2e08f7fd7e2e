use Rattle.std.proofs.Common.{sym, subst}
use Rattle.spec_image.specs.Image.{AreBytes}
use Rattle.spec_image.specs.Steps.{SetLength}
use Rattle.spec_image.proofs.ByteSteps.{are_bytes-step}
use Rattle.blk_io.specs.FileNames.{file_of}
use Rattle.blk_io.specs.Files.{image_of}
use Rattle.blk_io.proofs.Trails.{trail_goes_on, kept_back, trail_same, bytes_along, along_same}
use Rattle.blk_io.proofs.mem.MemFolder.resize_told.Goals as goal

pub invariant_of-self-in-Ok : goal.invariant_of-self-in-Ok
invariant_of-self-in-Ok c =
    let old = c.args.self.now in
    let bytes = are_bytes-step (image_of old.files.items) (SetLength (file_of c.args.file) c.args.length) tt old.bytes in
    record {
      agrees = trail_goes_on _ _ _ _ _ _ old.agrees c.in-Ok.ensures.done c.in_ok-keep.ensures.done;
      bytes = subst AreBytes (sym c.in-Ok.ensures.done) bytes;
      along = bytes_along _ old.files.items _ _ _ old.agrees old.along (old.bytes, bytes) c.in_ok-keep.ensures.done;
    }

pub invariant_of-self-in-Err : goal.invariant_of-self-in-Err
invariant_of-self-in-Err c =
    let old = c.args.self.now in
    let same = kept_back _ _ _ _ c.in_ok-keep.ensures.calls c.unkeep.ensures in
    record {
      agrees = trail_same _ _ _ _ _ old.agrees c.in-Err.ensures.undone same;
      bytes = subst AreBytes (sym c.in-Err.ensures.undone) old.bytes;
      along = along_same _ _ _ old.along same;
    }
