use Rattle.std.proofs.Common.{refl}
use Rattle.blk_io.proofs.Trails.{trail_goes_on, bytes_along}
use Rattle.blk_io.proofs.mem.MemFolderFolder.note.Goals as goal

pub invariant_of-self-in-Ok : goal.invariant_of-self-in-Ok
invariant_of-self-in-Ok c =
    let old = c.args.self.now in
    record {
      agrees = trail_goes_on _ _ old.files.items _ _ _ old.agrees refl c.in-Ok.ensures.done;
      bytes = old.bytes;
      along = bytes_along _ old.files.items _ _ _ old.agrees old.along (old.bytes, old.bytes) c.in-Ok.ensures.done;
    }
