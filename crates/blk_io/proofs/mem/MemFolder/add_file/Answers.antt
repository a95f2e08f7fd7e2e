use Rattle.std.proofs.Common.{◌≡◌, ℕ, List, Some, ap, sym, subst, ◌∙◌, arith}
use Rattle.spec_image.specs.Image.{AreBytes, with_file}
use Rattle.spec_image.proofs.ByteSteps.{are_bytes-with_file}
use Rattle.blk_io.specs.declared.mem_files.MemFile.{MemFile}
use Rattle.blk_io.specs.FileNames.{file_of}
use Rattle.blk_io.specs.Files.{image_of}
use Rattle.blk_io.proofs.Trails.{trail_added, along_none, no_steps}
use Rattle.blk_io.proofs.mem.MemFolder.add_file.Goals as goal

pub invariant_of-self-2 : goal.invariant_of-self-2
invariant_of-self-2 c =
    let file = file_of c.args.file in
    let bytes = c.args.bytes.now in
    let start : image_of c.put_file.new.files.items ≡ with_file (image_of c.args.self.now.start.items) file (Some bytes) =
    c.put_file.ensures ∙ ap (λ (l : List MemFile). with_file (image_of l) file (Some c.in_ok-one.one.items)) c.in_ok-reserve.ensures.items ∙ ap (λ (b : List ℕ). with_file (image_of c.args.self.now.start.items) file (Some b)) c.in_ok-one.ensures.items in
    let now : image_of c.put_file-2.new.files.items ≡ with_file (image_of c.args.self.now.files.items) file (Some bytes) =
    c.put_file-2.ensures ∙ ap (λ (l : List MemFile). with_file (image_of l) file (Some c.in_ok-other.other.items)) c.in_ok-reserve-2.ensures.items ∙ ap (λ (b : List ℕ). with_file (image_of c.args.self.now.files.items) file (Some b)) c.in_ok-other.ensures.items in
    let none = no_steps _ _ c.requires in
    let agrees = trail_added _ _ _ _ _ file (Some bytes) c.args.self.now.agrees none start now in
    let fresh : AreBytes (image_of c.put_file-2.new.files.items) = subst AreBytes (sym now) (are_bytes-with_file (image_of c.args.self.now.files.items) file (Some bytes) c.args.self.now.bytes (λ k. omega (arith, c.type_inv.bytes k))) in
    record { agrees = agrees; bytes = fresh; along = along_none c.put_file.new.files.items c.put_file-2.new.files.items _ agrees none fresh }
