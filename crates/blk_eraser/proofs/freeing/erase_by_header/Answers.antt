use Rattle.std.proofs.Common.{subst}
use Rattle.std.proofs.lemmas.Result.{on_ok_weaker}
use Rattle.spec_image.specs.Bytes.{content}
use Rattle.spec_image.specs.Told.{Told, Applies, AppliesPrefix}
use Rattle.spec_format.specs.Headers.{entry_size_of}
use Rattle.blk_io.specs.FileNames.{file_of}
use Rattle.blk_io.proofs.Carried.{silent_part}
use Rattle.blk_eraser.specs.Erasing.{frees, zeros_over_blocks}
use Rattle.blk_eraser.proofs.MapWrites.{header_says}
use Rattle.blk_eraser.proofs.freeing.erase_by_header.Goals as goal

pub returns-clause-steps : goal.returns-clause-steps
returns-clause-steps g c =
    on_ok_weaker c.erase_freed.result
    (λ applies image there. subst (Applies (g.F.Folder.told c.args.folder.now) (g.F.Folder.told c.erase_freed.new.folder)) (header_says (file_of c.args.file) image c.read_header.new.out c.args.at c.args.bytes.now c.args.long c.requires.file (c.in_ok-read_header.ensures.bytes image there) (c.requires.known image there) c.requires.inside)
    (subst (λ (t : Told). Applies t (g.F.Folder.told c.erase_freed.new.folder) (zeros_over_blocks (frees c.read_header.new.out c.args.at c.args.bytes.now) (file_of c.args.file) (entry_size_of (content c.read_header.new.out)) c.args.long 64896)) c.read_header.ensures.stays applies))
    c.erase_freed.ensures.steps

pub returns-clause-prefix : goal.returns-clause-prefix
returns-clause-prefix g c =
    let part : AppliesPrefix (g.F.Folder.told c.args.folder.now) (g.F.Folder.told c.erase_freed.new.folder) (zeros_over_blocks (frees c.read_header.new.out c.args.at c.args.bytes.now) (file_of c.args.file) (entry_size_of (content c.read_header.new.out)) c.args.long 64896) =
    subst (λ (t : Told). AppliesPrefix t (g.F.Folder.told c.erase_freed.new.folder) (zeros_over_blocks (frees c.read_header.new.out c.args.at c.args.bytes.now) (file_of c.args.file) (entry_size_of (content c.read_header.new.out)) c.args.long 64896)) c.read_header.ensures.stays c.erase_freed.ensures.prefix in
    record {
      made = λ image there.
          subst (AppliesPrefix (g.F.Folder.told c.args.folder.now) (g.F.Folder.told c.erase_freed.new.folder)) (header_says (file_of c.args.file) image c.read_header.new.out c.args.at c.args.bytes.now c.args.long c.requires.file (c.in_ok-read_header.ensures.bytes image there) (c.requires.known image there) c.requires.inside) part;
      silent = λ none. silent_part part none;
    }
