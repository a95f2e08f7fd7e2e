use Rattle.std.proofs.Common.{subst}
use Rattle.std.specs.Option.{ForSome}
use Rattle.std.proofs.lemmas.Result.{on_ok_weaker}
use Rattle.spec_image.specs.Told.{Told, Applies, MakesPartOf}
use Rattle.spec_image.proofs.Runs.{grows_then, part_then}
use Rattle.blk_io.specs.FileNames.{file_of}
use Rattle.blk_io.proofs.Carried.{silent_part}
use Rattle.blk_eraser.specs.Erasing.{zeros_before_write}
use Rattle.blk_eraser.proofs.freeing.write_over.Goals as goal

pub returns-clause-steps : goal.returns-clause-steps
returns-clause-steps g c =
    let first : ForSome (g.F.Folder.told c.args.folder.now).files (λ image. Applies (g.F.Folder.told c.args.folder.now) (g.F.Folder.told c.erase_before.new.folder) (zeros_before_write image (file_of c.args.file) c.args.at c.args.bytes.now)) =
    subst (λ (t : Told). ForSome t.files (λ image. Applies t (g.F.Folder.told c.erase_before.new.folder) (zeros_before_write image (file_of c.args.file) c.args.at c.args.bytes.now))) c.length.ensures.stays c.in_ok-erase_before.ensures.steps in
    on_ok_weaker c.write_at.result (λ applies image there. grows_then (first image there) applies) c.write_at.ensures.steps

pub returns-clause-prefix : goal.returns-clause-prefix
returns-clause-prefix g c =
    let first : ForSome (g.F.Folder.told c.args.folder.now).files (λ image. Applies (g.F.Folder.told c.args.folder.now) (g.F.Folder.told c.erase_before.new.folder) (zeros_before_write image (file_of c.args.file) c.args.at c.args.bytes.now)) =
    subst (λ (t : Told). ForSome t.files (λ image. Applies t (g.F.Folder.told c.erase_before.new.folder) (zeros_before_write image (file_of c.args.file) c.args.at c.args.bytes.now))) c.length.ensures.stays c.in_ok-erase_before.ensures.steps in
    let part : MakesPartOf (g.F.Folder.told c.args.folder.now) (g.F.Folder.told c.erase_before.new.folder) (λ image. zeros_before_write image (file_of c.args.file) c.args.at c.args.bytes.now) =
    subst (λ (t : Told). MakesPartOf t (g.F.Folder.told c.erase_before.new.folder) (λ image. zeros_before_write image (file_of c.args.file) c.args.at c.args.bytes.now)) c.length.ensures.stays c.erase_before.ensures.prefix in
    record { made = λ image there. part_then (first image there) c.write_at.ensures.prefix; silent = λ none. silent_part c.write_at.ensures.prefix (part.silent none) }
