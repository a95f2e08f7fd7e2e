use Rattle.std.proofs.Common.{◌-◌, ◌∷◌, [], subst}
use Rattle.std.proofs.lemmas.Result.{on_ok_weaker}
use Rattle.spec_image.specs.Bytes.{zeros}
use Rattle.spec_image.specs.Steps.{Delete, words}
use Rattle.spec_image.specs.Told.{Told, Applies, AppliesPrefix}
use Rattle.spec_image.proofs.Runs.{grows_then, part_of_one, part_then}
use Rattle.blk_io.specs.FileNames.{file_of}
use Rattle.blk_io.proofs.Carried.{silent_part}
use Rattle.blk_eraser.proofs.ZeroWords.{delete_all}
use Rattle.blk_eraser.proofs.zeros.remove.Goals as goal

pub returns-clause-steps : goal.returns-clause-steps
returns-clause-steps g c =
    let all : Applies (g.F.Folder.told c.args.folder.now) (g.F.Folder.told c.erase.new.folder) (words (file_of c.args.file) 0 (zeros (c.in_ok-long.long - 0))) =
    subst (λ (t : Told). Applies t (g.F.Folder.told c.erase.new.folder) (words (file_of c.args.file) 0 (zeros (c.in_ok-long.long - 0)))) c.length.ensures.stays c.in_ok-erase.ensures.steps in
    on_ok_weaker c.delete.result (λ done image there. grows_then (delete_all (file_of c.args.file) c.in_ok-long.long c.in_ok-long.ensures.length all image there) done) c.delete.ensures.done

pub returns-clause-prefix : goal.returns-clause-prefix
returns-clause-prefix g c =
    let all : Applies (g.F.Folder.told c.args.folder.now) (g.F.Folder.told c.erase.new.folder) (words (file_of c.args.file) 0 (zeros (c.in_ok-long.long - 0))) =
    subst (λ (t : Told). Applies t (g.F.Folder.told c.erase.new.folder) (words (file_of c.args.file) 0 (zeros (c.in_ok-long.long - 0)))) c.length.ensures.stays c.in_ok-erase.ensures.steps in
    let one : AppliesPrefix (g.F.Folder.told c.erase.new.folder) (g.F.Folder.told c.delete.new.self) (Delete (file_of c.args.file) ∷ []) = part_of_one c.delete.result c.delete.ensures.done c.delete.ensures.undone in
    record {
      made = λ image there. part_then (delete_all (file_of c.args.file) c.in_ok-long.long c.in_ok-long.ensures.length all image there) one;
      silent = λ none. silent_part (part_then all one) none;
    }
