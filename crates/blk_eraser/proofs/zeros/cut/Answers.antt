use Rattle.std.proofs.Common.{◌-◌, ◌∷◌, [], subst}
use Rattle.std.proofs.lemmas.Result.{on_ok_weaker}
use Rattle.spec_image.specs.Bytes.{zeros}
use Rattle.spec_image.specs.Steps.{SetLength, words}
use Rattle.spec_image.specs.Told.{Told, Applies, AppliesPrefix}
use Rattle.spec_image.proofs.Runs.{grows_then, part_of_one, part_then}
use Rattle.blk_io.specs.FileNames.{file_of}
use Rattle.blk_io.proofs.Carried.{silent_part}
use Rattle.blk_eraser.proofs.ZeroWords.{cut_all, cut_part}
use Rattle.blk_eraser.proofs.zeros.cut.Goals as goal

pub returns-in_err-erase-clause-prefix : goal.returns-in_err-erase-clause-prefix
returns-in_err-erase-clause-prefix g c =
    let part : AppliesPrefix (g.F.Folder.told c.args.folder.now) (g.F.Folder.told c.erase.new.folder) (words (file_of c.args.file) c.min.result (zeros (c.in_ok-long.long - c.min.result))) =
    subst (λ (t : Told). AppliesPrefix t (g.F.Folder.told c.erase.new.folder) (words (file_of c.args.file) c.min.result (zeros (c.in_ok-long.long - c.min.result)))) c.length.ensures.stays c.erase.ensures.prefix in
    record {
      made = cut_part (file_of c.args.file) c.args.to c.in_ok-long.long c.min.result (SetLength (file_of c.args.file) c.args.to ∷ []) c.min.ensures c.in_ok-long.ensures.length part;
      silent = λ none. silent_part part none;
    }

pub returns-clause-steps : goal.returns-clause-steps
returns-clause-steps g c =
    let all : Applies (g.F.Folder.told c.args.folder.now) (g.F.Folder.told c.erase.new.folder) (words (file_of c.args.file) c.min.result (zeros (c.in_ok-long.long - c.min.result))) =
    subst (λ (t : Told). Applies t (g.F.Folder.told c.erase.new.folder) (words (file_of c.args.file) c.min.result (zeros (c.in_ok-long.long - c.min.result)))) c.length.ensures.stays c.in_ok-erase.ensures.steps in
    on_ok_weaker c.set_len.result (λ done image there. grows_then (cut_all (file_of c.args.file) c.args.to c.in_ok-long.long c.min.result c.min.ensures c.in_ok-long.ensures.length all image there) done) c.set_len.ensures.done

pub returns-clause-prefix : goal.returns-clause-prefix
returns-clause-prefix g c =
    let all : Applies (g.F.Folder.told c.args.folder.now) (g.F.Folder.told c.erase.new.folder) (words (file_of c.args.file) c.min.result (zeros (c.in_ok-long.long - c.min.result))) =
    subst (λ (t : Told). Applies t (g.F.Folder.told c.erase.new.folder) (words (file_of c.args.file) c.min.result (zeros (c.in_ok-long.long - c.min.result)))) c.length.ensures.stays c.in_ok-erase.ensures.steps in
    let one : AppliesPrefix (g.F.Folder.told c.erase.new.folder) (g.F.Folder.told c.set_len.new.self) (SetLength (file_of c.args.file) c.args.to ∷ []) = part_of_one c.set_len.result c.set_len.ensures.done c.set_len.ensures.undone in
    record {
      made = λ image there. part_then (cut_all (file_of c.args.file) c.args.to c.in_ok-long.long c.min.result c.min.ensures c.in_ok-long.ensures.length all image there) one;
      silent = λ none. silent_part (part_then all one) none;
    }
