use Rattle.std.proofs.Common.{[], ◌∷◌, sym, subst}
use Rattle.std.specs.List.{All}
use Rattle.spec_image.specs.Steps.{Delete}
use Rattle.spec_image.proofs.Runs.{part_of_one}
use Rattle.blk_io.specs.FileNames.{file_of}
use Rattle.blk_window.specs.Held.{HoldsFileBytes}
use Rattle.blk_window.specs.Pages.{held_of}
use Rattle.blk_window.proofs.Changing.{delete_stays, agree_part, one_stays}
use Rattle.blk_window.proofs.window.WindowFolder.delete.Goals as goal

pub invariant_of-self : goal.invariant_of-self
invariant_of-self g c =
    let w = c.args.self.now in
    record {
      agrees = λ image there.
          subst (All (HoldsFileBytes image)) (sym c.forget.ensures.held)
          (agree_part (file_of c.args.file) (g.F.Folder.told w.inner) (g.F.Folder.told c.delete.new.self) (Delete (file_of c.args.file) ∷ []) (held_of w.pages)
          (λ made left old split other apart. one_stays (file_of c.args.file) (Delete (file_of c.args.file)) (λ old other apart. delete_stays (file_of c.args.file) old other apart) made left old split other apart)
          (part_of_one c.delete.result c.delete.ensures.done c.delete.ensures.undone) w.agrees image there);
    }
