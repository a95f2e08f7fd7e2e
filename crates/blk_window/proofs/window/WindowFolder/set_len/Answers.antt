use Rattle.std.proofs.Common.{[], ◌∷◌, sym, subst}
use Rattle.std.specs.List.{All}
use Rattle.spec_image.specs.Steps.{SetLength}
use Rattle.spec_image.proofs.Runs.{part_of_one}
use Rattle.blk_io.specs.FileNames.{file_of}
use Rattle.blk_window.specs.Held.{HoldsFileBytes}
use Rattle.blk_window.specs.Pages.{held_of}
use Rattle.blk_window.proofs.Changing.{length_stays, agree_part, one_stays}
use Rattle.blk_window.proofs.window.WindowFolder.set_len.Goals as goal

pub invariant_of-self : goal.invariant_of-self
invariant_of-self g c =
    let w = c.args.self.now in
    record {
      agrees = λ image there.
          subst (All (HoldsFileBytes image)) (sym c.forget.ensures.held)
          (agree_part (file_of c.args.file) (g.F.Folder.told w.inner) (g.F.Folder.told c.set_len.new.self) (SetLength (file_of c.args.file) c.args.length ∷ []) (held_of w.pages)
          (λ made left old split other apart. one_stays (file_of c.args.file) (SetLength (file_of c.args.file) c.args.length) (λ old other apart. length_stays (file_of c.args.file) c.args.length old other apart) made left old split other apart)
          (part_of_one c.set_len.result c.set_len.ensures.done c.set_len.ensures.undone) w.agrees image there);
    }
