use Rattle.std.proofs.Common.{◌≡◌, ℕ, ◌/◌, List, [], ◌∷◌, None, Some, sym, ◌∙◌, ap, subst, arith}
use Rattle.std.proofs.lemmas.Result.{on_ok_weaker}
use Rattle.spec_image.specs.Image.{Image}
use Rattle.spec_image.proofs.Runs.{some_inj}
use Rattle.blk_alloc.proofs.Needed.{needed_end, needed_none, needed_then, needed_weaker}
use Rattle.spec_format.specs.BlockFiles.{is_among, max_entries_in}
use Rattle.spec_format.specs.Maps.{groups_of}
use Rattle.blk_disk.specs.declared.tables.BlockFiles.{BlockFiles}
use Rattle.blk_disk.specs.Tables.{Agrees, files_of}
use Rattle.blk_alloc.specs.Rebuilding.{IsRebuilding, IsRebuilt, RemakesInProgress}
use Rattle.blk_alloc.specs.declared.blocks.Blocks.{Blocks}
use Rattle.blk_io.proofs.Carried.{if_damaged_weaker, told_at_end}
use Rattle.spec_image.specs.Steps.{after}
use Rattle.blk_disk.specs.Growth.{fit_steps}
use Rattle.blk_alloc.proofs.Causes.{none_before}
use Rattle.blk_alloc.proofs.Rebuilt.{fit_needed, fitted_none}
use Rattle.spec_image.specs.Told.{Told}
use Rattle.blk_alloc.proofs.Formed.{agrees_kept}
use Rattle.spec_format.proofs.LinkedHeads.{count_whole}
use Rattle.blk_alloc.proofs.Kept.{fit_larger, standing_kept, standing_same}
use Rattle.blk_disk.proofs.WholeHeaders.{all_head}
use Rattle.blk_alloc.proofs.Remade.{lengthened_is, rebuilding_begin, remade_is}
use Rattle.blk_alloc.proofs.Taken.{fit_passes}
use Rattle.blk_alloc.proofs.TakenAfter.{mid_of}
use Rattle.blk_alloc.proofs.rebuilding.rebuild_file.Given as given
use Rattle.blk_alloc.proofs.rebuilding.rebuild_file.Goals as goal

pub returns-in_err-fit-clause-stops : goal.returns-in_err-fit-clause-stops
returns-in_err-fit-clause-stops g c from there =
    needed_none (IsRebuilding c.args.claims.now (c.args.file ∷ []) from) c.in_err-fit.ensures.undone (λ image is. subst (IsRebuilding c.args.claims.now (c.args.file ∷ []) from) (some_inj (sym there ∙ is)) (rebuilding_begin c.args.claims.now (c.args.file ∷ []) from))

pub remake-requires-clause-header : goal.remake-requires-clause-header
remake-requires-clause-header g c mid now =
    (all_head c.fit.new.self mid c.args.file (c.in_ok-fit.ensures.agrees mid now) (ap (λ (l : List ℕ). is_among l c.args.file) c.in_ok-fit.ensures.kept.all ∙ c.requires.linked)).header

-- the groups of the file, as they are kept
groups_now : (g : given.Over) (c : goal.After-remake g) (mid : Image) → (g.F.Folder.told c.fit.new.f).files ≡ Some mid → c.blocks_in-groups.result / 4 ≡ groups_of (max_entries_in mid c.args.file)
groups_now g c mid now =
    let agrees = c.in_ok-fit.ensures.agrees mid now in
    let there : is_among _ c.args.file ≡ _ = ap (λ (l : List ℕ). is_among l c.args.file) c.in_ok-fit.ensures.kept.all ∙ c.requires.linked in
    let most = (count_whole _ (all_head c.fit.new.self mid c.args.file agrees there).count).1 in
    let same = agrees.blocks c.args.file there in
    let blocks = c.blocks_in-groups.ensures.blocks there in
    ap (λ (k : ℕ). k / 4) {x = c.blocks_in-groups.result} {y = max_entries_in mid c.args.file} (omega (arith, most, same, blocks))

pub returns-clause-done : goal.returns-clause-done
returns-clause-done g c =
    on_ok_weaker c.remake.result
    (λ done. told_at_end (g.F.Folder.told c.fit.new.f).files (g.F.Folder.told c.remake.new.folder).files (λ image. IsRebuilt c.args.claims.now image c.args.file) c.remake.ensures.writes.silent (λ mid now. done mid now (groups_now g c mid now))) c.remake.ensures.done

pub returns-clause-agrees : goal.returns-clause-agrees
returns-clause-agrees g c =
    told_at_end (g.F.Folder.told c.fit.new.f).files (g.F.Folder.told c.remake.new.folder).files (Agrees c.fit.new.self) c.remake.ensures.writes.silent
    (λ mid now. let keeps : (i : Image) → RemakesInProgress c.args.claims.now c.args.file mid i → Agrees c.fit.new.self i = λ i remade. agrees_kept c.args.file mid i remade.same c.fit.new.self (c.in_ok-fit.ensures.agrees mid now) in
    needed_end (needed_weaker (c.remake.ensures.stops mid now (groups_now g c mid now)) keeps))

pub returns-clause-stops : goal.returns-clause-stops
returns-clause-stops g c from there =
    let place : Blocks = record { file = c.args.file; start = 0; count = 0 } in
    let found = mid_of (g.F.Folder.told c.args.folder.now) (g.F.Folder.told c.fit.new.f) c.args.files.now c.fit.new.self place c.requires.agrees c.requires.linked c.in_ok-fit.ensures.fitted c.in_ok-fit.ensures.kept c.in_ok-fit.ensures.agrees from there in
    let keeps : (i : Image) → RemakesInProgress c.args.claims.now c.args.file found.0 i → IsRebuilding c.args.claims.now (c.args.file ∷ []) from i =
    λ i remade. remade_is c.args.claims.now c.args.file from found.0 found.1.same found.1.longer i remade in
    needed_then from there
    (fit_needed c.args.files.now c.args.file from (IsRebuilding c.args.claims.now (c.args.file ∷ []) from) there (c.requires.agrees from there) c.requires.linked c.in_ok-fit.ensures.fitted
    (fit_passes c.args.files.now c.args.file from (c.requires.agrees from there) c.requires.linked (IsRebuilding c.args.claims.now (c.args.file ∷ []) from) there c.in_ok-fit.ensures.fitted
    (λ i same longer. lengthened_is c.args.claims.now c.args.file from i same longer)))
    (λ mid now lengthened. needed_weaker (c.remake.ensures.stops found.0 found.1.now (groups_now g c found.0 found.1.now)) keeps)

pub returns-in_err-fit-clause-all : goal.returns-in_err-fit-clause-all
returns-in_err-fit-clause-all g c kind = ap (λ (files : BlockFiles). files_of files kind) c.in_err-fit.ensures.same

pub returns-clause-all : goal.returns-clause-all
returns-clause-all g c kind = c.in_ok-fit.ensures.kept.files kind

pub returns-in_err-fit-clause-keeps : goal.returns-in_err-fit-clause-keeps
returns-in_err-fit-clause-keeps g c = standing_same c.args.files.now c.fit.new.self c.in_err-fit.ensures.same

pub returns-clause-keeps : goal.returns-clause-keeps
returns-clause-keeps g c = standing_kept c.args.files.now c.fit.new.self (fit_larger c.args.files.now c.fit.new.self c.args.file _ c.in_ok-fit.ensures.kept)

pub returns-clause-untold : goal.returns-clause-untold
returns-clause-untold g c =
    if_damaged_weaker c.remake.result (λ _. (g.F.Folder.told c.fit.new.f).files ≡ None) (λ _. (g.F.Folder.told c.args.folder.now).files ≡ None)
    (λ damage none. none_before (after (fit_steps c.args.files.now c.args.file)) (g.F.Folder.told c.args.folder.now).files (g.F.Folder.told c.fit.new.f).files c.in_ok-fit.ensures.fitted.files none) c.remake.ensures.untold

pub returns-in_err-fit-clause-clean : goal.returns-in_err-fit-clause-clean
returns-in_err-fit-clause-clean g c from there long rebuilt = c.in_err-fit.ensures.undone

-- a file with all its blocks isn't lengthened
pub returns-clause-clean : goal.returns-clause-clean
returns-clause-clean g c from there long rebuilt =
    let stays = fitted_none c.args.files.now c.args.file (g.F.Folder.told c.args.folder.now) (g.F.Folder.told c.fit.new.f) long c.in_ok-fit.ensures.fitted in
    let now = ap (λ (t : Told). t.files) stays ∙ there in
    c.remake.ensures.clean from now (groups_now g c from now) rebuilt ∙ stays
