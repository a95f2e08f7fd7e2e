use Rattle.std.proofs.Common.{◌≡◌, ◌≤◌, ℕ, ◌+◌, Bool, true, false, List, if◌then◌else◌, Option, None, Some, sym, ◌∙◌, ap, subst, arith}
use Rattle.std.specs.Option.{is_some}
use Rattle.spec_image.specs.Told.{Told}
use Rattle.spec_format.specs.BlockFiles.{is_among}
use Rattle.blk_disk.specs.declared.tables.BlockFiles.{BlockFiles}
use Rattle.blk_disk.specs.Tables.{all_files}
use Rattle.blk_alloc.proofs.Fitted.{fitted_larger}
use Rattle.blk_alloc.proofs.Kept.{standing_kept}
use Rattle.blk_alloc.proofs.Rebuilt.{HasRebuilt, none_rebuilt, next_clean, next_none, next_rebuilt, next_stops, all_allocations, all_rebuilt}
use Rattle.blk_io.proofs.Carried.{carried, if_damaged_weaker}
use Rattle.blk_alloc.specs.Rebuilding.{IsRebuilding, IsShortRead, IsShortReadOf}
use Rattle.blk_alloc.proofs.Needed.{needed_passes}
use Rattle.blk_alloc.proofs.Rooms.{untold_before}
use Rattle.blk_alloc.proofs.rebuilding.rebuild.Goals as goal
use Rattle.blk_alloc.proofs.rebuilding.rebuild.Goals.{then-is_some+in_ok-rebuild_file, else-is_some}

-- whether a file is linked, by what is kept of it
linked_is : (t : Bool) (blocks : ℕ) (o : Option ℕ) (b : Bool) → o ≡ (if t then Some blocks else None) → b ≡ is_some o → b ≡ t
linked_is true blocks o b is test = test ∙ ap is_some is
linked_is false blocks o b is test = test ∙ ap is_some is

pub loop-number-init : goal.loop-number-init
loop-number-init g c = record { has = none_rebuilt (g.F.Folder.told c.args.f.now) c.args.files.now c.args.claims.now c.requires.agrees; later = omega arith }

pub returns-in_err-rebuild_file-clause-stops : goal.returns-in_err-rebuild_file-clause-stops
returns-in_err-rebuild_file-clause-stops g c =
    next_stops (g.F.Folder.told c.args.f.now) (g.F.Folder.told c.loop-number.f) c.args.files.now c.loop-number.files c.args.claims.now c.loop-number.number c.loop-number.invariant.has (g.F.Folder.told c.rebuild_file.new.folder)
    (sym (linked_is (is_among (all_files c.loop-number.files) c.loop-number.number) _ c.max_entries.result c.is_some.result c.max_entries.ensures c.is_some.ensures) ∙ c.if-is_some.true) c.rebuild_file.ensures.stops

pub loop-number-preserved : goal.loop-number-preserved
loop-number-preserved g c = elim c.if-is_some.branch [
  | then-is_some+in_ok-rebuild_file w ↦
      record {
        has =
            subst (λ (t : Told). HasRebuilt (g.F.Folder.told c.args.f.now) t c.args.files.now c.if-is_some.files c.args.claims.now (c.loop-number.number + 1)) (ap g.F.Folder.told (sym w.f-is))
            (subst (λ (files : BlockFiles). HasRebuilt (g.F.Folder.told c.args.f.now) (g.F.Folder.told w.rebuild_file.new.folder) c.args.files.now files c.args.claims.now (c.loop-number.number + 1)) (sym w.files-is)
            (next_rebuilt (g.F.Folder.told c.args.f.now) (g.F.Folder.told c.loop-number.f) c.args.files.now c.loop-number.files c.args.claims.now c.loop-number.number c.loop-number.invariant.has (g.F.Folder.told w.rebuild_file.new.folder)
            (sym (linked_is (is_among (all_files c.loop-number.files) c.loop-number.number) _ c.max_entries.result c.is_some.result c.max_entries.ensures c.is_some.ensures) ∙ w.if-is_some.true) w.rebuild_file.ensures.stops
            w.rebuild_file.new.files w.rebuild_file.ensures.writes.silent w.in_ok-rebuild_file.ensures.done w.in_ok-rebuild_file.ensures.fitted w.rebuild_file.ensures.agrees w.rebuild_file.ensures.clean));
        later = let one = c.loop-number.invariant.later in let other = w.rebuild_file.ensures.writes.later in subst (λ f. g.F.Folder.faults c.args.f.now ≤ g.F.Folder.faults f) (sym w.f-is) (omega (arith, one, other));
      }
  | else-is_some w ↦
      record {
        has =
            subst (λ (t : Told). HasRebuilt (g.F.Folder.told c.args.f.now) t c.args.files.now c.if-is_some.files c.args.claims.now (c.loop-number.number + 1)) (ap g.F.Folder.told (sym w.f-is))
            (subst (λ (files : BlockFiles). HasRebuilt (g.F.Folder.told c.args.f.now) (g.F.Folder.told c.loop-number.f) c.args.files.now files c.args.claims.now (c.loop-number.number + 1)) (sym w.files-is)
            (next_none (g.F.Folder.told c.args.f.now) (g.F.Folder.told c.loop-number.f) c.args.files.now c.loop-number.files c.args.claims.now c.loop-number.number c.loop-number.invariant.has
            (sym (linked_is (is_among (all_files c.loop-number.files) c.loop-number.number) _ c.max_entries.result c.is_some.result c.max_entries.ensures c.is_some.ensures) ∙ w.if-is_some.false)));
        later = let one = c.loop-number.invariant.later in subst (λ f. g.F.Folder.faults c.args.f.now ≤ g.F.Folder.faults f) (sym w.f-is) one;
      }
]

pub returns-clause-rebuilt : goal.returns-clause-rebuilt
returns-clause-rebuilt g c = all_rebuilt (g.F.Folder.told c.args.f.now) (g.F.Folder.told c.loop-number.f) c.args.files.now c.loop-number.files c.args.claims.now c.loop-number.number c.loop-number-test.false c.requires.agrees c.loop-number.invariant.has

pub returns-clause-allocations : goal.returns-clause-allocations
returns-clause-allocations g c = all_allocations (g.F.Folder.told c.args.f.now) (g.F.Folder.told c.loop-number.f) c.args.files.now c.loop-number.files c.args.claims.now c.loop-number.number c.loop-number-test.false c.requires.agrees c.loop-number.invariant.has

pub returns-in_err-rebuild_file-clause-all : goal.returns-in_err-rebuild_file-clause-all
returns-in_err-rebuild_file-clause-all g c kind = c.rebuild_file.ensures.all kind ∙ c.loop-number.invariant.has.fitted.files kind

pub returns-clause-all : goal.returns-clause-all
returns-clause-all g c kind = c.loop-number.invariant.has.fitted.files kind

pub returns-in_err-rebuild_file-clause-keeps : goal.returns-in_err-rebuild_file-clause-keeps
returns-in_err-rebuild_file-clause-keeps g c w is = c.rebuild_file.ensures.keeps w (standing_kept c.args.files.now c.loop-number.files (fitted_larger c.args.files.now c.loop-number.files c.loop-number.number c.loop-number.invariant.has.fitted) w is)

pub returns-clause-keeps : goal.returns-clause-keeps
returns-clause-keeps g c = standing_kept c.args.files.now c.loop-number.files (fitted_larger c.args.files.now c.loop-number.files c.loop-number.number c.loop-number.invariant.has.fitted)

pub returns-in_err-rebuild_file-clause-cause : goal.returns-in_err-rebuild_file-clause-cause
returns-in_err-rebuild_file-clause-cause g c =
    let told = g.F.Folder.told c.rebuild_file.new.folder in
    let linked : is_among (all_files c.loop-number.files) c.loop-number.number ≡ true = sym (linked_is (is_among (all_files c.loop-number.files) c.loop-number.number) _ c.max_entries.result c.is_some.result c.max_entries.ensures c.is_some.ensures) ∙ c.if-is_some.true in
    carried c.rebuild_file.result c.from_residual.result c.in_err-rebuild_file.field-0.0 _ c.in_err-rebuild_file.was c.from_residual.ensures.1
    (if_damaged_weaker c.rebuild_file.result (IsShortRead told c.loop-number.number) (IsShortReadOf told (all_files c.args.files.now))
    (λ damage short. record { file = c.loop-number.number; linked = ap (λ (l : List ℕ). is_among l c.loop-number.number) (sym c.loop-number.invariant.has.fitted.all) ∙ linked; short = short }) c.rebuild_file.ensures.cause)

pub returns-in_err-rebuild_file-clause-untold : goal.returns-in_err-rebuild_file-clause-untold
returns-in_err-rebuild_file-clause-untold g c =
    carried c.rebuild_file.result c.from_residual.result c.in_err-rebuild_file.field-0.0 _ c.in_err-rebuild_file.was c.from_residual.ensures.1
    (if_damaged_weaker c.rebuild_file.result (λ _. (g.F.Folder.told c.loop-number.f).files ≡ None) (λ _. (g.F.Folder.told c.args.f.now).files ≡ None)
    (λ damage none. untold_before (IsRebuilding c.args.claims.now (all_files c.args.files.now)) (λ from there. needed_passes (c.loop-number.invariant.has.stops from there)) none) c.rebuild_file.ensures.untold)

pub returns-in_err-rebuild_file-clause-clean : goal.returns-in_err-rebuild_file-clause-clean
returns-in_err-rebuild_file-clause-clean g c =
    next_clean (g.F.Folder.told c.args.f.now) (g.F.Folder.told c.loop-number.f) c.args.files.now c.loop-number.files c.args.claims.now c.loop-number.number c.loop-number.invariant.has (g.F.Folder.told c.rebuild_file.new.folder)
    (sym (linked_is (is_among (all_files c.loop-number.files) c.loop-number.number) _ c.max_entries.result c.is_some.result c.max_entries.ensures c.is_some.ensures) ∙ c.if-is_some.true) c.rebuild_file.ensures.stops c.rebuild_file.ensures.clean

pub returns-clause-clean : goal.returns-clause-clean
returns-clause-clean g c = c.loop-number.invariant.has.clean
