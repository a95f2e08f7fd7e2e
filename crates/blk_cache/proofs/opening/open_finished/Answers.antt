use Rattle.std.proofs.Common.{◌≡◌, Some, inl, sym, ap, subst, ◌∙◌}
use Rattle.std.specs.Option.{ForSome}
use Rattle.std.proofs.lemmas.Result.{IfOk-weaker, on_ok_weaker}
use Rattle.spec_image.specs.Image.{Image}
use Rattle.spec_image.specs.Told.{Told}
use Rattle.spec_image.proofs.Runs.{some_inj}
use Rattle.spec_format.specs.BlockFiles.{first_damage, IsWellFormed}
use Rattle.blk_io.specs.declared.fault.Damage.{Damage}
use Rattle.blk_io.specs.Faults.{damage_of}
use Rattle.blk_index.specs.Start.{IsFinished}
use Rattle.blk_repair.proofs.Endings.{either-stayed, either-weaker, ends-stayed, ends-weaker}
use Rattle.blk_cache.specs.Opening.{IfOpenDamaged}
use Rattle.blk_cache.proofs.CarriedFaults.{damaged-on, if-memory, open-damaged-weaker, open-damaged-where, open-memory-weaker}
use Rattle.blk_scan.proofs.FirstDamages.{formed-of}
use Rattle.blk_cache.proofs.OpenRuns.{first-of_load, loading-as, mid-still, stayed-still, told-some}
use Rattle.blk_cache.proofs.opening.open_finished.Given as given
use Rattle.blk_cache.proofs.opening.open_finished.Goals as goal
use Rattle.blk_cache.proofs.opening.open_finished.Goals.{After-open_loaded}

pub returns-in_err-files-clause-stops : goal.returns-in_err-files-clause-stops
returns-in_err-files-clause-stops g c from there fin = inl (stayed-still from there c.in_err-files.ensures.reads.stays)

pub returns-in_err-files-clause-damaged : goal.returns-in_err-files-clause-damaged
returns-in_err-files-clause-damaged g c =
    damaged-on c.from_residual.result c.in_err-files.field-0.0 c.from_residual.ensures.1 _ (loading-as c.in_err-files.field-0.0 (g.F.Folder.told c.args.folder.now) (g.F.Folder.told c.load.new.f) c.in_err-files.ensures.reads.stays c.in_err-files.ensures.cause)

pub returns-in_err-files-clause-first : goal.returns-in_err-files-clause-first
returns-in_err-files-clause-first g c =
    damaged-on c.from_residual.result c.in_err-files.field-0.0 c.from_residual.ensures.1 _ (first-of_load c.in_err-files.field-0.0 (g.F.Folder.told c.args.folder.now).files c.in_err-files.ensures.loaded)

pub returns-in_err-files-clause-unwritten : goal.returns-in_err-files-clause-unwritten
returns-in_err-files-clause-unwritten g c from there fin bad = c.in_err-files.ensures.reads.stays

pub returns-in_err-files-clause-memory : goal.returns-in_err-files-clause-memory
returns-in_err-files-clause-memory g c = if-memory c.from_residual.result _ c.in_err-files.ensures.reads.stays

pub open_loaded-requires : goal.open_loaded-requires
open_loaded-requires g c = record {
  is_open = λ i here.
      let there = sym (ap (λ (t : Told). t.files) c.in_ok-files.ensures.reads.stays) ∙ here in
      record { agrees = (c.in_ok-files.ensures.loaded i there).0; whole_index = c.requires.complete i there };
}

-- what was loaded of an initialized folder is well formed
formed : (g : given.Over) (c : After-open_loaded g) (from : Image) → (g.F.Folder.told c.args.folder.now).files ≡ Some from → IsFinished from → IsWellFormed from
formed g c from there fin = formed-of from fin.undamaged (c.in_ok-files.ensures.loaded from there).1

-- and so is an observable folder with these files
formed-here : (g : given.Over) (c : After-open_loaded g) (from : Image) → (g.F.Folder.told c.args.folder.now).files ≡ Some from → IsFinished from → ForSome (g.F.Folder.told c.load.new.f).files IsWellFormed
formed-here g c from there fin i here = subst IsWellFormed (some_inj (sym (ap (λ (t : Told). t.files) c.in_ok-files.ensures.reads.stays ∙ there) ∙ here)) (formed g c from there fin)

pub returns-clause-opened : goal.returns-clause-opened
returns-clause-opened g c =
    IfOk-weaker c.open_loaded.result _ _ (λ opened left from there fin. left from (ap (λ (t : Told). t.files) c.in_ok-files.ensures.reads.stays ∙ there) (formed g c from there fin)) c.open_loaded.ensures.opened

pub returns-clause-checked : goal.returns-clause-checked
returns-clause-checked g c = on_ok_weaker c.open_loaded.result (λ _ from there fin. formed g c from there fin) c.open_loaded.ensures.last

pub returns-clause-stops : goal.returns-clause-stops
returns-clause-stops g c from there fin =
    let mid = c.open_loaded.ensures.stops from (ap (λ (t : Told). t.files) c.in_ok-files.ensures.reads.stays ∙ there) (formed g c from there fin) in
    either-stayed c.in_ok-files.ensures.reads.stays (either-weaker mid (mid-still from) (λ i stands. stands))

pub returns-clause-last : goal.returns-clause-last
returns-clause-last g c =
    on_ok_weaker c.open_loaded.result
    (λ ends from there fin.
    ends-stayed c.in_ok-files.ensures.reads.stays (ends-weaker (ends from (ap (λ (t : Told). t.files) c.in_ok-files.ensures.reads.stays ∙ there) (formed g c from there fin)) (mid-still from) (λ i stands. stands))) c.open_loaded.ensures.last

-- a failed check of an initialized folder comes only where it is opaque
never : (g : given.Over) (c : After-open_loaded g) (P : Damage → Image → Type 0) → IfOpenDamaged c.open_loaded.result (λ damage. ForSome (g.F.Folder.told c.args.folder.now).files (λ from. IsFinished from → P damage from))
never g c P =
    open-damaged-weaker c.open_loaded.result _ _
    (λ damage none from there fin. told-some (g.F.Folder.told c.load.new.f) from (ap (λ (t : Told). t.files) c.in_ok-files.ensures.reads.stays ∙ there) (none (formed-here g c from there fin)))
    (open-damaged-where c.open_loaded.result _ _ c.open_loaded.ensures.untold)

pub returns-clause-first : goal.returns-clause-first
returns-clause-first g c = never g c (λ damage from. first_damage from ≡ Some (damage_of damage))

pub returns-clause-unwritten : goal.returns-clause-unwritten
returns-clause-unwritten g c from there fin bad = absurd (bad (formed g c from there fin))

pub returns-clause-memory : goal.returns-clause-memory
returns-clause-memory g c = open-memory-weaker c.open_loaded.result _ _ (λ same. same ∙ c.in_ok-files.ensures.reads.stays) c.open_loaded.ensures.memory
