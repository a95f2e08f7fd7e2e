use Rattle.std.proofs.Common.{◌≡◌, ℕ, subst}
use Rattle.std.specs.Prelude.{OnOk}
use Rattle.std.proofs.lemmas.Result.{on_ok_weaker}
use Rattle.spec_image.specs.Told.{Applies, AppliesPrefix}
use Rattle.blk_addr.specs.Kind.{kind_number}
use Rattle.spec_image.specs.Steps.{with_words}
use Rattle.spec_format.specs.Records.{seal_of}
use Rattle.spec_format.specs.Sealed.{seal_place, update_steps}
use Rattle.blk_disk.proofs.SealedWrites.{agrees_after, seal_from, seal_is, stops_from, updated_from}
use Rattle.blk_disk.proofs.tables.BlockFiles.update_record.Given as given
use Rattle.blk_disk.proofs.tables.BlockFiles.update_record.Goals as goal
use Rattle.blk_disk.proofs.tables.BlockFiles.update_record.Goals.{After-write_update}

seal_here : (g : given.Over) (c : After-write_update g) → c.seal_after-seal.result ≡ seal_of (seal_place c.args.addr) (with_words c.args.changes.now c.args.bytes.now)
seal_here g c = seal_is c.args.addr (kind_number c.kind.result) c.seal_after-seal.result c.args.bytes.now c.args.changes.now c.kind.ensures c.seal_after-seal.ensures.seal

pub returns-clause-steps : goal.returns-clause-steps
returns-clause-steps g c =
    subst (λ (seal : ℕ). OnOk c.write_update.result (Applies (g.F.Folder.told c.args.folder.now) (g.F.Folder.told c.write_update.new.folder) (update_steps c.args.addr c.args.changes.now seal))) (seal_here g c) c.write_update.ensures.steps

pub returns-clause-prefix : goal.returns-clause-prefix
returns-clause-prefix g c =
    subst (λ (seal : ℕ). AppliesPrefix (g.F.Folder.told c.args.folder.now) (g.F.Folder.told c.write_update.new.folder) (update_steps c.args.addr c.args.changes.now seal)) (seal_here g c) c.write_update.ensures.prefix

pub returns-clause-updated : goal.returns-clause-updated
returns-clause-updated g c =
    on_ok_weaker c.write_update.result
    (λ applies from there read.
    updated_from c.args.self.now c.args.addr c.args.changes.now c.requires.stands c.requires.begins c.requires.changes (g.F.Folder.told c.args.folder.now) (g.F.Folder.told c.write_update.new.folder) c.seal_after-seal.result c.requires.agrees
    applies from there (seal_from from c.args.addr c.seal_after-seal.result c.args.bytes.now c.args.changes.now read (seal_here g c)))
    c.write_update.ensures.steps

pub returns-clause-agrees : goal.returns-clause-agrees
returns-clause-agrees g c =
    agrees_after c.args.self.now c.args.addr c.args.changes.now c.requires.stands c.requires.begins c.requires.changes (g.F.Folder.told c.args.folder.now) (g.F.Folder.told c.write_update.new.folder) c.seal_after-seal.result c.requires.agrees
    c.write_update.ensures.prefix

pub returns-clause-stops : goal.returns-clause-stops
returns-clause-stops g c from there read good =
    stops_from c.args.self.now c.args.addr c.args.changes.now c.requires.stands c.requires.begins c.requires.changes (g.F.Folder.told c.args.folder.now) (g.F.Folder.told c.write_update.new.folder) c.seal_after-seal.result c.requires.agrees
    c.write_update.ensures.prefix from there good (seal_from from c.args.addr c.seal_after-seal.result c.args.bytes.now c.args.changes.now read (seal_here g c))
