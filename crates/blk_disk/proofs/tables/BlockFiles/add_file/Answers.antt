use Rattle.std.proofs.Common.{◌+◌, ◌≤◌, ℕ, ◌++◌, refl, sym, subst}
use Rattle.std.specs.Option.{ForSome}
use Rattle.spec_image.specs.Image.{Block, length_of}
use Rattle.spec_image.specs.Told.{Applies, AppliesPrefix}
use Rattle.spec_image.proofs.Runs.{grows_then, part_only, part_then}
use Rattle.spec_format.specs.BlockFiles.{is_block_count}
use Rattle.blk_addr.specs.Kind.{kind_number}
use Rattle.blk_disk.specs.Tables.{Joins}
use Rattle.blk_disk.specs.Growth.{free_number, last_file, link_steps, file_steps}
use Rattle.blk_disk.proofs.Joined.{add_agrees, add_stops, add_room, least_is}
use Rattle.blk_disk.proofs.tables.BlockFiles.add_file.Goals as goal

pub returns-in_err-make_file-clause-prefix : goal.returns-in_err-make_file-clause-prefix
returns-in_err-make_file-clause-prefix g c =
    part_only (link_steps (last_file c.args.self.now (kind_number c.args.kind)) (free_number c.args.self.now))
    (subst (λ (n : ℕ). AppliesPrefix (g.F.Folder.told c.args.f.now) (g.F.Folder.told c.make_file.new.folder) (file_steps (kind_number c.args.kind) n)) c.free_number-n.ensures.number c.in_err-make_file.ensures.prefix)

pub returns-in_err-make_file-clause-stops : goal.returns-in_err-make_file-clause-stops
returns-in_err-make_file-clause-stops g c = add_stops c.args.self.now c.args.kind c.requires.block_kind (g.F.Folder.told c.args.f.now) c.requires.agrees c.requires.room (least_is c.args.self.now c.free_number-n.result c.free_number-n.ensures.number c.free_number-n.ensures.least) (returns-in_err-make_file-clause-prefix g c)

pub link_file-requires : goal.link_file-requires
link_file-requires g c =
    subst (λ (last : ℕ). ForSome (g.F.Folder.told c.make_file.new.folder).files (λ image. 10 + 2 ≤ length_of image (Block last))) (sym c.last_file.ensures)
    (add_room c.args.self.now c.args.kind c.requires.block_kind (g.F.Folder.told c.args.f.now) c.requires.agrees c.requires.room (least_is c.args.self.now c.free_number-n.result c.free_number-n.ensures.number c.free_number-n.ensures.least)
    (subst (λ (n : ℕ). Applies (g.F.Folder.told c.args.f.now) (g.F.Folder.told c.make_file.new.folder) (file_steps (kind_number c.args.kind) n)) c.free_number-n.ensures.number c.in_ok-make_file.ensures.steps))

pub returns-in_err-link_file-clause-prefix : goal.returns-in_err-link_file-clause-prefix
returns-in_err-link_file-clause-prefix g c =
    subst (λ (last : ℕ). AppliesPrefix (g.F.Folder.told c.args.f.now) (g.F.Folder.told c.link_file.new.folder) (file_steps (kind_number c.args.kind) (free_number c.args.self.now) ++ link_steps last (free_number c.args.self.now))) c.last_file.ensures
    (subst (λ (n : ℕ). AppliesPrefix (g.F.Folder.told c.args.f.now) (g.F.Folder.told c.link_file.new.folder) (file_steps (kind_number c.args.kind) n ++ link_steps c.last_file.result n)) c.free_number-n.ensures.number
    (part_then c.in_ok-make_file.ensures.steps c.link_file.ensures.prefix))

pub returns-in_err-link_file-clause-stops : goal.returns-in_err-link_file-clause-stops
returns-in_err-link_file-clause-stops g c = add_stops c.args.self.now c.args.kind c.requires.block_kind (g.F.Folder.told c.args.f.now) c.requires.agrees c.requires.room (least_is c.args.self.now c.free_number-n.result c.free_number-n.ensures.number c.free_number-n.ensures.least) (returns-in_err-link_file-clause-prefix g c)

pub join-requires-clause-count : goal.join-requires-clause-count
unfolding is_block_count
join-requires-clause-count g c = refl

pub returns-clause-steps : goal.returns-clause-steps
returns-clause-steps g c =
    subst (λ (last : ℕ). Applies (g.F.Folder.told c.args.f.now) (g.F.Folder.told c.link_file.new.folder) (file_steps (kind_number c.args.kind) (free_number c.args.self.now) ++ link_steps last (free_number c.args.self.now))) c.last_file.ensures
    (subst (λ (n : ℕ). Applies (g.F.Folder.told c.args.f.now) (g.F.Folder.told c.link_file.new.folder) (file_steps (kind_number c.args.kind) n ++ link_steps c.last_file.result n)) c.free_number-n.ensures.number
    (grows_then c.in_ok-make_file.ensures.steps c.in_ok-link_file.ensures.steps))

pub returns-clause-prefix : goal.returns-clause-prefix
returns-clause-prefix g c =
    subst (λ (last : ℕ). AppliesPrefix (g.F.Folder.told c.args.f.now) (g.F.Folder.told c.link_file.new.folder) (file_steps (kind_number c.args.kind) (free_number c.args.self.now) ++ link_steps last (free_number c.args.self.now))) c.last_file.ensures
    (subst (λ (n : ℕ). AppliesPrefix (g.F.Folder.told c.args.f.now) (g.F.Folder.told c.link_file.new.folder) (file_steps (kind_number c.args.kind) n ++ link_steps c.last_file.result n)) c.free_number-n.ensures.number
    (part_then c.in_ok-make_file.ensures.steps c.link_file.ensures.prefix))

pub returns-clause-agrees : goal.returns-clause-agrees
returns-clause-agrees g c =
    add_agrees c.args.self.now c.args.kind c.requires.block_kind (g.F.Folder.told c.args.f.now) c.requires.agrees c.requires.room (least_is c.args.self.now c.free_number-n.result c.free_number-n.ensures.number c.free_number-n.ensures.least) c.join.new.self (returns-clause-steps g c)
    (subst (λ (n : ℕ). Joins c.args.self.now c.join.new.self (kind_number c.args.kind) n 0 8192) c.free_number-n.ensures.number c.join.ensures)

pub returns-clause-stops : goal.returns-clause-stops
returns-clause-stops g c = add_stops c.args.self.now c.args.kind c.requires.block_kind (g.F.Folder.told c.args.f.now) c.requires.agrees c.requires.room (least_is c.args.self.now c.free_number-n.result c.free_number-n.ensures.number c.free_number-n.ensures.least) (returns-clause-prefix g c)
