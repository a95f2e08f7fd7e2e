use Rattle.std.proofs.Common.{◌≡◌, [], ◌∷◌, None, sym, subst}
use Rattle.std.specs.Option.{ForSome}
use Rattle.spec_image.specs.Told.{Told}
use Rattle.spec_format.specs.Headers.{HasWholeIndex}
use Rattle.blk_io.proofs.Carried.{carried, if_damaged_weaker}
use Rattle.blk_addr.specs.Kind.{kind_number}
use Rattle.blk_disk.specs.Tables.{Agrees}
use Rattle.blk_object.specs.Making.{LeavesRoom, Takes}
use Rattle.blk_object.proofs.MakingRoom.{counted-with-room}
use Rattle.blk_object.proofs.MakingTaken.{allocated-taken, allocating-finds, allocating-tells, allocating-whole, block-kind, then-stays}
use Rattle.blk_object.proofs.DamageChecks.{handed, refusal-checked}
use Rattle.blk_object.specs.FailedChecks.{FailsLength}
use Rattle.blk_object.proofs.making_places.take_blocks.Goals as goal

pub allocate-requires-clause-agrees : goal.allocate-requires-clause-agrees
allocate-requires-clause-agrees g c from there = (c.requires.is_open from there).agrees

pub returns-in_err-addr-clause-stops : goal.returns-in_err-addr-clause-stops
returns-in_err-addr-clause-stops g c =
    allocating-finds (g.F.Folder.told c.args.folder.now) (g.F.Folder.told c.allocate.new.f) c.args.files.now (kind_number c.args.kind) c.args.count (block-kind c.args.kind c.requires.block_kind) (λ from there. (c.requires.is_open from there).agrees) c.allocate.ensures.stops

pub returns-in_err-addr-clause-untold : goal.returns-in_err-addr-clause-untold
returns-in_err-addr-clause-untold g c room =
    carried c.allocate.result c.from_residual.result c.in_err-addr.field-0.0 (λ _. (g.F.Folder.told c.args.folder.now).files ≡ None) c.in_err-addr.was c.from_residual.ensures.1
    (c.allocate.ensures.untold (λ from there. counted-with-room 0 c.args.files.now (kind_number c.args.kind) from (room from there) (c.requires.is_open from there).agrees (block-kind c.args.kind c.requires.block_kind)))

pub returns-in_err-check_index-clause-stops : goal.returns-in_err-check_index-clause-stops
returns-in_err-check_index-clause-stops g c from there room =
    then-stays (g.F.Folder.told c.args.folder.now) (g.F.Folder.told c.allocate.new.f) (g.F.Folder.told c.check_index.new.folder) c.check_index.ensures.reads.stays
    (allocating-finds (g.F.Folder.told c.args.folder.now) (g.F.Folder.told c.allocate.new.f) c.args.files.now (kind_number c.args.kind) c.args.count (block-kind c.args.kind c.requires.block_kind) (λ i is. (c.requires.is_open i is).agrees) c.allocate.ensures.stops from there room)

pub returns-in_err-check_index-clause-untold : goal.returns-in_err-check_index-clause-untold
returns-in_err-check_index-clause-untold g c room =
    let block = block-kind c.args.kind c.requires.block_kind in
    carried c.check_index.result c.from_residual-in_err-check_index.result c.in_err-check_index.field-0.0 (λ _. (g.F.Folder.told c.args.folder.now).files ≡ None) c.in_err-check_index.was c.from_residual-in_err-check_index.ensures.1
    (if_damaged_weaker c.check_index.result (λ _. (g.F.Folder.told c.allocate.new.f).files ≡ None) (λ _. (g.F.Folder.told c.args.folder.now).files ≡ None)
    (λ damage none. allocating-tells (g.F.Folder.told c.args.folder.now) (g.F.Folder.told c.allocate.new.f) c.args.files.now (kind_number c.args.kind) c.args.count block (λ i is. (c.requires.is_open i is).agrees) c.allocate.ensures.stops room none)
    (c.check_index.ensures.untold (allocating-whole (g.F.Folder.told c.args.folder.now) (g.F.Folder.told c.allocate.new.f) c.args.files.now (kind_number c.args.kind) c.args.count block (λ i is. (c.requires.is_open i is).agrees) c.allocate.ensures.stops c.allocate.ensures.writes.silent room)))

pub returns-clause-stops : goal.returns-clause-stops
returns-clause-stops g c from there room =
    then-stays (g.F.Folder.told c.args.folder.now) (g.F.Folder.told c.allocate.new.f) (g.F.Folder.told c.check_index.new.folder) c.check_index.ensures.reads.stays
    (allocating-finds (g.F.Folder.told c.args.folder.now) (g.F.Folder.told c.allocate.new.f) c.args.files.now (kind_number c.args.kind) c.args.count (block-kind c.args.kind c.requires.block_kind) (λ i is. (c.requires.is_open i is).agrees) c.allocate.ensures.stops from there room)

pub returns-clause-taken : goal.returns-clause-taken
returns-clause-taken g c =
    let a : Told = g.F.Folder.told c.args.folder.now in
    subst (λ (t : Told). ForSome a.files (λ from. LeavesRoom 1 from → ForSome t.files (Takes (c.in_ok-addr.addr ∷ []) from))) (sym c.check_index.ensures.reads.stays)
    (allocated-taken a (g.F.Folder.told c.allocate.new.f) c.args.files.now (kind_number c.args.kind) c.args.count (block-kind c.args.kind c.requires.block_kind) (λ i is. (c.requires.is_open i is).agrees) c.allocate.ensures.stops
    c.allocate.new.files c.in_ok-addr.addr c.in_ok-addr.ensures.kind.0 c.in_ok-addr.ensures.address c.in_ok-addr.ensures.agrees c.in_ok-addr.ensures.stands c.in_ok-addr.ensures.long c.in_ok-addr.ensures.links c.in_ok-addr.ensures.allocates c.in_ok-addr.ensures.within)

pub returns-clause-is_open : goal.returns-clause-is_open
returns-clause-is_open g c image there = record {
  agrees = subst (λ (t : Told). ForSome t.files (Agrees c.allocate.new.files)) (sym c.check_index.ensures.reads.stays) c.in_ok-addr.ensures.agrees image there;
  whole_index = subst (λ (t : Told). ForSome t.files HasWholeIndex) (sym c.check_index.ensures.reads.stays) c.in_ok-check_index.ensures.whole image there;
}

pub returns-in_err-addr-clause-damaged : goal.returns-in_err-addr-clause-damaged
returns-in_err-addr-clause-damaged g c =
    handed c.allocate.result c.from_residual.result c.in_err-addr.field-0.0 _ c.allocate.new.files (g.F.Folder.told c.allocate.new.f)
    (λ damage cause. refusal-checked c.args.files.now c.allocate.new.files c.args.kind c.args.count (g.F.Folder.told c.args.folder.now) (g.F.Folder.told c.allocate.new.f) damage c.requires.block_kind c.allocate.ensures.keeps cause)
    c.in_err-addr.was c.from_residual.ensures.1 c.allocate.ensures.cause

pub returns-in_err-check_index-clause-damaged : goal.returns-in_err-check_index-clause-damaged
returns-in_err-check_index-clause-damaged g c =
    handed c.check_index.result c.from_residual-in_err-check_index.result c.in_err-check_index.field-0.0 _ c.allocate.new.files (g.F.Folder.told c.check_index.new.folder) (λ damage other. FailsLength other) c.in_err-check_index.was c.from_residual-in_err-check_index.ensures.1 c.check_index.ensures.damaged
