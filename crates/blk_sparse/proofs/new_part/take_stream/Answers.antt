use Rattle.std.proofs.Common.{◌≡◌, ◌+◌, ℕ, [], ◌∷◌, length, None, sym, ◌∙◌, ap, subst, arith}
use Rattle.std.specs.Option.{ForSome}
use Rattle.spec_image.specs.Told.{Told}
use Rattle.blk_io.proofs.Carried.{carried, if_damaged_weaker}
use Rattle.spec_format.specs.Address.{is_address}
use Rattle.spec_format.specs.Headers.{HasWholeIndex}
use Rattle.spec_folder.specs.View.{store_of}
use Rattle.blk_disk.specs.Tables.{Agrees}
use Rattle.blk_object.specs.FailedChecks.{FailsLength}
use Rattle.blk_object.specs.Making.{LeavesRoom, Takes}
use Rattle.blk_object.proofs.DamageChecks.{handed}
use Rattle.blk_object.proofs.MakingTaken.{then-stays}
use Rattle.blk_object.proofs.WriteChecks.{refused-checked}
use Rattle.blk_sparse.proofs.NewPlaces.{can-place, new-long, stored-taken, stored-whole, storing-finds, storing-tells}
use Rattle.blk_sparse.proofs.new_part.take_stream.Goals as goal

pub store_new-requires-clause-agrees : goal.store_new-requires-clause-agrees
store_new-requires-clause-agrees g c from there = (c.requires.is_open from there).agrees

pub store_new-requires-clause-complete : goal.store_new-requires-clause-complete
store_new-requires-clause-complete g c from there = (c.requires.is_open from there).whole_index

pub returns-in_err-addr-clause-stops : goal.returns-in_err-addr-clause-stops
returns-in_err-addr-clause-stops g c =
    storing-finds (g.F.Folder.told c.args.folder.now) (g.F.Folder.told c.store_new.new.folder) c.args.files.now c.store_new.new.files (c.args.offset + length c.args.bytes.now) (omega (arith, c.requires.some)) c.requires.is_open c.store_new.ensures.stages

pub returns-in_err-addr-clause-untold : goal.returns-in_err-addr-clause-untold
returns-in_err-addr-clause-untold g c room =
    carried c.store_new.result c.from_residual.result c.in_err-addr.field-0.0 (λ _. (g.F.Folder.told c.args.folder.now).files ≡ None) c.in_err-addr.was c.from_residual.ensures.1
    (c.store_new.ensures.untold (λ from there. can-place (g.F.Folder.told c.args.folder.now) (g.F.Folder.told c.store_new.new.folder) c.args.files.now c.store_new.new.files (c.args.offset + length c.args.bytes.now) (omega (arith, c.requires.some)) c.requires.is_open from there (room from there)))

pub returns-in_err-addr-clause-damaged : goal.returns-in_err-addr-clause-damaged
returns-in_err-addr-clause-damaged g c =
    handed c.store_new.result c.from_residual.result c.in_err-addr.field-0.0 _ c.store_new.new.files (g.F.Folder.told c.store_new.new.folder)
    (λ damage why. refused-checked c.args.files.now c.store_new.new.files (c.args.offset + length c.args.bytes.now) (g.F.Folder.told c.args.folder.now) (g.F.Folder.told c.store_new.new.folder) damage c.store_new.ensures.keeps why)
    c.in_err-addr.was c.from_residual.ensures.1 c.store_new.ensures.damaged

pub returns-in_err-check_index-clause-stops : goal.returns-in_err-check_index-clause-stops
returns-in_err-check_index-clause-stops g c from there room =
    then-stays (g.F.Folder.told c.args.folder.now) (g.F.Folder.told c.store_new.new.folder) (g.F.Folder.told c.check_index.new.folder) c.check_index.ensures.reads.stays
    (storing-finds (g.F.Folder.told c.args.folder.now) (g.F.Folder.told c.store_new.new.folder) c.args.files.now c.store_new.new.files (c.args.offset + length c.args.bytes.now) (omega (arith, c.requires.some)) c.requires.is_open c.store_new.ensures.stages from there room)

pub returns-in_err-check_index-clause-untold : goal.returns-in_err-check_index-clause-untold
returns-in_err-check_index-clause-untold g c room =
    let a : Told = g.F.Folder.told c.args.folder.now in
    let b : Told = g.F.Folder.told c.store_new.new.folder in
    let size : ℕ = c.args.offset + length c.args.bytes.now in
    carried c.check_index.result c.from_residual-in_err-check_index.result c.in_err-check_index.field-0.0 (λ _. a.files ≡ None) c.in_err-check_index.was c.from_residual-in_err-check_index.ensures.1
    (if_damaged_weaker c.check_index.result (λ _. b.files ≡ None) (λ _. a.files ≡ None) (λ damage none. storing-tells a b c.args.files.now c.store_new.new.files size (omega (arith, c.requires.some)) c.requires.is_open c.store_new.ensures.stages room none)
    (c.check_index.ensures.untold (stored-whole a b c.args.files.now c.store_new.new.files size (omega (arith, c.requires.some)) c.requires.is_open c.store_new.ensures.stages c.in_ok-addr.addr c.in_ok-addr.ensures.staged c.store_new.ensures.writes.silent room)))

pub returns-in_err-check_index-clause-damaged : goal.returns-in_err-check_index-clause-damaged
returns-in_err-check_index-clause-damaged g c =
    handed c.check_index.result c.from_residual-in_err-check_index.result c.in_err-check_index.field-0.0 _ c.store_new.new.files (g.F.Folder.told c.check_index.new.folder) (λ damage other. FailsLength other) c.in_err-check_index.was c.from_residual-in_err-check_index.ensures.1 c.check_index.ensures.damaged

pub returns-clause-address : goal.returns-clause-address
returns-clause-address g c = ap is_address (sym c.word-word.ensures.word) ∙ c.word-word.ensures.address

pub returns-clause-stops : goal.returns-clause-stops
returns-clause-stops g c from there room =
    then-stays (g.F.Folder.told c.args.folder.now) (g.F.Folder.told c.store_new.new.folder) (g.F.Folder.told c.check_index.new.folder) c.check_index.ensures.reads.stays
    (storing-finds (g.F.Folder.told c.args.folder.now) (g.F.Folder.told c.store_new.new.folder) c.args.files.now c.store_new.new.files (c.args.offset + length c.args.bytes.now) (omega (arith, c.requires.some)) c.requires.is_open c.store_new.ensures.stages from there room)

pub returns-clause-taken : goal.returns-clause-taken
returns-clause-taken g c =
    let a : Told = g.F.Folder.told c.args.folder.now in
    subst (λ (t : Told). ForSome a.files (λ from. LeavesRoom 1 from → ForSome t.files (Takes (c.in_ok-addr.addr ∷ []) from))) (sym c.check_index.ensures.reads.stays)
    (stored-taken a (g.F.Folder.told c.store_new.new.folder) c.args.files.now c.store_new.new.files (c.args.offset + length c.args.bytes.now) (omega (arith, c.requires.some)) c.requires.is_open c.store_new.ensures.stages c.in_ok-addr.addr c.in_ok-addr.ensures.staged)

pub returns-clause-stored : goal.returns-clause-stored
returns-clause-stored g c from there room image now =
    let a : Told = g.F.Folder.told c.args.folder.now in
    let b : Told = g.F.Folder.told c.store_new.new.folder in
    let size : ℕ = c.args.offset + length c.args.bytes.now in
    ap (λ (n : ℕ). (store_of image).stored n c.in_ok-addr.addr) (new-long c.args.offset c.args.bytes.now)
    ∙ c.in_ok-addr.ensures.stored from there (can-place a b c.args.files.now c.store_new.new.files size (omega (arith, c.requires.some)) c.requires.is_open from there room) image (ap (λ (t : Told). t.files) (sym c.check_index.ensures.reads.stays) ∙ now)

pub returns-clause-is_open : goal.returns-clause-is_open
returns-clause-is_open g c image there = record {
  agrees = subst (λ (t : Told). ForSome t.files (Agrees c.store_new.new.files)) (sym c.check_index.ensures.reads.stays) c.in_ok-addr.ensures.agrees image there;
  whole_index = subst (λ (t : Told). ForSome t.files HasWholeIndex) (sym c.check_index.ensures.reads.stays) c.in_ok-check_index.ensures.whole image there;
}
