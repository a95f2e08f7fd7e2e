use Rattle.std.proofs.Common.{◌≡◌, ℕ, None, sym, ◌∙◌, ap, subst}
use Rattle.std.specs.Option.{ForSome}
use Rattle.spec_image.specs.Image.{length_of}
use Rattle.blk_external.specs.Numbers.{named_file}
use Rattle.spec_format.specs.Address.{is_address}
use Rattle.blk_io.proofs.Carried.{carried, silent_part}
use Rattle.blk_object.proofs.MakingRoom.{free-with-room}
use Rattle.blk_object.proofs.MakingTaken.{creating-finds, file-open, file-taken, sized-long, sizing-finds}
use Rattle.blk_object.proofs.DamageChecks.{checked-handed, create-checked}
use Rattle.blk_object.proofs.making_places.take_file.Goals as goal

pub returns-in_err-addr-clause-stops : goal.returns-in_err-addr-clause-stops
returns-in_err-addr-clause-stops g c = creating-finds (g.F.Folder.told c.args.folder.now) (g.F.Folder.told c.create.new.f) c.create.ensures.stops

pub returns-in_err-addr-clause-untold : goal.returns-in_err-addr-clause-untold
returns-in_err-addr-clause-untold g c room =
    carried c.create.result c.from_residual.result c.in_err-addr.field-0.0 (λ _. (g.F.Folder.told c.args.folder.now).files ≡ None) c.in_err-addr.was c.from_residual.ensures.1
    (c.create.ensures.untold (λ image there. free-with-room 1 image (room image there)))

pub returns-in_err-resize-clause-stops : goal.returns-in_err-resize-clause-stops
returns-in_err-resize-clause-stops g c =
    sizing-finds (g.F.Folder.told c.args.folder.now) (g.F.Folder.told c.create.new.f) c.in_ok-addr.addr c.in_ok-addr.ensures.kind (ap is_address (sym c.word-word.ensures.word) ∙ c.word-word.ensures.address) c.in_ok-addr.ensures.first c.in_ok-addr.ensures.made c.in_ok-addr.ensures.steps
    (g.F.Folder.told c.resize.new.f) c.resize.ensures.stops c.create.ensures.stops

pub returns-clause-stops : goal.returns-clause-stops
returns-clause-stops g c =
    sizing-finds (g.F.Folder.told c.args.folder.now) (g.F.Folder.told c.create.new.f) c.in_ok-addr.addr c.in_ok-addr.ensures.kind (ap is_address (sym c.word-word.ensures.word) ∙ c.word-word.ensures.address) c.in_ok-addr.ensures.first c.in_ok-addr.ensures.made c.in_ok-addr.ensures.steps
    (g.F.Folder.told c.resize.new.f) c.resize.ensures.stops c.create.ensures.stops

pub returns-clause-taken : goal.returns-clause-taken
returns-clause-taken g c =
    file-taken (g.F.Folder.told c.args.folder.now) (g.F.Folder.told c.create.new.f) c.in_ok-addr.addr c.in_ok-addr.ensures.kind (ap is_address (sym c.word-word.ensures.word) ∙ c.word-word.ensures.address) c.in_ok-addr.ensures.first c.in_ok-addr.ensures.made c.in_ok-addr.ensures.steps
    (g.F.Folder.told c.resize.new.f) c.resize.ensures.stops c.args.files.now c.from.result c.in_ok-resize.ensures.file

pub returns-clause-holds : goal.returns-clause-holds
returns-clause-holds g c =
    subst (λ (n : ℕ). ForSome (g.F.Folder.told c.resize.new.f).files (λ image. length_of image (named_file c.in_ok-addr.addr) ≡ n)) c.from.ensures
    (sized-long c.in_ok-addr.addr c.from.result (g.F.Folder.told c.create.new.f) (g.F.Folder.told c.resize.new.f) (silent_part c.resize.ensures.prefix) c.in_ok-resize.ensures.file)

pub returns-clause-is_open : goal.returns-clause-is_open
returns-clause-is_open g c =
    file-open c.in_ok-addr.addr c.args.files.now (g.F.Folder.told c.args.folder.now) (g.F.Folder.told c.create.new.f) (g.F.Folder.told c.resize.new.f) c.requires.is_open c.in_ok-addr.ensures.steps c.create.ensures.complete c.resize.ensures.stops (silent_part c.resize.ensures.prefix)

pub returns-in_err-addr-clause-damaged : goal.returns-in_err-addr-clause-damaged
returns-in_err-addr-clause-damaged g c =
    checked-handed c.create.result c.from_residual.result c.in_err-addr.field-0.0 c.args.files.now (g.F.Folder.told c.args.folder.now) (g.F.Folder.told c.create.new.f) _ (create-checked c.args.files.now (g.F.Folder.told c.args.folder.now)) c.in_err-addr.was c.from_residual.ensures.1 c.create.ensures.unwritten c.create.ensures.damaged
