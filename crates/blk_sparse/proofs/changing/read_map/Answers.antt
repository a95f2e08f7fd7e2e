use Rattle.std.proofs.Common.{◌≡◌, None, Err, refl}
use Rattle.blk_entry.proofs.KeyPlaces.{damaged_any, err_damaged}
use Rattle.blk_io.proofs.Carried.{carried, untold_where}
use Rattle.blk_object.proofs.OwnedPlaces.{loaded-checks}
use Rattle.blk_object.proofs.DamageChecks.{handed, moved, read-checked, within-checked}
use Rattle.blk_stream.specs.Streams.{stream_bytes}
use Rattle.blk_object.specs.FailedChecks.{IsFailedCheck, WrongMap}
use Rattle.blk_ranges.specs.declared.part_map.PartMap.{PartMap}
use Rattle.blk_sparse.proofs.ParentsRead.{streams-there}
use Rattle.blk_sparse.proofs.MapsRead.{map-none, map-read, no-map}
use Rattle.blk_sparse.proofs.changing.read_map.Goals as goal

pub returns-in_err-len-clause-untold : goal.returns-in_err-len-clause-untold
returns-in_err-len-clause-untold g c agrees lies =
    carried c.read.result c.from_residual.result c.in_err-len.field-0.0 (λ _. (g.F.Folder.told c.args.folder.now).files ≡ None) c.in_err-len.was c.from_residual.ensures.1
    (c.read.ensures.untold (λ image there.
    let l = lies image there in
    record { agrees = agrees image there; checks = loaded-checks image c.args.part l.loaded (g.met.F.Folder.are_bytes c.args.folder.now image there) l.loads; has = record { streams = l.loaded.streams; is = streams-there image c.args.part l.loaded l.loads } }))

pub returns-in-Some-clause-map : goal.returns-in-Some-clause-map
returns-in-Some-clause-map g c image there loaded name index w role =
    map-read image c.args.part loaded name index w role _ c.read.new.out c.in_ok-len.len refl (c.in_ok-len.ensures.piece image there) c.read-2.result c.read-2.ensures.index c.in-Some.map c.in-Some.is

pub returns-in-None-clause-untold : goal.returns-in-None-clause-untold
returns-in-None-clause-untold g c agrees lies =
    damaged_any {A = PartMap} (Err c.record_damage.result) ((g.F.Folder.told c.args.folder.now).files ≡ None)
    (untold_where (g.F.Folder.told c.args.folder.now).files (λ image there.
    let l = lies image there in
    map-none image c.args.part l.loaded l.name l.index l.loads l.role _ c.read.new.out c.in_ok-len.len refl (c.in_ok-len.ensures.piece image there) c.read-2.result c.read-2.ensures.index c.in-None.is))

pub returns-in_err-len-clause-damaged : goal.returns-in_err-len-clause-damaged
returns-in_err-len-clause-damaged g c =
    handed c.read.result c.from_residual.result c.in_err-len.field-0.0 _ c.args.files.now (g.F.Folder.told c.read.new.f)
    (λ damage wrong. moved c.args.files.now (g.F.Folder.told c.args.folder.now) (g.F.Folder.told c.read.new.f) damage c.read.ensures.reads.stays (read-checked c.args.files.now (g.F.Folder.told c.args.folder.now) c.args.part _ _ _ damage c.requires.kind c.requires.stands wrong))
    c.in_err-len.was c.from_residual.ensures.1 c.read.ensures.damaged

pub returns-in-None-clause-damaged : goal.returns-in-None-clause-damaged
returns-in-None-clause-damaged g c =
    let d = c.record_damage.ensures in
    err_damaged PartMap c.record_damage.result d.damage (IsFailedCheck c.args.files.now (g.F.Folder.told c.read.new.f)) d.is
    (moved c.args.files.now (g.F.Folder.told c.args.folder.now) (g.F.Folder.told c.read.new.f) d.damage c.in_ok-len.ensures.reads.stays
    (within-checked c.args.files.now (g.F.Folder.told c.args.folder.now) c.args.part d.damage c.requires.kind c.requires.stands (WrongMap (record {
      of_word = d.word;
      unlike = λ image there. no-map (stream_bytes image c.args.part 2) _ c.read.new.out c.in_ok-len.len (c.in_ok-len.ensures.bytes image there) refl c.read-2.result c.in-None.is c.read-2.ensures.index;
    }))))
