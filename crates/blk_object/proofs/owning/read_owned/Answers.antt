use Rattle.std.proofs.Common.{◌≡◌, ◌∙◌, None}
use Rattle.blk_io.proofs.Carried.{carried, untold_where}
use Rattle.blk_entry.proofs.KeyPlaces.{damaged_any}
use Rattle.blk_stream.proofs.StreamPlaces.{clash}
use Rattle.blk_object.proofs.OwnedPlaces.{are-there, loaded-checks, owned-words}
use Rattle.blk_object.proofs.OwnedCharges.{owned-charge}
use Rattle.blk_object.proofs.DamageChecks.{handed, head-checked, lost-checked, moved, node-at, long-key-at, first-at, second-at, third-at}
use Rattle.blk_object.proofs.owning.read_owned.Goals as goal

pub returns-in_err-head-clause-untold : goal.returns-in_err-head-clause-untold
returns-in_err-head-clause-untold g c agrees lies =
    carried c.read_head.result c.from_residual.result c.in_err-head.field-0.0 (λ _. (g.F.Folder.told c.args.folder.now).files ≡ None) c.in_err-head.was c.from_residual.ensures.1
    (c.read_head.ensures.untold agrees (λ image there. loaded-checks image c.args.entry (lies image there).0 (g.met.F.Folder.are_bytes c.args.folder.now image there) (lies image there).1))

pub returns-in_err-node-clause-untold : goal.returns-in_err-node-clause-untold
returns-in_err-node-clause-untold g c agrees lies =
    damaged_any c.from_residual-in_err-node.result ((g.F.Folder.told c.args.folder.now).files ≡ None)
    (untold_where (g.F.Folder.told c.args.folder.now).files (λ image there.
    clash (c.in_err-node.ensures.right (are-there c.args.files.now image c.args.entry c.in_ok-head.head (lies image there).0 (agrees image there) (c.in_ok-head.ensures.head image there) (lies image there).1).node)))

pub returns-in_err-long_key-clause-untold : goal.returns-in_err-long_key-clause-untold
returns-in_err-long_key-clause-untold g c agrees lies =
    damaged_any c.from_residual-in_err-long_key.result ((g.F.Folder.told c.args.folder.now).files ≡ None)
    (untold_where (g.F.Folder.told c.args.folder.now).files (λ image there.
    clash (c.in_err-long_key.ensures.right (are-there c.args.files.now image c.args.entry c.in_ok-head.head (lies image there).0 (agrees image there) (c.in_ok-head.ensures.head image there) (lies image there).1).long_key)))

pub returns-in_err-first-clause-untold : goal.returns-in_err-first-clause-untold
returns-in_err-first-clause-untold g c agrees lies =
    damaged_any c.from_residual-in_err-first.result ((g.F.Folder.told c.args.folder.now).files ≡ None)
    (untold_where (g.F.Folder.told c.args.folder.now).files (λ image there.
    clash (c.in_err-first.ensures.right (are-there c.args.files.now image c.args.entry c.in_ok-head.head (lies image there).0 (agrees image there) (c.in_ok-head.ensures.head image there) (lies image there).1).first)))

pub returns-in_err-second-clause-untold : goal.returns-in_err-second-clause-untold
returns-in_err-second-clause-untold g c agrees lies =
    damaged_any c.from_residual-in_err-second.result ((g.F.Folder.told c.args.folder.now).files ≡ None)
    (untold_where (g.F.Folder.told c.args.folder.now).files (λ image there.
    clash (c.in_err-second.ensures.right (are-there c.args.files.now image c.args.entry c.in_ok-head.head (lies image there).0 (agrees image there) (c.in_ok-head.ensures.head image there) (lies image there).1).second)))

pub returns-in_err-third-clause-untold : goal.returns-in_err-third-clause-untold
returns-in_err-third-clause-untold g c agrees lies =
    damaged_any c.from_residual-in_err-third.result ((g.F.Folder.told c.args.folder.now).files ≡ None)
    (untold_where (g.F.Folder.told c.args.folder.now).files (λ image there.
    clash (c.in_err-third.ensures.right (are-there c.args.files.now image c.args.entry c.in_ok-head.head (lies image there).0 (agrees image there) (c.in_ok-head.ensures.head image there) (lies image there).1).third)))

pub returns-clause-words : goal.returns-clause-words
returns-clause-words g c image there loaded lies =
    owned-words image c.args.entry c.in_ok-head.head loaded c.in_ok-node.node c.in_ok-long_key.long_key c.in_ok-first.first c.in_ok-second.second c.in_ok-third.third (c.in_ok-head.ensures.head image there) lies
    c.in_ok-node.ensures.place c.in_ok-long_key.ensures.place c.in_ok-first.ensures.place c.in_ok-second.ensures.place c.in_ok-third.ensures.place

pub returns-clause-charge : goal.returns-clause-charge
returns-clause-charge g c image there loaded lies = c.charge_of_head.ensures.charge ∙ owned-charge image c.args.entry c.in_ok-head.head loaded (c.in_ok-head.ensures.head image there) lies

pub returns-in_err-head-clause-damaged : goal.returns-in_err-head-clause-damaged
returns-in_err-head-clause-damaged g c =
    handed c.read_head.result c.from_residual.result c.in_err-head.field-0.0 _ c.args.files.now (g.F.Folder.told c.read_head.new.folder)
    (λ damage wrong. moved c.args.files.now (g.F.Folder.told c.args.folder.now) (g.F.Folder.told c.read_head.new.folder) damage c.read_head.ensures.reads.stays (head-checked c.args.files.now (g.F.Folder.told c.args.folder.now) c.args.entry damage c.requires.kind c.requires.stands wrong))
    c.in_err-head.was c.from_residual.ensures.1 c.read_head.ensures.damaged

pub returns-in_err-node-clause-damaged : goal.returns-in_err-node-clause-damaged
returns-in_err-node-clause-damaged g c =
    handed c.place_of.result c.from_residual-in_err-node.result c.in_err-node.field-0.0 _ c.args.files.now (g.F.Folder.told c.read_head.new.folder)
    (λ damage lost. lost-checked c.args.files.now (g.F.Folder.told c.args.folder.now) (g.F.Folder.told c.read_head.new.folder) c.args.entry 8 _ damage c.requires.kind c.requires.stands c.in_ok-head.ensures.reads.stays (λ image there. node-at image c.args.entry c.in_ok-head.head (c.in_ok-head.ensures.head image there)) lost)
    c.in_err-node.was c.from_residual-in_err-node.ensures.1 c.place_of.ensures.damaged

pub returns-in_err-long_key-clause-damaged : goal.returns-in_err-long_key-clause-damaged
returns-in_err-long_key-clause-damaged g c =
    handed c.place_of-2.result c.from_residual-in_err-long_key.result c.in_err-long_key.field-0.0 _ c.args.files.now (g.F.Folder.told c.read_head.new.folder)
    (λ damage lost. lost-checked c.args.files.now (g.F.Folder.told c.args.folder.now) (g.F.Folder.told c.read_head.new.folder) c.args.entry 36 _ damage c.requires.kind c.requires.stands c.in_ok-head.ensures.reads.stays (λ image there. long-key-at image c.args.entry c.in_ok-head.head (c.in_ok-head.ensures.head image there)) lost)
    c.in_err-long_key.was c.from_residual-in_err-long_key.ensures.1 c.place_of-2.ensures.damaged

pub returns-in_err-first-clause-damaged : goal.returns-in_err-first-clause-damaged
returns-in_err-first-clause-damaged g c =
    handed c.place_of-3.result c.from_residual-in_err-first.result c.in_err-first.field-0.0 _ c.args.files.now (g.F.Folder.told c.read_head.new.folder)
    (λ damage lost. lost-checked c.args.files.now (g.F.Folder.told c.args.folder.now) (g.F.Folder.told c.read_head.new.folder) c.args.entry 56 _ damage c.requires.kind c.requires.stands c.in_ok-head.ensures.reads.stays (λ image there. first-at image c.args.entry c.in_ok-head.head (c.in_ok-head.ensures.head image there)) lost)
    c.in_err-first.was c.from_residual-in_err-first.ensures.1 c.place_of-3.ensures.damaged

pub returns-in_err-second-clause-damaged : goal.returns-in_err-second-clause-damaged
returns-in_err-second-clause-damaged g c =
    handed c.place_of-4.result c.from_residual-in_err-second.result c.in_err-second.field-0.0 _ c.args.files.now (g.F.Folder.told c.read_head.new.folder)
    (λ damage lost. lost-checked c.args.files.now (g.F.Folder.told c.args.folder.now) (g.F.Folder.told c.read_head.new.folder) c.args.entry 60 _ damage c.requires.kind c.requires.stands c.in_ok-head.ensures.reads.stays (λ image there. second-at image c.args.entry c.in_ok-head.head (c.in_ok-head.ensures.head image there)) lost)
    c.in_err-second.was c.from_residual-in_err-second.ensures.1 c.place_of-4.ensures.damaged

pub returns-in_err-third-clause-damaged : goal.returns-in_err-third-clause-damaged
returns-in_err-third-clause-damaged g c =
    handed c.place_of-5.result c.from_residual-in_err-third.result c.in_err-third.field-0.0 _ c.args.files.now (g.F.Folder.told c.read_head.new.folder)
    (λ damage lost. lost-checked c.args.files.now (g.F.Folder.told c.args.folder.now) (g.F.Folder.told c.read_head.new.folder) c.args.entry 64 _ damage c.requires.kind c.requires.stands c.in_ok-head.ensures.reads.stays (λ image there. third-at image c.args.entry c.in_ok-head.head (c.in_ok-head.ensures.head image there)) lost)
    c.in_err-third.was c.from_residual-in_err-third.ensures.1 c.place_of-5.ensures.damaged
