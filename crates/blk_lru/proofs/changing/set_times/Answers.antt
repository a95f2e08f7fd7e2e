use Rattle.std.proofs.Common.{inl}
use Rattle.std.proofs.lemmas.Result.{on_ok_weaker}
use Rattle.law_folder.proofs.updates.NodeRecords.{record_checks}
use Rattle.law_folder.proofs.lists.WordTurns.{times_are}
use Rattle.spec_format.specs.Sealed.{sealed_steps}
use Rattle.spec_folder.specs.ListSteps.{times_of}
use Rattle.blk_lru.proofs.FailedChecks.{short_or_unsealed}
use Rattle.blk_lru.proofs.Kept.{kept_sealed}
use Rattle.blk_lru.proofs.NodeRecords.{checks_back}
use Rattle.blk_lru.proofs.NodeWords.{node_kind, node_stands}
use Rattle.blk_lru.proofs.Performing.{part_kept}
use Rattle.blk_lru.proofs.changing.set_times.Goals as goal

pub update_sealed-requires-clause-stands : goal.update_sealed-requires-clause-stands
update_sealed-requires-clause-stands g c = node_stands c.args.files.now c.args.node c.requires.stands

pub update_sealed-requires-clause-begins : goal.update_sealed-requires-clause-begins
update_sealed-requires-clause-begins g c = inl (node_kind c.args.files.now c.args.node c.requires.stands)

pub update_sealed-requires-clause-changes : goal.update_sealed-requires-clause-changes
update_sealed-requires-clause-changes g c = times_are c.args.node c.args.moment (node_kind c.args.files.now c.args.node c.requires.stands)

pub returns-clause-untold : goal.returns-clause-untold
returns-clause-untold g c good =
    c.update_sealed.ensures.untold (λ image there. record_checks image c.args.node (g.met.F.Folder.are_bytes c.args.folder.now image there) (node_kind c.args.files.now c.args.node c.requires.stands) (good image there))

pub returns-clause-checked : goal.returns-clause-checked
returns-clause-checked g c =
    on_ok_weaker c.update_sealed.result (λ good image there. checks_back c.args.files.now image c.args.node (c.requires.is_open image there).agrees (g.met.F.Folder.are_bytes c.args.folder.now image there) c.requires.stands (good image there)) c.update_sealed.ensures.checked

pub returns-clause-damaged : goal.returns-clause-damaged
returns-clause-damaged g c = short_or_unsealed c.update_sealed.result c.args.files.now (g.F.Folder.told c.args.folder.now) (g.F.Folder.told c.update_sealed.new.f) c.args.node c.requires.stands c.update_sealed.ensures.damaged c.update_sealed.ensures.unwritten

pub returns-clause-is_open : goal.returns-clause-is_open
returns-clause-is_open g c image here =
    let old = g.F.Folder.told c.args.folder.now in
    (part_kept c.args.files.now old (g.F.Folder.told c.update_sealed.new.f) (λ from. sealed_steps from c.args.node (times_of c.args.moment))
    (λ from there. kept_sealed c.args.files.now c.args.node (times_of c.args.moment) from (c.requires.is_open from there)) c.update_sealed.ensures.prefix.silent c.update_sealed.ensures.prefix.made image here)

pub update_sealed-requires-clause-agrees : goal.update_sealed-requires-clause-agrees
update_sealed-requires-clause-agrees g c image there = (c.requires.is_open image there).agrees
