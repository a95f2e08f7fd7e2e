use Rattle.std.proofs.Common.{inl, ⊎_elim, ◌≡◌, arith, refl, ◌<◌, ◌%◌}
use Rattle.std.proofs.lemmas.Result.{on_ok_weaker}
use Rattle.law_folder.proofs.updates.NodeRecords.{record_checks, one_change}
use Rattle.blk_lru.proofs.FailedChecks.{short_or_unsealed}
use Rattle.blk_lru.proofs.NodeRecords.{checks_back}
use Rattle.blk_lru.proofs.NodeWords.{node_kind, node_stands}
use Rattle.blk_lru.proofs.writes.set_link.Goals as goal

pub update_sealed-requires-clause-stands : goal.update_sealed-requires-clause-stands
update_sealed-requires-clause-stands g c = node_stands c.args.files.now c.args.node c.requires.stands

pub update_sealed-requires-clause-begins : goal.update_sealed-requires-clause-begins
update_sealed-requires-clause-begins g c = inl (node_kind c.args.files.now c.args.node c.requires.stands)

pub update_sealed-requires-clause-changes : goal.update_sealed-requires-clause-changes
update_sealed-requires-clause-changes g c =
    let kind = node_kind c.args.files.now c.args.node c.requires.stands in
    let aligned : c.args.at % 4 ≡ 0 = ⊎_elim (λ (e : c.args.at ≡ 16). let h : c.args.at % 4 ≡ 0 = rw e refl in h) (λ (e : c.args.at ≡ 20). let h : c.args.at % 4 ≡ 0 = rw e refl in h) c.requires.place in
    let before : c.args.at < 32 = ⊎_elim (λ (e : c.args.at ≡ 16). let h : c.args.at < 32 = omega (arith, e) in h) (λ (e : c.args.at ≡ 20). let h : c.args.at < 32 = omega (arith, e) in h) c.requires.place in
    one_change c.args.node c.args.at c.args.word kind aligned before

pub returns-clause-untold : goal.returns-clause-untold
returns-clause-untold g c good =
    c.update_sealed.ensures.untold (λ image there. record_checks image c.args.node (g.met.F.Folder.are_bytes c.args.folder.now image there) (node_kind c.args.files.now c.args.node c.requires.stands) (good image there))

pub returns-clause-checked : goal.returns-clause-checked
returns-clause-checked g c =
    on_ok_weaker c.update_sealed.result (λ good image there. checks_back c.args.files.now image c.args.node (c.requires.agrees image there) (g.met.F.Folder.are_bytes c.args.folder.now image there) c.requires.stands (good image there)) c.update_sealed.ensures.checked

pub returns-clause-damaged : goal.returns-clause-damaged
returns-clause-damaged g c = short_or_unsealed c.update_sealed.result c.args.files.now (g.F.Folder.told c.args.folder.now) (g.F.Folder.told c.update_sealed.new.f) c.args.node c.requires.stands c.update_sealed.ensures.damaged c.update_sealed.ensures.unwritten
