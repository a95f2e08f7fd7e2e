use Rattle.std.proofs.Common.{inr, sym, subst, ◌∙◌}
use Rattle.std.proofs.lemmas.Result.{on_ok_weaker}
use Rattle.spec_image.proofs.Runs.{passes_weaker, some_inj}
use Rattle.spec_format.specs.Sealed.{RecordChecks, sealed_steps}
use Rattle.blk_lru.proofs.Kept.{kept_sealed}
use Rattle.blk_lru.proofs.Performing.{part_kept}
use Rattle.blk_object.proofs.DamageChecks.{checked-where-stays, record-checked}
use Rattle.blk_sparse.specs.Beginning.{parent_change}
use Rattle.blk_sparse.proofs.ParentFlags.{flags-changes, index-checks, index-mid, marked-told}
use Rattle.blk_sparse.proofs.beginning.set_parent.Goals as goal

pub update_sealed-requires-clause-begins : goal.update_sealed-requires-clause-begins
update_sealed-requires-clause-begins g c = inr c.requires.kind

pub update_sealed-requires-clause-changes : goal.update_sealed-requires-clause-changes
update_sealed-requires-clause-changes g c = flags-changes c.args.entry c.requires.kind

pub update_sealed-requires-clause-agrees : goal.update_sealed-requires-clause-agrees
update_sealed-requires-clause-agrees g c image there = (c.requires.is_open image there).agrees

pub returns-clause-marked : goal.returns-clause-marked
returns-clause-marked g c = on_ok_weaker c.update_sealed.result
    (λ steps. marked-told c.args.files.now (g.F.Folder.told c.args.folder.now) (g.F.Folder.told c.update_sealed.new.f) c.args.entry (g.met.F.Folder.are_bytes c.args.folder.now) c.requires.is_open steps)
    c.update_sealed.ensures.steps

pub returns-clause-stops : goal.returns-clause-stops
returns-clause-stops g c from there state layout unlinked number object was index t =
    passes_weaker (c.update_sealed.ensures.stops from there (index-checks state layout unlinked number object was index c.args.entry from t (g.met.F.Folder.are_bytes c.args.folder.now from there)))
    (index-mid state layout unlinked number object was index c.args.entry from t (g.met.F.Folder.are_bytes c.args.folder.now from there)) (index-mid state layout unlinked number object was index c.args.entry from t (g.met.F.Folder.are_bytes c.args.folder.now from there))

pub returns-clause-is_open : goal.returns-clause-is_open
returns-clause-is_open g c image here =
    (part_kept c.args.files.now (g.F.Folder.told c.args.folder.now) (g.F.Folder.told c.update_sealed.new.f) (λ from. sealed_steps from c.args.entry parent_change)
    (λ from there. kept_sealed c.args.files.now c.args.entry parent_change from (c.requires.is_open from there)) c.update_sealed.ensures.prefix.silent c.update_sealed.ensures.prefix.made image here)

pub returns-clause-writes : goal.returns-clause-writes
returns-clause-writes g c = record {
  silent = c.update_sealed.ensures.prefix.silent;
  later = c.update_sealed.ensures.later;
  failed = c.update_sealed.ensures.device;
}

pub returns-clause-untold : goal.returns-clause-untold
returns-clause-untold g c from there state layout unlinked number object was index t =
    c.update_sealed.ensures.untold (λ image is. subst (RecordChecks c.args.entry) (some_inj (sym there ∙ is))
    (index-checks state layout unlinked number object was index c.args.entry from t (g.met.F.Folder.are_bytes c.args.folder.now from there)))

pub returns-clause-damaged : goal.returns-clause-damaged
returns-clause-damaged g c =
    checked-where-stays c.update_sealed.result c.args.files.now (g.F.Folder.told c.args.folder.now) (g.F.Folder.told c.update_sealed.new.f) _
    (λ damage failed. record-checked c.args.files.now (g.F.Folder.told c.args.folder.now) c.args.entry _ damage (inr c.requires.kind) c.requires.stands failed)
    c.update_sealed.ensures.unwritten c.update_sealed.ensures.damaged
