use Rattle.blk_object.proofs.DamageChecks.{few-handed}
use Rattle.blk_object.proofs.counters.read_counters.Goals as goal

pub returns-in_err-entries-clause-damaged : goal.returns-in_err-entries-clause-damaged
returns-in_err-entries-clause-damaged g c =
    few-handed c.word.result c.from_residual.result c.in_err-entries.field-0.0 (g.F.Folder.told c.args.folder.now) (g.F.Folder.told c.word.new.f) _ _ _ c.word.ensures.reads.stays c.in_err-entries.was c.from_residual.ensures.1 c.word.ensures.short

pub returns-in_err-bytes-clause-damaged : goal.returns-in_err-bytes-clause-damaged
returns-in_err-bytes-clause-damaged g c =
    few-handed c.long.result c.from_residual-in_err-bytes.result c.in_err-bytes.field-0.0 (g.F.Folder.told c.word.new.f) (g.F.Folder.told c.long.new.folder) _ _ _ c.long.ensures.reads.stays c.in_err-bytes.was c.from_residual-in_err-bytes.ensures.1 c.long.ensures.short

pub returns-in_err-size-clause-damaged : goal.returns-in_err-size-clause-damaged
returns-in_err-size-clause-damaged g c =
    few-handed c.word-2.result c.from_residual-in_err-size.result c.in_err-size.field-0.0 (g.F.Folder.told c.long.new.folder) (g.F.Folder.told c.word-2.new.f) _ _ _ c.word-2.ensures.reads.stays c.in_err-size.was c.from_residual-in_err-size.ensures.1 c.word-2.ensures.short
