use Rattle.std.proofs.Common.{Some}
use Rattle.blk_io.proofs.Carried.{carried, if_damaged_weaker}
use Rattle.blk_cache.specs.CacheKeeping.{KeepsState}
use Rattle.blk_run.proofs.Assembling.{ends_closed, ends_unclosed, ends_unfinished}
use Rattle.blk_run.proofs.ClosingAll.{all_free}
use Rattle.blk_run.proofs.HeadlineBridge.{cache_stands, ends_by_mark}
use Rattle.blk_run.proofs.SessionEnds.{ends_handed}
use Rattle.blk_run.proofs.Reading.{reads_map}
use Rattle.blk_run.proofs.sessions.end.Goals as goal

pub finish-requires-clause-free : goal.finish-requires-clause-free
finish-requires-clause-free g c = all_free c.close_all.new.cache.handles c.in_ok-close_all.ensures.free

pub returns-in_err-close_all-clause-ends : goal.returns-in_err-close_all-clause-ends
returns-in_err-close_all-clause-ends g c =
    reads_map c.in_err-close_all.ensures.closed (λ early late closed far left at.
    ends_handed c.from_residual.result c.in_err-close_all.field-0.0 far _ _ _ c.from_residual.ensures.1
    (ends_unclosed c.in_err-close_all.field-0.0 far (KeepsState c.close_all.new.cache) c.close_all.new.cache.notes left (g.F.Folder.told c.close_all.new.folder) (Some early) (Some late) (closed far left at)))

pub returns-in-Ok-clause-ends : goal.returns-in-Ok-clause-ends
returns-in-Ok-clause-ends g c =
    reads_map c.in_ok-close_all.ensures.closed (λ early late closed far left at.
    ends_closed far (KeepsState c.close_all.new.cache) (cache_stands c.close_all.new.cache) c.close_all.new.cache.notes left (g.F.Folder.told c.close_all.new.folder) (g.F.Folder.told c.finish.new.f) (Some early) (Some late) (closed far left at)
    (ends_by_mark (g.F.Folder.told c.close_all.new.folder) (g.F.Folder.told c.finish.new.f) c.finish.ensures.prefix) c.finish.ensures.stops c.in-Ok.ensures.ended)

pub returns-in-Err-clause-ends : goal.returns-in-Err-clause-ends
returns-in-Err-clause-ends g c =
    reads_map c.in_ok-close_all.ensures.closed (λ early late closed far left at.
    ends_unfinished far (KeepsState c.close_all.new.cache) (cache_stands c.close_all.new.cache) c.close_all.new.cache.notes left (g.F.Folder.told c.close_all.new.folder) (g.F.Folder.told c.finish.new.f) (Some early) (Some late) (closed far left at)
    (ends_by_mark (g.F.Folder.told c.close_all.new.folder) (g.F.Folder.told c.finish.new.f) c.finish.ensures.prefix) c.finish.ensures.stops)

pub returns-in_err-close_all-clause-damaged : goal.returns-in_err-close_all-clause-damaged
returns-in_err-close_all-clause-damaged g c =
    carried c.close_all.result c.from_residual.result c.in_err-close_all.field-0.0 _ c.in_err-close_all.was c.from_residual.ensures.1
    (if_damaged_weaker c.close_all.result _ _ (λ damage fails. record { files = c.close_all.new.cache.files; fails = fails }) c.close_all.ensures.damaged)
