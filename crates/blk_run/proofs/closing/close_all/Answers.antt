use Rattle.std.proofs.Common.{◌≡◌, None, sym, ◌∙◌, arith, Some}
use Rattle.std.specs.Prelude.{is_some, position, slice_set}
use Rattle.blk_run.proofs.ClosingAll.{all_closed, close_failed, close_handed, fewer_bound, name_at, no_name, none_so_far, of_some, one_closed}
use Rattle.blk_run.proofs.HeadlineBridge.{names_bound}
use Rattle.blk_cache.specs.CacheKeeping.{KeepsState}
use Rattle.blk_run.proofs.Reading.{reads_map, reads_next, reads_none}
use Rattle.blk_run.proofs.closing.close_all.Goals as goal

pub loop-cache-init : goal.loop-cache-init
loop-cache-init g c = record {
  is_open = c.requires.is_open;
  closed = reads_none (λ here far left at. none_so_far far (KeepsState c.args.cache.now) (c.args.cache.now.notes) left (g.F.Folder.told c.args.folder.now) (Some here) (λ state image k. k.holds.kept.entries.valid) at);
  later = omega arith;
}

pub loop-cache-smaller : goal.loop-cache-smaller
loop-cache-smaller g c =
    let at = name_at (position is_some (c.loop-cache.cache.handles)) (sym c.has_names.ensures ∙ c.loop-cache-test.true) in
    fewer_bound (c.loop-cache.cache.handles) (c.close_next.new.self.handles) at.0 at.1 (of_some (position is_some (c.loop-cache.cache.handles)) at.0 (λ handle. c.close_next.new.self.handles ≡ slice_set (c.loop-cache.cache.handles) handle None) at.1 c.in_ok-close_next.ensures.frees)

pub loop-cache-preserved : goal.loop-cache-preserved
loop-cache-preserved g c = record {
  is_open = c.in_ok-close_next.ensures.is_open;
  closed = reads_next c.loop-cache.invariant.closed c.now.result c.now.ensures.reading c.now.ensures.later (λ early mid late so_far reading later far left at.
      let name = name_at (position is_some (c.loop-cache.cache.handles)) (sym c.has_names.ensures ∙ c.loop-cache-test.true) in
      one_closed (c.loop-cache.cache.handles) (KeepsState c.loop-cache.cache) (λ state image k. k.holds.kept.entries.valid) (λ state image k. names_bound c.loop-cache.cache state image k)
      far (c.loop-cache.cache.notes) left (g.F.Folder.told c.loop-cache.folder) (Some early) (Some mid) (so_far far left at) name.0 c.now.result name.1 reading
      (KeepsState c.close_next.new.self) (c.close_next.new.self.notes) (g.F.Folder.told c.close_next.new.f) (Some late) later
      (of_some (position is_some (c.loop-cache.cache.handles)) name.0 (λ handle. _) name.1 c.in_ok-close_next.ensures.noted)
      (of_some (position is_some (c.loop-cache.cache.handles)) name.0 (λ handle. _) name.1 c.in_ok-close_next.ensures.kept)
      (of_some (position is_some (c.loop-cache.cache.handles)) name.0 (λ handle. _) name.1 c.in_ok-close_next.ensures.counts));
  later = let now = c.loop-cache.invariant.later in let next = c.in_ok-close_next.ensures.later in omega (arith, now, next);
}

pub returns-in_err-close_next-clause-closed : goal.returns-in_err-close_next-clause-closed
returns-in_err-close_next-clause-closed g c =
    reads_next c.loop-cache.invariant.closed c.now.result c.now.ensures.reading c.now.ensures.later (λ early mid late so_far reading later far left at.
    let name = name_at (position is_some (c.loop-cache.cache.handles)) (sym c.has_names.ensures ∙ c.loop-cache-test.true) in
    close_handed c.from_residual.result c.in_err-close_next.field-0.0 far (KeepsState c.close_next.new.self) (c.close_next.new.self.notes) left (g.F.Folder.told c.close_next.new.f) (Some early) (Some late) c.from_residual.ensures.1
    (close_failed (c.loop-cache.cache.handles) (KeepsState c.loop-cache.cache) (λ state image k. k.holds.kept.entries.valid) (λ state image k. names_bound c.loop-cache.cache state image k)
    far (c.loop-cache.cache.notes) left (g.F.Folder.told c.loop-cache.folder) (Some early) (Some mid) (so_far far left at) name.0 c.now.result name.1 reading
    (KeepsState c.close_next.new.self) (c.close_next.new.self.notes) (g.F.Folder.told c.close_next.new.f) (Some late) c.in_err-close_next.field-0.0
    (of_some (position is_some (c.loop-cache.cache.handles)) name.0 (λ handle. _) name.1 c.in_err-close_next.ensures.stepped) (λ any. c.in_err-close_next.ensures.untold (λ image there. let one = any image there in (one.0, one.1.holds)))))

pub returns-clause-closed : goal.returns-clause-closed
returns-clause-closed g c =
    reads_map c.loop-cache.invariant.closed (λ early late so_far far left at.
    all_closed (c.loop-cache.cache.handles) (KeepsState c.loop-cache.cache) (λ state image k. k.holds.kept.entries.valid) (λ state image k. names_bound c.loop-cache.cache state image k)
    far (c.loop-cache.cache.notes) left (g.F.Folder.told c.loop-cache.folder) (Some early) (Some late) (no_name (position is_some (c.loop-cache.cache.handles)) (sym c.has_names.ensures ∙ c.loop-cache-test.false)) (so_far far left at))
