use Rattle.spec_format.specs.Headers.{HasWholeIndex}
use Rattle.blk_io.proofs.Carried.{told_at_end}
use Rattle.blk_disk.specs.Tables.{all_files}
use Rattle.blk_repair.proofs.MapRuns.{files-mended-now, index-whole, rebuilding-ends, rebuilding-passes}
use Rattle.blk_repair.proofs.PartRuns.{rebuilds-made}
use Rattle.blk_repair.proofs.maps.mend_files.Goals as goal

pub returns-in_err-rebuild-clause-stops : goal.returns-in_err-rebuild-clause-stops
returns-in_err-rebuild-clause-stops g c = rebuilding-passes (g.F.Folder.told c.args.folder.now) (g.F.Folder.told c.rebuild.new.f) c.args.claims.now (all_files c.args.files.now) c.rebuild.ensures.stops

pub returns-clause-stops : goal.returns-clause-stops
returns-clause-stops g c = rebuilding-passes (g.F.Folder.told c.args.folder.now) (g.F.Folder.told c.rebuild.new.f) c.args.claims.now (all_files c.args.files.now) c.rebuild.ensures.stops

pub returns-in_err-rebuild-clause-is_open : goal.returns-in_err-rebuild-clause-is_open
returns-in_err-rebuild-clause-is_open g c image there = record {
  agrees = c.rebuild.ensures.agrees image there;
  whole_index = told_at_end (g.F.Folder.told c.args.folder.now).files (g.F.Folder.told c.rebuild.new.f).files HasWholeIndex c.rebuild.ensures.writes.silent
      (λ from was now here. index-whole c.args.claims.now (all_files c.args.files.now) from now (rebuilding-ends (g.F.Folder.told c.args.folder.now) (g.F.Folder.told c.rebuild.new.f) c.args.claims.now (all_files c.args.files.now) c.rebuild.ensures.stops from was now here) (c.requires.is_open from was).whole_index) image there;
}

pub returns-clause-is_open : goal.returns-clause-is_open
returns-clause-is_open g c image there = record {
  agrees = c.rebuild.ensures.agrees image there;
  whole_index = told_at_end (g.F.Folder.told c.args.folder.now).files (g.F.Folder.told c.rebuild.new.f).files HasWholeIndex c.rebuild.ensures.writes.silent
      (λ from was now here. index-whole c.args.claims.now (all_files c.args.files.now) from now (rebuilding-ends (g.F.Folder.told c.args.folder.now) (g.F.Folder.told c.rebuild.new.f) c.args.claims.now (all_files c.args.files.now) c.rebuild.ensures.stops from was now here) (c.requires.is_open from was).whole_index) image there;
}

pub returns-clause-mended : goal.returns-clause-mended
returns-clause-mended g c from was entry next now here =
    files-mended-now entry from now c.args.claims.now c.args.files.now c.rebuild.new.files next
    (rebuilding-ends (g.F.Folder.told c.args.folder.now) (g.F.Folder.told c.rebuild.new.f) c.args.claims.now (all_files c.args.files.now) c.rebuild.ensures.stops from was now here)
    (c.in_ok-rebuild.ensures.rebuilt now here) (c.in_ok-rebuild.ensures.allocations from was now here) c.in_ok-rebuild.ensures.fitted (c.rebuild.ensures.agrees now here)
    (g.met.F.Folder.are_bytes c.rebuild.new.f now here) (returns-clause-is_open g c now here).whole_index

pub rebuild-requires : goal.rebuild-requires
rebuild-requires g c = record { agrees = λ image there. (c.requires.is_open image there).agrees }

pub returns-in_err-rebuild-clause-rebuilds : goal.returns-in_err-rebuild-clause-rebuilds
returns-in_err-rebuild-clause-rebuilds g c = rebuilds-made c.args.files.now c.args.claims.now c.rebuild.ensures.stops

pub returns-clause-rebuilds : goal.returns-clause-rebuilds
returns-clause-rebuilds g c = rebuilds-made c.args.files.now c.args.claims.now c.rebuild.ensures.stops
