use Rattle.std.proofs.Common.{◌≡◌, None, sym, subst}
use Rattle.blk_io.proofs.Carried.{carried}
use Rattle.blk_disk.specs.declared.tables.BlockFiles.{BlockFiles}
use Rattle.blk_disk.specs.Open.{IsOpen}
use Rattle.blk_disk.specs.Tables.{Agrees}
use Rattle.blk_cache.proofs.Dooms.{doomed-keeps}
use Rattle.blk_cache.proofs.cache.Cache.doom_open.Goals as goal

pub returns-in_err-gone-clause-stops : goal.returns-in_err-gone-clause-stops
returns-in_err-gone-clause-stops g c from there state k number object o =
    c.in_err-gone.ensures.stops from there state k.layout number object k.kept o

pub returns-in_err-gone-clause-untold : goal.returns-in_err-gone-clause-untold
returns-in_err-gone-clause-untold g c from there state k number object o =
    carried c.doom_named.result c.from_residual.result c.in_err-gone.field-0.0 (λ _. (g.F.Folder.told c.args.folder.now).files ≡ None) c.in_err-gone.was c.from_residual.ensures.1
    (c.doom_named.ensures.untold from there state k.layout number object k.kept o)

pub returns-clause-dooms : goal.returns-clause-dooms
returns-clause-dooms g c from there state k number object o last is =
    doomed-keeps c.args.self.now state from k number object o.loaded o.lies c.count_doomed.new.self c.args.entry o.entry_is c.in_ok-gone.gone last (c.in_ok-gone.ensures.doomed from there state k.layout number object k.kept o last is)
    (record { handles = c.count_doomed.ensures.counts.handles; items = c.count_doomed.ensures.counts.items; bytes = c.count_doomed.ensures.counts.bytes; open_bytes = c.count_doomed.ensures.counts.open_bytes; limits = c.count_doomed.ensures.counts.limits; files = c.count_doomed.ensures.counts.files; mark = c.count_doomed.ensures.counts.mark; notes = c.count_doomed.ensures.counts.notes })
    (subst (λ (files : BlockFiles). Agrees files last) (sym c.count_doomed.ensures.counts.files) (c.in_ok-gone.ensures.is_open last is).agrees)

pub returns-clause-stops : goal.returns-clause-stops
returns-clause-stops g c from there state k number object o =
    c.in_ok-gone.ensures.stops from there state k.layout number object k.kept o

pub returns-clause-is_open : goal.returns-clause-is_open
returns-clause-is_open g c image there = subst (λ (files : BlockFiles). IsOpen files image) (sym c.count_doomed.ensures.counts.files) (c.in_ok-gone.ensures.is_open image there)
