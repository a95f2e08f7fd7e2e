use Rattle.std.proofs.Common.{◌≡◌, true, sym, subst}
use Rattle.spec_format.specs.Address.{blocks_256}
use Rattle.blk_disk.specs.declared.tables.BlockFiles.{BlockFiles}
use Rattle.blk_disk.specs.Open.{IsOpen}
use Rattle.blk_disk.specs.Tables.{is_record_among}
use Rattle.blk_object.proofs.MakingMade.{among-names}
use Rattle.blk_cache.proofs.cache.Cache.end_last.Goals as goal

pub end_object-requires-clause-is_open : goal.end_object-requires-clause-is_open
end_object-requires-clause-is_open g c image now =
    subst (λ (files : BlockFiles). IsOpen files image) (sym c.count_closed.ensures.counts.files) (c.requires.is_open image now)

pub end_object-requires-clause-names : goal.end_object-requires-clause-names
end_object-requires-clause-names g c =
    subst (λ (files : BlockFiles). is_record_among files c.args.object.now.entry ≡ true) (sym c.count_closed.ensures.counts.files)
    (among-names c.args.self.now.files blocks_256 c.args.object.now.entry c.requires.address c.requires.kind c.requires.record_stands)
