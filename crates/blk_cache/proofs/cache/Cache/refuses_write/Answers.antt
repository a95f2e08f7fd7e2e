use Rattle.std.proofs.Common.{sym, ◌∙◌}
use Rattle.blk_cache.proofs.CreateWhole.{if_ok_weaker}
use Rattle.blk_cache.proofs.WriteRefusing.{asked-to-write, write-early}
use Rattle.blk_cache.proofs.cache.Cache.refuses_write.Goals as goal

pub returns-in-Some-clause-asked : goal.returns-in-Some-clause-asked
returns-in-Some-clause-asked g c image there state moment cut k =
    write-early c.args.self.now state image k moment c.args.handle c.args.stream c.args.offset cut c.args.bytes.now c.in-Some.why (sym c.refuses_length.ensures ∙ c.in-Some.is)

pub returns-clause-asked : goal.returns-clause-asked
returns-clause-asked g c =
    if_ok_weaker c.ask_stream.result
    (λ given is image there state moment cut k. asked-to-write c.args.self.now state image k moment c.args.handle c.args.stream c.args.offset cut c.args.bytes.now (sym c.refuses_length.ensures ∙ c.in_default.is) given (is image there state k))
    c.ask_stream.ensures.asked
