use Rattle.std.proofs.lemmas.Result.{on_ok_weaker}
use Rattle.blk_cache.proofs.ListedRows.{has-state}
use Rattle.blk_cache.proofs.cache.Cache.print_rows.Goals as goal

pub returns-clause-printed : goal.returns-clause-printed
returns-clause-printed g c =
    on_ok_weaker c.print_items.result (λ printed image there state k. printed image there (has-state c.args.self.now state image k)) c.print_items.ensures.printed

pub returns-clause-part : goal.returns-clause-part
returns-clause-part g c image there state k = c.print_items.ensures.part image there (has-state c.args.self.now state image k)

pub returns-clause-untold : goal.returns-clause-untold
returns-clause-untold g c any = c.print_items.ensures.untold (λ image there. let one = any image there in has-state c.args.self.now one.0 image one.1)
