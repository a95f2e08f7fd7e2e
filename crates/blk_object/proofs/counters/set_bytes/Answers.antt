use Rattle.std.proofs.lemmas.Result.{on_ok_weaker}
use Rattle.blk_object.proofs.RisenCounters.{bytes-open, bytes-set, bytes-stop}
use Rattle.blk_object.proofs.Counts.{high-small, low-small}
use Rattle.blk_object.proofs.counters.set_bytes.Goals as goal

pub returns-clause-written : goal.returns-clause-written
returns-clause-written g c =
    on_ok_weaker c.write_words.result
    (λ steps. bytes-set c.args.files.now (g.F.Folder.told c.args.folder.now) (g.F.Folder.told c.write_words.new.folder) c.low_word-low.result c.high_word-high.result c.requires.is_open (low-small c.args.bytes c.low_word-low.result c.low_word-low.ensures) (high-small c.args.bytes c.high_word-high.result c.ranges.bytes.fits c.high_word-high.ensures) c.args.bytes c.low_word-low.ensures c.high_word-high.ensures steps) c.write_words.ensures.steps

pub returns-clause-stops : goal.returns-clause-stops
returns-clause-stops g c = bytes-stop c.args.files.now (g.F.Folder.told c.args.folder.now) (g.F.Folder.told c.write_words.new.folder) c.low_word-low.result c.high_word-high.result c.requires.is_open (low-small c.args.bytes c.low_word-low.result c.low_word-low.ensures) (high-small c.args.bytes c.high_word-high.result c.ranges.bytes.fits c.high_word-high.ensures) c.write_words.ensures.prefix

pub returns-clause-is_open : goal.returns-clause-is_open
returns-clause-is_open g c = bytes-open c.args.files.now (g.F.Folder.told c.args.folder.now) (g.F.Folder.told c.write_words.new.folder) c.low_word-low.result c.high_word-high.result c.requires.is_open (low-small c.args.bytes c.low_word-low.result c.low_word-low.ensures) (high-small c.args.bytes c.high_word-high.result c.ranges.bytes.fits c.high_word-high.ensures) c.write_words.ensures.prefix
