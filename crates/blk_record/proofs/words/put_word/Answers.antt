use Rattle.blk_record.proofs.Writes.{with_word-put}
use Rattle.blk_record.proofs.words.put_word.Goals as goal

pub returns : goal.returns
returns c = with_word-put c.args.at c.args.value c.args.window.now c.write_u32.new.buf c.requires c.write_u32.ensures
