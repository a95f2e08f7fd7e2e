use Rattle.std.proofs.Common.{◌+◌, ◌∙◌, arith}
use Rattle.spec_image.specs.Image.{Block, byte}
use Rattle.spec_format.specs.Address.{file_selector, place}
use Rattle.blk_entry.proofs.Windows.{entry_room_least, word_read}
use Rattle.blk_entry.proofs.fields.field.Goals as goal

pub read_block-requires-clause-inside : goal.read_block-requires-clause-inside
read_block-requires-clause-inside g c = let least = entry_room_least c.args.entry c.requires.kind in omega (arith, least, c.requires.place.inside, c.requires.place.aligned)

pub returns-clause-value : goal.returns-clause-value
returns-clause-value g c image there =
    let sum = c.from_le_bytes.ensures in
    sum ∙ word_read c.read_block.new.out (place c.args.entry + c.args.at) (byte image (Block (file_selector c.args.entry))) (c.in_ok-read_block.ensures.bytes image there)
