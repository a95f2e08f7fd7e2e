use Rattle.std.proofs.Common.{◌≡◌, length, ap, ◌∙◌, arith}
use Rattle.std.proofs.lemmas.List.{take_all}
use Rattle.spec_image.specs.Image.{byte}
use Rattle.spec_image.proofs.Words.{word-from_bytes, length-range}
use Rattle.blk_io.specs.FileNames.{file_of}
use Rattle.blk_io.proofs.words.read_word.Goals as goal

pub returns-clause-word : goal.returns-clause-word
returns-clause-word g c image there =
    let file = file_of c.args.file in
    let new = c.read_exact.new.out in
    let is = c.in_ok-read_exact.ensures.bytes image there in
    let size : length new ≡ 4 = ap length is ∙ length-range 4 c.args.at (byte image file) in
    c.from_le_bytes.ensures ∙ word-from_bytes new c.args.at (byte image file) (take_all 4 new (omega arith) ∙ is)
