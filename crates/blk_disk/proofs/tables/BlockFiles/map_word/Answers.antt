use Rattle.std.proofs.Common.{◌≡◌, ℕ, ◌+◌, ◌*◌, ◌∙◌, ap, arith}
use Rattle.spec_image.specs.Bytes.{range_at}
use Rattle.spec_image.specs.Image.{Block, byte}
use Rattle.blk_io.proofs.Carried.{carried}
use Rattle.blk_disk.proofs.WholeHeaders.{word_inside}
use Rattle.blk_disk.proofs.tables.BlockFiles.map_word.Goals as goal

pub returns-in_err-read_exact-clause-untold : goal.returns-in_err-read_exact-clause-untold
returns-in_err-read_exact-clause-untold g c agrees =
    carried c.read_exact.result c.from_residual.result c.in_err-read_exact.field-0.0 _ c.in_err-read_exact.was c.from_residual.ensures.1
    (c.read_exact.ensures.untold
    (λ image there. let inside = word_inside c.args.self.now c.args.file c.args.number (g.F.Folder.told c.args.f.now) agrees c.requires.linked c.requires.below image there in omega (arith, inside, c.from.ensures)))

pub returns-clause-word : goal.returns-clause-word
returns-clause-word g c image there =
    let at : 80 + 4 * c.from.result ≡ 80 + 4 * c.args.number = ap (λ (k : ℕ). 80 + 4 * k) c.from.ensures in
    c.word_of.ensures ∙ c.in_ok-read_exact.ensures.bytes image there ∙ ap (λ (p : ℕ). range_at (byte image (Block c.args.file)) p 4) at
