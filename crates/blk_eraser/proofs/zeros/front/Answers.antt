use Rattle.std.proofs.Common.{◌≡◌, length, ◌∙◌, ap, arith}
use Rattle.std.proofs.lemmas.List.{length-take}
use Rattle.spec_image.proofs.Splices.{length-zeros}
use Rattle.blk_eraser.proofs.zeros.front.Goals as goal

pub slice_bounds-result-end : goal.slice_bounds-result-end
slice_bounds-result-end c =
    let long : length c.args.bytes.now ≡ 4096 = ap length c.requires.blank ∙ length-zeros 4096 in omega (arith, long, length-take c.args.n c.args.bytes.now, c.requires.few)
