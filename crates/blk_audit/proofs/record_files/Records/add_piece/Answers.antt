use Rattle.std.proofs.Common.{◌≡◌, ℕ, ◌+◌, ◌-◌, ◌*◌, List, drop, take, length, sym, ap, ap₂, ◌∙◌, arith}
use Rattle.std.proofs.lemmas.List.{length-drop, take_all}
use Rattle.spec_image.specs.Bytes.{range_at}
use Rattle.spec_image.specs.Image.{Block, byte}
use Rattle.blk_audit.proofs.PiecesOfRecords.{window_is}
use Rattle.blk_audit.proofs.record_files.Records.add_piece.Goals as goal

pub loop-i-preserved : goal.loop-i-preserved
loop-i-preserved c image small inside is are =
    let at : 8192 + c.args.first * 256 + 256 * c.loop-i.i ≡ 8192 + (c.args.first + c.loop-i.i) * 256 = omega arith in
    let behind : length (drop (256 * c.loop-i.i) c.args.bytes.now) ≡ 32768 - 256 * c.loop-i.i = length-drop (256 * c.loop-i.i) c.args.bytes.now ∙ ap (λ (n : ℕ). n - 256 * c.loop-i.i) c.requires.size in
    let rest : List ℕ = drop (256 * c.loop-i.i) c.args.bytes.now in
    let whole : take (length c.args.bytes.now - 256 * c.loop-i.i) rest ≡ rest = take_all (length c.args.bytes.now - 256 * c.loop-i.i) rest (omega (arith, behind, c.requires.size)) in
    let size : length (take (length c.args.bytes.now - 256 * c.loop-i.i) rest) ≡ 32768 - 256 * c.loop-i.i = ap length whole ∙ behind in
    c.in_ok-add.ensures image small (omega (arith, inside, size, c.loop-i-test.true))
    (whole ∙ window_is (byte image (Block c.args.file)) (8192 + c.args.first * 256) c.loop-i.i c.args.bytes.now c.loop-i-test.true is
    ∙ ap₂ (λ (p n : ℕ). range_at (byte image (Block c.args.file)) p n) at (sym size))
    (c.loop-i.invariant image small inside is are)
