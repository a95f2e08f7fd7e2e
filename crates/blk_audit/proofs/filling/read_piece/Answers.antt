use Rattle.std.proofs.Common.{◌≡◌, ℕ, ◌+◌, ◌*◌, ◌++◌, ◌≤◌, List, length, ⊎_elim, ap, ◌∙◌, arith}
use Rattle.spec_image.specs.Image.{Block, byte, length_of}
use Rattle.blk_io.specs.declared.folder.FileId.TheVariants as names
use Rattle.blk_audit.specs.declared.nodes.Node.{Node}
use Rattle.blk_audit.proofs.Pieces.{are_read}
use Rattle.blk_audit.proofs.filling.read_piece.Goals as goal

pub returns-clause-nodes : goal.returns-clause-nodes
returns-clause-nodes g c image there =
    let place : 8192 + c.from.result * 36 ≡ 8192 + c.args.first * 36 = ap (λ (n : ℕ). 8192 + n * 36) c.from.ensures in
    c.in_ok-add_nodes.ensures
    ∙ ap (λ (t : List Node). c.args.nodes.now.items ++ t) (are_read (byte image (Block c.args.file)) c.read_exact.new.out c.args.bytes.now (8192 + c.from.result * 36) (8192 + c.args.first * 36) c.args.count (c.in_ok-read_exact.ensures.bytes image there) c.requires.size place)

pub returns-clause-checked : goal.returns-clause-checked
returns-clause-checked g c image there some =
    ⊎_elim
    (λ (inside : 8192 + c.from.result * 36 + length c.args.bytes.now ≤ length_of image (Block c.args.file)). let h : 8192 + c.args.first * 36 + 36 * c.args.count ≤ length_of image (Block c.args.file) = omega (arith, inside, c.from.ensures, c.requires.size) in h)
    (λ (none : length c.args.bytes.now ≡ 0). absurd (omega (arith, none, some, c.requires.size)))
    (c.in_ok-read_exact.ensures.inside image there)
