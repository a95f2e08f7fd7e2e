use Rattle.std.proofs.Common.{◌+◌, ◌-◌, ◌++◌, ℕ, List, length, take, ◌∙◌, ap, sym, arith}
use borrow.Rule.Slice.PartMut.{Post-is, put_mid}
use Rattle.spec_image.proofs.Splices.{spliced-is}
use Rattle.blk_io.proofs.mem_files.copy_over.Goals as goal

pub returns : goal.returns
returns c =
    let at = c.args.at in
    let new = c.args.new.now in
    ap (λ (l : List ℕ). put_mid at (at + length new - at) c.args.bytes.now l) c.copy_from_slice.ensures.after
    ∙ ap (λ (l : List ℕ). take at c.args.bytes.now ++ (new ++ l)) (Post-is at (at + length new) c.args.bytes.now (omega arith))
    ∙ sym (spliced-is at new c.args.bytes.now c.requires.inside)
