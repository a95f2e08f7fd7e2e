use Rattle.std.proofs.Common.{◌≡◌, ◌+◌, ◌-◌, ◌*◌, ◌≤◌, ℕ, true, min, length, refl, sym, ◌∙◌, ap, subst, arith}
use Rattle.spec_image.specs.Told.{Applies, AppliesPrefix}
use Rattle.spec_image.proofs.Runs.{grows_none, grows_then, part_then, part_whole}
use Rattle.blk_io.specs.FileNames.{file_of}
use Rattle.blk_eraser.specs.Erasing.{frees, zeros_over_blocks}
use Rattle.blk_eraser.proofs.MapWrites.{none_before, none_behind, over_one, over_not, part_of_blocks}
use Rattle.blk_eraser.proofs.freeing.erase_freed.Goals as goal
use Rattle.blk_eraser.proofs.freeing.erase_freed.Goals.{then-is_freed+in_ok-erase_block, else-is_freed}

pub loop-block-init : goal.loop-block-init
loop-block-init g c = record {
  below = omega (arith, c.saturating_sub-block.ensures, c.saturating_sub-end.ensures);
  known = c.requires.known;
  applies =
      subst (Applies (g.F.Folder.told c.args.folder.now) (g.F.Folder.told c.args.folder.now)) (sym (none_before c.args.header.now c.args.at c.args.bytes.now (file_of c.args.file) c.block_size-size.result c.args.long (8 * c.saturating_sub-block.result) (ap (λ (m : ℕ). 8 * m) c.saturating_sub-block.ensures)))
      (grows_none refl);
}

pub returns-in_err-erase_block-clause-prefix : goal.returns-in_err-erase_block-clause-prefix
returns-in_err-erase_block-clause-prefix g c =
    let freed : frees c.args.header.now c.args.at c.args.bytes.now c.loop-block.block ≡ true = sym c.is_freed.ensures ∙ c.if-is_freed.true in
    let few : c.loop-block.block + 1 ≤ 64896 = omega (arith, c.loop-block-test.true, c.saturating_sub-end.ensures, c.min.ensures, c.requires.front) in
    subst (λ (m : ℕ). AppliesPrefix (g.F.Folder.told c.args.folder.now) (g.F.Folder.told c.erase_block.new.folder) (zeros_over_blocks (frees c.args.header.now c.args.at c.args.bytes.now) (file_of c.args.file) m c.args.long 64896)) c.block_size-size.ensures.size
    (part_of_blocks (frees c.args.header.now c.args.at c.args.bytes.now) (file_of c.args.file) c.block_size-size.result c.args.long (c.loop-block.block + 1) 64896 few
    (subst (AppliesPrefix (g.F.Folder.told c.args.folder.now) (g.F.Folder.told c.erase_block.new.folder)) (sym (over_one (frees c.args.header.now c.args.at c.args.bytes.now) (file_of c.args.file) c.block_size-size.result c.args.long c.loop-block.block freed))
    (part_then c.loop-block.invariant.applies c.erase_block.ensures.prefix)))

pub loop-block-preserved : goal.loop-block-preserved
loop-block-preserved g c =
    elim c.if-is_freed.branch [
      | then-is_freed+in_ok-erase_block w ↦ rw w.folder-is (record {
        below = omega (arith, c.loop-block-test.true);
        known = w.erase_block.ensures.known;
        applies =
            subst (Applies (g.F.Folder.told c.args.folder.now) (g.F.Folder.told w.erase_block.new.folder)) (sym (over_one (frees c.args.header.now c.args.at c.args.bytes.now) (file_of c.args.file) c.block_size-size.result c.args.long c.loop-block.block (sym c.is_freed.ensures ∙ w.if-is_freed.true)))
            (grows_then c.loop-block.invariant.applies w.in_ok-erase_block.ensures.steps);
      })
      | else-is_freed w ↦ rw w.folder-is (record {
        below = omega (arith, c.loop-block-test.true);
        known = c.loop-block.invariant.known;
        applies =
            subst (Applies (g.F.Folder.told c.args.folder.now) (g.F.Folder.told c.loop-block.folder)) (sym (over_not (frees c.args.header.now c.args.at c.args.bytes.now) (file_of c.args.file) c.block_size-size.result c.args.long c.loop-block.block (sym c.is_freed.ensures ∙ w.if-is_freed.false)))
            c.loop-block.invariant.applies;
      })
    ]

all_of : goal.returns-clause-steps
all_of g c =
    let here : c.loop-block.block ≡ 8 * ((c.args.at + min (length c.args.bytes.now) (8192 - c.args.at)) - 80) = omega (arith, c.loop-block-test.false, c.loop-block.invariant.below, c.saturating_sub-end.ensures, c.min.ensures) in
    subst (λ (m : ℕ). Applies (g.F.Folder.told c.args.folder.now) (g.F.Folder.told c.loop-block.folder) (zeros_over_blocks (frees c.args.header.now c.args.at c.args.bytes.now) (file_of c.args.file) m c.args.long 64896)) c.block_size-size.ensures.size
    (subst (Applies (g.F.Folder.told c.args.folder.now) (g.F.Folder.told c.loop-block.folder)) (sym (none_behind c.args.header.now c.args.at c.args.bytes.now (file_of c.args.file) c.block_size-size.result c.args.long c.loop-block.block here c.requires.front))
    c.loop-block.invariant.applies)

pub returns-clause-steps : goal.returns-clause-steps
returns-clause-steps g c = all_of g c

pub returns-clause-prefix : goal.returns-clause-prefix
returns-clause-prefix g c = part_whole (all_of g c)
