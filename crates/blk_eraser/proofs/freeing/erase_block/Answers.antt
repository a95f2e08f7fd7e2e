use Rattle.std.proofs.Common.{◌≡◌, ℕ, ◌+◌, ◌-◌, ◌*◌, min, refl, sym, ◌∙◌, ap, subst, arith}
use Rattle.spec_image.specs.Bytes.{zeros}
use Rattle.spec_image.specs.Steps.{words}
use Rattle.spec_image.specs.Told.{Applies}
use Rattle.spec_image.proofs.Runs.{grows_none}
use Rattle.blk_io.specs.FileNames.{file_of}
use Rattle.blk_eraser.proofs.ZeroWords.{no_words, told_length}
use Rattle.blk_eraser.proofs.freeing.erase_block.Goals as goal

pub returns-then-place-long-clause-steps : goal.returns-then-place-long-clause-steps
returns-then-place-long-clause-steps g c =
    let none : min c.args.size (c.args.long - (8192 + c.args.block * c.args.size)) ≡ 0 = omega (arith, c.if-place-long.true) in
    subst (Applies (g.F.Folder.told c.args.folder.now) (g.F.Folder.told c.args.folder.now)) (sym (ap (λ (m : ℕ). words (file_of c.args.file) (8192 + c.args.block * c.args.size) (zeros m)) none ∙ no_words (file_of c.args.file) (8192 + c.args.block * c.args.size))) (grows_none refl)

pub returns-clause-known : goal.returns-clause-known
returns-clause-known g c = told_length (λ (n : ℕ). n ≡ c.args.long) (file_of c.args.file) (file_of c.args.file) _ _ c.erase.ensures.prefix c.requires.known
