use Rattle.std.proofs.Common.{rules, ap, sym, ◌∙◌, true, false, ◌≡◌}
use Rattle.spec_image.specs.Image.{same_file}
use Rattle.spec_image.proofs.Images.{same_file-true, same_file-refl}
use Rattle.blk_io.specs.FileNames.{file_of}
use Rattle.blk_io.proofs.FileLists.{image_of-more}
use Rattle.blk_io.proofs.mem_files.place_of.Goals as goal

differ : false ≡ true → ⊥
differ e = cc

pub returns-then-eq-clause-found : goal.returns-then-eq-clause-found
returns-then-eq-clause-found c =
    let same : same_file (file_of c.index-files-i.result.file) (file_of c.args.file) ≡ true = search rules in
    record { one = c.index-files-i.result; within = c.loop-i-test.true; there = c.index-files-i.is; named = same_file-true _ _ same; none_before = c.loop-i.invariant }

pub loop-i-preserved : goal.loop-i-preserved
loop-i-preserved c =
    let other : same_file (file_of c.index-files-i.result.file) (file_of c.args.file) ≡ false = search rules in
    image_of-more _ _ _ c.index-files-i.result c.loop-i-test.true c.index-files-i.is (λ same. differ (sym other ∙ ap (λ f. same_file f (file_of c.args.file)) same ∙ same_file-refl (file_of c.args.file))) c.loop-i.invariant
