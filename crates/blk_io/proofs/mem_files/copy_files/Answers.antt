use Rattle.std.proofs.Common.{◌≡◌, ◌+◌, ◌++◌, [], ◌∷◌, take, refl, sym, ap, ◌∙◌}
use Rattle.std.proofs.lemmas.List.{take_more}
use Rattle.blk_io.specs.declared.mem_files.MemFile.{MemFile}
use Rattle.blk_io.specs.Files.{image_of}
use Rattle.blk_io.proofs.FileLists.{copied_more}
use Rattle.blk_io.proofs.mem_files.copy_files.Goals as goal

pub loop-one-preserved : goal.loop-one-preserved
loop-one-preserved c =
    let one = c.one-item.result in
    let files = c.args.files.now in
    let i = c.loop-one.one-index in
    let more : take i files ++ one ∷ [] ≡ take (i + 1) files = ap (λ (x : MemFile). take i files ++ x ∷ []) c.one-item.is ∙ sym (take_more files i one c.loop-one-test.true) in
    ap image_of c.in_ok-push.ensures.items ∙ copied_more c.loop-one.copies.items (take i files) _ one c.loop-one.invariant refl (c.in_ok-bytes.ensures.items ∙ c.deref.ensures.value) ∙ ap image_of more
