use Rattle.std.proofs.Common.{◌≡◌, ◌++◌, ◌+◌, List, [], ◌∷◌, take, sym, ◌∙◌, ap, subst}
use Rattle.std.specs.Option.{option_map}
use Rattle.std.proofs.lemmas.List.{take_more}
use Rattle.spec_image.specs.Order.{IsNextFile}
use Rattle.blk_io.specs.declared.mem_files.MemFile.{MemFile}
use Rattle.blk_io.specs.FileNames.{file_of}
use Rattle.blk_io.specs.Files.{image_of}
use Rattle.blk_io.proofs.FileLists.{next_more}
use Rattle.blk_io.proofs.mem_files.next_file.Goals as goal

pub loop-one-preserved : goal.loop-one-preserved
loop-one-preserved c =
    let one = c.one-item.result in
    let files = c.args.files.now in
    let i = c.loop-one.one-index in
    let more : take i files ++ one ∷ [] ≡ take (i + 1) files = ap (λ (x : MemFile). take i files ++ x ∷ []) c.one-item.is ∙ sym (take_more files i one c.loop-one-test.true) in
    subst (λ (l : List MemFile). IsNextFile (image_of l) (option_map file_of c.args.after) (option_map file_of c.nearer-next.result)) more
    (next_more (take i files) one (option_map file_of c.args.after) (option_map file_of c.loop-one.next) (option_map file_of c.nearer-next.result) c.loop-one.invariant c.nearer-next.ensures)
