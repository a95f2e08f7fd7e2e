use Rattle.std.proofs.Common.{◌≡◌, List, None, ap, sym, ◌∙◌, refl}
use Rattle.blk_io.specs.declared.mem_files.MemFile.{MemFile}
use Rattle.blk_io.specs.FileNames.{file_of}
use Rattle.blk_io.specs.Files.{image_of}
use Rattle.blk_io.proofs.FileLists.{set_is, place_is, push_is}
use Rattle.blk_io.proofs.mem_files.put_file.Goals as goal

pub returns-in-Some : goal.returns-in-Some
returns-in-Some c =
    let is = place_is _ _ _ _ _ c.deref.ensures.value c.in-Some.ensures.found c.index_mut-one.ensures.value in
    set_is _ _ _ _ _ c.deref.ensures.value c.in-Some.ensures.found is.0

pub returns-in-Ok : goal.returns-in-Ok
returns-in-Ok c =
    let none : image_of c.args.files.now.items (file_of c.args.file) ≡ None = ap (λ (l : List MemFile). image_of l (file_of c.args.file)) (sym c.deref.ensures.value) ∙ c.in-None.ensures.none in
    ap image_of c.in-Ok.ensures.items ∙ push_is (file_of c.args.file) c.args.files.now.items _ none refl
