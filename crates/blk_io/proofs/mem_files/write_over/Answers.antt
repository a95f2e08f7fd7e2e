use Rattle.std.proofs.Common.{ap, sym, ◌∙◌, ℕ, List, length, Option, None, Some, ◌≡◌}
use Rattle.spec_image.specs.Bytes.{spliced}
use Rattle.spec_image.specs.Image.{with_file}
use Rattle.spec_image.specs.Steps.{written_over}
use Rattle.spec_image.proofs.Images.{with_file-id}
use Rattle.blk_io.specs.declared.mem_files.MemFile.{MemFile}
use Rattle.blk_io.specs.FileNames.{file_of}
use Rattle.blk_io.specs.Files.{image_of}
use Rattle.spec_image.proofs.Splices.{length-spliced}
use Rattle.spec_image.proofs.Cuts.{after-words}
use Rattle.blk_io.proofs.FileLists.{set_is, place_is, with_is}
use Rattle.blk_io.proofs.mem_files.write_over.Goals as goal

pub returns-in-Some : goal.returns-in-Some
returns-in-Some c =
    let is = place_is _ _ _ _ _ c.deref.ensures.value c.in-Some.ensures.found c.index_mut-one.ensures.value in
    set_is _ _ _ _ _ c.deref.ensures.value c.in-Some.ensures.found is.0
    ∙ ap (λ (l : List ℕ). with_file (image_of c.args.files.now.items) (file_of c.args.file) (Some l)) (with_is _ _ _ (ap length c.copy_inside.ensures ∙ length-spliced c.args.at c.args.bytes.now c.deref_mut.result.now ∙ c.deref_mut.ensures.len) ∙ c.copy_inside.ensures ∙ ap (spliced c.args.at c.args.bytes.now) c.deref_mut.ensures.value)
    ∙ ap (λ (o : Option (List ℕ)). with_file (image_of c.args.files.now.items) (file_of c.args.file) (written_over c.args.at c.args.bytes.now o)) (sym is.1)
    ∙ sym (after-words (file_of c.args.file) c.args.at c.args.bytes.now (image_of c.args.files.now.items))

pub returns-in_default : goal.returns-in_default
returns-in_default c =
    let file = file_of c.args.file in
    let image = image_of c.args.files.now.items in
    let none : image file ≡ None = ap (λ (l : List MemFile). image_of l file) (sym c.deref.ensures.value) ∙ c.in_default.ensures.none in
    sym (after-words file c.args.at c.args.bytes.now image ∙ ap (λ (o : Option (List ℕ)). with_file image file (written_over c.args.at c.args.bytes.now o)) none ∙ ap (with_file image file) (sym none) ∙ with_file-id image file)
