use Rattle.std.proofs.Common.{ap, sym, ◌∙◌, ◌≡◌, ◌-◌, ◌++◌, ℕ, List, [], take, replicate, length, unwrap_or, Option, Some, None, refl}
use Rattle.blk_io.specs.declared.mem_files.MemFile.{MemFile}
use Rattle.spec_image.specs.Bytes.{zeros, resized}
use Rattle.spec_image.specs.Image.{with_file}
use Rattle.blk_io.specs.FileNames.{file_of}
use Rattle.blk_io.specs.Files.{image_of}
use Rattle.blk_io.proofs.FileLists.{set_is, place_is, push_is, put_back, on_err_any}
use Rattle.blk_io.proofs.mem_files.resize.Goals as goal

pub returns-in_ok-resize-in-Some-clause-done : goal.returns-in_ok-resize-in-Some-clause-done
unfolding resized zeros
returns-in_ok-resize-in-Some-clause-done c =
    let is = place_is _ _ _ _ _ c.deref.ensures.value c.in-Some.ensures.found c.index_mut-one.ensures.value in
    let old = c.index_mut-one.result.now.bytes in
    let same : old.len ≡ length old.items = old.ok.0 in
    set_is _ _ _ _ _ c.deref.ensures.value c.in-Some.ensures.found is.0
    ∙ ap (λ (l : List ℕ). with_file (image_of c.args.files.now.items) (file_of c.args.file) (Some l)) (c.in_ok-resize-in-Some.ensures.items ∙ ap (λ (n : ℕ). take c.args.length old.items ++ replicate (c.args.length - n) 0) same ∙ ap (λ (o : Option (List ℕ)). resized c.args.length (unwrap_or o [])) (sym is.1))

pub returns-in_err-resize-in-Some-clause-undone : goal.returns-in_err-resize-in-Some-clause-undone
returns-in_err-resize-in-Some-clause-undone c =
    let is = place_is _ _ _ _ _ c.deref.ensures.value c.in-Some.ensures.found c.index_mut-one.ensures.value in
    on_err_any c.from_residual.result
    (set_is _ _ _ _ _ c.deref.ensures.value c.in-Some.ensures.found is.0 ∙ ap (λ (l : List ℕ). with_file (image_of c.args.files.now.items) (file_of c.args.file) (Some l)) c.in_err-resize-in-Some.ensures.items ∙ put_back _ _ _ is.1)

pub returns-in_ok-push-in-None-clause-done : goal.returns-in_ok-push-in-None-clause-done
unfolding resized zeros
returns-in_ok-push-in-None-clause-done c =
    let none : image_of c.args.files.now.items (file_of c.args.file) ≡ None = ap (λ (l : List MemFile). image_of l (file_of c.args.file)) (sym c.deref.ensures.value) ∙ c.in-None.ensures.none in
    let bytes = c.in_ok-resize-in-None.ensures.items in
    ap image_of c.in_ok-push-in-None.ensures.items ∙ push_is (file_of c.args.file) c.args.files.now.items _ none refl
    ∙ ap (λ (l : List ℕ). with_file (image_of c.args.files.now.items) (file_of c.args.file) (Some l)) (bytes ∙ ap (λ (l : List ℕ). take c.args.length l ++ replicate (c.args.length - c.new-bytes.result.len) 0) c.new-bytes.ensures.items ∙ ap (λ (n : ℕ). take c.args.length [] ++ replicate (c.args.length - n) 0) c.new-bytes.ensures.len ∙ ap (λ (o : Option (List ℕ)). resized c.args.length (unwrap_or o [])) (sym none))
