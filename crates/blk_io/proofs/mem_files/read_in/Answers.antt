use Rattle.std.proofs.Common.{refl, ap, sym, ◌∙◌, ◌≡◌, ℕ, List, unwrap_or, Option, []}
use Rattle.spec_image.specs.Image.{bytes_of}
use Rattle.blk_io.specs.FileNames.{file_of}
use Rattle.blk_io.specs.Files.{image_of}
use Rattle.blk_io.proofs.FileLists.{place_is}
use Rattle.blk_io.proofs.ReadBytes.{gives_prefix, gives_nothing}
use Rattle.blk_io.proofs.mem_files.read_in.Goals as goal

pub returns-in-Some-clause-bytes : goal.returns-in-Some-clause-bytes
returns-in-Some-clause-bytes c =
    let is = place_is _ _ _ _ _ refl c.in-Some.ensures.found c.index-files-i.is in
    let e : bytes_of (image_of c.args.files.now) (file_of c.args.file) ≡ c.deref.result.now = ap (λ (o : Option (List ℕ)). unwrap_or o []) is.1 ∙ sym c.deref.ensures.value in
    gives_prefix (image_of c.args.files.now) (file_of c.args.file) c.args.at c.deref.result.now c.args.out.now c.copy_front.new.out c.copy_front.result e c.copy_front.ensures.count c.copy_front.ensures.front c.copy_front.ensures.rest

pub returns-in-None-clause-bytes : goal.returns-in-None-clause-bytes
returns-in-None-clause-bytes c = gives_nothing (image_of c.args.files.now) (file_of c.args.file) c.args.at c.args.out.now c.in-None.ensures.none
