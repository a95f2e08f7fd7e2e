use Rattle.std.proofs.Common.{◌≡◌, ◌≤◌, true, Some, sym, ◌∙◌, refl, arith}
use Rattle.spec_image.specs.Image.{Image, Block, length_of}
use Rattle.blk_io.specs.declared.folder.FileId.TheVariants as names
use Rattle.blk_io.specs.Faults.{IsShort}
use Rattle.blk_io.proofs.Carried.{carried, if_damaged_weaker}
use Rattle.blk_addr.specs.Kind.{kind_number}
use Rattle.blk_disk.specs.Tables.{files_of}
use Rattle.spec_format.specs.BlockFiles.{is_among}
use Rattle.blk_alloc.specs.Allocating.{IsKindFull}
use Rattle.blk_alloc.proofs.Members.{member_at, member_head}
use Rattle.blk_alloc.proofs.allocating.full_damage.Goals as goal

pub returns-clause-full : goal.returns-clause-full
returns-clause-full g c = record {
  number = c.requires.number;
  full = c.requires.full;
  file = c.in-Some.last;
  last = sym c.file_at.ensures ∙ c.in-Some.is;
  of_file = refl;
  at = refl;
  there = λ image there. c.in_ok-found.ensures.inside image there;
  found = λ image there. c.in_ok-found.ensures.word image there;
}

pub returns-in_err-found-clause-cause : goal.returns-in_err-found-clause-cause
returns-in_err-found-clause-cause g c agrees =
    let told = g.F.Folder.told c.args.folder.now in
    let kind = kind_number c.args.kind in
    let among : is_among (files_of c.args.files.now kind) c.in-Some.last ≡ true = member_at (files_of c.args.files.now kind) 59 c.in-Some.last (sym c.file_at.ensures ∙ c.in-Some.is) in
    let long : (image : Image) → told.files ≡ Some image → 8192 ≤ length_of image (Block c.in-Some.last) = (λ image there. (member_head c.args.files.now image c.args.kind c.in-Some.last c.requires.block_kind (agrees image there) among).header) in
    carried c.read_word.result c.from_residual.result c.in_err-found.field-0.0 _ c.in_err-found.was c.from_residual.ensures.1
    (if_damaged_weaker c.read_word.result (IsShort told (names.Block c.in-Some.last) 8188 4) (IsKindFull c.args.files.now kind told)
    (λ damage short. record {
      number = c.requires.number;
      full = c.requires.full;
      file = c.in-Some.last;
      last = sym c.file_at.ensures ∙ c.in-Some.is;
      of_file = short.of_file;
      at = short.at_place;
      there = λ image there. let header = long image there in omega (arith, header);
      found = λ image there. absurd (let few = short.few in let many = short.many image there in let header = long image there in omega (arith, few, many, header));
    }) c.read_word.ensures.short)
