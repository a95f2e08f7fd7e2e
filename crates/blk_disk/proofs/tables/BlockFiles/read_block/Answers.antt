use Rattle.std.proofs.Common.{◌≡◌, ◌⊎◌, ◌+◌, ℕ, length, ap₂, subst, arith}
use Rattle.std.specs.Prelude.{OnOk}
use Rattle.std.specs.Option.{ForSome}
use Rattle.spec_image.specs.Bytes.{range_at}
use Rattle.spec_image.specs.Image.{Block, HasRange, byte}
use Rattle.spec_format.specs.Address.{file_selector, place}
use Rattle.blk_io.specs.declared.folder.FileId.{FileId}
use Rattle.blk_io.specs.declared.folder.FileId.TheVariants as folder
use Rattle.blk_io.specs.FileNames.{file_of}
use Rattle.blk_io.specs.Faults.{IfDamaged, IsShort}
use Rattle.blk_io.proofs.Shorts.{untold_if}
use Rattle.blk_disk.proofs.Ranges.{stands_blocky, stands_range, room_small, name_is}
use Rattle.blk_disk.proofs.tables.BlockFiles.read_block.Goals as goal

pub place_of-requires : goal.place_of-requires
place_of-requires g c = stands_blocky c.args.self.now c.args.addr c.requires.stands

pub read_exact-requires : goal.read_exact-requires
read_exact-requires g c = let small = room_small c.args.addr in omega (arith, small, c.requires.inside)

pub returns-clause-bytes : goal.returns-clause-bytes
returns-clause-bytes g c =
    let name = name_is c.args.addr c.file_of.result (stands_blocky c.args.self.now c.args.addr c.requires.stands) c.file_of.ensures in
    let at : c.place_of.result + c.from.result ≡ place c.args.addr + c.args.at = ap₂ (λ (a b : ℕ). a + b) c.place_of.ensures.place c.from.ensures in
    subst (λ (n : ℕ). OnOk c.read_exact.result (ForSome (g.F.Folder.told c.args.f.now).files (λ image. c.read_exact.new.out ≡ range_at (byte image (Block (file_selector c.args.addr))) n (length c.args.out.now)))) at
    (subst (λ (name : FileId). OnOk c.read_exact.result (ForSome (g.F.Folder.told c.args.f.now).files (λ image. c.read_exact.new.out ≡ range_at (byte image (file_of name)) (c.place_of.result + c.from.result) (length c.args.out.now)))) name c.read_exact.ensures.bytes)

pub returns-clause-short : goal.returns-clause-short
returns-clause-short g c =
    let name = name_is c.args.addr c.file_of.result (stands_blocky c.args.self.now c.args.addr c.requires.stands) c.file_of.ensures in
    let at : c.place_of.result + c.from.result ≡ place c.args.addr + c.args.at = ap₂ (λ (a b : ℕ). a + b) c.place_of.ensures.place c.from.ensures in
    subst (λ (n : ℕ). IfDamaged c.read_exact.result (IsShort (g.F.Folder.told c.args.f.now) (folder.Block (file_selector c.args.addr)) n (length c.args.out.now))) at
    (subst (λ (name : FileId). IfDamaged c.read_exact.result (IsShort (g.F.Folder.told c.args.f.now) name (c.place_of.result + c.from.result) (length c.args.out.now))) name c.read_exact.ensures.short)

pub returns-clause-untold : goal.returns-clause-untold
returns-clause-untold g c agrees =
    untold_if c.read_exact.result (g.F.Folder.told c.args.f.now) (folder.Block (file_selector c.args.addr)) (place c.args.addr + c.args.at) (length c.args.out.now) (returns-clause-short g c)
    (λ image there. stands_range c.args.self.now image c.args.addr c.args.at (length c.args.out.now) (agrees image there) c.requires.stands c.requires.inside)

pub returns-clause-checked : goal.returns-clause-checked
returns-clause-checked g c =
    let name = name_is c.args.addr c.file_of.result (stands_blocky c.args.self.now c.args.addr c.requires.stands) c.file_of.ensures in
    let at : c.place_of.result + c.from.result ≡ place c.args.addr + c.args.at = ap₂ (λ (a b : ℕ). a + b) c.place_of.ensures.place c.from.ensures in
    subst (λ (n : ℕ). OnOk c.read_exact.result (ForSome (g.F.Folder.told c.args.f.now).files (λ image. HasRange image (Block (file_selector c.args.addr)) n (length c.args.out.now) ⊎ (length c.args.out.now ≡ 0)))) at
    (subst (λ (name : FileId). OnOk c.read_exact.result (ForSome (g.F.Folder.told c.args.f.now).files (λ image. HasRange image (file_of name) (c.place_of.result + c.from.result) (length c.args.out.now) ⊎ (length c.args.out.now ≡ 0)))) name c.read_exact.ensures.inside)
