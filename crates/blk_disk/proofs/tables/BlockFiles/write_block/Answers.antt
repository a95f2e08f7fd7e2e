use Rattle.std.proofs.Common.{◌≡◌, ◌+◌, ℕ, List, length, ap₂, subst, refl, sym, ◌∙◌}
use Rattle.std.specs.Prelude.{OnOk}
use Rattle.spec_image.specs.Image.{Image, Block, HasRange}
use Rattle.spec_image.specs.Steps.{words}
use Rattle.spec_image.specs.Footprint.{SameOutside, range}
use Rattle.spec_image.specs.Told.{Applies, AppliesPrefix, Until}
use Rattle.spec_image.proofs.Runs.{passes_part, some_inj, told_part, until_weaker2}
use Rattle.spec_image.proofs.WordSteps.{quiet-words}
use Rattle.spec_image.proofs.Footprints.{words_inside}
use Rattle.spec_format.specs.Address.{file_selector, place}
use Rattle.blk_io.specs.declared.folder.FileId.{FileId}
use Rattle.blk_io.specs.FileNames.{file_of}
use Rattle.blk_disk.specs.Tables.{Agrees}
use Rattle.blk_disk.proofs.Agreeing.{agrees_still}
use Rattle.spec_format.proofs.SpareHeaders.{blocks_spare}
use Rattle.blk_disk.proofs.Ranges.{stands_blocky, stands_range, name_is}
use Rattle.blk_disk.proofs.tables.BlockFiles.write_block.Goals as goal

pub place_of-requires : goal.place_of-requires
place_of-requires g c = stands_blocky c.args.self.now c.args.addr c.requires.stands

pub write_at-requires : goal.write_at-requires
write_at-requires g c image there =
    let name = name_is c.args.addr c.file_of.result (stands_blocky c.args.self.now c.args.addr c.requires.stands) c.file_of.ensures in
    let at : c.place_of.result + c.from.result ≡ place c.args.addr + c.args.at = ap₂ (λ (a b : ℕ). a + b) c.place_of.ensures.place c.from.ensures in
    subst (λ (n : ℕ). HasRange image (file_of c.file_of.result) n (length c.args.bytes.now)) (sym at)
    (subst (λ (name : FileId). HasRange image (file_of name) (place c.args.addr + c.args.at) (length c.args.bytes.now)) (sym name)
    (stands_range c.args.self.now image c.args.addr c.args.at (length c.args.bytes.now) (c.requires.agrees image there) c.requires.stands c.requires.inside))

pub returns-clause-steps : goal.returns-clause-steps
returns-clause-steps g c =
    let name = name_is c.args.addr c.file_of.result (stands_blocky c.args.self.now c.args.addr c.requires.stands) c.file_of.ensures in
    let at : c.place_of.result + c.from.result ≡ place c.args.addr + c.args.at = ap₂ (λ (a b : ℕ). a + b) c.place_of.ensures.place c.from.ensures in
    subst (λ (n : ℕ). OnOk c.write_at.result (Applies (g.F.Folder.told c.args.f.now) (g.F.Folder.told c.write_at.new.self) (words (Block (file_selector c.args.addr)) n c.args.bytes.now))) at
    (subst (λ (name : FileId). OnOk c.write_at.result (Applies (g.F.Folder.told c.args.f.now) (g.F.Folder.told c.write_at.new.self) (words (file_of name) (c.place_of.result + c.from.result) c.args.bytes.now))) name c.write_at.ensures.steps)

pub returns-clause-prefix : goal.returns-clause-prefix
returns-clause-prefix g c =
    let name = name_is c.args.addr c.file_of.result (stands_blocky c.args.self.now c.args.addr c.requires.stands) c.file_of.ensures in
    let at : c.place_of.result + c.from.result ≡ place c.args.addr + c.args.at = ap₂ (λ (a b : ℕ). a + b) c.place_of.ensures.place c.from.ensures in
    subst (λ (n : ℕ). AppliesPrefix (g.F.Folder.told c.args.f.now) (g.F.Folder.told c.write_at.new.self) (words (Block (file_selector c.args.addr)) n c.args.bytes.now)) at
    (subst (λ (name : FileId). AppliesPrefix (g.F.Folder.told c.args.f.now) (g.F.Folder.told c.write_at.new.self) (words (file_of name) (c.place_of.result + c.from.result) c.args.bytes.now)) name c.write_at.ensures.prefix)

pub returns-clause-outside : goal.returns-clause-outside
returns-clause-outside g c from there =
    let file = Block (file_selector c.args.addr) in
    let at : ℕ = place c.args.addr + c.args.at in
    let outside = SameOutside (range file at (length c.args.bytes.now)) from in
    passes_part outside outside (returns-clause-prefix g c) (quiet-words file at c.args.bytes.now tt) (λ image same. same)
    (λ image here. let same : from ≡ image = some_inj (sym there ∙ here) in subst (λ (i : Image). Until outside outside i (words file at c.args.bytes.now)) same (words_inside file at c.args.bytes.now from))

pub returns-clause-agrees : goal.returns-clause-agrees
returns-clause-agrees g c =
    let file = Block (file_selector c.args.addr) in
    let at : ℕ = place c.args.addr + c.args.at in
    let bytes : List ℕ = c.args.bytes.now in
    let agrees = Agrees c.args.self.now in
    told_part agrees (returns-clause-prefix g c)
    (λ image there. let outside = SameOutside (range file at (length bytes)) image in
    let still : (i : Image) → outside i → agrees i = (λ i same. agrees_still (range file at (length bytes)) image i (blocks_spare file c.args.addr c.args.at (length bytes)) same c.args.self.now (λ n. refl) (c.requires.agrees image there)) in
    until_weaker2 outside agrees outside agrees (words file at bytes) image still still (words_inside file at bytes image))
