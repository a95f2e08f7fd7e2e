use Rattle.std.proofs.Common.{◌≡◌, ◌+◌, ◌≤◌, Option, ℕ, List, ap, ap₂, sym, subst, ◌∙◌, arith}
use Rattle.std.specs.Prelude.{OnOk}
use Rattle.spec_image.specs.Image.{Block, length_of}
use Rattle.spec_image.specs.Steps.{TrailStep, word_step}
use Rattle.spec_image.specs.Told.{Applies, AppliesPrefix}
use Rattle.spec_format.specs.Address.{file_selector, kind_of, place}
use Rattle.spec_format.specs.Sealed.{seal_by_kind, seal_place}
use Rattle.spec_format.proofs.SealedRecords.{seal_last}
use Rattle.blk_disk.specs.Unsealed.{missing_steps}
use Rattle.blk_io.specs.FileNames.{file_of}
use Rattle.blk_io.specs.declared.folder.FileId.{FileId}
use Rattle.blk_io.specs.declared.folder.FileId.TheVariants as names
use Rattle.blk_disk.proofs.Ranges.{stands_blocky, name_is}
use Rattle.blk_disk.proofs.SealedWrites.{record_fits}
use Rattle.blk_disk.proofs.MissingSeals.{seal_place_aligned}
use Rattle.blk_disk.proofs.tables.BlockFiles.write_seal.Given as given
use Rattle.blk_disk.proofs.tables.BlockFiles.write_seal.Goals as goal
use Rattle.blk_disk.proofs.tables.BlockFiles.write_seal.Goals.{After-file_of, After-write_word}

-- the place of the checksum, and the name of the file
place_here : (g : given.Over) (c : After-file_of g) → c.place_of.result + c.from.result ≡ place c.args.addr + seal_place c.args.addr
place_here g c = ap₂ (λ (p s : ℕ). p + s) c.place_of.ensures.place (c.from.ensures ∙ c.seal_of.ensures.place ∙ ap seal_by_kind c.kind.ensures)

name_here : (g : given.Over) (c : After-file_of g) → c.file_of.result ≡ names.Block (file_selector c.args.addr)
name_here g c = name_is c.args.addr c.file_of.result (stands_blocky c.args.self.now c.args.addr c.requires.stands) c.file_of.ensures

steps_here : (g : given.Over) (c : After-write_word g) → word_step (file_of c.file_of.result) (c.place_of.result + c.from.result) c.in-Some.seal ≡ word_step (Block (file_selector c.args.addr)) (place c.args.addr + seal_place c.args.addr) c.in-Some.seal
steps_here g c =
    ap₂ (λ (name : FileId) (at : ℕ). word_step (file_of name) at c.in-Some.seal) (name_is c.args.addr c.file_of.result (stands_blocky c.args.self.now c.args.addr c.requires.stands) c.file_of.ensures)
    (ap₂ (λ (p s : ℕ). p + s) c.place_of.ensures.place (c.from.ensures ∙ c.seal_of.ensures.place ∙ ap seal_by_kind c.kind.ensures))

pub write_word-requires-clause-aligned : goal.write_word-requires-clause-aligned
write_word-requires-clause-aligned g c = omega (arith, place_here g c, seal_place_aligned c.args.addr c.requires.begins)

pub write_word-requires-clause-inside : goal.write_word-requires-clause-inside
write_word-requires-clause-inside g c image there =
    let room = record_fits c.args.self.now c.args.addr c.requires.stands c.requires.begins image (c.requires.agrees image there) in
    subst (λ (name : FileId). c.place_of.result + c.from.result + 4 ≤ length_of image (file_of name)) (sym (name_here g c)) (omega (arith, room, place_here g c, seal_last (kind_of c.args.addr)))

pub returns-clause-steps : goal.returns-clause-steps
returns-clause-steps g c =
    subst (λ (m : Option ℕ). OnOk c.write_word.result (Applies (g.F.Folder.told c.args.folder.now) (g.F.Folder.told c.write_word.new.folder) (missing_steps c.args.addr m))) (sym c.in-Some.is)
    (subst (λ (steps : List TrailStep). OnOk c.write_word.result (Applies (g.F.Folder.told c.args.folder.now) (g.F.Folder.told c.write_word.new.folder) steps)) (steps_here g c) c.write_word.ensures.steps)

pub returns-clause-prefix : goal.returns-clause-prefix
returns-clause-prefix g c =
    subst (λ (m : Option ℕ). AppliesPrefix (g.F.Folder.told c.args.folder.now) (g.F.Folder.told c.write_word.new.folder) (missing_steps c.args.addr m)) (sym c.in-Some.is)
    (subst (AppliesPrefix (g.F.Folder.told c.args.folder.now) (g.F.Folder.told c.write_word.new.folder)) (steps_here g c) c.write_word.ensures.prefix)
