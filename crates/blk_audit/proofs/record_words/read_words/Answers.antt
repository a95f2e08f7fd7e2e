use Rattle.std.proofs.Common.{ℕ, add-zero, sym, subst, ◌≡◌, ◌+◌, ◌≤◌, ⊎_elim, arith}
use Rattle.spec_image.specs.Image.{Block, length_of}
use Rattle.spec_format.specs.Address.{file_selector, place}
use Rattle.blk_io.specs.declared.folder.FileId.TheVariants as FileId
use Rattle.blk_io.specs.Faults.{IsShort}
use Rattle.blk_io.proofs.Carried.{carried, if_damaged_weaker}
use Rattle.blk_audit.proofs.Shown.{record_fits}
use Rattle.blk_audit.specs.Records.{AreWordsOf}
use Rattle.blk_audit.proofs.RecordFacts.{are_words}
use Rattle.blk_audit.proofs.record_words.read_words.Goals as goal

pub read_block-requires-clause-inside : goal.read_block-requires-clause-inside
read_block-requires-clause-inside g c = record_fits c.args.entry c.requires.kind

pub returns-clause-words : goal.returns-clause-words
returns-clause-words g c image there =
    subst (AreWordsOf image c.args.entry) (sym c.words_of.ensures)
    (are_words image c.args.entry c.read_block.new.out (g.met.F.Folder.are_bytes c.args.folder.now image there) c.requires.kind (c.in_ok-read_block.ensures.bytes image there))

pub returns-in_err-read_block-clause-short : goal.returns-in_err-read_block-clause-short
returns-in_err-read_block-clause-short g c =
    carried c.read_block.result c.from_residual.result c.in_err-read_block.field-0.0 _ c.in_err-read_block.was c.from_residual.ensures.1
    (if_damaged_weaker c.read_block.result _ _ (λ damage short. subst (λ (p : ℕ). IsShort (g.F.Folder.told c.args.folder.now) (FileId.Block (file_selector c.args.entry)) p 96 damage) (add-zero (place c.args.entry)) short) c.read_block.ensures.short)

pub returns-clause-checked : goal.returns-clause-checked
returns-clause-checked g c image there =
    ⊎_elim (λ (h : place c.args.entry + 0 + 96 ≤ length_of image (Block (file_selector c.args.entry))). omega (arith, h)) (λ (none : ◌≡◌ {A = ℕ} 96 0). absurd (omega (arith, none))) (c.in_ok-read_block.ensures.checked image there)
