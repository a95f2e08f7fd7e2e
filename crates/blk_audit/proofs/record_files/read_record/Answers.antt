use Rattle.blk_io.proofs.Carried.{carried, if_damaged_weaker}
use Rattle.spec_image.specs.Told.{Told}
use Rattle.std.proofs.Common.{◌≡◌, ◌∙◌, ap, sym, true, false}
use Rattle.blk_disk.specs.Tables.{Agrees}
use Rattle.blk_lru.proofs.Conditions.{told_stays}
use Rattle.blk_audit.proofs.Shown.{short_record}
use Rattle.blk_audit.proofs.record_files.read_record.Goals as goal

pub returns-in_err-words-clause-damaged : goal.returns-in_err-words-clause-damaged
returns-in_err-words-clause-damaged g c =
    carried c.read_words.result c.from_residual.result c.in_err-words.field-0.0 _ c.in_err-words.was c.from_residual.ensures.1
    (if_damaged_weaker c.read_words.result _ _ (short_record c.args.files.now (g.F.Folder.told c.args.folder.now) (g.F.Folder.told c.read_words.new.folder) c.args.addr c.read_words.ensures.reads.stays c.requires.kind c.requires.stands) c.read_words.ensures.short)

pub returns-in_err-words-clause-untold : goal.returns-in_err-words-clause-untold
returns-in_err-words-clause-untold g c agrees =
    carried c.read_words.result c.from_residual.result c.in_err-words.field-0.0 _ c.in_err-words.was c.from_residual.ensures.1
    (if_damaged_weaker c.read_words.result _ _ (λ damage none. ap (λ (t : Told). t.files) c.read_words.ensures.reads.stays ∙ none)
    (c.read_words.ensures.untold (told_stays (Agrees c.args.files.now) (sym c.read_words.ensures.reads.stays) agrees)))

pub returns-clause-said : goal.returns-clause-said
returns-clause-said g c image there = record { words = c.in_ok-words.ensures.words image there; hash = λ right. absurd (unsaid right); there = c.in_ok-words.ensures.checked image there }
  where
    unsaid : false ≡ true → ⊥
    unsaid e = cc
