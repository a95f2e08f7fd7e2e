use Rattle.std.proofs.Common.{ℕ, sym, ◌∙◌, ap, subst, add-zero, arith}
use Rattle.spec_image.specs.Told.{Told}
use Rattle.spec_format.specs.Address.{file_selector, place}
use Rattle.blk_io.specs.declared.folder.FileId.TheVariants as FileId
use Rattle.blk_io.specs.Faults.{IsShort}
use Rattle.blk_io.proofs.Carried.{carried, if_damaged_weaker}
use Rattle.spec_folder.specs.View.{store_of}
use Rattle.blk_disk.specs.Tables.{Agrees, is_record_among}
use Rattle.blk_entry.proofs.KeyPlaces.{short_is_cut}
use Rattle.blk_entry.proofs.Windows.{not_external}
use Rattle.blk_audit.proofs.Shown.{record_fits}
use Rattle.blk_lru.proofs.Conditions.{told_stays}
use Rattle.blk_verdict.specs.declared.reason.Reason.TheVariants as reason
use Rattle.blk_verdict.proofs.Joined.{entry_none, load_none}
use Rattle.blk_verdict.proofs.Stored.{not_chosen}
use Rattle.blk_verdict.proofs.VerdictFacts.{dropped}
use Rattle.blk_verdict.proofs.loading.load.Goals as goal

pub returns-in_default-clause-verdict : goal.returns-in_default-clause-verdict
returns-in_default-clause-verdict g c image there agrees named reached =
    dropped _ reason.Contents (load_none (store_of image) c.args.node.now.addr c.args.node.now.contents c.args.node.now.dirty named
    (entry_none c.args.files.now image c.args.node.now.contents agrees (not_chosen (is_record_among c.args.files.now c.args.node.now.contents) c.args.node.now.contents (sym c.in_default.is ∙ c.entry.ensures.entry))))

pub returns-in_err-words-clause-short : goal.returns-in_err-words-clause-short
returns-in_err-words-clause-short g c =
    carried c.read_words.result c.from_residual.result c.in_err-words.field-0.0 _ c.in_err-words.was c.from_residual.ensures.1
    (if_damaged_weaker c.read_words.result _ _
    (λ damage short. record {
      word = c.in-Some.entry;
      at = 0;
      count = 96;
      inside = record { small = omega arith; stands = λ _. c.in-Some.ensures.stands; room = λ _. record_fits c.in-Some.entry c.in-Some.ensures.kind };
      cut = short_is_cut (g.F.Folder.told c.args.folder.now) c.in-Some.entry 0 96 damage (not_external c.in-Some.entry c.in-Some.ensures.kind)
          (subst (λ (p : ℕ). IsShort (g.F.Folder.told c.args.folder.now) (FileId.Block (file_selector c.in-Some.entry)) p 96 damage) (sym (add-zero (place c.in-Some.entry))) short);
    })
    c.read_words.ensures.short)

pub returns-clause-untold : goal.returns-clause-untold
returns-clause-untold g c agrees =
    if_damaged_weaker c.load_words.result _ _ (λ damage none. ap (λ (t : Told). t.files) (sym c.in_ok-words.ensures.reads.stays) ∙ none)
    (c.load_words.ensures.untold (told_stays (Agrees c.args.files.now) c.in_ok-words.ensures.reads.stays agrees))
