use Rattle.std.proofs.Common.{List, ℕ, add-zero, sym, ap, subst, ◌∙◌}
use Rattle.std.proofs.lemmas.List.Folds.{flat_map-map}
use Rattle.spec_image.specs.Bytes.{content}
use Rattle.spec_image.specs.Told.{Told}
use Rattle.spec_format.specs.Address.{file_selector, place}
use Rattle.spec_format.specs.Records.{entry_in}
use Rattle.spec_folder.specs.View.{entry_at}
use Rattle.blk_io.specs.declared.folder.FileId.TheVariants as names
use Rattle.blk_io.specs.Faults.{IsShort}
use Rattle.blk_io.proofs.Carried.{if_damaged_weaker}
use Rattle.blk_disk.specs.Tables.{is_record_among}
use Rattle.blk_audit.proofs.Carrying.{converted}
use Rattle.blk_audit.proofs.Shown.{names_stand, record_fits}
use Rattle.blk_inspect.specs.Findings.{findings_text, word_said}
use Rattle.blk_inspect.specs.Texts.{record_words, named_word_line, words_text}
use Rattle.blk_inspect.proofs.HeadWords.{gave, gave_none, no_record_shown, record_read, record_shown}
use Rattle.blk_inspect.proofs.heads.read_record.Goals as goal

pub returns-in_default-clause-found : goal.returns-in_default-clause-found
unfolding findings_text
returns-in_default-clause-found g c image there agrees =
    sym (no_record_shown image c.args.word (sym (names_stand c.args.files.now image c.args.word agrees) ∙ gave_none (is_record_among c.args.files.now c.args.word) c.args.word c.entry.result c.entry.ensures.entry c.in_default.is))

pub read_block-requires-clause-inside : goal.read_block-requires-clause-inside
read_block-requires-clause-inside g c = record_fits c.in-Some.entry c.in-Some.ensures.kind

pub returns-in_err-read_block-clause-damaged : goal.returns-in_err-read_block-clause-damaged
returns-in_err-read_block-clause-damaged g c =
    converted c.read_block.result c.from_residual.result c.in_err-read_block.field-0.0 _ c.in_err-read_block.was c.from_residual.ensures.1
    (if_damaged_weaker c.read_block.result _ _
    (λ damage short. record {
      entry = c.in-Some.entry;
      kind = c.in-Some.ensures.kind;
      stands = c.in-Some.ensures.stands;
      short = subst (λ (t : Told). IsShort t (names.Block (file_selector c.in-Some.entry)) (place c.in-Some.entry) 96 damage) (sym c.read_block.ensures.reads.stays)
          (subst (λ (p : ℕ). IsShort (g.F.Folder.told c.args.folder.now) (names.Block (file_selector c.in-Some.entry)) p 96 damage) (add-zero (place c.in-Some.entry)) short);
    }) c.read_block.ensures.short)

pub returns-clause-found : goal.returns-clause-found
unfolding findings_text
returns-clause-found g c image there agrees =
    let both = gave (is_record_among c.args.files.now c.args.word) c.args.word c.entry.result c.in-Some.entry c.entry.ensures.entry c.in-Some.is in
    sym (flat_map-map (λ word. named_word_line word.0 word.1) word_said c.in_ok-words.words.items)
    ∙ ap words_text (c.in_ok-words.ensures ∙ ap (λ (l : List ℕ). record_words (entry_in (content l) 0)) c.new.ensures
    ∙ record_read image c.in-Some.entry c.read_block.new.out c.in-Some.ensures.kind (c.in_ok-read_block.ensures.bytes image there) ∙ ap (λ (w : ℕ). record_words (entry_at image w)) both.1)
    ∙ sym (record_shown image c.args.word (sym (names_stand c.args.files.now image c.args.word agrees) ∙ both.0))
