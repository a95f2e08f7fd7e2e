use Rattle.std.proofs.Common.{◌≡◌, List, ℕ, true, sym, ap, ◌∙◌}
use Rattle.std.proofs.lemmas.List.Folds.{flat_map-map}
use Rattle.spec_image.specs.Bytes.{content}
use Rattle.spec_image.specs.Image.{Block, byte}
use Rattle.spec_format.specs.BlockFiles.{is_among}
use Rattle.blk_disk.specs.Tables.{all_files, blocks_of}
use Rattle.blk_audit.proofs.Carrying.{converted}
use Rattle.blk_inspect.specs.Findings.{findings_text, word_said}
use Rattle.blk_inspect.specs.Texts.{file_words, named_word_line, words_text}
use Rattle.blk_inspect.proofs.HeadWords.{among_linked, file_read, header_there, linked_shown, some_is, unlinked_shown}
use Rattle.blk_inspect.proofs.heads.read_file.Goals as goal

pub returns-then-is_none-clause-found : goal.returns-then-is_none-clause-found
unfolding findings_text
returns-then-is_none-clause-found g c image there agrees =
    sym (unlinked_shown image c.args.file (sym (among_linked c.args.files.now image c.args.file agrees) ∙ sym (some_is (is_among (all_files c.args.files.now) c.args.file) (blocks_of c.args.files.now c.args.file) c.max_entries.result c.max_entries.ensures) ∙ c.if-is_none.ensures))

pub returns-in_err-read_exact-clause-untold : goal.returns-in_err-read_exact-clause-untold
returns-in_err-read_exact-clause-untold g c agrees =
    let among : is_among (all_files c.args.files.now) c.args.file ≡ true = sym (some_is (is_among (all_files c.args.files.now) c.args.file) (blocks_of c.args.files.now c.args.file) c.max_entries.result c.max_entries.ensures) ∙ c.if-is_none.ensures in
    converted c.read_exact.result c.from_residual.result c.in_err-read_exact.field-0.0 _ c.in_err-read_exact.was c.from_residual.ensures.1
    (c.read_exact.ensures.untold (λ image there. header_there c.args.files.now image c.args.file (agrees image there) among))

pub returns-clause-found : goal.returns-clause-found
unfolding findings_text
returns-clause-found g c image there agrees =
    let among : is_among (all_files c.args.files.now) c.args.file ≡ true = sym (some_is (is_among (all_files c.args.files.now) c.args.file) (blocks_of c.args.files.now c.args.file) c.max_entries.result c.max_entries.ensures) ∙ c.if-is_none.ensures in
    sym (flat_map-map (λ word. named_word_line word.0 word.1) word_said c.in_ok-words.words.items)
    ∙ ap words_text (c.in_ok-words.ensures ∙ ap (λ (l : List ℕ). file_words (content l)) c.new.ensures ∙ file_read (byte image (Block c.args.file)) c.read_exact.new.out (c.in_ok-read_exact.ensures.bytes image there))
    ∙ sym (linked_shown image c.args.file (sym (among_linked c.args.files.now image c.args.file agrees) ∙ among))
