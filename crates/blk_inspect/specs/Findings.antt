-- What an inspection reads of a folder, and its printed text.
use Rattle.std.specs.Prelude.{ℕ, List, ◌++◌, length}
use Rattle.std.specs.List.{flat_map}
use Rattle.spec_image.specs.Image.{Image}
use Rattle.spec_folder.specs.View.{entry_at, node_at}
use Rattle.blk_audit.specs.declared.named.WalkedNode.{WalkedNode}
use Rattle.blk_scan.specs.Scans.{dropped_by_told}
use Rattle.blk_scan.specs.declared.scan.Dropped.{Dropped}
use Rattle.blk_scan.specs.declared.scan.Scan.{Scan}
use Rattle.spec_run.specs.Script.{totals_line}
use Rattle.blk_inspect.specs.Texts.{dropped_line, end_line, kept_line, node_line, none_line, part_text, place_line, record_line, text_or_unfinished, unfinished_line, verdict_text, named_word_line}
use Rattle.blk_inspect.specs.declared.findings.Findings.{Findings}
use Rattle.blk_inspect.specs.declared.findings.Findings.TheVariants as findings
use Rattle.blk_inspect.specs.declared.reading.Question.{Question}
use Rattle.blk_inspect.specs.declared.reading.Question.TheVariants as question
use Rattle.blk_inspect.specs.declared.rows.NamedWord.{NamedWord}
use Rattle.blk_inspect.specs.declared.rows.NodeRow.{NodeRow}
use Rattle.blk_inspect.specs.declared.rows.RecordRow.{RecordRow}

-- a word with its name, as the specs have it
abbrev pub word_said : NamedWord → List ℕ × ℕ
word_said word = (word.name.now, word.word)

-- the printed line of a word with its name
abbrev pub word_row_line : NamedWord → List ℕ
word_row_line word = named_word_line word.name.now word.word

-- the printed line of a node
abbrev pub node_row_line : NodeRow → List ℕ
node_row_line row = node_line row.node row.contents row.dirty

-- the printed line of a record
abbrev pub record_row_line : RecordRow → List ℕ
record_row_line row = record_line row.entry row.hash

-- the row of the node at address w of an image
abbrev pub node_row_at : Image → ℕ → NodeRow
node_row_at image w = record { node = w; contents = (node_at image w).contents; dirty = (node_at image w).dirty }

-- the row of a walked node that was read
abbrev pub node_row_said : WalkedNode → NodeRow
node_row_said said = record { node = said.addr; contents = said.contents; dirty = said.dirty }

-- the row of the record at address w of an image
abbrev pub record_row_at : Image → ℕ → RecordRow
record_row_at image w = record { entry = w; hash = (entry_at image w).hash }

-- the printed line of a node or a record that a scan drops
abbrev pub dropped_line_told : Dropped → List ℕ
dropped_line_told one = dropped_line (dropped_by_told one)

-- the printed text of a scan: how many are kept, what is dropped, and the totals
abbrev pub scan_text : Scan → List ℕ
scan_text scan = kept_line (length scan.kept.items) ++ (flat_map dropped_line_told scan.dropped.items ++ totals_line (length scan.kept.items) scan.bytes)

-- the printed text of what was read for an inspection
unfoldable pub findings_text : Findings → List ℕ
findings_text findings.Unfinished = unfinished_line
findings_text findings.Nothing = none_line
findings_text (findings.Words words) = flat_map word_row_line words.items
findings_text (findings.Place addr) = place_line addr
findings_text (findings.Nodes rows) = flat_map node_row_line rows.items ++ end_line (length rows.items)
findings_text (findings.Records rows) = flat_map record_row_line rows.items ++ end_line (length rows.items)
findings_text (findings.Verdict scan) = scan_text scan

-- the printed answer to a question on a folder with an initialized index
abbrev pub finished_text : Question → Image → List ℕ
finished_text (question.OfPart part) image = part_text part image
finished_text question.Verdict image = verdict_text image

-- the printed answer to a question on any folder
abbrev pub question_text : Question → Image → List ℕ
question_text asked image = text_or_unfinished image (finished_text asked image)
