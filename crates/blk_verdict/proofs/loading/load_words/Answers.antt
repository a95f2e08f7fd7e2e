use Rattle.std.proofs.Common.{◌≡◌, true, Some, Result, sym, ◌∙◌, ap, subst}
use Rattle.std.specs.Option.{ForSome, option_map}
use Rattle.spec_format.specs.Address.{is_address}
use Rattle.spec_format.specs.BlockFiles.{is_among}
use Rattle.spec_format.specs.Headers.{table_length}
use Rattle.spec_folder.specs.Loads as shown
use Rattle.spec_folder.specs.Loads.{held_rule}
use Rattle.spec_folder.specs.Reasons as reasons
use Rattle.spec_folder.specs.View.{store_of}
use Rattle.blk_disk.specs.Tables.{Agrees, is_record_among}
use Rattle.blk_entry.proofs.KeyPlaces.{length_right, ok_weaker}
use Rattle.blk_audit.specs.Chaining.{reached_by}
use Rattle.blk_verdict.specs.Reasons.{reason_of}
use Rattle.blk_audit.specs.Records.{AreWordsOf, IsRightWhereSaid, fields_said}
use Rattle.blk_verdict.specs.Verdicts.{IsVerdict}
use Rattle.blk_verdict.proofs.Joined.{entry_of}
use Rattle.blk_verdict.proofs.VerdictFacts.{reached_is, record_among, right_length, words_drop, words_pass}
use Rattle.blk_verdict.proofs.loading.load_words.Goals as goal

pub load_data-requires-clause-has : goal.load_data-requires-clause-has
load_data-requires-clause-has g c =
    length_right c.args.entry (fields_said c.args.said.now.words) (right_length c.args.node.now.addr c.args.entry c.args.node.now.dirty (fields_said c.args.said.now.words) (ap (option_map reason_of) (sym c.in-None.is) ∙ c.reason_by_words.ensures))

pub returns-in-Some-clause-verdict : goal.returns-in-Some-clause-verdict
returns-in-Some-clause-verdict g c image there agrees are sums named reached =
    let among : is_record_among c.args.files.now c.args.entry ≡ true = record_among c.args.files.now c.args.entry (ap is_address (sym c.word-word.ensures.word) ∙ c.word-word.ensures.address) c.requires.kind c.requires.stands in
    words_drop (store_of image) c.args.node.now.addr c.args.entry c.args.node.now.dirty (fields_said c.args.said.now.words) named (entry_of c.args.files.now image c.args.entry c.args.said.now.words agrees among are) c.in-Some.reason
    (ap (option_map reason_of) (sym c.in-Some.is) ∙ c.reason_by_words.ensures)

pub returns-in-None-clause-verdict : goal.returns-in-None-clause-verdict
returns-in-None-clause-verdict g c =
    ok_weaker c.load_data.result _
    (λ verdict. ForSome (g.F.Folder.told c.args.folder.now).files (λ image. Agrees c.args.files.now image → AreWordsOf image c.args.entry c.args.said.now.words → IsRightWhereSaid image c.args.entry c.args.said.now → (store_of image).node_fields c.args.node.now.addr ≡ Some (record { contents = c.args.entry; dirty = c.args.node.now.dirty })
    → c.args.reached ≡ is_among (reached_by (store_of image) table_length) c.args.entry → IsVerdict (shown.load (store_of image) held_rule c.args.node.now.addr) verdict))
    (λ verdict is image there agrees are sums named reached.
    let among : is_record_among c.args.files.now c.args.entry ≡ true = record_among c.args.files.now c.args.entry (ap is_address (sym c.word-word.ensures.word) ∙ c.word-word.ensures.address) c.requires.kind c.requires.stands in
    let shows = entry_of c.args.files.now image c.args.entry c.args.said.now.words agrees among are in
    subst (λ (r : Result shown.Loaded reasons.Reason). IsVerdict r verdict) (sym (words_pass (store_of image) c.args.node.now.addr c.args.entry c.args.node.now.dirty (fields_said c.args.said.now.words) named shows (ap (option_map reason_of) (sym c.in-None.is) ∙ c.reason_by_words.ensures)))
    (is image there c.args.node.now.dirty agrees sums (reached_is (store_of image) c.args.node.now.addr c.args.entry c.args.node.now.dirty (fields_said c.args.said.now.words) named shows c.args.reached reached)))
    c.load_data.ensures.verdict
