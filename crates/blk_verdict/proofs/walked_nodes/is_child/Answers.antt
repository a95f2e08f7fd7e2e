use Rattle.std.proofs.Common.{◌≡◌, ℕ, sym, ◌∙◌, ap, ◌&&◌}
use Rattle.std.specs.Prelude.{◌==◌}
use Rattle.spec_format.specs.Records.{child}
use Rattle.spec_folder.specs.View.{RecordFields, entry_at, fields_of, store_of}
use Rattle.blk_disk.specs.Tables.{is_record_among}
use Rattle.blk_audit.proofs.Truths.{none_by, test_by, value_by}
use Rattle.blk_verdict.proofs.Joined.{entry_none}
use Rattle.blk_verdict.proofs.ListedFacts.{child_is, child_none, entry_shown}
use Rattle.blk_verdict.proofs.walked_nodes.is_child.Goals as goal

pub returns-in_default-clause-child : goal.returns-in_default-clause-child
returns-in_default-clause-child g c image there agrees are fields =
    sym (child_none (store_of image) c.args.node.now.addr c.args.node.now.contents c.args.node.now.dirty fields
    (entry_none c.args.files.now image c.args.node.now.contents agrees (none_by (is_record_among c.args.files.now c.args.node.now.contents) c.args.node.now.contents (sym c.in_default.is ∙ c.entry.ensures.entry))))

pub returns-clause-child : goal.returns-clause-child
returns-clause-child g c image there agrees are fields =
    let named : c.in-Some.entry ≡ c.args.node.now.contents = value_by (is_record_among c.args.files.now c.args.node.now.contents) c.args.node.now.contents c.in-Some.entry (sym c.in-Some.is ∙ c.entry.ensures.entry) in
    let among = test_by (is_record_among c.args.files.now c.args.node.now.contents) c.args.node.now.contents c.in-Some.entry (sym c.in-Some.is ∙ c.entry.ensures.entry) in
    let said = c.in_ok-said.ensures.said image there are in
    c.is_part-is.ensures ∙ ap (λ (f : RecordFields). f.checks && (f.flags == child)) (said.words.fields ∙ ap (λ (w : ℕ). fields_of (entry_at image w)) named)
    ∙ sym (child_is (store_of image) c.args.node.now.addr c.args.node.now.contents c.args.node.now.dirty _ fields (entry_shown c.args.files.now image c.args.node.now.contents agrees among))
