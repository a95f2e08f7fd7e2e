use Rattle.std.proofs.Common.{◌≡◌, ℕ, List, Some, sym, ◌∙◌, ap, subst}
use Rattle.std.specs.Option.{ForSome}
use Rattle.spec_image.specs.Told.{Told}
use Rattle.spec_format.specs.BlockFiles.{is_among}
use Rattle.spec_format.specs.Headers.{table_length}
use Rattle.blk_io.proofs.Carried.{carried, if_damaged_weaker}
use Rattle.spec_folder.specs.Loads as shown
use Rattle.spec_folder.specs.Loads.{held_rule}
use Rattle.spec_folder.specs.View.{store_of}
use Rattle.blk_disk.specs.Tables.{Agrees, is_record_among}
use Rattle.blk_entry.proofs.KeyPlaces.{ok_weaker}
use Rattle.blk_lru.proofs.Conditions.{told_now, told_stays}
use Rattle.blk_audit.specs.Chaining.{reached_by}
use Rattle.blk_audit.specs.ReadLists.{AreListsOf, IsSaidAt}
use Rattle.blk_audit.proofs.Truths.{none_by, value_by}
use Rattle.blk_verdict.specs.PartNames.{IsNameInPrefix}
use Rattle.blk_verdict.specs.Verdicts.{IsVerdict}
use Rattle.blk_verdict.specs.declared.reason.Reason.TheVariants as reason
use Rattle.blk_verdict.proofs.Joined.{entry_none, load_none}
use Rattle.blk_verdict.proofs.ListedFacts.{cut_record}
use Rattle.blk_verdict.proofs.VerdictFacts.{dropped}
use Rattle.blk_verdict.proofs.walked_nodes.load_walked.Goals as goal

pub returns-in_default-clause-verdict : goal.returns-in_default-clause-verdict
returns-in_default-clause-verdict g c image there agrees are fields =
    dropped _ reason.Contents (load_none (store_of image) c.args.node.now.addr c.args.node.now.contents c.args.node.now.dirty fields
    (entry_none c.args.files.now image c.args.node.now.contents agrees (none_by (is_record_among c.args.files.now c.args.node.now.contents) c.args.node.now.contents (sym c.in_default.is ∙ c.entry.ensures.entry))))

pub returns-in_err-said-clause-short : goal.returns-in_err-said-clause-short
returns-in_err-said-clause-short g c =
    carried c.record_at.result c.from_residual.result c.in_err-said.field-0.0 _ c.in_err-said.was c.from_residual.ensures.1
    (if_damaged_weaker c.record_at.result _ _ (cut_record c.args.files.now (g.F.Folder.told c.args.folder.now) (g.F.Folder.told c.record_at.new.folder) c.record_at.ensures.reads.stays) c.record_at.ensures.damaged)

pub returns-in_err-said-clause-untold : goal.returns-in_err-said-clause-untold
returns-in_err-said-clause-untold g c agrees =
    carried c.record_at.result c.from_residual.result c.in_err-said.field-0.0 _ c.in_err-said.was c.from_residual.ensures.1
    (if_damaged_weaker c.record_at.result _ _ (λ damage none. ap (λ (t : Told). t.files) (sym c.record_at.ensures.reads.stays) ∙ none)
    (c.record_at.ensures.untold (told_stays (Agrees c.args.files.now) c.record_at.ensures.reads.stays agrees)))

pub returns-clause-verdict : goal.returns-clause-verdict
returns-clause-verdict g c =
    ok_weaker c.load_words.result _
    (λ verdict. ForSome (g.F.Folder.told c.args.folder.now).files (λ image. Agrees c.args.files.now image → AreListsOf image c.args.lists.now → IsSaidAt image c.args.node.now → IsVerdict (shown.load (store_of image) held_rule c.args.node.now.addr) verdict))
    (λ verdict is image there agrees are fields.
    let named : c.in-Some.entry ≡ c.args.node.now.contents = value_by (is_record_among c.args.files.now c.args.node.now.contents) c.args.node.now.contents c.in-Some.entry (sym c.in-Some.is ∙ c.entry.ensures.entry) in
    let said = c.in_ok-said.ensures.said image there are in
    is image (told_now image c.in_ok-said.ensures.reads.stays there) agrees said.words said.hash
    (subst (λ (w : ℕ). (store_of image).node_fields c.args.node.now.addr ≡ Some (record { contents = w; dirty = c.args.node.now.dirty })) (sym named) fields)
    (c.contains-reached.ensures are.known ∙ ap (λ (words : List ℕ). is_among words c.word.result) are.reached ∙ ap (is_among (reached_by (store_of image) table_length)) c.word.ensures.word))
    c.load_words.ensures.verdict

pub returns-clause-untold : goal.returns-clause-untold
returns-clause-untold g c agrees =
    if_damaged_weaker c.load_words.result _ _ (λ damage none. ap (λ (t : Told). t.files) (sym c.in_ok-said.ensures.reads.stays) ∙ none)
    (c.load_words.ensures.untold (told_stays (Agrees c.args.files.now) c.in_ok-said.ensures.reads.stays agrees))

pub returns-clause-named : goal.returns-clause-named
returns-clause-named g c =
    ok_weaker c.load_words.result _
    (λ verdict. ForSome (g.F.Folder.told c.args.folder.now).files (λ image. Agrees c.args.files.now image → IsNameInPrefix image verdict c.load_words.new.name))
    (λ verdict is image there agrees. is image (told_now image c.in_ok-said.ensures.reads.stays there) agrees)
    c.load_words.ensures.named
