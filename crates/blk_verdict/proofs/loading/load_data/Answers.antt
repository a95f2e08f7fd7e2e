use Rattle.std.proofs.Common.{sym, ◌∙◌, ap}
use Rattle.spec_image.specs.Told.{Told}
use Rattle.blk_io.proofs.Carried.{if_damaged_weaker}
use Rattle.spec_folder.specs.View.{store_of}
use Rattle.blk_disk.specs.Tables.{Agrees}
use Rattle.blk_entry.proofs.KeyPlaces.{may_have_parts}
use Rattle.blk_lru.proofs.Conditions.{told_before, told_stays}
use Rattle.blk_audit.specs.Records.{fields_said}
use Rattle.blk_verdict.specs.declared.reason.Reason.TheVariants as reason
use Rattle.blk_verdict.proofs.Joined.{data_no_key}
use Rattle.blk_verdict.proofs.VerdictFacts.{dropped}
use Rattle.blk_verdict.proofs.loading.load_data.Goals as goal

pub has_key-requires : goal.has_key-requires
has_key-requires g c = let parts = may_have_parts c.args.entry c.args.said.now.words.key_len c.requires.has in record { short = parts.1 }

pub load_key-requires-clause-short : goal.load_key-requires-clause-short
load_key-requires-clause-short g c = let parts = may_have_parts c.args.entry c.args.said.now.words.key_len c.requires.has in parts.1

pub returns-then-branch-clause-untold : goal.returns-then-branch-clause-untold
returns-then-branch-clause-untold g c agrees =
    if_damaged_weaker c.load_key.result _ _ (λ damage none. ap (λ (t : Told). t.files) (sym c.in_ok-has_key.ensures.reads.stays) ∙ none)
    (c.load_key.ensures.untold (told_stays (Agrees c.args.files.now) c.in_ok-has_key.ensures.reads.stays agrees)
    (λ image now.
    let there = told_before image c.in_ok-has_key.ensures.reads.stays now in
    sym (c.in_ok-has_key.ensures.key image there c.args.entry (agrees image there)) ∙ c.if-branch.true))

pub returns-else-branch-clause-verdict : goal.returns-else-branch-clause-verdict
returns-else-branch-clause-verdict g c image there dirty agrees sums reached =
    dropped _ reason.KeyPlace (data_no_key (store_of image) c.args.node c.args.entry dirty (fields_said c.args.said.now.words) (sym (c.in_ok-has_key.ensures.key image there c.args.entry agrees) ∙ c.if-branch.false))
