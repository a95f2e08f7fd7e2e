use Rattle.std.proofs.Common.{◌∙◌, ap, ◌%◌, ◌^◌, ℕ, inl}
use Rattle.std.proofs.lemmas.Result.{on_ok_weaker}
use Rattle.spec_image.proofs.Quiet.{passes_any}
use Rattle.blk_io.proofs.Carried.{if_damaged_weaker}
use Rattle.blk_repair.specs.Counters.{index_steps}
use Rattle.blk_repair.proofs.CounterRuns.{index-open}
use Rattle.blk_repair.proofs.EndingRuns.{rest-ends, rest-may, seals-break}
use Rattle.blk_repair.proofs.Endings.{breaks-weaker}
use Rattle.blk_repair.proofs.PartRuns.{rest-made}
use Rattle.blk_repair.proofs.Progress.{stays-open}
use Rattle.blk_repair.proofs.RepairRuns.{links-mid, none-before, on_ok-both, rest-clean, rest-done, seals-next, still-told}
use Rattle.blk_repair.proofs.repairing.mend_rest.Goals as goal

pub returns-in_err-seal_records-clause-stops : goal.returns-in_err-seal_records-clause-stops
returns-in_err-seal_records-clause-stops g c from there entry next =
    inl (breaks-weaker
    (seals-break (g.F.Folder.told c.args.folder.now) (g.F.Folder.told c.seal_records.new.folder) c.bare.result.now entry from there (seals-next c.args.scan.now c.bare.result.now c.bare.ensures entry from next) c.seal_records.ensures.prefix.made) (links-mid entry))

pub returns-clause-mended : goal.returns-clause-mended
returns-clause-mended g c =
    on_ok-both c.mend_index.result
    (λ mended words from there entry next.
    rest-done c.args.scan.now c.bare.result.now c.bare.ensures (g.F.Folder.told c.args.folder.now) (g.F.Folder.told c.seal_records.new.folder) entry from there next
    (passes_any (c.seal_records.ensures.stops from there entry (seals-next c.args.scan.now c.bare.result.now c.bare.ensures entry from next))) (g.F.Folder.told c.mend_index.new.folder) c.low_word-items.result c.bytes-bytes.result c.args.this_id
    (c.low_word-items.ensures ∙ ap (λ (n : ℕ). n % 2 ^ 32) c.items.ensures) c.bytes-bytes.ensures
    (c.in_ok-seal_records.ensures.sealed from there entry (seals-next c.args.scan.now c.bare.result.now c.bare.ensures entry from next)) mended words) c.mend_index.ensures.mended c.mend_index.ensures.words

pub returns-clause-stops : goal.returns-clause-stops
returns-clause-stops g c from there entry next =
    rest-may c.args.scan.now c.bare.result.now c.bare.ensures (g.F.Folder.told c.args.folder.now) (g.F.Folder.told c.seal_records.new.folder) (g.F.Folder.told c.mend_index.new.folder) entry from there next
    (seals-break (g.F.Folder.told c.args.folder.now) (g.F.Folder.told c.seal_records.new.folder) c.bare.result.now entry from there (seals-next c.args.scan.now c.bare.result.now c.bare.ensures entry from next) c.seal_records.ensures.prefix.made)
    c.low_word-items.result c.bytes-bytes.result c.args.this_id (c.low_word-items.ensures ∙ ap (λ (n : ℕ). n % 2 ^ 32) c.items.ensures) c.bytes-bytes.ensures c.mend_index.ensures.fits c.ranges.this_id.fits
    (λ mid here. (c.seal_records.ensures.is_open mid here).whole_index) (c.in_ok-seal_records.ensures.sealed from there entry (seals-next c.args.scan.now c.bare.result.now c.bare.ensures entry from next)) c.mend_index.ensures.prefix.made

pub returns-clause-last : goal.returns-clause-last
returns-clause-last g c =
    on_ok_weaker c.mend_index.result
    (λ made from there entry next.
    rest-ends c.args.scan.now c.bare.result.now c.bare.ensures (g.F.Folder.told c.args.folder.now) (g.F.Folder.told c.seal_records.new.folder) (g.F.Folder.told c.mend_index.new.folder) entry from there next
    (seals-break (g.F.Folder.told c.args.folder.now) (g.F.Folder.told c.seal_records.new.folder) c.bare.result.now entry from there (seals-next c.args.scan.now c.bare.result.now c.bare.ensures entry from next) c.seal_records.ensures.prefix.made)
    c.low_word-items.result c.bytes-bytes.result c.args.this_id (c.low_word-items.ensures ∙ ap (λ (n : ℕ). n % 2 ^ 32) c.items.ensures) c.bytes-bytes.ensures c.mend_index.ensures.fits c.ranges.this_id.fits
    (λ mid here. (c.seal_records.ensures.is_open mid here).whole_index) (c.in_ok-seal_records.ensures.sealed from there entry (seals-next c.args.scan.now c.bare.result.now c.bare.ensures entry from next)) made) c.mend_index.ensures.steps

pub returns-clause-is_open : goal.returns-clause-is_open
returns-clause-is_open g c =
    stays-open c.args.files.now (g.F.Folder.told c.seal_records.new.folder) (g.F.Folder.told c.mend_index.new.folder) (index_steps c.low_word-items.result c.bytes-bytes.result c.args.this_id) (index-open c.args.files.now c.low_word-items.result c.bytes-bytes.result c.args.this_id)
    c.seal_records.ensures.is_open c.mend_index.ensures.prefix.made c.mend_index.ensures.prefix.silent

pub returns-clause-untold : goal.returns-clause-untold
returns-clause-untold g c some =
    if_damaged_weaker c.mend_index.result _ _
    (λ damage none.
    none-before (g.F.Folder.told c.args.folder.now) (g.F.Folder.told c.seal_records.new.folder)
    (λ from there. still-told from there (passes_any (c.seal_records.ensures.stops from there (some from there).0 (seals-next c.args.scan.now c.bare.result.now c.bare.ensures (some from there).0 from (some from there).1)))) none) c.mend_index.ensures.untold

pub returns-clause-clean : goal.returns-clause-clean
returns-clause-clean g c =
    on_ok_weaker c.mend_index.result
    (λ made from there entry next needs.
    rest-clean c.args.scan.now entry from (g.F.Folder.told c.args.folder.now) (g.F.Folder.told c.seal_records.new.folder) (g.F.Folder.told c.mend_index.new.folder) c.bare.result.now c.low_word-items.result c.bytes-bytes.result c.args.this_id c.bare.ensures
    (c.low_word-items.ensures ∙ ap (λ (n : ℕ). n % 2 ^ 32) c.items.ensures) c.bytes-bytes.ensures there next needs.bare (c.in_ok-seal_records.ensures.steps from there) made) c.mend_index.ensures.steps

pub returns-clause-steps : goal.returns-clause-steps
returns-clause-steps g c =
    on_ok_weaker c.mend_index.result
    (λ made from there entry next.
    rest-made c.args.scan.now entry from (g.F.Folder.told c.mend_index.new.folder) c.bare.result.now c.low_word-items.result c.bytes-bytes.result c.args.this_id c.bare.ensures
    (c.low_word-items.ensures ∙ ap (λ (n : ℕ). n % 2 ^ 32) c.items.ensures) c.bytes-bytes.ensures there next (c.in_ok-seal_records.ensures.steps from there) made) c.mend_index.ensures.steps
