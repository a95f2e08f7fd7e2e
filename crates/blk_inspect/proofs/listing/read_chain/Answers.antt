use Rattle.std.proofs.Common.{inr, ap, subst, sym, ◌∙◌, arith}
use Rattle.blk_disk.specs.Tables.{Agrees}
use Rattle.blk_disk.specs.Open.{IsOpen}
use Rattle.blk_lru.proofs.Conditions.{told_now}
use Rattle.blk_audit.specs.Chaining.{RecordsStand}
use Rattle.blk_audit.proofs.Carrying.{carried, untold_on, weaker}
use Rattle.blk_inspect.specs.Findings.{findings_text}
use Rattle.blk_inspect.specs.Texts.{chain_text, listed_text, record_line_at}
use Rattle.blk_inspect.proofs.Listed.{bucket_stands, records_shown}
use Rattle.blk_inspect.proofs.listing.read_chain.Goals as goal

pub records_of-requires : goal.records_of-requires
records_of-requires g c = c.in_ok-lists.ensures.stand.buckets

pub record_rows-requires : goal.record_rows-requires
record_rows-requires g c = record { stand = subst (RecordsStand c.args.files.now) (sym c.records_of.ensures) (bucket_stands c.args.files.now c.in_ok-lists.lists.reached c.args.bucket c.in_ok-lists.ensures.stand.records) }

pub returns-clause-found : goal.returns-clause-found
unfolding findings_text chain_text
returns-clause-found g c image there agrees =
    let are = c.in_ok-lists.ensures.lists image there agrees in
    records_shown image c.records_of.result.now c.in_ok-rows.rows.items (c.in_ok-rows.ensures.rows image (told_now image c.in_ok-lists.ensures.reads.stays there) are)
    ∙ ap (listed_text (record_line_at image)) (c.records_of.ensures ∙ are.buckets.chains c.args.bucket (omega (arith, c.ranges.bucket.fits)))

pub returns-in_err-lists-clause-damaged : goal.returns-in_err-lists-clause-damaged
returns-in_err-lists-clause-damaged g c = carried c.read_lists.result c.from_residual.result c.in_err-lists.field-0.0 _ c.in_err-lists.was c.from_residual.ensures.1 c.read_lists.ensures.damaged

pub returns-in_err-lists-clause-untold : goal.returns-in_err-lists-clause-untold
returns-in_err-lists-clause-untold g c is_open = carried c.read_lists.result c.from_residual.result c.in_err-lists.field-0.0 _ c.in_err-lists.was c.from_residual.ensures.1 (c.read_lists.ensures.untold is_open)

pub returns-in_err-rows-clause-damaged : goal.returns-in_err-rows-clause-damaged
returns-in_err-rows-clause-damaged g c =
    carried c.record_rows.result c.from_residual-in_err-rows.result c.in_err-rows.field-0.0 _ c.in_err-rows.was c.from_residual-in_err-rows.ensures.1 (weaker c.record_rows.result _ _ (λ damage d. inr (inr (inr d))) c.record_rows.ensures.damaged)

pub returns-in_err-rows-clause-untold : goal.returns-in_err-rows-clause-untold
returns-in_err-rows-clause-untold g c =
    untold_on c.record_rows.result c.from_residual-in_err-rows.result c.in_err-rows.field-0.0 {a = g.F.Folder.told c.args.folder.now} (IsOpen c.args.files.now) (Agrees c.args.files.now) (λ image is_open. is_open.agrees) c.in_ok-lists.ensures.reads.stays c.record_rows.ensures.untold
    c.in_err-rows.was c.from_residual-in_err-rows.ensures.1
