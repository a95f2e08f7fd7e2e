use Rattle.std.proofs.Common.{inr}
use Rattle.blk_audit.proofs.Carrying.{carried, weaker}
use Rattle.blk_inspect.specs.Findings.{findings_text}
use Rattle.blk_inspect.proofs.Found.{scan_shown}
use Rattle.blk_inspect.proofs.reading.read_verdict.Goals as goal

pub returns-clause-found : goal.returns-clause-found
unfolding findings_text
returns-clause-found g c image there is_open = scan_shown image c.in_ok-scan.scan (c.in_ok-scan.ensures.scanned image there is_open.agrees)

pub returns-in_err-scan-clause-damaged : goal.returns-in_err-scan-clause-damaged
returns-in_err-scan-clause-damaged g c = carried c.scan_files.result c.from_residual.result c.in_err-scan.field-0.0 _ c.in_err-scan.was c.from_residual.ensures.1 (weaker c.scan_files.result _ _ (λ damage d. inr d) c.scan_files.ensures.damaged)

pub returns-in_err-scan-clause-untold : goal.returns-in_err-scan-clause-untold
returns-in_err-scan-clause-untold g c is_open = carried c.scan_files.result c.from_residual.result c.in_err-scan.field-0.0 _ c.in_err-scan.was c.from_residual.ensures.1 (c.scan_files.ensures.untold is_open)
