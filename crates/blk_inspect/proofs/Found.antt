-- What is found in a folder, and why it is corrupt.
use Rattle.std.proofs.Common.{◌≡◌, Bool, true, false, if◌then◌else◌, List, ℕ, Result, length, ◌++◌, inl, inr, refl, sym, ap, subst, ◌∙◌}
use Rattle.std.specs.List.{flat_map}
use Rattle.std.specs.Option.{ForSome}
use Rattle.std.proofs.lemmas.List.{length-map}
use Rattle.std.proofs.lemmas.List.Folds.{flat_map-map}
use Rattle.spec_image.specs.Image.{Image}
use Rattle.spec_image.specs.Told.{Told}
use Rattle.spec_format.specs.Headers.{IsUnfinished, unfinished}
use Rattle.spec_format.proofs.HeaderLemmas.{unfinished_agrees}
use Rattle.blk_io.specs.declared.fault.Damage.{Damage}
use Rattle.spec_folder.specs.Found.{dropped, kept}
use Rattle.blk_disk.specs.declared.tables.BlockFiles.{BlockFiles}
use Rattle.blk_disk.specs.Tables.{Agrees}
use Rattle.blk_audit.specs.declared.fault.ScanFault.{ScanFault}
use Rattle.blk_audit.specs.Faults.{IfScanDamaged}
use Rattle.blk_audit.proofs.Carrying.{weaker}
use Rattle.blk_verdict.specs.Reasons.{reason_number, reason_of}
use Rattle.blk_verdict.specs.declared.reason.Reason.{Reason}
use Rattle.blk_verdict.specs.declared.reason.Reason.TheVariants as reason
use Rattle.blk_scan.specs.Scans.{IsScanOf, dropped_by_told, kept_as_told}
use Rattle.blk_scan.specs.declared.scan.Scan.{Scan}
use Rattle.spec_run.specs.Script.{totals_line}
use Rattle.blk_inspect.specs.Findings.{dropped_line_told, findings_text, finished_text, question_text, scan_text}
use Rattle.blk_inspect.specs.Inspecting.{IsFinishedDamage, IsInspectReadDamage}
use Rattle.blk_inspect.specs.Texts.{dropped_line, kept_line, number_of_reason, unfinished_line, verdict_text}
use Rattle.blk_inspect.specs.declared.findings.Findings.{Findings}
use Rattle.blk_inspect.specs.declared.findings.Findings.TheVariants as findings
use Rattle.blk_inspect.specs.declared.reading.Question.{Question}

is_true : (b : Bool) → b ≡ true → (x y : List ℕ) → x ≡ (if b then x else y)
is_true true e x y = refl
is_true false e x y = cc

is_false : (b : Bool) → (b ≡ true → ⊥) → (x y : List ℕ) → y ≡ (if b then x else y)
is_false true never x y = absurd (never refl)
is_false false never x y = refl

-- an uninitialized folder
pub unfinished_shown : (asked : Question) (image : Image) → IsUnfinished image → findings_text findings.Unfinished ≡ question_text asked image
unfolding findings_text
unfinished_shown asked image un = is_true (unfinished image) ((unfinished_agrees image).1 un) unfinished_line (finished_text asked image)

-- an initialized one
pub finished_shown : (found : Findings) (asked : Question) (image : Image) → (IsUnfinished image → ⊥) → findings_text found ≡ finished_text asked image → findings_text found ≡ question_text asked image
finished_shown found asked image finished is = is ∙ is_false (unfinished image) (λ e. finished ((unfinished_agrees image).0 e)) unfinished_line (finished_text asked image)

-- a failed check of what is read by the block files that agree with it has its cause
pub reading_cause : {A : Type 0} (r : Result A ScanFault) (files : BlockFiles) (a b c : Told) → b ≡ a → c ≡ b → ForSome b.files (Agrees files) → IfScanDamaged r (IsInspectReadDamage files c) → IfScanDamaged r (IsFinishedDamage a)
reading_cause r files a b c before after agrees cause =
    weaker r (IsInspectReadDamage files c) (IsFinishedDamage a)
    (λ damage is. by_cause damage (subst (λ (t : Told). IsInspectReadDamage files t damage) (after ∙ before) is)) cause
  where
    by_cause : (damage : Damage) → IsInspectReadDamage files a damage → IsFinishedDamage a damage
    by_cause damage (inl head) = inl head
    by_cause damage (inr scan) = inr (inr (record {
      files = files;
      agrees = subst (λ (t : Told). ForSome t.files (Agrees files)) before agrees;
      cause = scan;
    }))

-- what is printed of a scan is what is to be printed of its folder
pub scan_shown : (image : Image) (scan : Scan) → IsScanOf image scan → scan_text scan ≡ verdict_text image
unfolding verdict_text
scan_shown image scan is =
    let many : length scan.kept.items ≡ length (kept image) = ap length is.kept_told ∙ length-map (kept image) kept_as_told in
    let lines : flat_map dropped_line_told scan.dropped.items ≡ flat_map dropped_line (dropped image) = sym (flat_map-map dropped_line dropped_by_told scan.dropped.items) ∙ ap (flat_map dropped_line) is.dropped_told in
    λ i. kept_line (many i) ++ (lines i ++ totals_line (many i) (is.bytes i))

-- a reason in memory has the number of the reason that it is
pub reason_known : (why : Reason) → reason_number why ≡ number_of_reason (reason_of why)
reason_known reason.Contents = refl
reason_known reason.Seal = refl
reason_known reason.State = refl
reason_known reason.Back = refl
reason_known reason.Flags = refl
reason_known reason.Dirty = refl
reason_known reason.KeyLength = refl
reason_known reason.KeyPlace = refl
reason_known reason.Hash = refl
reason_known reason.Chain = refl
reason_known reason.Streams = refl
reason_known reason.Sparse = refl
reason_known reason.Claimed = refl
reason_known reason.Name = refl
reason_known reason.Parent = refl
reason_known reason.Unlisted = refl
