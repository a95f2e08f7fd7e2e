-- Faults that are handed on, and what an answer says.
use Rattle.std.proofs.Common.{◌≡◌, ℕ, List, Result, Ok, Err, refl, sym, subst}
use Rattle.std.specs.Prelude.{IsErrAnd}
use Rattle.std.specs.declared.option.Option.{Option}
use Rattle.std.specs.Option.{ForSome}
use Rattle.spec_image.specs.Image.{Image}
use Rattle.spec_format.specs.BlockFiles.{IsDamagedBy}
use Rattle.blk_io.specs.declared.fault.Damage.{Damage}
use Rattle.blk_io.specs.Faults.{damage_of}
use Rattle.blk_audit.specs.declared.fault.ScanFault.{ScanFault}
use Rattle.blk_audit.specs.declared.fault.ScanFault.TheVariants as scan
use Rattle.blk_audit.specs.Faults.{IfScanDamaged, IfScanDevice}
use Rattle.blk_inspect.specs.Inspecting.{AnswersFor, IfInspectDamaged, IfInspectDevice, IfInspectSink, PrintsAt, UnlessSink, inspect_fault}
use Rattle.blk_inspect.specs.declared.fault.InspectFault.{InspectFault}
use Rattle.blk_inspect.specs.declared.fault.InspectFault.TheVariants.{Sink}

-- what holds of each fault of a scan holds of it as one of an inspection
by_fault : {A B : Type 0} (r : Result A ScanFault) (q : Result B InspectFault) (e : ScanFault) (P : Result B InspectFault → Type 0) → r ≡ Err e → IsErrAnd q (λ (x : InspectFault). x ≡ inspect_fault e) → ((fault : ScanFault) → r ≡ Err fault → P (Err (inspect_fault fault))) → P q
by_fault {A} {B} r (Ok b) e P is same each = absurd same
by_fault {A} {B} r (Err x) e P is same each = subst (λ (y : InspectFault). P (Err y)) (sym same) (each e is)

-- where what was read is not there, nothing is printed
pub none_printed : {A B : Type 0} (r : Result A ScanFault) (q : Result B InspectFault) (e : ScanFault) (text : List ℕ) (old : Option (List ℕ)) → r ≡ Err e → IsErrAnd q (λ (x : InspectFault). x ≡ inspect_fault e) → PrintsAt q text old old
none_printed {A} {B} r q e text old is same = by_fault r q e (λ s. PrintsAt s text old old) is same each
  where
    each : (fault : ScanFault) → r ≡ Err fault → PrintsAt {A = B} (Err (inspect_fault fault)) text old old
    each scan.Device at = refl
    each (scan.Damaged damage) at = refl
    each scan.Memory at = refl

pub unprinted : {A B : Type 0} (r : Result A ScanFault) (q : Result B InspectFault) (e : ScanFault) (old : Option (List ℕ)) → r ≡ Err e → IsErrAnd q (λ (x : InspectFault). x ≡ inspect_fault e) → UnlessSink q (old ≡ old)
unprinted {A} {B} r q e old is same = by_fault r q e (λ s. UnlessSink s (old ≡ old)) is same each
  where
    each : (fault : ScanFault) → r ≡ Err fault → UnlessSink {A = B} (Err (inspect_fault fault)) (old ≡ old)
    each scan.Device at = refl
    each (scan.Damaged damage) at = refl
    each scan.Memory at = refl

-- the folder decides the answer
pub answered : {A B : Type 0} (r : Result A ScanFault) (q : Result B InspectFault) (e : ScanFault) (files : Option Image) → r ≡ Err e → IsErrAnd q (λ (x : InspectFault). x ≡ inspect_fault e) → IfScanDamaged r (λ damage. ForSome files (IsDamagedBy (damage_of damage))) → ForSome files (AnswersFor q)
answered {A} {B} r q e files is same damaged = by_fault r q e (λ s. ForSome files (AnswersFor s)) is same each
  where
    each : (fault : ScanFault) → r ≡ Err fault → ForSome files (AnswersFor {A = B} (Err (inspect_fault fault)))
    each scan.Device at image there = tt
    each (scan.Damaged damage) at image there = (subst (λ (s : Result A ScanFault). IfScanDamaged s (λ d. ForSome files (IsDamagedBy (damage_of d)))) at damaged) image there
    each scan.Memory at image there = tt

-- a failed check has its cause
pub caused : {A B : Type 0} (r : Result A ScanFault) (q : Result B InspectFault) (e : ScanFault) (P : Damage → Type 0) → r ≡ Err e → IsErrAnd q (λ (x : InspectFault). x ≡ inspect_fault e) → IfScanDamaged r P → IfInspectDamaged q P
caused {A} {B} r q e P is same cause = by_fault r q e (λ s. IfInspectDamaged s P) is same each
  where
    each : (fault : ScanFault) → r ≡ Err fault → IfInspectDamaged {A = B} (Err (inspect_fault fault)) P
    each scan.Device at = tt
    each (scan.Damaged damage) at = subst (λ (s : Result A ScanFault). IfScanDamaged s P) at cause
    each scan.Memory at = tt

-- so has a failure of the folder
pub failed : {A B : Type 0} (r : Result A ScanFault) (q : Result B InspectFault) (e : ScanFault) (P : Type 0) → r ≡ Err e → IsErrAnd q (λ (x : InspectFault). x ≡ inspect_fault e) → IfScanDevice r P → IfInspectDevice q P
failed {A} {B} r q e P is same cause = by_fault r q e (λ s. IfInspectDevice s P) is same each
  where
    each : (fault : ScanFault) → r ≡ Err fault → IfInspectDevice {A = B} (Err (inspect_fault fault)) P
    each scan.Device at = subst (λ (s : Result A ScanFault). IfScanDevice s P) at cause
    each (scan.Damaged damage) at = tt
    each scan.Memory at = tt

-- no output failed
pub no_sink : {A B : Type 0} (r : Result A ScanFault) (q : Result B InspectFault) (e : ScanFault) (P : Type 0) → r ≡ Err e → IsErrAnd q (λ (x : InspectFault). x ≡ inspect_fault e) → IfInspectSink q P
no_sink {A} {B} r q e P is same = by_fault r q e (λ s. IfInspectSink s P) is same each
  where
    each : (fault : ScanFault) → r ≡ Err fault → IfInspectSink {A = B} (Err (inspect_fault fault)) P
    each scan.Device at = tt
    each (scan.Damaged damage) at = tt
    each scan.Memory at = tt

-- what holds where the output failed
pub at_sink : {B : Type 0} (q : Result B InspectFault) (P : Result B InspectFault → Type 0) → IsErrAnd q (λ (x : InspectFault). x ≡ Sink) → P (Err Sink) → P q
at_sink {B} (Ok b) P same holds = absurd same
at_sink {B} (Err x) P same holds = subst (λ (y : InspectFault). P (Err y)) (sym same) holds
