-- Faults that `?` hands on, and reads that can't give too few bytes.
use Rattle.std.proofs.Common.{◌≡◌, ◌+◌, ◌≤◌, None, Result, Ok, Err, ap, sym, subst, ◌∙◌}
use Rattle.std.specs.Prelude.{IsErrAnd}
use Rattle.std.specs.Option.{ForSome}
use Rattle.spec_image.specs.Image.{Image}
use Rattle.spec_image.specs.Told.{Told}
use Rattle.blk_io.specs.declared.fault.Damage.{Damage}
use Rattle.blk_io.specs.declared.fault.Fault.{Fault}
use Rattle.blk_io.specs.declared.fault.Fault.TheVariants as fault
use Rattle.blk_io.specs.Faults.{IfDamaged}
use Rattle.blk_lru.proofs.Conditions as conditions
use Rattle.blk_audit.specs.declared.fault.ScanFault.{ScanFault}
use Rattle.blk_audit.specs.declared.fault.ScanFault.TheVariants.{Device, Damaged, Memory}
use Rattle.blk_audit.specs.Faults.{IfScanDamaged, scan_fault}

-- a fault of a call on a folder becomes one of the scan
pub converted : {A B : Type 0} (r : Result A Fault) (q : Result B ScanFault) (e : Fault) (P : Damage → Type 0) → r ≡ Err e → IsErrAnd q (λ (x : ScanFault). x ≡ scan_fault e) → IfDamaged r P → IfScanDamaged q P
converted {A} {B} r (Ok b) e P is same holds = tt
converted {A} {B} r (Err x) e P is same holds =
    let at : IfDamaged {A = A} (Err e) P = subst (λ (s : Result A Fault). IfDamaged s P) is holds in
    subst (λ (y : ScanFault). IfScanDamaged {A = B} (Err y) P) (sym same) (of_fault e at)
  where
    of_fault : (e : Fault) → IfDamaged {A = A} (Err e) P → IfScanDamaged {A = B} (Err (scan_fault e)) P
    of_fault fault.Device at = tt
    of_fault (fault.Damaged damage) at = at

-- a fault of the scan is handed on
pub carried : {A B : Type 0} (r : Result A ScanFault) (q : Result B ScanFault) (e : ScanFault) (P : Damage → Type 0) → r ≡ Err e → IsErrAnd q (λ (x : ScanFault). x ≡ e) → IfScanDamaged r P → IfScanDamaged q P
carried {A} {B} r (Ok b) e P is same holds = tt
carried {A} {B} r (Err x) e P is same holds =
    let at : IfScanDamaged {A = A} (Err e) P = subst (λ (s : Result A ScanFault). IfScanDamaged s P) is holds in
    subst (λ (y : ScanFault). IfScanDamaged {A = B} (Err y) P) (sym same) (of_fault e at)
  where
    of_fault : (e : ScanFault) → IfScanDamaged {A = A} (Err e) P → IfScanDamaged {A = B} (Err e) P
    of_fault Device at = tt
    of_fault (Damaged damage) at = at
    of_fault Memory at = tt

-- what a failed check says, from what it says
pub weaker : {A : Type 0} (r : Result A ScanFault) (P Q : Damage → Type 0) → ((damage : Damage) → P damage → Q damage) → IfScanDamaged r P → IfScanDamaged r Q
weaker {A} (Ok a) P Q by holds = tt
weaker {A} (Err Device) P Q by holds = tt
weaker {A} (Err (Damaged damage)) P Q by holds = by damage holds
weaker {A} (Err Memory) P Q by holds = tt

-- what a call gives only on an opaque folder, after calls that changed nothing: under its own premise, and under one that implies it
pub untold_last : {A : Type 0} (r : Result A ScanFault) {a m : Told} (P Q : Image → Type 0) → ((image : Image) → P image → Q image) → m ≡ a → (ForSome m.files Q → IfScanDamaged r (λ _. m.files ≡ None)) → ForSome a.files P → IfScanDamaged r (λ _. a.files ≡ None)
untold_last r {a} {m} P Q stronger stays untold holds =
    weaker r (λ _. m.files ≡ None) (λ _. a.files ≡ None) (λ damage none. ap (λ (t : Told). t.files) (sym stays) ∙ none)
    (untold (conditions.told_stays Q stays (λ image there. stronger image (holds image there))))

-- what a call gives only on an opaque folder, where `?` hands its fault on
pub untold_on : {A B : Type 0} (r : Result A ScanFault) (q : Result B ScanFault) (e : ScanFault) {a m : Told} (P Q : Image → Type 0) → ((image : Image) → P image → Q image) → m ≡ a → (ForSome m.files Q → IfScanDamaged r (λ _. m.files ≡ None)) → r ≡ Err e → IsErrAnd q (λ (x : ScanFault). x ≡ e) → ForSome a.files P → IfScanDamaged q (λ _. a.files ≡ None)
untold_on r q e {a} {m} P Q stronger stays untold is same holds = carried r q e (λ _. a.files ≡ None) is same (untold_last r P Q stronger stays untold holds)

-- what a call gives only on an opaque folder, where `?` converts the fault of a folder's call
pub untold_converted : {A B : Type 0} (r : Result A Fault) (q : Result B ScanFault) (e : Fault) {a m : Told} (P Q : Image → Type 0) → ((image : Image) → P image → Q image) → m ≡ a → (ForSome m.files Q → IfDamaged r (λ _. m.files ≡ None)) → r ≡ Err e → IsErrAnd q (λ (x : ScanFault). x ≡ scan_fault e) → ForSome a.files P → IfScanDamaged q (λ _. a.files ≡ None)
untold_converted r q e {a} {m} P Q stronger stays untold is same holds = converted r q e (λ _. a.files ≡ None) is same (conditions.untold_last r P Q stronger stays untold holds)
