-- Faults that are handed on as those of an opening.
use Rattle.std.proofs.Common.{◌≡◌, Result, Ok, Err, sym, ap, subst, ◌∙◌}
use Rattle.std.specs.Prelude.{IsErrAnd}
use Rattle.std.proofs.lemmas.Result.{err_from_is_err_and}
use Rattle.blk_io.specs.declared.fault.Damage.{Damage}
use Rattle.blk_io.specs.declared.fault.Fault.{Fault}
use Rattle.blk_io.specs.declared.fault.Fault.TheVariants as fault
use Rattle.blk_io.specs.Faults.{IfDamaged, IfDevice}
use Rattle.blk_audit.specs.declared.fault.ScanFault.{ScanFault}
use Rattle.blk_audit.specs.declared.fault.ScanFault.TheVariants as scan
use Rattle.blk_audit.specs.Faults.{IfScanDamaged, IfScanDevice}
use Rattle.blk_cache.specs.declared.fault.OpenFault.{OpenFault}
use Rattle.blk_cache.specs.declared.fault.OpenFault.TheVariants.{Device, Damaged, Memory}
use Rattle.blk_cache.specs.Opening.{IfOpenDamaged, IfOpenDevice, IfOpenMemory, of_fault, of_scan_fault}

-- an answer that is this fault
is-err : {B : Type 0} (q : Result B OpenFault) (o : OpenFault) → IsErrAnd q (λ (x : OpenFault). x ≡ o) → q ≡ Err o
is-err q o is = let p = err_from_is_err_and q is in p.1 ∙ ap (λ (x : OpenFault). Err x) p.2

-- what is claimed of a fault holds of an opening that hands it on
module _ {B : Type 0} (q : Result B OpenFault) (e : Fault) (is : IsErrAnd q (λ (x : OpenFault). x ≡ of_fault e)) where
  pub damaged-on : (P : Damage → Type 0) → IfDamaged {A = Damage} (Err e) P → IfOpenDamaged q P
  damaged-on P h = subst (λ (r : Result B OpenFault). IfOpenDamaged r P) (sym (is-err q (of_fault e) is)) (by_fault e h) where
    by_fault : (e : Fault) → IfDamaged {A = Damage} (Err e) P → IfOpenDamaged {A = B} (Err (of_fault e)) P
    by_fault fault.Device h = tt
    by_fault (fault.Damaged damage) h = h

  pub device-on : (P : Type 0) → IfDevice {A = Damage} (Err e) P → IfOpenDevice q P
  device-on P h = subst (λ (r : Result B OpenFault). IfOpenDevice r P) (sym (is-err q (of_fault e) is)) (by_fault e h) where
    by_fault : (e : Fault) → IfDevice {A = Damage} (Err e) P → IfOpenDevice {A = B} (Err (of_fault e)) P
    by_fault fault.Device h = h
    by_fault (fault.Damaged damage) h = tt

-- a fault of a folder isn't out of memory
pub no-memory : {B : Type 0} (q : Result B OpenFault) (e : Fault) (P : Type 0) → IsErrAnd q (λ (x : OpenFault). x ≡ of_fault e) → IfOpenMemory q P
no-memory {B = B} q e P is = subst (λ (r : Result B OpenFault). IfOpenMemory r P) (sym (is-err q (of_fault e) is)) (by_fault e) where
  by_fault : (e : Fault) → IfOpenMemory {A = B} (Err (of_fault e)) P
  by_fault fault.Device = tt
  by_fault (fault.Damaged damage) = tt

-- the same of a fault of a scan
module _ {B : Type 0} (q : Result B OpenFault) (e : ScanFault) (is : IsErrAnd q (λ (x : OpenFault). x ≡ of_scan_fault e)) where
  pub scan-damaged-on : (P : Damage → Type 0) → IfScanDamaged {A = Damage} (Err e) P → IfOpenDamaged q P
  scan-damaged-on P h = subst (λ (r : Result B OpenFault). IfOpenDamaged r P) (sym (is-err q (of_scan_fault e) is)) (by_fault e h) where
    by_fault : (e : ScanFault) → IfScanDamaged {A = Damage} (Err e) P → IfOpenDamaged {A = B} (Err (of_scan_fault e)) P
    by_fault scan.Device h = tt
    by_fault (scan.Damaged damage) h = h
    by_fault scan.Memory h = tt

  pub scan-device-on : (P : Type 0) → IfScanDevice {A = Damage} (Err e) P → IfOpenDevice q P
  scan-device-on P h = subst (λ (r : Result B OpenFault). IfOpenDevice r P) (sym (is-err q (of_scan_fault e) is)) (by_fault e h) where
    by_fault : (e : ScanFault) → IfScanDevice {A = Damage} (Err e) P → IfOpenDevice {A = B} (Err (of_scan_fault e)) P
    by_fault scan.Device h = h
    by_fault (scan.Damaged damage) h = tt
    by_fault scan.Memory h = tt

-- what holds in any case holds when out of memory, and of any failed check
pub if-memory : {B : Type 0} (q : Result B OpenFault) (P : Type 0) → P → IfOpenMemory q P
if-memory (Ok b) P h = tt
if-memory (Err Device) P h = tt
if-memory (Err (Damaged damage)) P h = tt
if-memory (Err Memory) P h = h

pub if-damaged : {B : Type 0} (q : Result B OpenFault) (P : Damage → Type 0) → ((damage : Damage) → P damage) → IfOpenDamaged q P
if-damaged (Ok b) P h = tt
if-damaged (Err Device) P h = tt
if-damaged (Err (Damaged damage)) P h = h damage
if-damaged (Err Memory) P h = tt

pub open-damaged-weaker : {B : Type 0} (q : Result B OpenFault) (P Q : Damage → Type 0) → ((damage : Damage) → P damage → Q damage) → IfOpenDamaged q P → IfOpenDamaged q Q
open-damaged-weaker (Ok b) P Q f h = tt
open-damaged-weaker (Err Device) P Q f h = tt
open-damaged-weaker (Err (Damaged damage)) P Q f h = f damage h
open-damaged-weaker (Err Memory) P Q f h = tt

-- where a premise leads to a claim on a failed check, the failed check has the claim under the premise
pub open-damaged-where : {B : Type 0} (q : Result B OpenFault) (A : Type 0) (P : Damage → Type 0) → (A → IfOpenDamaged q P) → IfOpenDamaged q (λ damage. A → P damage)
open-damaged-where (Ok b) A P h = tt
open-damaged-where (Err Device) A P h = tt
open-damaged-where (Err (Damaged damage)) A P h = h
open-damaged-where (Err Memory) A P h = tt

pub open-memory-weaker : {B : Type 0} (q : Result B OpenFault) (P Q : Type 0) → (P → Q) → IfOpenMemory q P → IfOpenMemory q Q
open-memory-weaker (Ok b) P Q f h = tt
open-memory-weaker (Err Device) P Q f h = tt
open-memory-weaker (Err (Damaged damage)) P Q f h = tt
open-memory-weaker (Err Memory) P Q f h = f h

-- a fault of an opening that is handed on
module _ {B : Type 0} (q : Result B OpenFault) (e : OpenFault) (is : IsErrAnd q (λ (x : OpenFault). x ≡ e)) where
  pub open-damaged-on : (P : Damage → Type 0) → IfOpenDamaged {A = Damage} (Err e) P → IfOpenDamaged q P
  open-damaged-on P h = subst (λ (r : Result B OpenFault). IfOpenDamaged r P) (sym (is-err q e is)) (by_fault e h) where
    by_fault : (e : OpenFault) → IfOpenDamaged {A = Damage} (Err e) P → IfOpenDamaged {A = B} (Err e) P
    by_fault Device h = tt
    by_fault (Damaged damage) h = h
    by_fault Memory h = tt

  pub open-device-on : (P : Type 0) → IfOpenDevice {A = Damage} (Err e) P → IfOpenDevice q P
  open-device-on P h = subst (λ (r : Result B OpenFault). IfOpenDevice r P) (sym (is-err q e is)) (by_fault e h) where
    by_fault : (e : OpenFault) → IfOpenDevice {A = Damage} (Err e) P → IfOpenDevice {A = B} (Err e) P
    by_fault Device h = h
    by_fault (Damaged damage) h = tt
    by_fault Memory h = tt

  pub open-memory-on : (P : Type 0) → IfOpenMemory {A = Damage} (Err e) P → IfOpenMemory q P
  open-memory-on P h = subst (λ (r : Result B OpenFault). IfOpenMemory r P) (sym (is-err q e is)) (by_fault e h) where
    by_fault : (e : OpenFault) → IfOpenMemory {A = Damage} (Err e) P → IfOpenMemory {A = B} (Err e) P
    by_fault Device h = tt
    by_fault (Damaged damage) h = tt
    by_fault Memory h = h

-- out of memory was the fault
pub of-memory : {B : Type 0} (q : Result B OpenFault) → IsErrAnd q (λ (x : OpenFault). x ≡ Memory) → (P : Damage → Type 0) → IfOpenDamaged q P
of-memory {B = B} q is P = subst (λ (r : Result B OpenFault). IfOpenDamaged r P) (sym (is-err q Memory is)) tt

pub of-memory-device : {B : Type 0} (q : Result B OpenFault) → IsErrAnd q (λ (x : OpenFault). x ≡ Memory) → (P : Type 0) → IfOpenDevice q P
of-memory-device {B = B} q is P = subst (λ (r : Result B OpenFault). IfOpenDevice r P) (sym (is-err q Memory is)) tt
