-- Failed checks, as the callers see them.
use Rattle.blk_disk.specs.Tables.{is_node_among}
use Rattle.std.proofs.Common.{◌⊎◌, ◌+◌, arith, ◌≡◌, ℕ, Result, Ok, Err, subst, sym, true}
use Rattle.spec_image.specs.Told.{Told, Stays}
use Rattle.spec_format.specs.Address.{file_selector, place}
use Rattle.spec_format.specs.Records.{node_size}
use Rattle.spec_format.specs.Sealed.{record_size}
use Rattle.spec_format.proofs.SealedRecords.{node_bytes}
use Rattle.blk_io.specs.declared.folder.FileId.TheVariants as names
use Rattle.blk_io.specs.declared.fault.Damage.{Damage}
use Rattle.blk_io.specs.declared.fault.Fault.{Fault}
use Rattle.blk_io.specs.declared.fault.Fault.TheVariants.{Device, Damaged}
use Rattle.blk_io.specs.Faults.{IfDamaged, IsShort}
use Rattle.blk_disk.specs.declared.tables.BlockFiles.{BlockFiles}
use Rattle.blk_disk.specs.Unsealed.{IsUnsealed}
use Rattle.blk_lru.specs.Damages.{IsShortNode, IsWrongNode}
use Rattle.blk_lru.proofs.NodeWords.{node_kind}

-- what holds of a failed check may be weaker
pub if_damaged_weaker : {A : Type 0} {P Q : Damage → Type 0} (r : Result A Fault) → ((d : Damage) → P d → Q d) → IfDamaged r P → IfDamaged r Q
if_damaged_weaker (Ok a) weaker holds = tt
if_damaged_weaker (Err Device) weaker holds = tt
if_damaged_weaker (Err (Damaged damage)) weaker holds = weaker damage holds

-- a node is read too short, or has a wrong checksum, and nothing was written
pub short_or_unsealed : {A : Type 0} (r : Result A Fault) (files : BlockFiles) (old new : Told) (w : ℕ) → is_node_among files w ≡ true
    → IfDamaged r (λ damage. IsShort old (names.Block (file_selector w)) (place w) (record_size w) damage ⊎ IsUnsealed old w damage) → IfDamaged r (λ _. Stays old new) → IfDamaged r (IsWrongNode files new)
short_or_unsealed (Ok a) files old new w stands holds stays = tt
short_or_unsealed (Err Device) files old new w stands holds stays = tt
short_or_unsealed (Err (Damaged damage)) files old new w stands holds stays = record {
  node = w;
  stands = stands;
  failed = subst (λ (t : Told). IsShort t (names.Block (file_selector w)) (place w) node_size damage ⊎ IsUnsealed t w damage) (sym stays)
      (subst (λ (n : ℕ). IsShort old (names.Block (file_selector w)) (place w) n damage ⊎ IsUnsealed old w damage) (node_bytes w (node_kind files w stands)) holds);
}

-- a node is read too short
pub short_node : {A : Type 0} (r : Result A Fault) (files : BlockFiles) (old new : Told) (w : ℕ) → is_node_among files w ≡ true → Stays old new
    → IfDamaged r (IsShort old (names.Block (file_selector w)) (place w + 0) node_size) → IfDamaged r (IsShortNode files new)
short_node r files old new w stands stays holds = if_damaged_weaker r few holds
  where
    at_place : place w + 0 ≡ place w
    at_place = omega arith

    few : (damage : Damage) → IsShort old (names.Block (file_selector w)) (place w + 0) node_size damage → IsShortNode files new damage
    few damage short = record {
      node = w;
      stands = stands;
      short = subst (λ (t : Told). IsShort t (names.Block (file_selector w)) (place w) node_size damage) (sym stays)
          (subst (λ (n : ℕ). IsShort old (names.Block (file_selector w)) n node_size damage) at_place short);
    }
