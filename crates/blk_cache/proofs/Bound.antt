-- What names are bound to is valid among the block files.
use Rattle.std.proofs.Common.{◌≡◌, ⊎_elim, ℕ, Bool, true, false, refl, Option, Some, None, subst, set}
use Rattle.std.specs.Prelude.{unwrap_or}
use Rattle.spec_image.proofs.Runs.{some_inj}
use Rattle.blk_disk.specs.declared.tables.BlockFiles.{BlockFiles}
use Rattle.blk_disk.specs.Tables.{is_node_among, is_record_among}
use Rattle.blk_handles.specs.Bindings.{Binding, Bindings, binding_for, binding_of, open_with}
use Rattle.blk_handles.proofs.BindingLemmas.{open_with-named}
use Rattle.blk_cache.specs.BoundNames.{AreBoundAmong}
use Rattle.blk_cache.proofs.NamedObjects.{set-cases}

-- so does what is open
pub open-stands : (files : BlockFiles) (bindings : Bindings) → AreBoundAmong files bindings → (entry : ℕ) (b : Binding) → open_with bindings entry ≡ Some b → (is_node_among files b.node ≡ true) × (is_record_among files b.entry ≡ true)
open-stands files bindings stand entry b e = let n = open_with-named bindings entry b e in stand n.0 b n.1

-- and what a name is to be bound to
pub bound-stands : (files : BlockFiles) (bindings : Bindings) → AreBoundAmong files bindings → (entry node : ℕ) (dirty : Bool) → is_node_among files node ≡ true → is_record_among files entry ≡ true
    → (is_node_among files (binding_for bindings entry node dirty).node ≡ true) × (is_record_among files (binding_for bindings entry node dirty).entry ≡ true)
bound-stands files bindings stand entry node dirty good named = by_open (open_with bindings entry) (open-stands files bindings stand entry) where
  by_open : (o : Option Binding) → ((b : Binding) → o ≡ Some b → (is_node_among files b.node ≡ true) × (is_record_among files b.entry ≡ true))
      → let c : Binding = unwrap_or o (record { entry = entry; node = node; doomed = false; dirty = dirty }) in (is_node_among files c.node ≡ true) × (is_record_among files c.entry ≡ true)
  by_open None all = (good, named)
  by_open (Some b) all = all b refl

-- once a name is bound to what is valid, all are
pub still-stand : (files : BlockFiles) (bindings : Bindings) → AreBoundAmong files bindings → (name : ℕ) (b : Binding) → (is_node_among files b.node ≡ true) × (is_record_among files b.entry ≡ true) → AreBoundAmong files (set bindings name (Some b))
still-stand files bindings stand name b good other c here = ⊎_elim
    (λ (h : (other ≡ name) × (◌≡◌ {A = Option Binding} (Some b) (Some c))). subst (λ (x : Binding). (is_node_among files x.node ≡ true) × (is_record_among files x.entry ≡ true)) (some_inj h.1) good)
    (λ (h : binding_of bindings other ≡ Some c). stand other c h)
    (set-cases bindings name (Some b) other c here)

-- and once a name is free
pub free-stand : (files : BlockFiles) (bindings : Bindings) → AreBoundAmong files bindings → (name : ℕ) → AreBoundAmong files (set bindings name None)
free-stand files bindings stand name other c here = ⊎_elim
    (λ (h : (other ≡ name) × (◌≡◌ {A = Option Binding} None (Some c))). absurd (let z : ◌≡◌ {A = Option Binding} None (Some c) = h.1 in cc))
    (λ (h : binding_of bindings other ≡ Some c). stand other c h)
    (set-cases bindings name None other c here)
