use Rattle.std.proofs.Common.{◌≡◌, ◌<◌, ℕ, false}
use Rattle.std.specs.Prelude.{is_some}
use Rattle.blk_handles.specs.Bindings.{binding_of}
use Rattle.blk_handles.proofs.handles.Handles.least_name.Given as goal

-- the names so far are free
abbrev pub invariant-loop-name : goal.invariant-loop-name
invariant-loop-name l = (name : ℕ) → name < l.name → is_some (binding_of l.self name) ≡ false
