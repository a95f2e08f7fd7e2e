-- The views of records and nodes: typed access to the bytes of a window.
use Rattle.std.specs.Prelude.{ℕ, ◌≤◌, List}
use Rattle.std.specs.Borrow.{GName}
use Rattle.std.proofs.Common.{subst, sym}
use Rattle.spec_image.specs.Bytes.{spliced}
use Rattle.spec_image.proofs.Splices.{length-spliced}
use Rattle.spec_format.specs.Records.{entry_size, node_size}
use Rattle.blk_record.specs.declared.entry.EntryView.{EntryView}
use Rattle.blk_record.specs.declared.entry.EntryMut.{EntryMut}
use Rattle.blk_record.specs.declared.node.NodeView.{NodeView}
use Rattle.blk_record.specs.declared.node.NodeMut.{NodeMut}

-- the bytes under each kind of view: of a record or a node, read only or writable
abbrev pub entry_window : EntryView → List ℕ
entry_window view = view.window.now

abbrev pub entry_mut_window : EntryMut → List ℕ
entry_mut_window view = view.window.now

abbrev pub node_window : NodeView → List ℕ
node_window view = view.window.now

abbrev pub node_mut_window : NodeMut → List ℕ
node_mut_window view = view.window.now

-- the reference through which a writable view writes, of a record and of a node
abbrev pub entry_mut_reference : EntryMut → GName
entry_mut_reference view = view.window.ghost_name

abbrev pub node_mut_reference : NodeMut → GName
node_mut_reference view = view.window.ghost_name

-- a writable view with these bytes written into its window from `place` on, of a record and of a node
abbrev pub entry_mut_with : EntryMut → ℕ → List ℕ → EntryMut
entry_mut_with view place bytes = record view {
  window = record view.window { now = spliced place bytes view.window.now };
  enough = subst (λ (n : ℕ). entry_size ≤ n) (sym (length-spliced place bytes view.window.now)) view.enough;
}

abbrev pub node_mut_with : NodeMut → ℕ → List ℕ → NodeMut
node_mut_with view place bytes = record view {
  window = record view.window { now = spliced place bytes view.window.now };
  enough = subst (λ (n : ℕ). node_size ≤ n) (sym (length-spliced place bytes view.window.now)) view.enough;
}
