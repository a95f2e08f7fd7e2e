use Rattle.std.proofs.Common.{◌≡◌, ℕ, Result, true, inl, sym, subst}
use Rattle.std.specs.Option.{ForSome}
use Rattle.spec_image.specs.Told.{Told}
use Rattle.blk_io.specs.declared.fault.Fault.{Fault}
use Rattle.blk_io.specs.Faults.{IfDamaged}
use Rattle.blk_disk.specs.declared.tables.BlockFiles.{BlockFiles}
use Rattle.blk_disk.specs.Open.{IsOpen}
use Rattle.blk_disk.specs.Tables.{is_node_among}
use Rattle.blk_lru.proofs.Kept.{kept_sealed}
use Rattle.blk_lru.proofs.NodeWords.{node_kind, node_stands}
use Rattle.blk_lru.proofs.Performing.{part_kept}
use Rattle.blk_entry.specs.Marks.{SetsDirty, dirty_change, mark_steps}
use Rattle.blk_object.specs.FailedChecks.{IsFailedCheck}
use Rattle.blk_object.proofs.DamageChecks.{checked-where-stays, record-checked}
use Rattle.blk_object.proofs.marking.set_dirty_word.Goals as goal

module _ {A : Type 0} (files : BlockFiles) (old new : Told) (node mark : ℕ) (stands : is_node_among files node ≡ true) (open_before : ForSome old.files (IsOpen files)) (result : Result A Fault) (sets : SetsDirty files old new node mark result) where
  still-open : ForSome new.files (IsOpen files)
  still-open = part_kept files old new (λ from. mark_steps from node mark) (λ from there. kept_sealed files node (dirty_change mark) from (open_before from there)) sets.silent sets.prefix

  its-cause : IfDamaged result (IsFailedCheck files new)
  its-cause =
      checked-where-stays result files old new _
      (λ damage failed. record-checked files old node _ damage (inl (node_kind files node stands)) (node_stands files node stands) failed)
      sets.unwritten sets.damaged

pub set_clean-requires-clause-kind : goal.set_clean-requires-clause-kind
set_clean-requires-clause-kind g c = node_kind c.args.files.now c.args.node c.requires.stands

pub set_clean-requires-clause-stands : goal.set_clean-requires-clause-stands
set_clean-requires-clause-stands g c = node_stands c.args.files.now c.args.node c.requires.stands

pub set_clean-requires-clause-agrees : goal.set_clean-requires-clause-agrees
set_clean-requires-clause-agrees g c image there = (c.requires.is_open image there).agrees

pub returns-then-mark-eq0-clause-sets : goal.returns-then-mark-eq0-clause-sets
returns-then-mark-eq0-clause-sets g c =
    subst (λ (m : ℕ). SetsDirty c.args.files.now (g.F.Folder.told c.args.folder.now) (g.F.Folder.told c.set_clean.new.f) c.args.node m c.set_clean.result) (sym c.if-mark-eq0.true) c.set_clean.ensures.sets

pub returns-then-mark-eq0-clause-is_open : goal.returns-then-mark-eq0-clause-is_open
returns-then-mark-eq0-clause-is_open g c =
    still-open c.args.files.now (g.F.Folder.told c.args.folder.now) (g.F.Folder.told c.set_clean.new.f) c.args.node 0 c.requires.stands c.requires.is_open c.set_clean.result c.set_clean.ensures.sets

pub returns-then-mark-eq0-clause-damaged : goal.returns-then-mark-eq0-clause-damaged
returns-then-mark-eq0-clause-damaged g c =
    its-cause c.args.files.now (g.F.Folder.told c.args.folder.now) (g.F.Folder.told c.set_clean.new.f) c.args.node 0 c.requires.stands c.requires.is_open c.set_clean.result c.set_clean.ensures.sets

pub set_dirty-requires-clause-kind : goal.set_dirty-requires-clause-kind
set_dirty-requires-clause-kind g c = node_kind c.args.files.now c.args.node c.requires.stands

pub set_dirty-requires-clause-stands : goal.set_dirty-requires-clause-stands
set_dirty-requires-clause-stands g c = node_stands c.args.files.now c.args.node c.requires.stands

pub set_dirty-requires-clause-agrees : goal.set_dirty-requires-clause-agrees
set_dirty-requires-clause-agrees g c image there = (c.requires.is_open image there).agrees

pub returns-else-mark-eq0-clause-is_open : goal.returns-else-mark-eq0-clause-is_open
returns-else-mark-eq0-clause-is_open g c =
    still-open c.args.files.now (g.F.Folder.told c.args.folder.now) (g.F.Folder.told c.set_dirty.new.f) c.args.node c.args.mark c.requires.stands c.requires.is_open c.set_dirty.result c.set_dirty.ensures.sets

pub returns-else-mark-eq0-clause-damaged : goal.returns-else-mark-eq0-clause-damaged
returns-else-mark-eq0-clause-damaged g c =
    its-cause c.args.files.now (g.F.Folder.told c.args.folder.now) (g.F.Folder.told c.set_dirty.new.f) c.args.node c.args.mark c.requires.stands c.requires.is_open c.set_dirty.result c.set_dirty.ensures.sets
