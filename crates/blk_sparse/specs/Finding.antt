-- The search for the parts of an object that are in the range of a command, by their names.
use Rattle.std.specs.Prelude.{◌≡◌, ◌≤◌, ◌<◌, ◌+◌, ◌/◌, ◌%◌, ℕ}
use Rattle.std.specs.declared.option.Option.TheVariants.{None}
use Rattle.blk_model.specs.Sizes.{part_size}
use Rattle.blk_model.specs.State.{Object}
use Rattle.spec_folder.specs.Layout.{Layout}
use Rattle.blk_sparse.specs.declared.finding.PartRecords.{PartRecords}
use Rattle.blk_sparse.specs.Parts.{IsPartFound}

-- the records of the part in which a range begins and, if the range goes on there, of the next part; each None where the object doesn't have that part
pub record ArePartsFound (layout : Layout) (object : Object) (offset count : ℕ) (found : PartRecords) : Type 0 where
  pub first : IsPartFound layout object (offset / part_size) found.first
  pub second : part_size < offset % part_size + count → IsPartFound layout object (offset / part_size + 1) found.second
  pub alone : offset % part_size + count ≤ part_size → found.second ≡ None
