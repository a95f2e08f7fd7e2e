use Rattle.std.proofs.Common.{◌≡◌, ◌/◌, ◌&&◌, Bool, true, ap, sym, ◌∙◌}
use Rattle.std.specs.Prelude.{nat_lt, slice_index}
use Rattle.std.proofs.lemmas.Bool.{lt-ltb}
use Rattle.blk_ranges.specs.ParentMaps.{parent_index_of, has_part_bit}
use Rattle.blk_ranges.proofs.parent_map.ParentMap.has.Goals as goal

pub returns : goal.returns
unfolding parent_index_of
returns c = let inside : nat_lt c.args.part 65536 ≡ true = lt-ltb c.args.part 65536 c.requires in c.has_part_bit.ensures ∙ ap (λ (t : Bool). t && has_part_bit (slice_index c.args.self.now.parts (c.args.part / 8)) c.args.part) (sym inside)
