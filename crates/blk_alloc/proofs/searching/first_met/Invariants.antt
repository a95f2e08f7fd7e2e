use Rattle.std.proofs.Common.{◌≡◌, ◌≤◌, ◌+◌}
use Rattle.std.specs.Option.{ForSome}
use Rattle.spec_format.specs.Maps.{is_block_marked}
use Rattle.blk_alloc.proofs.Rounds.{Seen}
use Rattle.blk_alloc.proofs.searching.first_met.Given as goal

abbrev pub invariant-loop-turn : goal.invariant-loop-turn
invariant-loop-turn g l = record {
  seen : ForSome (g.F.Folder.told l.initial.folder).files (λ image. Seen (is_block_marked image l.file) l.words l.hint l.run l.turn);
  counts : l.steps ≡ l.initial.steps + l.turn;
  stays : g.F.Folder.told l.folder ≡ g.F.Folder.told l.initial.folder;
  later : g.F.Folder.faults l.initial.folder ≤ g.F.Folder.faults l.folder;
}
