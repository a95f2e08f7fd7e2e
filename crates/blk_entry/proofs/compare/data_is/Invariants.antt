use Rattle.std.proofs.Common.{◌≡◌, ◌⊎◌, ◌+◌, ◌-◌, ◌%◌, ◌≤◌, ◌↔◌, length}
use Rattle.std.specs.Option.{ForSome}
use Rattle.spec_image.specs.Image.{HasRange}
use Rattle.spec_image.specs.Told.{Stays}
use Rattle.blk_entry.specs.Keys.{IsInside, data_at, data_file, data_start}
use Rattle.blk_entry.proofs.compare.data_is.Given as goal

abbrev pub invariant-loop-rest : goal.invariant-loop-rest
invariant-loop-rest g l = record {
  told : Stays (g.F.Folder.told l.initial.folder) (g.F.Folder.told l.folder);
  later : g.F.Folder.faults l.initial.folder ≤ g.F.Folder.faults l.folder;
  order : l.at ≤ l.place;
  sum : l.place + length l.rest ≡ l.at + length l.bytes;
  pieces : ((l.place - l.at) % 16398 ≡ 0) ⊎ (length l.rest ≡ 0);
  inside : IsInside l.files l.addr l.place (length l.rest);
  there : ForSome (g.F.Folder.told l.initial.folder).files (λ image. HasRange image (data_file l.addr) (data_start l.addr + l.at) (l.place - l.at) ⊎ (l.place ≡ l.at));
  same : ForSome (g.F.Folder.told l.initial.folder).files (λ image. (l.rest ≡ data_at image l.addr l.place (length l.rest)) ↔ (l.bytes ≡ data_at image l.addr l.at (length l.bytes)));
}

abbrev pub decreases-loop-rest : goal.decreases-loop-rest
decreases-loop-rest g l = length l.rest
