use Rattle.std.proofs.Common.{◌≡◌, ◌≤◌, false, map}
use Rattle.std.specs.Option.{ForSome}
use Rattle.spec_image.specs.Told.{Stays}
use Rattle.spec_folder.specs.Loads as shown
use Rattle.blk_disk.specs.Tables.{Agrees}
use Rattle.blk_verdict.specs.Kept.{IsLoadedFrom, is_sought}
use Rattle.blk_verdict.specs.declared.loading.Loaded.{Loaded}
use Rattle.blk_verdict.proofs.Searched.{HoldsBehind, StandsAt, places_left}
use Rattle.blk_verdict.proofs.kept.KeptSoFar.has.Given as goal

abbrev pub invariant-loop-place : goal.invariant-loop-place
invariant-loop-place g l = record {
  stands : StandsAt (map (λ (k : Loaded). k.hash) l.self.kept.items) l.hash l.place;
  looked : ForSome (g.F.Folder.told l.fn.folder).files (λ image. Agrees l.files image → HoldsBehind l.self.kept.items l.hash l.place (λ one. (loaded : shown.Loaded) → IsLoadedFrom image loaded one → is_sought l.sought l.key loaded ≡ false));
  stays : Stays (g.F.Folder.told l.fn.folder) (g.F.Folder.told l.folder);
  later : g.F.Folder.faults l.fn.folder ≤ g.F.Folder.faults l.folder;
}

abbrev pub decreases-loop-place : goal.decreases-loop-place
decreases-loop-place g l = places_left l.place
