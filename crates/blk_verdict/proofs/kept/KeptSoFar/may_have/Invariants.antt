use Rattle.std.proofs.Common.{◌≡◌, false, map}
use Rattle.blk_verdict.specs.Kept.{is_role_sought}
use Rattle.blk_verdict.specs.declared.loading.Loaded.{Loaded}
use Rattle.blk_verdict.proofs.Searched.{HoldsBehind, StandsAt, places_left}
use Rattle.blk_verdict.proofs.kept.KeptSoFar.may_have.Given as goal

abbrev pub invariant-loop-place : goal.invariant-loop-place
invariant-loop-place l = record {
  stands : StandsAt (map (λ (k : Loaded). k.hash) l.self.kept.items) l.hash l.place;
  looked : HoldsBehind l.self.kept.items l.hash l.place (λ one. one.key_len ≡ l.key_len → is_role_sought l.sought one.role ≡ false);
}

abbrev pub decreases-loop-place : goal.decreases-loop-place
decreases-loop-place l = places_left l.place
