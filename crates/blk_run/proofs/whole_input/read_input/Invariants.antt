use Rattle.blk_run.specs.Telling.{ReadsAs}
use Rattle.std.proofs.Common.{◌≡◌, ◌≤◌, ◌-◌, length, Some}
use Rattle.std.specs.Option.{ForSome}
use Rattle.blk_run.specs.WholeInputs.{IsTakenSoFar}
use Rattle.blk_run.proofs.whole_input.read_input.Given as goal

abbrev pub invariant-loop-len : goal.invariant-loop-len
invariant-loop-len g l = record {
  buffer : length l.buffer ≡ 1048577;
  within : l.len ≤ 1048577;
  taken : ForSome (g.S.Source.left l.initial.input) (IsTakenSoFar l.len (g.S.Source.left l.input) l.buffer);
  given : ReadsAs (g.S.Source.left l.initial.input) (g.S.Source.left l.input) (λ bytes rest. IsTakenSoFar l.len (Some rest) l.buffer bytes);
  later : g.S.Source.faults l.initial.input ≤ g.S.Source.faults l.input;
}

abbrev pub decreases-loop-len : goal.decreases-loop-len
decreases-loop-len g l = 1048577 - l.len
