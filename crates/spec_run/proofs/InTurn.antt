-- Commands that are done in turn.
use Rattle.std.proofs.Common.{ℕ, suc, ◌+◌, ◌≡◌, List, [], ◌∷◌, ◌++◌, length, sym, ap, subst, arith, append_assoc}
use Rattle.std.proofs.Math.Nat.{min-eq_left}
use Rattle.std.proofs.lemmas.List.{append-nil, length-append}
use Rattle.spec_image.specs.Told.{Told}
use Rattle.blk_model.specs.State.{State}
use Rattle.spec_run.specs.Run.{Stamped, state_after, state_then}
use Rattle.spec_run.specs.Progress.{Progress, AreNoted}
use Rattle.spec_run.specs.Laws.{RunsGoOnInTurn, NotedCommandsFollow, NoteNumbersAreExact}
use Rattle.spec_run.proofs.CommandStates.{state_after-one}
use Rattle.spec_run.proofs.Composing.{one_more}

-- a run goes on with commands in turn
pub many_more : RunsGoOnInTurn
many_more from opened done [] old mid new there before same =
    let P : List Stamped → Told → Type 0 = λ d t. Progress from opened d old t in
    subst (λ (d : List Stamped). P d new) (sym (append-nil done)) (subst (P done) (sym same) before)
many_more from opened done (c ∷ more) old mid new there before made =
    let next = one_more from opened done old mid made.0 c there before made.1 in
    let grown : length done + 1 + 1 ≡ length (done ++ c ∷ []) + 1 = ap (λ (n : ℕ). n + 1) (sym (length-append done (c ∷ []))) in
    let later = subst (λ (s : State). AreNoted made.0 new s (length (done ++ c ∷ []) + 1) more) (sym (state_after-one opened done c))
    (subst (λ (n : ℕ). AreNoted made.0 new (state_then (state_after opened done) c) n more) grown made.2) in
    subst (λ (d : List Stamped). Progress from opened d old new) (append_assoc done (c ∷ []) more) (many_more from opened (done ++ c ∷ []) more old made.0 new there next later)

-- commands in turn follow each other
pub noted_then : NotedCommandsFollow
unfolding state_after
noted_then old mid new state number [] more first second =
    let none : number + 0 ≡ number = omega arith in
    subst (λ (t : Told). AreNoted t new state number more) first (subst (λ (n : ℕ). AreNoted mid new state n more) none second)
noted_then old mid new state number (c ∷ done) more first second =
    let grown : number + suc (length done) ≡ number + 1 + length done = omega arith in (
      first.0,
      first.1,
      noted_then first.0 mid new (state_then state c) (number + 1) done more first.2
          (subst (λ (n : ℕ). AreNoted mid new (state_after (state_then state c) done) n more) grown second),
    )

-- a note's number is exact below the last value of a u64
pub note_exact : NoteNumbersAreExact
note_exact count below = min-eq_left {n = count} {m = 18446744073709551615} (omega (arith, below))
