-- States after commands in turn, and the command that is next.
use Rattle.std.proofs.Common.{◌+◌, ◌≡◌, List, [], ◌∷◌, ◌++◌, length, take, drop, refl, ◌∙◌, ap}
use Rattle.std.proofs.Math.Seq.{take-append_seam, take-append-add, drop-append_seam}
use Rattle.blk_model.specs.State.{State}
use Rattle.spec_run.specs.Run.{Stamped, state_after, state_then, state_at, command_after, first_in}

pub state_after-append : (state : State) (xs ys : List Stamped) → state_after state (xs ++ ys) ≡ state_after (state_after state xs) ys
unfolding state_after
state_after-append state [] ys = refl
state_after-append state (x ∷ xs) ys = state_after-append (state_then state x) xs ys

pub state_after-one : (state : State) (xs : List Stamped) (c : Stamped) → state_after state (xs ++ c ∷ []) ≡ state_then (state_after state xs) c
unfolding state_after
state_after-one state xs c = state_after-append state xs (c ∷ [])

pub state_here : (opened : State) (commands done more : List Stamped) → commands ≡ done ++ more → state_at opened commands (length done) ≡ state_after opened done
state_here opened commands done more e = ap (state_after opened) (ap (take (length done)) e ∙ take-append_seam done more)

pub next_here : (commands done more : List Stamped) → commands ≡ done ++ more → command_after commands (length done) ≡ first_in more
next_here commands done more e = ap first_in (ap (drop (length done)) e ∙ drop-append_seam done more)

pub state_next : (opened : State) (commands done more : List Stamped) (c : Stamped) → commands ≡ done ++ c ∷ more
    → state_at opened commands (length done + 1) ≡ state_then (state_after opened done) c
state_next opened commands done more c e =
    ap (state_after opened) (ap (take (length done + 1)) e ∙ take-append-add done (c ∷ more) 1) ∙ state_after-one opened done c
