-- An object is removed with its parts.
use Rattle.std.proofs.Common.{[], ◌∷◌, ◌++◌, sym, ◌∙◌, subst, Some}
use Rattle.blk_model.specs.Effects.{doomed}
use Rattle.blk_model.specs.Room.{whole, without}
use Rattle.blk_model.specs.State.{State}
use Rattle.blk_model.proofs.Doomed.{state_doomed}
use Rattle.spec_folder.specs.Removal.{is_of_another}
use Rattle.law_state.specs.Keeping.{KeepsUncounted}
use Rattle.law_state.specs.WholeRemovals.{UnheldWholeDoomsEnd, WholeGroupsGo, WholeObjectsAreRemoved, layout_without_key, words_of_key}
use Rattle.law_state.proofs.ChangedStates.{same-state, unheld-less}
use Rattle.law_state.proofs.CommandEnding.{dooms-end, groups-turn}
use Rattle.law_state.proofs.Groups.{gone-items}
use Rattle.law_state.proofs.GroupsGone.{whole-groups-go}

pub whole-removed : WholeObjectsAreRemoved
whole-removed state layout unlinked chains from image number object k here live unheld out =
    let valid = state_doomed state k.valid number object here live in
    subst (λ (m : State). KeepsUncounted m (layout_without_key state layout object.key chains) (words_of_key state layout object.key ++ unlinked) image) (sym (same-state state number object k.valid here live unheld valid))
    (gone-items state layout unlinked (doomed number state (Some object)).objects (is_of_another object.key) chains from image k (unheld-less state number object k.valid here live unheld valid) out)

pub unheld-whole-dooms-end : UnheldWholeDoomsEnd
unheld-whole-dooms-end state moment request layout unlinked chains from image number object k passes is here live unheld out =
    subst (λ (m : State). KeepsUncounted m (layout_without_key state layout object.key chains) (words_of_key state layout object.key ++ unlinked) image) (sym (dooms-end state moment request number object passes is here))
    (whole-removed state layout unlinked chains from image number object k here live unheld out)

pub groups-go : WholeGroupsGo
groups-go state first layout unlinked chains from image number object parts k here live unheld out =
    subst (λ (m : State). KeepsUncounted m (layout_without_key (without first state) layout object.key chains) (words_of_key (without first state) layout object.key ++ unlinked) image)
    (sym (whole-groups-go (without first state) number object parts k.valid here live unheld) ∙ groups-turn state first (whole object.key parts ∷ []))
    (whole-removed (without first state) layout unlinked chains from image number object k here live unheld out)
