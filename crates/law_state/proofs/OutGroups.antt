-- An object that no handle names is removed, part after part.
use Rattle.std.proofs.Common.{[], ◌∷◌, sym, ◌∙◌, subst, Some}
use Rattle.blk_model.specs.Effects.{doomed}
use Rattle.blk_model.specs.Room.{whole, without}
use Rattle.blk_model.specs.State.{State}
use Rattle.blk_model.proofs.Doomed.{state_doomed}
use Rattle.spec_folder.specs.Removal.{is_of_another}
use Rattle.law_state.specs.GroupLaws.{gone_nodes, layout_less}
use Rattle.law_state.specs.Keeping.{KeepsUncounted}
use Rattle.law_state.specs.PartlyOut.{OutGroupsAreGone, UnheldOutDoomsEnd}
use Rattle.law_state.proofs.ChangedStates.{same-state, unheld-less}
use Rattle.law_state.proofs.CommandEnding.{dooms-end, groups-turn}
use Rattle.law_state.proofs.GroupsGone.{whole-groups-go}
use Rattle.law_state.proofs.PartlyOut.{partly-out-ends}

pub unheld-out-dooms-end : UnheldOutDoomsEnd
unheld-out-dooms-end state moment request layout unlinked chains image number object passes is here live unheld k =
    let valid = state_doomed state k.valid number object here live in
    subst (λ (m : State). KeepsUncounted m (layout_less layout (gone_nodes state layout (is_of_another object.key)) chains) unlinked image) (sym (same-state state number object k.valid here live unheld valid) ∙ sym (dooms-end state moment request number object passes is here))
    (partly-out-ends state layout unlinked (doomed number state (Some object)).objects (is_of_another object.key) chains image k (unheld-less state number object k.valid here live unheld valid))

pub out-groups-gone : OutGroupsAreGone
out-groups-gone state first layout unlinked chains image number object parts here live unheld k =
    let valid = state_doomed (without first state) k.valid number object here live in
    subst (λ (m : State). KeepsUncounted m (layout_less layout (gone_nodes (without first state) layout (is_of_another object.key)) chains) unlinked image)
    (sym (same-state (without first state) number object k.valid here live unheld valid) ∙ sym (whole-groups-go (without first state) number object parts k.valid here live unheld) ∙ groups-turn state first (whole object.key parts ∷ []))
    (partly-out-ends (without first state) layout unlinked (doomed number (without first state) (Some object)).objects (is_of_another object.key) chains image k (unheld-less (without first state) number object k.valid here live unheld valid))
