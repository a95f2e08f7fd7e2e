-- In the worked folder a Trim evicts `b` first and then `a`, whose main item is out while its part is listed still: it may crash there.
use Rattle.std.proofs.Common.{◌≡◌, ℕ, List, [], ◌∷◌, ◌++◌, refl, subst, sym, lit<, None, Some, true, codes}
use Rattle.std.specs.Prelude.{not, ◌==◌}
use Rattle.spec_image.specs.Image.{Image}
use Rattle.blk_model.specs.EvictionLaws.{EvictsFirst}
use Rattle.blk_model.specs.Holding.{rest}
use Rattle.blk_model.specs.Items.{main, part}
use Rattle.blk_model.specs.Request.{to_trim}
use Rattle.blk_model.specs.Room.{Group, whole, without}
use Rattle.blk_model.specs.State.{State}
use Rattle.blk_model.proofs.Computing.{computing}
use Rattle.spec_folder.specs.Layout.{Layout}
use Rattle.spec_folder.specs.ListView.{put}
use Rattle.spec_folder.specs.Sound.{words_of}
use Rattle.law_state.specs.Changes.{Finds}
use Rattle.law_state.specs.Commands.{MayStop}
use Rattle.law_state.specs.Keeping.{KeepsUncounted}
use Rattle.law_state.specs.PartlyOut.{IsOneMoreOut, KeepsPartlyOut, chains_but}
use Rattle.law_state.specs.RemovalLaws.{layout_removed}
use Rattle.law_state.proofs.GoingOut.{IsAloneIn, goes-out, unchained, unlisted}
use Rattle.law_state.proofs.Keeping.{kept-held}
use Rattle.law_state.proofs.OneMoreOut.{one-more-goes}
use Rattle.law_state.proofs.PartlyOut.{kept-begin}
use Rattle.law_state.proofs.PartlyOutStops.{own-items-leave, partly-out-groups-stop}
use Rattle.law_state.proofs.Stopping.{stop-evicted}
use Rattle.law_state.proofs.WorkedKept.{worked-keeps}
use Rattle.law_state.proofs.WorkedRemovals.{IsSameWithout, b-ready, b_is_evicted, but_main, each-chain, not-both, without_b}
use Rattle.law_state.proofs.WorkedState.{chain_of, doomed_object, nodes, records, sparse_object, the_parent, the_plain, worked, worked_layout}

-- ---- `b` is out

abbrev first : List Group
first = whole (codes "b") [] ∷ []

abbrev others : List Group
others = whole (codes "a") (0 ∷ []) ∷ []

evicts_both : EvictsFirst worked 100 (to_trim 0) first others
unfolding computing
evicts_both = record { passes = refl; groups = refl }

abbrev left : State
left = record worked { objects = None ∷ Some sparse_object ∷ Some doomed_object ∷ []; uses = part (codes "a") 0 ∷ main (codes "a") ∷ [] }

left-is : without first worked ≡ left
unfolding computing
left-is = refl

abbrev left_layout : Layout
left_layout = layout_removed worked_layout (nodes 2) (records 2)

left-keeps : KeepsUncounted left left_layout (words_of the_plain ++ []) without_b
left-keeps = subst (λ (m : State). KeepsUncounted m left_layout (words_of the_plain ++ []) without_b) left-is b_is_evicted

-- the Trim may crash there
once_evicted : MayStop worked 100 (to_trim 0) without_b
once_evicted = stop-evicted worked 100 (to_trim 0) first others without_b worked-keeps.entries.valid evicts_both
    (subst (λ (m : State). Finds (rest m) without_b) (sym left-is) (left-keeps.sound, kept-held left left_layout (words_of the_plain ++ []) without_b left-keeps))

-- ---- then the main item of `a`

abbrev left_chains : ℕ → List ℕ
left_chains = chains_but chain_of (records 2)

alone_left : IsAloneIn left_chains 0xA782 (records 0)
alone_left = record {
  small = lit< tt;
  alone = refl;
  none = refl;
  others = λ other apart. each-chain (IsSameWithout (λ w. not (w == records 2)) (records 0)) other (λ e. not-both e apart) (λ e. refl) (λ e. refl) refl;
}

parent-here : left_layout.at (nodes 0) ≡ Some the_parent
unfolding put
parent-here = refl

all_left : KeepsPartlyOut left left_layout (λ item. true) left_chains (words_of the_plain ++ []) without_b
all_left = kept-begin left left_layout (words_of the_plain ++ []) without_b left-keeps

abbrev without_main : Image
without_main = unchained (unlisted without_b (nodes 0)) 0xA782

main-goes : IsOneMoreOut left_layout left_chains (main (codes "a")) the_parent without_b without_main
main-goes = goes-out left left_layout (λ item. true) left_chains (words_of the_plain ++ []) without_b all_left b-ready (main (codes "a")) the_parent parent-here (nodes 1 ∷ []) [] refl 0xA782 alone_left

main_is_out : KeepsPartlyOut left left_layout but_main (chains_but left_chains (records 0)) (words_of the_parent ++ words_of the_plain ++ []) without_main
main_is_out = one-more-goes left left_layout (λ item. true) left_chains (words_of the_plain ++ []) (main (codes "a")) the_parent without_b without_main all_left refl refl main-goes

-- so the Trim may crash there, before its second eviction unit is out
trim_stops : MayStop worked 100 (to_trim 0) without_main
trim_stops = partly-out-groups-stop worked 100 (to_trim 0) first [] left_layout 1 sparse_object (0 ∷ []) but_main (chains_but left_chains (records 0)) (words_of the_parent ++ words_of the_plain ++ []) without_main worked-keeps.entries.valid evicts_both
    (unfold computing in refl) refl (unfold computing in refl) (own-items-leave (codes "a")).0 (subst (λ (m : State). KeepsPartlyOut m left_layout but_main (chains_but left_chains (records 0)) (words_of the_parent ++ words_of the_plain ++ []) without_main) (sym left-is) main_is_out)
