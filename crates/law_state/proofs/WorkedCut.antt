-- The stream of the worked folder's doomed object is cut to nothing, as a Write does: its word is unlinked then.
use Rattle.std.proofs.Common.{◌≡◌, ◌⊎◌, inl, inr, ⊎_elim, ℕ, [], ◌∷◌, ◌++◌, refl, subst, arith, true, false, Some}
use Rattle.std.specs.Prelude.{◌==◌}
use Rattle.std.specs.List.Sorted.{IsPermutation}
use Rattle.std.proofs.lemmas.List.Sorted.{IsPermutation-middle}
use Rattle.blk_model.specs.Effects.{with_slot}
use Rattle.blk_model.specs.Holding.{rest}
use Rattle.blk_model.specs.Request.{to_write}
use Rattle.blk_model.specs.State.{IsValidState, Object, State}
use Rattle.blk_model.specs.Step.{step}
use Rattle.blk_model.proofs.Computing.{computing}
use Rattle.blk_model.proofs.StopRows.{codes_are_bytes}
use Rattle.blk_model.proofs.Steps.{step_valid}
use Rattle.spec_format.specs.Address.{block_count, external_number, file_selector, first_block, kind_of}
use Rattle.spec_format.specs.Claims.{claims_of, has_claim, repeats}
use Rattle.spec_folder.specs.Footprint.{IsFreeBut}
use Rattle.spec_folder.specs.Sound.{words_of}
use Rattle.spec_folder.specs.Loads.{Loaded, all_claims, record_claims}
use Rattle.law_state.specs.Changes.{Finds}
use Rattle.law_state.specs.Keeping.{KeepsUncounted}
use Rattle.law_state.specs.ObjectLaws.{layout_after}
use Rattle.law_state.proofs.LaidOut.{IsClaimant, claimant}
use Rattle.law_state.proofs.Objects.{changed-doomed-kept, doomed-find}
use Rattle.law_state.proofs.WorkedKept.{worked-keeps, worked_folder}
use Rattle.law_state.proofs.WorkedMarks.{doomed-placed}
use Rattle.law_state.proofs.WorkedRecord.{emptied, emptied-are, emptied-loads, emptied-only, emptied-sealed, emptied_folder}
use Rattle.law_state.proofs.WorkedState.{all_four, doomed_object, nodes, records, the_doomed, worked, worked-valid, worked_layout}
use Rattle.law_folder.proofs.states.Marking.{repeats-apart}

abbrev pub cut_object : Object
cut_object = record doomed_object { streams = ([], [], []) }

abbrev pub cut : State
cut = with_slot 2 (Some cut_object) worked

-- that is what a Write of nothing at its beginning leaves, with a cut
cut-is : (step worked 100 (to_write 5 0 0 true [])).state ≡ cut
unfolding computing
cut-is = refl

cut-valid : IsValidState cut
cut-valid = subst IsValidState cut-is (step_valid worked 100 (to_write 5 0 0 true []) worked-valid (omega arith, omega arith, omega arith, codes_are_bytes [] tt))

-- no other has a block of its record
abbrev IsNoOther's : ℕ → Loaded → Type 0
IsNoOther's node loaded = (node ≡ nodes 3) ⊎ (repeats (all_claims loaded ++ claims_of (records 3)) ≡ false)

others : IsFreeBut (nodes 3) (has_claim (claims_of (records 3))) worked_layout
unfolding repeats has_claim all_claims record_claims claims_of kind_of block_count file_selector first_block external_number
others claim node owner other = let c : IsClaimant IsNoOther's claim node = claimant IsNoOther's all_four (inr refl, (inr refl, (inr refl, (inl refl, tt)))) claim node owner in
    ⊎_elim (λ (e : node ≡ nodes 3). absurd (let z : true ≡ false = subst (λ (n : ℕ). (nodes 3 == n) ≡ false) e other in cc))
    (λ (once : repeats (all_claims c.loaded ++ claims_of (records 3)) ≡ false). repeats-apart (all_claims c.loaded) (claims_of (records 3)) claim once c.claims) c.holds

-- meanwhile the old durable contents are recovered
cut_finds : Finds (rest worked) (emptied_folder 2)
cut_finds = doomed-find (has_claim (claims_of (records 3))) worked worked_layout [] worked_folder (emptied_folder 2) 2 doomed_object worked-keeps.entries (emptied-only 2 emptied-are.1) refl refl others

-- the word of the stream is unlinked
same-words : IsPermutation ([] ++ words_of the_doomed) ((0xA0010005 ∷ []) ++ words_of emptied)
same-words = IsPermutation-middle (nodes 3 ∷ records 3 ∷ []) 0xA0010005 []

pub cut_is_kept : KeepsUncounted cut (layout_after worked_layout (nodes 3) emptied) (0xA0010005 ∷ []) (emptied_folder 2)
cut_is_kept = changed-doomed-kept (has_claim (claims_of (records 3))) worked worked_layout [] (0xA0010005 ∷ []) worked_folder (emptied_folder 2) 2 doomed_object cut_object the_doomed emptied worked-keeps.entries (emptied-only 2 emptied-are.1)
    doomed-placed refl refl refl others (emptied-loads 2 emptied-are.1) same-words (emptied-sealed 2 emptied-are.1) cut-valid
