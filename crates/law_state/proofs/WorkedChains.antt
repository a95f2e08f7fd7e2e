-- In the worked folder a new object is made, whose record is in front of that of `b` in their bucket; then `b` is removed, whose record is after it.
use Rattle.std.proofs.Common.{◌≡◌, ◌≢◌, ℕ, ◌<◌, List, [], ◌∷◌, ◌++◌, refl, ap, sym, ◌∙◌, subst, arith, lit<, None, Some, true, false, codes, replicate}
use Rattle.std.specs.Prelude.{◌==◌, filter, not}
use Rattle.spec_image.specs.Footprint.{SameOutside}
use Rattle.spec_image.specs.Image.{Image}
use Rattle.spec_image.proofs.Footprints.{outside_wider, within_left}
use Rattle.spec_image.proofs.Runs.{until_last}
use Rattle.blk_model.specs.Effects.{doomed, new_object}
use Rattle.blk_model.specs.Holding.{rest}
use Rattle.blk_model.specs.Items.{main, part}
use Rattle.blk_model.specs.State.{State}
use Rattle.blk_model.proofs.Computing.{computing}
use Rattle.spec_format.specs.BlockFiles.{is_among}
use Rattle.spec_format.specs.Hash.{hash, mixed, of_bytes, of_three}
use Rattle.spec_format.specs.Sealed.{record_range}
use Rattle.spec_folder.specs.Chains.{IsChain, file_and_block}
use Rattle.spec_folder.specs.Completion.{remove}
use Rattle.spec_folder.specs.Creation.{with_new}
use Rattle.spec_folder.specs.Layout.{Layout, rule_of}
use Rattle.spec_folder.specs.ListImages.{HasListAtRest, IsWritable, operation_steps}
use Rattle.spec_folder.specs.ListPlans.{writes_of}
use Rattle.spec_folder.specs.ListSteps.{touched_by_writes}
use Rattle.spec_folder.specs.ListView.{ListWrite, put}
use Rattle.spec_folder.specs.Sound.{words_of}
use Rattle.spec_folder.specs.View.{list_of, store_of}
use Rattle.law_folder.proofs.lists.WriteSteps.{writes-go_on}
use Rattle.law_folder.proofs.states.Tidying.{counter-same, touch_range, touch_sizes, touch_spares}
use Rattle.law_folder.proofs.walks.Loads.{load-then}
use Rattle.law_state.specs.Arranging.{LeavesFiles}
use Rattle.law_state.specs.Changes.{Finds}
use Rattle.law_state.specs.Keeping.{KeepsUncounted}
use Rattle.law_state.specs.PlainRemovals.{IsRemoved}
use Rattle.law_state.specs.RemovalLaws.{IsRemovalDone, layout_removed}
use Rattle.law_state.proofs.BehindOut.{IsBehind, IsOutBehind, out-behind, shortened}
use Rattle.law_state.proofs.DoneSteps.{removal-done}
use Rattle.law_state.proofs.GoingOut.{chain-same, unlisted}
use Rattle.law_state.proofs.LaidOut.{each-word}
use Rattle.law_state.proofs.Leaving.{leaves-files}
use Rattle.law_state.proofs.Links as links
use Rattle.law_state.proofs.PlainRemovals.{doomed-removed, removing-doomed}
use Rattle.law_state.proofs.WorkedCreate.{closed_layout, created, fresh, made, made-writable, made_folder}
use Rattle.law_state.proofs.WorkedRemovals.{each-chain, not-both}
use Rattle.law_state.proofs.WorkedState.{chain_of, nodes, plain_object, records, sparse_object, the_plain, twin, worked}

-- ---- two records in one chain

abbrev two : State
two = record worked {
  objects = Some plain_object ∷ Some sparse_object ∷ None ∷ Some (new_object twin) ∷ [];
  uses = main twin ∷ part (codes "a") 0 ∷ main (codes "a") ∷ main (codes "b") ∷ [];
  names = replicate 5 None ++ Some 3 ∷ replicate 4090 None;
}

two-reached : made ≡ two
unfolding computing
two-reached = refl

abbrev two_layout : Layout
two_layout = with_new closed_layout twin fresh

two-keeps : KeepsUncounted two two_layout (0xA0010005 ∷ []) made_folder
two-keeps = subst (λ (m : State). KeepsUncounted m two_layout (0xA0010005 ∷ []) made_folder) two-reached created.entries

-- the chains
abbrev two_chains : ℕ → List ℕ
two_chains = put chain_of 0xA0E1 (records 3 ∷ records 2 ∷ [])

chains-are : two_layout.chains ≡ two_chains
unfolding hash mixed of_bytes of_three
chains-are = refl

other-chains : (other : ℕ) → (other == 0xA0E1) ≡ false → two_chains other ≡ chain_of other
unfolding put
other-chains other apart = rw apart refl

abbrev IsApart : ℕ → Type 0
IsApart w = file_and_block w ≢ file_and_block (records 3)

apart-records : IsApart (records 0) × IsApart (records 1)
apart-records = ((λ e. (let z : ◌≡◌ {A = ℕ} 0x10000 0x10003 = e in omega (arith, z))), (λ e. (let z : ◌≡◌ {A = ℕ} 0x10001 0x10003 = e in omega (arith, z))))

behind-two : IsBehind two_chains 0xA0E1 (records 3) (records 2)
unfolding put
behind-two = record {
  small = lit< tt;
  both = refl;
  left = refl;
  others = λ other there. ap (filter (λ w. not (w == records 2))) (other-chains other there) ∙ each-chain (λ chain. filter (λ w. not (w == records 2)) chain ≡ chain) other (λ e. refl) (λ e. refl) (λ e. not-both e there) refl ∙ sym (other-chains other there);
  apart = λ other w there among. each-chain (λ chain. is_among chain w ≡ true → IsApart w) other
      (λ e one. each-word IsApart (records 0 ∷ []) (apart-records.0, tt) w one) (λ e one. each-word IsApart (records 1 ∷ []) (apart-records.1, tt) w one) (λ e. not-both e there) (λ none. absurd (let z : false ≡ true = none in cc))
      (ap (λ (words : List ℕ). is_among words w) (sym (other-chains other there)) ∙ among);
}

behind : IsBehind two_layout.chains 0xA0E1 (records 3) (records 2)
behind = subst (λ (chains : ℕ → List ℕ). IsBehind chains 0xA0E1 (records 3) (records 2)) (sym chains-are) behind-two

-- ---- the node of `b` is removed from the list

abbrev between : Image
between = unlisted made_folder (nodes 2)

at-rest : HasListAtRest (nodes 3 ∷ nodes 1 ∷ nodes 0 ∷ nodes 2 ∷ []) made_folder
at-rest = record { whole = two-keeps.represents.list; idle = two-keeps.represents.idle }

b-unlisted : IsRemovalDone made_folder (nodes 2) between
b-unlisted = removal-done made_folder (nodes 2) (nodes 3 ∷ nodes 1 ∷ nodes 0 ∷ []) [] made-writable at-rest

between-writable : IsWritable between
between-writable = until_last IsWritable IsWritable (operation_steps remove (nodes 2) made_folder) made_folder (writes-go_on made_folder (writes_of remove (nodes 2) (list_of made_folder)) made-writable)

abbrev removal_writes : List ListWrite
removal_writes = writes_of remove (nodes 2) (list_of made_folder)

outside : SameOutside (touch_range removal_writes (nodes 2)) made_folder between
outside = outside_wider (touched_by_writes removal_writes) (touch_range removal_writes (nodes 2)) made_folder between (within_left (touched_by_writes removal_writes) (record_range (nodes 2))) b-unlisted.partly.outside

between-leaves : LeavesFiles made_folder between
between-leaves = leaves-files (touch_range removal_writes (nodes 2)) made_folder between (touch_spares removal_writes (nodes 2)) (touch_sizes removal_writes (nodes 2)) outside
    (record { crash = counter-same removal_writes (nodes 2) made_folder between outside 32 (omega arith); id = counter-same removal_writes (nodes 2) made_folder between outside 20 (omega arith) }) b-unlisted.partly.headers

-- ---- the record of `b` is unlinked, from its place after the other

new-here : two_layout.at (nodes 3) ≡ Some fresh
unfolding put
new-here = refl

b-here : two_layout.at (nodes 2) ≡ Some the_plain
unfolding put
b-here = refl

whole-between : (other : ℕ) → other < 65536 → IsChain (store_of between) other (two_layout.chains other)
whole-between other small = chain-same (store_of made_folder) (store_of between) other (two_layout.chains other) b-unlisted.partly.shown.store (two-keeps.represents.holds.shows.chains other small)

abbrev without_b : Image
without_b = shortened between (records 3)

b-out : IsOutBehind two_layout.chains (records 3) (records 2) between
b-out = load-then (store_of made_folder) (rule_of two_layout (nodes 3)) (nodes 3) fresh (two-keeps.represents.holds.shows.each (nodes 3) fresh new-here) (λ n e f.
    out-behind between between-writable two_layout.chains 0xA0E1 (records 3) (records 2) behind whole-between e
    (sym (b-unlisted.partly.shown.store.store.entry (records 3) (λ claim has. refl)) ∙ subst (λ (w : ℕ). (store_of made_folder).entry w ≡ Some e) (sym f.facts.contents_is) f.entry) f.checks)

removed_behind : IsRemoved two_layout (main (codes "b")) the_plain made_folder without_b
removed_behind = record {
  removing = record { here = b-here; between = between; unlisted = b-unlisted; unlinking = b-out.unlinking two_layout };
  leaves = b-out.leaves;
  sealed = λ node loaded here was. links.next-sealed two two_layout (0xA0010005 ∷ []) made_folder between without_b (nodes 3) fresh two-keeps between-leaves new-here b-out.outside b-out.sealed node loaded here was;
}

-- the durable contents without it are recovered, and its words are unlinked
behind_is_not_found : Finds (rest (doomed 0 two (Some plain_object))) without_b
behind_is_not_found = (removing-doomed two two_layout (0xA0010005 ∷ []) made_folder without_b 0 plain_object the_plain two-keeps refl refl refl refl).1 removed_behind.removing

behind_is_gone : KeepsUncounted (doomed 0 two (Some plain_object)) (layout_removed two_layout (nodes 2) (records 2)) (words_of the_plain ++ 0xA0010005 ∷ []) without_b
behind_is_gone = doomed-removed two two_layout (0xA0010005 ∷ []) made_folder without_b 0 plain_object the_plain two-keeps refl refl refl refl removed_behind
