-- In the worked folder, once `a` and `b` are open, each is doomed: its items are removed, and its record has state 2.
use Rattle.std.proofs.Common.{◌≡◌, ◌⊎◌, inl, inr, ⊎_elim, ℕ, List, [], ◌∷◌, ◌++◌, refl, ap, sym, ◌∙◌, subst, arith, Bool, true, false, None, Ok, Some, codes, replicate}
use Rattle.std.specs.Prelude.{◌==◌}
use Rattle.std.specs.List.{AllByRecursion}
use Rattle.spec_image.specs.Image.{Block, Image, Index, byte}
use Rattle.spec_image.specs.Steps.{after}
use Rattle.spec_image.proofs.Runs.{until_last}
use Rattle.blk_model.specs.Items.{Item, main, part}
use Rattle.blk_model.specs.Request.{to_doom, to_open}
use Rattle.blk_model.specs.State.{State}
use Rattle.blk_model.specs.Step.{step}
use Rattle.blk_model.proofs.Computing.{computing}
use Rattle.blk_model.proofs.Doomed.{state_doomed}
use Rattle.blk_model.proofs.StopRows.{codes_are_bytes}
use Rattle.spec_format.specs.Address.{block_count, external_number, file_selector, first_block, kind_of, place, rankings}
use Rattle.spec_format.specs.BlockFiles.{is_among}
use Rattle.spec_format.specs.Claims.{Claim, claims_of, has_claim, repeats}
use Rattle.spec_format.specs.Headers.{this_id_of}
use Rattle.spec_format.specs.Records.{node_in, node_is_sealed}
use Rattle.spec_format.specs.Sealed.{record_range}
use Rattle.spec_folder.specs.Footprint.{OnlyLinksChange}
use Rattle.spec_folder.specs.Layout.{is_listed}
use Rattle.spec_folder.specs.ListImages.{HasListAtRest, IsWritable, steps_of_touch}
use Rattle.spec_folder.specs.ListPlans.{touch_writes}
use Rattle.spec_folder.specs.Loads.{Loaded, all_claims, load, record_claims, unchained_rule}
use Rattle.spec_folder.specs.Removal.{is_of_another}
use Rattle.spec_folder.specs.Sound.{AreSealed, words_of}
use Rattle.spec_folder.specs.View.{list_of, store_of}
use Rattle.law_folder.proofs.lists.WordTurns.{touches-go_on}
use Rattle.law_folder.proofs.states.Marking.{repeats-apart}
use Rattle.law_folder.proofs.states.OthersHold.{more-left_out, records-unlinked}
use Rattle.law_folder.proofs.states.Tidying.{counter-same}
use Rattle.law_state.specs.Arranging.{LeavesFiles}
use Rattle.law_state.specs.DoomLaws.{CanBeDoomed, IsUnchained, layout_doomed}
use Rattle.law_state.specs.HeldPartlyOut.{IsHeldOut}
use Rattle.law_state.specs.Keeping.{CountsItems, Keeps, KeepsUncounted}
use Rattle.law_state.specs.ListLaws.{IsTouchDone}
use Rattle.law_state.specs.PartlyOut.{IsOneMoreOut, KeepsPartlyOut, chains_but, keeps_but}
use Rattle.law_state.specs.RemovalLaws.{IsRemovalDone, IsUnlinking}
use Rattle.law_state.specs.WholeRemovals.{IsWholeUnchained, layout_doomed_whole, words_of_parts}
use Rattle.law_state.proofs.AtNodes.{updates-leave}
use Rattle.law_state.proofs.DoomedWhole.{held-whole-dooms-end}
use Rattle.law_state.proofs.DoneSteps.{touch-done}
use Rattle.law_state.proofs.DoomSteps.{IsDoomedRecord, doomed-record, loads-unlisted, with_doomed}
use Rattle.law_state.proofs.GoingOut.{goes-out, out-counts, out-leaves, out-links, out-of-chain, out-of-list, ready-out, unchained, unlisted}
use Rattle.law_state.proofs.HeldPartlyOut.{held-out-dooms-end}
use Rattle.law_state.proofs.LaidOut.{IsClaimant, claimant, each-item, each-word, looked}
use Rattle.law_state.proofs.Leaving.{leaves-then}
use Rattle.law_state.proofs.OneCalls.{opens-end-by-touch}
use Rattle.law_state.proofs.OneMoreOut.{leaves, one-more-goes}
use Rattle.law_state.proofs.PartlyFreed.{out-changes}
use Rattle.law_state.proofs.PartlyOut.{kept-begin, only-listed}
use Rattle.law_state.proofs.PlainRemovals.{held-dooms-end}
use Rattle.law_state.proofs.WorkedMarks.{opened, opened-keeps, opened-writable, opened_folder, session-is}
use Rattle.law_state.proofs.WorkedRemovals.{alone_b, alone_last, alone_part}
use Rattle.law_state.proofs.WorkedState.{all_four, chain_of, nodes, plain_object, records, sparse_object, the_doomed, the_parent, the_part, the_plain, worked, worked-lies, worked_layout}

-- ---- both are opened

abbrev pub both : State
both = record worked { uses = main (codes "a") ∷ main (codes "b") ∷ part (codes "a") 0 ∷ []; names = replicate 5 None ++ Some 2 ∷ Some 0 ∷ Some 1 ∷ replicate 4088 None }

both-reached : (step opened 100 (to_open 7 (codes "a"))).state ≡ both
unfolding computing
both-reached = refl

abbrev pub both_folder : Image
both_folder = after (steps_of_touch (nodes 0) 70 opened_folder) opened_folder

opened-list : HasListAtRest (nodes 2 ∷ nodes 1 ∷ nodes 0 ∷ []) opened_folder
unfolding computing
opened-list = record { whole = opened-keeps.entries.represents.list; idle = opened-keeps.entries.represents.idle }

a-touched : IsTouchDone opened_folder (nodes 0) both_folder
a-touched = touch-done opened_folder (nodes 0) 70 (nodes 2 ∷ nodes 1 ∷ []) [] opened-writable opened-list

pub both-keeps : Keeps both worked_layout [] both_folder
both-keeps = subst (λ (m : State). Keeps m worked_layout [] both_folder) both-reached
    (opens-end-by-touch opened worked_layout [] opened_folder both_folder 100 7 (codes "a") opened-keeps (omega arith, codes_are_bytes (codes "a") (omega arith, tt)) (unfold computing in refl) a-touched)

pub both-id : this_id_of (byte both_folder Index) ≡ 7
both-id = counter-same (touch_writes (nodes 0) (list_of opened_folder)) (nodes 0) opened_folder both_folder a-touched.touched.outside 20 (omega arith) ∙ session-is

pub both-writable : IsWritable both_folder
both-writable = until_last IsWritable IsWritable (steps_of_touch (nodes 0) 70 opened_folder) opened_folder (touches-go_on opened_folder (nodes 0) 70 opened-writable)

all-there : KeepsPartlyOut both worked_layout (λ item. true) chain_of [] both_folder
all-there = kept-begin both worked_layout [] both_folder both-keeps.entries

-- ---- the blocks of a record are no other's

abbrev AreApart : ℕ → List ℕ → ℕ → Loaded → Type 0
AreApart w gone node loaded = (is_among gone node ≡ true) ⊎ (repeats (all_claims loaded ++ claims_of w) ≡ false)

others-apart : (w : ℕ) (gone : List ℕ) → AllByRecursion (λ l. AreApart w gone l.node l) all_four → (claim : Claim) (node : ℕ) → worked_layout.owner claim ≡ Some node → is_among gone node ≡ false → has_claim (claims_of w) claim ≡ false
others-apart w gone apart claim node owner stays = let c : IsClaimant (AreApart w gone) claim node = claimant (AreApart w gone) all_four apart claim node owner in
    ⊎_elim (λ (out : is_among gone node ≡ true). absurd (let z : true ≡ false = sym out ∙ stays in cc)) (λ (once : repeats (all_claims c.loaded ++ claims_of w) ≡ false). repeats-apart (all_claims c.loaded) (claims_of w) claim once c.claims) c.holds

apart-b : AllByRecursion (λ l. AreApart (records 2) (nodes 2 ∷ []) l.node l) all_four
unfolding repeats has_claim all_claims record_claims claims_of kind_of block_count file_selector first_block external_number
apart-b = (inr refl, (inr refl, (inl refl, (inr refl, tt))))

-- ---- `b`

abbrev pub without_b : Image
without_b = unchained (unlisted both_folder (nodes 2)) 0xA0E1

b-unlisted : IsRemovalDone both_folder (nodes 2) (unlisted both_folder (nodes 2))
b-unlisted = out-of-list both worked_layout (λ item. true) chain_of [] both_folder all-there both-writable (main (codes "b")) the_plain refl (nodes 0 ∷ []) (nodes 1 ∷ []) refl 0xA0E1 alone_b

b-links : OnlyLinksChange (records 2) (store_of (unlisted both_folder (nodes 2))) (store_of without_b)
b-links = out-links both worked_layout (λ item. true) chain_of [] both_folder all-there both-writable (main (codes "b")) the_plain refl (nodes 0 ∷ []) (nodes 1 ∷ []) refl 0xA0E1 alone_b

b-leaves : LeavesFiles (unlisted both_folder (nodes 2)) without_b
b-leaves = out-leaves both worked_layout (λ item. true) chain_of [] both_folder all-there both-writable (main (codes "b")) the_plain refl (nodes 0 ∷ []) (nodes 1 ∷ []) refl 0xA0E1 alone_b

b-chain : IsUnlinking (record worked_layout { chains = chain_of }) (chains_but chain_of (records 2)) (unlisted both_folder (nodes 2)) without_b
b-chain = out-of-chain both worked_layout (λ item. true) chain_of [] both_folder all-there both-writable (main (codes "b")) the_plain refl (nodes 0 ∷ []) (nodes 1 ∷ []) refl 0xA0E1 alone_b

b-goes : IsOneMoreOut worked_layout chain_of (main (codes "b")) the_plain both_folder without_b
b-goes = goes-out both worked_layout (λ item. true) chain_of [] both_folder all-there both-writable (main (codes "b")) the_plain refl (nodes 0 ∷ []) (nodes 1 ∷ []) refl 0xA0E1 alone_b

b-ready : IsWritable without_b
b-ready = ready-out both worked_layout (λ item. true) chain_of [] both_folder all-there both-writable (main (codes "b")) the_plain refl (nodes 0 ∷ []) (nodes 1 ∷ []) refl 0xA0E1 alone_b

once : (l : Loaded) (node : ℕ) → worked_layout.at node ≡ Some l → repeats (all_claims l) ≡ false
once l node here = worked-lies.single node l here

b-loads : load (store_of without_b) (unchained_rule 0) (nodes 2) ≡ Ok the_plain
b-loads = records-unlinked (store_of (unlisted both_folder (nodes 2))) (store_of without_b) 0 (nodes 2) (records 2) the_plain
    (loads-unlisted both_folder (unlisted both_folder (nodes 2)) (nodes 2) (nodes 2) the_plain b-unlisted (both-keeps.entries.represents.holds.shows.each (nodes 2) the_plain refl)) (once the_plain (nodes 2) refl) b-links (inl refl)

b-doomed : IsDoomedRecord without_b (nodes 2) the_plain
b-doomed = doomed-record without_b (nodes 2) the_plain b-ready b-loads (once the_plain (nodes 2) refl)

abbrev pub doomed_b : Image
doomed_b = with_doomed without_b the_plain

-- what is counted is as it was
pub b-counted : CountsItems doomed_b both worked_layout
b-counted = updates-leave without_b doomed_b (records 2) b-doomed.outside ∙ out-counts both_folder (nodes 2) 0xA0E1 b-unlisted ∙ both-keeps.counters

abbrev pub but_b : Item → Bool
but_b = keeps_but (λ item. true) (main (codes "b"))

pub b_is_out : KeepsPartlyOut both worked_layout but_b (chains_but chain_of (records 2)) (words_of the_plain ++ []) without_b
b_is_out = one-more-goes both worked_layout (λ item. true) chain_of [] (main (codes "b")) the_plain both_folder without_b all-there refl refl b-goes

b_stays_out : KeepsPartlyOut both worked_layout but_b (chains_but chain_of (records 2)) (words_of the_plain ++ []) doomed_b
b_stays_out = out-changes (has_claim (claims_of (records 2))) both worked_layout but_b (chains_but chain_of (records 2)) (words_of the_plain ++ []) without_b doomed_b b_is_out b-doomed.only (others-apart (records 2) (nodes 2 ∷ []) apart-b)

-- a record of data_1 touches no node
in-nodes : (i : ℕ) → (record_range (records 2)).bytes (Block (file_selector (nodes 2))) i ≡ false
unfolding file_selector
in-nodes i = refl

are-nodes : (kind_of (nodes 0) ≡ rankings) × (kind_of (nodes 2) ≡ rankings)
unfolding kind_of
are-nodes = (refl, refl)

b-sealed : AreSealed (unlisted both_folder (nodes 2)) the_plain → AreSealed doomed_b the_plain
b-sealed was = record {
  node = ap (λ (f : ℕ → ℕ). node_is_sealed (node_in f (place (nodes 2)))) (λ j i. b-doomed.outside.bytes (Block (file_selector (nodes 2))) i (in-nodes i) j) ∙ was.node;
  entry = b-doomed.sealed;
}

b_is_unchained : IsUnchained both worked_layout (nodes 2) the_plain (unlisted both_folder (nodes 2)) doomed_b
b_is_unchained = record {
  leaves = leaves-then (unlisted both_folder (nodes 2)) without_b doomed_b b-leaves b-doomed.leaves;
  list = b-doomed.list ∙ b-chain.list;
  holds = more-left_out (is_among (nodes 2 ∷ [])) (λ n. n == nodes 2) (store_of doomed_b) both (record worked_layout { chains = chains_but chain_of (records 2) }) b_stays_out.holds (each-word (λ n. (n == nodes 2) ≡ true) (nodes 2 ∷ []) (refl, tt));
  loads = b-doomed.loads;
  sealed = looked (λ node l. AreSealed (unlisted both_folder (nodes 2)) l → AreSealed doomed_b l) all_four
      ((λ was. b_stays_out.sealed (nodes 0) the_parent refl refl), ((λ was. b_stays_out.sealed (nodes 1) the_part refl refl), (b-sealed, ((λ was. b_stays_out.sealed (nodes 3) the_doomed refl refl), tt))));
}

b_can_be_doomed : CanBeDoomed both worked_layout 0 plain_object the_plain
b_can_be_doomed = record { lies = record { here = refl; live = refl; at = refl }; named = refl; alone = λ n. refl; valid = state_doomed both both-keeps.entries.valid 0 plain_object refl refl }

-- so a Doom of it ends, and no more words are unlinked
pub b_is_doomed : KeepsUncounted (step both 100 (to_doom 6)).state (layout_doomed worked_layout 0 (nodes 2) the_plain) [] doomed_b
b_is_doomed = held-dooms-end both 100 (to_doom 6) worked_layout [] both_folder (unlisted both_folder (nodes 2)) doomed_b 0 plain_object the_plain both-keeps.entries (unfold computing in refl) (unfold computing in refl) b_can_be_doomed b-unlisted b_is_unchained

-- ---- `a`, whose part is out first

abbrev without_part : Image
without_part = unchained (unlisted both_folder (nodes 1)) 0xB6C

part-unlisted : IsRemovalDone both_folder (nodes 1) (unlisted both_folder (nodes 1))
part-unlisted = out-of-list both worked_layout (λ item. true) chain_of [] both_folder all-there both-writable (part (codes "a") 0) the_part refl (nodes 0 ∷ nodes 2 ∷ []) [] refl 0xB6C alone_part

part-links : OnlyLinksChange (records 1) (store_of (unlisted both_folder (nodes 1))) (store_of without_part)
part-links = out-links both worked_layout (λ item. true) chain_of [] both_folder all-there both-writable (part (codes "a") 0) the_part refl (nodes 0 ∷ nodes 2 ∷ []) [] refl 0xB6C alone_part

part-ready : IsWritable without_part
part-ready = ready-out both worked_layout (λ item. true) chain_of [] both_folder all-there both-writable (part (codes "a") 0) the_part refl (nodes 0 ∷ nodes 2 ∷ []) [] refl 0xB6C alone_part

abbrev but_part : Item → Bool
but_part = keeps_but (λ item. true) (part (codes "a") 0)

part-goes : IsOneMoreOut worked_layout chain_of (part (codes "a") 0) the_part both_folder without_part
part-goes = goes-out both worked_layout (λ item. true) chain_of [] both_folder all-there both-writable (part (codes "a") 0) the_part refl (nodes 0 ∷ nodes 2 ∷ []) [] refl 0xB6C alone_part

part_is_out : KeepsPartlyOut both worked_layout but_part (chains_but chain_of (records 1)) (words_of the_part ++ []) without_part
part_is_out = one-more-goes both worked_layout (λ item. true) chain_of [] (part (codes "a") 0) the_part both_folder without_part all-there refl refl part-goes

-- then the main item of `a` is out
abbrev without_a : Image
without_a = unchained (unlisted without_part (nodes 0)) 0xA782

main-unlisted : IsRemovalDone without_part (nodes 0) (unlisted without_part (nodes 0))
main-unlisted = out-of-list both worked_layout but_part (chains_but chain_of (records 1)) (words_of the_part ++ []) without_part part_is_out part-ready (main (codes "a")) the_parent refl [] (nodes 2 ∷ []) refl 0xA782 alone_last

main-links : OnlyLinksChange (records 0) (store_of (unlisted without_part (nodes 0))) (store_of without_a)
main-links = out-links both worked_layout but_part (chains_but chain_of (records 1)) (words_of the_part ++ []) without_part part_is_out part-ready (main (codes "a")) the_parent refl [] (nodes 2 ∷ []) refl 0xA782 alone_last

main-ready : IsWritable without_a
main-ready = ready-out both worked_layout but_part (chains_but chain_of (records 1)) (words_of the_part ++ []) without_part part_is_out part-ready (main (codes "a")) the_parent refl [] (nodes 2 ∷ []) refl 0xA782 alone_last

abbrev no_chains : ℕ → List ℕ
no_chains = chains_but (chains_but chain_of (records 1)) (records 0)

main-goes : IsOneMoreOut worked_layout (chains_but chain_of (records 1)) (main (codes "a")) the_parent without_part without_a
main-goes = goes-out both worked_layout but_part (chains_but chain_of (records 1)) (words_of the_part ++ []) without_part part_is_out part-ready (main (codes "a")) the_parent refl [] (nodes 2 ∷ []) refl 0xA782 alone_last

both_are_out : KeepsPartlyOut both worked_layout (keeps_but but_part (main (codes "a"))) no_chains (words_of the_parent ++ words_of the_part ++ []) without_a
both_are_out = one-more-goes both worked_layout but_part (chains_but chain_of (records 1)) (words_of the_part ++ []) (main (codes "a")) the_parent without_part without_a part_is_out refl refl main-goes

a_is_out : KeepsPartlyOut both worked_layout (is_of_another (codes "a")) no_chains (words_of the_parent ++ words_of the_part ++ []) without_a
a_is_out = only-listed both worked_layout (keeps_but but_part (main (codes "a"))) (is_of_another (codes "a")) no_chains (words_of the_parent ++ words_of the_part ++ []) without_a both_are_out same where
  same : (item : Item) → is_listed both item ≡ true → keeps_but but_part (main (codes "a")) item ≡ is_of_another (codes "a") item
  same = each-item (λ item. keeps_but but_part (main (codes "a")) item ≡ is_of_another (codes "a") item) both.uses (refl, (refl, (refl, tt)))

-- its record loads as before
parent-apart : repeats (all_claims the_parent ++ claims_of (records 1)) ≡ false
unfolding repeats has_claim all_claims record_claims claims_of kind_of block_count file_selector first_block external_number
parent-apart = refl

a-loads : load (store_of without_a) (unchained_rule 0) (nodes 0) ≡ Ok the_parent
a-loads =
    let first : load (store_of (unlisted both_folder (nodes 1))) (unchained_rule 0) (nodes 0) ≡ Ok the_parent = loads-unlisted both_folder (unlisted both_folder (nodes 1)) (nodes 0) (nodes 1) the_parent part-unlisted (both-keeps.entries.represents.holds.shows.each (nodes 0) the_parent refl) in
    let second : load (store_of without_part) (unchained_rule 0) (nodes 0) ≡ Ok the_parent =
    records-unlinked (store_of (unlisted both_folder (nodes 1))) (store_of without_part) 0 (nodes 0) (records 1) the_parent first (once the_parent (nodes 0) refl) part-links (inr (λ claim has. repeats-apart (all_claims the_parent) (claims_of (records 1)) claim parent-apart has)) in
    records-unlinked (store_of (unlisted without_part (nodes 0))) (store_of without_a) 0 (nodes 0) (records 0) the_parent (loads-unlisted without_part (unlisted without_part (nodes 0)) (nodes 0) (nodes 0) the_parent main-unlisted second) (once the_parent (nodes 0) refl) main-links (inl refl)

a-doomed : IsDoomedRecord without_a (nodes 0) the_parent
a-doomed = doomed-record without_a (nodes 0) the_parent main-ready a-loads (once the_parent (nodes 0) refl)

abbrev doomed_a : Image
doomed_a = with_doomed without_a the_parent

apart-a : AllByRecursion (λ l. AreApart (records 0) (nodes 0 ∷ nodes 1 ∷ []) l.node l) all_four
unfolding repeats has_claim all_claims record_claims claims_of kind_of block_count file_selector first_block external_number
apart-a = (inl refl, (inl refl, (inr refl, (inr refl, tt))))

in-nodes_of_a : (i : ℕ) → (record_range (records 0)).bytes (Block (file_selector (nodes 0))) i ≡ false
unfolding file_selector
in-nodes_of_a i = refl

a_is_held_out : IsHeldOut both worked_layout 1 sparse_object the_parent no_chains (words_of the_part ++ []) doomed_a
a_is_held_out = record {
  placed = record { here = refl; live = refl; at = refl };
  named = refl;
  keeps = out-changes (has_claim (claims_of (records 0))) both worked_layout (is_of_another (codes "a")) no_chains (words_of the_parent ++ words_of the_part ++ []) without_a doomed_a a_is_out a-doomed.only (others-apart (records 0) (nodes 0 ∷ nodes 1 ∷ []) apart-a);
  loads = a-doomed.loads;
  sealed = record {
    node = ap (λ (f : ℕ → ℕ). node_is_sealed (node_in f (place (nodes 0)))) (λ j i. a-doomed.outside.bytes (Block (file_selector (nodes 0))) i (in-nodes_of_a i) j)
        ∙ main-unlisted.sealed (nodes 0) are-nodes.0 (part-unlisted.sealed (nodes 0) are-nodes.0 (both-keeps.entries.sealed (nodes 0) the_parent refl).node);
    entry = a-doomed.sealed;
  };
}

-- so a Doom of it ends, with the words of its part unlinked
a_is_doomed : KeepsUncounted (step both 100 (to_doom 7)).state (layout_doomed_whole both worked_layout 1 (codes "a") no_chains) (words_of the_part ++ []) doomed_a
a_is_doomed = held-out-dooms-end both 100 (to_doom 7) worked_layout 1 sparse_object the_parent no_chains (words_of the_part ++ []) doomed_a (unfold computing in refl) (unfold computing in refl) a_is_held_out

-- and as it does where all are out before anything is freed
a_is_whole_unchained : IsWholeUnchained both worked_layout (codes "a") the_parent no_chains both_folder doomed_a
a_is_whole_unchained = record {
  leaves = leaves-then both_folder without_part doomed_a
      (leaves both worked_layout (λ item. true) chain_of [] (part (codes "a") 0) the_part both_folder without_part all-there refl refl part-goes)
      (leaves-then without_part without_a doomed_a (leaves both worked_layout but_part (chains_but chain_of (records 1)) (words_of the_part ++ []) (main (codes "a")) the_parent without_part without_a part_is_out refl refl main-goes) a-doomed.leaves);
  list = a_is_held_out.keeps.list;
  holds = a_is_held_out.keeps.holds;
  loads = a-doomed.loads;
  chained = a_is_held_out.keeps.chained;
  out = a_is_held_out.keeps.out;
  sealed = looked (λ node l. is_among (nodes 1 ∷ []) node ≡ false → AreSealed both_folder l → AreSealed doomed_a l) all_four
      ((λ stays was. a_is_held_out.sealed), ((λ out was. absurd (let z : true ≡ false = out in cc)), ((λ stays was. a_is_held_out.keeps.sealed (nodes 2) the_plain refl refl), ((λ stays was. a_is_held_out.keeps.sealed (nodes 3) the_doomed refl refl), tt))));
}

a_is_doomed_whole : KeepsUncounted (step both 100 (to_doom 7)).state (layout_doomed_whole both worked_layout 1 (codes "a") no_chains) (words_of_parts both worked_layout (codes "a") ++ []) doomed_a
a_is_doomed_whole = held-whole-dooms-end both 100 (to_doom 7) worked_layout [] no_chains both_folder doomed_a 1 sparse_object the_parent both-keeps.entries (unfold computing in refl) (unfold computing in refl) (record { here = refl; live = refl; at = refl }) refl a_is_whole_unchained
