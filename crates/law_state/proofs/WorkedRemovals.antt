-- In the worked folder items are removed: `b`, and so a DoomKey of it; the part alone; and `a`, whose main item and part are removed one after the other.
use Rattle.std.proofs.Common.{◌≡◌, ℕ, zero, suc, ◌<◌, ◌≤◌, List, [], ◌∷◌, ◌++◌, refl, sym, ◌∙◌, subst, arith, lit<, lit≤, Bool, true, false, Some, codes}
use Rattle.std.specs.Prelude.{if◌then◌else◌, ◌==◌, filter, not}
use Rattle.spec_image.specs.Bytes.{zeros}
use Rattle.spec_image.specs.Image.{Block, External, File, Image, Index, bytes_of, length_of}
use Rattle.spec_image.specs.Steps.{after}
use Rattle.spec_image.proofs.Splices.{length-zeros}
use Rattle.spec_image.proofs.Words.{length-with_words}
use Rattle.blk_model.specs.Effects.{doomed}
use Rattle.blk_model.specs.Holding.{rest}
use Rattle.blk_model.specs.Items.{Item, main, part}
use Rattle.blk_model.specs.Request.{to_doom_key}
use Rattle.blk_model.specs.Room.{single, whole, without}
use Rattle.blk_model.specs.State.{State}
use Rattle.blk_model.specs.Step.{step}
use Rattle.blk_model.proofs.Computing.{computing}
use Rattle.blk_model.proofs.Doomed.{state_doomed}
use Rattle.blk_model.proofs.StopRows.{codes_are_bytes}
use Rattle.spec_format.specs.Headers.{header_length, index_length}
use Rattle.spec_format.specs.NewFolder.{new_file_words}
use Rattle.spec_folder.specs.Layout.{is_listed}
use Rattle.spec_folder.specs.ListImages.{IsWritable, steps_of_touch}
use Rattle.spec_folder.specs.Removal.{is_of_another, without_items}
use Rattle.spec_folder.specs.Sound.{words_of}
use Rattle.law_folder.proofs.examples.ExampleWrites.{small-zeros}
use Rattle.law_folder.proofs.updates.Prefixes.{AreSmall, small-words}
use Rattle.law_state.specs.Arranging.{IsArranged, LeavesFiles}
use Rattle.law_state.specs.Changes.{Finds}
use Rattle.law_state.specs.Commands.{MayStop}
use Rattle.law_state.specs.GroupLaws.{IsLess, gone_nodes, layout_less}
use Rattle.law_state.specs.Keeping.{Keeps, KeepsUncounted}
use Rattle.law_state.specs.ListLaws.{IsTouchDone, with_used}
use Rattle.law_state.specs.PartlyOut.{IsOneMoreOut, KeepsPartlyOut, chains_but, keeps_but}
use Rattle.law_state.specs.PartlyOutStops.{LeavesOtherKeys}
use Rattle.law_state.specs.PlainRemovals.{IsRemoved}
use Rattle.law_state.specs.RemovalLaws.{IsRemovalDone, IsWithout, layout_removed}
use Rattle.law_state.specs.WholeRemovals.{IsWholeOut, layout_without_key, words_of_key}
use Rattle.law_state.specs.WordStops.{IsPartOut}
use Rattle.law_state.proofs.Arranging.{rearranged}
use Rattle.law_state.proofs.ChangedStates.{unheld-go, unheld-less}
use Rattle.law_state.proofs.DoneSteps.{touch-done}
use Rattle.law_state.proofs.GoingOut.{IsAloneIn, goes-out, holds-between, out-of-list, out-removed, ready-out, unchained, unlisted}
use Rattle.law_state.proofs.LaidOut.{each-item}
use Rattle.law_state.proofs.Leaving.{leaves-then}
use Rattle.law_state.proofs.OneMoreOut.{leaves, one-more-goes}
use Rattle.law_state.proofs.OutGroups.{unheld-out-dooms-end}
use Rattle.law_state.proofs.PartlyOut.{kept-begin, only-listed, partly-out-ends}
use Rattle.law_state.proofs.PartlyOutStops.{next-parts-find, own-items-leave, partly-out-dooms-stop}
use Rattle.law_state.proofs.PartsOut.{part-out}
use Rattle.law_state.proofs.PlainRemovals.{doomed-removed, part-removed, plain-groups-go, removing-doomed, removing-part, unheld-dooms-end}
use Rattle.law_state.proofs.Removals.{removed-unlinked}
use Rattle.law_state.proofs.Touched.{touch-counts}
use Rattle.law_state.proofs.Touched as touched
use Rattle.law_state.proofs.WholeRemovals.{whole-removed}
use Rattle.law_state.proofs.WorkedFolder.{data_words, index_words, nodes_words, records_words, short_folder}
use Rattle.law_state.proofs.WorkedKept.{same-bytes, worked-keeps, worked_folder}
use Rattle.law_state.proofs.WorkedState.{chain_of, nodes, plain_object, records, sparse_object, the_parent, the_part, the_plain, worked, worked_layout}

-- ---- the folder can be written

short-small : (file : File) → AreSmall (bytes_of short_folder file)
unfolding short_folder
short-small Index = small-words index_words (zeros index_length) (small-zeros index_length)
short-small (Block zero) = small-words nodes_words (zeros 8336) (small-zeros 8336)
short-small (Block (suc zero)) = small-words records_words (zeros 10240) (small-zeros 10240)
short-small (Block (suc (suc zero))) = small-words (new_file_words 2) (zeros 8192) (small-zeros 8192)
short-small (Block (suc (suc (suc zero)))) = small-words data_words (zeros 20480) (small-zeros 20480)
short-small (Block (suc (suc (suc (suc n))))) = λ i. lit< tt
short-small (External n) = λ i. lit< tt

index-long : length_of worked_folder Index ≡ index_length
unfolding worked_folder short_folder
index-long = length-with_words index_words (zeros index_length) ∙ length-zeros index_length

pub worked-writable : IsWritable worked_folder
worked-writable = record { bytes = λ file i. subst (λ (f : ℕ → ℕ). f i < 256) (sym (same-bytes file)) (short-small file i); has_header = subst (λ (n : ℕ). header_length ≤ n) (sym index-long) (lit≤ tt) }

-- ---- an access

-- `b` is accessed, and then in front
pub touched_b : IsTouchDone worked_folder (nodes 2) (after (steps_of_touch (nodes 2) 70 worked_folder) worked_folder)
touched_b = touch-done worked_folder (nodes 2) 70 (nodes 1 ∷ nodes 0 ∷ []) [] worked-writable (record { whole = worked-keeps.entries.represents.list; idle = worked-keeps.entries.represents.idle })

pub b_is_in_front : Keeps (with_used worked (main (codes "b"))) worked_layout [] (after (steps_of_touch (nodes 2) 70 worked_folder) worked_folder)
b_is_in_front = touch-counts worked worked_layout [] worked_folder (after (steps_of_touch (nodes 2) 70 worked_folder) worked_folder) (main (codes "b")) worked-keeps refl touched_b

-- it is another state that lies there, whose words in use are the same in another order
b_is_arranged : IsArranged (with_used worked (main (codes "b"))) worked_layout worked-keeps.entries.numbers [] (after (steps_of_touch (nodes 2) 70 worked_folder) worked_folder)
b_is_arranged = touched.arranged worked worked_layout [] worked_folder (after (steps_of_touch (nodes 2) 70 worked_folder) worked_folder) (main (codes "b")) worked-keeps.entries refl touched_b

b_is_rearranged : KeepsUncounted (with_used worked (main (codes "b"))) worked_layout [] (after (steps_of_touch (nodes 2) 70 worked_folder) worked_folder)
b_is_rearranged = rearranged worked (with_used worked (main (codes "b"))) worked_layout worked_layout [] [] worked-keeps.entries.numbers worked_folder (after (steps_of_touch (nodes 2) 70 worked_folder) worked_folder) worked-keeps.entries
    (touched.leaves worked worked_layout [] worked_folder (after (steps_of_touch (nodes 2) 70 worked_folder) worked_folder) (main (codes "b")) worked-keeps.entries refl touched_b) b_is_arranged
    (touched.same-words worked worked_layout [] worked_folder (after (steps_of_touch (nodes 2) 70 worked_folder) worked_folder) (main (codes "b")) worked-keeps.entries refl touched_b)

-- ---- the records are alone in their chains

-- what holds of the three chains and of none holds of each
pub each-chain : (P : List ℕ → Type 0) (other : ℕ) → ((other == 0xA782) ≡ true → P (records 0 ∷ [])) → ((other == 0xB6C) ≡ true → P (records 1 ∷ [])) → ((other == 0xA0E1) ≡ true → P (records 2 ∷ [])) → P [] → P (chain_of other)
each-chain P other one two three none = go (other == 0xA782) (other == 0xB6C) (other == 0xA0E1) refl refl refl where
  go : (s t u : Bool) → (other == 0xA782) ≡ s → (other == 0xB6C) ≡ t → (other == 0xA0E1) ≡ u → P (if s then records 0 ∷ [] else if t then records 1 ∷ [] else if u then records 2 ∷ [] else [])
  go true t u e f g = one e
  go false true u e f g = two f
  go false false true e f g = three g
  go false false false e f g = none

-- without these, and without one more, it is the same
abbrev pub IsSameWithout : (ℕ → Bool) → ℕ → List ℕ → Type 0
IsSameWithout before contents chain = filter (λ w. not (w == contents)) (filter before chain) ≡ filter before chain

pub not-both : {A : Type 0} {b : Bool} → b ≡ true → b ≡ false → A
not-both is not = absurd (let c : true ≡ false = sym is ∙ not in cc)

pub alone_b : IsAloneIn chain_of 0xA0E1 (records 2)
alone_b = record {
  small = lit< tt;
  alone = refl;
  none = refl;
  others = λ other apart. each-chain (λ chain. filter (λ w. not (w == records 2)) chain ≡ chain) other (λ e. refl) (λ e. refl) (λ e. not-both e apart) refl;
}

pub alone_part : IsAloneIn chain_of 0xB6C (records 1)
alone_part = record {
  small = lit< tt;
  alone = refl;
  none = refl;
  others = λ other apart. each-chain (λ chain. filter (λ w. not (w == records 1)) chain ≡ chain) other (λ e. refl) (λ e. not-both e apart) (λ e. refl) refl;
}

pub alone_main : IsAloneIn chain_of 0xA782 (records 0)
alone_main = record {
  small = lit< tt;
  alone = refl;
  none = refl;
  others = λ other apart. each-chain (λ chain. filter (λ w. not (w == records 0)) chain ≡ chain) other (λ e. not-both e apart) (λ e. refl) (λ e. refl) refl;
}

pub alone_after : IsAloneIn (chains_but chain_of (records 0)) 0xB6C (records 1)
alone_after = record {
  small = lit< tt;
  alone = refl;
  none = refl;
  others = λ other apart. each-chain (IsSameWithout (λ w. not (w == records 0)) (records 1)) other (λ e. refl) (λ e. not-both e apart) (λ e. refl) refl;
}

pub alone_last : IsAloneIn (chains_but chain_of (records 1)) 0xA782 (records 0)
alone_last = record {
  small = lit< tt;
  alone = refl;
  none = refl;
  others = λ other apart. each-chain (IsSameWithout (λ w. not (w == records 1)) (records 0)) other (λ e. not-both e apart) (λ e. refl) (λ e. refl) refl;
}

-- ---- `b` is removed

abbrev all_kept : KeepsPartlyOut worked worked_layout (λ item. true) chain_of [] worked_folder
all_kept = kept-begin worked worked_layout [] worked_folder worked-keeps.entries

abbrev pub without_b : Image
without_b = unchained (unlisted worked_folder (nodes 2)) 0xA0E1

pub removed_b : IsRemoved worked_layout (main (codes "b")) the_plain worked_folder without_b
removed_b = out-removed worked_layout (main (codes "b")) the_plain worked_folder without_b (goes-out worked worked_layout (λ item. true) chain_of [] worked_folder all_kept worked-writable (main (codes "b")) the_plain refl (nodes 1 ∷ nodes 0 ∷ []) [] refl 0xA0E1 alone_b)

pub b-unlisted : IsRemovalDone worked_folder (nodes 2) (unlisted worked_folder (nodes 2))
b-unlisted = out-of-list worked worked_layout (λ item. true) chain_of [] worked_folder all_kept worked-writable (main (codes "b")) the_plain refl (nodes 1 ∷ nodes 0 ∷ []) [] refl 0xA0E1 alone_b

pub b-ready : IsWritable without_b
b-ready = ready-out worked worked_layout (λ item. true) chain_of [] worked_folder all_kept worked-writable (main (codes "b")) the_plain refl (nodes 1 ∷ nodes 0 ∷ []) [] refl 0xA0E1 alone_b

-- the durable contents without it are recovered
b_is_not_found : Finds (rest (doomed 0 worked (Some plain_object))) without_b
b_is_not_found = (removing-doomed worked worked_layout [] worked_folder without_b 0 plain_object the_plain worked-keeps.entries refl refl refl refl).1 removed_b.removing

-- its words are unlinked
pub b_is_gone : KeepsUncounted (doomed 0 worked (Some plain_object)) (layout_removed worked_layout (nodes 2) (records 2)) (words_of the_plain ++ []) without_b
b_is_gone = doomed-removed worked worked_layout [] worked_folder without_b 0 plain_object the_plain worked-keeps.entries refl refl refl refl removed_b

-- so a DoomKey of it ends
b_is_doomed : KeepsUncounted (step worked 100 (to_doom_key (codes "b"))).state (layout_removed worked_layout (nodes 2) (records 2)) (words_of the_plain ++ []) without_b
b_is_doomed = unheld-dooms-end worked 100 (to_doom_key (codes "b")) worked_layout [] worked_folder without_b 0 plain_object the_plain worked-keeps.entries (unfold computing in refl) (unfold computing in refl) refl refl refl refl removed_b

-- and the eviction unit of `b` is out
none-gone : worked ≡ without [] worked
unfolding computing
none-gone = refl

pub b_is_evicted : KeepsUncounted (without ([] ++ whole (codes "b") [] ∷ []) worked) (layout_removed worked_layout (nodes 2) (records 2)) (words_of the_plain ++ []) without_b
b_is_evicted = plain-groups-go worked [] worked_layout [] worked_folder without_b 0 plain_object [] the_plain (subst (λ (m : State). KeepsUncounted m worked_layout [] worked_folder) none-gone worked-keeps.entries) (unfold computing in refl) refl refl (unfold computing in refl) removed_b

-- the state without the eviction unit of `b` is the one without its main item
b_goes_whole : IsWithout worked (doomed 0 worked (Some plain_object)).objects (is_of_another (codes "b")) (main (codes "b"))
b_goes_whole = (unheld-go worked 0 plain_object worked-keeps.entries.valid refl refl refl (λ n. refl) (state_doomed worked worked-keeps.entries.valid 0 plain_object refl refl)).0

b_is_removed : KeepsUncounted (without_items worked (doomed 0 worked (Some plain_object)).objects (is_of_another (codes "b"))) (layout_removed worked_layout (nodes 2) (records 2)) (words_of the_plain ++ []) without_b
b_is_removed = removed-unlinked worked worked_layout [] (doomed 0 worked (Some plain_object)).objects (is_of_another (codes "b")) (main (codes "b")) the_plain worked_folder removed_b.removing.between without_b worked-keeps.entries b_goes_whole refl removed_b.removing.unlisted removed_b.removing.unlinking removed_b.leaves removed_b.sealed

-- ---- the part is evicted alone

abbrev without_part : Image
without_part = unchained (unlisted worked_folder (nodes 1)) 0xB6C

part-goes : IsOneMoreOut worked_layout chain_of (part (codes "a") 0) the_part worked_folder without_part
part-goes = goes-out worked worked_layout (λ item. true) chain_of [] worked_folder all_kept worked-writable (part (codes "a") 0) the_part refl [] (nodes 0 ∷ nodes 2 ∷ []) refl 0xB6C alone_part

pub removed_part : IsRemoved worked_layout (part (codes "a") 0) the_part worked_folder without_part
removed_part = out-removed worked_layout (part (codes "a") 0) the_part worked_folder without_part part-goes

part_is_gone : KeepsUncounted (without (single (codes "a") 0 ∷ []) worked) (layout_removed worked_layout (nodes 1) (records 1)) (words_of the_part ++ []) without_part
part_is_gone = part-removed worked worked_layout [] worked_folder without_part 1 0 sparse_object the_part worked-keeps.entries refl refl refl removed_part

part_is_not_found : Finds (rest (without (single (codes "a") 0 ∷ []) worked)) without_part
part_is_not_found = (removing-part worked worked_layout [] worked_folder without_part 1 0 sparse_object the_part worked-keeps.entries refl refl refl).1 removed_part.removing

-- the part wasn't found either once its node was out of the list
pub part-unlisted : IsRemovalDone worked_folder (nodes 1) (unlisted worked_folder (nodes 1))
part-unlisted = out-of-list worked worked_layout (λ item. true) chain_of [] worked_folder all_kept worked-writable (part (codes "a") 0) the_part refl [] (nodes 0 ∷ nodes 2 ∷ []) refl 0xB6C alone_part

part_is_out : IsPartOut worked worked_layout (codes "a") 0 (unlisted worked_folder (nodes 1))
part_is_out = record {
  sound = part-unlisted.partly.headers.sound worked-keeps.entries.sound;
  except = λ node. false;
  holds = holds-between worked worked_layout worked_folder (unlisted worked_folder (nodes 1)) worked-keeps.entries part-unlisted;
  there = λ item listed other. refl;
  list = part-unlisted.removed [] (nodes 0 ∷ nodes 2 ∷ []) (record { whole = worked-keeps.entries.represents.list; idle = worked-keeps.entries.represents.idle });
}

out_is_gone : Finds (rest (without (single (codes "a") 0 ∷ []) worked)) (unlisted worked_folder (nodes 1))
out_is_gone = part-out worked worked_layout (codes "a") 0 (unlisted worked_folder (nodes 1)) worked-keeps.entries.valid part_is_out

-- ---- `a` is removed, its main item first

abbrev pub without_main : Image
without_main = unchained (unlisted worked_folder (nodes 0)) 0xA782

main-goes : IsOneMoreOut worked_layout chain_of (main (codes "a")) the_parent worked_folder without_main
main-goes = goes-out worked worked_layout (λ item. true) chain_of [] worked_folder all_kept worked-writable (main (codes "a")) the_parent refl (nodes 1 ∷ []) (nodes 2 ∷ []) refl 0xA782 alone_main

pub main_leaves : LeavesFiles worked_folder without_main
main_leaves = leaves worked worked_layout (λ item. true) chain_of [] (main (codes "a")) the_parent worked_folder without_main all_kept refl refl main-goes

main-writable : IsWritable without_main
main-writable = ready-out worked worked_layout (λ item. true) chain_of [] worked_folder all_kept worked-writable (main (codes "a")) the_parent refl (nodes 1 ∷ []) (nodes 2 ∷ []) refl 0xA782 alone_main

abbrev pub but_main : Item → Bool
but_main = keeps_but (λ item. true) (main (codes "a"))

pub main_is_out : KeepsPartlyOut worked worked_layout but_main (chains_but chain_of (records 0)) (words_of the_parent ++ []) without_main
main_is_out = one-more-goes worked worked_layout (λ item. true) chain_of [] (main (codes "a")) the_parent worked_folder without_main all_kept refl refl main-goes

-- no item of another key is out
main_leaves_others : LeavesOtherKeys (codes "a") but_main
main_leaves_others = (own-items-leave (codes "a")).0

-- so a DoomKey of `a` may crash there
stops_between : MayStop worked 100 (to_doom_key (codes "a")) without_main
stops_between = partly-out-dooms-stop worked 100 (to_doom_key (codes "a")) worked_layout 1 sparse_object but_main (chains_but chain_of (records 0)) (words_of the_parent ++ []) without_main (codes_are_bytes (codes "a") (omega arith, tt)) (unfold computing in refl) (unfold computing in refl) refl main_leaves_others main_is_out

-- then the part of `a` is out
abbrev pub without_a : Image
without_a = unchained (unlisted without_main (nodes 1)) 0xB6C

abbrev pub chains_left : ℕ → List ℕ
chains_left = chains_but (chains_but chain_of (records 0)) (records 1)

part-follows : IsOneMoreOut worked_layout (chains_but chain_of (records 0)) (part (codes "a") 0) the_part without_main without_a
part-follows = goes-out worked worked_layout but_main (chains_but chain_of (records 0)) (words_of the_parent ++ []) without_main main_is_out main-writable (part (codes "a") 0) the_part refl [] (nodes 2 ∷ []) refl 0xB6C alone_after

pub a-writable : IsWritable without_a
a-writable = ready-out worked worked_layout but_main (chains_but chain_of (records 0)) (words_of the_parent ++ []) without_main main_is_out main-writable (part (codes "a") 0) the_part refl [] (nodes 2 ∷ []) refl 0xB6C alone_after

follows-unlisted : IsRemovalDone without_main (nodes 1) (unlisted without_main (nodes 1))
follows-unlisted = out-of-list worked worked_layout but_main (chains_but chain_of (records 0)) (words_of the_parent ++ []) without_main main_is_out main-writable (part (codes "a") 0) the_part refl [] (nodes 2 ∷ []) refl 0xB6C alone_after

-- while `a` is removed, the durable contents with `a` doomed are recovered
next_part_finds : Finds (rest (doomed 1 worked (Some sparse_object))) (unlisted without_main (nodes 1))
next_part_finds = next-parts-find worked worked_layout 1 sparse_object but_main (chains_but chain_of (records 0)) (words_of the_parent ++ []) 0 without_main (unlisted without_main (nodes 1)) refl main_leaves_others main_is_out refl refl follows-unlisted.partly

both_are_out : KeepsPartlyOut worked worked_layout (keeps_but but_main (part (codes "a") 0)) chains_left (words_of the_part ++ words_of the_parent ++ []) without_a
both_are_out = one-more-goes worked worked_layout but_main (chains_but chain_of (records 0)) (words_of the_parent ++ []) (part (codes "a") 0) the_part without_main without_a main_is_out refl refl part-follows

-- these are all of its items
pub a_is_out : KeepsPartlyOut worked worked_layout (is_of_another (codes "a")) chains_left (words_of the_part ++ words_of the_parent ++ []) without_a
a_is_out = only-listed worked worked_layout (keeps_but but_main (part (codes "a") 0)) (is_of_another (codes "a")) chains_left (words_of the_part ++ words_of the_parent ++ []) without_a both_are_out same where
  same : (item : Item) → is_listed worked item ≡ true → keeps_but but_main (part (codes "a") 0) item ≡ is_of_another (codes "a") item
  same = each-item (λ item. keeps_but but_main (part (codes "a") 0) item ≡ is_of_another (codes "a") item) worked.uses (refl, (refl, (refl, tt)))

-- so a DoomKey of it ends, with its words unlinked
a_is_doomed : KeepsUncounted (step worked 100 (to_doom_key (codes "a"))).state (layout_less worked_layout (gone_nodes worked worked_layout (is_of_another (codes "a"))) chains_left) (words_of the_part ++ words_of the_parent ++ []) without_a
a_is_doomed = unheld-out-dooms-end worked 100 (to_doom_key (codes "a")) worked_layout (words_of the_part ++ words_of the_parent ++ []) chains_left without_a 1 sparse_object (unfold computing in refl) (unfold computing in refl) refl refl refl a_is_out

-- as it does where both are out before anything is freed
pub a_is_whole_out : IsWholeOut worked worked_layout (codes "a") chains_left worked_folder without_a
a_is_whole_out = record {
  leaves = leaves-then worked_folder without_main without_a main_leaves
      (leaves worked worked_layout but_main (chains_but chain_of (records 0)) (words_of the_parent ++ []) (part (codes "a") 0) the_part without_main without_a main_is_out refl refl part-follows);
  list = a_is_out.list;
  holds = a_is_out.holds;
  chained = a_is_out.chained;
  out = a_is_out.out;
  sealed = λ node loaded here stays was. a_is_out.sealed node loaded here stays;
}

a_is_removed : KeepsUncounted (doomed 1 worked (Some sparse_object)) (layout_without_key worked worked_layout (codes "a") chains_left) (words_of_key worked worked_layout (codes "a") ++ []) without_a
a_is_removed = whole-removed worked worked_layout [] chains_left worked_folder without_a 1 sparse_object worked-keeps.entries refl refl refl a_is_whole_out

-- the state with `a` doomed is the one without its items
a_goes_whole : IsLess worked (doomed 1 worked (Some sparse_object)).objects (is_of_another (codes "a"))
a_goes_whole = unheld-less worked 1 sparse_object worked-keeps.entries.valid refl refl refl (state_doomed worked worked-keeps.entries.valid 1 sparse_object refl refl)

pub a_ends_kept : KeepsUncounted (without_items worked (doomed 1 worked (Some sparse_object)).objects (is_of_another (codes "a"))) (layout_less worked_layout (gone_nodes worked worked_layout (is_of_another (codes "a"))) chains_left) (words_of the_part ++ words_of the_parent ++ []) without_a
a_ends_kept = partly-out-ends worked worked_layout (words_of the_part ++ words_of the_parent ++ []) (doomed 1 worked (Some sparse_object)).objects (is_of_another (codes "a")) chains_left without_a a_is_out a_goes_whole
