-- The laws of items that are accessed and that are new, of what is found, of costs, growth and order, each at an example that meets its premises.
use Rattle.std.proofs.Common.{◌≡◌, ℕ, zero, suc, ◌+◌, ◌<◌, ◌≤◌, ◌⊎◌, inr, List, [], ◌∷◌, ◌++◌, length, map, take, refl, ap, sym, ◌∙◌, subst, arith, lit<, Bool, true, false, Some, None}
use Rattle.std.specs.Prelude.{codes, ◌&&◌, ◌==◌, nat_le, nat_lt}
use Rattle.std.proofs.lemmas.Bool.Decides.{nat_tests}
use Rattle.std.specs.List.{sum_by}
use Rattle.spec_image.specs.Image.{File, Index, Block, External, Image, bytes_of}
use Rattle.spec_image.specs.Footprint.{SameOutside, one_word, range}
use Rattle.spec_image.specs.Steps.{Delete, Word, applied, after}
use Rattle.spec_image.specs.Bytes.{word_bytes, zeros}
use Rattle.spec_image.proofs.Footprints.{outside_write}
use Rattle.spec_image.proofs.Images.{length-after_write}
use Rattle.blk_model.specs.Items.{Row, main}
use Rattle.blk_model.specs.State.{State, IsValidState, live_with}
use Rattle.blk_model.specs.Holding.{open_state, rest, rows}
use Rattle.blk_model.specs.Request.{to_open, to_create}
use Rattle.blk_model.specs.Effects.{used, created, new_object}
use Rattle.blk_model.specs.Step.{step}
use Rattle.blk_model.specs.Stops.{StopOutcome}
use Rattle.blk_model.specs.Totals.{row_charge}
use Rattle.spec_format.specs.BlockFiles.{is_among, IsWhole}
use Rattle.spec_format.specs.Growth.{HaveGrown}
use Rattle.spec_format.specs.Headers.{HasWholeIndex, index_length, is_extent_place}
use Rattle.spec_format.specs.Hash.{hash, mixed, of_bytes, of_one}
use Rattle.spec_format.proofs.Finished.{finished_whole, whole_index as whole_index_is, sound-of}
use Rattle.spec_folder.specs.View.{StoreView, view_of, store_of}
use Rattle.spec_folder.specs.ListView.{after_writes}
use Rattle.spec_folder.specs.Completion.{insert}
use Rattle.spec_folder.specs.ListPlans.{writes_of, touch_writes}
use Rattle.spec_folder.specs.Emptiness.{no_layout}
use Rattle.spec_folder.specs.Chains.{bucket_of_hash}
use Rattle.spec_folder.specs.Entries.{stored_key}
use Rattle.spec_folder.specs.Loads.{held_rule, listed_rule, Loaded}
use Rattle.spec_folder.specs.Audit.{kept_by, kept_as, kept_nodes, kept_among}
use Rattle.spec_folder.specs.Found as volume
use Rattle.spec_folder.specs.Shown.{IsShown}
use Rattle.spec_folder.specs.Layout.{IsLayoutOf, Represents}
use Rattle.spec_folder.specs.Creation.{with_first, with_item}
use Rattle.spec_folder.specs.Footprint.{AgreeBut, is_absent}
use Rattle.spec_folder.specs.ShownChanges.{ShowsTheSame}
use Rattle.spec_folder.specs.Sound.{AreSealed, IsInOrder}
use Rattle.spec_folder.specs.StandsFor.{StandsFor, doomed_of}
use Rattle.spec_folder.specs.Tidy.{IsTidy, HasState, IsBehindHeaders, FilesStand}
use Rattle.spec_folder.specs.ListImages.{IsWritable, steps_of_touch}
use Rattle.spec_format.specs.NewFolder.{new_index_words, new_file_words}
use Rattle.law_folder.proofs.updates.Counting.{files-stand}
use Rattle.law_folder.proofs.commands.TouchedStates.{states-stand, touched-state}
use Rattle.law_folder.proofs.examples.ExampleWrites.{small-zeros}
use Rattle.law_folder.proofs.updates.Prefixes.{AreSmall, small-words}
use Rattle.spec_folder.specs.Searches.{bucket_of_key, chained_for, HasKey, NoneHasKey, IsOfLive}
use Rattle.law_folder.specs.ByteLaws.{IsWithoutFile, IsOfHeaders}
use Rattle.law_folder.specs.ChargeLaws.{AreTotals, AreOpenedTotals}
use Rattle.law_folder.specs.CommandLaws.{IsWrittenApart, touched_view}
use Rattle.law_folder.specs.SearchLaws.{IsSearchable}
use Rattle.law_folder.proofs.states.Charges.{items-charged, listed-charges, listed-totals, opened-totals}
use Rattle.law_folder.proofs.commands.Created.{written-stay, before-insert, at-each-write, at-end, after-link, at-the-step}
use Rattle.law_folder.proofs.commands.Creating.{as-item, changed}
use Rattle.law_folder.proofs.states.Empty.{empty-valid}
use Rattle.law_folder.proofs.examples.ExampleFolders.{some_limits, new-is_empty, new-is_represented, whole-is_allocated, whole-is_in_order, whole-sealed, whole-counts, whole-only, whole-long, whole-stands}
use Rattle.law_folder.proofs.examples.ExampleGrowth.{grown_folder, have-grown}
use Rattle.law_folder.proofs.examples.ExampleItems.{with_second, second, second_node, second-is_written, both, both_layout, both_view, both-are_represented, both-are_valid, open-is_not_refused, create-is_not_refused}
use Rattle.law_folder.proofs.claims.Files.{growth-absent, headers-change, unlinked-go}
use Rattle.law_folder.proofs.walks.Kept.{kept-shown, kept-alone}
use Rattle.law_folder.proofs.states.NewFolders.{new_folder}
use Rattle.law_folder.proofs.commands.NewItems.{new-items-placed}
use Rattle.law_folder.proofs.examples.OneEntry as one
use Rattle.law_folder.proofs.examples.Premises.{state_is_valid}
use Rattle.law_folder.proofs.chains.Searches.{chains-are, searchable, found-live, none-missing}
use Rattle.law_folder.proofs.chains.ShortChains.{represented-chains-short}
use Rattle.law_folder.proofs.states.StoodFor.{stood-found}
use Rattle.law_folder.proofs.states.TidyOrder.{tidy-ordered, tidy-stands}
use Rattle.law_folder.proofs.commands.Touches.{touched-items, touched-items-end, opens-each, opens-end}
use Rattle.law_folder.proofs.examples.WholeFolder.{whole_folder, whole-is_represented, whole-is_well_formed, whole-linked}

-- A store view that shows the same by other words: its operation word and its links of what isn't there may differ; here it is itself.

itself : (store : StoreView) → ShowsTheSame store store
itself store = record {
  store = record { node_fields = λ w clear. refl; entry = λ w clear. refl; chain_next = λ w clear. refl; key_place = λ w fields clear is long short. refl; stored = λ size w clear. refl };
  table = λ b. refl;
}

-- the second item is `a`; its access crashes after one write, and is made
touch-stopped : map volume.row_of_loaded (kept_by held_rule (volume.completed (record { list = after_writes (take 1 (touch_writes one.node both_view.list)) both_view.list; store = both_view.store }))) ≡ rest both
unfolding created
touch-stopped = touched-items both_view both both_layout both-are_represented both-are_valid (main (codes "a")) refl both_view.store (itself both_view.store) 1

touch-made : Represents (record { list = after_writes (touch_writes one.node both_view.list) both_view.list; store = both_view.store }) (record both { uses = used (main (codes "a")) both.uses }) both_layout
unfolding created
touch-made = (touched-items-end both_view both both_layout both-are_represented both-are_valid (main (codes "a")) refl both_view.store (itself both_view.store)).0

open-stopped : StopOutcome both 7 (to_open 2 (codes "a")) (step both 7 (to_open 2 (codes "a"))).state (map volume.row_of_loaded (kept_by held_rule (volume.completed (touched_view both_view one.node 3))))
open-stopped = opens-each both_view both both_layout both-are_represented both-are_valid 7 2 (codes "a") open-is_not_refused both_view.store (itself both_view.store) 3

open-made : Represents (record { list = after_writes (touch_writes one.node both_view.list) both_view.list; store = both_view.store }) (step both 7 (to_open 2 (codes "a"))).state both_layout
open-made = opens-end both_view both both_layout both-are_represented both-are_valid 7 2 (codes "a") open-is_not_refused both_view.store (itself both_view.store)

-- A Create of `b`: while it is written, while it is inserted, and after its link.

create-still-written : IsWrittenApart (one.view 0) with_second (one.state true) (one.layout 0) (codes "b") second
create-still-written = written-stay (one.view 0) with_second (one.state true) (one.layout 0) (codes "b") second second-is_written with_second.store (itself with_second.store)

create-before : map volume.row_of_loaded (kept_by held_rule (volume.completed with_second)) ≡ rest (one.state true)
create-before = before-insert second-is_written.touched (one.view 0) with_second (one.state true) (one.layout 0) second-is_written.represents second-is_written.valid second-is_written.same second-is_written.free

create-during : map volume.row_of_loaded (kept_by held_rule (volume.completed (record { list = after_writes (take 3 (writes_of insert second_node with_second.list)) with_second.list; store = with_second.store }))) ≡ rest (one.state true)
create-during = at-each-write (one.view 0) with_second (one.state true) (one.layout 0) (codes "b") second second-is_written with_second.store (itself with_second.store) 3

create-made : Represents both_view both both_layout
create-made = at-end (one.view 0) with_second (one.state true) (one.layout 0) (codes "b") second second-is_written 1 with_second.store both_view.store (itself with_second.store) (itself both_view.store)

create-after : map volume.row_of_loaded (kept_by held_rule (volume.completed both_view)) ≡ rest (one.state true)
create-after = after-link (one.view 0) with_second (one.state true) (one.layout 0) (codes "b") second second-is_written 1 both-are_valid with_second.store both_view.store (itself with_second.store) (itself both_view.store)

create-steps : (step (one.state true) 7 (to_create 1 (codes "b"))).state ≡ both
create-steps = at-the-step (one.state true) 1 (codes "b") 7 create-is_not_refused.0 create-is_not_refused.1

-- as an item that is new it is placed
create-placed : IsLayoutOf (with_first (one.state true) (Some (one.object true) ∷ Some (new_object (codes "b")) ∷ []) (main (codes "b"))) (with_item (one.layout 0) (main (codes "b")) second)
create-placed = new-items-placed (one.state true) (Some (one.object true) ∷ Some (new_object (codes "b")) ∷ []) (one.layout 0) (main (codes "b")) second (one.represented 0).holds.lies
    (changed (one.state true) (one.layout 0) (one.represented 0).holds.lies with_second.store 1 (codes "b") second second-is_written.entry second-is_written.missing)
    (as-item (one.state true) (one.layout 0) (one.represented 0).holds.lies with_second.store 1 (codes "b") second second-is_written.entry second-is_written.missing)

-- Searches.

search-can : IsSearchable (one.view 0) (codes "a")
search-can = searchable (one.view 0) (one.state true) (one.layout 0) (one.represented 0) (codes "a")

record-is_chained : is_among (chained_for (one.view 0).store (codes "a")) one.contents ≡ true
record-is_chained =
    ap (λ (ws : List ℕ). is_among ws one.contents) (chains-are (one.view 0) (one.state true) (one.layout 0) (one.represented 0) (bucket_of_key (codes "a")) (omega arith) ∙ ap (λ (h : ℕ). (one.layout 0).chains (bucket_of_hash h)) one.its-bucket)

its-key : HasKey (one.view 0).store (codes "a") false one.contents
unfolding stored_key hash mixed of_bytes of_one
its-key = record { fields = one.fields; here = refl; hashed = refl; key = refl; flag = refl }

record-is_live : IsOfLive (one.state true) (one.layout 0) (codes "a") one.contents one.node
unfolding its-key
record-is_live = found-live (one.view 0) (one.state true) (one.layout 0) (one.represented 0) (codes "a") one.contents record-is_chained its-key

chain-is_short : (length ((one.layout 0).chains one.bucket) ≤ 1) × (length ((one.layout 0).chains one.bucket) ≤ 131072)
chain-is_short = represented-chains-short (one.view 0) (one.state true) (one.layout 0) (one.represented 0) one.bucket (omega arith)

-- in a new folder no record has the key
none-there : NoneHasKey (store_of (new_folder 50)) (chained_for (store_of (new_folder 50)) (codes "a")) (codes "a") false
none-there w among has = absurd (let c : false ≡ true = sym (ap (λ (ws : List ℕ). is_among ws w) (chains-are (view_of (new_folder 50)) (open_state [] some_limits) no_layout new-is_represented (bucket_of_key (codes "a")) (omega arith))) ∙ among in cc)

none-is_missing : live_with (open_state [] some_limits) (codes "a") ≡ None
none-is_missing = none-missing (view_of (new_folder 50)) (open_state [] some_limits) no_layout new-is_represented (empty-valid some_limits) (codes "a") none-there

-- Costs.

entry-is_charged : volume.charge_of (one.loaded 0) ≡ 3
entry-is_charged = items-charged (one.view 0) (one.state true) (one.layout 0) (one.represented 0) (main (codes "a")) (one.loaded 0) refl refl

whole-charges : sum_by volume.charge_of (kept_by listed_rule (view_of whole_folder)) ≡ sum_by (row_charge (one.state true)) (rows (one.state true))
whole-charges = listed-charges whole_folder (one.state true) (one.layout 0) whole-is_represented (state_is_valid true)

whole-totals : AreTotals whole_folder (one.state true)
whole-totals = listed-totals whole_folder (one.state true) (one.layout 0) whole-is_represented (state_is_valid true)

new-opened : open_state [] some_limits ≡ open_state (volume.found (new_folder 50)) some_limits
new-opened = ap (λ (rs : List Row). open_state rs some_limits) (sym new-is_empty)

new-totals : AreOpenedTotals (new_folder 50) (open_state (volume.found (new_folder 50)) some_limits)
new-totals = opened-totals (new_folder 50) some_limits no_layout (subst (λ (s : State). Represents (view_of (new_folder 50)) s no_layout) new-opened new-is_represented) (subst IsValidState new-opened (empty-valid some_limits))

-- Files.

grown-was_absent : AgreeBut (is_absent whole_folder) whole_folder grown_folder
grown-was_absent = growth-absent whole_folder grown_folder have-grown

-- the count of entries of data_1 is written
abbrev counted : Image
counted = applied (Word (Block 1) 16 (word_bytes 9)) whole_folder

counter-outside : SameOutside (one_word (Block 1) 16) whole_folder counted
counter-outside = outside_write (Block 1) 16 (word_bytes 9) whole_folder

counter-is_of_headers : IsOfHeaders (one_word (Block 1) 16)
counter-is_of_headers = record { index = λ i shown. refl; extents = λ n i extent. apart n i (is-extent i extent); suffix = λ n i past. apart n i (inr (omega (arith, past))); externals = λ n i. refl; external_sizes = λ n. refl } where
  is-extent : (i : ℕ) → is_extent_place i ≡ true → (i < 16) ⊎ (20 ≤ i)
  is-extent i e = grind (arith, nat_tests)

  outside : (b : Bool) (i : ℕ) → (i < 16) ⊎ (20 ≤ i) → (b && (nat_le 16 i && nat_lt i (16 + 4))) ≡ false
  outside false i e = refl
  outside true i e = grind (arith, nat_tests)

  apart : (n i : ℕ) → (i < 16) ⊎ (20 ≤ i) → (one_word (Block 1) 16).bytes (Block n) i ≡ false
  apart n i e = outside (1 == n) i e

counter-has_grown : HaveGrown whole_folder counted
counter-has_grown = headers-change (one_word (Block 1) 16) whole_folder counted counter-is_of_headers counter-outside (λ n. let e = length-after_write whole_folder (Block 1) (Block n) 16 (word_bytes 9) in omega (arith, e))

-- data_9 isn't linked, so it may be deleted
ninth-may_go : IsWithoutFile whole_folder (applied (Delete (Block 9)) whole_folder)
ninth-may_go = unlinked-go whole_folder 9 (whole-linked 9)

-- Order.

whole-tidy : IsTidy whole_folder (one.state true) (one.layout 0) []
whole-tidy = record {
  only_linked = whole-only;
  long_enough = whole-long;
  counted = λ n is. whole-is_in_order.counted n is;
  counts = whole-counts;
  sealed = λ w l here. subst (AreSealed whole_folder) (one.at-node 0 w l here).1 whole-sealed;
}

whole-ordered : IsInOrder whole_folder (kept_by listed_rule (view_of whole_folder)) (map (λ (d : ℕ × Loaded). d.1) (doomed_of (one.layout 0) []))
whole-ordered = tidy-ordered whole_folder (one.state true) (one.layout 0) [] whole-is_represented (state_is_valid true) whole-tidy

whole-stands_tidy : StandsFor whole_folder (one.state true)
whole-stands_tidy = tidy-stands whole_folder (one.state true) (one.layout 0) [] whole-is_represented (state_is_valid true) whole-is_allocated whole-is_well_formed whole-tidy

whole-has : HasState (one.state true) (one.layout 0) [] whole_folder
whole-has = record { valid = state_is_valid true; well_formed = whole-is_well_formed; represents = whole-is_represented; allocated = whole-is_allocated; tidy = whole-tidy }

whole-stands_by_state : StandsFor whole_folder (one.state true)
whole-stands_by_state = states-stand whole_folder (one.state true) (one.layout 0) [] whole-has

whole-small : (file : File) → AreSmall (bytes_of whole_folder file)
unfolding whole_folder
whole-small Index = small-words (new_index_words 50 ++ (8, 1) ∷ (48, 3) ∷ (268, 1) ∷ (288, 0x90000000) ∷ (308, 0x90000000) ∷ (171896, 0xA0010000) ∷ []) (zeros index_length) (small-zeros index_length)
whole-small (Block zero) = small-words (new_file_words 0 ++ (16, 1) ∷ (20, 1024) ∷ (32, 1) ∷ (36, 255) ∷ (80, 1) ∷ (8208, 0x90000000) ∷ (8212, 0x90000000) ∷ (8216, 0xA0010000) ∷ (8224, 0xfe7f2cf2) ∷ []) (zeros 45056) (small-zeros 45056)
whole-small (Block (suc zero)) = small-words (new_file_words 1 ++ (16, 2) ∷ (20, 1024) ∷ (28, 1) ∷ (36, 255) ∷ (80, 3) ∷ (8192, 0x115EA782) ∷ (8200, 0x90000000) ∷ (8224, 1) ∷ (8232, 2) ∷ (8248, 0xA0010001) ∷ (8284, 0x2c6f24c8) ∷ (8288, 97) ∷ (8448, 0x7A7A) ∷ []) (zeros 270336) (small-zeros 270336)
whole-small (Block (suc (suc zero))) = small-words (new_file_words 2) (zeros 8192) (small-zeros 8192)
whole-small (Block (suc (suc (suc zero)))) = small-words (new_file_words 3) (zeros 8192) (small-zeros 8192)
whole-small (Block (suc (suc (suc (suc n))))) = λ i. lit< tt
whole-small (External n) = λ i. lit< tt

pub whole-writable : IsWritable whole_folder
whole-writable = record { bytes = λ file i. whole-small file i; has_header = let long = whole_index_is whole_folder whole-is_well_formed in omega (arith, long) }

-- the entry of the whole folder is accessed
touched-has : HasState (record (one.state true) { uses = used (main (codes "a")) (one.state true).uses }) (one.layout 0) [] (after (steps_of_touch one.node 70 whole_folder) whole_folder)
touched-has = touched-state whole_folder (one.state true) (one.layout 0) [] whole-has whole-writable (main (codes "a")) 70 refl

-- two bytes of its stream are written
stream-is_behind : IsBehindHeaders (range (Block 1) 8448 2)
stream-is_behind = record { bytes = λ n i small. behind (1 == n) i small; sizes = λ file. refl } where
  behind : (b : Bool) (i : ℕ) → i < 8192 → (b && (nat_le 8448 i && nat_lt i (8448 + 2))) ≡ false
  behind false i small = refl
  behind true i small = grind (arith, nat_tests)

files-still_stand : FilesStand whole_folder (applied (Word (Block 1) 8448 (121 ∷ 122 ∷ [])) whole_folder)
files-still_stand = files-stand (range (Block 1) 8448 2) whole_folder (applied (Word (Block 1) 8448 (121 ∷ 122 ∷ [])) whole_folder) stream-is_behind (outside_write (Block 1) 8448 (121 ∷ 122 ∷ []) whole_folder) (sound-of whole_folder whole-is_well_formed)

whole-found : volume.found whole_folder ≡ rest (one.state true)
whole-found = stood-found whole_folder (one.state true) whole-stands

whole-whole : IsWhole whole_folder × HasWholeIndex whole_folder
whole-whole = (finished_whole whole_folder whole-is_well_formed, whole_index_is whole_folder whole-is_well_formed)

kept-is_shown : IsShown (one.store one.contents 0) held_rule (kept_nodes (one.store one.contents 0) held_rule (one.node ∷ [])) (kept_as (one.store one.contents 0) held_rule (one.node ∷ []))
kept-is_shown = kept-shown (one.store one.contents 0) held_rule (one.node ∷ []) (refl, tt)

kept-is_alone : kept_among (one.store one.contents 0) held_rule (kept_nodes (one.store one.contents 0) held_rule (one.node ∷ [])) ≡ kept_among (one.store one.contents 0) held_rule (one.node ∷ [])
kept-is_alone = kept-alone (one.store one.contents 0) held_rule (one.node ∷ []) (refl, tt)
