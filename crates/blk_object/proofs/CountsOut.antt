-- The counters while items of an object are out.
use Rattle.std.proofs.Common.{◌≡◌, ℕ, ◌<◌, List, [], ◌∷◌, refl, ap, sym, ◌∙◌, subst, lit≤, Bool, true, false, Some, length}
use Rattle.std.specs.Prelude.{◌^◌, filter}
use Rattle.std.specs.List.{sum_by}
use Rattle.std.specs.Option.{ForSome}
use Rattle.spec_image.specs.Image.{Image, Index, byte}
use Rattle.spec_image.specs.Steps.{word_step}
use Rattle.spec_image.specs.Told.{Along, AppliesPrefix, Passes, Told}
use Rattle.spec_image.proofs.Runs.{passes_part, some_inj}
use Rattle.blk_disk.specs.declared.tables.BlockFiles.{BlockFiles}
use Rattle.blk_disk.specs.Open.{IsOpen}
use Rattle.blk_model.specs.Effects.{doomed}
use Rattle.blk_model.specs.Items.{Item}
use Rattle.blk_model.specs.Room.{whole, without}
use Rattle.blk_model.specs.State.{State}
use Rattle.blk_model.proofs.Doomed.{state_doomed}
use Rattle.spec_format.specs.Claims.{Claim}
use Rattle.spec_format.specs.Headers.{counting}
use Rattle.law_folder.specs.IndexWrites.{IsIndexWord}
use Rattle.spec_folder.specs.Found.{charge_of}
use Rattle.spec_folder.specs.Layout.{Layout, nodes_of}
use Rattle.spec_folder.specs.Loads.{Loaded}
use Rattle.spec_folder.specs.Removal.{is_of_another}
use Rattle.law_state.specs.Changes.{ChangesOnly, SameCounters}
use Rattle.law_state.specs.CountsOfParts.{charges_at}
use Rattle.law_state.specs.GroupLaws.{gone_nodes, layout_less}
use Rattle.law_state.specs.Keeping.{Keeps}
use Rattle.law_state.specs.PartlyOut.{keeps_but}
use Rattle.law_state.proofs.ChangedStates.{same-state, unheld-less}
use Rattle.law_state.proofs.CommandEnding.{dooms-end, groups-turn}
use Rattle.law_state.proofs.CountsOfParts.{next-less}
use Rattle.law_state.proofs.Groups as groups
use Rattle.law_state.proofs.GroupsGone.{whole-groups-go}
use Rattle.law_state.proofs.PartlyFreed.{out-changes}
use Rattle.law_state.proofs.PartlyOut.{partly-out-ends}
use Rattle.law_state.proofs.Writes.{index-words}
use Rattle.blk_object.specs.RemovingNext.{CountedLessIsStillOut, CountedOutDoomsEnd, CountedOutEndsKept, CountedOutGroupsAreGone, CountsLeft, KeepsOut, KeptStatesCountAll, NextItemsAreCountedLess}
use Rattle.blk_object.proofs.CounterWords.{between, charge-less, counter_steps, entries-set, first, high-set, low-set, one-less, quiet-counters, second, size-set, third}
use Rattle.spec_format.proofs.Counts.{its-bytes64, its-entries, its-nodes}
use Rattle.blk_object.proofs.Counts.{counters-counted, written-as}

-- ---- the counters that are written

abbrev none : Claim → Bool
none claim = false

hidden-out : (from image : Image) → ChangesOnly none from image → KeepsOut from image
hidden-out from image only state layout keep chains unlinked k = out-changes none state layout keep chains unlinked from image k only (λ claim node is stays. refl)

pub entries-out : (from image : Image) (x : ℕ) → IsIndexWord 8 x from image → KeepsOut from image
entries-out from image x w = hidden-out from image (index-words from image 8 refl (lit≤ tt) refl refl refl w.outside)

pub low-out : (from image : Image) (x : ℕ) → IsIndexWord 48 x from image → KeepsOut from image
low-out from image x w = hidden-out from image (index-words from image 48 refl (lit≤ tt) refl refl refl w.outside)

pub high-out : (from image : Image) (x : ℕ) → IsIndexWord 52 x from image → KeepsOut from image
high-out from image x w = hidden-out from image (index-words from image 52 refl (lit≤ tt) refl refl refl w.outside)

pub size-out : (from image : Image) (x : ℕ) → IsIndexWord 268 x from image → KeepsOut from image
size-out from image x w = hidden-out from image (index-words from image 268 refl (lit≤ tt) refl refl refl w.outside)

pub still-out : CountedLessIsStillOut
still-out charge from image l state layout keep chains unlinked k =
    size-out l.written.second image l.size l.written.nodes_written state layout keep chains unlinked
    (high-out l.written.sum_written.between l.written.second _ l.written.sum_written.high state layout keep chains unlinked
    (low-out l.written.first l.written.sum_written.between _ l.written.sum_written.low state layout keep chains unlinked
    (entries-out from l.written.first l.entries l.written.items_written state layout keep chains unlinked k)))

module _ (files : BlockFiles) (from : Image) (entries low high size : ℕ) (open_folder : IsOpen files from) (small_entries : entries < 2 ^ 32) (small_low : low < 2 ^ 32) (small_high : high < 2 ^ 32) (small_size : size < 2 ^ 32) where
  first-out : KeepsOut from (first files from entries low high size open_folder small_entries small_low small_high small_size)
  first-out = entries-out from (first files from entries low high size open_folder small_entries small_low small_high small_size) entries (entries-set files from entries low high size open_folder small_entries small_low small_high small_size)

  between-out : KeepsOut from (between files from entries low high size open_folder small_entries small_low small_high small_size)
  between-out state layout keep chains unlinked k =
      low-out (first files from entries low high size open_folder small_entries small_low small_high small_size) (between files from entries low high size open_folder small_entries small_low small_high small_size) low (low-set files from entries low high size open_folder small_entries small_low small_high small_size)
      state layout keep chains unlinked (first-out state layout keep chains unlinked k)

  second-out : KeepsOut from (second files from entries low high size open_folder small_entries small_low small_high small_size)
  second-out state layout keep chains unlinked k =
      high-out (between files from entries low high size open_folder small_entries small_low small_high small_size) (second files from entries low high size open_folder small_entries small_low small_high small_size) high (high-set files from entries low high size open_folder small_entries small_low small_high small_size)
      state layout keep chains unlinked (between-out state layout keep chains unlinked k)

  third-out : KeepsOut from (third files from entries low high size open_folder small_entries small_low small_high small_size)
  third-out state layout keep chains unlinked k =
      size-out (second files from entries low high size open_folder small_entries small_low small_high small_size) (third files from entries low high size open_folder small_entries small_low small_high small_size) size (size-set files from entries low high size open_folder small_entries small_low small_high small_size)
      state layout keep chains unlinked (second-out state layout keep chains unlinked k)

  out-along : Along (KeepsOut from) from (counter_steps entries low high size)
  unfolding word_step
  out-along = ((λ state layout keep chains unlinked k. k), (first-out, (between-out, (second-out, third-out))))

-- at each word what is kept while some items are out is kept still
pub counters-stop-out : (files : BlockFiles) (a b : Told) (entries low high size : ℕ) → ForSome a.files (IsOpen files) → entries < 2 ^ 32 → low < 2 ^ 32 → high < 2 ^ 32 → size < 2 ^ 32 → AppliesPrefix a b (counter_steps entries low high size) → ForSome a.files (λ from. Passes a b (KeepsOut from))
counters-stop-out files a b entries low high size open_folder small_entries small_low small_high small_size part from there = passes_part (KeepsOut from) (KeepsOut from) part (quiet-counters entries low high size) (λ image keeps. keeps)
    (λ image is. subst (λ (i : Image). Along (KeepsOut from) i (counter_steps entries low high size)) (some_inj (sym there ∙ is)) (out-along files from entries low high size (open_folder from there) small_entries small_low small_high small_size))

-- ---- what is counted

all-kept : (items : List Item) → filter (λ item. true) items ≡ items
all-kept [] = refl
all-kept (i ∷ items) = ap (λ (xs : List Item). i ∷ xs) (all-kept items)

pub all-counted : KeptStatesCountAll
all-counted state layout unlinked image k = k.counters ∙ ap (λ (items : List Item). counting (length items) (charges_at layout (nodes_of layout items))) (sym (all-kept state.uses))

-- where the counters stay, they count what they did
pub still-counted : (state : State) (layout : Layout) (keep : Item → Bool) (from image : Image) → SameCounters from image → CountsLeft state layout keep from → CountsLeft state layout keep image
still-counted state layout keep from image same c = same ∙ c

pub next-counted : NextItemsAreCountedLess
next-counted state layout keep item was from image valid there stays here c l =
    let f : ℕ → ℕ = byte from Index in
    let items : ℕ = length (filter keep state.uses) in
    let sum : ℕ = charges_at layout (nodes_of layout (filter keep state.uses)) in
    let left : ℕ = length (filter (keeps_but keep item) state.uses) in
    let rest : ℕ = charges_at layout (nodes_of layout (filter (keeps_but keep item) state.uses)) in
    let less = next-less state layout keep item was valid there stays here in
    let entries = one-less l.entries items left l.small.0 (l.entries_less ∙ its-entries f items sum c) less.items in
    let bytes = charge-less l.bytes rest sum (charge_of was) l.small.1.0 (l.bytes_less ∙ its-bytes64 f items sum c) less.bytes in
    let size = one-less l.size items left l.small.1.1 (l.size_less ∙ its-nodes f items sum c) less.items in
    counters-counted from image items sum left rest c (written-as from image l.entries l.bytes l.size left rest left entries bytes size l.written)

-- ---- once all that are to be removed are out

pub counted-out-ends : CountedOutEndsKept
counted-out-ends state layout unlinked objects keep chains image k c less = record {
  entries = partly-out-ends state layout unlinked objects keep chains image k less;
  counters = c ∙ ap (λ (ls : List Loaded). counting (length (filter keep state.uses)) (sum_by charge_of ls)) (sym (groups.same-at layout (gone_nodes state layout keep) (nodes_of layout (filter keep state.uses)) (groups.stay-apart state layout keep k.numbers k.lies k.owners)));
}

pub counted-dooms-end : CountedOutDoomsEnd
counted-dooms-end state moment request layout unlinked chains image number object passes is here live unheld k c =
    let valid = state_doomed state k.valid number object here live in
    subst (λ (m : State). Keeps m (layout_less layout (gone_nodes state layout (is_of_another object.key)) chains) unlinked image) (sym (same-state state number object k.valid here live unheld valid) ∙ sym (dooms-end state moment request number object passes is here))
    (counted-out-ends state layout unlinked (doomed number state (Some object)).objects (is_of_another object.key) chains image k c (unheld-less state number object k.valid here live unheld valid))

pub counted-groups-gone : CountedOutGroupsAreGone
counted-groups-gone state first layout unlinked chains image number object parts here live unheld k c =
    let valid = state_doomed (without first state) k.valid number object here live in
    subst (λ (m : State). Keeps m (layout_less layout (gone_nodes (without first state) layout (is_of_another object.key)) chains) unlinked image)
    (sym (same-state (without first state) number object k.valid here live unheld valid) ∙ sym (whole-groups-go (without first state) number object parts k.valid here live unheld) ∙ groups-turn state first (whole object.key parts ∷ []))
    (counted-out-ends (without first state) layout unlinked (doomed number (without first state) (Some object)).objects (is_of_another object.key) chains image k c (unheld-less (without first state) number object k.valid here live unheld valid))
