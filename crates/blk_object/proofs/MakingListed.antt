-- An entry that is written comes into the LRU list and in front of its chain.
use Rattle.std.proofs.Common.{◌≡◌, ◌⊎◌, ℕ, List, ◌∷◌, ◌++◌, Option, None, Some, sym, ◌∙◌, ap, subst, true, ⊎_elim}
use Rattle.std.specs.Prelude.{◌==◌}
use Rattle.std.specs.Option.{ForSome, option_map}
use Rattle.std.proofs.lemmas.Bool.{and_parts, eqb-true}
use Rattle.spec_image.specs.Image.{Image}
use Rattle.spec_image.specs.Steps.{TrailStep, after}
use Rattle.spec_image.specs.Told.{Applies, Commits, MakesPartOf, Passes, TellsBytes, Told}
use Rattle.spec_image.proofs.Footprints.{outside_wider, within_left}
use Rattle.spec_image.proofs.Runs.{passes_end, passes_then, passes_weaker, some_inj}
use Rattle.spec_format.specs.Address.{blocks_256, is_address, kind_of}
use Rattle.spec_format.specs.Sealed.{record_range}
use Rattle.spec_folder.specs.Chains.{bucket_at}
use Rattle.blk_disk.specs.declared.tables.BlockFiles.{BlockFiles}
use Rattle.blk_disk.specs.Open.{IsOpen}
use Rattle.blk_disk.specs.Tables.{is_record_among, names_among, stands_among}
use Rattle.spec_folder.specs.Completion.{insert}
use Rattle.spec_folder.specs.ListImages.{operation_steps, walked}
use Rattle.spec_folder.specs.ListPlans.{writes_of}
use Rattle.spec_folder.specs.ListSteps.{IsPartly, touched_by_writes}
use Rattle.spec_folder.specs.ListView.{CanBeInserted, ListWrite}
use Rattle.spec_folder.specs.Sound.{words_of}
use Rattle.spec_folder.specs.View.{list_of}
use Rattle.blk_lru.specs.Moments.{IsMidOperation}
use Rattle.blk_chain.specs.Linking.{CanBeLinked, IsLinkedInFront}
use Rattle.law_folder.proofs.states.Tidying.{touch_range}
use Rattle.law_state.specs.Changes.{SameCounters}
use Rattle.law_state.specs.NewEntryLaws.{HasRecordInFront, IsInsertDone}
use Rattle.law_state.proofs.NewEntries.{entries-kept, inserts-find, links-find}
use Rattle.blk_object.proofs.KeptLists.{inserts-done, new-can-be}
use Rattle.blk_object.proofs.KeptMarks.{come-in-front, in-front}
use Rattle.blk_object.proofs.KeptNewEntries.{new-can-be-linked}
use Rattle.blk_object.specs.Making.{CanBeListed, FindsUntilListed, IsEntryListed}
use Rattle.law_state.proofs.Counts.{bucket-count, touch-count}
use Rattle.blk_object.proofs.MakingStored.{counters-then}
use Rattle.blk_object.proofs.MakingTaken.{none-before, told-mid}

-- what is among the records is one that is there
pub record-parts : (files : BlockFiles) (w : ℕ) → is_record_among files w ≡ true → (kind_of w ≡ blocks_256) × (stands_among files w ≡ true)
unfolding names_among
record-parts files w e =
    let more = (and_parts (is_address w) _ e).1 in
    let parts = and_parts (kind_of w == blocks_256) (stands_among files w) more in
    (eqb-true (kind_of w) blocks_256 parts.0, parts.1)

pub told-at : (P : Image → Type 0) (o : Option Image) (from : Image) → o ≡ Some from → P from → ForSome o P
told-at P o from there p image is = subst P (some_inj (sym there ∙ is)) p

-- ---- the node

module _ (a b : Told) (files : BlockFiles) (entry node : ℕ) where
  pub can-insert : (from : Image) → CanBeListed entry node from → CanBeInserted (list_of from) (walked from) node
  can-insert from c = subst (CanBeInserted (list_of from) (walked from)) c.node_is (new-can-be c.state c.layout (words_of c.loaded ++ c.unlinked) c.key c.loaded from c.is.kept c.is.entry)

  partly-finds : (from image : Image) → IsPartly from (writes_of insert node (list_of from)) image → FindsUntilListed entry node from image
  partly-finds from image partly state layout unlinked handle key loaded q re rn =
      inserts-find state layout (words_of loaded ++ unlinked) key loaded from image q.kept q.entry (subst (λ (n : ℕ). IsPartly from (writes_of insert n (list_of from)) image) (sym rn) partly)

  module _ (stops : ForSome a.files (λ from. CanBeInserted (list_of from) (walked from) node → Passes a b (IsMidOperation files (writes_of insert node (list_of from)) (walked from) (node ∷ walked from) from))) where
    inserting : (from : Image) → a.files ≡ Some from → CanBeListed entry node from → Passes a b (IsPartly from (writes_of insert node (list_of from)))
    inserting from there c = passes_weaker (stops from there (can-insert from c)) (λ image m. m.partly) (λ image m. m.partly)

    pub inserting-finds : ForSome a.files (λ from. CanBeListed entry node from → Passes a b (FindsUntilListed entry node from))
    inserting-finds from there c = passes_weaker (inserting from there c) (partly-finds from) (partly-finds from)

    -- ---- and then the record

    module _ (tells : TellsBytes a) (open_folder : ForSome a.files (IsOpen files)) (steps : ForSome a.files (λ from. Applies a b (operation_steps insert node from))) where
      pub inserted-mid : (from : Image) → a.files ≡ Some from → (mid : Image) × (b.files ≡ Some mid)
      inserted-mid from there = (after (operation_steps insert node from) from, (steps from there).files ∙ ap (option_map (after (operation_steps insert node from))) there)

      inserted : (from mid : Image) → a.files ≡ Some from → b.files ≡ Some mid → CanBeListed entry node from → IsInsertDone from node mid
      inserted from mid there now c = inserts-done files node a b tells open_folder (told-at (λ i. CanBeInserted (list_of i) (walked i) node) a.files from there (can-insert from c)) steps from there mid now

      can-link : (from mid : Image) → a.files ≡ Some from → b.files ≡ Some mid → CanBeListed entry node from → CanBeLinked entry mid
      can-link from mid there now c =
          subst (λ (w : ℕ). CanBeLinked w mid) c.record_is
          (new-can-be-linked c.state c.layout (words_of c.loaded ++ c.unlinked) c.key c.loaded from mid c.is.kept c.is.entry (subst (λ (n : ℕ). IsInsertDone from n mid) (sym c.node_is) (inserted from mid there now c)))

      -- what is found once the record is in front
      linked-finds : (from mid image : Image) → IsInsertDone from node mid → HasRecordInFront mid entry image → FindsUntilListed entry node from image
      linked-finds from mid image done front state layout unlinked handle key loaded q re rn =
          links-find state layout (words_of loaded ++ unlinked) key loaded handle from mid image q.kept q.entry q.valid (subst (λ (n : ℕ). IsInsertDone from n mid) (sym rn) done) (subst (λ (w : ℕ). HasRecordInFront mid w image) (sym re) front)

      module _ (d : Told) where
        pub listing-finds : ForSome b.files (λ mid. CanBeLinked entry mid → Commits 1 b d (λ image. image ≡ mid) (IsLinkedInFront mid entry)) → ForSome a.files (λ from. CanBeListed entry node from → Passes a d (FindsUntilListed entry node from))
        listing-finds commits from there c =
            let first = inserting from there c in
            let mid = told-mid a b from there first in
            let can = can-link from mid.0 there mid.1 c in
            let done = inserted from mid.0 there mid.1 c in
            let each : (image : Image) → (image ≡ mid.0) ⊎ HasRecordInFront mid.0 entry image → FindsUntilListed entry node from image =
            λ image either. ⊎_elim
            (λ (same : image ≡ mid.0). subst (FindsUntilListed entry node from) (sym same) (partly-finds from mid.0 (passes_end first mid.0 mid.1)))
            (λ (front : HasRecordInFront mid.0 entry image). linked-finds from mid.0 image done front)
            either in
            passes_then (inserting-finds from there c)
            (passes_weaker (come-in-front entry b d (told-at (λ i. Commits 1 b d (λ image. image ≡ i) (IsLinkedInFront i entry)) b.files mid.0 mid.1 (commits mid.0 mid.1 can)) mid.0 mid.1) each each)

        pub listing-listed : ForSome b.files (λ mid. CanBeLinked entry mid → ForSome d.files (IsLinkedInFront mid entry)) → ForSome a.files (λ from. ForSome d.files (IsEntryListed entry node from))
        listing-listed linked from there image now state layout unlinked handle key loaded q re rn =
            let c : CanBeListed entry node from = record { state = state; layout = layout; unlinked = unlinked; handle = handle; key = key; loaded = loaded; is = q; record_is = re; node_is = rn } in
            let mid = inserted-mid from there in
            entries-kept state layout unlinked key loaded handle from mid.0 image q.kept q.entry q.valid (subst (λ (n : ℕ). IsInsertDone from n mid.0) (sym rn) (inserted from mid.0 there mid.1 c))
            (subst (λ (w : ℕ). HasRecordInFront mid.0 w image) (sym re) (in-front entry mid.0 image (linked mid.0 mid.1 (can-link from mid.0 there mid.1 c) image now)))

        -- the counters stay
        pub listing-counts : ForSome b.files (λ mid. CanBeLinked entry mid → ForSome d.files (IsLinkedInFront mid entry)) → ForSome a.files (λ from. CanBeListed entry node from → ForSome d.files (SameCounters from))
        listing-counts linked from there c image now =
            let mid = inserted-mid from there in
            let writes : List ListWrite = writes_of insert node (list_of from) in
            let done = inserted from mid.0 there mid.1 c in
            let front = in-front entry mid.0 image (linked mid.0 mid.1 (can-link from mid.0 there mid.1 c) image now) in
            counters-then from mid.0 image
            (touch-count writes node from mid.0 (outside_wider (touched_by_writes writes) (touch_range writes node) from mid.0 (within_left (touched_by_writes writes) (record_range node)) done.partly.outside))
            (bucket-count (bucket_at mid.0 entry) mid.0 image front.outside)

-- a folder that is opaque after a part of some steps was opaque before
pub part-tells : (a b : Told) (steps_on : Image → List TrailStep) → MakesPartOf a b steps_on → b.files ≡ None → a.files ≡ None
part-tells a b steps_on part = none-before a b (λ from there. let made = part.made from there in (after made.made from, made.applies.files ∙ ap (option_map (after made.made)) there))
