-- How the list is repaired, and what is held on the way.
use Rattle.std.proofs.Common.{◌≡◌, ℕ, ◌-◌, List, [], ◌∷◌, ◌++◌, length, Option, None, suc, refl, sym, ◌∙◌, ap, ap₂, subst, arith}
use Rattle.std.specs.Prelude.{All, map}
use Rattle.std.specs.Option.{ForSome, IfSome}
use Rattle.std.specs.List.{slice_get}
use Rattle.std.proofs.lemmas.List.{append-nil}
use Rattle.std.proofs.lemmas.List.Elements.{All-head, All-tail}
use Rattle.spec_image.specs.Image.{Image}
use Rattle.spec_image.specs.Steps.{TrailStep, after}
use Rattle.spec_image.specs.Told.{Told, Along, Applies, AppliesPrefix, IsQuiet, Passes}
use Rattle.spec_image.proofs.Runs.{passes_part, quiet-append, some_inj, told_whole}
use Rattle.spec_folder.specs.Found.{kept}
use Rattle.spec_folder.specs.ListImages.{CanBeMade, completion_steps}
use Rattle.spec_folder.specs.ListPlans.{completion_writes, ending_writes}
use Rattle.spec_folder.specs.ListSteps.{steps_of_writes}
use Rattle.spec_folder.specs.ListView.{ListView, ListWrite}
use Rattle.spec_folder.specs.View.{list_of}
use Rattle.law_folder.proofs.lists.WordStops.{completions-done}
use Rattle.law_folder.proofs.lists.WriteSteps.{quiet-writes}
use Rattle.blk_lru.specs.Lists.{last_node_of}
use Rattle.law_recovery.specs.EndRepair.{end_writes, end_writes_of}
use Rattle.law_recovery.specs.ListRepair.{HasRemoved, HoldsTheSame, IsListMended, all_but, completed_image, dropped_nodes, ended_image, list_repair_steps, removal_steps}
use Rattle.law_recovery.proofs.ListRepair.{dropped-are, end-can, lists-repaired, removals-begin}
use Rattle.blk_repair.specs.Removals.{IsEndedList, IsListScanned, ending_steps, mending_steps, steps_from_end}
use Rattle.blk_repair.proofs.Progress.{Leads, Progress, begun, ended, now_has, stopped, went_on}
use Rattle.blk_repair.proofs.RemovalRuns.{quiet-removals}

one-less : (n : ℕ) → suc (suc n) - 1 ≡ suc (suc n - 1)
one-less n = omega arith

-- the last of some nodes is at the place before their count
pub last-got : (nodes : List ℕ) → slice_get nodes (length nodes - 1) ≡ last_node_of nodes
last-got [] = refl
last-got (node ∷ []) = refl
last-got (node ∷ other ∷ nodes) = ap (slice_get (node ∷ other ∷ nodes)) (one-less (length nodes)) ∙ last-got (other ∷ nodes)

-- what holds of all nodes holds of the last
pub last-has : (P : ℕ → Type 0) (nodes : List ℕ) → All P nodes → IfSome (last_node_of nodes) P
last-has P [] all = tt
last-has P (node ∷ []) all = All-head P node [] all
last-has P (node ∷ other ∷ nodes) all = last-has P (other ∷ nodes) (All-tail P node (other ∷ nodes) all)

-- the parts, one after the other
pub completion-leads : (nodes others : List ℕ) → Leads (mending_steps nodes others) completion_steps (steps_from_end nodes others)
completion-leads nodes others image = refl

pub end-leads : (nodes others : List ℕ) → Leads (steps_from_end nodes others) (ending_steps (last_node_of nodes)) (removal_steps (all_but nodes others))
end-leads nodes others image = refl

pub removals-lead : (nodes : List ℕ) → Leads (removal_steps nodes) (removal_steps nodes) (λ _. [])
removals-lead nodes image = sym (append-nil (removal_steps nodes image))

-- no step of them is a note
pub quiet-mending : (nodes others : List ℕ) (image : Image) → IsQuiet (mending_steps nodes others image)
quiet-mending nodes others image =
    let first : List TrailStep = completion_steps image in
    let between : Image = after first image in
    let next : List TrailStep = ending_steps (last_node_of nodes) between in
    quiet-append first (steps_from_end nodes others between) (quiet-writes (completion_writes (list_of image)) image)
    (quiet-append next (removal_steps (all_but nodes others) (after next between)) (quiet-writes (ending_writes (list_of between) (last_node_of nodes)) between) (quiet-removals (all_but nodes others) (after next between)))

-- what repairs the end is what makes the last of the walked nodes the last of the list
writes-are : (list : ListView) (nodes : List ℕ) → end_writes_of list nodes ≡ ending_writes list (last_node_of nodes)
writes-are list [] = refl
writes-are list (node ∷ nodes) = refl

module _ (image : Image) (nodes others : List ℕ) (scanned : IsListScanned nodes others image) where
  abbrev done : Image
  done = completed_image image

  end-writes : end_writes (list_of done) ≡ ending_writes (list_of done) (last_node_of nodes)
  unfolding end_writes
  end-writes =
      ap (end_writes_of (list_of done)) ((completions-done image scanned.writable).walk ∙ sym scanned.walked) ∙ writes-are (list_of done) nodes

  -- the nodes that are removed are those that are not kept
  dropped : dropped_nodes (ended_image image) ≡ all_but nodes others
  dropped = dropped-are image scanned.well_formed scanned.writable ∙ sym (ap₂ all_but scanned.walked scanned.kept_nodes)

  from-end : steps_of_writes (end_writes (list_of done)) done ++ removal_steps (dropped_nodes (ended_image image)) (ended_image image) ≡ steps_from_end nodes others done
  from-end =
      ap (λ (l : List ℕ). steps_of_writes (end_writes (list_of done)) done ++ removal_steps l (ended_image image)) dropped
      ∙ ap (λ (w : List ListWrite). steps_of_writes w done ++ removal_steps (all_but nodes others) (after (steps_of_writes w done) done)) end-writes

  -- the parts together are the repair of the list
  pub steps-are : list_repair_steps image ≡ mending_steps nodes others image
  steps-are = ap (λ (l : List TrailStep). completion_steps image ++ l) from-end

  pub repaired : Along (HoldsTheSame image) image (mending_steps nodes others image) × IsListMended image (after (mending_steps nodes others image) image)
  repaired = subst (λ (l : List TrailStep). Along (HoldsTheSame image) image l × IsListMended image (after l image)) steps-are (lists-repaired image scanned.well_formed scanned.writable)

  -- the end can be repaired
  can-end : CanBeMade done (ending_writes (list_of done) (last_node_of nodes))
  can-end = subst (CanBeMade done) end-writes (end-can done)

  -- after the end is repaired nothing is taken out yet
  is-ended : IsEndedList image nodes others (after (ending_steps (last_node_of nodes) done) done)
  is-ended = record {
    well_formed = scanned.well_formed;
    writable = scanned.writable;
    removed = subst (λ (w : List ListWrite). HasRemoved image [] nodes others (after (steps_of_writes w done) done)) end-writes
        (subst (λ (l : List ℕ). HasRemoved image [] nodes l (ended_image image)) (sym scanned.kept_nodes)
        (subst (λ (l : List ℕ). HasRemoved image [] l (map (λ k. k.node) (kept image)) (ended_image image)) (sym scanned.walked) (removals-begin image scanned.well_formed scanned.writable)));
  }

-- what a prefix of the steps passes, and where all of them lead
pub mending-passes : (a b : Told) (nodes others : List ℕ) → ForSome a.files (λ image. AppliesPrefix a b (mending_steps nodes others image)) → ForSome a.files (λ image. IsListScanned nodes others image → Passes a b (HoldsTheSame image))
mending-passes a b nodes others part image there scanned =
    passes_part (HoldsTheSame image) (HoldsTheSame image) (part image there) (quiet-mending nodes others image) (λ i h. h)
    (λ i is_there. subst (λ (x : Image). Along (HoldsTheSame image) x (mending_steps nodes others image)) (some_inj (sym there ∙ is_there)) (repaired image nodes others scanned).0)

pub mending-mends : (a b : Told) (nodes others : List ℕ) → ForSome a.files (λ image. Applies a b (mending_steps nodes others image)) → ForSome a.files (λ image. IsListScanned nodes others image → ForSome b.files (IsListMended image))
mending-mends a b nodes others all image there scanned =
    told_whole (IsListMended image) (all image there)
    (λ i is_there. subst (λ (x : Image). IsListMended image (after (mending_steps nodes others image) x)) (some_inj (sym there ∙ is_there)) (repaired image nodes others scanned).1)

module _ (old : Told) (nodes others : List ℕ) where
  pub completing-part : (mid : Told) → ForSome old.files (λ from. AppliesPrefix old mid (completion_steps from)) → ForSome old.files (λ from. AppliesPrefix old mid (mending_steps nodes others from))
  completing-part mid part = stopped (begun old old (mending_steps nodes others) refl) completion_steps (steps_from_end nodes others) mid (completion-leads nodes others) part

  module _ (mid : Told) (made : ForSome old.files (λ from. Applies old mid (completion_steps from))) (silent : old.files ≡ None → mid.files ≡ None) where
    -- the operation in flight was redone
    pub completed-first : Progress old mid (mending_steps nodes others) (steps_from_end nodes others)
    completed-first = went_on (begun old old (mending_steps nodes others) refl) completion_steps (steps_from_end nodes others) mid (completion-leads nodes others) made silent

    module _ (last : Option ℕ) (is : last ≡ last_node_of nodes) where
      -- the end can be repaired now
      pub can-end-now : ForSome old.files (IsListScanned nodes others) → ForSome mid.files (λ image. CanBeMade image (ending_writes (list_of image) last))
      can-end-now scanned =
          subst (λ (l : Option ℕ). ForSome mid.files (λ image. CanBeMade image (ending_writes (list_of image) l))) (sym is)
          (now_has old mid completion_steps (λ image. CanBeMade image (ending_writes (list_of image) (last_node_of nodes))) made silent (λ from there. can-end from nodes others (scanned from there)))

      module _ (next : Told) where
        pub ending-part : ForSome mid.files (λ from. AppliesPrefix mid next (ending_steps last from)) → ForSome old.files (λ from. AppliesPrefix old next (mending_steps nodes others from))
        ending-part part =
            stopped completed-first (ending_steps (last_node_of nodes)) (removal_steps (all_but nodes others)) next (end-leads nodes others)
            (subst (λ (l : Option ℕ). ForSome mid.files (λ from. AppliesPrefix mid next (ending_steps l from))) is part)

        module _ (mended : ForSome mid.files (λ from. Applies mid next (ending_steps last from))) (silently : mid.files ≡ None → next.files ≡ None) where
          ended-made : ForSome mid.files (λ from. Applies mid next (ending_steps (last_node_of nodes) from))
          ended-made = subst (λ (l : Option ℕ). ForSome mid.files (λ from. Applies mid next (ending_steps l from))) is mended

          -- the end is repaired
          pub ended-then : Progress old next (mending_steps nodes others) (removal_steps (all_but nodes others))
          ended-then = went_on completed-first (ending_steps (last_node_of nodes)) (removal_steps (all_but nodes others)) next (end-leads nodes others) ended-made silently

          -- nothing is taken out now
          pub ended-now : ForSome old.files (IsListScanned nodes others) → ForSome next.files (λ image. (entry : Image) × IsEndedList entry nodes others image)
          ended-now scanned =
              now_has mid next (ending_steps (last_node_of nodes)) (λ image. (entry : Image) × IsEndedList entry nodes others image) ended-made silently
              (now_has old mid completion_steps (λ between. (entry : Image) × IsEndedList entry nodes others (after (ending_steps (last_node_of nodes) between) between)) made silent
              (λ from there. (from, is-ended from nodes others (scanned from there))))

          pub removing-part : (final : Told) → ForSome next.files (λ from. AppliesPrefix next final (removal_steps (all_but nodes others) from)) → ForSome old.files (λ from. AppliesPrefix old final (mending_steps nodes others from))
          removing-part final part = stopped ended-then (removal_steps (all_but nodes others)) (λ _. []) final (removals-lead (all_but nodes others)) part

          pub removed-last : (final : Told) → (next.files ≡ None → final.files ≡ None) → ForSome next.files (λ from. Applies next final (removal_steps (all_but nodes others) from)) → ForSome old.files (λ from. Applies old final (mending_steps nodes others from))
          removed-last final quietly out = ended (went_on ended-then (removal_steps (all_but nodes others)) (λ _. []) final (removals-lead (all_but nodes others)) out quietly) (λ image. refl)
