-- A removal from the LRU list, and then an unlinking.
use Rattle.std.proofs.Common.{◌≡◌, ◌⊎◌, inl, inr, ℕ, [], ◌∷◌, List, ◌++◌, Option, None, Some, refl, ap, sym, ◌∙◌, subst}
use Rattle.std.specs.Option.{ForSome, option_map}
use Rattle.spec_image.specs.Image.{Image}
use Rattle.spec_image.specs.Steps.{TrailStep, after}
use Rattle.spec_image.specs.Told.{Applies, Commits, CommitsAt, MakesPartOf, Passes, TellsBytes, Told}
use Rattle.spec_image.proofs.Commits.{commits_passes}
use Rattle.spec_image.proofs.Runs.{passes_then, passes_weaker, some_inj}
use Rattle.blk_disk.specs.declared.tables.BlockFiles.{BlockFiles}
use Rattle.blk_disk.specs.Open.{IsOpen}
use Rattle.spec_folder.specs.Completion.{remove}
use Rattle.spec_folder.specs.ListImages.{HasListAtRest, operation_steps, walked}
use Rattle.spec_folder.specs.ListPlans.{writes_of}
use Rattle.spec_folder.specs.ListSteps.{IsPartly}
use Rattle.spec_folder.specs.View.{list_of}
use Rattle.blk_lru.specs.Moments.{IsMidOperation}
use Rattle.blk_chain.specs.Unlinking.{BeforeChecks, CanBeUnlinked, IsSealedAgain, IsStillLinked, IsUnlinked, words_to_unlink}
use Rattle.law_state.specs.RemovalLaws.{IsRemovalDone}
use Rattle.blk_object.specs.KeptLists.{IsAmidList}
use Rattle.blk_object.proofs.ChainsOut.{among-front}
use Rattle.law_folder.proofs.lists.Walks.{walk_list}
use Rattle.blk_lru.specs.Lists.{IsListed}
use Rattle.spec_format.specs.BlockFiles.{is_among}
use Rattle.blk_object.proofs.KeptLists.{removals-done}
use Rattle.blk_stream.proofs.Joined.{IsTold, told_then}
use Rattle.blk_object.specs.Removing.{IsGoingOut, IsTakenOut, IsYetLinked, MayGoOut}

-- a change of one word has only its start before that word
from-first : (P Q : Image → Type 0) (from : Image) (steps : List TrailStep) → CommitsAt 1 P Q from steps → CommitsAt 1 (λ i. i ≡ from) Q from steps
from-first P Q from [] all = refl
from-first P Q from (x ∷ steps) all = (refl, all.1)

-- at each word of an unlinking the record is in its chain yet, or out of it
pub yet-or-out : (between : Image) (entry : ℕ) (before : Option ℕ) (m b : Told) → m.files ≡ Some between → Commits (words_to_unlink before) m b (IsStillLinked between entry before) (IsUnlinked between entry before)
    → Passes m b (λ image. IsYetLinked between entry before image ⊎ IsUnlinked between entry before image)
yet-or-out between entry None m b there c = commits_passes 1 m b (λ i. i ≡ between) (IsUnlinked between entry None) (λ image. IsYetLinked between entry None image ⊎ IsUnlinked between entry None image) (λ i e. inl e) (λ i u. inr u) (record {
  steps = c.steps;
  applies = c.applies;
  quiet = c.quiet;
  commits = λ image is. subst (λ (i : Image). CommitsAt 1 (λ x. x ≡ between) (IsUnlinked between entry None) i c.steps) (some_inj (sym there ∙ is)) (from-first (IsStillLinked between entry None) (IsUnlinked between entry None) between c.steps (c.commits between there));
})
yet-or-out between entry (Some v) m b there c = commits_passes 2 m b (IsStillLinked between entry (Some v)) (IsUnlinked between entry (Some v)) (λ image. IsYetLinked between entry (Some v) image ⊎ IsUnlinked between entry (Some v) image) (λ i s. inl s) (λ i u. inr u) c

-- what the removal promises of its words
abbrev pub RemovesInList : BlockFiles → ℕ → Told → Told → Type 0
RemovesInList files node a m = ForSome a.files (λ from. (prefix suffix : List ℕ) → HasListAtRest (prefix ++ node ∷ suffix) from → Passes a m (IsMidOperation files (writes_of remove node (list_of from)) (prefix ++ node ∷ suffix) (prefix ++ suffix) from))

-- what the removal promises of its steps
abbrev pub HasRemoved : ℕ → Told → Told → Type 0
HasRemoved node a m = ForSome a.files (λ from. Applies a m (operation_steps remove node from))

-- while the node is removed from the list
pub listing-stops : (files : BlockFiles) (node entry : ℕ) (before : Option ℕ) (a m : Told) → RemovesInList files node a m → ForSome a.files (λ from. MayGoOut node entry before from → Passes a m (IsPartly from (writes_of remove node (list_of from))))
listing-stops files node entry before a m passes from there may =
    let rest = may.listed in
    passes_weaker (passes from there rest.prefix rest.suffix rest.rest) (λ image m. m.partly) (λ image m. m.partly)

module _ (files : BlockFiles) (node entry : ℕ) (before : Option ℕ) (a m b : Told) (bytes : TellsBytes a) (bytes_between : TellsBytes m) (open_folder : ForSome a.files (IsOpen files)) (lists : RemovesInList files node a m) (removed : HasRemoved node a m)
    (from : Image) (there : a.files ≡ Some from) (may : MayGoOut node entry before from) where
  on : IsTold m (IsPartly from (writes_of remove node (list_of from)))
  on = told_then a m from (IsPartly from (writes_of remove node (list_of from))) there (listing-stops files node entry before a m lists from there may)

  done : IsRemovalDone from node on.image
  done = removals-done files node a m bytes open_folder (λ image is. subst (IsAmidList node) (some_inj (sym there ∙ is)) may.listed) removed from there on.image on.is

  can : CanBeUnlinked entry before on.image
  can = (may.chained on.image (bytes_between on.image on.is) done).0

  -- all is done
  pub taken-out : ForSome m.files (λ between. CanBeUnlinked entry before between → ForSome b.files (IsUnlinked between entry before)) → ForSome m.files (λ between. ForSome b.files (IsSealedAgain between entry before)) → TellsBytes b → ForSome b.files (IsTakenOut node entry before from)
  taken-out unlinked sealed bytes_then image is = record {
    between = on.image;
    unlisted = done;
    unlinked = unlinked on.image on.is can image is;
    sealed = sealed on.image on.is image is;
    bytes = bytes_then image is;
  }

  -- at each word
  pub taking-stops : ForSome m.files (λ between. CanBeUnlinked entry before between → Commits (words_to_unlink before) m b (IsStillLinked between entry before) (IsUnlinked between entry before)) → Passes a b (IsGoingOut node entry before from)
  taking-stops commits = passes_then
      (passes_weaker (listing-stops files node entry before a m lists from there may) (λ image p. inl p) (λ image p. inl p))
      (passes_weaker (yet-or-out on.image entry before m b on.is (commits on.image on.is can)) unlinking unlinking)
    where
      unlinking : (image : Image) → IsYetLinked on.image entry before image ⊎ IsUnlinked on.image entry before image → IsGoingOut node entry before from image
      unlinking image moment = inr (record { between = on.image; unlisted = done; moment = moment })

  -- the checksum of the record before it matches or is absent then, where there is one
  pub before-good : ForSome m.files (BeforeChecks before)
  before-good between is = subst (BeforeChecks before) (some_inj (sym on.is ∙ is)) (may.chained on.image (bytes_between on.image on.is) done).1

-- ---- failed checks

-- a node amid the list is listed
pub amid-listed : (node : ℕ) (image : Image) → IsAmidList node image → IsListed node image
amid-listed node image a =
    let nodes : List ℕ = a.prefix ++ node ∷ a.suffix in
    let is : walked image ≡ nodes = walk_list (list_of image) nodes a.rest.whole in
    record { rest = subst (λ (ws : List ℕ). HasListAtRest ws image) (sym is) a.rest; listed = ap (λ (ws : List ℕ). is_among ws node) is ∙ among-front a.prefix node a.suffix }

some-none : {A : Type 0} {x : A} → ◌≡◌ {A = Option A} (Some x) None → ⊥
some-none e = cc

-- a folder that is opaque after some steps was opaque before
pub part-back : (a m : Told) (steps : Image → List TrailStep) → MakesPartOf a m steps → m.files ≡ None → a.files ≡ None
part-back a m steps part none = by a.files refl where
  by : (o : Option Image) → a.files ≡ o → a.files ≡ None
  by None e = e
  by (Some from) e = let p = part.made from e in absurd (some-none (sym (ap (option_map (after p.made)) e) ∙ sym p.applies.files ∙ none))

pub part-told : (a m : Told) (steps : Image → List TrailStep) → MakesPartOf a m steps → (between : Image) → m.files ≡ Some between → (from : Image) × (a.files ≡ Some from)
part-told a m steps part between there = by a.files refl where
  by : (o : Option Image) → a.files ≡ o → (from : Image) × (a.files ≡ Some from)
  by None e = absurd (some-none (sym there ∙ part.silent e))
  by (Some from) e = (from, e)
