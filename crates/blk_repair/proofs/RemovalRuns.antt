-- How nodes are taken out of a list one after the other, and what is held on the way.
use Rattle.std.proofs.Common.{◌≡◌, ℕ, ◌+◌, ◌<◌, ◌≤◌, Bool, true, false, List, [], ◌∷◌, ◌++◌, length, drop, get_or, None, refl, sym, ◌∙◌, ap, ap₂, subst}
use Rattle.std.specs.Prelude.{if◌then◌else◌}
use Rattle.std.specs.Option.{ForSome}
use Rattle.std.proofs.lemmas.List.{drop_more, drop_all, drop-drop}
use Rattle.std.proofs.lemmas.Bool.{eq-eqb, eqb-true}
use Rattle.spec_image.specs.Image.{Image}
use Rattle.spec_image.specs.Steps.{TrailStep, after}
use Rattle.spec_image.specs.Told.{Told, Along, Applies, AppliesPrefix, IsQuiet, Passes}
use Rattle.spec_image.proofs.Cuts.{after-append}
use Rattle.spec_image.proofs.Runs.{passes_part, quiet-append, some_inj, told_whole, until-append}
use Rattle.spec_format.specs.BlockFiles.{is_among, IsWellFormed}
use Rattle.spec_folder.specs.Completion.{remove}
use Rattle.spec_folder.specs.ListImages.{HasListAtRest, IsWritable, operation_steps, walked}
use Rattle.spec_folder.specs.ListPlans.{writes_of}
use Rattle.spec_folder.specs.View.{list_of}
use Rattle.law_folder.proofs.lists.Walks.{walk_list}
use Rattle.law_folder.proofs.lists.WriteSteps.{quiet-writes}
use Rattle.blk_disk.specs.declared.tables.BlockFiles.{BlockFiles}
use Rattle.blk_disk.specs.Open.{IsOpen}
use Rattle.blk_lru.specs.Lists.{IsListed}
use Rattle.blk_chain.proofs.Apart.{middle-there}
use Rattle.law_recovery.specs.ListRepair.{HasRemoved, HoldsTheSame, IsListMended, all_but, is_first, removal_steps}
use Rattle.law_recovery.proofs.ListRepair.{kept-passed_by, others-removed, removals-end}
use Rattle.blk_repair.specs.Removals.{IsEndedList}
use Rattle.blk_repair.proofs.Progress.{Leads, Progress, begun, now_by, now_has, said_as, stopped, went_on}

-- a node that is the first of the kept ones is left out, and any other comes first
but-other : (node : ℕ) (nodes others : List ℕ) → is_first node others ≡ false → all_but (node ∷ nodes) others ≡ node ∷ all_but nodes others
but-other node nodes [] other = refl
but-other node nodes (k ∷ others) other = ap (λ (b : Bool). if b then all_but nodes others else node ∷ all_but nodes (k ∷ others)) other

but-kept : (node : ℕ) (nodes others : List ℕ) → all_but (node ∷ nodes) (node ∷ others) ≡ all_but nodes others
but-kept node nodes others = ap (λ (b : Bool). if b then all_but nodes others else node ∷ all_but nodes (node ∷ others)) (eq-eqb node node refl)

no-clash : false ≡ true → ⊥
no-clash e = cc

-- the first of some is this node
first-is : (node : ℕ) (others : List ℕ) → is_first node others ≡ true → (more : List ℕ) × (others ≡ node ∷ more)
first-is node [] first = absurd (no-clash first)
first-is node (k ∷ others) first = (others, ap (λ (n : ℕ). n ∷ others) (sym (eqb-true node k first)))

-- what is left from a place on begins with the node that is there
at-place : (nodes : List ℕ) (i w : ℕ) → i < length nodes → w ≡ get_or nodes i w → drop i nodes ≡ w ∷ drop (i + 1) nodes
at-place nodes i w inside is = drop_more nodes i w inside ∙ ap (λ (v : ℕ). v ∷ drop (i + 1) nodes) (sym is)

drop-next : (others more : List ℕ) (p w : ℕ) → drop p others ≡ w ∷ more → drop (p + 1) others ≡ more
drop-next others more p w is = sym (drop-drop 1 p others) ∙ ap (drop 1) is

-- a node that is the next of the kept ones is passed by
pub rests-pass : (walked kept : List ℕ) (i p w : ℕ) → i < length walked → w ≡ get_or walked i w → is_first w (drop p kept) ≡ true → all_but (drop i walked) (drop p kept) ≡ all_but (drop (i + 1) walked) (drop (p + 1) kept)
rests-pass walked kept i p w inside is first =
    let next = first-is w (drop p kept) first in
    ap₂ all_but (at-place walked i w inside is) next.1 ∙ but-kept w (drop (i + 1) walked) next.0 ∙ ap (all_but (drop (i + 1) walked)) (sym (drop-next kept next.0 p w next.1))

-- any other node is removed, and then those after it
pub removal-leads : (walked kept : List ℕ) (i p w : ℕ) → i < length walked → w ≡ get_or walked i w → is_first w (drop p kept) ≡ false
    → Leads (removal_steps (all_but (drop i walked) (drop p kept))) (operation_steps remove w) (removal_steps (all_but (drop (i + 1) walked) (drop p kept)))
removal-leads walked kept i p w inside is other image =
    ap (λ (l : List ℕ). removal_steps l image) (ap (λ (l : List ℕ). all_but l (drop p kept)) (at-place walked i w inside is) ∙ but-other w (drop (i + 1) walked) (drop p kept) other)

pub removals-done : (walked kept : List ℕ) (i p : ℕ) → length walked ≤ i → (image : Image) → removal_steps (all_but (drop i walked) (drop p kept)) image ≡ []
removals-done walked kept i p past image = ap (λ (l : List ℕ). removal_steps (all_but l (drop p kept)) image) (drop_all i walked past)

-- no step of it is a note
pub quiet-removals : (nodes : List ℕ) (image : Image) → IsQuiet (removal_steps nodes image)
quiet-removals [] image = tt
quiet-removals (node ∷ nodes) image =
    let first : List TrailStep = operation_steps remove node image in
    quiet-append first (removal_steps nodes (after first image)) (quiet-writes (writes_of remove node (list_of image)) image) (quiet-removals nodes (after first image))

-- at each word of the removals the same is held, and in the end the list is repaired
abbrev pub Runs : Image → Image → List ℕ → List ℕ → Type 0
Runs entry image nodes others = Along (HoldsTheSame entry) image (removal_steps (all_but nodes others) image) × IsListMended entry (after (removal_steps (all_but nodes others) image) image)

goes-out : (entry image : Image) (node : ℕ) (nodes : List ℕ) → Along (HoldsTheSame entry) image (operation_steps remove node image)
    → Along (HoldsTheSame entry) (after (operation_steps remove node image) image) (removal_steps nodes (after (operation_steps remove node image) image)) × IsListMended entry (after (removal_steps nodes (after (operation_steps remove node image) image)) (after (operation_steps remove node image) image))
    → Along (HoldsTheSame entry) image (removal_steps (node ∷ nodes) image) × IsListMended entry (after (removal_steps (node ∷ nodes) image) image)
goes-out entry image node nodes first rest =
    let out : List TrailStep = operation_steps remove node image in
    let more : List TrailStep = removal_steps nodes (after out image) in
    (until-append (HoldsTheSame entry) (HoldsTheSame entry) out more image first rest.0, subst (IsListMended entry) (sym (after-append out more image)) rest.1)

module _ (entry : Image) (well : IsWellFormed entry) (ready : IsWritable entry) where
  one-more : (image : Image) (before : List ℕ) (node : ℕ) (nodes others : List ℕ) → HasRemoved entry before (node ∷ nodes) others image
      → ((next : List ℕ) → HasRemoved entry (before ++ node ∷ []) nodes next image → Runs entry image nodes next)
      → (HasRemoved entry before nodes others (after (operation_steps remove node image) image) → Runs entry (after (operation_steps remove node image) image) nodes others)
      → (b : Bool) → is_first node others ≡ b → Runs entry image (node ∷ nodes) others
  one-more image before node nodes others has pass out true first =
      let next = first-is node others first in
      let passed = kept-passed_by entry image before node nodes next.0 well ready (subst (λ (l : List ℕ). HasRemoved entry before (node ∷ nodes) l image) next.1 has) in
      subst (λ (l : List ℕ). Runs entry image (node ∷ nodes) l) (sym next.1)
      (subst (λ (l : List ℕ). Along (HoldsTheSame entry) image (removal_steps l image) × IsListMended entry (after (removal_steps l image) image)) (sym (but-kept node nodes next.0)) (pass next.0 passed))
  one-more image before node nodes others has pass out false other =
      let gone = others-removed entry image before node nodes others well ready has other in
      subst (λ (l : List ℕ). Along (HoldsTheSame entry) image (removal_steps l image) × IsListMended entry (after (removal_steps l image) image)) (sym (but-other node nodes others other))
      (goes-out entry image node (all_but nodes others) gone.0 (out gone.1))

  pub removals-run : (image : Image) (before nodes others : List ℕ) → HasRemoved entry before nodes others image → Runs entry image nodes others
  removals-run image before [] others has =
      (has.holds, removals-end entry image before well ready (subst (λ (l : List ℕ). HasRemoved entry before [] l image) has.to_keep has))
  removals-run image before (node ∷ nodes) others has =
      one-more image before node nodes others has (λ next passed. removals-run image (before ++ node ∷ []) nodes next passed)
      (λ gone. removals-run (after (operation_steps remove node image) image) before nodes others gone) (is_first node others) refl

-- what a prefix of the steps passes
pub removals-pass : (a b : Told) (nodes others : List ℕ) → ForSome a.files (λ image. AppliesPrefix a b (removal_steps (all_but nodes others) image)) → ForSome a.files (λ image. (entry : Image) → IsEndedList entry nodes others image → Passes a b (HoldsTheSame entry))
removals-pass a b nodes others part image there entry ended =
    passes_part (HoldsTheSame entry) (HoldsTheSame entry) (part image there) (quiet-removals (all_but nodes others) image) (λ i h. h)
    (λ i is_there. subst (λ (x : Image). Along (HoldsTheSame entry) x (removal_steps (all_but nodes others) image)) (some_inj (sym there ∙ is_there)) (removals-run entry ended.well_formed ended.writable image [] nodes others ended.removed).0)

-- where all of them lead
pub removals-mend : (a b : Told) (nodes others : List ℕ) → ForSome a.files (λ image. Applies a b (removal_steps (all_but nodes others) image)) → ForSome a.files (λ image. (entry : Image) → IsEndedList entry nodes others image → ForSome b.files (IsListMended entry))
removals-mend a b nodes others all image there entry ended =
    told_whole (IsListMended entry) (all image there)
    (λ i is_there. subst (λ (x : Image). IsListMended entry (after (removal_steps (all_but nodes others) image) x)) (some_inj (sym there ∙ is_there)) (removals-run entry ended.well_formed ended.writable image [] nodes others ended.removed).1)

-- a node that is left is listed
pub left-listed : (entry image : Image) (before : List ℕ) (node : ℕ) (nodes others : List ℕ) → HasRemoved entry before (node ∷ nodes) others image → IsListed node image
left-listed entry image before node nodes others has =
    let rests = has.left.rests in
    let is : walked image ≡ before ++ node ∷ nodes = walk_list (list_of image) (before ++ node ∷ nodes) rests.whole in
    record {
      rest = subst (λ (ns : List ℕ). HasListAtRest ns image) (sym is) rests;
      listed = subst (λ (ns : List ℕ). is_among ns node ≡ true) (sym is) (middle-there before node nodes);
    }

-- some of the nodes are taken out, whatever came before
pub record IsUnderWay (entry : Image) (nodes others : List ℕ) (image : Image) : Type 0 where
  pub before : List ℕ
  pub removed : HasRemoved entry before nodes others image

module _ (entry image : Image) (well : IsWellFormed entry) (ready : IsWritable entry) (walked kept : List ℕ) (i p w : ℕ) (inside : i < length walked) (is : w ≡ get_or walked i w) (under : IsUnderWay entry (drop i walked) (drop p kept) image) where
  here : HasRemoved entry under.before (w ∷ drop (i + 1) walked) (drop p kept) image
  here = subst (λ (l : List ℕ). HasRemoved entry under.before l (drop p kept) image) (at-place walked i w inside is) under.removed

  pub under-pass : is_first w (drop p kept) ≡ true → IsUnderWay entry (drop (i + 1) walked) (drop (p + 1) kept) image
  under-pass first =
      let next = first-is w (drop p kept) first in
      record {
        before = under.before ++ w ∷ [];
        removed = subst (λ (l : List ℕ). HasRemoved entry (under.before ++ w ∷ []) (drop (i + 1) walked) l image) (sym (drop-next kept next.0 p w next.1))
            (kept-passed_by entry image under.before w (drop (i + 1) walked) next.0 well ready (subst (λ (l : List ℕ). HasRemoved entry under.before (w ∷ drop (i + 1) walked) l image) next.1 here));
      }

  pub under-out : is_first w (drop p kept) ≡ false → IsUnderWay entry (drop (i + 1) walked) (drop p kept) (after (operation_steps remove w image) image)
  under-out other = record { before = under.before; removed = (others-removed entry image under.before w (drop (i + 1) walked) (drop p kept) well ready here other).1 }

  pub under-listed : IsListed w image
  under-listed = left-listed entry image under.before w (drop (i + 1) walked) (drop p kept) here

-- some of the nodes are taken out: those before a place of the walked ones that are not among the kept ones before another place
pub record HasTaken (old now : Told) (files : BlockFiles) (walked kept : List ℕ) (i p : ℕ) : Type 0 where
  pub progress : Progress old now (removal_steps (all_but walked kept)) (removal_steps (all_but (drop i walked) (drop p kept)))
  pub under : ForSome old.files (λ from. (entry : Image) → IsEndedList entry walked kept from → ForSome now.files (IsUnderWay entry (drop i walked) (drop p kept)))
  pub is_open : ForSome now.files (IsOpen files)

pub taken-none : (old : Told) (files : BlockFiles) (walked kept : List ℕ) → ForSome old.files (IsOpen files) → HasTaken old old files walked kept 0 0
taken-none old files walked kept opened = record {
  progress = begun old old (removal_steps (all_but walked kept)) refl;
  under = λ from there entry ended image here. record { before = []; removed = subst (HasRemoved entry [] walked kept) (some_inj (sym there ∙ here)) ended.removed };
  is_open = opened;
}

module _ (old now : Told) (files : BlockFiles) (walked kept : List ℕ) (i p w : ℕ) (taken : HasTaken old now files walked kept i p) (inside : i < length walked) (is : w ≡ get_or walked i w) where
  pub taken-pass : is_first w (drop p kept) ≡ true → HasTaken old now files walked kept (i + 1) (p + 1)
  taken-pass first = record {
    progress = said_as taken.progress (removal_steps (all_but (drop (i + 1) walked) (drop (p + 1) kept))) (λ image. ap (λ (l : List ℕ). removal_steps l image) (rests-pass walked kept i p w inside is first));
    under = λ from there entry ended image here. under-pass entry image ended.well_formed ended.writable walked kept i p w inside is (taken.under from there entry ended image here) first;
    is_open = taken.is_open;
  }

  module _ (other : is_first w (drop p kept) ≡ false) (next : Told) where
    pub taken-part : ForSome now.files (λ from. AppliesPrefix now next (operation_steps remove w from)) → ForSome old.files (λ from. AppliesPrefix old next (removal_steps (all_but walked kept) from))
    taken-part part = stopped taken.progress (operation_steps remove w) (removal_steps (all_but (drop (i + 1) walked) (drop p kept))) next (removal-leads walked kept i p w inside is other) part

    pub taken-out : ForSome now.files (λ from. Applies now next (operation_steps remove w from)) → (now.files ≡ None → next.files ≡ None) → ForSome next.files (IsOpen files) → HasTaken old next files walked kept (i + 1) p
    taken-out made silent opened = record {
      progress = went_on taken.progress (operation_steps remove w) (removal_steps (all_but (drop (i + 1) walked) (drop p kept))) next (removal-leads walked kept i p w inside is other) made silent;
      under = λ from there entry ended.
          now_has now next (operation_steps remove w) (IsUnderWay entry (drop (i + 1) walked) (drop p kept)) made silent
          (λ image here. under-out entry image ended.well_formed ended.writable walked kept i p w inside is (taken.under from there entry ended image here) other);
      is_open = opened;
    }

  -- the node is listed now
  pub taken-listed : ForSome old.files (λ from. (entry : Image) × IsEndedList entry walked kept from) → ForSome now.files (IsListed w)
  taken-listed some =
      now_by taken.progress (IsListed w)
      (λ from there image here. let ended = some from there in under-listed ended.0 image ended.1.well_formed ended.1.writable walked kept i p w inside is (taken.under from there ended.0 ended.1 image here))
