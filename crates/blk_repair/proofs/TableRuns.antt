-- How the buckets are repaired one after the other.
use Rattle.std.proofs.Common.{◌≡◌, ℕ, zero, suc, ◌+◌, ◌-◌, ◌<◌, Bool, List, [], ◌++◌, Option, None, Some, false, refl, sym, ◌∙◌, ap, subst, arith, append_assoc}
use Rattle.std.specs.Prelude.{slice_index_or}
use Rattle.std.specs.Option.{ForSome, option_map}
use Rattle.std.proofs.lemmas.List.{append-nil}
use Rattle.spec_image.specs.Image.{Image}
use Rattle.spec_image.specs.Steps.{TrailStep, after}
use Rattle.spec_image.specs.Told.{Told, Along, Applies, AppliesPrefix, IsQuiet, Passes}
use Rattle.spec_image.proofs.Cuts.{after-append}
use Rattle.spec_image.proofs.Runs.{grows_none, grows_then, part_only, part_then, part_whole, passes_part, quiet-append, some_inj, told_whole}
use Rattle.spec_folder.specs.Chains.{IsChain}
use Rattle.spec_folder.specs.View.{store_of}
use Rattle.law_recovery.specs.ChainRepair.{AreChainsMended, HasChainsUpTo, chain_repair_steps, chain_steps, chains_steps, kept_records}
use Rattle.law_recovery.specs.ListRepair.{HoldsTheSame}
use Rattle.law_recovery.proofs.ChainRepair.{chains-begin, chains-repaired}
use Rattle.blk_audit.specs.BucketEnds.{records_of}
use Rattle.blk_repair.specs.Chains.{AreChainsScanned, IsBucketWord, IsNextBucket}
use Rattle.blk_repair.specs.Damages.{AllCheck}
use Rattle.blk_repair.proofs.ChainRuns.{kept-check, mends-next, quiet-chain}

-- the chains below a bucket were repaired, by the first of the steps of the repair; those of so many buckets are left
pub record IsMendedTo (old now : Told) (from : Image) (bucket : ℕ) : Type 0 where
  pub done : List TrailStep
  pub left : ℕ
  pub is_left : bucket + left ≡ 65536
  pub split : chain_repair_steps from ≡ done ++ chains_steps (kept_records from) bucket left (after done from)
  pub applies : Applies old now done
  pub up_to : ForSome now.files (HasChainsUpTo from bucket)

-- with the kept records of the files at the start, so it was
pub record AreMendedTo (old now : Told) (records ends : List ℕ) (whole : List Bool) (bucket : ℕ) : Type 0 where
  pub mended : ForSome old.files (λ from. AreChainsScanned records ends whole from → IsMendedTo old now from bucket)
  pub silent : old.files ≡ None → now.files ≡ None

-- at first all buckets are left
all-left : (from : Image) → chain_repair_steps from ≡ chains_steps (kept_records from) 0 65536 from
unfolding chain_repair_steps
all-left from = refl

pub mended-none : (old : Told) (records ends : List ℕ) (whole : List Bool) → AreMendedTo old old records ends whole 0
mended-none old records ends whole = record {
  mended = λ from there scanned. record {
    done = [];
    left = 65536;
    is_left = refl;
    split = all-left from;
    applies = grows_none refl;
    up_to = λ image here. subst (HasChainsUpTo from 0) (some_inj (sym there ∙ here)) (chains-begin from scanned.well_formed scanned.writable scanned.keeps_all);
  };
  silent = λ none. none;
}

-- the steps of one bucket, and then those of the buckets after it
one-left : (records : ℕ → List ℕ) (bucket left more : ℕ) (image : Image) → left ≡ suc more
    → chains_steps records bucket left image ≡ chain_steps bucket (records bucket) image ++ chains_steps records (bucket + 1) more (after (chain_steps bucket (records bucket) image) image)
one-left records bucket left more image is = ap (λ (n : ℕ). chains_steps records bucket n image) is

-- what is known of the bucket that is next
next-is : (old now : Told) (records ends : List ℕ) (whole : List Bool) (bucket front : ℕ) (own : List ℕ) (told : Bool) (from : Image) → bucket < 65536 → own ≡ records_of records ends bucket → told ≡ slice_index_or whole bucket false
    → ForSome now.files (λ image. told ≡ false → IsBucketWord front bucket image) → AreChainsScanned records ends whole from → IsMendedTo old now from bucket → ForSome now.files (IsNextBucket from bucket front own told)
next-is old now records ends whole bucket front own told from inside own-is told-is read scanned to image here = record {
  next = record { well_formed = scanned.well_formed; keeps_all = scanned.keeps_all; up_to = to.up_to image here; are_kept = own-is ∙ scanned.are_kept bucket inside };
  is_whole = λ yes. subst (IsChain (store_of from) bucket) (sym own-is) (scanned.are_whole bucket inside (sym told-is ∙ yes));
  is_front = read image here;
}

-- the files now
now-there : (old now : Told) (from : Image) (bucket : ℕ) (to : IsMendedTo old now from bucket) → old.files ≡ Some from → now.files ≡ Some (after to.done from)
now-there old now from bucket to there = to.applies.files ∙ ap (option_map (after to.done)) there

-- a call without a step leaves it so
pub stays-mended : {old now next : Told} {records ends : List ℕ} {whole : List Bool} {bucket : ℕ} → next ≡ now → AreMendedTo old now records ends whole bucket → AreMendedTo old next records ends whole bucket
stays-mended {old} {now} {next} {records} {ends} {whole} {bucket} same are = subst (λ (t : Told). AreMendedTo old t records ends whole bucket) (sym same) are

-- the folder is opaque now only where it was opaque
pub were-untold : (old now : Told) (records ends : List ℕ) (whole : List Bool) (bucket : ℕ) → AreMendedTo old now records ends whole bucket → ForSome old.files (AreChainsScanned records ends whole) → now.files ≡ None → old.files ≡ None
were-untold old now records ends whole bucket are scanned none = by_files old.files refl
  where
    no_some : (image : Image) → None ≡ Some image → ⊥
    no_some image e = cc

    by_files : (o : Option Image) → old.files ≡ o → old.files ≡ None
    by_files None there = there
    by_files (Some from) there =
        let to : IsMendedTo old now from bucket = are.mended from there (scanned from there) in
        absurd (no_some (after to.done from) (sym none ∙ now-there old now from bucket to there))

-- what was done so far is a prefix of the steps
pub part-so-far : (old now : Told) (records ends : List ℕ) (whole : List Bool) (bucket : ℕ) → AreMendedTo old now records ends whole bucket → ForSome old.files (λ from. AreChainsScanned records ends whole from → AppliesPrefix old now (chain_repair_steps from))
part-so-far old now records ends whole bucket are from there scanned =
    let to : IsMendedTo old now from bucket = are.mended from there scanned in
    subst (AppliesPrefix old now) (sym to.split) (part_only (chains_steps (kept_records from) bucket to.left (after to.done from)) (part_whole to.applies))

-- one call more
module _ (old now : Told) (records ends : List ℕ) (whole : List Bool) (bucket front : ℕ) (own : List ℕ) (told : Bool) (inside : bucket < 65536) (own-is : own ≡ records_of records ends bucket) (told-is : told ≡ slice_index_or whole bucket false)
    (read : ForSome now.files (λ image. told ≡ false → IsBucketWord front bucket image)) (are : AreMendedTo old now records ends whole bucket) where
  -- the files now have this as their next bucket
  has-next : ForSome old.files (AreChainsScanned records ends whole) → ForSome now.files (λ image. (from : Image) × IsNextBucket from bucket front own told image)
  has-next scanned image here = by_files old.files refl
    where
      no_some : None ≡ Some image → ⊥
      no_some e = cc

      by_files : (o : Option Image) → old.files ≡ o → (from : Image) × IsNextBucket from bucket front own told image
      by_files None none = absurd (no_some (sym (are.silent none) ∙ here))
      by_files (Some from) there = (from, next-is old now records ends whole bucket front own told from inside own-is told-is read (scanned from there) (are.mended from there (scanned from there)) image here)

  -- the checksums of the bucket's records match or are absent
  pub own-check : ForSome old.files (AreChainsScanned records ends whole) → ForSome now.files (AllCheck own)
  own-check scanned image here =
      let next : (from : Image) × IsNextBucket from bucket front own told image = has-next scanned image here in
      kept-check next.0 bucket own next.1.next.are_kept image next.1.next.up_to.holds

  module _ (next : Told) where
    pub part-on : ForSome now.files (λ mid. (from : Image) → IsNextBucket from bucket front own told mid → AppliesPrefix now next (chain_steps bucket own mid)) → ForSome old.files (λ from. AreChainsScanned records ends whole from → AppliesPrefix old next (chain_repair_steps from))
    part-on part from there scanned =
        let to : IsMendedTo old now from bucket = are.mended from there scanned in
        let mid : Image = after to.done from in
        let here : now.files ≡ Some mid = now-there old now from bucket to there in
        let is : IsNextBucket from bucket front own told mid = next-is old now records ends whole bucket front own told from inside own-is told-is read scanned to mid here in
        let step : List TrailStep = chain_steps bucket (kept_records from bucket) mid in
        let more : ℕ = to.left - 1 in
        let count : to.left ≡ suc more = (let l = to.is_left in omega (arith, l, inside)) in
        subst (AppliesPrefix old next) (sym (to.split ∙ ap (λ (l : List TrailStep). to.done ++ l) (one-left (kept_records from) bucket to.left more mid count)))
        (part_then to.applies
        (part_only (chains_steps (kept_records from) (bucket + 1) more (after step mid)) (subst (λ (l : List ℕ). AppliesPrefix now next (chain_steps bucket l mid)) is.next.are_kept (part mid here from is))))

    pub mended-on : ForSome now.files (λ mid. (from : Image) → IsNextBucket from bucket front own told mid → Applies now next (chain_steps bucket own mid)) → (now.files ≡ None → next.files ≡ None) → AreMendedTo old next records ends whole (bucket + 1)
    mended-on steps silent = record {
      mended = λ from there scanned.
          let to : IsMendedTo old now from bucket = are.mended from there scanned in
          let mid : Image = after to.done from in
          let here : now.files ≡ Some mid = now-there old now from bucket to there in
          let is : IsNextBucket from bucket front own told mid = next-is old now records ends whole bucket front own told from inside own-is told-is read scanned to mid here in
          let step : List TrailStep = chain_steps bucket (kept_records from bucket) mid in
          let more : ℕ = to.left - 1 in
          let count : to.left ≡ suc more = (let l = to.is_left in omega (arith, l, inside)) in
          let made : Applies now next step = subst (λ (l : List ℕ). Applies now next (chain_steps bucket l mid)) is.next.are_kept (steps mid here from is) in
          let up : HasChainsUpTo from (bucket + 1) (after step mid) = subst (λ (l : List ℕ). HasChainsUpTo from (bucket + 1) (after (chain_steps bucket l mid) mid)) is.next.are_kept (mends-next from bucket own mid inside is.next).1 in
          record {
            done = to.done ++ step;
            left = more;
            is_left = let l = to.is_left in omega (arith, l, inside);
            split = to.split ∙ ap (λ (l : List TrailStep). to.done ++ l) (one-left (kept_records from) bucket to.left more mid count)
                ∙ sym (append_assoc to.done step (chains_steps (kept_records from) (bucket + 1) more (after step mid)))
                ∙ ap (λ (i : Image). (to.done ++ step) ++ chains_steps (kept_records from) (bucket + 1) more i) (sym (after-append to.done step from));
            applies = grows_then to.applies made;
            up_to = told_whole (HasChainsUpTo from (bucket + 1)) made (λ image is_here. subst (λ (x : Image). HasChainsUpTo from (bucket + 1) (after step x)) (some_inj (sym here ∙ is_here)) up);
          };
      silent = λ none. silent (are.silent none);
    }

-- in the end all steps were made
pub repair-steps : (old now : Told) (records ends : List ℕ) (whole : List Bool) (bucket : ℕ) → bucket ≡ 65536 → AreMendedTo old now records ends whole bucket → ForSome old.files (λ from. AreChainsScanned records ends whole from → Applies old now (chain_repair_steps from))
repair-steps old now records ends whole bucket all are from there scanned =
    let to : IsMendedTo old now from bucket = are.mended from there scanned in
    let none : to.left ≡ 0 = (let l = to.is_left in omega (arith, l, all)) in
    subst (Applies old now) (sym (to.split ∙ ap (λ (n : ℕ). to.done ++ chains_steps (kept_records from) bucket n (after to.done from)) none ∙ append-nil to.done)) to.applies

-- none of them is a note
quiet-chains : (records : ℕ → List ℕ) (bucket count : ℕ) (image : Image) → IsQuiet (chains_steps records bucket count image)
quiet-chains records bucket zero image = tt
quiet-chains records bucket (suc count) image =
    let first : List TrailStep = chain_steps bucket (records bucket) image in
    quiet-append first (chains_steps records (bucket + 1) count (after first image)) (quiet-chain bucket (records bucket) image) (quiet-chains records (bucket + 1) count (after first image))

pub quiet-repair : (image : Image) → IsQuiet (chain_repair_steps image)
quiet-repair image = subst IsQuiet (sym (all-left image)) (quiet-chains (kept_records image) 0 65536 image)

-- what a prefix of the steps passes, and where all of them lead
pub repair-passes : (old now : Told) (records ends : List ℕ) (whole : List Bool) → ForSome old.files (λ from. AreChainsScanned records ends whole from → AppliesPrefix old now (chain_repair_steps from)) → ForSome old.files (λ from. AreChainsScanned records ends whole from → Passes old now (HoldsTheSame from))
repair-passes old now records ends whole part from there scanned =
    passes_part (HoldsTheSame from) (HoldsTheSame from) (part from there scanned) (quiet-repair from) (λ i h. h)
    (λ i is_there. subst (λ (x : Image). Along (HoldsTheSame from) x (chain_repair_steps from)) (some_inj (sym there ∙ is_there)) (chains-repaired from scanned.well_formed scanned.writable scanned.keeps_all).0)

pub repair-mends : (old now : Told) (records ends : List ℕ) (whole : List Bool) → ForSome old.files (λ from. AreChainsScanned records ends whole from → Applies old now (chain_repair_steps from)) → ForSome old.files (λ from. AreChainsScanned records ends whole from → ForSome now.files (AreChainsMended from))
repair-mends old now records ends whole made from there scanned =
    told_whole (AreChainsMended from) (made from there scanned)
    (λ i is_there. subst (λ (x : Image). AreChainsMended from (after (chain_repair_steps from) x)) (some_inj (sym there ∙ is_there)) (chains-repaired from scanned.well_formed scanned.writable scanned.keeps_all).1)
