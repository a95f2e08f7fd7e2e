-- How each part of a repair breaks off, and how the rest of it ends.
use Rattle.std.proofs.Common.{◌≡◌, ℕ, ◌<◌, ◌%◌, ◌^◌, ◌⊎◌, inl, inr, Bool, List, length, Some, sym, ◌∙◌, subst, arith}
use Rattle.std.specs.Option.{ForSome}
use Rattle.spec_image.specs.Image.{Image}
use Rattle.spec_image.specs.Steps.{TrailStep, after}
use Rattle.spec_image.specs.Told.{Told, Along, Applies, AppliesPrefix, MakesPartOf}
use Rattle.spec_image.proofs.Quiet.{no-note, any_end}
use Rattle.spec_image.proofs.Runs.{some_inj, told_whole, until_weaker2}
use Rattle.spec_format.specs.Headers.{HasWholeIndex}
use Rattle.blk_addr.specs.declared.claim_set.Claims.{Claims}
use Rattle.blk_disk.specs.declared.tables.BlockFiles.{BlockFiles}
use Rattle.blk_disk.specs.Tables.{all_files}
use Rattle.blk_alloc.specs.Rebuilding.{IsRebuilding}
use Rattle.law_recovery.specs.ChainRepair.{chain_repair_steps}
use Rattle.law_recovery.specs.ListRepair.{HoldsTheSame, IsListMended}
use Rattle.law_recovery.specs.MendedChanges.{IsMidRepair}
use Rattle.law_recovery.proofs.ChainRepair.{chains-repaired}
use Rattle.law_recovery.proofs.ListRepair.{holds-trans}
use Rattle.law_recovery.proofs.MendedChanges.{holds-mid, keeps-mid}
use Rattle.blk_scan.specs.declared.scan.Scan.{Scan}
use Rattle.blk_repair.specs.Chains.{AreChainsScanned}
use Rattle.blk_repair.specs.Counters.{HasIndexWords, IsIndexMended, IsNextCounted, counted_words, index_steps, index_words_steps}
use Rattle.blk_repair.specs.Deletions.{IsMidDeletion}
use Rattle.blk_repair.specs.Endings.{RepairBreaksOff, EndsOrBreaksOff, EndsWithCrashWord}
use Rattle.blk_repair.specs.Maps.{AreFilesMended, IsNextRebuilt, Rebuilds}
use Rattle.blk_repair.specs.Parts.{AppliesOf}
use Rattle.blk_repair.specs.Removals.{IsListScanned, mending_steps}
use Rattle.blk_repair.specs.Repair.{AreBucketsScanned, IsNextFinished, IsRepairable, IsRepairedFor}
use Rattle.blk_repair.specs.Seals.{AreSealedNow, HasMendedLinksOf, IsNextSealed, seals_steps}
use Rattle.blk_repair.proofs.CounterRuns.{counted, index-along, index-mended, index-quiet, words-quiet}
use Rattle.blk_repair.proofs.CrashWord.{SpareIt, counted-elsewhere, spare-all, spare-list, spare-seals, spare-table, spare-words}
use Rattle.blk_repair.proofs.Endings.{breaks-prefix, breaks-part, breaks-then, breaks-weaker, either-then, either-weaker, ends-then, ends-weaker, spare-or-ended}
use Rattle.blk_repair.proofs.ListRuns.{quiet-mending, repaired, steps-are}
use Rattle.blk_repair.proofs.MapRuns.{moment-keeps}
use Rattle.blk_repair.proofs.RepairRuns.{chains-next, claims-next, counted-told, deletion-mid, links-mid, repaired-for, still-told}
use Rattle.blk_repair.proofs.SealRuns.{all-sealed, seals-quiet}
use Rattle.blk_repair.proofs.TableRuns.{quiet-repair}

-- ---- two parts

-- steps that break off, and what is after them
pub joined-either : {a b c : Told} {P Q : Image → Type 0} (R : Image → Type 0) (from : Image) → a.files ≡ Some from → RepairBreaksOff a b P → ForSome b.files R → ForSome b.files (λ mid. R mid → EndsOrBreaksOff b c P Q) → EndsOrBreaksOff a c P Q
joined-either R from there first is second = let now = still-told from there first.passes in either-then first (second now.0 now.1 (is now.0 now.1))

pub joined-ends : {a b c : Told} {P Q : Image → Type 0} (R : Image → Type 0) (from : Image) → a.files ≡ Some from → RepairBreaksOff a b P → ForSome b.files R → ForSome b.files (λ mid. R mid → EndsWithCrashWord b c P Q) → EndsWithCrashWord a c P Q
joined-ends R from there first is second = let now = still-told from there first.passes in ends-then first (second now.0 now.1 (is now.0 now.1))

-- ---- the links

pub list-breaks : (a b : Told) (nodes others : List ℕ) (from : Image) → a.files ≡ Some from → IsListScanned nodes others from → MakesPartOf a b (mending_steps nodes others) → RepairBreaksOff a b (HoldsTheSame from)
list-breaks a b nodes others from there scanned part =
    breaks-part (HoldsTheSame from) (part.made from there) (no-note (mending_steps nodes others from) (quiet-mending nodes others from)) (subst SpareIt (steps-are from nodes others scanned) (spare-list from))
    (λ i here. subst (λ (x : Image). Along (HoldsTheSame from) x (mending_steps nodes others from)) (some_inj (sym there ∙ here)) (repaired from nodes others scanned).0)

pub chains-break : (a b : Told) (records ends : List ℕ) (whole : List Bool) → ForSome a.files (λ from. AreChainsScanned records ends whole from → AppliesPrefix a b (chain_repair_steps from)) → ForSome a.files (λ from. AreChainsScanned records ends whole from → RepairBreaksOff a b (HoldsTheSame from))
chains-break a b records ends whole part from there scanned =
    breaks-part (HoldsTheSame from) (part from there scanned) (no-note (chain_repair_steps from) (quiet-repair from)) (spare-table from)
    (λ i here. subst (λ (x : Image). Along (HoldsTheSame from) x (chain_repair_steps from)) (some_inj (sym there ∙ here)) (chains-repaired from scanned.well_formed scanned.writable scanned.keeps_all).0)

-- the list, and then the chains
pub links-break : (scan : Scan) (a b c : Told) (from : Image) → a.files ≡ Some from → IsRepairable scan from → RepairBreaksOff a b (HoldsTheSame from) → ForSome b.files (IsListMended from)
    → ForSome b.files (λ mid. AreBucketsScanned scan.chains mid → RepairBreaksOff b c (HoldsTheSame mid)) → RepairBreaksOff a c (IsMidRepair from)
links-break scan a b c from there is first mended chained =
    let now = still-told from there first.passes in
    let holds : HoldsTheSame from now.0 = any_end first.passes now.0 now.1 in
    let on : (i : Image) → HoldsTheSame now.0 i → IsMidRepair from i = (λ i h. holds-mid from i (holds-trans from now.0 i holds h)) in
    breaks-then (breaks-weaker first (holds-mid from)) (breaks-weaker (chained now.0 now.1 (chains-next scan a b from there is first.passes mended now.0 now.1)) on)

-- ---- the files

pub rebuilds-break : (a b : Told) (files : BlockFiles) (claims : Claims) (entry from : Image) → a.files ≡ Some from → IsNextRebuilt entry claims from → AppliesOf (Rebuilds files claims) from a b → RepairBreaksOff a b (IsMidRepair entry)
rebuilds-break a b files claims entry from there next made =
    let R : Image → Type 0 = IsRebuilding claims (all_files files) from in
    let M : Image → Type 0 = IsMidRepair entry in
    let on : (i : Image) → R i → M i = (λ i moment. keeps-mid entry i (moment-keeps entry from claims (all_files files) i next.holds.keeps moment)) in
    record {
      passes = record {
        steps = made.steps;
        applies = made.applies;
        unnoted = no-note made.steps made.are.quiet;
        along = λ i here. subst (λ (x : Image). Along M x made.steps) (some_inj (sym there ∙ here)) (until_weaker2 R M R M made.steps from on on made.are.along);
      };
      unmarked = spare-all claims (all_files files) from next.holds.writable.has_header made.steps from made.are.along made.are.needed;
    }

-- the unlinked block files are deleted, and then the unused external files
pub deletions-break : (claims : Claims) (a b c : Told) (entry from : Image) → a.files ≡ Some from → IsNextRebuilt entry claims from → RepairBreaksOff a b (IsMidDeletion entry from)
    → ForSome b.files (λ mid. (entry : Image) → IsNextRebuilt entry claims mid → RepairBreaksOff b c (IsMidDeletion entry mid)) → RepairBreaksOff a c (IsMidRepair entry)
deletions-break claims a b c entry from there next first second =
    let now = still-told from there first.passes in
    let rest : IsNextRebuilt entry claims now.0 = claims-next entry from now.0 claims next (any_end first.passes now.0 now.1) in
    breaks-then (breaks-weaker first (deletion-mid entry from)) (breaks-weaker (second now.0 now.1 entry rest) (deletion-mid entry now.0))

-- the block files are repaired, and then the other files are deleted
pub store-breaks : (claims : Claims) (a b c : Told) (entry from : Image) → a.files ≡ Some from → IsNextRebuilt entry claims from → RepairBreaksOff a b (IsMidRepair entry) → ForSome b.files (AreFilesMended entry from)
    → ForSome b.files (λ mid. (entry : Image) → IsNextRebuilt entry claims mid → RepairBreaksOff b c (IsMidRepair entry)) → RepairBreaksOff a c (IsMidRepair entry)
store-breaks claims a b c entry from there next first mended second =
    let now = still-told from there first.passes in
    breaks-then first (second now.0 now.1 entry (record { holds = (mended now.0 now.1).holds; claimed = next.claimed }))

-- ---- the rest

pub seals-break : (a b : Told) (words : List ℕ) (entry from : Image) → a.files ≡ Some from → IsNextSealed entry words from → ForSome a.files (λ image. AppliesPrefix a b (seals_steps words image)) → RepairBreaksOff a b (HasMendedLinksOf entry)
seals-break a b words entry from there next part =
    breaks-part (HasMendedLinksOf entry) (part from there) (no-note (seals_steps words from) (seals-quiet words from)) (spare-seals words from)
    (λ i here. subst (λ (x : Image). Along (HasMendedLinksOf entry) x (seals_steps words from)) (some_inj (sym there ∙ here)) (all-sealed entry from words next.holds next.are_kept).0)

-- the words of the index
module _ (b c : Told) (items bytes id : ℕ) (small_items : items < 2 ^ 32) (small_bytes : bytes < 2 ^ 64) (small_id : id < 2 ^ 32) (entry mid : Image) (there : b.files ≡ Some mid) (whole : HasWholeIndex mid) (next : IsNextCounted entry items bytes mid) where
  -- the counters are right in the end
  abbrev pub AreRight : Image → Type 0
  AreRight last = IsIndexMended entry mid last × HasIndexWords items bytes id last

  abbrev counters : List TrailStep
  counters = index_words_steps (counted_words items bytes id) mid

  spare-counters : SpareIt (index_words_steps (counted_words items bytes id) mid)
  spare-counters = spare-words (counted_words items bytes id) mid (counted-elsewhere items bytes id)

  held : ForSome b.files (λ image. Along (HasMendedLinksOf entry) image (index_steps items bytes id mid))
  held i here = subst (λ (x : Image). Along (HasMendedLinksOf entry) x (index_steps items bytes id mid)) (some_inj (sym there ∙ here)) (index-along items bytes id small_items small_bytes small_id entry mid next.holds)

  pub index-ends : Applies b c (index_steps items bytes id mid) → EndsWithCrashWord b c (HasMendedLinksOf entry) AreRight
  index-ends made = record {
    before = counters;
    unnoted = words-quiet (counted_words items bytes id) mid;
    first = spare-counters;
    applies = made;
    along = held;
    leaves = told_whole AreRight made
        (λ i here. subst (λ (x : Image). AreRight (after (index_steps items bytes id mid) x)) (some_inj (sym there ∙ here)) (index-mended items bytes id small_items small_bytes small_id entry mid whole next, counted items bytes id mid small_items small_bytes small_id whole));
  }

  pub index-may : AppliesPrefix b c (index_steps items bytes id mid) → EndsOrBreaksOff b c (HasMendedLinksOf entry) AreRight
  index-may part = on (spare-or-ended counters part.made part.left spare-counters part.split)
    where
      on : SpareIt part.made ⊎ (part.made ≡ index_steps items bytes id mid) → EndsOrBreaksOff b c (HasMendedLinksOf entry) AreRight
      on (inl spare) = inl (breaks-prefix (HasMendedLinksOf entry) part (index-quiet items bytes id mid) spare held)
      on (inr all) = inr (index-ends (subst (Applies b c) all part.applies))

below : (n x : ℕ) → n ≡ x % 2 ^ 32 → n < 2 ^ 32
below n x e = omega (arith, e)

-- the checksums are written, and then the words of the index, by what the scan reported
module _ (scan : Scan) (words : List ℕ) (w : words ≡ scan.bare.items) (a b c : Told) (entry from : Image) (there : a.files ≡ Some from) (next : IsNextFinished scan entry from) (first : RepairBreaksOff a b (HasMendedLinksOf entry)) (items bytes id : ℕ)
    (items-are : items ≡ length scan.kept.items % 2 ^ 32) (bytes-are : bytes ≡ scan.bytes) (small_bytes : bytes < 2 ^ 64) (small_id : id < 2 ^ 32) (whole : ForSome b.files HasWholeIndex) (sealed : ForSome b.files (AreSealedNow entry from words)) where
  next-counted : ForSome b.files (IsNextCounted entry items bytes)
  next-counted mid here = counted-told scan entry mid items bytes items-are bytes-are next.links.scanned (any_end first.passes mid here)

  all-done : (mid last : Image) → b.files ≡ Some mid → IsIndexMended entry mid last × HasIndexWords items bytes id last → IsRepairedFor id entry last
  all-done mid last here right = repaired-for scan entry from mid last words items bytes id w next (sealed mid here) right.0 right.1

  pub rest-ends : ForSome b.files (λ mid. Applies b c (index_steps items bytes id mid)) → EndsWithCrashWord a c (IsMidRepair entry) (IsRepairedFor id entry)
  rest-ends made =
      let now = still-told from there first.passes in
      ends-then (breaks-weaker first (links-mid entry))
      (ends-weaker (index-ends b c items bytes id (below items _ items-are) small_bytes small_id entry now.0 now.1 (whole now.0 now.1) (next-counted now.0 now.1) (made now.0 now.1)) (links-mid entry) (λ last. all-done now.0 last now.1))

  pub rest-may : ForSome b.files (λ mid. AppliesPrefix b c (index_steps items bytes id mid)) → EndsOrBreaksOff a c (IsMidRepair entry) (IsRepairedFor id entry)
  rest-may part =
      let now = still-told from there first.passes in
      either-then (breaks-weaker first (links-mid entry))
      (either-weaker (index-may b c items bytes id (below items _ items-are) small_bytes small_id entry now.0 now.1 (whole now.0 now.1) (next-counted now.0 now.1) (part now.0 now.1)) (links-mid entry) (λ last. all-done now.0 last now.1))
