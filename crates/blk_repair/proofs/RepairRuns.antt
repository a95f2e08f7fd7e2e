-- How the parts of repair follow one another, and what each hands on.
use Rattle.std.proofs.Common.{◌≡◌, inl, inr, ⊎_elim, ℕ, ◌≤◌, ◌%◌, ◌^◌, Bool, List, Option, None, Some, Result, Ok, Err, OnOk, refl, sym, ◌∙◌, ap, subst, arith, [], ◌∷◌, ◌++◌}
use Rattle.std.specs.Prelude.{All, map, length, Contains}
use Rattle.std.specs.List.{filter, flat_map}
use Rattle.std.specs.Option.{ForSome, option_map}
use Rattle.std.proofs.lemmas.List.{length-map}
use Rattle.std.proofs.lemmas.List.Elements.{All-weaker}
use Rattle.spec_image.specs.Image.{File, Image, AreBytes}
use Rattle.spec_image.specs.Steps.{TrailStep, after}
use Rattle.spec_image.specs.Told.{Told, Applies, PassesAny}
use Rattle.spec_image.proofs.Quiet.{any_end}
use Rattle.blk_model.specs.Holding.{open_state}
use Rattle.blk_model.specs.Items.{Row}
use Rattle.spec_format.specs.Headers.{HasWholeIndex}
use Rattle.spec_folder.specs.Chains.{IsChain}
use Rattle.spec_folder.specs.Found.{kept}
use Rattle.spec_folder.specs.ListImages.{IsWritable, walked}
use Rattle.spec_folder.specs.Loads.{Loaded, claims_of_loaded}
use Rattle.spec_folder.specs.Sound.{OnlyClaimed, OnlyLinked, words_of}
use Rattle.spec_folder.specs.StandsFor.{StandsFor}
use Rattle.spec_folder.specs.View.{store_of}
use Rattle.blk_addr.specs.Claims.{IsClaimsOf}
use Rattle.blk_addr.specs.declared.claim_set.Claims.{Claims}
use Rattle.blk_disk.specs.declared.tables.BlockFiles.{BlockFiles}
use Rattle.blk_disk.specs.Tables.{all_files, files_of}
use Rattle.blk_disk.specs.Open.{IsOpen}
use Rattle.blk_index.specs.Making.{deletions}
use Rattle.blk_alloc.specs.Extending.{KeepsStanding}
use Rattle.blk_audit.specs.Sealable.{CanBeSealed}
use Rattle.blk_audit.specs.BucketEnds.{records_of}
use Rattle.blk_alloc.specs.Rebuilding.{AreRight}
use Rattle.blk_alloc.proofs.Rebuilt.{told_same}
use Rattle.law_recovery.specs.ChainRepair.{AreChainsMended, chain_repair_steps, kept_records}
use Rattle.law_recovery.specs.KeptSeals.{AreOthersSealed, IsOfKept}
use Rattle.law_recovery.specs.ListRepair.{HoldsTheSame, IsListMended, list_repair_steps}
use Rattle.law_recovery.specs.Mended.{HasMendedFiles, IsMended}
use Rattle.law_recovery.specs.MendedChanges.{IsMidRepair, KeepsMendedLinks}
use Rattle.law_recovery.specs.MendedLinks.{HasMendedLinks}
use Rattle.law_recovery.specs.RecordSeals.{IsSealedAt, KeepsRecordsSealed, StaysSealed}
use Rattle.law_recovery.proofs.ChainRepair.{chains-stay, records-stay}
use Rattle.law_recovery.proofs.LinkRepair.{chains-links, kept-walked}
use Rattle.law_recovery.proofs.ListRepair.{holds-trans}
use Rattle.law_recovery.proofs.Mended.{mended-folders}
use Rattle.law_recovery.proofs.MendedChanges.{keeps-mid, repaired-kept}
use Rattle.law_recovery.proofs.RecordSeals.{keeps-more, keeps-none}
use Rattle.law_recovery.proofs.SoundFolders.{mended-none}
use Rattle.blk_scan.specs.declared.chains.KeptChains.{KeptChains}
use Rattle.blk_scan.specs.declared.scan.Scan.{Scan}
use Rattle.blk_scan.specs.Scans.{AreChainsTold, IsScanOf, kept_as_told}
use Rattle.blk_repair.specs.Chains.{AreChainsScanned}
use Rattle.blk_repair.specs.Counters.{HasIndexWords, IsIndexMended, IsNextCounted, index_steps}
use Rattle.blk_repair.specs.Deletions.{DeletesSome, IsMidDeletion}
use Rattle.blk_repair.specs.Maps.{AreFilesMended, IsNextRebuilt}
use Rattle.blk_repair.specs.Removals.{IsListScanned, mending_steps}
use Rattle.blk_repair.specs.Repair.{AreBucketsScanned, AreLinksMended, AreOnlyKeptLeft, AreOthersDeleted, IsNextFinished, IsRepairable, IsRepairedFor, counting_steps}
use Rattle.blk_repair.specs.Seals.{AreSealedNow, HasMendedLinksOf, IsNextSealed, seals_steps}
use Rattle.blk_repair.proofs.DeletionRuns.{linked-among}
use Rattle.blk_repair.proofs.ListRuns.{steps-are}
use Rattle.blk_repair.proofs.MapRuns.{right-files}
use Rattle.blk_repair.proofs.SealRuns.{MayBeSealed, one-may}

-- ---- two parts

-- the files that a call leaves are observed where they were before it
pub still-told : {a b : Told} {P : Image → Type 0} (from : Image) → a.files ≡ Some from → PassesAny a b P → (now : Image) × (b.files ≡ Some now)
still-told {a} {b} from there passes = (after passes.steps from, passes.applies.files ∙ ap (option_map (after passes.steps)) there)

-- a folder is opaque after a call only where it was opaque before it
pub none-before : (a b : Told) → ForSome a.files (λ from. (now : Image) × (b.files ≡ Some now)) → b.files ≡ None → a.files ≡ None
none-before a b told none = by_files a.files refl
  where
    no_some : (image : Image) → None ≡ Some image → ⊥
    no_some image e = cc

    by_files : (o : Option Image) → a.files ≡ o → a.files ≡ None
    by_files None there = there
    by_files (Some from) there = let now = told from there in absurd (no_some now.0 (sym none ∙ now.1))

-- what is passed by a call, and what another leaves on what it left
pub led : {a b : Told} (c : Told) {P : Image → Type 0} (R S : Image → Type 0) (from : Image) → a.files ≡ Some from → PassesAny a b P → ForSome b.files R → ForSome b.files (λ mid. R mid → ForSome c.files S) → ForSome c.files S
led {a} {b} c {P} R S from there first is second =
    let now = still-told from there first in
    second now.0 now.1 (is now.0 now.1)

-- two facts of one answer
pub on_ok-both : {T E A B C : Type 0} (r : Result T E) → (A → B → C) → OnOk r A → OnOk r B → OnOk r C
on_ok-both {T} {E} {A} {B} {C} (Ok x) both one other = both one other
on_ok-both {T} {E} {A} {B} {C} (Err e) both one other = tt

-- an open folder can be written
pub can-write : (files : BlockFiles) (image : Image) → AreBytes image → IsOpen files image → IsWritable image
can-write files image bytes is = record { bytes = bytes; has_header = let whole : HasWholeIndex image = is.whole_index in omega (arith, whole) }

-- ---- the links

-- where each bucket is the chain of its kept records, nothing is to be repaired
pub none-to_mend : (image : Image) → AreBucketsScanned None image → AreChainsMended image image
none-to_mend image is = record { list = refl; seals = keeps-none image; chains = λ bucket below. is.told bucket below }

pub none-held : (chains : Option KeptChains) (image : Image) → AreBucketsScanned chains image → HoldsTheSame image image
none-held chains image is = record { well_formed = is.well_formed; writable = is.writable; kept_same = refl; found_same = refl }

-- otherwise the kept records are reported
pub chains-told : (chains : KeptChains) (records ends : List ℕ) (whole : List Bool) (image : Image) → records ≡ chains.records.items → ends ≡ chains.ends.items → whole ≡ chains.whole.items → AreBucketsScanned (Some chains) image → AreChainsScanned records ends whole image
chains-told chains records ends whole image r e w is =
    subst (λ (rs : List ℕ). AreChainsScanned rs ends whole image) (sym r)
    (subst (λ (es : List ℕ). AreChainsScanned chains.records.items es whole image) (sym e)
    (subst (λ (ws : List Bool). AreChainsScanned chains.records.items chains.ends.items ws image) (sym w)
    (record { well_formed = is.well_formed; writable = is.writable; keeps_all = is.keeps_all; are_kept = is.told.are_kept; are_whole = is.told.are_whole })))

module _ (from mid : Image) (holds : HoldsTheSame from mid) (mended : IsListMended from mid) where
  -- what was reported of the chains is so still once the list is repaired
  still-chains : (chains : Option KeptChains) → AreChainsTold from chains → AreChainsTold mid chains
  still-chains None told = λ bucket below.
      subst (IsChain (store_of mid) bucket) (sym (records-stay from mid holds mended.store bucket)) (chains-stay from mid mended.store bucket (kept_records from bucket) (told bucket below))
  still-chains (Some chains) told = record {
    are_ends = told.are_ends;
    told = told.told;
    are_kept = λ bucket below. told.are_kept bucket below ∙ sym (records-stay from mid holds mended.store bucket);
    are_whole = λ bucket below is. chains-stay from mid mended.store bucket (records_of chains.records.items chains.ends.items bucket) (told.are_whole bucket below is);
  }

  pub buckets-scanned : (chains : Option KeptChains) → AreChainsTold from chains → AreBucketsScanned chains mid
  buckets-scanned chains told = record {
    well_formed = holds.well_formed;
    writable = holds.writable;
    keeps_all = record { idle = mended.rests.idle; all_kept = mended.all_kept };
    told = still-chains chains told;
  }

-- what is kept of an image whose links are repaired still has its checksums, but for some
still-sealed : (entry from image : Image) (words : List ℕ) → HasMendedLinksOf entry image → KeepsRecordsSealed from image → AreOthersSealed entry words from → AreOthersSealed entry words image
still-sealed entry from image words holds seals others = λ w of.
    let may : MayBeSealed image w = one-may entry image w holds of in
    ⊎_elim (λ (was : IsSealedAt from w). inl (seals.sealed w (sym (seals.stands w) ∙ may.stands) may.begins was)) (λ (among : Contains words w). inr among) (others w of)

pub left-sealed : (entry from image : Image) (words : List ℕ) → HasMendedLinksOf entry from → StaysSealed from image → AreOthersSealed entry words from → AreOthersSealed entry words image
left-sealed entry from image words holds seals others = λ w of.
    let may : MayBeSealed from w = one-may entry from w holds of in
    ⊎_elim (λ (was : IsSealedAt from w). inl (seals w may.stands may.begins was)) (λ (among : Contains words w). inr among) (others w of)

-- the LRU list and the chains are repaired
pub links-mended : (scan : Scan) (from mid last : Image) → IsRepairable scan from → HoldsTheSame from mid → IsListMended from mid → HoldsTheSame mid last → AreChainsMended mid last → AreLinksMended scan from last
links-mended scan from mid last is holds list_mended holds_last chained =
    let now : HoldsTheSame from last = holds-trans from mid last holds holds_last in
    let links : HasMendedLinksOf from last = record { writable = holds_last.writable; keeps = repaired-kept from last now (chains-links from mid last holds list_mended holds_last chained) } in
    record {
      scanned = is.scanned;
      holds = links;
      others = still-sealed from from last scan.bare.items links (keeps-more from mid last list_mended.seals chained.seals) is.scanned.bare.others;
    }

-- the list is that of which the scan reported this
pub list-scanned : (scan : Scan) (nodes others : List ℕ) (from : Image) → nodes ≡ scan.walked.items → others ≡ scan.kept_nodes.items → IsWritable from → IsRepairable scan from → IsListScanned nodes others from
list-scanned scan nodes others from n o writable is = record { well_formed = is.well_formed; writable = writable; walked = n ∙ is.scanned.walked; kept_nodes = o ∙ is.scanned.kept_nodes }

-- the list was repaired, and the chains are next
module _ (scan : Scan) (a b : Told) (from : Image) (there : a.files ≡ Some from) (is : IsRepairable scan from) (passes : PassesAny a b (HoldsTheSame from)) where
  module _ (mended : ForSome b.files (IsListMended from)) where
    pub chains-next : ForSome b.files (AreBucketsScanned scan.chains)
    chains-next mid here = buckets-scanned from mid (any_end passes mid here) (mended mid here) scan.chains is.scanned.chains

    module _ (c : Told) (chained : ForSome b.files (λ mid. AreBucketsScanned scan.chains mid → PassesAny b c (HoldsTheSame mid))) where
      pub links-done : ForSome b.files (λ mid. AreBucketsScanned scan.chains mid → ForSome c.files (AreChainsMended mid)) → ForSome c.files (AreLinksMended scan from)
      links-done done last here =
          let now = still-told from there passes in
          let next = chains-next now.0 now.1 in
          links-mended scan from now.0 last is (any_end passes now.0 now.1) (mended now.0 now.1) (any_end (chained now.0 now.1 next) last here) (done now.0 now.1 next last here)

-- ---- the files

-- deletions leave an opaque folder opaque
pub silent-deletions : (goes : File → Bool) (first : File) {a b : Told} → DeletesSome goes first a b → a.files ≡ None → b.files ≡ None
silent-deletions goes first {a} {b} some none = some.1.applies.files ∙ ap (option_map (after (deletions (filter goes some.1.files)))) none

-- at each deletion kept records and recovered contents are the same
pub deletion-mid : (entry from image : Image) → IsMidDeletion entry from image → IsMidRepair entry image
deletion-mid entry from image mid = keeps-mid entry image mid.holds.keeps

-- after the unlinked files the used blocks are still those of what is kept
pub claims-next : (entry from image : Image) (claims : Claims) → IsNextRebuilt entry claims from → IsMidDeletion entry from image → IsNextRebuilt entry claims image
claims-next entry from image claims next mid = record { holds = mid.holds; claimed = next.claimed }

-- the unlinked block files and the unused external files are deleted
others-deleted : (entry from mid last : Image) (claims : Claims) → IsNextRebuilt entry claims from → IsMidDeletion entry from mid → OnlyLinked mid → IsMidDeletion entry mid last → OnlyClaimed last (claims_of_loaded (kept last)) → AreOthersDeleted entry from last
others-deleted entry from mid last claims next first linked second claimed = record {
  holds = second.holds;
  files = λ files. second.files (first.files files);
  only = record { only_linked = second.only_linked linked; only_claimed = claimed };
  others = λ words others. left-sealed entry mid last words first.holds second.seals (left-sealed entry from mid words next.holds first.seals others);
}

module _ (claims : Claims) (a b c : Told) (entry from : Image) (there : a.files ≡ Some from) (next : IsNextRebuilt entry claims from) (first : PassesAny a b (IsMidDeletion entry from)) where
  claims-now : ForSome b.files (IsNextRebuilt entry claims)
  claims-now mid here = claims-next entry from mid claims next (any_end first mid here)

  module _ (second : ForSome b.files (λ mid. (entry : Image) → IsNextRebuilt entry claims mid → PassesAny b c (IsMidDeletion entry mid))) where
    pub deletions-done : ForSome b.files OnlyLinked → ForSome b.files (λ mid. (entry : Image) → IsNextRebuilt entry claims mid → ForSome c.files (λ image. OnlyClaimed image (claims_of_loaded (kept image)))) → ForSome c.files (AreOthersDeleted entry from)
    deletions-done linked claimed last here =
        let now = still-told from there first in
        let held : IsNextRebuilt entry claims now.0 = claims-now now.0 now.1 in
        others-deleted entry from now.0 last claims next (any_end first now.0 now.1) (linked now.0 now.1) (any_end (second now.0 now.1 entry held) last here) (claimed now.0 now.1 entry held last here)

-- the block files are repaired, and then the others deleted
module _ (claims : Claims) (a b c : Told) (entry from : Image) (there : a.files ≡ Some from) (next : IsNextRebuilt entry claims from) (first : PassesAny a b (KeepsMendedLinks entry)) (mended : ForSome b.files (AreFilesMended entry from)) where
  rebuilt-now : ForSome b.files (IsNextRebuilt entry claims)
  rebuilt-now mid here = record { holds = (mended mid here).holds; claimed = next.claimed }

  pub store-done : ForSome b.files (λ mid. (entry : Image) → IsNextRebuilt entry claims mid → ForSome c.files (AreOthersDeleted entry mid)) → ForSome c.files (AreOnlyKeptLeft entry from)
  store-done second last here =
      let now = still-told from there first in
      let is : AreFilesMended entry from now.0 = mended now.0 now.1 in
      let gone : AreOthersDeleted entry now.0 last = second now.0 now.1 entry (rebuilt-now now.0 now.1) last here in
      record {
        holds = gone.holds;
        files = gone.files is.files;
        only = gone.only;
        others = λ words others. gone.others words (left-sealed entry from now.0 words next.holds is.seals others);
      }

-- the same files are all of them
pub same-files : (old new : BlockFiles) → ((kind : ℕ) → files_of new kind ≡ files_of old kind) → all_files new ≡ all_files old
unfolding all_files
same-files old new same = rw (same 1, same 2, same 3, same 4) refl

-- what was valid can still get its checksum
pub still-sealable : (old new : BlockFiles) (words : List ℕ) → KeepsStanding old new → All (CanBeSealed old) words → All (CanBeSealed new) words
still-sealable old new words keeps can = All-weaker (CanBeSealed old) (CanBeSealed new) (λ w is. record { stands = keeps w is.stands; begins = is.begins }) words can

-- ---- the rest

-- no more nodes are kept than a walk has
kept-few : (entry image : Image) → HasMendedLinksOf entry image → length (kept entry) ≤ 131072
kept-few entry image holds =
    let few : length (walked image) ≤ 131072 = holds.keeps.mended.rests.whole.few in
    let same : length (map (λ (k : Loaded). k.node) (kept image)) ≡ length (walked image) = ap length (kept-walked image holds.keeps.mended) in
    let long : length (map (λ (k : Loaded). k.node) (kept image)) ≡ length (kept image) = length-map (kept image) (λ k. k.node) in
    let was : length (kept image) ≡ length (kept entry) = ap length holds.keeps.kept_same in
    omega (arith, few, same, long, was)

small-rest : (n : ℕ) → n ≤ 131072 → n % 2 ^ 32 ≡ n
small-rest n few = omega (arith, few)

-- so many items with so many bytes were reported
pub counted-told : (scan : Scan) (entry image : Image) (items bytes : ℕ) → items ≡ length scan.kept.items % 2 ^ 32 → bytes ≡ scan.bytes → IsScanOf entry scan → HasMendedLinksOf entry image → IsNextCounted entry items bytes image
counted-told scan entry image items bytes i b told holds =
    let long : length scan.kept.items ≡ length (kept entry) = ap length told.kept_told ∙ length-map (kept entry) kept_as_told in
    record {
      holds = holds;
      items_are = i ∙ ap (λ (n : ℕ). n % 2 ^ 32) long ∙ small-rest (length (kept entry)) (kept-few entry image holds);
      bytes_are = b ∙ told.bytes;
    }

-- nothing is left
pub repaired-for : (scan : Scan) (entry from mid last : Image) (words : List ℕ) (items bytes id : ℕ) → words ≡ scan.bare.items → IsNextFinished scan entry from → AreSealedNow entry from words mid → IsIndexMended entry mid last → HasIndexWords items bytes id last → IsRepairedFor id entry last
repaired-for scan entry from mid last words items bytes id w next sealed index has =
    let others : AreOthersSealed entry words from = subst (λ (ws : List ℕ). AreOthersSealed entry ws from) (sym w) next.links.others in
    let keeps : KeepsMendedLinks entry last = index.holds.keeps in
    let mended : IsMended last = record {
      links = keeps.mended;
      files = index.files (sealed.files next.files);
      only = index.only (sealed.only next.only);
      sealed = index.sealed (sealed.all others);
      counters = index.counters;
    } in
    record {
      mended = mended;
      kept_same = keeps.kept_same;
      found_same = keeps.found_same;
      crash = has.crash;
      id_is = has.id;
      stands_for = λ limits. subst (λ (rows : List Row). StandsFor last (open_state rows limits)) keeps.found_same (mended-folders last limits mended index.holds.writable.bytes);
    }

pub links-mid : (entry image : Image) → HasMendedLinksOf entry image → IsMidRepair entry image
links-mid entry image holds = keeps-mid entry image holds.keeps

module _ (scan : Scan) (words : List ℕ) (w : words ≡ scan.bare.items) where
  -- the checksums are next
  pub seals-next : (entry from : Image) → IsNextFinished scan entry from → IsNextSealed entry words from
  seals-next entry from next = record { holds = next.links.holds; are_kept = subst (All (IsOfKept entry)) (sym w) next.links.scanned.bare.are_kept }

  module _ (a b : Told) (entry from : Image) (there : a.files ≡ Some from) (next : IsNextFinished scan entry from) (first : PassesAny a b (HasMendedLinksOf entry)) where
    pub rest-done : (c : Told) (items bytes id : ℕ) → items ≡ length scan.kept.items % 2 ^ 32 → bytes ≡ scan.bytes → ForSome b.files (AreSealedNow entry from words)
        → ForSome b.files (λ mid. (entry : Image) → IsNextCounted entry items bytes mid → ForSome c.files (IsIndexMended entry mid)) → ForSome c.files (HasIndexWords items bytes id) → ForSome c.files (IsRepairedFor id entry)
    rest-done c items bytes id i bs sealed index has last here =
        let now = still-told from there first in
        let counted : IsNextCounted entry items bytes now.0 = counted-told scan entry now.0 items bytes i bs next.links.scanned (any_end first now.0 now.1) in
        repaired-for scan entry from now.0 last words items bytes id w next (sealed now.0 now.1) (index now.0 now.1 entry counted last here) (has last here)

-- ---- what is after the links

module _ (scan : Scan) (claims : Claims) (c : claims ≡ scan.claims) where
  -- the files are next
  pub files-next : (entry from : Image) → AreLinksMended scan entry from → IsNextRebuilt entry claims from
  files-next entry from links = record { holds = links.holds; claimed = subst (λ (cs : Claims). IsClaimsOf cs (flat_map words_of (kept entry))) (sym c) links.scanned.claims }

  -- the files are recovered, and the rest is next
  pub finished-next : (entry from image : Image) → AreLinksMended scan entry from → AreOnlyKeptLeft entry from image → IsNextFinished scan entry image
  finished-next entry from image links left = record {
    links = record { scanned = links.scanned; holds = left.holds; others = left.others scan.bare.items links.others };
    files = left.files;
    only = left.only;
  }

-- ---- where nothing is to be repaired

nil-parts : (xs ys : List TrailStep) → xs ++ ys ≡ [] → (xs ≡ []) × (ys ≡ [])
nil-parts [] ys e = (refl, e)
nil-parts (x ∷ xs) ys e = absurd (no_steps e)
  where
    no_steps : x ∷ (xs ++ ys) ≡ [] → ⊥
    no_steps is = cc

-- repaired links need no step, neither of the list nor of the chains
links-none : (image : Image) → HasMendedLinks image → (list_repair_steps image ≡ []) × (chain_repair_steps image ≡ [])
links-none image mended =
    let parts = nil-parts (list_repair_steps image) (chain_repair_steps (after (list_repair_steps image) image)) (mended-none image mended) in
    (parts.0, subst (λ (s : List TrailStep). chain_repair_steps (after s image) ≡ []) parts.0 parts.1)

pub chains-clean : (a b : Told) (from : Image) → HasMendedLinks from → Applies a b (chain_repair_steps from) → b ≡ a
chains-clean a b from mended made = told_same a b (subst (Applies a b) (links-none from mended).1 made)

pub list-clean : (a b : Told) (nodes others : List ℕ) (from : Image) → IsListScanned nodes others from → HasMendedLinks from → Applies a b (mending_steps nodes others from) → b ≡ a
list-clean a b nodes others from scanned mended made = told_same a b (subst (Applies a b) (sym (steps-are from nodes others scanned) ∙ (links-none from mended).0) made)

-- a call without a step leaves the files
pub here-still : {a b : Told} (from : Image) → a.files ≡ Some from → b ≡ a → b.files ≡ Some from
here-still from there same = ap (λ (t : Told). t.files) same ∙ there

-- what is kept has these used blocks at each word
pub claims-kept : (entry from : Image) (claims : Claims) → IsNextRebuilt entry claims from → IsClaimsOf claims (flat_map words_of (kept from))
claims-kept entry from claims next = subst (λ (ks : List Loaded). IsClaimsOf claims (flat_map words_of ks)) (sym next.holds.keeps.kept_same) next.claimed

pub files-right : (entry from : Image) (claims : Claims) (files : BlockFiles) → IsNextRebuilt entry claims from → IsOpen files from → HasMendedFiles from → AreRight claims files from
files-right entry from claims files next is mended = right-files claims files from (λ n. linked-among files from n is.agrees) is.agrees mended (claims-kept entry from claims next)

-- no checksums are written, and then the words of the index
pub rest-clean : (scan : Scan) (entry from : Image) (a b c : Told) (words : List ℕ) (items bytes id : ℕ) → words ≡ scan.bare.items → items ≡ length scan.kept.items % 2 ^ 32 → bytes ≡ scan.bytes → a.files ≡ Some from → IsNextFinished scan entry from
    → scan.bare.items ≡ [] → Applies a b (seals_steps words from) → ForSome b.files (λ mid. Applies b c (index_steps items bytes id mid)) → Applies a c (counting_steps entry id from)
rest-clean scan entry from a b c words items bytes id w i bs there next bare first second =
    let same : b ≡ a = told_same a b (subst (λ (ws : List ℕ). Applies a b (seals_steps ws from)) (w ∙ bare) first) in
    let counted : IsNextCounted entry items bytes from = counted-told scan entry from items bytes i bs next.links.scanned next.links.holds in
    let made : Applies a c (index_steps items bytes id from) = subst (λ (t : Told). Applies t c (index_steps items bytes id from)) same (second from (here-still from there same)) in
    subst (λ (n : ℕ). Applies a c (index_steps (length (kept entry)) n id from)) counted.bytes_are (subst (λ (n : ℕ). Applies a c (index_steps n bytes id from)) counted.items_are made)
