-- How the steps of the parts of repair follow one another.
use Rattle.std.proofs.Common.{◌≡◌, ℕ, zero, suc, ◌+◌, ◌<◌, ◌≤◌, ◌%◌, ◌^◌, Bool, List, [], ◌++◌, Some, None, refl, ◌∙◌, ap, subst, arith}
use Rattle.std.specs.Prelude.{filter, length, not}
use Rattle.std.specs.Option.{ForSome, option_map}
use Rattle.spec_image.specs.Image.{File, Index, Block, External, Image}
use Rattle.spec_image.specs.Steps.{TrailStep, after}
use Rattle.spec_image.specs.Told.{Told, Applies}
use Rattle.spec_image.proofs.Runs.{grows_then}
use Rattle.spec_format.specs.BlockFiles.{is_among}
use Rattle.spec_format.specs.Headers.{table_length}
use Rattle.spec_folder.specs.Chains.{IsChain}
use Rattle.spec_folder.specs.Found.{kept}
use Rattle.spec_folder.specs.View.{store_of}
use Rattle.blk_addr.specs.declared.claim_set.Claims.{Claims}
use Rattle.blk_disk.specs.declared.tables.BlockFiles.{BlockFiles}
use Rattle.blk_disk.specs.Tables.{all_files, files_of}
use Rattle.blk_index.specs.Making.{deletions}
use Rattle.blk_alloc.specs.Mending.{PassesNeeded}
use Rattle.blk_alloc.specs.Rebuilding.{IsRebuilding}
use Rattle.law_recovery.specs.ChainRepair.{chain_repair_steps, chain_steps, chains_steps, kept_records}
use Rattle.law_recovery.proofs.ChainRepair.{none-to_link}
use Rattle.blk_scan.specs.declared.scan.Scan.{Scan}
use Rattle.blk_repair.specs.Counters.{IsNextCounted, index_steps}
use Rattle.blk_repair.specs.Deletions.{Deletes, DeletesAll, DeletesOthers, is_unclaimed, is_unlinked, last_block_file, last_first_file}
use Rattle.blk_repair.specs.Maps.{Rebuilds}
use Rattle.blk_repair.specs.Parts.{AppliesOf, Exactly, InTurn}
use Rattle.blk_repair.specs.Repair.{AreBucketsScanned, IsNextFinished, MendsRest, counting_steps}
use Rattle.blk_repair.specs.Seals.{seals_steps}
use Rattle.blk_repair.proofs.RepairRuns.{counted-told, same-files}

-- steps of one kind were made, and then steps of another on what they left
pub in-turn : {a b : Told} (c : Told) (first second : Image → List TrailStep → Type 0) (from : Image) → a.files ≡ Some from → AppliesOf first from a b → ForSome b.files (λ mid. AppliesOf second mid b c) → AppliesOf (InTurn first second) from a c
in-turn {a} {b} c first second from there one other =
    let now : b.files ≡ Some (after one.steps from) = one.applies.files ∙ ap (option_map (after one.steps)) there in
    let next : AppliesOf second (after one.steps from) b c = other (after one.steps from) now in
    record {
      steps = one.steps ++ next.steps;
      applies = grows_then one.applies next.applies;
      are = record { front = one.steps; behind = next.steps; joined = refl; front_is = one.are; behind_is = next.are };
    }

pub exactly-made : {a b : Told} (asked : Image → List TrailStep) (from : Image) → Applies a b (asked from) → AppliesOf (Exactly asked) from a b
exactly-made asked from made = record { steps = asked from; applies = made; are = refl }

-- ---- the chains

none-left : (image : Image) (bucket count : ℕ) → bucket + count ≤ table_length → ((b : ℕ) → b < table_length → IsChain (store_of image) b (kept_records image b)) → chains_steps (kept_records image) bucket count image ≡ []
none-left image bucket zero inside whole = refl
none-left image bucket (suc count) inside whole =
    let none : chain_steps bucket (kept_records image bucket) image ≡ [] = none-to_link image bucket (kept_records image bucket) (whole bucket (omega (arith, inside))) in
    ap (λ (l : List TrailStep). l ++ chains_steps (kept_records image) (bucket + 1) count (after l image)) none ∙ none-left image (bucket + 1) count (omega (arith, inside)) whole

-- where each bucket is the chain of its kept records, no step is asked for
pub none-asked : (image : Image) → AreBucketsScanned None image → chain_repair_steps image ≡ []
unfolding chain_repair_steps
none-asked image is = none-left image 0 table_length (omega arith) is.told

-- ---- the files

pub deletes-made : {a b : Told} (goes : File → Bool) (first : File) (from : Image) → a.files ≡ Some from → DeletesAll goes first a b → AppliesOf (Deletes goes first) from a b
deletes-made goes first from there all = record {
  steps = deletions (filter goes all.up_to.files);
  applies = all.up_to.applies;
  are = record { files = all.up_to.files; last = all.last; listed = all.up_to.listed from there; rest = all.rest from there; are = refl };
}

pub rebuilds-made : {a b : Told} (files : BlockFiles) (claims : Claims) → ForSome a.files (λ from. PassesNeeded a b (IsRebuilding claims (all_files files) from)) → ForSome a.files (λ from. AppliesOf (Rebuilds files claims) from a b)
rebuilds-made files claims passes from there =
    let p = passes from there in
    record { steps = p.steps; applies = p.applies; are = record { quiet = p.quiet; along = p.along from there; needed = p.needed from there } }

-- the same files are linked
unlinked-same : (old new : BlockFiles) → ((kind : ℕ) → files_of new kind ≡ files_of old kind) → is_unlinked new ≡ is_unlinked old
unlinked-same old new same = λ k file. each file k
  where
    each : (file : File) → is_unlinked new file ≡ is_unlinked old file
    each Index = refl
    each (Block n) = ap (λ (l : List ℕ). not (is_among l n)) (same-files old new same)
    each (External number) = refl

pub others-same : {a b : Told} (old new : BlockFiles) (claims : Claims) → ((kind : ℕ) → files_of new kind ≡ files_of old kind) → ForSome a.files (λ from. AppliesOf (DeletesOthers new claims) from a b) → ForSome a.files (λ from. AppliesOf (DeletesOthers old claims) from a b)
others-same {a} {b} old new claims same others =
    subst (λ (goes : File → Bool). ForSome a.files (λ from. AppliesOf (InTurn (Deletes goes last_first_file) (Deletes (is_unclaimed claims) last_block_file)) from a b)) (unlinked-same old new same) others

-- ---- the rest

-- the checksums are written, and then the words of the index, by what the scan reported
pub rest-made : (scan : Scan) (entry from : Image) {a b : Told} (c : Told) (words : List ℕ) (items bytes id : ℕ) → words ≡ scan.bare.items → items ≡ length scan.kept.items % 2 ^ 32 → bytes ≡ scan.bytes → a.files ≡ Some from → IsNextFinished scan entry from
    → Applies a b (seals_steps words from) → ForSome b.files (λ mid. Applies b c (index_steps items bytes id mid)) → AppliesOf (MendsRest scan entry id) from a c
rest-made scan entry from {a} {b} c words items bytes id w i bs there next first second =
    let counted : IsNextCounted entry items bytes from = counted-told scan entry from items bytes i bs next.links.scanned next.links.holds in
    let seals : Applies a b (seals_steps scan.bare.items from) = subst (λ (ws : List ℕ). Applies a b (seals_steps ws from)) w first in
    in-turn c (Exactly (seals_steps scan.bare.items)) (Exactly (counting_steps entry id)) from there (exactly-made (seals_steps scan.bare.items) from seals)
    (λ mid here.
    exactly-made (counting_steps entry id) mid
    (subst (λ (n : ℕ). Applies b c (index_steps (length (kept entry)) n id mid)) counted.bytes_are (subst (λ (n : ℕ). Applies b c (index_steps n bytes id mid)) counted.items_are (second mid here))))
