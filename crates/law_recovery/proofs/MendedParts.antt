-- What leaves repaired files and checksums as they are.
use Rattle.std.proofs.Common.{◌%◌, ◌<◌, ◌⊎◌, arith, ⊎_elim, Some, false, ◌≡◌, ℕ, ◌+◌, ◌≤◌, Bool, true, List, [], ◌∷◌, length, Option, refl, ap, sym, ◌∙◌, subst}
use Rattle.std.specs.Prelude.{nat_le, nat_lt, ◌&&◌, is_some}
use Rattle.std.specs.Option.{unwrap_or}
use Rattle.std.specs.List.{AllByRecursion, flat_map}
use Rattle.std.proofs.Math.Dec.{eqb}
use Rattle.std.proofs.lemmas.List.Sums.{length-filter}
use Rattle.std.proofs.lemmas.Bool.Decides.{eqb_tells}
use Rattle.spec_image.specs.Bytes.{content}
use Rattle.spec_image.specs.Image.{Index, Block, External, Image, byte}
use Rattle.spec_image.specs.Footprint.{one_word, whole}
use Rattle.spec_image.specs.Steps.{Delete, applied}
use Rattle.spec_image.proofs.Footprints.{same_file_outside}
use Rattle.spec_format.specs.Address.{file_selector, place, block_place}
use Rattle.spec_format.proofs.Counts.{same-count}
use Rattle.spec_format.specs.Headers.{allocations_of, counted_places, counting, empty_of, max_entries_of, next_file_of, updating_of}
use Rattle.spec_format.specs.Records.{node_in, entry_in, node_is_sealed, entry_is_sealed}
use Rattle.spec_format.specs.Claims.{Claim, BlockOf, ExternalOf, has_claim}
use Rattle.spec_format.specs.BlockFiles.{linked_as, max_entries_in, next_file_in}
use Rattle.spec_format.specs.Maps.{EmptyAgrees, groups_of, groups_with, is_block_marked_at}
use Rattle.spec_folder.specs.Loads.{Loaded, claims_of_loaded}
use Rattle.spec_folder.specs.Found.{kept}
use Rattle.spec_folder.specs.Sound as sound
use Rattle.spec_folder.specs.Sound.{words_of, CountersAgree}
use Rattle.spec_folder.specs.Tidy.{FilesStand}
use Rattle.law_folder.proofs.claims.ByteChanges.{same-links}
use Rattle.std.specs.List.{sum_by}
use Rattle.std.specs.Prelude.{◌∷◌}
use Rattle.spec_image.specs.Bytes.{word_at}
use Rattle.spec_image.proofs.Footprints.{same_word_outside}
use Rattle.spec_folder.specs.Loads.{held_rule}
use Rattle.spec_folder.specs.View.{store_of}
use Rattle.spec_folder.specs.Found.{charge_of}
use Rattle.spec_format.specs.Claims.{is_in_file}
use Rattle.law_folder.proofs.claims.Allocations.{all-claims, all-stand, kept-loads, same-marks}
use Rattle.law_folder.proofs.updates.Counting.{files-stand}
use Rattle.law_folder.proofs.claims.Files.{unlinked-go}
use Rattle.law_folder.proofs.updates.IndexWords.{beside, not-among}
use Rattle.std.proofs.lemmas.Bool.Decides.{nat_tests}
use Rattle.spec_format.specs.BlockFiles.{is_among}
use Rattle.spec_format.proofs.Finished.{sound-of}
use Rattle.law_recovery.specs.Mended.{HasMendedFiles}
use Rattle.law_recovery.specs.MendedParts.{KeptWordsStand, KeptWordsClaim, IsRebuiltFor, RebuiltFilesAreMended, OtherWordsLeaveCounters, UnlinkedFilesLeaveTheOthers, ExternalFilesLeaveTheBlocks, MendedFilesStand, IndexWordsLeaveSeals}

-- linked files that are the same are repaired alike
pub blocks-alike : (from image : Image) → ((n : ℕ) → linked_as image n ≡ linked_as from n) → ((n : ℕ) → is_some (linked_as from n) ≡ true → image (Block n) ≡ from (Block n)) → kept image ≡ kept from → HasMendedFiles from → HasMendedFiles image
unfolding EmptyAgrees max_entries_in
blocks-alike from image links same keeps files = record {
  maps = λ n b linked small. ap (λ (o : Option (List ℕ)). is_block_marked_at (content (unwrap_or o [])) b) (at n linked) ∙ files.maps n b (was n linked) small ∙ ap (λ (ks : List Loaded). has (claims_of_loaded ks) n b) (sym keeps);
  counted = λ n linked. let c = files.counted n (was n linked) in subst (λ (ks : List Loaded). CountersAgree image (flat_map words_of ks) n) (sym keeps) (record {
    num_entries = ap (λ (o : Option (List ℕ)). allocations_of (content (unwrap_or o []))) (at n linked) ∙ c.num_entries;
    empty = λ i small. ap (λ (o : Option (List ℕ)). empty_of (content (unwrap_or o [])) i) (at n linked) ∙ c.empty i small
        ∙ sym (ap (λ (o : Option (List ℕ)). groups_with (is_block_marked_at (content (unwrap_or o []))) (groups_of (max_entries_of (content (unwrap_or o [])))) (i + 1)) (at n linked));
    updating = ap (λ (o : Option (List ℕ)). updating_of (content (unwrap_or o []))) (at n linked) ∙ c.updating;
  });
  long_enough = λ n kind linked. let l : linked_as from n ≡ Some kind = sym (links n) ∙ linked in
      subst (λ (o : Option (List ℕ)). block_place kind (max_entries_of (content (unwrap_or o []))) ≤ length (unwrap_or o [])) (sym (same n (ap is_some l))) (files.long_enough n kind l);
} where
  has : List Claim → ℕ → ℕ → Bool
  has claims n b = has_claim claims (BlockOf n b)

  was : (n : ℕ) → is_some (linked_as image n) ≡ true → is_some (linked_as from n) ≡ true
  was n linked = ap is_some (sym (links n)) ∙ linked

  at : (n : ℕ) → is_some (linked_as image n) ≡ true → image (Block n) ≡ from (Block n)
  at n linked = same n (was n linked)

clash : true ≡ false → ⊥
clash e = cc

pub unlinked-leave : UnlinkedFilesLeaveTheOthers
unlinked-leave from n free keeps files =
    blocks-alike from (applied (Delete (Block n)) from) (unlinked-go from n free).linked (λ m linked. other m linked) keeps.kept_same files where
      other : (m : ℕ) → is_some (linked_as from m) ≡ true → applied (Delete (Block n)) from (Block m) ≡ from (Block m)
      other m linked =
          ⊎_elim
          (λ (e : (eqb n m ≡ true) × (n ≡ m)). absurd (clash (sym linked ∙ ap is_some (ap (linked_as from) (sym e.1) ∙ free))))
          (λ (e : (eqb n m ≡ false) × _). rw e.0 refl)
          (eqb_tells n m)

pub external-leaves : ExternalFilesLeaveTheBlocks
unfolding next_file_in
external-leaves from image n outside keeps =
    let blocks : (m : ℕ) → image (Block m) ≡ from (Block m) = λ m. same_file_outside (whole (External n)) from image (Block m) outside (λ i. refl) refl in
    let links : (m : ℕ) → linked_as image m ≡ linked_as from m = same-links from image (λ m. ap (λ (o : Option (List ℕ)). next_file_of (content (unwrap_or o []))) (blocks m)) in (
      blocks-alike from image links (λ m linked. blocks m) keeps.kept_same,
      λ only m small. ap is_some (blocks m) ∙ only m small ∙ ap is_some (sym (links m)),
    )

pub files-mended : MendedFilesStand
files-mended footprint from image behind outside mended keeps =
    let f : FilesStand from image = files-stand footprint from image behind outside (sound-of from mended.well_formed) in (
      λ files. record {
        maps = λ n b linked small. f.marks n b small ∙ files.maps n b (ap is_some (sym (f.links n)) ∙ linked) small ∙ ap (λ (ks : List Loaded). has_claim (claims_of_loaded ks) (BlockOf n b)) (sym keeps.kept_same);
        counted = λ n linked. let was = ap is_some (sym (f.links n)) ∙ linked in
            subst (λ (ks : List Loaded). CountersAgree image (flat_map words_of ks) n) (sym keeps.kept_same) (f.counted n (flat_map words_of (kept from)) was (files.counted n was));
        long_enough = f.long_enough files.long_enough;
      },
      λ only. record {
        only_linked = f.only_linked only.only_linked;
        only_claimed = λ n small. f.externals n ∙ only.only_claimed n small ∙ ap (λ (ks : List Loaded). has_claim (claims_of_loaded ks) (ExternalOf n)) (sym keeps.kept_same);
      },
    )

pub words-leave : IndexWordsLeaveSeals
words-leave from image at outside keeps sealed = subst (AllByRecursion (sound.AreSealed image)) (sym keeps.kept_same) (each (kept from) sealed) where
  blocks : (m : ℕ) → image (Block m) ≡ from (Block m)
  blocks m = same_file_outside (one_word Index at) from image (Block m) outside (λ i. refl) refl

  each : (ks : List Loaded) → AllByRecursion (sound.AreSealed from) ks → AllByRecursion (sound.AreSealed image) ks
  each [] all = tt
  each (k ∷ ks) all = (
    record {
      node = ap (λ (o : Option (List ℕ)). node_is_sealed (node_in (content (unwrap_or o [])) (place k.node))) (blocks (file_selector k.node)) ∙ all.0.node;
      entry = ap (λ (o : Option (List ℕ)). entry_is_sealed (entry_in (content (unwrap_or o [])) (place k.contents))) (blocks (file_selector k.contents)) ∙ all.0.entry;
    },
    each ks all.1,
  )

-- ---- files that are rebuilt

pub words-stand : KeptWordsStand
unfolding kept
words-stand image = all-stand image (kept image) (kept-loads (store_of image) held_rule _)

pub words-claim : KeptWordsClaim
words-claim image = all-claims (kept image)

pub rebuilt-mended : RebuiltFilesAreMended
rebuilt-mended image each long = record {
  maps = λ n b linked small. (each n linked).allocations.marks b small ∙ same-marks n b (flat_map words_of (kept image)) ∙ ap (λ (cs : List Claim). has_claim cs (BlockOf n b)) (all-claims (kept image));
  counted = λ n linked. let r : IsRebuiltFor image n = each n linked in record { num_entries = r.allocations.counted ∙ length-filter (is_in_file n) (flat_map words_of (kept image)); empty = r.empty; updating = r.updating };
  long_enough = long;
}

-- ---- counters

pub counters-left : OtherWordsLeaveCounters
counters-left from image at aligned other outside keeps counters =
    let still : (p : ℕ) → p % 4 ≡ 0 → is_among counted_places p ≡ true → word_at (byte image Index) p ≡ word_at (byte from Index) p = λ p even there.
    same_word_outside (one_word Index at) from image Index p outside (λ k low high. apart p k low high (beside p at even aligned (not-among counted_places p at there other))) in
    same-count (byte image Index) (byte from Index) (still 4 refl refl) (still 8 refl refl) (still 12 refl refl) (still 48 refl refl) (still 52 refl refl) (still 268 refl refl)
    ∙ counters ∙ ap (λ (ks : List Loaded). counting (length ks) (sum_by charge_of ks)) (sym keeps.kept_same)
  where
    apart : (p k : ℕ) → p ≤ k → k < p + 4 → (p + 4 ≤ at) ⊎ (at + 4 ≤ p) → (nat_le at k && nat_lt k (at + 4)) ≡ false
    apart p k low high away = grind (arith, nat_tests)
