-- What is held while lengths, maps and counters are made those of what is kept, and in the end.
use Rattle.std.proofs.Common.{◌≡◌, ℕ, ◌+◌, ◌*◌, ◌≤◌, Bool, true, false, List, [], length, max, Option, Some, None, is_some, refl, sym, ◌∙◌, ap, subst, arith}
use Rattle.std.specs.Prelude.{All, ◌||◌, if◌then◌else◌}
use Rattle.std.specs.List.{filter, flat_map}
use Rattle.std.specs.Option.{ForSome, unwrap_or}
use Rattle.std.proofs.lemmas.List.Elements.{All-filter, All-from_recursion}
use Rattle.spec_image.specs.Image.{Image, Index, Block, AreBytes, length_of}
use Rattle.spec_image.specs.Told.{Told, Passes}
use Rattle.spec_image.proofs.Footprints.{same_file_outside}
use Rattle.spec_image.proofs.Runs.{passes_end, passes_weaker}
use Rattle.spec_format.specs.Address.{block_place, block_size}
use Rattle.spec_format.specs.BlockFiles.{is_among, kind_among, linked_as, max_entries_in, stands_in}
use Rattle.spec_format.specs.Claims.{Claim, BlockOf, has_claim, is_in_file}
use Rattle.spec_format.specs.Headers.{HasWholeIndex}
use Rattle.spec_format.specs.Maps.{AreAllocations}
use Rattle.spec_format.proofs.LinkedHeads.{linked_head}
use Rattle.spec_folder.specs.Found.{kept}
use Rattle.spec_folder.specs.Loads.{Loaded}
use Rattle.spec_folder.specs.Sound.{AreLongEnough, words_of}
use Rattle.blk_addr.specs.Claims.{IsClaimsOf}
use Rattle.blk_addr.specs.declared.claim_set.Claims.{Claims}
use Rattle.blk_disk.specs.declared.tables.BlockFiles.{BlockFiles}
use Rattle.blk_disk.specs.Growth.{size_as, whole_length}
use Rattle.blk_disk.specs.Tables.{Agrees, all_files, blocks_of, files_of, length_in}
use Rattle.blk_disk.proofs.Joined.{among_kinds}
use Rattle.blk_alloc.specs.Mending.{PassesNeeded}
use Rattle.blk_alloc.specs.Rebuilding.{AreFitted, AreItsAllocations, AreRight, IsRebuilding, IsRebuilt, is_block_file, rebuilding_of, words_of_file}
use Rattle.law_recovery.specs.Mended.{HasMendedFiles}
use Rattle.law_recovery.specs.MendedChanges.{KeepsMendedLinks}
use Rattle.law_recovery.specs.MendedParts.{IsRebuiltFor}
use Rattle.law_recovery.proofs.MendedChanges.{links-grow, links-on}
use Rattle.law_recovery.proofs.MendedParts.{rebuilt-mended, words-claim, words-stand}
use Rattle.law_recovery.proofs.RecordSeals.{growth-leaves}
use Rattle.blk_repair.specs.Maps.{AreFilesMended, IsNextRebuilt}

-- at each word the links stay repaired
pub moment-keeps : (entry from : Image) (claims : Claims) (numbers : List ℕ) (image : Image) → KeepsMendedLinks entry from → IsRebuilding claims numbers from image → KeepsMendedLinks entry image
moment-keeps entry from claims numbers image keeps moment = links-on entry from image keeps (links-grow from image keeps.mended moment.stays)

forget : (a b : Told) (P : Image → Type 0) → PassesNeeded a b P → Passes a b P
forget a b P p = record { steps = p.steps; applies = p.applies; quiet = p.quiet; along = p.along }

pub rebuilding-passes : (a b : Told) (claims : Claims) (numbers : List ℕ) → ForSome a.files (λ from. PassesNeeded a b (IsRebuilding claims numbers from)) → ForSome a.files (λ from. (entry : Image) → KeepsMendedLinks entry from → Passes a b (KeepsMendedLinks entry))
rebuilding-passes a b claims numbers all from there entry keeps =
    passes_weaker (forget a b (IsRebuilding claims numbers from) (all from there)) (λ i moment. moment-keeps entry from claims numbers i keeps moment) (λ i moment. moment-keeps entry from claims numbers i keeps moment)

-- after the last step
pub rebuilding-ends : (a b : Told) (claims : Claims) (numbers : List ℕ) → ForSome a.files (λ from. PassesNeeded a b (IsRebuilding claims numbers from)) → ForSome a.files (λ from. ForSome b.files (IsRebuilding claims numbers from))
rebuilding-ends a b claims numbers all from there = passes_end (forget a b (IsRebuilding claims numbers from) (all from there))

-- the index stays as it was
pub index-same : (claims : Claims) (numbers : List ℕ) (from image : Image) → IsRebuilding claims numbers from image → image Index ≡ from Index
unfolding is_block_file
index-same claims numbers from image moment = same_file_outside (rebuilding_of numbers) from image Index moment.same (λ i. refl) refl

pub index-whole : (claims : Claims) (numbers : List ℕ) (from image : Image) → IsRebuilding claims numbers from image → HasWholeIndex from → HasWholeIndex image
index-whole claims numbers from image moment whole = ap (λ (o : Option (List ℕ)). length (unwrap_or o [])) (index-same claims numbers from image moment) ∙ whole

-- ---- the linked files

four : (a b c d : Bool) (k : ℕ) → (if a then Some 1 else if b then Some 2 else if c then Some 3 else if d then Some 4 else None) ≡ Some k → (a || b || c || d) ≡ true
four true b c d k e = refl
four false true c d k e = refl
four false false true d k e = refl
four false false false true k e = refl
four false false false false k e = cc

pub same-kind : (files : BlockFiles) (image : Image) (n : ℕ) → Agrees files image → kind_among (files_of files) n ≡ linked_as image n
unfolding kind_among
same-kind files image n agrees = rw (agrees.links 1 refl, agrees.links 2 refl, agrees.links 3 refl, agrees.links 4 refl) refl

among-of : (files : BlockFiles) (n kind : ℕ) → kind_among (files_of files) n ≡ Some kind → is_among (all_files files) n ≡ true
unfolding kind_among
among-of files n kind e = among_kinds files n ∙ four (is_among (files_of files 1) n) (is_among (files_of files 2) n) (is_among (files_of files 3) n) (is_among (files_of files 4) n) kind e

pub some-kind : (o : Option ℕ) → is_some o ≡ true → (kind : ℕ) × (o ≡ Some kind)
some-kind (Some kind) e = (kind, refl)
some-kind None e = cc

-- what was fitted has the same files
kinds-fitted : (old new : BlockFiles) (n : ℕ) → AreFitted old new → kind_among (files_of new) n ≡ kind_among (files_of old) n
kinds-fitted old new n fitted = λ k. kind_among (λ kind. fitted.files kind k) n

le-max : (v w a b : ℕ) → v ≡ b → w ≡ max a b → v ≤ w
le-max v w a b e f = grind arith

module _ (entry from image : Image) (claims : Claims) (old new : BlockFiles) (next : IsNextRebuilt entry claims from) (moment : IsRebuilding claims (all_files old) from image)
    (rebuilt : (n : ℕ) → is_among (all_files old) n ≡ true → IsRebuilt claims image n) (allocations : AreItsAllocations claims (all_files old) from image) (fitted : AreFitted old new) (agrees : Agrees new image) (bytes : AreBytes image) (whole : HasWholeIndex image) where
  links : KeepsMendedLinks entry image
  links = moment-keeps entry from claims (all_files old) image next.holds.keeps moment

  old-kind : (n kind : ℕ) → linked_as image n ≡ Some kind → kind_among (files_of old) n ≡ Some kind
  old-kind n kind e = sym (kinds-fitted old new n fitted) ∙ same-kind new image n agrees ∙ e

  among-old : (n kind : ℕ) → linked_as image n ≡ Some kind → is_among (all_files old) n ≡ true
  among-old n kind e = among-of old n kind (old-kind n kind e)

  among-new : (n kind : ℕ) → linked_as image n ≡ Some kind → is_among (all_files new) n ≡ true
  among-new n kind e = among-of new n kind (same-kind new image n agrees ∙ e)

  stand : (n : ℕ) → All (λ w. stands_in from w ≡ true) (words_of_file n (flat_map words_of (kept entry)))
  stand n =
      subst (λ (ks : List Loaded). All (λ w. stands_in from w ≡ true) (words_of_file n (flat_map words_of ks))) next.holds.keeps.kept_same
      (All-filter (is_in_file n) (λ w. stands_in from w ≡ true) (flat_map words_of (kept from)) (All-from_recursion (λ w. stands_in from w ≡ true) (flat_map words_of (kept from)) (words-stand from)))

  each : (n : ℕ) → is_some (linked_as image n) ≡ true → IsRebuiltFor image n
  each n some =
      let kind = some-kind (linked_as image n) some in
      let among : is_among (all_files old) n ≡ true = among-old n kind.0 kind.1 in
      let is = rebuilt n among in
      record {
        allocations = subst (λ (ks : List Loaded). AreAllocations image n (filter (is_in_file n) (flat_map words_of ks))) (sym links.kept_same) (allocations (flat_map words_of (kept entry)) next.claimed n among (stand n));
        empty = is.right.empty;
        updating = is.updating;
      }

  long : AreLongEnough image
  unfolding block_place whole_length
  long n kind e =
      let among : is_among (all_files old) n ≡ true = among-old n kind e in
      let among_now : is_among (all_files new) n ≡ true = among-new n kind e in
      let small = (linked_head image n agrees.undamaged (ap is_some e)).number in
      let blocks : max_entries_in image n ≡ blocks_of old n = sym (agrees.blocks n among_now) ∙ fitted.blocks n in
      let wanted : 8192 + max_entries_in image n * block_size kind ≡ 8192 + blocks_of old n * size_as (kind_among (files_of old) n) =
      ap (λ (b : ℕ). 8192 + b * block_size kind) blocks ∙ sym (ap (λ (o : Option ℕ). 8192 + blocks_of old n * size_as o) (old-kind n kind e)) in
      le-max (8192 + max_entries_in image n * block_size kind) (length_of image (Block n)) (length_in old n) (8192 + blocks_of old n * size_as (kind_among (files_of old) n)) wanted (sym (agrees.lengths n among_now) ∙ fitted.lengths n small among)

  pub files-mended-now : AreFilesMended entry from image
  files-mended-now = record {
    holds = record { writable = record { bytes = bytes; has_header = omega (arith, whole) }; keeps = links };
    files = rebuilt-mended image each long;
    seals = growth-leaves from image moment.stays.grown;
  }

-- ---- files that are repaired already

-- where the files are repaired they are right for the used blocks of what is kept
pub right-files : (claims : Claims) (files : BlockFiles) (image : Image) → ((n : ℕ) → is_some (linked_as image n) ≡ is_among (all_files files) n) → Agrees files image → HasMendedFiles image → IsClaimsOf claims (flat_map words_of (kept image)) → AreRight claims files image
unfolding whole_length block_place
right-files claims files image linked agrees mended claimed n among =
    let there : is_some (linked_as image n) ≡ true = linked n ∙ among in
    let kind = some-kind (linked_as image n) there in
    let counted = mended.counted n there in
    let long : 8192 + max_entries_in image n * block_size kind.0 ≤ length_of image (Block n) = mended.long_enough n kind.0 kind.1 in
    let whole : 8192 + blocks_of files n * size_as (kind_among (files_of files) n) ≡ 8192 + max_entries_in image n * block_size kind.0 =
    ap (λ (b : ℕ). 8192 + b * size_as (kind_among (files_of files) n)) (agrees.blocks n among) ∙ ap (λ (o : Option ℕ). 8192 + max_entries_in image n * size_as o) (same-kind files image n agrees ∙ kind.1) in
    let room : 8192 + max_entries_in image n * block_size kind.0 ≤ length_in files n = subst (λ (y : ℕ). 8192 + max_entries_in image n * block_size kind.0 ≤ y) (sym (agrees.lengths n among)) long in (
      subst (λ (x : ℕ). x ≤ length_in files n) (sym whole) room,
      record {
        right = record {
          marks = λ b small. mended.maps n b there small ∙ sym (claimed.claims (BlockOf n b) ∙ ap (λ (cs : List Claim). has_claim cs (BlockOf n b)) (words-claim image));
          allocations = counted.num_entries ∙ sym (claimed.allocations n);
          empty = counted.empty;
        };
        updating = counted.updating;
      },
    )
