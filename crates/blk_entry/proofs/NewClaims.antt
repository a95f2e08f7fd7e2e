-- The places of a new entry are covered by its used blocks.
use Rattle.std.proofs.Common.{◌≡◌, ◌≢◌, inl, ⊎_elim, ℕ, ◌+◌, ◌/◌, ◌≤◌, Bool, true, false, List, [], ◌∷◌, ◌++◌, length, Option, None, Some, unwrap_or, sym, ◌∙◌, arith}
use Rattle.std.specs.Prelude.{◌==◌}
use Rattle.std.proofs.lemmas.Bool.{and_parts, cases_Bool, or_left, or_right, eqb-true}
use Rattle.std.proofs.lemmas.Bool.Decides.{nat_tests}
use Rattle.spec_image.specs.Image.{Block, External, File, Image, same_file}
use Rattle.spec_image.specs.Footprint.{Footprint, IsWithin, nothing, range, whole}
use Rattle.spec_image.proofs.Footprints.{range_within}
use Rattle.spec_format.specs.Address.{is_address, is_initialized, kind_of, external, external_number, file_selector, place, byte_size}
use Rattle.spec_format.specs.Claims.{Claim, ExternalOf, claims_of, claims_of_all, has_claim, same_claim}
use Rattle.spec_folder.specs.Footprint.{Covers}
use Rattle.spec_folder.specs.Loads.{all_claims, record_claims}
use Rattle.law_folder.proofs.claims.ClaimLists.{claim-append, contents-claims}
use Rattle.law_folder.proofs.claims.ByteChanges.{views-same}
use Rattle.law_folder.proofs.claims.Covers.{blocks-covered, externals-covered, covers-less, covers-more, covers-either}
use Rattle.blk_disk.specs.declared.tables.BlockFiles.{BlockFiles}
use Rattle.blk_disk.specs.Tables.{Agrees, stands_among}
use Rattle.spec_format.specs.Sealed.{record_range}
use Rattle.spec_format.proofs.SealedRecords.{record_inside}
use Rattle.blk_entry.specs.declared.writing.NewEntry.{NewEntry}
use Rattle.blk_entry.specs.Covering.{NewPlacesAreCovered, NewPlacesAreShownApart}
use Rattle.blk_entry.specs.Keys.{IsInside}
use Rattle.blk_entry.specs.Writing.{AreWords, FitsKey, IsLongPlace, address_of_key, before_key, loaded_new, long_range, places_of}
use Rattle.blk_entry.proofs.NewPlaces.{file_of_blocks, file_of_external, key_is_inside, start_of_blocks, start_of_external}
use Rattle.blk_entry.proofs.NewShown.{stands_here}
use Rattle.blk_entry.proofs.NewImages.{long_storage}
use Rattle.blk_entry.proofs.Windows.{not_external}

-- used blocks among those of an entry
node-claims : (new : NewEntry) (key : List ℕ) (claim : Claim) → has_claim (claims_of new.node) claim ≡ true → has_claim (all_claims (loaded_new new key)) claim ≡ true
unfolding all_claims
node-claims new key claim e = claim-append (claims_of new.node) (record_claims (loaded_new new key)) claim ∙ or_left (has_claim (claims_of new.node) claim) (has_claim (record_claims (loaded_new new key)) claim) e

long-claims : (new : NewEntry) (key : List ℕ) (claim : Claim) → has_claim (claims_of (unwrap_or new.long_key 0)) claim ≡ true → has_claim (all_claims (loaded_new new key)) claim ≡ true
unfolding all_claims record_claims
long-claims new key claim e =
    let l : ℕ = unwrap_or new.long_key 0 in
    let rest : List Claim = claims_of_all (0 ∷ 0 ∷ 0 ∷ 0 ∷ []) in
    claim-append (claims_of new.node) (claims_of new.entry ++ (claims_of l ++ rest)) claim
    ∙ or_right (has_claim (claims_of new.node) claim) (has_claim (claims_of new.entry ++ (claims_of l ++ rest)) claim)
    (claim-append (claims_of new.entry) (claims_of l ++ rest) claim
    ∙ or_right (has_claim (claims_of new.entry) claim) (has_claim (claims_of l ++ rest) claim)
    (claim-append (claims_of l) rest claim ∙ or_left (has_claim (claims_of l) claim) (has_claim rest claim) e))

-- what an external file uses
external-claim : (w : ℕ) (claim : Claim) → is_address w ≡ true → kind_of w ≡ external → same_claim claim (ExternalOf (external_number w)) ≡ true → has_claim (claims_of w) claim ≡ true
unfolding claims_of has_claim is_address is_initialized
external-claim w claim address is e =
    let q : w / 2147483648 ≡ 1 = eqb-true _ _ (and_parts _ _ address).0 in
    let some : (w == 0) ≡ false = (let less : w ≢ 0 = (λ z. omega (arith, q, z)) in grind (arith, nat_tests)) in
    rw (some, is) (or_left (same_claim claim (ExternalOf (external_number w))) false e)

nothing-within : (F : Footprint) → IsWithin nothing F
nothing-within F = record { bytes = λ file i e. absurd (clash e); sizes = λ file e. absurd (clash e) }
  where
    clash : false ≡ true → ⊥
    clash c = cc

range-whole : (file : File) (p n : ℕ) → IsWithin (range file p n) (whole file)
range-whole file p n = record { bytes = λ other i e. (and_parts (same_file file other) _ e).0; sizes = λ other e. absurd (clash e) }
  where
    clash : false ≡ true → ⊥
    clash c = cc

module _ (files : BlockFiles) (new : NewEntry) (key : List ℕ) (image : Image) (fits : FitsKey files new key) (are : AreWords new) (agrees : Agrees files image) where
  touched : Claim → Bool
  touched = has_claim (all_claims (loaded_new new key))

  -- a range among the blocks of an address of which the used blocks are the entry's
  in-blocks : (w p n : ℕ) → is_address w ≡ true → kind_of w ≢ external → stands_among files w ≡ true → place w ≤ p → p + n ≤ place w + byte_size w → ((claim : Claim) → has_claim (claims_of w) claim ≡ true → touched claim ≡ true)
      → Covers image (range (Block (file_selector w)) p n) touched
  in-blocks w p n address block_kind st low high more =
      let whole_blocks : Covers image (range (Block (file_selector w)) (place w) (byte_size w)) (has_claim (claims_of w)) = blocks-covered image w (stands_here files image w agrees address block_kind st) block_kind in
      covers-more image (range (Block (file_selector w)) p n) (has_claim (claims_of w)) touched more
      (covers-less image (range (Block (file_selector w)) p n) (range (Block (file_selector w)) (place w) (byte_size w)) (has_claim (claims_of w)) (range_within (Block (file_selector w)) p n (place w) (byte_size w) low high) whole_blocks)

  record-covered : Covers image (range (Block (file_selector new.entry)) (place new.entry) (byte_size new.entry)) touched
  unfolding touched
  record-covered = in-blocks new.entry (place new.entry) (byte_size new.entry) are.entry (not_external new.entry fits.entry_kind) fits.entry_stands (omega arith) (omega arith) (contents-claims (loaded_new new key))

  node-covered : Covers image (record_range new.node) touched
  unfolding touched
  node-covered =
      let within = record_inside new.node (inl fits.node_kind) in
      in-blocks new.node (place new.node) _ are.node (λ e. let z : ◌≡◌ {A = ℕ} 1 0 = sym fits.node_kind ∙ e in cc) fits.node_stands (omega arith) (omega (arith, within)) (node-claims new key)

  long-covered : Covers image (long_range new.long_key (length key)) touched
  unfolding touched
  long-covered = by_place new.long_key fits.long (key_is_inside files new key fits) (long-claims new key)
    where
      by_place : (o : Option ℕ) → IsLongPlace files (length key) o → IsInside files (address_of_key new.entry o) (before_key o) (length key + 1) → ((claim : Claim) → has_claim (claims_of (unwrap_or o 0)) claim ≡ true → touched claim ≡ true)
          → Covers image (long_range o (length key)) touched
      by_place None is inside more = covers-less image nothing (range (Block (file_selector new.entry)) (place new.entry) (byte_size new.entry)) touched (nothing-within _) record-covered
      by_place (Some w) is inside more =
          ⊎_elim
          (λ (e : (kind_of w == external) ≡ true).
          let x : kind_of w ≡ external = eqb-true (kind_of w) external e in
          let n : ℕ = external_number w in
          let file : Covers image (whole (External n)) (λ claim. same_claim claim (ExternalOf n)) = externals-covered image n in
          let part : Covers image (range (External n) 0 (length key + 1)) touched =
          covers-more image (range (External n) 0 (length key + 1)) (λ claim. same_claim claim (ExternalOf n)) touched (λ claim same. more claim (external-claim w claim address x same))
          (covers-less image (range (External n) 0 (length key + 1)) (whole (External n)) (λ claim. same_claim claim (ExternalOf n)) (range-whole (External n) 0 (length key + 1)) file) in
          rw (file_of_external w x, start_of_external w x) part)
          (λ (e : (kind_of w == external) ≡ false).
          let block_kind : kind_of w ≢ external = (λ same. let z : (kind_of w == external) ≡ true = grind (arith, nat_tests) in let y : true ≡ false = sym z ∙ e in cc) in
          let room_there = inside.room block_kind in
          rw (file_of_blocks w block_kind, start_of_blocks w block_kind) (in-blocks w (place w) (length key + 1) address block_kind (inside.stands block_kind) (omega arith) (omega (arith, room_there)) more))
          (cases_Bool (kind_of w == external))
        where
          address : is_address w ≡ true
          address = (long_storage files new key 0 fits w is.1).0

  all-covered : Covers image (places_of new (length key)) touched
  unfolding places_of
  all-covered = covers-either image _ _ touched record-covered (covers-either image (record_range new.node) (long_range new.long_key (length key)) touched node-covered long-covered)

  pub covered : Covers image (places_of new (length key)) (has_claim (all_claims (loaded_new new key)))
  unfolding touched
  covered = all-covered

pub new-places-covered : NewPlacesAreCovered
new-places-covered files new key image fits are agrees = covered files new key image fits are agrees

pub new-places-apart : NewPlacesAreShownApart
new-places-apart files new key from image fits are agrees same =
    views-same (places_of new (length key)) from image (has_claim (all_claims (loaded_new new key))) same (covered files new key from fits are agrees)
