-- Dropping the streams of a record is shown only in its used blocks.
use Rattle.std.proofs.Common.{◌≡◌, ◌≢◌, inl, inr, ⊎_elim, ℕ, zero, suc, ◌+◌, ◌<◌, ◌≤◌, Bool, true, false, List, [], ◌∷◌, refl, sym, ◌∙◌, ap, subst, arith}
use Rattle.std.specs.Prelude.{◌==◌}
use Rattle.std.proofs.lemmas.Bool.{cases_Bool, cases_eq, or_left, or_right, eqb-true}
use Rattle.std.proofs.lemmas.Bool.Decides.{nat_tests}
use Rattle.spec_image.specs.Image.{Block, External, Image}
use Rattle.spec_image.specs.Footprint.{Footprint, either, nothing, one_word, range, whole}
use Rattle.spec_image.proofs.Footprints.{range_within}
use Rattle.spec_format.specs.Address.{is_address, kind_of, external, external_number, file_selector, place, byte_size, blocks_256}
use Rattle.spec_format.specs.Claims.{Claim, ExternalOf, claims_of, claims_of_all, has_claim, same_claim}
use Rattle.spec_folder.specs.Footprint.{Covers}
use Rattle.law_folder.proofs.claims.ClaimLists.{claim-append}
use Rattle.law_folder.proofs.claims.ByteChanges.{views-same}
use Rattle.law_folder.proofs.claims.Covers.{blocks-covered, covers-either, covers-less, covers-more, externals-covered, headers-covered}
use Rattle.blk_disk.specs.declared.tables.BlockFiles.{BlockFiles}
use Rattle.blk_disk.specs.Tables.{Agrees, stands_among}
use Rattle.blk_alloc.specs.Changes.{map_of}
use Rattle.blk_entry.proofs.NewShown.{stands_here}
use Rattle.blk_entry.proofs.Windows.{entry_room_least, not_external}
use Rattle.blk_stream.specs.Streams.{address_place, address_word, size_place}
use Rattle.blk_stream.specs.Changing.{record_word, stream_words}
use Rattle.blk_stream.specs.Freeing.{leaving_of}
use Rattle.blk_stream.specs.Dropping.{dropping_of}
use Rattle.blk_stream.specs.Shown.{DropsAreShownInside, is_of_entry}
use Rattle.blk_stream.proofs.PlacesFreed.{freeing_blocks, freeing_external, leaving_none, leaving_some}

pub claims-first : (u : ℕ) (words : List ℕ) (claim : Claim) → has_claim (claims_of u) claim ≡ true → has_claim (claims_of_all (u ∷ words)) claim ≡ true
claims-first u words claim e = claim-append (claims_of u) (claims_of_all words) claim ∙ or_left (has_claim (claims_of u) claim) (has_claim (claims_of_all words) claim) e

pub claims-behind : (u : ℕ) (words : List ℕ) (claim : Claim) → has_claim (claims_of_all words) claim ≡ true → has_claim (claims_of_all (u ∷ words)) claim ≡ true
claims-behind u words claim e = claim-append (claims_of u) (claims_of_all words) claim ∙ or_right (has_claim (claims_of u) claim) (has_claim (claims_of_all words) claim) e

-- what an external file uses
pub external-claim : (w : ℕ) (claim : Claim) → w ≢ 0 → kind_of w ≡ external → same_claim claim (ExternalOf (external_number w)) ≡ true → has_claim (claims_of w) claim ≡ true
unfolding claims_of has_claim
external-claim w claim other is e =
    let some : (w == 0) ≡ false = grind (arith, nat_tests) in
    rw (some, is) (or_left (same_claim claim (ExternalOf (external_number w))) false e)

nothing-covered : (image : Image) (touched : Claim → Bool) → Covers image nothing touched
nothing-covered image touched = record {
  index = λ i shown. refl;
  extents = λ n i e. refl;
  lengths = λ n. refl;
  blocks = λ n kind b i linked low high e. absurd (clash e);
  external_bytes = λ n i e. absurd (clash e);
  external_sizes = λ n e. absurd (clash e);
}
  where
    clash : false ≡ true → ⊥
    clash e = cc

-- a map and its counters are never shown
map-covered : (image : Image) (n : ℕ) (touched : Claim → Bool) → Covers image (map_of n) touched
map-covered image n touched =
    covers-more image (map_of n) (λ claim. false) touched (λ claim e. absurd (clash e))
    (covers-either image (one_word (Block n) 16) (either (range (Block n) 24 16) (either (one_word (Block n) 56) (range (Block n) 80 8112))) (λ claim. false) (headers-covered image n 16 4 (omega arith) (inr (inl (omega arith, omega arith))))
    (covers-either image (range (Block n) 24 16) (either (one_word (Block n) 56) (range (Block n) 80 8112)) (λ claim. false) (headers-covered image n 24 16 (omega arith) (inr (inr (omega arith))))
    (covers-either image (one_word (Block n) 56) (range (Block n) 80 8112) (λ claim. false) (headers-covered image n 56 4 (omega arith) (inr (inr (omega arith)))) (headers-covered image n 80 8112 (omega arith) (inr (inr (omega arith)))))))
  where
    clash : false ≡ true → ⊥
    clash e = cc

leaving-covered : (image : Image) (w : ℕ) (touched : Claim → Bool) → ((claim : Claim) → has_claim (claims_of w) claim ≡ true → touched claim ≡ true) → Covers image (leaving_of w) touched
leaving-covered image w touched claims = ⊎_elim
    (λ (none : w ≡ 0). subst (λ (F : Footprint). Covers image F touched) (sym (ap leaving_of none ∙ leaving_none)) (nothing-covered image touched))
    (λ (some : w ≢ 0). subst (λ (F : Footprint). Covers image F touched) (sym (leaving_some w some))
    (⊎_elim
    (λ (t : (kind_of w == external) ≡ true).
    let kind : kind_of w ≡ external = eqb-true (kind_of w) external t in
    subst (λ (F : Footprint). Covers image F touched) (sym (freeing_external w kind))
    (covers-more image (whole (External (external_number w))) (λ claim. same_claim claim (ExternalOf (external_number w))) touched (λ claim same. claims claim (external-claim w claim some kind same)) (externals-covered image (external_number w))))
    (λ (t : (kind_of w == external) ≡ false).
    let blocky : kind_of w ≢ external = (λ e. let z : (kind_of w == external) ≡ true = grind (arith, nat_tests) in let y : true ≡ false = sym z ∙ t in cc) in
    subst (λ (F : Footprint). Covers image F touched) (sym (freeing_blocks w blocky)) (map-covered image (file_selector w) touched))
    (cases_Bool (kind_of w == external))))
    (cases_eq w 0)

module _ (files : BlockFiles) (from : Image) (entry : ℕ) (kind : kind_of entry ≡ blocks_256) (address : is_address entry ≡ true) (stands : stands_among files entry ≡ true) (agrees : Agrees files from) where
  abbrev T : Claim → Bool
  T = is_of_entry from entry

  in-record : (at : ℕ) → at + 4 ≤ 96 → Covers from (record_word entry at) T
  in-record at inside =
      let blocky = not_external entry kind in
      let least = entry_room_least entry kind in
      covers-more from (record_word entry at) (has_claim (claims_of entry)) T (λ claim e. claims-first entry (address_word from entry 0 ∷ address_word from entry 1 ∷ address_word from entry 2 ∷ []) claim e)
      (covers-less from (record_word entry at) (range (Block (file_selector entry)) (place entry) (byte_size entry)) (has_claim (claims_of entry)) (range_within (Block (file_selector entry)) (place entry + at) 4 (place entry) (byte_size entry) (omega arith) (omega (arith, least, inside)))
      (blocks-covered from entry (stands_here files from entry agrees address blocky stands) blocky))

  words-covered : (i : ℕ) → i < 3 → Covers from (stream_words entry i) T
  words-covered i small =
      covers-either from (record_word entry (size_place i)) (either (record_word entry (address_place i)) (record_word entry 92)) T (in-record (size_place i) (omega (arith, small)))
      (covers-either from (record_word entry (address_place i)) (record_word entry 92) T (in-record (address_place i) (omega (arith, small))) (in-record 92 (omega arith)))

  stream-claims : (i : ℕ) → i < 3 → (claim : Claim) → has_claim (claims_of (address_word from entry i)) claim ≡ true → T claim ≡ true
  stream-claims zero small claim e = claims-behind entry (address_word from entry 0 ∷ address_word from entry 1 ∷ address_word from entry 2 ∷ []) claim (claims-first (address_word from entry 0) (address_word from entry 1 ∷ address_word from entry 2 ∷ []) claim e)
  stream-claims (suc zero) small claim e = claims-behind entry (address_word from entry 0 ∷ address_word from entry 1 ∷ address_word from entry 2 ∷ []) claim
      (claims-behind (address_word from entry 0) (address_word from entry 1 ∷ address_word from entry 2 ∷ []) claim (claims-first (address_word from entry 1) (address_word from entry 2 ∷ []) claim e))
  stream-claims (suc (suc zero)) small claim e = claims-behind entry (address_word from entry 0 ∷ address_word from entry 1 ∷ address_word from entry 2 ∷ []) claim
      (claims-behind (address_word from entry 0) (address_word from entry 1 ∷ address_word from entry 2 ∷ []) claim (claims-behind (address_word from entry 1) (address_word from entry 2 ∷ []) claim (claims-first (address_word from entry 2) [] claim e)))
  stream-claims (suc (suc (suc i))) small claim e = absurd (let h : suc (suc (suc i)) < 3 = small in omega (arith, h))

  dropping-covered : (count : ℕ) → count ≤ 3 → Covers from (dropping_of count entry from) T
  unfolding dropping_of
  dropping-covered zero few = nothing-covered from T
  dropping-covered (suc i) few =
      covers-either from (dropping_of i entry from) (either (stream_words entry i) (leaving_of (address_word from entry i))) T (dropping-covered i (omega (arith, few)))
      (covers-either from (stream_words entry i) (leaving_of (address_word from entry i)) T (words-covered i (omega (arith, few))) (leaving-covered from (address_word from entry i) T (stream-claims i (omega (arith, few)))))

pub drops-inside : DropsAreShownInside
drops-inside files from image entry kind address stands agrees same = views-same (dropping_of 3 entry from) from image (is_of_entry from entry) same (dropping-covered files from entry kind address stands agrees 3 (omega arith))
