-- What a write into the blocks of an address leaves.
use Rattle.std.proofs.Common.{◌≡◌, ◌≢◌, ◌⊎◌, inl, inr, ⊎_elim, ℕ, zero, suc, ◌+◌, ◌*◌, ◌<◌, ◌≤◌, Bool, true, false, [], ◌∷◌, map, refl, sym, ◌∙◌, ap, arith}
use Rattle.std.specs.Prelude.{◌==◌, ◌&&◌, nat_le, nat_lt}
use Rattle.std.specs.List.{range_with_len}
use Rattle.std.proofs.lemmas.Bool.{and_parts, cases_Bool, eqb-true, eq-eqb, or_from}
use Rattle.spec_image.specs.Checks.{first_of}
use Rattle.spec_image.specs.Image.{Index, Block, Image, byte, length_of, same_file}
use Rattle.spec_image.specs.Footprint as files
use Rattle.spec_image.proofs.Footprints.{range_within}
use Rattle.spec_format.specs.Address.{kind_of, block_count, block_size, file_selector, first_block, external_number, place, byte_size, block_place, external, rankings, blocks_256}
use Rattle.spec_format.specs.Headers.{field_checks, list_checks, magic_of}
use Rattle.spec_format.specs.BlockFiles.{stands_in, KeepsHeaders}
use Rattle.spec_format.specs.Claims.{Claim, BlockOf, ExternalOf, same_claim, claims_of, has_claim}
use Rattle.spec_folder.specs.View.{view_of}
use Rattle.spec_folder.specs.Footprint.{IsClear, SameBut, Covers}
use Rattle.law_folder.proofs.claims.BlockBytes.{room_is}
use Rattle.law_folder.proofs.claims.ByteChanges.{views-same, stands-if_clear, not_equal}
use Rattle.law_folder.proofs.claims.ClaimLists.{claim-head, no-claim, some-blocks}
use Rattle.law_folder.proofs.claims.Covers.{blocks-covered, covers-less}
use Rattle.spec_format.specs.Sealed.{BeginsWithRecord, record_range, record_size, size_by_kind}
use Rattle.spec_format.proofs.SpareHeaders.{SparesHeaders}
use Rattle.spec_folder.specs.ShownChanges.{ChangesInside}
use Rattle.law_folder.specs.BlockWrites.{WritesStayInside, UpdatesStayInside}
use Rattle.law_folder.proofs.updates.WellFormed.{before_range, headers_still}

-- a used block of a file
unfoldable pub in_file : ℕ → Claim → Bool
in_file file (BlockOf other b) = file == other
in_file file (ExternalOf n) = false

-- words of another kind than blocks, and of another file, use no block of it
blocks-elsewhere : (file other start n b : ℕ) → other ≢ file → has_claim (map (λ x. BlockOf other x) (range_with_len start n)) (BlockOf file b) ≡ false
blocks-elsewhere file other start zero b apart = no-claim (BlockOf file b)
blocks-elsewhere file other start (suc n) b apart =
    let e : (file == other) ≡ false = not_equal file other (λ s. apart (sym s)) in
    claim-head (BlockOf other start) (map (λ x. BlockOf other x) (range_with_len (start + 1) n)) (BlockOf file b)
    ∙ or_from (same_claim (BlockOf file b) (BlockOf other start)) (has_claim (map (λ x. BlockOf other x) (range_with_len (start + 1) n)) (BlockOf file b)) (rw e refl) (blocks-elsewhere file other (start + 1) n b apart)

external-claims : (n file b : ℕ) → has_claim (ExternalOf n ∷ []) (BlockOf file b) ≡ false
external-claims n file b = claim-head (ExternalOf n) [] (BlockOf file b) ∙ or_from false (has_claim [] (BlockOf file b)) refl (no-claim (BlockOf file b))

abbrev pub IsElsewhere : ℕ → ℕ → Type 0
IsElsewhere file u = (kind_of u ≡ external) ⊎ (file_selector u ≢ file)

none-there : (file u b : ℕ) → IsElsewhere file u → has_claim (claims_of u) (BlockOf file b) ≡ false
unfolding claims_of
none-there file u b away = ⊎_elim
    (λ (z : (u == 0) ≡ true). rw z (no-claim (BlockOf file b)))
    (λ (z : (u == 0) ≡ false). ⊎_elim
    (λ (k : (kind_of u == external) ≡ true). rw (z, k) (external-claims (external_number u) file b))
    (λ (k : (kind_of u == external) ≡ false). rw (z, k) (blocks-elsewhere file (file_selector u) (first_block u) (block_count u) b (other k away)))
    (cases_Bool (kind_of u == external)))
    (cases_Bool (u == 0)) where
      other : (kind_of u == external) ≡ false → IsElsewhere file u → file_selector u ≢ file
      other k (inl e) s = let y : (kind_of u == external) ≡ true = eq-eqb (kind_of u) external e in let c : true ≡ false = sym y ∙ k in cc
      other k (inr apart) s = apart s

pub elsewhere-clear : (file u : ℕ) → IsElsewhere file u → IsClear (in_file file) u
unfolding in_file
elsewhere-clear file u away (ExternalOf n) h = refl
elsewhere-clear file u away (BlockOf other b) h = ⊎_elim
    (λ (e : (file == other) ≡ true).
    let there : has_claim (claims_of u) (BlockOf file b) ≡ true = ap (λ (f : ℕ). has_claim (claims_of u) (BlockOf f b)) (eqb-true file other e) ∙ h in
    let c : true ≡ false = sym there ∙ none-there file u b away in cc)
    (λ (e : (file == other) ≡ false). e)
    (cases_Bool (file == other))

behind-header : (w : ℕ) → 8192 ≤ place w
unfolding place block_place
behind-header w = omega arith

module _ (from image : Image) (w at n : ℕ) (st : stands_in from w ≡ true) (block_kind : kind_of w ≢ external) (low : place w ≤ at) (high : at + n ≤ place w + byte_size w) (same : files.SameOutside (files.range (Block (file_selector w)) at n) from image) where
  F : files.Footprint
  F = files.range (Block (file_selector w)) at n

  covers : Covers from F (has_claim (claims_of w))
  unfolding F
  covers = covers-less from F (files.range (Block (file_selector w)) (place w) (byte_size w)) (has_claim (claims_of w)) (range_within (Block (file_selector w)) at n (place w) (byte_size w) low high) (blocks-covered from w st block_kind)

  covers-file : Covers from F (in_file (file_selector w))
  unfolding F in_file
  covers-file = record {
    index = λ i e. refl;
    extents = covers.extents;
    lengths = λ m. refl;
    blocks = λ m kind b i linked below above e. (and_parts (same_file (Block (file_selector w)) (Block m)) (nat_le at i && nat_lt i (at + n)) e).0;
    external_bytes = λ m i e. cc;
    external_sizes = λ m e. cc;
  }

  -- what lies in other files is the same
  pub same-elsewhere : SameBut (in_file (file_selector w)) (view_of from) (view_of image)
  unfolding F
  same-elsewhere = views-same F from image (in_file (file_selector w)) same covers-file

  -- each word is valid as before
  pub stands-all : (u : ℕ) → stands_in image u ≡ stands_in from u
  unfolding F
  stands-all u = stands-if_clear F from image (in_file (file_selector w)) same covers-file u (λ is. elsewhere-clear (file_selector w) u (inl is))

  spares : SparesHeaders F
  unfolding F
  spares = record { bytes = λ m i small. before_range (Block (file_selector w)) (Block m) at n i (let b = behind-header w in omega arith) }

  headers : KeepsHeaders from image
  unfolding F
  headers =
      let index : byte image Index ≡ byte from Index = λ j i. same.bytes Index i refl j in
      let size : length_of image Index ≡ length_of from Index = same.lengths Index refl in
      headers_still F from image spares (λ m. refl) same (λ j. magic_of (index j)) (λ j. first_of (field_checks (index j) (size j))) (λ j. first_of (list_checks (index j)))

  pub inside : ChangesInside w from image
  unfolding F
  inside = record { shown = views-same F from image (has_claim (claims_of w)) same covers; stands = stands-all; headers = headers }

pub writes-inside : WritesStayInside
writes-inside from image w at n st block_kind low high same = inside from image w at n st block_kind low high same

-- the record of an address lies in its blocks
pub record-blocky : (w : ℕ) → BeginsWithRecord w → kind_of w ≢ external
record-blocky w (inl e) x = let z : ◌≡◌ {A = ℕ} 1 0 = sym e ∙ x in cc
record-blocky w (inr e) x = let z : ◌≡◌ {A = ℕ} 2 0 = sym e ∙ x in cc

pub record-inside : (w : ℕ) → BeginsWithRecord w → record_size w ≤ byte_size w
unfolding size_by_kind block_size
record-inside w (inl e) = let r : byte_size w ≡ block_count w * block_size rankings = room_is w rankings e in let some : 0 < block_count w = some-blocks w in rw e (omega arith)
record-inside w (inr e) = let r : byte_size w ≡ block_count w * block_size blocks_256 = room_is w blocks_256 e in let some : 0 < block_count w = some-blocks w in rw e (omega arith)

module _ (from image : Image) (w : ℕ) (st : stands_in from w ≡ true) (begins : BeginsWithRecord w) (same : files.SameOutside (record_range w) from image) where
  fits : place w + record_size w ≤ place w + byte_size w
  fits = let h = record-inside w begins in omega arith

  pub record-changes : ChangesInside w from image
  record-changes = inside from image w (place w) (record_size w) st (record-blocky w begins) (omega arith) fits same

  pub record-elsewhere : SameBut (in_file (file_selector w)) (view_of from) (view_of image)
  record-elsewhere = same-elsewhere from image w (place w) (record_size w) st (record-blocky w begins) (omega arith) fits same

pub updates-inside : UpdatesStayInside
updates-inside from image w changes st begins moment = record-changes from image w st begins moment.outside
