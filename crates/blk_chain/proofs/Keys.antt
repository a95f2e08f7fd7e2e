-- Keys apart from the first block of a record that is changed.
use Rattle.std.proofs.Common.{◌≡◌, ◌≢◌, ⊎_elim, ℕ, ◌+◌, ◌*◌, ◌≤◌, Bool, true, false, List, [], ◌∷◌, take, Some, refl, sym, ◌∙◌, ap, ap₂, subst, arith}
use Rattle.std.specs.Prelude.{◌==◌, ◌&&◌, ◌||◌, nat_le}
use Rattle.std.proofs.lemmas.Bool.{and_parts, cases_Bool, eqb-true}
use Rattle.std.proofs.lemmas.Bool.Decides.{nat_tests}
use Rattle.spec_image.specs.Bytes.{range_at}
use Rattle.spec_image.specs.Image.{Block, Image, byte, length_of}
use Rattle.spec_image.specs.Footprint.{Footprint, SameOutside, range}
use Rattle.spec_image.specs.Steps.{with_words}
use Rattle.spec_format.specs.Address.{kind_of, block_count, block_size, block_word, file_selector, first_block, is_address, blocks_256, place, byte_size}
use Rattle.spec_format.specs.Claims.{Claim, BlockOf, ExternalOf, same_claim, claims_of, has_claim}
use Rattle.spec_format.specs.Standing.{is_linked_as, stands, stands_as_blocks}
use Rattle.spec_format.specs.BlockFiles.{linked_as, max_entries_in, stands_in}
use Rattle.spec_format.specs.Records.{entry_in, checks}
use Rattle.spec_format.proofs.Words.{AreFields, AreFields-of, kind_of-block_word, block_count-block_word, file_selector-block_word, first_block-block_word, is_address-block_word}
use Rattle.spec_folder.specs.Footprint.{IsClear}
use Rattle.spec_folder.specs.View.{RecordFields, fields_of, fields_at, entry_at, stands_as, store_of}
use Rattle.spec_format.specs.Sealed.{IsMidUpdate, record_at, record_size, seal_place, size_by_kind, seal_by_kind}
use Rattle.law_folder.proofs.updates.StillShown.{core-standing, standing-parts}
use Rattle.law_folder.proofs.chains.ChainWords.{record-at, shown-fields, shown-kind}

-- the address of the first block of a record alone
pub first_word : ℕ → ℕ
first_word w = block_word 2 (file_selector w) (first_block w) 1

module _ (w : ℕ) where
  fields : AreFields 2 (file_selector w) (first_block w) 1
  fields = let f = AreFields-of w in record { kind = omega arith; file = f.file; start = f.start; some = omega arith; most = omega arith }

  pub first-kind : kind_of (first_word w) ≡ 2
  unfolding first_word
  first-kind = kind_of-block_word 2 (file_selector w) (first_block w) 1 fields

  pub first-count : block_count (first_word w) ≡ 1
  unfolding first_word
  first-count = block_count-block_word 2 (file_selector w) (first_block w) 1 fields

  pub first-file : file_selector (first_word w) ≡ file_selector w
  unfolding first_word
  first-file = file_selector-block_word 2 (file_selector w) (first_block w) 1 fields

  pub first-first : first_block (first_word w) ≡ first_block w
  unfolding first_word
  first-first = first_block-block_word 2 (file_selector w) (first_block w) 1 fields

  first-address : is_address (first_word w) ≡ true
  unfolding first_word
  first-address = is_address-block_word 2 (file_selector w) (first_block w) 1 fields refl (omega arith) (λ e. cc)

  pub first-place : kind_of w ≡ 2 → place (first_word w) ≡ place w
  first-place kind = record-at (first_word w) first-kind ∙ ap (λ (b : ℕ). 8192 + b * 256) first-first ∙ sym (record-at w kind)

  some-word : first_word w ≢ 0
  unfolding kind_of
  some-word e = let k = first-kind in omega (arith, k, e)

  pub first-claims : claims_of (first_word w) ≡ BlockOf (file_selector w) (first_block w) ∷ []
  unfolding claims_of
  first-claims =
      let some : (first_word w == 0) ≡ false = grind (arith, nat_tests, some-word) in
      rw (some, first-kind, first-count, first-file, first-first) refl

  -- what doesn't have this block is clear of it
  pub first-clear : (u : ℕ) → has_claim (claims_of u) (BlockOf (file_selector w) (first_block w)) ≡ false → IsClear (has_claim (claims_of (first_word w))) u
  unfolding has_claim
  first-clear u lacks claim has = rw first-claims (by claim has) where
    by : (claim : Claim) → has_claim (claims_of u) claim ≡ true → (same_claim claim (BlockOf (file_selector w) (first_block w)) || false) ≡ false
    by (ExternalOf n) h = refl
    by (BlockOf f b) h = ⊎_elim
        (λ (e : ((f == file_selector w) && (b == first_block w)) ≡ true).
        let p = and_parts (f == file_selector w) (b == first_block w) e in
        let same : has_claim (claims_of u) (BlockOf (file_selector w) (first_block w)) ≡ true = ap₂ (λ (g c : ℕ). has_claim (claims_of u) (BlockOf g c)) (sym (eqb-true f (file_selector w) p.0)) (sym (eqb-true b (first_block w) p.1)) ∙ h in
        absurd (let no : true ≡ false = sym same ∙ lacks in cc))
        (λ (e : ((f == file_selector w) && (b == first_block w)) ≡ false). rw e refl)
        (cases_Bool ((f == file_selector w) && (b == first_block w)))

-- fewer blocks are valid where more are
fewer : (address linked : Bool) (s c most p long : ℕ) → 1 ≤ c → (address && (linked && nat_le (s + c) most && nat_le (p + c * 256) long)) ≡ true → (linked && nat_le (s + 1) most && nat_le (p + 256) long) ≡ true
fewer true true s c most p long some h = grind (arith, nat_tests)
fewer true false s c most p long some h = h
fewer false linked s c most p long some h = cc

-- the first block of a record is valid where the record is
pub first-stands : (image : Image) (w : ℕ) → kind_of w ≡ 2 → stands_in image w ≡ true → stands_in image (first_word w) ≡ true
unfolding stands stands_as_blocks byte_size block_size
first-stands image w kind st =
    let is : kind_of (first_word w) ≡ 2 = first-kind w in
    let f = first-file w in let s = first-first w in let c = first-count w in let p = first-place w kind in let a = first-address w in
    let was : (is_address w && (is_linked_as (linked_as image (file_selector w)) 2 && nat_le (first_block w + block_count w) (max_entries_in image (file_selector w)) && nat_le (place w + block_count w * 256) (length_of image (Block (file_selector w))))) ≡ true = rw kind at st in
    rw (a, is, f, s, c, p) (fewer (is_address w) (is_linked_as (linked_as image (file_selector w)) 2) (first_block w) (block_count w) (max_entries_in image (file_selector w)) (place w) (length_of image (Block (file_selector w))) (AreFields-of w).some was)

-- the record that it names
pub first-record : (image : Image) (w : ℕ) (own_fields : RecordFields) → (store_of image).entry w ≡ Some own_fields → (store_of image).entry (first_word w) ≡ Some own_fields
unfolding store_of fields_at
first-record image w own_fields here =
    let kind = shown-kind image w own_fields here in
    let stands_first : stands_as image blocks_256 (first_word w) ≡ true =
    both (stands_in image (first_word w)) (kind_of (first_word w)) (first-stands image w kind (standing-parts image blocks_256 w (core-standing image w own_fields here)).0) (first-kind w) in
    let same : fields_of (entry_at image (first_word w)) ≡ fields_of (entry_at image w) = ap₂ (λ (f i : ℕ). fields_of (entry_in (byte image (Block f)) i)) (first-file w) (first-place w kind) in
    rw stands_first (ap (λ (c : RecordFields). Some c) (same ∙ shown-fields image w own_fields here))
  where
    both : (b : Bool) (k : ℕ) → b ≡ true → k ≡ 2 → (b && (k == 2)) ≡ true
    both b k e f = rw (e, f) refl

-- the midst of the update of the record is that of an update of that word
pub first-moment : (from image : Image) (w x : ℕ) → kind_of w ≡ 2 → IsMidUpdate from w ((4, x) ∷ []) image → IsMidUpdate from (first_word w) ((4, x) ∷ []) image
unfolding record_at size_by_kind seal_by_kind
first-moment from image w x kind moment =
    let is : kind_of (first_word w) ≡ kind_of w = first-kind w ∙ sym kind in
    let size : record_size (first_word w) ≡ record_size w = ap size_by_kind is in
    let seal : seal_place (first_word w) ≡ seal_place w = ap seal_by_kind is in
    let bytes : (i : Image) → record_at i (first_word w) ≡ record_at i w = (λ i. ap₂ (λ (at n : ℕ). range_at (byte i (Block (file_selector (first_word w)))) at n) (first-place w kind) size ∙ ap (λ (f : ℕ). range_at (byte i (Block f)) (place w) (record_size w)) (first-file w)) in
    record {
      made = moment.made;
      within = moment.within;
      fields = ap₂ (λ (s : ℕ) (l : List ℕ). take s l) seal (bytes image) ∙ moment.fields ∙ sym (ap₂ (λ (s : ℕ) (l : List ℕ). take s (with_words (take moment.made ((4, x) ∷ [])) l)) seal (bytes from));
      checks = ap₂ (λ (s : ℕ) (l : List ℕ). checks s l) seal (bytes image) ∙ moment.checks;
      outside = subst (λ (F : Footprint). SameOutside F from image) (sym (ap₂ (λ (at n : ℕ). range (Block (file_selector (first_word w))) at n) (first-place w kind) size ∙ ap (λ (f : ℕ). range (Block f) (place w) (record_size w)) (first-file w))) moment.outside;
    }
