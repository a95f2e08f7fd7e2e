-- What contains the bytes of blocks, of external files, of headers and of the index.
use Rattle.std.proofs.Common.{◌≡◌, ◌⊎◌, inl, inr, ⊎_elim, ℕ, ◌+◌, ◌*◌, ◌<◌, ◌≤◌, refl, ap, sym, ◌∙◌, subst, arith, Bool, true, false, Some}
use Rattle.std.specs.Prelude.{◌&&◌, ◌||◌, nat_le, nat_lt}
use Rattle.std.proofs.lemmas.Bool.{eq-eqb, and_parts, leb-true, ltb-true, or_from, false_from_ne_true}
use Rattle.std.proofs.lemmas.Bool.Decides.{nat_tests}
use Rattle.spec_image.specs.Image.{Index, Block, External, File, same_file}
use Rattle.spec_image.specs.Footprint.{range}
use Rattle.spec_image.proofs.Images.{same_file-true}
use Rattle.spec_format.specs.Address.{kind_of, block_count, file_selector, first_block, place, byte_size, block_place, block_size}
use Rattle.spec_format.specs.BlockFiles.{linked_as}
use Rattle.spec_format.specs.Claims.{BlockOf, ExternalOf, claims_of, has_claim}
use Rattle.spec_format.specs.Headers.{is_shown_place, is_extent_place}
use Rattle.law_folder.specs.ByteLaws.{BlocksAreCovered, ExternalFilesAreCovered, HeadersNeedNoCover, HiddenWordsNeedNoCover, CoversOfLess, MoreCovers, CoversOfEither}
use Rattle.law_folder.proofs.claims.ByteChanges.{block-claim, stands-some, stands-linked, size-is}

-- a byte of a range of a file
in-range : (file other : File) (at n i : ℕ) → (range file at n).bytes other i ≡ true → (file ≡ other) × (at ≤ i) × (i < at + n)
in-range file other at n i e =
    let p = and_parts (same_file file other) (nat_le at i && nat_lt i (at + n)) e in
    let q = and_parts (nat_le at i) (nat_lt i (at + n)) p.1 in
    (same_file-true file other p.0, leb-true at i q.0, ltb-true i (at + n) q.1)

-- no byte outside a range of a file is in it
pub out-range : (file other : File) (at n i : ℕ) → (file ≡ other → at ≤ i → i < at + n → ⊥) → (range file at n).bytes other i ≡ false
out-range file other at n i never = false_from_ne_true ((range file at n).bytes other i) (λ e. let p = in-range file other at n i e in never p.0 p.1 p.2)

extent-small : (i : ℕ) → is_extent_place i ≡ true → (i ≡ 10) ⊎ (i ≡ 11) ⊎ ((20 ≤ i) × (i < 24))
extent-small i e = grind (arith, nat_tests)

-- blocks that meet, from their bytes
meets : (size first count b i : ℕ) → (size ≡ 36) ⊎ (size ≡ 256) ⊎ (size ≡ 1024) ⊎ (size ≡ 4096) → 8192 + b * size ≤ i → i < 8192 + (b + 1) * size → 8192 + first * size ≤ i → i < 8192 + first * size + count * size → (first ≤ b) × (b < first + count)
meets size first count b i (inl e) p q r s =
    let p1 : 8192 + b * 36 ≤ i = rw e at p in let q1 : i < 8192 + (b + 1) * 36 = rw e at q in let r1 : 8192 + first * 36 ≤ i = rw e at r in let s1 : i < 8192 + first * 36 + count * 36 = rw e at s in (omega arith, omega arith)
meets size first count b i (inr (inl e)) p q r s =
    let p1 : 8192 + b * 256 ≤ i = rw e at p in let q1 : i < 8192 + (b + 1) * 256 = rw e at q in let r1 : 8192 + first * 256 ≤ i = rw e at r in let s1 : i < 8192 + first * 256 + count * 256 = rw e at s in (omega arith, omega arith)
meets size first count b i (inr (inr (inl e))) p q r s =
    let p1 : 8192 + b * 1024 ≤ i = rw e at p in let q1 : i < 8192 + (b + 1) * 1024 = rw e at q in let r1 : 8192 + first * 1024 ≤ i = rw e at r in let s1 : i < 8192 + first * 1024 + count * 1024 = rw e at s in (omega arith, omega arith)
meets size first count b i (inr (inr (inr e))) p q r s =
    let p1 : 8192 + b * 4096 ≤ i = rw e at p in let q1 : i < 8192 + (b + 1) * 4096 = rw e at q in let r1 : 8192 + first * 4096 ≤ i = rw e at r in let s1 : i < 8192 + first * 4096 + count * 4096 = rw e at s in (omega arith, omega arith)

pub block-of : (m n : ℕ) → Block m ≡ Block n → m ≡ n
block-of m n e = cc

place-behind : (w : ℕ) → 8192 ≤ place w
unfolding place block_place
place-behind w = omega arith

in-blocks : (w kind b i : ℕ) → kind_of w ≡ kind → block_place kind b ≤ i → i < block_place kind (b + 1) → place w ≤ i → i < place w + byte_size w → (first_block w ≤ b) × (b < first_block w + block_count w)
unfolding place byte_size block_place
in-blocks w kind b i kinds low high from to =
    subst (λ (k : ℕ). block_place k b ≤ i → i < block_place k (b + 1) → (first_block w ≤ b) × (b < first_block w + block_count w)) kinds
    (λ l h. meets (block_size (kind_of w)) (first_block w) (block_count w) b i (size-is (kind_of w)) l h from to) low high

pub blocks-covered : BlocksAreCovered
blocks-covered image w st apart = record {
  index = λ i e. refl;
  extents = λ n i e. out-range (Block (file_selector w)) (Block n) (place w) (byte_size w) i (λ _ low high. let b = place-behind w in ⊎_elim (λ (x : i ≡ 10). omega arith) (λ x. ⊎_elim (λ (y : i ≡ 11). omega arith) (λ (y : (20 ≤ i) × (i < 24)). omega (arith, y.1)) x) (extent-small i e));
  lengths = λ n. refl;
  blocks = λ n kind b i linked low high e.
      let p = in-range (Block (file_selector w)) (Block n) (place w) (byte_size w) i e in
      let file : file_selector w ≡ n = block-of (file_selector w) n p.0 in
      let kinds : kind_of w ≡ kind = let a : linked_as image (file_selector w) ≡ Some (kind_of w) = stands-linked image w st apart in let c : linked_as image (file_selector w) ≡ Some kind = ap (linked_as image) file ∙ linked in cc in
      let within = in-blocks w kind b i kinds low high p.1 p.2 in
      subst (λ (m : ℕ). has_claim (claims_of w) (BlockOf m b) ≡ true) file (block-claim w b (stands-some image w st) apart within.0 within.1);
  external_bytes = λ n i e. cc;
  external_sizes = λ n e. cc;
}

external-of : (m n : ℕ) → External m ≡ External n → m ≡ n
external-of m n e = cc

pub externals-covered : ExternalFilesAreCovered
externals-covered image n = record {
  index = λ i e. refl;
  extents = λ m i e. refl;
  lengths = λ m. refl;
  blocks = λ m kind b i linked low high e. cc;
  external_bytes = λ m i e. eq-eqb m n (sym (external-of n m (same_file-true (External n) (External m) e)));
  external_sizes = λ m e. eq-eqb m n (sym (external-of n m (same_file-true (External n) (External m) e)));
}

block-behind : (kind b : ℕ) → 8192 ≤ block_place kind b
unfolding block_place
block-behind kind b = omega arith

pub headers-covered : HeadersNeedNoCover
headers-covered image n at length inside where_at = record {
  index = λ i e. refl;
  extents = λ m i e. out-range (Block n) (Block m) at length i (λ _ low high. apart i (extent-small i e) where_at low high);
  lengths = λ m. refl;
  blocks = λ m kind b i linked low high e. let p = in-range (Block n) (Block m) at length i e in let suffix = block-behind kind b in absurd (omega (arith, p.2));
  external_bytes = λ m i e. cc;
  external_sizes = λ m e. cc;
} where
  apart : (i : ℕ) → (i ≡ 10) ⊎ (i ≡ 11) ⊎ ((20 ≤ i) × (i < 24)) → (at + length ≤ 10) ⊎ ((12 ≤ at) × (at + length ≤ 20)) ⊎ (24 ≤ at) → at ≤ i → i < at + length → ⊥
  apart i extent where_is low high = grind arith

pub hidden-covered : HiddenWordsNeedNoCover
hidden-covered image at length hidden = record {
  index = λ i e. out-range Index Index at length i (λ _ low high. let h : is_shown_place i ≡ false = hidden i low high in let c : true ≡ false = sym e ∙ h in cc);
  extents = λ m i e. refl;
  lengths = λ m. refl;
  blocks = λ m kind b i linked low high e. cc;
  external_bytes = λ m i e. cc;
  external_sizes = λ m e. cc;
}

pub covers-less : CoversOfLess
covers-less image less more touched within covers = record {
  index = λ i e. false_from_ne_true (less.bytes Index i) (λ x. let a : more.bytes Index i ≡ true = within.bytes Index i x in let c : true ≡ false = sym a ∙ covers.index i e in cc);
  extents = λ n i e. false_from_ne_true (less.bytes (Block n) i) (λ x. let a : more.bytes (Block n) i ≡ true = within.bytes (Block n) i x in let c : true ≡ false = sym a ∙ covers.extents n i e in cc);
  lengths = λ n. false_from_ne_true (less.sizes (Block n)) (λ x. let a : more.sizes (Block n) ≡ true = within.sizes (Block n) x in let c : true ≡ false = sym a ∙ covers.lengths n in cc);
  blocks = λ n kind b i linked low high e. covers.blocks n kind b i linked low high (within.bytes (Block n) i e);
  external_bytes = λ n i e. covers.external_bytes n i (within.bytes (External n) i e);
  external_sizes = λ n e. covers.external_sizes n (within.sizes (External n) e);
}

pub covers-more : MoreCovers
covers-more image footprint less more wider covers = record {
  index = covers.index;
  extents = covers.extents;
  lengths = covers.lengths;
  blocks = λ n kind b i linked low high e. wider (BlockOf n b) (covers.blocks n kind b i linked low high e);
  external_bytes = λ n i e. wider (ExternalOf n) (covers.external_bytes n i e);
  external_sizes = λ n e. wider (ExternalOf n) (covers.external_sizes n e);
}

one-of : {P : Type 0} (a b : Bool) → (a || b) ≡ true → (a ≡ true → P) → (b ≡ true → P) → P
one-of true b e f g = f refl
one-of false b e f g = g e

pub covers-either : CoversOfEither
covers-either image one other touched first second = record {
  index = λ i e. or_from (one.bytes Index i) (other.bytes Index i) (first.index i e) (second.index i e);
  extents = λ n i e. or_from (one.bytes (Block n) i) (other.bytes (Block n) i) (first.extents n i e) (second.extents n i e);
  lengths = λ n. or_from (one.sizes (Block n)) (other.sizes (Block n)) (first.lengths n) (second.lengths n);
  blocks = λ n kind b i linked low high e. one-of (one.bytes (Block n) i) (other.bytes (Block n) i) e (first.blocks n kind b i linked low high) (second.blocks n kind b i linked low high);
  external_bytes = λ n i e. one-of (one.bytes (External n) i) (other.bytes (External n) i) e (first.external_bytes n i) (second.external_bytes n i);
  external_sizes = λ n e. one-of (one.sizes (External n)) (other.sizes (External n)) e (first.external_sizes n) (second.external_sizes n);
}
