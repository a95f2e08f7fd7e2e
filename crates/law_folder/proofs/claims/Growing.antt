-- A longer block file has grown; used blocks.
use Rattle.std.proofs.Common.{◌≡◌, ℕ, zero, suc, ◌+◌, ◌*◌, ◌<◌, ◌≤◌, map, refl, sym, ◌∙◌, subst, arith, ⊎_elim, Bool, true, false}
use Rattle.std.specs.Prelude.{◌&&◌, ◌||◌, ◌==◌}
use Rattle.std.specs.List.{range_with_len}
use Rattle.std.proofs.lemmas.Bool.{cases_Bool, eqb-true}
use Rattle.spec_image.specs.Image.{Image, File, Index, Block, same_file, length_of}
use Rattle.spec_image.specs.Steps.{SetLength, applied}
use Rattle.spec_image.specs.Footprint.{SameOutside, size_of}
use Rattle.spec_image.proofs.Images.{same_file-true, length-after_set_len}
use Rattle.spec_image.proofs.Footprints.{outside_longer}
use Rattle.spec_format.specs.Claims.{BlockOf, has_claim}
use Rattle.spec_format.specs.BlockFiles.{next_file_in, max_entries_in}
use Rattle.spec_format.specs.Growth.{HaveGrown}
use Rattle.law_folder.proofs.claims.ClaimLists.{claim-head, no-claim}
use Rattle.law_folder.proofs.claims.ByteChanges.{same-links}

-- a used block is one of the word's
pub claimed-block : (f first count n b : ℕ) → has_claim (map (λ x. BlockOf f x) (range_with_len first count)) (BlockOf n b) ≡ true → (f ≡ n) × (b < first + count)
claimed-block f first zero n b e = let z : false ≡ true = sym (no-claim (BlockOf n b)) ∙ e in absurd (cc)
claimed-block f first (suc count) n b e = go (n == f) (b == first) refl refl (claimed-block f (first + 1) count n b) (sym (claim-head (BlockOf f first) (map (λ x. BlockOf f x) (range_with_len (first + 1) count)) (BlockOf n b)) ∙ e) where
  go : (s t : Bool) → (n == f) ≡ s → (b == first) ≡ t → (has_claim (map (λ x. BlockOf f x) (range_with_len (first + 1) count)) (BlockOf n b) ≡ true → (f ≡ n) × (b < first + 1 + count)) → ((s && t) || has_claim (map (λ x. BlockOf f x) (range_with_len (first + 1) count)) (BlockOf n b)) ≡ true → (f ≡ n) × (b < first + suc count)
  go true true file at later h = let z : b ≡ first = eqb-true b first at in (sym (eqb-true n f file), omega arith)
  go true false file at later h = let p = later h in (p.0, let q = p.1 in omega arith)
  go false t file at later h = let p = later h in (p.0, let q = p.1 in omega arith)

-- a longer file
module _ (image : Image) (m length : ℕ) (longer : length_of image (Block m) ≤ length) where
  abbrev grown : Image
  grown = applied (SetLength (Block m) length) image

  same : SameOutside (size_of (Block m)) image grown
  same = outside_longer (Block m) length image longer

  next-same : (n : ℕ) → next_file_in grown n ≡ next_file_in image n
  unfolding next_file_in
  next-same n = λ k. same.bytes (Block n) 10 refl k + 256 * same.bytes (Block n) 11 refl k

  count-same : (n : ℕ) → max_entries_in grown n ≡ max_entries_in image n
  unfolding max_entries_in
  count-same n = λ k. same.bytes (Block n) 20 refl k + 256 * same.bytes (Block n) 21 refl k + 65536 * same.bytes (Block n) 22 refl k + 16777216 * same.bytes (Block n) 23 refl k

  rises : (n : ℕ) → length_of image (Block n) ≤ length_of grown (Block n)
  rises n = ⊎_elim
      (λ (e : same_file (Block m) (Block n) ≡ true).
      let here : ◌≡◌ {A = File} (Block m) (Block n) = same_file-true (Block m) (Block n) e in
      subst (λ (f : File). length_of image f ≤ length_of grown f) here (let now : length_of grown (Block m) ≡ length = length-after_set_len image (Block m) length in omega arith))
      (λ (e : same_file (Block m) (Block n) ≡ false). let now : length_of grown (Block n) ≡ length_of image (Block n) = same.lengths (Block n) e in omega arith)
      (cases_Bool (same_file (Block m) (Block n)))

  pub longer-grown : HaveGrown image grown
  longer-grown = record {
    index = λ i _. same.bytes Index i refl;
    externals = λ n. refl;
    linked = λ n kind at. same-links image grown next-same n ∙ at;
    bytes = λ n kind i at suffix below. same.bytes (Block n) i refl;
    longer = λ n kind at. rises n;
    more = λ n kind at. let e = count-same n in omega arith;
  }
