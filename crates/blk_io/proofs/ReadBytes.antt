-- What a read of a file gives.
use Rattle.std.proofs.Common.{◌≡◌, ℕ, zero, suc, ◌-◌, min, List, [], length, take, drop, Option, None, unwrap_or, refl, sym, ◌∙◌, ap, arith}
use Rattle.spec_image.specs.Bytes.{content, range_at}
use Rattle.spec_image.specs.Image.{File, Image, bytes_of, length_of}
use Rattle.spec_image.specs.Told.{GivesBytes}
use Rattle.spec_image.proofs.Words.{range-is}

-- a prefix of the bytes from an offset on is a range
front_is : (n place : ℕ) (bytes : List ℕ) (old : List ℕ) → n ≡ min (length old) (length bytes - place) → range_at (content bytes) place n ≡ take n (drop place bytes)
unfolding range_at
front_is zero place bytes old many = refl
front_is (suc n) place bytes old many = range-is (suc n) place bytes (omega (arith, many))

-- bytes of a file that were moved into a prefix of a buffer
pub gives_prefix : (image : Image) (file : File) (place : ℕ) (bytes old new : List ℕ) (n : ℕ) → bytes_of image file ≡ bytes → n ≡ min (length old) (length bytes - place) → take n new ≡ take n (drop place bytes) → drop n new ≡ drop n old
    → GivesBytes image file place old new n
gives_prefix image file place bytes old new n is many front rest = record {
  many = many ∙ ap (λ (l : List ℕ). min (length old) (length l - place)) (sym is);
  front = front ∙ sym (front_is n place bytes old many) ∙ ap (λ (l : List ℕ). range_at (content l) place n) (sym is);
  rest = rest;
}

-- a file that is not there gives nothing
pub gives_nothing : (image : Image) (file : File) (place : ℕ) (old : List ℕ) → image file ≡ None → GivesBytes image file place old old 0
unfolding range_at
gives_nothing image file place old none =
    let empty : length_of image file ≡ 0 = ap (λ (o : Option (List ℕ)). length (unwrap_or o [])) none in
    record { many = omega (arith, empty); front = refl; rest = refl }
