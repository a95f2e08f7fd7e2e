-- Checks that hold still where neither what they read of the index nor a header changes.
use Rattle.std.proofs.Common.{◌≡◌, ℕ, ◌+◌, ◌<◌, Bool, true, false, ◌&&◌, ◌++◌, refl, ◌∙◌, arith}
use Rattle.std.specs.Prelude.{nat_le, nat_lt}
use Rattle.std.proofs.lemmas.Bool.Decides.{nat_tests}
use Rattle.spec_image.specs.Checks.{first_of}
use Rattle.spec_image.specs.Image.{Index, Block, File, Image, byte, length_of, same_file}
use Rattle.spec_image.specs.Footprint.{Footprint, SameOutside, range}
use Rattle.spec_format.specs.Headers.{field_checks, list_checks, magic_of}
use Rattle.spec_format.specs.BlockFiles.{block_checks, HasSoundHeaders, KeepsHeaders}
use Rattle.spec_format.proofs.Keeping.{none_parts, none_both, undamaged_still}
use Rattle.spec_format.proofs.SpareHeaders.{SparesHeaders, next_same, heads_still}

-- no byte before a range is in it
pub before_range : (file other : File) (at n i : ℕ) → i < at → (range file at n).bytes other i ≡ false
before_range file other at n i below = by_file (same_file file other)
  where
    by_file : (t : Bool) → (t && (nat_le at i && nat_lt i (at + n))) ≡ false
    by_file true = grind (arith, nat_tests)
    by_file false = refl

-- valid headers stay valid where none of a block file changes, and no length of one, and the checks of the index give the same
pub sound_still : (F : Footprint) (from image : Image) → SparesHeaders F → ((n : ℕ) → F.sizes (Block n) ≡ false) → SameOutside F from image
    → first_of (field_checks (byte image Index) (length_of image Index)) ≡ first_of (field_checks (byte from Index) (length_of from Index))
    → first_of (list_checks (byte image Index)) ≡ first_of (list_checks (byte from Index))
    → HasSoundHeaders from → HasSoundHeaders image
unfolding field_checks list_checks
sound_still F from image spares sizes same head lists well =
    let p = none_parts (field_checks (byte from Index) (length_of from Index)) (list_checks (byte from Index) ++ block_checks from) well in
    let q = none_parts (list_checks (byte from Index)) (block_checks from) p.1 in
    none_both (field_checks (byte image Index) (length_of image Index)) (list_checks (byte image Index) ++ block_checks image) (head ∙ p.0)
    (none_both (list_checks (byte image Index)) (block_checks image) (lists ∙ q.0)
    (undamaged_still from image (next_same F from image spares same) (heads_still F from image spares same (λ m. let e = same.lengths (Block m) (sizes m) in omega (arith, e))) q.1))

-- so the headers are kept where the magic word is the same too
pub headers_still : (F : Footprint) (from image : Image) → SparesHeaders F → ((n : ℕ) → F.sizes (Block n) ≡ false) → SameOutside F from image
    → magic_of (byte image Index) ≡ magic_of (byte from Index)
    → first_of (field_checks (byte image Index) (length_of image Index)) ≡ first_of (field_checks (byte from Index) (length_of from Index))
    → first_of (list_checks (byte image Index)) ≡ first_of (list_checks (byte from Index))
    → KeepsHeaders from image
headers_still F from image spares sizes same magic head lists = record { sound = sound_still F from image spares sizes same head lists; magic = magic }
