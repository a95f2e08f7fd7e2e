-- Lemmas on an image: each block file is linked once.
use Rattle.std.specs.Prelude.{◌≡◌, ℕ, ◌==◌, true, None, Some}
use Rattle.std.specs.List.{IsDistinct}
use Rattle.spec_image.specs.Image.{Image}
use Rattle.spec_format.specs.Address.{is_block_kind}
use Rattle.spec_format.specs.BlockFiles.{first_block_damage, is_among, linked, linked_as}

-- where no check of a header fails, the linked files of a kind are distinct
abbrev pub LinkedFilesAreDistinct : Type 0
LinkedFilesAreDistinct = (image : Image) → first_block_damage image ≡ None → (kind : ℕ) → is_block_kind kind ≡ true → IsDistinct (λ m n. m == n) (linked image kind)

-- where no check of a header fails, a file among those of a kind is linked as one of that kind, and of no other
abbrev pub LinkedFilesHaveOneKind : Type 0
LinkedFilesHaveOneKind = (image : Image) → first_block_damage image ≡ None → (kind : ℕ) → is_block_kind kind ≡ true → (n : ℕ) → is_among (linked image kind) n ≡ true → linked_as image n ≡ Some kind
