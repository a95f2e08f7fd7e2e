-- The header of a file that is kept.
use Rattle.std.proofs.Common.{◌≡◌, ℕ, ◌+◌, ◌*◌, ◌<◌, ◌≤◌, ◌⊎◌, inl, inr, List, Bool, true, false, ◌||◌, refl, sym, ◌∙◌, subst, arith, ⊎_elim}
use Rattle.std.specs.Option.{ForSome}
use Rattle.spec_image.specs.Image.{Block, Image, length_of}
use Rattle.spec_image.specs.Told.{Told}
use Rattle.spec_format.specs.Address.{is_block_kind}
use Rattle.spec_format.specs.BlockFiles.{is_among}
use Rattle.spec_format.proofs.LinkedHeads.{HasHead, count_whole, linked_checked}
use Rattle.blk_disk.specs.declared.tables.BlockFiles.{BlockFiles}
use Rattle.blk_disk.specs.Tables.{Agrees, all_files, blocks_of, files_of}
use Rattle.blk_disk.proofs.Joined.{among_kinds}
use Rattle.blk_disk.proofs.KeptOnce.{counts}

or_cases : (a b : Bool) → (a || b) ≡ true → (a ≡ true) ⊎ (b ≡ true)
or_cases true b e = inl refl
or_cases false b e = inr e

-- what the header of any file that is kept has
pub all_head : (files : BlockFiles) (image : Image) (n : ℕ) → Agrees files image → is_among (all_files files) n ≡ true → HasHead image n
all_head files image n agrees among =
    ⊎_elim
    (λ three.
    ⊎_elim (λ two. ⊎_elim (of_type 1 refl) (of_type 2 refl) (or_cases (is_among (files_of files 1) n) (is_among (files_of files 2) n) two)) (of_type 3 refl)
    (or_cases (is_among (files_of files 1) n || is_among (files_of files 2) n) (is_among (files_of files 3) n) three))
    (of_type 4 refl)
    (or_cases ((is_among (files_of files 1) n || is_among (files_of files 2) n) || is_among (files_of files 3) n) (is_among (files_of files 4) n) (sym (among_kinds files n) ∙ among))
  where
    of_type : (kind : ℕ) → is_block_kind kind ≡ true → is_among (files_of files kind) n ≡ true → HasHead image n
    of_type kind block_kind there = linked_checked image kind n agrees.undamaged block_kind (subst (λ (l : List ℕ). is_among l n ≡ true) (agrees.links kind block_kind) there)

-- the word of the map that has the marks of a block of a file ends inside the header
pub word_inside : (files : BlockFiles) (n number : ℕ) (told : Told) → ForSome told.files (Agrees files) → is_among (all_files files) n ≡ true → 32 * number < blocks_of files n → ForSome told.files (λ image. 80 + 4 * number + 4 ≤ length_of image (Block n))
word_inside files n number told agrees among below image there =
    let head = (all_head files image n (agrees image there) among).header in
    let most = (count_whole (blocks_of files n) (counts files n among)).1 in
    omega (arith, head, most, below)
