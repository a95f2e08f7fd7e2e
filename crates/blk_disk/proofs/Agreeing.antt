-- The table of block files goes on agreeing with the folder, where no header and no length changes.
use Rattle.std.proofs.Common.{◌≡◌, ℕ, ◌≤◌, true, false, List, refl, sym, ⊎_elim, ◌∙◌, ap, subst, arith}
use Rattle.spec_image.specs.Image.{Block, Image, length_of}
use Rattle.spec_image.specs.Footprint.{Footprint, SameOutside, size_of}
use Rattle.spec_image.specs.Steps.{applied, SetLength}
use Rattle.spec_image.proofs.Images.{length-after_set_len}
use Rattle.spec_image.proofs.Footprints.{outside_longer}
use Rattle.std.proofs.lemmas.Bool.{cases_eq}
use Rattle.spec_format.specs.BlockFiles.{is_among}
use Rattle.spec_format.proofs.Keeping.{undamaged_still}
use Rattle.spec_format.proofs.SpareHeaders.{SparesHeaders, next_same, blocks_same, linked_same, heads_still, other_file, sizes_spare}
use Rattle.std.specs.Option.{ForSome}
use Rattle.std.specs.Prelude.{Ok}
use Rattle.spec_image.specs.Told.{Told}
use Rattle.blk_disk.specs.Loading.{LoadsAs}
use Rattle.blk_disk.specs.declared.tables.BlockFiles.{BlockFiles}
use Rattle.blk_disk.specs.Tables.{Agrees, Resizes, all_files, length_in}

module _ (F : Footprint) (a b : Image) (spares : SparesHeaders F) (same : SameOutside F a b) where
  pub agrees_still : (files : BlockFiles) → ((n : ℕ) → F.sizes (Block n) ≡ false) → Agrees files a → Agrees files b
  agrees_still files sizes agrees = record {
    links = λ kind holds. agrees.links kind holds ∙ sym (linked_same F a b spares same kind);
    blocks = λ n among. agrees.blocks n among ∙ sym (blocks_same F a b spares same n);
    lengths = λ n among. agrees.lengths n among ∙ sym (same.lengths (Block n) (sizes n));
    undamaged = undamaged_still a b (next_same F a b spares same) (heads_still F a b spares same (λ m. let e = same.lengths (Block m) (sizes m) in omega (arith, e))) agrees.undamaged;
  }

-- a file that gets longer, where its new length is kept
pub agrees_longer : (old new : BlockFiles) (image : Image) (n size : ℕ) → length_of image (Block n) ≤ size → Resizes old new n size → Agrees old image → Agrees new (applied (SetLength (Block n) size) image)
agrees_longer old new image n size longer resizes agrees = record {
  links = λ kind holds. resizes.files kind ∙ agrees.links kind holds ∙ sym (linked_same (size_of (Block n)) image (applied (SetLength (Block n) size) image) (sizes_spare (Block n)) same kind);
  blocks = λ m among. resizes.blocks m ∙ agrees.blocks m (before m among) ∙ sym (blocks_same (size_of (Block n)) image (applied (SetLength (Block n) size) image) (sizes_spare (Block n)) same m);
  lengths =
      λ m among. ⊎_elim (λ e. ap (length_in new) e ∙ resizes.size_there ∙ sym (length-after_set_len image (Block n) size) ∙ ap (λ (k : ℕ). length_of (applied (SetLength (Block n) size) image) (Block k)) (sym e))
      (λ differs. resizes.other_lengths m differs ∙ agrees.lengths m (before m among) ∙ sym (same.lengths (Block m) (other_file n m differs))) (cases_eq m n);
  undamaged =
      undamaged_still image (applied (SetLength (Block n) size) image) (next_same (size_of (Block n)) image (applied (SetLength (Block n) size) image) (sizes_spare (Block n)) same)
      (heads_still (size_of (Block n)) image (applied (SetLength (Block n) size) image) (sizes_spare (Block n)) same long) agrees.undamaged;
}
  where
    same : SameOutside (size_of (Block n)) image (applied (SetLength (Block n) size) image)
    same = outside_longer (Block n) size image longer

    long : (m : ℕ) → length_of image (Block m) ≤ length_of (applied (SetLength (Block n) size) image) (Block m)
    long m =
        ⊎_elim (λ e. let at = length-after_set_len image (Block n) size in subst (λ (k : ℕ). length_of image (Block k) ≤ length_of (applied (SetLength (Block n) size) image) (Block k)) (sym e) (omega (arith, longer, at)))
        (λ differs. let e = same.lengths (Block m) (other_file n m differs) in omega (arith, e)) (cases_eq m n)

    before : (m : ℕ) → is_among (all_files new) m ≡ true → is_among (all_files old) m ≡ true
    before m among = ap (λ (l : List ℕ). is_among l m) (sym resizes.all) ∙ among

-- a length that stays
pub resizes_none : (files : BlockFiles) (n size : ℕ) → length_in files n ≡ size → Resizes files files n size
resizes_none files n size e = record { files = λ kind. refl; all = refl; blocks = λ m. refl; size_there = e; other_lengths = λ other differs. refl }

-- the files that were loaded agree with the folder
pub loaded_agrees : (files : BlockFiles) (a b : Told) → b ≡ a → ForSome a.files (LoadsAs (Ok files)) → ForSome b.files (Agrees files)
loaded_agrees files a b stays loaded image there = let both = loaded image (ap (λ (t : Told). t.files) (sym stays) ∙ there) in both.0
