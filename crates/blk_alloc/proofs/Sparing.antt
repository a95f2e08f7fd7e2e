-- Changes that spare the fields of headers that say what is linked, and all blocks.
use Rattle.std.proofs.Common.{◌≡◌, ℕ, ◌+◌, ◌-◌, ◌*◌, ◌<◌, ◌≤◌, ◌⊎◌, inl, inr, List, Bool, true, false, ◌&&◌, ◌||◌, nat_le, nat_lt, refl, ◌∙◌, ap, arith}
use Rattle.std.proofs.lemmas.Bool.Decides.{nat_tests}
use Rattle.spec_image.specs.Image.{Image, Index, Block, External, byte, length_of, same_file}
use Rattle.spec_image.specs.Footprint.{Footprint, SameOutside, either, size_of}
use Rattle.spec_format.specs.BlockFiles.{linked, kind_among, files_along, next_file_in, max_entries_in, is_block_count, KeepsHeaders}
use Rattle.spec_format.specs.Growth.{HaveGrown}
use Rattle.spec_image.proofs.Footprints.{same_file_outside}
use Rattle.spec_format.proofs.Keeping.{KeepsHead, undamaged_still}
use Rattle.blk_disk.proofs.Enlarging.{kept_headers}
use Rattle.blk_alloc.specs.Changes.{map_of}
use Rattle.blk_alloc.specs.Marking.{hints_of_file}

-- of a header only num_entries and what comes after max_entries is touched, of blocks nothing, and of the index nothing
pub record SparesFields (F : Footprint) : Type 0 where
  pub fields : (m i : ℕ) → (i < 16) ⊎ ((20 ≤ i) × (i < 24)) → F.bytes (Block m) i ≡ false
  pub blocks : (m i : ℕ) → 8192 ≤ i → F.bytes (Block m) i ≡ false
  pub index : (i : ℕ) → F.bytes Index i ≡ false
  pub index_size : F.sizes Index ≡ false
  pub externals : (m i : ℕ) → F.bytes (External m) i ≡ false
  pub external_sizes : (m : ℕ) → F.sizes (External m) ≡ false

pub map_spares : (n : ℕ) → SparesFields (map_of n)
map_spares n = record {
  fields = λ m i field. fields_of i field (same_file (Block n) (Block m));
  blocks = λ m i past. blocks_of i past (same_file (Block n) (Block m));
  index = λ i. refl;
  index_size = refl;
  externals = λ m i. refl;
  external_sizes = λ m. refl;
}
  where
    fields_of : (i : ℕ) → (i < 16) ⊎ ((20 ≤ i) × (i < 24)) → (t : Bool)
        → ((t && (nat_le 16 i && nat_lt i 20)) || ((t && (nat_le 24 i && nat_lt i 40)) || ((t && (nat_le 56 i && nat_lt i 60)) || (t && (nat_le 80 i && nat_lt i 8192))))) ≡ false
    fields_of i field true = grind (arith, nat_tests)
    fields_of i field false = refl

    blocks_of : (i : ℕ) → 8192 ≤ i → (t : Bool)
        → ((t && (nat_le 16 i && nat_lt i 20)) || ((t && (nat_le 24 i && nat_lt i 40)) || ((t && (nat_le 56 i && nat_lt i 60)) || (t && (nat_le 80 i && nat_lt i 8192))))) ≡ false
    blocks_of i past true = grind (arith, nat_tests)
    blocks_of i past false = refl

pub size_spares : (n : ℕ) → SparesFields (size_of (Block n))
size_spares n = record { fields = λ m i field. refl; blocks = λ m i past. refl; index = λ i. refl; index_size = refl; externals = λ m i. refl; external_sizes = λ m. refl }

pub hints_spares : (n : ℕ) → SparesFields (hints_of_file n)
hints_spares n = record {
  fields = λ m i field. fields_of i field (same_file (Block n) (Block m));
  blocks = λ m i past. blocks_of i past (same_file (Block n) (Block m));
  index = λ i. refl;
  index_size = refl;
  externals = λ m i. refl;
  external_sizes = λ m. refl;
}
  where
    fields_of : (i : ℕ) → (i < 16) ⊎ ((20 ≤ i) × (i < 24)) → (t : Bool) → (t && (nat_le 40 i && nat_lt i 56)) ≡ false
    fields_of i field true = grind (arith, nat_tests)
    fields_of i field false = refl

    blocks_of : (i : ℕ) → 8192 ≤ i → (t : Bool) → (t && (nat_le 40 i && nat_lt i 56)) ≡ false
    blocks_of i past true = grind (arith, nat_tests)
    blocks_of i past false = refl

-- what two footprints spare they spare together
pub both_spare : (F G : Footprint) → SparesFields F → SparesFields G → SparesFields (either F G)
both_spare F G a b = record {
  fields = λ m i field. let x = a.fields m i field in let y = b.fields m i field in rw (x, y) refl;
  blocks = λ m i past. let x = a.blocks m i past in let y = b.blocks m i past in rw (x, y) refl;
  index = λ i. let x = a.index i in let y = b.index i in rw (x, y) refl;
  index_size = let x = a.index_size in let y = b.index_size in rw (x, y) refl;
  externals = λ m i. let x = a.externals m i in let y = b.externals m i in rw (x, y) refl;
  external_sizes = λ m. let x = a.external_sizes m in let y = b.external_sizes m in rw (x, y) refl;
}

module _ (F : Footprint) (from image : Image) (spares : SparesFields F) (same : SameOutside F from image) (longer : (m : ℕ) → length_of from (Block m) ≤ length_of image (Block m)) where
  kept : (m i : ℕ) → (i < 16) ⊎ ((20 ≤ i) × (i < 24)) → byte image (Block m) i ≡ byte from (Block m) i
  kept m i field = same.bytes (Block m) i (spares.fields m i field)

  pub next_spared : next_file_in image ≡ next_file_in from
  unfolding next_file_in
  next_spared = λ j m. kept m 10 (inl (omega arith)) j + 256 * kept m 11 (inl (omega arith)) j

  pub blocks_spared : (m : ℕ) → max_entries_in image m ≡ max_entries_in from m
  unfolding max_entries_in
  blocks_spared m = λ j. kept m 20 (inr (omega arith, omega arith)) j + 256 * kept m 21 (inr (omega arith, omega arith)) j + 65536 * kept m 22 (inr (omega arith, omega arith)) j + 16777216 * kept m 23 (inr (omega arith, omega arith)) j

  pub linked_spared : linked image ≡ linked from
  unfolding linked
  linked_spared = λ j kind. files_along (next_spared j) 59 (kind - 1)

  pub heads_spared : (m : ℕ) → KeepsHead from image m
  heads_spared m = record {
    longer = longer m;
    magic = λ j. kept m 0 (inl (omega arith)) j + 256 * kept m 1 (inl (omega arith)) j + 65536 * kept m 2 (inl (omega arith)) j + 16777216 * kept m 3 (inl (omega arith)) j;
    is_version = λ j. kept m 4 (inl (omega arith)) j + 256 * kept m 5 (inl (omega arith)) j + 65536 * kept m 6 (inl (omega arith)) j + 16777216 * kept m 7 (inl (omega arith)) j;
    this_file = λ j. kept m 8 (inl (omega arith)) j + 256 * kept m 9 (inl (omega arith)) j;
    entry_size = λ j. kept m 12 (inl (omega arith)) j + 256 * kept m 13 (inl (omega arith)) j + 65536 * kept m 14 (inl (omega arith)) j + 16777216 * kept m 15 (inl (omega arith)) j;
    count = λ is. ap is_block_count (blocks_spared m) ∙ is;
  }

  -- the headers are kept
  pub headers_stay : KeepsHeaders from image
  headers_stay = kept_headers from image (λ i. same.bytes Index i (spares.index i)) (same.lengths Index spares.index_size) (undamaged_still from image next_spared heads_spared)

  -- files have grown at most
  pub grown_spared : HaveGrown from image
  grown_spared = record {
    index = λ i shown. same.bytes Index i (spares.index i);
    externals = λ m. same_file_outside F from image (External m) same (spares.externals m) (spares.external_sizes m);
    linked = λ m kind at. ap (λ (lists : ℕ → List ℕ). kind_among lists m) linked_spared ∙ at;
    bytes = λ m kind i at past below. same.bytes (Block m) i (spares.blocks m i past);
    longer = λ m kind at. longer m;
    more = λ m kind at. let blocks = blocks_spared m in omega (arith, blocks);
  }
