-- What a change of the map of a file leaves as it was.
use Rattle.std.proofs.Common.{◌≡◌, ◌≢◌, ℕ, ◌+◌, ◌-◌, ◌*◌, ◌<◌, ◌≤◌, ◌⊎◌, inl, inr, List, [], Bool, true, false, ◌&&◌, ◌||◌, nat_le, nat_lt, Option, unwrap_or, refl, sym, ◌∙◌, ap, subst, arith}
use Rattle.std.specs.List.{All}
use Rattle.std.proofs.lemmas.Bool.Decides.{nat_tests}
use Rattle.spec_image.specs.Bytes.{content}
use Rattle.spec_image.specs.Image.{Image, Index, Block, External, same_file, byte}
use Rattle.spec_image.specs.Footprint.{SameOutside}
use Rattle.spec_image.proofs.Footprints.{same_file_outside}
use Rattle.spec_format.specs.Headers.{allocations_of}
use Rattle.spec_format.specs.Standing.{stands}
use Rattle.spec_format.specs.BlockFiles.{linked, kind_among, files_along, next_file_in, max_entries_in, is_block_count, stands_in, KeepsHeaders}
use Rattle.spec_format.specs.Maps.{is_block_marked, EmptyAgrees, KeepsFile}
use Rattle.blk_disk.specs.declared.tables.BlockFiles.{BlockFiles}
use Rattle.blk_disk.specs.Tables.{Agrees}
use Rattle.spec_format.proofs.SpareHeaders.{other_file}
use Rattle.spec_format.proofs.Keeping.{KeepsHead, undamaged_still}
use Rattle.blk_disk.proofs.Enlarging.{kept_headers}
use Rattle.blk_alloc.specs.Changes.{map_of}

module _ (n : ℕ) (from image : Image) (same : SameOutside (map_of n) from image) where
  spared : (m i : ℕ) → (i < 16) ⊎ ((20 ≤ i) × (i < 24)) → (map_of n).bytes (Block m) i ≡ false
  spared m i field = by_test (same_file (Block n) (Block m))
    where
      by_test : (t : Bool) → ((t && (nat_le 16 i && nat_lt i 20)) || ((t && (nat_le 24 i && nat_lt i 40)) || ((t && (nat_le 56 i && nat_lt i 60)) || (t && (nat_le 80 i && nat_lt i 8192))))) ≡ false
      by_test true = grind (arith, nat_tests)
      by_test false = refl

  kept : (m i : ℕ) → (i < 16) ⊎ ((20 ≤ i) × (i < 24)) → byte image (Block m) i ≡ byte from (Block m) i
  kept m i field = same.bytes (Block m) i (spared m i field)

  pub next_kept : next_file_in image ≡ next_file_in from
  unfolding next_file_in
  next_kept = λ j m. kept m 10 (inl (omega arith)) j + 256 * kept m 11 (inl (omega arith)) j

  pub blocks_kept : (m : ℕ) → max_entries_in image m ≡ max_entries_in from m
  unfolding max_entries_in
  blocks_kept m = λ j. kept m 20 (inr (omega arith, omega arith)) j + 256 * kept m 21 (inr (omega arith, omega arith)) j + 65536 * kept m 22 (inr (omega arith, omega arith)) j + 16777216 * kept m 23 (inr (omega arith, omega arith)) j

  pub linked_kept : (kind : ℕ) → linked image kind ≡ linked from kind
  unfolding linked
  linked_kept kind = ap (λ (next : ℕ → ℕ). files_along next 59 (kind - 1)) next_kept

  heads_kept : (m : ℕ) → KeepsHead from image m
  heads_kept m = record {
    longer = let e = same.lengths (Block m) refl in omega (arith, e);
    magic = λ j. kept m 0 (inl (omega arith)) j + 256 * kept m 1 (inl (omega arith)) j + 65536 * kept m 2 (inl (omega arith)) j + 16777216 * kept m 3 (inl (omega arith)) j;
    is_version = λ j. kept m 4 (inl (omega arith)) j + 256 * kept m 5 (inl (omega arith)) j + 65536 * kept m 6 (inl (omega arith)) j + 16777216 * kept m 7 (inl (omega arith)) j;
    this_file = λ j. kept m 8 (inl (omega arith)) j + 256 * kept m 9 (inl (omega arith)) j;
    entry_size = λ j. kept m 12 (inl (omega arith)) j + 256 * kept m 13 (inl (omega arith)) j + 65536 * kept m 14 (inl (omega arith)) j + 16777216 * kept m 15 (inl (omega arith)) j;
    count = λ is. ap is_block_count (blocks_kept m) ∙ is;
  }

  pub headers_kept : KeepsHeaders from image
  headers_kept = kept_headers from image (λ i. same.bytes Index i refl) (same.lengths Index refl) (undamaged_still from image next_kept heads_kept)

  pub agrees_kept : (files : BlockFiles) → Agrees files from → Agrees files image
  agrees_kept files agrees = record {
    links = λ kind holds. agrees.links kind holds ∙ sym (linked_kept kind);
    blocks = λ m among. agrees.blocks m among ∙ sym (blocks_kept m);
    lengths = λ m among. agrees.lengths m among ∙ sym (same.lengths (Block m) refl);
    undamaged = undamaged_still from image next_kept heads_kept agrees.undamaged;
  }

  pub stands_kept : stands_in image ≡ stands_in from
  stands_kept = λ j w. stands (λ m. kind_among (λ kind. linked_kept kind j) m) (λ m. blocks_kept m j) (λ m. same.lengths (Block m) refl j) (λ m. same.files (External m) refl j) w

  -- another file is as it was
  pub other_kept : (m : ℕ) → m ≢ n → image (Block m) ≡ from (Block m)
  other_kept m differs = same_file_outside (map_of n) from image (Block m) same (λ i. let e : same_file (Block n) (Block m) ≡ false = other_file n m differs in rw e refl) refl

  pub file_kept : (m : ℕ) → m ≢ n → KeepsFile from image m
  unfolding EmptyAgrees max_entries_in
  file_kept m differs = record {
    allocations = λ words are. record {
      stand = subst (λ (f : ℕ → Bool). All (λ w. f w ≡ true) words) (sym stands_kept) are.stand;
      here = are.here;
      apart = are.apart;
      marks = λ b small. ap (λ (o : Option (List ℕ)). is_block_marked (λ file. o) m b) (other_kept m differs) ∙ are.marks b small;
      counted = ap (λ (o : Option (List ℕ)). allocations_of (content (unwrap_or o []))) (other_kept m differs) ∙ are.counted;
    };
    empty = λ was. subst (λ (o : Option (List ℕ)). EmptyAgrees (λ file. o) m) (sym (other_kept m differs)) was;
  }
