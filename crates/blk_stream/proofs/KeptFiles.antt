-- A change that spares the block files.
use Rattle.std.proofs.Common.{◌≡◌, ◌≢◌, ℕ, Bool, true, false, List, [], Option, refl, sym, ◌∙◌, ap, subst, arith}
use Rattle.std.specs.Prelude.{◌==◌, ◌&&◌, not, unwrap_or}
use Rattle.std.proofs.lemmas.Bool.Decides.{nat_tests}
use Rattle.spec_image.specs.Bytes.{content}
use Rattle.spec_image.specs.Image.{Block, External, Image}
use Rattle.spec_image.specs.Footprint.{Footprint, SameOutside, whole}
use Rattle.spec_image.proofs.Footprints.{same_file_outside}
use Rattle.spec_format.specs.Address.{kind_of, is_address, external, file_selector}
use Rattle.spec_format.specs.BlockFiles.{kind_among, max_entries_in, stands_in, stands_in_blocks}
use Rattle.spec_format.specs.Claims.{is_in_file}
use Rattle.spec_format.specs.Growth.{KeepsBlocks}
use Rattle.spec_format.specs.Headers.{allocations_of}
use Rattle.spec_format.specs.Maps.{EmptyAgrees, is_block_marked, KeepsFile}
use Rattle.spec_format.specs.Standing.{stands, stands_as_blocks}
use Rattle.spec_format.proofs.SpareHeaders.{SparesHeaders, blocks_same, linked_same}

-- no byte of a block file is touched, and the length and presence of none
pub record SparesBlockFiles (F : Footprint) : Type 0 where
  pub bytes : (n i : ℕ) → F.bytes (Block n) i ≡ false
  pub sizes : (n : ℕ) → F.sizes (Block n) ≡ false

pub external_spares : (number : ℕ) → SparesBlockFiles (whole (External number))
external_spares number = record { bytes = λ n i. refl; sizes = λ n. refl }

pub headers_spared : (F : Footprint) → SparesBlockFiles F → SparesHeaders F
headers_spared F spares = record { bytes = λ n i small. spares.bytes n i }

module _ (F : Footprint) (from image : Image) (spares : SparesBlockFiles F) (same : SameOutside F from image) where
  pub block_file : (n : ℕ) → image (Block n) ≡ from (Block n)
  block_file n = same_file_outside F from image (Block n) same (spares.bytes n) (spares.sizes n)

  pub blocks_alike : (v : ℕ) → stands_in_blocks image v ≡ stands_in_blocks from v
  unfolding kind_among max_entries_in stands_as_blocks
  blocks_alike v =
      let heads = headers_spared F spares in
      λ j. stands_as_blocks (kind_among (λ kind. linked_same F from image heads same kind j)) (λ m. blocks_same F from image heads same m j) (λ m. same.lengths (Block m) (spares.sizes m) j) (λ number. false) v

  stands_alike : (v : ℕ) → kind_of v ≢ external → stands_in image v ≡ stands_in from v
  unfolding stands
  stands_alike v blocky =
      let t : (kind_of v == external) ≡ false = grind (arith, nat_tests) in
      rw t (ap (λ (b : Bool). is_address v && b) (blocks_alike v))

  -- each block that was there still is, with its bytes
  pub blocks_kept : KeepsBlocks from image
  blocks_kept = record {
    stand = λ w stands. blocks_alike w ∙ stands;
    bytes = λ w i stands low high. same.bytes (Block _) i (spares.bytes _ i);
  }

  pub file_kept : (n : ℕ) → KeepsFile from image n
  unfolding EmptyAgrees max_entries_in is_in_file
  file_kept n = record {
    allocations = λ words are. record {
      stand = λ i d within. stands_alike _ (in_blocks _ (are.here i d within)) ∙ are.stand i d within;
      here = are.here;
      apart = are.apart;
      marks = λ b small. ap (λ (o : Option (List ℕ)). is_block_marked (λ file. o) n b) (block_file n) ∙ are.marks b small;
      counted = ap (λ (o : Option (List ℕ)). allocations_of (content (unwrap_or o []))) (block_file n) ∙ are.counted;
    };
    empty = λ was. subst (λ (o : Option (List ℕ)). EmptyAgrees (λ file. o) n) (sym (block_file n)) was;
  }
    where
      in_blocks : (v : ℕ) → is_in_file n v ≡ true → kind_of v ≢ external
      in_blocks v t e = let z : (kind_of v == external) ≡ true = grind (arith, nat_tests) in clashes (kind_of v == external) (file_selector v == n) z t
        where
          clashes : (a b : Bool) → a ≡ true → (not a && b) ≡ true → ⊥
          clashes a b e h = let k : false ≡ true = rw e at h in cc
