-- Changes that keep maps and counters: of data, and of the words of a record.
use Rattle.std.proofs.Common.{◌≡◌, ◌≢◌, inl, inr, ⊎_elim, ℕ, ◌+◌, ◌/◌, ◌<◌, ◌≤◌, Bool, true, false, if◌then◌else◌, List, [], ◌∷◌, refl, sym, ◌∙◌, subst, arith}
use Rattle.std.specs.Prelude.{◌==◌}
use Rattle.std.proofs.lemmas.Bool.{cases_Bool, eqb-true}
use Rattle.std.proofs.lemmas.Bool.Decides.{nat_tests}
use Rattle.spec_image.specs.Image.{Block, External, Image, byte}
use Rattle.spec_image.specs.Footprint.{Footprint, SameOutside, nothing, range, whole}
use Rattle.spec_image.proofs.Words.{same-word_at}
use Rattle.spec_format.specs.Address.{byte_size, external, external_number, file_selector, kind_of, place}
use Rattle.spec_format.specs.BlockFiles.{max_entries_in, most_blocks}
use Rattle.spec_format.specs.Headers.{updating_of}
use Rattle.spec_format.specs.Maps.{AreAllocations, EmptyAgrees, is_block_marked}
use Rattle.spec_format.proofs.SpareHeaders.{SparesHeaders, blocks_same, blocks_spare}
use Rattle.blk_disk.specs.declared.tables.BlockFiles.{BlockFiles}
use Rattle.blk_alloc.specs.Laws.{SparesHeadersAndSizes}
use Rattle.blk_alloc.proofs.Spared.{allocations_kept, empty_kept, marks_kept}
use Rattle.blk_alloc.proofs.Widening.{mark_kept}
use Rattle.blk_stream.specs.Inside.{data_of}
use Rattle.blk_stream.specs.Moving.{data_at_place}
use Rattle.blk_stream.specs.Placing.{GainsPlace, gained_by}
use Rattle.blk_stream.proofs.InsideSteps.{data_blocks, data_external}
use Rattle.blk_stream.proofs.KeptFiles.{SparesBlockFiles, external_spares, file_kept, headers_spared}

-- marks, allocations and counters of each file are as before
pub record KeepsMaps (from image : Image) : Type 0 where
  pub marks : (n b : ℕ) → b < most_blocks → is_block_marked image n b ≡ is_block_marked from n b
  pub allocations : (n : ℕ) (words : List ℕ) → AreAllocations from n words → AreAllocations image n words
  pub empty : (n : ℕ) → max_entries_in from n ≤ most_blocks → EmptyAgrees from n → EmptyAgrees image n
  pub updating : (n : ℕ) → updating_of (byte image (Block n)) ≡ updating_of (byte from (Block n))
  pub blocks : (n : ℕ) → max_entries_in image n ≡ max_entries_in from n

updating_kept : (F : Footprint) (from image : Image) → SparesHeaders F → SameOutside F from image → (n : ℕ) → updating_of (byte image (Block n)) ≡ updating_of (byte from (Block n))
updating_kept F from image spares same n =
    let here : (i : ℕ) → i < 8192 → byte image (Block n) i ≡ byte from (Block n) i = λ i small. same.bytes (Block n) i (spares.bytes n i small) in
    same-word_at (byte image (Block n)) (byte from (Block n)) 56 (here 56 (omega arith)) (here 57 (omega arith)) (here 58 (omega arith)) (here 59 (omega arith))

pub spared_maps : (F : Footprint) (from image : Image) → SparesHeadersAndSizes F → SameOutside F from image → KeepsMaps from image
spared_maps F from image spares same =
    let headers : SparesHeaders F = record { bytes = spares.headers } in
    record {
      marks = λ n b small. marks_kept F from image spares same n b small;
      allocations = λ n words are. allocations_kept F from image spares same n words are;
      empty = λ n few was. empty_kept F from image spares same n few was;
      updating = λ n. updating_kept F from image headers same n;
      blocks = λ n. blocks_same F from image headers same n;
    }

pub file_maps : (F : Footprint) (from image : Image) → SparesBlockFiles F → SameOutside F from image → KeepsMaps from image
file_maps F from image spares same =
    let headers = headers_spared F spares in
    record {
      marks = λ n b small. mark_kept from image n b (same.bytes (Block n) (80 + b / 8) (spares.bytes n (80 + b / 8)));
      allocations = λ n words are. (file_kept F from image spares same n).allocations words are;
      empty = λ n few was. (file_kept F from image spares same n).empty was;
      updating = λ n. updating_kept F from image headers same n;
      blocks = λ n. blocks_same F from image headers same n;
    }

-- Of data.

pub blocks_spared : (w : ℕ) → SparesHeadersAndSizes (range (Block (file_selector w)) (place w) (byte_size w))
blocks_spared w = record {
  headers = subst (λ (p : ℕ). (n i : ℕ) → i < 8192 → (range (Block (file_selector w)) p (byte_size w)).bytes (Block n) i ≡ false) (let h : place w + 0 ≡ place w = omega arith in h) (blocks_spare (Block (file_selector w)) w 0 (byte_size w)).bytes;
  sizes = λ file. refl;
}

pub data_keeps_maps : (w : ℕ) (from image : Image) → SameOutside (data_of w) from image → KeepsMaps from image
data_keeps_maps w from image same = ⊎_elim
    (λ (t : (kind_of w == external) ≡ true).
    file_maps (whole (External (external_number w))) from image (external_spares (external_number w)) (subst (λ (F : Footprint). SameOutside F from image) (data_external w (eqb-true (kind_of w) external t)) same))
    (λ (t : (kind_of w == external) ≡ false).
    let blocky : kind_of w ≢ external = λ e. clash (sym (let z : (kind_of w == external) ≡ true = grind (arith, nat_tests) in z) ∙ t) in
    spared_maps (range (Block (file_selector w)) (place w) (byte_size w)) from image (blocks_spared w) (subst (λ (F : Footprint). SameOutside F from image) (data_blocks w blocky) same))
    (cases_Bool (kind_of w == external))
  where
    clash : true ≡ false → ⊥
    clash e = cc

nothing_spares : SparesBlockFiles nothing
nothing_spares = record { bytes = λ n i. refl; sizes = λ n. refl }

pub place_keeps_maps : (w : ℕ) (from image : Image) → SameOutside (data_at_place w) from image → KeepsMaps from image
unfolding data_at_place
place_keeps_maps w from image same = by_test (w == 0) same
  where
    by_test : (t : Bool) → SameOutside (if t then nothing else data_of w) from image → KeepsMaps from image
    by_test true h = file_maps nothing from image nothing_spares h
    by_test false h = data_keeps_maps w from image h

-- What was gained is kept.
pub gains_still : (files : BlockFiles) (w : ℕ) (from made image : Image) → KeepsMaps made image → GainsPlace files w from made → GainsPlace files w from image
gains_still files w from made image kept gains = record {
  marks = λ n b among small. kept.marks n b small ∙ gains.marks n b among small;
  allocations = λ n words among are. kept.allocations n (gained_by w n words) (gains.allocations n words among are);
  fresh = λ n none t. kept.allocations n (w ∷ []) (gains.fresh n none t);
  empty = λ n among was. kept.empty n (gains.most n (inl among)) (gains.empty n among was);
  counted = λ n t. kept.empty n (gains.most n (inr t)) (gains.counted n t);
  updating = λ n t. kept.updating n ∙ gains.updating n t;
  most = λ n known. let most = gains.most n known in let same = kept.blocks n in omega (arith, most, same);
}
