-- The laws of covered changes at the whole folder: bytes of its stream, a field of a header and hidden words of the index are written.
use Rattle.std.proofs.Common.{◌≡◌, inl, inr, ℕ, ◌+◌, ◌*◌, [], ◌∷◌, refl, sym, ◌∙◌, arith, lit≤, true, false}
use Rattle.std.specs.Prelude.{◌||◌}
use Rattle.std.proofs.lemmas.Bool.Decides.{nat_tests}
use Rattle.std.proofs.Math.Bool.{and-false}
use Rattle.spec_image.specs.Bytes.{spliced, zeros}
use Rattle.spec_image.specs.Image.{Index, Block, External, Image, same_file}
use Rattle.spec_image.specs.Steps.{Word, applied, with_word}
use Rattle.spec_image.specs.Footprint.{range, whole, either, SameOutside}
use Rattle.spec_image.proofs.Footprints.{outside_write, range_within}
use Rattle.spec_format.specs.Address.{is_address, is_initialized, names_external, names_blocks, kind_of, reserved_bits, block_count, file_selector, first_block, external_number, external, block_size, block_place, place, byte_size}
use Rattle.spec_format.specs.Standing.{stands, stands_as_blocks}
use Rattle.spec_format.specs.Claims.{BlockOf, ExternalOf, same_claim, claims_of, has_claim}
use Rattle.spec_format.specs.BlockFiles.{next_file_in, max_entries_in, files_along, linked, linked_as, kind_among, stands_in}
use Rattle.spec_folder.specs.View.{view_of}
use Rattle.spec_folder.specs.Footprint.{Covers, SameBut, AgreeBut}
use Rattle.law_folder.proofs.claims.ByteChanges.{covered-agrees, views-same, same-links, agreement-goes_on, agreement-more}
use Rattle.law_folder.proofs.claims.Covers.{blocks-covered, externals-covered, headers-covered, hidden-covered, covers-less, covers-more, covers-either}
use Rattle.law_folder.proofs.examples.WholeFolder.{whole_folder}

-- the stream of the entry
abbrev its_stream : ℕ
its_stream = 0xA0010001

stream-stands : stands_in whole_folder its_stream ≡ true
unfolding whole_folder zeros with_word spliced next_file_in max_entries_in linked files_along kind_among stands stands_as_blocks is_address is_initialized names_external names_blocks kind_of reserved_bits block_count file_selector first_block external_number block_size block_place place byte_size
stream-stands = refl

its-place : (kind_of its_stream ≡ 2) × (file_selector its_stream ≡ 1) × (place its_stream ≡ 8448) × (byte_size its_stream ≡ 256)
unfolding kind_of file_selector place byte_size block_place block_size first_block block_count
its-place = (refl, refl, refl, refl)

not-external : kind_of its_stream ≡ external → ⊥
not-external e = let two : 2 ≡ external = sym its-place.0 ∙ e in cc

-- the blocks of the stream are covered by its used blocks
pub stream-is_covered : Covers whole_folder (range (Block (file_selector its_stream)) (place its_stream) (byte_size its_stream)) (has_claim (claims_of its_stream))
stream-is_covered = blocks-covered whole_folder its_stream stream-stands not-external

-- each range of bytes of the stream's blocks is covered by its used blocks
pub part-is_covered : Covers whole_folder (range (Block 1) 8448 2) (has_claim (claims_of its_stream))
unfolding kind_of file_selector place byte_size block_place block_size first_block block_count
part-is_covered = covers-less whole_folder (range (Block 1) 8448 2) (range (Block (file_selector its_stream)) (place its_stream) (byte_size its_stream)) (has_claim (claims_of its_stream)) (range_within (Block 1) 8448 2 8448 256 (lit≤ tt) (lit≤ tt)) stream-is_covered

-- the counter of the allocations of data_1 need not be contained in a footprint
pub counter-needs_no_cover : Covers whole_folder (range (Block 1) 16 4) (λ claim. false)
counter-needs_no_cover = headers-covered whole_folder 1 16 4 (lit≤ tt) (inr (inl (lit≤ tt, lit≤ tt)))

-- the counter of the allocations is covered by the used blocks of the stream too
counter-is_covered : Covers whole_folder (range (Block 1) 16 4) (has_claim (claims_of its_stream))
counter-is_covered = covers-more whole_folder (range (Block 1) 16 4) (λ claim. false) (has_claim (claims_of its_stream)) (λ claim none. absurd (let z : false ≡ true = none in cc)) counter-needs_no_cover

-- the counter and the bytes of the stream are both covered by the used blocks of the stream
pub both-are_covered : Covers whole_folder (either (range (Block 1) 16 4) (range (Block 1) 8448 2)) (has_claim (claims_of its_stream))
both-are_covered = covers-either whole_folder (range (Block 1) 16 4) (range (Block 1) 8448 2) (has_claim (claims_of its_stream)) counter-is_covered part-is_covered

-- an external file is covered by its number
pub external-is_covered : Covers whole_folder (whole (External 7)) (λ claim. same_claim claim (ExternalOf 7))
external-is_covered = externals-covered whole_folder 7

-- the counters of the index need not be contained in a footprint
pub index-needs_no_cover : Covers whole_folder (range Index 8 8) (λ claim. false)
index-needs_no_cover = hidden-covered whole_folder 8 8 (λ i low high. grind (arith, nat_tests))

-- Two bytes of the stream are written, and then one of them again.

abbrev first_write : Image
first_write = applied (Word (Block 1) 8448 (121 ∷ 122 ∷ [])) whole_folder

abbrev second_write : Image
second_write = applied (Word (Block 1) 8449 (120 ∷ [])) first_write

first-outside : SameOutside (range (Block 1) 8448 2) whole_folder first_write
first-outside = outside_write (Block 1) 8448 (121 ∷ 122 ∷ []) whole_folder

-- what is shown changes inside the stream alone
pub first-stays_inside : SameBut (has_claim (claims_of its_stream)) (view_of whole_folder) (view_of first_write)
first-stays_inside = views-same (range (Block 1) 8448 2) whole_folder first_write (has_claim (claims_of its_stream)) first-outside part-is_covered

-- the images agree but there
pub first-agrees : AgreeBut (has_claim (claims_of its_stream)) whole_folder first_write
first-agrees = covered-agrees (range (Block 1) 8448 2) whole_folder first_write (has_claim (claims_of its_stream)) first-outside part-is_covered

-- no link changes
pub first-links_the_same : (n : ℕ) → linked_as first_write n ≡ linked_as whole_folder n
unfolding next_file_in
first-links_the_same = same-links whole_folder first_write (λ n i. first-outside.bytes (Block n) 10 (and-false (same_file (Block 1) (Block n))) i + 256 * first-outside.bytes (Block n) 11 (and-false (same_file (Block 1) (Block n))) i)

-- the second write is covered in the image with the first write made
still-covered : Covers first_write (range (Block 1) 8448 2) (has_claim (claims_of its_stream))
still-covered = record {
  index = part-is_covered.index;
  extents = part-is_covered.extents;
  lengths = part-is_covered.lengths;
  blocks = λ n kind b i linked low high e. part-is_covered.blocks n kind b i (sym (first-links_the_same n) ∙ linked) low high e;
  external_bytes = part-is_covered.external_bytes;
  external_sizes = part-is_covered.external_sizes;
}

second-agrees : AgreeBut (has_claim (claims_of its_stream)) first_write second_write
second-agrees =
    covered-agrees (range (Block 1) 8449 1) first_write second_write (has_claim (claims_of its_stream)) (outside_write (Block 1) 8449 (120 ∷ []) first_write)
    (covers-less first_write (range (Block 1) 8449 1) (range (Block 1) 8448 2) (has_claim (claims_of its_stream)) (range_within (Block 1) 8449 1 8448 2 (lit≤ tt) (lit≤ tt)) still-covered)

-- after both writes the images agree but for the blocks of the stream
pub both-agree : AgreeBut (has_claim (claims_of its_stream)) whole_folder second_write
both-agree = agreement-goes_on (has_claim (claims_of its_stream)) whole_folder first_write second_write first-agrees second-agrees

-- after both writes the images agree but for more blocks
pub more-agree : AgreeBut (λ claim. has_claim (claims_of its_stream) claim || same_claim claim (BlockOf 1 5)) whole_folder second_write
more-agree = agreement-more (has_claim (claims_of its_stream)) (λ claim. has_claim (claims_of its_stream) claim || same_claim claim (BlockOf 1 5)) whole_folder second_write (λ claim h. rw h refl) both-agree
