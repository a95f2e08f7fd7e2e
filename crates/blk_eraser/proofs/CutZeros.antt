-- Zeros after the end of a stream lie in blocks of an object that may change, and no shown data reaches them.
use Rattle.std.proofs.Common.{◌≡◌, ℕ, ◌+◌, ◌-◌, ◌<◌, ◌≤◌, Bool, true, false, ◌&&◌, nat_le, nat_lt, refl, ap, arith}
use Rattle.std.specs.Prelude.{◌≢◌, ◌==◌}
use Rattle.std.proofs.lemmas.Bool.{ne_eqb}
use Rattle.std.proofs.lemmas.Bool.Decides.{nat_tests}
use Rattle.spec_image.specs.Bytes.{range_at, zeros}
use Rattle.spec_image.specs.Footprint.{Footprint, SameOutside, range}
use Rattle.spec_image.specs.Image.{Block, Image, same_file}
use Rattle.spec_image.specs.Told.{Along}
use Rattle.spec_image.proofs.Footprints.{outside_steps, words_within}
use Rattle.spec_image.proofs.Runs.{until_weaker2}
use Rattle.spec_image.proofs.Splices.{length-zeros}
use Rattle.spec_image.proofs.Words.{same-range}
use Rattle.spec_format.specs.Address.{byte_size, external, file_selector, kind_of, place}
use Rattle.spec_format.specs.BlockFiles.{stands_in}
use Rattle.spec_format.specs.Claims.{Claim, claims_of, has_claim}
use Rattle.blk_model.specs.Holding.{rest}
use Rattle.blk_model.specs.Items.{main}
use Rattle.spec_folder.specs.View.{block_bytes, store_of, stored_at}
use Rattle.law_folder.proofs.claims.Inside.{writes-inside}
use Rattle.law_state.specs.Changes.{ChangesOnly, Finds}
use Rattle.law_state.proofs.Links.{data-inside}
use Rattle.law_state.proofs.Objects.{doomed-find, unsettled-find}
use Rattle.law_state.proofs.Writes.{block-writes}
use Rattle.blk_eraser.specs.Cuts.{AreBlocksInHand, BytesAfterTheEndAreNotShown, CutZerosFindTheSame, DoomedCutZerosFindTheSame, zeros_after_end}

-- At each of the zeros.

module _ (from image : Image) (w size : ℕ) (hand : AreBlocksInHand from image w) (inside : size ≤ byte_size w) where
  abbrev blocks : Footprint
  blocks = range (Block (file_selector w)) (place w) (byte_size w)

  within : Along (SameOutside blocks from) image (zeros_after_end w size)
  within =
      outside_steps blocks (zeros_after_end w size) from image
      (words_within (Block (file_selector w)) (place w + size) (place w) (byte_size w) (zeros (byte_size w - size)) (omega arith) (omega (arith, length-zeros (byte_size w - size), inside)))
      hand.same

  only : (now : Image) → SameOutside blocks from now → ChangesOnly (has_claim (claims_of w)) from now
  only now same = block-writes from now w (place w) (byte_size w) hand.stands hand.block_kind (omega arith) (omega arith) same

pub cut_zeros : CutZerosFindTheSame
cut_zeros state layout unlinked from image w size k of hand inside =
    let P : Image → Type 0 = SameOutside (blocks from image w size hand inside) from in
    let Q : Image → Type 0 = Finds (rest state) in
    let touched : Claim → Bool = has_claim (claims_of w) in
    let finds : (now : Image) → P now → Q now =
    λ now same. let change = only from image w size hand inside now same in
    unsettled-find touched state layout unlinked from now of.number of.object (main of.key) of.loaded k change of.here of.has of.unsettled of.lies
    (data-inside touched layout from now (layout.place (main of.key)) of.loaded change of.own of.node_apart of.record_apart) tt in
    until_weaker2 P Q P Q (zeros_after_end w size) image finds finds (within from image w size hand inside)

pub doomed_cut_zeros : DoomedCutZerosFindTheSame
doomed_cut_zeros state layout unlinked from image w size number object k here dead own hand inside =
    let P : Image → Type 0 = SameOutside (blocks from image w size hand inside) from in
    let Q : Image → Type 0 = Finds (rest state) in
    let finds : (now : Image) → P now → Q now =
    λ now same. doomed-find (has_claim (claims_of w)) state layout unlinked from now number object k (only from image w size hand inside now same) here dead own in
    until_weaker2 P Q P Q (zeros_after_end w size) image finds finds (within from image w size hand inside)

-- Data up to the end.

before_end : (t : Bool) (start count i : ℕ) → i < start → (t && (nat_le start i && nat_lt i (start + count))) ≡ false
before_end true start count i below =
    let past : nat_le start i ≡ false = grind (arith, nat_tests) in
    ap (λ (s : Bool). s && nat_lt i (start + count)) past
before_end false start count i below = refl

stored_alike : (from image : Image) (w n : ℕ) → kind_of w ≢ external → stands_in image w ≡ stands_in from w → range_at (block_bytes image w) (place w) n ≡ range_at (block_bytes from w) (place w) n
    → stored_at image n w ≡ stored_at from n w
unfolding stored_at
stored_alike from image w n block_kind stands bytes =
    let kind : (kind_of w == external) ≡ false = ne_eqb (kind_of w) external block_kind in
    rw (stands, kind, bytes) refl

-- what a store view shows of data
shown_alike : (from image : Image) (w n : ℕ) → stored_at image n w ≡ stored_at from n w → (store_of image).stored n w ≡ (store_of from).stored n w
unfolding store_of
shown_alike from image w n e = e

pub not_shown : BytesAfterTheEndAreNotShown
not_shown w size from image d =
    let change = writes-inside from image w (place w + size) (byte_size w - size) d.stands d.block_kind (omega arith) (let i = d.inside in omega (arith, i)) d.same in
    let bytes : (n : ℕ) → n ≤ size → range_at (block_bytes image w) (place w) n ≡ range_at (block_bytes from w) (place w) n =
    λ n few. same-range n (place w) (block_bytes image w) (block_bytes from w)
    (λ k low high. d.same.bytes (Block (file_selector w)) k (before_end (same_file (Block (file_selector w)) (Block (file_selector w))) (place w + size) (byte_size w - size) k (omega (arith, few, high)))) in
    (λ n few. shown_alike from image w n (stored_alike from image w n d.block_kind (change.stands w) (bytes n few)), change.shown)
