-- The counter of empty groups, as it is read and increased.
use Rattle.std.proofs.Common.{◌≡◌, ℕ, ◌+◌, ◌*◌, ◌%◌, ◌<◌, ◌≤◌, List, refl, sym, ◌∙◌, ap, arith, get_or-take}
use Rattle.spec_image.specs.Bytes.{content, zeros, word_at}
use Rattle.spec_image.specs.Image.{Block, Image, byte, length_of}
use Rattle.spec_image.specs.Told.{GivesBytes}
use Rattle.spec_image.proofs.Splices.{length-zeros}
use Rattle.spec_image.proofs.Words.{content-range}
use Rattle.blk_disk.specs.Growth.{raised}

module _ (image : Image) (n : ℕ) (new : List ℕ) (given : ℕ) (gives : GivesBytes image (Block n) 36 (zeros 4) new given) (inside : 40 ≤ length_of image (Block n)) where
  all_given : given ≡ 4
  all_given = let many = gives.many in omega (arith, many, length-zeros 4, inside)

  byte_given : (k : ℕ) → k < 4 → content new k ≡ byte image (Block n) (36 + k)
  byte_given k small =
      let below : k < given = omega (arith, all_given) in
      sym (get_or-take given new k 0 below) ∙ ap (λ (l : List ℕ). content l k) gives.front ∙ content-range given 36 (byte image (Block n)) k (36 + k) below refl

  -- four bytes that were given are the word of the counter, and it rises by so many
  pub raised_is : (w groups : ℕ) → w ≡ content new 0 + content new 1 * 256 + content new 2 * 65536 + content new 3 * 16777216 → (w + groups) % 4294967296 ≡ raised image n groups
  raised_is w groups is =
      let same : w ≡ word_at (byte image (Block n)) 36 = omega (arith, is, byte_given 0 (omega arith), byte_given 1 (omega arith), byte_given 2 (omega arith), byte_given 3 (omega arith)) in
      ap (λ (x : ℕ). (x + groups) % 4294967296) same
