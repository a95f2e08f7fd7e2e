-- A word that was read and names no node.
use Rattle.std.proofs.Common.{w32, length, arith, ◌≡◌, ℕ, ◌+◌, List, Option, None, Some, refl, ap, ◌∙◌}
use Rattle.std.specs.Option.{ForSome}
use Rattle.spec_image.specs.Bytes.{range_at}
use Rattle.spec_image.specs.Image.{Block, Image, byte}
use Rattle.std.specs.Int.{from_le_bytes}
use Rattle.std.proofs.lemmas.List.{take_all}
use Rattle.spec_image.proofs.Words.{word-from_bytes, length-range}
use Rattle.spec_format.specs.Address.{file_selector, place}
use Rattle.blk_lru.specs.Nodes.{link_at}

-- the word of four bytes that were read
pub read_link : (image : Image) (node at : ℕ) (bytes : List ℕ) (found : ℕ) → bytes ≡ range_at (byte image (Block (file_selector node))) (place node + at) 4 → found ≡ from_le_bytes w32 bytes → found ≡ link_at image node at
read_link image node at bytes found read is =
    let f = byte image (Block (file_selector node)) in
    let size : length bytes ≡ 4 = ap length read ∙ length-range 4 (place node + at) f in
    is ∙ word-from_bytes bytes (place node + at) f (take_all 4 bytes (omega arith) ∙ read)

-- an observable folder gives no such word
pub dangling_untold : (files : Option Image) (P : Image → Type 0) → ((image : Image) → files ≡ Some image → P image → ⊥) → ForSome files P → files ≡ None
dangling_untold None P never holds = refl
dangling_untold (Some image) P never holds = absurd (never image refl (holds image refl))
