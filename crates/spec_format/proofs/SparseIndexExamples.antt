-- Worked indexes of sparse entries and of their parts.
use Rattle.std.proofs.Common.{◌≡◌, ℕ, Bool, List, [], ◌∷◌, ◌++◌, refl, true, false, Option, Some, None, is_some}
use Rattle.std.specs.Prelude.{replicate}
use Rattle.std.specs.Option.{option_map}
use Rattle.spec_image.specs.Bytes.{word_bytes, words_at}
use Rattle.spec_format.specs.SparseIndex.{read_parent_index, read_part_index}

-- the bytes before a bitmap: signature 5, the magic, the length of a key, a partial block and its length
abbrev pub head : ℕ → ℕ → ℕ → ℕ → List ℕ
head magic key_len last_block last_block_len = word_bytes 5 ++ word_bytes 0 ++ word_bytes magic ++ word_bytes key_len ++ word_bytes last_block ++ word_bytes last_block_len ++ replicate 40 0

-- a parent's index of a key of 7 bytes, with the parts 0 and 65535
abbrev pub parent_bytes : List ℕ
parent_bytes = head 0xC103CAC3 7 0xFFFFFFFF 0 ++ 1 ∷ replicate 8190 0 ++ 128 ∷ []

-- what a parent's index says: the signature, the length of the key, and whether it may have the parts 0, 1, 65535 and 65536
abbrev pub parent_says : List ℕ → Option (ℕ × ℕ × Bool × Bool × Bool × Bool)
parent_says bytes = option_map (λ index. (index.signature, index.key_len, index.has_part 0, index.has_part 1, index.has_part 65535, index.has_part 65536)) (read_parent_index bytes)

pub parent_index : parent_says parent_bytes ≡ Some (5, 7, true, false, true, false)
unfolding read_parent_index words_at
parent_index = refl

-- no index of a parent: a byte less, another magic, no key, a partial block
pub no_parent_index :
    (is_some (read_parent_index (head 0xC103CAC3 7 0xFFFFFFFF 0 ++ replicate 8191 0)) ≡ false)
    × (is_some (read_parent_index (head 0xC104CAC3 7 0xFFFFFFFF 0 ++ replicate 8192 0)) ≡ false)
    × (is_some (read_parent_index (head 0xC103CAC3 0 0xFFFFFFFF 0 ++ replicate 8192 0)) ≡ false)
    × (is_some (read_parent_index (head 0xC103CAC3 7 0 1 ++ replicate 8192 0)) ≡ false)
unfolding read_parent_index words_at
no_parent_index = (refl, refl, refl, refl)

-- what a part's index says: the signature, the length of its parent's key, whether it has the blocks 0, 1, 1023 and 1024, and the partial block
abbrev pub part_says : List ℕ → Option (ℕ × ℕ × (Bool × Bool × Bool × Bool) × Option (ℕ × ℕ))
part_says bytes = option_map (λ index. (index.signature, index.key_len, (index.present 0, index.present 1, index.present 1023, index.present 1024), index.partial)) (read_part_index bytes)

-- the blocks 0 and 1023, and no partial block
pub part_index : part_says (head 0xC103CAC3 7 0xFFFFFFFF 0 ++ 1 ∷ replicate 126 0 ++ 128 ∷ []) ≡ Some (5, 7, (true, false, true, false), None)
unfolding read_part_index words_at
part_index = refl

-- the block 0, and of block 1 the first 1023 bytes
pub part_index_with_partial_block : part_says (head 0xC103CAC3 7 1 1023 ++ 1 ∷ replicate 127 0) ≡ Some (5, 7, (true, false, false, false), Some (1, 1023))
unfolding read_part_index words_at
part_index_with_partial_block = refl

-- no index of a part: a partial block that is present, of no bytes, of 1024 bytes, or beyond the last; -1 with a length; and a byte more
pub no_part_index :
    (is_some (read_part_index (head 0xC103CAC3 7 0 1023 ++ 1 ∷ replicate 127 0)) ≡ false)
    × (is_some (read_part_index (head 0xC103CAC3 7 1 0 ++ 1 ∷ replicate 127 0)) ≡ false)
    × (is_some (read_part_index (head 0xC103CAC3 7 1 1024 ++ 1 ∷ replicate 127 0)) ≡ false)
    × (is_some (read_part_index (head 0xC103CAC3 7 1024 1 ++ 1 ∷ replicate 127 0)) ≡ false)
    × (is_some (read_part_index (head 0xC103CAC3 7 0xFFFFFFFF 1 ++ 1 ∷ replicate 127 0)) ≡ false)
    × (is_some (read_part_index (head 0xC103CAC3 7 0xFFFFFFFF 0 ++ 1 ∷ replicate 128 0)) ≡ false)
unfolding read_part_index words_at
no_part_index = (refl, refl, refl, refl, refl, refl)
