-- The index of a sparse entry and of its parts: each field by its place, and what an index says.
use Rattle.std.specs.Prelude.{ℕ, ℤ, ◌+◌, ◌-◌, ◌*◌, ◌/◌, ◌%◌, ◌^◌, List, length, Bool, not, ◌&&◌, ◌||◌, nat_lt, nat_le, ◌==◌, if◌then◌else◌, None, Some}
use Rattle.std.specs.List.{list_all}
use Rattle.std.specs.Int.{bit_at, cast_signed, w32, w64}
use Rattle.std.specs.declared.option.Option.{Option}
use Rattle.spec_image.specs.Bytes.{content, word_at, long_at, words_at}
use Rattle.spec_format.specs.Headers.{index_magic}
use Rattle.blk_model.specs.Sizes.{blocks_index_charge, longest_key, part_blocks, part_count, parts_index_charge, signatures}

-- the size in bytes of a sparse index before its bitmap
abbrev pub sparse_head_length : ℕ
sparse_head_length = 64

-- the size in bytes of a parent's index, which has a bit for each part
abbrev pub parent_index_length : ℕ
parent_index_length = parts_index_charge

-- the size in bytes of a part's index, which has a bit for each block
abbrev pub part_index_length : ℕ
part_index_length = blocks_index_charge

-- the signature in a sparse index, which is the generation of its object: a signed number
abbrev pub sparse_signature_of : (ℕ → ℕ) → ℤ
sparse_signature_of f = cast_signed w64 (long_at f 0)

-- the magic number in a sparse index
abbrev pub sparse_magic_of : (ℕ → ℕ) → ℕ
sparse_magic_of f = word_at f 8

-- the length of the parent's key, as a sparse index has it
abbrev pub parent_key_len_of : (ℕ → ℕ) → ℕ
parent_key_len_of f = word_at f 12

-- the partial block in a sparse index, a signed number, or -1
abbrev pub last_block_of : (ℕ → ℕ) → ℤ
last_block_of f = cast_signed w32 (word_at f 16)

-- the length of the partial block in a sparse index
abbrev pub last_block_len_of : (ℕ → ℕ) → ℕ
last_block_len_of f = word_at f 20

-- word i of the ten words of a sparse index that are 0
abbrev pub zeros_of : (ℕ → ℕ) → ℕ → ℕ
zeros_of f i = word_at f (24 + 4 * i)

-- bit b of a map that begins at a place
abbrev pub map_bit : (ℕ → ℕ) → ℕ → ℕ → Bool
map_bit f i b = bit_at (f (i + b / 8)) (b % 8) == 1

-- the head of a sparse index is right: the magic is right, the signature is not negative, the ten words are 0, the key has a byte or more, up to the longest
abbrev pub is_index_head : (ℕ → ℕ) → Bool
is_index_head f =
    (sparse_magic_of f == index_magic) && nat_lt (long_at f 0) signatures && list_all (λ v. v == 0) (words_at f 24 10)
    && nat_le 1 (parent_key_len_of f) && nat_le (parent_key_len_of f) longest_key

-- the word that represents -1
abbrev pub minus_one : ℕ
minus_one = 2 ^ 32 - 1

-- a parent's index: the signature, the length of its key, and whether part n may be there
pub record ParentIndex : Type 0 where
  pub signature : ℕ
  pub key_len : ℕ
  pub has_part : ℕ → Bool

-- what some bytes say as the index of a parent, None where they are none
unfoldable pub read_parent_index : List ℕ → Option ParentIndex
read_parent_index bytes =
    let f = content bytes in
    if (length bytes == parent_index_length) && is_index_head f && (word_at f 16 == minus_one) && (last_block_len_of f == 0)
    then Some (record { signature = long_at f 0; key_len = parent_key_len_of f; has_part = λ n. nat_lt n part_count && map_bit f sparse_head_length n })
    else None

-- a part's index: the signature, the length of the parent's key, whether block b is there, and the partial block with its length
pub record PartIndex : Type 0 where
  pub signature : ℕ
  pub key_len : ℕ
  pub present : ℕ → Bool
  pub partial : Option (ℕ × ℕ)

-- the last block of a part
abbrev pub last_block : ℕ
last_block = 1023

-- the longest piece of a partial block
abbrev pub longest_piece : ℕ
longest_piece = 1023

-- the partial block in a part's index is right: -1 with length 0, or 0 to the last with a length of 1 to the longest and the bit of that block 0
abbrev pub is_partial : (ℕ → ℕ) → Bool
is_partial f =
    let block = word_at f 16 in
    let len = last_block_len_of f in
    ((block == minus_one) && (len == 0)) || (nat_le block last_block && nat_le 1 len && nat_le len longest_piece && not (map_bit f sparse_head_length block))

-- what some bytes say as the index of a part, None where they are none
unfoldable pub read_part_index : List ℕ → Option PartIndex
read_part_index bytes =
    let f = content bytes in
    if (length bytes == part_index_length) && is_index_head f && is_partial f
    then Some (record {
      signature = long_at f 0;
      key_len = parent_key_len_of f;
      present = λ b. nat_lt b part_blocks && map_bit f sparse_head_length b;
      partial = if last_block_len_of f == 0 then None else Some (word_at f 16, last_block_len_of f);
    })
    else None
