-- What a record says: its key, its streams, and what its flags make it.
use Rattle.std.specs.Prelude.{ℕ, zero, suc, ◌+◌, ◌*◌, List, [], ◌∷◌, length, take, Bool, true, not, ◌&&◌, ◌||◌, nat_lt, nat_le, ◌==◌, if◌then◌else◌}
use Rattle.std.specs.Option.{option_map_or, option_and_then, option_map}
use Rattle.std.specs.List.{list_all, range_with_len}
use Rattle.std.specs.declared.option.Option.{Option}
use Rattle.std.specs.declared.option.Option.TheVariants.{None, Some}
use Rattle.spec_format.specs.Address.{block_count}
use Rattle.spec_format.specs.Storage.{entry_blocks, longest_short_key}
use Rattle.spec_format.specs.Records.{parent, child}
use Rattle.spec_format.specs.Names.{Name, longest_name, read_name}
use Rattle.spec_format.specs.SparseIndex.{ParentIndex, read_parent_index, PartIndex, read_part_index}
use Rattle.spec_folder.specs.View.{StoreView, RecordFields, data_size_of, address_of}
use Rattle.blk_model.specs.Sizes.{longest_key, most_stream, part_size, part_block_size, part_blocks}

-- what the flags and the streams of a record make it: a plain entry, the parent of an index, or a part with its name and index
pub data Role : Type 0 where
  IsPlain : Role
  IsParent : ParentIndex → Role
  IsPart : Name → PartIndex → Role

-- the longest key of a record; a part's key is a name
abbrev pub longest_key_with : RecordFields → ℕ
longest_key_with fields = if fields.flags == child then longest_name else longest_key

-- the most bytes of a stream
abbrev pub most_stream_bytes : ℕ
most_stream_bytes = most_stream

-- the length of the key is right, and so is the number of blocks of the record's address
unfoldable pub is_key_length : ℕ → RecordFields → Bool
is_key_length contents fields =
    nat_le 1 fields.key_len && nat_le fields.key_len (longest_key_with fields) && (block_count contents == entry_blocks fields.key_len)

-- the key of a record: in its place in the record, or stored elsewhere with one zero byte after it; None where its address is wrong for its length
unfoldable pub stored_key : StoreView → ℕ → RecordFields → Option (List ℕ)
stored_key store contents fields =
    if nat_le fields.key_len longest_short_key
    then (if fields.long_key == 0 then Some (store.key_place contents fields.key_len) else None)
    else option_map (take fields.key_len) (store.stored (fields.key_len + 1) fields.long_key)

-- the bytes of stream i of a record, None where they are too many or its address is wrong
unfoldable pub stored_stream : StoreView → RecordFields → ℕ → Option (List ℕ)
stored_stream store fields i = if nat_le (data_size_of fields i) most_stream_bytes then store.stored (data_size_of fields i) (address_of fields i) else None

-- the three streams of a record, None where one of them is wrong or stream 3 isn't 0
unfoldable pub stored_streams : StoreView → RecordFields → Option (List (List ℕ))
stored_streams store fields =
    if not ((data_size_of fields 3 == 0) && (address_of fields 3 == 0)) then None else
    option_and_then
    (λ first. option_and_then (λ second. option_map (λ third. first ∷ second ∷ third ∷ []) (stored_stream store fields 2)) (stored_stream store fields 1))
    (stored_stream store fields 0)

-- stream i of a list of streams, an empty one past its end
abbrev pub stream : ℕ → List (List ℕ) → List ℕ
stream i [] = []
stream zero (bytes ∷ streams) = bytes
stream (suc i) (bytes ∷ streams) = stream i streams

-- each byte that an index has as present lies inside data of a size
unfoldable pub is_covered : PartIndex → ℕ → Bool
is_covered index size =
    list_all (λ b. not (index.present b) || nat_le (part_block_size * (b + 1)) size) (range_with_len 0 part_blocks)
    && option_map_or (λ p. nat_le (part_block_size * p.0 + p.1) size) index.partial true

-- the role of a record with a parent's flag: nothing in stream 1, and in stream 2 an index with the length of its key; None where it is otherwise
unfoldable pub parent_role : RecordFields → List (List ℕ) → Option Role
parent_role fields streams =
    if not (length (stream 1 streams) == 0) then None else
    option_and_then (λ index. if index.key_len == fields.key_len then Some (IsParent index) else None) (read_parent_index (stream 2 streams))

-- the role of a record with a part's flag: a name as its key, nothing in stream 0, at most the size of a part in stream 1, and in stream 2 an index with the
-- name's generation and key length, whose present bytes lie inside the data; None where it is otherwise
unfoldable pub part_role : List ℕ → List (List ℕ) → Option Role
part_role key streams =
    if not (length (stream 0 streams) == 0) then None else
    if nat_lt part_size (length (stream 1 streams)) then None else
    option_and_then (λ name. option_and_then (λ index.
    if (index.signature == name.signature) && (index.key_len == length name.key) && is_covered index (length (stream 1 streams)) then Some (IsPart name index) else None)
    (read_part_index (stream 2 streams))) (read_name key)

-- the role that a record's flags give it, None where its key and streams don't fit
unfoldable pub role_of : RecordFields → List ℕ → List (List ℕ) → Option Role
role_of fields key streams =
    if fields.flags == parent then parent_role fields streams else
    if fields.flags == child then part_role key streams else
    Some IsPlain
