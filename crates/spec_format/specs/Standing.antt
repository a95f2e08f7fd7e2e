-- Valid addresses: what they name is there.
use Rattle.std.specs.Prelude.{ℕ, ◌+◌, Bool, false, ◌&&◌, nat_le, ◌==◌, if◌then◌else◌}
use Rattle.std.specs.declared.option.Option.{Option}
use Rattle.std.specs.declared.option.Option.TheVariants.{None, Some}
use Rattle.spec_format.specs.Address.{is_address, kind_of, block_count, file_selector, first_block, external_number, external, place, byte_size}

-- whether a file is linked as one of a kind
abbrev pub is_linked_as : Option ℕ → ℕ → Bool
is_linked_as None kind = false
is_linked_as (Some linked) kind = linked == kind

module _
    -- the kind as which a block file is linked, if it is
    (linked_as : ℕ → Option ℕ)
    -- the number of blocks that the header of a block file gives
    (max_entries : ℕ → ℕ)
    -- the length of a block file in bytes
    (length_of_block : ℕ → ℕ)
    -- whether there is an external file of a number
    (has_external : ℕ → Bool)
  where
    -- the file is linked and of the word's kind, and all blocks are below max_entries and end inside the file
    unfoldable pub stands_as_blocks : ℕ → Bool
    stands_as_blocks w =
        is_linked_as (linked_as (file_selector w)) (kind_of w)
        && nat_le (first_block w + block_count w) (max_entries (file_selector w))
        && nat_le (place w + byte_size w) (length_of_block (file_selector w))

    -- an address is valid where its external file is there, or its blocks are
    unfoldable pub stands : ℕ → Bool
    stands w = is_address w && (if kind_of w == external then has_external (external_number w) else stands_as_blocks w)
