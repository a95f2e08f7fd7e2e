-- Each check of the block files on a small example, and the files along links, computed.
use Rattle.std.proofs.Common.{◌≡◌, ℕ, ◌+◌, ◌*◌, ◌^◌, List, [], ◌∷◌, ◌++◌, None, Some, true, false, refl, nat_lt, Bool, ◌||◌}
use Rattle.std.specs.Prelude.{◌==◌, if◌then◌else◌, map}
use Rattle.std.specs.List.{concat}
use Rattle.std.specs.declared.option.Option.{Option}
use Rattle.spec_image.specs.Bytes.{content, word_bytes, zeros}
use Rattle.spec_image.specs.Image.{Index, Block, External, Image}
use Rattle.spec_image.specs.Checks.{Damage, first_of}
use Rattle.spec_format.specs.Address.{block_size}
use Rattle.spec_format.specs.Standing.{stands, stands_as_blocks}
use Rattle.spec_format.specs.Address as address
use Rattle.spec_format.specs.BlockFiles.{next_file_in, max_entries_in, files_along, linked, linked_up_to, kind_among, stands_in, is_link, is_block_count, file_checks, checks_along, checks_of_kind, first_block_damage}

-- the words of a header: magic, version, this_file and next_file, entry_size, num_entries, max_entries
fields : ℕ → ℕ → ℕ → ℕ → ℕ → ℕ → List ℕ
fields magic version file next size blocks = concat (map word_bytes (magic ∷ version ∷ (file + 65536 * next) ∷ size ∷ 0 ∷ blocks ∷ []))

-- a failed check of block file n
damage : ℕ → ℕ → ℕ → Option Damage
damage n at found = Some (record { file = Block n; at = at; found = found })

-- the first failed check of file 7, of blocks of 256 bytes, that comes after the files 1 and 9
first : List ℕ → ℕ → Option Damage
first header length = first_of (file_checks 2 (0 ∷ 1 ∷ 9 ∷ 7 ∷ []) 57 7 (content header) length)

whole_file : first (fields 0xC104CAC3 0x20000 7 0 256 1024) 8192 ≡ None
unfolding first fields file_checks is_link is_block_count block_size
whole_file = refl

no_file : first [] 0 ≡ damage 7 8192 0
unfolding first damage fields file_checks is_link is_block_count block_size
no_file = refl

short_file : first (fields 0 0 0 0 0 0) 8191 ≡ damage 7 8192 8191
unfolding first damage fields file_checks is_link is_block_count block_size
short_file = refl

huge_file : first (fields 0xC104CAC3 0x20000 7 0 256 1024) (2 ^ 32 + 5) ≡ None
unfolding first damage fields file_checks is_link is_block_count block_size
huge_file = refl

-- the checks go in order
magic_before_version : first (fields 1 2 3 4 5 6) 8192 ≡ damage 7 0 1
unfolding first damage fields file_checks is_link is_block_count block_size
magic_before_version = refl

version_before_this_file : first (fields 0xC104CAC3 2 3 9 5 6) 8192 ≡ damage 7 4 2
unfolding first damage fields file_checks is_link is_block_count block_size
version_before_this_file = refl

this_file_before_next_file : first (fields 0xC104CAC3 0x20000 3 9 5 6) 8192 ≡ damage 7 8 0x90003
unfolding first damage fields file_checks is_link is_block_count block_size
this_file_before_next_file = refl

next_file_before_entry_size : first (fields 0xC104CAC3 0x20000 7 9 5 6) 8192 ≡ damage 7 8 0x90007
unfolding first damage fields file_checks is_link is_block_count block_size
next_file_before_entry_size = refl

entry_size_before_max_entries : first (fields 0xC104CAC3 0x20000 7 4 1024 6) 8192 ≡ damage 7 12 1024
unfolding first damage fields file_checks is_link is_block_count block_size
entry_size_before_max_entries = refl

other_max_entries : first (fields 0xC104CAC3 0x20000 7 4 256 6) 8192 ≡ damage 7 20 6
unfolding first damage fields file_checks is_link is_block_count block_size
other_max_entries = refl

-- the files to which a link may lead, of 300
links : List ℕ → ℕ → List Bool
links met left = map (is_link met left) (0 ∷ 1 ∷ 3 ∷ 4 ∷ 9 ∷ 255 ∷ 256 ∷ [])

links_of_a_file : links (0 ∷ 9 ∷ []) 1 ≡ true ∷ false ∷ false ∷ true ∷ false ∷ true ∷ false ∷ []
unfolding links is_link
links_of_a_file = refl

links_of_the_last : links (0 ∷ 9 ∷ []) 0 ≡ true ∷ false ∷ false ∷ false ∷ false ∷ false ∷ false ∷ []
unfolding links is_link
links_of_the_last = refl

block_counts : map is_block_count (0 ∷ 1 ∷ 1024 ∷ 1408 ∷ 63488 ∷ 64512 ∷ 64896 ∷ 65536 ∷ []) ≡ true ∷ false ∷ true ∷ false ∷ true ∷ true ∷ true ∷ false ∷ []
unfolding is_block_count
block_counts = refl

-- a folder of block files alone, by the kind and the next file of each; those of kind 0 are not there
folder : (ℕ → ℕ) → (ℕ → ℕ) → Image
folder kind next Index = None
folder kind next (Block n) = if kind n == 0 then None else Some (fields 0xC104CAC3 0x20000 n (next n) (block_size (kind n)) 1024 ++ zeros 8168)
folder kind next (External n) = None

-- the first four files, and two more files of blocks of 1 KiB
kinds : ℕ → ℕ
kinds n = if nat_lt n 4 then n + 1 else if (n == 4) || (n == 6) then 3 else 0

-- after file 2 comes file 6, and then this one
by_six : ℕ → ℕ → ℕ
by_six last n = if n == 2 then 6 else if n == 6 then last else 0

-- the first failed check of these
chain_to : ℕ → Option Damage
chain_to last = first_block_damage (folder kinds (by_six last))

chain_of_three : (linked (folder kinds (by_six 4)) 3 ≡ 2 ∷ 6 ∷ 4 ∷ []) × (linked (folder kinds (by_six 4)) 4 ≡ 3 ∷ [])
unfolding linked files_along next_file_in folder kinds by_six fields block_size zeros
chain_of_three = (refl, refl)

whole_chain : chain_to 4 ≡ None
unfolding chain_to checks_of_kind checks_along file_checks linked_up_to linked files_along next_file_in folder kinds by_six fields block_size zeros is_link is_block_count
whole_chain = refl

-- a link to the file itself, to one that isn't there, to one of the first four, and to one that can't be
link_to_itself : chain_to 6 ≡ damage 6 8 0x60006
unfolding chain_to damage checks_of_kind checks_along file_checks linked_up_to linked files_along next_file_in folder kinds by_six fields block_size zeros is_link is_block_count
link_to_itself = refl

link_to_no_file : chain_to 5 ≡ damage 5 8192 0
unfolding chain_to damage checks_of_kind checks_along file_checks linked_up_to linked files_along next_file_in folder kinds by_six fields block_size zeros is_link is_block_count
link_to_no_file = refl

link_to_a_first_file : chain_to 2 ≡ damage 6 8 0x20006
unfolding chain_to damage checks_of_kind checks_along file_checks linked_up_to linked files_along next_file_in folder kinds by_six fields block_size zeros is_link is_block_count
link_to_a_first_file = refl

link_past_the_files : chain_to 256 ≡ damage 6 8 0x1000006
unfolding chain_to damage checks_of_kind checks_along file_checks linked_up_to linked files_along next_file_in folder kinds by_six fields block_size zeros is_link is_block_count
link_past_the_files = refl

-- file 3 leads to a file that file 2 leads to
link_to_another_kind : first_block_damage (folder kinds (λ n. if n == 2 then 4 else if n == 3 then 4 else 0)) ≡ damage 3 8 0x40003
unfolding damage checks_of_kind checks_along file_checks linked_up_to linked files_along next_file_in folder kinds fields block_size zeros is_link is_block_count
link_to_another_kind = refl

-- a file after file 0 has the size of its own kind
file_of_another_kind : first_block_damage (folder kinds (λ n. if n == 0 then 4 else 0)) ≡ damage 4 12 1024
unfolding damage checks_of_kind checks_along file_checks linked_up_to linked files_along next_file_in folder kinds fields block_size zeros is_link is_block_count
file_of_another_kind = refl

-- the files of one kind are data_0 and data_4 to data_62, sixty in all, and a next file of the last
sixty : ℕ → ℕ → ℕ
sixty last n = if n == 0 then 4 else if n == 62 then last else if nat_lt n 4 then 0 else n + 1

of_sixty : ℕ → ℕ
of_sixty n = if nat_lt n 4 then n + 1 else 1

link_of_the_sixtieth : first_block_damage (folder of_sixty (sixty 63)) ≡ damage 62 8 0x3F003E
unfolding damage checks_of_kind checks_along file_checks linked_up_to linked files_along next_file_in folder of_sixty sixty fields block_size zeros is_link is_block_count
link_of_the_sixtieth = refl

-- a folder of data_0 alone, with space for 1024 nodes
nodes : Image
nodes Index = None
nodes (Block n) = if n == 0 then Some (fields 0xC104CAC3 0x20000 0 0 36 1024 ++ zeros 45032) else None
nodes (External n) = None

-- nodes 0 and 1023 are there; there is no node 1024, no block of 256 bytes and no external file
standing_nodes : map (stands_in nodes) (0x90000000 ∷ 0x900003FF ∷ 0x90000400 ∷ 0xA0000000 ∷ 0x80000001 ∷ []) ≡ true ∷ true ∷ false ∷ false ∷ false ∷ []
unfolding nodes stands stands_as_blocks kind_among linked files_along next_file_in max_entries_in fields block_size zeros address.is_address address.is_initialized address.names_external address.names_blocks address.kind_of address.reserved_bits address.block_count address.file_selector address.first_block address.external_number address.place address.byte_size address.block_place
standing_nodes = refl

-- a byte less, and the last node isn't there
cut_nodes : Image
cut_nodes Index = None
cut_nodes (Block n) = if n == 0 then Some (fields 0xC104CAC3 0x20000 0 0 36 1024 ++ zeros 45031) else None
cut_nodes (External n) = None

cut_last_node : map (stands_in cut_nodes) (0x900003FE ∷ 0x900003FF ∷ []) ≡ true ∷ false ∷ []
unfolding cut_nodes stands stands_as_blocks kind_among linked files_along next_file_in max_entries_in fields block_size zeros address.is_address address.is_initialized address.names_external address.names_blocks address.kind_of address.reserved_bits address.block_count address.file_selector address.first_block address.external_number address.place address.byte_size address.block_place
cut_last_node = refl
