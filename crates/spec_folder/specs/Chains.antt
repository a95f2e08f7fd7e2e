-- The chains of the table.
use Rattle.std.specs.Prelude.{◌≡◌, ℕ, zero, suc, ◌%◌, ◌^◌, List, [], ◌∷◌, map, Bool, true, false, not, ◌&&◌, ◌==◌, if◌then◌else◌}
use Rattle.std.specs.Option.{option_map_or}
use Rattle.spec_image.specs.Image.{Image}
use Rattle.spec_format.specs.Headers.{table_length}
use Rattle.spec_format.specs.BlockFiles.{is_among}
use Rattle.spec_folder.specs.ListView.{Distinct}
use Rattle.spec_folder.specs.View.{StoreView, entry_at}

-- the file and the first block that a word names
abbrev pub file_and_block : ℕ → ℕ
file_and_block w = w % 2 ^ 24

-- the number of pairs of a file and a first block: no chain has more records
abbrev pub most_records : ℕ
most_records = 2 ^ 24

-- the bucket of a hash: its low 16 bits
abbrev pub bucket_of_hash : ℕ → ℕ
bucket_of_hash hash = hash % table_length

-- the bucket of the record that a word names
abbrev pub bucket_at : Image → ℕ → ℕ
bucket_at image w = bucket_of_hash (entry_at image w).hash

-- a word names a record of a bucket, whose checksum is right or absent
abbrev pub is_of_bucket : StoreView → ℕ → ℕ → Bool
is_of_bucket store bucket w = option_map_or (λ fields. fields.checks && (bucket_of_hash fields.hash == bucket)) (store.entry w) false

-- a record is reached in the chain of a bucket where its first block was not met before, its checksum is right or absent, and it is of the bucket
abbrev pub is_reached : StoreView → ℕ → List ℕ → ℕ → Bool
is_reached store bucket met w = not (is_among met (file_and_block w)) && is_of_bucket store bucket w

-- the reached records of a chain, in order, and the word at which it ends
pub record Chain : Type 0 where
  pub reached : List ℕ
  pub end : ℕ

-- the chain of a bucket from a word on, of at most so many records, where no record may lie at a first block that was met
unfoldable pub chain_from : StoreView → ℕ → ℕ → List ℕ → ℕ → Chain
chain_from store bucket zero met w = record { reached = []; end = w }
chain_from store bucket (suc most) met w =
    let more = chain_from store bucket most (file_and_block w ∷ met) (store.chain_next w) in
    let longer = record more { reached = w ∷ more.reached } in
    if is_reached store bucket met w then longer else record { reached = []; end = w }

-- the chain of a bucket
abbrev pub chain : StoreView → ℕ → Chain
chain store bucket = chain_from store bucket most_records [] (store.table bucket)

-- Whole chains.

-- these words are records of the bucket, linked in this order from a word on; the link of the last is 0
abbrev pub Linked : StoreView → ℕ → ℕ → List ℕ → Type 0
Linked store bucket word [] = word ≡ 0
Linked store bucket word (w ∷ words) = (word ≡ w) × (is_of_bucket store bucket w ≡ true) × Linked store bucket (store.chain_next w) words

-- these are the records of a bucket's chain, which is whole: it ends at the word 0, and no first block occurs twice
pub record IsChain (store : StoreView) (bucket : ℕ) (words : List ℕ) : Type 0 where
  pub linked : Linked store bucket (store.table bucket) words
  pub once : Distinct (map file_and_block words)
