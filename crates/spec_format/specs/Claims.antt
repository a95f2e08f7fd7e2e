-- Used blocks and external numbers: what addresses name, each of which has one owner.
use Rattle.std.specs.Prelude.{ℕ, List, [], ◌∷◌, map, Bool, false, not, ◌&&◌, ◌||◌, ◌==◌, if◌then◌else◌}
use Rattle.std.specs.List.{list_any, flat_map, range_with_len}
use Rattle.spec_format.specs.Address.{kind_of, block_count, file_selector, first_block, external_number, external}

-- what an address may use: a block of a block file, by file and number, or an external file, by number
pub data Claim : Type 0 where
  BlockOf : ℕ → ℕ → Claim
  ExternalOf : ℕ → Claim

-- whether two used blocks or numbers are the same block, or the same external number
abbrev pub same_claim : Claim → Claim → Bool
same_claim (BlockOf file b) (BlockOf other c) = (file == other) && (b == c)
same_claim (ExternalOf m) (ExternalOf n) = m == n
same_claim _ _ = false

-- what an address uses: each of its blocks, or its external number; the word 0 uses nothing
unfoldable pub claims_of : ℕ → List Claim
claims_of w =
    if w == 0 then [] else
    if kind_of w == external then ExternalOf (external_number w) ∷ [] else
    map (λ b. BlockOf (file_selector w) b) (range_with_len (first_block w) (block_count w))

-- whether a word names blocks of this block file
unfoldable pub is_in_file : ℕ → ℕ → Bool
is_in_file file w = not (kind_of w == external) && (file_selector w == file)

-- what a list of addresses uses
abbrev pub claims_of_all : List ℕ → List Claim
claims_of_all words = flat_map claims_of words

-- whether a block or an external number is in a list of used blocks or numbers
unfoldable pub has_claim : List Claim → Claim → Bool
has_claim claims c = list_any (same_claim c) claims

-- whether two lists of used blocks or numbers share one
unfoldable pub overlap : List Claim → List Claim → Bool
overlap claims others = list_any (has_claim claims) others

-- whether a used block or external number occurs twice in a list
unfoldable pub repeats : List Claim → Bool
repeats [] = false
repeats (c ∷ claims) = has_claim claims c || repeats claims
