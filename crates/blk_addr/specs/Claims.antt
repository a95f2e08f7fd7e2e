-- What a value of `Claims` is: a set of used blocks and external numbers, and the number of addresses added for each block file.
use Rattle.std.specs.Prelude.{◌≡◌, ℕ, ◌+◌, ◌*◌, List, Bool, ◌&&◌, ◌||◌, false, nat_lt, slice_index, count_by, if◌then◌else◌}
use Rattle.std.specs.List.{list_any}
use Rattle.std.specs.Ordering.{nat_cmp}
use Rattle.std.specs.BTreeSet.{contains}
use Rattle.std.specs.declared.result.Result.{Result}
use Rattle.std.specs.declared.result.Result.TheVariants.{Ok, Err}
use Rattle.spec_format.specs.Claims.{Claim, BlockOf, ExternalOf, claims_of, claims_of_all, has_claim, repeats, is_in_file}
use Rattle.blk_addr.specs.Bits.{has_bit}
use Rattle.blk_addr.specs.declared.claim_set.Claims.{Claims}

-- how many blocks an address can name in a file
abbrev pub blocks_of_file : ℕ
blocks_of_file = 65536

-- the set has this block or external number
unfoldable pub contains_claim : Claims → Claim → Bool
contains_claim claims (BlockOf file b) = nat_lt b blocks_of_file && has_bit claims.blocks.bytes.items (file * blocks_of_file + b)
contains_claim claims (ExternalOf number) = contains nat_cmp claims.externals number

-- how many addresses with blocks in this file were added
unfoldable pub allocations_in : Claims → ℕ → ℕ
allocations_in claims file = slice_index claims.allocations file

-- the address uses a block or an external number that the set has
unfoldable pub is_claimed : Claims → ℕ → Bool
is_claimed claims w = list_any (contains_claim claims) (claims_of w)

-- the set and the counts are unchanged
pub record IsUnchanged (old new : Claims) : Type 0 where
  pub claims : (c : Claim) → contains_claim new c ≡ contains_claim old c
  pub allocations : (file : ℕ) → allocations_in new file ≡ allocations_in old file

-- the blocks or the file of address w are in the set now, and it counts as one more of its block file
pub record Adds (old new : Claims) (w : ℕ) : Type 0 where
  pub claims : (c : Claim) → contains_claim new c ≡ (has_claim (claims_of w) c || contains_claim old c)
  pub allocations : (file : ℕ) → allocations_in new file ≡ allocations_in old file + (if is_in_file file w then 1 else 0)

-- the set has exactly the blocks and external numbers of the addresses, no two of which use the same, and the counts are theirs
pub record IsClaimsOf (owned : Claims) (added : List ℕ) : Type 0 where
  pub claims : (c : Claim) → contains_claim owned c ≡ has_claim (claims_of_all added) c
  pub once : repeats (claims_of_all added) ≡ false
  pub allocations : (file : ℕ) → allocations_in owned file ≡ count_by (is_in_file file) added

-- the answer says that an address was added
abbrev pub is_added : {E : Type 0} → Result Bool E → Bool
is_added (Ok new) = new
is_added (Err e) = false
