-- What an added address changes of `Claims`.
use Rattle.std.proofs.Common.{◌≡◌, ◌≢◌, ℕ, ◌+◌, ◌*◌, ◌<◌, List, [], ◌∷◌, ◌++◌, true, false, ◌||◌, ◌&&◌, refl, sym, ◌∙◌, ap, IsTrue, cond, length, set, get_or}
use Rattle.std.specs.Prelude.{nat_lt, if◌then◌else◌}
use Rattle.std.specs.List.{list_any}
use Rattle.std.specs.Result.{OnErr}
use Rattle.std.specs.declared.result.Result.{Result}
use Rattle.std.specs.declared.result.Result.TheVariants.{Ok, Err}
use Rattle.std.specs.Ordering.{nat_cmp}
use Rattle.std.specs.BTreeMap.{is_at}
use Rattle.std.specs.BTreeSet.{contains}
use Rattle.std.proofs.lemmas.Grind.{flat_map-append}
use Rattle.std.proofs.lemmas.List.{append-nil}
use Rattle.spec_format.specs.Address.{is_address, kind_of, first_block, block_count, file_selector, external_number, external}
use Rattle.spec_format.specs.Claims.{Claim, BlockOf, ExternalOf, claims_of, claims_of_all, has_claim, overlap, repeats, is_in_file}
use Rattle.blk_addr.specs.Bits.{has_bit, is_between}
use Rattle.blk_addr.specs.Claims.{contains_claim, allocations_in, is_claimed, IsUnchanged, Adds, IsClaimsOf}
use Rattle.blk_addr.specs.declared.claim_set.Claims.{Claims}
use Rattle.blk_addr.proofs.AddressFields.{address_above_0, blocks_of_address, block_count_above_0}
use Rattle.blk_addr.proofs.ClaimLemmas.{claims_of-external, claims_of-blocks, external_added, blocks_added, run_added, cond_or, is_at-nat_cmp, is_in_file-external, is_in_file-blocks, nothing_more, count_one_more, and_false, or_comm, count_by-push, any_of_run, none_at_first, list_any-same, has_claim-append, repeats-append, repeats-claims_of}

-- an external number that is new to the set
pub adds_external : (old new : Claims) (w n : ℕ) → IsTrue (is_address w) → kind_of w ≡ external → n ≡ external_number w
    → new.blocks ≡ old.blocks → new.allocations ≡ old.allocations
    → ((m : ℕ) → contains nat_cmp new.externals m ≡ cond (is_at (nat_cmp n) m) true (contains nat_cmp old.externals m))
    → Adds old new w
unfolding contains_claim allocations_in
adds_external old new w n address kind number blocks counts externals = record {
  claims = external_added (contains_claim old) (contains_claim new) w n
      (claims_of-external w (address_above_0 w address) kind ∙ ap (λ k. ExternalOf k ∷ []) (sym number))
      (λ file b. ap (λ map. nat_lt b 65536 && has_bit map.bytes.items (file * 65536 + b)) blocks)
      (λ m. externals m ∙ cond_or (is_at (nat_cmp n) m) (contains nat_cmp old.externals m) ∙ ap (λ t. t || contains nat_cmp old.externals m) (is_at-nat_cmp n m));
  allocations = λ file. ap (λ list. get_or list file 0) counts ∙ nothing_more (is_in_file file w) (get_or old.allocations file 0) (is_in_file-external file w kind);
}

-- blocks that are new to the set
pub adds_blocks : (old new : Claims) (w : ℕ) → IsTrue (is_address w) → kind_of w ≢ external
    → new.externals ≡ old.externals
    → ((m : ℕ) → has_bit new.blocks.bytes.items m
    ≡ (is_between (file_selector w * 65536 + first_block w) (file_selector w * 65536 + first_block w + block_count w) m || has_bit old.blocks.bytes.items m))
    → file_selector w < length old.allocations
    → new.allocations ≡ set old.allocations (file_selector w) (get_or old.allocations (file_selector w) 0 + 1)
    → Adds old new w
unfolding contains_claim allocations_in
adds_blocks old new w address kind externals bits inside counts = record {
  claims = blocks_added (contains_claim old) (contains_claim new) w (file_selector w) (first_block w) (block_count w)
      (claims_of-blocks w (address_above_0 w address) kind)
      (λ number. ap (λ numbers. contains nat_cmp numbers number) externals)
      (run_added old.blocks.bytes.items new.blocks.bytes.items (file_selector w) (first_block w) (block_count w) (blocks_of_address w address kind) bits);
  allocations = λ file.
      ap (λ list. get_or list file 0) counts ∙ count_one_more old.allocations (file_selector w) file inside
      ∙ ap (λ test. get_or old.allocations file 0 + (if test then 1 else 0)) (sym (is_in_file-blocks file w kind));
}

-- a used block stays where what it is read from stays
same_claims : (old new : Claims) → new.externals ≡ old.externals → ((m : ℕ) → has_bit new.blocks.bytes.items m ≡ has_bit old.blocks.bytes.items m)
    → (c : Claim) → contains_claim new c ≡ contains_claim old c
unfolding contains_claim
same_claims old new externals bits (BlockOf file b) = ap (λ t. nat_lt b 65536 && t) (bits (file * 65536 + b))
same_claims old new externals bits (ExternalOf number) = ap (λ numbers. contains nat_cmp numbers number) externals

-- more space is no change
pub same_numbers : (old new : Claims) → new.externals ≡ old.externals → new.allocations ≡ old.allocations
    → ((m : ℕ) → has_bit new.blocks.bytes.items m ≡ has_bit old.blocks.bytes.items m) → IsUnchanged old new
unfolding allocations_in
same_numbers old new externals counts bits = record {
  claims = same_claims old new externals bits;
  allocations = λ file. ap (λ list. get_or list file 0) counts;
}

-- no numbers are no used blocks
no_claims : (claims : Claims) → ((m : ℕ) → has_bit claims.blocks.bytes.items m ≡ false) → claims.externals.keys ≡ [] → (c : Claim) → contains_claim claims c ≡ false
unfolding contains_claim
no_claims claims bits externals (BlockOf file b) = ap (λ t. nat_lt b 65536 && t) (bits (file * 65536 + b)) ∙ and_false (nat_lt b 65536)
no_claims claims bits externals (ExternalOf number) = ap (list_any (is_at (nat_cmp number))) externals

-- where nothing was added there are no used blocks
pub is_of_nothing : (claims : Claims) → ((m : ℕ) → has_bit claims.blocks.bytes.items m ≡ false) → claims.externals.keys ≡ []
    → ((file : ℕ) → get_or claims.allocations file 0 ≡ 0) → IsClaimsOf claims []
unfolding allocations_in has_claim repeats
is_of_nothing claims bits externals counts = record { claims = no_claims claims bits externals; once = refl; allocations = counts }

-- the used blocks of a longer list of addresses
claims_of_all-push : (words : List ℕ) (w : ℕ) → claims_of_all (words ++ w ∷ []) ≡ claims_of_all words ++ claims_of w
claims_of_all-push words w = flat_map-append claims_of words (w ∷ []) ∙ ap (λ claims. claims_of_all words ++ claims) (append-nil (claims_of w))

-- what is used is what the list of addresses uses
pub is_claimed-overlap : (owned : Claims) (words : List ℕ) (w : ℕ) → IsClaimsOf owned words → is_claimed owned w ≡ overlap (claims_of_all words) (claims_of w)
unfolding is_claimed overlap
is_claimed-overlap owned words w is = list_any-same (contains_claim owned) (has_claim (claims_of_all words)) is.claims (claims_of w)

-- an address that shares no used block with a list is no repetition
once_more : (owned : Claims) (words : List ℕ) (w : ℕ) → IsTrue (is_address w) → is_claimed owned w ≡ false → IsClaimsOf owned words
    → repeats (claims_of_all (words ++ w ∷ [])) ≡ false
unfolding is_claimed
once_more owned words w address apart is =
    let others : list_any (has_claim (claims_of_all words)) (claims_of w) ≡ false =
    sym (list_any-same (contains_claim owned) (has_claim (claims_of_all words)) is.claims (claims_of w)) ∙ apart in
    ap repeats (claims_of_all-push words w)
    ∙ repeats-append (claims_of_all words) (claims_of w) is.once (repeats-claims_of w (address_above_0 w address)) others

-- an address that joins the set joins the list
pub is_of_more : (old new : Claims) (words : List ℕ) (w : ℕ) → IsTrue (is_address w) → is_claimed old w ≡ false → Adds old new w → IsClaimsOf old words
    → IsClaimsOf new (words ++ w ∷ [])
is_of_more old new words w address apart adds is = record {
  claims = λ c.
      adds.claims c
      ∙ ap (λ t. has_claim (claims_of w) c || t) (is.claims c)
      ∙ or_comm (has_claim (claims_of w) c) (has_claim (claims_of_all words) c)
      ∙ sym (has_claim-append (claims_of_all words) (claims_of w) c)
      ∙ ap (λ claims. has_claim claims c) (sym (claims_of_all-push words w));
  once = once_more old words w address apart is;
  allocations = λ file. adds.allocations file ∙ ap (λ n. n + (if is_in_file file w then 1 else 0)) (is.allocations file) ∙ sym (count_by-push (is_in_file file) words w);
}

-- the number of the first block of an address that clashes with nothing isn't in the bitmap
pub first_absent : (claims : Claims) (w : ℕ) → IsTrue (is_address w) → kind_of w ≢ external → is_claimed claims w ≡ false
    → has_bit claims.blocks.bytes.items (file_selector w * 65536 + first_block w) ≡ false
unfolding is_claimed
first_absent claims w address kind absent =
    let run = any_of_run (contains_claim claims) claims.blocks.bytes.items (file_selector w) (first_block w) (block_count w) (λ b. unfold contains_claim in refl) (blocks_of_address w address kind) in
    let claims_are = claims_of-blocks w (address_above_0 w address) kind in
    none_at_first (has_bit claims.blocks.bytes.items) (file_selector w * 65536 + first_block w) (block_count w) (block_count_above_0 w)
    (sym run ∙ ap (list_any (contains_claim claims)) (sym claims_are) ∙ absent)

-- a fact that holds in any case holds after an error
pub after_err : {T E P : Type 0} (r : Result T E) → P → OnErr r P
after_err (Ok x) p = tt
after_err (Err e) p = p

-- what is used stays so where the set stays
pub same_claimed : (old new : Claims) (w : ℕ) → IsUnchanged old new → is_claimed new w ≡ is_claimed old w
unfolding is_claimed
same_claimed old new w same = list_any-same (contains_claim new) (contains_claim old) same.claims (claims_of w)
