-- The addresses of a file, of all that were added to the used blocks, are its allocations.
use Rattle.std.proofs.Common.{◌≡◌, ◌≢◌, ℕ, ◌+◌, List, [], ◌∷◌, get_or, Bool, true, false, ◌&&◌, ◌||◌, if◌then◌else◌, refl, sym, ◌∙◌, ap, ap₂, arith, ⊎_elim}
use Rattle.std.specs.Prelude.{◌==◌, filter}
use Rattle.std.specs.List.{All}
use Rattle.std.proofs.lemmas.Bool.{cases_eq}
use Rattle.std.proofs.lemmas.Bool.Decides.{nat_tests}
use Rattle.std.proofs.lemmas.List.Elements.{filter_passes}
use Rattle.std.proofs.lemmas.List.Sums.{length-filter}
use Rattle.spec_image.specs.Image.{Image, External, has_file}
use Rattle.spec_format.specs.Address.{kind_of, external, external_number, file_selector, first_block, block_count, is_address}
use Rattle.spec_format.specs.Claims.{Claim, BlockOf, ExternalOf, claims_of, claims_of_all, has_claim, repeats, is_in_file}
use Rattle.spec_format.specs.BlockFiles.{stands_in, stands_in_blocks}
use Rattle.spec_format.specs.Maps.{AreAllocations}
use Rattle.spec_format.specs.Standing.{stands}
use Rattle.blk_addr.specs.Bits.{is_between}
use Rattle.blk_addr.specs.Claims.{IsClaimsOf}
use Rattle.blk_addr.specs.declared.claim_set.Claims.{Claims}
use Rattle.blk_addr.proofs.ClaimLemmas.{claims_of-external, has_claim-append, repeats-append}
use Rattle.spec_format.specs.Growth.{KeepsBlocks}
use Rattle.blk_alloc.specs.Owning.{is_of}
use Rattle.blk_alloc.specs.Rebuilding.{words_of_file, IsRebuilt}
use Rattle.blk_alloc.proofs.Lists.{claims_blocks, filter_cons, once_parts, first_once, apart_all, or_true, or_left, or_right}

-- what some of the addresses use all of them use
claims_fewer : (p : ℕ → Bool) (words : List ℕ) (c : Claim) → has_claim (claims_of_all (filter p words)) c ≡ true → has_claim (claims_of_all words) c ≡ true
claims_fewer p [] c inside = inside
claims_fewer p (w ∷ words) c inside = by_test (p w) refl (claims_fewer p words c)
  where
    all : (t : Bool) → p w ≡ t → filter p (w ∷ words) ≡ (if t then w ∷ filter p words else filter p words)
    all t e = filter_cons p w words ∙ ap (λ (x : Bool). if x then w ∷ filter p words else filter p words) e

    by_test : (t : Bool) → p w ≡ t → (has_claim (claims_of_all (filter p words)) c ≡ true → has_claim (claims_of_all words) c ≡ true) → has_claim (claims_of_all (w ∷ words)) c ≡ true
    by_test true e rest =
        has_claim-append (claims_of w) (claims_of_all words) c
        ∙ ⊎_elim (or_left (has_claim (claims_of w) c) (has_claim (claims_of_all words) c)) (λ there. or_right (has_claim (claims_of w) c) (has_claim (claims_of_all words) c) (rest there))
        (or_true (has_claim (claims_of w) c) (has_claim (claims_of_all (filter p words)) c) (sym (has_claim-append (claims_of w) (claims_of_all (filter p words)) c) ∙ ap (λ (l : List ℕ). has_claim (claims_of_all l) c) (sym (all true e)) ∙ inside))
    by_test false e rest =
        has_claim-append (claims_of w) (claims_of_all words) c
        ∙ or_right (has_claim (claims_of w) c) (has_claim (claims_of_all words) c) (rest (ap (λ (l : List ℕ). has_claim (claims_of_all l) c) (sym (all false e)) ∙ inside))

-- some of addresses that share nothing share nothing
once_fewer : (p : ℕ → Bool) (words : List ℕ) → repeats (claims_of_all words) ≡ false → repeats (claims_of_all (filter p words)) ≡ false
once_fewer p [] once = once
once_fewer p (w ∷ words) once = by_test (p w) refl (once_fewer p words parts.0)
  where
    parts : (repeats (claims_of_all words) ≡ false) × ((c : Claim) → has_claim (claims_of w) c ≡ true → has_claim (claims_of_all words) c ≡ true → ⊥)
    parts = once_parts (claims_of w) (claims_of_all words) once

    all : (t : Bool) → p w ≡ t → filter p (w ∷ words) ≡ (if t then w ∷ filter p words else filter p words)
    all t e = filter_cons p w words ∙ ap (λ (x : Bool). if x then w ∷ filter p words else filter p words) e

    by_test : (t : Bool) → p w ≡ t → repeats (claims_of_all (filter p words)) ≡ false → repeats (claims_of_all (filter p (w ∷ words))) ≡ false
    by_test true e rest =
        ap (λ (l : List ℕ). repeats (claims_of_all l)) (all true e)
        ∙ repeats-append (claims_of w) (claims_of_all (filter p words)) (first_once (claims_of w) (claims_of_all words) once) rest
        (apart_all (claims_of w) (claims_of_all (filter p words)) (λ c inside also. parts.1 c inside (claims_fewer p words c also)))
    by_test false e rest = ap (λ (l : List ℕ). repeats (claims_of_all l)) (all false e) ∙ rest

-- an address that is none of blocks of a file uses none of them
unfolded_zero : (n b : ℕ) → has_claim (claims_of 0) (BlockOf n b) ≡ false
unfolding claims_of has_claim
unfolded_zero n b = refl

other_file : (n b w : ℕ) → kind_of w ≢ external → is_in_file n w ≡ false → is_of w n b ≡ false
unfolding is_of is_in_file
other_file n b w block_kind apart = let test : (kind_of w == external) ≡ false = grind (arith, nat_tests) in let differs : (file_selector w == n) ≡ false = grind (arith, nat_tests) in ap (λ (t : Bool). t && is_between (first_block w) (first_block w + block_count w) b) differs

pub none_claimed : (n b w : ℕ) → is_in_file n w ≡ false → has_claim (claims_of w) (BlockOf n b) ≡ false
none_claimed n b w apart =
    ⊎_elim (λ (none : w ≡ 0). ap (λ (x : ℕ). has_claim (claims_of x) (BlockOf n b)) none ∙ unfolded_zero n b)
    (λ (some : w ≢ 0).
    ⊎_elim (λ (kind : kind_of w ≡ external). ap (λ (l : List Claim). has_claim l (BlockOf n b)) (claims_of-external w some kind) ∙ no_block (external_number w))
    (λ (block_kind : kind_of w ≢ external). claims_blocks w n b (record { some = some; block_kind = block_kind }) ∙ other_file n b w block_kind apart) (cases_eq (kind_of w) external)) (cases_eq w 0)
  where
    no_block : (m : ℕ) → has_claim (ExternalOf m ∷ []) (BlockOf n b) ≡ false
    no_block m = unfold has_claim in refl

-- the blocks of a file that all addresses use are those that the addresses of the file use
pub claims_here : (n b : ℕ) (words : List ℕ) → has_claim (claims_of_all words) (BlockOf n b) ≡ has_claim (claims_of_all (words_of_file n words)) (BlockOf n b)
claims_here n b [] = refl
claims_here n b (w ∷ words) = has_claim-append (claims_of w) (claims_of_all words) (BlockOf n b) ∙ by_test (is_in_file n w) refl (claims_here n b words)
  where
    all : (t : Bool) → is_in_file n w ≡ t → words_of_file n (w ∷ words) ≡ (if t then w ∷ words_of_file n words else words_of_file n words)
    all t e = filter_cons (is_in_file n) w words ∙ ap (λ (x : Bool). if x then w ∷ words_of_file n words else words_of_file n words) e

    by_test : (t : Bool) → is_in_file n w ≡ t → has_claim (claims_of_all words) (BlockOf n b) ≡ has_claim (claims_of_all (words_of_file n words)) (BlockOf n b)
        → (has_claim (claims_of w) (BlockOf n b) || has_claim (claims_of_all words) (BlockOf n b)) ≡ has_claim (claims_of_all (words_of_file n (w ∷ words))) (BlockOf n b)
    by_test true e rest =
        ap (λ (t : Bool). has_claim (claims_of w) (BlockOf n b) || t) rest
        ∙ sym (has_claim-append (claims_of w) (claims_of_all (words_of_file n words)) (BlockOf n b))
        ∙ ap (λ (l : List ℕ). has_claim (claims_of_all l) (BlockOf n b)) (sym (all true e))
    by_test false e rest =
        ap (λ (t : Bool). t || has_claim (claims_of_all words) (BlockOf n b)) (none_claimed n b w e) ∙ rest
        ∙ ap (λ (l : List ℕ). has_claim (claims_of_all l) (BlockOf n b)) (sym (all false e))

-- what was valid still is where blocks and external files stay
pub stands_still : (from image : Image) (w : ℕ) → KeepsBlocks from image → ((m : ℕ) → has_file image (External m) ≡ has_file from (External m)) → stands_in from w ≡ true → stands_in image w ≡ true
unfolding stands
stands_still from image w keeps externals is = by_test (kind_of w == external) is
  where
    first : (a b : Bool) → (a && b) ≡ true → a ≡ true
    first true b e = refl
    first false b e = e

    second : (a b : Bool) → (a && b) ≡ true → b ≡ true
    second true b e = e
    second false b e = absurd (clash e)
      where
        clash : false ≡ true → ⊥
        clash c = cc

    by_test : (t : Bool) → (is_address w && (if t then has_file from (External (external_number w)) else stands_in_blocks from w)) ≡ true
        → (is_address w && (if t then has_file image (External (external_number w)) else stands_in_blocks image w)) ≡ true
    by_test true h = ap (λ (t : Bool). is_address w && t) (externals (external_number w)) ∙ h
    by_test false h = ap₂ (λ (x y : Bool). x && y) (first (is_address w) (stands_in_blocks from w) h) (keeps.stand w (second (is_address w) (stands_in_blocks from w) h))

pub allocations_are : (claims : Claims) (words : List ℕ) (n : ℕ) (from image : Image) → IsClaimsOf claims words → IsRebuilt claims image n → ((w : ℕ) → stands_in from w ≡ true → stands_in image w ≡ true)
    → All (λ w. stands_in from w ≡ true) (words_of_file n words) → AreAllocations image n (words_of_file n words)
allocations_are claims words n from image is rebuilt still stand = record {
  stand = λ k d small. still (get_or (words_of_file n words) k d) (stand k d small);
  here = filter_passes (is_in_file n) words;
  apart = once_fewer (is_in_file n) words is.once;
  marks = λ b small. rebuilt.right.marks b small ∙ is.claims (BlockOf n b) ∙ claims_here n b words;
  counted = rebuilt.right.allocations ∙ is.allocations n ∙ sym (length-filter (is_in_file n) words);
}
