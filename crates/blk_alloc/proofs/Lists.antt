-- Lists of allocations that lose or gain one.
use Rattle.std.proofs.Common.{◌≡◌, ◌≢◌, ℕ, ◌+◌, ◌⊎◌, inl, inr, List, [], ◌∷◌, ◌++◌, length, Bool, true, false, ◌&&◌, ◌||◌, if◌then◌else◌, refl, sym, ◌∙◌, ap, ap₂, arith, ⊎_elim}
use Rattle.std.specs.Prelude.{◌==◌, not, filter}
use Rattle.std.specs.List.{list_any}
use Rattle.std.proofs.lemmas.Grind.{common_steps}
use Rattle.std.proofs.lemmas.Bool.Decides.{nat_tests}
use Rattle.spec_format.specs.Address.{kind_of, external, file_selector, first_block, block_count}
use Rattle.spec_format.specs.Claims.{Claim, BlockOf, ExternalOf, same_claim, claims_of, claims_of_all, has_claim, repeats}
use Rattle.spec_format.specs.BlockFiles.{is_among}
use Rattle.blk_addr.specs.Bits.{is_between}
use Rattle.blk_addr.proofs.ClaimLemmas.{has_claim-append, has_claim-blocks, has_claim-no-external, claims_of-blocks, repeats-append, repeats-claims_of}
use Rattle.blk_addr.proofs.AddressFields.{block_count_above_0}
use Rattle.blk_alloc.specs.Owning.{is_of, others}

clash : true ≡ false → ⊥
clash e = cc

or_parts : (a b : Bool) → (a || b) ≡ false → (a ≡ false) × (b ≡ false)
or_parts true b e = absurd (clash e)
or_parts false b e = (refl, e)

pub or_true : (a b : Bool) → (a || b) ≡ true → (a ≡ true) ⊎ (b ≡ true)
or_true true b e = inl refl
or_true false b e = inr e

pub or_right : (a b : Bool) → b ≡ true → (a || b) ≡ true
or_right true b e = refl
or_right false b e = e

pub or_left : (a b : Bool) → a ≡ true → (a || b) ≡ true
or_left true b e = refl
or_left false b e = absurd (clash (sym e))

same_claim-true : (c d : Claim) → same_claim c d ≡ true → c ≡ d
same_claim-true (BlockOf f b) (BlockOf g k) e =
    let one : f ≡ g = grind (arith, nat_tests) in
    let other : b ≡ k = grind (arith, nat_tests) in
    ap₂ (λ (x y : ℕ). BlockOf x y) one other
same_claim-true (BlockOf f b) (ExternalOf n) e = absurd (clash (sym e))
same_claim-true (ExternalOf n) (BlockOf f b) e = absurd (clash (sym e))
same_claim-true (ExternalOf m) (ExternalOf n) e = let one : m ≡ n = grind (arith, nat_tests) in ap ExternalOf one

same_claim-refl : (c : Claim) → same_claim c c ≡ true
same_claim-refl (BlockOf f b) = grind (arith, nat_tests)
same_claim-refl (ExternalOf n) = grind (arith, nat_tests)

-- used blocks that occur once in a list of two parts
pub once_parts : (a b : List Claim) → repeats (a ++ b) ≡ false → (repeats b ≡ false) × ((c : Claim) → has_claim a c ≡ true → has_claim b c ≡ true → ⊥)
unfolding repeats has_claim
once_parts [] b once = (once, λ c inside also. clash (sym inside))
once_parts (x ∷ a) b once =
    let parts = or_parts (has_claim (a ++ b) x) (repeats (a ++ b)) once in
    let rest = once_parts a b parts.1 in (
      rest.0,
      λ c inside also. ⊎_elim
          (λ (here : same_claim c x ≡ true). clash (sym (has_claim-append a b x ∙ or_right (has_claim a x) (has_claim b x) (ap (has_claim b) (sym (same_claim-true c x here)) ∙ also)) ∙ parts.0))
          (λ there. rest.1 c there also) (or_true (same_claim c x) (list_any (same_claim c) a) inside),
    )

-- an address of blocks
pub record IsBlocks (w : ℕ) : Type 0 where
  pub some : w ≢ 0
  pub block_kind : kind_of w ≢ external

-- what an address of blocks uses of a file
pub claims_blocks : (w n b : ℕ) → IsBlocks w → has_claim (claims_of w) (BlockOf n b) ≡ is_of w n b
unfolding is_of
claims_blocks w n b is = ap (λ (l : List Claim). has_claim l (BlockOf n b)) (claims_of-blocks w is.some is.block_kind) ∙ has_claim-blocks (file_selector w) (first_block w) (block_count w) n b ∙ turned
  where
    turned : ((n == file_selector w) && is_between (first_block w) (first_block w + block_count w) b) ≡ ((file_selector w == n) && is_between (first_block w) (first_block w + block_count w) b)
    turned = grind (arith, nat_tests)

-- an address of blocks uses its first block
first_claimed : (w : ℕ) → IsBlocks w → has_claim (claims_of w) (BlockOf (file_selector w) (first_block w)) ≡ true
first_claimed w is = claims_blocks w (file_selector w) (first_block w) is ∙ (let some = block_count_above_0 w in unfold is_of in grind (arith, nat_tests))

-- a used block of one of some addresses is a used block of them all
of_all : (words : List ℕ) (w : ℕ) (c : Claim) → is_among words w ≡ true → has_claim (claims_of w) c ≡ true → has_claim (claims_of_all words) c ≡ true
of_all [] w c among inside = absurd (clash (sym among))
of_all (x ∷ words) w c among inside =
    has_claim-append (claims_of x) (claims_of_all words) c
    ∙ ⊎_elim
    (λ (here : (x == w) ≡ true). or_left (has_claim (claims_of x) c) (has_claim (claims_of_all words) c) (let same : x ≡ w = grind (arith, nat_tests) in ap (λ (y : ℕ). has_claim (claims_of y) c) same ∙ inside))
    (λ there. or_right (has_claim (claims_of x) c) (has_claim (claims_of_all words) c) (of_all words w c there inside)) (or_true (x == w) (is_among words w) among)

-- where one of some addresses, which share nothing, is left out
pub record LeavesOut (words : List ℕ) (w : ℕ) : Type 0 where
  pub fewer : length (others w words) + 1 ≡ length words
  pub once : repeats (claims_of_all (others w words)) ≡ false
  pub claims : (c : Claim) → has_claim (claims_of_all (others w words)) c ≡ (if has_claim (claims_of w) c then false else has_claim (claims_of_all words) c)

pub filter_cons : (p : ℕ → Bool) (x : ℕ) (xs : List ℕ) → filter p (x ∷ xs) ≡ (if p x then x ∷ filter p xs else filter p xs)
filter_cons p x xs = grind (arith, common_steps)

kept_first : (x w : ℕ) (words : List ℕ) → (x == w) ≡ false → others w (x ∷ words) ≡ x ∷ others w words
kept_first x w words e = filter_cons (λ y. not (y == w)) x words ∙ ap (λ (t : Bool). if not t then x ∷ others w words else others w words) e

left_first : (x w : ℕ) (words : List ℕ) → (x == w) ≡ true → others w (x ∷ words) ≡ others w words
left_first x w words e = filter_cons (λ y. not (y == w)) x words ∙ ap (λ (t : Bool). if not t then x ∷ others w words else others w words) e

-- one that isn't among them is not left out
none_left : (words : List ℕ) (w : ℕ) → is_among words w ≡ false → others w words ≡ words
none_left [] w apart = refl
none_left (x ∷ words) w apart =
    let parts = or_parts (x == w) (is_among words w) apart in
    kept_first x w words parts.0 ∙ ap (λ (l : List ℕ). x ∷ l) (none_left words w parts.1)

not_true : (t : Bool) → (t ≡ true → ⊥) → t ≡ false
not_true true never = absurd (never refl)
not_true false never = refl

-- the first of two parts occurs once
pub first_once : (a b : List Claim) → repeats (a ++ b) ≡ false → repeats a ≡ false
unfolding repeats has_claim
first_once [] b once = refl
first_once (x ∷ a) b once =
    let parts = or_parts (has_claim (a ++ b) x) (repeats (a ++ b)) once in
    let here = or_parts (has_claim a x) (has_claim b x) (sym (has_claim-append a b x) ∙ parts.0) in
    ap (λ (t : Bool). t || repeats a) here.0 ∙ first_once a b parts.1

-- no used block of one list is in another
pub apart_all : (a b : List Claim) → ((c : Claim) → has_claim a c ≡ true → has_claim b c ≡ true → ⊥) → list_any (has_claim a) b ≡ false
unfolding has_claim
apart_all a [] never = refl
apart_all a (d ∷ b) never =
    ap (λ (t : Bool). t || list_any (has_claim a) b) (not_true (has_claim a d) (λ inside. never d inside (or_left (same_claim d d) (list_any (same_claim d) b) (same_claim-refl d))))
    ∙ apart_all a b (λ c inside also. never c inside (or_right (same_claim c d) (list_any (same_claim c) b) also))

pub leaves_out : (words : List ℕ) (w : ℕ) → IsBlocks w → is_among words w ≡ true → repeats (claims_of_all words) ≡ false → LeavesOut words w
leaves_out [] w is among once = absurd (clash (sym among))
leaves_out (x ∷ words) w is among once = by_test (λ there. leaves_out words w is there (once_parts (claims_of x) (claims_of_all words) once).0) (x == w) refl
  where
    parts : (repeats (claims_of_all words) ≡ false) × ((c : Claim) → has_claim (claims_of x) c ≡ true → has_claim (claims_of_all words) c ≡ true → ⊥)
    parts = once_parts (claims_of x) (claims_of_all words) once

    mine : Claim → Bool → Bool
    mine c b = if has_claim (claims_of w) c then false else b

    by_test : (is_among words w ≡ true → LeavesOut words w) → (t : Bool) → (x == w) ≡ t → LeavesOut (x ∷ words) w
    by_test later true here =
        let same : x ≡ w = grind (arith, nat_tests) in
        let apart : is_among words w ≡ false =
        not_true (is_among words w)
        (λ more. parts.1 (BlockOf (file_selector w) (first_block w)) (ap (λ (y : ℕ). has_claim (claims_of y) (BlockOf (file_selector w) (first_block w))) same ∙ first_claimed w is)
        (of_all words w (BlockOf (file_selector w) (first_block w)) more (first_claimed w is))) in
        let all : others w (x ∷ words) ≡ words = left_first x w words here ∙ none_left words w apart in
        record {
          fewer = let size : length (others w (x ∷ words)) ≡ length words = ap length all in omega (arith, size);
          once = ap (λ (l : List ℕ). repeats (claims_of_all l)) all ∙ parts.0;
          claims = λ c. ap (λ (l : List ℕ). has_claim (claims_of_all l) c) all ∙ first_out c (has_claim (claims_of w) c) refl (λ inside. parts.1 c (ap (λ (y : ℕ). has_claim (claims_of y) c) same ∙ inside))
              ∙ ap (λ (b : Bool). if has_claim (claims_of w) c then false else b) (sym (has_claim-append (claims_of x) (claims_of_all words) c ∙ ap (λ (y : ℕ). has_claim (claims_of y) c || has_claim (claims_of_all words) c) same));
        }
      where
        first_out : (c : Claim) (t : Bool) → has_claim (claims_of w) c ≡ t → (t ≡ true → has_claim (claims_of_all words) c ≡ true → ⊥)
            → has_claim (claims_of_all words) c ≡ (if t then false else (t || has_claim (claims_of_all words) c))
        first_out c true e never = not_true (has_claim (claims_of_all words) c) (never refl)
        first_out c false e never = refl
    by_test later false here =
        let there : is_among words w ≡ true = ap (λ (t : Bool). t || is_among words w) (sym here) ∙ among in
        let rest : LeavesOut words w = later there in
        let all : others w (x ∷ words) ≡ x ∷ others w words = kept_first x w words here in
        record {
          fewer = let size : length (others w (x ∷ words)) ≡ length (x ∷ others w words) = ap length all in let less = rest.fewer in omega (arith, size, less);
          once = ap (λ (l : List ℕ). repeats (claims_of_all l)) all
              ∙ repeats-append (claims_of x) (claims_of_all (others w words)) (first_once (claims_of x) (claims_of_all words) once) rest.once
              (apart_all (claims_of x) (claims_of_all (others w words)) (λ c inside also. parts.1 c inside (was_in c (has_claim (claims_of w) c) refl (rest.claims c) also)));
          claims = λ c. ap (λ (l : List ℕ). has_claim (claims_of_all l) c) all ∙ has_claim-append (claims_of x) (claims_of_all (others w words)) c
              ∙ ap (λ (b : Bool). has_claim (claims_of x) c || b) (rest.claims c)
              ∙ joined c (has_claim (claims_of w) c) refl
              ∙ ap (λ (b : Bool). if has_claim (claims_of w) c then false else b) (sym (has_claim-append (claims_of x) (claims_of_all words) c));
        }
      where
        was_in : (c : Claim) (t : Bool) → has_claim (claims_of w) c ≡ t → has_claim (claims_of_all (others w words)) c ≡ (if t then false else has_claim (claims_of_all words) c) → has_claim (claims_of_all (others w words)) c ≡ true → has_claim (claims_of_all words) c ≡ true
        was_in c true e is also = absurd (clash (sym also ∙ is))
        was_in c false e is also = sym is ∙ also

        joined : (c : Claim) (t : Bool) → has_claim (claims_of w) c ≡ t → (has_claim (claims_of x) c || (if t then false else has_claim (claims_of_all words) c)) ≡ (if t then false else (has_claim (claims_of x) c || has_claim (claims_of_all words) c))
        joined c true e = ap (λ (b : Bool). b || false) (not_true (has_claim (claims_of x) c) (λ inside. parts.1 c inside (of_all words w c (ap (λ (t : Bool). t || is_among words w) (sym here) ∙ among) e)))
        joined c false e = refl

-- one more address, which shares nothing with some
pub one_more_once : (words : List ℕ) (w : ℕ) → IsBlocks w → repeats (claims_of_all words) ≡ false → ((c : Claim) → has_claim (claims_of w) c ≡ true → has_claim (claims_of_all words) c ≡ true → ⊥) → repeats (claims_of_all (w ∷ words)) ≡ false
one_more_once words w is once apart = repeats-append (claims_of w) (claims_of_all words) (repeats-claims_of w is.some) once (apart_all (claims_of w) (claims_of_all words) apart)

-- an address of blocks uses no external file
pub claims_no_external : (w m : ℕ) → IsBlocks w → has_claim (claims_of w) (ExternalOf m) ≡ false
claims_no_external w m is = ap (λ (l : List Claim). has_claim l (ExternalOf m)) (claims_of-blocks w is.some is.block_kind) ∙ has_claim-no-external (file_selector w) (first_block w) (block_count w) m
