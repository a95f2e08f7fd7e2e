-- Where a state is kept there are fewer external files than numbers for them.
use Rattle.std.proofs.Common.{◌≡◌, ⊎_elim, ℕ, zero, suc, ◌+◌, ◌*◌, ◌<◌, ◌≤◌, List, [], ◌∷◌, length, refl, ap, ◌∙◌, arith, Bool, true, false, cond}
use Rattle.std.specs.Prelude.{◌||◌, ◌==◌, if◌then◌else◌}
use Rattle.std.specs.List.{sum_by}
use Rattle.std.proofs.lemmas.Bool.{cases_Bool}
use Rattle.std.proofs.lemmas.Bool.Decides.{nat_tests}
use Rattle.std.proofs.lemmas.List.Sums.{sum_by-cons}
use Rattle.spec_image.specs.Image.{External, Image, has_file}
use Rattle.blk_model.specs.Room.{items}
use Rattle.spec_format.specs.Address.{external, external_number, kind_of}
use Rattle.spec_format.specs.Claims.{Claim, ExternalOf, claims_of, claims_of_all, has_claim, same_claim}
use Rattle.law_folder.proofs.claims.ClaimLists.{claim-append, claim-head, no-claim}
use Rattle.blk_external.specs.Numbers.{taken_count}
use Rattle.law_state.specs.Keeping.{all_loaded, words_in_use}
use Rattle.law_state.proofs.Allocating.{blocks-only}
use Rattle.law_state.proofs.Bounds.{words-few}
use Rattle.law_state.proofs.MakingFiles.{its-claims}
use Rattle.blk_object.specs.KeptExternalFiles.{KeptStatesHaveFreeNumbers}

-- how many of the numbers 1 to n pass a test
tally : (ℕ → Bool) → ℕ → ℕ
tally p zero = 0
tally p (suc n) = tally p n + (if p (suc n) then 1 else 0)

one : Bool → ℕ
one t = if t then 1 else 0

taken-is : (image : Image) (n : ℕ) → taken_count image n ≡ tally (λ m. has_file image (External m)) n
unfolding taken_count tally
taken-is image zero = refl
taken-is image (suc n) = ap (λ (c : ℕ). c + (if has_file image (External (suc n)) then 1 else 0)) (taken-is image n)

tally-same : (p q : ℕ → Bool) (n : ℕ) → ((m : ℕ) → m ≤ n → p m ≡ q m) → tally p n ≡ tally q n
unfolding tally
tally-same p q zero same = refl
tally-same p q (suc n) same = let rest = tally-same p q n (λ m small. same m (omega (arith, small))) in λ i. rest i + (if same (suc n) (omega arith) i then 1 else 0)

tally-none : (p : ℕ → Bool) (n : ℕ) → ((m : ℕ) → p m ≡ false) → tally p n ≡ 0
unfolding tally
tally-none p zero none = refl
tally-none p (suc n) none = let e = none (suc n) in let rest = tally-none p n none in rw (e, rest) refl

tally-or : (p q : ℕ → Bool) (n : ℕ) → tally (λ m. p m || q m) n ≤ tally p n + tally q n
unfolding tally
tally-or p q zero = omega arith
tally-or p q (suc n) = let rest = tally-or p q n in let here = both (p (suc n)) (q (suc n)) in omega (arith, rest, here) where
  both : (a b : Bool) → (if a || b then 1 else 0) ≤ (if a then 1 else 0) + (if b then 1 else 0)
  both true true = omega arith
  both true false = omega arith
  both false true = omega arith
  both false false = omega arith

-- one number is one at most
before-none : (k n : ℕ) → n < k → tally (λ m. m == k) n ≡ 0
unfolding tally
before-none k zero small = refl
before-none k (suc n) small = let rest = before-none k n (omega (arith, small)) in let e : (suc n == k) ≡ false = grind (arith, nat_tests) in rw (e, rest) refl

point-once : (k n : ℕ) → tally (λ m. m == k) n ≤ 1
unfolding tally
point-once k zero = omega arith
point-once k (suc n) = ⊎_elim
    (λ (e : (suc n == k) ≡ true). let small : n < k = grind (arith, nat_tests) in let rest = before-none k n small in let now : ◌≡◌ {A = ℕ} (if suc n == k then 1 else 0) 1 = rw e refl in omega (arith, rest, now))
    (λ (e : (suc n == k) ≡ false). let rest = point-once k n in let now : ◌≡◌ {A = ℕ} (if suc n == k then 1 else 0) 0 = rw e refl in omega (arith, rest, now))
    (cases_Bool (suc n == k))

nothing : (w m : ℕ) → (w == 0) ≡ true → has_claim (claims_of w) (ExternalOf m) ≡ false
unfolding claims_of
nothing w m z = rw z (no-claim (ExternalOf m))

-- a word uses one number at most, and none where it names blocks
word-once : (w n : ℕ) → tally (λ m. has_claim (claims_of w) (ExternalOf m)) n ≤ cond (kind_of w == external) 1 0
word-once w n = ⊎_elim
    (λ (e : (kind_of w == external) ≡ true).
    let few : tally (λ m. has_claim (claims_of w) (ExternalOf m)) n ≤ 1 = ⊎_elim
    (λ (z : (w == 0) ≡ true). let none = tally-none (λ m. has_claim (claims_of w) (ExternalOf m)) n (λ m. nothing w m z) in omega (arith, none))
    (λ (z : (w == 0) ≡ false). let same = tally-same (λ m. has_claim (claims_of w) (ExternalOf m)) (λ m. m == external_number w) n (λ m small. its m z e) in let point = point-once (external_number w) n in omega (arith, same, point))
    (cases_Bool (w == 0)) in
    let now : ◌≡◌ {A = ℕ} (cond (kind_of w == external) 1 0) 1 = rw e refl in omega (arith, few, now))
    (λ (e : (kind_of w == external) ≡ false). let none = tally-none (λ m. has_claim (claims_of w) (ExternalOf m)) n (λ m. blocks-only w m e) in omega (arith, none))
    (cases_Bool (kind_of w == external))
  where
    or-none : (b : Bool) → (b || false) ≡ b
    or-none true = refl
    or-none false = refl

    its : (m : ℕ) → (w == 0) ≡ false → (kind_of w == external) ≡ true → has_claim (claims_of w) (ExternalOf m) ≡ (m == external_number w)
    its m z e = ap (λ (cs : List Claim). has_claim cs (ExternalOf m)) (its-claims w z e) ∙ claim-head (ExternalOf (external_number w)) [] (ExternalOf m)
        ∙ ap (λ (b : Bool). same_claim (ExternalOf m) (ExternalOf (external_number w)) || b) (no-claim (ExternalOf m)) ∙ or-none (m == external_number w)

words-once : (words : List ℕ) (n : ℕ) → tally (λ m. has_claim (claims_of_all words) (ExternalOf m)) n ≤ sum_by (λ w. cond (kind_of w == external) 1 0) words
words-once [] n = let none = tally-none (λ m. has_claim [] (ExternalOf m)) n (λ m. no-claim (ExternalOf m)) in omega (arith, none)
words-once (w ∷ words) n =
    let split = tally-same (λ m. has_claim (claims_of_all (w ∷ words)) (ExternalOf m)) (λ m. has_claim (claims_of w) (ExternalOf m) || has_claim (claims_of_all words) (ExternalOf m)) n (λ m small. claim-append (claims_of w) (claims_of_all words) (ExternalOf m)) in
    let both = tally-or (λ m. has_claim (claims_of w) (ExternalOf m)) (λ m. has_claim (claims_of_all words) (ExternalOf m)) n in
    let mine = word-once w n in
    let rest = words-once words n in
    let sum = sum_by-cons (λ v. cond (kind_of v == external) 1 0) w words in
    omega (arith, split, both, mine, rest, sum)

pub kept-have-free : KeptStatesHaveFreeNumbers
kept-have-free state layout unlinked image k few =
    let words : List ℕ = words_in_use unlinked (all_loaded state layout k.numbers) in
    let counted = taken-is image 268435455 in
    let claimed = tally-same (λ m. has_file image (External m)) (λ m. has_claim (claims_of_all words) (ExternalOf m)) 268435455 (λ m small. k.files.externals m (omega (arith, small))) in
    let once = words-once words 268435455 in
    let all = words-few state layout unlinked image k external in
    bound (items state) counted claimed once all few
  where
    bound : {a b c d : ℕ} (e : ℕ) → a ≡ b → b ≡ c → c ≤ d → d ≤ 5 * e + length unlinked → 5 * e + length unlinked < 268435455 → a < 268435455
    bound e counted claimed once all few = omega (arith, counted, claimed, once, all, few)
