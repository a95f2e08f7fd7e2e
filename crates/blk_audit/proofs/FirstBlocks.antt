-- The first blocks that were met, as used blocks.
use Rattle.std.proofs.Common.{◌≡◌, ◌≢◌, ℕ, ◌+◌, ◌*◌, ◌<◌, Bool, true, false, ◌||◌, ◌&&◌, List, [], ◌∷◌, ◌++◌, map, cond, refl, sym, ap, ap₂, ◌∙◌, arith, if◌then◌else◌}
use Rattle.std.specs.Prelude.{◌==◌}
use Rattle.std.specs.BTreeMap.{is_at}
use Rattle.std.specs.List.{list_any, range_with_len}
use Rattle.std.specs.Ordering.{nat_cmp}
use Rattle.std.proofs.lemmas.Bool.{eqb-true, eq-eqb, and_parts}
use Rattle.spec_format.specs.Address.{kind_of, file_selector, first_block, block_count, block_word, external}
use Rattle.spec_format.specs.Claims.{Claim, BlockOf, claims_of, claims_of_all, has_claim, overlap}
use Rattle.spec_format.specs.BlockFiles.{is_among}
use Rattle.spec_format.proofs.Among.{is_among_more}
use Rattle.spec_format.proofs.Words.{AreFields, AreFields-of, kind_of-block_word, file_selector-block_word, first_block-block_word, block_count-block_word}
use Rattle.spec_folder.specs.Chains.{file_and_block}
use Rattle.blk_addr.specs.Claims.{is_claimed}
use Rattle.blk_addr.proofs.ClaimLemmas.{or_comm, or_false, cond_or, is_at-nat_cmp, claims_of-blocks, has_claim-append}
use Rattle.blk_addr.proofs.ClaimSetLemmas.{is_claimed-overlap}
use Rattle.blk_audit.specs.Chaining.{AreReached, first_block_of, is_block_met}
use Rattle.blk_audit.specs.declared.reaching.Reached.{Reached}
use Rattle.blk_audit.proofs.Truths.{both_or_neither}

fields : (w : ℕ) → AreFields 2 (file_selector w) (first_block w) 1
fields w = record { kind = omega arith; file = (AreFields-of w).file; start = (AreFields-of w).start; some = omega arith; most = omega arith }

some_first : (w : ℕ) → first_block_of w ≢ 0
unfolding block_word
some_first w e = omega (arith, e)

blocks_first : (w : ℕ) → kind_of (first_block_of w) ≢ external
blocks_first w e = let h : ◌≡◌ {A = ℕ} 2 0 = sym (kind_of-block_word 2 (file_selector w) (first_block w) 1 (fields w)) ∙ e in omega (arith, h)

pub claims_first : (w : ℕ) → claims_of (first_block_of w) ≡ BlockOf (file_selector w) (first_block w) ∷ []
claims_first w =
    claims_of-blocks (first_block_of w) (some_first w) (blocks_first w)
    ∙ ap₂ (λ (f s : ℕ). map (λ b. BlockOf f b) (range_with_len s (block_count (first_block_of w)))) (file_selector-block_word 2 (file_selector w) (first_block w) 1 (fields w)) (first_block-block_word 2 (file_selector w) (first_block w) 1 (fields w))
    ∙ ap (λ (n : ℕ). map (λ b. BlockOf (file_selector w) b) (range_with_len (first_block w) n)) (block_count-block_word 2 (file_selector w) (first_block w) 1 (fields w))

whole : (w : ℕ) → file_and_block w ≡ file_selector w * 65536 + first_block w
unfolding file_selector first_block
whole w = omega arith

pub file_by : (w v : ℕ) → file_and_block w ≡ file_and_block v → file_selector v ≡ file_selector w
unfolding file_selector
file_by w v e = omega (arith, e)

pub block_by : (w v : ℕ) → file_and_block w ≡ file_and_block v → first_block v ≡ first_block w
unfolding first_block
block_by w v e = omega (arith, e)

test : ℕ → ℕ → Bool
test w v = (file_selector v == file_selector w) && (first_block v == first_block w) || false

-- two words have one first block where their files and blocks are the same
same_first : (w v : ℕ) → test w v ≡ (file_and_block w == file_and_block v)
unfolding test
same_first w v = or_false ((file_selector v == file_selector w) && (first_block v == first_block w)) ∙ both_or_neither ((file_selector v == file_selector w) && (first_block v == first_block w)) (file_and_block w == file_and_block v) there back
  where
    there : ((file_selector v == file_selector w) && (first_block v == first_block w)) ≡ true → (file_and_block w == file_and_block v) ≡ true
    there h =
        let parts = and_parts (file_selector v == file_selector w) (first_block v == first_block w) h in
        eq-eqb (file_and_block w) (file_and_block v) (whole w ∙ ap₂ (λ (f s : ℕ). f * 65536 + s) (sym (eqb-true (file_selector v) (file_selector w) parts.0)) (sym (eqb-true (first_block v) (first_block w) parts.1)) ∙ sym (whole v))

    back : (file_and_block w == file_and_block v) ≡ true → ((file_selector v == file_selector w) && (first_block v == first_block w)) ≡ true
    back e =
        let same = eqb-true (file_and_block w) (file_and_block v) e in
        let f = eq-eqb (file_selector v) (file_selector w) (file_by w v same) in
        let b = eq-eqb (first_block v) (first_block w) (block_by w v same) in
        rw (f, b) refl

one_first : (w v : ℕ) → has_claim (BlockOf (file_selector w) (first_block w) ∷ []) (BlockOf (file_selector v) (first_block v)) ≡ test w v
unfolding has_claim test
one_first w v = refl

has_first : (words : List ℕ) (v : ℕ) → has_claim (claims_of_all (map first_block_of words)) (BlockOf (file_selector v) (first_block v)) ≡ is_block_met words v
unfolding has_claim
has_first [] v = refl
has_first (w ∷ words) v =
    has_claim-append (claims_of (first_block_of w)) (claims_of_all (map first_block_of words)) (BlockOf (file_selector v) (first_block v))
    ∙ ap₂ (λ (a b : Bool). a || b) (ap (λ (cs : List Claim). has_claim cs (BlockOf (file_selector v) (first_block v))) (claims_first w) ∙ one_first w v ∙ same_first w v) (has_first words v)

first_met : (words : List ℕ) (v : ℕ) → overlap (claims_of_all (map first_block_of words)) (claims_of (first_block_of v)) ≡ is_block_met words v
unfolding overlap
first_met words v =
    ap (λ (cs : List Claim). list_any (has_claim (claims_of_all (map first_block_of words))) cs) (claims_first v)
    ∙ or_false (has_claim (claims_of_all (map first_block_of words)) (BlockOf (file_selector v) (first_block v)))
    ∙ has_first words v

pub claimed_first : (reached : Reached) (v : ℕ) → AreReached reached → is_claimed reached.met (first_block_of v) ≡ is_block_met reached.words.items v
claimed_first reached v are = is_claimed-overlap reached.met (map first_block_of reached.words.items) (first_block_of v) are.met ∙ first_met reached.words.items v

pub map_last : (f : ℕ → ℕ) (xs : List ℕ) (x : ℕ) → map f (xs ++ x ∷ []) ≡ map f xs ++ f x ∷ []
map_last f [] x = refl
map_last f (y ∷ xs) x = ap (λ (t : List ℕ). f y ∷ t) (map_last f xs x)

cond_below : (t : Bool) (x n : ℕ) → 0 < n → x < n → (if t then 0 else x) < n
cond_below true x n some small = some
cond_below false x n some small = small

pub start_small : (w s : ℕ) → s ≡ (if kind_of w == external then 0 else first_block w) → s < 65536
start_small w s e = let h = cond_below (kind_of w == external) (first_block w) 65536 (omega arith) (AreFields-of w).start in omega (arith, h, e)

-- one more word is known
pub known_more : (old new : ℕ → Bool) (words : List ℕ) (w : ℕ) → ((v : ℕ) → new v ≡ cond (is_at (nat_cmp w) v) true (old v)) → ((v : ℕ) → old v ≡ is_among words v) → (v : ℕ) → new v ≡ is_among (words ++ w ∷ []) v
known_more old new words w added known v =
    added v ∙ cond_or (is_at (nat_cmp w) v) (old v)
    ∙ ap₂ (λ (a b : Bool). a || b) (is_at-nat_cmp w v) (known v)
    ∙ or_comm (v == w) (is_among words v)
    ∙ ap (λ (t : Bool). is_among words v || t) (both_or_neither (v == w) (w == v) (λ e. eq-eqb w v (sym (eqb-true v w e))) (λ e. eq-eqb v w (sym (eqb-true w v e))))
    ∙ sym (is_among_more words w v)
