-- The bits of a word that represent some blocks.
use Rattle.std.proofs.Common.{◌≡◌, ◌≢◌, ℕ, ◌+◌, ◌-◌, ◌*◌, ◌/◌, ◌%◌, ◌^◌, ◌<◌, ◌≤◌, List, length, Bool, true, false, ◌&&◌, ◌||◌, refl, sym, ap, ap₂, ◌∙◌, arith, min, max, inl, inr, ⊎_elim, bit_or, set, get_or}
use Rattle.std.specs.Prelude.{nat_lt, nat_le, ◌==◌, not, if◌then◌else◌, bit_and}
use Rattle.std.specs.Int.{bit_at, bit_not, trailing_zeros, w32}
use Rattle.std.proofs.lemmas.Bool.{cases_lt, lt-ltb, le-ltb, le-leb, leb-true}
use Rattle.std.proofs.lemmas.Bool.Decides.{nat_tests, eqb_tells}
use Rattle.std.proofs.lemmas.List.{get_or-set_other, get_or-set_same}
use Rattle.std.proofs.lemmas.Nat.Bits.{bit_at_mask_inside, bit_at_mask_below, bit_at_mask_above, bit_at_or, bit_at_and, bit_at_not, bit_at-lt, bit_at-zero, bit_at-trailing_zeros}
use Rattle.std.specs.Prelude.{slice_index}
use Rattle.blk_ranges.specs.PartMaps.{has_block}
use Rattle.blk_ranges.specs.Runs.{IsNextBlock}

-- the bits from low up to high of a word that begins at a block
pub between : (start first last low high k : ℕ) → k < 32 → high ≡ min (last - start) 32 → low ≡ min (first - start) high → (bit_at (2 ^ high - 2 ^ low) k == 1) ≡ (nat_le first (start + k) && nat_lt (start + k) last)
between start first last low high k below is_high is_low = elim (cases_lt k low) [
  | inl before ↦
      let bit : bit_at (2 ^ high - 2 ^ low) k ≡ 0 = bit_at_mask_below low high k before in
      let no : nat_le first (start + k) ≡ false = grind (arith, nat_tests) in
      rw (bit, no) refl
  | inr from ↦ elim (cases_lt k high) [
    | inl inside ↦
        let bit : bit_at (2 ^ high - 2 ^ low) k ≡ 1 = bit_at_mask_inside low high k from inside in
        let yes : nat_le first (start + k) ≡ true = grind (arith, nat_tests) in
        let also : nat_lt (start + k) last ≡ true = lt-ltb (start + k) last (omega arith) in
        rw (bit, yes, also) refl
    | inr behind ↦
        let bit : bit_at (2 ^ high - 2 ^ low) k ≡ 0 = bit_at_mask_above low high k behind in
        let no : nat_lt (start + k) last ≡ false = le-ltb (start + k) last (omega arith) in
        rw (bit, no) (and-none (nat_le first (start + k)))
  ]
]
  where
    and-none : (b : Bool) → false ≡ (b && false)
    and-none true = refl
    and-none false = refl

bit-or : (a b : ℕ) → a < 2 → b < 2 → (max a b == 1) ≡ ((a == 1) || (b == 1))
bit-or a b la lb = elim (cases_lt a 1) [
  | inl none ↦ let is : a ≡ 0 = omega arith in let rest : max 0 b ≡ b = omega arith in rw (is, rest) refl
  | inr one ↦ let is : a ≡ 1 = omega arith in let most : max 1 b ≡ 1 = omega arith in rw (is, most) refl
]

or-false : (t : Bool) → t ≡ (t || false)
or-false true = refl
or-false false = refl

-- a word with more bits has more blocks
pub has_block-with_bits : (words : List ℕ) (i word bits b : ℕ) → i < length words → word ≡ get_or words i 0 → has_block (set words i (bit_or word bits)) b ≡ (has_block words b || (b / 32 == i && bit_at bits (b % 32) == 1))
unfolding has_block
has_block-with_bits words i word bits b inside is = ⊎_elim
    (λ (same : ((b / 32 == i) ≡ true) × (b / 32 ≡ i)).
    ap (λ (place : ℕ). bit_at (get_or (set words i (bit_or word bits)) place 0) (b % 32) == 1) same.1
    ∙ ap (λ (w : ℕ). bit_at w (b % 32) == 1) (get_or-set_same words i (bit_or word bits) 0 inside)
    ∙ ap (λ (x : ℕ). x == 1) (bit_at_or word bits (b % 32))
    ∙ bit-or (bit_at word (b % 32)) (bit_at bits (b % 32)) (bit_at-lt word (b % 32)) (bit_at-lt bits (b % 32))
    ∙ ap₂ (λ (w : ℕ) (t : Bool). (bit_at w (b % 32) == 1) || (t && (bit_at bits (b % 32) == 1))) is (sym same.0)
    ∙ ap (λ (place : ℕ). (bit_at (get_or words place 0) (b % 32) == 1) || ((b / 32 == i) && (bit_at bits (b % 32) == 1))) (sym same.1))
    (λ (apart : ((b / 32 == i) ≡ false) × (b / 32 ≢ i)).
    ap (λ (w : ℕ). bit_at w (b % 32) == 1) (get_or-set_other words i (b / 32) (bit_or word bits) 0 apart.1)
    ∙ or-false (bit_at (get_or words (b / 32) 0) (b % 32) == 1)
    ∙ ap (λ (t : Bool). (bit_at (get_or words (b / 32) 0) (b % 32) == 1) || (t && (bit_at bits (b % 32) == 1))) (sym apart.0))
    (eqb_tells (b / 32) i)

-- one more word
pub next-word : (first last i b : ℕ) (bits : ℕ) (was now before : Bool) → i < 32 → ((k : ℕ) → k < 32 → (bit_at bits k == 1) ≡ (nat_le first (32 * i + k) && nat_lt (32 * i + k) last))
    → was ≡ (before || (nat_lt b (32 * i) && (nat_le first b && nat_lt b last))) → now ≡ (was || (b / 32 == i && bit_at bits (b % 32) == 1))
    → now ≡ (before || (nat_lt b (32 * (i + 1)) && (nat_le first b && nat_lt b last)))
next-word first last i b bits was now before inside are is_was is_now = ⊎_elim
    (λ (same : ((b / 32 == i) ≡ true) × (b / 32 ≡ i)).
    let at : 32 * i + b % 32 ≡ b = omega (arith, same.1) in
    let bit : (bit_at bits (b % 32) == 1) ≡ (nat_le first b && nat_lt b last) = are (b % 32) (omega arith) ∙ ap (λ (x : ℕ). nat_le first x && nat_lt x last) at in
    let not_yet : nat_lt b (32 * i) ≡ false = le-ltb b (32 * i) (omega (arith, same.1)) in
    let next : nat_lt b (32 * (i + 1)) ≡ true = lt-ltb b (32 * (i + 1)) (omega (arith, same.1)) in
    is_now ∙ ap (λ (t : Bool). t || ((b / 32 == i) && (bit_at bits (b % 32) == 1))) is_was ∙ rw (same.0, bit, not_yet, next) (either before (nat_le first b && nat_lt b last)))
    (λ (apart : ((b / 32 == i) ≡ false) × (b / 32 ≢ i)).
    let stays : nat_lt b (32 * i) ≡ nat_lt b (32 * (i + 1)) = elim (cases_lt b (32 * i)) [
      | inl below ↦ lt-ltb b (32 * i) below ∙ sym (lt-ltb b (32 * (i + 1)) (omega arith))
      | inr above ↦ le-ltb b (32 * i) above ∙ sym (le-ltb b (32 * (i + 1)) (farther b i above apart.1))
    ] in
    is_now ∙ ap (λ (t : Bool). was || (t && (bit_at bits (b % 32) == 1))) apart.0 ∙ sym (or-false was) ∙ is_was ∙ ap (λ (t : Bool). before || (t && (nat_le first b && nat_lt b last))) stays)
    (eqb_tells (b / 32) i)
  where
    either : (x y : Bool) → ((x || (false && y)) || (true && y)) ≡ (x || (true && y))
    either true y = refl
    either false y = refl

    farther : (b i : ℕ) → 32 * i ≤ b → b / 32 ≢ i → 32 * (i + 1) ≤ b
    farther b i above apart = elim (cases_lt b (32 * (i + 1))) [ inl below ↦ absurd (apart (omega arith)) | inr more ↦ more ]

-- all words
pub all-words : (first last b : ℕ) (now before : Bool) → last ≤ 1024 → now ≡ (before || (nat_lt b 1024 && (nat_le first b && nat_lt b last))) → now ≡ (before || (nat_le first b && nat_lt b last))
all-words first last b now before most is = is ∙ ap (λ (t : Bool). before || t) (elim (cases_lt b 1024) [
  | inl inside ↦ rw (lt-ltb b 1024 inside) refl
  | inr behind ↦ let none : nat_lt b last ≡ false = le-ltb b last (omega arith) in rw (le-ltb b 1024 behind, none) (no-more (nat_le first b))
])
  where
    no-more : (x : Bool) → false ≡ (x && false)
    no-more true = refl
    no-more false = refl

-- the bits that a word leaves out
pub left-out : (word k : ℕ) → word < 2 ^ 32 → k < 32 → (bit_at (bit_not w32 word) k == 1) ≡ not (bit_at word k == 1)
left-out word k small below = ap (λ (x : ℕ). x == 1) (bit_at_not w32 word k small below) ∙ other (bit_at word k) (bit_at-lt word k)
  where
    other : (a : ℕ) → a < 2 → (1 - a == 1) ≡ not (a == 1)
    other a la = elim (cases_lt a 1) [
      | inl none ↦ let is : a ≡ 0 = omega arith in rw is refl
      | inr one ↦ let is : a ≡ 1 = omega arith in rw is refl
    ]

-- the bits of a word are its blocks
pub has_block-word : (words : List ℕ) (i k : ℕ) → k < 32 → (bit_at (slice_index words i) k == 1) ≡ has_block words (32 * i + k)
unfolding has_block
has_block-word words i k below =
    let word : i ≡ (32 * i + k) / 32 = omega arith in
    let bit : k ≡ (32 * i + k) % 32 = omega arith in
    ap (λ (x : ℕ). bit_at (slice_index words x) k == 1) word ∙ ap (λ (x : ℕ). bit_at (slice_index words ((32 * i + k) / 32)) x == 1) bit

-- the bits of two words
pub both-bits : (a b k : ℕ) (x y : Bool) → (bit_at a k == 1) ≡ x → (bit_at b k == 1) ≡ y → (bit_at (bit_and a b) k == 1) ≡ (y && x)
both-bits a b k x y is_x is_y = ap (λ (n : ℕ). n == 1) (bit_at_and a b k) ∙ least (bit_at a k) (bit_at b k) (bit_at-lt a k) (bit_at-lt b k) ∙ ap₂ (λ (p q : Bool). q && p) is_x is_y
  where
    least : (m n : ℕ) → m < 2 → n < 2 → (min m n == 1) ≡ ((n == 1) && (m == 1))
    least m n lm ln = elim (cases_lt n 1) [
      | inl none ↦ let is : n ≡ 0 = omega arith in let at : min m 0 ≡ 0 = omega arith in rw (is, at) refl
      | inr one ↦ let is : n ≡ 1 = omega arith in let at : min m 1 ≡ m = omega arith in rw (is, at) refl
    ]

wanted-true : (present has : Bool) → (if present then has else not has) ≡ true → has ≡ present
wanted-true true has e = e
wanted-true false true e = cc
wanted-true false false e = refl

wanted-false : (present has : Bool) → (if present then has else not has) ≡ false → has ≡ not present
wanted-false true has e = e
wanted-false false true e = refl
wanted-false false false e = cc

and-parts : (a b : Bool) → (a && b) ≡ true → (a ≡ true) × (b ≡ true)
and-parts true b e = (refl, e)
and-parts false b e = cc

and-second : (a b : Bool) → a ≡ true → (a && b) ≡ false → b ≡ false
and-second true b is e = e
and-second false b is e = cc

-- what the bits of a word say of its blocks from one on
abbrev pub SaysWord : List ℕ → Bool → ℕ → ℕ → ℕ → Type 0
SaysWord words present from i bits = (k : ℕ) → k < 32 → (bit_at bits k == 1) ≡ (nat_le from (32 * i + k) && (if present then has_block words (32 * i + k) else not (has_block words (32 * i + k))))

-- a bit that is not set
absent-bit : (words : List ℕ) (present : Bool) (from i bits b : ℕ) → SaysWord words present from i bits → from ≤ b → b / 32 ≡ i → bit_at bits (b % 32) ≡ 0 → has_block words b ≡ not present
absent-bit words present from i bits b says order word none =
    let at : 32 * i + b % 32 ≡ b = omega arith in
    let said : false ≡ (nat_le from (32 * i + b % 32) && (if present then has_block words (32 * i + b % 32) else not (has_block words (32 * i + b % 32)))) = ap (λ (x : ℕ). x == 1) (sym none) ∙ says (b % 32) (omega arith) in
    let there : false ≡ (nat_le from b && (if present then has_block words b else not (has_block words b))) = said ∙ ap (λ (x : ℕ). nat_le from x && (if present then has_block words x else not (has_block words x))) at in
    wanted-false present (has_block words b) (and-second (nat_le from b) _ (le-leb from b order) (sym there))

-- the lowest bit is the first block
pub next-in-word : (words : List ℕ) (present : Bool) (from i bits : ℕ) → i < 32 → ((b : ℕ) → from ≤ b → b < 32 * i → has_block words b ≡ not present) → SaysWord words present from i bits → 0 < bits → bits < 2 ^ 32
    → IsNextBlock words present from (32 * i + trailing_zeros w32 bits)
next-in-word words present from i bits inside before says some small =
    let low = bit_at-trailing_zeros w32 bits some small in
    let n : ℕ = trailing_zeros w32 bits in
    let below : n < 32 = low.0 in
    let set_bit : true ≡ (nat_le from (32 * i + n) && (if present then has_block words (32 * i + n) else not (has_block words (32 * i + n)))) = ap (λ (x : ℕ). x == 1) (sym low.1) ∙ says n below in
    let parts = and-parts (nat_le from (32 * i + n)) _ (sym set_bit) in
    record {
      within = omega (arith, below, inside);
      before = λ b order earlier. elim (cases_lt b (32 * i)) [
        | inl in_front ↦ before b order in_front
        | inr here ↦ let word : b / 32 ≡ i = omega (arith, below) in absent-bit words present from i bits b says order word (low.2 (b % 32) (omega (arith, word)))
      ];
      after = λ more. leb-true from (32 * i + n) parts.0;
      here = λ more. wanted-true present (has_block words (32 * i + n)) parts.1;
    }

-- no bit, no block
pub none-in-word : (words : List ℕ) (present : Bool) (from i bits : ℕ) → ((b : ℕ) → from ≤ b → b < 32 * i → has_block words b ≡ not present) → SaysWord words present from i bits → bits ≡ 0
    → (b : ℕ) → from ≤ b → b < 32 * (i + 1) → has_block words b ≡ not present
none-in-word words present from i bits before says none b order below = elim (cases_lt b (32 * i)) [
  | inl in_front ↦ before b order in_front
  | inr here ↦ absent-bit words present from i bits b says order (omega arith) (ap (λ (x : ℕ). bit_at x (b % 32)) none ∙ bit_at-zero (b % 32))
]
