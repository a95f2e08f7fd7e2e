-- What is read of blocks whose bytes are the same, and how data fits into its blocks.
use Rattle.std.proofs.Common.{◌≡◌, ℕ, zero, suc, ◌+◌, ◌-◌, ◌*◌, ◌/◌, ◌≤◌, ◌≢◌, List, ◌∷◌, refl, ap, ap₂, ◌∙◌, arith, ◌⊎◌, inl, inr, ⊎_elim, Bool, true, false, cond}
use Rattle.std.specs.Prelude.{if◌then◌else◌, ◌==◌, nat_le}
use Rattle.std.proofs.lemmas.Bool.{eq-eqb}
use Rattle.std.proofs.lemmas.Bool.Decides.{nat_tests}
use Rattle.spec_image.specs.Bytes.{word_at, words_at}
use Rattle.spec_format.specs.Address.{kind_of, block_count, byte_size, external, block_size}
use Rattle.spec_format.specs.Storage.{is_storage, kind_for, blocks_for}
use Rattle.spec_format.specs.Records.{node_in, entry_in}
use Rattle.spec_image.proofs.Words.{SameFrom, same-word}

pub part_of : (i n j m : ℕ) (f g : ℕ → ℕ) → SameFrom i n f g → i ≤ j → j + m ≤ i + n → SameFrom j m f g
part_of i n j m f g same low high = λ k a b. same k (omega arith) (omega arith)

pub same-words : (n i : ℕ) (f g : ℕ → ℕ) → SameFrom i (4 * n) f g → words_at f i n ≡ words_at g i n
unfolding words_at
same-words zero i f g same = refl
same-words (suc n) i f g same = ap₂ (λ (x : ℕ) (xs : List ℕ). x ∷ xs) (same-word f g i (part_of i (4 * suc n) i 4 f g same (omega arith) (omega arith))) (same-words n (i + 4) f g (part_of i (4 * suc n) (i + 4) (4 * n) f g same (omega arith) (omega arith)))

module _ (i : ℕ) (f g : ℕ → ℕ) where
  pub same-node_in : SameFrom i 36 f g → node_in f i ≡ node_in g i
  unfolding node_in
  same-node_in same =
      let w : (d : ℕ) → d + 4 ≤ 36 → word_at f (i + d) ≡ word_at g (i + d) = λ d h. same-word f g (i + d) (part_of i 36 (i + d) 4 f g same (omega arith) (omega arith)) in
      let w0 : word_at f i ≡ word_at g i = same-word f g i (part_of i 36 i 4 f g same (omega arith) (omega arith)) in
      let w12 : word_at f (i + 8 + 4) ≡ word_at g (i + 8 + 4) = same-word f g (i + 8 + 4) (part_of i 36 (i + 8 + 4) 4 f g same (omega arith) (omega arith)) in
      λ k. record {
        last_used = w0 k + 4294967296 * w 4 (omega arith) k;
        last_modified = w 8 (omega arith) k + 4294967296 * w12 k;
        next = w 16 (omega arith) k;
        prev = w 20 (omega arith) k;
        contents = w 24 (omega arith) k;
        dirty = w 28 (omega arith) k;
        self_hash = w 32 (omega arith) k;
      }

  pub same-entry_in : SameFrom i 96 f g → entry_in f i ≡ entry_in g i
  unfolding entry_in
  same-entry_in same =
      let w : (d : ℕ) → d + 4 ≤ 96 → word_at f (i + d) ≡ word_at g (i + d) = λ d h. same-word f g (i + d) (part_of i 96 (i + d) 4 f g same (omega arith) (omega arith)) in
      let w0 : word_at f i ≡ word_at g i = same-word f g i (part_of i 96 i 4 f g same (omega arith) (omega arith)) in
      let w28 : word_at f (i + 24 + 4) ≡ word_at g (i + 24 + 4) = same-word f g (i + 24 + 4) (part_of i 96 (i + 24 + 4) 4 f g same (omega arith) (omega arith)) in
      let four : (d : ℕ) → d + 16 ≤ 96 → words_at f (i + d) 4 ≡ words_at g (i + d) 4 = λ d h. same-words 4 (i + d) f g (part_of i 96 (i + d) 16 f g same (omega arith) (omega arith)) in
      λ k. record {
        hash = w0 k;
        next = w 4 (omega arith) k;
        rankings_node = w 8 (omega arith) k;
        reuse_count = w 12 (omega arith) k;
        refetch_count = w 16 (omega arith) k;
        state = w 20 (omega arith) k;
        creation_time = w 24 (omega arith) k + 4294967296 * w28 k;
        key_len = w 32 (omega arith) k;
        long_key = w 36 (omega arith) k;
        data_size = four 40 (omega arith) k;
        data_addr = four 56 (omega arith) k;
        flags = w 72 (omega arith) k;
        pad = four 76 (omega arith) k;
        self_hash = w 92 (omega arith) k;
      }

-- a value under a test
pub same_under : {A : Type 0} (b : Bool) (x y z : A) → (b ≡ true → x ≡ y) → cond b x z ≡ cond b y z
same_under true x y z same = same refl
same_under false x y z same = refl

-- the bytes of the blocks of a kind
pub room_is : (w type : ℕ) → kind_of w ≡ type → byte_size w ≡ block_count w * block_size type
unfolding byte_size
room_is w type e = ap (λ (t : ℕ). block_count w * block_size t) e

-- data fits into its blocks
fits_at : (size : ℕ) (b c d : Bool) (k : ℕ) → k ≡ (if b then 2 else if c then 3 else if d then 4 else 0) → (k ≡ 0) ⊎ (size ≤ (if k == 0 then 0 else (size + block_size k - 1) / block_size k) * block_size k)
unfolding block_size
fits_at size true c d k e = rw e (inr (omega arith))
fits_at size false true d k e = rw e (inr (omega arith))
fits_at size false false true k e = rw e (inr (omega arith))
fits_at size false false false k e = inl e

pub fits_blocks : (size : ℕ) → (kind_for size ≡ external) ⊎ (size ≤ blocks_for size * block_size (kind_for size))
unfolding blocks_for kind_for
fits_blocks size = fits_at size (nat_le size 1023) (nat_le size 4095) (nat_le size 16384) (kind_for size) refl

-- what is the storage of a size
storage_facts : (size w : ℕ) → is_storage size w ≡ true → kind_of w ≢ external → (size ≡ 0) ⊎ ((kind_of w ≡ kind_for size) × (block_count w ≡ blocks_for size))
unfolding is_storage
storage_facts size w h apart = grind (arith, nat_tests)

-- the bytes of data lie inside its blocks
pub storage_inside : (size w : ℕ) → is_storage size w ≡ true → kind_of w ≢ external → size ≤ byte_size w
unfolding byte_size
storage_inside size w h apart =
    ⊎_elim (λ (e : size ≡ 0). omega arith)
    (λ (e : (kind_of w ≡ kind_for size) × (block_count w ≡ blocks_for size)).
    ⊎_elim (λ (x : kind_for size ≡ external). absurd (apart (e.0 ∙ x))) (λ (x : size ≤ blocks_for size * block_size (kind_for size)). rw (e.0, e.1) x) (fits_blocks size))
    (storage_facts size w h apart)

-- a value under a test that fails
pub same_else : {A : Type 0} (b : Bool) (x y z : A) → (b ≡ false → x ≡ y) → cond b z x ≡ cond b z y
same_else true x y z same = refl
same_else false x y z same = same refl

pub not_same : (m n : ℕ) → (m == n) ≡ false → m ≢ n
not_same m n e is = let yes : (m == n) ≡ true = eq-eqb m n is in cc
