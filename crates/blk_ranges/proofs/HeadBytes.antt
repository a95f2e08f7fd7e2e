-- Words in bytes, and the heads of indexes.
use Rattle.std.proofs.Common.{◌≡◌, ℕ, zero, suc, ◌+◌, ◌-◌, ◌*◌, ◌/◌, ◌%◌, ◌^◌, ◌<◌, ◌≤◌, List, [], ◌∷◌, ◌++◌, length, take, drop, replicate, Bool, true, false, ◌&&◌, refl, sym, ap, ap₂, ◌∙◌, arith, length-drop, append-nil}
use Rattle.std.specs.Prelude.{◌==◌, nat_lt, nat_le, slice_index}
use Rattle.std.specs.List.{list_all, flat_map}
use Rattle.std.proofs.lemmas.Bool.{eqb-true, eq-eqb, lt-ltb, le-leb}
use Rattle.std.proofs.lemmas.List.{get_or-drop, ext_get_or, drop_all, take_all}
use borrow.Rule.Slice.PartMut.{put_mid}
use Rattle.byteorder.specs.Endian.{little_bytes, little_number}
use Rattle.spec_image.specs.Bytes.{content, word_at, long_at, words_at, word_bytes}
use Rattle.spec_image.proofs.Words.{range-is}
use Rattle.spec_format.specs.Headers.{index_magic}
use Rattle.spec_format.specs.Records.{bytes_of_words}
use Rattle.spec_format.specs.SparseIndex.{is_index_head, sparse_magic_of, parent_key_len_of, last_block_len_of}
use Rattle.spec_format.proofs.Bodies.{range-words}
use Rattle.blk_ranges.specs.PartMaps.{head_words}

-- words as they are written
pub written-words : (ws : List ℕ) → flat_map (little_bytes 4) ws ≡ bytes_of_words ws
written-words [] = refl
written-words (w ∷ ws) = ap (λ (l : List ℕ). word_bytes w ++ l) (written-words ws)

pub length-words : (ws : List ℕ) → length (bytes_of_words ws) ≡ 4 * length ws
length-words [] = refl
length-words (w ∷ ws) = let rest = length-words ws in omega (arith, rest)

-- words are written as bytes below 256
pub small-bytes : (ws : List ℕ) (i : ℕ) → content (bytes_of_words ws) i < 256
small-bytes [] i = omega arith
small-bytes (w ∷ ws) zero = omega arith
small-bytes (w ∷ ws) (suc zero) = omega arith
small-bytes (w ∷ ws) (suc (suc zero)) = omega arith
small-bytes (w ∷ ws) (suc (suc (suc zero))) = omega arith
small-bytes (w ∷ ws) (suc (suc (suc (suc i)))) = small-bytes ws i

-- a word of them is read
pub word-in : (ws rest : List ℕ) (k : ℕ) → k < length ws → word_at (content (bytes_of_words ws ++ rest)) (4 * k) ≡ slice_index ws k % 2 ^ 32
word-in [] rest k inside = absurd (omega arith)
word-in (w ∷ ws) rest zero inside = omega arith
word-in (w ∷ ws) rest (suc k) inside =
    let tail : List ℕ = bytes_of_words ws ++ rest in
    let all : List ℕ = bytes_of_words (w ∷ ws) ++ rest in
    let at : (j : ℕ) → content all (4 + j) ≡ content tail j = λ j. sym (get_or-drop 4 all j 0) in
    let place : (j : ℕ) → 4 * suc k + j ≡ 4 + (4 * k + j) = λ j. omega arith in
    let byte : (j : ℕ) → content all (4 * suc k + j) ≡ content tail (4 * k + j) = λ j. ap (content all) (place j) ∙ at (4 * k + j) in
    let none : 4 * suc k + 0 ≡ 4 * suc k = omega arith in
    let none_there : 4 * k + 0 ≡ 4 * k = omega arith in
    let first : content all (4 * suc k) ≡ content tail (4 * k) = ap (content all) (sym none) ∙ byte 0 ∙ ap (content tail) none_there in
    let before : word_at (content tail) (4 * k) ≡ slice_index ws k % 2 ^ 32 = word-in ws rest k (omega arith) in
    omega (arith, first, byte 1, byte 2, byte 3, before)

-- the words of a content
pub get-words : (f : ℕ → ℕ) (i n k : ℕ) → k < n → slice_index (words_at f i n) k ≡ word_at f (i + 4 * k)
unfolding words_at
get-words f i zero k inside = absurd (omega arith)
get-words f i (suc n) zero inside = let at : i ≡ i + 4 * 0 = omega arith in ap (word_at f) at
get-words f i (suc n) (suc k) inside = let at : i + 4 + 4 * k ≡ i + 4 * suc k = omega arith in get-words f (i + 4) n k (omega arith) ∙ ap (word_at f) at

length-words_at : (f : ℕ → ℕ) (i n : ℕ) → length (words_at f i n) ≡ n
unfolding words_at
length-words_at f i zero = refl
length-words_at f i (suc n) = ap suc (length-words_at f (i + 4) n)

pub words-add : (f : ℕ → ℕ) (i m n : ℕ) → words_at f i (m + n) ≡ words_at f i m ++ words_at f (i + 4 * m) n
unfolding words_at
words-add f i zero n =
    let none : 0 + n ≡ n = omega arith in
    let at : i ≡ i + 4 * 0 = omega arith in
    ap₂ (λ (x y : ℕ). words_at f x y) at none
words-add f i (suc m) n =
    let more : suc m + n ≡ suc (m + n) = omega arith in
    let at : i + 4 + 4 * m ≡ i + 4 * suc m = omega arith in
    ap (words_at f i) more ∙ ap (λ (l : List ℕ). word_at f i ∷ l) (words-add f (i + 4) m n ∙ ap (λ (x : ℕ). words_at f (i + 4) m ++ words_at f x n) at)

-- words that are known one by one
pub words-known : (f : ℕ → ℕ) (i n : ℕ) (ws : List ℕ) → length ws ≡ n → ((k : ℕ) → k < n → slice_index ws k ≡ word_at f (i + 4 * k)) → words_at f i n ≡ ws
words-known f i n ws enough are =
    ext_get_or 0 (words_at f i n) ws (length-words_at f i n ∙ sym enough) (λ k inside. get-words f i n k (omega (arith, length-words_at f i n)) ∙ sym (are k (omega (arith, length-words_at f i n))))

-- bytes are those of their words
pub prefix-words : (bytes : List ℕ) (n : ℕ) → ((i : ℕ) → content bytes i < 256) → 4 * n ≤ length bytes → take (4 * n) bytes ≡ bytes_of_words (words_at (content bytes) 0 n)
prefix-words bytes n small enough = sym (range-words n 0 (content bytes) small ∙ range-is (4 * n) 0 bytes (omega arith))

-- Heads.

zeros-known : (xs : List ℕ) → list_all (λ v. v == 0) xs ≡ true → xs ≡ replicate (length xs) 0
zeros-known [] all = refl
zeros-known (x ∷ xs) all = let parts = both (x == 0) _ all in ap₂ (λ (y : ℕ) (ys : List ℕ). y ∷ ys) (eqb-true x 0 parts.0) (zeros-known xs parts.1)
  where
    both : (a b : Bool) → (a && b) ≡ true → (a ≡ true) × (b ≡ true)
    both true b e = (refl, e)
    both false b e = cc

-- the words of a right head
pub head-known : (f : ℕ → ℕ) → ((i : ℕ) → f i < 256) → is_index_head f ≡ true → words_at f 0 16 ≡ head_words (long_at f 0) (parent_key_len_of f) (word_at f 16) (last_block_len_of f)
unfolding words_at
head-known f small right =
    let parts : (sparse_magic_of f ≡ index_magic) × (words_at f 24 10 ≡ replicate 10 0) = told right in
    let low : word_at f 0 ≡ long_at f 0 % 2 ^ 32 = omega (arith, small 0, small 1, small 2, small 3) in
    let high : word_at f 4 ≡ long_at f 0 / 2 ^ 32 = omega (arith, small 0, small 1, small 2, small 3) in
    λ k. low k ∷ high k ∷ parts.0 k ∷ word_at f 12 ∷ word_at f 16 ∷ word_at f 20 ∷ parts.1 k
  where
    all_true : (magic signature zeros some short : Bool) → (magic && signature && zeros && some && short) ≡ true → (magic ≡ true) × (zeros ≡ true)
    all_true false signature zeros some short e = cc
    all_true true false zeros some short e = cc
    all_true true true false some short e = cc
    all_true true true true some short e = (refl, refl)

    told : is_index_head f ≡ true → (sparse_magic_of f ≡ index_magic) × (words_at f 24 10 ≡ replicate 10 0)
    told right = let parts = all_true _ _ _ _ _ right in (eqb-true (sparse_magic_of f) index_magic parts.0, zeros-known (words_at f 24 10) parts.1)

-- what the bytes of a head say
pub record SaysHead (f : ℕ → ℕ) (s k b l : ℕ) : Type 0 where
  pub signature : long_at f 0 ≡ s
  pub magic : sparse_magic_of f ≡ index_magic
  pub key_len : parent_key_len_of f ≡ k
  pub block : word_at f 16 ≡ b
  pub len : last_block_len_of f ≡ l
  pub zeros : list_all (λ v. v == 0) (words_at f 24 10) ≡ true

pub head-said : (signature key_len block len : ℕ) (rest : List ℕ) → signature < 2 ^ 64 → key_len < 2 ^ 32 → block < 2 ^ 32 → len < 2 ^ 32
    → SaysHead (content (bytes_of_words (head_words signature key_len block len) ++ rest)) signature key_len block len
unfolding words_at
head-said signature key_len block len rest small_signature small_key small_block small_len =
    let ws : List ℕ = head_words signature key_len block len in
    let f : ℕ → ℕ = content (bytes_of_words ws ++ rest) in
    let low : word_at f 0 ≡ signature % 2 ^ 32 % 2 ^ 32 = word-in ws rest 0 (omega arith) in
    let high : word_at f 4 ≡ signature / 2 ^ 32 % 2 ^ 32 = word-in ws rest 1 (omega arith) in
    let key : word_at f 12 ≡ key_len % 2 ^ 32 = word-in ws rest 3 (omega arith) in
    let partial : word_at f 16 ≡ block % 2 ^ 32 = word-in ws rest 4 (omega arith) in
    let piece : word_at f 20 ≡ len % 2 ^ 32 = word-in ws rest 5 (omega arith) in
    record {
      signature = omega (arith, low, high);
      magic = word-in ws rest 2 (omega arith);
      key_len = omega (arith, key);
      block = omega (arith, partial);
      len = omega (arith, piece);
      zeros = refl;
    }

pub head-right : {f : ℕ → ℕ} {s k b l : ℕ} → SaysHead f s k b l → s < 2 ^ 63 → 1 ≤ k → k ≤ 32768 → is_index_head f ≡ true
head-right {f = f} {s = s} {k = k} says small some short =
    let magic : (sparse_magic_of f == index_magic) ≡ true = eq-eqb (sparse_magic_of f) index_magic says.magic in
    let signature : nat_lt (long_at f 0) (2 ^ 63) ≡ true = lt-ltb (long_at f 0) (2 ^ 63) (omega (arith, says.signature)) in
    let key_some : nat_le 1 (parent_key_len_of f) ≡ true = le-leb 1 (parent_key_len_of f) (omega (arith, says.key_len)) in
    let key_short : nat_le (parent_key_len_of f) 32768 ≡ true = le-leb (parent_key_len_of f) 32768 (omega (arith, says.key_len)) in
    all_of _ _ _ _ _ magic signature says.zeros key_some key_short
  where
    all_of : (a b c d e : Bool) → a ≡ true → b ≡ true → c ≡ true → d ≡ true → e ≡ true → (a && b && c && d && e) ≡ true
    all_of a b c d e ha hb hc hd he = rw (ha, hb, hc, hd, he) refl

-- what is written after a prefix
pub put-behind : (a k : ℕ) (xs ys : List ℕ) → a + k ≡ length xs → put_mid a k xs ys ≡ take a xs ++ ys
put-behind a k xs ys all =
    let none : drop k (drop a xs) ≡ [] = drop_all k (drop a xs) (omega (arith, length-drop a xs)) in
    ap (λ (l : List ℕ). take a xs ++ (ys ++ l)) none ∙ ap (λ (l : List ℕ). take a xs ++ l) (append-nil ys)

-- a word that is read after a head
pub word-behind : (bytes : List ℕ) (i : ℕ) → length bytes ≡ 192 → little_number 4 (drop i (take (length bytes - 64) (drop 64 bytes))) ≡ word_at (content bytes) (64 + i)
word-behind bytes i enough =
    let whole : take (length bytes - 64) (drop 64 bytes) ≡ drop 64 bytes = take_all (length bytes - 64) (drop 64 bytes) (omega (arith, length-drop 64 bytes)) in
    let byte : (j : ℕ) → slice_index (drop i (drop 64 bytes)) j ≡ slice_index bytes (64 + i + j) = λ j. (let at : 64 + (i + j) ≡ 64 + i + j = omega arith in get_or-drop i (drop 64 bytes) j 0 ∙ get_or-drop 64 bytes (i + j) 0 ∙ ap (λ (k : ℕ). slice_index bytes k) at) in
    let none : 64 + i + 0 ≡ 64 + i = omega arith in
    let first : slice_index (drop i (drop 64 bytes)) 0 ≡ slice_index bytes (64 + i) = byte 0 ∙ ap (λ (k : ℕ). slice_index bytes k) none in
    ap (λ (l : List ℕ). little_number 4 (drop i l)) whole ∙ omega (arith, first, byte 1, byte 2, byte 3)
