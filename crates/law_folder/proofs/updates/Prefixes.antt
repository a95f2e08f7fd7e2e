-- Records that agree before their checksums, and what the tests of these read.
use Rattle.std.proofs.Common.{◌≡◌, ◌⊎◌, inl, inr, ⊎_elim, ℕ, zero, suc, ◌+◌, ◌-◌, ◌*◌, ◌%◌, ◌<◌, ◌≤◌, List, [], ◌∷◌, length, take, get_or-take, refl, ap, ap₂, sym, ◌∙◌, subst, arith}
use Rattle.std.specs.Prelude.{◌==◌, ◌||◌}
use Rattle.std.proofs.lemmas.Bool.{cases_lt}
use Rattle.std.proofs.lemmas.List.{get_or_past, length-take}
use Rattle.spec_image.specs.Bytes.{content, word_at, words_at, word_bytes, range_at}
use Rattle.spec_image.specs.Steps.{with_word, with_words}
use Rattle.spec_image.proofs.Splices.{length-spliced, content-spliced_outside, content-spliced_inside}
use Rattle.spec_image.proofs.Words.{SameFrom, same-word, range-is, length-range, content-range}
use Rattle.spec_format.specs.Hash.{hash}
use Rattle.spec_format.specs.Records.{Node, Entry, node_in, node_body, node_checks, node_is_sealed, entry_in, entry_body, entry_checks, entry_is_sealed, checks}
use Rattle.spec_format.proofs.Bodies.{node_body-in, entry_body-in}
use Rattle.law_folder.proofs.claims.BlockBytes.{part_of}

-- a node and an entry record but for the checksum
abbrev pub open_node : Node → Node
open_node n = record n { self_hash = 0 }

abbrev pub open_entry : Entry → Entry
open_entry e = record e { self_hash = 0 }

-- words at two places in two contents
abbrev pub SameWords : ℕ → (ℕ → ℕ) → ℕ → (ℕ → ℕ) → ℕ → Type 0
SameWords n f i g j = (d : ℕ) → d % 4 ≡ 0 → d < n → word_at f (i + d) ≡ word_at g (j + d)

words-in : (n f-size d : ℕ) (f : ℕ → ℕ) (i : ℕ) (g : ℕ → ℕ) (j : ℕ) → SameWords f-size f i g j → d % 4 ≡ 0 → d + 4 * n ≤ f-size → words_at f (i + d) n ≡ words_at g (j + d) n
unfolding words_at
words-in zero f-size d f i g j same even inside = refl
words-in (suc n) f-size d f i g j same even inside =
    let a : i + d + 4 ≡ i + (d + 4) = omega arith in
    let b : j + d + 4 ≡ j + (d + 4) = omega arith in
    ap₂ (λ (x : ℕ) (xs : List ℕ). x ∷ xs) (same d even (omega arith))
    (ap (λ (p : ℕ). words_at f p n) a ∙ words-in n f-size (d + 4) f i g j same (omega arith) (omega arith) ∙ ap (λ (p : ℕ). words_at g p n) (sym b))

module _ (f : ℕ → ℕ) (i : ℕ) (g : ℕ → ℕ) (j : ℕ) where
  high-word : (n d e : ℕ) → SameWords n f i g j → e ≡ d + 4 → e % 4 ≡ 0 → e < n → word_at f (i + d + 4) ≡ word_at g (j + d + 4)
  high-word n d e same is even inside =
      let a : i + d + 4 ≡ i + e = omega arith in
      let b : j + d + 4 ≡ j + e = omega arith in
      ap (word_at f) a ∙ same e even inside ∙ ap (word_at g) (sym b)

  pub same-node : SameWords 32 f i g j → open_node (node_in f i) ≡ open_node (node_in g j)
  unfolding node_in
  same-node same =
      let w : (d : ℕ) → d % 4 ≡ 0 → d < 32 → word_at f (i + d) ≡ word_at g (j + d) = same in
      let w4 : word_at f (i + 4) ≡ word_at g (j + 4) = same 4 refl (omega arith) in
      let zi : i ≡ i + 0 = omega arith in
      let zj : j + 0 ≡ j = omega arith in
      let w0 : word_at f i ≡ word_at g j = ap (word_at f) zi ∙ same 0 refl (omega arith) ∙ ap (word_at g) zj in
      let w12 = high-word 32 8 12 same refl refl (omega arith) in
      λ k. record {
        last_used = w0 k + 4294967296 * w4 k;
        last_modified = w 8 refl (omega arith) k + 4294967296 * w12 k;
        next = w 16 refl (omega arith) k;
        prev = w 20 refl (omega arith) k;
        contents = w 24 refl (omega arith) k;
        dirty = w 28 refl (omega arith) k;
        self_hash = 0;
      }

  pub same-entry : SameWords 92 f i g j → open_entry (entry_in f i) ≡ open_entry (entry_in g j)
  unfolding entry_in
  same-entry same =
      let w : (d : ℕ) → d % 4 ≡ 0 → d < 92 → word_at f (i + d) ≡ word_at g (j + d) = same in
      let zi : i ≡ i + 0 = omega arith in
      let zj : j + 0 ≡ j = omega arith in
      let w0 : word_at f i ≡ word_at g j = ap (word_at f) zi ∙ same 0 refl (omega arith) ∙ ap (word_at g) zj in
      let w28 = high-word 92 24 28 same refl refl (omega arith) in
      let sizes = words-in 4 92 40 f i g j same refl (omega arith) in
      let addresses = words-in 4 92 56 f i g j same refl (omega arith) in
      let pads = words-in 4 92 76 f i g j same refl (omega arith) in
      λ k. record {
        hash = w0 k;
        next = w 4 refl (omega arith) k;
        rankings_node = w 8 refl (omega arith) k;
        reuse_count = w 12 refl (omega arith) k;
        refetch_count = w 16 refl (omega arith) k;
        state = w 20 refl (omega arith) k;
        creation_time = w 24 refl (omega arith) k + 4294967296 * w28 k;
        key_len = w 32 refl (omega arith) k;
        long_key = w 36 refl (omega arith) k;
        data_size = sizes k;
        data_addr = addresses k;
        flags = w 72 refl (omega arith) k;
        pad = pads k;
        self_hash = 0;
      }

-- bytes below 256
abbrev pub AreSmall : List ℕ → Type 0
AreSmall bytes = (i : ℕ) → content bytes i < 256

pub small-take : (n : ℕ) (bytes : List ℕ) → AreSmall bytes → AreSmall (take n bytes)
small-take n bytes small i = ⊎_elim
    (λ (x : i < n). subst (λ (b : ℕ). b < 256) (sym (get_or-take n bytes i 0 x)) (small i))
    (λ (x : n ≤ i). subst (λ (b : ℕ). b < 256) (sym (get_or_past (take n bytes) i 0 (omega (arith, length-take n bytes)))) (omega arith))
    (cases_lt i n)

pub small-range : (n i : ℕ) (f : ℕ → ℕ) → ((k : ℕ) → f k < 256) → AreSmall (range_at f i n)
small-range n i f small k = ⊎_elim
    (λ (x : k < n). subst (λ (b : ℕ). b < 256) (sym (content-range n i f k (i + k) x refl)) (small (i + k)))
    (λ (x : n ≤ k). subst (λ (b : ℕ). b < 256) (sym (get_or_past (range_at f i n) k 0 (omega (arith, length-range n i f)))) (omega arith))
    (cases_lt k n)

word_byte-small : (v k : ℕ) → content (word_bytes v) k < 256
word_byte-small v zero = omega arith
word_byte-small v (suc zero) = omega arith
word_byte-small v (suc (suc zero)) = omega arith
word_byte-small v (suc (suc (suc zero))) = omega arith
word_byte-small v (suc (suc (suc (suc k)))) = omega arith

small-word : (p v : ℕ) (bytes : List ℕ) → AreSmall bytes → AreSmall (with_word p v bytes)
unfolding with_word
small-word p v bytes small k = ⊎_elim
    (λ (x : length bytes ≤ k). subst (λ (b : ℕ). b < 256) (sym (get_or_past _ k 0 (omega (arith, length-spliced p (word_bytes v) bytes)))) (omega arith))
    (λ (x : k < length bytes). ⊎_elim
    (λ (low : k < p). subst (λ (b : ℕ). b < 256) (sym (content-spliced_outside p (word_bytes v) bytes k (inl low))) (small k))
    (λ (low : p ≤ k). ⊎_elim
    (λ (high : p + 4 ≤ k). subst (λ (b : ℕ). b < 256) (sym (content-spliced_outside p (word_bytes v) bytes k (inr high))) (small k))
    (λ (high : k < p + 4). inside (within k low) low high x)
    (or_else k))
    (cases_lt k p))
    (other_way k) where
      or_else : (k : ℕ) → (p + 4 ≤ k) ⊎ (k < p + 4)
      or_else k = ⊎_elim (λ (x : k < p + 4). inr x) (λ (x : p + 4 ≤ k). inl x) (cases_lt k (p + 4))

      other_way : (k : ℕ) → (length bytes ≤ k) ⊎ (k < length bytes)
      other_way k = ⊎_elim (λ (x : k < length bytes). inr x) (λ (x : length bytes ≤ k). inl x) (cases_lt k (length bytes))

      within : (k : ℕ) → p ≤ k → (d : ℕ) × (k ≡ p + d)
      within k low = (k - p, omega arith)

      inside : (d : ℕ) × (k ≡ p + d) → p ≤ k → k < p + 4 → k < length bytes → content (with_word p v bytes) k < 256
      inside (d, is) low high there = subst (λ (b : ℕ). b < 256) (sym (content-spliced_inside p (word_bytes v) bytes d k is (omega arith) there)) (word_byte-small v d)

pub small-words : (ws : List (ℕ × ℕ)) (bytes : List ℕ) → AreSmall bytes → AreSmall (with_words ws bytes)
small-words [] bytes small = small
small-words (w ∷ ws) bytes small = small-words ws (with_word w.0 w.1 bytes) (small-word w.0 w.1 bytes small)

-- a record whose bytes before the checksum are small has a right or absent checksum where its bytes have
same-prefix : (s : ℕ) (bytes : List ℕ) → SameFrom 0 s (content (take s bytes)) (content bytes)
same-prefix s bytes k low high = get_or-take s bytes k 0 (omega arith)

pub prefix-words : (s : ℕ) (bytes : List ℕ) → s % 4 ≡ 0 → SameWords s (content (take s bytes)) 0 (content bytes) 0
prefix-words s bytes even d aligned inside =
    let e : 0 + d ≡ d = omega arith in
    ap (word_at (content (take s bytes))) e ∙ same-word (content (take s bytes)) (content bytes) d (part_of 0 s d 4 (content (take s bytes)) (content bytes) (same-prefix s bytes) (omega arith) (omega arith)) ∙ ap (word_at (content bytes)) (sym e)

pub prefix-range : (s : ℕ) (bytes : List ℕ) → s ≤ length bytes → range_at (content (take s bytes)) 0 s ≡ take s bytes
prefix-range s bytes enough = range-is s 0 (take s bytes) (omega (arith, length-take s bytes)) ∙ twice s bytes where
  twice : (s : ℕ) (bytes : List ℕ) → take s (take s bytes) ≡ take s bytes
  twice zero [] = refl
  twice zero (b ∷ bytes) = refl
  twice (suc s) [] = refl
  twice (suc s) (b ∷ bytes) = ap (λ (l : List ℕ). b ∷ l) (twice s bytes)

pub node_checks-prefix : (bytes : List ℕ) → AreSmall (take 32 bytes) → 32 ≤ length bytes → node_checks (node_in (content bytes) 0) ≡ checks 32 bytes
unfolding node_checks node_is_sealed node_in node_body
node_checks-prefix bytes small enough =
    let same : open_node (node_in (content (take 32 bytes)) 0) ≡ open_node (node_in (content bytes) 0) = same-node (content (take 32 bytes)) 0 (content bytes) 0 (prefix-words 32 bytes refl) in
    let body : node_body (node_in (content bytes) 0) ≡ take 32 bytes = sym (ap node_body same) ∙ node_body-in 0 (content (take 32 bytes)) small ∙ prefix-range 32 bytes enough in
    ap (λ (l : List ℕ). (word_at (content bytes) 32 == 0) || (word_at (content bytes) 32 == hash l)) body

pub entry_checks-prefix : (bytes : List ℕ) → AreSmall (take 92 bytes) → 92 ≤ length bytes → entry_checks (entry_in (content bytes) 0) ≡ checks 92 bytes
unfolding entry_checks entry_is_sealed entry_in entry_body
entry_checks-prefix bytes small enough =
    let same : open_entry (entry_in (content (take 92 bytes)) 0) ≡ open_entry (entry_in (content bytes) 0) = same-entry (content (take 92 bytes)) 0 (content bytes) 0 (prefix-words 92 bytes refl) in
    let body : entry_body (entry_in (content bytes) 0) ≡ take 92 bytes = sym (ap entry_body same) ∙ entry_body-in 0 (content (take 92 bytes)) small ∙ prefix-range 92 bytes enough in
    ap (λ (l : List ℕ). (word_at (content bytes) 92 == 0) || (word_at (content bytes) 92 == hash l)) body

-- whether a record's checksum is right or absent depends on the checksum and on the rest of the record
pub node_checks-by : (m n : Node) → m.self_hash ≡ n.self_hash → open_node m ≡ open_node n → node_checks m ≡ node_checks n
unfolding node_checks node_is_sealed
node_checks-by m n seal rest = λ i. (seal i == 0) || (seal i == hash (node_body (rest i)))

pub entry_checks-by : (m n : Entry) → m.self_hash ≡ n.self_hash → open_entry m ≡ open_entry n → entry_checks m ≡ entry_checks n
unfolding entry_checks entry_is_sealed
entry_checks-by m n seal rest = λ i. (seal i == 0) || (seal i == hash (entry_body (rest i)))
