-- The maps, counters and checksums of the whole folder: it is consistent, and represents the state of its entry.
use Rattle.std.proofs.Common.{◌≡◌, ◌⊎◌, inl, inr, ⊎_elim, ℕ, zero, suc, ◌+◌, ◌-◌, ◌/◌, ◌%◌, ◌<◌, ◌≤◌, List, [], ◌∷◌, ◌++◌, length, refl, ap, sym, ◌∙◌, arith, Bool, true, false}
use Rattle.std.specs.Prelude.{if◌then◌else◌, ◌==◌, ◌&&◌, nat_lt, nat_le}
use Rattle.std.specs.Int.{bit_at}
use Rattle.std.proofs.lemmas.Nat.Bits.{bit_at-zero}
use Rattle.std.proofs.lemmas.Bool.Decides.{nat_tests}
use Rattle.std.proofs.lemmas.Bool.{cases_lt, lt-ltb, le-ltb}
use Rattle.spec_image.specs.Bytes.{content, spliced, zeros, word_bytes}
use Rattle.spec_image.specs.Image.{Block, Image, byte}
use Rattle.spec_image.specs.Steps.{with_word, with_words}
use Rattle.spec_image.proofs.Splices.{length-zeros, content-spliced_inside, content-spliced_outside, content-zeros}
use Rattle.spec_image.proofs.Words.{length-with_word}
use Rattle.spec_format.specs.Headers.{empty_of}
use Rattle.spec_format.specs.BlockFiles.{max_entries_in}
use Rattle.spec_format.specs.Maps.{is_block_marked_at, is_block_marked, are_free, has_run, longest_run, groups_with, groups_of, EmptyAgrees}
use Rattle.spec_format.specs.NewFolder.{new_file_words}
use Rattle.law_folder.proofs.states.NewFolders.{byte-later}
use Rattle.law_folder.proofs.examples.WholeFolder.{whole_folder}

-- where the first byte of a map is m and the others are 0, exactly its bits are marked
marks-are : (f : ℕ → ℕ) (m b : ℕ) → f 80 ≡ m → ((k : ℕ) → 81 ≤ k → k < 8192 → f k ≡ 0) → b < 64896 → is_block_marked_at f b ≡ (if nat_lt b 8 then bit_at m b == 1 else false)
marks-are f m b first later below = ⊎_elim
    (λ (small : b < 8). let at : 80 + b / 8 ≡ 80 = omega arith in let bit : b % 8 ≡ b = omega arith in rw (lt-ltb b 8 small, at, first, bit) refl)
    (λ (large : 8 ≤ b). rw (le-ltb b 8 large, later (80 + b / 8) (omega arith) (omega arith), bit_at-zero (b % 8)) refl)
    (cases_lt b 8)

-- bytes of the header past these words
abbrev pub Outside : ℕ → List (ℕ × ℕ) → Type 0
Outside k [] = Unit {0}
Outside k (w ∷ ws) = ((k < w.0) ⊎ (w.0 + 4 ≤ k)) × Outside k ws

-- such a byte stays as it was
pub byte-outside : (ws : List (ℕ × ℕ)) (bytes : List ℕ) (k : ℕ) → Outside k ws → content (with_words ws bytes) k ≡ content bytes k
byte-outside [] bytes k out = refl
byte-outside (w ∷ ws) bytes k out = byte-outside ws (with_word w.0 w.1 bytes) k out.1 ∙ unfold with_word in content-spliced_outside w.0 _ bytes k out.0

abbrev pub nodes_words : List (ℕ × ℕ)
nodes_words = new_file_words 0 ++ (16, 1) ∷ (20, 1024) ∷ (32, 1) ∷ (36, 255) ∷ (80, 1) ∷ (8208, 0x90000000) ∷ (8212, 0x90000000) ∷ (8216, 0xA0010000) ∷ (8224, 0xFE7F2CF2) ∷ []

abbrev pub records_words : List (ℕ × ℕ)
records_words = new_file_words 1 ++ (16, 2) ∷ (20, 1024) ∷ (28, 1) ∷ (36, 255) ∷ (80, 3) ∷ (8192, 0x115EA782) ∷ (8200, 0x90000000) ∷ (8224, 1) ∷ (8232, 2) ∷ (8248, 0xA0010001) ∷ (8284, 0x2C6F24C8) ∷ (8288, 97) ∷ (8448, 0x7A7A) ∷ []

-- ---- marks

-- the first bytes of the maps
first-bytes : (byte whole_folder (Block 0) 80 ≡ 1) × (byte whole_folder (Block 1) 80 ≡ 3)
unfolding whole_folder zeros with_word spliced
first-bytes = (refl, refl)

-- the other bytes of the words that have them
word-bytes : (byte whole_folder (Block 0) 81 ≡ 0) × (byte whole_folder (Block 0) 82 ≡ 0) × (byte whole_folder (Block 0) 83 ≡ 0) × (byte whole_folder (Block 1) 81 ≡ 0) × (byte whole_folder (Block 1) 82 ≡ 0) × (byte whole_folder (Block 1) 83 ≡ 0)
unfolding whole_folder zeros with_word spliced
word-bytes = (refl, refl, refl, refl, refl, refl)

nodes-later : (k : ℕ) → 81 ≤ k → k < 8192 → byte whole_folder (Block 0) k ≡ 0
unfolding whole_folder
nodes-later k low high = ⊎_elim (λ (few : k < 84). near k low few) (λ (far : 84 ≤ k). byte-outside nodes_words (zeros 45056) k (out far) ∙ content-zeros 45056 k) (cases_lt k 84) where
  near : (k : ℕ) → 81 ≤ k → k < 84 → byte whole_folder (Block 0) k ≡ 0
  near k low few = ⊎_elim (λ (a : k < 82). let e : k ≡ 81 = omega arith in rw e word-bytes.0) (λ (a : 82 ≤ k). ⊎_elim (λ (b : k < 83). let e : k ≡ 82 = omega arith in rw e word-bytes.1) (λ (b : 83 ≤ k). let e : k ≡ 83 = omega arith in rw e word-bytes.2) (cases_lt k 83)) (cases_lt k 82)

  out : 84 ≤ k → Outside k nodes_words
  out far = (inr (omega arith), (inr (omega arith), (inr (omega arith), (inr (omega arith), (inr (omega arith), (inr (omega arith), (inr (omega arith), (inr (omega arith), (inr (omega arith), (inl (omega arith), (inl (omega arith), (inl (omega arith), (inl (omega arith), tt)))))))))))))

records-later : (k : ℕ) → 81 ≤ k → k < 8192 → byte whole_folder (Block 1) k ≡ 0
unfolding whole_folder
records-later k low high = ⊎_elim (λ (few : k < 84). near k low few) (λ (far : 84 ≤ k). byte-outside records_words (zeros 270336) k (out far) ∙ content-zeros 270336 k) (cases_lt k 84) where
  near : (k : ℕ) → 81 ≤ k → k < 84 → byte whole_folder (Block 1) k ≡ 0
  near k low few = ⊎_elim (λ (a : k < 82). let e : k ≡ 81 = omega arith in rw e word-bytes.3) (λ (a : 82 ≤ k). ⊎_elim (λ (b : k < 83). let e : k ≡ 82 = omega arith in rw e word-bytes.4) (λ (b : 83 ≤ k). let e : k ≡ 83 = omega arith in rw e word-bytes.5) (cases_lt k 83)) (cases_lt k 82)

  out : 84 ≤ k → Outside k records_words
  out far = (
    inr (omega arith),
    (
      inr (omega arith),
      (
        inr (omega arith),
        (
          inr (omega arith),
          (
            inr (omega arith),
            (
              inr (omega arith),
              (
                inr (omega arith),
                (
                  inr (omega arith),
                  (
                    inr (omega arith),
                    (inl (omega arith), (inl (omega arith), (inl (omega arith), (inl (omega arith), (inl (omega arith), (inl (omega arith), (inl (omega arith), (inl (omega arith), tt)))))))),
                  ),
                ),
              ),
            ),
          ),
        ),
      ),
    ),
  )

-- data_2 and data_3 have no mark
bare-later : (n k : ℕ) → 80 ≤ k → content (with_words (new_file_words n) (zeros 8192)) k ≡ 0
bare-later n k later = byte-later (new_file_words n) (zeros 8192) k (omega arith, (omega arith, (omega arith, (omega arith, tt)))) ∙ content-zeros 8192 k

-- whether block b of data_n is marked
abbrev pub marks : ℕ → ℕ → Bool
marks zero b = nat_lt b 1
marks (suc zero) b = nat_lt b 2
marks (suc (suc n)) b = false

one-bit : (b : ℕ) → (if nat_lt b 8 then bit_at 1 b == 1 else false) ≡ nat_lt b 1
one-bit zero = refl
one-bit (suc zero) = refl
one-bit (suc (suc zero)) = refl
one-bit (suc (suc (suc zero))) = refl
one-bit (suc (suc (suc (suc zero)))) = refl
one-bit (suc (suc (suc (suc (suc zero))))) = refl
one-bit (suc (suc (suc (suc (suc (suc zero)))))) = refl
one-bit (suc (suc (suc (suc (suc (suc (suc zero))))))) = refl
one-bit (suc (suc (suc (suc (suc (suc (suc (suc b)))))))) = grind (arith, nat_tests)

two-bits : (b : ℕ) → (if nat_lt b 8 then bit_at 3 b == 1 else false) ≡ nat_lt b 2
two-bits zero = refl
two-bits (suc zero) = refl
two-bits (suc (suc zero)) = refl
two-bits (suc (suc (suc zero))) = refl
two-bits (suc (suc (suc (suc zero)))) = refl
two-bits (suc (suc (suc (suc (suc zero))))) = refl
two-bits (suc (suc (suc (suc (suc (suc zero)))))) = refl
two-bits (suc (suc (suc (suc (suc (suc (suc zero))))))) = refl
two-bits (suc (suc (suc (suc (suc (suc (suc (suc b)))))))) = grind (arith, nat_tests)

-- exactly these are marked
pub whole-marks : (n b : ℕ) → n < 4 → b < 64896 → is_block_marked whole_folder n b ≡ marks n b
unfolding whole_folder
whole-marks zero b small below = marks-are (byte whole_folder (Block 0)) 1 b first-bytes.0 nodes-later below ∙ one-bit b
whole-marks (suc zero) b small below = marks-are (byte whole_folder (Block 1)) 3 b first-bytes.1 records-later below ∙ two-bits b
whole-marks (suc (suc zero)) b small below = rw (bare-later 2 (80 + b / 8) (omega arith), bit_at-zero (b % 8)) refl
whole-marks (suc (suc (suc zero))) b small below = rw (bare-later 3 (80 + b / 8) (omega arith), bit_at-zero (b % 8)) refl
whole-marks (suc (suc (suc (suc n)))) b small below = absurd (omega arith)

-- ---- the groups of a map

-- a content with a word over it
abbrev pub over : ℕ × ℕ → (ℕ → ℕ) → ℕ → ℕ
over w f k = if nat_le w.0 k && nat_lt k (w.0 + 4) then content (word_bytes w.1) (k - w.0) else f k

-- a content with words over it
abbrev pub over_all : List (ℕ × ℕ) → (ℕ → ℕ) → ℕ → ℕ
over_all [] f = f
over_all (w ∷ ws) f = over_all ws (over w f)

-- each word lies inside so many bytes
abbrev pub AreInside : ℕ → List (ℕ × ℕ) → Type 0
AreInside n [] = Unit {0}
AreInside n (w ∷ ws) = (w.0 + 4 ≤ n) × AreInside n ws

content-word : (w : ℕ × ℕ) (bytes : List ℕ) → w.0 + 4 ≤ length bytes → content (with_word w.0 w.1 bytes) ≡ over w (content bytes)
unfolding with_word
content-word w bytes room = λ i k. at k i where
  at : (k : ℕ) → content (spliced w.0 (word_bytes w.1) bytes) k ≡ over w (content bytes) k
  at k = ⊎_elim
      (λ (before : k < w.0). let t : (nat_le w.0 k && nat_lt k (w.0 + 4)) ≡ false = grind (arith, nat_tests) in content-spliced_outside w.0 (word_bytes w.1) bytes k (inl before) ∙ rw t refl)
      (λ (from : w.0 ≤ k). ⊎_elim
      (λ (inside : k < w.0 + 4). let t : (nat_le w.0 k && nat_lt k (w.0 + 4)) ≡ true = grind (arith, nat_tests) in content-spliced_inside w.0 (word_bytes w.1) bytes (k - w.0) k (omega arith) (omega arith) (omega arith) ∙ rw t refl)
      (λ (suffix : w.0 + 4 ≤ k). let t : (nat_le w.0 k && nat_lt k (w.0 + 4)) ≡ false = grind (arith, nat_tests) in content-spliced_outside w.0 (word_bytes w.1) bytes k (inr suffix) ∙ rw t refl)
      (cases_lt k (w.0 + 4)))
      (cases_lt k w.0)

-- words over bytes are words over their content
pub content-words : (ws : List (ℕ × ℕ)) (bytes : List ℕ) (n : ℕ) → length bytes ≡ n → AreInside n ws → content (with_words ws bytes) ≡ over_all ws (content bytes)
content-words [] bytes n size inside = refl
content-words (w ∷ ws) bytes n size inside =
    content-words ws (with_word w.0 w.1 bytes) n (length-with_word w.0 w.1 bytes ∙ size) inside.1
    ∙ ap (over_all ws) (content-word w bytes (let i = inside.0 in omega arith))

pub nodes-content : byte whole_folder (Block 0) ≡ over_all nodes_words (λ k. 0)
unfolding whole_folder
nodes-content = content-words nodes_words (zeros 45056) 45056 (length-zeros 45056) (omega arith, (omega arith, (omega arith, (omega arith, (omega arith, (omega arith, (omega arith, (omega arith, (omega arith, (omega arith, (omega arith, (omega arith, (omega arith, tt)))))))))))))
    ∙ ap (over_all nodes_words) (λ i k. content-zeros 45056 k i)

pub records-content : byte whole_folder (Block 1) ≡ over_all records_words (λ k. 0)
unfolding whole_folder
records-content = content-words records_words (zeros 270336) 270336 (length-zeros 270336)
    (omega arith, (omega arith, (omega arith, (omega arith, (omega arith, (omega arith, (omega arith, (omega arith, (omega arith, (omega arith, (omega arith, (omega arith, (omega arith, (omega arith, (omega arith, (omega arith, (omega arith, tt)))))))))))))))))
    ∙ ap (over_all records_words) (λ i k. content-zeros 270336 k i)

-- the fields of the headers that count
counts-0 : (max_entries_in whole_folder 0 ≡ 1024) × (empty_of (byte whole_folder (Block 0)) 0 ≡ 0) × (empty_of (byte whole_folder (Block 0)) 1 ≡ 0) × (empty_of (byte whole_folder (Block 0)) 2 ≡ 1) × (empty_of (byte whole_folder (Block 0)) 3 ≡ 255)
unfolding max_entries_in whole_folder zeros with_word spliced
counts-0 = (refl, refl, refl, refl, refl)

counts-1 : (max_entries_in whole_folder 1 ≡ 1024) × (empty_of (byte whole_folder (Block 1)) 0 ≡ 0) × (empty_of (byte whole_folder (Block 1)) 1 ≡ 1) × (empty_of (byte whole_folder (Block 1)) 2 ≡ 0) × (empty_of (byte whole_folder (Block 1)) 3 ≡ 255)
unfolding max_entries_in whole_folder zeros with_word spliced
counts-1 = (refl, refl, refl, refl, refl)

groups-0 : (groups_with (is_block_marked_at (over_all nodes_words (λ k. 0))) 256 1 ≡ 0) × (groups_with (is_block_marked_at (over_all nodes_words (λ k. 0))) 256 2 ≡ 0) × (groups_with (is_block_marked_at (over_all nodes_words (λ k. 0))) 256 3 ≡ 1) × (groups_with (is_block_marked_at (over_all nodes_words (λ k. 0))) 256 4 ≡ 255)
unfolding groups_with longest_run has_run are_free
groups-0 = (refl, refl, refl, refl)

groups-1 : (groups_with (is_block_marked_at (over_all records_words (λ k. 0))) 256 1 ≡ 0) × (groups_with (is_block_marked_at (over_all records_words (λ k. 0))) 256 2 ≡ 1) × (groups_with (is_block_marked_at (over_all records_words (λ k. 0))) 256 3 ≡ 0) × (groups_with (is_block_marked_at (over_all records_words (λ k. 0))) 256 4 ≡ 255)
unfolding groups_with longest_run has_run are_free
groups-1 = (refl, refl, refl, refl)

-- the counts of the groups agree with the map
pub empty-agrees : (image : Image) (n : ℕ) (f : ℕ → ℕ) → byte image (Block n) ≡ f → max_entries_in image n ≡ 1024 → ((i : ℕ) → i < 4 → empty_of (byte image (Block n)) i ≡ groups_with (is_block_marked_at f) 256 (i + 1)) → EmptyAgrees image n
unfolding EmptyAgrees
empty-agrees image n f same most each i small =
    each i small ∙ sym (ap (λ (g : ℕ → ℕ). groups_with (is_block_marked_at g) 256 (i + 1)) same) ∙ ap (λ (m : ℕ). groups_with (is_block_marked image n) (groups_of m) (i + 1)) (sym most)

-- a file with no blocks has no groups
no-groups : (n : ℕ) → max_entries_in whole_folder n ≡ 0 → ((i : ℕ) → i < 4 → empty_of (byte whole_folder (Block n)) i ≡ 0) → EmptyAgrees whole_folder n
unfolding EmptyAgrees groups_with
no-groups n none words i small = words i small ∙ rw none refl

no-words-2 : (max_entries_in whole_folder 2 ≡ 0) × ((i : ℕ) → i < 4 → empty_of (byte whole_folder (Block 2)) i ≡ 0)
unfolding max_entries_in whole_folder zeros with_word spliced
no-words-2 = (refl, each) where
  each : (i : ℕ) → i < 4 → empty_of (byte whole_folder (Block 2)) i ≡ 0
  each zero small = refl
  each (suc zero) small = refl
  each (suc (suc zero)) small = refl
  each (suc (suc (suc zero))) small = refl
  each (suc (suc (suc (suc i)))) small = absurd (omega arith)

no-words-3 : (max_entries_in whole_folder 3 ≡ 0) × ((i : ℕ) → i < 4 → empty_of (byte whole_folder (Block 3)) i ≡ 0)
unfolding max_entries_in whole_folder zeros with_word spliced
no-words-3 = (refl, each) where
  each : (i : ℕ) → i < 4 → empty_of (byte whole_folder (Block 3)) i ≡ 0
  each zero small = refl
  each (suc zero) small = refl
  each (suc (suc zero)) small = refl
  each (suc (suc (suc zero))) small = refl
  each (suc (suc (suc (suc i)))) small = absurd (omega arith)

-- the counts of each file agree with its map
pub whole-empty : (n : ℕ) → n < 4 → EmptyAgrees whole_folder n
whole-empty zero small = empty-agrees whole_folder 0 (over_all nodes_words (λ k. 0)) nodes-content counts-0.0 each where
  each : (i : ℕ) → i < 4 → empty_of (byte whole_folder (Block 0)) i ≡ groups_with (is_block_marked_at (over_all nodes_words (λ k. 0))) 256 (i + 1)
  each zero small = counts-0.1 ∙ sym groups-0.0
  each (suc zero) small = counts-0.2 ∙ sym groups-0.1
  each (suc (suc zero)) small = counts-0.3 ∙ sym groups-0.2
  each (suc (suc (suc zero))) small = counts-0.4 ∙ sym groups-0.3
  each (suc (suc (suc (suc i)))) small = absurd (omega arith)
whole-empty (suc zero) small = empty-agrees whole_folder 1 (over_all records_words (λ k. 0)) records-content counts-1.0 each where
  each : (i : ℕ) → i < 4 → empty_of (byte whole_folder (Block 1)) i ≡ groups_with (is_block_marked_at (over_all records_words (λ k. 0))) 256 (i + 1)
  each zero small = counts-1.1 ∙ sym groups-1.0
  each (suc zero) small = counts-1.2 ∙ sym groups-1.1
  each (suc (suc zero)) small = counts-1.3 ∙ sym groups-1.2
  each (suc (suc (suc zero))) small = counts-1.4 ∙ sym groups-1.3
  each (suc (suc (suc (suc i)))) small = absurd (omega arith)
whole-empty (suc (suc zero)) small = no-groups 2 no-words-2.0 no-words-2.1
whole-empty (suc (suc (suc zero))) small = no-groups 3 no-words-3.0 no-words-3.1
whole-empty (suc (suc (suc (suc n)))) small = absurd (omega arith)
