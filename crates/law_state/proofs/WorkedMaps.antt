-- The maps of the worked folder: exactly the blocks of what lies there are marked.
use Rattle.std.proofs.Common.{◌≡◌, ◌⊎◌, inl, inr, ⊎_elim, ℕ, zero, suc, ◌+◌, ◌/◌, ◌%◌, ◌<◌, ◌≤◌, List, [], ◌∷◌, refl, ap, sym, ◌∙◌, arith, lit≤, Bool, true, false}
use Rattle.std.specs.Prelude.{if◌then◌else◌, ◌==◌, ◌&&◌, ◌||◌, nat_le, nat_lt}
use Rattle.std.specs.Int.{bit_at}
use Rattle.std.proofs.lemmas.Bool.{agree_below_at, and_parts, cases_lt}
use Rattle.std.proofs.lemmas.Bool.Decides.{nat_tests}
use Rattle.std.proofs.lemmas.Nat.Bits.{bit_at-zero}
use Rattle.spec_image.specs.Bytes.{content, spliced, zeros}
use Rattle.spec_image.specs.Image.{Block, byte}
use Rattle.spec_image.specs.Steps.{with_word, with_words}
use Rattle.spec_image.proofs.Splices.{content-zeros}
use Rattle.spec_format.specs.Headers.{empty_of}
use Rattle.spec_format.specs.Maps.{are_free, groups_with, has_run, is_block_marked_at, longest_run}
use Rattle.spec_format.specs.NewFolder.{new_file_words}
use Rattle.spec_format.proofs.Groups.{groups_same}
use Rattle.law_folder.proofs.examples.WholeMarks.{Outside, byte-outside}
use Rattle.law_state.proofs.WorkedFolder.{data_words, nodes_words, records_words, short_folder}

-- the blocks of a file that are in use: its first ones
abbrev pub used_blocks : ℕ → ℕ
used_blocks zero = 4
used_blocks (suc zero) = 8
used_blocks (suc (suc zero)) = 0
used_blocks (suc (suc (suc n))) = 3

-- and the byte of the map that has their bits
abbrev pub map_byte : ℕ → ℕ
map_byte zero = 15
map_byte (suc zero) = 255
map_byte (suc (suc zero)) = 0
map_byte (suc (suc (suc n))) = 7

-- words that lie before the second word of the map, or after the header
abbrev are_beside : List (ℕ × ℕ) → Bool
are_beside [] = true
are_beside (w ∷ ws) = (nat_le (w.0 + 4) 84 || nat_le 8192 w.0) && are_beside ws

outside : (ws : List (ℕ × ℕ)) (k : ℕ) → are_beside ws ≡ true → 84 ≤ k → k < 8192 → Outside k ws
outside [] k beside low high = tt
outside (w ∷ ws) k beside low high = let p = and_parts (nat_le (w.0 + 4) 84 || nat_le 8192 w.0) (are_beside ws) beside in (one (nat_le (w.0 + 4) 84) refl p.0, outside ws k p.1 low high) where
  one : (t : Bool) → nat_le (w.0 + 4) 84 ≡ t → (t || nat_le 8192 w.0) ≡ true → (k < w.0) ⊎ (w.0 + 4 ≤ k)
  one true e h = inr (grind (arith, nat_tests))
  one false e h = inl (grind (arith, nat_tests))

later-zero : (ws : List (ℕ × ℕ)) (n k : ℕ) → are_beside ws ≡ true → 84 ≤ k → k < 8192 → content (with_words ws (zeros n)) k ≡ 0
later-zero ws n k beside low high = byte-outside ws (zeros n) k (outside ws k beside low high) ∙ content-zeros n k

-- the first word of each map
first-words : (n : ℕ) → n < 4 → (byte short_folder (Block n) 80 ≡ map_byte n) × (byte short_folder (Block n) 81 ≡ 0) × (byte short_folder (Block n) 82 ≡ 0) × (byte short_folder (Block n) 83 ≡ 0)
unfolding short_folder zeros with_word spliced
first-words zero small = (refl, refl, refl, refl)
first-words (suc zero) small = (refl, refl, refl, refl)
first-words (suc (suc zero)) small = (refl, refl, refl, refl)
first-words (suc (suc (suc zero))) small = (refl, refl, refl, refl)
first-words (suc (suc (suc (suc n)))) small = absurd (omega arith)

pub later-words : (n k : ℕ) → n < 4 → 84 ≤ k → k < 8192 → byte short_folder (Block n) k ≡ 0
unfolding short_folder
later-words zero k small low high = later-zero nodes_words 8336 k refl low high
later-words (suc zero) k small low high = later-zero records_words 10240 k refl low high
later-words (suc (suc zero)) k small low high = later-zero (new_file_words 2) 8192 k refl low high
later-words (suc (suc (suc zero))) k small low high = later-zero data_words 20480 k refl low high
later-words (suc (suc (suc (suc n)))) k small low high = absurd (omega arith)

-- a map of one byte
abbrev one_byte : ℕ → ℕ → ℕ
one_byte m k = if k == 80 then m else 0

map-is : (n k : ℕ) → n < 4 → 80 ≤ k → k < 8192 → byte short_folder (Block n) k ≡ one_byte (map_byte n) k
map-is n k small low high = let first = first-words n small in
    ⊎_elim (λ (near : k < 81). let e : k ≡ 80 = omega arith in rw e first.0) (λ (past : 81 ≤ k). let t : (k == 80) ≡ false = grind (arith, nat_tests) in rw t
    (⊎_elim (λ (near : k < 82). let e : k ≡ 81 = omega arith in rw e first.1) (λ (past : 82 ≤ k).
    ⊎_elim (λ (near : k < 83). let e : k ≡ 82 = omega arith in rw e first.2) (λ (past : 83 ≤ k).
    ⊎_elim (λ (near : k < 84). let e : k ≡ 83 = omega arith in rw e first.3) (λ (past : 84 ≤ k). later-words n k small past high) (cases_lt k 84)) (cases_lt k 83)) (cases_lt k 82)))
    (cases_lt k 81)

eight-bits : (n b : ℕ) → n < 4 → b < 8 → is_block_marked_at (one_byte (map_byte n)) b ≡ nat_lt b (used_blocks n)
eight-bits zero b small few = agree_below_at (is_block_marked_at (one_byte 15)) (λ b. nat_lt b 4) 8 b refl few
eight-bits (suc zero) b small few = agree_below_at (is_block_marked_at (one_byte 255)) (λ b. nat_lt b 8) 8 b refl few
eight-bits (suc (suc zero)) b small few = agree_below_at (is_block_marked_at (one_byte 0)) (λ b. nat_lt b 0) 8 b refl few
eight-bits (suc (suc (suc zero))) b small few = agree_below_at (is_block_marked_at (one_byte 7)) (λ b. nat_lt b 3) 8 b refl few
eight-bits (suc (suc (suc (suc n)))) b small few = absurd (omega arith)

few-used : (n : ℕ) → used_blocks n ≤ 8
few-used zero = lit≤ tt
few-used (suc zero) = lit≤ tt
few-used (suc (suc zero)) = lit≤ tt
few-used (suc (suc (suc n))) = lit≤ tt

-- exactly the used blocks are marked
pub marks-are : (n b : ℕ) → n < 4 → b < 64896 → is_block_marked_at (byte short_folder (Block n)) b ≡ nat_lt b (used_blocks n)
marks-are n b small below = ap (λ (x : ℕ). bit_at x (b % 8) == 1) (map-is n (80 + b / 8) small (omega arith) (omega arith))
    ∙ ⊎_elim (λ (few : b < 8). eight-bits n b small few) (λ (more : 8 ≤ b). let at : (80 + b / 8 == 80) ≡ false = grind (arith, nat_tests) in let no : nat_lt b (used_blocks n) ≡ false = (let most = few-used n in grind (arith, nat_tests)) in rw (at, bit_at-zero (b % 8), no) refl)
    (cases_lt b 8)

-- the counts of groups
used-groups : (n i : ℕ) → n < 4 → i < 4 → (n == 2) ≡ false → empty_of (byte short_folder (Block n)) i ≡ groups_with (λ b. nat_lt b (used_blocks n)) 256 (i + 1)
unfolding groups_with longest_run has_run are_free short_folder zeros with_word spliced
used-groups zero zero small few some = refl
used-groups zero (suc zero) small few some = refl
used-groups zero (suc (suc zero)) small few some = refl
used-groups zero (suc (suc (suc zero))) small few some = refl
used-groups zero (suc (suc (suc (suc i)))) small few some = absurd (omega arith)
used-groups (suc zero) zero small few some = refl
used-groups (suc zero) (suc zero) small few some = refl
used-groups (suc zero) (suc (suc zero)) small few some = refl
used-groups (suc zero) (suc (suc (suc zero))) small few some = refl
used-groups (suc zero) (suc (suc (suc (suc i)))) small few some = absurd (omega arith)
used-groups (suc (suc zero)) i small few some = absurd (let c : true ≡ false = some in cc)
used-groups (suc (suc (suc zero))) zero small few some = refl
used-groups (suc (suc (suc zero))) (suc zero) small few some = refl
used-groups (suc (suc (suc zero))) (suc (suc zero)) small few some = refl
used-groups (suc (suc (suc zero))) (suc (suc (suc zero))) small few some = refl
used-groups (suc (suc (suc zero))) (suc (suc (suc (suc i)))) small few some = absurd (omega arith)
used-groups (suc (suc (suc (suc n)))) i small few some = absurd (omega arith)

pub groups-are : (n i : ℕ) → n < 4 → i < 4 → (n == 2) ≡ false → empty_of (byte short_folder (Block n)) i ≡ groups_with (is_block_marked_at (byte short_folder (Block n))) 256 (i + 1)
groups-are n i small few some = used-groups n i small few some ∙ groups_same (λ b. nat_lt b (used_blocks n)) (is_block_marked_at (byte short_folder (Block n))) 256 (i + 1) (λ b below. sym (marks-are n b small (omega arith)))
