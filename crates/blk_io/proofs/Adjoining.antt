-- Words that are written side by side are written one by one.
use Rattle.std.proofs.Common.{◌≡◌, ℕ, ◌+◌, ◌*◌, ◌%◌, ◌-◌, ◌≤◌, ◌<◌, List, [], ◌∷◌, ◌++◌, take, drop, take-add, length, map, get_or, refl, sym, ◌∙◌, ap, arith}
use Rattle.std.proofs.lemmas.List.{take-append-drop}
use Rattle.std.specs.List.{flat_map}
use Rattle.spec_image.specs.Bytes.{word_bytes}
use Rattle.spec_image.specs.Image.{File, Image}
use Rattle.spec_image.specs.Steps.{TrailStep, Word, applied, words, word_step, word_steps}
use Rattle.spec_image.specs.Told.{Along}
use Rattle.spec_image.proofs.Images.{length-after_write}
use Rattle.spec_image.proofs.WordSteps.{SameLengths}
use Rattle.spec_image.proofs.Cuts.{words-word, words-split, word_steps-append}
use Rattle.blk_io.specs.Neighbours.{AreSideBySide, run_from}

-- the words of the joined bytes
pub words-run : (f : File) (place : ℕ) (values : List ℕ) → place % 4 ≡ 0 → words f place (flat_map word_bytes values) ≡ word_steps f (run_from place values)
unfolding words
words-run f place [] aligned = refl
words-run f place (v ∷ values) aligned =
    let next : (place + 4) % 4 ≡ 0 = omega arith in
    words-split f place 4 (word_bytes v ++ flat_map word_bytes values) (four v values) next
    ∙ ap (λ (s : List TrailStep). s ++ words f (place + 4) (flat_map word_bytes values)) (words-word f place v aligned)
    ∙ ap (λ (s : List TrailStep). word_step f place v ++ s) (words-run f (place + 4) values next)
  where
    four : (v : ℕ) (values : List ℕ) → 4 ≤ length (word_bytes v ++ flat_map word_bytes values)
    four v values = omega arith

-- the bytes of the words, joined
joined : (values : List ℕ) → flat_map (λ (x : List ℕ). x) (map word_bytes values) ≡ flat_map word_bytes values
joined [] = refl
joined (v ∷ values) = ap (λ (l : List ℕ). word_bytes v ++ l) (joined values)

-- the write of the joined bytes makes the steps of the words one by one
pub words-joined : (f : File) (at : ℕ) (values : List ℕ) (arrays : List (List ℕ)) (bytes : List ℕ) → at % 4 ≡ 0 → arrays ≡ map word_bytes values → bytes ≡ flat_map (λ (x : List ℕ). x) arrays → words f at bytes ≡ word_steps f (run_from at values)
words-joined f at values arrays bytes aligned each all =
    ap (words f at) (all ∙ ap (flat_map (λ (x : List ℕ). x)) each ∙ joined values) ∙ words-run f at values aligned

-- words side by side are those from the place of the first on
pub side_by_side-run : (word : ℕ × ℕ) (more : List (ℕ × ℕ)) → AreSideBySide (word ∷ more) → run_from word.0 (map (λ w. w.1) (word ∷ more)) ≡ word ∷ more
side_by_side-run word [] side = refl
side_by_side-run word (next ∷ more) side =
    ap (λ (ws : List (ℕ × ℕ)). word ∷ ws) (ap (λ (at : ℕ). run_from at (map (λ w. w.1) (next ∷ more))) (sym side.0) ∙ side_by_side-run next more side.1)

-- the last of them lies after the others
pub side_by_side-last : (word : ℕ × ℕ) (more : List (ℕ × ℕ)) → AreSideBySide (word ∷ more) → (get_or (word ∷ more) (length more) (0, 0)).0 ≡ word.0 + 4 * length more
side_by_side-last word [] side = omega arith
side_by_side-last word (next ∷ more) side =
    let behind : (get_or (next ∷ more) (length more) (0, 0)).0 ≡ next.0 + 4 * length more = side_by_side-last next more side.1 in
    let next_at : next.0 ≡ word.0 + 4 = side.0 in
    omega arith

-- the bytes of words with their places are those of the words
bytes_of_words : (ws : List (ℕ × ℕ)) → map (λ w. word_bytes w.1) ws ≡ map word_bytes (map (λ w. w.1) ws)
bytes_of_words [] = refl
bytes_of_words (w ∷ ws) = ap (λ (l : List (List ℕ)). word_bytes w.1 ∷ l) (bytes_of_words ws)

-- words side by side lie inside a length together where each does
pub together-inside : (ws : List (ℕ × ℕ)) (limit : ℕ) → 0 < length ws → AreSideBySide ws → ((k : ℕ) → k < length ws → (get_or ws k (0, 0)).0 + 4 ≤ limit) → (get_or ws 0 (0, 0)).0 + 4 * length ws ≤ limit
together-inside [] limit some side within = absurd (omega arith)
together-inside (w ∷ ws) limit some side within =
    let at_end : (get_or (w ∷ ws) (length ws) (0, 0)).0 ≡ w.0 + 4 * length ws = side_by_side-last w ws side in
    let last : (get_or (w ∷ ws) (length ws) (0, 0)).0 + 4 ≤ limit = within (length ws) (omega arith) in
    omega (arith, at_end, last)

-- the write of their bytes makes their steps
pub words-together : (f : File) (ws : List (ℕ × ℕ)) (arrays : List (List ℕ)) (bytes : List ℕ) → 0 < length ws → AreSideBySide ws → (get_or ws 0 (0, 0)).0 % 4 ≡ 0 → arrays ≡ map (λ w. word_bytes w.1) ws → bytes ≡ flat_map (λ (x : List ℕ). x) arrays → words f (get_or ws 0 (0, 0)).0 bytes ≡ word_steps f ws
words-together f [] arrays bytes some side aligned each all = absurd (omega arith)
words-together f (w ∷ ws) arrays bytes some side aligned each all =
    words-joined f w.0 (map (λ v. v.1) (w ∷ ws)) arrays bytes aligned (each ∙ bytes_of_words (w ∷ ws)) all ∙ ap (word_steps f) (side_by_side-run w ws side)

-- the steps of the words up to a place in their list, with those of a run after it
pub run-more : (f : File) (ws : List (ℕ × ℕ)) (start : ℕ) (run : List (ℕ × ℕ)) → run ≡ take (length run) (drop start ws) → word_steps f (take (start + length run) ws) ≡ word_steps f (take start ws) ++ word_steps f run
run-more f ws start run is =
    ap (word_steps f) (take-add start (length run) ws) ∙ word_steps-append f (take start ws) (take (length run) (drop start ws)) ∙ ap (λ (r : List (ℕ × ℕ)). word_steps f (take start ws) ++ word_steps f r) (sym is)

-- the steps of all words are those up to a place in their list, those of a run there, and those of the words after the run
pub run-split : (f : File) (ws : List (ℕ × ℕ)) (start : ℕ) (run : List (ℕ × ℕ)) → run ≡ take (length run) (drop start ws) → word_steps f ws ≡ (word_steps f (take start ws) ++ word_steps f run) ++ word_steps f (drop (start + length run) ws)
run-split f ws start run is =
    ap (word_steps f) (sym (take-append-drop (start + length run) ws))
    ∙ word_steps-append f (take (start + length run) ws) (drop (start + length run) ws)
    ∙ ap (λ (s : List TrailStep). s ++ word_steps f (drop (start + length run) ws)) (run-more f ws start run is)

-- what depends on the lengths alone holds at each of some words
pub along-words : (P : Image → Type 0) → ((old new : Image) → SameLengths old new → P old → P new) → (f : File) (ws : List (ℕ × ℕ)) (image : Image) → P image → Along P image (word_steps f ws)
unfolding word_step
along-words P keeps f [] image holds = holds
along-words P keeps f (w ∷ ws) image holds =
    (holds, along-words P keeps f ws (applied (Word f w.0 (word_bytes w.1)) image) (keeps image _ (λ g. length-after_write image f g w.0 (word_bytes w.1)) holds))
