-- Lists of words of different first blocks.
use Rattle.std.proofs.Common.{◌≡◌, ◌≢◌, ⊎_elim, ℕ, Bool, true, false, List, [], ◌∷◌, ◌++◌, map, refl, sym, ◌∙◌, ap}
use Rattle.std.specs.Prelude.{◌==◌}
use Rattle.std.proofs.lemmas.Bool.{or_cases, or_left, or_right, eq-eqb, eqb-true}
use Rattle.spec_format.specs.BlockFiles.{is_among}
use Rattle.spec_folder.specs.ListView.{Distinct}
use Rattle.spec_folder.specs.Chains.{file_and_block}

-- a word's first block is among those of the words
pub among-blocks : (words : List ℕ) (x : ℕ) → is_among words x ≡ true → is_among (map file_and_block words) (file_and_block x) ≡ true
among-blocks [] x h = cc
among-blocks (w ∷ words) x h =
    ⊎_elim
    (λ (e : (w == x) ≡ true). or_left (file_and_block w == file_and_block x) (is_among (map file_and_block words) (file_and_block x)) (eq-eqb (file_and_block w) (file_and_block x) (ap file_and_block (eqb-true w x e))))
    (λ (e : is_among words x ≡ true). or_right (file_and_block w == file_and_block x) (is_among (map file_and_block words) (file_and_block x)) (among-blocks words x e))
    (or_cases (w == x) (is_among words x) h)

-- the middle one is there
pub middle-there : (prefix : List ℕ) (p : ℕ) (rest : List ℕ) → is_among (prefix ++ p ∷ rest) p ≡ true
middle-there [] p rest = or_left (p == p) (is_among rest p) (eq-eqb p p refl)
middle-there (y ∷ prefix) p rest = or_right (y == p) (is_among (prefix ++ p ∷ rest) p) (middle-there prefix p rest)

pub behind-there : (prefix : List ℕ) (p c : ℕ) (rest : List ℕ) → is_among (prefix ++ p ∷ c ∷ rest) c ≡ true
behind-there [] p c rest = or_right (p == c) (is_among (c ∷ rest) c) (or_left (c == c) (is_among rest c) (eq-eqb c c refl))
behind-there (y ∷ prefix) p c rest = or_right (y == c) (is_among (prefix ++ p ∷ c ∷ rest) c) (behind-there prefix p c rest)

no-both : (b : Bool) → b ≡ true → b ≡ false → ⊥
no-both true t f = cc
no-both false t f = cc

-- the others have other first blocks than the middle one
pub front-apart : (prefix : List ℕ) (p : ℕ) (rest : List ℕ) → Distinct (map file_and_block (prefix ++ p ∷ rest)) → (x : ℕ) → is_among prefix x ≡ true → file_and_block x ≢ file_and_block p
front-apart [] p rest d x h e = cc
front-apart (y ∷ prefix) p rest d x h e =
    ⊎_elim
    (λ (s : (y == x) ≡ true). no-both (is_among (map file_and_block (prefix ++ p ∷ rest)) (file_and_block y))
    (ap (is_among (map file_and_block (prefix ++ p ∷ rest))) (ap file_and_block (eqb-true y x s) ∙ e) ∙ among-blocks (prefix ++ p ∷ rest) p (middle-there prefix p rest)) d.0)
    (λ (s : is_among prefix x ≡ true). front-apart prefix p rest d.1 x s e)
    (or_cases (y == x) (is_among prefix x) h)

pub rest-apart : (prefix : List ℕ) (p : ℕ) (rest : List ℕ) → Distinct (map file_and_block (prefix ++ p ∷ rest)) → (x : ℕ) → is_among rest x ≡ true → file_and_block x ≢ file_and_block p
rest-apart [] p rest d x h e = no-both (is_among (map file_and_block rest) (file_and_block p)) (ap (is_among (map file_and_block rest)) (sym e) ∙ among-blocks rest x h) d.0
rest-apart (y ∷ prefix) p rest d x h e = rest-apart prefix p rest d.1 x h e

-- each word of the shorter list is one of the longer
pub still-there : (prefix : List ℕ) (p c : ℕ) (rest : List ℕ) (x : ℕ) → is_among (prefix ++ p ∷ rest) x ≡ true → is_among (prefix ++ p ∷ c ∷ rest) x ≡ true
still-there [] p c rest x h =
    ⊎_elim (λ (e : (p == x) ≡ true). or_left (p == x) (is_among (c ∷ rest) x) e) (λ (e : is_among rest x ≡ true). or_right (p == x) (is_among (c ∷ rest) x) (or_right (c == x) (is_among rest x) e)) (or_cases (p == x) (is_among rest x) h)
still-there (y ∷ prefix) p c rest x h =
    ⊎_elim (λ (e : (y == x) ≡ true). or_left (y == x) (is_among (prefix ++ p ∷ c ∷ rest) x) e)
    (λ (e : is_among (prefix ++ p ∷ rest) x ≡ true). or_right (y == x) (is_among (prefix ++ p ∷ c ∷ rest) x) (still-there prefix p c rest x e)) (or_cases (y == x) (is_among (prefix ++ p ∷ rest) x) h)
