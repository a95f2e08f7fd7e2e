-- What a write and a change of length leave at each place.
use Rattle.std.proofs.Common.{◌≡◌, ℕ, zero, suc, ◌+◌, ◌-◌, ◌<◌, ◌≤◌, List, [], ◌∷◌, length, get_or, take, replicate, refl, ap, sym, ◌∙◌, arith, length-append, length-take, get_or-take, ◌⊎◌, inl, inr, ⊎_elim, ◌++◌, drop, add-one}
use Rattle.std.proofs.lemmas.List.{length-replicate, get_or_append_left, get_or-append_right, get_or_past, take_at, drop_at}
use Rattle.std.proofs.lemmas.Bool.{cases_lt}
use Rattle.spec_image.specs.Bytes.{content, spliced, zeros, resized}

pub length-spliced : (i : ℕ) (new old : List ℕ) → length (spliced i new old) ≡ length old
unfolding spliced
length-spliced i new [] = refl
length-spliced zero [] (x ∷ old) = refl
length-spliced zero (y ∷ new) (x ∷ old) = ap suc (length-spliced zero new old)
length-spliced (suc i) new (x ∷ old) = ap suc (length-spliced i new old)

-- before the write
pub content-spliced_before : (i : ℕ) (new old : List ℕ) (k : ℕ) → k < i → content (spliced i new old) k ≡ content old k
unfolding spliced
content-spliced_before i new [] k h = refl
content-spliced_before zero [] (x ∷ old) k h = refl
content-spliced_before zero (y ∷ new) (x ∷ old) k h = absurd (omega arith)
content-spliced_before (suc i) new (x ∷ old) zero h = refl
content-spliced_before (suc i) new (x ∷ old) (suc k) h = content-spliced_before i new old k (omega arith)

-- after the write
pub content-spliced_behind : (i : ℕ) (new old : List ℕ) (k : ℕ) → i + length new ≤ k → content (spliced i new old) k ≡ content old k
unfolding spliced
content-spliced_behind i new [] k h = refl
content-spliced_behind zero [] (x ∷ old) k h = refl
content-spliced_behind zero (y ∷ new) (x ∷ old) zero h = absurd (omega arith)
content-spliced_behind zero (y ∷ new) (x ∷ old) (suc k) h = content-spliced_behind zero new old k (omega arith)
content-spliced_behind (suc i) new (x ∷ old) zero h = refl
content-spliced_behind (suc i) new (x ∷ old) (suc k) h = content-spliced_behind i new old k (omega arith)

-- byte k of the write, which is at place j
pub content-spliced_inside : (i : ℕ) (new old : List ℕ) (k j : ℕ) → j ≡ i + k → k < length new → j < length old → content (spliced i new old) j ≡ content new k
unfolding spliced
content-spliced_inside i new [] k j e h g = absurd (omega arith)
content-spliced_inside zero [] (x ∷ old) k j e h g = absurd (omega arith)
content-spliced_inside zero (y ∷ new) (x ∷ old) zero zero e h g = refl
content-spliced_inside zero (y ∷ new) (x ∷ old) zero (suc j) e h g = absurd (omega arith)
content-spliced_inside zero (y ∷ new) (x ∷ old) (suc k) zero e h g = absurd (omega arith)
content-spliced_inside zero (y ∷ new) (x ∷ old) (suc k) (suc j) e h g = content-spliced_inside zero new old k j (omega arith) (omega arith) (omega arith)
content-spliced_inside (suc i) new (x ∷ old) k zero e h g = absurd (omega arith)
content-spliced_inside (suc i) new (x ∷ old) k (suc j) e h g = content-spliced_inside i new old k j (omega arith) (omega arith) (omega arith)

-- outside the write
pub content-spliced_outside : (i : ℕ) (new old : List ℕ) (k : ℕ) → (k < i) ⊎ (i + length new ≤ k) → content (spliced i new old) k ≡ content old k
content-spliced_outside i new old k (inl h) = content-spliced_before i new old k h
content-spliced_outside i new old k (inr h) = content-spliced_behind i new old k h

pub length-zeros : (n : ℕ) → length (zeros n) ≡ n
unfolding zeros
length-zeros n = length-replicate n 0

pub length-resized : (n : ℕ) (old : List ℕ) → length (resized n old) ≡ n
unfolding resized zeros
length-resized n old = omega (arith, length-append (take n old) (replicate (n - length old) 0), length-take n old, length-replicate {A = ℕ} (n - length old) 0)

zeros_end : (m k : ℕ) → ◌≡◌ {A = ℕ} (get_or (replicate m 0) k 0) 0
zeros_end zero k = refl
zeros_end (suc m) zero = refl
zeros_end (suc m) (suc k) = zeros_end m k

pub content-zeros : (n k : ℕ) → content (zeros n) k ≡ 0
unfolding zeros
content-zeros n k = zeros_end n k

-- a place below the new length
pub content-resized : (n : ℕ) (old : List ℕ) (k : ℕ) → k < n → content (resized n old) k ≡ content old k
unfolding resized zeros
content-resized n old k h =
    ⊎_elim
    (λ (inside : k < length old).
    let e : k < length (take n old) = omega (arith, length-take n old) in
    get_or_append_left (take n old) (replicate (n - length old) 0) 0 k e ∙ get_or-take n old k 0 h)
    (λ (past : length old ≤ k).
    let few : length (take n old) ≡ length old = omega (arith, length-take n old) in
    get_or-append_right (take n old) (replicate (n - length old) 0) (length old) k 0 few past ∙ zeros_end (n - length old) (k - length old) ∙ sym (get_or_past old k 0 past))
    (cases_lt k (length old))

pub content-resized_past : (n : ℕ) (old : List ℕ) (k : ℕ) → n ≤ k → content (resized n old) k ≡ 0
content-resized_past n old k h = let past : length (resized n old) ≤ k = omega (arith, length-resized n old) in get_or_past (resized n old) k 0 past

-- nothing is written
pub spliced-none : (i : ℕ) (old : List ℕ) → spliced i [] old ≡ old
unfolding spliced
spliced-none i [] = refl
spliced-none zero (x ∷ old) = refl
spliced-none (suc i) (x ∷ old) = ap (λ (l : List ℕ). x ∷ l) (spliced-none i old)

-- two writes, the second right after the first of one byte
pub spliced-join : (i b : ℕ) (w old : List ℕ) → spliced (i + 1) w (spliced i (b ∷ []) old) ≡ spliced i (b ∷ w) old
unfolding spliced
spliced-join i b w old = ap (λ (k : ℕ). spliced k w (spliced i (b ∷ []) old)) (add-one i) ∙ join i old
  where
    join : (i : ℕ) (old : List ℕ) → spliced (suc i) w (spliced i (b ∷ []) old) ≡ spliced i (b ∷ w) old
    join i [] = refl
    join zero (x ∷ old) = ap (λ (l : List ℕ). b ∷ spliced zero w l) (spliced-none zero old)
    join (suc i) (x ∷ old) = ap (λ (l : List ℕ). x ∷ l) (join i old)

-- a write that fits, as a part that is replaced
pub spliced-is : (i : ℕ) (new old : List ℕ) → i + length new ≤ length old → spliced i new old ≡ take i old ++ (new ++ drop (i + length new) old)
unfolding spliced
spliced-is zero [] [] fits = refl
spliced-is zero [] (x ∷ old) fits = refl
spliced-is (suc i) [] [] fits = absurd (omega arith)
spliced-is zero (y ∷ new) [] fits = absurd (omega arith)
spliced-is (suc i) (y ∷ new) [] fits = absurd (omega arith)
spliced-is zero (y ∷ new) (x ∷ old) fits =
    let e : 0 + suc (length new) ≡ suc (length new) = omega arith in
    let d : 0 + length new ≡ length new = omega arith in
    ap (λ (l : List ℕ). y ∷ l) (spliced-is zero new old (omega arith) ∙ ap (λ (k : ℕ). new ++ drop k old) d) ∙ ap (λ (k : ℕ). y ∷ (new ++ drop k (x ∷ old))) (sym e)
spliced-is (suc i) new (x ∷ old) fits =
    let e : suc i + length new ≡ suc (i + length new) = omega arith in
    ap (λ (l : List ℕ). x ∷ l) (spliced-is i new old (omega arith)) ∙ ap (λ (k : ℕ). x ∷ (take i old ++ (new ++ drop k (x ∷ old)))) (sym e)

-- bytes that were written over a prefix of a buffer
pub prefix_spliced : (n : ℕ) (new old : List ℕ) → length new ≡ n → n ≤ length old → (take n (spliced 0 new old) ≡ new) × (drop n (spliced 0 new old) ≡ drop n old)
prefix_spliced n new old size fits =
    let behind : 0 + length new ≡ n = omega arith in
    let is : spliced 0 new old ≡ new ++ drop n old = spliced-is 0 new old (omega arith) ∙ ap (λ (m : ℕ). new ++ drop m old) behind in
    (ap (take n) is ∙ take_at new (drop n old) n size, ap (drop n) is ∙ drop_at new (drop n old) n size)

-- a file that is cut to nothing, and one that is lengthened from nothing
pub resized-zero : (old : List ℕ) → resized 0 old ≡ []
unfolding resized zeros
resized-zero old =
    let none : 0 - length old ≡ 0 = omega arith in ap (λ (n : ℕ). replicate n 0) none

pub resized-empty : (n : ℕ) → resized n [] ≡ zeros n
unfolding resized
resized-empty n = ap (λ (l : List ℕ). l ++ zeros (n - 0)) (take-none n) ∙ (let same : n - 0 ≡ n = omega arith in ap zeros same)
  where
    nothing : List ℕ
    nothing = []

    take-none : (n : ℕ) → take n nothing ≡ nothing
    take-none zero = refl
    take-none (suc n) = refl
