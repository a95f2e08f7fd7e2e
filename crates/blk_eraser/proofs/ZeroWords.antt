-- Zeros that are written one piece after another.
use Rattle.std.proofs.Common.{◌≡◌, ℕ, zero, suc, ◌+◌, ◌-◌, ◌%◌, ◌<◌, ◌≤◌, ◌⊎◌, inl, inr, ⊎_elim, min, List, [], ◌∷◌, ◌++◌, length, take, drop, replicate, refl, sym, ◌∙◌, ap, subst, arith}
use Rattle.std.proofs.lemmas.Bool.{cases_lt}
use Rattle.std.proofs.lemmas.List.{append-nil}
use Rattle.std.specs.Option.{ForSome}
use Rattle.spec_image.specs.Bytes.{zeros}
use Rattle.spec_image.specs.Image.{File, Image, length_of}
use Rattle.spec_image.specs.Steps.{TrailStep, words}
use Rattle.spec_image.specs.Footprint.{SameOutside, range}
use Rattle.spec_image.specs.Told.{Told, Along, Applies, AppliesPrefix}
use Rattle.spec_image.proofs.Cuts.{words-split}
use Rattle.spec_image.proofs.Splices.{length-zeros}
use Rattle.spec_image.proofs.Runs.{part_only, until_weaker2, told_part}
use Rattle.spec_image.proofs.Footprints.{words_inside}

take-zeros : (a n : ℕ) → take a (zeros (a + n)) ≡ zeros a
unfolding zeros
take-zeros zero n = refl
take-zeros (suc a) n =
    let next : suc a + n ≡ suc (a + n) = omega arith in ap (λ (m : ℕ). take (suc a) (replicate m 0)) next ∙ ap (λ (l : List ℕ). 0 ∷ l) (take-zeros a n)

drop-zeros : (a n : ℕ) → drop a (zeros (a + n)) ≡ zeros n
unfolding zeros
drop-zeros zero n =
    let same : 0 + n ≡ n = omega arith in ap (λ (m : ℕ). replicate m 0) same
drop-zeros (suc a) n =
    let next : suc a + n ≡ suc (a + n) = omega arith in ap (λ (m : ℕ). drop (suc a) (replicate m 0)) next ∙ drop-zeros a n

-- a prefix of zeros is zeros
pub prefix_zeros : (n most : ℕ) → n ≤ most → take n (zeros most) ≡ zeros n
prefix_zeros n most few =
    let all : n + (most - n) ≡ most = omega arith in sym (ap (λ (m : ℕ). take n (zeros m)) all) ∙ take-zeros n (most - n)

pub no_words : (f : File) (place : ℕ) → words f place (zeros 0) ≡ []
unfolding words zeros
no_words f place = refl

-- so many zeros, and more after them, where a word ends or none came before
pub words-zeros_more : (f : File) (from a n : ℕ) → ((from + a) % 4 ≡ 0) ⊎ (a ≡ 0) → words f from (zeros (a + n)) ≡ words f from (zeros a) ++ words f (from + a) (zeros n)
words-zeros_more f from a n (inl edge) =
    let fits : a ≤ length (zeros (a + n)) = omega (arith, length-zeros (a + n)) in
    words-split f from a (zeros (a + n)) fits edge ∙ ap (λ (l : List ℕ). words f from l ++ words f (from + a) (drop a (zeros (a + n)))) (take-zeros a n) ∙ ap (λ (l : List ℕ). words f from (zeros a) ++ words f (from + a) l) (drop-zeros a n)
words-zeros_more f from a n (inr none) =
    let here : from + a ≡ from = omega arith in
    let all : a + n ≡ n = omega arith in
    ap (λ (m : ℕ). words f from (zeros m)) all ∙ sym (ap (λ (m : ℕ). words f from (zeros m) ++ words f (from + a) (zeros n)) none ∙ ap (λ (s : List TrailStep). s ++ words f (from + a) (zeros n)) (no_words f from) ∙ ap (λ (m : ℕ). words f m (zeros n)) here)

-- what holds of a file's length holds while words are written
along_length : (P : ℕ → Type 0) (f g : File) (place : ℕ) (bytes : List ℕ) (image : Image) → P (length_of image g) → Along (λ image. P (length_of image g)) image (words f place bytes)
along_length P f g place bytes image holds =
    until_weaker2 (SameOutside (range f place (length bytes)) image) (λ i. P (length_of i g)) (SameOutside (range f place (length bytes)) image) (λ i. P (length_of i g)) (words f place bytes) image still still (words_inside f place bytes image)
  where
    still : (i : Image) → SameOutside (range f place (length bytes)) image i → P (length_of i g)
    still i same = subst P (sym (same.lengths g refl)) holds

-- and where some of them were written
pub told_length : {a b : Told} (P : ℕ → Type 0) (f g : File) (place : ℕ) (bytes : List ℕ) → AppliesPrefix a b (words f place bytes) → ForSome a.files (λ image. P (length_of image g)) → ForSome b.files (λ image. P (length_of image g))
told_length {a} {b} P f g place bytes part holds = told_part (λ image. P (length_of image g)) part (λ image there. along_length P f g place bytes image (holds image there))

-- how far one piece goes on from a place
pub piece_edge : (from end place n : ℕ) → from ≤ place → place < end → n ≡ min (4096 - place % 4096) (end - place) → (((place + n) % 4 ≡ 0) ⊎ (place + n - from ≡ 0)) ⊎ (end ≤ place + n)
piece_edge from end place n above more is =
    ⊎_elim (λ (last : end - place < 4096 - place % 4096). inr (reached (is ∙ large last))) (λ (inner : 4096 - place % 4096 ≤ end - place). inl (inl (aligned (is ∙ small inner)))) (cases_lt (end - place) (4096 - place % 4096))
  where
    small : 4096 - place % 4096 ≤ end - place → min (4096 - place % 4096) (end - place) ≡ 4096 - place % 4096
    small inner = omega arith

    large : end - place < 4096 - place % 4096 → min (4096 - place % 4096) (end - place) ≡ end - place
    large last = omega arith

    aligned : n ≡ 4096 - place % 4096 → (place + n) % 4 ≡ 0
    aligned here = omega arith

    reached : n ≡ end - place → end ≤ place + n
    reached here = omega arith

-- the zeros up to a place, and a piece from there on
pub zeros_on : (f : File) (from end place n : ℕ) → from ≤ place → place < end → ((place % 4 ≡ 0) ⊎ (place - from ≡ 0)) ⊎ (end ≤ place) → words f from (zeros (place + n - from)) ≡ words f from (zeros (place - from)) ++ words f place (zeros n)
zeros_on f from end place n above more (inr past) = absurd (omega arith)
zeros_on f from end place n above more (inl edge) =
    let all : place + n - from ≡ (place - from) + n = omega arith in
    let here : from + (place - from) ≡ place = omega arith in
    ap (λ (m : ℕ). words f from (zeros m)) all ∙ words-zeros_more f from (place - from) n (edge_at edge) ∙ ap (λ (m : ℕ). words f from (zeros (place - from)) ++ words f m (zeros n)) here
  where
    edge_at : (place % 4 ≡ 0) ⊎ (place - from ≡ 0) → ((from + (place - from)) % 4 ≡ 0) ⊎ (place - from ≡ 0)
    edge_at (inl aligned) =
        let here : from + (place - from) ≡ place = omega arith in inl (ap (λ (m : ℕ). m % 4) here ∙ aligned)
    edge_at (inr none) = inr none

-- the zeros up to a place, a piece from there on, and the rest
pub zeros_split : (f : File) (from end place n : ℕ) → from ≤ place → place < end → n ≡ min (4096 - place % 4096) (end - place) → ((place % 4 ≡ 0) ⊎ (place - from ≡ 0)) ⊎ (end ≤ place)
    → words f from (zeros (end - from)) ≡ (words f from (zeros (place - from)) ++ words f place (zeros n)) ++ words f (place + n) (zeros (end - (place + n)))
zeros_split f from end place n above more is edge = by_edge (piece_edge from end place n above more is)
  where
    some : n ≤ end - place
    some = omega arith

    front : words f from (zeros (place + n - from)) ≡ words f from (zeros (place - from)) ++ words f place (zeros n)
    front = zeros_on f from end place n above more edge

    by_edge : (((place + n) % 4 ≡ 0) ⊎ (place + n - from ≡ 0)) ⊎ (end ≤ place + n) → words f from (zeros (end - from)) ≡ (words f from (zeros (place - from)) ++ words f place (zeros n)) ++ words f (place + n) (zeros (end - (place + n)))
    by_edge (inl cut) =
        let all : end - from ≡ (place + n - from) + (end - (place + n)) = omega (arith, some) in
        let here : from + (place + n - from) ≡ place + n = omega arith in
        ap (λ (m : ℕ). words f from (zeros m)) all
        ∙ words-zeros_more f from (place + n - from) (end - (place + n)) (at_cut cut)
        ∙ ap (λ (s : List TrailStep). s ++ words f (from + (place + n - from)) (zeros (end - (place + n)))) front
        ∙ ap (λ (m : ℕ). (words f from (zeros (place - from)) ++ words f place (zeros n)) ++ words f m (zeros (end - (place + n)))) here
      where
        at_cut : ((place + n) % 4 ≡ 0) ⊎ (place + n - from ≡ 0) → ((from + (place + n - from)) % 4 ≡ 0) ⊎ (place + n - from ≡ 0)
        at_cut (inl aligned) =
            let here : from + (place + n - from) ≡ place + n = omega arith in inl (ap (λ (m : ℕ). m % 4) here ∙ aligned)
        at_cut (inr none) = inr none
    by_edge (inr past) =
        let all : end - from ≡ place + n - from = omega (arith, some) in
        let rest : end - (place + n) ≡ 0 = omega arith in
        ap (λ (m : ℕ). words f from (zeros m)) all ∙ front
        ∙ sym (ap (λ (m : ℕ). (words f from (zeros (place - from)) ++ words f place (zeros n)) ++ words f (place + n) (zeros m)) rest
        ∙ ap (λ (s : List TrailStep). (words f from (zeros (place - from)) ++ words f place (zeros n)) ++ s) (no_words f (place + n)) ∙ append-nil (words f from (zeros (place - from)) ++ words f place (zeros n)))

-- what a cut writes zeros over
cut_words : (f : File) (to long from : ℕ) → from ≡ min to long → words f from (zeros (long - from)) ≡ words f to (zeros (long - to))
cut_words f to long from is = ⊎_elim shorter longer (cases_lt to long)
  where
    shorter : to < long → words f from (zeros (long - from)) ≡ words f to (zeros (long - to))
    shorter less =
        let same : from ≡ to = omega (arith, is) in ap (λ (m : ℕ). words f m (zeros (long - m))) same

    longer : long ≤ to → words f from (zeros (long - from)) ≡ words f to (zeros (long - to))
    longer more =
        let none : long - from ≡ 0 = omega (arith, is) in
        let nothing : long - to ≡ 0 = omega arith in
        ap (λ (m : ℕ). words f from (zeros m)) none ∙ no_words f from ∙ sym (ap (λ (m : ℕ). words f to (zeros m)) nothing ∙ no_words f to)

pub cut_all : {a b : Told} (f : File) (to long from : ℕ) → from ≡ min to long → ForSome a.files (λ image. length_of image f ≡ long) → Applies a b (words f from (zeros (long - from))) → ForSome a.files (λ image. Applies a b (words f to (zeros (length_of image f - to))))
cut_all {a} {b} f to long from is known applies = λ image there.
    subst (λ (m : ℕ). Applies a b (words f to (zeros (m - to)))) (sym (known image there)) (subst (Applies a b) (cut_words f to long from is) applies)

pub cut_part : {a b : Told} (f : File) (to long from : ℕ) (rest : List TrailStep) → from ≡ min to long → ForSome a.files (λ image. length_of image f ≡ long) → AppliesPrefix a b (words f from (zeros (long - from)))
    → ForSome a.files (λ image. AppliesPrefix a b (words f to (zeros (length_of image f - to)) ++ rest))
cut_part {a} {b} f to long from rest is known part = λ image there.
    part_only rest (subst (λ (m : ℕ). AppliesPrefix a b (words f to (zeros (m - to)))) (sym (known image there)) (subst (AppliesPrefix a b) (cut_words f to long from is) part))

pub delete_all : {a b : Told} (f : File) (long : ℕ) → ForSome a.files (λ image. length_of image f ≡ long) → Applies a b (words f 0 (zeros (long - 0))) → ForSome a.files (λ image. Applies a b (words f 0 (zeros (length_of image f))))
delete_all {a} {b} f long known applies = λ image there.
    let all : long - 0 ≡ length_of image f = omega (arith, known image there) in subst (λ (m : ℕ). Applies a b (words f 0 (zeros m))) all applies
