-- What holds at each step of a run with notes, and after each of its first steps.
use Rattle.std.proofs.Common.{ℕ, ◌+◌, ◌≡◌, List, [], ◌∷◌, ◌++◌, refl, sym, subst, arith, append_assoc}
use Rattle.std.proofs.lemmas.List.{append-nil}
use Rattle.spec_image.specs.Image.{Image}
use Rattle.spec_image.specs.Steps.{TrailStep, Word, SetLength, Delete, Note, applied, after}
use Rattle.spec_image.specs.Notes.{AlongFrom, AtEachPrefix, AreTrue, notes_in}
use Rattle.spec_image.specs.Laws.{NotesGoOn}

pub along_from-first : (P : List TrailStep → Image → Type 0) (made : List TrailStep) (image : Image) (s : List TrailStep) → AlongFrom P made image s → P made image
along_from-first P made image [] all = all
along_from-first P made image (x ∷ s) all = all.0

pub along_from-last : (P : List TrailStep → Image → Type 0) (made : List TrailStep) (image : Image) (s : List TrailStep) → AlongFrom P made image s → P (made ++ s) (after s image)
along_from-last P made image [] all = subst (λ (m : List TrailStep). P m image) (sym (append-nil made)) all
along_from-last P made image (x ∷ s) all =
    subst (λ (m : List TrailStep). P m (after s (applied x image))) (append_assoc made (x ∷ []) s) (along_from-last P (made ++ x ∷ []) (applied x image) s all.1)

-- one run after another
pub along_from-append : (P : List TrailStep → Image → Type 0) (made : List TrailStep) (image : Image) (s t : List TrailStep)
    → AlongFrom P made image s → AlongFrom P (made ++ s) (after s image) t → AlongFrom P made image (s ++ t)
along_from-append P made image [] t first second = subst (λ (m : List TrailStep). AlongFrom P m image t) (append-nil made) second
along_from-append P made image (x ∷ s) t first second = (
  first.0,
  along_from-append P (made ++ x ∷ []) (applied x image) s t first.1
      (subst (λ (m : List TrailStep). AlongFrom P m (after s (applied x image)) t) (sym (append_assoc made (x ∷ []) s)) second),
)

-- one more step
pub along_from-one : (P : List TrailStep → Image → Type 0) (made : List TrailStep) (image : Image) (s : List TrailStep) (x : TrailStep)
    → AlongFrom P made image s → P (made ++ s ++ x ∷ []) (applied x (after s image)) → AlongFrom P made image (s ++ x ∷ [])
along_from-one P made image s x first second =
    along_from-append P made image s (x ∷ []) first (along_from-last P made image s first, second)

head_same : {A : Type 0} {x y : A} {xs ys : List A} → x ∷ xs ≡ y ∷ ys → x ≡ y
head_same e = cc

tail_same : {A : Type 0} {x y : A} {xs ys : List A} → x ∷ xs ≡ y ∷ ys → xs ≡ ys
tail_same e = cc

nil_clash : {A : Type 0} {P : Type 0} {x : A} {xs : List A} → [] ≡ x ∷ xs → P
nil_clash {x = x} {xs = xs} e = absurd (clash e)
  where
    clash : [] ≡ x ∷ xs → ⊥
    clash c = cc

fronts : (P : List TrailStep → Image → Type 0) (made : List TrailStep) (image : Image) (steps prefix suffix : List TrailStep)
    → AlongFrom P made image steps → steps ≡ prefix ++ suffix → P (made ++ prefix) (after prefix image)
fronts P made image steps [] suffix all split = subst (λ (m : List TrailStep). P m image) (sym (append-nil made)) (along_from-first P made image steps all)
fronts P made image [] (x ∷ prefix) suffix all split = nil_clash split
fronts P made image (y ∷ steps) (x ∷ prefix) suffix all split =
    let same : y ≡ x = head_same split in
    let rest = fronts P (made ++ y ∷ []) (applied y image) steps prefix suffix all.1 (tail_same split) in
    let here = subst (λ (m : List TrailStep). P m (after prefix (applied y image))) (append_assoc made (y ∷ []) prefix) rest in
    subst (λ (z : TrailStep). P (made ++ z ∷ prefix) (after prefix (applied z image))) same here

-- after each of the first steps it holds
pub at_each_prefix : (P : List TrailStep → Image → Type 0) (image : Image) (steps : List TrailStep) → AlongFrom P [] image steps → AtEachPrefix P image steps
at_each_prefix P image steps all prefix suffix split = fronts P [] image steps prefix suffix all split

steps-of : (P : List TrailStep → Image → Type 0) (made : List TrailStep) (image : Image) (steps : List TrailStep)
    → ((prefix suffix : List TrailStep) → steps ≡ prefix ++ suffix → P (made ++ prefix) (after prefix image)) → AlongFrom P made image steps
steps-of P made image [] all = subst (λ (m : List TrailStep). P m image) (append-nil made) (all [] [] refl)
steps-of P made image (x ∷ s) all = (
  subst (λ (m : List TrailStep). P m image) (append-nil made) (all [] (x ∷ s) refl),
  steps-of P (made ++ x ∷ []) (applied x image) s (λ prefix suffix split.
      subst (λ (m : List TrailStep). P m (after prefix (applied x image))) (sym (append_assoc made (x ∷ []) prefix)) (all (x ∷ prefix) suffix (more prefix suffix split))),
)
  where
    more : (prefix suffix : List TrailStep) → s ≡ prefix ++ suffix → x ∷ s ≡ x ∷ prefix ++ suffix
    more prefix suffix split = cc split

-- what holds after each of the first steps holds along them
pub each_step : (P : List TrailStep → Image → Type 0) (image : Image) (steps : List TrailStep) → AtEachPrefix P image steps → AlongFrom P [] image steps
each_step P image steps all = steps-of P [] image steps all

-- Notes, one run of steps after another.

pub notes_in-append : (s t : List TrailStep) → notes_in (s ++ t) ≡ notes_in s + notes_in t
notes_in-append [] t = omega arith
notes_in-append (Word f at bs ∷ s) t = notes_in-append s t
notes_in-append (SetLength f n ∷ s) t = notes_in-append s t
notes_in-append (Delete f ∷ s) t = notes_in-append s t
notes_in-append (Note n ∷ s) t = omega (arith, notes_in-append s t)

pub are_true-append : NotesGoOn
are_true-append n [] t first second = let same : n + 0 ≡ n = omega arith in subst (λ (m : ℕ). AreTrue m t) same second
are_true-append n (Word f at bs ∷ s) t first second = are_true-append n s t first second
are_true-append n (SetLength f m ∷ s) t first second = are_true-append n s t first second
are_true-append n (Delete f ∷ s) t first second = are_true-append n s t first second
are_true-append n (Note k ∷ s) t first second =
    let same : n + (1 + notes_in s) ≡ n + 1 + notes_in s = omega arith in
    (first.0, are_true-append (n + 1) s t first.1 (subst (λ (m : ℕ). AreTrue m t) same second))
