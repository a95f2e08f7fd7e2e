-- Steps without a note, steps that open the session, and the last of some steps.
use Rattle.std.proofs.Common.{ℕ, ◌+◌, ◌≡◌, Bool, true, false, ◌&&◌, ◌||◌, List, [], ◌∷◌, ◌++◌, length, refl, sym, ◌∙◌, ap, arith, append_assoc}
use Rattle.std.specs.Prelude.{◌==◌, nat_le}
use Rattle.std.specs.Str.{bytes_eq}
use Rattle.std.proofs.lemmas.Bool.Decides.{nat_tests}
use Rattle.std.proofs.lemmas.List.{append-nil}
use Rattle.std.proofs.lemmas.List.Folds.{list_any-append}
use Rattle.spec_image.specs.Bytes.{word_bytes}
use Rattle.spec_image.specs.Image.{Image, Index, Block, External}
use Rattle.spec_image.specs.Steps.{TrailStep, Word, SetLength, Delete, Note}
use Rattle.spec_image.specs.Told.{Along, HasNoNote, IsQuiet, is_quiet}
use Rattle.spec_image.specs.Notes.{AreTrue, notes_in}
use Rattle.spec_image.proofs.NotesLemmas.{notes_in-append}
use Rattle.spec_image.proofs.Runs.{only_there}
use Rattle.spec_run.specs.Opening.{has_closed, has_opened, marks_closed, marks_open}
use Rattle.spec_run.specs.Moments.{Completes}

pub true_false : {P : Type 0} {b : Bool} → b ≡ true → b ≡ false → P
true_false {b = b} t f = absurd (clash (sym t ∙ f))
  where
    clash : true ≡ false → ⊥
    clash c = cc

pub along_head : (P : Image → Type 0) (image : Image) (s : List TrailStep) → Along P image s → P image
along_head P image [] all = all
along_head P image (x ∷ s) all = all.0

pub quiet_first : (x : TrailStep) (s : List TrailStep) → HasNoNote (x ∷ s) → HasNoNote (x ∷ [])
quiet_first (Word f at bs) s quiet = tt
quiet_first (SetLength f n) s quiet = tt
quiet_first (Delete f) s quiet = tt
quiet_first (Note n) s quiet = quiet

pub quiet_later : (x : TrailStep) (s : List TrailStep) → HasNoNote (x ∷ s) → HasNoNote s
quiet_later (Word f at bs) s quiet = quiet
quiet_later (SetLength f n) s quiet = quiet
quiet_later (Delete f) s quiet = quiet
quiet_later (Note n) s quiet = absurd quiet

pub quiet_notes : (s : List TrailStep) → HasNoNote s → notes_in s ≡ 0
quiet_notes [] quiet = refl
quiet_notes (Word f at bs ∷ s) quiet = quiet_notes s quiet
quiet_notes (SetLength f n ∷ s) quiet = quiet_notes s quiet
quiet_notes (Delete f ∷ s) quiet = quiet_notes s quiet
quiet_notes (Note n ∷ s) quiet = absurd quiet

pub quiet_true : (n : ℕ) (s : List TrailStep) → HasNoNote s → AreTrue n s
quiet_true n [] quiet = tt
quiet_true n (Word f at bs ∷ s) quiet = quiet_true n s quiet
quiet_true n (SetLength f m ∷ s) quiet = quiet_true n s quiet
quiet_true n (Delete f ∷ s) quiet = quiet_true n s quiet
quiet_true n (Note m ∷ s) quiet = absurd quiet

pub opened-append : (s t : List TrailStep) → has_opened (s ++ t) ≡ (has_opened s || has_opened t)
opened-append s t = list_any-append marks_open s t

pub opened_more : (made s : List TrailStep) → has_opened made ≡ true → has_opened (made ++ s) ≡ true
opened_more made s marked = opened-append made s ∙ ap (λ b. b || has_opened s) marked

pub none_before : (s t : List TrailStep) → has_opened (s ++ t) ≡ false → has_opened s ≡ false
none_before s t none = first (has_opened s) (has_opened t) (sym (opened-append s t) ∙ none)
  where
    first : (a b : Bool) → (a || b) ≡ false → a ≡ false
    first true b e = true_false refl e
    first false b e = refl

pub quiet_counts : (made s : List TrailStep) (n : ℕ) → notes_in made ≡ n → HasNoNote s → notes_in (made ++ s) ≡ n
quiet_counts made s n count quiet = let none = quiet_notes s quiet in let all = notes_in-append made s in omega (arith, none, all, count)

-- the last step says whether the session has ended
pub closed-last : (made : List TrailStep) (x : TrailStep) → has_closed (made ++ x ∷ []) ≡ marks_closed x
closed-last [] x = refl
closed-last (y ∷ []) x = refl
closed-last (y ∷ z ∷ made) x = closed-last (z ∷ made) x

-- a write that spares the words of the session doesn't begin at place 32
spares_crash : (at n : ℕ) → ((nat_le 8 at && nat_le (at + n) 20) || nat_le 36 at) ≡ true → (at == 32) ≡ false
spares_crash at n spares = grind (arith, nat_tests)

-- a step that a command may make doesn't end the session
pub quiet_goes_on : (x : TrailStep) → is_quiet x ≡ true → marks_closed x ≡ false
quiet_goes_on (Word Index at bytes) quiet = ap (λ (b : Bool). b && bytes_eq bytes (word_bytes 0)) (spares_crash at (length bytes) quiet)
quiet_goes_on (Word (Block n) at bytes) quiet = refl
quiet_goes_on (Word (External n) at bytes) quiet = refl
quiet_goes_on (SetLength f n) quiet = refl
quiet_goes_on (Delete f) quiet = refl
quiet_goes_on (Note n) quiet = refl

-- after such steps the session has not ended
pub still_going : (made s : List TrailStep) → has_closed made ≡ false → IsQuiet s → has_closed (made ++ s) ≡ false
still_going made [] going quiet = ap has_closed (append-nil made) ∙ going
still_going made (x ∷ s) going quiet =
    let q = only_there (is_quiet x) quiet in
    ap has_closed (sym (append_assoc made (x ∷ []) s)) ∙ still_going (made ++ x ∷ []) s (closed-last made x ∙ quiet_goes_on x q.0) q.1

-- a step that is no note completes nothing once the opening has ended
pub not_complete : (made : List TrailStep) (x : TrailStep) → has_opened made ≡ true → HasNoNote (x ∷ []) → Completes made x → ⊥
not_complete made (Word f at bs) marked quiet complete = true_false marked complete.0
not_complete made (SetLength f n) marked quiet complete = complete
not_complete made (Delete f) marked quiet complete = complete
not_complete made (Note n) marked quiet complete = quiet

-- a step that is no note completes nothing where the opening hasn't ended after it
pub not_marked : (made : List TrailStep) (x : TrailStep) → has_opened (made ++ x ∷ []) ≡ false → HasNoNote (x ∷ []) → Completes made x → ⊥
not_marked made (Word f at bs) none quiet complete =
    true_false (opened-append made (Word f at bs ∷ []) ∙ ap (λ b. has_opened made || b) (ap (λ b. b || false) complete.1) ∙ or_true (has_opened made)) none
  where
    or_true : (b : Bool) → (b || true) ≡ true
    or_true true = refl
    or_true false = refl
not_marked made (SetLength f n) none quiet complete = complete
not_marked made (Delete f) none quiet complete = complete
not_marked made (Note n) none quiet complete = quiet

pub head_same : {A : Type 0} {x y : A} {xs ys : List A} → x ∷ xs ≡ y ∷ ys → x ≡ y
head_same e = cc

pub tail_same : {A : Type 0} {x y : A} {xs ys : List A} → x ∷ xs ≡ y ∷ ys → xs ≡ ys
tail_same e = cc

pub nil_clash : {A : Type 0} {P : Type 0} {x : A} {xs : List A} → [] ≡ x ∷ xs → P
nil_clash {x = x} {xs = xs} e = absurd (clash e)
  where
    clash : [] ≡ x ∷ xs → ⊥
    clash c = cc

-- no steps have no last one
pub no_last : {P : Type 0} (before : List TrailStep) (last : TrailStep) → [] ≡ before ++ last ∷ [] → P
no_last [] last c = nil_clash c
no_last (x ∷ before) last c = nil_clash c

-- the last of some steps is one
pub snoc_step : (s t : List TrailStep) (x y : TrailStep) → s ++ x ∷ [] ≡ t ++ y ∷ [] → (s ≡ t) × (x ≡ y)
snoc_step [] [] x y e = (refl, head_same e)
snoc_step [] (b ∷ t) x y e = no_last t y (tail_same e)
snoc_step (a ∷ s) [] x y e = no_last s x (sym (tail_same e))
snoc_step (a ∷ s) (b ∷ t) x y e =
    let more = snoc_step s t x y (tail_same e) in
    let first : a ≡ b = head_same e in
    (ap (λ (h : TrailStep). h ∷ s) first ∙ ap (λ (l : List TrailStep). b ∷ l) more.0, more.1)
