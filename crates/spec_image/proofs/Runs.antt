-- How the steps of several calls are joined.
use Rattle.std.proofs.Common.{◌≡◌, ℕ, ◌+◌, ◌%◌, ◌≤◌, ◌⊎◌, inl, inr, Bool, true, false, take, drop, List, [], ◌∷◌, ◌++◌, length, Option, None, Some, Result, Ok, Err, OnOk, OnErr, refl, sym, ◌∙◌, ap, subst, arith, append_assoc}
use Rattle.std.specs.Option.{option_map, ForSome}
use Rattle.std.proofs.lemmas.List.{append-nil, take_all}
use Rattle.spec_image.specs.Image.{File, Image}
use Rattle.spec_image.specs.Steps.{TrailStep, Word, SetLength, Delete, Note, applied, after, words}
use Rattle.spec_image.specs.Told.{Told, Trail, Applies, AppliesPrefix, Along, Until, IsQuiet, OnlyWhere, PassesTo, is_quiet, longer}
use Rattle.spec_image.specs.Laws.{StepsOfOneCallAreOne}
use Rattle.spec_image.proofs.Cuts.{after-append, words-split}

after_more : (s t : List TrailStep) (a b c : Option Image) → b ≡ option_map (after s) a → c ≡ option_map (after t) b → c ≡ option_map (after (s ++ t)) a
after_more s t None b c first second = second ∙ ap (option_map (after t)) first
after_more s t (Some image) b c first second = second ∙ ap (option_map (after t)) first ∙ ap Some (sym (after-append s t image))

longer_more : (s t : List TrailStep) (a b c : Option Trail) → b ≡ option_map (longer s) a → c ≡ option_map (longer t) b → c ≡ option_map (longer (s ++ t)) a
longer_more s t None b c first second = second ∙ ap (option_map (longer t)) first
longer_more s t (Some trail) b c first second =
    second ∙ ap (option_map (longer t)) first ∙ ap (λ (steps : List TrailStep). Some (record { start = trail.start; steps = steps })) (append_assoc trail.steps s t)

-- one call after another
pub grows_then : {a b c : Told} {s t : List TrailStep} → Applies a b s → Applies b c t → Applies a c (s ++ t)
grows_then {a} {b} {c} {s} {t} first second = record {
  files = after_more s t a.files b.files c.files first.files second.files;
  trail = longer_more s t a.trail b.trail c.trail first.trail second.trail;
}

-- a whole call, and a prefix of the steps that follow it
pub part_then : {a b c : Told} {s t : List TrailStep} → Applies a b s → AppliesPrefix b c t → AppliesPrefix a c (s ++ t)
part_then {a} {b} {c} {s} {t} first second = record {
  made = s ++ second.made;
  left = second.left;
  split = ap (λ (l : List TrailStep). s ++ l) second.split ∙ sym (append_assoc s second.made second.left);
  applies = grows_then first second.applies;
}

-- a prefix of a call's steps, and none of those that would follow
pub part_only : {a b : Told} {s : List TrailStep} (t : List TrailStep) → AppliesPrefix a b s → AppliesPrefix a b (s ++ t)
part_only {a} {b} {s} t first = record {
  made = first.made;
  left = first.left ++ t;
  split = ap (λ (l : List TrailStep). l ++ t) first.split ∙ append_assoc first.made first.left t;
  applies = first.applies;
}

-- all steps are a prefix of them
pub part_whole : {a b : Told} {s : List TrailStep} → Applies a b s → AppliesPrefix a b s
part_whole {a} {b} {s} all = record { made = s; left = []; split = sym (append-nil s); applies = all }

-- each prefix of the steps leaves files that have P
pub along_prefix : (P : Image → Type 0) (s t : List TrailStep) (image : Image) → Along P image (s ++ t) → P (after s image)
along_prefix P [] [] image all = all
along_prefix P [] (x ∷ t) image all = all.0
along_prefix P (x ∷ s) t image all = along_prefix P s t (applied x image) all.1

pub some_inj : {A : Type 0} {x y : A} → Some x ≡ Some y → x ≡ y
some_inj e = cc

told_after : (P : Image → Type 0) (s t : List TrailStep) (a b : Option Image) → b ≡ option_map (after s) a → ForSome a (λ image. Along P image (s ++ t)) → ForSome b P
told_after P s t None b is all image there = absurd (elim_none (sym there ∙ is))
  where
    elim_none : Some image ≡ None → ⊥
    elim_none e = cc
told_after P s t (Some from) b is all image there = subst P (some_inj (sym is ∙ there)) (along_prefix P s t from (all from refl))

-- a prefix of the steps leaves files that have P, where each prefix of them does
pub told_part : {a b : Told} {s : List TrailStep} (P : Image → Type 0) → AppliesPrefix a b s → ForSome a.files (λ image. Along P image s) → ForSome b.files P
told_part {a} {b} {s} P part all =
    told_after P part.made part.left a.files b.files part.applies.files (λ image there. subst (Along P image) part.split (all image there))

-- a prefix of a write that ends where a word ends
pub part_of_write : (a b : Told) (f : File) (at n : ℕ) (bs : List ℕ) → n ≤ length bs → (n ≡ length bs) ⊎ (((at + n) % 4 ≡ 0) ⊎ (n ≡ 0)) → Applies a b (words f at (take n bs)) → AppliesPrefix a b (words f at bs)
unfolding words
part_of_write a b f at n bs fits (inl all) grows = part_whole (subst (λ (l : List ℕ). Applies a b (words f at l)) (take_all n bs (omega arith)) grows)
part_of_write a b f at n bs fits (inr (inl edge)) grows = record { made = words f at (take n bs); left = words f (at + n) (drop n bs); split = words-split f at n bs fits edge; applies = grows }
part_of_write a b f at n bs fits (inr (inr none)) grows = record { made = []; left = words f at bs; split = refl; applies = subst (λ (m : ℕ). Applies a b (words f at (take m bs))) none grows }

-- what holds between the files before the steps and those after each
pub told_rel : {a b : Told} {s : List TrailStep} (P : Image → Image → Type 0) → AppliesPrefix a b s → ((image : Image) → Along (P image) image s) → ForSome a.files (λ old. ForSome b.files (P old))
told_rel {a} {b} {s} P part all old there new now =
    told_part (P old) part (λ image is. subst (λ (i : Image). Along (P old) i s) (some_inj (sym there ∙ is)) (all old)) new now

-- where a test holds, what follows it may be weaker
pub only_weaker : {P Q : Type 0} (test : Bool) → (P → Q) → OnlyWhere test P → OnlyWhere test Q
only_weaker {P} {Q} true weaker holds = weaker holds
only_weaker {P} {Q} false weaker holds = holds

-- what holds where the test does
pub only_there : {P : Type 0} (test : Bool) → OnlyWhere test P → (test ≡ true) × P
only_there {P} true holds = (refl, holds)
only_there {P} false holds = absurd holds

pub only_here : {P : Type 0} (test : Bool) → test ≡ true → P → OnlyWhere test P
only_here {P} test is holds = rw is holds

-- a prefix of quiet steps is quiet
pub quiet_prefix : (s t : List TrailStep) → IsQuiet (s ++ t) → IsQuiet s
quiet_prefix [] t quiet = tt
quiet_prefix (x ∷ s) t quiet = only_weaker (is_quiet x) (λ rest. quiet_prefix s t rest) quiet

pub quiet-append : (s t : List TrailStep) → IsQuiet s → IsQuiet t → IsQuiet (s ++ t)
quiet-append [] t first second = second
quiet-append (x ∷ s) t first second = only_weaker (is_quiet x) (λ rest. quiet-append s t rest second) first

pub until_prefix : (P Q : Image → Type 0) (s t : List TrailStep) (image : Image) → ((image : Image) → P image → Q image) → Until P Q image (s ++ t) → Until P Q image s
until_prefix P Q [] [] image weaker all = all
until_prefix P Q [] (x ∷ t) image weaker all = weaker image all.0
until_prefix P Q (x ∷ s) t image weaker all = (all.0, until_prefix P Q s t (applied x image) weaker all.1)

pub until-append : (P Q : Image → Type 0) (s t : List TrailStep) (image : Image) → Until P P image s → Until P Q (after s image) t → Until P Q image (s ++ t)
until-append P Q [] t image first second = second
until-append P Q (x ∷ s) t image first second = (first.0, until-append P Q s t (applied x image) first.1 second)

pub until_weaker : (P Q R : Image → Type 0) (s : List TrailStep) (image : Image) → ((image : Image) → Q image → R image) → Until P Q image s → Until P R image s
until_weaker P Q R [] image weaker all = weaker image all
until_weaker P Q R (x ∷ s) image weaker all = (all.0, until_weaker P Q R s (applied x image) weaker all.1)

pub until_last : (P Q : Image → Type 0) (s : List TrailStep) (image : Image) → Until P Q image s → Q (after s image)
until_last P Q [] image all = all
until_last P Q (x ∷ s) image all = until_last P Q s (applied x image) all.1

-- no step was made
pub grows_none : {a b : Told} → b ≡ a → Applies a b []
grows_none {a} {b} same = record { files = ap (λ (t : Told). t.files) same ∙ files_none a.files; trail = ap (λ (t : Told). t.trail) same ∙ trail_none a.trail }
  where
    files_none : (o : Option Image) → o ≡ option_map (after []) o
    files_none None = refl
    files_none (Some image) = refl

    trail_none : (o : Option Trail) → o ≡ option_map (longer []) o
    trail_none None = refl
    trail_none (Some trail) = ap (λ (s : List TrailStep). Some (record { start = trail.start; steps = s })) (sym (append-nil trail.steps))

-- no call was made, or one without a step
pub passes_none : {a b : Told} (P : Image → Type 0) → b ≡ a → ForSome a.files P → PassesTo a b P P
passes_none {a} {b} P same holds = record { steps = []; applies = grows_none same; quiet = tt; along = holds }

-- a call of which a prefix of the steps was made
pub passes_part : {a b : Told} {s : List TrailStep} (P Q : Image → Type 0) → AppliesPrefix a b s → IsQuiet s → ((image : Image) → P image → Q image) → ForSome a.files (λ image. Until P Q image s) → PassesTo a b P Q
passes_part {a} {b} {s} P Q part quiet weaker all = record {
  steps = part.made;
  applies = part.applies;
  quiet = quiet_prefix part.made part.left (subst IsQuiet part.split quiet);
  along = λ image there. until_prefix P Q part.made part.left image weaker (subst (Until P Q image) part.split (all image there));
}

-- one call after another
pub passes_then : {a b c : Told} {P Q : Image → Type 0} → PassesTo a b P P → PassesTo b c P Q → PassesTo a c P Q
passes_then {a} {b} {c} {P} {Q} first second = record {
  steps = first.steps ++ second.steps;
  applies = grows_then first.applies second.applies;
  quiet = quiet-append first.steps second.steps first.quiet second.quiet;
  along = λ image there. until-append P Q first.steps second.steps image (first.along image there) (second.along _ (first.applies.files ∙ ap (option_map (after first.steps)) there));
}

-- what holds after the last step may be weaker
pub passes_to : {a b : Told} {P Q R : Image → Type 0} → PassesTo a b P Q → ((image : Image) → Q image → R image) → PassesTo a b P R
passes_to {a} {b} {P} {Q} {R} first weaker = record {
  steps = first.steps;
  applies = first.applies;
  quiet = first.quiet;
  along = λ image there. until_weaker P Q R first.steps image weaker (first.along image there);
}

-- what holds after the last step
pub passes_end : {a b : Told} {P Q : Image → Type 0} → PassesTo a b P Q → ForSome b.files Q
passes_end {a} {b} {P} {Q} first = at_end a.files b.files first.applies.files first.along
  where
    at_end : (x y : Option Image) → y ≡ option_map (after first.steps) x → ForSome x (λ image. Until P Q image first.steps) → ForSome y Q
    at_end None y is along image there = absurd (no_some (sym is ∙ there))
      where
        no_some : None ≡ Some image → ⊥
        no_some e = cc
    at_end (Some from) y is along image there = subst Q (some_inj (sym is ∙ there)) (until_last P Q first.steps from (along from refl))

-- what holds after all of the steps
pub told_whole : {a b : Told} {s : List TrailStep} (Q : Image → Type 0) → Applies a b s → ForSome a.files (λ image. Q (after s image)) → ForSome b.files Q
told_whole {a} {b} {s} Q grows all = at_end a.files b.files grows.files all
  where
    at_end : (x y : Option Image) → y ≡ option_map (after s) x → ForSome x (λ image. Q (after s image)) → ForSome y Q
    at_end None y is holds image there = absurd (no_some (sym is ∙ there))
      where
        no_some : None ≡ Some image → ⊥
        no_some e = cc
    at_end (Some from) y is holds image there = subst Q (some_inj (sym is ∙ there)) (holds from refl)

-- one step that was made or not
pub part_of_one : {T E : Type 0} {a b : Told} {s : List TrailStep} (r : Result T E) → OnOk r (Applies a b s) → OnErr r (b ≡ a) → AppliesPrefix a b s
part_of_one {T} {E} {a} {b} {s} (Ok x) whole none = part_whole whole
part_of_one {T} {E} {a} {b} {s} (Err e) whole none = record { made = []; left = s; split = refl; applies = grows_none none }

pub until_weaker2 : (P P' Q Q' : Image → Type 0) (s : List TrailStep) (image : Image) → ((image : Image) → P image → P' image) → ((image : Image) → Q image → Q' image) → Until P Q image s → Until P' Q' image s
until_weaker2 P P' Q Q' [] image before last all = last image all
until_weaker2 P P' Q Q' (x ∷ s) image before last all = (before image all.0, until_weaker2 P P' Q Q' s (applied x image) before last all.1)

-- what holds before each step and after the last may be weaker
pub passes_weaker : {a b : Told} {P P' Q Q' : Image → Type 0} → PassesTo a b P Q → ((image : Image) → P image → P' image) → ((image : Image) → Q image → Q' image) → PassesTo a b P' Q'
passes_weaker {a} {b} {P} {P'} {Q} {Q'} first before last = record {
  steps = first.steps;
  applies = first.applies;
  quiet = first.quiet;
  along = λ image there. until_weaker2 P P' Q Q' first.steps image before last (first.along image there);
}

-- a call without a step comes before
pub passes_stayed : {a m b : Told} {P Q : Image → Type 0} → m ≡ a → PassesTo m b P Q → PassesTo a b P Q
passes_stayed {a} {m} {b} {P} {Q} stays rest = subst (λ (t : Told). PassesTo t b P Q) stays rest

-- of an opaque folder that stays as it is any steps have a prefix that was made, the empty one
pub part_untold : {a b : Told} (s : List TrailStep) → a.files ≡ None → a.trail ≡ None → b ≡ a → AppliesPrefix a b s
part_untold {a} {b} s files trail same = record { made = []; left = s; split = refl; applies = grows_none same }

-- a prefix of the steps of a prefix of a write is one of the write's steps
pub part_of_front : (a b : Told) (f : File) (at n : ℕ) (bs : List ℕ) → n ≤ length bs → (n ≡ length bs) ⊎ (((at + n) % 4 ≡ 0) ⊎ (n ≡ 0)) → AppliesPrefix a b (words f at (take n bs)) → AppliesPrefix a b (words f at bs)
unfolding words
part_of_front a b f at n bs fits (inl all) part = subst (λ (l : List ℕ). AppliesPrefix a b (words f at l)) (take_all n bs (omega arith)) part
part_of_front a b f at n bs fits (inr (inl edge)) part = subst (AppliesPrefix a b) (sym (words-split f at n bs fits edge)) (part_only _ part)
part_of_front a b f at n bs fits (inr (inr none)) part = part_only (words f at bs) (subst (λ (m : ℕ). AppliesPrefix a b (words f at (take m bs))) none part)

-- one step that was made
pub passes_step : {a b : Told} {x : TrailStep} (P : Image → Type 0) → Applies a b (x ∷ []) → IsQuiet (x ∷ []) → ForSome a.files (λ image. P image × P (applied x image)) → PassesTo a b P P
passes_step {a} {b} {x} P grows quiet both = record { steps = x ∷ []; applies = grows; quiet = quiet; along = both }

-- what two facts say before and after each step they say together
pub until_both : (P P' Q Q' : Image → Type 0) (s : List TrailStep) (image : Image) → Until P Q image s → Until P' Q' image s → Until (λ i. P i × P' i) (λ i. Q i × Q' i) image s
until_both P P' Q Q' [] image one other = (one, other)
until_both P P' Q Q' (x ∷ s) image one other = ((one.0, other.0), until_both P P' Q Q' s (applied x image) one.1 other.1)

-- Two clauses of one call.

same_rest : (xs s t : List TrailStep) → xs ++ s ≡ xs ++ t → s ≡ t
same_rest [] s t e = e
same_rest (x ∷ xs) s t e = same_rest xs s t (tail e)
  where
    tail : {a b : List TrailStep} → x ∷ a ≡ x ∷ b → a ≡ b
    tail e = cc

-- the write traces before and after a call determine the steps that it applied
pub same_steps : StepsOfOneCallAreOne
same_steps a b trail s t told one other =
    let first : Some (longer s trail) ≡ Some (longer t trail) = ap (option_map (longer s)) (sym told) ∙ sym one.trail ∙ other.trail ∙ ap (option_map (longer t)) told in
    same_rest trail.steps s t (ap (λ (r : Trail). r.steps) (some_inj first))

-- what two clauses of one call say before and after each step they say together
pub passes_both : {a b : Told} {P P' Q Q' : Image → Type 0} (trail : Trail) → a.trail ≡ Some trail → PassesTo a b P Q → PassesTo a b P' Q' → PassesTo a b (λ i. P i × P' i) (λ i. Q i × Q' i)
passes_both {a} {b} {P} {P'} {Q} {Q'} trail told one other =
    let same : other.steps ≡ one.steps = same_steps a b trail other.steps one.steps told other.applies one.applies in
    record {
      steps = one.steps;
      applies = one.applies;
      quiet = one.quiet;
      along = λ image there. until_both P P' Q Q' one.steps image (one.along image there) (subst (λ (s : List TrailStep). Until P' Q' image s) same (other.along image there));
    }

-- the write trace goes on
pub trail_on : {a b : Told} {P Q : Image → Type 0} (trail : Trail) → a.trail ≡ Some trail → (p : PassesTo a b P Q) → b.trail ≡ Some (longer p.steps trail)
trail_on {a} {b} {P} {Q} trail told p = p.applies.trail ∙ ap (option_map (longer p.steps)) told

-- what follows some steps, from what they left, with the write trace
pub passes_along : {a b c : Told} {P Q : Image → Type 0} (from : Image) (trail : Trail) → a.files ≡ Some from → a.trail ≡ Some trail → PassesTo a b P P
    → ((mid : Image) (more : Trail) → b.files ≡ Some mid → b.trail ≡ Some more → PassesTo b c P Q) → PassesTo a c P Q
passes_along {a} {b} {c} {P} {Q} from trail there told first second =
    passes_then first (second (after first.steps from) (longer first.steps trail) (first.applies.files ∙ ap (option_map (after first.steps)) there) (trail_on trail told first))
