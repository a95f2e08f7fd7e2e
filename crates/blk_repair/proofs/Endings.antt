-- How steps that break off, or end with the crash word, follow one another.
use Rattle.std.proofs.Common.{◌≡◌, ◌⊎◌, inl, inr, ⊎_elim, List, [], ◌∷◌, ◌++◌, refl, sym, ◌∙◌, ap, subst, append_assoc}
use Rattle.std.specs.Option.{ForSome, option_map}
use Rattle.std.proofs.lemmas.List.Elements.{All-cons, All-head, All-nil, All-tail}
use Rattle.spec_image.specs.Bytes.{word_bytes}
use Rattle.spec_image.specs.Image.{Image, Index}
use Rattle.spec_image.specs.Steps.{TrailStep, Word, after, applied, word_step}
use Rattle.spec_image.specs.Told.{Told, Along, Applies, AppliesPrefix, HasNoNote, PassesAny}
use Rattle.spec_image.proofs.Quiet.{noteless-append, noteless_prefix, noteless-word_step}
use Rattle.spec_image.proofs.Runs.{grows_none, grows_then, until-append, until_prefix, until_weaker2}
use Rattle.blk_repair.specs.Counters.{crash_place}
use Rattle.blk_repair.specs.Endings.{RepairBreaksOff, EndsOrBreaksOff, EndsWithCrashWord}
use Rattle.blk_repair.proofs.CrashWord.{IsOther, SpareIt, spare-append}

-- ---- steps that spare the crash word

-- the first of some steps that spare the crash word spare it
pub spare-prefix : (s t : List TrailStep) → SpareIt (s ++ t) → SpareIt s
spare-prefix [] t spare = All-nil IsOther
spare-prefix (x ∷ s) t spare = All-cons IsOther x s (All-head IsOther x (s ++ t) spare) (spare-prefix s t (All-tail IsOther x (s ++ t) spare))

heads-same : {x y : TrailStep} {s t : List TrailStep} → x ∷ s ≡ y ∷ t → x ≡ y
heads-same e = cc

tails-same : {x y : TrailStep} {s t : List TrailStep} → x ∷ s ≡ y ∷ t → s ≡ t
tails-same e = cc

-- nothing is left after a last step
none-left : (x y : TrailStep) (made left : List TrailStep) → x ∷ [] ≡ y ∷ (made ++ left) → y ∷ made ≡ x ∷ []
none-left x y [] left e = ap (λ (z : TrailStep). z ∷ []) (sym (heads-same e))
none-left x y (z ∷ made) left e = absurd (no_more (tails-same e))
  where
    no_more : [] ≡ z ∷ (made ++ left) → ⊥
    no_more none = cc

-- the first of some steps and one more are the first of the steps, or all
pub front-or-all : (s : List TrailStep) (x : TrailStep) (made left : List TrailStep) → s ++ x ∷ [] ≡ made ++ left → ((rest : List TrailStep) × (s ≡ made ++ rest)) ⊎ (made ≡ s ++ x ∷ [])
front-or-all s x [] left e = inl (s, refl)
front-or-all [] x (y ∷ made) left e = inr (none-left x y made left e)
front-or-all (z ∷ s) x (y ∷ made) left e = on (front-or-all s x made left (tails-same e))
  where
    heads : z ≡ y
    heads = heads-same e

    on : ((rest : List TrailStep) × (s ≡ made ++ rest)) ⊎ (made ≡ s ++ x ∷ []) → ((rest : List TrailStep) × (z ∷ s ≡ y ∷ (made ++ rest))) ⊎ (y ∷ made ≡ z ∷ (s ++ x ∷ []))
    on (inl more) = inl (more.0, ap (λ (w : TrailStep). w ∷ s) heads ∙ ap (λ (l : List TrailStep). y ∷ l) more.1)
    on (inr same) = inr (ap (λ (w : TrailStep). w ∷ made) (sym heads) ∙ ap (λ (l : List TrailStep). z ∷ l) same)

-- of steps that leave the crash word and one that makes it 1, the first of them leave it, or they are all of them
pub spare-or-ended : (s made left : List TrailStep) → SpareIt s → s ++ word_step Index crash_place 1 ≡ made ++ left → SpareIt made ⊎ (made ≡ s ++ word_step Index crash_place 1)
unfolding word_step
spare-or-ended s made left spare e =
    ⊎_elim (λ (more : (rest : List TrailStep) × (s ≡ made ++ rest)). inl (spare-prefix made more.0 (subst SpareIt more.1 spare))) (λ (same : made ≡ s ++ Word Index crash_place (word_bytes 1) ∷ []). inr same)
    (front-or-all s (Word Index crash_place (word_bytes 1)) made left e)

-- ---- steps that break off

-- no step was made
pub breaks-none : {a b : Told} (P : Image → Type 0) → b ≡ a → ForSome a.files P → RepairBreaksOff a b P
breaks-none P same holds = record { passes = record { steps = []; applies = grows_none same; unnoted = tt; along = holds }; unmarked = All-nil IsOther }

-- a part of some steps was made, which leaves the crash word
pub breaks-prefix : {a b : Told} {s : List TrailStep} (P : Image → Type 0) (part : AppliesPrefix a b s) → HasNoNote s → SpareIt part.made → ForSome a.files (λ image. Along P image s) → RepairBreaksOff a b P
breaks-prefix {a} {b} {s} P part quiet spare along = record {
  passes = record {
    steps = part.made;
    applies = part.applies;
    unnoted = noteless_prefix part.made part.left (subst HasNoNote part.split quiet);
    along = λ image there. until_prefix P P part.made part.left image (λ i h. h) (subst (Along P image) part.split (along image there));
  };
  unmarked = spare;
}

-- each part of steps that spare the crash word spares it
pub breaks-part : {a b : Told} {s : List TrailStep} (P : Image → Type 0) → AppliesPrefix a b s → HasNoNote s → SpareIt s → ForSome a.files (λ image. Along P image s) → RepairBreaksOff a b P
breaks-part {a} {b} {s} P part quiet spare along = breaks-prefix P part quiet (spare-prefix part.made part.left (subst SpareIt part.split spare)) along

-- one step was made, which leaves the crash word
pub breaks-step : {a b : Told} {x : TrailStep} (P : Image → Type 0) → IsOther x → Applies a b (x ∷ []) → HasNoNote (x ∷ []) → ForSome a.files (λ image. P image × P (applied x image)) → RepairBreaksOff a b P
breaks-step {a} {b} {x} P other made quiet both = record { passes = record { steps = x ∷ []; applies = made; unnoted = quiet; along = both }; unmarked = All-cons IsOther x [] other (All-nil IsOther) }

-- some steps were made, and then others
pub breaks-then : {a b c : Told} {P : Image → Type 0} → RepairBreaksOff a b P → RepairBreaksOff b c P → RepairBreaksOff a c P
breaks-then {a} {b} {c} {P} first second =
    let s : List TrailStep = first.passes.steps in
    let t : List TrailStep = second.passes.steps in
    record {
      passes = record {
        steps = s ++ t;
        applies = grows_then first.passes.applies second.passes.applies;
        unnoted = noteless-append s t first.passes.unnoted second.passes.unnoted;
        along = λ image there. until-append P P s t image (first.passes.along image there) (second.passes.along (after s image) (first.passes.applies.files ∙ ap (option_map (after s)) there));
      };
      unmarked = spare-append s t first.unmarked second.unmarked;
    }

-- what holds of the files may be weaker
pub breaks-weaker : {a b : Told} {P R : Image → Type 0} → RepairBreaksOff a b P → ((image : Image) → P image → R image) → RepairBreaksOff a b R
breaks-weaker {a} {b} {P} {R} broken weaker = record {
  passes = record {
    steps = broken.passes.steps;
    applies = broken.passes.applies;
    unnoted = broken.passes.unnoted;
    along = λ image there. until_weaker2 P R P R broken.passes.steps image weaker weaker (broken.passes.along image there);
  };
  unmarked = broken.unmarked;
}

-- ---- steps that end with it

-- what is passed
pub ends-pass : {a b : Told} {P Q : Image → Type 0} → EndsWithCrashWord a b P Q → PassesAny a b P
ends-pass ends = record {
  steps = ends.before ++ word_step Index crash_place 1;
  applies = ends.applies;
  unnoted = noteless-append ends.before (word_step Index crash_place 1) ends.unnoted (noteless-word_step Index crash_place 1);
  along = ends.along;
}

-- what holds of the files may be weaker
pub ends-weaker : {a b : Told} {P Q R S : Image → Type 0} → EndsWithCrashWord a b P Q → ((image : Image) → P image → R image) → ((image : Image) → Q image → S image) → EndsWithCrashWord a b R S
ends-weaker {a} {b} {P} {Q} {R} {S} ends weaker last = record {
  before = ends.before;
  unnoted = ends.unnoted;
  first = ends.first;
  applies = ends.applies;
  along = λ image there. until_weaker2 P R P R (ends.before ++ word_step Index crash_place 1) image weaker weaker (ends.along image there);
  leaves = λ image here. last image (ends.leaves image here);
}

-- steps that break off, and others after them
pub ends-then : {a b c : Told} {P Q : Image → Type 0} → RepairBreaksOff a b P → EndsWithCrashWord b c P Q → EndsWithCrashWord a c P Q
ends-then {a} {b} {c} {P} {Q} first ends =
    let steps : List TrailStep = first.passes.steps in
    let joined : steps ++ (ends.before ++ word_step Index crash_place 1) ≡ (steps ++ ends.before) ++ word_step Index crash_place 1 = sym (append_assoc steps ends.before (word_step Index crash_place 1)) in
    record {
      before = steps ++ ends.before;
      unnoted = noteless-append steps ends.before first.passes.unnoted ends.unnoted;
      first = spare-append steps ends.before first.unmarked ends.first;
      applies = subst (Applies a c) joined (grows_then first.passes.applies ends.applies);
      along = λ image there. subst (Along P image) joined (until-append P P steps (ends.before ++ word_step Index crash_place 1) image (first.passes.along image there)
          (ends.along (after steps image) (first.passes.applies.files ∙ ap (option_map (after steps)) there)));
      leaves = ends.leaves;
    }

-- a call without a step comes before
pub ends-stayed : {a m b : Told} {P Q : Image → Type 0} → m ≡ a → EndsWithCrashWord m b P Q → EndsWithCrashWord a b P Q
ends-stayed {a} {m} {b} {P} {Q} stays ends = subst (λ (t : Told). EndsWithCrashWord t b P Q) stays ends

-- a call without a step comes after
pub ends-stay : {a b c : Told} {P Q : Image → Type 0} → EndsWithCrashWord a b P Q → c ≡ b → EndsWithCrashWord a c P Q
ends-stay {a} {b} {c} {P} {Q} ends stays = subst (λ (t : Told). EndsWithCrashWord a t P Q) (sym stays) ends

-- ---- one or the other

-- a call without a step comes before
pub either-stayed : {a m b : Told} {P Q : Image → Type 0} → m ≡ a → EndsOrBreaksOff m b P Q → EndsOrBreaksOff a b P Q
either-stayed {a} {m} {b} {P} {Q} stays either = subst (λ (t : Told). EndsOrBreaksOff t b P Q) stays either

-- steps that break off come before
pub either-then : {a b c : Told} {P Q : Image → Type 0} → RepairBreaksOff a b P → EndsOrBreaksOff b c P Q → EndsOrBreaksOff a c P Q
either-then first (inl broken) = inl (breaks-then first broken)
either-then first (inr ends) = inr (ends-then first ends)

-- what holds of the files may be weaker
pub either-weaker : {a b : Told} {P Q R S : Image → Type 0} → EndsOrBreaksOff a b P Q → ((image : Image) → P image → R image) → ((image : Image) → Q image → S image) → EndsOrBreaksOff a b R S
either-weaker (inl broken) weaker last = inl (breaks-weaker broken weaker)
either-weaker (inr ends) weaker last = inr (ends-weaker ends weaker last)

-- what is passed
pub either-pass : {a b : Told} {P Q : Image → Type 0} → EndsOrBreaksOff a b P Q → PassesAny a b P
either-pass (inl broken) = broken.passes
either-pass (inr ends) = ends-pass ends
