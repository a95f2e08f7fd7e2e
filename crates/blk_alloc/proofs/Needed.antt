-- Steps that are needed, and bytes of which a part is written.
use Rattle.std.proofs.Common.{◌≡◌, take, drop, ℕ, zero, suc, ◌+◌, ◌-◌, ◌*◌, ◌%◌, ◌<◌, ◌≤◌, ◌⊎◌, inl, inr, List, [], ◌∷◌, ◌++◌, length, Bool, true, false, ◌&&◌, nat_le, nat_lt, Option, None, Some, refl, sym, ◌∙◌, ap, subst, arith, ⊎_elim}
use Rattle.std.specs.Option.{ForSome, option_map}
use Rattle.std.proofs.lemmas.Bool.{cases_lt}
use Rattle.std.proofs.lemmas.Bool.Decides.{nat_tests}
use Rattle.spec_image.specs.Bytes.{content, range_at}
use Rattle.spec_image.specs.Image.{Image, File, byte, bytes_of, length_of, same_file}
use Rattle.spec_image.specs.Steps.{TrailStep, Word, applied, after, words}
use Rattle.spec_image.specs.Footprint.{SameOutside, range}
use Rattle.spec_image.specs.Told.{Told, Along, AppliesPrefix, IsQuiet, PassesTo, Until, is_quiet}
use Rattle.spec_image.proofs.Cuts.{words-four}
use Rattle.spec_image.proofs.Images.{bytes_of-written}
use Rattle.spec_image.proofs.Splices.{content-spliced_inside}
use Rattle.spec_image.proofs.Footprints.{outside-refl, outside-trans, outside_wider, outside_write, range_within}
use Rattle.spec_image.proofs.Words.{content-range, range-is}
use Rattle.spec_image.proofs.Runs.{grows_none, grows_then, only_here, passes_end, quiet_prefix, quiet-append, some_inj, until_prefix, until-append, until_weaker2}
use Rattle.blk_alloc.specs.Mending.{AreNeeded, IsPrefixWritten, AreBytesWritten, KeepsLength, PassesNeeded}

needed_prefix : (s t : List TrailStep) (image : Image) → AreNeeded image (s ++ t) → AreNeeded image s
needed_prefix [] t image all = tt
needed_prefix (x ∷ s) t image all = (all.0, needed_prefix s t (applied x image) all.1)

needed-append : (s t : List TrailStep) (image : Image) → AreNeeded image s → AreNeeded (after s image) t → AreNeeded image (s ++ t)
needed-append [] t image first second = second
needed-append (x ∷ s) t image first second = (first.0, needed-append s t (applied x image) first.1 second)

-- what holds at each word, whether or not the words are needed
pub needed_passes : {a b : Told} {P : Image → Type 0} → PassesNeeded a b P → PassesTo a b P P
needed_passes {a} {b} {P} passes = record { steps = passes.steps; applies = passes.applies; quiet = passes.quiet; along = passes.along }

-- what holds before the first step
pub passes_first : {a b : Told} {P : Image → Type 0} (from : Image) → a.files ≡ Some from → PassesTo a b P P → P from
passes_first {a} {b} {P} from there passes = first passes.steps (passes.along from there)
  where
    first : (s : List TrailStep) → Until P P from s → P from
    first [] all = all
    first (x ∷ s) all = all.0

-- no step was made
pub needed_none : {a b : Told} (P : Image → Type 0) → b ≡ a → ForSome a.files P → PassesNeeded a b P
needed_none {a} {b} P same holds = record { steps = []; applies = grows_none same; quiet = tt; along = holds; needed = λ image there. tt }

-- a part of some steps was made
pub needed_part : {a b : Told} {s : List TrailStep} (P : Image → Type 0) (from : Image) → a.files ≡ Some from → AppliesPrefix a b s → IsQuiet s → Along P from s → AreNeeded from s → PassesNeeded a b P
needed_part {a} {b} {s} P from there part quiet along needed = record {
  steps = part.made;
  applies = part.applies;
  quiet = quiet_prefix part.made part.left (subst IsQuiet part.split quiet);
  along = λ image is. subst (λ (i : Image). Along P i part.made) (some_inj (sym there ∙ is)) (until_prefix P P part.made part.left from (λ i holds. holds) (subst (Along P from) part.split along));
  needed = λ image is. subst (λ (i : Image). AreNeeded i part.made) (some_inj (sym there ∙ is)) (needed_prefix part.made part.left from (subst (AreNeeded from) part.split needed));
}

-- one call after another
pub needed_then : {a b c : Told} {P : Image → Type 0} (from : Image) → a.files ≡ Some from → PassesNeeded a b P → ((mid : Image) → b.files ≡ Some mid → P mid → PassesNeeded b c P) → PassesNeeded a c P
needed_then {a} {b} {c} {P} from there first second =
    let now : b.files ≡ Some (after first.steps from) = first.applies.files ∙ ap (option_map (after first.steps)) there in
    let more = second (after first.steps from) now (passes_end (needed_passes first) (after first.steps from) now) in record {
      steps = first.steps ++ more.steps;
      applies = grows_then first.applies more.applies;
      quiet = quiet-append first.steps more.steps first.quiet more.quiet;
      along = λ image is. until-append P P first.steps more.steps image (first.along image is) (more.along _ (first.applies.files ∙ ap (option_map (after first.steps)) is));
      needed = λ image is. needed-append first.steps more.steps image (first.needed image is) (more.needed _ (first.applies.files ∙ ap (option_map (after first.steps)) is));
    }

pub needed_weaker : {a b : Told} {P Q : Image → Type 0} → PassesNeeded a b P → ((image : Image) → P image → Q image) → PassesNeeded a b Q
needed_weaker {a} {b} {P} {Q} passes weaker = record {
  steps = passes.steps;
  applies = passes.applies;
  quiet = passes.quiet;
  along = λ image there. until_weaker2 P Q P Q passes.steps image weaker weaker (passes.along image there);
  needed = passes.needed;
}

-- what holds after the last step
pub needed_end : {a b : Told} {P : Image → Type 0} → PassesNeeded a b P → ForSome b.files P
needed_end {a} {b} {P} passes = passes_end (needed_passes passes)

-- One word.

-- four bytes are written by one step
pub one_step : (f : File) (place : ℕ) (bytes : List ℕ) → length bytes ≡ 4 → place % 4 ≡ 0 → words f place bytes ≡ Word f place bytes ∷ []
one_step f place [] four aligned = absurd (omega (arith, four))
one_step f place (a ∷ []) four aligned = absurd (omega (arith, four))
one_step f place (a ∷ b ∷ []) four aligned = absurd (omega (arith, four))
one_step f place (a ∷ b ∷ c ∷ []) four aligned = absurd (omega (arith, four))
one_step f place (a ∷ b ∷ c ∷ d ∷ []) four aligned = words-four f place a b c d aligned
one_step f place (a ∷ b ∷ c ∷ d ∷ e ∷ bytes) four aligned = absurd (omega (arith, four))

-- bytes that were read, if they are those of a list
pub range_content : (n i : ℕ) (f : ℕ → ℕ) (bytes : List ℕ) → length bytes ≡ n → ((k : ℕ) → k < n → content bytes k ≡ f (i + k)) → range_at f i n ≡ bytes
unfolding range_at
range_content zero i f [] long same = refl
range_content zero i f (b ∷ bytes) long same = absurd (omega (arith, long))
range_content (suc n) i f [] long same = absurd (omega (arith, long))
range_content (suc n) i f (b ∷ bytes) long same =
    let first : f (i + 0) ≡ f i = ap f {x = i + 0} {y = i} (omega arith) in
    let rest = range_content n (suc i) f bytes (omega (arith, long)) (λ k small. same (suc k) (omega (arith, small)) ∙ ap f {x = i + suc k} {y = suc i + k} (omega arith)) in
    ap (λ (x : ℕ). x ∷ range_at f (suc i) n) (sym (same 0 (omega arith) ∙ first)) ∙ ap (λ (l : List ℕ). b ∷ l) rest

module _ (f : File) (place : ℕ) (bytes : List ℕ) (n : ℕ) (long : length bytes ≡ n) (from : Image) where
  -- bytes that are there are written
  pub written_same : ((i : ℕ) → i < n → content bytes i ≡ byte from f (place + i)) → AreBytesWritten f place bytes n from from
  written_same same = record { same = outside-refl (range f place n) from; there = λ i small. sym (same i small) }

  -- the bytes of a step are written
  pub written_step : place + n ≤ length_of from f → AreBytesWritten f place bytes n from (applied (Word f place bytes) from)
  written_step inside = record {
    same = subst (λ (k : ℕ). SameOutside (range f place k) from (applied (Word f place bytes) from)) long (outside_write f place bytes from);
    there = λ i small. ap (λ (l : List ℕ). content l (place + i)) (bytes_of-written from f place bytes) ∙ content-spliced_inside place bytes (bytes_of from f) i (place + i) refl (omega (arith, small, long)) (omega (arith, small, inside));
  }

-- a word that differs is written by a step that is needed
module _ (f : File) (place : ℕ) (old new : List ℕ) (four : length new ≡ 4) (differ : old ≡ new → ⊥) (quiet : is_quiet (Word f place new) ≡ true) where
  pub word_needed : {a b : Told} (from : Image) → a.files ≡ Some from → length old ≡ 4 → place % 4 ≡ 0 → place + 4 ≤ length_of from f → ((i : ℕ) → i < 4 → content old i ≡ byte from f (place + i)) → AppliesPrefix a b (words f place new)
      → PassesNeeded a b (λ image. (image ≡ from) ⊎ AreBytesWritten f place new 4 from image)
  word_needed {a} {b} from there long aligned inside stands part =
      needed_part (λ image. (image ≡ from) ⊎ AreBytesWritten f place new 4 from image) from there (subst (AppliesPrefix a b) (one_step f place new four aligned) part) (only_here (is_quiet (Word f place new)) quiet tt)
      (inl refl, inr (written_step f place new 4 four from inside))
      ((λ same. differ (sym (range_content 4 place (byte from f) old long stands) ∙ subst (λ (k : ℕ). range_at (byte from f) place k ≡ new) four same)), tt)

-- Word after word.

-- bytes that are written as far as a number of words are part written
pub part_written : (f : File) (place : ℕ) (bytes : List ℕ) (k : ℕ) (from image : Image) → 4 * k ≤ length bytes → AreBytesWritten f place bytes (4 * k) from image → IsPrefixWritten f place bytes from image
part_written f place bytes k from image most written = record { words = k; most = most; written = written }

-- one word more
module _ (f : File) (place : ℕ) (bytes new : List ℕ) (k : ℕ) (from mid : Image) (before : AreBytesWritten f place bytes (4 * k) from mid) (same : (i : ℕ) → i < 4 → content new i ≡ content bytes (4 * k + i)) where
  pub written_more : (image : Image) → AreBytesWritten f (place + 4 * k) new 4 mid image → AreBytesWritten f place bytes (4 * (k + 1)) from image
  written_more image more = record {
    same =
        outside-trans (range f place (4 * (k + 1))) from mid image
        (outside_wider (range f place (4 * k)) (range f place (4 * (k + 1))) from mid (range_within f place (4 * k) place (4 * (k + 1)) (omega arith) (omega arith)) before.same)
        (outside_wider (range f (place + 4 * k) 4) (range f place (4 * (k + 1))) mid image (range_within f (place + 4 * k) 4 place (4 * (k + 1)) (omega arith) (omega arith)) more.same);
    there = λ i small. ⊎_elim (λ (low : i < 4 * k). old i low) (λ (high : 4 * k ≤ i). added i high (omega (arith, small))) (cases_lt i (4 * k));
  }
    where
      beside : (i : ℕ) → i < 4 * k → (range f (place + 4 * k) 4).bytes f (place + i) ≡ false
      beside i low = by_test (same_file f f)
        where
          by_test : (t : Bool) → (t && (nat_le (place + 4 * k) (place + i) && nat_lt (place + i) (place + 4 * k + 4))) ≡ false
          by_test true = grind (arith, nat_tests)
          by_test false = refl

      old : (i : ℕ) → i < 4 * k → byte image f (place + i) ≡ content bytes i
      old i low = more.same.bytes f (place + i) (beside i low) ∙ before.there i low

      added : (i : ℕ) → 4 * k ≤ i → i < 4 * k + 4 → byte image f (place + i) ≡ content bytes i
      added i high small =
          let at : place + i ≡ place + 4 * k + (i - 4 * k) = omega (arith, high) in
          let is : 4 * k + (i - 4 * k) ≡ i = omega (arith, high) in
          ap (byte image f) at ∙ more.there (i - 4 * k) (omega (arith, high, small)) ∙ same (i - 4 * k) (omega (arith, high, small)) ∙ ap (content bytes) is

  pub part_more : 4 * (k + 1) ≤ length bytes → (image : Image) → (image ≡ mid) ⊎ AreBytesWritten f (place + 4 * k) new 4 mid image → IsPrefixWritten f place bytes from image
  part_more most image (inl is) = part_written f place bytes k from image (omega (arith, most)) (subst (AreBytesWritten f place bytes (4 * k) from) (sym is) before)
  part_more most image (inr more) = part_written f place bytes (k + 1) from image most (written_more image more)

-- a byte of a part of some bytes
pub content_part : (bytes : List ℕ) (at n i : ℕ) → at + n ≤ length bytes → i < n → content (take n (drop at bytes)) i ≡ content bytes (at + i)
content_part bytes at n i fits small = ap (λ (l : List ℕ). content l i) (sym (range-is n at bytes fits)) ∙ content-range n at (content bytes) i (at + i) small refl

-- what came after the bytes that are written is there still
pub stands_behind : (f : File) (place : ℕ) (bytes : List ℕ) (n : ℕ) (from image : Image) → AreBytesWritten f place bytes n from image → (i : ℕ) → n ≤ i → byte image f (place + i) ≡ byte from f (place + i)
stands_behind f place bytes n from image written i past = written.same.bytes f (place + i) (by_test (same_file f f))
  where
    by_test : (t : Bool) → (t && (nat_le place (place + i) && nat_lt (place + i) (place + n))) ≡ false
    by_test true = grind (arith, nat_tests)
    by_test false = refl

-- what holds of the observed files before and now leads to what holds of them now
pub told_so_far : (old new : Option Image) (P : Image → Type 0) (R : Image → Image → Type 0) (Q : Image → Type 0) → (old ≡ None → new ≡ None) → ForSome old (λ from. ForSome new (R from)) → ForSome old P → ((from image : Image) → R from image → P from → Q image) → ForSome new Q
told_so_far None new P R Q silent related before leads image is = absurd (no_some (sym (silent refl) ∙ is))
  where
    no_some : None ≡ Some image → ⊥
    no_some e = cc
told_so_far (Some from) new P R Q silent related before leads image is = leads from image (related from refl image is) (before from refl)

-- a file that keeps its length over one call and over the next has it in the end
pub long_then : (x y z : Option Image) (f : File) → (y ≡ None → z ≡ None) → ForSome x (λ from. ForSome y (KeepsLength f from)) → ForSome y (λ mid. ForSome z (KeepsLength f mid)) → ForSome x (λ from. ForSome z (KeepsLength f from))
long_then x y z f silent first second from there = told_so_far y z (KeepsLength f from) (KeepsLength f) (KeepsLength f from) silent second (first from there) (λ mid image more before. more ∙ before)
