-- What was read, one call after another.
use Rattle.blk_run.specs.Inputs.{IsTakenUpTo}
use Rattle.std.proofs.lemmas.List.{length-append, length-take-le}
use Rattle.std.proofs.Math.Seq.{take-append_seam, drop-append_seam}
use Rattle.std.proofs.Common.{ℕ, ◌≡◌, List, [], ◌∷◌, Option, None, Some, option_map, refl, sym, ◌∙◌, ap, subst, ◌≤◌, ◌++◌, length, take, drop, arith}
use Rattle.std.specs.Option.{ForSome}
use Rattle.blk_io.specs.Streams.{Readings, later_of, reading_of}
use Rattle.blk_run.specs.Telling.{Fits, ReadsAs, TakesAs}

-- what is there is the same
pub some_same : {A : Type 0} {a b : A} → ◌≡◌ {A = Option A} (Some a) (Some b) → a ≡ b
some_same e = cc

no_some : {A : Type 0} {a : A} → ◌≡◌ {A = Option A} None (Some a) → ⊥
no_some e = cc

-- nothing was read
pub reads_none : {A : Type 0} {old : Option A} {P : A → A → Type 0} → ((here : A) → P here here) → ReadsAs old old P
reads_none all = record { tells = λ none. none; reads = λ after fits. (after, (fits, all after)) }

-- what was read is the same
pub reads_map : {A : Type 0} {old new : Option A} {P Q : A → A → Type 0} → ReadsAs old new P → ((before after : A) → P before after → Q before after) → ReadsAs old new Q
reads_map one all = record { tells = one.tells; reads = λ after fits. let o = one.reads after fits in (o.0, (o.1.0, all o.0 after o.1.1)) }

-- two calls, one after the other
pub reads_then : {A : Type 0} {old mid new : Option A} {P Q R : A → A → Type 0} → ReadsAs old mid P → ReadsAs mid new Q → ((before between after : A) → P before between → Q between after → R before after) → ReadsAs old new R
reads_then one two all = record {
  tells = λ none. one.tells (two.tells none);
  reads = λ after fits.
      let late = two.reads after fits in
      let early = one.reads late.0 late.1.0 in
      (early.0, (early.1.0, all early.0 late.0 after early.1.1 late.1.1));
}

-- the clock is read once
pub reads_once : {old new : Option Readings} {P : Readings → Readings → Type 0} (value : ℕ) → ForSome old (λ r. value ≡ reading_of r) → new ≡ option_map later_of old
    → ((before after : Readings) → ForSome (Some before) (λ r. value ≡ reading_of r) → ◌≡◌ {A = Option Readings} (Some after) (option_map later_of (Some before)) → P before after) → ReadsAs old new P
reads_once {old} {new} {P} value reading later all = by old reading later
  where
    of_it : (before : Readings) → value ≡ reading_of before → ForSome (Some before) (λ r. value ≡ reading_of r)
    of_it before is other same = subst (λ (r : Readings). value ≡ reading_of r) (some_same same) is

    told : (r after : Readings) (n : Option Readings) → n ≡ Some (later_of r) → Fits n after → after ≡ later_of r
    told r after n is fits = subst (λ (x : Option Readings). Fits x after) is fits

    by : (o : Option Readings) → ForSome o (λ r. value ≡ reading_of r) → new ≡ option_map later_of o → ReadsAs o new P
    by None read next = record {
      tells = λ none. refl;
      reads = λ after fits. let before : Readings = record { ahead = value ∷ after.ahead; last = after.last } in (before, (tt, all before after (of_it before refl) refl));
    }
    by (Some r) read next = record {
      tells = λ none. absurd (no_some (sym none ∙ next));
      reads = λ after fits. (r, (refl, all r after read (ap Some (told r after new next fits))));
    }

-- where what is to come was observable at first it is what was given: then P holds of what is observed
pub reads_told : {A : Type 0} {old new : Option A} (P : A → Option A → Option A → Type 0) → ReadsAs old new (λ before after. P before (Some before) (Some after)) → (here : A) → old ≡ Some here → P here old new
reads_told {A} {old} {new} P reads here is = by new refl
  where
    agrees : (before : A) (o : Option A) → o ≡ Some here → Fits o before → before ≡ here
    agrees before o there fits = subst (λ (x : Option A). Fits x before) there fits

    by : (n : Option A) → new ≡ n → P here old new
    by None none = absurd (no_some (sym (reads.tells none) ∙ is))
    by (Some later) there =
        let one = reads.reads later (subst (λ (x : Option A). Fits x later) (sym there) refl) in
        subst (λ (o : Option A). P here o new) (sym is) (subst (λ (n : Option A). P here (Some here) n) (sym there) (subst (λ (a : A). P a (Some a) (Some later)) (agrees one.0 old is one.1.0) one.1.1))

-- some readings there are
pub reads_some : {A : Type 0} {old new : Option A} {P : A → A → Type 0} → ReadsAs old new P → A → (before after : A) × P before after
reads_some {A} {old} {new} {P} reads any = by new refl
  where
    by : (n : Option A) → new ≡ n → (before after : A) × P before after
    by None none = let one = reads.reads any (subst (λ (x : Option A). Fits x any) (sym none) tt) in (one.0, any, one.1.1)
    by (Some later) there = let one = reads.reads later (subst (λ (x : Option A). Fits x later) (sym there) refl) in (one.0, later, one.1.1)

-- a call, and then the clock is read once
pub reads_next : {old mid new : Option Readings} {P R : Readings → Readings → Type 0} → ReadsAs old mid P → (value : ℕ) → ForSome mid (λ r. value ≡ reading_of r) → new ≡ option_map later_of mid
    → ((before between after : Readings) → P before between → ForSome (Some between) (λ r. value ≡ reading_of r) → ◌≡◌ {A = Option Readings} (Some after) (option_map later_of (Some between)) → R before after) → ReadsAs old new R
reads_next one value reading later all =
    reads_then one
    (reads_once {P = λ between after. (ForSome (Some between) (λ r. value ≡ reading_of r)) × ◌≡◌ {A = Option Readings} (Some after) (option_map later_of (Some between))} value reading later (λ before after r l. (r, l)))
    (λ before between after p q. all before between after p q.0 q.1)

-- the clock is read once, and then comes a call
pub reads_first : {old mid new : Option Readings} {Q R : Readings → Readings → Type 0} (value : ℕ) → ForSome old (λ r. value ≡ reading_of r) → mid ≡ option_map later_of old → ReadsAs mid new Q
    → ((before between after : Readings) → ForSome (Some before) (λ r. value ≡ reading_of r) → ◌≡◌ {A = Option Readings} (Some between) (option_map later_of (Some before)) → Q between after → R before after) → ReadsAs old new R
reads_first value reading later two all =
    reads_then
    (reads_once {P = λ before between. (ForSome (Some before) (λ r. value ≡ reading_of r)) × ◌≡◌ {A = Option Readings} (Some between) (option_map later_of (Some before))} value reading later (λ before after r l. (r, l)))
    two
    (λ before between after p q. all before between after p.0 p.1 q)

-- three calls
pub reads_three : {A : Type 0} {old one two new : Option A} {P Q R S : A → A → Type 0} → ReadsAs old one P → ReadsAs one two Q → ReadsAs two new R → ((a b c d : A) → P a b → Q b c → R c d → S a d) → ReadsAs old new S
reads_three first second third all = record {
  tells = λ none. first.tells (second.tells (third.tells none));
  reads = λ after fits.
      let late = third.reads after fits in
      let mid = second.reads late.0 late.1.0 in
      let early = first.reads mid.0 mid.1.0 in
      (early.0, (early.1.0, all early.0 mid.0 late.0 after early.1.1 mid.1.1 late.1.1));
}

-- readings that a clock may give
pub some_readings : Readings
some_readings = record { ahead = []; last = 0 }

-- Of an input.

-- what fits, where nothing more is known
pub any_fits : {A : Type 0} (any : A) (now : Option A) → (after : A) × Fits now after
any_fits any None = (any, tt)
any_fits any (Some told) = (told, refl)

-- whatever is left, some bytes are
pub takes_any : {A : Type 0} {old new : Option A} {P : A → A → Type 0} → A → ReadsAs old new P → TakesAs old new P
takes_any {A} {old} {new} any reads =
    let late = any_fits any new in
    let early = reads.reads late.0 late.1 in
    record { tells = reads.tells; before = early.0; after = late.0; was = early.1.0; is = late.1; holds = early.1.1 }

-- nothing was taken
pub takes_none : {A : Type 0} {old : Option A} {P : A → A → Type 0} → A → ((here : A) → P here here) → TakesAs old old P
takes_none any all = takes_any any (reads_none all)

-- nothing was taken, where a call leaves the rest as it is
pub takes_same : {A : Type 0} {old new : Option A} → A → new ≡ old → TakesAs old new (λ before after. after ≡ before)
takes_same {A} {old} {new} any same = subst (λ (o : Option A). TakesAs old o (λ before after. after ≡ before)) (sym same) (takes_none any (λ here. refl))

pub takes_map : {A : Type 0} {old new : Option A} {P Q : A → A → Type 0} → TakesAs old new P → ((before after : A) → P before after → Q before after) → TakesAs old new Q
takes_map one all = record { tells = one.tells; before = one.before; after = one.after; was = one.was; is = one.is; holds = all one.before one.after one.holds }

-- two calls, one after the other
pub takes_then : {A : Type 0} {old mid new : Option A} {P Q R : A → A → Type 0} → ReadsAs old mid P → TakesAs mid new Q → ((before between after : A) → P before between → Q between after → R before after) → TakesAs old new R
takes_then one two all =
    let early = one.reads two.before two.was in
    record { tells = λ none. one.tells (two.tells none); before = early.0; after = two.after; was = early.1.0; is = two.is; holds = all early.0 two.before two.after early.1.1 two.holds }

-- where the input was observable at first its bytes are those that came: then P holds of the observed bytes
pub takes_told : {A : Type 0} {old new : Option A} (P : A → Option A → Option A → Type 0) → TakesAs old new (λ before after. P before (Some before) (Some after)) → (here : A) → old ≡ Some here → P here old new
takes_told {A} {old} {new} P takes here is = by new refl
  where
    agrees : (given : A) (o : Option A) (told : A) → o ≡ Some told → Fits o given → given ≡ told
    agrees given o told there fits = subst (λ (x : Option A). Fits x given) there fits

    by : (n : Option A) → new ≡ n → P here old new
    by None none = absurd (no_some (sym (takes.tells none) ∙ is))
    by (Some later) there =
        subst (λ (o : Option A). P here o new) (sym is) (subst (λ (n : Option A). P here (Some here) n) (sym there)
        (subst (λ (b : A). P here (Some here) (Some b)) (agrees takes.after new later there takes.is) (subst (λ (a : A). P a (Some a) (Some takes.after)) (agrees takes.before old here is takes.was) takes.holds)))

-- Bytes that were moved to the front of a piece.

-- n bytes were taken, those at the front of the piece
abbrev pub TookFront : (n : ℕ) (piece before after : List ℕ) → Type 0
TookFront n piece before after = ForSome (Some before) (λ l. (n ≤ length l) × (take n piece ≡ take n l)) × ◌≡◌ {A = Option (List ℕ)} (Some after) (option_map (drop n) (Some before))

-- of what is there
pub for_some : {A : Type 0} (P : A → Type 0) (here : A) → P here → ForSome (Some here) P
for_some {A} P here holds other same = subst P (some_same same) holds

-- whatever is left after them
pub took_front : {old new : Option (List ℕ)} (n : ℕ) (piece : List ℕ) → n ≤ length piece → ForSome old (λ l. (n ≤ length l) × (take n piece ≡ take n l)) → new ≡ option_map (drop n) old → ReadsAs old new (TookFront n piece)
took_front {old} {new} n piece few took later = by old took later
  where
    told : (l after : List ℕ) (o : Option (List ℕ)) → o ≡ Some (drop n l) → Fits o after → after ≡ drop n l
    told l after o is fits = subst (λ (x : Option (List ℕ)). Fits x after) is fits

    front : (after : List ℕ) → take n (take n piece ++ after) ≡ take n piece
    front after = ap (λ (k : ℕ). take k (take n piece ++ after)) (sym (length-take-le n piece few)) ∙ take-append_seam (take n piece) after

    behind : (after : List ℕ) → drop n (take n piece ++ after) ≡ after
    behind after = ap (λ (k : ℕ). drop k (take n piece ++ after)) (sym (length-take-le n piece few)) ∙ drop-append_seam (take n piece) after

    enough : (after : List ℕ) → n ≤ length (take n piece ++ after)
    enough after = let a = length-append (take n piece) after in let t = length-take-le n piece few in omega (arith, a, t)

    by : (o : Option (List ℕ)) → ForSome o (λ l. (n ≤ length l) × (take n piece ≡ take n l)) → new ≡ option_map (drop n) o → ReadsAs o new (TookFront n piece)
    by None has next = record {
      tells = λ none. refl;
      reads = λ after fits. (take n piece ++ after, (tt, (for_some (λ l. (n ≤ length l) × (take n piece ≡ take n l)) (take n piece ++ after) (enough after, sym (front after)), ap Some (sym (behind after)))));
    }
    by (Some l) has next = record {
      tells = λ none. absurd (no_some (sym none ∙ next));
      reads = λ after fits. (l, (refl, (has, ap Some (told l after new next fits))));
    }

-- none is left
pub took_none : {old new : Option (List ℕ)} (n : ℕ) → n ≡ 0 → ForSome old (λ l. l ≡ []) → new ≡ option_map (drop n) old → TakesAs old new (λ before after. (before ≡ []) × (after ≡ []))
took_none {old} {new} n zero none later = by old none later
  where
    told : (l : List ℕ) → l ≡ [] → drop n l ≡ []
    told l empty = ap (λ (k : ℕ). drop k l) zero ∙ empty

    by : (o : Option (List ℕ)) → ForSome o (λ l. l ≡ []) → new ≡ option_map (drop n) o → TakesAs o new (λ before after. (before ≡ []) × (after ≡ []))
    by None empty next = record { tells = λ _. refl; before = []; after = []; was = tt; is = subst (λ (x : Option (List ℕ)). Fits x []) (sym next) tt; holds = (refl, refl) }
    by (Some l) empty next = record {
      tells = λ gone. absurd (no_some (sym gone ∙ next));
      before = l;
      after = drop n l;
      was = refl;
      is = subst (λ (x : Option (List ℕ)). Fits x (drop n l)) (sym next) refl;
      holds = (empty l refl, told l (empty l refl));
    }

-- at most `most` bytes were taken of an observable input
pub told_taken : (most : ℕ) {old new : Option (List ℕ)} {P : List ℕ → List ℕ → Type 0} → TakesAs old new (λ before after. IsTakenUpTo most (Some after) before × P before after) → ForSome old (IsTakenUpTo most new)
told_taken most takes bytes there = takes_told (λ before o n. IsTakenUpTo most n before) (takes_map takes (λ before after both. both.0)) bytes there
