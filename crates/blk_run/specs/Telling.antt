-- What the calls of a clock and of an input gave, whether these are observable or not.
use Rattle.std.specs.Prelude.{◌≡◌}
use Rattle.std.specs.declared.option.Option.{Option}
use Rattle.std.specs.declared.option.Option.TheVariants.{None, Some}

-- what was given agrees with what is observed of it; where nothing is observable anything does
abbrev pub Fits : {A : Type 0} → Option A → A → Type 0
Fits None given = Unit {0}
Fits (Some told) given = given ≡ told

-- P holds between the readings to come at first (`old`) and those to come now (`new`), observable or not: whatever is read from now on, there are readings at
-- first, those that the calls gave before it, and they are the observed ones where there are such. A clock that is observable at first is so now
pub record ReadsAs {A : Type 0} (old new : Option A) (P : A → A → Type 0) : Type 0 where
  pub tells : new ≡ None → old ≡ None
  pub reads : (after : A) → Fits new after → (before : A) × (Fits old before × P before after)

-- P holds between some bytes that were to come of an input at first (`old`) and some that are left of it now (`new`), observable or not: those that the
-- calls gave, and they are the observed ones where there are such. An input that is observable at first is so now
pub record TakesAs {A : Type 0} (old new : Option A) (P : A → A → Type 0) : Type 0 where
  pub tells : new ≡ None → old ≡ None
  pub before : A
  pub after : A
  pub was : Fits old before
  pub is : Fits new after
  pub holds : P before after
