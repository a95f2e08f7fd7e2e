-- The observable state of a folder, and what its calls do to it.
use Rattle.std.specs.Prelude.{◌≡◌, ℕ, zero, suc, ◌+◌, ◌-◌, ◌^◌, ◌<◌, ◌≤◌, ◌&&◌, ◌||◌, Bool, true, false, nat_le, nat_lt, min, List, [], ◌∷◌, ◌++◌, length, take, drop, Option, None}
use Rattle.std.specs.Option.{option_map, ForSome}
use Rattle.spec_image.specs.Bytes.{range_at}
use Rattle.spec_image.specs.Image.{File, Index, Block, External, Image, AreBytes, byte, has_file, length_of}
use Rattle.spec_image.specs.Steps.{TrailStep, Word, SetLength, Delete, Note, applied, after}

-- a write trace: the image at the start and the steps since
pub record Trail : Type 0 where
  pub start : Image
  pub steps : List TrailStep

-- the observable state of a folder: its image now and its write trace, each None where it is opaque
pub record Told : Type 0 where
  pub files : Option Image
  pub trail : Option Trail

-- the observed image is the one that the observed write trace leaves, where both are observable
abbrev pub AgreesWithTrail : Told → Type 0
AgreesWithTrail told = ForSome told.files (λ image. ForSome told.trail (λ trail. image ≡ after trail.steps trail.start))

-- the observed image, if any, has bytes: each number in it is below 256
abbrev pub TellsBytes : Told → Type 0
TellsBytes told = ForSome told.files AreBytes

-- the write trace with more steps at its end
abbrev pub longer : List TrailStep → Trail → Trail
longer steps trail = record { start = trail.start; steps = trail.steps ++ steps }

-- these steps were made: the files, where observable, are those after them, and the write trace, where observable, has them at its end
pub record Applies (old new : Told) (steps : List TrailStep) : Type 0 where
  pub files : new.files ≡ option_map (after steps) old.files
  pub trail : new.trail ≡ option_map (longer steps) old.trail

-- the observable state is as before: no step was made
abbrev pub Stays : Told → Told → Type 0
Stays old new = new ≡ old

-- a prefix of the steps was made, perhaps none of them or all
pub record AppliesPrefix (old new : Told) (steps : List TrailStep) : Type 0 where
  pub made : List TrailStep
  pub left : List TrailStep
  pub split : steps ≡ made ++ left
  pub applies : Applies old new made

-- exactly the steps that a function gives for the image were made, where the image is observable
abbrev pub MakesSteps : (old new : Told) → (steps_on : Image → List TrailStep) → Type 0
MakesSteps old new steps_on = ForSome old.files (λ from. Applies old new (steps_on from))

-- a prefix of the steps that a function gives for the image was made, where the image is observable; an opaque image stays opaque
pub record MakesPartOf (old new : Told) (steps_on : Image → List TrailStep) : Type 0 where
  pub made : ForSome old.files (λ from. AppliesPrefix old new (steps_on from))
  pub silent : old.files ≡ None → new.files ≡ None

-- P holds of the image before each step, and Q of the image after the last
abbrev pub Until : (Image → Type 0) → (Image → Type 0) → Image → List TrailStep → Type 0
Until P Q image [] = Q image
Until P Q image (step ∷ steps) = P image × Until P Q (applied step image) steps

-- P holds of the image before the first step and after each
abbrev pub Along : (Image → Type 0) → Image → List TrailStep → Type 0
Along P image steps = Until P P image steps

-- P holds of the image until so many steps are made, and Q from then on
abbrev pub CommitsAt : ℕ → (P Q : Image → Type 0) → Image → List TrailStep → Type 0
CommitsAt zero P Q image steps = Along Q image steps
CommitsAt (suc count) P Q image [] = P image
CommitsAt (suc count) P Q image (step ∷ steps) = P image × CommitsAt count P Q (applied step image) steps

-- no step is a note
abbrev pub HasNoNote : List TrailStep → Type 0
HasNoNote [] = Unit {0}
HasNoNote (Note number ∷ steps) = ⊥
HasNoNote (step ∷ steps) = HasNoNote steps

-- whether a step is one that a command may make: it is no note; a write into the index lies from place 8 to 19 or from 36 on, so it spares the words that say
-- what session it is; and the index is neither deleted nor given a length
abbrev pub is_quiet : TrailStep → Bool
is_quiet (Word Index place bytes) = (nat_le 8 place && nat_le (place + length bytes) 20) || nat_le 36 place
is_quiet (Word (Block n) place bytes) = true
is_quiet (Word (External n) place bytes) = true
is_quiet (SetLength Index size) = false
is_quiet (SetLength (Block n) size) = true
is_quiet (SetLength (External n) size) = true
is_quiet (Delete Index) = false
is_quiet (Delete (Block n)) = true
is_quiet (Delete (External n)) = true
is_quiet (Note number) = false

-- P holds, and so does the test
abbrev pub OnlyWhere : Bool → Type 0 → Type 0
OnlyWhere true P = P
OnlyWhere false P = ⊥

-- each step is one that a command may make: none is a note, and none touches what says which session it is
abbrev pub IsQuiet : List TrailStep → Type 0
IsQuiet [] = Unit {0}
IsQuiet (step ∷ steps) = OnlyWhere (is_quiet step) (IsQuiet steps)

-- whether a byte of the index is of the words that say what session it is: below place 8 (the magic word and the version), or from 20 to 35 (among them the
-- number of the session and the crash word)
abbrev pub is_of_session : ℕ → Bool
is_of_session place = nat_lt place 8 || (nat_le 20 place && nat_lt place 36)

-- it is the same session: these bytes of the index are as before, and so are its length and whether it is there
pub record SaysTheSameSession (from image : Image) : Type 0 where
  pub bytes : (place : ℕ) → is_of_session place ≡ true → byte image Index place ≡ byte from Index place
  pub size : length_of image Index ≡ length_of from Index
  pub there : has_file image Index ≡ has_file from Index

-- steps of a call that makes or opens a folder were made, which may touch every word, none of them a note; P holds of the files before each of them, and Q
-- after the last
pub record PassesAnyTo (old new : Told) (P Q : Image → Type 0) : Type 0 where
  pub steps : List TrailStep
  pub applies : Applies old new steps
  pub unnoted : HasNoNote steps
  pub along : ForSome old.files (λ image. Until P Q image steps)

-- steps of a call that makes or opens a folder were made, and P holds of the files before each of them and after the last
abbrev pub PassesAny : Told → Told → (Image → Type 0) → Type 0
PassesAny old new P = PassesAnyTo old new P P

-- steps of a command were made, none of them a note; P holds of the files before each of them, and Q after the last
pub record PassesTo (old new : Told) (P Q : Image → Type 0) : Type 0 where
  pub steps : List TrailStep
  pub applies : Applies old new steps
  pub quiet : IsQuiet steps
  pub along : ForSome old.files (λ image. Until P Q image steps)

-- steps of a command were made, none of them a note; P holds of the image before each of them and after the last
abbrev pub Passes : Told → Told → (Image → Type 0) → Type 0
Passes old new P = PassesTo old new P P

-- an error counter rose, unless it is at the last value of a u64
abbrev pub Rises : ℕ → ℕ → Type 0
Rises before now = now < 2 ^ 64 - 1 → before < now

-- what a call that writes nothing leaves of the observable state of a folder: no step was made, the count of its failed calls never falls, and where
-- the call's answer is that the folder failed, which `if_failed` asks, that count rose
pub record ReadsOnly {S : Type 0} (told : S → Told) (faults : S → ℕ) (old new : S) (if_failed : Type 0 → Type 0) : Type 0 where
  pub stays : Stays (told old) (told new)
  pub later : faults old ≤ faults new
  pub failed : if_failed (Rises (faults old) (faults new))

-- a call that may write leaves this, whatever it wrote: a folder whose files are opaque keeps them so, the count of its failed calls never falls,
-- and where the call's answer is that the folder failed, which `if_failed` asks, that count rose
pub record MayWrite {S : Type 0} (told : S → Told) (faults : S → ℕ) (old new : S) (if_failed : Type 0 → Type 0) : Type 0 where
  pub silent : (told old).files ≡ None → (told new).files ≡ None
  pub later : faults old ≤ faults new
  pub failed : if_failed (Rises (faults old) (faults new))

-- a read of a file from a place on: the new buffer begins with the count bytes found there, as many as the file has and the buffer holds, and ends as the old
-- one does
pub record GivesBytes (image : Image) (file : File) (place : ℕ) (old new : List ℕ) (count : ℕ) : Type 0 where
  pub many : count ≡ min (length old) (length_of image file - place)
  pub front : take count new ≡ range_at (byte image file) place count
  pub rest : drop count new ≡ drop count old

-- steps of a command were made, none of them a note; P holds until so many of them are made, and Q from then on
pub record Commits (count : ℕ) (old new : Told) (P Q : Image → Type 0) : Type 0 where
  pub steps : List TrailStep
  pub applies : Applies old new steps
  pub quiet : IsQuiet steps
  pub commits : ForSome old.files (λ image. CommitsAt count P Q image steps)

-- Clauses of a call, on the folder before it (`old`) and after it (`new`); they say nothing where it is opaque.

-- P holds in an observable folder for all that `each` ranges over there
abbrev pub ForTold : {A : Type 1} → Told → (each : Image → A → Type 0) → (P : Image → A) → Type 0
ForTold told each P = ForSome told.files (λ from. each from (P from))

-- the folder that a call leaves is in relation P to the one before
abbrev pub EndsIn : (new : Told) → (Image → Image → Type 0) → Image → Type 0
EndsIn new P from = ForSome new.files (P from)

-- the folder that a call leaves is in relation P to the one before it
abbrev pub LeavesFrom : (old new : Told) → (Image → Image → Type 0) → Type 0
LeavesFrom old new P = ForSome old.files (λ from. ForSome new.files (P from))

-- where P holds of the folder before a call, the one that it leaves is in relation Q to it
abbrev pub LeavesWhere : (old new : Told) → (Image → Type 0) → (Image → Image → Type 0) → Type 0
LeavesWhere old new P Q = ForSome old.files (λ from. P from → ForSome new.files (Q from))

-- the folder is in relation P to the one before the call, before each step and after the last
abbrev pub StopsFrom : (old new : Told) → (Image → Image → Type 0) → Type 0
StopsFrom old new P = ForSome old.files (λ from. Passes old new (P from))

-- where P holds of the folder before a call, it is in relation Q to it before each step and after the last
abbrev pub StopsWhere : (old new : Told) → (Image → Type 0) → (Image → Image → Type 0) → Type 0
StopsWhere old new P Q = ForSome old.files (λ from. P from → Passes old new (Q from))
