-- Clauses of calls that search a chain, link a record or unlink one.
use Rattle.std.specs.Prelude.{◌≡◌, ℕ, List, Result}
use Rattle.std.specs.declared.option.Option.{Option}
use Rattle.std.specs.Option.{ForSome}
use Rattle.spec_image.specs.Image.{Image}
use Rattle.spec_image.specs.Told.{Commits, Told}
use Rattle.blk_io.specs.declared.fault.Fault.{Fault}
use Rattle.blk_io.specs.Faults.{OpaqueIfDamaged}
use Rattle.blk_disk.specs.declared.tables.BlockFiles.{BlockFiles}
use Rattle.blk_disk.specs.Tables.{Agrees}
use Rattle.blk_chain.specs.declared.found.Found.{Found}
use Rattle.blk_chain.specs.Finding.{CanBeSearched}
use Rattle.blk_chain.specs.Linking.{IsLinkedInFront}
use Rattle.blk_chain.specs.Unlinking.{CanBeUnlinked, IsStillLinked, IsUnlinked, words_to_unlink}

-- where the table is that of an observable folder and P holds of it, the answer is no failed check
abbrev pub UndamagedByTable : {A : Type 0} → Result A Fault → Told → BlockFiles → (Image → Type 0) → Type 0
UndamagedByTable result told files P = ForSome told.files (Agrees files) → ForSome told.files P → OpaqueIfDamaged result told

-- if the chain of the key can be searched, what was found can be unlinked
abbrev pub CanUnlinkFound : List ℕ → Found → Image → Type 0
CanUnlinkFound key found image = CanBeSearched key image → CanBeUnlinked found.entry found.before image

-- where the record can be unlinked, P holds of the folder, the record and the one before it
abbrev pub WhereUnlinkable : Told → ℕ → Option ℕ → (Image → ℕ → Option ℕ → Type 0) → Type 0
WhereUnlinkable told entry before P = ForSome told.files (λ from. CanBeUnlinked entry before from → P from entry before)

-- the folder that the unlinking leaves is in relation P to the one before it
abbrev pub UnlinkEndsIn : (new : Told) → (Image → ℕ → Option ℕ → Image → Type 0) → Image → ℕ → Option ℕ → Type 0
UnlinkEndsIn new P from entry before = ForSome new.files (P from entry before)

-- until the word that unlinks the record is written the chains are the old ones, and from then on it is unlinked
abbrev pub CommitsUnlink : (old new : Told) → Image → ℕ → Option ℕ → Type 0
CommitsUnlink old new from entry before = Commits (words_to_unlink before) old new (IsStillLinked from entry before) (IsUnlinked from entry before)

-- until the word that links the record is written nothing has changed, and from then on it is linked
abbrev pub CommitsLink : (old new : Told) → ℕ → Image → Type 0
CommitsLink old new entry from = Commits 1 old new (λ image. image ≡ from) (IsLinkedInFront from entry)
