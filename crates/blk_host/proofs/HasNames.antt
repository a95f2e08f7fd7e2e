-- What a change of the names does to the files that are among them.
use Rattle.std.proofs.Common.{◌≡◌, ◌&&◌, ◌||◌, not, Bool, true, false, ℕ, refl, ◌∙◌, ap, ◌==◌, cond, arith}
use Rattle.std.specs.Ordering.{nat_cmp}
use Rattle.std.specs.BTreeSet.{BTreeSet, contains, Updates, IsEmpty}
use Rattle.std.specs.BTreeMap.{is_at}
use Rattle.blk_io.specs.declared.folder.FileId.{FileId}
use Rattle.blk_io.specs.declared.folder.FileId.TheVariants.{Index, Block, External}
use Rattle.blk_host.specs.FileIds.{is_file}
use Rattle.blk_host.specs.declared.names.Names.{Names}
use Rattle.blk_host.specs.Names.{has}

-- a file is among the names exactly where its number is in the set of its kind
pub has-index : (names : Names) → has names Index ≡ names.index
unfolding has
has-index names = refl

pub has-block : (names : Names) (n : ℕ) → has names (Block n) ≡ contains nat_cmp names.blocks n
unfolding has
has-block names n = refl

pub has-external : (names : Names) (n : ℕ) → has names (External n) ≡ contains nat_cmp names.externals n
unfolding has
has-external names n = refl

-- numbers are at one place of the order where they are equal
is_at-nat : (n q : ℕ) → is_at (nat_cmp n) q ≡ (q == n)
is_at-nat n q = grind (arith)

-- the set after a number is added, and after it is removed
number-added : (old new : BTreeSet ℕ) (n q : ℕ) → Updates nat_cmp old new n true → contains nat_cmp new q ≡ (q == n || contains nat_cmp old q)
number-added old new n q updates = updates.0 q ∙ ap (λ (t : Bool). cond t true (contains nat_cmp old q)) (is_at-nat n q) ∙ tell (q == n) (contains nat_cmp old q)
  where
    tell : (t was : Bool) → cond t true was ≡ (t || was)
    tell true was = refl
    tell false was = refl

number-removed : (old new : BTreeSet ℕ) (n q : ℕ) → Updates nat_cmp old new n false → contains nat_cmp new q ≡ (not (q == n) && contains nat_cmp old q)
number-removed old new n q updates = updates.0 q ∙ ap (λ (t : Bool). cond t false (contains nat_cmp old q)) (is_at-nat n q) ∙ tell (q == n) (contains nat_cmp old q)
  where
    tell : (t was : Bool) → cond t false was ≡ (not t && was)
    tell true was = refl
    tell false was = refl

no_numbers : (set : BTreeSet ℕ) (n : ℕ) → IsEmpty set → contains nat_cmp set n ≡ false
no_numbers set n empty = grind (arith)

-- the names with one kind changed
abbrev pub with_index : Names → Bool → Names
with_index old index = record { index = index; blocks = old.blocks; externals = old.externals }

abbrev pub with_blocks : Names → BTreeSet ℕ → Names
with_blocks old blocks = record { index = old.index; blocks = blocks; externals = old.externals }

abbrev pub with_externals : Names → BTreeSet ℕ → Names
with_externals old externals = record { index = old.index; blocks = old.blocks; externals = externals }

-- what is among the names after a change
pub index_added : (old : Names) (other : FileId) → has (with_index old true) other ≡ (is_file other Index || has old other)
unfolding has
index_added old Index = refl
index_added old (Block n) = refl
index_added old (External n) = refl

pub index_removed : (old : Names) (other : FileId) → has (with_index old false) other ≡ (not (is_file other Index) && has old other)
unfolding has
index_removed old Index = refl
index_removed old (Block n) = refl
index_removed old (External n) = refl

pub block_added : (old : Names) (blocks : BTreeSet ℕ) (n : ℕ) → Updates nat_cmp old.blocks blocks n true → (other : FileId) → has (with_blocks old blocks) other ≡ (is_file other (Block n) || has old other)
unfolding has
block_added old blocks n updates Index = refl
block_added old blocks n updates (Block m) = number-added old.blocks blocks n m updates
block_added old blocks n updates (External m) = refl

pub block_removed : (old : Names) (blocks : BTreeSet ℕ) (n : ℕ) → Updates nat_cmp old.blocks blocks n false → (other : FileId) → has (with_blocks old blocks) other ≡ (not (is_file other (Block n)) && has old other)
unfolding has
block_removed old blocks n updates Index = refl
block_removed old blocks n updates (Block m) = number-removed old.blocks blocks n m updates
block_removed old blocks n updates (External m) = refl

pub external_added : (old : Names) (externals : BTreeSet ℕ) (n : ℕ) → Updates nat_cmp old.externals externals n true → (other : FileId) → has (with_externals old externals) other ≡ (is_file other (External n) || has old other)
unfolding has
external_added old externals n updates Index = refl
external_added old externals n updates (Block m) = refl
external_added old externals n updates (External m) = number-added old.externals externals n m updates

pub external_removed : (old : Names) (externals : BTreeSet ℕ) (n : ℕ) → Updates nat_cmp old.externals externals n false → (other : FileId) → has (with_externals old externals) other ≡ (not (is_file other (External n)) && has old other)
unfolding has
external_removed old externals n updates Index = refl
external_removed old externals n updates (Block m) = refl
external_removed old externals n updates (External m) = number-removed old.externals externals n m updates

-- no names
pub has-none : (names : Names) → names.index ≡ false → IsEmpty names.blocks → IsEmpty names.externals → (file : FileId) → has names file ≡ false
unfolding has
has-none names index blocks externals Index = index
has-none names index blocks externals (Block n) = no_numbers names.blocks n blocks
has-none names index blocks externals (External n) = no_numbers names.externals n externals
