-- The LRU list as an image shows it, what is written into it, and lists that are whole.
use Rattle.std.specs.Prelude.{◌≡◌, ℕ, ◌≤◌, ◌<◌, Bool, true, false, ◌==◌, if◌then◌else◌, List, [], ◌∷◌, length}
use Rattle.blk_model.specs.Sizes.{most_items}
use Rattle.spec_format.specs.BlockFiles.{is_among}

-- the LRU list as an image has it; `checks` says whether a word names a node that is there and whose checksum is right or absent
pub record ListView : Type 0 where
  pub head : ℕ
  pub tail : ℕ
  pub transaction : ℕ
  pub operation : ℕ
  pub checks : ℕ → Bool
  pub next : ℕ → ℕ
  pub prev : ℕ → ℕ

-- the most nodes of a list, and that are walked: as many as a cache has items
abbrev pub most_nodes : ℕ
most_nodes = most_items

-- a function with another value at one place
unfoldable pub put : {A : Type 0} → (ℕ → A) → ℕ → A → ℕ → A
put values place value other = if other == place then value else values other

-- a write into the list: of a node's next or prev, or of a word of the index
pub data ListWrite : Type 0 where
  Next : ℕ → ℕ → ListWrite
  Prev : ℕ → ℕ → ListWrite
  Head : ℕ → ListWrite
  Tail : ℕ → ListWrite
  Transaction : ℕ → ListWrite
  Operation : ℕ → ListWrite

-- the list after a write; a node whose links are written has a right checksum as before, since it gets a new one
abbrev pub with_write : ListView → ListWrite → ListView
with_write list (Next node word) = record list { next = put list.next node word }
with_write list (Prev node word) = record list { prev = put list.prev node word }
with_write list (Head word) = record list { head = word }
with_write list (Tail word) = record list { tail = word }
with_write list (Transaction word) = record list { transaction = word }
with_write list (Operation word) = record list { operation = word }

-- the list after writes, the first of them first
abbrev pub after_writes : List ListWrite → ListView → ListView
after_writes [] list = list
after_writes (write ∷ writes) list = after_writes writes (with_write list write)

-- the first of some words, or another word where there is none
abbrev pub first_or : ℕ → List ℕ → ℕ
first_or other [] = other
first_or other (word ∷ words) = word

-- the last of some words, or another word where there is none
abbrev pub last_or : ℕ → List ℕ → ℕ
last_or other [] = other
last_or other (word ∷ words) = last_or word words

-- no word occurs twice
abbrev pub Distinct : List ℕ → Type 0
Distinct [] = Unit {0}
Distinct (word ∷ words) = (is_among words word ≡ false) × Distinct words

-- a node whose checksum is right or absent, with these words as prev and next
pub record Joined (checks : ℕ → Bool) (next prev : ℕ → ℕ) (before node following : ℕ) : Type 0 where
  pub good : checks node ≡ true
  pub next_is : next node ≡ following
  pub prev_is : prev node ≡ before

-- nodes that are linked both ways, the first with `before` as its prev and the last with `following` as its next
abbrev pub Segment : (checks : ℕ → Bool) (next prev : ℕ → ℕ) (before : ℕ) → List ℕ → (following : ℕ) → Type 0
Segment checks next prev before [] following = Unit {0}
Segment checks next prev before (node ∷ nodes) following = Joined checks next prev before node (first_or following nodes) × Segment checks next prev node nodes following

-- the list is whole: these nodes, each once, are linked both ways from head to tail, and the head's prev and the tail's next name the node itself
pub record IsList (list : ListView) (nodes : List ℕ) : Type 0 where
  pub head_is : list.head ≡ first_or 0 nodes
  pub tail_is : list.tail ≡ last_or 0 nodes
  pub linked : Segment list.checks list.next list.prev (first_or 0 nodes) nodes (last_or 0 nodes)
  pub distinct : Distinct nodes
  pub few : length nodes ≤ most_nodes
  pub no_zero : list.checks 0 ≡ false

-- a list is whole, and no operation is in flight
pub record IsAtRest (list : ListView) (nodes : List ℕ) : Type 0 where
  pub whole : IsList list nodes
  pub idle : list.transaction ≡ 0

-- a node whose checksum is right or absent and that isn't in an idle list, which has space for one more
pub record CanBeInserted (list : ListView) (nodes : List ℕ) (node : ℕ) : Type 0 where
  pub rest : IsAtRest list nodes
  pub lacks : is_among nodes node ≡ false
  pub good : list.checks node ≡ true
  pub few : length nodes < most_nodes
