-- Writes into the LRU list as steps of a folder.
use Rattle.std.specs.Prelude.{ℕ, ◌≡◌, ◌≤◌, ◌<◌, ◌^◌, ◌/◌, ◌%◌, true, List, [], ◌∷◌, ◌++◌, length, take}
use Rattle.spec_image.specs.Image.{Index, Image}
use Rattle.spec_image.specs.Steps.{TrailStep, word_step, after}
use Rattle.spec_image.specs.Footprint.{Footprint, SameOutside, nothing, one_word, either}
use Rattle.spec_format.specs.Address.{kind_of, rankings}
use Rattle.spec_format.specs.Records.{node_is_sealed, node_next_place, node_prev_place}
use Rattle.spec_format.specs.BlockFiles.{KeepsHeaders}
use Rattle.spec_format.specs.Sealed.{sealed_steps, record_range}
use Rattle.spec_folder.specs.ListView.{ListWrite, Next, Prev, Head, Tail, Transaction, Operation}
use Rattle.spec_folder.specs.View.{node_at}
use Rattle.spec_folder.specs.ShownChanges.{OnlyListChanges}
use Rattle.spec_format.specs.Headers.{heads_place, tails_place, transaction_place, operation_place}

-- the steps of a write: one word of the index, or the update of the next or the prev of a node under a checksum 0
unfoldable pub write_steps : ListWrite → Image → List TrailStep
write_steps (Next node word) image = sealed_steps image node ((node_next_place, word) ∷ [])
write_steps (Prev node word) image = sealed_steps image node ((node_prev_place, word) ∷ [])
write_steps (Head word) image = word_step Index heads_place word
write_steps (Tail word) image = word_step Index tails_place word
write_steps (Transaction word) image = word_step Index transaction_place word
write_steps (Operation word) image = word_step Index operation_place word

-- the steps of writes, each on what the ones before it leave
abbrev pub steps_of_writes : List ListWrite → Image → List TrailStep
steps_of_writes [] image = []
steps_of_writes (write ∷ writes) image = write_steps write image ++ steps_of_writes writes (after (write_steps write image) image)

-- what a write may touch: the word of the index, or the node's bytes
unfoldable pub touched_by_write : ListWrite → Footprint
touched_by_write (Next node word) = record_range node
touched_by_write (Prev node word) = record_range node
touched_by_write (Head word) = one_word Index heads_place
touched_by_write (Tail word) = one_word Index tails_place
touched_by_write (Transaction word) = one_word Index transaction_place
touched_by_write (Operation word) = one_word Index operation_place

-- what some writes into the LRU list may touch
abbrev pub touched_by_writes : List ListWrite → Footprint
touched_by_writes [] = nothing
touched_by_writes (write ∷ writes) = either (touched_by_write write) (touched_by_writes writes)

-- in the midst of some writes a prefix of them is made: the list is the old one after them, and what nodes name, the chains, the records and the
-- data are as before, and so is every byte outside the nodes and the words of the index that are written
pub record IsPartly (from : Image) (writes : List ListWrite) (image : Image) : Type 0 where
  pub made : ℕ
  pub within : made ≤ length writes
  pub shown : OnlyListChanges (take made writes) from image
  pub outside : SameOutside (touched_by_writes writes) from image
  pub headers : KeepsHeaders from image

-- P holds of each node whose next or prev is written
abbrev pub AreOf : (ℕ → Type 0) → List ListWrite → Type 0
AreOf P [] = Unit {0}
AreOf P (Next node word ∷ writes) = P node × AreOf P writes
AreOf P (Prev node word ∷ writes) = P node × AreOf P writes
AreOf P (Head word ∷ writes) = AreOf P writes
AreOf P (Tail word ∷ writes) = AreOf P writes
AreOf P (Transaction word ∷ writes) = AreOf P writes
AreOf P (Operation word ∷ writes) = AreOf P writes

-- a node has the hash as its checksum
abbrev pub IsSealed : Image → ℕ → Type 0
IsSealed image node = node_is_sealed (node_at image node) ≡ true

-- each rankings node that had its checksum has it in the new image
abbrev pub KeepsSealed : Image → Image → Type 0
KeepsSealed from image = (node : ℕ) → kind_of node ≡ rankings → IsSealed from node → IsSealed image node

-- each node whose next or prev is written has its checksum
abbrev pub AreNodesSealed : List ListWrite → Image → Type 0
AreNodesSealed writes image = AreOf (IsSealed image) writes

-- each node whose next or prev is written has its checksum, and so has each rankings node that had it before
pub record Seals (from : Image) (writes : List ListWrite) (image : Image) : Type 0 where
  pub sealed : AreNodesSealed writes image
  pub keeps : KeepsSealed from image

-- both times of a node are this moment
pub record AreTimes (node moment : ℕ) (image : Image) : Type 0 where
  pub used : (node_at image node).last_used ≡ moment
  pub modified : (node_at image node).last_modified ≡ moment

-- the word that a write into the LRU list writes
abbrev pub word_of : ListWrite → ℕ
word_of (Next node word) = word
word_of (Prev node word) = word
word_of (Head word) = word
word_of (Tail word) = word
word_of (Transaction word) = word
word_of (Operation word) = word

-- each of the writes writes a word below 2 ^ 32
abbrev pub AllWriteWords : List ListWrite → Type 0
AllWriteWords [] = Unit {0}
AllWriteWords (write ∷ writes) = (word_of write < 2 ^ 32) × AllWriteWords writes

-- the four words of a node's two times, each with its place in the node, where both times are one moment
abbrev pub times_of : ℕ → List (ℕ × ℕ)
times_of moment = (0, moment % 2 ^ 32) ∷ (4, moment / 2 ^ 32) ∷ (8, moment % 2 ^ 32) ∷ (12, moment / 2 ^ 32) ∷ []

-- the steps of some writes into the LRU list, and then those that set a node's times to a moment
abbrev pub touch_steps : ℕ → ℕ → List ListWrite → Image → List TrailStep
touch_steps node moment writes image = steps_of_writes writes image ++ sealed_steps (after (steps_of_writes writes image) image) node (times_of moment)

-- in the midst of an access a prefix of its writes into the LRU list is made; nothing else is shown to change, and every byte is as before but for the words of
-- the index and the nodes that are written and the node itself
pub record IsTouched (from : Image) (node : ℕ) (writes : List ListWrite) (image : Image) : Type 0 where
  pub made : ℕ
  pub within : made ≤ length writes
  pub shown : OnlyListChanges (take made writes) from image
  pub outside : SameOutside (either (touched_by_writes writes) (record_range node)) from image
  pub headers : KeepsHeaders from image
