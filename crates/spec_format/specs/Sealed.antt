-- The record with a checksum at the start of the blocks of an address, and how its words are changed.
use Rattle.std.specs.Prelude.{ℕ, ◌≡◌, ◌≢◌, ◌⊎◌, ◌+◌, ◌%◌, ◌<◌, ◌≤◌, ◌==◌, if◌then◌else◌, List, [], ◌∷◌, ◌++◌, length, map, take, All, Bool, true}
use Rattle.spec_image.specs.Bytes.{content, range_at, word_at}
use Rattle.spec_image.specs.Image.{Block, Image, byte}
use Rattle.spec_image.specs.Steps.{TrailStep, word_step, word_steps, with_word, with_words}
use Rattle.spec_image.specs.Footprint.{Footprint, SameOutside, range}
use Rattle.spec_format.specs.Address.{kind_of, rankings, blocks_256, file_selector, place}
use Rattle.spec_format.specs.Records.{node_size, node_seal_place, entry_size, entry_seal_place, checks, seal_of}

-- the blocks of an address begin with a record that has a checksum: a node, or an entry record
abbrev pub BeginsWithRecord : ℕ → Type 0
BeginsWithRecord w = (kind_of w ≡ rankings) ⊎ (kind_of w ≡ blocks_256)

-- the size in bytes of a record at an address of this kind
unfoldable pub size_by_kind : ℕ → ℕ
size_by_kind kind = if kind == rankings then node_size else entry_size

-- the place of the checksum in a record at an address of this kind
unfoldable pub seal_by_kind : ℕ → ℕ
seal_by_kind kind = if kind == rankings then node_seal_place else entry_seal_place

-- the size in bytes of the record at an address
abbrev pub record_size : ℕ → ℕ
record_size w = size_by_kind (kind_of w)

-- the place of the checksum in the record at an address
abbrev pub seal_place : ℕ → ℕ
seal_place w = seal_by_kind (kind_of w)

-- the bytes of the record of an address
unfoldable pub record_at : Image → ℕ → List ℕ
record_at image w = range_at (byte image (Block (file_selector w))) (place w) (record_size w)

-- the record of an address has no checksum or a right one: its checksum is 0 or the hash of the bytes before it
abbrev pub RecordChecks : ℕ → Image → Type 0
RecordChecks w image = checks (seal_place w) (record_at image w) ≡ true

-- no two of the changes are at the same place
abbrev pub AreDifferent : List (ℕ × ℕ) → Type 0
AreDifferent [] = Unit {0}
AreDifferent (change ∷ changes) = All (λ other. other.0 ≢ change.0) changes × AreDifferent changes

-- at most four words are given for different fields before the checksum, each with its place in the record
pub record AreChanges (seal : ℕ) (changes : List (ℕ × ℕ)) : Type 0 where
  pub few : length changes ≤ 4
  pub aligned : All (λ change. change.0 % 4 ≡ 0) changes
  pub before : All (λ change. change.0 < seal) changes
  pub different : AreDifferent changes

-- a record with the hash of the bytes before its checksum as its checksum
abbrev pub sealed : ℕ → List ℕ → List ℕ
sealed seal bytes = with_word seal (seal_of seal bytes) bytes

-- words whose places count from a start, with their places in the file
abbrev pub placed : ℕ → List (ℕ × ℕ) → List (ℕ × ℕ)
placed start words = map (λ (word : ℕ × ℕ). (start + word.0, word.1)) words

-- the words of an update, each with its place in the record: the checksum becomes 0, the changes are made in the order given, the checksum becomes this word
abbrev pub update_words : ℕ → List (ℕ × ℕ) → ℕ → List (ℕ × ℕ)
update_words place changes seal = (place, 0) ∷ changes ++ (place, seal) ∷ []

-- the steps of an update of the record of an address, a write of one word each
unfoldable pub update_steps : ℕ → List (ℕ × ℕ) → ℕ → List TrailStep
update_steps w changes seal = word_steps (Block (file_selector w)) (placed (place w) (update_words (seal_place w) changes seal))

-- the steps of an update, under a checksum 0, of a record that has these bytes
abbrev pub steps_over : List ℕ → ℕ → List (ℕ × ℕ) → List TrailStep
steps_over bytes w changes = update_steps w changes (seal_of (seal_place w) (with_words changes bytes))

-- the checksum of the record of an address after the changes: the hash of the changed bytes before it
unfoldable pub new_seal : Image → ℕ → List (ℕ × ℕ) → ℕ
new_seal image w changes = seal_of (seal_place w) (with_words changes (record_at image w))

-- the steps of an update of the record of an address: the checksum becomes 0, the changes are made, and the checksum becomes the new hash
abbrev pub sealed_steps : Image → ℕ → List (ℕ × ℕ) → List TrailStep
sealed_steps image w changes = update_steps w changes (new_seal image w changes)

-- what an update of a record may touch: its bytes
abbrev pub record_range : ℕ → Footprint
record_range w = range (Block (file_selector w)) (place w) (record_size w)

-- in the midst of an update the record's checksum is 0 or right, so many of the changes are made, in the order given, and all else is as before
pub record IsMidUpdate (from : Image) (w : ℕ) (changes : List (ℕ × ℕ)) (image : Image) : Type 0 where
  pub made : ℕ
  pub within : made ≤ length changes
  pub fields : take (seal_place w) (record_at image w) ≡ take (seal_place w) (with_words (take made changes) (record_at from w))
  pub checks : RecordChecks w image
  pub outside : SameOutside (record_range w) from image

-- after an update all changes are made to the record, and its checksum is the hash of the bytes before it
abbrev pub IsUpdated : Image → ℕ → List (ℕ × ℕ) → Image → Type 0
IsUpdated from w changes image = record_at image w ≡ sealed (seal_place w) (with_words changes (record_at from w))

-- whether the checksum of a record is the hash of the bytes before it
abbrev pub is_sealed : ℕ → List ℕ → Bool
is_sealed seal bytes = word_at (content bytes) seal == seal_of seal bytes

-- the steps that give the record of an address its checksum: the hash, by one word, where it isn't that
unfoldable pub seal_steps : Image → ℕ → List TrailStep
seal_steps image w = if is_sealed (seal_place w) (record_at image w) then [] else word_step (Block (file_selector w)) (place w + seal_place w) (seal_of (seal_place w) (record_at image w))

-- once the record is the updated one, and all else is as before, the image is one of the update's, with all changes made
abbrev pub WholeUpdatesAreMade : Type 0
WholeUpdatesAreMade = (from image : Image) (w : ℕ) (changes : List (ℕ × ℕ)) → IsUpdated from w changes image
    → SameOutside (record_range w) from image → (moment : IsMidUpdate from w changes image) × (moment.made ≡ length changes)
