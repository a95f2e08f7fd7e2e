-- Each definition on a small example, computed.
use Rattle.std.proofs.Common.{◌≡◌, ℕ, ◌+◌, ◌-◌, ◌^◌, List, [], ◌∷◌, ◌++◌, None, Some, true, false, refl, subst, arith}
use Rattle.spec_image.specs.Bytes.{content, half_at, word_at, long_at, word_bytes, range_at, words_at, spliced, zeros, resized}
use Rattle.spec_image.specs.Image.{Index, Block, External, Image, same_file, empty_image, has_file, bytes_of, length_of, byte, word, with_file}
use Rattle.spec_image.specs.Steps.{TrailStep, Word, SetLength, Delete, Note, after, image_at, words, before_words, word_step, word_steps, with_word, with_words}
use Rattle.spec_image.specs.Order.{file_rank, file_number}
use Rattle.spec_image.specs.Notes.{AlongFrom, AtEachPrefix, AreTrue, notes_in}
use Rattle.spec_image.specs.Told.{Told, PassesTo, Commits, Rises}
use Rattle.spec_image.proofs.NotesLemmas.{at_each_prefix, are_true-append}
use Rattle.spec_image.proofs.Runs.{passes_both, some_inj}
use Rattle.spec_image.specs.Footprint.{nothing, range, one_word, size_of, whole, either}

-- the magic word of an index as it lies in the file
magic : List ℕ
magic = 0xC3 ∷ 0xCA ∷ 0x03 ∷ 0xC1 ∷ []

byte_past_the_end : content (7 ∷ 8 ∷ []) 2 ≡ 0
byte_past_the_end = refl

half_is_little_endian : half_at (content (0x34 ∷ 0x12 ∷ [])) 0 ≡ 0x1234
half_is_little_endian = refl

word_is_little_endian : word_at (content (0xC3 ∷ 0xCA ∷ 0x03 ∷ 0xC1 ∷ [])) 0 ≡ 0xC103CAC3
word_is_little_endian = refl

long_is_little_endian : long_at (content (1 ∷ 0 ∷ 0 ∷ 0 ∷ 2 ∷ [])) 0 ≡ 0x200000001
long_is_little_endian = refl

bytes_of_a_word : word_bytes 0xC103CAC3 ≡ 0xC3 ∷ 0xCA ∷ 0x03 ∷ 0xC1 ∷ []
bytes_of_a_word = refl

range_of_three : range_at (content (5 ∷ 6 ∷ 7 ∷ 8 ∷ [])) 1 3 ≡ 6 ∷ 7 ∷ 8 ∷ []
unfolding range_at
range_of_three = refl

two_words : words_at (content (1 ∷ 0 ∷ 0 ∷ 0 ∷ 2 ∷ [])) 0 2 ≡ 1 ∷ 2 ∷ []
unfolding words_at
two_words = refl

splice_keeps_the_length : spliced 1 (8 ∷ 9 ∷ []) (1 ∷ 2 ∷ []) ≡ 1 ∷ 8 ∷ []
unfolding spliced
splice_keeps_the_length = refl

lengthened_with_zeros : resized 3 (7 ∷ []) ≡ 7 ∷ 0 ∷ 0 ∷ []
unfolding resized zeros
lengthened_with_zeros = refl

cut : resized 1 (7 ∷ 8 ∷ []) ≡ 7 ∷ []
unfolding resized zeros
cut = refl

block_files_differ : same_file (Block 3) (Block 4) ≡ false
block_files_differ = refl

kinds_differ : same_file (Block 3) (External 3) ≡ false
kinds_differ = refl

-- a folder with one external file of three bytes
small : Image
small = with_file empty_image (External 1) (Some (1 ∷ 2 ∷ 3 ∷ []))

one_file_is_there : (has_file small (External 1) ≡ true) × (has_file small Index ≡ false)
unfolding small
one_file_is_there = (refl, refl)

its_length : (length_of small (External 1) ≡ 3) × (length_of small Index ≡ 0)
unfolding small
its_length = (refl, refl)

its_bytes : bytes_of small (External 1) ≡ 1 ∷ 2 ∷ 3 ∷ []
unfolding small
its_bytes = refl

its_byte : byte small (External 1) 2 ≡ 3
unfolding small
its_byte = refl

its_word_past_the_end : word small (External 1) 0 ≡ 0x30201
unfolding small
its_word_past_the_end = refl

-- seven bytes from place 2 on touch three words
write_is_cut : words (Block 1) 2 (1 ∷ 2 ∷ 3 ∷ 4 ∷ 5 ∷ 6 ∷ 7 ∷ []) ≡ Word (Block 1) 2 (1 ∷ 2 ∷ []) ∷ Word (Block 1) 4 (3 ∷ 4 ∷ 5 ∷ 6 ∷ []) ∷ Word (Block 1) 8 (7 ∷ []) ∷ []
unfolding words before_words
write_is_cut = refl

no_bytes_no_step : words Index 4 [] ≡ []
unfolding words
no_bytes_no_step = refl

one_word_is_one_step : word_steps Index ((0, 0xC103CAC3) ∷ (4, 1) ∷ []) ≡ Word Index 0 (0xC3 ∷ 0xCA ∷ 0x03 ∷ 0xC1 ∷ []) ∷ Word Index 4 (1 ∷ 0 ∷ 0 ∷ 0 ∷ []) ∷ []
unfolding word_step
one_word_is_one_step = refl

words_over_bytes : with_words ((0, 1) ∷ (4, 2) ∷ []) (9 ∷ 9 ∷ 9 ∷ 9 ∷ 9 ∷ 9 ∷ []) ≡ 1 ∷ 0 ∷ 0 ∷ 0 ∷ 2 ∷ 0 ∷ []
unfolding with_word spliced
words_over_bytes = refl

-- a file is made, lengthened and written; another is deleted; a command is noted
trail : List TrailStep
trail = SetLength Index 2 ∷ Word Index 1 (5 ∷ []) ∷ Delete (External 1) ∷ Note 1 ∷ []

after_a_trail : (after trail small Index ≡ Some (0 ∷ 5 ∷ [])) × (after trail small (External 1) ≡ None)
unfolding trail small resized zeros spliced
after_a_trail = (refl, refl)

stopped_in_a_trail : (image_at small trail 1 Index ≡ Some (0 ∷ 0 ∷ [])) × (has_file (image_at small trail 1) (External 1) ≡ true)
unfolding trail small resized zeros spliced
stopped_in_a_trail = (refl, refl)

one_note : notes_in trail ≡ 1
unfolding trail
one_note = refl

block_files_are_second : (file_rank (Block 9) ≡ 1) × (file_number (Block 9) ≡ 9)
block_files_are_second = (refl, refl)

range_of_a_footprint : ((range Index 4 2).bytes Index 5 ≡ true) × ((range Index 4 2).bytes Index 6 ≡ false) × ((range Index 4 2).bytes (Block 0) 5 ≡ false) × ((range Index 4 2).sizes Index ≡ false)
range_of_a_footprint = (refl, refl, refl, refl)

word_of_a_footprint : ((one_word Index 4).bytes Index 7 ≡ true) × ((one_word Index 4).bytes Index 8 ≡ false)
word_of_a_footprint = (refl, refl)

size_of_a_footprint : ((size_of Index).sizes Index ≡ true) × ((size_of Index).bytes Index 0 ≡ false)
size_of_a_footprint = (refl, refl)

file_of_a_footprint : ((whole Index).sizes Index ≡ true) × ((whole Index).bytes Index 0 ≡ true) × ((whole Index).bytes (Block 0) 0 ≡ false)
file_of_a_footprint = (refl, refl, refl)

two_footprints : ((either (whole (Block 1)) (one_word Index 0)).bytes Index 3 ≡ true) × ((either nothing nothing).sizes Index ≡ false)
two_footprints = (refl, refl)

-- Notes and what holds at each step.

-- notes are true where they carry the next numbers
true_notes : AreTrue 0 (Note 1 ∷ Delete Index ∷ Note 2 ∷ []) × AreTrue 2 (Note 3 ∷ [])
true_notes = ((refl, (refl, tt)), (refl, tt))

-- true notes, and true notes that go on from them, are true together
true_notes_go_on : AreTrue 0 (Note 1 ∷ Delete Index ∷ Note 2 ∷ Note 3 ∷ [])
true_notes_go_on = are_true-append 0 (Note 1 ∷ Delete Index ∷ Note 2 ∷ []) (Note 3 ∷ []) true_notes.0 true_notes.1

-- a note that skips a number is not true
a_number_skipped : AreTrue 0 (Note 2 ∷ []) → ⊥
a_number_skipped is = let wrong : ◌≡◌ {A = ℕ} 2 (0 + 1) = is.0 in omega (arith, wrong)

-- directly after the note, and only then, the external file is deleted
abbrev gone_when_noted : List TrailStep → Image → Type 0
gone_when_noted made image = (before : List TrailStep) → made ≡ before ++ Note 1 ∷ [] → has_file image (External 1) ≡ false

no_note : (before : List TrailStep) → [] ≡ before ++ Note 1 ∷ [] → ⊥
no_note [] e = cc
no_note (x ∷ before) e = cc

no_note_yet : (before : List TrailStep) → Delete (External 1) ∷ [] ≡ before ++ Note 1 ∷ [] → ⊥
no_note_yet [] e = cc
no_note_yet (x ∷ before) e = no_note before (tail e)
  where
    tail : {a b : TrailStep} {xs ys : List TrailStep} → a ∷ xs ≡ b ∷ ys → xs ≡ ys
    tail e = cc

noted_step_by_step : AlongFrom gone_when_noted [] small (Delete (External 1) ∷ Note 1 ∷ [])
unfolding small
noted_step_by_step = (λ before e. absurd (no_note before e), (λ before e. absurd (no_note_yet before e), λ before e. refl))

noted_after_each_prefix : AtEachPrefix gone_when_noted small (Delete (External 1) ∷ Note 1 ∷ [])
noted_after_each_prefix = at_each_prefix gone_when_noted small (Delete (External 1) ∷ Note 1 ∷ []) noted_step_by_step

-- A call that makes a block file and writes a byte into it.

told_before : Told
told_before = record { files = Some small; trail = Some (record { start = small; steps = [] }) }

told_after : Told
told_after = record { files = Some (after (SetLength (Block 9) 2 ∷ Word (Block 9) 1 (5 ∷ []) ∷ []) small); trail = Some (record { start = small; steps = SetLength (Block 9) 2 ∷ Word (Block 9) 1 (5 ∷ []) ∷ [] }) }

-- the external file stays, and in the end the byte is there
byte_written : PassesTo told_before told_after (λ image. has_file image (External 1) ≡ true) (λ image. byte image (Block 9) 1 ≡ 5)
unfolding told_before told_after small resized zeros spliced
byte_written = record {
  steps = SetLength (Block 9) 2 ∷ Word (Block 9) 1 (5 ∷ []) ∷ [];
  applies = record { files = refl; trail = refl };
  quiet = tt;
  along = λ image is. let same : small ≡ image = some_inj is in subst (λ (i : Image). (has_file i (External 1) ≡ true) × ((has_file (after (SetLength (Block 9) 2 ∷ []) i) (External 1) ≡ true) × (byte (after (SetLength (Block 9) 2 ∷ Word (Block 9) 1 (5 ∷ []) ∷ []) i) (Block 9) 1 ≡ 5))) same (refl, (refl, refl));
}

-- there is no such file until the first step is made, and one from then on
file_made : Commits 1 told_before told_after (λ image. has_file image (Block 9) ≡ false) (λ image. has_file image (Block 9) ≡ true)
unfolding told_before told_after small resized zeros spliced
file_made = record {
  steps = SetLength (Block 9) 2 ∷ Word (Block 9) 1 (5 ∷ []) ∷ [];
  applies = record { files = refl; trail = refl };
  quiet = tt;
  commits = λ image is. let same : small ≡ image = some_inj is in subst (λ (i : Image). (has_file i (Block 9) ≡ false) × ((has_file (after (SetLength (Block 9) 2 ∷ []) i) (Block 9) ≡ true) × (has_file (after (SetLength (Block 9) 2 ∷ Word (Block 9) 1 (5 ∷ []) ∷ []) i) (Block 9) ≡ true))) same (refl, (refl, refl));
}

-- two clauses of the call hold together
both_clauses : PassesTo told_before told_after (λ image. (has_file image (External 1) ≡ true) × (has_file image (External 1) ≡ true)) (λ image. (byte image (Block 9) 1 ≡ 5) × (byte image (Block 9) 1 ≡ 5))
unfolding told_before
both_clauses = passes_both (record { start = small; steps = [] }) refl byte_written byte_written

-- a count rises, or is at the last value
counts_rise : Rises 3 4 × Rises (2 ^ 64 - 1) (2 ^ 64 - 1)
counts_rise = (λ below. omega arith, λ below. omega (arith, below))
