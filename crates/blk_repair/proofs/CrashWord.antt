-- The steps of the parts of a repair, none of which writes the crash word.
use Rattle.std.proofs.Common.{◌≡◌, ℕ, zero, suc, ◌+◌, ◌/◌, ◌%◌, ◌^◌, ◌≤◌, Bool, true, false, ◌&&◌, ◌==◌, List, [], ◌∷◌, ◌++◌, length, Option, refl, sym, ◌∙◌, ap, subst, arith}
use Rattle.std.specs.Prelude.{All, nat_le, ◌<◌, if◌then◌else◌}
use Rattle.std.specs.Option.{unwrap_or}
use Rattle.std.proofs.lemmas.Bool.Decides.{nat_tests}
use Rattle.std.proofs.lemmas.List.Elements.{All-append, All-cons, All-head, All-nil, All-tail}
use Rattle.spec_image.specs.Bytes.{content, spliced, word_bytes}
use Rattle.spec_image.specs.Image.{File, Image, Index, Block, bytes_of, byte, length_of, same_file, word}
use Rattle.spec_image.specs.Steps.{TrailStep, Word, SetLength, Delete, Note, after, applied, word_step, word_steps}
use Rattle.spec_image.specs.Told.{Along}
use Rattle.spec_image.proofs.Images.{bytes_of-written, same_file-true}
use Rattle.spec_image.proofs.Splices.{content-spliced_inside}
use Rattle.spec_format.specs.Address.{file_selector, place}
use Rattle.spec_format.specs.Headers.{header_length, index_version, place_of_bucket, table_length}
use Rattle.spec_format.specs.Records.{entry_next_place, node_next_place, node_prev_place, seal_of}
use Rattle.spec_format.specs.Sealed.{is_sealed, new_seal, placed, record_at, seal_place, seal_steps, sealed_steps, update_steps, update_words}
use Rattle.spec_folder.specs.Completion.{remove}
use Rattle.spec_folder.specs.ListImages.{completion_steps, operation_steps}
use Rattle.spec_folder.specs.ListPlans.{completion_writes, writes_of}
use Rattle.spec_folder.specs.ListSteps.{steps_of_writes, write_steps}
use Rattle.spec_folder.specs.ListView.{ListWrite, Next, Prev, Head, Tail, Transaction, Operation, first_or}
use Rattle.spec_folder.specs.View.{list_of, store_of}
use Rattle.blk_addr.specs.declared.claim_set.Claims.{Claims}
use Rattle.blk_index.specs.Making.{deletions}
use Rattle.blk_alloc.specs.Mending.{AreNeeded, IsNeeded}
use Rattle.blk_alloc.specs.Rebuilding.{IsRebuilding}
use Rattle.blk_alloc.proofs.Needed.{range_content}
use Rattle.law_recovery.specs.ChainRepair.{bucket_steps, chain_repair_steps, chain_steps, chains_steps, kept_records, next_steps, next_words_steps}
use Rattle.law_recovery.specs.EndRepair.{end_writes}
use Rattle.law_recovery.specs.ListRepair.{completed_image, dropped_nodes, end_steps, ended_image, list_repair_steps, removal_steps}
use Rattle.blk_repair.specs.Counters.{counted_words, index_word_steps, index_words_steps, is_in_crash_word, writes_crash_word}
use Rattle.blk_repair.specs.Seals.{seals_steps}
use Rattle.blk_repair.proofs.CounterRuns.{all-seven}
use Rattle.blk_repair.proofs.MapRuns.{index-same}

abbrev pub IsOther : TrailStep → Type 0
IsOther step = writes_crash_word step ≡ false

-- none of these steps writes the crash word
abbrev pub SpareIt : List TrailStep → Type 0
SpareIt steps = All IsOther steps

pub spare-append : (s t : List TrailStep) → SpareIt s → SpareIt t → SpareIt (s ++ t)
spare-append s t first second = All-append IsOther s t first second

spare-choice : (b : Bool) (s : List TrailStep) → SpareIt s → SpareIt (if b then [] else s)
spare-choice true s spare = All-nil IsOther
spare-choice false s spare = spare

-- ---- words

spare-block : (n at x : ℕ) → SpareIt (word_step (Block n) at x)
unfolding word_step
spare-block n at x = All-cons IsOther (Word (Block n) at (word_bytes x)) [] refl (All-nil IsOther)

spare-place : (at x : ℕ) → is_in_crash_word at 4 ≡ false → SpareIt (word_step Index at x)
unfolding word_step
spare-place at x other = All-cons IsOther (Word Index at (word_bytes x)) [] other (All-nil IsOther)

pub spare-blocks : (n : ℕ) (words : List (ℕ × ℕ)) → SpareIt (word_steps (Block n) words)
spare-blocks n [] = All-nil IsOther
spare-blocks n (w ∷ words) = spare-append (word_step (Block n) w.0 w.1) (word_steps (Block n) words) (spare-block n w.0 w.1) (spare-blocks n words)

-- words of the index at other places
pub spare-places : (words : List (ℕ × ℕ)) → All (λ (w : ℕ × ℕ). is_in_crash_word w.0 4 ≡ false) words → SpareIt (word_steps Index words)
spare-places [] others = All-nil IsOther
spare-places (w ∷ words) others =
    let O : ℕ × ℕ → Type 0 = (λ (w : ℕ × ℕ). is_in_crash_word w.0 4 ≡ false) in
    spare-append (word_step Index w.0 w.1) (word_steps Index words) (spare-place w.0 w.1 (All-head O w words others)) (spare-places words (All-tail O w words others))

spare-sealed : (image : Image) (w : ℕ) (changes : List (ℕ × ℕ)) → SpareIt (sealed_steps image w changes)
unfolding update_steps
spare-sealed image w changes = spare-blocks (file_selector w) (placed (place w) (update_words (seal_place w) changes (new_seal image w changes)))

-- ---- the list

spare-write : (write : ListWrite) (image : Image) → SpareIt (write_steps write image)
unfolding write_steps
spare-write (Next node x) image = spare-sealed image node ((node_next_place, x) ∷ [])
spare-write (Prev node x) image = spare-sealed image node ((node_prev_place, x) ∷ [])
spare-write (Head x) image = spare-place 288 x refl
spare-write (Tail x) image = spare-place 308 x refl
spare-write (Transaction x) image = spare-place 328 x refl
spare-write (Operation x) image = spare-place 332 x refl

spare-writes : (writes : List ListWrite) (image : Image) → SpareIt (steps_of_writes writes image)
spare-writes [] image = All-nil IsOther
spare-writes (write ∷ writes) image =
    let first : List TrailStep = write_steps write image in
    spare-append first (steps_of_writes writes (after first image)) (spare-write write image) (spare-writes writes (after first image))

spare-removals : (nodes : List ℕ) (image : Image) → SpareIt (removal_steps nodes image)
spare-removals [] image = All-nil IsOther
spare-removals (node ∷ nodes) image =
    let first : List TrailStep = operation_steps remove node image in
    spare-append first (removal_steps nodes (after first image)) (spare-writes (writes_of remove node (list_of image)) image) (spare-removals nodes (after first image))

pub spare-list : (image : Image) → SpareIt (list_repair_steps image)
spare-list image =
    let end : List TrailStep = end_steps (completed_image image) in
    let out : List TrailStep = removal_steps (dropped_nodes (ended_image image)) (ended_image image) in
    spare-append (completion_steps image) (end ++ out) (spare-writes (completion_writes (list_of image)) image)
    (spare-append end out (spare-writes (end_writes (list_of (completed_image image))) (completed_image image)) (spare-removals (dropped_nodes (ended_image image)) (ended_image image)))

-- ---- the chains

apart : (a b : Bool) → b ≡ false → (a && b) ≡ false
apart true b e = e
apart false b e = refl

above : (a b : ℕ) → b < a → nat_le a b ≡ false
above a b less = grind (arith, nat_tests)

at-most : (a b : ℕ) → nat_le a b ≡ true → a ≤ b
at-most a b e = grind (arith, nat_tests)

bucket-elsewhere : (bucket : ℕ) → is_in_crash_word (place_of_bucket bucket) 4 ≡ false
bucket-elsewhere bucket = apart (nat_le 32 (place_of_bucket bucket)) (nat_le (place_of_bucket bucket + 4) 36) (above (place_of_bucket bucket + 4) 36 (omega arith))

spare-links : (words : List ℕ) (image : Image) → SpareIt (next_words_steps words image)
spare-links [] image = All-nil IsOther
spare-links (w ∷ words) image =
    let first : List TrailStep = next_steps w (first_or 0 words) image in
    spare-append first (next_words_steps words (after first image))
    (spare-choice ((store_of image).chain_next w == first_or 0 words) (sealed_steps image w ((entry_next_place, first_or 0 words) ∷ [])) (spare-sealed image w ((entry_next_place, first_or 0 words) ∷ [])))
    (spare-links words (after first image))

spare-chain : (bucket : ℕ) (words : List ℕ) (image : Image) → SpareIt (chain_steps bucket words image)
spare-chain bucket words image =
    let first : List TrailStep = bucket_steps bucket (first_or 0 words) image in
    spare-append first (next_words_steps words (after first image))
    (spare-choice ((store_of image).table bucket == first_or 0 words) (word_step Index (place_of_bucket bucket) (first_or 0 words)) (spare-place (place_of_bucket bucket) (first_or 0 words) (bucket-elsewhere bucket)))
    (spare-links words (after first image))

spare-chains : (records : ℕ → List ℕ) (bucket count : ℕ) (image : Image) → SpareIt (chains_steps records bucket count image)
spare-chains records bucket zero image = All-nil IsOther
spare-chains records bucket (suc count) image =
    let first : List TrailStep = chain_steps bucket (records bucket) image in
    spare-append first (chains_steps records (bucket + 1) count (after first image)) (spare-chain bucket (records bucket) image) (spare-chains records (bucket + 1) count (after first image))

pub spare-table : (image : Image) → SpareIt (chain_repair_steps image)
unfolding chain_repair_steps
spare-table image = spare-chains (kept_records image) 0 table_length image

-- ---- the files

pub spare-deletions : (files : List File) → SpareIt (deletions files)
spare-deletions [] = All-nil IsOther
spare-deletions (file ∷ files) = All-cons IsOther (Delete file) (deletions files) refl (spare-deletions files)

both-parts : (a b : Bool) → (a && b) ≡ true → (a ≡ true) × (b ≡ true)
both-parts true b e = (refl, e)
both-parts false b e = cc

along-now : (P : Image → Type 0) (steps : List TrailStep) (image : Image) → Along P image steps → P image
along-now P [] image all = all
along-now P (step ∷ steps) image all = all.0

module _ (claims : Claims) (numbers : List ℕ) (from : Image) (long : header_length ≤ length_of from Index) where
  -- a step that is needed writes something else, and rebuilding leaves the index as it was
  other-bytes : (image : Image) (at : ℕ) (bytes : List ℕ) → at + length bytes ≤ 36 → IsRebuilding claims numbers from image → IsRebuilding claims numbers from (applied (Word Index at bytes) image) → IsNeeded image (Word Index at bytes) → ⊥
  other-bytes image at bytes inside was is needed =
      let same : spliced at bytes (bytes_of image Index) ≡ bytes_of image Index =
      sym (bytes_of-written image Index at bytes) ∙ same-bytes (applied (Word Index at bytes) image) is ∙ sym (same-bytes image was) in
      let room : header_length ≤ length_of image Index = subst (λ (n : ℕ). header_length ≤ n) (sym (ap length (same-bytes image was))) long in
      needed
      (range_content (length bytes) at (byte image Index) bytes refl
      (λ k small. sym (content-spliced_inside at bytes (bytes_of image Index) k (at + k) refl small (omega (arith, small, inside, room))) ∙ ap (λ (l : List ℕ). content l (at + k)) same))
    where
      same-bytes : (i : Image) → IsRebuilding claims numbers from i → bytes_of i Index ≡ bytes_of from Index
      same-bytes i moment = ap (λ (o : Option (List ℕ)). unwrap_or o []) (index-same claims numbers from i moment)

  spare-needed : (step : TrailStep) (image : Image) → IsRebuilding claims numbers from image → IsRebuilding claims numbers from (applied step image) → IsNeeded image step → IsOther step
  spare-needed (SetLength file n) image was is needed = refl
  spare-needed (Delete file) image was is needed = refl
  spare-needed (Note number) image was is needed = refl
  spare-needed (Word file at bytes) image was is needed = by_test (writes_crash_word (Word file at bytes)) refl
    where
      by_test : (t : Bool) → writes_crash_word (Word file at bytes) ≡ t → t ≡ false
      by_test false e = refl
      by_test true e =
          let parts = both-parts (same_file file Index) (is_in_crash_word at (length bytes)) e in
          let inner = both-parts (nat_le 32 at) (nat_le (at + length bytes) 36) parts.1 in
          let P : File → Type 0 = (λ (f : File). IsRebuilding claims numbers from (applied (Word f at bytes) image) → IsNeeded image (Word f at bytes) → ⊥) in
          let there : P Index = other-bytes image at bytes (at-most (at + length bytes) 36 inner.1) was in
          let here : P file = subst P (sym (same_file-true file Index parts.0)) there in
          absurd (here is needed)

  pub spare-all : (steps : List TrailStep) (image : Image) → Along (IsRebuilding claims numbers from) image steps → AreNeeded image steps → SpareIt steps
  spare-all [] image along needed = All-nil IsOther
  spare-all (step ∷ steps) image along needed =
      All-cons IsOther step steps (spare-needed step image along.0 (along-now (IsRebuilding claims numbers from) steps (applied step image) along.1) needed.0) (spare-all steps (applied step image) along.1 needed.1)

-- ---- the rest

spare-seal : (image : Image) (w : ℕ) → SpareIt (seal_steps image w)
unfolding seal_steps
spare-seal image w =
    spare-choice (is_sealed (seal_place w) (record_at image w)) (word_step (Block (file_selector w)) (place w + seal_place w) (seal_of (seal_place w) (record_at image w)))
    (spare-block (file_selector w) (place w + seal_place w) (seal_of (seal_place w) (record_at image w)))

pub spare-seals : (words : List ℕ) (image : Image) → SpareIt (seals_steps words image)
spare-seals [] image = All-nil IsOther
spare-seals (w ∷ words) image =
    let first : List TrailStep = seal_steps image w in
    spare-append first (seals_steps words (after first image)) (spare-seal image w) (spare-seals words (after first image))

pub spare-words : (words : List (ℕ × ℕ)) (image : Image) → All (λ (w : ℕ × ℕ). is_in_crash_word w.0 4 ≡ false) words → SpareIt (index_words_steps words image)
spare-words [] image others = All-nil IsOther
spare-words (w ∷ words) image others =
    let O : ℕ × ℕ → Type 0 = (λ (w : ℕ × ℕ). is_in_crash_word w.0 4 ≡ false) in
    let first : List TrailStep = index_word_steps w.0 w.1 image in
    spare-append first (index_words_steps words (after first image)) (spare-choice (word image Index w.0 == w.1) (word_step Index w.0 w.1) (spare-place w.0 w.1 (All-head O w words others))) (spare-words words (after first image) (All-tail O w words others))

pub counted-elsewhere : (items bytes id : ℕ) → All (λ (w : ℕ × ℕ). is_in_crash_word w.0 4 ≡ false) (counted_words items bytes id)
counted-elsewhere items bytes id =
    let O : ℕ × ℕ → Type 0 = (λ (w : ℕ × ℕ). is_in_crash_word w.0 4 ≡ false) in
    all-seven O (268, items) (8, items) (48, bytes % 2 ^ 32) (52, bytes / 2 ^ 32) (4, index_version) (12, 0) (20, id) refl refl refl refl refl refl refl
