-- One write into the list, and writes one after another, at each of their words.
use Rattle.std.proofs.Common.{inl, ◌≡◌, ℕ, zero, suc, ◌+◌, ◌%◌, ◌^◌, ◌<◌, ◌≤◌, true, false, Bool, List, [], ◌∷◌, take, All, refl, ap, sym, ◌∙◌, subst, arith}
use Rattle.std.specs.Prelude.{◌&&◌, ◌||◌, nat_le}
use Rattle.std.proofs.lemmas.Bool.{and_parts, leb-true}
use Rattle.std.proofs.lemmas.List.Elements.{All-nil, All-cons}
use Rattle.spec_image.specs.Bytes.{word_bytes}
use Rattle.spec_image.specs.Image.{File, Index, Block, Image, length_of}
use Rattle.spec_image.specs.Steps.{TrailStep, Word, after, applied, word_step, word_steps, with_words}
use Rattle.spec_image.specs.Footprint.{Footprint, IsWithin, SameOutside, nothing, one_word, either}
use Rattle.spec_image.specs.Told.{Along, IsQuiet}
use Rattle.spec_image.proofs.Runs.{until-append, until_weaker2, until_last, quiet-append}
use Rattle.spec_image.proofs.WordSteps.{quiet-word_step, quiet-word_steps}
use Rattle.spec_image.proofs.Cuts.{after-append}
use Rattle.spec_image.proofs.Images.{word-after_same, length-after_write}
use Rattle.spec_image.proofs.Footprints.{outside-refl, outside-trans, outside_wider, outside_write, within_left, within_right, within_both}
use Rattle.spec_format.specs.Address.{is_address, is_initialized, names_external, names_blocks, kind_of, rankings, file_selector, first_block, block_count, place, byte_size}
use Rattle.spec_format.specs.Standing.{is_linked_as, stands_as_blocks}
use Rattle.spec_format.specs.BlockFiles.{is_among, linked_as, max_entries_in, stands_in}
use Rattle.spec_format.specs.Sealed.{RecordChecks, IsMidUpdate, IsUpdated, seal_place, record_size, record_at, record_range, sealed_steps, update_steps, update_words, placed, new_seal}
use Rattle.spec_format.proofs.RecordBytes.{take-before_word}
use Rattle.spec_format.proofs.SealedRecords.{node_seal, record_inside, moments, updated}
use Rattle.spec_format.proofs.Finished.{headers-kept, headers-next}
use Rattle.spec_folder.specs.ListView.{ListView, ListWrite, Next, Prev, Head, Tail, Transaction, Operation}
use Rattle.spec_folder.specs.View.{list_of}
use Rattle.spec_folder.specs.ShownChanges.{OnlyListChanges}
use Rattle.law_folder.specs.IndexWrites.{IsListWord, checked_words}
use Rattle.spec_folder.specs.ListSteps.{IsPartly, AreOf, write_steps, steps_of_writes, touched_by_write, touched_by_writes}
use Rattle.spec_folder.specs.ListImages.{IsWritable, CanBeMade}
use Rattle.law_folder.specs.ListWords.{WritesAreMadeInTurn, WritesAreMade, WritesCanGoOn}
use Rattle.law_folder.proofs.claims.ByteChanges.{stands-address, stands-blocks}
use Rattle.law_folder.proofs.claims.NodeWords.{initialized-fits, node_apart}
use Rattle.law_folder.proofs.lists.Adding.{changes-begin, changes-add}
use Rattle.law_folder.proofs.updates.IndexWords.{heads-written, tails-written, transactions-written, operations-written, others-unchecked}
use Rattle.law_folder.proofs.claims.Inside.{updates-inside}
use Rattle.law_folder.proofs.lists.ListWrites.{checks_stay}
use Rattle.law_folder.proofs.updates.NodeRecords.{are_bytes-word, record_checks}
use Rattle.law_folder.proofs.updates.Nodes.{nexts-written, prevs-written, good-stands}
use Rattle.law_folder.proofs.updates.StillShown.{standing-parts}

-- an image stays one that can be written
writable-word : (file : File) (at x : ℕ) (image : Image) → IsWritable image → IsWritable (applied (Word file at (word_bytes x)) image)
writable-word file at x image is = record {
  bytes = are_bytes-word file at x image is.bytes;
  has_header = let same = length-after_write image file Index at (word_bytes x) in let header = is.has_header in omega (arith, same, header);
}

writable-words : (file : File) (ws : List (ℕ × ℕ)) (image : Image) → IsWritable image → Along IsWritable image (word_steps file ws)
unfolding word_step
writable-words file [] image is = is
writable-words file (w ∷ ws) image is = (is, writable-words file ws (applied (Word file w.0 (word_bytes w.1)) image) (writable-word file w.0 w.1 image is))

writable-update : (w : ℕ) (changes : List (ℕ × ℕ)) (seal : ℕ) (image : Image) → IsWritable image → Along IsWritable image (update_steps w changes seal)
unfolding update_steps
writable-update w changes seal image is = writable-words (Block (file_selector w)) (placed (place w) (update_words (seal_place w) changes seal)) image is

pub writable-sealed : (w : ℕ) (changes : List (ℕ × ℕ)) (image : Image) → IsWritable image → Along IsWritable image (sealed_steps image w changes)
writable-sealed w changes image is = writable-update w changes (new_seal image w changes) image is

writable-index : (at x : ℕ) (image : Image) → IsWritable image → Along IsWritable image (word_step Index at x)
unfolding word_step
writable-index at x image is = (is, writable-word Index at x image is)

writable-write : (write : ListWrite) (image : Image) → IsWritable image → Along IsWritable image (write_steps write image)
unfolding write_steps
writable-write (Next w x) image is = writable-sealed w ((16, x) ∷ []) image is
writable-write (Prev w x) image is = writable-sealed w ((20, x) ∷ []) image is
writable-write (Head x) image is = writable-index 288 x image is
writable-write (Tail x) image is = writable-index 308 x image is
writable-write (Transaction x) image is = writable-index 328 x image is
writable-write (Operation x) image is = writable-index 332 x image is

pub writable-after : (write : ListWrite) (image : Image) → IsWritable image → IsWritable (after (write_steps write image) image)
writable-after write image is = until_last IsWritable IsWritable (write_steps write image) image (writable-write write image is)

pub writes-go_on : WritesCanGoOn
writes-go_on image [] is = is
writes-go_on image (write ∷ writes) is =
    until-append IsWritable IsWritable (write_steps write image) (steps_of_writes writes (after (write_steps write image) image)) image (writable-write write image is)
    (writes-go_on (after (write_steps write image) image) writes (writable-after write image is))

-- none of the writes is made
pub nothing_made : (writes : List ListWrite) (image : Image) → IsPartly image writes image
nothing_made writes image = record { made = 0; within = omega arith; shown = subst (λ (ws : List ListWrite). OnlyListChanges ws image image) (sym (take_none writes)) (changes-begin image); outside = outside-refl (touched_by_writes writes) image; headers = headers-kept image }
  where
    take_none : (writes : List ListWrite) → take 0 writes ≡ []
    take_none [] = refl
    take_none (w ∷ ws) = refl

-- a node that is there and whose checksum is right or absent
pub record IsGood (image : Image) (w : ℕ) : Type 0 where
  pub small : w < 2 ^ 32
  pub kind : kind_of w ≡ rankings
  pub stands : stands_in image w ≡ true
  pub fits : place w + record_size w ≤ length_of image (Block (file_selector w))
  pub checks : RecordChecks w image

pub stands-small : (image : Image) (w : ℕ) → stands_in image w ≡ true → w < 2 ^ 32
unfolding is_address
stands-small image w st = initialized-fits w (and_parts (is_initialized w) (names_external w || names_blocks w) (stands-address image w st)).0

stands-inside : (image : Image) (w : ℕ) → stands_in image w ≡ true → kind_of w ≡ rankings → place w + byte_size w ≤ length_of image (Block (file_selector w))
unfolding stands_as_blocks
stands-inside image w st kind =
    leb-true _ _ (and_parts (is_linked_as (linked_as image (file_selector w)) (kind_of w) && nat_le (first_block w + block_count w) (max_entries_in image (file_selector w))) _ (stands-blocks image w st (λ e. node_apart (sym kind ∙ e)))).1

pub checked-small : (image : Image) (w : ℕ) → (list_of image).checks w ≡ true → w < 2 ^ 32
checked-small image w good = stands-small image w (standing-parts image rankings w (good-stands image w good)).0

pub checked-kind : (image : Image) (w : ℕ) → (list_of image).checks w ≡ true → kind_of w ≡ rankings
checked-kind image w good = (standing-parts image rankings w (good-stands image w good)).1

pub good-node : (image : Image) (w : ℕ) → IsWritable image → (list_of image).checks w ≡ true → IsGood image w
good-node image w ready good =
    let p = standing-parts image rankings w (good-stands image w good) in
    let room = stands-inside image w p.0 p.1 in
    let inside = record_inside w (inl p.1) in
    record { small = stands-small image w p.0; kind = p.1; stands = p.0; fits = omega (arith, byte_size, inside); checks = record_checks image w ready.bytes p.1 good }

-- one write at each of its words, and what it leaves
pub record WriteShows (from : Image) (write : ListWrite) : Type 0 where
  pub along : Along (IsPartly from (write ∷ [])) from (write_steps write from)
  pub ends : OnlyListChanges (write ∷ []) from (after (write_steps write from) from)

-- a word of the index
index_word : (at x : ℕ) (write : ℕ → ListWrite) (from : Image) → IsWritable from → x < 2 ^ 32 → at + 4 ≤ 368 → at % 4 ≡ 0 → is_among checked_words at ≡ false → IsListWord at write
    → touched_by_write (write x) ≡ one_word Index at → Along (IsPartly from (write x ∷ [])) from (word_step Index at x) × OnlyListChanges (write x ∷ []) from (after (word_step Index at x) from)
unfolding word_step
index_word at x write from ready small inside aligned free law touched =
    let new : Image = applied (Word Index at (word_bytes x)) from in
    let out : SameOutside (one_word Index at) from new = outside_write Index at (word_bytes x) from in
    let header = ready.has_header in
    let shown : OnlyListChanges (write x ∷ []) from new = law from new x (record { there = word-after_same from Index at x small (omega (arith, inside, header)); outside = out }) in
    let last : IsPartly from (write x ∷ []) new = record {
      made = 1;
      within = omega arith;
      shown = shown;
      outside = subst (λ (F : Footprint). SameOutside (either F nothing) from new) (sym touched) (outside_wider (one_word Index at) (either (one_word Index at) nothing) from new (within_left (one_word Index at) nothing) out);
      headers = others-unchecked from new at aligned free out;
    } in
    ((nothing_made (write x ∷ []) from, last), shown)

-- a link of a node
link_word : (w p x : ℕ) (write : ListWrite) (from : Image) → IsWritable from → (list_of from).checks w ≡ true → p + 4 ≤ 32
    → ((image : Image) (moment : IsMidUpdate from w ((p, x) ∷ []) image) → OnlyListChanges (take moment.made (write ∷ [])) from image) → touched_by_write write ≡ record_range w
    → Along (IsPartly from (write ∷ [])) from (sealed_steps from w ((p, x) ∷ [])) × OnlyListChanges (write ∷ []) from (after (sealed_steps from w ((p, x) ∷ [])) from)
link_word w p x write from ready good inside law touched =
    let node = good-node from w ready good in
    let seal = node_seal w node.kind in
    let changes : List (ℕ × ℕ) = (p, x) ∷ [] in
    let steps : List TrailStep = sealed_steps from w changes in
    let all : All (λ c. c.0 + 4 ≤ seal_place w) changes = All-cons (λ c. c.0 + 4 ≤ seal_place w) (p, x) [] (omega (arith, inside, seal)) (All-nil (λ c. c.0 + 4 ≤ seal_place w)) in
    let each : Along (IsMidUpdate from w changes) from steps = moments w from changes node.fits node.checks all in
    let part : (image : Image) → IsMidUpdate from w changes image → IsPartly from (write ∷ []) image = λ image moment. record {
      made = moment.made;
      within = moment.within;
      shown = law image moment;
      outside = subst (λ (F : Footprint). SameOutside (either F nothing) from image) (sym touched) (outside_wider (record_range w) (either (record_range w) nothing) from image (within_left (record_range w) nothing) moment.outside);
      headers = (updates-inside from image w changes node.stands (inl node.kind) moment).headers;
    } in
    let new : Image = after steps from in
    let last : IsMidUpdate from w changes new = until_last (IsMidUpdate from w changes) (IsMidUpdate from w changes) steps from each in
    let done : IsUpdated from w changes new = updated w from changes node.fits in
    let full : IsMidUpdate from w changes new = record {
      made = 1;
      within = omega arith;
      fields = ap (take (seal_place w)) done ∙ take-before_word (seal_place w) _ (with_words changes (record_at from w));
      checks = last.checks;
      outside = last.outside;
    } in
    (until_weaker2 (IsMidUpdate from w changes) (IsPartly from (write ∷ [])) (IsMidUpdate from w changes) (IsPartly from (write ∷ [])) steps from part part each, law new full)

pub one_write : (write : ListWrite) (from : Image) → IsWritable from → CanBeMade from (write ∷ []) → WriteShows from write
unfolding write_steps touched_by_write
one_write (Next w x) from ready can =
    let r = link_word w 16 x (Next w x) from ready can.nodes.0 (omega arith) (λ image moment. nexts-written from image w x (record { good = can.nodes.0; bytes = ready.bytes }) can.words.0 moment) refl in
    record { along = r.0; ends = r.1 }
one_write (Prev w x) from ready can =
    let r = link_word w 20 x (Prev w x) from ready can.nodes.0 (omega arith) (λ image moment. prevs-written from image w x (record { good = can.nodes.0; bytes = ready.bytes }) can.words.0 moment) refl in
    record { along = r.0; ends = r.1 }
one_write (Head x) from ready can = let r = index_word 288 x Head from ready can.words.0 (omega arith) refl refl heads-written refl in record { along = r.0; ends = r.1 }
one_write (Tail x) from ready can = let r = index_word 308 x Tail from ready can.words.0 (omega arith) refl refl tails-written refl in record { along = r.0; ends = r.1 }
one_write (Transaction x) from ready can = let r = index_word 328 x Transaction from ready can.words.0 (omega arith) refl refl transactions-written refl in record { along = r.0; ends = r.1 }
one_write (Operation x) from ready can = let r = index_word 332 x Operation from ready can.words.0 (omega arith) refl refl operations-written refl in record { along = r.0; ends = r.1 }

-- a prefix of the first write is a prefix of all
front_of : (made : ℕ) (write : ListWrite) (writes : List ListWrite) → made ≤ 1 → take made (write ∷ []) ≡ take made (write ∷ writes)
front_of zero write writes low = refl
front_of (suc zero) write writes low = ap (λ (ws : List ListWrite). write ∷ ws) (sym (take_none writes))
  where
    take_none : (writes : List ListWrite) → take 0 writes ≡ []
    take_none [] = refl
    take_none (w ∷ ws) = refl
front_of (suc (suc made)) write writes low = absurd (omega arith)

first_part : (from : Image) (write : ListWrite) (writes : List ListWrite) (image : Image) → IsPartly from (write ∷ []) image → IsPartly from (write ∷ writes) image
first_part from write writes image part = record {
  made = part.made;
  within = omega (arith, part.within);
  shown = subst (λ (ws : List ListWrite). OnlyListChanges ws from image) (front_of part.made write writes part.within) part.shown;
  outside = outside_wider (either (touched_by_write write) nothing) (touched_by_writes (write ∷ writes)) from image (within_both (touched_by_write write) nothing (touched_by_writes (write ∷ writes)) (within_left (touched_by_write write) (touched_by_writes writes)) (nothing_in (touched_by_writes (write ∷ writes)))) part.outside;
  headers = part.headers;
}
  where
    clash : false ≡ true → ⊥
    clash e = cc

    nothing_in : (F : Footprint) → IsWithin nothing F
    nothing_in F = record { bytes = λ file i e. absurd (clash e); sizes = λ file e. absurd (clash e) }

later_part : (from between : Image) (write : ListWrite) (writes : List ListWrite) → IsPartly from (write ∷ []) between → OnlyListChanges (write ∷ []) from between → (image : Image) → IsPartly between writes image → IsPartly from (write ∷ writes) image
later_part from between write writes first shown image part =
    let whole = touched_by_writes (write ∷ writes) in
    record {
      made = suc part.made;
      within = omega (arith, part.within);
      shown = changes-add (write ∷ []) (take part.made writes) from between image shown part.shown;
      outside = outside-trans whole from between image (first_part from write writes between first).outside (outside_wider (touched_by_writes writes) whole between image (within_right (touched_by_write write) (touched_by_writes writes)) part.outside);
      headers = headers-next from between image first.headers part.headers;
    }

-- the same nodes as before have a right or absent checksum
pub still_check : (writes : List ListWrite) (from between : Image) → OnlyListChanges writes from between → (list_of between).checks ≡ (list_of from).checks
still_check writes from between shown = ap (λ (l : ListView). l.checks) shown.list ∙ checks_stay writes (list_of from)

pub rest_can : (from between : Image) (write : ListWrite) (writes : List ListWrite) → OnlyListChanges (write ∷ []) from between → CanBeMade from (write ∷ writes) → CanBeMade between writes
rest_can from between write writes shown can = record {
  nodes = subst (λ (checks : ℕ → Bool). AreOf (λ n. checks n ≡ true) writes) (sym (still_check (write ∷ []) from between shown)) (rest_of write writes (λ n. (list_of from).checks n ≡ true) can.nodes);
  words = can.words.1;
}
  where
    rest_of : (write : ListWrite) (writes : List ListWrite) (P : ℕ → Type 0) → AreOf P (write ∷ writes) → AreOf P writes
    rest_of (Next n x) ws P h = h.1
    rest_of (Prev n x) ws P h = h.1
    rest_of (Head x) ws P h = h
    rest_of (Tail x) ws P h = h
    rest_of (Transaction x) ws P h = h
    rest_of (Operation x) ws P h = h

pub first_can : (from : Image) (write : ListWrite) (writes : List ListWrite) → CanBeMade from (write ∷ writes) → CanBeMade from (write ∷ [])
first_can from write writes can = record { nodes = first_of write writes (λ n. (list_of from).checks n ≡ true) can.nodes; words = (can.words.0, tt) }
  where
    first_of : (write : ListWrite) (writes : List ListWrite) (P : ℕ → Type 0) → AreOf P (write ∷ writes) → AreOf P (write ∷ [])
    first_of (Next n x) ws P h = (h.0, tt)
    first_of (Prev n x) ws P h = (h.0, tt)
    first_of (Head x) ws P h = tt
    first_of (Tail x) ws P h = tt
    first_of (Transaction x) ws P h = tt
    first_of (Operation x) ws P h = tt

-- writes at each of their words, and what they leave
pub record WritesShow (from : Image) (writes : List ListWrite) : Type 0 where
  pub along : Along (IsPartly from writes) from (steps_of_writes writes from)
  pub ends : OnlyListChanges writes from (after (steps_of_writes writes from) from)

pub writes_show : (writes : List ListWrite) (from : Image) → IsWritable from → CanBeMade from writes → WritesShow from writes
writes_show [] from ready can = record { along = nothing_made [] from; ends = changes-begin from }
writes_show (write ∷ writes) from ready can =
    let first = one_write write from ready (first_can from write writes can) in
    let steps : List TrailStep = write_steps write from in
    let between : Image = after steps from in
    let rest = writes_show writes between (writable-after write from ready) (rest_can from between write writes first.ends can) in
    let P : Image → Type 0 = IsPartly from (write ∷ writes) in
    let one : Image → Type 0 = IsPartly from (write ∷ []) in
    let more : Image → Type 0 = IsPartly between writes in
    let here : one between = until_last one one steps from first.along in
    let joined : after (steps_of_writes (write ∷ writes) from) from ≡ after (steps_of_writes writes between) between = after-append steps (steps_of_writes writes between) from in
    record {
      along = until-append P P steps (steps_of_writes writes between) from
          (until_weaker2 one P one P steps from (first_part from write writes) (first_part from write writes) first.along)
          (until_weaker2 more P more P (steps_of_writes writes between) between (later_part from between write writes here first.ends) (later_part from between write writes here first.ends) rest.along);
      ends = subst (λ (i : Image). OnlyListChanges (write ∷ writes) from i) (sym joined) (changes-add (write ∷ []) writes from between _ first.ends rest.ends);
    }

pub writes-in_turn : WritesAreMadeInTurn
writes-in_turn image writes ready can = (writes_show writes image ready can).along

pub writes-made : WritesAreMade
writes-made image writes ready can = (writes_show writes image ready can).ends

pub writable-writes : (writes : List ListWrite) (image : Image) → IsWritable image → IsWritable (after (steps_of_writes writes image) image)
writable-writes writes image is = until_last IsWritable IsWritable (steps_of_writes writes image) image (writes-go_on image writes is)

-- each step is one that a command may make
pub quiet-sealed : (image : Image) (w : ℕ) (changes : List (ℕ × ℕ)) → IsQuiet (sealed_steps image w changes)
unfolding update_steps
quiet-sealed image w changes = quiet-word_steps (Block (file_selector w)) (placed (place w) (update_words (seal_place w) changes (new_seal image w changes))) tt

quiet-write : (write : ListWrite) (image : Image) → IsQuiet (write_steps write image)
unfolding write_steps
quiet-write (Next w x) image = quiet-sealed image w ((16, x) ∷ [])
quiet-write (Prev w x) image = quiet-sealed image w ((20, x) ∷ [])
quiet-write (Head x) image = quiet-word_step Index 288 x refl
quiet-write (Tail x) image = quiet-word_step Index 308 x refl
quiet-write (Transaction x) image = quiet-word_step Index 328 x refl
quiet-write (Operation x) image = quiet-word_step Index 332 x refl

pub quiet-writes : (writes : List ListWrite) (image : Image) → IsQuiet (steps_of_writes writes image)
quiet-writes [] image = tt
quiet-writes (write ∷ writes) image = quiet-append (write_steps write image) (steps_of_writes writes (after (write_steps write image) image)) (quiet-write write image) (quiet-writes writes (after (write_steps write image) image))
