-- Records that have their checksums keep them, through one update after another.
use Rattle.std.proofs.Common.{None, Some, inl, ◌≢◌, ◌%◌, All, Option, ◌≡◌, ◌⊎◌, ⊎_elim, ℕ, ◌+◌, ◌*◌, ◌<◌, ◌≤◌, Bool, true, false, List, [], ◌∷◌, refl, ap, ap₂, sym, ◌∙◌, subst, arith}
use Rattle.std.specs.Prelude.{◌==◌, ◌&&◌, nat_le, nat_lt}
use Rattle.std.proofs.lemmas.Bool.{eq-eqb, eqb-true, and_left, and_right}
use Rattle.std.proofs.lemmas.Bool.Decides.{nat_tests}
use Rattle.std.proofs.lemmas.List.Elements.{All-nil}
use Rattle.spec_image.specs.Bytes.{content, range_at}
use Rattle.spec_image.specs.Image.{Block, Image, byte}
use Rattle.spec_image.specs.Footprint.{SameOutside}
use Rattle.spec_image.proofs.Runs.{some_inj}
use Rattle.spec_image.proofs.Words.{same-range}
use Rattle.spec_format.specs.Address.{kind_of, file_selector, first_block, place, rankings, blocks_256, external}
use Rattle.spec_format.specs.BlockFiles.{linked_as, stands_in}
use Rattle.spec_format.specs.Sealed.{BeginsWithRecord, IsUpdated, is_sealed, record_at, record_range, record_size, seal_by_kind, seal_place, size_by_kind}
use Rattle.spec_format.proofs.SealedFields.{updated_seal}
use Rattle.spec_format.proofs.SealedRecords.{node_seal, node_bytes, entry_bytes}
use Rattle.law_folder.proofs.claims.ByteChanges.{stands-linked}
use Rattle.law_folder.proofs.chains.ChainWords.{record-at}
use Rattle.spec_image.specs.Image.{External}
use Rattle.spec_image.specs.Footprint.{range, whole}
use Rattle.spec_image.specs.Steps.{Delete}
use Rattle.spec_format.proofs.SpareHeaders.{SparesHeaders, blocks_spare}
use Rattle.law_folder.proofs.updates.Sealing.{node_at_place, range_apart}
use Rattle.spec_image.specs.Image.{Index}
use Rattle.spec_image.specs.Steps.{TrailStep, Word, word_step, applied, after}
use Rattle.spec_image.specs.Bytes.{word_bytes}
use Rattle.spec_image.specs.Footprint.{one_word}
use Rattle.spec_image.proofs.Cuts.{after-append}
use Rattle.spec_image.proofs.Footprints.{outside_write, same_file_outside}
use Rattle.spec_image.proofs.Runs.{until_last}
use Rattle.spec_format.specs.Address.{block_count, byte_size}
use Rattle.spec_format.specs.BlockFiles.{max_entries_in}
use Rattle.spec_format.specs.Standing.{is_linked_as, stands_as_blocks}
use Rattle.spec_format.specs.Sealed.{AreChanges, IsMidUpdate, RecordChecks, sealed_steps}
use Rattle.spec_format.proofs.SealedRecords.{moments, updated, record_inside}
use Rattle.spec_folder.specs.ListView.{ListWrite, Next, Prev, Head, Tail, Transaction, Operation}
use Rattle.spec_folder.specs.ListSteps.{steps_of_writes, write_steps}
use Rattle.spec_folder.specs.ListImages.{IsWritable, CanBeMade}
use Rattle.spec_folder.specs.View.{list_of}
use Rattle.std.proofs.lemmas.Bool.{and_parts, leb-true}
use Rattle.std.proofs.lemmas.List.Elements.{All-cons}
use Rattle.std.specs.Option.{unwrap_or}
use Rattle.spec_image.specs.Image.{length_of}
use Rattle.law_folder.proofs.claims.ByteChanges.{stands-blocks}
use Rattle.law_folder.proofs.updates.IndexWords.{stands-still}
use Rattle.law_folder.proofs.claims.Inside.{updates-inside}
use Rattle.law_folder.proofs.updates.NodeRecords as nodes
use Rattle.law_folder.proofs.updates.Nodes.{good-stands}
use Rattle.law_folder.proofs.updates.StillShown.{standing-parts}
use Rattle.law_folder.proofs.lists.WriteSteps.{first_can, one_write, rest_can, writable-after}
use Rattle.law_recovery.specs.RecordSeals.{GrowthLeavesSeals, UnlinkedFilesLeaveSeals, ExternalFilesLeaveSeals, RecordsAreBehindHeaders, IndexWordsAreBehindHeaders, IsSealedAt, KeepsRecordsSealed, SealsAreMade, SealsStand}

-- ---- one checksum

seal-made : (from image : Image) (w : ℕ) (changes : List (ℕ × ℕ)) → AreChanges (seal_place w) changes → IsUpdated from w changes image → IsSealedAt image w
seal-made from image w changes are done = eq-eqb _ _ (updated_seal from image w changes are done)

no-changes : (seal : ℕ) → AreChanges seal []
no-changes seal = record { few = omega arith; aligned = All-nil _; before = All-nil _; different = tt }

pub seals-made : SealsAreMade
seals-made from image w done = seal-made from image w [] (no-changes (seal_place w)) done

module _ (from image : Image) (w u : ℕ) (stands_w : stands_in from w ≡ true) (kind_w : BeginsWithRecord w) (stands_u : stands_in from u ≡ true) (kind_u : BeginsWithRecord u)
    (changes : List (ℕ × ℕ)) (are : AreChanges (seal_place w) changes) (done : IsUpdated from w changes image) (outside : SameOutside (record_range w) from image) (was : IsSealedAt from u) where
  not-external : (v : ℕ) → BeginsWithRecord v → kind_of v ≡ external → ⊥
  not-external v kind e = ⊎_elim (λ (k : kind_of v ≡ rankings). omega (arith, e, k)) (λ (k : kind_of v ≡ blocks_256). omega (arith, e, k)) kind

  one-kind : file_selector u ≡ file_selector w → kind_of u ≡ kind_of w
  one-kind file = some_inj (sym (stands-linked from u stands_u (not-external u kind_u)) ∙ ap (linked_as from) file ∙ stands-linked from w stands_w (not-external w kind_w))

  at_others : ((i : ℕ) → place u ≤ i → i < place u + record_size u → (record_range w).bytes (Block (file_selector u)) i ≡ false) → IsSealedAt image u
  unfolding record_at
  at_others apart =
      let same : record_at image u ≡ record_at from u = same-range (record_size u) (place u) (byte image (Block (file_selector u))) (byte from (Block (file_selector u))) (λ i low high. outside.bytes (Block (file_selector u)) i (apart i low high)) in
      ap (is_sealed (seal_place u)) same ∙ was

  at_one_place : file_selector u ≡ file_selector w → place u ≡ place w → IsSealedAt image u
  unfolding record_at
  at_one_place file same =
      let kind : kind_of u ≡ kind_of w = one-kind file in
      let bytes : record_at image u ≡ record_at image w = ap₂ (λ (f p : ℕ). range_at (byte image (Block f)) p (record_size u)) file same ∙ ap (λ (k : ℕ). range_at (byte image (Block (file_selector w))) (place w) (size_by_kind k)) kind in
      ap₂ is_sealed (ap seal_by_kind kind) bytes ∙ seal-made from image w changes are done

  -- records of one kind at two places don't meet
  node-places : (x y p q : ℕ) → (x == y) ≡ false → p ≡ 8192 + x * 36 → q ≡ 8192 + y * 36 → (q + 36 ≤ p) ⊎ (p + 36 ≤ q)
  node-places x y p q e a b = grind (arith, nat_tests)

  entry-places : (x y p q : ℕ) → (x == y) ≡ false → p ≡ 8192 + x * 256 → q ≡ 8192 + y * 256 → (q + 96 ≤ p) ⊎ (p + 96 ≤ q)
  entry-places x y p q e a b = grind (arith, nat_tests)

  by_place : (t : Bool) → (first_block u == first_block w) ≡ t → file_selector u ≡ file_selector w → IsSealedAt image u
  by_place t e file = ⊎_elim (λ (k : kind_of w ≡ rankings). nodes t e k (one-kind file ∙ k)) (λ (k : kind_of w ≡ blocks_256). entries t e k (one-kind file ∙ k)) kind_w where
    nodes : (t : Bool) → (first_block u == first_block w) ≡ t → kind_of w ≡ rankings → kind_of u ≡ rankings → IsSealedAt image u
    nodes true e k l = at_one_place file (node_at_place u l ∙ ap (λ (n : ℕ). 8192 + n * 36) (eqb-true (first_block u) (first_block w) e) ∙ sym (node_at_place w k))
    nodes false e k l = at_others (λ i low high. and_right _ _
        (subst (λ (n : ℕ). (nat_le (place w) i && nat_lt i (place w + n)) ≡ false) (sym (node_bytes w k))
        (range_apart (place u) (place w) 36 i (node-places (first_block u) (first_block w) (place u) (place w) e (node_at_place u l) (node_at_place w k)) low (let m = node_bytes u l in omega (arith, high, m)))))

    entries : (t : Bool) → (first_block u == first_block w) ≡ t → kind_of w ≡ blocks_256 → kind_of u ≡ blocks_256 → IsSealedAt image u
    entries true e k l = at_one_place file (record-at u l ∙ ap (λ (n : ℕ). 8192 + n * 256) (eqb-true (first_block u) (first_block w) e) ∙ sym (record-at w k))
    entries false e k l = at_others (λ i low high. and_right _ _
        (subst (λ (n : ℕ). (nat_le (place w) i && nat_lt i (place w + n)) ≡ false) (sym (entry_bytes w k))
        (range_apart (place u) (place w) 96 i (entry-places (first_block u) (first_block w) (place u) (place w) e (record-at u l) (record-at w k)) low (let m = entry_bytes u l in omega (arith, high, m)))))

  by_file : (t : Bool) → (file_selector w == file_selector u) ≡ t → IsSealedAt image u
  by_file true e = by_place (first_block u == first_block w) refl (sym (eqb-true (file_selector w) (file_selector u) e))
  by_file false e = at_others (λ i low high. and_left _ _ e)

  stands-sealed : IsSealedAt image u
  stands-sealed = by_file (file_selector w == file_selector u) refl

pub seals-stand : SealsStand
seals-stand from image w other stands_w kind_w stands_o kind_o done outside was = stands-sealed from image w other stands_w kind_w stands_o kind_o [] (no-changes (seal_place w)) done outside was

-- ---- one update, or a word of the index

pub keeps-none : (image : Image) → KeepsRecordsSealed image image
keeps-none image = record { stands = λ u. refl; sealed = λ u st begins was. was }

pub keeps-more : (a b c : Image) → KeepsRecordsSealed a b → KeepsRecordsSealed b c → KeepsRecordsSealed a c
keeps-more a b c p q = record { stands = λ u. q.stands u ∙ p.stands u; sealed = λ u st begins was. q.sealed u (p.stands u ∙ st) begins (p.sealed u st begins was) }

no-external : (w : ℕ) → BeginsWithRecord w → kind_of w ≢ external
no-external w begins e = ⊎_elim (λ (k : kind_of w ≡ rankings). omega (arith, e, k)) (λ (k : kind_of w ≡ blocks_256). omega (arith, e, k)) begins

-- the record of a valid word lies in its file
pub record-fits : (image : Image) (w : ℕ) → stands_in image w ≡ true → BeginsWithRecord w → place w + record_size w ≤ length_of image (Block (file_selector w))
unfolding stands_as_blocks
record-fits image w st begins =
    let inside : place w + byte_size w ≤ length_of image (Block (file_selector w)) =
    leb-true _ _ (and_parts (is_linked_as (linked_as image (file_selector w)) (kind_of w) && nat_le (first_block w + block_count w) (max_entries_in image (file_selector w))) _ (stands-blocks image w st (no-external w begins))).1 in
    let small = record_inside w begins in
    omega (arith, inside, small)

pub update-keeps : (from : Image) (w : ℕ) (changes : List (ℕ × ℕ)) → stands_in from w ≡ true → BeginsWithRecord w → RecordChecks w from → AreChanges (seal_place w) changes → All (λ c. c.0 + 4 ≤ seal_place w) changes → KeepsRecordsSealed from (after (sealed_steps from w changes) from)
update-keeps from w changes st begins checks are inside =
    let fits = record-fits from w st begins in
    let image : Image = after (sealed_steps from w changes) from in
    let M : Image → Type 0 = IsMidUpdate from w changes in
    let last : M image = until_last M M (sealed_steps from w changes) from (moments w from changes fits checks inside) in
    record {
      stands = (updates-inside from image w changes st begins last).stands;
      sealed = λ u st_u begins_u was. stands-sealed from image w u st begins st_u begins_u changes are (updated w from changes fits) last.outside was;
    }

pub word-keeps : (from : Image) (at x : ℕ) → KeepsRecordsSealed from (after (word_step Index at x) from)
unfolding word_step record_at
word-keeps from at x =
    let image : Image = applied (Word Index at (word_bytes x)) from in
    let outside : SameOutside (one_word Index at) from image = outside_write Index at (word_bytes x) from in
    record {
      stands = stands-still from image at outside;
      sealed = λ u st begins was. ap (λ (o : Option (List ℕ)). is_sealed (seal_place u) (range_at (content (unwrap_or o [])) (place u) (record_size u))) (same_file_outside (one_word Index at) from image (Block (file_selector u)) outside (λ i. refl) refl) ∙ was;
    }

-- ---- writes into the list

link-keeps : (from : Image) → IsWritable from → (w p x : ℕ) → (list_of from).checks w ≡ true → p % 4 ≡ 0 → p + 4 ≤ 32 → KeepsRecordsSealed from (after (sealed_steps from w ((p, x) ∷ [])) from)
link-keeps from ready w p x good aligned inside =
    let parts = standing-parts from rankings w (good-stands from w good) in
    let seal = node_seal w parts.1 in
    update-keeps from w ((p, x) ∷ []) parts.0 (inl parts.1) (nodes.record_checks from w ready.bytes parts.1 good) (nodes.one_change w p x parts.1 aligned (omega (arith, inside)))
    (All-cons (λ c. c.0 + 4 ≤ seal_place w) (p, x) [] (omega (arith, inside, seal)) (All-nil (λ c. c.0 + 4 ≤ seal_place w)))

write-keeps : (write : ListWrite) (from : Image) → IsWritable from → CanBeMade from (write ∷ []) → KeepsRecordsSealed from (after (write_steps write from) from)
unfolding write_steps
write-keeps (Next w x) from ready can = link-keeps from ready w 16 x can.nodes.0 refl (omega arith)
write-keeps (Prev w x) from ready can = link-keeps from ready w 20 x can.nodes.0 refl (omega arith)
write-keeps (Head x) from ready can = word-keeps from 288 x
write-keeps (Tail x) from ready can = word-keeps from 308 x
write-keeps (Transaction x) from ready can = word-keeps from 328 x
write-keeps (Operation x) from ready can = word-keeps from 332 x

pub writes-keep : (writes : List ListWrite) (from : Image) → IsWritable from → CanBeMade from writes → KeepsRecordsSealed from (after (steps_of_writes writes from) from)
writes-keep [] from ready can = keeps-none from
writes-keep (write ∷ writes) from ready can =
    let one = first_can from write writes can in
    let shows = one_write write from ready one in
    let steps : List TrailStep = write_steps write from in
    let between : Image = after steps from in
    let ready_between : IsWritable between = writable-after write from ready in
    let rest = writes-keep writes between ready_between (rest_can from between write writes shows.ends can) in
    subst (KeepsRecordsSealed from) (sym (after-append steps (steps_of_writes writes between) from)) (keeps-more from between (after (steps_of_writes writes between) between) (write-keeps write from ready one) rest)

-- ---- growth and files that are deleted

-- a record whose bytes are the same keeps its checksum
pub same-sealed : (from image : Image) (w : ℕ) → ((i : ℕ) → place w ≤ i → i < place w + record_size w → byte image (Block (file_selector w)) i ≡ byte from (Block (file_selector w)) i) → IsSealedAt from w → IsSealedAt image w
unfolding record_at
same-sealed from image w same was =
    ap (is_sealed (seal_place w)) (same-range (record_size w) (place w) (byte image (Block (file_selector w))) (byte from (Block (file_selector w))) same) ∙ was

place-behind : (w : ℕ) → BeginsWithRecord w → 8192 ≤ place w
place-behind w begins = ⊎_elim (λ (k : kind_of w ≡ rankings). let a = node_at_place w k in omega (arith, a)) (λ (k : kind_of w ≡ blocks_256). let a = record-at w k in omega (arith, a)) begins

pub linked-of : (from : Image) (w : ℕ) → stands_in from w ≡ true → BeginsWithRecord w → linked_as from (file_selector w) ≡ Some (kind_of w)
linked-of from w st begins = stands-linked from w st (no-external w begins)

pub growth-leaves : GrowthLeavesSeals
growth-leaves from image grown w st begins was =
    same-sealed from image w (λ i low high. grown.bytes (file_selector w) (kind_of w) i (linked-of from w st begins) (let a = place-behind w begins in omega (arith, a, low)) (let a = record-fits from w st begins in omega (arith, a, high))) was

pub unlinked-leaves : UnlinkedFilesLeaveSeals
unlinked-leaves from n free w st begins was =
    same-sealed from (applied (Delete (Block n)) from) w (λ i low high. other (n == file_selector w) refl i) was where
      clash : {kind : ℕ} → ◌≡◌ {A = Option ℕ} None (Some kind) → ⊥
      clash e = cc

      other : (t : Bool) → (n == file_selector w) ≡ t → (i : ℕ) → byte (applied (Delete (Block n)) from) (Block (file_selector w)) i ≡ byte from (Block (file_selector w)) i
      other true e i = absurd (clash (sym free ∙ ap (linked_as from) (eqb-true n (file_selector w) e) ∙ linked-of from w st begins))
      other false e i = ap (λ (o : Option (List ℕ)). content (unwrap_or o []) i) (same e) where
        same : (n == file_selector w) ≡ false → applied (Delete (Block n)) from (Block (file_selector w)) ≡ from (Block (file_selector w))
        same e = rw e refl

pub external-leaves_seals : ExternalFilesLeaveSeals
external-leaves_seals from image n outside w st begins was =
    same-sealed from image w (λ i low high. ap (λ (o : Option (List ℕ)). content (unwrap_or o []) i) (same_file_outside (whole (External n)) from image (Block (file_selector w)) outside (λ i. refl) refl)) was

pub records-behind : RecordsAreBehindHeaders
records-behind w = record {
  bytes = λ n i small. (subst (λ (at : ℕ). SparesHeaders (range (Block (file_selector w)) at (record_size w))) (let e : place w + 0 ≡ place w = omega arith in e) (blocks_spare (Block (file_selector w)) w 0 (record_size w))).bytes n i small;
  sizes = λ file. refl;
}

pub words-behind : IndexWordsAreBehindHeaders
words-behind at = record { bytes = λ n i small. refl; sizes = λ file. refl }
