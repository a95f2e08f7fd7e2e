-- Checksums of nodes: each node that is written into the list has its own in the end, and the others keep theirs.
use Rattle.std.proofs.Common.{◌≡◌, ◌⊎◌, ℕ, ◌+◌, ◌*◌, ◌%◌, ◌/◌, ◌^◌, ◌≤◌, ◌<◌, Bool, true, false, List, [], ◌∷◌, ◌++◌, All, take, refl, ap, ap₂, sym, ◌∙◌, subst, arith}
use Rattle.std.specs.Prelude.{◌==◌, ◌&&◌, nat_le, nat_lt}
use Rattle.std.proofs.lemmas.Bool.{eq-eqb, eqb-true, and_left, and_right}
use Rattle.std.proofs.lemmas.Bool.Decides.{nat_tests}
use Rattle.std.proofs.lemmas.List.Elements.{All-nil, All-cons}
use Rattle.spec_image.specs.Bytes.{content, word_at, range_at, word_bytes}
use Rattle.spec_image.specs.Image.{Index, Block, Image, AreBytes, byte}
use Rattle.spec_image.specs.Steps.{TrailStep, Word, after, applied, word_step}
use Rattle.spec_image.specs.Footprint.{Footprint, SameOutside, one_word}
use Rattle.spec_image.proofs.Cuts.{after-append}
use Rattle.spec_image.proofs.Footprints.{outside_write}
use Rattle.spec_image.proofs.Runs.{until_last}
use Rattle.spec_image.proofs.Words.{same-range}
use Rattle.spec_format.specs.Address.{kind_of, rankings, file_selector, first_block, place, block_place, block_size}
use Rattle.spec_format.specs.Hash.{hash}
use Rattle.spec_format.specs.Records.{node_in, node_body, node_is_sealed, seal_of}
use Rattle.spec_format.specs.Sealed.{AreChanges, IsMidUpdate, IsUpdated, record_at, record_range, record_size, seal_place, sealed_steps}
use Rattle.spec_format.proofs.Bodies.{node_body-in}
use Rattle.spec_format.proofs.SealedFields.{record_word, updated_seal}
use Rattle.spec_format.proofs.SealedRecords.{node_seal, node_bytes, moments, updated}
use Rattle.spec_folder.specs.ListView.{IsAtRest, ListWrite, Next, Prev, Head, Tail, Transaction, Operation}
use Rattle.spec_folder.specs.ListPlans.{touch_writes}
use Rattle.spec_folder.specs.View.{list_of, node_at}
use Rattle.spec_folder.specs.ListSteps.{AreOf, AreNodesSealed, IsSealed, KeepsSealed, Seals, steps_of_writes, times_of, touch_steps, write_steps}
use Rattle.spec_folder.specs.ListImages.{IsWritable, CanBeMade, steps_of_touch}
use Rattle.law_folder.specs.ListWords.{WritesSealTheirNodes, WritesKeepSeals, NodeUpdatesKeepSeals, TouchesSealTheirNodes, TouchesKeepSeals}
use Rattle.law_folder.proofs.lists.ListCompletions.{listed}
use Rattle.law_folder.proofs.updates.NodeRecords.{front_is, one_change, record_is}
use Rattle.law_folder.proofs.lists.WordTurns.{each, still_checks, times_are, touches-can}
use Rattle.law_folder.proofs.lists.WriteSteps.{good-node, checked-kind, first_can, one_write, rest_can, writable-after, writable-sealed, writable-writes}

-- a node has its checksum where the word of the checksum is the hash of the node's bytes before it
pub sealed_bytes : (image : Image) (w : ℕ) → AreBytes image → kind_of w ≡ rankings → node_is_sealed (node_at image w) ≡ (word_at (content (record_at image w)) 32 == hash (take 32 (record_at image w)))
unfolding node_is_sealed node_body node_in
sealed_bytes image w bytes kind =
    let f = byte image (Block (file_selector w)) in
    let p = place w in
    let size : 32 + 4 ≤ record_size w = omega (arith, node_bytes w kind) in
    ap (λ (body : List ℕ). word_at f (p + 32) == hash body) (node_body-in p f (bytes (Block (file_selector w))) ∙ sym (front_is f p) ∙ ap (take 32) (sym (record_is image w kind)))
    ∙ ap (λ (x : ℕ). x == hash (take 32 (record_at image w))) (sym (record_word image w 32 size))

-- as an update leaves it
updated_is_sealed : (from image : Image) (w : ℕ) (changes : List (ℕ × ℕ)) → AreBytes image → kind_of w ≡ rankings → AreChanges (seal_place w) changes → IsUpdated from w changes image → IsSealed image w
updated_is_sealed from image w changes bytes kind are done =
    let seal : word_at (content (record_at image w)) 32 ≡ seal_of 32 (record_at image w) = subst (λ (s : ℕ). word_at (content (record_at image w)) s ≡ seal_of s (record_at image w)) (node_seal w kind) (updated_seal from image w changes are done) in
    sealed_bytes image w bytes kind ∙ eq-eqb _ _ seal

-- a node with the same bytes as one that has its checksum has it too
pub same_record : (a b : Image) (u w : ℕ) → AreBytes a → AreBytes b → kind_of u ≡ rankings → kind_of w ≡ rankings → record_at b u ≡ record_at a w → IsSealed a w → IsSealed b u
same_record a b u w bytes_a bytes_b kind_u kind_w same is =
    sealed_bytes b u bytes_b kind_u ∙ ap (λ (l : List ℕ). word_at (content l) 32 == hash (take 32 l)) same ∙ sym (sealed_bytes a w bytes_a kind_w) ∙ is

-- a node whose bytes aren't touched keeps its checksum
stays_sealed : (F : Footprint) (from image : Image) (u : ℕ) → AreBytes from → AreBytes image → kind_of u ≡ rankings → SameOutside F from image
    → ((i : ℕ) → place u ≤ i → i < place u + record_size u → F.bytes (Block (file_selector u)) i ≡ false) → IsSealed from u → IsSealed image u
unfolding record_at
stays_sealed F from image u bytes_from bytes_image kind outside apart is =
    same_record from image u u bytes_from bytes_image kind kind
    (same-range (record_size u) (place u) (byte image (Block (file_selector u))) (byte from (Block (file_selector u))) (λ i low high. outside.bytes (Block (file_selector u)) i (apart i low high))) is

-- a word of the index touches no node
index_apart : (at : ℕ) (u i : ℕ) → (one_word Index at).bytes (Block (file_selector u)) i ≡ false
index_apart at u i = refl

-- two nodes are at one place, or apart
pub node_at_place : (w : ℕ) → kind_of w ≡ rankings → place w ≡ 8192 + first_block w * 36
unfolding place block_place block_size
node_at_place w kind = rw kind refl

pub range_apart : (p q n i : ℕ) → (q + n ≤ p) ⊎ (p + n ≤ q) → p ≤ i → i < p + n → (nat_le q i && nat_lt i (q + n)) ≡ false
range_apart p q n i apart low high = grind (arith, nat_tests)

-- the update of a node leaves the checksums of the others
module _ (from image : Image) (w u : ℕ) (changes : List (ℕ × ℕ)) (bytes_from : AreBytes from) (bytes_image : AreBytes image) (kind_w : kind_of w ≡ rankings) (kind_u : kind_of u ≡ rankings)
    (are : AreChanges (seal_place w) changes) (done : IsUpdated from w changes image) (outside : SameOutside (record_range w) from image) (is : IsSealed from u) where
  at_one_place : file_selector u ≡ file_selector w → place u ≡ place w → IsSealed image u
  unfolding record_at
  at_one_place file same =
      same_record image image u w bytes_image bytes_image kind_u kind_w
      (ap₂ (λ (f p : ℕ). range_at (byte image (Block f)) p (record_size u)) file same ∙ ap (range_at (byte image (Block (file_selector w))) (place w)) (node_bytes u kind_u ∙ sym (node_bytes w kind_w)))
      (updated_is_sealed from image w changes bytes_image kind_w are done)

  at_others : ((i : ℕ) → place u ≤ i → i < place u + record_size u → (record_range w).bytes (Block (file_selector u)) i ≡ false) → IsSealed image u
  at_others apart = stays_sealed (record_range w) from image u bytes_from bytes_image kind_u outside apart is

  by_place : (t : Bool) → (first_block u == first_block w) ≡ t → file_selector u ≡ file_selector w → IsSealed image u
  by_place true e file = at_one_place file (node_at_place u kind_u ∙ ap (λ (n : ℕ). 8192 + n * 36) (eqb-true (first_block u) (first_block w) e) ∙ sym (node_at_place w kind_w))
  by_place false e file =
      at_others
      (λ i low high. and_right _ _
      (let a = node_at_place u kind_u in
      let b = node_at_place w kind_w in
      let m = node_bytes u kind_u in
      let n = node_bytes w kind_w in
      let apart : (place w + 36 ≤ place u) ⊎ (place u + 36 ≤ place w) = places (first_block u) (first_block w) (place u) (place w) e a b in
      subst (λ (k : ℕ). (nat_le (place w) i && nat_lt i (place w + k)) ≡ false) (sym n) (range_apart (place u) (place w) 36 i apart low (omega (arith, high, m)))))
    where
      places : (x y p q : ℕ) → (x == y) ≡ false → p ≡ 8192 + x * 36 → q ≡ 8192 + y * 36 → (q + 36 ≤ p) ⊎ (p + 36 ≤ q)
      places x y p q e a b = grind (arith, nat_tests)

  by_file : (t : Bool) → (file_selector w == file_selector u) ≡ t → IsSealed image u
  by_file true e = by_place (first_block u == first_block w) refl (sym (eqb-true (file_selector w) (file_selector u) e))
  by_file false e = at_others (λ i low high. and_left _ _ e)

  update_keeps_sealed : IsSealed image u
  update_keeps_sealed = by_file (file_selector w == file_selector u) refl

-- Writes.

-- after an update a node has its checksum, and so has each that had it
pub record Reseals (from : Image) (w : ℕ) (image : Image) : Type 0 where
  pub sealed : IsSealed image w
  pub keeps : KeepsSealed from image

pub reseals : (from : Image) → IsWritable from → (w : ℕ) → (list_of from).checks w ≡ true → (changes : List (ℕ × ℕ)) → AreChanges (seal_place w) changes → All (λ c. c.0 + 4 ≤ seal_place w) changes → Reseals from w (after (sealed_steps from w changes) from)
reseals from ready w good changes are inside =
    let node = good-node from w ready good in
    let steps : List TrailStep = sealed_steps from w changes in
    let new : Image = after steps from in
    let done : IsUpdated from w changes new = updated w from changes node.fits in
    let M : Image → Type 0 = IsMidUpdate from w changes in
    let last : M new = until_last M M steps from (moments w from changes node.fits node.checks inside) in
    let bytes : AreBytes new = (until_last IsWritable IsWritable steps from (writable-sealed w changes from ready)).bytes in
    record {
      sealed = updated_is_sealed from new w changes bytes node.kind are done;
      keeps = λ u kind sealed. update_keeps_sealed from new w u changes ready.bytes bytes node.kind kind are done last.outside sealed;
    }

link_reseals : (from : Image) → IsWritable from → (w p x : ℕ) → (list_of from).checks w ≡ true → p % 4 ≡ 0 → p + 4 ≤ 32 → Reseals from w (after (sealed_steps from w ((p, x) ∷ [])) from)
link_reseals from ready w p x good aligned inside =
    let kind = checked-kind from w good in
    let seal = node_seal w kind in
    reseals from ready w good ((p, x) ∷ []) (one_change w p x kind aligned (omega (arith, inside)))
    (All-cons (λ c. c.0 + 4 ≤ seal_place w) (p, x) [] (omega (arith, inside, seal)) (All-nil (λ c. c.0 + 4 ≤ seal_place w)))

word_keeps : (from : Image) (at x : ℕ) → AreBytes from → AreBytes (after (word_step Index at x) from) → KeepsSealed from (after (word_step Index at x) from)
unfolding word_step
word_keeps from at x bytes_from bytes_image u kind sealed =
    let image : Image = applied (Word Index at (word_bytes x)) from in
    stays_sealed (one_word Index at) from image u bytes_from bytes_image kind (outside_write Index at (word_bytes x) from) (λ i low high. index_apart at u i) sealed

write_seals : (write : ListWrite) (from : Image) → IsWritable from → CanBeMade from (write ∷ []) → AreBytes (after (write_steps write from) from) → Seals from (write ∷ []) (after (write_steps write from) from)
unfolding write_steps
write_seals (Next w x) from ready can bytes = let r = link_reseals from ready w 16 x can.nodes.0 refl (omega arith) in record { sealed = (r.sealed, tt); keeps = r.keeps }
write_seals (Prev w x) from ready can bytes = let r = link_reseals from ready w 20 x can.nodes.0 refl (omega arith) in record { sealed = (r.sealed, tt); keeps = r.keeps }
write_seals (Head x) from ready can bytes = record { sealed = tt; keeps = word_keeps from 288 x ready.bytes bytes }
write_seals (Tail x) from ready can bytes = record { sealed = tt; keeps = word_keeps from 308 x ready.bytes bytes }
write_seals (Transaction x) from ready can bytes = record { sealed = tt; keeps = word_keeps from 328 x ready.bytes bytes }
write_seals (Operation x) from ready can bytes = record { sealed = tt; keeps = word_keeps from 332 x ready.bytes bytes }

-- nodes that got their checksums by writes keep them
still_sealed : (checked : Image) (writes : List ListWrite) (between image : Image) → AreOf (λ n. (list_of checked).checks n ≡ true) writes → AreNodesSealed writes between → KeepsSealed between image → AreNodesSealed writes image
still_sealed checked [] between image good sealed keeps = tt
still_sealed checked (Next w x ∷ writes) between image good sealed keeps = (keeps w (checked-kind checked w good.0) sealed.0, still_sealed checked writes between image good.1 sealed.1 keeps)
still_sealed checked (Prev w x ∷ writes) between image good sealed keeps = (keeps w (checked-kind checked w good.0) sealed.0, still_sealed checked writes between image good.1 sealed.1 keeps)
still_sealed checked (Head x ∷ writes) between image good sealed keeps = still_sealed checked writes between image good sealed keeps
still_sealed checked (Tail x ∷ writes) between image good sealed keeps = still_sealed checked writes between image good sealed keeps
still_sealed checked (Transaction x ∷ writes) between image good sealed keeps = still_sealed checked writes between image good sealed keeps
still_sealed checked (Operation x ∷ writes) between image good sealed keeps = still_sealed checked writes between image good sealed keeps

and_first : (write : ListWrite) (writes : List ListWrite) (image : Image) → AreNodesSealed (write ∷ []) image → AreNodesSealed writes image → AreNodesSealed (write ∷ writes) image
and_first (Next w x) writes image first rest = (first.0, rest)
and_first (Prev w x) writes image first rest = (first.0, rest)
and_first (Head x) writes image first rest = rest
and_first (Tail x) writes image first rest = rest
and_first (Transaction x) writes image first rest = rest
and_first (Operation x) writes image first rest = rest

pub writes_seal : (writes : List ListWrite) (from : Image) → IsWritable from → CanBeMade from writes → Seals from writes (after (steps_of_writes writes from) from)
writes_seal [] from ready can = record { sealed = tt; keeps = λ u kind sealed. sealed }
writes_seal (write ∷ writes) from ready can =
    let one = first_can from write writes can in
    let shows = one_write write from ready one in
    let steps : List TrailStep = write_steps write from in
    let between : Image = after steps from in
    let ready_between : IsWritable between = writable-after write from ready in
    let first = write_seals write from ready one ready_between.bytes in
    let rest = writes_seal writes between ready_between (rest_can from between write writes shows.ends can) in
    let last : Image = after (steps_of_writes writes between) between in
    subst (Seals from (write ∷ writes)) (sym (after-append steps (steps_of_writes writes between) from))
    (record { sealed = and_first write writes last (still_sealed from (write ∷ []) between last one.nodes first.sealed rest.keeps) rest.sealed; keeps = λ u kind sealed. rest.keeps u kind (first.keeps u kind sealed) })

pub writes-seal : WritesSealTheirNodes
writes-seal image writes ready can = (writes_seal writes image ready can).sealed

pub writes-keep : WritesKeepSeals
writes-keep image writes ready can = (writes_seal writes image ready can).keeps

pub node-updates : NodeUpdatesKeepSeals
node-updates image node changes ready good are inside = let r = reseals image ready node good changes are inside in (r.sealed, r.keeps)

-- writes, and then the times of a node
pub touch_seals : (image : Image) (node moment : ℕ) → IsWritable image → (list_of image).checks node ≡ true → (ws : List ListWrite) → CanBeMade image ws
    → Seals image ws (after (touch_steps node moment ws image) image) × IsSealed (after (touch_steps node moment ws image) image) node
touch_seals image node moment ready good ws can =
    let i : Image = after (steps_of_writes ws image) image in
    let kind = checked-kind image node good in
    let seal = node_seal node kind in
    let first = writes_seal ws image ready can in
    let all : All (λ c. c.0 + 4 ≤ seal_place node) (times_of moment) = each (λ c. c.0 + 4 ≤ seal_place node) (0, moment % 2 ^ 32) (4, moment / 2 ^ 32) (8, moment % 2 ^ 32) (12, moment / 2 ^ 32) (omega (arith, seal)) (omega (arith, seal)) (omega (arith, seal)) (omega (arith, seal)) in
    let times = reseals i (writable-writes ws image ready) node (still_checks image ready node moment good ws can) (times_of moment) (times_are node moment kind) all in
    let last : Image = after (sealed_steps i node (times_of moment)) i in
    subst (λ (last : Image). Seals image ws last × IsSealed last node) (sym (after-append (steps_of_writes ws image) (sealed_steps i node (times_of moment)) image))
    (record { sealed = still_sealed image ws i last can.nodes first.sealed times.keeps; keeps = λ u kind sealed. times.keeps u kind (first.keeps u kind sealed) }, times.sealed)

-- an access
touch_made : (image : Image) (node moment : ℕ) (prefix suffix : List ℕ) → IsWritable image → IsAtRest (list_of image) (prefix ++ node ∷ suffix)
    → Seals image (touch_writes node (list_of image)) (after (steps_of_touch node moment image) image) × IsSealed (after (steps_of_touch node moment image) image) node
touch_made image node moment prefix suffix ready rest =
    touch_seals image node moment ready (listed node (list_of image) prefix suffix rest.whole).good (touch_writes node (list_of image)) (touches-can image node prefix suffix rest)

pub touches-seal : TouchesSealTheirNodes
touches-seal image node moment prefix suffix ready rest = let made = touch_made image node moment prefix suffix ready rest in (made.0.sealed, made.1)

pub touches-keep : TouchesKeepSeals
touches-keep image node moment prefix suffix ready rest = (touch_made image node moment prefix suffix ready rest).0.keeps
