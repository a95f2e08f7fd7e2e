-- The times of a new entry stay what they are while it is listed and counted.
use Rattle.std.proofs.Common.{◌≡◌, ◌≢◌, ◌⊎◌, inl, inr, ⊎_elim, ℕ, ◌+◌, ◌*◌, ◌<◌, ◌≤◌, List, [], ◌∷◌, Bool, true, false, Some, refl, sym, ◌∙◌, ap, subst, arith}
use Rattle.std.specs.Prelude.{◌&&◌, ◌==◌, nat_le, nat_lt}
use Rattle.std.specs.List.{AllByRecursion}
use Rattle.std.specs.Option.{ForSome, option_map}
use Rattle.std.proofs.lemmas.Bool.{and_parts, cases_lt, eqb-true}
use Rattle.std.proofs.lemmas.Bool.Decides.{nat_tests}
use Rattle.spec_image.specs.Bytes.{long_at, word_at}
use Rattle.spec_image.specs.Footprint.{range, touched_by}
use Rattle.spec_image.specs.Image.{Block, Image, Index, byte, same_file}
use Rattle.spec_image.specs.Steps.{TrailStep, after, applied, word_step}
use Rattle.spec_image.proofs.Cuts.{after-append}
use Rattle.spec_image.proofs.Footprints.{outside_step}
use Rattle.spec_format.specs.Address.{block_place, block_size, external, file_selector, first_block, is_address, kind_of, place, rankings}
use Rattle.spec_format.specs.Records.{Entry, Node, entry_in, node_in}
use Rattle.spec_format.specs.Sealed.{seal_by_kind, seal_place, sealed_steps, update_steps}
use Rattle.spec_folder.specs.ListSteps.{AreOf, steps_of_writes, write_steps}
use Rattle.spec_folder.specs.ListView.{Head, ListWrite, Next, Operation, Prev, Tail, Transaction}
use Rattle.spec_folder.specs.View.{list_of}
use Rattle.spec_folder.specs.Completion.{insert}
use Rattle.spec_folder.specs.ListImages.{CanBeMade, operation_steps}
use Rattle.spec_folder.specs.ListPlans.{writes_of}
use Rattle.spec_image.specs.Told.{Applies, Told}
use Rattle.spec_image.proofs.Runs.{some_inj}
use Rattle.spec_format.specs.BlockFiles.{stands_in, stands_in_blocks}
use Rattle.spec_format.specs.Standing.{stands}
use Rattle.blk_disk.specs.declared.tables.BlockFiles.{BlockFiles}
use Rattle.blk_disk.specs.Open.{IsOpen}
use Rattle.blk_disk.specs.Tables.{Agrees, is_node_among, is_record_among, names_among}
use Rattle.blk_disk.proofs.Ranges.{stands_agree}
use Rattle.law_folder.proofs.lists.WriteWords.{weaker}
use Rattle.law_folder.proofs.updates.Nodes.{good-stands}
use Rattle.law_folder.proofs.updates.StillShown.{elsewhere-by, standing-parts}
use Rattle.blk_chain.specs.Linking.{link_front_steps, place_of_front}
use Rattle.blk_entry.specs.declared.writing.NewEntry.{NewEntry}
use Rattle.blk_entry.specs.Writing.{IsWritten, new_node, new_record}
use Rattle.blk_object.specs.Making.{HasTimes, KeepsTimes}
use Rattle.law_state.specs.CounterLaws.{AreCountersWritten}
use Rattle.blk_object.proofs.MakingListed.{record-parts}

-- ---- a byte that no write touches

module _ (f p : ℕ) where
  abbrev IsMissed : TrailStep → Type 0
  IsMissed step = (touched_by step).bytes (Block f) p ≡ false

  stays : (steps : List TrailStep) (image : Image) → AllByRecursion IsMissed steps → byte (after steps image) (Block f) p ≡ byte image (Block f) p
  stays [] image missed = refl
  stays (step ∷ steps) image missed = stays steps (applied step image) missed.1 ∙ (outside_step step image).bytes (Block f) p missed.0

  -- neither the links of a node nor its checksum are at the byte
  pub record Misses (w : ℕ) : Type 0 where
    pub kind : kind_of w ≡ rankings
    pub next : (range (Block (file_selector w)) (place w + 16) 4).bytes (Block f) p ≡ false
    pub prev : (range (Block (file_selector w)) (place w + 20) 4).bytes (Block f) p ≡ false
    pub seal : (range (Block (file_selector w)) (place w + seal_place w) 4).bytes (Block f) p ≡ false

  next-missed : (w v : ℕ) (image : Image) → Misses w → AllByRecursion IsMissed (sealed_steps image w ((16, v) ∷ []))
  unfolding update_steps word_step
  next-missed w v image m = (m.seal, (m.next, (m.seal, tt)))

  prev-missed : (w v : ℕ) (image : Image) → Misses w → AllByRecursion IsMissed (sealed_steps image w ((20, v) ∷ []))
  unfolding update_steps word_step
  prev-missed w v image m = (m.seal, (m.prev, (m.seal, tt)))

  index-missed : (at v : ℕ) → AllByRecursion IsMissed (word_step Index at v)
  unfolding word_step
  index-missed at v = (refl, tt)

  write-missed : (write : ListWrite) (image : Image) → AreOf Misses (write ∷ []) → AllByRecursion IsMissed (write_steps write image)
  unfolding write_steps
  write-missed (Next w v) image m = next-missed w v image m.0
  write-missed (Prev w v) image m = prev-missed w v image m.0
  write-missed (Head v) image m = index-missed 288 v
  write-missed (Tail v) image m = index-missed 308 v
  write-missed (Transaction v) image m = index-missed 328 v
  write-missed (Operation v) image m = index-missed 332 v

  one-more : (write : ListWrite) (writes : List ListWrite) (image : Image) → AreOf Misses (write ∷ [])
      → byte (after (steps_of_writes writes (after (write_steps write image) image)) (after (write_steps write image) image)) (Block f) p ≡ byte (after (write_steps write image) image) (Block f) p
      → byte (after (steps_of_writes (write ∷ writes) image) image) (Block f) p ≡ byte image (Block f) p
  one-more write writes image m rest =
      ap (λ (i : Image). byte i (Block f) p) (after-append (write_steps write image) (steps_of_writes writes (after (write_steps write image) image)) image) ∙ rest ∙ stays (write_steps write image) image (write-missed write image m)

  pub writes-stay : (writes : List ListWrite) (image : Image) → AreOf Misses writes → byte (after (steps_of_writes writes image) image) (Block f) p ≡ byte image (Block f) p
  writes-stay [] image m = refl
  writes-stay (Next w v ∷ writes) image m = one-more (Next w v) writes image (m.0, tt) (writes-stay writes _ m.1)
  writes-stay (Prev w v ∷ writes) image m = one-more (Prev w v) writes image (m.0, tt) (writes-stay writes _ m.1)
  writes-stay (Head v ∷ writes) image m = one-more (Head v) writes image tt (writes-stay writes _ m)
  writes-stay (Tail v ∷ writes) image m = one-more (Tail v) writes image tt (writes-stay writes _ m)
  writes-stay (Transaction v ∷ writes) image m = one-more (Transaction v) writes image tt (writes-stay writes _ m)
  writes-stay (Operation v ∷ writes) image m = one-more (Operation v) writes image tt (writes-stay writes _ m)

-- ---- which bytes these are

and-none : (a b : Bool) → b ≡ false → (a && b) ≡ false
and-none true b e = e
and-none false b e = refl

beside : (low x : ℕ) → (x < low) ⊎ (low + 4 ≤ x) → (nat_le low x && nat_lt x (low + 4)) ≡ false
beside low x (inl below) = let t : nat_le low x ≡ false = grind (arith, nat_tests) in rw t refl
beside low x (inr past) = let t : nat_lt x (low + 4) ≡ false = grind (arith, nat_tests) in and-none (nat_le low x) (nat_lt x (low + 4)) t

node-place : (w : ℕ) → kind_of w ≡ rankings → place w ≡ 8192 + first_block w * 36
unfolding place block_place block_size
node-place w kind = ap (λ (k : ℕ). block_place k (first_block w)) kind

node-seal : (w : ℕ) → kind_of w ≡ rankings → seal_place w ≡ 32
unfolding seal_by_kind
node-seal w kind = ap seal_by_kind kind

-- the times of a node lie beside all links and checksums
pub times-missed : (node p w : ℕ) → kind_of node ≡ rankings → place node ≤ p → p < place node + 16 → kind_of w ≡ rankings → Misses (file_selector node) p w
times-missed node p w kind low high also = record { kind = also; next = at 16 (omega arith) (omega arith); prev = at 20 (omega arith) (omega arith); seal = subst (λ (o : ℕ). (range (Block (file_selector w)) (place w + o) 4).bytes (Block (file_selector node)) p ≡ false) (sym (node-seal w also)) (at 32 (omega arith) (omega arith)) } where
  at : (o : ℕ) → 16 ≤ o → o + 4 ≤ 36 → (range (Block (file_selector w)) (place w + o) 4).bytes (Block (file_selector node)) p ≡ false
  at o from to =
      let one = node-place node kind in
      let other = node-place w also in
      and-none (same_file (Block (file_selector w)) (Block (file_selector node))) _ (beside (place w + o) p (⊎_elim
      (λ (below : p < place w + o). inl below)
      (λ (past : place w + o ≤ p). inr (apart (first_block node) (first_block w) o p from to (subst (λ (x : ℕ). p < x + 16) one high) (subst (λ (x : ℕ). x ≤ p) one low) (place w) other past))
      (cases_lt p (place w + o))))
    where
      apart : (b c o p : ℕ) → 16 ≤ o → o + 4 ≤ 36 → p < 8192 + b * 36 + 16 → 8192 + b * 36 ≤ p → (x : ℕ) → x ≡ 8192 + c * 36 → x + o ≤ p → x + o + 4 ≤ p
      apart b c o p from to high low x is past = omega (arith, from, to, high, low, is, past)

-- a write to another file misses the words of a node
pub file-missed : (f p w : ℕ) → kind_of w ≡ rankings → (same_file (Block (file_selector w)) (Block f)) ≡ false → Misses f p w
file-missed f p w kind other = record { kind = kind; next = rw other refl; prev = rw other refl; seal = rw other refl }

-- ---- times

same-word : (f g : ℕ → ℕ) (i : ℕ) → ((k : ℕ) → i ≤ k → k < i + 4 → f k ≡ g k) → word_at f i ≡ word_at g i
same-word f g i same =
    let a = same i (omega arith) (omega arith) in
    let b = same (i + 1) (omega arith) (omega arith) in
    let c = same (i + 2) (omega arith) (omega arith) in
    let d = same (i + 3) (omega arith) (omega arith) in
    λ j. a j + 256 * b j + 65536 * c j + 16777216 * d j

same-long : (f g : ℕ → ℕ) (i : ℕ) → ((k : ℕ) → i ≤ k → k < i + 8 → f k ≡ g k) → long_at f i ≡ long_at g i
same-long f g i same =
    let a = same-word f g i (λ k low high. same k low (omega (arith, high))) in
    let b = same-word f g (i + 4) (λ k low high. same k (omega (arith, low)) (omega (arith, high))) in
    λ j. a j + 4294967296 * b j

pub times-same : (entry node moment : ℕ) (from image : Image) → ((p : ℕ) → place node ≤ p → p < place node + 16 → byte image (Block (file_selector node)) p ≡ byte from (Block (file_selector node)) p)
    → ((p : ℕ) → place entry + 24 ≤ p → p < place entry + 32 → byte image (Block (file_selector entry)) p ≡ byte from (Block (file_selector entry)) p) → HasTimes entry node moment from → HasTimes entry node moment image
unfolding node_in entry_in
times-same entry node moment from image nodes records t = record {
  created = same-long (byte image (Block (file_selector entry))) (byte from (Block (file_selector entry))) (place entry + 24) (λ k low high. records k low (omega (arith, high))) ∙ t.created;
  times = record {
    used = same-long (byte image (Block (file_selector node))) (byte from (Block (file_selector node))) (place node) (λ k low high. nodes k low (omega (arith, high))) ∙ t.times.used;
    modified = same-long (byte image (Block (file_selector node))) (byte from (Block (file_selector node))) (place node + 8) (λ k low high. nodes k (omega (arith, low)) (omega (arith, high))) ∙ t.times.modified;
  };
}

-- ---- while the entry is listed

-- the record of a valid address among the files is another file than those of nodes
other-file : (files : BlockFiles) (from : Image) (entry w : ℕ) → Agrees files from → is_record_among files entry ≡ true → (list_of from).checks w ≡ true → same_file (Block (file_selector w)) (Block (file_selector entry)) ≡ false
unfolding names_among stands
other-file files from entry w agrees among good =
    let address = (and_parts (is_address entry) _ among).0 in
    let parts = record-parts files entry among in
    let block : kind_of entry ≢ external = λ e. (let z : ◌≡◌ {A = ℕ} 2 0 = sym parts.0 ∙ e in cc) in
    let node = standing-parts from rankings w (good-stands from w good) in
    let t : (kind_of entry == external) ≡ false = grind (arith, nat_tests) in
    let s : stands_in_blocks from entry ≡ true = sym (stands_agree files from entry agrees) ∙ parts.1 in
    let st : stands_in from entry ≡ true = rw (address, t) s in
    ⊎_elim
    (λ (e : kind_of w ≡ external). absurd (let z : ◌≡◌ {A = ℕ} 1 0 = sym node.1 ∙ e in cc))
    (λ (apart : file_selector w ≢ file_selector entry). grind (arith, nat_tests))
    (elsewhere-by from w entry node.0 st block (λ e. let z : ◌≡◌ {A = ℕ} 1 2 = sym node.1 ∙ e ∙ parts.0 in cc))

pub inserting-times : (files : BlockFiles) (entry node : ℕ) (from : Image) → Agrees files from → is_record_among files entry ≡ true → kind_of node ≡ rankings → CanBeMade from (writes_of insert node (list_of from)) → KeepsTimes entry node from (after (operation_steps insert node from) from)
inserting-times files entry node from agrees among kind can moment t =
    let writes : List ListWrite = writes_of insert node (list_of from) in
    times-same entry node moment from (after (operation_steps insert node from) from)
    (λ p low high. writes-stay (file_selector node) p writes from
    (weaker (λ w. (list_of from).checks w ≡ true) (Misses (file_selector node) p) writes (λ w good. times-missed node p w kind low high (standing-parts from rankings w (good-stands from w good)).1) can.nodes))
    (λ p low high. writes-stay (file_selector entry) p writes from
    (weaker (λ w. (list_of from).checks w ≡ true) (Misses (file_selector entry) p) writes (λ w good. file-missed (file_selector entry) p w (standing-parts from rankings w (good-stands from w good)).1 (other-file files from entry w agrees among good)) can.nodes))
    t

pub linking-times : (entry node : ℕ) (from : Image) → KeepsTimes entry node from (after (link_front_steps from entry) from)
linking-times entry node from moment t =
    times-same entry node moment from (after (link_front_steps from entry) from)
    (λ p low high. stays (file_selector node) p (link_front_steps from entry) from (index-missed (file_selector node) p (place_of_front from entry) entry))
    (λ p low high. stays (file_selector entry) p (link_front_steps from entry) from (index-missed (file_selector entry) p (place_of_front from entry) entry))
    t

pub listing-times : (a b d : Told) (files : BlockFiles) (entry node : ℕ) → ForSome a.files (IsOpen files) → is_record_among files entry ≡ true → kind_of node ≡ rankings → ForSome a.files (λ from. CanBeMade from (writes_of insert node (list_of from)))
    → ForSome a.files (λ from. Applies a b (operation_steps insert node from)) → ForSome b.files (λ mid. Applies b d (link_front_steps mid entry)) → ForSome a.files (λ from. ForSome d.files (KeepsTimes entry node from))
listing-times a b d files entry node open_folder among kind can inserts links from there image now moment t =
    let mid : Image = after (operation_steps insert node from) from in
    let is : b.files ≡ Some mid = (inserts from there).files ∙ ap (option_map (after (operation_steps insert node from))) there in
    let last : image ≡ after (link_front_steps mid entry) mid = some_inj (sym now ∙ (links mid is).files ∙ ap (option_map (after (link_front_steps mid entry))) is) in
    subst (HasTimes entry node moment) (sym last) (linking-times entry node mid moment (inserting-times files entry node from (open_folder from there).agrees among kind (can from there) moment t))

-- ---- and counted

pub counting-times : (entry node x y z : ℕ) (from image : Image) → AreCountersWritten x y z from image → KeepsTimes entry node from image
counting-times entry node x y z from image w moment t =
    let block-same : (f p : ℕ) → byte image (Block f) p ≡ byte from (Block f) p = λ f p. w.nodes_written.outside.bytes (Block f) p refl ∙ w.sum_written.high.outside.bytes (Block f) p refl ∙ w.sum_written.low.outside.bytes (Block f) p refl ∙ w.items_written.outside.bytes (Block f) p refl in
    times-same entry node moment from image (λ p low high. block-same (file_selector node) p) (λ p low high. block-same (file_selector entry) p) t

-- ---- what was written

pub written-times : (new : NewEntry) (key : List ℕ) (moment : ℕ) (image : Image) → IsWritten new key moment image → HasTimes new.entry new.node moment image
unfolding new_record new_node
written-times new key moment image w = record { created = ap (λ (e : Entry). e.creation_time) w.entry; times = record { used = ap (λ (n : Node). n.last_used) w.node; modified = ap (λ (n : Node). n.last_modified) w.node } }

pub node-kind : (files : BlockFiles) (w : ℕ) → is_node_among files w ≡ true → kind_of w ≡ rankings
unfolding names_among
node-kind files w e = let more = (and_parts (is_address w) _ e).1 in eqb-true (kind_of w) rankings (and_parts (kind_of w == rankings) _ more).0
