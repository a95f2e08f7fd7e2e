-- The dirty flag of a node before and after each write of its change, and in the end.
use Rattle.std.proofs.Common.{◌≡◌, ◌≢◌, inl, inr, ⊎_elim, ℕ, ◌+◌, ◌*◌, ◌%◌, ◌^◌, ◌<◌, ◌≤◌, [], take, refl, sym, ◌∙◌, ap, ap₂, subst, true, arith}
use Rattle.std.proofs.lemmas.List.Elements.{All-nil, All-cons}
use Rattle.spec_image.specs.Bytes.{content, word_at, long_at, range_at}
use Rattle.spec_image.specs.Image.{Image, Block, AreBytes, byte, word}
use Rattle.spec_format.specs.Address.{kind_of, file_selector, place, rankings}
use Rattle.spec_format.specs.Hash.{hash}
use Rattle.spec_format.specs.Records.{Node, node_in, node_body, node_seal, sealed_node, seal_of}
use Rattle.spec_format.proofs.Bodies.{node_body-in}
use Rattle.spec_format.specs.Sealed.{AreChanges, IsMidUpdate, IsUpdated, record_at, record_size, seal_place}
use Rattle.spec_format.proofs.SealedRecords.{node_seal as seal_of_node, node_bytes}
use Rattle.spec_format.proofs.SealedFields.{record_word, one_change, one_change_others, updated_seal, updated_stays, updated_is_new}
use Rattle.std.specs.declared.option.Option.TheVariants.{Some}
use Rattle.spec_format.specs.BlockFiles.{stands_in}
use Rattle.spec_format.specs.Address.{is_address}
use Rattle.spec_format.specs.Records.{node_checks}
use Rattle.spec_format.specs.Sealed.{RecordChecks}
use Rattle.spec_folder.specs.View.{checks_at, list_of, node_at, node_fields_at, stands_as, store_of}
use Rattle.blk_disk.specs.declared.tables.BlockFiles.{BlockFiles}
use Rattle.blk_disk.specs.Tables.{Agrees, stands_among}
use Rattle.law_folder.specs.NodeUpdates.{IsNode}
use Rattle.law_folder.proofs.claims.Inside.{record-changes}
use Rattle.law_folder.proofs.updates.Nodes.{dirty-written}
use Rattle.law_folder.proofs.updates.Updates.{node-checks}
use Rattle.spec_format.proofs.SealedRecords.{moment_before}
use Rattle.blk_entry.proofs.NewShown.{stands_as_kind, stands_here}
use Rattle.blk_entry.specs.Marks.{dirty_change, plain_node, SetsDirtyInProgress, HasDirtySet}

-- one word before the checksum of a node is changed
pub mark_changes : (w mark : ℕ) → kind_of w ≡ rankings → AreChanges (seal_place w) (dirty_change mark)
mark_changes w mark kind = record {
  few = omega arith;
  aligned = All-cons (λ change. change.0 % 4 ≡ 0) (28, mark) [] refl (All-nil (λ change. change.0 % 4 ≡ 0));
  before = All-cons (λ change. change.0 < seal_place w) (28, mark) [] (let s : seal_place w ≡ 32 = seal_of_node w kind in omega (arith, s)) (All-nil (λ change. change.0 < seal_place w));
  different = (All-nil (λ other. other.0 ≢ 28), tt);
}

-- the words of two nodes that agree at these places
record AreAlike (f g : ℕ → ℕ) (i : ℕ) : Type 0 where
  last_used : long_at g i ≡ long_at f i
  last_modified : long_at g (i + 8) ≡ long_at f (i + 8)
  next : word_at g (i + 16) ≡ word_at f (i + 16)
  prev : word_at g (i + 20) ≡ word_at f (i + 20)
  contents : word_at g (i + 24) ≡ word_at f (i + 24)

alike : (f g : ℕ → ℕ) (i : ℕ) → ((q j : ℕ) → j ≡ i + q → q % 4 ≡ 0 → q < 28 → word_at g j ≡ word_at f j) → AreAlike f g i
alike f g i same = record {
  last_used = ap₂ (λ (a b : ℕ). a + 4294967296 * b) (same 0 i (omega arith) refl (omega arith)) (same 4 (i + 4) refl refl (omega arith));
  last_modified = ap₂ (λ (a b : ℕ). a + 4294967296 * b) (same 8 (i + 8) refl refl (omega arith)) (same 12 (i + 8 + 4) (omega arith) refl (omega arith));
  next = same 16 (i + 16) refl refl (omega arith);
  prev = same 20 (i + 20) refl refl (omega arith);
  contents = same 24 (i + 24) refl refl (omega arith);
}

-- nodes that are alike are one but for the dirty flag and the checksum
plain-alike : (f g : ℕ → ℕ) (i : ℕ) → AreAlike f g i → plain_node (node_in g i) ≡ plain_node (node_in f i)
unfolding node_in
plain-alike f g i a = λ k. record {
  last_used = a.last_used k;
  last_modified = a.last_modified k;
  next = a.next k;
  prev = a.prev k;
  contents = a.contents k;
  dirty = 0;
  self_hash = 0;
}

-- a prefix of a record is a range
prefix_of_range : (f : ℕ → ℕ) (i : ℕ) → take 32 (range_at f i 36) ≡ range_at f i 32
unfolding range_at
prefix_of_range f i = refl

-- a node that is alike but for its dirty flag, and whose checksum is the hash of its bytes
sealed-alike : (f g : ℕ → ℕ) (i mark : ℕ) → AreAlike f g i → word_at g (i + 28) ≡ mark → ((k : ℕ) → g k < 256) → word_at g (i + 32) ≡ hash (range_at g i 32) → node_in g i ≡ sealed_node (record (node_in f i) { dirty = mark })
unfolding node_in node_body
sealed-alike f g i mark a dirty below seal =
    let body : hash (range_at g i 32) ≡ node_seal (record (node_in f i) { dirty = mark }) =
    ap hash (sym (node_body-in i g below)) ∙ ap (λ (n : Node). hash (node_body n)) plain in
    ap₂ (λ (n : Node) (h : ℕ). record n { self_hash = h }) plain (seal ∙ body)
  where
    plain : record (node_in g i) { self_hash = 0 } ≡ record (node_in f i) { dirty = mark; self_hash = 0 }
    plain = λ k. record {
      last_used = a.last_used k;
      last_modified = a.last_modified k;
      next = a.next k;
      prev = a.prev k;
      contents = a.contents k;
      dirty = dirty k;
      self_hash = 0;
    }

-- a node that is there, and whose checksum matches or is absent, is a good one
node_good : (image : Image) (w mark : ℕ) → AreBytes image → stands_in image w ≡ true → kind_of w ≡ rankings → RecordChecks w image → IsNode image w
unfolding list_of checks_at
node_good image w mark below standing kind good =
    let st : stands_as image rankings w ≡ true = stands_as_kind image w rankings standing kind in
    let sound : node_checks (node_at image w) ≡ true = node-checks image image w (dirty_change mark) below (moment_before w image (dirty_change mark) good) kind in
    record { good = rw (st, sound) refl; bytes = below }

-- what a node that is there says
node_says : (image : Image) (w : ℕ) → stands_in image w ≡ true → kind_of w ≡ rankings → (store_of image).node_fields w ≡ Some (record { contents = (node_at image w).contents; dirty = (node_at image w).dirty })
unfolding store_of node_fields_at
node_says image w standing kind = let st : stands_as image rankings w ≡ true = stands_as_kind image w rankings standing kind in rw st refl

module _ (from image : Image) (w mark : ℕ) (kind : kind_of w ≡ rankings) (small : mark < 2 ^ 32) where
  file_word : (q j : ℕ) → j ≡ place w + q → q < 36 → q % 4 ≡ 0 → word_at (content (record_at image w)) q ≡ word_at (content (record_at from w)) q → word image (Block (file_selector w)) j ≡ word from (Block (file_selector w)) j
  file_word q j e low aligned same =
      let size : record_size w ≡ 36 = node_bytes w kind in
      let inside : q + 4 ≤ record_size w = omega (arith, size, low, aligned) in
      subst (λ (n : ℕ). word image (Block (file_selector w)) n ≡ word from (Block (file_selector w)) n) (sym e) (sym (record_word image w q inside) ∙ same ∙ record_word from w q inside)

  here : (i : Image) (q : ℕ) → q + 4 ≤ 36 → word_at (content (record_at i w)) q ≡ word i (Block (file_selector w)) (place w + q)
  here i q inside = let size : record_size w ≡ 36 = node_bytes w kind in record_word i w q (omega (arith, size, inside))

  -- the midst of an update of the dirty flag of a node that is there, under a checksum 0
  pub marking_at : (files : BlockFiles) → Agrees files from → stands_among files w ≡ true → is_address w ≡ true → AreBytes from → RecordChecks w from → IsMidUpdate from w (dirty_change mark) image → SetsDirtyInProgress from w mark image
  unfolding node_in
  marking_at files agrees st address below good moment = record {
    update = moment;
    dirty =
        ⊎_elim (λ (old : word_at (content (record_at image w)) 28 ≡ word_at (content (record_at from w)) 28). inl (sym (here image 28 (omega arith)) ∙ old ∙ here from 28 (omega arith)))
        (λ (new : word_at (content (record_at image w)) 28 ≡ mark). inr (sym (here image 28 (omega arith)) ∙ new)) (one_change from image w 28 mark (mark_changes w mark kind) small moment);
    others =
        plain-alike (byte from (Block (file_selector w))) (byte image (Block (file_selector w))) (place w)
        (alike (byte from (Block (file_selector w))) (byte image (Block (file_selector w))) (place w)
        (λ q j e aligned low. file_word q j e (omega (arith, low)) aligned (one_change_others from image w 28 mark q (mark_changes w mark kind) moment aligned (let s : seal_place w ≡ 32 = seal_of_node w kind in omega (arith, s, low)) (λ same. omega (arith, same, low)))));
    inside = record-changes from image w standing (inl kind) moment.outside;
    only = (dirty-written from image w mark (node_good from w mark below standing kind good) small moment _ (node_says from w standing kind)).0;
  }
    where
      standing : stands_in from w ≡ true
      standing = stands_here files from w agrees address (λ e. let z : ◌≡◌ {A = ℕ} 1 0 = sym kind ∙ e in cc) st

  -- the end of that update
  pub marked_at : IsUpdated from w (dirty_change mark) image → AreBytes image → HasDirtySet from w mark image
  unfolding record_at
  marked_at done below =
      let s : seal_place w ≡ 32 = seal_of_node w kind in
      let size : record_size w ≡ 36 = node_bytes w kind in
      let are = mark_changes w mark kind in
      let f : ℕ → ℕ = byte from (Block (file_selector w)) in
      let g : ℕ → ℕ = byte image (Block (file_selector w)) in
      let dirty : word_at (content (record_at image w)) 28 ≡ mark = updated_is_new from image w (dirty_change mark) are done 0 (28, mark) (omega arith) (All-cons (λ c. c.1 < 2 ^ 32) (28, mark) [] small (All-nil (λ c. c.1 < 2 ^ 32))) in
      let seal : word_at (content (record_at image w)) 32 ≡ seal_of 32 (record_at image w) = subst (λ (n : ℕ). word_at (content (record_at image w)) n ≡ seal_of n (record_at image w)) s (updated_seal from image w (dirty_change mark) are done) in
      let front : take 32 (record_at image w) ≡ range_at g (place w) 32 = ap (λ (n : ℕ). take 32 (range_at g (place w) n)) size ∙ prefix_of_range g (place w) in
      sealed-alike f g (place w) mark
      (alike f g (place w) (λ q j e aligned low. file_word q j e (omega (arith, low)) aligned (updated_stays from image w (dirty_change mark) are done q aligned (omega (arith, s, low)) (All-cons (λ c. c.0 ≢ q) (28, mark) [] (λ same. omega (arith, same, low)) (All-nil (λ c. c.0 ≢ q))))))
      (sym (here image 28 (omega arith)) ∙ dirty) (below (Block (file_selector w))) (sym (here image 32 (omega arith)) ∙ seal ∙ ap hash front)
