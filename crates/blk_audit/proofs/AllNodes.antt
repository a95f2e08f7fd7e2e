-- What was read are the nodes of the image.
use Rattle.std.proofs.Common.{◌≡◌, ℕ, ◌+◌, ◌*◌, ◌<◌, ◌≤◌, Bool, true, false, ◌&&◌, List, None, Some, refl, sym, ap, subst, ◌∙◌, arith, if◌then◌else◌}
use Rattle.std.specs.Prelude.{◌==◌, nat_lt, slice_get, slice_index}
use Rattle.std.proofs.lemmas.Bool.{and_parts, eqb-true, eq-eqb}
use Rattle.spec_image.specs.Bytes.{content, word_at, range_at}
use Rattle.spec_image.specs.Image.{Block, HasRange, Image, AreBytes, byte, word}
use Rattle.spec_format.specs.Address.{is_address, kind_of, file_selector, first_block, rankings, external, place}
use Rattle.spec_format.specs.Records.{checks, node_in}
use Rattle.spec_format.specs.Sealed.{record_at}
use Rattle.spec_format.specs.Standing.{stands}
use Rattle.spec_format.proofs.Words.{AreFields-of}
use Rattle.spec_format.proofs.SealedFields.{record_word}
use Rattle.spec_format.proofs.SealedRecords.{node_bytes}
use Rattle.spec_folder.specs.View.{stands_as}
use Rattle.spec_format.specs.BlockFiles.{stands_in}
use Rattle.std.proofs.lemmas.Bool.Decides.{nat_tests}
use Rattle.law_folder.proofs.updates.NodeRecords.{checks_bytes}
use Rattle.blk_disk.proofs.SealedReads.{record_read}
use Rattle.blk_disk.specs.declared.tables.BlockFiles.{BlockFiles}
use Rattle.blk_disk.specs.Tables.{Agrees, is_node_among, stands_among, names_among}
use Rattle.blk_lru.proofs.NodeWords.{stands_as_node, names_node, node_kind, node_stands, node_place}
use Rattle.blk_audit.specs.Filling.{node_said}
use Rattle.blk_audit.specs.Filled.{AreNodesFilled}
use Rattle.blk_audit.specs.Nodes.{node_of, loaded_node, said_at, AreNodesOf, HasNodes}
use Rattle.blk_audit.specs.Walking.{IsNodeWord}
use Rattle.blk_audit.specs.declared.nodes.Node.{Node}
use Rattle.blk_audit.specs.declared.nodes.Nodes.{Nodes}
use Rattle.blk_audit.proofs.Truths.{both_or_neither}
use Rattle.blk_audit.proofs.MetNodes.{node_word}
use Rattle.blk_audit.proofs.Steps.{node_unnamed}

same_fields : (a b : Node) → a.checks ≡ b.checks → a.next ≡ b.next → a.prev ≡ b.prev → a.contents ≡ b.contents → a.dirty ≡ b.dirty → a.bare ≡ b.bare → a ≡ b
same_fields a b c n p x d s =
    ap (λ (v : Bool). record a { checks = v }) c
    ∙ ap (λ (v : ℕ). record a { checks = b.checks; next = v }) n
    ∙ ap (λ (v : ℕ). record a { checks = b.checks; next = b.next; prev = v }) p
    ∙ ap (λ (v : ℕ). record a { checks = b.checks; next = b.next; prev = b.prev; contents = v }) x
    ∙ ap (λ (v : ℕ). record a { checks = b.checks; next = b.next; prev = b.prev; contents = b.contents; dirty = v }) d
    ∙ ap (λ (v : Bool). record a { checks = b.checks; next = b.next; prev = b.prev; contents = b.contents; dirty = b.dirty; bare = v }) s

module _ (image : Image) (w : ℕ) (small : AreBytes image) (kind : kind_of w ≡ rankings) where
  bytes : List ℕ
  bytes = range_at (byte image (Block (file_selector w))) (8192 + first_block w * 36) 36

  at_place : 8192 + first_block w * 36 ≡ place w + 0
  at_place =
      let blocky : (kind_of w == external) ≡ false = rw kind refl in
      let there = node_place w (first_block w) kind (sym (ap (λ (t : Bool). if t then 0 else first_block w) blocky)) in omega (arith, there)

  bytes_are : bytes ≡ record_at image w
  unfolding bytes
  bytes_are = record_read image w 36 bytes (sym (node_bytes w kind)) (ap (λ (at : ℕ). range_at (byte image (Block (file_selector w))) at 36) at_place)

  word_is : (q : ℕ) → q + 4 ≤ 36 → word_at (content bytes) q ≡ word image (Block (file_selector w)) (place w + q)
  word_is q inside = ap (λ (b : List ℕ). word_at (content b) q) bytes_are ∙ record_word image w q (let size = node_bytes w kind in omega (arith, size, inside))

  said_is : node_said (range_at (byte image (Block (file_selector w))) (8192 + first_block w * 36) 36) ≡ said_at image w
  unfolding bytes node_in
  said_is =
      same_fields (node_said bytes) (said_at image w)
      (sym (checks_bytes image w small kind ∙ ap (checks 32) (sym bytes_are)))
      (word_is 16 (omega arith)) (word_is 20 (omega arith)) (word_is 24 (omega arith)) (word_is 28 (omega arith)) (ap (λ (n : ℕ). n == 0) (word_is 32 (omega arith)))

-- a node's word is an address
address_of : (files : BlockFiles) (w : ℕ) → is_node_among files w ≡ true → is_address w ≡ true
unfolding names_among
address_of files w is = (and_parts (is_address w) ((kind_of w == rankings) && stands_among files w) is).0

-- each node that is there was read from its place
pub each_there : (files : BlockFiles) (image : Image) (nodes : Nodes) → ((n : ℕ) → n < 256 → AreNodesFilled files image nodes n) → HasNodes files image
each_there files image nodes filled w is =
    let kind = node_kind files w is in
    let of_file = filled (file_selector w) (AreFields-of w).file in
    let blocky : (kind_of w == external) ≡ false = rw kind refl in
    let counted : nat_lt (first_block w) (slice_index nodes.counts (file_selector w)) ≡ true = sym (of_file.count (first_block w) (AreFields-of w).start) ∙ ap (stands_among files) (node_word w (word_of w is)) ∙ node_stands files w is in
    subst (λ (p : ℕ). HasRange image (Block (file_selector w)) p 36) (node_place w (first_block w) kind (sym (ap (λ (t : Bool). if t then 0 else first_block w) blocky)))
    (of_file.there (first_block w) (lt_by (first_block w) (slice_index nodes.counts (file_selector w)) counted))
  where
    word_of : (w : ℕ) → is_node_among files w ≡ true → IsNodeWord w
    word_of w is = record { address = address_of files w is; kind = node_kind files w is }

    lt_by : (a b : ℕ) → nat_lt a b ≡ true → a < b
    lt_by a b e = grind (arith, nat_tests)

module _ (files : BlockFiles) (image : Image) (nodes : Nodes) (agrees : Agrees files image) (small : AreBytes image) (filled : (n : ℕ) → n < 256 → AreNodesFilled files image nodes n) where
  no_address : (w : ℕ) → is_address w ≡ false → stands_as image rankings w ≡ false
  unfolding stands
  no_address w e = rw e refl

  and_none : (a : Bool) → (a && false) ≡ false
  and_none true = refl
  and_none false = refl

  no_node : (w : ℕ) → (kind_of w == rankings) ≡ false → loaded_node nodes w ≡ None
  unfolding loaded_node node_of
  no_node w e = by (is_address w) refl
    where
      by : (t : Bool) → is_address w ≡ t → loaded_node nodes w ≡ None
      by true a = rw (a, e) refl
      by false a = rw a refl

  is_there : (w : ℕ) → IsNodeWord w → stands_as image rankings w ≡ stands_among files w
  unfolding names_among
  is_there w is =
      both_or_neither (stands_as image rankings w) (stands_among files w)
      (λ st. node_stands files w (names_node files image agrees w st))
      (λ st. stands_as_node files image agrees w (let k = eq-eqb (kind_of w) rankings is.kind in rw (is.address, k, st) refl))

  counted : (w : ℕ) → IsNodeWord w → stands_as image rankings w ≡ nat_lt (first_block w) (slice_index nodes.counts (file_selector w))
  counted w is = is_there w is ∙ ap (stands_among files) (sym (node_word w is)) ∙ (filled (file_selector w) (AreFields-of w).file).count (first_block w) (AreFields-of w).start

  opened : (w : ℕ) → IsNodeWord w → loaded_node nodes w ≡ (if nat_lt (first_block w) (slice_index nodes.counts (file_selector w)) then slice_get nodes.nodes.items (slice_index nodes.begins (file_selector w) + first_block w) else None)
  unfolding loaded_node node_of
  opened w is = let k = eq-eqb (kind_of w) rankings is.kind in rw (is.address, k) refl

  below : (a b : ℕ) → nat_lt a b ≡ true → a < b
  below a b e = grind (arith, nat_tests)

  at_node : (w : ℕ) → IsNodeWord w → (t : Bool) → nat_lt (first_block w) (slice_index nodes.counts (file_selector w)) ≡ t → loaded_node nodes w ≡ (if stands_as image rankings w then Some (said_at image w) else None)
  at_node w is true e =
      opened w is ∙ ap (λ (t : Bool). if t then slice_get nodes.nodes.items (slice_index nodes.begins (file_selector w) + first_block w) else None) e
      ∙ (filled (file_selector w) (AreFields-of w).file).some (first_block w) (below (first_block w) (slice_index nodes.counts (file_selector w)) e)
      ∙ ap (λ (s : Node). Some s) (said_is image w small is.kind)
      ∙ sym (ap (λ (t : Bool). if t then Some (said_at image w) else None) (counted w is ∙ e))
  at_node w is false e =
      opened w is ∙ ap (λ (t : Bool). if t then slice_get nodes.nodes.items (slice_index nodes.begins (file_selector w) + first_block w) else None) e
      ∙ sym (ap (λ (t : Bool). if t then Some (said_at image w) else None) (counted w is ∙ e))

  by_kind : (w : ℕ) → is_address w ≡ true → (t : Bool) → (kind_of w == rankings) ≡ t → loaded_node nodes w ≡ (if stands_as image rankings w then Some (said_at image w) else None)
  by_kind w address true e = at_node w (record { address = address; kind = eqb-true (kind_of w) rankings e }) (nat_lt (first_block w) (slice_index nodes.counts (file_selector w))) refl
  by_kind w address false e =
      no_node w e ∙ sym (ap (λ (t : Bool). if t then Some (said_at image w) else None) (ap (λ (t : Bool). stands_in image w && t) e ∙ and_none (stands_in image w)))

  by_address : (w : ℕ) (t : Bool) → is_address w ≡ t → loaded_node nodes w ≡ (if stands_as image rankings w then Some (said_at image w) else None)
  by_address w true e = by_kind w e (kind_of w == rankings) refl
  by_address w false e = node_unnamed nodes w e ∙ sym (ap (λ (t : Bool). if t then Some (said_at image w) else None) (no_address w e))

  pub are_nodes : AreNodesOf image nodes
  are_nodes = record { each = λ w. by_address w (is_address w) refl }
