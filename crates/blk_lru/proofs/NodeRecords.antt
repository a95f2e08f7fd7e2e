-- A node whose checksum matches or is absent, as a record of bytes.
use Rattle.std.proofs.Common.{◌≡◌, ℕ, ◌+◌, ◌≤◌, Bool, true, false, if◌then◌else◌, None, Some, List, refl, ap, sym, ◌∙◌, subst, arith}
use Rattle.spec_image.specs.Bytes.{content, word_at, range_at}
use Rattle.spec_image.specs.Image.{Block, Image, AreBytes, byte}
use Rattle.spec_format.specs.Address.{file_selector, place}
use Rattle.spec_format.specs.Records.{checks}
use Rattle.spec_format.specs.Sealed.{record_at, RecordChecks}
use Rattle.spec_format.proofs.SealedFields.{record_word}
use Rattle.spec_format.proofs.SealedRecords.{node_bytes, node_seal}
use Rattle.spec_folder.specs.View.{checks_at, list_of}
use Rattle.law_folder.proofs.updates.NodeRecords.{checks_bytes}
use Rattle.blk_disk.proofs.SealedReads.{record_read}
use Rattle.blk_disk.specs.declared.tables.BlockFiles.{BlockFiles}
use Rattle.blk_disk.specs.Tables.{Agrees, is_node_among}
use Rattle.blk_lru.specs.Nodes.{link_at, list_among, FindsNode}
use Rattle.blk_lru.proofs.NodeWords.{node_kind, stands_as_node}
use Rattle.blk_lru.proofs.Flights.{next_among, prev_among}

-- the checksum of a node whose bytes were read matches or is absent where that is so in them
module _ (files : BlockFiles) (image : Image) (w : ℕ) (bytes : List ℕ) (small : AreBytes image) (is : is_node_among files w ≡ true) (read : bytes ≡ range_at (byte image (Block (file_selector w))) (place w + 0) 36) where
  bytes_are : bytes ≡ record_at image w
  bytes_are = record_read image w 36 bytes (sym (node_bytes w (node_kind files w is))) read

  checks_are : (list_among files image).checks w ≡ checks 32 bytes
  unfolding list_among
  checks_are = rw is (checks_bytes image w small (node_kind files w is) ∙ ap (checks 32) (sym bytes_are))

  word_is : (q : ℕ) → q + 4 ≤ 36 → word_at (content bytes) q ≡ link_at image w q
  word_is q inside = ap (λ (b : List ℕ). word_at (content b) q) bytes_are ∙ record_word image w q (let size = node_bytes w (node_kind files w is) in omega (arith, size, inside))

  by_check : (t : Bool) → checks 32 bytes ≡ t → FindsNode (list_among files image) w (if t then Some (record { node = w; next = word_at (content bytes) 16; prev = word_at (content bytes) 20 }) else None)
  by_check true e = record {
    node = refl;
    good = checks_are ∙ e;
    next = word_is 16 (omega arith) ∙ sym (next_among files image w is);
    prev = word_is 20 (omega arith) ∙ sym (prev_among files image w is);
  }
  by_check false e = checks_are ∙ e

  pub found_in : FindsNode (list_among files image) w (if checks 32 bytes then Some (record { node = w; next = word_at (content bytes) 16; prev = word_at (content bytes) 20 }) else None)
  found_in = by_check (checks 32 bytes) refl

-- a word that names no node finds none
pub found_none : (files : BlockFiles) (image : Image) (w : ℕ) → is_node_among files w ≡ false → (list_among files image).checks w ≡ false
unfolding list_among
found_none files image w none = rw none refl

-- where the checksum of a node's record matches or is absent, that is so in the list's view of the node
pub checks_back : (files : BlockFiles) (image : Image) (w : ℕ) → Agrees files image → AreBytes image → is_node_among files w ≡ true → RecordChecks w image → (list_of image).checks w ≡ true
unfolding list_of checks_at
checks_back files image w agrees small is good =
    rw (stands_as_node files image agrees w is) (checks_bytes image w small (node_kind files w is) ∙ subst (λ (s : ℕ). checks s (record_at image w) ≡ true) (node_seal w (node_kind files w is)) good)
