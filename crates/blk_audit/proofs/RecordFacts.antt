-- The words of a record by its bytes.
use Rattle.std.proofs.Common.{◌≡◌, ◌+◌, ℕ, List, refl, ap, arith}
use Rattle.std.specs.Prelude.{◌==◌}
use Rattle.spec_image.specs.Bytes.{content, range_at, word_at}
use Rattle.spec_image.specs.Image.{AreBytes, Block, Image, byte}
use Rattle.spec_format.specs.Address.{blocks_256, file_selector, kind_of, place}
use Rattle.spec_format.specs.Records.{entry_checks, entry_in}
use Rattle.spec_folder.specs.View.{entry_at}
use Rattle.blk_entry.specs.declared.keys.Head.{Head}
use Rattle.blk_entry.proofs.KeyPlaces.{head_is, head_word}
use Rattle.blk_audit.proofs.Shown.{checks_read}
use Rattle.blk_audit.specs.Records.{AreWordsOf, record_words_in}

pub are_words : (image : Image) (w : ℕ) (window : List ℕ) → AreBytes image → kind_of w ≡ blocks_256 → window ≡ range_at (byte image (Block (file_selector w))) (place w + 0) 96 → AreWordsOf image w (record_words_in window)
unfolding entry_in
are_words image w window small kind is =
    let said : Head = record {
      hash = (record_words_in window).hash;
      next = (record_words_in window).next;
      node = (record_words_in window).node;
      key_len = (record_words_in window).key_len;
      long_key = (record_words_in window).long_key;
      sizes = (record_words_in window).sizes;
      addrs = (record_words_in window).addrs;
      flags = (record_words_in window).flags;
    } in
    let head = head_is image w window said kind is refl refl refl refl refl refl refl refl in
    let checks : (record_words_in window).checks ≡ entry_checks (entry_at image w) = checks_read image w small kind window is in
    let state : word_at (content window) 20 ≡ (entry_at image w).state = head_word image w 20 window kind (omega arith) is in
    record {
      fields = λ i. record {
        checks = checks i;
        hash = head.hash i;
        rankings_node = head.node i;
        state = state i;
        key_len = head.key_len i;
        long_key = head.long_key i;
        data_size = head.sizes i;
        data_addr = head.addrs i;
        flags = head.flags i;
      };
      next = head.next;
      bare = ap (λ (n : ℕ). n == 0) (head_word image w 92 window kind (omega arith) is);
    }
