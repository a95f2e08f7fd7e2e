-- A record in the midst of an update: its checksum is right or absent, and its bytes before the checksum have a prefix of the changes.
use Rattle.std.proofs.Common.{◌≡◌, ℕ, ◌+◌, ◌≤◌, true, List, length, take, refl, sym, ◌∙◌, ap, subst, arith}
use Rattle.spec_image.specs.Bytes.{content, word_at}
use Rattle.spec_image.specs.Image.{Block, Image, AreBytes, byte}
use Rattle.spec_image.specs.Steps.{with_words}
use Rattle.spec_format.specs.Address.{kind_of, file_selector, place, rankings, blocks_256}
use Rattle.spec_format.specs.Records.{node_in, node_checks, entry_in, entry_checks, checks}
use Rattle.spec_folder.specs.View.{node_at, entry_at}
use Rattle.spec_format.specs.Sealed.{IsMidUpdate, record_at, record_size, seal_place, seal_by_kind}
use Rattle.spec_format.proofs.SealedRecords.{length-record, seal_aligned, seal_last}
use Rattle.spec_format.proofs.SealedFields.{record_word}
use Rattle.law_folder.proofs.updates.Prefixes.{SameWords, AreSmall, open_node, open_entry, same-node, same-entry, small-take, small-range, small-words, prefix-words, node_checks-prefix, entry_checks-prefix, node_checks-by, entry_checks-by}

-- the places of the checksums of the two kinds of records
pub node-seal : (w : ℕ) → kind_of w ≡ rankings → seal_place w ≡ 32
unfolding seal_by_kind
node-seal w kind = rw kind refl

pub entry-seal : (w : ℕ) → kind_of w ≡ blocks_256 → seal_place w ≡ 92
unfolding seal_by_kind
entry-seal w kind = rw kind refl

-- the words of a record, and those of its file
pub record-words : (image : Image) (w : ℕ) → SameWords (seal_place w) (byte image (Block (file_selector w))) (place w) (content (record_at image w)) 0
record-words image w d even inside =
    let z : d ≡ 0 + d = omega arith in
    sym (record_word image w d (omega (arith, even, inside, seal_aligned (kind_of w), seal_last (kind_of w)))) ∙ ap (word_at (content (record_at image w))) z

pub node-here : (image : Image) (w : ℕ) → kind_of w ≡ rankings → open_node (node_at image w) ≡ open_node (node_in (content (record_at image w)) 0)
node-here image w kind =
    same-node (byte image (Block (file_selector w))) (place w) (content (record_at image w)) 0
    (subst (λ (s : ℕ). SameWords s (byte image (Block (file_selector w))) (place w) (content (record_at image w)) 0) (node-seal w kind) (record-words image w))

pub entry-here : (image : Image) (w : ℕ) → kind_of w ≡ blocks_256 → open_entry (entry_at image w) ≡ open_entry (entry_in (content (record_at image w)) 0)
entry-here image w kind =
    same-entry (byte image (Block (file_selector w))) (place w) (content (record_at image w)) 0
    (subst (λ (s : ℕ). SameWords s (byte image (Block (file_selector w))) (place w) (content (record_at image w)) 0) (entry-seal w kind) (record-words image w))

module _ (from image : Image) (w : ℕ) (changes : List (ℕ × ℕ)) (bytes : AreBytes from) (moment : IsMidUpdate from w changes image) where
  -- the record with the changes that are made
  abbrev pub made_bytes : List ℕ
  made_bytes = with_words (take moment.made changes) (record_at from w)

  small-made : AreSmall made_bytes
  unfolding record_at
  small-made = small-words (take moment.made changes) (record_at from w) (small-range (record_size w) (place w) (byte from (Block (file_selector w))) (bytes (Block (file_selector w))))

  small-front : AreSmall (take (seal_place w) (record_at image w))
  small-front = subst AreSmall (sym moment.fields) (small-take (seal_place w) made_bytes small-made)

  words-made : SameWords (seal_place w) (content (record_at image w)) 0 (content made_bytes) 0
  words-made d even inside =
      sym (prefix-words (seal_place w) (record_at image w) (seal_aligned (kind_of w)) d even inside)
      ∙ ap (λ (l : List ℕ). word_at (content l) (0 + d)) moment.fields
      ∙ prefix-words (seal_place w) made_bytes (seal_aligned (kind_of w)) d even inside

  pub node-made : kind_of w ≡ rankings → open_node (node_at image w) ≡ open_node (node_in (content made_bytes) 0)
  node-made kind =
      node-here image w kind
      ∙ same-node (content (record_at image w)) 0 (content made_bytes) 0 (subst (λ (s : ℕ). SameWords s (content (record_at image w)) 0 (content made_bytes) 0) (node-seal w kind) words-made)

  pub entry-made : kind_of w ≡ blocks_256 → open_entry (entry_at image w) ≡ open_entry (entry_in (content made_bytes) 0)
  entry-made kind =
      entry-here image w kind
      ∙ same-entry (content (record_at image w)) 0 (content made_bytes) 0 (subst (λ (s : ℕ). SameWords s (content (record_at image w)) 0 (content made_bytes) 0) (entry-seal w kind) words-made)

  -- the checksum itself
  seal-word : (s : ℕ) → seal_place w ≡ s → word_at (byte image (Block (file_selector w))) (place w + s) ≡ word_at (content (record_at image w)) s
  seal-word s is = sym (record_word image w s (omega (arith, is, seal_last (kind_of w))))

  long-record : (s : ℕ) → seal_place w ≡ s → s ≤ length (record_at image w)
  long-record s is = omega (arith, is, length-record w image)

  pub node-checks : kind_of w ≡ rankings → node_checks (node_at image w) ≡ true
  unfolding node_in
  node-checks kind =
      let s : seal_place w ≡ 32 = node-seal w kind in
      node_checks-by (node_at image w) (node_in (content (record_at image w)) 0) (seal-word 32 s) (node-here image w kind)
      ∙ node_checks-prefix (record_at image w) (subst (λ (n : ℕ). AreSmall (take n (record_at image w))) s small-front) (long-record 32 s)
      ∙ subst (λ (n : ℕ). checks n (record_at image w) ≡ true) s moment.checks

  pub entry-checks : kind_of w ≡ blocks_256 → entry_checks (entry_at image w) ≡ true
  unfolding entry_in
  entry-checks kind =
      let s : seal_place w ≡ 92 = entry-seal w kind in
      entry_checks-by (entry_at image w) (entry_in (content (record_at image w)) 0) (seal-word 92 s) (entry-here image w kind)
      ∙ entry_checks-prefix (record_at image w) (subst (λ (n : ℕ). AreSmall (take n (record_at image w))) s small-front) (long-record 92 s)
      ∙ subst (λ (n : ℕ). checks n (record_at image w) ≡ true) s moment.checks
