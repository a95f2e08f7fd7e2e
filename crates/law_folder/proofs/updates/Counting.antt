-- What stays in order where no header of a block file and no counter of the index changes.
use Rattle.std.proofs.Common.{◌≡◌, ℕ, ◌+◌, ◌*◌, ◌/◌, ◌%◌, ◌<◌, ◌≤◌, List, refl, sym, ◌∙◌, ap, subst, Bool, true, false, arith, Option, Some, None}
use Rattle.std.specs.Prelude.{◌==◌, ◌++◌, if◌then◌else◌, is_some}
use Rattle.spec_image.specs.Bytes.{word_at}
use Rattle.spec_image.specs.Image.{File, Index, Block, External, Image, byte, length_of}
use Rattle.spec_image.specs.Footprint.{Footprint, SameOutside}
use Rattle.spec_image.proofs.Words.{same-word_at}
use Rattle.spec_format.specs.Maps.{is_block_marked, groups_of, groups_with, EmptyAgrees}
use Rattle.spec_format.specs.Address.{block_place, is_block_kind}
use Rattle.spec_format.specs.Headers.{field_checks, list_checks}
use Rattle.spec_format.specs.BlockFiles.{block_checks, is_among, linked, max_entries_in, linked_as, kind_among, most_blocks, HasSoundHeaders}
use Rattle.spec_format.proofs.Keeping.{none_parts}
use Rattle.spec_format.proofs.LinkedHeads.{count_whole, linked_checked}
use Rattle.std.specs.Int.{bit_at}
use Rattle.spec_format.proofs.SpareHeaders.{SparesHeaders, next_same, blocks_same}
use Rattle.spec_folder.specs.Sound.{AreLongEnough, CountersAgree, OnlyLinked}
use Rattle.law_folder.specs.TidyLaws.{FilesStandBehindHeaders}
use Rattle.law_folder.proofs.claims.ByteChanges.{same-links}
use Rattle.spec_format.proofs.Groups.{groups_same}

-- a linked file of a folder with valid headers has no more blocks than a file may have
some-type : (lists : ℕ → List ℕ) (n : ℕ) → is_some (kind_among lists n) ≡ true → (kind : ℕ) × (is_block_kind kind ≡ true) × (is_among (lists kind) n ≡ true)
unfolding kind_among
some-type lists n some = go (is_among (lists 1) n) (is_among (lists 2) n) (is_among (lists 3) n) (is_among (lists 4) n) refl refl refl refl some where
  go : (a b c d : Bool) → is_among (lists 1) n ≡ a → is_among (lists 2) n ≡ b → is_among (lists 3) n ≡ c → is_among (lists 4) n ≡ d
      → is_some {T = ℕ} (if a then Some 1 else if b then Some 2 else if c then Some 3 else if d then Some 4 else None) ≡ true → (kind : ℕ) × (is_block_kind kind ≡ true) × (is_among (lists kind) n ≡ true)
  go true b c d e f g h some = (1, refl, e)
  go false true c d e f g h some = (2, refl, f)
  go false false true d e f g h some = (3, refl, g)
  go false false false true e f g h some = (4, refl, h)
  go false false false false e f g h some = absurd (let bad : false ≡ true = some in cc)

pub few-blocks : (image : Image) (n : ℕ) → HasSoundHeaders image → is_some (linked_as image n) ≡ true → max_entries_in image n ≤ most_blocks
unfolding field_checks list_checks
few-blocks image n sound some =
    let p = none_parts (field_checks (byte image Index) (length_of image Index)) (list_checks (byte image Index) ++ block_checks image) sound in
    let q = none_parts (list_checks (byte image Index)) (block_checks image) p.1 in
    let k = some-type (linked image) n some in
    (count_whole (max_entries_in image n) (linked_checked image k.0 n q.1 k.1 k.2).count).1

module _ (F : Footprint) (from image : Image) (spares : SparesHeaders F) (sizes : (file : File) → F.sizes file ≡ false) (same : SameOutside F from image) where
  head-byte : (n i : ℕ) → i < 8192 → byte image (Block n) i ≡ byte from (Block n) i
  head-byte n i small = same.bytes (Block n) i (spares.bytes n i small)

  head-word : (n i : ℕ) → i + 3 < 8192 → word_at (byte image (Block n)) i ≡ word_at (byte from (Block n)) i
  head-word n i small = same-word_at (byte image (Block n)) (byte from (Block n)) i (head-byte n i (omega arith)) (head-byte n (i + 1) (omega arith)) (head-byte n (i + 2) (omega arith)) (head-byte n (i + 3) small)

  pub links-same : (n : ℕ) → linked_as image n ≡ linked_as from n
  links-same n = same-links from image (λ m. ap (λ (next : ℕ → ℕ). next m) (next_same F from image spares same)) n

  pub marks-same : (n b : ℕ) → b < most_blocks → is_block_marked image n b ≡ is_block_marked from n b
  marks-same n b small = ap (λ (x : ℕ). bit_at x (b % 8) == 1) (head-byte n (80 + b / 8) (omega arith))

  pub empty-same : (n : ℕ) → max_entries_in from n ≤ most_blocks → EmptyAgrees from n → EmptyAgrees image n
  unfolding EmptyAgrees
  empty-same n few agrees i small =
      head-word n (24 + 4 * i) (omega arith) ∙ agrees i small
      ∙ sym (ap (λ (k : ℕ). groups_with (is_block_marked image n) (groups_of k) (i + 1)) (blocks_same F from image spares same n)
      ∙ groups_same (is_block_marked image n) (is_block_marked from n) (groups_of (max_entries_in from n)) (i + 1) (λ b below. marks-same n b (omega arith)))

  pub counted-same : (n : ℕ) (words : List ℕ) → max_entries_in from n ≤ most_blocks → CountersAgree from words n → CountersAgree image words n
  counted-same n words few is = record {
    num_entries = head-word n 16 (omega arith) ∙ is.num_entries;
    empty = empty-same n few is.empty;
    updating = head-word n 56 (omega arith) ∙ is.updating;
  }

  pub only-same : OnlyLinked from → OnlyLinked image
  only-same only n small = same.files (Block n) (sizes (Block n)) ∙ only n small ∙ ap (λ (o : Option ℕ). is_some o) (sym (links-same n))

  pub long-same : AreLongEnough from → AreLongEnough image
  long-same long n kind linked =
      let l = long n kind (sym (links-same n) ∙ linked) in
      let a = same.lengths (Block n) (sizes (Block n)) in
      subst (λ (e : ℕ). block_place kind e ≤ length_of image (Block n)) (sym (blocks_same F from image spares same n)) (subst (λ (k : ℕ). block_place kind (max_entries_in from n) ≤ k) (sym a) l)

pub files-stand : FilesStandBehindHeaders
files-stand footprint from image behind same sound =
    let spares : SparesHeaders footprint = record { bytes = behind.bytes } in
    record {
      links = links-same footprint from image spares behind.sizes same;
      marks = marks-same footprint from image spares behind.sizes same;
      counted = λ n words some is. counted-same footprint from image spares behind.sizes same n words (few-blocks from n sound some) is;
      only_linked = only-same footprint from image spares behind.sizes same;
      long_enough = long-same footprint from image spares behind.sizes same;
      externals = λ n. same.files (External n) (behind.sizes (External n));
    }
