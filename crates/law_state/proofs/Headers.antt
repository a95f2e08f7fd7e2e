-- Where headers, lengths and the presence of files are as before, maps, counters and what is valid are.
use Rattle.std.proofs.Common.{◌≡◌, ℕ, ◌+◌, ◌*◌, ◌/◌, ◌<◌, ◌≤◌, List, ap, sym, ◌∙◌, ◌++◌, subst, arith, Bool, true, None}
use Rattle.std.specs.Prelude.{◌==◌, ◌%◌, is_some, filter}
use Rattle.std.specs.Int.{bit_at}
use Rattle.std.specs.List.{All, AllByRecursion}
use Rattle.spec_image.specs.Bytes.{word_at}
use Rattle.spec_image.specs.Image.{Image, Index, Block, External, byte, length_of}
use Rattle.spec_image.proofs.Words.{same-word_at}
use Rattle.spec_format.specs.Address.{block_place}
use Rattle.spec_format.specs.BlockFiles.{block_checks, first_block_damage, linked_as, max_entries_in, most_blocks, next_file_in, stands_in, HasSoundHeaders}
use Rattle.spec_format.specs.Claims.{is_in_file}
use Rattle.spec_format.specs.Headers.{field_checks, list_checks}
use Rattle.spec_format.specs.Maps.{is_block_marked, groups_of, groups_with, EmptyAgrees}
use Rattle.spec_format.specs.Standing.{stands}
use Rattle.spec_format.proofs.Groups.{groups_same}
use Rattle.spec_format.proofs.LinkedHeads.{count_whole, linked_head, HasHead}
use Rattle.spec_format.proofs.Keeping.{none_parts}
use Rattle.law_folder.proofs.claims.ByteChanges.{same-links}
use Rattle.law_state.specs.Changes.{SameHeaders}
use Rattle.law_state.specs.Keeping.{AreFiles, IsMapped}

-- no block file of a folder with valid headers is corrupt
pub undamaged : (image : Image) → HasSoundHeaders image → first_block_damage image ≡ None
unfolding field_checks list_checks
undamaged image well =
    let p = none_parts (field_checks (byte image Index) (length_of image Index)) (list_checks (byte image Index) ++ block_checks image) well in
    (none_parts (list_checks (byte image Index)) (block_checks image) p.1).1

module _ (from image : Image) (same : SameHeaders from image) where
  word : (n i : ℕ) → i + 3 < 8192 → word_at (byte image (Block n)) i ≡ word_at (byte from (Block n)) i
  word n i small = same-word_at (byte image (Block n)) (byte from (Block n)) i (same.headers n i (omega arith)) (same.headers n (i + 1) (omega arith)) (same.headers n (i + 2) (omega arith)) (same.headers n (i + 3) small)

  next-same : (n : ℕ) → next_file_in image n ≡ next_file_in from n
  unfolding next_file_in
  next-same n = λ j. same.headers n 10 (omega arith) j + 256 * same.headers n 11 (omega arith) j

  pub linked-same : (n : ℕ) → linked_as image n ≡ linked_as from n
  linked-same = same-links from image next-same

  pub blocks-same : (n : ℕ) → max_entries_in image n ≡ max_entries_in from n
  unfolding max_entries_in
  blocks-same n = word n 20 (omega arith)

  pub stands-same : stands_in image ≡ stands_in from
  stands-same = λ j w. stands (λ m. linked-same m j) (λ m. blocks-same m j) (λ m. same.lengths m j) (λ m. same.files (External m) j) w

  pub stand-same : (words : List ℕ) → AllByRecursion (λ w. stands_in from w ≡ true) words → AllByRecursion (λ w. stands_in image w ≡ true) words
  stand-same words all = subst (λ (f : ℕ → Bool). AllByRecursion (λ w. f w ≡ true) words) (sym stands-same) all

  marks-same : (n b : ℕ) → b < most_blocks → is_block_marked image n b ≡ is_block_marked from n b
  marks-same n b small = ap (λ (x : ℕ). bit_at x (b % 8) == 1) (same.headers n (80 + b / 8) (omega arith))

  pub mapped-same : (n : ℕ) (words : List ℕ) → max_entries_in from n ≤ most_blocks → IsMapped from words n → IsMapped image words n
  unfolding EmptyAgrees
  mapped-same n words few m = record {
    allocations = record {
      stand = subst (λ (f : ℕ → Bool). All (λ w. f w ≡ true) (filter (is_in_file n) words)) (sym stands-same) m.allocations.stand;
      here = m.allocations.here;
      apart = m.allocations.apart;
      marks = λ b small. marks-same n b small ∙ m.allocations.marks b small;
      counted = word n 16 (omega arith) ∙ m.allocations.counted;
    };
    empty = λ i small. word n (24 + 4 * i) (omega (arith, small)) ∙ m.empty i small
        ∙ sym (groups_same (is_block_marked image n) (is_block_marked from n) (groups_of (max_entries_in from n)) (i + 1) (λ b below. marks-same n b (omega (arith, below, few))))
        ∙ (λ k. groups_with (is_block_marked image n) (groups_of (sym (blocks-same n) k)) (i + 1));
    updating = word n 56 (omega arith) ∙ m.updating;
  }

  pub files-same : (words : List ℕ) → HasSoundHeaders from → AreFiles from words → AreFiles image words
  files-same words well are = record {
    mapped = λ n e.
        let was : is_some (linked_as from n) ≡ true = ap (λ o. is_some o) (sym (linked-same n)) ∙ e in
        let head : HasHead from n = linked_head from n (undamaged from well) was in
        mapped-same n words (count_whole (max_entries_in from n) head.count).1 (are.mapped n was);
    externals = λ n small. same.files (External n) ∙ are.externals n small;
    only_linked = λ n small. same.files (Block n) ∙ are.only_linked n small ∙ ap (λ o. is_some o) (sym (linked-same n));
    long_enough = λ n kind e.
        subst (λ (l : ℕ). block_place kind (max_entries_in image n) ≤ l) (sym (same.lengths n))
        (subst (λ (b : ℕ). block_place kind b ≤ length_of from (Block n)) (sym (blocks-same n)) (are.long_enough n kind (sym (linked-same n) ∙ e)));
  }
