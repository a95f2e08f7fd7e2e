-- The counters of the index are written, and count one item less.
use Rattle.std.proofs.Common.{◌≡◌, ℕ, ◌+◌, ◌/◌, ◌%◌, ◌<◌, ◌≤◌, List, [], ◌∷◌, refl, sym, ap, ◌∙◌, subst, arith, lit≤}
use Rattle.std.specs.Prelude.{◌^◌, ◌-◌, length}
use Rattle.std.specs.Option.{ForSome}
use Rattle.spec_image.specs.Footprint.{one_word}
use Rattle.spec_image.specs.Image.{AreBytes, Image, Index, byte}
use Rattle.spec_image.proofs.ByteSteps.{word-small}
use Rattle.spec_image.specs.Bytes.{word_bytes}
use Rattle.spec_image.specs.Steps.{TrailStep, after, word_step, word_steps}
use Rattle.spec_image.specs.Told.{Along, Applies, AppliesPrefix, IsQuiet, Passes, Told}
use Rattle.spec_image.proofs.Images.{length-after_write}
use Rattle.spec_image.proofs.Runs.{passes_part, some_inj, told_part, told_whole}
use Rattle.blk_disk.specs.declared.tables.BlockFiles.{BlockFiles}
use Rattle.blk_disk.specs.Open.{IsOpen}
use Rattle.blk_disk.proofs.Agreeing.{agrees_still}
use Rattle.blk_chain.proofs.Links.{index_spares, index_word}
use Rattle.spec_format.specs.Headers.{num_bytes64_of, num_entries_of, sizes_of}
use Rattle.law_folder.specs.IndexWrites.{IsIndexWord}
use Rattle.law_state.specs.Changes.{KeepsWith}
use Rattle.law_state.specs.CounterLaws.{AreCountersWritten, charged}
use Rattle.law_state.proofs.Charges.{charges-small}
use Rattle.law_state.proofs.Counters.{counter-keeps, counters-count}
use Rattle.blk_object.specs.Counters.{AreCountedLess, AreCountedMore, AreIndexCounters, LessIsCounted, MoreIsCounted}
use Rattle.blk_object.specs.declared.counters.Counters.{Counters}
use Rattle.spec_format.proofs.Counts.{its-bytes64, its-entries, its-nodes}
use Rattle.blk_object.proofs.Counts.{sum-small, written-as}

-- the words that are written
abbrev pub counter_words : (entries low high size : ℕ) → List (ℕ × ℕ)
counter_words entries low high size = (8, entries) ∷ (48, low) ∷ (52, high) ∷ (268, size) ∷ []

abbrev pub counter_steps : (entries low high size : ℕ) → List TrailStep
counter_steps entries low high size = word_steps Index (counter_words entries low high size)

-- one word that is written leaves the folder open
pub open-word : (files : BlockFiles) (from : Image) (at x : ℕ) → IsIndexWord at x from (after (word_step Index at x) from) → IsOpen files from → IsOpen files (after (word_step Index at x) from)
unfolding word_step
open-word files from at x is open_folder = record {
  agrees = agrees_still (one_word Index at) from (after (word_step Index at x) from) (index_spares at) is.outside files (λ n. refl) open_folder.agrees;
  whole_index = length-after_write from Index Index at (word_bytes x) ∙ open_folder.whole_index;
}

module _ (files : BlockFiles) (from : Image) (entries low high size : ℕ) (open_folder : IsOpen files from) (small_entries : entries < 2 ^ 32) (small_low : low < 2 ^ 32) (small_high : high < 2 ^ 32) (small_size : size < 2 ^ 32) where
  abbrev pub first : Image
  first = after (word_step Index 8 entries) from

  abbrev pub between : Image
  between = after (word_step Index 48 low) first

  abbrev pub second : Image
  second = after (word_step Index 52 high) between

  abbrev pub third : Image
  third = after (word_step Index 268 size) second

  pub entries-set : IsIndexWord 8 entries from first
  entries-set = index_word from 8 entries small_entries (subst (λ (n : ℕ). 12 ≤ n) (sym open_folder.whole_index) (lit≤ tt))

  first-open : IsOpen files first
  first-open = open-word files from 8 entries entries-set open_folder

  pub low-set : IsIndexWord 48 low first between
  low-set = index_word first 48 low small_low (subst (λ (n : ℕ). 52 ≤ n) (sym first-open.whole_index) (lit≤ tt))

  between-open : IsOpen files between
  between-open = open-word files first 48 low low-set first-open

  pub high-set : IsIndexWord 52 high between second
  high-set = index_word between 52 high small_high (subst (λ (n : ℕ). 56 ≤ n) (sym between-open.whole_index) (lit≤ tt))

  second-open : IsOpen files second
  second-open = open-word files between 52 high high-set between-open

  pub size-set : IsIndexWord 268 size second third
  size-set = index_word second 268 size small_size (subst (λ (n : ℕ). 272 ≤ n) (sym second-open.whole_index) (lit≤ tt))

  third-open : IsOpen files third
  third-open = open-word files second 268 size size-set second-open

  first-keeps : KeepsWith [] [] from first
  first-keeps = counter-keeps from first 8 entries refl entries-set

  between-keeps : KeepsWith [] [] from between
  between-keeps state layout unlinked k = counter-keeps first between 48 low refl low-set state layout unlinked (first-keeps state layout unlinked k)

  second-keeps : KeepsWith [] [] from second
  second-keeps state layout unlinked k = counter-keeps between second 52 high refl high-set state layout unlinked (between-keeps state layout unlinked k)

  third-keeps : KeepsWith [] [] from third
  third-keeps state layout unlinked k = counter-keeps second third 268 size refl size-set state layout unlinked (second-keeps state layout unlinked k)

  -- at each word the state is kept
  pub counters-along : Along (KeepsWith [] [] from) from (counter_steps entries low high size)
  unfolding word_step
  counters-along = ((λ state layout unlinked k. k), (first-keeps, (between-keeps, (second-keeps, third-keeps))))

  pub opens-along : Along (IsOpen files) from (counter_steps entries low high size)
  unfolding word_step
  opens-along = (open_folder, (first-open, (between-open, (second-open, third-open))))

  pub counters-end : (bytes : ℕ) → low ≡ bytes % 2 ^ 32 → high ≡ bytes / 2 ^ 32 → AreCountersWritten entries bytes size from (after (counter_steps entries low high size) from)
  unfolding word_step
  counters-end bytes low_is high_is = record {
    first = first;
    second = second;
    items_written = entries-set;
    sum_written = record { between = between; low = subst (λ (n : ℕ). IsIndexWord 48 n first between) low_is low-set; high = subst (λ (n : ℕ). IsIndexWord 52 n between second) high_is high-set };
    nodes_written = size-set;
  }

pub quiet-counters : (entries low high size : ℕ) → IsQuiet (counter_steps entries low high size)
unfolding word_step
quiet-counters entries low high size = tt

module _ (files : BlockFiles) (a b : Told) (entries low high size : ℕ) (open_folder : ForSome a.files (IsOpen files)) (small_entries : entries < 2 ^ 32) (small_low : low < 2 ^ 32) (small_high : high < 2 ^ 32) (small_size : size < 2 ^ 32) where
  pub counters-set : (bytes : ℕ) → low ≡ bytes % 2 ^ 32 → high ≡ bytes / 2 ^ 32 → Applies a b (counter_steps entries low high size) → ForSome a.files (λ from. ForSome b.files (AreCountersWritten entries bytes size from))
  counters-set bytes low_is high_is applies from there = told_whole (AreCountersWritten entries bytes size from) applies (λ image is.
      subst (λ (i : Image). AreCountersWritten entries bytes size from (after (counter_steps entries low high size) i)) (some_inj (sym there ∙ is))
      (counters-end files from entries low high size (open_folder from there) small_entries small_low small_high small_size bytes low_is high_is))

  pub counters-stop : AppliesPrefix a b (counter_steps entries low high size) → ForSome a.files (λ from. Passes a b (KeepsWith [] [] from))
  counters-stop part from there = passes_part (KeepsWith [] [] from) (KeepsWith [] [] from) part (quiet-counters entries low high size) (λ image keeps. keeps)
      (λ image is. subst (λ (i : Image). Along (KeepsWith [] [] from) i (counter_steps entries low high size)) (some_inj (sym there ∙ is)) (counters-along files from entries low high size (open_folder from there) small_entries small_low small_high small_size))

  pub counters-open : AppliesPrefix a b (counter_steps entries low high size) → ForSome b.files (IsOpen files)
  counters-open part = told_part (IsOpen files) part (λ from there. opens-along files from entries low high size (open_folder from there) small_entries small_low small_high small_size)

-- ---- what they count

-- what is less by a number modulo 2 ^ 32, and more by it again, is as it was
pub less-and-more : (x y : ℕ) → x < 2 ^ 32 → y < 2 ^ 32 → ((x + (2 ^ 32 - y)) % 2 ^ 32 + y) % 2 ^ 32 ≡ x
less-and-more x y one other = omega (arith, one, other)

long-less-and-more : (x y : ℕ) → x < 2 ^ 64 → y < 2 ^ 64 → ((x + (2 ^ 64 - y)) % 2 ^ 64 + y) % 2 ^ 64 ≡ x
long-less-and-more x y one other = omega (arith, one, other)

pub below-word : (x : ℕ) → x % 2 ^ 32 < 2 ^ 32
below-word x = omega arith

below-long : (x : ℕ) → x % 2 ^ 64 < 2 ^ 64
below-long x = omega arith

-- the counters that were read are written less
pub counted-less : (counters : Counters) (charge : ℕ) (from image : Image) → AreIndexCounters counters from → AreBytes from → charge < 2 ^ 64
    → AreCountersWritten ((counters.entries + (2 ^ 32 - 1)) % 2 ^ 32) ((counters.bytes + (2 ^ 64 - charge)) % 2 ^ 64) ((counters.size + (2 ^ 32 - 1)) % 2 ^ 32) from image → AreCountedLess charge from image
counted-less counters charge from image are bytes c set =
    let e : counters.entries < 2 ^ 32 = subst (λ (x : ℕ). x < 2 ^ 32) (sym are.entries) (word-small from Index 8 bytes) in
    let b : counters.bytes < 2 ^ 64 = subst (λ (x : ℕ). x < 2 ^ 64) (sym are.bytes) (sum-small from bytes) in
    let s : counters.size < 2 ^ 32 = subst (λ (x : ℕ). x < 2 ^ 32) (sym are.size) (word-small from Index 268 bytes) in
    record {
      entries = (counters.entries + (2 ^ 32 - 1)) % 2 ^ 32;
      bytes = (counters.bytes + (2 ^ 64 - charge)) % 2 ^ 64;
      size = (counters.size + (2 ^ 32 - 1)) % 2 ^ 32;
      small = (below-word (counters.entries + (2 ^ 32 - 1)), (below-long (counters.bytes + (2 ^ 64 - charge)), below-word (counters.size + (2 ^ 32 - 1))));
      entries_less = less-and-more counters.entries 1 e (omega arith) ∙ are.entries;
      bytes_less = long-less-and-more counters.bytes charge b c ∙ are.bytes;
      size_less = less-and-more counters.size 1 s (omega arith) ∙ are.size;
      written = set;
    }

pub one-less : (x n m : ℕ) → x < 2 ^ 32 → (x + 1) % 2 ^ 32 ≡ n → m + 1 ≡ n → x ≡ m
one-less x n m small is less = omega (arith, small, is, less)

pub charge-less : (x s t c : ℕ) → x < 2 ^ 64 → (x + c) % 2 ^ 64 ≡ t → s + c ≡ t → x ≡ s
charge-less x s t c small is less = omega (arith, small, is, less)

pub less-counted : LessIsCounted
less-counted state after layout now unlinked charge from image counts less k l =
    let f : ℕ → ℕ = byte from Index in
    let items = one-less l.entries (length state.uses) (length after.uses) l.small.0 (l.entries_less ∙ its-entries f (length state.uses) (charged state layout) counts) less.items in
    let sum = charge-less l.bytes (charged after now) (charged state layout) charge l.small.1.0 (l.bytes_less ∙ its-bytes64 f (length state.uses) (charged state layout) counts) less.bytes in
    let nodes = one-less l.size (length state.uses) (length after.uses) l.small.1.1 (l.size_less ∙ its-nodes f (length state.uses) (charged state layout) counts) less.items in
    counters-count after state now layout unlinked from image k counts
    (written-as from image l.entries l.bytes l.size (length after.uses) (charged after now) (length after.uses) items sum nodes l.written)

-- ---- more

more-words : (x w n : ℕ) → x ≡ w → (x + n % 2 ^ 32) % 2 ^ 32 ≡ (w + n) % 2 ^ 32
more-words x w n is = omega (arith, is)

-- the counters that were read are written more
pub counted-more : (counters : Counters) (entries charge : ℕ) (from image : Image) → AreIndexCounters counters from
    → AreCountersWritten ((counters.entries + entries % 2 ^ 32) % 2 ^ 32) ((counters.bytes + charge) % 2 ^ 64) ((counters.size + entries % 2 ^ 32) % 2 ^ 32) from image → AreCountedMore entries charge from image
counted-more counters entries charge from image are set =
    let f : ℕ → ℕ = byte from Index in
    written-as from image
    ((counters.entries + entries % 2 ^ 32) % 2 ^ 32) ((counters.bytes + charge) % 2 ^ 64) ((counters.size + entries % 2 ^ 32) % 2 ^ 32)
    ((num_entries_of f + entries) % 2 ^ 32) ((num_bytes64_of f + charge) % 2 ^ 64) ((sizes_of f 0 + entries) % 2 ^ 32)
    (more-words counters.entries (num_entries_of f) entries are.entries) (ap (λ (n : ℕ). (n + charge) % 2 ^ 64) are.bytes) (more-words counters.size (sizes_of f 0) entries are.size) set

so-many-more : (w n m k : ℕ) → w ≡ n → k ≡ n + m → k < 2 ^ 32 → (w + m) % 2 ^ 32 ≡ k
so-many-more w n m k is more small = omega (arith, is, more, small)

pub charge-more : (w s t c : ℕ) → w ≡ s → t ≡ s + c → t < 2 ^ 64 → (w + c) % 2 ^ 64 ≡ t
charge-more w s t c is more small = omega (arith, is, more, small)

pub more-counted : MoreIsCounted
more-counted state after layout now unlinked entries charge from image counts more k small set =
    let f : ℕ → ℕ = byte from Index in
    counters-count after state now layout unlinked from image k counts
    (written-as from image
    ((num_entries_of f + entries) % 2 ^ 32) ((num_bytes64_of f + charge) % 2 ^ 64) ((sizes_of f 0 + entries) % 2 ^ 32) (length after.uses) (charged after now) (length after.uses)
    (so-many-more (num_entries_of f) (length state.uses) entries (length after.uses) (its-entries f (length state.uses) (charged state layout) counts) more.items small)
    (charge-more (num_bytes64_of f) (charged state layout) (charged after now) charge (its-bytes64 f (length state.uses) (charged state layout) counts) more.bytes (charges-small after now unlinked from k))
    (so-many-more (sizes_of f 0) (length state.uses) entries (length after.uses) (its-nodes f (length state.uses) (charged state layout) counts) more.items small)
    set)
