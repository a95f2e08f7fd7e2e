-- The hints of a header: what keeps them, and how one is set.
use Rattle.std.proofs.Common.{◌≡◌, ℕ, ◌≢◌, ◌+◌, ◌*◌, ◌^◌, ◌<◌, ◌≤◌, List, [], ◌∷◌, Bool, true, false, ◌&&◌, ◌||◌, nat_le, nat_lt, refl, sym, ◌∙◌, ap, subst, arith}
use Rattle.std.proofs.lemmas.Bool.Decides.{nat_tests}
use Rattle.spec_image.specs.Image.{Image, Block, byte, bytes_of, length_of, same_file}
use Rattle.spec_image.specs.Footprint.{Footprint, SameOutside, one_word, size_of}
use Rattle.spec_image.proofs.Footprints.{outside-refl, outside_write, same_word_outside}
use Rattle.spec_image.proofs.Runs.{passes_part, some_inj}
use Rattle.spec_image.proofs.Words.{word-there}
use Rattle.spec_image.proofs.WordSteps.{quiet-word_step, until_word}
use Rattle.spec_image.specs.Bytes.{content, word_at, word_bytes}
use Rattle.spec_image.specs.Steps.{after, word_step}
use Rattle.spec_image.specs.Told.{Told, Applies, AppliesPrefix, Passes, Until}
use Rattle.std.specs.Option.{ForSome, option_map}
use Rattle.spec_format.specs.Headers.{hints_of}
use Rattle.spec_format.proofs.SpareHeaders.{other_file}
use Rattle.blk_disk.specs.declared.tables.BlockFiles.{BlockFiles}
use Rattle.blk_disk.specs.Growth.{addition_of, free_number, growth_of, last_file}
use Rattle.blk_alloc.specs.Extending.{HasNoHints}
use Rattle.blk_alloc.specs.Fitting.{hint_place}
use Rattle.blk_alloc.specs.Changes.{map_of}
use Rattle.blk_alloc.specs.Marking.{HasHint, KeepsHints}
use Rattle.blk_alloc.proofs.Changing.{bytes_after}

growth_spares : (n f k : ℕ) → 40 ≤ k → k < 56 → (growth_of n).bytes (Block f) k ≡ false
growth_spares n f k low high = by_test (same_file (Block n) (Block f))
  where
    by_test : (t : Bool) → (false || ((t && (nat_le 36 k && nat_lt k 40)) || (t && (nat_le 20 k && nat_lt k 24)))) ≡ false
    by_test true = grind (arith, nat_tests)
    by_test false = refl

map_spares : (n f k : ℕ) → 40 ≤ k → k < 56 → (map_of n).bytes (Block f) k ≡ false
map_spares n f k low high = by_test (same_file (Block n) (Block f))
  where
    by_test : (t : Bool) → ((t && (nat_le 16 k && nat_lt k 20)) || ((t && (nat_le 24 k && nat_lt k 40)) || ((t && (nat_le 56 k && nat_lt k 60)) || (t && (nat_le 80 k && nat_lt k 8192))))) ≡ false
    by_test true = grind (arith, nat_tests)
    by_test false = refl

-- where a change spares the hints of a file, each is as it was
pub hint_outside : (F : Footprint) (a b : Image) (n i : ℕ) → SameOutside F a b → ((k : ℕ) → 40 ≤ k → k < 56 → F.bytes (Block n) k ≡ false) → i < 4 → hints_of (byte b (Block n)) i ≡ hints_of (byte a (Block n)) i
hint_outside F a b n i same spares small = same_word_outside F a b (Block n) (40 + 4 * i) same (λ k low high. spares k (omega (arith, low)) (omega (arith, high, small)))

-- a growth and a change of a map keep all hints
pub growth_keeps : (m : ℕ) (from image : Image) → SameOutside (growth_of m) from image → KeepsHints from image
growth_keeps m from image same n i small = hint_outside (growth_of m) from image n i same (growth_spares m n) small

pub map_keeps : (m : ℕ) (from image : Image) → SameOutside (map_of m) from image → KeepsHints from image
map_keeps m from image same n i small = hint_outside (map_of m) from image n i same (map_spares m n) small

-- a change of a length keeps all hints
pub size_keeps : (m : ℕ) (from image : Image) → SameOutside (size_of (Block m)) from image → KeepsHints from image
size_keeps m from image same n i small = hint_outside (size_of (Block m)) from image n i same (λ k low high. refl) small

-- a file that is added keeps the hints of the others
pub addition_keeps : (files : BlockFiles) (kind : ℕ) (from image : Image) → SameOutside (addition_of files kind) from image → (n i : ℕ) → n ≢ free_number files → i < 4 → hints_of (byte image (Block n)) i ≡ hints_of (byte from (Block n)) i
addition_keeps files kind from image same n i other small = hint_outside (addition_of files kind) from image n i same (λ k low high. spared k low) small
  where
    spared : (k : ℕ) → 40 ≤ k → (addition_of files kind).bytes (Block n) k ≡ false
    spared k low = ap (λ (t : Bool). t || (same_file (Block (last_file files kind)) (Block n) && (nat_le 10 k && nat_lt k 12))) (other_file (free_number files) n other) ∙ by_test (same_file (Block (last_file files kind)) (Block n))
      where
        by_test : (t : Bool) → (false || (t && (nat_le 10 k && nat_lt k 12))) ≡ false
        by_test true = grind (arith, nat_tests)
        by_test false = refl

-- one hint is written
pub hint_stops : {a b : Told} (n place at value : ℕ) → at ≡ place → AppliesPrefix a b (word_step (Block n) at value) → ForSome a.files (λ from. Passes a b (SameOutside (one_word (Block n) place) from))
unfolding word_step
hint_stops {a} {b} n place at value is part from there =
    let same = SameOutside (one_word (Block n) place) from in
    let moved : AppliesPrefix a b (word_step (Block n) place value) = subst (λ (k : ℕ). AppliesPrefix a b (word_step (Block n) k value)) is part in
    passes_part same same moved (quiet-word_step (Block n) place value refl) (λ image s. s)
    (λ image here. subst (λ (i : Image). Until same same i (word_step (Block n) place value)) (some_inj (sym there ∙ here))
    (until_word same same (Block n) place value from (outside-refl (one_word (Block n) place) from) (outside_write (Block n) place (word_bytes value) from)))

pub hint_set : {a b : Told} (n i at value : ℕ) → at ≡ hint_place i → i < 4 → value < 2 ^ 32 → Applies a b (word_step (Block n) at value) → ForSome a.files (λ image. 8192 ≤ length_of image (Block n)) → ForSome a.files (λ from. ForSome b.files (HasHint n i value from))
unfolding word_step
hint_set {a} {b} n i at value is small fits grows long from there image now =
    let moved : Applies a b (word_step (Block n) (hint_place i) value) = subst (λ (k : ℕ). Applies a b (word_step (Block n) k value)) is grows in
    let after_is : image ≡ after (word_step (Block n) (hint_place i) value) from = some_inj (sym now ∙ moved.files ∙ ap (option_map (after (word_step (Block n) (hint_place i) value))) there) in
    let room = long from there in
    subst (HasHint n i value from) (sym after_is)
    (record {
      same = outside_write (Block n) (hint_place i) (word_bytes value) from;
      set = ap (λ (l : List ℕ). word_at (content l) (hint_place i)) (bytes_after (Block n) ((hint_place i, value) ∷ []) from) ∙ word-there (hint_place i) value (bytes_of from (Block n)) fits (omega (arith, room, small));
    })

-- where a change spares them, a file without hints has none after it
hints_outside : (F : Footprint) (a b : Image) (n : ℕ) → SameOutside F a b → ((k : ℕ) → 40 ≤ k → k < 56 → F.bytes (Block n) k ≡ false) → HasNoHints a n → HasNoHints b n
hints_outside F a b n same spares none i small = same_word_outside F a b (Block n) (40 + 4 * i) same (λ k low high. spares k (omega (arith, low)) (omega (arith, high, small))) ∙ none i small

pub grown_hints : (m n : ℕ) (from image : Image) → SameOutside (growth_of m) from image → HasNoHints from n → HasNoHints image n
grown_hints m n from image same = hints_outside (growth_of m) from image n same (growth_spares m n)
