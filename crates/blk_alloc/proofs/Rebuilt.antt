-- Files that are rebuilt one after another, in the order of their numbers.
use Rattle.std.proofs.Common.{◌≡◌, ◌≢◌, ℕ, ◌+◌, ◌<◌, ◌≤◌, List, [], ◌∷◌, Bool, true, false, if◌then◌else◌, max, nat_lt, Option, None, Some, refl, sym, ◌∙◌, ap, ap₂, subst, arith, ⊎_elim}
use Rattle.std.specs.Option.{ForSome, option_map}
use Rattle.std.proofs.lemmas.List.{append-nil}
use Rattle.std.proofs.lemmas.Bool.Decides.{nat_tests}
use Rattle.std.proofs.lemmas.Bool.{cases_eq}
use Rattle.spec_image.specs.Image.{Image, Block, External}
use Rattle.spec_image.specs.Steps.{SetLength, TrailStep, after}
use Rattle.spec_image.specs.Told.{Applies, PassesTo, Stays, Told, Trail, longer}
use Rattle.spec_image.proofs.Runs.{part_whole, passes_end, some_inj}
use Rattle.spec_format.specs.BlockFiles.{is_among}
use Rattle.blk_addr.specs.declared.claim_set.Claims.{Claims}
use Rattle.blk_disk.specs.declared.tables.BlockFiles.{BlockFiles}
use Rattle.blk_disk.specs.Tables.{Agrees, Resizes, all_files, length_in}
use Rattle.blk_disk.specs.Growth.{fit_steps, whole_length}
use Rattle.blk_alloc.specs.Extending.{HasItsBlocks}
use Rattle.blk_alloc.specs.Mending.{PassesNeeded}
use Rattle.blk_alloc.specs.Rebuilding.{is_block_file, AreItsAllocations, AreRight, IsRebuilding, IsRebuilt}
use Rattle.blk_io.proofs.Carried.{told_at_end}
use Rattle.blk_alloc.proofs.Fitted.{HasFitted, long_still, none_fitted, none_more, one_fitted}
use Rattle.blk_disk.proofs.WholeHeaders.{all_head}
use Rattle.blk_alloc.proofs.Owned.{allocations_are, stands_still}
use Rattle.blk_alloc.proofs.Remade.{one_more, others_kept, rebuilding_begin, rebuilt_same}
use Rattle.spec_format.proofs.Growths.{grown_blocks}
use Rattle.blk_alloc.proofs.Needed.{needed_end, needed_none, needed_part, needed_then, needed_weaker, passes_first}

-- the ghost state of a folder, made of its two parts: files and write trace
abbrev told_of : Option Image → Option Trail → Told
told_of files trail = record { files = files; trail = trail }

-- no step was made
pub told_same : (a b : Told) → Applies a b [] → b ≡ a
told_same a b applies = ap₂ told_of (applies.files ∙ files_none a.files) (applies.trail ∙ trail_none a.trail)
  where
    files_none : (o : Option Image) → option_map (after []) o ≡ o
    files_none None = refl
    files_none (Some image) = refl

    trail_none : (o : Option Trail) → option_map (longer []) o ≡ o
    trail_none None = refl
    trail_none (Some trail) = ap (λ (s : List TrailStep). Some (record { start = trail.start; steps = s })) (append-nil trail.steps)

-- a file is lengthened only where it is shorter
pub fit_needed : {a b : Told} (files : BlockFiles) (n : ℕ) (from : Image) (P : Image → Type 0) → a.files ≡ Some from → Agrees files from → is_among (all_files files) n ≡ true → Applies a b (fit_steps files n) → PassesTo a b P P → PassesNeeded a b P
fit_needed {a} {b} files n from P there agrees among applies passes = by_test (nat_lt (length_in files n) (whole_length files n)) refl applies
  where
    by_test : (t : Bool) → nat_lt (length_in files n) (whole_length files n) ≡ t → Applies a b (if t then SetLength (Block n) (whole_length files n) ∷ [] else []) → PassesNeeded a b P
    by_test true e made =
        let now : b.files ≡ Some (after (SetLength (Block n) (whole_length files n) ∷ []) from) = made.files ∙ ap (option_map (after (SetLength (Block n) (whole_length files n) ∷ []))) there in
        needed_part P from there (part_whole made) tt (passes_first from there passes, passes_end passes _ now)
        (let same = agrees.lengths n among in let test : length_in files n < whole_length files n = grind (arith, nat_tests) in omega (arith, same, test), tt)
    by_test false e made = needed_none P (told_same a b made) (λ image is. subst P (some_inj (sym there ∙ is)) (passes_first from there passes))

-- a file that has all its blocks isn't lengthened
pub fitted_none : (files : BlockFiles) (n : ℕ) (a b : Told) → HasItsBlocks files n → Applies a b (fit_steps files n) → b ≡ a
fitted_none files n a b long applies =
    told_same a b (subst (λ (t : Bool). Applies a b (if t then SetLength (Block n) (whole_length files n) ∷ [] else [])) (short (length_in files n) (whole_length files n) long) applies)
  where
    short : (x y : ℕ) → y ≤ x → nat_lt x y ≡ false
    short x y low = grind (arith, nat_tests)

-- the linked files whose numbers are below one are rebuilt, and all others are as before
pub record HasRebuilt (a b : Told) (old now : BlockFiles) (claims : Claims) (count : ℕ) : Type 0 where
  pub rebuilt : ForSome b.files (λ image. (n : ℕ) → n < count → is_among (all_files old) n ≡ true → IsRebuilt claims image n)
  pub untouched : ForSome a.files (λ from. ForSome b.files (λ image. (n : ℕ) → count ≤ n → image (Block n) ≡ from (Block n)))
  pub fitted : HasFitted old now count
  pub agrees : ForSome b.files (Agrees now)
  pub stops : ForSome a.files (λ from. PassesNeeded a b (IsRebuilding claims (all_files old) from))
  pub clean : ForSome a.files (λ from. AreRight claims old from → Stays a b)
  pub silent : a.files ≡ None → b.files ≡ None

pub none_rebuilt : (a : Told) (files : BlockFiles) (claims : Claims) → ForSome a.files (Agrees files) → HasRebuilt a a files files claims 0
none_rebuilt a files claims agrees = record {
  rebuilt = λ image there n below among. absurd (omega (arith, below));
  untouched = λ from there image now n high. ap (λ (i : Image). i (Block n)) (some_inj (sym now ∙ there));
  fitted = none_fitted files;
  agrees = agrees;
  stops = λ from there. needed_none (IsRebuilding claims (all_files files) from) refl (λ image is. subst (IsRebuilding claims (all_files files) from) (some_inj (sym there ∙ is)) (rebuilding_begin claims (all_files files) from));
  clean = λ from there right. refl;
  silent = λ none. none;
}

module _ (a b : Told) (old mid : BlockFiles) (claims : Claims) (n : ℕ) (before : HasRebuilt a b old mid claims n) where
  -- a file that isn't linked is passed over
  pub next_none : is_among (all_files mid) n ≡ false → HasRebuilt a b old mid claims (n + 1)
  next_none apart = record {
    rebuilt = λ image now m below among. ⊎_elim (λ (e : m ≡ n). absurd (clash (sym (sym (ap (is_among (all_files old)) e) ∙ among) ∙ ap (λ (l : List ℕ). is_among l n) (sym before.fitted.all) ∙ apart))) (λ (differs : m ≢ n). before.rebuilt image now m (omega (arith, below, differs)) among) (cases_eq m n);
    untouched = λ from there image now m high. before.untouched from there image now m (omega (arith, high));
    fitted = none_more old mid n apart before.fitted;
    agrees = before.agrees;
    stops = before.stops;
    clean = before.clean;
    silent = before.silent;
  }
    where
      clash : true ≡ false → ⊥
      clash e = cc

  module _ (c : Told) (linked : is_among (all_files mid) n ≡ true) (stops : ForSome b.files (λ from. PassesNeeded b c (IsRebuilding claims (n ∷ []) from))) where
    among : is_among (all_files old) n ≡ true
    among = ap (λ (l : List ℕ). is_among l n) (sym before.fitted.all) ∙ linked

    -- a linked file is under way
    pub next_stops : ForSome a.files (λ from. PassesNeeded a c (IsRebuilding claims (all_files old) from))
    next_stops from there =
        needed_then from there (before.stops from there)
        (λ image now so_far.
        let keeps : (i : Image) → IsRebuilding claims (n ∷ []) image i → IsRebuilding claims (all_files old) from i = λ i more. one_more claims (all_files old) n among from image so_far (before.untouched from there image now n (omega arith)) i more in
        needed_weaker (stops image now) keeps)

    -- where all are right, nothing is written
    pub next_clean : ForSome b.files (λ from. HasItsBlocks mid n → IsRebuilt claims from n → Stays b c) → ForSome a.files (λ from. AreRight claims old from → Stays a c)
    next_clean clean from there right =
        let same = before.clean from there right in
        let here = right n among in
        clean from (ap (λ (t : Told). t.files) same ∙ there) (long_still old mid n before.fitted here.0) here.1 ∙ same

    -- the next file is rebuilt
    pub next_rebuilt : (new : BlockFiles) → (b.files ≡ None → c.files ≡ None) → ForSome c.files (λ image. IsRebuilt claims image n) → Resizes mid new n (max (length_in mid n) (whole_length mid n)) → ForSome c.files (Agrees new) → ForSome b.files (λ from. HasItsBlocks mid n → IsRebuilt claims from n → Stays b c) → HasRebuilt a c old new claims (n + 1)
    next_rebuilt new silent done resizes agrees clean = record {
      rebuilt =
          told_at_end b.files c.files (λ image. (m : ℕ) → m < n + 1 → is_among (all_files old) m ≡ true → IsRebuilt claims image m) silent
          (λ image now later is m below there.
          ⊎_elim (λ (e : m ≡ n). subst (IsRebuilt claims later) (sym e) (done later is))
          (λ (differs : m ≢ n). rebuilt_same claims image later m (others_kept claims n m image later differs (needed_end (stops image now) later is)) (before.rebuilt image now m (omega (arith, below, differs)) there)) (cases_eq m n));
      untouched = λ from there.
          told_at_end b.files c.files (λ image. (m : ℕ) → n + 1 ≤ m → image (Block m) ≡ from (Block m)) silent
          (λ image now later is m high. others_kept claims n m image later (above m high) (needed_end (stops image now) later is) ∙ before.untouched from there image now m (omega (arith, high)));
      fitted = one_fitted old mid new n before.fitted resizes;
      agrees = agrees;
      stops = next_stops;
      clean = next_clean clean;
      silent = λ none. silent (before.silent none);
    }
      where
        above : (m : ℕ) → n + 1 ≤ m → m ≢ n
        above m high e = absurd (omega (arith, high, e))

-- All files.

module _ (a b : Told) (old now : BlockFiles) (claims : Claims) (count : ℕ) (all : 256 ≤ count) (agrees : ForSome a.files (Agrees old)) (has : HasRebuilt a b old now claims count) where
  -- all linked files are rebuilt
  pub all_rebuilt : ForSome b.files (λ image. (n : ℕ) → is_among (all_files old) n ≡ true → IsRebuilt claims image n)
  all_rebuilt =
      told_at_end a.files b.files (λ image. (n : ℕ) → is_among (all_files old) n ≡ true → IsRebuilt claims image n) has.silent
      (λ from there image is n among. let small = (all_head old from n (agrees from there) among).number in has.rebuilt image is n (omega (arith, small, all)) among)

  -- the addresses of each that were added are its allocations
  pub all_allocations : ForSome a.files (λ from. ForSome b.files (AreItsAllocations claims (all_files old) from))
  all_allocations from there image is words of n among stand =
      let rebuilding = needed_end (has.stops from there) image is in
      let keeps = grown_blocks from image rebuilding.stays.grown in
      allocations_are claims words n from image of (all_rebuilt image is n among) (λ w. stands_still from image w keeps (λ m. rebuilding.same.files (External m) (unfold is_block_file in refl))) stand
