-- A folder is opened, its totals are printed, and its session ends.
use Rattle.std.proofs.Common.{◌≡◌, ℕ, List, [], ◌++◌, Option, None, Some, Err, refl, sym, ◌∙◌, ap, subst, arith, lit≤}
use Rattle.std.specs.Option.{ForSome, option_map}
use Rattle.std.proofs.lemmas.List.{append-nil}
use Rattle.spec_image.specs.Bytes.{word_bytes}
use Rattle.spec_image.specs.Checks as checks
use Rattle.spec_image.specs.Image.{Image, Index, byte, word}
use Rattle.spec_image.specs.Steps.{after, word_step}
use Rattle.spec_image.specs.Told.{Told, Applies, PassesAny, PassesAnyTo}
use Rattle.spec_image.proofs.Images.{word-after_other}
use Rattle.spec_image.proofs.Runs.{some_inj, told_whole}
use Rattle.spec_format.specs.BlockFiles.{IsDamagedBy}
use Rattle.spec_image.proofs.Quiet.{any_end, any_then, any_weaker}
use Rattle.spec_format.specs.Headers.{this_id_of}
use Rattle.spec_folder.specs.Found.{HoldsStill}
use Rattle.blk_io.specs.Streams.{Appends}
use Rattle.blk_cache.specs.declared.cache.Cache.{Cache}
use Rattle.blk_cache.specs.CacheKeeping.{KeepsState}
use Rattle.blk_io.specs.declared.fault.Damage.{Damage}
use Rattle.blk_io.specs.Faults.{damage_of}
use Rattle.blk_cache.specs.declared.fault.OpenFault.{OpenFault}
use Rattle.blk_cache.specs.declared.fault.OpenFault.TheVariants.{Damaged}
use Rattle.spec_run.specs.Opening.{opened_id}
use Rattle.blk_cache.specs.Opening.{EndsSession, IfOpenDamaged}
use Rattle.blk_cache.proofs.Ends.{kept-open}
use Rattle.blk_disk.specs.Open.{IsOpen}
use Rattle.blk_model.specs.State.{Bounds, State}
use Rattle.spec_run.specs.Script.{totals_line}
use Rattle.blk_run.specs.declared.ending.Status.{Status}
use Rattle.blk_run.specs.Count.{AreTotalsOf, EndsSame, PrintsCountAt, ShowsTotals, opened_on}

-- nothing is a prefix of each text
pub none_printed : (line : List ℕ) (old : Option (List ℕ)) → Appends old old line
none_printed line old = record { front = []; rest = line; split = refl; written = same old }
  where
    same : (o : Option (List ℕ)) → o ≡ option_map (λ (w : List ℕ). w ++ []) o
    same None = refl
    same (Some w) = ap Some (sym (append-nil w))

-- the totals of the observed files, and any totals of an opaque folder
pub told_totals : (s : Status) (limits : Bounds) (files : Option Image) (old new : Option (List ℕ)) → ((line : List ℕ) → PrintsCountAt s line old new) → ShowsTotals s limits files old new
told_totals s limits None old new printed = record { item_count = 0; byte_count = 0; totals = λ image there. absurd (no_image there); printed = printed (totals_line 0 0) }
  where
    no_image : {image : Image} → ◌≡◌ {A = Option Image} None (Some image) → ⊥
    no_image e = cc
told_totals s limits (Some from) old new printed = record {
  item_count = _;
  byte_count = _;
  totals = λ image there. subst (AreTotalsOf _ _ limits) (some_inj there) (record { items_are = refl; bytes_are = refl });
  printed = printed _;
}

-- a folder that was observable still is
pub told_still : {a b : Told} {P Q : Image → Type 0} (from : Image) → PassesAnyTo a b P Q → a.files ≡ Some from → (image : Image) × (b.files ≡ Some image)
told_still {a} {b} {P} {Q} from passes there = (after passes.steps from, passes.applies.files ∙ ap (option_map (after passes.steps)) there)

still_then : (a b c : Image) → HoldsStill a b → HoldsStill b c → HoldsStill a c
still_then a b c one other = record { usable = λ h. other.usable (one.usable h); formed = λ h. other.formed (one.formed h); found_same = other.found_same ∙ one.found_same }

-- a folder on which a cache keeps a state may be written; of an opaque folder nothing is asked
pub opened_open : (limits : Bounds) (start middle : Told) (cache : Cache) → (start.files ≡ None → middle.files ≡ None) → ForSome start.files (λ from. ForSome middle.files (KeepsState cache (opened_on limits from))) → ForSome middle.files (IsOpen cache.files)
opened_open limits start middle cache silent keeps = by_files start.files silent keeps
  where
    no_image : {image : Image} → ◌≡◌ {A = Option Image} None (Some image) → ⊥
    no_image e = cc

    by_files : (files : Option Image) → (files ≡ None → middle.files ≡ None) → ForSome files (λ from. ForSome middle.files (KeepsState cache (opened_on limits from))) → ForSome middle.files (IsOpen cache.files)
    by_files None silent keeps image there = absurd (no_image (sym (silent refl) ∙ there))
    by_files (Some from) silent keeps image there = kept-open cache (opened_on limits from) image (keeps from refl image there).holds

-- What an opening and then an end of it leave.
module _ (limits : Bounds) (start middle : Told) (cache : Cache) (from : Image) (there : start.files ≡ Some from) (opened : PassesAny start middle (HoldsStill from))
    (keeps : ForSome start.files (λ from. ForSome middle.files (KeepsState cache (opened_on limits from)))) where
  mid : (image : Image) × (middle.files ≡ Some image)
  mid = told_still from opened there

  pub counted : AreTotalsOf cache.items cache.bytes limits from
  counted = let kept = keeps from there mid.0 mid.1 in let k = kept.holds in record { items_are = k.items_are; bytes_are = k.bytes_are }

  module _ (final : Told) (ended : ForSome middle.files (λ image. (state : State) → KeepsState cache state image → PassesAny middle final (HoldsStill image))) where
    pub passed : PassesAny start final (HoldsStill from)
    passed =
        let before : HoldsStill from mid.0 = any_end opened mid.0 mid.1 in
        let more = λ (image : Image) (still : HoldsStill mid.0 image). still_then from mid.0 image before still in
        any_then opened (any_weaker (ended mid.0 mid.1 (opened_on limits from) (keeps from there mid.0 mid.1)) more more)

    pub left_same : ForSome start.files (λ from. ForSome middle.files (λ image. this_id_of (byte image Index) ≡ opened_id from)) → ForSome middle.files (λ image. (state : State) → KeepsState cache state image → ForSome final.files EndsSession)
        → ForSome middle.files (λ image. ForSome final.files (λ last. this_id_of (byte last Index) ≡ this_id_of (byte image Index))) → ForSome final.files (EndsSame from)
    left_same numbered sound same image here = record {
      found_same = (any_end passed image here).found_same;
      ends = sound mid.0 mid.1 (opened_on limits from) (keeps from there mid.0 mid.1) image here;
      session = same mid.0 mid.1 image here ∙ numbered from there mid.0 mid.1;
    }

-- the crash word is beside the number of the session
pub number_stays : {a b : Told} → Applies a b (word_step Index 32 0) → ForSome a.files (λ from. ForSome b.files (λ image. this_id_of (byte image Index) ≡ this_id_of (byte from Index)))
number_stays {a} {b} made from there = told_whole (λ image. word image Index 20 ≡ word from Index 20) made (λ image is. subst (λ (i : Image). word (after (word_step Index 32 0) i) Index 20 ≡ word from Index 20) (some_inj (sym there ∙ is)) (beside from))
  where
    beside : (image : Image) → word (after (word_step Index 32 0) image) Index 20 ≡ word image Index 20
    beside image = unfold word_step in word-after_other image Index 32 (word_bytes 0) 20 (lit≤ tt) refl (omega arith)

-- a failed check that is the first of the folder
pub first_is : (fault : OpenFault) (damage : Damage) (files : Option Image) → fault ≡ Damaged damage → IfOpenDamaged {A = Cache} (Err fault) (λ d. ForSome files (IsDamagedBy (damage_of d))) → ForSome files (λ image. (d : checks.Damage) × IsDamagedBy d image)
first_is fault damage files is first image there =
    (damage_of damage, subst (λ (x : OpenFault). IfOpenDamaged {A = Cache} (Err x) (λ d. ForSome files (IsDamagedBy (damage_of d)))) is first image there)
