-- What an opening leaves after each of its parts.
use Rattle.std.proofs.Common.{◌≡◌, ◌⊎◌, inl, inr, ⊎_elim, ℕ, Bool, true, List, [], length, Option, Some, None, Result, Err, refl, sym, ap, subst, ◌∙◌, lit≤}
use Rattle.std.specs.Prelude.{All, IsErrAnd, IsTrue, if◌then◌else◌, unwrap_or}
use Rattle.std.specs.Option.{ForSome, option_map}
use Rattle.spec_image.specs.Steps.{after}
use Rattle.std.proofs.lemmas.List.Elements.{All-nil}
use Rattle.spec_image.specs.Bytes.{content, word_at, zeros}
use Rattle.spec_image.specs.Image.{Image, Index, AreBytes, byte, word}
use Rattle.spec_image.specs.Checks.{Damage}
use Rattle.spec_image.specs.Told.{Told, PassesAny, PassesAnyTo}
use Rattle.spec_image.proofs.Quiet.{any_weaker}
use Rattle.spec_image.proofs.Runs.{some_inj}
use Rattle.spec_image.proofs.Words.{word-zeros}
use Rattle.blk_model.specs.Items.{Row}
use Rattle.blk_model.specs.Holding.{open_state}
use Rattle.blk_model.specs.Room.{items, total}
use Rattle.law_state.specs.Keeping.{KeepsSome}
use Rattle.spec_format.specs.BlockFiles.{IsDamagedBy, IsWellFormed, first_damage}
use Rattle.spec_format.specs.Headers.{index_length, IsUnfinished, this_id_of, unfinished}
use Rattle.spec_format.specs.NewFolder.{IsMade, new_index_words}
use Rattle.spec_format.specs.Session.{session_after}
use Rattle.spec_format.proofs.Finished.{finished_whole, magic-of, well_formed-finished}
use Rattle.spec_format.proofs.HeaderLemmas.{unfinished_agrees}
use Rattle.spec_folder.specs.Found.{HoldsStill, found}
use Rattle.spec_folder.specs.StandsFor.{StandsFor}
use Rattle.law_folder.proofs.states.Bare.{bare-found}
use Rattle.law_folder.proofs.states.NewFolders.{new-bare, new-formed, words_beside}
use Rattle.blk_io.specs.declared.fault.Damage as blk
use Rattle.blk_io.specs.declared.fault.Fault.{Fault}
use Rattle.blk_io.specs.declared.fault.Fault.TheVariants as fault
use Rattle.blk_io.specs.Faults.{IfDamaged, damage_of}
use Rattle.blk_io.proofs.Carried.{carried, if_damaged_weaker, untold_where}
use Rattle.blk_index.specs.Start.{IsFinished, IsLookDamage, LooksAs}
use Rattle.blk_disk.specs.Loading.{IsLoadDamage, LoadsAs}
use Rattle.blk_disk.specs.Open.{IsOpen}
use Rattle.blk_disk.specs.declared.tables.BlockFiles.{BlockFiles}
use Rattle.blk_disk.specs.Tables.{Agrees, is_node_among}
use Rattle.blk_audit.specs.Sealable.{CanBeSealed}
use Rattle.law_recovery.specs.MendedChanges.{IsMidRepair}
use Rattle.blk_scan.specs.declared.chains.KeptChains.{KeptChains}
use Rattle.blk_scan.specs.declared.scan.Scan.{Scan}
use Rattle.blk_scan.specs.Scans.{ChainsStandIf, IsEmptyScan, IsScanOf, StandAmong}
use Rattle.blk_repair.specs.Endings.{RepairBreaksOff, EndsOrBreaksOff, EndsWithCrashWord}
use Rattle.blk_repair.proofs.Endings.{breaks-none, either-weaker, ends-weaker}
use Rattle.blk_repair.specs.Repair.{IsRepairDamage, IsRepairable, IsRepaired}
use Rattle.blk_cache.specs.declared.opening.Opened.{Opened}
use Rattle.blk_cache.specs.Opened.{IsJustMade, IsOpenedAs, IsOpeningDamage}
use Rattle.spec_run.specs.Opening.{opened_id}
use Rattle.blk_cache.specs.Opening.{StandsOpened}
use Rattle.blk_scan.proofs.FirstDamages.{blocks-formed, first-before, first-behind}
use Rattle.blk_cache.proofs.OpenedFolders.{made-repairable, repaired-kept, told-totals}

-- ---- what is found

-- an uninitialized folder holds nothing
pub unfinished-found : (image : Image) → IsUnfinished image → found image ≡ []
unfolding found
unfinished-found image un = rw (is-true (unfinished image) ((unfinished_agrees image).1 un)) refl where
  is-true : (b : Bool) → IsTrue b → b ≡ true
  is-true b h = h

pub made-found : (image : Image) → IsJustMade image → found image ≡ []
made-found image made = bare-found image (new-bare made.0 image made.1)

pub made-formed : (image : Image) → IsJustMade image → IsWellFormed image
made-formed image made = new-formed made.0 image made.1

-- its session has the number 0
made-id : (moment : ℕ) (image : Image) → IsMade moment image → this_id_of (byte image Index) ≡ 0
made-id moment image made =
    ap (λ (o : Option (List ℕ)). word_at (content (unwrap_or o [])) 20) made.index
    ∙ words_beside 20 (new_index_words moment) (zeros index_length) (inr (lit≤ tt), (inl (lit≤ tt), (inl (lit≤ tt), (inl (lit≤ tt), (inr (lit≤ tt), tt)))))
    ∙ word-zeros index_length 20

-- the session that is opened on a folder
finished-id : (image : Image) → IsWellFormed image → opened_id image ≡ session_after (this_id_of (byte image Index))
finished-id image well = ap (λ (b : Bool). if b then 1 else session_after (this_id_of (byte image Index))) (well_formed-finished image well)

made-next : (image : Image) → IsJustMade image → opened_id image ≡ 1
made-next image made = finished-id image (made-formed image made) ∙ ap session_after (made-id made.0 image made.1)

unfinished-next : (image : Image) → IsUnfinished image → opened_id image ≡ 1
unfinished-next image un = ap (λ (b : Bool). if b then 1 else session_after (this_id_of (byte image Index))) ((unfinished_agrees image).1 un)

-- ---- a recovered folder

pub opened-as : (scan : Scan) (entry image : Image) (opened : Opened) → IsRepairable scan entry → IsRepaired entry image → AreBytes image → Agrees opened.files image → opened.items ≡ length scan.kept.items → opened.bytes ≡ scan.bytes → opened.mark ≡ word image Index 20
    → IsOpenedAs entry opened image
opened-as scan entry image opened can r are agrees items_told bytes_told mark = record {
  keeps = λ limits. repaired-kept entry image limits r are;
  items_are = λ limits. items_told ∙ (told-totals scan entry image limits can.scanned r are).items_told;
  bytes_are = λ limits. bytes_told ∙ (told-totals scan entry image limits can.scanned r are).bytes_told;
  files = agrees;
  mark = mark;
  id_is = r.id_is ∙ sym (finished-id entry can.well_formed);
  finished = magic-of image r.mended.links.well_formed;
}

-- ---- a made folder

-- what was opened of a made folder was opened of the uninitialized one before it
pub made-opened : (entry made image : Image) (opened : Opened) → IsUnfinished entry → IsJustMade made → IsOpenedAs made opened image → IsOpenedAs entry opened image
made-opened entry made image opened un is left =
    let same : found made ≡ found entry = made-found made is ∙ sym (unfinished-found entry un) in
    record {
      keeps = λ limits. subst (λ (rows : List Row). KeepsSome (open_state rows limits) image) same (left.keeps limits);
      items_are = λ limits. left.items_are limits ∙ ap (λ (rows : List Row). items (open_state rows limits)) same;
      bytes_are = λ limits. left.bytes_are limits ∙ ap (λ (rows : List Row). total (open_state rows limits)) same;
      files = left.files;
      mark = left.mark;
      id_is = left.id_is ∙ made-next made is ∙ sym (unfinished-next entry un);
      finished = left.finished;
    }

-- by the empty scan it may be recovered
pub made-can : (scan : Scan) (image : Image) → IsJustMade image → IsEmptyScan scan → IsRepairable scan image
made-can scan image made empty = made-repairable made.0 image scan made.1 empty

-- the empty scan is valid among any block files
pub empty-stands : (files : BlockFiles) (scan : Scan) → IsEmptyScan scan → StandAmong files scan
empty-stands files scan empty = record {
  walked = subst (All (λ (w : ℕ). is_node_among files w ≡ true)) (sym empty.walked) (All-nil _);
  chains = subst (λ (o : Option KeptChains). ChainsStandIf files o) (sym empty.chains) tt;
  bare = subst (All (CanBeSealed files)) (sym empty.bare) (All-nil _);
}

-- ---- at each word

pub mid-still : (entry image : Image) → IsMidRepair entry image → HoldsStill entry image
mid-still entry image mid = record { usable = λ _. inr mid.well_formed; formed = λ _. mid.well_formed; found_same = mid.found_same }

pub made-still : (entry made image : Image) → IsUnfinished entry → IsJustMade made → IsMidRepair made image → HoldsStill entry image
made-still entry made image un is mid = record { usable = λ _. inr mid.well_formed; formed = λ _. mid.well_formed; found_same = mid.found_same ∙ made-found made is ∙ sym (unfinished-found entry un) }

-- one that is uninitialized still
pub unfinished-still : (entry image : Image) → IsUnfinished entry → IsUnfinished image → HoldsStill entry image
unfinished-still entry image un now = record { usable = λ _. inl now; formed = λ well. absurd (let whole = finished_whole entry well in whole.finished un); found_same = unfinished-found image now ∙ sym (unfinished-found entry un) }

pub making-still : {a b : Told} (entry : Image) (moment : ℕ) → IsUnfinished entry → PassesAnyTo a b IsUnfinished (λ image. IsUnfinished image ⊎ IsMade moment image) → PassesAny a b (HoldsStill entry)
making-still entry moment un passes =
    any_weaker passes (λ image. unfinished-still entry image un) (λ image. ⊎_elim (unfinished-still entry image un) (λ (made : IsMade moment image). record { usable = λ _. inr (made-formed image (moment, made)); formed = λ _. made-formed image (moment, made); found_same = made-found image (moment, made) ∙ sym (unfinished-found entry un) }))

-- ---- where nothing was written

pub stayed-mid : {a b : Told} (from : Image) → a.files ≡ Some from → IsWellFormed from → b ≡ a → RepairBreaksOff a b (IsMidRepair from)
stayed-mid from there well same = breaks-none (IsMidRepair from) same (λ i is. subst (IsMidRepair from) (some_inj (sym there ∙ is)) (record { well_formed = well; kept_same = refl; found_same = refl }))

pub stayed-still : {a b : Told} (from : Image) → a.files ≡ Some from → b ≡ a → RepairBreaksOff a b (HoldsStill from)
stayed-still from there same = breaks-none (HoldsStill from) same (λ i is. subst (HoldsStill from) (some_inj (sym there ∙ is)) (record { usable = λ h. h; formed = λ h. h; found_same = refl }))

-- a call that passes leaves an opaque folder opaque
pub passes-silent : {a b : Told} {P Q : Image → Type 0} → PassesAnyTo a b P Q → a.files ≡ None → b.files ≡ None
passes-silent passes none = passes.applies.files ∙ ap (option_map (after passes.steps)) none

-- ---- where the session was marked as open

-- the image that recovery leaves represents the opened state, in the next session
repaired-stands : (from image : Image) → IsWellFormed from → IsRepaired from image → StandsOpened from image
repaired-stands from image well repaired = record { stands = repaired.stands_for; id = repaired.id_is ∙ sym (finished-id from well) }

pub repaired-opens : {a b : Told} (from : Image) → IsWellFormed from → EndsWithCrashWord a b (IsMidRepair from) (IsRepaired from)
    → EndsWithCrashWord a b (IsMidRepair from) (StandsOpened from)
repaired-opens from well ends = ends-weaker ends (λ i mid. mid) (λ i. repaired-stands from i well)

pub repaired-either : {a b : Told} (from : Image) → IsWellFormed from → EndsOrBreaksOff a b (IsMidRepair from) (IsRepaired from)
    → EndsOrBreaksOff a b (IsMidRepair from) (StandsOpened from)
repaired-either from well either = either-weaker either (λ i mid. mid) (λ i. repaired-stands from i well)

-- what represents what a made folder holds represents what was recovered of the uninitialized one before it
pub made-stands : (entry made image : Image) → IsUnfinished entry → IsJustMade made → StandsOpened made image → StandsOpened entry image
made-stands entry made image un is opens = record {
  stands = λ limits. subst (λ (rows : List Row). StandsFor image (open_state rows limits)) (made-found made is ∙ sym (unfinished-found entry un)) (opens.stands limits);
  id = opens.id ∙ made-next made is ∙ sym (unfinished-next entry un);
}

-- ---- failed checks

pub mending-damage : {B : Type 0} (q : Result B Fault) (e : Fault) (told : Told) (files : BlockFiles) → IsErrAnd q (λ (x : Fault). x ≡ e) → IfDamaged {A = Told} (Err e) (IsRepairDamage files told) → IfDamaged q (IsOpeningDamage told)
mending-damage q e told files is cause =
    let r : Result Told Fault = Err e in
    carried r q e (IsOpeningDamage told) refl is (if_damaged_weaker r (IsRepairDamage files told) (IsOpeningDamage told) (λ damage h. inr (inr (record { files = files; cause = inr h }))) cause)

pub loading-damage : {B : Type 0} (q : Result B Fault) (e : Fault) (a b : Told) → b ≡ a → IsErrAnd q (λ (x : Fault). x ≡ e) → IfDamaged {A = Told} (Err e) (IsLoadDamage a) → IfDamaged q (IsOpeningDamage b)
loading-damage q e a b same is cause =
    let r : Result Told Fault = Err e in
    carried r q e (IsOpeningDamage b) refl is (if_damaged_weaker r (IsLoadDamage a) (IsOpeningDamage b) (λ damage h. inr (inl (subst (λ (t : Told). IsLoadDamage t damage) (sym same) h))) cause)

-- a failed check that a folder reports only where it is opaque
pub untold-on : {B : Type 0} (q : Result B Fault) (e : Fault) (a b : Told) → IsErrAnd q (λ (x : Fault). x ≡ e) → (b.files ≡ None → a.files ≡ None) → IfDamaged {A = Told} (Err e) (λ _. b.files ≡ None) → IfDamaged q (λ _. a.files ≡ None)
untold-on q e a b is before cause =
    let r : Result Told Fault = Err e in
    carried r q e (λ _. a.files ≡ None) refl is (if_damaged_weaker r (λ _. b.files ≡ None) (λ _. a.files ≡ None) (λ damage none. before none) cause)

-- the block files of a well-formed folder report no corruption
pub load-untold : (e : Fault) (a : Told) → ForSome a.files IsWellFormed → ForSome a.files (LoadsAs (Err e)) → IfDamaged {A = Told} (Err e) (λ _. a.files ≡ None)
load-untold fault.Device a well loaded = tt
load-untold (fault.Damaged damage) a well loaded = untold_where a.files (λ i there. no (damage_of damage) (sym (loaded i there) ∙ blocks-formed i (well i there))) where
  no : (d : Damage) → ◌≡◌ {A = Option Damage} (Some d) None → ⊥
  no d e = cc

-- the first failed check of a folder with an initialized index, and of any
pub first-of_load : (e : Fault) (files : Option Image) → ForSome files (LoadsAs (Err e)) → IfDamaged {A = Told} (Err e) (λ damage. ForSome files (λ from. IsFinished from → first_damage from ≡ Some (damage_of damage)))
first-of_load fault.Device files loaded = tt
first-of_load (fault.Damaged damage) files loaded = λ image there (fin : IsFinished image). first-behind image fin.undamaged ∙ loaded image there

pub first-of_look : (e : Fault) (files : Option Image) → ForSome files (LooksAs (Err e)) → IfDamaged {A = Told} (Err e) (λ damage. ForSome files (IsDamagedBy (damage_of damage)))
first-of_look fault.Device files looked = tt
first-of_look (fault.Damaged damage) files looked = λ image there. record { finished = (looked image there).0; first = first-before image (damage_of damage) (looked image there).1 }

pub loading-as : (e : Fault) (a b : Told) → b ≡ a → IfDamaged {A = Told} (Err e) (IsLoadDamage a) → IfDamaged {A = Told} (Err e) (IsOpeningDamage b)
loading-as e a b same cause = if_damaged_weaker {A = Told} (Err e) (IsLoadDamage a) (IsOpeningDamage b) (λ damage h. inr (inl (subst (λ (t : Told). IsLoadDamage t damage) (sym same) h))) cause

pub looking-as : (e : Fault) (a b : Told) → b ≡ a → IfDamaged {A = Told} (Err e) (IsLookDamage a) → IfDamaged {A = Told} (Err e) (IsOpeningDamage b)
looking-as e a b same cause = if_damaged_weaker {A = Told} (Err e) (IsLookDamage a) (IsOpeningDamage b) (λ damage h. inl (subst (λ (t : Told). IsLookDamage t damage) (sym same) h)) cause

-- an observable folder isn't opaque
pub told-some : {P : Type 0} (a : Told) (image : Image) → a.files ≡ Some image → a.files ≡ None → P
told-some a image there none = absurd (no (sym there ∙ none)) where
  no : ◌≡◌ {A = Option Image} (Some image) None → ⊥
  no e = cc

-- a well-formed folder may be recovered by its scan
pub scanned-can : (files : BlockFiles) (scan : Scan) (image : Image) → IsWellFormed image → IsOpen files image → (Agrees files image → IsScanOf image scan) → IsRepairable scan image
scanned-can files scan image well open_now told = record { well_formed = well; scanned = told open_now.agrees }

-- a folder that is opaque after a call that left it as it was, was opaque before
pub untold-as : (e : Fault) (a b : Told) → b ≡ a → IfDamaged {A = Told} (Err e) (λ _. b.files ≡ None) → IfDamaged {A = Told} (Err e) (λ _. a.files ≡ None)
untold-as e a b same cause = if_damaged_weaker {A = Told} (Err e) (λ _. b.files ≡ None) (λ _. a.files ≡ None) (λ damage none. sym (ap (λ (t : Told). t.files) same) ∙ none) cause

-- where only an opaque folder reports corruption, any claim on an observable one holds
pub untold-says : (e : Fault) (a : Told) (old : Option Image) (P : blk.Damage → Image → Type 0) → ((image : Image) → old ≡ Some image → a.files ≡ Some image) → IfDamaged {A = Told} (Err e) (λ _. a.files ≡ None) → IfDamaged {A = Told} (Err e) (λ damage. ForSome old (P damage))
untold-says e a old P handed cause = if_damaged_weaker {A = Told} (Err e) (λ _. a.files ≡ None) (λ damage. ForSome old (P damage)) (λ damage none image there. told-some a image (handed image there) none) cause
