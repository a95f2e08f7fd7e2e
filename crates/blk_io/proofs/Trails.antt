-- A write trace that goes on with the files.
use Rattle.std.proofs.Common.{ℕ, zero, suc, get_or, ◌≡◌, ◌+◌, ◌-◌, ◌<◌, ◌≤◌, nat_le, Bool, true, false, append_assoc, drop, take, length, arith, subst, length-append, List, [], ◌∷◌, ◌++◌, Option, None, Some, refl, sym, ◌∙◌, ap}
use Rattle.std.specs.Option.{option_map, ForSome}
use Rattle.blk_io.specs.declared.mem_files.MemFile.{MemFile}
use Rattle.spec_image.specs.Image.{File, Image, AreBytes, with_file}
use Rattle.spec_image.specs.Steps.{TrailStep, after, image_at}
use Rattle.spec_image.specs.Told.{Told, Trail, Along, Applies, longer}
use Rattle.spec_image.proofs.Runs.{along_prefix}
use Rattle.std.proofs.lemmas.Bool.Decides.{nat_tests}
use Rattle.blk_io.specs.Files.{image_of}
use Rattle.std.proofs.lemmas.List.{append-nil, take_at, take_all, take_more, take-append-drop}
use Rattle.blk_io.specs.declared.mem_trail.Change.{Change}
use Rattle.blk_io.specs.Trail.{told_of, AreBytesAlong, IsTrailOf, steps_of, steps_of_call}
use Rattle.blk_io.specs.MemFolder.{newly_told}
use Rattle.spec_image.proofs.Cuts.{after-append}

pub some_inj : {A : Type 0} {x y : A} → Some x ≡ Some y → x ≡ y
some_inj e = cc

pub trail_goes_on : (start files new : List MemFile) (w : List TrailStep) (k k' : Option (List TrailStep)) → IsTrailOf start files k → image_of new ≡ after w (image_of files) → k' ≡ option_map (λ (s : List TrailStep). s ++ w) k → IsTrailOf start new k'
trail_goes_on start files new w None k' agrees is on s there = absurd (none_some (sym on ∙ there))
  where
    none_some : None ≡ Some s → ⊥
    none_some e = cc
trail_goes_on start files new w (Some old) k' agrees is on s there =
    let e : old ++ w ≡ s = some_inj (sym on ∙ there) in
    let at_old : image_of files ≡ after old (image_of start) = (λ i f. agrees old refl f i) in
    λ file. ap (λ (image : Image). image file) (is ∙ ap (after w) at_old ∙ sym (after-append old w (image_of start)) ∙ ap (λ (l : List TrailStep). after l (image_of start)) e)

pub told_grows : (start files new : List MemFile) (w : List TrailStep) (k k' : Option (List TrailStep)) → image_of new ≡ after w (image_of files) → k' ≡ option_map (λ (s : List TrailStep). s ++ w) k → Applies (told_of start files k) (told_of start new k') w
told_grows start files new w k k' is on = record { files = ap Some is; trail = ap (option_map (λ (s : List TrailStep). record { start = image_of start; steps = s })) on ∙ longer_each k }
  where
    longer_each : (k : Option (List TrailStep)) → option_map (λ (s : List TrailStep). record { start = image_of start; steps = s }) (option_map (λ (s : List TrailStep). s ++ w) k) ≡ option_map (longer w) (option_map (λ (s : List TrailStep). record { start = image_of start; steps = s }) k)
    longer_each None = refl
    longer_each (Some s) = refl

-- what holds of the observed files
pub for_files : (P : Image → Type 0) (image : Image) → P image → ForSome (Some image) P
for_files P image holds other e = subst P (some_inj e) holds

-- a call that is kept and forgotten
pub kept_back : (a b c : Option (List Change)) (call : Change) → b ≡ option_map (λ (calls : List Change). calls ++ call ∷ []) a → c ≡ option_map (λ (calls : List Change). take (length calls - 1) calls) b → option_map steps_of c ≡ option_map steps_of a
kept_back None b c call on off = ap (option_map steps_of) (off ∙ ap (option_map (λ (calls : List Change). take (length calls - 1) calls)) on)
kept_back (Some calls) b c call on off =
    ap (option_map steps_of) (off ∙ ap (option_map (λ (calls : List Change). take (length calls - 1) calls)) on)
    ∙ ap (λ (l : List Change). Some (steps_of l)) (take_at calls (call ∷ []) _ (omega (arith, length-append calls (call ∷ []))))

-- a write trace and files that are as they were
pub trail_same : (start files new : List MemFile) (k k' : Option (List TrailStep)) → IsTrailOf start files k → image_of new ≡ image_of files → k' ≡ k → IsTrailOf start new k'
trail_same start files new k k' agrees is same s there = λ file. ap (λ (image : Image). image file) is ∙ agrees s (sym same ∙ there) file

-- a file that is added to those at the start and to those now, where no step was made
pub trail_added : (start files start' files' : List MemFile) (k : Option (List TrailStep)) (f : File) (b : Option (List ℕ)) → IsTrailOf start files k → ForSome k (λ s. s ≡ []) → image_of start' ≡ with_file (image_of start) f b → image_of files' ≡ with_file (image_of files) f b → IsTrailOf start' files' k
trail_added start files start' files' k f b agrees none is_start is_files s there =
    let at_files : image_of files ≡ image_of start = (λ i g. agrees s there g i) ∙ ap (λ (l : List TrailStep). after l (image_of start)) (none s there) in
    let same : image_of files' ≡ image_of start' = is_files ∙ ap (λ (image : Image). with_file image f b) at_files ∙ sym is_start in
    λ g. ap (λ (image : Image). image g) (same ∙ ap (λ (l : List TrailStep). after l (image_of start')) (sym (none s there)))

-- the first of two lists, one after the other
pub take-append : {A : Type 0} (p : ℕ) (xs ys : List A) → take p (xs ++ ys) ≡ take p xs ++ take (p - length xs) ys
take-append zero [] ys = refl
take-append zero (x ∷ xs) ys =
    let none : 0 ≡ 0 - suc (length xs) = omega arith in
    ap (λ (n : ℕ). take n ys) none
take-append (suc p) [] ys =
    let all : suc p ≡ suc p - 0 = omega arith in
    ap (λ (n : ℕ). take n ys) all
take-append {A} (suc p) (x ∷ xs) ys =
    let less : p - length xs ≡ suc p - suc (length xs) = omega arith in
    ap (λ (l : List A). x ∷ l) (take-append p xs ys ∙ ap (λ (n : ℕ). take p xs ++ take n ys) less)

-- more steps, as far as they are asked
pub image_at-append : (image : Image) (p : ℕ) (s t : List TrailStep) → image_at image (s ++ t) p ≡ image_at (image_at image s p) t (p - length s)
image_at-append image p s t = ap (λ (l : List TrailStep). after l image) (take-append p s t) ∙ after-append (take p s) (take (p - length s) t) image

-- bytes stay bytes along more steps
more_along : (image : Image) (s w : List TrailStep) → ((p : ℕ) → AreBytes (image_at image s p)) → Along AreBytes (after s image) w → (p : ℕ) → AreBytes (image_at image (s ++ w) p)
more_along image s w before along p = subst AreBytes (sym (image_at-append image p s w)) (by_test (nat_le (length s) p) refl)
  where
    by_test : (t : Bool) → nat_le (length s) p ≡ t → AreBytes (image_at (image_at image s p) w (p - length s))
    by_test true e =
        let past : length s ≤ p = grind (arith, nat_tests) in
        subst (λ (l : List TrailStep). AreBytes (after (take (p - length s) w) (after l image))) (sym (take_all p s past))
        (along_prefix AreBytes (take (p - length s) w) (drop (p - length s) w) (after s image) (subst (Along AreBytes (after s image)) (sym (take-append-drop (p - length s) w)) along))
    by_test false e =
        let none : 0 ≡ p - length s = grind (arith, nat_tests) in
        subst (λ (n : ℕ). AreBytes (after (take n w) (image_at image s p))) none (before p)

pub bytes_along : (start files : List MemFile) (w : List TrailStep) (k k' : Option (List TrailStep)) → IsTrailOf start files k → AreBytesAlong start k → Along AreBytes (image_of files) w → k' ≡ option_map (λ (s : List TrailStep). s ++ w) k → AreBytesAlong start k'
bytes_along start files w None k' agrees before along on s there = absurd (none_some (sym on ∙ there))
  where
    none_some : None ≡ Some s → ⊥
    none_some e = cc
bytes_along start files w (Some old) k' agrees before along on s there =
    let e : old ++ w ≡ s = some_inj (sym on ∙ there) in
    let at_old : image_of files ≡ after old (image_of start) = (λ i f. agrees old refl f i) in
    subst (λ (l : List TrailStep). (p : ℕ) → AreBytes (image_at (image_of start) l p)) e (more_along (image_of start) old w (before old refl) (subst (λ (image : Image). Along AreBytes image w) at_old along))

-- with the same steps
pub along_same : (start : List MemFile) (k k' : Option (List TrailStep)) → AreBytesAlong start k → k' ≡ k → AreBytesAlong start k'
along_same start k k' before same s there = before s (sym same ∙ there)

-- with no step
none_along : (image : Image) (p : ℕ) → AreBytes image → AreBytes (image_at image [] p)
none_along image zero bytes = bytes
none_along image (suc p) bytes = bytes

pub along_none : (start files : List MemFile) (k : Option (List TrailStep)) → IsTrailOf start files k → ForSome k (λ s. s ≡ []) → AreBytes (image_of files) → AreBytesAlong start k
along_none start files k agrees none bytes s there =
    let at_start : image_of files ≡ image_of start = (λ i f. agrees s there f i) ∙ ap (λ (l : List TrailStep). after l (image_of start)) (none s there) in
    subst (λ (l : List TrailStep). (p : ℕ) → AreBytes (image_at (image_of start) l p)) (sym (none s there)) (λ p. none_along (image_of start) p (subst AreBytes at_start bytes))

-- one more change
pub steps_of-push : (calls : List Change) (call : Change) → steps_of (calls ++ call ∷ []) ≡ steps_of calls ++ steps_of_call call
steps_of-push [] call = append-nil (steps_of_call call)
steps_of-push (first ∷ calls) call = ap (λ (s : List TrailStep). steps_of_call first ++ s) (steps_of-push calls call) ∙ sym (append_assoc (steps_of_call first) (steps_of calls) (steps_of_call call))

pub steps_of-more : (calls : List Change) (i : ℕ) (call : Change) → i < length calls → call ≡ get_or calls i call → steps_of (take (i + 1) calls) ≡ steps_of (take i calls) ++ steps_of_call call
steps_of-more calls i call within there =
    ap steps_of (take_more calls i call within ∙ ap (λ (x : Change). take i calls ++ x ∷ []) (sym there)) ∙ steps_of-push (take i calls) call

-- no step was made, where a write trace is observed
pub no_steps : (start : Image) (k : Option (List TrailStep)) → ForSome (option_map (λ (s : List TrailStep). record { start = start; steps = s }) k) (λ (t : Trail). t.steps ≡ []) → ForSome k (λ s. s ≡ [])
no_steps start k none s there = none (record { start = start; steps = s }) (ap (option_map (λ (s : List TrailStep). record { start = start; steps = s })) there)

-- a folder that begins anew with these files
pub begun_trail : (start files : List MemFile) (calls : List Change) → image_of start ≡ image_of files → calls ≡ [] → IsTrailOf start files (Some (steps_of calls))
begun_trail start files calls same none s there file =
    let is : s ≡ [] = sym (some_inj there) ∙ ap steps_of none in
    ap (λ (image : Image). image file) (sym same) ∙ ap (λ (l : List TrailStep). after l (image_of start) file) (sym is)

pub begun_along : (start files : List MemFile) (calls : List Change) → image_of start ≡ image_of files → calls ≡ [] → AreBytes (image_of files) → AreBytesAlong start (Some (steps_of calls))
begun_along start files calls same none bytes = along_none start files (Some (steps_of calls)) (begun_trail start files calls same none) (λ s there. sym (some_inj there) ∙ ap steps_of none) bytes

pub told_anew : (start files : List MemFile) (calls : List Change) (image : Image) → image_of start ≡ image → image_of files ≡ image → calls ≡ [] → told_of start files (Some (steps_of calls)) ≡ newly_told image
told_anew start files calls image is_start is_files none =
    ap (λ (i : Image). told_from i (image_of start) (steps_of calls)) is_files ∙ ap (λ (i : Image). told_from image i (steps_of calls)) is_start ∙ ap (λ (l : List Change). told_from image image (steps_of l)) none
  where
    told_from : Image → Image → List TrailStep → Told
    told_from files start steps = record { files = Some files; trail = Some (record { start = start; steps = steps }) }
