-- What contracts see of a folder in memory, and the counts of its calls.
use Rattle.std.specs.Prelude.{◌≡◌, ℕ, List, [], length, take, nat_lt, Bool, ◌||◌, Option, None, Some}
use Rattle.std.specs.Option.{ForSome, option_map}
use Rattle.std.proofs.Common.{refl, sym, ◌∙◌, ap, subst}
use Rattle.blk_io.specs.declared.mem_files.MemFile.{MemFile}
use Rattle.blk_io.specs.declared.mem.MemFolder.{MemFolder}
use Rattle.spec_image.specs.Steps.{TrailStep, after, image_at}
use Rattle.spec_image.specs.Image.{File, Image, AreBytes, with_file}
use Rattle.spec_image.specs.Told.{Applies, Told, Trail, AgreesWithTrail, TellsBytes}
use Rattle.blk_io.specs.Calls.{counts_in}
use Rattle.blk_io.specs.Counts.{CallCounts, CountsCall, FindsMemory, fails_next, lasting, next_failure}
use Rattle.blk_io.specs.Trail.{told_of, kept_steps, IsTrailOf}

-- what contracts see of a folder in memory: its files at the start, its files now, and the write trace between them
abbrev pub mem_told : MemFolder → Told
mem_told m = told_of m.start.items m.files.items (kept_steps m.trail)

-- the counts of the calls on a folder in memory, and its calls that are listed to fail
abbrev pub mem_counts : MemFolder → CallCounts
mem_counts m = counts_in m.calls

-- what contracts see of a folder with the files of an image and an empty write trace
abbrev pub newly_told : Image → Told
newly_told image = record { files = Some image; trail = Some (record { start = image; steps = [] }) }

-- what contracts see of a folder where one more file with these bytes was there from the start: among the files at the start and those now
abbrev pub told_with_file : File → List ℕ → Told → Told
told_with_file file bytes told = record {
  files = option_map (λ (image : Image). with_file image file (Some bytes)) told.files;
  trail = option_map (λ (trail : Trail). record { start = with_file trail.start file (Some bytes); steps = trail.steps }) told.trail;
}

some_inj : {A : Type 0} {x y : A} → Some x ≡ Some y → x ≡ y
some_inj e = cc

-- the files now are those at the start after the write trace, as the folder's invariant has it
told_agrees : (start files : List MemFile) (steps : Option (List TrailStep)) → IsTrailOf start files steps → AgreesWithTrail (told_of start files steps)
told_agrees start files None agrees image there trail kept = absurd (none_some kept)
  where
    none_some : None ≡ Some trail → ⊥
    none_some e = cc
told_agrees start files (Some steps) agrees image there trail kept =
    sym (some_inj there) ∙ (λ i f. agrees steps refl f i) ∙ ap (λ (t : Trail). after t.steps t.start) (some_inj kept)

pub mem_agrees : (m : MemFolder) → AgreesWithTrail (mem_told m)
mem_agrees m = told_agrees m.start.items m.files.items (kept_steps m.trail) m.agrees

pub mem_are_bytes : (m : MemFolder) → TellsBytes (mem_told m)
mem_are_bytes m image there = subst AreBytes (some_inj there) m.bytes

-- a folder begins with the files after so many steps of a write trace
abbrev pub BeginsAfter : (steps : ℕ) → Trail → MemFolder → Type 0
BeginsAfter steps trail folder = mem_told folder ≡ newly_told (image_at trail.start trail.steps steps)

-- unless memory ran out, a write that was listed to fail made as many of its steps as it was listed with
abbrev pub LastsAsListed : (old new : MemFolder) → List TrailStep → Type 0
LastsAsListed old new steps =
    FindsMemory (mem_counts old) (mem_counts new) → ForSome (next_failure (mem_counts old)) (λ count. Applies (mem_told old) (mem_told new) (take count steps))

-- unless memory ran out, a write made as many of its steps as were left, or fewer where it was listed to fail with fewer
abbrev pub LastsWithin : (left : ℕ) → (old new : MemFolder) → List TrailStep → Type 0
LastsWithin left old new steps =
    FindsMemory (mem_counts old) (mem_counts new) → Applies (mem_told old) (mem_told new) (take (lasting (next_failure (mem_counts old)) left) steps)

-- the call of a write was counted, which fails where it was listed to, or where it has more steps than are left
abbrev pub CountsWrite : (left : ℕ) → (old new : MemFolder) → (failed : Bool) → List TrailStep → Type 0
CountsWrite left old new failed steps = CountsCall (mem_counts old) (mem_counts new) failed (fails_next (mem_counts old) || nat_lt left (length steps))
