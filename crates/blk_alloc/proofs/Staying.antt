-- Folders that stay whole while files grow and their maps change.
use Rattle.std.proofs.Common.{◌≡◌, ℕ, ◌≤◌, ◌||◌, Bool, false, sym, ap, subst, arith, ⊎_elim}
use Rattle.std.specs.Option.{ForSome}
use Rattle.std.proofs.lemmas.Bool.{cases_eq}
use Rattle.spec_image.specs.Image.{Block, Image, length_of}
use Rattle.spec_image.specs.Footprint.{Footprint, SameOutside, IsWithin, either, size_of}
use Rattle.spec_image.specs.Told.{Told, Passes}
use Rattle.spec_image.proofs.Footprints.{outside-trans, outside_wider, within_left, within_right}
use Rattle.spec_image.proofs.Runs.{passes_weaker}
use Rattle.spec_format.specs.Growth.{StaysWhole, StaysWholeOutside}
use Rattle.spec_format.proofs.Growths.{whole_then}
use Rattle.spec_format.proofs.SpareHeaders.{other_file}
use Rattle.blk_disk.specs.declared.tables.BlockFiles.{BlockFiles}
use Rattle.blk_disk.specs.Growth.{addition_of, free_number, growth_of}
use Rattle.blk_alloc.specs.Changes.{map_of}
use Rattle.blk_alloc.specs.Marking.{hints_of_file, taking_of}
use Rattle.blk_alloc.proofs.Sparing.{SparesFields, both_spare, headers_stay, grown_spared, hints_spares, map_spares, size_spares}
use Rattle.blk_alloc.proofs.Written.{passes_on}

-- a wider footprint
pub whole_wider : (F G : Footprint) → IsWithin F G → (from image : Image) → StaysWholeOutside F from image → StaysWholeOutside G from image
whole_wider F G within from image whole = record { outside = outside_wider F G from image within whole.outside; stays = whole.stays }

-- one change after another
pub outside_then : (F G : Footprint) → IsWithin F G → (from mid image : Image) → StaysWholeOutside G from mid → StaysWholeOutside F mid image → StaysWholeOutside G from image
outside_then F G within from mid image first second = record {
  outside = outside-trans G from mid image first.outside (outside_wider F G mid image within second.outside);
  stays = whole_then from mid image first.stays second.stays;
}

-- a file is added, and then grows
pub added_then : {a b c : Told} (files : BlockFiles) (kind n : ℕ) → n ≡ free_number files
    → ForSome a.files (λ from. Passes a b (StaysWholeOutside (addition_of files kind) from)) → ForSome b.files (λ mid. Passes b c (StaysWholeOutside (growth_of n) mid))
    → ForSome a.files (λ from. Passes a c (StaysWholeOutside (either (addition_of files kind) (growth_of (free_number files))) from))
added_then {a} {b} {c} files kind n is first second from there =
    let A = addition_of files kind in
    let G = growth_of (free_number files) in
    let wider = whole_wider A (either A G) (within_left A G) from in
    passes_on from there (passes_weaker (first from there) wider wider)
    (λ mid now so_far. let keeps : (i : Image) → StaysWholeOutside (growth_of n) mid i → StaysWholeOutside (either A G) from i = (λ i whole. outside_then G (either A G) (within_right A G) from mid i so_far (subst (λ (m : ℕ). StaysWholeOutside (growth_of m) mid i) is whole)) in
    passes_weaker (second mid now) keeps keeps)

taking_spares : (n : ℕ) → SparesFields (taking_of n)
taking_spares n = both_spare (size_of (Block n)) (either (hints_of_file n) (map_of n)) (size_spares n) (both_spare (hints_of_file n) (map_of n) (hints_spares n) (map_spares n))

-- a file whose length, hints, map and counters change, and which gets no shorter
pub taking_whole : (n : ℕ) (from image : Image) → SameOutside (taking_of n) from image → length_of from (Block n) ≤ length_of image (Block n) → StaysWhole from image
taking_whole n from image same longer = record {
  grown = grown_spared (taking_of n) from image (taking_spares n) same lengths;
  headers = headers_stay (taking_of n) from image (taking_spares n) same lengths;
}
  where
    lengths : (m : ℕ) → length_of from (Block m) ≤ length_of image (Block m)
    lengths m = ⊎_elim (λ (e : m ≡ n). subst (λ (k : ℕ). length_of from (Block k) ≤ length_of image (Block k)) (sym e) longer) (λ differs. let e = same.lengths (Block m) (ap (λ (t : Bool). t || false) (other_file n m differs)) in omega (arith, e)) (cases_eq m n)
