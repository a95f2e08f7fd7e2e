use Rattle.std.proofs.Common.{◌≡◌, ℕ, Option, None, Some, refl, sym, ◌∙◌, ap, subst, arith}
use Rattle.std.specs.Option.{ForSome}
use Rattle.spec_image.specs.Image.{Index, length_of}
use Rattle.spec_image.specs.Told.{Told}
use Rattle.spec_image.proofs.Runs.{told_whole, part_whole}
use Rattle.spec_format.specs.Headers.{index_length}
use Rattle.blk_external.specs.Numbers.{IsSearched}
use Rattle.blk_external.specs.Making.{Creates}
use Rattle.blk_io.proofs.Carried.{untold_where}
use Rattle.blk_external.proofs.Makings.{passes_free, passes_making, makes_none, makes_part, made_is, size_kept}
use Rattle.blk_external.proofs.Searches.{not_all_taken}
use Rattle.blk_external.proofs.making.create.Goals as goal

pub returns-in_err-last-clause-prefix : goal.returns-in_err-last-clause-prefix
returns-in_err-last-clause-prefix g c free = makes_none c.in_err-last.ensures.reads.stays free

pub returns-in_err-last-clause-stops : goal.returns-in_err-last-clause-stops
returns-in_err-last-clause-stops g c = passes_free (makes_none c.in_err-last.ensures.reads.stays)

pub returns-in_err-number-clause-prefix : goal.returns-in_err-number-clause-prefix
returns-in_err-number-clause-prefix g c free = makes_none (c.in_err-number.ensures.reads.stays ∙ c.in_ok-last.ensures.reads.stays) free

pub returns-in_err-number-clause-stops : goal.returns-in_err-number-clause-stops
returns-in_err-number-clause-stops g c = passes_free (makes_none (c.in_err-number.ensures.reads.stays ∙ c.in_ok-last.ensures.reads.stays))

pub returns-in_default-clause-prefix : goal.returns-in_default-clause-prefix
returns-in_default-clause-prefix g c free = makes_none (c.in_ok-number.ensures.reads.stays ∙ c.in_ok-last.ensures.reads.stays) free

pub returns-in_default-clause-stops : goal.returns-in_default-clause-stops
returns-in_default-clause-stops g c = passes_free (makes_none (c.in_ok-number.ensures.reads.stays ∙ c.in_ok-last.ensures.reads.stays))

none_of : (o : Option ℕ) → ((n : ℕ) → o ≡ Some n → ⊥) → o ≡ None
none_of None none = refl
none_of (Some n) none = absurd (none n refl)

pub returns-in_default-clause-untold : goal.returns-in_default-clause-untold
returns-in_default-clause-untold g c free =
    untold_where (g.F.Folder.told c.args.f.now).files
    (λ image there.
    let there_then = ap (λ (t : Told). t.files) c.in_ok-last.ensures.reads.stays ∙ there in
    let none = none_of c.in_ok-number.field-0 c.in_default.not-Some in
    not_all_taken image (free image there) (subst (IsSearched image c.in_ok-last.last) none (c.in_ok-number.ensures.first image there_then)))

pub returns-in_err-make-clause-complete : goal.returns-in_err-make-clause-complete
returns-in_err-make-clause-complete g c =
    let stays = c.in_ok-number.ensures.reads.stays ∙ c.in_ok-last.ensures.reads.stays in
    size_kept c.in-Some.number c.in_err-make.ensures.prefix (subst (λ (t : Told). ForSome t.files (λ image. length_of image Index ≡ index_length)) (sym stays) c.requires.complete)

pub returns-in_err-make-clause-stops : goal.returns-in_err-make-clause-stops
returns-in_err-make-clause-stops g c from there free =
    let stays = c.in_ok-number.ensures.reads.stays ∙ c.in_ok-last.ensures.reads.stays in
    let fits = c.in_ok-number.ensures.number c.in-Some.number c.in-Some.is in
    passes_making
    (makes_part c.in_ok-last.last c.in-Some.number stays c.in_ok-last.ensures.word fits
    (λ image there. subst (IsSearched image c.in_ok-last.last) c.in-Some.is (c.in_ok-number.ensures.first image (ap (λ (t : Told). t.files) (sym c.in_ok-number.ensures.reads.stays) ∙ there)))
    c.in_err-make.ensures.prefix) from there

pub returns-clause-made : goal.returns-clause-made
returns-clause-made g c =
    let stays = c.in_ok-number.ensures.reads.stays ∙ c.in_ok-last.ensures.reads.stays in
    let fits = c.in_ok-number.ensures.number c.in-Some.number c.in-Some.is in
    let made : ForSome (g.F.Folder.told c.make.new.folder).files (λ image. Creates image c.in-Some.number) =
    told_whole (λ image. Creates image c.in-Some.number) c.in_ok-make.ensures.steps (λ image there. made_is image c.in-Some.number (omega (arith, fits.1)) (c.requires.complete image (ap (λ (t : Told). t.files) (sym stays) ∙ there))) in
    subst (λ (n : ℕ). ForSome (g.F.Folder.told c.make.new.folder).files (λ image. Creates image n)) (sym c.address_of.ensures.number) made

pub returns-clause-stops : goal.returns-clause-stops
returns-clause-stops g c from there free =
    let stays = c.in_ok-number.ensures.reads.stays ∙ c.in_ok-last.ensures.reads.stays in
    let fits = c.in_ok-number.ensures.number c.in-Some.number c.in-Some.is in
    passes_making
    (makes_part c.in_ok-last.last c.in-Some.number stays c.in_ok-last.ensures.word fits
    (λ image there. subst (IsSearched image c.in_ok-last.last) c.in-Some.is (c.in_ok-number.ensures.first image (ap (λ (t : Told). t.files) (sym c.in_ok-number.ensures.reads.stays) ∙ there)))
    (part_whole c.in_ok-make.ensures.steps)) from there

pub returns-clause-complete : goal.returns-clause-complete
returns-clause-complete g c =
    let stays = c.in_ok-number.ensures.reads.stays ∙ c.in_ok-last.ensures.reads.stays in
    size_kept c.in-Some.number (part_whole c.in_ok-make.ensures.steps) (subst (λ (t : Told). ForSome t.files (λ image. length_of image Index ≡ index_length)) (sym stays) c.requires.complete)
