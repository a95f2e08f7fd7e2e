use Rattle.std.proofs.Common.{◌≡◌, ◌∙◌, Some, inl, arith, rules}
use Rattle.std.proofs.lemmas.Result.{IfOk-weaker, on_ok_weaker}
use Rattle.spec_image.specs.Image.{Image}
use Rattle.spec_image.specs.Told.{PassesAny}
use Rattle.spec_image.proofs.Quiet.{any_end}
use Rattle.spec_format.proofs.Finished.{whole_index}
use Rattle.spec_folder.specs.Found.{HoldsStill}
use Rattle.blk_io.proofs.Carried.{if_damaged_weaker}
use Rattle.blk_repair.specs.Endings.{RepairBreaksOff}
use Rattle.blk_repair.proofs.Endings.{either-then, either-weaker, ends-then, ends-weaker}
use Rattle.blk_repair.proofs.RepairRuns.{none-before, still-told}
use Rattle.blk_cache.proofs.MakingRuns.{making-breaks}
use Rattle.blk_cache.specs.Opened.{IsJustMade}
use Rattle.blk_cache.proofs.CreationTimes.{made-moment}
use Rattle.blk_cache.proofs.OpenRuns.{made-formed, made-opened, made-stands, made-still, making-still, passes-silent}
use Rattle.blk_cache.proofs.opening.open_new.Given as given
use Rattle.blk_cache.proofs.opening.open_new.Goals as goal
use Rattle.blk_cache.proofs.opening.open_new.Goals.{After-open_made}

pub returns-in_err-make-clause-stops : goal.returns-in_err-make-clause-stops
returns-in_err-make-clause-stops g c from there =
    inl (making-breaks from c.args.moment there (c.requires.unfinished from there) (any_end (making-still from c.args.moment (c.requires.unfinished from there) c.make.ensures.stops)) c.make.ensures.prefix)

pub returns-in_err-make-clause-writes : goal.returns-in_err-make-clause-writes
returns-in_err-make-clause-writes g c = record {
  silent = passes-silent c.make.ensures.stops;
  later = omega arith;
  failed = search rules;
}

pub open_made-requires : goal.open_made-requires
open_made-requires g c = record { complete = λ i here. whole_index i (made-formed i (c.args.moment, c.in_ok-make.ensures.made i here)) }

module _ (g : given.Over) (c : After-open_made g) (from : Image) (there : (g.F.Folder.told c.args.folder.now).files ≡ Some from) where
  abbrev first : PassesAny (g.F.Folder.told c.args.folder.now) (g.F.Folder.told c.make.new.f) (HoldsStill from)
  first = making-still from c.args.moment (c.requires.unfinished from there) c.make.ensures.stops

  broken : RepairBreaksOff (g.F.Folder.told c.args.folder.now) (g.F.Folder.told c.make.new.f) (HoldsStill from)
  broken = making-breaks from c.args.moment there (c.requires.unfinished from there) (any_end first) c.make.ensures.prefix

  abbrev mid : Image
  mid = (still-told from there first).0

  here : (g.F.Folder.told c.make.new.f).files ≡ Some mid
  here = (still-told from there first).1

  made : IsJustMade mid
  made = (c.args.moment, c.in_ok-make.ensures.made mid here)

pub returns-clause-opened : goal.returns-clause-opened
returns-clause-opened g c =
    IfOk-weaker c.open_made.result _ _ (λ opened left from there image now. made-opened from (mid g c from there) image opened (c.requires.unfinished from there) (made g c from there) (left (mid g c from there) (here g c from there) (made g c from there) image now)) c.open_made.ensures.opened

pub returns-clause-stops : goal.returns-clause-stops
returns-clause-stops g c from there =
    let un = c.requires.unfinished from there in
    let is = made g c from there in
    either-then (broken g c from there)
    (either-weaker (c.open_made.ensures.stops (mid g c from there) (here g c from there) is) (λ i. made-still from (mid g c from there) i un is) (λ i. made-stands from (mid g c from there) i un is))

pub returns-clause-last : goal.returns-clause-last
returns-clause-last g c =
    on_ok_weaker c.open_made.result
    (λ ends from there.
    let un = c.requires.unfinished from there in
    let is = made g c from there in
    ends-then (broken g c from there) (ends-weaker (ends (mid g c from there) (here g c from there) is) (λ i. made-still from (mid g c from there) i un is) (λ i. made-stands from (mid g c from there) i un is))) c.open_made.ensures.last

pub returns-clause-untold : goal.returns-clause-untold
returns-clause-untold g c =
    if_damaged_weaker c.open_made.result _ _
    (λ damage none. none-before (g.F.Folder.told c.args.folder.now) (g.F.Folder.told c.make.new.f) (λ from there. still-told from there (first g c from there)) none) (c.open_made.ensures.untold (λ i here. (c.args.moment, c.in_ok-make.ensures.made i here)))

pub returns-clause-writes : goal.returns-clause-writes
returns-clause-writes g c = record {
  silent = λ none. c.open_made.ensures.writes.silent (passes-silent c.make.ensures.stops none);
  later = omega arith;
  failed = search rules;
}

pub returns-clause-made : goal.returns-clause-made
returns-clause-made g c =
    on_ok_weaker c.open_made.result
    (λ kept from there image now.
    let between = mid g c from there in
    let told = here g c from there in
    kept between told (made g c from there) image now ∙ made-moment c.args.moment between c.ranges.moment.fits (c.in_ok-make.ensures.made between told)) c.open_made.ensures.made
