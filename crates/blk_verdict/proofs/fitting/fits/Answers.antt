use Rattle.std.proofs.Common.{◌≡◌, ◌∙◌, sym, ap}
use Rattle.std.specs.Option.{ForSome}
use Rattle.std.proofs.lemmas.Result.{IfOk-weaker}
use Rattle.spec_image.specs.Told.{Told}
use Rattle.blk_io.proofs.Carried.{if_damaged_weaker}
use Rattle.blk_model.proofs.Same.{same_bytes}
use Rattle.spec_folder.specs.Loads as shown
use Rattle.blk_disk.specs.Tables.{Agrees}
use Rattle.blk_lru.proofs.Conditions.{told_now, told_stays}
use Rattle.blk_verdict.specs.Kept.{IsLoadedFrom, is_sought}
use Rattle.blk_verdict.proofs.KeptKeysFound.{keys-found}
use Rattle.blk_verdict.proofs.SoughtFacts.{other_key}
use Rattle.blk_verdict.proofs.fitting.fits.Goals as goal

pub returns-then-not-branch-clause-fits : goal.returns-then-not-branch-clause-fits
returns-then-not-branch-clause-fits g c image there agrees loaded known =
    let key = keys-found image known.node loaded c.args.kept.now known.loads known.is in
    sym (other_key c.args.sought c.args.key.now loaded (sym (c.in_ok-has_this_key.ensures.same image there loaded.key agrees key) ∙ c.if-not-branch.true))

pub returns-clause-fits : goal.returns-clause-fits
returns-clause-fits g c =
    IfOk-weaker c.has_bit.result _
    (λ fits. ForSome (g.F.Folder.told c.args.folder.now).files (λ image. Agrees c.args.files.now image → (loaded : shown.Loaded) → IsLoadedFrom image loaded c.args.kept.now → fits ≡ is_sought c.args.sought c.args.key.now loaded))
    (λ fits is image there agrees loaded known.
    let key = keys-found image known.node loaded c.args.kept.now known.loads known.is in
    is image (told_now image c.in_ok-has_this_key.ensures.reads.stays there) c.args.key.now loaded known
    (same_bytes loaded.key c.args.key.now (sym (c.in_ok-has_this_key.ensures.same image there loaded.key agrees key) ∙ c.if-not-branch.false)))
    c.has_bit.ensures.fits

pub returns-clause-untold : goal.returns-clause-untold
returns-clause-untold g c agrees key =
    if_damaged_weaker c.has_bit.result _ _ (λ damage none. ap (λ (t : Told). t.files) (sym c.in_ok-has_this_key.ensures.reads.stays) ∙ none)
    (c.has_bit.ensures.untold (told_stays (Agrees c.args.files.now) c.in_ok-has_this_key.ensures.reads.stays agrees))
