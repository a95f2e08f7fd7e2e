use Rattle.std.proofs.Common.{◌≡◌, ◌∙◌, ℕ, List, sym, ap}
use Rattle.std.specs.List.{list_any}
use Rattle.std.specs.Option.{ForSome}
use Rattle.std.proofs.lemmas.Result.{IfOk-weaker}
use Rattle.spec_image.specs.Image.{Image}
use Rattle.spec_image.specs.Told.{Told}
use Rattle.spec_format.specs.Hash.{hash as hash_of}
use Rattle.blk_io.proofs.Carried.{carried, if_damaged_weaker}
use Rattle.spec_folder.specs.Loads as shown
use Rattle.blk_disk.specs.Tables.{Agrees}
use Rattle.blk_lru.proofs.Conditions.{told_now, told_stays}
use Rattle.blk_verdict.specs.Keyed.{HasItsKey}
use Rattle.blk_verdict.specs.Kept.{AreShown, HaveKeys, IsLoadedFrom, is_sought}
use Rattle.blk_verdict.proofs.KeptKeysFound.{keys-found}
use Rattle.blk_verdict.proofs.Searched.{all_first, all_others}
use Rattle.blk_verdict.proofs.kept.KeptSoFar.has_stored_key.Goals as goal

pub returns-in_err-read_key_of-clause-untold : goal.returns-in_err-read_key_of-clause-untold
returns-in_err-read_key_of-clause-untold g c agrees keys =
    carried c.read_key_of.result c.from_residual.result c.in_err-read_key_of.field-0.0 _ c.in_err-read_key_of.was c.from_residual.ensures.1
    (c.read_key_of.ensures.untold agrees (λ image there. all_first (HasItsKey image) c.args.loaded.now c.args.self.now.kept.items (keys image there)))

pub returns-clause-has : goal.returns-clause-has
returns-clause-has g c =
    IfOk-weaker c.has.result _
    (λ has. ForSome (g.F.Folder.told c.args.folder.now).files (λ image. Agrees c.args.files.now image → (kept : List shown.Loaded) (given : shown.Loaded) → AreShown image kept c.args.self.now.kept.items → IsLoadedFrom image given c.args.loaded.now
    → has ≡ list_any (is_sought c.args.sought given.key) kept))
    (λ has is image there agrees kept given are known.
    let key = keys-found image known.node given c.args.loaded.now known.loads known.is in
    let read = c.in_ok-read_key_of.ensures.key image there given.key key in
    is image (told_now image c.in_ok-read_key_of.ensures.reads.stays there) agrees (known.is.hash ∙ ap hash_of (sym read)) kept are ∙ ap (λ (k : List ℕ). list_any (is_sought c.args.sought k) kept) read)
    c.has.ensures.has

pub returns-clause-untold : goal.returns-clause-untold
returns-clause-untold g c agrees keys =
    if_damaged_weaker c.has.result _ _ (λ damage none. ap (λ (t : Told). t.files) (sym c.in_ok-read_key_of.ensures.reads.stays) ∙ none)
    (c.has.ensures.untold (told_stays (Agrees c.args.files.now) c.in_ok-read_key_of.ensures.reads.stays agrees)
    (told_stays (λ (image : Image). HaveKeys image c.args.self.now.kept.items) c.in_ok-read_key_of.ensures.reads.stays (λ image there. all_others (HasItsKey image) c.args.loaded.now c.args.self.now.kept.items (keys image there))))
