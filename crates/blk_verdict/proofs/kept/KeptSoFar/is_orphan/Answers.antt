use Rattle.std.proofs.Common.{◌≡◌, ◌∙◌, List, sym, ap}
use Rattle.std.specs.Option.{ForSome}
use Rattle.std.proofs.lemmas.Result.{IfOk-weaker}
use Rattle.spec_folder.specs.Audit as audit
use Rattle.spec_folder.specs.Loads as shown
use Rattle.blk_disk.specs.Tables.{Agrees}
use Rattle.blk_verdict.specs.Kept.{AreShown, IsLoadedFrom, is_part_said}
use Rattle.blk_verdict.specs.PartNames.{IsNameOf}
use Rattle.blk_verdict.proofs.AdmitFacts.{no_orphan}
use Rattle.blk_verdict.proofs.KeptKeysFound.{keys-found}
use Rattle.blk_verdict.proofs.SoughtFacts.{part_said}
use Rattle.blk_verdict.proofs.kept.KeptSoFar.is_orphan.Goals as goal

pub returns-in-Plain-clause-orphan : goal.returns-in-Plain-clause-orphan
returns-in-Plain-clause-orphan g c image there agrees kept given are known named = sym (no_orphan kept given (part_said given.key given.role c.args.loaded.now.role known.is.role ∙ ap is_part_said c.in-Plain.is))

pub returns-in-Parent-clause-orphan : goal.returns-in-Parent-clause-orphan
returns-in-Parent-clause-orphan g c image there agrees kept given are known named = sym (no_orphan kept given (part_said given.key given.role c.args.loaded.now.role known.is.role ∙ ap is_part_said c.in-Parent.is))

pub returns-in-Part-clause-orphan : goal.returns-in-Part-clause-orphan
returns-in-Part-clause-orphan g c =
    IfOk-weaker c.lacks_parent.result _
    (λ orphan. ForSome (g.F.Folder.told c.args.folder.now).files (λ image. Agrees c.args.files.now image → (kept : List shown.Loaded) (given : shown.Loaded) → AreShown image kept c.args.self.now.kept.items → IsLoadedFrom image given c.args.loaded.now → IsNameOf image c.args.loaded.now c.args.key.now
    → orphan ≡ audit.is_orphan kept given))
    (λ orphan is image there agrees kept given are known named.
    let part = ap is_part_said c.in-Part.is in
    is image there agrees kept given known.node are known.loads (named part given.key (keys-found image known.node given c.args.loaded.now known.loads known.is)) (part_said given.key given.role c.args.loaded.now.role known.is.role ∙ part))
    c.lacks_parent.ensures.orphan
