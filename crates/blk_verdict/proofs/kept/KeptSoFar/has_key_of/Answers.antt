use Rattle.std.proofs.Common.{◌≡◌, ◌∙◌, ℕ, List, sym, ap}
use Rattle.std.specs.List.{list_any}
use Rattle.std.specs.Option.{ForSome}
use Rattle.std.proofs.lemmas.Result.{IfOk-weaker}
use Rattle.spec_format.specs.Hash.{hash as hash_of}
use Rattle.spec_folder.specs.Loads as shown
use Rattle.blk_disk.specs.Tables.{Agrees}
use Rattle.blk_verdict.specs.Keyed.{HasItsKey}
use Rattle.blk_verdict.specs.Kept.{AreShown, IsLoadedFrom, is_part_said, is_sought}
use Rattle.blk_verdict.specs.PartNames.{IsNameOf}
use Rattle.blk_verdict.proofs.KeptKeysFound.{keys-found}
use Rattle.blk_verdict.proofs.Searched.{all_others}
use Rattle.blk_verdict.proofs.kept.KeptSoFar.has_key_of.Goals as goal

pub returns-in-Plain-clause-has : goal.returns-in-Plain-clause-has
returns-in-Plain-clause-has g c =
    IfOk-weaker c.has_stored_key.result _
    (λ has. ForSome (g.F.Folder.told c.args.folder.now).files (λ image. Agrees c.args.files.now image → (kept : List shown.Loaded) (given : shown.Loaded) → AreShown image kept c.args.self.now.kept.items → IsLoadedFrom image given c.args.loaded.now → IsNameOf image c.args.loaded.now c.args.key.now
    → has ≡ list_any (is_sought c.args.sought given.key) kept))
    (λ has is image there agrees kept given are known named. is image there agrees kept given are known)
    c.has_stored_key.ensures.has

pub returns-in-Parent-clause-has : goal.returns-in-Parent-clause-has
returns-in-Parent-clause-has g c =
    IfOk-weaker c.has_stored_key-in-Parent.result _
    (λ has. ForSome (g.F.Folder.told c.args.folder.now).files (λ image. Agrees c.args.files.now image → (kept : List shown.Loaded) (given : shown.Loaded) → AreShown image kept c.args.self.now.kept.items → IsLoadedFrom image given c.args.loaded.now → IsNameOf image c.args.loaded.now c.args.key.now
    → has ≡ list_any (is_sought c.args.sought given.key) kept))
    (λ has is image there agrees kept given are known named. is image there agrees kept given are known)
    c.has_stored_key-in-Parent.ensures.has

pub returns-in-Part-clause-has : goal.returns-in-Part-clause-has
returns-in-Part-clause-has g c =
    IfOk-weaker c.has.result _
    (λ has. ForSome (g.F.Folder.told c.args.folder.now).files (λ image. Agrees c.args.files.now image → (kept : List shown.Loaded) (given : shown.Loaded) → AreShown image kept c.args.self.now.kept.items → IsLoadedFrom image given c.args.loaded.now → IsNameOf image c.args.loaded.now c.args.key.now
    → has ≡ list_any (is_sought c.args.sought given.key) kept))
    (λ has is image there agrees kept given are known named.
    let same : c.args.key.now ≡ given.key = named (ap is_part_said c.in-Part.is) given.key (keys-found image known.node given c.args.loaded.now known.loads known.is) in
    is image there agrees (known.is.hash ∙ ap hash_of (sym same)) kept are ∙ ap (λ (k : List ℕ). list_any (is_sought c.args.sought k) kept) same)
    c.has.ensures.has

pub returns-in-Part-clause-untold : goal.returns-in-Part-clause-untold
returns-in-Part-clause-untold g c agrees keys = c.has.ensures.untold agrees (λ image there. all_others (HasItsKey image) c.args.loaded.now c.args.self.now.kept.items (keys image there))
