use Rattle.std.proofs.Common.{◌≡◌, ◌∙◌, true, sym, ap, subst}
use Rattle.std.specs.Int.{cast_unsigned, w64}
use Rattle.std.specs.Option.{ForSome}
use Rattle.std.proofs.lemmas.Result.{IfOk-weaker}
use Rattle.std.specs.Prelude.{List, ℕ}
use Rattle.spec_folder.specs.Entries.{stream}
use Rattle.spec_folder.specs.Loads as shown
use Rattle.blk_verdict.specs.Kept.{IsLoadedFrom, is_role_sought, is_sought}
use Rattle.blk_verdict.specs.declared.fitting.Sought.{Sought}
use Rattle.blk_verdict.proofs.KeptKeysFound.{indexes-found}
use Rattle.blk_verdict.proofs.SoughtFacts.{parent_found}
use Rattle.blk_verdict.proofs.fitting.has_bit.Goals as goal

pub returns-in-ParentOf-clause-fits : goal.returns-in-ParentOf-clause-fits
returns-in-ParentOf-clause-fits g c =
    IfOk-weaker c.has_part.result _
    (λ has. ForSome (g.F.Folder.told c.args.folder.now).files (λ image. (key : List ℕ) (loaded : shown.Loaded) → IsLoadedFrom image loaded c.args.kept.now → loaded.key ≡ key → has ≡ is_sought c.args.sought key loaded))
    (λ has is image there key loaded known same.
    let role : is_role_sought c.args.sought c.args.kept.now.role ≡ true = c.requires.role in
    let parent = subst (λ (s : Sought). is_role_sought s c.args.kept.now.role ≡ true) c.in-ParentOf.is role in
    let found = parent_found (record { key = key; signature = cast_unsigned w64 c.in-ParentOf.name.signature; part = c.in-ParentOf.name.part }) loaded.key loaded.role c.args.kept.now.role known.is.role same parent in
    let at = indexes-found image known.node loaded c.args.kept.now found.0 known.loads known.is found.1 in
    is image there (stream 2 loaded.streams) found.0 at.0 at.1 ∙ sym found.2 ∙ ap (λ (s : Sought). is_sought s key loaded) (sym c.in-ParentOf.is))
    c.has_part.ensures.bit
