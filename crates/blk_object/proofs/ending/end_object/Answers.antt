use Rattle.std.proofs.Common.{◌≡◌, ◌∙◌, Bool, true, false, sym, subst}
use Rattle.std.specs.Option.{ForSome}
use Rattle.blk_object.specs.Ending.{MayEndObject}
use Rattle.blk_object.proofs.ending.end_object.Goals as goal

clash : true ≡ false → ⊥
clash e = cc

pub returns-then-object-clause-cleans : goal.returns-then-object-clause-cleans
returns-then-object-clause-cleans g c e = absurd (clash (sym c.if-object.true ∙ e))

pub returns-then-object-clause-untold : goal.returns-then-object-clause-untold
returns-then-object-clause-untold g c may =
    c.free_entry.ensures.untold (subst (λ (t : Bool). ForSome (g.F.Folder.told c.args.folder.now).files (MayEndObject t c.args.object.now.entry c.args.object.now.node)) c.if-object.true may)

pub returns-else-object-clause-frees : goal.returns-else-object-clause-frees
returns-else-object-clause-frees g c e = absurd (clash (sym e ∙ c.if-object.false))

pub returns-else-object-clause-untold : goal.returns-else-object-clause-untold
returns-else-object-clause-untold g c may =
    c.clean.ensures.untold (subst (λ (t : Bool). ForSome (g.F.Folder.told c.args.folder.now).files (MayEndObject t c.args.object.now.entry c.args.object.now.node)) c.if-object.false may)
