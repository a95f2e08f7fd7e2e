use Rattle.std.proofs.Common.{ℕ, Option, sym, subst}
use Rattle.std.specs.Option.{ForSome}
use Rattle.std.specs.Prelude.{OnOk}
use Rattle.spec_image.specs.Told.{Applies}
use Rattle.blk_chain.specs.Unlinking.{BeforeChecks, CanBeUnlinked, IsSealedAgain, IsUnlinked, unlink_steps}
use Rattle.std.proofs.lemmas.Result.{on_ok_weaker}
use Rattle.blk_chain.proofs.Pairs.{loses-one}
use Rattle.blk_chain.proofs.unlinking.unlink.Goals as goal

pub returns-in-None-clause-steps : goal.returns-in-None-clause-steps
returns-in-None-clause-steps g c =
    subst (λ (o : Option ℕ). OnOk c.unlink_first.result (ForSome (g.F.Folder.told c.args.f.now).files (λ from. Applies (g.F.Folder.told c.args.f.now) (g.F.Folder.told c.unlink_first.new.folder) (unlink_steps from c.args.found.now.entry o))))
    (sym c.in-None.is) c.unlink_first.ensures.steps

pub returns-in-None-clause-unlinked : goal.returns-in-None-clause-unlinked
returns-in-None-clause-unlinked g c =
    subst (λ (o : Option ℕ). OnOk c.unlink_first.result (ForSome (g.F.Folder.told c.args.f.now).files (λ from. CanBeUnlinked c.args.found.now.entry o from → ForSome (g.F.Folder.told c.unlink_first.new.folder).files (IsUnlinked from c.args.found.now.entry o))))
    (sym c.in-None.is) c.unlink_first.ensures.unlinked

pub returns-in-Some-clause-steps : goal.returns-in-Some-clause-steps
returns-in-Some-clause-steps g c =
    subst (λ (o : Option ℕ). OnOk c.unlink_behind.result (ForSome (g.F.Folder.told c.args.f.now).files (λ from. Applies (g.F.Folder.told c.args.f.now) (g.F.Folder.told c.unlink_behind.new.folder) (unlink_steps from c.args.found.now.entry o))))
    (sym c.in-Some.is) c.unlink_behind.ensures.steps

pub returns-in-Some-clause-unlinked : goal.returns-in-Some-clause-unlinked
returns-in-Some-clause-unlinked g c =
    subst (λ (o : Option ℕ). OnOk c.unlink_behind.result (ForSome (g.F.Folder.told c.args.f.now).files (λ from. CanBeUnlinked c.args.found.now.entry o from → ForSome (g.F.Folder.told c.unlink_behind.new.folder).files (IsUnlinked from c.args.found.now.entry o))))
    (sym c.in-Some.is) c.unlink_behind.ensures.unlinked

pub returns-in-None-clause-sealed : goal.returns-in-None-clause-sealed
returns-in-None-clause-sealed g c =
    on_ok_weaker c.unlink_first.result (λ taken from there image now. subst (λ (o : Option ℕ). IsSealedAgain from c.args.found.now.entry o image) (sym c.in-None.is) tt) c.unlink_first.ensures.unlinked

pub returns-in-Some-clause-sealed : goal.returns-in-Some-clause-sealed
returns-in-Some-clause-sealed g c =
    subst (λ (o : Option ℕ). OnOk c.unlink_behind.result (ForSome (g.F.Folder.told c.args.f.now).files (λ from. ForSome (g.F.Folder.told c.unlink_behind.new.folder).files (IsSealedAgain from c.args.found.now.entry o))))
    (sym c.in-Some.is) c.unlink_behind.ensures.sealed

pub returns-in-None-clause-loses : goal.returns-in-None-clause-loses
returns-in-None-clause-loses g c =
    on_ok_weaker c.unlink_first.result (λ unlinked from there can image now. loses-one from image c.args.found.now.entry c.args.found.now.before can (unlinked from there can image now))
    (returns-in-None-clause-unlinked g c)

pub returns-in-Some-clause-loses : goal.returns-in-Some-clause-loses
returns-in-Some-clause-loses g c =
    on_ok_weaker c.unlink_behind.result (λ unlinked from there can image now. loses-one from image c.args.found.now.entry c.args.found.now.before can (unlinked from there can image now))
    (returns-in-Some-clause-unlinked g c)

pub returns-in-None-clause-checked : goal.returns-in-None-clause-checked
returns-in-None-clause-checked g c = on_ok_weaker c.unlink_first.result (λ taken from there. subst (λ (o : Option ℕ). BeforeChecks o from) (sym c.in-None.is) tt) c.unlink_first.ensures.steps

pub returns-in-Some-clause-checked : goal.returns-in-Some-clause-checked
returns-in-Some-clause-checked g c = on_ok_weaker c.unlink_behind.result (λ good from there. subst (λ (o : Option ℕ). BeforeChecks o from) (sym c.in-Some.is) (good from there)) c.unlink_behind.ensures.checked

pub returns-in-Some-clause-untold : goal.returns-in-Some-clause-untold
returns-in-Some-clause-untold g c good = c.unlink_behind.ensures.untold (λ from there. subst (λ (o : Option ℕ). BeforeChecks o from) c.in-Some.is (good from there))
