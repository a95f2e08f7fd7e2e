use Rattle.std.proofs.Common.{◌≡◌, ◌∷◌, [], sym, subst, true}
use Rattle.std.specs.Prelude.{OnOk}
use Rattle.std.specs.Option.{ForSome}
use Rattle.std.proofs.lemmas.Result.{on_ok_weaker}
use Rattle.spec_image.specs.Told.{Applies}
use Rattle.spec_folder.specs.View.{list_of}
use Rattle.spec_folder.specs.ListSteps.{AreOf, write_steps}
use Rattle.blk_lru.specs.declared.writes.Write.{Write}
use Rattle.blk_lru.specs.Writes.{meant}
use Rattle.blk_lru.proofs.writes.write_one.Goals as goal

pub returns-in-Next-clause-checked : goal.returns-in-Next-clause-checked
returns-in-Next-clause-checked g c =
    on_ok_weaker c.set_link.result (λ good image there. subst (λ (v : Write). AreOf (λ n. (list_of image).checks n ≡ true) (meant v ∷ [])) (sym c.in-Next.is) (good image there, tt)) c.set_link.ensures.checked

pub returns-in-Next-clause-untold : goal.returns-in-Next-clause-untold
returns-in-Next-clause-untold g c good = c.set_link.ensures.untold (λ image there. (subst (λ (v : Write). AreOf (λ n. (list_of image).checks n ≡ true) (meant v ∷ [])) c.in-Next.is (good image there)).0)

pub returns-in-Prev-clause-checked : goal.returns-in-Prev-clause-checked
returns-in-Prev-clause-checked g c =
    on_ok_weaker c.set_link-in-Prev.result (λ good image there. subst (λ (v : Write). AreOf (λ n. (list_of image).checks n ≡ true) (meant v ∷ [])) (sym c.in-Prev.is) (good image there, tt)) c.set_link-in-Prev.ensures.checked

pub returns-in-Prev-clause-untold : goal.returns-in-Prev-clause-untold
returns-in-Prev-clause-untold g c good = c.set_link-in-Prev.ensures.untold (λ image there. (subst (λ (v : Write). AreOf (λ n. (list_of image).checks n ≡ true) (meant v ∷ [])) c.in-Prev.is (good image there)).0)

pub returns-in-Next-clause-steps : goal.returns-in-Next-clause-steps
unfolding write_steps
returns-in-Next-clause-steps g c = subst (λ (v : Write). OnOk c.set_link.result (ForSome (g.F.Folder.told c.args.folder.now).files (λ from. Applies (g.F.Folder.told c.args.folder.now) (g.F.Folder.told c.set_link.new.folder) (write_steps (meant v) from)))) (sym c.in-Next.is) c.set_link.ensures.steps

pub returns-in-Prev-clause-steps : goal.returns-in-Prev-clause-steps
unfolding write_steps
returns-in-Prev-clause-steps g c = subst (λ (v : Write). OnOk c.set_link-in-Prev.result (ForSome (g.F.Folder.told c.args.folder.now).files (λ from. Applies (g.F.Folder.told c.args.folder.now) (g.F.Folder.told c.set_link-in-Prev.new.folder) (write_steps (meant v) from)))) (sym c.in-Prev.is) c.set_link-in-Prev.ensures.steps

pub set_link-requires-clause-agrees : goal.set_link-requires-clause-agrees
set_link-requires-clause-agrees g c image there = (c.requires.is_open image there).agrees

pub set_link-requires-in-Prev-clause-agrees : goal.set_link-requires-in-Prev-clause-agrees
set_link-requires-in-Prev-clause-agrees g c image there = (c.requires.is_open image there).agrees
