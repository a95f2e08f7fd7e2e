use Rattle.std.proofs.Common.{ℕ, subst}
use Rattle.std.specs.Prelude.{OnOk}
use Rattle.std.specs.Option.{ForSome}
use Rattle.std.proofs.lemmas.Result.{on_ok_weaker}
use Rattle.blk_object.specs.Writing.{IsRiseCounted}
use Rattle.blk_object.proofs.DamageChecks.{handed, touch-checked}
use Rattle.blk_cache.proofs.WriteUses.{count-untold, used-counted, used-in-part, used-stops}
use Rattle.blk_cache.proofs.write.use_and_count.Goals as goal

pub returns-in_err-touch-clause-stops : goal.returns-in_err-touch-clause-stops
returns-in_err-touch-clause-stops g c loose =
    used-in-part c.args.files.now c.args.object.now.node c.args.moment c.args.object.now.size c.args.after (g.F.Folder.told c.args.folder.now) (g.F.Folder.told c.touch.new.f) (g.F.Folder.told c.touch.new.f) (g.met.F.Folder.are_bytes c.args.folder.now) c.requires.is_open c.touch.ensures.stops

pub returns-clause-used : goal.returns-clause-used
returns-clause-used g c =
    on_ok_weaker c.count_rise.result
    (λ counted loose.
    used-counted c.args.files.now c.args.object.now.node c.args.moment c.args.object.now.size c.args.after (g.F.Folder.told c.args.folder.now) (g.F.Folder.told c.touch.new.f) (g.F.Folder.told c.count_rise.new.folder) (g.met.F.Folder.are_bytes c.args.folder.now) c.requires.is_open c.touch.ensures.stops
    c.in_ok-touch.ensures.steps c.count_rise.ensures.stops counted)
    (subst (λ (n : ℕ). OnOk c.count_rise.result (ForSome (g.F.Folder.told c.touch.new.f).files (λ from. ForSome (g.F.Folder.told c.count_rise.new.folder).files (IsRiseCounted n c.args.after from)))) c.from.ensures c.count_rise.ensures.counted)

pub returns-clause-stops : goal.returns-clause-stops
returns-clause-stops g c loose =
    used-stops c.args.files.now c.args.object.now.node c.args.moment c.args.object.now.size c.args.after (g.F.Folder.told c.args.folder.now) (g.F.Folder.told c.touch.new.f) (g.F.Folder.told c.count_rise.new.folder) (g.met.F.Folder.are_bytes c.args.folder.now) c.requires.is_open c.touch.ensures.stops
    c.in_ok-touch.ensures.steps c.count_rise.ensures.stops

pub returns-clause-untold : goal.returns-clause-untold
returns-clause-untold g c listed =
    count-untold c.count_rise.result c.args.object.now.node c.args.moment (g.F.Folder.told c.args.folder.now) (g.F.Folder.told c.touch.new.f) c.in_ok-touch.ensures.steps c.count_rise.ensures.untold

pub returns-in_err-touch-clause-damaged : goal.returns-in_err-touch-clause-damaged
returns-in_err-touch-clause-damaged g c =
    handed c.touch.result c.from_residual.result c.in_err-touch.field-0.0 _ c.args.files.now (g.F.Folder.told c.touch.new.f) (touch-checked c.args.object.now.node c.args.files.now _ _) c.in_err-touch.was c.from_residual.ensures.1 c.touch.ensures.damaged
