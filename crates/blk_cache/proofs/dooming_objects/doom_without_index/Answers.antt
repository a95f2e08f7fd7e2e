use Rattle.std.proofs.Common.{◌≡◌, [], None, Some, Bool, subst}
use Rattle.spec_image.specs.Told.{Passes}
use Rattle.blk_io.proofs.Carried.{carried}
use Rattle.blk_model.specs.Effects.{doomed}
use Rattle.blk_model.specs.Items.{main}
use Rattle.blk_model.specs.State.{State}
use Rattle.spec_folder.specs.Removal.{is_of_another}
use Rattle.blk_object.specs.RemovingObjects.{FindsEither}
use Rattle.blk_cache.specs.DoomingObjects.{LiesAsTarget}
use Rattle.blk_cache.proofs.DoomedTargets.{alone-is, can-be-doomed, goes-alone, loads, parts-none, plain-held, plain-unheld}
use Rattle.blk_cache.proofs.dooming_objects.doom_without_index.Goals as goal

pub returns-in_err-doom_plain-clause-stops : goal.returns-in_err-doom_plain-clause-stops
returns-in_err-doom_plain-clause-stops g c from there state layout number object k t =
    let t1 = subst (λ (b : Bool). LiesAsTarget b state layout number object c.args.target.now) c.if-is_held.true t in
    let none = parts-none state layout from number object c.args.target.now k t1 c.requires.plain in
    let can = can-be-doomed state layout from number object c.args.target.now k t1 none t1.named in
    c.in_err-doom_plain.ensures.stops from there state layout [] number object t1.lies.was k.entries can t1.lies

pub returns-in_err-doom_plain-clause-untold : goal.returns-in_err-doom_plain-clause-untold
returns-in_err-doom_plain-clause-untold g c from there state layout number object k t =
    let t1 = subst (λ (b : Bool). LiesAsTarget b state layout number object c.args.target.now) c.if-is_held.true t in
    let none = parts-none state layout from number object c.args.target.now k t1 c.requires.plain in
    let can = can-be-doomed state layout from number object c.args.target.now k t1 none t1.named in
    carried c.doom_plain.result c.from_residual.result c.in_err-doom_plain.field-0.0 (λ _. (g.F.Folder.told c.args.folder.now).files ≡ None) c.in_err-doom_plain.was c.from_residual.ensures.1
    (c.doom_plain.ensures.untold from there state layout [] number object t1.lies.was k.entries can t1.lies)

pub returns-in_ok-doom_plain-clause-doomed : goal.returns-in_ok-doom_plain-clause-doomed
returns-in_ok-doom_plain-clause-doomed g c from there state layout number object k t last is =
    let t1 = subst (λ (b : Bool). LiesAsTarget b state layout number object c.args.target.now) c.if-is_held.true t in
    let none = parts-none state layout from number object c.args.target.now k t1 c.requires.plain in
    let can = can-be-doomed state layout from number object c.args.target.now k t1 none t1.named in
    plain-held state layout from number object c.args.target.now k t1 none t1.named last (c.in_ok-doom_plain.ensures.doomed from there state layout [] number object t1.lies.was k.entries can t1.lies k.counters t1.charge last is) (c.in_ok-doom_plain.ensures.session from there state layout [] number object t1.lies.was k.entries can t1.lies last is)

pub returns-in_ok-doom_plain-clause-stops : goal.returns-in_ok-doom_plain-clause-stops
returns-in_ok-doom_plain-clause-stops g c from there state layout number object k t =
    let t1 = subst (λ (b : Bool). LiesAsTarget b state layout number object c.args.target.now) c.if-is_held.true t in
    let none = parts-none state layout from number object c.args.target.now k t1 c.requires.plain in
    let can = can-be-doomed state layout from number object c.args.target.now k t1 none t1.named in
    c.in_ok-doom_plain.ensures.stops from there state layout [] number object t1.lies.was k.entries can t1.lies

pub returns-in_err-bytes-clause-stops : goal.returns-in_err-bytes-clause-stops
returns-in_err-bytes-clause-stops g c from there state layout number object k t =
    let t1 = subst (λ (b : Bool). LiesAsTarget b state layout number object c.args.target.now) c.if-is_held.false t in
    let none = parts-none state layout from number object c.args.target.now k t1 c.requires.plain in
    let goes = goes-alone state layout from number object c.args.target.now k t1 none t1.named in
    subst (λ (s : State). Passes (g.F.Folder.told c.args.folder.now) (g.F.Folder.told c.remove_item.new.folder) (FindsEither state s)) (alone-is state layout from number object c.args.target.now k t1 none t1.named) (c.in_err-bytes.ensures.stops from there state layout [] (doomed number state (Some object)).objects (is_of_another object.key) (main object.key) k goes)

pub returns-in_err-bytes-clause-untold : goal.returns-in_err-bytes-clause-untold
returns-in_err-bytes-clause-untold g c from there state layout number object k t =
    let t1 = subst (λ (b : Bool). LiesAsTarget b state layout number object c.args.target.now) c.if-is_held.false t in
    let none = parts-none state layout from number object c.args.target.now k t1 c.requires.plain in
    let goes = goes-alone state layout from number object c.args.target.now k t1 none t1.named in
    carried c.remove_item.result c.from_residual-in_err-bytes.result c.in_err-bytes.field-0.0 (λ _. (g.F.Folder.told c.args.folder.now).files ≡ None) c.in_err-bytes.was c.from_residual-in_err-bytes.ensures.1
    (c.remove_item.ensures.untold from there state layout [] (doomed number state (Some object)).objects (is_of_another object.key) (main object.key) k goes)

pub returns-in_ok-bytes-clause-doomed : goal.returns-in_ok-bytes-clause-doomed
returns-in_ok-bytes-clause-doomed g c from there state layout number object k t last is =
    let t1 = subst (λ (b : Bool). LiesAsTarget b state layout number object c.args.target.now) c.if-is_held.false t in
    let none = parts-none state layout from number object c.args.target.now k t1 c.requires.plain in
    let goes = goes-alone state layout from number object c.args.target.now k t1 none t1.named in
    plain-unheld state layout from number object c.args.target.now k t1 none t1.named last (c.in_ok-bytes.ensures.removed from there state layout [] (doomed number state (Some object)).objects (is_of_another object.key) (main object.key) k goes last is) c.in_ok-bytes.bytes (c.in_ok-bytes.ensures.charge from there t1.lies.was (loads state layout from number object c.args.target.now k t1)) (c.in_ok-bytes.ensures.session from there state layout [] (doomed number state (Some object)).objects (is_of_another object.key) (main object.key) k goes last is)

pub returns-in_ok-bytes-clause-stops : goal.returns-in_ok-bytes-clause-stops
returns-in_ok-bytes-clause-stops g c from there state layout number object k t =
    let t1 = subst (λ (b : Bool). LiesAsTarget b state layout number object c.args.target.now) c.if-is_held.false t in
    let none = parts-none state layout from number object c.args.target.now k t1 c.requires.plain in
    let goes = goes-alone state layout from number object c.args.target.now k t1 none t1.named in
    subst (λ (s : State). Passes (g.F.Folder.told c.args.folder.now) (g.F.Folder.told c.remove_item.new.folder) (FindsEither state s)) (alone-is state layout from number object c.args.target.now k t1 none t1.named) (c.in_ok-bytes.ensures.stops from there state layout [] (doomed number state (Some object)).objects (is_of_another object.key) (main object.key) k goes)
