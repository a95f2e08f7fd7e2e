use Rattle.std.proofs.Common.{arith, ◌≡◌, ℕ, Bool, List, ◌∷◌, ◌++◌, Some, ap, sym, ◌∙◌, true, inr, rules}
use Rattle.std.specs.Prelude.{OnOk}
use Rattle.std.specs.Option.{ForSome, option_map}
use Rattle.std.proofs.lemmas.Result.{on_ok_weaker}
use Rattle.spec_image.specs.Image.{Image}
use Rattle.spec_image.specs.Steps.{after}
use Rattle.spec_image.specs.Told.{Told, AppliesPrefix, Passes}
use Rattle.spec_image.proofs.Runs.{grows_then, part_only, part_then}
use Rattle.spec_folder.specs.ListPlans.{touch_writes}
use Rattle.spec_folder.specs.ListView.{ListWrite}
use Rattle.spec_folder.specs.View.{list_of}
use Rattle.spec_folder.specs.ListSteps.{AreTimes, IsSealed, Seals, steps_of_writes}
use Rattle.spec_folder.specs.ListImages.{IsWritable, HasListAtRest, steps_of_touch}
use Rattle.law_folder.proofs.lists.AtRest.{touches-turn}
use Rattle.law_folder.proofs.updates.Sealing.{touch_seals}
use Rattle.law_folder.proofs.lists.WriteSteps.{still_check, writes_show}
use Rattle.law_folder.proofs.lists.WordTurns.{still_checks, touch_quiet, touch_times, touches-can, touches-in_turn, touches-rest}
use Rattle.blk_disk.specs.declared.tables.BlockFiles.{BlockFiles}
use Rattle.blk_lru.specs.Moments.{IsMidTouch}
use Rattle.blk_lru.specs.Lists.{CanBeTouched}
use Rattle.blk_lru.proofs.Conditions.{around, told_none}
use Rattle.blk_lru.proofs.FailedChecks.{if_damaged_weaker}
use Rattle.blk_lru.proofs.Listed.{linked}
use Rattle.blk_lru.proofs.Moments.{along_touch}
use Rattle.blk_lru.proofs.Operating.{all_made, part_passes}
use Rattle.blk_lru.proofs.Performing.{IsReady, now_has, ready_writable, told_ready}
use Rattle.blk_lru.proofs.Results.{on_ok_both}
use Rattle.blk_lru.proofs.changing.touch.Given as given
use Rattle.blk_lru.proofs.changing.touch.Goals as goal

-- what a prefix of the steps of an access passes
passes : (old now : Told) (from : Image) (files : BlockFiles) → old.files ≡ Some from → IsReady files from → (node moment : ℕ) → AppliesPrefix old now (steps_of_touch node moment from) → (prefix suffix : List ℕ) → HasListAtRest (prefix ++ node ∷ suffix) from
    → Passes old now (IsMidTouch files node (touch_writes node (list_of from)) (prefix ++ node ∷ suffix) (node ∷ prefix ++ suffix) from)
passes old now from files there ready node moment part prefix suffix rest =
    let ws : List ListWrite = touch_writes node (list_of from) in
    part_passes old now from there (steps_of_touch node moment from) (touch_quiet from node moment ws) part (IsMidTouch files node ws (prefix ++ node ∷ suffix) (node ∷ prefix ++ suffix) from)
    (along_touch files from ready.kept ws (prefix ++ node ∷ suffix) (node ∷ prefix ++ suffix) (touches-turn node (list_of from) prefix suffix rest) node (steps_of_touch node moment from) (touches-in_turn from node moment prefix suffix (ready_writable ready) rest))

pub returns-in_err-move_front-clause-prefix : goal.returns-in_err-move_front-clause-prefix
returns-in_err-move_front-clause-prefix g c = record {
  made = λ from there. part_only _ (c.in_err-move_front.ensures.prefix.made from there);
  silent = search rules;
}

pub returns-in_err-move_front-clause-stops : goal.returns-in_err-move_front-clause-stops
returns-in_err-move_front-clause-stops g c from there prefix suffix rest =
    passes (g.F.Folder.told c.args.f.now) (g.F.Folder.told c.move_front.new.folder) from c.args.files.now there (told_ready c.args.files.now (g.F.Folder.told c.args.f.now) c.requires.is_open (g.met.F.Folder.are_bytes c.args.f.now) from there) c.args.node c.args.moment
    (part_only _ (c.in_err-move_front.ensures.prefix.made from there)) prefix suffix rest

-- the list's part was made
between_is : (g : given.Over) (c : goal.After-set_times g) (from : Image) → (g.F.Folder.told c.args.f.now).files ≡ Some from → (g.F.Folder.told c.move_front.new.folder).files ≡ Some (after (steps_of_writes (touch_writes c.args.node (list_of from)) from) from)
between_is g c from there = (c.in_ok-move_front.ensures.steps from there).files ∙ ap (option_map (after (steps_of_writes (touch_writes c.args.node (list_of from)) from))) there

ready_here : (g : given.Over) (c : goal.After-set_times g) → ForSome (g.F.Folder.told c.args.f.now).files (IsReady c.args.files.now)
ready_here g c = told_ready c.args.files.now (g.F.Folder.told c.args.f.now) c.requires.is_open (g.met.F.Folder.are_bytes c.args.f.now)

-- the checksum of the node matched or was absent before, where that is so now
good_here : (g : given.Over) (c : goal.After-set_times g) → OnOk c.set_times.result (ForSome (g.F.Folder.told c.args.f.now).files (λ from. (list_of from).checks c.args.node ≡ true))
good_here g c =
    on_ok_weaker c.set_times.result
    (λ good from there.
    sym (ap (λ (checks : ℕ → Bool). checks c.args.node) (still_check (touch_writes c.args.node (list_of from)) from (after (steps_of_writes (touch_writes c.args.node (list_of from)) from) from) (writes_show (touch_writes c.args.node (list_of from)) from (ready_writable (ready_here g c from there)) (c.in_ok-move_front.ensures.checked from there)).ends))
    ∙ good _ (between_is g c from there))
    c.set_times.ensures.checked

pub returns-clause-checked : goal.returns-clause-checked
returns-clause-checked g c = on_ok_weaker c.set_times.result (λ good from there. record { writes = c.in_ok-move_front.ensures.checked from there; good = good from there; linked = c.in_ok-move_front.ensures.linked from there }) (good_here g c)

pub returns-clause-steps : goal.returns-clause-steps
returns-clause-steps g c = on_ok_weaker c.set_times.result (λ grows from there. grows_then (c.in_ok-move_front.ensures.steps from there) (grows _ (between_is g c from there))) c.set_times.ensures.steps

part_here : (g : given.Over) (c : goal.After-set_times g) → ForSome (g.F.Folder.told c.args.f.now).files (λ from. AppliesPrefix (g.F.Folder.told c.args.f.now) (g.F.Folder.told c.set_times.new.folder) (steps_of_touch c.args.node c.args.moment from))
part_here g c from there = part_then (c.in_ok-move_front.ensures.steps from there) (c.set_times.ensures.prefix.made _ (between_is g c from there))

pub returns-clause-prefix : goal.returns-clause-prefix
returns-clause-prefix g c = record {
  made = part_here g c;
  silent = search rules;
}

pub returns-clause-stops : goal.returns-clause-stops
returns-clause-stops g c from there prefix suffix rest = passes (g.F.Folder.told c.args.f.now) (g.F.Folder.told c.set_times.new.folder) from c.args.files.now there (ready_here g c from there) c.args.node c.args.moment (part_here g c from there) prefix suffix rest

pub returns-clause-touched : goal.returns-clause-touched
returns-clause-touched g c =
    on_ok_weaker c.set_times.result
    (λ grows from there prefix suffix rest.
    all_made (g.F.Folder.told c.args.f.now) (g.F.Folder.told c.set_times.new.folder) from there (steps_of_touch c.args.node c.args.moment from) (HasListAtRest (c.args.node ∷ prefix ++ suffix)) (grows from there)
    (touches-rest from c.args.node c.args.moment prefix suffix (ready_writable (ready_here g c from there)) rest))
    (returns-clause-steps g c)

-- what holds after all steps of an access that can be made
made : (g : given.Over) (c : goal.After-set_times g) (P : Image → Image → Type 0) → ((from : Image) → IsWritable from → CanBeTouched from c.args.node → P from (after (steps_of_touch c.args.node c.args.moment from) from))
    → OnOk c.set_times.result (ForSome (g.F.Folder.told c.args.f.now).files (λ from. ForSome (g.F.Folder.told c.set_times.new.folder).files (P from)))
made g c P holds =
    on_ok_both c.set_times.result
    (λ grows can from there.
    all_made (g.F.Folder.told c.args.f.now) (g.F.Folder.told c.set_times.new.folder) from there (steps_of_touch c.args.node c.args.moment from) (P from) (grows from there) (holds from (ready_writable (ready_here g c from there)) (can from there)))
    (returns-clause-steps g c) (returns-clause-checked g c)

pub returns-clause-times : goal.returns-clause-times
returns-clause-times g c =
    made g c (λ from image. AreTimes c.args.node c.args.moment image)
    (λ from ready can. touch_times from c.args.node c.args.moment ready can.good (touch_writes c.args.node (list_of from)) can.writes (omega (arith, c.ranges.moment.fits)))

pub returns-clause-sealed : goal.returns-clause-sealed
returns-clause-sealed g c =
    made g c (λ from image. Seals from (touch_writes c.args.node (list_of from)) image × IsSealed image c.args.node) (λ from ready can. touch_seals from c.args.node c.args.moment ready can.good (touch_writes c.args.node (list_of from)) can.writes)

pub returns-clause-damaged : goal.returns-clause-damaged
returns-clause-damaged g c = if_damaged_weaker c.set_times.result (λ damage node. inr (inr node)) c.set_times.ensures.damaged

pub returns-clause-untold : goal.returns-clause-untold
returns-clause-untold g c listed =
    if_damaged_weaker c.set_times.result
    (λ damage none. told_none (g.F.Folder.told c.args.f.now).files (g.F.Folder.told c.move_front.new.folder).files (λ from there. (after (steps_of_writes (touch_writes c.args.node (list_of from)) from) from, between_is g c from there)) none)
    (c.set_times.ensures.untold (now_has (g.F.Folder.told c.args.f.now) (g.F.Folder.told c.move_front.new.folder) (λ from. after (steps_of_writes (touch_writes c.args.node (list_of from)) from) from) (λ image. (list_of image).checks c.args.node ≡ true)
    (λ from there. (
      between_is g c from there,
      (let a = around c.args.node from (listed from there) in
          let good = (linked (list_of from) a.0 c.args.node a.1 a.2.whole).good in
          still_checks from (ready_writable (ready_here g c from there)) c.args.node c.args.moment good (touch_writes c.args.node (list_of from)) (touches-can from c.args.node a.0 a.1 a.2)),
    ))
    c.in_ok-move_front.ensures.prefix.silent))
