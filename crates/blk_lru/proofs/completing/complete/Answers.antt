use Rattle.std.proofs.Common.{◌≡◌, ◌∙◌, List, map, sym, ap, subst, true, rules}
use Rattle.std.specs.Prelude.{OnOk}
use Rattle.std.specs.Option.{ForSome}
use Rattle.std.proofs.lemmas.Result.{on_ok_weaker}
use Rattle.spec_image.specs.Image.{Image}
use Rattle.spec_image.specs.Steps.{after}
use Rattle.spec_folder.specs.ListView.{ListWrite}
use Rattle.spec_folder.specs.View.{list_of}
use Rattle.spec_folder.specs.ListPlans.{completion_writes}
use Rattle.spec_folder.specs.ListSteps.{AreOf, AllWriteWords, Seals}
use Rattle.spec_folder.specs.ListImages.{IsCompleted, completion_steps}
use Rattle.law_folder.proofs.updates.Sealing.{writes_seal}
use Rattle.law_folder.proofs.lists.WordStops.{completions-can, completions-done}
use Rattle.law_folder.proofs.lists.WriteSteps.{quiet-writes, writes-in_turn}
use Rattle.blk_disk.specs.Tables.{is_node_among}
use Rattle.blk_lru.specs.Moments.{IsMidCompletion}
use Rattle.blk_lru.specs.Writes.{meant}
use Rattle.blk_lru.proofs.Conditions.{told_stays}
use Rattle.blk_lru.proofs.Moments.{along_completion, before_completion}
use Rattle.blk_lru.proofs.Operating.{all_made, part_as, part_passes, passes_stay, untold_as, whole_as}
use Rattle.blk_lru.proofs.Performing.{IsReady, ready_writable, told_ready}
use Rattle.blk_lru.proofs.completing.complete.Given as given
use Rattle.blk_lru.proofs.completing.complete.Goals as goal
use Rattle.blk_disk.specs.Open.{IsOpen}

pub returns-in_err-plan-clause-stops : goal.returns-in_err-plan-clause-stops
returns-in_err-plan-clause-stops g c from there =
    passes_stay (g.F.Folder.told c.args.f.now) (g.F.Folder.told c.pending.new.folder) from (IsMidCompletion c.args.files.now from) there c.in_err-plan.ensures.reads.stays
    (before_completion c.args.files.now from (c.requires.is_open from there))

pub returns-in_err-plan-clause-is_open : goal.returns-in_err-plan-clause-is_open
returns-in_err-plan-clause-is_open g c = told_stays (IsOpen c.args.files.now) c.in_err-plan.ensures.reads.stays c.requires.is_open

-- the plan
words_are : (g : given.Over) (c : goal.After-deref g) (P : List ListWrite → Type 0) → P (map meant c.in_ok-plan.plan.items) → P (map meant c.deref.result.now)
words_are g c P holds = subst P (ap (map meant) (sym c.deref.ensures.0)) holds

plan_is : (g : given.Over) (c : goal.After-deref g) → ForSome (g.F.Folder.told c.args.f.now).files (λ from. map meant c.deref.result.now ≡ completion_writes (list_of from))
plan_is g c from there = ap (map meant) c.deref.ensures.0 ∙ c.in_ok-plan.ensures.plan from there (c.requires.is_open from there).agrees

pub perform-requires-clause-stand : goal.perform-requires-clause-stand
perform-requires-clause-stand g c = words_are g c (AreOf (λ n. is_node_among c.args.files.now n ≡ true)) c.in_ok-plan.ensures.stand

pub perform-requires-clause-words : goal.perform-requires-clause-words
perform-requires-clause-words g c = words_are g c AllWriteWords c.in_ok-plan.ensures.words

pub perform-requires-clause-is_open : goal.perform-requires-clause-is_open
perform-requires-clause-is_open g c = told_stays (IsOpen c.args.files.now) c.in_ok-plan.ensures.reads.stays c.requires.is_open

pub returns-clause-steps : goal.returns-clause-steps
returns-clause-steps g c = whole_as (g.F.Folder.told c.args.f.now) (g.F.Folder.told c.pending.new.folder) (g.F.Folder.told c.perform.new.folder) c.in_ok-plan.ensures.reads.stays (map meant c.deref.result.now) (λ from. completion_writes (list_of from)) (plan_is g c.before) c.perform.result c.perform.ensures.steps

pub returns-clause-prefix : goal.returns-clause-prefix
returns-clause-prefix g c = record {
  made = part_as (g.F.Folder.told c.args.f.now) (g.F.Folder.told c.pending.new.folder) (g.F.Folder.told c.perform.new.folder) c.in_ok-plan.ensures.reads.stays (map meant c.deref.result.now) (λ from. completion_writes (list_of from)) (plan_is g c.before) c.perform.ensures.prefix.made;
  silent = search rules;
}

pub returns-clause-untold : goal.returns-clause-untold
returns-clause-untold g c = untold_as (g.F.Folder.told c.args.f.now) (g.F.Folder.told c.pending.new.folder) (g.F.Folder.told c.perform.new.folder) c.in_ok-plan.ensures.reads.stays (map meant c.deref.result.now) (λ from. completion_writes (list_of from)) (plan_is g c.before) c.perform.result c.perform.ensures.untold (λ from there. completions-can from)

ready_here : (g : given.Over) (c : goal.After-perform g) → ForSome (g.F.Folder.told c.args.f.now).files (IsReady c.args.files.now)
ready_here g c = told_ready c.args.files.now (g.F.Folder.told c.args.f.now) c.requires.is_open (g.met.F.Folder.are_bytes c.args.f.now)

-- what holds after all of it
made : (g : given.Over) (c : goal.After-perform g) (P : Image → Image → Type 0) → ((from : Image) → IsReady c.args.files.now from → P from (after (completion_steps from) from)) → OnOk c.perform.result (ForSome (g.F.Folder.told c.args.f.now).files (λ from. ForSome (g.F.Folder.told c.perform.new.folder).files (P from)))
made g c P holds = on_ok_weaker c.perform.result (λ grows from there. all_made (g.F.Folder.told c.args.f.now) (g.F.Folder.told c.perform.new.folder) from there (completion_steps from) (P from) (grows from there) (holds from (ready_here g c from there))) (returns-clause-steps g c)

pub returns-clause-done : goal.returns-clause-done
returns-clause-done g c = made g c IsCompleted (λ from ready. completions-done from (ready_writable ready))

pub returns-clause-sealed : goal.returns-clause-sealed
returns-clause-sealed g c = made g c (λ from. Seals from (completion_writes (list_of from))) (λ from ready. writes_seal (completion_writes (list_of from)) from (ready_writable ready) (completions-can from))

pub returns-clause-stops : goal.returns-clause-stops
returns-clause-stops g c from there =
    let ready = ready_here g c from there in
    let ws : List ListWrite = completion_writes (list_of from) in
    part_passes (g.F.Folder.told c.args.f.now) (g.F.Folder.told c.perform.new.folder) from there (completion_steps from) (quiet-writes ws from) ((returns-clause-prefix g c).made from there) (IsMidCompletion c.args.files.now from)
    (along_completion c.args.files.now from ready.kept (completion_steps from) (writes-in_turn from ws (ready_writable ready) (completions-can from)))
