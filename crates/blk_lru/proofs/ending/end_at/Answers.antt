use Rattle.std.proofs.Common.{◌≡◌, ◌∙◌, List, map, sym, ap, subst, true, rules}
use Rattle.std.specs.Option.{ForSome}
use Rattle.spec_folder.specs.ListView.{ListWrite}
use Rattle.spec_folder.specs.View.{list_of}
use Rattle.spec_folder.specs.ListPlans.{ending_writes}
use Rattle.spec_folder.specs.ListSteps.{AreOf, AllWriteWords, Seals, steps_of_writes}
use Rattle.law_folder.proofs.updates.Sealing.{writes_seal}
use Rattle.blk_disk.specs.Open.{IsOpen}
use Rattle.blk_disk.specs.Tables.{is_node_among}
use Rattle.blk_lru.specs.Writes.{meant}
use Rattle.blk_lru.proofs.Conditions.{told_stays}
use Rattle.blk_lru.proofs.Operating.{all_made, checked_as, part_as, untold_as, whole_as}
use Rattle.blk_lru.proofs.Performing.{IsReady, ready_writable, told_ready}
use Rattle.blk_lru.proofs.Results.{on_ok_both}
use Rattle.blk_lru.proofs.ending.end_at.Given as given
use Rattle.blk_lru.proofs.ending.end_at.Goals as goal

pub returns-in_err-plan-clause-is_open : goal.returns-in_err-plan-clause-is_open
returns-in_err-plan-clause-is_open g c = told_stays (IsOpen c.args.files.now) c.in_err-plan.ensures.reads.stays c.requires.is_open

-- the plan
words_are : (g : given.Over) (c : goal.After-deref g) (P : List ListWrite → Type 0) → P (map meant c.in_ok-plan.plan.items) → P (map meant c.deref.result.now)
words_are g c P holds = subst P (ap (map meant) (sym c.deref.ensures.0)) holds

plan_is : (g : given.Over) (c : goal.After-deref g) → ForSome (g.F.Folder.told c.args.folder.now).files (λ from. map meant c.deref.result.now ≡ ending_writes (list_of from) c.args.last)
plan_is g c from there = ap (map meant) c.deref.ensures.0 ∙ c.in_ok-plan.ensures.plan from there (c.requires.is_open from there).agrees

pub perform-requires-clause-stand : goal.perform-requires-clause-stand
perform-requires-clause-stand g c = words_are g c (AreOf (λ n. is_node_among c.args.files.now n ≡ true)) c.in_ok-plan.ensures.stand

pub perform-requires-clause-words : goal.perform-requires-clause-words
perform-requires-clause-words g c = words_are g c AllWriteWords c.in_ok-plan.ensures.words

pub perform-requires-clause-is_open : goal.perform-requires-clause-is_open
perform-requires-clause-is_open g c = told_stays (IsOpen c.args.files.now) c.in_ok-plan.ensures.reads.stays c.requires.is_open

pub returns-clause-steps : goal.returns-clause-steps
returns-clause-steps g c = whole_as (g.F.Folder.told c.args.folder.now) (g.F.Folder.told c.ending_of.new.folder) (g.F.Folder.told c.perform.new.folder) c.in_ok-plan.ensures.reads.stays (map meant c.deref.result.now) (λ from. ending_writes (list_of from) c.args.last) (plan_is g c.before) c.perform.result c.perform.ensures.steps

pub returns-clause-prefix : goal.returns-clause-prefix
returns-clause-prefix g c = record {
  made = part_as (g.F.Folder.told c.args.folder.now) (g.F.Folder.told c.ending_of.new.folder) (g.F.Folder.told c.perform.new.folder) c.in_ok-plan.ensures.reads.stays (map meant c.deref.result.now) (λ from. ending_writes (list_of from) c.args.last) (plan_is g c.before) c.perform.ensures.prefix.made;
  silent = search rules;
}

pub returns-clause-untold : goal.returns-clause-untold
returns-clause-untold g c can = untold_as (g.F.Folder.told c.args.folder.now) (g.F.Folder.told c.ending_of.new.folder) (g.F.Folder.told c.perform.new.folder) c.in_ok-plan.ensures.reads.stays (map meant c.deref.result.now) (λ from. ending_writes (list_of from) c.args.last) (plan_is g c.before) c.perform.result c.perform.ensures.untold can

pub returns-clause-checked : goal.returns-clause-checked
returns-clause-checked g c = checked_as (g.F.Folder.told c.args.folder.now) (g.F.Folder.told c.ending_of.new.folder) (g.F.Folder.told c.perform.new.folder) c.in_ok-plan.ensures.reads.stays (map meant c.deref.result.now) (λ from. ending_writes (list_of from) c.args.last) (plan_is g c.before) c.perform.result c.perform.ensures.checked

ready_here : (g : given.Over) (c : goal.After-perform g) → ForSome (g.F.Folder.told c.args.folder.now).files (IsReady c.args.files.now)
ready_here g c = told_ready c.args.files.now (g.F.Folder.told c.args.folder.now) c.requires.is_open (g.met.F.Folder.are_bytes c.args.folder.now)

pub returns-clause-sealed : goal.returns-clause-sealed
returns-clause-sealed g c =
    on_ok_both c.perform.result
    (λ grows can from there.
    let ws : List ListWrite = ending_writes (list_of from) c.args.last in
    all_made (g.F.Folder.told c.args.folder.now) (g.F.Folder.told c.perform.new.folder) from there (steps_of_writes ws from) (Seals from ws) (grows from there) (writes_seal ws from (ready_writable (ready_here g c from there)) (can from there)))
    (returns-clause-steps g c) (returns-clause-checked g c)
