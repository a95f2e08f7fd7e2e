use Rattle.std.proofs.Common.{◌≡◌, List, ◌∷◌, None, map, sym, ap, ◌∙◌, subst, true, rules}
use Rattle.std.specs.Prelude.{OnOk}
use Rattle.std.specs.Option.{ForSome}
use Rattle.std.proofs.lemmas.Result.{on_ok_weaker}
use Rattle.spec_folder.specs.ListView.{ListWrite}
use Rattle.spec_folder.specs.ListPlans.{writes_of}
use Rattle.spec_folder.specs.View.{list_of}
use Rattle.spec_folder.specs.ListImages.{CanBeMade, HasListAtRest, walked}
use Rattle.spec_folder.specs.ListSteps.{Seals, steps_of_writes}
use Rattle.law_folder.proofs.updates.Sealing.{writes_seal}
use Rattle.law_folder.proofs.lists.WriteSteps.{quiet-writes, writes-in_turn}
use Rattle.law_folder.proofs.lists.WriteWords.{Each, Good, each_nodes, each_words}
use Rattle.blk_io.proofs.Carried.{carried}
use Rattle.blk_disk.specs.Tables.{is_node_among}
use Rattle.blk_lru.specs.declared.plans.Operation.TheVariants as operations
use Rattle.blk_lru.specs.Moments.{IsMidOperation}
use Rattle.blk_lru.specs.Plans.{whole_plan}
use Rattle.blk_lru.specs.Writes.{meant}
use Rattle.blk_lru.proofs.Moments.{along_operation, before_operation}
use Rattle.blk_lru.proofs.Operating.{all_made, checked_as, part_as, part_passes, passes_stay, untold_as, whole_as}
use Rattle.blk_lru.proofs.Performing.{IsReady, ready_writable, told_ready}
use Rattle.blk_lru.proofs.PlanNodes.{whole_good}
use Rattle.blk_lru.proofs.PlanWords.{whole_is}
use Rattle.blk_lru.proofs.Results.{on_ok_both}
use Rattle.law_folder.proofs.lists.AtRest.{inserts-turn}
use Rattle.law_folder.proofs.lists.WordTurns.{inserts-can, inserts-rest}
use Rattle.blk_lru.proofs.Conditions.{told_stays}
use Rattle.blk_lru.proofs.changing.insert_front.Given as given
use Rattle.blk_lru.proofs.changing.insert_front.Goals as goal
use Rattle.blk_disk.specs.Open.{IsOpen}

pub returns-in_err-head-clause-stops : goal.returns-in_err-head-clause-stops
returns-in_err-head-clause-stops g c from there can =
    let ws : List ListWrite = writes_of 1 c.args.node (list_of from) in
    passes_stay (g.F.Folder.told c.args.f.now) (g.F.Folder.told c.first.new.f) from (IsMidOperation c.args.files.now ws (walked from) (c.args.node ∷ walked from) from) there c.in_err-head.ensures.reads.stays
    (before_operation c.args.files.now from (c.requires.is_open from there) ws (walked from) (c.args.node ∷ walked from) (inserts-turn c.args.node (list_of from) (walked from) can))

pub returns-in_err-head-clause-untold : goal.returns-in_err-head-clause-untold
returns-in_err-head-clause-untold g c can =
    carried c.first.result c.from_residual.result c.in_err-head.field-0.0 (λ _. (g.F.Folder.told c.args.f.now).files ≡ None) c.in_err-head.was c.from_residual.ensures.1 (c.first.ensures.untold (λ image there. (c.requires.is_open image there).whole_index) (λ image there. (c.requires.is_open image there).agrees) (λ image there. (can image there).rest))

pub returns-in_err-head-clause-is_open : goal.returns-in_err-head-clause-is_open
returns-in_err-head-clause-is_open g c = told_stays (IsOpen c.args.files.now) c.in_err-head.ensures.reads.stays c.requires.is_open

-- the plan
words_are : (g : given.Over) (c : goal.After-deref g) → map meant c.deref.result.now ≡ whole_plan c.args.node (operations.Insert c.in_ok-head.head)
words_are g c = ap (map meant) c.deref.ensures.0 ∙ c.plan_of-plan.ensures

plan_is : (g : given.Over) (c : goal.After-deref g) → ForSome (g.F.Folder.told c.args.f.now).files (λ from. map meant c.deref.result.now ≡ writes_of 1 c.args.node (list_of from))
plan_is g c from there = words_are g c ∙ whole_is (list_of from) c.args.node (operations.Insert c.in_ok-head.head) (c.in_ok-head.ensures.word from there)

good_here : (g : given.Over) (c : goal.After-deref g) → Each (Good (λ n. is_node_among c.args.files.now n ≡ true)) (map meant c.deref.result.now)
good_here g c = subst (Each (Good (λ n. is_node_among c.args.files.now n ≡ true))) (sym (words_are g c)) (whole_good c.args.files.now c.args.node c.requires.stands (operations.Insert c.in_ok-head.head) c.in_ok-head.ensures.stands)

pub perform-requires-clause-stand : goal.perform-requires-clause-stand
perform-requires-clause-stand g c = each_nodes (λ n. is_node_among c.args.files.now n ≡ true) (map meant c.deref.result.now) (good_here g c)

pub perform-requires-clause-words : goal.perform-requires-clause-words
perform-requires-clause-words g c = each_words (λ n. is_node_among c.args.files.now n ≡ true) (map meant c.deref.result.now) (good_here g c)

pub perform-requires-clause-is_open : goal.perform-requires-clause-is_open
perform-requires-clause-is_open g c = told_stays (IsOpen c.args.files.now) c.in_ok-head.ensures.reads.stays c.requires.is_open

pub returns-clause-steps : goal.returns-clause-steps
returns-clause-steps g c = whole_as (g.F.Folder.told c.args.f.now) (g.F.Folder.told c.first.new.f) (g.F.Folder.told c.perform.new.folder) c.in_ok-head.ensures.reads.stays (map meant c.deref.result.now) (λ from. writes_of 1 c.args.node (list_of from)) (plan_is g c.before) c.perform.result c.perform.ensures.steps

pub returns-clause-prefix : goal.returns-clause-prefix
returns-clause-prefix g c = record {
  made = part_as (g.F.Folder.told c.args.f.now) (g.F.Folder.told c.first.new.f) (g.F.Folder.told c.perform.new.folder) c.in_ok-head.ensures.reads.stays (map meant c.deref.result.now) (λ from. writes_of 1 c.args.node (list_of from)) (plan_is g c.before) c.perform.ensures.prefix.made;
  silent = search rules;
}

checked_here : (g : given.Over) (c : goal.After-perform g) → OnOk c.perform.result (ForSome (g.F.Folder.told c.args.f.now).files (λ from. CanBeMade from (writes_of 1 c.args.node (list_of from))))
checked_here g c = checked_as (g.F.Folder.told c.args.f.now) (g.F.Folder.told c.first.new.f) (g.F.Folder.told c.perform.new.folder) c.in_ok-head.ensures.reads.stays (map meant c.deref.result.now) (λ from. writes_of 1 c.args.node (list_of from)) (plan_is g c.before) c.perform.result c.perform.ensures.checked

pub returns-clause-untold : goal.returns-clause-untold
returns-clause-untold g c holds = untold_as (g.F.Folder.told c.args.f.now) (g.F.Folder.told c.first.new.f) (g.F.Folder.told c.perform.new.folder) c.in_ok-head.ensures.reads.stays (map meant c.deref.result.now) (λ from. writes_of 1 c.args.node (list_of from)) (plan_is g c.before) c.perform.result c.perform.ensures.untold (λ from there. inserts-can from c.args.node (walked from) (holds from there))

ready_here : (g : given.Over) (c : goal.After-perform g) → ForSome (g.F.Folder.told c.args.f.now).files (IsReady c.args.files.now)
ready_here g c = told_ready c.args.files.now (g.F.Folder.told c.args.f.now) c.requires.is_open (g.met.F.Folder.are_bytes c.args.f.now)

pub returns-clause-checked : goal.returns-clause-checked
returns-clause-checked g c = checked_here g c

pub returns-clause-inserted : goal.returns-clause-inserted
returns-clause-inserted g c =
    on_ok_weaker c.perform.result
    (λ grows from there can.
    all_made (g.F.Folder.told c.args.f.now) (g.F.Folder.told c.perform.new.folder) from there (steps_of_writes (writes_of 1 c.args.node (list_of from)) from) (HasListAtRest (c.args.node ∷ walked from)) (grows from there)
    (inserts-rest from c.args.node (walked from) (ready_writable (ready_here g c from there)) can))
    (returns-clause-steps g c)

pub returns-clause-sealed : goal.returns-clause-sealed
returns-clause-sealed g c =
    on_ok_both c.perform.result
    (λ grows can from there.
    let ws : List ListWrite = writes_of 1 c.args.node (list_of from) in
    all_made (g.F.Folder.told c.args.f.now) (g.F.Folder.told c.perform.new.folder) from there (steps_of_writes ws from) (Seals from ws) (grows from there) (writes_seal ws from (ready_writable (ready_here g c from there)) (can from there)))
    (returns-clause-steps g c) (checked_here g c)

pub returns-clause-stops : goal.returns-clause-stops
returns-clause-stops g c from there can =
    let ws : List ListWrite = writes_of 1 c.args.node (list_of from) in
    let ready = ready_here g c from there in
    part_passes (g.F.Folder.told c.args.f.now) (g.F.Folder.told c.perform.new.folder) from there (steps_of_writes ws from) (quiet-writes ws from) ((returns-clause-prefix g c).made from there) (IsMidOperation c.args.files.now ws (walked from) (c.args.node ∷ walked from) from)
    (along_operation c.args.files.now from ready.kept ws (walked from) (c.args.node ∷ walked from) (inserts-turn c.args.node (list_of from) (walked from) can) (steps_of_writes ws from) (writes-in_turn from ws (ready_writable ready) (inserts-can from c.args.node (walked from) can)))
