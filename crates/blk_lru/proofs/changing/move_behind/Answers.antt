use Rattle.std.proofs.Common.{◌≡◌, Some, map, sym, ap, ◌∙◌, subst, true, rules}
use Rattle.std.specs.Prelude.{OnOk}
use Rattle.std.specs.Option.{ForSome}
use Rattle.std.proofs.lemmas.Result.{on_ok_weaker}
use Rattle.spec_folder.specs.ListPlans.{writes_of}
use Rattle.spec_folder.specs.View.{list_of}
use Rattle.spec_folder.specs.ListImages.{CanBeMade}
use Rattle.law_folder.proofs.lists.WriteWords.{Each, Good, each_nodes, each_words}
use Rattle.blk_disk.specs.Tables.{is_node_among}
use Rattle.blk_lru.specs.declared.plans.Operation.TheVariants as operations
use Rattle.blk_lru.specs.Plans.{whole_plan}
use Rattle.blk_lru.specs.Writes.{meant}
use Rattle.blk_lru.proofs.Operating.{checked_as, part_as, untold_as, whole_as}
use Rattle.blk_lru.proofs.PlanNodes.{whole_good}
use Rattle.blk_lru.proofs.PlanWords.{whole_is}
use Rattle.law_folder.proofs.lists.WordTurns.{moves-can}
use Rattle.blk_lru.proofs.Beside.{move_linked}
use Rattle.blk_lru.proofs.Conditions.{around, told_stays}
use Rattle.blk_lru.proofs.changing.move_behind.Given as given
use Rattle.blk_lru.proofs.changing.move_behind.Goals as goal
use Rattle.blk_disk.specs.Open.{IsOpen}

pub returns-in_err-neighbours-clause-is_open : goal.returns-in_err-neighbours-clause-is_open
returns-in_err-neighbours-clause-is_open g c = told_stays (IsOpen c.args.files.now) c.in_err-neighbours.ensures.reads.stays c.requires.is_open

-- the plan
words_are : (g : given.Over) (c : goal.After-deref g) → map meant c.deref.result.now ≡ whole_plan c.args.node (operations.Move (Some c.in_ok-neighbours.neighbours) c.args.head)
words_are g c = ap (map meant) c.deref.ensures.0 ∙ c.plan_of-plan.ensures

plan_is : (g : given.Over) (c : goal.After-deref g) → ForSome (g.F.Folder.told c.args.folder.now).files (λ from. map meant c.deref.result.now ≡ writes_of 3 c.args.node (list_of from))
plan_is g c from there = words_are g c ∙ whole_is (list_of from) c.args.node (operations.Move (Some c.in_ok-neighbours.neighbours) c.args.head) (c.in_ok-neighbours.ensures.words from there, c.requires.head from there)

good_here : (g : given.Over) (c : goal.After-deref g) → Each (Good (λ n. is_node_among c.args.files.now n ≡ true)) (map meant c.deref.result.now)
good_here g c = subst (Each (Good (λ n. is_node_among c.args.files.now n ≡ true))) (sym (words_are g c)) (whole_good c.args.files.now c.args.node c.requires.stands (operations.Move (Some c.in_ok-neighbours.neighbours) c.args.head) (c.in_ok-neighbours.ensures.stand, c.requires.first))

pub perform-requires-clause-stand : goal.perform-requires-clause-stand
perform-requires-clause-stand g c = each_nodes (λ n. is_node_among c.args.files.now n ≡ true) (map meant c.deref.result.now) (good_here g c)

pub perform-requires-clause-words : goal.perform-requires-clause-words
perform-requires-clause-words g c = each_words (λ n. is_node_among c.args.files.now n ≡ true) (map meant c.deref.result.now) (good_here g c)

pub perform-requires-clause-is_open : goal.perform-requires-clause-is_open
perform-requires-clause-is_open g c = told_stays (IsOpen c.args.files.now) c.in_ok-neighbours.ensures.reads.stays c.requires.is_open

pub returns-clause-steps : goal.returns-clause-steps
returns-clause-steps g c = whole_as (g.F.Folder.told c.args.folder.now) (g.F.Folder.told c.neighbours.new.folder) (g.F.Folder.told c.perform.new.folder) c.in_ok-neighbours.ensures.reads.stays (map meant c.deref.result.now) (λ from. writes_of 3 c.args.node (list_of from)) (plan_is g c.before) c.perform.result c.perform.ensures.steps

pub returns-clause-prefix : goal.returns-clause-prefix
returns-clause-prefix g c = record {
  made = part_as (g.F.Folder.told c.args.folder.now) (g.F.Folder.told c.neighbours.new.folder) (g.F.Folder.told c.perform.new.folder) c.in_ok-neighbours.ensures.reads.stays (map meant c.deref.result.now) (λ from. writes_of 3 c.args.node (list_of from)) (plan_is g c.before) c.perform.ensures.prefix.made;
  silent = search rules;
}

checked_here : (g : given.Over) (c : goal.After-perform g) → OnOk c.perform.result (ForSome (g.F.Folder.told c.args.folder.now).files (λ from. CanBeMade from (writes_of 3 c.args.node (list_of from))))
checked_here g c = checked_as (g.F.Folder.told c.args.folder.now) (g.F.Folder.told c.neighbours.new.folder) (g.F.Folder.told c.perform.new.folder) c.in_ok-neighbours.ensures.reads.stays (map meant c.deref.result.now) (λ from. writes_of 3 c.args.node (list_of from)) (plan_is g c.before) c.perform.result c.perform.ensures.checked

pub returns-clause-untold : goal.returns-clause-untold
returns-clause-untold g c holds = untold_as (g.F.Folder.told c.args.folder.now) (g.F.Folder.told c.neighbours.new.folder) (g.F.Folder.told c.perform.new.folder) c.in_ok-neighbours.ensures.reads.stays (map meant c.deref.result.now) (λ from. writes_of 3 c.args.node (list_of from)) (plan_is g c.before) c.perform.result c.perform.ensures.untold (λ from there. (let a = around c.args.node from (holds from there) in moves-can from c.args.node a.0 a.1 a.2))

pub returns-clause-checked : goal.returns-clause-checked
returns-clause-checked g c = checked_here g c

pub returns-clause-linked : goal.returns-clause-linked
returns-clause-linked g c =
    on_ok_weaker c.perform.result
    (λ can from there.
    let words = c.in_ok-neighbours.ensures.words from there in
    move_linked (list_of from) c.args.node words.0 (can from there).nodes)
    (checked_here g c)

pub neighbours-requires-clause-agrees : goal.neighbours-requires-clause-agrees
neighbours-requires-clause-agrees g c image there = (c.requires.is_open image there).agrees
