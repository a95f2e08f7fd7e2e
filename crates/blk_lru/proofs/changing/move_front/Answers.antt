use Rattle.std.proofs.Common.{◌≡◌, ◌∙◌, ℕ, List, [], Option, None, Some, true, false, nat_eq, ap, sym, subst, refl, rules}
use Rattle.std.specs.Prelude.{◌==◌}
use Rattle.std.specs.Option.{option_eq, ForSome}
use Rattle.std.proofs.lemmas.Bool.{eq-eqb, eqb-true, ne_eqb}
use Rattle.std.proofs.lemmas.Result.{on_ok_weaker}
use Rattle.spec_image.specs.Image.{Image}
use Rattle.spec_image.specs.Told.{Told, Applies, AppliesPrefix}
use Rattle.spec_image.proofs.Runs.{grows_none}
use Rattle.spec_folder.specs.ListPlans.{touch_writes, writes_of}
use Rattle.spec_folder.specs.ListView.{ListView, ListWrite}
use Rattle.spec_folder.specs.View.{list_of}
use Rattle.spec_folder.specs.ListImages.{CanBeMade}
use Rattle.spec_folder.specs.ListSteps.{steps_of_writes}
use Rattle.blk_io.proofs.Carried.{carried}
use Rattle.blk_io.specs.Faults.{IfDamaged}
use Rattle.blk_disk.specs.declared.tables.BlockFiles.{BlockFiles}
use Rattle.blk_disk.specs.Tables.{is_node_among}
use Rattle.blk_lru.specs.Lists.{IsListed}
use Rattle.blk_lru.specs.Plans.{word_or_zero}
use Rattle.blk_lru.proofs.Conditions.{told_stays}
use Rattle.blk_lru.proofs.PlanNodes.{node_apart}
use Rattle.blk_lru.proofs.changing.move_front.Given as given
use Rattle.blk_lru.proofs.changing.move_front.Goals as goal
use Rattle.blk_disk.specs.Open.{IsOpen}

some_touch : (list : ListView) (node : ℕ) → (list.head == node) ≡ false → writes_of 3 node list ≡ touch_writes node list
some_touch list node e = rw e refl

no_touch : (list : ListView) (node : ℕ) → list.head ≡ node → touch_writes node list ≡ []
no_touch list node e = let t : (list.head == node) ≡ true = eq-eqb list.head node e in rw t refl

same_head : (head : Option ℕ) (node : ℕ) → option_eq nat_eq head (Some node) ≡ true → word_or_zero head ≡ node
same_head None node e = absurd (clash e)
  where
    clash : false ≡ true → ⊥
    clash e = cc
same_head (Some w) node e = eqb-true w node e

-- another node is the first one, or none is
apart : (files : BlockFiles) (node : ℕ) → is_node_among files node ≡ true → (head : Option ℕ) → option_eq nat_eq head (Some node) ≡ false → (word_or_zero head == node) ≡ false
apart files node stands None e = ne_eqb 0 node (λ zero. node_apart files node stands (sym zero))
apart files node stands (Some head) e = e

pub returns-in_err-head-clause-is_open : goal.returns-in_err-head-clause-is_open
returns-in_err-head-clause-is_open g c = told_stays (IsOpen c.args.files.now) c.in_err-head.ensures.reads.stays c.requires.is_open

pub returns-then-eq-clause-is_open : goal.returns-then-eq-clause-is_open
returns-then-eq-clause-is_open g c = told_stays (IsOpen c.args.files.now) c.in_ok-head.ensures.reads.stays c.requires.is_open

pub move_behind-requires-clause-is_open : goal.move_behind-requires-clause-is_open
move_behind-requires-clause-is_open g c = told_stays (IsOpen c.args.files.now) c.in_ok-head.ensures.reads.stays c.requires.is_open

pub returns-in_err-head-clause-untold : goal.returns-in_err-head-clause-untold
returns-in_err-head-clause-untold g c listed =
    carried c.first.result c.from_residual.result c.in_err-head.field-0.0 (λ _. (g.F.Folder.told c.args.folder.now).files ≡ None) c.in_err-head.was c.from_residual.ensures.1 (c.first.ensures.untold (λ image there. (c.requires.is_open image there).whole_index) (λ image there. (c.requires.is_open image there).agrees) (λ image there. (listed image there).rest))

-- the head is another node
other : (g : given.Over) (c : goal.After-move_behind g) → ForSome (g.F.Folder.told c.args.folder.now).files (λ from. ((list_of from).head == c.args.node) ≡ false)
other g c from there =
    ap (λ (w : ℕ). w == c.args.node) (sym (c.in_ok-head.ensures.word from there)) ∙ apart c.args.files.now c.args.node c.requires.stands c.in_ok-head.head (sym c.eq.ensures ∙ c.if-eq.false)

-- what is written is what an access writes
touching : (g : given.Over) (c : goal.After-move_behind g) (P : Image → List ListWrite → Type 0) → ForSome (g.F.Folder.told c.first.new.f).files (λ from. P from (writes_of 3 c.args.node (list_of from))) → ForSome (g.F.Folder.told c.args.folder.now).files (λ from. P from (touch_writes c.args.node (list_of from)))
touching g c P holds from there = subst (P from) (some_touch (list_of from) c.args.node (other g c from there)) (holds from (ap (λ (t : Told). t.files) c.in_ok-head.ensures.reads.stays ∙ there))

pub returns-clause-steps : goal.returns-clause-steps
returns-clause-steps g c =
    on_ok_weaker c.move_behind.result
    (λ grows. touching g c (λ from ws. Applies (g.F.Folder.told c.args.folder.now) (g.F.Folder.told c.move_behind.new.folder) (steps_of_writes ws from))
    (subst (λ (t : Told). ForSome t.files (λ from. Applies t (g.F.Folder.told c.move_behind.new.folder) (steps_of_writes (writes_of 3 c.args.node (list_of from)) from)) → ForSome (g.F.Folder.told c.first.new.f).files (λ from. Applies (g.F.Folder.told c.args.folder.now) (g.F.Folder.told c.move_behind.new.folder) (steps_of_writes (writes_of 3 c.args.node (list_of from)) from))) (sym c.in_ok-head.ensures.reads.stays) (λ h. subst (λ (t : Told). ForSome t.files (λ from. Applies (g.F.Folder.told c.args.folder.now) (g.F.Folder.told c.move_behind.new.folder) (steps_of_writes (writes_of 3 c.args.node (list_of from)) from))) (sym c.in_ok-head.ensures.reads.stays) h) grows))
    c.move_behind.ensures.steps

pub returns-clause-prefix : goal.returns-clause-prefix
returns-clause-prefix g c = record {
  made = touching g c (λ from ws. AppliesPrefix (g.F.Folder.told c.args.folder.now) (g.F.Folder.told c.move_behind.new.folder) (steps_of_writes ws from))
      (subst (λ (t : Told). ForSome (g.F.Folder.told c.first.new.f).files (λ from. AppliesPrefix t (g.F.Folder.told c.move_behind.new.folder) (steps_of_writes (writes_of 3 c.args.node (list_of from)) from))) c.in_ok-head.ensures.reads.stays c.move_behind.ensures.prefix.made);
  silent = search rules;
}

pub returns-clause-checked : goal.returns-clause-checked
returns-clause-checked g c = on_ok_weaker c.move_behind.result (λ can. touching g c (λ from ws. CanBeMade from ws) can) c.move_behind.ensures.checked

pub returns-clause-linked : goal.returns-clause-linked
returns-clause-linked g c = on_ok_weaker c.move_behind.result (λ is from there apart. is from (ap (λ (t : Told). t.files) c.in_ok-head.ensures.reads.stays ∙ there)) c.move_behind.ensures.linked

pub returns-clause-untold : goal.returns-clause-untold
returns-clause-untold g c listed =
    subst (λ (t : Told). IfDamaged c.move_behind.result (λ _. t.files ≡ None)) c.in_ok-head.ensures.reads.stays (c.move_behind.ensures.untold (told_stays (IsListed c.args.node) c.in_ok-head.ensures.reads.stays listed))

-- where the node is the head
is_head : (g : given.Over) (c : goal.Then-eq g) → ForSome (g.F.Folder.told c.args.folder.now).files (λ from. (list_of from).head ≡ c.args.node)
is_head g c from there = sym (c.in_ok-head.ensures.word from there) ∙ same_head c.in_ok-head.head c.args.node (sym c.eq.ensures ∙ c.if-eq.true)

pub returns-then-eq-clause-steps : goal.returns-then-eq-clause-steps
returns-then-eq-clause-steps g c from there =
    subst (λ (ws : List ListWrite). Applies (g.F.Folder.told c.args.folder.now) (g.F.Folder.told c.first.new.f) (steps_of_writes ws from)) (sym (no_touch (list_of from) c.args.node (is_head g c from there))) (grows_none c.in_ok-head.ensures.reads.stays)

pub returns-then-eq-clause-checked : goal.returns-then-eq-clause-checked
returns-then-eq-clause-checked g c from there = subst (CanBeMade from) (sym (no_touch (list_of from) c.args.node (is_head g c from there))) (record { nodes = tt; words = tt })

pub returns-then-eq-clause-linked : goal.returns-then-eq-clause-linked
returns-then-eq-clause-linked g c from there apart = absurd (apart (is_head g c from there))
