use Rattle.std.proofs.Common.{◌≡◌, ◌≤◌, ℕ, true, List, [], ◌∷◌, ◌++◌, Option, length, sym, ap, subst, ◌∙◌}
use Rattle.std.specs.Prelude.{MatchOption}
use Rattle.blk_io.proofs.Carried.{if_damaged_weaker}
use Rattle.blk_lru.proofs.Conditions.{told_now}
use Rattle.spec_folder.specs.Audit.{is_child}
use Rattle.spec_folder.specs.Loads.{held_rule}
use Rattle.spec_folder.specs.View.{store_of}
use Rattle.blk_disk.specs.Tables.{Agrees}
use Rattle.blk_audit.specs.ReadLists.{IsWalkedNode}
use Rattle.blk_audit.specs.Walking.{nodes_walked}
use Rattle.blk_audit.specs.declared.named.WalkedNode.{WalkedNode}
use Rattle.blk_audit.proofs.Carrying.{converted, untold_converted, untold_on}
use Rattle.blk_verdict.specs.Passes.{AreTried, CanBeTried, is_of_pass, kept_after, of_pass}
use Rattle.blk_verdict.specs.declared.passes.Tried.{Tried}
use Rattle.blk_verdict.proofs.ListedFacts.{cut_record, some_same}
use Rattle.blk_verdict.proofs.PassFacts.{passes, tried_more}
use Rattle.blk_verdict.proofs.passes.try_at.Goals as goal

pub returns-in_err-child-clause-short : goal.returns-in_err-child-clause-short
returns-in_err-child-clause-short g c =
    converted c.is_child.result c.from_residual.result c.in_err-child.field-0.0 _ c.in_err-child.was c.from_residual.ensures.1
    (if_damaged_weaker c.is_child.result _ _ (cut_record c.args.files.now (g.F.Folder.told c.args.folder.now) (g.F.Folder.told c.is_child.new.folder) c.is_child.ensures.reads.stays) c.is_child.ensures.damaged)

pub returns-in_err-child-clause-untold : goal.returns-in_err-child-clause-untold
returns-in_err-child-clause-untold g c =
    untold_converted c.is_child.result c.from_residual.result c.in_err-child.field-0.0 {a = g.F.Folder.told c.args.folder.now} (CanBeTried c.args.files.now c.args.lists.now c.args.judged.now.kept.kept.items) (Agrees c.args.files.now)
    (λ image can. can.agrees) c.is_child.ensures.reads.stays c.is_child.ensures.untold c.in_err-child.was c.from_residual.ensures.1

pub returns-in_err-reason-clause-untold : goal.returns-in_err-reason-clause-untold
returns-in_err-reason-clause-untold g c =
    untold_on c.judge_walked.result c.from_residual-in_err-reason.result c.in_err-reason.field-0.0 {a = g.F.Folder.told c.args.folder.now}
    (CanBeTried c.args.files.now c.args.lists.now c.args.judged.now.kept.kept.items) (CanBeTried c.args.files.now c.args.lists.now c.args.judged.now.kept.kept.items)
    (λ image can. can) c.in_ok-child.ensures.reads.stays
    (λ can. c.judge_walked.ensures.untold (λ image there. (can image there).agrees)
    (λ image there.
    let said : IsWalkedNode image c.args.lists.now.walked c.args.i c.in-Some.here =
    subst (λ (o : Option WalkedNode). MatchOption o (length (nodes_walked c.args.lists.now.walked) ≤ c.args.i) (IsWalkedNode image c.args.lists.now.walked c.args.i)) c.in-Some.is (c.node.ensures image (can image there).are) in
    ((can image there).are, said.fields))
    (λ image there. (can image there).has_keys))
    c.in_err-reason.was c.from_residual-in_err-reason.ensures.1

pub returns-in_ok-push-clause-tried : goal.returns-in_ok-push-clause-tried
returns-in_ok-push-clause-tried g c image there agrees are before w at so_far =
    let nodes : List ℕ = nodes_walked c.args.lists.now.walked in
    let said : IsWalkedNode image c.args.lists.now.walked c.args.i c.in-Some.here =
    subst (λ (o : Option WalkedNode). MatchOption o (length (nodes_walked c.args.lists.now.walked) ≤ c.args.i) (IsWalkedNode image c.args.lists.now.walked c.args.i)) c.in-Some.is (c.node.ensures image are) in
    let same : c.in-Some.here.addr ≡ w = some_same (sym said.addr ∙ at) in
    let test : is_of_pass c.args.children (is_child (store_of image) c.in-Some.here.addr) ≡ true =
    ap (is_of_pass c.args.children) (sym (c.in_ok-child.ensures.child image there agrees are said.fields)) ∙ sym c.is_of_pass.ensures ∙ c.if-is_of_pass.true in
    let now = told_now image c.in_ok-child.ensures.reads.stays there in
    let one : Tried = record { place = c.args.i; reason = c.in_ok-reason.reason } in
    subst (λ (n : ℕ). AreTried image nodes (before ++ of_pass (store_of image) c.args.children (n ∷ [])) c.judge_walked.new.kept.kept.items c.push.new.tried.items) same
    (subst (λ (ns : List ℕ). AreTried image nodes ns c.judge_walked.new.kept.kept.items c.push.new.tried.items) (sym (passes (store_of image) c.args.children before c.in-Some.here.addr test))
    (subst (λ (ts : List Tried). AreTried image nodes (before ++ c.in-Some.here.addr ∷ []) c.judge_walked.new.kept.kept.items ts) (sym c.in_ok-push.ensures)
    (tried_more image nodes before c.args.judged.now.kept.kept.items c.args.judged.now.tried.items c.in-Some.here.addr c.judge_walked.new.kept.kept.items one so_far said.addr
    (c.in_ok-reason.ensures.answer image now agrees are said.fields (kept_after (store_of image) held_rule [] before) so_far.shown)
    (c.in_ok-reason.ensures.shown image now agrees are said.fields (kept_after (store_of image) held_rule [] before) so_far.shown))))
