use Rattle.std.proofs.Common.{◌≡◌, ◌≢◌, ℕ, ◌+◌, ◌<◌, Bool, true, false, Some, refl, sym, ap, subst, ◌∙◌, arith}
use Rattle.std.specs.Prelude.{◌==◌}
use Rattle.std.proofs.lemmas.Bool.{eqb-true, eq-eqb}
use Rattle.spec_image.specs.Told.{Told}
use Rattle.blk_audit.specs.Filled.{CountStands, AreNodesFilled}
use Rattle.blk_disk.specs.Tables.{Agrees}
use Rattle.blk_audit.proofs.Carrying.{untold_on}
use Rattle.blk_audit.proofs.AllNodes.{are_nodes, each_there}
use Rattle.blk_audit.proofs.reading.read_nodes.Goals as goal

-- what holds of one number more
one_more : (P : ℕ → Type 0) (n m : ℕ) → m < n + 1 → P n → (m ≢ n → m < n → P m) → P m
one_more P n m lt here before = by (m == n) refl
  where
    clash : false ≡ true → ⊥
    clash e = cc

    by : (t : Bool) → (m == n) ≡ t → P m
    by true e = subst P (sym (eqb-true m n e)) here
    by false e =
        let ne : m ≢ n = λ same. clash (sym e ∙ eq-eqb m n same) in
        before ne (omega (arith, lt, ne))

pub loop-n-init : goal.loop-n-init
loop-n-init g c = record { filled = λ image there m below. absurd (omega (arith, below)); counted = λ m below. absurd (omega (arith, below)); stays = refl; later = omega arith }

pub loop-n-preserved : goal.loop-n-preserved
loop-n-preserved g c = record {
  filled = λ image there m lt.
      let now : (g.F.Folder.told c.loop-n.folder).files ≡ Some image = ap (λ (t : Told). t.files) c.loop-n.invariant.stays ∙ there in
      one_more (AreNodesFilled c.args.files.now image c.add_file.new.self) c.loop-n.n m lt (c.in_ok-add_file.ensures.here image now)
      (λ ne below. c.in_ok-add_file.ensures.others image now m ne (c.loop-n.invariant.filled image there m below));
  counted = λ m lt.
      one_more (CountStands c.args.files.now c.add_file.new.self) c.loop-n.n m lt c.in_ok-add_file.ensures.counted
      (λ ne below. c.in_ok-add_file.ensures.others_counted m ne (c.loop-n.invariant.counted m below));
  stays = c.in_ok-add_file.ensures.reads.stays ∙ c.loop-n.invariant.stays;
  later = omega (arith, c.in_ok-add_file.ensures.reads.later, c.loop-n.invariant.later);
}

pub returns-in_err-add_file-clause-untold : goal.returns-in_err-add_file-clause-untold
returns-in_err-add_file-clause-untold g c agrees =
    let stays : g.F.Folder.told c.add_file.new.folder ≡ g.F.Folder.told c.args.folder.now = c.add_file.ensures.reads.stays ∙ c.loop-n.invariant.stays in
    untold_on c.add_file.result c.from_residual.result c.in_err-add_file.field-0.0 {a = g.F.Folder.told c.args.folder.now} (Agrees c.args.files.now) (Agrees c.args.files.now) (λ image is. is) stays c.add_file.ensures.untold c.in_err-add_file.was c.from_residual.ensures.1 agrees

pub returns-clause-nodes : goal.returns-clause-nodes
returns-clause-nodes g c image there agrees =
    are_nodes c.args.files.now image c.loop-n.nodes agrees (g.met.F.Folder.are_bytes c.args.folder.now image there)
    (λ n lt. c.loop-n.invariant.filled image there n (omega (arith, lt, c.loop-n-test.false)))

pub returns-clause-checked : goal.returns-clause-checked
returns-clause-checked g c image there = each_there c.args.files.now image c.loop-n.nodes (λ n lt. c.loop-n.invariant.filled image there n (omega (arith, lt, c.loop-n-test.false)))

pub returns-clause-counted : goal.returns-clause-counted
returns-clause-counted g c n lt = c.loop-n.invariant.counted n (omega (arith, lt, c.loop-n-test.false))
