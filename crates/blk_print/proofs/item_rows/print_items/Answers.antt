use Rattle.std.proofs.Common.{rules, inl, IsTrue, ◌≡◌, ◌∙◌, None, Some, Option, ℕ, true, false, refl, sym, ap, subst, arith}
use Rattle.std.specs.Prelude.{IfSome}
use Rattle.std.proofs.lemmas.Result.{on_ok_weaker}
use Rattle.spec_image.specs.Told.{Told}
use Rattle.blk_io.specs.Faults.{IfDamaged}
use Rattle.blk_io.proofs.Carried.{carried, if_damaged_weaker, untold_where}
use Rattle.blk_record.specs.declared.node.TheConstants.NodeView as NodeView
use Rattle.blk_disk.specs.Tables.{is_node_among}
use Rattle.blk_object.specs.ListWalks.{GoesTo}
use Rattle.blk_object.proofs.ListWalks.{node-passed, nodes-kinds, none-passed, walk-ends, walk-over, walk-too-long}
use Rattle.blk_object.proofs.DamageChecks.{handed, moved, node-word-checked}
use Rattle.blk_print.proofs.ListedLines.{IsListedTo, line-in-part, list-begun, list-ended, list-is-at-rest, listed-part, node-listed, placed, step-listed, step-loads, turns-ended, turns-few}
use Rattle.blk_evict.proofs.RoomTexts.{faults-on, part-none}
use Rattle.blk_io.proofs.GoingOn.{goes_on, stays_on}
use Rattle.blk_print.proofs.item_rows.print_items.Goals as goal

pub returns-in_err-next-clause-part : goal.returns-in_err-next-clause-part
returns-in_err-next-clause-part g c image there p = part-none c.args.failed.now (g.K.Sink.written c.args.out.now) (g.K.Sink.written c.args.out.now) _ refl

pub returns-in_err-next-clause-untold : goal.returns-in_err-next-clause-untold
returns-in_err-next-clause-untold g c has =
    carried c.first.result c.from_residual.result c.in_err-next.field-0.0 (λ _. (g.F.Folder.told c.args.folder.now).files ≡ None) c.in_err-next.was c.from_residual.ensures.1
    (c.first.ensures.untold (λ image there. (has image there).is_open.whole_index) (λ image there. (has image there).is_open.agrees) (λ image there. let p = has image there in list-is-at-rest p.state p.layout image p.kept))

pub loop-init : goal.loop-init
loop-init g c = record {
  walks = λ image there p. list-begun p.state p.layout image p.kept c.in_ok-next.next c.args.failed.now (g.K.Sink.written c.args.out.now) (c.in_ok-next.ensures.node image there);
  passed = λ image there. none-passed c.args.files.now NodeView.NEXT None image;
  goes = c.in_ok-next.ensures.word;
  stands = c.in_ok-next.ensures.stands;
  stands_last = tt;
  buffer = c.requires.buffer;
  fails = λ was now. absurd (let e : false ≡ true = sym was ∙ now in cc);
  stays = c.in_ok-next.ensures.reads.stays;
  later = c.in_ok-next.ensures.reads.later;
  later_out = stays_on;
}

pub returns-in_default-clause-printed : goal.returns-in_default-clause-printed
returns-in_default-clause-printed g c image there p =
    let none : c.loop.next ≡ None = search rules in
    list-ended p.state p.layout c.loop.counter c.args.failed.now c.loop.failed (g.K.Sink.written c.args.out.now) (g.K.Sink.written c.loop.out)
    (subst (λ (o : Option ℕ). IsListedTo p.state p.layout o c.loop.counter c.args.failed.now c.loop.failed (g.K.Sink.written c.args.out.now) (g.K.Sink.written c.loop.out)) none (c.loop.invariant.walks image there p))

pub returns-in_default-clause-part : goal.returns-in_default-clause-part
returns-in_default-clause-part g c image there p =
    listed-part p.state p.layout c.loop.next c.loop.counter c.args.failed.now c.loop.failed (g.K.Sink.written c.args.out.now) (g.K.Sink.written c.loop.out) (g.K.Sink.written c.loop.out) (c.loop.invariant.walks image there p) refl

pub returns-in_err-print_row-clause-part : goal.returns-in_err-print_row-clause-part
returns-in_err-print_row-clause-part g c image there p =
    listed-part p.state p.layout c.loop.next c.loop.counter c.args.failed.now c.loop.failed (g.K.Sink.written c.args.out.now) (g.K.Sink.written c.loop.out) (g.K.Sink.written c.print_row.new.out) (c.loop.invariant.walks image there p) c.in_err-print_row.ensures.unprinted

pub returns-in_err-print_row-clause-failed : goal.returns-in_err-print_row-clause-failed
returns-in_err-print_row-clause-failed g c = faults-on _ _ _ _ _ _ c.loop.invariant.fails c.in_err-print_row.ensures.failed c.loop.invariant.later_out.later c.in_err-print_row.ensures.later_out.later

pub returns-in_err-print_row-clause-untold : goal.returns-in_err-print_row-clause-untold
returns-in_err-print_row-clause-untold g c has =
    subst (λ (t : Told). IfDamaged c.from_residual-in_err-print_row.result (λ _. t.files ≡ None)) c.loop.invariant.stays
    (carried c.print_row.result c.from_residual-in_err-print_row.result c.in_err-print_row.field-0.0 (λ _. (g.F.Folder.told c.loop.folder).files ≡ None) c.in_err-print_row.was c.from_residual-in_err-print_row.ensures.1
    (c.print_row.ensures.untold
    (λ image now. (has image (ap (λ (t : Told). t.files) (sym c.loop.invariant.stays) ∙ now)).is_open.agrees)
    (λ image now.
    let there : (g.F.Folder.told c.args.folder.now).files ≡ Some image = ap (λ (t : Told). t.files) (sym c.loop.invariant.stays) ∙ now in
    let p = has image there in
    let w = subst (λ (o : Option ℕ). IsListedTo p.state p.layout o c.loop.counter c.args.failed.now c.loop.failed (g.K.Sink.written c.args.out.now) (g.K.Sink.written c.loop.out)) c.in-Some.is (c.loop.invariant.walks image there p) in (
      (placed p.state p.layout image p.kept c.in-Some.node c.loop.counter c.args.failed.now c.loop.failed (g.K.Sink.written c.args.out.now) (g.K.Sink.written c.loop.out) w).loaded,
      step-loads p.state p.layout image p.kept c.in-Some.node c.loop.counter c.args.failed.now c.loop.failed (g.K.Sink.written c.args.out.now) (g.K.Sink.written c.loop.out) w,
    ))))

pub returns-in_err-next-2-clause-part : goal.returns-in_err-next-2-clause-part
returns-in_err-next-2-clause-part g c image there p =
    let w = subst (λ (o : Option ℕ). IsListedTo p.state p.layout o c.loop.counter c.args.failed.now c.loop.failed (g.K.Sink.written c.args.out.now) (g.K.Sink.written c.loop.out)) c.in-Some.is (c.loop.invariant.walks image there p) in
    line-in-part p.state p.layout image p.kept c.in-Some.node c.loop.counter c.args.failed.now c.loop.failed (g.K.Sink.written c.args.out.now) (g.K.Sink.written c.loop.out) w c.print_row.new.failed (g.K.Sink.written c.print_row.new.out)
    (c.in_ok-print_row.ensures.printed image (ap (λ (t : Told). t.files) c.loop.invariant.stays ∙ there) _ (step-loads p.state p.layout image p.kept c.in-Some.node c.loop.counter c.args.failed.now c.loop.failed (g.K.Sink.written c.args.out.now) (g.K.Sink.written c.loop.out) w))

pub returns-in_err-next-2-clause-failed : goal.returns-in_err-next-2-clause-failed
returns-in_err-next-2-clause-failed g c = faults-on _ _ _ _ _ _ c.loop.invariant.fails c.in_ok-print_row.ensures.failed c.loop.invariant.later_out.later c.in_ok-print_row.ensures.later_out.later

pub returns-in_err-next-2-clause-untold : goal.returns-in_err-next-2-clause-untold
returns-in_err-next-2-clause-untold g c has =
    let stays = c.in_ok-print_row.ensures.reads.stays ∙ c.loop.invariant.stays in
    subst (λ (t : Told). IfDamaged c.from_residual-in_err-next-2.result (λ _. t.files ≡ None)) stays
    (carried c.after.result c.from_residual-in_err-next-2.result c.in_err-next-2.field-0.0 (λ _. (g.F.Folder.told c.print_row.new.folder).files ≡ None) c.in_err-next-2.was c.from_residual-in_err-next-2.ensures.1
    (c.after.ensures.untold
    (λ image now. (has image (ap (λ (t : Told). t.files) (sym stays) ∙ now)).is_open.agrees)
    (λ image now.
    let there : (g.F.Folder.told c.args.folder.now).files ≡ Some image = ap (λ (t : Told). t.files) (sym stays) ∙ now in
    let p = has image there in
    node-listed p.state p.layout image p.kept c.in-Some.node c.loop.counter c.args.failed.now c.loop.failed (g.K.Sink.written c.args.out.now) (g.K.Sink.written c.loop.out)
    (subst (λ (o : Option ℕ). IsListedTo p.state p.layout o c.loop.counter c.args.failed.now c.loop.failed (g.K.Sink.written c.args.out.now) (g.K.Sink.written c.loop.out)) c.in-Some.is (c.loop.invariant.walks image there p)))))

pub loop-preserved : goal.loop-preserved
loop-preserved g c = record {
  walks = λ image there p.
      let w = subst (λ (o : Option ℕ). IsListedTo p.state p.layout o c.loop.counter c.args.failed.now c.loop.failed (g.K.Sink.written c.args.out.now) (g.K.Sink.written c.loop.out)) c.in-Some.is (c.loop.invariant.walks image there p) in
      step-listed p.state p.layout image p.kept c.in-Some.node c.loop.counter c.args.failed.now c.loop.failed (g.K.Sink.written c.args.out.now) (g.K.Sink.written c.loop.out) w c.print_row.new.failed (g.K.Sink.written c.print_row.new.out)
      (c.in_ok-print_row.ensures.printed image (ap (λ (t : Told). t.files) c.loop.invariant.stays ∙ there) _ (step-loads p.state p.layout image p.kept c.in-Some.node c.loop.counter c.args.failed.now c.loop.failed (g.K.Sink.written c.args.out.now) (g.K.Sink.written c.loop.out) w))
      c.in_ok-next-2.next
      (c.in_ok-next-2.ensures.node image (ap (λ (t : Told). t.files) (c.in_ok-print_row.ensures.reads.stays ∙ c.loop.invariant.stays) ∙ there) p.is_open.agrees);
  passed = λ image there.
      node-passed c.args.files.now NodeView.NEXT None c.loop.last c.loop.counter image c.in-Some.node (c.loop.invariant.passed image there)
      (subst (λ (o : Option ℕ). GoesTo NodeView.NEXT image c.loop.last o) c.in-Some.is (c.loop.invariant.goes image there))
      (subst (λ (o : Option ℕ). IfSome o (λ n. IsTrue (is_node_among c.args.files.now n))) c.in-Some.is c.loop.invariant.stands);
  goes = λ image there. c.in_ok-next-2.ensures.word image (ap (λ (t : Told). t.files) (c.in_ok-print_row.ensures.reads.stays ∙ c.loop.invariant.stays) ∙ there);
  stands = c.in_ok-next-2.ensures.stands;
  stands_last = subst (λ (o : Option ℕ). IfSome o (λ n. IsTrue (is_node_among c.args.files.now n))) c.in-Some.is c.loop.invariant.stands;
  buffer = (let one = c.print_row.auto.name in let two = c.loop.invariant.buffer in omega (arith, one, two));
  fails = faults-on _ _ _ _ _ _ c.loop.invariant.fails c.in_ok-print_row.ensures.failed c.loop.invariant.later_out.later c.in_ok-print_row.ensures.later_out.later;
  stays = c.in_ok-next-2.ensures.reads.stays ∙ c.in_ok-print_row.ensures.reads.stays ∙ c.loop.invariant.stays;
  later = (let one = c.loop.invariant.later in let two = c.in_ok-print_row.ensures.reads.later in let three = c.in_ok-next-2.ensures.reads.later in omega (arith, one, two, three));
  later_out = goes_on c.loop.invariant.later_out c.in_ok-print_row.ensures.later_out;
}

pub end_walk-requires : goal.end_walk-requires
end_walk-requires g c = record { kind = nodes-kinds c.args.files.now c.loop.last c.loop.invariant.stands_last }

pub returns-clause-printed : goal.returns-clause-printed
returns-clause-printed g c =
    on_ok_weaker c.end_walk.result (λ _ image there p.
    turns-ended p.state p.layout c.loop.next c.loop.counter c.args.failed.now c.loop.failed (g.K.Sink.written c.args.out.now) (g.K.Sink.written c.loop.out) image p.kept (omega (arith, c.loop-test.false)) (c.loop.invariant.walks image there p)) c.end_walk.ensures.ended

pub returns-clause-damaged : goal.returns-clause-damaged
returns-clause-damaged g c =
    if_damaged_weaker c.end_walk.result _ _
    (λ damage behind. walk-too-long c.args.files.now (g.F.Folder.told c.loop.folder) NodeView.NEXT None c.loop.last c.loop.next c.loop.counter damage (inl refl) (omega (arith, c.loop-test.false)) c.loop.invariant.stands_last c.loop.invariant.stands
    (λ image now. c.loop.invariant.passed image (ap (λ (t : Told). t.files) (sym c.loop.invariant.stays) ∙ now))
    (λ image now. c.loop.invariant.goes image (ap (λ (t : Told). t.files) (sym c.loop.invariant.stays) ∙ now)) behind)
    c.end_walk.ensures.damaged

pub returns-clause-untold : goal.returns-clause-untold
returns-clause-untold g c has =
    if_damaged_weaker c.end_walk.result _ _
    (λ damage behind. untold_where (g.F.Folder.told c.args.folder.now).files (λ image there.
    let p = has image there in
    turns-few p.state p.layout c.loop.next c.loop.counter c.args.failed.now c.loop.failed (g.K.Sink.written c.args.out.now) (g.K.Sink.written c.loop.out) image p.kept (omega (arith, c.loop-test.false)) (c.loop.invariant.walks image there p)))
    c.end_walk.ensures.damaged

pub returns-clause-part : goal.returns-clause-part
returns-clause-part g c image there p =
    listed-part p.state p.layout c.loop.next c.loop.counter c.args.failed.now c.loop.failed (g.K.Sink.written c.args.out.now) (g.K.Sink.written c.loop.out) (g.K.Sink.written c.loop.out) (c.loop.invariant.walks image there p) refl

pub returns-in_err-next-clause-damaged : goal.returns-in_err-next-clause-damaged
returns-in_err-next-clause-damaged g c =
    handed c.first.result c.from_residual.result c.in_err-next.field-0.0 _ c.args.files.now (g.F.Folder.told c.first.new.f)
    (λ damage wrong. moved c.args.files.now (g.F.Folder.told c.args.folder.now) (g.F.Folder.told c.first.new.f) damage c.first.ensures.reads.stays (node-word-checked c.args.files.now (g.F.Folder.told c.args.folder.now) _ _ damage wrong))
    c.in_err-next.was c.from_residual.ensures.1 c.first.ensures.damaged

pub returns-in_err-next-2-clause-damaged : goal.returns-in_err-next-2-clause-damaged
returns-in_err-next-2-clause-damaged g c =
    handed c.after.result c.from_residual-in_err-next-2.result c.in_err-next-2.field-0.0 _ c.args.files.now (g.F.Folder.told c.after.new.f)
    (λ damage wrong. moved c.args.files.now (g.F.Folder.told c.print_row.new.folder) (g.F.Folder.told c.after.new.f) damage c.after.ensures.reads.stays (node-word-checked c.args.files.now (g.F.Folder.told c.print_row.new.folder) _ _ damage wrong))
    c.in_err-next-2.was c.from_residual-in_err-next-2.ensures.1 c.after.ensures.damaged

pub returns-in_default-clause-ends : goal.returns-in_default-clause-ends
returns-in_default-clause-ends g c image there =
    walk-ends c.args.files.now NodeView.NEXT None c.loop.last c.loop.next c.loop.counter image (c.loop.invariant.passed image there) (c.loop.invariant.goes image there) (search rules)

pub returns-clause-ends : goal.returns-clause-ends
returns-clause-ends g c =
    on_ok_weaker c.end_walk.result
    (λ ended image there. walk-over c.args.files.now NodeView.NEXT None c.loop.last c.loop.next c.loop.counter image (omega (arith, c.loop-test.false)) (c.loop.invariant.passed image there) (c.loop.invariant.goes image there) ended)
    c.end_walk.ensures.ended
