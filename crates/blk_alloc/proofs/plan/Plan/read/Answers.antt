use Rattle.std.proofs.Common.{◌≡◌, ℕ, ◌+◌, ◌*◌, ◌/◌, ◌%◌, ◌∙◌, ap, subst, arith, refl, None, inl, inr}
use Rattle.std.specs.Option.{ForSome}
use Rattle.spec_image.specs.Bytes.{range_at}
use Rattle.spec_image.specs.Image.{Block, byte}
use Rattle.blk_io.specs.declared.folder.FileId.TheVariants as names
use Rattle.blk_io.proofs.Shorts.{untold_if}
use Rattle.blk_io.proofs.Carried.{carried, untold_where, if_damaged, if_damaged_weaker}
use Rattle.blk_io.specs.Faults.{IsShort}
use Rattle.blk_alloc.specs.Counting.{IsAtEnd}
use Rattle.blk_alloc.specs.Owning.{IsCause}
use Rattle.spec_format.specs.Maps.{longest_run}
use Rattle.blk_addr.specs.Bits.{has_bit}
use Rattle.blk_alloc.specs.Changes.{CanChangeMarks, with_marks}
use Rattle.blk_alloc.proofs.Plans.{may_move, plan_is, run_before}
use Rattle.blk_alloc.proofs.plan.Plan.read.Goals as goal

pub returns-in_err-counters-clause-untold : goal.returns-in_err-counters-clause-untold
returns-in_err-counters-clause-untold g c =
    carried c.read.result c.from_residual.result c.in_err-counters.field-0.0 _ c.in_err-counters.was c.from_residual.ensures.1
    (if_damaged c.read.result (ForSome (g.F.Folder.told c.args.folder.now).files (λ image. CanChangeMarks image c.args.file c.args.start c.args.count c.args.used)) (λ _. (g.F.Folder.told c.args.folder.now).files ≡ None)
    (λ ready. untold_if c.read.result (g.F.Folder.told c.args.folder.now) (names.Block c.args.file) 0 80 c.read.ensures.short (λ image there. let long = (ready image there).header in omega (arith, long))))

pub returns-in_err-counters-2-clause-untold : goal.returns-in_err-counters-2-clause-untold
returns-in_err-counters-2-clause-untold g c =
    carried c.moved.result c.from_residual-in_err-counters-2.result c.in_err-counters-2.field-0.0 _ c.in_err-counters-2.was c.from_residual-in_err-counters-2.ensures.1
    (if_damaged_weaker c.moved.result _ (λ _. ForSome (g.F.Folder.told c.args.folder.now).files (λ image. CanChangeMarks image c.args.file c.args.start c.args.count c.args.used) → (g.F.Folder.told c.args.folder.now).files ≡ None)
    (λ damage never ready. untold_where (g.F.Folder.told c.args.folder.now).files
    (λ image there.
    let read : c.to_le_bytes-bytes.result ≡ range_at (byte image (Block c.args.file)) (80 + 4 * (c.args.start / 32)) 4 =
    c.to_le_bytes-bytes.ensures ∙ c.requires.word image there in
    never
    (may_move image c.args.file c.args.start c.args.count c.args.used (ready image there) c.requires.some c.in_ok-counters.counters c.longest_run-before.result c.longest_run-later.result (c.in_ok-counters.ensures.counters image there)
    (c.longest_run-before.ensures.run ∙ run_before image c.args.file c.args.start c.args.count c.args.used c.to_le_bytes-bytes.result c.set_marks.new.bytes read c.requires.group c.set_marks.ensures.marks))))
    c.moved.ensures.never)

pub returns-clause-plan : goal.returns-clause-plan
returns-clause-plan g c image there =
    let place : 80 + 4 * c.from.result ≡ 80 + 4 * (c.args.start / 32) = ap (λ (k : ℕ). 80 + 4 * k) c.from.ensures in
    let read : c.to_le_bytes-bytes.result ≡ range_at (byte image (Block c.args.file)) (80 + 4 * (c.args.start / 32)) 4 =
    c.to_le_bytes-bytes.ensures ∙ c.requires.word image there in
    plan_is image c.args.file c.args.start c.args.count c.args.used c.to_le_bytes-bytes.result c.set_marks.new.bytes read c.requires.group c.set_marks.ensures.marks
    c.longest_run-before.result c.longest_run-later.result c.in_ok-counters.counters c.in_ok-counters-2.counters (80 + 4 * c.from.result) c.word_of-word.result place
    c.word_of-word.ensures (c.in_ok-counters.ensures.counters image there) c.in_ok-counters-2.ensures.moves c.longest_run-before.ensures.run c.longest_run-later.ensures.run

pub returns-clause-aligned : goal.returns-clause-aligned
returns-clause-aligned g c = omega arith

pub returns-in_err-counters-clause-cause : goal.returns-in_err-counters-clause-cause
returns-in_err-counters-clause-cause g c =
    carried c.read.result c.from_residual.result c.in_err-counters.field-0.0 _ c.in_err-counters.was c.from_residual.ensures.1
    (if_damaged_weaker c.read.result (IsShort (g.F.Folder.told c.args.folder.now) (names.Block c.args.file) 0 80) (IsCause (g.F.Folder.told c.args.folder.now) c.args.file c.args.start c.args.count c.args.used) (λ damage short. inl (record { place = 0; count = 80; read = inl (refl, refl); short = short })) c.read.ensures.short)

pub returns-in_err-counters-2-clause-cause : goal.returns-in_err-counters-2-clause-cause
returns-in_err-counters-2-clause-cause g c =
    carried c.moved.result c.from_residual-in_err-counters-2.result c.in_err-counters-2.field-0.0 _ c.in_err-counters-2.was c.from_residual-in_err-counters-2.ensures.1
    (if_damaged_weaker c.moved.result (IsAtEnd c.in_ok-counters.counters c.args.file c.longest_run-before.result c.longest_run-later.result c.args.used) (IsCause (g.F.Folder.told c.args.folder.now) c.args.file c.args.start c.args.count c.args.used)
    (λ damage end. inr (record {
      counters = c.in_ok-counters.counters;
      bytes = c.to_le_bytes-bytes.result;
      are = c.in_ok-counters.ensures.counters;
      of_map = λ image there. c.to_le_bytes-bytes.ensures ∙ c.requires.word image there;
      at_end = subst (λ (b : ℕ). IsAtEnd c.in_ok-counters.counters c.args.file b (longest_run (with_marks (has_bit c.to_le_bytes-bytes.result) (c.args.start % 32) c.args.count c.args.used) (c.args.start % 32 / 4)) c.args.used damage) c.longest_run-before.ensures.run
          (subst (λ (l : ℕ). IsAtEnd c.in_ok-counters.counters c.args.file c.longest_run-before.result l c.args.used damage) (c.longest_run-later.ensures.run ∙ (λ j. longest_run (λ m. c.set_marks.ensures.marks m j) (c.args.start % 32 / 4))) end);
    })) c.moved.ensures.end)
