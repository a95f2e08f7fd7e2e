use Rattle.std.proofs.Common.{refl, ◌≡◌, ◌-◌, ◌≤◌, inl, inr, ℕ, List, sym, ◌∙◌, ap, subst, arith}
use Rattle.spec_image.specs.Bytes.{zeros}
use Rattle.spec_image.specs.Steps.{TrailStep, words}
use Rattle.spec_image.specs.Told.{Applies, AppliesPrefix}
use Rattle.spec_image.proofs.Runs.{grows_none, grows_then, part_then, part_only}
use Rattle.blk_io.specs.FileNames.{file_of}
use Rattle.blk_eraser.proofs.ZeroWords.{no_words, piece_edge, zeros_on, zeros_split, told_length}
use Rattle.blk_eraser.proofs.zeros.erase.Goals as goal

pub loop-place-init : goal.loop-place-init
loop-place-init g c = record {
  above = omega arith;
  below = c.requires.rising;
  edge = inl (inr (omega arith));
  inside = c.requires.inside;
  applies =
      let none : c.args.from - c.args.from ≡ 0 = omega arith in
      subst (λ (s : List TrailStep). Applies (g.F.Folder.told c.args.folder.now) (g.F.Folder.told c.args.folder.now) s) (sym (ap (λ (m : ℕ). words (file_of c.args.file) c.args.from (zeros m)) none ∙ no_words (file_of c.args.file) c.args.from)) (grows_none refl);
}

pub returns-clause-steps : goal.returns-clause-steps
returns-clause-steps g c =
    let all : c.loop-place.place ≡ c.args.end = omega (arith, c.loop-place.invariant.below) in
    subst (λ (m : ℕ). Applies (g.F.Folder.told c.args.folder.now) (g.F.Folder.told c.loop-place.folder) (words (file_of c.args.file) c.args.from (zeros (m - c.args.from)))) all c.loop-place.invariant.applies

pub returns-in_err-write_at-clause-prefix : goal.returns-in_err-write_at-clause-prefix
returns-in_err-write_at-clause-prefix g c =
    subst (AppliesPrefix (g.F.Folder.told c.args.folder.now) (g.F.Folder.told c.write_at.new.self)) (sym (zeros_split (file_of c.args.file) c.args.from c.args.end c.loop-place.place c.min-n.result c.loop-place.invariant.above c.loop-place-test.true c.min-n.ensures c.loop-place.invariant.edge))
    (part_only _ (part_then c.loop-place.invariant.applies (subst (λ (b : List ℕ). AppliesPrefix (g.F.Folder.told c.loop-place.folder) (g.F.Folder.told c.write_at.new.self) (words (file_of c.args.file) c.loop-place.place b)) c.front.ensures c.write_at.ensures.prefix)))

pub loop-place-preserved : goal.loop-place-preserved
loop-place-preserved g c = record {
  above = omega (arith, c.loop-place.invariant.above);
  below = omega (arith, c.min-n.ensures, c.loop-place-test.true);
  edge = piece_edge c.args.from c.args.end c.loop-place.place c.min-n.result c.loop-place.invariant.above c.loop-place-test.true c.min-n.ensures;
  inside = told_length (λ (n : ℕ). c.args.end ≤ n) (file_of c.args.file) (file_of c.args.file) c.loop-place.place c.front.result.now c.write_at.ensures.prefix c.loop-place.invariant.inside;
  applies =
      subst (Applies (g.F.Folder.told c.args.folder.now) (g.F.Folder.told c.write_at.new.self)) (sym (zeros_on (file_of c.args.file) c.args.from c.args.end c.loop-place.place c.min-n.result c.loop-place.invariant.above c.loop-place-test.true c.loop-place.invariant.edge))
      (grows_then c.loop-place.invariant.applies (subst (λ (b : List ℕ). Applies (g.F.Folder.told c.loop-place.folder) (g.F.Folder.told c.write_at.new.self) (words (file_of c.args.file) c.loop-place.place b)) c.front.ensures c.in_ok-write_at.ensures.steps));
}
