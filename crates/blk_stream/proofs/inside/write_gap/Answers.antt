use Rattle.std.proofs.Common.{◌≡◌, ◌+◌, ◌-◌, ◌≤◌, ℕ, refl, sym, ◌∙◌, ap, subst, arith, List, take, length}
use Rattle.std.specs.Prelude.{replicate}
use Rattle.std.proofs.lemmas.List.{take-replicate}
use Rattle.std.proofs.lemmas.Result.{on_ok_weaker}
use Rattle.spec_image.specs.Bytes.{zeros}
use Rattle.spec_image.specs.Image.{Block}
use Rattle.spec_image.specs.Steps.{TrailStep, words}
use Rattle.spec_image.specs.Told.{Applies, AppliesPrefix}
use Rattle.spec_image.proofs.Runs.{grows_none}
use Rattle.spec_image.proofs.Splices.{length-zeros}
use Rattle.spec_format.specs.Address.{file_selector, place}
use Rattle.blk_disk.proofs.Ranges.{room_small}
use Rattle.blk_entry.proofs.DataSteps.{steps_of_blocks}
use Rattle.blk_stream.specs.Inside.{gap_steps}
use Rattle.blk_stream.proofs.InsideSteps.{gap_none}
use Rattle.blk_stream.proofs.inside.write_gap.Given as given
use Rattle.blk_stream.proofs.inside.write_gap.Goals as goal

pub returns-then-end-start-clause-steps : goal.returns-then-end-start-clause-steps
returns-then-end-start-clause-steps g c = subst (λ (s : List TrailStep). Applies (g.F.Folder.told c.args.folder.now) (g.F.Folder.told c.args.folder.now) s) (sym (gap_none c.args.addr c.args.start c.args.end c.if-end-start.true)) (grows_none refl)

pub slice_bounds-zeros-end : goal.slice_bounds-zeros-end
slice_bounds-zeros-end g c = let h = room_small c.args.addr in omega (arith, h, c.requires.inside)

pub slice_bounds-gap-end : goal.slice_bounds-gap-end
unfolding zeros
slice_bounds-gap-end g c = let h = room_small c.args.addr in let small : c.args.end - c.args.start ≤ 16384 = omega (arith, h, c.requires.inside) in sym (ap length (take-replicate (c.args.end - c.args.start) 16384 0 small) ∙ length-zeros (c.args.end - c.args.start))

zero_steps : (g : given.Over) (c : goal.After-write_block g) → words (Block (file_selector c.args.addr)) (place c.args.addr + c.args.start) (take (c.args.end - c.args.start) (replicate 16384 0)) ≡ gap_steps c.args.addr c.args.start c.args.end
unfolding zeros
zero_steps g c =
    let h = room_small c.args.addr in
    let small : c.args.end - c.args.start ≤ 16384 = omega (arith, h, c.requires.inside) in
    ap (λ (bytes : List ℕ). words (Block (file_selector c.args.addr)) (place c.args.addr + c.args.start) bytes) (take-replicate (c.args.end - c.args.start) 16384 0 small)
    ∙ sym (steps_of_blocks c.args.addr c.args.start (zeros (c.args.end - c.args.start)) c.requires.kind)

pub returns-clause-steps : goal.returns-clause-steps
returns-clause-steps g c = on_ok_weaker c.write_block.result (λ grown. subst (λ (s : List TrailStep). Applies (g.F.Folder.told c.args.folder.now) (g.F.Folder.told c.write_block.new.f) s) (zero_steps g c) grown) c.write_block.ensures.steps

pub returns-clause-prefix : goal.returns-clause-prefix
returns-clause-prefix g c = subst (λ (s : List TrailStep). AppliesPrefix (g.F.Folder.told c.args.folder.now) (g.F.Folder.told c.write_block.new.f) s) (zero_steps g c) c.write_block.ensures.prefix
