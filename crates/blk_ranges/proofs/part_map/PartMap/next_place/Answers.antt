use Rattle.std.proofs.Common.{arith, ap, ◌∙◌, sym, ◌≡◌}
use Rattle.blk_model.specs.Sparse.{is_present_in}
use Rattle.blk_ranges.specs.PartMaps.{presence_of}
use Rattle.blk_ranges.proofs.Ends.{next-is}
use Rattle.blk_ranges.proofs.part_map.PartMap.next_place.Goals as goal

pub returns-then-place-present_end : goal.returns-then-place-present_end
returns-then-place-present_end c = record {
  after = omega arith;
  within = omega (arith, c.present_end.ensures.within);
  absent = λ p low high. absurd (omega arith);
  present = λ more. c.present_end.ensures.present c.args.place (omega arith) c.if-place-present_end.true;
}

pub returns-else-place-present_end : goal.returns-else-place-present_end
returns-else-place-present_end c =
    let at : c.present_end.result ≡ c.args.place = omega (arith, c.present_end.ensures.after) in
    next-is c.args.self.now c.args.place c.next_begun.result c.requires.inside (λ more. ap (is_present_in (presence_of c.args.self.now)) (sym at) ∙ c.present_end.ensures.absent (omega arith)) c.next_begun.ensures
