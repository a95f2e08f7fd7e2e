use Rattle.std.proofs.Common.{◌≡◌, ◌+◌, ◌*◌, ◌&&◌, true, ap, ◌∙◌, arith, Bool}
use Rattle.std.specs.Prelude.{nat_le, nat_lt, not, if◌then◌else◌}
use Rattle.std.proofs.lemmas.Bool.{lt-ltb}
use Rattle.blk_ranges.specs.PartMaps.{has_block}
use Rattle.blk_ranges.proofs.WordBits.{has_block-word, both-bits}
use Rattle.blk_ranges.proofs.part_map.PartMap.bits_from.Goals as goal

pub returns : goal.returns
returns c k below =
    let inside : nat_lt (32 * c.args.i + k) 1024 ≡ true = lt-ltb (32 * c.args.i + k) 1024 (omega arith) in
    both-bits c.bits_that.result c.bits_between.result k _ _
    (c.bits_that.ensures k below ∙ ap (λ (has : Bool). if c.args.present then has else not has) (has_block-word c.args.self.now.blocks c.args.i k below))
    (c.bits_between.ensures k below ∙ ap (λ (t : Bool). nat_le c.args.from (32 * c.args.i + k) && t) inside)
    ∙ ap (λ (t : Bool). t && (if c.args.present then has_block c.args.self.now.blocks (32 * c.args.i + k) else not (has_block c.args.self.now.blocks (32 * c.args.i + k)))) (and-true (nat_le c.args.from (32 * c.args.i + k)))
  where
    and-true : (b : Bool) → (b && true) ≡ b
    and-true b = grind arith
