use Rattle.std.proofs.Common.{ℕ, sym, ◌∙◌, ap, subst, arith}
use Rattle.spec_format.specs.Address.{is_address, kind_of}
use Rattle.blk_entry.specs.Keys.{IsInside}
use Rattle.blk_io.proofs.Carried.{carried, if_damaged_weaker}
use Rattle.blk_verdict.proofs.KeyFacts.{in_blocks, no_word, part_inside, stores_address}
use Rattle.blk_verdict.proofs.PartBits.{bit_is}
use Rattle.blk_verdict.proofs.Stored.{chosen_is}
use Rattle.blk_verdict.proofs.parts.has_part.Goals as goal

pub unreachable-requires : goal.unreachable-requires
unreachable-requires g c = no_word c.args.word (stores_address c.args.files.now 8256 c.args.word (omega arith) c.requires.stored) (sym c.from_word.ensures ∙ c.in_default.is)

pub read_data-requires : goal.read_data-requires
read_data-requires g c =
    let read = (chosen_is (is_address c.args.word) c.args.word c.in-Some.addr (sym c.in-Some.is ∙ c.from_word.ensures)).0 in
    let small = c.requires.part in
    record { inside = subst (λ (w : ℕ). IsInside c.args.files.now w c.place_of_part.result 1) (sym read) (part_inside c.args.files.now 8256 c.args.word c.place_of_part.result 1 (omega arith) (omega arith) c.requires.stored (omega (arith, c.place_of_part.ensures, small))) }

pub returns-in_err-read_data-clause-short : goal.returns-in_err-read_data-clause-short
returns-in_err-read_data-clause-short g c =
    let read = (chosen_is (is_address c.args.word) c.args.word c.in-Some.addr (sym c.in-Some.is ∙ c.from_word.ensures)).0 in
    let small = c.requires.part in
    let within = subst (λ (w : ℕ). IsInside c.args.files.now w c.place_of_part.result 1) (sym read) (part_inside c.args.files.now 8256 c.args.word c.place_of_part.result 1 (omega arith) (omega arith) c.requires.stored (omega (arith, c.place_of_part.ensures, small))) in
    carried c.read_data.result c.from_residual.result c.in_err-read_data.field-0.0 _ c.in_err-read_data.was c.from_residual.ensures.1
    (if_damaged_weaker c.read_data.result _ _ (λ damage cut. record { word = c.in-Some.addr; at = c.place_of_part.result; count = 1; inside = within; cut = cut }) c.read_data.ensures.short)

pub returns-in_err-read_data-clause-untold : goal.returns-in_err-read_data-clause-untold
returns-in_err-read_data-clause-untold g c agrees =
    let read = (chosen_is (is_address c.args.word) c.args.word c.in-Some.addr (sym c.in-Some.is ∙ c.from_word.ensures)).0 in
    carried c.read_data.result c.from_residual.result c.in_err-read_data.field-0.0 _ c.in_err-read_data.was c.from_residual.ensures.1
    (c.read_data.ensures.untold agrees (λ image there outside. absurd (in_blocks c.args.files.now 8256 c.args.word (omega arith) (omega arith) c.requires.stored (ap kind_of (sym read) ∙ outside))))

pub returns-clause-bit : goal.returns-clause-bit
returns-clause-bit g c image there bytes index stored said =
    let read = (chosen_is (is_address c.args.word) c.args.word c.in-Some.addr (sym c.in-Some.is ∙ c.from_word.ensures)).0 in
    c.has_part_bit.ensures ∙ bit_is image c.args.word c.in-Some.addr c.place_of_part.result c.args.part c.read_data.new.out bytes index c.requires.part read c.place_of_part.ensures (c.in_ok-read_data.ensures.bytes image there) stored said
