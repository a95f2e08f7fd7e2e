use Rattle.std.proofs.Common.{ap, ◌∙◌, subst, sym}
use Rattle.std.specs.Str.{IsUtf8}
use Rattle.std.specs.Result.{result_ok}
use Rattle.std.proofs.lemmas.Str.{IsUtf8-from_ascii}
use Rattle.spec_format.specs.Names.{hexadecimal}
use Rattle.blk_ranges.proofs.HexTexts.{hexadecimal-reads, hexadecimal-ascii}
use Rattle.blk_ranges.proofs.hexadecimal.parse.Goals as goal

pub returns-in-Ok : goal.returns-in-Ok
returns-in-Ok c n fits is = c.ok.ensures.value ∙ ap result_ok (hexadecimal-reads n c.in-Ok.digits.now c.from_str_radix.result fits (c.in-Ok.ensures.cases.0 ∙ is) c.from_str_radix.ensures.value)

pub returns-in-Err : goal.returns-in-Err
returns-in-Err c n fits is = absurd (c.in-Err.ensures.cases.0 (subst IsUtf8 (sym is) (IsUtf8-from_ascii (hexadecimal n) (hexadecimal-ascii n fits))))
