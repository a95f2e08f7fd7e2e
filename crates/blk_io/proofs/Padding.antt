-- What is printed of the digits of a number with leading zeros.
use Rattle.std.proofs.Common.{◌≡◌, ℕ, ◌-◌, ◌^◌, List, [], ◌++◌, false, length, replicate, arith}
use Rattle.std.specs.Fmt.{padded_integral, format_spec, char_count}
use Rattle.std.proofs.lemmas.Grind.{common_steps}

pub padded_text : (least : ℕ) (ds : List ℕ) → padded_integral (format_spec 32 0 4 least (2 ^ 64 - 1)) false [] ds ≡ replicate (least - length ds) 48 ++ ds
unfolding padded_integral char_count
padded_text least ds = grind (arith, common_steps)
