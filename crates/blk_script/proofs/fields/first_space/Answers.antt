use Rattle.std.proofs.Common.{◌≡◌, ◌<◌, ℕ, Bool, true, false, List, Option, None, Some, length, refl, arith}
use Rattle.std.specs.List.{position_or_len}
use Rattle.std.specs.Prelude.{position}
use Rattle.std.proofs.lemmas.List.Sums.{position_or_len_is}
use Rattle.memchr.specs.Find.{IsFirstByte, is_byte}
use Rattle.blk_script.specs.Fields.{is_space}
use Rattle.blk_script.proofs.fields.first_space.Goals as goal

-- a byte that isn't to pass
fails : (b : Bool) → ((b ≡ true) → ⊥) → b ≡ false
fails true never = absurd (never refl)
fails false never = refl

-- the first byte that is a space has the first place of one
first : (line : List ℕ) (r : Option ℕ) → IsFirstByte (is_byte 32) line r → r ≡ position is_space line
first line None is =
    let end : position_or_len is_space line ≡ length line = position_or_len_is is_space line (length line) 0 (omega arith) (λ j lt. fails _ (λ passes. is j (omega arith) lt passes)) (λ lt. absurd (omega (arith, lt))) in
    grind (arith, end)
first line (Some k) is =
    let high : k < length line = is.0.high in
    let here : position_or_len is_space line ≡ k = position_or_len_is is_space line k 0 (omega (arith, high)) (λ j lt. fails _ (λ passes. is.0.before j (omega arith) lt passes)) (λ _. is.1) in
    grind (arith, high, here)

pub returns : goal.returns
returns c = first c.args.line.now c.memchr.result c.memchr.ensures
