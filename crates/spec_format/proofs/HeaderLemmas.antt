-- The test for an uninitialized index.
use Rattle.std.proofs.Common.{◌≡◌, ℕ, ◌<◌, List, [], not, ◌||◌, length, arith, ◌⊎◌}
use Rattle.std.specs.Prelude.{◌↔◌, ◌==◌, nat_lt, IsTrue, IsNone, None, Some, is_some, unwrap_or}
use Rattle.std.specs.declared.option.Option.{Option}
use Rattle.spec_image.specs.Image.{Index}
use Rattle.spec_format.specs.Headers.{unfinished, IsUnfinished, UnfinishedAgrees}

-- the test on the bytes of a file
agrees_on : (bytes : Option (List ℕ)) (word : ℕ) → IsTrue (not (is_some bytes) || nat_lt (length (unwrap_or bytes [])) 4 || (word == 0)) ↔ (IsNone bytes ⊎ ((length (unwrap_or bytes []) < 4) ⊎ (word ≡ 0)))
agrees_on None word = grind arith
agrees_on (Some bytes) word = grind arith

pub unfinished_agrees : UnfinishedAgrees
unfolding unfinished IsUnfinished
unfinished_agrees image = agrees_on (image Index) _
