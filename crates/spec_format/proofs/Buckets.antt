-- The words of the table lie after those that say what session it is.
use Rattle.std.proofs.Common.{◌≡◌, ℕ, ◌+◌, ◌*◌, ◌&&◌, ◌||◌, true, arith}
use Rattle.std.specs.Prelude.{nat_le}
use Rattle.std.proofs.lemmas.Bool.Decides.{nat_tests}
use Rattle.spec_image.specs.Bytes.{word_bytes}
use Rattle.spec_image.specs.Image.{Index}
use Rattle.spec_image.specs.Steps.{Word}
use Rattle.spec_image.specs.Told.{is_quiet}
use Rattle.spec_format.specs.Headers.{place_of_bucket}

behind : (at : ℕ) → ((nat_le 8 (368 + at) && nat_le (368 + at + 4) 20) || nat_le 36 (368 + at)) ≡ true
behind at = grind (arith, nat_tests)

pub bucket-quiet : (bucket value : ℕ) → is_quiet (Word Index (place_of_bucket bucket) (word_bytes value)) ≡ true
bucket-quiet bucket value = behind (4 * bucket)
