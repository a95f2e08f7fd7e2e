-- The checksum of a record that is read from bytes is right or absent exactly where that of its bytes is.
use Rattle.std.proofs.Common.{◌≡◌, ℕ, ◌<◌, ◌≤◌, List, length, ap, ◌∙◌}
use Rattle.std.specs.Prelude.{◌||◌, ◌==◌}
use Rattle.spec_image.specs.Bytes.{content, word_at}
use Rattle.spec_image.proofs.Words.{range-is}
use Rattle.spec_format.specs.Hash.{hash}
use Rattle.spec_format.specs.Records.{checks, node_in, node_body, node_is_sealed, node_checks, entry_in, entry_body, entry_is_sealed, entry_checks}
use Rattle.spec_format.proofs.Bodies.{node_body-in, entry_body-in}

pub node_checks-bytes : (bytes : List ℕ) → ((i : ℕ) → content bytes i < 256) → 32 ≤ length bytes → node_checks (node_in (content bytes) 0) ≡ checks 32 bytes
unfolding node_checks node_is_sealed node_body node_in
node_checks-bytes bytes small enough =
    ap (λ (body : List ℕ). (word_at (content bytes) 32 == 0) || (word_at (content bytes) 32 == hash body)) (node_body-in 0 (content bytes) small ∙ range-is 32 0 bytes enough)

pub entry_checks-bytes : (bytes : List ℕ) → ((i : ℕ) → content bytes i < 256) → 92 ≤ length bytes → entry_checks (entry_in (content bytes) 0) ≡ checks 92 bytes
unfolding entry_checks entry_is_sealed entry_body entry_in
entry_checks-bytes bytes small enough =
    ap (λ (body : List ℕ). (word_at (content bytes) 92 == 0) || (word_at (content bytes) 92 == hash body)) (entry_body-in 0 (content bytes) small ∙ range-is 92 0 bytes enough)
