use Rattle.std.proofs.Common.{◌∙◌, sym, arith}
use Rattle.std.specs.Int.{cast_unsigned, w64}
use Rattle.std.proofs.lemmas.Int.{of_z-to_z}
use Rattle.blk_sparse.proofs.parents.read_signature.Goals as goal

pub returns-clause-signature : goal.returns-clause-signature
returns-clause-signature g c image there loaded index w role =
    c.in_ok-indexed.ensures.signature image there loaded index w role ∙ sym (of_z-to_z w64 (cast_unsigned w64 c.in_ok-indexed.indexed.signature) (let small = c.in_ok-indexed.ensures.small in omega (arith, small)))
