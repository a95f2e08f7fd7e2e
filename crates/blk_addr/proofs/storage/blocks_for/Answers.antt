use Rattle.std.proofs.Common.{◌≡◌, ◌<◌, ℕ, ◌==◌, Bool, true, false, if◌then◌else◌, Some, None, sym, ◌∙◌, arith}
use Rattle.std.specs.Int.{div_ceil}
use Rattle.std.proofs.lemmas.Grind.{common_steps}
use Rattle.spec_format.specs.Address.{block_size, external}
use Rattle.spec_format.specs.Storage as storage
use Rattle.blk_addr.proofs.storage.blocks_for.Goals as goal

-- where there are blocks, the kind isn't external and they have this size
of_blocks : (b : Bool) (n s : ℕ) → (if b then None else Some n) ≡ Some s → (b ≡ false) × (s ≡ n)
of_blocks true n s e = absurd (clash e)
  where
    clash : None ≡ Some s → ⊥
    clash c = cc
of_blocks false n s e = ((λ i. false), cc)

-- the number of the blocks
blocks_are : (size kind block : ℕ) → kind ≡ storage.kind_for size → (kind == external) ≡ false → block ≡ block_size kind → 0 < block → div_ceil size block ≡ storage.blocks_for size
unfolding storage.blocks_for block_size
blocks_are size kind block of_size some is above = grind (arith, common_steps)

pub returns-in-Some : goal.returns-in-Some
returns-in-Some c =
    let is = of_blocks _ _ _ (sym c.block_size.ensures.size ∙ c.in-Some.is) in
    c.div_ceil.ensures ∙ blocks_are c.args.size _ c.in-Some.block_size c.kind_for.ensures is.0 is.1 c.in-Some.ensures.some
