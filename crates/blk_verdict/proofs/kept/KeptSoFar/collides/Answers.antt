use Rattle.std.proofs.Common.{◌≡◌, ◌∙◌, ◌||◌, List, ℕ, Bool, true, false, refl, ap}
use Rattle.std.specs.Prelude.{not}
use Rattle.spec_format.specs.Claims.{claims_of_all, overlap, repeats}
use Rattle.blk_verdict.specs.Kept.{addresses_of, addresses_of_all}
use Rattle.blk_verdict.proofs.kept.KeptSoFar.collides.Goals as goal

not_not : (b : Bool) → not (not b) ≡ b
not_not true = refl
not_not false = refl

-- what is owned collides where it isn't free
collides_by : (free : Bool) (owned words mine : List ℕ) → words ≡ mine → free ≡ not (repeats (claims_of_all words) || overlap (claims_of_all owned) (claims_of_all words))
    → not free ≡ (repeats (claims_of_all mine) || overlap (claims_of_all owned) (claims_of_all mine))
collides_by free owned words mine same is =
    ap not is ∙ not_not _ ∙ ap (λ (l : List ℕ). repeats (claims_of_all l) || overlap (claims_of_all owned) (claims_of_all l)) same

pub returns : goal.returns
returns c is =
    collides_by c.are_free.result (addresses_of_all c.args.self.now.kept.items) c.as_slice.result.now (addresses_of c.args.loaded.now) (c.as_slice.ensures ∙ c.of-owned.ensures) (c.are_free.ensures.listed (addresses_of_all c.args.self.now.kept.items) is)
