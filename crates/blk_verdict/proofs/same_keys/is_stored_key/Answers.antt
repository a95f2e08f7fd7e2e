use Rattle.std.proofs.Common.{List, ℕ, ◌∙◌, ap}
use Rattle.std.specs.Str.{bytes_eq}
use Rattle.blk_verdict.proofs.same_keys.is_stored_key.Goals as goal

pub returns-clause-same : goal.returns-clause-same
returns-clause-same g c image there stored is = c.eq.ensures ∙ ap (λ (l : List ℕ). bytes_eq l c.args.key.now) (c.in_ok-read_key_of.ensures.key image there stored is)
