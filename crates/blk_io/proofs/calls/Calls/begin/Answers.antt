use Rattle.std.proofs.Common.{◌==◌, ℕ, List, find, ap, ◌∙◌}
use Rattle.std.specs.Option.{option_map}
use Rattle.blk_io.specs.declared.calls.Listed.{Listed}
use Rattle.blk_io.specs.Counts.{one_more}
use Rattle.blk_io.proofs.CallLists.{find-pairs}
use Rattle.blk_io.proofs.calls.Calls.begin.Goals as goal

pub returns-clause-listed : goal.returns-clause-listed
returns-clause-listed c =
    let old = c.args.self.now in
    c.words_listed.ensures
    ∙ ap (λ (l : List Listed). option_map (λ (one : Listed). one.words) (find (λ (one : Listed). one.call == c.saturating_add-self.result) l)) c.deref.ensures.value
    ∙ ap (λ (n : ℕ). option_map (λ (one : Listed). one.words) (find (λ (one : Listed). one.call == n) old.listed.items)) c.saturating_add-self.ensures
    ∙ find-pairs old.listed.items (one_more old.made)
