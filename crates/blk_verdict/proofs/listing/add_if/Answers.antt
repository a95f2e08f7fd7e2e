use Rattle.std.proofs.Common.{◌≡◌, ℕ, ◌++◌, ◌∷◌, [], List, true, false, sym, ap, ◌∙◌}
use Rattle.std.proofs.lemmas.List.{append-nil}
use Rattle.spec_folder.specs.Audit.{is_unlisted}
use Rattle.spec_folder.specs.Found.{completed}
use Rattle.spec_folder.specs.View.{view_of}
use Rattle.blk_audit.proofs.Carrying.{converted}
use Rattle.blk_verdict.proofs.ListedFacts.{none_some, one_fails, one_passes, some_same}
use Rattle.blk_verdict.proofs.listing.add_if.Goals as goal

pub returns-in_default-clause-added : goal.returns-in_default-clause-added
returns-in_default-clause-added g c image there agrees are w is = none_some (sym c.in_default.is ∙ c.at.ensures ∙ is)

pub returns-in_ok-push-clause-added : goal.returns-in_ok-push-clause-added
returns-in_ok-push-clause-added g c image there agrees are w at =
    let same : c.in-Some.entry ≡ w = some_same (sym c.in-Some.is ∙ c.at.ensures ∙ at) in
    let is : is_unlisted (completed (view_of image)) w ≡ true = ap (is_unlisted (completed (view_of image))) (sym (c.word.ensures.word ∙ same)) ∙ sym (c.in_ok-unlisted.ensures.unlisted image there agrees are) ∙ c.if-unlisted.true in
    c.in_ok-push.ensures ∙ ap (λ (v : ℕ). c.args.found.now.items ++ v ∷ []) same ∙ ap (λ (more : List ℕ). c.args.found.now.items ++ more) (sym (one_passes (is_unlisted (completed (view_of image))) w is))

pub returns-else-unlisted-clause-added : goal.returns-else-unlisted-clause-added
returns-else-unlisted-clause-added g c image there agrees are w at =
    let same : c.in-Some.entry ≡ w = some_same (sym c.in-Some.is ∙ c.at.ensures ∙ at) in
    let is : is_unlisted (completed (view_of image)) w ≡ false = ap (is_unlisted (completed (view_of image))) (sym (c.word.ensures.word ∙ same)) ∙ sym (c.in_ok-unlisted.ensures.unlisted image there agrees are) ∙ c.if-unlisted.false in
    sym (append-nil c.args.found.now.items) ∙ ap (λ (more : List ℕ). c.args.found.now.items ++ more) (sym (one_fails (is_unlisted (completed (view_of image))) w is))

pub returns-in_err-unlisted-clause-untold : goal.returns-in_err-unlisted-clause-untold
returns-in_err-unlisted-clause-untold g c agrees =
    converted c.is_unlisted.result c.from_residual.result c.in_err-unlisted.field-0.0 _ c.in_err-unlisted.was c.from_residual.ensures.1 (c.is_unlisted.ensures.untold agrees)
