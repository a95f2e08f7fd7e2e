use Rattle.std.proofs.Common.{◌≡◌, ℕ, ◌++◌, ◌∷◌, [], List, length, ap, ◌∙◌}
use Rattle.blk_audit.proofs.Ends.{cut_next}
use Rattle.blk_audit.proofs.reaching.Reached.end_bucket.Goals as goal

pub returns-clause-reached : goal.returns-clause-reached
returns-clause-reached c =
    let end : c.in-Ok.end ≡ length c.args.self.now.words.items = c.in-Ok.ensures.1 ∙ ap (λ (xs : List ℕ). length xs) c.as_slice.ensures.value in
    record {
      met = c.requires.reached.met;
      known = c.requires.reached.known;
      cut = cut_next c.args.self.now.words.items c.args.self.now.ends.items _ c.args.self.now.closed.items _ c.args.closed
          (c.in_ok-push.ensures.items ∙ ap (λ (n : ℕ). c.args.self.now.ends.items ++ n ∷ []) end) c.in_ok-push-2.ensures.items c.requires.reached.cut;
    }

pub returns-clause-ends : goal.returns-clause-ends
returns-clause-ends c =
    let end : c.in-Ok.end ≡ length c.args.self.now.words.items = c.in-Ok.ensures.1 ∙ ap (λ (xs : List ℕ). length xs) c.as_slice.ensures.value in
    c.in_ok-push.ensures.items ∙ ap (λ (n : ℕ). c.args.self.now.ends.items ++ n ∷ []) end
