use Rattle.std.proofs.Common.{◌≡◌, ℕ, [], ◌∷◌, Option, ap, ap₂, sym, ◌∙◌, subst, true}
use Rattle.spec_format.specs.Address.{is_address}
use Rattle.spec_folder.specs.Completion.{putting_in_front}
use Rattle.spec_folder.specs.ListView.{Next, Prev, Head, Tail}
use Rattle.blk_lru.specs.Plans.{word_or_zero}
use Rattle.blk_lru.proofs.PlanWords.{added, front_none, front_some, none_word}
use Rattle.blk_lru.proofs.plans.put_front.Goals as goal

pub returns-in_default-clause-writes : goal.returns-in_default-clause-writes
returns-in_default-clause-writes c =
    let node = c.args.node in
    let address : is_address node ≡ true = subst (λ (w : ℕ). is_address w ≡ true) c.word-word.ensures.word c.word-word.ensures.address in
    added c.args.plan.now.items c.add.new.plan.items _ (putting_in_front node (word_or_zero c.args.head)) c.add.ensures.items
    (ap (λ (w : ℕ). Next node w ∷ Prev node w ∷ Tail w ∷ Head w ∷ []) c.word-word.ensures.word ∙ sym (front_none node address) ∙ ap (putting_in_front node) (sym (none_word c.args.head c.in_default.not-Some)))

pub returns-then-ne-clause-writes : goal.returns-then-ne-clause-writes
returns-then-ne-clause-writes c =
    let node = c.args.node in
    let head = c.in-Some.head in
    let address : is_address head ≡ true = subst (λ (w : ℕ). is_address w ≡ true) c.word.ensures.word c.word.ensures.address in
    added c.args.plan.now.items c.add-then-ne.new.plan.items _ (putting_in_front node (word_or_zero c.args.head)) c.add-then-ne.ensures.items
    (ap₂ (λ (h w : ℕ). Next node h ∷ Prev node w ∷ Prev head w ∷ Head w ∷ []) c.word.ensures.word c.word-word.ensures.word ∙ sym (front_some node head (sym c.if-ne.true ∙ c.ne.ensures) address) ∙ ap (λ (o : Option ℕ). putting_in_front node (word_or_zero o)) (sym c.in-Some.is))
