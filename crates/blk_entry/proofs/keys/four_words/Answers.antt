use Rattle.std.proofs.Common.{◌≡◌, ◌+◌, ℕ, [], ◌∷◌, ◌∙◌, ap, arith}
use Rattle.spec_image.specs.Bytes.{content, word_at, words_at}
use Rattle.blk_record.specs.Views.{entry_window}
use Rattle.blk_entry.proofs.keys.four_words.Goals as goal

pub word-requires : goal.word-requires
word-requires c = record { aligned = c.requires.aligned; inside = omega (arith, c.requires.inside) }

pub word-requires-2 : goal.word-requires-2
word-requires-2 c = record { aligned = omega (arith, c.requires.aligned); inside = omega (arith, c.requires.inside) }

pub word-requires-3 : goal.word-requires-3
word-requires-3 c = record { aligned = omega (arith, c.requires.aligned); inside = omega (arith, c.requires.inside) }

pub word-requires-4 : goal.word-requires-4
word-requires-4 c = record { aligned = omega (arith, c.requires.aligned); inside = omega (arith, c.requires.inside) }

pub returns : goal.returns
unfolding words_at
returns c =
    let f : ℕ → ℕ = content (entry_window c.args.view.now) in
    let third : c.word-3.result ≡ word_at f (c.args.at + 4 + 4) = c.word-3.ensures ∙ ap (word_at f) (let e : c.args.at + 8 ≡ c.args.at + 4 + 4 = omega arith in e) in
    let fourth : c.word-4.result ≡ word_at f (c.args.at + 4 + 4 + 4) = c.word-4.ensures ∙ ap (word_at f) (let e : c.args.at + 12 ≡ c.args.at + 4 + 4 + 4 = omega arith in e) in
    λ i. c.word.ensures i ∷ c.word-2.ensures i ∷ third i ∷ fourth i ∷ []
