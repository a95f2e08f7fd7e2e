use Rattle.std.proofs.Common.{ℕ, [], ◌∷◌, map, codes, ap, ◌∙◌}
use Rattle.blk_inspect.specs.Findings.{word_said}
use Rattle.blk_inspect.specs.Texts.{file_words}
use Rattle.blk_inspect.proofs.heads.file_words.Goals as goal

pub returns : goal.returns
unfolding file_words
returns c =
    let w1 = c.named.ensures ∙ ap (λ (w : ℕ). (codes "magic", w)) c.magic.ensures in
    let w2 = c.named-2.ensures ∙ ap (λ (w : ℕ). (codes "version", w)) c.version.ensures in
    let w3 = c.named-3.ensures ∙ ap (λ (w : ℕ). (codes "this_file", w)) (c.from.ensures ∙ c.this_file.ensures) in
    let w4 = c.named-4.ensures ∙ ap (λ (w : ℕ). (codes "next_file", w)) (c.from-2.ensures ∙ c.next_file.ensures) in
    let w5 = c.named-5.ensures ∙ ap (λ (w : ℕ). (codes "entry_size", w)) c.entry_size.ensures in
    let w6 = c.named-6.ensures ∙ ap (λ (w : ℕ). (codes "num_entries", w)) c.num_entries.ensures in
    let w7 = c.named-7.ensures ∙ ap (λ (w : ℕ). (codes "max_entries", w)) c.max_entries.ensures in
    let w8 = c.named-8.ensures ∙ ap (λ (w : ℕ). (codes "empty0", w)) c.empty.ensures in
    let w9 = c.named-9.ensures ∙ ap (λ (w : ℕ). (codes "empty1", w)) c.empty-2.ensures in
    let w10 = c.named-10.ensures ∙ ap (λ (w : ℕ). (codes "empty2", w)) c.empty-3.ensures in
    let w11 = c.named-11.ensures ∙ ap (λ (w : ℕ). (codes "empty3", w)) c.empty-4.ensures in
    let w12 = c.named-12.ensures ∙ ap (λ (w : ℕ). (codes "hint0", w)) c.hints.ensures in
    let w13 = c.named-13.ensures ∙ ap (λ (w : ℕ). (codes "hint1", w)) c.hints-2.ensures in
    let w14 = c.named-14.ensures ∙ ap (λ (w : ℕ). (codes "hint2", w)) c.hints-3.ensures in
    let w15 = c.named-15.ensures ∙ ap (λ (w : ℕ). (codes "hint3", w)) c.hints-4.ensures in
    let w16 = c.named-16.ensures ∙ ap (λ (w : ℕ). (codes "updating", w)) c.updating.ensures in
    ap (map word_said) c.in_ok-words.ensures.items ∙ (λ i. w1 i ∷ w2 i ∷ w3 i ∷ w4 i ∷ w5 i ∷ w6 i ∷ w7 i ∷ w8 i ∷ w9 i ∷ w10 i ∷ w11 i ∷ w12 i ∷ w13 i ∷ w14 i ∷ w15 i ∷ w16 i ∷ [])
