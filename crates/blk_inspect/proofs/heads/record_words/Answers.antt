use Rattle.std.proofs.Common.{ℕ, [], ◌∷◌, map, codes, ap, ◌∙◌}
use Rattle.spec_image.specs.Bytes.{words_at}
use Rattle.spec_format.specs.Records.{entry_in}
use Rattle.blk_inspect.specs.Findings.{word_said}
use Rattle.blk_inspect.specs.Texts.{record_words}
use Rattle.blk_inspect.proofs.heads.record_words.Goals as goal

pub returns : goal.returns
unfolding record_words entry_in words_at
returns c =
    let w1 = c.named.ensures ∙ ap (λ (w : ℕ). (codes "hash", w)) c.word.ensures in
    let w2 = c.named-2.ensures ∙ ap (λ (w : ℕ). (codes "next", w)) c.word-2.ensures in
    let w3 = c.named-3.ensures ∙ ap (λ (w : ℕ). (codes "rankings_node", w)) c.word-3.ensures in
    let w4 = c.named-4.ensures ∙ ap (λ (w : ℕ). (codes "state", w)) c.word-4.ensures in
    let w5 = c.named-5.ensures ∙ ap (λ (w : ℕ). (codes "key_len", w)) c.word-5.ensures in
    let w6 = c.named-6.ensures ∙ ap (λ (w : ℕ). (codes "long_key", w)) c.word-6.ensures in
    let w7 = c.named-7.ensures ∙ ap (λ (w : ℕ). (codes "size0", w)) c.word-7.ensures in
    let w8 = c.named-8.ensures ∙ ap (λ (w : ℕ). (codes "size1", w)) c.word-8.ensures in
    let w9 = c.named-9.ensures ∙ ap (λ (w : ℕ). (codes "size2", w)) c.word-9.ensures in
    let w10 = c.named-10.ensures ∙ ap (λ (w : ℕ). (codes "size3", w)) c.word-10.ensures in
    let w11 = c.named-11.ensures ∙ ap (λ (w : ℕ). (codes "addr0", w)) c.word-11.ensures in
    let w12 = c.named-12.ensures ∙ ap (λ (w : ℕ). (codes "addr1", w)) c.word-12.ensures in
    let w13 = c.named-13.ensures ∙ ap (λ (w : ℕ). (codes "addr2", w)) c.word-13.ensures in
    let w14 = c.named-14.ensures ∙ ap (λ (w : ℕ). (codes "addr3", w)) c.word-14.ensures in
    let w15 = c.named-15.ensures ∙ ap (λ (w : ℕ). (codes "flags", w)) c.word-15.ensures in
    let w16 = c.named-16.ensures ∙ ap (λ (w : ℕ). (codes "self_hash", w)) c.word-16.ensures in
    ap (map word_said) c.in_ok-words.ensures.items ∙ (λ i. w1 i ∷ w2 i ∷ w3 i ∷ w4 i ∷ w5 i ∷ w6 i ∷ w7 i ∷ w8 i ∷ w9 i ∷ w10 i ∷ w11 i ∷ w12 i ∷ w13 i ∷ w14 i ∷ w15 i ∷ w16 i ∷ [])
