use Rattle.std.proofs.Common.{◌≡◌, ℕ, zero, suc, ◌+◌, ◌<◌, ◌≤◌, List, [], ◌∷◌, ◌∙◌, ap, arith}
use Rattle.std.specs.Prelude.{slice_index}
use Rattle.spec_image.specs.Bytes.{content, range_at, word_at}
use Rattle.spec_image.specs.Image.{Block, byte}
use Rattle.spec_format.specs.Headers.{empty_of}
use Rattle.blk_alloc.proofs.Headers.{field_read}
use Rattle.blk_alloc.proofs.counters.Counters.read.Goals as goal

-- four numbers that are each the value of a function at their place
each_of_four : (a b c d : ℕ) (f : ℕ → ℕ) → a ≡ f 0 → b ≡ f 1 → c ≡ f 2 → d ≡ f 3 → (i : ℕ) → i < 4 → slice_index (a ∷ b ∷ c ∷ d ∷ []) i ≡ f i
each_of_four a b c d f e0 e1 e2 e3 zero small = e0
each_of_four a b c d f e0 e1 e2 e3 (suc zero) small = e1
each_of_four a b c d f e0 e1 e2 e3 (suc (suc zero)) small = e2
each_of_four a b c d f e0 e1 e2 e3 (suc (suc (suc zero))) small = e3
each_of_four a b c d f e0 e1 e2 e3 (suc (suc (suc (suc i)))) small = absurd (omega arith)

pub returns-clause-counters : goal.returns-clause-counters
returns-clause-counters g c image there =
    let f : ℕ → ℕ = byte image (Block c.args.file) in
    let bytes : c.in-Some.head ≡ range_at f 0 80 = c.in-Some.ensures.same ∙ c.in_ok-read_exact.ensures.bytes image there in
    let at : (i : ℕ) → i + 4 ≤ 80 → word_at (content c.in-Some.head) i ≡ word_at f i = λ i small. ap (λ (l : List ℕ). word_at (content l) i) bytes ∙ field_read f i small in
    record {
      allocations = c.num_entries.ensures ∙ at 16 (omega arith);
      empty = each_of_four c.empty.result c.empty-2.result c.empty-3.result c.empty-4.result (empty_of f) (c.empty.ensures ∙ at 24 (omega arith)) (c.empty-2.ensures ∙ at 28 (omega arith)) (c.empty-3.ensures ∙ at 32 (omega arith)) (c.empty-4.ensures ∙ at 36 (omega arith));
    }
