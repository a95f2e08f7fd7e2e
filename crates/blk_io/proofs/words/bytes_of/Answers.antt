use Rattle.std.proofs.Common.{◌≡◌, ◌+◌, ◌<◌, ◌≤◌, ℕ, map, length, take, List, [], ◌∷◌, ◌++◌, get_or, set, sym, ◌∙◌, ap, arith}
use Rattle.std.proofs.lemmas.List.{take_more, take_more_set, take_all, map-append, length-set}
use Rattle.spec_image.specs.Bytes.{word_bytes}
use Rattle.blk_io.proofs.words.bytes_of.Goals as goal

-- one word's bytes more
more : (bytes : List (List ℕ)) (words : List ℕ) (i : ℕ) (b : List ℕ) → length bytes ≡ length words → i < length words → b ≡ word_bytes (get_or words i 0)
    → take i bytes ≡ map word_bytes (take i words) → take (i + 1) (set bytes i b) ≡ map word_bytes (take (i + 1) words)
more bytes words i b size within is done =
    let inside : i < length bytes = omega arith in
    take_more_set bytes i b inside
    ∙ ap (λ (l : List (List ℕ)). l ++ b ∷ []) done
    ∙ ap (λ (x : List ℕ). map word_bytes (take i words) ++ x ∷ []) is
    ∙ sym (map-append word_bytes (take i words) (get_or words i 0 ∷ []))
    ∙ ap (map word_bytes) (sym (take_more words i 0 within))

pub loop-i-preserved : goal.loop-i-preserved
loop-i-preserved g c = record {
  size = length-set c.loop-i.bytes c.loop-i.i c.to_le_bytes.result ∙ c.loop-i.invariant.size;
  done = more c.loop-i.bytes c.args.words.now c.loop-i.i c.to_le_bytes.result c.loop-i.invariant.size (omega (arith, c.told-words)) c.to_le_bytes.ensures c.loop-i.invariant.done;
}

pub returns : goal.returns
returns g c =
    let size = c.loop-i.invariant.size in
    let long : length c.args.words.now ≤ c.loop-i.i = omega (arith, c.told-words) in
    sym (take_all c.loop-i.i c.loop-i.bytes (omega arith)) ∙ c.loop-i.invariant.done ∙ ap (map word_bytes) (take_all c.loop-i.i c.args.words.now long)
