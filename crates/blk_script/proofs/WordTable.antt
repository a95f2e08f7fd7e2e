-- The table of words, as the program and as the language has it.
use Rattle.std.proofs.Common.{◌≡◌, ℕ, ◌+◌, ◌<◌, true, false, List, length, drop, map, get_or, sym, ap, ◌∙◌, add-one, drop-cons}
use Rattle.std.specs.Borrow.{Bor}
use Rattle.std.specs.Str.{bytes_eq}
use Rattle.std.proofs.lemmas.Bool.{cond-true, cond-false}
use Rattle.blk_script.specs.declared.words.Word.{Word}
use Rattle.blk_script.specs.Line.{by_word, reading}
use Rattle.blk_script.specs.Words.{word_line}

-- the lines from one on: this one is not that of the word
pub by_word-other : (table : List (Bor (List ℕ) × Word)) (i : ℕ) (d : Bor (List ℕ) × Word) (word : List ℕ) (fields : List (List ℕ)) → i < length table → bytes_eq word (get_or table i d).0.now ≡ false
    → by_word word fields (map word_line (drop i table)) ≡ by_word word fields (map word_line (drop (i + 1) table))
by_word-other table i d word fields within other =
    ap (λ (rest : List (Bor (List ℕ) × Word)). by_word word fields (map word_line rest)) (drop-cons table i d within)
    ∙ cond-false _ _ _ other ∙ ap (λ (n : ℕ). by_word word fields (map word_line (drop n table))) (sym (add-one i))

-- the lines from one on: this one is that of the word
pub by_word-this : (table : List (Bor (List ℕ) × Word)) (i : ℕ) (d : Bor (List ℕ) × Word) (word : List ℕ) (fields : List (List ℕ)) → i < length table → bytes_eq word (get_or table i d).0.now ≡ true
    → by_word word fields (map word_line (drop i table)) ≡ reading (get_or table i d).1 fields
by_word-this table i d word fields within this =
    ap (λ (rest : List (Bor (List ℕ) × Word)). by_word word fields (map word_line rest)) (drop-cons table i d within) ∙ cond-true _ _ _ this
