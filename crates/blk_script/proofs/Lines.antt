-- What a line says, by its length and its first field.
use Rattle.std.proofs.Common.{◌≡◌, ℕ, ◌<◌, ◌≤◌, List, ◌∷◌, Err, length, ap, ◌∙◌, arith}
use Rattle.std.proofs.lemmas.Bool.{lt-ltb, le-ltb, eq-eqb, ne_eqb, cond-true, cond-false}
use Rattle.blk_script.specs.declared.fault.LineFault.TheVariants as fault
use Rattle.blk_script.specs.Fields.{line_fields}
use Rattle.blk_script.specs.Line.{read_text, by_fields, by_word, command_words}

-- a line that is too long
pub read_text-long : (line : List ℕ) → 2200000 < length line → read_text line ≡ Err fault.TooLong
unfolding read_text
read_text-long line long = cond-true _ _ _ (lt-ltb 2200000 (length line) long)

-- a line with no byte
pub read_text-empty : (line : List ℕ) → length line ≤ 2200000 → length line ≡ 0 → read_text line ≡ Err fault.Empty
unfolding read_text
read_text-empty line short none = cond-false _ _ _ (le-ltb 2200000 (length line) short) ∙ cond-true _ _ _ (eq-eqb (length line) 0 none)

-- any other line is read by its first field
pub read_text-fields : (line word : List ℕ) (fields : List (List ℕ)) → length line ≤ 2200000 → 0 < length line → line_fields line ≡ word ∷ fields → read_text line ≡ by_word word fields command_words
unfolding read_text
read_text-fields line word fields short some e =
    cond-false _ _ _ (le-ltb 2200000 (length line) short) ∙ cond-false _ _ _ (ne_eqb (length line) 0 (λ none. absurd (omega arith))) ∙ ap by_fields e
