-- Lines that are printed, one after another.
use Rattle.std.proofs.Common.{◌≡◌, ℕ, ◌+◌, ◌^◌, ◌<◌, ◌≤◌, List, [], ◌∷◌, ◌++◌, length, drop, get_or, Result, OnOk, refl, sym, ap, ◌∙◌, arith, inl, inr, add-one, drop-cons, append_assoc, codes}
use Rattle.std.specs.Prelude.{None, Some, slice_get}
use Rattle.std.specs.declared.option.Option.{Option}
use Rattle.std.specs.Int.{to_be_bytes, w32}
use Rattle.std.specs.List.{flat_map}
use Rattle.std.specs.Option.{option_map}
use Rattle.std.proofs.lemmas.List.{append-nil, drop_all}
use Rattle.std.proofs.lemmas.Option.{get_or_from_slice_get, slice_get_cases, slice_get_within}
use Rattle.std.proofs.lemmas.Result.{on_ok_weaker}
use Rattle.blk_io.specs.Streams.{Appends}
use Rattle.blk_io.specs.Texts.{hex_text}
use Rattle.blk_ranges.proofs.HexTexts.{word-digits}
use Rattle.blk_script.specs.Spelling.{data_text, line, number_text}
use Rattle.blk_script.proofs.Printed.{data_text-some}
use Rattle.blk_script.proofs.Putting.{IsPutUpTo, not_yet, put_more, put_partly, put_whole}
use Rattle.spec_run.specs.Script.{totals_line}

-- the bytes of a word, the highest first, are printed as its eight digits
pub word_is : (n : ℕ) (bytes : List ℕ) → n < 2 ^ 32 → bytes ≡ to_be_bytes w32 n → data_text bytes ≡ hex_text 8 n
unfolding hex_text
word_is n bytes fits is = ap data_text is ∙ data_text-some (to_be_bytes w32 n) (omega arith) ∙ word-digits n fits

-- a text by another name
pub said : {A E : Type 0} (r : Result A E) (old new : Option (List ℕ)) (text wanted : List ℕ) → text ≡ wanted → OnOk r (new ≡ option_map (λ (w : List ℕ). w ++ text) old) → OnOk r (new ≡ option_map (λ (w : List ℕ). w ++ wanted) old)
said r old new text wanted same = on_ok_weaker r (λ is. is ∙ ap (λ (t : List ℕ). option_map (λ (w : List ℕ). w ++ t) old) same)

-- one text and then another
pub then_said : {A E : Type 0} (r : Result A E) (old mid new : Option (List ℕ)) (a b : List ℕ) → mid ≡ option_map (λ (w : List ℕ). w ++ a) old → OnOk r (new ≡ option_map (λ (w : List ℕ). w ++ b) mid) → OnOk r (new ≡ option_map (λ (w : List ℕ). w ++ (a ++ b)) old)
then_said r old mid new a b first =
    on_ok_weaker r (λ is. put_whole old new (a ++ b) (put_more old mid new (a ++ b) b b [] (put_more old old mid (a ++ b) (a ++ b) a b (not_yet old (a ++ b)) refl first) (sym (append-nil b)) is))

-- one text, and then a prefix of another
pub then_prefix : (old mid new : Option (List ℕ)) (a b : List ℕ) → mid ≡ option_map (λ (w : List ℕ). w ++ a) old → Appends mid new b → Appends old new (a ++ b)
then_prefix old mid new a b first part = put_partly old mid new (a ++ b) b b [] (put_more old old mid (a ++ b) (a ++ b) a b (not_yet old (a ++ b)) refl first) (sym (append-nil b)) part

-- a prefix of the first of two texts
pub first_prefix : (old new : Option (List ℕ)) (a b : List ℕ) → Appends old new a → Appends old new (a ++ b)
first_prefix old new a b part = put_partly old old new (a ++ b) (a ++ b) a b (not_yet old (a ++ b)) refl part

-- the lines from one on
pub lines_cut : {X : Type 0} (f : X → List ℕ) (xs : List X) (i : ℕ) (d : X) → i < length xs → flat_map f (drop i xs) ≡ f (get_or xs i d) ++ flat_map f (drop (i + 1) xs)
lines_cut f xs i d within = ap (flat_map f) (drop-cons xs i d within) ∙ ap (λ (n : ℕ). f (get_or xs i d) ++ flat_map f (drop n xs)) (sym (add-one i))

-- the same by the element that is read
pub lines_at : {X : Type 0} (f : X → List ℕ) (xs : List X) (i : ℕ) (x : X) → slice_get xs i ≡ Some x → flat_map f (drop i xs) ≡ f x ++ flat_map f (drop (i + 1) xs)
lines_at f xs i x is = lines_cut f xs i x (slice_get_within xs i x is) ∙ ap (λ y. f y ++ flat_map f (drop (i + 1) xs)) (get_or_from_slice_get xs i x x is)

-- after the last line
pub lines_end : {X : Type 0} (f : X → List ℕ) (xs : List X) (i : ℕ) → length xs ≤ i → flat_map f (drop i xs) ≡ []
lines_end f xs i past = ap (flat_map f) (drop_all i xs past)

pub lines_none : {X : Type 0} (f : X → List ℕ) (xs : List X) (i : ℕ) → slice_get xs i ≡ None → flat_map f (drop i xs) ≡ []
lines_none {X} f xs i none = elim (slice_get_cases xs i).1 [ inl there ↦ absurd (clash there.0 (sym there.2 ∙ none)) | inr past ↦ lines_end f xs i past.0 ]
  where
    clash : (x : X) → Some x ≡ None → ⊥
    clash x e = cc

-- all lines are put
pub all_put : (old new : Option (List ℕ)) (text rest : List ℕ) → rest ≡ [] → IsPutUpTo old new text rest → new ≡ option_map (λ (w : List ℕ). w ++ text) old
all_put old new text rest none so =
    put_whole old new text (record { front = so.front; split = so.split ∙ ap (λ (r : List ℕ). so.front ++ r) none; put = so.put })

-- the line of some items and bytes, by its fields
pub totals_said : (items bytes : ℕ) → line (codes "items" ∷ number_text items ∷ codes "bytes" ∷ number_text bytes ∷ []) ≡ totals_line items bytes
totals_said items bytes =
    let shown : List ℕ = number_text items in
    let sum : List ℕ = number_text bytes in
    ap (λ (t : List ℕ). codes "items " ++ t) (append_assoc shown (codes " bytes " ++ sum) (codes "\n"))

-- the same where it was put
pub known : (old new : Option (List ℕ)) (text wanted : List ℕ) → text ≡ wanted → new ≡ option_map (λ (w : List ℕ). w ++ text) old → new ≡ option_map (λ (w : List ℕ). w ++ wanted) old
known old new text wanted same is = is ∙ ap (λ (t : List ℕ). option_map (λ (w : List ℕ). w ++ t) old) same
