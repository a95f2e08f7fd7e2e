-- Bytes that are cut into lines, some bytes after others.
use Rattle.std.specs.List.{position}
use Rattle.std.specs.Prelude.{nat_lt}
use Rattle.std.proofs.lemmas.List.Quantifiers.{position-Some}
use Rattle.std.proofs.lemmas.List.Sums.{fails_before_first}
use Rattle.std.specs.List.{position_or_len}
use Rattle.std.proofs.lemmas.Bool.{ltb-false}
use Rattle.std.proofs.Common.{ℕ, zero, suc, get_or, ◌+◌, ◌<◌, ◌≤◌, ◌≡◌, ◌==◌, cond, Bool, true, false, List, [], ◌∷◌, ◌++◌, length, take, drop, Option, None, Some, refl, sym, ◌∙◌, ap, arith, append_assoc}
use Rattle.std.proofs.lemmas.List.{append-nil, length-append}
use Rattle.blk_run.specs.Playing.{cut_behind}
use Rattle.spec_run.specs.Lines.{Cut, with_byte, with_bytes}

-- these lines and this rest
abbrev pub cut_as : List (List ℕ) → List ℕ → Cut
cut_as whole rest = record { whole = whole; rest = rest }

-- lines before
abbrev pub behind_lines : List (List ℕ) → Cut → Cut
behind_lines before c = record { whole = before ++ c.whole; rest = c.rest }

with_byte-behind : (before : List (List ℕ)) (c : Cut) (byte : ℕ) → with_byte (behind_lines before c) byte ≡ behind_lines before (with_byte c byte)
with_byte-behind before c byte = by (byte == 10)
  where
    by : (b : Bool) → cond b (cut_as ((before ++ c.whole) ++ c.rest ∷ []) []) (cut_as (before ++ c.whole) (c.rest ++ byte ∷ []))
        ≡ behind_lines before (cond b (cut_as (c.whole ++ c.rest ∷ []) []) (cut_as c.whole (c.rest ++ byte ∷ [])))
    by true = ap (λ (l : List (List ℕ)). cut_as l []) (append_assoc before c.whole (c.rest ∷ []))
    by false = refl

-- the lines before stay before
pub with_bytes-behind : (before : List (List ℕ)) (c : Cut) (bytes : List ℕ) → with_bytes (behind_lines before c) bytes ≡ behind_lines before (with_bytes c bytes)
unfolding with_bytes
with_bytes-behind before c [] = refl
with_bytes-behind before c (x ∷ bytes) = ap (λ (d : Cut). with_bytes d bytes) (with_byte-behind before c x) ∙ with_bytes-behind before (with_byte c x) bytes

pub with_bytes-append : (c : Cut) (a b : List ℕ) → with_bytes c (a ++ b) ≡ with_bytes (with_bytes c a) b
unfolding with_bytes
with_bytes-append c [] b = refl
with_bytes-append c (x ∷ a) b = with_bytes-append (with_byte c x) a b

-- what is cut is what was cut before, and what is cut after its rest
pub cut_more : (c : Cut) (bytes : List ℕ) → with_bytes c bytes ≡ behind_lines c.whole (cut_behind c.rest bytes)
cut_more c bytes =
    ap (λ (l : List (List ℕ)). with_bytes (record { whole = l; rest = c.rest }) bytes) (sym (append-nil c.whole)) ∙ with_bytes-behind c.whole (record { whole = []; rest = c.rest }) bytes

-- the rest is no longer than what came
pub rest_few : (c : Cut) (bytes : List ℕ) → length (with_bytes c bytes).rest ≤ length c.rest + length bytes
unfolding with_bytes
rest_few c [] = omega arith
rest_few c (x ∷ bytes) =
    let more = rest_few (with_byte c x) bytes in
    let one = by (x == 10) in
    omega (arith, more, one)
  where
    by : (b : Bool) → length (cond b (cut_as (c.whole ++ c.rest ∷ []) []) (cut_as c.whole (c.rest ++ x ∷ []))).rest ≤ length c.rest + 1
    by true = omega arith
    by false = let l = length-append c.rest (x ∷ []) in omega (arith, l)

-- the test of the end of a line
abbrev pub ends_line : ℕ → Bool
ends_line byte = byte == 10

at_end : (c : Cut) (bytes : List ℕ) (i : ℕ) → i < length bytes → ends_line (get_or bytes i 0) ≡ true → ((k : ℕ) → k < i → ends_line (get_or bytes k 0) ≡ false)
    → with_bytes c bytes ≡ with_bytes (cut_as (c.whole ++ (c.rest ++ take i bytes) ∷ []) []) (drop (suc i) bytes)
unfolding with_bytes
at_end c [] i within here before = absurd (let no : i < 0 = within in omega (arith, no))
at_end c (x ∷ bytes) zero within here before =
    ap (λ (b : Bool). with_bytes (cond b (cut_as (c.whole ++ c.rest ∷ []) []) (cut_as c.whole (c.rest ++ x ∷ []))) bytes) here
    ∙ ap (λ (l : List ℕ). with_bytes (cut_as (c.whole ++ l ∷ []) []) bytes) (sym (append-nil c.rest))
at_end c (x ∷ bytes) (suc i) within here before =
    ap (λ (b : Bool). with_bytes (cond b (cut_as (c.whole ++ c.rest ∷ []) []) (cut_as c.whole (c.rest ++ x ∷ []))) bytes) (before 0 (omega arith))
    ∙ at_end (cut_as c.whole (c.rest ++ x ∷ [])) bytes i (omega (arith, within)) here (λ k less. before (suc k) (omega (arith, less)))
    ∙ ap (λ (l : List ℕ). with_bytes (cut_as (c.whole ++ l ∷ []) []) (drop (suc i) bytes)) (append_assoc c.rest (x ∷ []) (take i bytes))

-- the bytes up to the first end are a line
pub cut_at : (c : Cut) (bytes : List ℕ) (i : ℕ) → position ends_line bytes ≡ Some i → with_bytes c bytes ≡ with_bytes (cut_as (c.whole ++ (c.rest ++ take i bytes) ∷ []) []) (drop (i + 1) bytes)
cut_at c bytes i e = let found = position-Some ends_line bytes i 0 e in
    let next : suc i ≡ i + 1 = omega arith in
    at_end c bytes i found.0 found.1 found.2 ∙ ap (λ (n : ℕ). with_bytes (cut_as (c.whole ++ (c.rest ++ take i bytes) ∷ []) []) (drop n bytes)) next

no_end : (c : Cut) (bytes : List ℕ) → ((k : ℕ) → k < length bytes → ends_line (get_or bytes k 0) ≡ false) → with_bytes c bytes ≡ cut_as c.whole (c.rest ++ bytes)
unfolding with_bytes
no_end c [] none = ap (λ (l : List ℕ). cut_as c.whole l) (sym (append-nil c.rest))
no_end c (x ∷ bytes) none =
    ap (λ (b : Bool). with_bytes (cond b (cut_as (c.whole ++ c.rest ∷ []) []) (cut_as c.whole (c.rest ++ x ∷ []))) bytes) (none 0 (omega arith))
    ∙ no_end (cut_as c.whole (c.rest ++ x ∷ [])) bytes (λ k less. none (suc k) (omega (arith, less)))
    ∙ ap (λ (l : List ℕ). cut_as c.whole l) (append_assoc c.rest (x ∷ []) bytes)

-- bytes without an end belong to the rest
pub cut_none : (c : Cut) (bytes : List ℕ) → position ends_line bytes ≡ None → with_bytes c bytes ≡ cut_as c.whole (c.rest ++ bytes)
cut_none c bytes e =
    let past : nat_lt (position_or_len ends_line bytes) (length bytes) ≡ false = no_place (nat_lt (position_or_len ends_line bytes) (length bytes)) (position_or_len ends_line bytes) e in
    let all = ltb-false (position_or_len ends_line bytes) (length bytes) past in
    no_end c bytes (λ k less. fails_before_first ends_line bytes k 0 (omega (arith, all, less)))
  where
    some_none : {n : ℕ} → ◌≡◌ {A = Option ℕ} (Some n) None → ⊥
    some_none clash = cc

    no_place : (b : Bool) (n : ℕ) → cond b (Some n) None ≡ None → b ≡ false
    no_place true n clash = absurd (some_none clash)
    no_place false n clash = refl
