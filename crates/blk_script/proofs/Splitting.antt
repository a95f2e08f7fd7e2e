-- A line is cut into its fields at each space.
use Rattle.std.proofs.Common.{◌≡◌, ℕ, ◌+◌, ◌-◌, ◌<◌, ◌≤◌, Bool, true, false, cond, List, [], ◌∷◌, ◌++◌, Some, None, length, take, drop, get_or, refl, sym, ap, ◌∙◌, arith, add-one, drop-cons}
use Rattle.std.specs.List.{All, position, position_or_len, slice_split}
use Rattle.std.specs.Bool.{nat_lt}
use Rattle.std.proofs.lemmas.Bool.{ltb-false}
use Rattle.std.proofs.lemmas.List.{take-append-drop, get_or-take, length-take, length-drop, take_all}
use Rattle.std.proofs.lemmas.List.Elements.{All-from_get_or}
use Rattle.std.proofs.lemmas.List.Quantifiers.{position-Some}
use Rattle.std.proofs.lemmas.List.Sums.{fails_before_first}
use Rattle.std.proofs.lemmas.List.Splits.{slice_split_none, slice_split_at, length-slice_split}
use Rattle.blk_script.specs.Fields.{is_space, line_fields}

-- the first field ends at the first space
pub fields_of-at : (line : List ℕ) (i : ℕ) → position is_space line ≡ Some i → line_fields line ≡ take i line ∷ line_fields (drop (i + 1) line)
unfolding line_fields
fields_of-at line i at =
    let here = position-Some is_space line i 0 at in
    let front : All (λ byte. is_space byte ≡ false) (take i line) =
    All-from_get_or (λ byte. is_space byte ≡ false) (take i line) 0 (λ k within. let below : k < i = omega (arith, length-take i line) in rw (get_or-take i line k 0 below) (here.2 k below)) in
    let cut : line ≡ take i line ++ (get_or line i 0 ∷ drop (i + 1) line) = sym (take-append-drop i line) ∙ ap (λ (rest : List ℕ). take i line ++ rest) (rw add-one (drop-cons line i 0 here.0)) in
    ap (slice_split is_space) cut ∙ slice_split_at is_space (take i line) (get_or line i 0) (drop (i + 1) line) front here.1

not_some : (found : Bool) (i : ℕ) → cond found (Some i) None ≡ None → found ≡ false
not_some true i e = cc
not_some false i e = refl

-- without a space the line is one field
pub fields_of-whole : (line : List ℕ) → position is_space line ≡ None → line_fields line ≡ line ∷ []
unfolding line_fields
fields_of-whole line none =
    let past : length line ≤ position_or_len is_space line = ltb-false _ _ (not_some (nat_lt (position_or_len is_space line) (length line)) (position_or_len is_space line) none) in
    slice_split_none is_space line (All-from_get_or (λ byte. is_space byte ≡ false) line 0 (λ k within. fails_before_first is_space line k 0 (omega arith)))

-- what is left of a line after a place
pub left_behind : (line : List ℕ) (n : ℕ) → n ≤ length line → take (length line - n) (drop n line) ≡ drop n line
left_behind line n within = take_all (length line - n) (drop n line) (omega (arith, length-drop n line))

-- there is a space inside the line
pub space_within : (line : List ℕ) (i : ℕ) → position is_space line ≡ Some i → i + 1 ≤ length line
space_within line i at = let here = position-Some is_space line i 0 at in omega (arith, here.0)

-- a line has a field
pub fields_of-some : (line : List ℕ) → length (line_fields line) ≡ 0 → ⊥
unfolding line_fields
fields_of-some line none = absurd (omega (arith, length-slice_split is_space line))
