-- A crash outcome of the rest of a command that is none of the whole command: a cache of 16 bytes is full, and a Write of one byte to `a` evicts `c` and then
-- `b`, for the low watermark; but once `c` is out the byte fits, so the rest of the Write evicts nothing.
use Rattle.std.proofs.Common.{◌≡◌, ℕ, zero, suc, ◌+◌, ◌*◌, ◌≤◌, Bool, true, false, List, [], ◌∷◌, refl, ap, arith, codes, length, get_or, sym, ◌∙◌}
use Rattle.blk_model.specs.Items.{Row, IsBytes, item_of, key_of}
use Rattle.blk_model.specs.State.{State, IsValidState}
use Rattle.blk_model.specs.Holding.{open_state}
use Rattle.blk_model.specs.Request.{Request, to_create, to_close, to_open, to_write}
use Rattle.blk_model.specs.Room.{Group, whole, without}
use Rattle.blk_model.specs.Step.{step}
use Rattle.blk_model.specs.ListSteps.{list_steps, list_after}
use Rattle.blk_model.specs.Stops.{pick}
use Rattle.blk_model.specs.EvictionLaws.{EvictsFirst}
use Rattle.blk_model.proofs.Computing.{computing}
use Rattle.blk_model.proofs.Opened.{open_valid}
use Rattle.blk_model.proofs.Rows.{after_all}
use Rattle.blk_model.proofs.Steps.{step_valid}
use Rattle.blk_model.proofs.StopRows.{a, c, codes_are_bytes, made_is_valid}
use Rattle.law_state.specs.RestLaws.{StopOnlyInTheRest}

-- an empty object, made and closed
abbrev made : List ℕ → List Request
made key = to_create 0 key ∷ to_close 0 ∷ []

abbrev long : List ℕ
long = codes "bbbbbbbbbbbbbb"

abbrev small : State
small = open_state [] (record { max_bytes = 16; max_items = 100 })

small_is_valid : IsValidState small
small_is_valid = open_valid [] (record { max_bytes = 16; max_items = 100 }) (record { once = λ item. omega arith; each = λ i d less. absurd (omega arith); parents = λ i d less. absurd (omega arith) })

abbrev closed_two : State
closed_two = after_all (after_all small (made c)) (made a)

abbrev opened_one : State
opened_one = (step closed_two 100 (to_open 5 a)).state

-- `a` is open, and `b` used last
abbrev filled : State
filled = after_all opened_one (made long)

a_bytes : IsBytes a
a_bytes = codes_are_bytes a (omega arith, tt)

c_bytes : IsBytes c
c_bytes = codes_are_bytes c (omega arith, tt)

long_bytes : IsBytes long
long_bytes = codes_are_bytes long (omega arith, (omega arith, (omega arith, (omega arith, (omega arith, (omega arith, (omega arith, (omega arith, (omega arith, (omega arith, (omega arith, (omega arith, (omega arith, (omega arith, tt))))))))))))))

closed_two_is_valid : IsValidState closed_two
closed_two_is_valid = made_is_valid (after_all small (made c)) a (made_is_valid small c small_is_valid c_bytes) a_bytes

filled_is_valid : IsValidState filled
filled_is_valid = made_is_valid opened_one long (step_valid closed_two 100 (to_open 5 a) closed_two_is_valid (omega arith, a_bytes)) long_bytes

abbrev one_byte : Request
one_byte = to_write 5 0 0 false (codes "x")

abbrev gone : List Group
gone = whole c [] ∷ []

abbrev rest_of_filled : State
rest_of_filled = without gone filled

-- a crash once `a` is in front of `b`
abbrev held : List Row
held = pick rest_of_filled (step rest_of_filled 100 one_byte).state true (list_after rest_of_filled 100 one_byte 1)

-- how many rows there are, and how long the key of the first one is
first_key : List Row → ℕ
first_key [] = 0
first_key (row ∷ rows) = length (key_of (item_of row))

shape_of : List Row → ℕ
shape_of rows = 100 * length rows + first_key rows

evicts_two : EvictsFirst filled 100 one_byte gone (whole long [] ∷ [])
unfolding computing
evicts_two = record { passes = refl; groups = refl }

one_step : length (list_steps rest_of_filled 100 one_byte) ≡ 1
unfolding computing
one_step = refl

three_steps : length (list_steps filled 100 one_byte) ≡ 3
unfolding computing
three_steps = refl

held_shape : shape_of held ≡ 201
unfolding computing shape_of first_key
held_shape = refl

in_the_whole : Bool → ℕ → ℕ
in_the_whole with_turned n = shape_of (pick filled (step filled 100 one_byte).state with_turned (list_after filled 100 one_byte n))

shapes : in_the_whole true 0 ∷ in_the_whole true 1 ∷ in_the_whole true 2 ∷ in_the_whole true 3 ∷ in_the_whole false 0 ∷ in_the_whole false 1 ∷ in_the_whole false 2 ∷ in_the_whole false 3 ∷ [] ≡ 314 ∷ 214 ∷ 101 ∷ 101 ∷ 214 ∷ 114 ∷ 0 ∷ 0 ∷ []
unfolding computing shape_of first_key in_the_whole
shapes = refl

none_of_them : (with_turned : Bool) (n : ℕ) → n ≤ 3 → 201 ≡ in_the_whole with_turned n → ⊥
none_of_them true zero within e = let s : in_the_whole true 0 ≡ 314 = ap (λ (l : List ℕ). get_or l 0 0) shapes in omega (arith, e, s)
none_of_them true (suc zero) within e = let s : in_the_whole true 1 ≡ 214 = ap (λ (l : List ℕ). get_or l 1 0) shapes in omega (arith, e, s)
none_of_them true (suc (suc zero)) within e = let s : in_the_whole true 2 ≡ 101 = ap (λ (l : List ℕ). get_or l 2 0) shapes in omega (arith, e, s)
none_of_them true (suc (suc (suc zero))) within e = let s : in_the_whole true 3 ≡ 101 = ap (λ (l : List ℕ). get_or l 3 0) shapes in omega (arith, e, s)
none_of_them true (suc (suc (suc (suc n)))) within e = omega arith
none_of_them false zero within e = let s : in_the_whole false 0 ≡ 214 = ap (λ (l : List ℕ). get_or l 4 0) shapes in omega (arith, e, s)
none_of_them false (suc zero) within e = let s : in_the_whole false 1 ≡ 114 = ap (λ (l : List ℕ). get_or l 5 0) shapes in omega (arith, e, s)
none_of_them false (suc (suc zero)) within e = let s : in_the_whole false 2 ≡ 0 = ap (λ (l : List ℕ). get_or l 6 0) shapes in omega (arith, e, s)
none_of_them false (suc (suc (suc zero))) within e = let s : in_the_whole false 3 ≡ 0 = ap (λ (l : List ℕ). get_or l 7 0) shapes in omega (arith, e, s)
none_of_them false (suc (suc (suc (suc n)))) within e = omega arith

pub only-in-rest : StopOnlyInTheRest
unfolding in_the_whole
only-in-rest = record {
  state = filled;
  moment = 100;
  request = one_byte;
  first = gone;
  others = whole long [] ∷ [];
  held = held;
  valid = filled_is_valid;
  evicts = evicts_two;
  in_rest = record { step_count = 1; within = let e = one_step in omega (arith, e); with_turned = true; picked_rows = refl };
  not_in_whole = λ o. none_of_them o.with_turned o.step_count (let w = o.within in let e = three_steps in omega (arith, w, e)) (sym held_shape ∙ ap shape_of o.picked_rows);
}
