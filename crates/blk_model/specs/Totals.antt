-- The totals, as sums over the rows that are listed.
use Rattle.std.specs.Prelude.{◌≡◌, ℕ, ◌+◌, Bool, false, not, if◌then◌else◌, List, length, sum_by, count_by, Option, Some, None}
use Rattle.std.specs.Option.{option_map_or}
use Rattle.blk_model.specs.Items.{main, Row, main_row, part_row, signature_of}
use Rattle.blk_model.specs.Charge.{main_charge, part_charge}
use Rattle.blk_model.specs.State.{Object, State}
use Rattle.blk_model.specs.Holding.{owner_object, rows}
use Rattle.blk_model.specs.Room.{own_charge, total, items}

-- the generation of the live object with a key
abbrev pub signature_for : State → List ℕ → ℕ
signature_for state key = option_map_or (λ object. signature_of object.shape) (owner_object state (main key)) 0

-- the cost of a row of a state; the name of a part has its parent's generation
abbrev pub row_charge : State → Row → ℕ
row_charge state (main_row key shape streams) = main_charge key shape streams
row_charge state (part_row key n value) = part_charge key (signature_for state key) n value

-- the cost of a doomed object; 0 of a live one
abbrev pub doomed_charge : Option Object → ℕ
doomed_charge None = 0
doomed_charge (Some object) = if object.live then 0 else own_charge object

-- whether a doomed object is in a slot
abbrev pub is_doomed_slot : Option Object → Bool
is_doomed_slot None = false
is_doomed_slot (Some object) = not object.live

-- the totals are the sums over the listed rows and the doomed objects
pub record AreSums (state : State) : Type 0 where
  pub bytes : total state ≡ sum_by (row_charge state) (rows state) + sum_by doomed_charge state.objects
  pub count : items state ≡ length (rows state) + count_by is_doomed_slot state.objects
