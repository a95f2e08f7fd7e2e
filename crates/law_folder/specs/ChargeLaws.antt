-- The laws of names and costs: the model and the formats say the same.
use Rattle.std.specs.Prelude.{◌≡◌, ℕ, ◌+◌, List, length, true}
use Rattle.std.specs.List.{sum_by, count_by}
use Rattle.std.specs.declared.option.Option.TheVariants.{Some}
use Rattle.spec_image.specs.Image.{Image}
use Rattle.blk_model.specs.Items.{Item}
use Rattle.blk_model.specs.Charge.{part_name}
use Rattle.blk_model.specs.State.{State, Bounds, IsValidState}
use Rattle.blk_model.specs.Holding.{open_state, rows}
use Rattle.blk_model.specs.Room.{total, items}
use Rattle.blk_model.specs.Totals.{row_charge, doomed_charge, is_doomed_slot}
use Rattle.spec_format.specs.Names.{child_name}
use Rattle.spec_folder.specs.View.{View, view_of}
use Rattle.spec_folder.specs.Loads.{listed_rule, Loaded}
use Rattle.spec_folder.specs.Audit.{kept_by}
use Rattle.spec_folder.specs.Found.{row_of_loaded, charge_of, found}
use Rattle.spec_folder.specs.Layout.{Layout, is_listed, Represents}

-- the name of a part in the model is its name in the formats
abbrev pub PartNamesAreNames : Type 0
PartNamesAreNames = (key : List ℕ) (signature n : ℕ) → part_name key signature n ≡ child_name key signature n

-- the cost of the record at a listed item's node is that of the item's row
abbrev pub ItemsAreChargedAsRows : Type 0
ItemsAreChargedAsRows = (view : View) (state : State) (layout : Layout) → Represents view state layout → (item : Item) (loaded : Loaded) → is_listed state item ≡ true → layout.at (layout.place item) ≡ Some loaded → charge_of loaded ≡ row_charge state (row_of_loaded loaded)

-- the costs of the listed records sum to those of the state's rows
abbrev pub ListedChargesAreTheRows : Type 0
ListedChargesAreTheRows = (image : Image) (state : State) (layout : Layout) → Represents (view_of image) state layout → IsValidState state → sum_by charge_of (kept_by listed_rule (view_of image)) ≡ sum_by (row_charge state) (rows state)

-- the totals of a state are the sum of the costs of what is listed and of its doomed objects, and their number
pub record AreTotals (image : Image) (state : State) : Type 0 where
  pub bytes : total state ≡ sum_by charge_of (kept_by listed_rule (view_of image)) + sum_by doomed_charge state.objects
  pub count : items state ≡ length (kept_by listed_rule (view_of image)) + count_by is_doomed_slot state.objects

-- where a view represents a valid state, its totals are the sum of the costs of what is listed and doomed, and their number
abbrev pub ListedChargesAreTheTotals : Type 0
ListedChargesAreTheTotals = (image : Image) (state : State) (layout : Layout) → Represents (view_of image) state layout → IsValidState state → AreTotals image state

-- the totals of a state without doomed objects are the sum of the costs of what is listed, and their number
pub record AreOpenedTotals (image : Image) (state : State) : Type 0 where
  pub bytes : total state ≡ sum_by charge_of (kept_by listed_rule (view_of image))
  pub count : items state ≡ length (kept_by listed_rule (view_of image))

-- where a view represents a valid state that was just opened on what is recovered, its totals are those of what is listed
abbrev pub OpenedChargesAreTheTotals : Type 0
OpenedChargesAreTheTotals = (image : Image) (limits : Bounds) (layout : Layout) → Represents (view_of image) (open_state (found image) limits) layout → IsValidState (open_state (found image) limits) → AreOpenedTotals image (open_state (found image) limits)
