-- The numbers and the names of parse errors, as they are printed.
use Rattle.std.specs.Prelude.{ℕ, List, codes}
use Rattle.blk_script.specs.declared.fault.LineFault.{LineFault}
use Rattle.blk_script.specs.declared.fault.LineFault.TheVariants as fault

-- the printed number of a parse error
abbrev pub fault_number : LineFault → ℕ
fault_number fault.Empty = 1
fault_number fault.UnknownWord = 2
fault_number fault.FieldCount = 3
fault_number fault.Number = 4
fault_number fault.Hex = 5
fault_number fault.Key = 6
fault_number fault.TooLong = 7

-- the printed name of a parse error
abbrev pub fault_name : LineFault → List ℕ
fault_name fault.Empty = codes "Empty"
fault_name fault.UnknownWord = codes "UnknownWord"
fault_name fault.FieldCount = codes "FieldCount"
fault_name fault.Number = codes "Number"
fault_name fault.Hex = codes "Hex"
fault_name fault.Key = codes "Key"
fault_name fault.TooLong = codes "TooLong"
