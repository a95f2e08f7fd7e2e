-- The refusals as clients see them.
use Rattle.std.specs.Prelude.{ℕ, List, codes}
use Rattle.blk_model.specs.declared.Refusal.{Refusal}
use Rattle.blk_model.specs.declared.Refusal.TheVariants as refusal

-- the number of a refusal
abbrev pub number_of_refusal : Refusal → ℕ
number_of_refusal refusal.BadHandle = 1
number_of_refusal refusal.HandleBusy = 2
number_of_refusal refusal.Missing = 3
number_of_refusal refusal.Exists = 4
number_of_refusal refusal.BadStream = 5
number_of_refusal refusal.TooLarge = 6
number_of_refusal refusal.NotSparse = 7
number_of_refusal refusal.SparseStream = 8
number_of_refusal refusal.RangeEnd = 9
number_of_refusal refusal.Doomed = 10
number_of_refusal refusal.Full = 11
number_of_refusal refusal.Memory = 12
number_of_refusal refusal.BadKey = 13
number_of_refusal refusal.NoHandle = 14

-- the name of a refusal, as text
abbrev pub name_of_refusal : Refusal → List ℕ
name_of_refusal refusal.BadHandle = codes "BadHandle"
name_of_refusal refusal.HandleBusy = codes "HandleBusy"
name_of_refusal refusal.Missing = codes "Missing"
name_of_refusal refusal.Exists = codes "Exists"
name_of_refusal refusal.BadStream = codes "BadStream"
name_of_refusal refusal.TooLarge = codes "TooLarge"
name_of_refusal refusal.NotSparse = codes "NotSparse"
name_of_refusal refusal.SparseStream = codes "SparseStream"
name_of_refusal refusal.RangeEnd = codes "RangeEnd"
name_of_refusal refusal.Doomed = codes "Doomed"
name_of_refusal refusal.Full = codes "Full"
name_of_refusal refusal.Memory = codes "Memory"
name_of_refusal refusal.BadKey = codes "BadKey"
name_of_refusal refusal.NoHandle = codes "NoHandle"
