-- Sets of numbers, in order.
use Rattle.std.specs.Prelude.{ℕ, ◌≤◌, IsTrue, Option, None, Some}
use Rattle.std.specs.Ordering.{nat_cmp}
use Rattle.std.specs.BTreeSet.{BTreeSet, contains}
use Rattle.std.specs.BTreeMap.Range.{IsFromStart}
use Rattle.std.specs.declared.ops.Bound.{Bound}

-- the least number of the set inside a start bound, or none where the set has none there
abbrev pub IsLeastNumber : BTreeSet ℕ → Bound ℕ → Option ℕ → Type 0
IsLeastNumber set start None = (m : ℕ) → IsFromStart nat_cmp start m → IsTrue (contains nat_cmp set m) → ⊥
IsLeastNumber set start (Some n) = IsFromStart nat_cmp start n × IsTrue (contains nat_cmp set n)
    × ((m : ℕ) → IsFromStart nat_cmp start m → IsTrue (contains nat_cmp set m) → n ≤ m)
