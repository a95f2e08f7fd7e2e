-- The counts of the calls on an object in memory, and the calls on it that are listed to fail.
use Rattle.std.specs.Prelude.{◌≡◌, ℕ, ◌+◌, ◌-◌, ◌^◌, ◌<◌, ◌==◌, ◌⊎◌, Bool, true, if◌then◌else◌, min, find, List, [], ◌∷◌, ◌++◌, Option, None, Some, is_some}
use Rattle.std.specs.Option.{option_map}

-- how many calls there were so far, how many ran out of memory, and how many failed; and the calls that are to fail, each with how many of its words are
-- written all the same
pub record CallCounts : Type 0 where
  pub calls : ℕ
  pub lacks : ℕ
  pub faults : ℕ
  pub listed : List (ℕ × ℕ)

-- no call was made, and none is to fail
abbrev pub no_calls : CallCounts
no_calls = record { calls = 0; lacks = 0; faults = 0; listed = [] }

-- the counts where one more call is listed to fail, after so many words of it are written
abbrev pub with_listed : ℕ → ℕ → CallCounts → CallCounts
with_listed call words counts = record { calls = counts.calls; lacks = counts.lacks; faults = counts.faults; listed = counts.listed ++ (call, words) ∷ [] }

-- a counter that rose by one, which saturates at the last value of a u64
abbrev pub one_more : ℕ → ℕ
one_more n = min (n + 1) (2 ^ 64 - 1)

-- how many words of the next call are written before it fails, or None where it isn't listed to fail; of two listings of a call the first counts
abbrev pub next_failure : CallCounts → Option ℕ
next_failure counts = option_map (λ (one : ℕ × ℕ). one.1) (find (λ (one : ℕ × ℕ). one.0 == one_more counts.calls) counts.listed)

-- whether the next call is listed to fail
abbrev pub fails_next : CallCounts → Bool
fails_next counts = is_some (next_failure counts)

-- how many words may be written: as many as steps are left, and where the call is listed to fail no more than it is listed with
abbrev pub lasting : Option ℕ → ℕ → ℕ
lasting None left = left
lasting (Some words) left = min words left

-- no call between the two counts ran out of memory, and the counter of those that did isn't at the last value of a u64 (where it can't rise)
pub record FindsMemory (old new : CallCounts) : Type 0 where
  pub same : new.lacks ≡ old.lacks
  pub small : new.lacks < 2 ^ 64 - 1

-- one call was counted, and as a fault exactly where it failed; it failed if it ran out of memory, and otherwise it failed exactly if this cause was there
pub record CountsCall (old new : CallCounts) (failed cause : Bool) : Type 0 where
  pub calls : new.calls ≡ one_more old.calls
  pub listed : new.listed ≡ old.listed
  pub faults : new.faults ≡ (if failed then one_more old.faults else old.faults)
  pub lacks : (new.lacks ≡ old.lacks) ⊎ (new.lacks ≡ one_more old.lacks)
  pub lacking : old.lacks < new.lacks → failed ≡ true
  pub exact : FindsMemory old new → failed ≡ cause

-- the counts after the begin of a call: the counter of calls rose by one
abbrev pub begun : CallCounts → CallCounts
begun counts = record { calls = one_more counts.calls; lacks = counts.lacks; faults = counts.faults; listed = counts.listed }

-- the counts after a call failed: the error counter rose by one
abbrev pub failed : CallCounts → CallCounts
failed counts = record { calls = counts.calls; lacks = counts.lacks; faults = one_more counts.faults; listed = counts.listed }

-- the counts after a call ran out of memory: the error counter and that of calls without memory rose by one
abbrev pub lacking : CallCounts → CallCounts
lacking counts = record { calls = counts.calls; lacks = one_more counts.lacks; faults = one_more counts.faults; listed = counts.listed }
