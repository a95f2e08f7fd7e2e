-- What a search finds among rising records, and what a change there does.
use Rattle.std.proofs.Common.{◌≡◌, ℕ, zero, suc, ◌+◌, ◌-◌, ◌<◌, ◌≤◌, eqb, ◌≢◌, List, [], ◌∷◌, length, get_or, if◌then◌else◌, Some, None, Result, Ok, Err, IfOk, IfErr, refl, sym, ap, subst, arith}
use Rattle.std.specs.List.{insert, remove}
use Rattle.std.specs.List.Sorted.{IsSearchInRange, IsBinarySearchResult, IsNonDecreasingBy}
use Rattle.std.specs.Ordering.{nat_cmp, ordering_index}
use Rattle.std.proofs.lemmas.Cmp.{ranked}
use Rattle.std.proofs.lemmas.List.Sorted.{IsNonDecreasingBy-from_default}
use Rattle.std.proofs.lemmas.List.Edits.{length-insert, get_or-insert_below, get_or-insert_at, get_or-insert_above, length-remove, get_or-remove_below, get_or-remove_above}
use Rattle.std.proofs.lemmas.Bool.Decides.{nat_tests}
use Rattle.blk_handles.specs.declared.key_map.RecordKey.{RecordKey}
use Rattle.blk_handles.specs.KeyMap.{key_for, nowhere, entry_numbered, IsRising, IsAt, IsGapFor, SetsOnly}

-- no item before the one with the number i has the record
abbrev pub NotBefore : List RecordKey → ℕ → ℕ → Type 0
NotBefore l e i = (j : ℕ) → j < i → entry_numbered l j ≢ e

-- no item of the rest before the one with the number i has the record
not-in-rest : (x : RecordKey) (l : List RecordKey) (e i : ℕ) → NotBefore (x ∷ l) e (suc i) → NotBefore l e i
not-in-rest x l e i not j lt = not (suc j) (omega arith)

-- an item with a number has a number less by one in the list without its first item
at-rest : (x : RecordKey) (l : List RecordKey) (e i : ℕ) → IsAt (x ∷ l) e (suc i) → IsAt l e i
at-rest x l e i is_at = record { in_range = omega (arith, is_at.in_range); has_entry = is_at.has_entry }

-- a record that no item has is not found
key_of-absent : (l : List RecordKey) (e : ℕ) → NotBefore l e (length l) → key_for l e ≡ None
key_of-absent [] e not = refl
key_of-absent (x ∷ l) e not = grind (arith, nat_tests, not 0 (omega arith), key_of-absent l e (not-in-rest x l e _ not))

-- the first item that has the record gives the key
key_of-present : (l : List RecordKey) (e i : ℕ) → IsAt l e i → NotBefore l e i → key_for l e ≡ Some (get_or l i nowhere).key
key_of-present [] e i is_at not = absurd (omega (arith, is_at.in_range))
key_of-present (x ∷ l) e zero is_at not = grind (arith, nat_tests, is_at.has_entry)
key_of-present (x ∷ l) e (suc i) is_at not = grind (arith, nat_tests, not 0 (omega arith), key_of-present l e i (at-rest x l e i is_at) (not-in-rest x l e i not))

-- a new item before any that has the record sets its key
key_of-insert : (l : List RecordKey) (p : RecordKey) (i : ℕ) → NotBefore l p.entry i → (q : ℕ) → key_for (insert l i p) q ≡ (if eqb p.entry q then Some p.key else key_for l q)
key_of-insert l p zero not q = refl
key_of-insert [] p (suc i) not q = refl
key_of-insert (x ∷ l) p (suc i) not q = grind (arith, nat_tests, not 0 (omega arith), key_of-insert l p i (not-in-rest x l p.entry i not) q)

-- without the item that has a record, the others are found as before
key_of-remove : (l : List RecordKey) (e i : ℕ) → IsAt l e i → (q : ℕ) → q ≢ e → key_for (remove l i) q ≡ key_for l q
key_of-remove [] e i is_at q other = absurd (omega (arith, is_at.in_range))
key_of-remove (x ∷ l) e zero is_at q other = grind (arith, nat_tests, is_at.has_entry)
key_of-remove (x ∷ l) e (suc i) is_at q other = grind (arith, nat_tests, key_of-remove l e i (at-rest x l e i is_at) q other)

module _ (l : List RecordKey) (rising : IsRising l) (e : ℕ) where
  -- the comparisons with the record rise along the list, as a binary search asks
  comparisons-rise : IsNonDecreasingBy (λ item. ordering_index (nat_cmp item.entry e)) l
  comparisons-rise = IsNonDecreasingBy-from_default (λ item. ordering_index (nat_cmp item.entry e)) l nowhere (λ i j le in_range.
      let entries-rise : entry_numbered l i ≤ entry_numbered l j = grind (arith, rising i j, λ (same : i ≡ j). ap (entry_numbered l) same) in
      grind (arith, nat_tests))

  -- a binary search ends at the record, or at the gap for it
  pub searched : (r : Result ℕ ℕ) → IsSearchInRange r (length l) → IsBinarySearchResult (λ item. nat_cmp item.entry e) l r → record { found : IfOk r (IsAt l e); absent : IfErr r (IsGapFor l e) }
  searched (Ok at) in_range equal = record { found = record { in_range = in_range; has_entry = ranked _ e _ (sym (equal nowhere)) }; absent = tt }
  searched (Err at) in_range parted = record {
    found = tt;
    absent = record {
      in_range = in_range;
      smaller_before = λ j lt. ranked _ e _ (sym ((parted comparisons-rise).0 j nowhere (omega arith) lt));
      greater_after = λ j le lt. ranked _ e _ (sym ((parted comparisons-rise).1 j nowhere le lt));
    };
  }

module _ (l : List RecordKey) (rising : IsRising l) (e at : ℕ) (is_at : IsAt l e at) where
  -- the addresses before the item are smaller
  not-before : NotBefore l e at
  not-before j lt same = omega (arith, rising j at lt is_at.in_range, is_at.has_entry)

  -- the record is found at its index
  pub key_of-at : key_for l e ≡ Some (get_or l at nowhere).key
  key_of-at = key_of-present l e at is_at not-before

  -- taking the item out keeps the order: each address is an old one, from its index on the next one
  pub rising-remove : IsRising (remove l at)
  rising-remove i j lt in_range =
      let length-new = length-remove l at is_at.in_range in
      let entry = λ (x : RecordKey). x.entry in
      let below : (i : ℕ) → i < at → entry_numbered (remove l at) i ≡ entry_numbered l i = λ i lt. ap entry (get_or-remove_below l at nowhere i lt is_at.in_range) in
      let above : (i : ℕ) → at ≤ i → entry_numbered (remove l at) i ≡ entry_numbered l (i + 1) = λ i le. ap entry (get_or-remove_above l at nowhere i le is_at.in_range) in
      grind (arith, below i, above i, below j, above j, rising i j, rising i (j + 1), rising (i + 1) (j + 1))

  -- and the record is found no more
  removed-absent : key_for (remove l at) e ≡ None
  removed-absent = key_of-absent (remove l at) e (λ j lt same.
      let length-new = length-remove l at is_at.in_range in
      let entry = λ (x : RecordKey). x.entry in
      let below : j < at → entry_numbered (remove l at) j ≡ entry_numbered l j = λ lt. ap entry (get_or-remove_below l at nowhere j lt is_at.in_range) in
      let above : at ≤ j → entry_numbered (remove l at) j ≡ entry_numbered l (j + 1) = λ le. ap entry (get_or-remove_above l at nowhere j le is_at.in_range) in
      grind (arith, below, above, rising j at, rising at (j + 1), is_at.in_range, is_at.has_entry))

  pub sets-only-remove : SetsOnly l (remove l at) e None
  sets-only-remove = record { this_entry = removed-absent; other_entries = λ q other. key_of-remove l e at is_at q other }

module _ (l : List RecordKey) (e at : ℕ) (gap : IsGapFor l e at) where
  -- a record that has a gap is not found
  pub key_of-gap : key_for l e ≡ None
  key_of-gap = key_of-absent l e (λ j lt same. grind (arith, gap.smaller_before j, gap.greater_after j))

  module _ (key : ℕ) where
    -- a new item in the gap changes that record alone
    pub sets-only-insert : SetsOnly l (insert l at (record { entry = e; key = key })) e (Some key)
    sets-only-insert =
        let gets : (q : ℕ) → key_for (insert l at (record { entry = e; key = key })) q ≡ (if eqb e q then Some key else key_for l q) = key_of-insert l (record { entry = e; key = key }) at (λ j lt same. omega (arith, gap.smaller_before j lt)) in
        record { this_entry = grind (arith, nat_tests, gets e); other_entries = λ q other. grind (arith, nat_tests, gets q) }

    -- it keeps the order: each address is an old one below the gap, the new one at it, or an old one moved up by one
    pub rising-insert : IsRising l → IsRising (insert l at (record { entry = e; key = key }))
    rising-insert rising i j lt in_range =
        let p : RecordKey = record { entry = e; key = key } in
        let new = insert l at (record { entry = e; key = key }) in
        let entry = λ (x : RecordKey). x.entry in
        let length-new = length-insert l at (record { entry = e; key = key }) gap.in_range in
        let below : (i : ℕ) → i < at → entry_numbered new i ≡ entry_numbered l i = λ i lt. ap entry (get_or-insert_below l at (record { entry = e; key = key }) nowhere i lt gap.in_range) in
        let here : (i : ℕ) → i ≡ at → entry_numbered new i ≡ e = λ i here. rw here (ap entry (get_or-insert_at l at (record { entry = e; key = key }) nowhere gap.in_range)) in
        let above : (i : ℕ) → at < i → entry_numbered new i ≡ entry_numbered l (i - 1) = λ i lt. subst (λ q. entry_numbered new q ≡ entry_numbered l (i - 1)) {x = i - 1 + 1} (omega arith) (ap entry (get_or-insert_above l at (record { entry = e; key = key }) nowhere (i - 1) (omega arith) gap.in_range)) in
        grind (arith, below i, here i, above i, below j, here j, above j, rising i j, rising i (j - 1), rising (i - 1) (j - 1), gap.smaller_before i, gap.greater_after (j - 1))
