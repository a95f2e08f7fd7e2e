-- What a change of the objects does to the map of their keys.
use Rattle.std.proofs.Common.{◌≡◌, ◌≢◌, ℕ, zero, suc, ◌+◌, List, [], ◌∷◌, length, set, get_or, Option, Some, None, is_some, count_by, cond, refl, sym, ap, subst, ◌∙◌, inl, inr, arith}
use Rattle.std.proofs.lemmas.Bool.{cases_eq}
use Rattle.std.proofs.lemmas.List.Sums.{sum_by-cons}
use Rattle.slab.specs.Slab.{Slab, get, slab_len, with_value, Updates}
use Rattle.slab.proofs.SlabLemmas.{Updates-with_value}
use Rattle.blk_handles.specs.declared.open_object.OpenObject.{OpenObject}
use Rattle.blk_handles.specs.declared.key_map.RecordKey.{RecordKey}
use Rattle.blk_handles.specs.KeyMap.{key_for, SetsOnly}
use Rattle.blk_handles.proofs.Basics.{some-inj, none-is-some}
use Rattle.blk_handles.specs.Objects.{IsObjectOf, IsClosed, AreDistinct, IsIndexOf}

-- a value written over a value leaves as many
pub count-over : {T : Type 0} (slots : List (Option T)) (key : ℕ) (old new : T) → get_or slots key None ≡ Some old → count_by is_some (set slots key (Some new)) ≡ count_by is_some slots
count-over [] key old new there = refl
count-over (slot ∷ rest) zero old new there = rw there refl
count-over (slot ∷ rest) (suc key) old new there = omega (arith, count-over rest key old new there, sum_by-cons (λ o. cond (is_some o) 1 0) slot rest, sum_by-cons (λ o. cond (is_some o) 1 0) slot (set rest key (Some new)))

module _ (keys : List RecordKey) (s : Slab OpenObject) (index : IsIndexOf keys s) where
  -- no two objects have one record
  pub distinct : AreDistinct s
  distinct j k a b at-j at-k same = some-inj (sym (index.found j a at-j) ∙ ap (key_for keys) same ∙ index.found k b at-k)

  -- a record that the map doesn't have is that of no object
  pub closed : (entry : ℕ) → key_for keys entry ≡ None → IsClosed s entry
  closed entry absent key object here same = none-is-some (key_for keys entry) absent (subst (λ e. key_for keys e ≡ Some key) same (index.found key object here))

  -- a record that is that of no object isn't in the map
  pub absent : (entry : ℕ) → IsClosed s entry → key_for keys entry ≡ None
  absent entry none = by (key_for keys entry) refl where
    by : (o : Option ℕ) → key_for keys entry ≡ o → o ≡ None
    by None e = refl
    by (Some key) e = let at = index.stored entry key e in absurd (none key at.object at.here at.has_entry)

  -- the map stays where an object is put in the place of the one with its record
  pub index-set : (t : Slab OpenObject) (k : ℕ) (o : OpenObject) → IsObjectOf s o.entry k → Updates s t k (Some o) → slab_len t ≡ slab_len s → IsIndexOf keys t
  index-set t k o at updates len = record {
    stored = λ entry key is. elim (cases_eq key k) [
      | inl same ↦ record { object = o; here = rw same updates.changed; has_entry = sym at.has_entry ∙ same-object entry key (index.stored entry key is) same }
      | inr other ↦ let was = index.stored entry key is in record { object = was.object; here = updates.others key other ∙ was.here; has_entry = was.has_entry }
    ];
    found = λ key object here. elim (cases_eq key k) [
      | inl same ↦
          let is-o : o ≡ object = some-inj (sym updates.changed ∙ ap (get t) (sym same) ∙ here) in
          rw (sym is-o, same, ← at.has_entry) (index.found k at.object at.here)
      | inr other ↦ index.found key object (sym (updates.others key other) ∙ here)
    ];
    count = index.count ∙ sym len;
  } where
    same-object : (entry key : ℕ) (was : IsObjectOf s entry key) → key ≡ k → at.object.entry ≡ entry
    same-object entry key was same = ap (λ (x : OpenObject). x.entry) (some-inj (sym at.here ∙ ap (get s) (sym same) ∙ was.here)) ∙ was.has_entry

  -- a new object under a key that was vacant
  pub index-insert : (later : List RecordKey) (t : Slab OpenObject) (k : ℕ) (o : OpenObject) → IsClosed s o.entry → get s k ≡ None → Updates s t k (Some o) → SetsOnly keys later o.entry (Some k) → length later ≡ length keys + 1 → slab_len t ≡ slab_len s + 1 → IsIndexOf later t
  index-insert later t k o closed vacant updates sets more len = record {
    stored = λ entry key is. elim (cases_eq entry o.entry) [
      | inl same ↦
          let is-k : k ≡ key = some-inj (sym sets.this_entry ∙ ap (key_for later) (sym same) ∙ is) in
          record { object = o; here = subst (λ x. get t x ≡ Some o) is-k updates.changed; has_entry = sym same }
      | inr other ↦
          let was = index.stored entry key (sym (sets.other_entries entry other) ∙ is) in
          let apart : key ≢ k = λ same. none-is-some (get s k) vacant (ap (get s) (sym same) ∙ was.here) in
          record { object = was.object; here = updates.others key apart ∙ was.here; has_entry = was.has_entry }
    ];
    found = λ key object here. elim (cases_eq key k) [
      | inl same ↦
          let is-o : o ≡ object = some-inj (sym updates.changed ∙ ap (get t) (sym same) ∙ here) in
          rw (← is-o, same) sets.this_entry
      | inr other ↦
          let was = sym (updates.others key other) ∙ here in
          sets.other_entries object.entry (closed key object was) ∙ index.found key object was
    ];
    count = omega (arith, index.count, more, len);
  }

  -- an object that is taken out
  pub index-remove : (later : List RecordKey) (t : Slab OpenObject) (k : ℕ) (o : OpenObject) → get s k ≡ Some o → Updates s t k None → SetsOnly keys later o.entry None → length later + 1 ≡ length keys → slab_len t + 1 ≡ slab_len s → IsIndexOf later t
  index-remove later t k o was-here updates sets less len = record {
    stored = λ entry key is. elim (cases_eq entry o.entry) [
      | inl same ↦ absurd (none-is-some (key_for later entry) (ap (key_for later) same ∙ sets.this_entry) is)
      | inr other ↦
          let was = index.stored entry key (sym (sets.other_entries entry other) ∙ is) in
          let apart : key ≢ k = λ same. other (sym was.has_entry ∙ ap (λ (x : OpenObject). x.entry) (some-inj (sym was.here ∙ ap (get s) same ∙ was-here))) in
          record { object = was.object; here = updates.others key apart ∙ was.here; has_entry = was.has_entry }
    ];
    found = λ key object here. elim (cases_eq key k) [
      | inl same ↦ absurd (none-is-some (get t k) updates.changed (ap (get t) (sym same) ∙ here))
      | inr other ↦
          let was = sym (updates.others key other) ∙ here in
          let apart : object.entry ≢ o.entry = λ same. other (distinct key k object o was was-here same) in
          sets.other_entries object.entry apart ∙ index.found key object was
    ];
    count = omega (arith, index.count, less, len);
  }

-- the map stays where an object is written over the one with its record
pub index-written : (keys : List RecordKey) (s : Slab OpenObject) → IsIndexOf keys s → (k : ℕ) (o : OpenObject) → IsObjectOf s o.entry k → IsIndexOf keys (with_value s k o)
index-written keys s index k o at =
    index-set keys s index (with_value s k o) k o at (Updates-with_value s k o (rw at.here refl)) (count-over s.slots k at.object o at.here)
