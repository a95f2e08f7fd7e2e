-- The places of hashes in a list to which one is added.
use Rattle.std.proofs.Common.{◌≡◌, ◌≢◌, ◌+◌, ◌<◌, ◌≤◌, ℕ, zero, suc, true, false, cond, List, [], ◌∷◌, ◌++◌, length, length-append, Option, None, Some, refl, sym, ◌∙◌, ap, subst, arith, ⊎_elim}
use Rattle.std.specs.Prelude.{◌==◌, slice_get, slice_index}
use Rattle.std.specs.BTreeMap.{get, is_at}
use Rattle.std.specs.Ordering.{nat_cmp}
use Rattle.std.proofs.lemmas.Bool.{cases_Bool, eqb-true, eq-eqb}
use Rattle.std.proofs.lemmas.List.{get_or_append_left, get_or_push}
use Rattle.std.proofs.lemmas.Option.{slice_get_within}
use Rattle.blk_addr.proofs.ClaimLemmas.{is_at-nat_cmp}
use Rattle.blk_verdict.specs.ByHash.{IsByHash, IsLastWithHash}
use Rattle.blk_verdict.specs.declared.by_hash.ByHash.{ByHash}

-- an element before the end of a list is that of the longer one
slice_before : {A : Type 0} (xs : List A) (y : A) (i : ℕ) → i < length xs → slice_get (xs ++ y ∷ []) i ≡ slice_get xs i
slice_before [] y i less = absurd (omega (arith, less))
slice_before (x ∷ xs) y zero less = refl
slice_before (x ∷ xs) y (suc i) less = slice_before xs y i (omega (arith, less))

slice_last : {A : Type 0} (xs : List A) (y : A) (i : ℕ) → i ≡ length xs → slice_get (xs ++ y ∷ []) i ≡ Some y
slice_last [] y i e = ap (slice_get (y ∷ [])) e
slice_last (x ∷ xs) y zero e = absurd (omega (arith, e))
slice_last (x ∷ xs) y (suc i) e = slice_last xs y i (omega (arith, e))

module _ (hashes : List ℕ) (h : ℕ) where
  longer : length (hashes ++ h ∷ []) ≡ length hashes + 1
  longer = length-append hashes (h ∷ [])

  same : (i : ℕ) → i < length hashes → slice_index (hashes ++ h ∷ []) i ≡ slice_index hashes i
  same i less = get_or_append_left hashes (h ∷ []) 0 i less

  -- the last place before an end stays
  last_stays : (hash end : ℕ) (o : Option ℕ) → end ≤ length hashes → IsLastWithHash hashes hash end o → IsLastWithHash (hashes ++ h ∷ []) hash end o
  last_stays hash end None inside is = λ i less at. is i less (sym (same i (omega (arith, less, inside))) ∙ at)
  last_stays hash end (Some place) inside is =
      let before = is.inside in
      record {
        inside = is.inside;
        is = same place (omega (arith, before, inside)) ∙ is.is;
        behind = λ i more less at. is.behind i more less (sym (same i (omega (arith, less, inside))) ∙ at);
      }

  -- and is the last one of the longer list, where the hash is another
  last_other : (hash : ℕ) (o : Option ℕ) → h ≢ hash → IsLastWithHash hashes hash (length hashes) o → IsLastWithHash (hashes ++ h ∷ []) hash (length hashes + 1) o
  last_other hash None other is = λ i less at. by_place i less at
    where
      by_place : (i : ℕ) → i < length hashes + 1 → slice_index (hashes ++ h ∷ []) i ≡ hash → ⊥
      by_place i less at = ⊎_elim
          (λ (e : (i == length hashes) ≡ true). other (sym (get_or_push hashes h 0 i (sym (eqb-true _ _ e))) ∙ at))
          (λ (e : (i == length hashes) ≡ false). let apart : i ≢ length hashes = λ s. clash (sym (eq-eqb _ _ s) ∙ e) in let inside : i < length hashes = omega (arith, less, apart) in is i inside (sym (same i inside) ∙ at))
          (cases_Bool (i == length hashes))
        where
          clash : true ≡ false → ⊥
          clash c = cc
  last_other hash (Some place) other is =
      let before = is.inside in
      record {
        inside = omega (arith, before);
        is = same place before ∙ is.is;
        behind = by_place;
      }
    where
      by_place : (i : ℕ) → place < i → i < length hashes + 1 → slice_index (hashes ++ h ∷ []) i ≡ hash → ⊥
      by_place i more less at = ⊎_elim
          (λ (e : (i == length hashes) ≡ true). other (sym (get_or_push hashes h 0 i (sym (eqb-true _ _ e))) ∙ at))
          (λ (e : (i == length hashes) ≡ false). let apart : i ≢ length hashes = λ s. clash (sym (eq-eqb _ _ s) ∙ e) in let inside : i < length hashes = omega (arith, less, apart) in is.behind i more inside (sym (same i inside) ∙ at))
          (cases_Bool (i == length hashes))
        where
          clash : true ≡ false → ⊥
          clash c = cc

  -- the added place is the last one of its hash
  last_added : IsLastWithHash (hashes ++ h ∷ []) h (length hashes + 1) (Some (length hashes))
  last_added = record {
    inside = omega arith;
    is = get_or_push hashes h 0 (length hashes) refl;
    behind = λ i more less at. absurd (omega (arith, more, less));
  }

-- no list
pub places_none : (places : ByHash) → places.befores.items ≡ [] → ((hash : ℕ) → get nat_cmp places.lasts hash ≡ None) → IsByHash places []
places_none places befores lasts = record {
  many = ap length befores;
  last = λ hash. subst (IsLastWithHash [] hash 0) (sym (lasts hash)) (λ i less at. absurd (omega (arith, less)));
  before = λ i before e. absurd (clash before (sym (ap (λ (l : List (Option ℕ)). slice_get l i) befores) ∙ e));
}
  where
    clash : (before : Option ℕ) → None ≡ Some before → ⊥
    clash before c = cc

-- a hash more
pub places_more : (old new : ByHash) (hashes : List ℕ) (h place : ℕ) (before : Option ℕ) → IsByHash old hashes → place ≡ length hashes → IsLastWithHash hashes h (length hashes) before → new.befores.items ≡ old.befores.items ++ before ∷ []
    → ((hash : ℕ) → get nat_cmp new.lasts hash ≡ cond (is_at (nat_cmp h) hash) (Some place) (get nat_cmp old.lasts hash)) → IsByHash new (hashes ++ h ∷ [])
places_more old new hashes h place before is at last befores lasts = record {
  many = ap length befores ∙ (let sum = length-append old.befores.items (before ∷ []) in let many = is.many in let e : length (old.befores.items ++ before ∷ []) ≡ length hashes + 1 = omega (arith, sum, many) in e) ∙ sym (longer hashes h);
  last = λ hash. subst (λ (end : ℕ). IsLastWithHash (hashes ++ h ∷ []) hash end (get nat_cmp new.lasts hash)) (sym (longer hashes h)) (subst (IsLastWithHash (hashes ++ h ∷ []) hash (length hashes + 1)) (sym (lasts hash)) (by_hash hash));
  before = λ i o e. by_place i o (sym (ap (λ (l : List (Option ℕ)). slice_get l i) befores) ∙ e);
}
  where
    by_hash : (hash : ℕ) → IsLastWithHash (hashes ++ h ∷ []) hash (length hashes + 1) (cond (is_at (nat_cmp h) hash) (Some place) (get nat_cmp old.lasts hash))
    by_hash hash = ⊎_elim
        (λ (e : (hash == h) ≡ true).
        let t : is_at (nat_cmp h) hash ≡ true = is_at-nat_cmp h hash ∙ e in
        rw t (subst (λ (x : ℕ). IsLastWithHash (hashes ++ h ∷ []) x (length hashes + 1) (Some place)) (sym (eqb-true _ _ e)) (subst (λ (p : ℕ). IsLastWithHash (hashes ++ h ∷ []) h (length hashes + 1) (Some p)) (sym at) (last_added hashes h))))
        (λ (e : (hash == h) ≡ false).
        let t : is_at (nat_cmp h) hash ≡ false = is_at-nat_cmp h hash ∙ e in
        rw t (last_other hashes h hash (get nat_cmp old.lasts hash) (λ s. clash (sym (eq-eqb _ _ (sym s)) ∙ e)) (is.last hash)))
        (cases_Bool (hash == h))
      where
        clash : true ≡ false → ⊥
        clash c = cc

    by_place : (i : ℕ) (o : Option ℕ) → slice_get (old.befores.items ++ before ∷ []) i ≡ Some o → IsLastWithHash (hashes ++ h ∷ []) (slice_index (hashes ++ h ∷ []) i) i o
    by_place i o e = ⊎_elim
        (λ (s : (i == length hashes) ≡ true).
        let many = is.many in
        let end : i ≡ length hashes = eqb-true _ _ s in
        let same_before : before ≡ o = some_same (sym (slice_last old.befores.items before i (end ∙ sym many)) ∙ e) in
        let h_is : h ≡ slice_index (hashes ++ h ∷ []) i = sym (get_or_push hashes h 0 i (sym end)) in
        subst (λ (x : ℕ). IsLastWithHash (hashes ++ h ∷ []) x i o) h_is
        (subst (IsLastWithHash (hashes ++ h ∷ []) h i) same_before (last_stays hashes h h i before (omega (arith, end)) (subst (λ (n : ℕ). IsLastWithHash hashes h n before) (sym end) last))))
        (λ (s : (i == length hashes) ≡ false).
        let many = is.many in
        let apart : i ≢ length hashes = λ q. clash (sym (eq-eqb _ _ q) ∙ s) in
        let sum = length-append old.befores.items (before ∷ []) in
        let within = slice_get_within (old.befores.items ++ before ∷ []) i o e in
        let inside : i < length hashes = omega (arith, many, sum, within, apart) in
        let inside_old : i < length old.befores.items = omega (arith, many, inside) in
        subst (λ (x : ℕ). IsLastWithHash (hashes ++ h ∷ []) x i o) (sym (same hashes h i inside))
        (last_stays hashes h (slice_index hashes i) i o (omega (arith, inside)) (is.before i o (sym (slice_before old.befores.items before i inside_old) ∙ e))))
        (cases_Bool (i == length hashes))
      where
        some_same : {a b : Option ℕ} → Some a ≡ Some b → a ≡ b
        some_same q = cc

        clash : true ≡ false → ⊥
        clash c = cc
