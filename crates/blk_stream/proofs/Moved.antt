-- A stream that gets a new place, which is filled: what its record, its data and the other streams are then.
use Rattle.std.proofs.Common.{◌≡◌, ◌≢◌, ⊎_elim, ℕ, zero, suc, ◌<◌, Bool, true, false, ◌||◌, [], ◌∷◌, refl, sym, ◌∙◌, ap, subst, arith}
use Rattle.std.specs.Prelude.{◌==◌}
use Rattle.std.proofs.lemmas.Bool.{and_parts, cases_Bool, cases_eq, eqb-true}
use Rattle.std.proofs.lemmas.Bool.Decides.{nat_tests}
use Rattle.spec_image.specs.Image.{Image}
use Rattle.spec_format.specs.Address.{block_count, blocks_256, is_address, external, kind_of}
use Rattle.spec_format.specs.BlockFiles.{is_among}
use Rattle.spec_format.specs.Claims.{claims_of, claims_of_all, repeats}
use Rattle.spec_format.specs.Storage.{blocks_for, is_storage, kind_for}
use Rattle.blk_disk.specs.declared.tables.BlockFiles.{BlockFiles}
use Rattle.blk_disk.specs.Tables.{stands_among}
use Rattle.blk_entry.specs.Keys.{stores}
use Rattle.blk_entry.specs.Writing.{ShareNoBlock}
use Rattle.blk_entry.proofs.KeyPlaces.{storage_parts}
use Rattle.blk_entry.proofs.Windows.{not_external}
use Rattle.blk_alloc.proofs.Lists.{once_parts, or_left, or_right}
use Rattle.blk_stream.specs.Streams.{address_word, may_keep}
use Rattle.blk_stream.specs.Copying.{ShareNoData}
use Rattle.blk_stream.specs.Writing.{have_one_storage}
use Rattle.blk_stream.specs.Written.{places_of_entry}
use Rattle.blk_stream.proofs.Apart.{blocks_back, own, owners_apart}
use Rattle.blk_stream.proofs.PlacesFreed.{blocky_of}
use Rattle.blk_stream.proofs.Placements.{kind_of_none}
use Rattle.blk_stream.proofs.StreamPlaces.{may_parts, none_word, stored_some}

-- The record and its streams, each with a place of its own.

pub entry_among : (entry : ℕ) (image : Image) → is_among (places_of_entry entry image) entry ≡ true
entry_among entry image = or_left (entry == entry) _ (own entry)

pub stream_among : (entry j : ℕ) (image : Image) → j < 3 → is_among (places_of_entry entry image) (address_word image entry j) ≡ true
stream_among entry zero image small = or_right (entry == address_word image entry 0) _ (or_left (address_word image entry 0 == address_word image entry 0) _ (own (address_word image entry 0)))
stream_among entry (suc zero) image small = or_right (entry == address_word image entry 1) _ (or_right (address_word image entry 0 == address_word image entry 1) _ (or_left (address_word image entry 1 == address_word image entry 1) _ (own (address_word image entry 1))))
stream_among entry (suc (suc zero)) image small = or_right (entry == address_word image entry 2) _ (or_right (address_word image entry 0 == address_word image entry 2) _ (or_right (address_word image entry 1 == address_word image entry 2) _ (or_left (address_word image entry 2 == address_word image entry 2) false (own (address_word image entry 2)))))
stream_among entry (suc (suc (suc j))) image small = absurd (let h : suc (suc (suc j)) < 3 = small in omega (arith, h))

entry_some : (entry : ℕ) → kind_of entry ≡ blocks_256 → entry ≢ 0
unfolding kind_of
entry_some entry kind none = let z : 0 ≡ blocks_256 = sym (ap (λ (n : ℕ). kind_of n) none) ∙ kind in omega (arith, z)

share_back : (u w : ℕ) → ShareNoData u w → ShareNoData w u
share_back u w apart = record {
  files = λ kind_w kind_u same. apart.files kind_u kind_w (sym same);
  blocks = λ blocky_w blocky_u. blocks_back u w (apart.blocks blocky_u blocky_w);
}

module _ (entry : ℕ) (image : Image) (once : repeats (claims_of_all (places_of_entry entry image)) ≡ false) where
  abbrev A : ℕ → ℕ
  A j = address_word image entry j

  tail_0 : repeats (claims_of_all (A 0 ∷ A 1 ∷ A 2 ∷ [])) ≡ false
  tail_0 = (once_parts (claims_of entry) (claims_of_all (A 0 ∷ A 1 ∷ A 2 ∷ [])) once).0

  tail_1 : repeats (claims_of_all (A 1 ∷ A 2 ∷ [])) ≡ false
  tail_1 = (once_parts (claims_of (A 0)) (claims_of_all (A 1 ∷ A 2 ∷ [])) tail_0).0

  first_two : A 0 ≢ 0 → A 1 ≢ 0 → ShareNoData (A 0) (A 1)
  first_two some other = owners_apart (A 0) (A 1 ∷ A 2 ∷ []) (A 1) tail_0 (or_left (A 1 == A 1) _ (own (A 1))) some other

  outer_two : A 0 ≢ 0 → A 2 ≢ 0 → ShareNoData (A 0) (A 2)
  outer_two some other = owners_apart (A 0) (A 1 ∷ A 2 ∷ []) (A 2) tail_0 (or_right (A 1 == A 2) _ (or_left (A 2 == A 2) false (own (A 2)))) some other

  last_two : A 1 ≢ 0 → A 2 ≢ 0 → ShareNoData (A 1) (A 2)
  last_two some other = owners_apart (A 1) (A 2 ∷ []) (A 2) tail_1 (or_left (A 2 == A 2) false (own (A 2))) some other

  -- two streams share no data
  pub streams_apart : (i j : ℕ) → i < 3 → j < 3 → i ≢ j → A i ≢ 0 → A j ≢ 0 → ShareNoData (A i) (A j)
  streams_apart zero zero a b differ some other = absurd (differ refl)
  streams_apart zero (suc zero) a b differ some other = first_two some other
  streams_apart zero (suc (suc zero)) a b differ some other = outer_two some other
  streams_apart (suc zero) zero a b differ some other = share_back (A 0) (A 1) (first_two other some)
  streams_apart (suc zero) (suc zero) a b differ some other = absurd (differ refl)
  streams_apart (suc zero) (suc (suc zero)) a b differ some other = last_two some other
  streams_apart (suc (suc zero)) zero a b differ some other = share_back (A 0) (A 2) (outer_two other some)
  streams_apart (suc (suc zero)) (suc zero) a b differ some other = share_back (A 1) (A 2) (last_two other some)
  streams_apart (suc (suc zero)) (suc (suc zero)) a b differ some other = absurd (differ refl)
  streams_apart (suc (suc (suc i))) j a b differ some other = absurd (let h : suc (suc (suc i)) < 3 = a in omega (arith, h))
  streams_apart i (suc (suc (suc j))) a b differ some other = absurd (let h : suc (suc (suc j)) < 3 = b in omega (arith, h))

  -- no stream shares a block with the record
  pub record_apart : (j : ℕ) → j < 3 → kind_of entry ≡ blocks_256 → kind_of (A j) ≢ external → ShareNoBlock entry (A j)
  record_apart j small kind blocky =
      (owners_apart entry (A 0 ∷ A 1 ∷ A 2 ∷ []) (A j) once (in_tail (entry == A j) refl (stream_among entry j image small)) (entry_some entry kind) (blocky_some (A j) blocky)).blocks (not_external entry kind) blocky
    where
      blocky_some : (v : ℕ) → kind_of v ≢ external → v ≢ 0
      blocky_some v blocky none = blocky (subst (λ (n : ℕ). kind_of n ≡ external) (sym none) kind_of_none)

      in_three : (j : ℕ) → j < 3 → is_among (A 0 ∷ A 1 ∷ A 2 ∷ []) (A j) ≡ true
      in_three zero small = or_left (A 0 == A 0) _ (own (A 0))
      in_three (suc zero) small = or_right (A 0 == A 1) _ (or_left (A 1 == A 1) _ (own (A 1)))
      in_three (suc (suc zero)) small = or_right (A 0 == A 2) _ (or_right (A 1 == A 2) _ (or_left (A 2 == A 2) false (own (A 2))))
      in_three (suc (suc (suc j))) small = absurd (let h : suc (suc (suc j)) < 3 = small in omega (arith, h))

      in_tail : (t : Bool) → (entry == A j) ≡ t → (t || is_among (A 0 ∷ A 1 ∷ A 2 ∷ []) (A j)) ≡ true → is_among (A 0 ∷ A 1 ∷ A 2 ∷ []) (A j) ≡ true
      in_tail false e h = h
      in_tail true e h = in_three j small

-- Two sizes with another storage have other words.

no_blocks : (size : ℕ) → kind_for size ≡ external → blocks_for size ≡ 0
unfolding blocks_for
no_blocks size kind = let t : (kind_for size == external) ≡ true = grind (arith, nat_tests) in rw t refl

one_storage : (one other : ℕ) → one ≢ 0 → other ≢ 0 → kind_for one ≡ kind_for other → blocks_for one ≡ blocks_for other → have_one_storage one other ≡ true
unfolding have_one_storage
one_storage one other some more kinds blocks =
    let a : (one == 0) ≡ false = grind (arith, nat_tests) in
    let b : (other == 0) ≡ false = grind (arith, nat_tests) in
    let c : (kind_for one == kind_for other) ≡ true = grind (arith, nat_tests) in
    let d : (blocks_for one == blocks_for other) ≡ true = grind (arith, nat_tests) in
    rw (a, b, c, d) refl

no_storage : have_one_storage 0 0 ≡ true
unfolding have_one_storage
no_storage = refl

pub parts_of : (files : BlockFiles) (size w : ℕ) → size ≢ 0 → may_keep files size w ≡ true → (is_address w ≡ true) × (kind_of w ≡ kind_for size) × (kind_of w ≢ external → block_count w ≡ blocks_for size)
unfolding stores
parts_of files size w some keep = storage_parts size w (omega (arith, some)) (and_parts (is_storage size w) ((kind_of w == external) || stands_among files w) (may_parts files size w keep).1).0

same_storage : (files kept : BlockFiles) (old size w : ℕ) → may_keep files old w ≡ true → may_keep kept size w ≡ true → have_one_storage old size ≡ true
same_storage files kept old size w keep fits =
    ⊎_elim
    (λ (none : old ≡ 0).
    let w_none : w ≡ 0 = none_word files w (subst (λ (n : ℕ). may_keep files n w ≡ true) none keep) in
    ⊎_elim
    (λ (less : size ≡ 0). subst (λ (n : ℕ). have_one_storage old n ≡ true) (sym less) (subst (λ (n : ℕ). have_one_storage n 0 ≡ true) (sym none) no_storage))
    (λ (more : size ≢ 0). absurd (stored_some kept size w (omega (arith, more)) (may_parts kept size w fits).1 w_none))
    (cases_eq size 0))
    (λ (some : old ≢ 0).
    ⊎_elim
    (λ (less : size ≡ 0). absurd (stored_some files old w (omega (arith, some)) (may_parts files old w keep).1 (none_word kept w (subst (λ (n : ℕ). may_keep kept n w ≡ true) less fits))))
    (λ (more : size ≢ 0).
    let p = parts_of files old w some keep in
    let q = parts_of kept size w more fits in
    one_storage old size some more (sym p.1 ∙ q.1)
    (⊎_elim
    (λ (t : (kind_of w == external) ≡ true). let k = eqb-true (kind_of w) external t in no_blocks old (sym p.1 ∙ k) ∙ sym (no_blocks size (sym q.1 ∙ k)))
    (λ (t : (kind_of w == external) ≡ false). sym (p.2 (blocky_of w t)) ∙ q.2 (blocky_of w t))
    (cases_Bool (kind_of w == external))))
    (cases_eq size 0))
    (cases_eq old 0)

pub other_words_of : (files kept : BlockFiles) (old size u w : ℕ) → may_keep files old u ≡ true → may_keep kept size w ≡ true → have_one_storage old size ≡ false → u ≢ w
other_words_of files kept old size u w keep fits other same = clash (sym other ∙ same_storage files kept old size w (subst (λ (v : ℕ). may_keep files old v ≡ true) same keep) fits)
  where
    clash : false ≡ true → ⊥
    clash e = cc
