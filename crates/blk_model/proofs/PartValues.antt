-- A write keeps what is said of a part's value.
use Rattle.std.proofs.Common.{◌≡◌, ℕ, zero, suc, ◌+◌, ◌*◌, ◌/◌, ◌%◌, max, ◌<◌, ◌≤◌, Bool, true, false, not, ◌&&◌, cond, List, [], ◌∷◌, Some, None, IfSome, IsTrue, refl, ap, ◌∙◌, subst, arith, get_or, length, replicate, length-append, length-take, length-drop, ◌⊎◌, inl, inr}
use Rattle.std.proofs.lemmas.List.{length-replicate}
use Rattle.std.specs.Option.{option_and_then}
use Rattle.std.specs.Bool.{nat_lt, nat_le, ◌==◌}
use Rattle.std.proofs.lemmas.Bool.{and_parts, or_cases, ltb-true, not-true, eqb-true}
use Rattle.blk_model.specs.Bytes.{overwritten}
use Rattle.blk_model.specs.Items.{Presence, PartValue, IsPartValue, IsPartial, IsBytes}
use Rattle.blk_model.specs.Sparse.{piece_in, first_whole, with_blocks, partial_after, presence_after, part_after, empty_part}
use Rattle.blk_model.proofs.ByteLists.{no_bytes_are, overwritten_are}
use Rattle.blk_model.proofs.Doomed.{contrary}
use Rattle.blk_model.specs.Sizes.{part_block_size, part_blocks, part_size}

-- the length is the greater of the old one and where the write ends
pub length-overwritten : (old : List ℕ) (place : ℕ) (new : List ℕ) → length (overwritten old place new) ≡ max (length old) (place + length new)
length-overwritten old place new = simp (length-append, length-take, length-drop, length-replicate) (omega arith)

pub length-with_blocks : (first last number : ℕ) (blocks : List Bool) → length (with_blocks first last number blocks) ≡ length blocks
length-with_blocks first last number [] = refl
length-with_blocks first last number (was ∷ blocks) = ap suc (length-with_blocks first last (number + 1) blocks)

-- a block that is present after was present or is one of those that the write makes present
pub present_after : (first last number : ℕ) (blocks : List Bool) (block : ℕ) → get_or (with_blocks first last number blocks) block false ≡ true → (get_or blocks block false ≡ true) ⊎ (number + block < last)
present_after first last number [] block is = inl is
present_after first last number (was ∷ blocks) zero is =
    let cases : (was ≡ true) ⊎ ((nat_le first number && nat_lt number last) ≡ true) = or_cases _ _ is in
    elim cases [ inl before ↦ inl before | inr now ↦ inr (let below = ltb-true number last (and_parts (nat_le first number) _ now).1 in omega arith) ]
present_after first last number (was ∷ blocks) (suc block) is =
    let later = present_after first last (number + 1) blocks block is in
    elim later [ inl before ↦ inl before | inr now ↦ inr (omega arith) ]

-- what holds of the partial block after a write
pub partial_after_holds : (P : ℕ × ℕ → Type 0) (presence : Presence) (blocks : List Bool) (first end : ℕ) →
    (nat_lt 0 (end % part_block_size) && nat_le first (end / part_block_size) && not (get_or blocks (end / part_block_size) false) ≡ true → P (end / part_block_size, max (end % part_block_size) (piece_in presence.partial (end / part_block_size)))) →
    ((p : ℕ × ℕ) → presence.partial ≡ Some p → get_or blocks p.0 false ≡ false → P p) → IfSome (partial_after presence blocks first end) P
unfolding partial_after
partial_after_holds P presence blocks first end new old =
    elim (nat_lt 0 (end % part_block_size) && nat_le first (end / part_block_size) && not (get_or blocks (end / part_block_size) false)) as (λ t. nat_lt 0 (end % part_block_size) && nat_le first (end / part_block_size) && not (get_or blocks (end / part_block_size) false) ≡ t →
    IfSome (cond t (Some (end / part_block_size, max (end % part_block_size) (piece_in presence.partial (end / part_block_size)))) (option_and_then (λ p. cond (get_or blocks p.0 false) None (Some p)) presence.partial)) P) [
      | true ↦ λ is. new is
      | false ↦ λ is. elim (presence.partial) as (λ o. presence.partial ≡ o → IfSome (option_and_then (λ p. cond (get_or blocks p.0 false) None (Some p)) o) P) [
        | None ↦ λ e. tt
        | Some p ↦ λ e. elim (get_or blocks p.0 false) as (λ b. get_or blocks p.0 false ≡ b → IfSome (cond b None (Some p)) P) [ true ↦ λ gone. tt | false ↦ λ stays. old p e stays ] refl
      ] refl
    ] refl

-- a piece is shorter than a block, and lies inside the data if there is one
pub piece_is : (presence : Presence) (block size : ℕ) → IfSome presence.partial (λ p. IsPartial presence p.0 p.1) → IfSome presence.partial (λ p. p.0 * part_block_size + p.1 ≤ size) →
    (piece_in presence.partial block < part_block_size) × ((piece_in presence.partial block ≡ 0) ⊎ (block * part_block_size + piece_in presence.partial block ≤ size))
piece_is presence block size small inside =
    elim (presence.partial) as (λ o. IfSome o (λ p. IsPartial presence p.0 p.1) → IfSome o (λ p. p.0 * part_block_size + p.1 ≤ size) → (piece_in o block < part_block_size) × ((piece_in o block ≡ 0) ⊎ (block * part_block_size + piece_in o block ≤ size))) [
      | None ↦ λ small inside. (omega arith, inl refl)
      | Some p ↦ λ small inside. elim (p.0 == block) as (λ b. p.0 == block ≡ b → (cond b p.1 0 < part_block_size) × ((cond b p.1 0 ≡ 0) ⊎ (block * part_block_size + cond b p.1 0 ≤ size))) [
        | true ↦ λ same. (small.not_whole, inr (let is = eqb-true p.0 block same in omega (arith, inside)))
        | false ↦ λ other. (omega arith, inl refl)
      ] refl
    ] small inside

-- a write inside a part leaves a value that a part may have
pub part_after_is : (value : PartValue) (place : ℕ) (bytes : List ℕ) → IsBytes bytes → IsPartValue value → place + length bytes ≤ part_size → IsPartValue (part_after value place bytes)
unfolding part_after presence_after
part_after_is value place bytes is_bytes valid room =
    let end = place + length bytes in
    let first = first_whole value.presence place in
    let blocks = with_blocks first (end / part_block_size) 0 value.presence.blocks in
    let size = length-overwritten value.bytes place bytes in
    let fits = valid.fits in
    let piece = piece_is value.presence (end / part_block_size) (length value.bytes) valid.partial valid.inside.piece in
    let small : piece_in value.presence.partial (end / part_block_size) < part_block_size = piece.0 in
    let lies : (piece_in value.presence.partial (end / part_block_size) ≡ 0) ⊎ ((end / part_block_size) * part_block_size + piece_in value.presence.partial (end / part_block_size) ≤ length value.bytes) = piece.1 in
    let whole : (block : ℕ) → IsTrue (get_or blocks block false) → (block + 1) * part_block_size ≤ length (overwritten value.bytes place bytes) = λ block is.
    let cases : (get_or value.presence.blocks block false ≡ true) ⊎ (0 + block < end / part_block_size) = present_after first (end / part_block_size) 0 value.presence.blocks block is in
    elim cases [ inl before ↦ (let was = valid.inside.whole block before in omega arith) | inr now ↦ omega arith ] in
    let after : Presence = presence_after value.presence place end in
    record {
      bytes = overwritten_are value.bytes place bytes valid.bytes is_bytes;
      fits = omega arith;
      blocks = length-with_blocks first (end / part_block_size) 0 value.presence.blocks ∙ valid.blocks;
      partial = partial_after_holds (λ p. IsPartial after p.0 p.1) value.presence blocks first end
          (λ is. let some = ltb-true 0 (end % part_block_size) (and_parts _ _ (and_parts _ _ is).0).0 in
          record { below = omega arith; apart = not-true _ (and_parts _ _ is).1; some = omega arith; not_whole = omega arith })
          (λ p e stays. let was : IsPartial value.presence p.0 p.1 = subst (λ o. IfSome o (λ q. IsPartial value.presence q.0 q.1)) e valid.partial in
          record { below = was.below; apart = stays; some = was.some; not_whole = was.not_whole });
      inside = record {
        whole = whole;
        piece = partial_after_holds (λ p. p.0 * part_block_size + p.1 ≤ length (overwritten value.bytes place bytes)) value.presence blocks first end
            (λ is. elim lies [ inl none ↦ omega arith | inr some ↦ omega arith ])
            (λ p e stays. let was : p.0 * part_block_size + p.1 ≤ length value.bytes = subst (λ o. IfSome o (λ q. q.0 * part_block_size + q.1 ≤ length value.bytes)) e valid.inside.piece in omega arith);
      };
    }

absent_everywhere : (n block : ℕ) → get_or (replicate n false) block false ≡ false
absent_everywhere zero block = refl
absent_everywhere (suc n) zero = refl
absent_everywhere (suc n) (suc block) = absent_everywhere n block

-- a part with no data
pub empty_part_is : IsPartValue empty_part
empty_part_is = record {
  bytes = no_bytes_are;
  fits = omega arith;
  blocks = length-replicate part_blocks false;
  partial = tt;
  inside = record {
    whole = λ block is. absurd (contrary (absent_everywhere part_blocks block) is);
    piece = tt;
  };
}
