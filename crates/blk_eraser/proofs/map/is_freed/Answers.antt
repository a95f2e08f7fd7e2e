use Rattle.std.proofs.Common.{◌≡◌, ℕ, ◌+◌, ◌-◌, ◌/◌, ◌<◌, ◌≤◌, inl, inr, Bool, true, false, not, ◌&&◌, List, length, sym, ◌∙◌, ap, arith}
use Rattle.spec_image.specs.Bytes.{content}
use Rattle.blk_eraser.specs.Erasing.{frees}
use Rattle.blk_eraser.proofs.MapWrites.{frees_none, frees_some, is_one}
use Rattle.blk_eraser.proofs.map.is_freed.Goals as goal
use Rattle.blk_eraser.proofs.map.is_freed.Goals.{then-place-at-via-then-place-at, then-place-at-via-else-place-at+then-place-at-2}

pub returns-then-place-at : goal.returns-then-place-at
returns-then-place-at c =
    elim c.then-place-at.branch [
      | then-place-at-via-then-place-at w ↦ sym (frees_none c.args.header.now c.args.at c.args.bytes.now c.args.block (inl (omega (arith, w.if-place-at.true))))
      | then-place-at-via-else-place-at+then-place-at-2 w ↦ sym (frees_none c.args.header.now c.args.at c.args.bytes.now c.args.block (inr (omega (arith, w.if-place-at.false, w.if-place-at-2.true))))
    ]

freed_here : (header : List ℕ) (at : ℕ) (bytes : List ℕ) (block : ℕ) → length header ≡ 8192 → block < 64896 → at ≤ 80 + block / 8 → 80 + block / 8 - at < length bytes
    → (is_one (content header (80 + block / 8)) block && not (is_one (content bytes (80 + block / 8 - at)) block)) ≡ frees header at bytes block
freed_here header at bytes block whole few from within = sym (frees_some header at bytes block (80 + block / 8 - at) (omega arith) within (omega (arith, whole)))

pub returns-then-has_bit : goal.returns-then-has_bit
returns-then-has_bit c =
    let first : is_one (content c.args.header.now (80 + c.args.block / 8)) c.args.block ≡ true = sym c.has_bit.ensures ∙ c.if-has_bit.true in
    ap not c.has_bit-then-has_bit.ensures
    ∙ sym (ap (λ (t : Bool). t && not (is_one (content c.args.bytes.now (80 + c.args.block / 8 - c.args.at)) c.args.block)) first)
    ∙ freed_here c.args.header.now c.args.at c.args.bytes.now c.args.block c.requires.whole c.requires.few c.if-place-at.false (omega (arith, c.if-place-at-2.false))

pub returns-else-has_bit : goal.returns-else-has_bit
returns-else-has_bit c =
    let first : is_one (content c.args.header.now (80 + c.args.block / 8)) c.args.block ≡ false = sym c.has_bit.ensures ∙ c.if-has_bit.false in
    c.if-has_bit.false ∙ sym (ap (λ (t : Bool). t && not (is_one (content c.args.bytes.now (80 + c.args.block / 8 - c.args.at)) c.args.block)) first)
    ∙ freed_here c.args.header.now c.args.at c.args.bytes.now c.args.block c.requires.whole c.requires.few c.if-place-at.false (omega (arith, c.if-place-at-2.false))
