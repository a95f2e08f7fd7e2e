use Rattle.std.proofs.Common.{◌≡◌, ◌≤◌, ℕ, ◌<◌, ◌+◌, List, [], ◌∷◌, true, false, sym, ◌∙◌, subst, arith}
use Rattle.std.specs.Prelude.{slice_index}
use Rattle.spec_image.specs.Image.{Block, Image, byte}
use Rattle.spec_image.specs.Bytes.{range_at}
use Rattle.spec_format.specs.Maps.{groups_with}
use Rattle.blk_addr.specs.Bits.{has_bit}
use Rattle.blk_alloc.specs.Rebuilding.{HasTheseCounters}
use Rattle.blk_alloc.proofs.Alike.{IsMapRead, compared_right, counters_read, counters_stand, right_bits, right_counters, zeros_at}
use Rattle.blk_alloc.proofs.comparing.is_right.Goals as goal

pub returns-then-not-has_claimed-clause-found : goal.returns-then-not-has_claimed-clause-found
returns-then-not-has_claimed-clause-found c image read groups right =
    absurd (clash (sym c.if-not-has_claimed.true ∙ c.has_claimed.ensures.found (right_bits c.args.claims.now image c.args.file c.args.map.now read.map_read right)))
  where
    clash : false ≡ true → ⊥
    clash e = cc

-- what was counted in the map that was read
runs : (image : Image) (n groups : ℕ) (map empty : List ℕ) → groups ≤ 16224 → map ≡ range_at (byte image (Block n)) 80 8112 → ((i : ℕ) → i < 4 → slice_index empty i ≡ slice_index (0 ∷ 0 ∷ 0 ∷ 0 ∷ []) i + groups_with (has_bit map) groups (i + 1)) → IsMapRead image n groups map empty
runs image n groups map empty few read counts = record { few = few; read = read; counts = λ i small. let more = counts i small in let none = zeros_at i small in omega (arith, more, none) }

pub returns-clause-same : goal.returns-clause-same
returns-clause-same c test image read groups =
    compared_right c.args.claims.now c.args.file c.args.groups image c.args.map.now c.count_runs.new.empty (runs image c.args.file c.args.groups c.args.map.now c.count_runs.new.empty c.requires.few read.map_read c.count_runs.ensures.counts)
    groups (c.has_claimed.ensures.same c.if-not-has_claimed.false)
    (subst (λ (k : ℕ). HasTheseCounters (byte image (Block c.args.file)) k c.count_runs.new.empty) c.allocations.ensures.count (counters_read image c.args.file c.allocations.result c.args.fields.now c.count_runs.new.empty read.fields_read (c.has_counters.ensures.same test)))

pub returns-clause-found : goal.returns-clause-found
returns-clause-found c image read groups right =
    c.has_counters.ensures.found
    (counters_stand image c.args.file c.allocations.result c.args.fields.now c.count_runs.new.empty read.fields_read
    (subst (λ (k : ℕ). HasTheseCounters (byte image (Block c.args.file)) k c.count_runs.new.empty) (sym c.allocations.ensures.count)
    (right_counters c.args.claims.now c.args.file c.args.groups image c.args.map.now c.count_runs.new.empty (runs image c.args.file c.args.groups c.args.map.now c.count_runs.new.empty c.requires.few read.map_read c.count_runs.ensures.counts) groups right)))
