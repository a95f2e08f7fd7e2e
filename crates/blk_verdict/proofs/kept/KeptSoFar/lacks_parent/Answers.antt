use Rattle.std.proofs.Common.{◌≡◌, ◌∙◌, ◌-◌, ℕ, List, drop, length, length-drop, sym, take, ap, arith}
use Rattle.std.proofs.lemmas.List.{take_all}
use Rattle.std.specs.Prelude.{not}
use Rattle.blk_verdict.proofs.AdmitFacts.{no_name, orphan_is, part_number}
use Rattle.blk_verdict.proofs.RoleFacts.{name_length}
use Rattle.blk_verdict.proofs.kept.KeptSoFar.lacks_parent.Goals as goal

pub returns-in_default-clause-orphan : goal.returns-in_default-clause-orphan
returns-in_default-clause-orphan g c image there agrees kept given node are ok same some = absurd (no_name image given node c.args.key.now ok some same c.in_default.ensures.name)

pub has-requires-clause-part : goal.has-requires-clause-part
has-requires-clause-part g c = part_number c.args.key.now c.in-Some.name c.in-Some.ensures.printed

cut : (key : List ℕ) (n : ℕ) → take n (take (length key - 6) (drop 6 key)) ≡ take n (drop 6 key)
cut key n = let dropped = length-drop 6 key in ap (take n) (take_all (length key - 6) (drop 6 key) (omega (arith, dropped)))

pub returns-clause-orphan : goal.returns-clause-orphan
returns-clause-orphan g c image there agrees kept given node are ok same some =
    ap not (c.in_ok-found.ensures.has image there agrees c.super_fast_hash-hash.ensures kept are)
    ∙ sym (orphan_is image kept given node c.args.key.now (take c.in-Some.name.key_len (take (length c.args.key.now - 6) (drop 6 c.args.key.now))) c.in-Some.name ok some same c.in-Some.ensures.name (cut c.args.key.now c.in-Some.name.key_len))

pub slice_bounds-parent-end : goal.slice_bounds-parent-end
slice_bounds-parent-end g c = sym (ap (λ (l : List ℕ). length l) (cut c.args.key.now c.in-Some.name.key_len) ∙ name_length c.args.key.now c.in-Some.name c.in-Some.ensures.printed)
