use Rattle.std.proofs.Common.{◌≡◌, ◌-◌, ◌+◌, ◌≤◌, ℕ, List, length, take, min, sym, ap, ◌∙◌, arith}
use Rattle.std.proofs.lemmas.List.{take_min}
use Rattle.spec_image.specs.Bytes.{spliced}
use Rattle.blk_io.proofs.Splicing.{spliced-past, spliced-take}
use Rattle.blk_io.proofs.mem_files.copy_inside.Goals as goal

pub returns-then-at-bytes : goal.returns-then-at-bytes
returns-then-at-bytes c = sym (spliced-past c.args.at c.args.new.now c.args.bytes.now (omega arith))

pub returns : goal.returns
returns c =
    let old = c.args.bytes.now in
    let new = c.args.new.now in
    let n : c.min-n.result ≡ min (length old - c.args.at) (length new) = omega arith in
    let reach : length old ≤ c.args.at + (length old - c.args.at) = omega arith in
    c.copy_over.ensures ∙ ap (λ (l : List ℕ). spliced c.args.at l old) (ap (λ (m : ℕ). take m new) n ∙ take_min (length old - c.args.at) new) ∙ spliced-take c.args.at (length old - c.args.at) new old reach
