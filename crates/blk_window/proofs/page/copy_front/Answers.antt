use Rattle.std.proofs.Common.{◌≤◌, length, take, drop, arith, ap, ◌∙◌}
use Rattle.std.proofs.lemmas.List.{length-take-le}
use Rattle.spec_image.proofs.Splices.{prefix_spliced}
use Rattle.blk_window.proofs.page.copy_front.Goals as goal

pub returns-clause-front : goal.returns-clause-front
returns-clause-front c =
    let n = c.min-n.result in
    let rest = c.behind-rest.result.now in
    let short : n ≤ length rest = omega arith in
    let fits : n ≤ length c.args.out.now = omega arith in
    let is = prefix_spliced n (take n rest) c.args.out.now (length-take-le n rest short) fits in
    ap (take n) c.copy_over.ensures ∙ is.0 ∙ ap (take n) c.behind-rest.ensures

pub returns-clause-rest : goal.returns-clause-rest
returns-clause-rest c =
    let n = c.min-n.result in
    let rest = c.behind-rest.result.now in
    let short : n ≤ length rest = omega arith in
    let fits : n ≤ length c.args.out.now = omega arith in
    let is = prefix_spliced n (take n rest) c.args.out.now (length-take-le n rest short) fits in
    ap (drop n) c.copy_over.ensures ∙ is.1
