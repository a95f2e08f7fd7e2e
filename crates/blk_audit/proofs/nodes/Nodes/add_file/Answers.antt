use Rattle.std.proofs.Common.{◌≡◌, ◌<◌, List, length, ap, sym, ◌∙◌, arith}
use Rattle.std.specs.Prelude.{nat_lt}
use Rattle.spec_image.specs.Image.{Block, byte}
use Rattle.blk_audit.specs.Filling.{nodes_from}
use Rattle.blk_audit.specs.declared.nodes.Node.{Node}
use Rattle.blk_audit.proofs.Carrying.{carried}
use Rattle.blk_audit.proofs.Firsts.{range_there}
use Rattle.blk_audit.proofs.Fills.{set_here, set_apart, filled_here, filled_there}
use Rattle.blk_audit.proofs.nodes.Nodes.add_file.Goals as goal

pub returns-in_err-read_file-clause-untold : goal.returns-in_err-read_file-clause-untold
returns-in_err-read_file-clause-untold g c agrees =
    carried c.read_file.result c.from_residual.result c.in_err-read_file.field-0.0 _ c.in_err-read_file.was c.from_residual.ensures.1
    (c.read_file.ensures.untold (λ image there some. range_there c.args.files.now image c.args.file c.count_there-count.result (agrees image there) c.count_there-count.ensures.count c.ranges.file.fits c.count_there-count.ensures.few some))

pub returns-clause-here : goal.returns-clause-here
returns-clause-here g c image there =
    let counts : c.args.file < length c.args.self.now.counts = omega (arith, c.ranges.file.fits, c.args.self.now.all_counts) in
    let begins : c.args.file < length c.args.self.now.begins = omega (arith, c.ranges.file.fits, c.args.self.now.all_begins) in
    let begin : c.in-Ok.begin ≡ length c.args.self.now.nodes.items = c.in-Ok.ensures.1 ∙ ap (λ (xs : List Node). length xs) c.as_slice.ensures.value in
    filled_here c.args.files.now image _ c.args.file c.args.self.now.nodes.items c.count_there-count.result c.count_there-count.ensures.count
    (set_here c.args.self.now.counts c.from-2.result c.args.file c.count_there-count.result c.from-2.ensures counts)
    (set_here c.args.self.now.begins c.from.result c.args.file c.in-Ok.begin c.from.ensures begins ∙ begin)
    (c.in_ok-read_file.ensures.nodes image there)
    (c.in_ok-read_file.ensures.checked image there)

pub returns-clause-others : goal.returns-clause-others
returns-clause-others g c image there n apart was =
    filled_there c.args.files.now image c.args.self.now _ n (nodes_from (byte image (Block c.args.file)) 8192 c.count_there-count.result)
    (set_apart c.args.self.now.counts c.from-2.result c.args.file n c.count_there-count.result c.from-2.ensures apart)
    (set_apart c.args.self.now.begins c.from.result c.args.file n c.in-Ok.begin c.from.ensures apart)
    (c.in_ok-read_file.ensures.nodes image there) was

pub returns-clause-counted : goal.returns-clause-counted
returns-clause-counted g c b small =
    let counts : c.args.file < length c.args.self.now.counts = omega (arith, c.ranges.file.fits, c.args.self.now.all_counts) in
    c.count_there-count.ensures.count b small ∙ ap (nat_lt b) (sym (set_here c.args.self.now.counts c.from-2.result c.args.file c.count_there-count.result c.from-2.ensures counts))

pub returns-clause-others_counted : goal.returns-clause-others_counted
returns-clause-others_counted g c n apart was b small =
    was b small ∙ ap (nat_lt b) (sym (set_apart c.args.self.now.counts c.from-2.result c.args.file n c.count_there-count.result c.from-2.ensures apart))
