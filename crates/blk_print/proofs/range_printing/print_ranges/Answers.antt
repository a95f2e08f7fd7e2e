use Rattle.std.proofs.Common.{◌≡◌, None, sym, ◌∙◌, ap}
use Rattle.spec_image.specs.Told.{Told}
use Rattle.blk_io.proofs.Carried.{carried, if_damaged_weaker}
use Rattle.blk_print.proofs.PrintedRanges.{both-printed, first-in-part, second-in-part}
use Rattle.blk_evict.proofs.RoomTexts.{part-whole}
use Rattle.blk_print.proofs.range_printing.print_ranges.Goals as goal

pub returns-in_err-print_pieces-clause-part : goal.returns-in_err-print_pieces-clause-part
returns-in_err-print_pieces-clause-part g c image there p q =
    first-in-part c.args.files.now c.args.first.now c.args.second.now image p q c.requires.some _ _ _ _ _ c.say_front.ensures.prints (c.print_pieces.ensures.part image there p)

pub returns-clause-printed : goal.returns-clause-printed
returns-clause-printed g c image there p q =
    let at = ap (λ (t : Told). t.files) c.in_ok-print_pieces.ensures.reads.stays ∙ there in
    both-printed c.args.files.now c.args.first.now c.args.second.now image p q c.requires.some _ _ _ _ _ _ _ _ _ _ c.say_front.ensures.prints (c.in_ok-print_pieces.ensures.printed image there p) (c.in_ok-print_pieces-2.ensures.printed image at q) c.say_text.ensures.prints

pub returns-in_err-print_pieces-2-clause-part : goal.returns-in_err-print_pieces-2-clause-part
returns-in_err-print_pieces-2-clause-part g c image there p q =
    let at = ap (λ (t : Told). t.files) c.in_ok-print_pieces.ensures.reads.stays ∙ there in
    second-in-part c.args.files.now c.args.first.now c.args.second.now image p q c.requires.some _ _ _ _ _ _ _ c.say_front.ensures.prints (c.in_ok-print_pieces.ensures.printed image there p) (c.print_pieces-2.ensures.part image at q)

pub returns-in_err-print_pieces-2-clause-untold : goal.returns-in_err-print_pieces-2-clause-untold
returns-in_err-print_pieces-2-clause-untold g c first second =
    let same = ap (λ (t : Told). t.files) c.in_ok-print_pieces.ensures.reads.stays in
    carried c.print_pieces-2.result c.from_residual-in_err-print_pieces-2.result c.in_err-print_pieces-2.field-0.0 (λ _. (g.F.Folder.told c.args.folder.now).files ≡ None) c.in_err-print_pieces-2.was c.from_residual-in_err-print_pieces-2.ensures.1
    (if_damaged_weaker c.print_pieces-2.result _ _ (λ damage none. sym same ∙ none) (c.print_pieces-2.ensures.untold (λ image is. second image (sym same ∙ is))))

pub returns-clause-part : goal.returns-clause-part
returns-clause-part g c image there p q =
    let at = ap (λ (t : Told). t.files) c.in_ok-print_pieces.ensures.reads.stays ∙ there in
    part-whole _ _ _ _ _ (both-printed c.args.files.now c.args.first.now c.args.second.now image p q c.requires.some _ _ _ _ _ _ _ _ _ _ c.say_front.ensures.prints (c.in_ok-print_pieces.ensures.printed image there p) (c.in_ok-print_pieces-2.ensures.printed image at q) c.say_text.ensures.prints)
