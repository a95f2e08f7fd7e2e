use Rattle.std.proofs.Common.{◌≡◌, ℕ, List, None, true, refl, sym, ◌∙◌, ap, subst, arith}
use Rattle.std.specs.Int.{cast_unsigned, w64}
use Rattle.std.proofs.lemmas.Int.{of_z-to_z}
use Rattle.std.proofs.lemmas.Result.{on_ok_weaker}
use Rattle.spec_image.specs.Told.{Told}
use Rattle.blk_io.proofs.Carried.{carried, if_damaged_weaker}
use Rattle.blk_model.specs.Reply.{gave}
use Rattle.blk_chain.proofs.Heads.{names-parts}
use Rattle.blk_disk.specs.Tables.{is_record_among}
use Rattle.blk_script.specs.Reply.{reply_text}
use Rattle.blk_evict.specs.RoomPrinting.{PrintsUnlessFailed, PrintsInPart}
use Rattle.blk_print.proofs.PresentRanges.{by-files, main-parent, none-bytes, none-has, signed}
use Rattle.blk_evict.proofs.RoomTexts.{part-none}
use Rattle.blk_print.proofs.present_printing.print_present.Goals as goal

-- No byte.

pub print_range-requires-clause-names : goal.print_range-requires-clause-names
print_range-requires-clause-names g c = subst (λ (w : ℕ). is_record_among c.args.files.now w ≡ true) (sym c.stream_range.ensures.entry) c.requires.names

pub returns-then-range-eq0-clause-printed : goal.returns-then-range-eq0-clause-printed
returns-then-range-eq0-clause-printed g c =
    on_ok_weaker c.print_range.result
    (λ printed image there p. subst (λ (bytes : List ℕ). PrintsUnlessFailed c.args.failed.now c.print_range.new.failed (g.K.Sink.written c.args.out.now) (g.K.Sink.written c.print_range.new.out) (reply_text (gave bytes))) (none-bytes c.args.files.now c.args.range.now image (c.requires.is_open image there).agrees (g.met.F.Folder.are_bytes c.args.folder.now image there) p c.if-range-eq0.true) (printed image there (none-has c.args.files.now c.args.range.now image (c.requires.is_open image there).agrees (g.met.F.Folder.are_bytes c.args.folder.now image there) p c.if-range-eq0.true c.stream_range.result c.stream_range.ensures.entry c.stream_range.ensures.count)))
    c.print_range.ensures.printed

pub returns-then-range-eq0-clause-part : goal.returns-then-range-eq0-clause-part
returns-then-range-eq0-clause-part g c image there p =
    subst (λ (bytes : List ℕ). PrintsInPart c.args.failed.now (g.K.Sink.written c.args.out.now) (g.K.Sink.written c.print_range.new.out) (reply_text (gave bytes))) (none-bytes c.args.files.now c.args.range.now image (c.requires.is_open image there).agrees (g.met.F.Folder.are_bytes c.args.folder.now image there) p c.if-range-eq0.true) (c.print_range.ensures.part image there (none-has c.args.files.now c.args.range.now image (c.requires.is_open image there).agrees (g.met.F.Folder.are_bytes c.args.folder.now image there) p c.if-range-eq0.true c.stream_range.result c.stream_range.ensures.entry c.stream_range.ensures.count))

pub returns-then-range-eq0-clause-untold : goal.returns-then-range-eq0-clause-untold
returns-then-range-eq0-clause-untold g c has = c.print_range.ensures.untold (λ image there. let p = has image there in none-has c.args.files.now c.args.range.now image (c.requires.is_open image there).agrees (g.met.F.Folder.are_bytes c.args.folder.now image there) p c.if-range-eq0.true c.stream_range.result c.stream_range.ensures.entry c.stream_range.ensures.count)

-- The generation.

pub read_signature-requires-clause-kind : goal.read_signature-requires-clause-kind
read_signature-requires-clause-kind g c = let n = names-parts c.args.files.now c.args.range.now.entry c.requires.names in n.1.0

pub read_signature-requires-clause-stands : goal.read_signature-requires-clause-stands
read_signature-requires-clause-stands g c = let n = names-parts c.args.files.now c.args.range.now.entry c.requires.names in n.1.1

pub returns-in_err-signature-clause-part : goal.returns-in_err-signature-clause-part
returns-in_err-signature-clause-part g c image there p = part-none c.args.failed.now (g.K.Sink.written c.args.out.now) (g.K.Sink.written c.args.out.now) _ refl

pub returns-in_err-signature-clause-untold : goal.returns-in_err-signature-clause-untold
returns-in_err-signature-clause-untold g c has =
    carried c.read_signature.result c.from_residual.result c.in_err-signature.field-0.0 (λ _. (g.F.Folder.told c.args.folder.now).files ≡ None) c.in_err-signature.was c.from_residual.ensures.1
    (c.read_signature.ensures.untold (λ image there. (c.requires.is_open image there).agrees) (λ image there. main-parent c.args.range.now image (has image there)))

-- The parts.

pub find_parts-requires-clause-kind : goal.find_parts-requires-clause-kind
find_parts-requires-clause-kind g c = let n = names-parts c.args.files.now c.args.range.now.entry c.requires.names in n.1.0

pub find_parts-requires-clause-stands : goal.find_parts-requires-clause-stands
find_parts-requires-clause-stands g c = let n = names-parts c.args.files.now c.args.range.now.entry c.requires.names in n.1.1

pub find_parts-requires-clause-is_open : goal.find_parts-requires-clause-is_open
find_parts-requires-clause-is_open g c image is = c.requires.is_open image (ap (λ (t : Told). t.files) (sym c.in_ok-signature.ensures.reads.stays) ∙ is)

pub returns-in_err-parts-clause-part : goal.returns-in_err-parts-clause-part
returns-in_err-parts-clause-part g c image there p = part-none c.args.failed.now (g.K.Sink.written c.args.out.now) (g.K.Sink.written c.args.out.now) _ refl

pub returns-in_err-parts-clause-untold : goal.returns-in_err-parts-clause-untold
returns-in_err-parts-clause-untold g c has =
    let same = ap (λ (t : Told). t.files) c.in_ok-signature.ensures.reads.stays in
    by-files c.from_residual-in_err-parts.result (g.F.Folder.told c.args.folder.now).files (λ image there.
    let p = has image there in
    carried c.find_parts.result c.from_residual-in_err-parts.result c.in_err-parts.field-0.0 (λ _. (g.F.Folder.told c.args.folder.now).files ≡ None) c.in_err-parts.was c.from_residual-in_err-parts.ensures.1
    (if_damaged_weaker c.find_parts.result _ _ (λ damage none. sym same ∙ none)
    (c.find_parts.ensures.untold image (ap (λ (t : Told). t.files) c.in_ok-signature.ensures.reads.stays ∙ there) p.state p.layout p.unlinked p.number p.object (signed c.args.range.now image p _ (λ loaded index w role. c.in_ok-signature.ensures.signature image there loaded index w role ∙ sym (of_z-to_z w64 (cast_unsigned w64 c.in_ok-signature.signature) (let small = c.in_ok-signature.ensures.small in omega (arith, small))))))))

-- They are printed.

pub print_parts-requires-clause-is_open : goal.print_parts-requires-clause-is_open
print_parts-requires-clause-is_open g c image is = c.requires.is_open image (ap (λ (t : Told). t.files) (sym c.in_ok-signature.ensures.reads.stays) ∙ (ap (λ (t : Told). t.files) (sym c.in_ok-parts.ensures.reads.stays) ∙ is))

pub returns-clause-printed : goal.returns-clause-printed
returns-clause-printed g c =
    on_ok_weaker c.print_parts.result (λ printed image there p. printed image (ap (λ (t : Told). t.files) c.in_ok-parts.ensures.reads.stays ∙ ap (λ (t : Told). t.files) c.in_ok-signature.ensures.reads.stays ∙ there) p (c.in_ok-parts.ensures.parts image (ap (λ (t : Told). t.files) c.in_ok-signature.ensures.reads.stays ∙ there) p.state p.layout p.unlinked p.number p.object (signed c.args.range.now image p _ (λ loaded index w role. c.in_ok-signature.ensures.signature image there loaded index w role ∙ sym (of_z-to_z w64 (cast_unsigned w64 c.in_ok-signature.signature) (let small = c.in_ok-signature.ensures.small in omega (arith, small))))))) c.print_parts.ensures.printed

pub returns-clause-part : goal.returns-clause-part
returns-clause-part g c image there p = c.print_parts.ensures.part image (ap (λ (t : Told). t.files) c.in_ok-parts.ensures.reads.stays ∙ ap (λ (t : Told). t.files) c.in_ok-signature.ensures.reads.stays ∙ there) p (c.in_ok-parts.ensures.parts image (ap (λ (t : Told). t.files) c.in_ok-signature.ensures.reads.stays ∙ there) p.state p.layout p.unlinked p.number p.object (signed c.args.range.now image p _ (λ loaded index w role. c.in_ok-signature.ensures.signature image there loaded index w role ∙ sym (of_z-to_z w64 (cast_unsigned w64 c.in_ok-signature.signature) (let small = c.in_ok-signature.ensures.small in omega (arith, small))))))

pub returns-clause-untold : goal.returns-clause-untold
returns-clause-untold g c has =
    let same = ap (λ (t : Told). t.files) c.in_ok-parts.ensures.reads.stays ∙ ap (λ (t : Told). t.files) c.in_ok-signature.ensures.reads.stays in
    if_damaged_weaker c.print_parts.result _ _ (λ damage none. sym same ∙ none)
    (c.print_parts.ensures.untold (λ image is.
    let there = sym same ∙ is in
    let p = has image there in
    (p, (c.in_ok-parts.ensures.parts image (ap (λ (t : Told). t.files) c.in_ok-signature.ensures.reads.stays ∙ there) p.state p.layout p.unlinked p.number p.object (signed c.args.range.now image p _ (λ loaded index w role. c.in_ok-signature.ensures.signature image there loaded index w role ∙ sym (of_z-to_z w64 (cast_unsigned w64 c.in_ok-signature.signature) (let small = c.in_ok-signature.ensures.small in omega (arith, small)))))))))
