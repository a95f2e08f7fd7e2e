use Rattle.std.proofs.Common.{◌≡◌, ℕ, List, Option, true, refl, sym, ◌∙◌, subst, arith}
use Rattle.std.specs.Prelude.{IfSome}
use Rattle.std.proofs.lemmas.Result.{on_ok_weaker}
use Rattle.blk_model.specs.Reply.{gave}
use Rattle.spec_format.specs.Address.{blocks_256, kind_of}
use Rattle.blk_disk.specs.Tables.{is_record_among, stands_among}
use Rattle.blk_script.specs.Reply.{reply_text}
use Rattle.blk_evict.specs.RoomPrinting.{PrintsUnlessFailed, PrintsInPart}
use Rattle.blk_print.proofs.PresentRanges.{first-has, none-first, one-bytes, one-has, record-among, second-has, second-none, two-bytes}
use Rattle.blk_evict.proofs.RoomTexts.{part-none}
use Rattle.blk_print.proofs.present_printing.print_parts.Goals as goal

-- The first part.

pub returns-in_default-clause-printed : goal.returns-in_default-clause-printed
returns-in_default-clause-printed g c image there p found = absurd (none-first c.args.files.now c.args.range.now image (c.requires.is_open image there).agrees (g.met.F.Folder.are_bytes c.args.folder.now image there) p c.args.parts.now found c.requires.few c.requires.some c.in_default.is)

pub returns-in_default-clause-part : goal.returns-in_default-clause-part
returns-in_default-clause-part g c image there p found = part-none c.args.failed.now (g.K.Sink.written c.args.out.now) (g.K.Sink.written c.args.out.now) _ refl

pub print_range-requires-clause-names : goal.print_range-requires-clause-names
print_range-requires-clause-names g c =
    subst (λ (w : ℕ). is_record_among c.args.files.now w ≡ true) (sym c.stream_range-one.ensures.entry)
    (record-among c.args.files.now c.in-Some.first c.stream_range-one.ensures.address (subst (λ (o : Option ℕ). IfSome o (λ entry. kind_of entry ≡ blocks_256)) c.in-Some.is c.requires.first_kind) (subst (λ (o : Option ℕ). IfSome o (λ entry. stands_among c.args.files.now entry ≡ true)) c.in-Some.is c.requires.first_stands))

pub returns-then-cut-range-clause-printed : goal.returns-then-cut-range-clause-printed
returns-then-cut-range-clause-printed g c =
    on_ok_weaker c.print_range.result
    (λ printed image there p found. subst (λ (bytes : List ℕ). PrintsUnlessFailed c.args.failed.now c.print_range.new.failed (g.K.Sink.written c.args.out.now) (g.K.Sink.written c.print_range.new.out) (reply_text (gave bytes))) (one-bytes c.args.files.now c.args.range.now image (c.requires.is_open image there).agrees (g.met.F.Folder.are_bytes c.args.folder.now image there) p c.args.parts.now found c.requires.few (let least = c.min-cut.ensures in let wide = c.from.ensures in let place = c.child_of-place.ensures.place in let all = c.if-cut-range.true in omega (arith, least, wide, place, all)) c.in-Some.first c.in-Some.is c.stream_range-one.result c.stream_range-one.ensures.entry c.stream_range-one.ensures.stream (c.stream_range-one.ensures.offset ∙ c.from-2.ensures ∙ c.child_of-place.ensures.place) (c.stream_range-one.ensures.count ∙ c.if-cut-range.true)) (printed image there (one-has c.args.files.now c.args.range.now image (c.requires.is_open image there).agrees (g.met.F.Folder.are_bytes c.args.folder.now image there) p c.args.parts.now found c.requires.few (let least = c.min-cut.ensures in let wide = c.from.ensures in let place = c.child_of-place.ensures.place in let all = c.if-cut-range.true in omega (arith, least, wide, place, all)) c.in-Some.first c.in-Some.is c.stream_range-one.result c.stream_range-one.ensures.entry c.stream_range-one.ensures.stream (c.stream_range-one.ensures.offset ∙ c.from-2.ensures ∙ c.child_of-place.ensures.place) (c.stream_range-one.ensures.count ∙ c.if-cut-range.true))))
    c.print_range.ensures.printed

pub returns-then-cut-range-clause-part : goal.returns-then-cut-range-clause-part
returns-then-cut-range-clause-part g c image there p found =
    subst (λ (bytes : List ℕ). PrintsInPart c.args.failed.now (g.K.Sink.written c.args.out.now) (g.K.Sink.written c.print_range.new.out) (reply_text (gave bytes))) (one-bytes c.args.files.now c.args.range.now image (c.requires.is_open image there).agrees (g.met.F.Folder.are_bytes c.args.folder.now image there) p c.args.parts.now found c.requires.few (let least = c.min-cut.ensures in let wide = c.from.ensures in let place = c.child_of-place.ensures.place in let all = c.if-cut-range.true in omega (arith, least, wide, place, all)) c.in-Some.first c.in-Some.is c.stream_range-one.result c.stream_range-one.ensures.entry c.stream_range-one.ensures.stream (c.stream_range-one.ensures.offset ∙ c.from-2.ensures ∙ c.child_of-place.ensures.place) (c.stream_range-one.ensures.count ∙ c.if-cut-range.true)) (c.print_range.ensures.part image there (one-has c.args.files.now c.args.range.now image (c.requires.is_open image there).agrees (g.met.F.Folder.are_bytes c.args.folder.now image there) p c.args.parts.now found c.requires.few (let least = c.min-cut.ensures in let wide = c.from.ensures in let place = c.child_of-place.ensures.place in let all = c.if-cut-range.true in omega (arith, least, wide, place, all)) c.in-Some.first c.in-Some.is c.stream_range-one.result c.stream_range-one.ensures.entry c.stream_range-one.ensures.stream (c.stream_range-one.ensures.offset ∙ c.from-2.ensures ∙ c.child_of-place.ensures.place) (c.stream_range-one.ensures.count ∙ c.if-cut-range.true)))

pub returns-then-cut-range-clause-untold : goal.returns-then-cut-range-clause-untold
returns-then-cut-range-clause-untold g c has =
    c.print_range.ensures.untold (λ image there. let p = (has image there).0 in let found = (has image there).1 in one-has c.args.files.now c.args.range.now image (c.requires.is_open image there).agrees (g.met.F.Folder.are_bytes c.args.folder.now image there) p c.args.parts.now found c.requires.few (let least = c.min-cut.ensures in let wide = c.from.ensures in let place = c.child_of-place.ensures.place in let all = c.if-cut-range.true in omega (arith, least, wide, place, all)) c.in-Some.first c.in-Some.is c.stream_range-one.result c.stream_range-one.ensures.entry c.stream_range-one.ensures.stream (c.stream_range-one.ensures.offset ∙ c.from-2.ensures ∙ c.child_of-place.ensures.place) (c.stream_range-one.ensures.count ∙ c.if-cut-range.true))

-- The second part.

pub returns-in_default-second-clause-printed : goal.returns-in_default-second-clause-printed
returns-in_default-second-clause-printed g c image there p found = absurd (second-none c.args.files.now c.args.range.now image (c.requires.is_open image there).agrees (g.met.F.Folder.are_bytes c.args.folder.now image there) p c.args.parts.now found c.requires.few c.min-cut.result (let least = c.min-cut.ensures in let wide = c.from.ensures in let place = c.child_of-place.ensures.place in let other = c.if-cut-range.false in omega (arith, least, wide, place, other)) (let least = c.min-cut.ensures in let other = c.if-cut-range.false in omega (arith, least, other)) c.in_default-second.is)

pub returns-in_default-second-clause-part : goal.returns-in_default-second-clause-part
returns-in_default-second-clause-part g c image there p found = part-none c.args.failed.now (g.K.Sink.written c.args.out.now) (g.K.Sink.written c.args.out.now) _ refl

pub print_ranges-requires-clause-first_names : goal.print_ranges-requires-clause-first_names
print_ranges-requires-clause-first_names g c =
    subst (λ (w : ℕ). is_record_among c.args.files.now w ≡ true) (sym c.stream_range-one.ensures.entry)
    (record-among c.args.files.now c.in-Some.first c.stream_range-one.ensures.address (subst (λ (o : Option ℕ). IfSome o (λ entry. kind_of entry ≡ blocks_256)) c.in-Some.is c.requires.first_kind) (subst (λ (o : Option ℕ). IfSome o (λ entry. stands_among c.args.files.now entry ≡ true)) c.in-Some.is c.requires.first_stands))

pub print_ranges-requires-clause-second_names : goal.print_ranges-requires-clause-second_names
print_ranges-requires-clause-second_names g c =
    subst (λ (w : ℕ). is_record_among c.args.files.now w ≡ true) (sym c.stream_range-two.ensures.entry)
    (record-among c.args.files.now c.in-Some-second.second c.stream_range-two.ensures.address (subst (λ (o : Option ℕ). IfSome o (λ entry. kind_of entry ≡ blocks_256)) c.in-Some-second.is c.requires.second_kind) (subst (λ (o : Option ℕ). IfSome o (λ entry. stands_among c.args.files.now entry ≡ true)) c.in-Some-second.is c.requires.second_stands))

pub returns-clause-printed : goal.returns-clause-printed
returns-clause-printed g c =
    on_ok_weaker c.print_ranges.result
    (λ printed image there p found. subst (λ (bytes : List ℕ). PrintsUnlessFailed c.args.failed.now c.print_ranges.new.failed (g.K.Sink.written c.args.out.now) (g.K.Sink.written c.print_ranges.new.out) (reply_text (gave bytes))) (two-bytes c.args.files.now c.args.range.now image (c.requires.is_open image there).agrees (g.met.F.Folder.are_bytes c.args.folder.now image there) p c.args.parts.now found c.requires.few c.min-cut.result (let least = c.min-cut.ensures in let wide = c.from.ensures in let place = c.child_of-place.ensures.place in let other = c.if-cut-range.false in omega (arith, least, wide, place, other)) (let least = c.min-cut.ensures in let other = c.if-cut-range.false in omega (arith, least, other))) (printed image there (first-has c.args.files.now c.args.range.now image (c.requires.is_open image there).agrees (g.met.F.Folder.are_bytes c.args.folder.now image there) p c.args.parts.now found c.requires.few c.min-cut.result (let least = c.min-cut.ensures in let wide = c.from.ensures in let place = c.child_of-place.ensures.place in let other = c.if-cut-range.false in omega (arith, least, wide, place, other)) (let least = c.min-cut.ensures in let other = c.if-cut-range.false in omega (arith, least, other)) c.in-Some.first c.in-Some.is c.stream_range-one.result c.stream_range-one.ensures.entry c.stream_range-one.ensures.stream (c.stream_range-one.ensures.offset ∙ c.from-2.ensures ∙ c.child_of-place.ensures.place) c.stream_range-one.ensures.count) (second-has c.args.files.now c.args.range.now image (c.requires.is_open image there).agrees (g.met.F.Folder.are_bytes c.args.folder.now image there) p c.args.parts.now found c.requires.few c.min-cut.result (let least = c.min-cut.ensures in let wide = c.from.ensures in let place = c.child_of-place.ensures.place in let other = c.if-cut-range.false in omega (arith, least, wide, place, other)) (let least = c.min-cut.ensures in let other = c.if-cut-range.false in omega (arith, least, other)) c.in-Some-second.second c.in-Some-second.is c.stream_range-two.result c.stream_range-two.ensures.entry c.stream_range-two.ensures.stream c.stream_range-two.ensures.offset c.stream_range-two.ensures.count)))
    c.print_ranges.ensures.printed

pub returns-clause-part : goal.returns-clause-part
returns-clause-part g c image there p found =
    subst (λ (bytes : List ℕ). PrintsInPart c.args.failed.now (g.K.Sink.written c.args.out.now) (g.K.Sink.written c.print_ranges.new.out) (reply_text (gave bytes))) (two-bytes c.args.files.now c.args.range.now image (c.requires.is_open image there).agrees (g.met.F.Folder.are_bytes c.args.folder.now image there) p c.args.parts.now found c.requires.few c.min-cut.result (let least = c.min-cut.ensures in let wide = c.from.ensures in let place = c.child_of-place.ensures.place in let other = c.if-cut-range.false in omega (arith, least, wide, place, other)) (let least = c.min-cut.ensures in let other = c.if-cut-range.false in omega (arith, least, other))) (c.print_ranges.ensures.part image there (first-has c.args.files.now c.args.range.now image (c.requires.is_open image there).agrees (g.met.F.Folder.are_bytes c.args.folder.now image there) p c.args.parts.now found c.requires.few c.min-cut.result (let least = c.min-cut.ensures in let wide = c.from.ensures in let place = c.child_of-place.ensures.place in let other = c.if-cut-range.false in omega (arith, least, wide, place, other)) (let least = c.min-cut.ensures in let other = c.if-cut-range.false in omega (arith, least, other)) c.in-Some.first c.in-Some.is c.stream_range-one.result c.stream_range-one.ensures.entry c.stream_range-one.ensures.stream (c.stream_range-one.ensures.offset ∙ c.from-2.ensures ∙ c.child_of-place.ensures.place) c.stream_range-one.ensures.count) (second-has c.args.files.now c.args.range.now image (c.requires.is_open image there).agrees (g.met.F.Folder.are_bytes c.args.folder.now image there) p c.args.parts.now found c.requires.few c.min-cut.result (let least = c.min-cut.ensures in let wide = c.from.ensures in let place = c.child_of-place.ensures.place in let other = c.if-cut-range.false in omega (arith, least, wide, place, other)) (let least = c.min-cut.ensures in let other = c.if-cut-range.false in omega (arith, least, other)) c.in-Some-second.second c.in-Some-second.is c.stream_range-two.result c.stream_range-two.ensures.entry c.stream_range-two.ensures.stream c.stream_range-two.ensures.offset c.stream_range-two.ensures.count))

pub returns-clause-untold : goal.returns-clause-untold
returns-clause-untold g c has =
    c.print_ranges.ensures.untold (λ image there. let p = (has image there).0 in let found = (has image there).1 in first-has c.args.files.now c.args.range.now image (c.requires.is_open image there).agrees (g.met.F.Folder.are_bytes c.args.folder.now image there) p c.args.parts.now found c.requires.few c.min-cut.result (let least = c.min-cut.ensures in let wide = c.from.ensures in let place = c.child_of-place.ensures.place in let other = c.if-cut-range.false in omega (arith, least, wide, place, other)) (let least = c.min-cut.ensures in let other = c.if-cut-range.false in omega (arith, least, other)) c.in-Some.first c.in-Some.is c.stream_range-one.result c.stream_range-one.ensures.entry c.stream_range-one.ensures.stream (c.stream_range-one.ensures.offset ∙ c.from-2.ensures ∙ c.child_of-place.ensures.place) c.stream_range-one.ensures.count)
    (λ image there. let p = (has image there).0 in let found = (has image there).1 in second-has c.args.files.now c.args.range.now image (c.requires.is_open image there).agrees (g.met.F.Folder.are_bytes c.args.folder.now image there) p c.args.parts.now found c.requires.few c.min-cut.result (let least = c.min-cut.ensures in let wide = c.from.ensures in let place = c.child_of-place.ensures.place in let other = c.if-cut-range.false in omega (arith, least, wide, place, other)) (let least = c.min-cut.ensures in let other = c.if-cut-range.false in omega (arith, least, other)) c.in-Some-second.second c.in-Some-second.is c.stream_range-two.result c.stream_range-two.ensures.entry c.stream_range-two.ensures.stream c.stream_range-two.ensures.offset c.stream_range-two.ensures.count)
