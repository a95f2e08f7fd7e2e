use Rattle.std.proofs.Common.{◌≡◌, true, false, List, ℕ, refl, sym, ap, subst, ◌∙◌, arith}
use Rattle.std.proofs.lemmas.Result.{on_ok_weaker}
use Rattle.blk_model.specs.Reply.{gave}
use Rattle.blk_disk.specs.Tables.{is_record_among}
use Rattle.blk_script.specs.Reply.{reply_text}
use Rattle.blk_handles.specs.declared.open_object.OpenObject.{OpenObject}
use Rattle.blk_evict.specs.RoomPrinting.{PrintsUnlessFailed, PrintsInPart}
use Rattle.blk_cache.proofs.DoomSteps.{bound-object}
use Rattle.blk_evict.proofs.RoomTexts.{part-none}
use Rattle.blk_cache.proofs.ReadRanges.{it-fits, range-bytes, range-reply}
use Rattle.blk_cache.proofs.cache.Cache.print_read.Goals as goal

-- So many bytes of such a stream can be read.

pub returns-then-not-can_be_read-clause-printed : goal.returns-then-not-can_be_read-clause-printed
returns-then-not-can_be_read-clause-printed g c image there state k m count object names passes number_is =
    let b = bound-object c.args.self.now.handles c.args.range.handle c.object.result c.in-Some.object c.object.ensures.object c.in-Some.is in
    absurd (clash (sym c.if-not-can_be_read.true ∙ c.can_be_read.ensures.is ∙ it-fits c.args.self.now state image k c.args.range.handle c.args.range.stream c.args.range.offset b.binding b.bound passes c.args.range.number m count object names number_is (omega (arith, c.can_be_read.ensures.few))))
  where
    clash : false ≡ true → ⊥
    clash e = cc

pub returns-then-not-can_be_read-clause-part : goal.returns-then-not-can_be_read-clause-part
returns-then-not-can_be_read-clause-part g c image there state k m count object names passes number_is = part-none c.args.failed.now (g.K.Sink.written c.args.out.now) (g.K.Sink.written c.args.out.now) _ refl

-- They are printed.

pub print_range-requires-clause-names : goal.print_range-requires-clause-names
print_range-requires-clause-names g c =
    let b = bound-object c.args.self.now.handles c.args.range.handle c.object.result c.in-Some.object c.object.ensures.object c.in-Some.is in
    ap (λ (o : OpenObject). is_record_among c.args.self.now.files o.entry) b.same ∙ (c.args.self.now.stand c.args.range.handle b.binding b.bound).1

pub returns-clause-printed : goal.returns-clause-printed
returns-clause-printed g c =
    on_ok_weaker c.print_range.result
    (λ printed image there state k m count object names passes number_is.
    let b = bound-object c.args.self.now.handles c.args.range.handle c.object.result c.in-Some.object c.object.ensures.object c.in-Some.is in
    let same : c.in-Some.object.entry ≡ b.binding.entry = ap (λ (o : OpenObject). o.entry) b.same in
    subst (λ (bytes : List ℕ). PrintsUnlessFailed c.args.failed.now c.print_range.new.failed (g.K.Sink.written c.args.out.now) (g.K.Sink.written c.print_range.new.out) (reply_text (gave bytes)))
    (range-reply c.args.self.now state image k c.args.range.handle c.args.range.stream c.args.range.offset b.binding b.bound passes c.args.range.number m count object names number_is c.in-Some.object.entry same (g.met.F.Folder.are_bytes c.args.folder.now image there))
    (printed image there (range-bytes c.args.self.now state image k c.args.range.handle c.args.range.stream c.args.range.offset b.binding b.bound passes c.args.range.number m count object names number_is c.in-Some.object.entry same (g.met.F.Folder.are_bytes c.args.folder.now image there))))
    c.print_range.ensures.printed

pub returns-clause-part : goal.returns-clause-part
returns-clause-part g c image there state k m count object names passes number_is =
    let b = bound-object c.args.self.now.handles c.args.range.handle c.object.result c.in-Some.object c.object.ensures.object c.in-Some.is in
    let same : c.in-Some.object.entry ≡ b.binding.entry = ap (λ (o : OpenObject). o.entry) b.same in
    subst (λ (bytes : List ℕ). PrintsInPart c.args.failed.now (g.K.Sink.written c.args.out.now) (g.K.Sink.written c.print_range.new.out) (reply_text (gave bytes)))
    (range-reply c.args.self.now state image k c.args.range.handle c.args.range.stream c.args.range.offset b.binding b.bound passes c.args.range.number m count object names number_is c.in-Some.object.entry same (g.met.F.Folder.are_bytes c.args.folder.now image there))
    (c.print_range.ensures.part image there (range-bytes c.args.self.now state image k c.args.range.handle c.args.range.stream c.args.range.offset b.binding b.bound passes c.args.range.number m count object names number_is c.in-Some.object.entry same (g.met.F.Folder.are_bytes c.args.folder.now image there)))

pub returns-clause-untold : goal.returns-clause-untold
returns-clause-untold g c any =
    c.print_range.ensures.untold (λ image there.
    let b = bound-object c.args.self.now.handles c.args.range.handle c.object.result c.in-Some.object c.object.ensures.object c.in-Some.is in
    let same : c.in-Some.object.entry ≡ b.binding.entry = ap (λ (o : OpenObject). o.entry) b.same in
    let one = any image there in
    range-bytes c.args.self.now one.state image one.kept c.args.range.handle c.args.range.stream c.args.range.offset b.binding b.bound one.passes c.args.range.number one.n one.count one.object one.names one.number_is c.in-Some.object.entry same (g.met.F.Folder.are_bytes c.args.folder.now image there))
