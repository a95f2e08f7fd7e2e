use Rattle.std.proofs.Common.{◌≡◌, List, ℕ, refl, ap, subst, ◌∙◌}
use Rattle.std.proofs.lemmas.Result.{on_ok_weaker}
use Rattle.blk_model.specs.Reply.{gave}
use Rattle.blk_disk.specs.Tables.{is_record_among}
use Rattle.blk_script.specs.Reply.{reply_text}
use Rattle.blk_handles.specs.declared.open_object.OpenObject.{OpenObject}
use Rattle.blk_print.specs.declared.present_printing.PresentRange.{PresentRange}
use Rattle.blk_evict.specs.RoomPrinting.{PrintsUnlessFailed, PrintsInPart}
use Rattle.blk_cache.proofs.DoomSteps.{bound-object}
use Rattle.blk_cache.proofs.PresentReads.{has-present, same-bytes}
use Rattle.blk_cache.proofs.cache.Cache.print_sparse.Goals as goal

pub print_present-requires-clause-names : goal.print_present-requires-clause-names
print_present-requires-clause-names g c =
    let b = bound-object c.args.self.now.handles c.args.handle c.object.result c.in-Some.object c.object.ensures.object c.in-Some.is in
    ap (λ (o : OpenObject). is_record_among c.args.self.now.files o.entry) b.same ∙ (c.args.self.now.stand c.args.handle b.binding b.bound).1

pub returns-clause-printed : goal.returns-clause-printed
returns-clause-printed g c =
    on_ok_weaker c.print_present.result
    (λ printed image there state k p.
    let b = bound-object c.args.self.now.handles c.args.handle c.object.result c.in-Some.object c.object.ensures.object c.in-Some.is in
    let range : PresentRange = record { entry = c.in-Some.object.entry; node = c.in-Some.object.node; offset = c.args.offset; count = c.args.number } in
    let entry_is : c.in-Some.object.entry ≡ b.binding.entry = ap (λ (o : OpenObject). o.entry) b.same in
    let node_is : c.in-Some.object.node ≡ b.binding.node = ap (λ (o : OpenObject). o.node) b.same in
    subst (λ (bytes : List ℕ). PrintsUnlessFailed c.args.failed.now c.print_present.new.failed (g.K.Sink.written c.args.out.now) (g.K.Sink.written c.print_present.new.out) (reply_text (gave bytes)))
    (same-bytes c.args.self.now state image k c.args.handle c.args.offset c.args.number p b.binding b.bound range entry_is node_is refl refl)
    (printed image there (has-present c.args.self.now state image k c.args.handle c.args.offset c.args.number p b.binding b.bound range entry_is node_is refl refl)))
    c.print_present.ensures.printed

pub returns-clause-part : goal.returns-clause-part
returns-clause-part g c image there state k p =
    let b = bound-object c.args.self.now.handles c.args.handle c.object.result c.in-Some.object c.object.ensures.object c.in-Some.is in
    let range : PresentRange = record { entry = c.in-Some.object.entry; node = c.in-Some.object.node; offset = c.args.offset; count = c.args.number } in
    let entry_is : c.in-Some.object.entry ≡ b.binding.entry = ap (λ (o : OpenObject). o.entry) b.same in
    let node_is : c.in-Some.object.node ≡ b.binding.node = ap (λ (o : OpenObject). o.node) b.same in
    subst (λ (bytes : List ℕ). PrintsInPart c.args.failed.now (g.K.Sink.written c.args.out.now) (g.K.Sink.written c.print_present.new.out) (reply_text (gave bytes)))
    (same-bytes c.args.self.now state image k c.args.handle c.args.offset c.args.number p b.binding b.bound range entry_is node_is refl refl)
    (c.print_present.ensures.part image there (has-present c.args.self.now state image k c.args.handle c.args.offset c.args.number p b.binding b.bound range entry_is node_is refl refl))

pub returns-clause-untold : goal.returns-clause-untold
returns-clause-untold g c any =
    c.print_present.ensures.untold (λ image there.
    let b = bound-object c.args.self.now.handles c.args.handle c.object.result c.in-Some.object c.object.ensures.object c.in-Some.is in
    let range : PresentRange = record { entry = c.in-Some.object.entry; node = c.in-Some.object.node; offset = c.args.offset; count = c.args.number } in
    let entry_is : c.in-Some.object.entry ≡ b.binding.entry = ap (λ (o : OpenObject). o.entry) b.same in
    let node_is : c.in-Some.object.node ≡ b.binding.node = ap (λ (o : OpenObject). o.node) b.same in
    let one = any image there in
    has-present c.args.self.now one.state image one.kept c.args.handle c.args.offset c.args.number one.present b.binding b.bound range entry_is node_is refl refl)
