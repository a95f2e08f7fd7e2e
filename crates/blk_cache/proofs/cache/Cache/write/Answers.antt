use Rattle.std.proofs.Common.{◌≡◌, [], sym, ap, subst, ◌∙◌, false}
use Rattle.std.specs.Option.{ForSome}
use Rattle.spec_image.specs.Image.{Image}
use Rattle.spec_image.specs.Told.{Passes, Told}
use Rattle.blk_io.specs.Streams.{Appends}
use Rattle.blk_model.specs.Refusals.{evicted_for, is_full}
use Rattle.blk_model.specs.Request.{to_write}
use Rattle.blk_model.specs.Room.{room, without}
use Rattle.blk_model.specs.State.{State}
use Rattle.blk_model.specs.declared.Answer.TheVariants as answer
use Rattle.blk_model.specs.declared.Refusal.TheVariants as refusal
use Rattle.law_state.specs.Commands.{Does, ForKept}
use Rattle.law_state.proofs.Stopping.{nothing-stops, refusals-done}
use Rattle.blk_script.specs.Reply.{evicted_text}
use Rattle.blk_cache.specs.declared.cache.Cache.{Cache}
use Rattle.blk_cache.specs.CacheKeeping.{HoldsState}
use Rattle.blk_cache.specs.Evicting.{IsEvicting}
use Rattle.blk_cache.specs.MakingRoom.{says_full}
use Rattle.blk_evict.specs.RoomPrinting.{PrintsUnlessFailed}
use Rattle.blk_cache.specs.Writing.{IsAskedToWrite}
use Rattle.blk_cache.proofs.CreateWhole.{if_ok_weaker, on-ok}
use Rattle.blk_cache.proofs.Refusing.{says-kept}
use Rattle.blk_cache.proofs.WriteWhole.{front-before, made-front, made-says, refused-full, refused-says, room-stops, whole-does, whole-stops, whole-untold, write-wants, tried-spares}
use Rattle.blk_cache.proofs.Sparing.{any-err, stayed-spares}
use Rattle.blk_cache.proofs.cache.Cache.write.Goals as goal

-- what holds of each state that is kept, on the same folder
same-told : (keeps : State → Image → Type 0) (a b : Told) (P : Told → State → Type 0) → b ≡ a → ForKept keeps b (P b) → ForKept keeps a (P a)
same-told keeps a b P same holds = subst (λ (t : Told). ForKept keeps t (P t)) same holds

-- It isn't known whether it is refused.

pub returns-in_err-asked-clause-stops : goal.returns-in_err-asked-clause-stops
returns-in_err-asked-clause-stops g c =
    nothing-stops (HoldsState c.args.self.now) (says-kept c.args.self.now) (g.F.Folder.told c.args.folder.now) (g.F.Folder.told c.refuses_write.new.folder) c.args.request.now.moment (to_write c.args.request.now.handle c.args.request.now.stream c.args.request.now.offset c.args.request.now.cut c.args.request.now.bytes.now) c.in_err-asked.ensures.reads.stays

pub returns-in_err-asked-clause-front : goal.returns-in_err-asked-clause-front
returns-in_err-asked-clause-front g c = front-before c.args.request.now.moment (to_write c.args.request.now.handle c.args.request.now.stream c.args.request.now.offset c.args.request.now.cut c.args.request.now.bytes.now) c.args.self.now (g.F.Folder.told c.args.folder.now) c.args.failed.now c.args.failed.now (g.K.Sink.written c.args.out.now) (g.K.Sink.written c.args.out.now)

-- It is refused.

pub returns-in-Refused-clause-does : goal.returns-in-Refused-clause-does
returns-in-Refused-clause-does g c =
    refusals-done (HoldsState c.args.self.now) (g.F.Folder.told c.args.folder.now) (g.F.Folder.told c.refuses_write.new.folder) c.args.request.now.moment (to_write c.args.request.now.handle c.args.request.now.stream c.args.request.now.offset c.args.request.now.cut c.args.request.now.bytes.now) c.in-Refused.why c.in_ok-asked.ensures.reads.stays
    (λ image there state k. subst (IsAskedToWrite state k.layout c.args.request.now.moment c.args.request.now.handle c.args.request.now.stream c.args.request.now.offset c.args.request.now.cut c.args.request.now.bytes.now) c.in-Refused.is (c.in_ok-asked.ensures.asked image there state c.args.request.now.moment c.args.request.now.cut k))

pub returns-in-Refused-clause-stops : goal.returns-in-Refused-clause-stops
returns-in-Refused-clause-stops g c =
    nothing-stops (HoldsState c.args.self.now) (says-kept c.args.self.now) (g.F.Folder.told c.args.folder.now) (g.F.Folder.told c.refuses_write.new.folder) c.args.request.now.moment (to_write c.args.request.now.handle c.args.request.now.stream c.args.request.now.offset c.args.request.now.cut c.args.request.now.bytes.now) c.in_ok-asked.ensures.reads.stays

pub returns-in-Refused-clause-says : goal.returns-in-Refused-clause-says
returns-in-Refused-clause-says g c =
    refused-says c.args.request.now.moment (to_write c.args.request.now.handle c.args.request.now.stream c.args.request.now.offset c.args.request.now.cut c.args.request.now.bytes.now) c.args.self.now (g.F.Folder.told c.args.folder.now) c.args.failed.now c.args.failed.now (g.K.Sink.written c.args.out.now) (g.K.Sink.written c.args.out.now) c.in-Refused.why
    (λ image there state k. subst (IsAskedToWrite state k.layout c.args.request.now.moment c.args.request.now.handle c.args.request.now.stream c.args.request.now.offset c.args.request.now.cut c.args.request.now.bytes.now) c.in-Refused.is (c.in_ok-asked.ensures.asked image there state c.args.request.now.moment c.args.request.now.cut k))

pub returns-in-Refused-clause-front : goal.returns-in-Refused-clause-front
returns-in-Refused-clause-front g c = front-before c.args.request.now.moment (to_write c.args.request.now.handle c.args.request.now.stream c.args.request.now.offset c.args.request.now.cut c.args.request.now.bytes.now) c.args.self.now (g.F.Folder.told c.args.folder.now) c.args.failed.now c.args.failed.now (g.K.Sink.written c.args.out.now) (g.K.Sink.written c.args.out.now)

pub returns-in-Refused-clause-is_open : goal.returns-in-Refused-clause-is_open
returns-in-Refused-clause-is_open g c image now = c.requires.is_open image (ap (λ (t : Told). t.files) (sym c.in_ok-asked.ensures.reads.stays) ∙ now)

-- Space is made.

pub make_room-requires : goal.make_room-requires
make_room-requires g c = record { is_open = λ image now. c.requires.is_open image (ap (λ (t : Told). t.files) (sym c.in_ok-asked.ensures.reads.stays) ∙ now) }

pub returns-in_err-make_room-in-Stream-clause-stops : goal.returns-in_err-make_room-in-Stream-clause-stops
returns-in_err-make_room-in-Stream-clause-stops g c =
    room-stops c.args.request.now.moment (to_write c.args.request.now.handle c.args.request.now.stream c.args.request.now.offset c.args.request.now.cut c.args.request.now.bytes.now) c.rise-rise.result c.args.self.now (g.F.Folder.told c.args.folder.now)
    (write-wants c.args.request.now.moment c.args.request.now.handle c.args.request.now.stream c.args.request.now.offset c.args.request.now.cut c.args.request.now.bytes.now c.args.self.now (g.F.Folder.told c.args.folder.now) c.in-Stream.named c.rise-rise.result c.rise-rise.ensures (λ image there state k. subst (IsAskedToWrite state k.layout c.args.request.now.moment c.args.request.now.handle c.args.request.now.stream c.args.request.now.offset c.args.request.now.cut c.args.request.now.bytes.now) c.in-Stream.is (c.in_ok-asked.ensures.asked image there state c.args.request.now.moment c.args.request.now.cut k)))
    (g.F.Folder.told c.make_room.new.folder)
    (same-told (HoldsState c.args.self.now) (g.F.Folder.told c.args.folder.now) (g.F.Folder.told c.refuses_write.new.folder) (λ told state. Passes told (g.F.Folder.told c.make_room.new.folder) (IsEvicting (evicted_for (room state [] c.rise-rise.result 0)) state)) c.in_ok-asked.ensures.reads.stays c.make_room.ensures.stops)

pub returns-in_err-make_room-in-Stream-clause-front : goal.returns-in_err-make_room-in-Stream-clause-front
returns-in_err-make_room-in-Stream-clause-front g c =
    made-front c.args.request.now.moment (to_write c.args.request.now.handle c.args.request.now.stream c.args.request.now.offset c.args.request.now.cut c.args.request.now.bytes.now) c.rise-rise.result c.args.self.now (g.F.Folder.told c.args.folder.now)
    (write-wants c.args.request.now.moment c.args.request.now.handle c.args.request.now.stream c.args.request.now.offset c.args.request.now.cut c.args.request.now.bytes.now c.args.self.now (g.F.Folder.told c.args.folder.now) c.in-Stream.named c.rise-rise.result c.rise-rise.ensures (λ image there state k. subst (IsAskedToWrite state k.layout c.args.request.now.moment c.args.request.now.handle c.args.request.now.stream c.args.request.now.offset c.args.request.now.cut c.args.request.now.bytes.now) c.in-Stream.is (c.in_ok-asked.ensures.asked image there state c.args.request.now.moment c.args.request.now.cut k)))
    c.args.failed.now c.make_room.new.failed (g.K.Sink.written c.args.out.now) (g.K.Sink.written c.make_room.new.out)
    (same-told (HoldsState c.args.self.now) (g.F.Folder.told c.args.folder.now) (g.F.Folder.told c.refuses_write.new.folder) (λ told state. Appends (g.K.Sink.written c.args.out.now) (g.K.Sink.written c.make_room.new.out) (evicted_text (evicted_for (room state [] c.rise-rise.result 0)))) c.in_ok-asked.ensures.reads.stays c.make_room.ensures.front)

-- There is none.

pub returns-in-Full-clause-does : goal.returns-in-Full-clause-does
returns-in-Full-clause-does g c =
    let over = ap says_full c.in-Full.is in
    subst (λ (s : Cache). Does (HoldsState c.args.self.now) (HoldsState s) (g.F.Folder.told c.args.folder.now) (g.F.Folder.told c.make_room.new.folder) c.args.request.now.moment (to_write c.args.request.now.handle c.args.request.now.stream c.args.request.now.offset c.args.request.now.cut c.args.request.now.bytes.now) (answer.Refused refusal.Full)) (sym (c.in_ok-make_room-in-Stream.ensures.unchanged over))
    (refusals-done (HoldsState c.args.self.now) (g.F.Folder.told c.args.folder.now) (g.F.Folder.told c.make_room.new.folder) c.args.request.now.moment (to_write c.args.request.now.handle c.args.request.now.stream c.args.request.now.offset c.args.request.now.cut c.args.request.now.bytes.now) refusal.Full (c.in_ok-make_room-in-Stream.ensures.stays over ∙ c.in_ok-asked.ensures.reads.stays)
    (λ image there state k. refused-full c.args.request.now.moment (to_write c.args.request.now.handle c.args.request.now.stream c.args.request.now.offset c.args.request.now.cut c.args.request.now.bytes.now) c.rise-rise.result state
    ((write-wants c.args.request.now.moment c.args.request.now.handle c.args.request.now.stream c.args.request.now.offset c.args.request.now.cut c.args.request.now.bytes.now c.args.self.now (g.F.Folder.told c.args.folder.now) c.in-Stream.named c.rise-rise.result c.rise-rise.ensures (λ image there state k. subst (IsAskedToWrite state k.layout c.args.request.now.moment c.args.request.now.handle c.args.request.now.stream c.args.request.now.offset c.args.request.now.cut c.args.request.now.bytes.now) c.in-Stream.is (c.in_ok-asked.ensures.asked image there state c.args.request.now.moment c.args.request.now.cut k))) image there state k)
    (sym (c.in_ok-make_room-in-Stream.ensures.full image (ap (λ (t : Told). t.files) c.in_ok-asked.ensures.reads.stays ∙ there) state k) ∙ over)))

pub returns-in-Full-clause-stops : goal.returns-in-Full-clause-stops
returns-in-Full-clause-stops g c =
    nothing-stops (HoldsState c.args.self.now) (says-kept c.args.self.now) (g.F.Folder.told c.args.folder.now) (g.F.Folder.told c.make_room.new.folder) c.args.request.now.moment (to_write c.args.request.now.handle c.args.request.now.stream c.args.request.now.offset c.args.request.now.cut c.args.request.now.bytes.now) (c.in_ok-make_room-in-Stream.ensures.stays (ap says_full c.in-Full.is) ∙ c.in_ok-asked.ensures.reads.stays)

pub returns-in-Full-clause-says : goal.returns-in-Full-clause-says
returns-in-Full-clause-says g c =
    made-says c.args.request.now.moment (to_write c.args.request.now.handle c.args.request.now.stream c.args.request.now.offset c.args.request.now.cut c.args.request.now.bytes.now) c.rise-rise.result c.args.self.now (g.F.Folder.told c.args.folder.now)
    (write-wants c.args.request.now.moment c.args.request.now.handle c.args.request.now.stream c.args.request.now.offset c.args.request.now.cut c.args.request.now.bytes.now c.args.self.now (g.F.Folder.told c.args.folder.now) c.in-Stream.named c.rise-rise.result c.rise-rise.ensures (λ image there state k. subst (IsAskedToWrite state k.layout c.args.request.now.moment c.args.request.now.handle c.args.request.now.stream c.args.request.now.offset c.args.request.now.cut c.args.request.now.bytes.now) c.in-Stream.is (c.in_ok-asked.ensures.asked image there state c.args.request.now.moment c.args.request.now.cut k)))
    c.args.failed.now c.make_room.new.failed (g.K.Sink.written c.args.out.now) (g.K.Sink.written c.make_room.new.out)
    (same-told (HoldsState c.args.self.now) (g.F.Folder.told c.args.folder.now) (g.F.Folder.told c.refuses_write.new.folder) (λ told state. PrintsUnlessFailed c.args.failed.now c.make_room.new.failed (g.K.Sink.written c.args.out.now) (g.K.Sink.written c.make_room.new.out) (evicted_text (evicted_for (room state [] c.rise-rise.result 0)))) c.in_ok-asked.ensures.reads.stays c.in_ok-make_room-in-Stream.ensures.prints)

pub returns-in-Full-clause-front : goal.returns-in-Full-clause-front
returns-in-Full-clause-front g c =
    made-front c.args.request.now.moment (to_write c.args.request.now.handle c.args.request.now.stream c.args.request.now.offset c.args.request.now.cut c.args.request.now.bytes.now) c.rise-rise.result c.args.self.now (g.F.Folder.told c.args.folder.now)
    (write-wants c.args.request.now.moment c.args.request.now.handle c.args.request.now.stream c.args.request.now.offset c.args.request.now.cut c.args.request.now.bytes.now c.args.self.now (g.F.Folder.told c.args.folder.now) c.in-Stream.named c.rise-rise.result c.rise-rise.ensures (λ image there state k. subst (IsAskedToWrite state k.layout c.args.request.now.moment c.args.request.now.handle c.args.request.now.stream c.args.request.now.offset c.args.request.now.cut c.args.request.now.bytes.now) c.in-Stream.is (c.in_ok-asked.ensures.asked image there state c.args.request.now.moment c.args.request.now.cut k)))
    c.args.failed.now c.make_room.new.failed (g.K.Sink.written c.args.out.now) (g.K.Sink.written c.make_room.new.out)
    (same-told (HoldsState c.args.self.now) (g.F.Folder.told c.args.folder.now) (g.F.Folder.told c.refuses_write.new.folder) (λ told state. Appends (g.K.Sink.written c.args.out.now) (g.K.Sink.written c.make_room.new.out) (evicted_text (evicted_for (room state [] c.rise-rise.result 0)))) c.in_ok-asked.ensures.reads.stays c.make_room.ensures.front)

-- There is, and the stream is written.

pub returns-in-Made-clause-does : goal.returns-in-Made-clause-does
returns-in-Made-clause-does g c =
    if_ok_weaker c.end_write.result
    (λ given. whole-does c.args.request.now.moment c.args.request.now.handle c.args.request.now.stream c.args.request.now.offset c.args.request.now.cut c.args.request.now.bytes.now c.args.self.now (g.F.Folder.told c.args.folder.now) c.in-Stream.named c.rise-rise.result c.rise-rise.ensures (λ image there state k. subst (IsAskedToWrite state k.layout c.args.request.now.moment c.args.request.now.handle c.args.request.now.stream c.args.request.now.offset c.args.request.now.cut c.args.request.now.bytes.now) c.in-Stream.is (c.in_ok-asked.ensures.asked image there state c.args.request.now.moment c.args.request.now.cut k))
    (g.F.Folder.told c.make_room.new.folder)
    (same-told (HoldsState c.args.self.now) (g.F.Folder.told c.args.folder.now) (g.F.Folder.told c.refuses_write.new.folder) (λ told state. Passes told (g.F.Folder.told c.make_room.new.folder) (IsEvicting (evicted_for (room state [] c.rise-rise.result 0)) state)) c.in_ok-asked.ensures.reads.stays c.make_room.ensures.stops)
    (λ image there state k. sym (c.in_ok-make_room-in-Stream.ensures.full image (ap (λ (t : Told). t.files) c.in_ok-asked.ensures.reads.stays ∙ there) state k) ∙ ap says_full c.in-Made.is)
    c.make_room.new.self
    (same-told (HoldsState c.args.self.now) (g.F.Folder.told c.args.folder.now) (g.F.Folder.told c.refuses_write.new.folder) (λ told state. ForSome (g.F.Folder.told c.make_room.new.folder).files (HoldsState c.make_room.new.self (without (evicted_for (room state [] c.rise-rise.result 0)) state))) c.in_ok-asked.ensures.reads.stays c.in_ok-make_room-in-Stream.ensures.made)
    (g.F.Folder.told c.end_write.new.folder) c.end_write.new.self given)
    c.end_write.ensures.does

pub returns-in-Made-clause-stops : goal.returns-in-Made-clause-stops
returns-in-Made-clause-stops g c =
    whole-stops c.args.request.now.moment c.args.request.now.handle c.args.request.now.stream c.args.request.now.offset c.args.request.now.cut c.args.request.now.bytes.now c.args.self.now (g.F.Folder.told c.args.folder.now) c.in-Stream.named c.rise-rise.result c.rise-rise.ensures (λ image there state k. subst (IsAskedToWrite state k.layout c.args.request.now.moment c.args.request.now.handle c.args.request.now.stream c.args.request.now.offset c.args.request.now.cut c.args.request.now.bytes.now) c.in-Stream.is (c.in_ok-asked.ensures.asked image there state c.args.request.now.moment c.args.request.now.cut k))
    (g.F.Folder.told c.make_room.new.folder)
    (same-told (HoldsState c.args.self.now) (g.F.Folder.told c.args.folder.now) (g.F.Folder.told c.refuses_write.new.folder) (λ told state. Passes told (g.F.Folder.told c.make_room.new.folder) (IsEvicting (evicted_for (room state [] c.rise-rise.result 0)) state)) c.in_ok-asked.ensures.reads.stays c.make_room.ensures.stops)
    (λ image there state k. sym (c.in_ok-make_room-in-Stream.ensures.full image (ap (λ (t : Told). t.files) c.in_ok-asked.ensures.reads.stays ∙ there) state k) ∙ ap says_full c.in-Made.is)
    c.make_room.new.self
    (same-told (HoldsState c.args.self.now) (g.F.Folder.told c.args.folder.now) (g.F.Folder.told c.refuses_write.new.folder) (λ told state. ForSome (g.F.Folder.told c.make_room.new.folder).files (HoldsState c.make_room.new.self (without (evicted_for (room state [] c.rise-rise.result 0)) state))) c.in_ok-asked.ensures.reads.stays c.in_ok-make_room-in-Stream.ensures.made)
    (g.F.Folder.told c.end_write.new.folder) c.end_write.ensures.stops

pub returns-in-Made-clause-says : goal.returns-in-Made-clause-says
returns-in-Made-clause-says g c =
    on-ok c.end_write.result _
    (made-says c.args.request.now.moment (to_write c.args.request.now.handle c.args.request.now.stream c.args.request.now.offset c.args.request.now.cut c.args.request.now.bytes.now) c.rise-rise.result c.args.self.now (g.F.Folder.told c.args.folder.now)
    (write-wants c.args.request.now.moment c.args.request.now.handle c.args.request.now.stream c.args.request.now.offset c.args.request.now.cut c.args.request.now.bytes.now c.args.self.now (g.F.Folder.told c.args.folder.now) c.in-Stream.named c.rise-rise.result c.rise-rise.ensures (λ image there state k. subst (IsAskedToWrite state k.layout c.args.request.now.moment c.args.request.now.handle c.args.request.now.stream c.args.request.now.offset c.args.request.now.cut c.args.request.now.bytes.now) c.in-Stream.is (c.in_ok-asked.ensures.asked image there state c.args.request.now.moment c.args.request.now.cut k)))
    c.args.failed.now c.make_room.new.failed (g.K.Sink.written c.args.out.now) (g.K.Sink.written c.make_room.new.out)
    (same-told (HoldsState c.args.self.now) (g.F.Folder.told c.args.folder.now) (g.F.Folder.told c.refuses_write.new.folder) (λ told state. PrintsUnlessFailed c.args.failed.now c.make_room.new.failed (g.K.Sink.written c.args.out.now) (g.K.Sink.written c.make_room.new.out) (evicted_text (evicted_for (room state [] c.rise-rise.result 0)))) c.in_ok-asked.ensures.reads.stays c.in_ok-make_room-in-Stream.ensures.prints))

pub returns-in-Made-clause-front : goal.returns-in-Made-clause-front
returns-in-Made-clause-front g c =
    made-front c.args.request.now.moment (to_write c.args.request.now.handle c.args.request.now.stream c.args.request.now.offset c.args.request.now.cut c.args.request.now.bytes.now) c.rise-rise.result c.args.self.now (g.F.Folder.told c.args.folder.now)
    (write-wants c.args.request.now.moment c.args.request.now.handle c.args.request.now.stream c.args.request.now.offset c.args.request.now.cut c.args.request.now.bytes.now c.args.self.now (g.F.Folder.told c.args.folder.now) c.in-Stream.named c.rise-rise.result c.rise-rise.ensures (λ image there state k. subst (IsAskedToWrite state k.layout c.args.request.now.moment c.args.request.now.handle c.args.request.now.stream c.args.request.now.offset c.args.request.now.cut c.args.request.now.bytes.now) c.in-Stream.is (c.in_ok-asked.ensures.asked image there state c.args.request.now.moment c.args.request.now.cut k)))
    c.args.failed.now c.make_room.new.failed (g.K.Sink.written c.args.out.now) (g.K.Sink.written c.make_room.new.out)
    (same-told (HoldsState c.args.self.now) (g.F.Folder.told c.args.folder.now) (g.F.Folder.told c.refuses_write.new.folder) (λ told state. Appends (g.K.Sink.written c.args.out.now) (g.K.Sink.written c.make_room.new.out) (evicted_text (evicted_for (room state [] c.rise-rise.result 0)))) c.in_ok-asked.ensures.reads.stays c.make_room.ensures.front)

pub returns-in-Made-clause-untold : goal.returns-in-Made-clause-untold
returns-in-Made-clause-untold g c some =
    whole-untold c.args.request.now.moment c.args.request.now.handle c.args.request.now.stream c.args.request.now.offset c.args.request.now.cut c.args.request.now.bytes.now c.args.self.now (g.F.Folder.told c.args.folder.now) c.in-Stream.named c.rise-rise.result c.rise-rise.ensures (λ image there state k. subst (IsAskedToWrite state k.layout c.args.request.now.moment c.args.request.now.handle c.args.request.now.stream c.args.request.now.offset c.args.request.now.cut c.args.request.now.bytes.now) c.in-Stream.is (c.in_ok-asked.ensures.asked image there state c.args.request.now.moment c.args.request.now.cut k))
    (g.F.Folder.told c.make_room.new.folder)
    (same-told (HoldsState c.args.self.now) (g.F.Folder.told c.args.folder.now) (g.F.Folder.told c.refuses_write.new.folder) (λ told state. Passes told (g.F.Folder.told c.make_room.new.folder) (IsEvicting (evicted_for (room state [] c.rise-rise.result 0)) state)) c.in_ok-asked.ensures.reads.stays c.make_room.ensures.stops)
    (λ image there state k. sym (c.in_ok-make_room-in-Stream.ensures.full image (ap (λ (t : Told). t.files) c.in_ok-asked.ensures.reads.stays ∙ there) state k) ∙ ap says_full c.in-Made.is)
    c.make_room.new.self
    (same-told (HoldsState c.args.self.now) (g.F.Folder.told c.args.folder.now) (g.F.Folder.told c.refuses_write.new.folder) (λ told state. ForSome (g.F.Folder.told c.make_room.new.folder).files (HoldsState c.make_room.new.self (without (evicted_for (room state [] c.rise-rise.result 0)) state))) c.in_ok-asked.ensures.reads.stays c.in_ok-make_room-in-Stream.ensures.made)
    c.end_write.result c.end_write.ensures.untold some

-- It makes no step where it is refused.

pub returns-in_err-asked-clause-spares : goal.returns-in_err-asked-clause-spares
returns-in_err-asked-clause-spares g c =
    any-err c.from_residual.result _
    (stayed-spares (HoldsState c.args.self.now) (g.F.Folder.told c.args.folder.now) (g.F.Folder.told c.refuses_write.new.folder) c.args.request.now.moment (to_write c.args.request.now.handle c.args.request.now.stream c.args.request.now.offset c.args.request.now.cut c.args.request.now.bytes.now) c.in_err-asked.ensures.reads.stays)

pub returns-in_err-make_room-in-Stream-clause-spares : goal.returns-in_err-make_room-in-Stream-clause-spares
returns-in_err-make_room-in-Stream-clause-spares g c =
    any-err c.from_residual-in_err-make_room-in-Stream.result _
    (tried-spares c.args.request.now.moment (to_write c.args.request.now.handle c.args.request.now.stream c.args.request.now.offset c.args.request.now.cut c.args.request.now.bytes.now) c.rise-rise.result c.args.self.now (g.F.Folder.told c.args.folder.now)
    (write-wants c.args.request.now.moment c.args.request.now.handle c.args.request.now.stream c.args.request.now.offset c.args.request.now.cut c.args.request.now.bytes.now c.args.self.now (g.F.Folder.told c.args.folder.now) c.in-Stream.named c.rise-rise.result c.rise-rise.ensures
    (λ image there state k. subst (IsAskedToWrite state k.layout c.args.request.now.moment c.args.request.now.handle c.args.request.now.stream c.args.request.now.offset c.args.request.now.cut c.args.request.now.bytes.now) c.in-Stream.is (c.in_ok-asked.ensures.asked image there state c.args.request.now.moment c.args.request.now.cut k)))
    (g.F.Folder.told c.make_room.new.folder)
    (same-told (HoldsState c.args.self.now) (g.F.Folder.told c.args.folder.now) (g.F.Folder.told c.refuses_write.new.folder) (λ told state. is_full (room state [] c.rise-rise.result 0) ≡ false) c.in_ok-asked.ensures.reads.stays
    c.in_err-make_room-in-Stream.ensures.tried))

pub returns-in-Made-clause-spares : goal.returns-in-Made-clause-spares
returns-in-Made-clause-spares g c =
    any-err c.end_write.result _
    (tried-spares c.args.request.now.moment (to_write c.args.request.now.handle c.args.request.now.stream c.args.request.now.offset c.args.request.now.cut c.args.request.now.bytes.now) c.rise-rise.result c.args.self.now (g.F.Folder.told c.args.folder.now)
    (write-wants c.args.request.now.moment c.args.request.now.handle c.args.request.now.stream c.args.request.now.offset c.args.request.now.cut c.args.request.now.bytes.now c.args.self.now (g.F.Folder.told c.args.folder.now) c.in-Stream.named c.rise-rise.result c.rise-rise.ensures
    (λ image there state k. subst (IsAskedToWrite state k.layout c.args.request.now.moment c.args.request.now.handle c.args.request.now.stream c.args.request.now.offset c.args.request.now.cut c.args.request.now.bytes.now) c.in-Stream.is (c.in_ok-asked.ensures.asked image there state c.args.request.now.moment c.args.request.now.cut k)))
    (g.F.Folder.told c.end_write.new.folder)
    (λ image there state k. sym (c.in_ok-make_room-in-Stream.ensures.full image (ap (λ (t : Told). t.files) c.in_ok-asked.ensures.reads.stays ∙ there) state k) ∙ ap says_full c.in-Made.is))
