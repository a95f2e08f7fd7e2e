use Rattle.std.proofs.Common.{◌≡◌, List, [], None, subst, sym}
use Rattle.std.specs.Option.{ForSome}
use Rattle.spec_image.specs.Told.{Passes, Stays}
use Rattle.blk_io.proofs.Carried.{carried}
use Rattle.blk_io.specs.Streams.{Appends}
use Rattle.blk_model.specs.Room.{Group, without}
use Rattle.blk_model.specs.State.{State}
use Rattle.blk_script.specs.Reply.{evicted_text}
use Rattle.blk_cache.specs.CacheKeeping.{HoldsState}
use Rattle.blk_cache.specs.Covering.{AreCovered}
use Rattle.blk_cache.specs.Evicting.{IsEvicting}
use Rattle.blk_cache.proofs.CoveredParts.{none-covered}
use Rattle.blk_evict.specs.RoomPrinting.{PrintsUnlessFailed}
use Rattle.blk_cache.proofs.CreateWhole.{if_ok_weaker, made-front, made-says, on-ok, only-done, room-groups, room-stops, whole-does, whole-stops, whole-untold}
use Rattle.blk_cache.proofs.cache.Cache.create_with_room.Goals as goal

-- What has to be evicted can't be.

pub returns-in_err-evict_for-clause-stops : goal.returns-in_err-evict_for-clause-stops
returns-in_err-evict_for-clause-stops g c passes =
    room-stops c.args.self.now (g.F.Folder.told c.args.folder.now) (g.F.Folder.told c.evict_for.new.folder) c.args.moment c.args.handle c.args.key.now passes
    (room-groups c.args.self.now (g.F.Folder.told c.args.folder.now) c.args.moment c.args.handle c.args.key.now c.none.result (λ (state : State) (groups : List Group). Passes (g.F.Folder.told c.args.folder.now) (g.F.Folder.told c.evict_for.new.folder) (IsEvicting groups state)) c.none.ensures passes c.in_err-evict_for.ensures.stops)

pub returns-in_err-evict_for-clause-front : goal.returns-in_err-evict_for-clause-front
returns-in_err-evict_for-clause-front g c passes =
    made-front c.args.moment c.args.handle c.args.key.now c.args.self.now (g.F.Folder.told c.args.folder.now) c.args.failed.now c.evict_for.new.failed (g.K.Sink.written c.args.out.now) (g.K.Sink.written c.evict_for.new.out) passes
    (room-groups c.args.self.now (g.F.Folder.told c.args.folder.now) c.args.moment c.args.handle c.args.key.now c.none.result (λ (state : State) (groups : List Group). Appends (g.K.Sink.written c.args.out.now) (g.K.Sink.written c.evict_for.new.out) (evicted_text groups)) c.none.ensures passes c.in_err-evict_for.ensures.front)

pub returns-in_err-evict_for-clause-untold : goal.returns-in_err-evict_for-clause-untold
returns-in_err-evict_for-clause-untold g c passes some =
    carried c.evict_for.result c.from_residual.result c.in_err-evict_for.field-0.0 (λ _. (g.F.Folder.told c.args.folder.now).files ≡ None) c.in_err-evict_for.was c.from_residual.ensures.1
    (c.evict_for.ensures.untold (λ image there. let k = some image there in record { state = k.0; kept = k.1; covered = []; are = subst (AreCovered k.0 k.1.layout []) (sym c.none.ensures) (none-covered k.0 k.1.layout) }))

-- It is evicted, and the object is made.

pub returns-clause-does : goal.returns-clause-does
returns-clause-does g c passes =
    if_ok_weaker c.end_create.result
    (λ given. whole-does c.args.self.now (g.F.Folder.told c.args.folder.now) (g.F.Folder.told c.evict_for.new.folder) c.args.moment c.args.handle c.args.key.now passes
    (room-groups c.args.self.now (g.F.Folder.told c.args.folder.now) c.args.moment c.args.handle c.args.key.now c.none.result (λ (state : State) (groups : List Group). Passes (g.F.Folder.told c.args.folder.now) (g.F.Folder.told c.evict_for.new.folder) (IsEvicting groups state)) c.none.ensures passes c.in_ok-evict_for.ensures.stops)
    c.evict_for.new.self
    (room-groups c.args.self.now (g.F.Folder.told c.args.folder.now) c.args.moment c.args.handle c.args.key.now c.none.result (λ (state : State) (groups : List Group). ForSome (g.F.Folder.told c.evict_for.new.folder).files (HoldsState c.evict_for.new.self (without groups state))) c.none.ensures passes c.in_ok-evict_for.ensures.evicted)
    (g.F.Folder.told c.end_create.new.folder) c.end_create.new.self given)
    c.end_create.ensures.does

pub returns-clause-stops : goal.returns-clause-stops
returns-clause-stops g c passes =
    whole-stops c.args.self.now (g.F.Folder.told c.args.folder.now) (g.F.Folder.told c.evict_for.new.folder) c.args.moment c.args.handle c.args.key.now passes
    (room-groups c.args.self.now (g.F.Folder.told c.args.folder.now) c.args.moment c.args.handle c.args.key.now c.none.result (λ (state : State) (groups : List Group). Passes (g.F.Folder.told c.args.folder.now) (g.F.Folder.told c.evict_for.new.folder) (IsEvicting groups state)) c.none.ensures passes c.in_ok-evict_for.ensures.stops)
    c.evict_for.new.self
    (room-groups c.args.self.now (g.F.Folder.told c.args.folder.now) c.args.moment c.args.handle c.args.key.now c.none.result (λ (state : State) (groups : List Group). ForSome (g.F.Folder.told c.evict_for.new.folder).files (HoldsState c.evict_for.new.self (without groups state))) c.none.ensures passes c.in_ok-evict_for.ensures.evicted)
    (g.F.Folder.told c.end_create.new.folder) c.end_create.ensures.stops

pub returns-clause-says : goal.returns-clause-says
returns-clause-says g c passes =
    on-ok c.end_create.result _
    (made-says c.args.moment c.args.handle c.args.key.now c.args.self.now (g.F.Folder.told c.args.folder.now) c.args.failed.now c.evict_for.new.failed (g.K.Sink.written c.args.out.now) (g.K.Sink.written c.evict_for.new.out) passes
    (room-groups c.args.self.now (g.F.Folder.told c.args.folder.now) c.args.moment c.args.handle c.args.key.now c.none.result (λ (state : State) (groups : List Group). PrintsUnlessFailed c.args.failed.now c.evict_for.new.failed (g.K.Sink.written c.args.out.now) (g.K.Sink.written c.evict_for.new.out) (evicted_text groups)) c.none.ensures passes c.in_ok-evict_for.ensures.prints))

pub returns-clause-front : goal.returns-clause-front
returns-clause-front g c passes =
    made-front c.args.moment c.args.handle c.args.key.now c.args.self.now (g.F.Folder.told c.args.folder.now) c.args.failed.now c.evict_for.new.failed (g.K.Sink.written c.args.out.now) (g.K.Sink.written c.evict_for.new.out) passes
    (room-groups c.args.self.now (g.F.Folder.told c.args.folder.now) c.args.moment c.args.handle c.args.key.now c.none.result (λ (state : State) (groups : List Group). Appends (g.K.Sink.written c.args.out.now) (g.K.Sink.written c.evict_for.new.out) (evicted_text groups)) c.none.ensures passes c.in_ok-evict_for.ensures.front)

pub returns-clause-untold : goal.returns-clause-untold
returns-clause-untold g c passes some =
    whole-untold c.args.self.now (g.F.Folder.told c.args.folder.now) (g.F.Folder.told c.evict_for.new.folder) c.args.moment c.args.handle c.args.key.now passes
    (room-groups c.args.self.now (g.F.Folder.told c.args.folder.now) c.args.moment c.args.handle c.args.key.now c.none.result (λ (state : State) (groups : List Group). Passes (g.F.Folder.told c.args.folder.now) (g.F.Folder.told c.evict_for.new.folder) (IsEvicting groups state)) c.none.ensures passes c.in_ok-evict_for.ensures.stops)
    c.evict_for.new.self
    (room-groups c.args.self.now (g.F.Folder.told c.args.folder.now) c.args.moment c.args.handle c.args.key.now c.none.result (λ (state : State) (groups : List Group). ForSome (g.F.Folder.told c.evict_for.new.folder).files (HoldsState c.evict_for.new.self (without groups state))) c.none.ensures passes c.in_ok-evict_for.ensures.evicted)
    c.end_create.result c.end_create.ensures.untold some

pub returns-clause-quiet : goal.returns-clause-quiet
returns-clause-quiet g c = only-done c.end_create.result (Stays (g.F.Folder.told c.args.folder.now) (g.F.Folder.told c.end_create.new.folder)) c.end_create.ensures.done

pub returns-clause-unchanged : goal.returns-clause-unchanged
returns-clause-unchanged g c = only-done c.end_create.result (c.end_create.new.self ≡ c.args.self.now) c.end_create.ensures.done
