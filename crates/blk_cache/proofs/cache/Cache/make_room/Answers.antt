use Rattle.std.proofs.Common.{◌≡◌, [], sym, subst, false}
use Rattle.std.proofs.lemmas.Result.{on_ok_weaker, on_err_weaker}
use Rattle.std.specs.Option.{ForSome}
use Rattle.spec_image.specs.Told.{Passes}
use Rattle.blk_io.specs.Streams.{Appends}
use Rattle.blk_lru.proofs.Results.{if_ok_weaker}
use Rattle.blk_model.specs.Refusals.{evicted_for, is_full}
use Rattle.blk_model.specs.Room.{room, without}
use Rattle.blk_script.specs.Reply.{evicted_text}
use Rattle.blk_cache.specs.CacheKeeping.{HoldsState}
use Rattle.blk_cache.specs.Covering.{AreCovered}
use Rattle.blk_cache.specs.Evicting.{IsEvicting}
use Rattle.blk_cache.specs.MakingRoom.{says_full}
use Rattle.blk_evict.specs.RoomPrinting.{PrintsUnlessFailed}
use Rattle.blk_cache.proofs.CoveredParts.{for-none, none-covered}
use Rattle.blk_cache.proofs.cache.Cache.make_room.Goals as goal

pub returns-clause-full : goal.returns-clause-full
returns-clause-full g c = if_ok_weaker c.make_room_beside.result
    (λ answer. for-none c.args.self.now c.none.result (g.F.Folder.told c.args.folder.now) (λ state covered. says_full answer ≡ is_full (room state covered c.args.bytes c.args.items)) c.none.ensures)
    c.make_room_beside.ensures.full

pub returns-clause-made : goal.returns-clause-made
returns-clause-made g c = on_ok_weaker c.make_room_beside.result
    (for-none c.args.self.now c.none.result (g.F.Folder.told c.args.folder.now) (λ state covered. ForSome (g.F.Folder.told c.make_room_beside.new.folder).files (HoldsState c.make_room_beside.new.self (without (evicted_for (room state covered c.args.bytes c.args.items)) state))) c.none.ensures)
    c.make_room_beside.ensures.made

pub returns-clause-prints : goal.returns-clause-prints
returns-clause-prints g c = on_ok_weaker c.make_room_beside.result
    (for-none c.args.self.now c.none.result (g.F.Folder.told c.args.folder.now) (λ state covered. PrintsUnlessFailed c.args.failed.now c.make_room_beside.new.failed (g.K.Sink.written c.args.out.now) (g.K.Sink.written c.make_room_beside.new.out) (evicted_text (evicted_for (room state covered c.args.bytes c.args.items)))) c.none.ensures)
    c.make_room_beside.ensures.prints

pub returns-clause-stops : goal.returns-clause-stops
returns-clause-stops g c =
    for-none c.args.self.now c.none.result (g.F.Folder.told c.args.folder.now) (λ state covered. Passes (g.F.Folder.told c.args.folder.now) (g.F.Folder.told c.make_room_beside.new.folder) (IsEvicting (evicted_for (room state covered c.args.bytes c.args.items)) state)) c.none.ensures
    c.make_room_beside.ensures.stops

pub returns-clause-front : goal.returns-clause-front
returns-clause-front g c =
    for-none c.args.self.now c.none.result (g.F.Folder.told c.args.folder.now) (λ state covered. Appends (g.K.Sink.written c.args.out.now) (g.K.Sink.written c.make_room_beside.new.out) (evicted_text (evicted_for (room state covered c.args.bytes c.args.items)))) c.none.ensures
    c.make_room_beside.ensures.front

pub returns-clause-untold : goal.returns-clause-untold
returns-clause-untold g c any = c.make_room_beside.ensures.untold (λ image there.
    let a = any image there in
    record { state = a.0; kept = a.1; covered = []; are = subst (AreCovered a.0 a.1.layout []) (sym c.none.ensures) (none-covered a.0 a.1.layout) })

pub returns-clause-tried : goal.returns-clause-tried
returns-clause-tried g c = on_err_weaker c.make_room_beside.result
    (for-none c.args.self.now c.none.result (g.F.Folder.told c.args.folder.now) (λ state covered. is_full (room state covered c.args.bytes c.args.items) ≡ false) c.none.ensures)
    c.make_room_beside.ensures.tried
