use Rattle.std.proofs.Common.{◌≡◌, List, None}
use Rattle.std.specs.Option.{ForSome}
use Rattle.spec_image.specs.Told.{Passes, Stays}
use Rattle.blk_io.proofs.Carried.{carried}
use Rattle.blk_io.specs.Streams.{Appends}
use Rattle.blk_model.specs.Request.{to_sparse_write}
use Rattle.blk_model.specs.Room.{Group, without}
use Rattle.blk_model.specs.State.{State}
use Rattle.blk_script.specs.Reply.{evicted_text}
use Rattle.blk_evict.specs.RoomPrinting.{PrintsUnlessFailed}
use Rattle.blk_cache.specs.CacheKeeping.{HoldsState}
use Rattle.blk_cache.specs.Evicting.{IsEvicting}
use Rattle.blk_cache.specs.Listing.{OnlyRoomChanges}
use Rattle.blk_cache.specs.SparseWriting.{IsReadyToStore}
use Rattle.blk_cache.proofs.CreateWhole.{if_ok_weaker, on-ok}
use Rattle.blk_cache.proofs.EvictionEnds.{evicting-stops, passed-front, passed-says, then-does, then-stops, then-untold}
use Rattle.blk_cache.proofs.SparseWhole.{goes-on, keeps-covered, sparse-groups, sparse-ready}
use Rattle.blk_cache.proofs.WriteWhole.{only-wrote}
use Rattle.blk_cache.proofs.cache.Cache.write_with_room.Goals as goal

-- What has to be evicted can't be.

pub returns-in_err-evict_for-clause-stops : goal.returns-in_err-evict_for-clause-stops
returns-in_err-evict_for-clause-stops g c has = evicting-stops c.args.request.now.moment (to_sparse_write c.args.request.now.handle c.args.request.now.offset c.args.request.now.bytes.now) c.args.self.now (g.F.Folder.told c.args.folder.now) (goes-on c.args.self.now (g.F.Folder.told c.args.folder.now) c.args.request.now.moment c.args.request.now.handle c.args.request.now.offset c.args.request.now.bytes.now c.args.target.now c.args.rise.now has) (g.F.Folder.told c.evict_for.new.folder) (sparse-groups c.args.self.now (g.F.Folder.told c.args.folder.now) c.args.request.now.moment c.args.request.now.handle c.args.request.now.offset c.args.request.now.bytes.now c.args.target.now c.args.rise.now has (λ (state : State) (groups : List Group). Passes (g.F.Folder.told c.args.folder.now) (g.F.Folder.told c.evict_for.new.folder) (IsEvicting groups state)) c.in_err-evict_for.ensures.stops)

pub returns-in_err-evict_for-clause-front : goal.returns-in_err-evict_for-clause-front
returns-in_err-evict_for-clause-front g c has = passed-front c.args.request.now.moment (to_sparse_write c.args.request.now.handle c.args.request.now.offset c.args.request.now.bytes.now) c.args.self.now (g.F.Folder.told c.args.folder.now) (goes-on c.args.self.now (g.F.Folder.told c.args.folder.now) c.args.request.now.moment c.args.request.now.handle c.args.request.now.offset c.args.request.now.bytes.now c.args.target.now c.args.rise.now has) (g.K.Sink.written c.args.out.now) (g.K.Sink.written c.evict_for.new.out) (sparse-groups c.args.self.now (g.F.Folder.told c.args.folder.now) c.args.request.now.moment c.args.request.now.handle c.args.request.now.offset c.args.request.now.bytes.now c.args.target.now c.args.rise.now has (λ (state : State) (groups : List Group). Appends (g.K.Sink.written c.args.out.now) (g.K.Sink.written c.evict_for.new.out) (evicted_text groups)) c.in_err-evict_for.ensures.front)

pub returns-in_err-evict_for-clause-untold : goal.returns-in_err-evict_for-clause-untold
returns-in_err-evict_for-clause-untold g c has any =
    carried c.evict_for.result c.from_residual.result c.in_err-evict_for.field-0.0 (λ _. (g.F.Folder.told c.args.folder.now).files ≡ None) c.in_err-evict_for.was c.from_residual.ensures.1
    (c.evict_for.ensures.untold (keeps-covered c.args.self.now (g.F.Folder.told c.args.folder.now) c.args.request.now.moment c.args.request.now.handle c.args.request.now.offset c.args.request.now.bytes.now c.args.target.now c.args.rise.now has any))

-- It is evicted, and the bytes are stored.

pub returns-clause-does : goal.returns-clause-does
returns-clause-does g c has =
    if_ok_weaker c.end_sparse_write.result
    (λ given. then-does c.args.request.now.moment (to_sparse_write c.args.request.now.handle c.args.request.now.offset c.args.request.now.bytes.now) c.args.self.now (g.F.Folder.told c.args.folder.now) (goes-on c.args.self.now (g.F.Folder.told c.args.folder.now) c.args.request.now.moment c.args.request.now.handle c.args.request.now.offset c.args.request.now.bytes.now c.args.target.now c.args.rise.now has) (g.F.Folder.told c.evict_for.new.folder) (sparse-groups c.args.self.now (g.F.Folder.told c.args.folder.now) c.args.request.now.moment c.args.request.now.handle c.args.request.now.offset c.args.request.now.bytes.now c.args.target.now c.args.rise.now has (λ (state : State) (groups : List Group). Passes (g.F.Folder.told c.args.folder.now) (g.F.Folder.told c.evict_for.new.folder) (IsEvicting groups state)) c.in_ok-evict_for.ensures.stops)
    (λ state from. IsReadyToStore c.evict_for.new.self state c.args.request.now.moment c.args.request.now.handle c.args.request.now.offset c.args.request.now.bytes.now c.args.target.now c.args.rise.now.bytes c.args.rise.now.items from) (sparse-ready c.args.self.now (g.F.Folder.told c.args.folder.now) c.args.request.now.moment c.args.request.now.handle c.args.request.now.offset c.args.request.now.bytes.now c.args.target.now c.args.rise.now has (g.F.Folder.told c.evict_for.new.folder) c.evict_for.new.self c.requires.some c.requires.few c.kept_bytes-bytes.ensures.few (sparse-groups c.args.self.now (g.F.Folder.told c.args.folder.now) c.args.request.now.moment c.args.request.now.handle c.args.request.now.offset c.args.request.now.bytes.now c.args.target.now c.args.rise.now has (λ (state : State) (groups : List Group). ForSome (g.F.Folder.told c.evict_for.new.folder).files (HoldsState c.evict_for.new.self (without groups state))) c.in_ok-evict_for.ensures.evicted)) (g.F.Folder.told c.end_sparse_write.new.folder) c.end_sparse_write.new.self given)
    c.end_sparse_write.ensures.does

pub returns-clause-stops : goal.returns-clause-stops
returns-clause-stops g c has =
    then-stops c.args.request.now.moment (to_sparse_write c.args.request.now.handle c.args.request.now.offset c.args.request.now.bytes.now) c.args.self.now (g.F.Folder.told c.args.folder.now) (goes-on c.args.self.now (g.F.Folder.told c.args.folder.now) c.args.request.now.moment c.args.request.now.handle c.args.request.now.offset c.args.request.now.bytes.now c.args.target.now c.args.rise.now has) (g.F.Folder.told c.evict_for.new.folder) (sparse-groups c.args.self.now (g.F.Folder.told c.args.folder.now) c.args.request.now.moment c.args.request.now.handle c.args.request.now.offset c.args.request.now.bytes.now c.args.target.now c.args.rise.now has (λ (state : State) (groups : List Group). Passes (g.F.Folder.told c.args.folder.now) (g.F.Folder.told c.evict_for.new.folder) (IsEvicting groups state)) c.in_ok-evict_for.ensures.stops)
    (λ state from. IsReadyToStore c.evict_for.new.self state c.args.request.now.moment c.args.request.now.handle c.args.request.now.offset c.args.request.now.bytes.now c.args.target.now c.args.rise.now.bytes c.args.rise.now.items from) (sparse-ready c.args.self.now (g.F.Folder.told c.args.folder.now) c.args.request.now.moment c.args.request.now.handle c.args.request.now.offset c.args.request.now.bytes.now c.args.target.now c.args.rise.now has (g.F.Folder.told c.evict_for.new.folder) c.evict_for.new.self c.requires.some c.requires.few c.kept_bytes-bytes.ensures.few (sparse-groups c.args.self.now (g.F.Folder.told c.args.folder.now) c.args.request.now.moment c.args.request.now.handle c.args.request.now.offset c.args.request.now.bytes.now c.args.target.now c.args.rise.now has (λ (state : State) (groups : List Group). ForSome (g.F.Folder.told c.evict_for.new.folder).files (HoldsState c.evict_for.new.self (without groups state))) c.in_ok-evict_for.ensures.evicted)) (g.F.Folder.told c.end_sparse_write.new.folder) c.end_sparse_write.ensures.stops

pub returns-clause-says : goal.returns-clause-says
returns-clause-says g c has =
    on-ok c.end_sparse_write.result _
    (passed-says c.args.request.now.moment (to_sparse_write c.args.request.now.handle c.args.request.now.offset c.args.request.now.bytes.now) c.args.self.now (g.F.Folder.told c.args.folder.now) (goes-on c.args.self.now (g.F.Folder.told c.args.folder.now) c.args.request.now.moment c.args.request.now.handle c.args.request.now.offset c.args.request.now.bytes.now c.args.target.now c.args.rise.now has) c.args.failed.now c.evict_for.new.failed (g.K.Sink.written c.args.out.now) (g.K.Sink.written c.evict_for.new.out) (sparse-groups c.args.self.now (g.F.Folder.told c.args.folder.now) c.args.request.now.moment c.args.request.now.handle c.args.request.now.offset c.args.request.now.bytes.now c.args.target.now c.args.rise.now has (λ (state : State) (groups : List Group). PrintsUnlessFailed c.args.failed.now c.evict_for.new.failed (g.K.Sink.written c.args.out.now) (g.K.Sink.written c.evict_for.new.out) (evicted_text groups)) c.in_ok-evict_for.ensures.prints))

pub returns-clause-front : goal.returns-clause-front
returns-clause-front g c has = passed-front c.args.request.now.moment (to_sparse_write c.args.request.now.handle c.args.request.now.offset c.args.request.now.bytes.now) c.args.self.now (g.F.Folder.told c.args.folder.now) (goes-on c.args.self.now (g.F.Folder.told c.args.folder.now) c.args.request.now.moment c.args.request.now.handle c.args.request.now.offset c.args.request.now.bytes.now c.args.target.now c.args.rise.now has) (g.K.Sink.written c.args.out.now) (g.K.Sink.written c.evict_for.new.out) (sparse-groups c.args.self.now (g.F.Folder.told c.args.folder.now) c.args.request.now.moment c.args.request.now.handle c.args.request.now.offset c.args.request.now.bytes.now c.args.target.now c.args.rise.now has (λ (state : State) (groups : List Group). Appends (g.K.Sink.written c.args.out.now) (g.K.Sink.written c.evict_for.new.out) (evicted_text groups)) c.in_ok-evict_for.ensures.front)

pub returns-clause-untold : goal.returns-clause-untold
returns-clause-untold g c has =
    then-untold c.args.request.now.moment (to_sparse_write c.args.request.now.handle c.args.request.now.offset c.args.request.now.bytes.now) c.args.self.now (g.F.Folder.told c.args.folder.now) (goes-on c.args.self.now (g.F.Folder.told c.args.folder.now) c.args.request.now.moment c.args.request.now.handle c.args.request.now.offset c.args.request.now.bytes.now c.args.target.now c.args.rise.now has) (g.F.Folder.told c.evict_for.new.folder) (sparse-groups c.args.self.now (g.F.Folder.told c.args.folder.now) c.args.request.now.moment c.args.request.now.handle c.args.request.now.offset c.args.request.now.bytes.now c.args.target.now c.args.rise.now has (λ (state : State) (groups : List Group). Passes (g.F.Folder.told c.args.folder.now) (g.F.Folder.told c.evict_for.new.folder) (IsEvicting groups state)) c.in_ok-evict_for.ensures.stops)
    (λ state from. IsReadyToStore c.evict_for.new.self state c.args.request.now.moment c.args.request.now.handle c.args.request.now.offset c.args.request.now.bytes.now c.args.target.now c.args.rise.now.bytes c.args.rise.now.items from) (sparse-ready c.args.self.now (g.F.Folder.told c.args.folder.now) c.args.request.now.moment c.args.request.now.handle c.args.request.now.offset c.args.request.now.bytes.now c.args.target.now c.args.rise.now has (g.F.Folder.told c.evict_for.new.folder) c.evict_for.new.self c.requires.some c.requires.few c.kept_bytes-bytes.ensures.few (sparse-groups c.args.self.now (g.F.Folder.told c.args.folder.now) c.args.request.now.moment c.args.request.now.handle c.args.request.now.offset c.args.request.now.bytes.now c.args.target.now c.args.rise.now has (λ (state : State) (groups : List Group). ForSome (g.F.Folder.told c.evict_for.new.folder).files (HoldsState c.evict_for.new.self (without groups state))) c.in_ok-evict_for.ensures.evicted)) c.end_sparse_write.result
    (λ one. c.end_sparse_write.ensures.untold (λ from here. let o = one from here in record { state = o.0; moment = c.args.request.now.moment; ready = o.1 }))

pub returns-clause-quiet : goal.returns-clause-quiet
returns-clause-quiet g c = only-wrote c.end_sparse_write.result _ (Stays (g.F.Folder.told c.args.folder.now) (g.F.Folder.told c.end_sparse_write.new.folder)) c.end_sparse_write.ensures.wrote

pub returns-clause-unchanged : goal.returns-clause-unchanged
returns-clause-unchanged g c = only-wrote c.end_sparse_write.result _ (OnlyRoomChanges c.args.self.now c.end_sparse_write.new.self) c.end_sparse_write.ensures.wrote
