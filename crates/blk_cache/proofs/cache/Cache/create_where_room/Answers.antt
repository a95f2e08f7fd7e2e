use Rattle.std.proofs.Common.{rules, ◌≡◌, true, false}
use Rattle.blk_cache.proofs.Sparing.{any-err, passed-spares}
use Rattle.blk_cache.specs.CacheKeeping.{HoldsState}
use Rattle.blk_model.specs.Request.{to_create}
use Rattle.blk_cache.proofs.cache.Cache.create_where_room.Goals as goal

-- There is no space.

pub returns-then-has_no_room-clause-does : goal.returns-then-has_no_room-clause-does
returns-then-has_no_room-clause-does g c alone = c.has_no_room.ensures.does (let e : c.has_no_room.result ≡ true = search rules in e) (g.F.Folder.told c.args.folder.now) c.args.moment c.args.handle alone

pub returns-then-has_no_room-clause-stops : goal.returns-then-has_no_room-clause-stops
returns-then-has_no_room-clause-stops g c alone = c.has_no_room.ensures.stops (g.F.Folder.told c.args.folder.now) c.args.moment c.args.handle

pub returns-then-has_no_room-clause-says : goal.returns-then-has_no_room-clause-says
returns-then-has_no_room-clause-says g c alone = c.has_no_room.ensures.says (let e : c.has_no_room.result ≡ true = search rules in e) (g.F.Folder.told c.args.folder.now) c.args.moment c.args.handle alone c.args.failed.now (g.K.Sink.written c.args.out.now)

pub returns-then-has_no_room-clause-front : goal.returns-then-has_no_room-clause-front
returns-then-has_no_room-clause-front g c alone = c.has_no_room.ensures.front (g.F.Folder.told c.args.folder.now) c.args.moment c.args.handle (g.K.Sink.written c.args.out.now)

-- There is.

pub returns-clause-does : goal.returns-clause-does
returns-clause-does g c alone = c.create_with_room.ensures.does (c.has_no_room.ensures.passes (let e : c.has_no_room.result ≡ false = search rules in e) (g.F.Folder.told c.args.folder.now) c.args.moment c.args.handle alone)

pub returns-clause-stops : goal.returns-clause-stops
returns-clause-stops g c alone = c.create_with_room.ensures.stops (c.has_no_room.ensures.passes (let e : c.has_no_room.result ≡ false = search rules in e) (g.F.Folder.told c.args.folder.now) c.args.moment c.args.handle alone)

pub returns-clause-says : goal.returns-clause-says
returns-clause-says g c alone = c.create_with_room.ensures.says (c.has_no_room.ensures.passes (let e : c.has_no_room.result ≡ false = search rules in e) (g.F.Folder.told c.args.folder.now) c.args.moment c.args.handle alone)

pub returns-clause-front : goal.returns-clause-front
returns-clause-front g c alone = c.create_with_room.ensures.front (c.has_no_room.ensures.passes (let e : c.has_no_room.result ≡ false = search rules in e) (g.F.Folder.told c.args.folder.now) c.args.moment c.args.handle alone)

pub returns-clause-untold : goal.returns-clause-untold
returns-clause-untold g c alone = c.create_with_room.ensures.untold (c.has_no_room.ensures.passes (let e : c.has_no_room.result ≡ false = search rules in e) (g.F.Folder.told c.args.folder.now) c.args.moment c.args.handle alone)

pub returns-clause-spares : goal.returns-clause-spares
returns-clause-spares g c alone =
    any-err c.create_with_room.result _
    (passed-spares (HoldsState c.args.self.now) (g.F.Folder.told c.args.folder.now) (g.F.Folder.told c.create_with_room.new.folder) c.args.moment (to_create c.args.handle c.args.key.now)
    (c.has_no_room.ensures.passes (let e : c.has_no_room.result ≡ false = search rules in e) (g.F.Folder.told c.args.folder.now) c.args.moment c.args.handle alone))
