use Rattle.std.proofs.Common.{rules, ◌≡◌, ◌∙◌, sym, subst, None, true, false}
use Rattle.spec_image.proofs.Runs.{some_inj}
use Rattle.blk_io.proofs.Carried.{carried}
use Rattle.blk_model.specs.Refusals.{evicted_for, is_full}
use Rattle.blk_model.specs.Room.{room}
use Rattle.blk_cache.specs.CacheKeeping.{HoldsState}
use Rattle.blk_cache.proofs.RoomMade.{full-none, none-kept, none-printed-of, none-stops}
use Rattle.blk_cache.proofs.Sparing.{any-err}
use Rattle.blk_cache.specs.Covering.{ForCovered}
use Rattle.blk_cache.proofs.cache.Cache.make_room_beside.Goals as goal

pub returns-then-is_full-clause-full : goal.returns-then-is_full-clause-full
returns-then-is_full-clause-full g c image there state k covered are =
    let full : is_full (room state covered c.args.bytes c.args.items) ≡ true = sym (c.is_full.ensures.full state image k covered are) ∙ (let e : c.is_full.result ≡ true = search rules in e) in
    let none = full-none state covered c.args.bytes c.args.items full in
    sym full

pub returns-then-is_full-clause-made : goal.returns-then-is_full-clause-made
returns-then-is_full-clause-made g c image there state k covered are now then_there =
    let full : is_full (room state covered c.args.bytes c.args.items) ≡ true = sym (c.is_full.ensures.full state image k covered are) ∙ (let e : c.is_full.result ≡ true = search rules in e) in
    let none = full-none state covered c.args.bytes c.args.items full in
    none-kept c.args.self.now state (evicted_for (room state covered c.args.bytes c.args.items)) now none (subst (HoldsState c.args.self.now state) (some_inj (sym there ∙ then_there)) k)

pub returns-then-is_full-clause-prints : goal.returns-then-is_full-clause-prints
returns-then-is_full-clause-prints g c image there state k covered are =
    let full : is_full (room state covered c.args.bytes c.args.items) ≡ true = sym (c.is_full.ensures.full state image k covered are) ∙ (let e : c.is_full.result ≡ true = search rules in e) in
    let none = full-none state covered c.args.bytes c.args.items full in
    none-printed-of (evicted_for (room state covered c.args.bytes c.args.items)) c.args.failed.now (g.K.Sink.written c.args.out.now) none

pub returns-then-is_full-clause-stops : goal.returns-then-is_full-clause-stops
returns-then-is_full-clause-stops g c image there state k covered are =
    none-stops (g.F.Folder.told c.args.folder.now) c.args.self.now state (evicted_for (room state covered c.args.bytes c.args.items)) image there k

pub returns-then-is_full-clause-front : goal.returns-then-is_full-clause-front
returns-then-is_full-clause-front g c image there state k covered are =
    let full : is_full (room state covered c.args.bytes c.args.items) ≡ true = sym (c.is_full.ensures.full state image k covered are) ∙ (let e : c.is_full.result ≡ true = search rules in e) in
    let none = full-none state covered c.args.bytes c.args.items full in
    (none-printed-of (evicted_for (room state covered c.args.bytes c.args.items)) c.args.failed.now (g.K.Sink.written c.args.out.now) none).front

pub returns-in_err-evict_for-clause-stops : goal.returns-in_err-evict_for-clause-stops
returns-in_err-evict_for-clause-stops g c image there state k covered are =
    let passes : is_full (room state covered c.args.bytes c.args.items) ≡ false = sym (c.is_full.ensures.full state image k covered are) ∙ (let e : c.is_full.result ≡ false = search rules in e) in
    c.in_err-evict_for.ensures.stops image there state k covered are passes

pub returns-in_err-evict_for-clause-front : goal.returns-in_err-evict_for-clause-front
returns-in_err-evict_for-clause-front g c image there state k covered are =
    let passes : is_full (room state covered c.args.bytes c.args.items) ≡ false = sym (c.is_full.ensures.full state image k covered are) ∙ (let e : c.is_full.result ≡ false = search rules in e) in
    c.in_err-evict_for.ensures.front image there state k covered are passes

pub returns-in_err-evict_for-clause-untold : goal.returns-in_err-evict_for-clause-untold
returns-in_err-evict_for-clause-untold g c any =
    carried c.evict_for.result c.from_residual.result c.in_err-evict_for.field-0.0 (λ _. (g.F.Folder.told c.args.folder.now).files ≡ None) c.in_err-evict_for.was c.from_residual.ensures.1
    (c.evict_for.ensures.untold any)

pub returns-clause-full : goal.returns-clause-full
returns-clause-full g c image there state k covered are =
    let passes : is_full (room state covered c.args.bytes c.args.items) ≡ false = sym (c.is_full.ensures.full state image k covered are) ∙ (let e : c.is_full.result ≡ false = search rules in e) in
    sym passes

pub returns-clause-made : goal.returns-clause-made
returns-clause-made g c image there state k covered are =
    let passes : is_full (room state covered c.args.bytes c.args.items) ≡ false = sym (c.is_full.ensures.full state image k covered are) ∙ (let e : c.is_full.result ≡ false = search rules in e) in
    c.in_ok-evict_for.ensures.evicted image there state k covered are passes

pub returns-clause-prints : goal.returns-clause-prints
returns-clause-prints g c image there state k covered are =
    let passes : is_full (room state covered c.args.bytes c.args.items) ≡ false = sym (c.is_full.ensures.full state image k covered are) ∙ (let e : c.is_full.result ≡ false = search rules in e) in
    c.in_ok-evict_for.ensures.prints image there state k covered are passes

pub returns-clause-stops : goal.returns-clause-stops
returns-clause-stops g c image there state k covered are =
    let passes : is_full (room state covered c.args.bytes c.args.items) ≡ false = sym (c.is_full.ensures.full state image k covered are) ∙ (let e : c.is_full.result ≡ false = search rules in e) in
    c.in_ok-evict_for.ensures.stops image there state k covered are passes

pub returns-clause-front : goal.returns-clause-front
returns-clause-front g c image there state k covered are =
    let passes : is_full (room state covered c.args.bytes c.args.items) ≡ false = sym (c.is_full.ensures.full state image k covered are) ∙ (let e : c.is_full.result ≡ false = search rules in e) in
    c.in_ok-evict_for.ensures.front image there state k covered are passes

pub returns-in_err-evict_for-clause-tried : goal.returns-in_err-evict_for-clause-tried
returns-in_err-evict_for-clause-tried g c =
    any-err c.from_residual.result (ForCovered c.args.self.now c.args.parts.now (g.F.Folder.told c.args.folder.now) (λ state covered. is_full (room state covered c.args.bytes c.args.items) ≡ false))
    (λ image there state k covered are. sym (c.is_full.ensures.full state image k covered are) ∙ (let e : c.is_full.result ≡ false = search rules in e))
