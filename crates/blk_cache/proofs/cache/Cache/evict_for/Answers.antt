use Rattle.std.proofs.Common.{rules, ◌≡◌, ◌∙◌, sym, subst, List, None, true, false}
use Rattle.std.specs.Prelude.{◌==◌, ◌&&◌, ◌||◌}
use Rattle.std.specs.Option.{ForSome}
use Rattle.spec_image.specs.Told.{Passes}
use Rattle.spec_image.proofs.Runs.{some_inj}
use Rattle.blk_io.proofs.Carried.{carried}
use Rattle.blk_io.specs.Streams.{Appends}
use Rattle.blk_model.specs.Refusals.{evicted_for}
use Rattle.blk_model.specs.Room.{Group, fits, room, without}
use Rattle.blk_script.specs.Reply.{evicted_text}
use Rattle.blk_cache.specs.CacheKeeping.{HoldsState}
use Rattle.blk_cache.specs.Evicting.{IsEvicting}
use Rattle.blk_evict.specs.RoomPrinting.{PrintsUnlessFailed}
use Rattle.blk_cache.proofs.RoomMade.{none-goes, none-kept, none-printed-of, none-stops, wanted-goes}
use Rattle.blk_cache.proofs.cache.Cache.evict_for.Goals as goal

pub returns-then-wants_none-clause-evicted : goal.returns-then-wants_none-clause-evicted
returns-then-wants_none-clause-evicted g c image there state k covered are passes now then_there =
    let wanted : ((c.args.bytes == 0 && c.args.items == 0) || fits state.limits.max_bytes c.args.bytes c.args.items state) ≡ true = sym (c.wants_none.ensures.none state image k) ∙ (let e : c.wants_none.result ≡ true = search rules in e) in
    let none = none-goes state covered c.args.bytes c.args.items passes wanted in
    none-kept c.args.self.now state (evicted_for (room state covered c.args.bytes c.args.items)) now none (subst (HoldsState c.args.self.now state) (some_inj (sym there ∙ then_there)) k)

pub returns-then-wants_none-clause-prints : goal.returns-then-wants_none-clause-prints
returns-then-wants_none-clause-prints g c image there state k covered are passes =
    let wanted : ((c.args.bytes == 0 && c.args.items == 0) || fits state.limits.max_bytes c.args.bytes c.args.items state) ≡ true = sym (c.wants_none.ensures.none state image k) ∙ (let e : c.wants_none.result ≡ true = search rules in e) in
    let none = none-goes state covered c.args.bytes c.args.items passes wanted in
    none-printed-of (evicted_for (room state covered c.args.bytes c.args.items)) c.args.failed.now (g.K.Sink.written c.args.out.now) none

pub returns-then-wants_none-clause-stops : goal.returns-then-wants_none-clause-stops
returns-then-wants_none-clause-stops g c image there state k covered are passes =
    none-stops (g.F.Folder.told c.args.folder.now) c.args.self.now state (evicted_for (room state covered c.args.bytes c.args.items)) image there k

pub returns-then-wants_none-clause-front : goal.returns-then-wants_none-clause-front
returns-then-wants_none-clause-front g c image there state k covered are passes =
    let wanted : ((c.args.bytes == 0 && c.args.items == 0) || fits state.limits.max_bytes c.args.bytes c.args.items state) ≡ true = sym (c.wants_none.ensures.none state image k) ∙ (let e : c.wants_none.result ≡ true = search rules in e) in
    let none = none-goes state covered c.args.bytes c.args.items passes wanted in
    (none-printed-of (evicted_for (room state covered c.args.bytes c.args.items)) c.args.failed.now (g.K.Sink.written c.args.out.now) none).front

pub returns-in_err-evict_until-clause-stops : goal.returns-in_err-evict_until-clause-stops
returns-in_err-evict_until-clause-stops g c image there state k covered are passes =
    let wanted : ((c.args.bytes == 0 && c.args.items == 0) || fits state.limits.max_bytes c.args.bytes c.args.items state) ≡ false = sym (c.wants_none.ensures.none state image k) ∙ (let e : c.wants_none.result ≡ false = search rules in e) in
    let goes = wanted-goes state covered c.args.bytes c.args.items passes wanted in
    subst (λ (gs : List Group). Passes (g.F.Folder.told c.args.folder.now) (g.F.Folder.told c.evict_until.new.folder) (IsEvicting gs state)) goes (c.in_err-evict_until.ensures.stops image there state k covered are)

pub returns-in_err-evict_until-clause-front : goal.returns-in_err-evict_until-clause-front
returns-in_err-evict_until-clause-front g c image there state k covered are passes =
    let wanted : ((c.args.bytes == 0 && c.args.items == 0) || fits state.limits.max_bytes c.args.bytes c.args.items state) ≡ false = sym (c.wants_none.ensures.none state image k) ∙ (let e : c.wants_none.result ≡ false = search rules in e) in
    let goes = wanted-goes state covered c.args.bytes c.args.items passes wanted in
    subst (λ (gs : List Group). Appends (g.K.Sink.written c.args.out.now) (g.K.Sink.written c.evict_until.new.out) (evicted_text gs)) goes (c.in_err-evict_until.ensures.front image there state k covered are)

pub returns-in_err-evict_until-clause-untold : goal.returns-in_err-evict_until-clause-untold
returns-in_err-evict_until-clause-untold g c any =
    carried c.evict_until.result c.from_residual.result c.in_err-evict_until.field-0.0 (λ _. (g.F.Folder.told c.args.folder.now).files ≡ None) c.in_err-evict_until.was c.from_residual.ensures.1
    (c.evict_until.ensures.untold any)

pub returns-clause-evicted : goal.returns-clause-evicted
returns-clause-evicted g c image there state k covered are passes =
    let wanted : ((c.args.bytes == 0 && c.args.items == 0) || fits state.limits.max_bytes c.args.bytes c.args.items state) ≡ false = sym (c.wants_none.ensures.none state image k) ∙ (let e : c.wants_none.result ≡ false = search rules in e) in
    let goes = wanted-goes state covered c.args.bytes c.args.items passes wanted in
    subst (λ (gs : List Group). ForSome (g.F.Folder.told c.evict_until.new.folder).files (HoldsState c.evict_until.new.self (without gs state))) goes (c.in_ok-evict_until.ensures.evicted image there state k covered are)

pub returns-clause-prints : goal.returns-clause-prints
returns-clause-prints g c image there state k covered are passes =
    let wanted : ((c.args.bytes == 0 && c.args.items == 0) || fits state.limits.max_bytes c.args.bytes c.args.items state) ≡ false = sym (c.wants_none.ensures.none state image k) ∙ (let e : c.wants_none.result ≡ false = search rules in e) in
    let goes = wanted-goes state covered c.args.bytes c.args.items passes wanted in
    subst (λ (gs : List Group). PrintsUnlessFailed c.args.failed.now c.evict_until.new.failed (g.K.Sink.written c.args.out.now) (g.K.Sink.written c.evict_until.new.out) (evicted_text gs)) goes (c.in_ok-evict_until.ensures.prints image there state k covered are)

pub returns-clause-stops : goal.returns-clause-stops
returns-clause-stops g c image there state k covered are passes =
    let wanted : ((c.args.bytes == 0 && c.args.items == 0) || fits state.limits.max_bytes c.args.bytes c.args.items state) ≡ false = sym (c.wants_none.ensures.none state image k) ∙ (let e : c.wants_none.result ≡ false = search rules in e) in
    let goes = wanted-goes state covered c.args.bytes c.args.items passes wanted in
    subst (λ (gs : List Group). Passes (g.F.Folder.told c.args.folder.now) (g.F.Folder.told c.evict_until.new.folder) (IsEvicting gs state)) goes (c.in_ok-evict_until.ensures.stops image there state k covered are)

pub returns-clause-front : goal.returns-clause-front
returns-clause-front g c image there state k covered are passes =
    let wanted : ((c.args.bytes == 0 && c.args.items == 0) || fits state.limits.max_bytes c.args.bytes c.args.items state) ≡ false = sym (c.wants_none.ensures.none state image k) ∙ (let e : c.wants_none.result ≡ false = search rules in e) in
    let goes = wanted-goes state covered c.args.bytes c.args.items passes wanted in
    subst (λ (gs : List Group). Appends (g.K.Sink.written c.args.out.now) (g.K.Sink.written c.evict_until.new.out) (evicted_text gs)) goes (c.in_ok-evict_until.ensures.front image there state k covered are)
