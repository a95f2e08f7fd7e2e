use Rattle.std.proofs.Common.{rules, refl, ◌≡◌, ◌∙◌, sym, ap, subst, arith, inl, inr, Option, Some, None, true, false}
use Rattle.std.specs.Prelude.{IfSome, IsTrue}
use Rattle.spec_image.specs.Told.{Told}
use Rattle.blk_io.proofs.Carried.{carried}
use Rattle.blk_model.specs.Room.{without}
use Rattle.blk_disk.specs.declared.tables.BlockFiles.{BlockFiles}
use Rattle.blk_disk.specs.Tables.{is_node_among}
use Rattle.blk_lru.proofs.Conditions.{told_now}
use Rattle.blk_evict.specs.declared.list_places.Unpinned.{Unpinned}
use Rattle.blk_cache.specs.Evicting.{KeepsThatMayGo, is_met}
use Rattle.blk_evict.specs.ListPlaces.{IsLast}
use Rattle.blk_cache.specs.RoomSearch.{KeepsPinnedFrom}
use Rattle.blk_cache.proofs.Evictions.{all-gone, gone-count, gone-kept, gone-prints, next-front, next-out, next-passes, none-yet, ran-out, so-far-front, so-far-passes, untold-on}
use Rattle.blk_evict.proofs.RoomTexts.{faults-on, same-fails}
use Rattle.blk_io.proofs.GoingOn.{goes_on, stays_on}
use Rattle.blk_cache.proofs.cache.Cache.evict_groups.Goals as goal

pub loop-init : goal.loop-init
loop-init g c = record {
  most = refl;
  stands = tt;
  is_open = c.requires.is_open;
  others = record { limits = refl; open_bytes = refl; handles = refl; files = refl; mark = refl; notes = refl };
  silent = λ none. none;
  later = omega arith;
  sink_later = stays_on;
  quiet = λ failed. (failed, refl);
  fails = same-fails c.args.failed.now (g.K.Sink.faults c.args.out.now) (g.K.Sink.faults c.args.out.now);
  evicted = λ image there state k covered are. none-yet (is_met c.args.goal.now) state covered c.args.parts.now c.args.self.now (g.F.Folder.told c.args.folder.now) c.args.failed.now (g.K.Sink.written c.args.out.now) image there k are.lie;
}

pub returns-then-is_met-clause-evicted : goal.returns-then-is_met-clause-evicted
returns-then-is_met-clause-evicted g c image there state k covered are =
    let h = c.loop.invariant.evicted image there state k covered are in
    let valid = k.kept.entries.valid in
    let met : is_met c.args.goal.now (without h.first state) ≡ true = sym (c.is_met.ensures.met (without h.first state) h.image h.at.kept) ∙ (let e : c.is_met.result ≡ true = search rules in e) in
    let done = all-gone _ state covered c.args.parts.now valid _ _ _ _ _ _ _ _ _ _ h (inl met) in
    gone-kept _ state covered c.args.parts.now valid _ _ _ _ _ _ _ _ _ _ h done

pub returns-then-is_met-clause-counts : goal.returns-then-is_met-clause-counts
returns-then-is_met-clause-counts g c image there state k covered are =
    let h = c.loop.invariant.evicted image there state k covered are in
    let valid = k.kept.entries.valid in
    let met : is_met c.args.goal.now (without h.first state) ≡ true = sym (c.is_met.ensures.met (without h.first state) h.image h.at.kept) ∙ (let e : c.is_met.result ≡ true = search rules in e) in
    let done = all-gone _ state covered c.args.parts.now valid _ _ _ _ _ _ _ _ _ _ h (inl met) in
    gone-count _ state covered c.args.parts.now valid _ _ _ _ _ _ _ _ _ _ h done

pub returns-then-is_met-clause-prints : goal.returns-then-is_met-clause-prints
returns-then-is_met-clause-prints g c image there state k covered are =
    let h = c.loop.invariant.evicted image there state k covered are in
    let valid = k.kept.entries.valid in
    let met : is_met c.args.goal.now (without h.first state) ≡ true = sym (c.is_met.ensures.met (without h.first state) h.image h.at.kept) ∙ (let e : c.is_met.result ≡ true = search rules in e) in
    let done = all-gone _ state covered c.args.parts.now valid _ _ _ _ _ _ _ _ _ _ h (inl met) in
    gone-prints _ state covered c.args.parts.now valid _ _ _ _ _ _ _ _ _ _ h done

pub returns-then-is_met-clause-stops : goal.returns-then-is_met-clause-stops
returns-then-is_met-clause-stops g c image there state k covered are =
    let h = c.loop.invariant.evicted image there state k covered are in
    let valid = k.kept.entries.valid in
    so-far-passes _ state covered c.args.parts.now valid _ _ _ _ _ _ _ _ _ _ h (g.F.Folder.told c.loop.folder) refl

pub returns-then-is_met-clause-front : goal.returns-then-is_met-clause-front
returns-then-is_met-clause-front g c image there state k covered are =
    let h = c.loop.invariant.evicted image there state k covered are in
    let valid = k.kept.entries.valid in
    so-far-front _ state covered c.args.parts.now valid _ _ _ _ _ _ _ _ _ _ h

pub returns-in_err-found-clause-stops : goal.returns-in_err-found-clause-stops
returns-in_err-found-clause-stops g c image there state k covered are =
    let h = c.loop.invariant.evicted image there state k covered are in
    let valid = k.kept.entries.valid in
    so-far-passes _ state covered c.args.parts.now valid _ _ _ _ _ _ _ _ _ _ h (g.F.Folder.told c.last_unpinned.new.folder) c.in_err-found.ensures.reads.stays

pub returns-in_err-found-clause-front : goal.returns-in_err-found-clause-front
returns-in_err-found-clause-front g c image there state k covered are =
    let h = c.loop.invariant.evicted image there state k covered are in
    let valid = k.kept.entries.valid in
    so-far-front _ state covered c.args.parts.now valid _ _ _ _ _ _ _ _ _ _ h

pub returns-in_err-found-clause-is_open : goal.returns-in_err-found-clause-is_open
returns-in_err-found-clause-is_open g c image there = c.loop.invariant.is_open image (told_now image (sym c.in_err-found.ensures.reads.stays) there)

pub returns-in_err-found-clause-untold : goal.returns-in_err-found-clause-untold
returns-in_err-found-clause-untold g c any =
    carried c.last_unpinned.result c.from_residual.result c.in_err-found.field-0.0 (λ _. (g.F.Folder.told c.args.folder.now).files ≡ None) c.in_err-found.was c.from_residual.ensures.1
    (untold-on c.last_unpinned.result (g.F.Folder.told c.args.folder.now) (g.F.Folder.told c.loop.folder) (KeepsPinnedFrom c.loop.self c.args.parts.now c.loop.behind) c.loop.invariant.silent
    (λ from e.
    let a = any from e in
    let h = c.loop.invariant.evicted from e a.state a.kept a.covered a.are in
    (h.image, h.there, record { state = without h.first a.state; kept = h.at.kept; covered = a.covered; lie = h.at.lie; pinned = h.at.pinned }))
    c.last_unpinned.ensures.untold)

pub returns-in_default-clause-evicted : goal.returns-in_default-clause-evicted
returns-in_default-clause-evicted g c image there state k covered are now then_there =
    let h = c.loop.invariant.evicted image there state k covered are in
    let valid = k.kept.entries.valid in
    let none : c.in_ok-found.field-0 ≡ None = search rules in
    let pinned = subst (λ (o : Option Unpinned). IsLast (without h.first state) h.at.kept.layout covered o) none (c.in_ok-found.ensures.last h.image h.there (without h.first state) h.at.kept covered h.at.lie h.at.pinned) in
    let done = all-gone _ state covered c.args.parts.now valid _ _ _ _ _ _ _ _ _ _ h (inr pinned) in
    gone-kept _ state covered c.args.parts.now valid _ _ _ _ _ _ _ _ _ _ h done now (told_now now (sym c.in_ok-found.ensures.reads.stays) then_there)

pub returns-in_default-clause-counts : goal.returns-in_default-clause-counts
returns-in_default-clause-counts g c image there state k covered are =
    let h = c.loop.invariant.evicted image there state k covered are in
    let valid = k.kept.entries.valid in
    let none : c.in_ok-found.field-0 ≡ None = search rules in
    let pinned = subst (λ (o : Option Unpinned). IsLast (without h.first state) h.at.kept.layout covered o) none (c.in_ok-found.ensures.last h.image h.there (without h.first state) h.at.kept covered h.at.lie h.at.pinned) in
    let done = all-gone _ state covered c.args.parts.now valid _ _ _ _ _ _ _ _ _ _ h (inr pinned) in
    gone-count _ state covered c.args.parts.now valid _ _ _ _ _ _ _ _ _ _ h done

pub returns-in_default-clause-prints : goal.returns-in_default-clause-prints
returns-in_default-clause-prints g c image there state k covered are =
    let h = c.loop.invariant.evicted image there state k covered are in
    let valid = k.kept.entries.valid in
    let none : c.in_ok-found.field-0 ≡ None = search rules in
    let pinned = subst (λ (o : Option Unpinned). IsLast (without h.first state) h.at.kept.layout covered o) none (c.in_ok-found.ensures.last h.image h.there (without h.first state) h.at.kept covered h.at.lie h.at.pinned) in
    let done = all-gone _ state covered c.args.parts.now valid _ _ _ _ _ _ _ _ _ _ h (inr pinned) in
    gone-prints _ state covered c.args.parts.now valid _ _ _ _ _ _ _ _ _ _ h done

pub returns-in_default-clause-stops : goal.returns-in_default-clause-stops
returns-in_default-clause-stops g c image there state k covered are =
    let h = c.loop.invariant.evicted image there state k covered are in
    let valid = k.kept.entries.valid in
    so-far-passes _ state covered c.args.parts.now valid _ _ _ _ _ _ _ _ _ _ h (g.F.Folder.told c.last_unpinned.new.folder) c.in_ok-found.ensures.reads.stays

pub returns-in_default-clause-front : goal.returns-in_default-clause-front
returns-in_default-clause-front g c image there state k covered are =
    let h = c.loop.invariant.evicted image there state k covered are in
    let valid = k.kept.entries.valid in
    so-far-front _ state covered c.args.parts.now valid _ _ _ _ _ _ _ _ _ _ h

pub returns-in_default-clause-is_open : goal.returns-in_default-clause-is_open
returns-in_default-clause-is_open g c image there = c.loop.invariant.is_open image (told_now image (sym c.in_ok-found.ensures.reads.stays) there)

pub evict-requires-clause-is_open : goal.evict-requires-clause-is_open
evict-requires-clause-is_open g c image there = c.loop.invariant.is_open image (told_now image (sym c.in_ok-found.ensures.reads.stays) there)

pub returns-in_err-evict-clause-stops : goal.returns-in_err-evict-clause-stops
returns-in_err-evict-clause-stops g c image there state k covered are =
    let h = c.loop.invariant.evicted image there state k covered are in
    let valid = k.kept.entries.valid in
    let wants : is_met c.args.goal.now (without h.first state) ≡ false = sym (c.is_met.ensures.met (without h.first state) h.image h.at.kept) ∙ (let e : c.is_met.result ≡ false = search rules in e) in
    let some : c.in_ok-found.field-0 ≡ Some c.in-Some.found = search rules in
    let last = subst (λ (o : Option Unpinned). IsLast (without h.first state) h.at.kept.layout covered o) some (c.in_ok-found.ensures.last h.image h.there (without h.first state) h.at.kept covered h.at.lie h.at.pinned) in
    let mid = told_now h.image c.in_ok-found.ensures.reads.stays h.there in
    next-passes _ state covered c.args.parts.now valid _ _ _ _ _ _ _ _ _ _ h wants c.in-Some.found last (g.F.Folder.told c.last_unpinned.new.folder) (g.F.Folder.told c.evict.new.folder) c.in_ok-found.ensures.reads.stays (c.in_err-evict.ensures.stops h.image mid (without h.first state) h.at.kept last.goes)

pub returns-in_err-evict-clause-front : goal.returns-in_err-evict-clause-front
returns-in_err-evict-clause-front g c image there state k covered are =
    let h = c.loop.invariant.evicted image there state k covered are in
    let valid = k.kept.entries.valid in
    let wants : is_met c.args.goal.now (without h.first state) ≡ false = sym (c.is_met.ensures.met (without h.first state) h.image h.at.kept) ∙ (let e : c.is_met.result ≡ false = search rules in e) in
    let some : c.in_ok-found.field-0 ≡ Some c.in-Some.found = search rules in
    let last = subst (λ (o : Option Unpinned). IsLast (without h.first state) h.at.kept.layout covered o) some (c.in_ok-found.ensures.last h.image h.there (without h.first state) h.at.kept covered h.at.lie h.at.pinned) in
    let mid = told_now h.image c.in_ok-found.ensures.reads.stays h.there in
    next-front _ state covered c.args.parts.now valid _ _ _ _ _ _ _ _ _ _ h wants c.in-Some.found last (g.K.Sink.written c.evict.new.out) (λ e. (c.in_err-evict.ensures.quiet e).1) (c.in_err-evict.ensures.front h.image mid (without h.first state) h.at.kept last.goes)

pub returns-in_err-evict-clause-untold : goal.returns-in_err-evict-clause-untold
returns-in_err-evict-clause-untold g c any =
    carried c.evict.result c.from_residual-in_err-evict.result c.in_err-evict.field-0.0 (λ _. (g.F.Folder.told c.args.folder.now).files ≡ None) c.in_err-evict.was c.from_residual-in_err-evict.ensures.1
    (untold-on c.evict.result (g.F.Folder.told c.args.folder.now) (g.F.Folder.told c.last_unpinned.new.folder) (KeepsThatMayGo c.loop.self c.in-Some.found) (λ none. ap (λ (t : Told). t.files) c.in_ok-found.ensures.reads.stays ∙ c.loop.invariant.silent none)
    (λ from e.
    let a = any from e in
    let h = c.loop.invariant.evicted from e a.state a.kept a.covered a.are in
    let some : c.in_ok-found.field-0 ≡ Some c.in-Some.found = search rules in
    let last = subst (λ (o : Option Unpinned). IsLast (without h.first a.state) h.at.kept.layout a.covered o) some (c.in_ok-found.ensures.last h.image h.there (without h.first a.state) h.at.kept a.covered h.at.lie h.at.pinned) in
    (h.image, told_now h.image c.in_ok-found.ensures.reads.stays h.there, record { state = without h.first a.state; kept = h.at.kept; at = last.goes }))
    c.evict.ensures.untold)

pub loop-preserved : goal.loop-preserved
loop-preserved g c =
    let some : c.in_ok-found.field-0 ≡ Some c.in-Some.found = search rules in
    let before = c.loop.invariant.others in
    let more = c.in_ok-evict.ensures.others in
    record {
      most = c.loop.invariant.most;
      stands = subst (λ (files : BlockFiles). IfSome c.in-Some.found.behind (λ node. IsTrue (is_node_among files node))) (sym more.files)
          (subst (λ (o : Option Unpinned). IfSome o (λ item. IfSome item.behind (λ node. IsTrue (is_node_among c.loop.self.files node)))) some c.in_ok-found.ensures.next_stands);
      is_open = c.in_ok-evict.ensures.is_open;
      others = record {
        limits = more.limits ∙ before.limits;
        open_bytes = more.open_bytes ∙ before.open_bytes;
        handles = more.handles ∙ before.handles;
        files = more.files ∙ before.files;
        mark = more.mark ∙ before.mark;
        notes = more.notes ∙ before.notes;
      };
      silent = λ none. c.in_ok-evict.ensures.writes.silent (ap (λ (t : Told). t.files) c.in_ok-found.ensures.reads.stays ∙ c.loop.invariant.silent none);
      later = omega (arith, c.loop.invariant.later, c.in_ok-found.ensures.reads.later, c.in_ok-evict.ensures.writes.later);
      sink_later = goes_on c.loop.invariant.sink_later c.in_ok-evict.ensures.sink_later;
      quiet = λ failed. let i = c.loop.invariant.quiet failed in let q = c.in_ok-evict.ensures.quiet i.0 in (q.0, q.1 ∙ i.1);
      fails = faults-on c.args.failed.now c.loop.failed c.evict.new.failed (g.K.Sink.faults c.args.out.now) (g.K.Sink.faults c.loop.out) (g.K.Sink.faults c.evict.new.out) c.loop.invariant.fails c.in_ok-evict.ensures.fails c.loop.invariant.sink_later.later c.in_ok-evict.ensures.sink_later.later;
      evicted = λ image there state k covered are.
          let h = c.loop.invariant.evicted image there state k covered are in
          let valid = k.kept.entries.valid in
          let wants : is_met c.args.goal.now (without h.first state) ≡ false = sym (c.is_met.ensures.met (without h.first state) h.image h.at.kept) ∙ (let e : c.is_met.result ≡ false = search rules in e) in
          let some : c.in_ok-found.field-0 ≡ Some c.in-Some.found = search rules in
          let last = subst (λ (o : Option Unpinned). IsLast (without h.first state) h.at.kept.layout covered o) some (c.in_ok-found.ensures.last h.image h.there (without h.first state) h.at.kept covered h.at.lie h.at.pinned) in
          let mid = told_now h.image c.in_ok-found.ensures.reads.stays h.there in
          next-out _ state covered c.args.parts.now valid _ _ _ _ _ _ _ _ _ _ h wants c.in-Some.found last (g.F.Folder.told c.last_unpinned.new.folder) (g.F.Folder.told c.evict.new.folder) c.evict.new.self c.evict.new.failed (g.K.Sink.written c.evict.new.out) c.in_ok-found.ensures.reads.stays
          (c.in_ok-evict.ensures.stops h.image mid (without h.first state) h.at.kept last.goes) (c.in_ok-evict.ensures.evicted h.image mid (without h.first state) h.at.kept last.goes) (c.in_ok-evict.ensures.prints h.image mid (without h.first state) h.at.kept last.goes);
    }

pub returns-clause-evicted : goal.returns-clause-evicted
returns-clause-evicted g c image there state k covered are =
    let h = c.loop.invariant.evicted image there state k covered are in
    let valid = k.kept.entries.valid in
    let turns = c.loop.invariant.most in
    let pinned = ran-out _ state covered c.args.parts.now valid _ _ _ _ _ _ _ _ _ _ h (omega (arith, c.loop-test.false, turns)) in
    let done = all-gone _ state covered c.args.parts.now valid _ _ _ _ _ _ _ _ _ _ h (inr pinned) in
    gone-kept _ state covered c.args.parts.now valid _ _ _ _ _ _ _ _ _ _ h done

pub returns-clause-counts : goal.returns-clause-counts
returns-clause-counts g c image there state k covered are =
    let h = c.loop.invariant.evicted image there state k covered are in
    let valid = k.kept.entries.valid in
    let turns = c.loop.invariant.most in
    let pinned = ran-out _ state covered c.args.parts.now valid _ _ _ _ _ _ _ _ _ _ h (omega (arith, c.loop-test.false, turns)) in
    let done = all-gone _ state covered c.args.parts.now valid _ _ _ _ _ _ _ _ _ _ h (inr pinned) in
    gone-count _ state covered c.args.parts.now valid _ _ _ _ _ _ _ _ _ _ h done

pub returns-clause-prints : goal.returns-clause-prints
returns-clause-prints g c image there state k covered are =
    let h = c.loop.invariant.evicted image there state k covered are in
    let valid = k.kept.entries.valid in
    let turns = c.loop.invariant.most in
    let pinned = ran-out _ state covered c.args.parts.now valid _ _ _ _ _ _ _ _ _ _ h (omega (arith, c.loop-test.false, turns)) in
    let done = all-gone _ state covered c.args.parts.now valid _ _ _ _ _ _ _ _ _ _ h (inr pinned) in
    gone-prints _ state covered c.args.parts.now valid _ _ _ _ _ _ _ _ _ _ h done

pub returns-clause-stops : goal.returns-clause-stops
returns-clause-stops g c image there state k covered are =
    let h = c.loop.invariant.evicted image there state k covered are in
    let valid = k.kept.entries.valid in
    so-far-passes _ state covered c.args.parts.now valid _ _ _ _ _ _ _ _ _ _ h (g.F.Folder.told c.loop.folder) refl

pub returns-clause-front : goal.returns-clause-front
returns-clause-front g c image there state k covered are =
    let h = c.loop.invariant.evicted image there state k covered are in
    let valid = k.kept.entries.valid in
    so-far-front _ state covered c.args.parts.now valid _ _ _ _ _ _ _ _ _ _ h
