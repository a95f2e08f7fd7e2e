use Rattle.std.proofs.Common.{◌≡◌, ◌∙◌, ℕ, false, None, ap, refl, subst, sym}
use Rattle.std.specs.Option.{ForSome}
use Rattle.spec_image.specs.Told.{Passes}
use Rattle.blk_io.specs.Faults.{IfDamaged}
use Rattle.blk_io.proofs.Carried.{carried}
use Rattle.blk_model.specs.Holding.{rest}
use Rattle.blk_chain.proofs.Heads.{names-parts}
use Rattle.blk_disk.specs.declared.tables.BlockFiles.{BlockFiles}
use Rattle.blk_disk.specs.Open.{IsOpen}
use Rattle.blk_handles.specs.declared.open_object.OpenObject.{OpenObject}
use Rattle.blk_lru.specs.Lists.{IsListed}
use Rattle.law_state.specs.Changes.{Finds}
use Rattle.blk_object.specs.Writing.{ForEachUnsettled, IsWrittenUncounted}
use Rattle.blk_object.proofs.RisenCounters.{rises-counted, uses-leave}
use Rattle.blk_cache.specs.Writing.{ForEachToUse, IsUsedAndCounted}
use Rattle.blk_cache.proofs.Asks.{opened-stands, opened-there}
use Rattle.blk_cache.proofs.CreateSteps.{bound-stays}
use Rattle.blk_cache.proofs.WriteSteps.{both-keep, both-stop, use-untold, write-stops, write-untold}
use Rattle.blk_cache.proofs.cache.Cache.write_to_dirty.Goals as goal

pub write_object-requires-clause-kind : goal.write_object-requires-clause-kind
write_object-requires-clause-kind g c =
    let o = opened-there c.args.self.now.handles c.args.request.now.handle c.object.result c.in-Some.object c.object.ensures.object c.in-Some.is in
    let p = names-parts c.args.self.now.files c.in-Some.object.entry (opened-stands c.args.self.now.files c.args.self.now.handles c.args.self.now.stand c.args.request.now.handle c.in-Some.object o).1 in p.1.0

pub write_object-requires-clause-stands : goal.write_object-requires-clause-stands
write_object-requires-clause-stands g c =
    let o = opened-there c.args.self.now.handles c.args.request.now.handle c.object.result c.in-Some.object c.object.ensures.object c.in-Some.is in
    let p = names-parts c.args.self.now.files c.in-Some.object.entry (opened-stands c.args.self.now.files c.args.self.now.handles c.args.self.now.stand c.args.request.now.handle c.in-Some.object o).1 in p.1.1

pub invariant_of-self : goal.invariant_of-self
invariant_of-self g c = record {
  stand = bound-stays c.args.self.now.files c.write_object.new.files c.args.self.now.handles c.write_object.ensures.keeps c.args.self.now.stand;
  room = c.args.self.now.room;
}

pub returns-in_err-write_object-clause-stops : goal.returns-in_err-write_object-clause-stops
returns-in_err-write_object-clause-stops g c =
    let o = opened-there c.args.self.now.handles c.args.request.now.handle c.object.result c.in-Some.object c.object.ensures.object c.in-Some.is in
    write-stops c.args.self.now c.args.request.now.handle o.b o.bound c.args.request.now.stream c.args.request.now.offset c.args.request.now.cut c.args.request.now.bytes.now c.count_of-count.ensures.small c.args.size (g.F.Folder.told c.args.folder.now) (g.F.Folder.told c.write_object.new.folder)
    (subst (λ (x : OpenObject). ForSome (g.F.Folder.told c.args.folder.now).files (λ from. ForEachUnsettled x.entry c.args.request.now.stream c.args.request.now.offset c.args.request.now.cut c.args.request.now.bytes.now from (λ state layout unlinked number object was. Passes (g.F.Folder.told c.args.folder.now) (g.F.Folder.told c.write_object.new.folder) (Finds (rest state))))) o.opened c.write_object.ensures.stops)

pub returns-in_err-write_object-clause-untold : goal.returns-in_err-write_object-clause-untold
returns-in_err-write_object-clause-untold g c any =
    let o = opened-there c.args.self.now.handles c.args.request.now.handle c.object.result c.in-Some.object c.object.ensures.object c.in-Some.is in
    carried c.write_object.result c.from_residual.result c.in_err-write_object.field-0.0 (λ _. (g.F.Folder.told c.args.folder.now).files ≡ None) c.in_err-write_object.was c.from_residual.ensures.1
    (write-untold c.args.self.now c.args.request.now.handle o.b o.bound c.args.request.now.stream c.args.request.now.offset c.args.request.now.cut c.args.request.now.bytes.now c.count_of-count.ensures.small c.args.size (g.F.Folder.told c.args.folder.now) (g.F.Folder.told c.write_object.new.folder) c.write_object.result
    (subst (λ (x : OpenObject). ForSome (g.F.Folder.told c.args.folder.now).files (λ from. ForEachUnsettled x.entry c.args.request.now.stream c.args.request.now.offset c.args.request.now.cut c.args.request.now.bytes.now from (λ state layout unlinked number object was. IfDamaged c.write_object.result (λ _. (g.F.Folder.told c.args.folder.now).files ≡ None)))) o.opened c.write_object.ensures.untold) any)

pub returns-in_err-use_and_count-clause-stops : goal.returns-in_err-use_and_count-clause-stops
returns-in_err-use_and_count-clause-stops g c =
    let o = opened-there c.args.self.now.handles c.args.request.now.handle c.object.result c.in-Some.object c.object.ensures.object c.in-Some.is in
    both-stop c.args.self.now c.args.request.now.handle o.b o.bound c.args.request.now.stream c.args.request.now.offset c.args.request.now.cut c.args.request.now.bytes.now c.count_of-count.ensures.small c.args.size (g.F.Folder.told c.args.folder.now) (g.F.Folder.told c.write_object.new.folder)
    (subst (λ (x : OpenObject). ForSome (g.F.Folder.told c.args.folder.now).files (λ from. ForEachUnsettled x.entry c.args.request.now.stream c.args.request.now.offset c.args.request.now.cut c.args.request.now.bytes.now from (λ state layout unlinked number object was. Passes (g.F.Folder.told c.args.folder.now) (g.F.Folder.told c.write_object.new.folder) (Finds (rest state))))) o.opened c.write_object.ensures.stops)
    (subst (λ (x : OpenObject). ForSome (g.F.Folder.told c.args.folder.now).files (λ from. ForEachUnsettled x.entry c.args.request.now.stream c.args.request.now.offset c.args.request.now.cut c.args.request.now.bytes.now from (λ state layout unlinked number object was. ForSome (g.F.Folder.told c.write_object.new.folder).files (IsWrittenUncounted state layout unlinked number object was c.args.request.now.stream c.args.request.now.offset c.args.request.now.cut c.args.request.now.bytes.now from)))) o.opened c.in_ok-write_object.ensures.written)
    (g.F.Folder.told c.use_and_count.new.folder) (λ e. c.use_and_count.ensures.stays (ap (λ (x : OpenObject). x.doomed) o.opened ∙ e))
    (λ e. subst (λ (x : OpenObject). ForSome (g.F.Folder.told c.write_object.new.folder).files (λ from. ForEachToUse x.node from (λ state layout its. Passes (g.F.Folder.told c.write_object.new.folder) (g.F.Folder.told c.use_and_count.new.folder) (Finds (rest state))))) o.opened (c.use_and_count.ensures.stops (ap (λ (x : OpenObject). x.doomed) o.opened ∙ e)))

pub returns-in_err-use_and_count-clause-untold : goal.returns-in_err-use_and_count-clause-untold
returns-in_err-use_and_count-clause-untold g c any =
    let o = opened-there c.args.self.now.handles c.args.request.now.handle c.object.result c.in-Some.object c.object.ensures.object c.in-Some.is in
    carried c.use_and_count.result c.from_residual-in_err-use_and_count.result c.in_err-use_and_count.field-0.0 (λ _. (g.F.Folder.told c.args.folder.now).files ≡ None) c.in_err-use_and_count.was c.from_residual-in_err-use_and_count.ensures.1
    (use-untold c.args.self.now c.args.request.now.handle o.b o.bound c.args.request.now.stream c.args.request.now.offset c.args.request.now.cut c.args.request.now.bytes.now c.count_of-count.ensures.small c.args.size (g.F.Folder.told c.args.folder.now) (g.F.Folder.told c.write_object.new.folder)
    (subst (λ (x : OpenObject). ForSome (g.F.Folder.told c.args.folder.now).files (λ from. ForEachUnsettled x.entry c.args.request.now.stream c.args.request.now.offset c.args.request.now.cut c.args.request.now.bytes.now from (λ state layout unlinked number object was. Passes (g.F.Folder.told c.args.folder.now) (g.F.Folder.told c.write_object.new.folder) (Finds (rest state))))) o.opened c.write_object.ensures.stops)
    (subst (λ (x : OpenObject). ForSome (g.F.Folder.told c.args.folder.now).files (λ from. ForEachUnsettled x.entry c.args.request.now.stream c.args.request.now.offset c.args.request.now.cut c.args.request.now.bytes.now from (λ state layout unlinked number object was. ForSome (g.F.Folder.told c.write_object.new.folder).files (IsWrittenUncounted state layout unlinked number object was c.args.request.now.stream c.args.request.now.offset c.args.request.now.cut c.args.request.now.bytes.now from)))) o.opened c.in_ok-write_object.ensures.written)
    c.use_and_count.result (subst (λ (x : OpenObject). ForSome (g.F.Folder.told c.write_object.new.folder).files (λ image. x.doomed ≡ false → IsListed x.node image) → IfDamaged c.use_and_count.result (λ _. (g.F.Folder.told c.write_object.new.folder).files ≡ None)) o.opened c.use_and_count.ensures.untold) any)

pub returns-clause-written : goal.returns-clause-written
returns-clause-written g c =
    let o = opened-there c.args.self.now.handles c.args.request.now.handle c.object.result c.in-Some.object c.object.ensures.object c.in-Some.is in
    both-keep c.args.self.now c.args.request.now.handle o.b o.bound c.args.request.now.stream c.args.request.now.offset c.args.request.now.cut c.args.request.now.bytes.now c.count_of-count.ensures.small c.args.size (g.F.Folder.told c.args.folder.now) (g.F.Folder.told c.write_object.new.folder)
    (subst (λ (x : OpenObject). ForSome (g.F.Folder.told c.args.folder.now).files (λ from. ForEachUnsettled x.entry c.args.request.now.stream c.args.request.now.offset c.args.request.now.cut c.args.request.now.bytes.now from (λ state layout unlinked number object was. Passes (g.F.Folder.told c.args.folder.now) (g.F.Folder.told c.write_object.new.folder) (Finds (rest state))))) o.opened c.write_object.ensures.stops)
    (subst (λ (x : OpenObject). ForSome (g.F.Folder.told c.args.folder.now).files (λ from. ForEachUnsettled x.entry c.args.request.now.stream c.args.request.now.offset c.args.request.now.cut c.args.request.now.bytes.now from (λ state layout unlinked number object was. ForSome (g.F.Folder.told c.write_object.new.folder).files (IsWrittenUncounted state layout unlinked number object was c.args.request.now.stream c.args.request.now.offset c.args.request.now.cut c.args.request.now.bytes.now from)))) o.opened c.in_ok-write_object.ensures.written)
    (g.F.Folder.told c.use_and_count.new.folder) (λ e. c.use_and_count.ensures.stays (ap (λ (x : OpenObject). x.doomed) o.opened ∙ e))
    (λ e. subst (λ (x : OpenObject). ForSome (g.F.Folder.told c.write_object.new.folder).files (λ from. ForEachToUse x.node from (λ state layout its. Passes (g.F.Folder.told c.write_object.new.folder) (g.F.Folder.told c.use_and_count.new.folder) (Finds (rest state))))) o.opened (c.use_and_count.ensures.stops (ap (λ (x : OpenObject). x.doomed) o.opened ∙ e)))
    rises-counted uses-leave c.from.result c.length_after-after.result c.from.ensures c.length_after-after.ensures
    (λ e. subst (λ (n : ℕ). ForSome (g.F.Folder.told c.write_object.new.folder).files (λ from. ForEachToUse o.b.node from (λ state layout its. ForSome (g.F.Folder.told c.use_and_count.new.folder).files (IsUsedAndCounted state layout its n c.length_after-after.result from)))) (sym c.from.ensures)
    (subst (λ (x : OpenObject). ForSome (g.F.Folder.told c.write_object.new.folder).files (λ from. ForEachToUse x.node from (λ state layout its. ForSome (g.F.Folder.told c.use_and_count.new.folder).files (IsUsedAndCounted state layout its c.args.size c.length_after-after.result from)))) o.opened (c.in_ok-use_and_count.ensures.used (ap (λ (x : OpenObject). x.doomed) o.opened ∙ e))))
    _ c.count_bytes.new.self refl refl refl refl refl refl c.count_bytes.ensures.counts c.count_bytes.ensures.few
    (λ image here. subst (λ (files : BlockFiles). IsOpen files image) (sym c.count_bytes.ensures.counts.files) (c.use_and_count.ensures.is_open image here))

pub returns-clause-stops : goal.returns-clause-stops
returns-clause-stops g c =
    let o = opened-there c.args.self.now.handles c.args.request.now.handle c.object.result c.in-Some.object c.object.ensures.object c.in-Some.is in
    both-stop c.args.self.now c.args.request.now.handle o.b o.bound c.args.request.now.stream c.args.request.now.offset c.args.request.now.cut c.args.request.now.bytes.now c.count_of-count.ensures.small c.args.size (g.F.Folder.told c.args.folder.now) (g.F.Folder.told c.write_object.new.folder)
    (subst (λ (x : OpenObject). ForSome (g.F.Folder.told c.args.folder.now).files (λ from. ForEachUnsettled x.entry c.args.request.now.stream c.args.request.now.offset c.args.request.now.cut c.args.request.now.bytes.now from (λ state layout unlinked number object was. Passes (g.F.Folder.told c.args.folder.now) (g.F.Folder.told c.write_object.new.folder) (Finds (rest state))))) o.opened c.write_object.ensures.stops)
    (subst (λ (x : OpenObject). ForSome (g.F.Folder.told c.args.folder.now).files (λ from. ForEachUnsettled x.entry c.args.request.now.stream c.args.request.now.offset c.args.request.now.cut c.args.request.now.bytes.now from (λ state layout unlinked number object was. ForSome (g.F.Folder.told c.write_object.new.folder).files (IsWrittenUncounted state layout unlinked number object was c.args.request.now.stream c.args.request.now.offset c.args.request.now.cut c.args.request.now.bytes.now from)))) o.opened c.in_ok-write_object.ensures.written)
    (g.F.Folder.told c.use_and_count.new.folder) (λ e. c.use_and_count.ensures.stays (ap (λ (x : OpenObject). x.doomed) o.opened ∙ e))
    (λ e. subst (λ (x : OpenObject). ForSome (g.F.Folder.told c.write_object.new.folder).files (λ from. ForEachToUse x.node from (λ state layout its. Passes (g.F.Folder.told c.write_object.new.folder) (g.F.Folder.told c.use_and_count.new.folder) (Finds (rest state))))) o.opened (c.use_and_count.ensures.stops (ap (λ (x : OpenObject). x.doomed) o.opened ∙ e)))

pub returns-clause-is_open : goal.returns-clause-is_open
returns-clause-is_open g c image here = subst (λ (files : BlockFiles). IsOpen files image) (sym c.count_bytes.ensures.counts.files) (c.use_and_count.ensures.is_open image here)
