use Rattle.std.proofs.Common.{◌≡◌, ◌<◌, ◌∙◌, None, ap, length, subst, sym}
use Rattle.std.specs.Vec.{with_items}
use Rattle.blk_io.proofs.Carried.{carried}
use Rattle.blk_chain.proofs.Heads.{names-parts}
use Rattle.blk_disk.specs.declared.tables.BlockFiles.{BlockFiles}
use Rattle.blk_disk.specs.Open.{IsOpen}
use Rattle.blk_disk.specs.Tables.{Agrees, stands_among}
use Rattle.spec_format.specs.Address.{blocks_256, kind_of}
use Rattle.std.specs.Prelude.{IsTrue}
use Rattle.blk_sparse.specs.declared.storing.Target.{Target}
use Rattle.blk_handles.specs.declared.open_object.OpenObject.{OpenObject}
use Rattle.blk_model.specs.Sizes.{signatures}
use Rattle.blk_sparse.specs.SparseWrites.{signature_to}
use Rattle.blk_cache.specs.SparseWriting.{own_target}
use Rattle.blk_cache.proofs.Asks.{opened-stands, opened-there}
use Rattle.blk_cache.proofs.CreateSteps.{bound-stays}
use Rattle.blk_cache.proofs.SparseStored.{store-keeps, store-stops, store-untold}
use Rattle.blk_cache.proofs.cache.Cache.store_to_dirty.Goals as goal

pub store_sparse-requires-clause-kind : goal.store_sparse-requires-clause-kind
store_sparse-requires-clause-kind g c =
    let o = opened-there c.args.self.now.handles c.args.request.now.handle c.object.result c.in-Some.object c.object.ensures.object c.in-Some.is in
    let p = names-parts c.args.self.now.files c.in-Some.object.entry (opened-stands c.args.self.now.files c.args.self.now.handles c.args.self.now.stand c.args.request.now.handle c.in-Some.object o).1 in
    subst (λ (t : Target). kind_of t.parent.entry ≡ blocks_256) (sym c.own_target-own.ensures) p.1.0

pub store_sparse-requires-clause-stands : goal.store_sparse-requires-clause-stands
store_sparse-requires-clause-stands g c =
    let o = opened-there c.args.self.now.handles c.args.request.now.handle c.object.result c.in-Some.object c.object.ensures.object c.in-Some.is in
    let p = names-parts c.args.self.now.files c.in-Some.object.entry (opened-stands c.args.self.now.files c.args.self.now.handles c.args.self.now.stand c.args.request.now.handle c.in-Some.object o).1 in
    subst (λ (t : Target). IsTrue (stands_among c.args.self.now.files t.parent.entry)) (sym c.own_target-own.ensures) p.1.1

pub invariant_of-self-clause-stand : goal.invariant_of-self-clause-stand
invariant_of-self-clause-stand g c = bound-stays c.args.self.now.files c.store_sparse.new.files c.args.self.now.handles c.store_sparse.ensures.keeps c.args.self.now.stand

pub returns-in_err-store_sparse-clause-stops : goal.returns-in_err-store_sparse-clause-stops
returns-in_err-store_sparse-clause-stops g c =
    let o = opened-there c.args.self.now.handles c.args.request.now.handle c.object.result c.in-Some.object c.object.ensures.object c.in-Some.is in
    store-stops c.args.self.now c.args.request.now.handle c.args.request.now.offset c.args.request.now.bytes.now c.requires.some c.requires.few c.args.target.now c.args.more_bytes c.args.more_items o.b o.bound c.own_target-own.result (c.own_target-own.ensures ∙ ap (λ (x : OpenObject). own_target x.node x.entry c.args.target.now) o.opened) (g.F.Folder.told c.args.folder.now) (g.F.Folder.told c.store_sparse.new.folder) c.store_sparse.ensures.stops

pub returns-in_err-store_sparse-clause-untold : goal.returns-in_err-store_sparse-clause-untold
returns-in_err-store_sparse-clause-untold g c any =
    let o = opened-there c.args.self.now.handles c.args.request.now.handle c.object.result c.in-Some.object c.object.ensures.object c.in-Some.is in
    carried c.store_sparse.result c.from_residual.result c.in_err-store_sparse.field-0.0 (λ _. (g.F.Folder.told c.args.folder.now).files ≡ None) c.in_err-store_sparse.was c.from_residual.ensures.1
    (store-untold c.args.self.now c.args.request.now.handle c.args.request.now.offset c.args.request.now.bytes.now c.requires.some c.requires.few c.args.target.now c.args.more_bytes c.args.more_items o.b o.bound c.own_target-own.result (c.own_target-own.ensures ∙ ap (λ (x : OpenObject). own_target x.node x.entry c.args.target.now) o.opened) (g.F.Folder.told c.args.folder.now) (g.F.Folder.told c.store_sparse.new.folder) c.store_sparse.result c.store_sparse.ensures.untold any)

pub returns-clause-stored : goal.returns-clause-stored
returns-clause-stored g c =
    let o = opened-there c.args.self.now.handles c.args.request.now.handle c.object.result c.in-Some.object c.object.ensures.object c.in-Some.is in
    let n = c.count_parts.ensures.counts in
    store-keeps c.args.self.now c.args.request.now.handle c.args.request.now.offset c.args.request.now.bytes.now c.requires.some c.requires.few c.args.target.now c.args.more_bytes c.args.more_items o.b o.bound c.own_target-own.result (c.own_target-own.ensures ∙ ap (λ (x : OpenObject). own_target x.node x.entry c.args.target.now) o.opened) (g.F.Folder.told c.args.folder.now) (g.F.Folder.told c.store_sparse.new.folder) c.count_parts.new.self
    (record { items = n.items; bytes = n.bytes; open_bytes = n.open_bytes; limits = n.limits; handles = n.handles; mark = n.mark })
    c.in_ok-store_sparse.ensures.stored
    (λ image there. subst (λ (files : BlockFiles). Agrees files image) (sym n.files) (c.in_ok-store_sparse.ensures.is_open image there).agrees)

pub returns-clause-stops : goal.returns-clause-stops
returns-clause-stops g c =
    let o = opened-there c.args.self.now.handles c.args.request.now.handle c.object.result c.in-Some.object c.object.ensures.object c.in-Some.is in
    store-stops c.args.self.now c.args.request.now.handle c.args.request.now.offset c.args.request.now.bytes.now c.requires.some c.requires.few c.args.target.now c.args.more_bytes c.args.more_items o.b o.bound c.own_target-own.result (c.own_target-own.ensures ∙ ap (λ (x : OpenObject). own_target x.node x.entry c.args.target.now) o.opened) (g.F.Folder.told c.args.folder.now) (g.F.Folder.told c.store_sparse.new.folder) c.store_sparse.ensures.stops

pub returns-clause-is_open : goal.returns-clause-is_open
returns-clause-is_open g c image there = subst (λ (files : BlockFiles). IsOpen files image) (sym c.count_parts.ensures.counts.files) (c.in_ok-store_sparse.ensures.is_open image there)

pub store_sparse-requires-clause-signature : goal.store_sparse-requires-clause-signature
store_sparse-requires-clause-signature g c = subst (λ (t : Target). signature_to t < signatures) (sym c.own_target-own.ensures) c.requires.signature

pub invariant_of-self-clause-room : goal.invariant_of-self-clause-room
invariant_of-self-clause-room g c =
    let room : length c.args.self.now.name.items ≡ 65564 = c.args.self.now.room in
    sym (with_items c.args.self.now.name c.store_sparse.new.name).ok.0 ∙ c.args.self.now.name.ok.0 ∙ room
