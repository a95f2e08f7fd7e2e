use Rattle.std.proofs.Common.{◌≡◌, ℕ, true, length, set, length-set, Some, None, sym, subst, ◌∙◌, arith}
use Rattle.blk_io.proofs.Carried.{carried}
use Rattle.blk_handles.specs.Bindings.{Binding, Bindings, binding_for}
use Rattle.blk_disk.specs.declared.tables.BlockFiles.{BlockFiles}
use Rattle.blk_disk.specs.Open.{IsOpen}
use Rattle.blk_cache.proofs.CreateSteps.{bound-stays, new-room, new-stops}
use Rattle.blk_cache.proofs.Creates.{created-keeps}
use Rattle.blk_cache.proofs.cache.Cache.make_object.Goals as goal

set-long : (bindings new : Bindings) (name : ℕ) (b : Binding) → new ≡ set bindings name (Some b) → length new ≡ 4096 → length bindings ≡ 4096
set-long bindings new name b is long = sym (length-set bindings name (Some b)) ∙ subst (λ (bs : Bindings). length bs ≡ 4096) is long

pub invariant_of-self : goal.invariant_of-self
invariant_of-self g c = record {
  stand = bound-stays c.args.self.now.files c.make_entry.new.files c.args.self.now.handles c.make_entry.ensures.keeps c.args.self.now.stand;
  room = c.args.self.now.room;
}

pub returns-in_err-made-clause-stops : goal.returns-in_err-made-clause-stops
returns-in_err-made-clause-stops g c =
    new-stops c.args.self.now (g.F.Folder.told c.args.folder.now) (g.F.Folder.told c.make_entry.new.folder) c.args.handle c.args.key.now c.make_entry.ensures.stops

pub returns-in_err-made-clause-untold : goal.returns-in_err-made-clause-untold
returns-in_err-made-clause-untold g c any =
    carried c.make_entry.result c.from_residual.result c.in_err-made.field-0.0 (λ _. (g.F.Folder.told c.args.folder.now).files ≡ None) c.in_err-made.was c.from_residual.ensures.1
    (c.make_entry.ensures.untold
    (new-room c.args.self.now (g.F.Folder.told c.args.folder.now) (g.F.Folder.told c.make_entry.new.folder) c.args.handle c.args.key.now any))

pub returns-clause-made : goal.returns-clause-made
returns-clause-made g c from there state k room image now =
    let has = c.in_ok-made.ensures.made from there (sym k.mark) image now state k.layout c.args.handle k.kept room.can in
    let known = c.requires.known in
    let names = k.kept.entries.valid.names in
    let long = set-long c.args.self.now.handles c.bind_new.new.self.handles c.args.handle (binding_for c.args.self.now.handles c.in_ok-made.made.entry c.node_of-node.result true) c.bind_new.ensures.binds c.bind_new.ensures.shared.names in
    let open_now = c.in_ok-made.ensures.is_open image now in
    created-keeps c.args.self.now state from image k c.args.handle c.args.key.now c.in_ok-made.made room.can has c.node_of-node.result c.node_of-node.ensures.new (omega (arith, known, names)) (omega (arith, known, long)) c.requires.free c.bind_new.new.self c.make_entry.new.files open_now.agrees room.room
    c.bind_new.ensures.binds c.bind_new.ensures.counts.items c.bind_new.ensures.counts.bytes c.bind_new.ensures.counts.open_bytes c.bind_new.ensures.counts.limits c.bind_new.ensures.counts.files c.bind_new.ensures.counts.mark

pub returns-clause-stops : goal.returns-clause-stops
returns-clause-stops g c =
    new-stops c.args.self.now (g.F.Folder.told c.args.folder.now) (g.F.Folder.told c.make_entry.new.folder) c.args.handle c.args.key.now c.make_entry.ensures.stops

pub returns-clause-is_open : goal.returns-clause-is_open
returns-clause-is_open g c image now = subst (λ (files : BlockFiles). IsOpen files image) (sym c.bind_new.ensures.counts.files) (c.in_ok-made.ensures.is_open image now)
