use Rattle.std.proofs.Common.{◌≡◌, Option, Some, None, refl, sym, ap, ◌∙◌, ℕ, true}
use Rattle.spec_image.proofs.Runs.{some_inj}
use Rattle.std.specs.Option.{option_map}
use Rattle.blk_handles.specs.Bindings.{Binding, Bindings, open_object, open_with}
use Rattle.blk_handles.specs.declared.open_object.OpenObject.{OpenObject}
use Rattle.blk_disk.specs.declared.tables.BlockFiles.{BlockFiles}
use Rattle.blk_disk.specs.Tables.{is_node_among}
use Rattle.blk_cache.specs.BoundNames.{AreBoundAmong}
use Rattle.blk_cache.proofs.Bound.{open-stands}
use Rattle.blk_cache.proofs.cache.Cache.node_of.Goals as goal

node-stands : (files : BlockFiles) (bindings : Bindings) → AreBoundAmong files bindings → (entry : ℕ) (o : Option Binding) → open_with bindings entry ≡ o → (object : OpenObject) → option_map (open_object bindings) o ≡ Some object → is_node_among files object.node ≡ true
node-stands files bindings stand entry None is object e = cc
node-stands files bindings stand entry (Some b) is object e =
    let same : b.node ≡ object.node = ap (λ (x : OpenObject). x.node) (some_inj e) in
    ap (is_node_among files) (sym same) ∙ (open-stands files bindings stand entry b is).0

pub returns-in-Some-clause-stands : goal.returns-in-Some-clause-stands
returns-in-Some-clause-stands c =
    node-stands c.args.self.now.files c.args.self.now.handles c.args.self.now.stand c.args.live.now.entry (open_with c.args.self.now.handles c.args.live.now.entry) refl c.in-Some.object (sym c.object_of.ensures.object ∙ c.in-Some.is)
