use Rattle.std.proofs.Common.{◌≡◌, inr, ◌<◌, ◌≤◌, ℕ, None, sym, ◌∙◌, ap, subst}
use Rattle.spec_format.specs.Address.{is_address}
use Rattle.blk_addr.specs.Kind.{kind_number}
use Rattle.spec_image.proofs.Runs.{passes_weaker}
use Rattle.blk_io.proofs.Carried.{carried}
use Rattle.blk_alloc.specs.Allocating.{AreCounted}
use Rattle.blk_stream.proofs.Created.{created_agrees, created_place, creating_passes}
use Rattle.blk_stream.proofs.Placed.{allocated_links, allocated_place, allocating_passes, blocks_are, of_blocks, of_file, stored_blocks, stored_file}
use Rattle.blk_stream.proofs.PlaceStages.{allocated_takes, allocating_takes, created_takes}
use Rattle.blk_stream.proofs.placing.new_place.Goals as goal

-- An external file.

pub returns-in_err-addr-clause-stops : goal.returns-in_err-addr-clause-stops
returns-in_err-addr-clause-stops g c =
    let kind = of_file (kind_number c.kind_for-kind.result) c.args.size c.is_external.result c.kind_for-kind.ensures c.is_external.ensures c.if-is_external.true in
    creating_passes c.args.files.now c.args.size (g.F.Folder.told c.args.folder.now) (g.F.Folder.told c.create.new.f) kind c.in_err-addr.ensures.prefix

pub returns-in_err-addr-clause-untold : goal.returns-in_err-addr-clause-untold
returns-in_err-addr-clause-untold g c can =
    let kind = of_file (kind_number c.kind_for-kind.result) c.args.size c.is_external.result c.kind_for-kind.ensures c.is_external.ensures c.if-is_external.true in
    carried c.create.result c.from_residual.result c.in_err-addr.field-0.0 (λ _. (g.F.Folder.told c.args.folder.now).files ≡ None) c.in_err-addr.was c.from_residual.ensures.1
    (c.create.ensures.untold (λ image there. (can image there).free kind))

pub returns-then-is_external-clause-stores : goal.returns-then-is_external-clause-stores
returns-then-is_external-clause-stores g c =
    let kind = of_file (kind_number c.kind_for-kind.result) c.args.size c.is_external.result c.kind_for-kind.ensures c.is_external.ensures c.if-is_external.true in
    stored_file c.in_ok-addr.addr c.args.files.now c.args.size c.requires.some kind c.in_ok-addr.ensures.kind (ap is_address (sym c.word-word.ensures.word) ∙ c.word-word.ensures.address)

pub returns-then-is_external-clause-placed : goal.returns-then-is_external-clause-placed
returns-then-is_external-clause-placed g c from there can =
    created_place c.in_ok-addr.addr c.args.files.now (g.F.Folder.told c.args.folder.now) (g.F.Folder.told c.create.new.f) c.in_ok-addr.ensures.kind c.in_ok-addr.ensures.first c.in_ok-addr.ensures.made c.in_ok-addr.ensures.steps c.requires.agrees from there

pub returns-then-is_external-clause-agrees : goal.returns-then-is_external-clause-agrees
returns-then-is_external-clause-agrees g c =
    created_agrees c.in_ok-addr.addr c.args.files.now (g.F.Folder.told c.args.folder.now) (g.F.Folder.told c.create.new.f) c.in_ok-addr.ensures.steps c.requires.agrees

pub returns-then-is_external-clause-stops : goal.returns-then-is_external-clause-stops
returns-then-is_external-clause-stops g c =
    let kind = of_file (kind_number c.kind_for-kind.result) c.args.size c.is_external.result c.kind_for-kind.ensures c.is_external.ensures c.if-is_external.true in
    creating_passes c.args.files.now c.args.size (g.F.Folder.told c.args.folder.now) (g.F.Folder.told c.create.new.f) kind c.in_ok-addr.ensures.prefix

-- Blocks.

pub allocate-requires-clause-some : goal.allocate-requires-clause-some
allocate-requires-clause-some g c =
    let blocky = of_blocks (kind_number c.kind_for-kind.result) c.args.size c.is_external.result c.kind_for-kind.ensures c.is_external.ensures c.if-is_external.false in
    subst (λ (n : ℕ). 0 < n) (sym c.blocks_for.ensures) (blocks_are c.args.size c.requires.some blocky).0

pub allocate-requires-clause-few : goal.allocate-requires-clause-few
allocate-requires-clause-few g c =
    let blocky = of_blocks (kind_number c.kind_for-kind.result) c.args.size c.is_external.result c.kind_for-kind.ensures c.is_external.ensures c.if-is_external.false in
    subst (λ (n : ℕ). n ≤ 4) (sym c.blocks_for.ensures) (blocks_are c.args.size c.requires.some blocky).1.0

pub allocate-requires-clause-node : goal.allocate-requires-clause-node
allocate-requires-clause-node g c node =
    let blocky = of_blocks (kind_number c.kind_for-kind.result) c.args.size c.is_external.result c.kind_for-kind.ensures c.is_external.ensures c.if-is_external.false in
    absurd ((blocks_are c.args.size c.requires.some blocky).1.1.0 (sym c.kind_for-kind.ensures ∙ node))

pub returns-clause-stores : goal.returns-clause-stores
returns-clause-stores g c =
    let blocky = of_blocks (kind_number c.kind_for-kind.result) c.args.size c.is_external.result c.kind_for-kind.ensures c.is_external.ensures c.if-is_external.false in
    stored_blocks c.allocate.result c.allocate.new.files c.args.size (kind_number c.kind_for-kind.result) c.blocks_for.result c.requires.some blocky (sym c.kind_for-kind.ensures) (sym c.blocks_for.ensures) c.allocate.ensures.kind c.allocate.ensures.address c.allocate.ensures.stands

pub returns-clause-links : goal.returns-clause-links
returns-clause-links g c =
    let blocky = of_blocks (kind_number c.kind_for-kind.result) c.args.size c.is_external.result c.kind_for-kind.ensures c.is_external.ensures c.if-is_external.false in
    allocated_links c.allocate.result c.args.files.now c.allocate.new.files c.args.size (kind_number c.kind_for-kind.result) c.blocks_for.result blocky (sym c.kind_for-kind.ensures) c.allocate.ensures.kind c.allocate.ensures.links

pub returns-clause-placed : goal.returns-clause-placed
returns-clause-placed g c =
    let blocky = of_blocks (kind_number c.kind_for-kind.result) c.args.size c.is_external.result c.kind_for-kind.ensures c.is_external.ensures c.if-is_external.false in
    allocated_place c.args.files.now c.allocate.new.files c.args.size (g.F.Folder.told c.args.folder.now) (g.F.Folder.told c.allocate.new.f) c.requires.some blocky c.allocate.result (kind_number c.kind_for-kind.result) c.blocks_for.result (sym c.kind_for-kind.ensures) (sym c.blocks_for.ensures)
    c.allocate.ensures.kind c.allocate.ensures.chosen c.allocate.ensures.allocates c.allocate.ensures.within c.allocate.ensures.stands c.allocate.ensures.links c.allocate.ensures.agrees c.allocate.ensures.stops c.requires.agrees

pub returns-clause-stops : goal.returns-clause-stops
returns-clause-stops g c =
    let blocky = of_blocks (kind_number c.kind_for-kind.result) c.args.size c.is_external.result c.kind_for-kind.ensures c.is_external.ensures c.if-is_external.false in
    allocating_passes c.args.files.now c.allocate.new.files c.args.size (g.F.Folder.told c.args.folder.now) (g.F.Folder.told c.allocate.new.f) c.requires.some blocky (kind_number c.kind_for-kind.result) c.blocks_for.result (sym c.kind_for-kind.ensures) (sym c.blocks_for.ensures) c.allocate.ensures.stops c.requires.agrees

pub returns-clause-untold : goal.returns-clause-untold
returns-clause-untold g c can =
    let blocky = of_blocks (kind_number c.kind_for-kind.result) c.args.size c.is_external.result c.kind_for-kind.ensures c.is_external.ensures c.if-is_external.false in
    c.allocate.ensures.untold (λ image there. subst (λ (k : ℕ). AreCounted c.args.files.now k image) (sym c.kind_for-kind.ensures) ((can image there).counted blocky))

-- What is done, and what is under way.

pub returns-in_err-addr-clause-stages : goal.returns-in_err-addr-clause-stages
returns-in_err-addr-clause-stages g c from there can =
    let kind = of_file (kind_number c.kind_for-kind.result) c.args.size c.is_external.result c.kind_for-kind.ensures c.is_external.ensures c.if-is_external.true in
    passes_weaker (c.create.ensures.stops from there (can.free kind)) (λ image h. inr h) (λ image h. inr h)

pub returns-then-is_external-clause-stages : goal.returns-then-is_external-clause-stages
returns-then-is_external-clause-stages g c from there can =
    let kind = of_file (kind_number c.kind_for-kind.result) c.args.size c.is_external.result c.kind_for-kind.ensures c.is_external.ensures c.if-is_external.true in
    passes_weaker (c.create.ensures.stops from there (can.free kind)) (λ image h. inr h) (λ image h. inr h)

pub returns-then-is_external-clause-takes : goal.returns-then-is_external-clause-takes
returns-then-is_external-clause-takes g c from there can =
    created_takes c.args.files.now c.args.files.now c.in_ok-addr.addr (g.F.Folder.told c.args.folder.now) (g.F.Folder.told c.create.new.f) c.in_ok-addr.ensures.kind (ap is_address (sym c.word-word.ensures.word) ∙ c.word-word.ensures.address) c.in_ok-addr.ensures.first c.in_ok-addr.ensures.made c.in_ok-addr.ensures.steps from there

pub returns-clause-stages : goal.returns-clause-stages
returns-clause-stages g c =
    let blocky = of_blocks (kind_number c.kind_for-kind.result) c.args.size c.is_external.result c.kind_for-kind.ensures c.is_external.ensures c.if-is_external.false in
    allocating_takes c.args.files.now c.allocate.new.files c.args.size (kind_number c.kind_for-kind.result) c.blocks_for.result (g.F.Folder.told c.args.folder.now) (g.F.Folder.told c.allocate.new.f) c.requires.some blocky (sym c.kind_for-kind.ensures) c.allocate.ensures.stops

pub returns-clause-takes : goal.returns-clause-takes
returns-clause-takes g c =
    let blocky = of_blocks (kind_number c.kind_for-kind.result) c.args.size c.is_external.result c.kind_for-kind.ensures c.is_external.ensures c.if-is_external.false in
    allocated_takes c.args.files.now c.allocate.new.files c.args.size (kind_number c.kind_for-kind.result) c.blocks_for.result (g.F.Folder.told c.args.folder.now) (g.F.Folder.told c.allocate.new.f) c.requires.some blocky (sym c.kind_for-kind.ensures) c.allocate.ensures.stops
    c.allocate.result c.allocate.ensures.kind c.allocate.ensures.address c.allocate.ensures.stands c.allocate.ensures.long c.allocate.ensures.links c.allocate.ensures.allocates c.allocate.ensures.within c.allocate.ensures.agrees
