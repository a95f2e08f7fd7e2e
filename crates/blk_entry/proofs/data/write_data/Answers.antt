use Rattle.std.proofs.Common.{◌≡◌, ◌≢◌, ◌+◌, ℕ, List, length, sym, ◌∙◌, ap, subst}
use Rattle.std.proofs.lemmas.Bool.{eqb-true}
use Rattle.std.proofs.lemmas.Result.{on_ok_weaker}
use Rattle.spec_image.specs.Image.{Block, External}
use Rattle.spec_image.specs.Steps.{TrailStep, words}
use Rattle.spec_image.specs.Footprint.{Footprint, SameOutside, range}
use Rattle.spec_image.specs.Told.{Applies, AppliesPrefix, Passes}
use Rattle.spec_image.proofs.Runs.{passes_weaker}
use Rattle.spec_format.specs.Address.{kind_of, external, external_number, file_selector, place}
use Rattle.blk_entry.specs.Steps.{data_steps}
use Rattle.blk_entry.proofs.KeyPlaces.{of_other, range_of_blocks, range_of_external}
use Rattle.blk_entry.proofs.DataSteps.{steps_of_blocks, steps_of_external, agrees_outside}
use Rattle.blk_entry.proofs.data.write_data.Given as given
use Rattle.blk_entry.proofs.data.write_data.Goals as goal

-- the steps in an external file
outside : (g : given.Over) (c : goal.After-write g) → words (External (external_number c.args.addr)) c.from.result c.args.bytes.now ≡ data_steps c.args.addr c.args.at c.args.bytes.now
outside g c =
    let kind : kind_of c.args.addr ≡ external = eqb-true (kind_of c.args.addr) external (sym c.is_of.ensures ∙ c.if-is_of.true) in
    ap (λ (i : ℕ). words (External (external_number c.args.addr)) i c.args.bytes.now) c.from.ensures ∙ sym (steps_of_external c.args.addr c.args.at c.args.bytes.now kind)

pub returns-then-is_of-clause-steps : goal.returns-then-is_of-clause-steps
returns-then-is_of-clause-steps g c =
    on_ok_weaker c.write.result (λ grown. subst (λ (s : List TrailStep). Applies (g.F.Folder.told c.args.folder.now) (g.F.Folder.told c.write.new.f) s) (outside g c) grown) c.write.ensures.steps

pub returns-then-is_of-clause-prefix : goal.returns-then-is_of-clause-prefix
returns-then-is_of-clause-prefix g c = subst (λ (s : List TrailStep). AppliesPrefix (g.F.Folder.told c.args.folder.now) (g.F.Folder.told c.write.new.f) s) (outside g c) c.write.ensures.prefix

pub returns-then-is_of-clause-agrees : goal.returns-then-is_of-clause-agrees
returns-then-is_of-clause-agrees g c =
    agrees_outside c.args.files.now (g.F.Folder.told c.args.folder.now) (g.F.Folder.told c.write.new.f) (external_number c.args.addr) c.from.result c.args.bytes.now c.write.ensures.prefix c.requires.agrees

-- the steps in blocks
inside : (g : given.Over) (c : goal.After-write_block g) → words (Block (file_selector c.args.addr)) (place c.args.addr + c.args.at) c.args.bytes.now ≡ data_steps c.args.addr c.args.at c.args.bytes.now
inside g c =
    let block_kind : kind_of c.args.addr ≢ external = of_other (kind_of c.args.addr) external (sym c.is_of.ensures ∙ c.if-is_of.false) in
    sym (steps_of_blocks c.args.addr c.args.at c.args.bytes.now block_kind)

pub returns-else-is_of-clause-steps : goal.returns-else-is_of-clause-steps
returns-else-is_of-clause-steps g c =
    on_ok_weaker c.write_block.result (λ grown. subst (λ (s : List TrailStep). Applies (g.F.Folder.told c.args.folder.now) (g.F.Folder.told c.write_block.new.f) s) (inside g c) grown) c.write_block.ensures.steps

pub returns-else-is_of-clause-prefix : goal.returns-else-is_of-clause-prefix
returns-else-is_of-clause-prefix g c = subst (λ (s : List TrailStep). AppliesPrefix (g.F.Folder.told c.args.folder.now) (g.F.Folder.told c.write_block.new.f) s) (inside g c) c.write_block.ensures.prefix

pub returns-then-is_of-clause-outside : goal.returns-then-is_of-clause-outside
returns-then-is_of-clause-outside g c from there =
    let kind : kind_of c.args.addr ≡ external = eqb-true (kind_of c.args.addr) external (sym c.is_of.ensures ∙ c.if-is_of.true) in
    subst (λ (fp : Footprint). Passes (g.F.Folder.told c.args.folder.now) (g.F.Folder.told c.write.new.f) (SameOutside fp from))
    (ap (λ (i : ℕ). range (External (external_number c.args.addr)) i (length c.args.bytes.now)) c.from.ensures ∙ range_of_external c.args.addr c.args.at (length c.args.bytes.now) kind)
    (passes_weaker (c.write.ensures.stops from there) (λ image changed. changed.outside) (λ image changed. changed.outside))

pub returns-else-is_of-clause-outside : goal.returns-else-is_of-clause-outside
returns-else-is_of-clause-outside g c from there =
    let block_kind : kind_of c.args.addr ≢ external = of_other (kind_of c.args.addr) external (sym c.is_of.ensures ∙ c.if-is_of.false) in
    subst (λ (fp : Footprint). Passes (g.F.Folder.told c.args.folder.now) (g.F.Folder.told c.write_block.new.f) (SameOutside fp from))
    (range_of_blocks c.args.addr c.args.at (length c.args.bytes.now) block_kind) (c.write_block.ensures.outside from there)
