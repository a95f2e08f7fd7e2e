use Rattle.std.proofs.Common.{◌≢◌, inl, sym, ◌∙◌, subst}
use Rattle.std.proofs.lemmas.Result.{on_ok_weaker}
use Rattle.spec_image.specs.Footprint.{Footprint, SameOutside}
use Rattle.spec_image.specs.Told.{Passes}
use Rattle.spec_image.proofs.Runs.{passes_end, passes_weaker}
use Rattle.spec_format.specs.Address.{kind_of, external}
use Rattle.blk_io.proofs.Carried.{if_damaged_weaker}
use Rattle.blk_entry.proofs.KeyPlaces.{of_other}
use Rattle.blk_stream.proofs.PlacesFreed.{freed_blocks, freed_only, freeing_blocks, map_only}
use Rattle.blk_stream.proofs.PlaceStages.{frees_whole}
use Rattle.blk_stream.proofs.freeing.free_place.Goals as goal

pub returns-else-is_of-clause-freed : goal.returns-else-is_of-clause-freed
returns-else-is_of-clause-freed g c =
    let blocky : kind_of c.args.addr ≢ external = of_other (kind_of c.args.addr) external (sym c.is_of.ensures ∙ c.if-is_of.false) in
    on_ok_weaker c.free.result (λ freed from there image now. freed_blocks c.args.addr from image blocky (freed from there image now)) c.free.ensures.freed

pub returns-else-is_of-clause-stops : goal.returns-else-is_of-clause-stops
returns-else-is_of-clause-stops g c from there =
    let blocky : kind_of c.args.addr ≢ external = of_other (kind_of c.args.addr) external (sym c.is_of.ensures ∙ c.if-is_of.false) in
    subst (λ (F : Footprint). Passes (g.F.Folder.told c.args.folder.now) (g.F.Folder.told c.free.new.f) (SameOutside F from)) (sym (freeing_blocks c.args.addr blocky))
    (passes_weaker (c.free.ensures.stops from there) (λ image h. map_only c.args.addr from image h) (λ image h. freed_only c.args.addr from image h))

pub returns-else-is_of-clause-untold : goal.returns-else-is_of-clause-untold
returns-else-is_of-clause-untold g c may =
    c.free.ensures.untold (λ image there. may image there (of_other (kind_of c.args.addr) external (sym c.is_of.ensures ∙ c.if-is_of.false)))

pub returns-else-is_of-clause-cause : goal.returns-else-is_of-clause-cause
returns-else-is_of-clause-cause g c =
    if_damaged_weaker c.free.result _ _ (λ damage cause. (of_other (kind_of c.args.addr) external (sym c.is_of.ensures ∙ c.if-is_of.false), cause)) c.free.ensures.cause

pub returns-else-is_of-clause-frees : goal.returns-else-is_of-clause-frees
returns-else-is_of-clause-frees g c =
    let blocky : kind_of c.args.addr ≢ external = of_other (kind_of c.args.addr) external (sym c.is_of.ensures ∙ c.if-is_of.false) in
    on_ok_weaker c.free.result (λ freed from there image now. inl (record { block_kind = blocky; freed = freed from there image now; stays = frees_whole c.args.addr from image (passes_end (c.free.ensures.stops from there) image now) })) c.free.ensures.freed

pub returns-else-is_of-clause-stages : goal.returns-else-is_of-clause-stages
returns-else-is_of-clause-stages g c from there = passes_weaker (c.free.ensures.stops from there) (λ image h. inl h.stays) (λ image h. inl (frees_whole c.args.addr from image h))
