use Rattle.std.proofs.Common.{◌≢◌, false, inl, refl, sym, ◌∙◌}
use Rattle.std.proofs.lemmas.Result.{on_ok_weaker}
use Rattle.spec_image.specs.Image.{Index}
use Rattle.spec_image.proofs.Runs.{passes_end, passes_weaker}
use Rattle.spec_format.specs.Address.{external, kind_of}
use Rattle.blk_entry.proofs.KeyPlaces.{of_other}
use Rattle.blk_object.proofs.KeptFreeing.{frees-remove, frees-stay}
use Rattle.blk_alloc.specs.Owning.{FreesOrStops}
use Rattle.blk_stream.proofs.PlacesFreed.{freed_only}
use Rattle.blk_object.proofs.FreeingRuns.{still-open}
use Rattle.blk_object.proofs.DamageChecks.{cause-checked, checked-where-stays}
use Rattle.blk_disk.proofs.Ranges.{stands_linked}
use Rattle.blk_object.proofs.freeing.free_place.Goals as goal

pub returns-else-is_external-clause-freed : goal.returns-else-is_external-clause-freed
returns-else-is_external-clause-freed g c =
    let blocky : kind_of c.args.place ≢ external = of_other (kind_of c.args.place) external (sym c.is_external.ensures ∙ c.if-is_external.false) in
    on_ok_weaker c.free.result
    (λ freed from there formed stands image now. record { removed = inl (frees-remove c.args.files.now c.args.place (g.F.Folder.told c.args.folder.now) (g.F.Folder.told c.free.new.f) (c.requires.stands blocky) c.free.ensures.stops freed from there image now); index = λ i. (freed from there image now).same.bytes Index i refl })
    c.free.ensures.freed

pub returns-else-is_external-clause-stops : goal.returns-else-is_external-clause-stops
returns-else-is_external-clause-stops g c from there =
    passes_weaker (frees-stay c.args.place (g.F.Folder.told c.args.folder.now) (g.F.Folder.told c.free.new.f) c.free.ensures.stops from there) (λ image stays. inl stays) (λ image stays. inl stays)

pub returns-else-is_external-clause-untold : goal.returns-else-is_external-clause-untold
returns-else-is_external-clause-untold g c may =
    c.free.ensures.untold (λ image there. may image there (of_other (kind_of c.args.place) external (sym c.is_external.ensures ∙ c.if-is_external.false)))

pub free-requires-clause-agrees : goal.free-requires-clause-agrees
free-requires-clause-agrees g c from there = (c.requires.is_open from there).agrees

pub returns-else-is_external-clause-is_open : goal.returns-else-is_external-clause-is_open
returns-else-is_external-clause-is_open g c =
    still-open c.args.files.now (g.F.Folder.told c.args.folder.now) (g.F.Folder.told c.free.new.f) (FreesOrStops c.args.place) (λ from image h. (freed_only c.args.place from image h).lengths Index refl)
    (λ from there. passes_end (c.free.ensures.stops from there)) c.free.ensures.writes.silent c.free.ensures.agrees c.requires.is_open

pub returns-else-is_external-clause-damaged : goal.returns-else-is_external-clause-damaged
returns-else-is_external-clause-damaged g c =
    let blocky : kind_of c.args.place ≢ external = of_other (kind_of c.args.place) external (sym c.is_external.ensures ∙ c.if-is_external.false) in
    checked-where-stays c.free.result c.args.files.now (g.F.Folder.told c.args.folder.now) (g.F.Folder.told c.free.new.f) _ (λ damage cause. cause-checked c.args.files.now (g.F.Folder.told c.args.folder.now) _ _ _ false damage (stands_linked c.args.files.now c.args.place (c.requires.stands blocky)) cause) c.free.ensures.unwritten c.free.ensures.cause
