use Rattle.std.proofs.Common.{◌≡◌, ◌∙◌, inl, inr, false, sym, subst}
use Rattle.std.proofs.lemmas.Result.{on_ok_weaker}
use Rattle.spec_image.specs.Told.{Told}
use Rattle.spec_image.proofs.Runs.{passes_end, passes_then, passes_weaker}
use Rattle.spec_format.specs.Address.{block_count, file_selector, first_block}
use Rattle.spec_format.specs.Sealed.{record_at}
use Rattle.blk_io.proofs.Carried.{if_damaged_weaker, told_at_end}
use Rattle.blk_alloc.specs.Owning.{IsCause}
use Rattle.blk_stream.specs.Changing.{NamesInProgress}
use Rattle.blk_stream.specs.Freeing.{MayBeFreed}
use Rattle.blk_stream.specs.Stages.{NamesPlace}
use Rattle.blk_stream.proofs.RecordSeals.{still_sealed}
use Rattle.blk_stream.proofs.Joined.{told_then}
use Rattle.blk_stream.proofs.PlacesLeft.{both_damaged, freed_changes, freeing_changes, named_free, naming_changes, record_freed, told_back}
use Rattle.blk_stream.proofs.moving.leave_place.Goals as goal

pub returns-in_err-name_place-clause-stops : goal.returns-in_err-name_place-clause-stops
returns-in_err-name_place-clause-stops g c from there read good =
    passes_weaker (c.in_err-name_place.ensures.stops from there read good) (naming_changes c.args.entry c.args.stream c.args.old c.args.to.size c.args.to.word from) (naming_changes c.args.entry c.args.stream c.args.old c.args.to.size c.args.to.word from)

pub returns-clause-changed : goal.returns-clause-changed
returns-clause-changed g c =
    on_ok_weaker c.free_place.result
    (λ freed from there read good image now.
    let mid = told_then (g.F.Folder.told c.args.folder.now) (g.F.Folder.told c.name_place.new.folder) from (NamesInProgress c.args.entry c.args.stream from) there (c.in_ok-name_place.ensures.stops from there read good) in
    freed_changes c.args.entry c.args.stream c.args.old c.args.to.size c.args.to.word from mid.image c.requires.stream mid.holds (c.in_ok-name_place.ensures.named from there read mid.image mid.is) image (freed mid.image mid.is image now))
    c.free_place.ensures.freed

pub returns-clause-read : goal.returns-clause-read
returns-clause-read g c =
    on_ok_weaker c.free_place.result
    (λ freed from there read.
    told_at_end (g.F.Folder.told c.name_place.new.folder).files (g.F.Folder.told c.free_place.new.folder).files (λ image. c.name_place.new.bytes ≡ record_at image c.args.entry) c.free_place.ensures.writes.silent
    (λ mid here image now. c.in_ok-name_place.ensures.read from there read mid here ∙ sym (record_freed c.args.old mid image (freed mid here image now).same c.args.entry)))
    c.free_place.ensures.freed

pub returns-clause-stops : goal.returns-clause-stops
returns-clause-stops g c from there read good =
    let mid = told_then (g.F.Folder.told c.args.folder.now) (g.F.Folder.told c.name_place.new.folder) from (NamesInProgress c.args.entry c.args.stream from) there (c.in_ok-name_place.ensures.stops from there read good) in
    let named = c.in_ok-name_place.ensures.named from there read mid.image mid.is in
    passes_then
    (passes_weaker (c.in_ok-name_place.ensures.stops from there read good) (naming_changes c.args.entry c.args.stream c.args.old c.args.to.size c.args.to.word from) (naming_changes c.args.entry c.args.stream c.args.old c.args.to.size c.args.to.word from))
    (passes_weaker (c.free_place.ensures.stops mid.image mid.is)
    (freeing_changes c.args.entry c.args.stream c.args.old c.args.to.size c.args.to.word from mid.image c.requires.stream mid.holds named)
    (freeing_changes c.args.entry c.args.stream c.args.old c.args.to.size c.args.to.word from mid.image c.requires.stream mid.holds named))

pub returns-clause-cause : goal.returns-clause-cause
returns-clause-cause g c =
    both_damaged c.free_place.result _ _ _
    (λ damage cause stays. (cause.0, subst (λ (t : Told). IsCause t (file_selector c.args.old) (first_block c.args.old) (block_count c.args.old) false damage) (sym stays) cause.1))
    c.free_place.ensures.cause c.free_place.ensures.unwritten

pub returns-clause-untold : goal.returns-clause-untold
returns-clause-untold g c can =
    if_damaged_weaker c.free_place.result _ _
    (λ damage none. told_back (g.F.Folder.told c.args.folder.now) (g.F.Folder.told c.name_place.new.folder) (NamesInProgress c.args.entry c.args.stream)
    (λ from there. c.in_ok-name_place.ensures.stops from there (can from there).0 (can from there).1) none)
    (c.free_place.ensures.untold
    (told_at_end (g.F.Folder.told c.args.folder.now).files (g.F.Folder.told c.name_place.new.folder).files (MayBeFreed c.args.old) c.in_ok-name_place.ensures.writes.silent
    (λ from there mid now.
    named_free c.args.entry c.args.stream c.args.old from c.args.files.now mid (c.requires.agrees from there)
    (passes_end (c.in_ok-name_place.ensures.stops from there (can from there).0 (can from there).1) mid now).same c.requires.old (can from there).2)))

pub returns-in_err-name_place-clause-stages : goal.returns-in_err-name_place-clause-stages
returns-in_err-name_place-clause-stages g c from there read good some = passes_weaker (c.in_err-name_place.ensures.stages from there read good) (λ image h. inl h) (λ image h. inl h)

pub returns-clause-stages : goal.returns-clause-stages
returns-clause-stages g c from there read good some =
    let mid = told_then (g.F.Folder.told c.args.folder.now) (g.F.Folder.told c.name_place.new.folder) from (NamesInProgress c.args.entry c.args.stream from) there (c.in_ok-name_place.ensures.stops from there read good) in
    let names : NamesPlace c.args.entry c.args.stream c.args.to.size c.args.to.word from mid.image = record { names = mid.holds; words = c.in_ok-name_place.ensures.named from there read mid.image mid.is; sealed = c.in_ok-name_place.ensures.sealed from there read mid.image mid.is } in
    passes_then (passes_weaker (c.in_ok-name_place.ensures.stages from there read good) (λ image h. inl h) (λ image h. inl h))
    (passes_weaker (c.free_place.ensures.stages mid.image mid.is) (λ image h. inr (record { some = some; named = mid.image; names = names; frees = h })) (λ image h. inr (record { some = some; named = mid.image; names = names; frees = h })))

pub returns-clause-staged : goal.returns-clause-staged
returns-clause-staged g c =
    on_ok_weaker c.free_place.result
    (λ frees from there read good some image now.
    let mid = told_then (g.F.Folder.told c.args.folder.now) (g.F.Folder.told c.name_place.new.folder) from (NamesInProgress c.args.entry c.args.stream from) there (c.in_ok-name_place.ensures.stops from there read good) in
    record { named = mid.image; names = record { names = mid.holds; words = c.in_ok-name_place.ensures.named from there read mid.image mid.is; sealed = c.in_ok-name_place.ensures.sealed from there read mid.image mid.is }; frees = inr (some, frees mid.image mid.is image now) })
    c.free_place.ensures.frees

pub returns-clause-sealed : goal.returns-clause-sealed
returns-clause-sealed g c =
    on_ok_weaker c.free_place.result
    (λ freed from there read good image now.
    let mid = told_then (g.F.Folder.told c.args.folder.now) (g.F.Folder.told c.name_place.new.folder) from (NamesInProgress c.args.entry c.args.stream from) there (c.in_ok-name_place.ensures.stops from there read good) in
    still_sealed mid.image image c.args.entry (g.met.F.Folder.are_bytes c.name_place.new.folder mid.image mid.is) (g.met.F.Folder.are_bytes c.free_place.new.folder image now) c.requires.kind (record_freed c.args.old mid.image image (freed mid.image mid.is image now).same c.args.entry) (c.in_ok-name_place.ensures.sealed from there read mid.image mid.is))
    c.free_place.ensures.freed
