use Rattle.std.proofs.Common.{inr, sym, ap, subst}
use Rattle.std.specs.Prelude.{is_some}
use Rattle.std.proofs.lemmas.Result.{on_ok_weaker}
use Rattle.spec_image.specs.Footprint.{Footprint, SameOutside}
use Rattle.spec_image.specs.Told.{Passes}
use Rattle.spec_image.proofs.Runs.{passes_end, passes_weaker}
use Rattle.spec_format.specs.Address.{external_number}
use Rattle.blk_io.proofs.Carried.{silent_part}
use Rattle.blk_stream.proofs.PlacesFreed.{agrees_deleted, freed_file, freeing_external}
use Rattle.blk_stream.proofs.freeing.delete_file.Goals as goal

pub returns-clause-freed : goal.returns-clause-freed
returns-clause-freed g c = on_ok_weaker c.delete.result (λ none from there image now. freed_file c.args.addr from image c.requires.kind (passes_end (c.delete.ensures.stops from there) image now).outside (none image now)) c.delete.ensures.file

pub returns-clause-stops : goal.returns-clause-stops
returns-clause-stops g c from there =
    subst (λ (F : Footprint). Passes (g.F.Folder.told c.args.folder.now) (g.F.Folder.told c.delete.new.f) (SameOutside F from)) (sym (freeing_external c.args.addr c.requires.kind))
    (passes_weaker (c.delete.ensures.stops from there) (λ image h. h.outside) (λ image h. h.outside))

pub returns-clause-agrees : goal.returns-clause-agrees
returns-clause-agrees g c = agrees_deleted c.args.files.now (g.F.Folder.told c.args.folder.now) (g.F.Folder.told c.delete.new.f) (external_number c.args.addr) c.delete.ensures.prefix c.requires.agrees

pub returns-clause-writes : goal.returns-clause-writes
returns-clause-writes g c = record {
  silent = silent_part c.delete.ensures.prefix;
  later = c.delete.ensures.later;
  failed = c.delete.ensures.failed;
}

pub returns-clause-frees : goal.returns-clause-frees
returns-clause-frees g c = on_ok_weaker c.delete.result (λ none from there image now. inr (record { external_kind = c.requires.kind; same = (passes_end (c.delete.ensures.stops from there) image now).outside; gone = ap is_some (none image now) })) c.delete.ensures.file

pub returns-clause-stages : goal.returns-clause-stages
returns-clause-stages g c from there = passes_weaker (c.delete.ensures.stops from there) (λ image h. inr (c.requires.kind, h.outside)) (λ image h. inr (c.requires.kind, h.outside))
