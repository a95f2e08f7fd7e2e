use Rattle.std.proofs.Common.{◌≡◌, inr, refl, subst, sym, ◌∙◌, true}
use Rattle.std.proofs.lemmas.Result.{on_ok_weaker}
use Rattle.spec_image.proofs.Runs.{passes_end, passes_weaker, some_inj}
use Rattle.spec_image.specs.Image.{Index}
use Rattle.spec_format.specs.Address.{external_number}
use Rattle.spec_format.specs.BlockFiles.{stands_in, HasSoundHeaders}
use Rattle.blk_io.proofs.Carried.{silent_part}
use Rattle.blk_object.proofs.KeptExternalFiles.{deletions-remove}
use Rattle.blk_stream.proofs.PlacesFreed.{agrees_deleted}
use Rattle.spec_image.specs.Footprint.{whole}
use Rattle.blk_external.specs.Changes.{ChangesExternal}
use Rattle.blk_external.specs.Numbers.{named_file}
use Rattle.blk_object.proofs.FreeingRuns.{still-open}
use Rattle.blk_object.proofs.freeing.delete_file.Goals as goal

pub returns-clause-freed : goal.returns-clause-freed
returns-clause-freed g c =
    on_ok_weaker c.delete.result
    (λ none from there formed stands image now. record {
      removed = inr (deletions-remove c.args.place (g.F.Folder.told c.args.folder.now) (g.F.Folder.told c.delete.new.f) c.requires.kind
          (λ other is. subst HasSoundHeaders (some_inj (sym there ∙ is)) formed) (λ other is. subst (λ i. stands_in i c.args.place ≡ true) (some_inj (sym there ∙ is)) stands) c.delete.ensures.stops none from there image now);
      index = λ i. (passes_end (c.delete.ensures.stops from there) image now).outside.bytes Index i refl;
    })
    c.delete.ensures.file

pub returns-clause-stops : goal.returns-clause-stops
returns-clause-stops g c from there = passes_weaker (c.delete.ensures.stops from there) (λ image h. inr (c.requires.kind, h.outside)) (λ image h. inr (c.requires.kind, h.outside))

pub returns-clause-is_open : goal.returns-clause-is_open
returns-clause-is_open g c =
    still-open c.args.files.now (g.F.Folder.told c.args.folder.now) (g.F.Folder.told c.delete.new.f) (ChangesExternal (whole (named_file c.args.place)) (external_number c.args.place)) (λ from image h. h.outside.lengths Index refl)
    (λ from there. passes_end (c.delete.ensures.stops from there)) (silent_part c.delete.ensures.prefix)
    (agrees_deleted c.args.files.now (g.F.Folder.told c.args.folder.now) (g.F.Folder.told c.delete.new.f) (external_number c.args.place) c.delete.ensures.prefix (λ from there. (c.requires.is_open from there).agrees)) c.requires.is_open

pub returns-clause-writes : goal.returns-clause-writes
returns-clause-writes g c = record {
  silent = silent_part c.delete.ensures.prefix;
  later = c.delete.ensures.later;
  failed = c.delete.ensures.failed;
}
