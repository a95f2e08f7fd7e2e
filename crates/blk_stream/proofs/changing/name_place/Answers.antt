use Rattle.std.proofs.Common.{◌≡◌, Some, ◌+◌, ◌*◌, ℕ, sym, ◌∙◌, ap, subst, List, [], ◌∷◌, arith, refl}
use Rattle.std.proofs.lemmas.Result.{on_ok_weaker}
use Rattle.spec_image.specs.Image.{Image}
use Rattle.spec_image.specs.Steps.{TrailStep, with_words}
use Rattle.spec_image.specs.Told.{Along, AppliesPrefix}
use Rattle.spec_image.proofs.Runs.{passes_part, some_inj}
use Rattle.spec_format.specs.Sealed.{IsUpdated, record_at, sealed, sealed_steps, seal_place}
use Rattle.blk_io.proofs.Carried.{silent_part}
use Rattle.blk_disk.proofs.SealedWrites.{prefix_read}
use Rattle.spec_format.proofs.SealedRecords.{entry_bytes}
use Rattle.law_folder.proofs.lists.WriteSteps.{quiet-sealed}
use Rattle.blk_stream.specs.Changing.{NamesInProgress, place_changes}
use Rattle.blk_stream.specs.Streams.{address_place, size_place}
use Rattle.blk_stream.proofs.RecordSeals.{updated_sealed}
use Rattle.blk_stream.specs.Stages.{NamesShown}
use Rattle.blk_stream.proofs.Naming.{changed_long, named_words, naming_moments, naming_shown, place_are}
use Rattle.blk_stream.proofs.changing.name_place.Given as given
use Rattle.blk_stream.proofs.changing.name_place.Goals as goal

pub update_record-requires-clause-changes : goal.update_record-requires-clause-changes
update_record-requires-clause-changes g c = place_are c.args.entry c.args.stream c.size_at.result c.addr_at.result c.args.size c.args.word c.requires.kind c.requires.stream c.size_at.ensures c.addr_at.ensures

pub update_record-requires-clause-size : goal.update_record-requires-clause-size
update_record-requires-clause-size g c = c.requires.long ∙ sym (entry_bytes c.args.entry c.requires.kind)

pub returns-clause-long : goal.returns-clause-long
returns-clause-long g c = changed_long (seal_place c.args.entry) ((c.size_at.result, c.args.size) ∷ (c.addr_at.result, c.args.word) ∷ []) c.args.bytes.now c.update_record.new.bytes c.update_record.ensures.bytes c.requires.long

pub returns-clause-writes : goal.returns-clause-writes
returns-clause-writes g c = record {
  silent = silent_part c.update_record.ensures.prefix;
  later = c.update_record.ensures.later;
  failed = c.update_record.ensures.failed;
}

pub returns-clause-read : goal.returns-clause-read
returns-clause-read g c =
    on_ok_weaker c.update_record.result
    (λ updated from there read image now.
    c.update_record.ensures.bytes ∙ ap (λ (bytes : List ℕ). sealed (seal_place c.args.entry) (with_words ((c.size_at.result, c.args.size) ∷ (c.addr_at.result, c.args.word) ∷ []) bytes)) read ∙ sym (updated from there read image now))
    c.update_record.ensures.updated

-- the changes that are made
changes_are : (g : given.Over) (c : goal.After-slice_known-2-1 g) → (c.size_at.result, c.args.size) ∷ (c.addr_at.result, c.args.word) ∷ [] ≡ place_changes c.args.stream c.args.size c.args.word
changes_are g c = ap (λ (p : ℕ). (p, c.args.size) ∷ (c.addr_at.result, c.args.word) ∷ []) c.size_at.ensures ∙ ap (λ (q : ℕ). (40 + 4 * c.args.stream, c.args.size) ∷ (q, c.args.word) ∷ []) c.addr_at.ensures

pub returns-clause-named : goal.returns-clause-named
returns-clause-named g c =
    on_ok_weaker c.update_record.result
    (λ updated from there read image now.
    let words = named_words c.args.entry c.args.stream c.args.size c.args.word from image c.requires.kind c.requires.stream (omega (arith, c.ranges.size.fits)) (omega (arith, c.ranges.word.fits))
    (subst (λ (l : List (ℕ × ℕ)). IsUpdated from c.args.entry l image) (changes_are g c) (updated from there read image now)) in
    record { size_is = words.0; word_is = words.1 })
    c.update_record.ensures.updated

-- a prefix of the steps was made
part : (g : given.Over) (c : goal.After-slice_known-2-1 g) (from : Image) → (g.F.Folder.told c.args.folder.now).files ≡ Some from → c.args.bytes.now ≡ record_at from c.args.entry
    → AppliesPrefix (g.F.Folder.told c.args.folder.now) (g.F.Folder.told c.update_record.new.folder) (sealed_steps from c.args.entry (place_changes c.args.stream c.args.size c.args.word))
part g c from there read =
    subst (λ (l : List (ℕ × ℕ)). AppliesPrefix (g.F.Folder.told c.args.folder.now) (g.F.Folder.told c.update_record.new.folder) (sealed_steps from c.args.entry l)) (changes_are g c)
    (prefix_read c.args.entry ((c.size_at.result, c.args.size) ∷ (c.addr_at.result, c.args.word) ∷ []) c.args.bytes.now (g.F.Folder.told c.args.folder.now) (g.F.Folder.told c.args.folder.now) (g.F.Folder.told c.update_record.new.folder) refl
    (λ image now. subst (λ (i : Image). c.args.bytes.now ≡ record_at i c.args.entry) (some_inj (sym there ∙ now)) read) c.update_record.ensures.prefix from there)

pub returns-clause-stages : goal.returns-clause-stages
returns-clause-stages g c from there read good =
    let P : Image → Type 0 = NamesShown c.args.entry c.args.stream from in
    let steps : List TrailStep = sealed_steps from c.args.entry (place_changes c.args.stream c.args.size c.args.word) in
    passes_part P P (part g c from there read) (quiet-sealed from c.args.entry (place_changes c.args.stream c.args.size c.args.word)) (λ image h. h)
    (λ image now. subst (λ (i : Image). Along P i steps) (some_inj (sym there ∙ now))
    (naming_shown c.args.files.now c.args.entry c.args.stream c.args.size c.args.word from c.requires.kind c.requires.stands c.requires.stream (c.requires.agrees from there) (g.met.F.Folder.are_bytes c.args.folder.now from there) good))

pub returns-clause-stops : goal.returns-clause-stops
returns-clause-stops g c from there read good =
    let P : Image → Type 0 = NamesInProgress c.args.entry c.args.stream from in
    let steps : List TrailStep = sealed_steps from c.args.entry (place_changes c.args.stream c.args.size c.args.word) in
    passes_part P P (part g c from there read) (quiet-sealed from c.args.entry (place_changes c.args.stream c.args.size c.args.word)) (λ image h. h)
    (λ image now. subst (λ (i : Image). Along P i steps) (some_inj (sym there ∙ now))
    (naming_moments c.args.files.now c.args.entry c.args.stream c.args.size c.args.word from c.requires.kind c.requires.stands c.requires.stream (c.requires.agrees from there) good))

pub returns-clause-sealed : goal.returns-clause-sealed
returns-clause-sealed g c =
    on_ok_weaker c.update_record.result
    (λ updated from there read image now.
    updated_sealed from image c.args.entry (place_changes c.args.stream c.args.size c.args.word) (g.met.F.Folder.are_bytes c.update_record.new.folder image now) c.requires.kind (place_are c.args.entry c.args.stream (size_place c.args.stream) (address_place c.args.stream) c.args.size c.args.word c.requires.kind c.requires.stream refl refl)
    (subst (λ (l : List (ℕ × ℕ)). IsUpdated from c.args.entry l image) (changes_are g c) (updated from there read image now)))
    c.update_record.ensures.updated
