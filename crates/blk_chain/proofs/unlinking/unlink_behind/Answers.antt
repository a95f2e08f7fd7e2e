use Rattle.std.proofs.Common.{◌≡◌, ℕ, None, sym, ◌∙◌, subst}
use Rattle.std.specs.Option.{ForSome}
use Rattle.std.proofs.lemmas.Result.{on_ok_weaker}
use Rattle.spec_image.specs.Image.{Image, Index, length_of}
use Rattle.spec_format.specs.Headers.{index_length, HasWholeIndex}
use Rattle.blk_io.proofs.Carried.{carried, if_damaged_weaker, told_at_end}
use Rattle.blk_io.specs.Faults.{IfDamaged}
use Rattle.spec_image.specs.Told.{Told, Applies, AppliesPrefix, Passes}
use Rattle.spec_format.specs.Sealed.{IsMidUpdate, IsUpdated, RecordChecks, sealed_steps}
use Rattle.blk_disk.specs.Tables.{Agrees}
use Rattle.blk_chain.specs.Unlinking.{next_record}
use Rattle.blk_chain.proofs.Unlinks.{next_changes, moved, with_next, turns_yet, turns_then, unlinked_then, still_complete}
use Rattle.blk_chain.proofs.unlinking.unlink_behind.Given as given
use Rattle.blk_chain.proofs.unlinking.unlink_behind.Goals as goal
use Rattle.blk_chain.proofs.unlinking.unlink_behind.Goals.{After-update_sealed}
use Rattle.blk_disk.specs.Open.{IsOpen}

pub returns-in_err-next-clause-is_open : goal.returns-in_err-next-clause-is_open
returns-in_err-next-clause-is_open g c = subst (λ (t : Told). ForSome t.files (IsOpen c.args.files.now)) (sym c.in_err-next.ensures.reads.stays) c.requires.is_open

pub returns-in_err-next-clause-commits : goal.returns-in_err-next-clause-commits
returns-in_err-next-clause-commits g c =
    turns_yet (g.F.Folder.told c.args.folder.now) (g.F.Folder.told c.field.new.f) (g.met.F.Folder.are_bytes c.args.folder.now) c.args.entry c.args.before c.in_err-next.ensures.reads.stays

pub update_sealed-requires-clause-agrees : goal.update_sealed-requires-clause-agrees
update_sealed-requires-clause-agrees g c = subst (λ (t : Told). ForSome t.files (Agrees c.args.files.now)) (sym c.in_ok-next.ensures.reads.stays) (λ image there. (c.requires.is_open image there).agrees)

pub update_sealed-requires-clause-changes : goal.update_sealed-requires-clause-changes
update_sealed-requires-clause-changes g c = next_changes c.args.before c.in_ok-next.next c.requires.kind_before

-- what a call says of the next that was read
said : (g : given.Over) (c : goal.After-update_sealed g) (P : Told → Image → ℕ → Type 0) → ForSome (g.F.Folder.told c.field.new.f).files (λ from. P (g.F.Folder.told c.field.new.f) from c.in_ok-next.next)
    → ForSome (g.F.Folder.told c.args.folder.now).files (λ from. P (g.F.Folder.told c.args.folder.now) from (next_record from c.args.entry))
said g c P = moved (g.F.Folder.told c.args.folder.now) (g.F.Folder.told c.field.new.f) c.args.entry c.in_ok-next.next P c.in_ok-next.ensures.value c.in_ok-next.ensures.reads.stays

pub returns-clause-steps : goal.returns-clause-steps
returns-clause-steps g c =
    on_ok_weaker c.update_sealed.result (λ whole. said g c (λ (t : Told) (from : Image) (n : ℕ). Applies t (g.F.Folder.told c.update_sealed.new.f) (sealed_steps from c.args.before (with_next n))) whole) c.update_sealed.ensures.steps

pub returns-clause-prefix : goal.returns-clause-prefix
returns-clause-prefix g c = record {
  made = said g c (λ (t : Told) (from : Image) (n : ℕ). AppliesPrefix t (g.F.Folder.told c.update_sealed.new.f) (sealed_steps from c.args.before (with_next n))) c.update_sealed.ensures.prefix.made;
  silent = λ none. c.update_sealed.ensures.prefix.silent (subst (λ (t : Told). t.files ≡ None) (sym c.in_ok-next.ensures.reads.stays) none);
}

pub returns-clause-commits : goal.returns-clause-commits
returns-clause-commits g c =
    turns_then (g.F.Folder.told c.args.folder.now) (g.F.Folder.told c.update_sealed.new.f) (g.met.F.Folder.are_bytes c.args.folder.now) c.args.entry c.args.before c.args.files.now (λ image there. (c.requires.is_open image there).agrees) c.requires.stands_before (returns-clause-prefix g c).made

pub returns-clause-sealed : goal.returns-clause-sealed
returns-clause-sealed g c =
    on_ok_weaker c.update_sealed.result (λ updated. said g c (λ (t : Told) (from : Image) (n : ℕ). ForSome (g.F.Folder.told c.update_sealed.new.f).files (IsUpdated from c.args.before (with_next n))) updated) c.update_sealed.ensures.updated

moments : (g : given.Over) (c : goal.After-update_sealed g) → ForSome (g.F.Folder.told c.args.folder.now).files (λ from. RecordChecks c.args.before from → Passes (g.F.Folder.told c.args.folder.now) (g.F.Folder.told c.update_sealed.new.f) (IsMidUpdate from c.args.before (with_next (next_record from c.args.entry))))
moments g c = said g c (λ (t : Told) (from : Image) (n : ℕ). RecordChecks c.args.before from → Passes t (g.F.Folder.told c.update_sealed.new.f) (IsMidUpdate from c.args.before (with_next n))) c.update_sealed.ensures.stops

pub returns-clause-unlinked : goal.returns-clause-unlinked
returns-clause-unlinked g c =
    on_ok_weaker c.update_sealed.result
    (λ updated. unlinked_then (g.F.Folder.told c.args.folder.now) (g.F.Folder.told c.update_sealed.new.f) (g.met.F.Folder.are_bytes c.args.folder.now) c.args.entry c.args.before (moments g c)
    (said g c (λ (t : Told) (from : Image) (n : ℕ). ForSome (g.F.Folder.told c.update_sealed.new.f).files (IsUpdated from c.args.before (with_next n))) updated)) c.update_sealed.ensures.updated

whole_index_at_end : (g : given.Over) (c : goal.After-update_sealed g) → ForSome (g.F.Folder.told c.update_sealed.new.f).files HasWholeIndex
whole_index_at_end g c =
    told_at_end (g.F.Folder.told c.args.folder.now).files (g.F.Folder.told c.update_sealed.new.f).files (λ image. length_of image Index ≡ index_length) (returns-clause-prefix g c).silent
    (still_complete (g.F.Folder.told c.args.folder.now) (g.F.Folder.told c.update_sealed.new.f) (g.met.F.Folder.are_bytes c.args.folder.now) c.args.entry c.args.before (λ image there. (c.requires.is_open image there).whole_index) (returns-clause-prefix g c).made)

pub returns-clause-is_open : goal.returns-clause-is_open
returns-clause-is_open g c image here = record { agrees = c.update_sealed.ensures.agrees image here; whole_index = whole_index_at_end g c image here }

pub returns-clause-checked : goal.returns-clause-checked
returns-clause-checked g c = on_ok_weaker c.update_sealed.result (λ good. subst (λ (t : Told). ForSome t.files (RecordChecks c.args.before)) c.in_ok-next.ensures.reads.stays good) c.update_sealed.ensures.checked

pub returns-clause-unwritten : goal.returns-clause-unwritten
returns-clause-unwritten g c = if_damaged_weaker c.update_sealed.result _ _ (λ damage stays. stays ∙ c.in_ok-next.ensures.reads.stays) c.update_sealed.ensures.unwritten

pub returns-clause-untold : goal.returns-clause-untold
returns-clause-untold g c good =
    subst (λ (t : Told). IfDamaged c.update_sealed.result (λ _. t.files ≡ None)) c.in_ok-next.ensures.reads.stays
    (c.update_sealed.ensures.untold (subst (λ (t : Told). ForSome t.files (RecordChecks c.args.before)) (sym c.in_ok-next.ensures.reads.stays) good))

pub returns-in_err-next-clause-untold : goal.returns-in_err-next-clause-untold
returns-in_err-next-clause-untold g c good =
    carried c.field.result c.from_residual.result c.in_err-next.field-0.0 (λ _. (g.F.Folder.told c.args.folder.now).files ≡ None) c.in_err-next.was c.from_residual.ensures.1
    (c.field.ensures.untold (λ image there. (c.requires.is_open image there).agrees))
