use Rattle.std.proofs.Common.{◌≡◌, ⊎_elim, inl, ℕ, ◌+◌, ◌/◌, ◌%◌, ◌<◌, ◌≤◌, List, true, None, sym, ◌∙◌, ap, subst, arith}
use Rattle.std.specs.Option.{ForSome}
use Rattle.spec_image.specs.Told.{Stays, Told}
use Rattle.spec_format.specs.BlockFiles.{is_among}
use Rattle.blk_addr.specs.Kind.{kind_number}
use Rattle.spec_image.specs.Image.{Image, Block}
use Rattle.spec_image.specs.Footprint.{SameOutside, size_of}
use Rattle.spec_image.proofs.Runs.{passes_to, passes_none, passes_end, passes_weaker, some_inj}
use Rattle.blk_disk.specs.Growth.{fit_steps}
use Rattle.blk_disk.specs.declared.tables.BlockFiles.{BlockFiles}
use Rattle.blk_alloc.specs.Marking.{CanBeMarked, MarksUsedInProgress, MarksUsed}
use Rattle.blk_alloc.specs.Changes.{CanChangeMarks, map_of}
use Rattle.blk_alloc.proofs.Formed.{agrees_kept}
use Rattle.blk_alloc.proofs.Members.{member_all, member_head}
use Rattle.blk_alloc.proofs.Kept.{fit_larger, standing_kept, standing_same}
use Rattle.blk_alloc.proofs.Taken.{taking_fit}
use Rattle.blk_alloc.specs.Fitting.{IsPlace}
use Rattle.blk_alloc.proofs.Placed.{place_resized, place_stands}
use Rattle.spec_image.proofs.Footprints.{outside-refl}
use Rattle.blk_disk.specs.Tables.{Agrees, stands_among}
use Rattle.blk_alloc.proofs.Links.{fitted_long}
use Rattle.blk_alloc.proofs.TakenAfter.{counted_after, hints_after, ready_after, stops_after, taken_after, word_after}
use Rattle.spec_image.specs.Steps.{after}
use Rattle.blk_alloc.specs.Owning.{IsCause}
use Rattle.blk_io.proofs.Carried.{carried, if_damaged_weaker, told_at_end}
use Rattle.blk_alloc.proofs.Causes.{if_damaged_both, none_before}
use Rattle.blk_alloc.proofs.marking.mark.Goals as goal

pub fit-requires-clause-linked : goal.fit-requires-clause-linked
fit-requires-clause-linked g c = member_all c.args.files.now c.args.kind c.args.place.file c.requires.block_kind c.requires.place.linked

pub returns-in_err-fit-clause-stops : goal.returns-in_err-fit-clause-stops
returns-in_err-fit-clause-stops g c from there takeable =
    passes_to (passes_none (MarksUsedInProgress c.args.place.file from) c.in_err-fit.ensures.undone (λ image is. subst (MarksUsedInProgress c.args.place.file from) (some_inj (sym there ∙ is)) (taking_fit c.args.place.file from from (outside-refl (size_of (Block c.args.place.file)) from) (omega arith)))) (λ image midst. inl midst)

pub change-requires-clause-header : goal.change-requires-clause-header
change-requires-clause-header g c mid now =
    (member_head c.fit.new.self mid c.args.kind c.args.place.file c.requires.block_kind (c.in_ok-fit.ensures.agrees mid now) (ap (λ (l : List ℕ). is_among l c.args.place.file) (c.in_ok-fit.ensures.kept.files (kind_number c.args.kind)) ∙ c.requires.place.linked)).header

in_map : (start count : ℕ) → start < 64896 → start % 4 + count ≤ 4 → start + count ≤ 64896
in_map start count small group = omega (arith, small, group)

pub change-requires-clause-inside : goal.change-requires-clause-inside
change-requires-clause-inside g c mid now = in_map c.args.place.start c.args.place.count c.requires.place.small c.requires.place.group

pub returns-in_err-change-clause-agrees : goal.returns-in_err-change-clause-agrees
returns-in_err-change-clause-agrees g c =
    told_at_end (g.F.Folder.told c.fit.new.f).files (g.F.Folder.told c.change.new.folder).files (Agrees c.fit.new.self) c.in_err-change.ensures.writes.silent
    (λ mid now. let keeps : (i : Image) → SameOutside (map_of c.args.place.file) mid i → Agrees c.fit.new.self i = λ i same. agrees_kept c.args.place.file mid i same c.fit.new.self (c.in_ok-fit.ensures.agrees mid now) in
    passes_end (passes_weaker (c.in_err-change.ensures.stops mid now) (λ i midst. keeps i midst.same) (λ i. ⊎_elim (λ midst. keeps i midst.same) (λ changed. keeps i changed.same))))

pub returns-in_err-change-clause-stops : goal.returns-in_err-change-clause-stops
returns-in_err-change-clause-stops g c from there takeable =
    let tk : ForSome (g.F.Folder.told c.args.folder.now).files (λ image. CanBeMarked image c.args.place) = λ image is. subst (λ (i : Image). CanBeMarked i c.args.place) (some_inj (sym there ∙ is)) takeable in
    stops_after (g.F.Folder.told c.args.folder.now) (g.F.Folder.told c.fit.new.f) c.args.files.now c.fit.new.self c.args.place c.requires.agrees (member_all c.args.files.now c.args.kind c.args.place.file c.requires.block_kind c.requires.place.linked)
    c.in_ok-fit.ensures.fitted c.in_ok-fit.ensures.kept c.in_ok-fit.ensures.agrees c.args.kind c.requires.block_kind c.requires.some c.requires.node c.requires.place tk (g.F.Folder.told c.change.new.folder) c.in_err-change.ensures.stops from there

pub returns-clause-agrees : goal.returns-clause-agrees
returns-clause-agrees g c =
    told_at_end (g.F.Folder.told c.fit.new.f).files (g.F.Folder.told c.change.new.folder).files (Agrees c.fit.new.self) c.in_ok-change.ensures.writes.silent
    (λ mid now. let keeps : (i : Image) → SameOutside (map_of c.args.place.file) mid i → Agrees c.fit.new.self i = λ i same. agrees_kept c.args.place.file mid i same c.fit.new.self (c.in_ok-fit.ensures.agrees mid now) in
    passes_end (passes_weaker (c.in_ok-change.ensures.stops mid now) (λ i midst. keeps i midst.same) (λ i. ⊎_elim (λ midst. keeps i midst.same) (λ changed. keeps i changed.same))))

pub returns-clause-stops : goal.returns-clause-stops
returns-clause-stops g c from there takeable =
    let tk : ForSome (g.F.Folder.told c.args.folder.now).files (λ image. CanBeMarked image c.args.place) = λ image is. subst (λ (i : Image). CanBeMarked i c.args.place) (some_inj (sym there ∙ is)) takeable in
    stops_after (g.F.Folder.told c.args.folder.now) (g.F.Folder.told c.fit.new.f) c.args.files.now c.fit.new.self c.args.place c.requires.agrees (member_all c.args.files.now c.args.kind c.args.place.file c.requires.block_kind c.requires.place.linked)
    c.in_ok-fit.ensures.fitted c.in_ok-fit.ensures.kept c.in_ok-fit.ensures.agrees c.args.kind c.requires.block_kind c.requires.some c.requires.node c.requires.place tk (g.F.Folder.told c.change.new.folder) c.in_ok-change.ensures.stops from there

pub returns-clause-used : goal.returns-clause-used
returns-clause-used g c from there takeable image now =
    let tk : ForSome (g.F.Folder.told c.args.folder.now).files (λ image. CanBeMarked image c.args.place) = λ image is. subst (λ (i : Image). CanBeMarked i c.args.place) (some_inj (sym there ∙ is)) takeable in
    subst (λ (w : ℕ). MarksUsed c.args.files.now from w image) (sym c.of_blocks-addr.ensures)
    (taken_after (g.F.Folder.told c.args.folder.now) (g.F.Folder.told c.fit.new.f) c.args.files.now c.fit.new.self c.args.place c.requires.agrees (member_all c.args.files.now c.args.kind c.args.place.file c.requires.block_kind c.requires.place.linked)
    c.in_ok-fit.ensures.fitted c.in_ok-fit.ensures.kept c.in_ok-fit.ensures.agrees c.args.kind c.requires.block_kind c.requires.some c.requires.node c.requires.place tk from there image (λ mid is. c.in_ok-change.ensures.changed mid is image now))

pub returns-in_err-fit-clause-keeps : goal.returns-in_err-fit-clause-keeps
returns-in_err-fit-clause-keeps g c = standing_same c.args.files.now c.fit.new.self c.in_err-fit.ensures.same

pub returns-in_err-change-clause-keeps : goal.returns-in_err-change-clause-keeps
returns-in_err-change-clause-keeps g c = standing_kept c.args.files.now c.fit.new.self (fit_larger c.args.files.now c.fit.new.self c.args.place.file _ c.in_ok-fit.ensures.kept)

pub returns-clause-keeps : goal.returns-clause-keeps
returns-clause-keeps g c = standing_kept c.args.files.now c.fit.new.self (fit_larger c.args.files.now c.fit.new.self c.args.place.file _ c.in_ok-fit.ensures.kept)

pub returns-in_err-change-clause-cause : goal.returns-in_err-change-clause-cause
returns-in_err-change-clause-cause g c =
    carried c.change.result c.from_residual-in_err-change.result c.in_err-change.field-0.0 _ c.in_err-change.was c.from_residual-in_err-change.ensures.1
    (if_damaged_both c.change.result (IsCause (g.F.Folder.told c.fit.new.f) c.args.place.file c.args.place.start c.args.place.count true) (λ _. Stays (g.F.Folder.told c.fit.new.f) (g.F.Folder.told c.change.new.folder))
    (IsCause (g.F.Folder.told c.change.new.folder) c.args.place.file c.args.place.start c.args.place.count true)
    (λ damage cause stays. subst (λ (t : Told). IsCause t c.args.place.file c.args.place.start c.args.place.count true damage) (sym stays) cause) c.change.ensures.cause c.change.ensures.unwritten)

pub returns-in_err-change-clause-untold : goal.returns-in_err-change-clause-untold
returns-in_err-change-clause-untold g c =
    carried c.change.result c.from_residual-in_err-change.result c.in_err-change.field-0.0 _ c.in_err-change.was c.from_residual-in_err-change.ensures.1
    (if_damaged_weaker c.change.result (λ _. ForSome (g.F.Folder.told c.fit.new.f).files (λ image. CanChangeMarks image c.args.place.file c.args.place.start c.args.place.count true) → (g.F.Folder.told c.fit.new.f).files ≡ None)
    (λ _. ForSome (g.F.Folder.told c.args.folder.now).files (λ image. CanBeMarked image c.args.place) → (g.F.Folder.told c.args.folder.now).files ≡ None)
    (λ damage none tk. none_before (after (fit_steps c.args.files.now c.args.place.file)) (g.F.Folder.told c.args.folder.now).files (g.F.Folder.told c.fit.new.f).files c.in_ok-fit.ensures.fitted.files
    (none (ready_after (g.F.Folder.told c.args.folder.now) (g.F.Folder.told c.fit.new.f) c.args.files.now c.fit.new.self c.args.place c.requires.agrees (member_all c.args.files.now c.args.kind c.args.place.file c.requires.block_kind c.requires.place.linked)
    c.in_ok-fit.ensures.fitted c.in_ok-fit.ensures.kept c.in_ok-fit.ensures.agrees tk))) c.change.ensures.untold)

pub returns-in_err-fit-clause-place : goal.returns-in_err-fit-clause-place
returns-in_err-fit-clause-place g c = subst (λ (files : BlockFiles). IsPlace files (kind_number c.args.kind) c.args.place.count c.args.place) (sym c.in_err-fit.ensures.same) c.requires.place

pub returns-in_err-change-clause-place : goal.returns-in_err-change-clause-place
returns-in_err-change-clause-place g c = place_resized c.args.files.now c.fit.new.self (kind_number c.args.kind) c.args.place.count c.args.place.file _ c.args.place c.in_ok-fit.ensures.kept c.requires.place

pub returns-clause-place : goal.returns-clause-place
returns-clause-place g c = place_resized c.args.files.now c.fit.new.self (kind_number c.args.kind) c.args.place.count c.args.place.file _ c.args.place c.in_ok-fit.ensures.kept c.requires.place

pub returns-clause-counted : goal.returns-clause-counted
returns-clause-counted g c =
    counted_after (g.F.Folder.told c.args.folder.now) (g.F.Folder.told c.fit.new.f) c.args.files.now c.fit.new.self c.args.place c.requires.agrees (member_all c.args.files.now c.args.kind c.args.place.file c.requires.block_kind c.requires.place.linked)
    c.in_ok-fit.ensures.fitted c.in_ok-fit.ensures.kept c.in_ok-fit.ensures.agrees c.args.place.start c.args.place.count (g.F.Folder.told c.change.new.folder) c.in_ok-change.ensures.changed

pub returns-clause-links : goal.returns-clause-links
returns-clause-links g c = c.in_ok-fit.ensures.kept.files

pub returns-clause-long : goal.returns-clause-long
returns-clause-long g c = fitted_long c.args.files.now c.fit.new.self c.args.place.file c.in_ok-fit.ensures.kept

pub returns-clause-stands : goal.returns-clause-stands
returns-clause-stands g c = ap (stands_among c.fit.new.self) c.of_blocks-addr.ensures ∙ place_stands c.args.files.now c.fit.new.self c.args.kind c.requires.block_kind c.args.place c.requires.some c.requires.place c.in_ok-fit.ensures.kept

pub change-requires-clause-word : goal.change-requires-clause-word
change-requires-clause-word g c =
    word_after (g.F.Folder.told c.args.folder.now) (g.F.Folder.told c.fit.new.f) c.args.files.now c.fit.new.self c.args.place c.requires.agrees (member_all c.args.files.now c.args.kind c.args.place.file c.requires.block_kind c.requires.place.linked)
    c.in_ok-fit.ensures.fitted c.in_ok-fit.ensures.kept c.in_ok-fit.ensures.agrees (c.args.place.start / 32) c.args.word c.requires.read

pub returns-clause-hints : goal.returns-clause-hints
returns-clause-hints g c =
    hints_after (g.F.Folder.told c.args.folder.now) (g.F.Folder.told c.fit.new.f) c.args.files.now c.fit.new.self c.args.place c.requires.agrees (member_all c.args.files.now c.args.kind c.args.place.file c.requires.block_kind c.requires.place.linked)
    c.in_ok-fit.ensures.fitted c.in_ok-fit.ensures.kept c.in_ok-fit.ensures.agrees c.args.place.start c.args.place.count (g.F.Folder.told c.change.new.folder) c.in_ok-change.ensures.changed

pub returns-clause-blocks : goal.returns-clause-blocks
returns-clause-blocks g c = c.in_ok-fit.ensures.kept.blocks
