use Rattle.std.proofs.Common.{◌≡◌, inl, inr, ⊎_elim, ℕ, ◌/◌, None, ◌∙◌, ap}
use Rattle.std.specs.Option.{ForSome}
use Rattle.std.proofs.lemmas.Result.{on_ok_weaker}
use Rattle.spec_image.specs.Footprint.{SameOutside, one_word}
use Rattle.spec_image.specs.Image.{Block, Image}
use Rattle.spec_image.proofs.Runs.{passes_end, passes_then, passes_weaker}
use Rattle.spec_format.specs.Address.{block_word, file_selector}
use Rattle.spec_format.specs.BlockFiles.{is_among}
use Rattle.blk_addr.specs.Kind.{kind_number}
use Rattle.blk_io.proofs.Carried.{if_damaged_weaker, told_at_end}
use Rattle.blk_disk.specs.Tables.{Agrees, all_files}
use Rattle.blk_alloc.specs.Fitting.{hint_place, IsMapWord}
use Rattle.blk_alloc.specs.Marking.{CanBeMarked, HasHintAmong, KeepsHints, MarksUsed, MarksUsedInProgress}
use Rattle.blk_alloc.proofs.Members.{member_all, member_head}
use Rattle.blk_alloc.proofs.Rooms.{if_ok_both, told_later, untold_before, word_file}
use Rattle.blk_alloc.proofs.Takings.{agrees_hinted, can_hinted, counted_hinted, hinted_moment, marked_moment, other_hints, used_hinted, word_hinted}
use Rattle.blk_alloc.proofs.taking.take.Goals as goal

pub set_hint-requires-clause-header : goal.set_hint-requires-clause-header
set_hint-requires-clause-header g c image there =
    (member_head c.args.files.now image c.args.kind c.args.found.place.file c.requires.block_kind (c.requires.agrees image there) c.requires.place.linked).header

pub mark-requires-clause-read : goal.mark-requires-clause-read
mark-requires-clause-read g c =
    told_at_end (g.F.Folder.told c.args.folder.now).files (g.F.Folder.told c.set_hint.new.folder).files (λ mid. IsMapWord mid c.args.found.place.file (c.args.found.place.start / 32) c.args.found.word) c.in_ok-set_hint.ensures.writes.silent
    (λ from there mid now. word_hinted c.args.found.place.file c.args.found.i c.requires.small from mid (c.in_ok-set_hint.ensures.set from there mid now).same c.args.found.place.file (c.args.found.place.start / 32) c.args.found.word (c.requires.read from there))

pub mark-requires-clause-agrees : goal.mark-requires-clause-agrees
mark-requires-clause-agrees g c =
    told_at_end (g.F.Folder.told c.args.folder.now).files (g.F.Folder.told c.set_hint.new.folder).files (Agrees c.args.files.now) c.in_ok-set_hint.ensures.writes.silent
    (λ from there mid now. agrees_hinted c.args.found.place.file c.args.found.i c.requires.small from mid (c.in_ok-set_hint.ensures.set from there mid now).same c.args.files.now (c.requires.agrees from there))

pub returns-in_err-set_hint-clause-stops : goal.returns-in_err-set_hint-clause-stops
returns-in_err-set_hint-clause-stops g c from there can =
    let n = c.args.found.place.file in
    let keeps = λ (i : Image) (same : SameOutside (one_word (Block n) (hint_place c.args.found.i)) from i). hinted_moment n c.args.found.i c.requires.small from i same in
    passes_weaker (c.in_err-set_hint.ensures.stops from there) keeps (λ i same. inl (keeps i same))

pub returns-in_err-set_hint-clause-agrees : goal.returns-in_err-set_hint-clause-agrees
returns-in_err-set_hint-clause-agrees g c =
    told_at_end (g.F.Folder.told c.args.folder.now).files (g.F.Folder.told c.set_hint.new.folder).files (Agrees c.args.files.now) c.in_err-set_hint.ensures.writes.silent
    (λ from there mid now. agrees_hinted c.args.found.place.file c.args.found.i c.requires.small from mid (passes_end (c.in_err-set_hint.ensures.stops from there) mid now) c.args.files.now (c.requires.agrees from there))

pub returns-clause-counted : goal.returns-clause-counted
returns-clause-counted g c =
    on_ok_weaker c.mark.result
    (λ counted from there image now.
    let mid = told_later (c.in_ok-set_hint.ensures.stops from there) there in
    counted_hinted c.args.found.place.file c.args.found.i c.requires.small from mid.0 (c.in_ok-set_hint.ensures.set from there mid.0 mid.1).same c.args.found.place.file c.args.found.place.start image (counted mid.0 mid.1 image now))
    c.mark.ensures.counted

pub returns-clause-hint : goal.returns-clause-hint
returns-clause-hint g c =
    on_ok_weaker c.mark.result
    (λ keeps from there image now.
    let mid = told_later (c.in_ok-set_hint.ensures.stops from there) there in
    let hint = c.in_ok-set_hint.ensures.set from there mid.0 mid.1 in
    record {
      set = keeps mid.0 mid.1 image now c.args.found.place.file c.args.found.i c.requires.small ∙ hint.set;
      others = λ m j few apart. keeps mid.0 mid.1 image now m j few ∙ other_hints c.args.found.place.file c.args.found.i c.requires.small from mid.0 hint.same m j few apart;
    })
    c.mark.ensures.hints

pub returns-clause-used : goal.returns-clause-used
returns-clause-used g c =
    let place = c.args.found.place in
    let w : ℕ = block_word (kind_number c.args.kind) place.file place.start place.count in
    if_ok_both c.mark.result (λ addr. addr ≡ w)
    (λ addr. ForSome (g.F.Folder.told c.set_hint.new.folder).files (λ mid. CanBeMarked mid place → ForSome (g.F.Folder.told c.mark.new.folder).files (MarksUsed c.args.files.now mid addr)))
    (λ addr. ForSome (g.F.Folder.told c.args.folder.now).files (λ from. CanBeMarked from place → ForSome (g.F.Folder.told c.mark.new.folder).files (MarksUsed c.args.files.now from addr)))
    (λ addr word used from there can image now.
    let mid = told_later (c.in_ok-set_hint.ensures.stops from there) there in
    let same = (c.in_ok-set_hint.ensures.set from there mid.0 mid.1).same in
    let file : file_selector addr ≡ place.file = ap file_selector word ∙ word_file c.args.files.now c.args.kind place.count place c.requires.some c.requires.place in
    let among = member_all c.args.files.now c.args.kind place.file c.requires.block_kind c.requires.place.linked in
    used_hinted place.file c.args.found.i c.requires.small from mid.0 same c.args.files.now addr image (c.requires.agrees from there) file (ap (is_among (all_files c.args.files.now)) file ∙ among)
    (used mid.0 mid.1 (can_hinted place.file c.args.found.i c.requires.small from mid.0 same place can) image now))
    c.mark.ensures.word c.mark.ensures.used

pub returns-clause-stops : goal.returns-clause-stops
returns-clause-stops g c from there can =
    let place = c.args.found.place in
    let n = place.file in
    let w : ℕ = block_word (kind_number c.args.kind) place.file place.start place.count in
    let mid = told_later (c.in_ok-set_hint.ensures.stops from there) there in
    let same = (c.in_ok-set_hint.ensures.set from there mid.0 mid.1).same in
    let file : file_selector w ≡ place.file = word_file c.args.files.now c.args.kind place.count place c.requires.some c.requires.place in
    let among = member_all c.args.files.now c.args.kind place.file c.requires.block_kind c.requires.place.linked in
    let first = λ (i : Image) (s : SameOutside (one_word (Block n) (hint_place c.args.found.i)) from i). hinted_moment n c.args.found.i c.requires.small from i s in
    let keeps = λ (i : Image) (midst : MarksUsedInProgress n mid.0 i). marked_moment n c.args.found.i c.requires.small from mid.0 same i midst in
    let hint = c.in_ok-set_hint.ensures.set from there mid.0 mid.1 in
    let ends : (i : Image) → MarksUsed c.args.files.now mid.0 w i × KeepsHints mid.0 i → MarksUsed c.args.files.now from w i × HasHintAmong n c.args.found.i (place.start / 4) from i =
    (λ i used. (
      used_hinted n c.args.found.i c.requires.small from mid.0 same c.args.files.now w i (c.requires.agrees from there) file (ap (is_among (all_files c.args.files.now)) file ∙ among) used.0,
      record { set = used.1 n c.args.found.i c.requires.small ∙ hint.set; others = λ m j few apart. used.1 m j few ∙ other_hints n c.args.found.i c.requires.small from mid.0 same m j few apart },
    )) in
    passes_then (passes_weaker (c.in_ok-set_hint.ensures.stops from there) first first)
    (passes_weaker (c.mark.ensures.stops mid.0 mid.1 (can_hinted n c.args.found.i c.requires.small from mid.0 same place can)) keeps (λ i. ⊎_elim (λ midst. inl (keeps i midst)) (λ used. inr (ends i used))))

pub returns-clause-untold : goal.returns-clause-untold
returns-clause-untold g c =
    let place = c.args.found.place in
    if_damaged_weaker c.mark.result (λ _. ForSome (g.F.Folder.told c.set_hint.new.folder).files (λ image. CanBeMarked image place) → (g.F.Folder.told c.set_hint.new.folder).files ≡ None)
    (λ _. ForSome (g.F.Folder.told c.args.folder.now).files (λ image. CanBeMarked image place) → (g.F.Folder.told c.args.folder.now).files ≡ None)
    (λ damage none can.
    untold_before (λ from. SameOutside (one_word (Block place.file) (hint_place c.args.found.i)) from) c.in_ok-set_hint.ensures.stops
    (none (told_at_end (g.F.Folder.told c.args.folder.now).files (g.F.Folder.told c.set_hint.new.folder).files (λ mid. CanBeMarked mid place) c.in_ok-set_hint.ensures.writes.silent
    (λ from there mid now. can_hinted place.file c.args.found.i c.requires.small from mid (c.in_ok-set_hint.ensures.set from there mid now).same place (can from there)))))
    c.mark.ensures.untold
