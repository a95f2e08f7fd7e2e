use Rattle.std.proofs.Common.{rules, ◌≡◌, [], ◌∷◌, ℕ, List, None, length, refl, ap, sym, ◌∙◌, subst, arith, true, false}
use Rattle.std.proofs.lemmas.Bool.Decides.{nat_tests}
use Rattle.std.proofs.lemmas.Result.{on_ok_weaker}
use Rattle.spec_image.specs.Told.{Passes, Told}
use Rattle.spec_image.proofs.Runs.{passes_stayed}
use Rattle.blk_io.specs.Faults.{IfDamaged}
use Rattle.blk_io.specs.Streams.{Appends}
use Rattle.blk_io.proofs.Carried.{carried}
use Rattle.blk_model.specs.Items.{main}
use Rattle.blk_model.specs.Refusals.{no_key}
use Rattle.blk_model.specs.Room.{parts_among, without}
use Rattle.blk_model.specs.State.{State}
use Rattle.blk_script.specs.Reply.{evicted_line}
use Rattle.blk_chain.proofs.Heads.{names-parts}
use Rattle.blk_entry.proofs.KeyPlaces.{err_damaged}
use Rattle.blk_lru.proofs.Conditions.{told_now}
use Rattle.blk_object.specs.RemovingObjects.{FindsEither, IsOwnedBy}
use Rattle.blk_sparse.specs.declared.dropping.Gone.{Gone}
use Rattle.blk_evict.specs.EvictingGroups.{text_of_parts}
use Rattle.blk_evict.specs.RoomLaws.{group_for}
use Rattle.blk_evict.specs.RoomPrinting.{PrintsUnlessFailed}
use Rattle.blk_evict.proofs.RoomTexts.{appends-after, appends-longer, printed-on}
use Rattle.blk_evict.proofs.GroupsOut.{if-ok-three, stayed-stops}
use Rattle.blk_evict.proofs.WholeGroups.{doomed-is, may-go, whole-child, whole-is-listed, whole-no-key, whole-out, whole-owner, whole-text}
use Rattle.blk_object.specs.FailedChecks.{IsFailedCheck, WrongLength}
use Rattle.blk_entry.specs.Keys.{IsWordOf}
use Rattle.blk_object.proofs.DamageChecks.{within-checked}
use Rattle.blk_evict.proofs.LookDamages.{key-length-said, wrong-length}
use Rattle.blk_evict.proofs.evicting_groups.evict_parent.Goals as goal

pub record_damage-requires-clause-kind : goal.record_damage-requires-clause-kind
record_damage-requires-clause-kind g c = let p = names-parts c.args.files.now c.args.read.found.now.entry c.requires.record_stands in p.1.0

pub returns-then-is_no_key-clause-stops : goal.returns-then-is_no_key-clause-stops
returns-then-is_no_key-clause-stops g c from there by state layout is =
    stayed-stops (g.F.Folder.told c.args.folder.now) (g.F.Folder.told c.args.folder.now) state (without (group_for is.last.item is.last.front ∷ []) state) layout from there refl is.kept

clash : true ≡ false → ⊥
clash e = cc

pub returns-then-is_no_key-clause-untold : goal.returns-then-is_no_key-clause-untold
returns-then-is_no_key-clause-untold g c from there by state layout is =
    let none : no_key c.args.read.key.now ≡ true = search rules in
    err_damaged Gone c.record_damage.result c.record_damage.ensures.damage (λ _. (g.F.Folder.told c.args.folder.now).files ≡ None) c.record_damage.ensures.is
    (absurd (clash (sym none ∙ whole-no-key state layout from c.args.read.found.now c.args.read.key.now is)))

pub returns-in_err-at-clause-stops : goal.returns-in_err-at-clause-stops
returns-in_err-at-clause-stops g c from there by state layout is =
    stayed-stops (g.F.Folder.told c.args.folder.now) (g.F.Folder.told c.find_listed.new.folder) state (without (group_for is.last.item is.last.front ∷ []) state) layout from there c.in_err-at.ensures.reads.stays is.kept

pub returns-in_err-at-clause-front : goal.returns-in_err-at-clause-front
returns-in_err-at-clause-front g c from there by state layout is =
    subst (Appends (g.K.Sink.written c.args.out.now) (g.K.Sink.written c.say_evicted.new.out)) (sym (whole-text state layout from c.args.read.found.now c.args.read.key.now is))
    (appends-longer (g.K.Sink.written c.args.out.now) (g.K.Sink.written c.say_evicted.new.out) (evicted_line (main c.args.read.key.now)) (text_of_parts c.args.read.key.now (parts_among c.args.read.key.now state.uses)) c.say_evicted.ensures.prints.front)

pub returns-in_err-at-clause-is_open : goal.returns-in_err-at-clause-is_open
returns-in_err-at-clause-is_open g c image there = c.requires.is_open image (told_now image (sym c.in_err-at.ensures.reads.stays) there)

pub returns-in_err-at-clause-untold : goal.returns-in_err-at-clause-untold
returns-in_err-at-clause-untold g c from there by state layout is =
    carried c.find_listed.result c.from_residual.result c.in_err-at.field-0.0 (λ _. (g.F.Folder.told c.args.folder.now).files ≡ None) c.in_err-at.was c.from_residual.ensures.1
    (c.find_listed.ensures.untold c.requires.is_open from there state layout [] is.last.item is.last.loaded is.kept.entries (whole-is-listed state layout from c.args.read.found.now c.args.read.key.now is) is.last.here is.key_is (whole-child state layout from c.args.read.found.now c.args.read.key.now is))

pub remove_parent-requires-clause-is_open : goal.remove_parent-requires-clause-is_open
remove_parent-requires-clause-is_open g c image there = c.requires.is_open image (told_now image (sym c.in_ok-at.ensures.reads.stays) there)

pub remove_parent-requires-clause-some : goal.remove_parent-requires-clause-some
remove_parent-requires-clause-some g c = let some : no_key c.args.read.key.now ≡ false = search rules in grind (arith, nat_tests)

pub remove_parent-requires-clause-short : goal.remove_parent-requires-clause-short
remove_parent-requires-clause-short g c = let some : no_key c.args.read.key.now ≡ false = search rules in grind (arith, nat_tests)

pub remove_parent-requires-clause-buffer : goal.remove_parent-requires-clause-buffer
remove_parent-requires-clause-buffer g c = let some : no_key c.args.read.key.now ≡ false = search rules in let buffer = c.requires.buffer in grind (arith, nat_tests)

pub returns-clause-out : goal.returns-clause-out
returns-clause-out g c = if-ok-three c.remove_parent.result (λ gone told out session from there by state layout is now then_there.
    let listed = whole-is-listed state layout from c.args.read.found.now c.args.read.key.now is in
    let child = whole-child state layout from c.args.read.found.now c.args.read.key.now is in
    let entry = c.in_ok-at.ensures.lies from there state layout [] is.last.item is.last.loaded is.kept.entries listed is.last.here is.key_is child in
    let behind = c.in_ok-at.ensures.behind from there state layout [] is.last.item is.last.loaded is.kept.entries listed is.last.here is.key_is child in
    let may = may-go state layout from c.args.read.found.now c.args.read.key.now is c.in_ok-at.at.entry c.in_ok-at.at.before entry behind in
    let mid = told_now from c.in_ok-at.ensures.reads.stays there in
    let at_by = subst (λ (w : ℕ). IsOwnedBy w c.args.read.owned.now from) (is.last.entry ∙ entry) by in
    let o = whole-owner state layout from c.args.read.found.now c.args.read.key.now is in
    whole-out state layout from c.args.read.found.now c.args.read.key.now is now gone (out from mid at_by state layout [] o.number o.object may now then_there) (told from mid at_by state layout [] o.number o.object may) (session from mid at_by state layout [] o.number o.object may now then_there))
    c.remove_parent.ensures.gone c.remove_parent.ensures.removed c.remove_parent.ensures.session

pub returns-clause-prints : goal.returns-clause-prints
returns-clause-prints g c = on_ok_weaker c.remove_parent.result (λ prints from there by state layout is.
    let listed = whole-is-listed state layout from c.args.read.found.now c.args.read.key.now is in
    let child = whole-child state layout from c.args.read.found.now c.args.read.key.now is in
    let entry = c.in_ok-at.ensures.lies from there state layout [] is.last.item is.last.loaded is.kept.entries listed is.last.here is.key_is child in
    let behind = c.in_ok-at.ensures.behind from there state layout [] is.last.item is.last.loaded is.kept.entries listed is.last.here is.key_is child in
    let may = may-go state layout from c.args.read.found.now c.args.read.key.now is c.in_ok-at.at.entry c.in_ok-at.at.before entry behind in
    let mid = told_now from c.in_ok-at.ensures.reads.stays there in
    let at_by = subst (λ (w : ℕ). IsOwnedBy w c.args.read.owned.now from) (is.last.entry ∙ entry) by in
    let o = whole-owner state layout from c.args.read.found.now c.args.read.key.now is in
    subst (λ (text : List ℕ). PrintsUnlessFailed c.args.failed.now c.remove_parent.new.failed (g.K.Sink.written c.args.out.now) (g.K.Sink.written c.remove_parent.new.out) text) (sym (whole-text state layout from c.args.read.found.now c.args.read.key.now is))
    (printed-on c.args.failed.now c.say_evicted.new.failed c.remove_parent.new.failed (g.K.Sink.written c.args.out.now) (g.K.Sink.written c.say_evicted.new.out) (g.K.Sink.written c.remove_parent.new.out) (evicted_line (main c.args.read.key.now)) (text_of_parts c.args.read.key.now (parts_among c.args.read.key.now state.uses))
    c.say_evicted.ensures.prints (prints from mid at_by state layout [] o.number o.object may)))
    c.remove_parent.ensures.prints

pub returns-clause-stops : goal.returns-clause-stops
returns-clause-stops g c from there by state layout is =
    let listed = whole-is-listed state layout from c.args.read.found.now c.args.read.key.now is in
    let child = whole-child state layout from c.args.read.found.now c.args.read.key.now is in
    let entry = c.in_ok-at.ensures.lies from there state layout [] is.last.item is.last.loaded is.kept.entries listed is.last.here is.key_is child in
    let behind = c.in_ok-at.ensures.behind from there state layout [] is.last.item is.last.loaded is.kept.entries listed is.last.here is.key_is child in
    let may = may-go state layout from c.args.read.found.now c.args.read.key.now is c.in_ok-at.at.entry c.in_ok-at.at.before entry behind in
    let mid = told_now from c.in_ok-at.ensures.reads.stays there in
    let at_by = subst (λ (w : ℕ). IsOwnedBy w c.args.read.owned.now from) (is.last.entry ∙ entry) by in
    let o = whole-owner state layout from c.args.read.found.now c.args.read.key.now is in
    passes_stayed c.in_ok-at.ensures.reads.stays (subst (λ (after : State). Passes (g.F.Folder.told c.find_listed.new.folder) (g.F.Folder.told c.remove_parent.new.folder) (FindsEither state after)) (doomed-is state layout from c.args.read.found.now c.args.read.key.now is) (c.remove_parent.ensures.stops from mid at_by state layout [] o.number o.object may))

pub returns-clause-front : goal.returns-clause-front
returns-clause-front g c from there by state layout is =
    let listed = whole-is-listed state layout from c.args.read.found.now c.args.read.key.now is in
    let child = whole-child state layout from c.args.read.found.now c.args.read.key.now is in
    let entry = c.in_ok-at.ensures.lies from there state layout [] is.last.item is.last.loaded is.kept.entries listed is.last.here is.key_is child in
    let behind = c.in_ok-at.ensures.behind from there state layout [] is.last.item is.last.loaded is.kept.entries listed is.last.here is.key_is child in
    let may = may-go state layout from c.args.read.found.now c.args.read.key.now is c.in_ok-at.at.entry c.in_ok-at.at.before entry behind in
    let mid = told_now from c.in_ok-at.ensures.reads.stays there in
    let at_by = subst (λ (w : ℕ). IsOwnedBy w c.args.read.owned.now from) (is.last.entry ∙ entry) by in
    let o = whole-owner state layout from c.args.read.found.now c.args.read.key.now is in
    subst (Appends (g.K.Sink.written c.args.out.now) (g.K.Sink.written c.remove_parent.new.out)) (sym (whole-text state layout from c.args.read.found.now c.args.read.key.now is))
    (appends-after c.args.failed.now c.say_evicted.new.failed (g.K.Sink.written c.args.out.now) (g.K.Sink.written c.say_evicted.new.out) (g.K.Sink.written c.remove_parent.new.out) (evicted_line (main c.args.read.key.now)) (text_of_parts c.args.read.key.now (parts_among c.args.read.key.now state.uses))
    c.say_evicted.ensures.prints (λ e. (c.remove_parent.ensures.quiet e).1) (c.remove_parent.ensures.front from mid at_by state layout [] o.number o.object may))

pub returns-clause-untold : goal.returns-clause-untold
returns-clause-untold g c from there by state layout is =
    let listed = whole-is-listed state layout from c.args.read.found.now c.args.read.key.now is in
    let child = whole-child state layout from c.args.read.found.now c.args.read.key.now is in
    let entry = c.in_ok-at.ensures.lies from there state layout [] is.last.item is.last.loaded is.kept.entries listed is.last.here is.key_is child in
    let behind = c.in_ok-at.ensures.behind from there state layout [] is.last.item is.last.loaded is.kept.entries listed is.last.here is.key_is child in
    let may = may-go state layout from c.args.read.found.now c.args.read.key.now is c.in_ok-at.at.entry c.in_ok-at.at.before entry behind in
    let mid = told_now from c.in_ok-at.ensures.reads.stays there in
    let at_by = subst (λ (w : ℕ). IsOwnedBy w c.args.read.owned.now from) (is.last.entry ∙ entry) by in
    let o = whole-owner state layout from c.args.read.found.now c.args.read.key.now is in
    subst (λ (t : Told). IfDamaged c.remove_parent.result (λ _. t.files ≡ None)) c.in_ok-at.ensures.reads.stays (c.remove_parent.ensures.untold from mid at_by state layout [] o.number o.object may)

pub returns-then-is_no_key-clause-damaged : goal.returns-then-is_no_key-clause-damaged
returns-then-is_no_key-clause-damaged g c says =
    let d = c.record_damage.ensures in
    let p = names-parts c.args.files.now c.args.read.found.now.entry c.requires.record_stands in
    let none : no_key c.args.read.key.now ≡ true = search rules in
    err_damaged Gone c.record_damage.result d.damage (IsFailedCheck c.args.files.now (g.F.Folder.told c.args.folder.now)) d.is
    (within-checked c.args.files.now (g.F.Folder.told c.args.folder.now) c.args.read.found.now.entry d.damage p.1.0 p.1.1 (WrongLength (record {
      of_word = subst (λ (n : ℕ). IsWordOf c.args.read.found.now.entry 32 n d.damage) (sym d.word.of_word) d.word;
      unlike = wrong-length c.args.read.key.now d.damage.found d.word.of_word none;
      there = λ image there. d.word.of_word ∙ ap length (sym (says image there)) ∙ key-length-said image c.args.read.found.now.entry;
    })))

pub returns-in_err-at-clause-damaged : goal.returns-in_err-at-clause-damaged
returns-in_err-at-clause-damaged g c says =
    carried c.find_listed.result c.from_residual.result c.in_err-at.field-0.0 (IsFailedCheck c.args.files.now (g.F.Folder.told c.find_listed.new.folder)) c.in_err-at.was c.from_residual.ensures.1 (c.find_listed.ensures.damaged says)

pub returns-clause-damaged : goal.returns-clause-damaged
returns-clause-damaged g c says =
    c.remove_parent.ensures.damaged
