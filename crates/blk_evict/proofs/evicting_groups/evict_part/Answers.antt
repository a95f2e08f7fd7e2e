use Rattle.std.proofs.Common.{rules, ◌≡◌, ℕ, [], ◌∷◌, List, Option, None, true, refl, sym, ◌∙◌, ap, subst}
use Rattle.std.specs.Option.{option_map}
use Rattle.blk_io.specs.Streams.{Appends}
use Rattle.blk_model.specs.Items.{part}
use Rattle.blk_model.specs.Room.{without}
use Rattle.blk_script.specs.Reply.{evicted_line}
use Rattle.spec_format.specs.Names.{read_name}
use Rattle.blk_ranges.specs.ChildNames.{name_within}
use Rattle.blk_ranges.specs.declared.names.ChildName.{ChildName}
use Rattle.blk_chain.proofs.Heads.{names-parts}
use Rattle.blk_entry.proofs.KeyPlaces.{err_damaged}
use Rattle.blk_sparse.specs.declared.dropping.Gone.{Gone}
use Rattle.blk_evict.specs.RoomLaws.{group_for}
use Rattle.blk_evict.specs.RoomPrinting.{PrintsUnlessFailed}
use Rattle.blk_evict.proofs.GroupsOut.{as-text, not-unsaid, on-ok-any, part-said, stayed-stops}
use Rattle.blk_object.proofs.DamageChecks.{within-checked}
use Rattle.blk_object.specs.FailedChecks.{IsFailedCheck, WrongName}
use Rattle.blk_evict.proofs.evicting_groups.evict_part.Goals as goal

pub record_damage-requires-clause-kind : goal.record_damage-requires-clause-kind
record_damage-requires-clause-kind g c = let p = names-parts c.args.files.now c.args.found.now.entry c.requires.record_stands in p.1.0

pub returns-in_default-clause-stops : goal.returns-in_default-clause-stops
returns-in_default-clause-stops g c from there by state layout is =
    stayed-stops (g.F.Folder.told c.args.folder.now) (g.F.Folder.told c.args.folder.now) state (without (group_for is.last.item is.last.front ∷ []) state) layout from there refl is.kept

pub returns-in_default-clause-untold : goal.returns-in_default-clause-untold
returns-in_default-clause-untold g c from there by state layout is =
    err_damaged Gone c.record_damage.result c.record_damage.ensures.damage (λ _. (g.F.Folder.told c.args.folder.now).files ≡ None) c.record_damage.ensures.is
    (absurd (not-unsaid state layout from c.args.found.now c.args.name.now is
    (subst (λ (o : Option ChildName). option_map (name_within c.args.name.now) o ≡ read_name c.args.name.now) c.in_default.is c.read_child_name.ensures.name)))

pub returns-clause-prints : goal.returns-clause-prints
returns-clause-prints g c = on-ok-any c.remove_alone.result (λ from there state layout is.
    subst (λ (text : List ℕ). PrintsUnlessFailed c.args.failed.now c.say_evicted_part.new.failed (g.K.Sink.written c.args.out.now) (g.K.Sink.written c.say_evicted_part.new.out) text)
    ((let e : c.from.result ≡ c.in-Some.child.part = search rules in ap (λ (n : ℕ). evicted_line (part c.parent_key.result.now n)) e)
    ∙ ap (λ (key : List ℕ). evicted_line (part key c.in-Some.child.part)) c.parent_key.ensures
    ∙ sym (as-text state layout from c.args.found.now true c.args.name.now is ∙ ap evicted_line (part-said state layout from c.args.found.now c.args.name.now is c.in-Some.child (subst (λ (o : Option ChildName). option_map (name_within c.args.name.now) o ≡ read_name c.args.name.now) c.in-Some.is c.read_child_name.ensures.name))))
    c.say_evicted_part.ensures.prints)

pub returns-clause-front : goal.returns-clause-front
returns-clause-front g c from there state layout is =
    subst (λ (text : List ℕ). Appends (g.K.Sink.written c.args.out.now) (g.K.Sink.written c.say_evicted_part.new.out) text)
    ((let e : c.from.result ≡ c.in-Some.child.part = search rules in ap (λ (n : ℕ). evicted_line (part c.parent_key.result.now n)) e)
    ∙ ap (λ (key : List ℕ). evicted_line (part key c.in-Some.child.part)) c.parent_key.ensures
    ∙ sym (as-text state layout from c.args.found.now true c.args.name.now is ∙ ap evicted_line (part-said state layout from c.args.found.now c.args.name.now is c.in-Some.child (subst (λ (o : Option ChildName). option_map (name_within c.args.name.now) o ≡ read_name c.args.name.now) c.in-Some.is c.read_child_name.ensures.name))))
    c.say_evicted_part.ensures.prints.front

pub returns-in_default-clause-damaged : goal.returns-in_default-clause-damaged
returns-in_default-clause-damaged g c says =
    let d = c.record_damage.ensures in
    let p = names-parts c.args.files.now c.args.found.now.entry c.requires.record_stands in
    err_damaged Gone c.record_damage.result d.damage (IsFailedCheck c.args.files.now (g.F.Folder.told c.args.folder.now)) d.is
    (within-checked c.args.files.now (g.F.Folder.told c.args.folder.now) c.args.found.now.entry d.damage p.1.0 p.1.1 (WrongName (record {
      of_word = d.word;
      unlike = λ image there. ap read_name (says image there) ∙ sym (subst (λ (o : Option ChildName). option_map (name_within c.args.name.now) o ≡ read_name c.args.name.now) c.in_default.is c.read_child_name.ensures.name);
    })))

pub returns-clause-damaged : goal.returns-clause-damaged
returns-clause-damaged g c says =
    c.remove_alone.ensures.damaged says
