use Rattle.std.proofs.Common.{◌≡◌, None, Option, sym, ◌∙◌, subst, inl}
use Rattle.spec_image.proofs.Runs.{some_inj}
use Rattle.blk_io.proofs.Carried.{carried}
use Rattle.blk_chain.specs.declared.found.Found.{Found}
use Rattle.blk_chain.specs.Finding.{CanBeSearched, IsAnswer, IsOutcome}
use Rattle.blk_chain.proofs.Heads.{names-parts}
use Rattle.blk_entry.proofs.KeyPlaces.{err_damaged}
use Rattle.blk_evict.proofs.GroupsOut.{found-behind, found-entry, not-none}
use Rattle.blk_evict.proofs.Looks.{can-search}
use Rattle.blk_object.proofs.DamageChecks.{handed, moved, search-checked, within-checked}
use Rattle.blk_object.specs.FailedChecks.{IsFailedCheck, WrongChain}
use Rattle.blk_evict.proofs.evicting_groups.find_listed.Goals as goal

pub returns-in_err-at-clause-untold : goal.returns-in_err-at-clause-untold
returns-in_err-at-clause-untold g c is_open image there state layout unlinked item was k listed here key child =
    carried c.find.result c.from_residual.result c.in_err-at.field-0.0 (λ _. (g.F.Folder.told c.args.folder.now).files ≡ None) c.in_err-at.was c.from_residual.ensures.1
    (c.find.ensures.untold (λ i t. (is_open i t).whole_index) (λ i t. (is_open i t).agrees) (λ i t. subst (CanBeSearched c.args.name.now) (some_inj (sym there ∙ t)) (can-search state layout unlinked image k c.args.name.now)))

pub record_damage-requires-clause-kind : goal.record_damage-requires-clause-kind
record_damage-requires-clause-kind g c = let p = names-parts c.args.files.now c.args.entry c.requires.record_stands in p.1.0

pub returns-in-Some-clause-lies : goal.returns-in-Some-clause-lies
returns-in-Some-clause-lies g c image there state layout unlinked item was k listed here key child =
    found-entry state layout unlinked image k item was listed here c.args.name.now c.args.is_child key child c.in-Some.at
    (subst (λ (answer : Option Found). IsAnswer c.args.name.now c.args.is_child answer image) c.in-Some.is (c.in_ok-at.ensures.found image there (can-search state layout unlinked image k c.args.name.now)))

pub returns-in-Some-clause-behind : goal.returns-in-Some-clause-behind
returns-in-Some-clause-behind g c image there state layout unlinked item was k listed here key child =
    found-behind state layout unlinked image k item was listed here c.args.name.now c.args.is_child key child c.in-Some.at
    (subst (λ (answer : Option Found). IsAnswer c.args.name.now c.args.is_child answer image) c.in-Some.is (c.in_ok-at.ensures.found image there (can-search state layout unlinked image k c.args.name.now)))

pub returns-in-None-clause-untold : goal.returns-in-None-clause-untold
returns-in-None-clause-untold g c is_open image there state layout unlinked item was k listed here key child =
    err_damaged Found c.record_damage.result c.record_damage.ensures.damage (λ _. (g.F.Folder.told c.args.folder.now).files ≡ None) c.record_damage.ensures.is
    (absurd (not-none state layout unlinked image k item was listed here c.args.name.now c.args.is_child key child
    (subst (λ (answer : Option Found). IsAnswer c.args.name.now c.args.is_child answer image) c.in-None.is (c.in_ok-at.ensures.found image there (can-search state layout unlinked image k c.args.name.now)))))

pub returns-in_err-at-clause-damaged : goal.returns-in_err-at-clause-damaged
returns-in_err-at-clause-damaged g c says =
    handed c.find.result c.from_residual.result c.in_err-at.field-0.0 _ c.args.files.now (g.F.Folder.told c.find.new.f)
    (λ damage wrong. moved c.args.files.now (g.F.Folder.told c.args.folder.now) (g.F.Folder.told c.find.new.f) damage c.find.ensures.reads.stays (search-checked c.args.files.now (g.F.Folder.told c.args.folder.now) c.args.name.now c.args.is_child damage wrong))
    c.in_err-at.was c.from_residual.ensures.1 c.find.ensures.damaged

pub returns-in-None-clause-damaged : goal.returns-in-None-clause-damaged
returns-in-None-clause-damaged g c says =
    let d = c.record_damage.ensures in
    let p = names-parts c.args.files.now c.args.entry c.requires.record_stands in
    err_damaged Found c.record_damage.result d.damage (IsFailedCheck c.args.files.now (g.F.Folder.told c.find.new.f)) d.is
    (moved c.args.files.now (g.F.Folder.told c.args.folder.now) (g.F.Folder.told c.find.new.f) d.damage c.in_ok-at.ensures.reads.stays
    (within-checked c.args.files.now (g.F.Folder.told c.args.folder.now) c.args.entry d.damage p.1.0 p.1.1 (WrongChain (record {
      key = c.args.name.now;
      is_child = c.args.is_child;
      of_word = d.word;
      own = λ image there. inl (says image there);
      ends = λ image there. subst (λ (answer : Option Found). IsOutcome c.args.files.now c.args.name.now c.args.is_child answer image) c.in-None.is (c.in_ok-at.ensures.outcome image there);
    }))))
