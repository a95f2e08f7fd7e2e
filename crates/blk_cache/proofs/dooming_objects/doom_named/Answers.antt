use Rattle.std.proofs.Common.{rules, ◌≡◌, ◌∙◌, ℕ, [], None, refl, sym, ap, subst, arith, take, length, true, false}
use Rattle.std.proofs.lemmas.Bool.Decides.{nat_tests}
use Rattle.spec_image.specs.Told.{Told}
use Rattle.spec_image.proofs.Runs.{passes_stayed, some_inj}
use Rattle.blk_io.specs.Faults.{IfDamaged}
use Rattle.blk_io.proofs.Carried.{carried}
use Rattle.blk_lru.proofs.Conditions.{told_now}
use Rattle.blk_lru.proofs.Results.{if_ok_weaker}
use Rattle.blk_model.specs.Items.{main}
use Rattle.blk_model.specs.Refusals.{no_key}
use Rattle.blk_chain.proofs.Heads.{names-parts}
use Rattle.blk_entry.proofs.KeyPlaces.{err_damaged}
use Rattle.blk_entry.specs.Keys.{IsWordOf}
use Rattle.blk_object.proofs.DamageChecks.{moved, within-checked}
use Rattle.blk_object.specs.FailedChecks.{IsFailedCheck, WrongLength}
use Rattle.blk_sparse.specs.declared.dropping.Gone.{Gone}
use Rattle.blk_object.specs.Owning.{LoadsWith}
use Rattle.blk_cache.proofs.DoomedTargets.{object-key, stayed-either}
use Rattle.blk_evict.proofs.LookDamages.{key-length-said, wrong-length}
use Rattle.blk_cache.proofs.OpenTargets.{open-key, open-listed, open-loads, open-target}
use Rattle.blk_cache.proofs.dooming_objects.doom_named.Goals as goal

pub returns-in_err-named-clause-stops : goal.returns-in_err-named-clause-stops
returns-in_err-named-clause-stops g c from there state layout number object k o =
    stayed-either (g.F.Folder.told c.args.folder.now) (g.F.Folder.told c.read_name.new.folder) state number object layout from there c.in_err-named.ensures.reads.stays k

pub returns-in_err-named-clause-is_open : goal.returns-in_err-named-clause-is_open
returns-in_err-named-clause-is_open g c image there = c.requires.is_open image (told_now image (sym c.in_err-named.ensures.reads.stays) there)

pub returns-in_err-named-clause-untold : goal.returns-in_err-named-clause-untold
returns-in_err-named-clause-untold g c from there state layout number object k o =
    carried c.read_name.result c.from_residual.result c.in_err-named.field-0.0 (λ _. (g.F.Folder.told c.args.folder.now).files ≡ None) c.in_err-named.was c.from_residual.ensures.1
    (c.read_name.ensures.untold (λ image is. (c.requires.is_open image is).agrees) (λ image is. (o.loaded, subst (LoadsWith c.args.entry o.loaded) (some_inj (sym there ∙ is)) (open-loads state layout from k number object c.args.node c.args.entry o))))

pub returns-then-is_no_key-clause-stops : goal.returns-then-is_no_key-clause-stops
returns-then-is_no_key-clause-stops g c from there state layout number object k o =
    stayed-either (g.F.Folder.told c.args.folder.now) (g.F.Folder.told c.read_name.new.folder) state number object layout from there c.in_ok-named.ensures.reads.stays k

pub returns-then-is_no_key-clause-is_open : goal.returns-then-is_no_key-clause-is_open
returns-then-is_no_key-clause-is_open g c image there = c.requires.is_open image (told_now image (sym c.in_ok-named.ensures.reads.stays) there)

pub record_damage-requires-clause-kind : goal.record_damage-requires-clause-kind
record_damage-requires-clause-kind g c = let p = names-parts c.args.files.now c.args.entry c.requires.names in p.1.0

clash : true ≡ false → ⊥
clash e = cc

pub returns-then-is_no_key-clause-untold : goal.returns-then-is_no_key-clause-untold
returns-then-is_no_key-clause-untold g c from there state layout number object k o =
    let named = c.in_ok-named.ensures.named from there o.loaded (open-loads state layout from k number object c.args.node c.args.entry o) in
    let same : c.split_at_mut-key.result.0.now ≡ take c.in_ok-named.named.len c.read_name.new.buffer = search rules in
    let key : o.loaded.key ≡ c.split_at_mut-key.result.0.now = sym named.key ∙ sym same in
    let mid = told_now from c.in_ok-named.ensures.reads.stays there in
    let none : no_key c.split_at_mut-key.result.0.now ≡ true = search rules in
    err_damaged Gone c.record_damage.result c.record_damage.ensures.damage (λ _. (g.F.Folder.told c.args.folder.now).files ≡ None) c.record_damage.ensures.is
    (absurd (clash (sym none ∙ ap no_key (sym key ∙ open-key state layout from k number object c.args.node c.args.entry o) ∙ object-key state layout from k number object o.lies.here)))

pub returns-then-is_no_key-clause-damaged : goal.returns-then-is_no_key-clause-damaged
returns-then-is_no_key-clause-damaged g c =
    let d = c.record_damage.ensures in
    let p = names-parts c.args.files.now c.args.entry c.requires.names in
    let none : no_key c.split_at_mut-key.result.0.now ≡ true = search rules in
    let same : c.split_at_mut-key.result.0.now ≡ take c.in_ok-named.named.len c.read_name.new.buffer = search rules in
    err_damaged Gone c.record_damage.result d.damage (IsFailedCheck c.args.files.now (g.F.Folder.told c.read_name.new.folder)) d.is
    (moved c.args.files.now (g.F.Folder.told c.args.folder.now) (g.F.Folder.told c.read_name.new.folder) d.damage c.in_ok-named.ensures.reads.stays
    (within-checked c.args.files.now (g.F.Folder.told c.args.folder.now) c.args.entry d.damage p.1.0 p.1.1 (WrongLength (record {
      of_word = subst (λ (n : ℕ). IsWordOf c.args.entry 32 n d.damage) (sym d.word.of_word) d.word;
      unlike = wrong-length c.split_at_mut-key.result.0.now d.damage.found d.word.of_word none;
      there = λ image there. d.word.of_word ∙ ap length (same ∙ sym (c.in_ok-named.ensures.read image there)) ∙ key-length-said image c.args.entry;
    }))))

pub doom_target-requires-clause-some : goal.doom_target-requires-clause-some
doom_target-requires-clause-some g c = let some : no_key c.split_at_mut-key.result.0.now ≡ false = search rules in grind (arith, nat_tests)

pub doom_target-requires-clause-short : goal.doom_target-requires-clause-short
doom_target-requires-clause-short g c = let some : no_key c.split_at_mut-key.result.0.now ≡ false = search rules in grind (arith, nat_tests)

pub doom_target-requires-clause-buffer : goal.doom_target-requires-clause-buffer
doom_target-requires-clause-buffer g c =
    let some : no_key c.split_at_mut-key.result.0.now ≡ false = search rules in
    let buffer = c.requires.buffer in
    grind (arith, nat_tests)

pub returns-in_err-found-clause-damaged : goal.returns-in_err-found-clause-damaged
returns-in_err-found-clause-damaged g c =
    let same : c.split_at_mut-key.result.0.now ≡ take c.in_ok-named.named.len c.read_name.new.buffer = search rules in
    carried c.find_listed.result c.from_residual-in_err-found.result c.in_err-found.field-0.0 (IsFailedCheck c.args.files.now (g.F.Folder.told c.find_listed.new.folder)) c.in_err-found.was c.from_residual-in_err-found.ensures.1
    (c.find_listed.ensures.damaged (λ image there. c.in_ok-named.ensures.read image (told_now image (sym c.in_ok-named.ensures.reads.stays) there) ∙ sym same))

pub returns-in_err-found-clause-stops : goal.returns-in_err-found-clause-stops
returns-in_err-found-clause-stops g c from there state layout number object k o =
    stayed-either (g.F.Folder.told c.args.folder.now) (g.F.Folder.told c.find_listed.new.folder) state number object layout from there (c.in_err-found.ensures.reads.stays ∙ c.in_ok-named.ensures.reads.stays) k

pub returns-in_err-found-clause-is_open : goal.returns-in_err-found-clause-is_open
returns-in_err-found-clause-is_open g c image there = c.requires.is_open image (told_now image (sym (c.in_err-found.ensures.reads.stays ∙ c.in_ok-named.ensures.reads.stays)) there)

pub returns-in_err-found-clause-untold : goal.returns-in_err-found-clause-untold
returns-in_err-found-clause-untold g c from there state layout number object k o =
    let named = c.in_ok-named.ensures.named from there o.loaded (open-loads state layout from k number object c.args.node c.args.entry o) in
    let same : c.split_at_mut-key.result.0.now ≡ take c.in_ok-named.named.len c.read_name.new.buffer = search rules in
    let key : o.loaded.key ≡ c.split_at_mut-key.result.0.now = sym named.key ∙ sym same in
    let mid = told_now from c.in_ok-named.ensures.reads.stays there in
    subst (λ (t : Told). IfDamaged c.from_residual-in_err-found.result (λ _. t.files ≡ None)) c.in_ok-named.ensures.reads.stays
    (carried c.find_listed.result c.from_residual-in_err-found.result c.in_err-found.field-0.0 (λ _. (g.F.Folder.told c.read_name.new.folder).files ≡ None) c.in_err-found.was c.from_residual-in_err-found.ensures.1
    (c.find_listed.ensures.untold (λ image is. c.requires.is_open image (told_now image (sym c.in_ok-named.ensures.reads.stays) is)) from mid state layout [] (main object.key) o.loaded k.entries (open-listed state layout from k number object c.args.node c.args.entry o) o.lies.at key refl))

pub doom_target-requires-clause-is_open : goal.doom_target-requires-clause-is_open
doom_target-requires-clause-is_open g c image there = c.requires.is_open image (told_now image (sym (c.in_ok-found.ensures.reads.stays ∙ c.in_ok-named.ensures.reads.stays)) there)

pub returns-clause-doomed : goal.returns-clause-doomed
returns-clause-doomed g c = if_ok_weaker c.doom_target.result (λ gone all from there state layout number object k o.
    let named = c.in_ok-named.ensures.named from there o.loaded (open-loads state layout from k number object c.args.node c.args.entry o) in
    let same : c.split_at_mut-key.result.0.now ≡ take c.in_ok-named.named.len c.read_name.new.buffer = search rules in
    let key : o.loaded.key ≡ c.split_at_mut-key.result.0.now = sym named.key ∙ sym same in
    let mid = told_now from c.in_ok-named.ensures.reads.stays there in
    let target = open-target state layout from k number object c.args.node c.args.entry o c.in_ok-named.named c.read_name.new.buffer named c.in_ok-found.found (c.in_ok-found.ensures.lies from mid state layout [] (main object.key) o.loaded k.entries (open-listed state layout from k number object c.args.node c.args.entry o) o.lies.at key refl) (c.in_ok-found.ensures.behind from mid state layout [] (main object.key) o.loaded k.entries (open-listed state layout from k number object c.args.node c.args.entry o) o.lies.at key refl) in
    let last = told_now from c.in_ok-found.ensures.reads.stays mid in
    let own = sym (open-key state layout from k number object c.args.node c.args.entry o) ∙ key in
    all from last state layout number object k target own)
    c.doom_target.ensures.doomed

pub returns-clause-stops : goal.returns-clause-stops
returns-clause-stops g c from there state layout number object k o =
    let named = c.in_ok-named.ensures.named from there o.loaded (open-loads state layout from k number object c.args.node c.args.entry o) in
    let same : c.split_at_mut-key.result.0.now ≡ take c.in_ok-named.named.len c.read_name.new.buffer = search rules in
    let key : o.loaded.key ≡ c.split_at_mut-key.result.0.now = sym named.key ∙ sym same in
    let mid = told_now from c.in_ok-named.ensures.reads.stays there in
    let target = open-target state layout from k number object c.args.node c.args.entry o c.in_ok-named.named c.read_name.new.buffer named c.in_ok-found.found (c.in_ok-found.ensures.lies from mid state layout [] (main object.key) o.loaded k.entries (open-listed state layout from k number object c.args.node c.args.entry o) o.lies.at key refl) (c.in_ok-found.ensures.behind from mid state layout [] (main object.key) o.loaded k.entries (open-listed state layout from k number object c.args.node c.args.entry o) o.lies.at key refl) in
    let last = told_now from c.in_ok-found.ensures.reads.stays mid in
    let own = sym (open-key state layout from k number object c.args.node c.args.entry o) ∙ key in
    passes_stayed (c.in_ok-found.ensures.reads.stays ∙ c.in_ok-named.ensures.reads.stays) (c.doom_target.ensures.stops from last state layout number object k target own)

pub returns-clause-untold : goal.returns-clause-untold
returns-clause-untold g c from there state layout number object k o =
    let named = c.in_ok-named.ensures.named from there o.loaded (open-loads state layout from k number object c.args.node c.args.entry o) in
    let same : c.split_at_mut-key.result.0.now ≡ take c.in_ok-named.named.len c.read_name.new.buffer = search rules in
    let key : o.loaded.key ≡ c.split_at_mut-key.result.0.now = sym named.key ∙ sym same in
    let mid = told_now from c.in_ok-named.ensures.reads.stays there in
    let target = open-target state layout from k number object c.args.node c.args.entry o c.in_ok-named.named c.read_name.new.buffer named c.in_ok-found.found (c.in_ok-found.ensures.lies from mid state layout [] (main object.key) o.loaded k.entries (open-listed state layout from k number object c.args.node c.args.entry o) o.lies.at key refl) (c.in_ok-found.ensures.behind from mid state layout [] (main object.key) o.loaded k.entries (open-listed state layout from k number object c.args.node c.args.entry o) o.lies.at key refl) in
    let last = told_now from c.in_ok-found.ensures.reads.stays mid in
    let own = sym (open-key state layout from k number object c.args.node c.args.entry o) ∙ key in
    subst (λ (t : Told). IfDamaged c.doom_target.result (λ _. t.files ≡ None)) (c.in_ok-found.ensures.reads.stays ∙ c.in_ok-named.ensures.reads.stays) (c.doom_target.ensures.untold from last state layout number object k target own)
