use Rattle.std.proofs.Common.{rules, ◌≡◌, ◌<◌, ℕ, [], None, Option, refl, sym, ◌∙◌, ap, subst, arith, true, false}
use Rattle.std.specs.Option.{ForSome}
use Rattle.std.proofs.lemmas.List.Elements.{All-from_get_or}
use Rattle.spec_image.specs.Told.{Told}
use Rattle.blk_io.proofs.Carried.{carried, if_damaged_weaker}
use Rattle.blk_model.specs.Items.{IsBytes}
use Rattle.blk_model.specs.Refusals.{no_key}
use Rattle.blk_model.specs.Request.{to_doom_key}
use Rattle.blk_model.specs.State.{State}
use Rattle.blk_model.specs.declared.Refusal.TheVariants as refusal
use Rattle.law_state.proofs.Stopping.{nothing-stops, refusals-done}
use Rattle.blk_cache.specs.declared.dooming_objects.Target.{Target}
use Rattle.blk_cache.specs.CacheKeeping.{HoldsState}
use Rattle.blk_cache.specs.CommandClauses.{KeepsAny}
use Rattle.blk_cache.specs.DoomingObjects.{IsDoomTarget, IsTargetAt}
use Rattle.blk_cache.proofs.DoomSteps.{key-done, key-stops, missing-refused, no-key-refused, key-spares}
use Rattle.blk_object.proofs.DamageChecks.{handed, moved}
use Rattle.blk_cache.proofs.Evictions.{untold-where}
use Rattle.blk_evict.proofs.LookDamages.{look-checked}
use Rattle.blk_cache.proofs.Refusing.{says-kept}
use Rattle.blk_cache.proofs.Sparing.{any-err, stayed-spares}
use Rattle.blk_cache.proofs.cache.Cache.doom_key.Goals as goal

-- Refused.

pub returns-then-is_no_key-clause-does : goal.returns-then-is_no_key-clause-does
returns-then-is_no_key-clause-does g c moment =
    let none : no_key c.args.key.now ≡ true = search rules in
    refusals-done (HoldsState c.args.self.now) (g.F.Folder.told c.args.folder.now) (g.F.Folder.told c.args.folder.now) moment (to_doom_key c.args.key.now) refusal.BadKey refl (λ image there state k. no-key-refused state moment c.args.key.now none)

pub returns-then-is_no_key-clause-stops : goal.returns-then-is_no_key-clause-stops
returns-then-is_no_key-clause-stops g c moment = nothing-stops (HoldsState c.args.self.now) (says-kept c.args.self.now) (g.F.Folder.told c.args.folder.now) (g.F.Folder.told c.args.folder.now) moment (to_doom_key c.args.key.now) refl

-- The search failed.

pub returns-in_err-target-clause-stops : goal.returns-in_err-target-clause-stops
returns-in_err-target-clause-stops g c moment = nothing-stops (HoldsState c.args.self.now) (says-kept c.args.self.now) (g.F.Folder.told c.args.folder.now) (g.F.Folder.told c.find_target.new.folder) moment (to_doom_key c.args.key.now) c.in_err-target.ensures.reads.stays

pub returns-in_err-target-clause-is_open : goal.returns-in_err-target-clause-is_open
returns-in_err-target-clause-is_open g c image now = c.requires.is_open image (ap (λ (t : Told). t.files) (sym c.in_err-target.ensures.reads.stays) ∙ now)

-- No live object has the key.

pub returns-in_default-clause-does : goal.returns-in_default-clause-does
returns-in_default-clause-does g c moment =
    let some : no_key c.args.key.now ≡ false = search rules in
    refusals-done (HoldsState c.args.self.now) (g.F.Folder.told c.args.folder.now) (g.F.Folder.told c.find_target.new.folder) moment (to_doom_key c.args.key.now) refusal.Missing c.in_ok-target.ensures.reads.stays
    (λ image there state k. missing-refused state moment c.args.key.now some
    (subst (λ (o : Option Target). IsDoomTarget state k.layout c.args.key.now o) c.in_default.is (c.in_ok-target.ensures.target image there state k.layout [] k.kept.entries)))

pub returns-in_default-clause-stops : goal.returns-in_default-clause-stops
returns-in_default-clause-stops g c moment = nothing-stops (HoldsState c.args.self.now) (says-kept c.args.self.now) (g.F.Folder.told c.args.folder.now) (g.F.Folder.told c.find_target.new.folder) moment (to_doom_key c.args.key.now) c.in_ok-target.ensures.reads.stays

pub returns-in_default-clause-is_open : goal.returns-in_default-clause-is_open
returns-in_default-clause-is_open g c image now = c.requires.is_open image (ap (λ (t : Told). t.files) (sym c.in_ok-target.ensures.reads.stays) ∙ now)

-- Doomed.

pub doom_found-requires-clause-is_open : goal.doom_found-requires-clause-is_open
doom_found-requires-clause-is_open g c image now = c.requires.is_open image (ap (λ (t : Told). t.files) (sym c.in_ok-target.ensures.reads.stays) ∙ now)

pub returns-in_err-doom_found-clause-stops : goal.returns-in_err-doom_found-clause-stops
returns-in_err-doom_found-clause-stops g c moment =
    let found : ForSome (g.F.Folder.told c.args.folder.now).files (λ image. (state : State) (k : HoldsState c.args.self.now state image) → IsTargetAt state k.layout c.args.key.now c.in-Some.target) =
    λ image there state k. subst (λ (o : Option Target). IsDoomTarget state k.layout c.args.key.now o) c.in-Some.is (c.in_ok-target.ensures.target image there state k.layout [] k.kept.entries) in
    let bytes : IsBytes c.args.key.now = All-from_get_or (λ (b : ℕ). b < 256) c.args.key.now 0 (λ i within. omega (arith, c.type_inv.key i)) in
    let some : no_key c.args.key.now ≡ false = search rules in
    key-stops c.args.self.now c.args.key.now bytes some c.in-Some.target (g.F.Folder.told c.args.folder.now) (g.F.Folder.told c.find_target.new.folder) (g.F.Folder.told c.doom_found.new.folder) c.in_ok-target.ensures.reads.stays moment found c.in_err-doom_found.ensures.stops

pub returns-in_err-doom_found-clause-untold : goal.returns-in_err-doom_found-clause-untold
returns-in_err-doom_found-clause-untold g c any =
    let found : ForSome (g.F.Folder.told c.args.folder.now).files (λ image. (state : State) (k : HoldsState c.args.self.now state image) → IsTargetAt state k.layout c.args.key.now c.in-Some.target) =
    λ image there state k. subst (λ (o : Option Target). IsDoomTarget state k.layout c.args.key.now o) c.in-Some.is (c.in_ok-target.ensures.target image there state k.layout [] k.kept.entries) in
    let bytes : IsBytes c.args.key.now = All-from_get_or (λ (b : ℕ). b < 256) c.args.key.now 0 (λ i within. omega (arith, c.type_inv.key i)) in
    let same : (g.F.Folder.told c.find_target.new.folder).files ≡ (g.F.Folder.told c.args.folder.now).files = ap (λ (t : Told). t.files) c.in_ok-target.ensures.reads.stays in
    carried c.doom_found.result c.from_residual-in_err-doom_found.result c.in_err-doom_found.field-0.0 (λ _. (g.F.Folder.told c.args.folder.now).files ≡ None) c.in_err-doom_found.was c.from_residual-in_err-doom_found.ensures.1
    (untold-where c.doom_found.result (g.F.Folder.told c.args.folder.now) (KeepsAny c.args.self.now) any (λ image there one.
    if_damaged_weaker c.doom_found.result (λ _. (g.F.Folder.told c.find_target.new.folder).files ≡ None) (λ _. (g.F.Folder.told c.args.folder.now).files ≡ None) (λ damage none. sym same ∙ none)
    (let at = found image there one.0 one.1 in c.doom_found.ensures.untold image (same ∙ there) one.0 one.1 at.number at.object at.lies at.of_key)))

pub returns-clause-does : goal.returns-clause-does
returns-clause-does g c moment =
    let found : ForSome (g.F.Folder.told c.args.folder.now).files (λ image. (state : State) (k : HoldsState c.args.self.now state image) → IsTargetAt state k.layout c.args.key.now c.in-Some.target) =
    λ image there state k. subst (λ (o : Option Target). IsDoomTarget state k.layout c.args.key.now o) c.in-Some.is (c.in_ok-target.ensures.target image there state k.layout [] k.kept.entries) in
    let bytes : IsBytes c.args.key.now = All-from_get_or (λ (b : ℕ). b < 256) c.args.key.now 0 (λ i within. omega (arith, c.type_inv.key i)) in
    let some : no_key c.args.key.now ≡ false = search rules in
    key-done c.args.self.now c.args.key.now bytes some c.in-Some.target (g.F.Folder.told c.args.folder.now) (g.F.Folder.told c.find_target.new.folder) (g.F.Folder.told c.doom_found.new.folder) c.in_ok-target.ensures.reads.stays moment found c.doom_found.new.self c.in_ok-doom_found.ensures.dooms

pub returns-clause-stops : goal.returns-clause-stops
returns-clause-stops g c moment =
    let found : ForSome (g.F.Folder.told c.args.folder.now).files (λ image. (state : State) (k : HoldsState c.args.self.now state image) → IsTargetAt state k.layout c.args.key.now c.in-Some.target) =
    λ image there state k. subst (λ (o : Option Target). IsDoomTarget state k.layout c.args.key.now o) c.in-Some.is (c.in_ok-target.ensures.target image there state k.layout [] k.kept.entries) in
    let bytes : IsBytes c.args.key.now = All-from_get_or (λ (b : ℕ). b < 256) c.args.key.now 0 (λ i within. omega (arith, c.type_inv.key i)) in
    let some : no_key c.args.key.now ≡ false = search rules in
    key-stops c.args.self.now c.args.key.now bytes some c.in-Some.target (g.F.Folder.told c.args.folder.now) (g.F.Folder.told c.find_target.new.folder) (g.F.Folder.told c.doom_found.new.folder) c.in_ok-target.ensures.reads.stays moment found c.in_ok-doom_found.ensures.stops

pub returns-in_err-target-clause-damaged : goal.returns-in_err-target-clause-damaged
returns-in_err-target-clause-damaged g c =
    handed c.find_target.result c.from_residual.result c.in_err-target.field-0.0 _ c.args.self.now.files (g.F.Folder.told c.find_target.new.folder)
    (λ damage wrong. moved c.args.self.now.files (g.F.Folder.told c.args.folder.now) (g.F.Folder.told c.find_target.new.folder) damage c.find_target.ensures.reads.stays (look-checked c.args.self.now.files (g.F.Folder.told c.args.folder.now) c.args.key.now damage wrong))
    c.in_err-target.was c.from_residual.ensures.1 c.find_target.ensures.damaged

-- It makes no step where it is refused.

pub returns-in_err-target-clause-spares : goal.returns-in_err-target-clause-spares
returns-in_err-target-clause-spares g c moment =
    any-err c.from_residual.result _
    (stayed-spares (HoldsState c.args.self.now) (g.F.Folder.told c.args.folder.now) (g.F.Folder.told c.find_target.new.folder) moment (to_doom_key c.args.key.now) c.in_err-target.ensures.reads.stays)

pub returns-in_err-doom_found-clause-spares : goal.returns-in_err-doom_found-clause-spares
returns-in_err-doom_found-clause-spares g c moment =
    let found : ForSome (g.F.Folder.told c.args.folder.now).files (λ image. (state : State) (k : HoldsState c.args.self.now state image) → IsTargetAt state k.layout c.args.key.now c.in-Some.target) =
    λ image there state k. subst (λ (o : Option Target). IsDoomTarget state k.layout c.args.key.now o) c.in-Some.is (c.in_ok-target.ensures.target image there state k.layout [] k.kept.entries) in
    let bytes : IsBytes c.args.key.now = All-from_get_or (λ (b : ℕ). b < 256) c.args.key.now 0 (λ i within. omega (arith, c.type_inv.key i)) in
    let some : no_key c.args.key.now ≡ false = search rules in
    any-err c.from_residual-in_err-doom_found.result _
    (key-spares c.args.self.now c.args.key.now bytes some c.in-Some.target (g.F.Folder.told c.args.folder.now) (g.F.Folder.told c.find_target.new.folder) (g.F.Folder.told c.doom_found.new.folder) c.in_ok-target.ensures.reads.stays moment found)
