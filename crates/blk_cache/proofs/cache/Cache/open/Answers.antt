use Rattle.std.proofs.Common.{◌≡◌, ◌<◌, [], inr, Option, None, refl, sym, ◌∙◌, ap, subst, arith}
use Rattle.std.proofs.lemmas.List.Elements.{All-from_get_or}
use Rattle.spec_image.specs.Told.{Told}
use Rattle.blk_io.proofs.Carried.{carried, if_damaged_weaker}
use Rattle.blk_model.specs.Request.{to_open}
use Rattle.blk_model.specs.declared.Refusal.TheVariants as refusal
use Rattle.blk_disk.specs.declared.tables.BlockFiles.{BlockFiles}
use Rattle.blk_disk.specs.Open.{IsOpen}
use Rattle.blk_lru.specs.Damages.{IsTouchDamage}
use Rattle.law_state.proofs.Stopping.{nothing-stops, refusals-done}
use Rattle.blk_evict.specs.declared.looking.Live.{Live}
use Rattle.blk_cache.specs.CacheKeeping.{HoldsState}
use Rattle.blk_cache.specs.CommandClauses.{IsOpenDamage}
use Rattle.blk_evict.specs.Looking.{IsLive}
use Rattle.blk_cache.proofs.OpenSteps.{IsFoundIn, mid-listed, opened-does, opened-stops, opened-spares}
use Rattle.blk_cache.proofs.Refusing.{refused-early, refused-missing, says-kept}
use Rattle.blk_object.proofs.DamageChecks.{handed, moved, touch-checked}
use Rattle.blk_evict.proofs.LookDamages.{look-checked}
use Rattle.blk_cache.proofs.Sparing.{any-err, stayed-spares}
use Rattle.blk_cache.proofs.cache.Cache.open.Goals as goal

-- Refused by the names and the key.

pub returns-in-Some-clause-does : goal.returns-in-Some-clause-does
returns-in-Some-clause-does g c =
    let old : Told = g.F.Folder.told c.args.folder.now in
    refusals-done (HoldsState c.args.self.now) old old c.args.moment (to_open c.args.handle c.args.key.now) c.in-Some.why refl
    (λ image there state k. refused-early c.args.self.now state image k c.args.moment c.args.handle c.args.key.now c.in-Some.why (sym c.refuses_open.ensures ∙ c.in-Some.is))

pub returns-in-Some-clause-stops : goal.returns-in-Some-clause-stops
returns-in-Some-clause-stops g c =
    let old : Told = g.F.Folder.told c.args.folder.now in
    nothing-stops (HoldsState c.args.self.now) (says-kept c.args.self.now) old old c.args.moment (to_open c.args.handle c.args.key.now) refl

-- The search failed.

pub returns-in_err-live-clause-stops : goal.returns-in_err-live-clause-stops
returns-in_err-live-clause-stops g c =
    nothing-stops (HoldsState c.args.self.now) (says-kept c.args.self.now) (g.F.Folder.told c.args.folder.now) (g.F.Folder.told c.find_live.new.folder) c.args.moment (to_open c.args.handle c.args.key.now) c.in_err-live.ensures.reads.stays

pub returns-in_err-live-clause-is_open : goal.returns-in_err-live-clause-is_open
returns-in_err-live-clause-is_open g c image now = c.requires.is_open image (ap (λ (t : Told). t.files) (sym c.in_err-live.ensures.reads.stays) ∙ now)

-- No live object has the key.

pub returns-in_default-2-clause-does : goal.returns-in_default-2-clause-does
returns-in_default-2-clause-does g c =
    refusals-done (HoldsState c.args.self.now) (g.F.Folder.told c.args.folder.now) (g.F.Folder.told c.find_live.new.folder) c.args.moment (to_open c.args.handle c.args.key.now) refusal.Missing c.in_ok-live.ensures.reads.stays
    (λ image there state k. refused-missing c.args.self.now state image k c.args.moment c.args.handle c.args.key.now (sym c.refuses_open.ensures ∙ c.in_default.is)
    (subst (λ (o : Option Live). IsLive state k.layout c.args.key.now o) c.in_default-2.is (c.in_ok-live.ensures.live image there state k.layout [] k.kept.entries)))

pub returns-in_default-2-clause-stops : goal.returns-in_default-2-clause-stops
returns-in_default-2-clause-stops g c =
    nothing-stops (HoldsState c.args.self.now) (says-kept c.args.self.now) (g.F.Folder.told c.args.folder.now) (g.F.Folder.told c.find_live.new.folder) c.args.moment (to_open c.args.handle c.args.key.now) c.in_ok-live.ensures.reads.stays

pub returns-in_default-2-clause-is_open : goal.returns-in_default-2-clause-is_open
returns-in_default-2-clause-is_open g c image now = c.requires.is_open image (ap (λ (t : Told). t.files) (sym c.in_ok-live.ensures.reads.stays) ∙ now)

-- The access.

pub touch-requires-clause-is_open : goal.touch-requires-clause-is_open
touch-requires-clause-is_open g c image now = c.requires.is_open image (ap (λ (t : Told). t.files) (sym c.in_ok-live.ensures.reads.stays) ∙ now)

pub returns-in_err-touch-clause-stops : goal.returns-in_err-touch-clause-stops
returns-in_err-touch-clause-stops g c =
    let old : Told = g.F.Folder.told c.args.folder.now in
    let found : IsFoundIn old c.args.key.now c.in-Some-2.live = λ image there state layout unlinked k. subst (λ (o : Option Live). IsLive state layout c.args.key.now o) c.in-Some-2.is (c.in_ok-live.ensures.live image there state layout unlinked k) in
    opened-stops c.args.self.now old (g.F.Folder.told c.find_live.new.folder) (g.F.Folder.told c.touch.new.f) c.in_ok-live.ensures.reads.stays c.args.moment c.args.handle c.args.key.now c.in-Some-2.live found (sym c.refuses_open.ensures ∙ c.in_default.is) c.node_of-node.result c.node_of-node.ensures.same c.node_of-node.ensures.new
    c.in_err-touch.ensures.stops

pub returns-in_err-touch-clause-damaged : goal.returns-in_err-touch-clause-damaged
returns-in_err-touch-clause-damaged g c =
    carried c.touch.result c.from_residual-in_err-touch.result c.in_err-touch.field-0.0 (IsOpenDamage c.args.self.now.files (g.F.Folder.told c.args.folder.now) (g.F.Folder.told c.touch.new.f) c.args.key.now) c.in_err-touch.was c.from_residual-in_err-touch.ensures.1
    (if_damaged_weaker c.touch.result _ _ (λ damage wrong. inr (record { node = c.node_of-node.result; stands = c.node_of-node.ensures.stands; wrong = subst (λ (t : Told). IsTouchDamage c.node_of-node.result c.args.self.now.files t (g.F.Folder.told c.touch.new.f) damage) c.in_ok-live.ensures.reads.stays wrong })) c.touch.ensures.damaged)

pub returns-in_err-touch-clause-untold : goal.returns-in_err-touch-clause-untold
returns-in_err-touch-clause-untold g c any =
    let old : Told = g.F.Folder.told c.args.folder.now in
    let mid : Told = g.F.Folder.told c.find_live.new.folder in
    let found : IsFoundIn old c.args.key.now c.in-Some-2.live = λ image there state layout unlinked k. subst (λ (o : Option Live). IsLive state layout c.args.key.now o) c.in-Some-2.is (c.in_ok-live.ensures.live image there state layout unlinked k) in
    let same : mid.files ≡ old.files = ap (λ (t : Told). t.files) c.in_ok-live.ensures.reads.stays in
    carried c.touch.result c.from_residual-in_err-touch.result c.in_err-touch.field-0.0 (λ _. old.files ≡ None) c.in_err-touch.was c.from_residual-in_err-touch.ensures.1
    (if_damaged_weaker c.touch.result (λ _. mid.files ≡ None) (λ _. old.files ≡ None) (λ damage none. sym same ∙ none)
    (c.touch.ensures.untold
    (mid-listed c.args.self.now old mid (g.F.Folder.told c.touch.new.f) c.in_ok-live.ensures.reads.stays c.args.moment c.args.handle c.args.key.now c.in-Some-2.live found (sym c.refuses_open.ensures ∙ c.in_default.is) c.node_of-node.result c.node_of-node.ensures.same c.node_of-node.ensures.new any)))

-- All of it.

pub returns-clause-stops : goal.returns-clause-stops
returns-clause-stops g c =
    let old : Told = g.F.Folder.told c.args.folder.now in
    let found : IsFoundIn old c.args.key.now c.in-Some-2.live = λ image there state layout unlinked k. subst (λ (o : Option Live). IsLive state layout c.args.key.now o) c.in-Some-2.is (c.in_ok-live.ensures.live image there state layout unlinked k) in
    opened-stops c.args.self.now old (g.F.Folder.told c.find_live.new.folder) (g.F.Folder.told c.touch.new.f) c.in_ok-live.ensures.reads.stays c.args.moment c.args.handle c.args.key.now c.in-Some-2.live found (sym c.refuses_open.ensures ∙ c.in_default.is) c.node_of-node.result c.node_of-node.ensures.same c.node_of-node.ensures.new
    c.in_ok-touch.ensures.stops

pub returns-clause-does : goal.returns-clause-does
returns-clause-does g c =
    let old : Told = g.F.Folder.told c.args.folder.now in
    let found : IsFoundIn old c.args.key.now c.in-Some-2.live = λ image there state layout unlinked k. subst (λ (o : Option Live). IsLive state layout c.args.key.now o) c.in-Some-2.is (c.in_ok-live.ensures.live image there state layout unlinked k) in
    opened-does c.args.self.now old (g.F.Folder.told c.find_live.new.folder) (g.F.Folder.told c.touch.new.f) c.in_ok-live.ensures.reads.stays c.args.moment c.args.handle c.args.key.now c.in-Some-2.live found (sym c.refuses_open.ensures ∙ c.in_default.is) c.node_of-node.result c.node_of-node.ensures.same c.node_of-node.ensures.new
    c.bind_live.new.self (All-from_get_or (λ b. b < 256) c.args.key.now 0 (λ i within. omega (arith, c.type_inv.key i))) (omega (arith, c.ranges.handle.fits)) (g.met.F.Folder.are_bytes c.find_live.new.folder)
    (λ image now. c.requires.is_open image (ap (λ (t : Told). t.files) (sym c.in_ok-live.ensures.reads.stays) ∙ now)) c.in_ok-touch.ensures.is_open c.in_ok-touch.ensures.steps
    c.bind_live.ensures.binds c.bind_live.ensures.charges c.bind_live.ensures.others c.bind_live.ensures.shared c.bind_live.ensures.few

pub returns-clause-is_open : goal.returns-clause-is_open
returns-clause-is_open g c image now = subst (λ (files : BlockFiles). IsOpen files image) (sym c.bind_live.ensures.others.files) (c.in_ok-touch.ensures.is_open image now)

pub returns-in_err-touch-clause-cause : goal.returns-in_err-touch-clause-cause
returns-in_err-touch-clause-cause g c =
    handed c.touch.result c.from_residual-in_err-touch.result c.in_err-touch.field-0.0 _ c.args.self.now.files (g.F.Folder.told c.touch.new.f)
    (touch-checked c.node_of-node.result c.args.self.now.files (g.F.Folder.told c.find_live.new.folder) (g.F.Folder.told c.touch.new.f)) c.in_err-touch.was c.from_residual-in_err-touch.ensures.1 c.touch.ensures.damaged

pub returns-in_err-live-clause-cause : goal.returns-in_err-live-clause-cause
returns-in_err-live-clause-cause g c =
    handed c.find_live.result c.from_residual.result c.in_err-live.field-0.0 _ c.args.self.now.files (g.F.Folder.told c.find_live.new.folder)
    (λ damage wrong. moved c.args.self.now.files (g.F.Folder.told c.args.folder.now) (g.F.Folder.told c.find_live.new.folder) damage c.find_live.ensures.reads.stays (look-checked c.args.self.now.files (g.F.Folder.told c.args.folder.now) c.args.key.now damage wrong))
    c.in_err-live.was c.from_residual.ensures.1 c.find_live.ensures.damaged

-- It makes no step where it is refused.

pub returns-in_err-live-clause-spares : goal.returns-in_err-live-clause-spares
returns-in_err-live-clause-spares g c =
    any-err c.from_residual.result _
    (stayed-spares (HoldsState c.args.self.now) (g.F.Folder.told c.args.folder.now) (g.F.Folder.told c.find_live.new.folder) c.args.moment (to_open c.args.handle c.args.key.now)
    c.in_err-live.ensures.reads.stays)

pub returns-in_err-touch-clause-spares : goal.returns-in_err-touch-clause-spares
returns-in_err-touch-clause-spares g c =
    let old : Told = g.F.Folder.told c.args.folder.now in
    let found : IsFoundIn old c.args.key.now c.in-Some-2.live = λ image there state layout unlinked k. subst (λ (o : Option Live). IsLive state layout c.args.key.now o) c.in-Some-2.is (c.in_ok-live.ensures.live image there state layout unlinked k) in
    any-err c.from_residual-in_err-touch.result _
    (opened-spares c.args.self.now old (g.F.Folder.told c.find_live.new.folder) (g.F.Folder.told c.touch.new.f) c.in_ok-live.ensures.reads.stays c.args.moment c.args.handle c.args.key.now c.in-Some-2.live found
    (sym c.refuses_open.ensures ∙ c.in_default.is) c.node_of-node.result c.node_of-node.ensures.same c.node_of-node.ensures.new)
