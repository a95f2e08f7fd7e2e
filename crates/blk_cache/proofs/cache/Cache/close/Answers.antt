use Rattle.std.proofs.Common.{◌≡◌, Ok, None, Some, Option, true, false, refl, sym, ◌∙◌, ap, subst, arith}
use Rattle.std.specs.Prelude.{IsSome, not}
use Rattle.spec_image.specs.Told.{Told}
use Rattle.blk_io.proofs.Carried.{carried, if_damaged_weaker}
use Rattle.blk_model.specs.Request.{to_close}
use Rattle.blk_model.specs.declared.Refusal.TheVariants as refusal
use Rattle.blk_disk.specs.declared.tables.BlockFiles.{BlockFiles}
use Rattle.blk_disk.specs.Open.{IsOpen}
use Rattle.law_state.proofs.Stopping.{nothing-stops, refusals-done}
use Rattle.blk_handles.specs.Bindings.{Bindings, is_open}
use Rattle.blk_cache.specs.CacheKeeping.{HoldsState}
use Rattle.blk_disk.specs.Tables.{Agrees}
use Rattle.blk_cache.proofs.CloseSteps.{bound-there, free-refused, free-there, last-entry, last-named, last-stands, several-done, was-last, was-more, close-spares}
use Rattle.blk_cache.proofs.CloseGone.{closed-done, closed-may, closed-stops}
use Rattle.blk_cache.proofs.Refusing.{says-kept}
use Rattle.blk_chain.proofs.Heads.{names-parts}
use Rattle.blk_object.specs.Ending.{Cleans}
use Rattle.blk_object.proofs.DamageChecks.{handed, head-checked, moved}
use Rattle.blk_cache.proofs.Sparing.{any-err, stayed-spares}
use Rattle.blk_cache.proofs.cache.Cache.close.Goals as goal

-- Refused.

pub returns-then-is_none-clause-does : goal.returns-then-is_none-clause-does
returns-then-is_none-clause-does g c moment =
    let old : Told = g.F.Folder.told c.args.folder.now in
    refusals-done (HoldsState c.args.self.now) old old moment (to_close c.args.handle) refusal.BadHandle refl
    (λ image there state k. free-refused c.args.self.now state image k moment c.args.handle (free-there c.args.self.now.handles c.args.handle c.object.result c.object.ensures.object (c.is_none.ensures ∙ ap not c.if-is_none.true)))

pub returns-then-is_none-clause-stops : goal.returns-then-is_none-clause-stops
returns-then-is_none-clause-stops g c moment =
    let old : Told = g.F.Folder.told c.args.folder.now in
    nothing-stops (HoldsState c.args.self.now) (says-kept c.args.self.now) old old moment (to_close c.args.handle) refl

-- One name of several.

pub returns-in-More-clause-does : goal.returns-in-More-clause-does
returns-in-More-clause-does g c moment =
    let b = bound-there c.args.self.now.handles c.args.handle c.object.result c.object.ensures.object (c.is_none.ensures ∙ ap not c.if-is_none.false) in
    several-done c.args.self.now c.args.handle (omega (arith, c.ranges.handle.fits)) b.0 b.1 c.release.new.self (g.F.Folder.told c.args.folder.now)
    (ap (λ (bs : Bindings). is_open bs b.0.entry) (sym c.release.ensures.frees) ∙ was-more c.args.self.now.handles c.release.new.self.handles c.args.handle b.0 b.1 c.release.result c.in-More.is c.release.ensures.answer)
    c.release.ensures.frees c.release.ensures.charged c.release.ensures.others moment

pub returns-in-More-clause-stops : goal.returns-in-More-clause-stops
returns-in-More-clause-stops g c moment =
    let old : Told = g.F.Folder.told c.args.folder.now in
    nothing-stops (HoldsState c.args.self.now) (says-kept c.args.self.now) old old moment (to_close c.args.handle) refl

pub returns-in-More-clause-is_open : goal.returns-in-More-clause-is_open
returns-in-More-clause-is_open g c image here = subst (λ (files : BlockFiles). IsOpen files image) (sym c.release.ensures.others.files) (c.requires.is_open image here)

-- The last name.

pub read_charge-requires : goal.read_charge-requires
read_charge-requires g c =
    let b = bound-there c.args.self.now.handles c.args.handle c.object.result c.object.ensures.object (c.is_none.ensures ∙ ap not c.if-is_none.false) in
    let w = was-last c.args.self.now.handles c.release.new.self.handles c.args.handle b.0 b.1 c.release.result c.in-Last.object c.in-Last.is c.release.ensures.answer in
    record { names = last-named c.args.self.now.files c.release.new.self.files c.args.self.now.handles c.release.new.self.handles c.args.self.now.stand c.release.ensures.others.files c.args.handle b.0 b.1 c.in-Last.object w }

pub returns-in_err-charge-in-Last-clause-stops : goal.returns-in_err-charge-in-Last-clause-stops
returns-in_err-charge-in-Last-clause-stops g c moment =
    nothing-stops (HoldsState c.args.self.now) (says-kept c.args.self.now) (g.F.Folder.told c.args.folder.now) (g.F.Folder.told c.read_charge.new.folder) moment (to_close c.args.handle) c.in_err-charge-in-Last.ensures.reads.stays

pub returns-in_err-charge-in-Last-clause-is_open : goal.returns-in_err-charge-in-Last-clause-is_open
returns-in_err-charge-in-Last-clause-is_open g c image now =
    subst (λ (files : BlockFiles). IsOpen files image) (sym c.release.ensures.others.files) (c.requires.is_open image (ap (λ (t : Told). t.files) (sym c.in_err-charge-in-Last.ensures.reads.stays) ∙ now))

pub returns-in_err-charge-in-Last-clause-untold : goal.returns-in_err-charge-in-Last-clause-untold
returns-in_err-charge-in-Last-clause-untold g c any =
    let old : Told = g.F.Folder.told c.args.folder.now in
    let b = bound-there c.args.self.now.handles c.args.handle c.object.result c.object.ensures.object (c.is_none.ensures ∙ ap not c.if-is_none.false) in
    let w = was-last c.args.self.now.handles c.release.new.self.handles c.args.handle b.0 b.1 c.release.result c.in-Last.object c.in-Last.is c.release.ensures.answer in
    carried c.read_charge.result c.from_residual.result c.in_err-charge-in-Last.field-0.0 (λ _. old.files ≡ None) c.in_err-charge-in-Last.was c.from_residual.ensures.1
    (c.read_charge.ensures.untold (λ image there. subst (λ (files : BlockFiles). Agrees files image) (sym c.release.ensures.others.files) (c.requires.is_open image there).agrees)
    (last-entry c.args.self.now old c.args.handle b.0 b.1 c.release.new.self c.in-Last.object w any))

-- Its end.

pub end_last-requires-clause-is_open : goal.end_last-requires-clause-is_open
end_last-requires-clause-is_open g c image now =
    subst (λ (files : BlockFiles). IsOpen files image) (sym c.release.ensures.others.files) (c.requires.is_open image (ap (λ (t : Told). t.files) (sym c.in_ok-charge-in-Last.ensures.reads.stays) ∙ now))

pub end_last-requires-clause-address : goal.end_last-requires-clause-address
end_last-requires-clause-address g c =
    let b = bound-there c.args.self.now.handles c.args.handle c.object.result c.object.ensures.object (c.is_none.ensures ∙ ap not c.if-is_none.false) in
    let w = was-last c.args.self.now.handles c.release.new.self.handles c.args.handle b.0 b.1 c.release.result c.in-Last.object c.in-Last.is c.release.ensures.answer in
    (names-parts c.release.new.self.files c.in-Last.object.entry (last-named c.args.self.now.files c.release.new.self.files c.args.self.now.handles c.release.new.self.handles c.args.self.now.stand c.release.ensures.others.files c.args.handle b.0 b.1 c.in-Last.object w)).0

pub end_last-requires-clause-kind : goal.end_last-requires-clause-kind
end_last-requires-clause-kind g c =
    let b = bound-there c.args.self.now.handles c.args.handle c.object.result c.object.ensures.object (c.is_none.ensures ∙ ap not c.if-is_none.false) in
    let w = was-last c.args.self.now.handles c.release.new.self.handles c.args.handle b.0 b.1 c.release.result c.in-Last.object c.in-Last.is c.release.ensures.answer in
    (names-parts c.release.new.self.files c.in-Last.object.entry (last-named c.args.self.now.files c.release.new.self.files c.args.self.now.handles c.release.new.self.handles c.args.self.now.stand c.release.ensures.others.files c.args.handle b.0 b.1 c.in-Last.object w)).1.0

pub end_last-requires-clause-record_stands : goal.end_last-requires-clause-record_stands
end_last-requires-clause-record_stands g c =
    let b = bound-there c.args.self.now.handles c.args.handle c.object.result c.object.ensures.object (c.is_none.ensures ∙ ap not c.if-is_none.false) in
    let w = was-last c.args.self.now.handles c.release.new.self.handles c.args.handle b.0 b.1 c.release.result c.in-Last.object c.in-Last.is c.release.ensures.answer in
    (names-parts c.release.new.self.files c.in-Last.object.entry (last-named c.args.self.now.files c.release.new.self.files c.args.self.now.handles c.release.new.self.handles c.args.self.now.stand c.release.ensures.others.files c.args.handle b.0 b.1 c.in-Last.object w)).1.1

pub end_last-requires-clause-stands : goal.end_last-requires-clause-stands
end_last-requires-clause-stands g c =
    let b = bound-there c.args.self.now.handles c.args.handle c.object.result c.object.ensures.object (c.is_none.ensures ∙ ap not c.if-is_none.false) in
    let w = was-last c.args.self.now.handles c.release.new.self.handles c.args.handle b.0 b.1 c.release.result c.in-Last.object c.in-Last.is c.release.ensures.answer in
    last-stands c.args.self.now.files c.release.new.self.files c.args.self.now.handles c.release.new.self.handles c.args.self.now.stand c.release.ensures.others.files c.args.handle b.0 b.1 c.in-Last.object w

pub returns-in_err-end_last-in-Last-clause-stops : goal.returns-in_err-end_last-in-Last-clause-stops
returns-in_err-end_last-in-Last-clause-stops g c moment =
    let b = bound-there c.args.self.now.handles c.args.handle c.object.result c.object.ensures.object (c.is_none.ensures ∙ ap not c.if-is_none.false) in
    let w = was-last c.args.self.now.handles c.release.new.self.handles c.args.handle b.0 b.1 c.release.result c.in-Last.object c.in-Last.is c.release.ensures.answer in
    closed-stops c.args.self.now (g.F.Folder.told c.args.folder.now) (g.F.Folder.told c.read_charge.new.folder) (g.F.Folder.told c.end_last.new.folder) c.in_ok-charge-in-Last.ensures.reads.stays c.args.handle (omega (arith, c.ranges.handle.fits)) b.0 b.1 c.release.new.self c.release.ensures.frees c.release.ensures.others c.in-Last.object w
    (g.met.F.Folder.are_bytes c.read_charge.new.folder)
    (last-stands c.args.self.now.files c.args.self.now.files c.args.self.now.handles c.release.new.self.handles c.args.self.now.stand refl c.args.handle b.0 b.1 c.in-Last.object w)
    c.end_last.result (λ e. subst (λ (fs : BlockFiles). Cleans fs (g.F.Folder.told c.read_charge.new.folder) (g.F.Folder.told c.end_last.new.folder) c.in-Last.object c.end_last.result) c.end_last.ensures.counts.files (c.end_last.ensures.cleans e)) c.end_last.ensures.frees moment

pub returns-in_ok-end_last-in-Last-clause-stops : goal.returns-in_ok-end_last-in-Last-clause-stops
returns-in_ok-end_last-in-Last-clause-stops g c moment =
    let b = bound-there c.args.self.now.handles c.args.handle c.object.result c.object.ensures.object (c.is_none.ensures ∙ ap not c.if-is_none.false) in
    let w = was-last c.args.self.now.handles c.release.new.self.handles c.args.handle b.0 b.1 c.release.result c.in-Last.object c.in-Last.is c.release.ensures.answer in
    closed-stops c.args.self.now (g.F.Folder.told c.args.folder.now) (g.F.Folder.told c.read_charge.new.folder) (g.F.Folder.told c.end_last.new.folder) c.in_ok-charge-in-Last.ensures.reads.stays c.args.handle (omega (arith, c.ranges.handle.fits)) b.0 b.1 c.release.new.self c.release.ensures.frees c.release.ensures.others c.in-Last.object w
    (g.met.F.Folder.are_bytes c.read_charge.new.folder)
    (last-stands c.args.self.now.files c.args.self.now.files c.args.self.now.handles c.release.new.self.handles c.args.self.now.stand refl c.args.handle b.0 b.1 c.in-Last.object w)
    c.end_last.result (λ e. subst (λ (fs : BlockFiles). Cleans fs (g.F.Folder.told c.read_charge.new.folder) (g.F.Folder.told c.end_last.new.folder) c.in-Last.object c.end_last.result) c.end_last.ensures.counts.files (c.end_last.ensures.cleans e)) c.end_last.ensures.frees moment

pub returns-in_err-end_last-in-Last-clause-untold : goal.returns-in_err-end_last-in-Last-clause-untold
returns-in_err-end_last-in-Last-clause-untold g c any =
    let old : Told = g.F.Folder.told c.args.folder.now in
    let mid : Told = g.F.Folder.told c.read_charge.new.folder in
    let b = bound-there c.args.self.now.handles c.args.handle c.object.result c.object.ensures.object (c.is_none.ensures ∙ ap not c.if-is_none.false) in
    let w = was-last c.args.self.now.handles c.release.new.self.handles c.args.handle b.0 b.1 c.release.result c.in-Last.object c.in-Last.is c.release.ensures.answer in
    let same : mid.files ≡ old.files = ap (λ (t : Told). t.files) c.in_ok-charge-in-Last.ensures.reads.stays in
    carried c.end_last.result c.from_residual-in_err-end_last-in-Last.result c.in_err-end_last-in-Last.field-0.0 (λ _. old.files ≡ None) c.in_err-end_last-in-Last.was c.from_residual-in_err-end_last-in-Last.ensures.1
    (if_damaged_weaker c.end_last.result (λ _. mid.files ≡ None) (λ _. old.files ≡ None) (λ damage none. sym same ∙ none)
    (c.end_last.ensures.untold
    (closed-may c.args.self.now old mid mid c.in_ok-charge-in-Last.ensures.reads.stays c.args.handle (omega (arith, c.ranges.handle.fits)) b.0 b.1 c.release.new.self c.release.ensures.frees c.release.ensures.others c.in-Last.object w (g.met.F.Folder.are_bytes c.read_charge.new.folder)
    (last-stands c.args.self.now.files c.args.self.now.files c.args.self.now.handles c.release.new.self.handles c.args.self.now.stand refl c.args.handle b.0 b.1 c.in-Last.object w) any)))

pub returns-in_ok-end_last-in-Last-clause-does : goal.returns-in_ok-end_last-in-Last-clause-does
returns-in_ok-end_last-in-Last-clause-does g c moment =
    let b = bound-there c.args.self.now.handles c.args.handle c.object.result c.object.ensures.object (c.is_none.ensures ∙ ap not c.if-is_none.false) in
    let w = was-last c.args.self.now.handles c.release.new.self.handles c.args.handle b.0 b.1 c.release.result c.in-Last.object c.in-Last.is c.release.ensures.answer in
    closed-done c.args.self.now (g.F.Folder.told c.args.folder.now) (g.F.Folder.told c.read_charge.new.folder) (g.F.Folder.told c.end_last.new.folder) c.in_ok-charge-in-Last.ensures.reads.stays c.args.handle (omega (arith, c.ranges.handle.fits)) b.0 b.1 c.release.new.self c.release.ensures.frees c.release.ensures.others c.in-Last.object w
    (g.met.F.Folder.are_bytes c.read_charge.new.folder)
    (last-stands c.args.self.now.files c.args.self.now.files c.args.self.now.handles c.release.new.self.handles c.args.self.now.stand refl c.args.handle b.0 b.1 c.in-Last.object w)
    (Ok c.in_ok-end_last-in-Last.field-0) (λ e. subst (λ (fs : BlockFiles). Cleans fs (g.F.Folder.told c.read_charge.new.folder) (g.F.Folder.told c.end_last.new.folder) c.in-Last.object (Ok c.in_ok-end_last-in-Last.field-0)) c.end_last.ensures.counts.files (c.in_ok-end_last-in-Last.ensures.cleans e)) c.in_ok-end_last-in-Last.ensures.frees moment
    (λ P p. p) c.end_last.new.self (λ image now. subst (λ (fs : BlockFiles). IsOpen fs image) c.end_last.ensures.counts.files (c.in_ok-end_last-in-Last.ensures.is_open image now)) c.in_ok-charge-in-Last.charge c.end_last.ensures.counts c.release.ensures.charged c.in_ok-charge-in-Last.ensures.charge

pub returns-in_err-charge-in-Last-clause-damaged : goal.returns-in_err-charge-in-Last-clause-damaged
returns-in_err-charge-in-Last-clause-damaged g c =
    let b = bound-there c.args.self.now.handles c.args.handle c.object.result c.object.ensures.object (c.is_none.ensures ∙ ap not c.if-is_none.false) in
    let w = was-last c.args.self.now.handles c.release.new.self.handles c.args.handle b.0 b.1 c.release.result c.in-Last.object c.in-Last.is c.release.ensures.answer in
    let parts = names-parts c.release.new.self.files c.in-Last.object.entry (last-named c.args.self.now.files c.release.new.self.files c.args.self.now.handles c.release.new.self.handles c.args.self.now.stand c.release.ensures.others.files c.args.handle b.0 b.1 c.in-Last.object w) in
    handed c.read_charge.result c.from_residual.result c.in_err-charge-in-Last.field-0.0 _ c.release.new.self.files (g.F.Folder.told c.read_charge.new.folder)
    (λ damage wrong. moved c.release.new.self.files (g.F.Folder.told c.args.folder.now) (g.F.Folder.told c.read_charge.new.folder) damage c.read_charge.ensures.reads.stays (head-checked c.release.new.self.files (g.F.Folder.told c.args.folder.now) c.in-Last.object.entry damage parts.1.0 parts.1.1 wrong))
    c.in_err-charge-in-Last.was c.from_residual.ensures.1 c.read_charge.ensures.damaged

-- The name is free.

pub returns-then-is_none-clause-frees : goal.returns-then-is_none-clause-frees
returns-then-is_none-clause-frees g c bound =
    absurd (nothing _ (free-there c.args.self.now.handles c.args.handle c.object.result c.object.ensures.object (c.is_none.ensures ∙ ap not c.if-is_none.true)) bound)
  where
    nothing : {A : Type 0} (o : Option A) → o ≡ None → IsSome o → ⊥
    nothing None is some = let z : false ≡ true = some in cc
    nothing (Some a) is some = cc

-- It makes no step where it is refused.

pub returns-in_err-charge-in-Last-clause-spares : goal.returns-in_err-charge-in-Last-clause-spares
returns-in_err-charge-in-Last-clause-spares g c moment =
    any-err c.from_residual.result _
    (stayed-spares (HoldsState c.args.self.now) (g.F.Folder.told c.args.folder.now) (g.F.Folder.told c.read_charge.new.folder) moment (to_close c.args.handle) c.in_err-charge-in-Last.ensures.reads.stays)

pub returns-in_err-end_last-in-Last-clause-spares : goal.returns-in_err-end_last-in-Last-clause-spares
returns-in_err-end_last-in-Last-clause-spares g c moment =
    let b = bound-there c.args.self.now.handles c.args.handle c.object.result c.object.ensures.object (c.is_none.ensures ∙ ap not c.if-is_none.false) in
    any-err c.from_residual-in_err-end_last-in-Last.result _
    (close-spares c.args.self.now c.args.handle (omega (arith, c.ranges.handle.fits)) b.0 b.1 (g.F.Folder.told c.args.folder.now) (g.F.Folder.told c.end_last.new.folder) moment)
