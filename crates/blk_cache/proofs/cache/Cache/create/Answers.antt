use Rattle.std.proofs.Common.{◌≡◌, None, Option, sym, ap, subst, ◌∙◌}
use Rattle.std.proofs.lemmas.Result.{on_ok_weaker, on_err_weaker}
use Rattle.std.specs.Option.{ForSome}
use Rattle.spec_image.specs.Told.{Told}
use Rattle.blk_io.specs.Faults.{IfDamaged}
use Rattle.blk_model.specs.Refusals.{no_room}
use Rattle.blk_model.specs.Request.{to_create}
use Rattle.blk_model.specs.declared.Refusal.{Refusal}
use Rattle.law_state.specs.Commands.{Does, MayStopAtEach}
use Rattle.law_state.proofs.Stopping.{nothing-stops, refusals-done}
use Rattle.blk_cache.specs.CacheKeeping.{HoldsState}
use Rattle.blk_cache.specs.CommandClauses.{KeepsAny, SparesRefused}
use Rattle.blk_cache.specs.Creating.{WantsRoomAlone, create_refusal}
use Rattle.blk_cache.specs.Stepping.{SaysEvicted, SaysPrefix}
use Rattle.blk_cache.proofs.CreateWhole.{front-before, if_ok_weaker, refused-says}
use Rattle.blk_cache.proofs.Refusing.{says-kept}
use Rattle.blk_object.proofs.DamageChecks.{handed, moved}
use Rattle.blk_evict.proofs.LookDamages.{look-checked}
use Rattle.blk_cache.proofs.Sparing.{any-err, stayed-spares}
use Rattle.blk_cache.proofs.cache.Cache.create.Goals as goal

-- It isn't known whether it is refused.

pub returns-in_err-why-clause-stops : goal.returns-in_err-why-clause-stops
returns-in_err-why-clause-stops g c =
    nothing-stops (HoldsState c.args.self.now) (says-kept c.args.self.now) (g.F.Folder.told c.args.folder.now) (g.F.Folder.told c.refuses_create.new.folder) c.args.moment (to_create c.args.handle c.args.key.now) c.in_err-why.ensures.reads.stays

pub returns-in_err-why-clause-front : goal.returns-in_err-why-clause-front
returns-in_err-why-clause-front g c = front-before c.args.moment c.args.handle c.args.key.now c.args.self.now (g.F.Folder.told c.args.folder.now) c.args.failed.now c.args.failed.now (g.K.Sink.written c.args.out.now) (g.K.Sink.written c.args.out.now)

-- It is refused.

pub returns-in-Some-clause-does : goal.returns-in-Some-clause-does
returns-in-Some-clause-does g c =
    refusals-done (HoldsState c.args.self.now) (g.F.Folder.told c.args.folder.now) (g.F.Folder.told c.refuses_create.new.folder) c.args.moment (to_create c.args.handle c.args.key.now) c.in-Some.why c.in_ok-why.ensures.reads.stays
    (λ image there state k. c.in_ok-why.ensures.refused image there state c.args.moment k ∙ ap (λ (o : Option Refusal). create_refusal o (no_room c.args.moment (to_create c.args.handle c.args.key.now) state)) c.in-Some.is)

pub returns-in-Some-clause-stops : goal.returns-in-Some-clause-stops
returns-in-Some-clause-stops g c =
    nothing-stops (HoldsState c.args.self.now) (says-kept c.args.self.now) (g.F.Folder.told c.args.folder.now) (g.F.Folder.told c.refuses_create.new.folder) c.args.moment (to_create c.args.handle c.args.key.now) c.in_ok-why.ensures.reads.stays

pub returns-in-Some-clause-says : goal.returns-in-Some-clause-says
returns-in-Some-clause-says g c =
    refused-says c.args.moment c.args.handle c.args.key.now c.args.self.now (g.F.Folder.told c.args.folder.now) c.args.failed.now c.args.failed.now (g.K.Sink.written c.args.out.now) (g.K.Sink.written c.args.out.now) c.in-Some.why
    (λ image there state k. c.in_ok-why.ensures.refused image there state c.args.moment k ∙ ap (λ (o : Option Refusal). create_refusal o (no_room c.args.moment (to_create c.args.handle c.args.key.now) state)) c.in-Some.is)

pub returns-in-Some-clause-front : goal.returns-in-Some-clause-front
returns-in-Some-clause-front g c = front-before c.args.moment c.args.handle c.args.key.now c.args.self.now (g.F.Folder.told c.args.folder.now) c.args.failed.now c.args.failed.now (g.K.Sink.written c.args.out.now) (g.K.Sink.written c.args.out.now)

pub returns-in-Some-clause-is_open : goal.returns-in-Some-clause-is_open
returns-in-Some-clause-is_open g c image now = c.requires.is_open image (ap (λ (t : Told). t.files) (sym c.in_ok-why.ensures.reads.stays) ∙ now)

-- It is refused for nothing but lack of space.

pub create_where_room-requires-clause-is_open : goal.create_where_room-requires-clause-is_open
create_where_room-requires-clause-is_open g c image now = c.requires.is_open image (ap (λ (t : Told). t.files) (sym c.in_ok-why.ensures.reads.stays) ∙ now)

-- what holds of a folder holds of the same one
same-told : (a b : Told) (P : Told → Type 0) → a ≡ b → P b → P a
same-told a b P same holds = subst P (sym same) holds

pub returns-clause-does : goal.returns-clause-does
returns-clause-does g c =
    if_ok_weaker c.create_where_room.result
    (λ answer. same-told (g.F.Folder.told c.args.folder.now) (g.F.Folder.told c.refuses_create.new.folder) (λ (t : Told). Does (HoldsState c.args.self.now) (HoldsState c.create_where_room.new.self) t (g.F.Folder.told c.create_where_room.new.folder) c.args.moment (to_create c.args.handle c.args.key.now) answer) (sym c.in_ok-why.ensures.reads.stays))
    (c.create_where_room.ensures.does (same-told (g.F.Folder.told c.refuses_create.new.folder) (g.F.Folder.told c.args.folder.now) (λ (t : Told). WantsRoomAlone c.args.self.now t c.args.moment c.args.handle c.args.key.now) c.in_ok-why.ensures.reads.stays (λ image there state k. c.in_ok-why.ensures.refused image there state c.args.moment k ∙ ap (λ (o : Option Refusal). create_refusal o (no_room c.args.moment (to_create c.args.handle c.args.key.now) state)) c.in_default.is)))

pub returns-clause-stops : goal.returns-clause-stops
returns-clause-stops g c =
    same-told (g.F.Folder.told c.args.folder.now) (g.F.Folder.told c.refuses_create.new.folder) (λ (t : Told). MayStopAtEach (HoldsState c.args.self.now) t (g.F.Folder.told c.create_where_room.new.folder) c.args.moment (to_create c.args.handle c.args.key.now)) (sym c.in_ok-why.ensures.reads.stays)
    (c.create_where_room.ensures.stops (same-told (g.F.Folder.told c.refuses_create.new.folder) (g.F.Folder.told c.args.folder.now) (λ (t : Told). WantsRoomAlone c.args.self.now t c.args.moment c.args.handle c.args.key.now) c.in_ok-why.ensures.reads.stays (λ image there state k. c.in_ok-why.ensures.refused image there state c.args.moment k ∙ ap (λ (o : Option Refusal). create_refusal o (no_room c.args.moment (to_create c.args.handle c.args.key.now) state)) c.in_default.is)))

pub returns-clause-says : goal.returns-clause-says
returns-clause-says g c =
    on_ok_weaker c.create_where_room.result
    (same-told (g.F.Folder.told c.args.folder.now) (g.F.Folder.told c.refuses_create.new.folder) (λ (t : Told). SaysEvicted c.args.self.now t c.args.moment (to_create c.args.handle c.args.key.now) c.args.failed.now c.create_where_room.new.failed (g.K.Sink.written c.args.out.now) (g.K.Sink.written c.create_where_room.new.out)) (sym c.in_ok-why.ensures.reads.stays))
    (c.create_where_room.ensures.says (same-told (g.F.Folder.told c.refuses_create.new.folder) (g.F.Folder.told c.args.folder.now) (λ (t : Told). WantsRoomAlone c.args.self.now t c.args.moment c.args.handle c.args.key.now) c.in_ok-why.ensures.reads.stays (λ image there state k. c.in_ok-why.ensures.refused image there state c.args.moment k ∙ ap (λ (o : Option Refusal). create_refusal o (no_room c.args.moment (to_create c.args.handle c.args.key.now) state)) c.in_default.is)))

pub returns-clause-front : goal.returns-clause-front
returns-clause-front g c =
    same-told (g.F.Folder.told c.args.folder.now) (g.F.Folder.told c.refuses_create.new.folder) (λ (t : Told). SaysPrefix (HoldsState c.args.self.now) t c.args.moment (to_create c.args.handle c.args.key.now) (g.K.Sink.written c.args.out.now) (g.K.Sink.written c.create_where_room.new.out)) (sym c.in_ok-why.ensures.reads.stays)
    (c.create_where_room.ensures.front (same-told (g.F.Folder.told c.refuses_create.new.folder) (g.F.Folder.told c.args.folder.now) (λ (t : Told). WantsRoomAlone c.args.self.now t c.args.moment c.args.handle c.args.key.now) c.in_ok-why.ensures.reads.stays (λ image there state k. c.in_ok-why.ensures.refused image there state c.args.moment k ∙ ap (λ (o : Option Refusal). create_refusal o (no_room c.args.moment (to_create c.args.handle c.args.key.now) state)) c.in_default.is)))

pub returns-clause-quiet : goal.returns-clause-quiet
returns-clause-quiet g c =
    if_ok_weaker c.create_where_room.result
    (λ answer stays refused. stays refused ∙ c.in_ok-why.ensures.reads.stays)
    c.create_where_room.ensures.quiet

pub returns-clause-untold : goal.returns-clause-untold
returns-clause-untold g c some =
    same-told (g.F.Folder.told c.args.folder.now) (g.F.Folder.told c.refuses_create.new.folder) (λ (t : Told). IfDamaged c.create_where_room.result (λ _. t.files ≡ None)) (sym c.in_ok-why.ensures.reads.stays)
    (c.create_where_room.ensures.untold (same-told (g.F.Folder.told c.refuses_create.new.folder) (g.F.Folder.told c.args.folder.now) (λ (t : Told). WantsRoomAlone c.args.self.now t c.args.moment c.args.handle c.args.key.now) c.in_ok-why.ensures.reads.stays (λ image there state k. c.in_ok-why.ensures.refused image there state c.args.moment k ∙ ap (λ (o : Option Refusal). create_refusal o (no_room c.args.moment (to_create c.args.handle c.args.key.now) state)) c.in_default.is)) (same-told (g.F.Folder.told c.refuses_create.new.folder) (g.F.Folder.told c.args.folder.now) (λ (t : Told). ForSome t.files (KeepsAny c.args.self.now)) c.in_ok-why.ensures.reads.stays some))

pub returns-in_err-why-clause-damaged : goal.returns-in_err-why-clause-damaged
returns-in_err-why-clause-damaged g c =
    handed c.refuses_create.result c.from_residual.result c.in_err-why.field-0.0 _ c.args.self.now.files (g.F.Folder.told c.refuses_create.new.folder)
    (λ damage wrong. moved c.args.self.now.files (g.F.Folder.told c.args.folder.now) (g.F.Folder.told c.refuses_create.new.folder) damage c.refuses_create.ensures.reads.stays (look-checked c.args.self.now.files (g.F.Folder.told c.args.folder.now) c.args.key.now damage wrong))
    c.in_err-why.was c.from_residual.ensures.1 c.refuses_create.ensures.damaged

-- It makes no step where it is refused.

pub returns-in_err-why-clause-spares : goal.returns-in_err-why-clause-spares
returns-in_err-why-clause-spares g c =
    any-err c.from_residual.result _
    (stayed-spares (HoldsState c.args.self.now) (g.F.Folder.told c.args.folder.now) (g.F.Folder.told c.refuses_create.new.folder) c.args.moment (to_create c.args.handle c.args.key.now)
    c.in_err-why.ensures.reads.stays)

pub returns-clause-spares : goal.returns-clause-spares
returns-clause-spares g c =
    on_err_weaker c.create_where_room.result
    (same-told (g.F.Folder.told c.args.folder.now) (g.F.Folder.told c.refuses_create.new.folder) (λ (t : Told). SparesRefused (HoldsState c.args.self.now) t (g.F.Folder.told c.create_where_room.new.folder) c.args.moment (to_create c.args.handle c.args.key.now)) (sym c.in_ok-why.ensures.reads.stays))
    (c.create_where_room.ensures.spares (same-told (g.F.Folder.told c.refuses_create.new.folder) (g.F.Folder.told c.args.folder.now) (λ (t : Told). WantsRoomAlone c.args.self.now t c.args.moment c.args.handle c.args.key.now) c.in_ok-why.ensures.reads.stays
    (λ image there state k. c.in_ok-why.ensures.refused image there state c.args.moment k ∙ ap (λ (o : Option Refusal). create_refusal o (no_room c.args.moment (to_create c.args.handle c.args.key.now) state)) c.in_default.is)))
