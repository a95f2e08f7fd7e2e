use Rattle.std.proofs.Common.{◌≡◌, inl, inr, ℕ, None, Ok, sym, ◌∙◌, ap, subst}
use Rattle.std.specs.Option.{ForSome}
use Rattle.spec_image.specs.Told.{Told}
use Rattle.blk_io.proofs.Carried.{carried, if_damaged_weaker}
use Rattle.blk_model.specs.Request.{to_read}
use Rattle.blk_model.specs.declared.Answer.TheVariants as answer
use Rattle.law_state.specs.Commands.{Does}
use Rattle.blk_disk.specs.Open.{IsOpen}
use Rattle.blk_lru.specs.Damages.{IsTouchDamage}
use Rattle.law_state.proofs.Stopping.{nothing-stops}
use Rattle.blk_cache.specs.Asking.{IsAsked, StandsAmong}
use Rattle.blk_cache.specs.CacheKeeping.{HoldsState}
use Rattle.blk_cache.specs.Reading.{IsCommandReadDamage}
use Rattle.blk_cache.proofs.ReadSteps.{mid-listed, read-does, read-refuses, read-stops, read-spares}
use Rattle.blk_cache.proofs.Refusing.{says-kept}
use Rattle.blk_object.proofs.DamageChecks.{handed, touch-checked}
use Rattle.blk_cache.proofs.Sparing.{any-err, stayed-spares}
use Rattle.blk_cache.proofs.cache.Cache.use_read.Goals as goal

-- Refused, or the record can't be read.

pub returns-in_err-asked-clause-stops : goal.returns-in_err-asked-clause-stops
returns-in_err-asked-clause-stops g c =
    nothing-stops (HoldsState c.args.self.now) (says-kept c.args.self.now) (g.F.Folder.told c.args.folder.now) (g.F.Folder.told c.ask_stream.new.folder) c.args.moment (to_read c.args.handle c.args.stream c.args.offset c.args.count) c.in_err-asked.ensures.reads.stays

pub returns-in_err-asked-clause-is_open : goal.returns-in_err-asked-clause-is_open
returns-in_err-asked-clause-is_open g c = subst (λ (t : Told). ForSome t.files (IsOpen c.args.self.now.files)) (sym c.in_err-asked.ensures.reads.stays) c.requires.is_open

pub returns-in_err-asked-clause-damaged : goal.returns-in_err-asked-clause-damaged
returns-in_err-asked-clause-damaged g c =
    carried c.ask_stream.result c.from_residual.result c.in_err-asked.field-0.0 (IsCommandReadDamage c.args.self.now.handles c.args.self.now.files (g.F.Folder.told c.args.folder.now) (g.F.Folder.told c.ask_stream.new.folder) c.args.handle) c.in_err-asked.was c.from_residual.ensures.1
    (if_damaged_weaker c.ask_stream.result _ _ (λ damage wrong. inl wrong) c.ask_stream.ensures.damaged)

pub returns-in-Refused-clause-does : goal.returns-in-Refused-clause-does
returns-in-Refused-clause-does g c =
    read-refuses c.args.self.now (g.F.Folder.told c.args.folder.now) (g.F.Folder.told c.ask_stream.new.folder) c.in_ok-asked.ensures.reads.stays c.args.moment c.args.handle c.args.stream c.args.offset c.args.count c.in-Refused.why
    (λ image there state k. subst (IsAsked state k.layout c.args.handle c.args.stream) c.in-Refused.is (c.in_ok-asked.ensures.asked image there state k))

pub returns-in-Refused-clause-stops : goal.returns-in-Refused-clause-stops
returns-in-Refused-clause-stops g c =
    nothing-stops (HoldsState c.args.self.now) (says-kept c.args.self.now) (g.F.Folder.told c.args.folder.now) (g.F.Folder.told c.ask_stream.new.folder) c.args.moment (to_read c.args.handle c.args.stream c.args.offset c.args.count) c.in_ok-asked.ensures.reads.stays

pub returns-in-Refused-clause-is_open : goal.returns-in-Refused-clause-is_open
returns-in-Refused-clause-is_open g c = subst (λ (t : Told). ForSome t.files (IsOpen c.args.self.now.files)) (sym c.in_ok-asked.ensures.reads.stays) c.requires.is_open

-- The access.

pub use_item-requires-clause-stands : goal.use_item-requires-clause-stands
use_item-requires-clause-stands g c = (subst (StandsAmong c.args.self.now.files c.args.stream) c.in-Stream.is c.in_ok-asked.ensures.stands).0

pub use_item-requires-clause-is_open : goal.use_item-requires-clause-is_open
use_item-requires-clause-is_open g c = subst (λ (t : Told). ForSome t.files (IsOpen c.args.self.now.files)) (sym c.in_ok-asked.ensures.reads.stays) c.requires.is_open

pub returns-in_err-use_item-in-Stream-clause-stops : goal.returns-in_err-use_item-in-Stream-clause-stops
returns-in_err-use_item-in-Stream-clause-stops g c =
    read-stops c.args.self.now (g.F.Folder.told c.args.folder.now) (g.F.Folder.told c.ask_stream.new.folder) c.in_ok-asked.ensures.reads.stays c.args.moment c.args.handle c.args.stream c.args.offset c.args.count c.in-Stream.named
    (λ image there state k. subst (IsAsked state k.layout c.args.handle c.args.stream) c.in-Stream.is (c.in_ok-asked.ensures.asked image there state k))
    (g.F.Folder.told c.use_item.new.folder) c.use_item.result c.use_item.ensures.uses

pub returns-in_err-use_item-in-Stream-clause-damaged : goal.returns-in_err-use_item-in-Stream-clause-damaged
returns-in_err-use_item-in-Stream-clause-damaged g c =
    carried c.use_item.result c.from_residual-in_err-use_item-in-Stream.result c.in_err-use_item-in-Stream.field-0.0 (IsCommandReadDamage c.args.self.now.handles c.args.self.now.files (g.F.Folder.told c.args.folder.now) (g.F.Folder.told c.use_item.new.folder) c.args.handle) c.in_err-use_item-in-Stream.was c.from_residual-in_err-use_item-in-Stream.ensures.1
    (if_damaged_weaker c.use_item.result _ _ (λ damage wrong. inr (record {
      node = c.in-Stream.named.node;
      stands = (subst (StandsAmong c.args.self.now.files c.args.stream) c.in-Stream.is c.in_ok-asked.ensures.stands).0;
      wrong = subst (λ (t : Told). IsTouchDamage c.in-Stream.named.node c.args.self.now.files t (g.F.Folder.told c.use_item.new.folder) damage) c.in_ok-asked.ensures.reads.stays wrong;
    })) c.use_item.ensures.damaged)

pub returns-in_err-use_item-in-Stream-clause-untold : goal.returns-in_err-use_item-in-Stream-clause-untold
returns-in_err-use_item-in-Stream-clause-untold g c any =
    let old : Told = g.F.Folder.told c.args.folder.now in
    let mid : Told = g.F.Folder.told c.ask_stream.new.folder in
    let same : mid.files ≡ old.files = ap (λ (t : Told). t.files) c.in_ok-asked.ensures.reads.stays in
    carried c.use_item.result c.from_residual-in_err-use_item-in-Stream.result c.in_err-use_item-in-Stream.field-0.0 (λ _. old.files ≡ None) c.in_err-use_item-in-Stream.was c.from_residual-in_err-use_item-in-Stream.ensures.1
    (if_damaged_weaker c.use_item.result (λ _. mid.files ≡ None) (λ _. old.files ≡ None) (λ damage none. sym same ∙ none)
    (c.use_item.ensures.untold
    (mid-listed c.args.self.now old mid c.in_ok-asked.ensures.reads.stays c.args.moment c.args.handle c.args.stream c.args.offset c.args.count c.in-Stream.named
    (λ image there state k. subst (IsAsked state k.layout c.args.handle c.args.stream) c.in-Stream.is (c.in_ok-asked.ensures.asked image there state k)) any)))

pub returns-in_ok-use_item-in-Stream-clause-stops : goal.returns-in_ok-use_item-in-Stream-clause-stops
returns-in_ok-use_item-in-Stream-clause-stops g c =
    read-stops c.args.self.now (g.F.Folder.told c.args.folder.now) (g.F.Folder.told c.ask_stream.new.folder) c.in_ok-asked.ensures.reads.stays c.args.moment c.args.handle c.args.stream c.args.offset c.args.count c.in-Stream.named
    (λ image there state k. subst (IsAsked state k.layout c.args.handle c.args.stream) c.in-Stream.is (c.in_ok-asked.ensures.asked image there state k))
    (g.F.Folder.told c.use_item.new.folder) c.use_item.result c.use_item.ensures.uses

pub returns-in_ok-use_item-in-Stream-clause-does : goal.returns-in_ok-use_item-in-Stream-clause-does
returns-in_ok-use_item-in-Stream-clause-does g c =
    subst (λ (n : ℕ). Does (HoldsState c.args.self.now) (HoldsState c.args.self.now) (g.F.Folder.told c.args.folder.now) (g.F.Folder.told c.use_item.new.folder) c.args.moment (to_read c.args.handle c.args.stream c.args.offset c.args.count) (answer.Bytes n)) (sym c.bytes_there.ensures)
    (read-does c.args.self.now (g.F.Folder.told c.args.folder.now) (g.F.Folder.told c.ask_stream.new.folder) c.in_ok-asked.ensures.reads.stays c.args.moment c.args.handle c.args.stream c.args.offset c.args.count c.in-Stream.named
    (λ image there state k. subst (IsAsked state k.layout c.args.handle c.args.stream) c.in-Stream.is (c.in_ok-asked.ensures.asked image there state k))
    (g.F.Folder.told c.use_item.new.folder) (Ok c.in_ok-use_item-in-Stream.field-0) c.in_ok-use_item-in-Stream.ensures.uses (λ P p. p) (g.met.F.Folder.are_bytes c.ask_stream.new.folder)
    (subst (λ (t : Told). ForSome t.files (IsOpen c.args.self.now.files)) (sym c.in_ok-asked.ensures.reads.stays) c.requires.is_open) c.in_ok-use_item-in-Stream.ensures.is_open)

pub returns-in_err-use_item-in-Stream-clause-cause : goal.returns-in_err-use_item-in-Stream-clause-cause
returns-in_err-use_item-in-Stream-clause-cause g c =
    handed c.use_item.result c.from_residual-in_err-use_item-in-Stream.result c.in_err-use_item-in-Stream.field-0.0 _ c.args.self.now.files (g.F.Folder.told c.use_item.new.folder)
    (touch-checked c.in-Stream.named.node c.args.self.now.files (g.F.Folder.told c.ask_stream.new.folder) (g.F.Folder.told c.use_item.new.folder)) c.in_err-use_item-in-Stream.was c.from_residual-in_err-use_item-in-Stream.ensures.1 c.use_item.ensures.damaged

-- It makes no step where it is refused.

pub returns-in_err-asked-clause-spares : goal.returns-in_err-asked-clause-spares
returns-in_err-asked-clause-spares g c =
    any-err c.from_residual.result _
    (stayed-spares (HoldsState c.args.self.now) (g.F.Folder.told c.args.folder.now) (g.F.Folder.told c.ask_stream.new.folder) c.args.moment (to_read c.args.handle c.args.stream c.args.offset c.args.count)
    c.in_err-asked.ensures.reads.stays)

pub returns-in_err-use_item-in-Stream-clause-spares : goal.returns-in_err-use_item-in-Stream-clause-spares
returns-in_err-use_item-in-Stream-clause-spares g c =
    any-err c.from_residual-in_err-use_item-in-Stream.result _
    (read-spares c.args.self.now (g.F.Folder.told c.args.folder.now) (g.F.Folder.told c.ask_stream.new.folder) c.in_ok-asked.ensures.reads.stays c.args.moment c.args.handle c.args.stream c.args.offset c.args.count c.in-Stream.named
    (λ image there state k. subst (IsAsked state k.layout c.args.handle c.args.stream) c.in-Stream.is (c.in_ok-asked.ensures.asked image there state k))
    (g.F.Folder.told c.use_item.new.folder) c.use_item.result c.use_item.ensures.uses)
