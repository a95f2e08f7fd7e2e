use Rattle.std.proofs.Common.{◌≡◌, [], None, refl, sym, ◌∙◌, ap, subst}
use Rattle.std.specs.Option.{ForSome}
use Rattle.spec_image.specs.Told.{Told}
use Rattle.blk_io.proofs.Carried.{carried, if_damaged_weaker}
use Rattle.blk_model.specs.declared.Refusal.TheVariants as refusal
use Rattle.blk_disk.specs.Open.{IsOpen}
use Rattle.blk_print.proofs.PresentRanges.{by-files}
use Rattle.blk_chain.proofs.Heads.{names-parts}
use Rattle.law_state.proofs.Stopping.{nothing-stops}
use Rattle.blk_cache.specs.CacheKeeping.{HoldsState}
use Rattle.blk_cache.specs.CommandClauses.{IsRefused}
use Rattle.blk_cache.specs.SparseAsking.{FindsInside, IsAmongFiles, IsAskedSparse, early_sparse_refusal}
use Rattle.blk_cache.specs.SparseReading.{to_use_sparse}
use Rattle.blk_cache.proofs.Refusing.{says-kept}
use Rattle.blk_cache.proofs.SparseAsks.{nothing-early}
use Rattle.blk_cache.proofs.SparseUses.{four-refuse, plain-refused, run-told, sparse-does, sparse-parent, sparse-refuses, sparse-stops, sparse-spares}
use Rattle.blk_cache.proofs.Sparing.{any-err, stayed-spares}
use Rattle.blk_cache.proofs.cache.Cache.use_sparse.Goals as goal

-- Refused, or the record can't be read.

pub returns-in_err-asked-clause-stops : goal.returns-in_err-asked-clause-stops
returns-in_err-asked-clause-stops g c =
    nothing-stops (HoldsState c.args.self.now) (says-kept c.args.self.now) (g.F.Folder.told c.args.folder.now) (g.F.Folder.told c.ask_sparse.new.folder) c.args.moment (to_use_sparse c.args.wanted c.args.handle c.args.offset c.args.count) c.in_err-asked.ensures.reads.stays

pub returns-in_err-asked-clause-is_open : goal.returns-in_err-asked-clause-is_open
returns-in_err-asked-clause-is_open g c = subst (λ (t : Told). ForSome t.files (IsOpen c.args.self.now.files)) (sym c.in_err-asked.ensures.reads.stays) c.requires.is_open

pub returns-in-Refused-clause-does : goal.returns-in-Refused-clause-does
returns-in-Refused-clause-does g c =
    sparse-refuses c.args.self.now (g.F.Folder.told c.args.folder.now) (g.F.Folder.told c.ask_sparse.new.folder) c.in_ok-asked.ensures.reads.stays c.args.moment c.args.handle c.args.offset c.args.count c.args.wanted c.in-Refused.why
    (λ image there state k. four-refuse state c.args.moment c.args.handle c.args.offset c.args.count c.args.wanted c.in-Refused.why (subst (IsAskedSparse state k.layout c.args.handle c.args.offset c.args.count) c.in-Refused.is (c.in_ok-asked.ensures.asked image there state k)))

pub returns-in-Refused-clause-stops : goal.returns-in-Refused-clause-stops
returns-in-Refused-clause-stops g c =
    nothing-stops (HoldsState c.args.self.now) (says-kept c.args.self.now) (g.F.Folder.told c.args.folder.now) (g.F.Folder.told c.ask_sparse.new.folder) c.args.moment (to_use_sparse c.args.wanted c.args.handle c.args.offset c.args.count) c.in_ok-asked.ensures.reads.stays

pub returns-in-Refused-clause-is_open : goal.returns-in-Refused-clause-is_open
returns-in-Refused-clause-is_open g c = subst (λ (t : Told). ForSome t.files (IsOpen c.args.self.now.files)) (sym c.in_ok-asked.ensures.reads.stays) c.requires.is_open

pub returns-in-Plain-clause-does : goal.returns-in-Plain-clause-does
returns-in-Plain-clause-does g c =
    sparse-refuses c.args.self.now (g.F.Folder.told c.args.folder.now) (g.F.Folder.told c.ask_sparse.new.folder) c.in_ok-asked.ensures.reads.stays c.args.moment c.args.handle c.args.offset c.args.count c.args.wanted refusal.NotSparse
    (λ image there state k. plain-refused state c.args.moment c.args.handle c.args.offset c.args.count c.args.wanted k.layout c.in-Plain.field-0 (subst (IsAskedSparse state k.layout c.args.handle c.args.offset c.args.count) c.in-Plain.is (c.in_ok-asked.ensures.asked image there state k)))

pub returns-in-Plain-clause-stops : goal.returns-in-Plain-clause-stops
returns-in-Plain-clause-stops g c =
    nothing-stops (HoldsState c.args.self.now) (says-kept c.args.self.now) (g.F.Folder.told c.args.folder.now) (g.F.Folder.told c.ask_sparse.new.folder) c.args.moment (to_use_sparse c.args.wanted c.args.handle c.args.offset c.args.count) c.in_ok-asked.ensures.reads.stays

pub returns-in-Plain-clause-is_open : goal.returns-in-Plain-clause-is_open
returns-in-Plain-clause-is_open g c = subst (λ (t : Told). ForSome t.files (IsOpen c.args.self.now.files)) (sym c.in_ok-asked.ensures.reads.stays) c.requires.is_open

pub returns-in-Plain-clause-refuses : goal.returns-in-Plain-clause-refuses
returns-in-Plain-clause-refuses g c =
    let inside = subst (FindsInside (early_sparse_refusal c.args.self.now.handles c.args.handle c.args.offset c.args.count) c.args.offset c.args.count) c.in-Plain.is c.in_ok-asked.ensures.inside in
    nothing-early c.args.self.now.handles c.args.handle c.args.offset c.args.count _ inside.passes

-- The accesses.

pub use_range-requires-clause-kind : goal.use_range-requires-clause-kind
use_range-requires-clause-kind g c = (names-parts c.args.self.now.files c.in-Parent.parent.entry (subst (IsAmongFiles c.args.self.now.files) c.in-Parent.is c.in_ok-asked.ensures.stands).1.0).1.0

pub use_range-requires-clause-stands : goal.use_range-requires-clause-stands
use_range-requires-clause-stands g c = (names-parts c.args.self.now.files c.in-Parent.parent.entry (subst (IsAmongFiles c.args.self.now.files) c.in-Parent.is c.in_ok-asked.ensures.stands).1.0).1.1

pub use_range-requires-clause-signature : goal.use_range-requires-clause-signature
use_range-requires-clause-signature g c = (subst (IsAmongFiles c.args.self.now.files) c.in-Parent.is c.in_ok-asked.ensures.stands).1.1

pub use_range-requires-clause-few : goal.use_range-requires-clause-few
use_range-requires-clause-few g c = (subst (FindsInside (early_sparse_refusal c.args.self.now.handles c.args.handle c.args.offset c.args.count) c.args.offset c.args.count) c.in-Parent.is c.in_ok-asked.ensures.inside).few

pub use_range-requires-clause-inside : goal.use_range-requires-clause-inside
use_range-requires-clause-inside g c = (subst (FindsInside (early_sparse_refusal c.args.self.now.handles c.args.handle c.args.offset c.args.count) c.args.offset c.args.count) c.in-Parent.is c.in_ok-asked.ensures.inside).inside

pub use_range-requires-clause-is_open : goal.use_range-requires-clause-is_open
use_range-requires-clause-is_open g c = subst (λ (t : Told). ForSome t.files (IsOpen c.args.self.now.files)) (sym c.in_ok-asked.ensures.reads.stays) c.requires.is_open

pub returns-in_err-found-in-Parent-clause-stops : goal.returns-in_err-found-in-Parent-clause-stops
returns-in_err-found-in-Parent-clause-stops g c = sparse-stops c.args.self.now (g.F.Folder.told c.args.folder.now) (g.F.Folder.told c.ask_sparse.new.folder) (g.F.Folder.told c.use_range.new.folder) c.in_ok-asked.ensures.reads.stays c.args.moment c.args.handle c.args.offset c.args.count c.args.wanted c.in-Parent.parent (λ image there state k. subst (IsAskedSparse state k.layout c.args.handle c.args.offset c.args.count) c.in-Parent.is (c.in_ok-asked.ensures.asked image there state k)) c.use_range.ensures.stops

pub returns-in_err-found-in-Parent-clause-refuses : goal.returns-in_err-found-in-Parent-clause-refuses
returns-in_err-found-in-Parent-clause-refuses g c =
    let inside = subst (FindsInside (early_sparse_refusal c.args.self.now.handles c.args.handle c.args.offset c.args.count) c.args.offset c.args.count) c.in-Parent.is c.in_ok-asked.ensures.inside in
    nothing-early c.args.self.now.handles c.args.handle c.args.offset c.args.count _ inside.passes

pub returns-in_err-found-in-Parent-clause-untold : goal.returns-in_err-found-in-Parent-clause-untold
returns-in_err-found-in-Parent-clause-untold g c any =
    let same = ap (λ (t : Told). t.files) c.in_ok-asked.ensures.reads.stays in
    by-files c.from_residual-in_err-found-in-Parent.result (g.F.Folder.told c.args.folder.now).files (λ image there.
    let at = same ∙ there in
    let one = any image there in
    let p = sparse-parent c.args.self.now (g.F.Folder.told c.args.folder.now) (g.F.Folder.told c.ask_sparse.new.folder) (g.F.Folder.told c.use_range.new.folder) c.in_ok-asked.ensures.reads.stays c.args.moment c.args.handle c.args.offset c.args.count c.args.wanted c.in-Parent.parent (λ image there state k. subst (IsAskedSparse state k.layout c.args.handle c.args.offset c.args.count) c.in-Parent.is (c.in_ok-asked.ensures.asked image there state k)) image at one.0 one.1 in
    carried c.use_range.result c.from_residual-in_err-found-in-Parent.result c.in_err-found-in-Parent.field-0.0 (λ _. (g.F.Folder.told c.args.folder.now).files ≡ None) c.in_err-found-in-Parent.was c.from_residual-in_err-found-in-Parent.ensures.1
    (if_damaged_weaker c.use_range.result _ _ (λ damage none. sym same ∙ none)
    (c.use_range.ensures.untold image at one.0 one.1.layout [] p.0 p.1.0 p.1.1)))

pub returns-in_ok-found-in-Parent-clause-does : goal.returns-in_ok-found-in-Parent-clause-does
returns-in_ok-found-in-Parent-clause-does g c =
    rw c.told_of_run.ensures
    (sparse-does c.args.self.now (g.F.Folder.told c.args.folder.now) (g.F.Folder.told c.ask_sparse.new.folder) (g.F.Folder.told c.use_range.new.folder) c.in_ok-asked.ensures.reads.stays c.args.moment c.args.handle c.args.offset c.args.count c.args.wanted c.in-Parent.parent (λ image there state k. subst (IsAskedSparse state k.layout c.args.handle c.args.offset c.args.count) c.in-Parent.is (c.in_ok-asked.ensures.asked image there state k)) _ (record { limits = refl; items = refl; bytes = refl; open_bytes = refl; handles = refl; files = refl; mark = refl; notes = refl }) c.in_ok-found-in-Parent.ensures.is_open c.in_ok-found-in-Parent.found c.in_ok-found-in-Parent.ensures.run c.in_ok-found-in-Parent.ensures.used)

pub returns-in_ok-found-in-Parent-clause-stops : goal.returns-in_ok-found-in-Parent-clause-stops
returns-in_ok-found-in-Parent-clause-stops g c = sparse-stops c.args.self.now (g.F.Folder.told c.args.folder.now) (g.F.Folder.told c.ask_sparse.new.folder) (g.F.Folder.told c.use_range.new.folder) c.in_ok-asked.ensures.reads.stays c.args.moment c.args.handle c.args.offset c.args.count c.args.wanted c.in-Parent.parent (λ image there state k. subst (IsAskedSparse state k.layout c.args.handle c.args.offset c.args.count) c.in-Parent.is (c.in_ok-asked.ensures.asked image there state k)) c.use_range.ensures.stops

pub returns-in_ok-found-in-Parent-clause-refuses : goal.returns-in_ok-found-in-Parent-clause-refuses
returns-in_ok-found-in-Parent-clause-refuses g c =
    let inside = subst (FindsInside (early_sparse_refusal c.args.self.now.handles c.args.handle c.args.offset c.args.count) c.args.offset c.args.count) c.in-Parent.is c.in_ok-asked.ensures.inside in
    nothing-early c.args.self.now.handles c.args.handle c.args.offset c.args.count _ inside.passes

pub returns-in_ok-found-in-Parent-clause-quiet : goal.returns-in_ok-found-in-Parent-clause-quiet
returns-in_ok-found-in-Parent-clause-quiet g c r = absurd (run-told c.args.wanted c.args.offset (c.in_ok-found-in-Parent.found.0, c.in_ok-found-in-Parent.found.1) (subst IsRefused c.told_of_run.ensures r))

pub returns-in_ok-found-in-Parent-clause-unchanged : goal.returns-in_ok-found-in-Parent-clause-unchanged
returns-in_ok-found-in-Parent-clause-unchanged g c r = absurd (run-told c.args.wanted c.args.offset (c.in_ok-found-in-Parent.found.0, c.in_ok-found-in-Parent.found.1) (subst IsRefused c.told_of_run.ensures r))

-- It makes no step where it is refused.

pub returns-in_err-asked-clause-spares : goal.returns-in_err-asked-clause-spares
returns-in_err-asked-clause-spares g c =
    any-err c.from_residual.result _
    (stayed-spares (HoldsState c.args.self.now) (g.F.Folder.told c.args.folder.now) (g.F.Folder.told c.ask_sparse.new.folder) c.args.moment (to_use_sparse c.args.wanted c.args.handle c.args.offset c.args.count)
    c.in_err-asked.ensures.reads.stays)

pub returns-in_err-found-in-Parent-clause-spares : goal.returns-in_err-found-in-Parent-clause-spares
returns-in_err-found-in-Parent-clause-spares g c =
    any-err c.from_residual-in_err-found-in-Parent.result _
    (sparse-spares c.args.self.now (g.F.Folder.told c.args.folder.now) (g.F.Folder.told c.ask_sparse.new.folder) (g.F.Folder.told c.use_range.new.folder) c.in_ok-asked.ensures.reads.stays c.args.moment c.args.handle c.args.offset c.args.count c.args.wanted
    c.in-Parent.parent (λ image there state k. subst (IsAskedSparse state k.layout c.args.handle c.args.offset c.args.count) c.in-Parent.is (c.in_ok-asked.ensures.asked image there state k)))
