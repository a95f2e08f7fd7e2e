use Rattle.std.proofs.Common.{◌≡◌, ◌∙◌, None, sym, ap}
use Rattle.blk_io.proofs.Carried.{carried}
use Rattle.blk_model.specs.Request.{to_list}
use Rattle.blk_model.specs.declared.Answer.TheVariants as answer
use Rattle.law_state.proofs.Stopping.{nothing-done, quiet-keep}
use Rattle.blk_object.proofs.DamageChecks.{handed, moved, short-checked}
use Rattle.blk_cache.specs.CacheKeeping.{HoldsState}
use Rattle.blk_cache.proofs.Ends.{kept-open}
use Rattle.blk_cache.proofs.ListedRows.{list-answer, rows-said}
use Rattle.blk_cache.proofs.cache.Cache.list.Goals as goal

pub returns-in_err-count-clause-untold : goal.returns-in_err-count-clause-untold
returns-in_err-count-clause-untold g c any =
    carried c.word.result c.from_residual.result c.in_err-count.field-0.0 (λ _. (g.F.Folder.told c.args.folder.now).files ≡ None) c.in_err-count.was c.from_residual.ensures.1
    (c.word.ensures.untold (λ image there. let one = any image there in (kept-open c.args.self.now one.0 image one.1).whole_index))

pub returns-clause-does : goal.returns-clause-does
returns-clause-does g c moment =
    nothing-done (HoldsState c.args.self.now) (g.F.Folder.told c.args.folder.now) (g.F.Folder.told c.word.new.f) moment to_list _ c.in_ok-count.ensures.reads.stays
    (λ image there state k.
    let q = quiet-keep state moment 0 0 in
    (q.0, ap answer.Listed (c.from.ensures ∙ c.in_ok-count.ensures.word image there ∙ rows-said state k.layout image k.kept) ∙ sym (list-answer state moment)))

pub returns-in_err-count-clause-cause : goal.returns-in_err-count-clause-cause
returns-in_err-count-clause-cause g c =
    handed c.word.result c.from_residual.result c.in_err-count.field-0.0 _ c.args.self.now.files (g.F.Folder.told c.word.new.f)
    (λ damage short. moved c.args.self.now.files (g.F.Folder.told c.args.folder.now) (g.F.Folder.told c.word.new.f) damage c.word.ensures.reads.stays (short-checked c.args.self.now.files (g.F.Folder.told c.args.folder.now) _ _ _ damage short))
    c.in_err-count.was c.from_residual.ensures.1 c.word.ensures.short
