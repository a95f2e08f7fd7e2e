use Rattle.std.proofs.Common.{ℕ, ◌≡◌, ◌∙◌, ap, subst, Some}
use Rattle.blk_model.specs.Request.{request_of}
use Rattle.blk_gen.specs.Counting.{AreLong, with_answer}
use Rattle.blk_cache.specs.CacheKeeping.{KeepsState}
use Rattle.blk_run.specs.Generating.{evicted_by}
use Rattle.blk_run.proofs.CountedTurns.{asks_done, asks_fails, counted_is}
use Rattle.blk_run.proofs.Reading.{reads_map}
use Rattle.blk_run.proofs.generating.ask_counted.Goals as goal

pub returns-in_err-answer-clause-asked : goal.returns-in_err-answer-clause-asked
returns-in_err-answer-clause-asked g c =
    reads_map c.in_err-answer.ensures.asked (λ early late was far left at.
    asks_fails (request_of c.args.command.now) c.args.counts.now c.args.counts.now far (KeepsState c.ask_unshown.new.cache) c.ask_unshown.new.cache.notes left (g.F.Folder.told c.args.folder.now) (g.F.Folder.told c.ask_unshown.new.folder) (Some early) (Some late)
    c.in_err-answer.field-0.0 (was far left at) c.in_err-answer.ensures.no_sink c.from_residual.result c.from_residual.ensures.1)

pub returns-clause-asked : goal.returns-clause-asked
returns-clause-asked g c =
    reads_map c.in_ok-answer.ensures.asked (λ early late was far left at.
    let asked = was far left at in
    let told : c.evicted_by.result ≡ evicted_by (request_of c.args.command.now) c.in_ok-answer.answer c.args.cache.now.items c.ask_unshown.new.cache.items =
    c.evicted_by.ensures
    ∙ ap (λ (n : ℕ). evicted_by (request_of c.args.command.now) c.in_ok-answer.answer n c.items_of-after.result) c.items_of-before.ensures
    ∙ ap (λ (n : ℕ). evicted_by (request_of c.args.command.now) c.in_ok-answer.answer c.args.cache.now.items n) c.items_of-after.ensures in
    asks_done (request_of c.args.command.now) c.args.counts.now c.count.new.self far (KeepsState c.ask_unshown.new.cache) c.ask_unshown.new.cache.notes left (g.F.Folder.told c.args.folder.now) (g.F.Folder.told c.ask_unshown.new.folder) (Some early) (Some late)
    c.in_ok-answer.answer asked
    (counted_is far c.args.cache.now c.ask_unshown.new.cache c.args.cache.now.notes c.ask_unshown.new.cache.notes left (g.F.Folder.told c.args.folder.now) (g.F.Folder.told c.ask_unshown.new.folder) asked.moment (request_of c.args.command.now) c.requires.asked at asked.plays.stands
    c.in_ok-answer.answer asked.answered c.args.counts.now c.count.new.self
    (subst (λ (n : ℕ). AreLong (with_answer c.in_ok-answer.answer n c.args.counts.now) → c.count.new.self ≡ with_answer c.in_ok-answer.answer n c.args.counts.now) told c.count.ensures.exact)))
