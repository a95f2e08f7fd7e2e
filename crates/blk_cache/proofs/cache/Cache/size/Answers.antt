use Rattle.std.proofs.Common.{ℕ, sym, subst}
use Rattle.blk_model.specs.Request.{to_size}
use Rattle.blk_model.specs.declared.Answer.TheVariants as answer
use Rattle.law_state.specs.Commands.{Does}
use Rattle.blk_cache.specs.Asking.{IsAsked}
use Rattle.blk_cache.specs.CacheKeeping.{HoldsState}
use Rattle.blk_cache.proofs.Sizes.{size-does, size-refuses}
use Rattle.blk_cache.proofs.cache.Cache.size.Goals as goal

pub returns-in-Refused-clause-does : goal.returns-in-Refused-clause-does
returns-in-Refused-clause-does g c moment =
    size-refuses c.args.self.now (g.F.Folder.told c.args.folder.now) (g.F.Folder.told c.ask_stream.new.folder) c.in_ok-asked.ensures.reads.stays moment c.args.handle c.args.stream c.in-Refused.why
    (λ image there state k. subst (IsAsked state k.layout c.args.handle c.args.stream) c.in-Refused.is (c.in_ok-asked.ensures.asked image there state k))

pub returns-in-Stream-clause-does : goal.returns-in-Stream-clause-does
returns-in-Stream-clause-does g c moment =
    subst (λ (n : ℕ). Does (HoldsState c.args.self.now) (HoldsState c.args.self.now) (g.F.Folder.told c.args.folder.now) (g.F.Folder.told c.ask_stream.new.folder) moment (to_size c.args.handle c.args.stream) (answer.Size n)) (sym c.from.ensures)
    (size-does c.args.self.now (g.F.Folder.told c.args.folder.now) (g.F.Folder.told c.ask_stream.new.folder) c.in_ok-asked.ensures.reads.stays moment c.args.handle c.args.stream c.in-Stream.named
    (λ image there state k. subst (IsAsked state k.layout c.args.handle c.args.stream) c.in-Stream.is (c.in_ok-asked.ensures.asked image there state k)))
