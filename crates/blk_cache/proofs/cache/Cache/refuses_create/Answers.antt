use Rattle.std.proofs.Common.{[], Option, sym, subst, ◌∙◌}
use Rattle.blk_evict.specs.declared.looking.Live.{Live}
use Rattle.blk_evict.specs.Looking.{IsLive, IsLiveAt}
use Rattle.blk_cache.proofs.CreateRefusing.{create-early, create-exists, create-missing}
use Rattle.blk_cache.proofs.cache.Cache.refuses_create.Goals as goal

pub returns-in-Some-clause-refused : goal.returns-in-Some-clause-refused
returns-in-Some-clause-refused g c image there state moment k = create-early c.args.self.now state image k moment c.args.handle c.args.key.now c.in-Some.why (sym c.refuses_open.ensures ∙ c.in-Some.is)

pub returns-in-Some-2-clause-refused : goal.returns-in-Some-2-clause-refused
returns-in-Some-2-clause-refused g c image there state moment k =
    let found : IsLiveAt state k.layout c.args.key.now c.in-Some-2.field-0 = subst (λ (o : Option Live). IsLive state k.layout c.args.key.now o) c.in-Some-2.is (c.in_ok-find_live.ensures.live image there state k.layout [] k.kept.entries) in
    create-exists c.args.self.now state image k moment c.args.handle c.args.key.now (sym c.refuses_open.ensures ∙ c.in_default.is) found.number found.is

pub returns-in-None-clause-refused : goal.returns-in-None-clause-refused
returns-in-None-clause-refused g c image there state moment k =
    create-missing c.args.self.now state image k moment c.args.handle c.args.key.now (sym c.refuses_open.ensures ∙ c.in_default.is)
    (subst (λ (o : Option Live). IsLive state k.layout c.args.key.now o) c.in-None.is (c.in_ok-find_live.ensures.live image there state k.layout [] k.kept.entries))
