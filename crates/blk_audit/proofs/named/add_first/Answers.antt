use Rattle.std.proofs.Common.{◌≡◌, ℕ, Option, sym, ap, subst, ◌∙◌, not}
use Rattle.std.specs.Prelude.{MatchOption}
use Rattle.blk_addr.specs.Claims.{Adds, is_claimed}
use Rattle.blk_addr.specs.declared.no_memory.NoMemory.{NoMemory}
use Rattle.blk_audit.specs.ReadLists.{IsMore}
use Rattle.blk_audit.proofs.ReadNodes.{claimed_more}
use Rattle.blk_audit.proofs.named.add_first.Goals as goal

pub returns : goal.returns
returns c =
    subst (λ (o : Option ℕ). MatchOption o (c.add.new.self ≡ c.args.named.now) (IsMore c.args.named.now c.add.new.self)) (sym c.in-Some.is)
    (claimed_more {E = NoMemory} c.args.named.now c.add.new.self c.in-Some.entry c.in_ok-add.field-0
    (c.in_ok-add.ensures.told ∙ ap (λ (w : ℕ). not (is_claimed c.args.named.now w)) c.first_of_record.ensures)
    (λ e. subst (Adds c.args.named.now c.add.new.self) c.first_of_record.ensures (c.in_ok-add.ensures.added e))
    c.in_ok-add.ensures.kept)
