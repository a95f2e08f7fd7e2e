use Rattle.std.proofs.Common.{sym, ◌∙◌}
use Rattle.blk_verdict.proofs.Stored.{not_address}
use Rattle.blk_verdict.proofs.storage.storage.Goals as goal

pub returns-in_err-addr : goal.returns-in_err-addr
returns-in_err-addr c = c.from_residual.ensures ∙ sym (not_address c.args.files.now c.args.size c.args.word c.requires (sym c.from_word.ensures ∙ c.in_err-addr.was))
