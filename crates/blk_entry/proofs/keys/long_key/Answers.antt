use Rattle.std.proofs.Common.{sym, ◌∙◌}
use Rattle.blk_entry.proofs.KeyPlaces.{not_held}
use Rattle.blk_entry.proofs.keys.long_key.Goals as goal

pub returns-in_err-addr : goal.returns-in_err-addr
returns-in_err-addr c = c.from_residual.ensures ∙ sym (not_held c.args.files.now c.args.key_len c.args.word (sym c.from_word.ensures ∙ c.in_err-addr.was))
