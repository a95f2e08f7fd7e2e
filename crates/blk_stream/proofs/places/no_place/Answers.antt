use Rattle.std.proofs.Common.{◌+◌, ◌∙◌, ap, inr, ℕ, arith}
use Rattle.spec_format.specs.Address.{place}
use Rattle.blk_entry.proofs.KeyPlaces.{err_damaged}
use Rattle.blk_stream.specs.declared.places.Stored.{Stored}
use Rattle.blk_stream.specs.Streams.{IsMisplacedStreamBy}
use Rattle.blk_stream.proofs.StreamPlaces.{none_kept, none_stores, none_word}
use Rattle.blk_stream.proofs.places.no_place.Goals as goal

pub returns-then-word-ne0-clause-right : goal.returns-then-word-ne0-clause-right
returns-then-word-ne0-clause-right c may = absurd (c.if-word-ne0.true (none_word c.args.files.now c.args.word may))

pub returns-then-word-ne0-clause-damaged : goal.returns-then-word-ne0-clause-damaged
returns-then-word-ne0-clause-damaged c =
    let damage = c.record_damage.ensures in
    err_damaged Stored c.record_damage.result damage.damage (IsMisplacedStreamBy c.args.files.now c.args.entry c.args.stream 0 c.args.word) damage.is
    (inr (omega arith, none_stores c.args.files.now c.args.word c.if-word-ne0.true, record { of_file = damage.word.of_file; at_place = damage.word.at_place ∙ ap (λ (n : ℕ). place c.args.entry + n) c.addr_at.ensures; of_word = damage.word.of_word }))

pub returns-clause-keeps : goal.returns-clause-keeps
returns-clause-keeps c = none_kept c.args.files.now c.args.word c.if-word-ne0.false
