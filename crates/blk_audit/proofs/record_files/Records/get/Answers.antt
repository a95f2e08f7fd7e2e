use Rattle.std.proofs.Common.{◌≡◌, ℕ, Some, sym, subst, ◌∙◌}
use Rattle.std.specs.Prelude.{slice_get}
use Rattle.blk_audit.specs.Chaining.{first_block_of}
use Rattle.blk_audit.specs.Records.{IsSaidBy}
use Rattle.blk_audit.proofs.PiecesOfRecords.{listed, of_first}
use Rattle.blk_audit.proofs.record_files.Records.get.Goals as goal

pub returns-then-word : goal.returns-then-word
returns-then-word c image are =
    let here : slice_get c.args.self.now.placed.items c.place_of.result ≡ Some c.in-Some.placed = sym c.at.ensures ∙ c.in-Some.is in
    let same : c.in-Some.placed.first ≡ first_block_of c.args.addr = sym c.word-2.ensures.word ∙ c.if-word.true ∙ c.word-3.ensures.word ∙ c.first_of_record-first.ensures in
    of_first image c.args.addr c.in-Some.placed.said c.requires.kind
    (subst (λ (w : ℕ). IsSaidBy image w c.in-Some.placed.said) same (listed image c.args.self.now c.place_of.result c.in-Some.placed are here))
