use Rattle.std.proofs.Common.{◌≡◌, ◌∙◌, ℕ, drop, length, take, sym, ap}
use Rattle.std.specs.Prelude.{◌++◌}
use Rattle.std.proofs.Math.Seq.{take-append_seam}
use Rattle.spec_format.specs.Hash.{hash}
use Rattle.blk_audit.specs.Records.{fields_said}
use Rattle.blk_verdict.proofs.KeyFacts.{key_length}
use Rattle.blk_verdict.proofs.loading.read_sum.Goals as goal

pub returns-clause-sum : goal.returns-clause-sum
returns-clause-sum g c image there key is = c.super_fast_hash.ensures ∙ ap hash (c.in_ok-read_key.ensures.key image there key is)

pub returns-clause-key : goal.returns-clause-key
returns-clause-key g c image there key is =
    let read = c.in_ok-read_key.ensures.key image there key is in
    let len : length c.read_key.new.out ≡ c.args.words.now.key_len = ap length read ∙ key_length image c.args.entry (fields_said c.args.words.now) key is in
    ap (λ (n : ℕ). take n (c.read_key.new.out ++ drop c.args.words.now.key_len c.args.name.now)) (sym len) ∙ take-append_seam c.read_key.new.out (drop c.args.words.now.key_len c.args.name.now) ∙ read
