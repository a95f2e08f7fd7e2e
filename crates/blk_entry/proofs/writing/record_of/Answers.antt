use Rattle.std.proofs.Common.{◌≡◌, ℕ, length, if◌then◌else◌, unwrap_or, ◌∙◌}
use Rattle.spec_image.specs.Bytes.{zeros}
use Rattle.spec_image.specs.Steps.{with_words}
use Rattle.spec_format.specs.Hash.{hash as hash_of}
use Rattle.spec_format.specs.Records.{child, plain}
use Rattle.spec_format.specs.Sealed.{sealed}
use Rattle.blk_entry.specs.Writing.{new_record}
use Rattle.blk_entry.proofs.NewRecords.{filled_record, plain_record, record_words}
use Rattle.blk_entry.proofs.writing.record_of.Goals as goal

pub returns-clause-bytes : goal.returns-clause-bytes
unfolding new_record plain_record record_words
returns-clause-bytes c =
    let m : ℕ = c.args.moment in
    let k : ℕ = length c.args.key.now in
    let l : ℕ = unwrap_or c.args.new.now.long_key 0 in
    let b : ℕ = if c.args.new.now.child then child else plain in
    let same : sealed 92 (with_words (record_words c.super_fast_hash.result c.args.new.now.next c.word.result m k c.word_of.result c.flags_of.result) (zeros 256)) ≡ sealed 92 (with_words (record_words (hash_of c.args.key.now) c.args.new.now.next c.args.new.now.node m k l b) (zeros 256)) =
    λ i. sealed 92 (with_words (record_words (c.super_fast_hash.ensures i) c.args.new.now.next (c.word.ensures.word i) m k (c.word_of.ensures i) (c.flags_of.ensures i)) (zeros 256)) in
    c.filled_record.ensures ∙ same ∙ filled_record (hash_of c.args.key.now) c.args.new.now.next c.args.new.now.node m k l b
