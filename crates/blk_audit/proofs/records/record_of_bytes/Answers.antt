use Rattle.std.proofs.Common.{◌≡◌, ℕ, ◌-◌, List, Bool, drop, take, length, ap₂, ◌∙◌, arith}
use Rattle.std.proofs.lemmas.List.{length-drop, take_all}
use Rattle.blk_audit.specs.Records.{is_hash_in}
use Rattle.blk_audit.specs.declared.record_words.RecordWords.{RecordWords}
use Rattle.blk_audit.specs.declared.records.ReadRecord.{ReadRecord}
use Rattle.blk_audit.proofs.records.record_of_bytes.Goals as goal

read_as : RecordWords → Bool → ReadRecord
read_as words right = record { words = words; hash_is_right = right }

pub returns : goal.returns
unfolding read_as
returns c =
    let rest : List ℕ = drop 96 c.args.bytes.now in
    let behind = length-drop 96 c.args.bytes.now in
    let whole : take (length c.args.bytes.now - 96) rest ≡ rest = take_all (length c.args.bytes.now - 96) rest (omega (arith, behind)) in
    ap₂ read_as c.words_of-words.ensures (c.is_hash_of_key-hash_is_right.ensures ∙ ap₂ (λ (words : RecordWords) (l : List ℕ). is_hash_in words.hash words.key_len l) c.words_of-words.ensures whole)
