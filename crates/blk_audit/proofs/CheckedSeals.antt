-- A checksum that isn't 0 and passes the check is the hash of the bytes before it.
use Rattle.std.proofs.Common.{◌≡◌, ◌≢◌, ℕ, Bool, true, false, ◌||◌, List, refl, sym, ap, ◌∙◌, arith}
use Rattle.std.specs.Prelude.{◌==◌}
use Rattle.std.proofs.lemmas.Bool.{eqb-true}
use Rattle.spec_image.specs.Bytes.{content, word_at}
use Rattle.spec_format.specs.Records.{checks, entry_in, node_in, seal_of}
use Rattle.spec_format.specs.Sealed.{is_sealed, record_at, seal_by_kind, seal_place}
use Rattle.spec_format.proofs.SealedFields.{record_word}
use Rattle.spec_format.proofs.SealedRecords.{entry_bytes, entry_seal, node_bytes}
use Rattle.law_folder.proofs.updates.NodeRecords.{checks_bytes}
use Rattle.spec_folder.specs.View.{entry_at, node_at}
use Rattle.blk_audit.specs.SealLaws.{CheckedNodesAreSealed, CheckedRecordsAreSealed}
use Rattle.blk_audit.proofs.Shown.{checks_is}

second : (a b : Bool) → (a ≡ true → ⊥) → (a || b) ≡ true → b ≡ true
second true b none h = absurd (none refl)
second false b none h = h

-- bytes whose checksum isn't 0 and passes the check
sealed_by : (place : ℕ) (bytes : List ℕ) → word_at (content bytes) place ≢ 0 → checks place bytes ≡ true → is_sealed place bytes ≡ true
sealed_by place bytes some good = second (word_at (content bytes) place == 0) (word_at (content bytes) place == seal_of place bytes) (λ zero. some (eqb-true (word_at (content bytes) place) 0 zero)) good

node_seal : seal_by_kind 1 ≡ 32
unfolding seal_by_kind
node_seal = refl

pub records-sealed : CheckedRecordsAreSealed
unfolding entry_in
records-sealed image w small kind good some =
    let at : seal_place w ≡ 92 = entry_seal w kind in
    let here : word_at (content (record_at image w)) 92 ≡ (entry_at image w).self_hash = record_word image w 92 (let size = entry_bytes w kind in omega (arith, size)) in
    ap (λ (p : ℕ). is_sealed p (record_at image w)) at
    ∙ sealed_by 92 (record_at image w) (λ zero. some (sym here ∙ zero)) (sym (checks_is image w small kind) ∙ good)

pub nodes-sealed : CheckedNodesAreSealed
unfolding node_in
nodes-sealed image w small kind good some =
    let at : seal_place w ≡ 32 = ap seal_by_kind kind ∙ node_seal in
    let here : word_at (content (record_at image w)) 32 ≡ (node_at image w).self_hash = record_word image w 32 (let size = node_bytes w kind in omega (arith, size)) in
    ap (λ (p : ℕ). is_sealed p (record_at image w)) at
    ∙ sealed_by 32 (record_at image w) (λ zero. some (sym here ∙ zero)) (sym (checks_bytes image w small kind) ∙ good)
