use Rattle.std.proofs.Common.{◌≡◌, ◌+◌, ℕ, List, Bool, true, false, None, Some, if◌then◌else◌, inr, length, ap, sym, subst, ◌∙◌, arith, refl}
use Rattle.spec_image.specs.Bytes.{content, word_at}
use Rattle.spec_format.specs.Records.{checks}
use Rattle.spec_format.specs.Sealed.{seal_place}
use Rattle.blk_disk.specs.Unsealed.{IsUnsealed, wrong_seal}
use Rattle.spec_format.specs.Sealed.{seal_by_kind}
use Rattle.blk_disk.proofs.Ranges.{stands_blocky, name_is}
use Rattle.spec_format.proofs.SealedRecords.{record_inside}
use Rattle.blk_disk.proofs.SealedReads.{record_read, unsealed_is, untold_unsealed}
use Rattle.blk_disk.proofs.tables.BlockFiles.read_record.Given as given
use Rattle.blk_disk.proofs.tables.BlockFiles.read_record.Goals as goal

pub read_block-requires-clause-inside : goal.read_block-requires-clause-inside
read_block-requires-clause-inside g c = let inside = record_inside c.args.addr c.requires.begins in omega (arith, inside, c.requires.size)

pub returns-in_default-clause-bytes : goal.returns-in_default-clause-bytes
returns-in_default-clause-bytes g c image there = record_read image c.args.addr (length c.args.bytes.now) c.read_block.new.out c.requires.size (c.in_ok-read_block.ensures.bytes image there)

unsealed_here : (g : given.Over) (c : goal.After-from g) → IsUnsealed (g.F.Folder.told c.args.folder.now) c.args.addr (record { file = c.file_of-file.result; at = c.place_of.result + c.from.result; found = c.in-Some.found })
unsealed_here g c =
    unsealed_is (g.F.Folder.told c.args.folder.now) c.args.addr c.from.result c.in-Some.found c.read_block.new.out _
    (c.from.ensures ∙ c.seal_of.ensures.place ∙ ap seal_by_kind c.kind-2.ensures)
    (ap (λ (s : ℕ). wrong_seal s c.read_block.new.out) (c.from.ensures ∙ c.seal_of.ensures.place ∙ ap seal_by_kind (c.kind-2.ensures ∙ sym c.kind.ensures)) ∙ sym c.wrong_seal.ensures ∙ c.in-Some.is)
    (name_is c.args.addr c.file_of-file.result (stands_blocky c.args.self.now c.args.addr c.requires.stands) c.file_of-file.ensures)
    (ap (λ (n : ℕ). n + c.from.result) c.place_of.ensures.place)
    refl
    (λ image there. record_read image c.args.addr (length c.args.bytes.now) c.read_block.new.out c.requires.size (c.in_ok-read_block.ensures.bytes image there))

pub returns-clause-damaged : goal.returns-clause-damaged
returns-clause-damaged g c = inr (unsealed_here g c)

pub returns-clause-untold : goal.returns-clause-untold
returns-clause-untold g c agrees checks = untold_unsealed _ _ _ (unsealed_here g c) checks

-- a record whose checksum isn't wrong has one that matches or is absent
right_seal : (seal : ℕ) (bytes : List ℕ) → wrong_seal seal bytes ≡ None → checks seal bytes ≡ true
right_seal seal bytes none = by_test (checks seal bytes) refl
  where
    clash : (w : ℕ) → Some w ≡ None → ⊥
    clash w e = cc

    by_test : (t : Bool) → checks seal bytes ≡ t → checks seal bytes ≡ true
    by_test true e = e
    by_test false e = absurd (clash (word_at (content bytes) seal) (sym (ap (λ (t : Bool). if t then None else Some (word_at (content bytes) seal)) e) ∙ none))

pub returns-in_default-clause-checked : goal.returns-in_default-clause-checked
returns-in_default-clause-checked g c image there =
    let same = record_read image c.args.addr (length c.args.bytes.now) c.read_block.new.out c.requires.size (c.in_ok-read_block.ensures.bytes image there) in
    subst (λ (bytes : List ℕ). checks (seal_place c.args.addr) bytes ≡ true) same
    (right_seal (seal_place c.args.addr) c.read_block.new.out (ap (λ (s : ℕ). wrong_seal s c.read_block.new.out) (ap seal_by_kind (sym c.kind.ensures)) ∙ sym c.wrong_seal.ensures ∙ c.in_default.is))
