use Rattle.std.proofs.Common.{◌≡◌, ◌≢◌, ◌∙◌, ◌+◌, ℕ, Bool, true, false, ◌&&◌, sym, ap, ap₂, subst, arith, IsTrue}
use Rattle.std.specs.Prelude.{◌==◌, nat_lt}
use Rattle.std.proofs.lemmas.Bool.{eq-eqb}
use Rattle.std.proofs.lemmas.Bool.Decides.{nat_tests}
use Rattle.spec_format.specs.Address.{block_count, external, file_selector, first_block, is_address, kind_of}
use Rattle.spec_format.specs.Claims.{claims_of, overlap}
use Rattle.blk_addr.proofs.AddressFields.{address_above_0}
use Rattle.blk_addr.proofs.MeetLemmas.{blocks_apart, blocks_meet, external_apart, externals_meet, file_block, file_external, file_index, no_file_block, no_file_external}
use Rattle.blk_addr.proofs.meeting.meet.Goals as goal

-- an address isn't the word 0
above_0 : (word w : ℕ) → word ≡ w → IsTrue (is_address word) → w ≢ 0
above_0 word w is address = address_above_0 w (subst (λ (v : ℕ). IsTrue (is_address v)) is address)

differs : (a b : ℕ) → (a ≡ b → ⊥) → (a == b) ≡ false
differs a b other = grind (arith, nat_tests)

pub runs_meet-requires-clause-one : goal.runs_meet-requires-clause-one
runs_meet-requires-clause-one c = (file_block c.args.addr c.in-Block-Block.file (sym c.file.ensures ∙ c.in-Block-Block.is-0)).0

pub runs_meet-requires-clause-both : goal.runs_meet-requires-clause-both
runs_meet-requires-clause-both c = (file_block c.args.other c.in-Block-Block.of_other (sym c.file-2.ensures ∙ c.in-Block-Block.is-1)).0

pub returns-in-External-External : goal.returns-in-External-External
returns-in-External-External c =
    let one = file_external c.args.addr c.in-External-External.number (sym c.file.ensures ∙ c.in-External-External.is-0) in
    let other = file_external c.args.other c.in-External-External.of_other (sym c.file-2.ensures ∙ c.in-External-External.is-1) in
    sym (externals_meet c.args.addr c.args.other (above_0 c.word.result c.args.addr c.word.ensures.word c.word.ensures.address) (above_0 c.word-2.result c.args.other c.word-2.ensures.word c.word-2.ensures.address) one.0 other.0 ∙ ap₂ (λ (m n : ℕ). m == n) one.1 other.1)

-- runs of one file, and of two
one_file : (w v f g : ℕ) (t : Bool) → w ≢ 0 → v ≢ 0 → kind_of w ≢ external → kind_of v ≢ external → file_selector w ≡ f → file_selector v ≡ g → f ≡ g → t ≡ (nat_lt (first_block w) (first_block v + block_count v) && nat_lt (first_block v) (first_block w + block_count w))
    → t ≡ overlap (claims_of v) (claims_of w)
one_file w v f g t some_w some_v one other at_w at_v same is =
    let file : (file_selector w == file_selector v) ≡ true = eq-eqb _ _ (at_w ∙ same ∙ sym at_v) in
    is ∙ sym (blocks_meet w v some_w some_v one other ∙ ap (λ (b : Bool). b && (nat_lt (first_block w) (first_block v + block_count v) && nat_lt (first_block v) (first_block w + block_count w))) file)

two_files : (w v f g : ℕ) → w ≢ 0 → v ≢ 0 → kind_of w ≢ external → kind_of v ≢ external → file_selector w ≡ f → file_selector v ≡ g → (f ≡ g → ⊥) → false ≡ overlap (claims_of v) (claims_of w)
two_files w v f g some_w some_v one other at_w at_v apart =
    let file : (file_selector w == file_selector v) ≡ false = differs _ _ (λ e. apart (sym at_w ∙ e ∙ at_v)) in
    sym (blocks_meet w v some_w some_v one other ∙ ap (λ (b : Bool). b && (nat_lt (first_block w) (first_block v + block_count v) && nat_lt (first_block v) (first_block w + block_count w))) file)

pub returns-then-file-of_other : goal.returns-then-file-of_other
returns-then-file-of_other c =
    let one = file_block c.args.addr c.in-Block-Block.file (sym c.file.ensures ∙ c.in-Block-Block.is-0) in
    let other = file_block c.args.other c.in-Block-Block.of_other (sym c.file-2.ensures ∙ c.in-Block-Block.is-1) in
    one_file c.args.addr c.args.other c.in-Block-Block.file c.in-Block-Block.of_other c.runs_meet.result (above_0 c.word.result c.args.addr c.word.ensures.word c.word.ensures.address) (above_0 c.word-2.result c.args.other c.word-2.ensures.word c.word-2.ensures.address) one.0 other.0 one.1 other.1 c.if-file-of_other.true c.runs_meet.ensures

pub returns-else-file-of_other : goal.returns-else-file-of_other
returns-else-file-of_other c =
    let one = file_block c.args.addr c.in-Block-Block.file (sym c.file.ensures ∙ c.in-Block-Block.is-0) in
    let other = file_block c.args.other c.in-Block-Block.of_other (sym c.file-2.ensures ∙ c.in-Block-Block.is-1) in
    differs _ _ c.if-file-of_other.false ∙ two_files c.args.addr c.args.other c.in-Block-Block.file c.in-Block-Block.of_other (above_0 c.word.result c.args.addr c.word.ensures.word c.word.ensures.address) (above_0 c.word-2.result c.args.other c.word-2.ensures.word c.word-2.ensures.address) one.0 other.0 one.1 other.1 c.if-file-of_other.false

pub returns-in_default : goal.returns-in_default
returns-in_default c =
    let one = file_external c.args.addr c.in_default.field-0-0 (sym c.file.ensures ∙ c.in_default.is-0) in
    sym (external_apart c.args.addr c.args.other (above_0 c.word.result c.args.addr c.word.ensures.word c.word.ensures.address) (above_0 c.word-2.result c.args.other c.word-2.ensures.word c.word-2.ensures.address) one.0 (no_file_external c.args.other (λ n e. c.in_default.not-External-1 n (c.file-2.ensures ∙ e))))

pub returns-in_default-2 : goal.returns-in_default-2
returns-in_default-2 c =
    let one = file_block c.args.addr c.in_default.field-0-0 (sym c.file.ensures ∙ c.in_default.is-0) in
    sym (blocks_apart c.args.addr c.args.other (above_0 c.word.result c.args.addr c.word.ensures.word c.word.ensures.address) (above_0 c.word-2.result c.args.other c.word-2.ensures.word c.word-2.ensures.address) one.0 (no_file_block c.args.other (λ f e. c.in_default.not-Block-1 f (c.file-2.ensures ∙ e))))

pub returns-in_default-3 : goal.returns-in_default-3
returns-in_default-3 c = absurd (file_index c.args.addr (sym c.file.ensures ∙ c.in_default.is-0))
