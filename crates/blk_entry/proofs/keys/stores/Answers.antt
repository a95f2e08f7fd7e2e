use Rattle.std.proofs.Common.{◌≡◌, ◌≢◌, ℕ, Bool, true, false, sym, ◌∙◌, ap, arith}
use Rattle.std.specs.Prelude.{◌==◌, ◌&&◌, ◌||◌}
use Rattle.std.proofs.lemmas.Bool.{eqb-true}
use Rattle.std.proofs.lemmas.Bool.Decides.{nat_tests}
use Rattle.spec_format.specs.Address.{kind_of, block_count, external}
use Rattle.spec_format.specs.Storage.{kind_for, blocks_for}
use Rattle.blk_disk.specs.Tables.{stands_among}
use Rattle.blk_disk.proofs.Standings.{count_is}
use Rattle.blk_entry.proofs.KeyPlaces.{of_other, stores_is, stores_stand, stores_none}
use Rattle.blk_entry.proofs.keys.stores.Goals as goal

pub returns-then-not-is_of : goal.returns-then-not-is_of
returns-then-not-is_of c =
    let t : (kind_of c.args.addr == kind_for c.args.size) ≡ false = ap (λ (k : ℕ). kind_of c.args.addr == k) (sym c.kind_for.ensures) ∙ sym c.is_of.ensures ∙ c.if-not-is_of.true in
    sym (stores_is c.args.files.now c.args.size c.args.addr c.requires.address c.requires.some
    ∙ ap (λ (b : Bool). b && ((kind_of c.args.addr == external) || ((block_count c.args.addr == blocks_for c.args.size) && stands_among c.args.files.now c.args.addr))) t)

pub returns-then-is_of : goal.returns-then-is_of
returns-then-is_of c =
    let t : (kind_of c.args.addr == kind_for c.args.size) ≡ true = ap (λ (k : ℕ). kind_of c.args.addr == k) (sym c.kind_for.ensures) ∙ sym c.is_of.ensures ∙ c.if-not-is_of.false in
    let t2 : (kind_of c.args.addr == external) ≡ true = sym c.is_of-2.ensures ∙ c.if-is_of.true in
    c.if-is_of.true ∙ sym (stores_is c.args.files.now c.args.size c.args.addr c.requires.address c.requires.some
    ∙ ap (λ (b : Bool). b && ((kind_of c.args.addr == external) || ((block_count c.args.addr == blocks_for c.args.size) && stands_among c.args.files.now c.args.addr))) t
    ∙ ap (λ (b : Bool). b || ((block_count c.args.addr == blocks_for c.args.size) && stands_among c.args.files.now c.args.addr)) t2)

pub returns-then-blocks-blocks_for : goal.returns-then-blocks-blocks_for
returns-then-blocks-blocks_for c =
    let k : kind_of c.args.addr ≡ kind_for c.args.size = eqb-true (kind_of c.args.addr) (kind_for c.args.size) (ap (λ (k : ℕ). kind_of c.args.addr == k) (sym c.kind_for.ensures) ∙ sym c.is_of.ensures ∙ c.if-not-is_of.false) in
    let block_kind : kind_of c.args.addr ≢ external = of_other (kind_of c.args.addr) external (sym c.is_of-2.ensures ∙ c.if-is_of.false) in
    let count = count_is c.args.addr c.blocks-else-is_of.result block_kind c.blocks-else-is_of.ensures in
    let n : block_count c.args.addr ≡ blocks_for c.args.size = sym count ∙ c.if-blocks-blocks_for.true ∙ c.blocks_for.ensures in
    c.stands.ensures.among ∙ sym (stores_stand c.args.files.now c.args.size c.args.addr c.requires.address c.requires.some k block_kind n)

pub returns-else-blocks-blocks_for : goal.returns-else-blocks-blocks_for
returns-else-blocks-blocks_for c =
    let block_kind : kind_of c.args.addr ≢ external = of_other (kind_of c.args.addr) external (sym c.is_of-2.ensures ∙ c.if-is_of.false) in
    let count = count_is c.args.addr c.blocks-else-is_of.result block_kind c.blocks-else-is_of.ensures in
    let n : block_count c.args.addr ≢ blocks_for c.args.size = λ e. c.if-blocks-blocks_for.false (count ∙ e ∙ sym c.blocks_for.ensures) in
    let other : c.blocks-else-is_of.result ≢ c.blocks_for.result = c.if-blocks-blocks_for.false in
    let t : (c.blocks-else-is_of.result == c.blocks_for.result) ≡ false = grind (arith, nat_tests) in
    t ∙ sym (stores_none c.args.files.now c.args.size c.args.addr c.requires.address c.requires.some block_kind n)
