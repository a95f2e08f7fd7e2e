use Rattle.std.proofs.Common.{◌≡◌, ◌≢◌, ◌⊎◌, ℕ, length, sym, ◌∙◌, ap, subst, arith}
use Rattle.std.proofs.lemmas.Bool.{eqb-true}
use Rattle.std.proofs.lemmas.Result.{on_ok_weaker}
use Rattle.spec_image.specs.Bytes.{range_at}
use Rattle.spec_image.specs.Image.{External, HasRange, byte}
use Rattle.spec_format.specs.Address.{kind_of, external, external_number}
use Rattle.blk_io.proofs.Carried.{if_damaged_weaker}
use Rattle.blk_external.specs.Reading.{IsFew}
use Rattle.blk_entry.proofs.KeyPlaces.{of_other, data_of_blocks, data_of_external, few_is_cut, short_is_cut, data_in_blocks, data_in_external}
use Rattle.blk_entry.proofs.data.read_data.Goals as goal

pub returns-then-is_of-clause-bytes : goal.returns-then-is_of-clause-bytes
returns-then-is_of-clause-bytes g c =
    let kind : kind_of c.args.addr ≡ external = eqb-true (kind_of c.args.addr) external (sym c.is_of.ensures ∙ c.if-is_of.true) in
    on_ok_weaker c.read.result
    (λ h image there. h image there ∙ ap (λ (n : ℕ). range_at (byte image (External (external_number c.args.addr))) n (length c.args.out.now)) c.from.ensures
    ∙ sym (data_of_external image c.args.addr c.args.at (length c.args.out.now) kind))
    c.read.ensures.bytes

pub returns-else-is_of-clause-bytes : goal.returns-else-is_of-clause-bytes
returns-else-is_of-clause-bytes g c =
    let block_kind : kind_of c.args.addr ≢ external = of_other (kind_of c.args.addr) external (sym c.is_of.ensures ∙ c.if-is_of.false) in
    on_ok_weaker c.read_block.result (λ h image there. h image there ∙ sym (data_of_blocks image c.args.addr c.args.at (length c.args.out.now) block_kind)) c.read_block.ensures.bytes

pub returns-then-is_of-clause-short : goal.returns-then-is_of-clause-short
returns-then-is_of-clause-short g c =
    let kind : kind_of c.args.addr ≡ external = eqb-true (kind_of c.args.addr) external (sym c.is_of.ensures ∙ c.if-is_of.true) in
    let small = c.requires.inside.small in
    if_damaged_weaker c.read.result _ _
    (λ damage few. few_is_cut (g.F.Folder.told c.args.folder.now) c.args.addr c.args.at (length c.args.out.now) damage kind (omega (arith, small))
    (subst (λ (i : ℕ). IsFew (g.F.Folder.told c.args.folder.now) (external_number c.args.addr) i (length c.args.out.now) damage) c.from.ensures few))
    c.read.ensures.few

pub returns-else-is_of-clause-short : goal.returns-else-is_of-clause-short
returns-else-is_of-clause-short g c =
    let block_kind : kind_of c.args.addr ≢ external = of_other (kind_of c.args.addr) external (sym c.is_of.ensures ∙ c.if-is_of.false) in
    if_damaged_weaker c.read_block.result _ _ (λ damage short. short_is_cut (g.F.Folder.told c.args.folder.now) c.args.addr c.args.at (length c.args.out.now) damage block_kind short) c.read_block.ensures.short

pub returns-then-is_of-clause-checked : goal.returns-then-is_of-clause-checked
returns-then-is_of-clause-checked g c =
    let kind : kind_of c.args.addr ≡ external = eqb-true (kind_of c.args.addr) external (sym c.is_of.ensures ∙ c.if-is_of.true) in
    on_ok_weaker c.read.result
    (λ h image there. data_in_external image c.args.addr c.args.at (length c.args.out.now) kind (subst (λ (i : ℕ). HasRange image (External (external_number c.args.addr)) i (length c.args.out.now) ⊎ (length c.args.out.now ≡ 0)) c.from.ensures (h image there)))
    c.read.ensures.checked

pub returns-else-is_of-clause-checked : goal.returns-else-is_of-clause-checked
returns-else-is_of-clause-checked g c =
    let block_kind : kind_of c.args.addr ≢ external = of_other (kind_of c.args.addr) external (sym c.is_of.ensures ∙ c.if-is_of.false) in
    on_ok_weaker c.read_block.result (λ h image there. data_in_blocks image c.args.addr c.args.at (length c.args.out.now) block_kind (h image there)) c.read_block.ensures.checked
