use Rattle.std.proofs.Common.{◌≡◌, ◌-◌, ◌*◌, ℕ, List, true, length, take, drop, rules, sym, ◌∙◌, ap, arith}
use Rattle.std.proofs.lemmas.List.{with_items_is}
use Rattle.spec_image.specs.Bytes.{spliced}
use Rattle.spec_image.proofs.Splices.{length-spliced}
use Rattle.spec_image.specs.Image.{same_file}
use Rattle.blk_io.specs.FileNames.{file_of}
use Rattle.blk_window.proofs.Overwriting.{overwrites, cut_off, slot_of, reaches_by}
use Rattle.blk_window.proofs.page.Page.write.Goals as goal

pub returns-then-not-reaches : goal.returns-then-not-reaches
returns-then-not-reaches c =
    let p = c.args.self.now in
    let same : same_file (file_of p.tag.file) (file_of c.args.file) ≡ true = search rules in
    cut_off p.tag.is_held (file_of p.tag.file) (file_of c.args.file) p.tag.number c.args.at (take p.tag.count p.bytes.items) c.args.bytes.now same (λ page there. sym c.if-not-reaches.true ∙ reaches_by p.tag.is_held (file_of p.tag.file) p.tag.number p.tag.count c.args.at (length c.args.bytes.now) p.bytes.items c.reaches.result p.whole p.tag.within c.reaches.ensures page there)

pub returns : goal.returns
returns c =
    let p = c.args.self.now in
    let same : same_file (file_of p.tag.file) (file_of c.args.file) ≡ true = search rules in
    let from : c.saturating_sub.result ≡ c.args.at - 4096 * p.tag.number = omega (arith, c.saturating_sub.ensures) in
    let skipped : c.saturating_sub-2.result ≡ 4096 * p.tag.number - c.args.at = omega (arith, c.saturating_sub-2.ensures) in
    let whole : length c.copy_inside.new.bytes ≡ p.bytes.len = ap length c.copy_inside.ensures ∙ length-spliced c.saturating_sub.result c.behind.result.now c.deref_mut.result.now ∙ ap length c.deref_mut.ensures.value ∙ sym p.bytes.ok.0 in
    ap (λ (l : List ℕ). slot_of p.tag.is_held (file_of p.tag.file) p.tag.number (take p.tag.count l)) (with_items_is p.bytes c.copy_inside.new.bytes whole)
    ∙ overwrites p.tag.is_held (file_of p.tag.file) (file_of c.args.file) p.tag.number p.tag.count c.args.at p.bytes.items c.args.bytes.now c.copy_inside.new.bytes same (λ page there. sym c.if-not-reaches.false ∙ reaches_by p.tag.is_held (file_of p.tag.file) p.tag.number p.tag.count c.args.at (length c.args.bytes.now) p.bytes.items c.reaches.result p.whole p.tag.within c.reaches.ensures page there)
    (c.copy_inside.ensures ∙ ap (λ (l : List ℕ). spliced c.saturating_sub.result l c.deref_mut.result.now) (c.behind.ensures ∙ ap (λ (n : ℕ). drop n c.args.bytes.now) skipped)
    ∙ ap (λ (n : ℕ). spliced n (drop (4096 * p.tag.number - c.args.at) c.args.bytes.now) c.deref_mut.result.now) from
    ∙ ap (λ (l : List ℕ). spliced (c.args.at - 4096 * p.tag.number) (drop (4096 * p.tag.number - c.args.at) c.args.bytes.now) l) c.deref_mut.ensures.value)
