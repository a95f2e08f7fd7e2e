use Rattle.blk_disk.specs.Tables.{is_node_among}
use Rattle.std.proofs.Common.{rules, ⊎_elim, ◌≡◌, ◌∙◌, sym, ap, true, false}
use Rattle.spec_image.specs.Image.{Index, word}
use Rattle.blk_lru.specs.Nodes.{IsNodeOrNone}
use Rattle.blk_lru.proofs.LinkReads.{dangling_untold}
use Rattle.blk_lru.proofs.reading.end_of_list.Goals as goal

pub returns-in_default-clause-untold : goal.returns-in_default-clause-untold
returns-in_default-clause-untold g c index named =
    let unlike : is_node_among c.args.files.now c.in_ok-found.found ≡ false = search rules in
    dangling_untold (g.F.Folder.told c.args.folder.now).files (λ image. IsNodeOrNone c.args.files.now (word image Index c.args.at))
    (λ image there names.
    let same : c.in_ok-found.found ≡ word image Index c.args.at = c.in_ok-found.ensures.word image there in
    ⊎_elim (λ (zero : word image Index c.args.at ≡ 0). c.if-found-eq0.false (same ∙ zero)) (λ (is : is_node_among c.args.files.now (word image Index c.args.at) ≡ true). clash (sym is ∙ ap (is_node_among c.args.files.now) (sym same) ∙ unlike)) names)
    named
  where
    clash : true ≡ false → ⊥
    clash e = cc
