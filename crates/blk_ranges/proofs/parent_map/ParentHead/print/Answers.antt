use Rattle.std.proofs.Common.{ℕ, List, ◌++◌, ap, sym, ◌∙◌}
use Rattle.std.proofs.Common.{[], append-nil}
use Rattle.spec_image.specs.Bytes.{content}
use Rattle.spec_format.specs.Records.{bytes_of_words}
use Rattle.blk_ranges.specs.ParentMaps.{head_bytes, read_parent_head}
use Rattle.blk_ranges.proofs.HeadBytes.{written-words}
use Rattle.blk_ranges.proofs.ParentIndexes.{head-read, no-parts}
use Rattle.std.proofs.Common.{replicate}
use Rattle.spec_format.specs.SparseIndex.{read_parent_index}
use Rattle.blk_ranges.proofs.parent_map.ParentHead.print.Goals as goal

pub returns-clause-printed : goal.returns-clause-printed
unfolding head_bytes
returns-clause-printed c = c.write_u32_into.ensures ∙ written-words c.words.result ∙ ap bytes_of_words c.words.ensures

pub returns-clause-read_back : goal.returns-clause-read_back
returns-clause-read_back c =
    ap (λ (bs : List ℕ). read_parent_head (content bs)) (returns-clause-printed c ∙ sym (append-nil (head_bytes c.args.self.now))) ∙ head-read c.args.self.now [] c.requires

pub returns-clause-no_parts : goal.returns-clause-no_parts
returns-clause-no_parts c = ap (λ (bs : List ℕ). read_parent_index (bs ++ replicate 8192 0)) (returns-clause-printed c) ∙ no-parts c.args.self.now c.requires
