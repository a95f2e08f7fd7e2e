use Rattle.std.proofs.Common.{ℕ, List, ◌++◌, ap, ◌∙◌}
use Rattle.spec_format.specs.SparseIndex.{read_parent_index}
use Rattle.blk_ranges.proofs.ParentIndexes.{index-printed, parts-long, put-index}
use Rattle.std.proofs.Common.{drop}
use borrow.Rule.Slice.PartMut.{put_mid}
use Rattle.blk_ranges.proofs.HeadBytes.{written-words}
use Rattle.blk_ranges.proofs.parent_map.ParentMap.print.Goals as goal

pub returns-clause-printed : goal.returns-clause-printed
returns-clause-printed c =
    ap (λ (bs : List ℕ). put_mid 64 8192 (bs ++ drop 64 (drop 0 c.args.out.now)) c.copy_from_slice.new.self) (c.write_u32_into.ensures ∙ written-words c.words.result)
    ∙ put-index c.args.self.now c.words.result c.copy_from_slice.new.self c.args.out.now c.words.ensures c.copy_from_slice.ensures.after c.told-out

pub returns-clause-read_back : goal.returns-clause-read_back
returns-clause-read_back c = ap read_parent_index (returns-clause-printed c) ∙ index-printed c.args.self.now c.requires (parts-long c.args.self.now c.words.result c.write_u32_into.new.dst c.args.out.now c.copy_from_slice.new.self (c.write_u32_into.ensures ∙ written-words c.words.result) c.words.ensures c.told-out c.copy_from_slice.ensures.len c.copy_from_slice.ensures.after)
