use Rattle.std.proofs.Common.{rules}
use Rattle.std.proofs.lemmas.Fn.{filter_same}
use Rattle.blk_io.proofs.FileLists.{filter_is}
use Rattle.blk_io.proofs.mem_files.remove.Goals as goal

pub returns : goal.returns
returns c = filter_is _ _ _ (filter_same _ _ _ (λ x b f' h. (search rules, search rules)) _ _ c.retain.ensures.filtered)
