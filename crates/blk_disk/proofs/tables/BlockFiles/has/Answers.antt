use Rattle.std.proofs.Common.{◌≡◌, sym, ◌∙◌, rules}
use Rattle.std.specs.List.{list_any}
use Rattle.std.proofs.lemmas.Iterator.{YieldsList-from_slice}
use Rattle.std.proofs.lemmas.Iterator.Search.{any_from_yields_List}
use Rattle.blk_addr.specs.Kind.{kind_number}
use Rattle.spec_format.specs.BlockFiles.{is_among}
use Rattle.blk_disk.specs.Tables.{files_of}
use Rattle.blk_disk.proofs.Among.{all_kinds_among, kinds}
use Rattle.blk_disk.proofs.tables.BlockFiles.has.Goals as goal

pub returns : goal.returns
returns c =
    let any : c.any.result ≡ list_any (λ k. is_among (files_of c.args.self.now (kind_number k)) c.args.file) kinds =
    any_from_yields_List (λ k. is_among (files_of c.args.self.now (kind_number k)) c.args.file) _ _ c.any.result c.any.ensures.ran (YieldsList-from_slice kinds c.iter.ensures.rest) (λ x b q k. search rules) in
    any ∙ sym (all_kinds_among c.args.self.now c.args.file)
