use Rattle.std.proofs.Common.{◌≡◌, false, true, sym, ◌∙◌}
use Rattle.blk_disk.proofs.Ranges.{stands_agree, stands_blocky}
use Rattle.blk_disk.proofs.Standings.{names_blocks, names_external, no_blocks}
use Rattle.blk_disk.proofs.tables.BlockFiles.stands.Goals as goal

clash : false ≡ true → ⊥
clash h = cc

pub returns-in_default : goal.returns-in_default
returns-in_default c =
    let among = no_blocks c.args.self.now c.args.addr (names_external c.args.addr c.file.result c.file.ensures c.in_default.not-Block) in
    record { among = among; block_kind = λ holds. absurd (clash holds); in_folder = λ image agrees. among ∙ stands_agree c.args.self.now image c.args.addr agrees }

pub stands_in-requires : goal.stands_in-requires
stands_in-requires c = let is = names_blocks c.args.addr c.in-Block.file c.in-Block.ensures in record { blocks = is.0; file = is.1 }

pub returns-clause-in_folder : goal.returns-clause-in_folder
returns-clause-in_folder c image agrees = c.stands_in.ensures ∙ stands_agree c.args.self.now image c.args.addr agrees

pub returns-clause-block_kind : goal.returns-clause-block_kind
returns-clause-block_kind c holds = stands_blocky c.args.self.now c.args.addr (sym c.stands_in.ensures ∙ holds)
