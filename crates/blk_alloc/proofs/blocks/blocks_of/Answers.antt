use Rattle.std.proofs.Common.{◌≡◌, ℕ, sym, ◌∙◌, ap, arith}
use Rattle.spec_format.specs.Address.{file_selector, is_address}
use Rattle.spec_format.proofs.Words.{AreFields-of}
use Rattle.blk_addr.specs.declared.file_id.FileId.TheVariants.{Block}
use Rattle.blk_alloc.proofs.Addresses.{file_word, in_group, first_of, count_of}
use Rattle.blk_alloc.proofs.blocks.blocks_of.Goals as goal

pub unreachable-requires : goal.unreachable-requires
unreachable-requires c = c.in_default.not-Block (file_selector c.args.addr) (c.file.ensures ∙ file_word c.args.addr c.requires)

same_block : (m n : ℕ) → Block m ≡ Block n → m ≡ n
same_block m n e = cc

pub returns-clause-file : goal.returns-clause-file
returns-clause-file c = same_block c.in-Block.file (file_selector c.args.addr) (sym c.in-Block.is ∙ c.file.ensures ∙ file_word c.args.addr c.requires)

pub returns-clause-some : goal.returns-clause-some
returns-clause-some c = let count = count_of c.args.addr c.blocks-2.result c.requires c.blocks-2.ensures in let fields = AreFields-of c.args.addr in let some = fields.some in omega (arith, count, some)

pub returns-clause-group : goal.returns-clause-group
returns-clause-group c =
    let count = count_of c.args.addr c.blocks-2.result c.requires c.blocks-2.ensures in
    let first = first_of c.args.addr c.start.result c.requires c.start.ensures in
    let group = in_group c.args.addr (ap is_address (sym c.word-word.ensures.word) ∙ c.word-word.ensures.address) c.requires in
    omega (arith, count, first, group)

pub returns-clause-small : goal.returns-clause-small
returns-clause-small c =
    let count = count_of c.args.addr c.blocks-2.result c.requires c.blocks-2.ensures in
    let first = first_of c.args.addr c.start.result c.requires c.start.ensures in
    let group = in_group c.args.addr (ap is_address (sym c.word-word.ensures.word) ∙ c.word-word.ensures.address) c.requires in
    let fields = AreFields-of c.args.addr in
    let small = fields.start in
    omega (arith, count, first, group, small)
