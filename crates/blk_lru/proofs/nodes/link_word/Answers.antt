use Rattle.std.proofs.Common.{⊎_elim, ◌≡◌, ◌+◌, ◌≤◌, arith}
use Rattle.spec_format.specs.Address.{byte_size}
use Rattle.blk_lru.proofs.NodeWords.{node_kind, node_stands, node_room}
use Rattle.blk_lru.proofs.LinkReads.{read_link}
use Rattle.blk_lru.proofs.nodes.link_word.Goals as goal

pub read_block-requires-clause-stands : goal.read_block-requires-clause-stands
read_block-requires-clause-stands g c = node_stands c.args.files.now c.args.node c.requires.stands

pub read_block-requires-clause-inside : goal.read_block-requires-clause-inside
read_block-requires-clause-inside g c =
    let enough = node_room c.args.node (node_kind c.args.files.now c.args.node c.requires.stands) in
    ⊎_elim (λ (e : c.args.at ≡ 16). let h : c.args.at + 4 ≤ byte_size c.args.node = omega (arith, e, enough) in h) (λ (e : c.args.at ≡ 20). let h : c.args.at + 4 ≤ byte_size c.args.node = omega (arith, e, enough) in h) c.requires.place

pub returns-clause-word : goal.returns-clause-word
returns-clause-word g c image there = read_link image c.args.node c.args.at c.read_block.new.out c.from_le_bytes.result (c.in_ok-read_block.ensures.bytes image there) c.from_le_bytes.ensures
