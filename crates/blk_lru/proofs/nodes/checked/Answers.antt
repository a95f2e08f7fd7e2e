use Rattle.blk_disk.specs.Tables.{is_node_among}
use Rattle.std.proofs.Common.{rules, ◌≡◌, ℕ, List, Option, false, sym, subst}
use Rattle.blk_lru.specs.declared.nodes.Links.{Links}
use Rattle.blk_lru.specs.Nodes.{list_among, FindsNode}
use Rattle.blk_lru.proofs.Flights.{node_there, none_there}
use Rattle.blk_lru.proofs.NodeRecords.{found_in, found_none}
use Rattle.blk_io.proofs.Carried.{carried}
use Rattle.blk_lru.specs.Damages.{IsShortNode}
use Rattle.blk_lru.proofs.FailedChecks.{short_node}
use Rattle.blk_lru.proofs.NodeWords.{node_kind, node_room, node_stands}
use Rattle.blk_lru.proofs.nodes.checked.Goals as goal

pub returns-in_default-clause-found : goal.returns-in_default-clause-found
returns-in_default-clause-found g c image there =
    let none : is_node_among c.args.files.now c.args.word ≡ false = search rules in
    found_none c.args.files.now image c.args.word none

pub returns-in_default-clause-checked : goal.returns-in_default-clause-checked
returns-in_default-clause-checked g c image there =
    let none : is_node_among c.args.files.now c.args.word ≡ false = search rules in
    none_there c.args.files.now image c.args.word none

pub returns-clause-checked : goal.returns-clause-checked
returns-clause-checked g c image there =
    let same : c.in-Some.node ≡ c.args.word = search rules in
    node_there c.args.files.now image c.in-Some.node c.args.word same (c.in_ok-read_block.ensures.checked image there)

pub read_block-requires-clause-stands : goal.read_block-requires-clause-stands
read_block-requires-clause-stands g c = node_stands c.args.files.now c.in-Some.node (search rules)

pub read_block-requires-clause-inside : goal.read_block-requires-clause-inside
read_block-requires-clause-inside g c = node_room c.in-Some.node (node_kind c.args.files.now c.in-Some.node (search rules))

pub returns-clause-found : goal.returns-clause-found
returns-clause-found g c image there =
    let node : ℕ = c.in-Some.node in
    let bytes : List ℕ = c.read_block.new.out in
    let same : c.in-Some.node ≡ c.args.word = search rules in
    let found = found_in c.args.files.now image node bytes (g.met.F.Folder.are_bytes c.args.folder.now image there) (search rules) (c.in_ok-read_block.ensures.bytes image there) in
    subst (λ (w : ℕ). FindsNode (list_among c.args.files.now image) w c.links_in.result) same
    (subst (λ (o : Option Links). FindsNode (list_among c.args.files.now image) node o) (sym c.links_in.ensures) found)

pub returns-in_err-read_block-clause-damaged : goal.returns-in_err-read_block-clause-damaged
returns-in_err-read_block-clause-damaged g c =
    carried c.read_block.result c.from_residual.result c.in_err-read_block.field-0.0 (IsShortNode c.args.files.now (g.F.Folder.told c.read_block.new.f)) c.in_err-read_block.was c.from_residual.ensures.1
    (short_node c.read_block.result c.args.files.now (g.F.Folder.told c.args.folder.now) (g.F.Folder.told c.read_block.new.f) c.in-Some.node (search rules) c.read_block.ensures.reads.stays c.read_block.ensures.short)
