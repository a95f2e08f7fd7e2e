use Rattle.blk_disk.specs.Tables.{is_node_among}
use Rattle.blk_disk.specs.Damages.{NamesNoNode}
use Rattle.std.proofs.Common.{rules, inr, ⊎_elim, ◌≡◌, ◌+◌, ◌*◌, ◌≤◌, ◌∙◌, sym, ap, ap₂, arith, ℕ, true, false}
use Rattle.spec_format.specs.Address.{place, byte_size}
use Rattle.blk_lru.specs.Nodes.{link_at}
use Rattle.blk_disk.proofs.Ranges.{name_is, stands_blocky}
use Rattle.blk_lru.proofs.NodeWords.{node_kind, node_stands, node_room, node_place}
use Rattle.blk_lru.proofs.LinkReads.{read_link, dangling_untold}
use Rattle.blk_io.specs.declared.folder.FileId.TheVariants as names
use Rattle.spec_format.specs.Address.{file_selector}
use Rattle.blk_lru.proofs.nodes.link.Given as given
use Rattle.blk_lru.proofs.nodes.link.Goals as goal

pub read_block-requires-clause-stands : goal.read_block-requires-clause-stands
read_block-requires-clause-stands g c = node_stands c.args.files.now c.args.node c.requires.stands

pub read_block-requires-clause-inside : goal.read_block-requires-clause-inside
read_block-requires-clause-inside g c =
    let enough = node_room c.args.node (node_kind c.args.files.now c.args.node c.requires.stands) in
    ⊎_elim (λ (e : c.args.at ≡ 16). let h : c.args.at + 4 ≤ byte_size c.args.node = omega (arith, e, enough) in h) (λ (e : c.args.at ≡ 20). let h : c.args.at + 4 ≤ byte_size c.args.node = omega (arith, e, enough) in h) c.requires.place

dangling_here : (g : given.Over) (c : goal.After-from-in_default g) → NamesNoNode c.args.files.now (g.F.Folder.told c.args.folder.now) (names.Block (file_selector c.args.node)) (place c.args.node + c.args.at) (record { file = c.file_of-file.result; at = 8192 + c.from.result * 36 + c.from-in_default.result; found = c.from_le_bytes-found.result })
dangling_here g c =
    let kind = node_kind c.args.files.now c.args.node c.requires.stands in
    record {
      of_file = name_is c.args.node c.file_of-file.result (stands_blocky c.args.files.now c.args.node (node_stands c.args.files.now c.args.node c.requires.stands)) c.file_of-file.ensures;
      at_place = ap₂ (λ (a b : ℕ). a + b) (node_place c.args.node c.from.result kind (c.from.ensures ∙ c.start.ensures)) c.from-in_default.ensures;
      unlike = search rules;
      there = λ image there. read_link image c.args.node c.args.at c.read_block.new.out c.from_le_bytes-found.result (c.in_ok-read_block.ensures.bytes image there) c.from_le_bytes-found.ensures;
    }

pub returns-in_default-clause-damaged : goal.returns-in_default-clause-damaged
returns-in_default-clause-damaged g c = inr (dangling_here g c)

pub returns-in_default-clause-untold : goal.returns-in_default-clause-untold
returns-in_default-clause-untold g c agrees named =
    let unlike : is_node_among c.args.files.now c.from_le_bytes-found.result ≡ false = search rules in
    dangling_untold (g.F.Folder.told c.args.folder.now).files (λ image. is_node_among c.args.files.now (link_at image c.args.node c.args.at) ≡ true)
    (λ image there names. clash (sym names ∙ ap (is_node_among c.args.files.now) (sym (read_link image c.args.node c.args.at c.read_block.new.out c.from_le_bytes-found.result (c.in_ok-read_block.ensures.bytes image there) c.from_le_bytes-found.ensures)) ∙ unlike))
    named
  where
    clash : true ≡ false → ⊥
    clash e = cc

pub returns-clause-word : goal.returns-clause-word
returns-clause-word g c image there =
    let same : c.in-Some.other ≡ c.from_le_bytes-found.result = search rules in
    same ∙ read_link image c.args.node c.args.at c.read_block.new.out c.from_le_bytes-found.result (c.in_ok-read_block.ensures.bytes image there) c.from_le_bytes-found.ensures
