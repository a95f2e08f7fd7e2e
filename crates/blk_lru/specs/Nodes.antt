-- Words that name nodes of the LRU list, and their links.
use Rattle.std.specs.Prelude.{ℕ, ◌≡◌, ◌⊎◌, ◌+◌, ◌==◌, List, true, false, ◌&&◌, if◌then◌else◌, Option, None, Some}
use Rattle.spec_image.specs.Bytes.{content, word_at}
use Rattle.spec_image.specs.Image.{Block, HasRange, Image, word}
use Rattle.spec_format.specs.Address.{file_selector, place}
use Rattle.spec_format.specs.Records.{checks, node_checks, node_seal_place, node_size}
use Rattle.blk_record.specs.declared.node.TheConstants.NodeView as NodeView
use Rattle.blk_disk.specs.declared.tables.BlockFiles.{BlockFiles}
use Rattle.blk_disk.specs.Tables.{is_node_among}
use Rattle.spec_folder.specs.ListView.{ListView}
use Rattle.spec_folder.specs.View.{list_of, node_at}
use Rattle.blk_lru.specs.declared.nodes.Links.{Links}

-- an offset is that of a link in a node: next or prev
abbrev pub IsLinkPlace : ℕ → Type 0
IsLinkPlace at = (at ≡ NodeView.NEXT) ⊎ (at ≡ NodeView.PREV)

-- the link of a node at this offset
abbrev pub link_at : Image → ℕ → ℕ → ℕ
link_at image node at = word image (Block (file_selector node)) (place node + at)

-- the node that the link names, or None where that is the node itself
abbrev pub other_node_at : Image → (node at : ℕ) → Option ℕ
other_node_at image node at = if link_at image node at == node then None else Some (link_at image node at)

-- the word is 0 or the address of a valid node, by the table
abbrev pub IsNodeOrNone : BlockFiles → ℕ → Type 0
IsNodeOrNone files w = (w ≡ 0) ⊎ (is_node_among files w ≡ true)

-- if w is the address of a valid node, its file has the node's bytes
abbrev pub HasNode : BlockFiles → Image → ℕ → Type 0
HasNode files image w = is_node_among files w ≡ true → HasRange image (Block (file_selector w)) (place w) node_size

-- the LRU list of an image, where only nodes that are valid by the table have links and pass their check
unfoldable pub list_among : BlockFiles → Image → ListView
list_among files image = record (list_of image) {
  checks = λ w. is_node_among files w && node_checks (node_at image w);
  next = λ w. if is_node_among files w then (node_at image w).next else 0;
  prev = λ w. if is_node_among files w then (node_at image w).prev else 0;
}

-- the node at address w passes its check, and `links` are its address and its links
pub record AreLinksOf (list : ListView) (w : ℕ) (links : Links) : Type 0 where
  pub node : links.node ≡ w
  pub good : list.checks w ≡ true
  pub next : links.next ≡ list.next w
  pub prev : links.prev ≡ list.prev w

-- the links of a node at this address that has these bytes, where its checksum matches or is absent
abbrev pub links_by : (node : ℕ) → (bytes : List ℕ) → Option Links
links_by node bytes = if checks node_seal_place bytes then Some (record { node = node; next = word_at (content bytes) NodeView.NEXT; prev = word_at (content bytes) NodeView.PREV }) else None

-- the answer for the node that word w names: its links where it is valid and passes its check, else None
abbrev pub FindsNode : ListView → ℕ → Option Links → Type 0
FindsNode list w None = list.checks w ≡ false
FindsNode list w (Some links) = AreLinksOf list w links
