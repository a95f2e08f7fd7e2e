-- What a scan keeps of the LRU list and of the chains.
use Rattle.std.specs.Prelude.{◌≡◌, ℕ, ◌<◌, Bool, true, false, ◌&&◌, ◌==◌, List, slice_get, if◌then◌else◌}
use Rattle.std.specs.Option.{option_and_then, option_map, option_map_or}
use Rattle.std.specs.declared.option.Option.{Option}
use Rattle.std.specs.declared.option.Option.TheVariants.{None, Some}
use Rattle.spec_image.specs.Image.{Image}
use Rattle.spec_format.specs.Address.{blocks_256, file_selector, first_block, is_address, kind_of, rankings}
use Rattle.spec_format.specs.BlockFiles.{is_among}
use Rattle.spec_format.specs.Claims.{BlockOf}
use Rattle.spec_format.specs.Headers.{table_length}
use Rattle.blk_addr.specs.Claims.{contains_claim}
use Rattle.blk_addr.specs.declared.claim_set.Claims.{Claims}
use Rattle.spec_folder.specs.ListImages.{completed_walk}
use Rattle.spec_format.specs.Records.{node_checks}
use Rattle.spec_folder.specs.View.{NodeFields, node_at, store_of}
use Rattle.blk_disk.specs.declared.tables.BlockFiles.{BlockFiles}
use Rattle.blk_audit.specs.Chaining.{AreBucketsOf, AreReached, HasBuckets, RecordsStand, reached_by, words_reached}
use Rattle.blk_audit.specs.Nodes.{AreNodesOf, loaded_node, node_of}
use Rattle.blk_audit.specs.Records.{AreRecordsOf}
use Rattle.blk_audit.specs.Walking.{AreMet, NodesStand, nodes_walked}
use Rattle.blk_audit.specs.declared.list_walk.Walked.{Walked}
use Rattle.blk_audit.specs.declared.named.WalkedNode.{WalkedNode}
use Rattle.blk_audit.specs.declared.nodes.Node.{Node}
use Rattle.blk_audit.specs.declared.nodes.Nodes.{Nodes}
use Rattle.blk_audit.specs.declared.scanning.Lists.{Lists}

-- the record and the dirty flag of a kept node
abbrev pub fields_by : Node → NodeFields
fields_by node = record { contents = node.contents; dirty = node.dirty }

-- the record and the dirty flag of the kept node that word w names, if there is one
abbrev pub fields_kept : Nodes → ℕ → Option NodeFields
fields_kept nodes w = option_map fields_by (loaded_node nodes w)

-- the record that a node names, if that word is the address of one
abbrev pub record_by : Node → Option ℕ
record_by node = if is_address node.contents && (kind_of node.contents == blocks_256) then Some node.contents else None

-- the record that the node at this place names, of a place and a node that may be None
abbrev pub record_of : Nodes → Option ℕ → Option ℕ
record_of nodes w = option_and_then (λ w. option_and_then record_by (node_of nodes w)) w

-- the first block of a record is among those that nodes name
abbrev pub is_claimed_first : Claims → ℕ → Bool
is_claimed_first named w = contains_claim named (BlockOf (file_selector w) (first_block w))

-- the first block of record w is among the named ones now, and so are those that were before
pub record IsMore (old new : Claims) (w : ℕ) : Type 0 where
  pub here : is_claimed_first new w ≡ true
  pub before : (v : ℕ) → is_claimed_first old v ≡ true → is_claimed_first new v ≡ true

-- the first blocks of all records that the first n walked nodes name are among the named ones
abbrev pub AreNamedUpTo : Nodes → List ℕ → Claims → ℕ → Type 0
AreNamedUpTo nodes walked named n = (i w : ℕ) → i < n → record_of nodes (slice_get walked i) ≡ Some w → is_claimed_first named w ≡ true

-- the first blocks of all records that walked nodes name are among the named ones
abbrev pub AreNamed : Nodes → List ℕ → Claims → Type 0
AreNamed nodes walked named = (i w : ℕ) → record_of nodes (slice_get walked i) ≡ Some w → is_claimed_first named w ≡ true

-- what a scan keeps of LRU list and chains is that of an image: the walked nodes, the reached records, and what they say
pub record AreListsOf (image : Image) (lists : Lists) : Type 0 where
  pub walked : nodes_walked lists.walked ≡ completed_walk image
  pub met : AreMet lists.walked
  pub reached : words_reached lists.reached ≡ reached_by (store_of image) table_length
  pub buckets : AreBucketsOf (store_of image) lists.reached
  pub known : AreReached lists.reached
  pub nodes : AreNodesOf image lists.nodes
  pub records : AreRecordsOf image lists.records
  pub named : AreNamed lists.nodes (nodes_walked lists.walked) lists.named

-- by the table the walked nodes and the reached records are valid, and the records are cut into all buckets
pub record AreListsAmong (files : BlockFiles) (lists : Lists) : Type 0 where
  pub nodes : NodesStand files (nodes_walked lists.walked)
  pub records : RecordsStand files (words_reached lists.reached)
  pub buckets : HasBuckets lists.reached

-- the image has at this node the record and the dirty flag that a scan keeps of it
abbrev pub IsSaidAt : Image → WalkedNode → Type 0
IsSaidAt image said = (store_of image).node_fields said.addr ≡ Some (record { contents = said.contents; dirty = said.dirty })

-- `said` is what a scan keeps of walked node i, whose checksum matches or is absent in the image
pub record IsWalkedNode (image : Image) (walked : Walked) (i : ℕ) (said : WalkedNode) : Type 0 where
  pub addr : slice_get (nodes_walked walked) i ≡ Some said.addr
  pub fields : IsSaidAt image said
  pub kind : kind_of said.addr ≡ rankings
  pub checks : node_checks (node_at image said.addr) ≡ true
  pub bare : said.bare ≡ ((node_at image said.addr).self_hash == 0)

-- in the image, the node is walked and names this record
abbrev pub is_named_by : Image → ℕ → ℕ → Bool
is_named_by image node entry = is_among (completed_walk image) node && option_map_or (λ node_fields. node_fields.contents == entry) ((store_of image).node_fields node) false
