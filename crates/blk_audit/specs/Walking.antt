-- The walk of the LRU list, step by step.
use Rattle.std.specs.Prelude.{ℕ, suc, ◌≡◌, All, Bool, true, false, List, [], ◌∷◌, ◌++◌}
use Rattle.std.specs.declared.option.Option.{Option}
use Rattle.std.specs.declared.option.Option.TheVariants.{None, Some}
use Rattle.spec_image.specs.Image.{HasRange, Image, Index}
use Rattle.blk_addr.specs.Claims.{IsClaimsOf}
use Rattle.spec_format.specs.Address.{is_address, kind_of, rankings}
use Rattle.spec_format.specs.BlockFiles.{is_among}
use Rattle.spec_folder.specs.ListView.{ListView}
use Rattle.spec_folder.specs.Walk.{walk_from}
use Rattle.blk_record.specs.declared.index_head.TheConstants.IndexHead as IndexHead
use Rattle.blk_disk.specs.declared.tables.BlockFiles.{BlockFiles}
use Rattle.blk_disk.specs.Tables.{is_node_among}
use Rattle.blk_lru.specs.Flights.{HasFlight}
use Rattle.blk_audit.specs.declared.list_walk.Walked.{Walked}
use Rattle.blk_audit.specs.declared.list_walk.Link.{Link}
use Rattle.blk_audit.specs.declared.list_walk.Standing.{Standing}
use Rattle.blk_audit.specs.declared.nodes.Nodes.{Nodes}
use Rattle.blk_audit.specs.Nodes.{HasNodes, loaded_node}

-- the nodes that were walked so far, in order
abbrev pub nodes_walked : Walked → List ℕ
nodes_walked walk = walk.nodes.items

-- the words are addresses of valid nodes
abbrev pub NodesStand : BlockFiles → List ℕ → Type 0
NodesStand files words = All (λ w. is_node_among files w ≡ true) words

-- w is an address, and one of a node by its kind
pub record IsNodeWord (w : ℕ) : Type 0 where
  pub address : is_address w ≡ true
  pub kind : kind_of w ≡ rankings

-- invariant of a walk: its set of nodes that were met has exactly the walked ones
pub record AreMet (walk : Walked) : Type 0 where
  pub claims : IsClaimsOf walk.met walk.nodes.items
  pub nodes : (w : ℕ) → is_among walk.nodes.items w ≡ true → IsNodeWord w

-- one step of a walk, at the link's word: it ends there, and nothing more is walked; or it walks the node of the word and goes on at `next`
abbrev pub IsWalkStep : ListView → List ℕ → Link → List ℕ → Option Link → Type 0
IsWalkStep list old link new None = (most : ℕ) → new ≡ old ++ walk_from list.checks list.next list.prev (suc most) old link.before link.word
IsWalkStep list old link new (Some next) =
    (new ≡ old ++ link.word ∷ [])
    × ((most : ℕ) → walk_from list.checks list.next list.prev (suc most) old link.before link.word ≡ link.word ∷ walk_from list.checks list.next list.prev most new next.before next.word)

-- `found` is the kept node at address w
pub record IsStanding (nodes : Nodes) (w : ℕ) (found : Standing) : Type 0 where
  pub addr : found.addr ≡ w
  pub node : loaded_node nodes w ≡ Some found.node
  pub is : IsNodeWord w

-- the node was added to the list (true), or it was in it already and nothing has changed
abbrev pub IsAdded : List ℕ → ℕ → List ℕ → Bool → Type 0
IsAdded old node new true = (is_among old node ≡ false) × (new ≡ old ++ node ∷ [])
IsAdded old node new false = (is_among old node ≡ true) × (new ≡ old)

-- the files have the bytes of what a walk reads beside nodes: the head, and what the redo of the operation in flight reads
pub record HasEnds (files : BlockFiles) (image : Image) : Type 0 where
  pub head : HasRange image Index IndexHead.HEADS 4
  pub flight : HasFlight files image

-- the files have all bytes that a walk of the LRU list reads
pub record HasLruList (files : BlockFiles) (image : Image) : Type 0 where
  pub nodes : HasNodes files image
  pub ends : HasEnds files image
