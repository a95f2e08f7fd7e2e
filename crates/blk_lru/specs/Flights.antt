-- The bytes that the redo of the operation in flight reads are in their files.
use Rattle.std.specs.Prelude.{ℕ, ◌≡◌, ◌⊎◌, true}
use Rattle.spec_image.specs.Image.{HasRange, Image, Index}
use Rattle.spec_folder.specs.ListView.{ListView}
use Rattle.spec_folder.specs.Completion.{head_counts, insert, move, remove}
use Rattle.blk_record.specs.declared.index_head.TheConstants.IndexHead as IndexHead
use Rattle.blk_disk.specs.declared.tables.BlockFiles.{BlockFiles}
use Rattle.blk_lru.specs.Nodes.{HasNode, list_among}

-- the index has the word of the head, and the file has the bytes of the node that it names
pub record HasHead (files : BlockFiles) (image : Image) : Type 0 where
  pub word : HasRange image Index IndexHead.HEADS 4
  pub node : HasNode files image (list_among files image).head

-- the files have the bytes of the nodes that the links of this node name: its next, and its prev if the next one passes its check
pub record HasNeighbours (files : BlockFiles) (image : Image) (node : ℕ) : Type 0 where
  pub next : HasNode files image ((list_among files image).next node)
  pub prev : (list_among files image).checks ((list_among files image).next node) ≡ true → HasNode files image ((list_among files image).prev node)

-- the operation in flight, an insert or a move, uses the head
abbrev pub GoesByHead : ListView → Type 0
GoesByHead list = (list.operation ≡ insert) ⊎ (list.operation ≡ move)

-- the operation in flight, a removal, or a move for which the head may be used, uses the links of its node
abbrev pub GoesByLinks : ListView → Type 0
GoesByLinks list = (list.operation ≡ remove) ⊎ ((list.operation ≡ move) × (head_counts list ≡ true))

-- the files have the bytes of all that the operation in flight uses
pub record HasOperands (files : BlockFiles) (image : Image) : Type 0 where
  pub head : GoesByHead (list_among files image) → HasHead files image
  pub links : GoesByLinks (list_among files image) → HasNeighbours files image (list_among files image).transaction

-- the index has the code of the operation in flight, and the files have the bytes of all that it uses
pub record HasOperation (files : BlockFiles) (image : Image) : Type 0 where
  pub word : HasRange image Index IndexHead.OPERATION 4
  pub operands : HasOperands files image

-- the file has the bytes of the node in flight, and if its checksum matches or is absent, all that the operation uses is there
pub record HasNodeInFlight (files : BlockFiles) (image : Image) : Type 0 where
  pub node : HasNode files image (list_among files image).transaction
  pub operation : (list_among files image).checks (list_among files image).transaction ≡ true → HasOperation files image

-- the files have all bytes that the redo reads: the word of the node in flight, and what follows from it
pub record HasFlight (files : BlockFiles) (image : Image) : Type 0 where
  pub word : HasRange image Index IndexHead.TRANSACTION 4
  pub in_flight : HasNodeInFlight files image
