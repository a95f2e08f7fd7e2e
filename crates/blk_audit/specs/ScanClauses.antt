-- Clauses of this crate's functions: what a read of many nodes or records adds to those that were read, and what is followed of the chains.
use Rattle.std.specs.Prelude.{ℕ, ◌≡◌, ◌≢◌, ◌+◌, ◌*◌, ◌++◌, ◌≤◌, [], List, MatchOption, None, Result, length, map}
use Rattle.std.specs.declared.option.Option.{Option}
use Rattle.std.specs.Option.{ForSome}
use Rattle.spec_image.specs.Bytes.{range_at}
use Rattle.spec_image.specs.Image.{AreBytes, Block, HasRange, Image, byte}
use Rattle.spec_image.specs.Told.{Told}
use Rattle.spec_format.specs.Address.{header_size}
use Rattle.spec_format.specs.Headers.{table_length}
use Rattle.spec_format.specs.Records.{node_size}
use Rattle.spec_folder.specs.Chains.{chain_from, most_records}
use Rattle.spec_folder.specs.ListPlans.{completion_writes}
use Rattle.spec_folder.specs.ListView.{after_writes}
use Rattle.spec_folder.specs.View.{list_of, store_of}
use Rattle.blk_disk.specs.declared.tables.BlockFiles.{BlockFiles}
use Rattle.blk_disk.specs.Tables.{Agrees}
use Rattle.blk_lru.specs.declared.writes.Write.{Write}
use Rattle.blk_lru.specs.Writes.{meant}
use Rattle.blk_audit.specs.declared.fault.ScanFault.{ScanFault}
use Rattle.blk_audit.specs.declared.list_walk.Link.{Link}
use Rattle.blk_audit.specs.declared.list_walk.Walked.{Walked}
use Rattle.blk_audit.specs.declared.named.WalkedNode.{WalkedNode}
use Rattle.blk_audit.specs.declared.nodes.Node.{Node}
use Rattle.blk_audit.specs.declared.nodes.Nodes.{Nodes}
use Rattle.blk_audit.specs.declared.reaching.Reached.{Reached}
use Rattle.blk_audit.specs.declared.record_files.Records.{Records}
use Rattle.blk_audit.specs.declared.scanning.Lists.{Lists}
use Rattle.blk_audit.specs.Chaining.{AreChainsThere, AreFirstReached, HasFirst, IsReach, IsStepTaken, reached_by, words_reached}
use Rattle.blk_audit.specs.Faults.{IfScanDamaged}
use Rattle.blk_audit.specs.Filled.{AreNodesFilled, CountStands}
use Rattle.blk_audit.specs.Filling.{nodes_from}
use Rattle.blk_audit.specs.Nodes.{AreNodesOf, list_in}
use Rattle.blk_audit.specs.Pieces.{record_block_size}
use Rattle.blk_audit.specs.ReadLists.{AreListsOf, IsWalkedNode}
use Rattle.blk_audit.specs.Records.{AreRecordsOf}
use Rattle.blk_audit.specs.Walking.{HasLruList, IsWalkStep, nodes_walked}

-- Nodes.

-- the file has so many nodes from a place on
abbrev pub HasNodesAt : (file place count : ℕ) → Image → Type 0
HasNodesAt file place count image = HasRange image (Block file) place (node_size * count)

-- so many nodes of the file, from a place on, were added
abbrev pub AddsNodesAt : (file place count : ℕ) → (old new : List Node) → Image → Type 0
AddsNodesAt file place count old new image = new ≡ old ++ nodes_from (byte image (Block file)) place count

-- the nodes of each other file that were those of the image still are
abbrev pub KeepsOthersFilled : BlockFiles → (file : ℕ) → (old new : Nodes) → Image → Type 0
KeepsOthersFilled files file old new image = (n : ℕ) → n ≢ file → AreNodesFilled files image old n → AreNodesFilled files image new n

-- the nodes of each other file that were as many as the table says still are
abbrev pub KeepsOthersCounted : BlockFiles → (file : ℕ) → (old new : Nodes) → Type 0
KeepsOthersCounted files file old new = (n : ℕ) → n ≢ file → CountStands files old n → CountStands files new n

-- Records.

-- the file has so many bytes from the first of these blocks on
abbrev pub HasRecordBytes : (file first count : ℕ) → Image → Type 0
HasRecordBytes file first count image = HasRange image (Block file) (header_size + first * record_block_size) count

-- with so many bytes that the file has from this block on, the records that are those of an image stay so
abbrev pub AddsRecordsAt : (file first count : ℕ) → (bytes : List ℕ) → (old new : Records) → Type 0
AddsRecordsAt file first count bytes old new =
    (image : Image) → AreBytes image → HasRange image (Block file) (header_size + first * record_block_size) count
    → bytes ≡ range_at (byte image (Block file)) (header_size + first * record_block_size) count → AreRecordsOf image old → AreRecordsOf image new

-- The walk.

-- P holds of each image that has these nodes and this head, and whose operation in flight is redone by these writes
abbrev pub ForRedo : Nodes → (head : ℕ) → List Write → (Image → Type 0) → Type 0
ForRedo nodes head writes P = (image : Image) → AreNodesOf image nodes → head ≡ (list_of image).head → map meant writes ≡ completion_writes (list_of image) → P image

-- the walk made a step at the link, in the list that these nodes are after these writes, whatever its head
abbrev pub WalksStep : Nodes → List Write → Link → (old new : Walked) → Option Link → Type 0
WalksStep nodes writes link old new next = (head : ℕ) → IsWalkStep (after_writes (map meant writes) (list_in nodes head)) old.nodes.items link new.nodes.items next

-- the answer for walked node i of each image with these lists: what they keep of it, or None where fewer were walked
abbrev pub FindsWalkedNode : Lists → (i : ℕ) → Option WalkedNode → Type 0
FindsWalkedNode lists i found = (image : Image) → AreListsOf image lists → MatchOption found (length (nodes_walked lists.walked) ≤ i) (IsWalkedNode image lists.walked i)

-- The chains.

-- where the table is that of the image, the records that the chain of the bucket reaches from a word on were added
abbrev pub AddsChainFrom : BlockFiles → (bucket start : ℕ) → (old new : Reached) → Image → Type 0
AddsChainFrom files bucket start old new image = Agrees files image → words_reached new ≡ words_reached old ++ (chain_from (store_of image) bucket most_records [] start).reached

-- where the table is that of the image, this is the word at which the chain of the bucket ends, from a word on
abbrev pub IsChainEnd : BlockFiles → (bucket start end : ℕ) → Image → Type 0
IsChainEnd files bucket start end image = Agrees files image → end ≡ (chain_from (store_of image) bucket most_records [] start).end

-- the outcome of one step along a chain, at this word: nothing was added, or its record was
abbrev pub TakesStep : BlockFiles → (word : ℕ) → (old new : Reached) → Option ℕ → Image → Type 0
TakesStep files word old new next image = IsStepTaken files image (words_reached old) word (words_reached new) next

-- where the table is that of the image, the step is that of the chain of the bucket
abbrev pub StepsAlong : BlockFiles → (bucket word : ℕ) → (old new : Reached) → Option ℕ → Image → Type 0
StepsAlong files bucket word old new next image = Agrees files image → IsReach (store_of image) bucket (words_reached old) word (words_reached new) next

-- the files have all bytes that the scan of the first n chains reads
abbrev pub HasFirstChains : BlockFiles → Reached → (n : ℕ) → Image → Type 0
HasFirstChains files reached n image = HasFirst files image (words_reached reached) n

-- where the table is that of the image, its first n chains were followed
abbrev pub FollowsFirst : BlockFiles → (n : ℕ) → Reached → Image → Type 0
FollowsFirst files n reached image = Agrees files image → AreFirstReached (store_of image) n reached

-- where the table is that of the image, the reached records are those of all its chains
abbrev pub ReachesAllChains : BlockFiles → Reached → Image → Type 0
ReachesAllChains files reached image = Agrees files image → words_reached reached ≡ reached_by (store_of image) table_length

-- the files have all bytes that the lists were read from
abbrev pub AreListsThere : BlockFiles → Lists → Image → Type 0
AreListsThere files lists image = HasLruList files image × AreChainsThere files image (words_reached lists.reached)

-- Failed checks.

-- where P holds of an observable folder, the answer is no failed check
abbrev pub ScanUndamagedWhere : {A : Type 0} → Result A ScanFault → Told → (Image → Type 0) → Type 0
ScanUndamagedWhere result told P = ForSome told.files P → IfScanDamaged result (λ _. told.files ≡ None)
